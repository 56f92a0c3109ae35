-- The machine of two ends over a network: what each event is answered, and what it leaves.
use Rattle.std.specs.Prelude.{ℕ, ◌≡◌, ◌≢◌, ◌⊎◌, Bool, true, false, List, [], ◌∷◌, ◌++◌, slice_get, Option, Some, None, Ok, Err}
use Rattle.std.specs.Option.{option_to_list}
use Rattle.quic_wire_core.specs.declared.stream_id.Side.{Side}
use Rattle.quic_wire_core.specs.declared.stream_id.Side.TheVariants.{Client, Server}
use Rattle.quic_wire_core.specs.StreamId.{other_side}
use Rattle.quic_machine.specs.Arrival.{Arrival, delivered_by, injected_by}
use Rattle.quic_machine.specs.declared.answers.State.{State}
use Rattle.quic_machine.specs.declared.answers.State.TheVariants as states
use Rattle.quic_machine.specs.declared.answers.DropReason.TheVariants as drops
use Rattle.quic_machine.specs.declared.answers.Received.{Received}
use Rattle.quic_machine.specs.declared.answers.Received.TheVariants as receives
use Rattle.quic_machine.specs.declared.run.RunEvent.{RunEvent}
use Rattle.quic_machine.specs.declared.run.Call.{Call}
use Rattle.quic_machine.specs.declared.run.Delivery.{Delivery}
use Rattle.quic_machine.specs.declared.run.Injection.{Injection}
use Rattle.quic_machine.specs.declared.run.Call.TheVariants as calls
use Rattle.quic_machine.specs.declared.run.Answer.{Answer}
use Rattle.quic_machine.specs.declared.run.Answer.TheVariants as answers
use Rattle.quic_machine.specs.declared.run.EndView.{EndView}
use Rattle.quic_machine.specs.declared.run.View.{View}
use Rattle.quic_congestion.specs.Congestion.{Told}
use Rattle.quic_congestion.specs.Pacer.{Pacing}
use Rattle.quic_machine.specs.Parts.{current_mtu}
use Rattle.quic_machine.specs.Policy.{Policy}
use Rattle.quic_machine.specs.End.{End, streams_at, with_streams, with_window}
use Rattle.quic_machine.specs.Control.{Control, after_told, with_pacing}
use Rattle.quic_machine.specs.Migration.{is_there, has_moved, pacing_moved}
use Rattle.quic_machine.specs.Heard.{Heard, is_key_limit, is_last, heard_datagram, heard_given}
use Rattle.quic_machine.specs.Validation.{is_blocked, with_blocked}
use Rattle.quic_time.specs.Timers.{no_timers, timer_at, each_timer, next_timer}
use Rattle.quic_machine.specs.Opens.{would_open}
use Rattle.quic_machine.specs.Timeouts.{timed_out, told_timed_out}
use Rattle.quic_machine.specs.Calls.{is_open, end_tells, end_after_event, end_after_ping, end_after_close}
use Rattle.quic_machine.specs.StreamCalls.{IsStreamAnswer, after_on_streams}
use Rattle.quic_machine.specs.MessageCalls.{IsMessageAnswer, end_on_messages}
use Rattle.quic_machine.specs.IdFrames.{IsNextIdAnswer, end_on_next_id}
use Rattle.quic_machine.specs.Handshake.{done_answer, end_on_done}
use Rattle.quic_machine.specs.Receive.{received, told_received}
use Rattle.quic_machine.specs.Poll.{polled, told_polled}
use Rattle.quic_machine.specs.Lacking.{LacksWhere}

-- ---- one call at one end; `theirs` are the datagrams that the other end gave

-- whether an answer says that the last packet came that may not open: which one that is follows
-- from what an end has counted (`CountsOpenings`)
abbrev pub says_last : Answer → Bool
says_last (answers.Deliver (receives.Closed error)) = is_key_limit error
says_last (answers.Inject (receives.Closed error)) = is_key_limit error
says_last a = false

-- what a delivery is answered: no call is made where there is no such datagram
abbrev pub IsDelivered : Policy → End → Delivery → Option (List ℕ) → Answer → Type 0
IsDelivered p e delivery None a = a ≡ answers.NoDatagram
IsDelivered p e delivery (Some d) a = (a ≡ answers.Deliver (received p e (delivered_by (says_last a) delivery) d).answer) ⊎ (a ≡ answers.Deliver receives.Failed)

-- what an injection is answered: no call is made where it opens
abbrev pub injected_if : Bool → Bool → Policy → End → Injection → Answer
injected_if true is_last p e injection = answers.Opens
injected_if false is_last p e injection = answers.Inject (received p e (injected_by is_last injection) injection.bytes).answer

-- what a call on streams may be answered
abbrev pub AnswersOnStreams : End → Call → Answer → Type 0
AnswersOnStreams e call a = IsStreamAnswer (is_open e.closing.state) e.streams call a

-- the end that it leaves: with other streams alone
abbrev pub end_on_streams : End → Call → Answer → End
end_on_streams e call a = with_streams e (after_on_streams (is_open e.closing.state) (streams_at e) call a)

-- what a call may be answered: what the machine says, or that memory lacks (where it may:
-- `LacksWhere`)
abbrev pub IsAnswer : Policy → End → List (List ℕ) → Call → Answer → Type 0
IsAnswer p e theirs (calls.Send message makes_room) a = IsMessageAnswer e (calls.Send message makes_room) a
IsAnswer p e theirs calls.Recv a = IsMessageAnswer e calls.Recv a
IsAnswer p e theirs calls.Ping a = a ≡ answers.Ping
IsAnswer p e theirs (calls.Close close) a = a ≡ answers.Close
IsAnswer p e theirs calls.UseNextId a = IsNextIdAnswer e a
IsAnswer p e theirs calls.HandshakeDone a = a ≡ answers.HandshakeDone (done_answer e)
IsAnswer p e theirs (calls.Poll now) a = (a ≡ answers.Poll (polled p e now).answer) ⊎ (a ≡ answers.Poll (Err (record {})))
IsAnswer p e theirs (calls.Timeout now) a = (a ≡ answers.Timeout (timed_out p e now).answer) ⊎ (a ≡ answers.Timeout (Err (record {})))
IsAnswer p e theirs (calls.Deliver delivery) a = IsDelivered p e delivery (slice_get theirs delivery.index) a
IsAnswer p e theirs (calls.Inject injection) a = a ≡ injected_if (would_open p e injection.remote injection.bytes) (says_last a) p e injection
IsAnswer p e theirs calls.Event a = a ≡ answers.Event (end_tells e)
IsAnswer p e theirs (calls.Timer timer) a = a ≡ answers.Timer (timer_at timer e.timers)
IsAnswer p e theirs calls.NextTimeout a = a ≡ answers.NextTimeout (next_timer e.timers)
IsAnswer p e theirs calls.State a = a ≡ answers.State e.closing.state e.path.validated
IsAnswer p e theirs call a = AnswersOnStreams e call a

-- the end after a delivery
abbrev pub after_delivered : Policy → End → Arrival → Option (List ℕ) → End
after_delivered p e arrival None = e
after_delivered p e arrival (Some d) = (received p e arrival d).end

-- the end after an injection
abbrev pub after_injected_if : Bool → Bool → Policy → End → Injection → End
after_injected_if true is_last p e injection = e
after_injected_if false is_last p e injection = (received p e (injected_by is_last injection) injection.bytes).end

-- what a call leaves, by its answer, where memory served
abbrev pub after_call : Policy → End → List (List ℕ) → Call → Answer → End
after_call p e theirs (calls.Send message makes_room) a = end_on_messages e (calls.Send message makes_room) a
after_call p e theirs calls.Recv a = end_on_messages e calls.Recv a
after_call p e theirs calls.Ping a = end_after_ping e
after_call p e theirs (calls.Close close) a = end_after_close close.now close.error_code close.reason e
after_call p e theirs calls.UseNextId a = end_on_next_id e a
after_call p e theirs calls.HandshakeDone a = end_on_done e a
after_call p e theirs (calls.Poll now) a = (polled p e now).end
after_call p e theirs (calls.Timeout now) a = (timed_out p e now).end
after_call p e theirs (calls.Deliver delivery) a = after_delivered p e (delivered_by (says_last a) delivery) (slice_get theirs delivery.index)
after_call p e theirs (calls.Inject injection) a = after_injected_if (would_open p e injection.remote injection.bytes) (says_last a) p e injection
after_call p e theirs calls.Event a = end_after_event e
after_call p e theirs (calls.Timer timer) a = e
after_call p e theirs calls.NextTimeout a = e
after_call p e theirs calls.State a = e
after_call p e theirs call a = end_on_streams e call a

-- what the controller is told of a delivery
abbrev pub told_delivered : Policy → End → Arrival → Option (List ℕ) → List Told
told_delivered p e arrival None = []
told_delivered p e arrival (Some d) = told_received p e arrival d

-- what the controller is told of a call, where memory served (RFC 9002, section 7): an injection
-- that is made tells nothing, since it doesn't open
abbrev pub tells : Policy → End → List (List ℕ) → Call → List Told
tells p e theirs (calls.Poll now) = told_polled p e now
tells p e theirs (calls.Timeout now) = told_timed_out e now
tells p e theirs (calls.Deliver delivery) = told_delivered p e (delivered_by false delivery) (slice_get theirs delivery.index)
tells p e theirs call = []

-- the datagrams that a call gives
abbrev pub gives : Policy → End → Call → Answer → List (List ℕ)
gives p e (calls.Poll now) (answers.Poll (Ok (Some transmit))) = option_to_list (polled p e now).datagram
gives p e call a = []

-- a poll, a timeout or a delivery lacked memory, and the end fails; or a poll or a timeout came to
-- an end that had failed
abbrev pub fails : Answer → Bool
fails (answers.Poll (Err failed)) = true
fails (answers.Timeout (Err failed)) = true
fails (answers.Deliver receives.Failed) = true
fails a = false

-- an end fails at a call, and has no timer then; or it had failed before, and nothing has changed
abbrev pub HasStopped : End → End → Type 0
HasStopped e next = (next.closing.state ≡ states.Failed) × (next.closing.reason ≡ None) × (e.closing.state ≡ states.Failed → next ≡ e) × (e.closing.state ≢ states.Failed → next.timers ≡ no_timers)

-- an end to which a call comes: a poll reads which window its controller shows, and whether three
-- times what came went to an address that isn't validated
abbrev pub reads_window : Control → Heard → Call → End → End
reads_window control heard (calls.Poll now) e = with_blocked (with_window e (control [])) (is_blocked e heard)
reads_window control heard call e = e

-- the pacer that a call leaves, behind which the controller has this window: that of a path that a
-- delivery made is made for it
abbrev pub pacing_left : ℕ → Call → End → End → Pacing
pacing_left window (calls.Deliver delivery) before after = pacing_moved (has_moved before after) window after
pacing_left window call before after = after.path.pacing

-- the end that a call leaves
abbrev pub end_left : Policy → Control → Heard → End → List (List ℕ) → Call → Answer → End
end_left p control heard e theirs call a =
    let met = reads_window control heard call e in
    let left = after_call p met theirs call a in
    with_pacing left (pacing_left (control (tells p met theirs call)) call met left)

-- what a call may leave: of an end that fails it is said only that it has stopped
abbrev pub IsLeft : Bool → Policy → Control → Heard → End → List (List ℕ) → Call → Answer → End → Type 0
IsLeft true p control heard e theirs call a next = HasStopped e next
IsLeft false p control heard e theirs call a next = next ≡ end_left p control heard e theirs call a

-- the controller that a call leaves: of an end that fails nothing is said
abbrev pub IsTold : Bool → Policy → Control → Heard → End → List (List ℕ) → Call → Control → Type 0
IsTold true p control heard e theirs call next = Unit {0}
IsTold false p control heard e theirs call next = next ≡ after_told control (tells p (reads_window control heard call e) theirs call)

-- what an end has counted behind a delivery from an address: as much as before, where there is no
-- such datagram
abbrev pub heard_delivery : End → End → ℕ → Option (List ℕ) → Received → Heard → Heard
heard_delivery before after remote None a h = h
heard_delivery before after remote (Some d) a h = heard_datagram (is_there remote before) (has_moved before after) d a h

-- what an end has counted behind a call that was answered so and left another: what comes counts for
-- its path, whatever is made of it, and so does what is given
abbrev pub heard_by : End → End → List (List ℕ) → Call → Answer → Heard → Heard
heard_by before after theirs (calls.Poll now) (answers.Poll (Ok given)) h = heard_given given h
heard_by before after theirs (calls.Deliver delivery) (answers.Deliver a) h = heard_delivery before after delivery.remote (slice_get theirs delivery.index) a h
heard_by before after theirs (calls.Inject injection) (answers.Inject a) h = heard_datagram (is_there injection.remote before) false injection.bytes a h
heard_by before after theirs call a h = h

-- what a call leaves counted: of an end that fails nothing is said
abbrev pub IsHeard : Bool → End → End → List (List ℕ) → Call → Answer → Heard → Heard → Type 0
IsHeard true before after theirs call a h next = Unit {0}
IsHeard false before after theirs call a h next = next ≡ heard_by before after theirs call a h

-- An open end closes for packets that didn't open exactly at the last that its peer's key may
-- refuse, by what it has counted (RFC 9001, section 6.6).
abbrev pub CountsReceived : ℕ → Heard → Received → Type 0
CountsReceived limit h (receives.Dropped drops.NotOpened) = is_last limit h ≡ false
CountsReceived limit h (receives.Closed error) = is_key_limit error ≡ true → is_last limit h ≡ true
CountsReceived limit h a = Unit {0}

-- so it is at an open end; others drop what doesn't open, whatever they have counted
abbrev pub CountsIn : State → ℕ → Heard → Received → Type 0
CountsIn states.Open limit h a = CountsReceived limit h a
CountsIn states.Closing limit h a = Unit {0}
CountsIn states.Drained limit h a = Unit {0}
CountsIn states.Failed limit h a = Unit {0}

-- so it is of the answers of calls that hand bytes in
abbrev pub CountsOpenings : ℕ → State → Heard → Answer → Type 0
CountsOpenings limit state h (answers.Deliver a) = CountsIn state limit h a
CountsOpenings limit state h (answers.Inject a) = CountsIn state limit h a
CountsOpenings limit state h a = Unit {0}

-- ---- two ends

-- both ends, the datagrams that each has given, in their order, the controller of each, and what
-- each has counted
pub record World : Type 0 where
  pub client : End
  pub server : End
  pub from_client : List (List ℕ)
  pub from_server : List (List ℕ)
  pub client_control : Control
  pub server_control : Control
  pub client_heard : Heard
  pub server_heard : Heard

-- what the keys and the random sources of both ends do
pub record Policies : Type 0 where
  pub client : Policy
  pub server : Policy

-- those of one of the ends
abbrev pub policy_at : Side → Policies → Policy
policy_at Client k = k.client
policy_at Server k = k.server

-- one of the ends
abbrev pub end_at : Side → World → End
end_at Client w = w.client
end_at Server w = w.server

-- the datagrams that one of the ends gave
abbrev pub given_by : Side → World → List (List ℕ)
given_by Client w = w.from_client
given_by Server w = w.from_server

-- the controller of one of the ends
abbrev pub control_at : Side → World → Control
control_at Client w = w.client_control
control_at Server w = w.server_control

-- what one of the ends has counted
abbrev pub heard_at : Side → World → Heard
heard_at Client w = w.client_heard
heard_at Server w = w.server_heard

-- that end changes, gives these datagrams, has this controller, and has counted this
abbrev pub changed : Side → World → End → List (List ℕ) → Control → Heard → World
changed Client w e ds control heard = record w { client = e; from_client = w.from_client ++ ds; client_control = control; client_heard = heard }
changed Server w e ds control heard = record w { server = e; from_server = w.from_server ++ ds; server_control = control; server_heard = heard }

-- the end to which an event comes
abbrev pub end_met : World → RunEvent → End
end_met w event = reads_window (control_at event.side w) (heard_at event.side w) event.call (end_at event.side w)

-- an event may be answered so, lacking memory only where its call takes some, and leave the world
-- so
pub record IsStep (k : Policies) (w : World) (event : RunEvent) (a : Answer) (next : World) : Type 0 where
  pub answer : IsAnswer (policy_at event.side k) (end_met w event) (given_by (other_side event.side) w) event.call a
  pub end : IsLeft (fails a) (policy_at event.side k) (control_at event.side w) (heard_at event.side w) (end_at event.side w) (given_by (other_side event.side) w) event.call a (end_at event.side next)
  pub control : IsTold (fails a) (policy_at event.side k) (control_at event.side w) (heard_at event.side w) (end_at event.side w) (given_by (other_side event.side) w) event.call (control_at event.side next)
  pub heard : IsHeard (fails a) (end_at event.side w) (end_at event.side next) (given_by (other_side event.side) w) event.call a (heard_at event.side w) (heard_at event.side next)
  pub openings : CountsOpenings (policy_at event.side k).openings (end_at event.side w).closing.state (heard_at event.side w) a
  pub others : next ≡ changed event.side w (end_at event.side next) (gives (policy_at event.side k) (end_met w event) event.call a) (control_at event.side next) (heard_at event.side next)
  pub lacking : LacksWhere (policy_at event.side k) (end_met w event) (given_by (other_side event.side) w) event.call a

-- what is seen of an end and its controller
abbrev pub end_view : Control → End → EndView
end_view control e = record {
  state = e.closing.state;
  reason = e.closing.reason;
  validated = e.path.validated;
  timers = each_timer e.timers;
  window = control [];
  current_mtu = current_mtu e.path;
}

-- what is seen of both ends
abbrev pub view_of : World → View
view_of w = record { client = end_view w.client_control w.client; server = end_view w.server_control w.server }

-- These answers and views may come of the first of these events, one of each for each event in
-- turn, and leave the world so.
abbrev pub Follows : Policies → World → List RunEvent → List Answer → List View → World → Type 0
Follows k w events [] [] end = end ≡ w
Follows k w (event ∷ events) (a ∷ told) (v ∷ vs) end = (next : World) × IsStep k w event a next × (v ≡ view_of next) × Follows k next events told vs end
Follows k w [] (a ∷ told) vs end = ⊥
Follows k w events [] (v ∷ vs) end = ⊥
Follows k w (event ∷ events) (a ∷ told) [] end = ⊥

-- whether an answer gives a datagram
abbrev pub gave : Answer → Bool
gave (answers.Poll (Ok (Some transmit))) = true
gave a = false
