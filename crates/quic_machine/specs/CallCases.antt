-- What a call leaves, as cases over the parts of an end that it may change.
use Rattle.std.proofs.Common.{◌≡◌, ℕ, Bool, true, false, List, [], Option, Some, None, Ok, refl}
use Rattle.std.specs.Prelude.{slice_get, ◌||◌}
use Rattle.quic_streams_state.specs.State.{Streams}
use Rattle.quic_machine.specs.Timeouts.{Expiry, close_expired}
use Rattle.quic_machine.specs.Arrival.{Arrival, delivered_by}
use Rattle.quic_machine.specs.declared.run.Call.{Call}
use Rattle.quic_machine.specs.declared.run.Call.TheVariants as calls
use Rattle.quic_machine.specs.declared.run.Answer.{Answer}
use Rattle.quic_machine.specs.declared.run.Answer.TheVariants as answers
use Rattle.quic_machine.specs.Parts.{Messaging, Confirmation, said_done}
use Rattle.quic_machine.specs.Policy.{Policy}
use Rattle.quic_wire.specs.Value.{FrameValue, application_close}
use Rattle.quic_machine.specs.declared.answers.State.{State}
use Rattle.quic_machine.specs.declared.answers.State.TheVariants as states
use Rattle.quic_machine.specs.declared.answers.LostReason.{LostReason}
use Rattle.quic_machine.specs.declared.answers.LostReason.TheVariants as reasons
use Rattle.quic_machine.specs.Reasons.{error_close}
use Rattle.quic_machine.specs.Closing.{ticked}
use Rattle.quic_machine.specs.End.{End, with_closing, closing_by, with_ping, with_streams, with_messages, with_confirmation, with_done, with_window}
use Rattle.quic_congestion.specs.Pacer.{Pacing}
use Rattle.quic_machine.specs.Control.{Control, with_pacing}
use Rattle.quic_machine.specs.Heard.{Heard}
use Rattle.quic_machine.specs.Validation.{is_blocked, with_blocked}
use Rattle.quic_machine.specs.Receive.{received}
use Rattle.quic_machine.specs.Poll.{polled}
use Rattle.quic_machine.specs.Calls.{message_told, confirmation_told, closed_in, end_after_event}
use Rattle.quic_machine.specs.StreamCalls.{is_on_streams}
use Rattle.quic_machine.specs.MessageCalls.{is_on_messages, IsMessageAnswer, end_on_messages}
use Rattle.quic_machine.specs.IdFrames.{IsNextIdAnswer, end_on_next_id}
use Rattle.quic_machine.specs.Handshake.{done_answer, after_done, end_on_done}
use Rattle.quic_machine.specs.Machine.{IsAnswer, says_last, AnswersOnStreams, end_on_streams, after_delivered, after_call, end_left}
use Rattle.quic_machine.specs.InjectionCases.{by_injection}
use Rattle.quic_machine.specs.LeaveCases.{at_expiry, by_expiry, at_event, by_event}

-- ---- which call

-- whether a call is a delivery
abbrev pub is_delivery : Call → Bool
is_delivery (calls.Deliver delivery) = true
is_delivery call = false

-- whether a call is a poll
abbrev pub is_poll : Call → Bool
is_poll (calls.Poll now) = true
is_poll call = false

-- whether a call says that a moment has come
abbrev pub is_timeout : Call → Bool
is_timeout (calls.Timeout now) = true
is_timeout call = false

-- whether a call may draw words of a random source: a poll where a packet number is left out, a
-- delivery for which ids are issued, and a moment at which the peer is asked anew to show that it
-- receives at its address
abbrev pub may_draw : Call → Bool
may_draw call = is_poll call || (is_delivery call || is_timeout call)

-- whether a call asks for the next id of the peer
abbrev pub uses_next_id : Call → Bool
uses_next_id calls.UseNextId = true
uses_next_id call = false

-- whether a call says that the handshake is done
abbrev pub is_done_call : Call → Bool
is_done_call calls.HandshakeDone = true
is_done_call call = false

-- whether a call asks what is to be told
abbrev pub asks_event : Call → Bool
asks_event calls.Event = true
asks_event call = false

-- a reason for which an end closes that reads no packet
abbrev pub IsOwn : LostReason → Type 0
IsOwn reasons.Application = Unit {0}
IsOwn reasons.KeyLimit = Unit {0}
IsOwn reason = ⊥

-- ---- cases

-- what may come of a call
pub record CallsTo (p : Policy) (e : End) (theirs : List (List ℕ)) (call : Call) (a : Answer) (P : End → Type 0) : Type 0 where
  -- the call asks what is there, there is no such datagram, or bytes are handed in that leave the
  -- end as it is
  pub same : P e
  -- calls on streams
  pub on_streams : is_on_streams call ≡ true → (IsAnswer p e theirs call a → AnswersOnStreams e call a) → P (end_on_streams e call a)
  -- calls on messages
  pub on_messages : is_on_messages call ≡ true → (IsAnswer p e theirs call a → IsMessageAnswer e call a) → P (end_on_messages e call a)
  -- PING is asked for
  pub pings : P (with_ping e true)
  -- the end closes itself: its application says so, or too many packets didn't open that are handed
  -- in
  pub closes : (reason : LostReason) (f : FrameValue) (now : ℕ) → IsOwn reason → P (closing_by reason f (with_closing e (ticked e.closing now)))
  -- a moment comes to an end that is closing
  pub waits : (now : ℕ) (b : Bool) → is_timeout call ≡ true → P (close_expired b (with_closing e (ticked e.closing now)))
  -- the next id of the peer is used, or it isn't
  pub changes_id : uses_next_id call ≡ true → (IsAnswer p e theirs call a → IsNextIdAnswer e a) → P (end_on_next_id e a)
  -- it is said that the handshake is done, or it can't be
  pub says_handshake : is_done_call call ≡ true → (IsAnswer p e theirs call a → a ≡ answers.HandshakeDone (done_answer e)) → P (end_on_done e a)
  -- a moment at which timers expire, a poll, a delivery, and what is told
  pub times : (now : ℕ) (expiry : Expiry) → is_timeout call ≡ true → P (at_expiry p.words e now expiry)
  pub polls : (now : ℕ) → is_poll call ≡ true → P (polled p e now).end
  pub hears : (arrival : Arrival) (d : List ℕ) → is_delivery call ≡ true → P (received p e arrival d).end
  pub tells : asks_event call ≡ true → P (end_after_event e)

-- the same as a value, whatever streams and messages are left
pub data Case : Type 0 where
  same : Case
  on_streams : Streams → Case
  on_messages : Messaging → Case
  pings : Case
  closes : LostReason → FrameValue → ℕ → Case
  waits : ℕ → Bool → Case
  changes_id : Answer → Case
  -- HANDSHAKE_DONE waits, or it doesn't
  confirms : Confirmation → Bool → Case
  times : ℕ → Expiry → Case
  polls : ℕ → Case
  hears : Arrival → List ℕ → Case
  tells : Bool → Case

-- the end that is left in a case
abbrev pub after : Policy → End → Case → End
after p e same = e
after p e (on_streams t) = with_streams e t
after p e (on_messages m) = with_messages e m
after p e pings = with_ping e true
after p e (closes reason f now) = closing_by reason f (with_closing e (ticked e.closing now))
after p e (waits now b) = close_expired b (with_closing e (ticked e.closing now))
after p e (changes_id a) = end_on_next_id e a
after p e (confirms c queued) = with_done (with_confirmation e c) queued
after p e (times now expiry) = at_expiry p.words e now expiry
after p e (polls now) = (polled p e now).end
after p e (hears arrival d) = (received p e arrival d).end
after p e (tells told) = at_event e told

-- which call may come to it
abbrev pub May : End → Call → Case → Type 0
May e call (closes reason f now) = IsOwn reason
May e call (waits now b) = is_timeout call ≡ true
May e call (times now expiry) = is_timeout call ≡ true
May e call (polls now) = is_poll call ≡ true
May e call (hears arrival d) = is_delivery call ≡ true
May e call c = Unit {0}

-- what holds of the end, and of the one whose peer is to be told that the handshake is done, holds
-- behind that call
pub by_done : (P : End → Type 0) (e : End) (a : Answer) → P e → P (after_done e) → P (end_on_done e a)
by_done P e (answers.HandshakeDone (Ok done)) here said = said
by_done P e a here said = here

-- what holds in each case
abbrev pub Plain : Policy → End → Call → (End → Type 0) → Type 0
Plain p e call P = (c : Case) → May e call c → P (after p e c)

-- ---- any call

module _ (p : Policy) (e : End) (theirs : List (List ℕ)) (P : End → Type 0) where
  -- there is such a datagram or not
  delivered_case : (o : Option (List ℕ)) (arrival : Arrival) → P e → ((d : List ℕ) → P (received p e arrival d).end) → P (after_delivered p e arrival o)
  delivered_case None arrival stays left = stays
  delivered_case (Some d) arrival stays left = left d

  -- the end is open and closes, or it isn't
  closed_case : (state : State) (now code : ℕ) (text : List ℕ) → P e → P (closing_by reasons.Application (application_close (record { code = code; reason = text })) (with_closing e (ticked e.closing now))) → P (closed_in state now code text e)
  closed_case states.Open now code text stays left = left
  closed_case states.Closing now code text stays left = stays
  closed_case states.Drained now code text stays left = stays
  closed_case states.Failed now code text stays left = stays

  -- what holds in each case holds after a call
  pub by_call : (call : Call) (a : Answer) → CallsTo p e theirs call a P → P (after_call p e theirs call a)
  by_call (calls.Send message makes_room) a c = c.on_messages refl (λ is. is)
  by_call calls.Recv a c = c.on_messages refl (λ is. is)
  by_call calls.Ping a c = c.pings
  by_call (calls.Close close) a c = closed_case e.closing.state close.now close.error_code close.reason c.same (c.closes reasons.Application _ close.now tt)
  by_call calls.UseNextId a c = c.changes_id refl (λ is. is)
  by_call calls.HandshakeDone a c = c.says_handshake refl (λ is. is)
  by_call (calls.Poll now) a c = c.polls now refl
  by_call (calls.Timeout now) a c = by_expiry p e now P c.same (λ b. c.waits now b refl) (λ expiry. c.times now expiry refl)
  by_call (calls.Deliver delivery) a c = delivered_case (slice_get theirs delivery.index) (delivered_by (says_last a) delivery) c.same (λ d. c.hears (delivered_by (says_last a) delivery) d refl)
  by_call (calls.Inject injection) a c = by_injection p e (says_last a) injection P c.same (λ now. c.closes reasons.KeyLimit (error_close reasons.KeyLimit) now tt)
  by_call calls.Event a c = c.tells refl
  by_call (calls.Timer timer) a c = c.same
  by_call calls.NextTimeout a c = c.same
  by_call calls.State a c = c.same
  by_call call a c = c.on_streams refl (λ is. is)

  -- the same, by the plain cases
  pub by_plain_call : (call : Call) (a : Answer) → Plain p e call P → P (after_call p e theirs call a)
  by_plain_call call a c = by_call call a (record {
    same = c same tt;
    on_streams = λ is answer. c (on_streams _) tt;
    on_messages = λ is answer. c (on_messages _) tt;
    pings = c pings tt;
    closes = λ reason f now own. c (closes reason f now) own;
    waits = λ now b is. c (waits now b) is;
    changes_id = λ is answer. c (changes_id a) tt;
    says_handshake = λ is answer. by_done P e a (c same tt) (c (confirms said_done true) tt);
    times = λ now expiry is. c (times now expiry) is;
    polls = λ now is. c (polls now) is;
    hears = λ arrival d is. c (hears arrival d) is;
    tells = λ asks. by_event e P (c (on_messages (message_told e).messages) tt) (c (confirms (confirmation_told e).confirmation e.waiting.frames.handshake_done) tt) (λ told. c (tells told) tt);
  })

  -- what holds of an end, whichever window a poll reads and whether or not it finds that nothing
  -- may go, and then in each case, holds of the end that a call leaves; of each end it holds with
  -- another pacer
  pub by_left : P e → ((window : ℕ) (blocked : Bool) → P e → P (with_blocked (with_window e window) blocked)) → (control : Control) (heard : Heard) (call : Call) (a : Answer) → ((x : End) (pacing : Pacing) → P x → P (with_pacing x pacing)) → ((x : End) → P x → P (after_call p x theirs call a)) → P (end_left p control heard e theirs call a)
  by_left here reads control heard (calls.Poll now) a paces step =
      let met = with_blocked (with_window e (control [])) (is_blocked e heard) in
      paces (after_call p met theirs (calls.Poll now) a) _ (step met (reads (control []) (is_blocked e heard) here))
  by_left here reads control heard call a paces step = paces (after_call p e theirs call a) _ (step e here)
