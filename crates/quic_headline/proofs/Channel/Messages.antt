-- Each message that an end sends is one that the other takes: it is told how long they may be, and
-- refuses longer ones (RFC 9221, section 3).
use Rattle.std.proofs.Common.{cond, ◌≡◌, ℕ, ◌-◌, min, Bool, true, false, ◌==◌, not, List, [], ◌∷◌, ◌++◌, length, replicate, zero, suc, Option, Some, None, Result, Ok, Err, refl, sym, ap, ◌∙◌, subst, inl, inr, arith}
use Rattle.std.specs.Prelude.{if◌then◌else◌, nat_le, nat_lt, ◌||◌, is_none, is_ok, ◌+◌}
use Rattle.std.specs.List.{filter, AllByRecursion}
use Rattle.std.proofs.lemmas.Bool.{ltb-false, le-leb}
use Rattle.quic_wire.specs.Value.{FrameValue, ack, padding, datagram, new_connection_id, retire_connection_id, path_response, handshake_done, ack_frequency}
use Rattle.quic_config.specs.Transport.{TransportSettings, told_frame_size}
use Rattle.quic_parameters.specs.Parameters.{ParameterValues}
use Rattle.quic_streams_laws.specs.WrittenFrames.{all_append}
use Rattle.quic_messages.specs.declared.errors.ReceivedError.{ReceivedError}
use Rattle.quic_messages.specs.declared.errors.SendDatagramError.{SendDatagramError}
use Rattle.quic_messages.specs.declared.errors.SendDatagramError.TheVariants.{Disabled, TooLarge, Blocked}
use Rattle.quic_messages.specs.Messages.{is_within, Messages, weight, bytes_of, is_taken, left_for, with_message, received_answer, after_received}
use Rattle.quic_messages.specs.Sending.{max_size, has_room, sized_answer, send_answer, after_send}
use Rattle.quic_machine.specs.declared.run.Call.{Call}
use Rattle.quic_machine.specs.declared.run.Call.TheVariants as calls
use Rattle.quic_machine.specs.declared.run.Answer.{Answer}
use Rattle.quic_machine.specs.declared.run.Answer.TheVariants as answers
use Rattle.quic_machine.specs.Policy.{Policy}
use Rattle.quic_machine.specs.Closing.{ticked}
use Rattle.quic_machine.specs.declared.answers.State.TheVariants as states
use Rattle.quic_machine.specs.End.{End, with_closing, closed_by}
use Rattle.quic_machine.specs.Receive.{is_above, names_ungiven, message_judged, take_frame}
use Rattle.quic_machine.specs.Parts.{current_mtu}
use Rattle.quic_machine.specs.Poll.{zeros_behind, Draft, Polled, polled, draft_as, Leaving}
use Rattle.quic_machine.specs.DraftLaws.{Writing, by_leave, MayLeave}
use Rattle.quic_machine.specs.Puts as puts
use Rattle.quic_machine.specs.PollCases.{ready_at, draft_at, frames_at, ready_leaves, may_leave_at, by_poll, at_poll}
use Rattle.quic_machine.specs.MessageCalls.{limits_of, after_on_messages}
use Rattle.quic_machine.specs.FrameCases.{Settling, named, ack_taken, acked_keeps, losses_keep, by_received, apart_leaves}
use Rattle.quic_machine.specs.Steps as steps
use Rattle.quic_machine.specs.LeaveCases.{by_expired, by_event}
use Rattle.quic_machine.specs.CallCases.{by_call, by_done}
use Rattle.quic_machine.specs.Machine.{IsAnswer, after_call, gave}
use Rattle.quic_headline.specs.Runs.{In}
use Rattle.quic_headline.specs.Observer.{Sent}
use Rattle.quic_headline.proofs.Packets.Apart.{by_waits, by_next_id}
use Rattle.quic_headline.proofs.Packets.Growth.{in_more}
use Rattle.quic_headline.proofs.Packets.Entries.{IsControl, control_of}
use Rattle.quic_headline.proofs.Packets.Closes.{by_closes}
use Rattle.quic_headline.proofs.Packets.Group.{PacketsHold}
use Rattle.quic_headline.proofs.Packets.Owing.{Owes, sent_fine}
use Rattle.quic_headline.proofs.Packets.Stays.{placed_call}
use Rattle.quic_headline.proofs.Places.Told.{in_append}
use Rattle.quic_headline.proofs.Places.Steps.{poll_answer}
use Rattle.quic_headline.proofs.Places.Parties.{Party, called, sent_by, sent_if, sents_by}
use Rattle.quic_headline.proofs.Places.Groups.{Way, Calls, Group}
use Rattle.quic_headline.proofs.Packets.Probes.{may_leave}
use Rattle.quic_headline.proofs.Packets.Moved.{by_migrated}

-- ---- what an end takes

-- an end that keeps so many bytes unread takes each of these
abbrev pub AreTaken : Option ℕ → List (List ℕ) → Type 0
AreTaken window ms = AllByRecursion (λ m. is_taken window m ≡ true) ms

-- and each message that these frames have
abbrev pub FramesTaken : Option ℕ → List FrameValue → Type 0
FramesTaken window fs = (m : List ℕ) → In (datagram m) fs → is_taken window m ≡ true

-- what waits at an end is what it takes
abbrev pub Waits : Option ℕ → End → Type 0
Waits window e = AreTaken window e.messages.queues.outgoing

-- how long messages may be that an end sends to one that keeps so many bytes unread
abbrev pub IsTold : Option ℕ → End → Type 0
IsTold window e = e.peer_params.max_datagram_frame_size ≡ told_frame_size window

-- ---- a call that sends one

-- what isn't refused for its length isn't longer
pub not_longer : (long : Bool) (r : Result (Unit {0}) SendDatagramError) → is_ok (if long then Err TooLarge else r) ≡ true → long ≡ false
not_longer true r ok = cc
not_longer false r ok = refl

-- a message that isn't refused for its length is taken
sized_taken : (window : Option ℕ) (frame size id : ℕ) (room : Bool) (m : List ℕ) → frame ≡ told_frame_size window → is_ok (sized_answer (max_size frame size id) room m) ≡ true → is_taken window m ≡ true
sized_taken None frame size id room m told ok =
    let none : max_size frame size id ≡ None = ap (λ (n : ℕ). max_size n size id) told in
    let clash : is_ok (sized_answer None room m) ≡ true = subst (λ (o : Option ℕ). is_ok (sized_answer o room m) ≡ true) none ok in
    cc
sized_taken (Some window) frame size id room m told ok = go (frame == 0) ok
  where
    go : (b : Bool) → is_ok (sized_answer (if b then None else Some (min (frame - 9) (size - id - 30))) room m) ≡ true → nat_le (length m) window ≡ true
    go true ok = cc
    go false ok =
        let short = ltb-false (min (frame - 9) (size - id - 30)) (length m) (not_longer (nat_lt (min (frame - 9) (size - id - 30)) (length m)) (if room then Ok tt else Err Blocked) ok) in
        let most : frame ≡ min window 65535 = told in
        le-leb (length m) window (omega arith)

-- what an end that is open and takes messages answers
opened_answer : (is_open none : Bool) (r : Result (Unit {0}) SendDatagramError) → is_ok (if not is_open then Err Blocked else (if none then Err Disabled else r)) ≡ true → is_ok r ≡ true
opened_answer true true r ok = cc
opened_answer true false r ok = ok
opened_answer false none r ok = cc

-- those that stay for one more
left_taken : (size : List ℕ → ℕ) (window : Option ℕ) (room len : ℕ) (ms : List (List ℕ)) → AreTaken window ms → AreTaken window (left_for size room len ms)
left_taken size window room len [] t = t
left_taken size window room len (m ∷ ms) t = go (nat_le (bytes_of size (m ∷ ms) + len) room) (left_taken size window room len ms t.1)
  where
    go : (b : Bool) → AreTaken window (left_for size room len ms) → AreTaken window (if b then m ∷ ms else left_for size room len ms)
    go true rest = t
    go false rest = rest

-- and those that stay where some are left out
some_taken : (window : Option ℕ) (keep : List ℕ → Bool) (ms : List (List ℕ)) → AreTaken window ms → AreTaken window (filter keep ms)
some_taken window keep [] t = t
some_taken window keep (m ∷ ms) t = go (keep m) (some_taken window keep ms t.1)
  where
    go : (b : Bool) → AreTaken window (filter keep ms) → AreTaken window (cond b (m ∷ filter keep ms) (filter keep ms))
    go true rest = (t.0, rest)
    go false rest = rest

-- a message that an end doesn't refuse for its length is one of these
abbrev pub TakesSized : Option ℕ → End → Type 0
TakesSized window e = (room : Bool) (m : List ℕ) → is_ok (sized_answer (limits_of e).max_size room m) ≡ true → is_taken window m ≡ true

module _ (window : Option ℕ) (e : End) (sized_one : TakesSized window e) (i : Waits window e) where
  -- a message that is sent is taken, and waits behind the others
  send_leaves : (makes_room : Bool) (m : List ℕ) → AreTaken window (after_send (limits_of e) makes_room m e.messages.queues).outgoing
  send_leaves makes_room m = go (is_ok (send_answer (limits_of e) makes_room m e.messages.queues)) refl
    where
      go : (b : Bool) → is_ok (send_answer (limits_of e) makes_room m e.messages.queues) ≡ b
          → AreTaken window (if b then record e.messages.queues { outgoing = with_message length (limits_of e).send_buffer_size m e.messages.queues.outgoing } else e.messages.queues).outgoing
      go true ok =
          let sized = opened_answer (limits_of e).is_open (is_none (limits_of e).receive_buffer_size) (sized_answer (limits_of e).max_size (makes_room || has_room (limits_of e).send_buffer_size m e.messages.queues) m) ok in
          let one = sized_one (makes_room || has_room (limits_of e).send_buffer_size m e.messages.queues) m sized in
          all_append (λ n. is_taken window n ≡ true) (left_for length (limits_of e).send_buffer_size (length m) e.messages.queues.outgoing) (m ∷ []) (left_taken length window (limits_of e).send_buffer_size (length m) e.messages.queues.outgoing i) (one, tt)
      go false refused = i

  pub message_call_leaves : (call : Call) (a : Answer) → AreTaken window (after_on_messages e call a).queues.outgoing
  message_call_leaves (calls.Send message makes_room) (answers.Send (Ok x)) = send_leaves makes_room message
  message_call_leaves (calls.Send message makes_room) a = i
  message_call_leaves calls.Recv a = i
  message_call_leaves call a = i

-- ---- what goes

-- what waits is taken, and so is what went
record Draws (window : Option ℕ) (d : Draft) : Type 0 where
  waiting : Waits window d.end
  frames : FramesTaken window d.frames

-- one frame more
one_more : (window : Option ℕ) (fs : List FrameValue) (f : FrameValue) → FramesTaken window fs → ((m : List ℕ) → datagram m ≡ f → is_taken window m ≡ true) → FramesTaken window (fs ++ f ∷ [])
one_more window fs f all one m i = elim (in_more (datagram m) f fs i) [ inl old ↦ all m old | inr is ↦ one m is ]

-- a frame of control is no message
no_message : (f : FrameValue) (m : List ℕ) → IsControl f → datagram m ≡ f → ⊥
no_message f m is same = subst IsControl (sym same) is

draft_draws : (window : Option ℕ) (leaving : Leaving) (e : End) → MayLeave leaving e → Waits window e → Draws window (draft_as leaving e)
draft_draws window leaving e due i = by_leave (Draws window) put_keeps leaving e due (record { waiting = i; frames = λ m j. absurd j })
  where
    put_keeps : Writing (Draws window)
    put_keeps (puts.drops kind) d may g = record { waiting = g.waiting; frames = g.frames }
    put_keeps (puts.control kind f) d is g = record {
      waiting = g.waiting;
      frames = one_more window d.frames f g.frames (λ m same. absurd (no_message f m (control_of f kind is.of_kind) same));
    }
    put_keeps (puts.message m ms) d (is, fit) g =
        let all : AreTaken window (m ∷ ms) = subst (AreTaken window) is g.waiting in
        record { waiting = all.1; frames = one_more window d.frames (datagram m) g.frames (λ n same. (let alike : n ≡ m = cc in rw alike all.0)) }
    put_keeps p d may g = record { waiting = g.waiting; frames = one_more window d.frames _ g.frames (λ m is. cc) }

-- PADDING has none
padded_taken : (window : Option ℕ) (fs : List FrameValue) (count : ℕ) → FramesTaken window fs → FramesTaken window (fs ++ replicate count padding)
padded_taken window fs count all m i = elim (in_append (datagram m) fs (replicate count padding) i) [ inl here ↦ all m here | inr behind ↦ zeros count behind ]
  where
    zeros : (n : ℕ) → In (datagram m) (replicate n padding) → is_taken window m ≡ true
    zeros zero i = absurd i
    zeros (suc n) (inl is) = cc
    zeros (suc n) (inr i) = zeros n i

-- each message of these datagrams is taken
abbrev pub AllTaken : Option ℕ → List Sent → Type 0
AllTaken window sents = (s : Sent) → In s sents → FramesTaken window s.frames

-- what a poll leaves
pub poll_leaves : (window : Option ℕ) (p : Policy) (e : End) (now : ℕ) → Waits window e → Waits window (polled p e now).end
poll_leaves window p e now i = by_poll p e now (λ (q : Polled). Waits window q.end) (record {
  silent = i;
  failed = i;
  repeats = λ is. by_closes p (with_closing e (ticked e.closing now)) (λ (q : Polled). Waits window q.end) i (λ f goes. i);
  nothing = λ c. i;
  closes = λ reason c bound. by_closes p (closed_by reason (at_poll e now c)) (λ (q : Polled). Waits window q.end) i (λ f goes. i);
  gives = λ leaving c left is may ready some. (
      let there : End = at_poll e now c in
      (draft_draws window leaving there (may_leave e now leaving there ready) i).waiting);
})

-- and what it gives
poll_takes : (window : Option ℕ) (p : Policy) (e : End) (now : ℕ) → Owes e → Waits window e → AllTaken window (sent_if (gave (answers.Poll (polled p e now).answer)) (sent_by p e now))
poll_takes window p e now owes i s among m carried =
    sent_fine (λ f. (n : List ℕ) → datagram n ≡ f → is_taken window n ≡ true) (λ c n is. cc) (λ c n is. cc) (λ n is. cc) p e now owes taken s among (datagram m) carried m refl
  where
    there : End
    there = (ready_at e now).end

    waits : Waits window there
    waits = subst (λ (x : End). Waits window x) (sym (ready_leaves e now)) i

    taken : e.closing.state ≡ states.Open → (f : FrameValue) → In f (frames_at e now) → (n : List ℕ) → datagram n ≡ f → is_taken window n ≡ true
    taken is f among n same =
        let d : Draft = draft_at e now in
        padded_taken window d.frames (zeros_behind d) (draft_draws window (ready_at e now).leaving there (may_leave_at e now) waits).frames n (subst (λ (g : FrameValue). In g (frames_at e now)) (sym same) among)

-- ---- what comes

-- what comes leaves what waits to go
received_leaves : (window : Option ℕ) (m : List ℕ) (s : Messages) → (after_received window m s).outgoing ≡ s.outgoing
received_leaves None m s = refl
received_leaves (Some window) m s = go (nat_le (length m) window)
  where
    go : (b : Bool) → (if b then record s { incoming = with_message weight window m s.incoming } else s).outgoing ≡ s.outgoing
    go true = refl
    go false = refl

module _ (window : Option ℕ) where
  -- what is acknowledged or lost is no message
  settling : Settling (Waits window)
  settling (steps.shortens most) e i = some_taken window (is_within most) e.messages.queues.outgoing i
  settling s e i = i

  frame_leaves : (f : FrameValue) (e : End) → Waits window e → Waits window (take_frame f e).end
  frame_leaves (ack a) e i = go (names_ungiven a e)
    where
      go : (b : Bool) → Waits window (ack_taken b a e).end
      go true = i
      go false = acked_keeps (Waits window) settling (is_above e.numbers.largest_acked a.largest) a (named a e) i
  frame_leaves (datagram m) e i = go (received_answer e.transport.datagram_receive_buffer_size m e.messages.queues)
    where
      go : (r : Result Bool ReceivedError) → Waits window (message_judged r m e).end
      go (Ok first) = subst (AreTaken window) (sym (received_leaves e.transport.datagram_receive_buffer_size m e.messages.queues)) i
      go (Err error) = i
  frame_leaves (new_connection_id f) e i = apart_leaves (Waits window) (new_connection_id f) e tt (λ c. i) (λ c most. some_taken window (is_within most) e.messages.queues.outgoing i)
  frame_leaves (retire_connection_id n) e i = apart_leaves (Waits window) (retire_connection_id n) e tt (λ c. i) (λ c most. some_taken window (is_within most) e.messages.queues.outgoing i)
  frame_leaves (path_response token) e i = apart_leaves (Waits window) (path_response token) e tt (λ c. i) (λ c most. some_taken window (is_within most) e.messages.queues.outgoing i)
  frame_leaves handshake_done e i = apart_leaves (Waits window) handshake_done e tt (λ c. i) (λ c most. some_taken window (is_within most) e.messages.queues.outgoing i)
  frame_leaves (ack_frequency r) e i = apart_leaves (Waits window) (ack_frequency r) e tt (λ c. i) (λ c most. some_taken window (is_within most) e.messages.queues.outgoing i)
  frame_leaves f e i = i

  -- any call leaves it so
  pub call_leaves : (p : Policy) (e : End) (theirs : List (List ℕ)) (call : Call) (a : Answer) → TakesSized window e → AreTaken window e.messages.queues.outgoing → AreTaken window (after_call p e theirs call a).messages.queues.outgoing
  call_leaves p e theirs call a sized i = by_call p e theirs (Waits window) call a (record {
    same = i;
    on_streams = λ on answer. i;
    on_messages = λ on answer. message_call_leaves window e sized i call a;
    pings = i;
    times = λ now expiry set. by_expired p.words e now (Waits window) (λ pending tracking timers waits asked runs packets. i) (λ pending timers waits asked runs. losses_keep (Waits window) settling (with_closing e (ticked e.closing now)) i) (λ x j. j) expiry;
    closes = λ reason f now own. i;
    waits = λ now b set. by_waits (Waits window) b (with_closing e (ticked e.closing now)) i i;
    changes_id = λ uses answer. by_next_id (Waits window) e a i (λ c. i) (λ c most. some_taken window (is_within most) e.messages.queues.outgoing i);
    says_handshake = λ says answer. by_done (Waits window) e a i i;
    polls = λ now set. poll_leaves window p e now i;
    hears = λ arrival d set. by_received (Waits window) (record {
      notes = λ n x j. j;
      begins = λ time n x j. j;
      frame = frame_leaves;
      takes = λ n asks urged mark x j. j;
      closes = λ reason x j. j;
      drains = λ close x j. j;
      asks_close = λ x j. j;
      exhausts = λ now x j. j;
      draws = λ words x j. j;
      moves = λ q o remote x j. by_migrated (Waits window) q o remote x (λ c. j) (λ c most. some_taken window (is_within most) x.messages.queues.outgoing j);
    }) p e arrival d i;
    tells = λ asks. by_event e (Waits window) i i (λ was_told. i);
  })

-- ---- the group

-- x was told how long messages may be that this takes, and what waits at x and what it sent is no
-- longer
pub record FitsAt (window : Option ℕ) (x : Party) : Type 0 where
  pub told : IsTold window x.end
  pub waiting : AreTaken window x.end.messages.queues.outgoing
  pub sent : AllTaken window x.sents

-- each message of x is one that y takes
abbrev pub MessagesFit : Way
MessagesFit x y = FitsAt y.end.transport.datagram_receive_buffer_size x

-- x makes a call
fits_on : (B : Way) → ((x y : Party) → B x y → PacketsHold x y) → (x y : Party) (call : Call) (a : Answer) → Calls B x y call a → MessagesFit x y → MessagesFit (called x y.given call a) y
fits_on B packets x y call a c i = record {
  told = ap (λ (theirs : ParameterValues). theirs.max_datagram_frame_size) (placed_call x.policy x.end y.given call a).peer ∙ i.told;
  waiting = call_leaves window x.policy x.end y.given call a (λ room m. sized_taken window x.end.peer_params.max_datagram_frame_size (current_mtu x.end.path) (length x.end.ids.peer.id) room m i.told) i.waiting;
  sent = λ s j. elim (in_append s x.sents (sents_by x.policy x.end call a) j) [ inl old ↦ i.sent s old | inr new ↦ goes call c.answer s new ];
}
  where
    window : Option ℕ
    window = y.end.transport.datagram_receive_buffer_size

    goes : (k : Call) → IsAnswer x.policy x.end y.given k a → AllTaken window (sents_by x.policy x.end k a)
    goes (calls.Poll now) is = subst (λ (b : Answer). AllTaken window (sent_if (gave b) (sent_by x.policy x.end now))) (sym (poll_answer x.policy x.end now a is c.served)) (poll_takes window x.policy x.end now (packets x y c.gives).owes i.waiting)
    goes k is = λ s j. absurd j

-- so it is at each place
pub messages_group : (B : Way) → ((x y : Party) → B x y → PacketsHold x y) → Group B MessagesFit
messages_group B packets = record {
  first = λ x y m there back. record { told = refl; waiting = tt; sent = λ s i. absurd i };
  writer = λ x y call a c i back. fits_on B packets x y call a c i;
  reader = λ x y call a c there i. subst (λ (t : TransportSettings). FitsAt t.datagram_receive_buffer_size y) (sym (placed_call x.policy x.end y.given call a).transport) i;
  shows = λ x y here there b back i j. record { told = i.told; waiting = i.waiting; sent = i.sent };
}
