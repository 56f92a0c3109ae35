-- Each message that is received stood in a DATAGRAM frame of a datagram that was handed in before.
use Rattle.std.proofs.Common.{◌≡◌, ℕ, Bool, true, false, List, [], ◌∷◌, ◌++◌, take, drop, length, Option, Some, None, Ok, refl, sym, ap, subst, inl, inr}
use Rattle.std.specs.Prelude.{slice_get, nat_le, is_ok, if◌then◌else◌, ◌+◌}
use Rattle.quic_wire.specs.Value.{datagram}
use Rattle.quic_messages.specs.Messages.{Messages, weight, bytes_of, oldest, left_for, with_message, after_received, without_longer}
use Rattle.quic_messages.specs.Sending.{send_answer}
use Rattle.quic_machine.specs.declared.run.Call.{Call}
use Rattle.quic_machine.specs.declared.run.Call.TheVariants as calls
use Rattle.quic_machine.specs.declared.run.Answer.{Answer}
use Rattle.quic_machine.specs.declared.run.Answer.TheVariants as answers
use Rattle.quic_machine.specs.Arrival.{Arrival, delivered_by}
use Rattle.quic_machine.specs.Policy.{Policy}
use Rattle.quic_machine.specs.Closing.{ticked}
use Rattle.quic_machine.specs.End.{End, with_closing, closed_by}
use Rattle.quic_machine.specs.Poll.{Draft, Polled, Leaving, polled, draft_as}
use Rattle.quic_machine.specs.Puts as puts
use Rattle.quic_machine.specs.DraftLaws.{Writing, by_leave, MayLeave}
use Rattle.quic_machine.specs.PollCases.{by_poll, at_poll}
use Rattle.quic_machine.specs.MessageCalls.{limits_of, after_on_messages}
use Rattle.quic_machine.specs.Receive.{received}
use Rattle.quic_machine.specs.Machine.{says_last, after_delivered, after_call}
use Rattle.quic_headline.specs.Runs.{In}
use Rattle.quic_headline.specs.Alone.{Lone, IsNew, FollowsAlone, MessageCame, MessagesCame, handed_in}
use Rattle.quic_headline.proofs.Packets.Moved.{by_migrated}
use Rattle.quic_headline.proofs.Packets.Closes.{by_closes}
use Rattle.quic_headline.proofs.Packets.Probes.{may_leave}
use Rattle.quic_headline.proofs.Places.Told.{in_append}
use Rattle.quic_headline.proofs.Messages.Kept.{frame_messages, call_messages}
use Rattle.quic_headline.proofs.Alone.Taking.{Stands, by_taking, came_open}
use Rattle.quic_headline.proofs.Alone.Places.{Hands, AtCall, at_call}
use Rattle.quic_headline.proofs.Alone.Bytes.{new_holds}

-- each message that waits to be received came
abbrev HaveCome : (List ℕ → Type 0) → Messages → Type 0
HaveCome came q = (m : List ℕ) → In m q.incoming → came m

-- ---- one message more, and one less

-- those that stay where the oldest go
stays_in : (size : List ℕ → ℕ) (room len : ℕ) (ms : List (List ℕ)) (m : List ℕ) → In m (left_for size room len ms) → In m ms
stays_in size room len [] m i = i
stays_in size room len (x ∷ ms) m i = go (nat_le (bytes_of size (x ∷ ms) + len) room) (stays_in size room len ms m) i
  where
    go : (b : Bool) → (In m (left_for size room len ms) → In m ms) → In m (if b then x ∷ ms else left_for size room len ms) → In m (x ∷ ms)
    go true rest j = j
    go false rest j = inr (rest j)

behind_in : (ms : List (List ℕ)) (m : List ℕ) → In m (drop 1 ms) → In m ms
behind_in [] m i = i
behind_in (x ∷ ms) m i = inr i

oldest_in : (ms : List (List ℕ)) (m : List ℕ) → oldest ms ≡ Some m → In m ms
oldest_in [] m is = cc
oldest_in (x ∷ ms) m is = let same : x ≡ m = cc in inl (sym same)

module _ (came : List ℕ → Type 0) where
  -- all those that wait came
  abbrev pub P : Messages → Type 0
  P = HaveCome came

  -- one that comes
  received_came : (window : Option ℕ) (x : List ℕ) (q : Messages) → came x → P q → P (after_received window x q)
  received_came None x q here i = i
  received_came (Some window) x q here i = go (nat_le (length x) window)
    where
      go : (b : Bool) → P (if b then record q { incoming = left_for weight window (weight x) q.incoming ++ x ∷ [] } else q)
      go true m among = elim (in_append m (left_for weight window (weight x) q.incoming) (x ∷ []) among) [
        | inl was ↦ i m (stays_in weight window (weight x) q.incoming m was)
        | inr (inl same) ↦ subst came (sym same) here
        | inr (inr none) ↦ absurd none
      ]
      go false m among = i m among

  -- ---- calls

  shorter_came : (most : ℕ) (q : Messages) → P q → P (without_longer most q)
  shorter_came most q i = i

  message_call : (e : End) (call : Call) (a : Answer) → P e.messages.queues → P (after_on_messages e call a).queues
  message_call e (calls.Send message makes_room) (answers.Send (Ok x)) i = go (is_ok (send_answer (limits_of e) makes_room message e.messages.queues))
    where
      go : (b : Bool) → P (if b then record e.messages.queues { outgoing = with_message length (limits_of e).send_buffer_size message e.messages.queues.outgoing } else e.messages.queues)
      go true = i
      go false = i
  message_call e (calls.Send message makes_room) a i = i
  message_call e calls.Recv a i = λ m among. i m (behind_in e.messages.queues.incoming m among)
  message_call e call a i = i

  -- what goes takes none of those that came
  draft_came : (leaving : Leaving) (e : End) → MayLeave leaving e → P e.messages.queues → P (draft_as leaving e).end.messages.queues
  draft_came leaving e due i = by_leave (λ (d : Draft). P d.end.messages.queues) put_came leaving e due i
    where
      put_came : Writing (λ (d : Draft). P d.end.messages.queues)
      put_came (puts.message m ms) d (is, fit) g = g
      put_came p d may g = g

  poll_came : (p : Policy) (e : End) (now : ℕ) → P e.messages.queues → P (polled p e now).end.messages.queues
  poll_came p e now i = by_poll p e now (λ (q : Polled). P q.end.messages.queues) (record {
    silent = i;
    failed = i;
    repeats = λ is. by_closes p (with_closing e (ticked e.closing now)) (λ (q : Polled). P q.end.messages.queues) i (λ f goes. i);
    nothing = λ c. i;
    closes = λ reason c bound. by_closes p (closed_by reason (at_poll e now c)) (λ (q : Polled). P q.end.messages.queues) i (λ f goes. i);
    gives = λ leaving c left is may ready some. draft_came leaving (at_poll e now c) (may_leave e now leaving (at_poll e now c) ready) i;
  })

  module _ (p : Policy) (e : End) (theirs : List (List ℕ)) (i : P e.messages.queues) where
    -- a datagram whose messages came
    delivery_came : (arrival : Arrival) (d : List ℕ) → ((m : List ℕ) → Stands p e d (datagram m) → came m) → P (received p e arrival d).end.messages.queues
    delivery_came arrival d brings = by_taking p e arrival d (λ (x : End). P x.messages.queues) (record {
      frame = λ f stands x j. frame_messages P shorter_came f x j (λ m same. received_came x.transport.datagram_receive_buffer_size m x.messages.queues (brings m (subst (Stands p e d) same stands)) j);
      notes = λ n x j. j;
      begins = λ now n x j. j;
      takes = λ n asks urged mark x j. j;
      closes = λ reason x j. j;
      drains = λ close x j. j;
      asks_close = λ x j. j;
      exhausts = λ now x j. j;
      draws = λ words x j. j;
      moves = λ q o remote x j. by_migrated (λ (y : End). P y.messages.queues) q o remote x (λ c. j) (λ c most. j);
    }) i

    -- any call, where those of what is handed in did
    call_came : (H : List ℕ → Type 0) → ((d : List ℕ) → H d → (m : List ℕ) → Stands p e d (datagram m) → came m) → (call : Call) (a : Answer) → Hands theirs H call → P (after_call p e theirs call a).messages.queues
    call_came H brings (calls.Deliver delivery) a hands = go (slice_get theirs delivery.index) refl
      where
        go : (o : Option (List ℕ)) → slice_get theirs delivery.index ≡ o → P (after_delivered p e (delivered_by (says_last a) delivery) o).messages.queues
        go None at = i
        go (Some d) at = delivery_came (delivered_by (says_last a) delivery) d (brings d (hands d at))
    call_came H brings (calls.Send message makes_room) a hands = message_call e (calls.Send message makes_room) a i
    call_came H brings calls.Recv a hands = message_call e calls.Recv a i
    call_came H brings (calls.Poll now) a hands = poll_came p e now i
    call_came H brings call a hands = call_messages P shorter_came p e theirs call a refl refl refl i

-- ---- every message

-- a message of a datagram that was handed in came
frame_brings : (p : Policy) (ds : List (List ℕ)) (e : End) (d : List ℕ) → In d ds → (m : List ℕ) → Stands p e d (datagram m) → MessageCame p ds m
frame_brings p ds e d handed m stands = let packet = came_open p ds e d (datagram m) stands handed in record { packet = packet.0; carried = packet.1 }

-- what is received is the oldest
answered : (m : List ℕ) (o : Option (List ℕ)) → answers.Recv (Some m) ≡ answers.Recv o → o ≡ Some m
answered m None is = cc
answered m (Some x) is = let same : m ≡ x = cc in ap (λ (y : List ℕ). Some y) (sym same)

pub messages_come : (p : Policy) (theirs : List (List ℕ)) (x left : Lone) (calls : List Call) (told : List Answer) → IsNew x.end → FollowsAlone p theirs x calls told left → MessagesCame p theirs calls told
messages_come p theirs x left cs told new f i message served at_place at_answer =
    let ds : List (List ℕ) = handed_in theirs (take i cs) in
    let came : List ℕ → Type 0 = MessageCame p ds in
    let here : AtCall p theirs (λ (e : End). HaveCome came e.messages.queues) calls.Recv (answers.Recv (Some message)) = at_call p theirs (λ d. In d ds) (λ (e : End). HaveCome came e.messages.queues) (λ window blocked pacing e h. h)
    (λ e c b is hands h. call_came came p e theirs h (λ d. In d ds) (λ d handed m stands. frame_brings p ds e d handed m stands) c b hands)
    i x left cs told calls.Recv (answers.Recv (Some message)) f served at_place at_answer (λ d among. among)
    (new_holds (λ (e : End). HaveCome came e.messages.queues) x.end (λ side settings windows theirs own_id peer_id remote now validated words m among. absurd among) new) in
    here.holds message (oldest_in here.end.messages.queues.incoming message (answered message (oldest here.end.messages.queues.incoming) here.answer))
