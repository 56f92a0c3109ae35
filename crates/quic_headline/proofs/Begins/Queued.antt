-- A message waits behind a call that waited before it, or is sent by it.
use Rattle.std.proofs.Common.{ℕ, ◌+◌, Bool, true, false, List, [], ◌∷◌, length, Option, Some, None, Ok, refl, sym, ap, subst, ◌⊎◌, inl, inr}
use Rattle.std.specs.Prelude.{nat_le, slice_get, if◌then◌else◌}
use Rattle.std.specs.Result.{is_ok}
use Rattle.quic_messages.specs.Messages.{Messages, bytes_of, left_for, with_message, is_within, without_longer}
use Rattle.quic_messages.specs.Sending.{send_answer, after_send}
use Rattle.quic_messages.specs.declared.limits.DatagramLimits.{DatagramLimits}
use Rattle.quic_machine.specs.declared.run.Call.{Call}
use Rattle.quic_machine.specs.declared.run.Call.TheVariants as calls
use Rattle.quic_machine.specs.declared.run.Answer.{Answer}
use Rattle.quic_machine.specs.declared.run.Answer.TheVariants as answers
use Rattle.quic_machine.specs.Arrival.{delivered_by, Arrival}
use Rattle.quic_machine.specs.Policy.{Policy}
use Rattle.quic_machine.specs.End.{End, closed_by, with_closing}
use Rattle.quic_machine.specs.Poll.{Polled, Draft, polled}
use Rattle.quic_machine.specs.DraftLaws.{Writing, by_leave}
use Rattle.quic_machine.specs.Puts as puts
use Rattle.quic_machine.specs.PollCases.{ready_at, ready_leaves, draft_at, by_poll_to, may_leave_at}
use Rattle.quic_machine.specs.FrameCases.{by_received}
use Rattle.quic_machine.specs.Machine.{after_delivered, after_call, says_last}
use Rattle.quic_headline.specs.Runs.{In}
use Rattle.quic_headline.specs.Messages.{sent_by}
use Rattle.quic_machine.specs.Closing.{ticked}
use Rattle.quic_headline.proofs.Packets.Closes.{by_closes}
use Rattle.quic_headline.proofs.Packets.Named.{in_filter}
use Rattle.quic_headline.proofs.Packets.Probes.{by_going}
use Rattle.quic_headline.proofs.Places.Told.{in_append}
use Rattle.quic_headline.proofs.Messages.Counted.{received_leaves}
use Rattle.quic_headline.proofs.Messages.Kept.{frame_messages, call_messages}
use Rattle.quic_headline.proofs.Packets.Heard.{by_taken}
use Rattle.quic_headline.proofs.Packets.Moved.{by_migrated}

module _ (m : List ℕ) where
  -- what stays for another was there
  in_left_for : (size : List ℕ → ℕ) (room len : ℕ) (ms : List (List ℕ)) → In m (left_for size room len ms) → In m ms
  in_left_for size room len [] i = i
  in_left_for size room len (x ∷ ms) i = go (nat_le (bytes_of size (x ∷ ms) + len) room) i (in_left_for size room len ms)
    where
      go : (b : Bool) → In m (if b then x ∷ ms else left_for size room len ms) → (In m (left_for size room len ms) → In m ms) → In m (x ∷ ms)
      go true there later = there
      go false there later = inr (later there)

  -- it waits only where it did
  abbrev Fewer : End → Messages → Type 0
  Fewer e q = In m q.outgoing → In m e.messages.queues.outgoing

  drops : (e : End) (most : ℕ) (q : Messages) → Fewer e q → Fewer e (without_longer most q)
  drops e most q i = λ j. i (in_filter (is_within most) m q.outgoing j)

  -- ---- a poll

  polled_fewer : (p : Policy) (e : End) (now : ℕ) → Fewer e (polled p e now).end.messages.queues
  polled_fewer p e now = by_poll_to p e now (λ (q : Polled). Fewer e q.end.messages.queues) (record {
    silent = λ i. i;
    failed = λ i. i;
    nothing = λ is none i. ready i;
    repeats = λ is. by_closes p (with_closing e (ticked e.closing now)) (λ (q : Polled). Fewer e q.end.messages.queues) (λ i. i) (λ f goes i. i);
    closes = λ reason bound. by_closes p (closed_by reason (ready_at e now).end) (λ (q : Polled). Fewer e q.end.messages.queues) (λ i. ready i) (λ f goes i. ready i);
    gives = λ is may some. by_going (λ (x : End). Fewer e x.messages.queues) p (draft_at e now) (λ pacing. by_leave (λ (d : Draft). Fewer e d.end.messages.queues) keep (ready_at e now).leaving (ready_at e now).end (may_leave_at e now) ready);
  })
    where
      ready : Fewer e (ready_at e now).end.messages.queues
      ready i = subst (In m) (ap (λ (x : End). x.messages.queues.outgoing) (ready_leaves e now)) i

      keep : Writing (λ (d : Draft). Fewer e d.end.messages.queues)
      keep (puts.message x xs) d (is, fit) i = λ j. i (subst (In m) (sym is) (inr j))
      keep q d may i = i

  -- ---- a call

  sent_in : (limits : DatagramLimits) (makes_room : Bool) (x : List ℕ) (s : Messages) → In m (after_send limits makes_room x s).outgoing → In m s.outgoing ⊎ In m (x ∷ [])
  sent_in limits makes_room x s i = go (is_ok (send_answer limits makes_room x s)) i
    where
      go : (b : Bool) → In m (if b then record s { outgoing = with_message length limits.send_buffer_size x s.outgoing } else s).outgoing → In m s.outgoing ⊎ In m (x ∷ [])
      go true there = elim (in_append m (left_for length limits.send_buffer_size (length x) s.outgoing) (x ∷ []) there) [ inl old ↦ inl (in_left_for length limits.send_buffer_size (length x) s.outgoing old) | inr new ↦ inr new ]
      go false there = inl there

  delivered_fewer : (p : Policy) (e : End) (o : Option (List ℕ)) (arrival : Arrival) → Fewer e (after_delivered p e arrival o).messages.queues
  delivered_fewer p e None arrival = λ i. i
  delivered_fewer p e (Some d) arrival = by_received (λ (f : End). Fewer e f.messages.queues) (record {
    notes = λ n x i. i;
    begins = λ moment n x i. i;
    frame = λ f x i. frame_messages (Fewer e) (drops e) f x i (λ y is j. i (subst (In m) (received_leaves x.transport.datagram_receive_buffer_size y x.messages.queues) j));
    takes = λ n asks urged mark x i. by_taken (λ (f : End). Fewer e f.messages.queues) n asks urged mark x (λ idle alive. i);
    closes = λ reason x i. i;
    drains = λ close x i. i;
    asks_close = λ x i. i;
    exhausts = λ now x i. i;
    draws = λ words x i. i;
    moves = λ q o remote x i. by_migrated (λ (f : End). Fewer e f.messages.queues) q o remote x (λ c. i) (λ c most. drops e most x.messages.queues i);
  }) p e arrival d (λ i. i)

  pub call_queues : (p : Policy) (e : End) (theirs : List (List ℕ)) (call : Call) (a : Answer) → In m (after_call p e theirs call a).messages.queues.outgoing → In m e.messages.queues.outgoing ⊎ In m (sent_by call a)
  call_queues p e theirs (calls.Send message makes_room) (answers.Send (Ok done)) i = sent_in _ makes_room message e.messages.queues i
  call_queues p e theirs (calls.Send message makes_room) a i = inl i
  call_queues p e theirs calls.Recv a i = inl i
  call_queues p e theirs (calls.Poll now) a i = inl (polled_fewer p e now i)
  call_queues p e theirs (calls.Deliver delivery) a i = inl (delivered_fewer p e (slice_get theirs delivery.index) (delivered_by (says_last a) delivery) i)
  call_queues p e theirs call a i = inl (call_messages (Fewer e) (drops e) p e theirs call a refl refl refl (λ j. j) i)
