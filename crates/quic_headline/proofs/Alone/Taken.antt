-- What an end knows of the packets that it took, whatever is handed to it: which numbers are to be
-- acknowledged, and which is expected. So it is by their keys, and by the answers.
use Rattle.std.proofs.Common.{◌≡◌, ℕ, ◌+◌, ◌^◌, ◌<◌, Bool, true, false, List, [], ◌∷◌, Option, Some, None, Result, Ok, Err, refl, sym, ap, ◌∙◌, subst, inl, inr, arith}
use Rattle.std.specs.Prelude.{slice_get, slice_index, if◌then◌else◌, nat_lt, not, ◌==◌, ◌||◌, take, drop}
use Rattle.std.proofs.lemmas.Bool.{ltb-true}
use Rattle.quic_wire_core.specs.declared.shared.EcnCodepoint.{EcnCodepoint}
use Rattle.quic_sets.specs.Runs.{Run, Has}
use Rattle.quic_wire.specs.Value.{FrameValue}
use Rattle.quic_wire.specs.Items.{items}
use Rattle.quic_packet.specs.Number.{expanded}
use Rattle.quic_packet.specs.Keys.{Aead, width_in, unshielded}
use Rattle.quic_packet.specs.Header.{key_phase, reserved_bits}
use Rattle.quic_packet.specs.Datagram.{Opening, opening_of, truncated_in, opened_plain}
use Rattle.quic_recovery_core.specs.Duplicates.{is_duplicate}
use Rattle.quic_recovery_core.specs.PendingAcks.{Pending, after_insert}
use Rattle.quic_recovery_core.proofs.AckRunSteps.{kept_numbers}
use Rattle.quic_spaces.specs.Acknowledging.{with_due}
use Rattle.quic_spaces.specs.Numbers.{Numbers, after_greatest, expected, number_opened}
use Rattle.quic_machine.specs.Arrival.{Arrival, delivered_by}
use Rattle.quic_machine.specs.declared.answers.State.{State}
use Rattle.quic_machine.specs.declared.answers.State.TheVariants as states
use Rattle.quic_machine.specs.declared.answers.DropReason.{DropReason}
use Rattle.quic_machine.specs.declared.answers.DropReason.TheVariants as drops
use Rattle.quic_machine.specs.declared.answers.LostReason.TheVariants as reasons
use Rattle.quic_machine.specs.declared.answers.Received.{Received}
use Rattle.quic_machine.specs.declared.answers.Received.TheVariants as receives
use Rattle.quic_machine.specs.declared.run.Delivery.{Delivery}
use Rattle.quic_machine.specs.declared.run.Call.{Call}
use Rattle.quic_machine.specs.declared.run.Call.TheVariants as calls
use Rattle.quic_machine.specs.declared.run.Answer.{Answer}
use Rattle.quic_machine.specs.declared.run.Answer.TheVariants as answers
use Rattle.quic_machine.specs.Policy.{Policy}
use Rattle.quic_machine.specs.Ids.{known}
use Rattle.quic_machine.specs.Closing.{ticked}
use Rattle.quic_machine.specs.Opens.{own_id_length, head, opens}
use Rattle.quic_machine.specs.IdFrames.{end_on_next_id}
use Rattle.quic_machine.specs.End.{End, with_closing, with_numbers}
use Rattle.quic_machine.specs.Receive.{Fault, broke, too_many_pieces, closed_by_peer, reason_of, violation, is_empty, asks_in, is_urged, take_frame, unless_fault, take_items, take_payload, after_taken, drained_at, Outcome, dropped, ends_as, by_state, opened_to, opened_as, opening, unopened_in, headed, received_in, received, is_read, items_taken, drawn_if, with_ids_drawn}
use Rattle.quic_machine.specs.FrameCases.{begun, items_keep}
use Rattle.quic_machine.specs.CallCases.{is_delivery}
use Rattle.quic_machine.specs.Machine.{IsAnswer, IsDelivered, says_last, after_call, after_delivered, fails}
use Rattle.quic_headline.specs.Runs.{Packet, IsTaken, packet_of, expected_behind, opens_by_key}
use Rattle.quic_headline.specs.Headline.{CodeIsSmall}
use Rattle.quic_headline.specs.LoneAcks.{and_packet, and_datagram, and_call}
use Rattle.quic_headline.proofs.Packets.Invariant.{Acks}
use Rattle.quic_headline.proofs.Packets.Acking.{packet_runs, acks_taken, runs_step, acks_step}
use Rattle.quic_headline.proofs.Packets.Apart.{by_next_id, next_acks}
use Rattle.quic_headline.proofs.Packets.Moved.{by_migration}
use Rattle.quic_headline.proofs.Packets.CloseForms.{OwesWell, SmallFault, error_well, frame_small, frame_owes, owed_call}
use Rattle.quic_headline.proofs.Packets.Knowing.{expected_after}
use Rattle.quic_headline.proofs.Packets.Stays.{Keeps, keeps_frames}
use Rattle.quic_headline.proofs.Alone.Taking.{Items, opened_by_key, opens_to}
use Rattle.quic_headline.proofs.Packets.Moving.{moving_keeps}
use Rattle.quic_headline.proofs.Packets.EndMoves.{Cause, cause_of, IsPacket}
use Rattle.quic_headline.proofs.Packets.EndMoves as moves
use Rattle.quic_headline.proofs.Packets.ByMoves.{no_packet, behind_call}

-- ---- what is to be acknowledged

-- an end that took these packets knows few numbers to acknowledge, each of one of them, and expects
-- the next; and what it owes can go, where the codes of calls are codes
pub record Knows (C : Type 0) (packets : List Packet) (e : End) : Type 0 where
  pub acks : Acks e.acknowledging e.marks.came
  pub taken : (k : ℕ) → Has e.acknowledging.runs k → IsTaken packets k
  pub expected : expected e.numbers ≡ expected_behind packets
  pub owes : C → OwesWell e

-- frames leave no more of them
frame_kept : (f : FrameValue) (e : End) → Keeps e (take_frame f e).end
frame_kept f e = subst (Keeps e) (one (take_frame f e).fault) (keeps_frames (f ∷ []) e)
  where
    one : (o : Option Fault) → (unless_fault o (take_frame f e) (take_items [])).end ≡ (take_frame f e).end
    one None = refl
    one (Some fault) = refl

frame_knows : (C : Type 0) (packets : List Packet) (f : FrameValue) (e : End) → Knows C packets e → Knows C packets (take_frame f e).end
frame_knows C packets f e knows =
    let kept = frame_kept f e in
    record {
      acks = kept.acks knows.acks;
      taken = λ k has. knows.taken k (kept.fewer k has);
      expected = ap (λ (n : Numbers). expected n) kept.numbers ∙ knows.expected;
      owes = λ codes. frame_owes f e (knows.owes codes);
    }

payload_knows : (C : Type 0) (packets : List Packet) (first : ℕ) (is : Items) (e : End) → Knows C packets e → Knows C packets (take_payload first is e).end
payload_knows C packets first is e knows = go (not (reserved_bits first == 0) || is_empty is)
  where
    go : (b : Bool) → Knows C packets (if b then record { end = e; fault = Some violation } else take_items is e).end
    go true = knows
    go false = items_keep (Knows C packets) (frame_knows C packets) is e knows

-- nor does the next id of the peer
next_knows : (C : Type 0) (packets : List Packet) (e : End) (a : Answer) → Knows C packets e → Knows C packets (end_on_next_id e a)
next_knows C packets e a knows = by_next_id (λ (x : End). x.acknowledging ≡ e.acknowledging → Knows C packets x) e a (λ same. knows)
    (λ c same. record { acks = acks _ same; taken = taken _ same; expected = knows.expected; owes = knows.owes })
    (λ c most same. record { acks = acks _ same; taken = taken _ same; expected = knows.expected; owes = knows.owes })
    (next_acks e a)
  where
    acks : (q : Pending) → q ≡ e.acknowledging → Acks q e.marks.came
    acks q same = subst (λ (x : Pending). Acks x e.marks.came) (sym same) knows.acks

    taken : (q : Pending) → q ≡ e.acknowledging → (k : ℕ) → Has q.runs k → IsTaken packets k
    taken q same = subst (λ (x : Pending). (k : ℕ) → Has x.runs k → IsTaken packets k) (sym same) knows.taken

-- the code of what is wrong with a payload has a form
items_fault : (is : Items) (e : End) → SmallFault (take_items is e).fault
items_fault [] e = tt
items_fault (Err x ∷ is) e = omega arith
items_fault (Ok f ∷ is) e = go (take_frame f e).fault refl (frame_small f e) (items_fault is (take_frame f e).end)
  where
    go : (o : Option Fault) → (take_frame f e).fault ≡ o → SmallFault (take_frame f e).fault → SmallFault (take_items is (take_frame f e).end).fault → SmallFault (unless_fault o (take_frame f e) (take_items is)).fault
    go None is here rest = rest
    go (Some x) is here rest = here

payload_fault : (first : ℕ) (is : Items) (e : End) → SmallFault (take_payload first is e).fault
payload_fault first is e = go (not (reserved_bits first == 0) || is_empty is)
  where
    go : (b : Bool) → SmallFault (if b then record { end = e; fault = Some violation } else take_items is e).fault
    go true = omega arith
    go false = items_fault is e

-- ---- a delivery

-- no packet opens to a number of 2^62 or more
opened_small : (aead : Aead) (at x : ℕ) (packet : List ℕ) (o : Opening) → opened_plain aead at x packet ≡ Some o → o.number < 2 ^ 62
opened_small aead at x packet o = go (nat_lt n (2 ^ 62)) refl (aead.unseal n (take header packet) (drop header packet))
  where
    header : ℕ
    header = at + width_in (slice_index packet 0)

    n : ℕ
    n = expanded (truncated_in at packet) x

    same_opening : (y z : Opening) → Some y ≡ Some z → y ≡ z
    same_opening y z is = cc

    go : (b : Bool) → nat_lt n (2 ^ 62) ≡ b → (r : Option (List ℕ)) → (if b then opening_of (slice_index packet 0) n r else None) ≡ Some o → o.number < 2 ^ 62
    go true below None is = cc
    go true below (Some payload) is =
        let same : n ≡ o.number = ap (λ (y : Opening). y.number) (same_opening (record { first = slice_index packet 0; number = n; payload = payload }) o is) in
        let lt = ltb-true n (2 ^ 62) below in
        omega (arith, same, lt)
    go false below r is = cc

module _ (C : Type 0) (packets : List Packet) (p : Policy) (e : End) (d : List ℕ) (knows : Knows C packets e) where
  -- which packets it took behind a datagram that was answered so
  abbrev pub behind : Received → List Packet
  behind receives.Taken = and_packet (opens_by_key p (expected_behind packets) d) packets
  behind a = packets

  abbrev Comes : Outcome → Type 0
  Comes o = Knows C (behind o.answer) o.end

  -- one that opens so, if it was taken
  pub one_more : (o : Opening) → opens p (known e.ids) (expected e.numbers) d ≡ Some o → behind receives.Taken ≡ packet_of o ∷ packets
  one_more o is = ap (λ (x : Option Opening). and_packet x packets) (ap (λ (n : ℕ). opens_by_key p n d) (sym knows.expected) ∙ opened_by_key p e d o is)

  -- what was taken before was
  old_taken : (o : Opening) (k : ℕ) → IsTaken packets k → IsTaken (packet_of o ∷ packets) k
  old_taken o k t = record { packet = t.packet; was_taken = inr t.was_taken; is = t.is }

  ends_know : (o : Opening) → opens p (known e.ids) (expected e.numbers) d ≡ Some o → o.number < 2 ^ 62 → (fault : Option Fault) → SmallFault fault → (asks urged : Bool) (mark : Option EcnCodepoint) (x : End) → Knows C packets x → Comes (ends_as fault asks urged o.number mark x)
  ends_know o is small None code asks urged mark x left = subst (λ (qs : List Packet). Knows C qs (after_taken o.number asks urged mark x)) (sym (one_more o is)) (record {
    acks = acks_taken x.acknowledging x.marks.came urged mark o.number x.closing.clock asks x.numbers.opened small left.acks;
    taken = λ k has. elim (kept_numbers x.acknowledging.runs o.number k left.acks.runs.runs (subst (λ (rs : List Run). Has rs k) (packet_runs (with_due urged (after_insert x.acknowledging o.number x.closing.clock)) x.closing.clock o.number asks x.numbers.opened) has)) [
      | inl old ↦ old_taken o k (left.taken k old)
      | inr new ↦ record { packet = packet_of o; was_taken = inl refl; is = sym new }
    ];
    expected = expected_after x.numbers.taken o.number (expected_behind packets) left.expected;
    owes = left.owes;
  })
  ends_know o is small (Some (closed_by_peer close)) code asks urged mark x left = subst (λ (qs : List Packet). Knows C qs (drained_at o.number close x)) (sym (one_more o is)) (record {
    acks = left.acks;
    taken = λ k has. old_taken o k (left.taken k has);
    expected = expected_after x.numbers.taken o.number (expected_behind packets) left.expected;
    owes = left.owes;
  })
  ends_know o is small (Some (broke error)) code asks urged mark x left = record { acks = left.acks; taken = left.taken; expected = left.expected; owes = λ codes. error_well (reason_of (broke error)) x code }
  ends_know o is small (Some too_many_pieces) code asks urged mark x left = record { acks = left.acks; taken = left.taken; expected = left.expected; owes = λ codes. error_well (reason_of too_many_pieces) x code }

  state_knows : (s : State) (o : Opening) → opens p (known e.ids) (expected e.numbers) d ≡ Some o → o.number < 2 ^ 62 → (arrival : Arrival) → Comes (by_state s o arrival (with_numbers e (number_opened e.numbers o.number)))
  state_knows states.Open o is small arrival =
      let at : End = begun e arrival.now o.number in
      let asks = asks_in (items o.payload) in
      let within : Items = items_taken o arrival e in
      let taken = take_payload o.first within at in
      ends_know o is small taken.fault (payload_fault o.first within at) asks (is_urged arrival.mark asks within at) arrival.mark taken.end
      (payload_knows C packets o.first within at (record { acks = knows.acks; taken = knows.taken; expected = knows.expected; owes = knows.owes }))
  state_knows states.Closing o is small arrival = record { acks = knows.acks; taken = knows.taken; expected = knows.expected; owes = knows.owes }
  state_knows states.Drained o is small arrival = record { acks = knows.acks; taken = knows.taken; expected = knows.expected; owes = knows.owes }
  state_knows states.Failed o is small arrival = record { acks = knows.acks; taken = knows.taken; expected = knows.expected; owes = knows.owes }

  opened_knows : (o : Opening) → (key_phase o.first ≡ false → opens p (known e.ids) (expected e.numbers) d ≡ Some o) → o.number < 2 ^ 62 → (arrival : Arrival) → Comes (opened_to o arrival e)
  opened_knows o is small arrival = go (key_phase o.first) refl (is_duplicate e.numbers.opened o.number)
    where
      go : (phase : Bool) → key_phase o.first ≡ phase → (again : Bool) → Comes (if phase then dropped drops.KeyPhase e else (if again then dropped drops.Duplicate e else by_state e.closing.state o arrival (with_numbers e (number_opened e.numbers o.number))))
      go true is_set again = knows
      go false is_clear true = knows
      go false is_clear false = state_knows e.closing.state o (is is_clear) small arrival

  unopened_knows : (s : State) (last : Bool) (arrival : Arrival) → Comes (unopened_in s last arrival e)
  unopened_knows states.Open true arrival = record { acks = knows.acks; taken = knows.taken; expected = knows.expected; owes = λ codes. error_well reasons.KeyLimit (with_closing e (ticked e.closing arrival.now)) (omega arith) }
  unopened_knows states.Open false arrival = knows
  unopened_knows states.Closing last arrival = knows
  unopened_knows states.Drained last arrival = knows
  unopened_knows states.Failed last arrival = knows

  drawn_knows : (b : Bool) (qs : List Packet) (x : End) → Knows C qs x → Knows C qs (drawn_if b p x)
  drawn_knows true qs x left = record { acks = left.acks; taken = left.taken; expected = left.expected; owes = left.owes }
  drawn_knows false qs x left = left

  packet_knows : (o : Option Opening) → opening p e d ≡ o → ((x : Opening) → o ≡ Some x → key_phase x.first ≡ false → opens p (known e.ids) (expected e.numbers) d ≡ Some x) → (arrival : Arrival) → Comes (opened_as o p arrival e)
  packet_knows None here is arrival = unopened_knows e.closing.state arrival.last arrival
  packet_knows (Some o) here is arrival =
      let left : Outcome = opened_to o arrival e in
      let small : o.number < 2 ^ 62 = opened_small p.packet (own_id_length + 1) (expected e.numbers) (unshielded p.header (own_id_length + 1) d) o here in
      by_migration Comes p o arrival.remote e (with_ids_drawn p left) (drawn_knows (is_read left.answer) (behind left.answer) left.end (opened_knows o (is o refl) small arrival))
      (λ moved taken opened. moving_keeps (Knows C (behind left.answer)) (λ m x k. record { acks = k.acks; taken = k.taken; expected = k.expected; owes = k.owes }) (next_knows C (behind left.answer)) p o arrival.remote (drawn_if (is_read left.answer) p left.end)
      (drawn_knows (is_read left.answer) (behind left.answer) left.end (opened_knows o (is o refl) small arrival)))

  headed_knows : (r : Result (List ℕ) DropReason) (arrival : Arrival) → head e arrival.remote d ≡ r → Comes (headed r p e arrival d)
  headed_knows (Err error) arrival is = knows
  headed_knows (Ok id) arrival is = packet_knows (opening p e d) refl (λ o opens_so phase. opens_to p e arrival d id o is opens_so phase) arrival

  received_knows : (arrival : Arrival) → Comes (received p e arrival d)
  received_knows arrival = go e.closing.state
    where
      go : (s : State) → Comes (received_in s p e arrival d)
      go states.Failed = knows
      go states.Drained = knows
      go states.Open = headed_knows (head e arrival.remote d) arrival refl
      go states.Closing = headed_knows (head e arrival.remote d) arrival refl

  -- a delivery takes what its datagram does
  pub delivery_takes : (theirs : List (List ℕ)) (delivery : Delivery) → slice_get theirs delivery.index ≡ Some d → (r : Received) → behind r ≡ and_call p theirs (calls.Deliver delivery) (answers.Deliver r) packets
  delivery_takes theirs delivery there receives.Taken = ap (λ (o : Option (List ℕ)). and_datagram p o packets) (sym there)
  delivery_takes theirs delivery there (receives.Dropped reason) = refl
  delivery_takes theirs delivery there (receives.Closed error) = refl
  delivery_takes theirs delivery there receives.Failed = refl

-- by whether there is such a datagram
delivered_knows : (C : Type 0) (packets : List Packet) (p : Policy) (theirs : List (List ℕ)) (e : End) (delivery : Delivery) (o : Option (List ℕ)) → slice_get theirs delivery.index ≡ o → (a : Answer) → IsDelivered p e delivery o a → fails a ≡ false
    → Knows C packets e → Knows C (and_call p theirs (calls.Deliver delivery) a packets) (after_delivered p e (delivered_by (says_last a) delivery) o)
delivered_knows C packets p theirs e delivery None there a is served knows = subst (λ (b : Answer). Knows C (and_call p theirs (calls.Deliver delivery) b packets) e) (sym is) knows
delivered_knows C packets p theirs e delivery (Some d) there a (inl is) served knows =
    let left : Outcome = received p e (delivered_by (says_last a) delivery) d in
    let same : behind C packets p e d knows left.answer ≡ and_call p theirs (calls.Deliver delivery) a packets = delivery_takes C packets p e d knows theirs delivery there left.answer ∙ ap (λ (b : Answer). and_call p theirs (calls.Deliver delivery) b packets) (sym is) in
    subst (λ (qs : List Packet). Knows C qs left.end) same (received_knows C packets p e d knows (delivered_by (says_last a) delivery))
delivered_knows C packets p theirs e delivery (Some d) there a (inr is) served knows = let lacks = ap fails is in cc

-- ---- any call

-- which number is expected no call changes but a delivery
same_taken : (o : Option ℕ) (by : Cause) → (IsPacket by → ⊥) → moves.Keeps by (λ (x : End). x.numbers.taken ≡ o)
same_taken o by apart (moves.taken n asking hurries mark) x may i = absurd (apart may)
same_taken o by apart (moves.takes n) x may i = absurd (apart may)
same_taken o by apart m x may i = i

taken_stays : (p : Policy) (e : End) (theirs : List (List ℕ)) (call : Call) (a : Answer) → is_delivery call ≡ false → (after_call p e theirs call a).numbers.taken ≡ e.numbers.taken
taken_stays p e theirs call a other = behind_call (λ (x : End). x.numbers.taken ≡ e.numbers.taken) p e theirs call a (same_taken e.numbers.taken (cause_of call) (no_packet call other)) refl

pub call_knows : (C : Type 0) (packets : List Packet) (p : Policy) (theirs : List (List ℕ)) (e : End) (call : Call) (a : Answer) → IsAnswer p e theirs call a → fails a ≡ false → (C → CodeIsSmall call) → Knows C packets e → Knows C (and_call p theirs call a packets) (after_call p e theirs call a)
call_knows C packets p theirs e (calls.Deliver delivery) a is served small knows = delivered_knows C packets p theirs e delivery (slice_get theirs delivery.index) refl a is served knows
call_knows C packets p theirs e call a is served small knows = record {
  acks = acks_step p e theirs call a refl knows.acks;
  taken = subst (λ (rs : List Run). (k : ℕ) → Has rs k → IsTaken packets k) (sym (runs_step p e theirs call a refl).0) knows.taken;
  expected = ap (λ (o : Option ℕ). after_greatest o) (taken_stays p e theirs call a refl) ∙ knows.expected;
  owes = λ codes. owed_call p e theirs call a (small codes) refl (knows.owes codes);
}
