-- Behind a step no end has a text of more bytes than before, or than the datagram that was
-- delivered to it.
use Rattle.std.proofs.Common.{◌≡◌, ◌≤◌, ℕ, ◌+◌, Bool, true, false, not, ◌||◌, ◌==◌, List, [], ◌∷◌, length, Option, Some, None, Result, Ok, Err, inl, inr, refl, sym, ap, ◌∙◌, subst, arith}
use Rattle.std.specs.Prelude.{if◌then◌else◌, slice_get, map}
use Rattle.quic_wire_core.specs.declared.shared.EcnCodepoint.{EcnCodepoint}
use Rattle.quic_wire_core.specs.declared.stream_id.Side.{Side}
use Rattle.quic_wire_core.specs.declared.stream_id.Side.TheVariants.{Client, Server}
use Rattle.quic_wire_core.specs.StreamId.{other_side}
use Rattle.quic_wire.specs.Items.{items}
use Rattle.quic_wire.specs.Value.{FrameValue, connection_close, application_close, path_challenge, path_response}
use Rattle.quic_wire.specs.declared.frame.InvalidFrame.{InvalidFrame}
use Rattle.quic_packet.specs.Header.{key_phase, reserved_bits}
use Rattle.quic_packet.specs.Keys.{KeepsLength, OpensNoMore}
use Rattle.quic_packet.specs.Datagram.{Opening}
use Rattle.quic_recovery_core.specs.Duplicates.{is_duplicate}
use Rattle.quic_spaces.specs.Numbers.{expected, number_opened, can_number}
use Rattle.quic_machine.specs.Arrival.{Arrival, delivered_by}
use Rattle.quic_machine.specs.declared.answers.State.{State}
use Rattle.quic_machine.specs.declared.answers.State.TheVariants as states
use Rattle.quic_machine.specs.declared.answers.DropReason.{DropReason}
use Rattle.quic_machine.specs.declared.answers.DropReason.TheVariants as drops
use Rattle.quic_machine.specs.declared.answers.LostReason.{LostReason}
use Rattle.quic_machine.specs.declared.answers.LostReason.TheVariants as reasons
use Rattle.quic_machine.specs.declared.run.Call.{Call}
use Rattle.quic_machine.specs.declared.run.Call.TheVariants as calls
use Rattle.quic_machine.specs.declared.run.Answer.{Answer}
use Rattle.quic_machine.specs.declared.run.RunEvent.{RunEvent}
use Rattle.quic_machine.specs.Reasons.{text_len}
use Rattle.quic_machine.specs.Policy.{Policy}
use Rattle.quic_machine.specs.Closing.{Closing, ticked}
use Rattle.quic_machine.specs.Heard.{Heard}
use Rattle.quic_machine.specs.Control.{Control}
use Rattle.quic_machine.specs.End.{End, with_closing, with_numbers, closed_by}
use Rattle.quic_machine.specs.Opens.{own_id_length, head}
use Rattle.quic_machine.specs.Migration.{is_there, item_elsewhere, items_at}
use Rattle.quic_machine.specs.Receive.{Fault, broke, too_many_pieces, closed_by_peer, reason_of, violation, is_empty, asks_in, is_urged, take_frame, take_item, take_items, take_payload, unless_fault, dropped, ends_as, by_state, items_taken, opened_to, opened_as, opening, headed, received_in, is_read, drawn_if, with_ids_drawn, has_migrated, migrated_if, unopened_in}
use Rattle.quic_machine.specs.Poll.{Polled, bounds, may_seal, polled}
use Rattle.quic_machine.specs.Timeouts.{loss_judged}
use Rattle.quic_machine.specs.Machine.{World, Policies, IsLeft, IsStep, after_call, after_delivered, says_last, reads_window, fails, end_at, policy_at, given_by}
use Rattle.quic_machine.specs.FrameCases.{Settling, acked_keeps, losses_keep, frame_keeps, frame_leaves, items_keep, apart_leaves, named}
use Rattle.quic_machine.specs.Steps as steps
use Rattle.quic_machine.specs.LeaveCases.{Expired, by_timers}
use Rattle.quic_machine.specs.LeaveCases as expiring
use Rattle.quic_machine.specs.PollCases.{at_poll, by_poll, composes}
use Rattle.quic_machine.specs.CallCases.{Plain, IsOwn, is_delivery, by_plain_call}
use Rattle.quic_machine.specs.CallCases as cases
use Rattle.quic_machine.specs.DraftLaws.{IsClose}
use Rattle.quic_headline.proofs.Alone.Weights.{payload_fits}
use Rattle.quic_headline.proofs.Packets.Apart.{by_next_id, by_waits}
use Rattle.quic_headline.proofs.Packets.Closes.{by_closes}
use Rattle.quic_headline.proofs.Packets.Moved.{migrated_closing}
use Rattle.quic_headline.proofs.Packets.Owing.{closing_among}
use Rattle.quic_headline.proofs.Packets.Probes.{may_leave}
use Rattle.quic_connection.specs.Rooms.{told_len, len_of, handed_len}
use Rattle.quic_connection.proofs.Texts.{text_in, item_text, AllFit, items_fit}

-- ---- frames

-- how many bytes the text has that a fault brings; 0 where none is
abbrev fault_len : Option Fault → ℕ
fault_len None = 0
fault_len (Some f) = text_len (reason_of f)

-- a frame brings no other text than its own
frame_fault : (f : FrameValue) (e : End) → fault_len (take_frame f e).fault ≤ text_in f
frame_fault (connection_close c) e = omega arith
frame_fault (application_close c) e = omega arith
frame_fault f e = go (take_frame f e).fault refl
  where
    go : (o : Option Fault) → (take_frame f e).fault ≡ o → fault_len o ≤ 0
    go None is = omega arith
    go (Some (broke error)) is = omega arith
    go (Some too_many_pieces) is = omega arith
    go (Some (closed_by_peer close)) is =
        let found = closing_among (f ∷ []) e close (ap (λ (o : Option Fault). (unless_fault o (take_frame f e) (take_items [])).fault) is ∙ is) in
        elim found.1 [ inl same ↦ absurd (subst IsClose same found.2) | inr none ↦ absurd none ]

item_fault : (i : Result FrameValue InvalidFrame) (e : End) → fault_len (take_item i e).fault ≤ item_text i
item_fault (Ok f) e = frame_fault f e
item_fault (Err x) e = omega arith

-- what came from elsewhere has no other text
elsewhere_text : (n : ℕ) (i : Result FrameValue InvalidFrame) → item_text i ≤ n → item_text (item_elsewhere i) ≤ n
elsewhere_text n (Ok (path_challenge token)) fit = fit
elsewhere_text n (Ok (path_response token)) fit = fit
elsewhere_text n i fit = fit

elsewhere_fit : (n : ℕ) (is : List (Result FrameValue InvalidFrame)) → AllFit n is → AllFit n (map item_elsewhere is)
elsewhere_fit n [] fit = tt
elsewhere_fit n (i ∷ is) fit = (elsewhere_text n i fit.0, elsewhere_fit n is fit.1)

taken_fit : (n : ℕ) (here : Bool) (is : List (Result FrameValue InvalidFrame)) → AllFit n is → AllFit n (items_at here is)
taken_fit n true is fit = fit
taken_fit n false is fit = elsewhere_fit n is fit

-- so it is of all items of a payload
items_fault : (n : ℕ) (is : List (Result FrameValue InvalidFrame)) (e : End) → AllFit n is → fault_len (take_items is e).fault ≤ n
items_fault n [] e fit = omega arith
items_fault n (i ∷ is) e fit = go (take_item i e).fault (items_fault n is (take_item i e).end fit.1)
  where
    go : (o : Option Fault) → fault_len (take_items is (take_item i e).end).fault ≤ n → fault_len (unless_fault o (take_item i e) (take_items is)).fault ≤ n
    go None others = others
    go (Some f) others = let own = item_fault i e in let first = fit.0 in omega (arith, own, first)

payload_fault : (n first : ℕ) (is : List (Result FrameValue InvalidFrame)) (e : End) → AllFit n is → fault_len (take_payload first is e).fault ≤ n
payload_fault n first is e fit = go (not (reserved_bits first == 0) || is_empty is)
  where
    go : (b : Bool) → fault_len (if b then record { end = e; fault = Some violation } else take_items is e).fault ≤ n
    go true = omega arith
    go false = items_fault n is e fit

module _ (n : ℕ) where
  -- the text with which the peer closed an end has at most so many bytes
  abbrev Fits : End → Type 0
  Fits x = told_len x.closing.reason ≤ n

  -- ---- a datagram

  settling : Settling Fits
  settling (steps.known k) x i = i
  settling s x i = i

  frame_keeps_text : (f : FrameValue) (x : End) → Fits x → Fits (take_frame f x).end
  frame_keeps_text = frame_keeps Fits (record {
    ack = λ rises a x i. acked_keeps Fits settling rises a (named a x) i;
    on_streams = λ f x on i. frame_leaves Fits f x on (λ t. i);
    apart = λ f x is i. apart_leaves Fits f x is (λ c. i) (λ c most. i);
    message = λ m x i. i;
  })

  payload_keeps_text : (first : ℕ) (is : List (Result FrameValue InvalidFrame)) (x : End) → Fits x → Fits (take_payload first is x).end
  payload_keeps_text first is x i = go (not (reserved_bits first == 0) || is_empty is)
    where
      go : (b : Bool) → Fits (if b then record { end = x; fault = Some violation } else take_items is x).end
      go true = i
      go false = items_keep Fits frame_keeps_text is x i

  ends_fit : (fault : Option Fault) (asking urged : Bool) (k : ℕ) (mark : Option EcnCodepoint) (x : End) → fault_len fault ≤ n → Fits x → Fits (ends_as fault asking urged k mark x).end
  ends_fit None asking urged k mark x few i = i
  ends_fit (Some (closed_by_peer close)) asking urged k mark x few i = few
  ends_fit (Some (broke error)) asking urged k mark x few i = few
  ends_fit (Some too_many_pieces) asking urged k mark x few i = few

  state_fits : (s : State) (o : Opening) (arrival : Arrival) (x : End) → length o.payload ≤ n → Fits x → Fits (by_state s o arrival x).end
  state_fits states.Open o arrival x few i =
      let begins : End = with_closing x (ticked x.closing arrival.now) in
      let is = items_taken o arrival x in
      let asks = asks_in (items o.payload) in
      let taken = take_payload o.first is begins in
      let fit : AllFit n is = taken_fit n (is_there arrival.remote x) (items o.payload) (items_fit n o.payload few) in
      ends_fit taken.fault asks (is_urged arrival.mark asks is begins) o.number arrival.mark taken.end (payload_fault n o.first is begins fit) (payload_keeps_text o.first is begins i)
  state_fits states.Closing o arrival x few i = i
  state_fits states.Drained o arrival x few i = i
  state_fits states.Failed o arrival x few i = i

  drawn_fits : (b : Bool) (p : Policy) (x : End) → Fits x → Fits (drawn_if b p x)
  drawn_fits true p x i = i
  drawn_fits false p x i = i

  moved_fits : (b : Bool) (p : Policy) (o : Opening) (remote : ℕ) (x : End) → Fits x → Fits (migrated_if b p o remote x)
  moved_fits true p o remote x i = subst (λ (c : Closing). told_len c.reason ≤ n) (sym (migrated_closing p o remote x)) i
  moved_fits false p o remote x i = i

  unopened_fits : (s : State) (b : Bool) (arrival : Arrival) (x : End) → Fits x → Fits (unopened_in s b arrival x).end
  unopened_fits states.Open true arrival x i = omega arith
  unopened_fits states.Open false arrival x i = i
  unopened_fits states.Closing b arrival x i = i
  unopened_fits states.Drained b arrival x i = i
  unopened_fits states.Failed b arrival x i = i

  opened_fits : (o : Opening) (arrival : Arrival) (x : End) → length o.payload ≤ n → Fits x → Fits (opened_to o arrival x).end
  opened_fits o arrival x few i = go (key_phase o.first) (is_duplicate x.numbers.opened o.number)
    where
      noted : End
      noted = with_numbers x (number_opened x.numbers o.number)

      go : (phase again : Bool) → Fits (if phase then dropped drops.KeyPhase x else (if again then dropped drops.Duplicate x else by_state x.closing.state o arrival noted)).end
      go true again = i
      go false true = i
      go false false = state_fits x.closing.state o arrival noted few i

  module _ (p : Policy) (keeps : KeepsLength p.header.reveal) (opens : OpensNoMore p.packet.unseal) (x : End) (i : Fits x) where
    packet_fits : (o : Option Opening) (arrival : Arrival) → ((k : Opening) → o ≡ Some k → length k.payload ≤ n) → Fits (opened_as o p arrival x).end
    packet_fits None arrival few = unopened_fits x.closing.state arrival.last arrival x i
    packet_fits (Some o) arrival few =
        let out = with_ids_drawn p (opened_to o arrival x) in
        moved_fits (has_migrated o arrival.remote x out) p o arrival.remote out.end (drawn_fits (is_read (opened_to o arrival x).answer) p (opened_to o arrival x).end (opened_fits o arrival x (few o refl) i))

    headed_fits : (r : Result (List ℕ) DropReason) (arrival : Arrival) (d : List ℕ) → length d ≤ n → Fits (headed r p x arrival d).end
    headed_fits (Err error) arrival d few = i
    headed_fits (Ok id) arrival d few = packet_fits (opening p x d) arrival (λ o is. (let short = payload_fits p.header p.packet (own_id_length + 1) (expected x.numbers) d o keeps opens is in omega (arith, short, few)))

    received_fits : (s : State) (arrival : Arrival) (d : List ℕ) → length d ≤ n → Fits (received_in s p x arrival d).end
    received_fits states.Failed arrival d few = i
    received_fits states.Drained arrival d few = i
    received_fits states.Open arrival d few = headed_fits (head x arrival.remote d) arrival d few
    received_fits states.Closing arrival d few = headed_fits (head x arrival.remote d) arrival d few

    delivered_fits : (o : Option (List ℕ)) (arrival : Arrival) → len_of o ≤ n → Fits (after_delivered p x arrival o)
    delivered_fits None arrival few = i
    delivered_fits (Some d) arrival few = received_fits x.closing.state arrival d few

  -- ---- a poll

  -- an end whose numbers or whose key are used up closes without a text
  bound_len : (p : Policy) (e : End) → told_len (bounds p e) ≡ 0
  bound_len p e = go (can_number e.numbers) (may_seal p e)
    where
      go : (numbered sealed : Bool) → told_len (if not numbered then Some reasons.NumberLimit else (if not sealed then Some reasons.KeyLimit else None)) ≡ 0
      go true true = refl
      go true false = refl
      go false sealed = refl

  polled_fits : (p : Policy) (e : End) (now : ℕ) → Fits e → Fits (polled p e now).end
  polled_fits p e now i = by_poll p e now (λ (q : Polled). Fits q.end) (record {
    silent = i;
    failed = i;
    nothing = λ c. i;
    repeats = λ closing. by_closes p (with_closing e (ticked e.closing now)) (λ (q : Polled). Fits q.end) i (λ f goes. i);
    closes = λ reason c limit.
        let none : told_len (Some reason) ≡ 0 = ap told_len (sym limit) ∙ bound_len p e in
        let few : told_len (Some reason) ≤ n = omega (arith, none) in
        by_closes p (closed_by reason (at_poll e now c)) (λ (q : Polled). Fits q.end) few (λ f goes. few);
    gives = λ leaving c left still may ready some.
        let x : End = at_poll e now c in
        subst (λ (z : Closing). told_len z.reason ≤ n) (sym (composes leaving x (may_leave e now leaving x ready)).closing) i;
  })

  -- ---- a moment

  each_fits : (s : Expired) (x : End) → Fits x → Fits (expiring.after s x)
  each_fits expiring.of_acks x i = i
  each_fits s x i = i

  judged_fits : (o : Option ℕ) (x : End) → Fits x → Fits (loss_judged o x)
  judged_fits None x i = i
  judged_fits (Some moment) x i = losses_keep Fits settling x i

  -- ---- any call

  own_fits : (reason : LostReason) → IsOwn reason → told_len (Some reason) ≤ n
  own_fits reasons.Application own = omega arith
  own_fits reasons.KeyLimit own = omega arith
  own_fits reason own = absurd own

  plain_fits : (p : Policy) (e : End) (call : Call) → is_delivery call ≡ false → Fits e → Plain p e call Fits
  plain_fits p e call other i (cases.closes reason f now) may = own_fits reason may
  plain_fits p e call other i (cases.waits now b) may = by_waits Fits b (with_closing e (ticked e.closing now)) i i
  plain_fits p e call other i (cases.changes_id a) may = by_next_id Fits e a i (λ c. i) (λ c most. i)
  plain_fits p e call other i (cases.times now expiry) may = by_timers p.words Fits Fits judged_fits each_fits (λ x j. j) (λ x j. omega arith) expiry (with_closing e (ticked e.closing now)) i
  plain_fits p e call other i (cases.polls now) may = polled_fits p e now i
  plain_fits p e call other i (cases.hears arrival d) may = absurd (let no : true ≡ false = sym may ∙ other in cc)
  plain_fits p e call other i c may = i

  -- a text that is left was there, or its bytes were delivered
  call_fits : (p : Policy) → KeepsLength p.header.reveal → OpensNoMore p.packet.unseal → (e : End) (theirs : List (List ℕ)) (call : Call) (a : Answer) → Fits e → handed_len theirs call ≤ n → Fits (after_call p e theirs call a)
  call_fits p keeps opens e theirs (calls.Deliver delivery) a i few = delivered_fits p keeps opens e i (slice_get theirs delivery.index) (delivered_by (says_last a) delivery) few
  call_fits p keeps opens e theirs call a i few = by_plain_call p e theirs Fits call a (plain_fits p e call refl i)

  -- whatever a poll reads
  left_fits : (b : Bool) (p : Policy) → KeepsLength p.header.reveal → OpensNoMore p.packet.unseal → (control : Control) (heard : Heard) (e : End) (theirs : List (List ℕ)) (call : Call) (a : Answer) (next : End) → Fits e → handed_len theirs call ≤ n → IsLeft b p control heard e theirs call a next → Fits next
  left_fits true p keeps opens control heard e theirs call a next i few stopped = subst (λ (r : Option LostReason). told_len r ≤ n) (sym stopped.1) (omega arith)
  left_fits false p keeps opens control heard e theirs call a next i few is = subst Fits (sym is) (call_fits p keeps opens (reads_window control heard call e) theirs call a (reads call) few)
    where
      reads : (c : Call) → Fits (reads_window control heard c e)
      reads (calls.Poll now) = i
      reads c = i

-- so it is of both ends behind a step, whichever it came to
pub step_fits : (n : ℕ) (side : Side) (k : Policies) → KeepsLength (policy_at side k).header.reveal → OpensNoMore (policy_at side k).packet.unseal → (w : World) (event : RunEvent) (a : Answer) (next : World) → IsStep k w event a next
    → told_len (end_at side w).closing.reason ≤ n → (event.side ≡ side → handed_len (given_by (other_side side) w) event.call ≤ n) → told_len (end_at side next).closing.reason ≤ n
step_fits n side k keeps opens w event a next step i few = go event.side event.call side keeps opens step i few
  where
    -- the other end stays as it was
    stays : (r s : Option LostReason) → r ≡ s → told_len s ≤ n → told_len r ≤ n
    stays r s same j = subst (λ (t : Option LostReason). told_len t ≤ n) (sym same) j

    go : (at : Side) (call : Call) (side : Side) → KeepsLength (policy_at side k).header.reveal → OpensNoMore (policy_at side k).packet.unseal → IsStep k w (record { side = at; call = call }) a next
        → told_len (end_at side w).closing.reason ≤ n → (at ≡ side → handed_len (given_by (other_side side) w) call ≤ n) → told_len (end_at side next).closing.reason ≤ n
    go Client call Client keeps opens s i few = left_fits n (fails a) k.client keeps opens w.client_control w.client_heard w.client w.from_server call a next.client i (few refl) s.end
    go Server call Server keeps opens s i few = left_fits n (fails a) k.server keeps opens w.server_control w.server_heard w.server w.from_client call a next.server i (few refl) s.end
    go Client call Server keeps opens s i few = stays next.server.closing.reason w.server.closing.reason (ap (λ (v : World). v.server.closing.reason) s.others) i
    go Server call Client keeps opens s i few = stays next.client.closing.reason w.client.closing.reason (ap (λ (v : World). v.client.closing.reason) s.others) i
