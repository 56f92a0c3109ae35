-- The marks with which packets came: an end that stays open counts one more where it takes a packet
-- that came with one, and no other call changes its counts (RFC 9000, section 13.4.1).
use Rattle.std.proofs.Common.{◌≡◌, ℕ, Bool, true, false, List, Option, Some, None, refl, sym, ap, ◌∙◌, inl, inr}
use Rattle.std.specs.Prelude.{slice_get, not, ◌==◌, ◌||◌, if◌then◌else◌, Result, Ok, Err}
use Rattle.quic_wire_core.specs.declared.shared.EcnCodepoint.{EcnCodepoint}
use Rattle.quic_wire.specs.Value.{FrameValue}
use Rattle.quic_wire.specs.Items.{items}
use Rattle.quic_wire.specs.declared.frame.InvalidFrame.{InvalidFrame}
use Rattle.quic_packet.specs.Header.{key_phase, reserved_bits}
use Rattle.quic_packet.specs.Datagram.{Opening}
use Rattle.quic_recovery_core.specs.Duplicates.{is_duplicate}
use Rattle.quic_spaces.specs.Marks.{Counts, after_mark}
use Rattle.quic_spaces.specs.Numbers.{number_opened}
use Rattle.quic_machine.specs.Arrival.{Arrival, delivered_by}
use Rattle.quic_machine.specs.declared.answers.State.{State}
use Rattle.quic_machine.specs.declared.answers.State.TheVariants as states
use Rattle.quic_machine.specs.declared.answers.DropReason.{DropReason}
use Rattle.quic_machine.specs.declared.answers.DropReason.TheVariants as drops
use Rattle.quic_machine.specs.declared.answers.Received.{Received}
use Rattle.quic_machine.specs.declared.answers.Received.TheVariants as receives
use Rattle.quic_machine.specs.declared.run.Call.{Call}
use Rattle.quic_machine.specs.declared.run.Call.TheVariants as calls
use Rattle.quic_machine.specs.declared.run.Delivery.{Delivery}
use Rattle.quic_machine.specs.declared.run.Answer.{Answer}
use Rattle.quic_machine.specs.declared.run.Answer.TheVariants as answers
use Rattle.quic_machine.specs.Policy.{Policy}
use Rattle.quic_machine.specs.Closing.{ticked}
use Rattle.quic_machine.specs.End.{End, with_closing, with_numbers}
use Rattle.quic_machine.specs.Opens.{head}
use Rattle.quic_machine.specs.Receive.{Fault, Progress, Outcome, is_empty, violation, take_items, take_payload, take_frame, asks_in, is_urged, ends_as, by_state, dropped, opened_to, opened_as, opening, headed, received_in, received, broke, too_many_pieces, closed_by_peer, unopened_in, is_read, drawn_if, with_ids_drawn, items_taken, has_migrated}
use Rattle.quic_machine.specs.FrameCases.{items_keep}
use Rattle.quic_machine.specs.CallCases.{is_delivery}
use Rattle.quic_machine.specs.Machine.{IsAnswer, IsDelivered, after_delivered, after_call, fails, says_last}
use Rattle.quic_headline.specs.AckFrames.{mark_taken}
use Rattle.quic_headline.proofs.Packets.Moved.{by_migrated_if}
use Rattle.quic_headline.proofs.Packets.EndMoves.{Move, Cause, cause_of, IsPacket, after, OfFrame}
use Rattle.quic_headline.proofs.Packets.EndMoves as moves
use Rattle.quic_headline.proofs.Packets.ByMoves.{no_packet, behind_frame, behind_call}

-- an end counts so
abbrev CountsSo : Counts → End → Type 0
CountsSo counts e = e.marks.came ≡ counts

-- only a packet that is taken changes the counts
same_counts : (counts : Counts) (by : Cause) → (IsPacket by → ⊥) → moves.Keeps by (CountsSo counts)
same_counts counts by apart (moves.taken n asking hurries mark) e may i = absurd (apart may)
same_counts counts by apart m e may i = i

quiet_counts : (p : Policy) (e : End) (theirs : List (List ℕ)) (call : Call) (a : Answer) → is_delivery call ≡ false → CountsSo e.marks.came (after_call p e theirs call a)
quiet_counts p e theirs call a apart = behind_call (CountsSo e.marks.came) p e theirs call a (same_counts e.marks.came (cause_of call) (no_packet call apart)) refl

-- ---- a delivery

-- frames leave them
frame_counts : (counts : Counts) (f : FrameValue) (e : End) → CountsSo counts e → CountsSo counts (take_frame f e).end
frame_counts counts f e i = behind_frame f (CountsSo counts) keep e i
  where
    keep : (m : Move) (x : End) → OfFrame f m x → CountsSo counts x → CountsSo counts (after m x)
    keep (moves.taken n asking hurries mark) x of j = absurd of
    keep m x of j = j

payload_counts : (counts : Counts) (first : ℕ) (is : List (Result FrameValue InvalidFrame)) (e : End) → CountsSo counts e → CountsSo counts (take_payload first is e).end
payload_counts counts first is e i = go (not (reserved_bits first == 0) || is_empty is)
  where
    go : (b : Bool) → CountsSo counts (if b then record { end = e; fault = Some violation } else take_items is e).end
    go true = i
    go false = items_keep (CountsSo counts) (frame_counts counts) is e i

-- the mark with which a packet came that was taken
abbrev taken_mark : Received → Option EcnCodepoint → Option EcnCodepoint
taken_mark receives.Taken mark = mark
taken_mark r mark = None

module _ (p : Policy) (arrival : Arrival) where
  -- behind a datagram an end that is open counts one more where it was taken and came with a mark
  abbrev CountsBy : End → Outcome → Type 0
  CountsBy e o = o.end.closing.state ≡ states.Open → o.end.marks.came ≡ after_mark (taken_mark o.answer arrival.mark) e.marks.came

  -- all frames were taken, or one was at fault
  ends_counts : (fault : Option Fault) (asking urged : Bool) (n : ℕ) (e f : End) → f.marks.came ≡ e.marks.came → CountsBy e (ends_as fault asking urged n arrival.mark f)
  ends_counts None asking urged n e f same opened = ap (after_mark arrival.mark) same
  ends_counts (Some (closed_by_peer close)) asking urged n e f same opened = cc
  ends_counts (Some (broke error)) asking urged n e f same opened = cc
  ends_counts (Some too_many_pieces) asking urged n e f same opened = cc

  state_counts : (s : State) (o : Opening) (e : End) → CountsBy e (by_state s o arrival e)
  state_counts states.Open o e opened = (
      let begins : End = with_closing e (ticked e.closing arrival.now) in
      let asks = asks_in (items o.payload) in
      let within = items_taken o arrival e in
      let left : Progress = take_payload o.first within begins in
      ends_counts left.fault asks (is_urged arrival.mark asks within begins) o.number e left.end (payload_counts e.marks.came o.first within begins refl) opened)
  state_counts states.Closing o e opened = refl
  state_counts states.Drained o e opened = refl
  state_counts states.Failed o e opened = refl

  opened_counts : (o : Opening) (e : End) → CountsBy e (opened_to o arrival e)
  opened_counts o e = go (key_phase o.first) (is_duplicate e.numbers.opened o.number)
    where
      go : (phase again : Bool) → CountsBy e (if phase then dropped drops.KeyPhase e else (if again then dropped drops.Duplicate e else by_state e.closing.state o arrival (with_numbers e (number_opened e.numbers o.number))))
      go true again opened = refl
      go false true opened = refl
      go false false opened = state_counts e.closing.state o (with_numbers e (number_opened e.numbers o.number)) opened

  -- it doesn't open
  unopened_counts : (s : State) (b : Bool) (e : End) → CountsBy e (unopened_in s b arrival e)
  unopened_counts states.Open true e opened = cc
  unopened_counts states.Open false e opened = refl
  unopened_counts states.Closing b e opened = refl
  unopened_counts states.Drained b e opened = refl
  unopened_counts states.Failed b e opened = refl

  -- ids are drawn, or aren't
  drawn_counts : (o : Outcome) (e : End) → CountsBy e o → CountsBy e (with_ids_drawn p o)
  drawn_counts o e i = go (is_read o.answer)
    where
      go : (b : Bool) → CountsBy e (record { answer = o.answer; end = drawn_if b p o.end })
      go true = i
      go false = i

  maybe_counts : (o : Option Opening) (e : End) → CountsBy e (opened_as o p arrival e)
  maybe_counts None e = unopened_counts e.closing.state arrival.last e
  maybe_counts (Some o) e =
      let out = with_ids_drawn p (opened_to o arrival e) in
      let counts = drawn_counts (opened_to o arrival e) e (opened_counts o e) in
      by_migrated_if (λ (x : End). CountsBy e (record { answer = out.answer; end = x })) p o arrival.remote out.end (λ c. counts) (λ c most. counts) (has_migrated o arrival.remote e out) counts

  headed_counts : (r : Result (List ℕ) DropReason) (e : End) (d : List ℕ) → CountsBy e (headed r p e arrival d)
  headed_counts (Err error) e d opened = refl
  headed_counts (Ok id) e d opened = maybe_counts (opening p e d) e opened

  received_counts : (e : End) (d : List ℕ) → CountsBy e (received p e arrival d)
  received_counts e d = go e.closing.state
    where
      go : (s : State) → CountsBy e (received_in s p e arrival d)
      go states.Failed opened = refl
      go states.Drained opened = refl
      go states.Open opened = headed_counts (head e arrival.remote d) e d opened
      go states.Closing opened = headed_counts (head e arrival.remote d) e d opened

-- an observer reads the same mark of the answer
mark_read : (delivery : Delivery) (r : Received) → taken_mark r delivery.ecn ≡ mark_taken (calls.Deliver delivery) (answers.Deliver r)
mark_read delivery receives.Taken = refl
mark_read delivery (receives.Dropped reason) = refl
mark_read delivery (receives.Closed error) = refl
mark_read delivery receives.Failed = refl

delivered_counts : (p : Policy) (e : End) (delivery : Delivery) (o : Option (List ℕ)) (a : Answer) → IsDelivered p e delivery o a → fails a ≡ false → (after_delivered p e (delivered_by (says_last a) delivery) o).closing.state ≡ states.Open
    → (after_delivered p e (delivered_by (says_last a) delivery) o).marks.came ≡ after_mark (mark_taken (calls.Deliver delivery) a) e.marks.came
delivered_counts p e delivery None a is served opened = ap (λ (b : Answer). after_mark (mark_taken (calls.Deliver delivery) b) e.marks.came) (sym is)
delivered_counts p e delivery (Some d) a (inr is) served opened = cc
delivered_counts p e delivery (Some d) a (inl is) served opened =
    let o : Outcome = received p e (delivered_by (says_last a) delivery) d in
    received_counts p (delivered_by (says_last a) delivery) e d opened
    ∙ ap (λ (mark : Option EcnCodepoint). after_mark mark e.marks.came) (mark_read delivery o.answer)
    ∙ ap (λ (b : Answer). after_mark (mark_taken (calls.Deliver delivery) b) e.marks.came) (sym is)

-- ---- any call

-- one that is no delivery takes no packet
none_taken : (call : Call) (a : Answer) → is_delivery call ≡ false → mark_taken call a ≡ None
none_taken (calls.Deliver delivery) a apart = cc
none_taken call a apart = refl

-- an end that stays open counts one more where the call took a packet that came with a mark
pub call_counts : (p : Policy) (e : End) (theirs : List (List ℕ)) (call : Call) (a : Answer) → IsAnswer p e theirs call a → fails a ≡ false → (after_call p e theirs call a).closing.state ≡ states.Open → (after_call p e theirs call a).marks.came ≡ after_mark (mark_taken call a) e.marks.came
call_counts p e theirs (calls.Deliver delivery) a is served opened = delivered_counts p e delivery (slice_get theirs delivery.index) a is served opened
call_counts p e theirs call a is served opened = quiet_counts p e theirs call a refl ∙ ap (λ (mark : Option EcnCodepoint). after_mark mark e.marks.came) (sym (none_taken call a refl))
