-- A datagram that comes to an open end: what its controller is told, beside what came by it. It
-- tells nothing where the end isn't open.
use Rattle.std.proofs.Common.{◌≡◌, ℕ, Bool, true, false, not, ◌||◌, ◌==◌, List, [], ◌∷◌, map, Option, Some, None, Result, Ok, Err, refl, sym, ap, subst}
use Rattle.std.specs.Prelude.{if◌then◌else◌}
use Rattle.quic_wire.specs.Value.{FrameValue}
use Rattle.quic_wire.specs.Items.{items}
use Rattle.quic_wire.specs.declared.frame.InvalidFrame.{InvalidFrame}
use Rattle.quic_packet.specs.Header.{key_phase, reserved_bits}
use Rattle.quic_packet.specs.Datagram.{Opening}
use Rattle.quic_congestion.specs.Congestion.{Told}
use Rattle.quic_recovery_core.specs.Duplicates.{is_duplicate}
use Rattle.quic_spaces.specs.Numbers.{expected, number_opened}
use Rattle.quic_machine.specs.declared.answers.State.{State}
use Rattle.quic_machine.specs.declared.answers.State.TheVariants as states
use Rattle.quic_machine.specs.declared.answers.DropReason.{DropReason}
use Rattle.quic_machine.specs.declared.answers.DropReason.TheVariants as drops
use Rattle.quic_machine.specs.declared.answers.Received.TheVariants.{Taken, Closed}
use Rattle.quic_machine.specs.declared.run.Answer.{Answer}
use Rattle.quic_machine.specs.declared.run.Answer.TheVariants as answers
use Rattle.quic_machine.specs.Arrival.{Arrival, early}
use Rattle.quic_machine.specs.Policy.{Policy}
use Rattle.quic_machine.specs.Opens.{in_phase, opens_behind, head}
use Rattle.quic_machine.specs.Migration.{is_there, items_at}
use Rattle.quic_machine.specs.End.{End, with_numbers}
use Rattle.quic_machine.specs.Receive.{Fault, Progress, Outcome, error_of, violation, asks_in, is_urged, is_empty, take_items, dropped, ends_as, by_state, headed, opened_as, received_in, received, opening, told_items, told_by_state, told_opened_as, told_headed, told_received_in, told_received, broke, too_many_pieces, closed_by_peer}
use Rattle.quic_machine.specs.FrameCases.{begun}
use Rattle.quic_wire.specs.Close.{CloseValue}
use Rattle.quic_headline.specs.Runs.{Intake, frames_of, is_again, is_refused, packet_of, came_open, and_opened, and_handed}
use Rattle.quic_headline.proofs.Packets.Invariant.{Knows}
use Rattle.quic_headline.proofs.Packets.Window.{is_duplicate-is}
use Rattle.quic_headline.proofs.Packets.Delivered.{with_taken, with_refused}
use Rattle.quic_headline.proofs.Packets.Owing.{IsAlone}
use Rattle.quic_headline.proofs.Packets.ByKey.{came_open_is}

-- The items of a payload were sent as frames of which a close goes alone.
pub record AreSent (is : List (Result FrameValue InvalidFrame)) : Type 0 where
  pub frames : List FrameValue
  pub same : is ≡ map Ok frames
  pub alone : IsAlone frames

-- the cases of a datagram that comes to an open end: P of the answer, of what its controller is
-- told, and of what came then
pub record Hearings (e : End) (now : ℕ) (i : Intake) (P : Answer → List Told → Intake → Type 0) : Type 0 where
  -- nothing comes
  pub nothing : (a : Answer) → P a [] i
  -- a packet is taken, whose payload has these items, from where the peer is or from elsewhere
  pub takes : (n : ℕ) (here : Bool) (is : List (Result FrameValue InvalidFrame)) → (take_items (items_at here is) (begun e now n)).fault ≡ None → P (answers.Deliver Taken) (told_items (items_at here is) (begun e now n)) (with_taken i n (frames_of is))
  -- one is taken so far as the peer closes by one of its items, which were sent as these frames
  pub drains : (close : CloseValue) (n : ℕ) (here : Bool) (is : List (Result FrameValue InvalidFrame)) → AreSent is → (take_items (items_at here is) (begun e now n)).fault ≡ Some (closed_by_peer close) → P (answers.Deliver Taken) (told_items (items_at here is) (begun e now n)) (with_taken i n (frames_of is))
  -- one is refused, for one of its items
  pub refuses : (fault : Fault) (n : ℕ) (here : Bool) (is : List (Result FrameValue InvalidFrame)) → P (answers.Deliver (Closed (error_of fault))) (told_items (items_at here is) (begun e now n)) (with_refused i n (frames_of is))
  -- or as a whole
  pub whole : (fault : Fault) (n : ℕ) (frames : List FrameValue) → P (answers.Deliver (Closed (error_of fault))) [] (with_refused i n frames)

module _ (q : Policy) (e : End) (arrival : Arrival) (i : Intake) (d : List ℕ) (P : Answer → List Told → Intake → Type 0) (k : Knows e.numbers i) (opened : e.closing.state ≡ states.Open) (sent : (o : Opening) → opening q e d ≡ Some o → AreSent (items o.payload)) (cases : Hearings e arrival.now i P) where
  module _ (o : Opening) (from : AreSent (items o.payload)) where
    -- the end once its number is noted
    abbrev noted : End
    noted = with_numbers e (number_opened e.numbers o.number)

    -- what came by a packet that is new
    abbrev came_new : Answer → Intake
    came_new a = record {
      opened = o.number ∷ i.opened;
      took = if is_refused a then i.took else packet_of o ∷ i.took;
      part = if is_refused a then Some (packet_of o) else i.part;
    }

    -- what came by one that opened, where its key phase is another, or it came before
    abbrev came : Bool → Bool → Answer → Intake
    came true again a = i
    came false again a = if again then i else came_new a

    came_is : (phase : Bool) (a : Answer) → and_opened (if phase then None else Some o) a i ≡ came phase (is_again o.number i.opened) a
    came_is true a = refl
    came_is false a = refl

    -- what is made of it
    abbrev outcome : Bool → Bool → State → Outcome
    outcome phase again s = if phase then dropped drops.KeyPhase e else (if again then dropped drops.Duplicate e else by_state s o arrival noted)

    -- what is taken of its items
    abbrev here : Bool
    here = is_there arrival.remote e

    abbrev taken : List (Result FrameValue InvalidFrame)
    taken = items_at here (items o.payload)

    -- what it comes to, at fault or not
    abbrev left : Option Fault → End → Outcome
    left f x = ends_as f (asks_in (items o.payload)) (is_urged arrival.mark (asks_in (items o.payload)) taken (begun e arrival.now o.number)) o.number arrival.mark x

    faults : (f : Option Fault) → (take_items taken (begun e arrival.now o.number)).fault ≡ f
        → P (answers.Deliver (left f (take_items taken (begun e arrival.now o.number)).end).answer) (told_items taken (begun e arrival.now o.number)) (came_new (answers.Deliver (left f (take_items taken (begun e arrival.now o.number)).end).answer))
    faults None none = cases.takes o.number here (items o.payload) none
    faults (Some (closed_by_peer close)) some = cases.drains close o.number here (items o.payload) from some
    faults (Some (broke error)) some = cases.refuses (broke error) o.number here (items o.payload)
    faults (Some too_many_pieces) some = cases.refuses too_many_pieces o.number here (items o.payload)

    -- what is taken of a payload that is refused as a whole, or isn't
    abbrev payload_if : Bool → Progress
    payload_if b = if b then record { end = begun e arrival.now o.number; fault = Some violation } else take_items taken (begun e arrival.now o.number)

    payload : (b : Bool) → P (answers.Deliver (left (payload_if b).fault (payload_if b).end).answer) (if b then [] else told_items taken (begun e arrival.now o.number)) (came_new (answers.Deliver (left (payload_if b).fault (payload_if b).end).answer))
    payload true = cases.whole violation o.number (frames_of (items o.payload))
    payload false = faults (take_items taken (begun e arrival.now o.number)).fault refl

    abbrev Heard : Bool → Bool → Bool → State → Type 0
    Heard phase again b s = P (answers.Deliver (outcome phase again s).answer) (if phase || again then [] else told_by_state s o (early arrival) noted) (came phase b (answers.Deliver (outcome phase again s).answer))

    tested : (phase again : Bool) → Heard phase again again states.Open
    tested true again = cases.nothing (answers.Deliver (dropped drops.KeyPhase e).answer)
    tested false true = cases.nothing (answers.Deliver (dropped drops.Duplicate e).answer)
    tested false false = payload (not (reserved_bits o.first == 0) || is_empty taken)

    packet : P (answers.Deliver (opened_as (Some o) q arrival e).answer) (told_opened_as (Some o) (early arrival) e) (and_opened (if key_phase o.first then None else Some o) (answers.Deliver (opened_as (Some o) q arrival e).answer) i)
    packet =
        let again : Bool = is_duplicate e.numbers.opened o.number in
        let a : Answer = answers.Deliver (opened_as (Some o) q arrival e).answer in
        subst (λ (j : Intake). P a (told_opened_as (Some o) (early arrival) e) j) (sym (came_is (key_phase o.first) a))
        (subst (λ (b : Bool). Heard (key_phase o.first) again b e.closing.state) (is_duplicate-is i.opened e.numbers.opened o.number k.seen)
        (subst (λ (s : State). Heard (key_phase o.first) again again s) (sym opened) (tested (key_phase o.first) again)))

  opening_case : (o : Option Opening) → opening q e d ≡ o → P (answers.Deliver (opened_as o q arrival e).answer) (told_opened_as o (early arrival) e) (and_opened (in_phase o) (answers.Deliver (opened_as o q arrival e).answer) i)
  opening_case None is = cases.nothing (answers.Deliver (opened_as None q arrival e).answer)
  opening_case (Some o) is = packet o (sent o is)

  header_case : (r : Result (List ℕ) DropReason) → P (answers.Deliver (headed r q e arrival d).answer) (told_headed r q e (early arrival) d) (and_opened (opens_behind r q (expected e.numbers) d) (answers.Deliver (headed r q e arrival d).answer) i)
  header_case (Err error) = cases.nothing (answers.Deliver (headed (Err error) q e arrival d).answer)
  header_case (Ok id) = opening_case (opening q e d) refl

  at_open : P (answers.Deliver (received_in states.Open q e arrival d).answer) (told_received_in states.Open q e (early arrival) d) (and_opened (came_open q i.took (answers.Deliver (received_in states.Open q e arrival d).answer) d) (answers.Deliver (received_in states.Open q e arrival d).answer) i)
  at_open =
      let a : Answer = answers.Deliver (received_in states.Open q e arrival d).answer in
      let told : List Told = told_received_in states.Open q e (early arrival) d in
      subst (λ (o : Option Opening). P a told (and_opened o a i)) (sym (came_open_is q e arrival d i.took k.expected)) (header_case (head e arrival.remote d))

  -- what holds in each case holds of the datagram
  pub by_hearing : P (answers.Deliver (received q e arrival d).answer) (told_received q e (early arrival) d) (and_handed states.Open (Some d) q (answers.Deliver (received q e arrival d).answer) i)
  by_hearing = subst (λ (s : State). P (answers.Deliver (received_in s q e arrival d).answer) (told_received_in s q e (early arrival) d) (and_opened (came_open q i.took (answers.Deliver (received_in s q e arrival d).answer) d) (answers.Deliver (received_in s q e arrival d).answer) i)) (sym opened) at_open

-- ---- an end that isn't open

closed_packet : (o : Option Opening) (arrival : Arrival) (e : End) → e.closing.state ≡ states.Closing → told_opened_as o arrival e ≡ []
closed_packet None arrival e is = refl
closed_packet (Some o) arrival e is = go (key_phase o.first || is_duplicate e.numbers.opened o.number)
  where
    noted : End
    noted = with_numbers e (number_opened e.numbers o.number)

    go : (b : Bool) → (if b then [] else told_by_state e.closing.state o arrival noted) ≡ []
    go true = refl
    go false = ap (λ (s : State). told_by_state s o arrival noted) is

closed_headed : (r : Result (List ℕ) DropReason) (p : Policy) (e : End) (arrival : Arrival) (d : List ℕ) → e.closing.state ≡ states.Closing → told_headed r p e arrival d ≡ []
closed_headed (Err error) p e arrival d is = refl
closed_headed (Ok id) p e arrival d is = closed_packet (opening p e d) arrival e is

-- its controller is told nothing
pub closed_told : (p : Policy) (e : End) (arrival : Arrival) (d : List ℕ) (s : State) → e.closing.state ≡ s → (s ≡ states.Open → ⊥) → told_received_in s p e arrival d ≡ []
closed_told p e arrival d states.Open is closed = absurd (closed refl)
closed_told p e arrival d states.Closing is closed = closed_headed (head e arrival.remote d) p e arrival d is
closed_told p e arrival d states.Drained is closed = refl
closed_told p e arrival d states.Failed is closed = refl
