-- What an end knows of what came goes on with each datagram.
use Rattle.std.proofs.Common.{◌≡◌, ℕ, ◌+◌, List, Option, Some, None, refl, sym, ap, ◌∙◌, subst, arith, Bool, true, false, [], ◌∷◌}
use Rattle.std.specs.Prelude.{max}
use Rattle.quic_wire.specs.Value.{FrameValue, ack}
use Rattle.quic_machine.specs.declared.answers.State.{State}
use Rattle.quic_machine.specs.declared.answers.State.TheVariants as states
use Rattle.quic_machine.specs.Closing.{Closing}
use Rattle.quic_spaces.specs.Numbers.{Numbers, no_numbers, cut_against, expected, after_greatest, greatest_of, number_given, number_opened, number_taken}
use Rattle.quic_machine.specs.End.{End}
use Rattle.quic_headline.specs.Runs.{Intake, nothing_came, expected_behind, acknowledged_in}
use Rattle.quic_headline.proofs.Packets.Invariant.{Knows, Expects, KnowsIn}
use Rattle.quic_recovery_core.specs.Duplicates.{Seen, after_insert}
use Rattle.quic_machine.specs.FrameCases.{begun}
use Rattle.quic_headline.proofs.Packets.Delivered.{Arrivals, arrived, with_taken, with_refused, frames_at}
use Rattle.quic_headline.proofs.Packets.Stays.{keeps_frames, named_frames}
use Rattle.quic_headline.proofs.Packets.Moved.{by_migrated}

-- nothing came yet
pub knows_first : Knows no_numbers nothing_came
knows_first = record { seen = refl; expected = refl; named = refl }

-- a number that is given says nothing of what came
pub knows_given : (s : State) (numbers : Numbers) (n : ℕ) (i : Intake) → KnowsIn s numbers i → KnowsIn s (number_given numbers n) i
knows_given states.Open numbers n i k = record { seen = k.seen; expected = k.expected; named = k.named }
knows_given states.Closing numbers n i k = k
knows_given states.Drained numbers n i k = k
knows_given states.Failed numbers n i k = k

-- an end in any state expects what the lists say
pub expects_in : (s : State) (numbers : Numbers) (i : Intake) → KnowsIn s numbers i → Expects numbers i
expects_in states.Open numbers i k = k.expected
expects_in states.Closing numbers i k = k
expects_in states.Drained numbers i k = k
expects_in states.Failed numbers i k = k

-- the number that is expected behind one more
pub expected_after : (taken : Option ℕ) (n x : ℕ) → after_greatest taken ≡ x → after_greatest (Some (greatest_of taken n)) ≡ max (n + 1) x
expected_after None n x e = omega arith
expected_after (Some m) n x e = omega arith

-- a packet was taken, whose frames left these numbers: another number is expected
expects_taken : (numbers left : Numbers) (i : Intake) (n : ℕ) (frames : List FrameValue) → Expects numbers i → left ≡ record (number_opened numbers n) { largest_acked = left.largest_acked } → Expects (number_taken left n) (with_taken i n frames)
expects_taken numbers left i n frames k is = expected_after left.taken n (expected_behind i.took) (ap (λ (x : Numbers). expected x) is ∙ k)

-- a packet was taken, whose frames left these numbers
pub knows_taken : (numbers left : Numbers) (i : Intake) (n : ℕ) (frames : List FrameValue) → Knows numbers i → left ≡ record (number_opened numbers n) { largest_acked = left.largest_acked } → cut_against left ≡ max (acknowledged_in frames) (cut_against numbers)
    → Knows (number_taken left n) (with_taken i n frames)
knows_taken numbers left i n frames k is named = record {
  seen = ap (λ (x : Numbers). x.opened) is ∙ ap (λ (s : Seen). after_insert s n) k.seen;
  expected = expects_taken numbers left i n frames k.expected is;
  named = named ∙ ap (λ (x : ℕ). max (acknowledged_in frames) x) k.named;
}

-- the same at an end in any state
pub knows_in_taken : (s : State) (numbers left : Numbers) (i : Intake) (n : ℕ) (frames : List FrameValue) → KnowsIn s numbers i → left ≡ record (number_opened numbers n) { largest_acked = left.largest_acked } → cut_against left ≡ max (acknowledged_in frames) (cut_against numbers)
    → KnowsIn s (number_taken left n) (with_taken i n frames)
knows_in_taken states.Open numbers left i n frames k is named = knows_taken numbers left i n frames k is named
knows_in_taken states.Closing numbers left i n frames k is named = expects_taken numbers left i n frames k is
knows_in_taken states.Drained numbers left i n frames k is named = expects_taken numbers left i n frames k is
knows_in_taken states.Failed numbers left i n frames k is named = expects_taken numbers left i n frames k is

-- a closing end that notes a number expects what it did
pub knows_noted : (s : State) (numbers : Numbers) (n : ℕ) (i : Intake) → s ≡ states.Closing → KnowsIn s numbers i → KnowsIn s (number_opened numbers n) i
knows_noted states.Open numbers n i is k = absurd cc
knows_noted states.Closing numbers n i is k = k
knows_noted states.Drained numbers n i is k = k
knows_noted states.Failed numbers n i is k = k

-- the frames that are taken acknowledge what those of the packet do
pub acknowledged_at : (here : Bool) (fs : List FrameValue) → acknowledged_in (frames_at here fs) ≡ acknowledged_in fs
acknowledged_at true fs = refl
acknowledged_at false [] = refl
acknowledged_at false (ack a ∷ fs) = ap (λ (m : ℕ). max a.largest m) (acknowledged_at false fs)
acknowledged_at false (f ∷ fs) = acknowledged_at false fs

-- in each case of a delivery the end knows what came then
pub knows_arrivals : (e : End) (now n : ℕ) (frames : List FrameValue) (here : Bool) (i : Intake) → KnowsIn e.closing.state e.numbers i → Arrivals e now n frames (frames_at here frames) i (λ o j. KnowsIn o.end.closing.state o.end.numbers j)
knows_arrivals e now n frames here i k = record {
  ignored = λ reason. k;
  noted = λ state reason. knows_noted e.closing.state e.numbers n i state k;
  takes = λ words state new none urged mark. taken none;
  moves = λ p o same remote x opened j. by_migrated (λ (y : End). KnowsIn y.closing.state y.numbers (with_taken i n frames)) p o remote x (λ c. j) (λ c most. j);
  drains = λ words state new close is. drained;
  refuses = λ words state new f is. refused;
  exhausts = λ state. expects_in e.closing.state e.numbers i k;
}
  where
    those : List FrameValue
    those = frames_at here frames

    -- what frames change of the numbers, the number that is expected isn't
    refused : Expects (arrived e now n those).end.numbers (with_refused i n frames)
    refused = ap (λ (x : Numbers). expected x) (keeps_frames those (begun e now n)).numbers ∙ expects_in e.closing.state e.numbers i k

    -- the number of one in which the peer closes counts
    drained : Expects (number_taken (arrived e now n those).end.numbers n) (with_taken i n frames)
    drained = expects_taken e.numbers (arrived e now n those).end.numbers i n frames (expects_in e.closing.state e.numbers i k) (keeps_frames those (begun e now n)).numbers

    taken : (arrived e now n those).fault ≡ None → KnowsIn (arrived e now n those).end.closing.state (number_taken (arrived e now n those).end.numbers n) (with_taken i n frames)
    taken none =
        let left = (arrived e now n those).end in
        let keeps = keeps_frames those (begun e now n) in
        subst (λ (s : State). KnowsIn s (number_taken left.numbers n) (with_taken i n frames)) (sym (ap (λ (c : Closing). c.state) keeps.closing))
        (knows_in_taken e.closing.state e.numbers left.numbers i n frames k keeps.numbers (named_frames those (begun e now n) none ∙ ap (λ (m : ℕ). max m (cut_against e.numbers)) (acknowledged_at here frames)))
