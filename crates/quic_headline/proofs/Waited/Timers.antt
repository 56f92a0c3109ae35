-- Where no ACK frame is wanted of an open end, its timer of acknowledgements is set to the deadline
-- of the first packet that waits for one, and isn't set where none waits.
use Rattle.std.proofs.Common.{◌≡◌, ℕ, suc, true, false, List, Option, Some, None, refl, sym, ap, ◌∙◌, inl, inr}
use Rattle.std.specs.Prelude.{slice_get}
use Rattle.std.specs.Option.{is_some}
use Rattle.std.proofs.lemmas.Bool.{both_ways}
use Rattle.quic_wire_core.specs.StreamId.{other_side}
use Rattle.quic_machine.specs.declared.answers.State.TheVariants as states
use Rattle.quic_machine.specs.Machine.{World}
use Rattle.quic_headline.specs.Runs.{Run}
use Rattle.quic_headline.specs.Headline.{IsHonest, IsRun}
use Rattle.quic_headline.specs.Moments.{first_deadline}
use Rattle.quic_headline.specs.Waited.{AckTimersAreSet}
use Rattle.quic_headline.proofs.Places.Parties.{Party}
use Rattle.quic_headline.proofs.Places.Groups.{Way, Nothing, And, Group, both, over}
use Rattle.quic_headline.proofs.Places.Placed.{Placed, placed, party_at}
use Rattle.quic_headline.proofs.Places.Everything as everything
use Rattle.quic_headline.proofs.Places.Theorems.{ready}
use Rattle.quic_headline.proofs.Halves.Ready.{Ready}
use Rattle.quic_headline.proofs.Timers.Watched.{Observed, timers_behind, open_behind}
use Rattle.quic_headline.proofs.Timers.AckMoments.{debt_of}
use Rattle.quic_headline.proofs.Timers.FirstDue.{InDebt}
use Rattle.quic_headline.proofs.AcksDue.Waits.{Punctual}
use Rattle.quic_headline.proofs.AcksDue.Group.{haste_of, first_in}
use Rattle.quic_headline.proofs.Waited.Group.{wants_of}
use Rattle.quic_headline.proofs.Waited.Urged.{is_wanted, Urged, Wished, wished_group}

-- a timer that isn't set isn't set
never_both : (o : Option ℕ) → o ≡ None → is_some o ≡ true → ⊥
never_both None none set = cc
never_both (Some moment) none set = cc

-- at an open end of which no ACK frame is wanted
module _ (x y : Party) (opened : x.end.closing.state ≡ states.Open) (p : Punctual x y) (i : InDebt x y) (u : Urged x y) (idle : is_wanted (haste_of x y) (wants_of x y) ≡ false) where
  -- where its timer isn't set, no packet waits
  none_waits : x.end.timers.max_ack_delay ≡ None → (o : Option ℕ) → first_deadline (debt_of x y).deadlines ≡ o → o ≡ None
  none_waits unset None first = refl
  none_waits unset (Some deadline) first = absurd (elim ((p.awaited opened).waits (p.counted opened deadline (first_in (debt_of x y).deadlines deadline first))) [
    | inl due ↦ both_ways (is_wanted (haste_of x y) (wants_of x y)) idle (u.due opened due)
    | inr set ↦ never_both x.end.timers.max_ack_delay unset set
  ])

  timer_is : (o : Option ℕ) → x.end.timers.max_ack_delay ≡ o → o ≡ first_deadline (debt_of x y).deadlines
  timer_is None unset = sym (none_waits unset (first_deadline (debt_of x y).deadlines) refl)
  timer_is (Some moment) set = sym (i.owes opened moment set)

-- ---- the clause

-- all that is known of the packets and the streams, and what is wanted
abbrev Known : Way
Known = And (everything.All Ready ready) Wished

known : Group Nothing Known
known = both Nothing (everything.All Ready ready) Wished (everything.all Ready ready) (over Observed (And Nothing (everything.All Ready ready)) Wished (λ x y h. (h.1.0.0, h.1.1)) wished_group)

pub ack_timers_are_set : (r : Run) (end : World) → IsHonest r → IsRun r end → AckTimersAreSet r
ack_timers_are_set r end honest run side i v served there opened idle =
    ap (λ (ts : List (Option ℕ)). slice_get ts 8) (timers_behind r at.world i v side at.leads there)
    ∙ ap (λ (o : Option ℕ). Some o) (timer_is x y now_open at.gives.1.0.0.0.1.0.1 at.gives.1.0.0.0.1.1 at.gives.1.1 idle x.end.timers.max_ack_delay refl)
  where
    at : Placed Known r end side (suc i)
    at = placed Known known r end honest run side (suc i) served

    x : Party
    x = party_at r (suc i) at.world side at.sents

    y : Party
    y = party_at r (suc i) at.world (other_side side) at.theirs

    now_open : x.end.closing.state ≡ states.Open
    now_open = open_behind r at.world i v side at.leads there opened
