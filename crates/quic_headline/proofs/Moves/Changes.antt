-- An address that is validated no longer is so only where the path changes, and where it changes it
-- isn't, unless the answer came with that very packet (RFC 9000, sections 9.3 and 9.3.1).
use Rattle.std.proofs.Common.{◌≡◌, ◌⊎◌, ℕ, suc, Bool, true, false, List, refl, inl, inr}
use Rattle.std.proofs.lemmas.Bool.{both_ways}
use Rattle.quic_machine.specs.Machine.{World}
use Rattle.quic_headline.specs.Runs.{Run}
use Rattle.quic_headline.specs.Observer.{path_changes}
use Rattle.quic_headline.specs.Headline.{IsHonest, IsRun}
use Rattle.quic_headline.specs.Polls.{seen_at}
use Rattle.quic_headline.specs.Validated.{AnswerCame}
use Rattle.quic_headline.specs.Moves.{PathChangesExactly}
use Rattle.quic_headline.proofs.Validated.Clause.{stays_seen, answered_seen}

pub path_changes_exactly : (r : Run) (end : World) → IsHonest r → IsRun r end → PathChangesExactly r
path_changes_exactly r end honest run side i served opened = (λ validated lost. leaves validated lost (path_changes r side i) refl, λ moves. answers moves (seen_at r side (suc i)).validated refl)
  where
    leaves : (seen_at r side i).validated ≡ true → (seen_at r side (suc i)).validated ≡ false → (b : Bool) → path_changes r side i ≡ b → path_changes r side i ≡ true
    leaves validated lost true is = is
    leaves validated lost false is = absurd (both_ways (seen_at r side (suc i)).validated lost (stays_seen r end honest run side i served opened is validated))

    answers : path_changes r side i ≡ true → (b : Bool) → (seen_at r side (suc i)).validated ≡ b → ((seen_at r side (suc i)).validated ≡ false) ⊎ ((token : List ℕ) × AnswerCame r side i token)
    answers moves false is = inl is
    answers moves true is = inr (answered_seen r end honest run side i served opened moves is)
