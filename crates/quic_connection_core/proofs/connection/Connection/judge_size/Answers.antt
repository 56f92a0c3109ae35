use Rattle.std.proofs.Common.{rules, ◌≡◌, ℕ, Bool, false, not, sym, ap, ◌∙◌, refl}
use Rattle.std.specs.Prelude.{◌==◌}
use Rattle.std.proofs.lemmas.Bool.{eq-eqb}
use Rattle.quic_congestion.specs.Search.{Discovery}
use Rattle.quic_machine.specs.Sizes.{told_if_resized, told_size, shortened, with_searched}
use Rattle.quic_connection_parts.specs.Losses.{asked_if}
use Rattle.quic_connection_parts.specs.Telling.{telling}
use Rattle.quic_connection_core.proofs.connection.Connection.judge_size.Goals as goal

-- a size that stays isn't another
same_size : (n : ℕ) → not (n == n) ≡ false
same_size n = ap not (eq-eqb n n refl)

-- where a probe alone is lost, nothing is asked
pub returns-then-not-losses : goal.returns-then-not-losses
returns-then-not-losses g c =
    let w = c.args.self.now in
    let d : Discovery = w.end.path.discovery in
    let none : c.args.losses.now.others ≡ false = search rules in
    sym (
    ap (λ (b : Bool). (let f : Discovery = asked_if b w.end.closing.clock d in telling g.C.Controller.steps w (told_size d f) (with_searched f w.end))) none
    ∙ ap (λ (b : Bool). telling g.C.Controller.steps w (told_if_resized b d.size) (shortened b w.end)) (same_size d.size)
    )
