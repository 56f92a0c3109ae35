use Rattle.std.proofs.Common.{ℕ, List, subst, sym, ap, ◌∙◌}
use Rattle.quic_ids.specs.CidState.{Rise}
use Rattle.quic_connection_parts.proofs.Living.{numbers_of, numbers_with}
use Rattle.quic_connection_parts.proofs.ids.draw_one.Goals as goal

pub returns-in-Some-clause-rise : goal.returns-in-Some-clause-rise
returns-in-Some-clause-rise g c = subst (λ (l : List ℕ). Rise l 0) (sym (ap numbers_of c.set_id.ensures.living ∙ numbers_with c.random_id-drawn.result c.args.living.now.items)) c.requires.rise
