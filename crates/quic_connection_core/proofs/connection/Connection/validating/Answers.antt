use Rattle.std.proofs.Common.{◌≡◌, ◌+◌, ℕ, Bool, false, sym, ap, ◌∙◌, arith}
use Rattle.quic_machine.specs.End.{with_end, drawing, challenged, challenged_unless, words_drawn}
use Rattle.quic_connection_parts.specs.Drawn.{words_at}
use Rattle.quic_connection_parts.proofs.Drawing.{first_word, draws_one}
use Rattle.quic_connection_core.proofs.connection.Connection.validating.Goals as goal

pub returns-clause-end : goal.returns-clause-end
returns-clause-end g c =
    let w = c.args.self in
    let r = c.challenge_path.new.self.random in
    let not_yet : w.end.path.validated ≡ false = sym (ap (λ x. x.end.path.validated) c.self.view_is) ∙ sym (ap (λ x. x.path.validated) c.self-inside.view_is) ∙ c.if-self.false in
    c.challenge_path.ensures.end
    ∙ ap (λ (k : ℕ). drawing r (with_end w (challenged k w.end))) (sym (first_word g.R.Rng.stream w))
    ∙ sym (ap (λ (b : Bool). drawing r (with_end w (challenged_unless b (words_at g.R.Rng.stream w) w.end))) not_yet)

pub returns-clause-random : goal.returns-clause-random
returns-clause-random g c =
    let w = c.args.self in
    let more : words_drawn c.challenge_path.new.self.end ≡ words_drawn w.end + 1 = ap (λ x. words_drawn x.end) c.challenge_path.ensures.end ∙ (let same : words_drawn (challenged 0 w.end) ≡ words_drawn w.end + 1 = omega arith in same) in
    draws_one g.R.Rng.stream w c.challenge_path.new.self c.challenge_path.ensures.random more
