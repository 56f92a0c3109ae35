use Rattle.std.proofs.Common.{◌≡◌, ◌+◌, true, false, ap, ◌∙◌, arith}
use Rattle.std.specs.Prelude.{nat_lt}
use Rattle.std.proofs.lemmas.Bool.{lt-ltb, le-ltb}
use Rattle.quic_machine.specs.Validation.{most_challenges}
use Rattle.quic_machine.specs.End.{challenged, words_drawn}
use Rattle.quic_connection_parts.proofs.Drawing.{path_asks, path_gives_up, draws_one}
use Rattle.quic_connection_core.proofs.connection.Connection.challenge_anew.Goals as goal

pub returns-then-self-lt18446744073709551615-clause-end : goal.returns-then-self-lt18446744073709551615-clause-end
returns-then-self-lt18446744073709551615-clause-end g c =
    let w = c.args.self.now in
    let same = ap (λ x. x.end.validation.drawn) c.self.view_is in
    let few : nat_lt w.end.validation.drawn most_challenges ≡ true = lt-ltb w.end.validation.drawn most_challenges (omega (arith, same)) in
    path_asks g.R.Rng.stream w (nat_lt w.end.validation.drawn most_challenges) few c.challenge_path.new.self c.challenge_path.ensures.end

pub returns-then-self-lt18446744073709551615-clause-random : goal.returns-then-self-lt18446744073709551615-clause-random
returns-then-self-lt18446744073709551615-clause-random g c =
    let w = c.args.self.now in
    let more : words_drawn c.challenge_path.new.self.end ≡ words_drawn w.end + 1 = ap (λ x. words_drawn x.end) c.challenge_path.ensures.end ∙ (let same : words_drawn (challenged 0 w.end) ≡ words_drawn w.end + 1 = omega arith in same) in
    draws_one g.R.Rng.stream w c.challenge_path.new.self c.challenge_path.ensures.random more

pub returns-else-self-lt18446744073709551615-clause-end : goal.returns-else-self-lt18446744073709551615-clause-end
returns-else-self-lt18446744073709551615-clause-end g c =
    let w = c.args.self.now in
    let same = ap (λ x. x.end.validation.drawn) c.self.view_is in
    let many : nat_lt w.end.validation.drawn most_challenges ≡ false = le-ltb w.end.validation.drawn most_challenges (omega (arith, same)) in
    path_gives_up g.R.Rng.stream w (nat_lt w.end.validation.drawn most_challenges) many _ c.self.view_is c.stop.new.self c.stop.ensures
