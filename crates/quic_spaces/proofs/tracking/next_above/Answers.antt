use Rattle.std.proofs.Common.{◌≡◌, ◌+◌, ◌-◌, ◌^◌, ap, ◌∙◌, arith}
use Rattle.quic_sent_packets.specs.Packets.{from}
use Rattle.quic_spaces.proofs.Tails.{none_from}
use Rattle.quic_spaces.proofs.WalkLaws.{steps_if}
use Rattle.quic_spaces.proofs.tracking.next_above.Goals as goal

pub returns-then-number-eq18446744073709551615-clause-none : goal.returns-then-number-eq18446744073709551615-clause-none
returns-then-number-eq18446744073709551615-clause-none c =
    let last : c.args.number ≡ 2 ^ 64 - 1 = c.if-number-eq18446744073709551615.true in
    let most : c.args.number + 1 ≡ 2 ^ 64 = omega (arith, last) in
    ap (λ m. from m c.args.packets.now) most ∙ none_from (2 ^ 64) c.args.packets.now c.requires

pub returns-clause-some : goal.returns-clause-some
returns-clause-some c = steps_if (c.args.number + 1) (2 ^ 64) c.args.packets.now c.first_from.result c.first_from.ensures.ascends c.requires c.first_from.ensures.value
