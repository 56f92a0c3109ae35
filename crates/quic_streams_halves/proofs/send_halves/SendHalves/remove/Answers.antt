use Rattle.std.proofs.Common.{◌≡◌, length, Some, rules, ap, ◌∙◌, arith, None, sym}
use Rattle.quic_streams_parts.specs.Table.{at, without}
use Rattle.quic_streams_parts.specs.SendHalf.{SendHalf}
use Rattle.quic_streams_halves.proofs.Sums.{removed_sum, within_sum}
use Rattle.quic_streams_halves.proofs.send_halves.SendHalves.remove.Goals as goal

pub overflow_sub-self : goal.overflow_sub-self
overflow_sub-self c =
    let found : at c.self.inside.live c.args.id ≡ Some c.in-Some.half = search rules in
    let held = within_sum (λ (h : SendHalf). length h.buffer.kept) c.self.inside.live c.args.id c.in-Some.half c.self.inside.buffered c.self.invariant found in
    let kept = c.buffered.ensures.value ∙ ap (λ (h : SendHalf). length h.buffer.kept) c.get.ensures in
    omega arith

pub invariant_of-self : goal.invariant_of-self
invariant_of-self c =
    let found : at c.self.inside.live c.args.id ≡ Some c.in-Some.half = search rules in
    let told = c.give_back.ensures ∙ c.remove.ensures.left ∙ ap (λ k. without c.self.inside.live k) c.from.ensures in
    let held = within_sum (λ (h : SendHalf). length h.buffer.kept) c.self.inside.live c.args.id c.in-Some.half c.self.inside.buffered c.self.invariant found in
    let kept = c.buffered.ensures.value ∙ ap (λ (h : SendHalf). length h.buffer.kept) c.get.ensures in
    removed_sum (λ (h : SendHalf). length h.buffer.kept) c.self.inside.live _ c.args.id (Some c.in-Some.half) c.self.inside.buffered _ c.self.invariant found told (omega arith)

pub invariant_of-self-in_default : goal.invariant_of-self-in_default
invariant_of-self-in_default c =
    let none : at c.self.inside.live c.args.id ≡ None = ap (λ k. at c.self.inside.live k) (sym c.from.ensures) ∙ sym c.in_default.ensures.taken in
    let told = c.remove.ensures.left ∙ ap (λ k. without c.self.inside.live k) c.from.ensures in
    removed_sum (λ (h : SendHalf). length h.buffer.kept) c.self.inside.live _ c.args.id None c.self.inside.buffered _ c.self.invariant none told (omega arith)
