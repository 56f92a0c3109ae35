use Rattle.std.proofs.Common.{◌≡◌, Some, rules, ap, ◌∙◌, arith, None, sym}
use Rattle.quic_streams_parts.specs.Table.{at, without}
use Rattle.quic_streams_parts.specs.TableLaws.{without-unknown}
use Rattle.quic_streams_parts.specs.RecvHalf.{RecvHalf, credit}
use Rattle.quic_streams_halves.proofs.Totals.{removed_counted, seen_term, consumed_term}
use Rattle.quic_streams_halves.proofs.recv_halves.RecvHalves.remove.Goals as goal

pub overflow_sub-self : goal.overflow_sub-self
overflow_sub-self c =
    let found : at c.self.inside.live c.args.id ≡ Some c.in-Some.kept = search rules in
    let term = seen_term c.self.inside.live c.args.id c.self.inside.seen c.self.inside.consumed c.in-Some.kept c.self.invariant found in
    let same = ap (λ (h : RecvHalf). h.seen) c.get-half.ensures in
    omega (arith, c.end-seen.ensures.value)

pub overflow_sub-self-2 : goal.overflow_sub-self-2
overflow_sub-self-2 c =
    let found : at c.self.inside.live c.args.id ≡ Some c.in-Some.kept = search rules in
    let term = consumed_term c.self.inside.live c.args.id c.self.inside.seen c.self.inside.consumed c.in-Some.kept c.self.invariant found in
    let same = ap credit c.get-half.ensures in
    omega (arith, c.credit-consumed.ensures.value)

pub invariant_of-self-2 : goal.invariant_of-self-2
invariant_of-self-2 c =
    let found : at c.self.inside.live c.args.id ≡ Some c.in-Some.kept = search rules in
    let told = c.give_back.ensures ∙ c.remove.ensures.left ∙ ap (λ k. without c.self.inside.live k) c.from.ensures in
    let seen = c.end-seen.ensures.value ∙ ap (λ (h : RecvHalf). h.seen) c.get-half.ensures in
    let consumed = c.credit-consumed.ensures.value ∙ ap credit c.get-half.ensures in
    removed_counted c.self.inside.live _ c.args.id c.self.inside.seen c.self.inside.consumed _ _ c.in-Some.kept c.self.invariant found told (omega arith) (omega arith)

pub invariant_of-self : goal.invariant_of-self
invariant_of-self c =
    let none : at c.self.inside.live c.args.id ≡ None = ap (λ k. at c.self.inside.live k) (sym c.from.ensures) ∙ sym c.in_default.ensures.taken in
    let told = c.remove.ensures.left ∙ ap (λ k. without c.self.inside.live k) c.from.ensures ∙ without-unknown c.self.inside.live c.args.id none in
    rw told c.self.invariant
