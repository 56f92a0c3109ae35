use Rattle.std.proofs.Common.{◌≡◌, ◌+◌, Bool, ap, sym, refl, subst, ◌∙◌, arith, cond, length}
use Rattle.quic_send_buffer.specs.KeptBytes.{end_of, pushed}
use Rattle.quic_send_buffer.specs.Stretch.{IsGrown}
use Rattle.quic_send_buffer.proofs.Kept.Runs.{store_end, pushed_in}
use Rattle.quic_send_buffer.proofs.send_buffer.stretch.Stretch.try_push.Goals as goal

pub overflow_add-end : goal.overflow_add-end
overflow_add-end c =
    let v = c.self.inside in
    let last = store_end v.end v.store c.self.invariant in
    let seen = ap end_of c.self.view_is in
    let small = c.requires in
    omega (arith, last, seen, small)

pub invariant_of-self-then-taken : goal.invariant_of-self-then-taken
invariant_of-self-then-taken c =
    let v = c.self.inside in
    let grown = subst (λ (b : Bool). cond b (IsGrown c.args.piece.now v.store c.push_into.new.store) (c.push_into.new.store ≡ v.store)) c.if-taken.true c.in_ok-taken.ensures.ok in
    (pushed_in v.end (v.end + length c.args.piece.now) c.args.piece.now v.store c.push_into.new.store c.args.self.now c.self.invariant c.self.view_is grown refl).0

pub returns-then-taken-clause-ok : goal.returns-then-taken-clause-ok
returns-then-taken-clause-ok c =
    let v = c.self.inside in
    let grown = subst (λ (b : Bool). cond b (IsGrown c.args.piece.now v.store c.push_into.new.store) (c.push_into.new.store ≡ v.store)) c.if-taken.true c.in_ok-taken.ensures.ok in
    let all = (pushed_in v.end (v.end + length c.args.piece.now) c.args.piece.now v.store c.push_into.new.store c.args.self.now c.self.invariant c.self.view_is grown refl).1 in
    all ∙ ap (λ (b : Bool). cond b (pushed c.args.piece.now c.args.self.now) c.args.self.now) (sym c.if-taken.true)
