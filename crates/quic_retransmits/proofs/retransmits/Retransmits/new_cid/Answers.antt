use Rattle.std.proofs.Common.{◌≡◌, ◌<◌, ℕ, zero, suc, List, [], ◌∷◌, length, get_or, subst, sym, arith}
use Rattle.std.specs.List.{AllByRecursion}
use Rattle.quic_wire_core.specs.declared.shared.IssuedCid.{IssuedCid}
use Rattle.quic_retransmits.specs.Retransmits.{CanBeTold}
use Rattle.quic_retransmits.proofs.retransmits.Retransmits.new_cid.Goals as goal

-- what holds of all holds of each
at_place : (P : IssuedCid → Type 0) (xs : List IssuedCid) (i : ℕ) (x : IssuedCid) → AllByRecursion P xs → i < length xs → x ≡ get_or xs i x → P x
at_place P [] i x all lt is = absurd (omega (arith, lt))
at_place P (y ∷ ys) zero x all lt is = subst P (sym is) all.0
at_place P (y ∷ ys) (suc i) x all lt is = at_place P ys i x all.1 (omega (arith, lt)) is

pub returns-in-Some-clause-form : goal.returns-in-Some-clause-form
returns-in-Some-clause-form c =
    let item = c.in-Some.ensures.item in
    at_place CanBeTold c.self.inside.new_cids.items c.args.place c.in-Some.cid.now c.self.invariant.0 item.3.0 (item.3.1 c.in-Some.cid.now)
