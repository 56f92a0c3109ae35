use Rattle.std.proofs.Common.{◌≡◌, ◌-◌, ◌++◌, List, length, drop, replicate, Option, None, ap, ◌∙◌, arith}
use Rattle.std.proofs.lemmas.List.{drop-replicate, take_all, length-drop}
use Rattle.quic_wire_core.specs.declared.shared.IssuedCid.{IssuedCid}
use Rattle.quic_ids.proofs.cid_queue.shift.Goals as goal

pub returns : goal.returns
returns c =
    let p = c.args.places in
    let none : Option IssuedCid = None in
    let count : 7 - (7 - p) ≡ p = omega (arith, c.requires) in
    let empty : drop (7 - p) (replicate 7 none) ≡ replicate p none = drop-replicate (7 - p) 7 none ∙ ap (λ n. replicate n none) count in
    let moved : c.copy_from_slice.new.self ≡ drop p c.args.later.now = c.copy_from_slice.ensures.after ∙ take_all (length c.args.later.now - p) (drop p c.args.later.now) (omega (arith, length-drop p c.args.later.now)) in
    ap (λ (l : List (Option IssuedCid)). l ++ drop (7 - p) (replicate 7 none)) moved ∙ ap (λ (l : List (Option IssuedCid)). drop p c.args.later.now ++ l) empty
