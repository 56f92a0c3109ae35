use Rattle.std.proofs.Common.{◌≡◌, ◌+◌, ◌<◌, ◌++◌, [], ◌∷◌, ℕ, List, length, subst, sym, refl, ap, ◌∙◌, arith}
use Rattle.std.proofs.lemmas.List.{length-append}
use Rattle.quic_ids.specs.CidState.{OwnIds, after_new}
use Rattle.quic_wire_core.specs.declared.shared.IssuedCid.{IssuedCid}
use Rattle.quic_machine.specs.Ids.{Ids, NumberedId, with_number, undrawn_id, issued_one}
use Rattle.quic_connection_parts.specs.Living.{RiseBelow}
use Rattle.quic_connection_parts.proofs.Living.{rises_more, numbers_of, numbers_more}
use Rattle.quic_connection_parts.proofs.Issued.{issues_living, issues_one, view_issued}
use Rattle.quic_connection_parts.proofs.ids.Ids.issue.Goals as goal

pub invariant_of-self-2 : goal.invariant_of-self-2
invariant_of-self-2 c =
    let i = c.self.inside in
    let inv = c.self.invariant in
    let n : ℕ = i.own.issued in
    let cid : c.undrawn_id-cid.result ≡ undrawn_id n = c.undrawn_id-cid.ensures ∙ ap undrawn_id c.issued-sequence.ensures in
    let own : c.add_one.new.own ≡ after_new i.own (undrawn_id n ∷ []) c.args.now = c.in_ok-add_one.ensures.ok ∙ ap (λ (x : IssuedCid). after_new i.own (x ∷ []) c.args.now) cid in
    let livs : c.push_reserved.new.self.items ≡ i.living.items ++ with_number (undrawn_id n) ∷ [] = c.push_reserved.ensures.items ∙ ap (λ (l : List NumberedId). l ++ c.issued.result ∷ []) c.reserve.ensures.items ∙ ap (λ (x : NumberedId). i.living.items ++ x ∷ []) (c.issued.ensures ∙ ap with_number cid) in
    let unds : c.push_reserved-2.new.self.items ≡ i.undrawn.items ++ c.args.behind ∷ [] = c.push_reserved-2.ensures.items ∙ ap (λ (l : List ℕ). l ++ c.args.behind ∷ []) c.reserve-2.ensures.items in
    let same = ap (λ (ids : Ids). ids.own.issued) c.self.view_is in
    let below = c.requires in
    let few : n < 4611686018427387904 = omega (arith, same, below) in
    let lives : c.add_one.new.own.living ≡ i.own.living ++ n ∷ [] = ap (λ (o : OwnIds). o.living) own ∙ issues_living i.own n c.args.now inv.1 refl in
    let iss : c.add_one.new.own.issued ≡ n + 1 = ap (λ (o : OwnIds). o.issued) own ∙ issues_one i.own n c.args.now few in
    let len : length c.push_reserved-2.new.self.items ≡ length i.undrawn.items + 1 = ap length unds ∙ length-append i.undrawn.items (c.args.behind ∷ []) in
    let less = inv.3 in (
      ap numbers_of livs ∙ numbers_more i.living.items (with_number (undrawn_id n)) ∙ ap (λ (l : List ℕ). l ++ n ∷ []) inv.0 ∙ sym lives,
      subst (λ (k : ℕ). RiseBelow c.add_one.new.own.living 0 k) (sym iss) (subst (λ (l : List ℕ). RiseBelow l 0 (n + 1)) (sym lives) (rises_more i.own.living 0 n (omega arith) inv.1)),
      inv.2,
      omega (arith, len, iss, less),
    )

pub returns-clause-ids : goal.returns-clause-ids
returns-clause-ids c =
    let i = c.self.inside in
    let n : ℕ = i.own.issued in
    let cid : c.undrawn_id-cid.result ≡ undrawn_id n = c.undrawn_id-cid.ensures ∙ ap undrawn_id c.issued-sequence.ensures in
    let own : c.add_one.new.own ≡ after_new i.own (undrawn_id n ∷ []) c.args.now = c.in_ok-add_one.ensures.ok ∙ ap (λ (x : IssuedCid). after_new i.own (x ∷ []) c.args.now) cid in
    let livs : c.push_reserved.new.self.items ≡ i.living.items ++ with_number (undrawn_id n) ∷ [] = c.push_reserved.ensures.items ∙ ap (λ (l : List NumberedId). l ++ c.issued.result ∷ []) c.reserve.ensures.items ∙ ap (λ (x : NumberedId). i.living.items ++ x ∷ []) (c.issued.ensures ∙ ap with_number cid) in
    let unds : c.push_reserved-2.new.self.items ≡ i.undrawn.items ++ c.args.behind ∷ [] = c.push_reserved-2.ensures.items ∙ ap (λ (l : List ℕ). l ++ c.args.behind ∷ []) c.reserve-2.ensures.items in
    view_issued i.own i.living.items i.changed i.undrawn.items i.limit i.peer c.args.behind c.args.now c.add_one.new.own c.push_reserved.new.self.items c.push_reserved-2.new.self.items own livs unds
    ∙ ap (λ (ids : Ids). issued_one c.args.behind c.args.now ids) c.self.view_is
