use Rattle.std.proofs.Common.{◌≡◌, ◌≤◌, ◌++◌, [], ◌∷◌, ℕ, List, None, map, length, sym, ap, subst, ◌∙◌, arith}
use Rattle.quic_ids.specs.CidState.{OwnIds, below}
use Rattle.quic_ids.specs.CidQueue.{PeerIds}
use Rattle.quic_machine.specs.Ids.{NumberedId, most_ids, later_numbers, drawn_ids, with_number}
use Rattle.quic_connection_parts.specs.Drawn.{words_of}
use Rattle.quic_connection_parts.specs.Living.{RiseBelow, HaveNumbers}
use Rattle.quic_connection_parts.proofs.Living.{first_numbers, below_rises, numbers_of, numbers_drawn}
use Rattle.quic_connection_parts.proofs.Issued.{view_first}
use Rattle.quic_connection_parts.proofs.ids.Ids.new.Goals as goal

pub invariant_of-result : goal.invariant_of-result
invariant_of-result g c =
    let limit : ℕ = c.min-limit.result in
    let words : ℕ → ℕ = words_of g.R.Rng.stream c.args.random.now in
    let ids : List NumberedId = map with_number (drawn_ids words (later_numbers limit)) in
    let first : NumberedId = record { number = 0; id = c.args.own; token = None } in
    let livs : c.issue_later.new.living.items ≡ first ∷ ids = c.in_ok-issue_later.ensures.living ∙ ap (λ (l : List NumberedId). l ++ ids) (c.push_reserved.ensures.items ∙ ap (λ (l : List NumberedId). l ++ c.first.result ∷ []) c.in_ok-living.ensures.items ∙ ap (λ (x : NumberedId). x ∷ []) c.first.ensures) in
    let two = c.requires in
    let least = c.min-limit.ensures in
    let value = c.into_inner.ensures.value in
    let five = c.from.ensures in
    let some : 1 ≤ limit = omega (arith, two, least, value, five) in
    let lives : c.in_ok-own_ids.own_ids.living ≡ below limit = ap (λ (o : OwnIds). o.living) c.in_ok-own_ids.ensures in
    let issued : c.in_ok-own_ids.own_ids.issued ≡ limit = ap (λ (o : OwnIds). o.issued) c.in_ok-own_ids.ensures in
    let long : length c.new-2.result.items ≡ 0 = ap length c.new-2.ensures.items in (
      ap numbers_of livs ∙ ap (λ (l : List ℕ). 0 ∷ l) (numbers_drawn words (later_numbers limit)) ∙ first_numbers limit some ∙ sym lives,
      subst (λ (n : ℕ). RiseBelow c.in_ok-own_ids.own_ids.living 0 n) (sym issued) (subst (λ (l : List ℕ). RiseBelow l 0 limit) (sym lives) (below_rises limit)),
      subst (λ (p : PeerIds). HaveNumbers p) (sym c.new-3.ensures) (omega arith, tt),
      omega (arith, long, issued, some),
    )

pub returns-clause-ids : goal.returns-clause-ids
returns-clause-ids g c =
    let limit : ℕ = c.min-limit.result in
    let words : ℕ → ℕ = words_of g.R.Rng.stream c.args.random.now in
    let ids : List NumberedId = map with_number (drawn_ids words (later_numbers limit)) in
    let first : NumberedId = record { number = 0; id = c.args.own; token = None } in
    let livs : c.issue_later.new.living.items ≡ first ∷ ids = c.in_ok-issue_later.ensures.living ∙ ap (λ (l : List NumberedId). l ++ ids) (c.push_reserved.ensures.items ∙ ap (λ (l : List NumberedId). l ++ c.first.result ∷ []) c.in_ok-living.ensures.items ∙ ap (λ (x : NumberedId). x ∷ []) c.first.ensures) in
    let least = c.min-limit.ensures in
    let value = c.into_inner.ensures.value in
    let five = c.from.ensures in
    let most : limit ≡ most_ids c.args.peer_limit = omega (arith, least, value, five) in
    view_first c.args.own c.args.peer limit (most_ids c.args.peer_limit) c.args.now words c.in_ok-own_ids.own_ids c.issue_later.new.living.items c.new-2.result.items c.new-3.result
    c.in_ok-own_ids.ensures livs c.new-2.ensures.items c.new-3.ensures most
