use Rattle.std.proofs.Common.{◌≡◌, ℕ, Bool, true, false, Option, Some, None, subst, sym, ap, ◌∙◌}
use Rattle.quic_machine.specs.End.{with_end}
use Rattle.quic_machine.specs.Control.{with_app_limited}
use Rattle.quic_machine.specs.Sizes.{may_search, search_names, search_asked}
use Rattle.quic_machine.specs.Poll.{probe_named, searched_if, goes_as}
use Rattle.quic_connection_parts.specs.Leaving.{Leaves, rested}
use Rattle.quic_connection_core.proofs.connection.Connection.search.Goals as goal

pub returns-then-not-may_search-clause-leaving : goal.returns-then-not-may_search-clause-leaving
returns-then-not-may_search-clause-leaving g c =
    let e = c.args.self.now.end in
    let no : may_search e ≡ false = sym c.may_search.ensures ∙ c.if-not-may_search.true in
    subst (λ o. Leaves o (searched_if (may_search e) e).leaving) (sym c.rest.ensures.none) (ap (λ (b : Bool). goes_as (searched_if b e).leaving) no)

pub returns-then-not-may_search-clause-end : goal.returns-then-not-may_search-clause-end
returns-then-not-may_search-clause-end g c =
    let e = c.args.self.now.end in
    let no : may_search e ≡ false = sym c.may_search.ensures ∙ c.if-not-may_search.true in
    c.rest.ensures.end ∙ ap (λ (b : Bool). with_end c.args.self.now (rested (searched_if b e))) (sym no)

pub returns-in-Some-clause-leaving : goal.returns-in-Some-clause-leaving
returns-in-Some-clause-leaving g c =
    let e = c.args.self.now.end in
    let may : may_search e ≡ true = sym c.may_search.ensures ∙ c.if-not-may_search.false in
    let named : search_names e ≡ Some c.in-Some.size = sym c.ask_search.ensures.named ∙ c.in-Some.is in
    ap (λ (b : Bool). (searched_if b e).leaving) may ∙ ap probe_named named

pub returns-in-Some-clause-end : goal.returns-in-Some-clause-end
returns-in-Some-clause-end g c =
    let w = c.args.self.now in
    let may : may_search w.end ≡ true = sym c.may_search.ensures ∙ c.if-not-may_search.false in
    let named : search_names w.end ≡ Some c.in-Some.size = sym c.ask_search.ensures.named ∙ c.in-Some.is in
    c.ask_search.ensures.end
    ∙ sym (ap (λ (b : Bool). with_end w (rested (searched_if b w.end))) may ∙ ap (λ (o : Option ℕ). with_end w (rested (record { leaving = probe_named o; end = search_asked w.end }))) named)

pub returns-in-None-clause-leaving : goal.returns-in-None-clause-leaving
returns-in-None-clause-leaving g c =
    let e = c.args.self.now.end in
    let may : may_search e ≡ true = sym c.may_search.ensures ∙ c.if-not-may_search.false in
    let named : search_names e ≡ None = sym c.ask_search.ensures.named ∙ c.in-None.is in
    subst (λ o. Leaves o (searched_if (may_search e) e).leaving) (sym c.rest-in-None.ensures.none) (ap (λ (b : Bool). goes_as (searched_if b e).leaving) may ∙ ap (λ (o : Option ℕ). goes_as (probe_named o)) named)

pub returns-in-None-clause-end : goal.returns-in-None-clause-end
returns-in-None-clause-end g c =
    let w = c.args.self.now in
    let may : may_search w.end ≡ true = sym c.may_search.ensures ∙ c.if-not-may_search.false in
    let named : search_names w.end ≡ None = sym c.ask_search.ensures.named ∙ c.in-None.is in
    c.rest-in-None.ensures.end ∙ ap (λ x. with_end x (with_app_limited x.end true)) c.ask_search.ensures.end
    ∙ sym (ap (λ (b : Bool). with_end w (rested (searched_if b w.end))) may ∙ ap (λ (o : Option ℕ). with_end w (rested (record { leaving = probe_named o; end = search_asked w.end }))) named)
