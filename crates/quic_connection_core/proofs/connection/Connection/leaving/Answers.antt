use Rattle.std.proofs.Common.{◌≡◌, Bool, true, false, subst, sym, ap, ◌∙◌}
use Rattle.quic_machine.specs.End.{End, with_end}
use Rattle.quic_machine.specs.Sizes.{may_search}
use Rattle.quic_machine.specs.Poll.{Ready, waits, gated, searched_if, free_if, leaves_if, leaves_unless, leaves_at, goes_as}
use Rattle.quic_machine.specs.PollCases.{gate_leaves}
use Rattle.quic_connection_parts.specs.Leaving.{Leaves, rested}
use Rattle.quic_connection_core.proofs.connection.Connection.leaving.Goals as goal

-- window and pacer leave what waits
waits_gated : (e : End) → waits (gated e).end ≡ waits e
waits_gated e = ap (λ (x : End). waits x) (gate_leaves e)

held_so : (e : End) (b : Bool) → e.path.blocked ≡ false → (gated e).held ≡ b → leaves_at e ≡ leaves_if b (gated e).end
held_so e b passes is = ap (λ (x : Bool). leaves_unless x e) passes ∙ ap (λ (x : Bool). leaves_if x (gated e).end) is

free_so : (e : End) (b : Bool) → e.path.blocked ≡ false → (gated e).held ≡ false → waits e ≡ b → leaves_at e ≡ free_if b (gated e).end
free_so e b passes free is = held_so e false passes free ∙ ap (λ (x : Bool). free_if x (gated e).end) (waits_gated e ∙ is)

pub returns-then-self-clause-leaving : goal.returns-then-self-clause-leaving
returns-then-self-clause-leaving g c =
    let e = c.args.self.now.end in
    let stops : e.path.blocked ≡ true = sym (ap (λ w. w.end.path.blocked) c.self.view_is) ∙ c.if-self.true in
    subst (λ o. Leaves o (leaves_at e).leaving) (sym c.rest.ensures.none) (ap (λ (b : Bool). goes_as (leaves_unless b e).leaving) stops)

pub returns-then-self-clause-end : goal.returns-then-self-clause-end
returns-then-self-clause-end g c =
    let w = c.args.self.now in
    let stops : w.end.path.blocked ≡ true = sym (ap (λ x. x.end.path.blocked) c.self.view_is) ∙ c.if-self.true in
    c.rest.ensures.end ∙ sym (ap (λ (b : Bool). with_end w (rested (leaves_unless b w.end))) stops)

pub returns-then-is_held_back-clause-leaving : goal.returns-then-is_held_back-clause-leaving
returns-then-is_held_back-clause-leaving g c =
    let passes : c.args.self.now.end.path.blocked ≡ false = sym (ap (λ x. x.end.path.blocked) c.self.view_is) ∙ c.if-self.false in
    let ready = held_so c.args.self.now.end true passes (sym c.is_held_back.ensures.held ∙ c.if-is_held_back.true) in
    subst (λ (r : Ready). Leaves c.acks_alone.result r.leaving) (sym ready) (subst (λ x. Leaves c.acks_alone.result (leaves_if true x.end).leaving) c.is_held_back.ensures.end c.acks_alone.ensures.leaving)

pub returns-then-is_held_back-clause-end : goal.returns-then-is_held_back-clause-end
returns-then-is_held_back-clause-end g c =
    let passes : c.args.self.now.end.path.blocked ≡ false = sym (ap (λ x. x.end.path.blocked) c.self.view_is) ∙ c.if-self.false in
    let ready = held_so c.args.self.now.end true passes (sym c.is_held_back.ensures.held ∙ c.if-is_held_back.true) in
    c.acks_alone.ensures.end ∙ ap (λ x. with_end x (rested (leaves_if true x.end))) c.is_held_back.ensures.end ∙ ap (λ (r : Ready). with_end c.args.self.now (rested r)) (sym ready)

pub returns-then-goes-clause-leaving : goal.returns-then-goes-clause-leaving
returns-then-goes-clause-leaving g c =
    let passes : c.args.self.now.end.path.blocked ≡ false = sym (ap (λ x. x.end.path.blocked) c.self.view_is) ∙ c.if-self.false in
    let ready = free_so c.args.self.now.end true passes (sym c.is_held_back.ensures.held ∙ c.if-is_held_back.false) (sym c.waits-goes.ensures ∙ c.if-goes.true) in
    ap (λ (r : Ready). r.leaving) ready

pub returns-then-goes-clause-end : goal.returns-then-goes-clause-end
returns-then-goes-clause-end g c =
    let passes : c.args.self.now.end.path.blocked ≡ false = sym (ap (λ x. x.end.path.blocked) c.self.view_is) ∙ c.if-self.false in
    let ready = free_so c.args.self.now.end true passes (sym c.is_held_back.ensures.held ∙ c.if-is_held_back.false) (sym c.waits-goes.ensures ∙ c.if-goes.true) in
    c.is_held_back.ensures.end ∙ ap (λ (r : Ready). with_end c.args.self.now (rested r)) (sym ready)

pub returns-clause-leaving : goal.returns-clause-leaving
returns-clause-leaving g c =
    let passes : c.args.self.now.end.path.blocked ≡ false = sym (ap (λ x. x.end.path.blocked) c.self.view_is) ∙ c.if-self.false in
    let ready = free_so c.args.self.now.end false passes (sym c.is_held_back.ensures.held ∙ c.if-is_held_back.false) (sym c.waits-goes.ensures ∙ c.if-goes.false) in
    subst (λ (r : Ready). Leaves c.search.result r.leaving) (sym ready) (subst (λ x. Leaves c.search.result (searched_if (may_search x.end) x.end).leaving) c.is_held_back.ensures.end c.search.ensures.leaving)

pub returns-clause-end : goal.returns-clause-end
returns-clause-end g c =
    let passes : c.args.self.now.end.path.blocked ≡ false = sym (ap (λ x. x.end.path.blocked) c.self.view_is) ∙ c.if-self.false in
    let ready = free_so c.args.self.now.end false passes (sym c.is_held_back.ensures.held ∙ c.if-is_held_back.false) (sym c.waits-goes.ensures ∙ c.if-goes.false) in
    c.search.ensures.end ∙ ap (λ x. with_end x (rested (searched_if (may_search x.end) x.end))) c.is_held_back.ensures.end ∙ ap (λ (r : Ready). with_end c.args.self.now (rested r)) (sym ready)
