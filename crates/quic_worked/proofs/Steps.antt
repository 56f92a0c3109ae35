-- What each step leaves beside its end: the controller, the other end, and what is counted.
use Rattle.std.proofs.Common.{◌≡◌, ℕ, suc, Bool, false, List, [], ◌∷◌, drop, refl, sym, ap, ◌∙◌, subst}
use Rattle.std.proofs.lemmas.List.{append-nil}
use Rattle.quic_wire_core.specs.declared.stream_id.Side.{Side}
use Rattle.quic_wire_core.specs.declared.stream_id.Side.TheVariants.{Client, Server}
use Rattle.quic_wire_core.specs.StreamId.{other_side}
use Rattle.quic_machine.specs.declared.run.RunEvent.{RunEvent}
use Rattle.quic_machine.specs.declared.run.Call.{Call}
use Rattle.quic_machine.specs.declared.run.Answer.{Answer}
use Rattle.quic_machine.specs.End.{End}
use Rattle.quic_machine.specs.Control.{after_told}
use Rattle.quic_machine.specs.Machine.{World, Policies, IsLeft, IsTold, IsHeard, changed, given_by, heard_at, heard_by, end_at, end_left, control_at, policy_at, end_met, fails, gives, tells}
use Rattle.quic_worked.specs.Worked.{after_event, ran, stepped, ran_so_far, steady_control, with_server, shut_control}

-- a controller that shows one window whatever it is told, before a step and behind it
pub still_steady : steady_control ≡ steady_control
still_steady = refl

-- nor does one whose window is shut
pub still_shut : shut_control ≡ shut_control
still_shut = refl

-- two ends, of which the server is as it was
pub same_server : (w : World) → w ≡ with_server w w.server
same_server w = refl

-- the server changes alone, and gives nothing
pub server_alone : (w : World) (e : End) → with_server w e ≡ changed Server w e [] w.server_control w.server_heard
server_alone w e = ap (λ (ds : List (List ℕ)). record w { server = e; from_server = ds }) (sym (append-nil w.from_server))

-- what the end of an event has counted behind it: no world is computed for that
pub counts_so : (k : Policies) (w : World) (event : RunEvent) (a : Answer) → heard_at event.side (after_event k w event a) ≡ heard_by (end_at event.side w) (end_at event.side (after_event k w event a)) (given_by (other_side event.side) w) event.call a (heard_at event.side w)
counts_so k w event a = go event.side event.call
  where
    go : (side : Side) (call : Call) → heard_at side (after_event k w (record { side = side; call = call }) a)
        ≡ heard_by (end_at side w) (end_at side (after_event k w (record { side = side; call = call }) a)) (given_by (other_side side) w) call a (heard_at side w)
    go Client call = refl
    go Server call = refl

-- the same behind events of which there is one
pub counts_ran : (k : Policies) (w : World) (event : RunEvent) (a : Answer) → heard_at event.side (ran k w (event ∷ []) (a ∷ [])) ≡ heard_by (end_at event.side w) (end_at event.side (ran k w (event ∷ []) (a ∷ []))) (given_by (other_side event.side) w) event.call a (heard_at event.side w)
counts_ran k w event a = counts_so k w event a

-- so are the other end and what it has given as they were: no world is computed for that
pub others_so : (k : Policies) (w : World) (event : RunEvent) (a : Answer)
    → after_event k w event a ≡ changed event.side w (end_at event.side (after_event k w event a)) (gives (policy_at event.side k) (end_met w event) event.call a) (control_at event.side (after_event k w event a)) (heard_at event.side (after_event k w event a))
others_so k w event a = go event.side event.call
  where
    go : (side : Side) (call : Call)
        → after_event k w (record { side = side; call = call }) a ≡ changed side w (end_at side (after_event k w (record { side = side; call = call }) a)) (gives (policy_at side k) (end_met w (record { side = side; call = call })) call a) (control_at side (after_event k w (record { side = side; call = call }) a)) (heard_at side (after_event k w (record { side = side; call = call }) a))
    go Client call = refl
    go Server call = refl

-- what a call leaves of its end, and of its controller
leaves_so : (k : Policies) (w : World) (event : RunEvent) (a : Answer) → end_at event.side (after_event k w event a) ≡ end_left (policy_at event.side k) (control_at event.side w) (heard_at event.side w) (end_at event.side w) (given_by (other_side event.side) w) event.call a
leaves_so k w event a = go event.side event.call
  where
    go : (side : Side) (call : Call) → end_at side (after_event k w (record { side = side; call = call }) a) ≡ end_left (policy_at side k) (control_at side w) (heard_at side w) (end_at side w) (given_by (other_side side) w) call a
    go Client call = refl
    go Server call = refl

tells_so : (k : Policies) (w : World) (event : RunEvent) (a : Answer) → control_at event.side (after_event k w event a) ≡ after_told (control_at event.side w) (tells (policy_at event.side k) (end_met w event) (given_by (other_side event.side) w) event.call)
tells_so k w event a = go event.side event.call
  where
    go : (side : Side) (call : Call)
        → control_at side (after_event k w (record { side = side; call = call }) a) ≡ after_told (control_at side w) (tells (policy_at side k) (end_met w (record { side = side; call = call })) (given_by (other_side side) w) call)
    go Client call = refl
    go Server call = refl

-- A step behind the first so many events of a run, but for its answer and what lacks memory.
pub record StepsSo (k : Policies) (w : World) (event : RunEvent) (a : Answer) (next : World) : Type 0 where
  pub end : IsLeft (fails a) (policy_at event.side k) (control_at event.side w) (heard_at event.side w) (end_at event.side w) (given_by (other_side event.side) w) event.call a (end_at event.side next)
  pub control : IsTold (fails a) (policy_at event.side k) (control_at event.side w) (heard_at event.side w) (end_at event.side w) (given_by (other_side event.side) w) event.call (control_at event.side next)
  pub heard : IsHeard (fails a) (end_at event.side w) (end_at event.side next) (given_by (other_side event.side) w) event.call a (heard_at event.side w) (heard_at event.side next)
  pub others : next ≡ changed event.side w (end_at event.side next) (gives (policy_at event.side k) (end_met w event) event.call a) (control_at event.side next) (heard_at event.side next)

-- no world is computed for that
pub steps_so : (k : Policies) (w : World) (event : RunEvent) (a : Answer) → fails a ≡ false → StepsSo k w event a (after_event k w event a)
steps_so k w event a served = record {
  end = subst (λ (b : Bool). IsLeft b (policy_at event.side k) (control_at event.side w) (heard_at event.side w) (end_at event.side w) (given_by (other_side event.side) w) event.call a (end_at event.side (after_event k w event a))) (sym served) (leaves_so k w event a);
  control = subst (λ (b : Bool). IsTold b (policy_at event.side k) (control_at event.side w) (heard_at event.side w) (end_at event.side w) (given_by (other_side event.side) w) event.call (control_at event.side (after_event k w event a))) (sym served) (tells_so k w event a);
  heard = subst (λ (b : Bool). IsHeard b (end_at event.side w) (end_at event.side (after_event k w event a)) (given_by (other_side event.side) w) event.call a (heard_at event.side w) (heard_at event.side (after_event k w event a))) (sym served) (counts_so k w event a);
  others = others_so k w event a;
}

-- nor here, where the events go on so
pub steps_at : (k : Policies) (start : World) (events : List RunEvent) (told : List Answer) (n : ℕ) (event : RunEvent) (a : Answer) (later : List RunEvent) (more : List Answer) → drop n events ≡ event ∷ later → drop n told ≡ a ∷ more → fails a ≡ false
    → StepsSo k (ran_so_far k start events told n) event a (ran_so_far k start events told (suc n))
steps_at k start events told n event a later more here there served = subst (λ (next : World). StepsSo k w event a next) (sym behind) (steps_so k w event a served)
  where
    w : World
    w = ran_so_far k start events told n

    behind : ran_so_far k start events told (suc n) ≡ after_event k w event a
    behind = ap (λ (es : List RunEvent). stepped k w es (drop n told)) here ∙ ap (λ (answers : List Answer). stepped k w (event ∷ later) answers) there
