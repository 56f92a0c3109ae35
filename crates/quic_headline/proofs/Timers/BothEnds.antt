-- What each call keeps at the end that it is made at, and an end that stops has, both ends keep
-- over a run.
use Rattle.std.proofs.Common.{ℕ, Bool, true, false, List, [], ◌∷◌, sym, ap, subst}
use Rattle.quic_wire_core.specs.declared.stream_id.Side.{Side}
use Rattle.quic_wire_core.specs.declared.stream_id.Side.TheVariants.{Client, Server}
use Rattle.quic_machine.specs.declared.run.RunEvent.{RunEvent}
use Rattle.quic_machine.specs.declared.run.Call.{Call}
use Rattle.quic_machine.specs.declared.run.Answer.{Answer}
use Rattle.quic_machine.specs.declared.run.View.{View}
use Rattle.quic_machine.specs.Policy.{Policy}
use Rattle.quic_machine.specs.End.{End, with_window}
use Rattle.quic_congestion.specs.Pacer.{Pacing}
use Rattle.quic_machine.specs.Control.{Control, with_pacing}
use Rattle.quic_machine.specs.Machine.{World, Policies, HasStopped, IsLeft, IsStep, after_call, fails, Follows}
use Rattle.quic_machine.specs.CallCases.{by_left}
use Rattle.quic_machine.specs.Heard.{Heard}
use Rattle.quic_machine.specs.Validation.{with_blocked}

-- what each step keeps, a run does
module _ (P : Policies → World → Type 0) (step : (k : Policies) (w next : World) (event : RunEvent) (a : Answer) → IsStep k w event a next → P k w → P k next) where
  pub follows_keep : (k : Policies) (w end : World) (events : List RunEvent) (told : List Answer) (views : List View) → Follows k w events told views end → P k w → P k end
  follows_keep k w end [] [] [] f i = subst (P k) (sym f) i
  follows_keep k w end (e ∷ events) [] [] f i = subst (P k) (sym f) i
  follows_keep k w end [] [] (v ∷ views) f i = absurd f
  follows_keep k w end (e ∷ events) [] (v ∷ views) f i = absurd f
  follows_keep k w end [] (a ∷ told) views f i = absurd f
  follows_keep k w end (e ∷ events) (a ∷ told) [] f i = absurd f
  follows_keep k w end (e ∷ events) (a ∷ told) (v ∷ views) f i = follows_keep k f.0 end events told views f.3 (step k w f.0 e a f.1 i)

-- both ends have it
abbrev pub AtBoth : (End → Type 0) → World → Type 0
AtBoth P w = P w.client × P w.server

-- what keeps it
pub record IsKept (P : End → Type 0) : Type 0 where
  pub call : (p : Policy) (e : End) (theirs : List (List ℕ)) (call : Call) (a : Answer) → P e → P (after_call p e theirs call a)
  pub shows : (window : ℕ) (blocked : Bool) (e : End) → P e → P (with_blocked (with_window e window) blocked)
  pub paces : (pacing : Pacing) (e : End) → P e → P (with_pacing e pacing)
  pub stops : (e next : End) → HasStopped e next → P next

module _ (P : End → Type 0) (c : IsKept P) where
  -- the end that a call leaves
  left_keeps : (failed : Bool) (p : Policy) (control : Control) (heard : Heard) (e next : End) (theirs : List (List ℕ)) (call : Call) (a : Answer) → IsLeft failed p control heard e theirs call a next → P e → P next
  left_keeps true p control heard e next theirs call a is i = c.stops e next is
  left_keeps false p control heard e next theirs call a is i = subst P (sym is) (by_left p e theirs P i (λ window blocked. c.shows window blocked e) control heard call a (λ x pacing. c.paces pacing x) (λ x. c.call p x theirs call a))

  -- a step
  pub step_keeps : (k : Policies) (w next : World) (event : RunEvent) (a : Answer) → IsStep k w event a next → AtBoth P w → AtBoth P next
  step_keeps k w next event a step i = go event.side event.call step
    where
      go : (side : Side) (call : Call) → IsStep k w (record { side = side; call = call }) a next → AtBoth P next
      go Client call step = (left_keeps (fails a) k.client w.client_control w.client_heard w.client next.client w.from_server call a step.end i.0, subst P (sym (ap (λ (v : World). v.server) step.others)) i.1)
      go Server call step = (subst P (sym (ap (λ (v : World). v.client) step.others)) i.0, left_keeps (fails a) k.server w.server_control w.server_heard w.server next.server w.from_client call a step.end i.1)

  -- a run
  pub run_keeps : (k : Policies) (w end : World) (events : List RunEvent) (told : List Answer) (views : List View) → Follows k w events told views end → AtBoth P w → AtBoth P end
  run_keeps = follows_keep (λ k. AtBoth P) step_keeps
