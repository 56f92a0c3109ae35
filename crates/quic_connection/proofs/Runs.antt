-- A run goes on by one event.
use Rattle.std.proofs.Common.{◌≡◌, List, [], ◌∷◌, ◌++◌, length, Some, refl}
use Rattle.std.specs.Prelude.{slice_get}
use Rattle.quic_machine.specs.declared.run.RunEvent.{RunEvent}
use Rattle.quic_machine.specs.declared.run.Answer.{Answer}
use Rattle.quic_machine.specs.declared.run.View.{View}
use Rattle.quic_machine.specs.Machine.{World, Policies, IsStep, view_of, Follows}

follows_one_more : (k : Policies) (w : World) (events : List RunEvent) (answers : List Answer) (views : List View) (mid : World) (event : RunEvent) (a : Answer) (next : World) → Follows k w events answers views mid → slice_get events (length answers) ≡ Some event → IsStep k mid event a next → Follows k w events (answers ++ a ∷ []) (views ++ view_of next ∷ []) next
follows_one_more k w [] [] [] mid event a next f at step = cc
follows_one_more k w (e ∷ events) [] [] mid event a next f at step =
    let same : e ≡ event = cc in
    (next, rw (← f, same) step, refl, refl)
follows_one_more k w [] [] (v ∷ views) mid event a next f at step = absurd f
follows_one_more k w (e ∷ events) [] (v ∷ views) mid event a next f at step = absurd f
follows_one_more k w [] (b ∷ answers) views mid event a next f at step = absurd f
follows_one_more k w (e ∷ events) (b ∷ answers) [] mid event a next f at step = absurd f
follows_one_more k w (e ∷ events) (b ∷ answers) (v ∷ views) mid event a next f at step =
    (f.0, f.1, f.2, follows_one_more k f.0 events answers views mid event a next f.3 at step)

-- the same, at lists that are known by equations
pub follows_goes_on : (k : Policies) (w : World) (events : List RunEvent) (answers : List Answer) (views : List View) (mid : World) (event : RunEvent) (a : Answer) (next : World) (answers' : List Answer) (views' : List View) → Follows k w events answers views mid → slice_get events (length answers) ≡ Some event → IsStep k mid event a next → answers' ≡ answers ++ a ∷ [] → views' ≡ views ++ view_of next ∷ [] → Follows k w events answers' views' next
follows_goes_on k w events answers views mid event a next answers' views' f at step same_answers same_views =
    rw (same_answers, same_views) (follows_one_more k w events answers views mid event a next f at step)
