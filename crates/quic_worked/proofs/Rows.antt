-- A run of the reference machine as rows: of each event what is computed, and no more.
use Rattle.std.proofs.Common.{◌≡◌, ◌++◌, ℕ, zero, suc, Bool, false, List, [], ◌∷◌, take, refl}
use Rattle.quic_wire_core.specs.StreamId.{other_side}
use Rattle.quic_machine.specs.declared.run.RunEvent.{RunEvent}
use Rattle.quic_machine.specs.declared.run.Answer.{Answer}
use Rattle.quic_machine.specs.declared.run.View.{View}
use Rattle.quic_machine.specs.Lacking.{LacksWhere}
use Rattle.quic_machine.specs.Machine.{World, Policies, IsAnswer, IsStep, CountsOpenings, Follows, control_at, end_at, end_met, fails, given_by, heard_at, policy_at, view_of}
use Rattle.quic_worked.specs.Worked.{after_event, ran, worked_policies}
use Rattle.quic_worked.specs.Broken.{NeverAnswers}
use Rattle.quic_worked.proofs.BrokenRuns.{behind}
use Rattle.quic_worked.proofs.Steps.{StepsSo, steps_so}

-- the machine answers an event so, which says that no memory lacks; what it may lack, and what it
-- counts; and what is seen behind it
abbrev pub Row : Policies → World → RunEvent → Answer → View → Type 0
Row k w event a v = IsAnswer (policy_at event.side k) (end_met w event) (given_by (other_side event.side) w) event.call a
    × LacksWhere (policy_at event.side k) (end_met w event) (given_by (other_side event.side) w) event.call a
    × CountsOpenings (policy_at event.side k).openings (end_at event.side w).closing.state (heard_at event.side w) a
    × (fails a ≡ false)
    × (v ≡ view_of (after_event k w event a))

-- so it is of each event, behind what those before it left
abbrev pub Rows : Policies → World → List RunEvent → List Answer → List View → Type 0
Rows k w [] [] [] = Unit {0}
Rows k w (event ∷ events) (a ∷ told) (v ∷ views) = Row k w event a v × Rows k (after_event k w event a) events told views
Rows k w [] (a ∷ told) views = ⊥
Rows k w [] [] (v ∷ views) = ⊥
Rows k w (event ∷ events) [] views = ⊥
Rows k w (event ∷ events) (a ∷ told) [] = ⊥

-- a row is a step
pub row_steps : (k : Policies) (w : World) (event : RunEvent) (a : Answer) (v : View) → Row k w event a v → IsStep k w event a (after_event k w event a)
row_steps k w event a v (answer, lacking, openings, served, seen) =
    let s : StepsSo k w event a (after_event k w event a) = steps_so k w event a served in
    record { answer = answer; end = s.end; control = s.control; heard = s.heard; openings = openings; others = s.others; lacking = lacking }

-- the machine makes a run that has them
pub rows_follow : (k : Policies) (w : World) (events : List RunEvent) (told : List Answer) (views : List View) → Rows k w events told views → Follows k w events told views (ran k w events told)
rows_follow k w [] [] [] rows = refl
rows_follow k w [] [] (v ∷ views) none = absurd none
rows_follow k w [] (a ∷ told) views none = absurd none
rows_follow k w (event ∷ events) [] views none = absurd none
rows_follow k w (event ∷ events) (a ∷ told) [] none = absurd none
rows_follow k w (event ∷ events) (a ∷ told) (v ∷ views) ((answer, lacking, openings, served, seen), rows) = (
  after_event k w event a,
  row_steps k w event a v (answer, lacking, openings, served, seen),
  seen,
  rows_follow k (after_event k w event a) events told views rows,
)

-- what holds behind the first so many of them, and goes back over a step, holds before them
pub behind_rows : (P : World → List RunEvent → List Answer → Type 0)
    → ((w y : World) (event : RunEvent) (a : Answer) (events : List RunEvent) (told : List Answer) → fails a ≡ false → IsStep worked_policies w event a y → P y events told → P w (event ∷ events) (a ∷ told))
    → (n : ℕ) (w : World) (events more : List RunEvent) (told answers : List Answer) (views : List View) → Rows worked_policies w events told views
    → P (ran worked_policies w (take n events) (take n told)) more answers → P w (take n events ++ more) (take n told ++ answers)
behind_rows P back zero w events more told answers views rows p = p
behind_rows P back (suc n) w [] more [] answers [] rows p = p
behind_rows P back (suc n) w [] more [] answers (v ∷ views) none p = absurd none
behind_rows P back (suc n) w [] more (a ∷ told) answers views none p = absurd none
behind_rows P back (suc n) w (event ∷ events) more [] answers views none p = absurd none
behind_rows P back (suc n) w (event ∷ events) more (a ∷ told) answers [] none p = absurd none
behind_rows P back (suc n) w (event ∷ events) more (a ∷ told) answers (v ∷ views) ((answer, lacking, openings, served, seen), rows) p =
    back w (after_event worked_policies w event a) event a (take n events ++ more) (take n told ++ answers) served (row_steps worked_policies w event a v (answer, lacking, openings, served, seen))
    (behind_rows P back n (after_event worked_policies w event a) events more told answers views rows p)

-- what it never does behind the first so many of them, it never does
pub stops_behind : (n : ℕ) (w : World) (events more : List RunEvent) (told answers : List Answer) (views : List View) → Rows worked_policies w events told views
    → NeverAnswers (ran worked_policies w (take n events) (take n told)) more answers → NeverAnswers w (take n events ++ more) (take n told ++ answers)
stops_behind n w events more told answers views rows never = behind_rows NeverAnswers (λ x y event a later given served step so. behind served step so) n w events more told answers views rows never

-- behind the first so many of them the machine goes on
pub follows_behind : (n : ℕ) (k : Policies) (w : World) (events more : List RunEvent) (told answers : List Answer) (views later : List View) (end : World) → Rows k w events told views
    → Follows k (ran k w (take n events) (take n told)) more answers later end → Follows k w (take n events ++ more) (take n told ++ answers) (take n views ++ later) end
follows_behind zero k w events more told answers views later end rows f = f
follows_behind (suc n) k w [] more [] answers [] later end rows f = f
follows_behind (suc n) k w [] more [] answers (v ∷ views) later end none f = absurd none
follows_behind (suc n) k w [] more (a ∷ told) answers views later end none f = absurd none
follows_behind (suc n) k w (event ∷ events) more [] answers views later end none f = absurd none
follows_behind (suc n) k w (event ∷ events) more (a ∷ told) answers [] later end none f = absurd none
follows_behind (suc n) k w (event ∷ events) more (a ∷ told) answers (v ∷ views) later end ((answer, lacking, openings, served, seen), rows) f = (
  after_event k w event a,
  row_steps k w event a v (answer, lacking, openings, served, seen),
  seen,
  follows_behind n k (after_event k w event a) events more told answers views later end rows f,
)
