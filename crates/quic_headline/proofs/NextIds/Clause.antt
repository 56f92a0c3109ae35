-- When the next id of the peer can't be used, by the run's lists: at each place of an honest run.
use Rattle.std.proofs.Common.{◌≡◌, ℕ, suc, ◌+◌, ◌-◌, Bool, true, false, nat_le, List, [], ◌∷◌, length, drop, Option, Some, None, Result, Ok, Err, refl, sym, ap, ◌∙◌, subst, inl, inr, arith}
use Rattle.std.specs.Prelude.{◌↔◌, option_map, if◌then◌else◌}
use Rattle.std.proofs.lemmas.Bool.{leb-true, leb-false}
use Rattle.std.specs.declared.ops.Range.{Range}
use Rattle.quic_wire_core.specs.declared.stream_id.Side.{Side}
use Rattle.quic_wire_core.specs.StreamId.{other_side}
use Rattle.quic_ids.specs.CidQueue.{next_after}
use Rattle.quic_retransmits.specs.Retransmits.{most_retirements}
use Rattle.quic_machine.specs.declared.answers.State.TheVariants as states
use Rattle.quic_machine.specs.declared.answers.NextIdError.{NextIdError}
use Rattle.quic_machine.specs.declared.answers.NextIdError.TheVariants as next_errors
use Rattle.quic_machine.specs.declared.run.RunEvent.{RunEvent}
use Rattle.quic_machine.specs.declared.run.View.{View}
use Rattle.quic_machine.specs.declared.run.Call.TheVariants as calls
use Rattle.quic_machine.specs.declared.run.Answer.{Answer}
use Rattle.quic_machine.specs.declared.run.Answer.TheVariants as answers
use Rattle.quic_machine.specs.IdFrames.{next_id_allowed, next_id_answer, IsNextIdAnswer, NextIdLacks}
use Rattle.quic_machine.specs.End.{End}
use Rattle.quic_machine.specs.Machine.{World, Policies, IsStep, Follows, end_at}
use Rattle.quic_headline.specs.Runs.{Run, Intake, LeadsTo, AreServed, state_at}
use Rattle.quic_headline.specs.Headline.{IsHonest, IsRun, IsAt}
use Rattle.quic_headline.specs.ConnectionIds.{NoIdIsExact, IsPastLimit, TooManyIsExact}
use Rattle.quic_headline.specs.InUse.{brought, next_of, in_use, next_id, TellsStays}
use Rattle.quic_headline.proofs.Places.Parties.{Party, came_to}
use Rattle.quic_headline.proofs.Places.Openings.{took_is}
use Rattle.quic_headline.proofs.Places.Placed.{party_at, Placed, placed, first_left}
use Rattle.quic_headline.proofs.Steps.Made.{one_behind}
use Rattle.quic_headline.proofs.NextIds.Peer.{next_is}
use Rattle.quic_headline.proofs.NextIds.Used.{All, all, in_use_is}

-- ---- what a call for the next id is answered

-- the numbers that are retired where this one is used next
abbrev pub ranged : End → Option ℕ → Option (Range ℕ)
ranged e o = option_map (λ next. record { start = e.ids.peer.active; end = next }) o

-- what is answered where so many may be retired, or may not
abbrev pub answered_if : Bool → Result (Unit {0}) NextIdError
answered_if b = if b then Ok tt else Err next_errors.TooManyPending

-- it is refused for want of one where there is none
pub none_allowed : (e : End) (o : Option ℕ) → (next_id_allowed (ranged e o) e ≡ Err next_errors.NoId) ↔ (o ≡ None)
none_allowed e None = (λ is. refl, λ is. refl)
none_allowed e (Some n) = go (nat_le (length e.waiting.frames.retire_cids + (n - e.ids.peer.active)) most_retirements)
  where
    go : (b : Bool) → (answered_if b ≡ Err next_errors.NoId) ↔ (Some n ≡ None)
    go true = (λ is. cc, λ is. cc)
    go false = (λ is. cc, λ is. cc)

-- and for too many retirements where there would be too many
pub many_allowed : (e : End) (o : Option ℕ) → (next_id_allowed (ranged e o) e ≡ Err next_errors.TooManyPending) ↔ ((next : ℕ) × (o ≡ Some next) × IsPastLimit e e.ids.peer.active next)
many_allowed e None = (λ is. cc, λ some. (let none = some.1 in cc))
many_allowed e (Some n) = go (nat_le (length e.waiting.frames.retire_cids + (n - e.ids.peer.active)) most_retirements) refl
  where
    go : (b : Bool) → nat_le (length e.waiting.frames.retire_cids + (n - e.ids.peer.active)) most_retirements ≡ b
        → (answered_if b ≡ Err next_errors.TooManyPending) ↔ ((next : ℕ) × (Some n ≡ Some next) × IsPastLimit e e.ids.peer.active next)
    go true few = (
      λ is. cc,
      λ past. (
          let same : n ≡ past.0 = (let is = past.1 in cc) in
          let many = past.2 in
          let less = leb-true (length e.waiting.frames.retire_cids + (n - e.ids.peer.active)) most_retirements few in
          absurd (omega arith)),
    )
    go false many = (λ is. (n, refl, leb-false (length e.waiting.frames.retire_cids + (n - e.ids.peer.active)) most_retirements many), λ past. refl)

-- an answer that doesn't say that memory lacks is the machine's own
own_answer : (e : End) (a : Answer) (error : NextIdError) → IsNextIdAnswer e a → NextIdLacks e a → (error ≡ next_errors.Memory → ⊥) → (a ≡ answers.UseNextId (Err error)) ↔ (next_id_answer e ≡ Err error)
own_answer e a error said lacks own = (forth, back)
  where
    forth : a ≡ answers.UseNextId (Err error) → next_id_answer e ≡ Err error
    forth is = elim said [ inl so ↦ cc | inr memory ↦ absurd (own cc) ]

    back : next_id_answer e ≡ Err error → a ≡ answers.UseNextId (Err error)
    back is = elim said [ inl so ↦ so ∙ ap (λ (r : Result (Unit {0}) NextIdError). answers.UseNextId r) is | inr memory ↦ (let may = lacks memory in cc) ]

-- ---- the clauses

-- an event of a run is a step
first_step : (k : Policies) (w end : World) (events : List RunEvent) (answers : List Answer) (views : List View) (event : RunEvent) (a : Answer) → Follows k w (event ∷ events) (a ∷ answers) views end → (next : World) × IsStep k w event a next
first_step k w end events answers [] event a f = absurd f
first_step k w end events answers (v ∷ views) event a f = (f.0, f.1)

-- what the next id is at a place where it is asked for, and what is answered
record Asked (r : Run) (stays : ℕ → Bool) (side : Side) (i : ℕ) (a : Answer) (e : End) : Type 0 where
  next : next_after e.ids.peer ≡ next_id r stays side i
  used_is : e.ids.peer.active ≡ in_use r stays side i
  said : IsNextIdAnswer e a
  lacks : NextIdLacks e a

module _ (r : Run) (end : World) (honest : IsHonest r) (run : IsRun r end) (side : Side) (stays : ℕ → Bool) (kept : TellsStays r side stays) (i : ℕ) (a : Answer) (served : AreServed r i) (opened : state_at r side i ≡ states.Open) (at : IsAt r i side calls.UseNextId a) where
  abbrev p : Placed All r end side i
  p = placed All all r end honest run side i served

  abbrev x : Party
  x = party_at r i p.world side p.sents

  abbrev y : Party
  y = party_at r i p.world (other_side side) p.theirs

  asked : Asked r stays side i a (end_at side p.world)
  asked =
      let known = p.gives.1.knows (p.state ∙ opened) in
      let used : in_use r stays side i ≡ x.end.ids.peer.active = in_use_is r end honest run side stays kept i p.world served p.leads (p.state ∙ opened) in
      let event : RunEvent = record { side = side; call = calls.UseNextId } in
      let step = first_step r.keys p.world end (drop (suc i) r.events) (drop (suc i) r.answers) (drop i r.views) event a (rw (first_left r.events i event at.event, first_left r.answers i a at.answer) at p.goes_on) in
      record {
        next = next_is (brought (came_to x y).took) x.end.ids.peer known
            ∙ ap (λ (n : ℕ). next_of n (brought (came_to x y).took)) (sym used)
            ∙ ap (λ (j : Intake). next_of (in_use r stays side i) (brought j.took)) (sym (took_is r honest p.world i side p.sents p.theirs));
        used_is = sym used;
        said = step.1.answer;
        lacks = step.1.lacking;
      }

  -- the answer of the machine
  answer_is : next_id_answer (end_at side p.world) ≡ next_id_allowed (ranged (end_at side p.world) (next_id r stays side i)) (end_at side p.world)
  answer_is = ap (λ (o : Option ℕ). next_id_allowed (ranged (end_at side p.world) o) (end_at side p.world)) asked.next

  -- where it says so
  says : (error : NextIdError) → (error ≡ next_errors.Memory → ⊥) → (a ≡ answers.UseNextId (Err error)) ↔ (next_id_allowed (ranged (end_at side p.world) (next_id r stays side i)) (end_at side p.world) ≡ Err error)
  says error own = subst (λ (s : Result (Unit {0}) NextIdError). (a ≡ answers.UseNextId (Err error)) ↔ (s ≡ Err error)) answer_is (own_answer (end_at side p.world) a error asked.said asked.lacks own)

  no_id : (a ≡ answers.UseNextId (Err next_errors.NoId)) ↔ (next_id r stays side i ≡ None)
  no_id =
      let own = says next_errors.NoId (λ is. cc) in
      let none = none_allowed (end_at side p.world) (next_id r stays side i) in
      (λ is. none.0 (own.0 is), λ is. own.1 (none.1 is))

  too_many : (w : World) → LeadsTo r i w → (a ≡ answers.UseNextId (Err next_errors.TooManyPending)) ↔ ((next : ℕ) × (next_id r stays side i ≡ Some next) × IsPastLimit (end_at side w) (in_use r stays side i) next)
  too_many w leads =
      let own = says next_errors.TooManyPending (λ is. cc) in
      let many = many_allowed (end_at side p.world) (next_id r stays side i) in
      subst (λ (v : World). (a ≡ answers.UseNextId (Err next_errors.TooManyPending)) ↔ ((next : ℕ) × (next_id r stays side i ≡ Some next) × IsPastLimit (end_at side v) (in_use r stays side i) next)) (one_behind r i p.world w served p.leads leads)
      (subst (λ (n : ℕ). (a ≡ answers.UseNextId (Err next_errors.TooManyPending)) ↔ ((next : ℕ) × (next_id r stays side i ≡ Some next) × IsPastLimit (end_at side p.world) n next)) asked.used_is
      (λ is. many.0 (own.0 is), λ past. own.1 (many.1 past)))

pub no_id_is_exact : (r : Run) (end : World) → IsHonest r → IsRun r end → NoIdIsExact r
no_id_is_exact r end honest run side stays i a kept served opened at = no_id r end honest run side stays kept i a served opened at

pub too_many_is_exact : (r : Run) (end : World) → IsHonest r → IsRun r end → TooManyIsExact r
too_many_is_exact r end honest run side stays i a w kept served leads opened at = too_many r end honest run side stays kept i a served opened at w leads
