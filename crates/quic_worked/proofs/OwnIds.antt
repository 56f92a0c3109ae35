-- A run whose calls name ids that were given before, seen event by event, meets the premises.
use Rattle.std.proofs.Common.{◌≡◌, ℕ, zero, suc, slice_get, List, [], ◌∷◌, ◌++◌, take, Bool, true, false, Option, Some, None, inl, inr, subst}
use Rattle.std.specs.Prelude.{if◌then◌else◌}
use Rattle.std.proofs.lemmas.List.{append_assoc, append-nil}
use Rattle.quic_wire_core.specs.declared.stream_id.Side.{Side}
use Rattle.quic_wire_core.specs.declared.stream_id.Side.TheVariants.{Client, Server}
use Rattle.quic_machine.specs.declared.answers.State.{State}
use Rattle.quic_machine.specs.declared.run.RunEvent.{RunEvent}
use Rattle.quic_machine.specs.declared.run.Call.{Call}
use Rattle.quic_machine.specs.declared.run.Answer.{Answer}
use Rattle.quic_machine.specs.declared.run.View.{View}
use Rattle.quic_machine.specs.Machine.{World, end_at}
use Rattle.quic_machine.specs.Start.{AreStarted, AreKeys}
use Rattle.quic_headline.specs.Runs.{Run, Told, In, same_side, state_in, told_at, and_id, id_by, ids_of}
use Rattle.quic_headline.specs.Headline.{used, IsHonest, UsesOwnIds}
use Rattle.quic_worked.specs.Worked.{started, worked_policies, both_steady}
use Rattle.quic_worked.proofs.WorkedHonest.{are_started, steady_started}
use Rattle.quic_worked.proofs.WorkedKeys.{are_keys}

-- the id that a call uses, if it uses one, is among these
abbrev IsGiven : Option ℕ → List ℕ → Type 0
IsGiven None ids = Unit {0}
IsGiven (Some id) ids = In id ids

abbrev IsGivenAt : Bool → List ℕ → Call → Type 0
IsGivenAt false ids call = Unit {0}
IsGivenAt true ids call = IsGiven (used call) ids

-- the ids that were given at an end, where a call there may give one more
abbrev and_given : Bool → List ℕ → Call → Answer → List ℕ
and_given false ids call a = ids
and_given true ids call a = ids ++ and_id (id_by call a) []

-- each call at an end uses an id that was given there, by these before or since
abbrev pub AreOwn : Side → List ℕ → List RunEvent → List Answer → List View → Type 0
AreOwn side ids [] told views = Unit {0}
AreOwn side ids (e ∷ es) [] views = Unit {0}
AreOwn side ids (e ∷ es) (a ∷ told) [] = ⊥
AreOwn side ids (e ∷ es) (a ∷ told) (v ∷ vs) = IsGivenAt (same_side e.side side) ids e.call × AreOwn side (and_given (same_side e.side side) ids e.call a) es told vs

in_front : (id : ℕ) (xs ys : List ℕ) → In id xs → In id (xs ++ ys)
in_front id [] ys i = absurd i
in_front id (x ∷ xs) ys (inl e) = inl e
in_front id (x ∷ xs) ys (inr i) = inr (in_front id xs ys i)

-- the call at its own side
given_here : (side : Side) (ids : List ℕ) (call : Call) → IsGivenAt (same_side side side) ids call → IsGiven (used call) ids
given_here Client ids call g = g
given_here Server ids call g = g

-- an event that stands here is its side and its call
used_here : (side : Side) (ids : List ℕ) (e : RunEvent) (call : Call) (id : ℕ) → IsGivenAt (same_side e.side side) ids e.call → Some e ≡ Some (record { side = side; call = call }) → used call ≡ Some id → In id ids
used_here side ids e call id g q u =
    let same : e ≡ record { side = side; call = call } = cc in
    let there : IsGivenAt (same_side side side) ids call = subst (λ (f : RunEvent). IsGivenAt (same_side f.side side) ids f.call) same g in
    subst (λ (o : Option ℕ). IsGiven o ids) u (given_here side ids call there)

one_more : (id : ℕ) (given : Option ℕ) (ids more : List ℕ) → In id ((ids ++ and_id given []) ++ more) → In id (ids ++ and_id given more)
one_more id None ids more i = subst (λ (xs : List ℕ). In id (xs ++ more)) (append-nil ids) i
one_more id (Some x) ids more i = subst (λ (xs : List ℕ). In id xs) (append_assoc ids (x ∷ []) more) i

-- what one call more tells
told_more : (b : Bool) (id : ℕ) (ids : List ℕ) (t : Told) (ts : List Told) → In id (and_given b ids t.call t.answer ++ ids_of ts) → In id (ids ++ ids_of ((if b then t ∷ [] else []) ++ ts))
told_more false id ids t ts i = i
told_more true id ids t ts i = one_more id (id_by t.call t.answer) ids (ids_of ts) i

own_at : (i : ℕ) (side : Side) (state : State) (ids : List ℕ) (events : List RunEvent) (told : List Answer) (views : List View) (id : ℕ) (call : Call) (a : Answer)
    → AreOwn side ids events told views → slice_get events i ≡ Some (record { side = side; call = call }) → slice_get told i ≡ Some a → used call ≡ Some id
    → In id (ids ++ ids_of (told_at side state events (take i told) views))
own_at i side state ids [] told views id call a h q p u = cc
own_at i side state ids (e ∷ es) [] views id call a h q p u = cc
own_at i side state ids (e ∷ es) (x ∷ told) [] id call a h q p u = absurd h
own_at zero side state ids (e ∷ es) (x ∷ told) (v ∷ vs) id call a h q p u = in_front id ids [] (used_here side ids e call id h.0 q u)
own_at (suc i) side state ids (e ∷ es) (x ∷ told) (v ∷ vs) id call a h q p u =
    told_more (same_side e.side side) id ids (record { call = e.call; answer = x; state = state }) (told_at side (state_in v side) es (take i told) vs)
    (own_at i side (state_in v side) (and_given (same_side e.side side) ids e.call x) es told vs id call a h.1 q p u)

-- so both ends do, where the run begins so
pub record BothOwnFrom (w : World) (r : Run) : Type 0 where
  pub start : w ≡ r.start
  pub keys : worked_policies ≡ r.keys
  pub client : AreOwn Client [] r.events r.answers r.views
  pub server : AreOwn Server [] r.events r.answers r.views

abbrev pub BothOwn : Run → Type 0
BothOwn r = BothOwnFrom started r

of_side : {w : World} → (r : Run) → BothOwnFrom w r → (side : Side) → AreOwn side [] r.events r.answers r.views
of_side r own Client = own.client
of_side r own Server = own.server

-- from any start
pub own_ids : (r : Run) → ((side : Side) → AreOwn side [] r.events r.answers r.views) → UsesOwnIds r
own_ids r own side i id call a at u = own_at i side (end_at side r.start).closing.state [] r.events r.answers r.views id call a (own side) at.event at.answer u

pub honest_from : (w : World) → AreStarted w → (r : Run) → BothOwnFrom w r → IsHonest r
honest_from w made r own = record { start = subst AreStarted own.start made; keys = subst AreKeys own.keys are_keys; ids = own_ids r (of_side r own) }

pub honest : (r : Run) → BothOwn r → IsHonest r
honest r own = honest_from started are_started r own

-- and from two ends of which the server's window has room too
pub honest_steady : (r : Run) → BothOwnFrom both_steady r → IsHonest r
honest_steady r own = honest_from both_steady steady_started r own
