-- Calls at one end go on by one more.
use Rattle.std.proofs.Common.{◌≡◌, ℕ, List, [], ◌∷◌, ◌++◌, length, take, Some, refl, sym, ap, ◌∙◌, append_assoc, append-nil}
use Rattle.std.specs.Prelude.{slice_get}
use Rattle.quic_machine.specs.declared.run.Call.{Call}
use Rattle.quic_machine.specs.declared.run.Answer.{Answer}
use Rattle.quic_machine.specs.Policy.{Policy}
use Rattle.quic_machine.specs.Machine.{reads_window, gives}
use Rattle.quic_headline.specs.Alone.{Lone, IsLoneStep, FollowsAlone, GivesAlone}
use Rattle.quic_connection.specs.Lone.{AddsAlone}

-- calls that give something may be answered so
pub gives_follow : (p : Policy) (theirs : List (List ℕ)) (x : Lone) (made : List Call) (told : List Answer) (ds : List (List ℕ)) (left : Lone) → GivesAlone p theirs x made told ds left → FollowsAlone p theirs x made told left
gives_follow p theirs x [] [] ds left g = g.1
gives_follow p theirs x [] (a ∷ told) ds left g = absurd g
gives_follow p theirs x (c ∷ made) [] ds left g = absurd g
gives_follow p theirs x (c ∷ made) (a ∷ told) ds left g = (g.0, g.2, gives_follow p theirs g.0 made told g.1 left g.4)

-- one call more
one_more : (p : Policy) (theirs : List (List ℕ)) (x : Lone) (all : List Call) (told : List Answer) (ds : List (List ℕ)) (mid : Lone) (call : Call) (a : Answer) (next : Lone) → GivesAlone p theirs x (take (length told) all) told ds mid → slice_get all (length told) ≡ Some call
    → IsLoneStep p theirs mid call a next → GivesAlone p theirs x (take (length (told ++ a ∷ [])) all) (told ++ a ∷ []) (ds ++ gives p (reads_window mid.control mid.heard call mid.end) call a) next
one_more p theirs x [] [] ds mid call a next g at step = cc
one_more p theirs x [] (b ∷ told) ds mid call a next g at step = absurd g
one_more p theirs x (c ∷ all) [] ds mid call a next g at step =
    let none : ds ≡ [] = g.0 in
    let here : mid ≡ x = g.1 in
    let same : c ≡ call = cc in
    (next, [], rw (← here, same) step, rw (none, here, same) (sym (append-nil (gives p (reads_window x.control x.heard call x.end) call a))), (refl, refl))
one_more p theirs x (c ∷ all) (b ∷ told) ds mid call a next g at step =
    let added : List (List ℕ) = gives p (reads_window mid.control mid.heard call mid.end) call a in
    let first : List (List ℕ) = gives p (reads_window x.control x.heard c x.end) c b in
    (g.0, g.1 ++ added, g.2, ap (λ (all : List (List ℕ)). all ++ added) g.3 ∙ append_assoc first g.1 added, one_more p theirs g.0 all told g.1 mid call a next g.4 at step)

-- the same, at lists that are known by equations
pub adds_more : (p : Policy) (theirs : List (List ℕ)) (x : Lone) (all : List Call) (told told' : List Answer) (old given given' : List (List ℕ)) (mid : Lone) (call : Call) (a : Answer) (next : Lone) → AddsAlone p theirs x (take (length told) all) told mid old given
    → slice_get all (length told) ≡ Some call → IsLoneStep p theirs mid call a next → told' ≡ told ++ a ∷ [] → given' ≡ given ++ gives p (reads_window mid.control mid.heard call mid.end) call a → AddsAlone p theirs x (take (length told') all) told' next old given'
adds_more p theirs x all told told' old given given' mid call a next g at step same_answers same_given =
    let added : List (List ℕ) = gives p (reads_window mid.control mid.heard call mid.end) call a in
    rw same_answers (record { more = g.more ++ added; behind = same_given ∙ ap (λ (ds : List (List ℕ)). ds ++ added) g.behind ∙ append_assoc old g.more added; gives = one_more p theirs x all told g.more mid call a next g.gives at step })

-- where none was made
pub adds_none : (p : Policy) (theirs : List (List ℕ)) (x : Lone) (all : List Call) (told : List Answer) (old : List (List ℕ)) → told ≡ [] → AddsAlone p theirs x (take (length told) all) told x old old
adds_none p theirs x all told old none = rw none (record { more = []; behind = sym (append-nil old); gives = (refl, refl) })
