-- What each call at one end keeps holds at each call, and behind all of them, where no answer fails
-- before; and what holds of an end as it was made.
use Rattle.std.proofs.Common.{◌≡◌, ℕ, zero, suc, Bool, false, List, [], ◌∷◌, take, Option, Some, None, Result, Ok, Err, refl, sym, subst, inl, inr}
use Rattle.std.specs.Prelude.{slice_get}
use Rattle.std.specs.List.{list_any}
use Rattle.std.proofs.lemmas.Bool.{or_parts}
use Rattle.quic_parameters.specs.Parameters.{ParameterValues}
use Rattle.quic_parameters.specs.ParametersRead.{parameters_at}
use Rattle.quic_congestion.specs.Pacer.{Pacing}
use Rattle.quic_machine.specs.declared.run.Call.{Call}
use Rattle.quic_machine.specs.declared.run.Call.TheVariants as calls
use Rattle.quic_machine.specs.declared.run.Answer.{Answer}
use Rattle.quic_machine.specs.Policy.{Policy}
use Rattle.quic_machine.specs.Control.{Control, with_pacing}
use Rattle.quic_machine.specs.Heard.{Heard}
use Rattle.quic_machine.specs.End.{End, with_window, new_end, IsMade}
use Rattle.quic_machine.specs.Validation.{with_blocked}
use Rattle.quic_machine.specs.Machine.{IsAnswer, IsLeft, after_call, reads_window, pacing_left, end_left, tells, fails}
use Rattle.quic_headline.specs.Runs.{In}
use Rattle.quic_headline.specs.Alone.{Lone, IsLoneStep, IsNew, FollowsAlone, handed_in}

-- ---- at the start

-- what holds of an end made so, whatever its peer's parameters say, holds of it
pub made_holds : (P : End → Type 0) (e : End) (new : IsNew e) → ((theirs : ParameterValues) → P (new_end new.side new.settings new.windows theirs new.own_id new.peer_id new.remote new.moment new.validated new.words)) → P e
made_holds P e new all = go (parameters_at new.parameters) new.made
  where
    go : {E : Type 0} (r : Result ParameterValues E) → IsMade new.side new.settings new.windows r new.own_id new.peer_id new.remote new.moment new.validated new.words e → P e
    go (Ok theirs) made = subst P (sym made) (all theirs)
    go (Err error) made = absurd made

-- ---- what is handed in

-- the datagram that a call hands in is one of these
abbrev pub Hands : List (List ℕ) → (List ℕ → Type 0) → Call → Type 0
Hands theirs H (calls.Deliver delivery) = (d : List ℕ) → slice_get theirs delivery.index ≡ Some d → H d
Hands theirs H call = Unit {0}

hands_first : (theirs : List (List ℕ)) (H : List ℕ → Type 0) (call : Call) (more : List Call) → ((d : List ℕ) → In d (handed_in theirs (call ∷ more)) → H d) → Hands theirs H call
hands_first theirs H (calls.Deliver delivery) more all = λ d is. all d (rw is (inl refl))
hands_first theirs H call more all = tt

hands_rest : (theirs : List (List ℕ)) (H : List ℕ → Type 0) (call : Call) (more : List Call) → ((d : List ℕ) → In d (handed_in theirs (call ∷ more)) → H d) → (d : List ℕ) → In d (handed_in theirs more) → H d
hands_rest theirs H (calls.Deliver delivery) more all d j = go (slice_get theirs delivery.index) refl
  where
    go : (o : Option (List ℕ)) → slice_get theirs delivery.index ≡ o → H d
    go None is = all d (rw is j)
    go (Some x) is = all d (rw is (inr j))
hands_rest theirs H call more all d j = all d j

-- ---- one call behind another

-- an end at a call that may be answered so
pub record AtCall (p : Policy) (theirs : List (List ℕ)) (P : End → Type 0) (call : Call) (a : Answer) : Type 0 where
  pub end : End
  pub holds : P end
  pub answer : IsAnswer p end theirs call a

module _ (p : Policy) (theirs : List (List ℕ)) (H : List ℕ → Type 0) (P : End → Type 0)
    (shows : (window : ℕ) (blocked : Bool) (pacing : Pacing) (e : End) → P e → P (with_pacing (with_blocked (with_window e window) blocked) pacing))
    (step : (e : End) (call : Call) (a : Answer) → IsAnswer p e theirs call a → Hands theirs H call → P e → P (after_call p e theirs call a)) where
  -- whatever a call reads
  reads_holds : (control : Control) (heard : Heard) (call : Call) (e : End) → P e → P (reads_window control heard call e)
  reads_holds control heard (calls.Poll now) e i = shows _ _ e.path.pacing e i
  reads_holds control heard call e i = i

  -- behind a call that doesn't fail
  next_holds : (x next : Lone) (call : Call) (a : Answer) → IsLoneStep p theirs x call a next → fails a ≡ false → Hands theirs H call → P x.end → P next.end
  next_holds x next call a s served hands i =
      let left : next.end ≡ end_left p x.control x.heard x.end theirs call a = subst (λ (b : Bool). IsLeft b p x.control x.heard x.end theirs call a next.end) served s.end in
      let met : End = reads_window x.control x.heard call x.end in
      let behind : End = after_call p met theirs call a in
      let paced : Pacing = pacing_left (x.control (tells p met theirs call)) call met behind in
      subst P (sym left) (shows behind.path.window behind.path.blocked paced behind (step met call a s.answer hands (reads_holds x.control x.heard call x.end i)))

  pub at_call : (i : ℕ) (x left : Lone) (cs : List Call) (told : List Answer) (call : Call) (a : Answer) → FollowsAlone p theirs x cs told left → list_any fails (take i told) ≡ false → slice_get cs i ≡ Some call → slice_get told i ≡ Some a
      → ((d : List ℕ) → In d (handed_in theirs (take i cs)) → H d) → P x.end → AtCall p theirs P call a
  at_call i x left [] [] call a f served at_place at_answer all h = cc
  at_call i x left [] (b ∷ told) call a f served at_place at_answer all h = absurd f
  at_call i x left (c ∷ cs) [] call a f served at_place at_answer all h = absurd f
  at_call zero x left (c ∷ cs) (b ∷ told) call a f served at_place at_answer all h =
      let same : c ≡ call = cc in
      let said : b ≡ a = cc in
      let here : AtCall p theirs P c b = record { end = reads_window x.control x.heard c x.end; holds = reads_holds x.control x.heard c x.end h; answer = f.1.answer } in
      subst (λ (y : Answer). AtCall p theirs P call y) said (subst (λ (k : Call). AtCall p theirs P k b) same here)
  at_call (suc i) x left (c ∷ cs) (b ∷ told) call a f served at_place at_answer all h =
      let both = or_parts (fails b) (list_any fails (take i told)) served in
      at_call i f.0 left cs told call a f.2 both.1 at_place at_answer (hands_rest theirs H c (take i cs) all) (next_holds x f.0 c b f.1 both.0 (hands_first theirs H c (take i cs) all) h)

  -- behind all calls
  pub behind_calls : (x left : Lone) (cs : List Call) (told : List Answer) → FollowsAlone p theirs x cs told left → list_any fails told ≡ false → ((d : List ℕ) → In d (handed_in theirs cs) → H d) → P x.end → P left.end
  behind_calls x left [] [] f served all h = subst (λ (y : Lone). P y.end) (sym f) h
  behind_calls x left [] (b ∷ told) f served all h = absurd f
  behind_calls x left (c ∷ cs) [] f served all h = absurd f
  behind_calls x left (c ∷ cs) (b ∷ told) f served all h =
      let both = or_parts (fails b) (list_any fails told) served in
      behind_calls f.0 left cs told f.2 both.1 (hands_rest theirs H c cs all) (next_holds x f.0 c b f.1 both.0 (hands_first theirs H c cs all) h)
