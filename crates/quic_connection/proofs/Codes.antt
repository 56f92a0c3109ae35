-- The codes of events and of calls, one after another.
use Rattle.std.proofs.Common.{◌≡◌, ℕ, zero, suc, ◌<◌, List, [], ◌∷◌, length, take, Some, inl, inr, sym, subst, arith}
use Rattle.std.specs.Prelude.{slice_get, IfSome}
use Rattle.quic_machine.specs.declared.run.Call.{Call}
use Rattle.quic_machine.specs.declared.run.RunEvent.{RunEvent}
use Rattle.quic_headline.specs.Headline.{CodeIsSmall, AreCodes}
use Rattle.quic_headline.specs.LoneAcks.{CodesAreSmall}

-- the code of an event at a place, if there is one
abbrev pub CodeAt : List RunEvent → ℕ → Type 0
CodeAt events k = IfSome (slice_get events k) (λ event. CodeIsSmall event.call)

-- each place is that of an event
pub are_codes : (events : List RunEvent) → ((k : ℕ) → k < length events → CodeAt events k) → AreCodes events
are_codes [] codes event within = absurd within
are_codes (e ∷ events) codes event (inl same) = let P : RunEvent → Type 0 = λ x. CodeIsSmall x.call in subst P (sym same) (codes 0 (omega arith))
are_codes (e ∷ events) codes event (inr later) = are_codes events (λ k below. codes (suc k) (omega arith)) event later

-- the code of an event that stands there
pub code_at : (events : List RunEvent) (k : ℕ) (event : RunEvent) → slice_get events k ≡ Some event → CodeIsSmall event.call → CodeAt events k
code_at events k event is code = rw is code

-- ---- calls

-- the code of a call at a place, if there is one
abbrev pub CallAt : List Call → ℕ → Type 0
CallAt made k = IfSome (slice_get made k) CodeIsSmall

-- each place is that of a call
pub are_small : (made : List Call) → ((k : ℕ) → k < length made → CallAt made k) → CodesAreSmall made
are_small [] codes call within = absurd within
are_small (c ∷ made) codes call (inl same) = subst CodeIsSmall (sym same) (codes 0 (omega arith))
are_small (c ∷ made) codes call (inr later) = are_small made (λ k below. codes (suc k) (omega arith)) call later

-- the code of a call that stands there
pub call_at : (made : List Call) (k : ℕ) (call : Call) → slice_get made k ≡ Some call → CodeIsSmall call → CallAt made k
call_at made k call is code = rw is code

-- so it is of the first so many
pub first_small : (n : ℕ) (made : List Call) → CodesAreSmall made → CodesAreSmall (take n made)
first_small zero made small call within = absurd within
first_small (suc n) [] small call within = absurd within
first_small (suc n) (c ∷ made) small call (inl same) = small call (inl same)
first_small (suc n) (c ∷ made) small call (inr later) = first_small n made (λ d among. small d (inr among)) call later
