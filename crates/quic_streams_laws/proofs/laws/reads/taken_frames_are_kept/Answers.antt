use Rattle.std.proofs.Common.{[], ◌∷◌, ◌++◌, inl, inr, sym, arith}
use Rattle.std.specs.Prelude.{Contains}
use Rattle.std.proofs.lemmas.List.Elements.{Contains-push_cases}
use Rattle.quic_wire.specs.Value.{StreamValue}
use Rattle.quic_streams_laws.specs.TakenLaws.{taken_new, taken_set_params, taken_stream, taken_reset, taken_begun, taken_next, taken_stop, taken_received_reset}
use Rattle.quic_streams_laws.proofs.laws.reads.taken_frames_are_kept.Goals as goal

pub returns-clause-new : goal.returns-clause-new
returns-clause-new c = λ side uni bi send_window window stream_window. taken_new (λ f. Contains [] f) side uni bi send_window window stream_window (λ f t. none f t)
  where
    none : (f : StreamValue) → Contains [] f → ⊥
    none f t = let below = t.1 in omega arith

pub returns-clause-taken : goal.returns-clause-taken
returns-clause-taken c = λ taken s p f none i. taken_stream (λ g. Contains taken g) (λ g. Contains (taken ++ f ∷ []) g) s p f (λ g t. elim (Contains-push_cases taken f g t) [ inl was ↦ inl was | inr now ↦ inr (sym now, none) ]) i

pub returns-clause-stream : goal.returns-clause-stream
returns-clause-stream c = λ taken s p f i. taken_stream (λ g. Contains taken g) (λ g. Contains taken g) s p f (λ g t. inl t) i

pub returns-clause-reset_stream : goal.returns-clause-reset_stream
returns-clause-reset_stream c = λ taken s p f i. taken_reset (λ f. Contains taken f) s p f i

pub returns-clause-begun : goal.returns-clause-begun
returns-clause-begun c = λ taken s id ordered i. taken_begun (λ f. Contains taken f) s id ordered i

pub returns-clause-next : goal.returns-clause-next
returns-clause-next c = λ taken told s id most answer is i. taken_next (λ f. Contains taken f) told s id most answer is i

pub returns-clause-stop : goal.returns-clause-stop
returns-clause-stop c = λ taken s p id code i. taken_stop (λ f. Contains taken f) s p id code i

pub returns-clause-received_reset : goal.returns-clause-received_reset
returns-clause-received_reset c = λ taken s p id i. taken_received_reset (λ f. Contains taken f) s p id i

pub returns-clause-limits : goal.returns-clause-limits
returns-clause-limits c = λ taken s p i. taken_set_params (λ f. Contains taken f) s p i
