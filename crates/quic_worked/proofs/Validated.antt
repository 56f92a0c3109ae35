-- A view that shows the peer's address as validated limits nothing.
use Rattle.std.proofs.Common.{◌≡◌, ◌⊎◌, ℕ, true, false, inl, inr, sym, ◌∙◌}
use Rattle.quic_wire_core.specs.declared.stream_id.Side.{Side}
use Rattle.quic_machine.specs.declared.run.View.{View}
use Rattle.quic_headline.specs.Runs.{Run}
use Rattle.quic_headline.specs.Polls.{end_in, IsLimited}

pub unless_limited : (r : Run) (side : Side) (i : ℕ) (v : View) (A : Type 0) → (end_in v side).validated ≡ true → A ⊎ IsLimited r side i v → A
unless_limited r side i v A valid (inl a) = a
unless_limited r side i v A valid (inr l) = let clash : true ≡ false = sym valid ∙ l.unvalidated in absurd cc
