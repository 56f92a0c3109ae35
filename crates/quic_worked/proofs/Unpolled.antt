-- Where an event is no poll of an end, no poll of it stands there.
use Rattle.std.proofs.Common.{◌≡◌, ℕ, Bool, true, false, Option, Some, None, sym, ap, ◌∙◌}
use Rattle.std.specs.Prelude.{◌&&◌}
use Rattle.quic_wire_core.specs.declared.stream_id.Side.{Side}
use Rattle.quic_wire_core.specs.declared.stream_id.Side.TheVariants.{Client, Server}
use Rattle.quic_machine.specs.declared.run.RunEvent.{RunEvent}
use Rattle.quic_machine.specs.declared.run.Call.{Call}
use Rattle.quic_machine.specs.declared.run.Call.TheVariants as calls
use Rattle.quic_headline.specs.Runs.{same_side}

abbrev pub is_poll : Call → Bool
is_poll (calls.Poll now) = true
is_poll call = false

-- whether an event is a poll of that end
abbrev pub polls : Side → Option RunEvent → Bool
polls side None = false
polls side (Some event) = is_poll event.call && same_side event.side side

pub unpolled : (side : Side) (now : ℕ) (at : Option RunEvent) → at ≡ Some (record { side = side; call = calls.Poll now }) → polls side at ≡ false → ⊥
unpolled Client now at is none = let clash : true ≡ false = sym (ap (λ (o : Option RunEvent). polls Client o) is) ∙ none in cc
unpolled Server now at is none = let clash : true ≡ false = sym (ap (λ (o : Option RunEvent). polls Server o) is) ∙ none in cc
