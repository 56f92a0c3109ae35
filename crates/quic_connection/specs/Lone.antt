-- One end at which calls are made, one behind another, as the machine sees it, and what it gives.
use Rattle.std.specs.Prelude.{ℕ, ◌≡◌, List, ◌++◌}
use Rattle.quic_machine.specs.declared.run.Call.{Call}
use Rattle.quic_machine.specs.declared.run.Answer.{Answer}
use Rattle.quic_machine.specs.Policy.{Policy}
use Rattle.quic_machine.specs.Control.{Control}
use Rattle.quic_machine.specs.End.{ConnectionValue}
use Rattle.quic_headline.specs.Alone.{Lone, GivesAlone}

-- an end, whose controller shows these windows
abbrev pub lone_of : {H K R C : Type 0} → (C → Control) → ConnectionValue H K R C → Lone
lone_of windows e = record { end = e.end; control = windows e.control; heard = e.heard }

-- what calls give stands behind what was given before
pub record AddsAlone (p : Policy) (theirs : List (List ℕ)) (x : Lone) (made : List Call) (told : List Answer) (left : Lone) (old new : List (List ℕ)) : Type 0 where
  pub more : List (List ℕ)
  pub behind : new ≡ old ++ more
  pub gives : GivesAlone p theirs x made told more left
