-- The answer to what a server asked at an address comes from there once its peer is at another one,
-- and a machine takes the other one for validated by it (RFC 9000, sections 8.2 and 9.3).
use Rattle.std.specs.Prelude.{ℕ, List, ◌∷◌, [], ◌++◌, take}
use Rattle.quic_machine.specs.declared.run.RunEvent.{RunEvent}
use Rattle.quic_machine.specs.Machine.{World}
use Rattle.quic_headline.specs.Runs.{Run}
use Rattle.quic_worked.specs.Worked.{ran_so_far, worked_policies}
use Rattle.quic_worked.specs.Unvalidated.{far_start}
use Rattle.quic_worked.specs.Migrated.{comes_from}
use Rattle.quic_worked.specs.Moved.{late_events, early_answers, early_run}

-- the answer comes from the old address, behind the packet from the new one
abbrev pub elsewhere_events : List RunEvent
elsewhere_events = take 10 late_events ++ comes_from 0 1 ∷ []

-- what the first so many of these leave
abbrev pub once_elsewhere : ℕ → World
once_elsewhere n = ran_so_far worked_policies far_start elsewhere_events early_answers n

-- a server that takes the new address for validated then
abbrev pub elsewhere_run : Run
elsewhere_run = record early_run { events = elsewhere_events }
