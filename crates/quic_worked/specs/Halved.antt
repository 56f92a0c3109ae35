-- A run in which a window falls as datagrams are lost (RFC 9002, section 7.3.2): that in which a
-- round trip is measured, with a controller at the client that shows half its window once it was
-- told of congestion. And a machine whose controller is told of no loss.
use Rattle.std.specs.Prelude.{ℕ, Bool, true, false, if◌then◌else◌, List, [], ◌∷◌, ◌++◌, replicate, Option, Some, None}
use Rattle.std.specs.List.{list_any}
use Rattle.quic_congestion.specs.Congestion.{Told, Sent, Acked, AcksEnded, Congested}
use Rattle.quic_time.specs.Rtt.{assumed_rtt}
use Rattle.quic_machine.specs.declared.run.View.{View}
use Rattle.quic_machine.specs.Control.{Control}
use Rattle.quic_machine.specs.Machine.{World}
use Rattle.quic_headline.specs.Runs.{Run}
use Rattle.quic_worked.specs.Worked.{ran_so_far, worked_policies, started}
use Rattle.quic_worked.specs.Acknowledged.{client_acked}
use Rattle.quic_worked.specs.Timed.{seen_with}
use Rattle.quic_worked.specs.Measured.{measured_events, measured_answers, measured_run}

-- whether a controller is told of congestion
abbrev pub is_congestion : Told → Bool
is_congestion (Congested now sent persistent lost) = true
is_congestion told = false

-- a controller that shows half its window once it was told so
abbrev pub halving_control : Control
halving_control = λ (told : List Told). if list_any is_congestion told then 6000 else 12000

-- both ends, of which the client has it
abbrev pub halving : World
halving = record started { client_control = halving_control }

-- what the first so many events of the run leave
unfoldable pub once_halving : ℕ → World
unfolding client_acked
once_halving n = ran_so_far worked_policies halving measured_events measured_answers n

-- the client shows half its window, and its loss timer so
abbrev pub halved_view : Option ℕ → View
halved_view loss = (let v = seen_with loss None in record v { client = record v.client { window = 6000 } })

-- the run: the window is half from the first loss on
abbrev pub halving_run : Run
halving_run = record measured_run { start = halving; views = seen_with None None ∷ replicate 9 (seen_with (Some 1024000000) None) ++ halved_view (Some 112500000) ∷ halved_view None ∷ [] }

-- what its controller is told: of four datagrams; that the last is acknowledged, before any round
-- trip was measured, with three in flight then; and of the losses, by number and by time
abbrev pub halving_told : List Told
halving_told =
    Sent 0 223 0
    ∷ Sent 0 29 1
    ∷ Sent 0 29 2
    ∷ Sent 0 29 3
    ∷ Acked 100000000 0 29 false (assumed_rtt 333000000)
    ∷ AcksEnded 100000000 281 false (Some 3)
    ∷ Congested 100000000 0 false 223
    ∷ Congested 112500000 0 false 58
    ∷ []

-- a machine whose controller is told of no loss: the window stays
abbrev pub untold_run : Run
untold_run = record measured_run { start = halving }
