-- What leaves in a datagram, as the machine says it.
use Rattle.std.specs.Prelude.{◌≡◌, ℕ, ◌+◌, ◌-◌, ◌≤◌, length, Bool, true, false, ◌&&◌, max, if◌then◌else◌, Option, Some, None}
use Rattle.quic_connection_parts.specs.declared.leaving.Leaving.{Leaving}
use Rattle.quic_connection_parts.specs.declared.leaving.Leaving.TheVariants.{Whole, Alone, Probe}
use Rattle.quic_machine.specs.Parts.{current_mtu}
use Rattle.quic_packet.specs.Number.{truncated}
use Rattle.quic_spaces.specs.Numbers.{cut_against}
use Rattle.quic_machine.specs.End.{End, number_of, most_payload}
use Rattle.quic_machine.specs.Poll as poll
use Rattle.quic_machine.specs.Validation.{path_waits}
use Rattle.quic_machine.specs.Poll.{Ready, goes, goes_as, rests, beside_frames, most_ordinary, least_by}

-- something that leaves
abbrev pub leaving_of : Leaving → poll.Leaving
leaving_of Whole = poll.whole
leaving_of Alone = poll.alone
leaving_of (Probe size) = poll.probe size

-- nothing leaves, or this
abbrev pub Leaves : Option Leaving → poll.Leaving → Type 0
Leaves None l = goes_as l ≡ false
Leaves (Some leaving) l = l ≡ leaving_of leaving

-- the end that is left: where nothing leaves, it is noted whether it is held back
abbrev pub rested_if : Bool → Ready → End
rested_if true g = g.end
rested_if false g = rests g

-- so it is where it goes or doesn't
abbrev pub rested : Ready → End
rested g = rested_if (goes g) g

-- a probe is no smaller than the current size, and a UDP payload may have so many bytes
abbrev pub IsLooked : Leaving → End → Type 0
IsLooked leaving e = (size : ℕ) → leaving_of leaving ≡ poll.probe size → (current_mtu e.path ≤ size) × (size ≤ most_payload)

-- whether the datagram has a frame of path validation: what waits of them goes with the rest
abbrev pub pads_left : poll.Leaving → End → Bool
pads_left poll.whole e = path_waits e
pads_left leaving e = false

-- how many bytes the datagram has at least, by what leaves, by whether it has a frame of path
-- validation, and by whether it asks: those that ask have as many as an ordinary datagram has at most,
-- where that is set
abbrev pub least_of : poll.Leaving → Bool → Bool → End → ℕ
least_of leaving pads asks e = if e.transport.pad_to_mtu && asks then max (least_by leaving pads) (most_ordinary e) else least_by leaving pads

-- how many bytes 0 stand behind frames of so many bytes, where the datagram has so many at least
abbrev pub zeros_of : End → ℕ → ℕ → ℕ
zeros_of e used least = max (4 - ((truncated (number_of e) (cut_against e.numbers)).width + used)) (least - (beside_frames e + used))
