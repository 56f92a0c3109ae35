-- Which messages may be sent (RFC 9221, section 3).
use Rattle.std.specs.Prelude.{ℕ, ◌+◌, ◌-◌, min, Bool, not, nat_le, nat_lt, ◌||◌, ◌==◌, if◌then◌else◌, List, length, Option, Some, None, is_none, is_ok, Result, Ok, Err}
use Rattle.quic_messages.specs.declared.errors.SendDatagramError.{SendDatagramError}
use Rattle.quic_messages.specs.declared.errors.SendDatagramError.TheVariants.{UnsupportedByPeer, Disabled, TooLarge, Blocked}
use Rattle.quic_messages.specs.declared.limits.DatagramLimits.{DatagramLimits}
use Rattle.quic_messages.specs.Messages.{Messages, bytes_of, with_message}

-- the longest message, by the longest frame that the peer takes, the size of a datagram and the
-- length of an id: 9 bytes may stand beside it in its frame, and these, 21 others and the id in a
-- packet
abbrev pub max_size : ℕ → ℕ → ℕ → Option ℕ
max_size frame size id = if frame == 0 then None else Some (min (frame - 9) (size - id - 30))

-- whether one more message fits beside those that wait
abbrev pub has_room : ℕ → List ℕ → Messages → Bool
has_room room m s = nat_le (bytes_of length s.outgoing + length m) room

-- what `send` answers at an end that is open and takes messages
abbrev pub sized_answer : Option ℕ → Bool → List ℕ → Result (Unit {0}) SendDatagramError
sized_answer None has_room m = Err UnsupportedByPeer
sized_answer (Some most) has_room m = if nat_lt most (length m) then Err TooLarge else (if has_room then Ok tt else Err Blocked)

-- what `send` answers
abbrev pub send_answer : DatagramLimits → Bool → List ℕ → Messages → Result (Unit {0}) SendDatagramError
send_answer limits makes_room m s =
    if not limits.is_open then Err Blocked
    else (if is_none limits.receive_buffer_size then Err Disabled
    else sized_answer limits.max_size (makes_room || has_room limits.send_buffer_size m s) m)

-- where nothing refuses the message, it waits behind the others, of which the oldest go until it
-- fits
abbrev pub after_send : DatagramLimits → Bool → List ℕ → Messages → Messages
after_send limits makes_room m s =
    if is_ok (send_answer limits makes_room m s) then record s { outgoing = with_message length limits.send_buffer_size m s.outgoing } else s
