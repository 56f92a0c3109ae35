-- What calls of an endpoint answer, as numbers and as errors of calls.
use Rattle.std.specs.Prelude.{ℕ, ℤ, negsuc, nat_eq, nat_le, if◌then◌else◌, List, ◌++◌, length, drop, Option, Some, None, Result, Ok, Err}
use Rattle.quic_wire_core.specs.declared.shared.EcnCodepoint.{EcnCodepoint}
use Rattle.quic_wire_core.specs.declared.shared.EcnCodepoint.TheVariants as marks
use Rattle.quic_wire_core.specs.declared.stream_id.Dir.{Dir}
use Rattle.quic_wire_core.specs.declared.stream_id.Dir.TheVariants as dirs
use Rattle.quic_machine.specs.declared.answers.DropReason.{DropReason}
use Rattle.quic_machine.specs.declared.answers.DropReason.TheVariants as drops
use Rattle.quic_machine.specs.declared.answers.Received.{Received}
use Rattle.quic_machine.specs.declared.answers.Received.TheVariants as received_as
use Rattle.quic_machine.specs.declared.answers.State.{State}
use Rattle.quic_machine.specs.declared.answers.State.TheVariants as states
use Rattle.quic_machine.specs.declared.answers.HandshakeDoneError.{HandshakeDoneError}
use Rattle.quic_machine.specs.declared.answers.HandshakeDoneError.TheVariants as done_errors
use Rattle.quic_machine.specs.declared.answers.NextIdError.{NextIdError}
use Rattle.quic_machine.specs.declared.answers.NextIdError.TheVariants as next_errors
use Rattle.quic_streams_parts.specs.declared.answers.WriteError.{WriteError}
use Rattle.quic_streams_parts.specs.declared.answers.WriteError.TheVariants as write_errors
use Rattle.quic_streams_parts.specs.declared.answers.FinishError.{FinishError}
use Rattle.quic_streams_parts.specs.declared.answers.FinishError.TheVariants as finish_errors
use Rattle.quic_streams_parts.specs.declared.answers.UpdateError.{UpdateError}
use Rattle.quic_streams_parts.specs.declared.answers.UpdateError.TheVariants as update_errors
use Rattle.quic_messages.specs.declared.errors.SendDatagramError.{SendDatagramError}
use Rattle.quic_messages.specs.declared.errors.SendDatagramError.TheVariants as send_errors
use Rattle.quic_c_core.specs.declared.call_error.CallError.{CallError}
use Rattle.quic_c_core.specs.declared.call_error.CallError.TheVariants as errors

-- ---- numbers

-- the place of an error among those of the header
abbrev pub error_index : CallError → ℕ
error_index errors.Invalid = 0
error_index errors.Room = 1
error_index errors.Memory = 2
error_index errors.Failed = 3
error_index errors.Size = 4
error_index errors.Setting = 5
error_index errors.Seed = 6
error_index errors.IdLength = 7
error_index errors.Parameters = 8
error_index errors.DatagramSize = 9
error_index errors.Window = 10
error_index errors.KeyLimit = 11
error_index errors.Absent = 12
error_index errors.Blocked = 13
error_index errors.ClosedStream = 14
error_index (errors.Stopped code) = 15
error_index (errors.Reset code) = 16
error_index errors.Order = 17
error_index errors.TooLarge = 18
error_index errors.Disabled = 19
error_index errors.Unsupported = 20
error_index errors.Closed = 21
error_index errors.Client = 22
error_index errors.Again = 23
error_index errors.NotOpen = 24

-- the number of an error, as the header has it: -1 and below
abbrev pub error_number : CallError → ℤ
error_number e = negsuc (error_index e)

-- what is answered where bytes are put to the front of a room of so many: how many they are, unless
-- they don't fit
abbrev pub put_answer : List ℕ → ℕ → Result ℕ CallError
put_answer bytes room = if nat_le (length bytes) room then Ok (length bytes) else Err errors.Room

-- what the room has then
abbrev pub put_into : List ℕ → List ℕ → List ℕ
put_into bytes room = if nat_le (length bytes) (length room) then bytes ++ drop (length bytes) room else room

-- the ECN codepoint of two bits, which may be none; nothing of a greater number (RFC 3168, section 5)
abbrev pub mark_of : ℕ → Option (Option EcnCodepoint)
mark_of bits =
    if nat_eq bits 0 then Some None
    else (if nat_eq bits 1 then Some (Some marks.Ect1)
    else (if nat_eq bits 2 then Some (Some marks.Ect0)
    else (if nat_eq bits 3 then Some (Some marks.Ce)
    else None)))

-- the two bits of an ECN codepoint
abbrev pub mark_number : Option EcnCodepoint → ℕ
mark_number None = 0
mark_number (Some marks.Ect1) = 1
mark_number (Some marks.Ect0) = 2
mark_number (Some marks.Ce) = 3

-- the kind of streams of a number; nothing of one above 1
abbrev pub dir_numbered : ℕ → Option Dir
dir_numbered n = if nat_eq n 0 then Some dirs.Bi else (if nat_eq n 1 then Some dirs.Uni else None)

-- the number of the reason why a datagram was dropped; an end that has failed isn't answered so
abbrev pub dropped_number : DropReason → Result ℕ CallError
dropped_number drops.TooShort = Ok 1
dropped_number drops.NotShort = Ok 2
dropped_number drops.FixedBit = Ok 3
dropped_number drops.UnknownId = Ok 4
dropped_number drops.NotOpened = Ok 5
dropped_number drops.KeyPhase = Ok 6
dropped_number drops.Duplicate = Ok 7
dropped_number drops.Closing = Ok 8
dropped_number drops.Drained = Ok 9
dropped_number drops.Address = Ok 10
dropped_number drops.Failed = Err errors.Failed

-- what it is answered that a datagram came to: 0 where it was taken
abbrev pub received_number : Received → Result ℕ CallError
received_number received_as.Taken = Ok 0
received_number (received_as.Dropped reason) = dropped_number reason
received_number (received_as.Closed error) = Err errors.Closed
received_number received_as.Failed = Err errors.Failed

-- the number of a state
abbrev pub state_number : State → ℕ
state_number states.Open = 0
state_number states.Closing = 1
state_number states.Drained = 2
state_number states.Failed = 3

-- ---- errors

-- an answer, with the error of a call in the place of its own
abbrev pub named : {A E : Type 0} → (E → CallError) → Result A E → Result A CallError
named name (Ok x) = Ok x
named name (Err e) = Err (name e)

abbrev pub of_done : HandshakeDoneError → CallError
of_done done_errors.Client = errors.Client
of_done done_errors.Again = errors.Again
of_done done_errors.NotOpen = errors.NotOpen

abbrev pub of_next_id : NextIdError → CallError
of_next_id next_errors.NoId = errors.Absent
of_next_id next_errors.TooManyPending = errors.Blocked
of_next_id next_errors.Memory = errors.Memory

abbrev pub of_write : WriteError → CallError
of_write write_errors.Blocked = errors.Blocked
of_write (write_errors.Stopped code) = errors.Stopped code
of_write write_errors.ClosedStream = errors.ClosedStream
of_write write_errors.Memory = errors.Memory

abbrev pub of_finish : FinishError → CallError
of_finish (finish_errors.Stopped code) = errors.Stopped code
of_finish finish_errors.ClosedStream = errors.ClosedStream
of_finish finish_errors.Memory = errors.Memory

abbrev pub of_update : UpdateError → CallError
of_update update_errors.ClosedStream = errors.ClosedStream
of_update update_errors.Memory = errors.Memory

abbrev pub of_send : SendDatagramError → CallError
of_send send_errors.UnsupportedByPeer = errors.Unsupported
of_send send_errors.Disabled = errors.Disabled
of_send send_errors.TooLarge = errors.TooLarge
of_send send_errors.Blocked = errors.Blocked
of_send send_errors.Memory = errors.Memory
