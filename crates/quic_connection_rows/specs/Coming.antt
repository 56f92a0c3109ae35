-- Packets that come to new ends, and the codes with which these close.
use Rattle.std.specs.Prelude.{ℕ, true, false, List, [], ◌∷◌, ◌++◌, replicate, Option, Some, None}
use Rattle.quic_wire.specs.Reading.{application_close_at, connection_close_at, ack_frequency_at}
use Rattle.quic_config.specs.Transport.{parameters_of}
use Rattle.quic_wire_core.specs.declared.stream_id.Side.TheVariants.{Server}
use Rattle.quic_machine.specs.declared.answers.Received.{Received}
use Rattle.quic_machine.specs.declared.answers.Received.TheVariants as receives
use Rattle.quic_machine.specs.Arrival.{arriving}
use Rattle.quic_machine.specs.End.{End, new_end}
use Rattle.quic_machine.specs.Receive.{Outcome, opened_to}
use Rattle.quic_worked.specs.Settings.{plain_settings}
use Rattle.quic_worked.specs.Worked.{steady, client_id, server_id}
use Rattle.quic_worked.specs.Acknowledged.{client_acked}

-- what comes of a packet with this payload, under number 0
unfoldable pub came : List ℕ → End → Outcome
unfolding client_acked application_close_at connection_close_at ack_frequency_at
came payload e = opened_to (record { first = 0x40; number = 0; payload = payload }) (arriving 0 0 None false) e

-- the code with which an end closes, where it does
abbrev pub code_of : Received → Option ℕ
code_of (receives.Closed error) = Some error.code
code_of answer = None

-- the code with which an end closes for a packet with this payload
abbrev pub closes_with : List ℕ → End → Option ℕ
closes_with payload e = code_of (came payload e).answer

-- a server that takes eight bytes on all its streams, before any is read
abbrev pub narrow_server : End
narrow_server = new_end Server (record plain_settings { receive_window = 8 }) steady (parameters_of plain_settings) server_id client_id 0 0 true (λ n. 63)

-- one that takes no messages
abbrev pub silent_server : End
silent_server = new_end Server (record plain_settings { datagram_receive_buffer_size = None }) steady (parameters_of plain_settings) server_id client_id 0 0 true (λ n. 63)

-- NEW_CONNECTION_ID of a number, which asks that those below another be retired, with an id of
-- eight bytes (RFC 9000, section 19.15)
abbrev pub new_id : ℕ → ℕ → List ℕ
new_id number least = 0x18 ∷ number ∷ least ∷ 0x08 ∷ replicate 24 0x77
