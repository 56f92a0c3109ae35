-- Small ends on which rows are computed: one whose window is small, one that keeps a connection
-- alive, and one that queues few messages.
use Rattle.std.specs.Prelude.{ℕ, Bool, true, false, List, [], ◌∷◌, replicate, Option, Some, Result, Ok}
use Rattle.quic_wire.specs.Close.{CloseValue, by_transport, by_application, transport_close}
use Rattle.quic_parameters.specs.Parameters.{ParameterValues}
use Rattle.quic_config.specs.Transport.{parameters_of}
use Rattle.quic_congestion.specs.NewReno.{default_reno, reno_made}
use Rattle.quic_wire_core.specs.declared.stream_id.Side.TheVariants.{Client}
use Rattle.quic_machine.specs.declared.run.Call.TheVariants as calls
use Rattle.quic_machine.specs.declared.run.Answer.TheVariants as answers
use Rattle.quic_machine.specs.declared.answers.ConfigError.{ConfigError}
use Rattle.quic_machine.specs.Calls.{end_after_ping, end_after_close}
use Rattle.quic_machine.specs.End.{End, new_end, refusal_of}
use Rattle.quic_machine.specs.MessageCalls.{end_on_messages}
use Rattle.quic_machine.specs.Timeouts.{timed_out}
use Rattle.quic_worked.specs.Settings.{plain_settings}
use Rattle.quic_worked.specs.Worked.{worked_policies, steady, long_keys, client_id, server_id, client_gives, once_taken}

-- ---- the least window

-- what was read of the parameters of a peer for which nothing is set
abbrev pub plain_peer : Result ParameterValues ℕ
plain_peer = Ok (parameters_of plain_settings)

-- why no client is made whose controller begins with this window, if none is
abbrev pub refused_with : ℕ → Option ConfigError
refused_with window = refusal_of plain_settings (reno_made (record default_reno { initial = window }) 0 1200).window long_keys plain_peer client_id server_id

-- ---- closes of the peer

-- CONNECTION_CLOSE between two PINGs: FLOW_CONTROL_ERROR in a STREAM frame, with the text `late`
-- (RFC 9000, section 19.19)
abbrev pub late_payload : List ℕ
late_payload = 0x01 ∷ 0x1c ∷ 0x03 ∷ 0x08 ∷ 0x04 ∷ 0x6c ∷ 0x61 ∷ 0x74 ∷ 0x65 ∷ 0x01 ∷ []

-- what it says
abbrev pub late_close : CloseValue
late_close = by_transport (transport_close 3 (Some 8) (0x6c ∷ 0x61 ∷ 0x74 ∷ 0x65 ∷ []))

-- the application's code 300, with no text, between two PINGs
abbrev pub bare_payload : List ℕ
bare_payload = 0x01 ∷ 0x1d ∷ 0x41 ∷ 0x2c ∷ 0x00 ∷ 0x01 ∷ []

-- what it says
abbrev pub bare_close : CloseValue
bare_close = by_application (record { code = 300; reason = [] })

-- ---- keep-alive

-- a client that is to be without a packet for a second at most
abbrev pub alive_made : End
alive_made = new_end Client (record plain_settings { keep_alive_interval = Some 1000000000 }) steady (parameters_of plain_settings) client_id server_id 0 0 true (λ n. 63)

-- it gave a datagram at moment 0
unfoldable pub alive_given : End
unfolding once_taken
alive_given = (client_gives (end_after_ping alive_made) 0).end

-- its timers were served at a moment
abbrev pub alive_served : ℕ → End
alive_served now = (timed_out worked_policies.client alive_given now).end

-- and it gave PING
unfoldable pub alive_pinged : End
unfolding alive_given
alive_pinged = (client_gives (alive_served 1000000000) 1000000000).end

-- its application closes it half a second later
abbrev pub alive_closed : End
alive_closed = end_after_close 1500000000 0 [] alive_pinged

-- ---- messages

-- a client that queues eight bytes of messages
abbrev pub narrow_client : End
narrow_client = new_end Client (record plain_settings { datagram_send_buffer_size = 8 }) steady (parameters_of plain_settings) client_id server_id 0 0 true (λ n. 63)

-- a letter so many times
abbrev pub letters : ℕ → ℕ → List ℕ
letters count letter = replicate count letter

-- a message is queued, for which older ones may go or not
abbrev pub queued : Bool → List ℕ → End → End
queued makes_room message e = end_on_messages e (calls.Send message makes_room) (answers.Send (Ok tt))

-- two messages fill it
abbrev pub filled_client : End
filled_client = queued false (letters 4 0x62) (queued false (letters 4 0x61) narrow_client)

-- the first went for a third
abbrev pub third_queued : End
third_queued = queued true (letters 2 0x63) filled_client

-- both that wait go
unfoldable pub messages_given : End
unfolding once_taken
messages_given = (client_gives third_queued 0).end

-- two more wait, and both went for one that is longer than there is room
abbrev pub longest_queued : End
longest_queued = queued true (letters 9 0x66) (queued true (letters 2 0x65) (queued true (letters 4 0x64) messages_given))
