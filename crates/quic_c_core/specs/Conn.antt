-- The connection of an endpoint, and what the machine answers there.
use Rattle.std.specs.Prelude.{ℕ, Bool, false, List, Option, Some, None, Result, Ok, Err}
use Rattle.rand_core.specs.Steps.{stream_of, steps_u32}
use Rattle.rand_chacha.specs.ChaCha.{ChaCha, next_word}
use Rattle.quic_wire_core.specs.declared.shared.EcnCodepoint.{EcnCodepoint}
use Rattle.quic_congestion.specs.NewReno.{Reno, reno_steps}
use Rattle.quic_keys.specs.declared.key.PlainHeaderKey.{PlainHeaderKey}
use Rattle.quic_keys.specs.declared.key.PlainKey.{PlainKey}
use Rattle.quic_keys.specs.Plain.{plain_protection, plain_aead}
use Rattle.quic_machine.specs.declared.answers.Failed.{Failed}
use Rattle.quic_machine.specs.declared.answers.Transmit.{Transmit}
use Rattle.quic_machine.specs.Migration.{repaced}
use Rattle.quic_machine.specs.Policy.{Policy}
use Rattle.quic_machine.specs.Arrival.{arriving}
use Rattle.quic_machine.specs.Heard.{is_last}
use Rattle.quic_machine.specs.End.{End, ConnectionValue, policy_of}
use Rattle.quic_machine.specs.Receive.{Outcome, received, told_received}
use Rattle.quic_machine.specs.Poll.{Polled, polled}
use Rattle.quic_machine.specs.Timeouts.{TimedOut, timed_out}
use Rattle.quic_connection_parts.specs.Drawn.{words_of}
use Rattle.quic_connection_parts.specs.Given.{given_bytes}
use Rattle.quic_connection_parts.specs.Telling.{windows_of, reading}
use Rattle.quic_machine.specs.Calls.{is_open}
use Rattle.quic_retransmits.specs.Retransmits.{Retransmits}
use Rattle.quic_streams_state.specs.declared.state.StreamsState.{StreamsState}
use Rattle.quic_connection_core.specs.Handed.{handed_back}
use Rattle.quic_c_core.specs.Answers.{mark_number}

-- a connection with the stand-in keys, NewReno, and ChaCha20 as its random source
abbrev pub Conn : Type 0
Conn = ConnectionValue PlainHeaderKey PlainKey ChaCha Reno

-- what its keys do, and its random source from here on
abbrev pub policy_at : Conn → Policy
policy_at c = policy_of (λ _. plain_protection) (λ k. plain_aead k.mark) (λ k. k.confidentiality_limit) (λ k. k.integrity_limit) (words_of (stream_of (steps_u32 (next_word 10)))) c

-- what the machine makes of bytes that come at a moment from an address, with a mark or with none
abbrev pub received_at : Conn → ℕ → ℕ → Option EcnCodepoint → List ℕ → Outcome
received_at c now address mark bytes = received (policy_at c) c.end (arriving now address mark (is_last c.keys.packet.remote.integrity_limit c.heard)) bytes

-- what is left then: where the end has another path its pacer is made for the window that the
-- controller shows
abbrev pub received_end : Conn → ℕ → ℕ → Option EcnCodepoint → List ℕ → End
received_end c now address mark bytes = repaced (windows_of reno_steps (λ r. r.window) c.control (told_received (policy_at c) c.end (arriving now address mark false) bytes)) c.end (received_at c now address mark bytes).end

-- what it makes of a poll
abbrev pub polled_at : Conn → ℕ → Polled
polled_at c now = polled (policy_at c) (reading (λ r. r.window) c) now

-- the bytes of the datagram that a poll gives
abbrev pub datagram_at : Conn → ℕ → List ℕ
datagram_at c now = given_bytes (polled_at c now).datagram

-- the length and the ECN codepoint of what a poll gives, if it gives something
abbrev pub given_of : Result (Option Transmit) Failed → ℕ → Option (ℕ × ℕ)
given_of (Ok (Some transmit)) length = Some (length, mark_number transmit.ecn)
given_of (Ok None) length = None
given_of (Err _) length = None

-- what it makes of timers that have come
abbrev pub timed_out_at : Conn → ℕ → TimedOut
timed_out_at c now = timed_out (policy_at c) c.end now

-- a connection whose streams are left so, with what waits to be sent of them
abbrev pub with_streams_at : Conn → StreamsState → Retransmits → Conn
with_streams_at c state pending = handed_back c (record { state = state; pending = pending })

-- whether it sends and receives
abbrev pub opened : Conn → Bool
opened c = is_open c.end.closing.state

-- when the next timer is due, and the greatest number where none is set
abbrev pub next_or_never : Option ℕ → ℕ
next_or_never None = 18446744073709551615
next_or_never (Some time) = time
