-- Clients that say of a stream what wasn't written (RFC 9000, sections 2.2 and 19.8): one gives its
-- first byte again as another one, one gives that byte with FIN, though the stream goes on, and one
-- gives a frame without a byte, behind all that was written.
use Rattle.std.specs.Prelude.{ℕ, Bool, false, true, List, [], ◌∷◌}
use Rattle.quic_wire.specs.Value.{StreamValue, stream}
use Rattle.quic_headline.specs.Runs.{Run}
use Rattle.quic_headline.specs.Observer.{Sent}
use Rattle.quic_worked.specs.Acknowledged.{client_datagram}
use Rattle.quic_worked.specs.Credit.{eight_payload}
use Rattle.quic_worked.specs.Said.{said_run}
use Rattle.quic_worked.specs.Misstated.{second_sent}

-- the run in which the client's second datagram says this
abbrev pub saying : List ℕ → Run
saying payload = record said_run { from_client = client_datagram 0 0 eight_payload ∷ client_datagram 1 0 payload ∷ [] }

-- STREAM without offset and length: one byte of stream 0
abbrev pub one_byte : ℕ → Bool → StreamValue
one_byte byte fin = record { id = 0; offset = 0; bytes = byte ∷ []; fin = fin }

abbrev pub respelled_run : Run
respelled_run = saying (0x08 ∷ 0x00 ∷ 0xff ∷ [])

abbrev pub respelled_sent : Sent
respelled_sent = second_sent (stream (one_byte 0xff false) ∷ [])

-- with FIN
abbrev pub cut_short_run : Run
cut_short_run = saying (0x09 ∷ 0x00 ∷ 0x68 ∷ [])

abbrev pub cut_short_sent : Sent
cut_short_sent = second_sent (stream (one_byte 0x68 true) ∷ [])

-- STREAM with an offset and without length: no byte of stream 0, behind 63
abbrev pub far_frame : StreamValue
far_frame = record { id = 0; offset = 63; bytes = []; fin = false }

abbrev pub far_run : Run
far_run = saying (0x0c ∷ 0x00 ∷ 0x3f ∷ [])

abbrev pub far_sent : Sent
far_sent = second_sent (stream far_frame ∷ [])
