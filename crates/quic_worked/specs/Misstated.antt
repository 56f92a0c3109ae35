-- Clients that say another limit than that at which they are blocked (RFC 9000, sections 19.12 and
-- 19.13): on all data 0 in place of 8, on a stream 4 in place of 5, and 5 on one on which nothing
-- was written.
use Rattle.std.specs.Prelude.{ℕ, List, [], ◌∷◌}
use Rattle.quic_wire.specs.Value.{FrameValue, data_blocked, stream_data_blocked, padding}
use Rattle.quic_headline.specs.Runs.{Run}
use Rattle.quic_headline.specs.Observer.{Sent}
use Rattle.quic_worked.specs.Worked.{server_id}
use Rattle.quic_worked.specs.Acknowledged.{client_datagram}
use Rattle.quic_worked.specs.Credit.{eight_payload}
use Rattle.quic_worked.specs.Said.{said_run, said_on_run, five_payload}

-- DATA_BLOCKED at no byte, and padding
abbrev pub none_payload : List ℕ
none_payload = 0x14 ∷ 0x00 ∷ 0x00 ∷ []

abbrev pub misstated_run : Run
misstated_run = record said_run { from_client = client_datagram 0 0 eight_payload ∷ client_datagram 1 0 none_payload ∷ [] }

-- STREAM_DATA_BLOCKED of stream 0 at 4 bytes
abbrev pub four_payload : List ℕ
four_payload = 0x15 ∷ 0x00 ∷ 0x04 ∷ []

abbrev pub misstated_on_run : Run
misstated_on_run = record said_on_run { from_client = client_datagram 0 0 five_payload ∷ client_datagram 1 0 four_payload ∷ [] }

-- STREAM_DATA_BLOCKED of stream 4 at 5 bytes
abbrev pub unwritten_payload : List ℕ
unwritten_payload = 0x15 ∷ 0x04 ∷ 0x05 ∷ []

abbrev pub unwritten_run : Run
unwritten_run = record said_on_run { from_client = client_datagram 0 0 five_payload ∷ client_datagram 1 0 unwritten_payload ∷ [] }

-- the client's second datagram, with these frames
abbrev pub second_sent : List FrameValue → Sent
second_sent frames = record { id = server_id; number = 1; reference = 0; frames = frames; moment = 0; size = 29; generation = 0 }

abbrev pub none_sent : Sent
none_sent = second_sent (data_blocked 0 ∷ padding ∷ [])

abbrev pub four_sent : Sent
four_sent = second_sent (stream_data_blocked (record { id = 0; limit = 4 }) ∷ [])

abbrev pub unwritten_sent : Sent
unwritten_sent = second_sent (stream_data_blocked (record { id = 4; limit = 5 }) ∷ [])
