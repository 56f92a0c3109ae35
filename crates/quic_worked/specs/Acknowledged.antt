-- How the worked run goes on: the server acknowledges the datagram once 25 ms have passed, and the
-- client takes the acknowledgement; or the datagram is lost.
use Rattle.std.specs.Prelude.{ℕ, List, [], ◌∷◌, length, None, Ok, false}
use Rattle.quic_packet.specs.Datagram.{sent}
use Rattle.quic_wire.specs.AckReading.{ack_at, ranges_at, range_at, some_ecn_at}
use Rattle.quic_sets.specs.Offsets.{with_offsets}
use Rattle.quic_sets.specs.Pieces.{joining, joined, with_range}
use Rattle.quic_machine.specs.Arrival.{arriving}
use Rattle.quic_machine.specs.End.{End}
use Rattle.quic_machine.specs.Calls.{end_after_ping}
use Rattle.quic_machine.specs.Policy.{Policy}
use Rattle.quic_machine.specs.Opens.{would_open}
use Rattle.quic_machine.specs.declared.run.Answer.{Answer}
use Rattle.quic_machine.specs.Machine.{injected_if}
use Rattle.quic_wire.specs.Value.{AckValue}
use Rattle.quic_machine.specs.Receive.{Outcome, received}
use Rattle.quic_machine.specs.Timeouts.{timed_out}
use Rattle.quic_worked.specs.Worked.{end_after_write, client_gives, server_gives, worked_policies, client_id, server_id, once_opened, once_sent, once_taken}

-- ---- what the server gives

-- ACK of number 0 alone, after 25000 microseconds, of which the last three bits go (RFC 9000,
-- section 19.3)
abbrev pub ack_payload : List ℕ
ack_payload = 0x02 ∷ 0x00 ∷ 0x4c ∷ 0x35 ∷ 0x00 ∷ 0x00 ∷ []

-- the same at once
abbrev pub ack_at_once : List ℕ
ack_at_once = 0x02 ∷ 0x00 ∷ 0x00 ∷ 0x00 ∷ 0x00 ∷ []

-- ACK of number 1 alone, which the client never gave
abbrev pub ack_of_unsent : List ℕ
ack_of_unsent = 0x02 ∷ 0x01 ∷ 0x00 ∷ 0x00 ∷ 0x00 ∷ []

-- ACK of number 3 alone
abbrev pub ack_of_third : List ℕ
ack_of_third = 0x02 ∷ 0x03 ∷ 0x00 ∷ 0x00 ∷ 0x00 ∷ []

-- what that says
abbrev pub third_ack : AckValue
third_ack = record { largest = 3; delay = 0; ranges = (3, 3) ∷ []; ecn = None }

-- the same behind PATH_CHALLENGE, which has eight bytes, and no more
abbrev pub ack_behind_challenge : List ℕ
ack_behind_challenge = 0x1a ∷ 0x00 ∷ 0x00 ∷ 0x00 ∷ 0x00 ∷ 0x00 ∷ 0x00 ∷ 0x00 ∷ 0x00 ∷ 0x02 ∷ 0x03 ∷ 0x00 ∷ 0x00 ∷ 0x00 ∷ []

-- the datagram that the server gives under a number, where none is acknowledged, with this payload
abbrev pub from_server : ℕ → List ℕ → List ℕ
from_server number payload =
    sent worked_policies.server.header worked_policies.server.packet number 0 client_id payload

-- the datagram that the client gives under a number that is cut against another, with this payload
abbrev pub client_datagram : ℕ → ℕ → List ℕ → List ℕ
client_datagram number reference payload =
    let p = worked_policies.client in
    sent p.header p.packet number reference server_id payload

-- what the client makes at a moment of the server's first datagram, with this payload
abbrev pub client_takes : End → ℕ → List ℕ → Outcome
client_takes client now payload = received worked_policies.client client (arriving now 0 None false) (from_server 0 payload)

-- what an injection of bytes at moment 0 is answered
abbrev pub injected : Policy → End → List ℕ → Answer
injected p e bytes = injected_if (would_open p e 0 bytes) false p e (record { now = 0; remote = 0; ecn = None; bytes = bytes })

-- ---- the acknowledgement

-- the server, before 25 ms have passed
abbrev pub server_early : End
server_early = (timed_out worked_policies.server once_taken.server 24999999).end

-- the server, with the acknowledgement due after 25 ms
abbrev pub server_due : End
server_due = (timed_out worked_policies.server once_taken.server 25000000).end

-- the server, after it gave the acknowledgement
unfoldable pub server_acked : End
unfolding once_taken
server_acked = (server_gives server_due 25000000).end

-- the client, after it took the acknowledgement
unfoldable pub client_acked : End
unfolding once_taken ack_at ranges_at range_at some_ecn_at with_offsets joining joined with_range
client_acked = (client_takes once_sent.client 25000000 ack_payload).end

-- ---- a datagram that is lost

-- the client, after it gave what waits at moment 0
abbrev pub given_by : End → End
given_by client = (client_gives client 0).end

-- the client, after it gave a datagram with PING alone, where nothing else waits
abbrev pub pinged : End → End
pinged client = given_by (end_after_ping client)

-- the client, after it took ACK of number 3
abbrev pub third_acked : End → End
third_acked client = (client_takes client 0 ack_of_third).end

-- the client, after it wrote all of these bytes on stream 0
abbrev pub wrote : List ℕ → End → End
wrote bytes client = end_after_write (Ok (length bytes)) client 0 bytes

-- the client, after three datagrams with PING alone behind that with the word
unfoldable pub client_pinged : End
unfolding once_sent
client_pinged = pinged (pinged (pinged once_sent.client))

-- the client, after it took the acknowledgement of the last: the first counts as lost, and the two
-- between don't
unfoldable pub client_lost : End
unfolding client_acked client_pinged
client_lost = third_acked client_pinged

-- the client, of whose `hello` the first two bytes are lost, and which wrote `hi` behind it
unfoldable pub client_mixed : End
unfolding client_acked
client_mixed =
    let two = given_by (wrote (0x68 ∷ 0x65 ∷ []) once_opened.client) in
    let five = given_by (wrote (0x6c ∷ 0x6c ∷ 0x6f ∷ []) two) in
    wrote (0x68 ∷ 0x69 ∷ []) (third_acked (pinged (pinged five)))

-- what it gives: STREAM with the lost bytes, and behind it STREAM with the new ones
abbrev pub two_ranges : List ℕ
two_ranges = 0x0a ∷ 0x00 ∷ 0x02 ∷ 0x68 ∷ 0x65 ∷ 0x0e ∷ 0x00 ∷ 0x05 ∷ 0x02 ∷ 0x68 ∷ 0x69 ∷ []

-- the client, after its datagram wasn't acknowledged for 1024 ms
abbrev pub client_timed_out : End
client_timed_out = (timed_out worked_policies.client once_sent.client 1024000000).end
