-- What a server says of how long it held its acknowledgement back (RFC 9000, sections 13.2.5 and
-- 19.3): 25 ms, in units of 8 microseconds. And a server that says 0.
use Rattle.std.specs.Prelude.{ℕ, List, [], ◌∷◌, take, None}
use Rattle.quic_wire.specs.Value.{AckValue, ack}
use Rattle.quic_headline.specs.Runs.{Run}
use Rattle.quic_headline.specs.Observer.{Sent}
use Rattle.quic_worked.specs.Worked.{client_id}
use Rattle.quic_worked.specs.Acknowledged.{client_datagram, from_server}
use Rattle.quic_worked.specs.Losses.{first_ping}
use Rattle.quic_worked.specs.Smoothed.{smoothed_events, smoothed_answers, smoothed_run}

-- the server's acknowledgement of the first datagram, which came 25 ms before
abbrev pub late_ack : AckValue
late_ack = record { largest = 0; delay = 3125; ranges = (0, 0) ∷ []; ecn = None }

-- as it was sent
abbrev pub late_sent : Sent
late_sent = record { id = client_id; number = 0; reference = 0; frames = ack late_ack ∷ []; moment = 35000000; size = 32; generation = 0 }

-- ACK of number 0 alone, after no time, which it says in two bytes
abbrev pub prompt_payload : List ℕ
prompt_payload = 0x02 ∷ 0x00 ∷ 0x40 ∷ 0x00 ∷ 0x00 ∷ 0x00 ∷ []

-- the run up to the server's acknowledgement, which says so
abbrev pub prompt_run : Run
prompt_run = record smoothed_run {
  events = take 5 smoothed_events;
  answers = take 5 smoothed_answers;
  views = take 5 smoothed_run.views;
  from_client = client_datagram 0 0 first_ping ∷ [];
  from_server = from_server 0 prompt_payload ∷ [];
}

abbrev pub prompt_ack : AckValue
prompt_ack = record late_ack { delay = 0 }

abbrev pub prompt_sent : Sent
prompt_sent = record late_sent { frames = ack prompt_ack ∷ [] }
