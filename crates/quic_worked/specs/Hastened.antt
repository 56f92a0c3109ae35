-- A run in which a probe of losses goes without IMMEDIATE_ACK, though the peer told that it takes
-- it (QUIC Acknowledgement Frequency, section 5).
use Rattle.std.specs.Prelude.{List, [], ◌∷◌, ◌++◌, take, Ok, None, Some}
use Rattle.quic_wire.specs.Value.{ack_frequency}
use Rattle.quic_machine.specs.declared.run.Answer.{Answer}
use Rattle.quic_machine.specs.declared.run.Answer.TheVariants as answers
use Rattle.quic_headline.specs.Runs.{Run}
use Rattle.quic_headline.specs.Observer.{Sent}
use Rattle.quic_worked.specs.Worked.{gives_bytes, server_id, id_frames, ids_payload}
use Rattle.quic_worked.specs.Acknowledged.{client_datagram}
use Rattle.quic_worked.specs.Timed.{seen_with}
use Rattle.quic_worked.specs.Asking.{request, request_payload, ten_millis, first_asking}
use Rattle.quic_worked.specs.Obeying.{probing_events, probe_packet, probing_run}

-- the probe of the machine, as it was sent
abbrev pub probe_sent : Sent
probe_sent = record { id = server_id; number = 1; reference = 0; frames = probe_packet.frames; moment = 1024000000; size = 230; generation = 0 }

-- what the client is answered whose probe has one byte less
abbrev pub unhastened_answers : List Answer
unhastened_answers = gives_bytes 229 ∷ answers.Timeout (Ok tt) ∷ gives_bytes 229 ∷ []

-- its probe: the request once more under the next number, and the ids
abbrev pub unhastened_run : Run
unhastened_run = record probing_run {
  events = take 3 probing_events;
  answers = unhastened_answers;
  views = seen_with (Some 1024000000) None ∷ seen_with (Some 2048000000) None ∷ seen_with (Some 3072000000) None ∷ [];
  from_client = first_asking 0 ten_millis ∷ client_datagram 1 0 (request_payload 1 ten_millis ++ ids_payload) ∷ [];
  from_server = [];
}

-- as it was sent
abbrev pub unhastened_sent : Sent
unhastened_sent = record { id = server_id; number = 1; reference = 0; frames = ack_frequency (request 1 10000) ∷ id_frames; moment = 1024000000; size = 229; generation = 0 }
