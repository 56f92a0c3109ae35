-- What is left unread in the run in which both ends come to rest; one in which a write is blocked
-- while both rest, for bytes that are left unread; and a machine at which one is blocked so, though
-- nothing is left unread.
use Rattle.std.specs.Prelude.{ℕ, true, false, List, [], ◌∷◌, ◌++◌, replicate, Some, Ok, Err, None}
use Rattle.quic_wire_core.specs.declared.stream_id.Side.TheVariants.{Client, Server}
use Rattle.quic_wire.specs.Value.{StreamValue, stream}
use Rattle.quic_config.specs.Transport.{parameters_of}
use Rattle.quic_streams_parts.specs.declared.answers.WriteError.TheVariants as write_errors
use Rattle.quic_machine.specs.declared.run.RunEvent.{RunEvent}
use Rattle.quic_machine.specs.declared.run.Answer.{Answer}
use Rattle.quic_machine.specs.declared.run.Answer.TheVariants as answers
use Rattle.quic_machine.specs.End.{new_end}
use Rattle.quic_machine.specs.Heard.{nothing_heard}
use Rattle.quic_machine.specs.Machine.{World}
use Rattle.quic_headline.specs.Runs.{Run, Packet}
use Rattle.quic_worked.specs.Settings.{plain_settings}
use Rattle.quic_worked.specs.Exchange.{with_window}
use Rattle.quic_worked.specs.Worked.{worked_policies, client_id, server_id, opens_stream, writes_hello, asks_datagram, gives_bytes, behind_ids, ran_so_far}
use Rattle.quic_worked.specs.Acknowledged.{client_acked, client_datagram}
use Rattle.quic_worked.specs.Paired.{writes_on}
use Rattle.quic_worked.specs.Credit.{eight, eight_payload}
use Rattle.quic_worked.specs.Timed.{asks_at}
use Rattle.quic_worked.specs.Held.{gives_nothing}
use Rattle.quic_worked.specs.Rested.{roomy_windows, roomy_control, rested_start, still_view, resting_events, resting_answers, resting_views, resting}

-- ---- blocked for nothing

-- a stream is opened, both ends are asked and give nothing, and the first write is blocked
abbrev pub blocked_run : Run
blocked_run = record {
  keys = worked_policies;
  start = rested_start;
  events = opens_stream ∷ asks_datagram ∷ asks_at Server 0 ∷ writes_hello ∷ [];
  answers = answers.Open (Some 0) ∷ gives_nothing ∷ gives_nothing ∷ answers.Write (Err write_errors.Blocked) ∷ [];
  views = replicate 4 still_view;
  from_client = [];
  from_server = [];
}

-- each place of the word that the client wrote
abbrev pub five_places : List (ℕ × ℕ)
five_places = (0, 0) ∷ (0, 1) ∷ (0, 2) ∷ (0, 3) ∷ (0, 4) ∷ []

-- ---- blocked for what is left unread

-- what a server tells that takes less than 64 bytes in all
abbrev pub small_parameters : ℕ → List ℕ
small_parameters window =
    (0x04 ∷ 0x01 ∷ window ∷ [])
    ++ (0x05 ∷ 0x04 ∷ 0x80 ∷ 0x13 ∷ 0x12 ∷ 0xd0 ∷ [])
    ++ (0x06 ∷ 0x04 ∷ 0x80 ∷ 0x13 ∷ 0x12 ∷ 0xd0 ∷ [])
    ++ (0x07 ∷ 0x04 ∷ 0x80 ∷ 0x13 ∷ 0x12 ∷ 0xd0 ∷ [])
    ++ (0x08 ∷ 0x02 ∷ 0x40 ∷ 0x64 ∷ [])
    ++ (0x09 ∷ 0x02 ∷ 0x40 ∷ 0x64 ∷ [])
    ++ (0x0e ∷ 0x01 ∷ 0x08 ∷ [])
    ++ (0x20 ∷ 0x04 ∷ 0x80 ∷ 0x00 ∷ 0xff ∷ 0xff ∷ [])

-- both ends, where the server takes so many bytes in all, before anything was given
abbrev pub small_start : ℕ → World
small_start window = record {
  client = new_end Client plain_settings roomy_windows (parameters_of (with_window window)) client_id server_id 0 0 true (λ n. 63);
  server = new_end Server (with_window window) roomy_windows (parameters_of plain_settings) server_id client_id 0 0 true (λ n. 63);
  from_client = [];
  from_server = [];
  client_control = roomy_control;
  server_control = roomy_control;
  client_heard = nothing_heard;
  server_heard = nothing_heard;
}

-- the client writes more than the eight bytes that may come, and gives what may; it comes to the
-- server, which reads nothing; both come to rest, and the client writes on
abbrev pub left_events : List RunEvent
left_events = opens_stream ∷ writes_on 0 (eight ++ eight) ∷ asks_datagram ∷ resting_events ++ writes_on 0 eight ∷ []

-- what that is answered
abbrev pub left_answers : List Answer
left_answers = answers.Open (Some 0) ∷ answers.Write (Ok 8) ∷ gives_bytes 233 ∷ resting_answers ++ answers.Write (Err write_errors.Blocked) ∷ []

-- what the first so many of these leave
unfoldable pub once_left : ℕ → World
unfolding client_acked
once_left n = ran_so_far worked_policies (small_start 8) left_events left_answers n

-- the run
abbrev pub left_run : Run
left_run = resting (record {
  keys = worked_policies;
  start = small_start 8;
  events = left_events;
  answers = left_answers;
  views = replicate 2 still_view ++ resting_views None ++ still_view ∷ [];
  from_client = client_datagram 0 0 eight_payload ∷ [];
  from_server = [];
})

-- all that came
abbrev pub eight_frame : StreamValue
eight_frame = record { id = 0; offset = 0; fin = false; bytes = eight }

-- in one packet
abbrev pub eight_packet : Packet
eight_packet = record { number = 0; frames = behind_ids (stream eight_frame ∷ []) }

-- each place of the bytes that came
abbrev pub eight_places : List (ℕ × ℕ)
eight_places = five_places ++ (0, 5) ∷ (0, 6) ∷ (0, 7) ∷ []
