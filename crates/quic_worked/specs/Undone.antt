-- A stream that isn't done at its reader, in the run in which both ends come to rest; and machines
-- at which none can be opened while both rest: though none were opened, and though the one that was
-- is done.
use Rattle.std.specs.Prelude.{ℕ, true, List, [], ◌∷◌, ◌++◌, replicate, Some, None, Ok}
use Rattle.quic_wire_core.specs.declared.stream_id.Side.TheVariants.{Client, Server}
use Rattle.quic_config.specs.Transport.{parameters_of}
use Rattle.quic_worked.specs.Settings.{plain_settings}
use Rattle.quic_machine.specs.declared.run.ReadCall.{ReadCall}
use Rattle.quic_machine.specs.declared.run.Answer.TheVariants as answers
use Rattle.quic_machine.specs.End.{new_end}
use Rattle.quic_machine.specs.Heard.{nothing_heard}
use Rattle.quic_machine.specs.Machine.{World}
use Rattle.quic_headline.specs.Runs.{Run}
use Rattle.quic_worked.specs.Worked.{worked_policies, client_id, server_id, opens_stream, asks_datagram, reads_stream, ReadsAs}
use Rattle.quic_worked.specs.Exchange.{with_uni}
use Rattle.quic_worked.specs.Timed.{asks_at}
use Rattle.quic_worked.specs.Held.{gives_nothing}
use Rattle.quic_worked.specs.Credit.{opens_one_way, ends_one_way, accepts_one_way}
use Rattle.quic_worked.specs.Rested.{roomy_control, roomy_windows, rested_start, still_view}

-- ---- none were opened

-- both ends are asked and give nothing, and then no stream can be opened
abbrev pub shut_run : Run
shut_run = record {
  keys = worked_policies;
  start = rested_start;
  events = asks_datagram ∷ asks_at Server 0 ∷ opens_stream ∷ [];
  answers = gives_nothing ∷ gives_nothing ∷ answers.Open None ∷ [];
  views = replicate 3 still_view;
  from_client = [];
  from_server = [];
}

-- ---- the one that was opened is done

-- what a client is told of a server that lets one one-way stream be open: so many bytes as the
-- settings come to
abbrev pub lone_parameters : List ℕ
lone_parameters =
    (0x04 ∷ 0x08 ∷ 0xff ∷ 0xff ∷ 0xff ∷ 0xff ∷ 0xff ∷ 0xff ∷ 0xff ∷ 0xff ∷ [])
    ++ (0x05 ∷ 0x04 ∷ 0x80 ∷ 0x13 ∷ 0x12 ∷ 0xd0 ∷ [])
    ++ (0x06 ∷ 0x04 ∷ 0x80 ∷ 0x13 ∷ 0x12 ∷ 0xd0 ∷ [])
    ++ (0x07 ∷ 0x04 ∷ 0x80 ∷ 0x13 ∷ 0x12 ∷ 0xd0 ∷ [])
    ++ (0x08 ∷ 0x02 ∷ 0x40 ∷ 0x64 ∷ [])
    ++ (0x09 ∷ 0x01 ∷ 0x01 ∷ [])
    ++ (0x0e ∷ 0x01 ∷ 0x08 ∷ [])
    ++ (0x20 ∷ 0x04 ∷ 0x80 ∷ 0x00 ∷ 0xff ∷ 0xff ∷ [])

-- both ends, where the server lets one one-way stream be open
abbrev pub lone_start : World
lone_start = record {
  client = new_end Client plain_settings roomy_windows (parameters_of (with_uni 1)) client_id server_id 0 0 true (λ n. 63);
  server = new_end Server (with_uni 1) roomy_windows (parameters_of plain_settings) server_id client_id 0 0 true (λ n. 63);
  from_client = [];
  from_server = [];
  client_control = roomy_control;
  server_control = roomy_control;
  client_heard = nothing_heard;
  server_heard = nothing_heard;
}

-- one `next` of a read of the one-way stream
abbrev pub ReadsLone : ReadCall → Type 0
ReadsLone read = ReadsAs 2 true (32 ∷ []) read

-- the client opens the stream and ends it, and the server accepts it and reads its end; both are
-- asked and give nothing, and no second one can be opened. What came between is left out: the
-- clause asks only what the calls were answered.
abbrev pub kept_back_run : ReadCall → Run
kept_back_run read = record {
  keys = worked_policies;
  start = lone_start;
  events = opens_one_way ∷ ends_one_way ∷ accepts_one_way ∷ reads_stream read ∷ asks_datagram ∷ asks_at Server 0 ∷ opens_one_way ∷ [];
  answers = answers.Open (Some 2) ∷ answers.Finish (Ok tt) ∷ answers.Accept (Some 2) ∷ answers.Read (Ok (Ok None ∷ [])) ∷ gives_nothing ∷ gives_nothing ∷ answers.Open None ∷ [];
  views = replicate 7 still_view;
  from_client = [];
  from_server = [];
}
