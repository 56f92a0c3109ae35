-- Calls that lack memory: a run in which two do that take some, and machines with calls that do
-- though they take none.
use Rattle.std.specs.Prelude.{true, [], ◌∷◌, replicate, Some, Ok, Err}
use Rattle.quic_wire_core.specs.declared.stream_id.Side.TheVariants.{Client, Server}
use Rattle.quic_messages.specs.declared.errors.SendDatagramError.TheVariants as send_errors
use Rattle.quic_streams_parts.specs.declared.answers.UpdateError.TheVariants as update_errors
use Rattle.quic_machine.specs.declared.answers.Received.TheVariants as receives
use Rattle.quic_machine.specs.declared.run.RunEvent.{RunEvent}
use Rattle.quic_machine.specs.declared.run.Call.TheVariants as calls
use Rattle.quic_machine.specs.declared.run.Answer.{Answer}
use Rattle.quic_machine.specs.declared.run.Answer.TheVariants as answers
use Rattle.quic_machine.specs.declared.run.View.{View}
use Rattle.quic_headline.specs.Runs.{Run}
use Rattle.quic_worked.specs.Worked.{worked_policies, started, opens_stream, writes_hello, finishes_stream, write_lacks, finish_lacks, open_view, server_open}
use Rattle.quic_worked.specs.Broken.{lets_expire, injects}

-- ---- a run

-- what is seen of both ends while nothing goes
abbrev pub nothing_gone : View
nothing_gone = record { client = open_view; server = server_open }

-- the client opens a stream; its write finds no memory, and then some, and so does its finish
abbrev pub lacking_run : Run
lacking_run = record {
  keys = worked_policies;
  start = started;
  events = opens_stream ∷ writes_hello ∷ writes_hello ∷ finishes_stream ∷ finishes_stream ∷ [];
  answers = answers.Open (Some 0) ∷ write_lacks ∷ answers.Write (Ok 5) ∷ finish_lacks ∷ answers.Finish (Ok tt) ∷ [];
  views = replicate 5 nothing_gone;
  from_client = [];
  from_server = [];
}

-- ---- machines

-- the stream is finished, and another finish finds no memory
abbrev pub finish_again : Run
finish_again = record lacking_run {
  events = opens_stream ∷ writes_hello ∷ finishes_stream ∷ finishes_stream ∷ [];
  answers = answers.Open (Some 0) ∷ answers.Write (Ok 5) ∷ answers.Finish (Ok tt) ∷ finish_lacks ∷ [];
  views = replicate 4 nothing_gone;
}

-- or bytes are written on it, and the write finds none
abbrev pub write_behind : Run
write_behind = record finish_again {
  events = opens_stream ∷ writes_hello ∷ finishes_stream ∷ writes_hello ∷ [];
  answers = answers.Open (Some 0) ∷ answers.Write (Ok 5) ∷ answers.Finish (Ok tt) ∷ write_lacks ∷ [];
}

-- a timeout does
abbrev pub timeout_lacks : Answer
timeout_lacks = answers.Timeout (Err (record {}))

-- at a client at which no timer of losses is set
abbrev pub idle_timeout : Run
idle_timeout = record lacking_run {
  events = lets_expire ∷ [];
  answers = timeout_lacks ∷ [];
  views = nothing_gone ∷ [];
}

-- bytes come to the client from outside, at which it says that it failed
abbrev pub injected_lacks : Answer
injected_lacks = answers.Inject receives.Failed

abbrev pub failed_injection : Run
failed_injection = record idle_timeout {
  events = injects Client [] ∷ [];
  answers = injected_lacks ∷ [];
}

-- the client resets its stream
abbrev pub resets_first : RunEvent
resets_first = record { side = Client; call = calls.Reset 0 7 }

abbrev pub reset_lacks : Answer
reset_lacks = answers.Reset (Err update_errors.Memory)

-- the server stops it
abbrev pub stops_first : RunEvent
stops_first = record { side = Server; call = calls.Stop 0 7 }

abbrev pub stop_lacks : Answer
stop_lacks = answers.Stop (Err update_errors.Memory)

-- a message goes that is longer than a datagram
abbrev pub sends_long : RunEvent
sends_long = record { side = Client; call = calls.Send (replicate 1300 0) true }

abbrev pub send_lacks : Answer
send_lacks = answers.Send (Err send_errors.Memory)

abbrev pub long_message : Run
long_message = record idle_timeout {
  events = sends_long ∷ [];
  answers = send_lacks ∷ [];
}
