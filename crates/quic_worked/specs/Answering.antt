-- What calls are answered that end or bring nothing, and what goes behind a close: a read that
-- gives nothing, a reset that isn't told, a stream that nobody stopped, a stream that is opened and
-- ids that are told though the application closed, and a message that is refused.
use Rattle.std.specs.Prelude.{ℕ, List, [], ◌∷◌, ◌++◌, take, replicate, Some, None, Ok, Err}
use Rattle.quic_streams_parts.specs.declared.answers.FinishError.TheVariants as finish_errors
use Rattle.quic_streams_parts.specs.declared.answers.ReadableError.TheVariants as readable_errors
use Rattle.quic_machine.specs.declared.run.ReadCall.{ReadCall}
use Rattle.quic_machine.specs.declared.run.Call.TheVariants as calls
use Rattle.quic_machine.specs.declared.run.Answer.{Answer}
use Rattle.quic_machine.specs.declared.run.Answer.TheVariants as answers
use Rattle.quic_machine.specs.Machine.{World}
use Rattle.quic_headline.specs.Runs.{Run}
use Rattle.quic_worked.specs.Worked.{NextAnswers, after_event, worked_policies, started, from_client, opens_stream, asks_datagram, gives_bytes, server_open, ids_payload}
use Rattle.quic_worked.specs.Allowed.{opened_then}
use Rattle.quic_worked.specs.Faults.{both_open}
use Rattle.quic_worked.specs.Messages.{ping_message, sends_message, too_large}
use Rattle.quic_worked.specs.Paired.{paired_answers, paired_with}
use Rattle.quic_worked.specs.Ended.{closes_by, once_closed, closing_view, closing_run}
use Rattle.quic_worked.specs.Shut.{told_then}

-- a client reads its new stream, and its `next`s are answered so
abbrev pub reads_as : ReadCall → NextAnswers → Run
reads_as read said = opened_then (calls.Read read) (answers.Read (Ok said))

-- a chunk without a byte
abbrev pub no_byte : NextAnswers
no_byte = Ok (Some (record { offset = 0; bytes = [] })) ∷ []

-- it is refused for its order
abbrev pub reads_refused : ReadCall → Run
reads_refused read = opened_then (calls.Read read) (answers.Read (Err readable_errors.IllegalOrderedRead))

-- the server is told that the first of two streams wasn't reset, whose reset came
abbrev pub reset_denied : ReadCall → Run
reset_denied read = paired_with read (take 9 paired_answers ++ answers.ReceivedReset (Ok None) ∷ [])

-- a client finishes its new stream, and is told that the server stopped it
abbrev pub stopped_by_none : Run
stopped_by_none = opened_then (calls.Finish 0) (answers.Finish (Err (finish_errors.Stopped 7)))

-- the client's application closes, and opens a stream
abbrev pub opens_behind : Answer → Run
opens_behind a = told_then (opens_stream ∷ []) (a ∷ [])

-- there is none for it
abbrev pub opened_none : Run
opened_none = opens_behind (answers.Open None)

-- what that leaves
abbrev pub once_none : World
once_none = after_event worked_policies (once_closed 1) opens_stream (answers.Open None)

-- the client that its application closed tells its ids in place of its close
abbrev pub ids_for_close : Run
ids_for_close = record closing_run {
  events = closes_by 7 ∷ asks_datagram ∷ [];
  answers = answers.Close ∷ gives_bytes 222 ∷ [];
  views = replicate 2 (record { client = closing_view; server = server_open });
  from_client = from_client 0 ids_payload ∷ [];
}

-- a client is told that a message of four bytes is too long
abbrev pub short_refused : Run
short_refused = record {
  keys = worked_policies;
  start = started;
  events = sends_message ping_message ∷ [];
  answers = too_large ∷ [];
  views = both_open ∷ [];
  from_client = [];
  from_server = [];
}
