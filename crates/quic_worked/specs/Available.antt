-- The run in which a count of streams grows, where the client's application asks what is to be
-- told: that it may open more. And a machine that doesn't tell it.
use Rattle.std.specs.Prelude.{List, [], ◌∷◌, ◌++◌, length, replicate, take, Some, None}
use Rattle.quic_wire_core.specs.declared.stream_id.Dir.TheVariants.{Uni}
use Rattle.quic_streams_parts.specs.declared.answers.StreamEvent.TheVariants.{Finished, Available}
use Rattle.quic_machine.specs.declared.answers.Event.TheVariants as events
use Rattle.quic_machine.specs.declared.run.ReadCall.{ReadCall}
use Rattle.quic_machine.specs.declared.run.Answer.{Answer}
use Rattle.quic_machine.specs.declared.run.Answer.TheVariants as answers
use Rattle.quic_machine.specs.Machine.{World}
use Rattle.quic_headline.specs.Runs.{Run}
use Rattle.quic_worked.specs.Worked.{worked_policies, after_event, sent_view, waiting_view}
use Rattle.quic_worked.specs.Paired.{client_asks}
use Rattle.quic_worked.specs.Credit.{count_events, count_answers, count_heard, views_of_credit, count_run}

-- it is told that it may open more one-way streams
abbrev pub tells_more : Answer
tells_more = answers.Event (Some (events.Stream (Available Uni)))

-- and that its stream is finished
abbrev pub tells_word : Answer
tells_word = answers.Event (Some (events.Stream (Finished 2)))

-- the count comes to the client, which asks as often as it is told this
abbrev pub asking_run : List Answer → ReadCall → Run
asking_run told read = record (count_run read) {
  events = take 10 (count_events read) ++ replicate (length told) client_asks;
  answers = take 10 count_answers ++ told;
  views = take 10 (views_of_credit 4) ++ replicate (length told) (record { client = waiting_view; server = sent_view });
}

-- both, and then nothing
abbrev pub available_run : ReadCall → Run
available_run = asking_run (tells_more ∷ tells_word ∷ answers.Event None ∷ [])

-- the second alone
abbrev pub unavailable_run : ReadCall → Run
unavailable_run = asking_run (tells_word ∷ answers.Event None ∷ [])

-- ---- what the events leave

-- it was told of the first
unfoldable pub more_told : World
unfolding count_heard
more_told = after_event worked_policies count_heard client_asks tells_more

-- and of the second
unfoldable pub word_told : World
unfolding more_told
word_told = after_event worked_policies more_told client_asks tells_word

-- and nothing is left to tell
unfoldable pub none_told : World
unfolding word_told
none_told = after_event worked_policies word_told client_asks (answers.Event None)
