-- Two runs of one start over the same events: the worked run with noise and the one without it, and
-- a machine whose answers are drawn.
use Rattle.std.specs.Prelude.{[], ◌∷◌, ◌++◌, Some}
use Rattle.quic_machine.specs.declared.answers.Received.TheVariants as receives
use Rattle.quic_machine.specs.declared.run.Answer.TheVariants as answers
use Rattle.quic_headline.specs.Runs.{Run}
use Rattle.quic_worked.specs.Worked.{sending_answers}
use Rattle.quic_worked.specs.Isolated.{quiet_run}

-- the server waits for 26 ms before it acknowledges, in a run in which it waits for 25 as well
abbrev pub drawn_wait : Run
drawn_wait = record quiet_run { answers = sending_answers ++ answers.Deliver receives.Taken ∷ answers.Timer (Some 26000000) ∷ [] }
