-- The run of two streams, in machines that open streams in another order, and that write on a
-- stream that the peer stopped.
use Rattle.std.specs.Prelude.{[], ◌∷◌, ◌++◌, take, Some, Ok}
use Rattle.quic_machine.specs.declared.run.ReadCall.{ReadCall}
use Rattle.quic_machine.specs.declared.run.Answer.TheVariants as answers
use Rattle.quic_headline.specs.Runs.{Run}
use Rattle.quic_worked.specs.Paired.{paired_answers, paired_with}

-- the client opens its second stream before its first
abbrev pub opened_backwards : ReadCall → Run
opened_backwards read = paired_with read (answers.Open (Some 4) ∷ answers.Open (Some 0) ∷ [])

-- the client's write on the stream that the server stopped takes its bytes
abbrev pub written_on : ReadCall → Run
written_on read = paired_with read (take 16 paired_answers ++ answers.Write (Ok 3) ∷ [])
