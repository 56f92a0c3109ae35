use Rattle.std.specs.Prelude.{[]}
use Rattle.quic_worked.specs.Answering.{no_byte}
use Rattle.quic_worked.proofs.AnsweringRuns.{none_shows, empty_shows, refused_shows, reads_honest, refused_honest, none_is_none, empty_is_none, refused_is_none}
use Rattle.quic_worked.proofs.answering.empty_reads_show.Goals as goal

pub returns : goal.returns
returns c = record { none = none_shows; empty = empty_shows; refused = refused_shows; none_premises = λ read by. reads_honest read [] by; empty_premises = λ read by. reads_honest read no_byte by; refused_premises = refused_honest; none_machine = none_is_none; empty_machine = empty_is_none; refused_machine = refused_is_none }
