use Rattle.quic_worked.proofs.AllowedRun.{finds_none_shows, finds_none_lacks, finds_none_is_honest, finds_none_is_none}
use Rattle.quic_worked.proofs.allowed.stop_without_memory_shows.Goals as goal

pub returns : goal.returns
returns c = record { over = finds_none_shows; lacks = finds_none_lacks; honest = finds_none_is_honest; machine = finds_none_is_none }
