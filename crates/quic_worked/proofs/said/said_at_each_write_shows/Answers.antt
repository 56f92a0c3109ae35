use Rattle.quic_worked.proofs.SaidRun.{all_again_shows, one_again_shows, all_never, one_never}
use Rattle.quic_worked.proofs.said.said_at_each_write_shows.Goals as goal

pub returns : goal.returns
returns c = record { all = all_again_shows; stream = one_again_shows; machine = all_never; machine_stream = one_never }
