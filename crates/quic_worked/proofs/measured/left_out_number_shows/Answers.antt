use Rattle.quic_worked.proofs.SkippedRun.{given_is_honest, left_out_blames, no_blame, never_sent}
use Rattle.quic_worked.proofs.measured.left_out_number_shows.Goals as goal

pub returns : goal.returns
returns c = record { honest = given_is_honest; blame = left_out_blames; machine = no_blame; gives = never_sent }
