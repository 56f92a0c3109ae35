use Rattle.quic_worked.proofs.EndedRuns.{short_is_honest, short_is_run, short_shows, is_used_up}
use Rattle.quic_worked.proofs.ended.key_seals_no_more.Goals as goal

pub returns : goal.returns
returns c = record { honest = short_is_honest; run = short_is_run; shows = short_shows; used = is_used_up }
