use Rattle.quic_worked.proofs.HastyRun.{many_not, gap_not, mark_not, late_not, many_is_honest, gap_is_honest, mark_is_honest, late_is_honest, many_is_none, gap_is_none, mark_is_none, late_is_none}
use Rattle.quic_worked.proofs.hasty.waiting_acks_show.Goals as goal

pub returns : goal.returns
returns c = record {
  many = many_not;
  gap = gap_not;
  mark = mark_not;
  late = late_not;
  many_honest = many_is_honest;
  gap_honest = gap_is_honest;
  mark_honest = mark_is_honest;
  late_honest = late_is_honest;
  machine_many = many_is_none;
  machine_gap = gap_is_none;
  machine_mark = mark_is_none;
  machine_late = late_is_none;
}
