use Rattle.quic_worked.proofs.CrossedRun.{crossed_is_honest, crossed_is_run, flies_before, flies_behind, lost_then, told_so}
use Rattle.quic_worked.proofs.crossed.both_paths_are_acknowledged.Goals as goal

pub returns : goal.returns
returns c = record { honest = crossed_is_honest; run = crossed_is_run; before = flies_before; behind = flies_behind; due = lost_then; told = told_so }
