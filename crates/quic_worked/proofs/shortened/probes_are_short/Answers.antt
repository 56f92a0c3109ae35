use Rattle.std.proofs.Common.{refl}
use Rattle.quic_worked.proofs.ShortenedRun.{shortened_is_honest, shortened_is_run, none_wait, two_wait, none_left, full_goes, first_goes, second_goes, probe_acked, are_sized}
use Rattle.quic_worked.proofs.shortened.probes_are_short.Goals as goal

pub returns : goal.returns
returns c = record {
  honest = shortened_is_honest;
  run = shortened_is_run;
  none_queued = none_wait;
  full = full_goes;
  queued = two_wait;
  first = first_goes;
  second = second_goes;
  acknowledged = probe_acked;
  none_left = none_left;
  size = refl;
  sized = are_sized;
}
