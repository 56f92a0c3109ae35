use Rattle.quic_worked.proofs.HeldRun.{held_is_honest, held_is_run, is_idle, one_flies, is_full, not_limited, two_probes, no_probe, all_fly, told_three}
use Rattle.quic_worked.proofs.held.window_holds_back.Goals as goal

pub returns : goal.returns
returns c = record { honest = held_is_honest; run = held_is_run; flies = one_flies; full = is_full; held = not_limited; idle = is_idle; probes = two_probes; none_left = no_probe; all_fly = all_fly; told = told_three }
