use Rattle.quic_worked.proofs.PacedRun.{held_tokens, lists_name, lists_name_none, left_tokens, paid_tokens, probe_tokens, held_paces}
use Rattle.quic_worked.proofs.paced.pacer_is_reckoned.Goals as goal

pub returns : goal.returns
returns c = record { held = held_tokens; names = lists_name; names_none = lists_name_none; left = left_tokens; paid = paid_tokens; probes = probe_tokens; clause = held_paces }
