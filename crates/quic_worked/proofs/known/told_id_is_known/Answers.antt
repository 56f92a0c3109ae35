use Rattle.quic_worked.proofs.KnownRuns.{naming_is_honest, naming_is_run, none_used, first_next, has_room, was_sent, is_known, opens_right}
use Rattle.quic_worked.proofs.known.told_id_is_known.Goals as goal

pub returns : goal.returns
returns c = record { honest = naming_is_honest; run = naming_is_run; used = none_used; next = first_next; room = has_room; sent = was_sent; known = is_known; opens = opens_right }
