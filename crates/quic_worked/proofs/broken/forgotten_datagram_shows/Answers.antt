use Rattle.quic_worked.proofs.Forgotten.{flies_not, flies, flies_no_more, flies_silent, forgets, never_forgets}
use Rattle.quic_worked.proofs.broken.forgotten_datagram_shows.Goals as goal

pub returns : goal.returns
returns c = record { before = flies_not; given = flies; answered = flies_no_more; silent = flies_silent; forgotten = forgets; machine = never_forgets }
