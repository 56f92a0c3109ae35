use Rattle.quic_send_buffer.proofs.Source.{pieces_are_prefixes, pieces_are_short, pieces_are_filled}
use Rattle.quic_send_buffer.proofs.laws.bytes_source.pieces_are_prefixes.Goals as goal

pub returns-clause-prefix : goal.returns-clause-prefix
returns-clause-prefix c = pieces_are_prefixes

pub returns-clause-most : goal.returns-clause-most
returns-clause-most c = pieces_are_short

pub returns-clause-some : goal.returns-clause-some
returns-clause-some c = pieces_are_filled
