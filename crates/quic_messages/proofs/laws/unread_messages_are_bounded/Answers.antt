use Rattle.quic_messages.proofs.Unread.{bytes_bounded, count_bounded}
use Rattle.quic_messages.proofs.laws.unread_messages_are_bounded.Goals as goal

pub returns-clause-bytes : goal.returns-clause-bytes
returns-clause-bytes c = bytes_bounded

pub returns-clause-count : goal.returns-clause-count
returns-clause-count c = count_bounded
