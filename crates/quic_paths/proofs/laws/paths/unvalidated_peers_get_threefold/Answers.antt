use Rattle.quic_paths.proofs.Threefold.{first, next, later}
use Rattle.quic_paths.proofs.laws.paths.unvalidated_peers_get_threefold.Goals as goal

pub returns-clause-first : goal.returns-clause-first
returns-clause-first g c = λ remote searches limit generation now initial settings controller datagrams. first remote searches limit generation now initial settings controller datagrams

pub returns-clause-next : goal.returns-clause-next
returns-clause-next g c = λ remote prev generation now window datagrams. next remote prev generation now window datagrams

pub returns-clause-later : goal.returns-clause-later
returns-clause-later g c = λ path datagrams. later path datagrams
