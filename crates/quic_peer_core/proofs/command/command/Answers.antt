use Rattle.quic_lines.specs.Language.{words_left}
use Rattle.quic_peer_core.proofs.Saying.{received-read}
use Rattle.quic_peer_core.proofs.command.command.Goals as goal

pub returns-in_ok-injection-in-receive : goal.returns-in_ok-injection-in-receive
returns-in_ok-injection-in-receive c = rw c.in-receive.is (received-read (words_left c.args.words.now.rest) (words_left c.injection.new.self.rest) c.in_ok-injection-in-receive.field-0 c.in_ok-injection-in-receive.ensures)
