-- What ends have counted where a run begins: nothing.
use Rattle.std.proofs.Common.{◌≡◌}
use Rattle.quic_machine.specs.Heard.{nothing_heard}
use Rattle.quic_machine.specs.Machine.{World}
use Rattle.quic_headline.specs.Runs.{Run}
use Rattle.quic_headline.specs.Headline.{IsHonest}

-- both ends had counted nothing: neither bytes, nor packets that didn't open
abbrev pub HaveHeardNothing : World → Type 0
HaveHeardNothing w = (w.client_heard ≡ nothing_heard) × (w.server_heard ≡ nothing_heard)

-- as where they are made
pub heard_nothing : (r : Run) → IsHonest r → HaveHeardNothing r.start
heard_nothing r honest = (honest.start.client_heard, honest.start.server_heard)
