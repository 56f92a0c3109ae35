use Rattle.std.specs.Prelude.{Contains}
use Rattle.quic_streams_laws.specs.TakenLaws.{taken_blocked}
use Rattle.quic_streams_laws.proofs.laws.reads.blocked_reads_lack_bytes.Goals as goal

pub returns : goal.returns
returns c = λ wrote read taken s id most f goes blocked t same i k. taken_blocked (λ f. Contains taken f) wrote read s id most f goes blocked t same i k
