-- Where a probe waits, a poll that leaves its end open gives one, unless nothing more may go to its
-- address: the clause.
use Rattle.quic_headline.specs.Runs.{Run}
use Rattle.quic_machine.specs.Machine.{World}
use Rattle.quic_headline.specs.Headline.{IsHonest, IsRun}
use Rattle.quic_headline.proofs.Packets.Quiet.{HaveHeardNothing}
use Rattle.quic_headline.specs.Polls.{ProbesPass}
use Rattle.quic_headline.proofs.Places.Everything as everything
use Rattle.quic_headline.proofs.Places.Theorems.{ready}
use Rattle.quic_headline.proofs.Halves.Ready.{Ready}
use Rattle.quic_headline.proofs.Held.Limited.{limits_poll}

pub probes_pass : (r : Run) (end : World) → IsHonest r → IsRun r end → HaveHeardNothing r.start → ProbesPass r
probes_pass r end honest run quiet = everything.probes_pass Ready ready r end honest run (limits_poll r end honest run quiet)
