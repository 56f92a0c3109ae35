-- So each duty is somewhere, at each place of an honest run.
use Rattle.quic_machine.specs.Machine.{World}
use Rattle.quic_headline.specs.Runs.{Run}
use Rattle.quic_headline.specs.Headline.{IsHonest, IsRun}
use Rattle.quic_headline.specs.InUse.{in_use}
use Rattle.quic_headline.specs.Duties.{DutiesStand}
use Rattle.quic_headline.proofs.Places.Theorems.{duties_hold}
use Rattle.quic_headline.proofs.NextIds.Used.{in_use_reaches}

pub duties_stand : (r : Run) (end : World) → IsHonest r → IsRun r end → DutiesStand r
duties_stand r end honest run i w served leads side stays duty kept owed =
    duties_hold r end honest run i w served leads side (in_use r stays side i) (in_use_reaches r end honest run side stays kept i w served leads) duty owed
