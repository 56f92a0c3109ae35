-- No end closes for a rule that the other broke, and each packet is taken or comes to too many
-- pieces: in every run of two honest ends.
use Rattle.quic_machine.specs.Machine.{World}
use Rattle.quic_headline.specs.Runs.{Run}
use Rattle.quic_headline.specs.Causes.{NoBlame, TakenOrTooMany}
use Rattle.quic_headline.specs.Headline.{IsHonest, IsRun}
use Rattle.quic_headline.proofs.Channel.Within.{Within, within_group}
use Rattle.quic_headline.proofs.Channel.Passed.{Before, writing, LimitsHold}
use Rattle.quic_headline.proofs.Channel.Passed as passed

-- the limits that an end was told are those that the other told
limits : LimitsHold Within
limits = record {
  group = within_group Before writing;
  limit = λ x y w still. (let heard = w.heard in heard.all);
  allows = λ x y w still. w.wrote;
  stays = λ x y w still. w.stays;
}

pub no_blame : (r : Run) (end : World) → IsHonest r → IsRun r end → NoBlame r
no_blame = passed.no_blame Within limits

pub taken_or_too_many : (r : Run) (end : World) → IsHonest r → IsRun r end → TakenOrTooMany r
taken_or_too_many = passed.taken_or_too_many Within limits
