-- The headline of every honest run: one theorem for each clause.
use Rattle.quic_machine.specs.Machine.{World}
use Rattle.quic_headline.specs.Runs.{Run}
use Rattle.quic_headline.specs.Grown.{GrownLimitsWait}
use Rattle.quic_headline.specs.Messages.{MessagesAtMostOnce}
use Rattle.quic_headline.specs.InFlight.{TracksInFlight}
use Rattle.quic_headline.specs.Causes.{KeysLast, NumberLimit}
use Rattle.quic_headline.specs.ConnectionIds.{IdsAreIssued, UnknownOnlyWhereRetired, ToldIdsAreKnown, NewestOpensAtEnd}
use Rattle.quic_headline.specs.Moments.{LossMoments, LossTimerQuiet, AckMoments}
use Rattle.quic_headline.specs.Resets.{ResetsAreTold}
use Rattle.quic_headline.specs.Ids.{IdsAreNew, AcceptedWereOpened}
use Rattle.quic_headline.specs.Polls.{PacerSetsItsTimer, AskingGoesWhereLet, WindowIsOfHistory}
use Rattle.quic_headline.specs.Sizes.{SizeIsOfHistory, SizesMove, DatagramsAreSized}
use Rattle.quic_headline.specs.Headline.{IsHonest, IsRun, OrderedPrefix, Slices, Once, EndAfterAll, BlockedOnlyWithoutBytes, AcceptsAll, FinishedMeansArrived, AcknowledgedWereTaken, NamesWereTaken, OpensExactly, NewestOpens, NumbersRise}
use Rattle.quic_headline.proofs.Duties.Ledger.{DutiesHold}
use Rattle.quic_headline.proofs.Halves.Ready.{Ready, ready_probes, ready_group}
use Rattle.quic_headline.proofs.Places.Everything as everything
use Rattle.quic_headline.proofs.Steps.Pacing as pacing
use Rattle.quic_headline.proofs.Steps.Windows as windows
use Rattle.quic_headline.proofs.Steps.Resized as resized

-- what waits to go of streams may go
pub ready : everything.IsReadying Ready
ready = record { group = ready_group; probes = ready_probes }

-- ---- what is read and finished

pub ordered_prefix : (r : Run) (end : World) → IsHonest r → IsRun r end → OrderedPrefix r
ordered_prefix = everything.ordered_prefix Ready ready

pub slices : (r : Run) (end : World) → IsHonest r → IsRun r end → Slices r
slices = everything.slices Ready ready

pub once : (r : Run) (end : World) → IsHonest r → IsRun r end → Once r
once = everything.once Ready ready

pub end_after_all : (r : Run) (end : World) → IsHonest r → IsRun r end → EndAfterAll r
end_after_all = everything.end_after_all Ready ready

pub blocked_only_without_bytes : (r : Run) (end : World) → IsHonest r → IsRun r end → BlockedOnlyWithoutBytes r
blocked_only_without_bytes = everything.blocked_only_without_bytes Ready ready

pub accepts_all : (r : Run) (end : World) → IsHonest r → IsRun r end → AcceptsAll r
accepts_all = everything.accepts_all Ready ready

pub accepted_were_opened : (r : Run) (end : World) → IsHonest r → IsRun r end → AcceptedWereOpened r
accepted_were_opened = everything.accepted_were_opened Ready ready

pub resets_are_told : (r : Run) (end : World) → IsHonest r → IsRun r end → ResetsAreTold r
resets_are_told = everything.resets_are_told Ready ready

pub ids_are_new : (r : Run) (end : World) → IsHonest r → IsRun r end → IdsAreNew r
ids_are_new = everything.ids_are_new Ready ready

pub finished_means_arrived : (r : Run) (end : World) → IsHonest r → IsRun r end → FinishedMeansArrived r
finished_means_arrived = everything.finished_means_arrived Ready ready

-- ---- messages

pub messages_at_most_once : (r : Run) (end : World) → IsHonest r → IsRun r end → MessagesAtMostOnce r
messages_at_most_once = everything.messages_at_most_once Ready ready

-- ---- packets

pub acknowledged_were_taken : (r : Run) (end : World) → IsHonest r → IsRun r end → AcknowledgedWereTaken r
acknowledged_were_taken = everything.acknowledged_were_taken Ready ready

pub names_were_taken : (r : Run) (end : World) → IsHonest r → IsRun r end → NamesWereTaken r
names_were_taken = everything.names_were_taken Ready ready

pub opens_exactly : (r : Run) (end : World) → IsHonest r → IsRun r end → OpensExactly r
opens_exactly = everything.opens_exactly Ready ready

pub keys_last : (r : Run) (end : World) → IsHonest r → IsRun r end → KeysLast r
keys_last = everything.keys_last Ready ready

pub newest_opens : (r : Run) (end : World) → IsHonest r → IsRun r end → NewestOpens r
newest_opens = everything.newest_opens Ready ready

pub ids_are_issued : (r : Run) (end : World) → IsHonest r → IsRun r end → IdsAreIssued r
ids_are_issued = everything.ids_are_issued Ready ready

pub unknown_only_where_retired : (r : Run) (end : World) → IsHonest r → IsRun r end → UnknownOnlyWhereRetired r
unknown_only_where_retired = everything.unknown_only_where_retired Ready ready

pub told_ids_are_known : (r : Run) (end : World) → IsHonest r → IsRun r end → ToldIdsAreKnown r
told_ids_are_known = everything.told_ids_are_known Ready ready

pub newest_opens_at_end : (r : Run) (end : World) → IsHonest r → IsRun r end → NewestOpensAtEnd r
newest_opens_at_end = everything.newest_opens_at_end Ready ready

pub numbers_rise : (r : Run) (end : World) → IsHonest r → IsRun r end → NumbersRise r
numbers_rise = everything.numbers_rise Ready ready

pub tracks_in_flight : (r : Run) (end : World) → IsHonest r → IsRun r end → TracksInFlight r
tracks_in_flight = everything.tracks_in_flight Ready ready

pub duties_hold : (r : Run) (end : World) → IsHonest r → IsRun r end → DutiesHold r
duties_hold = everything.duties_hold Ready ready

pub grown_limits_wait : (r : Run) (end : World) → IsHonest r → IsRun r end → GrownLimitsWait r
grown_limits_wait = everything.grown_limits_wait Ready ready

-- ---- timers

pub loss_moments : (r : Run) (end : World) → IsHonest r → IsRun r end → LossMoments r
loss_moments = everything.loss_moments Ready ready

pub loss_timer_quiet : (r : Run) (end : World) → IsHonest r → IsRun r end → LossTimerQuiet r
loss_timer_quiet = everything.loss_timer_quiet Ready ready

pub ack_moments : (r : Run) (end : World) → IsHonest r → IsRun r end → AckMoments r
ack_moments = everything.ack_moments Ready ready

-- ---- why ends close

pub number_limit : (r : Run) (end : World) → IsHonest r → IsRun r end → NumberLimit r
number_limit = everything.number_limit Ready ready

-- ---- window and pacer

pub pacer_sets_its_timer : (r : Run) (end : World) → IsHonest r → IsRun r end → PacerSetsItsTimer r
pacer_sets_its_timer r end honest run = pacing.pacer_sets_its_timer r

pub window_is_of_history : (r : Run) (end : World) → IsHonest r → IsRun r end → WindowIsOfHistory r
window_is_of_history r end honest run = windows.window_is_of_history r end run

pub size_is_of_history : (r : Run) (end : World) → IsHonest r → IsRun r end → SizeIsOfHistory r
size_is_of_history r end honest run = resized.size_is_of_history r end run

pub asking_goes_where_let : (r : Run) (end : World) → IsHonest r → IsRun r end → AskingGoesWhereLet r
asking_goes_where_let = everything.asking_goes_where_let Ready ready

pub sizes_move : (r : Run) (end : World) → IsHonest r → IsRun r end → SizesMove r
sizes_move = everything.sizes_move Ready ready

pub datagrams_are_sized : (r : Run) (end : World) → IsHonest r → IsRun r end → DatagramsAreSized r
datagrams_are_sized = everything.datagrams_are_sized Ready ready
