pub mod Codes
mod Steps
mod Rows
mod Unmoved
mod AllValidated
mod Waited
mod Unpolled
pub mod Unread
pub mod WorkedRun
pub mod WorkedLacks
pub mod ReorderedRun
pub mod BrokenRuns
pub mod BrokenClauses
pub mod Forgotten
pub mod WorkedKeys
pub mod WorkedHonest
pub mod WorkedNumber
pub mod Named
mod Injected
mod ClosedRuns
mod DestinedRuns
pub mod WrongRuns
pub mod LostRuns
pub mod WrongAcks
pub mod OwnIds
pub mod Honest
pub mod PairedRun
mod PairedMachines
mod PickedRun
pub mod CreditRuns
pub mod RaisedRun
mod RaisingRun
mod ChunkedRun
pub mod TimedRun
mod MeasuredRun
mod LastTold
mod HalvedRun
mod GoingRun
mod CongestedRun
mod WidenedRun
mod SkippedRun
mod ProbedRun
mod SearchedRun
mod HeldRun
mod PacedRun
mod FaultRuns
mod AgainRuns
mod FaultTimes
mod LongDatagram
mod LimitedRun
mod UsedUpRun
mod SilentEnd
mod AskedTimers
mod MessageRuns
mod ReceivedRun
mod RestedRun
mod HastyRun
mod MarkedRun
mod BleachedRun
mod CountedRuns
mod IsolatedRuns
mod AgreeingRuns
mod LackingRuns
mod HeededRuns
mod BlockedRun
mod UndoneRun
mod ToldRuns
mod BoundedRun
pub mod AllowedRun
pub mod RepeatedRuns
pub mod BegunRuns
mod ResetRun
mod WritableRun
mod TimedEnds
mod EndedRuns
mod ExpiringRuns
mod EndingRuns
mod EndingMachines
mod RenamedRuns
mod KeptEnds
mod UntakenRuns
mod FittingRuns
mod DrawnRun
mod KnownRuns
mod UnvalidatedRun
mod AnsweredRun
mod AnsweringRuns
pub mod MigratedRun
mod MigratedMachines
mod KeptId
mod StrayedRuns
mod MovedRuns
mod LateRun
mod EarlyRun
mod PassedRun
mod CrossedRun
pub mod Validated
pub mod AskingRuns
mod AskingMachines
pub mod ObeyingRuns
mod HastenedRuns
mod EarlyAcks
mod ShortenedRun
mod SaidRun
mod SampledRun
mod ConfirmedRun
mod ArrivedRun
mod LimitArrivedRun
mod ShutRuns
mod LossRuns
mod CodedRuns
mod AvailableRun
mod OpeningRuns
mod SmoothedRun
mod DelayedRun
mod ElsewhereRun
mod MisstatedRun
mod RespelledRun
mod ChallengedRun
mod CollapsedRun
mod QuestionedRun
mod BurstingRuns
