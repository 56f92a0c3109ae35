-- What `run` promises, in families: each field is a clause of every run of two honest ends, and its
-- comment says what the definition says. `Isolates` is of any two ends.
use Rattle.quic_machine.specs.Machine.{World}
use Rattle.quic_machine.specs.Start.{AreStarted}
use Rattle.quic_headline.specs.Runs.{Run}
use Rattle.quic_headline.specs.Headline.{OrderedPrefix, Slices, Once, EndAfterAll, BlockedOnlyWithoutBytes, FinishedMeansArrived, FinishedIsTold, AcceptsAll, AcknowledgedWereTaken, NamesWereTaken, NumbersRise, OpensExactly, NewestOpens}
use Rattle.quic_headline.specs.Amounts.{WritesTakeWhatLimitsAllow}
use Rattle.quic_headline.specs.Buffers.{BuffersAreCounted}
use Rattle.quic_headline.specs.Duties.{DutiesStand}
use Rattle.quic_headline.specs.InFlight.{TracksInFlight}
use Rattle.quic_headline.specs.Causes.{NoBlame, TakenOrTooMany, TooManyPieces, ApplicationClosed, PeerClosed, IdleExpired, NumberLimit, KeyLimited, KeysLast}
use Rattle.quic_headline.specs.Moments.{AckMoments, LossMoments, LossTimerQuiet}
use Rattle.quic_headline.specs.Grown.{GrownLimitsWait}
use Rattle.quic_headline.specs.Messages.{MessagesAtMostOnce}
use Rattle.quic_headline.specs.Polls.{PollsSendWhatWaits, PollsSendMessages, ProbesPass, WindowIsOfHistory, PacerSetsItsTimer, AskingGoesWhereLet}
use Rattle.quic_headline.specs.Rest.{DeliveredAtRest, DoneAtRest, NothingOwedAtRest}
use Rattle.quic_headline.specs.ControlArrived.{ResetsAtRest, StopsAtRest, RetirementsAtRest, LimitsAtRest, StreamLimitsAtRest}
use Rattle.quic_headline.specs.AcksDue.{AcksAreDue}
use Rattle.quic_headline.specs.Resets.{ResetsAreTold, ResetsAreHeeded}
use Rattle.quic_headline.specs.Chunks.{ReadsAnswer}
use Rattle.quic_headline.specs.Ids.{IdsAreNew, AcceptedWereOpened}
use Rattle.quic_headline.specs.ConnectionIds.{NewestOpensAtEnd, IdsAreIssued, IdsAreInUse, UnknownOnlyWhereRetired, ToldIdsAreKnown, NoIdIsExact, TooManyIsExact, StaysForAReason}
use Rattle.quic_headline.specs.DrawnIds.{IdsAreDrawn}
use Rattle.quic_headline.specs.Taken.{TakenExactly}
use Rattle.quic_headline.specs.Reasons.{ClosedHasAReason, NeverFails}
use Rattle.quic_headline.specs.Views.{ViewsTell}
use Rattle.quic_headline.specs.Isolated.{Isolated, IsolatedByAnswers, IsolatedByLists}
use Rattle.quic_headline.specs.Lacking.{LacksWhereTaken}
use Rattle.quic_headline.specs.InOrder.{OpensInOrder}
use Rattle.quic_headline.specs.Stopped.{StoppedTakeNothing, StoppedOnlyWhereAsked, ClosedTakeNothing}
use Rattle.quic_headline.specs.TwoRuns.{RunsAgree, IdleRunsAgree}
use Rattle.quic_headline.specs.Sizes.{DatagramsAreSized, SizeIsOfHistory, SizesMove}
use Rattle.quic_headline.specs.PathSizes.{SizesFollow, SearchesRest}
use Rattle.quic_headline.specs.Unread.{BlockedOnlyForUnread}
use Rattle.quic_headline.specs.Undone.{NoneOpenedOnlyForUndone}
use Rattle.quic_headline.specs.Credit.{CreditIsBounded, CountsAreBounded}
use Rattle.quic_headline.specs.Allowed.{ReadsAreAllowed, ReadsAreOver, WritesAreAllowed, ResetsAreAllowed}
use Rattle.quic_headline.specs.Queue.{MessagesGo, MessagesGoInOrder}
use Rattle.quic_headline.specs.SendAnswers.{SendsAreLet}
use Rattle.quic_headline.specs.Inbox.{ReceivesOldest}
use Rattle.quic_headline.specs.Events.{MessagesAreTold, OpeningsAreTold, ReadablesAreTold, WritablesAreTold, AvailableIsTold, LossIsTold}
use Rattle.quic_headline.specs.Confirmed.{DoneIsExact, ConfirmationIsTold}
use Rattle.quic_headline.specs.Marking.{MarksGo}
use Rattle.quic_headline.specs.Telling.{ControllersAreTold}
use Rattle.quic_headline.specs.Reno.{RenoWindows}
use Rattle.quic_headline.specs.AckFrames.{AcksCountMarks, AcksNameAll}
use Rattle.quic_headline.specs.AckDelays.{AcksSayDelay}
use Rattle.quic_headline.specs.Requests.{RequestsSay, RequestsGo}
use Rattle.quic_headline.specs.Pings.{PingsGo, ProbesHasten}
use Rattle.quic_headline.specs.Going.{ControlGoes, RetirementsGo, LimitsGo}
use Rattle.quic_headline.specs.Waited.{AckTimersAreSet, EachWaited}
use Rattle.quic_headline.specs.Begins.{WaitingBegins}
use Rattle.quic_headline.specs.Spelled.{StreamsSay}
use Rattle.quic_headline.specs.Codes.{StopsSay, ResetsSay, NothingBehindResets}
use Rattle.quic_headline.specs.Spread.{PacerIsOfHistory}
use Rattle.quic_headline.specs.Threefold.{Threefold}
use Rattle.quic_headline.specs.Blocking.{BlockedSay}
use Rattle.quic_headline.specs.PeerLimits.{LimitsAreThePeers, OpeningIsExact}
use Rattle.quic_headline.specs.Validated.{ChallengesAreOwn, ValidatedByAnswer, AnswersValidate}
use Rattle.quic_headline.specs.Challenges.{ChallengesGo}
use Rattle.quic_headline.specs.Responses.{ResponsesAnswer, ChallengesAnswered, PathFramesFill}
use Rattle.quic_headline.specs.LeftOut.{NumbersAreDrawn}
use Rattle.quic_headline.specs.Moves.{GoesToPath, PathChangesExactly, DropsOtherAddresses}
use Rattle.quic_headline.specs.Expiring.{IdleMoments, AliveMoments, PathMoments, ClosedTimers, CloseMoments, CloseMomentsStay, DrainsInTime}
use Rattle.quic_headline.specs.Shut.{IdlesOut, ClosesForPeer, ClosesForApplication, RefusalsClose}
use Rattle.quic_headline.specs.Closes.{ClosesSayWhy, ClosesGoAlone, PeerClosesCome, ClosesAreOwed, OwedClosesGo, DrainedAreSilent}

-- What reads give of a stream, and when it is told to be finished (RFC 9000, sections 2.2, 3.1 and
-- 3.2).
pub record Delivers (r : Run) : Type 0 where
  -- what is read of a stream in order alone is a prefix of what was written on it (section 2.2)
  pub ordered_prefix : OrderedPrefix r
  -- each chunk that is read is a slice of what was written, at its offset (section 2.2)
  pub slices : Slices r
  -- no offset of a stream is read twice, whatever the order of reads (section 2.2)
  pub once : Once r
  -- a read answers each `next`, with one byte at least and no more than it asks for where it gives
  -- some; one in order is refused exactly behind one in no order (section 2.2)
  pub reads_answer : ReadsAnswer r
  -- the FIN is told only where the other end finished the stream, behind all its bytes (section
  -- 3.2)
  pub end_after_all : EndAfterAll r
  -- a read is blocked only where no byte has arrived that it may give, nor the FIN (section 2.2)
  pub blocked_only_without_bytes : BlockedOnlyWithoutBytes r
  -- a reset is told only of a stream that the other end reset, with its code (sections 3.2 and
  -- 19.4)
  pub resets_are_told : ResetsAreTold r
  -- where RESET_STREAM came no read waits for more, and no call finds that there was none (section
  -- 3.2)
  pub resets_are_heeded : ResetsAreHeeded r
  -- a stream is told to be finished only where the other end took all its bytes and its FIN
  -- (section 3.1)
  pub finished_means_arrived : FinishedMeansArrived r
  -- that is told at most once, and is told where all of it was acknowledged in flight (section 3.1)
  pub finished_is_told : FinishedIsTold r

-- Which streams are opened and accepted, and where calls find one closed (RFC 9000, sections 2 and
-- 3).
pub record Streams (r : Run) : Type 0 where
  -- nothing is accepted only where each stream that a frame opened, and each below it, was (section
  -- 3.2)
  pub accepts_all : AcceptsAll r
  -- a stream that a call opens or accepts at an end, no call before did there (section 2.1)
  pub ids_are_new : IdsAreNew r
  -- a call opens the stream of its kind behind those that calls opened before (section 2.1)
  pub opens_in_order : OpensInOrder r
  -- a stream is accepted only where a frame opened it, or one of its kind above it (section 3.2)
  pub accepted_were_opened : AcceptedWereOpened r
  -- calls that read or stop one find it closed only where nothing more is to be read (section 3.2)
  pub reads_are_allowed : ReadsAreAllowed r
  -- where nothing more is to be read, they find it closed (section 3.2)
  pub reads_are_over : ReadsAreOver r
  -- calls that write or finish find it closed only where it was finished or reset, or only receives
  -- (section 3.1)
  pub writes_are_allowed : WritesAreAllowed r
  -- no call writes a byte on a stream that the peer stopped (sections 2.4 and 3.5)
  pub stopped_take_nothing : StoppedTakeNothing r
  -- an open end answers a call that the peer stopped its stream only where STOP_SENDING came
  -- (section 3.5)
  pub stopped_only_where_asked : StoppedOnlyWhereAsked r
  -- one that isn't open takes no byte and no message, and opens no stream (section 10)
  pub closed_take_nothing : ClosedTakeNothing r
  -- calls that reset it find it closed only where it was reset, all of it came, or it only receives
  -- (section 3.1)
  pub resets_are_allowed : ResetsAreAllowed r

-- What an end may send by its limits, and what it lets come (RFC 9000, section 4).
pub record Limits (r : Run) : Type 0 where
  -- an open end keeps to the limits in its peer's parameters and frames (sections 4.1, 4.6 and
  -- 18.2)
  pub limits_are_the_peers : LimitsAreThePeers r
  -- a call opens a stream exactly while the greatest count in these lets it (section 4.6)
  pub opening_is_exact : OpeningIsExact r
  -- a write takes as much as the peer's limits and the send window leave (section 4.1)
  pub writes_take_what_limits_allow : WritesTakeWhatLimitsAllow r
  -- one of several buffers says how many of them lie within the bytes that it took
  pub buffers_are_counted : BuffersAreCounted r
  -- DATA_BLOCKED and STREAM_DATA_BLOCKED say the greatest limit that the peer told, at which the end
  -- is blocked (sections 4.1, 19.12 and 19.13)
  pub blocked_say : BlockedSay r
  -- a limit that grew waits to be told (sections 4.1, 4.2 and 4.6)
  pub grown_limits_wait : GrownLimitsWait r
  -- a limit that an end says lies at most a window past what was consumed (sections 4.1, 19.9 and
  -- 19.10)
  pub credit_is_bounded : CreditIsBounded r
  -- a count of streams lies past those that are done by at most as many as may be open (sections
  -- 4.6 and 19.11)
  pub counts_are_bounded : CountsAreBounded r

-- What waits to go, and that it goes (RFC 9000, section 13.3).
pub record Waits (r : Run) : Type 0 where
  -- what has to reach the peer waits to go, is in flight, or arrived (section 13.3)
  pub duties_stand : DutiesStand r
  -- a poll gives what waits of streams, but for window, pacer and address (RFC 9002, sections 7 and
  -- 7.7)
  pub polls_send_what_waits : PollsSendWhatWaits r
  -- each datagram carries something that waited (sections 8.2, 12.2, 13.2 and 13.3)
  pub each_waited : EachWaited r
  -- PING goes where it was asked for, or keep-alive asks for it, but for window, pacer and address
  -- (sections 8.1, 10.1.2 and 19.2)
  pub pings_go : PingsGo r
  -- RESET_STREAM, STOP_SENDING and HANDSHAKE_DONE go where they are owed, but for window, pacer and
  -- address (sections 3.5, 13.3, 19.4, 19.5 and 19.20)
  pub control_goes : ControlGoes r
  -- RETIRE_CONNECTION_ID goes for each id below that in use, but for window, pacer and address
  -- (sections 5.1.2 and 19.16)
  pub retirements_go : RetirementsGo r
  -- MAX_DATA and MAX_STREAM_DATA go where they are to be raised, but for window, pacer and address
  -- (sections 4.1, 4.2, 19.9 and 19.10)
  pub limits_go : LimitsGo r
  -- what waits behind a call waited before it, or has one of the causes for which such goes
  -- (section 13.3)
  pub waiting_begins : WaitingBegins r
  -- a STREAM frame has the bytes that were written there, as often as they go, and FIN behind the
  -- last (sections 2.2 and 19.8)
  pub streams_say : StreamsSay r
  -- STOP_SENDING has the code with which the application stopped its stream (sections 3.5 and 19.5)
  pub stops_say : StopsSay r
  -- RESET_STREAM has that with which it reset one, and says how many bytes were written (section
  -- 19.4)
  pub resets_say : ResetsSay r
  -- behind that no STREAM frame of its stream goes (section 3.3)
  pub nothing_behind_resets : NothingBehindResets r

-- Which messages go, and which are received (RFC 9221, section 5).
pub record Messages (r : Run) : Type 0 where
  -- each is received whole, and at most as often as the other end sent it (section 5)
  pub messages_at_most_once : MessagesAtMostOnce r
  -- an open end refuses one only for a reason by the lists, and takes none that it has to refuse
  -- (sections 3 and 5)
  pub sends_are_let : SendsAreLet r
  -- a call that receives gives the oldest of those that came and wait, or none where none does
  -- (sections 3 and 5)
  pub receives_oldest : ReceivesOldest r
  -- a poll gives what waits in the end's queue, but for window, pacer and address (section 5.4)
  pub polls_send_messages : PollsSendMessages r
  -- so it does of the messages that wait by the lists (section 5.4)
  pub messages_go : MessagesGo r
  -- a datagram has the first of these, in their order (section 5)
  pub messages_go_in_order : MessagesGoInOrder r

-- What applications are told by events and queries. The first six say what was told where no event
-- is left (RFC 9000, section 2).
pub record Tells (r : Run) : Type 0 where
  -- that messages came, since the first of those that wait to be received (RFC 9221, section 5)
  pub messages_are_told : MessagesAreTold r
  -- that the peer opened streams, behind each that a frame opened (sections 2.1 and 3.2)
  pub openings_are_told : OpeningsAreTold r
  -- that a stream may be read, since the last frame came on it (sections 2.2 and 3.2)
  pub readables_are_told : ReadablesAreTold r
  -- that a stream takes bytes again, since a write on it was blocked (sections 4.1 and 19.10)
  pub writables_are_told : WritablesAreTold r
  -- that more streams may be opened, since the last count came that lets an open end (section 4.6)
  pub available_is_told : AvailableIsTold r
  -- that the connection is lost, once, with its reason, and is told there (section 10)
  pub loss_is_told : LossIsTold r
  -- an application that says that the handshake is done is let at a server, once, while that is
  -- open (section 19.20)
  pub done_is_exact : DoneIsExact r
  -- that the handshake is confirmed, once, to a client to which HANDSHAKE_DONE came (RFC 9001,
  -- section 4.1.2)
  pub confirmation_is_told : ConfirmationIsTold r
  -- what is answered of timers, of the state and of the address is what the view behind it shows
  pub views_tell : ViewsTell r

-- What ACK frames name, when they go, and how the peer is asked for them (RFC 9000, sections 13.1
-- and 13.2; QUIC Acknowledgement Frequency, section 4).
pub record Acknowledges (r : Run) : Type 0 where
  -- an ACK frame that came names only packets that its end had taken whole (section 13.1)
  pub acknowledged_were_taken : AcknowledgedWereTaken r
  -- so does an ACK frame in a datagram that was given (section 13.1)
  pub names_were_taken : NamesWereTaken r
  -- that one names all that its end had taken, but for what the peer is known to know, and for what
  -- lies below 64 runs of numbers (sections 13.2.3 and 13.2.4)
  pub acks_name_all : AcksNameAll r
  -- it counts what came with each ECN mark (section 13.4.1)
  pub acks_count_marks : AcksCountMarks r
  -- it says how long before it goes the packet came with the greatest number (sections 13.2.5 and
  -- 19.3)
  pub acks_say_delay : AcksSayDelay r
  -- a poll gives the ACK frame that is due (sections 13.2.1 and 13.2.2)
  pub acks_are_due : AcksAreDue r
  -- the timer of acknowledgements, where set, is set for the first packet that waits (section
  -- 13.2.1)
  pub ack_moments : AckMoments r
  -- while no ACK frame is wanted it is set for the first packet that waits, where one does (section
  -- 13.2.1)
  pub ack_timers_are_set : AckTimersAreSet r
  -- an ACK_FREQUENCY frame goes only from an end that is configured so, whose peer takes one; it
  -- says how many went before it, asks for what is configured, and is the only one of its datagram
  -- (QUIC Acknowledgement Frequency, section 4)
  pub requests_say : RequestsSay r
  -- one goes where the peer is to be asked anew, but for window, pacer and address (QUIC
  -- Acknowledgement Frequency, section 4; RFC 9002, sections 7 and 7.7)
  pub requests_go : RequestsGo r

-- What is in flight, when it is lost, and the congestion window over it (RFC 9002, sections 2, 6
-- and 7).
pub record Loses (r : Run) : Type 0 where
  -- an open end tracks exactly what it gave, and is neither acknowledged, lost nor forgotten
  -- (sections 2 and 6.1)
  pub tracks_in_flight : TracksInFlight r
  -- the loss timer is set to the moment that is due (section 6.2.1)
  pub loss_moments : LossMoments r
  -- it isn't set once all that is ack-eliciting was named in ACK frames (section 6.2.1)
  pub loss_timer_quiet : LossTimerQuiet r
  -- PTO probes, two for each expiry, go past window and pacer (sections 6.2.4 and 7.5)
  pub probes_pass : ProbesPass r
  -- they have IMMEDIATE_ACK, where the peer takes it (QUIC Acknowledgement Frequency, section 5)
  pub probes_hasten : ProbesHasten r
  -- each datagram of an open end is marked with ECT(0) while the peer's counts show that such marks
  -- come through, and isn't marked otherwise (RFC 9000, section 13.4.2)
  pub marks_go : MarksGo r
  -- the window is that of a controller which was told what the lists say (sections 6, 7 and 7.6)
  pub controllers_are_told : ControllersAreTold r
  -- where the controller is NewReno, it is the one that its rules make of that (sections 7.3, 7.6
  -- and 7.8)
  pub reno_windows : RenoWindows r
  -- it is that of one which was told what the calls tell (section 7)
  pub window_is_of_history : WindowIsOfHistory r

-- When the pacer lets datagrams go (RFC 9002, section 7.7).
pub record Paces (r : Run) : Type 0 where
  -- the pacer's timer is set only to the moment that it named in the last poll (section 7.7)
  pub pacer_sets_its_timer : PacerSetsItsTimer r
  -- what is ack-eliciting goes only where window and pacer let it, but for probes (sections 7 and
  -- 7.7)
  pub asking_goes_where_let : AskingGoesWhereLet r
  -- the tokens of the pacer follow from the polls and the bytes that went (section 7.7)
  pub pacer_is_of_history : PacerIsOfHistory r

-- How many bytes datagrams have (RFC 9000, section 14; RFC 8899).
pub record Sizes (r : Run) : Type 0 where
  -- a datagram has at most the current size, or is an MTU probe of the size looked for (section
  -- 14); an ack-eliciting one has at most the least size while a PTO probe waits (RFC 8899, section
  -- 4.3)
  pub datagrams_are_sized : DatagramsAreSized r
  -- the size shown is the last that the controller was told of (RFC 8899, section 4.3)
  pub size_is_of_history : SizeIsOfHistory r
  -- it grows only to that of a probe that was acknowledged, or falls to the least (RFC 8899,
  -- section 4.3)
  pub sizes_move : SizesMove r
  -- it is that of the last probe that was acknowledged, or the least one since more than three
  -- bursts of losses were suspicious (RFC 8899, section 4.3)
  pub sizes_follow : SizesFollow r
  -- probes go one after another, of the size that a search looks for; and none goes sooner behind
  -- its end, or behind a fall, than is configured (RFC 8899, section 5.3)
  pub searches_rest : SearchesRest r

-- Which numbers packets have, and where these let them open (RFC 9000, sections 12.3 and 17.1).
pub record Numbers (r : Run) : Type 0 where
  -- each datagram has a number, one or two above the one before (sections 12.3 and 17.1)
  pub numbers_rise : NumbersRise r
  -- those that are left out behind the first are drawn from the random source, each for a power of
  -- two (section 21.4)
  pub numbers_are_drawn : NumbersAreDrawn r
  -- an injection is answered `Opens` exactly where its bytes open (sections 5.2 and 12.2)
  pub opens_exactly : OpensExactly r
  -- each datagram opens as it was sent where none above it was taken (sections 12.3, 17.1 and A.3)
  pub newest_opens : NewestOpens r
  -- so it does at the other end with the ids that it has, where it knows its id still (section 5.1)
  pub newest_opens_at_end : NewestOpensAtEnd r

-- To which connection ids datagrams go, and when the next is refused (RFC 9000, section 5.1).
pub record Identifies (r : Run) : Type 0 where
  -- each goes to an id that the other end issued and that wasn't retired (sections 5.1.1 and 5.1.2)
  pub ids_are_issued : IdsAreIssued r
  -- each of an open end goes to the id in use (section 5.1.2)
  pub ids_are_in_use : IdsAreInUse r
  -- one is dropped for its id only where the peer retired that (sections 5.1.2 and 5.2)
  pub unknown_only_where_retired : UnknownOnlyWhereRetired r
  -- an open end knows the ids that it told until they are retired (section 5.1.1)
  pub told_ids_are_known : ToldIdsAreKnown r
  -- `NoId` is answered exactly where the peer told of no further id (section 5.1.2)
  pub no_id_is_exact : NoIdIsExact r
  -- `TooManyPending` exactly where it told of one, and over 80 retirements would wait (section
  -- 5.1.2)
  pub too_many_is_exact : TooManyIsExact r
  -- as the path changes the next id comes into use, unless there is none, or too many retirements
  -- would wait (sections 5.1.2 and 9.5)
  pub stays_for_a_reason : StaysForAReason r
  -- each id that an end tells, and its token, are drawn from the random source, of words of their
  -- own, but for those with which the end was made (sections 5.1 and 10.3.2)
  pub ids_are_drawn : IdsAreDrawn r

-- What goes to an address, and when that becomes validated (RFC 9000, section 8).
pub record Validates (r : Run) : Type 0 where
  -- until then at most three times the bytes that came from there go there (section 8.1)
  pub threefold : Threefold r
  -- a PATH_CHALLENGE has data that were drawn from the random source (section 8.2.1)
  pub challenges_are_own : ChallengesAreOwn r
  -- one goes to an address that isn't validated, and once more in time, but for window, pacer and
  -- address (sections 8.2.1 and 8.2.4)
  pub challenges_go : ChallengesGo r
  -- it becomes validated only by the answer to the challenge that went (section 8.2.2)
  pub validated_by_answer : ValidatedByAnswer r
  -- it becomes validated by that answer (section 8.2.3)
  pub answers_validate : AnswersValidate r
  -- a PATH_RESPONSE has the data of the newest challenge that came from where its end takes its
  -- peer to be (section 8.2.2)
  pub responses_answer : ResponsesAnswer r
  -- one goes where a challenge came, but for window, pacer and address (section 8.2.2)
  pub challenges_answered : ChallengesAnswered r
  -- a datagram with a frame of path validation has 1200 bytes (sections 8.2.1 and 8.2.2)
  pub path_frames_fill : PathFramesFill r
  -- each datagram goes to where its end takes its peer to be (sections 9.3 and 10.2)
  pub goes_to_path : GoesToPath r
  -- that changes, and isn't validated then, exactly where the newest packet that was taken came
  -- from elsewhere to a server, and doesn't only probe (sections 9.1 and 9.3)
  pub path_changes_exactly : PathChangesExactly r
  -- a client drops all that comes from elsewhere, and nothing else is dropped for its address
  -- (section 9)
  pub drops_other_addresses : DropsOtherAddresses r

-- Why an end closes, that it closes for that, and takes what comes otherwise (RFC 9000, sections 10
-- and 11).
pub record Causes (r : Run) : Type 0 where
  -- no end closes for a rule that the other one broke (sections 4.1, 4.5, 4.6 and 13.1)
  pub no_blame : NoBlame r
  -- a packet that is no duplicate is taken whole, or comes to too many pieces (section 12.3)
  pub taken_or_too_many : TakenOrTooMany r
  -- only what opens and is new is taken, and exactly what opens and isn't is a duplicate (section
  -- 12.3)
  pub taken_exactly : TakenExactly r
  -- an end closes for too many pieces only where more of a stream wait to be read than may (section
  -- 21.7)
  pub too_many_pieces : TooManyPieces r
  -- each view shows why an end isn't open, unless it failed (section 10)
  pub closed_has_a_reason : ClosedHasAReason r
  -- an end fails only where a delivery, a poll or a timeout finds no memory
  pub never_fails : NeverFails r
  -- a call finds no memory, and an end fails for that, only where the call takes some, by the lists
  pub lacks_where_taken : LacksWhereTaken r
  -- an end closes for its application only where that closed it while it was open (section 10.2)
  pub application_closed : ApplicationClosed r
  -- for its peer only where a view shows why that had closed (section 10.2)
  pub peer_closed : PeerClosed r
  -- for being idle only where its idle timer expired (section 10.1)
  pub idle_expired : IdleExpired r
  -- for used-up numbers only where they are (sections 12.3 and A.2)
  pub number_limit : NumberLimit r
  -- for a key's limit only where its own sealed, or its peer's refused, so many (RFC 9001, section
  -- 6.6)
  pub key_limited : KeyLimited r
  -- no key seals more than it may (RFC 9001, section 6.6)
  pub keys_last : KeysLast r
  -- an open end whose idle timer has come as it handles a moment is drained for it (section 10.1)
  pub idles_out : IdlesOut r
  -- one that took a close of its peer's is drained for that, from there on (section 10.2.2)
  pub closes_for_peer : ClosesForPeer r
  -- an open one that its application closes is closing for that (section 10.2)
  pub closes_for_application : ClosesForApplication r
  -- to one that is open fewer packets came that didn't open than its peer's key may refuse (RFC
  -- 9001, section 6.6)
  pub refusals_close : RefusalsClose r

-- What closes say, and when they go (RFC 9000, section 10.2).
pub record Closes (r : Run) : Type 0 where
  -- each says why its end isn't open (sections 19.19 and 20.1)
  pub closes_say_why : ClosesSayWhy r
  -- an end that isn't open gives nothing else, and nothing beside it (section 10.2.1)
  pub closes_go_alone : ClosesGoAlone r
  -- the close for which an end was closed by its peer, the peer gave (section 10.2)
  pub peer_closes_come : PeerClosesCome r
  -- a closing end gives its close once, and once more for what came since (section 10.2.1)
  pub closes_are_owed : ClosesAreOwed r
  -- a poll gives it, while keys and numbers last and the address is validated (section 10.2.1)
  pub owed_closes_go : OwedClosesGo r
  -- a drained end gives nothing (section 10.2.2)
  pub drained_are_silent : DrainedAreSilent r

-- To which moments timers are set, but for losses, acknowledgements and the pacer (RFC 9000,
-- section 10).
pub record Times (r : Run) : Type 0 where
  -- the idle timer is set to the moment that is due (section 10.1)
  pub idle_moments : IdleMoments r
  -- so is the timer of keep-alive (section 10.1.2)
  pub alive_moments : AliveMoments r
  -- so is the timer of path validation (section 8.2.4)
  pub path_moments : PathMoments r
  -- an end that isn't open has no timer set but that of its close (section 10.2)
  pub closed_timers : ClosedTimers r
  -- the timer of its close is set to three probe timeouts behind the call that closed it (section
  -- 10.2)
  pub close_moments : CloseMoments r
  -- it stays so while the end is closing (section 10.2)
  pub close_moments_stay : CloseMomentsStay r
  -- a closing end is drained once that moment has come, and no sooner (section 10.2)
  pub drains_in_time : DrainsInTime r

-- What holds where ends rest, if controllers keep room for two datagrams (RFC 9002, section 7.2).
pub record Rests (r : Run) : Type 0 where
  -- all that was written, and not reset, has arrived (RFC 9000, section 13.3)
  pub delivered_at_rest : DeliveredAtRest r
  -- HANDSHAKE_DONE has arrived where it was said that the handshake is done (sections 13.3 and
  -- 19.20)
  pub done_at_rest : DoneAtRest r
  -- the reset of each stream that was reset has arrived, with its code and final size (RFC 9000,
  -- sections 3.1, 13.3 and 19.4)
  pub resets_at_rest : ResetsAtRest r
  -- STOP_SENDING of each stream that was stopped has arrived, unless its final size came (RFC 9000,
  -- sections 3.5 and 13.3)
  pub stops_at_rest : StopsAtRest r
  -- each id of the peer below that in use was retired there (RFC 9000, sections 5.1.2 and 19.16)
  pub retirements_at_rest : RetirementsAtRest r
  -- the greatest limits that were said on all data, and on how many streams are opened, have
  -- arrived (RFC 9000, sections 4.1, 4.6 and 13.3)
  pub limits_at_rest : LimitsAtRest r
  -- so has that on the data of each stream whose final size didn't come, and that wasn't stopped
  -- (RFC 9000, sections 4.1 and 13.3)
  pub stream_limits_at_rest : StreamLimitsAtRest r
  -- no acknowledgement is owed (RFC 9000, sections 13.2.1 and 13.2.4)
  pub nothing_owed_at_rest : NothingOwedAtRest r
  -- a write is blocked only for bytes that were left unread (RFC 9000, section 4.1)
  pub blocked_only_for_unread : BlockedOnlyForUnread r
  -- no stream is opened only for those that aren't done (RFC 9000, section 4.6)
  pub none_opened_only_for_undone : NoneOpenedOnlyForUndone r

-- All of it that stands on the honesty of both ends (IsHonest).
pub record Promises (r : Run) : Type 0 where
  pub delivers : Delivers r
  pub streams : Streams r
  pub limits : Limits r
  pub waits : Waits r
  pub messages : Messages r
  pub tells : Tells r
  pub acknowledges : Acknowledges r
  pub loses : Loses r
  pub paces : Paces r
  pub sizes : Sizes r
  pub numbers : Numbers r
  pub identifies : Identifies r
  pub validates : Validates r
  pub causes : Causes r
  pub closes : Closes r
  pub times : Times r
  pub rests : Rests r

-- What changes nothing of a run, whatever the keys and the applications (RFC 9000, sections 5.2,
-- 12.2 and 12.3).
pub record Isolates (r : Run) (end : World) : Type 0 where
  -- the run less any injections, and deliveries that were dropped, but where an end is closing, is
  -- a run again
  pub isolated : Isolated r end
  -- so it is less those that didn't open, or came before, by their answers
  pub isolated_by_answers : IsolatedByAnswers r end
  -- so it is less those that don't open, or came before, by the lists, of ends that were made for
  -- one another
  pub isolated_by_lists : AreStarted r.start → IsolatedByLists r
  -- any run of the same ends over the same events comes to the same, where memory lacks in neither
  pub runs_agree : RunsAgree r end
  -- so does any over these less some injections, and deliveries that were dropped
  pub idle_runs_agree : IdleRunsAgree r end
