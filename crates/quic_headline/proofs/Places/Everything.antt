-- All that holds between the ends of an honest run, in one group: packets, streams, what observers
-- know and what is read; and the clauses of it.
use Rattle.std.proofs.Common.{◌≡◌, ◌≤◌, ℕ, suc, true, Some, length, sym, subst}
use Rattle.std.specs.Prelude.{slice_get}
use Rattle.quic_wire_core.specs.declared.stream_id.Side.{Side}
use Rattle.quic_machine.specs.declared.answers.State.TheVariants as states
use Rattle.quic_machine.specs.declared.run.Call.TheVariants as calls
use Rattle.quic_machine.specs.declared.run.Answer.{Answer}
use Rattle.quic_machine.specs.declared.run.View.{View}
use Rattle.quic_machine.specs.Machine.{World, end_at}
use Rattle.quic_headline.specs.Runs.{Run, state_in, LeadsTo, AreServed}
use Rattle.quic_headline.specs.InFlight.{TracksInFlight}
use Rattle.quic_headline.specs.Causes.{KeysLast, NumberLimit}
use Rattle.quic_headline.specs.Grown.{GrownLimitsWait}
use Rattle.quic_headline.specs.Messages.{MessagesAtMostOnce}
use Rattle.quic_headline.specs.Headline.{IsHonest, IsRun, OrderedPrefix, Slices, Once, EndAfterAll, BlockedOnlyWithoutBytes, AcceptsAll, FinishedMeansArrived, AcknowledgedWereTaken, NamesWereTaken, OpensExactly, NewestOpens, NumbersRise}
use Rattle.quic_headline.specs.ConnectionIds.{IdsAreIssued, UnknownOnlyWhereRetired, ToldIdsAreKnown, NewestOpensAtEnd}
use Rattle.quic_headline.specs.Moments.{LossMoments, LossTimerQuiet, AckMoments}
use Rattle.quic_headline.specs.Resets.{ResetsAreTold}
use Rattle.quic_headline.specs.Ids.{IdsAreNew, AcceptedWereOpened}
use Rattle.quic_headline.specs.Polls.{IsMade, IsLimited, AskingGoesWhereLet, ProbesPass}
use Rattle.quic_headline.specs.Sizes.{SizesMove, DatagramsAreSized}
use Rattle.quic_headline.specs.AppLimited.{MayCount}
use Rattle.quic_headline.specs.Marking.{marking}
use Rattle.quic_headline.specs.Telling.{ControllersAreTold}
use Rattle.quic_machine.specs.PollCases.{ready_at}
use Rattle.quic_headline.proofs.Packets.Probes.{ready_state}
use Rattle.quic_headline.proofs.Packets.MayGo.{AreReady}
use Rattle.quic_headline.proofs.Packets.Group.{PacketsHold}
use Rattle.quic_headline.proofs.Packets.Sight.{Sight}
use Rattle.quic_headline.proofs.Places.Parties.{Party, with_shown, shown_at}
use Rattle.quic_headline.proofs.Places.Groups.{Way, Nothing, And, Group, both, beside, over, early_group}
use Rattle.quic_headline.proofs.Places.Placed.{Placed, placed}
use Rattle.quic_headline.proofs.Places.Order as order
use Rattle.quic_headline.proofs.Marking.Judged.{IsMarked}
use Rattle.quic_headline.proofs.Places.Together as together
use Rattle.quic_headline.proofs.Halves.Ghosts.{IsWriting}
use Rattle.quic_headline.proofs.Halves.DataLimit.{HasSmallLimit, KnowsLimit, limit_group}
use Rattle.quic_headline.proofs.Halves.Writer.{WritesHold, grows_behind}
use Rattle.quic_headline.proofs.Halves.Joined.{GoesWell, streams_spell, streams_group}
use Rattle.quic_headline.proofs.Halves.ReadGroup.{ReadsHold, reads_group}
use Rattle.quic_headline.proofs.Halves.ReadClauses as reads
use Rattle.quic_headline.proofs.Halves.ResetClause as resets
use Rattle.quic_headline.proofs.Halves.Finishing.{finished_arrived, arrived_beside}
use Rattle.quic_headline.proofs.Halves.Arrived.{Arrives}
use Rattle.quic_headline.proofs.Amounts.Opens.{OfGiven, given_group}
use Rattle.quic_headline.proofs.Amounts.NewIds.{IsGot, got_once}
use Rattle.quic_headline.proofs.Amounts.NewIds as new_ids
use Rattle.quic_headline.proofs.Causes.Ordinary.{Unclosed, unclosed_group}
use Rattle.quic_headline.proofs.Causes.UsedUp.{Shut, shut_group}
use Rattle.quic_headline.proofs.Causes.UsedUp as used_up
use Rattle.quic_headline.proofs.Channel.Names.{NamesHold, names_group}
use Rattle.quic_headline.proofs.Channel.Within.{Within, within_group}
use Rattle.quic_headline.proofs.Channel.Openers.{Openers, openers_group}
use Rattle.quic_headline.proofs.Channel.Openers as openers
use Rattle.quic_headline.proofs.Duties.Group.{Flying, flying_group}
use Rattle.quic_headline.proofs.Duties.Ledger as ledger
use Rattle.quic_headline.proofs.Grown.Clause.{GrownWait, grown_group}
use Rattle.quic_headline.proofs.Grown.Clause as grown
use Rattle.quic_headline.proofs.Steps.Probes as probes
use Rattle.quic_headline.proofs.Steps.Asking as asking
use Rattle.quic_headline.proofs.Steps.Sized as sized
use Rattle.quic_headline.proofs.Timers.Watched.{Observed}
use Rattle.quic_headline.proofs.Timers.Quiet.{Unnamed, quiet_group}
use Rattle.quic_headline.proofs.Sizes.Probed.{KnowsSearch, search_group}
use Rattle.quic_headline.proofs.Sizes.Moves as moves
use Rattle.quic_headline.proofs.Tellings.Clause as tellings

-- what waits to go of streams, as a group over the packets and what is written
pub record IsReadying (Ready : Way) : Type 1 where
  pub group : Group (And PacketsHold WritesHold) Ready
  pub probes : (x y : Party) → PacketsHold x y → Ready x y → (now : ℕ) → AreReady (ready_at x.end now).end.streams.sending.halves.live (ready_at x.end now).end.waiting.frames

module _ (Ready : Way) (ready : IsReadying Ready) where
  -- ---- the groups

  -- what is known of the streams of an end that writes, beside what was written
  abbrev pub Rest : Way
  Rest = And KnowsLimit Ready

  rest : Group (And PacketsHold WritesHold) Rest
  rest = beside (And PacketsHold WritesHold) KnowsLimit Ready (over PacketsHold (And PacketsHold WritesHold) KnowsLimit (λ x y h. h.0) (early_group PacketsHold KnowsLimit limit_group)) ready.group

  pub goes : (x y : Party) → PacketsHold x y → Rest x y → (now : ℕ) → GoesWell (ready_at x.end now).end
  goes x y p h now = record { limit = subst HasSmallLimit (sym (ready_state x.end now)) h.0.small; waits = ready.probes x y p h.1 now }

  -- the streams of an end that writes
  abbrev pub Streams : Way
  Streams = And WritesHold Rest

  -- the packets, the streams, and what observers know
  abbrev pub All : Way
  All = And (And PacketsHold Streams) Sight

  pub all : Group Nothing All
  all = together.sighted Streams (streams_spell Rest goes) (streams_group Rest goes rest)

  -- and what of it the search for a size made
  pub all_searched : Group Nothing (And All (And KnowsSearch Unnamed))
  all_searched = both Nothing All (And KnowsSearch Unnamed) all
      (beside (And Nothing All) KnowsSearch Unnamed (search_group (And Nothing All) (λ x y h. h.1.0.0)) (over Observed (And Nothing All) Unnamed (λ x y h. (h.1.0.0, h.1.1)) quiet_group))

  -- ---- what is read

  is_writing : IsWriting (And Nothing All)
  is_writing = record {
    packets = λ x y h. h.1.0.0;
    written = λ x y h. h.1.0.1.0.writes.keeps.holds;
    says = λ x y h. h.1.0.1.0.says;
    grows = λ x y call a c. grows_behind (And Nothing All) (λ x y h. h.1.0.0) x y call a c c.gives.1.0.1.0;
  }

  -- and what is read
  pub all_read : Group Nothing (And All ReadsHold)
  all_read = both Nothing All ReadsHold all (reads_group (And Nothing All) is_writing)

  -- ---- the streams of an application

  -- and which were opened or accepted
  pub all_got : Group Nothing (And All (OfGiven IsGot))
  all_got = both Nothing All (OfGiven IsGot) all (given_group IsGot got_once (And Nothing All) is_writing)

  -- and which the peer opened
  pub all_reached : Group Nothing (And All Openers)
  all_reached = both Nothing All Openers all (openers_group (And Nothing All) (λ x y h. h.1.0.0))

  -- ---- limits that grew

  -- and what waits of limits that grew
  pub all_grown : Group Nothing (And (And All ReadsHold) GrownWait)
  all_grown = both Nothing (And All ReadsHold) GrownWait all_read (over (And Nothing All) (And Nothing (And All ReadsHold)) GrownWait (λ x y h. (h.0, h.1.0)) (grown_group (And Nothing All) is_writing))

  -- ---- why ends close

  -- and that open ends gave no closes
  pub all_unclosed : Group Nothing (And All Unclosed)
  all_unclosed = beside Nothing All Unclosed all unclosed_group

  -- and why an end closed
  pub all_shut : Group Nothing (And (And All Unclosed) Shut)
  all_shut = both Nothing (And All Unclosed) Shut all_unclosed (shut_group (And Nothing (And All Unclosed)) (λ x y h. h.1.0.0.0) (λ x y h. h.1.1))

  -- ---- where duties are

  -- what of streams is known to have arrived
  pub all_arrived : Group Nothing (And All Arrives)
  all_arrived = arrived_beside All all (λ x y h. h.0.0) (λ x y h. h.0.1.0.says) (λ x y h. h.0.1.0.writes)

  -- and what was said of counts and limits
  abbrev pub Said : Way
  Said = And NamesHold Within

  arrived_writing : IsWriting (And Nothing (And All Arrives))
  arrived_writing = record {
    packets = λ x y h. h.1.0.0.0;
    written = λ x y h. h.1.0.0.1.0.writes.keeps.holds;
    says = λ x y h. h.1.0.0.1.0.says;
    grows = λ x y call a c. grows_behind (And Nothing (And All Arrives)) (λ x y h. h.1.0.0.0) x y call a c c.gives.1.0.0.1.0;
  }

  pub all_said : Group Nothing (And (And All Arrives) Said)
  all_said = both Nothing (And All Arrives) Said all_arrived
      (beside (And Nothing (And All Arrives)) NamesHold Within (names_group (And Nothing (And All Arrives)) (record { packets = λ x y h. h.1.0.0.0; written = λ x y h. h.1.0.0.1.0.writes.keeps.holds })) (within_group (And Nothing (And All Arrives)) arrived_writing))

  -- and where what has to arrive is
  pub all_flying : Group Nothing (And (And (And All Arrives) Said) Flying)
  all_flying = both Nothing (And (And All Arrives) Said) Flying all_said (flying_group (And Nothing (And (And All Arrives) Said)) (record {
    packets = λ x y h. h.1.0.0.0.0;
    writes = λ x y h. h.1.0.0.0.1.0;
    ready = λ x y h. ready.probes x y h.1.0.0.0.0 h.1.0.0.0.1.1.1;
    names = λ x y h. h.1.1.0;
    within = λ x y h. h.1.1.1;
  }))

  -- ---- the clauses

  module _ (r : Run) (end : World) (honest : IsHonest r) (run : IsRun r end) where
    reads_place : (side : Side) (i : ℕ) → AreServed r i → Placed (And All ReadsHold) r end side i
    reads_place = placed (And All ReadsHold) all_read r end honest run

    says_read : reads.SaysWhatIsRead (And All ReadsHold)
    says_read = record { reads = λ x y h. h.1 }

    right : order.ReadsRight r
    right = reads.reads_right (And All ReadsHold) says_read r end honest reads_place

    pub ordered_prefix : OrderedPrefix r
    ordered_prefix = order.ordered_prefix r right

    pub slices : Slices r
    slices = order.slices r right

    pub once : Once r
    once = order.once r right

    pub end_after_all : EndAfterAll r
    end_after_all = reads.end_after_all (And All ReadsHold) says_read r end honest reads_place

    pub blocked_only_without_bytes : BlockedOnlyWithoutBytes r
    blocked_only_without_bytes = reads.blocked_only_without_bytes (And All ReadsHold) says_read r end honest reads_place

    pub accepts_all : AcceptsAll r
    accepts_all = reads.accepts_all (And All ReadsHold) says_read r end honest reads_place

    pub accepted_were_opened : AcceptedWereOpened r
    accepted_were_opened = openers.accepted_were_opened (And All Openers) (record { openers = λ x y h. h.1 }) r end honest (placed (And All Openers) all_reached r end honest run)

    pub resets_are_told : ResetsAreTold r
    resets_are_told = resets.resets_are_told (And All ReadsHold) says_read r end honest reads_place

    pub ids_are_new : IdsAreNew r
    ids_are_new = new_ids.ids_are_new (And All (OfGiven IsGot)) (record { got = λ x y h. h.1 }) r end (placed (And All (OfGiven IsGot)) all_got r end honest run)

    pub finished_means_arrived : FinishedMeansArrived r
    finished_means_arrived = finished_arrived All all (λ x y h. h.0.0) (λ x y h. h.0.1.0.says) (λ x y h. h.0.1.0.writes) r end honest run

    pub acknowledged_were_taken : AcknowledgedWereTaken r
    acknowledged_were_taken = together.all_acknowledged Streams (streams_spell Rest goes) (streams_group Rest goes rest) r end honest run

    pub names_were_taken : NamesWereTaken r
    names_were_taken = together.all_named Streams (streams_spell Rest goes) (streams_group Rest goes rest) r end honest run

    pub opens_exactly : OpensExactly r
    opens_exactly = together.all_open Streams (streams_spell Rest goes) (streams_group Rest goes rest) r end honest run

    pub keys_last : KeysLast r
    keys_last = together.all_last Streams (streams_spell Rest goes) (streams_group Rest goes rest) r end honest run

    pub newest_opens : NewestOpens r
    newest_opens = together.all_newest Streams (streams_spell Rest goes) (streams_group Rest goes rest) r end honest run

    pub ids_are_issued : IdsAreIssued r
    ids_are_issued = together.all_issued Streams (streams_spell Rest goes) (streams_group Rest goes rest) r end honest run

    pub unknown_only_where_retired : UnknownOnlyWhereRetired r
    unknown_only_where_retired = together.all_unknown Streams (streams_spell Rest goes) (streams_group Rest goes rest) r end honest run

    pub told_ids_are_known : ToldIdsAreKnown r
    told_ids_are_known = together.all_told Streams (streams_spell Rest goes) (streams_group Rest goes rest) r end honest run

    pub newest_opens_at_end : NewestOpensAtEnd r
    newest_opens_at_end = together.all_newest_at_end Streams (streams_spell Rest goes) (streams_group Rest goes rest) r end honest run

    pub numbers_rise : NumbersRise r
    numbers_rise = together.all_rise Streams (streams_spell Rest goes) (streams_group Rest goes rest) r end honest run

    pub tracks_in_flight : TracksInFlight r
    tracks_in_flight = together.all_tracked Streams (streams_spell Rest goes) (streams_group Rest goes rest) r end honest run

    pub loss_moments : LossMoments r
    loss_moments = together.all_paced Streams (streams_spell Rest goes) (streams_group Rest goes rest) r end honest run

    pub loss_timer_quiet : LossTimerQuiet r
    loss_timer_quiet = together.all_quiet Streams (streams_spell Rest goes) (streams_group Rest goes rest) r end honest run

    pub ack_moments : AckMoments r
    ack_moments = together.all_due Streams (streams_spell Rest goes) (streams_group Rest goes rest) r end honest run

    pub messages_at_most_once : MessagesAtMostOnce r
    messages_at_most_once = together.all_messages Streams (streams_spell Rest goes) (streams_group Rest goes rest) r end honest run

    pub number_limit : NumberLimit r
    number_limit = used_up.number_limit (And (And All Unclosed) Shut) (record { sight = λ x y h. h.0.0.1; shut = λ x y h. h.1 }) r end honest (placed (And (And All Unclosed) Shut) all_shut r end honest run)

    pub duties_hold : ledger.DutiesHold r
    duties_hold = ledger.duties_hold (And (And (And All Arrives) Said) Flying)
        (record { packets = λ x y h. h.0.0.0.0.0; writes = λ x y h. h.0.0.0.0.1.0; arrives = λ x y h. h.0.0.1; flying = λ x y h. h.1; sight = λ x y h. h.0.0.0.1 }) r end honest
        (placed (And (And (And All Arrives) Said) Flying) all_flying r end honest run)

    pub grown_limits_wait : GrownLimitsWait r
    grown_limits_wait = grown.grown_limits_wait (And (And All ReadsHold) GrownWait) (record { grown = λ x y h. h.1; reads = λ x y h. h.0.1 }) r end honest (placed (And (And All ReadsHold) GrownWait) all_grown r end honest run)

    pub asking_goes_where_let : AskingGoesWhereLet r
    asking_goes_where_let = asking.asking_goes_where_let Streams all r end honest run

    pub sizes_move : SizesMove r
    sizes_move = moves.sizes_move (And All (And KnowsSearch Unnamed)) all_searched (λ x y h. h.0.0.0) (λ x y h. h.0.1) (λ x y h. h.1.0) (λ x y h. h.1.1) r end honest run

    -- where an end counts as having nothing more to send only as its last poll lets it
    pub controllers_are_told : ((i : ℕ) (side : Side) (w : World) → i ≤ length r.views → LeadsTo r i w → AreServed r i → (end_at side w).closing.state ≡ states.Open → MayCount r side i (end_at side w).path.app_limited)
        → ((i : ℕ) (side : Side) (w : World) → i ≤ length r.views → LeadsTo r i w → AreServed r i → (end_at side w).closing.state ≡ states.Open → IsMarked (marking r side i) (end_at side w)) → ControllersAreTold r
    controllers_are_told counts marks = tellings.controllers_are_told (And All (And KnowsSearch Unnamed)) all_searched (λ x y h. h.0.0.0) (λ x y h. h.0.1) (λ x y h. h.1.0) (λ x y h. h.1.1) r end honest run counts marks

    pub datagrams_are_sized : DatagramsAreSized r
    datagrams_are_sized = sized.datagrams_are_sized Streams (streams_spell Rest goes) all r end honest run

    pub probes_pass : ((side : Side) (i now : ℕ) (a : Answer) (v : View) (w next : World) → IsMade r i side (calls.Poll now) a w next → LeadsTo r (suc i) next → slice_get r.views i ≡ Some v → state_in v side ≡ states.Open
        → (end_at side w).closing.state ≡ states.Open → (with_shown (end_at side w) (shown_at side w)).path.blocked ≡ true → IsLimited r side (suc i) v) → ProbesPass r
    probes_pass limits = probes.probes_pass Streams (streams_spell Rest goes) all r end honest run limits
