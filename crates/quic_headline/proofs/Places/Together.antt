-- The groups of a run put together: over one of streams, the packets, what observers know of them,
-- and the timers; and the clauses that these give.
use Rattle.std.proofs.Common.{ℕ}
use Rattle.quic_wire_core.specs.declared.stream_id.Side.{Side}
use Rattle.quic_streams_state.specs.State.{Streams}
use Rattle.quic_machine.specs.Machine.{World}
use Rattle.quic_machine.specs.End.{streams_at}
use Rattle.quic_machine.specs.PollCases.{ready_at}
use Rattle.quic_headline.specs.Runs.{Run, AreServed}
use Rattle.quic_headline.specs.InFlight.{TracksInFlight}
use Rattle.quic_headline.specs.Messages.{MessagesAtMostOnce}
use Rattle.quic_headline.specs.Headline.{IsHonest, IsRun, AcknowledgedWereTaken, NamesWereTaken, OpensExactly, NewestOpens, NumbersRise}
use Rattle.quic_headline.specs.Causes.{KeysLast}
use Rattle.quic_headline.specs.ConnectionIds.{IdsAreIssued, UnknownOnlyWhereRetired, ToldIdsAreKnown, NewestOpensAtEnd}
use Rattle.quic_headline.specs.Moments.{LossMoments, LossTimerQuiet, AckMoments}
use Rattle.quic_headline.proofs.Packets.Composed.{Spelling}
use Rattle.quic_headline.proofs.Packets.Going.{Bringing, spellable_next}
use Rattle.quic_headline.proofs.Packets.Group.{PacketsHold, has_room, SpellsNext, packets_group}
use Rattle.quic_headline.proofs.Packets.Sight.{Sight, sight_group}
use Rattle.quic_headline.proofs.Packets.Referring.{Refers, refers_group}
use Rattle.quic_headline.proofs.Places.Parties.{Party, AreJoined}
use Rattle.quic_headline.proofs.Places.Groups.{Way, Nothing, And, Group, both, over, knot}
use Rattle.quic_headline.proofs.Places.Placed.{Placed, placed, placed_less}
use Rattle.quic_headline.proofs.Places.Openings.{acknowledged_were_taken, names_were_taken}
use Rattle.quic_headline.proofs.Moves.Foreign.{opens_exactly}
use Rattle.quic_headline.proofs.Places.Flights.{numbers_rise, tracks_in_flight}
use Rattle.quic_headline.proofs.Places.Newest.{newest_opens}
use Rattle.quic_headline.proofs.Causes.Sealed.{Seals, seals_group, keys_last}
use Rattle.quic_headline.proofs.Destined.Own.{KnowsOwn, own_group}
use Rattle.quic_headline.proofs.Destined.Issued.{Addresses, addresses_group, ids_are_issued}
use Rattle.quic_headline.proofs.Destined.Known.{unknown_only_where_retired, told_ids_are_known, newest_opens_at_end}
use Rattle.quic_headline.proofs.Timers.Watched.{Observed}
use Rattle.quic_headline.proofs.Timers.LossMoments.{loss_moments}
use Rattle.quic_headline.proofs.Timers.FirstDue.{Indebted, debt_group, ack_moments}
use Rattle.quic_headline.proofs.Timers.Quiet.{Unnamed, quiet_group, loss_timer_quiet}
use Rattle.quic_headline.proofs.Messages.Group.{AtMostOnce, messages_group}
use Rattle.quic_headline.proofs.Messages.Clause.{messages_at_most_once}

-- streams of which K is known spell what an end composes
pub record Spells (H : Way) : Type 1 where
  pub known : Streams → Type 0
  pub spelling : Spelling known
  pub bringing : Bringing known
  -- also where something waits for each probe
  pub holds : (x y : Party) → PacketsHold x y → H x y → (now : ℕ) → known (streams_at (ready_at x.end now).end)

module _ (H : Way) (s : Spells H) where
  -- what goes of an end next has a form
  spells : (x y : Party) → AreJoined x y → And Nothing H x y → And Nothing H y x → PacketsHold x y → PacketsHold y x → SpellsNext x.end
  spells x y joined there back p q = spellable_next s.known s.spelling s.bringing x.end q.acks (has_room x y p) (s.holds x y p there.1)

  module _ (streams : Group PacketsHold H) where
    -- the packets and the streams
    pub core : Group Nothing (And PacketsHold H)
    core = knot Nothing PacketsHold H (packets_group (And Nothing H) spells) (over PacketsHold (And Nothing PacketsHold) H (λ x y h. h.1) streams)

    -- and what observers know
    pub sighted : Group Nothing (And (And PacketsHold H) Sight)
    sighted = both Nothing (And PacketsHold H) Sight core (over PacketsHold (And Nothing (And PacketsHold H)) Sight (λ x y h. h.1.0) sight_group)

    -- what is observed of it
    observed : (x y : Party) → And (And PacketsHold H) Sight x y → Observed x y
    observed x y h = (h.0.0, h.1)

    module _ (r : Run) (end : World) (honest : IsHonest r) (run : IsRun r end) where
      -- at each place
      pub at_place : (side : Side) (i : ℕ) → AreServed r i → Placed (And (And PacketsHold H) Sight) r end side i
      at_place = placed (And (And PacketsHold H) Sight) sighted r end honest run

      -- the packets and what observers know
      pub observed_place : (side : Side) (i : ℕ) → AreServed r i → Placed Observed r end side i
      observed_place side i served = placed_less (And (And PacketsHold H) Sight) Observed r end side i observed (at_place side i served)

      packets_place : (side : Side) (i : ℕ) → AreServed r i → Placed PacketsHold r end side i
      packets_place side i served = placed_less Observed PacketsHold r end side i (λ x y h. h.0) (observed_place side i served)

      sight_place : (side : Side) (i : ℕ) → AreServed r i → Placed Sight r end side i
      sight_place side i served = placed_less Observed Sight r end side i (λ x y h. h.1) (observed_place side i served)

      -- a group over what is observed, at each place
      pub observed_at : (G : Way) → Group Observed G → (side : Side) (i : ℕ) → AreServed r i → Placed (And Observed G) r end side i
      observed_at G g side i served =
          let more : Way = And (And (And PacketsHold H) Sight) G in
          let all : Group Nothing more = both Nothing (And (And PacketsHold H) Sight) G sighted (over Observed (And Nothing (And (And PacketsHold H) Sight)) G (λ x y h. observed x y h.1) g) in
          placed_less more (And Observed G) r end side i (λ x y h. (observed x y h.0, h.1)) (placed more all r end honest run side i served)

      pub all_acknowledged : AcknowledgedWereTaken r
      all_acknowledged = acknowledged_were_taken r end honest packets_place

      pub all_named : NamesWereTaken r
      all_named = names_were_taken r end honest packets_place

      pub all_open : OpensExactly r
      all_open = opens_exactly r end honest observed_place

      pub all_newest : NewestOpens r
      all_newest = newest_opens r end honest (observed_at Refers (over PacketsHold Observed Refers (λ x y h. h.0) refers_group))

      pub all_last : KeysLast r
      all_last = keys_last r end honest (observed_at Seals (over PacketsHold Observed Seals (λ x y h. h.0) seals_group))

      own_place : (side : Side) (i : ℕ) → AreServed r i → Placed (And Observed KnowsOwn) r end side i
      own_place = observed_at KnowsOwn (over PacketsHold Observed KnowsOwn (λ x y h. h.0) own_group)

      pub all_unknown : UnknownOnlyWhereRetired r
      all_unknown = unknown_only_where_retired r end honest own_place

      pub all_told : ToldIdsAreKnown r
      all_told = told_ids_are_known r end honest own_place

      pub all_newest_at_end : NewestOpensAtEnd r
      all_newest_at_end = newest_opens_at_end r end honest own_place all_newest

      pub all_issued : IdsAreIssued r
      all_issued = ids_are_issued r end honest (observed_at Addresses (over PacketsHold Observed Addresses (λ x y h. h.0) addresses_group))

      pub all_rise : NumbersRise r
      all_rise = numbers_rise r end honest observed_place

      pub all_tracked : TracksInFlight r
      all_tracked = tracks_in_flight r end honest sight_place

      pub all_paced : LossMoments r
      all_paced = loss_moments r end honest sight_place

      pub all_quiet : LossTimerQuiet r
      all_quiet = loss_timer_quiet r end honest (observed_at Unnamed quiet_group)

      pub all_due : AckMoments r
      all_due = ack_moments r end honest (observed_at Indebted debt_group)

      pub all_messages : MessagesAtMostOnce r
      all_messages = messages_at_most_once Observed r end (observed_at AtMostOnce (over PacketsHold Observed AtMostOnce (λ x y h. h.0) messages_group))
