-- Where an end rests, the resets of its streams, STOP_SENDING while it matters, the retirements of
-- its peer's ids, and the limits that it said have come: each waits, is under way or has come, and
-- nothing waits nor is under way.
use Rattle.std.proofs.Common.{◌≡◌, ℕ, ◌<◌, Bool, true, false, not, ◌&&◌, ◌||◌, List, Option, Some, None, refl, sym, ap, ◌∙◌, subst, ◌⊎◌, inl, inr, arith}
use Rattle.std.specs.Prelude.{length}
use Rattle.std.specs.Option.{is_some}
use Rattle.std.proofs.lemmas.Bool.{both_ways}
use Rattle.std.proofs.lemmas.Option.{same_Some}
use Rattle.quic_wire_core.specs.declared.stream_id.Side.{Side}
use Rattle.quic_wire_core.specs.StreamId.{other_side}
use Rattle.quic_wire.specs.Value.{FrameValue, reset_stream}
use Rattle.quic_streams_parts.specs.RecvHalf.{RecvHalf}
use Rattle.quic_streams_parts.specs.Table.{at}
use Rattle.quic_streams_halves.specs.Halves.{has_place, status_from}
use Rattle.quic_streams_state.specs.declared.state.StreamsState.{StreamsState}
use Rattle.quic_streams_state.specs.State.{is_opened, receives_on}
use Rattle.quic_streams_state.specs.Limits.{takes_limits_of}
use Rattle.quic_streams_laws.specs.Content.{AllReceiving}
use Rattle.quic_streams_laws.specs.Each.{HalfIs}
use Rattle.quic_streams_laws.specs.Written.{IsResetOf}
use Rattle.quic_machine.specs.Machine.{World}
use Rattle.quic_headline.specs.Runs.{Run, Packet, Intake, In, AreServed, written, reset, until, ResetHasArrived}
use Rattle.quic_headline.specs.Observer.{Sent, Watch, took, sents_until, watch}
use Rattle.quic_headline.specs.Headline.{IsHonest, IsRun}
use Rattle.quic_headline.specs.Amounts.{was_stopped}
use Rattle.quic_headline.specs.Unread.{stopped}
use Rattle.quic_headline.specs.Undone.{SizeHasCome}
use Rattle.quic_headline.specs.Allowed.{IsReadOff}
use Rattle.quic_headline.specs.Duties.{Limited, AllData, StreamData, StreamCount, limit_frame, WasGiven, Matters, LimitHasArrived, WasRetired}
use Rattle.quic_headline.specs.Rest.{Rests, HaveRoom, HasNothingLeft}
use Rattle.quic_headline.specs.ControlArrived.{ResetArrivedAs, ResetsAtRest, StopsAtRest, RetirementsAtRest, LimitsAtRest, StreamLimitsAtRest}
use Rattle.quic_headline.proofs.Packets.Group.{PacketsHold}
use Rattle.quic_headline.proofs.Packets.Invariant.{WasSent}
use Rattle.quic_headline.proofs.Places.Parties.{Party, came_to}
use Rattle.quic_headline.proofs.Places.Groups.{Way, Nothing, And, Group, both, beside}
use Rattle.quic_headline.proofs.Places.Placed.{party_at, Placed, placed, watch_is}
use Rattle.quic_headline.proofs.Places.Openings.{took_is, took_there}
use Rattle.quic_headline.proofs.Places.Everything as everything
use Rattle.quic_headline.proofs.Places.Theorems.{ready, tracks_in_flight}
use Rattle.quic_headline.proofs.Halves.Ready.{Ready}
use Rattle.quic_headline.proofs.Halves.Ghosts.{wrote, IsWriting}
use Rattle.quic_headline.proofs.Halves.Arrived.{Arrives}
use Rattle.quic_headline.proofs.Halves.Writer.{WritesHold, grows_behind}
use Rattle.quic_headline.proofs.Duties.Lasting.{WasUsed, Knows}
use Rattle.quic_headline.proofs.Duties.Ledger.{matters_still}
use Rattle.quic_headline.proofs.Duties.Halts.{IsHalted}
use Rattle.quic_headline.proofs.Duties.Listed.{RetireOf, retirement_has_come}
use Rattle.quic_headline.proofs.Duties.Group.{Flying}
use Rattle.quic_headline.proofs.NextIds.Used.{in_use_reaches}
use Rattle.quic_headline.proofs.Rest.Quiet.{rest_is_quiet}
use Rattle.quic_headline.proofs.Rest.SizesCame.{Sizes, SizesCame, sizes_came_group}
use Rattle.quic_headline.proofs.Unread.Walk.{Of, IsLast}
use Rattle.quic_headline.proofs.Unread.Resting.{AtRest, listed_came, reset_came, stop_came, limit_came}
use Rattle.quic_headline.proofs.Allowed.Halves.{Fits}
use Rattle.quic_headline.proofs.Allowed.Reads.{ReadsShut, reads_shut_group}

-- ---- all that holds

-- the packets, what was written, said and is under way
abbrev Base : Way
Base = And (And (And (everything.All Ready ready) Arrives) (everything.Said Ready ready)) Flying

abbrev N : Way
N = And Nothing Base

is_writing : IsWriting N
is_writing = record {
  packets = λ x y h. h.1.0.0.0.0.0;
  written = λ x y h. h.1.0.0.0.0.1.0.writes.keeps.holds;
  says = λ x y h. h.1.0.0.0.0.1.0.says;
  grows = λ x y call a c. grows_behind N (λ x y h. h.1.0.0.0.0.0) x y call a c c.gives.1.0.0.0.0.1.0;
}

-- what is known of the halves that receive: their sizes came, and those that are stopped were
abbrev Wide : Way
Wide = And SizesCame ReadsShut

wide : Group Nothing (And Base Wide)
wide = both Nothing Base Wide (everything.all_flying Ready ready) (beside N SizesCame ReadsShut (sizes_came_group N is_writing) (reads_shut_group N is_writing))

module _ (r : Run) (end : World) (honest : IsHonest r) (run : IsRun r end) (side : Side) (i : ℕ) (served : AreServed r i) (room : HaveRoom r.start) (rests : Rests r side i) where
  place : Placed (And Base Wide) r end side i
  place = placed (And Base Wide) wide r end honest run side i served

  abbrev x : Party
  x = party_at r i place.world side place.sents

  abbrev y : Party
  y = party_at r i place.world (other_side side) place.theirs

  abbrev came : List Packet
  came = (came_to y x).took

  left : HasNothingLeft x.end
  left = rest_is_quiet r end honest run side i place.world served room rests place.leads

  abbrev flying : List Sent
  flying = (watch r side i).flight.flying

  at_rest : AtRest x.end flying
  at_rest = record { nothing_waits = left.nothing_waits; nothing_asks = left.nothing_asks; waited = tracks_in_flight r end honest run i place.world served place.leads side left.is_open }

  packets : PacketsHold x y
  packets = place.gives.0.0.0.0.0.0

  writes : WritesHold x y
  writes = place.gives.0.0.0.0.0.1.0

  arrives : Arrives x y
  arrives = place.gives.0.0.0.1

  flies : Flying x y
  flies = place.gives.0.1

  sents_are : sents_until r side i ≡ x.sents
  sents_are = ap (λ (w : Watch). w.own) (watch_is r honest place.world i side place.sents place.theirs) ∙ place.gives.0.0.0.0.1.own

  -- what came to the peer
  came_is : took r (other_side side) i ≡ came
  came_is = ap (λ (k : Intake). k.took) (took_there r honest place.world i side place.sents place.theirs)

  -- a reset says how its stream was reset
  reset_arrived : (id code : ℕ) → reset id (until r side i) ≡ Some code → ResetArrivedAs (took r (other_side side) i) id code (length (written id (until r side i)))
  reset_arrived id code is = subst (λ (ps : List Packet). ResetArrivedAs ps id code (length (written id (until r side i)))) (sym came_is) (record {
    packet = there.packet;
    was_taken = there.was_taken;
    frame = there.frame;
    carried = there.carried;
    of_stream = there.of_stream;
    with_code = sym (same_Some code there.frame.code (sym is ∙ says.code));
    with_size = says.size;
  })
    where
      there : ResetHasArrived came id
      there = reset_came x y flying at_rest packets writes arrives flies id (ap is_some is)

      was : WasSent x.sents there.packet
      was = packets.taken there.packet there.was_taken

      says : IsResetOf (wrote x.told id) there.frame
      says = subst (λ (q : ℕ). IsResetOf (wrote x.told q) there.frame) there.of_stream (writes.says was.sent was.is.0 (reset_stream there.frame) (subst (λ (fs : List FrameValue). In (reset_stream there.frame) fs) (sym was.frames) there.carried))

  -- a retirement
  retired : (number : ℕ) → number < x.end.ids.peer.active → WasRetired (took r (other_side side) i) number
  retired number below = subst (λ (ps : List Packet). WasRetired ps number) (sym came_is) (retirement_has_come came number (listed_came x y flying at_rest packets writes arrives flies (RetireOf number) (flies.ids (RetireOf number) below)))

  -- a limit that matters
  limit_arrived : (what : Limited) (value : ℕ) → Matters x.end what → WasGiven (sents_until r side i) (limit_frame what value) → LimitHasArrived (took r (other_side side) i) what value
  limit_arrived what value matters said = subst (λ (ps : List Packet). LimitHasArrived ps what value) (sym came_is)
      (limit_came x y flying at_rest packets writes arrives flies what value (subst (λ (ss : List Sent). WasGiven ss (limit_frame what value)) sents_are said) matters (matters_still what x.end matters))

  -- ---- streams that it receives on

  abbrev s : StreamsState
  s = x.end.streams

  abbrev opened : ℕ → Bool
  opened id = receives_on s.side id && is_opened s id

  abbrev used : ℕ → Bool
  used id = has_place s.side s.receiving.halves.places id

  -- whether the final size of one came
  abbrev Sizeable : ℕ → Type 0
  Sizeable id = SizeHasCome (came_to x y).took id

  sizes : Of (Sizes Sizeable) s
  sizes = place.gives.1.0.sized left.is_open

  heard_is : took r side i ≡ (came_to x y).took
  heard_is = ap (λ (k : Intake). k.took) (took_is r honest place.world i side place.sents place.theirs)

  size_came : (id : ℕ) → Sizeable id → SizeHasCome (took r side i) id
  size_came id has = subst (λ (ps : List Packet). SizeHasCome ps id) (sym heard_is) has

  -- STOP_SENDING, where its final size didn't come
  stop_arrived : (id : ℕ) → stopped id (until r side i) ≡ true → (was_stopped id (took r (other_side side) i) ≡ true) ⊎ SizeHasCome (took r side i) id
  stop_arrived id halted = go (at s.receiving.halves.live id) (opened id) (used id) refl (flies.halts.halted.each id) (sizes.each id)
    where
      go : (o : Option RecvHalf) (m u : Bool) → at s.receiving.halves.live id ≡ o → IsHalted (stopped id x.told) (status_from o m u) → HalfIs (Unit {0}) (λ (h : RecvHalf). IsLast h → Sizeable id) (Sizeable id) o u
          → (was_stopped id (took r (other_side side) i) ≡ true) ⊎ SizeHasCome (took r side i) id
      go (Some h) m u found halts sized = by_size h.final refl
        where
          by_size : (o : Option ℕ) → h.final ≡ o → (was_stopped id (took r (other_side side) i) ≡ true) ⊎ SizeHasCome (took r side i) id
          by_size None none = inl (subst (λ (ps : List Packet). was_stopped id ps ≡ true) (sym came_is) (stop_came x y flying at_rest packets writes arrives flies id h found (halts halted) none))
          by_size (Some size) known = inr (size_came id (sized (inl (ap is_some known))))
      go None true true found halts sized = inr (size_came id sized)
      go None true false found halts sized = absurd (both_ways (stopped id x.told) halts halted)
      go None false u found halts sized = absurd (both_ways (stopped id x.told) halts halted)

  -- a limit on one, where its final size didn't come, nor was it stopped
  stream_limit_arrived : (id value : ℕ) → WasGiven (sents_until r side i) (limit_frame (StreamData id) value) → LimitHasArrived (took r (other_side side) i) (StreamData id) value ⊎ SizeHasCome (took r side i) id ⊎ (stopped id (until r side i) ≡ true)
  stream_limit_arrived id value said = go (at s.receiving.halves.live id) (opened id) (used id) refl (knows.each id refl) (sizes.each id) (place.gives.1.1.fits.each id)
    where
      knows : AllReceiving (Knows (StreamData id)) s
      knows = (flies.limits (StreamData id) value (subst (λ (ss : List Sent). WasGiven ss (limit_frame (StreamData id) value)) sents_are said)).knows

      go : (o : Option RecvHalf) (m u : Bool) → at s.receiving.halves.live id ≡ o → WasUsed (λ h. Unit {0}) (status_from o m u) → HalfIs (Unit {0}) (λ (h : RecvHalf). IsLast h → Sizeable id) (Sizeable id) o u → Fits (λ (q : ℕ). stopped q x.told ≡ true) (IsReadOff x.told) id o u
          → LimitHasArrived (took r (other_side side) i) (StreamData id) value ⊎ SizeHasCome (took r side i) id ⊎ (stopped id (until r side i) ≡ true)
      go (Some h) m u found was sized shut = by_half h.stopped (is_some h.final) refl refl
        where
          by_half : (halted known : Bool) → h.stopped ≡ halted → is_some h.final ≡ known → LimitHasArrived (took r (other_side side) i) (StreamData id) value ⊎ SizeHasCome (took r side i) id ⊎ (stopped id (until r side i) ≡ true)
          by_half true known stops is = inr (inr (shut stops))
          by_half false true stops is = inr (inl (size_came id (sized (inl is))))
          by_half false false stops is = inl (limit_arrived (StreamData id) value (ap (λ (o : Option RecvHalf). takes_limits_of o) found ∙ (ap (λ (b : Bool). not (b || is_some h.final)) stops ∙ ap (λ (b : Bool). not b) is)) said)
      go None true true found was sized shut = inr (inl (size_came id sized))
      go None true false found was sized shut = absurd was
      go None false u found was sized shut = absurd was

-- ---- the clauses

pub resets_at_rest : (r : Run) (end : World) → IsHonest r → IsRun r end → ResetsAtRest r
resets_at_rest r end honest run side i id code served room rests is = reset_arrived r end honest run side i served room rests id code is

pub retirements_at_rest : (r : Run) (end : World) → IsHonest r → IsRun r end → RetirementsAtRest r
retirements_at_rest r end honest run side stays i number kept served room rests below =
    let at = place r end honest run side i served room rests in
    let reached = in_use_reaches r end honest run side stays kept i at.world served at.leads in
    retired r end honest run side i served room rests number (omega (arith, below, reached))

pub limits_at_rest : (r : Run) (end : World) → IsHonest r → IsRun r end → LimitsAtRest r
limits_at_rest r end honest run side i value served room rests = (
  λ said. limit_arrived r end honest run side i served room rests AllData value tt said,
  λ dir said. limit_arrived r end honest run side i served room rests (StreamCount dir) value tt said,
)

pub stops_at_rest : (r : Run) (end : World) → IsHonest r → IsRun r end → StopsAtRest r
stops_at_rest r end honest run side i id served room rests halted = stop_arrived r end honest run side i served room rests id halted

pub stream_limits_at_rest : (r : Run) (end : World) → IsHonest r → IsRun r end → StreamLimitsAtRest r
stream_limits_at_rest r end honest run side i id value served room rests said = stream_limit_arrived r end honest run side i served room rests id value said
