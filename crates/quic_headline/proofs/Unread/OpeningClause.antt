-- So it is at each place of an honest run where both ends rest: no stream can be opened only for
-- streams that the peer isn't done with.
use Rattle.std.proofs.Common.{◌≡◌, ℕ, ◌+◌, ◌^◌, ◌≤◌, min, Bool, true, false, List, Option, Some, None, refl, sym, ap, ◌∙◌, subst, arith}
use Rattle.std.specs.Prelude.{nat_lt, not, ◌&&◌, ◌||◌, if◌then◌else◌}
use Rattle.std.proofs.lemmas.Bool.{false_from_ne_true, ltb-false}
use Rattle.quic_wire_core.specs.declared.stream_id.Side.{Side}
use Rattle.quic_wire_core.specs.declared.stream_id.Side.TheVariants.{Client, Server}
use Rattle.quic_wire_core.specs.declared.stream_id.Dir.{Dir}
use Rattle.quic_wire_core.specs.declared.stream_id.Dir.TheVariants.{Bi, Uni}
use Rattle.quic_wire_core.specs.StreamId.{stream_id, other_side, dir_of}
use Rattle.quic_config.specs.Transport.{Settings, parameters_of}
use Rattle.quic_streams_parts.specs.Dirs.{of, more, is_two_way}
use Rattle.quic_streams_parts.specs.SendHalf.{SendHalf}
use Rattle.quic_streams_halves.specs.Halves.{has_place, no_places, no_halves, idle_status}
use Rattle.quic_streams_state.specs.State.{Opening, new_streams, receives_on, is_opened}
use Rattle.quic_streams_state.specs.Opening.{open_answer}
use Rattle.quic_streams_laws.specs.Shape.{IsShaped}
use Rattle.quic_streams_laws.specs.StartLaws.{shape_new, shape_set_params, nowhere}
use Rattle.quic_streams_laws.specs.Summed.{sum_below}
use Rattle.quic_machine.specs.declared.answers.State.{State}
use Rattle.quic_machine.specs.declared.run.Call.TheVariants as calls
use Rattle.quic_machine.specs.declared.run.Answer.TheVariants as answers
use Rattle.quic_machine.specs.Calls.{is_open}
use Rattle.quic_machine.specs.End.{End}
use Rattle.quic_machine.specs.Start.{AreStarted}
use Rattle.quic_machine.specs.Machine.{World, end_at}
use Rattle.quic_headline.specs.Runs.{Run, Packet, Intake, until}
use Rattle.quic_headline.specs.Observer.{took, watch}
use Rattle.quic_headline.specs.Headline.{IsHonest, IsRun}
use Rattle.quic_headline.specs.Amounts.{making_at}
use Rattle.quic_headline.specs.Rest.{HasNothingLeft}
use Rattle.quic_headline.specs.Unread.{least_left}
use Rattle.quic_headline.specs.Undone.{HasUndone, streams_let, NoneOpenedOnlyForUndone}
use Rattle.quic_headline.proofs.Packets.Group.{PacketsHold}
use Rattle.quic_headline.proofs.Packets.Sight.{Sight}
use Rattle.quic_headline.proofs.Places.Parties.{Party, came_to, Beginning, begun_as}
use Rattle.quic_headline.proofs.Places.Groups.{Way, Nothing, And, Group, both, beside}
use Rattle.quic_headline.proofs.Places.Placed.{party_at, Placed, placed, answered, start_is}
use Rattle.quic_headline.proofs.Places.Openings.{took_there}
use Rattle.quic_headline.proofs.Places.Everything as everything
use Rattle.quic_headline.proofs.Places.Theorems.{ready, tracks_in_flight}
use Rattle.quic_headline.proofs.Channel.Sums.{sum_none}
use Rattle.quic_headline.proofs.Halves.Ready.{Ready}
use Rattle.quic_headline.proofs.Halves.Arrived.{Arrives, spoken}
use Rattle.quic_headline.proofs.Halves.Ghosts.{IsWriting}
use Rattle.quic_headline.proofs.Halves.Writer.{WritesHold, grows_behind}
use Rattle.quic_headline.proofs.Duties.Group.{Flying}
use Rattle.quic_headline.proofs.Settled.Group.{Settled, settled_group}
use Rattle.quic_headline.proofs.Grown.Clause.{GrownWait, grown_group}
use Rattle.quic_headline.proofs.Rest.Quiet.{rest_is_quiet}
use Rattle.quic_headline.proofs.Unread.Newest.{NewestSaid, newest_group}
use Rattle.quic_headline.proofs.Unread.Resting.{AtRest}
use Rattle.quic_headline.proofs.Unread.OpeningPlaces.{as_one}
use Rattle.quic_headline.proofs.Unread.OpeningDone.{over_at, done_from, AreDoneCounted, done_counted}
use Rattle.quic_headline.proofs.Unread.OpeningLasts.{lasts_any, Always, always_group, AreLeft, left_group}
use Rattle.quic_headline.proofs.Unread.OpeningStatus.{IsResetKnown, ResetsAreKnown, IsUnsized, StoppedAreUnsized, unsized_lasts, MayOpen, may_lasts, Leaving, leaves}
use Rattle.quic_headline.proofs.Unread.OpeningRead.{Heard, heard_group}
use Rattle.quic_headline.proofs.Unread.OpeningIds.{OpensAre, opens_are_group}
use Rattle.quic_headline.proofs.Unread.OpeningResets.{Resetting, resetting_group}
use Rattle.quic_headline.proofs.Unread.OpeningRest.{BothRest, none_opened}

-- ---- all that holds

-- the packets, what was written, said and is under way
abbrev Base : Way
Base = And (And (And (everything.All Ready ready) Arrives) (everything.Said Ready ready)) Flying

packets_of : (x y : Party) → Base x y → PacketsHold x y
packets_of x y h = h.0.0.0.0.0

writes_of : (x y : Party) → Base x y → WritesHold x y
writes_of x y h = h.0.0.0.0.1.0

ready_of : (x y : Party) → Base x y → Ready x y
ready_of x y h = h.0.0.0.0.1.1.1

sight_of : (x y : Party) → Base x y → Sight x y
sight_of x y h = h.0.0.0.1

abbrev N : Way
N = And Nothing Base

is_writing : IsWriting N
is_writing = record {
  packets = λ x y h. packets_of x y h.1;
  written = λ x y h. (writes_of x y h.1).writes.keeps.holds;
  says = λ x y h. (writes_of x y h.1).says;
  grows = λ x y call a c. grows_behind N (λ x y h. packets_of x y h.1) x y call a c (writes_of x y c.gives.1);
}

-- the streams that are done are counted; those that were stopped know no size; and as many may be
-- opened as at first
abbrev Counted : Way
Counted = Always (λ made s. AreDoneCounted s)

abbrev Unsized : Way
Unsized = Always (λ made s. StoppedAreUnsized s)

abbrev Allowed : Dir → Way
Allowed dir = Always (λ made s. MayOpen dir (of dir made.opening.own_limit) s)

-- what frames that were taken left
abbrev Left : Way
Left = AreLeft ResetsAreKnown Leaving

abbrev Wide : Way
Wide = And GrownWait (And NewestSaid (And Settled (And Heard (And OpensAre (And Resetting (And Left (And Counted (And Unsized (And (Allowed Bi) (Allowed Uni))))))))))

-- ---- the start

shaped : (x y : Beginning) → IsShaped (begun_as x y).end.streams
shaped x y =
    let s : Settings = x.making.settings in
    shape_set_params (new_streams x.side s.max_uni s.max_bidi s.send_window s.receive_window s.stream_receive_window) (parameters_of y.making.settings) (shape_new x.side s.max_uni s.max_bidi s.send_window s.receive_window s.stream_receive_window)

counted_first : (x y : Beginning) → AreDoneCounted (begun_as x y).end.streams
counted_first x y = record { shape = shaped x y; counted = λ dir n le. none dir n }
  where
    not_done : (id : ℕ) → as_one (done_from x.side no_halves no_halves id) ≡ 0
    not_done id = ap (λ (b : Bool). as_one (b && (not (is_two_way (dir_of id)) || over_at {A = SendHalf} x.side no_halves id))) (false_from_ne_true (has_place x.side no_places id) (nowhere x.side id))

    none : (dir : Dir) (n : ℕ) → sum_below n (λ j. as_one (done_from x.side no_halves no_halves (stream_id (other_side x.side) dir j))) ≤ of dir (begun_as x y).end.streams.opening.done
    none dir n = (let zero = sum_none n (λ j. as_one (done_from x.side no_halves no_halves (stream_id (other_side x.side) dir j))) (λ j below. not_done (stream_id (other_side x.side) dir j)) in omega arith)

unsized_first : (x y : Beginning) → StoppedAreUnsized (begun_as x y).end.streams
unsized_first x y = record { shape = shaped x y; each = λ id. go id (receives_on x.side id && is_opened (begun_as x y).end.streams id) (has_place x.side no_places id) }
  where
    go : (id : ℕ) (opened used : Bool) → IsUnsized id (idle_status opened used)
    go id false used = tt
    go id true false = tt
    go id true true = tt

known_first : (x y : Beginning) → ResetsAreKnown (begun_as x y).end.streams
known_first x y = record { shape = shaped x y; each = λ id. go id (receives_on x.side id && is_opened (begun_as x y).end.streams id) (has_place x.side no_places id) }
  where
    go : (id : ℕ) (opened used : Bool) → IsResetKnown id (idle_status opened used)
    go id false used = tt
    go id true false = tt
    go id true true = tt

-- ---- the groups

allowed_group : (dir : Dir) → Group N (Allowed dir)
allowed_group dir = always_group (λ made s. MayOpen dir (of dir made.opening.own_limit) s) (λ made. may_lasts dir (of dir made.opening.own_limit)) (λ x y. omega arith) N is_writing

wide : Group Nothing (And Base Wide)
wide = both Nothing Base Wide (everything.all_flying Ready ready)
    (beside N GrownWait (And NewestSaid (And Settled (And Heard (And OpensAre (And Resetting (And Left (And Counted (And Unsized (And (Allowed Bi) (Allowed Uni)))))))))) (grown_group N is_writing)
    (beside N NewestSaid (And Settled (And Heard (And OpensAre (And Resetting (And Left (And Counted (And Unsized (And (Allowed Bi) (Allowed Uni))))))))) (newest_group N is_writing)
    (beside N Settled (And Heard (And OpensAre (And Resetting (And Left (And Counted (And Unsized (And (Allowed Bi) (Allowed Uni)))))))) (settled_group N (record {
      spoken = spoken N (λ x y h. packets_of x y h.1) (λ x y h. (writes_of x y h.1).says) (λ x y h. (writes_of x y h.1).writes);
      sight = λ x y h. sight_of x y h.1;
    }))
    (beside N Heard (And OpensAre (And Resetting (And Left (And Counted (And Unsized (And (Allowed Bi) (Allowed Uni))))))) (heard_group N is_writing)
    (beside N OpensAre (And Resetting (And Left (And Counted (And Unsized (And (Allowed Bi) (Allowed Uni)))))) (opens_are_group N is_writing)
    (beside N Resetting (And Left (And Counted (And Unsized (And (Allowed Bi) (Allowed Uni))))) (resetting_group N (record {
      writing = is_writing;
      ready = λ x y h. ready.probes x y (packets_of x y h.1) (ready_of x y h.1);
      holds = λ x y h. (ready_of x y h.1).all;
      asked = λ x y h. h.1.1.asked;
    }))
    (beside N Left (And Counted (And Unsized (And (Allowed Bi) (Allowed Uni)))) (left_group ResetsAreKnown Leaving leaves known_first N is_writing)
    (beside N Counted (And Unsized (And (Allowed Bi) (Allowed Uni))) (always_group (λ made s. AreDoneCounted s) (λ made. lasts_any AreDoneCounted (λ s dir may. tt) done_counted) counted_first N is_writing)
    (beside N Unsized (And (Allowed Bi) (Allowed Uni)) (always_group (λ made s. StoppedAreUnsized s) (λ made. unsized_lasts) unsized_first N is_writing)
    (beside N (Allowed Bi) (Allowed Uni) (allowed_group Bi) (allowed_group Uni)))))))))))

-- ---- how ends were made

-- an end lets its peer have so many streams open
configured_is : (side : Side) (r : Run) (s : AreStarted r.start) (dir : Dir) → of dir (end_at side r.start).streams.opening.configured ≡ streams_let r s side dir
configured_is side r s dir = ap (λ (e : End). of dir e.streams.opening.configured) (start_is r.start s side) ∙ go dir
  where
    m : Settings
    m = (making_at side r.start s).settings

    go : (dir : Dir) → of dir (record { bi = min m.max_bidi (2 ^ 60); uni = min m.max_uni (2 ^ 60) }) ≡ streams_let r s side dir
    go Bi = refl
    go Uni = refl

-- and the other may open as many at least
made_so : (side : Side) (r : Run) (s : AreStarted r.start) (dir : Dir) → of dir (end_at (other_side side) r.start).streams.opening.configured ≤ of dir (end_at side r.start).streams.opening.own_limit
made_so side r s dir =
    let let_be : of dir (end_at (other_side side) r.start).streams.opening.configured ≡ streams_let r s (other_side side) dir = configured_is (other_side side) r s dir in
    let known : of dir (end_at side r.start).streams.opening.own_limit ≡ of dir (record { bi = m.max_bidi; uni = m.max_uni }) = ap (λ (e : End). of dir e.streams.opening.own_limit) (start_is r.start s side) in
    let less = go dir in
    omega arith
  where
    m : Settings
    m = (making_at (other_side side) r.start s).settings

    go : (dir : Dir) → streams_let r s (other_side side) dir ≤ of dir (record { bi = m.max_bidi; uni = m.max_uni })
    go Bi = omega arith
    go Uni = omega arith

-- ---- the clause

module _ (r : Run) (end : World) (honest : IsHonest r) (run : IsRun r end) where
  pub none_opened_only_for_undone : NoneOpenedOnlyForUndone r
  none_opened_only_for_undone s side i dir served room some few rests peer_rests event = found
    where
      other : Side
      other = other_side side

      p : Placed (And Base Wide) r end side i
      p = placed (And Base Wide) wide r end honest run side i served

      x : Party
      x = party_at r i p.world side p.sents

      y : Party
      y = party_at r i p.world other p.theirs

      left : HasNothingLeft x.end
      left = rest_is_quiet r end honest run side i p.world served room rests p.leads

      peer_left : HasNothingLeft y.end
      peer_left = rest_is_quiet r end honest run other i p.world served room peer_rests p.leads

      peer_at_rest : AtRest y.end (watch r other i).flight.flying
      peer_at_rest = record { nothing_waits = peer_left.nothing_waits; nothing_asks = peer_left.nothing_asks; waited = tracks_in_flight r end honest run i p.world served p.leads other peer_left.is_open }

      theirs_are : took r other i ≡ (came_to y x).took
      theirs_are = ap (λ (k : Intake). k.took) (took_there r honest p.world i side p.sents p.theirs)

      back : (t : Side) → other_side (other_side t) ≡ t
      back Client = refl
      back Server = refl

      gives : Wide x y
      gives = p.gives.1

      takes : Wide y x
      takes = p.takes.1

      at_first : (d : Dir) → of d x.made.streams.opening.own_limit ≤ of d x.end.streams.opening.own_limit
      at_first Bi = gives.1.1.1.1.1.1.1.1.1.0.holds
      at_first Uni = gives.1.1.1.1.1.1.1.1.1.1.holds

      both_rest : BothRest x y
      both_rest = record {
        theirs = (watch r other i).flight.flying;
        peer_rests = peer_at_rest;
        packets = packets_of y x p.takes.0;
        writes = writes_of y x p.takes.0;
        arrives = p.takes.0.0.0.1;
        flies = p.takes.0.1;
        grown = takes.0;
        newest = takes.1.0;
        told_counts = gives.1.1.1.1.1.1.0;
        sizes = takes.1.1.1.1.1.1.0;
        heard = takes.1.1.1.0;
        halts = p.takes.0.1.halts;
        unsized = takes.1.1.1.1.1.1.1.1.0.holds;
        settled = takes.1.1.0;
        resetting = takes.1.1.1.1.1.0;
        counted = takes.1.1.1.1.1.1.1.0.holds;
        opened = gives.1.1.1.1.0;
        first = at_first;
        made = made_so side r s;
        sides = ap other_side takes.1.1.1.1.0.side ∙ back side;
      }

      let_be : of dir y.made.streams.opening.configured ≡ streams_let r s other dir
      let_be = configured_is other r s dir

      -- no more may be opened
      full : of dir x.end.streams.opening.own_limit ≤ of dir x.end.streams.opening.own
      full = go (nat_lt (of dir x.end.streams.opening.own) (of dir x.end.streams.opening.own_limit)) refl none
        where
          none : answers.Open None ≡ answers.Open (open_answer true dir x.end.streams)
          none = answered r p.world end i side (calls.Open dir) (answers.Open None) p.goes_on event ∙ ap (λ (st : State). answers.Open (open_answer (is_open st) dir x.end.streams)) left.is_open

          next : Bool → Option ℕ × Opening
          next b = if b then (Some (stream_id x.end.streams.side dir (of dir x.end.streams.opening.own)), record x.end.streams.opening { own = more dir x.end.streams.opening.own; sending = x.end.streams.opening.sending + 1 }) else (None, x.end.streams.opening)

          go : (b : Bool) → nat_lt (of dir x.end.streams.opening.own) (of dir x.end.streams.opening.own_limit) ≡ b → answers.Open None ≡ answers.Open (next b).0 → of dir x.end.streams.opening.own_limit ≤ of dir x.end.streams.opening.own
          go true is e = cc
          go false is e = ltb-false (of dir x.end.streams.opening.own) (of dir x.end.streams.opening.own_limit) is

      bounded : streams_let r s other dir ≤ 2 ^ 60
      bounded = go dir
        where
          go : (d : Dir) → streams_let r s other d ≤ 2 ^ 60
          go Bi = omega arith
          go Uni = omega arith

      found : HasUndone (until r side i) (took r other i) (until r other i) dir (least_left (streams_let r s other dir))
      found =
          let less = bounded in
          let is = let_be in
          let all = none_opened x y both_rest dir full (omega arith) (omega arith) few in
          subst (λ (ps : List Packet). HasUndone (until r side i) ps (until r other i) dir (least_left (streams_let r s other dir))) (sym theirs_are)
          (subst (λ (n : ℕ). HasUndone (until r side i) (came_to y x).took (until r other i) dir (least_left n)) let_be all)
