-- Where both ends rest, and one can open no stream, so many of those that it opened aren't done at
-- the other: a stream that by the lists is done there, is done and counted.
use Rattle.std.proofs.Common.{◌≡◌, ℕ, ◌+◌, ◌^◌, ◌<◌, ◌≤◌, Bool, true, false, not, ◌&&◌, ◌||◌, List, [], length, Option, Some, None, refl, sym, ap, ◌∙◌, subst, ◌⊎◌, inl, inr, arith}
use Rattle.std.specs.Option.{IsSome, is_some, is_none, option_map}
use Rattle.std.proofs.lemmas.Bool.{cases_lt, both_ways, and_from, or_right, or_from, not_from_false, le-leb, eq-eqb}
use Rattle.quic_wire_core.specs.declared.stream_id.Side.{Side}
use Rattle.quic_wire_core.specs.declared.stream_id.Dir.{Dir}
use Rattle.quic_wire_core.specs.declared.stream_id.Dir.TheVariants.{Bi, Uni}
use Rattle.quic_wire_core.specs.StreamId.{stream_id, other_side, dir_of, index_of}
use Rattle.quic_wire_core.specs.StreamIdLaw.{index_of_stream_id}
use Rattle.quic_wire.specs.Value.{stream, reset_stream, max_streams}
use Rattle.quic_wire.specs.FrameView.{is_one_way}
use Rattle.quic_send_buffer.specs.Buffered.{is_fully_acked, first_unacknowledged, has_unsent}
use Rattle.quic_send_buffer.specs.Buffered as buffers
use Rattle.quic_sets.proofs.Offsets.Edits.{has_is, first_lacks, first_by}
use Rattle.quic_streams_parts.specs.Table.{at}
use Rattle.quic_streams_parts.specs.Dirs.{of, is_two_way}
use Rattle.quic_streams_parts.specs.SendHalf.{SendHalf, is_acked}
use Rattle.quic_streams_parts.specs.RecvHalf.{RecvHalf, least_growth}
use Rattle.quic_streams_halves.specs.Halves.{has_place, status_from}
use Rattle.quic_streams_state.specs.declared.state.StreamsState.{StreamsState}
use Rattle.quic_streams_state.specs.State.{is_opened, sends_on, receives_on}
use Rattle.quic_streams_state.specs.Limits.{most_streams, raised_count}
use Rattle.quic_streams_laws.specs.Each.{HalfIs}
use Rattle.quic_streams_laws.specs.KeepingLaws.{live_sends}
use Rattle.quic_streams_laws.specs.Summed.{sum_below}
use Rattle.quic_streams_laws.specs.Written.{Wrote, nothing_done, IsSendHalf, IsSendStatus, HoldsWritten}
use Rattle.quic_streams_laws.specs.WrittenLaws.{half_holds}
use Rattle.quic_machine.specs.Tracking.{TrackedPacket, dir_named}
use Rattle.quic_headline.specs.Runs.{Packet, In, ended, reset, EndHasArrived}
use Rattle.quic_headline.specs.Observer.{Sent}
use Rattle.quic_headline.specs.Duties.{StreamCount, Fin, WasGiven, StandsIn, IsCarried, LimitHasArrived}
use Rattle.quic_headline.specs.Grown.{HasGrown}
use Rattle.quic_headline.specs.Unread.{stopped, least_left}
use Rattle.quic_headline.specs.Undone.{opens, SizeHasCome, IsReceived, IsSentOff, IsDone, HasUndone}
use Rattle.quic_headline.proofs.Packets.Group.{PacketsHold}
use Rattle.quic_headline.proofs.Places.Parties.{Party, came_to}
use Rattle.quic_headline.proofs.Halves.Ghosts.{wrote}
use Rattle.quic_headline.proofs.Halves.Arrived.{Arrives}
use Rattle.quic_headline.proofs.Halves.Writer.{WritesHold}
use Rattle.quic_headline.proofs.Duties.Flies.{FliesIn}
use Rattle.quic_headline.proofs.Duties.UnderWay.{InPackets}
use Rattle.quic_headline.proofs.Duties.Group.{Flying}
use Rattle.quic_headline.proofs.Duties.Ledger.{pending_queued, half_queued, listed_queued}
use Rattle.quic_headline.proofs.Duties.Carrier.{any_member}
use Rattle.quic_headline.proofs.Duties.Listed.{ResetOf, HasIt, ListedStands}
use Rattle.quic_headline.proofs.Settled.Half.{nothing_known, UnusedSettles, HalfSettles, DoneSettles, Tells}
use Rattle.quic_headline.proofs.Settled.Acked.{telling}
use Rattle.quic_headline.proofs.Settled.Words.{is_reset}
use Rattle.quic_headline.proofs.Settled.Group.{Settled, told_so}
use Rattle.quic_headline.proofs.Grown.Clause.{GrownWait}
use Rattle.quic_headline.proofs.Unread.Newest.{NewestSaid, IsNewest}
use Rattle.quic_headline.proofs.Duties.Halts.{IsHalted, Halts}
use Rattle.quic_headline.proofs.Unread.Resting.{AtRest, silent_packet, no_listed, waits_not, no_limit_waits, offset_acked, limit_came}
use Rattle.quic_headline.proofs.Unread.OpeningPlaces.{as_one, Others, IsOther, others, many_undone}
use Rattle.quic_headline.proofs.Unread.OpeningDone.{is_over, over_at, done_at, AreDoneCounted}
use Rattle.quic_headline.proofs.Unread.OpeningLasts.{AreLeft}
use Rattle.quic_headline.proofs.Unread.OpeningStatus.{IsDoneStatus, IsKnownStatus, SizeIsKnown, ResetsAreKnown, IsUnsized, StoppedAreUnsized, MayOpen, KnownIf, Leaving}
use Rattle.quic_headline.proofs.Unread.OpeningRead.{HasHeard, Heard}
use Rattle.quic_headline.proofs.Unread.OpeningIds.{OpensAre}
use Rattle.quic_headline.proofs.Unread.OpeningResets.{SendsNoMore, Resetting}

-- ---- a half that receives

-- what is over, by how far it has come
received_over : (o : Option RecvHalf) (opened used : Bool) → IsDoneStatus (status_from o opened used) → is_over o used ≡ true
received_over (Some h) opened used i = absurd i
received_over None true true i = refl
received_over None true false i = absurd i
received_over None false used i = absurd i

module _ (y x : Party) (heard : Heard y x) (halts : Halts y x) (unsized : StoppedAreUnsized y.end.streams) (taken : AreLeft ResetsAreKnown Leaving y x) where
  abbrev s : StreamsState
  s = y.end.streams

  abbrev took : List Packet
  took = (came_to y x).took

  heard_over : (id : ℕ) → HasHeard y.told id → over_at s.side s.receiving.halves id ≡ true
  heard_over id h = received_over (at s.receiving.halves.live id) (receives_on s.side id && is_opened s id) (has_place s.side s.receiving.halves.places id) ((heard.each id h).each id refl)

  -- a frame that told the size of a stream was taken
  size_known : (id : ℕ) → SizeHasCome took id → SizeIsKnown id s
  size_known id (inl came) =
      let end : EndHasArrived took id came.0 = came.1 in
      let left : KnownIf end.frame.fin end.frame.id s = taken.each (stream end.frame) (record { packet = end.taken.packet; was_taken = end.taken.was_taken; carried = end.taken.carried }) in
      subst (λ (q : ℕ). SizeIsKnown q s) end.of_stream (subst (λ (b : Bool). KnownIf b end.frame.id s) end.fin left)
  size_known id (inr came) =
      let left : SizeIsKnown came.frame.id s = taken.each (reset_stream came.frame) (record { packet = came.packet; was_taken = came.was_taken; carried = came.carried }) in
      subst (λ (q : ℕ). SizeIsKnown q s) came.of_stream left

  -- one that was stopped, and whose size is known
  stopped_over : (id : ℕ) → stopped id y.told ≡ true → SizeHasCome took id → over_at s.side s.receiving.halves id ≡ true
  stopped_over id halted came = go (at s.receiving.halves.live id) (receives_on s.side id && is_opened s id) (has_place s.side s.receiving.halves.places id) (halts.halted.each id) ((size_known id came).each id refl) (unsized.each id)
    where
      go : (o : Option RecvHalf) (opened used : Bool) → IsHalted (stopped id y.told) (status_from o opened used) → IsKnownStatus (status_from o opened used) → IsUnsized id (status_from o opened used) → is_over o used ≡ true
      go (Some h) opened used was known less = absurd (both_ways (is_some h.final) (less (was halted)) known)
      go None true true was known less = refl
      go None true false was known less = absurd known
      go None false used was known less = absurd known

  pub received_off : (id : ℕ) → IsReceived took y.told id → over_at s.side s.receiving.halves id ≡ true
  received_off id (inl end) = heard_over id (inl end)
  received_off id (inr (inl told)) = heard_over id (inr (inl told))
  received_off id (inr (inr (inl told))) = heard_over id (inr (inr told))
  received_off id (inr (inr (inr both))) = stopped_over id both.0 both.1

-- ---- a half that sends

-- what is over
sent_over : (id : ℕ) (o : Option SendHalf) (used : Bool) → HalfIs (id ≡ id → ⊥) (λ h. (id ≡ id → ⊥)) (Unit {0}) o used → is_over o used ≡ true
sent_over id (Some h) used i = absurd (i refl)
sent_over id None true i = refl
sent_over id None false i = absurd (i refl)

module _ (y x : Party) (flying : List Sent) (rest : AtRest y.end flying) (packets : PacketsHold y x) (writes : WritesHold y x) (arrives : Arrives y x) (f : Flying y x) (settled : Settled y x) (resetting : Resetting y x) where
  abbrev t : StreamsState
  t = y.end.streams

  -- no reset waits or is in flight
  reset_over : (id : ℕ) → IsSome (reset id y.told) → over_at t.side t.sending.halves id ≡ true
  reset_over id some = go (resetting.each id some)
    where
      go : ListedStands [] (ResetOf id) y.end ⊎ SendsNoMore id t → over_at t.side t.sending.halves id ≡ true
      go (inl (inl waits)) = absurd (waits_not y.end flying rest (listed_queued y.end (ResetOf id) waits))
      go (inl (inr (inl carried))) = (let found = any_member (HasIt (ResetOf id)) y.end.tracking.packets carried in absurd (no_listed y.end flying rest found.0 (ResetOf id) found.1 found.2))
      go (inl (inr (inr came))) = absurd came.was_taken
      go (inr n) = sent_over id (at t.sending.halves.live id) (has_place t.side t.sending.halves.places id) (n.each id)

  -- nor does the end of a stream
  no_end : (id : ℕ) → IsCarried y.end.tracking.packets (Fin id) → ⊥
  no_end id any = (let found = any_member (λ (p : ℕ × TrackedPacket). StandsIn p.1.carried (Fin id)) y.end.tracking.packets any in nothing_stands found.0 (silent_packet y.end flying rest found.0 found.1).streams found.2)
    where
      nothing_stands : (p : ℕ × TrackedPacket) → p.1.carried.stream_frames ≡ [] → StandsIn p.1.carried (Fin id) → ⊥
      nothing_stands p none stands = rw none at stands

  -- so all of a half in use that was finished is acknowledged
  module _ (id : ℕ) (h : SendHalf) (found : at t.sending.halves.live id ≡ Some h) (over : ended id y.told ≡ true) (kept : reset id y.told ≡ None) where
    holds : HoldsWritten (wrote y.told) t
    holds = writes.writes.keeps.holds

    half : IsSendHalf (wrote y.told id) h
    half = half_holds (wrote y.told) t holds id h (live_sends t id h found)

    free : h.reset ≡ None
    free = half.reset ∙ ap (λ (o : Option ℕ). option_map (λ (code : ℕ). length (wrote y.told id).bytes) o) kept

    flies : FliesIn (InPackets y.end.tracking.packets) id h
    flies = (subst (λ (o : Option SendHalf). HalfIs (wrote y.told id ≡ record { bytes = []; ended = false; reset = None }) (λ g. IsSendHalf (wrote y.told id) g × FliesIn (InPackets y.end.tracking.packets) id g) (Unit {0}) o (has_place t.side t.sending.halves.places id)) found (f.fly.each id)).1

    last : h.finished ≡ true
    last = half.finished ∙ over

    end_acked : h.end_acked ≡ true
    end_acked = go h.end_acked h.end_waits refl refl
      where
        go : (acked waits : Bool) → h.end_acked ≡ acked → h.end_waits ≡ waits → h.end_acked ≡ true
        go true waits a w = a
        go false true a w = absurd (waits_not y.end flying rest (half_queued y.end (pending_queued t id h writes.writes.keeps.orderly found (or_right (has_unsent h.buffer) h.end_waits w))))
        go false false a w = absurd (no_end id (flies.fin free (and_from h.finished (not (h.end_acked || h.end_waits)) last (not_from_false (h.end_acked || h.end_waits) (or_from h.end_acked h.end_waits a w)))))

    fully : is_fully_acked h.buffer ≡ true
    fully = eq-eqb (first_unacknowledged h.buffer) (buffers.written h.buffer) (go (cases_lt (first_unacknowledged h.buffer) (buffers.written h.buffer)))
      where
        most : first_unacknowledged h.buffer ≤ buffers.written h.buffer
        most = first_by h.buffer.acked (buffers.written h.buffer) half.lawful.acked (λ k has. (let a = half.lawful.acked_sent k has in let b = half.lawful.bounded in omega arith))

        go : (first_unacknowledged h.buffer < buffers.written h.buffer) ⊎ (buffers.written h.buffer ≤ first_unacknowledged h.buffer) → first_unacknowledged h.buffer ≡ buffers.written h.buffer
        go (inl less) = absurd (first_lacks h.buffer.acked half.lawful.acked (has_is h.buffer.acked (first_unacknowledged h.buffer) (offset_acked y x flying rest packets writes arrives f id h (first_unacknowledged h.buffer) found free flies less half.lawful.begun)))
        go (inr above) = (let low = most in omega arith)

    acked : is_acked h ≡ true
    acked = and_from (is_none h.reset) (h.finished && (h.end_acked && is_fully_acked h.buffer)) (not_from_false (is_some h.reset) (ap is_some free)) (and_from h.finished (h.end_acked && is_fully_acked h.buffer) last (and_from h.end_acked (is_fully_acked h.buffer) end_acked fully))

    -- but no half in use is
    abbrev tells : Tells
    tells = telling (told_so y) (is_reset (wrote y.told)) t

    not_acked : is_acked h ≡ false
    not_acked = (subst (λ (o : Option SendHalf). HalfIs (UnusedSettles nothing_known tells id) (λ g. HalfSettles nothing_known tells id g) (DoneSettles tells id) o (has_place t.side t.sending.halves.places id)) found (settled.always.1.each id)).1

    unused : ⊥
    unused = both_ways (is_acked h) not_acked acked

  ended_over : (id : ℕ) → ended id y.told ≡ true → reset id y.told ≡ None → over_at t.side t.sending.halves id ≡ true
  ended_over id over kept = go (at t.sending.halves.live id) (sends_on t.side id && is_opened t id) (has_place t.side t.sending.halves.places id) refl (writes.writes.keeps.holds.each id)
    where
      nothing : wrote y.told id ≡ nothing_done → ⊥
      nothing none = both_ways (ended id y.told) (ap (λ (v : Wrote). v.ended) none) over

      go : (o : Option SendHalf) (opened used : Bool) → at t.sending.halves.live id ≡ o → IsSendStatus (wrote y.told id) (status_from o opened used) → is_over o used ≡ true
      go (Some h) opened used found i = absurd (unused id h found over kept)
      go None true true found i = refl
      go None true false found i = absurd (nothing i)
      go None false used found i = absurd (nothing i)

  pub sent_off : (id : ℕ) → IsSentOff y.told id → over_at t.side t.sending.halves id ≡ true
  sent_off id (inr some) = reset_over id some
  sent_off id (inl over) = go (reset id y.told) refl
    where
      go : (o : Option ℕ) → reset id y.told ≡ o → over_at t.side t.sending.halves id ≡ true
      go None is = ended_over id over is
      go (Some code) is = reset_over id (ap is_some is)

-- ---- both ends

-- x opens streams, and y is the peer, and both have nothing left to send
pub record BothRest (x y : Party) : Type 0 where
  pub theirs : List Sent
  pub peer_rests : AtRest y.end theirs
  pub packets : PacketsHold y x
  pub writes : WritesHold y x
  pub arrives : Arrives y x
  pub flies : Flying y x
  pub grown : GrownWait y x
  pub newest : NewestSaid y x
  pub told_counts : AreLeft ResetsAreKnown Leaving x y
  pub sizes : AreLeft ResetsAreKnown Leaving y x
  pub heard : Heard y x
  pub halts : Halts y x
  pub unsized : StoppedAreUnsized y.end.streams
  pub settled : Settled y x
  pub resetting : Resetting y x
  pub counted : AreDoneCounted y.end.streams
  pub opened : OpensAre x y
  -- as many may be opened at least as at first, and that is no less than the peer is configured to
  -- let be
  pub first : (dir : Dir) → of dir x.made.streams.opening.own_limit ≤ of dir x.end.streams.opening.own_limit
  pub made : (dir : Dir) → of dir y.made.streams.opening.configured ≤ of dir x.made.streams.opening.own_limit
  pub sides : other_side y.end.streams.side ≡ x.side

module _ (x y : Party) (b : BothRest x y) (dir : Dir) where
  abbrev u : StreamsState
  u = y.end.streams

  -- ---- the limit

  -- the peer told no more than this end knows
  told_known : of dir u.opening.announced ≤ of dir x.end.streams.opening.own_limit
  told_known = go (b.newest.says.count dir)
    where
      named : (d : Dir) → dir_named (is_one_way d) ≡ d
      named Bi = refl
      named Uni = refl

      go : IsNewest (WasGiven y.sents) (of dir y.made.streams.opening.configured) (StreamCount dir) (of dir u.opening.announced) → of dir u.opening.announced ≤ of dir x.end.streams.opening.own_limit
      go (inl same) = (let a = b.first dir in let c = b.made dir in omega arith)
      go (inr said) =
          let came : LimitHasArrived (came_to x y).took (StreamCount dir) (of dir u.opening.announced) = limit_came y x b.theirs b.peer_rests b.packets b.writes b.arrives b.flies (StreamCount dir) (of dir u.opening.announced) said tt (λ ends. ends.each 0) in
          let left : MayOpen (dir_named (is_one_way dir)) came.limit x.end.streams = b.told_counts.each (max_streams (record { one_way = is_one_way dir; count = came.limit })) (record { packet = came.packet; was_taken = came.was_taken; carried = came.carried }) in
          let may : came.limit ≤ of dir x.end.streams.opening.own_limit = subst (λ (d : Dir). came.limit ≤ of d x.end.streams.opening.own_limit) (named dir) left in
          let enough = came.enough in
          omega arith

  -- nor did its limit grow
  held : HasGrown (of dir y.made.streams.opening.configured) (of dir u.opening.done) (2 ^ 60) (of dir u.opening.announced) → ⊥
  held grew =
      let same : of dir u.opening.configured ≡ of dir y.made.streams.opening.configured = ap (of dir) b.newest.says.configured in
      let here : HasGrown (of dir u.opening.configured) (of dir u.opening.done) most_streams (of dir u.opening.announced) = subst (λ (n : ℕ). HasGrown n (of dir u.opening.done) most_streams (of dir u.opening.announced)) (sym same) grew in
      no_limit_waits y.end b.theirs b.peer_rests (StreamCount dir) tt (b.grown.all.counts dir (le-leb (of dir u.opening.announced + least_growth (of dir u.opening.configured)) (raised_count dir u.opening) here))

  -- ---- the streams

  -- a stream that is done by the lists is done there
  done_there : (id : ℕ) → IsDone (came_to y x).took y.told id → done_at u id ≡ true
  done_there id d = and_from (over_at u.side u.receiving.halves id) (not (is_two_way (dir_of id)) || over_at u.side u.sending.halves id) (received_off y x b.heard b.halts b.unsized b.sizes id d.received) (by_way (is_two_way (dir_of id)) refl)
    where
      by_way : (two : Bool) → is_two_way (dir_of id) ≡ two → (not two || over_at u.side u.sending.halves id) ≡ true
      by_way false is = refl
      by_way true is = sent_off y x b.theirs b.peer_rests b.packets b.writes b.arrives b.flies b.settled b.resetting id (d.sent is)

  once : (a c : ℕ) → stream_id x.side dir a ≡ stream_id x.side dir c → a ≡ c
  once a c e = sym (index_of_stream_id x.side dir a) ∙ ap index_of e ∙ index_of_stream_id x.side dir c

  pub none_opened : of dir x.end.streams.opening.own_limit ≤ of dir x.end.streams.opening.own → 0 < of dir y.made.streams.opening.configured → of dir y.made.streams.opening.configured ≤ 2 ^ 60 → length (opens dir x.told) < 2 ^ 59
      → HasUndone x.told (came_to y x).took y.told dir (least_left (of dir y.made.streams.opening.configured))
  none_opened full some small few = record {
    ids = all.ids;
    distinct = all.distinct;
    opened = λ id i. (let one : IsOther (stream_id x.side dir) once test own id = all.each id i in subst (λ (q : ℕ). In q (opens dir x.told)) (sym one.is) (b.opened.are.each dir one.index one.below));
    undone = λ id i d. (
        let one : IsOther (stream_id x.side dir) once test own id = all.each id i in
        both_ways (done_at u id) (ap (done_at u) one.is ∙ one.fails) (done_there id d));
    many = (let a = all.many in let c = counted in let m = enough in omega arith);
  }
    where
      own : ℕ
      own = of dir x.end.streams.opening.own

      test : ℕ → Bool
      test j = done_at u (stream_id x.side dir j)

      all : Others (stream_id x.side dir) once test own
      all = others (stream_id x.side dir) once test own

      below : own < 2 ^ 59
      below = (let c = b.opened.are.count dir in omega arith)

      counted : sum_below own (λ j. as_one (test j)) ≤ of dir u.opening.done
      counted = subst (λ (side : Side). sum_below own (λ j. as_one (done_at u (stream_id side dir j))) ≤ of dir u.opening.done) b.sides (b.counted.counted dir own (let l = below in omega arith))

      enough : least_left (of dir y.made.streams.opening.configured) + of dir u.opening.done ≤ own
      enough = (let known = told_known in many_undone (of dir y.made.streams.opening.configured) (of dir u.opening.done) (of dir u.opening.announced) own (omega arith) held some small below)
