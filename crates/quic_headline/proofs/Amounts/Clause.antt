-- A write takes what the limits and the send window leave, as a run's lists say them.
use Rattle.std.proofs.Common.{◌≡◌, ℕ, ◌+◌, ◌-◌, min, max, Bool, true, false, List, [], length, Option, Some, None, Result, Ok, Err, refl, sym, ap, ◌∙◌, subst, ◌⊎◌, inl, inr, arith}
use Rattle.std.specs.Prelude.{◌==◌, ◌&&◌, ◌||◌, not, if◌then◌else◌}
use Rattle.std.specs.Option.{is_some, IsSome, option_map}
use Rattle.std.proofs.lemmas.Bool.{cases_Bool, eqb-true, eqb-false, eq-eqb, ne_eqb, and_from, both_ways}
use Rattle.quic_sets.proofs.Offsets.Edits.{below_first, first_lacks}
use Rattle.quic_wire_core.specs.declared.stream_id.Side.{Side}
use Rattle.quic_wire_core.specs.declared.stream_id.Dir.{Dir}
use Rattle.quic_wire_core.specs.declared.stream_id.Dir.TheVariants.{Bi, Uni}
use Rattle.quic_wire_core.specs.StreamId.{other_side, dir_of}
use Rattle.quic_parameters.specs.Parameters.{ParameterValues}
use Rattle.quic_send_buffer.specs.Buffered.{bytes_in, first_unacknowledged}
use Rattle.quic_send_buffer.specs.Source.{bytes_of}
use Rattle.quic_streams_parts.specs.declared.answers.WriteError.{WriteError}
use Rattle.quic_streams_parts.specs.declared.answers.WriteError.TheVariants as write_errors
use Rattle.quic_streams_parts.specs.Dirs.{of, is_own, is_two_way}
use Rattle.quic_streams_parts.specs.Table.{at}
use Rattle.quic_streams_parts.specs.SendHalf.{SendHalf, new_send_half, written_on, room_on, is_ready, written_to}
use Rattle.quic_streams_halves.specs.Halves.{half_of, has_place, status_from}
use Rattle.quic_streams_state.specs.declared.state.StreamsState.{StreamsState}
use Rattle.quic_streams_state.specs.Parts.{buffered as buffered_by, room}
use Rattle.quic_streams_state.specs.State.{sending_half, first_limit, is_opened, sends_on}
use Rattle.quic_streams_state.specs.Writing.{write_answer, chunks_of}
use Rattle.quic_streams_laws.specs.Each.{HalfIs, StatusIs}
use Rattle.quic_streams_laws.specs.EachLaws.{status_half}
use Rattle.quic_streams_laws.specs.Written.{Wrote, IsSendHalf, IsOver, HoldsWritten, nothing_done}
use Rattle.quic_streams_laws.specs.WrittenLaws.{half_holds}
use Rattle.quic_streams_laws.specs.WrittenHalves.{bytes_written}
use Rattle.quic_streams_laws.specs.Acknowledged.{HalfArrived, IsSettled}
use Rattle.quic_machine.specs.declared.answers.State.{State}
use Rattle.quic_machine.specs.declared.answers.State.TheVariants as states
use Rattle.quic_machine.specs.declared.run.Call.{Call}
use Rattle.quic_machine.specs.declared.run.Call.TheVariants as calls
use Rattle.quic_machine.specs.declared.run.Answer.{Answer}
use Rattle.quic_machine.specs.declared.run.Answer.TheVariants as answers
use Rattle.quic_machine.specs.Calls.{is_open}
use Rattle.quic_machine.specs.End.{End}
use Rattle.quic_machine.specs.Start.{AreStarted}
use Rattle.quic_machine.specs.Machine.{World, IsAnswer, reads_window, end_at, control_at, heard_at}
use Rattle.quic_headline.specs.Runs.{Run, Told, Packet, Intake, In, until, state_at, AreServed, written, reset, ids_of}
use Rattle.quic_headline.specs.Observer.{Sent, HoldsOffset, HoldsEnd, Watch, took, acked_until}
use Rattle.quic_headline.specs.Headline.{IsHonest, IsRun, IsAt, used}
use Rattle.quic_headline.specs.Amounts.{making_at, peer_parameters, first_told, greatest, data_limit_in, stream_limit_in, data_limit, stream_limit, was_stopped, all_written, laid, pieces_of, kept_in, buffered, taken_of, data_left, window_left, left_for, WritesOn, told_so, MayWrite, WritesTakeWhatLimitsAllow}
use Rattle.quic_headline.proofs.Places.Parties.{Party, came_to}
use Rattle.quic_headline.proofs.Places.Groups.{Way, Nothing, And, Group, both, beside}
use Rattle.quic_headline.proofs.Places.Placed.{party_at, Placed, placed, answered, watch_is, start_is}
use Rattle.quic_headline.proofs.Places.Openings.{took_is}
use Rattle.quic_headline.proofs.Places.Theorems.{ready}
use Rattle.quic_headline.proofs.Halves.Ghosts.{wrote}
use Rattle.quic_headline.proofs.Halves.Writer.{grows_behind}
use Rattle.quic_headline.proofs.Settled.Half.{UnusedSettles, HalfSettles, DoneSettles}
use Rattle.quic_headline.proofs.Settled.Acked.{telling}
use Rattle.quic_headline.proofs.Settled.Words.{is_reset}
use Rattle.quic_headline.proofs.Settled.Carried.{known_of}
use Rattle.quic_headline.proofs.Packets.Acked.{acks}
use Rattle.quic_headline.proofs.Settled.Group.{Open, told_so as told_finished}
use Rattle.quic_headline.proofs.Settled.Clause.{Held, held}
use Rattle.quic_headline.proofs.Amounts.Pieces.{sizes, sizes_sum, on_stream, filled, pieces_laid, laid_both}
use Rattle.quic_headline.proofs.Amounts.Tally.{Tally, HasPieces, IsFresh, IsTallied, Tallies, half_tallied}
use Rattle.quic_headline.proofs.Amounts.Accepts.{joined_length}
use Rattle.quic_headline.proofs.Amounts.Group.{tally_of, Tallied, tallied_group}
use Rattle.quic_headline.proofs.Amounts.Kept.{laid_filled, none_of_reset, none_below, from_first, kept_both, summed}
use Rattle.quic_headline.proofs.Amounts.Opens.{Opens, opens_group}

-- ---- what a half takes

-- one that may be written takes the least of what is left
answer_is : (h : SendHalf) (a b c len : ℕ) → is_ready h ≡ true → h.stopped ≡ None → room_on h ≡ b → written_to (Some h) (min a c) len ≡ taken_of (min a (min b c)) len
answer_is h a b c len ready goes own = elim (cases_Bool (min a c == 0)) [
  | inl none ↦ rw none (sym (blocked (let empty = eqb-true (min a c) 0 none in omega arith)))
  | inr some ↦ rw some (rw (ready, goes) (elim (cases_Bool (room_on h == 0)) [
    | inl none ↦ rw none (sym (blocked (let empty = eqb-true (room_on h) 0 none in omega arith)))
    | inr more ↦ rw more (
        let left = eqb-false (min a c) 0 some in
        let own_left = eqb-false (room_on h) 0 more in
        let takes : taken_of (min a (min b c)) len ≡ Ok (min len (min a (min b c))) = ap (λ (t : Bool). if t then Err write_errors.Blocked else Ok (min len (min a (min b c)))) (ne_eqb (min a (min b c)) 0 (λ e. omega arith)) in
        ap Ok (omega arith) ∙ sym takes)
  ]))
]
  where
    blocked : min a (min b c) ≡ 0 → taken_of (min a (min b c)) len ≡ Err write_errors.Blocked
    blocked empty = ap (λ (t : Bool). if t then Err write_errors.Blocked else Ok (min len (min a (min b c)))) (eq-eqb (min a (min b c)) 0 empty)

-- ---- what is kept

module _ (sents acked : List Sent) (told : List Told) (n : ℕ → ℕ) (made : StreamsState) (packets : List Packet) (e : End) (i : Open sents (wrote told) n acked e) (j : Tallies (tally_of made packets told) e.streams) where
  abbrev s : StreamsState
  s = e.streams

  abbrev t : Tally
  t = tally_of made packets told

  abbrev kept_on : ℕ → ℕ
  kept_on id = kept_in acked told (on_stream id (pieces_of told))

  -- as its sizes say
  laid_on : (id : ℕ) → kept_on id ≡ kept_in acked told (laid id 0 (filled (sizes id told)))
  laid_on id = ap (kept_in acked told) (pieces_laid id told) ∙ laid_filled acked told id 0 (sizes id told)

  -- what was written and acknowledged
  abbrev Arrived : ℕ → Option SendHalf → Bool → Type 0
  Arrived id o used = HalfIs (wrote told id ≡ nothing_done) (λ h. IsSendHalf (wrote told id) h × HalfArrived (λ x. HoldsOffset acked id x) (HoldsEnd acked id) h) (IsSettled (λ x. HoldsOffset acked id x) (HoldsEnd acked id) (wrote told id)) o used

  arrived_at : (id : ℕ) → Arrived id (at s.sending.halves.live id) (has_place s.side s.sending.halves.places id)
  arrived_at id = status_half (wrote told id ≡ nothing_done) (λ h. IsSendHalf (wrote told id) h × HalfArrived (λ x. HoldsOffset acked id x) (HoldsEnd acked id) h) (IsSettled (λ x. HoldsOffset acked id x) (HoldsEnd acked id) (wrote told id))
      (at s.sending.halves.live id) (sends_on s.side id && is_opened s id) (has_place s.side s.sending.halves.places id) (i.0.acked.shape.sending.allowed id) (i.0.acked.each id)

  abbrev Settles_on : ℕ → Option SendHalf → Bool → Type 0
  Settles_on id o used = HalfIs (UnusedSettles (known_of sents acked) (telling n (is_reset (wrote told)) s) id) (HalfSettles (known_of sents acked) (telling n (is_reset (wrote told)) s) id) (DoneSettles (telling n (is_reset (wrote told)) s) id) o used

  -- a half that wasn't reset
  free_keeps : (id : ℕ) (h : SendHalf) → h.reset ≡ None → reset id told ≡ None → Arrived id (Some h) true → Settles_on id (Some h) true → IsTallied t id h → length h.buffer.kept ≡ kept_on id
  free_keeps id h free none x y z =
      let b = x.0.lawful in
      let known = y.3 free in
      let parts : HasPieces (sizes id told) h.buffer = z.pieces free in
      let first : ℕ = first_unacknowledged h.buffer in
      let lacks : HoldsOffset acked id first → ⊥ = λ has. first_lacks h.buffer.acked b.acked (known.1 first has) in
      let unreset : is_some (reset id told) ≡ false = ap is_some none in
      let base = parts.base in
      let begun = b.begun in
      let whole = b.whole in
      let front : kept_in acked told (laid id 0 parts.front) ≡ 0 = none_below acked told id first (λ o below. x.1.bytes o (below_first h.buffer.acked o b.acked below)) 0 parts.front (omega arith) in
      let place : 0 + bytes_in parts.front ≡ h.buffer.base = omega arith in
      let rest : kept_in acked told (laid id (0 + bytes_in parts.front) h.buffer.pieces) ≡ bytes_in h.buffer.pieces = ap (λ (m : ℕ). kept_in acked told (laid id m h.buffer.pieces)) place ∙ from_first acked told id first h.buffer.base lacks unreset h.buffer.pieces b.begun b.needed in
      let both : kept_in acked told (laid id 0 (filled (sizes id told))) ≡ kept_in acked told (laid id 0 parts.front) + kept_in acked told (laid id (0 + bytes_in parts.front) h.buffer.pieces) =
      ap (λ (ns : List ℕ). kept_in acked told (laid id 0 ns)) parts.parts ∙ ap (kept_in acked told) (laid_both id 0 parts.front h.buffer.pieces) ∙ kept_both acked told id (laid id 0 parts.front) (laid id (0 + bytes_in parts.front) h.buffer.pieces) in
      let on = laid_on id in
      omega arith

  half_keeps : (id : ℕ) (h : SendHalf) → Arrived id (Some h) true → Settles_on id (Some h) true → IsTallied t id h → length h.buffer.kept ≡ kept_on id
  half_keeps id h x y z = go (reset id told) refl
    where
      go : (o : Option ℕ) → reset id told ≡ o → length h.buffer.kept ≡ kept_on id
      go None is = free_keeps id h (x.0.reset ∙ ap (λ (o : Option ℕ). option_map (λ (code : ℕ). length (written id told)) o) is) is x y z
      go (Some code) is =
          let gone : h.buffer.kept ≡ [] = (x.0.gone (ap is_some is)).kept in
          let empty : kept_in acked told (laid id 0 (filled (sizes id told))) ≡ 0 = none_of_reset acked told id (ap is_some is) 0 (filled (sizes id told)) in
          ap length gone ∙ sym (laid_on id ∙ empty)

  none_keeps : (id : ℕ) (used : Bool) → Arrived id None used → HalfIs (IsFresh t id) (IsTallied t id) (Unit {0}) None used → kept_on id ≡ 0
  none_keeps id true (inl all) z =
      let sum = sizes_sum id told in
      ap (kept_in acked told) (pieces_laid id told) ∙ none_below acked told id (length (written id told)) (λ o below. all.bytes o below) 0 (sizes id told) (omega arith)
  none_keeps id true (inr over) z = laid_on id ∙ none_of_reset acked told id over 0 (filled (sizes id told))
  none_keeps id false x z = laid_on id ∙ ap (λ (ns : List ℕ). kept_in acked told (laid id 0 ns)) z.pieces

  -- all streams
  pub keeps : buffered_by s.sending ≡ buffered acked told
  keeps = summed acked told s.sending.halves.live (pieces_of told) i.0.acked.shape.sending.sorted some none
    where
      some : (id : ℕ) (h : SendHalf) → at s.sending.halves.live id ≡ Some h → length h.buffer.kept ≡ kept_on id
      some id h is = half_keeps id h
          (subst (λ (o : Option SendHalf). Arrived id o (has_place s.side s.sending.halves.places id)) is (arrived_at id))
          (subst (λ (o : Option SendHalf). Settles_on id o (has_place s.side s.sending.halves.places id)) is (i.1.each id))
          (subst (λ (o : Option SendHalf). HalfIs (IsFresh t id) (IsTallied t id) (Unit {0}) o (has_place s.side s.sending.halves.places id)) is (j.halves.each id))

      none : (id : ℕ) → at s.sending.halves.live id ≡ None → kept_on id ≡ 0
      none id is = none_keeps id (has_place s.side s.sending.halves.places id)
          (subst (λ (o : Option SendHalf). Arrived id o (has_place s.side s.sending.halves.places id)) is (arrived_at id))
          (subst (λ (o : Option SendHalf). HalfIs (IsFresh t id) (IsTallied t id) (Unit {0}) o (has_place s.side s.sending.halves.places id)) is (j.halves.each id))

-- ---- a stream that may be written

no_some : (o : Option ℕ) → o ≡ None → IsSome o → ⊥
no_some None is some = cc
no_some (Some x) is some = cc

there_is : (w : Wrote) (o : Option SendHalf) (m u : Bool) (limit : ℕ) → m ≡ true → StatusIs (w ≡ nothing_done) (λ h. IsSendHalf w h) (IsOver w) (status_from o m u) → w.ended ≡ false → w.reset ≡ None → (h : SendHalf) × (half_of (new_send_half limit) (status_from o m u) ≡ Some h)
there_is w (Some h) m u limit may x unended free = (h, refl)
there_is w None true false limit may x unended free = (new_send_half limit, refl)
there_is w None true true limit may (inl over) unended free = absurd (both_ways w.ended unended over)
there_is w None true true limit may (inr over) unended free = absurd (no_some w.reset free over)
there_is w None false u limit may x unended free = cc

not_some : (o : Option ℕ) → is_some o ≡ false → o ≡ None
not_some None is = refl
not_some (Some x) is = cc

ready_is : (f : Bool) (o : Option ℕ) → f ≡ false → o ≡ None → not (f || is_some o) ≡ true
ready_is true o fin none = cc
ready_is false None fin none = refl
ready_is false (Some x) fin none = cc

-- ---- how an end was made

pub first_is : (side : Side) (id : ℕ) (w : World) (st : AreStarted w) → first_limit (end_at side w).streams id ≡ first_told (peer_parameters side w st) (is_own side id) (dir_of id)
first_is side id w st = ap (λ (e : End). first_limit e.streams id) (start_is w st side) ∙ go (is_own side id) (dir_of id)
  where
    p : ParameterValues
    p = peer_parameters side w st

    go : (own : Bool) (dir : Dir) → (if own then of dir (record { bi = p.initial_max_stream_data_bidi_remote; uni = p.initial_max_stream_data_uni }) else p.initial_max_stream_data_bidi_local) ≡ first_told p own dir
    go true Bi = refl
    go true Uni = refl
    go false dir = refl

pub all_is : (side : Side) (w : World) (st : AreStarted w) → (end_at side w).streams.sending.limit ≡ (peer_parameters side w st).initial_max_data
all_is side w st = ap (λ (e : End). e.streams.sending.limit) (start_is w st side)

window_is : (side : Side) (w : World) (st : AreStarted w) → (end_at side w).streams.sending.window ≡ (making_at side w st).settings.send_window
window_is side w st = ap (λ (e : End). e.streams.sending.window) (start_is w st side)

-- ---- all that holds

abbrev pub Whole : Way
Whole = And Held (And Tallied Opens)

pub whole : Group Nothing Whole
whole = both Nothing Held (And Tallied Opens) held (beside (And Nothing Held) Tallied Opens
    (tallied_group (And Nothing Held) (λ x y h. h.1.0.0.0))
    (opens_group (And Nothing Held) (record {
      packets = λ x y h. h.1.0.0.0;
      written = λ x y h. h.1.0.0.1.0.writes.keeps.holds;
      says = λ x y h. h.1.0.0.1.0.says;
      grows = λ x y call a c. grows_behind (And Nothing Held) (λ x y h. h.1.0.0.0) x y call a c c.gives.1.0.0.1.0;
    })))

-- ---- what is left to all streams

-- an open end has so much room
pub room_left : (r : Run) (end : World) (honest : IsHonest r) (side : Side) (i : ℕ) (p : Placed Whole r end side i) → state_at r side i ≡ states.Open → room (end_at side p.world).streams.sending ≡ min (data_left r honest.start side i) (window_left r honest.start side i)
room_left r end honest side i p state =
    let x : Party = party_at r i p.world side p.sents in
    let y : Party = party_at r i p.world (other_side side) p.theirs in
    let told : List Told = until r side i in
    let open_now : x.end.closing.state ≡ states.Open = p.state ∙ state in
    let packets_are : took r side i ≡ (came_to x y).took = ap (λ (k : Intake). k.took) (took_is r honest p.world i side p.sents p.theirs) in
    let acked_are : acked_until r side i ≡ acks x y = ap (λ (w : Watch). w.flight.acked) (watch_is r honest p.world i side p.sents p.theirs) in
    let tallies : Tallies (tally_of x.made.streams (came_to x y).took told) x.end.streams = p.gives.1.0.still open_now in
    let all_limit : x.end.streams.sending.limit ≡ data_limit (peer_parameters side r.start honest.start) (took r side i) = tallies.sums.limit ∙ ap (λ (m : ℕ). max m (greatest data_limit_in (came_to x y).took)) (all_is side r.start honest.start) ∙ ap (data_limit (peer_parameters side r.start honest.start)) (sym packets_are) in
    let buffer : buffered_by x.end.streams.sending ≡ buffered (acked_until r side i) told = keeps x.sents (acks x y) told (told_finished x) x.made.streams (came_to x y).took x.end (p.gives.0.1.still open_now) tallies ∙ ap (λ (ss : List Sent). buffered ss told) (sym acked_are) in
    let window : x.end.streams.sending.window ≡ (making_at side r.start honest.start).settings.send_window = tallies.sums.window ∙ window_is side r.start honest.start in
    let accepted : x.end.streams.sending.accepted ≡ all_written told = tallies.sums.accepted in
    rw (all_limit, accepted, window, buffer) refl

-- ---- the clause

module _ (r : Run) (end : World) (honest : IsHonest r) (all : (side : Side) (i : ℕ) → AreServed r i → Placed Whole r end side i) where
  pub writes_at : (side : Side) (i id count : ℕ) (call : Call) (a : Answer) → AreServed r i → IsAt r i side call a → WritesOn call id count → state_at r side i ≡ states.Open → MayWrite r side i id
      → told_so a (Err write_errors.Memory) ⊎ told_so a (taken_of (left_for r honest.start side i id) count)
  writes_at side i id count call a served event on state may = by_call call a event on (answered r p.world end i side call a p.goes_on event)
    where
      p : Placed Whole r end side i
      p = all side i served

      x : Party
      x = party_at r i p.world side p.sents

      y : Party
      y = party_at r i p.world (other_side side) p.theirs

      told : List Told
      told = until r side i

      s : StreamsState
      s = x.end.streams

      open_now : x.end.closing.state ≡ states.Open
      open_now = p.state ∙ state

      packets_are : took r side i ≡ (came_to x y).took
      packets_are = ap (λ (k : Intake). k.took) (took_is r honest p.world i side p.sents p.theirs)

      tallies : Tallies (tally_of x.made.streams (came_to x y).took told) s
      tallies = p.gives.1.0.still open_now

      holds : HoldsWritten (wrote told) s
      holds = p.gives.0.0.0.1.0.writes.keeps.holds

      side_is : s.side ≡ side
      side_is = p.gives.1.1.side

      half_there : In id (ids_of told) → (h : SendHalf) × (sending_half s id ≡ Some h)
      half_there among = there_is (wrote told id) (at s.sending.halves.live id) (sends_on s.side id && is_opened s id) (has_place s.side s.sending.halves.places id) (first_limit s id)
          (and_from _ _ (ap (λ (d : Side). is_own d id || is_two_way (dir_of id)) side_is ∙ may.sends) (p.gives.1.1.each id among).opened) (holds.each id) may.unended may.kept

      left_is : (h : SendHalf) → sending_half s id ≡ Some h → (len : ℕ) → write_answer true s id len ≡ taken_of (left_for r honest.start side i id) len
      left_is h there len =
          let kept : IsSendHalf (wrote told id) h = half_holds (wrote told) s holds id h there in
          let known : IsTallied (tally_of x.made.streams (came_to x y).took told) id h = half_tallied (tally_of x.made.streams (came_to x y).took told) s id h there tallies.halves in
          let free : h.reset ≡ None = kept.reset ∙ ap (λ (o : Option ℕ). option_map (λ (code : ℕ). length (written id told)) o) may.kept in
          let stopped : h.stopped ≡ None = not_some h.stopped (known.stopped ∙ ap (was_stopped id) (sym packets_are) ∙ may.goes) in
          let limit : h.limit ≡ stream_limit (peer_parameters side r.start honest.start) side (took r side i) id = known.limit ∙ ap (λ (m : ℕ). max m (greatest (stream_limit_in id) (came_to x y).took)) (first_is side id r.start honest.start) ∙ ap (λ (ps : List Packet). stream_limit (peer_parameters side r.start honest.start) side ps id) (sym packets_are) in
          let bytes : written_on h ≡ length (written id told) = rw free (bytes_written (wrote told id) h kept may.kept) in
          let a : ℕ = data_limit (peer_parameters side r.start honest.start) (took r side i) - all_written told in
          let b : ℕ = stream_limit (peer_parameters side r.start honest.start) side (took r side i) id - length (written id told) in
          let c : ℕ = (making_at side r.start honest.start).settings.send_window - buffered (acked_until r side i) told in
          let room_is : room s.sending ≡ min a c = room_left r end honest side i p state in
          let own_is : room_on h ≡ b = rw (limit, bytes) refl in
          ap (λ (o : Option SendHalf). written_to o (room s.sending) len) there ∙ ap (λ (m : ℕ). written_to (Some h) m len) room_is ∙ answer_is h a b c len (ready_is h.finished h.reset (kept.finished ∙ may.unended) free) stopped own_is

      takes : (len : ℕ) → In id (ids_of told) → write_answer (is_open x.end.closing.state) s id len ≡ taken_of (left_for r honest.start side i id) len
      takes len among = let there = half_there among in ap (λ (st : State). write_answer (is_open st) s id len) open_now ∙ left_is there.0 there.1 len

      chunks_told : (r : Result ℕ WriteError) (cs : List (List ℕ)) → told_so (answers.WriteChunks (chunks_of r cs)) r
      chunks_told (Ok n) cs = refl
      chunks_told (Err e) cs = refl

      by_call : (call : Call) (a : Answer) → IsAt r i side call a → WritesOn call id count → IsAnswer x.policy (reads_window (control_at side p.world) (heard_at side p.world) call x.end) y.given call a → told_so a (Err write_errors.Memory) ⊎ told_so a (taken_of (left_for r honest.start side i id) count)
      by_call (calls.Write q bytes) a event on (inl is) =
          let among : In id (ids_of told) = honest.ids side i id (calls.Write q bytes) a event (ap Some on.0) in
          inr (subst (λ (b : Answer). told_so b (taken_of (left_for r honest.start side i id) count)) (sym is) (rw (on.0, on.1) (takes count among)))
      by_call (calls.Write q bytes) a event on (inr is) = inl (subst (λ (b : Answer). told_so b (Err write_errors.Memory)) (sym is) refl)
      by_call (calls.WriteChunks q chunks) a event on (inl is) =
          let among : In id (ids_of told) = honest.ids side i id (calls.WriteChunks q chunks) a event (ap Some on.0) in
          let len : bytes_of chunks.items ≡ count = sym (joined_length chunks.items) ∙ on.1 in
          let answer : write_answer (is_open x.end.closing.state) s q (bytes_of chunks.items) ≡ taken_of (left_for r honest.start side i id) count = rw (on.0, len) (takes count among) in
          inr (subst (λ (b : Answer). told_so b (taken_of (left_for r honest.start side i id) count)) (sym is)
          (subst (told_so (answers.WriteChunks (chunks_of (write_answer (is_open x.end.closing.state) s q (bytes_of chunks.items)) chunks.items))) answer (chunks_told (write_answer (is_open x.end.closing.state) s q (bytes_of chunks.items)) chunks.items)))
      by_call (calls.WriteChunks q chunks) a event on (inr is) = inl (subst (λ (b : Answer). told_so b (Err write_errors.Memory)) (sym is) refl)
      by_call call a event on is = absurd on

pub writes_take_what_limits_allow : (r : Run) (end : World) → IsHonest r → IsRun r end → WritesTakeWhatLimitsAllow r
writes_take_what_limits_allow r end honest run s = (let so : IsHonest r = record { start = s; keys = honest.keys; ids = honest.ids } in writes_at r end so (placed Whole whole r end so run))
