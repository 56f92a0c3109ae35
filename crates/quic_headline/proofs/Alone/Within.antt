-- What comes on the streams of an end is within the windows of its settings, whatever comes: of
-- each half no more was seen than lies within the window past what was read, and of all together no
-- more than within the window past what counts as consumed; and the peer opened no more streams
-- than it may (RFC 9000, sections 4.1 and 4.6).
use Rattle.std.proofs.Common.{◌≡◌, ℕ, ◌+◌, ◌≤◌, Bool, true, false, Option, Some, None, refl, sym, ap, ◌∙◌, subst, arith, ◌⊎◌, inl, inr}
use Rattle.std.specs.Prelude.{min, ◌&&◌, ◌||◌, not}
use Rattle.std.specs.List.{sum_by}
use Rattle.std.specs.Map.{values_of}
use Rattle.std.proofs.lemmas.Bool.{cond_both, cases_eq}
use Rattle.quic_wire_core.specs.declared.stream_id.Side.{Side}
use Rattle.quic_wire_core.specs.declared.stream_id.Dir.{Dir}
use Rattle.quic_wire_core.specs.declared.stream_id.Dir.TheVariants.{Bi, Uni}
use Rattle.quic_wire_core.specs.StreamId.{dir_of, index_of}
use Rattle.quic_wire.specs.Value.{StreamValue}
use Rattle.quic_config.specs.Transport.{Settings}
use Rattle.quic_parameters.specs.Parameters.{ParameterValues}
use Rattle.quic_assembler.specs.Arrived.{bytes_read_of}
use Rattle.quic_streams_parts.specs.Dirs.{Counts, of, with_of, is_own, is_two_way}
use Rattle.quic_streams_parts.specs.Table.{at, without}
use Rattle.quic_streams_parts.specs.TableLaws.{at-without, at-without-apart}
use Rattle.quic_streams_parts.specs.SendHalf.{SendHalf, Queued}
use Rattle.quic_streams_parts.specs.RecvHalf.{RecvHalf, new_recv_half, credit, raised_on}
use Rattle.quic_streams_halves.specs.Halves.{with_half, without_half, is_done}
use Rattle.quic_streams_state.specs.declared.state.StreamsState.{StreamsState}
use Rattle.quic_streams_state.specs.State.{Receiving, Opening, seen, consumed, sending_half, receiving_half, with_recv, without_send, done_if, receiving_status, sending_status, seen_at}
use Rattle.quic_streams_state.specs.Limits.{most_streams}
use Rattle.quic_streams_state.specs.Opening.{with_remote}
use Rattle.quic_streams_state.specs.Sends.{with_queued}
use Rattle.quic_streams_laws.specs.Keeping.{KeepsBy, EndsThere, SeesMore, CreditIs, all_of_it, as_before, some_more, ReceivesOn}
use Rattle.quic_streams_laws.specs.Keeping as changes
use Rattle.quic_streams_laws.specs.KeepingLaws.{at-half, live_receives, by_accept, by_blocked, by_stream, by_reset_frame, by_read_begun, by_next, by_stop, by_received_reset}
use Rattle.quic_streams_laws.specs.QuietLaws.{is_quiet}
use Rattle.quic_streams_laws.specs.ContentLaws.{by_next_answer}
use Rattle.quic_streams_laws.specs.FewLaws.{within_raised}
use Rattle.quic_streams_laws.specs.LimitedLaws.{WasReceiving, in_use, unused, was_receiving, counted, sum_with, sum_without}
use Rattle.quic_streams_laws.specs.QueuedLaws.{half-apart}
use Rattle.quic_streams_laws.specs.Shape.{IsShaped}
use Rattle.quic_streams_laws.specs.ShapeLaws.{shape_any, sends_with}
use Rattle.quic_streams_laws.specs.StartLaws.{shape_new, shape_set_params}
use Rattle.quic_machine.specs.End.{first_streams}
use Rattle.quic_headline.specs.Credit.{most_at_once}
use Rattle.quic_headline.proofs.Channel.Below.{IsBelow, new_below, told_below, frame_below, reset_below, begun_below, stopped_below, read_below}
use Rattle.quic_headline.proofs.Channel.Received.{Comes}
use Rattle.quic_headline.proofs.Alone.Streams.{write_leaves, chunks_leave, IsKeptAlone}

-- ---- one half

-- what is consumed of a half was seen, and what was seen lies within the window past what was read,
-- as does what the peer was told
pub record IsHeld (window : ℕ) (h : RecvHalf) : Type 0 where
  pub below : IsBelow h
  pub consumed : credit h ≤ h.seen
  pub seen : h.seen ≤ bytes_read_of h.arrived + window
  pub announced : h.announced ≤ bytes_read_of h.arrived + window
  pub ended : EndsThere h

-- nothing came on a half on which nothing was done
new_held : (window : ℕ) → IsHeld window (new_recv_half window)
new_held window = record { below = new_below window; consumed = omega arith; seen = omega arith; announced = omega arith; ended = λ size e. cc }

-- a half on which something came, was read or was stopped stays so
held_on : (window : ℕ) (r : Receiving) (old new : RecvHalf) → ReceivesOn r old new → IsBelow new → IsHeld window old → IsHeld window new × (credit old ≤ credit new)
held_on window r old new on below w = go on.sees on.credit
  where
    go : (new.seen ≡ old.seen) ⊎ SeesMore r old new → CreditIs old new → IsHeld window new × (credit old ≤ credit new)
    go sees credits = (record { below = below; consumed = holds sees credits; seen = near sees; announced = far; ended = on.ended w.ended }, gains sees credits)
      where
        near : (new.seen ≡ old.seen) ⊎ SeesMore r old new → new.seen ≤ bytes_read_of new.arrived + window
        near (inl same) = let a = w.seen in let b = on.read in omega arith
        near (inr more) = let a = w.announced in let b = on.read in let c = more.announced in omega arith

        rises : (new.seen ≡ old.seen) ⊎ SeesMore r old new → old.seen ≤ new.seen
        rises (inl same) = omega arith
        rises (inr more) = more.more

        far : new.announced ≤ bytes_read_of new.arrived + window
        far = let a = on.announced in let b = w.announced in let c = on.read in omega arith

        holds : (new.seen ≡ old.seen) ⊎ SeesMore r old new → CreditIs old new → credit new ≤ new.seen
        holds sees (all_of_it e) = omega arith
        holds sees (as_before e) = let a = rises sees in let b = w.consumed in omega arith
        holds sees (some_more le lt) = lt

        gains : (new.seen ≡ old.seen) ⊎ SeesMore r old new → CreditIs old new → credit old ≤ credit new
        gains sees (all_of_it e) = let a = rises sees in let b = w.consumed in omega arith
        gains sees (as_before e) = omega arith
        gains sees (some_more le lt) = le

-- ---- all streams of one end

module _ (settings : Settings) where
  -- each half is held so, and all of them together; the windows are those of the settings
  pub record Receives (r : Receiving) : Type 0 where
    pub halves : (id : ℕ) (h : RecvHalf) → at r.halves.live id ≡ Some h → IsHeld settings.stream_receive_window h
    pub seen : seen r ≤ consumed r + settings.receive_window
    pub window : r.window ≡ settings.receive_window
    pub stream_window : r.stream_window ≡ settings.stream_receive_window

  -- of each kind the peer opened no more streams than it may have open past those that are done
  pub record Opened (remote done configured : Counts) : Type 0 where
    pub few : (dir : Dir) → of dir remote ≤ min (of dir configured + of dir done) most_streams
    pub most : (dir : Dir) → of dir configured ≤ most_at_once dir settings

  -- both
  abbrev pub AreHeld : StreamsState → Type 0
  AreHeld s = IsShaped s × Receives s.receiving × Opened s.opening.remote s.opening.done s.opening.configured

  -- each half that there is is held so
  half_held : (s : StreamsState) (id : ℕ) (h : RecvHalf) → receiving_half s id ≡ Some h → Receives s.receiving → IsHeld settings.stream_receive_window h
  half_held s id h e i = go (was_receiving s id h e)
    where
      go : WasReceiving s id h → IsHeld settings.stream_receive_window h
      go (in_use is) = i.halves id h is
      go (unused is free same) = subst (IsHeld settings.stream_receive_window) (sym same) (subst (λ (w : ℕ). IsHeld settings.stream_receive_window (new_recv_half w)) (sym i.stream_window) (new_held settings.stream_receive_window))

  same_recv : (a b : RecvHalf) (o : Option RecvHalf) → o ≡ Some a → o ≡ Some b → a ≡ b
  same_recv a b o e g = cc

  gone_recv : (o : Option RecvHalf) (h : RecvHalf) → o ≡ None → o ≡ Some h → ⊥
  gone_recv o h e g = cc

  -- ---- a half changes

  -- what may come of one half: as much as before, or more, within what all may bring
  abbrev SeesWithin : Receiving → RecvHalf → RecvHalf → Type 0
  SeesWithin r old new = (new.seen ≡ old.seen) ⊎ SeesMore r old new

  -- one half has another value
  one : (s : StreamsState) (id : ℕ) (old new : RecvHalf) → receiving_half s id ≡ Some old → IsHeld settings.stream_receive_window new → credit old ≤ credit new → SeesWithin s.receiving old new → IsShaped s → Receives s.receiving → Receives (with_recv s id new).receiving
  one s id old new is held credits sees shape k =
      let gained : sum_by credit (values_of (with_half s.side s.receiving.halves id new).live) + credit old ≡ sum_by credit (values_of s.receiving.halves.live) + credit new =
      sum_with credit s.side s.receiving.halves id old new shape.receiving.sorted (counted credit s id old is refl) in
      let saw : sum_by (λ x. x.seen) (values_of (with_half s.side s.receiving.halves id new).live) + old.seen ≡ sum_by (λ x. x.seen) (values_of s.receiving.halves.live) + new.seen =
      sum_with (λ x. x.seen) s.side s.receiving.halves id old new shape.receiving.sorted (counted (λ x. x.seen) s id old is refl) in
      record {
        halves = λ j h e. elim (cases_eq j id) [
          | inl j_is ↦
              let new_is : new ≡ h = same_recv new h (at (with_half s.side s.receiving.halves id new).live id) (at-half s.side s.receiving.halves id new) (ap (λ x. at (with_half s.side s.receiving.halves id new).live x) (sym j_is) ∙ e) in
              subst (IsHeld settings.stream_receive_window) new_is held
          | inr ne ↦ k.halves j h (sym (half-apart s.side s.receiving.halves id new j ne) ∙ e)
        ];
        seen = all gained saw sees;
        window = k.window;
        stream_window = k.stream_window;
      }
    where
      all : sum_by credit (values_of (with_half s.side s.receiving.halves id new).live) + credit old ≡ sum_by credit (values_of s.receiving.halves.live) + credit new
          → sum_by (λ x. x.seen) (values_of (with_half s.side s.receiving.halves id new).live) + old.seen ≡ sum_by (λ x. x.seen) (values_of s.receiving.halves.live) + new.seen
          → SeesWithin s.receiving old new → seen (with_recv s id new).receiving ≤ consumed (with_recv s id new).receiving + settings.receive_window
      all gained saw (inl same) = let was = k.seen in omega arith
      all gained saw (inr more) = let a = more.all in let b = k.window in omega arith

  -- one is done: all that was seen of it counts as consumed
  ends : (s : StreamsState) (id : ℕ) (h : RecvHalf) → at s.receiving.halves.live id ≡ Some h → IsShaped s → Receives s.receiving → Receives (record s.receiving { halves = without_half s.receiving.halves id; gone = s.receiving.gone + seen_at (at s.receiving.halves.live id) })
  ends s id h is shape k =
      let w : IsHeld settings.stream_receive_window h = k.halves id h is in
      let less : credit h ≤ h.seen = w.consumed in
      let lost : sum_by credit (values_of (without_half s.receiving.halves id).live) + credit h ≡ sum_by credit (values_of s.receiving.halves.live) = sum_without credit s.receiving.halves id h is in
      let saw : sum_by (λ x. x.seen) (values_of (without_half s.receiving.halves id).live) + h.seen ≡ sum_by (λ x. x.seen) (values_of s.receiving.halves.live) = sum_without (λ x. x.seen) s.receiving.halves id h is in
      let gained : seen_at (at s.receiving.halves.live id) ≡ h.seen = ap seen_at is in
      let was = k.seen in
      record {
        halves = λ j g e. elim (cases_eq j id) [
          | inl j_is ↦ absurd (gone_recv (at (without s.receiving.halves.live id) id) g (at-without s.receiving.halves.live id shape.receiving.sorted) (ap (λ x. at (without s.receiving.halves.live id) x) (sym j_is) ∙ e))
          | inr ne ↦ k.halves j g (sym (at-without-apart s.receiving.halves.live id j ne) ∙ e)
        ];
        seen = omega arith;
        window = k.window;
        stream_window = k.stream_window;
      }

  -- ---- counts

  -- more streams are done
  more_done : (dir d : Dir) (remote done configured : Counts) → of d remote ≤ min (of d configured + of d done) most_streams → of d remote ≤ min (of d configured + of d (with_of dir (min (of dir done + 1) most_streams) done)) most_streams
  more_done Bi Bi remote done configured le = omega arith
  more_done Bi Uni remote done configured le = le
  more_done Uni Bi remote done configured le = le
  more_done Uni Uni remote done configured le = omega arith

  -- so it stays where a stream is done, or isn't
  done_held : (b : Bool) (id : ℕ) (s : StreamsState) → Receives s.receiving → Opened s.opening.remote s.opening.done s.opening.configured
      → Receives (done_if b id s).receiving × Opened (done_if b id s).opening.remote (done_if b id s).opening.done (done_if b id s).opening.configured
  done_held true id s k o = (k, record { few = λ d. more_done (dir_of id) d s.opening.remote s.opening.done s.opening.configured (o.few d); most = o.most })
  done_held false id s k o = (k, o)

  -- the peer opens one that it may open
  opened_few : (dir d : Dir) (n : ℕ) (o : Opening) → n ≤ min (of dir o.configured + of dir o.done) most_streams → of d o.remote ≤ min (of d o.configured + of d o.done) most_streams
      → of d (with_remote dir n o).remote ≤ min (of d (with_remote dir n o).configured + of d (with_remote dir n o).done) most_streams
  opened_few Bi Bi n o le was = le
  opened_few Bi Uni n o le was = was
  opened_few Uni Bi n o le was = was
  opened_few Uni Uni n o le was = le

  opened_most : (dir d : Dir) (n : ℕ) (o : Opening) → of d o.configured ≤ most_at_once d settings → of d (with_remote dir n o).configured ≤ most_at_once d settings
  opened_most Bi d n o le = le
  opened_most Uni d n o le = le

  -- ---- every small change keeps it, where on halves something comes, is read or is stopped
  held_kept : KeepsBy Comes (λ s id old new. Unit {0}) (λ s id n old new. Unit {0}) AreHeld
  held_kept (changes.opens_theirs id) s (e, within) i =
      let below = within_raised s id e within in
      let o = i.2 in
      (shape_any (changes.opens_theirs id) s (e, within) i.0, i.1, record { few = λ d. opened_few (dir_of id) d (index_of id + 1) s.opening (omega arith) (o.few d); most = λ d. opened_most (dir_of id) d (index_of id + 1) s.opening (o.most d) })
  held_kept (changes.joins id h) s is i =
      let others = cond_both h.blocked s _ (λ (t : StreamsState). Receives t.receiving × Opened t.opening.remote t.opening.done t.opening.configured) (λ e. (i.1, i.2)) (λ e. (i.1, i.2)) in
      (shape_any (changes.joins id h) s is i.0, others.0, others.1)
  held_kept (changes.ends_sending id h) s (is, over) i =
      let others = done_held (not (is_own s.side id) && is_done (receiving_status s id)) id (without_send s id) i.1 i.2 in
      (shape_any (changes.ends_sending id h) s (is, over) i.0, others.0, others.1)
  held_kept (changes.changes_receiving r id old new) s (is, on, there) i =
      let was : IsHeld settings.stream_receive_window old = half_held s id old is i.1 in
      let comes = (subst (λ q. Comes q id old new) (sym there) on) was.below was.ended in
      let both = held_on settings.stream_receive_window s.receiving old new comes.0 comes.1 was in
      (shape_any (changes.changes_receiving r id old new) s (is, tt, there) i.0, one s id old new is both.0 both.1 comes.0.sees i.0 i.1, i.2)
  held_kept (changes.ends_receiving id h) s is i =
      let t : StreamsState = record s { receiving = record s.receiving { halves = without_half s.receiving.halves id; gone = s.receiving.gone + seen_at (at s.receiving.halves.live id) } } in
      let others = done_held (not (is_own s.side id) && (not (is_two_way (dir_of id)) || is_done (sending_status s id))) id t (ends s id h is i.0 i.1) i.2 in
      (shape_any (changes.ends_receiving id h) s is i.0, others.0, others.1)
  held_kept changes.tells s may i =
      let k = i.1 in
      (shape_any changes.tells s tt i.0, record { halves = k.halves; seen = k.seen; window = k.window; stream_window = k.stream_window }, i.2)
  held_kept (changes.tells_on id h) s is i =
      let new : RecvHalf = record h { announced = raised_on s.receiving.stream_window h } in
      let k = i.1 in
      let w : IsHeld settings.stream_receive_window h = k.halves id h is in
      let window : s.receiving.stream_window ≡ settings.stream_receive_window = k.stream_window in
      let held : IsHeld settings.stream_receive_window new = record { below = told_below h (raised_on s.receiving.stream_window h) w.below; consumed = w.consumed; seen = w.seen; announced = omega arith; ended = w.ended } in
      (shape_any (changes.tells_on id h) s is i.0, one s id h new (live_receives s id h is) held (omega arith) (inl refl) i.0 k, i.2)
  held_kept c s may i = (shape_any c s may i.0, i.1, i.2)

  -- ---- at the start, whatever the peer's first limits are

  pub held_first : (side : Side) (theirs : ParameterValues) → AreHeld (first_streams side settings theirs)
  held_first side theirs = (
    shape_set_params _ theirs (shape_new side settings.max_uni settings.max_bidi settings.send_window settings.receive_window settings.stream_receive_window),
    record { halves = λ id h e. cc; seen = omega arith; window = refl; stream_window = refl },
    record { few = few; most = most },
  )
    where
      s : StreamsState
      s = first_streams side settings theirs

      few : (dir : Dir) → of dir s.opening.remote ≤ min (of dir s.opening.configured + of dir s.opening.done) most_streams
      few Bi = omega arith
      few Uni = omega arith

      most : (dir : Dir) → of dir s.opening.configured ≤ most_at_once dir settings
      most Bi = omega arith
      most Uni = omega arith

  -- ---- each word about streams keeps it

  puts : (s : StreamsState) (id : ℕ) (h : SendHalf) (q : Queued) (n : ℕ) → sending_half s id ≡ Some h → AreHeld s → AreHeld (record s { sending = record (with_queued s.sending s.side id q) { accepted = n } })
  puts s id h q n is i = let w = sends_with s id h q is i.0 in (record { sending = w.sending; receiving = w.receiving }, i.1, i.2)

  pub held_keeps : IsKeptAlone (λ (f : StreamValue). Unit {0}) AreHeld
  held_keeps = record {
    kept = record {
      quiet = is_quiet AreHeld held_kept;
      begun = λ s id ordered i. by_read_begun AreHeld held_kept s id ordered (λ h e b ended. begun_below s.receiving h b) i;
      next = λ told s id most answer is i. by_next_answer AreHeld told s id most answer is (by_next AreHeld held_kept told s id most (λ h c e f b ended. read_below s.receiving h most b) i) i;
      stop = λ s p id code i. by_stop AreHeld held_kept s p id code (λ h e b ended. stopped_below s.receiving h b) i;
      received_reset = λ s p id i. by_received_reset AreHeld held_kept s p id i;
    };
    accept = λ dir s i. by_accept AreHeld held_kept dir s (λ may. may) i;
    write = λ b answer s p id bytes i. write_leaves AreHeld puts b answer s p id bytes (λ full. by_blocked AreHeld held_kept s p id (sending_half s id) refl i) i;
    chunks = λ b answer s p id chunks i. chunks_leave AreHeld puts b answer s p id chunks (λ full. by_blocked AreHeld held_kept s p id (sending_half s id) refl i) i;
    stream = λ s p f fits i. by_stream AreHeld held_kept s p f (λ h e u b ended. frame_below s.receiving h f u b) i;
    reset = λ s p f i. by_reset_frame AreHeld held_kept s p f (λ h e u b ended. reset_below s.receiving h f.code f.final_size ended u b) i;
  }
