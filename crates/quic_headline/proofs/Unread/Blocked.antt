-- Why a write is blocked where both ends have nothing left to send: not by the send window, and by
-- a limit only where the reader left bytes unread.
use Rattle.std.proofs.Common.{◌≡◌, ℕ, zero, suc, ◌+◌, ◌-◌, ◌^◌, ◌<◌, ◌≤◌, min, max, eqb, Bool, true, false, not, ◌&&◌, ◌||◌, List, [], ◌∷◌, length, take, Option, Some, None, Ok, Err, refl, sym, ap, ◌∙◌, subst, ◌⊎◌, inl, inr, arith, length-append}
use Rattle.std.specs.Prelude.{◌==◌, if◌then◌else◌}
use Rattle.std.specs.List.{IsDistinct}
use Rattle.std.specs.Option.{is_some, option_map}
use Rattle.std.proofs.lemmas.Bool.{both_ways, and_from, le-leb, eqb-true, eq-eqb, cond-true, cond-false}
use Rattle.quic_assembler.specs.Arrived.{bytes_read_of}
use Rattle.quic_assembler.specs.declared.assembler.Chunk.{Chunk}
use Rattle.quic_wire.specs.Value.{FrameValue, stream, reset_stream, max_data, max_stream_data}
use Rattle.quic_streams_parts.specs.declared.answers.WriteError.TheVariants as write_errors
use Rattle.quic_streams_parts.specs.Table.{at}
use Rattle.quic_streams_parts.specs.SendHalf.{SendHalf, written_on, room_on, is_ready, taken_unless, written_to}
use Rattle.quic_streams_parts.specs.RecvHalf.{RecvHalf, credit, greatest_offset, least_growth, raised_on, takes_limits, end_of}
use Rattle.quic_streams_halves.specs.Halves.{has_place, status_from}
use Rattle.quic_streams_state.specs.declared.state.StreamsState.{StreamsState}
use Rattle.quic_streams_state.specs.Parts.{room}
use Rattle.quic_streams_state.specs.State.{consumed, first_limit, is_opened, receives_on, sending_half}
use Rattle.quic_streams_state.specs.Limits.{raised_data, takes_limits_of}
use Rattle.quic_streams_laws.specs.Content.{AllReceiving, IsRecvStatus}
use Rattle.quic_streams_laws.specs.Each.{HalfIs}
use Rattle.quic_streams_laws.specs.Reads.{IsRecvHalf}
use Rattle.quic_streams_laws.specs.Reads as laws
use Rattle.quic_streams_laws.specs.Summed.{sum_below, amount_of, consumed_in}
use Rattle.quic_streams_laws.specs.Written.{IsOver, IsSendHalf}
use Rattle.quic_streams_laws.specs.WrittenLaws.{half_holds}
use Rattle.quic_streams_laws.specs.WrittenHalves.{bytes_written}
use Rattle.quic_machine.specs.declared.run.Call.{Call}
use Rattle.quic_machine.specs.declared.run.Call.TheVariants as calls
use Rattle.quic_machine.specs.declared.run.Answer.{Answer}
use Rattle.quic_machine.specs.declared.run.Answer.TheVariants as answers
use Rattle.quic_headline.specs.Runs.{Told, Packet, In, joined, written_by, written, reads, bytes_of, offsets_from, offsets_of, reset, HasArrived, ResetHasArrived}
use Rattle.quic_headline.specs.Observer.{Sent}
use Rattle.quic_headline.specs.Amounts.{greatest_in, greatest, data_limit_in, stream_limit_in, amount_by, all_written}
use Rattle.quic_headline.specs.Duties.{AllData, StreamData, WasGiven, Matters, LimitHasArrived}
use Rattle.quic_headline.specs.Grown.{HasGrown}
use Rattle.quic_headline.specs.Unread.{stopped, IsLeft, HasUnread, HasUnreadOn, least_left}
use Rattle.quic_headline.proofs.Packets.Group.{PacketsHold}
use Rattle.quic_headline.proofs.Places.Order.{bytes_same}
use Rattle.quic_headline.proofs.Places.Parties.{Party, came_to}
use Rattle.quic_headline.proofs.Halves.Ghosts.{wrote, read, SaysOf}
use Rattle.quic_headline.proofs.Halves.Arrived.{Arrives}
use Rattle.quic_headline.proofs.Halves.ReadGroup.{WasIn, ReadsHold}
use Rattle.quic_headline.proofs.Halves.Writer.{WritesHold}
use Rattle.quic_headline.proofs.Duties.Group.{Flying}
use Rattle.quic_headline.proofs.Duties.Lasting.{WasUsed, Ends}
use Rattle.quic_headline.proofs.Grown.Clause.{GrownWait}
use Rattle.quic_headline.proofs.Amounts.Tally.{IsTallied, Tallies, half_tallied}
use Rattle.quic_headline.proofs.Amounts.Group.{tally_of}
use Rattle.quic_headline.proofs.Channel.AllStreams.{ids, size_in}
use Rattle.quic_headline.proofs.Unread.Newest.{NewestSaid, IsNewest}
use Rattle.quic_headline.proofs.Unread.Written.{Sums}
use Rattle.quic_headline.proofs.Unread.Half.{Brings, IsTold, IsUntold, IsWhole}
use Rattle.quic_headline.proofs.Unread.Group.{Consumed}
use Rattle.quic_headline.proofs.Duties.Halts.{IsHalted}
use Rattle.quic_headline.proofs.Unread.Places.{left_out, of_streams, all_many, all_of, all_distinct}
use Rattle.quic_headline.proofs.Unread.Exchange.{sum_of_both, much_left}
use Rattle.quic_headline.proofs.Unread.Resting.{AtRest, no_limit_waits, offset_came, reset_came, stop_came, limit_came, nothing_buffered}

-- ---- lists

-- as many offsets as bytes were read
offsets_many : (offset : ℕ) (bytes : List ℕ) → length (offsets_from offset bytes) ≡ length bytes
offsets_many offset [] = refl
offsets_many offset (b ∷ bytes) = let rest = offsets_many (offset + 1) bytes in omega arith

read_many : (cs : List Chunk) → length (offsets_of cs) ≡ length (bytes_of cs)
read_many [] = refl
read_many (c ∷ cs) =
    let here = offsets_many c.offset c.bytes in
    let rest = read_many cs in
    let a = length-append (offsets_from c.offset c.bytes) (offsets_of cs) in
    let b = length-append c.bytes (bytes_of cs) in
    omega arith

-- a limit that came is among the greatest
tells_greatest : (tells : FrameValue → ℕ) (fs : List FrameValue) (f : FrameValue) → In f fs → tells f ≤ greatest_in tells fs
tells_greatest tells [] f i = absurd i
tells_greatest tells (g ∷ fs) f (inl is) = let same : tells f ≡ tells g = ap tells is in omega arith
tells_greatest tells (g ∷ fs) f (inr i) = let rest = tells_greatest tells fs f i in omega arith

came_greatest : (tells : FrameValue → ℕ) (ps : List Packet) (p : Packet) (f : FrameValue) → In p ps → In f p.frames → tells f ≤ greatest tells ps
came_greatest tells [] p f i j = absurd i
came_greatest tells (q ∷ ps) p f (inl is) j = let here = tells_greatest tells q.frames f (subst (λ (x : Packet). In f x.frames) is j) in omega arith
came_greatest tells (q ∷ ps) p f (inr i) j = let rest = came_greatest tells ps p f i j in omega arith

-- what was written on a stream was written
call_written : (id : ℕ) (call : Call) (a : Answer) → length (written_by id call a) ≤ amount_by call a
call_written id (calls.Write s bytes) (answers.Write (Ok count)) = go (s == id)
  where
    go : (t : Bool) → length {A = ℕ} (if t then take count bytes else []) ≤ length (take count bytes)
    go true = omega arith
    go false = omega arith
call_written id (calls.WriteChunks s buffers) (answers.WriteChunks (Ok w)) = go (s == id)
  where
    go : (t : Bool) → length {A = ℕ} (if t then take w.bytes (joined buffers.items) else []) ≤ length (take w.bytes (joined buffers.items))
    go true = omega arith
    go false = omega arith
call_written id call a = omega arith

one_written : (id : ℕ) (ts : List Told) → length (written id ts) ≤ all_written ts
one_written id [] = omega arith
one_written id (t ∷ ts) =
    let here = call_written id t.call t.answer in
    let rest = one_written id ts in
    let both = length-append (written_by id t.call t.answer) (written id ts) in
    omega arith

-- ---- what holds of both

-- x writes and y reads, and both have nothing left to send; and how far each may come at first
pub record BothRest (x y : Party) : Type 0 where
  pub flying : List Sent
  pub theirs : List Sent
  pub rests : AtRest x.end flying
  pub reader_rests : AtRest y.end theirs
  pub packets : PacketsHold x y
  pub packets_back : PacketsHold y x
  pub writes : WritesHold x y
  pub writes_back : WritesHold y x
  pub arrives : Arrives x y
  pub arrives_back : Arrives y x
  pub flies : Flying x y
  pub flies_back : Flying y x
  pub reads : ReadsHold x y
  pub grown : GrownWait y x
  pub tallied : Tallies (tally_of x.made.streams (came_to x y).took x.told) x.end.streams
  pub newest : NewestSaid y x
  pub sums : Sums x y
  pub consumed : Consumed x y
  pub first_all : x.made.streams.sending.limit ≡ y.made.streams.receiving.window
  pub first_each : (id : ℕ) → first_limit x.made.streams id ≡ y.made.streams.receiving.stream_window

module _ (x y : Party) (b : BothRest x y) where
  abbrev took : List Packet
  took = (came_to y x).took

  abbrev s : StreamsState
  s = y.end.streams

  -- what a frame that y took says
  taken_says : (f : FrameValue) → WasIn took f → SaysOf (wrote x.told) f
  taken_says f v =
      let was = b.packets.taken v.packet v.was_taken in
      b.writes.says was.sent was.is.0 f (subst (λ (fs : List FrameValue). In f fs) (sym was.frames) v.carried)

  -- ---- one stream

  -- all that was written lies below what frames reach
  size_reached : (id bound : ℕ) → ((f : FrameValue) (end : ℕ) → WasIn took f → Brings f id end → end ≤ bound) → size_in x.told id ≤ bound
  size_reached id bound reach = by_reset (reset id x.told) refl
    where
      by_size : reset id x.told ≡ None → (n : ℕ) → size_in x.told id ≡ n → n ≤ bound
      by_size free zero is = omega arith
      by_size free (suc n) is =
          let came : HasArrived took id n = offset_came x y b.flying b.rests b.packets b.writes b.arrives b.flies id n free (omega arith) in
          let end = reach (stream came.frame) (end_of came.frame) (record { packet = came.taken.packet; was_taken = came.taken.was_taken; carried = came.taken.carried }) (came.of_stream, refl) in
          let below = came.below in
          omega arith

      by_reset : (o : Option ℕ) → reset id x.told ≡ o → size_in x.told id ≤ bound
      by_reset None is = by_size is (size_in x.told id) refl
      by_reset (Some code) is =
          let came : ResetHasArrived took id = reset_came x y b.flying b.rests b.packets b.writes b.arrives b.flies id (ap is_some is) in
          let v : WasIn took (reset_stream came.frame) = record { packet = came.packet; was_taken = came.was_taken; carried = came.carried } in
          let end = reach (reset_stream came.frame) came.frame.final_size v (came.of_stream, refl) in
          let whole : came.frame.final_size ≡ length (written came.frame.id x.told) = (taken_says (reset_stream came.frame) v).size in
          let same : length (written came.frame.id x.told) ≡ size_in x.told id = ap (size_in x.told) came.of_stream in
          omega arith

  -- what is known of its half
  abbrev Known : ℕ → Option RecvHalf → Bool → Type 0
  Known id o used = HalfIs (IsUntold (WasIn took) id) (IsTold (wrote x.told id) (WasIn took) id) (IsWhole (wrote x.told id) (b.consumed.known.final id)) o used

  -- of a half that is still read
  pub record IsRead (id : ℕ) (h : RecvHalf) : Type 0 where
    pub found : at s.receiving.halves.live id ≡ Some h
    pub unstopped : h.stopped ≡ false
    pub free : h.reset ≡ None

  half_known : (id : ℕ) (h : RecvHalf) → at s.receiving.halves.live id ≡ Some h → IsTold (wrote x.told id) (WasIn took) id h
  half_known id h found = subst (λ (o : Option RecvHalf). Known id o (has_place s.side s.receiving.halves.places id)) found (b.consumed.known.each id)

  half_reads : (id : ℕ) (h : RecvHalf) → at s.receiving.halves.live id ≡ Some h → IsRecvHalf (wrote x.told id) (read y.told id) h
  half_reads id h found = subst (λ (o : Option RecvHalf). IsRecvStatus (wrote x.told id) (read y.told id) (status_from o (receives_on s.side id && is_opened s id) (has_place s.side s.receiving.halves.places id))) found (b.reads.reads.each id)

  -- neither a reset came, nor did this end stop it, nor did the other one reset it
  no_reset_came : (id : ℕ) (h : RecvHalf) → IsRead id h → ResetHasArrived took id → ⊥
  no_reset_came id h r came = elim ((half_known id h r.found).reset came.frame (record { packet = came.packet; was_taken = came.was_taken; carried = came.carried }) came.of_stream) [
    | inl is ↦ both_ways h.stopped r.unstopped is
    | inr is ↦ both_ways (is_some h.reset) (ap is_some r.free) is
  ]

  not_stopped : (id : ℕ) (h : RecvHalf) → IsRead id h → stopped id y.told ≡ false
  not_stopped id h r = go (stopped id y.told) refl
    where
      halted : IsHalted (stopped id y.told) (status_from (Some h) (receives_on s.side id && is_opened s id) (has_place s.side s.receiving.halves.places id))
      halted = subst (λ (o : Option RecvHalf). IsHalted (stopped id y.told) (status_from o (receives_on s.side id && is_opened s id) (has_place s.side s.receiving.halves.places id))) r.found (b.flies_back.halts.halted.each id)

      go : (t : Bool) → stopped id y.told ≡ t → stopped id y.told ≡ false
      go false is = is
      go true is = absurd (both_ways h.stopped r.unstopped (halted is))

  not_reset : (id : ℕ) (h : RecvHalf) → IsRead id h → reset id x.told ≡ None
  not_reset id h r = go (reset id x.told) refl
    where
      go : (o : Option ℕ) → reset id x.told ≡ o → reset id x.told ≡ None
      go None is = is
      go (Some code) is = absurd (no_reset_came id h r (reset_came x y b.flying b.rests b.packets b.writes b.arrives b.flies id (ap is_some is)))

  read_left : (id : ℕ) (h : RecvHalf) → IsRead id h → (o : ℕ) → In o (left_out (size_in x.told id) (offsets_of (reads id y.told))).places → IsLeft took y.told id o
  read_left id h r o i = (let l = left_out (size_in x.told id) (offsets_of (reads id y.told)) in record {
    unread = (offset_came x y b.flying b.rests b.packets b.writes b.arrives b.flies id o (not_reset id h r) (l.below o i), λ j. l.out o i j);
    unstopped = not_stopped id h r;
    kept = no_reset_came id h r;
  })

  read_enough : (id : ℕ) (h : RecvHalf) → IsRead id h → size_in x.told id ≤ bytes_read_of h.arrived + length (left_out (size_in x.told id) (offsets_of (reads id y.told))).places
  read_enough id h r =
      let many = (left_out (size_in x.told id) (offsets_of (reads id y.told))).many in
      let as_many = read_many (reads id y.told) in
      let counted = (half_reads id h r.found).counted in
      let same : length (bytes_of (reads id y.told)) ≡ length (laws.bytes_of (reads id y.told)) = ap length (bytes_same (reads id y.told)) in
      omega arith

  -- ---- all streams

  -- what is left of each, so that all of it is consumed or left
  record StreamLeft (id : ℕ) : Type 0 where
    offsets : List ℕ
    distinct : IsDistinct eqb offsets
    left : (o : ℕ) → In o offsets → IsLeft took y.told id o
    enough : size_in x.told id ≤ consumed_in b.consumed.known.final s id + length offsets

  none_distinct : IsDistinct eqb []
  unfolding IsDistinct
  none_distinct = tt

  nothing_left : (id : ℕ) → size_in x.told id ≤ consumed_in b.consumed.known.final s id → StreamLeft id
  nothing_left id enough = record { offsets = []; distinct = none_distinct; left = λ o i. absurd i; enough = omega arith }

  stream_left : (id : ℕ) → StreamLeft id
  stream_left id = go (at s.receiving.halves.live id) (has_place s.side s.receiving.halves.places id) refl refl (b.consumed.known.each id)
    where
      amount : Option RecvHalf → Bool → ℕ
      amount o used = amount_of credit (b.consumed.known.final id) o used

      consumed_is : (o : Option RecvHalf) (used : Bool) → at s.receiving.halves.live id ≡ o → has_place s.side s.receiving.halves.places id ≡ used → consumed_in b.consumed.known.final s id ≡ amount o used
      consumed_is o used found placed = ap (λ (p : Option RecvHalf). amount p (has_place s.side s.receiving.halves.places id)) found ∙ ap (λ (t : Bool). amount o t) placed

      -- a half of which all that was seen is consumed
      all_seen : (h : RecvHalf) (used : Bool) → at s.receiving.halves.live id ≡ Some h → has_place s.side s.receiving.halves.places id ≡ used → (h.stopped || is_some h.reset) ≡ true → StreamLeft id
      all_seen h used found placed over =
          let is : consumed_in b.consumed.known.final s id ≡ credit h = consumed_is (Some h) used found placed in
          let whole : credit h ≡ h.seen = cond-true (h.stopped || is_some h.reset) h.seen (bytes_read_of h.arrived) over in
          let reach : size_in x.told id ≤ h.seen = size_reached id h.seen (half_known id h found).reached in
          nothing_left id (omega arith)

      still_read : (h : RecvHalf) (used : Bool) → at s.receiving.halves.live id ≡ Some h → has_place s.side s.receiving.halves.places id ≡ used → h.stopped ≡ false → h.reset ≡ None → StreamLeft id
      still_read h used found placed unstopped free =
          let r : IsRead id h = record { found = found; unstopped = unstopped; free = free } in
          let is : consumed_in b.consumed.known.final s id ≡ credit h = consumed_is (Some h) used found placed in
          let over : (h.stopped || is_some h.reset) ≡ false = ap (λ (t : Bool). t || is_some h.reset) unstopped ∙ ap is_some free in
          let as_read : credit h ≡ bytes_read_of h.arrived = cond-false (h.stopped || is_some h.reset) h.seen (bytes_read_of h.arrived) over in
          let enough = read_enough id h r in
          let l = left_out (size_in x.told id) (offsets_of (reads id y.told)) in
          record { offsets = l.places; distinct = l.distinct; left = read_left id h r; enough = omega arith }

      by_reset : (h : RecvHalf) (used : Bool) (o : Option ℕ) → at s.receiving.halves.live id ≡ Some h → has_place s.side s.receiving.halves.places id ≡ used → h.stopped ≡ false → h.reset ≡ o → StreamLeft id
      by_reset h used None found placed unstopped is = still_read h used found placed unstopped is
      by_reset h used (Some code) found placed unstopped is = all_seen h used found placed (ap (λ (t : Bool). t || is_some h.reset) unstopped ∙ ap is_some is)

      by_stop : (h : RecvHalf) (used t : Bool) → at s.receiving.halves.live id ≡ Some h → has_place s.side s.receiving.halves.places id ≡ used → h.stopped ≡ t → StreamLeft id
      by_stop h used true found placed is = all_seen h used found placed (ap (λ (t : Bool). t || is_some h.reset) is)
      by_stop h used false found placed is = by_reset h used h.reset found placed is refl

      go : (o : Option RecvHalf) (used : Bool) → at s.receiving.halves.live id ≡ o → has_place s.side s.receiving.halves.places id ≡ used → Known id (at s.receiving.halves.live id) (has_place s.side s.receiving.halves.places id) → StreamLeft id
      go (Some h) used found placed known = by_stop h used h.stopped found placed refl
      go None true found placed known =
          let whole : IsWhole (wrote x.told id) (b.consumed.known.final id) = subst (λ (t : Bool). Known id None t) placed (subst (λ (o : Option RecvHalf). Known id o (has_place s.side s.receiving.halves.places id)) found known) in
          let is : consumed_in b.consumed.known.final s id ≡ b.consumed.known.final id = consumed_is None true found placed in
          let size : b.consumed.known.final id ≡ size_in x.told id = whole.0 in
          nothing_left id (omega arith)
      go None false found placed known =
          let none : IsUntold (WasIn took) id = subst (λ (t : Bool). Known id None t) placed (subst (λ (o : Option RecvHalf). Known id o (has_place s.side s.receiving.halves.places id)) found known) in
          let reach : size_in x.told id ≤ 0 = size_reached id 0 (λ f end was brings. absurd (none f end was brings)) in
          nothing_left id (omega arith)

  -- ---- blocked by the limit on all streams

  -- the other end told no more than this one knows
  told_known : s.receiving.announced ≤ x.end.streams.sending.limit
  told_known = go b.newest.says.all
    where
      limit_is : x.end.streams.sending.limit ≡ max x.made.streams.sending.limit (greatest data_limit_in (came_to x y).took)
      limit_is = b.tallied.sums.limit

      go : IsNewest (WasGiven y.sents) y.made.streams.receiving.window AllData s.receiving.announced → s.receiving.announced ≤ x.end.streams.sending.limit
      go (inl same) = let first = b.first_all in let is = limit_is in omega arith
      go (inr said) =
          let came : LimitHasArrived (came_to x y).took AllData s.receiving.announced = limit_came y x b.theirs b.reader_rests b.packets_back b.writes_back b.arrives_back b.flies_back AllData s.receiving.announced said tt (λ ends. ends.each 0) in
          let enough = came.enough in
          let most : came.limit ≤ greatest data_limit_in (came_to x y).took = came_greatest data_limit_in (came_to x y).took came.packet (max_data came.limit) came.was_taken came.carried in
          let is = limit_is in
          omega arith

  -- nor did its limit grow
  all_held : HasGrown y.made.streams.receiving.window (consumed s.receiving) (2 ^ 62 - 1) s.receiving.announced → ⊥
  all_held grew =
      let window : s.receiving.window ≡ y.made.streams.receiving.window = b.newest.says.window in
      let here : HasGrown s.receiving.window (consumed s.receiving) greatest_offset s.receiving.announced = subst (λ (n : ℕ). HasGrown n (consumed s.receiving) greatest_offset s.receiving.announced) (sym window) grew in
      no_limit_waits y.end b.theirs b.reader_rests AllData tt (b.grown.all.bytes (le-leb (s.receiving.announced + least_growth s.receiving.window) (raised_data s.receiving) here))

  pub all_unread : x.end.streams.sending.limit ≤ x.end.streams.sending.accepted → 0 < y.made.streams.receiving.window → y.made.streams.receiving.window < 2 ^ 62 → all_written x.told < 2 ^ 61 → HasUnread took y.told (least_left y.made.streams.receiving.window)
  all_unread used_up some small few = record {
    places = of_streams ids offsets;
    distinct = all_distinct ids offsets (λ j. (stream_left j).distinct);
    left = λ p i. (let one = all_of ids offsets p i in (stream_left p.0).left p.1 one.1);
    many = (let as_many = all_many ids offsets in omega (arith, as_many, enough));
  }
    where
      offsets : ℕ → List ℕ
      offsets j = (stream_left j).offsets

      sums : sum_below ids (size_in x.told) ≤ sum_below ids (consumed_in b.consumed.known.final s) + sum_below ids (λ j. length (offsets j))
      sums = sum_of_both ids (size_in x.told) (consumed_in b.consumed.known.final s) (λ j. length (offsets j)) (λ j. (stream_left j).enough)

      enough : least_left y.made.streams.receiving.window ≤ sum_below ids (λ j. length (offsets j))
      enough =
          let whole : all_written x.told ≡ sum_below ids (size_in x.told) = b.sums.whole in
          let used : consumed s.receiving ≡ sum_below ids (consumed_in b.consumed.known.final s) = b.consumed.known.sum in
          let accepted : x.end.streams.sending.accepted ≡ all_written x.told = b.tallied.sums.accepted in
          let known = told_known in
          much_left y.made.streams.receiving.window (consumed s.receiving) s.receiving.announced (all_written x.told) (sum_below ids (λ j. length (offsets j))) (omega arith) (omega (arith, whole, used, sums)) all_held some small few

  -- ---- blocked by the limit on its stream

  -- of a stream on which more may be written nothing is over
  ready_goes : (id : ℕ) (h : SendHalf) → IsSendHalf (wrote x.told id) h → is_ready h ≡ true → IsOver (wrote x.told id) → ⊥
  ready_goes id h held ready (inl ended) = unfinished h.finished (is_some h.reset) (held.finished ∙ ended) ready
    where
      unfinished : (f t : Bool) → f ≡ true → not (f || t) ≡ true → ⊥
      unfinished true t e g = cc
      unfinished false t e g = cc
  ready_goes id h held ready (inr some) = go (reset id x.told) refl some
    where
      not_reset_half : (f : Bool) (o : Option ℕ) (n : ℕ) → o ≡ Some n → not (f || is_some o) ≡ true → ⊥
      not_reset_half true o n e g = cc
      not_reset_half false None n e g = cc
      not_reset_half false (Some m) n e g = cc

      go : (o : Option ℕ) → reset id x.told ≡ o → is_some o ≡ true → ⊥
      go None is some = cc
      go (Some code) is some = not_reset_half h.finished h.reset (size_in x.told id) (held.reset ∙ ap (λ (o : Option ℕ). option_map (λ (c : ℕ). length (written id x.told)) o) is) ready

  -- a limit that was told of a half that takes limits is one that this end knows
  half_known_limit : (id : ℕ) (h : SendHalf) (g : RecvHalf) → at s.receiving.halves.live id ≡ Some g → takes_limits g ≡ true → IsTallied (tally_of x.made.streams (came_to x y).took x.told) id h → g.announced ≤ h.limit
  half_known_limit id h g found takes tallied = go (b.newest.says.each id g found)
    where
      limit_is : h.limit ≡ max (first_limit x.made.streams id) (greatest (stream_limit_in id) (came_to x y).took)
      limit_is = tallied.limit

      matters : Matters y.end (StreamData id)
      matters = ap takes_limits_of found ∙ takes

      still : AllReceiving (Ends (StreamData id)) s → ⊥
      still ends = both_ways (takes_limits g) (subst (λ (o : Option RecvHalf). WasUsed (λ h. takes_limits h ≡ false) (status_from o (receives_on s.side id && is_opened s id) (has_place s.side s.receiving.halves.places id))) found (ends.each id refl)) takes

      tells : (limit : ℕ) → stream_limit_in id (max_stream_data (record { id = id; limit = limit })) ≡ limit
      tells limit = cond-true (id == id) limit 0 (eq-eqb id id refl)

      go : IsNewest (WasGiven y.sents) y.made.streams.receiving.stream_window (StreamData id) g.announced → g.announced ≤ h.limit
      go (inl same) = let first = b.first_each id in let is = limit_is in omega arith
      go (inr said) =
          let came : LimitHasArrived (came_to x y).took (StreamData id) g.announced = limit_came y x b.theirs b.reader_rests b.packets_back b.writes_back b.arrives_back b.flies_back (StreamData id) g.announced said matters still in
          let enough = came.enough in
          let most : stream_limit_in id (max_stream_data (record { id = id; limit = came.limit })) ≤ greatest (stream_limit_in id) (came_to x y).took = came_greatest (stream_limit_in id) (came_to x y).took came.packet (max_stream_data (record { id = id; limit = came.limit })) came.was_taken came.carried in
          let value = tells came.limit in
          let is = limit_is in
          omega arith

  pub stream_unread : (id : ℕ) (h : SendHalf) → sending_half x.end.streams id ≡ Some h → is_ready h ≡ true → h.stopped ≡ None → room_on h ≡ 0 → 0 < y.made.streams.receiving.stream_window → y.made.streams.receiving.stream_window < 2 ^ 62 → size_in x.told id < 2 ^ 61
      → HasUnreadOn took y.told id (least_left y.made.streams.receiving.stream_window)
  stream_unread id h there ready goes full some small few = go (at s.receiving.halves.live id) (has_place s.side s.receiving.halves.places id) refl refl (b.consumed.known.each id)
    where
      window : ℕ
      window = y.made.streams.receiving.stream_window

      held : IsSendHalf (wrote x.told id) h
      held = half_holds (wrote x.told) x.end.streams b.writes.writes.keeps.holds id h there

      tallied : IsTallied (tally_of x.made.streams (came_to x y).took x.told) id h
      tallied = half_tallied (tally_of x.made.streams (came_to x y).took x.told) x.end.streams id h there b.tallied.halves

      over : IsOver (wrote x.told id) → ⊥
      over = ready_goes id h held ready

      -- the half wasn't reset
      kept : h.reset ≡ None
      kept = none_of h.finished h.reset ready
        where
          none_of : (f : Bool) (o : Option ℕ) → not (f || is_some o) ≡ true → o ≡ None
          none_of true o e = cc
          none_of false None e = refl
          none_of false (Some n) e = cc

      unreset : reset id x.told ≡ None
      unreset = go (reset id x.told) refl
        where
          go : (o : Option ℕ) → reset id x.told ≡ o → reset id x.told ≡ None
          go None is = is
          go (Some code) is = absurd (over (inr (ap is_some is)))

      written_is : written_on h ≡ size_in x.told id
      written_is = rw kept (bytes_written (wrote x.told id) h held unreset)

      -- all that is allowed was written
      used_up : h.limit ≤ size_in x.told id
      used_up = let is = written_is in omega arith

      Left_on : Type 0
      Left_on = HasUnreadOn took y.told id (least_left window)

      -- its limit grew not
      stream_held : (g : RecvHalf) → at s.receiving.halves.live id ≡ Some g → takes_limits g ≡ true → HasGrown window (bytes_read_of g.arrived) (2 ^ 62 - 1) g.announced → ⊥
      stream_held g found takes grew =
          let same : s.receiving.stream_window ≡ window = b.newest.says.stream_window in
          let here : HasGrown s.receiving.stream_window (bytes_read_of g.arrived) greatest_offset g.announced = subst (λ (n : ℕ). HasGrown n (bytes_read_of g.arrived) greatest_offset g.announced) (sym same) grew in
          no_limit_waits y.end b.theirs b.reader_rests (StreamData id) (ap takes_limits_of found ∙ takes)
          ((b.grown.each).each id g found (and_from (takes_limits g) _ takes (le-leb (g.announced + least_growth s.receiving.stream_window) (raised_on s.receiving.stream_window g) (omega arith))))

      read_on : (g : RecvHalf) → at s.receiving.halves.live id ≡ Some g → g.stopped ≡ false → g.reset ≡ None → g.final ≡ None → Left_on
      read_on g found unstopped free open_end =
          let r : IsRead id g = record { found = found; unstopped = unstopped; free = free } in
          let takes : takes_limits g ≡ true = ap not (ap (λ (t : Bool). t || is_some g.final) unstopped ∙ ap is_some open_end) in
          let l = left_out (size_in x.told id) (offsets_of (reads id y.told)) in
          let known : g.announced ≤ h.limit = half_known_limit id h g found takes tallied in
          let enough = read_enough id g r in
          let all = used_up in
          record {
            offsets = l.places;
            distinct = l.distinct;
            left = read_left id g r;
            many = much_left window (bytes_read_of g.arrived) g.announced (size_in x.told id) (length l.places) (omega arith) enough (stream_held g found takes) some small few;
          }

      -- its end isn't known
      by_end : (g : RecvHalf) (o : Option ℕ) → at s.receiving.halves.live id ≡ Some g → g.final ≡ o → Left_on
      by_end g (Some size) found is = absurd (over ((half_known id g found).sized size is).1)
      by_end g None found is = by_reset g.reset refl
        where
          by_stop : (t : Bool) → g.stopped ≡ t → g.reset ≡ None → Left_on
          by_stop false unstopped free = read_on g found unstopped free is
          by_stop true halted free =
              let stopped_here : is_some h.stopped ≡ true = tallied.stopped ∙ stop_came y x b.theirs b.reader_rests b.packets_back b.writes_back b.arrives_back b.flies_back id g found halted is in
              absurd (both_ways (is_some h.stopped) (ap is_some goes) stopped_here)

          by_reset : (o : Option ℕ) → g.reset ≡ o → Left_on
          by_reset None free = by_stop g.stopped refl free
          by_reset (Some code) reset_here = absurd (both_ways (is_some g.final) (ap is_some is) ((half_known id g found).known (ap is_some reset_here)))

      go : (o : Option RecvHalf) (used : Bool) → at s.receiving.halves.live id ≡ o → has_place s.side s.receiving.halves.places id ≡ used → Known id (at s.receiving.halves.live id) (has_place s.side s.receiving.halves.places id) → Left_on
      go (Some g) used found placed known = by_end g g.final found refl
      go None true found placed known =
          let whole : IsWhole (wrote x.told id) (b.consumed.known.final id) = subst (λ (t : Bool). Known id None t) placed (subst (λ (o : Option RecvHalf). Known id o (has_place s.side s.receiving.halves.places id)) found known) in
          absurd (over whole.1)
      go None false found placed known =
          let none : IsUntold (WasIn took) id = subst (λ (t : Bool). Known id None t) placed (subst (λ (o : Option RecvHalf). Known id o (has_place s.side s.receiving.halves.places id)) found known) in
          let reach : size_in x.told id ≤ 0 = size_reached id 0 (λ f end was brings. absurd (none f end was brings)) in
          let limit : h.limit ≡ max (first_limit x.made.streams id) (greatest (stream_limit_in id) (came_to x y).took) = tallied.limit in
          let first = b.first_each id in
          let all = used_up in
          absurd (omega arith)

  -- what was written on a stream is within what was written on all
  pub within_all_written : (id : ℕ) → size_in x.told id ≤ all_written x.told
  within_all_written id = one_written id x.told

  -- ---- any cause

  -- a write that is blocked, whatever half there is
  pub blocked_unread : (id len : ℕ) → written_to (sending_half x.end.streams id) (room x.end.streams.sending) len ≡ Err write_errors.Blocked → 0 < x.end.streams.sending.window → 0 < y.made.streams.receiving.window → y.made.streams.receiving.window < 2 ^ 62 → 0 < y.made.streams.receiving.stream_window
      → y.made.streams.receiving.stream_window < 2 ^ 62 → all_written x.told < 2 ^ 61 → size_in x.told id < 2 ^ 61 → HasUnread took y.told (least_left y.made.streams.receiving.window) ⊎ HasUnreadOn took y.told id (least_left y.made.streams.receiving.stream_window)
  blocked_unread id len blocked sends some small some_each small_each few few_each = go (sending_half x.end.streams id) refl blocked
    where
      Unread : Type 0
      Unread = HasUnread took y.told (least_left y.made.streams.receiving.window) ⊎ HasUnreadOn took y.told id (least_left y.made.streams.receiving.stream_window)

      -- nothing is buffered, so the limit is used up
      no_room : room x.end.streams.sending ≡ 0 → Unread
      no_room none = (let empty = nothing_buffered x y b.flying b.rests b.packets b.writes b.arrives b.flies in inl (all_unread (omega arith) some small few))

      by_own : (h : SendHalf) (t : Bool) → sending_half x.end.streams id ≡ Some h → is_ready h ≡ true → h.stopped ≡ None → (room_on h == 0) ≡ t → (if t then Err write_errors.Blocked else Ok (min len (min (room x.end.streams.sending) (room_on h)))) ≡ Err write_errors.Blocked → Unread
      by_own h true there ready goes none e = inr (stream_unread id h there ready goes (eqb-true (room_on h) 0 none) some_each small_each few_each)
      by_own h false there ready goes more e = cc

      by_stop : (h : SendHalf) (o : Option ℕ) → sending_half x.end.streams id ≡ Some h → is_ready h ≡ true → h.stopped ≡ o → taken_unless o h (room x.end.streams.sending) len ≡ Err write_errors.Blocked → Unread
      by_stop h (Some code) there ready stopped_here e = cc
      by_stop h None there ready goes e = by_own h (room_on h == 0) there ready goes refl e

      by_ready : (h : SendHalf) (t : Bool) → sending_half x.end.streams id ≡ Some h → is_ready h ≡ t → (if t then taken_unless h.stopped h (room x.end.streams.sending) len else Err write_errors.ClosedStream) ≡ Err write_errors.Blocked → Unread
      by_ready h true there ready e = by_stop h h.stopped there ready refl e
      by_ready h false there ready e = cc

      by_room : (h : SendHalf) (t : Bool) → sending_half x.end.streams id ≡ Some h → (room x.end.streams.sending == 0) ≡ t → (if t then Err write_errors.Blocked else (if is_ready h then taken_unless h.stopped h (room x.end.streams.sending) len else Err write_errors.ClosedStream)) ≡ Err write_errors.Blocked → Unread
      by_room h true there none e = no_room (eqb-true (room x.end.streams.sending) 0 none)
      by_room h false there more e = by_ready h (is_ready h) there refl e

      go : (o : Option SendHalf) → sending_half x.end.streams id ≡ o → written_to o (room x.end.streams.sending) len ≡ Err write_errors.Blocked → Unread
      go None there e = cc
      go (Some h) there e = by_room h (room x.end.streams.sending == 0) there refl e
