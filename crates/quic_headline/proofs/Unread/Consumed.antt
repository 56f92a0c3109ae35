-- What an end consumed of all streams is the sum of what it consumed of each; and what is known of
-- each half that receives, also of those that are done: these saw all that was written (RFC 9000,
-- section 4.1).
use Rattle.std.proofs.Common.{◌≡◌, ℕ, ◌+◌, ◌<◌, Bool, true, false, ◌==◌, Option, Some, None, refl, sym, ap, ◌∙◌, subst, arith, ◌⊎◌, inl, inr}
use Rattle.std.specs.Prelude.{◌&&◌, ◌||◌, not}
use Rattle.std.specs.List.{sum_by}
use Rattle.std.specs.Map.{values_of}
use Rattle.std.proofs.lemmas.Bool.{cases_eq, and_parts, eq-eqb, ne_eqb, cond-true, cond-false}
use Rattle.quic_wire_core.specs.declared.stream_id.Side.{Side}
use Rattle.quic_wire_core.specs.StreamId.{dir_of}
use Rattle.quic_wire.specs.Value.{FrameValue}
use Rattle.quic_streams_parts.specs.Dirs.{Counts, is_own, is_two_way}
use Rattle.quic_streams_parts.specs.Table.{at, without}
use Rattle.quic_streams_parts.specs.TableLaws.{at-without, at-without-apart}
use Rattle.quic_streams_parts.specs.RecvHalf.{RecvHalf, credit, raised_on}
use Rattle.quic_streams_halves.specs.Halves.{has_place, with_half, without_half, is_done, changed_at, placed}
use Rattle.quic_streams_state.specs.declared.state.StreamsState.{StreamsState}
use Rattle.quic_streams_state.specs.State.{Receiving, consumed, is_opened, receives_on, first_window, receiving_half, with_recv, recv_done, done_if, sending_status, seen_at}
use Rattle.quic_streams_state.specs.Opening.{opened_by, beyond}
use Rattle.quic_streams_state.specs.Control.{limit_told}
use Rattle.quic_streams_laws.specs.Keeping.{EndsThere, ReceivesOn}
use Rattle.quic_streams_laws.specs.Keeping as changes
use Rattle.quic_streams_laws.specs.KeepingLaws.{live_receives, by_opened, by_read_begun, by_next, by_stop, by_received_reset}
use Rattle.quic_streams_laws.specs.ContentLaws.{by_next_answer}
use Rattle.quic_streams_laws.specs.Each.{HalfIs}
use Rattle.quic_streams_laws.specs.EachLaws.{each_with}
use Rattle.quic_streams_laws.specs.LimitedLaws.{sum_with, sum_without, WasReceiving, in_use, unused, was_receiving, counted}
use Rattle.quic_streams_laws.specs.QuietLaws.{is_quiet}
use Rattle.quic_streams_laws.specs.SeenLaws.{last_seen}
use Rattle.quic_streams_laws.specs.ShapeLaws.{receives_may}
use Rattle.quic_streams_laws.specs.Summed.{sum_below, amount_of, on_stream, consumed_in}
use Rattle.quic_streams_laws.specs.SummedLaws.{sum_one, opened_below, amount_here, amount_apart}
use Rattle.quic_streams_laws.specs.Written.{Wrote, Grows}
use Rattle.quic_headline.proofs.Halves.Ghosts.{SaysOf}
use Rattle.quic_headline.proofs.Halves.ReadCalls.{IsKept}
use Rattle.quic_headline.proofs.Channel.AllStreams.{ids}
use Rattle.quic_headline.proofs.Channel.Below.{IsBelow, frame_below, reset_below, read_below, begun_below, stopped_below}
use Rattle.quic_headline.proofs.Channel.Received.{Stays, Comes, half_within, stays_kept}
use Rattle.quic_headline.proofs.Unread.Walk.{Of, Change, begins, reads, stops, takes, resets, IsLast, Steps}
use Rattle.quic_headline.proofs.Unread.Half.{Brings, IsTold, IsUntold, IsWhole, new_told, change_told, last_whole, told_fewer, told_grows, whole_grows}

-- ---- what is known of the streams before a change

-- each change of a half goes on as streams do
comes_of : (G : FrameValue → Type 0) (r : Receiving) (id : ℕ) (old new : RecvHalf) → Change G r id old new → Comes r id old new
comes_of G r id old new (begins is) = λ below ended. subst (λ (h : RecvHalf). ReceivesOn r old h × IsBelow h) (sym is) (begun_below r old below)
comes_of G r id old new (reads most c e is) = λ below ended. subst (λ (h : RecvHalf). ReceivesOn r old h × IsBelow h) (sym is) (read_below r old most below)
comes_of G r id old new (stops free is) = λ below ended. subst (λ (h : RecvHalf). ReceivesOn r old h × IsBelow h) (sym is) (stopped_below r old below)
comes_of G r id old new (takes f says of_id u is) = λ below ended. subst (λ (h : RecvHalf). ReceivesOn r old h × IsBelow h) (sym is) (frame_below r old f u below)
comes_of G r id old new (resets f says of_id u is) = λ below ended. subst (λ (h : RecvHalf). ReceivesOn r old h × IsBelow h) (sym is) (reset_below r old f.code f.final_size ended u below)

module _ (before : StreamsState) where
  abbrev I : StreamsState → Type 0
  I = Stays before

  pub known_calls : IsKept I
  known_calls = record {
    quiet = is_quiet I (stays_kept before);
    begun = λ s id ordered i. by_read_begun I (stays_kept before) s id ordered (λ h e b ended. begun_below s.receiving h b) i;
    next = λ told s id most answer is i. by_next_answer I told s id most answer is (by_next I (stays_kept before) told s id most (λ h c e f b ended. read_below s.receiving h most b) i) i;
    stop = λ s p id code i. by_stop I (stays_kept before) s p id code (λ h e b ended. stopped_below s.receiving h b) i;
    received_reset = λ s p id i. by_received_reset I (stays_kept before) s p id i;
  }

  pub known_with : (G : FrameValue → Type 0) (s : StreamsState) (id : ℕ) (old new : RecvHalf) → receiving_half s id ≡ Some old → Change G s.receiving id old new → I s → I (with_recv s id new)
  known_with G s id old new is change i = stays_kept before (changes.changes_receiving s.receiving id old new) s (is, (comes_of G s.receiving id old new change), refl) i

  pub known_opened : (s : StreamsState) (id : ℕ) → beyond s id ≡ None → I s → I (opened_by s id)
  known_opened s id within i = by_opened I (stays_kept before) s id within i

  -- the final size of a half is what was seen of it
  pub ended_there : (s : StreamsState) (id : ℕ) (h : RecvHalf) → receiving_half s id ≡ Some h → I s → EndsThere h
  ended_there s id h is i = (half_within before s id h is i.receives).ended

  -- a stream with a half has an id below the bound
  id_below : (s : StreamsState) (id : ℕ) (h : RecvHalf) → receiving_half s id ≡ Some h → I s → id < ids
  id_below s id h is i = (let small = opened_below s id i.few (and_parts (receives_on s.side id) (is_opened s id) (receives_may s id h i.shape is)).1 in omega arith)

-- ---- what is known

-- by what was done on each stream, and the frames that were taken
pub record Consumes (done : ℕ → Wrote) (taken : FrameValue → Type 0) (side : Side) (r : Receiving) (announced configured : Counts) : Type 0 where
  pub final : ℕ → ℕ
  pub sum : consumed r ≡ sum_below ids (λ j. on_stream credit final side r.halves j)
  pub each : (id : ℕ) → HalfIs (IsUntold taken id) (IsTold (done id) taken id) (IsWhole (done id) (final id)) (at r.halves.live id) (has_place side r.halves.places id)

-- a half that there is
pub half_told : (done : ℕ → Wrote) (taken : FrameValue → Type 0) (s : StreamsState) (id : ℕ) (h : RecvHalf) → receiving_half s id ≡ Some h → Of (Consumes done taken) s → IsTold (done id) taken id h
half_told done taken s id h is i = go (was_receiving s id h is)
  where
    F : Option RecvHalf → Bool → Type 0
    F o b = HalfIs (IsUntold taken id) (IsTold (done id) taken id) (IsWhole (done id) (i.final id)) o b

    go : WasReceiving s id h → IsTold (done id) taken id h
    go (in_use found) = subst (λ (o : Option RecvHalf). F o (has_place s.side s.receiving.halves.places id)) found (i.each id)
    go (unused found free same) =
        let none : IsUntold taken id = subst (λ (b : Bool). F None b) free (subst (λ (o : Option RecvHalf). F o (has_place s.side s.receiving.halves.places id)) found (i.each id)) in
        subst (IsTold (done id) taken id) (sym same) (new_told (done id) taken id (first_window s.receiving) none)

-- what was consumed of a half
credit_before : (final : ℕ → ℕ) (s : StreamsState) (id : ℕ) (h : RecvHalf) → receiving_half s id ≡ Some h → consumed_in final s id ≡ credit h
credit_before final s id h is = go (was_receiving s id h is)
  where
    go : WasReceiving s id h → consumed_in final s id ≡ credit h
    go (in_use found) = ap (λ (o : Option RecvHalf). amount_of credit (final id) o (has_place s.side s.receiving.halves.places id)) found
    go (unused found free same) = ap (λ (o : Option RecvHalf). amount_of credit (final id) o (has_place s.side s.receiving.halves.places id)) found ∙ (ap (λ (b : Bool). amount_of credit (final id) None b) free ∙ sym (ap credit same))

module _ (done : ℕ → Wrote) (before : StreamsState) where
  -- one half has another value: of the others no more is known than was
  pub with_value : (taken more : FrameValue → Type 0) (s : StreamsState) (id : ℕ) (old new : RecvHalf) → receiving_half s id ≡ Some old → IsTold (done id) more id new → ((j : ℕ) → (j ≡ id → ⊥) → (f : FrameValue) (end : ℕ) → Brings f j end → more f → taken f)
      → Stays before s → Of (Consumes done taken) s → Of (Consumes done more) (with_recv s id new)
  with_value taken more s id old new is now apart known i =
      let f : ℕ → ℕ = consumed_in i.final s in
      let g : ℕ → ℕ = consumed_in i.final (with_recv s id new) in
      let others : (j : ℕ) → (j ≡ id → ⊥) → g j ≡ f j = λ j ne. amount_apart credit i.final s.side s.receiving.halves id new j known.shape.receiving.runs ne in
      let here : g id ≡ credit new = amount_here credit i.final s.side s.receiving.halves id new in
      let was : f id ≡ credit old = credit_before i.final s id old is in
      let sums : sum_below ids g + f id ≡ sum_below ids f + g id = sum_one ids id f g (id_below before s id old is known) others in
      let table : sum_by credit (values_of (with_half s.side s.receiving.halves id new).live) + credit old ≡ sum_by credit (values_of s.receiving.halves.live) + credit new = sum_with credit s.side s.receiving.halves id old new known.shape.receiving.sorted (counted credit s id old is refl) in
      let had : consumed s.receiving ≡ sum_below ids f = i.sum in
      record {
        final = i.final;
        sum = (let r : consumed (with_recv s id new).receiving ≡ sum_below ids g = omega (arith, table, sums, had, here, was) in r);
        each = each_with s.side s.receiving.halves id new (IsUntold taken) (IsUntold more) (λ j h. IsTold (done j) taken j h) (λ j h. IsTold (done j) more j h) (λ j. IsWhole (done j) (i.final j)) (λ j. IsWhole (done j) (i.final j)) known.shape.receiving.runs now
            (λ j o used ne x. fewer j o used (apart j ne) x) i.each;
      }
    where
      fewer : (j : ℕ) (o : Option RecvHalf) (used : Bool) → ((f : FrameValue) (end : ℕ) → Brings f j end → more f → taken f) → HalfIs (IsUntold taken j) (IsTold (done j) taken j) (IsWhole (done j) (i.final j)) o used → HalfIs (IsUntold more j) (IsTold (done j) more j) (IsWhole (done j) (i.final j)) o used
      fewer j (Some h) used less x = told_fewer (done j) taken more j h less x
      fewer j None true less x = x
      fewer j None false less x = λ f end was brings. x f end (less f end brings was) brings

  module _ (taken : FrameValue → Type 0) where
    abbrev K : Side → Receiving → Counts → Counts → Type 0
    K = Consumes done taken

    changes_on : (s : StreamsState) (id : ℕ) (old new : RecvHalf) → receiving_half s id ≡ Some old → Change (SaysOf done) s.receiving id old new → Stays before s → Of K s → Of K (with_recv s id new)
    changes_on s id old new is change known i = with_value taken taken s id old new is (change_told done taken s.receiving id old new (ended_there before s id old is known) change (half_told done taken s id old is i)) (λ j ne f end brings was. was) known i

    -- one is done
    ends_on : (s : StreamsState) (id : ℕ) (h : RecvHalf) → at s.receiving.halves.live id ≡ Some h → IsLast h → Stays before s → Of K s → Of K (recv_done s id)
    ends_on s id h is last known i =
        let there : receiving_half s id ≡ Some h = live_receives s id h is in
        let used : has_place s.side s.receiving.halves.places id ≡ true = known.shape.receiving.placed id h is in
        let told : IsTold (done id) taken id h = half_told done taken s id h there i in
        let whole : IsWhole (done id) h.seen = last_whole (done id) taken id h (ended_there before s id h there known) told last in
        let final : ℕ → ℕ = last_seen i.final id h.seen in
        let final_here : final id ≡ h.seen = cond-true (id == id) h.seen (i.final id) (eq-eqb id id refl) in
        let final_apart : (j : ℕ) → (j ≡ id → ⊥) → final j ≡ i.final j = λ j ne. cond-false (j == id) h.seen (i.final j) (ne_eqb j id ne) in
        let f : ℕ → ℕ = consumed_in i.final s in
        let g : ℕ → ℕ = λ j. on_stream credit final s.side (without_half s.receiving.halves id) j in
        let others : (j : ℕ) → (j ≡ id → ⊥) → g j ≡ f j = λ j ne.
        ap (λ (o : Option RecvHalf). amount_of credit (final j) o (has_place s.side s.receiving.halves.places j)) (at-without-apart s.receiving.halves.live id j ne)
        ∙ ap (λ (m : ℕ). amount_of credit m (at s.receiving.halves.live j) (has_place s.side s.receiving.halves.places j)) (final_apart j ne) in
        let here : g id ≡ h.seen =
        ap (λ (o : Option RecvHalf). amount_of credit (final id) o (has_place s.side s.receiving.halves.places id)) (at-without s.receiving.halves.live id known.shape.receiving.sorted)
        ∙ (ap (λ (b : Bool). amount_of {A = RecvHalf} credit (final id) None b) used ∙ final_here) in
        let was : f id ≡ credit h = credit_before i.final s id h there in
        let sums : sum_below ids g + f id ≡ sum_below ids f + g id = sum_one ids id f g (id_below before s id h there known) others in
        let table : sum_by credit (values_of (without_half s.receiving.halves id).live) + credit h ≡ sum_by credit (values_of s.receiving.halves.live) = sum_without credit s.receiving.halves id h is in
        let gained : seen_at (at s.receiving.halves.live id) ≡ h.seen = ap seen_at is in
        let had : consumed s.receiving ≡ sum_below ids f = i.sum in
        let now : Receiving = record s.receiving { halves = without_half s.receiving.halves id; gone = s.receiving.gone + seen_at (at s.receiving.halves.live id) } in
        let all : consumed now ≡ sum_below ids g = omega (arith, table, sums, had, here, was, gained) in
        done_on (not (is_own s.side id) && (not (is_two_way (dir_of id)) || is_done (sending_status s id))) (record { final = final; sum = all; each = λ j. each_on final used whole final_here final_apart j (cases_eq j id) })
      where
        gone : StreamsState
        gone = record s { receiving = record s.receiving { halves = without_half s.receiving.halves id; gone = s.receiving.gone + seen_at (at s.receiving.halves.live id) } }

        done_on : (b : Bool) → Of K gone → Of K (done_if b id gone)
        done_on true j = j
        done_on false j = j

        F : (ℕ → ℕ) → ℕ → Option RecvHalf → Bool → Type 0
        F final j o b = HalfIs (IsUntold taken j) (IsTold (done j) taken j) (IsWhole (done j) (final j)) o b

        refinal : (final : ℕ → ℕ) (j : ℕ) (o : Option RecvHalf) (b : Bool) → final j ≡ i.final j → F i.final j o b → F final j o b
        refinal final j (Some x) b same y = y
        refinal final j None true same y = subst (IsWhole (done j)) (sym same) y
        refinal final j None false same y = y

        each_on : (final : ℕ → ℕ) → has_place s.side s.receiving.halves.places id ≡ true → IsWhole (done id) h.seen → final id ≡ h.seen → ((j : ℕ) → (j ≡ id → ⊥) → final j ≡ i.final j) → (j : ℕ) → (j ≡ id) ⊎ (j ≡ id → ⊥)
            → F final j (at (without s.receiving.halves.live id) j) (has_place s.side s.receiving.halves.places j)
        each_on final used whole here apart j (inl same) =
            let there : F final id (at (without s.receiving.halves.live id) id) (has_place s.side s.receiving.halves.places id) =
            subst (λ (o : Option RecvHalf). F final id o (has_place s.side s.receiving.halves.places id)) (sym (at-without s.receiving.halves.live id known.shape.receiving.sorted))
            (subst (λ (b : Bool). F final id None b) (sym used) (subst (IsWhole (done id)) (sym here) whole)) in
            subst (λ (x : ℕ). F final x (at (without s.receiving.halves.live id) x) (has_place s.side s.receiving.halves.places x)) (sym same) there
        each_on final used whole here apart j (inr ne) =
            subst (λ (o : Option RecvHalf). F final j o (has_place s.side s.receiving.halves.places j)) (sym (at-without-apart s.receiving.halves.live id j ne))
            (refinal final j (at s.receiving.halves.live j) (has_place s.side s.receiving.halves.places j) (apart j ne) (i.each j))

    pub consumed_steps : Steps (SaysOf done) (Stays before) K
    consumed_steps = record { known = known_with before (SaysOf done); changes = changes_on; ends = ends_on }

    -- ---- limits are told

    told_on : (h : RecvHalf) (n id : ℕ) → IsTold (done id) taken id h → IsTold (done id) taken id (record h { announced = n })
    told_on h n id i = record { reached = i.reached; reset = i.reset; known = i.known; sized = i.sized }

    pub limit_consumes : (s : StreamsState) (id : ℕ) → Stays before s → Of K s → Of K (record s { receiving = limit_told s.receiving id })
    limit_consumes s id known i = go (at s.receiving.halves.live id) refl
      where
        raised : RecvHalf → RecvHalf
        raised h = record h { announced = raised_on s.receiving.stream_window h }

        told : Option RecvHalf → StreamsState
        told o = record s { receiving = record s.receiving { halves = record s.receiving.halves { live = changed_at o raised s.receiving.halves.live id } } }

        go : (o : Option RecvHalf) → at s.receiving.halves.live id ≡ o → Of K (told o)
        go None is = i
        go (Some h) is =
            let there : receiving_half s id ≡ Some h = live_receives s id h is in
            let now : Of K (with_recv s id (raised h)) = with_value taken taken s id h (raised h) there (told_on h (raised_on s.receiving.stream_window h) id (half_told done taken s id h there i)) (λ j ne f end brings was. was) known i in
            subst (λ (o : Option RecvHalf). Of K (record s { receiving = record s.receiving { halves = placed o s.side s.receiving.halves id (raised h) } })) is now

-- ---- where more was done, or other frames were taken

-- what was done only grows
pub consumes_grow : (done more : ℕ → Wrote) (taken : FrameValue → Type 0) (side : Side) (r : Receiving) (announced configured : Counts) → ((id : ℕ) → Grows (done id) (more id)) → Consumes done taken side r announced configured → Consumes more taken side r announced configured
consumes_grow done more taken side r announced configured grows i = record { final = i.final; sum = i.sum; each = λ id. go id (at r.halves.live id) (has_place side r.halves.places id) (i.each id) }
  where
    go : (id : ℕ) (o : Option RecvHalf) (b : Bool) → HalfIs (IsUntold taken id) (IsTold (done id) taken id) (IsWhole (done id) (i.final id)) o b → HalfIs (IsUntold taken id) (IsTold (more id) taken id) (IsWhole (more id) (i.final id)) o b
    go id (Some h) b x = told_grows (done id) (more id) taken id h (grows id) x
    go id None true x = whole_grows (done id) (more id) (i.final id) (grows id) x
    go id None false x = x

-- of fewer frames, or of some that bring nothing more
pub consumes_fewer : (done : ℕ → Wrote) (taken fewer : FrameValue → Type 0) (side : Side) (r : Receiving) (announced configured : Counts) → ((f : FrameValue) (id end : ℕ) → Brings f id end → fewer f → taken f) → Consumes done taken side r announced configured → Consumes done fewer side r announced configured
consumes_fewer done taken fewer side r announced configured less i = record { final = i.final; sum = i.sum; each = λ id. go id (at r.halves.live id) (has_place side r.halves.places id) (i.each id) }
  where
    go : (id : ℕ) (o : Option RecvHalf) (b : Bool) → HalfIs (IsUntold taken id) (IsTold (done id) taken id) (IsWhole (done id) (i.final id)) o b → HalfIs (IsUntold fewer id) (IsTold (done id) fewer id) (IsWhole (done id) (i.final id)) o b
    go id (Some h) b x = told_fewer (done id) taken fewer id h (λ f end brings was. less f id end brings was) x
    go id None true x = x
    go id None false x = λ f end was brings. x f end (less f id end brings was) brings
