-- What an end saw of all streams is the sum of what it saw of each, which is no more than was
-- written there.
use Rattle.std.proofs.Common.{◌≡◌, ℕ, ◌+◌, ◌-◌, ◌^◌, ◌<◌, ◌≤◌, max, Bool, true, false, Option, Some, None, refl, sym, ap, ◌∙◌, subst, inl, inr, arith}
use Rattle.std.specs.Prelude.{◌==◌, ◌&&◌, ◌||◌, not, if◌then◌else◌}
use Rattle.std.specs.List.{sum_by}
use Rattle.std.specs.Map.{values_of}
use Rattle.std.specs.Option.{is_some}
use Rattle.std.proofs.lemmas.Bool.{cases_eq, cond_both, and_parts, eq-eqb, ne_eqb, cond-true, cond-false}
use Rattle.quic_wire_core.specs.StreamId.{dir_of}
use Rattle.quic_wire_core.specs.declared.stream_id.Side.{Side}
use Rattle.quic_wire_core.specs.declared.stream_id.Dir.TheVariants.{Bi, Uni}
use Rattle.quic_wire_core.specs.declared.stream_id.Dir.{Dir}
use Rattle.quic_parameters.specs.Parameters.{ParameterValues}
use Rattle.quic_wire.specs.Value.{FrameValue, StreamValue, ResetStreamValue, stream, reset_stream}
use Rattle.quic_streams_parts.specs.declared.answers.Breach.{Breach}
use Rattle.quic_streams_parts.specs.Dirs.{of, is_own, is_two_way}
use Rattle.quic_streams_parts.specs.Table.{at}
use Rattle.quic_streams_parts.specs.SendHalf.{SendHalf}
use Rattle.quic_streams_parts.specs.RecvHalf.{RecvHalf, end_of, after_frame, after_reset_stream, raised_on}
use Rattle.quic_streams_halves.specs.Halves.{has_place, no_places, with_half, without_half, is_done}
use Rattle.quic_streams_state.specs.declared.state.StreamsState.{StreamsState}
use Rattle.quic_streams_state.specs.State.{Receiving, seen, is_opened, receives_on, receiving_half, with_recv, send_done, without_send, recv_done, done_if, receiving_status, sending_status, seen_at, new_streams, after_set_params}
use Rattle.quic_streams_state.specs.Opening.{opens, opened_by, opened_if, beyond, receiving_refusal}
use Rattle.quic_streams_state.specs.Taking.{joined, part_for}
use Rattle.quic_streams_laws.specs.Keeping.{KeepsBy}
use Rattle.quic_streams_laws.specs.Keeping as changes
use Rattle.quic_streams_laws.specs.KeepingLaws.{live_receives, by_opened, by_read_begun, by_next, by_stop, by_received_reset, by_stream, by_reset_frame}
use Rattle.quic_streams_laws.specs.QuietLaws.{is_quiet}
use Rattle.quic_streams_laws.specs.ContentLaws.{by_next_answer}
use Rattle.quic_streams_laws.specs.Shape.{IsShaped}
use Rattle.quic_streams_laws.specs.ShapeLaws.{shape_any, receives_may}
use Rattle.quic_streams_laws.specs.StartLaws.{shape_new, shape_set_params, few_new, few_set_params}
use Rattle.quic_streams_laws.specs.Few.{AreFew}
use Rattle.quic_streams_laws.specs.FewLaws.{few_any}
use Rattle.quic_streams_laws.specs.LimitedLaws.{sum_with, sum_without, WasReceiving, in_use, unused, was_receiving, counted}
use Rattle.quic_streams_laws.specs.Summed.{sum_below, amount_of, on_stream, seen_in}
use Rattle.quic_streams_laws.specs.SummedLaws.{sum_same, sum_one, opened_below, amount_here, amount_apart, amount_done, ended_with}
use Rattle.quic_machine.specs.End.{End}
use Rattle.quic_machine.specs.Receive.{take_frame}
use Rattle.quic_headline.proofs.Halves.QuietSteps.{frame_quiet}
use Rattle.quic_headline.proofs.Halves.ReadCalls.{IsKept}
use Rattle.quic_headline.proofs.Channel.Sums.{sum_within, sum_has, sum_none}

-- ---- one half

-- what was seen of a half
seen_before : (final : ℕ → ℕ) (s : StreamsState) (id : ℕ) (h : RecvHalf) → receiving_half s id ≡ Some h → seen_in final s id ≡ h.seen
seen_before final s id h e = go (was_receiving s id h e)
  where
    go : WasReceiving s id h → seen_in final s id ≡ h.seen
    go (in_use is) = ap (λ (o : Option RecvHalf). amount_of (λ (g : RecvHalf). g.seen) (final id) o (has_place s.side s.receiving.halves.places id)) is
    go (unused is free same) =
        ap (λ (o : Option RecvHalf). amount_of (λ (g : RecvHalf). g.seen) (final id) o (has_place s.side s.receiving.halves.places id)) is
        ∙ (ap (λ (b : Bool). amount_of {A = RecvHalf} (λ (g : RecvHalf). g.seen) (final id) None b) free ∙ sym (ap (λ (g : RecvHalf). g.seen) same))

done_receiving : (b : Bool) (id : ℕ) (s : StreamsState) → (done_if b id s).receiving ≡ s.receiving
done_receiving true id s = refl
done_receiving false id s = refl

done_side : (b : Bool) (id : ℕ) (s : StreamsState) → (done_if b id s).side ≡ s.side
done_side true id s = refl
done_side false id s = refl

joined_same : (s : StreamsState) (id : ℕ) (h : SendHalf) → ((joined s id h).receiving ≡ s.receiving) × ((joined s id h).side ≡ s.side)
joined_same s id h = cond_both h.blocked s _ (λ (t : StreamsState). (t.receiving ≡ s.receiving) × (t.side ≡ s.side)) (λ e. (refl, refl)) (λ e. (refl, refl))

-- a stream whose frames aren't refused by its id is opened, or may be
pub receives_within : (s : StreamsState) (id : ℕ) → receiving_refusal s id ≡ None → beyond s id ≡ None
receives_within s id = cond_both {A = Option Breach} (is_own s.side id && not (is_two_way (dir_of id))) _ _ (λ (t : Option Breach). t ≡ None → beyond s id ≡ None) (λ e f. cc) (λ e f. f)

-- ---- all streams

-- a bound above all ids, and how much may come on each stream
module _ (n : ℕ) (big : 2 ^ 62 ≤ n) (w : ℕ → ℕ) where
  -- what was seen is the sum of what was seen of each stream, which is no more than may come
  pub record SeenBelow (s : StreamsState) : Type 0 where
    pub shape : IsShaped s
    pub few : AreFew s
    pub final : ℕ → ℕ
    pub sum : seen s.receiving ≡ sum_below n (seen_in final s)
    pub below : (id : ℕ) → seen_in final s id ≤ w id

  -- nothing more has come
  rest : (s t : StreamsState) → IsShaped t → AreFew t → t.receiving ≡ s.receiving → t.side ≡ s.side → SeenBelow s → SeenBelow t
  rest s t shape few same side i = record {
    shape = shape;
    few = few;
    final = i.final;
    sum = subst (λ (r : Receiving). seen r ≡ sum_below n (λ j. on_stream (λ (h : RecvHalf). h.seen) i.final t.side r.halves j)) (sym same) (subst (λ (d : Side). seen s.receiving ≡ sum_below n (λ j. on_stream (λ (h : RecvHalf). h.seen) i.final d s.receiving.halves j)) (sym side) i.sum);
    below = λ j. subst (λ (r : Receiving). on_stream (λ (h : RecvHalf). h.seen) i.final t.side r.halves j ≤ w j) (sym same) (subst (λ (d : Side). on_stream (λ (h : RecvHalf). h.seen) i.final d s.receiving.halves j ≤ w j) (sym side) (i.below j));
  }

  -- a stream with a half has an id below the bound
  id_below : (s : StreamsState) (id : ℕ) (h : RecvHalf) → receiving_half s id ≡ Some h → IsShaped s → AreFew s → id < n
  id_below s id h is shape few =
      let opened : is_opened s id ≡ true = (and_parts (receives_on s.side id) (is_opened s id) (receives_may s id h shape is)).1 in
      let small = opened_below s id few opened in
      omega arith

  -- another was seen of one
  more : (s : StreamsState) (id : ℕ) (old new : RecvHalf) → receiving_half s id ≡ Some old → (old.seen ≤ w id → new.seen ≤ w id) → IsShaped (with_recv s id new) → AreFew (with_recv s id new) → SeenBelow s → SeenBelow (with_recv s id new)
  more s id old new is fits shape few i =
      let below = id_below s id old is i.shape i.few in
      let f : ℕ → ℕ = seen_in i.final s in
      let g : ℕ → ℕ = seen_in i.final (with_recv s id new) in
      let apart : (j : ℕ) → (j ≡ id → ⊥) → g j ≡ f j = λ j ne. amount_apart (λ (h : RecvHalf). h.seen) i.final s.side s.receiving.halves id new j i.shape.receiving.runs ne in
      let here : g id ≡ new.seen = amount_here (λ (h : RecvHalf). h.seen) i.final s.side s.receiving.halves id new in
      let was : f id ≡ old.seen = seen_before i.final s id old is in
      let sums : sum_below n g + f id ≡ sum_below n f + g id = sum_one n id f g below apart in
      let table : sum_by (λ (x : RecvHalf). x.seen) (values_of (with_half s.side s.receiving.halves id new).live) + old.seen ≡ sum_by (λ (x : RecvHalf). x.seen) (values_of s.receiving.halves.live) + new.seen =
      sum_with (λ (x : RecvHalf). x.seen) s.side s.receiving.halves id old new i.shape.receiving.sorted (counted (λ (x : RecvHalf). x.seen) s id old is refl) in
      let had : seen s.receiving ≡ sum_below n f = i.sum in
      record {
        shape = shape;
        few = few;
        final = i.final;
        sum = (let r : seen (with_recv s id new).receiving ≡ sum_below n g = omega (arith, table, sums, had, here, was) in r);
        below = λ j. elim (cases_eq j id) [
          | inl same ↦ subst (λ (x : ℕ). g x ≤ w x) (sym same) (let most = i.below id in let now = fits (omega arith) in let r : g id ≤ w id = omega arith in r)
          | inr ne ↦ (let most = i.below j in let alike = apart j ne in let r : g j ≤ w j = omega arith in r)
        ];
      }

  -- one is done
  ends : (s : StreamsState) (id : ℕ) (h : RecvHalf) → at s.receiving.halves.live id ≡ Some h
      → (t : StreamsState) → t.side ≡ s.side → t.receiving ≡ record s.receiving { halves = without_half s.receiving.halves id; gone = s.receiving.gone + seen_at (at s.receiving.halves.live id) } → IsShaped t → AreFew t → SeenBelow s → SeenBelow t
  ends s id h is t side same shape few i =
      let used : has_place s.side s.receiving.halves.places id ≡ true = i.shape.receiving.placed id h is in
      let last : ℕ → ℕ = ended_with (λ (x : RecvHalf). x.seen) i.final id h in
      let f : ℕ → ℕ = seen_in i.final s in
      let g : ℕ → ℕ = λ j. on_stream (λ (x : RecvHalf). x.seen) last s.side (without_half s.receiving.halves id) j in
      let alike : (j : ℕ) → g j ≡ f j = λ j. amount_done (λ (x : RecvHalf). x.seen) i.final s.side s.receiving.halves id h j i.shape.receiving.sorted used is in
      let sums : sum_below n g ≡ sum_below n f = sum_same n f g (λ j below. alike j) in
      let table : sum_by (λ (x : RecvHalf). x.seen) (values_of (without_half s.receiving.halves id).live) + h.seen ≡ sum_by (λ (x : RecvHalf). x.seen) (values_of s.receiving.halves.live) = sum_without (λ (x : RecvHalf). x.seen) s.receiving.halves id h is in
      let gained : seen_at (at s.receiving.halves.live id) ≡ h.seen = ap seen_at is in
      let had : seen s.receiving ≡ sum_below n f = i.sum in
      let now : Receiving = record s.receiving { halves = without_half s.receiving.halves id; gone = s.receiving.gone + seen_at (at s.receiving.halves.live id) } in
      let sum_now : seen now ≡ sum_below n g = omega (arith, table, sums, had, gained) in
      record {
        shape = shape;
        few = few;
        final = last;
        sum = subst (λ (r : Receiving). seen r ≡ sum_below n (λ j. on_stream (λ (x : RecvHalf). x.seen) last t.side r.halves j)) (sym same) (subst (λ (d : Side). seen now ≡ sum_below n (λ j. on_stream (λ (x : RecvHalf). x.seen) last d now.halves j)) (sym side) sum_now);
        below = λ j. subst (λ (r : Receiving). on_stream (λ (x : RecvHalf). x.seen) last t.side r.halves j ≤ w j) (sym same) (subst (λ (d : Side). on_stream (λ (x : RecvHalf). x.seen) last d now.halves j ≤ w j) (sym side) (let most = i.below j in let alike = alike j in let r : g j ≤ w j = omega arith in r));
      }

  -- each small change keeps it
  pub below_kept : KeepsBy (λ r id old new. old.seen ≤ w id → new.seen ≤ w id) (λ s id old new. Unit {0}) (λ s id count old new. Unit {0}) SeenBelow
  below_kept (changes.joins id h) s is i = rest s (joined s id h) (shape_any (changes.joins id h) s is i.shape) (few_any (changes.joins id h) s is i.few) (joined_same s id h).0 (joined_same s id h).1 i
  below_kept (changes.ends_sending id h) s (is, over) i =
      let b : Bool = not (is_own s.side id) && is_done (receiving_status s id) in
      let t : StreamsState = without_send s id in
      rest s (send_done s id) (shape_any (changes.ends_sending id h) s (is, over) i.shape) (few_any (changes.ends_sending id h) s (is, over) i.few) (done_receiving b id t) (done_side b id t) i
  below_kept (changes.changes_receiving r id old new) s (is, on, same) i = more s id old new is on (shape_any (changes.changes_receiving r id old new) s (is, tt, same) i.shape) (few_any (changes.changes_receiving r id old new) s (is, tt, same) i.few) i
  below_kept (changes.ends_receiving id h) s is i =
      let b : Bool = not (is_own s.side id) && (not (is_two_way (dir_of id)) || is_done (sending_status s id)) in
      let t : StreamsState = record s { receiving = record s.receiving { halves = without_half s.receiving.halves id; gone = s.receiving.gone + seen_at (at s.receiving.halves.live id) } } in
      ends s id h is (recv_done s id) (done_side b id t) (done_receiving b id t) (shape_any (changes.ends_receiving id h) s is i.shape) (few_any (changes.ends_receiving id h) s is i.few) i
  below_kept changes.tells s may i = record { shape = shape_any changes.tells s tt i.shape; few = few_any changes.tells s tt i.few; final = i.final; sum = i.sum; below = i.below }
  below_kept (changes.tells_on id h) s is i = more s id h (record h { announced = raised_on s.receiving.stream_window h }) (live_receives s id h is) (λ x. x) (shape_any (changes.tells_on id h) s is i.shape) (few_any (changes.tells_on id h) s is i.few) i
  below_kept c s may i = rest s _ (shape_any c s may i.shape) (few_any c s may i.few) refl refl i

  -- so does each call that reads
  pub below_calls : IsKept SeenBelow
  below_calls = record {
    quiet = is_quiet SeenBelow below_kept;
    begun = λ s id ordered i. by_read_begun SeenBelow below_kept s id ordered (λ h e x. x) i;
    next = λ told s id most answer is i. by_next_answer SeenBelow told s id most answer is (by_next SeenBelow below_kept told s id most (λ h c e f x. x) i) i;
    stop = λ s p id code i. by_stop SeenBelow below_kept s p id code (λ h e x. x) i;
    received_reset = λ s p id i. by_received_reset SeenBelow below_kept s p id i;
  }

  -- ---- frames that come

  -- a frame brings no more than may come
  abbrev pub Fits : FrameValue → Type 0
  Fits (stream f) = end_of f ≤ w f.id
  Fits (reset_stream f) = f.final_size ≤ w f.id
  Fits f = Unit {0}

  frame_below : (h : RecvHalf) (f : StreamValue) → end_of f ≤ w f.id → h.seen ≤ w f.id → (after_frame h f).seen ≤ w f.id
  frame_below h f fits held = cond_both h.stopped _ _ (λ (g : RecvHalf). g.seen ≤ w f.id) (λ e. omega arith) (λ e. cond_both (is_some h.reset) _ _ (λ (g : RecvHalf). g.seen ≤ w f.id) (λ r. held) (λ r. omega arith))

  reset_below : (id : ℕ) (h : RecvHalf) (code size : ℕ) → size ≤ w id → h.seen ≤ w id → (after_reset_stream h code size).seen ≤ w id
  reset_below id h code size fits held = cond_both h.stopped _ _ (λ (g : RecvHalf). g.seen ≤ w id) (λ e. fits) (λ e. cond_both (is_some h.reset) _ _ (λ (g : RecvHalf). g.seen ≤ w id) (λ r. held) (λ r. fits))

  fits_stream : (f : FrameValue) (g : StreamValue) → Fits f → f ≡ stream g → end_of g ≤ w g.id
  fits_stream f g fits is = subst Fits is fits

  fits_reset : (f : FrameValue) (g : ResetStreamValue) → Fits f → f ≡ reset_stream g → g.final_size ≤ w g.id
  fits_reset f g fits is = subst Fits is fits

  -- a frame that does is taken or refused
  pub frame_seen : (f : FrameValue) (e : End) → Fits f → SeenBelow e.streams → SeenBelow (take_frame f e).end.streams
  frame_seen f e fits i = frame_quiet SeenBelow (is_quiet SeenBelow below_kept) f e
      (λ g is. by_stream SeenBelow below_kept e.streams e.waiting.frames g (λ h part u held. frame_below h g (fits_stream f g fits is) held) i)
      (λ g is. by_reset_frame SeenBelow below_kept e.streams e.waiting.frames g (λ h part u held. reset_below g.id h g.code g.final_size (fits_reset f g fits is) held) i)
      i

  -- ---- what may come more

  opened_same : (b : Bool) (id : ℕ) (s : StreamsState) → (opened_if b id s).receiving ≡ s.receiving
  opened_same true id s = refl
  opened_same false id s = refl

  -- with bytes up to an offset that may come, no more is seen of all streams than may come
  pub all_fit : (s : StreamsState) (id : ℕ) (h : RecvHalf) (end : ℕ) → receiving_refusal s id ≡ None → part_for s id ≡ Some h → end ≤ w id → SeenBelow s → seen s.receiving - h.seen + max h.seen end ≤ sum_below n w
  all_fit s id h end allowed part fits i =
      let t : StreamsState = opened_by s id in
      let j : SeenBelow t = by_opened SeenBelow below_kept s id (receives_within s id allowed) i in
      let small : id < n = id_below t id h part j.shape j.few in
      let f : ℕ → ℕ = seen_in j.final t in
      let g : ℕ → ℕ = λ q. if q == id then max h.seen end else f q in
      let here : g id ≡ max h.seen end = cond-true (id == id) (max h.seen end) (f id) (eq-eqb id id refl) in
      let apart : (q : ℕ) → (q ≡ id → ⊥) → g q ≡ f q = λ q ne. cond-false (q == id) (max h.seen end) (f q) (ne_eqb q id ne) in
      let was : f id ≡ h.seen = seen_before j.final t id h part in
      let sums : sum_below n g + f id ≡ sum_below n f + g id = sum_one n id f g small apart in
      let had : seen t.receiving ≡ sum_below n f = j.sum in
      let same : seen t.receiving ≡ seen s.receiving = ap seen (opened_same (opens s id) id s) in
      let held : f id ≤ w id = j.below id in
      let most : sum_below n g ≤ sum_below n w = sum_within n g w (λ q. elim (cases_eq q id) [
        | inl is ↦ subst (λ (x : ℕ). g x ≤ w x) (sym is) (let r : g id ≤ w id = omega arith in r)
        | inr ne ↦ (let alike = apart q ne in let low = j.below q in let r : g q ≤ w q = omega arith in r)
      ]) in
      let among : f id ≤ sum_below n f = sum_has n id f small in
      omega (arith, most, sums, had, same, here, was, among)

-- where more may come
pub seen_wider : (n : ℕ) (big : 2 ^ 62 ≤ n) (w v : ℕ → ℕ) (s : StreamsState) → ((id : ℕ) → w id ≤ v id) → SeenBelow n big w s → SeenBelow n big v s
seen_wider n big w v s more i = record { shape = i.shape; few = i.few; final = i.final; sum = i.sum; below = λ id. (let low = i.below id in let high = more id in omega arith) }

-- at the start nothing was seen
pub seen_first : (n : ℕ) (big : 2 ^ 62 ≤ n) (w : ℕ → ℕ) (side : Side) (uni bi send_window window stream_window : ℕ) (p : ParameterValues) → p.initial_max_streams_bidi ≤ 2 ^ 60 → p.initial_max_streams_uni ≤ 2 ^ 60
    → SeenBelow n big w (after_set_params (new_streams side uni bi send_window window stream_window) p)
seen_first n big w side uni bi send_window window stream_window p few_bi few_uni = record {
  shape = shape_set_params fresh p (shape_new side uni bi send_window window stream_window);
  few = few_set_params fresh p none few_bi few_uni (few_new side uni bi send_window window stream_window);
  final = λ id. 0;
  sum = (let zero = sum_none n (seen_in (λ id. 0) (after_set_params fresh p)) (λ id below. nothing id (has_place side no_places id)) in sym zero);
  below = λ id. (let zero = nothing id (has_place side no_places id) in omega arith);
}
  where
    fresh : StreamsState
    fresh = new_streams side uni bi send_window window stream_window

    none : (d : Dir) → of d fresh.opening.own ≡ 0
    none Bi = refl
    none Uni = refl

    nothing : (id : ℕ) (b : Bool) → amount_of {A = RecvHalf} (λ (h : RecvHalf). h.seen) 0 None b ≡ 0
    nothing id true = refl
    nothing id false = refl
