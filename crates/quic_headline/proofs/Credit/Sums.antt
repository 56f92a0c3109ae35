-- What an end consumed of all streams is the sum of what it consumed of each, with a fact of each
-- half that receives, and one of what each that is done came to.
use Rattle.std.proofs.Common.{◌≡◌, ℕ, ◌+◌, ◌<◌, Bool, true, false, ◌==◌, not, ◌&&◌, ◌||◌, Option, Some, None, refl, sym, ap, ◌∙◌, subst, arith, ◌⊎◌, inl, inr}
use Rattle.std.specs.List.{sum_by}
use Rattle.std.specs.Map.{values_of}
use Rattle.std.proofs.lemmas.Bool.{cases_eq, and_parts, eq-eqb, ne_eqb, cond-true, cond-false}
use Rattle.quic_wire_core.specs.declared.stream_id.Side.{Side}
use Rattle.quic_wire_core.specs.StreamId.{dir_of}
use Rattle.quic_streams_parts.specs.Dirs.{Counts, is_own, is_two_way}
use Rattle.quic_streams_parts.specs.Table.{at, without}
use Rattle.quic_streams_parts.specs.TableLaws.{at-without, at-without-apart}
use Rattle.quic_streams_parts.specs.RecvHalf.{RecvHalf, new_recv_half, credit, raised_on}
use Rattle.quic_streams_halves.specs.Halves.{has_place, with_half, without_half, is_done, changed_at, placed}
use Rattle.quic_streams_state.specs.declared.state.StreamsState.{StreamsState}
use Rattle.quic_streams_state.specs.State.{Receiving, consumed, is_opened, receives_on, first_window, receiving_half, with_recv, recv_done, done_if, sending_status, seen_at}
use Rattle.quic_streams_state.specs.Control.{limit_told}
use Rattle.quic_streams_laws.specs.KeepingLaws.{live_receives}
use Rattle.quic_streams_laws.specs.Each.{HalfIs}
use Rattle.quic_streams_laws.specs.EachLaws.{each_with, half_follows}
use Rattle.quic_streams_laws.specs.LimitedLaws.{sum_with, sum_without, WasReceiving, in_use, unused, was_receiving, counted}
use Rattle.quic_streams_laws.specs.SeenLaws.{last_seen}
use Rattle.quic_streams_laws.specs.ShapeLaws.{receives_may}
use Rattle.quic_streams_laws.specs.Summed.{sum_below, amount_of, on_stream, consumed_in}
use Rattle.quic_streams_laws.specs.SummedLaws.{sum_one, opened_below, amount_here, amount_apart}
use Rattle.quic_headline.proofs.Channel.AllStreams.{ids}
use Rattle.quic_headline.proofs.Channel.Received.{Stays}
use Rattle.quic_headline.proofs.Unread.Walk.{Of}

-- of a half that was never in use N is known, of one in use Q, and of one that is done, by its
-- final size, D
pub record SumsTo (N : ℕ → Type 0) (Q : ℕ → RecvHalf → Type 0) (D : ℕ → ℕ → Type 0) (side : Side) (r : Receiving) (announced configured : Counts) : Type 0 where
  pub final : ℕ → ℕ
  pub sum : consumed r ≡ sum_below ids (λ j. on_stream credit final side r.halves j)
  pub each : (id : ℕ) → HalfIs (N id) (Q id) (D id (final id)) (at r.halves.live id) (has_place side r.halves.places id)

-- other facts follow
pub sums_follow : (N N' : ℕ → Type 0) (Q Q' : ℕ → RecvHalf → Type 0) (D D' : ℕ → ℕ → Type 0) (side : Side) (r : Receiving) (announced configured : Counts) → ((id : ℕ) → N id → N' id) → ((id : ℕ) (h : RecvHalf) → Q id h → Q' id h) → ((id m : ℕ) → D id m → D' id m)
    → SumsTo N Q D side r announced configured → SumsTo N' Q' D' side r announced configured
sums_follow N N' Q Q' D D' side r announced configured n q d i = record {
  final = i.final;
  sum = i.sum;
  each = λ id. half_follows {N = N id} {N' = N' id} {Q = Q id} {Q' = Q' id} {D = D id (i.final id)} {D' = D' id (i.final id)} (n id) (q id) (d id (i.final id)) (at r.halves.live id) (has_place side r.halves.places id) (i.each id);
}

-- what was consumed of a half
credit_before : (final : ℕ → ℕ) (s : StreamsState) (id : ℕ) (h : RecvHalf) → receiving_half s id ≡ Some h → consumed_in final s id ≡ credit h
credit_before final s id h is = go (was_receiving s id h is)
  where
    go : WasReceiving s id h → consumed_in final s id ≡ credit h
    go (in_use found) = ap (λ (o : Option RecvHalf). amount_of credit (final id) o (has_place s.side s.receiving.halves.places id)) found
    go (unused found free same) = ap (λ (o : Option RecvHalf). amount_of credit (final id) o (has_place s.side s.receiving.halves.places id)) found ∙ (ap (λ (b : Bool). amount_of credit (final id) None b) free ∙ sym (ap credit same))

-- a stream with a half has an id below the bound
id_below : (before s : StreamsState) (id : ℕ) (h : RecvHalf) → receiving_half s id ≡ Some h → Stays before s → id < ids
id_below before s id h is i = (let small = opened_below s id i.few (and_parts (receives_on s.side id) (is_opened s id) (receives_may s id h i.shape is)).1 in omega arith)

module _ (N : ℕ → Type 0) (Q : ℕ → RecvHalf → Type 0) (D : ℕ → ℕ → Type 0) where
  -- a half that there is
  pub half_sums : ((id window : ℕ) → N id → Q id (new_recv_half window)) → (s : StreamsState) (id : ℕ) (h : RecvHalf) → receiving_half s id ≡ Some h → Of (SumsTo N Q D) s → Q id h
  half_sums new s id h is i = go (was_receiving s id h is)
    where
      F : Option RecvHalf → Bool → Type 0
      F o b = HalfIs (N id) (Q id) (D id (i.final id)) o b

      go : WasReceiving s id h → Q id h
      go (in_use found) = subst (λ (o : Option RecvHalf). F o (has_place s.side s.receiving.halves.places id)) found (i.each id)
      go (unused found free same) =
          let none : N id = subst (λ (b : Bool). F None b) free (subst (λ (o : Option RecvHalf). F o (has_place s.side s.receiving.halves.places id)) found (i.each id)) in
          subst (Q id) (sym same) (new id (first_window s.receiving) none)

  module _ (before : StreamsState) where
    -- one half has another value
    pub sums_with : (s : StreamsState) (id : ℕ) (old new : RecvHalf) → receiving_half s id ≡ Some old → Q id new → Stays before s → Of (SumsTo N Q D) s → Of (SumsTo N Q D) (with_recv s id new)
    sums_with s id old new is now known i =
        let f : ℕ → ℕ = consumed_in i.final s in
        let g : ℕ → ℕ = consumed_in i.final (with_recv s id new) in
        let others : (j : ℕ) → (j ≡ id → ⊥) → g j ≡ f j = λ j ne. amount_apart credit i.final s.side s.receiving.halves id new j known.shape.receiving.runs ne in
        let here : g id ≡ credit new = amount_here credit i.final s.side s.receiving.halves id new in
        let was : f id ≡ credit old = credit_before i.final s id old is in
        let sums : sum_below ids g + f id ≡ sum_below ids f + g id = sum_one ids id f g (id_below before s id old is known) others in
        let table : sum_by credit (values_of (with_half s.side s.receiving.halves id new).live) + credit old ≡ sum_by credit (values_of s.receiving.halves.live) + credit new = sum_with credit s.side s.receiving.halves id old new known.shape.receiving.sorted (counted credit s id old is refl) in
        let had : consumed s.receiving ≡ sum_below ids f = i.sum in
        record {
          final = i.final;
          sum = (let r : consumed (with_recv s id new).receiving ≡ sum_below ids g = omega (arith, table, sums, had, here, was) in r);
          each = each_with s.side s.receiving.halves id new N N (λ j h. Q j h) (λ j h. Q j h) (λ j. D j (i.final j)) (λ j. D j (i.final j)) known.shape.receiving.runs now (λ j o used ne x. x) i.each;
        }

    -- one is done
    pub sums_done : (s : StreamsState) (id : ℕ) (h : RecvHalf) → at s.receiving.halves.live id ≡ Some h → D id h.seen → Stays before s → Of (SumsTo N Q D) s → Of (SumsTo N Q D) (recv_done s id)
    sums_done s id h is now known i =
        let there : receiving_half s id ≡ Some h = live_receives s id h is in
        let used : has_place s.side s.receiving.halves.places id ≡ true = known.shape.receiving.placed id h is in
        let final : ℕ → ℕ = last_seen i.final id h.seen in
        let final_here : final id ≡ h.seen = cond-true (id == id) h.seen (i.final id) (eq-eqb id id refl) in
        let final_apart : (j : ℕ) → (j ≡ id → ⊥) → final j ≡ i.final j = λ j ne. cond-false (j == id) h.seen (i.final j) (ne_eqb j id ne) in
        let f : ℕ → ℕ = consumed_in i.final s in
        let g : ℕ → ℕ = λ j. on_stream credit final s.side (without_half s.receiving.halves id) j in
        let others : (j : ℕ) → (j ≡ id → ⊥) → g j ≡ f j = λ j ne.
        ap (λ (o : Option RecvHalf). amount_of credit (final j) o (has_place s.side s.receiving.halves.places j)) (at-without-apart s.receiving.halves.live id j ne)
        ∙ ap (λ (m : ℕ). amount_of credit m (at s.receiving.halves.live j) (has_place s.side s.receiving.halves.places j)) (final_apart j ne) in
        let here : g id ≡ h.seen =
        ap (λ (o : Option RecvHalf). amount_of credit (final id) o (has_place s.side s.receiving.halves.places id)) (at-without s.receiving.halves.live id known.shape.receiving.sorted)
        ∙ (ap (λ (b : Bool). amount_of {A = RecvHalf} credit (final id) None b) used ∙ final_here) in
        let was : f id ≡ credit h = credit_before i.final s id h there in
        let sums : sum_below ids g + f id ≡ sum_below ids f + g id = sum_one ids id f g (id_below before s id h there known) others in
        let table : sum_by credit (values_of (without_half s.receiving.halves id).live) + credit h ≡ sum_by credit (values_of s.receiving.halves.live) = sum_without credit s.receiving.halves id h is in
        let gained : seen_at (at s.receiving.halves.live id) ≡ h.seen = ap seen_at is in
        let had : consumed s.receiving ≡ sum_below ids f = i.sum in
        let after : Receiving = record s.receiving { halves = without_half s.receiving.halves id; gone = s.receiving.gone + seen_at (at s.receiving.halves.live id) } in
        let all : consumed after ≡ sum_below ids g = omega (arith, table, sums, had, here, was, gained) in
        done_on (not (is_own s.side id) && (not (is_two_way (dir_of id)) || is_done (sending_status s id))) (record { final = final; sum = all; each = λ j. each_on final used final_here final_apart j (cases_eq j id) })
      where
        gone : StreamsState
        gone = record s { receiving = record s.receiving { halves = without_half s.receiving.halves id; gone = s.receiving.gone + seen_at (at s.receiving.halves.live id) } }

        done_on : (b : Bool) → Of (SumsTo N Q D) gone → Of (SumsTo N Q D) (done_if b id gone)
        done_on true j = j
        done_on false j = j

        F : (ℕ → ℕ) → ℕ → Option RecvHalf → Bool → Type 0
        F final j o b = HalfIs (N j) (Q j) (D j (final j)) o b

        refinal : (final : ℕ → ℕ) (j : ℕ) (o : Option RecvHalf) (b : Bool) → final j ≡ i.final j → F i.final j o b → F final j o b
        refinal final j (Some x) b same y = y
        refinal final j None true same y = subst (D j) (sym same) y
        refinal final j None false same y = y

        each_on : (final : ℕ → ℕ) → has_place s.side s.receiving.halves.places id ≡ true → final id ≡ h.seen → ((j : ℕ) → (j ≡ id → ⊥) → final j ≡ i.final j) → (j : ℕ) → (j ≡ id) ⊎ (j ≡ id → ⊥)
            → F final j (at (without s.receiving.halves.live id) j) (has_place s.side s.receiving.halves.places j)
        each_on final used here apart j (inl same) =
            let there : F final id (at (without s.receiving.halves.live id) id) (has_place s.side s.receiving.halves.places id) =
            subst (λ (o : Option RecvHalf). F final id o (has_place s.side s.receiving.halves.places id)) (sym (at-without s.receiving.halves.live id known.shape.receiving.sorted))
            (subst (λ (b : Bool). F final id None b) (sym used) (subst (D id) (sym here) now)) in
            subst (λ (x : ℕ). F final x (at (without s.receiving.halves.live id) x) (has_place s.side s.receiving.halves.places x)) (sym same) there
        each_on final used here apart j (inr ne) =
            subst (λ (o : Option RecvHalf). F final j o (has_place s.side s.receiving.halves.places j)) (sym (at-without-apart s.receiving.halves.live id j ne))
            (refinal final j (at s.receiving.halves.live j) (has_place s.side s.receiving.halves.places j) (apart j ne) (i.each j))

    -- the peer is told of a limit
    pub sums_told : ((j : ℕ) (h : RecvHalf) (n : ℕ) → Q j h → Q j (record h { announced = n })) → (s : StreamsState) (id : ℕ) → Stays before s → Of (SumsTo N Q D) s → Of (SumsTo N Q D) (record s { receiving = limit_told s.receiving id })
    sums_told still s id known i = go (at s.receiving.halves.live id) refl
      where
        raised : RecvHalf → RecvHalf
        raised h = record h { announced = raised_on s.receiving.stream_window h }

        told : Option RecvHalf → StreamsState
        told o = record s { receiving = record s.receiving { halves = record s.receiving.halves { live = changed_at o raised s.receiving.halves.live id } } }

        F : Option RecvHalf → Type 0
        F o = HalfIs (N id) (Q id) (D id (i.final id)) o (has_place s.side s.receiving.halves.places id)

        go : (o : Option RecvHalf) → at s.receiving.halves.live id ≡ o → Of (SumsTo N Q D) (told o)
        go None is = i
        go (Some h) is =
            let was : Q id h = subst F is (i.each id) in
            let now : Of (SumsTo N Q D) (with_recv s id (raised h)) = sums_with s id h (raised h) (live_receives s id h is) (still id h (raised_on s.receiving.stream_window h) was) known i in
            subst (λ (o : Option RecvHalf). Of (SumsTo N Q D) (record s { receiving = record s.receiving { halves = placed o s.side s.receiving.halves id (raised h) } })) is now
