-- How many bytes an end keeps of all streams is what its pieces come to of which not all is
-- acknowledged.
use Rattle.std.proofs.Common.{◌≡◌, ℕ, zero, suc, ◌+◌, ◌-◌, ◌<◌, ◌≤◌, Bool, true, false, List, [], ◌∷◌, ◌++◌, length, Option, Some, None, refl, sym, ap, ◌∙◌, subst, inl, inr, arith}
use Rattle.std.specs.Prelude.{cond, ◌==◌, ◌||◌, if◌then◌else◌}
use Rattle.std.specs.List.{list_any, sum_by}
use Rattle.std.specs.List.Sorted.{IsStrictlySortedBy}
use Rattle.std.specs.Map.{keys_of, values_of}
use Rattle.std.specs.Option.{is_some}
use Rattle.std.specs.Ordering.{nat_cmp}
use Rattle.std.proofs.lemmas.Bool.{cond_both, cases_eq, cases_lt, eqb-true, eq-eqb, ne_eqb, and_from, and_parts, or_cases, or_left, or_right, leb-true, ltb-true, le-leb, lt-ltb}
use Rattle.std.proofs.lemmas.List.Sums.{sum_by-cons}
use Rattle.quic_wire.specs.Value.{FrameValue, StreamValue, stream}
use Rattle.quic_send_buffer.specs.Buffered.{ReachPast, bytes_in, piece_of}
use Rattle.quic_streams_parts.specs.Table.{Table, at, without}
use Rattle.quic_streams_parts.specs.TableLaws.{nat_cmp-same, at-first, at-without, at-without-apart, sorted-without}
use Rattle.quic_streams_parts.specs.SendHalf.{SendHalf}
use Rattle.quic_headline.specs.Runs.{Told, In, reset}
use Rattle.quic_headline.specs.Observer.{Sent, HoldsOffset}
use Rattle.quic_headline.specs.Amounts.{Piece, laid, has_offset, is_held, all_held, kept_of, kept_in}
use Rattle.quic_headline.proofs.Amounts.Pieces.{on_stream, filled}

-- ---- offsets that are held

module _ (id offset : ℕ) where
  frame_has : (f : StreamValue) → f.id ≡ id → f.offset ≤ offset → offset < f.offset + length f.bytes → has_offset id offset (stream f) ≡ true
  frame_has f is from below = and_from _ _ (eq-eqb f.id id is) (and_from _ _ (le-leb f.offset offset from) (lt-ltb offset (f.offset + length f.bytes) below))

  frames_have : (fs : List FrameValue) (f : StreamValue) → In (stream f) fs → has_offset id offset (stream f) ≡ true → list_any (has_offset id offset) fs ≡ true
  frames_have [] f i has = absurd i
  frames_have (g ∷ fs) f (inl is) has = or_left _ _ (ap (has_offset id offset) (sym is) ∙ has)
  frames_have (g ∷ fs) f (inr i) has = or_right (has_offset id offset g) _ (frames_have fs f i has)

  sents_have : (sents : List Sent) (s : Sent) → In s sents → list_any (has_offset id offset) s.frames ≡ true → is_held sents id offset ≡ true
  sents_have [] s i has = absurd i
  sents_have (u ∷ sents) s (inl is) has = or_left _ _ (ap (λ (v : Sent). list_any (has_offset id offset) v.frames) (sym is) ∙ has)
  sents_have (u ∷ sents) s (inr i) has = or_right (list_any (has_offset id offset) u.frames) _ (sents_have sents s i has)

  pub held : (sents : List Sent) → HoldsOffset sents id offset → is_held sents id offset ≡ true
  held sents h = sents_have sents h.sent h.among (frames_have h.sent.frames h.frame h.carried (frame_has h.frame h.of_stream h.from h.below))

  -- and back
  record HasOffset (fs : List FrameValue) : Type 0 where
    frame : StreamValue
    carried : In (stream frame) fs
    of_stream : frame.id ≡ id
    from : frame.offset ≤ offset
    below : offset < frame.offset + length frame.bytes

  one_holds : (f : FrameValue) (fs : List FrameValue) → In f fs → has_offset id offset f ≡ true → HasOffset fs
  one_holds (stream f) fs i has =
      let parts = and_parts _ _ has in
      let bounds = and_parts _ _ parts.1 in
      record { frame = f; carried = i; of_stream = eqb-true f.id id parts.0; from = leb-true f.offset offset bounds.0; below = ltb-true offset (f.offset + length f.bytes) bounds.1 }
  one_holds f fs i has = cc

  further : (f : FrameValue) (fs : List FrameValue) → HasOffset fs → HasOffset (f ∷ fs)
  further f fs h = record { frame = h.frame; carried = inr h.carried; of_stream = h.of_stream; from = h.from; below = h.below }

  some_holds : (fs : List FrameValue) → list_any (has_offset id offset) fs ≡ true → HasOffset fs
  some_holds [] has = cc
  some_holds (f ∷ fs) has = elim (or_cases (has_offset id offset f) (list_any (has_offset id offset) fs) has) [ inl here ↦ one_holds f (f ∷ fs) (inl refl) here | inr behind ↦ further f fs (some_holds fs behind) ]

  pub holds : (sents : List Sent) → is_held sents id offset ≡ true → HoldsOffset sents id offset
  holds [] has = cc
  holds (s ∷ sents) has = elim (or_cases (list_any (has_offset id offset) s.frames) (is_held sents id offset) has) [
    | inl here ↦ (let h = some_holds s.frames here in record { sent = s; among = inl refl; frame = h.frame; carried = h.carried; of_stream = h.of_stream; from = h.from; below = h.below })
    | inr behind ↦ (let h = holds sents behind in record { sent = h.sent; among = inr h.among; frame = h.frame; carried = h.carried; of_stream = h.of_stream; from = h.from; below = h.below })
  ]

-- all below an end
pub all_hold : (sents : List Sent) (id end : ℕ) → ((o : ℕ) → o < end → HoldsOffset sents id o) → all_held sents id end ≡ true
all_hold sents id zero each = refl
all_hold sents id (suc end) each = and_from _ _ (held id end sents (each end (omega arith))) (all_hold sents id end (λ o below. each o (omega arith)))

-- not where one lacks
pub one_lacks : (sents : List Sent) (id end o : ℕ) → o < end → (HoldsOffset sents id o → ⊥) → all_held sents id end ≡ false
one_lacks sents id zero o below lacks = absurd (omega arith)
one_lacks sents id (suc end) o below lacks = go (all_held sents id (suc end)) refl
  where
    reach : (end : ℕ) → o < end → all_held sents id end ≡ true → HoldsOffset sents id o
    reach zero below all = absurd (omega arith)
    reach (suc end) below all = elim (cases_eq o end) [
      | inl same ↦ holds id o sents (subst (λ (x : ℕ). is_held sents id x ≡ true) (sym same) (and_parts _ _ all).0)
      | inr ne ↦ reach end (strictly end below ne) (and_parts (is_held sents id end) _ all).1
    ]
      where
        strictly : (end : ℕ) → o < suc end → (o ≡ end → ⊥) → o < end
        strictly end below ne = elim (cases_lt o end) [ inl less ↦ less | inr more ↦ absurd (ne (omega arith)) ]

    go : (b : Bool) → all_held sents id (suc end) ≡ b → all_held sents id (suc end) ≡ false
    go false is = is
    go true is = absurd (lacks (reach (suc end) below is))

-- ---- the pieces of one stream

module _ (acked : List Sent) (told : List Told) (id : ℕ) where
  -- pieces without a byte count nothing
  pub laid_filled : (from : ℕ) (ns : List ℕ) → kept_in acked told (laid id from ns) ≡ kept_in acked told (laid id from (filled ns))
  laid_filled from [] = refl
  laid_filled from (zero ∷ ns) =
      let none : kept_of acked told (record { stream = id; end = from + 0; size = 0 }) ≡ 0 = cond_both (is_some (reset id told) || all_held acked id (from + 0)) 0 0 (λ (n : ℕ). n ≡ 0) (λ e. refl) (λ e. refl) in
      let rest : kept_in acked told (laid id (from + 0) ns) ≡ kept_in acked told (laid id from (filled ns)) = ap (λ (n : ℕ). kept_in acked told (laid id n ns)) (omega arith) ∙ laid_filled from ns in
      omega arith
  laid_filled from (suc n ∷ ns) =
      let one : piece_of (suc n) ≡ suc n ∷ [] = ap (λ (b : Bool). cond b [] (suc n ∷ [])) (ne_eqb (suc n) 0 (λ e. omega arith)) in
      ap (λ (m : ℕ). kept_of acked told (record { stream = id; end = from + suc n; size = suc n }) + m) (laid_filled (from + suc n) ns) ∙ sym (ap (λ (ms : List ℕ). kept_in acked told (laid id from (ms ++ filled ns))) one)

  -- of a stream that was reset, none counts
  pub none_of_reset : is_some (reset id told) ≡ true → (from : ℕ) (ns : List ℕ) → kept_in acked told (laid id from ns) ≡ 0
  none_of_reset is from [] = refl
  none_of_reset is from (n ∷ ns) =
      let here : kept_of acked told (record { stream = id; end = from + n; size = n }) ≡ 0 = ap (λ (b : Bool). if b || all_held acked id (from + n) then 0 else n) is in
      let rest = none_of_reset is (from + n) ns in
      omega arith

  -- none that ends below what is held
  pub none_below : (most : ℕ) → ((o : ℕ) → o < most → HoldsOffset acked id o) → (from : ℕ) (ns : List ℕ) → from + bytes_in ns ≤ most → kept_in acked told (laid id from ns) ≡ 0
  none_below most each from [] le = refl
  none_below most each from (n ∷ ns) le =
      let all : all_held acked id (from + n) ≡ true = all_hold acked id (from + n) (λ o below. each o (omega arith)) in
      let here : kept_of acked told (record { stream = id; end = from + n; size = n }) ≡ 0 = ap (λ (b : Bool). if b then 0 else n) (or_right (is_some (reset id told)) (all_held acked id (from + n)) all) in
      let rest = none_below most each (from + n) ns (omega arith) in
      omega arith

  -- each that reaches past an offset that isn't held
  all_past : (o : ℕ) → (HoldsOffset acked id o → ⊥) → is_some (reset id told) ≡ false → (from : ℕ) (ns : List ℕ) → o < from → kept_in acked told (laid id from ns) ≡ bytes_in ns
  all_past o lacks free from [] past = refl
  all_past o lacks free from (n ∷ ns) past =
      let lacking : all_held acked id (from + n) ≡ false = one_lacks acked id (from + n) o (omega arith) lacks in
      let here : kept_of acked told (record { stream = id; end = from + n; size = n }) ≡ n = rw (free, lacking) refl in
      let rest = all_past o lacks free (from + n) ns (omega arith) in
      omega arith

  pub from_first : (o from : ℕ) → (HoldsOffset acked id o → ⊥) → is_some (reset id told) ≡ false → (ns : List ℕ) → from ≤ o → ReachPast (o - from) ns → kept_in acked told (laid id from ns) ≡ bytes_in ns
  from_first o from lacks free [] le past = refl
  from_first o from lacks free (n ∷ ns) le past =
      let lacking : all_held acked id (from + n) ≡ false = one_lacks acked id (from + n) o (omega arith) lacks in
      let here : kept_of acked told (record { stream = id; end = from + n; size = n }) ≡ n = rw (free, lacking) refl in
      let rest = all_past o lacks free (from + n) ns (omega arith) in
      omega arith

  pub kept_both : (ps qs : List Piece) → kept_in acked told (ps ++ qs) ≡ kept_in acked told ps + kept_in acked told qs
  kept_both [] qs = omega arith
  kept_both (p ∷ ps) qs = let rest = kept_both ps qs in omega arith

-- ---- all streams

module _ (acked : List Sent) (told : List Told) where
  abbrev kept : List Piece → ℕ
  kept ps = kept_in acked told ps

  -- those of other streams
  abbrev others : ℕ → List Piece → List Piece
  others id [] = []
  others id (p ∷ ps) = if p.stream == id then others id ps else p ∷ others id ps

  split : (id : ℕ) (ps : List Piece) → kept ps ≡ kept (on_stream id ps) + kept (others id ps)
  split id [] = refl
  split id (p ∷ ps) = go (p.stream == id) (split id ps)
    where
      go : (b : Bool) → kept ps ≡ kept (on_stream id ps) + kept (others id ps) → kept (p ∷ ps) ≡ kept (if b then p ∷ on_stream id ps else on_stream id ps) + kept (if b then others id ps else p ∷ others id ps)
      go true rest = omega arith
      go false rest = omega arith

  none_left : (id : ℕ) (ps : List Piece) → on_stream id (others id ps) ≡ []
  none_left id [] = refl
  none_left id (p ∷ ps) = go (p.stream == id) refl (none_left id ps)
    where
      go : (b : Bool) → (p.stream == id) ≡ b → on_stream id (others id ps) ≡ [] → on_stream id (if b then others id ps else p ∷ others id ps) ≡ []
      go true is rest = rest
      go false is rest = rw is rest

  others_same : (id j : ℕ) → (j ≡ id → ⊥) → (ps : List Piece) → on_stream j (others id ps) ≡ on_stream j ps
  others_same id j ne [] = refl
  others_same id j ne (p ∷ ps) = go (p.stream == id) refl (others_same id j ne ps)
    where
      go : (b : Bool) → (p.stream == id) ≡ b → on_stream j (others id ps) ≡ on_stream j ps → on_stream j (if b then others id ps else p ∷ others id ps) ≡ on_stream j (p ∷ ps)
      go true is rest =
          let away : (p.stream == j) ≡ false = ne_eqb p.stream j (λ e. ne (sym e ∙ eqb-true p.stream id is)) in
          rest ∙ sym (ap (λ (b : Bool). if b then p ∷ on_stream j ps else on_stream j ps) away)
      go false is rest = ap (λ (qs : List Piece). if p.stream == j then p ∷ qs else qs) rest

  -- what counts nothing on each stream counts nothing
  nothing_kept : (ps : List Piece) → ((id : ℕ) → kept (on_stream id ps) ≡ 0) → kept ps ≡ 0
  nothing_kept [] none = refl
  nothing_kept (p ∷ ps) none =
      let here : kept_of acked told p + kept (on_stream p.stream ps) ≡ 0 = sym (ap (λ (b : Bool). kept (if b then p ∷ on_stream p.stream ps else on_stream p.stream ps)) (eq-eqb p.stream p.stream refl)) ∙ none p.stream in
      let rest : kept ps ≡ 0 = nothing_kept ps (λ id. less id (p.stream == id) (none id)) in
      omega arith
    where
      less : (id : ℕ) (b : Bool) → kept (if b then p ∷ on_stream id ps else on_stream id ps) ≡ 0 → kept (on_stream id ps) ≡ 0
      less id true is = omega arith
      less id false is = is

  -- the sum over halves is that over pieces
  pub summed : (live : Table SendHalf) (ps : List Piece) → IsStrictlySortedBy nat_cmp (keys_of live) → ((id : ℕ) (h : SendHalf) → at live id ≡ Some h → length h.buffer.kept ≡ kept (on_stream id ps)) → ((id : ℕ) → at live id ≡ None → kept (on_stream id ps) ≡ 0)
      → sum_by (λ (h : SendHalf). length h.buffer.kept) (values_of live) ≡ kept ps
  summed [] ps sorted some none = sym (nothing_kept ps (λ id. none id refl))
  summed (e ∷ es) ps sorted some none =
      let id : ℕ = e.0 in
      let first : without (e ∷ es) id ≡ es = rw (nat_cmp-same id) refl in
      let gone : at es id ≡ None = ap (λ (t : Table SendHalf). at t id) (sym first) ∙ at-without (e ∷ es) id sorted in
      let here : length e.1.buffer.kept ≡ kept (on_stream id ps) = some id e.1 (at-first es id e.1) in
      let rest = summed es (others id ps) (subst (λ (t : Table SendHalf). IsStrictlySortedBy nat_cmp (keys_of t)) first (sorted-without (e ∷ es) id sorted))
      (λ j h is. elim (cases_eq j id) [
        | inl same ↦ (let clash : ◌≡◌ {A = Option SendHalf} None (Some h) = sym gone ∙ ap (λ (x : ℕ). at es x) (sym same) ∙ is in cc)
        | inr ne ↦ some j h (sym (at-without-apart (e ∷ es) id j ne) ∙ ap (λ (t : Table SendHalf). at t j) first ∙ is) ∙ sym (ap kept (others_same id j ne ps))
      ])
      (λ j is. elim (cases_eq j id) [
        | inl same ↦ ap (λ (x : ℕ). kept (on_stream x (others id ps))) same ∙ ap kept (none_left id ps)
        | inr ne ↦ ap kept (others_same id j ne ps) ∙ none j (sym (at-without-apart (e ∷ es) id j ne) ∙ ap (λ (t : Table SendHalf). at t j) first ∙ is)
      ]) in
      let both = split id ps in
      let sum = sum_by-cons (λ (h : SendHalf). length h.buffer.kept) e.1 (values_of es) in
      omega arith
