-- What was read of a receiving half, and what waits on it, lies below the greatest offset that was
-- seen, whatever comes, is read, or is stopped (RFC 9000, section 4.1).
use Rattle.std.proofs.Common.{◌≡◌, ℕ, ◌+◌, ◌-◌, ◌<◌, ◌≤◌, zero, suc, max, ltb, List, [], ◌∷◌, length, Bool, true, false, cond, Option, Some, None, refl, sym, ap, ◌∙◌, arith, ◌⊎◌, inl, inr}
use Rattle.std.specs.Prelude.{◌||◌, not, if◌then◌else◌, slice_get}
use Rattle.std.specs.Option.{is_some, option_or}
use Rattle.std.proofs.lemmas.Option.{slice_get-get_or}
use Rattle.std.proofs.lemmas.Bool.{cases_lt, lt-ltb, not-true, and_from, or_left, or_right, ltb-true, ltb-false, and_parts}
use Rattle.quic_wire.specs.Value.{StreamValue}
use Rattle.quic_assembler.specs.declared.assembler.Chunk.{Chunk}
use Rattle.quic_assembler.specs.Arrived.{IsLawful, byte_at, waits, is_given, given_by, in_chunk, bytes_read_of}
use Rattle.quic_assembler.specs.Waiting.{IsRead}
use Rattle.quic_assembler.proofs.Arrived.Lawful.{insert_bytes, insert_lawful, read_lawful, read_given, read_leaves, read_counted}
use Rattle.quic_assembler.proofs.Parts.Filled.{low_small}
use Rattle.quic_assembler.proofs.Calls.Kept.{order_kept}
use Rattle.quic_assembler.proofs.Calls.Taken.{is_read}
use Rattle.quic_sets.specs.Parts.{byte_from}
use Rattle.quic_sets.specs.Spans.{Span, AreSpans, in_span, in_spans, width_of}
use Rattle.quic_sets.proofs.Parts.Bytes.{from_behind}
use Rattle.quic_streams_parts.specs.RecvHalf.{RecvHalf, new_recv_half, end_of, with_offsets_of, with_frame, reset_by, after_frame, after_reset_stream, begun, read_on, stopped_now}
use Rattle.quic_streams_state.specs.State.{Receiving}
use Rattle.quic_streams_laws.specs.Keeping.{EndsThere, SeesMore, ReceivesOn}
use Rattle.quic_streams_laws.specs.KeepingLaws.{Unbroken, frame_on, reset_on, reads_on, begun_on, stopped_on}

-- each offset that was given or waits lies below the greatest that was seen
pub record IsBelow (h : RecvHalf) : Type 0 where
  pub lawful : IsLawful h.arrived
  pub given : (o : ℕ) → is_given h.arrived o ≡ true → o < h.seen
  pub waiting : (o : ℕ) → waits h.arrived.parts o ≡ true → o < h.seen

-- ---- how many were read

-- as many offsets lie in runs as there are below where they end, at most
spans_below : (low end : ℕ) (gs : List Span) → AreSpans low gs → ((o : ℕ) → in_spans gs o ≡ true → o < end) → low + width_of gs ≤ max low end
spans_below low end [] are below = omega arith
spans_below low end (g ∷ gs) are below =
    let last : g.0 - 1 < end = below (g.0 - 1) (or_left (in_span (g.0 - 1) g) (in_spans gs (g.0 - 1)) (inside (g.0 - 1) (let order = are.1 in omega arith) (let order = are.1 in omega arith))) in
    let rest : (g.0 + 1) + width_of gs ≤ max (g.0 + 1) end = spans_below (g.0 + 1) end gs are.2 (λ o i. below o (or_right (in_span o g) (in_spans gs o) i)) in
    let first = are.0 in
    let order = are.1 in
    omega arith
  where
    inside : (o : ℕ) → g.1 ≤ o → o < g.0 → in_span o g ≡ true
    inside o le lt = and_from (not (ltb o g.1)) (ltb o g.0) (not_below o g.1 le) (lt-ltb o g.0 lt)
      where
        not_below : (a b : ℕ) → b ≤ a → not (ltb a b) ≡ true
        not_below a b le = go (ltb a b) refl
          where
            go : (t : Bool) → ltb a b ≡ t → not t ≡ true
            go false is = refl
            go true is = let lt = ltb-true a b is in absurd (omega arith)

-- so no more were read than were seen
pub read_within : (h : RecvHalf) → IsBelow h → bytes_read_of h.arrived ≤ h.seen
read_within h b =
    let front : h.arrived.read ≤ h.seen = read_front h.arrived.read (λ o lt. b.given o (or_left (ltb o h.arrived.read) (in_spans h.arrived.picked o) (lt-ltb o h.arrived.read lt))) in
    let all : h.arrived.read + width_of h.arrived.picked ≤ max h.arrived.read h.seen =
    spans_below h.arrived.read h.seen h.arrived.picked b.lawful.spans (λ o i. b.given o (or_right (ltb o h.arrived.read) (in_spans h.arrived.picked o) i)) in
    omega arith
  where
    read_front : (n : ℕ) → ((o : ℕ) → o < n → o < h.seen) → n ≤ h.seen
    read_front zero each = omega arith
    read_front (suc n) each = let last : n < h.seen = each n (omega arith) in omega arith

-- ---- what keeps it

nothing : false ≡ true → ⊥
nothing e = cc

-- one of two holds
either : (a b : Bool) → (a || b) ≡ true → (a ≡ true) ⊎ (b ≡ true)
either true b e = inl refl
either false b e = inr e

-- nothing was given, and nothing waits
pub new_below : (window : ℕ) → IsBelow (new_recv_half window)
new_below window = record {
  lawful = record { apart = omega arith; spans = omega arith; others = λ o e. refl; order = λ e. refl };
  given = λ o e. elim (either (ltb o 0) false e) [ inl below ↦ let lt = ltb-true o 0 below in absurd (omega arith) | inr none ↦ absurd (nothing none) ];
  waiting = λ o e. absurd (nothing e);
}

-- whatever limit the peer was told
pub told_below : (h : RecvHalf) (n : ℕ) → IsBelow h → IsBelow (record h { announced = n })
told_below h n b = record { lawful = b.lawful; given = b.given; waiting = b.waiting }

-- a byte of a frame that comes lies below its end
frame_offset : (at : ℕ) (bytes : List ℕ) (o : ℕ) → is_some (byte_from at bytes o) ≡ true → o < at + length bytes
frame_offset at bytes o some = elim (cases_lt o (at + length bytes)) [
  | inl lt ↦ lt
  | inr le ↦ absurd (nothing (sym (ap is_some (from_behind at bytes o le)) ∙ some))
]

-- what waits behind a frame waited before, or came by it
comes_below : (given : Bool) (old new : Option ℕ) → is_some (cond given None (option_or old new)) ≡ true → (is_some old ≡ true) ⊎ (is_some new ≡ true)
comes_below true old new e = cc
comes_below false (Some b) new e = inl refl
comes_below false None new e = inr e

-- a STREAM frame
pub frame_below : (r : Receiving) (h : RecvHalf) (f : StreamValue) → Unbroken r h (end_of f) f.fin → IsBelow h → ReceivesOn r h (after_frame h f) × IsBelow (after_frame h f)
frame_below r h f u b = (frame_on r h f u, go h.stopped (is_some h.reset))
  where
    go : (s c : Bool) → IsBelow (if s then with_offsets_of h f else (if c then h else with_frame h f))
    go true c = record { lawful = b.lawful; given = λ o e. (let lt = b.given o e in omega arith); waiting = λ o e. (let lt = b.waiting o e in omega arith) }
    go false true = b
    go false false = record {
      lawful = insert_lawful h.arrived f.offset f.bytes b.lawful u.small;
      given = λ o e. (let lt = b.given o e in omega arith);
      waiting = λ o e. elim (comes_below (is_given h.arrived o) (byte_at h.arrived.parts o) (byte_from f.offset f.bytes o) (sym (ap is_some (insert_bytes h.arrived f.offset f.bytes o b.lawful u.small)) ∙ e)) [
        | inl old ↦ let lt : o < h.seen = b.waiting o old in (let r : o < max h.seen (end_of f) = omega arith in r)
        | inr new ↦ let lt : o < f.offset + length f.bytes = frame_offset f.offset f.bytes o new in (let r : o < max h.seen (end_of f) = omega arith in r)
      ];
    }

-- a RESET_STREAM frame
pub reset_below : (r : Receiving) (h : RecvHalf) (code size : ℕ) → EndsThere h → Unbroken r h size true → IsBelow h → ReceivesOn r h (after_reset_stream h code size) × IsBelow (after_reset_stream h code size)
reset_below r h code size ended u b = (on, go h.stopped (is_some h.reset) (rises on.sees))
  where
    on : ReceivesOn r h (after_reset_stream h code size)
    on = reset_on r h code size ended u

    rises : ((after_reset_stream h code size).seen ≡ h.seen) ⊎ SeesMore r h (after_reset_stream h code size) → h.seen ≤ (after_reset_stream h code size).seen
    rises (inl same) = omega arith
    rises (inr more) = more.more

    go : (s c : Bool) → h.seen ≤ (if s then record h { seen = size; final = Some size } else (if c then h else reset_by h code size)).seen → IsBelow (if s then record h { seen = size; final = Some size } else (if c then h else reset_by h code size))
    go true c above = record { lawful = b.lawful; given = λ o e. (let lt = b.given o e in omega arith); waiting = λ o e. (let lt = b.waiting o e in omega arith) }
    go false true above = b
    go false false above = record {
      lawful = record { apart = low_small h.arrived.read h.arrived.parts b.lawful.apart; spans = b.lawful.spans; others = λ o e. refl; order = b.lawful.order };
      given = λ o e. (let lt = b.given o e in omega arith);
      waiting = λ o e. absurd (nothing e);
    }

-- a read that begins, and a stop at this end
pub begun_below : (r : Receiving) (h : RecvHalf) → IsBelow h → ReceivesOn r h (begun h false) × IsBelow (begun h false)
begun_below r h b = (begun_on r h false, record { lawful = order_kept h.arrived false b.lawful; given = b.given; waiting = b.waiting })

pub stopped_below : (r : Receiving) (h : RecvHalf) → IsBelow h → ReceivesOn r h (stopped_now h) × IsBelow (stopped_now h)
stopped_below r h b = (
  stopped_on r h,
  record {
    lawful = record { apart = low_small h.arrived.read h.arrived.parts b.lawful.apart; spans = b.lawful.spans; others = λ o e. refl; order = b.lawful.order };
    given = b.given;
    waiting = λ o e. absurd (nothing e);
  },
)

-- a chunk gives what waited
chunk_below : (h : RecvHalf) (most o : ℕ) → IsBelow h → in_chunk (given_by h.arrived most) o ≡ true → o < h.seen
chunk_below h most o b = go (given_by h.arrived most) (is_read h.arrived most b.lawful)
  where
    slice_there : (xs : List ℕ) (n : ℕ) → n < length xs → is_some (slice_get xs n) ≡ true
    slice_there xs n lt = ap is_some (slice_get-get_or xs n 0 lt)

    go : (c : Option Chunk) → IsRead h.arrived most c → in_chunk c o ≡ true → o < h.seen
    go None it i = cc
    go (Some c) it i =
        let p = and_parts (not (ltb o c.offset)) (ltb o (c.offset + length c.bytes)) i in
        let low = ltb-false o c.offset (not-true (ltb o c.offset) p.0) in
        let high = ltb-true o (c.offset + length c.bytes) p.1 in
        let at : c.offset + (o - c.offset) ≡ o = omega arith in
        b.waiting o (ap (waits h.arrived.parts) (sym at) ∙ (sym (ap is_some (it.1.bytes (o - c.offset) (omega arith))) ∙ slice_there c.bytes (o - c.offset) (omega arith)))

-- bytes are read
pub read_below : (r : Receiving) (h : RecvHalf) (most : ℕ) → IsBelow h → ReceivesOn r h (read_on h most) × IsBelow (read_on h most)
read_below r h most b = (reads_on r h most (record { more = (let count = read_counted h.arrived most b.lawful in omega arith); seen = read_within (read_on h most) after }), after)
  where
    left : (low : Bool) (o : Option ℕ) → is_some (cond low None o) ≡ true → is_some o ≡ true
    left true o e = cc
    left false o e = e

    after : IsBelow (read_on h most)
    after = record {
      lawful = read_lawful h.arrived most b.lawful;
      given = λ o e. elim (either (in_chunk (given_by h.arrived most) o) (is_given h.arrived o) (sym (read_given h.arrived most o b.lawful) ∙ e)) [ inl now ↦ chunk_below h most o b now | inr old ↦ b.given o old ];
      waiting = λ o e. b.waiting o (left (in_chunk (given_by h.arrived most) o) (byte_at h.arrived.parts o) (sym (ap is_some (read_leaves h.arrived most o b.lawful)) ∙ e));
    }
