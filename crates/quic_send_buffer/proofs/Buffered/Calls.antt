-- What each call leaves is again a buffer: the sets are runs and lie apart, and the pieces are
-- those that are needed.
use Rattle.std.proofs.Common.{◌≡◌, ℕ, ◌+◌, ◌-◌, ◌^◌, ◌≤◌, ◌<◌, ◌⊎◌, ◌↔◌, ◌==◌, min, max, List, [], ◌∷◌, ◌++◌, length, refl, sym, ap, subst, inl, inr, arith, ◌∙◌, length-append, length-drop}
use Rattle.std.proofs.lemmas.Bool.{cases_lt, cases_Bool, lt-ltb, le-leb, lt-leb, eqb-true, eqb-false}
use Rattle.std.specs.Prelude.{Result, Ok, Err, OnOk, OnErr}
use Rattle.std.proofs.lemmas.List.Sums.{sum_by-cons}
use Rattle.quic_sets.specs.Runs.{Run, Has, AreRuns, Adds, Drops}
use Rattle.quic_sets.specs.Lacking.{AddsLacking, HasLacking, HasMoving}
use Rattle.quic_sets.specs.Offsets.{first_or, first_lacking, with_offsets, without_offsets, with_all, lacking}
use Rattle.quic_send_buffer.specs.Buffered.{Buffered, IsBuffered, HasUnacked, HasInFlight, AreFilled, ReachPast, bytes_in, written, first_unacknowledged, piece_of, after_write, after_writes, passed, pieces_behind, done, trimmed, acknowledged, after_ack, after_loss, sent_count, room_behind, next_range, next_start, next_count, sent_end, after_poll}
use Rattle.quic_send_buffer.specs.KeptBytes.{KeptBytes, with_each, released_to}
use Rattle.quic_send_buffer.specs.Source.{bytes_of}
use Rattle.quic_sets.proofs.Offsets.Edits.{has_not, with_runs, with_is, with_only, without_runs, without_is, without_only, without_none, lost_runs, lost_is, lost_only, first_is_least, below_first, first_by, first_rises}

-- ---- pieces

pub passed_within : (ns : List ℕ) (room : ℕ) → passed ns room ≤ room
passed_within [] room = omega arith
passed_within (n ∷ ns) room = elim (cases_lt room n) [
  | inl lt ↦ rw (lt-leb n room lt) (omega arith)
  | inr le ↦ rw (le-leb n room le) (let rest = passed_within ns (room - n) in omega (arith, rest, le))
]

pub passed_bytes_in : (ns : List ℕ) (room : ℕ) → passed ns room + bytes_in (pieces_behind ns room) ≡ bytes_in ns
passed_bytes_in [] room = refl
passed_bytes_in (n ∷ ns) room = elim (cases_lt room n) [
  | inl lt ↦ rw (lt-leb n room lt) (omega arith)
  | inr le ↦ rw (le-leb n room le) (let rest = passed_bytes_in ns (room - n) in omega (arith, rest))
]

behind_filled : (ns : List ℕ) (room : ℕ) → AreFilled ns → AreFilled (pieces_behind ns room)
behind_filled [] room h = tt
behind_filled (n ∷ ns) room h = elim (cases_lt room n) [
  | inl lt ↦ rw (lt-leb n room lt) h
  | inr le ↦ rw (le-leb n room le) (behind_filled ns (room - n) h.1)
]

behind_past : (ns : List ℕ) (room left : ℕ) → left ≡ room - passed ns room → ReachPast left (pieces_behind ns room)
behind_past [] room left e = tt
behind_past (n ∷ ns) room left e = elim (cases_lt room n) [
  | inl lt ↦ (let same : left ≡ room - 0 = rw (lt-leb n room lt) at e in rw (lt-leb n room lt) (omega (arith, same, lt)))
  | inr le ↦ (let more : left ≡ room - (n + passed ns (room - n)) = rw (le-leb n room le) at e in
      rw (le-leb n room le) (behind_past ns (room - n) left (omega (arith, more))))
]

piece_filled : (n : ℕ) → AreFilled (piece_of n)
piece_filled n = elim (cases_Bool (n == 0)) [
  | inl is ↦ rw is tt
  | inr isnt ↦ rw isnt (let not_zero = eqb-false n 0 isnt in (omega (arith, not_zero), tt))
]

pub piece_bytes_in : (n : ℕ) → bytes_in (piece_of n) ≡ n
piece_bytes_in n = elim (cases_Bool (n == 0)) [
  | inl is ↦ rw is (sym (eqb-true n 0 is))
  | inr isnt ↦ rw isnt (omega arith)
]

piece_past : (n room : ℕ) → room ≡ 0 → ReachPast room (piece_of n)
piece_past n room e = elim (cases_Bool (n == 0)) [
  | inl is ↦ rw is tt
  | inr isnt ↦ rw isnt (let not_zero = eqb-false n 0 isnt in omega (arith, not_zero, e))
]

more_filled : (ns : List ℕ) (n : ℕ) → AreFilled ns → AreFilled (ns ++ piece_of n)
more_filled [] n h = piece_filled n
more_filled (m ∷ ns) n h = (h.0, more_filled ns n h.1)

more_bytes_in : (ns : List ℕ) (n : ℕ) → bytes_in (ns ++ piece_of n) ≡ bytes_in ns + n
more_bytes_in [] n = let one = piece_bytes_in n in omega (arith, one)
more_bytes_in (m ∷ ns) n = let rest = more_bytes_in ns n in omega (arith, rest)

more_past : (ns : List ℕ) (n room : ℕ) → ReachPast room ns → room ≤ bytes_in ns → ReachPast room (ns ++ piece_of n)
more_past [] n room h le = piece_past n room (omega (arith, le))
more_past (m ∷ ns) n room h le = h

-- ---- what is acknowledged comes first

pub first_within : (b : Buffered) → IsBuffered b → first_unacknowledged b ≤ b.unsent
first_within b h = first_by b.acked b.unsent h.acked h.acked_sent

-- ---- a write

pub write_lawful : (b : Buffered) (bytes : List ℕ) → IsBuffered b → written b + length bytes < 2 ^ 62 → IsBuffered (after_write b bytes)
write_lawful b bytes h small =
    let first = first_within b h in
    let len = length-append b.kept bytes in
    let all = more_bytes_in b.pieces (length bytes) in
    record {
      acked = h.acked;
      lost = h.lost;
      apart = h.apart;
      acked_sent = h.acked_sent;
      lost_sent = h.lost_sent;
      filled = more_filled b.pieces (length bytes) h.filled;
      whole = omega (arith, len, all, h.whole);
      begun = h.begun;
      needed = more_past b.pieces (length bytes) (first_unacknowledged b - b.base) h.needed (omega (arith, first, h.bounded, h.whole));
      sent = h.sent;
      bounded = omega (arith, len, h.bounded);
      small = omega (arith, len, small);
    }

-- writes in turn
pub writes_lawful : (b : Buffered) (cs : List (List ℕ)) → IsBuffered b → written b + bytes_of cs < 2 ^ 62 → IsBuffered (after_writes b cs)
writes_lawful b [] h small = h
writes_lawful b (c ∷ cs) h small =
    let all = sum_by-cons (λ (x : List ℕ). length x) c cs in
    let len = length-append b.kept c in
    writes_lawful (after_write b c) cs (write_lawful b c h (omega (arith, small, all))) (omega (arith, small, all, len))

-- ---- offsets are acknowledged

-- a buffer but for pieces that aren't needed any more
record IsUntrimmed (b : Buffered) : Type 0 where
  pub acked : AreRuns b.acked
  pub lost : AreRuns b.lost
  pub apart : (o : ℕ) → Has b.acked o → Has b.lost o → ⊥
  pub acked_sent : (o : ℕ) → Has b.acked o → o < b.unsent
  pub lost_sent : (o : ℕ) → Has b.lost o → o < b.unsent
  pub filled : AreFilled b.pieces
  pub whole : bytes_in b.pieces ≡ length b.kept
  pub begun : b.base ≤ first_unacknowledged b
  pub bounded : b.unsent ≤ written b
  pub small : written b < 2 ^ 62

done_within : (b : Buffered) → bytes_in b.pieces ≡ length b.kept → done b ≤ length b.kept
done_within b whole = let all = passed_bytes_in b.pieces (first_unacknowledged b - b.base) in omega (arith, all, whole)

trimmed_written : (b : Buffered) → bytes_in b.pieces ≡ length b.kept → written (trimmed b) ≡ written b
trimmed_written b whole = let within = done_within b whole in let len = length-drop (done b) b.kept in omega (arith, within, len)

trimmed_lawful : (b : Buffered) → IsUntrimmed b → IsBuffered (trimmed b)
trimmed_lawful b h =
    let first = first_by b.acked b.unsent h.acked h.acked_sent in
    let room = first_unacknowledged b - b.base in
    let few = passed_within b.pieces room in
    let all = passed_bytes_in b.pieces room in
    let len = length-drop (done b) b.kept in
    let same = trimmed_written b h.whole in
    record {
      acked = h.acked;
      lost = h.lost;
      apart = h.apart;
      acked_sent = h.acked_sent;
      lost_sent = h.lost_sent;
      filled = behind_filled b.pieces room h.filled;
      whole = omega (arith, len, all, h.whole);
      begun = omega (arith, few, h.begun);
      needed = behind_past b.pieces room (first_unacknowledged b - (b.base + done b)) (omega (arith, few));
      sent = omega (arith, few, h.begun, first);
      bounded = omega (arith, same, h.bounded);
      small = omega (arith, same, h.small);
    }

-- which offsets are acknowledged, and which are lost
pub acked_is : (b : Buffered) (a z o : ℕ) → IsBuffered b → Has (with_offsets a (min z b.unsent) b.acked) o ↔ (Has b.acked o ⊎ ((a ≤ o) × (o < min z b.unsent)))
acked_is b a z o h = with_is a (min z b.unsent) b.acked h.acked o

pub unlost_is : (b : Buffered) (a z o : ℕ) → Has (without_offsets a (min z b.unsent) b.lost) o ↔ (Has b.lost o × ((a ≤ o) × (o < min z b.unsent) → ⊥))
unlost_is b a z o = without_is a (min z b.unsent) b.lost o

untrimmed : (b : Buffered) (a z : ℕ) → IsBuffered b → IsUntrimmed (acknowledged b a z)
untrimmed b a z h =
    let runs = with_runs a (min z b.unsent) b.acked h.acked in
    let rises = first_rises b.acked (with_offsets a (min z b.unsent) b.acked) h.acked runs (λ o i. (acked_is b a z o h).1 (inl i)) in
    record {
      acked = runs;
      lost = without_runs a (min z b.unsent) b.lost h.lost;
      apart = λ o i j. (let k = (unlost_is b a z o).0 j in elim ((acked_is b a z o h).0 i) [ inl x ↦ h.apart o x k.0 | inr x ↦ k.1 x ]);
      acked_sent = λ o i. elim ((acked_is b a z o h).0 i) [ inl x ↦ h.acked_sent o x | inr x ↦ omega (arith, x.1) ];
      lost_sent = λ o i. h.lost_sent o ((unlost_is b a z o).0 i).0;
      filled = h.filled;
      whole = h.whole;
      begun = omega (arith, h.begun, rises);
      bounded = h.bounded;
      small = h.small;
    }

pub ack_lawful : (b : Buffered) (a z : ℕ) → IsBuffered b → IsBuffered (after_ack b a z)
ack_lawful b a z h = trimmed_lawful (acknowledged b a z) (untrimmed b a z h)

pub ack_written : (b : Buffered) (a z : ℕ) → IsBuffered b → written (after_ack b a z) ≡ written b
ack_written b a z h = trimmed_written (acknowledged b a z) h.whole

-- no byte is dropped that isn't there
pub ack_within : (b : Buffered) (a z : ℕ) → IsBuffered b → done (acknowledged b a z) ≤ length b.kept
ack_within b a z h = done_within (acknowledged b a z) h.whole

-- ---- offsets are lost

pub loss_is : (b : Buffered) (a z o : ℕ) → IsBuffered b → Has (with_all (lacking a (min z b.unsent) b.acked) b.lost) o ↔ (Has b.lost o ⊎ ((a ≤ o) × (o < min z b.unsent) × (Has b.acked o → ⊥)))
loss_is b a z o h = lost_is a (min z b.unsent) b.lost b.acked h.lost o

pub loss_lawful : (b : Buffered) (a z : ℕ) → IsBuffered b → IsBuffered (after_loss b a z)
loss_lawful b a z h = record {
  acked = h.acked;
  lost = lost_runs a (min z b.unsent) b.lost b.acked h.lost;
  apart = λ o i j. elim ((loss_is b a z o h).0 j) [ inl x ↦ h.apart o i x | inr x ↦ x.2 i ];
  acked_sent = h.acked_sent;
  lost_sent = λ o i. elim ((loss_is b a z o h).0 i) [ inl x ↦ h.lost_sent o x | inr x ↦ omega (arith, x.1) ];
  filled = h.filled;
  whole = h.whole;
  begun = h.begun;
  needed = h.needed;
  sent = h.sent;
  bounded = h.bounded;
  small = h.small;
}

-- ---- what goes next

-- where the first run, or else another range, lies
first_ordered : (rs : List Run) (other : Run) → AreRuns rs → other.start ≤ other.end → (first_or rs other).start ≤ (first_or rs other).end
first_ordered [] other runs le = le
first_ordered (r ∷ rs) other runs le = omega (arith, runs.1)

first_bounded : (rs : List Run) (other : Run) (m : ℕ) → AreRuns rs → ((o : ℕ) → Has rs o → o < m) → other.end ≤ m → (first_or rs other).end ≤ m
first_bounded [] other m runs below le = le
first_bounded (r ∷ rs) other m runs below le = let last = below (r.end - 1) (inl (omega (arith, runs.1), omega (arith, runs.1))) in omega (arith, last)

first_from : (rs : List Run) (other : Run) (m : ℕ) → AreRuns rs → ((o : ℕ) → Has rs o → m ≤ o) → m ≤ other.start → m ≤ (first_or rs other).start
first_from [] other m runs above le = le
first_from (r ∷ rs) other m runs above le = above r.start (inl (omega arith, runs.1))

-- what isn't acknowledged is kept
pub kept_from : (b : Buffered) (o : ℕ) → IsBuffered b → (Has b.acked o → ⊥) → b.base ≤ o
kept_from b o h lacks = elim (cases_lt o b.base) [
  | inl lt ↦ absurd (lacks (below_first b.acked o h.acked (omega (arith, lt, h.begun))))
  | inr le ↦ le
]

pub next_kept : (b : Buffered) → IsBuffered b → b.base ≤ next_start b
next_kept b h = first_from b.lost (record { start = b.unsent; end = written b }) b.base h.lost (λ o i. kept_from b o h (λ j. h.apart o j i)) h.sent

pub next_ordered : (b : Buffered) → IsBuffered b → (next_range b).start ≤ (next_range b).end
next_ordered b h = first_ordered b.lost (record { start = b.unsent; end = written b }) h.lost h.bounded

pub next_bounded : (b : Buffered) → IsBuffered b → (next_range b).end ≤ written b
next_bounded b h = first_bounded b.lost (record { start = b.unsent; end = written b }) (written b) h.lost (λ o i. (let lt = h.lost_sent o i in omega (arith, lt, h.bounded))) (omega arith)

-- a frame takes of what goes next
pub count_within : (left room : ℕ) → sent_count left room ≤ left
count_within left room = omega arith

pub sent_from : (b : Buffered) (most : ℕ) → next_start b ≤ sent_end b most
sent_from b most = omega arith

pub sent_within : (b : Buffered) (most : ℕ) → IsBuffered b → sent_end b most ≤ (next_range b).end
sent_within b most h =
    let few = count_within (next_count b) (room_behind most (next_start b)) in
    let ordered = next_ordered b h in
    omega (arith, few, ordered)

-- with offsets sent that end within what was written
pub sent_lawful : (b : Buffered) (a z : ℕ) → IsBuffered b → z ≤ written b → IsBuffered (record b { unsent = max b.unsent z; lost = without_offsets a z b.lost })
sent_lawful b a z h le = record {
  acked = h.acked;
  lost = without_runs a z b.lost h.lost;
  apart = λ o i j. h.apart o i ((without_is a z b.lost o).0 j).0;
  acked_sent = λ o i. (let lt = h.acked_sent o i in omega (arith, lt));
  lost_sent = λ o i. (let lt = h.lost_sent o ((without_is a z b.lost o).0 i).0 in omega (arith, lt));
  filled = h.filled;
  whole = h.whole;
  begun = h.begun;
  needed = h.needed;
  sent = omega (arith, h.sent);
  bounded = omega (arith, h.bounded, le);
  small = h.small;
}

pub poll_lawful : (b : Buffered) (most : ℕ) → IsBuffered b → IsBuffered (after_poll b most)
poll_lawful b most h =
    let end = sent_within b most h in
    let bounded = next_bounded b h in
    sent_lawful b (next_start b) (sent_end b most) h (omega (arith, end, bounded))

-- ---- what the calls do to the fields

-- the pieces of a buffer
abbrev pub pieces_in : Buffered → KeptBytes
pieces_in b = record { base = b.base; bytes = b.kept; lengths = b.pieces }

-- a buffer with other pieces
abbrev pub with_pieces : KeptBytes → Buffered → Buffered
with_pieces k b = record b { base = k.base; kept = k.bytes; pieces = k.lengths }

-- pieces put behind the others are writes in turn
each_written : (b : Buffered) (cs : List (List ℕ)) → with_pieces (with_each cs (pieces_in b)) b ≡ after_writes b cs
each_written b [] = refl
each_written b (c ∷ cs) = each_written (after_write b c) cs

-- bytes are put behind the others, each chunk as a piece, or memory lacks
pub writes_either : {T E : Type 0} (r : Result T E) (b : Buffered) (cs : List (List ℕ)) (k : KeptBytes) → IsBuffered b → written b + bytes_of cs < 2 ^ 62
    → OnOk r (k ≡ with_each cs (pieces_in b)) → OnErr r (k ≡ pieces_in b) → IsBuffered (with_pieces k b)
writes_either (Ok x) b cs k h small put same = rw put (subst (λ (v : Buffered). IsBuffered v) (sym (each_written b cs)) (writes_lawful b cs h small))
writes_either (Err x) b cs k h small put same = rw same h

pub writes_made : {T E : Type 0} (r : Result T E) (v b : Buffered) (cs : List (List ℕ)) (k : KeptBytes) → v ≡ b
    → OnOk r (k ≡ with_each cs (pieces_in v)) → OnOk r (with_pieces k v ≡ after_writes b cs)
writes_made (Ok x) v b cs k e put = ap (λ (j : KeptBytes). with_pieces j v) put ∙ each_written v cs ∙ ap (λ (w : Buffered). after_writes w cs) e
writes_made (Err x) v b cs k e put = tt

pub loss_made : (v b : Buffered) → v ≡ b → IsBuffered v → (new : List Run) (a z end : ℕ) → end ≡ min z v.unsent → AreRuns new → AddsLacking v.lost v.acked new a end → record v { lost = new } ≡ after_loss b a z
loss_made v b e h new a z end cut runs adds =
    ap (λ (l : List Run). record v { lost = l }) (lost_only a (min z v.unsent) v.lost v.acked new h.lost runs (subst (λ n. AddsLacking v.lost v.acked new a n) cut adds))
    ∙ ap (λ (w : Buffered). after_loss w a z) e

pub sent_made : (v b : Buffered) → v ≡ b → IsBuffered v → (new : List Run) (u a z : ℕ) → u ≡ max v.unsent z → AreRuns new → Drops v.lost new a z → record v { unsent = u; lost = new } ≡ record b { unsent = max b.unsent z; lost = without_offsets a z b.lost }
sent_made v b e h new u a z top runs drops =
    ap (λ (l : List Run). record v { unsent = u; lost = l }) (without_only a z v.lost new h.lost runs drops)
    ∙ ap (λ (n : ℕ). record v { unsent = n; lost = without_offsets a z v.lost }) top
    ∙ ap (λ (w : Buffered). record w { unsent = max w.unsent z; lost = without_offsets a z w.lost }) e

-- what goes next is lost first of all, and begins below the greatest offset
pub least_at : (v b : Buffered) → v ≡ b → IsBuffered v → (a : ℕ) → a ≡ next_start b → (k : ℕ) → Has v.lost k → a ≤ k
least_at v b e h a at k x =
    let le = first_is_least v.lost (record { start = v.unsent; end = written v }) k h.lost x in
    subst (λ n. n ≤ k) (sym (at ∙ ap (λ (w : Buffered). next_start w) (sym e))) le

pub start_small : (v b : Buffered) → v ≡ b → IsBuffered v → (a : ℕ) → a ≡ next_start b → a < 2 ^ 62
start_small v b e h a at =
    let le = next_ordered v h in
    let lt = next_bounded v h in
    let small = h.small in
    subst (λ n. n < 2 ^ 62) (sym (at ∙ ap (λ (w : Buffered). next_start w) (sym e))) (omega (arith, le, lt, small))

-- where nothing is lost, what goes was never sent
pub first_time : (b : Buffered) (most : ℕ) → b.lost ≡ [] → after_poll b most ≡ record b { unsent = sent_end b most }
first_time b most e =
    let start : next_start b ≡ b.unsent = ap (λ (l : List Run). (first_or l (record { start = b.unsent; end = written b })).start) e in
    let from = sent_from b most in
    let top : max b.unsent (sent_end b most) ≡ sent_end b most = omega (arith, start, from) in
    let gone : without_offsets (next_start b) (sent_end b most) b.lost ≡ b.lost = ap (without_offsets (next_start b) (sent_end b most)) e ∙ without_none (next_start b) (sent_end b most) ∙ sym e in
    ap (λ (n : ℕ). record b { unsent = n; lost = without_offsets (next_start b) (sent_end b most) b.lost }) top
    ∙ ap (λ (l : List Run). record b { unsent = sent_end b most; lost = l }) gone

-- the sets after an acknowledgement
pub record IsAcked (v : Buffered) (a z end : ℕ) (acked lost : List Run) : Type 0 where
  pub cut : end ≡ min z v.unsent
  pub adds : Adds v.acked acked a end
  pub runs_acked : AreRuns acked
  pub drops : Drops v.lost lost a end
  pub runs_lost : AreRuns lost

acked_set : {v : Buffered} {a z end : ℕ} {acked lost : List Run} → IsBuffered v → IsAcked v a z end acked lost → acked ≡ with_offsets a (min z v.unsent) v.acked
acked_set {v} {a} {z} {end} {acked} h m = with_only a (min z v.unsent) v.acked acked h.acked m.runs_acked (subst (λ n. Adds v.acked acked a n) m.cut m.adds)

lost_set : {v : Buffered} {a z end : ℕ} {acked lost : List Run} → IsBuffered v → IsAcked v a z end acked lost → lost ≡ without_offsets a (min z v.unsent) v.lost
lost_set {v} {a} {z} {end} {acked} {lost} h m = without_only a (min z v.unsent) v.lost lost h.lost m.runs_lost (subst (λ n. Drops v.lost lost a n) m.cut m.drops)

pub ack_made : {v : Buffered} {a z end : ℕ} {acked lost : List Run} (first : ℕ) (k : KeptBytes) → IsBuffered v → IsAcked v a z end acked lost
    → first ≡ first_lacking acked → k ≡ released_to first (pieces_in v) → with_pieces k (record v { acked = acked; lost = lost }) ≡ after_ack v a z
ack_made {v} {a} {z} {end} {acked} {lost} first k h m at made =
    ap (λ (x : KeptBytes). with_pieces x (record v { acked = acked; lost = lost })) (made ∙ ap (λ n. released_to n (pieces_in v)) at)
    ∙ ap (λ (rs : List Run). with_pieces (released_to (first_lacking rs) (pieces_in v)) (record v { acked = rs; lost = lost })) (acked_set h m)
    ∙ ap (λ (rs : List Run). with_pieces (released_to (first_unacknowledged (acknowledged v a z)) (pieces_in v)) (record v { acked = with_offsets a (min z v.unsent) v.acked; lost = rs })) (lost_set h m)

-- ---- where memory lacks for the sets

-- what an acknowledgement puts in isn't acknowledged, nor is what it takes out, which is lost
pub unacked_found : (v b : Buffered) → v ≡ b → IsBuffered v → (a z end : ℕ) → end ≡ min z v.unsent → HasMoving v.acked v.lost a end → HasUnacked b a z
unacked_found v b e h a z end cut m =
    let below = m.below in
    subst (λ (w : Buffered). HasUnacked w a z) e (record {
      offset = m.number;
      above = m.above;
      below = omega (arith, cut, below);
      sent = omega (arith, cut, below);
      lacks = has_not v.acked m.number (λ i. elim m.moves [ inl j ↦ j i | inr j ↦ h.apart m.number i j ]);
    })

-- what a loss puts in is neither acknowledged nor lost
pub flight_found : (v b : Buffered) → v ≡ b → (a z end : ℕ) → end ≡ min z v.unsent → HasLacking v.lost v.acked a end → HasInFlight b a z
flight_found v b e a z end cut m =
    let k = m.lacking in
    let below = k.1 in
    subst (λ (w : Buffered). HasInFlight w a z) e (record {
      offset = m.number;
      above = k.0;
      below = omega (arith, cut, below);
      flight =
          let sent = lt-ltb m.number v.unsent (omega (arith, cut, below)) in
          let acked = has_not v.acked m.number k.2 in
          let lost = has_not v.lost m.number m.new in
          rw (sent, acked, lost) refl;
    })
