-- What an end consumed of all streams is no less than what the lists of a run say (RFC 9000,
-- section 4.1).
use Rattle.std.proofs.Common.{◌≡◌, ℕ, zero, suc, ◌+◌, ◌<◌, ◌≤◌, max, eqb, Bool, true, false, ◌||◌, ◌&&◌, List, [], ◌∷◌, length, Option, Some, None, refl, sym, ap, ◌∙◌, subst, inl, inr, arith, length-append}
use Rattle.std.specs.Prelude.{◌==◌, if◌then◌else◌}
use Rattle.std.specs.List.{IsDistinct, AllByRecursion, list_any, sum_by}
use Rattle.std.specs.Option.{is_some}
use Rattle.std.proofs.lemmas.Bool.{cases_lt, both_ways, or_cases, or_parts, and_parts, eqb-true, eq-eqb, ne_eqb, cond-true, cond-false}
use Rattle.std.proofs.lemmas.List.Sums.{sum_by-cons}
use Rattle.quic_assembler.specs.declared.assembler.Chunk.{Chunk}
use Rattle.quic_assembler.specs.Arrived.{bytes_read_of}
use Rattle.quic_wire.specs.Value.{FrameValue, ResetStreamValue, stream, reset_stream}
use Rattle.quic_streams_parts.specs.Table.{at}
use Rattle.quic_streams_parts.specs.RecvHalf.{RecvHalf, credit}
use Rattle.quic_streams_halves.specs.Halves.{has_place, status_from}
use Rattle.quic_streams_state.specs.declared.state.StreamsState.{StreamsState}
use Rattle.quic_streams_state.specs.State.{consumed, is_opened, receives_on}
use Rattle.quic_streams_laws.specs.Content.{HoldsRead, IsRecvStatus}
use Rattle.quic_streams_laws.specs.ContentLaws.{reads_are}
use Rattle.quic_streams_laws.specs.Each.{HalfIs}
use Rattle.quic_streams_laws.specs.Reads.{Reads, AreSlices, IsRecvHalf, nothing_read}
use Rattle.quic_streams_laws.specs.ReadsLaws.{stands_within}
use Rattle.quic_streams_laws.specs.Summed.{sum_below, amount_of, consumed_in}
use Rattle.quic_streams_laws.specs.SummedLaws.{sum_same, sum_one, opened_below}
use Rattle.quic_streams_laws.specs.Written.{Wrote, IsStreamOf, IsResetOf}
use Rattle.quic_headline.specs.Runs.{Told, Packet, In, reads, bytes_of, offsets_from, offsets_of}
use Rattle.quic_headline.specs.Amounts.{greatest_in, greatest}
use Rattle.quic_headline.specs.Unread.{stopped}
use Rattle.quic_headline.specs.Credit.{end_in, resets_stream, was_reset, and_stream, stream_in, streams_in, streams_of, consumed_on, all_consumed}
use Rattle.quic_headline.proofs.Places.Told.{in_append}
use Rattle.quic_headline.proofs.Places.Order.{bytes_same}
use Rattle.quic_headline.proofs.Halves.Ghosts.{read, SaysOf}
use Rattle.quic_headline.proofs.Halves.ReadGroup.{WasIn}
use Rattle.quic_headline.proofs.Duties.Carrier.{any_is}
use Rattle.quic_headline.proofs.Duties.Halts.{IsHalted, AreHalted}
use Rattle.quic_headline.proofs.Channel.AllStreams.{ids}
use Rattle.quic_headline.proofs.Channel.Below.{IsBelow}
use Rattle.quic_headline.proofs.Channel.Below as below_laws
use Rattle.quic_headline.proofs.Channel.Received.{Stays, StatusBelow}
use Rattle.quic_headline.proofs.Unread.Walk.{Of}
use Rattle.quic_headline.proofs.Unread.Half.{Brings, IsTold, IsUntold, IsWhole}
use Rattle.quic_headline.proofs.Unread.Consumed.{Consumes}

-- ---- numbers, of which no two are the same

-- no number stands twice
abbrev Apart : List ℕ → Type 0
Apart [] = Unit {0}
Apart (x ∷ xs) = (In x xs → ⊥) × Apart xs

-- those that aren't this one
abbrev others : ℕ → List ℕ → List ℕ
others n [] = []
others n (x ∷ xs) = if x == n then others n xs else x ∷ others n xs

others_in : (n y : ℕ) (xs : List ℕ) → In y (others n xs) → In y xs × (y ≡ n → ⊥)
others_in n y [] i = absurd i
others_in n y (x ∷ xs) i = go (x == n) refl (others_in n y xs) i
  where
    go : (b : Bool) → (x == n) ≡ b → (In y (others n xs) → In y xs × (y ≡ n → ⊥)) → In y (if b then others n xs else x ∷ others n xs) → In y (x ∷ xs) × (y ≡ n → ⊥)
    go true same more j = let rest = more j in (inr rest.0, rest.1)
    go false apart more (inl is) = (inl is, λ e. both_ways (x == n) apart (eq-eqb x n (sym is ∙ e)))
    go false apart more (inr j) = let rest = more j in (inr rest.0, rest.1)

others_apart : (n : ℕ) (xs : List ℕ) → Apart xs → Apart (others n xs)
others_apart n [] a = tt
others_apart n (x ∷ xs) a = go (x == n) (others_apart n xs a.1)
  where
    go : (b : Bool) → Apart (others n xs) → Apart (if b then others n xs else x ∷ others n xs)
    go true rest = rest
    go false rest = (λ i. a.0 (others_in n x xs i).0, rest)

none_out : (n : ℕ) (xs : List ℕ) → (In n xs → ⊥) → length xs ≤ length (others n xs)
none_out n [] out = omega arith
none_out n (x ∷ xs) out = go (x == n) refl (none_out n xs (λ i. out (inr i)))
  where
    go : (b : Bool) → (x == n) ≡ b → length xs ≤ length (others n xs) → suc (length xs) ≤ length (if b then others n xs else x ∷ others n xs)
    go true same rest = absurd (out (inl (sym (eqb-true x n same))))
    go false apart rest = omega (arith, rest)

one_out : (n : ℕ) (xs : List ℕ) → Apart xs → length xs ≤ length (others n xs) + 1
one_out n [] a = omega arith
one_out n (x ∷ xs) a = go (x == n) refl (one_out n xs a.1)
  where
    go : (b : Bool) → (x == n) ≡ b → length xs ≤ length (others n xs) + 1 → suc (length xs) ≤ length (if b then others n xs else x ∷ others n xs) + 1
    go true same rest = let out = none_out n xs (λ i. a.0 (subst (λ (y : ℕ). In y xs) (sym (eqb-true x n same)) i)) in omega (arith, out)
    go false apart rest = omega (arith, rest)

-- there are no more of them than lie below their bound
few : (n : ℕ) (xs : List ℕ) → Apart xs → ((y : ℕ) → In y xs → y < n) → length xs ≤ n
few zero [] a below = omega arith
few zero (x ∷ xs) a below = let no = below x (inl refl) in absurd (omega (arith, no))
few (suc n) xs a below =
    let one = one_out n xs a in
    let rest = few n (others n xs) (others_apart n xs a) lower in
    omega (arith, one, rest)
  where
    lower : (y : ℕ) → In y (others n xs) → y < n
    lower y i =
        let there = others_in n y xs i in
        let low = below y there.0 in
        elim (cases_lt y n) [ inl less ↦ less | inr more ↦ absurd (there.1 (omega (arith, low, more))) ]

-- ---- the offsets of what was read

all_in : (P : ℕ → Type 0) (xs : List ℕ) (y : ℕ) → AllByRecursion P xs → In y xs → P y
all_in P [] y all i = absurd i
all_in P (x ∷ xs) y all (inl is) = subst P (sym is) all.0
all_in P (x ∷ xs) y all (inr i) = all_in P xs y all.1 i

apart_of : (xs : List ℕ) → IsDistinct eqb xs → Apart xs
unfolding IsDistinct
apart_of [] d = tt
apart_of (x ∷ xs) d = (λ i. both_ways (x == x) (all_in (λ (y : ℕ). eqb x y ≡ false) xs x d.0 i) (eq-eqb x x refl), apart_of xs d.1)

from_within : (offset : ℕ) (bytes : List ℕ) (o : ℕ) → In o (offsets_from offset bytes) → o < offset + length bytes
from_within offset [] o i = absurd i
from_within offset (b ∷ bytes) o (inl is) = let same : o ≡ offset = is in omega (arith, same)
from_within offset (b ∷ bytes) o (inr i) = let rest = from_within (offset + 1) bytes o i in omega (arith, rest)

offsets_within : (all : List ℕ) (cs : List Chunk) → AreSlices all cs → (o : ℕ) → In o (offsets_of cs) → o < length all
offsets_within all [] s o i = absurd i
offsets_within all (c ∷ cs) s o i = elim (in_append o (offsets_from c.offset c.bytes) (offsets_of cs) i) [
  | inl here ↦ (let below = from_within c.offset c.bytes o here in let within = stands_within all c.offset c.bytes s.0 in omega (arith, below, within))
  | inr there ↦ offsets_within all cs s.1 o there
]

offsets_many : (offset : ℕ) (bytes : List ℕ) → length (offsets_from offset bytes) ≡ length bytes
offsets_many offset [] = refl
offsets_many offset (b ∷ bytes) = let rest = offsets_many (offset + 1) bytes in omega (arith, rest)

read_many : (cs : List Chunk) → length (offsets_of cs) ≡ length (bytes_of cs)
read_many [] = refl
read_many (c ∷ cs) =
    let here = offsets_many c.offset c.bytes in
    let rest = read_many cs in
    let a = length-append (offsets_from c.offset c.bytes) (offsets_of cs) in
    let b = length-append c.bytes (bytes_of cs) in
    omega (arith, here, rest, a, b)

-- no more was read than was written
read_within : (all : List ℕ) (cs : List Chunk) → IsDistinct eqb (offsets_of cs) → AreSlices all cs → length (bytes_of cs) ≤ length all
read_within all cs d s =
    let most = few (length all) (offsets_of cs) (apart_of (offsets_of cs) d) (offsets_within all cs s) in
    let many = read_many cs in
    omega (arith, most, many)

-- ---- what came

-- what frames bring of a stream lies below a bound where each does
frames_below : (id bound : ℕ) (fs : List FrameValue) → ((f : FrameValue) (end : ℕ) → In f fs → Brings f id end → end ≤ bound) → greatest_in (end_in id) fs ≤ bound
frames_below id bound [] each = omega arith
frames_below id bound (f ∷ fs) each =
    let here = one f (λ end brings. each f end (inl refl) brings) in
    let rest = frames_below id bound fs (λ g end i brings. each g end (inr i) brings) in
    omega (arith, here, rest)
  where
    one : (g : FrameValue) → ((end : ℕ) → Brings g id end → end ≤ bound) → end_in id g ≤ bound
    one (stream g) all = go (g.id == id) refl
      where
        go : (b : Bool) → (g.id == id) ≡ b → (if b then g.offset + length g.bytes else 0) ≤ bound
        go true is = all (g.offset + length g.bytes) (eqb-true g.id id is, refl)
        go false is = omega arith
    one (reset_stream g) all = go (g.id == id) refl
      where
        go : (b : Bool) → (g.id == id) ≡ b → (if b then g.final_size else 0) ≤ bound
        go true is = all g.final_size (eqb-true g.id id is, refl)
        go false is = omega arith
    one g all = omega arith

packets_below : (id bound : ℕ) (ps : List Packet) → ((f : FrameValue) (end : ℕ) → WasIn ps f → Brings f id end → end ≤ bound) → greatest (end_in id) ps ≤ bound
packets_below id bound [] each = omega arith
packets_below id bound (p ∷ ps) each =
    let here = frames_below id bound p.frames (λ f end i brings. each f end (record { packet = p; was_taken = inl refl; carried = i }) brings) in
    let rest = packets_below id bound ps (λ f end v brings. each f end (record { packet = v.packet; was_taken = inr v.was_taken; carried = v.carried }) brings) in
    omega (arith, here, rest)

-- the frame by which a stream was reset
frame_resets : (id : ℕ) (fs : List FrameValue) → list_any (resets_stream id) fs ≡ true → (f : ResetStreamValue) × In (reset_stream f) fs × (f.id ≡ id)
frame_resets id [] is = cc
frame_resets id (f ∷ fs) is = elim (or_cases (resets_stream id f) (list_any (resets_stream id) fs) is) [
  | inl here ↦ one f here
  | inr more ↦ (let rest = frame_resets id fs more in (rest.0, inr rest.1, rest.2))
]
  where
    one : (g : FrameValue) → resets_stream id g ≡ true → (h : ResetStreamValue) × In (reset_stream h) (g ∷ fs) × (h.id ≡ id)
    one (reset_stream g) here = (g, inl refl, eqb-true g.id id here)
    one g here = cc

pub was_cut : (id : ℕ) (ps : List Packet) → was_reset id ps ≡ true → (f : ResetStreamValue) × WasIn ps (reset_stream f) × (f.id ≡ id)
was_cut id [] is = cc
was_cut id (p ∷ ps) is = elim (or_cases (list_any (resets_stream id) p.frames) (was_reset id ps) is) [
  | inl here ↦ (let found = frame_resets id p.frames here in (found.0, record { packet = p; was_taken = inl refl; carried = found.1 }, found.2))
  | inr more ↦ (let rest = was_cut id ps more in (rest.0, record { packet = rest.1.packet; was_taken = inr rest.1.was_taken; carried = rest.1.carried }, rest.2))
]

-- ---- the streams of which something came

and_apart : (o : Option ℕ) (js : List ℕ) → Apart js → Apart (and_stream o js)
and_apart None js a = a
and_apart (Some id) js a = go (list_any (λ (j : ℕ). j == id) js) refl
  where
    go : (b : Bool) → list_any (λ (j : ℕ). j == id) js ≡ b → Apart (if b then js else id ∷ js)
    go true is = a
    go false is = (λ i. both_ways (list_any (λ (j : ℕ). j == id) js) is (any_is (λ (j : ℕ). j == id) id js i (eq-eqb id id refl)), a)

frames_apart : (fs : List FrameValue) (js : List ℕ) → Apart js → Apart (streams_in fs js)
frames_apart [] js a = a
frames_apart (f ∷ fs) js a = and_apart (stream_in f) (streams_in fs js) (frames_apart fs js a)

streams_apart : (ps : List Packet) → Apart (streams_of ps)
streams_apart [] = tt
streams_apart (p ∷ ps) = frames_apart p.frames (streams_of ps) (streams_apart ps)

-- a sum over some, of which no two are the same, is no more than that below a bound above which it
-- is nothing
sum_some : (n : ℕ) (c f : ℕ → ℕ) (xs : List ℕ) → Apart xs → ((j : ℕ) → In j xs → j < n → f j ≤ c j) → ((j : ℕ) → n ≤ j → f j ≡ 0) → sum_by f xs ≤ sum_below n c
sum_some n c f [] a less above = omega arith
sum_some n c f (x ∷ xs) a less above =
    let rest : sum_by f xs ≤ sum_below n d = sum_some n d f xs a.1 d_less above in
    let both : sum_by f (x ∷ xs) ≡ f x + sum_by f xs = sum_by-cons f x xs in
    elim (cases_lt x n) [
      | inl lower ↦ (
          let one : sum_below n d + c x ≡ sum_below n c + d x = sum_one n x c d lower apart in
          let here = less x (inl refl) lower in
          let gone : d x ≡ 0 = cond-true (x == x) 0 (c x) (eq-eqb x x refl) in
          omega (arith, rest, both, one, here, gone))
      | inr more ↦ (
          let same : sum_below n d ≡ sum_below n c = sum_same n c d (λ j below. apart j (λ e. (let at_x : j ≡ x = e in omega (arith, at_x, below, more)))) in
          let none = above x more in
          omega (arith, rest, both, same, none))
    ]
  where
    d : ℕ → ℕ
    d j = if j == x then 0 else c j

    apart : (j : ℕ) → (j ≡ x → ⊥) → d j ≡ c j
    apart j ne = cond-false (j == x) 0 (c j) (ne_eqb j x ne)

    d_less : (j : ℕ) → In j xs → j < n → f j ≤ d j
    d_less j i below =
        let same : d j ≡ c j = apart j (λ e. a.0 (subst (λ (y : ℕ). In y xs) e i)) in
        let less_j = less j (inr i) below in
        omega (arith, same, less_j)

-- ---- each stream, and all

-- What is known of an end at which this was told, which took these packets.
pub record IsLeast (done : ℕ → Wrote) (packets : List Packet) (ts : List Told) (s : StreamsState) : Type 0 where
  pub known : Of (Consumes done (WasIn packets)) s
  pub stays : Stays s s
  pub read_so : HoldsRead done (read ts) s
  pub once : (id : ℕ) → IsDistinct eqb (offsets_of (reads id ts))
  pub halted : AreHalted (λ id. stopped id ts) s
  pub says : (f : FrameValue) → WasIn packets f → SaysOf done f

module _ (done : ℕ → Wrote) (packets : List Packet) (ts : List Told) (s : StreamsState) (k : IsLeast done packets ts s) where
  abbrev final : ℕ → ℕ
  final = k.known.final

  abbrev top : ℕ → ℕ
  top id = greatest (end_in id) packets

  abbrev read_on : ℕ → ℕ
  read_on id = length (bytes_of (reads id ts))

  -- what the lists say of a stream is no more than what was read, or came
  used_most : (id bound : ℕ) → read_on id ≤ bound → ((stopped id ts || was_reset id packets) ≡ true → top id ≤ bound) → consumed_on id packets ts ≤ bound
  used_most id bound low most = go (stopped id ts || was_reset id packets) most
    where
      go : (b : Bool) → (b ≡ true → top id ≤ bound) → max (read_on id) (if b then top id else 0) ≤ bound
      go true m = let high = m refl in omega (arith, low, high)
      go false m = omega (arith, low)

  -- all that came of it lies below what was written
  came_written : (id : ℕ) (f : FrameValue) (end : ℕ) → WasIn packets f → Brings f id end → end ≤ length (done id).bytes
  came_written id (stream f) end v brings =
      let says : IsStreamOf (done id) f = subst (λ (q : ℕ). IsStreamOf (done q) f) brings.0 (k.says (stream f) v) in
      let within = stands_within (done id).bytes f.offset f.bytes says.stands in
      let is = brings.1 in
      omega (arith, within, is)
  came_written id (reset_stream f) end v brings =
      let says : IsResetOf (done id) f = subst (λ (q : ℕ). IsResetOf (done q) f) brings.0 (k.says (reset_stream f) v) in
      let size = says.size in
      let is = brings.1 in
      omega (arith, size, is)
  came_written id f end v brings = absurd brings

  -- of a half in use
  live_least : (id : ℕ) (h : RecvHalf) → at s.receiving.halves.live id ≡ Some h → IsTold (done id) (WasIn packets) id h → IsRecvHalf (done id) (read ts id) h → (stopped id ts ≡ true → h.stopped ≡ true) → IsBelow h → consumed_on id packets ts ≤ credit h
  live_least id h found told reading halts below = go (h.stopped || is_some h.reset) refl
    where
      read_is : read_on id ≡ bytes_read_of h.arrived
      read_is = ap length (bytes_same (reads id ts)) ∙ sym reading.counted

      seen : top id ≤ h.seen
      seen = packets_below id h.seen packets told.reached

      go : (b : Bool) → (h.stopped || is_some h.reset) ≡ b → consumed_on id packets ts ≤ (if b then h.seen else bytes_read_of h.arrived)
      go true over = (let low = below_laws.read_within h below in let is = read_is in used_most id h.seen (omega (arith, low, is)) (λ e. seen))
      go false goes = (let is = read_is in used_most id (bytes_read_of h.arrived) (omega (arith, is)) (λ e. absurd (elim (or_cases (stopped id ts) (was_reset id packets) e) [
        | inl stop ↦ both_ways h.stopped (or_parts h.stopped (is_some h.reset) goes).0 (halts stop)
        | inr cut ↦ (let f = was_cut id packets cut in elim (told.reset f.0 f.1 f.2) [ inl stop ↦ both_ways h.stopped (or_parts h.stopped (is_some h.reset) goes).0 stop | inr reset ↦ both_ways (is_some h.reset) (or_parts h.stopped (is_some h.reset) goes).1 reset ])
      ])))

  -- of one that is done
  done_least : (id : ℕ) → IsWhole (done id) (final id) → consumed_on id packets ts ≤ final id
  done_least id whole =
      let size = whole.0 in
      let reading = reads_are done (read ts) s id k.read_so in
      let low : read_on id ≤ length (done id).bytes = read_within (done id).bytes (reads id ts) (k.once id) reading.slices in
      let high : top id ≤ length (done id).bytes = packets_below id (length (done id).bytes) packets (came_written id) in
      used_most id (final id) (omega (arith, low, size)) (λ e. omega (arith, high, size))

  -- of one that was never in use
  unused_least : (id : ℕ) → IsUntold (WasIn packets) id → read ts id ≡ nothing_read → consumed_on id packets ts ≤ 0
  unused_least id none nothing =
      let low : read_on id ≡ 0 = ap (λ (q : Reads). length (bytes_of q.chunks)) nothing in
      let high : top id ≤ 0 = packets_below id 0 packets (λ f end v brings. absurd (none f end v brings)) in
      used_most id 0 (omega (arith, low)) (λ e. high)

  each_least : (id : ℕ) → consumed_on id packets ts ≤ consumed_in final s id
  each_least id = go (at s.receiving.halves.live id) (receives_on s.side id && is_opened s id) (has_place s.side s.receiving.halves.places id) refl (k.known.each id) (k.read_so.each id) (k.halted.each id) (k.stays.below.each id)
    where
      go : (o : Option RecvHalf) (m used : Bool) → at s.receiving.halves.live id ≡ o → HalfIs (IsUntold (WasIn packets) id) (IsTold (done id) (WasIn packets) id) (IsWhole (done id) (final id)) o used → IsRecvStatus (done id) (read ts id) (status_from o m used)
          → IsHalted (stopped id ts) (status_from o m used) → StatusBelow id (status_from o m used) → consumed_on id packets ts ≤ amount_of credit (final id) o used
      go (Some h) m used found told reading halts below = live_least id h found told reading halts below
      go None m true found whole reading halts below = done_least id whole
      go None true false found none reading halts below = unused_least id none reading
      go None false false found none reading halts below = unused_least id none reading

  -- above the bound of all ids there is none
  none_above : (id : ℕ) → ids ≤ id → consumed_on id packets ts ≡ 0
  none_above id above = (let least = each_least id in let none = beyond_none in omega (arith, least, none))
    where
      beyond_none : consumed_in final s id ≡ 0
      beyond_none = go (at s.receiving.halves.live id) (has_place s.side s.receiving.halves.places id) refl refl
        where
          is_below : (receives_on s.side id && is_opened s id) ≡ true → ⊥
          is_below may = (let small = opened_below s id k.stays.few (and_parts (receives_on s.side id) (is_opened s id) may).1 in omega (arith, small, above))

          go : (o : Option RecvHalf) (used : Bool) → at s.receiving.halves.live id ≡ o → has_place s.side s.receiving.halves.places id ≡ used → amount_of credit (final id) o used ≡ 0
          go (Some h) used found placed = absurd (is_below (k.stays.shape.receiving.allowed id (k.stays.shape.receiving.placed id h found)))
          go None true found placed = absurd (is_below (k.stays.shape.receiving.allowed id placed))
          go None false found placed = refl

  pub consumed_least : all_consumed packets ts ≤ consumed s.receiving
  consumed_least =
      let sum : consumed s.receiving ≡ sum_below ids (consumed_in final s) = k.known.sum in
      let most = sum_some ids (consumed_in final s) (λ id. consumed_on id packets ts) (streams_of packets) (streams_apart packets) (λ j i below. each_least j) none_above in
      omega (arith, sum, most)
