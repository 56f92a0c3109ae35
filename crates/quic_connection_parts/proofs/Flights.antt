-- What is in flight of the packets that are tracked, as packets go, leave and change.
use Rattle.std.proofs.Common.{◌≡◌, ℕ, ◌+◌, ◌-◌, ◌<◌, ◌≤◌, ◌^◌, Bool, true, false, not, ◌&&◌, cond, [], ◌∷◌, ◌++◌, length, take, get_or, reverse, All, sum_by, Option, Some, None, IfSome, refl, sym, ap, subst, ◌∙◌, arith}
use Rattle.std.specs.Prelude.{map, ◌==◌, if◌then◌else◌, unwrap_or}
use Rattle.std.specs.List.{count_by, filter}
use Rattle.std.specs.Option.{option_map}
use Rattle.std.specs.Map.{keys_of, values_of, remove_entry, set_value, lookup}
use Rattle.std.specs.BTreeMap.{is_at}
use Rattle.std.specs.Ordering.{nat_cmp, match_ordering}
use Rattle.std.specs.Cmp.{unsigned_tied, ranked}
use Rattle.std.specs.declared.cmp.Ordering.{Ordering}
use Rattle.std.specs.declared.cmp.Ordering.TheVariants.{Less, Equal, Greater}
use Rattle.std.proofs.lemmas.Bool.{and_parts, eq-eqb, eqb-true}
use Rattle.std.proofs.lemmas.List.{length-map}
use Rattle.std.proofs.lemmas.List.Sums.{sum_by-cons, sum_by_push, sum_by-le, sum_by_more, sum_by-take-le}
use Rattle.std.proofs.lemmas.List.Filters.{sum_by-filter_both}
use Rattle.std.proofs.lemmas.List.Sorted.{sum_by-IsPermutation, IsPermutation-reverse}
use Rattle.std.proofs.lemmas.List.Elements.{All-nil, All-cons, All-head, All-tail, All-filter, All-push, All-map, All-weaker}
use Rattle.std.proofs.lemmas.Map.Entries.{sum_by-remove_entry, sum_by-set_value}
use Rattle.std.proofs.lemmas.Map.Views.{length-le_from_below}
use Rattle.quic_wire.specs.Value.{AckValue}
use Rattle.quic_paths.specs.InFlight.{Flight, Packet, flight_of, flight_without, CanJoin, CanLeave}
use Rattle.quic_paths.specs.Paths.{PathValue}
use Rattle.quic_streams_parts.specs.Table.{Table, at, put, added, without}
use Rattle.quic_sent_packets.specs.Packets.{Ascends, oldest, without_record}
use Rattle.quic_machine.specs.Tracking.{TrackedPacket, Tracking, Verdict, is_lost, lost_by, kept_by, names, acked_by, not_acked_by, is_behind, tail_of, forgets, forgotten, without_packet, asking_sent, after_sent}
use Rattle.quic_spaces.specs.Filter.{Filter, is_skipped, allocated}
use Rattle.quic_machine.specs.Control.{flying}
use Rattle.quic_connection_parts.specs.Flying.{packet_in_flight, flying_packets, is_flying, flight_left, flight_left_any, flight_joined, less, HasAll, IsInFlight}
use Rattle.quic_connection_parts.specs.Tracked.{TakesLost}

abbrev Packets : Type 0
Packets = Table TrackedPacket

-- what a packet adds to the bytes in flight on the path of a generation, and to how many are in
-- flight
abbrev bytes_of : ℕ → TrackedPacket → ℕ
bytes_of g p = cond (is_flying g p) p.size 0

abbrev one_of : ℕ → TrackedPacket → ℕ
one_of g p = cond (is_flying g p) 1 0

abbrev total : (TrackedPacket → ℕ) → Packets → ℕ
total f ps = sum_by (λ p. f p.1) ps

abbrev totals : ℕ → Packets → Flight
totals g ps = record { bytes = total (bytes_of g) ps; asking = total (one_of g) ps }

same_flight : (a b c d : ℕ) → a ≡ c → b ≡ d → let f : Flight = record { bytes = a; asking = b } in f ≡ record { bytes = c; asking = d }
same_flight a b c d bytes asking = rw bytes (rw asking refl)

bytes_are : (g : ℕ) (ps : Packets) → sum_by (λ p. p.size) (flying_packets g ps) ≡ total (bytes_of g) ps
bytes_are g [] = refl
bytes_are g (p ∷ ps) = go (is_flying g p.1) (bytes_are g ps) ∙ sym (sum_by-cons (λ q. bytes_of g q.1) p ps)
  where
    go : (b : Bool) → sum_by (λ (q : Packet). q.size) (flying_packets g ps) ≡ total (bytes_of g) ps → sum_by (λ (q : Packet). q.size) (map packet_in_flight (cond b (p ∷ flying g ps) (flying g ps))) ≡ cond b p.1.size 0 + total (bytes_of g) ps
    go true others = sum_by-cons (λ (q : Packet). q.size) (packet_in_flight p) (flying_packets g ps) ∙ ap (λ (n : ℕ). p.1.size + n) others
    go false others = omega (arith, others)

count_is : (g : ℕ) (ps : Packets) → count_by (λ p. p.asks) (flying_packets g ps) ≡ total (one_of g) ps
count_is g [] = refl
count_is g (p ∷ ps) = go (is_flying g p.1) refl (count_is g ps) ∙ sym (sum_by-cons (λ q. one_of g q.1) p ps)
  where
    go : (b : Bool) → is_flying g p.1 ≡ b → count_by (λ (q : Packet). q.asks) (flying_packets g ps) ≡ total (one_of g) ps → count_by (λ (q : Packet). q.asks) (map packet_in_flight (cond b (p ∷ flying g ps) (flying g ps))) ≡ cond b 1 0 + total (one_of g) ps
    go true is others =
        let asks : p.1.asks ≡ true = (and_parts p.1.asks (p.1.generation == g) is).0 in
        sum_by-cons (λ (q : Packet). cond q.asks 1 0) (packet_in_flight p) (flying_packets g ps) ∙ ap (λ (b : Bool). cond b 1 0 + count_by (λ (q : Packet). q.asks) (flying_packets g ps)) asks ∙ ap (λ (n : ℕ). 1 + n) others
    go false is others = omega (arith, others)

totals_are : (g : ℕ) (ps : Packets) → flight_of (flying_packets g ps) ≡ totals g ps
totals_are g ps = same_flight _ _ _ _ (bytes_are g ps) (count_is g ps)

-- a flight by its totals
of_totals : (g next : ℕ) (ps : Packets) (f : Flight) → f.bytes ≡ total (bytes_of g) ps → f.asking ≡ total (one_of g) ps → All (λ p. p.0 < next) ps → All (λ p. p.1.size < 2 ^ 16) ps → All (λ p. p.1.generation ≤ g) ps → IsInFlight g next ps f
of_totals g next ps f bytes asking below sized aged = record { sums = same_flight _ _ _ _ bytes asking ∙ sym (totals_are g ps); below = below; sized = sized; aged = aged }

bytes_in : (g next : ℕ) (ps : Packets) (f : Flight) → IsInFlight g next ps f → f.bytes ≡ total (bytes_of g) ps
bytes_in g next ps f i = ap (λ (x : Flight). x.bytes) (i.sums ∙ totals_are g ps)

asking_in : (g next : ℕ) (ps : Packets) (f : Flight) → IsInFlight g next ps f → f.asking ≡ total (one_of g) ps
asking_in g next ps f i = ap (λ (x : Flight). x.asking) (i.sums ∙ totals_are g ps)

-- no packet is tracked
pub none_in_flight : (g next : ℕ) → IsInFlight g next [] (record { bytes = 0; asking = 0 })
none_in_flight g next = record { sums = refl; below = All-nil (λ (p : ℕ × TrackedPacket). p.0 < next); sized = All-nil (λ (p : ℕ × TrackedPacket). p.1.size < 2 ^ 16); aged = All-nil (λ (p : ℕ × TrackedPacket). p.1.generation ≤ g) }

-- ---- the packets that an ACK frame names

named_total : (f : TrackedPacket → ℕ) (a : AckValue) (ps acked : Packets) → reverse acked ≡ acked_by a ps → total f acked + total f (not_acked_by a ps) ≡ total f ps
named_total f a ps acked is =
    let both = sum_by-filter_both (λ (p : ℕ × TrackedPacket). names a p.0) (λ p. not (names a p.0)) (λ p. refl) (λ p. f p.1) ps in
    let turned : total f (reverse acked) ≡ total f acked = sum_by-IsPermutation (λ p. f p.1) acked (reverse acked) (IsPermutation-reverse acked) in
    let named : total f (reverse acked) ≡ total f (acked_by a ps) = ap (total f) is in
    omega (arith, both, turned, named)

-- they are all in flight before
pub named_fly : (g next : ℕ) (a : AckValue) (ps acked : Packets) (f : Flight) → IsInFlight g next ps f → reverse acked ≡ acked_by a ps → HasAll f (flight_of (flying_packets g acked))
named_fly g next a ps acked f i is =
    let bytes = named_total (bytes_of g) a ps acked is in
    let asking = named_total (one_of g) a ps acked is in
    let b = bytes_in g next ps f i in
    let k = asking_in g next ps f i in
    subst (λ (x : Flight). HasAll f x) (sym (totals_are g acked)) (record { bytes = omega (arith, bytes, b); asking = omega (arith, asking, k) })

-- and the others once they are gone
pub named_leave : (g next : ℕ) (a : AckValue) (ps acked : Packets) (f : Flight) → IsInFlight g next ps f → reverse acked ≡ acked_by a ps → IsInFlight g next (not_acked_by a ps) (less f (flight_of (flying_packets g acked)))
named_leave g next a ps acked f i is =
    let bytes = named_total (bytes_of g) a ps acked is in
    let asking = named_total (one_of g) a ps acked is in
    let b = bytes_in g next ps f i in
    let k = asking_in g next ps f i in
    let left = of_totals g next (not_acked_by a ps) (less f (totals g acked)) (omega (arith, bytes, b)) (omega (arith, asking, k))
    (All-filter (λ p. not (names a p.0)) (λ p. p.0 < next) ps i.below) (All-filter (λ p. not (names a p.0)) (λ p. p.1.size < 2 ^ 16) ps i.sized) (All-filter (λ p. not (names a p.0)) (λ p. p.1.generation ≤ g) ps i.aged) in
    subst (λ (x : Flight). IsInFlight g next (not_acked_by a ps) (less f x)) (sym (totals_are g acked)) left

-- ---- a packet that is lost

lost_total : (f : TrackedPacket → ℕ) (v : Verdict) (p : ℕ × TrackedPacket) (old new : Tracking) → TakesLost v p old new → f p.1 + total f new.packets ≡ total f old.packets
lost_total f v p old new takes =
    let before = sum_by-filter_both (is_lost v) (λ q. not (is_lost v q)) (λ q. refl) (λ q. f q.1) old.packets in
    let after = sum_by-filter_both (is_lost v) (λ q. not (is_lost v q)) (λ q. refl) (λ q. f q.1) new.packets in
    let first : total f (lost_by v old.packets) ≡ f p.1 + total f (lost_by v new.packets) = ap (total f) takes.first ∙ sum_by-cons (λ q. f q.1) p (lost_by v new.packets) in
    let kept : total f (kept_by v new.packets) ≡ total f (kept_by v old.packets) = ap (total f) takes.kept in
    omega (arith, before, after, first, kept)

-- what holds of those that pass a test and of those that don't holds of all
all_parted : (P : ℕ × TrackedPacket → Type 0) (test : ℕ × TrackedPacket → Bool) (ps : Packets) → All P (filter test ps) → All P (filter (λ p. not (test p)) ps) → All P ps
all_parted P test [] pass fail = All-nil P
all_parted P test (p ∷ ps) pass fail = go (test p) pass fail (all_parted P test ps)
  where
    go : (b : Bool) → All P (cond b (p ∷ filter test ps) (filter test ps)) → All P (cond (not b) (p ∷ filter (λ q. not (test q)) ps) (filter (λ q. not (test q)) ps))
        → (All P (filter test ps) → All P (filter (λ q. not (test q)) ps) → All P ps) → All P (p ∷ ps)
    go true pass fail others = All-cons P p ps (All-head P p (filter test ps) pass) (others (All-tail P p (filter test ps) pass) fail)
    go false pass fail others = All-cons P p ps (All-head P p (filter (λ q. not (test q)) ps) fail) (others pass (All-tail P p (filter (λ q. not (test q)) ps) fail))

lost_all : (P : ℕ × TrackedPacket → Type 0) (v : Verdict) (p : ℕ × TrackedPacket) (old new : Tracking) → TakesLost v p old new → All P old.packets → All P new.packets
lost_all P v p old new takes all =
    all_parted P (is_lost v) new.packets
    (All-tail P p (lost_by v new.packets) (subst (λ (ps : Packets). All P ps) takes.first (All-filter (is_lost v) P old.packets all)))
    (subst (λ (ps : Packets). All P ps) (sym takes.kept) (All-filter (λ q. not (is_lost v q)) P old.packets all))

-- it was in flight, if it flew
pub lost_flies : (g next : ℕ) (v : Verdict) (p : ℕ × TrackedPacket) (old new : Tracking) (f : Flight) → IsInFlight g next old.packets f → TakesLost v p old new → is_flying g p.1 ≡ true → CanLeave f p.1.size true
lost_flies g next v p old new f i takes flew =
    let bytes = lost_total (bytes_of g) v p old new takes in
    let asking = lost_total (one_of g) v p old new takes in
    let b = bytes_in g next old.packets f i in
    let k = asking_in g next old.packets f i in
    let size : bytes_of g p.1 ≡ p.1.size = ap (λ (x : Bool). cond x p.1.size 0) flew in
    let one : one_of g p.1 ≡ 1 = ap (λ (x : Bool). cond x 1 0) flew in
    record { bytes = omega (arith, bytes, b, size); asking = omega (arith, asking, k, one) }

-- and the others are once it is gone
pub lost_leaves : (g next : ℕ) (v : Verdict) (p : ℕ × TrackedPacket) (old new : Tracking) (f : Flight) → IsInFlight g next old.packets f → TakesLost v p old new
    → IsInFlight g next new.packets (flight_left g f p.1)
lost_leaves g next v p old new f i takes = go (is_flying g p.1) refl
  where
    b : f.bytes ≡ total (bytes_of g) old.packets
    b = bytes_in g next old.packets f i

    k : f.asking ≡ total (one_of g) old.packets
    k = asking_in g next old.packets f i

    bytes : bytes_of g p.1 + total (bytes_of g) new.packets ≡ total (bytes_of g) old.packets
    bytes = lost_total (bytes_of g) v p old new takes

    asking : one_of g p.1 + total (one_of g) new.packets ≡ total (one_of g) old.packets
    asking = lost_total (one_of g) v p old new takes

    go : (x : Bool) → is_flying g p.1 ≡ x → IsInFlight g next new.packets (if x then flight_without f p.1.size true else f)
    go true flew =
        let size : bytes_of g p.1 ≡ p.1.size = ap (λ (x : Bool). cond x p.1.size 0) flew in
        let one : one_of g p.1 ≡ 1 = ap (λ (x : Bool). cond x 1 0) flew in
        of_totals g next new.packets (flight_without f p.1.size true) (omega (arith, bytes, b, size)) (omega (arith, asking, k, one))
        (lost_all (λ q. q.0 < next) v p old new takes i.below) (lost_all (λ q. q.1.size < 2 ^ 16) v p old new takes i.sized) (lost_all (λ q. q.1.generation ≤ g) v p old new takes i.aged)
    go false flew =
        let size : bytes_of g p.1 ≡ 0 = ap (λ (x : Bool). cond x p.1.size 0) flew in
        let one : one_of g p.1 ≡ 0 = ap (λ (x : Bool). cond x 1 0) flew in
        of_totals g next new.packets f (omega (arith, bytes, b, size)) (omega (arith, asking, k, one))
        (lost_all (λ q. q.0 < next) v p old new takes i.below) (lost_all (λ q. q.1.size < 2 ^ 16) v p old new takes i.sized) (lost_all (λ q. q.1.generation ≤ g) v p old new takes i.aged)

-- ---- packets that leave one after another

step_total : (f : TrackedPacket → ℕ) (ps : Packets) (i : ℕ) (p : ℕ × TrackedPacket) → i < length ps → p ≡ get_or ps i p → total f (take (i + 1) ps) ≡ total f (take i ps) + f p.1
step_total f ps i p in_list is = sum_by_more (λ q. f q.1) ps i p in_list ∙ ap (λ (q : ℕ × TrackedPacket). total f (take i ps) + f q.1) (sym is)

pub next_flies : (g : ℕ) (ps : Packets) (i : ℕ) (p : ℕ × TrackedPacket) (f : Flight) → HasAll f (flight_of (flying_packets g ps)) → i < length ps → p ≡ get_or ps i p → is_flying g p.1 ≡ true
    → CanLeave (less f (flight_of (flying_packets g (take i ps)))) p.1.size true
next_flies g ps i p f has in_list is flew =
    let all = subst (λ (x : Flight). HasAll f x) (totals_are g ps) has in
    let b = all.bytes in
    let k = all.asking in
    let bytes = step_total (bytes_of g) ps i p in_list is in
    let asking = step_total (one_of g) ps i p in_list is in
    let few = sum_by-take-le (λ (q : ℕ × TrackedPacket). bytes_of g q.1) ps (i + 1) in
    let fewer = sum_by-take-le (λ (q : ℕ × TrackedPacket). one_of g q.1) ps (i + 1) in
    let size : bytes_of g p.1 ≡ p.1.size = ap (λ (x : Bool). cond x p.1.size 0) flew in
    let one : one_of g p.1 ≡ 1 = ap (λ (x : Bool). cond x 1 0) flew in
    subst (λ (x : Flight). CanLeave (less f x) p.1.size true) (sym (totals_are g (take i ps))) (record { bytes = omega (arith, b, bytes, few, size); asking = omega (arith, k, asking, fewer, one) })

pub next_leaves : (g : ℕ) (ps : Packets) (i : ℕ) (p : ℕ × TrackedPacket) (f : Flight) → i < length ps → p ≡ get_or ps i p
    → flight_left g (less f (flight_of (flying_packets g (take i ps)))) p.1 ≡ less f (flight_of (flying_packets g (take (i + 1) ps)))
next_leaves g ps i p f in_list is =
    ap (λ (x : Flight). flight_left g (less f x) p.1) (totals_are g (take i ps))
    ∙ go (is_flying g p.1) refl
    ∙ ap (less f) (sym (totals_are g (take (i + 1) ps)))
  where
    bytes : total (bytes_of g) (take (i + 1) ps) ≡ total (bytes_of g) (take i ps) + bytes_of g p.1
    bytes = step_total (bytes_of g) ps i p in_list is

    asking : total (one_of g) (take (i + 1) ps) ≡ total (one_of g) (take i ps) + one_of g p.1
    asking = step_total (one_of g) ps i p in_list is

    go : (x : Bool) → is_flying g p.1 ≡ x → (if x then flight_without (less f (totals g (take i ps))) p.1.size true else less f (totals g (take i ps))) ≡ less f (totals g (take (i + 1) ps))
    go true flew =
        let size : bytes_of g p.1 ≡ p.1.size = ap (λ (x : Bool). cond x p.1.size 0) flew in
        let one : one_of g p.1 ≡ 1 = ap (λ (x : Bool). cond x 1 0) flew in
        same_flight _ _ _ _ (omega (arith, bytes, size)) (omega (arith, asking, one))
    go false flew =
        let size : bytes_of g p.1 ≡ 0 = ap (λ (x : Bool). cond x p.1.size 0) flew in
        let one : one_of g p.1 ≡ 0 = ap (λ (x : Bool). cond x 1 0) flew in
        same_flight _ _ _ _ (omega (arith, bytes, size)) (omega (arith, asking, one))

pub path_next : {C : Type 0} (first before after : PathValue C) (ps : Packets) (i : ℕ) (p : ℕ × TrackedPacket) → i < length ps → p ≡ get_or ps i p
    → before ≡ record first { in_flight = less first.in_flight (flight_of (flying_packets first.generation (take i ps))) }
    → after ≡ record before { in_flight = flight_left before.generation before.in_flight p.1 }
    → after ≡ record first { in_flight = less first.in_flight (flight_of (flying_packets first.generation (take (i + 1) ps))) }
path_next {C} first before after ps i p in_list is was goes =
    goes ∙ ap (λ (x : PathValue C). record x { in_flight = flight_left x.generation x.in_flight p.1 }) was
    ∙ ap (λ (f : Flight). record first { in_flight = f }) (next_leaves first.generation ps i p first.in_flight in_list is)

-- ---- the bytes in flight

pub bytes_by_size : (xs : Packets) → sum_by (λ p. p.size) (map packet_in_flight xs) ≡ sum_by (λ p. p.1.size) xs
bytes_by_size [] = refl
bytes_by_size (x ∷ xs) =
    sum_by-cons (λ (q : Packet). q.size) (packet_in_flight x) (map packet_in_flight xs) ∙ ap (λ (n : ℕ). x.1.size + n) (bytes_by_size xs) ∙ sym (sum_by-cons (λ (q : ℕ × TrackedPacket). q.1.size) x xs)

-- ---- a packet that goes

by_values : (f : TrackedPacket → ℕ) (ps : Packets) → total f ps ≡ sum_by f (values_of ps)
by_values f [] = refl
by_values f (p ∷ ps) = sum_by-cons (λ (q : ℕ × TrackedPacket). f q.1) p ps ∙ ap (λ (n : ℕ). f p.1 + n) (by_values f ps) ∙ sym (sum_by-cons f p.1 (values_of ps))

-- without a packet that is there
without_total : (f : TrackedPacket → ℕ) (ps : Packets) (q : ℕ × TrackedPacket) → at ps q.0 ≡ Some q.1 → total f (without ps q.0) + f q.1 ≡ total f ps
without_total f ps q there =
    let left = sum_by-remove_entry f (is_at (nat_cmp q.0)) ps in
    let one : unwrap_or (option_map f (at ps q.0)) 0 ≡ f q.1 = ap (λ (o : Option TrackedPacket). unwrap_or (option_map f o) 0) there in
    let before = by_values f ps in
    let after = by_values f (without ps q.0) in
    omega (arith, left, one, before, after)

all_without : (P : ℕ × TrackedPacket → Type 0) (test : ℕ → Bool) (ps : Packets) → All P ps → All P (remove_entry test ps)
all_without P test [] all = all
all_without P test (p ∷ ps) all = go (test p.0) (all_without P test ps (All-tail P p ps all))
  where
    go : (b : Bool) → All P (remove_entry test ps) → All P (cond b ps (p ∷ remove_entry test ps))
    go true others = All-tail P p ps all
    go false others = All-cons P p (remove_entry test ps) (All-head P p ps all) others

-- one more, whose number lies above all
added_last : (n : ℕ) (p : TrackedPacket) (ps : Packets) → All (λ q. q.0 < n) ps → added ps n p ≡ ps ++ (n, p) ∷ []
added_last n p [] below = refl
added_last n p (q ∷ ps) below = go (nat_cmp n q.0) refl (added_last n p ps (All-tail (λ (x : ℕ × TrackedPacket). x.0 < n) q ps below))
  where
    less_here : q.0 < n
    less_here = All-head (λ (x : ℕ × TrackedPacket). x.0 < n) q ps below

    go : (r : Ordering) → nat_cmp n q.0 ≡ r → added ps n p ≡ ps ++ (n, p) ∷ [] → match_ordering r ((n, p) ∷ q ∷ ps) ((q.0, p) ∷ ps) (q ∷ added ps n p) ≡ q ∷ (ps ++ (n, p) ∷ [])
    go Less is others = absurd (let l : n < q.0 = ranked n q.0 Less (sym is) in omega (arith, l, less_here))
    go Equal is others = absurd (let l : n ≡ q.0 = ranked n q.0 Equal (sym is) in omega (arith, l, less_here))
    go Greater is others = ap (λ (xs : Packets). q ∷ xs) others

-- the oldest that passes a test of its number is there
passes_there : (test : ℕ → Bool) (ps : Packets) (q : ℕ × TrackedPacket) → oldest (filter (λ p. test p.0) ps) ≡ Some q → test q.0 ≡ true
passes_there test [] q is = absurd cc
passes_there test (p ∷ ps) q is = go (test p.0) refl is (passes_there test ps q)
  where
    go : (b : Bool) → test p.0 ≡ b → oldest (cond b (p ∷ filter (λ x. test x.0) ps) (filter (λ x. test x.0) ps)) ≡ Some q → (oldest (filter (λ x. test x.0) ps) ≡ Some q → test q.0 ≡ true) → test q.0 ≡ true
    go true here is others = let same : p ≡ q = cc in ap (λ (x : ℕ × TrackedPacket). test x.0) (sym same) ∙ here
    go false here is others = others is

pub same_place : (n : ℕ) → is_at (nat_cmp n) n ≡ true
same_place n = unsigned_tied n n ∙ eq-eqb n n refl

is_there : (test : ℕ → Bool) (ps : Packets) (q : ℕ × TrackedPacket) → oldest (filter (λ p. test p.0) ps) ≡ Some q → at ps q.0 ≡ Some q.1
is_there test [] q is = absurd cc
is_there test (p ∷ ps) q is = go (test p.0) refl is (is_there test ps q) (passes_there test ps q)
  where
    apart : test p.0 ≡ false → test q.0 ≡ true → (h : Bool) → is_at (nat_cmp q.0) p.0 ≡ h → at ps q.0 ≡ Some q.1 → cond h (Some p.1) (at ps q.0) ≡ Some q.1
    apart fails passes true here others =
        let same : q.0 ≡ p.0 = eqb-true q.0 p.0 (sym (unsigned_tied q.0 p.0) ∙ here) in
        let both : true ≡ false = sym passes ∙ ap test same ∙ fails in
        absurd cc
    apart fails passes false here others = others

    go : (b : Bool) → test p.0 ≡ b → oldest (cond b (p ∷ filter (λ x. test x.0) ps) (filter (λ x. test x.0) ps)) ≡ Some q → (oldest (filter (λ x. test x.0) ps) ≡ Some q → at ps q.0 ≡ Some q.1)
        → (oldest (filter (λ x. test x.0) ps) ≡ Some q → test q.0 ≡ true) → at (p ∷ ps) q.0 ≡ Some q.1
    go true here is others passes =
        let same : p ≡ q = cc in
        subst (λ (x : ℕ × TrackedPacket). at (p ∷ ps) x.0 ≡ Some x.1) same (ap (λ (b : Bool). cond b (Some p.1) (at ps p.0)) (same_place p.0))
    go false here is others passes = apart here (passes is) (is_at (nat_cmp q.0) p.0) refl (others is)

forgotten_there : (t : Tracking) (p : TrackedPacket) (q : ℕ × TrackedPacket) → forgotten t p ≡ Some q → at t.packets q.0 ≡ Some q.1
forgotten_there t p q is = go (forgets t p) is
  where
    go : (b : Bool) → (if b then oldest (tail_of t) else None) ≡ Some q → at t.packets q.0 ≡ Some q.1
    go true is = is_there (is_behind t.greatest_asking) t.packets q is
    go false is = absurd cc

-- what a packet joins and leaves
joined_bytes : (f : Flight) (size : ℕ) (asks : Bool) → (flight_joined f size asks).bytes ≡ f.bytes + cond asks size 0
joined_bytes f size true = refl
joined_bytes f size false = omega arith

joined_asking : (f : Flight) (size : ℕ) (asks : Bool) → (flight_joined f size asks).asking ≡ f.asking + cond asks 1 0
joined_asking f size true = refl
joined_asking f size false = omega arith

left_bytes : (g : ℕ) (f : Flight) (q : TrackedPacket) → (flight_left g f q).bytes ≡ f.bytes - bytes_of g q
left_bytes g f q = go (is_flying g q)
  where
    go : (b : Bool) → (if b then flight_without f q.size true else f).bytes ≡ f.bytes - cond b q.size 0
    go true = refl
    go false = omega arith

left_asking : (g : ℕ) (f : Flight) (q : TrackedPacket) → (flight_left g f q).asking ≡ f.asking - one_of g q
left_asking g f q = go (is_flying g q)
  where
    go : (b : Bool) → (if b then flight_without f q.size true else f).asking ≡ f.asking - cond b 1 0
    go true = refl
    go false = omega arith

on_path : (g : ℕ) (p : TrackedPacket) → p.generation ≡ g → is_flying g p ≡ p.asks
on_path g p same = ap (λ (b : Bool). p.asks && b) (eq-eqb p.generation g same) ∙ always p.asks
  where
    always : (b : Bool) → b && true ≡ b
    always true = refl
    always false = refl

-- the forgotten one was in flight, if it flew
pub forgotten_flies : (g next : ℕ) (t : Tracking) (f : Flight) (p : TrackedPacket) → IsInFlight g next t.packets f → IfSome (option_map (λ q. q.1) (forgotten t p)) (λ q. is_flying g q ≡ true → CanLeave (flight_joined f p.size p.asks) q.size true)
forgotten_flies g next t f p i = go (forgotten t p) refl
  where
    go : (o : Option (ℕ × TrackedPacket)) → forgotten t p ≡ o → IfSome (option_map (λ q. q.1) o) (λ q. is_flying g q ≡ true → CanLeave (flight_joined f p.size p.asks) q.size true)
    go None is = tt
    go (Some q) is = λ flew. (
        let there = forgotten_there t p q is in
        let b = bytes_in g next t.packets f i in
        let k = asking_in g next t.packets f i in
        let bytes = without_total (bytes_of g) t.packets q there in
        let asking = without_total (one_of g) t.packets q there in
        let more = joined_bytes f p.size p.asks in
        let one_more = joined_asking f p.size p.asks in
        let size : bytes_of g q.1 ≡ q.1.size = ap (λ (x : Bool). cond x q.1.size 0) flew in
        let one : one_of g q.1 ≡ 1 = ap (λ (x : Bool). cond x 1 0) flew in
        record { bytes = omega (arith, b, bytes, more, size); asking = omega (arith, k, asking, one_more, one) })

-- the packets once it went
pub sent_packets : (t : Tracking) (n : ℕ) (p : TrackedPacket) → (after_sent t n p).packets ≡ added (without_packet (forgotten t p) t.packets) n p
sent_packets t n p = go p.asks
  where
    left : Tracking
    left = record t { packets = added (without_packet (forgotten t p) t.packets) n p }

    go : (b : Bool) → (asking_sent b n p.time_sent left).packets ≡ left.packets
    go true = refl
    go false = refl

below_more : (n : ℕ) (q : ℕ × TrackedPacket) → q.0 < n → q.0 < n + 1
below_more n q h = omega (arith, h)

-- and what is in flight then
pub sent_flies : (g next n : ℕ) (t : Tracking) (f : Flight) (p : TrackedPacket) → IsInFlight g next t.packets f → next ≤ n → p.generation ≡ g → p.size < 2 ^ 16
    → IsInFlight g (n + 1) (added (without_packet (forgotten t p) t.packets) n p) (flight_left_any g (flight_joined f p.size p.asks) (option_map (λ q. q.1) (forgotten t p)))
sent_flies g next n t f p i above same fits = go (forgotten t p) refl
  where
    low : (q : ℕ × TrackedPacket) → q.0 < next → q.0 < n
    low q h = omega (arith, h, above)

    below : All (λ (q : ℕ × TrackedPacket). q.0 < n) t.packets
    below = All-weaker (λ (q : ℕ × TrackedPacket). q.0 < next) (λ q. q.0 < n) low t.packets i.below

    -- with those that stay, and what was in flight of them
    joins : (left : Packets) (h : Flight) → All (λ q. q.0 < n) left → All (λ q. q.1.size < 2 ^ 16) left → All (λ q. q.1.generation ≤ g) left → h.bytes ≡ total (bytes_of g) left + bytes_of g p → h.asking ≡ total (one_of g) left + one_of g p → IsInFlight g (n + 1) (added left n p) h
    joins left h few sized aged bytes asking =
        subst (λ (ps : Packets). IsInFlight g (n + 1) ps h) (sym (added_last n p left few))
        (of_totals g (n + 1) (left ++ (n, p) ∷ []) h (bytes ∙ sym (sum_by_push (λ (q : ℕ × TrackedPacket). bytes_of g q.1) left (n, p))) (asking ∙ sym (sum_by_push (λ (q : ℕ × TrackedPacket). one_of g q.1) left (n, p)))
        (All-push (λ (q : ℕ × TrackedPacket). q.0 < n + 1) left (n, p) (All-weaker (λ (q : ℕ × TrackedPacket). q.0 < n) (λ q. q.0 < n + 1) (below_more n) left few) (omega arith))
        (All-push (λ (q : ℕ × TrackedPacket). q.1.size < 2 ^ 16) left (n, p) sized fits)
        (All-push (λ (q : ℕ × TrackedPacket). q.1.generation ≤ g) left (n, p) aged (omega (arith, same))))

    b : f.bytes ≡ total (bytes_of g) t.packets
    b = bytes_in g next t.packets f i

    k : f.asking ≡ total (one_of g) t.packets
    k = asking_in g next t.packets f i

    size : bytes_of g p ≡ cond p.asks p.size 0
    size = ap (λ (x : Bool). cond x p.size 0) (on_path g p same)

    one : one_of g p ≡ cond p.asks 1 0
    one = ap (λ (x : Bool). cond x 1 0) (on_path g p same)

    more : (flight_joined f p.size p.asks).bytes ≡ f.bytes + cond p.asks p.size 0
    more = joined_bytes f p.size p.asks

    one_more : (flight_joined f p.size p.asks).asking ≡ f.asking + cond p.asks 1 0
    one_more = joined_asking f p.size p.asks

    go : (o : Option (ℕ × TrackedPacket)) → forgotten t p ≡ o → IsInFlight g (n + 1) (added (without_packet o t.packets) n p) (flight_left_any g (flight_joined f p.size p.asks) (option_map (λ q. q.1) o))
    go None is = joins t.packets (flight_joined f p.size p.asks) below i.sized i.aged (omega (arith, b, size, more)) (omega (arith, k, one, one_more))
    go (Some q) is =
        let there = forgotten_there t p q is in
        let bytes = without_total (bytes_of g) t.packets q there in
        let asking = without_total (one_of g) t.packets q there in
        let less_bytes = left_bytes g (flight_joined f p.size p.asks) q.1 in
        let less_asking = left_asking g (flight_joined f p.size p.asks) q.1 in
        joins (without t.packets q.0) (flight_left g (flight_joined f p.size p.asks) q.1) (all_without (λ x. x.0 < n) (is_at (nat_cmp q.0)) t.packets below) (all_without (λ x. x.1.size < 2 ^ 16) (is_at (nat_cmp q.0)) t.packets i.sized) (all_without (λ x. x.1.generation ≤ g) (is_at (nat_cmp q.0)) t.packets i.aged)
        (omega (arith, b, size, more, bytes, less_bytes)) (omega (arith, k, one, one_more, asking, less_asking))

-- ---- there is room for one more in flight: numbers ascend, so that there are no more packets than numbers

bytes_few : (g : ℕ) (q : ℕ × TrackedPacket) → q.1.size < 2 ^ 16 → bytes_of g q.1 ≤ 65535
bytes_few g q fits = go (is_flying g q.1)
  where
    go : (b : Bool) → cond b q.1.size 0 ≤ 65535
    go true = omega (arith, fits)
    go false = omega arith

one_few : (g : ℕ) (q : ℕ × TrackedPacket) → one_of g q.1 ≤ 1
one_few g q = go (is_flying g q.1)
  where
    go : (b : Bool) → cond b 1 0 ≤ 1
    go true = omega arith
    go false = omega arith

pub room_in_flight : (g next : ℕ) (ps : Packets) (f : Flight) (size : ℕ) → IsInFlight g next ps f → Ascends ps → next ≤ 2 ^ 62 → size < 2 ^ 16 → CanJoin f size true
room_in_flight g next ps f size i up few fits =
    let b = bytes_in g next ps f i in
    let k = asking_in g next ps f i in
    let long : length (keys_of ps) ≤ next = length-le_from_below next (keys_of ps) up (All-map (λ (n : ℕ). n < next) (λ (q : ℕ × TrackedPacket). q.0) ps i.below) in
    let same : length (keys_of ps) ≡ length ps = length-map ps (λ (q : ℕ × TrackedPacket). q.0) in
    let bytes = sum_by-le (λ (q : ℕ × TrackedPacket). bytes_of g q.1) 65535 ps (All-weaker (λ (q : ℕ × TrackedPacket). q.1.size < 2 ^ 16) (λ q. bytes_of g q.1 ≤ 65535) (bytes_few g) ps i.sized) in
    let asking = sum_by-le (λ (q : ℕ × TrackedPacket). one_of g q.1) 1 ps (λ n d h. one_few g (get_or ps n d)) in
    record { bytes = omega (arith, b, long, same, bytes, few, fits); asking = omega (arith, k, long, same, asking, few) }

-- ---- a packet whose record moves

set_total : (f : TrackedPacket → ℕ) (ps : Packets) (q : ℕ × TrackedPacket) (r : TrackedPacket) → at ps q.0 ≡ Some q.1 → f r ≡ f q.1 → total f (put ps q.0 r) ≡ total f ps
set_total f ps q r there same =
    let set = sum_by-set_value f (is_at (nat_cmp q.0)) ps q.1 r there in
    let before = by_values f ps in
    let after = by_values f (put ps q.0 r) in
    omega (arith, set, before, after, same)

all_set : (P : ℕ × TrackedPacket → Type 0) (test : ℕ → Bool) (ps : Packets) (r : TrackedPacket) → ((n : ℕ) (s : TrackedPacket) → lookup test ps ≡ Some s → P (n, s) → P (n, r)) → All P ps → All P (set_value test ps r)
all_set P test [] r moves all = all
all_set P test (p ∷ ps) r moves all = go (test p.0) refl (λ m. all_set P test ps r m (All-tail P p ps all))
  where
    go : (b : Bool) → test p.0 ≡ b → (((n : ℕ) (s : TrackedPacket) → lookup test ps ≡ Some s → P (n, s) → P (n, r)) → All P (set_value test ps r)) → All P (cond b ((p.0, r) ∷ ps) (p ∷ set_value test ps r))
    go true is others = All-cons P (p.0, r) ps (moves p.0 p.1 (ap (λ (b : Bool). cond b (Some p.1) (lookup test ps)) is) (All-head P p ps all)) (All-tail P p ps all)
    go false is others = All-cons P p (set_value test ps r) (All-head P p ps all) (others (λ n s found. moves n s (ap (λ (b : Bool). cond b (Some p.1) (lookup test ps)) is ∙ found)))

pub moved_flies : (g next : ℕ) (ps : Packets) (f : Flight) (q : ℕ × TrackedPacket) → IsInFlight g next ps f → at ps q.0 ≡ Some q.1 → IsInFlight g next (put ps q.0 (without_record q.1)) f
moved_flies g next ps f q i there =
    let r : TrackedPacket = without_record q.1 in
    of_totals g next (put ps q.0 r) f (bytes_in g next ps f i ∙ sym (set_total (bytes_of g) ps q r there refl)) (asking_in g next ps f i ∙ sym (set_total (one_of g) ps q r there refl))
    (all_set (λ x. x.0 < next) (is_at (nat_cmp q.0)) ps r (λ n s found h. h) i.below)
    (all_set (λ x. x.1.size < 2 ^ 16) (is_at (nat_cmp q.0)) ps r (λ n s found h. (let same : s ≡ q.1 = some_same s q.1 (sym found ∙ there) in subst (λ (x : TrackedPacket). x.size < 2 ^ 16) same h)) i.sized)
    (all_set (λ x. x.1.generation ≤ g) (is_at (nat_cmp q.0)) ps r (λ n s found h. (let same : s ≡ q.1 = some_same s q.1 (sym found ∙ there) in subst (λ (x : TrackedPacket). x.generation ≤ g) same h)) i.aged)
  where
    some_same : (s t : TrackedPacket) → Some s ≡ Some t → s ≡ t
    some_same s t e = cc

-- where a number is given that no packet has, all lie below the next one still
pub later_flies : (g next : ℕ) (filter : Filter) (ps : Packets) (f : Flight) → IsInFlight g next ps f → IsInFlight g (allocated filter next + 1) ps f
later_flies g next filter ps f i = record { sums = i.sums; below = λ k d few. (let lt = i.below k d few in let above = higher (is_skipped filter next) in omega (arith, lt, above)); sized = i.sized; aged = i.aged }
  where
    higher : (b : Bool) → next ≤ (if b then next + 1 else next)
    higher true = omega arith
    higher false = omega arith

-- ---- another path, on which nothing went

older : (g : ℕ) (p : TrackedPacket) → p.generation ≤ g → is_flying (g + 1) p ≡ false
older g p few = go (p.generation == g + 1) refl
  where
    never : (b : Bool) → b && false ≡ false
    never true = refl
    never false = refl

    go : (b : Bool) → (p.generation == g + 1) ≡ b → p.asks && b ≡ false
    go true is = absurd (let same : p.generation ≡ g + 1 = eqb-true p.generation (g + 1) is in omega (arith, same, few))
    go false is = never p.asks

none_fly : (g : ℕ) (ps : Packets) → All (λ p. p.1.generation ≤ g) ps → flying (g + 1) ps ≡ []
none_fly g [] aged = refl
none_fly g (p ∷ ps) aged =
    ap (λ (b : Bool). cond b (p ∷ flying (g + 1) ps) (flying (g + 1) ps)) (older g p.1 (All-head (λ (q : ℕ × TrackedPacket). q.1.generation ≤ g) p ps aged))
    ∙ none_fly g ps (All-tail (λ (q : ℕ × TrackedPacket). q.1.generation ≤ g) p ps aged)

pub path_made : (g next : ℕ) (ps : Packets) (f : Flight) → IsInFlight g next ps f → IsInFlight (g + 1) next ps (record { bytes = 0; asking = 0 })
path_made g next ps f i = record {
  sums = sym (ap (λ (xs : Packets). flight_of (map packet_in_flight xs)) (none_fly g ps i.aged));
  below = i.below;
  sized = i.sized;
  aged = All-weaker (λ (q : ℕ × TrackedPacket). q.1.generation ≤ g) (λ q. q.1.generation ≤ g + 1) (λ q h. omega (arith, h)) ps i.aged;
}
