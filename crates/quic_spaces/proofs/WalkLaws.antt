-- Going over tracked packets by number.
use Rattle.std.proofs.Common.{◌≡◌, ℕ, ◌+◌, ◌<◌, ◌≤◌, Bool, true, false, cond, ◌&&◌, ◌||◌, nat_lt, nat_le, [], ◌∷◌, map, min, All, Option, Some, None, IfSome, refl, sym, ap, ◌∙◌, arith}
use Rattle.std.specs.Option.{option_map}
use Rattle.std.specs.List.{AllByRecursion}
use Rattle.std.specs.Map.{keys_of}
use Rattle.std.specs.BTreeMap.{is_at}
use Rattle.std.specs.Ordering.{nat_cmp}
use Rattle.std.specs.declared.cmp.Ordering.TheVariants.{Less}
use Rattle.std.specs.Cmp.{unsigned_tied, ranked}
use Rattle.std.proofs.lemmas.Bool.{leb-true, leb-false, le-leb, lt-leb, eq-eqb, eqb-true, ne_eqb}
use Rattle.std.proofs.lemmas.List.Elements.{All-head, All-tail}
use Rattle.std.proofs.lemmas.Map.Keys.{sorted_head, sorted_tail}
use Rattle.quic_time.specs.Clocks.{saturated}
use Rattle.quic_streams_parts.specs.Table.{Table, at}
use Rattle.quic_sent_packets.specs.Packets.{TrackedPacket, Ascends, oldest, from}
use Rattle.quic_spaces.specs.Loss.{Verdict, is_by, is_lost, lost_by, lesser, least_of, overdue}
use Rattle.quic_spaces.specs.Walks.{StepsTo, up_to, lesser_of, loss_time_from}

abbrev Packets : Type 0
Packets = Table TrackedPacket

-- where all lie above a number, all lie from one up to it on
all_from : (low m : ℕ) (es : Packets) → low ≤ m + 1 → AllByRecursion (λ y. nat_cmp m y ≡ Less) (keys_of es) → from low es ≡ es
all_from low m [] le above = refl
all_from low m (x ∷ es) le above =
    let l : m < x.0 = ranked m x.0 Less (sym above.0) in
    let here : nat_le low x.0 ≡ true = le-leb low x.0 (omega arith) in
    rw here (ap (λ (t : Packets). x ∷ t) (all_from low m es le above.1))

-- the first packet at or above a number, and those behind it
pub steps_to : (low high n : ℕ) (es : Packets) → Ascends es → Some n ≡ option_map (λ p. p.0) (oldest (from low es)) → n < high → StepsTo low high es n
steps_to low high n [] up e below = absurd cc
steps_to low high n (x ∷ es) up e below = go (nat_le low x.0) refl e (λ f. steps_to low high n es (sorted_tail nat_cmp x.0 (keys_of es) up) f below)
  where
    go : (b : Bool) → nat_le low x.0 ≡ b → Some n ≡ option_map (λ p. p.0) (oldest (cond b (x ∷ from low es) (from low es))) → (Some n ≡ option_map (λ p. p.0) (oldest (from low es)) → StepsTo low high es n) → StepsTo low high (x ∷ es) n
    go true is f ih =
        let same : n ≡ x.0 = cc in
        let le : low ≤ x.0 = leb-true low x.0 is in
        let head = sorted_head nat_cmp x.0 (keys_of es) up in
        let past : nat_le (n + 1) x.0 ≡ false = lt-leb (n + 1) x.0 (omega arith) in
        let here : is_at (nat_cmp n) x.0 ≡ true = unsigned_tied n x.0 ∙ eq-eqb n x.0 same in
        let rest : from low es ≡ from (n + 1) es = all_from low x.0 es (omega arith) head ∙ sym (all_from (n + 1) x.0 es (omega arith) head) in
        record {
          packet = x.1;
          first = rw (is, past) (ap (λ (m : ℕ). (m, x.1) ∷ from low es) (sym same) ∙ ap (λ (t : Packets). (n, x.1) ∷ t) rest);
          there = rw here refl;
          above = omega arith;
          below = below;
        }
    go false is f ih =
        let s = ih f in
        let lt : x.0 < low = leb-false low x.0 is in
        let above : low ≤ n = s.above in
        let past : nat_le (n + 1) x.0 ≡ false = lt-leb (n + 1) x.0 (omega arith) in
        let apart : is_at (nat_cmp n) x.0 ≡ false = unsigned_tied n x.0 ∙ ne_eqb n x.0 (λ (k : n ≡ x.0). omega arith) in
        record { packet = s.packet; first = rw (is, past) s.first; there = rw apart s.there; above = above; below = below }

-- what is there lies below what all do
found_below : (m n : ℕ) (es : Packets) (v : TrackedPacket) → All (λ (p : ℕ × TrackedPacket). p.0 < m) es → at es n ≡ Some v → n < m
found_below m n [] v below found = absurd cc
found_below m n (x ∷ es) v below found = go (is_at (nat_cmp n) x.0) refl found (found_below m n es v (All-tail (λ (p : ℕ × TrackedPacket). p.0 < m) x es below))
  where
    go : (b : Bool) → is_at (nat_cmp n) x.0 ≡ b → cond b (Some x.1) (at es n) ≡ Some v → (at es n ≡ Some v → n < m) → n < m
    go true is f ih =
        let same : n ≡ x.0 = eqb-true n x.0 (sym (unsigned_tied n x.0) ∙ is) in
        let l : x.0 < m = All-head (λ (p : ℕ × TrackedPacket). p.0 < m) x es below in
        omega (arith, same, l)
    go false is f ih = ih f

-- the first packet at or above a number, if there is one
pub steps_if : (low m : ℕ) (es : Packets) (r : Option ℕ) → Ascends es → All (λ (p : ℕ × TrackedPacket). p.0 < m) es → r ≡ option_map (λ p. p.0) (oldest (from low es)) → IfSome r (λ n. StepsTo low m es n)
steps_if low m es None up below e = tt
steps_if low m es (Some n) up below e =
    let s = steps_to low (n + 1) n es up e (omega arith) in
    steps_to low m n es up e (found_below m n es s.packet below s.there)

-- from a number on none lies below one up to it
none_up_to : (low high : ℕ) (es : Packets) → high ≤ low → up_to high (from low es) ≡ []
none_up_to low high [] le = refl
none_up_to low high (x ∷ es) le = go (nat_le low x.0) refl (none_up_to low high es le)
  where
    go : (b : Bool) → nat_le low x.0 ≡ b → up_to high (from low es) ≡ [] → up_to high (cond b (x ∷ from low es) (from low es)) ≡ []
    go true is ih =
        let l : low ≤ x.0 = leb-true low x.0 is in
        let past : nat_lt x.0 high ≡ false = grind arith in
        rw past ih
    go false is ih = ih

-- where the first lies from a number on, none lies below that
pub none_below : (low high n : ℕ) (es : Packets) → Ascends es → Some n ≡ option_map (λ p. p.0) (oldest (from low es)) → high ≤ n → up_to high (from low es) ≡ []
none_below low high n es up e le =
    let s = steps_to low (n + 1) n es up e (omega arith) in
    let past : nat_lt n high ≡ false = grind arith in
    let rest = none_up_to (n + 1) high es (omega arith) in
    rw s.first (rw past rest)

-- ---- the first that is lost

-- where none lies below the greatest acknowledged, none is lost, nor overdue
pub none_lost : (v : Verdict) (es : Packets) → up_to v.greatest es ≡ [] → lost_by v es ≡ []
none_lost v [] e = refl
none_lost v (x ∷ es) e = go (nat_lt x.0 v.greatest) e (none_lost v es)
  where
    go : (b : Bool) → cond b (x ∷ up_to v.greatest es) (up_to v.greatest es) ≡ [] → (up_to v.greatest es ≡ [] → lost_by v es ≡ [])
        → cond (b && (nat_le (x.0 + v.threshold) v.greatest || is_by v.before x.1.time_sent)) (x ∷ lost_by v es) (lost_by v es) ≡ []
    go true f ih = absurd cc
    go false f ih = ih f

pub none_overdue : (greatest : ℕ) (es : Packets) → up_to greatest es ≡ [] → overdue greatest es ≡ []
none_overdue greatest [] e = refl
none_overdue greatest (x ∷ es) e = go (nat_lt x.0 greatest) e (none_overdue greatest es)
  where
    go : (b : Bool) → cond b (x ∷ up_to greatest es) (up_to greatest es) ≡ [] → (up_to greatest es ≡ [] → overdue greatest es ≡ []) → cond (b && x.1.asks) (x ∷ overdue greatest es) (overdue greatest es) ≡ []
    go true f ih = absurd cc
    go false f ih = ih f

-- a packet that isn't lost is passed over
pub passes_over : (v : Verdict) (low n : ℕ) (es : Packets) (s : StepsTo low v.greatest es n) → is_lost v (n, s.packet) ≡ false → lost_by v (from (n + 1) es) ≡ lost_by v (from low es)
passes_over v low n es s kept = sym (ap (lost_by v) s.first ∙ ap (λ (b : Bool). cond b ((n, s.packet) ∷ lost_by v (from (n + 1) es)) (lost_by v (from (n + 1) es))) kept)

-- one that is lost is the first
pub finds : (v : Verdict) (low n : ℕ) (es : Packets) (s : StepsTo low v.greatest es n) → is_lost v (n, s.packet) ≡ true → Some n ≡ option_map (λ p. p.0) (oldest (lost_by v (from low es)))
finds v low n es s lost = sym (ap (λ (l : Packets). option_map (λ p. p.0) (oldest l)) (ap (lost_by v) s.first ∙ ap (λ (b : Bool). cond b ((n, s.packet) ∷ lost_by v (from (n + 1) es)) (lost_by v (from (n + 1) es))) lost))

-- ---- the first moment of a loss by time

pub from_zero : (es : Packets) → from 0 es ≡ es
from_zero [] = refl
from_zero (x ∷ es) = let here : nat_le 0 x.0 ≡ true = le-leb 0 x.0 (omega arith) in rw here (ap (λ (t : Packets). x ∷ t) (from_zero es))

-- when one packet counts as lost by time, and when the first of some does
abbrev pub moment : ℕ → ℕ × TrackedPacket → ℕ
moment delay p = saturated (p.1.time_sent + delay)

lesser_next : (first : Option ℕ) (x : ℕ) (rest : Option ℕ) → lesser_of (Some (lesser x first)) rest ≡ lesser_of first (Some (lesser x rest))
lesser_next None x rest = refl
lesser_next (Some f) x None = let e : min x f ≡ min f x = omega arith in ap (λ (n : ℕ). Some n) e
lesser_next (Some f) x (Some r) = let e : min (min x f) r ≡ min f (min x r) = omega arith in ap (λ (n : ℕ). Some n) e

-- a packet that asks counts, one that doesn't is passed over
pub counts_asking : (greatest delay low n : ℕ) (es : Packets) (first : Option ℕ) (s : StepsTo low greatest es n) → s.packet.asks ≡ true
    → lesser_of (Some (lesser (moment delay (n, s.packet)) first)) (loss_time_from (n + 1) greatest delay es) ≡ lesser_of first (loss_time_from low greatest delay es)
counts_asking greatest delay low n es first s asks =
    let below : nat_lt n greatest ≡ true = (let l : n < greatest = s.below in grind arith) in
    let here : overdue greatest (from low es) ≡ (n, s.packet) ∷ overdue greatest (from (n + 1) es) = rw s.first (rw (below, asks) refl) in
    lesser_next first (moment delay (n, s.packet)) (loss_time_from (n + 1) greatest delay es)
    ∙ ap (λ (l : Packets). lesser_of first (least_of (map (moment delay) l))) (sym here)

pub passes_silent : (greatest delay low n : ℕ) (es : Packets) (first : Option ℕ) (s : StepsTo low greatest es n) → s.packet.asks ≡ false
    → lesser_of first (loss_time_from (n + 1) greatest delay es) ≡ lesser_of first (loss_time_from low greatest delay es)
passes_silent greatest delay low n es first s silent =
    let below : nat_lt n greatest ≡ true = (let l : n < greatest = s.below in grind arith) in
    let here : overdue greatest (from low es) ≡ overdue greatest (from (n + 1) es) = rw s.first (rw (below, silent) refl) in
    ap (λ (l : Packets). lesser_of first (least_of (map (moment delay) l))) (sym here)

pub ends : (greatest delay low : ℕ) (es : Packets) (first : Option ℕ) → up_to greatest (from low es) ≡ [] → lesser_of first (loss_time_from low greatest delay es) ≡ first
ends greatest delay low es first none = ap (λ (l : Packets). lesser_of first (least_of (map (moment delay) l))) (none_overdue greatest (from low es) none) ∙ alone first
  where
    alone : (o : Option ℕ) → lesser_of o None ≡ o
    alone None = refl
    alone (Some n) = refl
