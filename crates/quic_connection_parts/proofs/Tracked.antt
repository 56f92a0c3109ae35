-- The packets that an ACK frame names, and the first that a verdict finds lost.
use Rattle.std.proofs.Common.{◌≡◌, ℕ, ◌+◌, ◌<◌, ◌≤◌, Bool, true, false, cond, not, ◌&&◌, nat_le, List, [], ◌∷◌, reverse, Option, Some, None, refl, sym, ap, ◌∙◌, arith}
use Rattle.std.specs.Option.{option_map}
use Rattle.std.specs.List.{AllByRecursion, list_any}
use Rattle.std.specs.Map.{keys_of}
use Rattle.std.specs.BTreeMap.{is_at}
use Rattle.std.specs.Ordering.{nat_cmp}
use Rattle.std.specs.declared.cmp.Ordering.TheVariants.{Less}
use Rattle.std.specs.Cmp.{unsigned_tied, ranked}
use Rattle.std.proofs.lemmas.Bool.{le-leb, eq-eqb, eqb-true}
use Rattle.std.proofs.lemmas.List.Sorted.{list_any-IsPermutation, IsPermutation-reverse}
use Rattle.std.proofs.lemmas.Map.Keys.{sorted_head, sorted_tail}
use Rattle.quic_wire.specs.Value.{AckValue}
use Rattle.quic_wire.specs.AckGrammar.{GoDown}
use Rattle.quic_streams_parts.specs.Table.{Table, at, without}
use Rattle.quic_sent_packets.specs.Packets.{Ascends, oldest, from}
use Rattle.quic_spaces.proofs.Tails.{other_behind}
use Rattle.quic_machine.specs.Tracking.{TrackedPacket, Tracking, asks_any, Verdict, is_lost, lost_by, kept_by, names, acked_by, not_acked_by}
use Rattle.quic_machine.specs.Acked.{measured}
use Rattle.quic_connection_parts.specs.Tracked.{TakesLost}

abbrev Packets : Type 0
Packets = Table TrackedPacket

-- ---- the first packet that is lost

-- where all lie above a number, all lie from one up to it on
all_from : (low m : ℕ) (es : Packets) → low ≤ m + 1 → AllByRecursion (λ y. nat_cmp m y ≡ Less) (keys_of es) → from low es ≡ es
all_from low m [] le above = refl
all_from low m (x ∷ es) le above =
    let l : m < x.0 = ranked m x.0 Less (sym above.0) in
    let here : nat_le low x.0 ≡ true = le-leb low x.0 (omega arith) in
    rw here (ap (λ (t : Packets). x ∷ t) (all_from low m es le above.1))

-- the packet of this number is the first that is lost: what is left without it
pub record FirstLost (v : Verdict) (es : Packets) (n : ℕ) : Type 0 where
  pub packet : TrackedPacket
  pub there : at es n ≡ Some packet
  pub first : lost_by v es ≡ (n, packet) ∷ lost_by v (without es n)
  pub kept : kept_by v (without es n) ≡ kept_by v es
  pub behind : lost_by v (from n (without es n)) ≡ lost_by v (without es n)

pub first_lost : (v : Verdict) (n : ℕ) (es : Packets) → Ascends es → Some n ≡ option_map (λ p. p.0) (oldest (lost_by v es)) → FirstLost v es n
first_lost v n [] up e = absurd cc
first_lost v n (x ∷ es) up e = go (is_lost v x) refl e (first_lost v n es (sorted_tail nat_cmp x.0 (keys_of es) up))
  where
    -- a packet that isn't lost is passed over, wherever one looks from
    passed : is_lost v x ≡ false → (b : Bool) (l : Packets) → lost_by v (cond b (x ∷ l) l) ≡ lost_by v l
    passed is true l = rw is refl
    passed is false l = refl

    go : (b : Bool) → is_lost v x ≡ b → Some n ≡ option_map (λ p. p.0) (oldest (cond b (x ∷ lost_by v es) (lost_by v es))) → (Some n ≡ option_map (λ p. p.0) (oldest (lost_by v es)) → FirstLost v es n) → FirstLost v (x ∷ es) n
    go true is f ih =
        let same : n ≡ x.0 = cc in
        let here : is_at (nat_cmp n) x.0 ≡ true = unsigned_tied n x.0 ∙ eq-eqb n x.0 same in
        let rest : from n es ≡ es = all_from n x.0 es (omega arith) (sorted_head nat_cmp x.0 (keys_of es) up) in
        record {
          packet = x.1;
          there = rw here refl;
          first = rw (here, is) (ap (λ (m : ℕ). (m, x.1) ∷ lost_by v es) (sym same));
          kept = rw (here, is) refl;
          behind = rw here (ap (lost_by v) rest);
        }
    go false is f ih =
        let s = ih f in
        let apart : is_at (nat_cmp n) x.0 ≡ false = other_behind es x.0 n s.packet (sorted_head nat_cmp x.0 (keys_of es) up) s.there in
        record {
          packet = s.packet;
          there = rw apart s.there;
          first = rw (apart, is) s.first;
          kept = rw (apart, is) (ap (λ (t : Packets). x ∷ t) s.kept);
          behind = rw apart (passed is (nat_le n x.0) (from n (without es n)) ∙ s.behind ∙ sym (passed is true (without es n)));
        }

-- it is taken out
pub takes_lost : (v : Verdict) (n : ℕ) (packet : TrackedPacket) (old new : Tracking) → FirstLost v old.packets n → Some packet ≡ at old.packets n → new ≡ record old { packets = without old.packets n } → TakesLost v (n, packet) old new
takes_lost v n packet old new f there left =
    let same : packet ≡ f.packet = cc (there ∙ f.there) in
    let gone : new.packets ≡ without old.packets n = ap (λ (t : Tracking). t.packets) left in
    record {
      first = f.first ∙ ap (λ (p : TrackedPacket). (n, p) ∷ lost_by v (without old.packets n)) (sym same) ∙ ap (λ (ps : Packets). (n, packet) ∷ lost_by v ps) (sym gone);
      kept = ap (kept_by v) gone ∙ f.kept;
      behind = ap (λ (ps : Packets). lost_by v (from n ps)) gone ∙ f.behind ∙ ap (lost_by v) (sym gone);
      others = left ∙ ap (λ (ps : Packets). record old { packets = ps }) (sym gone);
    }

-- so it is there
pub lost_is_there : (v : Verdict) (n : ℕ) (es : Packets) → FirstLost v es n → None ≡ at es n → ⊥
lost_is_there v n es f none = let e = none ∙ f.there in cc

-- where there is no first, there is none
pub no_oldest : (es : Packets) → None ≡ option_map (λ p. p.0) (oldest es) → es ≡ []
no_oldest [] none = refl
no_oldest (x ∷ es) none = absurd cc

-- where none is lost, all stay
pub all_kept : (v : Verdict) (es : Packets) → lost_by v es ≡ [] → kept_by v es ≡ es
all_kept v [] none = refl
all_kept v (x ∷ es) none = go (is_lost v x) refl none (all_kept v es)
  where
    go : (b : Bool) → is_lost v x ≡ b → cond b (x ∷ lost_by v es) (lost_by v es) ≡ [] → (lost_by v es ≡ [] → kept_by v es ≡ es) → cond (not b) (x ∷ kept_by v es) (kept_by v es) ≡ x ∷ es
    go true is f ih = absurd cc
    go false is f ih = ap (λ (t : Packets). x ∷ t) (ih f)

-- ---- the packets that an ACK frame names

-- where no packet is named, all stay
pub none_named : (a : AckValue) (es : Packets) → acked_by a es ≡ [] → not_acked_by a es ≡ es
none_named a [] none = refl
none_named a (x ∷ es) none = go (names a x.0) none (none_named a es)
  where
    go : (b : Bool) → cond b (x ∷ acked_by a es) (acked_by a es) ≡ [] → (acked_by a es ≡ [] → not_acked_by a es ≡ es) → cond (not b) (x ∷ not_acked_by a es) (not_acked_by a es) ≡ x ∷ es
    go true f ih = absurd cc
    go false f ih = ap (λ (t : Packets). x ∷ t) (ih f)

-- the packet of a number that is named is among them, where it is tracked
at_named : (a : AckValue) (n : ℕ) (es : Packets) → names a n ≡ true → at (acked_by a es) n ≡ at es n
at_named a n [] named = refl
at_named a n (x ∷ es) named = go (is_at (nat_cmp n) x.0) refl (names a x.0) refl (at_named a n es named)
  where
    go : (h : Bool) → is_at (nat_cmp n) x.0 ≡ h → (b : Bool) → names a x.0 ≡ b → at (acked_by a es) n ≡ at es n → at (cond b (x ∷ acked_by a es) (acked_by a es)) n ≡ cond h (Some x.1) (at es n)
    go true here true is ih = rw here refl
    go true here false is ih =
        let same : n ≡ x.0 = eqb-true n x.0 (sym (unsigned_tied n x.0) ∙ here) in
        let no : true ≡ false = sym named ∙ ap (names a) same ∙ is in
        absurd cc
    go false here true is ih = rw here ih
    go false here false is ih = ih

-- the greatest number of a frame is named
largest_named : (a : AckValue) → GoDown a.largest a.ranges → names a a.largest ≡ true
largest_named a down = go a.ranges down
  where
    go : (rs : List (ℕ × ℕ)) → GoDown a.largest rs → list_any (λ r. nat_le r.0 a.largest && nat_le a.largest r.1) rs ≡ true
    go [] down = absurd down
    go (r ∷ rs) down =
        let order : r.0 ≤ r.1 = down.0 in
        let top : r.1 ≡ a.largest = down.1 in
        let first : nat_le r.0 a.largest ≡ true = le-leb r.0 a.largest (omega arith) in
        let last : nat_le a.largest r.1 ≡ true = le-leb a.largest r.1 (omega arith) in
        rw (first, last) refl

-- whether one of some packets asks doesn't depend on their order
asks_reversed : (xs : Packets) → asks_any (reverse xs) ≡ asks_any xs
asks_reversed xs = sym (list_any-IsPermutation (λ (p : ℕ × TrackedPacket). p.1.asks) xs (reverse xs) (IsPermutation-reverse xs))

-- when the packet went that an ACK frame measures
pub moment_measured : (rises : Bool) (a : AckValue) (es acked : Packets) → GoDown a.largest a.ranges → acked_by a es ≡ reverse acked
    → cond (rises && asks_any acked) (option_map (λ p. p.time_sent) (at es a.largest)) None ≡ option_map (λ p. p.time_sent) (measured rises a (acked_by a es))
moment_measured rises a es acked down is =
    let asks : asks_any (acked_by a es) ≡ asks_any acked = ap asks_any is ∙ asks_reversed acked in
    let there : at (acked_by a es) a.largest ≡ at es a.largest = at_named a a.largest es (largest_named a down) in
    ap (λ (b : Bool). cond (rises && b) (option_map (λ p. p.time_sent) (at es a.largest)) None) (sym asks)
    ∙ ap (λ (o : Option TrackedPacket). cond (rises && asks_any (acked_by a es)) (option_map (λ p. p.time_sent) o) None) (sym there)
    ∙ by_cases (rises && asks_any (acked_by a es)) (at (acked_by a es) a.largest)
  where
    by_cases : (b : Bool) (o : Option TrackedPacket) → cond b (option_map (λ (p : TrackedPacket). p.time_sent) o) None ≡ option_map (λ (p : TrackedPacket). p.time_sent) (cond b o None)
    by_cases true o = refl
    by_cases false o = refl
