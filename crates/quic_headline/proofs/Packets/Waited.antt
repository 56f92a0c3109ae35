-- Datagrams in flight, in step with the packets that their end tracks: what is chosen of both,
-- lost, measured and forgotten is the same of both.
use Rattle.std.proofs.Common.{◌≡◌, ℕ, suc, ◌+◌, ◌-◌, ◌≤◌, ◌⊎◌, Bool, true, false, not, ◌||◌, ◌&&◌, ◌==◌, List, [], ◌∷◌, ◌++◌, length, filter, map, cond, Option, Some, None, refl, sym, ap, ◌∙◌, subst, inl, inr, arith}
use Rattle.std.specs.Prelude.{if◌then◌else◌, nat_le, nat_lt}
use Rattle.std.specs.List.{list_any}
use Rattle.std.specs.Ordering.{nat_cmp}
use Rattle.std.specs.Cmp.{unsigned_tied}
use Rattle.std.specs.BTreeMap.{is_at}
use Rattle.std.proofs.lemmas.Bool.{leb-true, leb-false, le-leb, lt-leb}
use Rattle.quic_time.specs.Clocks.{saturated}
use Rattle.quic_retransmits.specs.Retransmits.{nothing_waits}
use Rattle.quic_streams_parts.specs.Table.{Table, at, put, without}
use Rattle.quic_machine.specs.Tracking.{TrackedPacket, Carried, carried_in, retransmits_in, without_record, asks_any, oldest, without_packet, verdict_at, lost_before, is_by, lost_by, kept_by, lesser, least_of, overdue}
use Rattle.quic_machine.specs.Tracking.{is_lost as is_lost_packet}
use Rattle.quic_headline.specs.Runs.{In}
use Rattle.quic_headline.specs.Observer.{Sent, Terms, asks_of, is_late, is_lost, first_late, staying, of_number, without_number, without_oldest}
use Rattle.quic_headline.specs.Observer.{lesser as lesser_of}
use Rattle.quic_headline.specs.InFlight.{waited_for, but_for_record, WaitsFor}
use Rattle.quic_headline.proofs.Packets.Invariant.{InStep, IsCarriedFrom, carried_again, carried_without}
use Rattle.quic_headline.proofs.Packets.Carried.{again_is, carried_same}
use Rattle.quic_headline.proofs.Packets.Numbered.{Lies, one_key}

-- A datagram in flight is tracked so: it carried what its frames say, or that without what has to
-- be sent again, which a probe took.
pub record IsWaited (s : Sent) (p : ℕ × TrackedPacket) : Type 0 where
  pub number : p.0 ≡ s.number
  pub generation : p.1.generation ≡ s.generation
  pub time : p.1.time_sent ≡ s.moment
  pub size : p.1.size ≡ (if asks_of s then s.size else 0)
  pub asks : p.1.asks ≡ asks_of s
  pub carried : IsCarriedFrom p.1.carried s.frames

-- these are tracked so, in step
abbrev pub AreWaited : List Sent → Table TrackedPacket → Type 0
AreWaited flying packets = InStep IsWaited flying packets

-- ---- what is chosen of both

-- tests that agree choose the same of both
pub waited_filter : (f : Sent → Bool) (g : ℕ × TrackedPacket → Bool) → ((s : Sent) (p : ℕ × TrackedPacket) → IsWaited s p → f s ≡ g p) → (ss : List Sent) (ps : Table TrackedPacket) → AreWaited ss ps → AreWaited (filter f ss) (filter g ps)
waited_filter f g agree [] [] w = tt
waited_filter f g agree (s ∷ ss) (p ∷ ps) w = subst (λ (b : Bool). AreWaited (filter f (s ∷ ss)) (cond b (p ∷ filter g ps) (filter g ps))) (agree s p w.0) (go (f s) (waited_filter f g agree ss ps w.1))
  where
    go : (b : Bool) → AreWaited (filter f ss) (filter g ps) → AreWaited (cond b (s ∷ filter f ss) (filter f ss)) (cond b (p ∷ filter g ps) (filter g ps))
    go true rest = (w.0, rest)
    go false rest = rest
waited_filter f g agree [] (p ∷ ps) w = absurd w
waited_filter f g agree (s ∷ ss) [] w = absurd w

-- and as many of both
pub waited_length : (ss : List Sent) (ps : Table TrackedPacket) → AreWaited ss ps → length ss ≡ length ps
waited_length [] [] w = refl
waited_length (s ∷ ss) (p ∷ ps) w = ap (λ (n : ℕ). suc n) (waited_length ss ps w.1)
waited_length [] (p ∷ ps) w = absurd w
waited_length (s ∷ ss) [] w = absurd w

-- one of both passes
pub waited_any : (f : Sent → Bool) (g : ℕ × TrackedPacket → Bool) → ((s : Sent) (p : ℕ × TrackedPacket) → IsWaited s p → f s ≡ g p) → (ss : List Sent) (ps : Table TrackedPacket) → AreWaited ss ps → list_any f ss ≡ list_any g ps
waited_any f g agree [] [] w = refl
waited_any f g agree (s ∷ ss) (p ∷ ps) w = ap (λ (b : Bool). b || list_any f ss) (agree s p w.0) ∙ ap (λ (b : Bool). g p || b) (waited_any f g agree ss ps w.1)
waited_any f g agree [] (p ∷ ps) w = absurd w
waited_any f g agree (s ∷ ss) [] w = absurd w

-- one of both asks
pub waited_asks : (ss : List Sent) (ps : Table TrackedPacket) → AreWaited ss ps → list_any asks_of ss ≡ asks_any ps
waited_asks ss ps w = waited_any asks_of (λ p. p.1.asks) (λ s p i. sym i.asks) ss ps w

-- what is in flight is tracked, and the other way round
pub waited_there : (ss : List Sent) (ps : Table TrackedPacket) (s : Sent) → AreWaited ss ps → In s ss → (p : ℕ × TrackedPacket) × In p ps × IsWaited s p
waited_there [] [] s w i = absurd i
waited_there (t ∷ ss) (p ∷ ps) s w (inl is) = (p, inl refl, subst (λ (u : Sent). IsWaited u p) (sym is) w.0)
waited_there (t ∷ ss) (p ∷ ps) s w (inr i) = let rest = waited_there ss ps s w.1 i in (rest.0, inr rest.1, rest.2)
waited_there [] (p ∷ ps) s w i = absurd w
waited_there (t ∷ ss) [] s w i = absurd w

-- ---- one of both

-- the place that a number stands at
place_same : (n : ℕ) (s : Sent) (p : ℕ × TrackedPacket) → IsWaited s p → (n == s.number) ≡ is_at (nat_cmp n) p.0
place_same n s p w = sym (unsigned_tied n s.number) ∙ ap (λ (k : ℕ). is_at (nat_cmp n) k) (sym w.number)

-- the one of a number is taken out
pub waited_without : (n : ℕ) (ss : List Sent) (ps : Table TrackedPacket) → AreWaited ss ps → AreWaited (without_number n ss) (without ps n)
waited_without n [] [] w = tt
waited_without n (s ∷ ss) (p ∷ ps) w = subst (λ (b : Bool). AreWaited (without_number n (s ∷ ss)) (cond b ps (p ∷ without ps n))) (place_same n s p w.0) (go (n == s.number) (waited_without n ss ps w.1))
  where
    go : (b : Bool) → AreWaited (without_number n ss) (without ps n) → AreWaited (if b then ss else s ∷ without_number n ss) (cond b ps (p ∷ without ps n))
    go true rest = w.1
    go false rest = (w.0, rest)
waited_without n [] (p ∷ ps) w = absurd w
waited_without n (s ∷ ss) [] w = absurd w

-- the record of one is taken
pub waited_put : (p : ℕ × TrackedPacket) (ss : List Sent) (ps : Table TrackedPacket) → ((q : ℕ × TrackedPacket) → In q ps → is_at (nat_cmp p.0) q.0 ≡ true → q ≡ p) → AreWaited ss ps → AreWaited ss (put ps p.0 (without_record p.1))
waited_put p [] [] same w = tt
waited_put p (s ∷ ss) (q ∷ ps) same w = go (is_at (nat_cmp p.0) q.0) refl (waited_put p ss ps (λ x i. same x (inr i)) w.1)
  where
    go : (b : Bool) → is_at (nat_cmp p.0) q.0 ≡ b → AreWaited ss (put ps p.0 (without_record p.1)) → AreWaited (s ∷ ss) (cond b ((q.0, without_record p.1) ∷ ps) (q ∷ put ps p.0 (without_record p.1)))
    go true is rest =
        let one : IsWaited s p = subst (λ (x : ℕ × TrackedPacket). IsWaited s x) (same q (inl refl) is) w.0 in
        (record { number = w.0.number; generation = one.generation; time = one.time; size = one.size; asks = one.asks; carried = carried_without p.1 s.frames one.carried }, w.1)
    go false is rest = (w.0, rest)
waited_put p [] (q ∷ ps) same w = absurd w
waited_put p (s ∷ ss) [] same w = absurd w

-- one more behind both
pub waited_push : (ss : List Sent) (ps : Table TrackedPacket) (s : Sent) (p : ℕ × TrackedPacket) → AreWaited ss ps → IsWaited s p → AreWaited (ss ++ s ∷ []) (ps ++ p ∷ [])
waited_push [] [] s p w i = (i, tt)
waited_push (t ∷ ss) (q ∷ ps) s p w i = (w.0, waited_push ss ps s p w.1 i)
waited_push [] (q ∷ ps) s p w i = absurd w
waited_push (t ∷ ss) [] s p w i = absurd w

-- the oldest of some is taken out of others
pub waited_oldest : (ss : List Sent) (ps : Table TrackedPacket) (us : List Sent) (qs : Table TrackedPacket) → AreWaited us qs → AreWaited ss ps → AreWaited (without_oldest us ss) (without_packet (oldest qs) ps)
waited_oldest ss ps [] [] u w = w
waited_oldest ss ps (s ∷ us) (p ∷ qs) u w = subst (λ (n : ℕ). AreWaited (without_number s.number ss) (without ps n)) (sym u.0.number) (waited_without s.number ss ps w)
waited_oldest ss ps [] (p ∷ qs) u w = absurd u
waited_oldest ss ps (s ∷ us) [] u w = absurd u

-- the one of a number is found in both, or in none
abbrev pub IsFound : Option Sent → Option TrackedPacket → Type 0
IsFound None None = Unit {0}
IsFound (Some s) (Some p) = p.time_sent ≡ s.moment
IsFound None (Some p) = ⊥
IsFound (Some s) None = ⊥

pub waited_found : (n : ℕ) (ss : List Sent) (ps : Table TrackedPacket) → AreWaited ss ps → IsFound (of_number n ss) (at ps n)
waited_found n [] [] w = tt
waited_found n (s ∷ ss) (p ∷ ps) w = subst (λ (b : Bool). IsFound (of_number n (s ∷ ss)) (cond b (Some p.1) (at ps n))) (place_same n s p w.0) (go (n == s.number) (waited_found n ss ps w.1))
  where
    go : (b : Bool) → IsFound (of_number n ss) (at ps n) → IsFound (if b then Some s else of_number n ss) (cond b (Some p.1) (at ps n))
    go true rest = w.0.time
    go false rest = rest
waited_found n [] (p ∷ ps) w = absurd w
waited_found n (s ∷ ss) [] w = absurd w

-- ---- losses

-- whether what went at a moment went so long before now
by_same : (delay now moment : ℕ) → is_by (lost_before delay now) moment ≡ is_late delay now moment
by_same delay now moment = go (nat_le delay now) refl
  where
    late : delay ≤ now → (b : Bool) → nat_le (moment + delay) now ≡ b → nat_le moment (now - delay) ≡ b
    late enough true is = let all = leb-true (moment + delay) now is in le-leb moment (now - delay) (omega arith)
    late enough false is = let less = leb-false (moment + delay) now is in lt-leb moment (now - delay) (omega arith)

    go : (b : Bool) → nat_le delay now ≡ b → is_by (if b then Some (now - delay) else None) moment ≡ is_late delay now moment
    go true is = late (leb-true delay now is) (is_late delay now moment) refl
    go false is = let less = leb-false delay now is in sym (lt-leb (moment + delay) now (omega arith))

-- a verdict finds the same lost
pub lost_same : (t : Terms) (delay clock greatest : ℕ) (s : Sent) (p : ℕ × TrackedPacket) → IsWaited s p → is_lost t delay clock greatest s ≡ is_lost_packet (verdict_at greatest t.threshold delay clock) p
lost_same t delay clock greatest s p w =
    ap (λ (n : ℕ). nat_lt n greatest && (nat_le (n + t.threshold) greatest || is_late delay clock s.moment)) (sym w.number)
    ∙ ap (λ (n : ℕ). nat_lt p.0 greatest && (nat_le (p.0 + t.threshold) greatest || is_late delay clock n)) (sym w.time)
    ∙ ap (λ (b : Bool). nat_lt p.0 greatest && (nat_le (p.0 + t.threshold) greatest || b)) (sym (by_same delay clock p.1.time_sent))

-- so the same stay, and the same go
pub waited_staying : (t : Terms) (delay clock greatest : ℕ) (ss : List Sent) (ps : Table TrackedPacket) → AreWaited ss ps → AreWaited (staying t delay clock greatest ss) (kept_by (verdict_at greatest t.threshold delay clock) ps)
waited_staying t delay clock greatest ss ps w =
    waited_filter (λ s. not (is_lost t delay clock greatest s)) (λ p. not (is_lost_packet (verdict_at greatest t.threshold delay clock) p)) (λ s p i. ap not (lost_same t delay clock greatest s p i)) ss ps w

pub waited_lost : (t : Terms) (delay clock greatest : ℕ) (ss : List Sent) (ps : Table TrackedPacket) → AreWaited ss ps → AreWaited (filter (λ s. is_lost t delay clock greatest s) ss) (lost_by (verdict_at greatest t.threshold delay clock) ps)
waited_lost t delay clock greatest ss ps w = waited_filter (λ s. is_lost t delay clock greatest s) (λ p. is_lost_packet (verdict_at greatest t.threshold delay clock) p) (lost_same t delay clock greatest) ss ps w

-- the lesser of two
lesser_same : (n : ℕ) (o : Option ℕ) → lesser_of n o ≡ lesser n o
lesser_same n None = refl
lesser_same n (Some k) = refl

-- the first of both may be lost at one moment
pub waited_late : (delay greatest : ℕ) (ss : List Sent) (ps : Table TrackedPacket) → AreWaited ss ps → first_late delay greatest ss ≡ least_of (map (λ p. saturated (p.1.time_sent + delay)) (overdue greatest ps))
waited_late delay greatest [] [] w = refl
waited_late delay greatest (s ∷ ss) (p ∷ ps) w =
    ap (λ (n : ℕ). if nat_lt n greatest && asks_of s then Some (lesser_of (saturated (s.moment + delay)) (first_late delay greatest ss)) else first_late delay greatest ss) (sym w.0.number)
    ∙ ap (λ (b : Bool). if nat_lt p.0 greatest && b then Some (lesser_of (saturated (s.moment + delay)) (first_late delay greatest ss)) else first_late delay greatest ss) (sym w.0.asks)
    ∙ ap (λ (n : ℕ). if nat_lt p.0 greatest && p.1.asks then Some (lesser_of (saturated (n + delay)) (first_late delay greatest ss)) else first_late delay greatest ss) (sym w.0.time)
    ∙ go (nat_lt p.0 greatest && p.1.asks) (waited_late delay greatest ss ps w.1)
  where
    rest : List ℕ
    rest = map (λ (q : ℕ × TrackedPacket). saturated (q.1.time_sent + delay)) (overdue greatest ps)

    first : ℕ
    first = saturated (p.1.time_sent + delay)

    go : (b : Bool) → first_late delay greatest ss ≡ least_of rest → (if b then Some (lesser_of first (first_late delay greatest ss)) else first_late delay greatest ss)
        ≡ least_of (map (λ (q : ℕ × TrackedPacket). saturated (q.1.time_sent + delay)) (cond b (p ∷ overdue greatest ps) (overdue greatest ps)))
    go true same = ap (λ (n : ℕ). Some n) (lesser_same first (first_late delay greatest ss) ∙ ap (λ (o : Option ℕ). lesser first o) same)
    go false same = same
waited_late delay greatest [] (p ∷ ps) w = absurd w
waited_late delay greatest (s ∷ ss) [] w = absurd w

-- ---- the clause

-- without its record, a packet is the datagram without it
waited_same : (s : Sent) (p : ℕ × TrackedPacket) → IsWaited s p → but_for_record p ≡ but_for_record (waited_for s)
waited_same s p w =
    ap (λ (n : ℕ). (n, record (without_record p.1) { generation = p.1.generation })) w.number
    ∙ ap (λ (g : ℕ). (s.number, record (without_record p.1) { generation = g })) w.generation
    ∙ ap (λ (n : ℕ). (s.number, record (without_record p.1) { generation = s.generation; time_sent = n })) w.time
    ∙ ap (λ (n : ℕ). (s.number, record (without_record p.1) { generation = s.generation; time_sent = s.moment; size = n })) w.size
    ∙ ap (λ (b : Bool). (s.number, record (without_record p.1) { generation = s.generation; time_sent = s.moment; size = if asks_of s then s.size else 0; asks = b })) w.asks
    ∙ ap (λ (c : Carried). (s.number, record { generation = s.generation; time_sent = s.moment; size = if asks_of s then s.size else 0; asks = asks_of s; carried = c })) (same w.carried ∙ ap (λ (c : Carried). record c { retransmits = nothing_waits }) (sym (carried_same s.frames)))
  where
    same : IsCarriedFrom p.1.carried s.frames → record p.1.carried { retransmits = nothing_waits } ≡ record (carried_in s.frames) { retransmits = nothing_waits }
    same (inl is) = ap (λ (c : Carried). record c { retransmits = nothing_waits }) is
    same (inr is) = ap (λ (c : Carried). record c { retransmits = nothing_waits }) is

all_same : (ss : List Sent) (ps : Table TrackedPacket) → AreWaited ss ps → map but_for_record ps ≡ map but_for_record (map waited_for ss)
all_same [] [] w = refl
all_same (s ∷ ss) (p ∷ ps) w = ap (λ (q : ℕ × TrackedPacket). q ∷ map but_for_record ps) (waited_same s p w.0) ∙ ap (λ (qs : Table TrackedPacket). but_for_record (waited_for s) ∷ qs) (all_same ss ps w.1)
all_same [] (p ∷ ps) w = absurd w
all_same (s ∷ ss) [] w = absurd w

-- what is waited for is one of the datagrams
of_flying : (ss : List Sent) (q : ℕ × TrackedPacket) → In q (map waited_for ss) → (s : Sent) × In s ss × (q ≡ waited_for s)
of_flying [] q i = absurd i
of_flying (s ∷ ss) q (inl is) = (s, inl refl, is)
of_flying (s ∷ ss) q (inr i) = let rest = of_flying ss q i in (rest.0, inr rest.1, rest.2)

-- an end waits for exactly these, where the numbers of what it tracks rise
pub waited_all : (low high : ℕ) (ss : List Sent) (ps : Table TrackedPacket) → Lies low high ps → AreWaited ss ps → WaitsFor ps (map waited_for ss)
waited_all low high ss ps lies w = record { same = all_same ss ps w; records = records }
  where
    records : (n : ℕ) (p q : TrackedPacket) → In (n, p) ps → In (n, q) (map waited_for ss) → (p.carried.retransmits ≡ q.carried.retransmits) ⊎ (p.carried.retransmits ≡ nothing_waits)
    records n p q i j =
        let found = of_flying ss (n, q) j in
        let s : Sent = found.0 in
        let there = waited_there ss ps s w found.1 in
        let numbers : n ≡ there.0.0 = ap (λ (x : ℕ × TrackedPacket). x.0) found.2 ∙ sym there.2.number in
        let one : (n, p) ≡ there.0 = one_key low high ps lies (n, p) there.0 i there.1 numbers in
        let again : q.carried.retransmits ≡ retransmits_in s.frames = ap (λ (x : ℕ × TrackedPacket). x.1.carried.retransmits) found.2 ∙ again_is s.frames in
        go s again (carried_again p.carried s.frames (subst (λ (x : ℕ × TrackedPacket). IsCarriedFrom x.1.carried s.frames) (sym one) there.2.carried))
      where
        go : (s : Sent) → q.carried.retransmits ≡ retransmits_in s.frames → (p.carried.retransmits ≡ retransmits_in s.frames) ⊎ (p.carried.retransmits ≡ nothing_waits) → (p.carried.retransmits ≡ q.carried.retransmits) ⊎ (p.carried.retransmits ≡ nothing_waits)
        go s again (inl is) = inl (is ∙ sym again)
        go s again (inr is) = inr is
