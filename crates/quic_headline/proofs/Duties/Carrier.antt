-- What stands in one of a list: lists in two parts, tables of packets with one more, and lists from
-- whose front one after another goes.
use Rattle.std.proofs.Common.{◌≡◌, ℕ, ◌<◌, Bool, true, false, not, cond, List, [], ◌∷◌, ◌++◌, filter, Option, Some, None, refl, sym, ap, ◌∙◌, subst, ◌⊎◌, inl, inr, arith}
use Rattle.std.specs.BTreeMap.{is_at}
use Rattle.std.specs.List.{list_any}
use Rattle.std.specs.Ordering.{nat_cmp, match_ordering}
use Rattle.std.specs.declared.cmp.Ordering.{Ordering}
use Rattle.std.specs.declared.cmp.Ordering.TheVariants.{Less, Equal, Greater}
use Rattle.std.proofs.lemmas.Bool.{or_left, or_right}
use Rattle.std.proofs.lemmas.Cmp.{ranked}
use Rattle.quic_streams_parts.specs.Table.{Table, put, added, without}
use Rattle.quic_machine.specs.Tracking.{Tracking, TrackedPacket, without_record, is_behind, without_packet, forgotten, after_sent}
use Rattle.quic_machine.specs.End.{End}
use Rattle.quic_machine.specs.PollCases.{ready_at}
use Rattle.quic_machine.specs.Poll.{tracked}
use Rattle.quic_headline.specs.Runs.{In}
use Rattle.quic_headline.specs.Duties.{AnyIn}
use Rattle.quic_headline.specs.Observer.{Sent}
use Rattle.quic_headline.proofs.Packets.Invariant.{AreTracked}
use Rattle.quic_headline.proofs.Packets.Numbered.{is_at_same}
use Rattle.quic_headline.proofs.Packets.Ascending.{Ascending, put_splits}
use Rattle.quic_headline.proofs.Packets.Probes.{in_put, by_ready}
use Rattle.quic_headline.proofs.Packets.TrackedSteps.{asking_packets, without_fewer}
use Rattle.quic_headline.proofs.Timers.LossTimers.{forgotten_behind}

-- ---- lists

-- one of a list passes a test
pub any_is : {X : Type 0} (f : X → Bool) (x : X) (xs : List X) → In x xs → f x ≡ true → list_any f xs ≡ true
any_is f x [] i on = absurd i
any_is f x (y ∷ xs) (inl same) on = or_left (f y) (list_any f xs) (ap f (sym same) ∙ on)
any_is f x (y ∷ xs) (inr more) on = or_right (f y) (list_any f xs) (any_is f x xs more on)

-- what holds of one of a list: it is among those that a test takes, or among the others
pub any_either : {X : Type 0} (P : X → Type 0) (f : X → Bool) (xs : List X) → AnyIn P xs → AnyIn P (filter f xs) ⊎ AnyIn P (filter (λ x. not (f x)) xs)
any_either P f [] i = absurd i
any_either P f (x ∷ xs) i = go (f x) i (any_either P f xs)
  where
    go : (b : Bool) → P x ⊎ AnyIn P xs → (AnyIn P xs → AnyIn P (filter f xs) ⊎ AnyIn P (filter (λ y. not (f y)) xs))
        → AnyIn P (cond b (x ∷ filter f xs) (filter f xs)) ⊎ AnyIn P (cond (not b) (x ∷ filter (λ y. not (f y)) xs) (filter (λ y. not (f y)) xs))
    go true (inl here) later = inl (inl here)
    go true (inr more) later = elim (later more) [ inl a ↦ inl (inr a) | inr b ↦ inr b ]
    go false (inl here) later = inr (inl here)
    go false (inr more) later = elim (later more) [ inl a ↦ inl a | inr b ↦ inr (inr b) ]

-- which one it is
pub any_member : {X : Type 0} (P : X → Type 0) (xs : List X) → AnyIn P xs → (x : X) × In x xs × P x
any_member P [] i = absurd i
any_member P (x ∷ xs) (inl here) = (x, inl refl, here)
any_member P (x ∷ xs) (inr more) = let rest = any_member P xs more in (rest.0, inr rest.1, rest.2)

-- among more
pub any_front : {X : Type 0} (P : X → Type 0) (xs ys : List X) → AnyIn P xs → AnyIn P (xs ++ ys)
any_front P [] ys i = absurd i
any_front P (x ∷ xs) ys (inl here) = inl here
any_front P (x ∷ xs) ys (inr more) = inr (any_front P xs ys more)

pub any_behind : {X : Type 0} (P : X → Type 0) (xs ys : List X) → AnyIn P ys → AnyIn P (xs ++ ys)
any_behind P [] ys i = i
any_behind P (x ∷ xs) ys i = inr (any_behind P xs ys i)

-- one that is among them
pub any_there : {X : Type 0} (P : X → Type 0) (x : X) (xs : List X) → In x xs → P x → AnyIn P xs
any_there P x [] i here = absurd i
any_there P x (y ∷ xs) (inl same) here = inl (subst P same here)
any_there P x (y ∷ xs) (inr more) here = inr (any_there P x xs more here)

-- where another stands in the place of one, and has what that had, or Q does
any_split : {X : Type 0} (P : X → Type 0) (Q : Type 0) (x y : X) (before behind : List X) → (P x → P y ⊎ Q) → AnyIn P (before ++ x ∷ behind) → AnyIn P (before ++ y ∷ behind) ⊎ Q
any_split P Q x y [] behind moves (inl here) = elim (moves here) [ inl there ↦ inl (inl there) | inr other ↦ inr other ]
any_split P Q x y [] behind moves (inr more) = inl (inr more)
any_split P Q x y (z ∷ before) behind moves (inl here) = inl (inl here)
any_split P Q x y (z ∷ before) behind moves (inr more) = elim (any_split P Q x y before behind moves more) [ inl there ↦ inl (inr there) | inr other ↦ inr other ]

-- ---- tables of packets

-- another value stands at the number of a packet, and has what the packet had, or Q does
pub any_put : (P : ℕ × TrackedPacket → Type 0) (Q : Type 0) (packets : Table TrackedPacket) (p : ℕ × TrackedPacket) (v : TrackedPacket) → Ascending 0 packets → In p packets → (P p → P (p.0, v) ⊎ Q) → AnyIn P packets → AnyIn P (put packets p.0 v) ⊎ Q
any_put P Q packets p v ascends among moves i =
    let s = put_splits 0 packets p v ascends among in
    subst (λ (ps : Table TrackedPacket). AnyIn P ps ⊎ Q) (sym s.put) (any_split P Q p (p.0, v) s.before s.behind moves (subst (λ (ps : Table TrackedPacket). AnyIn P ps) s.is i))

-- what stands in a packet whose number is new, or in tracked ones, stands in them with that one
pub any_added : (P : ℕ × TrackedPacket → Type 0) (es : Table TrackedPacket) (id : ℕ) (v : TrackedPacket) → ((n : ℕ) (t : TrackedPacket) → In (n, t) es → n ≡ id → ⊥) → P (id, v) ⊎ AnyIn P es → AnyIn P (added es id v)
any_added P [] id v fresh i = i
any_added P (e ∷ es) id v fresh i = go (nat_cmp id e.0) refl i (any_added P es id v (λ n t j. fresh n t (inr j)))
  where
    go : (r : Ordering) → nat_cmp id e.0 ≡ r → P (id, v) ⊎ (P e ⊎ AnyIn P es) → (P (id, v) ⊎ AnyIn P es → AnyIn P (added es id v)) → AnyIn P (match_ordering r ((id, v) ∷ e ∷ es) ((e.0, v) ∷ es) (e ∷ added es id v))
    go Less is j later = j
    go Equal is j later = absurd (fresh e.0 e.1 (inl refl) (sym (ranked id e.0 Equal (sym is))))
    go Greater is (inl new) later = inr (later (inl new))
    go Greater is (inr (inl here)) later = inl here
    go Greater is (inr (inr rest)) later = inr (later (inr rest))

-- a packet is taken out that hasn't it
any_without : (P : ℕ × TrackedPacket → Type 0) (es : Table TrackedPacket) (id : ℕ) → ((x : ℕ × TrackedPacket) → In x es → x.0 ≡ id → P x → ⊥) → AnyIn P es → AnyIn P (without es id)
any_without P [] id none i = i
any_without P (e ∷ es) id none i = go (is_at (nat_cmp id) e.0) refl i (any_without P es id (λ x j. none x (inr j)))
  where
    go : (b : Bool) → is_at (nat_cmp id) e.0 ≡ b → P e ⊎ AnyIn P es → (AnyIn P es → AnyIn P (without es id)) → AnyIn P (cond b es (e ∷ without es id))
    go true is (inl here) later = absurd (none e (inl refl) (sym (is_at_same id e.0 is)) here)
    go true is (inr more) later = more
    go false is (inl here) later = inl here
    go false is (inr more) later = inr (later more)

-- no packet of these has a number
abbrev pub IsNew : Table TrackedPacket → ℕ → Type 0
IsNew packets number = (n : ℕ) (t : TrackedPacket) → In (n, t) packets → n ≡ number → ⊥

-- the number of the next datagram is new
pub number_new : (sents : List Sent) (packets : Table TrackedPacket) (next : ℕ) → ((s : Sent) → In s sents → s.number < next) → AreTracked sents packets → IsNew packets next
number_new sents packets next below tracked n t i same =
    let sent = tracked n t i in
    let lower = below sent.0 sent.1.0 in
    let number = sent.1.1 in
    absurd (omega arith)

-- what is new is so where something waits for each probe
pub ready_new : (e : End) (now number : ℕ) → IsNew e.tracking.packets number → IsNew (ready_at e now).end.tracking.packets number
ready_new e now number new = by_ready (λ (x : End). IsNew x.tracking.packets number) e now new (λ ping immediate x i. i) (λ waits x i. i) (λ p among n t i. elim (in_put e.tracking.packets p.0 (without_record p.1) (n, t) i) [
  | inl old ↦ new n t old
  | inr same ↦ (λ is. new p.0 p.1 among (sym (ap (λ (x : ℕ × TrackedPacket). x.0) same) ∙ is))
]) (λ moment pacing discovery x i. i)

-- what stands in a packet that goes, or in tracked ones, stands in what is tracked then, where none
-- of the tail has it: one of the tail may be forgotten
pub any_sent : (P : ℕ × TrackedPacket → Type 0) (t : Tracking) (n : ℕ) (p : TrackedPacket) → IsNew t.packets n → ((q : ℕ × TrackedPacket) → In q t.packets → is_behind t.greatest_asking q.0 ≡ true → P q → ⊥) → P (n, p) ⊎ AnyIn P t.packets → AnyIn P (after_sent t n p).packets
any_sent P t n p new none i =
    let kept : Table TrackedPacket = without_packet (forgotten t p) t.packets in
    subst (λ (ps : Table TrackedPacket). AnyIn P ps) (sym (asking_packets p.asks n p.time_sent (record t { packets = added kept n p })))
    (any_added P kept n p (λ m q j. new m q (without_fewer (forgotten t p) t.packets (m, q) j)) (elim i [ inl here ↦ inl here | inr old ↦ inr (stays (forgotten t p) refl old) ]))
  where
    stays : (o : Option (ℕ × TrackedPacket)) → forgotten t p ≡ o → AnyIn P t.packets → AnyIn P (without_packet o t.packets)
    stays None is old = old
    stays (Some q) is old = any_without P t.packets q.0 (λ x j same here. none x j (ap (λ (m : ℕ). is_behind t.greatest_asking m) same ∙ forgotten_behind t p q is) here) old

-- ---- one after another

-- What each of a list carries is acknowledged or lost, and leaves L where it is good: then so does
-- what they carry together.
module _ (S U X : Type 0) (C : X → U → Type 0) (Good : X → Type 0) (L : (U → Type 0) → S → Type 0) (more : (F G : U → Type 0) (s : S) → ((u : U) → F u → G u) → L F s → L G s) (step : X → S → S)
    (one : (F : U → Type 0) (x : X) (s : S) → Good x → L (λ u. C x u ⊎ F u) s → L F (step x s)) (all : List X → S → S) (none : (s : S) → all [] s ≡ s) (first : (x : X) (xs : List X) (s : S) → all (x ∷ xs) s ≡ all xs (step x s)) where
  pub all_leave : (F : U → Type 0) (xs : List X) (s : S) → ((x : X) → In x xs → Good x) → L (λ u. AnyIn (λ x. C x u) xs ⊎ F u) s → L F (all xs s)
  all_leave F [] s good i = subst (L F) (sym (none s)) (more (λ u. ⊥ ⊎ F u) F s (λ u x. elim x [ inl gone ↦ absurd gone | inr f ↦ f ]) i)
  all_leave F (x ∷ xs) s good i = subst (L F) (sym (first x xs s)) (all_leave F xs (step x s) (λ y j. good y (inr j)) (one (λ u. AnyIn (λ y. C y u) xs ⊎ F u) x s (good x (inl refl)) (
      more (λ u. AnyIn (λ y. C y u) (x ∷ xs) ⊎ F u) (λ u. C x u ⊎ (AnyIn (λ y. C y u) xs ⊎ F u)) s (λ u o. elim o [ inl a ↦ elim a [ inl c ↦ inl c | inr rest ↦ inr (inl rest) ] | inr f ↦ inr (inr f) ]) i)))
