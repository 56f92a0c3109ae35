-- The halves that are in use keep their order and their places.
use Rattle.std.proofs.Common.{◌≡◌, ℕ, ◌+◌, ◌*◌, ◌≤◌, Bool, true, false, List, Option, Some, None, refl, sym, ap, ◌∙◌, subst, arith, ◌⊎◌, inl, inr}
use Rattle.std.specs.Prelude.{nat_lt, ◌==◌, ◌&&◌, if◌then◌else◌}
use Rattle.std.proofs.lemmas.Bool.{cond_both, ltb-true, ltb-false, lt-ltb, and_parts, and_from, cases_eq, not-true, both_ways}
use Rattle.quic_wire_core.specs.declared.stream_id.Side.{Side}
use Rattle.quic_wire_core.specs.declared.stream_id.Side.TheVariants.{Client, Server}
use Rattle.quic_wire_core.specs.declared.stream_id.Dir.{Dir}
use Rattle.quic_wire_core.specs.declared.stream_id.Dir.TheVariants.{Bi, Uni}
use Rattle.quic_wire_core.specs.StreamId.{side_bit, dir_bit, initiator_of, dir_of, index_of}
use Rattle.quic_wire_core.specs.StreamIdLaw.{stream_id_of_parts}
use Rattle.quic_sets.specs.Runs.{Run, AreRuns}
use Rattle.quic_sets.specs.Offsets.{has, with_offsets}
use Rattle.quic_sets.proofs.Offsets.Edits.{has_from, has_is, with_runs, with_is}
use Rattle.quic_streams_halves.specs.declared.places.Places.{Places}
use Rattle.quic_streams_parts.specs.Table.{at, put, without}
use Rattle.quic_streams_parts.specs.TableLaws.{at-put-apart, at-apart, at-without, at-without-apart, sorted-put, sorted-added, sorted-without}
use Rattle.quic_streams_parts.specs.Dirs.{of, more, is_own, Counts}
use Rattle.quic_streams_halves.specs.Halves.{Halves, half_of, status_from, has_place, with_place, with_index, with_half, placed, used, without_half}
use Rattle.quic_streams_parts.specs.SendHalf.{SendHalf, new_send_half, requeued_at, turned_at}
use Rattle.quic_streams_parts.specs.RecvHalf.{RecvHalf, new_recv_half}
use Rattle.quic_streams_state.specs.declared.state.StreamsState.{StreamsState}
use Rattle.quic_streams_state.specs.State.{Opening, is_opened, is_opened_in, sends_on, receives_on, first_limit, first_window, sending_half, receiving_half, with_send, with_recv, done_if, without_send, seen_at}
use Rattle.quic_streams_state.specs.Opening.{opens, with_remote}
use Rattle.quic_streams_state.specs.Telling.{unblocked_at}
use Rattle.quic_streams_state.specs.Writing.{put_queued}
use Rattle.quic_streams_parts.specs.SendHalf.{Queued}
use Rattle.quic_streams_laws.specs.Keeping.{Keeps, KeepsBy, unblocked}
use Rattle.quic_streams_laws.specs.Keeping as changes
use Rattle.quic_streams_laws.specs.KeepingLaws.{keeps_fewer, live_receives}
use Rattle.quic_streams_laws.specs.Shape.{ArePlaces, AreHalves, IsShaped}

-- ---- places

-- a set with one index more
with_one : (i : ℕ) (rs : List Run) (q : ℕ) → AreRuns rs → has (with_offsets i (i + 1) rs) q ≡ true → (has rs q ≡ true) ⊎ (q ≡ i)
with_one i rs q runs is = elim ((with_is i (i + 1) rs runs q).0 (has_is (with_offsets i (i + 1) rs) q is)) [
  | inl there ↦ inl (has_from rs q there)
  | inr here ↦ inr (let a = here.0 in let b = here.1 in omega arith)
]

one_more : (i : ℕ) (rs : List Run) (q : ℕ) → AreRuns rs → (has rs q ≡ true) ⊎ (q ≡ i) → has (with_offsets i (i + 1) rs) q ≡ true
one_more i rs q runs (inl is) = has_from (with_offsets i (i + 1) rs) q ((with_is i (i + 1) rs runs q).1 (inl (has_is rs q is)))
one_more i rs q runs (inr e) = has_from (with_offsets i (i + 1) rs) q ((with_is i (i + 1) rs runs q).1 (inr (omega arith, omega arith)))

-- the set of an opener and a direction
abbrev set_of : Bool → Dir → Places → List Run
set_of own dir p = of dir (if own then p.own else p.remote)

-- with one index more
abbrev added_to : Bool → Dir → ℕ → Places → Places
added_to own dir i p = if own then record p { own = with_index dir i p.own } else record p { remote = with_index dir i p.remote }

set_runs : (own : Bool) (dir : Dir) (p : Places) → ArePlaces p → AreRuns (set_of own dir p)
set_runs true Bi p r = r.own_bi
set_runs true Uni p r = r.own_uni
set_runs false Bi p r = r.remote_bi
set_runs false Uni p r = r.remote_uni

runs_added : (own : Bool) (dir : Dir) (i : ℕ) (p : Places) → ArePlaces p → ArePlaces (added_to own dir i p)
runs_added true Bi i p r = record { own_bi = with_runs i (i + 1) p.own.bi r.own_bi; own_uni = r.own_uni; remote_bi = r.remote_bi; remote_uni = r.remote_uni }
runs_added true Uni i p r = record { own_bi = r.own_bi; own_uni = with_runs i (i + 1) p.own.uni r.own_uni; remote_bi = r.remote_bi; remote_uni = r.remote_uni }
runs_added false Bi i p r = record { own_bi = r.own_bi; own_uni = r.own_uni; remote_bi = with_runs i (i + 1) p.remote.bi r.remote_bi; remote_uni = r.remote_uni }
runs_added false Uni i p r = record { own_bi = r.own_bi; own_uni = r.own_uni; remote_bi = r.remote_bi; remote_uni = with_runs i (i + 1) p.remote.uni r.remote_uni }

-- a set of another opener or direction stays as it was
pub data SetsAre (o : Bool) (d : Dir) (own : Bool) (dir : Dir) (i : ℕ) (p : Places) : Type 0 where
  same_set : o ≡ own → d ≡ dir → set_of o d (added_to own dir i p) ≡ with_offsets i (i + 1) (set_of o d p) → SetsAre o d own dir i p
  other_set : set_of o d (added_to own dir i p) ≡ set_of o d p → SetsAre o d own dir i p

sets_are : (o : Bool) (d : Dir) (own : Bool) (dir : Dir) (i : ℕ) (p : Places) → SetsAre o d own dir i p
sets_are true Bi true Bi i p = same_set refl refl refl
sets_are true Bi true Uni i p = other_set refl
sets_are true Uni true Bi i p = other_set refl
sets_are true Uni true Uni i p = same_set refl refl refl
sets_are false Bi false Bi i p = same_set refl refl refl
sets_are false Bi false Uni i p = other_set refl
sets_are false Uni false Bi i p = other_set refl
sets_are false Uni false Uni i p = same_set refl refl refl
sets_are true Bi false Bi i p = other_set refl
sets_are true Bi false Uni i p = other_set refl
sets_are true Uni false Bi i p = other_set refl
sets_are true Uni false Uni i p = other_set refl
sets_are false Bi true Bi i p = other_set refl
sets_are false Bi true Uni i p = other_set refl
sets_are false Uni true Bi i p = other_set refl
sets_are false Uni true Uni i p = other_set refl

new_set : (own : Bool) (dir : Dir) (i : ℕ) (p : Places) → set_of own dir (added_to own dir i p) ≡ with_offsets i (i + 1) (set_of own dir p)
new_set true Bi i p = refl
new_set true Uni i p = refl
new_set false Bi i p = refl
new_set false Uni i p = refl

-- two ids of one opener, direction and place are one
same_opener : (a b s : Side) → (side_bit a == side_bit s) ≡ (side_bit b == side_bit s) → side_bit a ≡ side_bit b
same_opener Client Client s e = refl
same_opener Server Server s e = refl
same_opener Client Server Client e = absurd (both_ways true e refl)
same_opener Client Server Server e = absurd (both_ways true (sym e) refl)
same_opener Server Client Client e = absurd (both_ways true (sym e) refl)
same_opener Server Client Server e = absurd (both_ways true e refl)

same_id : (side : Side) (q id : ℕ) → is_own side q ≡ is_own side id → dir_of q ≡ dir_of id → index_of q ≡ index_of id → q ≡ id
same_id side q id o d i =
    let a : side_bit (initiator_of q) ≡ side_bit (initiator_of id) = same_opener (initiator_of q) (initiator_of id) side o in
    let b : dir_bit (dir_of q) ≡ dir_bit (dir_of id) = ap dir_bit d in
    let x : 4 * index_of q + 2 * dir_bit (dir_of q) + side_bit (initiator_of q) ≡ q = stream_id_of_parts q in
    let y : 4 * index_of id + 2 * dir_bit (dir_of id) + side_bit (initiator_of id) ≡ id = stream_id_of_parts id in
    sym x ∙ (let z : 4 * index_of q + 2 * dir_bit (dir_of q) + side_bit (initiator_of q) ≡ 4 * index_of id + 2 * dir_bit (dir_of id) + side_bit (initiator_of id) = cc in z) ∙ y

-- the places are those that were, and one
pub place_one : (side : Side) (id q : ℕ) (p : Places) → ArePlaces p → has_place side (with_place side id p) q ≡ true → (has_place side p q ≡ true) ⊎ (q ≡ id)
place_one side id q p runs is = go (sets_are (is_own side q) (dir_of q) (is_own side id) (dir_of id) (index_of id) p)
  where
    go : SetsAre (is_own side q) (dir_of q) (is_own side id) (dir_of id) (index_of id) p → (has_place side p q ≡ true) ⊎ (q ≡ id)
    go (other_set e) = inl (ap (λ rs. has rs (index_of q)) (sym e) ∙ is)
    go (same_set o d e) = elim (with_one (index_of id) (set_of (is_own side q) (dir_of q) p) (index_of q) (set_runs (is_own side q) (dir_of q) p runs) (ap (λ rs. has rs (index_of q)) (sym e) ∙ is)) [
      | inl there ↦ inl there
      | inr i ↦ inr (same_id side q id o d i)
    ]

pub place_kept : (side : Side) (id q : ℕ) (p : Places) → ArePlaces p → has_place side p q ≡ true → has_place side (with_place side id p) q ≡ true
place_kept side id q p runs is = go (sets_are (is_own side q) (dir_of q) (is_own side id) (dir_of id) (index_of id) p)
  where
    go : SetsAre (is_own side q) (dir_of q) (is_own side id) (dir_of id) (index_of id) p → has_place side (with_place side id p) q ≡ true
    go (other_set e) = ap (λ rs. has rs (index_of q)) e ∙ is
    go (same_set o d e) = ap (λ rs. has rs (index_of q)) e ∙ one_more (index_of id) (set_of (is_own side q) (dir_of q) p) (index_of q) (set_runs (is_own side q) (dir_of q) p runs) (inl is)

place_new : (side : Side) (id : ℕ) (p : Places) → ArePlaces p → has_place side (with_place side id p) id ≡ true
place_new side id p runs = ap (λ rs. has rs (index_of id)) (new_set (is_own side id) (dir_of id) (index_of id) p) ∙ one_more (index_of id) (set_of (is_own side id) (dir_of id) p) (index_of id) (set_runs (is_own side id) (dir_of id) p runs) (inr refl)

-- ---- halves

module _ {A : Type 0} (side : Side) (may : ℕ → Bool) where
  -- one of them has another value
  pub halves_put : (h : Halves A) (id : ℕ) (old a : A) → at h.live id ≡ Some old → AreHalves side may h → AreHalves side may (record h { live = put h.live id a })
  halves_put h id old a is i = record {
    sorted = sorted-put h.live id a i.sorted;
    runs = i.runs;
    placed = λ q b e. elim (cases_eq q id) [
      | inl same ↦ subst (λ x. has_place side h.places x ≡ true) (sym same) (i.placed id old is)
      | inr ne ↦ i.placed q b (sym (at-put-apart h.live id a q ne) ∙ e)
    ];
    allowed = i.allowed;
  }

  -- one comes into use
  pub halves_used : (h : Halves A) (id : ℕ) (a : A) → may id ≡ true → AreHalves side may h → AreHalves side may (used side h id a)
  halves_used h id a can i = record {
    sorted = sorted-added h.live id a i.sorted;
    runs = runs_added (is_own side id) (dir_of id) (index_of id) h.places i.runs;
    placed = λ q b e. elim (cases_eq q id) [
      | inl same ↦ subst (λ x. has_place side (with_place side id h.places) x ≡ true) (sym same) (place_new side id h.places i.runs)
      | inr ne ↦ place_kept side id q h.places i.runs (i.placed q b (sym (at-apart h.live id a q ne) ∙ e))
    ];
    allowed = λ q e. elim (place_one side id q h.places i.runs e) [
      | inl there ↦ i.allowed q there
      | inr same ↦ subst (λ x. may x ≡ true) (sym same) can
    ];
  }

  -- either
  pub halves_with : (h : Halves A) (id : ℕ) (a : A) → may id ≡ true → AreHalves side may h → AreHalves side may (with_half side h id a)
  halves_with h id a can i = go (at h.live id) refl
    where
      go : (o : Option A) → at h.live id ≡ o → AreHalves side may (placed o side h id a)
      go None is = halves_used h id a can i
      go (Some old) is = halves_put h id old a is i

  -- one is done
  pub halves_without : (h : Halves A) (id : ℕ) → AreHalves side may h → AreHalves side may (without_half h id)
  halves_without h id i = record {
    sorted = sorted-without h.live id i.sorted;
    runs = i.runs;
    placed = λ q b e. elim (cases_eq q id) [
      | inl same ↦ absurd (nothing b (sym (at-without h.live id i.sorted) ∙ ap (λ x. at (without h.live id) x) (sym same) ∙ e))
      | inr ne ↦ i.placed q b (sym (at-without-apart h.live id q ne) ∙ e)
    ];
    allowed = i.allowed;
  }
    where
      nothing : (b : A) → None ≡ Some b → ⊥
      nothing b e = cc

  -- more may be
  pub halves_wider : (more : ℕ → Bool) (h : Halves A) → ((id : ℕ) → may id ≡ true → more id ≡ true) → AreHalves side may h → AreHalves side more h
  halves_wider more h wider i = record { sorted = i.sorted; runs = i.runs; placed = i.placed; allowed = λ q e. wider q (i.allowed q e) }

-- ---- all streams

-- a half is one of a stream on which there may be one
half_may : {A : Type 0} (side : Side) (may : Bool) (new : A) (h : Halves A) (id : ℕ) (a : A) → (has_place side h.places id ≡ true → may ≡ true) → ((b : A) → at h.live id ≡ Some b → has_place side h.places id ≡ true)
    → half_of new (status_from (at h.live id) may (has_place side h.places id)) ≡ Some a → may ≡ true
half_may {A} side may new h id a allowed placed e = go (at h.live id) may (has_place side h.places id) refl refl e
  where
    go : (o : Option A) (m u : Bool) → at h.live id ≡ o → may ≡ m → half_of new (status_from o m u) ≡ Some a → may ≡ true
    go (Some b) m u is f e = allowed (placed b is)
    go None true u is f e = f
    go None false u is f e = cc

pub sends_may : (s : StreamsState) (id : ℕ) (h : SendHalf) → IsShaped s → sending_half s id ≡ Some h → (sends_on s.side id && is_opened s id) ≡ true
sends_may s id h i e = half_may s.side (sends_on s.side id && is_opened s id) (new_send_half (first_limit s id)) s.sending.halves id h (i.sending.allowed id) (i.sending.placed id) e

pub receives_may : (s : StreamsState) (id : ℕ) (h : RecvHalf) → IsShaped s → receiving_half s id ≡ Some h → (receives_on s.side id && is_opened s id) ≡ true
receives_may s id h i e = half_may s.side (receives_on s.side id && is_opened s id) (new_recv_half (first_window s.receiving)) s.receiving.halves id h (i.receiving.allowed id) (i.receiving.placed id) e

-- a sending half has another value, and so has the queue
pub sends_with : (s : StreamsState) (id : ℕ) (old : SendHalf) (q : Queued) → sending_half s id ≡ Some old → IsShaped s → IsShaped (put_queued s id q)
sends_with s id old q is i = record {
  sending = halves_with s.side (λ id. sends_on s.side id && is_opened s id) s.sending.halves id q.half (sends_may s id old i is) i.sending;
  receiving = i.receiving;
}

pub send_with : (s : StreamsState) (id : ℕ) (old new : SendHalf) → sending_half s id ≡ Some old → IsShaped s → IsShaped (with_send s id new)
send_with s id old new is i = record {
  sending = halves_with s.side (λ id. sends_on s.side id && is_opened s id) s.sending.halves id new (sends_may s id old i is) i.sending;
  receiving = i.receiving;
}

pub receive_with : (s : StreamsState) (id : ℕ) (old new : RecvHalf) → receiving_half s id ≡ Some old → IsShaped s → IsShaped (with_recv s id new)
receive_with s id old new is i = record {
  sending = i.sending;
  receiving = halves_with s.side (λ id. receives_on s.side id && is_opened s id) s.receiving.halves id new (receives_may s id old i is) i.receiving;
}

-- more streams are opened
pub record OpensMore (o more : Opening) : Type 0 where
  pub own : (dir : Dir) → of dir o.own ≤ of dir more.own
  pub remote : (dir : Dir) → of dir o.remote ≤ of dir more.remote

pub opened_more : (o more : Opening) (side : Side) (id : ℕ) → OpensMore o more → is_opened_in o side id ≡ true → is_opened_in more side id ≡ true
opened_more o more side id m = go (is_own side id)
  where
    go : (b : Bool) → nat_lt (index_of id) (of (dir_of id) (if b then o.own else o.remote)) ≡ true → nat_lt (index_of id) (of (dir_of id) (if b then more.own else more.remote)) ≡ true
    go true e = let a = ltb-true (index_of id) (of (dir_of id) o.own) e in let l = m.own (dir_of id) in lt-ltb (index_of id) (of (dir_of id) more.own) (omega arith)
    go false e = let a = ltb-true (index_of id) (of (dir_of id) o.remote) e in let l = m.remote (dir_of id) in lt-ltb (index_of id) (of (dir_of id) more.remote) (omega arith)

pub shape_wider : (s : StreamsState) (o : Opening) → OpensMore s.opening o → IsShaped s → IsShaped (record s { opening = o })
shape_wider s o m i = record {
  sending = halves_wider s.side (λ id. sends_on s.side id && is_opened s id) (λ id. sends_on s.side id && is_opened_in o s.side id) s.sending.halves (λ id e. let p = and_parts _ _ e in and_from _ _ p.0 (opened_more s.opening o s.side id m p.1)) i.sending;
  receiving = halves_wider s.side (λ id. receives_on s.side id && is_opened s id) (λ id. receives_on s.side id && is_opened_in o s.side id) s.receiving.halves (λ id e. let p = and_parts _ _ e in and_from _ _ p.0 (opened_more s.opening o s.side id m p.1)) i.receiving;
}

pub more_own : (dir d : Dir) (c : Counts) → of d c ≤ of d (more dir c)
more_own Bi Bi c = omega arith
more_own Bi Uni c = omega arith
more_own Uni Bi c = omega arith
more_own Uni Uni c = omega arith

pub more_remote : (dir : Dir) (n : ℕ) (o : Opening) → of dir o.remote ≤ n → OpensMore o (with_remote dir n o)
more_remote Bi n o le = record { own = λ d. omega arith; remote = go }
  where
    go : (d : Dir) → of d o.remote ≤ of d (with_remote Bi n o).remote
    go Bi = le
    go Uni = omega arith
more_remote Uni n o le = record { own = λ d. omega arith; remote = go }
  where
    go : (d : Dir) → of d o.remote ≤ of d (with_remote Uni n o).remote
    go Bi = omega arith
    go Uni = le

-- a stream that a frame opens isn't this end's, and lies past those that are opened
pub past_remote : (s : StreamsState) (id : ℕ) → opens s id ≡ true → (is_own s.side id ≡ false) × (of (dir_of id) s.opening.remote ≤ index_of id)
past_remote s id e =
    let p = and_parts _ _ e in
    let theirs : is_own s.side id ≡ false = not-true _ p.0 in
    let shut : nat_lt (index_of id) (of (dir_of id) (if is_own s.side id then s.opening.own else s.opening.remote)) ≡ false = not-true _ p.1 in
    (theirs, ltb-false _ _ (subst (λ b. nat_lt (index_of id) (of (dir_of id) (if b then s.opening.own else s.opening.remote)) ≡ false) theirs shut))

-- a half is done
pub shape_done : (b : Bool) (id : ℕ) (s : StreamsState) → IsShaped s → IsShaped (done_if b id s)
shape_done true id s i = record { sending = i.sending; receiving = i.receiving }
shape_done false id s i = i

shape_passes : (s : StreamsState) (id : ℕ) (ids : List ℕ) → IsShaped s → IsShaped (unblocked s id ids)
shape_passes s id ids i = record { sending = go (at s.sending.halves.live id) refl; receiving = i.receiving }
  where
    go : (o : Option SendHalf) → at s.sending.halves.live id ≡ o → AreHalves s.side (λ id. sends_on s.side id && is_opened s id) (record s.sending.halves { live = unblocked_at o s.sending.halves.live id })
    go None is = i.sending
    go (Some h) is = halves_put s.side (λ id. sends_on s.side id && is_opened s id) s.sending.halves id h (record h { blocked = false }) is i.sending

-- a sending half is no longer in use
pub shape_without : (s : StreamsState) (id : ℕ) → IsShaped s → IsShaped (without_send s id)
shape_without s id i = record { sending = halves_without s.side (λ id. sends_on s.side id && is_opened s id) s.sending.halves id i.sending; receiving = i.receiving }

-- nor a receiving half
pub shape_received : (s : StreamsState) (id : ℕ) → IsShaped s → IsShaped (record s { receiving = record s.receiving { halves = without_half s.receiving.halves id; gone = s.receiving.gone + seen_at (at s.receiving.halves.live id) } })
shape_received s id i = record { sending = i.sending; receiving = halves_without s.side (λ id. receives_on s.side id && is_opened s id) s.receiving.halves id i.receiving }

-- however halves change
pub shape_any : KeepsBy (λ r id old new. Unit {0}) (λ s id old new. Unit {0}) (λ s id n old new. Unit {0}) IsShaped
shape_any (changes.opens_own dir) s may i = shape_wider s _ (record { own = λ d. more_own dir d s.opening.own; remote = λ d. omega arith }) i
shape_any (changes.opens_theirs id) s (e, within) i = let past = past_remote s id e in let w = shape_wider s (with_remote (dir_of id) (index_of id + 1) s.opening) (more_remote (dir_of id) (index_of id + 1) s.opening (omega (arith, past.1))) i in record { sending = w.sending; receiving = w.receiving }
shape_any (changes.changes_sending id old new) s (is, on, same) i = send_with s id old new is i
shape_any (changes.queues id old new b) s (is, on, same) i = sends_with s id old (requeued_at old.place b s.sending.queue id new) is i
shape_any (changes.turns id old new) s (is, on, same) i = sends_with s id old (turned_at old.place s.sending.queue id new) is i
shape_any (changes.writes id n old new) s (is, on, same) i = let w = sends_with s id old (requeued_at old.place true s.sending.queue id new) is i in record { sending = w.sending; receiving = w.receiving }
shape_any (changes.joins id h) s is i = cond_both h.blocked s _ IsShaped (λ e. i) (λ e. let w = send_with s id h (record h { blocked = true }) is i in record { sending = w.sending; receiving = w.receiving })
shape_any (changes.passes id ids) s may i = shape_passes s id ids i
shape_any (changes.ends_sending id h) s may i = shape_done _ id _ (shape_without s id i)
shape_any (changes.changes_receiving r id old new) s (is, on, same) i = receive_with s id old new is i
shape_any (changes.ends_receiving id h) s may i = shape_done _ id _ (shape_received s id i)
shape_any (changes.tells_on id h) s is i = receive_with s id h _ (live_receives s id h is) i
shape_any (changes.notes_on id h said) s is i = send_with s id h (record h { said = said }) is i
shape_any c s may i = record { sending = i.sending; receiving = i.receiving }

pub shape_kept : Keeps IsShaped
shape_kept = keeps_fewer (λ r id old new on. tt) (λ s id old new on. tt) (λ s id n old new on. tt) shape_any
