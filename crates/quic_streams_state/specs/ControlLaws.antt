-- What waits of each kind of control frame: what is left without its first, what of it is due, and
-- whether it counts. A new kind is a line in each law of the first three parts; those of the last
-- part are of all kinds at once.
use Rattle.std.proofs.Common.{◌≡◌, ℕ, List, [], ◌∷◌, ◌++◌, Bool, true, false, ◌&&◌, ◌||◌, ◌==◌, not, map, Option, Some, None, slice_get, ◌⊎◌, inl, inr, refl, sym, ap, ◌∙◌, subst}
use Rattle.std.specs.List.{list_any}
use Rattle.std.specs.Option.{is_some, option_map}
use Rattle.std.specs.Ordering.{nat_cmp, match_ordering, is_eq}
use Rattle.std.specs.declared.cmp.Ordering.{Ordering}
use Rattle.std.specs.declared.cmp.Ordering.TheVariants.{Less, Equal, Greater}
use Rattle.std.specs.Cmp.{unsigned_tied}
use Rattle.std.proofs.lemmas.Bool.{or_left, or_right, cases_Bool, or_cases, not-false, eqb-true, false_from_ne_true, both_ways}
use Rattle.std.proofs.lemmas.Map.Keys.{any_passes_from_place}
use Rattle.quic_wire_core.specs.declared.stream_id.Dir.TheVariants.{Bi, Uni}
use Rattle.quic_wire.specs.Value.{stream_data_blocked}
use Rattle.quic_streams_parts.specs.Table.{at}
use Rattle.quic_streams_parts.specs.Dirs.{of}
use Rattle.quic_streams_parts.specs.RecvHalf.{RecvHalf}
use Rattle.quic_retransmits.specs.declared.retransmits.ControlKind.{ControlKind}
use Rattle.quic_retransmits.specs.declared.retransmits.ControlKind.TheVariants.{HandshakeDone, ResetStream, StopSending, MaxData, MaxStreamData, MaxStreams, DataBlocked, StreamDataBlocked, NewConnectionId, RetireConnectionId}
use Rattle.quic_retransmits.specs.Retransmits.{Retransmits, merged, with_id, with_ids, first_of, others_of, is_any, control_kinds}
use Rattle.quic_streams_state.specs.declared.state.StreamsState.{StreamsState}
use Rattle.quic_streams_state.specs.Limits.{takes_limits_of, can_send_data_blocked}
use Rattle.quic_streams_state.specs.Control.{stream_data_blocked_limit, may_go_on, Entry, done_entry, reset_entry, stop_entry, data_entry, limit_frame, limit_entry, count_entry, blocked_entry, stream_blocked_entry, new_id_entry, retire_entry, flagged, waiting, without_first}
use Rattle.quic_streams_state.specs.Waiting.{any_goes, is_empty}

-- ---- what is left without the first

others_mapped : {A : Type 0} → (f : A → Entry) (xs : List A) → map f (others_of xs) ≡ others_of (map f xs)
others_mapped f [] = refl
others_mapped f (x ∷ xs) = refl

none_behind : (b : Bool) (e : Entry) → [] ≡ others_of (flagged b e)
none_behind true e = refl
none_behind false e = refl

-- without the first those behind it wait
pub others_wait : (kind : ControlKind) (p : Retransmits) → waiting kind (without_first kind p) ≡ others_of (waiting kind p)
others_wait HandshakeDone p = none_behind p.handshake_done done_entry
others_wait ResetStream p = others_mapped reset_entry p.reset_stream
others_wait StopSending p = others_mapped stop_entry p.stop_sending
others_wait MaxData p = none_behind p.max_data data_entry
others_wait MaxStreamData p = others_mapped limit_entry p.max_stream_data
others_wait (MaxStreams Bi) p = none_behind p.max_stream_id.bi (count_entry Bi)
others_wait (MaxStreams Uni) p = none_behind p.max_stream_id.uni (count_entry Uni)
others_wait DataBlocked p = none_behind p.data_blocked blocked_entry
others_wait StreamDataBlocked p = others_mapped stream_blocked_entry p.stream_data_blocked
others_wait NewConnectionId p = others_mapped new_id_entry p.new_cids
others_wait RetireConnectionId p = others_mapped retire_entry p.retire_cids

-- the place of a kind in the order in which they go
pub place : ControlKind → ℕ
place HandshakeDone = 0
place ResetStream = 1
place StopSending = 2
place MaxData = 3
place MaxStreamData = 4
place (MaxStreams Bi) = 5
place (MaxStreams Uni) = 6
place DataBlocked = 7
place StreamDataBlocked = 8
place NewConnectionId = 9
place RetireConnectionId = 10

-- there it stands
at_place : (kind : ControlKind) → slice_get control_kinds (place kind) ≡ Some kind
unfolding place
at_place HandshakeDone = refl
at_place ResetStream = refl
at_place StopSending = refl
at_place MaxData = refl
at_place MaxStreamData = refl
at_place (MaxStreams Bi) = refl
at_place (MaxStreams Uni) = refl
at_place DataBlocked = refl
at_place StreamDataBlocked = refl
at_place NewConnectionId = refl
at_place RetireConnectionId = refl

-- what waits of another kind stays where the first of one is gone
pub others_same : (kind other : ControlKind) (p : Retransmits) → (place kind == place other) ≡ false → waiting other (without_first kind p) ≡ waiting other p
unfolding place
others_same HandshakeDone HandshakeDone p apart = cc
others_same ResetStream ResetStream p apart = cc
others_same StopSending StopSending p apart = cc
others_same MaxData MaxData p apart = cc
others_same MaxStreamData MaxStreamData p apart = cc
others_same (MaxStreams Bi) (MaxStreams Bi) p apart = cc
others_same (MaxStreams Uni) (MaxStreams Uni) p apart = cc
others_same DataBlocked DataBlocked p apart = cc
others_same StreamDataBlocked StreamDataBlocked p apart = cc
others_same NewConnectionId NewConnectionId p apart = cc
others_same RetireConnectionId RetireConnectionId p apart = cc
others_same kind other p apart = refl

-- ---- what is due, and what counts

-- whether an entry is due
abbrev pub is_due : StreamsState → Entry → Bool
is_due s e = is_some (e.frame s)

-- whether one of a list is
abbrev pub any_due : StreamsState → List Entry → Bool
any_due s es = list_any (is_due s) es

-- an entry of a list is due where what it is made of counts
any_mapped : {A : Type 0} (s : StreamsState) (entry : A → Entry) (counts : A → Bool) → ((x : A) → is_due s (entry x) ≡ counts x) → (xs : List A) → any_due s (map entry xs) ≡ list_any counts xs
any_mapped s entry counts same [] = refl
any_mapped s entry counts same (x ∷ xs) = let first = same x in let rest = any_mapped s entry counts same xs in rw (first, rest) refl

-- what always is, as STOP_SENDING
any_listed : {A : Type 0} (s : StreamsState) (entry : A → Entry) → ((x : A) → is_due s (entry x) ≡ true) → (xs : List A) → any_due s (map entry xs) ≡ is_any xs
any_listed s entry all [] = refl
any_listed s entry all (x ∷ xs) = or_left (is_due s (entry x)) (any_due s (map entry xs)) (all x)

-- that of a flag where the flag is set, and it is due
any_flagged : (s : StreamsState) (e : Entry) (b counts : Bool) → is_due s e ≡ counts → any_due s (flagged b e) ≡ (b && counts)
any_flagged s e true counts is = ap (λ (x : Bool). x || false) is ∙ go counts
  where
    go : (x : Bool) → (x || false) ≡ (true && x)
    go true = refl
    go false = refl
any_flagged s e false counts is = refl

-- or the flag alone, where it always is
any_flag : (s : StreamsState) (e : Entry) (b : Bool) → is_due s e ≡ true → any_due s (flagged b e) ≡ b
any_flag s e true is = rw is refl
any_flag s e false is = refl

-- MAX_STREAM_DATA of a half that takes limits
limit_due : (s : StreamsState) (id : ℕ) → is_due s (limit_entry id) ≡ may_go_on s MaxStreamData id
limit_due s id = go (at s.receiving.halves.live id)
  where
    go : (o : Option RecvHalf) → is_some (limit_frame s.receiving.stream_window id o) ≡ takes_limits_of o
    go None = refl
    go (Some h) = elim (cases_Bool (takes_limits_of (Some h))) [ inl takes ↦ (rw takes refl) | inr none ↦ (rw none refl) ]

-- DATA_BLOCKED where the limit is used up
blocked_due : (s : StreamsState) → is_due s blocked_entry ≡ can_send_data_blocked s
blocked_due s = elim (cases_Bool (can_send_data_blocked s)) [ inl used ↦ (rw used refl) | inr left ↦ (rw left refl) ]

-- STREAM_DATA_BLOCKED that names a limit
stream_blocked_due : (s : StreamsState) (id : ℕ) → is_due s (stream_blocked_entry id) ≡ may_go_on s StreamDataBlocked id
stream_blocked_due s id = go (stream_data_blocked_limit s id)
  where
    go : (o : Option ℕ) → is_some (option_map (λ limit. stream_data_blocked (record { id = id; limit = limit })) o) ≡ is_some o
    go None = refl
    go (Some limit) = refl

-- of each kind but RESET_STREAM, whose half may be done, something is due where something counts
due_is : (kind : ControlKind) (p : Retransmits) (s : StreamsState) → (any_due s (waiting kind p) ≡ any_goes kind p s) ⊎ (kind ≡ ResetStream)
due_is HandshakeDone p s = inl (any_flag s done_entry p.handshake_done refl)
due_is ResetStream p s = inr refl
due_is StopSending p s = inl (any_listed s stop_entry (λ x. refl) p.stop_sending)
due_is MaxData p s = inl (any_flag s data_entry p.max_data refl)
due_is MaxStreamData p s = inl (any_mapped s limit_entry (may_go_on s MaxStreamData) (limit_due s) p.max_stream_data)
due_is (MaxStreams dir) p s = inl (any_flag s (count_entry dir) (of dir p.max_stream_id) refl)
due_is DataBlocked p s = inl (any_flagged s blocked_entry p.data_blocked (can_send_data_blocked s) (blocked_due s))
due_is StreamDataBlocked p s = inl (any_mapped s stream_blocked_entry (may_go_on s StreamDataBlocked) (stream_blocked_due s) p.stream_data_blocked)
due_is NewConnectionId p s = inl (any_listed s new_id_entry (λ x. refl) p.new_cids)
due_is RetireConnectionId p s = inl (any_listed s retire_entry (λ x. refl) p.retire_cids)

-- ---- what is joined

-- where two ids are compared as equal, they are
tied : (k x : ℕ) → nat_cmp k x ≡ Equal → k ≡ x
tied k x is = eqb-true k x (sym (unsigned_tied k x) ∙ ap is_eq is)

module _ (f : ℕ → Bool) where
  -- an id that passes a test, in a set that grows by it
  any_added : (id : ℕ) (ids : List ℕ) → f id ≡ true → list_any f (with_id id ids) ≡ true
  any_added id [] e = or_left (f id) false e
  any_added id (x ∷ xs) e = go (nat_cmp id x) refl (any_added id xs e)
    where
      go : (r : Ordering) → nat_cmp id x ≡ r → list_any f (with_id id xs) ≡ true → list_any f (match_ordering r (id ∷ x ∷ xs) (x ∷ xs) (x ∷ with_id id xs)) ≡ true
      go Less is ih = or_left (f id) (list_any f (x ∷ xs)) e
      go Equal is ih = or_left (f x) (list_any f xs) (subst (λ k. f k ≡ true) (tied id x is) e)
      go Greater is ih = or_right (f x) (list_any f (with_id id xs)) ih

  -- those before it
  any_kept : (id : ℕ) (ids : List ℕ) → list_any f ids ≡ true → list_any f (with_id id ids) ≡ true
  any_kept id [] e = or_right (f id) false e
  any_kept id (x ∷ xs) e = go (nat_cmp id x) (any_kept id xs)
    where
      go : (r : Ordering) → (list_any f xs ≡ true → list_any f (with_id id xs) ≡ true) → list_any f (match_ordering r (id ∷ x ∷ xs) (x ∷ xs) (x ∷ with_id id xs)) ≡ true
      go Less ih = or_right (f id) (list_any f (x ∷ xs)) e
      go Equal ih = e
      go Greater ih = elim (or_cases (f x) (list_any f xs) e) [
        | inl here ↦ or_left (f x) (list_any f (with_id id xs)) here
        | inr there ↦ or_right (f x) (list_any f (with_id id xs)) (ih there)
      ]

  -- and once those of another set join them
  any_stays : (ks ids : List ℕ) → list_any f ids ≡ true → list_any f (with_ids ks ids) ≡ true
  any_stays [] ids e = e
  any_stays (k ∷ ks) ids e = any_stays ks (with_id k ids) (any_kept k ids e)

  -- those of another set
  any_comes : (ks ids : List ℕ) → list_any f ks ≡ true → list_any f (with_ids ks ids) ≡ true
  any_comes [] ids e = absurd cc
  any_comes (k ∷ ks) ids e = elim (or_cases (f k) (list_any f ks) e) [
    | inl here ↦ any_stays ks (with_id k ids) (any_added k ids here)
    | inr there ↦ any_comes ks (with_id k ids) there
  ]

-- what stands behind a list is something
any_behind : {A : Type 0} (xs ys : List A) → is_any ys ≡ true → is_any (xs ++ ys) ≡ true
any_behind [] ys e = e
any_behind (x ∷ xs) ys e = refl

-- a flag that a gate lets count
gated_kept : (a b c : Bool) → (b && c) ≡ true → ((a || b) && c) ≡ true
gated_kept true true c e = e
gated_kept false true c e = e
gated_kept a false c e = absurd cc

-- of each kind something counts where something of what comes does
pub merged_counts : (kind : ControlKind) (p q : Retransmits) (s : StreamsState) → any_goes kind q s ≡ true → any_goes kind (merged p q) s ≡ true
merged_counts HandshakeDone p q s on = or_right p.handshake_done q.handshake_done on
merged_counts ResetStream p q s on = any_behind p.reset_stream q.reset_stream on
merged_counts StopSending p q s on = any_behind p.stop_sending q.stop_sending on
merged_counts MaxData p q s on = or_right p.max_data q.max_data on
merged_counts MaxStreamData p q s on = any_comes (may_go_on s MaxStreamData) q.max_stream_data p.max_stream_data on
merged_counts (MaxStreams Bi) p q s on = or_right p.max_stream_id.bi q.max_stream_id.bi on
merged_counts (MaxStreams Uni) p q s on = or_right p.max_stream_id.uni q.max_stream_id.uni on
merged_counts DataBlocked p q s on = gated_kept p.data_blocked q.data_blocked (can_send_data_blocked s) on
merged_counts StreamDataBlocked p q s on = any_comes (may_go_on s StreamDataBlocked) q.stream_data_blocked p.stream_data_blocked on
merged_counts NewConnectionId p q s on = any_behind p.new_cids q.new_cids on
merged_counts RetireConnectionId p q s on = any_behind p.retire_cids q.retire_cids on

-- ---- all kinds

-- a kind is none of these
abbrev pub is_apart : ControlKind → List ControlKind → Bool
is_apart kind [] = true
is_apart kind (other ∷ kinds) = not (place kind == place other) && is_apart kind kinds

-- each kind once
abbrev pub are_apart : List ControlKind → Bool
are_apart [] = true
are_apart (kind ∷ kinds) = is_apart kind kinds && are_apart kinds

-- so it is in the order in which they go
pub kinds_apart : are_apart control_kinds ≡ true
unfolding place
kinds_apart = refl

-- two kinds of one place are one
pub same_place : (kind other : ControlKind) → (place kind == place other) ≡ true → kind ≡ other
same_place kind other is =
    let one : slice_get control_kinds (place kind) ≡ slice_get control_kinds (place other) = ap (slice_get control_kinds) (eqb-true (place kind) (place other) is) in
    same_some kind other (sym (at_place kind) ∙ one ∙ at_place other)
  where
    same_some : (k j : ControlKind) → Some k ≡ Some j → k ≡ j
    same_some k j e = cc

-- of a list with one that is due, something is listed
some_listed : {A : Type 0} (s : StreamsState) (entry : A → Entry) (xs : List A) → any_due s (map entry xs) ≡ true → is_any xs ≡ true
some_listed s entry [] due = cc
some_listed s entry (x ∷ xs) due = refl

-- what is due counts
pub due_counts : (kind : ControlKind) (p : Retransmits) (s : StreamsState) → any_due s (waiting kind p) ≡ true → any_goes kind p s ≡ true
due_counts kind p s due = go (due_is kind p s)
  where
    go : (any_due s (waiting kind p) ≡ any_goes kind p s) ⊎ (kind ≡ ResetStream) → any_goes kind p s ≡ true
    go (inl same) = sym same ∙ due
    go (inr is) = subst (λ (k : ControlKind). any_goes k p s ≡ true) (sym is) (some_listed s reset_entry p.reset_stream (subst (λ (k : ControlKind). any_due s (waiting k p) ≡ true) is due))

-- what counts is due, where the first RESET_STREAM is
pub counts_due : (kind : ControlKind) (p : Retransmits) (s : StreamsState) → ((r : ℕ × ℕ) → first_of p.reset_stream ≡ Some r → is_due s (reset_entry r) ≡ true) → any_goes kind p s ≡ true → any_due s (waiting kind p) ≡ true
counts_due kind p s resets on = go (due_is kind p s)
  where
    first : (rs : List (ℕ × ℕ)) → ((r : ℕ × ℕ) → first_of rs ≡ Some r → is_due s (reset_entry r) ≡ true) → is_any rs ≡ true → any_due s (map reset_entry rs) ≡ true
    first [] due some = cc
    first (r ∷ rs) due some = or_left (is_due s (reset_entry r)) (any_due s (map reset_entry rs)) (due r refl)

    go : (any_due s (waiting kind p) ≡ any_goes kind p s) ⊎ (kind ≡ ResetStream) → any_due s (waiting kind p) ≡ true
    go (inl same) = same ∙ on
    go (inr is) = subst (λ (k : ControlKind). any_due s (waiting k p) ≡ true) (sym is) (first p.reset_stream resets (subst (λ (k : ControlKind). any_goes k p s ≡ true) is on))

-- a test that one kind passes is passed by one of all
pub listed : (test : ControlKind → Bool) (kind : ControlKind) → test kind ≡ true → list_any test control_kinds ≡ true
listed test kind passes = any_passes_from_place test control_kinds (place kind) kind (at_place kind) passes

-- something waits where something of a kind counts
pub fills : (kind : ControlKind) (p : Retransmits) (s : StreamsState) → any_goes kind p s ≡ true → is_empty p s ≡ false
fills kind p s on =
    ap not (or_left (list_any (λ k. any_goes k p s) control_kinds) p.ack_frequency (listed (λ k. any_goes k p s) kind on))

-- and then something of a kind counts, where nothing else waits
pub filled : (p : Retransmits) (s : StreamsState) → is_empty p s ≡ false → p.ack_frequency ≡ false → (kind : ControlKind) × (any_goes kind p s ≡ true)
filled p s some frequency = passing control_kinds (alone (list_any (λ k. any_goes k p s) control_kinds) p.ack_frequency frequency (not-false _ some))
  where
    alone : (a b : Bool) → b ≡ false → (a || b) ≡ true → a ≡ true
    alone true b none on = refl
    alone false b none on = absurd cc

    passing : (kinds : List ControlKind) → list_any (λ k. any_goes k p s) kinds ≡ true → (kind : ControlKind) × (any_goes kind p s ≡ true)
    passing [] on = absurd cc
    passing (k ∷ kinds) on = elim (or_cases (any_goes k p s) (list_any (λ j. any_goes j p s) kinds) on) [
      | inl here ↦ (k, here)
      | inr more ↦ passing kinds more
    ]

-- where nothing waits that would be written, nothing is due
pub none_due : (p : Retransmits) (s : StreamsState) → is_empty p s ≡ true → (kind : ControlKind) → any_due s (waiting kind p) ≡ false
none_due p s empty kind = false_from_ne_true (any_due s (waiting kind p)) (λ due. both_ways (is_empty p s) (fills kind p s (due_counts kind p s due)) empty)

-- something waits where something of what comes does
pub merged_fills : (p q : Retransmits) (s : StreamsState) → is_empty q s ≡ false → is_empty (merged p q) s ≡ false
merged_fills p q s some =
    let before : Bool = list_any (λ k. any_goes k q s) control_kinds in
    let after : Bool = list_any (λ k. any_goes k (merged p q) s) control_kinds in
    ap not (either before q.ack_frequency after (merged p q).ack_frequency (each control_kinds) (or_right p.ack_frequency q.ack_frequency) (not-false _ some))
  where
    either : (a b c d : Bool) → (a ≡ true → c ≡ true) → (b ≡ true → d ≡ true) → (a || b) ≡ true → (c || d) ≡ true
    either true b c d f g e = or_left c d (f refl)
    either false b c d f g e = or_right c d (g e)

    each : (kinds : List ControlKind) → list_any (λ k. any_goes k q s) kinds ≡ true → list_any (λ k. any_goes k (merged p q) s) kinds ≡ true
    each [] on = absurd cc
    each (k ∷ kinds) on = either (any_goes k q s) (list_any (λ j. any_goes j q s) kinds) (any_goes k (merged p q) s) (list_any (λ j. any_goes j (merged p q) s) kinds) (merged_counts k p q s) (each kinds) on
