-- Which control frames wait behind a small step that didn't before it.
use Rattle.std.proofs.Common.{◌≡◌, ℕ, Bool, true, false, List, [], ◌∷◌, ◌++◌, refl, sym, ◌∙◌, subst, ◌⊎◌, inl, inr}
use Rattle.std.specs.Prelude.{◌==◌}
use Rattle.std.specs.List.{list_any}
use Rattle.std.specs.Ordering.{nat_cmp, match_ordering}
use Rattle.std.specs.BTreeMap.{is_at}
use Rattle.std.specs.declared.cmp.Ordering.{Ordering}
use Rattle.std.specs.declared.cmp.Ordering.TheVariants.{Less, Equal, Greater}
use Rattle.std.proofs.lemmas.Bool.{or_left, or_right, or_cases, eq-eqb}
use Rattle.std.proofs.lemmas.List.Folds.{list_any-append}
use Rattle.quic_wire_core.specs.declared.stream_id.Dir.{Dir}
use Rattle.quic_wire_core.specs.declared.stream_id.Dir.TheVariants.{Bi, Uni}
use Rattle.quic_wire_core.specs.declared.shared.IssuedCid.{IssuedCid}
use Rattle.quic_wire.specs.Value.{FrameValue, StopSendingValue, reset_stream, stop_sending, max_stream_data, stream_data_blocked, new_connection_id, retire_connection_id}
use Rattle.quic_streams_parts.specs.TableLaws.{nat_cmp-same}
use Rattle.quic_streams_parts.specs.Dirs.{of}
use Rattle.quic_retransmits.specs.Retransmits.{Retransmits, nothing_waits, merged, with_id, with_ids, has_id, others_of}
use Rattle.quic_retransmits.specs.declared.retransmits.ControlKind.{ControlKind}
use Rattle.quic_retransmits.specs.declared.retransmits.ControlKind.TheVariants.{HandshakeDone, ResetStream, StopSending, MaxData, MaxStreamData, MaxStreams, DataBlocked, StreamDataBlocked, NewConnectionId, RetireConnectionId}
use Rattle.quic_streams_state.specs.Control.{without_first}
use Rattle.quic_streams_laws.specs.ToldLaws.{first_is}
use Rattle.quic_headline.specs.InFlight.{resets_in, stops_in, limits_in, blocked_in, new_ids_in, retirements_in, again_in}
use Rattle.quic_headline.specs.Duties.{AllData, StreamData, StreamCount, has_reset, has_stop, has_retirement, has_new_id}
use Rattle.quic_headline.specs.Begins.{Control, ResetOf, StopOf, LimitOf, Blocked, BlockedOn, NewId, Retirement, control_waits, says, Request, Done}
use Rattle.quic_headline.proofs.Packets.Entries.{without_asks}

-- ---- sets of ids

-- what stands in a set with an id stood there before, or is the id
pub has_either : (id q : ℕ) (ids : List ℕ) → has_id q (with_id id ids) ≡ true → (has_id q ids ≡ true) ⊎ (q ≡ id)
has_either id q [] is = elim (or_cases (is_at (nat_cmp q) id) false is) [ inl here ↦ inr (first_is q id here) | inr none ↦ inl none ]
has_either id q (x ∷ xs) is = go (nat_cmp id x) is (has_either id q xs)
  where
    go : (r : Ordering) → has_id q (match_ordering r (id ∷ x ∷ xs) (x ∷ xs) (x ∷ with_id id xs)) ≡ true → (has_id q (with_id id xs) ≡ true → (has_id q xs ≡ true) ⊎ (q ≡ id)) → (has_id q (x ∷ xs) ≡ true) ⊎ (q ≡ id)
    go Less is later = elim (or_cases (is_at (nat_cmp q) id) (has_id q (x ∷ xs)) is) [ inl here ↦ inr (first_is q id here) | inr there ↦ inl there ]
    go Equal is later = inl is
    go Greater is later = elim (or_cases (is_at (nat_cmp q) x) (has_id q (with_id id xs)) is) [
      | inl here ↦ inl (or_left (is_at (nat_cmp q) x) (has_id q xs) here)
      | inr more ↦ elim (later more) [ inl there ↦ inl (or_right (is_at (nat_cmp q) x) (has_id q xs) there) | inr same ↦ inr same ]
    ]

-- in a set with those of another it stood in one of both
has_one : (ks ids : List ℕ) (q : ℕ) → has_id q (with_ids ks ids) ≡ true → (has_id q ids ≡ true) ⊎ (has_id q ks ≡ true)
has_one [] ids q is = inl is
has_one (k ∷ ks) ids q is = elim (has_one ks (with_id k ids) q is) [
  | inl here ↦ elim (has_either k q ids here) [
    | inl there ↦ inl there
    | inr same ↦ inr (or_left (is_at (nat_cmp q) k) (has_id q ks) (subst (λ (n : ℕ). is_at (nat_cmp q) n ≡ true) same (at_itself q)))
  ]
  | inr more ↦ inr (or_right (is_at (nat_cmp q) k) (has_id q ks) more)
]
  where
    at_itself : (n : ℕ) → is_at (nat_cmp n) n ≡ true
    at_itself n = rw (nat_cmp-same n) refl

-- and in one that is joined with none
has_in : (ks : List ℕ) (q : ℕ) → has_id q (with_ids ks []) ≡ true → has_id q ks ≡ true
has_in ks q is = elim (has_one ks [] q is) [ inl none ↦ absurd (let clash : false ≡ true = none in cc) | inr there ↦ there ]

-- ---- lists

-- what is found behind the first of a list is found in it
any_behind : {A : Type 0} (test : A → Bool) (xs : List A) → list_any test (others_of xs) ≡ true → list_any test xs ≡ true
any_behind test [] is = is
any_behind test (x ∷ xs) is = or_right (test x) (list_any test xs) is

-- one more behind a list
pub any_more : {A : Type 0} (test : A → Bool) (xs ys : List A) → list_any test (xs ++ ys) ≡ true → (list_any test xs ≡ true) ⊎ (list_any test ys ≡ true)
any_more test xs ys is = or_cases (list_any test xs) (list_any test ys) (sym (list_any-append test xs ys) ∙ is)

-- ---- what waits

-- where two are joined
pub merged_one : (c : Control) (p q : Retransmits) → control_waits (merged p q) c ≡ true → (control_waits p c ≡ true) ⊎ (control_waits q c ≡ true)
merged_one (ResetOf id) p q is = any_more (λ (r : ℕ × ℕ). r.0 == id) p.reset_stream q.reset_stream is
merged_one (StopOf id) p q is = any_more (λ (s : StopSendingValue). s.id == id) p.stop_sending q.stop_sending is
merged_one (LimitOf AllData) p q is = or_cases p.max_data q.max_data is
merged_one (LimitOf (StreamData id)) p q is = has_one q.max_stream_data p.max_stream_data id is
merged_one (LimitOf (StreamCount Bi)) p q is = or_cases p.max_stream_id.bi q.max_stream_id.bi is
merged_one (LimitOf (StreamCount Uni)) p q is = or_cases p.max_stream_id.uni q.max_stream_id.uni is
merged_one Blocked p q is = or_cases p.data_blocked q.data_blocked is
merged_one (BlockedOn id) p q is = has_one q.stream_data_blocked p.stream_data_blocked id is
merged_one (NewId number) p q is = any_more (λ (c : IssuedCid). c.sequence == number) p.new_cids q.new_cids is
merged_one (Retirement number) p q is = any_more (λ (n : ℕ). n == number) p.retire_cids q.retire_cids is
merged_one Request p q is = or_cases p.ack_frequency q.ack_frequency is
merged_one Done p q is = or_cases p.handshake_done q.handshake_done is

-- nothing waits
pub none_waits : (c : Control) → control_waits nothing_waits c ≡ false
none_waits (ResetOf id) = refl
none_waits (StopOf id) = refl
none_waits (LimitOf AllData) = refl
none_waits (LimitOf (StreamData id)) = refl
none_waits (LimitOf (StreamCount Bi)) = refl
none_waits (LimitOf (StreamCount Uni)) = refl
none_waits Blocked = refl
none_waits (BlockedOn id) = refl
none_waits (NewId number) = refl
none_waits (Retirement number) = refl
none_waits Request = refl
none_waits Done = refl

-- without the first of a kind nothing more waits
pub fewer_wait : (c : Control) (kind : ControlKind) (p : Retransmits) → control_waits (without_first kind p) c ≡ true → control_waits p c ≡ true
fewer_wait (ResetOf id) ResetStream p is = any_behind (λ (r : ℕ × ℕ). r.0 == id) p.reset_stream is
fewer_wait (StopOf id) StopSending p is = any_behind (λ (s : StopSendingValue). s.id == id) p.stop_sending is
fewer_wait (LimitOf AllData) MaxData p is = cc
fewer_wait (LimitOf (StreamData id)) MaxStreamData p is = any_behind (λ (j : ℕ). is_at (nat_cmp id) j) p.max_stream_data is
fewer_wait (LimitOf (StreamCount dir)) (MaxStreams other) p is = both dir other is
  where
    both : (d o : Dir) → control_waits (without_first (MaxStreams o) p) (LimitOf (StreamCount d)) ≡ true → of d p.max_stream_id ≡ true
    both Bi Bi is = cc
    both Bi Uni is = is
    both Uni Bi is = is
    both Uni Uni is = cc
fewer_wait Blocked DataBlocked p is = cc
fewer_wait (BlockedOn id) StreamDataBlocked p is = any_behind (λ (j : ℕ). is_at (nat_cmp id) j) p.stream_data_blocked is
fewer_wait (NewId number) NewConnectionId p is = any_behind (λ (c : IssuedCid). c.sequence == number) p.new_cids is
fewer_wait (Retirement number) RetireConnectionId p is = any_behind (λ (n : ℕ). n == number) p.retire_cids is
fewer_wait Request kind p is = sym (without_asks kind p) ∙ is
fewer_wait Done HandshakeDone p is = cc
fewer_wait c kind p is = is

-- whether or not ACK_FREQUENCY waits, the others wait as before
pub asked_one : (c : Control) (waits : Bool) (p : Retransmits) → control_waits (record p { ack_frequency = waits }) c ≡ true → (control_waits p c ≡ true) ⊎ ((c ≡ Request) × (waits ≡ true))
asked_one Request waits p is = inr (refl, is)
asked_one (LimitOf AllData) waits p is = inl is
asked_one (LimitOf (StreamData id)) waits p is = inl is
asked_one (LimitOf (StreamCount dir)) waits p is = inl is
asked_one c waits p is = inl is

-- where HANDSHAKE_DONE waits, the others wait as before
pub done_one : (c : Control) (p : Retransmits) → control_waits (record p { handshake_done = true }) c ≡ true → (control_waits p c ≡ true) ⊎ (c ≡ Done)
done_one Done p is = inr refl
done_one (LimitOf AllData) p is = inl is
done_one (LimitOf (StreamData id)) p is = inl is
done_one (LimitOf (StreamCount dir)) p is = inl is
done_one c p is = inl is

-- ---- what frames say

-- an id among those of MAX_STREAM_DATA frames
limits_said : (fs : List FrameValue) (id : ℕ) → has_id id (limits_in fs) ≡ true → list_any (says (LimitOf (StreamData id))) fs ≡ true
limits_said [] id is = is
limits_said (max_stream_data f ∷ fs) id is = elim (or_cases (is_at (nat_cmp id) f.id) (has_id id (limits_in fs)) is) [
  | inl here ↦ or_left (f.id == id) (list_any (says (LimitOf (StreamData id))) fs) (eq-eqb f.id id (sym (first_is id f.id here)))
  | inr more ↦ or_right (f.id == id) (list_any (says (LimitOf (StreamData id))) fs) (limits_said fs id more)
]
limits_said (f ∷ fs) id is = or_right (says (LimitOf (StreamData id)) f) (list_any (says (LimitOf (StreamData id))) fs) (limits_said fs id is)

-- and of STREAM_DATA_BLOCKED frames
blocked_said : (fs : List FrameValue) (id : ℕ) → has_id id (blocked_in fs) ≡ true → list_any (says (BlockedOn id)) fs ≡ true
blocked_said [] id is = is
blocked_said (stream_data_blocked f ∷ fs) id is = elim (or_cases (is_at (nat_cmp id) f.id) (has_id id (blocked_in fs)) is) [
  | inl here ↦ or_left (f.id == id) (list_any (says (BlockedOn id)) fs) (eq-eqb f.id id (sym (first_is id f.id here)))
  | inr more ↦ or_right (f.id == id) (list_any (says (BlockedOn id)) fs) (blocked_said fs id more)
]
blocked_said (f ∷ fs) id is = or_right (says (BlockedOn id) f) (list_any (says (BlockedOn id)) fs) (blocked_said fs id is)

resets_said : (fs : List FrameValue) (id : ℕ) → has_reset id (resets_in fs) ≡ true → list_any (says (ResetOf id)) fs ≡ true
resets_said [] id is = is
resets_said (reset_stream f ∷ fs) id is = elim (or_cases (f.id == id) (has_reset id (resets_in fs)) is) [
  | inl here ↦ or_left (f.id == id) (list_any (says (ResetOf id)) fs) here
  | inr more ↦ or_right (f.id == id) (list_any (says (ResetOf id)) fs) (resets_said fs id more)
]
resets_said (f ∷ fs) id is = or_right (says (ResetOf id) f) (list_any (says (ResetOf id)) fs) (resets_said fs id is)

stops_said : (fs : List FrameValue) (id : ℕ) → has_stop id (stops_in fs) ≡ true → list_any (says (StopOf id)) fs ≡ true
stops_said [] id is = is
stops_said (stop_sending f ∷ fs) id is = elim (or_cases (f.id == id) (has_stop id (stops_in fs)) is) [
  | inl here ↦ or_left (f.id == id) (list_any (says (StopOf id)) fs) here
  | inr more ↦ or_right (f.id == id) (list_any (says (StopOf id)) fs) (stops_said fs id more)
]
stops_said (f ∷ fs) id is = or_right (says (StopOf id) f) (list_any (says (StopOf id)) fs) (stops_said fs id is)

-- an id of NEW_CONNECTION_ID frames
new_ids_said : (fs : List FrameValue) (number : ℕ) → has_new_id number (new_ids_in fs) ≡ true → list_any (says (NewId number)) fs ≡ true
new_ids_said [] number is = is
new_ids_said (new_connection_id f ∷ fs) number is = elim (or_cases (f.sequence == number) (has_new_id number (new_ids_in fs)) is) [
  | inl here ↦ or_left (f.sequence == number) (list_any (says (NewId number)) fs) here
  | inr more ↦ or_right (f.sequence == number) (list_any (says (NewId number)) fs) (new_ids_said fs number more)
]
new_ids_said (f ∷ fs) number is = or_right (says (NewId number) f) (list_any (says (NewId number)) fs) (new_ids_said fs number is)

-- and a number of RETIRE_CONNECTION_ID frames
retirements_said : (fs : List FrameValue) (number : ℕ) → has_retirement number (retirements_in fs) ≡ true → list_any (says (Retirement number)) fs ≡ true
retirements_said [] number is = is
retirements_said (retire_connection_id n ∷ fs) number is = elim (or_cases (n == number) (has_retirement number (retirements_in fs)) is) [
  | inl here ↦ or_left (n == number) (list_any (says (Retirement number)) fs) here
  | inr more ↦ or_right (n == number) (list_any (says (Retirement number)) fs) (retirements_said fs number more)
]
retirements_said (f ∷ fs) number is = or_right (says (Retirement number) f) (list_any (says (Retirement number)) fs) (retirements_said fs number is)

-- what has to be sent again of frames stands among them
pub again_said : (c : Control) (fs : List FrameValue) → control_waits (again_in fs) c ≡ true → list_any (says c) fs ≡ true
again_said (ResetOf id) fs is = resets_said fs id is
again_said (StopOf id) fs is = stops_said fs id is
again_said (LimitOf AllData) fs is = is
again_said (LimitOf (StreamData id)) fs is = limits_said fs id (has_in (limits_in fs) id is)
again_said (LimitOf (StreamCount Bi)) fs is = is
again_said (LimitOf (StreamCount Uni)) fs is = is
again_said Blocked fs is = is
again_said (BlockedOn id) fs is = blocked_said fs id (has_in (blocked_in fs) id is)
again_said (NewId number) fs is = new_ids_said fs number is
again_said (Retirement number) fs is = retirements_said fs number is
again_said Request fs is = is
again_said Done fs is = is
