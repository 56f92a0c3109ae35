-- What is kept on all streams, after a change of one.
use Rattle.std.proofs.Common.{◌≡◌, ℕ, ◌+◌, ◌≤◌, Bool, true, false, List, [], ◌∷◌, length, Some, None, Option, Result, Ok, Err, OnOk, OnErr, refl, sym, ap, ◌∙◌, subst, length-append, length-drop, arith}
use Rattle.std.specs.Prelude.{◌&&◌, if◌then◌else◌}
use Rattle.std.proofs.Math.Dec.{eqb-suc-zero}
use Rattle.std.specs.Option.{unwrap_or, option_map}
use Rattle.std.specs.List.{sum_by}
use Rattle.std.specs.Ordering.{nat_cmp}
use Rattle.std.specs.Cmp.{nat_cmp_total}
use Rattle.std.specs.BTreeMap.{is_at}
use Rattle.std.specs.List.Sorted.{IsStrictlySortedBy}
use Rattle.std.specs.Map.{keys_of, values_of}
use Rattle.std.proofs.lemmas.Map.Entries.{sum_by-set_value, sum_by-remove_entry, sum_by-insert_entry}
use Rattle.quic_send_buffer.specs.declared.stream_meta.StreamMeta.{StreamMeta}
use Rattle.quic_send_buffer.specs.Buffered.{Buffered, done, acknowledged}
use Rattle.quic_streams_parts.specs.Queue.{Queue, Place}
use Rattle.quic_streams_parts.specs.SendHalf.{SendHalf, is_ready, has_pending, frame_counts, half_after, half_acked, half_lost, grown, ended, requeued, requeued_at, turned, turned_at}
use Rattle.quic_streams_halves.specs.Queued.{unmoved, accepted_with, acked_with, acked_if_ready, lost_with, sent_if_counts, finished_with}
use Rattle.quic_streams_parts.specs.Table.{Table, at, put, without, added}

module _ {A : Type 0} (f : A → ℕ) where
  -- a half is changed
  pub put_sum : (es ns : Table A) (id : ℕ) (h w : A) (b b2 : ℕ) → b ≡ sum_by f (values_of es) → at es id ≡ Some h → ns ≡ put es id w → b2 + f h ≡ b + f w → b2 ≡ sum_by f (values_of ns)
  put_sum es ns id h w b b2 was found is e =
      let total : sum_by f (values_of (put es id w)) + f h ≡ sum_by f (values_of es) + f w = sum_by-set_value f (is_at (nat_cmp id)) es h w found in
      let now : b2 ≡ sum_by f (values_of (put es id w)) = omega arith in
      now ∙ sym (ap (λ (xs : Table A). sum_by f (values_of xs)) is)

  -- a half comes into use
  pub added_sum : (es ns : Table A) (id : ℕ) (w : A) (b b2 : ℕ) → IsStrictlySortedBy nat_cmp (keys_of es) → b ≡ sum_by f (values_of es) → at es id ≡ None → ns ≡ added es id w → b2 ≡ b + f w → b2 ≡ sum_by f (values_of ns)
  added_sum es ns id w b b2 o was none is e =
      let P : Option A → Type 0 = λ r. sum_by f (values_of (added es id w)) + unwrap_or (option_map f r) 0 ≡ sum_by f (values_of es) + f w in
      let total : P None = subst P none (sum_by-insert_entry f nat_cmp_total es id w o) in
      let now : b2 ≡ sum_by f (values_of (added es id w)) = omega arith in
      now ∙ sym (ap (λ (xs : Table A). sum_by f (values_of xs)) is)

  -- a half is no longer in use
  pub removed_sum : (es ns : Table A) (id : ℕ) (r : Option A) (b b2 : ℕ) → b ≡ sum_by f (values_of es) → at es id ≡ r → ns ≡ without es id → b2 + unwrap_or (option_map f r) 0 ≡ b → b2 ≡ sum_by f (values_of ns)
  removed_sum es ns id r b b2 was found is e =
      let P : Option A → Type 0 = λ r. sum_by f (values_of (without es id)) + unwrap_or (option_map f r) 0 ≡ sum_by f (values_of es) in
      let total : P r = subst P found (sum_by-remove_entry f (is_at (nat_cmp id)) es) in
      let now : b2 ≡ sum_by f (values_of (without es id)) = omega arith in
      now ∙ sym (ap (λ (xs : Table A). sum_by f (values_of xs)) is)

  -- one half's part is within the sum
  pub within_sum : (es : Table A) (id : ℕ) (h : A) (b : ℕ) → b ≡ sum_by f (values_of es) → at es id ≡ Some h → f h ≤ b
  within_sum es id h b was found =
      let P : Option A → Type 0 = λ r. sum_by f (values_of (without es id)) + unwrap_or (option_map f r) 0 ≡ sum_by f (values_of es) in
      let parts : P (Some h) = subst P found (sum_by-remove_entry f (is_at (nat_cmp id)) es) in
      omega arith

-- an acknowledged frame leaves no more bytes on its half
pub acked_shrinks : (h : SendHalf) (m : StreamMeta) → length (half_acked h m).buffer.kept ≤ length h.buffer.kept
acked_shrinks h m = let left = length-drop (done (acknowledged h.buffer m.offsets.start m.offsets.end)) h.buffer.kept in omega arith

-- a half keeps its bytes where the queue follows it
pub requeued_kept : (p : Option Place) (b : Bool) (q : Queue) (id : ℕ) (h : SendHalf) → (requeued_at p b q id h).half.buffer ≡ h.buffer
requeued_kept None true q id h = refl
requeued_kept None false q id h = refl
requeued_kept (Some place) true q id h = refl
requeued_kept (Some place) false q id h = refl

turned_kept : (b : Bool) (q : Queue) (id : ℕ) (h : SendHalf) → (if b then turned_at h.place q id h else requeued q id h).half.buffer ≡ h.buffer
turned_kept true q id h = go h.place
  where
    go : (p : Option Place) → (turned_at p q id h).half.buffer ≡ h.buffer
    go None = refl
    go (Some place) = refl
turned_kept false q id h = requeued_kept h.place (has_pending h) q id h

-- and has no more of them once a frame of it was acknowledged
pub acked_kept : (m : StreamMeta) (q : Queue) (h w : SendHalf) → w ≡ (acked_with m q h).half → length w.buffer.kept ≤ length h.buffer.kept
acked_kept m q h w is =
    let same : length w.buffer.kept ≡ length (half_acked h m).buffer.kept = ap (λ (v : SendHalf). length v.buffer.kept) is ∙ ap (λ (b : Buffered). length b.kept) (requeued_kept (half_acked h m).place (has_pending (half_acked h m)) q m.id (half_acked h m)) in
    let fewer = acked_shrinks h m in
    omega arith

pub acked_if_kept : (m : StreamMeta) (q : Queue) (h w : SendHalf) → w ≡ (acked_if_ready m q h).half → length w.buffer.kept ≤ length h.buffer.kept
acked_if_kept m q h w is = go (is_ready h) is
  where
    go : (b : Bool) → w ≡ (if b then acked_with m q h else unmoved q h).half → length w.buffer.kept ≤ length h.buffer.kept
    go true e = acked_kept m q h w e
    go false e = let same : length w.buffer.kept ≡ length h.buffer.kept = ap (λ (v : SendHalf). length v.buffer.kept) e in omega arith

-- as many after a frame of it was lost, whether memory lacked or not
pub lost_kept : {T E : Type 0} (r : Result T E) (m : StreamMeta) (q : Queue) (h w : SendHalf) → OnOk r (w ≡ (lost_with m q h).half) → OnErr r (w ≡ h) → length w.buffer.kept ≡ length h.buffer.kept
lost_kept (Ok x) m q h w ok err = ap (λ (v : SendHalf). length v.buffer.kept) ok ∙ ap (λ (b : Buffered). length b.kept) (requeued_kept (half_lost h m).place (has_pending (half_lost h m)) q m.id (half_lost h m))
lost_kept (Err e) m q h w ok err = ap (λ (v : SendHalf). length v.buffer.kept) err

-- and once its end has to go
pub finished_kept : {T E : Type 0} (r : Result T E) (id : ℕ) (q : Queue) (h w : SendHalf) → OnOk r (w ≡ (finished_with id q h).half) → OnErr r (w ≡ h) → length w.buffer.kept ≡ length h.buffer.kept
finished_kept (Ok x) id q h w ok err = ap (λ (v : SendHalf). length v.buffer.kept) ok ∙ ap (λ (b : Buffered). length b.kept) (requeued_kept h.place true q id (ended h))
finished_kept (Err e) id q h w ok err = ap (λ (v : SendHalf). length v.buffer.kept) err

-- and after one of it went
pub sent_kept : {T E : Type 0} (r : Result T E) (fair : Bool) (id room : ℕ) (q : Queue) (h w : SendHalf) → OnOk r (w ≡ (sent_if_counts fair id room q h).half) → OnErr r (w ≡ half_after h room) → length w.buffer.kept ≡ length h.buffer.kept
sent_kept (Ok x) fair id room q h w ok err = go (frame_counts h room) ok
  where
    go : (b : Bool) → w ≡ (if b then turned fair q id (half_after h room) else unmoved q h).half → length w.buffer.kept ≡ length h.buffer.kept
    go true e = ap (λ (v : SendHalf). length v.buffer.kept) e ∙ ap (λ (b : Buffered). length b.kept) (turned_kept (fair && has_pending (half_after h room)) q id (half_after h room))
    go false e = ap (λ (v : SendHalf). length v.buffer.kept) e
sent_kept (Err e) fair id room q h w ok err = ap (λ (v : SendHalf). length v.buffer.kept) err

-- as many more as were accepted
pub accepted_kept : (id : ℕ) (bytes : List ℕ) (q : Queue) (h w : SendHalf) → w ≡ (accepted_with id bytes q h).half → length w.buffer.kept ≡ length h.buffer.kept + length bytes
accepted_kept id [] q h w is = let same : length w.buffer.kept ≡ length h.buffer.kept = ap (λ (v : SendHalf). length v.buffer.kept) is in omega arith
accepted_kept id (b ∷ bytes) q h w is =
    let some : w ≡ (requeued_at h.place true q id (grown h (b ∷ bytes))).half = is ∙ ap (λ (z : Bool). (if z then unmoved q h else requeued_at h.place true q id (grown h (b ∷ bytes))).half) (eqb-suc-zero (length bytes)) in
    let same : length w.buffer.kept ≡ length (grown h (b ∷ bytes)).buffer.kept = ap (λ (v : SendHalf). length v.buffer.kept) some ∙ ap (λ (x : Buffered). length x.kept) (requeued_kept h.place true q id (grown h (b ∷ bytes))) in
    let more = length-append h.buffer.kept (b ∷ bytes) in
    omega arith
