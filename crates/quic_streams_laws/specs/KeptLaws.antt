-- What taken frames brought stays read or waiting, whatever word comes; and a read is blocked only
-- where none of them brought what it may give.
use Rattle.std.proofs.Common.{◌≡◌, ℕ, ◌<◌, ◌⊎◌, inl, inr, length, [], Bool, true, false, cond, Option, Some, None, refl, sym, ap, ◌∙◌, subst, arith}
use Rattle.std.specs.Prelude.{◌==◌, ◌||◌, not, nat_lt, if◌then◌else◌}
use Rattle.std.specs.Option.{is_some, option_or}
use Rattle.std.specs.declared.result.Result.TheVariants.{Err}
use Rattle.std.proofs.lemmas.Bool.{eq-eqb, eqb-true, or_parts, not-false, both_ways, le-ltb}
use Rattle.quic_wire.specs.Value.{StreamValue}
use Rattle.quic_assembler.specs.declared.assembler.Chunk.{Chunk}
use Rattle.quic_assembler.specs.Arrived.{IsLawful, byte_at, waits, is_given, given_by, after_insert, after_read, in_chunk, bytes_read_of}
use Rattle.quic_assembler.specs.ArrivedHistory.{was_given}
use Rattle.quic_assembler.specs.Waiting.{IsRead, IsDry}
use Rattle.quic_assembler.proofs.Arrived.Lawful.{insert_bytes, insert_lawful, read_lawful, read_given, read_leaves, ordered_given, ordered_counted}
use Rattle.quic_assembler.proofs.Parts.Filled.{low_small}
use Rattle.quic_assembler.proofs.Calls.Kept.{order_kept}
use Rattle.quic_assembler.proofs.Calls.Taken.{is_read}
use Rattle.quic_sets.specs.Parts.{byte_from}
use Rattle.quic_sets.proofs.Parts.Bytes.{from_within}
use Rattle.quic_streams_parts.specs.declared.answers.ReadError.TheVariants as read_errors
use Rattle.quic_streams_parts.specs.RecvHalf.{RecvHalf, new_recv_half, end_of, breaks_final, with_offsets_of, with_frame, reset_by, after_frame, after_reset_stream, begun, read_on, stopped_now, next_of, next_unless, chunk_or_end, at_end, is_read_up}
use Rattle.quic_streams_state.specs.State.{Receiving}
use Rattle.quic_streams_laws.specs.KeepingLaws.{Unbroken}
use Rattle.quic_streams_laws.specs.Written.{Wrote}
use Rattle.quic_streams_laws.specs.Reads.{Reads, bytes_of, IsRecvHalf}
use Rattle.quic_streams_laws.specs.ReadsLaws.{count_chunks, count_full}
use Rattle.quic_streams_laws.specs.Kept.{IsFrameKept, IsKeptHalf, BringsNothing}

-- ---- one half

or_true : (a : Bool) → (a || true) ≡ true
or_true true = refl
or_true false = refl

-- a half on which no frame was taken
pub kept_new : (taken : StreamValue → Type 0) (id window : ℕ) → ((f : StreamValue) → taken f → f.id ≡ id → ⊥) → IsKeptHalf taken id (new_recv_half window)
kept_new taken id window none = record {
  lawful = record { apart = omega arith; spans = omega arith; others = λ o e. refl; order = λ e. refl };
  frames = λ goes free f t e. absurd (none f t e);
}

-- one whose limit the peer was told
pub kept_told : (taken : StreamValue → Type 0) (id : ℕ) (h : RecvHalf) (n : ℕ) → IsKeptHalf taken id h → IsKeptHalf taken id (record h { announced = n })
kept_told taken id h n k = record { lawful = k.lawful; frames = λ goes free f t e. (let x = k.frames goes free f t e in record { bytes = x.bytes; fin = x.fin }) }

-- one on which a read begins
pub kept_begun : (taken : StreamValue → Type 0) (id : ℕ) (h : RecvHalf) → IsKeptHalf taken id h → IsKeptHalf taken id (begun h false)
kept_begun taken id h k = record { lawful = order_kept h.arrived false k.lawful; frames = λ goes free f t e. (let x = k.frames goes free f t e in record { bytes = x.bytes; fin = x.fin }) }

-- one that is stopped
pub kept_stopped : (taken : StreamValue → Type 0) (id : ℕ) (h : RecvHalf) → IsKeptHalf taken id h → IsKeptHalf taken id (stopped_now h)
kept_stopped taken id h k = record {
  lawful = record { apart = low_small h.arrived.read h.arrived.parts k.lawful.apart; spans = k.lawful.spans; others = λ o e. refl; order = k.lawful.order };
  frames = λ goes. absurd (both_ways true goes refl);
}

-- one that the peer reset
pub kept_reset : (taken : StreamValue → Type 0) (id : ℕ) (h : RecvHalf) (code size : ℕ) → IsKeptHalf taken id h → IsKeptHalf taken id (after_reset_stream h code size)
kept_reset taken id h code size k = go h.stopped (is_some h.reset) refl
  where
    set : (c : ℕ) → Some c ≡ None → ⊥
    set c e = cc

    go : (a b : Bool) → h.stopped ≡ a → IsKeptHalf taken id (if a then record h { seen = size; final = Some size } else (if b then h else reset_by h code size))
    go true b st = record { lawful = k.lawful; frames = λ goes. absurd (both_ways h.stopped goes st) }
    go false true st = k
    go false false st = record {
      lawful = record { apart = low_small h.arrived.read h.arrived.parts k.lawful.apart; spans = k.lawful.spans; others = λ o e. refl; order = k.lawful.order };
      frames = λ goes free. absurd (set code free);
    }

-- one that was read on: what a read gave was given, and the rest waits
pub kept_read : (taken : StreamValue → Type 0) (id : ℕ) (h : RecvHalf) (most : ℕ) → IsKeptHalf taken id h → IsKeptHalf taken id (read_on h most)
kept_read taken id h most k = record {
  lawful = read_lawful h.arrived most k.lawful;
  frames = λ goes free f t e. (let x = k.frames goes free f t e in record { bytes = λ o low high. there o (in_chunk (given_by h.arrived most) o) refl (x.bytes o low high); fin = x.fin });
}
  where
    there : (o : ℕ) (b : Bool) → in_chunk (given_by h.arrived most) o ≡ b → (is_given h.arrived o || waits h.arrived.parts o) ≡ true → (is_given (after_read h.arrived most) o || waits (after_read h.arrived most).parts o) ≡ true
    there o true q was = let g : is_given (after_read h.arrived most) o ≡ true = read_given h.arrived most o k.lawful ∙ ap (λ b. b || is_given h.arrived o) q in ap (λ b. b || waits (after_read h.arrived most).parts o) g
    there o false q was =
        let g : is_given (after_read h.arrived most) o ≡ is_given h.arrived o = read_given h.arrived most o k.lawful ∙ ap (λ b. b || is_given h.arrived o) q in
        let w : byte_at (after_read h.arrived most).parts o ≡ byte_at h.arrived.parts o = read_leaves h.arrived most o k.lawful ∙ ap (λ b. cond b None (byte_at h.arrived.parts o)) q in
        ap (λ b. b || waits (after_read h.arrived most).parts o) g ∙ (ap (λ y. is_given h.arrived o || is_some y) w ∙ was)

-- ---- a frame comes

-- a byte waits where one did, and where one comes, unless it was given
came : (g : Bool) (x y : Option ℕ) → (g || is_some (option_or x y)) ≡ true → (g || is_some (cond g None (option_or x y))) ≡ true
came true x y e = refl
came false x y e = e

was_there : (g : Bool) (x y : Option ℕ) → (g || is_some x) ≡ true → (g || is_some (option_or x y)) ≡ true
was_there true x y e = refl
was_there false (Some b) y e = refl
was_there false None y e = cc

comes_there : (g : Bool) (x y : Option ℕ) → is_some y ≡ true → (g || is_some (option_or x y)) ≡ true
comes_there true x y e = refl
comes_there false (Some b) y e = refl
comes_there false None y e = e

-- a frame that breaks no rule on a part, whichever frame of its stream is asked for
pub kept_frame : (taken more : StreamValue → Type 0) (r : Receiving) (h : RecvHalf) (f : StreamValue) → ((g : StreamValue) → more g → taken g ⊎ (g ≡ f)) → Unbroken r h (end_of f) f.fin → IsKeptHalf taken f.id h → IsKeptHalf more f.id (after_frame h f)
kept_frame taken more r h f one u k = go h.stopped (is_some h.reset) refl refl
  where
    set : (o : Option ℕ) → is_some o ≡ true → o ≡ None → ⊥
    set (Some c) e f = cc
    set None e f = cc

    inserted : (o : ℕ) → byte_at (after_insert h.arrived f.offset f.bytes).parts o ≡ cond (is_given h.arrived o) None (option_or (byte_at h.arrived.parts o) (byte_from f.offset f.bytes o))
    inserted o = insert_bytes h.arrived f.offset f.bytes o k.lawful u.small

    there : (o : ℕ) → (is_given h.arrived o || is_some (option_or (byte_at h.arrived.parts o) (byte_from f.offset f.bytes o))) ≡ true → (is_given h.arrived o || waits (after_insert h.arrived f.offset f.bytes).parts o) ≡ true
    there o e = ap (λ y. is_given h.arrived o || is_some y) (inserted o) ∙ came (is_given h.arrived o) (byte_at h.arrived.parts o) (byte_from f.offset f.bytes o) e

    end_known : (b : Bool) (size : ℕ) → (old : Option ℕ) → breaks_final old h.seen (end_of f) b ≡ false → old ≡ Some size → (if b then Some (end_of f) else old) ≡ Some size
    end_known false size old e is = is
    end_known true size None e is = cc
    end_known true size (Some n) e is =
        let same : n ≡ size = cc in
        let at_n : end_of f ≡ n = eqb-true (end_of f) n (not-false (end_of f == n) (or_parts (nat_lt n (end_of f)) (not (end_of f == n)) e).1) in
        ap (λ m. Some m) (at_n ∙ same)

    ends : (b : Bool) → b ≡ true → (if b then Some (end_of f) else h.final) ≡ Some (end_of f)
    ends true e = refl
    ends false e = cc

    this : IsFrameKept f (with_frame h f)
    this = record {
      bytes = λ o low high. there o (comes_there (is_given h.arrived o) (byte_at h.arrived.parts o) (byte_from f.offset f.bytes o) (ap is_some (from_within f.offset f.bytes o low high)));
      fin = ends f.fin;
    }

    others : (g : StreamValue) → IsFrameKept g h → IsFrameKept g (with_frame h f)
    others g x = record {
      bytes = λ o low high. there o (was_there (is_given h.arrived o) (byte_at h.arrived.parts o) (byte_from f.offset f.bytes o) (x.bytes o low high));
      fin = λ e. end_known f.fin (end_of g) h.final u.final (x.fin e);
    }

    go : (a b : Bool) → h.stopped ≡ a → is_some h.reset ≡ b → IsKeptHalf more f.id (if a then with_offsets_of h f else (if b then h else with_frame h f))
    go true b is e = record { lawful = k.lawful; frames = λ goes. absurd (both_ways h.stopped goes is) }
    go false true is e = record { lawful = k.lawful; frames = λ goes free. absurd (set h.reset e free) }
    go false false is e = record {
      lawful = insert_lawful h.arrived f.offset f.bytes k.lawful u.small;
      frames = λ goes free g t same. elim (one g t) [
        | inl was ↦ others g (k.frames goes free g was same)
        | inr new ↦ subst (λ x. IsFrameKept x (with_frame h f)) (sym new) this
      ];
    }

-- ---- a read that is blocked

-- why a half that isn't reset is blocked: no byte waits that may be given, and not all up to the
-- end was read
pub record IsBlocked (h : RecvHalf) : Type 0 where
  pub free : h.reset ≡ None
  pub dry : IsDry h.arrived
  pub before_end : is_read_up h.final (bytes_read_of h.arrived) ≡ false

-- a half that is blocked is so for that
pub next_blocked : (h : RecvHalf) (most : ℕ) → IsLawful h.arrived → next_of h most ≡ Err read_errors.Blocked → IsBlocked h
next_blocked h most lawful e = by_reset h.reset refl e
  where
    by_end : (b : Bool) → h.reset ≡ None → IsDry h.arrived → is_read_up h.final (bytes_read_of h.arrived) ≡ b → at_end b ≡ Err read_errors.Blocked → IsBlocked h
    by_end true free dry is f = cc
    by_end false free dry is f = record { free = free; dry = dry; before_end = is }

    by_chunk : (o : Option Chunk) → h.reset ≡ None → given_by h.arrived most ≡ o → chunk_or_end o h ≡ Err read_errors.Blocked → IsBlocked h
    by_chunk (Some c) free is f = cc
    by_chunk None free is f = by_end (is_read_up h.final (bytes_read_of h.arrived)) free (subst (IsRead h.arrived most) is (is_read h.arrived most lawful)) refl f

    by_reset : (o : Option ℕ) → h.reset ≡ o → next_unless o h most ≡ Err read_errors.Blocked → IsBlocked h
    by_reset (Some code) is f = cc
    by_reset None is f = by_chunk (given_by h.arrived most) is refl f

-- no frame that such a half keeps brought what may be read next
pub blocked_lacks : (w : Wrote) (r : Reads) (h : RecvHalf) (f : StreamValue) → IsRecvHalf w r h → IsBlocked h → IsFrameKept f h → BringsNothing r f
blocked_lacks w r h f i b k = record {
  ordered = λ o low high.
      let plain : h.arrived.unordered ≡ false = i.ordered ∙ o in
      let at : length (bytes_of r.chunks) ≡ h.arrived.read = sym i.counted ∙ ordered_counted h.arrived i.lawful plain in
      let not_given : is_given h.arrived (length (bytes_of r.chunks)) ≡ false = ordered_given h.arrived (length (bytes_of r.chunks)) i.lawful plain ∙ le-ltb (length (bytes_of r.chunks)) h.arrived.read (omega arith) in
      let not_waiting : waits h.arrived.parts (length (bytes_of r.chunks)) ≡ false = ap is_some (ap (byte_at h.arrived.parts) at ∙ b.dry.ordered plain) in
      neither (is_given h.arrived (length (bytes_of r.chunks))) (waits h.arrived.parts (length (bytes_of r.chunks))) not_given not_waiting (k.bytes (length (bytes_of r.chunks)) low high);
  unordered = λ o q low high.
      let none : h.arrived.parts ≡ [] = b.dry.unordered (i.ordered ∙ o) in
      sym (i.given q) ∙ only (is_given h.arrived q) (waits h.arrived.parts q) (ap (λ ps. waits ps q) none) (k.bytes q low high);
  end = λ fin all.
      let size : h.final ≡ Some (end_of f) = k.fin fin in
      let whole : end_of f ≡ length w.bytes = i.final (end_of f) size in
      let each : (o : ℕ) → o < length w.bytes → was_given r.chunks o ≡ true = λ o lt. all o (omega arith) in
      let as_many : length (bytes_of r.chunks) ≡ length w.bytes = sym (count_chunks w.bytes r.chunks i.reads.slices i.reads.once) ∙ count_full (was_given r.chunks) (length w.bytes) each in
      let same : end_of f ≡ bytes_read_of h.arrived = whole ∙ (sym as_many ∙ sym i.counted) in
      both_ways (is_read_up h.final (bytes_read_of h.arrived)) b.before_end (ap (λ o. is_read_up o (bytes_read_of h.arrived)) size ∙ eq-eqb (end_of f) (bytes_read_of h.arrived) same);
}
  where
    neither : (x y : Bool) → x ≡ false → y ≡ false → (x || y) ≡ true → ⊥
    neither true y e f g = both_ways true e refl
    neither false true e f g = both_ways true f refl
    neither false false e f g = both_ways false refl g

    only : (x y : Bool) → y ≡ false → (x || y) ≡ true → x ≡ true
    only true y f g = refl
    only false true f g = absurd (both_ways true f refl)
    only false false f g = g
