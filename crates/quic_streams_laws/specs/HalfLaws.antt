-- What is read of one receiving half is what was written on its stream, whatever comes, is read, or
-- is stopped.
use Rattle.std.proofs.Common.{◌≡◌, ℕ, ◌+◌, ◌-◌, ◌^◌, ◌<◌, ◌≤◌, inl, inr, ltb, length, List, Bool, true, false, cond, Option, Some, None, refl, sym, ap, ◌∙◌, subst, arith, get_or, slice_get, length-append}
use Rattle.std.specs.Prelude.{not, ◌||◌, if◌then◌else◌}
use Rattle.std.specs.Option.{is_some, option_or, IsSome}
use Rattle.std.proofs.lemmas.Bool.{ltb-true, ltb-false, eqb-true, cases_Bool, and_parts, both_ways, not-true, false_from_ne_true}
use Rattle.std.proofs.lemmas.Option.{slice_get-get_or, slice_get_within}
use Rattle.quic_wire.specs.Value.{StreamValue}
use Rattle.quic_assembler.specs.declared.assembler.Chunk.{Chunk}
use Rattle.quic_assembler.specs.Arrived.{Arrived, byte_at, is_given, given_by, after_read, after_read_in, in_chunk, length_of, bytes_read_of}
use Rattle.quic_assembler.specs.ArrivedHistory.{was_given}
use Rattle.quic_assembler.specs.Waiting.{IsRead}
use Rattle.quic_assembler.proofs.Arrived.Lawful.{insert_bytes, insert_lawful, read_lawful, read_given, read_leaves, read_counted, given_waits_not, ordered_counted}
use Rattle.quic_assembler.proofs.Parts.Filled.{low_small}
use Rattle.quic_assembler.proofs.Calls.Kept.{order_kept}
use Rattle.quic_assembler.proofs.Calls.Taken.{is_read}
use Rattle.quic_sets.specs.Parts.{byte_from}
use Rattle.std.specs.declared.result.Result.TheVariants.{Ok}
use Rattle.quic_streams_parts.specs.RecvHalf.{RecvHalf, new_recv_half, end_of, with_offsets_of, with_frame, reset_by, after_frame, after_reset_stream, begun, read_on, stopped_now, next_of, next_unless, chunk_or_end, at_end, is_read_up}
use Rattle.quic_streams_laws.specs.Written.{Wrote, IsOver, Grows, StandsAt, IsStreamOf}
use Rattle.quic_streams_laws.specs.Reads.{Reads, nothing_read, with_unordered, with_chunk_read, bytes_of, IsReadOf, IsRecvHalf, IsAllRead, IsNextChunk, IsNextOf}
use Rattle.quic_streams_laws.specs.ReadsLaws.{stands_within, stands_byte, stands_from, get_more, length-more, given-more, slices_more, slices_grow, distinct_more, follow_more, all_read}

-- ---- at the start

-- of what was written nothing was read, whatever it is
pub reads_nothing : (w : Wrote) → IsReadOf w nothing_read
reads_nothing w = record { slices = tt; once = tt; in_order = λ o. tt }

-- of a half on which nothing was done
pub half_new : (w : Wrote) (window : ℕ) → IsRecvHalf w nothing_read (new_recv_half window)
half_new w window = record {
  reads = reads_nothing w;
  lawful = record { apart = omega arith; spans = omega arith; others = λ o e. refl; order = λ e. refl };
  agrees = λ o b e. cc;
  given = λ o. none o;
  counted = refl;
  ordered = refl;
  seen = omega arith;
  over = λ e. cc;
  final = λ size e. cc;
  ended = λ a b e. cc;
  reset = λ code e. cc;
}
  where
    none : (o : ℕ) → (ltb o 0 || false) ≡ false
    none o = elim (cases_Bool (ltb o 0)) [
      | inl e ↦ absurd (let l = ltb-true o 0 e in omega arith)
      | inr e ↦ rw e refl
    ]

-- ---- what was written grows

-- what was read is read of what was written then
pub reads_grow : (w more : Wrote) (r : Reads) → Grows w more → IsReadOf w r → IsReadOf more r
reads_grow w more r g i = record { slices = slices_grow w.bytes g.rest more.bytes r.chunks g.bytes i.slices; once = i.once; in_order = i.in_order }

over_grows : (w more : Wrote) → Grows w more → IsOver w → IsOver more
over_grows w more g (inl e) = inl (g.ended e)
over_grows w more g (inr e) = inr (go w.reset refl e)
  where
    go : (o : Option ℕ) → w.reset ≡ o → IsSome o → IsSome more.reset
    go (Some code) is e = ap is_some (g.reset code is)
    go None is e = cc

-- and so is a half's
pub half_grows : (w more : Wrote) (r : Reads) (h : RecvHalf) → Grows w more → IsRecvHalf w r h → IsRecvHalf more r h
half_grows w more r h g i =
    let len : length w.bytes + length g.rest ≡ length more.bytes = omega (arith, length_of_both) in
    let seen = i.seen in
    record {
      reads = reads_grow w more r g i.reads;
      lawful = i.lawful;
      agrees = λ o b e. subst (λ z. slice_get z o ≡ Some b) g.bytes (get_more w.bytes g.rest o b (i.agrees o b e));
      given = i.given;
      counted = i.counted;
      ordered = i.ordered;
      seen = omega arith;
      over = λ e. over_grows w more g (i.over e);
      final = λ size e. i.final size e ∙ sym (ap length (g.over (i.over (ap is_some e))));
      ended = λ a b e. g.ended (i.ended a b e);
      reset = λ code e. g.reset code (i.reset code e);
    }
  where
    length_of_both : length w.bytes + length g.rest ≡ length more.bytes
    length_of_both = sym (length-append w.bytes g.rest) ∙ ap length g.bytes

-- ---- a frame comes

-- a byte that waits behind a frame waited before, or stands in the frame
byte_agrees : (all : List ℕ) (o b : ℕ) (x y : Option ℕ) (low : Bool) → ((b : ℕ) → x ≡ Some b → slice_get all o ≡ Some b) → ((b : ℕ) → y ≡ Some b → slice_get all o ≡ Some b) → cond low None (option_or x y) ≡ Some b → slice_get all o ≡ Some b
byte_agrees all o b x y true was came e = cc
byte_agrees all o b None y false was came e = came b e
byte_agrees all o b (Some a) y false was came e = was b e

-- what a frame lets know of the end is so of what was written
record SeesEnd (w : Wrote) (end : ℕ) (fin : Bool) (old : Option ℕ) : Type 0 where
  over : IsSome (if fin then Some end else old) → IsOver w
  final : (size : ℕ) → (if fin then Some end else old) ≡ Some size → size ≡ length w.bytes

sees_end : (w : Wrote) (end : ℕ) (fin : Bool) (old : Option ℕ) → (fin ≡ true → IsOver w) → (fin ≡ true → end ≡ length w.bytes) → (IsSome old → IsOver w) → ((size : ℕ) → old ≡ Some size → size ≡ length w.bytes) → SeesEnd w end fin old
sees_end w end true old over last was known = record { over = λ e. over refl; final = λ size e. (let same : end ≡ size = cc in sym same ∙ last refl) }
sees_end w end false old over last was known = record { over = was; final = known }

ended_by : (w : Wrote) (end : ℕ) (fin : Bool) (old : Option ℕ) → (fin ≡ true → w.ended ≡ true) → (IsSome old → w.ended ≡ true) → IsSome (if fin then Some end else old) → w.ended ≡ true
ended_by w end true old now was e = now refl
ended_by w end false old now was e = was e

-- a frame that says what was written
pub half_frame : (w : Wrote) (r : Reads) (h : RecvHalf) (f : StreamValue) → IsStreamOf w f → end_of f < 2 ^ 62 → IsRecvHalf w r h → IsRecvHalf w r (after_frame h f)
half_frame w r h f says small i = go h.stopped (is_some h.reset) refl refl
  where
    within : end_of f ≤ length w.bytes
    within = stands_within w.bytes f.offset f.bytes says.stands

    ends : SeesEnd w (end_of f) f.fin h.final
    ends = sees_end w (end_of f) f.fin h.final (λ e. inl (says.ended e)) says.last i.over i.final

    go : (a b : Bool) → h.stopped ≡ a → is_some h.reset ≡ b → IsRecvHalf w r (if a then with_offsets_of h f else (if b then h else with_frame h f))
    go true b is e =
        let seen = i.seen in
        record { reads = i.reads; lawful = i.lawful; agrees = i.agrees; given = i.given; counted = i.counted; ordered = i.ordered; seen = omega (arith, within); over = ends.over; final = ends.final; ended = λ goes. absurd (both_ways h.stopped goes is); reset = i.reset }
    go false true is e = i
    go false false is e =
        let seen = i.seen in
        record {
          reads = i.reads;
          lawful = insert_lawful h.arrived f.offset f.bytes i.lawful small;
          agrees = λ o b q. byte_agrees w.bytes o b (byte_at h.arrived.parts o) (byte_from f.offset f.bytes o) (is_given h.arrived o) (i.agrees o) (λ c t. stands_byte w.bytes f.offset f.bytes o c says.stands t) (sym (insert_bytes h.arrived f.offset f.bytes o i.lawful small) ∙ q);
          given = i.given;
          counted = i.counted;
          ordered = i.ordered;
          seen = omega (arith, within);
          over = ends.over;
          final = ends.final;
          ended = λ goes free. ended_by w (end_of f) f.fin h.final says.ended (i.ended goes free);
          reset = i.reset;
        }

-- ---- a reset comes

-- a reset with the code and the size of what was written
pub half_reset : (w : Wrote) (r : Reads) (h : RecvHalf) (code size : ℕ) → w.reset ≡ Some code → size ≡ length w.bytes → IsRecvHalf w r h → IsRecvHalf w r (after_reset_stream h code size)
half_reset w r h code size is same i = go h.stopped (is_some h.reset) refl
  where
    over : IsOver w
    over = inr (ap is_some is)

    free_not : (c : ℕ) → Some c ≡ None → ⊥
    free_not c e = cc

    go : (a b : Bool) → h.stopped ≡ a → IsRecvHalf w r (if a then record h { seen = size; final = Some size } else (if b then h else reset_by h code size))
    go true b st = record { reads = i.reads; lawful = i.lawful; agrees = i.agrees; given = i.given; counted = i.counted; ordered = i.ordered; seen = omega arith; over = λ e. over; final = λ n e. (let q : size ≡ n = cc in sym q ∙ same); ended = λ goes. absurd (both_ways h.stopped goes st); reset = i.reset }
    go false true st = i
    go false false st = record {
      reads = i.reads;
      lawful = record { apart = low_small h.arrived.read h.arrived.parts i.lawful.apart; spans = i.lawful.spans; others = λ o e. refl; order = i.lawful.order };
      agrees = λ o b e. cc;
      given = i.given;
      counted = i.counted;
      ordered = i.ordered;
      seen = omega arith;
      over = λ e. over;
      final = λ n e. (let q : size ≡ n = cc in sym q ∙ same);
      ended = λ goes free. absurd (free_not code free);
      reset = λ c e. (let q : code ≡ c = cc in is ∙ ap (λ n. Some n) q);
    }

-- ---- a stop at this end, and a read that begins

-- a stop
pub half_stopped : (w : Wrote) (r : Reads) (h : RecvHalf) → IsRecvHalf w r h → IsRecvHalf w r (stopped_now h)
half_stopped w r h i = record {
  reads = i.reads;
  lawful = record { apart = low_small h.arrived.read h.arrived.parts i.lawful.apart; spans = i.lawful.spans; others = λ o e. refl; order = i.lawful.order };
  agrees = λ o b e. cc;
  given = i.given;
  counted = i.counted;
  ordered = i.ordered;
  seen = i.seen;
  over = i.over;
  final = i.final;
  ended = λ goes. absurd (both_ways true goes refl);
  reset = i.reset;
}

-- a read that isn't in order
pub half_begun : (w : Wrote) (r : Reads) (h : RecvHalf) → IsRecvHalf w r h → IsRecvHalf w (with_unordered r) (begun h false)
half_begun w r h i = record { reads = record { slices = i.reads.slices; once = i.reads.once; in_order = λ o. absurd (both_ways true o refl) }; lawful = order_kept h.arrived false i.lawful; agrees = i.agrees; given = i.given; counted = i.counted; ordered = refl; seen = i.seen; over = i.over; final = i.final; ended = i.ended; reset = i.reset }

-- whatever limit the peer was told
pub half_told : (w : Wrote) (r : Reads) (h : RecvHalf) (n : ℕ) → IsRecvHalf w r h → IsRecvHalf w r (record h { announced = n })
half_told w r h n i = record { reads = i.reads; lawful = i.lawful; agrees = i.agrees; given = i.given; counted = i.counted; ordered = i.ordered; seen = i.seen; over = i.over; final = i.final; ended = i.ended; reset = i.reset }

-- ---- a chunk is read

-- what a read gave waited, and so was written
pub chunk_stands : (w : Wrote) (r : Reads) (h : RecvHalf) (most : ℕ) (c : Chunk) → IsRecvHalf w r h → given_by h.arrived most ≡ Some c → StandsAt w.bytes c.offset c.bytes
chunk_stands w r h most c i e =
    let it : IsRead h.arrived most (Some c) = subst (IsRead h.arrived most) e (is_read h.arrived most i.lawful) in
    let first : c.offset < length w.bytes = waiting (byte_at h.arrived.parts c.offset) refl it.0.waiting in
    stands_from w.bytes c.offset c.bytes (omega arith) (λ k l.
    let x = slice_get-get_or c.bytes k 0 l in
    i.agrees (c.offset + k) (get_or c.bytes k 0) (sym (it.1.bytes k l) ∙ x) ∙ sym x)
  where
    waiting : (o : Option ℕ) → byte_at h.arrived.parts c.offset ≡ o → is_some o ≡ true → c.offset < length w.bytes
    waiting (Some b) is f = slice_get_within w.bytes c.offset b (i.agrees c.offset b is)
    waiting None is f = cc

-- none of its offsets was read before
pub chunk_new : (w : Wrote) (r : Reads) (h : RecvHalf) (most : ℕ) (c : Chunk) → IsRecvHalf w r h → given_by h.arrived most ≡ Some c → (o : ℕ) → in_chunk (Some c) o ≡ true → was_given r.chunks o ≡ false
chunk_new w r h most c i e o has =
    let it : IsRead h.arrived most (Some c) = subst (IsRead h.arrived most) e (is_read h.arrived most i.lawful) in
    let p = and_parts (not (ltb o c.offset)) (ltb o (c.offset + length c.bytes)) has in
    let low = ltb-false o c.offset (not-true (ltb o c.offset) p.0) in
    let high = ltb-true o (c.offset + length c.bytes) p.1 in
    let at : c.offset + (o - c.offset) ≡ o = omega arith in
    let there : byte_at h.arrived.parts o ≡ Some (get_or c.bytes (o - c.offset) 0) = ap (byte_at h.arrived.parts) (sym at) ∙ (sym (it.1.bytes (o - c.offset) (omega arith)) ∙ slice_get-get_or c.bytes (o - c.offset) 0 (omega arith)) in
    sym (i.given o) ∙ false_from_ne_true (is_given h.arrived o) (λ g. nothing (get_or c.bytes (o - c.offset) 0) (sym (given_waits_not h.arrived o i.lawful g) ∙ there))
  where
    nothing : (b : ℕ) → None ≡ Some b → ⊥
    nothing b e = cc

-- while all reads were in order it stands right behind what was read
pub chunk_follows : (w : Wrote) (r : Reads) (h : RecvHalf) (most : ℕ) (c : Chunk) → IsRecvHalf w r h → given_by h.arrived most ≡ Some c → r.unordered ≡ false → c.offset ≡ length (bytes_of r.chunks)
chunk_follows w r h most c i e o =
    let it : IsRead h.arrived most (Some c) = subst (IsRead h.arrived most) e (is_read h.arrived most i.lawful) in
    let plain : h.arrived.unordered ≡ false = i.ordered ∙ o in
    it.0.ordered plain ∙ (sym (ordered_counted h.arrived i.lawful plain) ∙ i.counted)

-- so a chunk that is given may be read next
pub chunk_next : (w : Wrote) (r : Reads) (h : RecvHalf) (most : ℕ) (c : Chunk) → IsRecvHalf w r h → given_by h.arrived most ≡ Some c → IsNextChunk w r c
chunk_next w r h most c i e = record { stands = chunk_stands w r h most c i e; new = chunk_new w r h most c i e; follows = chunk_follows w r h most c i e }

-- what is read with it
pub reads_more : (w : Wrote) (r : Reads) (h : RecvHalf) (most : ℕ) (c : Chunk) → IsRecvHalf w r h → given_by h.arrived most ≡ Some c → IsReadOf w (with_chunk_read c r)
reads_more w r h most c i e = record {
  slices = slices_more w.bytes r.chunks c i.reads.slices (chunk_stands w r h most c i e);
  once = distinct_more r.chunks c i.reads.once (chunk_new w r h most c i e);
  in_order = λ o. follow_more 0 r.chunks c (i.reads.in_order o) (let a = chunk_follows w r h most c i e o in omega arith);
}

-- and what is left of the half
pub half_read : (w : Wrote) (r : Reads) (h : RecvHalf) (most : ℕ) (c : Chunk) → IsRecvHalf w r h → given_by h.arrived most ≡ Some c → IsRecvHalf w (with_chunk_read c r) (read_on h most)
half_read w r h most c i e = record {
  reads = reads_more w r h most c i e;
  lawful = read_lawful h.arrived most i.lawful;
  agrees = λ o b q. left o b (in_chunk (given_by h.arrived most) o) (sym (read_leaves h.arrived most o i.lawful) ∙ q);
  given = λ o. read_given h.arrived most o i.lawful ∙ (ap (λ x. in_chunk x o || is_given h.arrived o) e ∙ (ap (λ b. in_chunk (Some c) o || b) (i.given o) ∙ sym (given-more r.chunks c o)));
  counted = read_counted h.arrived most i.lawful ∙ (ap (λ x. bytes_read_of h.arrived + length_of x) e ∙ (ap (λ n. n + length c.bytes) i.counted ∙ sym (length-more r.chunks c)));
  ordered = unordered_stays h.arrived most ∙ i.ordered;
  seen = i.seen;
  over = i.over;
  final = i.final;
  ended = i.ended;
  reset = i.reset;
}
  where
    left : (o b : ℕ) (low : Bool) → cond low None (byte_at h.arrived.parts o) ≡ Some b → slice_get w.bytes o ≡ Some b
    left o b true q = cc
    left o b false q = i.agrees o b q

    unordered_stays : (a : Arrived) (most : ℕ) → (after_read a most).unordered ≡ a.unordered
    unordered_stays a most = go a.unordered refl
      where
        go : (b : Bool) → a.unordered ≡ b → (after_read_in b a most).unordered ≡ a.unordered
        go true is = refl
        go false is = refl

-- ---- what a `next` answers

-- where as many bytes were read as there are up to a known final size, all were
all_at_end : (w : Wrote) (r : Reads) (h : RecvHalf) → IsRecvHalf w r h → is_read_up h.final (bytes_read_of h.arrived) ≡ true → IsSome h.final × IsAllRead w r
all_at_end w r h i e = go h.final refl e
  where
    go : (o : Option ℕ) → h.final ≡ o → is_read_up o (bytes_read_of h.arrived) ≡ true → IsSome h.final × IsAllRead w r
    go None is f = cc
    go (Some size) is f =
        let same : size ≡ bytes_read_of h.arrived = eqb-true size (bytes_read_of h.arrived) f in
        let all : length (bytes_of r.chunks) ≡ length w.bytes = sym i.counted ∙ (sym same ∙ i.final size is) in
        (ap is_some is, all_read w.bytes r.chunks i.reads.slices i.reads.once all)

-- a half that isn't stopped answers what was written
pub half_next : (w : Wrote) (r : Reads) (h : RecvHalf) (most : ℕ) → h.stopped ≡ false → IsRecvHalf w r h → IsNextOf w r (next_of h most)
half_next w r h most goes i = by_reset h.reset refl
  where
    by_end : (b : Bool) → h.reset ≡ None → is_read_up h.final (bytes_read_of h.arrived) ≡ b → IsNextOf w r (at_end b)
    by_end true free e = let x = all_at_end w r h i e in (i.ended goes free x.0, x.1)
    by_end false free e = tt

    by_chunk : (o : Option Chunk) → h.reset ≡ None → given_by h.arrived most ≡ o → IsNextOf w r (chunk_or_end o h)
    by_chunk (Some c) free e = chunk_next w r h most c i e
    by_chunk None free e = by_end (is_read_up h.final (bytes_read_of h.arrived)) free refl

    by_reset : (o : Option ℕ) → h.reset ≡ o → IsNextOf w r (next_unless o h most)
    by_reset (Some code) e = i.reset code e
    by_reset None e = by_chunk (given_by h.arrived most) e refl

-- a chunk is answered where it was given
pub next_gave : (h : RecvHalf) (most : ℕ) (c : Chunk) → next_of h most ≡ Ok (Some c) → given_by h.arrived most ≡ Some c
next_gave h most c e = by_reset h.reset e
  where
    by_end : (b : Bool) → at_end b ≡ Ok (Some c) → given_by h.arrived most ≡ Some c
    by_end true f = cc
    by_end false f = cc

    by_chunk : (o : Option Chunk) → given_by h.arrived most ≡ o → chunk_or_end o h ≡ Ok (Some c) → given_by h.arrived most ≡ Some c
    by_chunk (Some d) is f = is ∙ (let same : d ≡ c = cc in ap (λ x. Some x) same)
    by_chunk None is f = by_end (is_read_up h.final (bytes_read_of h.arrived)) f

    by_reset : (o : Option ℕ) → next_unless o h most ≡ Ok (Some c) → given_by h.arrived most ≡ Some c
    by_reset (Some code) f = cc
    by_reset None f = by_chunk (given_by h.arrived most) refl f
