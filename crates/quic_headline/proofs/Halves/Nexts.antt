-- A read answers each `next` that it is asked for, and is refused for its order exactly where reads
-- of its stream before it were made in no order: at each place of an honest run.
use Rattle.std.proofs.Common.{◌≡◌, ℕ, ◌≤◌, ◌<◌, min, Bool, true, false, not, ◌&&◌, List, [], ◌∷◌, length, take, Option, Some, None, Ok, Err, refl, sym, ap, ◌∙◌, subst, inl, inr, arith, cond}
use Rattle.std.specs.Prelude.{◌==◌, if◌then◌else◌}
use Rattle.std.proofs.lemmas.List.{length-take}
use Rattle.quic_wire_core.specs.StreamId.{other_side}
use Rattle.quic_wire.specs.Value.{StreamValue, stream}
use Rattle.quic_assembler.specs.declared.assembler.Chunk.{Chunk}
use Rattle.quic_assembler.specs.Arrived.{Arrived, AreApart, IsLawful, given, first_given, given_in}
use Rattle.quic_sets.specs.Parts.{Part, start}
use Rattle.quic_streams_parts.specs.declared.answers.ReadableError.TheVariants as readable_errors
use Rattle.quic_streams_parts.specs.RecvHalf.{RecvHalf, readable, at_end, is_read_up, chunk_or_end, next_unless, next_of}
use Rattle.quic_streams_state.specs.declared.state.StreamsState.{StreamsState}
use Rattle.quic_streams_state.specs.State.{receiving_half}
use Rattle.quic_streams_state.specs.Reading.{Told, told_bytes, told_end, told_reset, read_answer, next_at, told_by, after_next, after_read_begun}
use Rattle.quic_streams_laws.specs.Written.{Wrote}
use Rattle.quic_streams_laws.specs.Reads.{Reads, IsRecvHalf, read_next_by}
use Rattle.quic_streams_laws.specs.Content.{HoldsRead, IsNextAnswer}
use Rattle.quic_streams_laws.specs.ContentLaws.{read_at}
use Rattle.quic_machine.specs.declared.run.Call.TheVariants as calls
use Rattle.quic_machine.specs.declared.run.Answer.TheVariants as answers
use Rattle.quic_machine.specs.declared.run.ReadCall.{ReadCall}
use Rattle.quic_machine.specs.Calls.{AreNexts}
use Rattle.quic_machine.specs.StreamCalls.{IsRead}
use Rattle.quic_machine.specs.Machine.{World}
use Rattle.quic_headline.specs.Runs.{Run, Next, AreServed, until, only_in_order}
use Rattle.quic_headline.specs.Headline.{IsHonest, IsRun, IsAt}
use Rattle.quic_headline.specs.Chunks.{FitsNext, AnswersEach, ReadsAnswer}
use Rattle.quic_headline.proofs.Places.Parties.{Party, came_to}
use Rattle.quic_headline.proofs.Places.Groups.{Way, And}
use Rattle.quic_headline.proofs.Places.Placed.{party_at, Placed, placed, answered}
use Rattle.quic_headline.proofs.Places.Everything as everything
use Rattle.quic_headline.proofs.Places.Theorems.{ready}
use Rattle.quic_headline.proofs.Halves.Ready.{Ready}
use Rattle.quic_headline.proofs.Halves.Wrote.{wrote}
use Rattle.quic_headline.proofs.Halves.Ghosts.{read}
use Rattle.quic_headline.proofs.Halves.Reading.{IsReading, begun_reads, begins, next_on}
use Rattle.quic_headline.proofs.Halves.ReadGroup.{WasIn, ReadsHold}

-- ---- how many bytes a `next` gives

-- a chunk fits what was asked for
abbrev FitsChunk : ℕ → Option Chunk → Type 0
FitsChunk most None = Unit {0}
FitsChunk most (Some chunk) = (min most 1 ≤ length chunk.bytes) × (length chunk.bytes ≤ most)

-- the first bytes of a part that has one do
part_fits : (most : ℕ) (p : Part) → 0 < length p.1 → (min most 1 ≤ length (take most p.1)) × (length (take most p.1) ≤ most)
part_fits most p some = let many : length (take most p.1) ≡ min most (length p.1) = length-take most p.1 in (omega (arith, many, some), omega (arith, many, some))

first_fits : (most low : ℕ) (ps : List Part) → AreApart low ps → FitsChunk most (first_given ps most)
first_fits most low [] apart = tt
first_fits most low (p ∷ ps) apart = part_fits most p apart.1

next_fits : (most low n : ℕ) (ps : List Part) → AreApart low ps → FitsChunk most (given ps n most)
next_fits most low n [] apart = tt
next_fits most low n (p ∷ ps) apart = go (start p == n)
  where
    go : (b : Bool) → FitsChunk most (cond b (Some (record { offset = n; bytes = take most p.1 })) None)
    go true = part_fits most p apart.1
    go false = tt

given_fits : (unordered : Bool) (a : Arrived) (most : ℕ) → IsLawful a → FitsChunk most (given_in unordered a most)
given_fits true a most lawful = first_fits most a.read a.parts lawful.apart
given_fits false a most lawful = next_fits most a.read a.read a.parts lawful.apart

half_fits : (h : RecvHalf) (most : ℕ) → IsLawful h.arrived → FitsNext most (next_of h most)
half_fits h most lawful = by_reset h.reset
  where
    by_end : (b : Bool) → FitsNext most (at_end b)
    by_end true = tt
    by_end false = tt

    by_chunk : (o : Option Chunk) → FitsChunk most o → FitsNext most (chunk_or_end o h)
    by_chunk (Some chunk) fits = fits
    by_chunk None fits = by_end (is_read_up h.final _)

    by_reset : (o : Option ℕ) → FitsNext most (next_unless o h most)
    by_reset (Some code) = tt
    by_reset None = by_chunk (given_in h.arrived.unordered h.arrived most) (given_fits h.arrived.unordered h.arrived most lawful)

-- ---- each `next`

module _ (done : ℕ → Wrote) (taken : StreamValue → Type 0) (id : ℕ) where
  answer_fits : (told : Told) (s : StreamsState) (r : ℕ → Reads) (most : ℕ) (answer : Next) → IsNextAnswer told s id most answer → IsReading done taken id told s r → FitsNext most answer
  answer_fits told s r most answer (inr lacks) i = subst (FitsNext most) (sym lacks) tt
  answer_fits told_end s r most answer (inl is) i = subst (FitsNext most) (sym is) tt
  answer_fits (told_reset code) s r most answer (inl is) i = subst (FitsNext most) (sym is) tt
  answer_fits told_bytes s r most answer (inl is) i =
      let half : IsRecvHalf (done id) (r id) i.may.half = read_at done r s id i.may.half i.may.there i.holds in
      subst (FitsNext most) (sym (is ∙ ap (λ (o : Option RecvHalf). next_at told_bytes o most) i.may.there)) (half_fits i.may.half most half.lawful)

  answers_each : (told : Told) (s : StreamsState) (r : ℕ → Reads) (mosts : List ℕ) (said : List Next) → AreNexts told s id mosts said → IsReading done taken id told s r → AnswersEach mosts said
  answers_each told s r [] [] a i = tt
  answers_each told s r [] (answer ∷ said) a i = absurd a
  answers_each told s r (most ∷ mosts) [] a i = absurd a
  answers_each told s r (most ∷ mosts) (answer ∷ said) a i =
      (answer_fits told s r most answer a.0 i, answers_each (told_by answer told) (after_next told answer s id most) (read_next_by answer id r) mosts said a.1 (next_on done taken id told s r most answer a.0 i))

-- ---- in which order

-- a read that may be made in order, of a stream whose reads before were in no order
in_order : (done : ℕ → Wrote) (r : ℕ → Reads) (s : StreamsState) (id : ℕ) (ordered : Bool) → read_answer s id ordered ≡ Ok tt → ordered ≡ true → HoldsRead done r s → (r id).unordered ≡ false
in_order done r s id ordered is order i = go (receiving_half s id) refl is
  where
    plain : (x : Unit {0}) (stopped b unordered : Bool) → b ≡ true → (if stopped then Err readable_errors.ClosedStream else (if b && unordered then Err readable_errors.IllegalOrderedRead else Ok x)) ≡ Ok x → unordered ≡ false
    plain x true b unordered o e = cc
    plain x false true true o e = cc
    plain x false true false o e = refl
    plain x false false unordered o e = cc

    go : (o : Option RecvHalf) → receiving_half s id ≡ o → readable o ordered ≡ Ok tt → (r id).unordered ≡ false
    go None there e = cc
    go (Some h) there e = let half : IsRecvHalf (done id) (r id) h = read_at done r s id h there i in sym half.ordered ∙ plain tt h.stopped ordered h.arrived.unordered order e

-- one that is refused for its order
out_of_order : (done : ℕ → Wrote) (r : ℕ → Reads) (s : StreamsState) (id : ℕ) (ordered : Bool) → read_answer s id ordered ≡ Err readable_errors.IllegalOrderedRead → HoldsRead done r s → (ordered ≡ true) × ((r id).unordered ≡ true)
out_of_order done r s id ordered is i = go (receiving_half s id) refl is
  where
    plain : (x : Unit {0}) (stopped b unordered : Bool) → (if stopped then Err readable_errors.ClosedStream else (if b && unordered then Err readable_errors.IllegalOrderedRead else Ok x)) ≡ Err readable_errors.IllegalOrderedRead → (b ≡ true) × (unordered ≡ true)
    plain x true b unordered e = cc
    plain x false true true e = (refl, refl)
    plain x false true false e = cc
    plain x false false unordered e = cc

    go : (o : Option RecvHalf) → receiving_half s id ≡ o → readable o ordered ≡ Err readable_errors.IllegalOrderedRead → (ordered ≡ true) × ((r id).unordered ≡ true)
    go None there e = cc
    go (Some h) there e = let half : IsRecvHalf (done id) (r id) h = read_at done r s id h there i in let both = plain tt h.stopped ordered h.arrived.unordered e in (both.0, sym half.ordered ∙ both.1)

not_false : (b : Bool) → not b ≡ false → b ≡ true
not_false true e = refl
not_false false e = cc

not_true : (b : Bool) → not b ≡ true → b ≡ false
not_true true e = cc
not_true false e = refl

-- ---- the clause

-- what is known of packets and streams, and what is read
abbrev Known : Way
Known = And (everything.All Ready ready) ReadsHold

pub reads_answer : (r : Run) (end : World) → IsHonest r → IsRun r end → ReadsAnswer r
reads_answer r end honest run = record { each = each; in_order = ordered; refused = refused }
  where
    place : (side : _) (i : ℕ) → AreServed r i → Placed Known r end side i
    place = placed Known (everything.all_read Ready ready) r end honest run

    each : (side : _) (i : ℕ) (rd : ReadCall) (said : List Next) → AreServed r i → IsAt r i side (calls.Read rd) (answers.Read (Ok said)) → AnswersEach rd.nexts.items said
    each side i rd said served at =
        let p = place side i served in
        let x : Party = party_at r i p.world side p.sents in
        let y : Party = party_at r i p.world (other_side side) p.theirs in
        let holds : ReadsHold y x = p.takes.1 in
        let is : IsRead x.end.streams rd.id rd.ordered rd.nexts.items (answers.Read (Ok said)) = answered r p.world end i side (calls.Read rd) (answers.Read (Ok said)) p.goes_on at in
        answers_each (wrote y.told) (λ f. WasIn (came_to x y).took (stream f)) rd.id told_bytes (after_read_begun x.end.streams rd.id rd.ordered) (begun_reads rd.ordered rd.id (read x.told)) rd.nexts.items said is.1
        (begins (wrote y.told) (λ f. WasIn (came_to x y).took (stream f)) rd.id x.end.streams rd.ordered (read x.told) is.0 holds.reads holds.brought.taken)

    ordered : (side : _) (i : ℕ) (rd : ReadCall) (said : List Next) → AreServed r i → IsAt r i side (calls.Read rd) (answers.Read (Ok said)) → rd.ordered ≡ true → only_in_order rd.id (until r side i) ≡ true
    ordered side i rd said served at order =
        let p = place side i served in
        let x : Party = party_at r i p.world side p.sents in
        let y : Party = party_at r i p.world (other_side side) p.theirs in
        let holds : ReadsHold y x = p.takes.1 in
        let is : IsRead x.end.streams rd.id rd.ordered rd.nexts.items (answers.Read (Ok said)) = answered r p.world end i side (calls.Read rd) (answers.Read (Ok said)) p.goes_on at in
        not_false (only_in_order rd.id x.told) (in_order (wrote y.told) (read x.told) x.end.streams rd.id rd.ordered is.0 order holds.reads)

    refused : (side : _) (i : ℕ) (rd : ReadCall) → AreServed r i → IsAt r i side (calls.Read rd) (answers.Read (Err readable_errors.IllegalOrderedRead)) → (rd.ordered ≡ true) × (only_in_order rd.id (until r side i) ≡ false)
    refused side i rd served at = go (answered r p.world end i side (calls.Read rd) (answers.Read (Err readable_errors.IllegalOrderedRead)) p.goes_on at)
      where
        p : Placed Known r end side i
        p = place side i served

        x : Party
        x = party_at r i p.world side p.sents

        y : Party
        y = party_at r i p.world (other_side side) p.theirs

        go : IsRead x.end.streams rd.id rd.ordered rd.nexts.items (answers.Read (Err readable_errors.IllegalOrderedRead)) → (rd.ordered ≡ true) × (only_in_order rd.id (until r side i) ≡ false)
        go (inl is) = let both = out_of_order (wrote y.told) (read x.told) x.end.streams rd.id rd.ordered is p.takes.1.reads in (both.0, not_true (only_in_order rd.id x.told) both.1)
        go (inr lacks) = cc
