-- Where the reset of a stream came, no read of it waits for more, and a call that asks for it is
-- told of it: at each place of an honest run.
use Rattle.std.proofs.Common.{◌≡◌, ℕ, Bool, true, false, List, [], ◌∷◌, Option, Some, None, Result, Ok, Err, refl, sym, ap, ◌∙◌, subst, ◌⊎◌, inl, inr}
use Rattle.std.specs.Prelude.{◌&&◌, if◌then◌else◌}
use Rattle.std.specs.Option.{is_some}
use Rattle.std.proofs.lemmas.Bool.{cases_Bool, both_ways}
use Rattle.quic_wire_core.specs.declared.stream_id.Side.{Side}
use Rattle.quic_wire_core.specs.StreamId.{other_side}
use Rattle.quic_streams_parts.specs.declared.answers.ReadError.TheVariants as read_errors
use Rattle.quic_streams_parts.specs.declared.answers.ReadableError.TheVariants as readable_errors
use Rattle.quic_streams_parts.specs.declared.answers.ClosedStream.{ClosedStream}
use Rattle.quic_streams_parts.specs.RecvHalf.{RecvHalf, readable, begun, next_unless}
use Rattle.quic_streams_state.specs.declared.state.StreamsState.{StreamsState}
use Rattle.quic_streams_state.specs.State.{receiving_half, with_recv}
use Rattle.quic_streams_state.specs.Reading.{Told, told_bytes, told_end, told_reset, read_answer, after_read_begun, next_at, next_answer, told_by, read_by, after_next, reset_of, received_reset_answer}
use Rattle.quic_streams_laws.specs.KeepingLaws.{at-half, live_receives}
use Rattle.quic_streams_laws.specs.Content.{IsOpenHalf}
use Rattle.quic_streams_laws.specs.Written.{Wrote}
use Rattle.quic_machine.specs.declared.run.Call.TheVariants as calls
use Rattle.quic_machine.specs.declared.run.Answer.TheVariants as answers
use Rattle.quic_machine.specs.declared.run.ReadCall.{ReadCall}
use Rattle.quic_machine.specs.Calls.{AreNexts}
use Rattle.quic_machine.specs.StreamCalls.{IsRead}
use Rattle.quic_machine.specs.Machine.{World}
use Rattle.quic_headline.specs.Runs.{Run, Next, Packet, Intake, In, AreServed}
use Rattle.quic_headline.specs.Observer.{took}
use Rattle.quic_headline.specs.Headline.{IsHonest, IsRun, IsAt}
use Rattle.quic_headline.specs.Credit.{was_reset}
use Rattle.quic_headline.specs.Resets.{ResetsAreHeeded}
use Rattle.quic_headline.proofs.Places.Parties.{Party, came_to}
use Rattle.quic_headline.proofs.Places.Groups.{And}
use Rattle.quic_headline.proofs.Places.Placed.{party_at, Placed, placed, answered}
use Rattle.quic_headline.proofs.Places.Openings.{took_is}
use Rattle.quic_headline.proofs.Halves.Wrote.{wrote}
use Rattle.quic_headline.proofs.Halves.ReadGroup.{WasIn}
use Rattle.quic_headline.proofs.Unread.Clause.{Base, Wide, wide}
use Rattle.quic_headline.proofs.Unread.Consumed.{Consumes, half_told}
use Rattle.quic_headline.proofs.Unread.Least.{was_cut}
use Rattle.quic_headline.proofs.Unread.Walk.{Of}
use Rattle.quic_headline.proofs.Credit.Cases.{begun_to}

-- ---- a half that was reset

-- the half of a stream was reset
record IsCut (s : StreamsState) (id : ℕ) : Type 0 where
  half : RecvHalf
  there : receiving_half s id ≡ Some half
  reset : is_some half.reset ≡ true

-- whether there is a half, and it was
abbrev is_cut : Option RecvHalf → Bool
is_cut None = false
is_cut (Some h) = is_some h.reset

-- it stays so as a read begins
cut_begun : (s : StreamsState) (id : ℕ) (ordered : Bool) → IsCut s id → IsCut (after_read_begun s id ordered) id
cut_begun s id ordered c = begun_to (λ (t : StreamsState). IsCut t id) s id ordered c (λ h there. record {
  half = begun h false;
  there = live_receives (with_recv s id (begun h false)) id (begun h false) (at-half s.side s.receiving.halves id (begun h false));
  reset = ap is_cut (sym there ∙ c.there) ∙ c.reset;
})

-- a `next` tells the reset of one
cut_tells : (s : StreamsState) (id most : ℕ) → IsCut s id → (code : ℕ) × (next_answer told_bytes s id most ≡ Err (read_errors.Reset code))
cut_tells s id most c = go c.half.reset refl c.reset
  where
    go : (o : Option ℕ) → c.half.reset ≡ o → is_some o ≡ true → (code : ℕ) × (next_answer told_bytes s id most ≡ Err (read_errors.Reset code))
    go None is some = cc
    go (Some code) is some = (code, ap (λ (o : Option RecvHalf). next_at told_bytes o most) c.there ∙ ap (λ (o : Option ℕ). next_unless o c.half most) is)

-- what a `next` that finds no memory leaves
lacking_leaves : (s : StreamsState) (id most : ℕ) → after_next told_bytes (Err read_errors.Memory) s id most ≡ s
lacking_leaves s id most = go (receiving_half s id)
  where
    go : (o : Option RecvHalf) → read_by (Err read_errors.Memory) o s id most ≡ s
    go None = refl
    go (Some h) = refl

-- so no `next` of a read of it waits for more
never_waits : (told : Told) (s : StreamsState) (id : ℕ) (mosts : List ℕ) (said : List Next) → AreNexts told s id mosts said → (told ≡ told_bytes → IsCut s id) → In (Err read_errors.Blocked) said → ⊥
never_waits told s id [] [] a cut i = absurd i
never_waits told s id [] (x ∷ said) a cut i = absurd a
never_waits told s id (most ∷ mosts) [] a cut i = absurd a
never_waits told s id (most ∷ mosts) (x ∷ said) a cut (inl is) = now told a.0 cut
  where
    now : (told : Told) → (x ≡ next_answer told s id most) ⊎ (x ≡ Err read_errors.Memory) → (told ≡ told_bytes → IsCut s id) → ⊥
    now told (inr lacks) c = (let clash : ◌≡◌ {A = Next} (Err read_errors.Blocked) (Err read_errors.Memory) = is ∙ lacks in cc)
    now told_end (inl so) c = (let clash : ◌≡◌ {A = Next} (Err read_errors.Blocked) (Ok None) = is ∙ so in cc)
    now (told_reset code) (inl so) c = (let clash : ◌≡◌ {A = Next} (Err read_errors.Blocked) (Err (read_errors.Reset code)) = is ∙ so in cc)
    now told_bytes (inl so) c =
        let tells = cut_tells s id most (c refl) in
        let clash : ◌≡◌ {A = Next} (Err read_errors.Blocked) (Err (read_errors.Reset tells.0)) = is ∙ (so ∙ tells.1) in
        cc
never_waits told s id (most ∷ mosts) (x ∷ said) a cut (inr i) = never_waits (told_by x told) (after_next told x s id most) id mosts said a.1 (still told a.0 cut) i
  where
    still : (told : Told) → (x ≡ next_answer told s id most) ⊎ (x ≡ Err read_errors.Memory) → (told ≡ told_bytes → IsCut s id) → told_by x told ≡ told_bytes → IsCut (after_next told x s id most) id
    still told_bytes (inr lacks) c e = subst (λ (y : Next). IsCut (after_next told_bytes y s id most) id) (sym lacks) (subst (λ (t : StreamsState). IsCut t id) (sym (lacking_leaves s id most)) (c refl))
    still told_bytes (inl so) c e =
        let tells = cut_tells s id most (c refl) in
        let clash : told_reset tells.0 ≡ told_bytes = ap (λ (y : Next). told_by y told_bytes) (sym (so ∙ tells.1)) ∙ e in
        cc
    still told_end (inr lacks) c e = (let clash : told_end ≡ told_bytes = ap (λ (y : Next). told_by y told_end) (sym lacks) ∙ e in cc)
    still told_end (inl so) c e = (let clash : told_end ≡ told_bytes = ap (λ (y : Next). told_by y told_end) (sym so) ∙ e in cc)
    still (told_reset code) (inr lacks) c e = (let clash : told_reset code ≡ told_bytes = ap (λ (y : Next). told_by y (told_reset code)) (sym lacks) ∙ e in cc)
    still (told_reset code) (inl so) c e = (let clash : told_reset code ≡ told_bytes = ap (λ (y : Next). told_by y (told_reset code)) (sym so) ∙ e in cc)

-- ---- a half that is read

-- a stream that may be read has a half that isn't stopped
may_read : (s : StreamsState) (id : ℕ) (ordered : Bool) → read_answer s id ordered ≡ Ok tt → IsOpenHalf s id
may_read s id ordered is = go (receiving_half s id) refl is
  where
    plain : (x : Unit {0}) (stopped illegal : Bool) → (if stopped then Err readable_errors.ClosedStream else (if illegal then Err readable_errors.IllegalOrderedRead else Ok x)) ≡ Ok x → stopped ≡ false
    plain x true illegal e = cc
    plain x false illegal e = refl

    go : (o : Option RecvHalf) → receiving_half s id ≡ o → readable o ordered ≡ Ok tt → IsOpenHalf s id
    go None there e = cc
    go (Some h) there e = record { half = h; there = there; goes = plain tt h.stopped (ordered && h.arrived.unordered) e }

-- one of which no reset is told has a half that isn't stopped, and wasn't reset
not_told : (s : StreamsState) (id : ℕ) → received_reset_answer s id ≡ Ok None → (h : RecvHalf) × (receiving_half s id ≡ Some h) × (h.stopped ≡ false) × (h.reset ≡ None)
not_told s id is = go (receiving_half s id) refl is
  where
    plain : (closed : ClosedStream) (stopped : Bool) (o : Option ℕ) → (if stopped then Err closed else Ok o) ≡ Ok None → (stopped ≡ false) × (o ≡ None)
    plain closed true o e = cc
    plain closed false None e = (refl, refl)
    plain closed false (Some code) e = cc

    go : (o : Option RecvHalf) → receiving_half s id ≡ o → reset_of o ≡ Ok None → (h : RecvHalf) × (receiving_half s id ≡ Some h) × (h.stopped ≡ false) × (h.reset ≡ None)
    go None there e = cc
    go (Some h) there e = let both = plain (record {}) h.stopped h.reset e in (h, there, both.0, both.1)

-- of a half that isn't stopped, and whose reset came, it was
cut_there : (done : ℕ → Wrote) (packets : List Packet) (s : StreamsState) (id : ℕ) (h : RecvHalf) → Of (Consumes done (WasIn packets)) s → receiving_half s id ≡ Some h → h.stopped ≡ false → was_reset id packets ≡ true → is_some h.reset ≡ true
cut_there done packets s id h known there goes came =
    let f = was_cut id packets came in
    elim ((half_told done (WasIn packets) s id h there known).reset f.0 f.1 f.2) [ inl halted ↦ absurd (both_ways h.stopped goes halted) | inr cut ↦ cut ]

-- ---- the clause

pub resets_are_heeded : (r : Run) (end : World) → IsHonest r → IsRun r end → ResetsAreHeeded r
resets_are_heeded r end honest run = record { read = reads; asked = asks }
  where
    place : (side : Side) (i : ℕ) → AreServed r i → Placed (And Base Wide) r end side i
    place = placed (And Base Wide) wide r end honest run

    none_came : (side : Side) (i id : ℕ) (served : AreServed r i) → (was_reset id (came_to (party_at r i (place side i served).world side (place side i served).sents) (party_at r i (place side i served).world (other_side side) (place side i served).theirs)).took ≡ true → ⊥)
        → was_reset id (took r side i) ≡ false
    none_came side i id served never =
        let p = place side i served in
        let same = ap (λ (k : Intake). was_reset id k.took) (took_is r honest p.world i side p.sents p.theirs) in
        elim (cases_Bool (was_reset id (took r side i))) [ inl came ↦ absurd (never (sym same ∙ came)) | inr none ↦ none ]

    reads : (side : Side) (i : ℕ) (rd : ReadCall) (said : List Next) → AreServed r i → IsAt r i side (calls.Read rd) (answers.Read (Ok said)) → In (Err read_errors.Blocked) said → was_reset rd.id (took r side i) ≡ false
    reads side i rd said served at waits =
        let p = place side i served in
        let x : Party = party_at r i p.world side p.sents in
        let y : Party = party_at r i p.world (other_side side) p.theirs in
        let is : IsRead x.end.streams rd.id rd.ordered rd.nexts.items (answers.Read (Ok said)) = answered r p.world end i side (calls.Read rd) (answers.Read (Ok said)) p.goes_on at in
        let half = may_read x.end.streams rd.id rd.ordered is.0 in
        none_came side i rd.id served (λ came.
        never_waits told_bytes (after_read_begun x.end.streams rd.id rd.ordered) rd.id rd.nexts.items said is.1
        (λ e. cut_begun x.end.streams rd.id rd.ordered (record { half = half.half; there = half.there; reset = cut_there (wrote y.told) (came_to x y).took x.end.streams rd.id half.half p.takes.1.1.1.1.1.1.known half.there half.goes came })) waits)

    said_so : (a : Result (Option ℕ) ClosedStream) → answers.ReceivedReset (Ok None) ≡ answers.ReceivedReset a → a ≡ Ok None
    said_so a e = cc

    asks : (side : Side) (i id : ℕ) → AreServed r i → IsAt r i side (calls.ReceivedReset id) (answers.ReceivedReset (Ok None)) → was_reset id (took r side i) ≡ false
    asks side i id served at =
        let p = place side i served in
        let x : Party = party_at r i p.world side p.sents in
        let y : Party = party_at r i p.world (other_side side) p.theirs in
        let is = answered r p.world end i side (calls.ReceivedReset id) (answers.ReceivedReset (Ok None)) p.goes_on at in
        let half = not_told x.end.streams id (said_so (received_reset_answer x.end.streams id) is) in
        none_came side i id served (λ came.
        let cut = cut_there (wrote y.told) (came_to x y).took x.end.streams id half.0 p.takes.1.1.1.1.1.1.known half.1 half.2 came in
        let clash : false ≡ true = sym (ap is_some half.3) ∙ cut in
        cc)
