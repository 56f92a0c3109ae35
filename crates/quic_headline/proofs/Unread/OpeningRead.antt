-- A stream of which an application read the end, or was told of the reset, has a receiving half
-- that is done: a group over what is written (RFC 9000, section 3.2).
use Rattle.std.proofs.Common.{◌≡◌, ℕ, Bool, true, false, ◌||◌, ◌==◌, List, [], ◌∷◌, ◌++◌, Option, Some, None, Result, Ok, Err, refl, sym, ap, ◌∙◌, subst, ◌⊎◌, inl, inr}
use Rattle.std.specs.Prelude.{if◌then◌else◌}
use Rattle.std.proofs.lemmas.Bool.{or_cases, eqb-true}
use Rattle.quic_streams_parts.specs.declared.answers.ReadError.TheVariants as read_errors
use Rattle.quic_streams_parts.specs.declared.answers.ClosedStream.{ClosedStream}
use Rattle.quic_streams_parts.specs.Table.{at}
use Rattle.quic_streams_parts.specs.RecvHalf.{RecvHalf, new_recv_half, next_of}
use Rattle.quic_retransmits.specs.Retransmits.{Retransmits}
use Rattle.quic_streams_state.specs.declared.state.StreamsState.{StreamsState}
use Rattle.quic_streams_state.specs.State.{first_window, receiving_half, receiving_status, recv_done}
use Rattle.quic_streams_state.specs.Reading.{Told, told_bytes, told_end, told_reset, told_by, next_at, read_by, after_next, after_read_begun, reset_of, reset_told, received_reset_answer, after_received_reset}
use Rattle.quic_streams_laws.specs.Content.{IsNextAnswer}
use Rattle.quic_streams_laws.specs.LimitedLaws.{WasReceiving, in_use, unused, was_receiving}
use Rattle.quic_streams_laws.specs.Shape.{IsShaped}
use Rattle.quic_streams_laws.specs.ShapeLaws.{shape_any}
use Rattle.quic_machine.specs.declared.run.Call.{Call}
use Rattle.quic_machine.specs.declared.run.Call.TheVariants as calls
use Rattle.quic_machine.specs.declared.run.Answer.{Answer}
use Rattle.quic_machine.specs.declared.run.Answer.TheVariants as answers
use Rattle.quic_machine.specs.Policy.{Policy}
use Rattle.quic_machine.specs.End.{End}
use Rattle.quic_machine.specs.Calls.{AreNexts, after_nexts}
use Rattle.quic_machine.specs.Machine.{IsAnswer, after_call}
use Rattle.quic_machine.specs.CallCases.{is_delivery}
use Rattle.quic_headline.specs.Runs as runs
use Rattle.quic_headline.specs.Runs.{Next, Intake, nexts_by, nexts, tells_end, finished}
use Rattle.quic_headline.specs.Undone.{tells_reset, asked_by, asked}
use Rattle.quic_headline.proofs.Packets.Group.{meets}
use Rattle.quic_headline.proofs.Places.Told.{nexts_more, tells_append}
use Rattle.quic_headline.proofs.Places.Parties.{told_of, Party, called}
use Rattle.quic_headline.proofs.Places.Groups.{Way, Calls, Group}
use Rattle.quic_headline.proofs.Places.Coming.{by_coming}
use Rattle.quic_headline.proofs.Halves.Ghosts.{IsWriting}
use Rattle.quic_headline.proofs.Halves.ReadCalls.{IsKept, any_kept}
use Rattle.quic_headline.proofs.Unread.OpeningLasts.{lasts_call}
use Rattle.quic_headline.proofs.Unread.OpeningStatus.{IsDoneStatus, ReceivesNoMore, done_lasts, ended_is}
use Rattle.quic_streams_laws.specs.Keeping as changes

-- ---- a half is done

pub ends_here : (s : StreamsState) (id : ℕ) (h : RecvHalf) → IsShaped s → at s.receiving.halves.live id ≡ Some h → ReceivesNoMore id (recv_done s id)
ends_here s id h shape there = record {
  shape = shape_any (changes.ends_receiving id h) s there shape;
  each = λ j same. subst (λ (x : ℕ). IsDoneStatus (receiving_status (recv_done s id) x)) (sym same) (subst IsDoneStatus (sym (ended_is s id h shape there)) tt);
}

-- one that there is and that isn't as a new one is in use
ends_there : (s : StreamsState) (id : ℕ) (h : RecvHalf) → IsShaped s → receiving_half s id ≡ Some h → (h ≡ new_recv_half (first_window s.receiving) → ⊥) → ReceivesNoMore id (recv_done s id)
ends_there s id h shape is other = go (was_receiving s id h is)
  where
    go : WasReceiving s id h → ReceivesNoMore id (recv_done s id)
    go (in_use there) = ends_here s id h shape there
    go (unused there free same) = absurd (other same)

-- ---- a read

-- the end or the reset was told
abbrev IsOver : Told → Type 0
IsOver told_bytes = ⊥
IsOver told_end = Unit {0}
IsOver (told_reset code) = Unit {0}

next_done : (told : Told) (s : StreamsState) (id most : ℕ) (x : Next) → IsNextAnswer told s id most x → IsShaped s → (IsOver told → ReceivesNoMore id s) → IsOver (told_by x told) → ReceivesNoMore id (after_next told x s id most)
next_done told_end s id most x is shape j over = j tt
next_done (told_reset code) s id most x is shape j over = j tt
next_done told_bytes s id most (Ok (Some chunk)) is shape j over = absurd over
next_done told_bytes s id most (Err read_errors.Blocked) is shape j over = absurd over
next_done told_bytes s id most (Err read_errors.Memory) is shape j over = absurd over
next_done told_bytes s id most (Ok None) (inr is) shape j over = cc
next_done told_bytes s id most (Err (read_errors.Reset code)) (inr is) shape j over = cc
next_done told_bytes s id most (Ok None) (inl is) shape j over = go (receiving_half s id) refl is
  where
    fresh : (window : ℕ) → ◌≡◌ {A = Next} (Ok None) (next_of (new_recv_half window) most) → ⊥
    fresh window e = (let clash : ◌≡◌ {A = Next} (Ok None) (Err read_errors.Blocked) = e in cc)

    go : (o : Option RecvHalf) → receiving_half s id ≡ o → Ok None ≡ next_at told_bytes o most → ReceivesNoMore id (read_by (Ok None) o s id most)
    go None there e = cc
    go (Some h) there e = ends_there s id h shape there (λ new. fresh (first_window s.receiving) (e ∙ ap (λ (g : RecvHalf). next_of g most) new))
next_done told_bytes s id most (Err (read_errors.Reset code)) (inl is) shape j over = go (receiving_half s id) refl is
  where
    fresh : (window : ℕ) → ◌≡◌ {A = Next} (Err (read_errors.Reset code)) (next_of (new_recv_half window) most) → ⊥
    fresh window e = (let clash : ◌≡◌ {A = Next} (Err (read_errors.Reset code)) (Err read_errors.Blocked) = e in cc)

    go : (o : Option RecvHalf) → receiving_half s id ≡ o → Err (read_errors.Reset code) ≡ next_at told_bytes o most → ReceivesNoMore id (read_by (Err (read_errors.Reset code)) o s id most)
    go None there e = cc
    go (Some h) there e = ends_there s id h shape there (λ new. fresh (first_window s.receiving) (e ∙ ap (λ (g : RecvHalf). next_of g most) new))

-- these tell the end or the reset
abbrev Tells : List Next → Type 0
Tells said = (tells_end said ≡ true) ⊎ (tells_reset said ≡ true)

-- what was told before is told still, and what the first of several tells is told behind it
told_on : (told : Told) (x : Next) (said : List Next) → IsOver told ⊎ Tells (x ∷ said) → IsOver (told_by x told) ⊎ Tells said
told_on told (Ok (Some chunk)) said (inl over) = inl over
told_on told (Ok (Some chunk)) said (inr tells) = inr tells
told_on told (Ok None) said either = inl tt
told_on told (Err (read_errors.Reset code)) said either = inl tt
told_on told (Err read_errors.Blocked) said (inl over) = inl over
told_on told (Err read_errors.Blocked) said (inr tells) = inr tells
told_on told (Err read_errors.Memory) said (inl over) = inl over
told_on told (Err read_errors.Memory) said (inr tells) = inr tells

none_tells : Tells [] → ⊥
none_tells (inl is) = cc
none_tells (inr is) = cc

shape_known : IsKept IsShaped
shape_known = any_kept IsShaped shape_any

nexts_done : (told : Told) (s : StreamsState) (id : ℕ) (mosts : List ℕ) (said : List Next) → AreNexts told s id mosts said → IsShaped s → (IsOver told → ReceivesNoMore id s) → IsOver told ⊎ Tells said → ReceivesNoMore id (after_nexts told s id mosts said)
nexts_done told s id [] [] are shape j (inl over) = j over
nexts_done told s id [] [] are shape j (inr tells) = absurd (none_tells tells)
nexts_done told s id [] (x ∷ said) are shape j either = absurd are
nexts_done told s id (most ∷ mosts) [] are shape j either = absurd are
nexts_done told s id (most ∷ mosts) (x ∷ said) are shape j either =
    nexts_done (told_by x told) (after_next told x s id most) id mosts said are.1 (shape_known.next told s id most x are.0 shape) (next_done told s id most x are.0 shape j) (told_on told x said either)

-- ---- asking for a reset

asked_done : (s : StreamsState) (p : Retransmits) (q id : ℕ) → IsShaped s → asked_by id (calls.ReceivedReset q) (answers.ReceivedReset (received_reset_answer s q)) ≡ true → ReceivesNoMore id (after_received_reset s p q).state
asked_done s p q id shape heard = go (receiving_half s q) refl heard
  where
    closed : Result (Option ℕ) ClosedStream
    closed = Err (record {})

    fresh : (h : RecvHalf) (window code : ℕ) → h ≡ new_recv_half window → h.reset ≡ Some code → ⊥
    fresh h window code new e = (let none : None ≡ Some code = sym (ap (λ (g : RecvHalf). g.reset) new) ∙ e in cc)

    by_reset : (h : RecvHalf) → receiving_half s q ≡ Some h → (t : Bool) (r : Option ℕ) → h.reset ≡ r → asked_by id (calls.ReceivedReset q) (answers.ReceivedReset (if t then closed else Ok r)) ≡ true → ReceivesNoMore id (reset_told (if t then closed else Ok r) s p q).state
    by_reset h is true r e heard = cc
    by_reset h is false None e heard = cc
    by_reset h is false (Some code) e heard = subst (λ (x : ℕ). ReceivesNoMore x (recv_done s q)) (eqb-true q id heard) (ends_there s q h shape is (λ new. fresh h (first_window s.receiving) code new e))

    go : (o : Option RecvHalf) → receiving_half s q ≡ o → asked_by id (calls.ReceivedReset q) (answers.ReceivedReset (reset_of o)) ≡ true → ReceivesNoMore id (reset_told (reset_of o) s p q).state
    go None is heard = cc
    go (Some h) is heard = by_reset h is h.stopped h.reset refl heard

-- ---- a call

-- an application read the end of a stream, or was told of its reset
abbrev pub HasHeard : List runs.Told → ℕ → Type 0
HasHeard told id = (finished id told ≡ true) ⊎ (tells_reset (nexts id told) ≡ true) ⊎ (asked id told ≡ true)

-- by a call
abbrev HearsBy : ℕ → Call → Answer → Type 0
HearsBy id call a = Tells (nexts_by id call a) ⊎ (asked_by id call a ≡ true)

-- one call more
pub resets_append : (said more : List Next) → tells_reset (said ++ more) ≡ (tells_reset said || tells_reset more)
resets_append [] more = refl
resets_append (Ok chunk ∷ said) more = resets_append said more
resets_append (Err (read_errors.Reset code) ∷ said) more = refl
resets_append (Err read_errors.Blocked ∷ said) more = resets_append said more
resets_append (Err read_errors.Memory ∷ said) more = resets_append said more

pub asked_more : (id : ℕ) (ts : List runs.Told) (t : runs.Told) → asked id (ts ++ t ∷ []) ≡ (asked id ts || asked_by id t.call t.answer)
asked_more id [] t = or_none (asked_by id t.call t.answer)
  where
    or_none : (c : Bool) → (c || false) ≡ c
    or_none true = refl
    or_none false = refl
asked_more id (u ∷ ts) t = ap (λ (c : Bool). asked_by id u.call u.answer || c) (asked_more id ts t) ∙ or_assoc (asked_by id u.call u.answer) (asked id ts) (asked_by id t.call t.answer)
  where
    or_assoc : (a c d : Bool) → (a || (c || d)) ≡ ((a || c) || d)
    or_assoc true c d = refl
    or_assoc false c d = refl

heard_more : (id : ℕ) (ts : List runs.Told) (t : runs.Told) → HasHeard (ts ++ t ∷ []) id → HasHeard ts id ⊎ HearsBy id t.call t.answer
heard_more id ts t (inl end) = elim (or_cases (tells_end (nexts id ts)) (tells_end (nexts_by id t.call t.answer)) (sym (ap tells_end (nexts_more id ts t) ∙ tells_append (nexts id ts) (nexts_by id t.call t.answer)) ∙ end)) [
  | inl was ↦ inl (inl was)
  | inr now ↦ inr (inl (inl now))
]
heard_more id ts t (inr (inl reset)) = elim (or_cases (tells_reset (nexts id ts)) (tells_reset (nexts_by id t.call t.answer)) (sym (ap tells_reset (nexts_more id ts t) ∙ resets_append (nexts id ts) (nexts_by id t.call t.answer)) ∙ reset)) [
  | inl was ↦ inl (inr (inl was))
  | inr now ↦ inr (inl (inr now))
]
heard_more id ts t (inr (inr told)) = elim (or_cases (asked id ts) (asked_by id t.call t.answer) (sym (asked_more id ts t) ∙ told)) [
  | inl was ↦ inl (inr (inr was))
  | inr now ↦ inr (inr now)
]

-- a stream of which a call hears so is done behind it
call_done : (p : Policy) (e : End) (theirs : List (List ℕ)) (id : ℕ) (call : Call) (a : Answer) → IsShaped e.streams → IsAnswer p e theirs call a → HearsBy id call a → ReceivesNoMore id (after_call p e theirs call a).streams
call_done p e theirs id (calls.Read rd) (answers.Read (Ok said)) shape is heard = go (rd.id == id) refl heard
  where
    begun : StreamsState
    begun = after_read_begun e.streams rd.id rd.ordered

    go : (b : Bool) → (rd.id == id) ≡ b → Tells (if b then said else []) ⊎ (false ≡ true) → ReceivesNoMore id (after_nexts told_bytes begun rd.id rd.nexts.items said)
    go true same (inl tells) = subst (λ (x : ℕ). ReceivesNoMore x (after_nexts told_bytes begun rd.id rd.nexts.items said)) (eqb-true rd.id id same)
        (nexts_done told_bytes begun rd.id rd.nexts.items said is.1 (shape_known.begun e.streams rd.id rd.ordered shape) (λ over. absurd over) (inr tells))
    go false same (inl tells) = absurd (none_tells tells)
    go b same (inr never) = cc
call_done p e theirs id (calls.ReceivedReset q) a shape is heard = subst (λ (b : Answer). HearsBy id (calls.ReceivedReset q) b → ReceivesNoMore id (after_call p e theirs (calls.ReceivedReset q) b).streams) (sym is) go heard
  where
    go : HearsBy id (calls.ReceivedReset q) (answers.ReceivedReset (received_reset_answer e.streams q)) → ReceivesNoMore id (after_received_reset e.streams e.waiting.frames q).state
    go (inl tells) = absurd (none_tells tells)
    go (inr told) = asked_done e.streams e.waiting.frames q id shape told
call_done p e theirs id call a shape is (inl tells) = absurd (none_tells tells)
call_done p e theirs id call a shape is (inr never) = cc

-- none hears so of a delivery
delivery_hears : (id : ℕ) (call : Call) (a : Answer) → is_delivery call ≡ true → HearsBy id call a → ⊥
delivery_hears id (calls.Deliver delivery) a is (inl tells) = none_tells tells
delivery_hears id (calls.Deliver delivery) a is (inr never) = cc
delivery_hears id call a is heard = cc

-- ---- the group

-- each stream of which x heard so is done
pub record Heard (x y : Party) : Type 0 where
  pub each : (id : ℕ) → HasHeard x.told id → ReceivesNoMore id x.end.streams

module _ (B : Way) (w : IsWriting B) (x y : Party) (call : Call) (a : Answer) (c : Calls B x y call a) (i : Heard x y) where
  new_one : (id : ℕ) → HearsBy id call a → ReceivesNoMore id (called x y.given call a).end.streams
  new_one id heard = by_coming x y a c.joined c.served (meets y x (w.packets y x c.takes)) (λ (e : End) (j : Intake). ReceivesNoMore id e.streams) call c.answer (record {
    apart = λ apart. call_done x.policy x.end y.given id call a (w.written x y c.gives).shape c.answer heard;
    none = λ delivery is. absurd (delivery_hears id call a (ap is_delivery is) heard);
    comes = λ delivery is s among here. absurd (delivery_hears id call a (ap is_delivery is) heard);
  })

  heard_call : Heard (called x y.given call a) y
  heard_call = record {
    each = λ id heard. elim (heard_more id x.told (told_of call a x.end.closing.state) heard) [
      | inl was ↦ lasts_call B w x y call a c (ReceivesNoMore id) (done_lasts id) (i.each id was)
      | inr now ↦ new_one id now
    ];
  }

pub heard_group : (B : Way) → IsWriting B → Group B Heard
heard_group B w = record {
  first = λ x y m there back. record { each = λ id heard. absurd (none id heard) };
  writer = λ x y call a c i back. heard_call B w x y call a c i;
  reader = λ x y call a c there i. record { each = i.each };
  shows = λ x y here there b back i j. record { each = i.each };
}
  where
    none : (id : ℕ) → HasHeard [] id → ⊥
    none id (inl is) = cc
    none id (inr (inl is)) = cc
    none id (inr (inr is)) = cc
