-- How far a half that receives has come: that it is done, or that its final size is known, stays
-- so; a stream that was stopped is done once its size is known; and a frame that tells the size, or
-- how many streams may be opened, leaves that known (RFC 9000, sections 3.2, 4.5 and 4.6).
use Rattle.std.proofs.Common.{◌≡◌, ℕ, ◌+◌, ◌<◌, ◌≤◌, Bool, true, false, not, ◌&&◌, ◌||◌, Option, Some, None, refl, sym, ap, ◌∙◌, subst, ◌⊎◌, inl, inr, arith}
use Rattle.std.specs.Prelude.{nat_le, nat_lt, if◌then◌else◌}
use Rattle.std.specs.Option.{is_some}
use Rattle.std.proofs.lemmas.Bool.{cond_both, cases_eq, ltb-false, le-leb}
use Rattle.quic_wire_core.specs.declared.stream_id.Dir.{Dir}
use Rattle.quic_wire_core.specs.declared.stream_id.Dir.TheVariants.{Bi, Uni}
use Rattle.quic_wire_core.specs.StreamId.{dir_of, index_of}
use Rattle.quic_wire.specs.Value.{FrameValue, StreamValue, ResetStreamValue, stream, reset_stream, max_streams, path_challenge, path_response}
use Rattle.quic_streams_parts.specs.declared.answers.Breach.TheVariants.{FrameEncoding}
use Rattle.quic_streams_parts.specs.Table.{at}
use Rattle.quic_streams_parts.specs.Dirs.{Counts, of, with_of, is_own, is_two_way}
use Rattle.quic_streams_parts.specs.RecvHalf.{RecvHalf, begun, read_on, stopped_now, after_frame, after_reset_stream, end_of, final_after}
use Rattle.quic_streams_halves.specs.Halves.{Status, unknown, fresh, live, done, status_from, has_place, without_half, is_done}
use Rattle.quic_retransmits.specs.Retransmits.{Retransmits}
use Rattle.quic_streams_state.specs.declared.state.StreamsState.{StreamsState}
use Rattle.quic_streams_state.specs.State.{Streams, Opening, is_opened, receives_on, receiving_half, receiving_status, sending_status, with_recv, recv_done, done_if, seen_at}
use Rattle.quic_streams_state.specs.Limits.{most_streams}
use Rattle.quic_streams_state.specs.Opening.{opens, opened_by, with_remote, with_own_limit, max_streams_breach, after_max_streams, beyond, receiving_refusal}
use Rattle.quic_streams_state.specs.Reading.{stopped_if, stopped_at, after_stop}
use Rattle.quic_streams_state.specs.Taking.{part_for, readable_if, ended_if, renewed, refusal, reset_breach, after_stream, after_reset_frame}
use Rattle.quic_streams_laws.specs.Content.{AllReceiving}
use Rattle.quic_streams_laws.specs.ContentLaws.{by_next_answer}
use Rattle.quic_streams_laws.specs.Keeping.{KeepsBy, KeepsAll}
use Rattle.quic_streams_laws.specs.Keeping as changes
use Rattle.quic_streams_laws.specs.KeepingLaws.{by_option, at-half, by_accept, by_opened, by_read_begun, by_next, by_stop, by_received_reset, by_stream, by_reset_frame, by_value, stream_cases, reset_cases}
use Rattle.quic_streams_laws.specs.QuietLaws.{is_quiet}
use Rattle.quic_streams_laws.specs.Shape.{IsShaped}
use Rattle.quic_streams_laws.specs.StatusLaws.{GoesOn, change_one, each_kept, status_done}
use Rattle.quic_machine.specs.Tracking.{dir_named}
use Rattle.quic_machine.specs.End.{End}
use Rattle.quic_machine.specs.Receive.{take_frame}
use Rattle.quic_headline.proofs.Halves.QuietSteps.{frame_quiet}
use Rattle.quic_headline.proofs.Unread.Taken.{gone_there, no_fault, kept_before, unbroken_none}
use Rattle.quic_headline.proofs.Packets.Owing.{closes_fine}
use Rattle.quic_headline.proofs.Unread.OpeningLasts.{Lasts, lasts_any, Leaves}
use Rattle.quic_headline.proofs.Packets.Strays.{IsPath}

-- ---- facts of halves that receive

module _ (Q : ℕ → Status RecvHalf → Type 0) (g : GoesOn Q) where
  abbrev keeps : KeepsBy (λ r id old new. Q id (live old) → Q id (live new)) (λ s id old new. Unit {0}) (λ s id n old new. Unit {0}) (AllReceiving Q)
  keeps = each_kept Q g

  -- one that each change of a half keeps lasts
  pub lasts_each : ((id : ℕ) (h : RecvHalf) → Q id (live h) → Q id (live (begun h false))) → ((id most : ℕ) (h : RecvHalf) → Q id (live h) → Q id (live (read_on h most))) → ((id : ℕ) (h : RecvHalf) → Q id (live h) → Q id (live (stopped_now h)))
      → ((id : ℕ) (h : RecvHalf) (f : StreamValue) → Q id (live h) → Q id (live (after_frame h f))) → ((id code size : ℕ) (h : RecvHalf) → Q id (live h) → Q id (live (after_reset_stream h code size))) → Lasts (AllReceiving Q)
  lasts_each begins reads stops takes resets = record {
    calls = record {
      quiet = is_quiet (AllReceiving Q) keeps;
      begun = λ s id ordered i. by_read_begun (AllReceiving Q) keeps s id ordered (λ h e j. begins id h j) i;
      next = λ told s id most answer is i. by_next_answer (AllReceiving Q) told s id most answer is (by_next (AllReceiving Q) keeps told s id most (λ h c e f j. reads id most h j) i) i;
      stop = λ s p id code i. by_stop (AllReceiving Q) keeps s p id code (λ h e j. stops id h j) i;
      received_reset = λ s p id i. by_received_reset (AllReceiving Q) keeps s p id i;
    };
    accepts = λ dir s i. by_accept (AllReceiving Q) keeps dir s (λ may. may) i;
    frame = λ f e i. frame_quiet (AllReceiving Q) (is_quiet (AllReceiving Q) keeps) f e
        (λ h is. by_stream (AllReceiving Q) keeps e.streams e.waiting.frames h (λ part a u j. takes h.id part h j) i)
        (λ h is. by_reset_frame (AllReceiving Q) keeps e.streams e.waiting.frames h (λ part a u j. resets h.id h.code h.final_size part j) i)
        i;
  }

-- ---- a stream whose half is done

-- that of a stream is
abbrev pub IsDoneStatus : Status RecvHalf → Type 0
IsDoneStatus unknown = ⊥
IsDoneStatus fresh = ⊥
IsDoneStatus (live h) = ⊥
IsDoneStatus done = Unit {0}

abbrev pub IsDoneAt : ℕ → ℕ → Status RecvHalf → Type 0
IsDoneAt id j x = j ≡ id → IsDoneStatus x

abbrev pub ReceivesNoMore : ℕ → StreamsState → Type 0
ReceivesNoMore id s = AllReceiving (IsDoneAt id) s

done_goes : (id : ℕ) → GoesOn (IsDoneAt id)
done_goes id = record { opens = λ j i same. i same; comes = λ j window i same. i same; told = λ j h n i same. i same; ends = λ j h i same. tt }

pub done_lasts : (id : ℕ) → Lasts (ReceivesNoMore id)
done_lasts id = lasts_each (IsDoneAt id) (done_goes id) (λ j h i same. i same) (λ j most h i same. i same) (λ j h i same. i same) (λ j h f i same. i same) (λ j code size h i same. i same)

-- ---- a half is done

-- it is so right behind
gone_done : (b : Bool) (s : StreamsState) (id : ℕ) → receiving_status (done_if b id s) id ≡ receiving_status s id
gone_done true s id = refl
gone_done false s id = refl

pub ended_is : (s : StreamsState) (id : ℕ) (h : RecvHalf) → IsShaped s → at s.receiving.halves.live id ≡ Some h → receiving_status (recv_done s id) id ≡ done
ended_is s id h shape there =
    let used : has_place s.side s.receiving.halves.places id ≡ true = shape.receiving.placed id h there in
    gone_done (not (is_own s.side id) && (not (is_two_way (dir_of id)) || is_done (sending_status s id))) (record s { receiving = record s.receiving { halves = without_half s.receiving.halves id; gone = s.receiving.gone + seen_at (at s.receiving.halves.live id) } }) id
    ∙ status_done s.side (receives_on s.side id && is_opened s id) s.receiving.halves id shape.receiving.sorted (shape.receiving.allowed id used) used

-- whatever became of it before, what is said of all others and of one that is done holds behind
module _ (Q : ℕ → Status RecvHalf → Type 0) (g : GoesOn Q) (over : (id : ℕ) → Q id done) where
  abbrev But : ℕ → ℕ → Status RecvHalf → Type 0
  But id j x = (j ≡ id → ⊥) → Q j x

  but_goes : (id : ℕ) → GoesOn (But id)
  but_goes id = record { opens = λ j i ne. g.opens j (i ne); comes = λ j window i ne. g.comes j window (i ne); told = λ j h n i ne. g.told j h n (i ne); ends = λ j h i ne. g.ends j h (i ne) }

  pub ends_one : (s : StreamsState) (id : ℕ) (old new : RecvHalf) → receiving_half s id ≡ Some old → AllReceiving Q s → AllReceiving Q (recv_done (with_recv s id new) id)
  ends_one s id old new is i = record { shape = gone.shape; each = λ j. go j (cases_eq j id) }
    where
      changed : AllReceiving (But id) (with_recv s id new)
      changed = change_one Q (But id) g s id old new is (λ q x ne was but. was) (λ was but. absurd (but refl)) i

      there : at (with_recv s id new).receiving.halves.live id ≡ Some new
      there = at-half s.side s.receiving.halves id new

      gone : AllReceiving (But id) (recv_done (with_recv s id new) id)
      gone = each_kept (But id) (but_goes id) (changes.ends_receiving id new) (with_recv s id new) there changed

      go : (j : ℕ) → (j ≡ id) ⊎ (j ≡ id → ⊥) → Q j (receiving_status (recv_done (with_recv s id new) id) j)
      go j (inl same) = subst (λ (x : ℕ). Q x (receiving_status (recv_done (with_recv s id new) id) x)) (sym same) (subst (Q id) (sym (ended_is (with_recv s id new) id new changed.shape there)) (over id))
      go j (inr ne) = gone.each j ne

-- ---- a stream whose size is known

-- its half is done, or knows its final size
abbrev pub IsKnownStatus : Status RecvHalf → Type 0
IsKnownStatus unknown = ⊥
IsKnownStatus fresh = ⊥
IsKnownStatus (live h) = is_some h.final ≡ true
IsKnownStatus done = Unit {0}

abbrev pub IsKnownAt : ℕ → ℕ → Status RecvHalf → Type 0
IsKnownAt id j x = j ≡ id → IsKnownStatus x

abbrev pub SizeIsKnown : ℕ → StreamsState → Type 0
SizeIsKnown id s = AllReceiving (IsKnownAt id) s

known_goes : (id : ℕ) → GoesOn (IsKnownAt id)
known_goes id = record { opens = λ j i same. i same; comes = λ j window i same. absurd (i same); told = λ j h n i same. i same; ends = λ j h i same. tt }

-- a size that is known stays so
final_stays : (h : RecvHalf) (f : StreamValue) → is_some h.final ≡ true → is_some (final_after h (end_of f) f.fin) ≡ true
final_stays h f known = cond_both f.fin (Some (end_of f)) h.final (λ (o : Option ℕ). is_some o ≡ true) (λ e. refl) (λ e. known)

frame_known : (h : RecvHalf) (f : StreamValue) → is_some h.final ≡ true → is_some (after_frame h f).final ≡ true
frame_known h f known = cond_both h.stopped _ _ (λ (g : RecvHalf). is_some g.final ≡ true) (λ e. final_stays h f known) (λ e. cond_both (is_some h.reset) _ _ (λ (g : RecvHalf). is_some g.final ≡ true) (λ c. known) (λ c. final_stays h f known))

reset_known : (h : RecvHalf) (code size : ℕ) → is_some h.final ≡ true → is_some (after_reset_stream h code size).final ≡ true
reset_known h code size known = cond_both h.stopped _ _ (λ (g : RecvHalf). is_some g.final ≡ true) (λ e. refl) (λ e. cond_both (is_some h.reset) _ _ (λ (g : RecvHalf). is_some g.final ≡ true) (λ c. known) (λ c. refl))

pub known_lasts : (id : ℕ) → Lasts (SizeIsKnown id)
known_lasts id = lasts_each (IsKnownAt id) (known_goes id) (λ j h i same. i same) (λ j most h i same. i same) (λ j h i same. i same) (λ j h f i same. frame_known h f (i same)) (λ j code size h i same. reset_known h code size (i same))

-- ---- a half that was reset knows its size

abbrev pub IsResetKnown : ℕ → Status RecvHalf → Type 0
IsResetKnown j unknown = Unit {0}
IsResetKnown j fresh = Unit {0}
IsResetKnown j (live h) = is_some h.reset ≡ true → is_some h.final ≡ true
IsResetKnown j done = Unit {0}

abbrev pub ResetsAreKnown : StreamsState → Type 0
ResetsAreKnown s = AllReceiving IsResetKnown s

reset_goes : GoesOn IsResetKnown
reset_goes = record { opens = λ j i. tt; comes = λ j window i some. cc; told = λ j h n i. i; ends = λ j h i. tt }

frame_resets : (h : RecvHalf) (f : StreamValue) → (is_some h.reset ≡ true → is_some h.final ≡ true) → is_some (after_frame h f).reset ≡ true → is_some (after_frame h f).final ≡ true
frame_resets h f i = cond_both h.stopped _ _ (λ (g : RecvHalf). is_some g.reset ≡ true → is_some g.final ≡ true) (λ e some. final_stays h f (i some)) (λ e. cond_both (is_some h.reset) _ _ (λ (g : RecvHalf). is_some g.reset ≡ true → is_some g.final ≡ true) (λ c. i) (λ c some. final_stays h f (i some)))

reset_resets : (h : RecvHalf) (code size : ℕ) → (is_some h.reset ≡ true → is_some h.final ≡ true) → is_some (after_reset_stream h code size).reset ≡ true → is_some (after_reset_stream h code size).final ≡ true
reset_resets h code size i = cond_both h.stopped _ _ (λ (g : RecvHalf). is_some g.reset ≡ true → is_some g.final ≡ true) (λ e some. refl) (λ e. cond_both (is_some h.reset) _ _ (λ (g : RecvHalf). is_some g.reset ≡ true → is_some g.final ≡ true) (λ c. i) (λ c some. refl))

pub resets_last : Lasts ResetsAreKnown
resets_last = lasts_each IsResetKnown reset_goes (λ j h i. i) (λ j most h i. i) (λ j h i. i) (λ j h f i. frame_resets h f i) (λ j code size h i. reset_resets h code size i)

-- ---- a half that was stopped doesn't know its size, or is done

abbrev pub IsUnsized : ℕ → Status RecvHalf → Type 0
IsUnsized j unknown = Unit {0}
IsUnsized j fresh = Unit {0}
IsUnsized j (live h) = h.stopped ≡ true → is_some h.final ≡ false
IsUnsized j done = Unit {0}

abbrev pub StoppedAreUnsized : StreamsState → Type 0
StoppedAreUnsized s = AllReceiving IsUnsized s

unsized_goes : GoesOn IsUnsized
unsized_goes = record { opens = λ j i. tt; comes = λ j window i halted. refl; told = λ j h n i. i; ends = λ j h i. tt }

abbrev unsized_keeps : KeepsBy (λ r id old new. IsUnsized id (live old) → IsUnsized id (live new)) (λ s id old new. Unit {0}) (λ s id n old new. Unit {0}) StoppedAreUnsized
unsized_keeps = each_kept IsUnsized unsized_goes

-- a value that comes to a half: where it is stopped and its size is known, it is done
renewed_unsized : (s : StreamsState) (id : ℕ) (old new : RecvHalf) (tells : Bool) → beyond s id ≡ None → part_for s id ≡ Some old → StoppedAreUnsized s → StoppedAreUnsized (renewed s id old new tells)
renewed_unsized s id old new tells within part i = told (tells && not (old.stopped || opens s id)) (ended_if (new.stopped && is_some new.final) id (with_recv (opened_by s id) id new)) (last (new.stopped && is_some new.final) refl)
  where
    u : StreamsState
    u = opened_by s id

    opened : StoppedAreUnsized u
    opened = by_opened StoppedAreUnsized unsized_keeps s id within i

    apart : (a b : Bool) → (a && b) ≡ false → a ≡ true → b ≡ false
    apart true b e f = e
    apart false b e f = cc

    last : (b : Bool) → (new.stopped && is_some new.final) ≡ b → StoppedAreUnsized (ended_if b id (with_recv u id new))
    last true is = ends_one IsUnsized unsized_goes (λ j. tt) u id old new part opened
    last false is = unsized_keeps (changes.changes_receiving u.receiving id old new) u (part, (λ was halted. apart new.stopped (is_some new.final) is halted), refl) opened

    told : (b : Bool) (t : StreamsState) → StoppedAreUnsized t → StoppedAreUnsized (readable_if b id t)
    told true t j = record { shape = record { sending = j.shape.sending; receiving = j.shape.receiving }; each = j.each }
    told false t j = j

-- this end stops one
stop_unsized : (s : StreamsState) (p : Retransmits) (id code : ℕ) → StoppedAreUnsized s → StoppedAreUnsized (after_stop s p id code).state
stop_unsized s p id code i = by_option (receiving_half s id) (λ o. StoppedAreUnsized (stopped_at o s p id code).state) (λ e. i) (λ h e. cond_both {A = Streams} h.stopped _ _ (λ (t : Streams). StoppedAreUnsized t.state) (λ f. i) (λ f. go h e (is_some h.final) refl))
  where
    go : (h : RecvHalf) → receiving_half s id ≡ Some h → (b : Bool) → is_some h.final ≡ b → StoppedAreUnsized (stopped_if b s id h)
    go h e true is = ends_one IsUnsized unsized_goes (λ j. tt) s id h (stopped_now h) e i
    go h e false is = unsized_keeps (changes.changes_receiving s.receiving id h (stopped_now h)) s (e, (λ was halted. is), refl) i

pub unsized_lasts : Lasts StoppedAreUnsized
unsized_lasts = record {
  calls = record {
    quiet = is_quiet StoppedAreUnsized unsized_keeps;
    begun = λ s id ordered i. by_read_begun StoppedAreUnsized unsized_keeps s id ordered (λ h e j. j) i;
    next = λ told s id most answer is i. by_next_answer StoppedAreUnsized told s id most answer is (by_next StoppedAreUnsized unsized_keeps told s id most (λ h c e f j. j) i) i;
    stop = λ s p id code i. stop_unsized s p id code i;
    received_reset = λ s p id i. by_received_reset StoppedAreUnsized unsized_keeps s p id i;
  };
  accepts = λ dir s i. by_accept StoppedAreUnsized unsized_keeps dir s (λ may. may) i;
  frame = λ f e i. frame_quiet StoppedAreUnsized (is_quiet StoppedAreUnsized unsized_keeps) f e
      (λ h is. stream_cases e.streams e.waiting.frames h StoppedAreUnsized (λ b r. i) (λ within none. i) (λ part within there u. renewed_unsized e.streams h.id part (after_frame part h) true within there i))
      (λ h is. reset_cases e.streams e.waiting.frames h StoppedAreUnsized (λ b r. i) (λ within none. i) (λ part within there u. renewed_unsized e.streams h.id part (after_reset_stream part h.code h.final_size) (not (is_some part.reset)) within there i))
      i;
}

-- ---- how many streams may be opened

-- as many at least
abbrev pub MayOpen : Dir → ℕ → StreamsState → Type 0
MayOpen dir n s = n ≤ of dir s.opening.own_limit

may_remote : (dir kind : Dir) (n m : ℕ) (o : Opening) → n ≤ of dir o.own_limit → n ≤ of dir (with_remote kind m o).own_limit
may_remote dir Bi n m o i = i
may_remote dir Uni n m o i = i

may_more : (dir kind : Dir) (n count : ℕ) (c : Counts) → of kind c < count → n ≤ of dir c → n ≤ of dir (with_of kind count c)
may_more Bi Bi n count c above i = omega arith
may_more Bi Uni n count c above i = i
may_more Uni Bi n count c above i = i
may_more Uni Uni n count c above i = omega arith

may_done : (dir : Dir) (n : ℕ) (b : Bool) (id : ℕ) (s : StreamsState) → MayOpen dir n s → MayOpen dir n (done_if b id s)
may_done dir n true id s i = i
may_done dir n false id s i = i

may_kept : (dir : Dir) (n : ℕ) → KeepsAll (λ r id old new. Unit {0}) (λ s id old new. Unit {0}) (λ s id n old new. Unit {0}) (λ s dir. Unit {0}) (λ id. Unit {0}) (MayOpen dir n)
may_kept dir n (changes.allows d count) s (le, lt) i = may_more dir d n count s.opening.own_limit lt i
may_kept dir n (changes.opens_theirs id) s may i = may_remote dir (dir_of id) n (index_of id + 1) s.opening i
may_kept dir n (changes.joins id h) s may i = cond_both h.blocked s _ (MayOpen dir n) (λ e. i) (λ e. i)
may_kept dir n (changes.ends_sending id h) s may i = may_done dir n _ id _ i
may_kept dir n (changes.ends_receiving id h) s may i = may_done dir n _ id _ i
may_kept dir n c s may i = i

pub may_lasts : (dir : Dir) (n : ℕ) → Lasts (MayOpen dir n)
may_lasts dir n = lasts_any (MayOpen dir n) (λ s d may. tt) (may_kept dir n)

-- ---- a frame that is taken

-- what each leaves: the size known, where it tells that; or as many streams to open
abbrev pub KnownIf : Bool → ℕ → StreamsState → Type 0
KnownIf true id s = SizeIsKnown id s
KnownIf false id s = Unit {0}

abbrev pub Leaving : FrameValue → StreamsState → Type 0
Leaving (stream f) s = KnownIf f.fin f.id s
Leaving (reset_stream f) s = SizeIsKnown f.id s
Leaving (max_streams f) s = MayOpen (dir_named f.one_way) f.count s
Leaving f s = Unit {0}

nothing_lasts : Lasts (λ s. Unit {0})
nothing_lasts = lasts_any {A = λ s dir. Unit {0}} (λ s. Unit {0}) (λ s d may. tt) (λ c s may i. tt)

if_lasts : (b : Bool) (id : ℕ) → Lasts (λ s. KnownIf b id s)
if_lasts true id = known_lasts id
if_lasts false id = nothing_lasts

leaving_lasts : (f : FrameValue) → Lasts (Leaving f)
leaving_lasts (stream f) = if_lasts f.fin f.id
leaving_lasts (reset_stream f) = known_lasts f.id
leaving_lasts (max_streams f) = may_lasts (dir_named f.one_way) f.count
leaving_lasts f = nothing_lasts

-- ---- the size of a stream comes

-- where its half is done
gone_known : (s : StreamsState) (id : ℕ) → IsShaped s → receiving_refusal s id ≡ None → part_for s id ≡ None → SizeIsKnown id s
gone_known s id shape within none = record { shape = shape; each = λ j same. subst (λ (x : ℕ). IsKnownStatus (receiving_status s x)) (sym same) here }
  where
    gone : (at s.receiving.halves.live id ≡ None) × (has_place s.side s.receiving.halves.places id ≡ true)
    gone = gone_there s id within none

    by_status : (o : Option RecvHalf) (m u : Bool) → o ≡ None → m ≡ true → u ≡ true → IsKnownStatus (status_from o m u)
    by_status None true true e f g = tt
    by_status None true false e f g = cc
    by_status None false u e f g = cc
    by_status (Some h) m u e f g = cc

    here : IsKnownStatus (receiving_status s id)
    here = by_status (at s.receiving.halves.live id) (receives_on s.side id && is_opened s id) (has_place s.side s.receiving.halves.places id) gone.0 (shape.receiving.allowed id gone.1) gone.1

-- where it has a value that knows it
value_known : (s : StreamsState) (id : ℕ) (old new : RecvHalf) (tells : Bool) → beyond s id ≡ None → part_for s id ≡ Some old → ((is_some old.reset ≡ true → is_some old.final ≡ true) → is_some new.final ≡ true) → ResetsAreKnown s → SizeIsKnown id (renewed s id old new tells)
value_known s id old new tells within part now i =
    by_value (SizeIsKnown id) (each_kept (IsKnownAt id) (known_goes id)) s id old new tells
    (change_one IsResetKnown (IsKnownAt id) reset_goes (opened_by s id) id old new part (λ q x ne was same. absurd (ne same)) (λ was same. now was) (by_opened ResetsAreKnown (each_kept IsResetKnown reset_goes) s id within i))

-- a frame with the end of a stream knows the size behind
frame_sizes : (h : RecvHalf) (f : StreamValue) → f.fin ≡ true → (is_some h.reset ≡ true → is_some h.final ≡ true) → is_some (after_frame h f).final ≡ true
frame_sizes h f fin was = cond_both h.stopped _ _ (λ (g : RecvHalf). is_some g.final ≡ true) (λ e. last) (λ e. cond_both (is_some h.reset) _ _ (λ (g : RecvHalf). is_some g.final ≡ true) (λ c. was c) (λ c. last))
  where
    last : is_some (final_after h (end_of f) f.fin) ≡ true
    last = ap (λ (b : Bool). is_some (if b then Some (end_of f) else h.final)) fin

reset_sizes : (h : RecvHalf) (code size : ℕ) → (is_some h.reset ≡ true → is_some h.final ≡ true) → is_some (after_reset_stream h code size).final ≡ true
reset_sizes h code size was = cond_both h.stopped _ _ (λ (g : RecvHalf). is_some g.final ≡ true) (λ e. refl) (λ e. cond_both (is_some h.reset) _ _ (λ (g : RecvHalf). is_some g.final ≡ true) (λ c. was c) (λ c. refl))

stream_leaves : (f : StreamValue) (e : End) → ResetsAreKnown e.streams → (take_frame (stream f) e).fault ≡ None → KnownIf f.fin f.id (after_stream e.streams e.waiting.frames f).state
stream_leaves f e i none = go f.fin refl
  where
    allowed : refusal e.streams f.id (end_of f) f.fin ≡ None
    allowed = kept_before (refusal e.streams f.id (end_of f) f.fin) e.streams f (no_fault _ none)

    go : (b : Bool) → f.fin ≡ b → KnownIf b f.id (after_stream e.streams e.waiting.frames f).state
    go false fin = tt
    go true fin = stream_cases e.streams e.waiting.frames f (SizeIsKnown f.id)
        (λ b is. absurd (unbroken_none b (refusal e.streams f.id (end_of f) f.fin) allowed is))
        (λ within gone. gone_known e.streams f.id i.shape within gone)
        (λ h within part u. value_known e.streams f.id h (after_frame h f) true within part (frame_sizes h f fin) i)

reset_leaves : (f : ResetStreamValue) (e : End) → ResetsAreKnown e.streams → (take_frame (reset_stream f) e).fault ≡ None → SizeIsKnown f.id (after_reset_frame e.streams e.waiting.frames f).state
reset_leaves f e i none = reset_cases e.streams e.waiting.frames f (SizeIsKnown f.id)
    (λ b is. absurd (unbroken_none b (reset_breach e.streams f) (no_fault _ none) is))
    (λ within gone. gone_known e.streams f.id i.shape within gone)
    (λ h within part u. value_known e.streams f.id h (after_reset_stream h f.code f.final_size) (not (is_some h.reset)) within part (reset_sizes h f.code f.final_size) i)

-- as many streams may be opened as a frame tells that isn't refused
count_leaves : (dir : Dir) (count : ℕ) (s : StreamsState) → max_streams_breach count ≡ None → MayOpen dir count (after_max_streams dir count s)
count_leaves dir count s none = go (nat_le count most_streams) (nat_lt (of dir s.opening.own_limit) count) small refl
  where
    allowed : (b : Bool) → nat_lt most_streams count ≡ b → (if b then Some FrameEncoding else None) ≡ None → count ≤ most_streams
    allowed true is e = cc
    allowed false is e = ltb-false most_streams count is

    small : nat_le count most_streams ≡ true
    small = le-leb count most_streams (allowed (nat_lt most_streams count) refl none)

    raised : (d : Dir) (c : Counts) → count ≤ of d (with_of d count c)
    raised Bi c = omega arith
    raised Uni c = omega arith

    go : (a b : Bool) → a ≡ true → nat_lt (of dir s.opening.own_limit) count ≡ b → count ≤ of dir (if a && b then with_own_limit dir count s else s).opening.own_limit
    go true true e is = raised dir s.opening.own_limit
    go true false e is = ltb-false (of dir s.opening.own_limit) count is
    go false b e is = cc

frame_leaves : (f : FrameValue) (e : End) → ResetsAreKnown e.streams → (take_frame f e).fault ≡ None → Leaving f (take_frame f e).end.streams
frame_leaves (stream f) e i none = stream_leaves f e i none
frame_leaves (reset_stream f) e i none = reset_leaves f e i none
frame_leaves (max_streams f) e i none = count_leaves (dir_named f.one_way) f.count e.streams (no_fault _ none)
frame_leaves f e i none = tt

strays_leave : (f : FrameValue) (s : StreamsState) → IsPath f → Leaving f s
strays_leave (path_challenge token) s path = tt
strays_leave (path_response token) s path = tt
strays_leave f s path = absurd path

pub leaves : Leaves ResetsAreKnown Leaving
leaves = record { known = resets_last; stays = leaving_lasts; takes = frame_leaves; closes = λ f s is. closes_fine (λ g. Leaving g s) (λ c. tt) (λ c. tt) tt f is; strays = strays_leave }
