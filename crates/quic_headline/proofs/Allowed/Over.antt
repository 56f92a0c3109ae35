-- A stream of which nothing more is to be read stays so: each call that would read it is answered
-- that it is closed, as on one on which its end only sends.
use Rattle.std.proofs.Common.{◌≡◌, ℕ, Bool, true, false, not, ◌&&◌, ◌||◌, List, [], ◌∷◌, ◌++◌, Option, Some, None, Result, Ok, Err, refl, sym, ap, ◌∙◌, subst, inl, inr}
use Rattle.std.specs.Prelude.{◌==◌, if◌then◌else◌}
use Rattle.std.specs.Option.{is_some}
use Rattle.std.proofs.lemmas.Bool.{or_cases, and_parts, eqb-true, cond_both, both_ways}
use Rattle.quic_wire_core.specs.declared.stream_id.Side.{Side}
use Rattle.quic_wire_core.specs.StreamId.{other_side, dir_of}
use Rattle.quic_streams_parts.specs.declared.answers.ReadableError.{ReadableError}
use Rattle.quic_streams_parts.specs.declared.answers.ReadableError.TheVariants as readable_errors
use Rattle.quic_streams_parts.specs.declared.answers.UpdateError.TheVariants as update_errors
use Rattle.quic_streams_parts.specs.declared.answers.ClosedStream.{ClosedStream}
use Rattle.quic_streams_parts.specs.Dirs.{is_own, is_two_way}
use Rattle.quic_streams_parts.specs.RecvHalf.{RecvHalf, new_recv_half, stopped_now, readable, is_illegal}
use Rattle.quic_streams_halves.specs.Halves.{Status, unknown, fresh, live, done, half_of}
use Rattle.quic_retransmits.specs.Retransmits.{Retransmits}
use Rattle.quic_streams_state.specs.declared.state.StreamsState.{StreamsState}
use Rattle.quic_streams_state.specs.State.{Streams, first_window, is_opened, receives_on, receiving_half, receiving_status, with_recv}
use Rattle.quic_streams_state.specs.Reading.{stopped_if, stopped_at, after_stop, is_closed, is_closed_at, reset_of}
use Rattle.quic_streams_laws.specs.Content.{AllReceiving}
use Rattle.quic_streams_laws.specs.KeepingLaws.{at-half}
use Rattle.quic_streams_laws.specs.Shape.{IsShaped}
use Rattle.quic_streams_laws.specs.ShapeLaws.{shape_any, receives_may}
use Rattle.quic_streams_laws.specs.StatusLaws.{GoesOn, change_one}
use Rattle.quic_machine.specs.declared.run.Call.{Call}
use Rattle.quic_machine.specs.declared.run.Call.TheVariants as calls
use Rattle.quic_machine.specs.declared.run.Answer.{Answer}
use Rattle.quic_machine.specs.declared.run.Answer.TheVariants as answers
use Rattle.quic_machine.specs.declared.run.ReadCall.{ReadCall}
use Rattle.quic_machine.specs.Policy.{Policy}
use Rattle.quic_machine.specs.Lacking.{LacksWhere}
use Rattle.quic_machine.specs.End.{End}
use Rattle.quic_machine.specs.CallCases.{is_delivery}
use Rattle.quic_machine.specs.Machine.{World, IsAnswer, after_call, reads_window, control_at, heard_at}
use Rattle.quic_headline.specs.Runs.{Run, Told, Intake}
use Rattle.quic_headline.specs.Headline.{IsHonest, IsRun}
use Rattle.quic_headline.specs.Unread.{stopped_by, stopped}
use Rattle.quic_headline.specs.Allowed.{IsReadOff, only_sends, is_kept_from_reading, would_read, ReadsAreOver}
use Rattle.quic_headline.proofs.Packets.Group.{meets}
use Rattle.quic_headline.proofs.Places.Parties.{told_of, Party, called}
use Rattle.quic_headline.proofs.Places.Groups.{Way, Nothing, And, Calls, Group, both, beside}
use Rattle.quic_headline.proofs.Places.Coming.{by_coming}
use Rattle.quic_headline.proofs.Places.Placed.{party_at, Placed, placed, answered}
use Rattle.quic_headline.proofs.Places.Lacking.{lacking_at}
use Rattle.quic_headline.proofs.Places.Everything as everything
use Rattle.quic_headline.proofs.Places.Theorems.{ready}
use Rattle.quic_headline.proofs.Halves.Ready.{Ready}
use Rattle.quic_headline.proofs.Halves.Ghosts.{IsWriting}
use Rattle.quic_headline.proofs.Halves.Writer.{grows_behind}
use Rattle.quic_headline.proofs.Amounts.Opens.{Opens, opens_group}
use Rattle.quic_headline.proofs.Unread.OpeningLasts.{Lasts, lasts_call}
use Rattle.quic_headline.proofs.Unread.OpeningStatus.{IsDoneStatus, ReceivesNoMore, lasts_each}
use Rattle.quic_headline.proofs.Unread.OpeningRead.{ends_here, Heard, heard_group}
use Rattle.quic_headline.proofs.Allowed.Halves.{frame_stopped, reset_stopped}
use Rattle.quic_streams_laws.specs.Keeping as changes

-- ---- a stream that is stopped or done

abbrev IsOver : Status RecvHalf → Type 0
IsOver unknown = ⊥
IsOver fresh = ⊥
IsOver (live h) = h.stopped ≡ true
IsOver done = Unit {0}

abbrev IsOverAt : ℕ → ℕ → Status RecvHalf → Type 0
IsOverAt id j x = j ≡ id → IsOver x

abbrev StaysOver : ℕ → StreamsState → Type 0
StaysOver id s = AllReceiving (IsOverAt id) s

over_goes : (id : ℕ) → GoesOn (IsOverAt id)
over_goes id = record { opens = λ j i same. i same; comes = λ j window i same. absurd (i same); told = λ j h n i same. i same; ends = λ j h i same. tt }

over_lasts : (id : ℕ) → Lasts (StaysOver id)
over_lasts id = lasts_each (IsOverAt id) (over_goes id) (λ j h i same. i same) (λ j most h i same. i same) (λ j h i same. refl) (λ j h f i same. frame_stopped h f ∙ i same) (λ j code size h i same. reset_stopped h code size ∙ i same)

-- one that is done is over
done_over : (x : Status RecvHalf) → IsDoneStatus x → IsOver x
done_over unknown i = i
done_over fresh i = i
done_over (live h) i = absurd i
done_over done i = tt

no_more : (id : ℕ) (s : StreamsState) → ReceivesNoMore id s → StaysOver id s
no_more id s i = record { shape = i.shape; each = λ j same. done_over (receiving_status s j) (i.each j same) }

-- nothing may be read of it
over_closed : (s : StreamsState) (id : ℕ) → StaysOver id s → is_closed s id ≡ true
over_closed s id i = go (receiving_status s id) (i.each id refl)
  where
    go : (x : Status RecvHalf) → IsOver x → is_closed_at (half_of (new_recv_half (first_window s.receiving)) x) ≡ true
    go unknown over = refl
    go fresh over = absurd over
    go (live h) over = over
    go done over = refl

-- ---- a stop

any_goes : GoesOn (λ id x. Unit {0})
any_goes = record { opens = λ j i. tt; comes = λ j window i. tt; told = λ j h n i. tt; ends = λ j h i. tt }

-- the half has this value
halted_half : (s : StreamsState) (id : ℕ) (h : RecvHalf) → receiving_half s id ≡ Some h → IsShaped s → StaysOver id (with_recv s id (stopped_now h))
halted_half s id h is shape = change_one (λ j x. Unit {0}) (IsOverAt id) any_goes s id h (stopped_now h) is (λ q x ne was same. absurd (ne same)) (λ was same. refl) (record { shape = shape; each = λ j. tt })

stop_over : (s : StreamsState) (p : Retransmits) (id code : ℕ) → IsShaped s → is_closed s id ≡ false → StaysOver id (after_stop s p id code).state
stop_over s p id code shape free = go (receiving_half s id) refl free
  where
    by_size : (h : RecvHalf) → receiving_half s id ≡ Some h → (b : Bool) → StaysOver id (stopped_if b s id h)
    by_size h is true = no_more id _ (ends_here (with_recv s id (stopped_now h)) id (stopped_now h) (shape_any (changes.changes_receiving s.receiving id h (stopped_now h)) s (is, tt, refl) shape) (at-half s.side s.receiving.halves id (stopped_now h)))
    by_size h is false = halted_half s id h is shape

    by_stop : (h : RecvHalf) → receiving_half s id ≡ Some h → h.stopped ≡ false → StaysOver id (stopped_at (Some h) s p id code).state
    by_stop h is free = cond_both {A = Streams} h.stopped _ _ (λ (t : Streams). StaysOver id t.state) (λ e. absurd (both_ways h.stopped free e)) (λ e. by_size h is (is_some h.final))

    go : (o : Option RecvHalf) → receiving_half s id ≡ o → is_closed_at o ≡ false → StaysOver id (stopped_at o s p id code).state
    go None is e = cc
    go (Some h) is e = by_stop h is e

-- ---- what was told

stopped_more : (id : ℕ) (ts : List Told) (t : Told) → stopped id (ts ++ t ∷ []) ≡ (stopped id ts || stopped_by id t.call t.answer)
stopped_more id [] t = or_none (stopped_by id t.call t.answer)
  where
    or_none : (c : Bool) → (c || false) ≡ c
    or_none true = refl
    or_none false = refl
stopped_more id (u ∷ ts) t = ap (λ (c : Bool). stopped_by id u.call u.answer || c) (stopped_more id ts t) ∙ or_assoc (stopped_by id u.call u.answer) (stopped id ts) (stopped_by id t.call t.answer)
  where
    or_assoc : (a c d : Bool) → (a || (c || d)) ≡ ((a || c) || d)
    or_assoc true c d = refl
    or_assoc false c d = refl

-- ---- the group

-- each stream that x stopped is over
pub record Halted (x y : Party) : Type 0 where
  pub each : (id : ℕ) → stopped id x.told ≡ true → StaysOver id x.end.streams

-- a call that stops one
stop_call : (p : Policy) (e : End) (theirs : List (List ℕ)) (id : ℕ) (call : Call) (a : Answer) → IsShaped e.streams → IsAnswer p e theirs call a → stopped_by id call a ≡ true → StaysOver id (after_call p e theirs call a).streams
stop_call p e theirs id (calls.Stop q code) (answers.Stop (Ok x)) shape (inl is) stops = subst (λ (n : ℕ). StaysOver n (after_stop e.streams e.waiting.frames q code).state) (eqb-true q id stops) (stop_over e.streams e.waiting.frames q code shape (let_it (is_closed e.streams q) is))
  where
    let_it : (closed : Bool) → answers.Stop (Ok x) ≡ answers.Stop (if closed then Err update_errors.ClosedStream else Ok tt) → closed ≡ false
    let_it true same = cc
    let_it false same = refl
stop_call p e theirs id (calls.Stop q code) (answers.Stop (Ok x)) shape (inr is) stops = cc
stop_call p e theirs id call a shape is stops = cc

delivery_stops : (id : ℕ) (call : Call) (a : Answer) → is_delivery call ≡ true → stopped_by id call a ≡ true → ⊥
delivery_stops id (calls.Deliver delivery) a is stops = cc
delivery_stops id call a is stops = cc

module _ (B : Way) (w : IsWriting B) (x y : Party) (call : Call) (a : Answer) (c : Calls B x y call a) (i : Halted x y) where
  new_one : (id : ℕ) → stopped_by id call a ≡ true → StaysOver id (called x y.given call a).end.streams
  new_one id stops = by_coming x y a c.joined c.served (meets y x (w.packets y x c.takes)) (λ (e : End) (j : Intake). StaysOver id e.streams) call c.answer (record {
    apart = λ apart. stop_call x.policy x.end y.given id call a (w.written x y c.gives).shape c.answer stops;
    none = λ delivery is. absurd (delivery_stops id call a (ap is_delivery is) stops);
    comes = λ delivery is s among here. absurd (delivery_stops id call a (ap is_delivery is) stops);
  })

  halted_call : Halted (called x y.given call a) y
  halted_call = record {
    each = λ id told. elim (or_cases (stopped id x.told) (stopped_by id call a) (sym (stopped_more id x.told (told_of call a x.end.closing.state)) ∙ told)) [
      | inl was ↦ lasts_call B w x y call a c (StaysOver id) (over_lasts id) (i.each id was)
      | inr now ↦ new_one id now
    ];
  }

pub halted_group : (B : Way) → IsWriting B → Group B Halted
halted_group B w = record {
  first = λ x y m there back. record { each = λ id never. cc };
  writer = λ x y call a c i back. halted_call B w x y call a c i;
  reader = λ x y call a c there i. record { each = i.each };
  shows = λ x y here there b back i j. record { each = i.each };
}

-- ---- all that holds

abbrev pub All : Way
All = everything.All Ready ready

abbrev pub N : Way
N = And Nothing All

pub is_writing : IsWriting N
is_writing = record {
  packets = λ x y h. h.1.0.0;
  written = λ x y h. h.1.0.1.0.writes.keeps.holds;
  says = λ x y h. h.1.0.1.0.says;
  grows = λ x y call a c. grows_behind N (λ x y h. h.1.0.0) x y call a c c.gives.1.0.1.0;
}

abbrev Known : Way
Known = And All (And (And Heard Halted) Opens)

known : Group Nothing Known
known = both Nothing All (And (And Heard Halted) Opens) (everything.all Ready ready) (beside N (And Heard Halted) Opens (beside N Heard Halted (heard_group N is_writing) (halted_group N is_writing)) (opens_group N is_writing))

-- nothing may be read of a stream of which nothing more is to be read
pub off_closed : (x y : Party) (id : ℕ) → And Heard Halted x y → IsReadOff x.told id → is_closed x.end.streams id ≡ true
off_closed x y id k off = over_closed x.end.streams id (over off)
  where
    over : IsReadOff x.told id → StaysOver id x.end.streams
    over (inl end_read) = no_more id x.end.streams (k.0.each id (inl end_read))
    over (inr (inl reset)) = no_more id x.end.streams (k.0.each id (inr (inl reset)))
    over (inr (inr (inl asked))) = no_more id x.end.streams (k.0.each id (inr (inr asked)))
    over (inr (inr (inr is))) = k.1.each id is

-- nor of one on which its end only sends
pub sends_closed : (s : StreamsState) (id : ℕ) → IsShaped s → only_sends s.side id ≡ true → is_closed s id ≡ true
sends_closed s id shape only = go (receiving_half s id) refl
  where
    apart : (own two : Bool) → (own && not two) ≡ true → (not own || two) ≡ true → ⊥
    apart true true sends receives = cc
    apart true false sends receives = cc
    apart false two sends receives = cc

    go : (o : Option RecvHalf) → receiving_half s id ≡ o → is_closed_at o ≡ true
    go None is = refl
    go (Some h) is = absurd (apart (is_own s.side id) (is_two_way (dir_of id)) only (and_parts (receives_on s.side id) (is_opened s id) (receives_may s id h shape is)).0)

-- ---- what is answered

pub ok_shut : (o : Result (Unit {0}) ReadableError) → o ≡ Err readable_errors.ClosedStream → o ≡ Ok tt → ⊥
ok_shut (Ok x) shut is = cc
ok_shut (Err e) shut is = cc

same_error : (error : ReadableError) → ◌≡◌ {A = Result (Unit {0}) ReadableError} (Err error) (Err readable_errors.ClosedStream) → error ≡ readable_errors.ClosedStream
same_error error is = cc

-- a half that may not be read
pub closed_unreadable : (o : Option RecvHalf) (ordered : Bool) → is_closed_at o ≡ true → ◌≡◌ {A = Result (Unit {0}) ReadableError} (readable o ordered) (Err readable_errors.ClosedStream)
closed_unreadable None ordered shut = refl
closed_unreadable (Some h) ordered shut = ap (λ (t : Bool). if t then Err readable_errors.ClosedStream else (if is_illegal h ordered then Err readable_errors.IllegalOrderedRead else Ok tt)) shut

closed_unset : (o : Option RecvHalf) → is_closed_at o ≡ true → ◌≡◌ {A = Result (Option ℕ) ClosedStream} (reset_of o) (Err (record {}))
closed_unset None shut = refl
closed_unset (Some h) shut = ap (λ (t : Bool). if t then Err (record {}) else Ok h.reset) shut

-- the end that a call meets
abbrev met : Side → World → End → Call → End
met side w e call = reads_window (control_at side w) (heard_at side w) call e

-- ---- the clause

module _ (r : Run) (end : World) (honest : IsHonest r) (run : IsRun r end) where
  pub reads_are_over : ReadsAreOver r
  reads_are_over side i id call a served event reads over = by_call call a reads (answered r p.world end i side call a p.goes_on event) (lacking_at r p.world end i side call a p.goes_on event)
    where
      p : Placed Known r end side i
      p = placed Known known r end honest run side i served

      x : Party
      x = party_at r i p.world side p.sents

      y : Party
      y = party_at r i p.world (other_side side) p.theirs

      s : StreamsState
      s = x.end.streams

      shut : is_closed s id ≡ true
      shut = elim over [
        | inl off ↦ off_closed x y id p.gives.1.0 off
        | inr only ↦ sends_closed s id p.gives.0.0.1.0.writes.keeps.holds.shape (ap (λ (d : Side). only_sends d id) p.gives.1.1.side ∙ only)
      ]

      shut_at : (n : ℕ) → (n == id) ≡ true → is_closed s n ≡ true
      shut_at n same = ap (is_closed s) (eqb-true n id same) ∙ shut

      unreadable : (rd : ReadCall) → (rd.id == id) ≡ true → ◌≡◌ {A = Result (Unit {0}) ReadableError} (readable (receiving_half s rd.id) rd.ordered) (Err readable_errors.ClosedStream)
      unreadable rd same = closed_unreadable (receiving_half s rd.id) rd.ordered (shut_at rd.id same)

      by_call : (call : Call) (a : Answer) → would_read id call ≡ true → IsAnswer x.policy (met side p.world x.end call) y.given call a → LacksWhere x.policy (met side p.world x.end call) y.given call a → is_kept_from_reading id call a ≡ true
      by_call (calls.Read rd) (answers.Read (Ok said)) same is lacks = absurd (ok_shut (readable (receiving_half s rd.id) rd.ordered) (unreadable rd same) is.0)
      by_call (calls.Read rd) (answers.Read (Err error)) same (inl is) lacks = subst (λ (e : ReadableError). is_kept_from_reading id (calls.Read rd) (answers.Read (Err e)) ≡ true) (sym (same_error error (sym is ∙ unreadable rd same))) same
      by_call (calls.Read rd) (answers.Read (Err error)) same (inr is) lacks = absurd (ok_shut (readable (receiving_half s rd.id) rd.ordered) (unreadable rd same) (lacks is).0)
      by_call (calls.Read rd) a same is lacks = absurd is
      by_call (calls.Stop q code) a same (inl is) lacks = subst (λ (b : Answer). is_kept_from_reading id (calls.Stop q code) b ≡ true) (sym (is ∙ ap (λ (b : Bool). answers.Stop (if b then Err update_errors.ClosedStream else Ok tt)) (shut_at q same))) same
      by_call (calls.Stop q code) a same (inr is) lacks =
          let free : is_closed s q ≡ false = subst (λ (b : Answer). LacksWhere x.policy (met side p.world x.end (calls.Stop q code)) y.given (calls.Stop q code) b) is lacks refl in
          absurd (both_ways (is_closed s q) free (shut_at q same))
      by_call (calls.ReceivedReset q) a same is lacks = subst (λ (b : Answer). is_kept_from_reading id (calls.ReceivedReset q) b ≡ true) (sym (is ∙ ap (λ (b : Result (Option ℕ) ClosedStream). answers.ReceivedReset b) (closed_unset (receiving_half s q) (shut_at q same)))) same
      by_call call a same is lacks = cc
