-- At each place of an honest run a call is kept from writing on a stream only where the application
-- ended it, and from changing it only where it was reset, or all of it arrived.
use Rattle.std.proofs.Common.{◌≡◌, ℕ, min, Bool, true, false, not, ◌&&◌, ◌||◌, List, length, Option, Some, None, Result, Ok, Err, refl, sym, ap, ◌∙◌, subst, ◌⊎◌, inl, inr}
use Rattle.std.specs.Prelude.{◌==◌, if◌then◌else◌}
use Rattle.std.specs.Option.{is_some, IsSome, option_map}
use Rattle.std.proofs.lemmas.Bool.{eqb-true}
use Rattle.quic_wire_core.specs.declared.stream_id.Side.{Side}
use Rattle.quic_wire_core.specs.StreamId.{other_side}
use Rattle.quic_send_buffer.specs.Source.{bytes_of}
use Rattle.quic_streams_parts.specs.declared.answers.Written.{Written}
use Rattle.quic_streams_parts.specs.declared.answers.WriteError.{WriteError}
use Rattle.quic_streams_parts.specs.declared.answers.WriteError.TheVariants as write_errors
use Rattle.quic_streams_parts.specs.declared.answers.FinishError.{FinishError}
use Rattle.quic_streams_parts.specs.declared.answers.FinishError.TheVariants as finish_errors
use Rattle.quic_streams_parts.specs.declared.answers.UpdateError.TheVariants as update_errors
use Rattle.quic_streams_parts.specs.Table.{at}
use Rattle.quic_streams_parts.specs.SendHalf.{SendHalf, new_send_half, room_on, is_ready, finish_unless, finish_of, taken_unless, written_to}
use Rattle.quic_streams_halves.specs.Halves.{has_place, status_from, half_of}
use Rattle.quic_streams_state.specs.declared.state.StreamsState.{StreamsState}
use Rattle.quic_streams_state.specs.State.{is_opened, sends_on, sending_half, first_limit, room}
use Rattle.quic_streams_state.specs.Writing.{write_answer, chunks_of, finish_answer, is_reset_at, changes_at}
use Rattle.quic_streams_laws.specs.Acknowledged.{AllArrived, HalfArrived, IsSettled, IsAckedStatus}
use Rattle.quic_streams_laws.specs.Written.{Wrote, IsSendHalf, reset_size}
use Rattle.quic_machine.specs.declared.run.Call.{Call}
use Rattle.quic_machine.specs.declared.run.Call.TheVariants as calls
use Rattle.quic_machine.specs.declared.run.Answer.{Answer}
use Rattle.quic_machine.specs.declared.run.Answer.TheVariants as answers
use Rattle.quic_machine.specs.Calls.{is_open}
use Rattle.quic_machine.specs.Machine.{World, IsAnswer, reads_window, control_at, heard_at}
use Rattle.quic_headline.specs.Runs.{Run, Packet, Intake, until, reset}
use Rattle.quic_headline.specs.Observer.{took}
use Rattle.quic_headline.specs.Headline.{IsHonest, IsRun, IsAt, used}
use Rattle.quic_headline.specs.Headline as headline
use Rattle.quic_headline.specs.Undone.{IsSentOff}
use Rattle.quic_headline.specs.Allowed.{only_receives, is_kept_from_writing, is_kept_from_changing, WritesAreAllowed, ResetsAreAllowed}
use Rattle.quic_headline.proofs.Places.Parties.{Party, came_to}
use Rattle.quic_headline.proofs.Places.Groups.{Way, Nothing, And, Group, both}
use Rattle.quic_headline.proofs.Places.Openings.{took_there}
use Rattle.quic_headline.proofs.Places.Placed.{party_at, Placed, placed, answered}
use Rattle.quic_headline.proofs.Places.Everything as everything
use Rattle.quic_headline.proofs.Places.Theorems.{ready}
use Rattle.quic_headline.proofs.Halves.Ready.{Ready}
use Rattle.quic_headline.proofs.Halves.Ghosts.{wrote, IsWriting}
use Rattle.quic_headline.proofs.Halves.Writer.{grows_behind}
use Rattle.quic_headline.proofs.Halves.Arrived.{OffsetIn, EndIn, Arrives}
use Rattle.quic_headline.proofs.Halves.Finishing.{all_arrived}
use Rattle.quic_headline.proofs.Amounts.Opens.{Opens, opens_group}

-- ---- one half

-- nothing more is written on a half: there is none, or it was finished or reset
abbrev IsShut : Option SendHalf → Type 0
IsShut None = Unit {0}
IsShut (Some h) = is_ready h ≡ false

unready : (h : SendHalf) (b : Bool) → is_ready h ≡ b → b ≡ false → IsShut (Some h)
unready h b is free = is ∙ free

finish_shut : (o : Option SendHalf) → ◌≡◌ {A = Result (Unit {0}) FinishError} (finish_of o) (Err finish_errors.ClosedStream) → IsShut o
finish_shut None e = tt
finish_shut (Some h) e = by_stop h.stopped e
  where
    by_ready : (b : Bool) → ◌≡◌ {A = Result (Unit {0}) FinishError} (if b then Ok tt else Err finish_errors.ClosedStream) (Err finish_errors.ClosedStream) → b ≡ false
    by_ready true f = cc
    by_ready false f = refl

    by_stop : (o : Option ℕ) → ◌≡◌ {A = Result (Unit {0}) FinishError} (finish_unless o h) (Err finish_errors.ClosedStream) → is_ready h ≡ false
    by_stop (Some code) f = cc
    by_stop None f = by_ready (is_ready h) f

write_shut : (o : Option SendHalf) (left len : ℕ) → ◌≡◌ {A = Result ℕ WriteError} (written_to o left len) (Err write_errors.ClosedStream) → IsShut o
write_shut None left len e = tt
write_shut (Some h) left len e = by_room (left == 0) (is_ready h) e
  where
    takes : (b : Bool) (n : ℕ) → ◌≡◌ {A = Result ℕ WriteError} (if b then Err write_errors.Blocked else Ok n) (Err write_errors.ClosedStream) → ⊥
    takes true n f = cc
    takes false n f = cc

    by_stop : (o : Option ℕ) → ◌≡◌ {A = Result ℕ WriteError} (taken_unless o h left len) (Err write_errors.ClosedStream) → ⊥
    by_stop (Some code) f = cc
    by_stop None f = takes (room_on h == 0) (min len (min left (room_on h))) f

    by_room : (b u : Bool) → ◌≡◌ {A = Result ℕ WriteError} (if b then Err write_errors.Blocked else (if u then taken_unless h.stopped h left len else Err write_errors.ClosedStream)) (Err write_errors.ClosedStream) → u ≡ false
    by_room true u f = cc
    by_room false true f = absurd (by_stop h.stopped f)
    by_room false false f = refl

write_call_shut : (open_now : Bool) (s : StreamsState) (id len : ℕ) → ◌≡◌ {A = Result ℕ WriteError} (write_answer open_now s id len) (Err write_errors.ClosedStream) → IsShut (sending_half s id)
write_call_shut true s id len e = write_shut (sending_half s id) (room s.sending) len e
write_call_shut false s id len e = cc

chunks_shut : (r : Result ℕ WriteError) (cs : List (List ℕ)) → ◌≡◌ {A = Result Written WriteError} (chunks_of r cs) (Err write_errors.ClosedStream) → r ≡ Err write_errors.ClosedStream
chunks_shut (Ok n) cs e = cc
chunks_shut (Err x) cs e = cc

-- ---- the half of a stream that was opened

some_reset : (o : Option ℕ) (n : ℕ) (p : Option ℕ) → p ≡ option_map (λ (code : ℕ). n) o → is_some p ≡ true → IsSome o
some_reset (Some code) n p is some = refl
some_reset None n p is some = (let never : false ≡ true = ap is_some (sym is) ∙ some in cc)

module _ (arrived : ℕ → Type 0) (end_arrived : Type 0) (w : Wrote) (limit : ℕ) where
  abbrev Q : SendHalf → Type 0
  Q h = IsSendHalf w h × HalfArrived arrived end_arrived h

  -- what was settled is over
  settled_over : IsSettled arrived end_arrived w → (w.ended ≡ true) ⊎ IsSome w.reset
  settled_over (inl all) = inl all.ended
  settled_over (inr cut) = inr cut

  over_there : (o : Option SendHalf) (m k u : Bool) → k ≡ true → IsAckedStatus arrived end_arrived w (status_from o (m && k) u) → IsShut (half_of (new_send_half limit) (status_from o (m && k) u)) → ((w.ended ≡ true) ⊎ IsSome w.reset) ⊎ (m ≡ false)
  over_there (Some h) m k u opened x shut = inl (go h.finished h.reset (x.0).finished (x.0).reset shut)
    where
      go : (f : Bool) (p : Option ℕ) → f ≡ w.ended → p ≡ reset_size w → not (f || is_some p) ≡ false → (w.ended ≡ true) ⊎ IsSome w.reset
      go true p ends cuts e = inl (sym ends)
      go false (Some n) ends cuts e = inr (some_reset w.reset (length w.bytes) (Some n) cuts refl)
      go false None ends cuts e = cc
  over_there None true true true opened x shut = inl (settled_over x)
  over_there None true true false opened x shut = cc
  over_there None true false u opened x shut = cc
  over_there None false k u opened x shut = inr refl

  settled_there : (o : Option SendHalf) (m k u : Bool) → k ≡ true → IsAckedStatus arrived end_arrived w (status_from o (m && k) u) → is_reset_at (half_of (new_send_half limit) (status_from o (m && k) u)) ≡ true → IsSettled arrived end_arrived w ⊎ (m ≡ false)
  settled_there (Some h) m k u opened x cut = inl (inr (some_reset w.reset (length w.bytes) h.reset (x.0).reset cut))
  settled_there None true true true opened x cut = inl x
  settled_there None true true false opened x cut = cc
  settled_there None true false u opened x cut = cc
  settled_there None false k u opened x cut = inr refl

-- ---- all that holds

abbrev All : Way
All = And (everything.All Ready ready) Arrives

abbrev N : Way
N = And Nothing All

is_writing : IsWriting N
is_writing = record {
  packets = λ x y h. h.1.0.0.0;
  written = λ x y h. h.1.0.0.1.0.writes.keeps.holds;
  says = λ x y h. h.1.0.0.1.0.says;
  grows = λ x y call a c. grows_behind N (λ x y h. h.1.0.0.0) x y call a c c.gives.1.0.0.1.0;
}

abbrev Known : Way
Known = And All Opens

known : Group Nothing Known
known = both Nothing All Opens (everything.all_arrived Ready ready) (opens_group N is_writing)

-- ---- the calls

-- what an answer says
same_write : (a b : Result ℕ WriteError) → answers.Write a ≡ answers.Write b → b ≡ a
same_write a b e = cc

same_chunks : (a b : Result Written WriteError) → answers.WriteChunks a ≡ answers.WriteChunks b → b ≡ a
same_chunks a b e = cc

same_finish : (a b : Result (Unit {0}) FinishError) → answers.Finish a ≡ answers.Finish b → b ≡ a
same_finish a b e = cc

writes_used : (id : ℕ) (call : Call) (a : Answer) → is_kept_from_writing id call a ≡ true → used call ≡ Some id
writes_used id (calls.Write q bytes) (answers.Write (Err write_errors.ClosedStream)) kept = ap Some (eqb-true q id kept)
writes_used id (calls.WriteChunks q buffers) (answers.WriteChunks (Err write_errors.ClosedStream)) kept = ap Some (eqb-true q id kept)
writes_used id (calls.Finish q) (answers.Finish (Err finish_errors.ClosedStream)) kept = ap Some (eqb-true q id kept)
writes_used id call a kept = cc

changes_used : (id : ℕ) (call : Call) (a : Answer) → is_kept_from_changing id call a ≡ true → used call ≡ Some id
changes_used id (calls.Reset q code) (answers.Reset (Err update_errors.ClosedStream)) kept = ap Some (eqb-true q id kept)
changes_used id (calls.SetPriority q priority) (answers.SetPriority (Err update_errors.ClosedStream)) kept = ap Some (eqb-true q id kept)
changes_used id call a kept = cc

reset_shut : (cut : Bool) → answers.Reset (Err update_errors.ClosedStream) ≡ answers.Reset (if cut then Err update_errors.ClosedStream else Ok tt) → cut ≡ true
reset_shut true e = refl
reset_shut false e = cc

priority_shut : (o : Option SendHalf) → answers.SetPriority (Err update_errors.ClosedStream) ≡ answers.SetPriority (changes_at o) → is_reset_at o ≡ true
priority_shut None e = refl
priority_shut (Some h) e = cc

-- ---- the clauses

module _ (r : Run) (end : World) (honest : IsHonest r) (side : Side) (i id : ℕ) (p : Placed Known r end side i) where
  abbrev x : Party
  x = party_at r i p.world side p.sents

  abbrev y : Party
  y = party_at r i p.world (other_side side) p.theirs

  abbrev s : StreamsState
  s = x.end.streams

  abbrev packets : List Packet
  packets = (came_to y x).took

  opened_there : (call : Call) (a : Answer) → IsAt r i side call a → used call ≡ Some id → is_opened s id ≡ true
  opened_there call a event uses = (p.gives.1.each id (honest.ids side i id call a event uses)).opened

  only : sends_on s.side id ≡ false → only_receives side id ≡ true
  only none = ap not (sym (ap (λ (d : Side). sends_on d id) p.gives.1.side) ∙ none)

  written : (call : Call) (a : Answer) → is_kept_from_writing id call a ≡ true → IsAnswer x.policy (reads_window (control_at side p.world) (heard_at side p.world) call x.end) y.given call a → IsShut (sending_half s id)
  written (calls.Write q bytes) (answers.Write (Err write_errors.ClosedStream)) kept (inl is) = subst (λ (n : ℕ). IsShut (sending_half s n)) (eqb-true q id kept) (write_call_shut (is_open x.end.closing.state) s q (length bytes) (same_write (Err write_errors.ClosedStream) (write_answer (is_open x.end.closing.state) s q (length bytes)) is))
  written (calls.Write q bytes) (answers.Write (Err write_errors.ClosedStream)) kept (inr is) = cc
  written (calls.WriteChunks q buffers) (answers.WriteChunks (Err write_errors.ClosedStream)) kept (inl is) = subst (λ (n : ℕ). IsShut (sending_half s n)) (eqb-true q id kept) (write_call_shut (is_open x.end.closing.state) s q (bytes_of buffers.items) (chunks_shut (write_answer (is_open x.end.closing.state) s q (bytes_of buffers.items)) buffers.items (same_chunks (Err write_errors.ClosedStream) (chunks_of (write_answer (is_open x.end.closing.state) s q (bytes_of buffers.items)) buffers.items) is)))
  written (calls.WriteChunks q buffers) (answers.WriteChunks (Err write_errors.ClosedStream)) kept (inr is) = cc
  written (calls.Finish q) (answers.Finish (Err finish_errors.ClosedStream)) kept (inl is) = subst (λ (n : ℕ). IsShut (sending_half s n)) (eqb-true q id kept) (finish_shut (sending_half s q) (same_finish (Err finish_errors.ClosedStream) (finish_answer s q) is))
  written (calls.Finish q) (answers.Finish (Err finish_errors.ClosedStream)) kept (inr is) = cc
  written call a kept is = cc

  writes_allowed : (call : Call) (a : Answer) → IsAt r i side call a → is_kept_from_writing id call a ≡ true → IsSentOff (until r side i) id ⊎ (only_receives side id ≡ true)
  writes_allowed call a event kept = elim (over_there (OffsetIn packets id) (EndIn packets id) (wrote x.told id) (first_limit s id) (at s.sending.halves.live id) (sends_on s.side id) (is_opened s id) (has_place s.side s.sending.halves.places id)
      (opened_there call a event (writes_used id call a kept)) (p.gives.0.1.acked.each id) (written call a kept (answered r p.world end i side call a p.goes_on event))) [
        | inl off ↦ inl off
        | inr none ↦ inr (only none)
      ]

  changed : (call : Call) (a : Answer) → is_kept_from_changing id call a ≡ true → IsAnswer x.policy (reads_window (control_at side p.world) (heard_at side p.world) call x.end) y.given call a → is_reset_at (sending_half s id) ≡ true
  changed (calls.Reset q code) (answers.Reset (Err update_errors.ClosedStream)) kept (inl is) = subst (λ (n : ℕ). is_reset_at (sending_half s n) ≡ true) (eqb-true q id kept) (reset_shut (is_reset_at (sending_half s q)) is)
  changed (calls.Reset q code) (answers.Reset (Err update_errors.ClosedStream)) kept (inr is) = cc
  changed (calls.SetPriority q priority) (answers.SetPriority (Err update_errors.ClosedStream)) kept (inl is) = subst (λ (n : ℕ). is_reset_at (sending_half s n) ≡ true) (eqb-true q id kept) (priority_shut (sending_half s q) is)
  changed (calls.SetPriority q priority) (answers.SetPriority (Err update_errors.ClosedStream)) kept (inr is) = cc
  changed call a kept is = cc

  theirs_are : took r (other_side side) i ≡ packets
  theirs_are = ap (λ (k : Intake). k.took) (took_there r honest p.world i side p.sents p.theirs)

  all_of : AllArrived (OffsetIn packets id) (EndIn packets id) (wrote x.told id) → headline.AllArrived (took r (other_side side) i) id (until r side i)
  all_of all = subst (λ (ps : List Packet). headline.AllArrived ps id (until r side i)) (sym theirs_are) (all_arrived p.sents (until r side i) packets p.gives.0.0.0.1.0.says p.gives.0.0.0.0.taken id all)

  resets_allowed : (call : Call) (a : Answer) → IsAt r i side call a → is_kept_from_changing id call a ≡ true → IsSome (reset id (until r side i)) ⊎ headline.AllArrived (took r (other_side side) i) id (until r side i) ⊎ (only_receives side id ≡ true)
  resets_allowed call a event kept = elim (settled_there (OffsetIn packets id) (EndIn packets id) (wrote x.told id) (first_limit s id) (at s.sending.halves.live id) (sends_on s.side id) (is_opened s id) (has_place s.side s.sending.halves.places id)
      (opened_there call a event (changes_used id call a kept)) (p.gives.0.1.acked.each id) (changed call a kept (answered r p.world end i side call a p.goes_on event))) [
        | inl settled ↦ by_settled settled
        | inr none ↦ inr (inr (only none))
      ]
    where
      by_settled : IsSettled (OffsetIn packets id) (EndIn packets id) (wrote x.told id) → IsSome (reset id (until r side i)) ⊎ headline.AllArrived (took r (other_side side) i) id (until r side i) ⊎ (only_receives side id ≡ true)
      by_settled (inl all) = inr (inl (all_of all))
      by_settled (inr cut) = inl cut

module _ (r : Run) (end : World) (honest : IsHonest r) (run : IsRun r end) where
  pub writes_are_allowed : WritesAreAllowed r
  writes_are_allowed side i id call a served event kept = writes_allowed r end honest side i id (placed Known known r end honest run side i served) call a event kept

  pub resets_are_allowed : ResetsAreAllowed r
  resets_are_allowed side i id call a served event kept = resets_allowed r end honest side i id (placed Known known r end honest run side i served) call a event kept
