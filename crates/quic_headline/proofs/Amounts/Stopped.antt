-- No byte is written on a stream that the peer stopped, and none is said to be that it didn't stop:
-- at each place of an honest run.
use Rattle.std.proofs.Common.{◌≡◌, ℕ, Bool, true, false, List, [], length, min, take, Option, Some, None, Result, Ok, Err, inl, inr, refl, sym, ap, ◌∙◌, eqb-true}
use Rattle.std.specs.Prelude.{◌==◌, if◌then◌else◌}
use Rattle.std.specs.Option.{is_some}
use Rattle.quic_wire_core.specs.StreamId.{other_side}
use Rattle.quic_send_buffer.specs.Source.{bytes_of}
use Rattle.quic_streams_parts.specs.declared.answers.WriteError.{WriteError}
use Rattle.quic_streams_parts.specs.declared.answers.WriteError.TheVariants as write_errors
use Rattle.quic_streams_parts.specs.declared.answers.FinishError.{FinishError}
use Rattle.quic_streams_parts.specs.declared.answers.FinishError.TheVariants as finish_errors
use Rattle.quic_streams_parts.specs.SendHalf.{SendHalf, room_on, is_ready, taken_unless, written_to, finish_unless, finish_of}
use Rattle.quic_streams_state.specs.declared.state.StreamsState.{StreamsState}
use Rattle.quic_streams_state.specs.State.{sending_half, room}
use Rattle.quic_streams_state.specs.Writing.{write_answer, chunks_of, finish_answer}
use Rattle.quic_machine.specs.declared.answers.State.{State}
use Rattle.quic_machine.specs.declared.answers.State.TheVariants as states
use Rattle.quic_machine.specs.declared.run.Call.{Call}
use Rattle.quic_machine.specs.declared.run.Call.TheVariants as calls
use Rattle.quic_machine.specs.declared.run.Answer.{Answer}
use Rattle.quic_machine.specs.declared.run.Answer.TheVariants as answers
use Rattle.quic_machine.specs.Calls.{is_open}
use Rattle.quic_machine.specs.Machine.{World, IsAnswer, reads_window, control_at, heard_at}
use Rattle.quic_headline.specs.Runs.{Run, Intake, until, written_by, joined}
use Rattle.quic_headline.specs.Headline.{IsHonest, IsRun}
use Rattle.quic_headline.specs.Amounts.{was_stopped}
use Rattle.quic_headline.specs.Stopped.{StoppedTakeNothing, is_told_stopped, StoppedOnlyWhereAsked}
use Rattle.quic_headline.proofs.Places.Openings.{took_is}
use Rattle.quic_headline.proofs.Places.Parties.{Party, came_to}
use Rattle.quic_headline.proofs.Places.Placed.{Placed, placed, party_at, answered}
use Rattle.quic_headline.proofs.Amounts.Tally.{half_tallied}
use Rattle.quic_headline.proofs.Amounts.Group.{tally_of}
use Rattle.quic_headline.proofs.Amounts.Clause.{Whole, whole}

-- what a write is answered on a part that was stopped
never_takes : (o : Option SendHalf) → ((h : SendHalf) → o ≡ Some h → is_some h.stopped ≡ true) → (left len n : ℕ) → written_to o left len ≡ Ok n → ⊥
never_takes None stopped left len n is = cc
never_takes (Some h) stopped left len n is = go (left == 0) (is_ready h) h.stopped (stopped h refl) is
  where
    go : (b u : Bool) (o : Option ℕ) → is_some o ≡ true → ◌≡◌ {A = Result ℕ WriteError} (if b then Err write_errors.Blocked else (if u then taken_unless o h left len else Err write_errors.ClosedStream)) (Ok n) → ⊥
    go true u o some e = cc
    go false false o some e = cc
    go false true None some e = cc
    go false true (Some code) some e = cc

-- no byte is written by a call that takes none on its stream
none_written : (id q : ℕ) (bytes : List ℕ) (o : Result ℕ WriteError) → (q ≡ id → (n : ℕ) → o ≡ Ok n → ⊥) → written_by id (calls.Write q bytes) (answers.Write o) ≡ []
none_written id q bytes (Err e) never = refl
none_written id q bytes (Ok n) never = go (q == id) refl
  where
    go : (b : Bool) → (q == id) ≡ b → (if b then take n bytes else []) ≡ []
    go true same = absurd (never (eqb-true q id same) n refl)
    go false same = refl

none_in_chunks : (id q : ℕ) (chunks : _) (o : Result ℕ WriteError) → (q ≡ id → (n : ℕ) → o ≡ Ok n → ⊥) → written_by id (calls.WriteChunks q chunks) (answers.WriteChunks (chunks_of o chunks.items)) ≡ []
none_in_chunks id q chunks (Err e) never = refl
none_in_chunks id q chunks (Ok n) never = go (q == id) refl
  where
    go : (b : Bool) → (q == id) ≡ b → (if b then take n (joined chunks.items) else []) ≡ []
    go true same = absurd (never (eqb-true q id same) n refl)
    go false same = refl

pub stopped_take_nothing : (r : Run) (end : World) → IsHonest r → IsRun r end → StoppedTakeNothing r
stopped_take_nothing r end honest run side i id call a served at stopped = by_call call a (answered r p.world end i side call a p.goes_on at)
  where
    p : Placed Whole r end side i
    p = placed Whole whole r end honest run side i served

    x : Party
    x = party_at r i p.world side p.sents

    y : Party
    y = party_at r i p.world (other_side side) p.theirs

    s : StreamsState
    s = x.end.streams

    stopped_there : was_stopped id (came_to x y).took ≡ true
    stopped_there = ap (λ (k : Intake). was_stopped id k.took) (sym (took_is r honest p.world i side p.sents p.theirs)) ∙ stopped

    half_stopped : x.end.closing.state ≡ states.Open → (h : SendHalf) → sending_half s id ≡ Some h → is_some h.stopped ≡ true
    half_stopped open_now h there = (half_tallied (tally_of x.made.streams (came_to x y).took (until r side i)) s id h there (p.gives.1.0.still open_now).halves).stopped ∙ stopped_there

    never : (state : State) → x.end.closing.state ≡ state → (len n : ℕ) → write_answer (is_open state) s id len ≡ Ok n → ⊥
    never states.Open here len n is = never_takes (sending_half s id) (half_stopped here) (room s.sending) len n is
    never states.Closing here len n is = cc
    never states.Drained here len n is = cc
    never states.Failed here len n is = cc

    never_on : (q len : ℕ) → q ≡ id → (n : ℕ) → write_answer (is_open x.end.closing.state) s q len ≡ Ok n → ⊥
    never_on q len same n is = never x.end.closing.state refl len n (ap (λ (m : ℕ). write_answer (is_open x.end.closing.state) s m len) (sym same) ∙ is)

    by_call : (call : Call) (a : Answer) → IsAnswer x.policy (reads_window (control_at side p.world) (heard_at side p.world) call x.end) y.given call a → written_by id call a ≡ []
    by_call (calls.Write q bytes) a (inl is) = ap (written_by id (calls.Write q bytes)) is ∙ none_written id q bytes (write_answer (is_open x.end.closing.state) s q (length bytes)) (never_on q (length bytes))
    by_call (calls.Write q bytes) a (inr is) = ap (written_by id (calls.Write q bytes)) is
    by_call (calls.WriteChunks q chunks) a (inl is) = ap (written_by id (calls.WriteChunks q chunks)) is ∙ none_in_chunks id q chunks (write_answer (is_open x.end.closing.state) s q (bytes_of chunks.items)) (never_on q (bytes_of chunks.items))
    by_call (calls.WriteChunks q chunks) a (inr is) = ap (written_by id (calls.WriteChunks q chunks)) is
    by_call call a is = refl

-- ---- what is said to be stopped

-- a half that the peer stopped
record IsHalted (o : Option SendHalf) : Type 0 where
  half : SendHalf
  there : o ≡ Some half
  stopped : is_some half.stopped ≡ true

finish_halted : (o : Option SendHalf) (code : ℕ) → finish_of o ≡ Err (finish_errors.Stopped code) → IsHalted o
finish_halted None code is = cc
finish_halted (Some h) code is = record { half = h; there = refl; stopped = by_stop h.stopped is }
  where
    by_ready : (u : Bool) → ◌≡◌ {A = Result (Unit {0}) FinishError} (if u then Ok tt else Err finish_errors.ClosedStream) (Err (finish_errors.Stopped code)) → ⊥
    by_ready true e = cc
    by_ready false e = cc

    by_stop : (p : Option ℕ) → finish_unless p h ≡ Err (finish_errors.Stopped code) → is_some p ≡ true
    by_stop None e = absurd (by_ready (is_ready h) e)
    by_stop (Some c) e = refl

write_halted : (o : Option SendHalf) (left len code : ℕ) → written_to o left len ≡ Err (write_errors.Stopped code) → IsHalted o
write_halted None left len code is = cc
write_halted (Some h) left len code is = record { half = h; there = refl; stopped = by_room (left == 0) (is_ready h) is }
  where
    takes : (b : Bool) (n : ℕ) → ◌≡◌ {A = Result ℕ WriteError} (if b then Err write_errors.Blocked else Ok n) (Err (write_errors.Stopped code)) → ⊥
    takes true n e = cc
    takes false n e = cc

    by_stop : (p : Option ℕ) → taken_unless p h left len ≡ Err (write_errors.Stopped code) → is_some p ≡ true
    by_stop None e = absurd (takes (room_on h == 0) (min len (min left (room_on h))) e)
    by_stop (Some c) e = refl

    by_room : (b u : Bool) → ◌≡◌ {A = Result ℕ WriteError} (if b then Err write_errors.Blocked else (if u then taken_unless h.stopped h left len else Err write_errors.ClosedStream)) (Err (write_errors.Stopped code)) → is_some h.stopped ≡ true
    by_room true u e = cc
    by_room false true e = by_stop h.stopped e
    by_room false false e = cc

-- so is that on which a call is said to be stopped
told_by_write : (id q : ℕ) (bytes : List ℕ) (o : Result ℕ WriteError) → is_told_stopped id (calls.Write q bytes) (answers.Write o) ≡ true → (q ≡ id) × (code : ℕ) × (o ≡ Err (write_errors.Stopped code))
told_by_write id q bytes (Ok n) told = cc
told_by_write id q bytes (Err write_errors.Blocked) told = cc
told_by_write id q bytes (Err (write_errors.Stopped code)) told = (eqb-true q id told, code, refl)
told_by_write id q bytes (Err write_errors.ClosedStream) told = cc
told_by_write id q bytes (Err write_errors.Memory) told = cc

told_by_chunks : (id q : ℕ) (chunks : _) (o : Result ℕ WriteError) → is_told_stopped id (calls.WriteChunks q chunks) (answers.WriteChunks (chunks_of o chunks.items)) ≡ true → (q ≡ id) × (code : ℕ) × (o ≡ Err (write_errors.Stopped code))
told_by_chunks id q chunks (Ok n) told = cc
told_by_chunks id q chunks (Err write_errors.Blocked) told = cc
told_by_chunks id q chunks (Err (write_errors.Stopped code)) told = (eqb-true q id told, code, refl)
told_by_chunks id q chunks (Err write_errors.ClosedStream) told = cc
told_by_chunks id q chunks (Err write_errors.Memory) told = cc

told_by_finish : (id q : ℕ) (o : Result (Unit {0}) FinishError) → is_told_stopped id (calls.Finish q) (answers.Finish o) ≡ true → (q ≡ id) × (code : ℕ) × (o ≡ Err (finish_errors.Stopped code))
told_by_finish id q (Ok x) told = cc
told_by_finish id q (Err (finish_errors.Stopped code)) told = (eqb-true q id told, code, refl)
told_by_finish id q (Err finish_errors.ClosedStream) told = cc
told_by_finish id q (Err finish_errors.Memory) told = cc

pub stopped_only_where_asked : (r : Run) (end : World) → IsHonest r → IsRun r end → StoppedOnlyWhereAsked r
stopped_only_where_asked r end honest run side i id call a served opened at told =
    let half = halted call a told (answered r p.world end i side call a p.goes_on at) in
    ap (λ (k : Intake). was_stopped id k.took) (took_is r honest p.world i side p.sents p.theirs)
    ∙ sym (half_tallied (tally_of x.made.streams (came_to x y).took (until r side i)) s id half.half half.there (p.gives.1.0.still is_open_now).halves).stopped
    ∙ half.stopped
  where
    p : Placed Whole r end side i
    p = placed Whole whole r end honest run side i served

    x : Party
    x = party_at r i p.world side p.sents

    y : Party
    y = party_at r i p.world (other_side side) p.theirs

    s : StreamsState
    s = x.end.streams

    is_open_now : x.end.closing.state ≡ states.Open
    is_open_now = p.state ∙ opened

    by_write : (len code : ℕ) → write_answer (is_open x.end.closing.state) s id len ≡ Err (write_errors.Stopped code) → IsHalted (sending_half s id)
    by_write len code is = write_halted (sending_half s id) (room s.sending) len code (ap (λ (t : State). write_answer (is_open t) s id len) (sym is_open_now) ∙ is)

    halted : (call : Call) (a : Answer) → is_told_stopped id call a ≡ true → IsAnswer x.policy (reads_window (control_at side p.world) (heard_at side p.world) call x.end) y.given call a → IsHalted (sending_half s id)
    halted (calls.Write q bytes) a so (inl is) =
        let by = told_by_write id q bytes (write_answer (is_open x.end.closing.state) s q (length bytes)) (sym (ap (is_told_stopped id (calls.Write q bytes)) is) ∙ so) in
        by_write (length bytes) by.1 (ap (λ (n : ℕ). write_answer (is_open x.end.closing.state) s n (length bytes)) (sym by.0) ∙ by.2)
    halted (calls.Write q bytes) a so (inr is) = (let clash : false ≡ true = sym (ap (is_told_stopped id (calls.Write q bytes)) is) ∙ so in cc)
    halted (calls.WriteChunks q chunks) a so (inl is) =
        let len : ℕ = bytes_of chunks.items in
        let by = told_by_chunks id q chunks (write_answer (is_open x.end.closing.state) s q len) (sym (ap (is_told_stopped id (calls.WriteChunks q chunks)) is) ∙ so) in
        by_write len by.1 (ap (λ (n : ℕ). write_answer (is_open x.end.closing.state) s n len) (sym by.0) ∙ by.2)
    halted (calls.WriteChunks q chunks) a so (inr is) = (let clash : false ≡ true = sym (ap (is_told_stopped id (calls.WriteChunks q chunks)) is) ∙ so in cc)
    halted (calls.Finish q) a so (inl is) =
        let by = told_by_finish id q (finish_answer s q) (sym (ap (is_told_stopped id (calls.Finish q)) is) ∙ so) in
        finish_halted (sending_half s id) by.1 (ap (λ (n : ℕ). finish_answer s n) (sym by.0) ∙ by.2)
    halted (calls.Finish q) a so (inr is) = (let clash : false ≡ true = sym (ap (is_told_stopped id (calls.Finish q)) is) ∙ so in cc)
    halted call a so is = cc
