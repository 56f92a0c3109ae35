-- The reference machine runs none of the broken runs.
use Rattle.std.proofs.Common.{◌≡◌, ℕ, List, [], ◌∷◌, ◌⊎◌, Option, Some, None, Result, Ok, Err, Bool, true, false, refl, sym, ◌∙◌, ◌++◌, inl, inr, ap, subst, arith}
use Rattle.std.specs.Prelude.{slice_index}
use Rattle.quic_wire_core.specs.StreamId.{other_side}
use Rattle.quic_assembler.specs.declared.assembler.Chunk.{Chunk}
use Rattle.quic_streams_parts.specs.declared.answers.ReadError.{ReadError}
use Rattle.quic_streams_parts.specs.declared.answers.ReadError.TheVariants as read_errors
use Rattle.quic_streams_parts.specs.declared.answers.FinishError.TheVariants as finish_errors
use Rattle.quic_machine.specs.declared.answers.Received.TheVariants as receives
use Rattle.quic_machine.specs.declared.answers.DropReason.TheVariants as drops
use Rattle.quic_machine.specs.declared.run.ReadCall.{ReadCall}
use Rattle.quic_machine.specs.declared.run.RunEvent.{RunEvent}
use Rattle.quic_machine.specs.declared.run.Answer.{Answer}
use Rattle.quic_machine.specs.declared.run.Answer.TheVariants as answers
use Rattle.quic_machine.specs.declared.run.View.{View}
use Rattle.quic_streams_state.specs.declared.state.StreamsState.{StreamsState}
use Rattle.quic_machine.specs.Calls.{end_tells}
use Rattle.quic_machine.specs.StreamCalls.{IsRead}
use Rattle.quic_machine.specs.Machine.{IsAnswer, IsStep, Follows, World, policy_at, end_met, given_by, fails}
use Rattle.quic_headline.specs.Runs.{Next}
use Rattle.quic_worked.specs.Acknowledged.{client_acked}
use Rattle.quic_worked.specs.Worked.{once_opened, once_written, writes_hello, finishes_stream, ReadsAs, ReadsBy, two_chunks, reads_stream, run_with, NextAnswers, gives_chunk, delivers, accepts_stream, sending_events, sending_answers, started, once_sent, once_taken, once_again, once_accepted, hello, worked_policies, worked_events}
use Rattle.quic_worked.specs.Broken.{sent_alone, NeverAnswers, IsNoRun, answers_with, duplicate, hellp, changed_nexts, repeated_nexts, early_nexts, changed_byte, repeated_bytes, unwritten_byte, early_end, unwritten_end, taken_twice, never_taken, blocked_read, never_accepted, early_finish, all_acked, all_told, asks_event, tells_finished, told_twice, never_told, early_acknowledgement}
use Rattle.quic_worked.specs.Reordered.{blocked_nexts}
use Rattle.quic_machine.specs.RunLaws.{one_world}
use Rattle.quic_worked.proofs.WorkedRun.{opens, writes, finishes, gives, takes, drops_duplicate, accepts}
use Rattle.quic_worked.proofs.Steps.{counts_so}

-- ---- where a run goes, and where it stops

never_behind : (views : List View) (w y end : World) (event : RunEvent) (a : Answer) (events : List RunEvent) (told : List Answer)
    → fails a ≡ false → IsStep worked_policies w event a y → NeverAnswers y events told
    → Follows worked_policies w (event ∷ events) (a ∷ told) views end → ⊥
never_behind [] w y end event a events told served step not_so f = f
never_behind (v ∷ views) w y end event a events told served step not_so f =
    let there = one_world worked_policies w event a f.0 y served f.1 step in
    not_so.never views end (subst (λ (m : World). Follows worked_policies m events told views end) there f.3)

-- what the machine never does from where a first step leads, it never does behind that step
pub behind : {w y : World} {event : RunEvent} {a : Answer} {events : List RunEvent} {told : List Answer} → fails a ≡ false
    → IsStep worked_policies w event a y → NeverAnswers y events told → NeverAnswers w (event ∷ events) (a ∷ told)
behind {w} {y} {event} {a} {events} {told} served step not_so =
    record { never = λ views end f. never_behind views w y end event a events told served step not_so f }

-- an event isn't answered so
abbrev pub IsRefused : World → RunEvent → Answer → Type 0
IsRefused w event a =
    IsAnswer (policy_at event.side worked_policies) (end_met w event) (given_by (other_side event.side) w) event.call a → ⊥

never_first : (views : List View) (w end : World) (event : RunEvent) (a : Answer) (events : List RunEvent) (told : List Answer)
    → IsRefused w event a → Follows worked_policies w (event ∷ events) (a ∷ told) views end → ⊥
never_first [] w end event a events told refused f = f
never_first (v ∷ views) w end event a events told refused f = refused f.1.answer

-- a run whose first answer isn't the machine's is none
pub stops : (w : World) (event : RunEvent) (a : Answer) (events : List RunEvent) (told : List Answer)
    → IsRefused w event a → NeverAnswers w (event ∷ events) (a ∷ told)
stops w event a events told refused =
    record { never = λ views end f. never_first views w end event a events told refused f }

-- behind the client's datagram
pub behind_sent : {events : List RunEvent} {told : List Answer}
    → NeverAnswers once_sent events told → NeverAnswers started (sending_events ++ events) (sending_answers ++ told)
behind_sent not_so = behind refl opens (behind refl writes (behind refl finishes (behind refl gives not_so)))

-- behind the accepted stream
pub behind_accepted : {events : List RunEvent} {told : List Answer} → NeverAnswers once_accepted events told
    → NeverAnswers once_sent
    (delivers ∷ delivers ∷ accepts_stream ∷ events)
    (answers.Deliver receives.Taken ∷ answers.Deliver duplicate ∷ answers.Accept (Some 0) ∷ told)
behind_accepted not_so = behind refl takes (behind refl drops_duplicate (behind refl accepts not_so))

-- what a read of a stream in an order and by bounds is answered
pub read_of : (s : StreamsState) (id : ℕ) (ordered : Bool) (mosts : List ℕ) (a : Answer) (read : ReadCall) → ReadsAs id ordered mosts read
    → IsRead s read.id read.ordered read.nexts.items a → IsRead s id ordered mosts a
read_of s id ordered mosts a read by h =
    let of_stream : IsRead s id read.ordered read.nexts.items a = subst (λ (n : ℕ). IsRead s n read.ordered read.nexts.items a) by.id h in
    let in_order : IsRead s id ordered read.nexts.items a = subst (λ (b : Bool). IsRead s id b read.nexts.items a) by.ordered of_stream in
    subst (λ (ms : List ℕ). IsRead s id ordered ms a) by.bounds in_order

-- a `next` is neither what the streams answer, which is this, nor lacks memory
pub not_next : (wrong answer right : Next) → answer ≡ right → (wrong ≡ right → ⊥) → (wrong ≡ Err read_errors.Memory → ⊥) → (wrong ≡ answer) ⊎ (wrong ≡ Err read_errors.Memory) → ⊥
not_next wrong answer right is other served (inl e) = other (e ∙ is)
not_next wrong answer right is other served (inr e) = served e

-- a read of two chunks isn't answered so
unread : (nexts : NextAnswers) → (IsRead once_accepted.server.streams 0 true two_chunks (answers.Read (Ok nexts)) → ⊥)
    → (read : ReadCall) → ReadsBy two_chunks read → IsRefused once_accepted (reads_stream read) (answers.Read (Ok nexts))
unread nexts not_so read by h =
    not_so (read_of once_accepted.server.streams 0 true two_chunks (answers.Read (Ok nexts)) read by h)

-- so no worked run reads so
pub never_reads : (nexts : NextAnswers) → (IsRead once_accepted.server.streams 0 true two_chunks (answers.Read (Ok nexts)) → ⊥)
    → (read : ReadCall) → ReadsBy two_chunks read
    → NeverAnswers started (worked_events read) (answers_with (Ok 5) (Ok tt) receives.Taken duplicate (Some 0) nexts)
never_reads nexts not_so read by = behind_sent (behind_accepted (stops _ _ _ _ _ (unread nexts not_so read by)))

-- ---- the first wrong answer of each

-- the fifth byte that a next gives
abbrev fifth_byte : Result (Option Chunk) ReadError → ℕ
fifth_byte (Ok (Some chunk)) = slice_index chunk.bytes 4
fifth_byte (Ok None) = 0
fifth_byte (Err e) = 0

pub other_chunk : (gives_chunk hellp ≡ gives_chunk hello) ⊎ (gives_chunk hellp ≡ Err read_errors.Memory) → ⊥
other_chunk (inl e) = let fifth : ◌≡◌ {A = ℕ} 112 111 = ap fifth_byte e in omega arith
other_chunk (inr e) = cc

changed_no : IsRead once_accepted.server.streams 0 true two_chunks (answers.Read (Ok changed_nexts)) → ⊥
unfolding once_taken
changed_no h = other_chunk h.1.0

repeated_no : IsRead once_accepted.server.streams 0 true two_chunks (answers.Read (Ok repeated_nexts)) → ⊥
unfolding once_taken
repeated_no h = elim (h.1.1.0) [ inl e ↦ cc | inr e ↦ cc ]

early_no : IsRead once_accepted.server.streams 0 true two_chunks (answers.Read (Ok early_nexts)) → ⊥
unfolding once_taken
early_no h = elim (h.1.0) [ inl e ↦ cc | inr e ↦ cc ]

blocked_no : IsRead once_accepted.server.streams 0 true two_chunks (answers.Read (Ok blocked_nexts)) → ⊥
unfolding once_taken
blocked_no h = elim (h.1.0) [ inl e ↦ cc | inr e ↦ cc ]

pub accept_no : IsRefused once_again accepts_stream (answers.Accept None)
unfolding once_taken
accept_no e = cc

unwritten_no : IsRefused once_opened writes_hello (answers.Write (Ok 4))
unwritten_no (inl e) = cc
unwritten_no (inr e) = cc

pub not_opened_no : IsRefused once_sent delivers (answers.Deliver (receives.Dropped drops.NotOpened))
unfolding once_taken
not_opened_no (inl e) = cc
not_opened_no (inr e) = cc

pub twice_no : IsRefused once_taken delivers (answers.Deliver receives.Taken)
unfolding once_taken
twice_no (inl e) = cc
twice_no (inr e) = cc

closed_no : IsRefused once_written finishes_stream (answers.Finish (Err finish_errors.ClosedStream))
closed_no (inl e) = cc
closed_no (inr e) = cc

-- ---- the runs

pub no_changed_byte : (read : ReadCall) → ReadsBy two_chunks read → IsNoRun (run_with read changed_byte)
no_changed_byte = never_reads changed_nexts changed_no

pub no_repeated_bytes : (read : ReadCall) → ReadsBy two_chunks read → IsNoRun (run_with read repeated_bytes)
no_repeated_bytes = never_reads repeated_nexts repeated_no

pub no_early_end : (read : ReadCall) → ReadsBy two_chunks read → IsNoRun (run_with read early_end)
no_early_end = never_reads early_nexts early_no

pub no_blocked_read : (read : ReadCall) → ReadsBy two_chunks read → IsNoRun (run_with read blocked_read)
no_blocked_read = never_reads blocked_nexts blocked_no

pub no_unwritten_byte : (read : ReadCall) → IsNoRun (run_with read unwritten_byte)
no_unwritten_byte read = behind refl opens (stops _ _ _ _ _ unwritten_no)

pub no_unwritten_end : (read : ReadCall) → IsNoRun (run_with read unwritten_end)
no_unwritten_end read = behind refl opens (behind refl writes (stops _ _ _ _ _ closed_no))

pub no_taken_twice : (read : ReadCall) → IsNoRun (run_with read taken_twice)
no_taken_twice read = behind_sent (behind refl takes (stops _ _ _ _ _ twice_no))

pub no_never_taken : (read : ReadCall) → IsNoRun (run_with read never_taken)
no_never_taken read = behind_sent (stops _ _ _ _ _ not_opened_no)

pub no_never_accepted : (read : ReadCall) → IsNoRun (run_with read never_accepted)
no_never_accepted read = behind_sent (behind refl takes (behind refl drops_duplicate (stops _ _ _ _ _ accept_no)))

-- the client tells nothing before an acknowledgement comes
tells_nothing : IsRefused sent_alone asks_event tells_finished
unfolding once_sent
tells_nothing is = cc

pub never_finishes : IsNoRun early_finish
never_finishes = stops _ _ _ _ _ tells_nothing

-- what is told of the stream once it is acknowledged: that it is finished, and nothing behind that
told_once : tells_finished ≡ answers.Event (end_tells all_acked.client)
unfolding client_acked
told_once = refl

nothing_more : IsRefused all_told asks_event tells_finished
unfolding client_acked
nothing_more is = cc

-- the stream is told to be finished once
tells_first : IsStep worked_policies all_acked asks_event tells_finished all_told
tells_first = record { answer = told_once; end = refl; control = refl; heard = counts_so worked_policies all_acked asks_event tells_finished; openings = tt; others = refl; lacking = tt }

pub never_twice : IsNoRun told_twice
never_twice = behind refl tells_first (stops _ _ _ _ _ nothing_more)

-- what is to be told is told
pub never_silent : IsNoRun never_told
never_silent = stops _ _ _ _ _ (λ silent. let is = told_once ∙ sym silent in cc)

-- nothing comes to the client that the server never gave
pub never_acknowledges : IsNoRun early_acknowledgement
never_acknowledges = stops _ _ _ _ _ (λ came. cc)
