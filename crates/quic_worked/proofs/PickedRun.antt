-- The run that is read in no order, event by event, and machines that go wrong there.
use Rattle.std.proofs.Common.{◌≡◌, ℕ, List, [], ◌∷◌, ◌++◌, drop, Some, Ok, Err, Bool, true, false, refl, inl, sym, ap, ◌∙◌, subst, arith}
use Rattle.std.specs.Prelude.{eqb, not, ◌==◌, ◌&&◌, if◌then◌else◌}
use Rattle.std.specs.List.{IsDistinct}
use Rattle.quic_wire_core.specs.declared.stream_id.Side.TheVariants.{Server}
use Rattle.quic_wire.specs.Value.{StreamValue}
use Rattle.quic_streams_parts.specs.declared.answers.ReadError.TheVariants as read_errors
use Rattle.quic_streams_state.specs.Reading.{told_bytes, after_read_begun, next_answer, after_next}
use Rattle.quic_machine.specs.declared.answers.Received.TheVariants as receives
use Rattle.quic_machine.specs.declared.run.ReadCall.{ReadCall}
use Rattle.quic_machine.specs.declared.run.RunEvent.{RunEvent}
use Rattle.quic_machine.specs.declared.run.Answer.{Answer}
use Rattle.quic_machine.specs.declared.run.Answer.TheVariants as answers
use Rattle.quic_machine.specs.declared.run.View.{View}
use Rattle.quic_machine.specs.StreamCalls.{IsRead}
use Rattle.quic_machine.specs.Machine.{IsStep, Follows, view_of}
use Rattle.quic_headline.specs.Runs.{Packet, Next, until, nexts, chunks_of, reads, offsets_of, only_in_order, HasArrived}
use Rattle.quic_headline.specs.Observer.{took}
use Rattle.quic_headline.specs.Headline.{NoneToGive, Once, BlockedOnlyWithoutBytes, IsHonest, IsRun}
use Rattle.quic_worked.specs.Worked.{with_server, NextAnswers, worked_policies, started, once_taken, reads_stream, sent_view, server_waiting}
use Rattle.quic_worked.specs.Reordered.{abc, def, abc_datagram, def_datagram, second_taken, second_accepted, delivers_at, blocked_nexts, reordered_events, reordered_views, def_packet}
use Rattle.quic_worked.specs.Broken.{NeverAnswers, IsNoRun}
use Rattle.quic_worked.specs.Picked.{picked_bounds, Picks, picks_at, picked_with, picked_as, picked_run, picked_once, picked_taken, picked_twice, again_nexts, picked_again, never_picked}
use Rattle.quic_worked.proofs.WorkedRun.{ReadsSo, reads_at}
use Rattle.quic_worked.proofs.ReorderedRun as reordered
use Rattle.quic_worked.proofs.Codes.{no_codes}
use Rattle.quic_worked.proofs.OwnIds.{honest}
use Rattle.quic_worked.proofs.BrokenRuns.{stops, behind, read_of, not_next}
use Rattle.quic_worked.proofs.Steps.{steps_so, StepsSo}

-- ---- the reads

-- what came first is given, and then nothing
first_so : ReadsSo second_accepted 0 false picked_bounds (picks_at 3 def) picked_once.server
unfolding second_taken
first_so = record { answer = (refl, (inl refl, (inl refl, tt))); lacking = (λ lacks. cc, (λ lacks. cc, tt)); end = refl }

first_only : picked_once ≡ with_server second_accepted picked_once.server
first_only = refl

reads_first : (read : ReadCall) → Picks read → IsStep worked_policies second_accepted (reads_stream read) (answers.Read (Ok (picks_at 3 def))) picked_once
reads_first = reads_at second_accepted picked_once 0 false picked_bounds (picks_at 3 def) first_so first_only

takes_abc : IsStep worked_policies picked_once (delivers_at 0) (answers.Deliver receives.Taken) picked_taken
unfolding picked_taken
takes_abc =
    let s : StepsSo worked_policies picked_once (delivers_at 0) (answers.Deliver receives.Taken) picked_taken = steps_so worked_policies picked_once (delivers_at 0) (answers.Deliver receives.Taken) refl in
    record { answer = inl refl; end = s.end; control = s.control; heard = s.heard; openings = tt; others = s.others; lacking = tt }

-- then what lacked
second_so : ReadsSo picked_taken 0 false picked_bounds (picks_at 0 abc) picked_twice.server
unfolding picked_taken
second_so = record { answer = (refl, (inl refl, (inl refl, tt))); lacking = (λ lacks. cc, (λ lacks. cc, tt)); end = refl }

second_only : picked_twice ≡ with_server picked_taken picked_twice.server
second_only = refl

reads_second : (read : ReadCall) → Picks read → IsStep worked_policies picked_taken (reads_stream read) (answers.Read (Ok (picks_at 0 abc))) picked_twice
reads_second = reads_at picked_taken picked_twice 0 false picked_bounds (picks_at 0 abc) second_so second_only

-- ---- what is seen

abbrev both_wait : View
both_wait = record { client = sent_view; server = server_waiting }

sees_first : both_wait ≡ view_of picked_once
unfolding second_taken
sees_first = refl

sees_taken : both_wait ≡ view_of picked_taken
unfolding picked_taken
sees_taken = refl

sees_second : both_wait ≡ view_of picked_twice
unfolding picked_taken
sees_second = refl

-- ---- the run

follows : (first second : ReadCall) → Picks first → Picks second → Follows worked_policies started (reordered_events first second) (picked_with (picks_at 3 def) (picks_at 0 abc)) reordered_views picked_twice
follows first second one two =
    reordered.until_accepted (drop 7 (reordered_events first second)) (drop 7 (picked_with (picks_at 3 def) (picks_at 0 abc))) (drop 7 reordered_views) picked_twice
    (picked_once, reads_first first one, sees_first, (picked_taken, takes_abc, sees_taken, (picked_twice, reads_second second two, sees_second, refl)))

gave_both : abc_datagram ∷ def_datagram ∷ [] ≡ picked_twice.from_client
unfolding picked_taken
gave_both = refl

gave_none : [] ≡ picked_twice.from_server
unfolding picked_taken
gave_none = refl

pub is_run : (first second : ReadCall) → Picks first → Picks second → IsRun (picked_run first second) picked_twice
is_run first second one two = record { codes = no_codes (picked_run first second).events refl; follows = follows first second one two; from_client = gave_both; from_server = gave_none }

-- ---- what was read

-- what the nexts of both reads answered
nexts_are : (said later : NextAnswers) (first second : ReadCall) → first.id ≡ 0 → second.id ≡ 0 → nexts 0 (until (picked_as said later first second) Server 10) ≡ said ++ (later ++ [])
nexts_are said later first second one two =
    ap (λ (n : ℕ). (if n == 0 then said else []) ++ ((if second.id == 0 then later else []) ++ [])) one
    ∙ ap (λ (n : ℕ). said ++ ((if n == 0 then later else []) ++ [])) two

pub reads_are : (first second : ReadCall) → first.id ≡ 0 → second.id ≡ 0
    → reads 0 (until (picked_run first second) Server 10) ≡ record { offset = 3; bytes = def } ∷ record { offset = 0; bytes = abc } ∷ []
reads_are first second one two = ap (λ (ns : List Next). chunks_of ns) (nexts_are (picks_at 3 def) (picks_at 0 abc) first second one two)

pub not_in_order : (first second : ReadCall) → first.id ≡ 0 → first.ordered ≡ false → only_in_order 0 (until (picked_run first second) Server 10) ≡ false
not_in_order first second one other =
    ap (λ (n : ℕ). not ((n == 0) && not first.ordered) && (not ((second.id == 0) && not second.ordered) && true)) one
    ∙ ap (λ (b : Bool). not (not b) && (not ((second.id == 0) && not second.ordered) && true)) other

-- ---- what is given again

-- behind the accepted stream
never_until_accepted : {events : List RunEvent} {told : List Answer} → NeverAnswers second_accepted events told → NeverAnswers started (reordered.front_events ++ events) (reordered.front_answers ++ told)
never_until_accepted not_so = behind refl reordered.opens (behind refl reordered.writes_abc (behind refl reordered.gives_abc (behind refl reordered.writes_def (behind refl reordered.gives_def (behind refl reordered.takes_def (behind refl reordered.accepts not_so))))))

pub again_once : (first second : ReadCall) → first.id ≡ 0 → second.id ≡ 0 → Once (picked_again first second) → ⊥
unfolding IsDistinct
again_once first second one two h =
    let distinct : IsDistinct eqb (offsets_of (chunks_of (picks_at 3 def ++ (again_nexts ++ [])))) = subst (λ (ns : List Next). IsDistinct eqb (offsets_of (chunks_of ns))) (nexts_are (picks_at 3 def) again_nexts first second one two) (h Server 0 10 refl) in
    let again : true ≡ false = distinct.0.1.1.1.1.1.0 in
    cc

second_blocked : next_answer told_bytes (after_next told_bytes (Ok (Some (record { offset = 0; bytes = abc }))) (after_read_begun picked_taken.server.streams 0 false) 0 32) 0 32 ≡ Err read_errors.Blocked
unfolding picked_taken
second_blocked = refl

again_no : IsRead picked_taken.server.streams 0 false picked_bounds (answers.Read (Ok again_nexts)) → ⊥
again_no h =
    not_next (Ok (Some (record { offset = 3; bytes = def }))) (next_answer told_bytes (after_next told_bytes (Ok (Some (record { offset = 0; bytes = abc }))) (after_read_begun picked_taken.server.streams 0 false) 0 32) 0 32) (Err read_errors.Blocked)
    second_blocked (λ e. cc) (λ e. cc) h.1.1.0

pub no_again : (first second : ReadCall) → Picks first → Picks second → IsNoRun (picked_again first second)
no_again first second one two =
    never_until_accepted (behind refl (reads_first first one) (behind refl takes_abc (stops _ _ _ _ _ (λ h. again_no (read_of picked_taken.server.streams 0 false picked_bounds (answers.Read (Ok again_nexts)) second two h)))))

-- ---- what came isn't given

abbrev def_frame : StreamValue
def_frame = record { id = 0; offset = 3; fin = false; bytes = def }

took_def : (first second : ReadCall) → took (never_picked first second) Server 7 ≡ def_packet ∷ []
unfolding once_taken
took_def first second = refl

third_came : (id : ℕ) → id ≡ 0 → HasArrived (def_packet ∷ []) id 3
third_came id e = record { frame = def_frame; taken = record { packet = def_packet; was_taken = inl refl; carried = inl refl }; of_stream = sym e; from = omega arith; below = omega arith }

pub never_blocks : (first second : ReadCall) → first.id ≡ 0 → first.ordered ≡ false → BlockedOnlyWithoutBytes (never_picked first second) → ⊥
never_blocks first second one other h =
    let none : NoneToGive false (took (never_picked first second) Server 7) first.id [] = subst (λ (b : Bool). NoneToGive b (took (never_picked first second) Server 7) first.id []) other (h Server 7 first [] [] refl (record { event = refl; answer = refl })).0 in
    none 3 (subst (λ (ps : List Packet). HasArrived ps first.id 3) (sym (took_def first second)) (third_came first.id one))

first_gives : next_answer told_bytes (after_read_begun second_accepted.server.streams 0 false) 0 32 ≡ Ok (Some (record { offset = 3; bytes = def }))
unfolding second_taken
first_gives = refl

never_no : IsRead second_accepted.server.streams 0 false picked_bounds (answers.Read (Ok blocked_nexts)) → ⊥
never_no h =
    not_next (Err read_errors.Blocked) (next_answer told_bytes (after_read_begun second_accepted.server.streams 0 false) 0 32) (Ok (Some (record { offset = 3; bytes = def })))
    first_gives (λ e. cc) (λ e. cc) h.1.0

pub no_never : (first second : ReadCall) → Picks first → IsNoRun (never_picked first second)
no_never first second one =
    never_until_accepted (stops _ _ _ _ _ (λ h. never_no (read_of second_accepted.server.streams 0 false picked_bounds (answers.Read (Ok blocked_nexts)) first one h)))

-- ---- the premises

-- whatever the reads are answered
pub is_honest : (said later : NextAnswers) (first second : ReadCall) → first.id ≡ 0 → second.id ≡ 0 → IsHonest (picked_as said later first second)
is_honest said later first second one two = honest (picked_as said later first second) (record { start = refl; keys = refl; client = (tt, (inl refl, (tt, (inl refl, (tt, (tt, (tt, (tt, (tt, (tt, tt)))))))))); server = (tt, (tt, (tt, (tt, (tt, (tt, (tt, (inl one, (tt, (inl two, tt)))))))))) })
