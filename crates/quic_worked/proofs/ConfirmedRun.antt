-- The run in which the handshake is said to be done, event by event, and machines that go wrong
-- there.
use Rattle.std.proofs.Common.{◌≡◌, ◌≤◌, ℕ, zero, suc, ◌&&◌, List, [], ◌∷◌, ◌++◌, take, Bool, true, false, Option, Some, None, Result, Ok, Err, refl, inl, inr, sym, ap, ◌∙◌, ◌⊎◌, subst, arith}
use Rattle.std.specs.Prelude.{slice_get}
use Rattle.std.proofs.lemmas.Bool.{both_ways}
use Rattle.quic_wire_core.specs.declared.stream_id.Side.{Side}
use Rattle.quic_wire_core.specs.declared.stream_id.Side.TheVariants.{Client, Server}
use Rattle.quic_wire_core.specs.declared.shared.EcnCodepoint.TheVariants.{Ect0}
use Rattle.quic_wire.specs.Value.{handshake_done}
use Rattle.quic_streams_parts.specs.Table.{Table}
use Rattle.quic_machine.specs.declared.answers.HandshakeDoneError.{HandshakeDoneError}
use Rattle.quic_machine.specs.declared.answers.HandshakeDoneError.TheVariants as done_errors
use Rattle.quic_machine.specs.declared.answers.Received.TheVariants as receives
use Rattle.quic_machine.specs.declared.run.RunEvent.{RunEvent}
use Rattle.quic_machine.specs.declared.run.Call.{Call}
use Rattle.quic_machine.specs.declared.run.Call.TheVariants as calls
use Rattle.quic_machine.specs.declared.run.Answer.{Answer}
use Rattle.quic_machine.specs.declared.run.Answer.TheVariants as answers
use Rattle.quic_machine.specs.Tracking.{TrackedPacket}
use Rattle.quic_machine.specs.Machine.{World, IsStep, Follows, view_of}
use Rattle.quic_headline.specs.Runs.{Packet, same_side, until, state_at, was_said_done, DoneHasArrived}
use Rattle.quic_headline.specs.Observer.{took, watch, sents_until}
use Rattle.quic_headline.specs.Headline.{IsAt, IsHonest, IsRun}
use Rattle.quic_headline.specs.InFlight.{is_handshake_done}
use Rattle.quic_headline.specs.Polls.{GaveOne}
use Rattle.quic_headline.specs.Duties.{Done, IsOwed, Waits, IsCarried, DutiesAt}
use Rattle.quic_headline.specs.Begins.{Frame, HasCause}
use Rattle.quic_headline.specs.Begins as begins
use Rattle.quic_headline.specs.Waited.{wants, stands, as_size_probe, as_loss_probe, as_ack, as_frames, as_close, EachWaited}
use Rattle.quic_headline.specs.Rest.{Rests, DoneAtRest}
use Rattle.quic_headline.specs.Confirmed.{answer_to_done, DoneIsExact, was_confirmed, ConfirmationIsTold}
use Rattle.quic_worked.specs.Worked.{after_event, worked_policies, gives_bytes, gives_unmarked}
use Rattle.quic_worked.specs.Acknowledged.{client_acked}
use Rattle.quic_worked.specs.Broken.{IsNoRun, NeverLeadsFrom}
use Rattle.quic_worked.specs.Paired.{asks_server, client_asks}
use Rattle.quic_worked.specs.Timed.{serves, asks_at, comes_at}
use Rattle.quic_worked.specs.Held.{gives_nothing}
use Rattle.quic_worked.specs.Rested.{rested_start}
use Rattle.quic_worked.specs.Confirmed.{says_it, is_said, isnt_said, tells_confirmed, tells_nothing, confirmed_events, confirmed_answers, once_confirmed, all_seen, unset_view, sent_view, heard_view, resting_view, done_packet, done_sent, confirmed_run, saying_seen, again_at_once, told_of_nothing, told_twice, never_told, forgotten_done, forgetting, given_unsaid, given_again, again_sent}
use Rattle.quic_worked.proofs.Codes.{no_codes}
use Rattle.quic_worked.proofs.OwnIds.{honest_from}
use Rattle.quic_worked.proofs.BrokenRuns.{IsRefused, stops, behind}
use Rattle.quic_worked.proofs.MessageRuns.{given_bytes}
use Rattle.quic_worked.proofs.RepeatedRuns.{alone_closes}
use Rattle.quic_worked.proofs.RestedRun.{rested_started, have_room}
use Rattle.quic_worked.proofs.Steps.{StepsSo, steps_at, steps_so}
use Rattle.quic_worked.proofs.Unmoved.{none_to_tell}
use Rattle.quic_worked.proofs.WrongRuns.{NeverEnds, ends_here, step_on}

-- ---- the machine's run

refused_first : IsStep worked_policies rested_start (says_it Client) (isnt_said done_errors.Client) (once_confirmed 1)
unfolding once_confirmed
refused_first =
    let s : StepsSo worked_policies rested_start (says_it Client) (isnt_said done_errors.Client) (once_confirmed 1) = steps_at worked_policies rested_start confirmed_events confirmed_answers 0 (says_it Client) (isnt_said done_errors.Client) _ _ refl refl refl in
    record { answer = refl; end = s.end; control = s.control; heard = s.heard; openings = tt; others = s.others; lacking = tt }

pub is_let : IsStep worked_policies (once_confirmed 1) (says_it Server) is_said (once_confirmed 2)
unfolding once_confirmed
is_let =
    let s : StepsSo worked_policies (once_confirmed 1) (says_it Server) is_said (once_confirmed 2) = steps_at worked_policies rested_start confirmed_events confirmed_answers 1 (says_it Server) is_said _ _ refl refl refl in
    record { answer = refl; end = s.end; control = s.control; heard = s.heard; openings = tt; others = s.others; lacking = tt }

refused_again : IsStep worked_policies (once_confirmed 2) (says_it Server) (isnt_said done_errors.Again) (once_confirmed 3)
unfolding once_confirmed
refused_again =
    let s : StepsSo worked_policies (once_confirmed 2) (says_it Server) (isnt_said done_errors.Again) (once_confirmed 3) = steps_at worked_policies rested_start confirmed_events confirmed_answers 2 (says_it Server) (isnt_said done_errors.Again) _ _ refl refl refl in
    record { answer = refl; end = s.end; control = s.control; heard = s.heard; openings = tt; others = s.others; lacking = tt }

pub gives_it : IsStep worked_policies (once_confirmed 3) asks_server (gives_bytes 223) (once_confirmed 4)
unfolding once_confirmed
gives_it =
    let s : StepsSo worked_policies (once_confirmed 3) asks_server (gives_bytes 223) (once_confirmed 4) = steps_at worked_policies rested_start confirmed_events confirmed_answers 3 asks_server (gives_bytes 223) _ _ refl refl refl in
    record { answer = inl refl; end = s.end; control = s.control; heard = s.heard; openings = tt; others = s.others; lacking = tt }

pub takes_it : IsStep worked_policies (once_confirmed 4) (comes_at Client 10000000) (answers.Deliver receives.Taken) (once_confirmed 5)
unfolding once_confirmed
takes_it =
    let s : StepsSo worked_policies (once_confirmed 4) (comes_at Client 10000000) (answers.Deliver receives.Taken) (once_confirmed 5) = steps_at worked_policies rested_start confirmed_events confirmed_answers 4 (comes_at Client 10000000) (answers.Deliver receives.Taken) _ _ refl refl refl in
    record { answer = inl refl; end = s.end; control = s.control; heard = s.heard; openings = tt; others = s.others; lacking = tt }

pub is_told : IsStep worked_policies (once_confirmed 5) client_asks tells_confirmed (once_confirmed 6)
unfolding once_confirmed
is_told =
    let s : StepsSo worked_policies (once_confirmed 5) client_asks tells_confirmed (once_confirmed 6) = steps_at worked_policies rested_start confirmed_events confirmed_answers 5 client_asks tells_confirmed _ _ refl refl refl in
    record { answer = refl; end = s.end; control = s.control; heard = s.heard; openings = tt; others = s.others; lacking = tt }

no_more : IsStep worked_policies (once_confirmed 6) client_asks tells_nothing (once_confirmed 7)
unfolding once_confirmed
no_more =
    let s : StepsSo worked_policies (once_confirmed 6) client_asks tells_nothing (once_confirmed 7) = steps_at worked_policies rested_start confirmed_events confirmed_answers 6 client_asks tells_nothing _ _ refl refl refl in
    record { answer = refl; end = s.end; control = s.control; heard = s.heard; openings = tt; others = s.others; lacking = tt }

client_due : IsStep worked_policies (once_confirmed 7) (serves Client 35000000) (answers.Timeout (Ok tt)) (once_confirmed 8)
unfolding once_confirmed
client_due =
    let s : StepsSo worked_policies (once_confirmed 7) (serves Client 35000000) (answers.Timeout (Ok tt)) (once_confirmed 8) = steps_at worked_policies rested_start confirmed_events confirmed_answers 7 (serves Client 35000000) (answers.Timeout (Ok tt)) _ _ refl refl refl in
    record { answer = inl refl; end = s.end; control = s.control; heard = s.heard; openings = tt; others = s.others; lacking = tt }

client_answers : IsStep worked_policies (once_confirmed 8) (asks_at Client 35000000) (gives_bytes 228) (once_confirmed 9)
unfolding once_confirmed
client_answers =
    let s : StepsSo worked_policies (once_confirmed 8) (asks_at Client 35000000) (gives_bytes 228) (once_confirmed 9) = steps_at worked_policies rested_start confirmed_events confirmed_answers 8 (asks_at Client 35000000) (gives_bytes 228) _ _ refl refl refl in
    record { answer = inl refl; end = s.end; control = s.control; heard = s.heard; openings = tt; others = s.others; lacking = tt }

is_answered : IsStep worked_policies (once_confirmed 9) (comes_at Server 40000000) (answers.Deliver receives.Taken) (once_confirmed 10)
unfolding once_confirmed
is_answered =
    let s : StepsSo worked_policies (once_confirmed 9) (comes_at Server 40000000) (answers.Deliver receives.Taken) (once_confirmed 10) = steps_at worked_policies rested_start confirmed_events confirmed_answers 9 (comes_at Server 40000000) (answers.Deliver receives.Taken) _ _ refl refl refl in
    record { answer = inl refl; end = s.end; control = s.control; heard = s.heard; openings = tt; others = s.others; lacking = tt }

server_due : IsStep worked_policies (once_confirmed 10) (serves Server 65000000) (answers.Timeout (Ok tt)) (once_confirmed 11)
unfolding once_confirmed
server_due =
    let s : StepsSo worked_policies (once_confirmed 10) (serves Server 65000000) (answers.Timeout (Ok tt)) (once_confirmed 11) = steps_at worked_policies rested_start confirmed_events confirmed_answers 10 (serves Server 65000000) (answers.Timeout (Ok tt)) _ _ refl refl refl in
    record { answer = inl refl; end = s.end; control = s.control; heard = s.heard; openings = tt; others = s.others; lacking = tt }

server_answers : IsStep worked_policies (once_confirmed 11) (asks_at Server 65000000) (gives_unmarked 32) (once_confirmed 12)
unfolding once_confirmed
server_answers =
    let s : StepsSo worked_policies (once_confirmed 11) (asks_at Server 65000000) (gives_unmarked 32) (once_confirmed 12) = steps_at worked_policies rested_start confirmed_events confirmed_answers 11 (asks_at Server 65000000) (gives_unmarked 32) _ _ refl refl refl in
    record { answer = inl refl; end = s.end; control = s.control; heard = s.heard; openings = tt; others = s.others; lacking = tt }

server_rests : IsStep worked_policies (once_confirmed 12) (asks_at Server 65000000) gives_nothing (once_confirmed 13)
unfolding once_confirmed
server_rests =
    let s : StepsSo worked_policies (once_confirmed 12) (asks_at Server 65000000) gives_nothing (once_confirmed 13) = steps_at worked_policies rested_start confirmed_events confirmed_answers 12 (asks_at Server 65000000) gives_nothing _ _ refl refl refl in
    record { answer = inl refl; end = s.end; control = s.control; heard = s.heard; openings = tt; others = s.others; lacking = tt }

seen_first : unset_view ≡ view_of (once_confirmed 1)
unfolding once_confirmed
seen_first = refl

seen_said : unset_view ≡ view_of (once_confirmed 2)
unfolding once_confirmed
seen_said = refl

seen_still : unset_view ≡ view_of (once_confirmed 3)
unfolding once_confirmed
seen_still = refl

seen_given : sent_view ≡ view_of (once_confirmed 4)
unfolding once_confirmed
seen_given = refl

seen_taken : heard_view ≡ view_of (once_confirmed 5)
unfolding once_confirmed
seen_taken = refl

seen_told : heard_view ≡ view_of (once_confirmed 6)
unfolding once_confirmed
seen_told = refl

seen_rest : heard_view ≡ view_of (once_confirmed 7)
unfolding once_confirmed
seen_rest = refl

seen_due : sent_view ≡ view_of (once_confirmed 8)
unfolding once_confirmed
seen_due = refl

seen_answer : (all_seen (Some 1059000000) None (Some 1024000000) None) ≡ view_of (once_confirmed 9)
unfolding once_confirmed
seen_answer = refl

seen_answered : (all_seen (Some 1059000000) None None (Some 65000000)) ≡ view_of (once_confirmed 10)
unfolding once_confirmed
seen_answered = refl

seen_server_due : resting_view ≡ view_of (once_confirmed 11)
unfolding once_confirmed
seen_server_due = refl

seen_server_answer : resting_view ≡ view_of (once_confirmed 12)
unfolding once_confirmed
seen_server_answer = refl

seen_last : resting_view ≡ view_of (once_confirmed 13)
unfolding once_confirmed
seen_last = refl

follows : Follows confirmed_run.keys confirmed_run.start confirmed_run.events confirmed_run.answers confirmed_run.views (once_confirmed 13)
follows = (once_confirmed 1, refused_first, seen_first, (once_confirmed 2, is_let, seen_said, (once_confirmed 3, refused_again, seen_still, (once_confirmed 4, gives_it, seen_given, (once_confirmed 5, takes_it, seen_taken, (once_confirmed 6, is_told, seen_told, (once_confirmed 7, no_more, seen_rest, (once_confirmed 8, client_due, seen_due, (once_confirmed 9, client_answers, seen_answer, (once_confirmed 10, is_answered, seen_answered, (once_confirmed 11, server_due, seen_server_due, (once_confirmed 12, server_answers, seen_server_answer, (once_confirmed 13, server_rests, seen_last, refl)))))))))))))

gave_one : confirmed_run.from_client ≡ (once_confirmed 13).from_client
unfolding once_confirmed
gave_one = refl

gave_two : confirmed_run.from_server ≡ (once_confirmed 13).from_server
unfolding once_confirmed
gave_two = refl

pub confirmed_is_run : IsRun confirmed_run (once_confirmed 13)
confirmed_is_run = record { codes = no_codes confirmed_run.events refl; follows = follows; from_client = gave_one; from_server = gave_two }

pub confirmed_is_honest : IsHonest confirmed_run
confirmed_is_honest = honest_from rested_start rested_started confirmed_run (record { start = refl; keys = refl; client = (tt, (tt, (tt, (tt, (tt, (tt, (tt, (tt, (tt, (tt, (tt, (tt, (tt, tt))))))))))))); server = (tt, (tt, (tt, (tt, (tt, (tt, (tt, (tt, (tt, (tt, (tt, (tt, (tt, tt))))))))))))) })

-- ---- what is answered

-- whether an event is a call at an end that passes a test
abbrev happens : (Call → Bool) → Side → Option RunEvent → Bool
happens test side None = false
happens test side (Some event) = test event.call && same_side event.side side

-- where none is, no such call stands
none_happens : (test : Call → Bool) (side : Side) (call : Call) (at : Option RunEvent) → test call ≡ true → at ≡ Some (record { side = side; call = call }) → happens test side at ≡ false → ⊥
none_happens test Client call at passes is none = let clash : true ≡ false = sym (ap (λ (b : Bool). b && true) passes) ∙ sym (ap (λ (o : Option RunEvent). happens test Client o) is) ∙ none in cc
none_happens test Server call at passes is none = let clash : true ≡ false = sym (ap (λ (b : Bool). b && true) passes) ∙ sym (ap (λ (o : Option RunEvent). happens test Server o) is) ∙ none in cc

-- whether a call says that the handshake is done
abbrev says : Call → Bool
says calls.HandshakeDone = true
says call = false

-- whether it asks what is to be told
abbrev asks : Call → Bool
asks calls.Event = true
asks call = false

-- nobody says so there
unsaid : (side : Side) (i : ℕ) (answer : Result (Unit {0}) HandshakeDoneError) → IsAt confirmed_run i side calls.HandshakeDone (answers.HandshakeDone answer) → happens says side (slice_get confirmed_run.events i) ≡ false → ⊥
unsaid side i answer at none = none_happens says side calls.HandshakeDone (slice_get confirmed_run.events i) refl at.event none

-- what an answer says
said_first : (answer told : Result (Unit {0}) HandshakeDoneError) → Some (answers.HandshakeDone told) ≡ Some (answers.HandshakeDone answer) → answer ≡ told
said_first answer told is = let same : told ≡ answer = cc in sym same

let_first : answer_to_done Server (was_said_done (until confirmed_run Server 1)) (state_at confirmed_run Server 1) ≡ Ok tt
let_first = refl

not_again : answer_to_done Server (was_said_done (until confirmed_run Server 2)) (state_at confirmed_run Server 2) ≡ Err done_errors.Again
not_again = refl

pub confirmed_exact : DoneIsExact confirmed_run
confirmed_exact Client zero answer served at = said_first answer (Err done_errors.Client) at.answer
confirmed_exact Server (suc zero) answer served at = said_first answer (Ok tt) at.answer ∙ sym let_first
confirmed_exact Server (suc (suc zero)) answer served at = said_first answer (Err done_errors.Again) at.answer ∙ sym not_again
confirmed_exact Client (suc zero) answer served at = absurd (unsaid Client _ answer at refl)
confirmed_exact Client (suc (suc zero)) answer served at = absurd (unsaid Client _ answer at refl)
confirmed_exact Client (suc (suc (suc zero))) answer served at = absurd (unsaid Client _ answer at refl)
confirmed_exact Client (suc (suc (suc (suc zero)))) answer served at = absurd (unsaid Client _ answer at refl)
confirmed_exact Client (suc (suc (suc (suc (suc zero))))) answer served at = absurd (unsaid Client _ answer at refl)
confirmed_exact Client (suc (suc (suc (suc (suc (suc zero)))))) answer served at = absurd (unsaid Client _ answer at refl)
confirmed_exact Client (suc (suc (suc (suc (suc (suc (suc zero))))))) answer served at = absurd (unsaid Client _ answer at refl)
confirmed_exact Client (suc (suc (suc (suc (suc (suc (suc (suc zero)))))))) answer served at = absurd (unsaid Client _ answer at refl)
confirmed_exact Client (suc (suc (suc (suc (suc (suc (suc (suc (suc zero))))))))) answer served at = absurd (unsaid Client _ answer at refl)
confirmed_exact Client (suc (suc (suc (suc (suc (suc (suc (suc (suc (suc zero)))))))))) answer served at = absurd (unsaid Client _ answer at refl)
confirmed_exact Client (suc (suc (suc (suc (suc (suc (suc (suc (suc (suc (suc zero))))))))))) answer served at = absurd (unsaid Client _ answer at refl)
confirmed_exact Client (suc (suc (suc (suc (suc (suc (suc (suc (suc (suc (suc (suc zero)))))))))))) answer served at = absurd (unsaid Client _ answer at refl)
confirmed_exact Client (suc (suc (suc (suc (suc (suc (suc (suc (suc (suc (suc (suc (suc i))))))))))))) answer served at = absurd (unsaid Client _ answer at refl)
confirmed_exact Server zero answer served at = absurd (unsaid Server _ answer at refl)
confirmed_exact Server (suc (suc (suc zero))) answer served at = absurd (unsaid Server _ answer at refl)
confirmed_exact Server (suc (suc (suc (suc zero)))) answer served at = absurd (unsaid Server _ answer at refl)
confirmed_exact Server (suc (suc (suc (suc (suc zero))))) answer served at = absurd (unsaid Server _ answer at refl)
confirmed_exact Server (suc (suc (suc (suc (suc (suc zero)))))) answer served at = absurd (unsaid Server _ answer at refl)
confirmed_exact Server (suc (suc (suc (suc (suc (suc (suc zero))))))) answer served at = absurd (unsaid Server _ answer at refl)
confirmed_exact Server (suc (suc (suc (suc (suc (suc (suc (suc zero)))))))) answer served at = absurd (unsaid Server _ answer at refl)
confirmed_exact Server (suc (suc (suc (suc (suc (suc (suc (suc (suc zero))))))))) answer served at = absurd (unsaid Server _ answer at refl)
confirmed_exact Server (suc (suc (suc (suc (suc (suc (suc (suc (suc (suc zero)))))))))) answer served at = absurd (unsaid Server _ answer at refl)
confirmed_exact Server (suc (suc (suc (suc (suc (suc (suc (suc (suc (suc (suc zero))))))))))) answer served at = absurd (unsaid Server _ answer at refl)
confirmed_exact Server (suc (suc (suc (suc (suc (suc (suc (suc (suc (suc (suc (suc zero)))))))))))) answer served at = absurd (unsaid Server _ answer at refl)
confirmed_exact Server (suc (suc (suc (suc (suc (suc (suc (suc (suc (suc (suc (suc (suc i))))))))))))) answer served at = absurd (unsaid Server _ answer at refl)

-- ---- what is told

took_done : took confirmed_run Client 5 ≡ done_packet ∷ []
unfolding client_acked
took_done = refl

done_there : DoneHasArrived (done_packet ∷ [])
done_there = record { packet = done_packet; was_taken = inl refl; carried = inl refl }

pub has_come : DoneHasArrived (took confirmed_run Client 5)
has_come = subst (λ (ps : List Packet). DoneHasArrived ps) (sym took_done) done_there

not_before : was_confirmed (until confirmed_run Client 5) ≡ false
not_before = refl

told_before : was_confirmed (until confirmed_run Client 6) ≡ true
told_before = refl

-- nobody asks there what is to be told
unasked : (side : Side) (i : ℕ) (a : Answer) → IsAt confirmed_run i side calls.Event a → happens asks side (slice_get confirmed_run.events i) ≡ false → ⊥
unasked side i a at none = none_happens asks side calls.Event (slice_get confirmed_run.events i) refl at.event none

-- what is told isn't nothing
not_nothing : Some tells_confirmed ≡ Some tells_nothing → ⊥
not_nothing is = cc

pub confirmed_told : ConfirmationIsTold confirmed_run
confirmed_told Client (suc (suc (suc (suc (suc zero))))) served = (λ at. (refl, has_come, not_before), λ at is came. absurd (not_nothing at.answer))
confirmed_told Client (suc (suc (suc (suc (suc (suc zero)))))) served = (λ at. absurd (not_nothing (sym at.answer)), λ at is came. told_before)
confirmed_told Client zero served = (λ at. absurd (unasked Client _ tells_confirmed at refl), λ at is came. absurd (unasked Client _ tells_nothing at refl))
confirmed_told Client (suc zero) served = (λ at. absurd (unasked Client _ tells_confirmed at refl), λ at is came. absurd (unasked Client _ tells_nothing at refl))
confirmed_told Client (suc (suc zero)) served = (λ at. absurd (unasked Client _ tells_confirmed at refl), λ at is came. absurd (unasked Client _ tells_nothing at refl))
confirmed_told Client (suc (suc (suc zero))) served = (λ at. absurd (unasked Client _ tells_confirmed at refl), λ at is came. absurd (unasked Client _ tells_nothing at refl))
confirmed_told Client (suc (suc (suc (suc zero)))) served = (λ at. absurd (unasked Client _ tells_confirmed at refl), λ at is came. absurd (unasked Client _ tells_nothing at refl))
confirmed_told Client (suc (suc (suc (suc (suc (suc (suc zero))))))) served = (λ at. absurd (unasked Client _ tells_confirmed at refl), λ at is came. absurd (unasked Client _ tells_nothing at refl))
confirmed_told Client (suc (suc (suc (suc (suc (suc (suc (suc zero)))))))) served = (λ at. absurd (unasked Client _ tells_confirmed at refl), λ at is came. absurd (unasked Client _ tells_nothing at refl))
confirmed_told Client (suc (suc (suc (suc (suc (suc (suc (suc (suc zero))))))))) served = (λ at. absurd (unasked Client _ tells_confirmed at refl), λ at is came. absurd (unasked Client _ tells_nothing at refl))
confirmed_told Client (suc (suc (suc (suc (suc (suc (suc (suc (suc (suc zero)))))))))) served = (λ at. absurd (unasked Client _ tells_confirmed at refl), λ at is came. absurd (unasked Client _ tells_nothing at refl))
confirmed_told Client (suc (suc (suc (suc (suc (suc (suc (suc (suc (suc (suc zero))))))))))) served = (λ at. absurd (unasked Client _ tells_confirmed at refl), λ at is came. absurd (unasked Client _ tells_nothing at refl))
confirmed_told Client (suc (suc (suc (suc (suc (suc (suc (suc (suc (suc (suc (suc zero)))))))))))) served = (λ at. absurd (unasked Client _ tells_confirmed at refl), λ at is came. absurd (unasked Client _ tells_nothing at refl))
confirmed_told Client (suc (suc (suc (suc (suc (suc (suc (suc (suc (suc (suc (suc (suc i))))))))))))) served = (λ at. absurd (unasked Client _ tells_confirmed at refl), λ at is came. absurd (unasked Client _ tells_nothing at refl))
confirmed_told Server zero served = (λ at. absurd (unasked Server _ tells_confirmed at refl), λ at is came. absurd (unasked Server _ tells_nothing at refl))
confirmed_told Server (suc zero) served = (λ at. absurd (unasked Server _ tells_confirmed at refl), λ at is came. absurd (unasked Server _ tells_nothing at refl))
confirmed_told Server (suc (suc zero)) served = (λ at. absurd (unasked Server _ tells_confirmed at refl), λ at is came. absurd (unasked Server _ tells_nothing at refl))
confirmed_told Server (suc (suc (suc zero))) served = (λ at. absurd (unasked Server _ tells_confirmed at refl), λ at is came. absurd (unasked Server _ tells_nothing at refl))
confirmed_told Server (suc (suc (suc (suc zero)))) served = (λ at. absurd (unasked Server _ tells_confirmed at refl), λ at is came. absurd (unasked Server _ tells_nothing at refl))
confirmed_told Server (suc (suc (suc (suc (suc zero))))) served = (λ at. absurd (unasked Server _ tells_confirmed at refl), λ at is came. absurd (unasked Server _ tells_nothing at refl))
confirmed_told Server (suc (suc (suc (suc (suc (suc zero)))))) served = (λ at. absurd (unasked Server _ tells_confirmed at refl), λ at is came. absurd (unasked Server _ tells_nothing at refl))
confirmed_told Server (suc (suc (suc (suc (suc (suc (suc zero))))))) served = (λ at. absurd (unasked Server _ tells_confirmed at refl), λ at is came. absurd (unasked Server _ tells_nothing at refl))
confirmed_told Server (suc (suc (suc (suc (suc (suc (suc (suc zero)))))))) served = (λ at. absurd (unasked Server _ tells_confirmed at refl), λ at is came. absurd (unasked Server _ tells_nothing at refl))
confirmed_told Server (suc (suc (suc (suc (suc (suc (suc (suc (suc zero))))))))) served = (λ at. absurd (unasked Server _ tells_confirmed at refl), λ at is came. absurd (unasked Server _ tells_nothing at refl))
confirmed_told Server (suc (suc (suc (suc (suc (suc (suc (suc (suc (suc zero)))))))))) served = (λ at. absurd (unasked Server _ tells_confirmed at refl), λ at is came. absurd (unasked Server _ tells_nothing at refl))
confirmed_told Server (suc (suc (suc (suc (suc (suc (suc (suc (suc (suc (suc zero))))))))))) served = (λ at. absurd (unasked Server _ tells_confirmed at refl), λ at is came. absurd (unasked Server _ tells_nothing at refl))
confirmed_told Server (suc (suc (suc (suc (suc (suc (suc (suc (suc (suc (suc (suc zero)))))))))))) served = (λ at. absurd (unasked Server _ tells_confirmed at refl), λ at is came. absurd (unasked Server _ tells_nothing at refl))
confirmed_told Server (suc (suc (suc (suc (suc (suc (suc (suc (suc (suc (suc (suc (suc i))))))))))))) served = (λ at. absurd (unasked Server _ tells_confirmed at refl), λ at is came. absurd (unasked Server _ tells_nothing at refl))

-- ---- the server rests

pub server_at_rest : Rests confirmed_run Server 13
server_at_rest = record { front = take 6 (until confirmed_run Server 13); now = 65000000; last = refl; view = resting_view; shown = refl; is_open = refl; validated = refl; still = record { no_loss_timer = refl; no_ack_timer = refl; no_pacing_timer = refl } }

pub said_at_rest : was_said_done (until confirmed_run Server 13) ≡ true
said_at_rest = refl

took_at_rest : took confirmed_run Client 13 ≡ done_packet ∷ []
unfolding client_acked
took_at_rest = refl

pub come_at_rest : DoneHasArrived (took confirmed_run Client 13)
come_at_rest = subst (λ (ps : List Packet). DoneHasArrived ps) (sym took_at_rest) done_there

-- ---- where it is until then

pub done_is_owed : (used : ℕ) → IsOwed used (once_confirmed 2).server (sents_until confirmed_run Server 2) (until confirmed_run Server 2) Done
done_is_owed used = refl

pub done_waits : Waits (once_confirmed 2).server Done
unfolding once_confirmed
done_waits = record { due = refl; queued = refl }

pub done_flies : IsCarried (once_confirmed 4).server.tracking.packets Done
unfolding once_confirmed
done_flies = inl refl

pub done_has_cause : HasCause saying_seen (Frame begins.Done)
done_has_cause = inl refl

pub done_wanted : (wants confirmed_run Server 3).done ≡ true
done_wanted = refl

-- ---- it was said before

again_answered : answer_to_done Server (was_said_done (until again_at_once Server 0)) (state_at again_at_once Server 0) ≡ Ok tt
again_answered = refl

pub again_exact : DoneIsExact again_at_once → ⊥
again_exact h = let clash : ◌≡◌ {A = Result (Unit {0}) HandshakeDoneError} (Err done_errors.Again) (Ok tt) = h Server 0 (Err done_errors.Again) refl (record { event = refl; answer = refl }) ∙ again_answered in cc

pub again_is_honest : IsHonest again_at_once
again_is_honest = honest_from rested_start rested_started again_at_once (record { start = refl; keys = refl; client = (tt, tt); server = (tt, tt) })

again_no : IsRefused rested_start (says_it Server) (isnt_said done_errors.Again)
again_no is = cc

pub again_is_none : IsNoRun again_at_once
again_is_none = stops _ _ _ _ _ again_no

-- ---- what is told of no frame, twice, or not at all

none_came : DoneHasArrived [] → ⊥
none_came d = d.was_taken

pub told_of_nothing_shows : ConfirmationIsTold told_of_nothing → ⊥
told_of_nothing_shows h = none_came ((h Client 0 refl).0 (record { event = refl; answer = refl })).1

pub told_of_nothing_is_honest : IsHonest told_of_nothing
told_of_nothing_is_honest = honest_from rested_start rested_started told_of_nothing (record { start = refl; keys = refl; client = (tt, tt); server = (tt, tt) })

nothing_to_tell : IsRefused rested_start client_asks tells_confirmed
nothing_to_tell is = cc

pub told_of_nothing_is_none : IsNoRun told_of_nothing
told_of_nothing_is_none = stops _ _ _ _ _ nothing_to_tell

was_told : was_confirmed (until told_twice Client 6) ≡ true
was_told = refl

pub told_twice_shows : ConfirmationIsTold told_twice → ⊥
told_twice_shows h = both_ways (was_confirmed (until told_twice Client 6)) ((h Client 6 refl).0 (record { event = refl; answer = refl })).2 was_told

pub told_twice_is_honest : IsHonest told_twice
told_twice_is_honest = honest_from rested_start rested_started told_twice (record { start = refl; keys = refl; client = (tt, (tt, (tt, (tt, (tt, (tt, (tt, tt))))))); server = (tt, (tt, (tt, (tt, (tt, (tt, (tt, tt))))))) })

twice_no : IsRefused (once_confirmed 6) client_asks tells_confirmed
unfolding once_confirmed
twice_no is = cc

pub told_twice_is_none : IsNoRun told_twice
told_twice_is_none = behind refl refused_first (behind refl is_let (behind refl refused_again (behind refl gives_it (behind refl takes_it (behind refl is_told (stops _ _ _ _ _ twice_no))))))

took_untold : took never_told Client 5 ≡ done_packet ∷ []
unfolding client_acked
took_untold = refl

was_untold : was_confirmed (until never_told Client 5) ≡ false
was_untold = refl

pub never_told_shows : ConfirmationIsTold never_told → ⊥
never_told_shows h = both_ways (was_confirmed (until never_told Client 5)) was_untold ((h Client 5 refl).1 (record { event = refl; answer = refl }) refl (subst (λ (ps : List Packet). DoneHasArrived ps) (sym took_untold) done_there))

pub never_told_is_honest : IsHonest never_told
never_told_is_honest = honest_from rested_start rested_started never_told (record { start = refl; keys = refl; client = (tt, (tt, (tt, (tt, (tt, (tt, tt)))))); server = (tt, (tt, (tt, (tt, (tt, (tt, tt)))))) })

untold_no : IsRefused (once_confirmed 5) client_asks tells_nothing
unfolding once_confirmed
untold_no is = cc

pub never_told_is_none : IsNoRun never_told
never_told_is_none = behind refl refused_first (behind refl is_let (behind refl refused_again (behind refl gives_it (behind refl takes_it (stops _ _ _ _ _ untold_no)))))

-- ---- HANDSHAKE_DONE is forgotten

forgotten_rests : Rests forgotten_done Server 2
forgotten_rests = record { front = take 1 (until forgotten_done Server 2); now = 0; last = refl; view = unset_view; shown = refl; is_open = refl; validated = refl; still = record { no_loss_timer = refl; no_ack_timer = refl; no_pacing_timer = refl } }

pub forgotten_shows : DoneAtRest forgotten_done → ⊥
forgotten_shows h = none_came (h Server 2 refl have_room forgotten_rests refl)

pub forgotten_is_honest : IsHonest forgotten_done
forgotten_is_honest = honest_from rested_start rested_started forgotten_done (record { start = refl; keys = refl; client = (tt, (tt, tt)); server = (tt, (tt, tt)) })

-- the server behind the call alone
unfoldable once_said : World
unfolding once_confirmed
once_said = after_event worked_policies rested_start (says_it Server) is_said

lets_it : IsStep worked_policies rested_start (says_it Server) is_said once_said
unfolding once_said
lets_it =
    let s : StepsSo worked_policies rested_start (says_it Server) is_said once_said = steps_so worked_policies rested_start (says_it Server) is_said refl in
    record { answer = refl; end = s.end; control = s.control; heard = s.heard; openings = tt; others = s.others; lacking = tt }

forgotten_no : IsRefused once_said asks_server gives_nothing
unfolding once_said
forgotten_no (inl e) = cc
forgotten_no (inr e) = cc

pub forgotten_is_none : IsNoRun forgotten_done
forgotten_is_none = behind refl lets_it (stops _ _ _ _ _ forgotten_no)

-- behind the call it is nowhere
nothing_due : forgetting.server.waiting.frames.handshake_done ≡ false
nothing_due = refl

nothing_flies : forgetting.server.tracking.packets ≡ []
unfolding once_confirmed
nothing_flies = refl

none_taken : took confirmed_run Client 2 ≡ []
none_taken = refl

nowhere : Waits forgetting.server Done ⊎ (IsCarried forgetting.server.tracking.packets Done ⊎ DoneHasArrived (took confirmed_run Client 2)) → ⊥
nowhere (inl waits) = both_ways forgetting.server.waiting.frames.handshake_done nothing_due waits.due
nowhere (inr (inl flies)) = subst (λ (ps : Table TrackedPacket). IsCarried ps Done) nothing_flies flies
nowhere (inr (inr came)) = none_came (subst (λ (ps : List Packet). DoneHasArrived ps) none_taken came)

pub forgetting_shows : DutiesAt confirmed_run 2 forgetting → ⊥
forgetting_shows stands = nowhere (stands Server (λ n. false) Done (none_to_tell confirmed_run Server (λ n. false) refl) refl)

still_due : (once_confirmed 2).server.waiting.frames.handshake_done ≡ true
unfolding once_confirmed
still_due = refl

not_forgetting : forgetting ≡ once_confirmed 2 → ⊥
not_forgetting e = both_ways (once_confirmed 2).server.waiting.frames.handshake_done (sym (ap (λ (w : World). w.server.waiting.frames.handshake_done) e)) still_due

leads_elsewhere : NeverEnds (λ w. forgetting ≡ w) rested_start (take 2 confirmed_events) (take 2 confirmed_answers)
leads_elsewhere = step_on refl refused_first (step_on refl is_let (ends_here not_forgetting))

pub never_forgetting : NeverLeadsFrom rested_start (take 2 confirmed_events) (take 2 confirmed_answers) forgetting
never_forgetting views f = leads_elsewhere.never views forgetting f refl

-- ---- HANDSHAKE_DONE that nobody asked for

unsaid_went : sents_until given_unsaid Server 1 ≡ sents_until given_unsaid Server 0 ++ done_sent ∷ []
unfolding client_acked
unsaid_went = refl

not_wanted : (wants given_unsaid Server 0).done ≡ false
not_wanted = refl

no_probe_waits : (watch given_unsaid Server 0).flight.probes ≡ 0
no_probe_waits = refl

gave_unsaid : GaveOne given_unsaid Server 0 0
gave_unsaid = record { transmit = record { size = 223; ecn = Some Ect0; remote = 0 }; poll = record { event = refl; answer = refl }; served = refl; sent = done_sent; went = unsaid_went }

pub unsaid_shows : EachWaited given_unsaid → ⊥
unfolding gave_unsaid
unsaid_shows h = elim (h Server 0 0 gave_unsaid) [
  | as_size_probe probe ↦ (let above : 1200 ≤ 223 = probe.above in absurd (omega (arith, above)))
  | as_loss_probe waits ↦ (let none = no_probe_waits in absurd (omega (arith, waits, none)))
  | as_ack none frames wanted ↦ (let clash : true ≡ false = none in cc)
  | as_frames asks each ↦ both_ways (wants given_unsaid Server 0).done not_wanted (each handshake_done (inl refl)).0
  | as_close closes ↦ (let clash : false ≡ true = alone_closes done_sent closes in cc)
]

pub unsaid_is_honest : IsHonest given_unsaid
unsaid_is_honest = honest_from rested_start rested_started given_unsaid (record { start = refl; keys = refl; client = (tt, tt); server = (tt, tt) })

unsaid_no : IsRefused rested_start asks_server (gives_bytes 223)
unfolding once_confirmed
unsaid_no (inl e) = let clash : ◌≡◌ {A = ℕ} 223 222 = ap given_bytes e in omega (arith, clash)
unsaid_no (inr e) = cc

pub unsaid_is_none : IsNoRun given_unsaid
unsaid_is_none = stops _ _ _ _ _ unsaid_no

-- ---- HANDSHAKE_DONE again

again_went : sents_until given_again Server 3 ≡ sents_until given_again Server 2 ++ again_sent ∷ []
unfolding client_acked
again_went = refl

it_stands : stands is_handshake_done (wants given_again Server 2).since ≡ true
unfolding client_acked
it_stands = refl

no_probe_again : (watch given_again Server 2).flight.probes ≡ 0
unfolding client_acked
no_probe_again = refl

gave_again : GaveOne given_again Server 2 0
gave_again = record { transmit = record { size = 29; ecn = Some Ect0; remote = 0 }; poll = record { event = refl; answer = refl }; served = refl; sent = again_sent; went = again_went }

pub given_again_shows : EachWaited given_again → ⊥
unfolding gave_again
given_again_shows h = elim (h Server 2 0 gave_again) [
  | as_size_probe probe ↦ (let above : 1200 ≤ 29 = probe.above in absurd (omega (arith, above)))
  | as_loss_probe waits ↦ (let none = no_probe_again in absurd (omega (arith, waits, none)))
  | as_ack none frames wanted ↦ (let clash : true ≡ false = none in cc)
  | as_frames asks each ↦ both_ways (stands is_handshake_done (wants given_again Server 2).since) (each handshake_done (inl refl)).1 it_stands
  | as_close closes ↦ (let clash : false ≡ true = alone_closes again_sent closes in cc)
]

pub given_again_is_honest : IsHonest given_again
given_again_is_honest = honest_from rested_start rested_started given_again (record { start = refl; keys = refl; client = (tt, (tt, (tt, tt))); server = (tt, (tt, (tt, tt))) })

-- the server gave it
unfoldable once_given : World
unfolding once_said
once_given = after_event worked_policies once_said asks_server (gives_bytes 223)

gives_one : IsStep worked_policies once_said asks_server (gives_bytes 223) once_given
unfolding once_given
gives_one =
    let s : StepsSo worked_policies once_said asks_server (gives_bytes 223) once_given = steps_so worked_policies once_said asks_server (gives_bytes 223) refl in
    record { answer = inl refl; end = s.end; control = s.control; heard = s.heard; openings = tt; others = s.others; lacking = tt }

given_again_no : IsRefused once_given asks_server (gives_bytes 29)
unfolding once_given
given_again_no (inl e) = cc
given_again_no (inr e) = cc

pub given_again_is_none : IsNoRun given_again
given_again_is_none = behind refl lets_it (behind refl gives_one (stops _ _ _ _ _ given_again_no))
