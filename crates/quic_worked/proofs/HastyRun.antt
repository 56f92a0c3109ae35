-- The run in which an ACK frame is due and goes, event by event, and those of servers that let it
-- wait.
use Rattle.std.proofs.Common.{◌≡◌, ℕ, Bool, true, false, List, [], ◌∷◌, drop, Some, None, Ok, refl, inl, inr, sym, subst}
use Rattle.quic_wire_core.specs.declared.stream_id.Side.{Side}
use Rattle.quic_wire_core.specs.declared.stream_id.Side.TheVariants.{Client, Server}
use Rattle.quic_wire.specs.AckReading.{ecn_at}
use Rattle.quic_machine.specs.declared.answers.Received.TheVariants as receives
use Rattle.quic_machine.specs.declared.run.Answer.TheVariants as answers
use Rattle.quic_machine.specs.Machine.{World, IsStep, Follows, view_of}
use Rattle.quic_headline.specs.Runs.{Run, Packet, In}
use Rattle.quic_headline.specs.Observer.{Sent, watch, sents_until}
use Rattle.quic_headline.specs.Headline.{IsHonest, IsRun}
use Rattle.quic_headline.specs.Moments.{acknowledges, went}
use Rattle.quic_headline.specs.Rest.{unanswered, IsUnacknowledged}
use Rattle.quic_headline.specs.AcksDue.{is_due, AcksAreDue}
use Rattle.quic_worked.specs.Worked.{ran_so_far, ran, worked_policies, started, asks_datagram, gives_bytes}
use Rattle.quic_worked.specs.Acknowledged.{client_acked}
use Rattle.quic_worked.specs.Reordered.{delivers_at}
use Rattle.quic_worked.specs.Losses.{asks_ping, server_waits, server_polled}
use Rattle.quic_worked.specs.Paired.{asks_server}
use Rattle.quic_worked.specs.Timed.{seen_with, timed_run}
use Rattle.quic_worked.specs.Measured.{measured_run}
use Rattle.quic_worked.specs.Held.{gives_nothing}
use Rattle.quic_worked.specs.Broken.{IsNoRun}
use Rattle.quic_worked.specs.Hasty.{hasty_events, hasty_answers, marked_events, answers_marked, once_hasty, hasty_run, ping_packet, many_wait, gap_events, gap_answers, gap_waits, comes_marked, once_marked, marked_run, mark_waits, late_waits, first_packet}
use Rattle.quic_worked.proofs.Codes.{no_codes}
use Rattle.quic_worked.proofs.OwnIds.{AreOwn, own_ids}
use Rattle.quic_worked.proofs.BrokenRuns.{IsRefused, stops, behind}
use Rattle.quic_worked.proofs.WorkedHonest.{are_started}
use Rattle.quic_worked.proofs.WorkedKeys.{are_keys}
use Rattle.quic_worked.proofs.Steps.{steps_so, steps_at, StepsSo}
use Rattle.quic_worked.proofs.Validated.{unless_limited}

-- ---- the machine's run

pub step_0 : IsStep worked_policies started asks_ping answers.Ping (once_hasty 1)
unfolding once_hasty
step_0 =
    let s : StepsSo worked_policies started asks_ping answers.Ping (once_hasty 1) = steps_at worked_policies started hasty_events hasty_answers 0 asks_ping answers.Ping _ _ refl refl refl in
    record { answer = refl; end = s.end; control = s.control; heard = s.heard; openings = tt; others = s.others; lacking = tt }

pub seen_0 : seen_with None None ≡ view_of (once_hasty 1)
unfolding once_hasty
seen_0 = refl

pub step_1 : IsStep worked_policies (once_hasty 1) asks_datagram (gives_bytes 223) (once_hasty 2)
unfolding once_hasty
step_1 =
    let s : StepsSo worked_policies (once_hasty 1) asks_datagram (gives_bytes 223) (once_hasty 2) = steps_at worked_policies started hasty_events hasty_answers 1 asks_datagram (gives_bytes 223) _ _ refl refl refl in
    record { answer = inl refl; end = s.end; control = s.control; heard = s.heard; openings = tt; others = s.others; lacking = tt }

pub seen_1 : seen_with (Some 1024000000) None ≡ view_of (once_hasty 2)
unfolding once_hasty
seen_1 = refl

pub step_2 : IsStep worked_policies (once_hasty 2) asks_ping answers.Ping (once_hasty 3)
unfolding once_hasty
step_2 =
    let s : StepsSo worked_policies (once_hasty 2) asks_ping answers.Ping (once_hasty 3) = steps_at worked_policies started hasty_events hasty_answers 2 asks_ping answers.Ping _ _ refl refl refl in
    record { answer = refl; end = s.end; control = s.control; heard = s.heard; openings = tt; others = s.others; lacking = tt }

pub seen_2 : seen_with (Some 1024000000) None ≡ view_of (once_hasty 3)
unfolding once_hasty
seen_2 = refl

pub step_3 : IsStep worked_policies (once_hasty 3) asks_datagram (gives_bytes 29) (once_hasty 4)
unfolding once_hasty
step_3 =
    let s : StepsSo worked_policies (once_hasty 3) asks_datagram (gives_bytes 29) (once_hasty 4) = steps_at worked_policies started hasty_events hasty_answers 3 asks_datagram (gives_bytes 29) _ _ refl refl refl in
    record { answer = inl refl; end = s.end; control = s.control; heard = s.heard; openings = tt; others = s.others; lacking = tt }

pub seen_3 : seen_with (Some 1024000000) None ≡ view_of (once_hasty 4)
unfolding once_hasty
seen_3 = refl

pub step_4 : IsStep worked_policies (once_hasty 4) (delivers_at 0) (answers.Deliver receives.Taken) (once_hasty 5)
unfolding once_hasty
step_4 =
    let s : StepsSo worked_policies (once_hasty 4) (delivers_at 0) (answers.Deliver receives.Taken) (once_hasty 5) = steps_at worked_policies started hasty_events hasty_answers 4 (delivers_at 0) (answers.Deliver receives.Taken) _ _ refl refl refl in
    record { answer = inl refl; end = s.end; control = s.control; heard = s.heard; openings = tt; others = s.others; lacking = tt }

pub seen_4 : seen_with (Some 1024000000) (Some 25000000) ≡ view_of (once_hasty 5)
unfolding once_hasty
seen_4 = refl

pub step_5 : IsStep worked_policies (once_hasty 5) (delivers_at 1) (answers.Deliver receives.Taken) (once_hasty 6)
unfolding once_hasty
step_5 =
    let s : StepsSo worked_policies (once_hasty 5) (delivers_at 1) (answers.Deliver receives.Taken) (once_hasty 6) = steps_at worked_policies started hasty_events hasty_answers 5 (delivers_at 1) (answers.Deliver receives.Taken) _ _ refl refl refl in
    record { answer = inl refl; end = s.end; control = s.control; heard = s.heard; openings = tt; others = s.others; lacking = tt }

seen_5 : seen_with (Some 1024000000) (Some 25000000) ≡ view_of (once_hasty 6)
unfolding once_hasty
seen_5 = refl

pub step_6 : IsStep worked_policies (once_hasty 6) asks_server (gives_bytes 31) (once_hasty 7)
unfolding once_hasty
step_6 =
    let s : StepsSo worked_policies (once_hasty 6) asks_server (gives_bytes 31) (once_hasty 7) = steps_at worked_policies started hasty_events hasty_answers 6 asks_server (gives_bytes 31) _ _ refl refl refl in
    record { answer = inl refl; end = s.end; control = s.control; heard = s.heard; openings = tt; others = s.others; lacking = tt }

seen_6 : seen_with (Some 1024000000) None ≡ view_of (once_hasty 7)
unfolding once_hasty
seen_6 = refl

follows : Follows hasty_run.keys hasty_run.start hasty_run.events hasty_run.answers hasty_run.views (once_hasty 7)
follows = (once_hasty 1, step_0, seen_0, (once_hasty 2, step_1, seen_1, (once_hasty 3, step_2, seen_2, (once_hasty 4, step_3, seen_3, (once_hasty 5, step_4, seen_4, (once_hasty 6, step_5, seen_5, (once_hasty 7, step_6, seen_6, refl)))))))

gave_two : hasty_run.from_client ≡ (once_hasty 7).from_client
unfolding once_hasty
gave_two = refl

gave_one : hasty_run.from_server ≡ (once_hasty 7).from_server
unfolding once_hasty
gave_one = refl

pub hasty_is_run : IsRun hasty_run (once_hasty 7)
hasty_is_run = record { codes = no_codes hasty_run.events refl; follows = follows; from_client = gave_two; from_server = gave_one }

own : (side : Side) → AreOwn side [] hasty_run.events hasty_run.answers hasty_run.views
own Client = (tt, (tt, (tt, (tt, (tt, (tt, (tt, tt)))))))
own Server = (tt, (tt, (tt, (tt, (tt, (tt, (tt, tt)))))))

pub hasty_is_honest : IsHonest hasty_run
hasty_is_honest = record { start = are_started; keys = are_keys; ids = own_ids hasty_run own }

-- ---- what is due in it

pub not_yet : is_due hasty_run Server 5 ≡ false
unfolding client_acked
not_yet = refl

pub due_now : is_due hasty_run Server 6 ≡ true
unfolding client_acked
due_now = refl

pub both_wait : unanswered hasty_run Server 6 ≡ ping_packet 1 ∷ first_packet ∷ []
unfolding client_acked
both_wait = refl

pub one_goes : acknowledges (went (watch hasty_run Server 6) (watch hasty_run Server 7)) ≡ true
unfolding client_acked
one_goes = refl

pub due_no_more : is_due hasty_run Server 7 ≡ false
unfolding client_acked
due_no_more = refl

pub never_due : is_due hasty_run Client 7 ≡ false
unfolding client_acked
never_due = refl

-- ---- one that bears the mark of congestion

pub marked_0 : IsStep worked_policies started asks_ping answers.Ping (once_marked 1)
unfolding once_marked
marked_0 =
    let s : StepsSo worked_policies started asks_ping answers.Ping (once_marked 1) = steps_at worked_policies started marked_events (answers_marked (gives_bytes 34)) 0 asks_ping answers.Ping _ _ refl refl refl in
    record { answer = refl; end = s.end; control = s.control; heard = s.heard; openings = tt; others = s.others; lacking = tt }

pub marked_seen_0 : seen_with None None ≡ view_of (once_marked 1)
unfolding once_marked
marked_seen_0 = refl

pub marked_1 : IsStep worked_policies (once_marked 1) asks_datagram (gives_bytes 223) (once_marked 2)
unfolding once_marked
marked_1 =
    let s : StepsSo worked_policies (once_marked 1) asks_datagram (gives_bytes 223) (once_marked 2) = steps_at worked_policies started marked_events (answers_marked (gives_bytes 34)) 1 asks_datagram (gives_bytes 223) _ _ refl refl refl in
    record { answer = inl refl; end = s.end; control = s.control; heard = s.heard; openings = tt; others = s.others; lacking = tt }

pub marked_seen_1 : seen_with (Some 1024000000) None ≡ view_of (once_marked 2)
unfolding once_marked
marked_seen_1 = refl

pub marked_2 : IsStep worked_policies (once_marked 2) comes_marked (answers.Deliver receives.Taken) (once_marked 3)
unfolding once_marked
marked_2 =
    let s : StepsSo worked_policies (once_marked 2) comes_marked (answers.Deliver receives.Taken) (once_marked 3) = steps_at worked_policies started marked_events (answers_marked (gives_bytes 34)) 2 comes_marked (answers.Deliver receives.Taken) _ _ refl refl refl in
    record { answer = inl refl; end = s.end; control = s.control; heard = s.heard; openings = tt; others = s.others; lacking = tt }

pub marked_seen_2 : seen_with (Some 1024000000) None ≡ view_of (once_marked 3)
unfolding once_marked
marked_seen_2 = refl

pub marked_3 : IsStep worked_policies (once_marked 3) asks_server (gives_bytes 34) (once_marked 4)
unfolding once_marked
marked_3 =
    let s : StepsSo worked_policies (once_marked 3) asks_server (gives_bytes 34) (once_marked 4) = steps_at worked_policies started marked_events (answers_marked (gives_bytes 34)) 3 asks_server (gives_bytes 34) _ _ refl refl refl in
    record { answer = inl refl; end = s.end; control = s.control; heard = s.heard; openings = tt; others = s.others; lacking = tt }

pub marked_seen_3 : seen_with (Some 1024000000) None ≡ view_of (once_marked 4)
unfolding once_marked
marked_seen_3 = refl

marked_follows : Follows marked_run.keys marked_run.start marked_run.events marked_run.answers marked_run.views (once_marked 4)
marked_follows = (once_marked 1, marked_0, marked_seen_0, (once_marked 2, marked_1, marked_seen_1, (once_marked 3, marked_2, marked_seen_2, (once_marked 4, marked_3, marked_seen_3, refl))))

marked_gave_one : marked_run.from_client ≡ (once_marked 4).from_client
unfolding once_marked
marked_gave_one = refl

marked_gave_ack : marked_run.from_server ≡ (once_marked 4).from_server
unfolding once_marked
marked_gave_ack = refl

pub marked_is_run : IsRun marked_run (once_marked 4)
marked_is_run = record { codes = no_codes marked_run.events refl; follows = marked_follows; from_client = marked_gave_one; from_server = marked_gave_ack }

pub marked_due : is_due marked_run Server 3 ≡ true
unfolding client_acked
marked_due = refl

pub marked_goes : acknowledges (went (watch marked_run Server 3) (watch marked_run Server 4)) ≡ true
unfolding client_acked ecn_at
marked_goes = refl

-- ---- a gap, and 25 ms

pub before_gap : is_due measured_run Server 8 ≡ false
unfolding client_acked
before_gap = refl

pub gap_hastens : is_due measured_run Server 9 ≡ true
unfolding client_acked
gap_hastens = refl

pub gap_answered : is_due measured_run Server 10 ≡ false
unfolding client_acked
gap_answered = refl

pub before_late : is_due timed_run Server 7 ≡ false
unfolding client_acked
before_late = refl

pub late_hastens : is_due timed_run Server 8 ≡ true
unfolding client_acked
late_hastens = refl

pub late_answered : is_due timed_run Server 9 ≡ false
unfolding client_acked
late_answered = refl

-- ---- servers that let it wait

-- a server that gave nothing owes an acknowledgement of what it didn't answer
is_owed : (r : Run) (i : ℕ) (p : Packet) (ps : List Packet) → unanswered r Server i ≡ p ∷ ps → sents_until r Server i ≡ [] → IsUnacknowledged r Server i p
is_owed r i p ps since none = record {
  since = subst (λ (qs : List Packet). In p qs) (sym since) (inl refl);
  above = λ s greatest among says named. absurd (subst (λ (ss : List Sent). In s ss) none among);
}

-- an ACK frame went, and none did
both_ways : (b : Bool) → b ≡ true → b ≡ false → ⊥
both_ways true goes none = cc
both_ways false goes none = cc

many_due : is_due many_wait Server 6 ≡ true
unfolding client_acked
many_due = refl

many_owed : unanswered many_wait Server 6 ≡ ping_packet 1 ∷ first_packet ∷ []
unfolding client_acked
many_owed = refl

many_sent : sents_until many_wait Server 6 ≡ []
unfolding client_acked
many_sent = refl

many_none : acknowledges (went (watch many_wait Server 6) (watch many_wait Server 7)) ≡ false
unfolding client_acked
many_none = refl

pub many_not : AcksAreDue many_wait → ⊥
many_not h = both_ways (acknowledges (went (watch many_wait Server 6) (watch many_wait Server 7)))
    (unless_limited many_wait Server 7 (seen_with (Some 1024000000) None) (acknowledges (went (watch many_wait Server 6) (watch many_wait Server 7)) ≡ true) refl (h Server 6 0 gives_nothing (seen_with (Some 1024000000) None) (ping_packet 1) refl (record { event = refl; answer = refl }) refl refl many_due (is_owed many_wait 6 (ping_packet 1) (first_packet ∷ []) many_owed many_sent))) many_none

gap_due : is_due gap_waits Server 7 ≡ true
unfolding client_acked
gap_due = refl

gap_owed : unanswered gap_waits Server 7 ≡ ping_packet 2 ∷ []
unfolding client_acked
gap_owed = refl

gap_sent : sents_until gap_waits Server 7 ≡ []
unfolding client_acked
gap_sent = refl

gap_none : acknowledges (went (watch gap_waits Server 7) (watch gap_waits Server 8)) ≡ false
unfolding client_acked
gap_none = refl

pub gap_not : AcksAreDue gap_waits → ⊥
gap_not h = both_ways (acknowledges (went (watch gap_waits Server 7) (watch gap_waits Server 8)))
    (unless_limited gap_waits Server 8 (seen_with (Some 1024000000) None) (acknowledges (went (watch gap_waits Server 7) (watch gap_waits Server 8)) ≡ true) refl (h Server 7 0 gives_nothing (seen_with (Some 1024000000) None) (ping_packet 2) refl (record { event = refl; answer = refl }) refl refl gap_due (is_owed gap_waits 7 (ping_packet 2) [] gap_owed gap_sent))) gap_none

mark_due : is_due mark_waits Server 3 ≡ true
unfolding client_acked
mark_due = refl

mark_owed : unanswered mark_waits Server 3 ≡ first_packet ∷ []
unfolding client_acked
mark_owed = refl

mark_sent : sents_until mark_waits Server 3 ≡ []
unfolding client_acked
mark_sent = refl

mark_none : acknowledges (went (watch mark_waits Server 3) (watch mark_waits Server 4)) ≡ false
unfolding client_acked
mark_none = refl

pub mark_not : AcksAreDue mark_waits → ⊥
mark_not h = both_ways (acknowledges (went (watch mark_waits Server 3) (watch mark_waits Server 4)))
    (unless_limited mark_waits Server 4 (seen_with (Some 1024000000) None) (acknowledges (went (watch mark_waits Server 3) (watch mark_waits Server 4)) ≡ true) refl (h Server 3 0 gives_nothing (seen_with (Some 1024000000) None) first_packet refl (record { event = refl; answer = refl }) refl refl mark_due (is_owed mark_waits 3 first_packet [] mark_owed mark_sent))) mark_none

late_due : is_due late_waits Server 4 ≡ true
unfolding client_acked
late_due = refl

late_owed : unanswered late_waits Server 4 ≡ first_packet ∷ []
unfolding client_acked
late_owed = refl

late_sent : sents_until late_waits Server 4 ≡ []
unfolding client_acked
late_sent = refl

late_none : acknowledges (went (watch late_waits Server 4) (watch late_waits Server 5)) ≡ false
unfolding client_acked
late_none = refl

pub late_not : AcksAreDue late_waits → ⊥
late_not h = both_ways (acknowledges (went (watch late_waits Server 4) (watch late_waits Server 5)))
    (unless_limited late_waits Server 5 (seen_with (Some 1024000000) None) (acknowledges (went (watch late_waits Server 4) (watch late_waits Server 5)) ≡ true) refl (h Server 4 25000000 gives_nothing (seen_with (Some 1024000000) None) first_packet refl (record { event = refl; answer = refl }) refl refl late_due (is_owed late_waits 4 first_packet [] late_owed late_sent))) late_none

-- ---- they are honest

many_own : (side : Side) → AreOwn side [] many_wait.events many_wait.answers many_wait.views
many_own Client = (tt, (tt, (tt, (tt, (tt, (tt, (tt, tt)))))))
many_own Server = (tt, (tt, (tt, (tt, (tt, (tt, (tt, tt)))))))

pub many_is_honest : IsHonest many_wait
many_is_honest = record { start = are_started; keys = are_keys; ids = own_ids many_wait many_own }

gap_own : (side : Side) → AreOwn side [] gap_waits.events gap_waits.answers gap_waits.views
gap_own Client = (tt, (tt, (tt, (tt, (tt, (tt, (tt, (tt, tt))))))))
gap_own Server = (tt, (tt, (tt, (tt, (tt, (tt, (tt, (tt, tt))))))))

pub gap_is_honest : IsHonest gap_waits
gap_is_honest = record { start = are_started; keys = are_keys; ids = own_ids gap_waits gap_own }

mark_own : (side : Side) → AreOwn side [] mark_waits.events mark_waits.answers mark_waits.views
mark_own Client = (tt, (tt, (tt, (tt, tt))))
mark_own Server = (tt, (tt, (tt, (tt, tt))))

pub mark_is_honest : IsHonest mark_waits
mark_is_honest = record { start = are_started; keys = are_keys; ids = own_ids mark_waits mark_own }

late_own : (side : Side) → AreOwn side [] late_waits.events late_waits.answers late_waits.views
late_own Client = (tt, (tt, (tt, (tt, (tt, tt)))))
late_own Server = (tt, (tt, (tt, (tt, (tt, tt)))))

pub late_is_honest : IsHonest late_waits
late_is_honest = record { start = are_started; keys = are_keys; ids = own_ids late_waits late_own }

-- ---- and none of the machine's

many_no : IsRefused (once_hasty 6) asks_server gives_nothing
unfolding once_hasty
many_no (inl e) = cc
many_no (inr e) = cc

pub many_is_none : IsNoRun many_wait
many_is_none = behind refl step_0 (behind refl step_1 (behind refl step_2 (behind refl step_3 (behind refl step_4 (behind refl step_5 (stops _ _ _ _ _ many_no))))))

-- behind two datagrams a third goes, and comes
unfoldable once_gapped : ℕ → World
unfolding once_hasty
once_gapped n = ran_so_far worked_policies (once_hasty 4) (drop 4 gap_events) (drop 4 gap_answers) n

third_ping : IsStep worked_policies (once_hasty 4) asks_ping answers.Ping (once_gapped 1)
unfolding once_gapped
third_ping =
    let s : StepsSo worked_policies (once_hasty 4) asks_ping answers.Ping (once_gapped 1) = steps_at worked_policies (once_hasty 4) (drop 4 gap_events) (drop 4 gap_answers) 0 asks_ping answers.Ping _ _ refl refl refl in
    record { answer = refl; end = s.end; control = s.control; heard = s.heard; openings = tt; others = s.others; lacking = tt }

third_given : IsStep worked_policies (once_gapped 1) asks_datagram (gives_bytes 29) (once_gapped 2)
unfolding once_gapped
third_given =
    let s : StepsSo worked_policies (once_gapped 1) asks_datagram (gives_bytes 29) (once_gapped 2) = steps_at worked_policies (once_hasty 4) (drop 4 gap_events) (drop 4 gap_answers) 1 asks_datagram (gives_bytes 29) _ _ refl refl refl in
    record { answer = inl refl; end = s.end; control = s.control; heard = s.heard; openings = tt; others = s.others; lacking = tt }

third_taken : IsStep worked_policies (once_gapped 2) (delivers_at 2) (answers.Deliver receives.Taken) (once_gapped 3)
unfolding once_gapped
third_taken =
    let s : StepsSo worked_policies (once_gapped 2) (delivers_at 2) (answers.Deliver receives.Taken) (once_gapped 3) = steps_at worked_policies (once_hasty 4) (drop 4 gap_events) (drop 4 gap_answers) 2 (delivers_at 2) (answers.Deliver receives.Taken) _ _ refl refl refl in
    record { answer = inl refl; end = s.end; control = s.control; heard = s.heard; openings = tt; others = s.others; lacking = tt }

gap_no : IsRefused (once_gapped 3) asks_server gives_nothing
unfolding once_gapped
gap_no (inl e) = cc
gap_no (inr e) = cc

pub gap_is_none : IsNoRun gap_waits
gap_is_none = behind refl step_0 (behind refl step_1 (behind refl step_2 (behind refl step_3 (behind refl third_ping (behind refl third_given (behind refl third_taken (stops _ _ _ _ _ gap_no)))))))

mark_no : IsRefused (once_marked 3) asks_server gives_nothing
unfolding once_marked
mark_no (inl e) = cc
mark_no (inr e) = cc

pub mark_is_none : IsNoRun mark_waits
mark_is_none = behind refl marked_0 (behind refl marked_1 (behind refl marked_2 (stops _ _ _ _ _ mark_no)))

-- one that comes, and 25 ms
unfoldable once_alone : World
unfolding once_hasty
once_alone = ran worked_policies (once_hasty 2) (delivers_at 0 ∷ []) (answers.Deliver receives.Taken ∷ [])

unfoldable once_late : World
unfolding once_alone
once_late = ran worked_policies once_alone (server_waits ∷ []) (answers.Timeout (Ok tt) ∷ [])

alone_taken : IsStep worked_policies (once_hasty 2) (delivers_at 0) (answers.Deliver receives.Taken) once_alone
unfolding once_alone
alone_taken =
    let s : StepsSo worked_policies (once_hasty 2) (delivers_at 0) (answers.Deliver receives.Taken) once_alone = steps_so worked_policies (once_hasty 2) (delivers_at 0) (answers.Deliver receives.Taken) refl in
    record { answer = inl refl; end = s.end; control = s.control; heard = s.heard; openings = tt; others = s.others; lacking = tt }

time_passed : IsStep worked_policies once_alone server_waits (answers.Timeout (Ok tt)) once_late
unfolding once_late
time_passed =
    let s : StepsSo worked_policies once_alone server_waits (answers.Timeout (Ok tt)) once_late = steps_so worked_policies once_alone server_waits (answers.Timeout (Ok tt)) refl in
    record { answer = inl refl; end = s.end; control = s.control; heard = s.heard; openings = tt; others = s.others; lacking = tt }

late_no : IsRefused once_late server_polled gives_nothing
unfolding once_late
late_no (inl e) = cc
late_no (inr e) = cc

pub late_is_none : IsNoRun late_waits
late_is_none = behind refl step_0 (behind refl step_1 (behind refl alone_taken (behind refl time_passed (stops _ _ _ _ _ late_no))))
