-- The run on a path that marks each datagram with CE, event by event, and a server that answers
-- each packet so marked.
use Rattle.std.proofs.Common.{◌≡◌, ◌≤◌, true, false, [], ◌∷◌, ◌++◌, take, Some, None, refl, ap, ◌∙◌, inl, inr, arith}
use Rattle.std.proofs.lemmas.Bool.{both_ways}
use Rattle.quic_wire_core.specs.declared.shared.EcnCodepoint.TheVariants.{Ect0}
use Rattle.quic_wire_core.specs.declared.stream_id.Side.{Side}
use Rattle.quic_wire_core.specs.declared.stream_id.Side.TheVariants.{Client, Server}
use Rattle.quic_wire.specs.AckReading.{ecn_at}
use Rattle.quic_machine.specs.declared.answers.Received.TheVariants as receives
use Rattle.quic_machine.specs.declared.run.Answer.TheVariants as answers
use Rattle.quic_machine.specs.Machine.{World, IsStep, Follows, view_of}
use Rattle.quic_headline.specs.Runs.{until}
use Rattle.quic_headline.specs.Observer.{watch, sents_until}
use Rattle.quic_headline.specs.Headline.{IsHonest, IsRun}
use Rattle.quic_headline.specs.Polls.{GaveOne}
use Rattle.quic_headline.specs.Rest.{Rests}
use Rattle.quic_headline.specs.Waited.{wants_ack, as_size_probe, as_loss_probe, as_ack, as_frames, as_close, EachWaited}
use Rattle.quic_headline.specs.Begins.{Ack, may_hasten, still, begins, BeginsAt}
use Rattle.quic_worked.specs.Worked.{worked_policies, asks_datagram, gives_bytes}
use Rattle.quic_worked.specs.Acknowledged.{client_acked}
use Rattle.quic_worked.specs.Broken.{IsNoRun, NeverLeads}
use Rattle.quic_worked.specs.Paired.{asks_server}
use Rattle.quic_worked.specs.Timed.{seen_with}
use Rattle.quic_worked.specs.Held.{gives_nothing}
use Rattle.quic_worked.specs.Hasty.{marked_events, answers_marked, once_marked}
use Rattle.quic_worked.specs.Marked.{ack_comes, answer_comes, calm_events, calm_answers, once_calm, calm_run, echo_run, echo_sent, answering_seen, due_for_ack}
use Rattle.quic_worked.proofs.HastyRun.{marked_0, marked_seen_0, marked_1, marked_seen_1, marked_2, marked_seen_2, marked_3, marked_seen_3}
use Rattle.quic_worked.proofs.RepeatedRuns.{alone_closes}
use Rattle.quic_worked.proofs.BrokenRuns.{IsRefused, stops, behind}
use Rattle.quic_worked.proofs.WrongRuns.{NotTo, step_on, ends_here}
use Rattle.quic_worked.proofs.Codes.{no_codes}
use Rattle.quic_worked.proofs.OwnIds.{AreOwn, own_ids}
use Rattle.quic_worked.proofs.Steps.{steps_at, StepsSo}
use Rattle.quic_worked.proofs.WorkedHonest.{are_started}
use Rattle.quic_worked.proofs.WorkedKeys.{are_keys}

-- ---- the machine's run

calm_0 : IsStep worked_policies (once_marked 4) ack_comes (answers.Deliver receives.Taken) (once_calm 1)
unfolding once_calm
calm_0 =
    let s : StepsSo worked_policies (once_marked 4) ack_comes (answers.Deliver receives.Taken) (once_calm 1) = steps_at worked_policies (once_marked 4) calm_events calm_answers 0 ack_comes (answers.Deliver receives.Taken) _ _ refl refl refl in
    record { answer = inl refl; end = s.end; control = s.control; heard = s.heard; openings = tt; others = s.others; lacking = tt }

calm_1 : IsStep worked_policies (once_calm 1) asks_datagram (gives_bytes 34) (once_calm 2)
unfolding once_calm
calm_1 =
    let s : StepsSo worked_policies (once_calm 1) asks_datagram (gives_bytes 34) (once_calm 2) = steps_at worked_policies (once_marked 4) calm_events calm_answers 1 asks_datagram (gives_bytes 34) _ _ refl refl refl in
    record { answer = inl refl; end = s.end; control = s.control; heard = s.heard; openings = tt; others = s.others; lacking = tt }

calm_2 : IsStep worked_policies (once_calm 2) answer_comes (answers.Deliver receives.Taken) (once_calm 3)
unfolding once_calm
calm_2 =
    let s : StepsSo worked_policies (once_calm 2) answer_comes (answers.Deliver receives.Taken) (once_calm 3) = steps_at worked_policies (once_marked 4) calm_events calm_answers 2 answer_comes (answers.Deliver receives.Taken) _ _ refl refl refl in
    record { answer = inl refl; end = s.end; control = s.control; heard = s.heard; openings = tt; others = s.others; lacking = tt }

calm_3 : IsStep worked_policies (once_calm 3) asks_server gives_nothing (once_calm 4)
unfolding once_calm
calm_3 =
    let s : StepsSo worked_policies (once_calm 3) asks_server gives_nothing (once_calm 4) = steps_at worked_policies (once_marked 4) calm_events calm_answers 3 asks_server gives_nothing _ _ refl refl refl in
    record { answer = inl refl; end = s.end; control = s.control; heard = s.heard; openings = tt; others = s.others; lacking = tt }

calm_4 : IsStep worked_policies (once_calm 4) asks_datagram gives_nothing (once_calm 5)
unfolding once_calm
calm_4 =
    let s : StepsSo worked_policies (once_calm 4) asks_datagram gives_nothing (once_calm 5) = steps_at worked_policies (once_marked 4) calm_events calm_answers 4 asks_datagram gives_nothing _ _ refl refl refl in
    record { answer = inl refl; end = s.end; control = s.control; heard = s.heard; openings = tt; others = s.others; lacking = tt }

calm_seen_0 : seen_with None None ≡ view_of (once_calm 1)
unfolding once_calm
calm_seen_0 = refl

calm_seen_1 : seen_with None None ≡ view_of (once_calm 2)
unfolding once_calm
calm_seen_1 = refl

calm_seen_2 : seen_with None None ≡ view_of (once_calm 3)
unfolding once_calm
calm_seen_2 = refl

calm_seen_3 : seen_with None None ≡ view_of (once_calm 4)
unfolding once_calm
calm_seen_3 = refl

calm_seen_4 : seen_with None None ≡ view_of (once_calm 5)
unfolding once_calm
calm_seen_4 = refl

follows : Follows calm_run.keys calm_run.start calm_run.events calm_run.answers calm_run.views (once_calm 5)
follows = (once_marked 1, marked_0, marked_seen_0, (once_marked 2, marked_1, marked_seen_1, (once_marked 3, marked_2, marked_seen_2, (once_marked 4, marked_3, marked_seen_3, (once_calm 1, calm_0, calm_seen_0, (once_calm 2, calm_1, calm_seen_1, (once_calm 3, calm_2, calm_seen_2, (once_calm 4, calm_3, calm_seen_3, (once_calm 5, calm_4, calm_seen_4, refl)))))))))

gave_two : calm_run.from_client ≡ (once_calm 5).from_client
unfolding once_calm
gave_two = refl

gave_one : calm_run.from_server ≡ (once_calm 5).from_server
unfolding once_calm
gave_one = refl

pub calm_is_run : IsRun calm_run (once_calm 5)
calm_is_run = record { codes = no_codes calm_run.events refl; follows = follows; from_client = gave_two; from_server = gave_one }

calm_own : (side : Side) → AreOwn side [] calm_run.events calm_run.answers calm_run.views
calm_own Client = (tt, (tt, (tt, (tt, (tt, (tt, (tt, (tt, (tt, tt)))))))))
calm_own Server = (tt, (tt, (tt, (tt, (tt, (tt, (tt, (tt, (tt, tt)))))))))

pub calm_is_honest : IsHonest calm_run
calm_is_honest = record { start = are_started; keys = are_keys; ids = own_ids calm_run calm_own }

-- ---- what is wanted in it

pub ping_wants : wants_ack calm_run Server 3 ≡ true
unfolding client_acked
ping_wants = refl

pub acknowledged_wants : wants_ack calm_run Client 5 ≡ true
unfolding client_acked ecn_at
acknowledged_wants = refl

pub bare_wants : wants_ack calm_run Server 7 ≡ false
unfolding client_acked ecn_at
bare_wants = refl

-- both show no timer set
pub client_rests : Rests calm_run Client 9
client_rests = record { front = take 4 (until calm_run Client 9); now = 0; last = refl; view = seen_with None None; shown = refl; is_open = refl; validated = refl; still = record { no_loss_timer = refl; no_ack_timer = refl; no_pacing_timer = refl } }

pub server_rests : Rests calm_run Server 9
server_rests = record { front = take 3 (until calm_run Server 9); now = 0; last = refl; view = seen_with None None; shown = refl; is_open = refl; validated = refl; still = record { no_loss_timer = refl; no_ack_timer = refl; no_pacing_timer = refl } }

-- ---- a server that answers each ACK frame with CE

echo_went : sents_until echo_run Server 8 ≡ sents_until echo_run Server 7 ++ echo_sent ∷ []
unfolding client_acked ecn_at
echo_went = refl

echo_unwanted : wants_ack echo_run Server 7 ≡ false
unfolding client_acked ecn_at
echo_unwanted = refl

echo_no_probe : (watch echo_run Server 7).flight.probes ≡ 0
unfolding client_acked ecn_at
echo_no_probe = refl

gave_echo : GaveOne echo_run Server 7 0
gave_echo = record { transmit = record { size = 34; ecn = Some Ect0; remote = 0 }; poll = record { event = refl; answer = refl }; served = refl; sent = echo_sent; went = echo_went }

pub echo_shows : EachWaited echo_run → ⊥
unfolding gave_echo
echo_shows h = elim (h Server 7 0 gave_echo) [
  | as_size_probe probe ↦ (let above : 1200 ≤ 34 = probe.above in absurd (omega (arith, above)))
  | as_loss_probe waits ↦ (let none = echo_no_probe in absurd (omega (arith, waits, none)))
  | as_ack none frames wanted ↦ both_ways (wants_ack echo_run Server 7) echo_unwanted wanted
  | as_frames asks each ↦ (let clash : false ≡ true = asks in cc)
  | as_close closes ↦ (let clash : false ≡ true = alone_closes echo_sent closes in cc)
]

echo_own : (side : Side) → AreOwn side [] echo_run.events echo_run.answers echo_run.views
echo_own Client = (tt, (tt, (tt, (tt, (tt, (tt, (tt, (tt, tt))))))))
echo_own Server = (tt, (tt, (tt, (tt, (tt, (tt, (tt, (tt, tt))))))))

pub echo_is_honest : IsHonest echo_run
echo_is_honest = record { start = are_started; keys = are_keys; ids = own_ids echo_run echo_own }

echo_no : IsRefused (once_calm 3) asks_server (gives_bytes 34)
unfolding once_calm
echo_no (inl e) = cc
echo_no (inr e) = cc

pub echo_is_none : IsNoRun echo_run
echo_is_none = behind refl marked_0 (behind refl marked_1 (behind refl marked_2 (behind refl marked_3 (behind refl calm_0 (behind refl calm_1 (behind refl calm_2 (stops _ _ _ _ _ echo_no)))))))

-- ---- a server at which one is due for it

none_due : (once_calm 2).server.acknowledging.due ≡ false
unfolding once_calm
none_due = refl

none_hastens : may_hasten answering_seen ≡ false
unfolding client_acked ecn_at
none_hastens = refl

pub due_shows : BeginsAt answering_seen (once_calm 2).server due_for_ack.server → ⊥
due_shows h = elim (h Ack refl) [
  | still due stays ↦ both_ways (once_calm 2).server.acknowledging.due none_due due
  | begins cause ↦ both_ways (may_hasten answering_seen) none_hastens cause
]

none_due_then : (once_calm 3).server.acknowledging.due ≡ false
unfolding once_calm
none_due_then = refl

other_due : due_for_ack ≡ once_calm 3 → ⊥
other_due e = (let clash : true ≡ false = ap (λ (w : World). w.server.acknowledging.due) e ∙ none_due_then in cc)

not_due : NotTo due_for_ack (marked_events ++ take 3 calm_events) (answers_marked (gives_bytes 34) ++ take 3 calm_answers)
not_due = step_on refl marked_0 (step_on refl marked_1 (step_on refl marked_2 (step_on refl marked_3 (step_on refl calm_0 (step_on refl calm_1 (step_on refl calm_2 (ends_here other_due)))))))

pub never_due : NeverLeads (marked_events ++ take 3 calm_events) (answers_marked (gives_bytes 34) ++ take 3 calm_answers) due_for_ack
never_due views f = not_due.never views due_for_ack f refl
