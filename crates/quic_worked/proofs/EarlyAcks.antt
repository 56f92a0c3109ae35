-- The run in which a packet comes out of order, and the request lets its acknowledgement wait,
-- event by event; a server that gives it at once, and one that acknowledges so the first packet
-- that asks.
use Rattle.std.proofs.Common.{◌≡◌, ◌≤◌, true, false, [], ◌∷◌, ◌++◌, Some, None, refl, inl, inr, arith}
use Rattle.std.proofs.lemmas.Bool.{both_ways}
use Rattle.quic_wire_core.specs.declared.shared.EcnCodepoint.TheVariants.{Ect0}
use Rattle.quic_wire_core.specs.declared.stream_id.Side.{Side}
use Rattle.quic_wire_core.specs.declared.stream_id.Side.TheVariants.{Client, Server}
use Rattle.quic_wire.specs.Reading.{ack_frequency_at}
use Rattle.quic_machine.specs.declared.answers.Received.TheVariants as receives
use Rattle.quic_machine.specs.declared.run.Answer.TheVariants as answers
use Rattle.quic_machine.specs.Machine.{IsStep, Follows, view_of}
use Rattle.quic_headline.specs.Observer.{watch, sents_until}
use Rattle.quic_headline.specs.Headline.{IsHonest, IsRun}
use Rattle.quic_headline.specs.Polls.{GaveOne}
use Rattle.quic_headline.specs.AcksDue.{is_due}
use Rattle.quic_headline.specs.Waited.{wants_ack, as_size_probe, as_loss_probe, as_ack, as_frames, as_close, EachWaited}
use Rattle.quic_worked.specs.Worked.{worked_policies, gives_bytes, gives_unmarked}
use Rattle.quic_worked.specs.Acknowledged.{client_acked}
use Rattle.quic_worked.specs.Broken.{IsNoRun}
use Rattle.quic_worked.specs.Paired.{asks_server}
use Rattle.quic_worked.specs.Hasty.{once_hasty}
use Rattle.quic_worked.specs.Held.{gives_nothing}
use Rattle.quic_worked.specs.Losses.{asks_ping}
use Rattle.quic_worked.specs.Timed.{asks_at, seen_with}
use Rattle.quic_worked.specs.Asking.{comes_there, once_asked}
use Rattle.quic_worked.specs.Obeying.{once_early, early_events, answers_early, early_run, acks_early, early_ack, acks_first, first_ack}
use Rattle.quic_worked.proofs.AskingRuns as asked
use Rattle.quic_worked.proofs.HastyRun as hasty
use Rattle.quic_worked.proofs.RepeatedRuns.{alone_closes}
use Rattle.quic_worked.proofs.WorkedHonest.{are_started}
use Rattle.quic_worked.proofs.BrokenRuns.{IsRefused, stops, behind}
use Rattle.quic_worked.proofs.Codes.{no_codes}
use Rattle.quic_worked.proofs.OwnIds.{AreOwn, own_ids}
use Rattle.quic_worked.proofs.Steps.{steps_at, StepsSo}
use Rattle.quic_worked.proofs.WorkedKeys.{are_keys}

-- ---- the machine's run

early_0 : IsStep worked_policies (once_asked 7) asks_ping answers.Ping (once_early 1)
unfolding once_early
early_0 =
    let s : StepsSo worked_policies (once_asked 7) asks_ping answers.Ping (once_early 1) = steps_at worked_policies (once_asked 7) early_events (answers_early gives_nothing) 0 asks_ping answers.Ping _ _ refl refl refl in
    record { answer = refl; end = s.end; control = s.control; heard = s.heard; openings = tt; others = s.others; lacking = tt }

early_1 : IsStep worked_policies (once_early 1) (asks_at Client 20000000) (gives_unmarked 32) (once_early 2)
unfolding once_early
early_1 =
    let s : StepsSo worked_policies (once_early 1) (asks_at Client 20000000) (gives_unmarked 32) (once_early 2) = steps_at worked_policies (once_asked 7) early_events (answers_early gives_nothing) 1 (asks_at Client 20000000) (gives_unmarked 32) _ _ refl refl refl in
    record { answer = inl refl; end = s.end; control = s.control; heard = s.heard; openings = tt; others = s.others; lacking = tt }

early_2 : IsStep worked_policies (once_early 2) (comes_there 2 25000000) (answers.Deliver receives.Taken) (once_early 3)
unfolding once_early
early_2 =
    let s : StepsSo worked_policies (once_early 2) (comes_there 2 25000000) (answers.Deliver receives.Taken) (once_early 3) = steps_at worked_policies (once_asked 7) early_events (answers_early gives_nothing) 2 (comes_there 2 25000000) (answers.Deliver receives.Taken) _ _ refl refl refl in
    record { answer = inl refl; end = s.end; control = s.control; heard = s.heard; openings = tt; others = s.others; lacking = tt }

early_3 : IsStep worked_policies (once_early 3) (asks_at Server 25000000) gives_nothing (once_early 4)
unfolding once_early
early_3 =
    let s : StepsSo worked_policies (once_early 3) (asks_at Server 25000000) gives_nothing (once_early 4) = steps_at worked_policies (once_asked 7) early_events (answers_early gives_nothing) 3 (asks_at Server 25000000) gives_nothing _ _ refl refl refl in
    record { answer = inl refl; end = s.end; control = s.control; heard = s.heard; openings = tt; others = s.others; lacking = tt }

early_seen_0 : seen_with (Some 90000000) None ≡ view_of (once_early 1)
unfolding once_early
early_seen_0 = refl

early_seen_1 : seen_with (Some 90000000) None ≡ view_of (once_early 2)
unfolding once_early
early_seen_1 = refl

early_seen_2 : seen_with (Some 90000000) (Some 35000000) ≡ view_of (once_early 3)
unfolding once_early
early_seen_2 = refl

early_seen_3 : seen_with (Some 90000000) (Some 35000000) ≡ view_of (once_early 4)
unfolding once_early
early_seen_3 = refl

follows : Follows early_run.keys early_run.start early_run.events early_run.answers early_run.views (once_early 4)
follows = (once_asked 1, asked.asks_it, asked.asked_seen, (once_asked 2, asked.takes_it, asked.taken_seen, (once_asked 3, asked.is_due, asked.due_seen, (once_asked 4, asked.answers_it, asked.given_seen, (once_asked 5, asked.is_answered, asked.answered_seen, (once_asked 6, asked.is_pinged, asked.wanted_seen, (once_asked 7, asked.pings, asked.pinged_seen, (once_early 1, early_0, early_seen_0, (once_early 2, early_1, early_seen_1, (once_early 3, early_2, early_seen_2, (once_early 4, early_3, early_seen_3, refl)))))))))))

gave_three : early_run.from_client ≡ (once_early 4).from_client
unfolding once_early
gave_three = refl

gave_one : early_run.from_server ≡ (once_early 4).from_server
unfolding once_early
gave_one = refl

pub early_is_run : IsRun early_run (once_early 4)
early_is_run = record { codes = no_codes early_run.events refl; follows = follows; from_client = gave_three; from_server = gave_one }

early_own : (side : Side) → AreOwn side [] early_run.events early_run.answers early_run.views
early_own Client = (tt, (tt, (tt, (tt, (tt, (tt, (tt, (tt, (tt, (tt, (tt, tt)))))))))))
early_own Server = (tt, (tt, (tt, (tt, (tt, (tt, (tt, (tt, (tt, (tt, (tt, tt)))))))))))

pub early_is_honest : IsHonest early_run
early_is_honest = record { start = asked.asking_started 10000000; keys = are_keys; ids = own_ids early_run early_own }

-- none is due, nor is one wanted
pub not_due : is_due early_run Server 10 ≡ false
unfolding client_acked ack_frequency_at
not_due = refl

pub not_wanted : wants_ack early_run Server 10 ≡ false
unfolding client_acked ack_frequency_at
not_wanted = refl

-- ---- a server that gives it at once

early_sent : sents_until acks_early Server 11 ≡ sents_until acks_early Server 10 ++ early_ack ∷ []
unfolding client_acked ack_frequency_at
early_sent = refl

early_unwanted : wants_ack acks_early Server 10 ≡ false
unfolding client_acked ack_frequency_at
early_unwanted = refl

early_no_probe : (watch acks_early Server 10).flight.probes ≡ 0
unfolding client_acked ack_frequency_at
early_no_probe = refl

gave_early : GaveOne acks_early Server 10 25000000
gave_early = record { transmit = record { size = 31; ecn = None; remote = 0 }; poll = record { event = refl; answer = refl }; served = refl; sent = early_ack; went = early_sent }

pub early_shows : EachWaited acks_early → ⊥
unfolding gave_early
early_shows h = elim (h Server 10 25000000 gave_early) [
  | as_size_probe probe ↦ (let above : 1200 ≤ 31 = probe.above in absurd (omega (arith, above)))
  | as_loss_probe waits ↦ (let none = early_no_probe in absurd (omega (arith, waits, none)))
  | as_ack none frames wanted ↦ both_ways (wants_ack acks_early Server 10) early_unwanted wanted
  | as_frames asks each ↦ (let clash : false ≡ true = asks in cc)
  | as_close closes ↦ (let clash : false ≡ true = alone_closes early_ack closes in cc)
]

early_acks_own : (side : Side) → AreOwn side [] acks_early.events acks_early.answers acks_early.views
early_acks_own Client = (tt, (tt, (tt, (tt, (tt, (tt, (tt, (tt, (tt, (tt, (tt, tt)))))))))))
early_acks_own Server = (tt, (tt, (tt, (tt, (tt, (tt, (tt, (tt, (tt, (tt, (tt, tt)))))))))))

pub acks_is_honest : IsHonest acks_early
acks_is_honest = record { start = asked.asking_started 10000000; keys = are_keys; ids = own_ids acks_early early_acks_own }

acks_no : IsRefused (once_early 3) (asks_at Server 25000000) (gives_unmarked 31)
unfolding once_early
acks_no (inl e) = cc
acks_no (inr e) = cc

pub acks_is_none : IsNoRun acks_early
acks_is_none = behind refl asked.asks_it (behind refl asked.takes_it (behind refl asked.is_due (behind refl asked.answers_it (behind refl asked.is_answered (behind refl asked.is_pinged (behind refl asked.pings (behind refl early_0 (behind refl early_1 (behind refl early_2 (stops _ _ _ _ _ acks_no))))))))))

-- ---- a server that acknowledges the first packet that asks at once

pub first_not_due : is_due acks_first Server 5 ≡ false
unfolding client_acked
first_not_due = refl

first_sent : sents_until acks_first Server 6 ≡ sents_until acks_first Server 5 ++ first_ack ∷ []
unfolding client_acked
first_sent = refl

first_unwanted : wants_ack acks_first Server 5 ≡ false
unfolding client_acked
first_unwanted = refl

first_no_probe : (watch acks_first Server 5).flight.probes ≡ 0
unfolding client_acked
first_no_probe = refl

gave_first : GaveOne acks_first Server 5 0
gave_first = record { transmit = record { size = 31; ecn = Some Ect0; remote = 0 }; poll = record { event = refl; answer = refl }; served = refl; sent = first_ack; went = first_sent }

pub first_shows : EachWaited acks_first → ⊥
unfolding gave_first
first_shows h = elim (h Server 5 0 gave_first) [
  | as_size_probe probe ↦ (let above : 1200 ≤ 31 = probe.above in absurd (omega (arith, above)))
  | as_loss_probe waits ↦ (let none = first_no_probe in absurd (omega (arith, waits, none)))
  | as_ack none frames wanted ↦ both_ways (wants_ack acks_first Server 5) first_unwanted wanted
  | as_frames asks each ↦ (let clash : false ≡ true = asks in cc)
  | as_close closes ↦ (let clash : false ≡ true = alone_closes first_ack closes in cc)
]

first_own : (side : Side) → AreOwn side [] acks_first.events acks_first.answers acks_first.views
first_own Client = (tt, (tt, (tt, (tt, (tt, (tt, tt))))))
first_own Server = (tt, (tt, (tt, (tt, (tt, (tt, tt))))))

pub first_is_honest : IsHonest acks_first
first_is_honest = record { start = are_started; keys = are_keys; ids = own_ids acks_first first_own }

first_no : IsRefused (once_hasty 5) asks_server (gives_bytes 31)
unfolding once_hasty
first_no (inl e) = cc
first_no (inr e) = cc

pub first_is_none : IsNoRun acks_first
first_is_none = behind refl hasty.step_0 (behind refl hasty.step_1 (behind refl hasty.step_2 (behind refl hasty.step_3 (behind refl hasty.step_4 (stops _ _ _ _ _ first_no)))))
