-- The run in which PTO probes have the least size, event by event, and the machine that fills one up
-- to the current size.
use Rattle.std.proofs.Common.{◌≡◌, ◌<◌, ◌≤◌, ℕ, List, [], ◌∷◌, ◌++◌, replicate, true, Some, None, Ok, refl, inl, inr, ap, sym, subst, lit<, lit≤, arith}
use Rattle.quic_wire_core.specs.declared.stream_id.Side.{Side}
use Rattle.quic_wire_core.specs.declared.stream_id.Side.TheVariants.{Client, Server}
use Rattle.quic_wire.specs.Value.{padding}
use Rattle.quic_config.specs.Transport.{IsInRange}
use Rattle.quic_machine.specs.declared.answers.Received.TheVariants as receives
use Rattle.quic_machine.specs.declared.run.RunEvent.{RunEvent}
use Rattle.quic_machine.specs.declared.run.Call.TheVariants as calls
use Rattle.quic_machine.specs.declared.run.Answer.TheVariants as answers
use Rattle.quic_machine.specs.End.{IsMade}
use Rattle.quic_machine.specs.Start.{AreStarted}
use Rattle.quic_machine.specs.Machine.{IsStep, Follows, view_of}
use Rattle.quic_headline.specs.Runs.{In}
use Rattle.quic_headline.specs.Observer.{Sent, watch, sents_until, acked_until}
use Rattle.quic_headline.specs.Headline.{IsHonest, IsRun}
use Rattle.quic_headline.specs.Polls.{GaveOne, GaveAsking}
use Rattle.quic_headline.specs.Sizes.{DatagramsAreSized}
use Rattle.quic_headline.proofs.Places.Theorems.{datagrams_are_sized}
use Rattle.quic_worked.specs.Worked.{steady, shut, worked_policies, client_id, server_id, delivery, gives_bytes, gives_unmarked, id_frames}
use Rattle.quic_worked.specs.Broken.{IsNoRun}
use Rattle.quic_worked.specs.Losses.{asks_ping}
use Rattle.quic_worked.specs.Timed.{serves, asks_at, comes_at, seen_with}
use Rattle.quic_worked.specs.Messages.{comes_to_server}
use Rattle.quic_worked.specs.Searched.{size_sent}
use Rattle.quic_worked.specs.Shortened.{filling_settings, filling_start, shortened_events, shortened_answers, once_shortened, larger_with, shortened_run, full_sent, probe_sent, long_probe_run, long_probe_sent}
use Rattle.quic_worked.proofs.Codes.{no_codes}
use Rattle.quic_worked.proofs.OwnIds.{AreOwn, own_ids}
use Rattle.quic_worked.proofs.BrokenRuns.{IsRefused, stops, behind}
use Rattle.quic_worked.proofs.WorkedKeys.{are_keys}
use Rattle.quic_worked.proofs.WorkedHonest.{in_range, making}
use Rattle.quic_worked.proofs.WorkedRun.{parameters_say, server_is_made}
use Rattle.quic_worked.proofs.MessageRuns.{given_bytes}
use Rattle.quic_worked.proofs.Steps.{steps_at, StepsSo}

-- ---- the premises

filling_range : IsInRange filling_settings
filling_range = record { receive_window = lit< tt; stream_receive_window = lit< tt; bounds = record { bidi = lit≤ tt; uni = lit≤ tt; divides = lit< tt; initial = lit≤ tt; least = lit≤ tt }; search = lit≤ tt }

-- the client's parameters say nothing of its search, nor of how it fills up datagrams
filling_started : AreStarted filling_start
filling_started = record {
  client_making = record (making client_id) { settings = filling_settings };
  server_making = record (making server_id) { windows = shut };
  client_is = record { range = filling_range; sizes = lit≤ tt; says = parameters_say; id = refl };
  server_is = record { range = in_range; sizes = lit≤ tt; says = parameters_say; id = refl };
  client = subst (λ read. IsMade Client filling_settings steady read client_id server_id 0 0 true (λ n. 63) filling_start.client) (sym parameters_say) refl;
  server = server_is_made;
  client_gave = refl;
  server_gave = refl;
  client_heard = refl;
  server_heard = refl;
}

own : (side : Side) → AreOwn side [] shortened_run.events shortened_run.answers shortened_run.views
own Client = (tt, (tt, (tt, (tt, (tt, (tt, (tt, (tt, (tt, (tt, (tt, (tt, (tt, (tt, tt))))))))))))))
own Server = (tt, (tt, (tt, (tt, (tt, (tt, (tt, (tt, (tt, (tt, (tt, (tt, (tt, (tt, tt))))))))))))))

pub shortened_is_honest : IsHonest shortened_run
shortened_is_honest = record { start = filling_started; keys = are_keys; ids = own_ids shortened_run own }

-- ---- the machine's run

-- the server's second datagram comes to the client
abbrev second_comes : RunEvent
second_comes = record { side = Client; call = calls.Deliver (record delivery { now = 125000000; index = 1 }) }

step_0 : IsStep worked_policies filling_start (asks_at Client 0) (gives_bytes 1200) (once_shortened 1)
unfolding once_shortened
step_0 =
    let s : StepsSo worked_policies filling_start (asks_at Client 0) (gives_bytes 1200) (once_shortened 1) = steps_at worked_policies filling_start shortened_events shortened_answers 0 (asks_at Client 0) (gives_bytes 1200) _ _ refl refl refl in
    record { answer = inl refl; end = s.end; control = s.control; heard = s.heard; openings = tt; others = s.others; lacking = tt }

seen_0 : seen_with (Some 1024000000) None ≡ view_of (once_shortened 1)
unfolding once_shortened
seen_0 = refl

step_1 : IsStep worked_policies (once_shortened 1) (asks_at Client 0) (gives_bytes 1326) (once_shortened 2)
unfolding once_shortened
step_1 =
    let s : StepsSo worked_policies (once_shortened 1) (asks_at Client 0) (gives_bytes 1326) (once_shortened 2) = steps_at worked_policies filling_start shortened_events shortened_answers 1 (asks_at Client 0) (gives_bytes 1326) _ _ refl refl refl in
    record { answer = inl refl; end = s.end; control = s.control; heard = s.heard; openings = tt; others = s.others; lacking = tt }

seen_1 : seen_with (Some 1024000000) None ≡ view_of (once_shortened 2)
unfolding once_shortened
seen_1 = refl

step_2 : IsStep worked_policies (once_shortened 2) (comes_to_server 10000000 0) (answers.Deliver receives.Taken) (once_shortened 3)
unfolding once_shortened
step_2 =
    let s : StepsSo worked_policies (once_shortened 2) (comes_to_server 10000000 0) (answers.Deliver receives.Taken) (once_shortened 3) = steps_at worked_policies filling_start shortened_events shortened_answers 2 (comes_to_server 10000000 0) (answers.Deliver receives.Taken) _ _ refl refl refl in
    record { answer = inl refl; end = s.end; control = s.control; heard = s.heard; openings = tt; others = s.others; lacking = tt }

seen_2 : seen_with (Some 1024000000) (Some 35000000) ≡ view_of (once_shortened 3)
unfolding once_shortened
seen_2 = refl

step_3 : IsStep worked_policies (once_shortened 3) (comes_to_server 10000000 1) (answers.Deliver receives.Taken) (once_shortened 4)
unfolding once_shortened
step_3 =
    let s : StepsSo worked_policies (once_shortened 3) (comes_to_server 10000000 1) (answers.Deliver receives.Taken) (once_shortened 4) = steps_at worked_policies filling_start shortened_events shortened_answers 3 (comes_to_server 10000000 1) (answers.Deliver receives.Taken) _ _ refl refl refl in
    record { answer = inl refl; end = s.end; control = s.control; heard = s.heard; openings = tt; others = s.others; lacking = tt }

seen_3 : seen_with (Some 1024000000) (Some 35000000) ≡ view_of (once_shortened 4)
unfolding once_shortened
seen_3 = refl

step_4 : IsStep worked_policies (once_shortened 4) (asks_at Server 10000000) (gives_bytes 31) (once_shortened 5)
unfolding once_shortened
step_4 =
    let s : StepsSo worked_policies (once_shortened 4) (asks_at Server 10000000) (gives_bytes 31) (once_shortened 5) = steps_at worked_policies filling_start shortened_events shortened_answers 4 (asks_at Server 10000000) (gives_bytes 31) _ _ refl refl refl in
    record { answer = inl refl; end = s.end; control = s.control; heard = s.heard; openings = tt; others = s.others; lacking = tt }

seen_4 : seen_with (Some 1024000000) None ≡ view_of (once_shortened 5)
unfolding once_shortened
seen_4 = refl

step_5 : IsStep worked_policies (once_shortened 5) (comes_at Client 20000000) (answers.Deliver receives.Taken) (once_shortened 6)
unfolding once_shortened
step_5 =
    let s : StepsSo worked_policies (once_shortened 5) (comes_at Client 20000000) (answers.Deliver receives.Taken) (once_shortened 6) = steps_at worked_policies filling_start shortened_events shortened_answers 5 (comes_at Client 20000000) (answers.Deliver receives.Taken) _ _ refl refl refl in
    record { answer = inl refl; end = s.end; control = s.control; heard = s.heard; openings = tt; others = s.others; lacking = tt }

seen_5 : larger_with None ≡ view_of (once_shortened 6)
unfolding once_shortened
seen_5 = refl

step_6 : IsStep worked_policies (once_shortened 6) asks_ping answers.Ping (once_shortened 7)
unfolding once_shortened
step_6 =
    let s : StepsSo worked_policies (once_shortened 6) asks_ping answers.Ping (once_shortened 7) = steps_at worked_policies filling_start shortened_events shortened_answers 6 asks_ping answers.Ping _ _ refl refl refl in
    record { answer = refl; end = s.end; control = s.control; heard = s.heard; openings = tt; others = s.others; lacking = tt }

seen_6 : larger_with None ≡ view_of (once_shortened 7)
unfolding once_shortened
seen_6 = refl

step_7 : IsStep worked_policies (once_shortened 7) (asks_at Client 20000000) (gives_unmarked 1326) (once_shortened 8)
unfolding once_shortened
step_7 =
    let s : StepsSo worked_policies (once_shortened 7) (asks_at Client 20000000) (gives_unmarked 1326) (once_shortened 8) = steps_at worked_policies filling_start shortened_events shortened_answers 7 (asks_at Client 20000000) (gives_unmarked 1326) _ _ refl refl refl in
    record { answer = inl refl; end = s.end; control = s.control; heard = s.heard; openings = tt; others = s.others; lacking = tt }

seen_7 : larger_with (Some 105000000) ≡ view_of (once_shortened 8)
unfolding once_shortened
seen_7 = refl

step_8 : IsStep worked_policies (once_shortened 8) (serves Client 105000000) (answers.Timeout (Ok tt)) (once_shortened 9)
unfolding once_shortened
step_8 =
    let s : StepsSo worked_policies (once_shortened 8) (serves Client 105000000) (answers.Timeout (Ok tt)) (once_shortened 9) = steps_at worked_policies filling_start shortened_events shortened_answers 8 (serves Client 105000000) (answers.Timeout (Ok tt)) _ _ refl refl refl in
    record { answer = inl refl; end = s.end; control = s.control; heard = s.heard; openings = tt; others = s.others; lacking = tt }

seen_8 : larger_with (Some 190000000) ≡ view_of (once_shortened 9)
unfolding once_shortened
seen_8 = refl

step_9 : IsStep worked_policies (once_shortened 9) (asks_at Client 105000000) (gives_unmarked 1200) (once_shortened 10)
unfolding once_shortened
step_9 =
    let s : StepsSo worked_policies (once_shortened 9) (asks_at Client 105000000) (gives_unmarked 1200) (once_shortened 10) = steps_at worked_policies filling_start shortened_events shortened_answers 9 (asks_at Client 105000000) (gives_unmarked 1200) _ _ refl refl refl in
    record { answer = inl refl; end = s.end; control = s.control; heard = s.heard; openings = tt; others = s.others; lacking = tt }

seen_9 : larger_with (Some 275000000) ≡ view_of (once_shortened 10)
unfolding once_shortened
seen_9 = refl

step_10 : IsStep worked_policies (once_shortened 10) (asks_at Client 105000000) (gives_unmarked 1200) (once_shortened 11)
unfolding once_shortened
step_10 =
    let s : StepsSo worked_policies (once_shortened 10) (asks_at Client 105000000) (gives_unmarked 1200) (once_shortened 11) = steps_at worked_policies filling_start shortened_events shortened_answers 10 (asks_at Client 105000000) (gives_unmarked 1200) _ _ refl refl refl in
    record { answer = inl refl; end = s.end; control = s.control; heard = s.heard; openings = tt; others = s.others; lacking = tt }

seen_10 : larger_with (Some 275000000) ≡ view_of (once_shortened 11)
unfolding once_shortened
seen_10 = refl

step_11 : IsStep worked_policies (once_shortened 11) (comes_to_server 115000000 3) (answers.Deliver receives.Taken) (once_shortened 12)
unfolding once_shortened
step_11 =
    let s : StepsSo worked_policies (once_shortened 11) (comes_to_server 115000000 3) (answers.Deliver receives.Taken) (once_shortened 12) = steps_at worked_policies filling_start shortened_events shortened_answers 11 (comes_to_server 115000000 3) (answers.Deliver receives.Taken) _ _ refl refl refl in
    record { answer = inl refl; end = s.end; control = s.control; heard = s.heard; openings = tt; others = s.others; lacking = tt }

seen_11 : larger_with (Some 275000000) ≡ view_of (once_shortened 12)
unfolding once_shortened
seen_11 = refl

step_12 : IsStep worked_policies (once_shortened 12) (asks_at Server 115000000) (gives_unmarked 31) (once_shortened 13)
unfolding once_shortened
step_12 =
    let s : StepsSo worked_policies (once_shortened 12) (asks_at Server 115000000) (gives_unmarked 31) (once_shortened 13) = steps_at worked_policies filling_start shortened_events shortened_answers 12 (asks_at Server 115000000) (gives_unmarked 31) _ _ refl refl refl in
    record { answer = inl refl; end = s.end; control = s.control; heard = s.heard; openings = tt; others = s.others; lacking = tt }

seen_12 : larger_with (Some 275000000) ≡ view_of (once_shortened 13)
unfolding once_shortened
seen_12 = refl

step_13 : IsStep worked_policies (once_shortened 13) second_comes (answers.Deliver receives.Taken) (once_shortened 14)
unfolding once_shortened
step_13 =
    let s : StepsSo worked_policies (once_shortened 13) second_comes (answers.Deliver receives.Taken) (once_shortened 14) = steps_at worked_policies filling_start shortened_events shortened_answers 13 second_comes (answers.Deliver receives.Taken) _ _ refl refl refl in
    record { answer = inl refl; end = s.end; control = s.control; heard = s.heard; openings = tt; others = s.others; lacking = tt }

seen_13 : larger_with (Some 180000000) ≡ view_of (once_shortened 14)
unfolding once_shortened
seen_13 = refl

follows : Follows shortened_run.keys shortened_run.start shortened_run.events shortened_run.answers shortened_run.views (once_shortened 14)
follows = (once_shortened 1, step_0, seen_0, (once_shortened 2, step_1, seen_1, (once_shortened 3, step_2, seen_2, (once_shortened 4, step_3, seen_3, (once_shortened 5, step_4, seen_4, (once_shortened 6, step_5, seen_5, (once_shortened 7, step_6, seen_6, (once_shortened 8, step_7, seen_7, (once_shortened 9, step_8, seen_8, (once_shortened 10, step_9, seen_9, (once_shortened 11, step_10, seen_10, (once_shortened 12, step_11, seen_11, (once_shortened 13, step_12, seen_12, (once_shortened 14, step_13, seen_13, refl))))))))))))))

gave_five : shortened_run.from_client ≡ (once_shortened 14).from_client
unfolding once_shortened
gave_five = refl

gave_two : shortened_run.from_server ≡ (once_shortened 14).from_server
unfolding once_shortened
gave_two = refl

pub shortened_is_run : IsRun shortened_run (once_shortened 14)
shortened_is_run = record { codes = no_codes shortened_run.events refl; follows = follows; from_client = gave_five; from_server = gave_two }

pub are_sized : DatagramsAreSized shortened_run
are_sized = datagrams_are_sized shortened_run (once_shortened 14) shortened_is_honest shortened_is_run

-- ---- what goes, and how many probes wait

pub none_wait : (watch shortened_run Client 7).flight.probes ≡ 0
unfolding once_shortened
none_wait = refl

pub two_wait : (watch shortened_run Client 9).flight.probes ≡ 2
unfolding once_shortened
two_wait = refl

pub none_left : (watch shortened_run Client 14).flight.probes ≡ 0
unfolding once_shortened
none_left = refl

full_went : sents_until shortened_run Client 8 ≡ sents_until shortened_run Client 7 ++ full_sent ∷ []
unfolding once_shortened
full_went = refl

first_went : sents_until shortened_run Client 10 ≡ sents_until shortened_run Client 9 ++ probe_sent 3 ∷ []
unfolding once_shortened
first_went = refl

second_went : sents_until shortened_run Client 11 ≡ sents_until shortened_run Client 10 ++ probe_sent 4 ∷ []
unfolding once_shortened
second_went = refl

pub full_goes : (gave : GaveAsking shortened_run Client 7 20000000) × (gave.one.sent ≡ full_sent)
full_goes = (record { one = record { transmit = record { size = 1326; ecn = None; remote = 0 }; poll = record { event = refl; answer = refl }; served = refl; sent = full_sent; went = full_went }; asks = refl }, refl)

pub first_goes : (gave : GaveAsking shortened_run Client 9 105000000) × (gave.one.sent ≡ probe_sent 3)
first_goes = (record { one = record { transmit = record { size = 1200; ecn = None; remote = 0 }; poll = record { event = refl; answer = refl }; served = refl; sent = probe_sent 3; went = first_went }; asks = refl }, refl)

pub second_goes : (gave : GaveAsking shortened_run Client 10 105000000) × (gave.one.sent ≡ probe_sent 4)
second_goes = (record { one = record { transmit = record { size = 1200; ecn = None; remote = 0 }; poll = record { event = refl; answer = refl }; served = refl; sent = probe_sent 4; went = second_went }; asks = refl }, refl)

-- what told the ids, as it was sent
abbrev ids_sent : Sent
ids_sent = record { id = server_id; number = 0; reference = 0; frames = id_frames ++ replicate 978 padding; moment = 0; size = 1200; generation = 0 }

all_acked : acked_until shortened_run Client 14 ≡ ids_sent ∷ size_sent ∷ probe_sent 3 ∷ []
unfolding once_shortened
all_acked = refl

pub probe_acked : In (probe_sent 3) (acked_until shortened_run Client 14)
probe_acked = subst (λ (ss : List Sent). In (probe_sent 3) ss) (sym all_acked) (inr (inr (inl refl)))

-- ---- a client that fills a probe up to the current size

long_went : sents_until long_probe_run Client 10 ≡ sents_until long_probe_run Client 9 ++ long_probe_sent ∷ []
unfolding once_shortened
long_went = refl

gave_long : GaveOne long_probe_run Client 9 105000000
gave_long = record { transmit = record { size = 1326; ecn = None; remote = 0 }; poll = record { event = refl; answer = refl }; served = refl; sent = long_probe_sent; went = long_went }

long_waits : (watch long_probe_run Client 9).flight.probes ≡ 2
unfolding once_shortened
long_waits = refl

pub long_wrong : DatagramsAreSized long_probe_run → ⊥
unfolding gave_long
long_wrong h = let most : 1326 ≤ 1200 = (h Client 9 105000000 gave_long).2 refl (subst (λ (n : ℕ). 0 < n) (sym long_waits) (lit< tt)) in omega (arith, most)

long_own : (side : Side) → AreOwn side [] long_probe_run.events long_probe_run.answers long_probe_run.views
long_own Client = (tt, (tt, (tt, (tt, (tt, (tt, (tt, (tt, (tt, (tt, tt))))))))))
long_own Server = (tt, (tt, (tt, (tt, (tt, (tt, (tt, (tt, (tt, (tt, tt))))))))))

pub long_is_honest : IsHonest long_probe_run
long_is_honest = record { start = filling_started; keys = are_keys; ids = own_ids long_probe_run long_own }

-- the machine gives one of the least size
long_no : IsRefused (once_shortened 9) (asks_at Client 105000000) (gives_unmarked 1326)
unfolding once_shortened
long_no (inl e) = let clash : ◌≡◌ {A = ℕ} 1326 1200 = ap given_bytes e in omega (arith, clash)
long_no (inr e) = cc

pub long_is_none : IsNoRun long_probe_run
long_is_none = behind refl step_0 (behind refl step_1 (behind refl step_2 (behind refl step_3 (behind refl step_4 (behind refl step_5 (behind refl step_6 (behind refl step_7 (behind refl step_8 (stops _ _ _ _ _ long_no)))))))))
