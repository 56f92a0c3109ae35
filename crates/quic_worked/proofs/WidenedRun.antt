-- The run in which a window grows at a server whose peer's address becomes validated, event by
-- event, and a machine whose controller is told of no acknowledgement.
use Rattle.std.proofs.Common.{◌≡◌, ℕ, ◌+◌, min, Bool, true, false, not, ◌&&◌, List, [], ◌∷◌, ◌++◌, filter, replicate, length, Option, Some, None, Ok, refl, inl, sym, ap, ◌∙◌, subst, arith}
use Rattle.std.specs.Prelude.{if◌then◌else◌, slice_get}
use Rattle.std.specs.List.{list_any}
use Rattle.quic_time.specs.Rtt.{Rtt}
use Rattle.quic_wire_core.specs.declared.stream_id.Side.{Side}
use Rattle.quic_wire_core.specs.declared.stream_id.Side.TheVariants.{Client, Server}
use Rattle.quic_wire.specs.Value.{AckValue, ack, ping}
use Rattle.quic_config.specs.Transport.{TransportSettings}
use Rattle.quic_congestion.specs.Congestion.{Told, Acked, AcksEnded, Resized}
use Rattle.quic_spaces.specs.Numbers.{greatest_of}
use Rattle.quic_machine.specs.declared.answers.Received.TheVariants as receives
use Rattle.quic_machine.specs.declared.answers.State.TheVariants as states
use Rattle.quic_machine.specs.declared.run.Answer.TheVariants as answers
use Rattle.quic_machine.specs.declared.run.View.{View}
use Rattle.quic_machine.specs.Start.{AreStarted}
use Rattle.quic_machine.specs.Machine.{IsStep, Follows, end_at, view_of}
use Rattle.quic_machine.specs.RunLaws.{one_run}
use Rattle.quic_headline.specs.Runs.{Packet, names, until, and_told}
use Rattle.quic_headline.specs.Runs as of_runs
use Rattle.quic_headline.specs.Observer.{Watch, Lens, news, has_opened, moment_of, clock_behind, lens_of, watch_from, watch}
use Rattle.quic_headline.specs.Observer as observer
use Rattle.quic_headline.specs.Headline.{IsHonest, IsRun}
use Rattle.quic_headline.specs.Polls.{seen_at, bytes_on}
use Rattle.quic_headline.specs.Marking.{Marking, first_marking, marking}
use Rattle.quic_headline.specs.Telling.{Tellings, Judging, judging, told_if, TellsAcked, TellsAck, TellsNamed, TellsSettled, TellsPackets, TellsCall, TellsCalls, shows_validated, ControllersAreTold}
use Rattle.quic_headline.specs.AppLimited.{CountsAt}
use Rattle.quic_headline.proofs.AppLimited.Clause.{controllers_are_told}
use Rattle.quic_worked.specs.Worked.{worked_policies, opens_stream, asks_datagram, delivers, gives_bytes, gives_unmarked, told_in, client_id, open_view, sent_view, view_within}
use Rattle.quic_worked.specs.Acknowledged.{client_acked}
use Rattle.quic_worked.specs.Losses.{asks_ping}
use Rattle.quic_worked.specs.Paired.{asks_server, client_hears}
use Rattle.quic_worked.specs.Reordered.{writes_bytes, delivers_at}
use Rattle.quic_worked.specs.Renamed.{client_hears_second}
use Rattle.quic_worked.specs.Timed.{NeverShows}
use Rattle.quic_worked.specs.Unvalidated.{far_view, server_pings}
use Rattle.quic_worked.specs.Widened.{is_acknowledged, widening, widening_events, widening_answers, once_widening, client_waits, client_owes, widening_run, widening_told, unwidened_run}
use Rattle.quic_worked.proofs.Codes.{no_codes}
use Rattle.quic_worked.proofs.OwnIds.{AreOwn, own_ids}
use Rattle.quic_worked.proofs.WorkedKeys.{are_keys}
use Rattle.quic_worked.proofs.UnvalidatedRun.{far_started}
use Rattle.quic_worked.proofs.Steps.{StepsSo, steps_at}
use Rattle.quic_worked.proofs.LastTold.{any_left, any_right, LastTold, last_told}

-- ---- the premises

widening_started : AreStarted widening
widening_started = record {
  client_making = far_started.client_making;
  server_making = far_started.server_making;
  client_is = far_started.client_is;
  server_is = far_started.server_is;
  client = far_started.client;
  server = far_started.server;
  client_gave = refl;
  server_gave = refl;
  client_heard = refl;
  server_heard = refl;
}

widening_own : (side : Side) → AreOwn side [] widening_run.events widening_run.answers widening_run.views
widening_own Client = (tt, (inl refl, (tt, (tt, (tt, (tt, (tt, (tt, (tt, (tt, (tt, (tt, (tt, (tt, tt))))))))))))))
widening_own Server = (tt, (tt, (tt, (tt, (tt, (tt, (tt, (tt, (tt, (tt, (tt, (tt, (tt, (tt, tt))))))))))))))

unwidened_own : (side : Side) → AreOwn side [] unwidened_run.events unwidened_run.answers unwidened_run.views
unwidened_own Client = (tt, (inl refl, (tt, (tt, (tt, (tt, (tt, (tt, (tt, (tt, (tt, (tt, (tt, (tt, tt))))))))))))))
unwidened_own Server = (tt, (tt, (tt, (tt, (tt, (tt, (tt, (tt, (tt, (tt, (tt, (tt, (tt, (tt, tt))))))))))))))

pub widening_is_honest : IsHonest widening_run
widening_is_honest = record { start = widening_started; keys = are_keys; ids = own_ids widening_run widening_own }

pub unwidened_is_honest : IsHonest unwidened_run
unwidened_is_honest = record { start = widening_started; keys = are_keys; ids = own_ids unwidened_run unwidened_own }

-- ---- the machine's run

step_0 : IsStep worked_policies (once_widening 0) opens_stream (answers.Open (Some 0)) (once_widening 1)
unfolding client_acked
step_0 = let s : StepsSo worked_policies (once_widening 0) opens_stream (answers.Open (Some 0)) (once_widening 1) = steps_at worked_policies widening widening_events widening_answers 0 opens_stream (answers.Open (Some 0)) _ _ refl refl refl in record { answer = refl; end = s.end; control = s.control; heard = s.heard; openings = tt; others = s.others; lacking = tt }

seen_0 : record { client = open_view; server = far_view None None } ≡ view_of (once_widening 1)
unfolding client_acked
seen_0 = refl

step_1 : IsStep worked_policies (once_widening 1) (writes_bytes (replicate 976 0x61)) (answers.Write (Ok 976)) (once_widening 2)
unfolding client_acked
step_1 = let s : StepsSo worked_policies (once_widening 1) (writes_bytes (replicate 976 0x61)) (answers.Write (Ok 976)) (once_widening 2) = steps_at worked_policies widening widening_events widening_answers 1 (writes_bytes (replicate 976 0x61)) (answers.Write (Ok 976)) _ _ refl refl refl in record { answer = inl refl; end = s.end; control = s.control; heard = s.heard; openings = tt; others = s.others; lacking = λ lacks. cc }

seen_1 : record { client = open_view; server = far_view None None } ≡ view_of (once_widening 2)
unfolding client_acked
seen_1 = refl

step_2 : IsStep worked_policies (once_widening 2) asks_datagram (gives_bytes 1200) (once_widening 3)
unfolding client_acked
step_2 = let s : StepsSo worked_policies (once_widening 2) asks_datagram (gives_bytes 1200) (once_widening 3) = steps_at worked_policies widening widening_events widening_answers 2 asks_datagram (gives_bytes 1200) _ _ refl refl refl in record { answer = inl refl; end = s.end; control = s.control; heard = s.heard; openings = tt; others = s.others; lacking = tt }

seen_2 : record { client = sent_view; server = far_view None None } ≡ view_of (once_widening 3)
unfolding client_acked
seen_2 = refl

step_3 : IsStep worked_policies (once_widening 3) delivers (answers.Deliver receives.Taken) (once_widening 4)
unfolding client_acked
step_3 = let s : StepsSo worked_policies (once_widening 3) delivers (answers.Deliver receives.Taken) (once_widening 4) = steps_at worked_policies widening widening_events widening_answers 3 delivers (answers.Deliver receives.Taken) _ _ refl refl refl in record { answer = inl refl; end = s.end; control = s.control; heard = s.heard; openings = tt; others = s.others; lacking = tt }

seen_3 : record { client = sent_view; server = far_view None (Some 25000000) } ≡ view_of (once_widening 4)
unfolding client_acked
seen_3 = refl

step_4 : IsStep worked_policies (once_widening 4) asks_server (gives_bytes 1200) (once_widening 5)
unfolding client_acked
step_4 = let s : StepsSo worked_policies (once_widening 4) asks_server (gives_bytes 1200) (once_widening 5) = steps_at worked_policies widening widening_events widening_answers 4 asks_server (gives_bytes 1200) _ _ refl refl refl in record { answer = inl refl; end = s.end; control = s.control; heard = s.heard; openings = tt; others = s.others; lacking = tt }

seen_4 : record { client = sent_view; server = far_view (Some 1024000000) None } ≡ view_of (once_widening 5)
unfolding client_acked
seen_4 = refl

step_5 : IsStep worked_policies (once_widening 5) client_hears (answers.Deliver receives.Taken) (once_widening 6)
unfolding client_acked
step_5 = let s : StepsSo worked_policies (once_widening 5) client_hears (answers.Deliver receives.Taken) (once_widening 6) = steps_at worked_policies widening widening_events widening_answers 5 client_hears (answers.Deliver receives.Taken) _ _ refl refl refl in record { answer = inl refl; end = s.end; control = s.control; heard = s.heard; openings = tt; others = s.others; lacking = tt }

seen_5 : client_owes (far_view (Some 1024000000) None) ≡ view_of (once_widening 6)
unfolding client_acked
seen_5 = refl

step_6 : IsStep worked_policies (once_widening 6) asks_datagram (gives_unmarked 1200) (once_widening 7)
unfolding client_acked
step_6 = let s : StepsSo worked_policies (once_widening 6) asks_datagram (gives_unmarked 1200) (once_widening 7) = steps_at worked_policies widening widening_events widening_answers 6 asks_datagram (gives_unmarked 1200) _ _ refl refl refl in record { answer = inl refl; end = s.end; control = s.control; heard = s.heard; openings = tt; others = s.others; lacking = tt }

seen_6 : client_waits (far_view (Some 1024000000) None) ≡ view_of (once_widening 7)
unfolding client_acked
seen_6 = refl

step_7 : IsStep worked_policies (once_widening 7) (delivers_at 1) (answers.Deliver receives.Taken) (once_widening 8)
unfolding client_acked
step_7 = let s : StepsSo worked_policies (once_widening 7) (delivers_at 1) (answers.Deliver receives.Taken) (once_widening 8) = steps_at worked_policies widening widening_events widening_answers 7 (delivers_at 1) (answers.Deliver receives.Taken) _ _ refl refl refl in record { answer = inl refl; end = s.end; control = s.control; heard = s.heard; openings = tt; others = s.others; lacking = tt }

seen_7 : client_waits (view_within 24000 None (Some 25000000)) ≡ view_of (once_widening 8)
unfolding client_acked
seen_7 = refl

step_8 : IsStep worked_policies (once_widening 8) server_pings answers.Ping (once_widening 9)
unfolding client_acked
step_8 = let s : StepsSo worked_policies (once_widening 8) server_pings answers.Ping (once_widening 9) = steps_at worked_policies widening widening_events widening_answers 8 server_pings answers.Ping _ _ refl refl refl in record { answer = refl; end = s.end; control = s.control; heard = s.heard; openings = tt; others = s.others; lacking = tt }

seen_8 : client_waits (view_within 24000 None (Some 25000000)) ≡ view_of (once_widening 9)
unfolding client_acked
seen_8 = refl

step_9 : IsStep worked_policies (once_widening 9) asks_server (gives_unmarked 32) (once_widening 10)
unfolding client_acked
step_9 = let s : StepsSo worked_policies (once_widening 9) asks_server (gives_unmarked 32) (once_widening 10) = steps_at worked_policies widening widening_events widening_answers 9 asks_server (gives_unmarked 32) _ _ refl refl refl in record { answer = inl refl; end = s.end; control = s.control; heard = s.heard; openings = tt; others = s.others; lacking = tt }

seen_9 : client_waits (view_within 24000 (Some 26000000) None) ≡ view_of (once_widening 10)
unfolding client_acked
seen_9 = refl

step_10 : IsStep worked_policies (once_widening 10) client_hears_second (answers.Deliver receives.Taken) (once_widening 11)
unfolding client_acked
step_10 = let s : StepsSo worked_policies (once_widening 10) client_hears_second (answers.Deliver receives.Taken) (once_widening 11) = steps_at worked_policies widening widening_events widening_answers 10 client_hears_second (answers.Deliver receives.Taken) _ _ refl refl refl in record { answer = inl refl; end = s.end; control = s.control; heard = s.heard; openings = tt; others = s.others; lacking = tt }

seen_10 : client_owes (view_within 24000 (Some 26000000) None) ≡ view_of (once_widening 11)
unfolding client_acked
seen_10 = refl

step_11 : IsStep worked_policies (once_widening 11) asks_ping answers.Ping (once_widening 12)
unfolding client_acked
step_11 = let s : StepsSo worked_policies (once_widening 11) asks_ping answers.Ping (once_widening 12) = steps_at worked_policies widening widening_events widening_answers 11 asks_ping answers.Ping _ _ refl refl refl in record { answer = refl; end = s.end; control = s.control; heard = s.heard; openings = tt; others = s.others; lacking = tt }

seen_11 : client_owes (view_within 24000 (Some 26000000) None) ≡ view_of (once_widening 12)
unfolding client_acked
seen_11 = refl

step_12 : IsStep worked_policies (once_widening 12) asks_datagram (gives_unmarked 32) (once_widening 13)
unfolding client_acked
step_12 = let s : StepsSo worked_policies (once_widening 12) asks_datagram (gives_unmarked 32) (once_widening 13) = steps_at worked_policies widening widening_events widening_answers 12 asks_datagram (gives_unmarked 32) _ _ refl refl refl in record { answer = inl refl; end = s.end; control = s.control; heard = s.heard; openings = tt; others = s.others; lacking = tt }

seen_12 : client_waits (view_within 24000 (Some 26000000) None) ≡ view_of (once_widening 13)
unfolding client_acked
seen_12 = refl

step_13 : IsStep worked_policies (once_widening 13) (delivers_at 2) (answers.Deliver receives.Taken) (once_widening 14)
unfolding client_acked
step_13 = let s : StepsSo worked_policies (once_widening 13) (delivers_at 2) (answers.Deliver receives.Taken) (once_widening 14) = steps_at worked_policies widening widening_events widening_answers 13 (delivers_at 2) (answers.Deliver receives.Taken) _ _ refl refl refl in record { answer = inl refl; end = s.end; control = s.control; heard = s.heard; openings = tt; others = s.others; lacking = tt }

seen_13 : client_waits (view_within 24000 None (Some 25000000)) ≡ view_of (once_widening 14)
unfolding client_acked
seen_13 = refl

follows : Follows widening_run.keys widening_run.start widening_run.events widening_run.answers widening_run.views (once_widening 14)
follows = (once_widening 1, step_0, seen_0, (once_widening 2, step_1, seen_1, (once_widening 3, step_2, seen_2, (once_widening 4, step_3, seen_3, (once_widening 5, step_4, seen_4, (once_widening 6, step_5, seen_5, (once_widening 7, step_6, seen_6, (once_widening 8, step_7, seen_7, (once_widening 9, step_8, seen_8, (once_widening 10, step_9, seen_9, (once_widening 11, step_10, seen_10, (once_widening 12, step_11, seen_11, (once_widening 13, step_12, seen_12, (once_widening 14, step_13, seen_13, refl))))))))))))))

gave_three : widening_run.from_client ≡ (once_widening 14).from_client
unfolding client_acked
gave_three = refl

gave_two : widening_run.from_server ≡ (once_widening 14).from_server
unfolding client_acked
gave_two = refl

pub widening_is_run : IsRun widening_run (once_widening 14)
widening_is_run = record { codes = no_codes widening_run.events refl; follows = follows; from_client = gave_three; from_server = gave_two }

pub not_before : (seen_at widening_run Server 7).validated ≡ false
not_before = refl

pub is_behind : (seen_at widening_run Server 8).validated ≡ true
is_behind = refl

pub told_so : told_in Server worked_policies widening widening_events widening_answers ≡ widening_told
unfolding client_acked
told_so = refl

pub widening_is_told : ControllersAreTold widening_run
widening_is_told = controllers_are_told widening_run (once_widening 14) widening_is_honest widening_is_run (refl, refl)

-- ---- a controller that is told of no acknowledgement

-- the last acknowledgement that comes, and what is known before it
abbrev comes : of_runs.Told
comes = record { call = (delivers_at 2).call; answer = answers.Deliver receives.Taken; state = states.Open }

abbrev seen : Watch
seen = watch unwidened_run Server 13

abbrev lens : Lens
lens = lens_of unwidened_run Server

abbrev settings : TransportSettings
settings = (end_at Server widening).transport

-- it names number 1
abbrev acks_second : AckValue
acks_second = record { largest = 1; delay = 0; ranges = (1, 1) ∷ []; ecn = None }

abbrev packet : Packet
packet = record { number = 2; frames = ping ∷ ack acks_second ∷ [] }

comes_last : until unwidened_run Server 14 ≡ until unwidened_run Server 13 ++ comes ∷ []
unfolding client_acked
comes_last = refl

opened_is : has_opened seen.intake (and_told lens.own lens.peer_gave comes seen.intake) ≡ true
unfolding client_acked
opened_is = refl

news_are : news seen.intake (and_told lens.own lens.peer_gave comes seen.intake) ≡ packet ∷ []
unfolding client_acked
news_are = refl

clock_is : clock_behind seen.clock (moment_of states.Open true comes.call) ≡ 0
unfolding client_acked
clock_is = refl

-- the datagram with PING that the server gave
abbrev pinged : observer.Sent
pinged = record { id = client_id; number = 1; reference = 0; frames = ping ∷ ack acks_second ∷ []; moment = 0; size = 32; generation = 0 }

abbrev others : List observer.Sent
others = filter (λ (s : observer.Sent). not (names acks_second s.number)) seen.flight.flying

acked_is : filter (λ (s : observer.Sent). names acks_second s.number) seen.flight.flying ≡ pinged ∷ []
unfolding client_acked
acked_is = refl

-- the view before it shows the address as validated
validated_then : shows_validated unwidened_run Server (0 + length (until unwidened_run Server 13)) ≡ true
unfolding client_acked
validated_then = refl

-- no challenge is open where that is so
none_open : (challenged validated : Bool) → validated ≡ true → (challenged ≡ true → validated ≡ false) → challenged ≡ false
none_open false validated is unvalidated = refl
none_open true validated is unvalidated = (let clash : true ≡ false = sym is ∙ unvalidated refl in cc)

-- so the controller is told of what asks
acked_told : (least : ℕ) (challenged app_limited : Bool) (rtt : Rtt) (each : Tellings) → challenged ≡ false → TellsAcked least 0 challenged app_limited rtt (pinged ∷ []) each → list_any is_acknowledged each ≡ true
acked_told least challenged app_limited rtt each none a =
    ap (λ (us : Tellings). list_any is_acknowledged us) (a.4 ∙ ap (λ (b : Bool). told_if (observer.asks_of pinged && not b) (Acked 0 0 32 app_limited rtt) ++ told_if a.0 (Resized 32) ++ a.2) none)

module _ (validated : Bool) (is : validated ≡ true) (first : Option ℕ) (limited : Bool) (k : Marking) where
  -- by what acknowledgements are judged there
  abbrev j : Judging
  j = judging lens settings validated first limited seen

  -- the ACK frame ends so
  abbrev ended : Told
  ended = AcksEnded 0 (min (bytes_on seen.route.generation others) observer.latest) limited (Some (greatest_of seen.flight.named acks_second.largest))

  settled_tells : (told : Tellings) → TellsSettled j 0 acks_second (pinged ∷ []) others seen.flight k told → list_any is_acknowledged told ≡ true
  settled_tells told x =
      ap (λ (us : Tellings). list_any is_acknowledged us) x.is
      ∙ any_left is_acknowledged (x.each ++ ended ∷ x.lost) _ (any_left is_acknowledged x.each (ended ∷ x.lost) (acked_told settings.min_mtu x.challenged limited seen.flight.rtt x.each (none_open x.challenged validated is x.unvalidated) x.acks))

  packets_tell : (told : Tellings) → TellsPackets j 0 (packet ∷ []) seen.flight k told → list_any is_acknowledged told ≡ true
  packets_tell told m =
      let frames : (now later : Tellings) × TellsAck j 0 acks_second seen.flight k now × (later ≡ []) × (m.1 ≡ now ++ later) = m.3 in
      let settled : TellsSettled j 0 acks_second (pinged ∷ []) others seen.flight k frames.0 = subst (λ (ss : List observer.Sent). TellsNamed j 0 acks_second ss others seen.flight k frames.0) acked_is frames.2 in
      subst (λ (us : Tellings). list_any is_acknowledged us ≡ true) (sym m.4)
      (any_right is_acknowledged m.0 m.1 (subst (λ (us : Tellings). list_any is_acknowledged us ≡ true) (sym frames.4) (any_left is_acknowledged frames.0 frames.1 (settled_tells frames.0 settled))))

  call_tells : (now : Tellings) → TellsCall lens settings validated first limited seen k comes now → list_any is_acknowledged now ≡ true
  call_tells now x =
      ap (λ (us : Tellings). list_any is_acknowledged us) x.is
      ∙ any_left is_acknowledged (x.taken ++ x.refused ++ x.late) _ (any_left is_acknowledged (x.taken ++ x.refused) x.late (any_left is_acknowledged x.taken x.refused (packets_tell x.taken takes)))
    where
      clock : x.clock ≡ 0
      clock =
          x.moment
          ∙ ap (λ (i : of_runs.Intake). clock_behind seen.clock (moment_of states.Open (has_opened seen.intake i) comes.call)) x.came
          ∙ ap (λ (b : Bool). clock_behind seen.clock (moment_of states.Open b comes.call)) opened_is
          ∙ clock_is

      takes : TellsPackets j 0 (packet ∷ []) seen.flight k x.taken
      takes =
          subst (λ (n : ℕ). TellsPackets j n (packet ∷ []) seen.flight k x.taken) clock
          (subst (λ (ps : List Packet). TellsPackets j x.clock ps seen.flight k x.taken) (ap (λ (i : of_runs.Intake). news seen.intake i) x.came ∙ news_are) x.takes)

pub unwidened_not : ControllersAreTold unwidened_run → ⊥
unwidened_not h =
    let all = h Server 13 (client_waits (view_within 12000 None (Some 25000000))) refl refl in
    let begins : Watch = watch_from (end_at Server widening) unwidened_run.from_server in
    let valid : ℕ → Bool = shows_validated unwidened_run Server in
    let calls : TellsCalls lens settings valid (CountsAt unwidened_run Server) 0 None begins first_marking (until unwidened_run Server 13 ++ comes ∷ []) all.0 = subst (λ (ts : List of_runs.Told). TellsCalls lens settings valid (CountsAt unwidened_run Server) 0 None begins first_marking ts all.0) comes_last all.1 in
    let last : LastTold is_acknowledged lens settings valid 0 begins first_marking (until unwidened_run Server 13) comes all.0 = last_told is_acknowledged lens settings valid (CountsAt unwidened_run Server) 0 None begins first_marking (until unwidened_run Server 13) comes all.0 calls in
    let is : valid last.place ≡ true = ap valid last.behind ∙ validated_then in
    let shows : ◌≡◌ {A = ℕ} 12000 (if list_any is_acknowledged all.0 then 24000 else 12000) = all.2 in
    let grows : ◌≡◌ {A = ℕ} 12000 24000 = shows ∙ ap (λ (b : Bool). if b then 24000 else 12000) (last.among (call_tells (valid last.place) is last.first last.limited (marking unwidened_run Server 13) last.now last.tells)) in
    absurd (omega (arith, grows))

-- the window that a view shows
abbrev window_of : Option View → ℕ
window_of None = 0
window_of (Some v) = v.server.window

pub unwidened_never : NeverShows unwidened_run
unwidened_never end f =
    let same = one_run widening_run.keys widening_run.answers widening_run.start widening_run.events unwidened_run.views widening_run.views end (once_widening 14) refl f follows in
    let windows : ◌≡◌ {A = ℕ} 12000 24000 = ap (λ (vs : List View). window_of (slice_get vs 7)) same.0 in
    absurd (omega (arith, windows))
