-- The run in which a window is halved, event by event, and a machine whose controller is told of no
-- loss.
use Rattle.std.proofs.Common.{◌≡◌, ◌≤◌, ℕ, min, Bool, true, false, not, cond, List, [], ◌∷◌, ◌++◌, filter, Option, Some, None, Ok, refl, inl, sym, ap, ◌∙◌, subst, arith}
use Rattle.std.specs.Prelude.{if◌then◌else◌, slice_get}
use Rattle.std.specs.List.{list_any}
use Rattle.quic_wire_core.specs.declared.stream_id.Side.{Side}
use Rattle.quic_wire_core.specs.declared.stream_id.Side.TheVariants.{Client, Server}
use Rattle.quic_wire.specs.Value.{ack, ping, padding}
use Rattle.quic_config.specs.Transport.{TransportSettings}
use Rattle.quic_congestion.specs.Congestion.{Told, AcksEnded, Congested, Resized}
use Rattle.quic_congestion.specs.Search.{is_number}
use Rattle.quic_spaces.specs.Numbers.{greatest_of}
use Rattle.quic_machine.specs.declared.answers.Received.TheVariants as receives
use Rattle.quic_machine.specs.declared.answers.State.TheVariants as states
use Rattle.quic_machine.specs.declared.run.Answer.TheVariants as answers
use Rattle.quic_machine.specs.declared.run.View.{View}
use Rattle.quic_machine.specs.Start.{AreStarted}
use Rattle.quic_machine.specs.Machine.{IsStep, Follows, end_at, view_of}
use Rattle.quic_machine.specs.RunLaws.{one_run}
use Rattle.quic_headline.specs.Runs.{Packet, In, names, until, and_told}
use Rattle.quic_headline.specs.Runs as of_runs
use Rattle.quic_headline.specs.Observer.{Watch, Lens, news, has_opened, moment_of, clock_behind, lens_of, watch_from, watch}
use Rattle.quic_headline.specs.Observer as observer
use Rattle.quic_headline.specs.Headline.{IsHonest, IsRun}
use Rattle.quic_headline.specs.Polls.{counts_on, bytes_on}
use Rattle.quic_headline.specs.Marking.{Marking, first_marking, marking}
use Rattle.quic_headline.specs.Telling.{Tellings, Judging, judging, told_if, MayProbe, lost_at, but_for_probe, acked_flight, TellsLosses, TellsAck, TellsNamed, TellsSettled, TellsPackets, TellsCall, TellsCalls, shows_validated, ControllersAreTold}
use Rattle.quic_worked.specs.Worked.{worked_policies, asks_datagram, gives_bytes, told_in, server_id, id_frames}
use Rattle.quic_headline.specs.AppLimited.{CountsAt}
use Rattle.quic_headline.proofs.AppLimited.Clause.{controllers_are_told}
use Rattle.quic_worked.specs.Acknowledged.{client_acked, third_ack}
use Rattle.quic_worked.specs.Reordered.{delivers_at}
use Rattle.quic_worked.specs.Losses.{asks_ping}
use Rattle.quic_worked.specs.Paired.{asks_server}
use Rattle.quic_worked.specs.Timed.{serves, comes_at, seen_with, NeverShows}
use Rattle.quic_worked.specs.Measured.{measured_events, measured_answers}
use Rattle.quic_worked.specs.Halved.{is_congestion, halving, once_halving, halved_view, halving_run, untold_run, halving_told}
use Rattle.quic_worked.proofs.Codes.{no_codes}
use Rattle.quic_worked.proofs.OwnIds.{AreOwn, own_ids}
use Rattle.quic_worked.proofs.WorkedHonest.{are_started}
use Rattle.quic_worked.proofs.WorkedKeys.{are_keys}
use Rattle.quic_worked.proofs.Steps.{counts_so}
use Rattle.quic_worked.proofs.LastTold.{any_left, any_right, LastTold, last_told}

-- ---- the premises

pub halving_started : AreStarted halving
halving_started = record {
  client_making = are_started.client_making;
  server_making = are_started.server_making;
  client_is = are_started.client_is;
  server_is = are_started.server_is;
  client = are_started.client;
  server = are_started.server;
  client_gave = refl;
  server_gave = refl;
  client_heard = refl;
  server_heard = refl;
}

halving_own : (side : Side) → AreOwn side [] halving_run.events halving_run.answers halving_run.views
halving_own Client = (tt, (tt, (tt, (tt, (tt, (tt, (tt, (tt, (tt, (tt, (tt, (tt, tt))))))))))))
halving_own Server = (tt, (tt, (tt, (tt, (tt, (tt, (tt, (tt, (tt, (tt, (tt, (tt, tt))))))))))))

untold_own : (side : Side) → AreOwn side [] untold_run.events untold_run.answers untold_run.views
untold_own Client = (tt, (tt, (tt, (tt, (tt, (tt, (tt, (tt, (tt, (tt, (tt, (tt, tt))))))))))))
untold_own Server = (tt, (tt, (tt, (tt, (tt, (tt, (tt, (tt, (tt, (tt, (tt, (tt, tt))))))))))))

pub halving_is_honest : IsHonest halving_run
halving_is_honest = record { start = halving_started; keys = are_keys; ids = own_ids halving_run halving_own }

pub untold_is_honest : IsHonest untold_run
untold_is_honest = record { start = halving_started; keys = are_keys; ids = own_ids untold_run untold_own }

-- ---- the machine's run

step_0 : IsStep worked_policies halving asks_ping answers.Ping (once_halving 1)
unfolding once_halving
step_0 = record { answer = refl; end = refl; control = refl; heard = counts_so worked_policies halving asks_ping answers.Ping; openings = tt; others = refl; lacking = tt }

seen_0 : (seen_with None None) ≡ view_of (once_halving 1)
unfolding once_halving
seen_0 = refl

step_1 : IsStep worked_policies (once_halving 1) asks_datagram (gives_bytes 223) (once_halving 2)
unfolding once_halving
step_1 = record { answer = inl refl; end = refl; control = refl; heard = counts_so worked_policies (once_halving 1) asks_datagram (gives_bytes 223); openings = tt; others = refl; lacking = tt }

seen_1 : (seen_with (Some 1024000000) None) ≡ view_of (once_halving 2)
unfolding once_halving
seen_1 = refl

step_2 : IsStep worked_policies (once_halving 2) asks_ping answers.Ping (once_halving 3)
unfolding once_halving
step_2 = record { answer = refl; end = refl; control = refl; heard = counts_so worked_policies (once_halving 2) asks_ping answers.Ping; openings = tt; others = refl; lacking = tt }

seen_2 : (seen_with (Some 1024000000) None) ≡ view_of (once_halving 3)
unfolding once_halving
seen_2 = refl

step_3 : IsStep worked_policies (once_halving 3) asks_datagram (gives_bytes 29) (once_halving 4)
unfolding once_halving
step_3 = record { answer = inl refl; end = refl; control = refl; heard = counts_so worked_policies (once_halving 3) asks_datagram (gives_bytes 29); openings = tt; others = refl; lacking = tt }

seen_3 : (seen_with (Some 1024000000) None) ≡ view_of (once_halving 4)
unfolding once_halving
seen_3 = refl

step_4 : IsStep worked_policies (once_halving 4) asks_ping answers.Ping (once_halving 5)
unfolding once_halving
step_4 = record { answer = refl; end = refl; control = refl; heard = counts_so worked_policies (once_halving 4) asks_ping answers.Ping; openings = tt; others = refl; lacking = tt }

seen_4 : (seen_with (Some 1024000000) None) ≡ view_of (once_halving 5)
unfolding once_halving
seen_4 = refl

step_5 : IsStep worked_policies (once_halving 5) asks_datagram (gives_bytes 29) (once_halving 6)
unfolding once_halving
step_5 = record { answer = inl refl; end = refl; control = refl; heard = counts_so worked_policies (once_halving 5) asks_datagram (gives_bytes 29); openings = tt; others = refl; lacking = tt }

seen_5 : (seen_with (Some 1024000000) None) ≡ view_of (once_halving 6)
unfolding once_halving
seen_5 = refl

step_6 : IsStep worked_policies (once_halving 6) asks_ping answers.Ping (once_halving 7)
unfolding once_halving
step_6 = record { answer = refl; end = refl; control = refl; heard = counts_so worked_policies (once_halving 6) asks_ping answers.Ping; openings = tt; others = refl; lacking = tt }

seen_6 : (seen_with (Some 1024000000) None) ≡ view_of (once_halving 7)
unfolding once_halving
seen_6 = refl

step_7 : IsStep worked_policies (once_halving 7) asks_datagram (gives_bytes 29) (once_halving 8)
unfolding once_halving
step_7 = record { answer = inl refl; end = refl; control = refl; heard = counts_so worked_policies (once_halving 7) asks_datagram (gives_bytes 29); openings = tt; others = refl; lacking = tt }

seen_7 : (seen_with (Some 1024000000) None) ≡ view_of (once_halving 8)
unfolding once_halving
seen_7 = refl

step_8 : IsStep worked_policies (once_halving 8) (delivers_at 3) (answers.Deliver receives.Taken) (once_halving 9)
unfolding once_halving
step_8 = record { answer = inl refl; end = refl; control = refl; heard = counts_so worked_policies (once_halving 8) (delivers_at 3) (answers.Deliver receives.Taken); openings = tt; others = refl; lacking = tt }

seen_8 : (seen_with (Some 1024000000) None) ≡ view_of (once_halving 9)
unfolding once_halving
seen_8 = refl

step_9 : IsStep worked_policies (once_halving 9) asks_server (gives_bytes 31) (once_halving 10)
unfolding once_halving
step_9 = record { answer = inl refl; end = refl; control = refl; heard = counts_so worked_policies (once_halving 9) asks_server (gives_bytes 31); openings = tt; others = refl; lacking = tt }

seen_9 : (seen_with (Some 1024000000) None) ≡ view_of (once_halving 10)
unfolding once_halving
seen_9 = refl

step_10 : IsStep worked_policies (once_halving 10) (comes_at Client 100000000) (answers.Deliver receives.Taken) (once_halving 11)
unfolding once_halving
step_10 = record { answer = inl refl; end = refl; control = refl; heard = counts_so worked_policies (once_halving 10) (comes_at Client 100000000) (answers.Deliver receives.Taken); openings = tt; others = refl; lacking = tt }

seen_10 : halved_view (Some 112500000) ≡ view_of (once_halving 11)
unfolding once_halving
seen_10 = refl

step_11 : IsStep worked_policies (once_halving 11) (serves Client 112500000) (answers.Timeout (Ok tt)) (once_halving 12)
unfolding once_halving
step_11 = record { answer = inl refl; end = refl; control = refl; heard = counts_so worked_policies (once_halving 11) (serves Client 112500000) (answers.Timeout (Ok tt)); openings = tt; others = refl; lacking = tt }

seen_11 : halved_view None ≡ view_of (once_halving 12)
unfolding once_halving
seen_11 = refl

follows : Follows halving_run.keys halving_run.start halving_run.events halving_run.answers halving_run.views (once_halving 12)
follows = (once_halving 1, step_0, seen_0, (once_halving 2, step_1, seen_1, (once_halving 3, step_2, seen_2, (once_halving 4, step_3, seen_3, (once_halving 5, step_4, seen_4, (once_halving 6, step_5, seen_5, (once_halving 7, step_6, seen_6, (once_halving 8, step_7, seen_7, (once_halving 9, step_8, seen_8, (once_halving 10, step_9, seen_9, (once_halving 11, step_10, seen_10, (once_halving 12, step_11, seen_11, refl))))))))))))

gave_four : halving_run.from_client ≡ (once_halving 12).from_client
unfolding once_halving
gave_four = refl

gave_one : halving_run.from_server ≡ (once_halving 12).from_server
unfolding once_halving
gave_one = refl

pub halving_is_run : IsRun halving_run (once_halving 12)
halving_is_run = record { codes = no_codes halving_run.events refl; follows = follows; from_client = gave_four; from_server = gave_one }

pub told_so : told_in Client worked_policies halving measured_events measured_answers ≡ halving_told
unfolding once_halving
told_so = refl

pub halving_is_told : ControllersAreTold halving_run
halving_is_told = controllers_are_told halving_run (once_halving 12) halving_is_honest halving_is_run (refl, refl)

-- ---- a controller that is told of no loss

-- it is told where it is to be
pub told_one : (b : Bool) (now sent : ℕ) (persistent : Bool) (lost : ℕ) → b ≡ true → list_any is_congestion (told_if b (Congested now sent persistent lost)) ≡ true
told_one true now sent persistent lost some = refl
told_one false now sent persistent lost some = cc

-- the acknowledgement that comes, and what is known before it
abbrev comes : of_runs.Told
comes = record { call = (comes_at Client 100000000).call; answer = answers.Deliver receives.Taken; state = states.Open }

abbrev seen : Watch
seen = watch untold_run Client 10

abbrev lens : Lens
lens = lens_of untold_run Client

abbrev settings : TransportSettings
settings = (end_at Client halving).transport

abbrev packet : Packet
packet = record { number = 0; frames = ack third_ack ∷ [] }

comes_last : until untold_run Client 11 ≡ until untold_run Client 10 ++ comes ∷ []
unfolding client_acked
comes_last = refl

opened_is : has_opened seen.intake (and_told lens.own lens.peer_gave comes seen.intake) ≡ true
unfolding client_acked
opened_is = refl

news_are : news seen.intake (and_told lens.own lens.peer_gave comes seen.intake) ≡ packet ∷ []
unfolding client_acked
news_are = refl

clock_is : clock_behind seen.clock (moment_of states.Open true comes.call) ≡ 100000000
unfolding client_acked
clock_is = refl

-- a datagram of PING alone, with two zeros
abbrev pinged : ℕ → observer.Sent
pinged n = record { id = server_id; number = n; reference = 0; frames = ping ∷ padding ∷ padding ∷ []; moment = 0; size = 29; generation = 0 }

-- and the first one, which told its ids
abbrev first_pinged : observer.Sent
first_pinged = record { id = server_id; number = 0; reference = 0; frames = ping ∷ id_frames; moment = 0; size = 223; generation = 0 }

abbrev others : List observer.Sent
others = filter (λ (s : observer.Sent). not (names third_ack s.number)) seen.flight.flying

acked_is : filter (λ (s : observer.Sent). names third_ack s.number) seen.flight.flying ≡ pinged 3 ∷ []
unfolding client_acked
acked_is = refl

abbrev behind : observer.Flight
behind = acked_flight lens.terms 100000000 third_ack (pinged 3 ∷ []) others seen.flight

lost_is : lost_at lens.terms 100000000 behind ≡ first_pinged ∷ []
unfolding client_acked
lost_is = refl

unmoved : seen.route.generation ≡ 0
unfolding client_acked
unmoved = refl

-- it is too small for a probe
no_probe : MayProbe settings.min_mtu first_pinged → ⊥
no_probe p = let least : 1200 ≤ 223 = p.sized in omega (arith, least)

one_asks : (probe : Option ℕ) → ((s : observer.Sent) → In s (lost_at lens.terms 100000000 behind) → is_number s.number probe ≡ true → MayProbe settings.min_mtu s) → list_any (counts_on 0) (but_for_probe probe (lost_at lens.terms 100000000 behind)) ≡ true
one_asks probe pings = ap (λ (ss : List observer.Sent). list_any (counts_on 0) (but_for_probe probe ss)) lost_is ∙ go (is_number 0 probe) refl
  where
    among : In first_pinged (lost_at lens.terms 100000000 behind)
    among = subst (λ (ss : List observer.Sent). In first_pinged ss) (sym lost_is) (inl refl)

    go : (b : Bool) → is_number 0 probe ≡ b → list_any (counts_on 0) (but_for_probe probe (first_pinged ∷ [])) ≡ true
    go true is = absurd (no_probe (pings first_pinged among is))
    go false is = ap (λ (b : Bool). list_any (counts_on 0) (cond (not b) (first_pinged ∷ []) [])) is

module _ (validated : Bool) (first : Option ℕ) (limited : Bool) (k : Marking) where
  -- by what losses are judged there, where this number went next as a round trip was first measured
  abbrev j : Judging
  j = judging lens settings validated first limited seen

  losses_congest : (told : Tellings) → TellsLosses j 100000000 true behind told → list_any is_congestion told ≡ true
  losses_congest told x =
      ap (λ (us : Tellings). list_any is_congestion us) x.is
      ∙ any_right is_congestion (told_if x.falls (Resized settings.min_mtu)) _ (told_one (list_any (counts_on seen.route.generation) (but_for_probe x.probe (lost_at lens.terms 100000000 behind))) 100000000 _ x.persists _
      (subst (λ (n : ℕ). list_any (counts_on n) (but_for_probe x.probe (lost_at lens.terms 100000000 behind)) ≡ true) (sym unmoved) (one_asks x.probe x.pinged)))

  -- the ACK frame ends so
  abbrev ended : Told
  ended = AcksEnded 100000000 (min (bytes_on seen.route.generation others) observer.latest) limited (Some (greatest_of seen.flight.named third_ack.largest))

  settled_congests : (told : Tellings) → TellsSettled j 100000000 third_ack (pinged 3 ∷ []) others seen.flight k told → list_any is_congestion told ≡ true
  settled_congests told x =
      ap (λ (us : Tellings). list_any is_congestion us) x.is
      ∙ any_left is_congestion (x.each ++ ended ∷ x.lost) _ (any_right is_congestion x.each (ended ∷ x.lost) (losses_congest x.lost x.losses))

  packets_congest : (told : Tellings) → TellsPackets j 100000000 (packet ∷ []) seen.flight k told → list_any is_congestion told ≡ true
  packets_congest told m =
      let frames : (now later : Tellings) × TellsAck j 100000000 third_ack seen.flight k now × (later ≡ []) × (m.1 ≡ now ++ later) = m.3 in
      let settled : TellsSettled j 100000000 third_ack (pinged 3 ∷ []) others seen.flight k frames.0 = subst (λ (ss : List observer.Sent). TellsNamed j 100000000 third_ack ss others seen.flight k frames.0) acked_is frames.2 in
      subst (λ (us : Tellings). list_any is_congestion us ≡ true) (sym m.4)
      (any_right is_congestion m.0 m.1 (subst (λ (us : Tellings). list_any is_congestion us ≡ true) (sym frames.4) (any_left is_congestion frames.0 frames.1 (settled_congests frames.0 settled))))

  call_congests : (now : Tellings) → TellsCall lens settings validated first limited seen k comes now → list_any is_congestion now ≡ true
  call_congests now x = ap (λ (us : Tellings). list_any is_congestion us) x.is ∙ any_left is_congestion (x.taken ++ x.refused ++ x.late) _ (any_left is_congestion (x.taken ++ x.refused) x.late (any_left is_congestion x.taken x.refused (packets_congest x.taken takes)))
    where
      clock : x.clock ≡ 100000000
      clock =
          x.moment
          ∙ ap (λ (i : of_runs.Intake). clock_behind seen.clock (moment_of states.Open (has_opened seen.intake i) comes.call)) x.came
          ∙ ap (λ (b : Bool). clock_behind seen.clock (moment_of states.Open b comes.call)) opened_is
          ∙ clock_is

      takes : TellsPackets j 100000000 (packet ∷ []) seen.flight k x.taken
      takes =
          subst (λ (n : ℕ). TellsPackets j n (packet ∷ []) seen.flight k x.taken) clock
          (subst (λ (ps : List Packet). TellsPackets j x.clock ps seen.flight k x.taken) (ap (λ (i : of_runs.Intake). news seen.intake i) x.came ∙ news_are) x.takes)

pub untold_not : ControllersAreTold untold_run → ⊥
untold_not h =
    let all = h Client 10 (seen_with (Some 112500000) None) refl refl in
    let begins : Watch = watch_from (end_at Client halving) untold_run.from_client in
    let valid : ℕ → Bool = shows_validated untold_run Client in
    let calls : TellsCalls lens settings valid (CountsAt untold_run Client) 0 None begins first_marking (until untold_run Client 10 ++ comes ∷ []) all.0 = subst (λ (ts : List of_runs.Told). TellsCalls lens settings valid (CountsAt untold_run Client) 0 None begins first_marking ts all.0) comes_last all.1 in
    let last : LastTold is_congestion lens settings valid 0 begins first_marking (until untold_run Client 10) comes all.0 = last_told is_congestion lens settings valid (CountsAt untold_run Client) 0 None begins first_marking (until untold_run Client 10) comes all.0 calls in
    let shows : ◌≡◌ {A = ℕ} 12000 (if list_any is_congestion all.0 then 6000 else 12000) = all.2 in
    let halves : ◌≡◌ {A = ℕ} 12000 6000 = shows ∙ ap (λ (b : Bool). if b then 6000 else 12000) (last.among (call_congests (valid last.place) last.first last.limited (marking untold_run Client 10) last.now last.tells)) in
    absurd (omega (arith, halves))

-- the window that a view shows
abbrev window_of : Option View → ℕ
window_of None = 0
window_of (Some v) = v.client.window

pub untold_never : NeverShows untold_run
untold_never end f =
    let same = one_run halving_run.keys halving_run.answers halving_run.start halving_run.events untold_run.views halving_run.views end (once_halving 12) refl f follows in
    let windows : ◌≡◌ {A = ℕ} 12000 6000 = ap (λ (vs : List View). window_of (slice_get vs 10)) same.0 in
    absurd (omega (arith, windows))
