-- The run in which a datagram comes with CE, event by event, and a client whose controller isn't
-- told.
use Rattle.std.proofs.Common.{◌≡◌, ℕ, min, Bool, true, false, not, List, [], ◌∷◌, ◌++◌, filter, Option, Some, None, refl, inl, sym, ap, ◌∙◌, subst, arith}
use Rattle.std.specs.Prelude.{if◌then◌else◌, slice_get}
use Rattle.std.specs.List.{list_any}
use Rattle.quic_wire_core.specs.declared.stream_id.Side.{Side}
use Rattle.quic_wire_core.specs.declared.stream_id.Side.TheVariants.{Client, Server}
use Rattle.quic_wire.specs.AckReading.{ecn_at}
use Rattle.quic_wire.specs.Value.{AckValue, ack, ping}
use Rattle.quic_config.specs.Transport.{TransportSettings}
use Rattle.quic_congestion.specs.Congestion.{Told, AcksEnded}
use Rattle.quic_spaces.specs.Numbers.{greatest_of}
use Rattle.quic_machine.specs.declared.answers.Received.TheVariants as receives
use Rattle.quic_machine.specs.declared.answers.State.TheVariants as states
use Rattle.quic_machine.specs.declared.run.Answer.TheVariants as answers
use Rattle.quic_machine.specs.declared.run.View.{View}
use Rattle.quic_machine.specs.Machine.{IsStep, Follows, end_at, view_of}
use Rattle.quic_machine.specs.RunLaws.{one_run}
use Rattle.quic_headline.specs.Runs.{Packet, names, until, and_told}
use Rattle.quic_headline.specs.Runs as of_runs
use Rattle.quic_headline.specs.Observer.{Watch, Lens, news, has_opened, moment_of, clock_behind, lens_of, watch_from, watch}
use Rattle.quic_headline.specs.Observer as observer
use Rattle.quic_headline.specs.Headline.{IsHonest, IsRun}
use Rattle.quic_headline.specs.Polls.{bytes_on}
use Rattle.quic_headline.specs.AppLimited.{CountsAt}
use Rattle.quic_headline.specs.Marking.{Marking, first_marking, marking, has_grown}
use Rattle.quic_headline.specs.Telling.{Tellings, Judging, judging, TellsAck, TellsNamed, TellsSettled, TellsPackets, TellsCall, TellsCalls, shows_validated, ControllersAreTold}
use Rattle.quic_headline.proofs.AppLimited.Clause.{controllers_are_told}
use Rattle.quic_worked.specs.Worked.{worked_policies, asks_datagram, gives_bytes, told_in, server_id, id_frames}
use Rattle.quic_worked.specs.Acknowledged.{client_acked}
use Rattle.quic_worked.specs.Losses.{asks_ping}
use Rattle.quic_worked.specs.Paired.{asks_server}
use Rattle.quic_worked.specs.Timed.{comes_at, seen_with, NeverShows}
use Rattle.quic_worked.specs.Halved.{is_congestion, halving, halved_view}
use Rattle.quic_worked.specs.Hasty.{comes_marked}
use Rattle.quic_worked.specs.Congested.{congested_events, congested_answers, once_congested, congested_run, congested_told, unheard_run}
use Rattle.quic_worked.proofs.Codes.{no_codes}
use Rattle.quic_worked.proofs.OwnIds.{AreOwn, own_ids}
use Rattle.quic_worked.proofs.WorkedKeys.{are_keys}
use Rattle.quic_worked.proofs.Steps.{steps_at, StepsSo}
use Rattle.quic_worked.proofs.LastTold.{any_left, any_right, LastTold, last_told}
use Rattle.quic_worked.proofs.HalvedRun.{halving_started, told_one}

-- ---- the premises

congested_own : (side : Side) → AreOwn side [] congested_run.events congested_run.answers congested_run.views
congested_own Client = (tt, (tt, (tt, (tt, (tt, tt)))))
congested_own Server = (tt, (tt, (tt, (tt, (tt, tt)))))

unheard_own : (side : Side) → AreOwn side [] unheard_run.events unheard_run.answers unheard_run.views
unheard_own Client = (tt, (tt, (tt, (tt, (tt, tt)))))
unheard_own Server = (tt, (tt, (tt, (tt, (tt, tt)))))

pub congested_is_honest : IsHonest congested_run
congested_is_honest = record { start = halving_started; keys = are_keys; ids = own_ids congested_run congested_own }

pub unheard_is_honest : IsHonest unheard_run
unheard_is_honest = record { start = halving_started; keys = are_keys; ids = own_ids unheard_run unheard_own }

-- ---- the machine's run

step_0 : IsStep worked_policies halving asks_ping answers.Ping (once_congested 1)
unfolding once_congested
step_0 =
    let s : StepsSo worked_policies halving asks_ping answers.Ping (once_congested 1) = steps_at worked_policies halving congested_events congested_answers 0 asks_ping answers.Ping _ _ refl refl refl in
    record { answer = refl; end = s.end; control = s.control; heard = s.heard; openings = tt; others = s.others; lacking = tt }

seen_0 : seen_with None None ≡ view_of (once_congested 1)
unfolding once_congested
seen_0 = refl

step_1 : IsStep worked_policies (once_congested 1) asks_datagram (gives_bytes 223) (once_congested 2)
unfolding once_congested
step_1 =
    let s : StepsSo worked_policies (once_congested 1) asks_datagram (gives_bytes 223) (once_congested 2) = steps_at worked_policies halving congested_events congested_answers 1 asks_datagram (gives_bytes 223) _ _ refl refl refl in
    record { answer = inl refl; end = s.end; control = s.control; heard = s.heard; openings = tt; others = s.others; lacking = tt }

seen_1 : seen_with (Some 1024000000) None ≡ view_of (once_congested 2)
unfolding once_congested
seen_1 = refl

step_2 : IsStep worked_policies (once_congested 2) comes_marked (answers.Deliver receives.Taken) (once_congested 3)
unfolding once_congested
step_2 =
    let s : StepsSo worked_policies (once_congested 2) comes_marked (answers.Deliver receives.Taken) (once_congested 3) = steps_at worked_policies halving congested_events congested_answers 2 comes_marked (answers.Deliver receives.Taken) _ _ refl refl refl in
    record { answer = inl refl; end = s.end; control = s.control; heard = s.heard; openings = tt; others = s.others; lacking = tt }

seen_2 : seen_with (Some 1024000000) None ≡ view_of (once_congested 3)
unfolding once_congested
seen_2 = refl

step_3 : IsStep worked_policies (once_congested 3) asks_server (gives_bytes 34) (once_congested 4)
unfolding once_congested
step_3 =
    let s : StepsSo worked_policies (once_congested 3) asks_server (gives_bytes 34) (once_congested 4) = steps_at worked_policies halving congested_events congested_answers 3 asks_server (gives_bytes 34) _ _ refl refl refl in
    record { answer = inl refl; end = s.end; control = s.control; heard = s.heard; openings = tt; others = s.others; lacking = tt }

seen_3 : seen_with (Some 1024000000) None ≡ view_of (once_congested 4)
unfolding once_congested
seen_3 = refl

step_4 : IsStep worked_policies (once_congested 4) (comes_at Client 0) (answers.Deliver receives.Taken) (once_congested 5)
unfolding once_congested
step_4 =
    let s : StepsSo worked_policies (once_congested 4) (comes_at Client 0) (answers.Deliver receives.Taken) (once_congested 5) = steps_at worked_policies halving congested_events congested_answers 4 (comes_at Client 0) (answers.Deliver receives.Taken) _ _ refl refl refl in
    record { answer = inl refl; end = s.end; control = s.control; heard = s.heard; openings = tt; others = s.others; lacking = tt }

seen_4 : halved_view None ≡ view_of (once_congested 5)
unfolding once_congested
seen_4 = refl

follows : Follows congested_run.keys congested_run.start congested_run.events congested_run.answers congested_run.views (once_congested 5)
follows = (once_congested 1, step_0, seen_0, (once_congested 2, step_1, seen_1, (once_congested 3, step_2, seen_2, (once_congested 4, step_3, seen_3, (once_congested 5, step_4, seen_4, refl)))))

gave_one : congested_run.from_client ≡ (once_congested 5).from_client
unfolding once_congested
gave_one = refl

gave_ack : congested_run.from_server ≡ (once_congested 5).from_server
unfolding once_congested
gave_ack = refl

pub congested_is_run : IsRun congested_run (once_congested 5)
congested_is_run = record { codes = no_codes congested_run.events refl; follows = follows; from_client = gave_one; from_server = gave_ack }

pub told_so : told_in Client worked_policies halving congested_events congested_answers ≡ congested_told
unfolding once_congested
told_so = refl

pub congested_is_told : ControllersAreTold congested_run
congested_is_told = controllers_are_told congested_run (once_congested 5) congested_is_honest congested_is_run (refl, refl)

-- ---- a controller that isn't told

-- the acknowledgement that comes, and what is known before it
abbrev comes : of_runs.Told
comes = record { call = (comes_at Client 0).call; answer = answers.Deliver receives.Taken; state = states.Open }

abbrev seen : Watch
seen = watch unheard_run Client 4

abbrev known : Marking
known = marking unheard_run Client 4

abbrev lens : Lens
lens = lens_of unheard_run Client

abbrev settings : TransportSettings
settings = (end_at Client halving).transport

-- it counts one CE
abbrev counts_one : AckValue
counts_one = record { largest = 0; delay = 0; ranges = (0, 0) ∷ []; ecn = Some (0, 0, 1) }

abbrev packet : Packet
packet = record { number = 0; frames = ack counts_one ∷ [] }

comes_last : until unheard_run Client 5 ≡ until unheard_run Client 4 ++ comes ∷ []
unfolding client_acked ecn_at
comes_last = refl

opened_is : has_opened seen.intake (and_told lens.own lens.peer_gave comes seen.intake) ≡ true
unfolding client_acked ecn_at
opened_is = refl

news_are : news seen.intake (and_told lens.own lens.peer_gave comes seen.intake) ≡ packet ∷ []
unfolding client_acked ecn_at
news_are = refl

clock_is : clock_behind seen.clock (moment_of states.Open true comes.call) ≡ 0
unfolding client_acked ecn_at
clock_is = refl

-- the datagram with PING, which told the client's ids
abbrev pinged : observer.Sent
pinged = record { id = server_id; number = 0; reference = 0; frames = ping ∷ id_frames; moment = 0; size = 223; generation = 0 }

abbrev others : List observer.Sent
others = filter (λ (s : observer.Sent). not (names counts_one s.number)) seen.flight.flying

acked_is : filter (λ (s : observer.Sent). names counts_one s.number) seen.flight.flying ≡ pinged ∷ []
unfolding client_acked ecn_at
acked_is = refl

-- the count grew
grown : has_grown seen.flight.named counts_one 1 known ≡ true
unfolding client_acked ecn_at
grown = refl

module _ (validated : Bool) (first : Option ℕ) (limited : Bool) where
  -- by what acknowledgements are judged there
  abbrev j : Judging
  j = judging lens settings validated first limited seen

  -- the ACK frame ends so
  abbrev ended : Told
  ended = AcksEnded 0 (min (bytes_on seen.route.generation others) observer.latest) limited (Some (greatest_of seen.flight.named counts_one.largest))

  settled_congests : (told : Tellings) → TellsSettled j 0 counts_one (pinged ∷ []) others seen.flight known told → list_any is_congestion told ≡ true
  settled_congests told x =
      ap (λ (us : Tellings). list_any is_congestion us) x.is
      ∙ any_right is_congestion (x.each ++ ended ∷ x.lost) _ (told_one (has_grown seen.flight.named counts_one 1 known) 0 _ false 0 grown)

  packets_congest : (told : Tellings) → TellsPackets j 0 (packet ∷ []) seen.flight known told → list_any is_congestion told ≡ true
  packets_congest told m =
      let frames : (now later : Tellings) × TellsAck j 0 counts_one seen.flight known now × (later ≡ []) × (m.1 ≡ now ++ later) = m.3 in
      let settled : TellsSettled j 0 counts_one (pinged ∷ []) others seen.flight known frames.0 = subst (λ (ss : List observer.Sent). TellsNamed j 0 counts_one ss others seen.flight known frames.0) acked_is frames.2 in
      subst (λ (us : Tellings). list_any is_congestion us ≡ true) (sym m.4)
      (any_right is_congestion m.0 m.1 (subst (λ (us : Tellings). list_any is_congestion us ≡ true) (sym frames.4) (any_left is_congestion frames.0 frames.1 (settled_congests frames.0 settled))))

  call_congests : (now : Tellings) → TellsCall lens settings validated first limited seen known comes now → list_any is_congestion now ≡ true
  call_congests now x = ap (λ (us : Tellings). list_any is_congestion us) x.is ∙ any_left is_congestion (x.taken ++ x.refused ++ x.late) _ (any_left is_congestion (x.taken ++ x.refused) x.late (any_left is_congestion x.taken x.refused (packets_congest x.taken takes)))
    where
      clock : x.clock ≡ 0
      clock =
          x.moment
          ∙ ap (λ (i : of_runs.Intake). clock_behind seen.clock (moment_of states.Open (has_opened seen.intake i) comes.call)) x.came
          ∙ ap (λ (b : Bool). clock_behind seen.clock (moment_of states.Open b comes.call)) opened_is
          ∙ clock_is

      takes : TellsPackets j 0 (packet ∷ []) seen.flight known x.taken
      takes =
          subst (λ (n : ℕ). TellsPackets j n (packet ∷ []) seen.flight known x.taken) clock
          (subst (λ (ps : List Packet). TellsPackets j x.clock ps seen.flight known x.taken) (ap (λ (i : of_runs.Intake). news seen.intake i) x.came ∙ news_are) x.takes)

pub unheard_not : ControllersAreTold unheard_run → ⊥
unheard_not h =
    let all = h Client 4 (seen_with None None) refl refl in
    let begins : Watch = watch_from (end_at Client halving) unheard_run.from_client in
    let valid : ℕ → Bool = shows_validated unheard_run Client in
    let calls : TellsCalls lens settings valid (CountsAt unheard_run Client) 0 None begins first_marking (until unheard_run Client 4 ++ comes ∷ []) all.0 = subst (λ (ts : List of_runs.Told). TellsCalls lens settings valid (CountsAt unheard_run Client) 0 None begins first_marking ts all.0) comes_last all.1 in
    let last : LastTold is_congestion lens settings valid 0 begins first_marking (until unheard_run Client 4) comes all.0 = last_told is_congestion lens settings valid (CountsAt unheard_run Client) 0 None begins first_marking (until unheard_run Client 4) comes all.0 calls in
    let shows : ◌≡◌ {A = ℕ} 12000 (if list_any is_congestion all.0 then 6000 else 12000) = all.2 in
    let halves : ◌≡◌ {A = ℕ} 12000 6000 = shows ∙ ap (λ (b : Bool). if b then 6000 else 12000) (last.among (call_congests (valid last.place) last.first last.limited last.now last.tells)) in
    absurd (omega (arith, halves))

-- the window that a view shows
abbrev window_of : Option View → ℕ
window_of None = 0
window_of (Some v) = v.client.window

pub unheard_never : NeverShows unheard_run
unheard_never end f =
    let same = one_run congested_run.keys congested_run.answers congested_run.start congested_run.events unheard_run.views congested_run.views end (once_congested 5) refl f follows in
    let windows : ◌≡◌ {A = ℕ} 12000 6000 = ap (λ (vs : List View). window_of (slice_get vs 4)) same.0 in
    absurd (omega (arith, windows))
