-- The run in which a client asks its peer how often to acknowledge, event by event, and what an
-- observer reckons of it.
use Rattle.std.proofs.Common.{◌≡◌, ℕ, zero, suc, true, false, List, [], ◌∷◌, ◌++◌, Option, Some, None, Ok, refl, inl, inr, sym, ap, ◌∙◌, subst, lit<, lit≤}
use Rattle.std.specs.List.{list_any}
use Rattle.std.proofs.lemmas.Bool.{both_ways}
use Rattle.quic_wire_core.specs.declared.stream_id.Side.{Side}
use Rattle.quic_wire_core.specs.declared.stream_id.Side.TheVariants.{Client, Server}
use Rattle.quic_wire.specs.Value.{FrameValue, AckFrequencyValue, ack_frequency}
use Rattle.quic_wire.specs.Reading.{ack_frequency_at}
use Rattle.quic_parameters.specs.ParametersRead.{entry_at, whole_at, met_after, met_within, met_in, values_met, judged, parameters_at}
use Rattle.quic_config.specs.Transport.{IsInRange, parameters_of}
use Rattle.quic_machine.specs.declared.answers.Received.TheVariants as receives
use Rattle.quic_machine.specs.declared.run.Answer.TheVariants as answers
use Rattle.quic_machine.specs.declared.run.View.{View}
use Rattle.quic_machine.specs.End.{IsMade}
use Rattle.quic_machine.specs.Start.{AreStarted}
use Rattle.quic_machine.specs.Machine.{IsStep, Follows, view_of}
use Rattle.quic_headline.specs.Runs.{In}
use Rattle.quic_headline.specs.Observer.{Sent, watch, sents_until}
use Rattle.quic_headline.specs.Headline.{IsHonest, IsRun}
use Rattle.quic_headline.specs.Moments.{LossMoments, ack_timer, debt, first_deadline, AckMoments}
use Rattle.quic_headline.specs.Polls.{GaveOne, GaveAsking, GaveNothing}
use Rattle.quic_headline.specs.Requests.{asking_at, count_requests, requests_in, request_said, IsRequest, RequestsGo, RequestsSay, wants_anew}
use Rattle.quic_headline.specs.InFlight.{is_ack_frequency}
use Rattle.quic_headline.specs.Waited.{wants, stands, FrameWaited, HasWaited, as_ack, as_frames, EachWaited}
use Rattle.quic_worked.specs.Worked.{steady, shut, worked_policies, client_id, server_id, gives_bytes, gives_unmarked, id_frames}
use Rattle.quic_worked.specs.Acknowledged.{client_acked}
use Rattle.quic_worked.specs.Losses.{asks_ping}
use Rattle.quic_worked.specs.Timed.{serves, asks_at, comes_at, seen_with, due_at}
use Rattle.quic_worked.specs.Settings.{plain_settings}
use Rattle.quic_worked.specs.Asking.{comes_there, asks_within, asking_settings, asked_settings, asked_parameters, asking_start, asking_start_with, request, first_sent, once_asked, ack_sent, ping_sent, asked_run, asked_answers, asked_events}
use Rattle.quic_worked.proofs.Codes.{no_codes}
use Rattle.quic_worked.proofs.OwnIds.{AreOwn, own_ids}
use Rattle.quic_worked.proofs.Steps.{steps_at, StepsSo}
use Rattle.quic_worked.proofs.TimedRun.{shows}
use Rattle.quic_worked.proofs.Unpolled.{unpolled}
use Rattle.quic_worked.proofs.WorkedHonest.{in_range, making}
use Rattle.quic_worked.proofs.WorkedKeys.{are_keys}
use Rattle.quic_worked.proofs.WorkedRun.{parameters_say}

-- ---- the premises

asked_say : parameters_at asked_parameters ≡ Ok (parameters_of asked_settings)
unfolding parameters_at judged values_met met_in met_within met_after whole_at entry_at
asked_say = refl

asking_range : (delay : ℕ) → IsInRange (asking_settings delay)
asking_range delay = record { receive_window = lit< tt; stream_receive_window = lit< tt; bounds = record { bidi = lit≤ tt; uni = lit≤ tt; divides = lit< tt; initial = lit≤ tt; least = lit≤ tt }; search = tt }

asked_range : IsInRange asked_settings
asked_range = record { receive_window = lit< tt; stream_receive_window = lit< tt; bounds = record { bidi = lit≤ tt; uni = lit≤ tt; divides = lit< tt; initial = lit≤ tt; least = lit≤ tt }; search = tt }

-- the client's parameters say nothing of what it asks
pub asking_started : (delay : ℕ) → AreStarted (asking_start delay)
asking_started delay = record {
  client_making = record (making client_id) { settings = asking_settings delay };
  server_making = record (making server_id) { settings = asked_settings; windows = shut; parameters = asked_parameters };
  client_is = record { range = asking_range delay; sizes = lit≤ tt; says = parameters_say; id = refl };
  server_is = record { range = asked_range; sizes = lit≤ tt; says = asked_say; id = refl };
  client = subst (λ read. IsMade Client (asking_settings delay) steady read client_id server_id 0 0 true (λ n. 63) (asking_start delay).client) (sym asked_say) refl;
  server = subst (λ read. IsMade Server asked_settings shut read server_id client_id 0 0 true (λ n. 63) (asking_start delay).server) (sym parameters_say) refl;
  client_gave = refl;
  server_gave = refl;
  client_heard = refl;
  server_heard = refl;
}

-- nor are they others where it doesn't ask
pub unasking_started : AreStarted (asking_start_with plain_settings)
unasking_started = record {
  client_making = record (making client_id) { settings = plain_settings };
  server_making = record (making server_id) { settings = asked_settings; windows = shut; parameters = asked_parameters };
  client_is = record { range = in_range; sizes = lit≤ tt; says = parameters_say; id = refl };
  server_is = record { range = asked_range; sizes = lit≤ tt; says = asked_say; id = refl };
  client = subst (λ read. IsMade Client plain_settings steady read client_id server_id 0 0 true (λ n. 63) (asking_start_with plain_settings).client) (sym asked_say) refl;
  server = subst (λ read. IsMade Server asked_settings shut read server_id client_id 0 0 true (λ n. 63) (asking_start_with plain_settings).server) (sym parameters_say) refl;
  client_gave = refl;
  server_gave = refl;
  client_heard = refl;
  server_heard = refl;
}

asked_own : (side : Side) → AreOwn side [] asked_run.events asked_run.answers asked_run.views
asked_own Client = (tt, (tt, (tt, (tt, (tt, (tt, (tt, (tt, tt))))))))
asked_own Server = (tt, (tt, (tt, (tt, (tt, (tt, (tt, (tt, tt))))))))

pub asked_is_honest : IsHonest asked_run
asked_is_honest = record { start = asking_started 10000000; keys = are_keys; ids = own_ids asked_run asked_own }

-- ---- the machine's run

pub asks_it : IsStep worked_policies (asking_start 10000000) (asks_at Client 0) (gives_bytes 229) (once_asked 1)
unfolding once_asked
asks_it =
    let s : StepsSo worked_policies (asking_start 10000000) (asks_at Client 0) (gives_bytes 229) (once_asked 1) = steps_at worked_policies (asking_start 10000000) asked_events asked_answers 0 (asks_at Client 0) (gives_bytes 229) _ _ refl refl refl in
    record { answer = inl refl; end = s.end; control = s.control; heard = s.heard; openings = tt; others = s.others; lacking = tt }

pub takes_it : IsStep worked_policies (once_asked 1) (comes_at Server 5000000) (answers.Deliver receives.Taken) (once_asked 2)
unfolding once_asked
takes_it =
    let s : StepsSo worked_policies (once_asked 1) (comes_at Server 5000000) (answers.Deliver receives.Taken) (once_asked 2) = steps_at worked_policies (asking_start 10000000) asked_events asked_answers 1 (comes_at Server 5000000) (answers.Deliver receives.Taken) _ _ refl refl refl in
    record { answer = inl refl; end = s.end; control = s.control; heard = s.heard; openings = tt; others = s.others; lacking = tt }

pub is_due : IsStep worked_policies (once_asked 2) (serves Server 15000000) (answers.Timeout (Ok tt)) (once_asked 3)
unfolding once_asked
is_due =
    let s : StepsSo worked_policies (once_asked 2) (serves Server 15000000) (answers.Timeout (Ok tt)) (once_asked 3) = steps_at worked_policies (asking_start 10000000) asked_events asked_answers 2 (serves Server 15000000) (answers.Timeout (Ok tt)) _ _ refl refl refl in
    record { answer = inl refl; end = s.end; control = s.control; heard = s.heard; openings = tt; others = s.others; lacking = tt }

pub answers_it : IsStep worked_policies (once_asked 3) (asks_at Server 15000000) (gives_bytes 32) (once_asked 4)
unfolding once_asked
answers_it =
    let s : StepsSo worked_policies (once_asked 3) (asks_at Server 15000000) (gives_bytes 32) (once_asked 4) = steps_at worked_policies (asking_start 10000000) asked_events asked_answers 3 (asks_at Server 15000000) (gives_bytes 32) _ _ refl refl refl in
    record { answer = inl refl; end = s.end; control = s.control; heard = s.heard; openings = tt; others = s.others; lacking = tt }

pub is_answered : IsStep worked_policies (once_asked 4) (comes_at Client 20000000) (answers.Deliver receives.Taken) (once_asked 5)
unfolding once_asked
is_answered =
    let s : StepsSo worked_policies (once_asked 4) (comes_at Client 20000000) (answers.Deliver receives.Taken) (once_asked 5) = steps_at worked_policies (asking_start 10000000) asked_events asked_answers 4 (comes_at Client 20000000) (answers.Deliver receives.Taken) _ _ refl refl refl in
    record { answer = inl refl; end = s.end; control = s.control; heard = s.heard; openings = tt; others = s.others; lacking = tt }

pub is_pinged : IsStep worked_policies (once_asked 5) asks_ping answers.Ping (once_asked 6)
unfolding once_asked
is_pinged =
    let s : StepsSo worked_policies (once_asked 5) asks_ping answers.Ping (once_asked 6) = steps_at worked_policies (asking_start 10000000) asked_events asked_answers 5 asks_ping answers.Ping _ _ refl refl refl in
    record { answer = refl; end = s.end; control = s.control; heard = s.heard; openings = tt; others = s.others; lacking = tt }

pub pings : IsStep worked_policies (once_asked 6) (asks_at Client 20000000) (gives_unmarked 32) (once_asked 7)
unfolding once_asked
pings =
    let s : StepsSo worked_policies (once_asked 6) (asks_at Client 20000000) (gives_unmarked 32) (once_asked 7) = steps_at worked_policies (asking_start 10000000) asked_events asked_answers 6 (asks_at Client 20000000) (gives_unmarked 32) _ _ refl refl refl in
    record { answer = inl refl; end = s.end; control = s.control; heard = s.heard; openings = tt; others = s.others; lacking = tt }

takes_ping : IsStep worked_policies (once_asked 7) (comes_there 1 25000000) (answers.Deliver receives.Taken) (once_asked 8)
unfolding once_asked
takes_ping =
    let s : StepsSo worked_policies (once_asked 7) (comes_there 1 25000000) (answers.Deliver receives.Taken) (once_asked 8) = steps_at worked_policies (asking_start 10000000) asked_events asked_answers 7 (comes_there 1 25000000) (answers.Deliver receives.Taken) _ _ refl refl refl in
    record { answer = inl refl; end = s.end; control = s.control; heard = s.heard; openings = tt; others = s.others; lacking = tt }

pub asked_seen : seen_with (Some 1024000000) None ≡ view_of (once_asked 1)
unfolding once_asked
asked_seen = refl

pub taken_seen : seen_with (Some 1024000000) (Some 15000000) ≡ view_of (once_asked 2)
unfolding once_asked
taken_seen = refl

pub due_seen : seen_with (Some 1024000000) None ≡ view_of (once_asked 3)
unfolding once_asked
due_seen = refl

pub given_seen : seen_with (Some 1024000000) None ≡ view_of (once_asked 4)
unfolding once_asked
given_seen = refl

pub answered_seen : seen_with None None ≡ view_of (once_asked 5)
unfolding once_asked
answered_seen = refl

pub wanted_seen : seen_with None None ≡ view_of (once_asked 6)
unfolding once_asked
wanted_seen = refl

pub pinged_seen : seen_with (Some 90000000) None ≡ view_of (once_asked 7)
unfolding once_asked
pinged_seen = refl

later_seen : seen_with (Some 90000000) (Some 35000000) ≡ view_of (once_asked 8)
unfolding once_asked
later_seen = refl

follows : Follows asked_run.keys asked_run.start asked_run.events asked_run.answers asked_run.views (once_asked 8)
follows = (once_asked 1, asks_it, asked_seen, (once_asked 2, takes_it, taken_seen, (once_asked 3, is_due, due_seen, (once_asked 4, answers_it, given_seen, (once_asked 5, is_answered, answered_seen, (once_asked 6, is_pinged, wanted_seen, (once_asked 7, pings, pinged_seen, (once_asked 8, takes_ping, later_seen, refl))))))))

gave_two : asked_run.from_client ≡ (once_asked 8).from_client
unfolding once_asked
gave_two = refl

gave_one : asked_run.from_server ≡ (once_asked 8).from_server
unfolding once_asked
gave_one = refl

pub asked_is_run : IsRun asked_run (once_asked 8)
asked_is_run = record { codes = no_codes asked_run.events refl; follows = follows; from_client = gave_two; from_server = gave_one }

-- ---- what the client asks

-- two lists of one datagram are alike, and so are two of which the first is the same
one_same : (s t : Sent) → s ∷ [] ≡ t ∷ [] → t ≡ s
one_same s t is = cc

second_same : (first s t : Sent) → first ∷ s ∷ [] ≡ first ∷ t ∷ [] → t ≡ s
second_same first s t is = cc

first_went : sents_until asked_run Client 1 ≡ first_sent (request 0 10000) 229 ∷ []
unfolding client_acked ack_frequency_at
first_went = refl

ack_went : sents_until asked_run Server 4 ≡ ack_sent ∷ []
unfolding client_acked ack_frequency_at
ack_went = refl

-- what went before the second
one_before : sents_until asked_run Client 6 ≡ first_sent (request 0 10000) 229 ∷ []
unfolding client_acked ack_frequency_at
one_before = refl

second_went : sents_until asked_run Client 7 ≡ first_sent (request 0 10000) 229 ∷ ping_sent ∷ []
unfolding client_acked ack_frequency_at
second_went = refl

-- so these are what polls gave
is_first : (now : ℕ) (gave : GaveOne asked_run Client 0 now) → gave.sent ≡ first_sent (request 0 10000) 229
is_first now gave = one_same (first_sent (request 0 10000) 229) gave.sent (sym first_went ∙ gave.went)

is_ack : (now : ℕ) (gave : GaveOne asked_run Server 3 now) → gave.sent ≡ ack_sent
unfolding client_acked
is_ack now gave = one_same ack_sent gave.sent (sym ack_went ∙ gave.went)

is_second : (now : ℕ) (gave : GaveOne asked_run Client 6 now) → gave.sent ≡ ping_sent
is_second now gave = second_same (first_sent (request 0 10000) 229) ping_sent gave.sent (sym second_went ∙ gave.went ∙ ap (λ (ss : List Sent). ss ++ gave.sent ∷ []) one_before)

-- no ACK_FREQUENCY is among these
abbrev AsksNothing : List FrameValue → Type 0
AsksNothing frames = (f : AckFrequencyValue) → In (ack_frequency f) frames → ⊥

ids_ask_nothing : AsksNothing id_frames
ids_ask_nothing f (inl is) = cc
ids_ask_nothing f (inr (inl is)) = cc
ids_ask_nothing f (inr (inr (inl is))) = cc
ids_ask_nothing f (inr (inr (inr (inl is)))) = cc
ids_ask_nothing f (inr (inr (inr (inr (inl is))))) = cc
ids_ask_nothing f (inr (inr (inr (inr (inr (inl is)))))) = cc
ids_ask_nothing f (inr (inr (inr (inr (inr (inr (inl is))))))) = cc
ids_ask_nothing f (inr (inr (inr (inr (inr (inr (inr none))))))) = none

ping_asks_nothing : AsksNothing ping_sent.frames
ping_asks_nothing f (inl is) = cc
ping_asks_nothing f (inr (inl is)) = cc
ping_asks_nothing f (inr (inr none)) = none

ack_asks_nothing : AsksNothing ack_sent.frames
ack_asks_nothing f (inl is) = cc
ack_asks_nothing f (inr none) = none

-- the request is the only one in its datagram
pub the_request : (asked f : AckFrequencyValue) (size : ℕ) → In (ack_frequency f) (first_sent asked size).frames → f ≡ asked
the_request asked f size (inl is) = cc
the_request asked f size (inr there) = absurd (ids_ask_nothing f there)

pub said_first : request_said (asks_within 10000000) 1000 (requests_in (watch asked_run Client 0).own) (watch asked_run Client 0).flight ≡ request 0 10000
said_first = refl

-- the client asks as it is configured, and its peer told 1000 microseconds
says_first : (now : ℕ) (gave : GaveOne asked_run Client 0 now) (f : AckFrequencyValue) → In (ack_frequency f) gave.sent.frames → IsRequest asked_run Client 0 gave.sent f
says_first now gave f there =
    let sent = is_first now gave in
    let asked : f ≡ request 0 10000 = the_request (request 0 10000) f 229 (subst (λ (s : Sent). In (ack_frequency f) s.frames) sent there) in
    record { settings = asks_within 10000000; configured = refl; least = 1000; told = refl; says = asked ∙ sym said_first; alone = ap (λ (s : Sent). count_requests s.frames) sent }

says_nothing : (now : ℕ) (gave : GaveOne asked_run Client 6 now) (f : AckFrequencyValue) → In (ack_frequency f) gave.sent.frames → ⊥
says_nothing now gave f there = ping_asks_nothing f (subst (λ (s : Sent). In (ack_frequency f) s.frames) (is_second now gave) there)

pub asked_says : RequestsSay asked_run
asked_says Server (suc (suc (suc zero))) now gave f there = absurd (ack_asks_nothing f (subst (λ (s : Sent). In (ack_frequency f) s.frames) (is_ack now gave) there))
asked_says Server zero now gave f there = absurd (unpolled Server now _ gave.poll.event refl)
asked_says Server (suc zero) now gave f there = absurd (unpolled Server now _ gave.poll.event refl)
asked_says Server (suc (suc zero)) now gave f there = absurd (unpolled Server now _ gave.poll.event refl)
asked_says Server (suc (suc (suc (suc zero)))) now gave f there = absurd (unpolled Server now _ gave.poll.event refl)
asked_says Server (suc (suc (suc (suc (suc zero))))) now gave f there = absurd (unpolled Server now _ gave.poll.event refl)
asked_says Server (suc (suc (suc (suc (suc (suc zero)))))) now gave f there = absurd (unpolled Server now _ gave.poll.event refl)
asked_says Server (suc (suc (suc (suc (suc (suc (suc zero))))))) now gave f there = absurd (unpolled Server now _ gave.poll.event refl)
asked_says Server (suc (suc (suc (suc (suc (suc (suc (suc i)))))))) now gave f there = absurd (unpolled Server now _ gave.poll.event refl)
asked_says Client zero now gave f there = says_first now gave f there
asked_says Client (suc zero) now gave f there = absurd (unpolled Client now _ gave.poll.event refl)
asked_says Client (suc (suc zero)) now gave f there = absurd (unpolled Client now _ gave.poll.event refl)
asked_says Client (suc (suc (suc zero))) now gave f there = absurd (unpolled Client now _ gave.poll.event refl)
asked_says Client (suc (suc (suc (suc zero)))) now gave f there = absurd (unpolled Client now _ gave.poll.event refl)
asked_says Client (suc (suc (suc (suc (suc zero))))) now gave f there = absurd (unpolled Client now _ gave.poll.event refl)
asked_says Client (suc (suc (suc (suc (suc (suc zero)))))) now gave f there = absurd (says_nothing now gave f there)
asked_says Client (suc (suc (suc (suc (suc (suc (suc zero))))))) now gave f there = absurd (unpolled Client now _ gave.poll.event refl)
asked_says Client (suc (suc (suc (suc (suc (suc (suc (suc i)))))))) now gave f there = absurd (unpolled Client now _ gave.poll.event refl)

-- ---- where it asks

pub wanted_first : wants_anew (asking_at asked_run Client) (watch asked_run Client 0).own (watch asked_run Client 0).flight ≡ true
wanted_first = refl

pub wanted_no_more : wants_anew (asking_at asked_run Client) (watch asked_run Client 1).own (watch asked_run Client 1).flight ≡ false
unfolding client_acked ack_frequency_at
wanted_no_more = refl

pub wanted_never : wants_anew (asking_at asked_run Client) (watch asked_run Client 6).own (watch asked_run Client 6).flight ≡ false
unfolding client_acked ack_frequency_at
wanted_never = refl

-- its first datagram has the request, it wants none at the second, and the server isn't to ask
goes_along : (side : Side) (i now : ℕ) (given : GaveAsking asked_run side i now) → wants_anew (asking_at asked_run side) (watch asked_run side i).own (watch asked_run side i).flight ≡ true → list_any is_ack_frequency given.one.sent.frames ≡ true
goes_along Server i now given wanted = (let clash : false ≡ true = wanted in absurd cc)
goes_along Client zero now given wanted = subst (λ (s : Sent). list_any is_ack_frequency s.frames ≡ true) (sym (is_first now given.one)) refl
goes_along Client (suc zero) now given wanted = absurd (unpolled Client now _ given.one.poll.event refl)
goes_along Client (suc (suc zero)) now given wanted = absurd (unpolled Client now _ given.one.poll.event refl)
goes_along Client (suc (suc (suc zero))) now given wanted = absurd (unpolled Client now _ given.one.poll.event refl)
goes_along Client (suc (suc (suc (suc zero)))) now given wanted = absurd (unpolled Client now _ given.one.poll.event refl)
goes_along Client (suc (suc (suc (suc (suc zero))))) now given wanted = absurd (unpolled Client now _ given.one.poll.event refl)
goes_along Client (suc (suc (suc (suc (suc (suc zero)))))) now given wanted = absurd (both_ways (wants_anew (asking_at asked_run Client) (watch asked_run Client 6).own (watch asked_run Client 6).flight) wanted_never wanted)
goes_along Client (suc (suc (suc (suc (suc (suc (suc zero))))))) now given wanted = absurd (unpolled Client now _ given.one.poll.event refl)
goes_along Client (suc (suc (suc (suc (suc (suc (suc (suc i)))))))) now given wanted = absurd (unpolled Client now _ given.one.poll.event refl)

-- each poll gives something
never_nothing : (side : Side) (i now : ℕ) (v : View) → GaveNothing asked_run side i now v → ⊥
never_nothing side zero now v gave = (let answer = gave.poll.answer in cc)
never_nothing side (suc zero) now v gave = (let answer = gave.poll.answer in cc)
never_nothing side (suc (suc zero)) now v gave = (let answer = gave.poll.answer in cc)
never_nothing side (suc (suc (suc zero))) now v gave = (let answer = gave.poll.answer in cc)
never_nothing side (suc (suc (suc (suc zero)))) now v gave = (let answer = gave.poll.answer in cc)
never_nothing side (suc (suc (suc (suc (suc zero))))) now v gave = (let answer = gave.poll.answer in cc)
never_nothing side (suc (suc (suc (suc (suc (suc zero)))))) now v gave = (let answer = gave.poll.answer in cc)
never_nothing side (suc (suc (suc (suc (suc (suc (suc zero))))))) now v gave = (let answer = gave.poll.answer in cc)
never_nothing side (suc (suc (suc (suc (suc (suc (suc (suc i)))))))) now v gave = (let answer = gave.poll.answer in cc)

pub asked_goes : RequestsGo asked_run
asked_goes = record { along = goes_along; held = λ side i now v served gave wanted. absurd (never_nothing side i now v gave) }

-- ---- what waited

none_asked : stands is_ack_frequency (wants asked_run Client 0).since ≡ false
none_asked = refl

-- the request waited, and the ids are told
first_waited : (f : FrameValue) → In f (first_sent (request 0 10000) 229).frames → FrameWaited (asking_at asked_run Client) (wants asked_run Client 0) f
first_waited f (inl is) = subst (λ (g : FrameValue). FrameWaited (asking_at asked_run Client) (wants asked_run Client 0) g) (sym is) (inl none_asked)
first_waited f (inr (inl is)) = subst (λ (g : FrameValue). FrameWaited (asking_at asked_run Client) (wants asked_run Client 0) g) (sym is) tt
first_waited f (inr (inr (inl is))) = subst (λ (g : FrameValue). FrameWaited (asking_at asked_run Client) (wants asked_run Client 0) g) (sym is) tt
first_waited f (inr (inr (inr (inl is)))) = subst (λ (g : FrameValue). FrameWaited (asking_at asked_run Client) (wants asked_run Client 0) g) (sym is) tt
first_waited f (inr (inr (inr (inr (inl is))))) = subst (λ (g : FrameValue). FrameWaited (asking_at asked_run Client) (wants asked_run Client 0) g) (sym is) tt
first_waited f (inr (inr (inr (inr (inr (inl is)))))) = subst (λ (g : FrameValue). FrameWaited (asking_at asked_run Client) (wants asked_run Client 0) g) (sym is) tt
first_waited f (inr (inr (inr (inr (inr (inr (inl is))))))) = subst (λ (g : FrameValue). FrameWaited (asking_at asked_run Client) (wants asked_run Client 0) g) (sym is) tt
first_waited f (inr (inr (inr (inr (inr (inr (inr (inl is)))))))) = subst (λ (g : FrameValue). FrameWaited (asking_at asked_run Client) (wants asked_run Client 0) g) (sym is) tt
first_waited f (inr (inr (inr (inr (inr (inr (inr (inr none)))))))) = absurd none

-- PING was asked for
second_waited : (f : FrameValue) → In f ping_sent.frames → FrameWaited (asking_at asked_run Client) (wants asked_run Client 6) f
unfolding client_acked ack_frequency_at
second_waited f (inl is) = subst (λ (g : FrameValue). FrameWaited (asking_at asked_run Client) (wants asked_run Client 6) g) (sym is) refl
second_waited f (inr (inl is)) = subst (λ (g : FrameValue). FrameWaited (asking_at asked_run Client) (wants asked_run Client 6) g) (sym is) tt
second_waited f (inr (inr none)) = absurd none

ack_waited : HasWaited asked_run Server 3 ack_sent
unfolding client_acked ack_frequency_at
ack_waited = as_ack refl refl refl

pub asked_waited : EachWaited asked_run
asked_waited Client zero now gave = subst (λ (s : Sent). HasWaited asked_run Client 0 s) (sym (is_first now gave)) (as_frames refl first_waited)
asked_waited Client (suc (suc (suc (suc (suc (suc zero)))))) now gave = subst (λ (s : Sent). HasWaited asked_run Client 6 s) (sym (is_second now gave)) (as_frames refl second_waited)
asked_waited Server (suc (suc (suc zero))) now gave = subst (λ (s : Sent). HasWaited asked_run Server 3 s) (sym (is_ack now gave)) ack_waited
asked_waited Client (suc zero) now gave = absurd (unpolled Client now _ gave.poll.event refl)
asked_waited Client (suc (suc zero)) now gave = absurd (unpolled Client now _ gave.poll.event refl)
asked_waited Client (suc (suc (suc zero))) now gave = absurd (unpolled Client now _ gave.poll.event refl)
asked_waited Client (suc (suc (suc (suc zero)))) now gave = absurd (unpolled Client now _ gave.poll.event refl)
asked_waited Client (suc (suc (suc (suc (suc zero))))) now gave = absurd (unpolled Client now _ gave.poll.event refl)
asked_waited Client (suc (suc (suc (suc (suc (suc (suc zero))))))) now gave = absurd (unpolled Client now _ gave.poll.event refl)
asked_waited Client (suc (suc (suc (suc (suc (suc (suc (suc i)))))))) now gave = absurd (unpolled Client now _ gave.poll.event refl)
asked_waited Server zero now gave = absurd (unpolled Server now _ gave.poll.event refl)
asked_waited Server (suc zero) now gave = absurd (unpolled Server now _ gave.poll.event refl)
asked_waited Server (suc (suc zero)) now gave = absurd (unpolled Server now _ gave.poll.event refl)
asked_waited Server (suc (suc (suc (suc zero)))) now gave = absurd (unpolled Server now _ gave.poll.event refl)
asked_waited Server (suc (suc (suc (suc (suc zero))))) now gave = absurd (unpolled Server now _ gave.poll.event refl)
asked_waited Server (suc (suc (suc (suc (suc (suc zero)))))) now gave = absurd (unpolled Server now _ gave.poll.event refl)
asked_waited Server (suc (suc (suc (suc (suc (suc (suc zero))))))) now gave = absurd (unpolled Server now _ gave.poll.event refl)
asked_waited Server (suc (suc (suc (suc (suc (suc (suc (suc i)))))))) now gave = absurd (unpolled Server now _ gave.poll.event refl)

-- ---- the timers

-- a view in which a timer of acknowledgements shows the deadline that is reckoned, or isn't set
acks_shown : (side : Side) (u v : View) (moment : ℕ) (due : Option ℕ) → Some u ≡ Some v → ack_timer u side ≡ Some due → ack_timer v side ≡ Some (Some moment) → due ≡ Some moment
acks_shown side u v moment due is shown set =
    let same : u ≡ v = cc in
    let both : Some due ≡ Some (Some moment) = sym shown ∙ ap (λ (x : View). ack_timer x side) same ∙ set in
    cc

unset : (side : Side) (u v : View) (moment : ℕ) → Some u ≡ Some v → ack_timer u side ≡ Some None → ack_timer v side ≡ Some (Some moment) → ⊥
unset side u v moment is none set = let never : ◌≡◌ {A = Option ℕ} None (Some moment) = acks_shown side u v moment None is none set in cc

pub owes_first : (debt asked_run Server 2).deadlines ≡ 15000000 ∷ []
unfolding client_acked ack_frequency_at
owes_first = refl

pub owes_none : (debt asked_run Server 4).deadlines ≡ []
unfolding client_acked ack_frequency_at
owes_none = refl

pub owes_second : (debt asked_run Server 8).deadlines ≡ 35000000 ∷ []
unfolding client_acked ack_frequency_at
owes_second = refl

pub asked_acks : AckMoments asked_run
asked_acks Server (suc zero) moment v served is opened set = ap first_deadline owes_first ∙ acks_shown Server _ v moment (Some 15000000) is refl set
asked_acks Server (suc (suc (suc (suc (suc (suc (suc zero))))))) moment v served is opened set = ap first_deadline owes_second ∙ acks_shown Server _ v moment (Some 35000000) is refl set
asked_acks Server zero moment v served is opened set = absurd (unset Server _ v moment is refl set)
asked_acks Server (suc (suc zero)) moment v served is opened set = absurd (unset Server _ v moment is refl set)
asked_acks Server (suc (suc (suc zero))) moment v served is opened set = absurd (unset Server _ v moment is refl set)
asked_acks Server (suc (suc (suc (suc zero)))) moment v served is opened set = absurd (unset Server _ v moment is refl set)
asked_acks Server (suc (suc (suc (suc (suc zero))))) moment v served is opened set = absurd (unset Server _ v moment is refl set)
asked_acks Server (suc (suc (suc (suc (suc (suc zero)))))) moment v served is opened set = absurd (unset Server _ v moment is refl set)
asked_acks Server (suc (suc (suc (suc (suc (suc (suc (suc i)))))))) moment v served is opened set = cc
asked_acks Client zero moment v served is opened set = absurd (unset Client _ v moment is refl set)
asked_acks Client (suc zero) moment v served is opened set = absurd (unset Client _ v moment is refl set)
asked_acks Client (suc (suc zero)) moment v served is opened set = absurd (unset Client _ v moment is refl set)
asked_acks Client (suc (suc (suc zero))) moment v served is opened set = absurd (unset Client _ v moment is refl set)
asked_acks Client (suc (suc (suc (suc zero)))) moment v served is opened set = absurd (unset Client _ v moment is refl set)
asked_acks Client (suc (suc (suc (suc (suc zero))))) moment v served is opened set = absurd (unset Client _ v moment is refl set)
asked_acks Client (suc (suc (suc (suc (suc (suc zero)))))) moment v served is opened set = absurd (unset Client _ v moment is refl set)
asked_acks Client (suc (suc (suc (suc (suc (suc (suc zero))))))) moment v served is opened set = absurd (unset Client _ v moment is refl set)
asked_acks Client (suc (suc (suc (suc (suc (suc (suc (suc i)))))))) moment v served is opened set = cc

-- the client's loss timer, as it is reckoned behind each event
due_1 : due_at asked_run Client 1 ≡ Some 1024000000
unfolding client_acked ack_frequency_at
due_1 = refl

due_2 : due_at asked_run Client 2 ≡ Some 1024000000
unfolding client_acked ack_frequency_at
due_2 = refl

due_3 : due_at asked_run Client 3 ≡ Some 1024000000
unfolding client_acked ack_frequency_at
due_3 = refl

due_4 : due_at asked_run Client 4 ≡ Some 1024000000
unfolding client_acked ack_frequency_at
due_4 = refl

due_5 : due_at asked_run Client 5 ≡ None
unfolding client_acked ack_frequency_at
due_5 = refl

due_6 : due_at asked_run Client 6 ≡ None
unfolding client_acked ack_frequency_at
due_6 = refl

pub due_7 : due_at asked_run Client 7 ≡ Some 90000000
unfolding client_acked ack_frequency_at
due_7 = refl

due_8 : due_at asked_run Client 8 ≡ Some 90000000
unfolding client_acked ack_frequency_at
due_8 = refl

-- the server gives nothing that asks
server_due_2 : due_at asked_run Server 2 ≡ None
unfolding client_acked ack_frequency_at
server_due_2 = refl

server_due_3 : due_at asked_run Server 3 ≡ None
unfolding client_acked ack_frequency_at
server_due_3 = refl

server_due_4 : due_at asked_run Server 4 ≡ None
unfolding client_acked ack_frequency_at
server_due_4 = refl

server_due_5 : due_at asked_run Server 5 ≡ None
unfolding client_acked ack_frequency_at
server_due_5 = refl

server_due_6 : due_at asked_run Server 6 ≡ None
unfolding client_acked ack_frequency_at
server_due_6 = refl

server_due_7 : due_at asked_run Server 7 ≡ None
unfolding client_acked ack_frequency_at
server_due_7 = refl

server_due_8 : due_at asked_run Server 8 ≡ None
unfolding client_acked ack_frequency_at
server_due_8 = refl

pub asked_losses : LossMoments asked_run
asked_losses Client zero v served is opened = shows Client _ v _ _ is refl due_1
asked_losses Client (suc zero) v served is opened = shows Client _ v _ _ is refl due_2
asked_losses Client (suc (suc zero)) v served is opened = shows Client _ v _ _ is refl due_3
asked_losses Client (suc (suc (suc zero))) v served is opened = shows Client _ v _ _ is refl due_4
asked_losses Client (suc (suc (suc (suc zero)))) v served is opened = shows Client _ v _ _ is refl due_5
asked_losses Client (suc (suc (suc (suc (suc zero))))) v served is opened = shows Client _ v _ _ is refl due_6
asked_losses Client (suc (suc (suc (suc (suc (suc zero)))))) v served is opened = shows Client _ v _ _ is refl due_7
asked_losses Client (suc (suc (suc (suc (suc (suc (suc zero))))))) v served is opened = shows Client _ v _ _ is refl due_8
asked_losses Client (suc (suc (suc (suc (suc (suc (suc (suc i)))))))) v served is opened = cc
asked_losses Server zero v served is opened = shows Server _ v _ _ is refl refl
asked_losses Server (suc zero) v served is opened = shows Server _ v _ _ is refl server_due_2
asked_losses Server (suc (suc zero)) v served is opened = shows Server _ v _ _ is refl server_due_3
asked_losses Server (suc (suc (suc zero))) v served is opened = shows Server _ v _ _ is refl server_due_4
asked_losses Server (suc (suc (suc (suc zero)))) v served is opened = shows Server _ v _ _ is refl server_due_5
asked_losses Server (suc (suc (suc (suc (suc zero))))) v served is opened = shows Server _ v _ _ is refl server_due_6
asked_losses Server (suc (suc (suc (suc (suc (suc zero)))))) v served is opened = shows Server _ v _ _ is refl server_due_7
asked_losses Server (suc (suc (suc (suc (suc (suc (suc zero))))))) v served is opened = shows Server _ v _ _ is refl server_due_8
asked_losses Server (suc (suc (suc (suc (suc (suc (suc (suc i)))))))) v served is opened = cc
