-- The run in which a larger size of datagrams is found, event by event, and what is told of it.
use Rattle.std.proofs.Common.{◌≡◌, ◌+◌, ◌<◌, ◌≤◌, ℕ, List, [], ◌∷◌, ◌++◌, drop, true, false, Some, None, Ok, refl, inl, sym, subst, lit<, lit≤, inr}
use Rattle.quic_wire_core.specs.declared.stream_id.Side.{Side}
use Rattle.quic_wire_core.specs.declared.stream_id.Side.TheVariants.{Client, Server}
use Rattle.quic_wire_core.specs.declared.shared.EcnCodepoint.TheVariants.{Ect0}
use Rattle.quic_wire.specs.Value.{ack}
use Rattle.quic_config.specs.Transport.{IsInRange}
use Rattle.quic_congestion.specs.Congestion as congestion
use Rattle.quic_congestion.specs.Search.{open_probe, search_bound, poll_names}
use Rattle.quic_machine.specs.declared.answers.Received.TheVariants as receives
use Rattle.quic_machine.specs.declared.run.Answer.TheVariants as answers
use Rattle.quic_machine.specs.End.{IsMade}
use Rattle.quic_machine.specs.Poll.{waits}
use Rattle.quic_machine.specs.Start.{AreStarted}
use Rattle.quic_machine.specs.Machine.{World, IsStep, Follows, view_of}
use Rattle.quic_headline.specs.Runs.{In, LeadsTo}
use Rattle.quic_headline.specs.Observer.{Sent, watch, sents_until, acked_until}
use Rattle.quic_headline.specs.Headline.{IsHonest, IsRun}
use Rattle.quic_headline.specs.Polls.{flying, bytes_flying, search_at, GaveOne, GaveAsking, IsSizeProbe, told_by_step, IsHistory, IsSearched, seen_at}
use Rattle.quic_headline.specs.Sizes.{WasProbed}
use Rattle.quic_headline.proofs.Steps.Made.{one_behind}
use Rattle.quic_worked.specs.Worked.{steady, worked_policies, client_id, server_id, gives_bytes, shut, id_frames}
use Rattle.quic_worked.specs.Timed.{serves, asks_at, comes_at, seen_with}
use Rattle.quic_worked.specs.Searched.{searched_start, searched_events, searched_answers, once_searched, size_sent, told_of_size, found_view, searched_run}
use Rattle.quic_worked.proofs.Codes.{no_codes}
use Rattle.quic_worked.proofs.Steps.{steps_at, StepsSo}
use Rattle.quic_worked.proofs.OwnIds.{AreOwn, own_ids}
use Rattle.quic_worked.proofs.WorkedKeys.{are_keys}
use Rattle.quic_worked.proofs.WorkedHonest.{in_range, making}
use Rattle.quic_worked.proofs.WorkedRun.{parameters_say, server_is_made}
use Rattle.quic_worked.specs.Messages.{comes_to_server}
use Rattle.quic_worked.specs.Settings.{search_settings}

-- ---- the premises

searching_range : IsInRange search_settings
searching_range = record { receive_window = lit< tt; stream_receive_window = lit< tt; bounds = record { bidi = lit≤ tt; uni = lit≤ tt; divides = lit< tt; initial = lit≤ tt; least = lit≤ tt }; search = lit≤ tt }

-- the client's parameters say nothing of its search
pub searched_started : AreStarted searched_start
searched_started = record {
  client_making = record (making client_id) { settings = search_settings };
  server_making = record (making server_id) { windows = shut };
  client_is = record { range = searching_range; sizes = lit≤ tt; says = parameters_say; id = refl };
  server_is = record { range = in_range; sizes = lit≤ tt; says = parameters_say; id = refl };
  client = subst (λ read. IsMade Client search_settings steady read client_id server_id 0 0 true (λ n. 63) searched_start.client) (sym parameters_say) refl;
  server = server_is_made;
  client_gave = refl;
  server_gave = refl;
  client_heard = refl;
  server_heard = refl;
}

own : (side : Side) → AreOwn side [] searched_run.events searched_run.answers searched_run.views
own Client = (tt, (tt, (tt, (tt, (tt, (tt, tt))))))
own Server = (tt, (tt, (tt, (tt, (tt, (tt, tt))))))

pub searched_is_honest : IsHonest searched_run
searched_is_honest = record { start = searched_started; keys = are_keys; ids = own_ids searched_run own }

-- ---- the machine's run

tells_ids : IsStep worked_policies searched_start (asks_at Client 0) (gives_bytes 222) (once_searched 1)
unfolding once_searched
tells_ids =
    let s : StepsSo worked_policies searched_start (asks_at Client 0) (gives_bytes 222) (once_searched 1) = steps_at worked_policies searched_start searched_events searched_answers 0 (asks_at Client 0) (gives_bytes 222) _ _ refl refl refl in
    record { answer = inl refl; end = s.end; control = s.control; heard = s.heard; openings = tt; others = s.others; lacking = tt }

probes : IsStep worked_policies (once_searched 1) (asks_at Client 0) (gives_bytes 1326) (once_searched 2)
unfolding once_searched
probes =
    let s : StepsSo worked_policies (once_searched 1) (asks_at Client 0) (gives_bytes 1326) (once_searched 2) = steps_at worked_policies searched_start searched_events searched_answers 1 (asks_at Client 0) (gives_bytes 1326) _ _ refl refl refl in
    record { answer = inl refl; end = s.end; control = s.control; heard = s.heard; openings = tt; others = s.others; lacking = tt }

takes : IsStep worked_policies (once_searched 2) (comes_to_server 10000000 1) (answers.Deliver receives.Taken) (once_searched 3)
unfolding once_searched
takes =
    let s : StepsSo worked_policies (once_searched 2) (comes_to_server 10000000 1) (answers.Deliver receives.Taken) (once_searched 3) = steps_at worked_policies searched_start searched_events searched_answers 2 (comes_to_server 10000000 1) (answers.Deliver receives.Taken) _ _ refl refl refl in
    record { answer = inl refl; end = s.end; control = s.control; heard = s.heard; openings = tt; others = s.others; lacking = tt }

is_due : IsStep worked_policies (once_searched 3) (serves Server 35000000) (answers.Timeout (Ok tt)) (once_searched 4)
unfolding once_searched
is_due =
    let s : StepsSo worked_policies (once_searched 3) (serves Server 35000000) (answers.Timeout (Ok tt)) (once_searched 4) = steps_at worked_policies searched_start searched_events searched_answers 3 (serves Server 35000000) (answers.Timeout (Ok tt)) _ _ refl refl refl in
    record { answer = inl refl; end = s.end; control = s.control; heard = s.heard; openings = tt; others = s.others; lacking = tt }

answers_it : IsStep worked_policies (once_searched 4) (asks_at Server 35000000) (gives_bytes 32) (once_searched 5)
unfolding once_searched
answers_it =
    let s : StepsSo worked_policies (once_searched 4) (asks_at Server 35000000) (gives_bytes 32) (once_searched 5) = steps_at worked_policies searched_start searched_events searched_answers 4 (asks_at Server 35000000) (gives_bytes 32) _ _ refl refl refl in
    record { answer = inl refl; end = s.end; control = s.control; heard = s.heard; openings = tt; others = s.others; lacking = tt }

finds : IsStep worked_policies (once_searched 5) (comes_at Client 40000000) (answers.Deliver receives.Taken) (once_searched 6)
unfolding once_searched
finds =
    let s : StepsSo worked_policies (once_searched 5) (comes_at Client 40000000) (answers.Deliver receives.Taken) (once_searched 6) = steps_at worked_policies searched_start searched_events searched_answers 5 (comes_at Client 40000000) (answers.Deliver receives.Taken) _ _ refl refl refl in
    record { answer = inl refl; end = s.end; control = s.control; heard = s.heard; openings = tt; others = s.others; lacking = tt }

told_seen : seen_with (Some 1024000000) None ≡ view_of (once_searched 1)
unfolding once_searched
told_seen = refl

probed_seen : seen_with (Some 1024000000) None ≡ view_of (once_searched 2)
unfolding once_searched
probed_seen = refl

taken_seen : seen_with (Some 1024000000) (Some 35000000) ≡ view_of (once_searched 3)
unfolding once_searched
taken_seen = refl

due_seen : seen_with (Some 1024000000) None ≡ view_of (once_searched 4)
unfolding once_searched
due_seen = refl

answer_seen : seen_with (Some 1024000000) None ≡ view_of (once_searched 5)
unfolding once_searched
answer_seen = refl

found_seen : found_view ≡ view_of (once_searched 6)
unfolding once_searched
found_seen = refl

follows : Follows searched_run.keys searched_run.start searched_run.events searched_run.answers searched_run.views (once_searched 6)
follows = (once_searched 1, tells_ids, told_seen, (once_searched 2, probes, probed_seen, (once_searched 3, takes, taken_seen, (once_searched 4, is_due, due_seen, (once_searched 5, answers_it, answer_seen, (once_searched 6, finds, found_seen, refl))))))

gave_probe : searched_run.from_client ≡ (once_searched 6).from_client
unfolding once_searched
gave_probe = refl

gave_ack : searched_run.from_server ≡ (once_searched 6).from_server
unfolding once_searched
gave_ack = refl

pub searched_is_run : IsRun searched_run (once_searched 6)
searched_is_run = record { codes = no_codes searched_run.events refl; follows = follows; from_client = gave_probe; from_server = gave_ack }

-- ---- the probe

probe_went : sents_until searched_run Client 2 ≡ sents_until searched_run Client 1 ++ size_sent ∷ []
unfolding once_searched
probe_went = refl

abbrev gave_asking : GaveAsking searched_run Client 1 0
gave_asking = record {
  one = record {
    transmit = record { size = 1326; ecn = Some Ect0; remote = 0 };
    poll = record { event = refl; answer = refl };
    served = refl;
    sent = size_sent;
    went = probe_went;
  };
  asks = refl;
}

named : poll_names (watch searched_run Client 2).clock (search_at Client (once_searched 1)) ≡ Some 1326
unfolding once_searched
named = refl

none_open : open_probe (search_at Client (once_searched 1)) ≡ None
unfolding once_searched
none_open = refl

opened : open_probe (search_at Client (once_searched 2)) ≡ Some 1
unfolding once_searched
opened = refl

is_bound : search_bound (search_at Client (once_searched 1)) ≡ Some 1452
unfolding once_searched
is_bound = refl

idle : waits (once_searched 1).client ≡ false
unfolding once_searched
idle = refl

ids_fly : bytes_flying searched_run Client 1 ≡ 222
unfolding once_searched
ids_fly = refl

room : (size : ℕ) → 222 + size < 12000 → bytes_flying searched_run Client 1 + size < 12000
room size fits = subst (λ (n : ℕ). n + size < 12000) (sym ids_fly) fits

is_searched : IsSearched searched_run Client 1 (once_searched 1) (once_searched 2) size_sent
unfolding once_searched
is_searched = record {
  named = named;
  none_open = none_open;
  opened = opened;
  bound = 1452;
  is_bound = is_bound;
  below = lit≤ tt;
  idle = idle;
  room = room 1452 (lit< tt);
}

leads_first : LeadsTo searched_run 1 (once_searched 1)
leads_first = (once_searched 1, tells_ids, told_seen, refl)

leads_second : LeadsTo searched_run 2 (once_searched 2)
leads_second = (once_searched 1, tells_ids, told_seen, (once_searched 2, probes, probed_seen, refl))

is_probe : IsSizeProbe searched_run Client 1 size_sent
is_probe = record {
  zeros = 1299;
  alone = refl;
  above = lit≤ tt;
  validated = refl;
  room = room 1326 (lit< tt);
  searched = λ w next here behind.
      subst (λ (x : World). IsSearched searched_run Client 1 x next size_sent) (one_behind searched_run 1 (once_searched 1) w refl leads_first here)
      (subst (λ (x : World). IsSearched searched_run Client 1 (once_searched 1) x size_sent) (one_behind searched_run 2 (once_searched 2) next refl leads_second behind) is_searched);
}

pub probe_goes : (gave : GaveAsking searched_run Client 1 0) × IsSizeProbe searched_run Client 1 gave.one.sent
probe_goes = (gave_asking, is_probe)

pub none_queued : (watch searched_run Client 1).flight.probes ≡ 0
unfolding once_searched
none_queued = refl

-- ---- the server's datagram has no more bytes than the current size

-- the acknowledgement as it was sent
abbrev ack_sent : Sent
ack_sent = record {
  id = client_id;
  number = 0;
  reference = 0;
  frames = ack (record { largest = 1; delay = 3125; ranges = (1, 1) ∷ []; ecn = None }) ∷ [];
  moment = 35000000;
  size = 32;
  generation = 0;
}

ack_went : sents_until searched_run Server 5 ≡ sents_until searched_run Server 4 ++ ack_sent ∷ []
unfolding once_searched
ack_went = refl

pub ack_is_small : (gave : GaveOne searched_run Server 4 35000000) × (gave.sent.size ≤ (seen_at searched_run Server 4).current_mtu)
ack_is_small = (
  record {
    transmit = record { size = 32; ecn = Some Ect0; remote = 0 };
    poll = record { event = refl; answer = refl };
    served = refl;
    sent = ack_sent;
    went = ack_went;
  },
  lit≤ tt,
)

-- ---- the size grows

-- what told the ids, as it was sent
abbrev ids_sent : Sent
ids_sent = record { id = server_id; number = 0; reference = 0; frames = id_frames; moment = 0; size = 222; generation = 0 }

they_fly : flying searched_run Client 5 ≡ ids_sent ∷ size_sent ∷ []
unfolding once_searched
they_fly = refl

it_is_acked : acked_until searched_run Client 6 ≡ size_sent ∷ []
unfolding once_searched
it_is_acked = refl

pub was_probed : WasProbed searched_run Client 5 1326
was_probed = record {
  sent = size_sent;
  flew = subst (λ (ss : List Sent). In size_sent ss) (sym they_fly) (inr (inl refl));
  came = subst (λ (ss : List Sent). In size_sent ss) (sym it_is_acked) (inl refl);
  zeros = 1299;
  alone = refl;
  sized = refl;
}

-- ---- the controller is told so

told_of_ids : told_of_size ≡ told_by_step Client worked_policies searched_start (asks_at Client 0) ++ drop 1 told_of_size
told_of_ids = refl

told_of_probe : drop 1 told_of_size ≡ told_by_step Client worked_policies (once_searched 1) (asks_at Client 0) ++ drop 2 told_of_size
unfolding once_searched
told_of_probe = refl

told_of_ack : drop 2 told_of_size ≡ told_by_step Client worked_policies (once_searched 5) (comes_at Client 40000000) ++ []
unfolding once_searched
told_of_ack = refl

pub history : IsHistory searched_run Client 6 (once_searched 6) told_of_size
history = (
  once_searched 1,
  drop 1 told_of_size,
  tells_ids,
  told_of_ids,
  (
    once_searched 2,
    drop 2 told_of_size,
    probes,
    told_of_probe,
    (
      once_searched 3,
      drop 2 told_of_size,
      takes,
      refl,
      (once_searched 4, drop 2 told_of_size, is_due, refl, (once_searched 5, drop 2 told_of_size, answers_it, refl, (once_searched 6, [], finds, told_of_ack, (refl, refl)))),
    ),
  ),
)

pub last_told : congestion.last_size 1200 told_of_size ≡ 1326
last_told = refl
