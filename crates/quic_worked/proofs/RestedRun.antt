-- The run in which both ends come to rest, event by event, and those of machines that rest too
-- early or not at all.
use Rattle.std.proofs.Common.{◌≡◌, ℕ, ◌^◌, ◌<◌, List, [], ◌∷◌, ◌++◌, take, true, Option, Some, None, Ok, refl, ◌⊎◌, inl, inr, sym, ap, ◌∙◌, subst, lit<, lit≤, arith}
use Rattle.std.specs.Prelude.{slice_get}
use Rattle.std.proofs.lemmas.List.Elements.{All-head, All-tail}
use Rattle.quic_wire_core.specs.declared.stream_id.Side.{Side}
use Rattle.quic_wire_core.specs.declared.stream_id.Side.TheVariants.{Client, Server}
use Rattle.quic_wire.specs.Value.{ack, stream}
use Rattle.quic_congestion.specs.Congestion.{Told, Sent, Acked, AcksEnded, Congested, Resized, IsSized, AreSized, size_told, last_size, HasRoom}
use Rattle.quic_worked.specs.Settings.{plain_settings}
use Rattle.quic_machine.specs.declared.answers.Received.TheVariants as receives
use Rattle.quic_machine.specs.declared.run.RunEvent.{RunEvent}
use Rattle.quic_machine.specs.declared.run.Call.TheVariants as calls
use Rattle.quic_machine.specs.declared.run.Answer.{Answer}
use Rattle.quic_machine.specs.declared.run.Answer.TheVariants as answers
use Rattle.quic_machine.specs.declared.run.View.{View}
use Rattle.quic_machine.specs.End.{IsMade}
use Rattle.quic_machine.specs.Start.{AreStarted, IsController}
use Rattle.quic_machine.specs.Machine.{World, IsStep, Follows, view_of}
use Rattle.quic_machine.specs.RunLaws.{one_run}
use Rattle.quic_headline.specs.Runs.{Packet, In, IsNamed, HasArrived, EndHasArrived, until}
use Rattle.quic_headline.specs.Observer.{Sent as SentAs, took, sents_until}
use Rattle.quic_headline.specs.Moments.{loss_timer, AllNamed, LossTimerQuiet}
use Rattle.quic_headline.specs.Polls.{pacing_timer, IsPaced}
use Rattle.quic_headline.specs.Headline.{IsHonest, IsRun}
use Rattle.quic_headline.specs.Spread.{named_at, PacerIsOfHistory, SearchesApart}
use Rattle.quic_headline.specs.Rest.{ShowsStill, Rests, HaveRoom, unanswered, IsUnacknowledged, DeliveredAtRest, NothingOwedAtRest}
use Rattle.quic_worked.specs.Worked.{ran, worked_policies, client_id, server_id, opens_stream, writes_hello, finishes_stream, asks_datagram, gives_bytes, hello_frame, id_frames, behind_ids, gives_unmarked}
use Rattle.quic_worked.specs.Acknowledged.{client_acked}
use Rattle.quic_worked.specs.Broken.{IsNoRun}
use Rattle.quic_worked.specs.Timed.{serves, asks_at, comes_at, NeverShows}
use Rattle.quic_worked.specs.Held.{gives_nothing}
use Rattle.quic_worked.specs.Rested.{roomy_window, roomy_control, roomy_windows, rested_start, rested_events, rested_answers, once_rested, rest_view, still_view, given_view, taken_view, rested_run, hello_packet, kept_run, forgotten_run, unanswered_run, timed_on, paced_view, paced_run, second_comes, told_view}
use Rattle.quic_worked.proofs.Codes.{no_codes}
use Rattle.quic_worked.proofs.OwnIds.{AreOwn, own_ids}
use Rattle.quic_worked.proofs.BrokenRuns.{IsRefused, stops, behind}
use Rattle.quic_worked.proofs.WorkedKeys.{are_keys}
use Rattle.quic_worked.proofs.WorkedHonest.{in_range, making}
use Rattle.quic_worked.proofs.WorkedRun.{parameters_say}
use Rattle.quic_worked.proofs.Steps.{StepsSo, others_so, steps_at}

-- ---- the premises

abbrev pub rested_started : AreStarted rested_start
rested_started = record {
  client_making = record (making client_id) { windows = roomy_windows };
  server_making = record (making server_id) { windows = roomy_windows };
  client_is = record { range = in_range; sizes = lit≤ tt; says = parameters_say; id = refl };
  server_is = record { range = in_range; sizes = lit≤ tt; says = parameters_say; id = refl };
  client = subst (λ read. IsMade Client plain_settings roomy_windows read client_id server_id 0 0 true (λ n. 63) rested_start.client) (sym parameters_say) refl;
  server = subst (λ read. IsMade Server plain_settings roomy_windows read server_id client_id 0 0 true (λ n. 63) rested_start.server) (sym parameters_say) refl;
  client_gave = refl;
  server_gave = refl;
  client_heard = refl;
  server_heard = refl;
}

own : (side : Side) → AreOwn side [] rested_run.events rested_run.answers rested_run.views
own Client = (tt, (inl refl, (inl refl, (tt, (tt, (tt, (tt, (tt, (tt, (tt, (tt, (tt, (tt, tt)))))))))))))
own Server = (tt, (tt, (tt, (tt, (tt, (tt, (tt, (tt, (tt, (tt, (tt, (tt, (tt, tt)))))))))))))

pub rested_is_honest : IsHonest rested_run
rested_is_honest = record { start = rested_started; keys = are_keys; ids = own_ids rested_run own }

-- sizes that are told fit two bytes, and the last one does
last_fits : (told : List Told) (size : ℕ) → size < 2 ^ 16 → AreSized told → last_size size told < 2 ^ 16
last_fits [] size fits sized = fits
last_fits (t ∷ told) size fits sized = last_fits told (size_told t size) (one t (All-head IsSized t told sized)) (All-tail IsSized t told sized)
  where
    one : (t : Told) → IsSized t → size_told t size < 2 ^ 16
    one (Sent now bytes last) is = fits
    one (Acked now sent bytes app_limited rtt) is = fits
    one (AcksEnded now in_flight app_limited largest) is = fits
    one (Congested now sent persistent lost) is = fits
    one (Resized given) is = is

roomy : IsController roomy_control 1200 roomy_window
roomy = record {
  first = refl;
  room = λ told sized room. (let fits = last_fits told 1200 room.sized sized in record { sized = fits; room = omega arith });
}

begins : HasRoom 1200 roomy_window
begins = record { sized = lit< tt; room = lit≤ tt }

pub have_room : HaveRoom rested_start
have_room = record { controlled = record { client = roomy; server = roomy }; client = begins; server = begins }

-- ---- the machine's run

opens : IsStep worked_policies rested_start opens_stream (answers.Open (Some 0)) (once_rested 1)
unfolding once_rested
opens =
    let s : StepsSo worked_policies rested_start opens_stream (answers.Open (Some 0)) (once_rested 1) = steps_at worked_policies rested_start rested_events rested_answers 0 opens_stream (answers.Open (Some 0)) _ _ refl refl refl in
    record { answer = refl; end = s.end; control = s.control; heard = s.heard; openings = tt; others = s.others; lacking = tt }

writes : IsStep worked_policies (once_rested 1) writes_hello (answers.Write (Ok 5)) (once_rested 2)
unfolding once_rested
writes =
    let s : StepsSo worked_policies (once_rested 1) writes_hello (answers.Write (Ok 5)) (once_rested 2) = steps_at worked_policies rested_start rested_events rested_answers 1 writes_hello (answers.Write (Ok 5)) _ _ refl refl refl in
    record { answer = inl refl; end = s.end; control = s.control; heard = s.heard; openings = tt; others = s.others; lacking = λ lacks. cc }

finishes : IsStep worked_policies (once_rested 2) finishes_stream (answers.Finish (Ok tt)) (once_rested 3)
unfolding once_rested
finishes =
    let s : StepsSo worked_policies (once_rested 2) finishes_stream (answers.Finish (Ok tt)) (once_rested 3) = steps_at worked_policies rested_start rested_events rested_answers 2 finishes_stream (answers.Finish (Ok tt)) _ _ refl refl refl in
    record { answer = inl refl; end = s.end; control = s.control; heard = s.heard; openings = tt; others = s.others; lacking = λ lacks. cc }

gives : IsStep worked_policies (once_rested 3) asks_datagram (gives_bytes 230) (once_rested 4)
unfolding once_rested
gives =
    let s : StepsSo worked_policies (once_rested 3) asks_datagram (gives_bytes 230) (once_rested 4) = steps_at worked_policies rested_start rested_events rested_answers 3 asks_datagram (gives_bytes 230) _ _ refl refl refl in
    record { answer = inl refl; end = s.end; control = s.control; heard = s.heard; openings = tt; others = s.others; lacking = tt }

takes : IsStep worked_policies (once_rested 4) (comes_at Server 10000000) (answers.Deliver receives.Taken) (once_rested 5)
unfolding once_rested
takes =
    let s : StepsSo worked_policies (once_rested 4) (comes_at Server 10000000) (answers.Deliver receives.Taken) (once_rested 5) = steps_at worked_policies rested_start rested_events rested_answers 4 (comes_at Server 10000000) (answers.Deliver receives.Taken) _ _ refl refl refl in
    record { answer = inl refl; end = s.end; control = s.control; heard = s.heard; openings = tt; others = s.others; lacking = tt }

is_due : IsStep worked_policies (once_rested 5) (serves Server 35000000) (answers.Timeout (Ok tt)) (once_rested 6)
unfolding once_rested
is_due =
    let s : StepsSo worked_policies (once_rested 5) (serves Server 35000000) (answers.Timeout (Ok tt)) (once_rested 6) = steps_at worked_policies rested_start rested_events rested_answers 5 (serves Server 35000000) (answers.Timeout (Ok tt)) _ _ refl refl refl in
    record { answer = inl refl; end = s.end; control = s.control; heard = s.heard; openings = tt; others = s.others; lacking = tt }

pub still_roomy : roomy_control ≡ roomy_control
still_roomy = refl

answers_it : IsStep worked_policies (once_rested 6) (asks_at Server 35000000) (gives_bytes 228) (once_rested 7)
unfolding once_rested
answers_it =
    let s : StepsSo worked_policies (once_rested 6) (asks_at Server 35000000) (gives_bytes 228) (once_rested 7) = steps_at worked_policies rested_start rested_events rested_answers 6 (asks_at Server 35000000) (gives_bytes 228) _ _ refl refl refl in
    record { answer = inl refl; end = s.end; control = s.control; heard = s.heard; openings = tt; others = s.others; lacking = tt }

is_answered : IsStep worked_policies (once_rested 7) (comes_at Client 40000000) (answers.Deliver receives.Taken) (once_rested 8)
unfolding once_rested
is_answered =
    let s : StepsSo worked_policies (once_rested 7) (comes_at Client 40000000) (answers.Deliver receives.Taken) (once_rested 8) = steps_at worked_policies rested_start rested_events rested_answers 7 (comes_at Client 40000000) (answers.Deliver receives.Taken) _ _ refl refl refl in
    record { answer = inl refl; end = s.end; control = s.control; heard = s.heard; openings = tt; others = s.others; lacking = tt }

client_due : IsStep worked_policies (once_rested 8) (serves Client 65000000) (answers.Timeout (Ok tt)) (once_rested 9)
unfolding once_rested
client_due =
    let s : StepsSo worked_policies (once_rested 8) (serves Client 65000000) (answers.Timeout (Ok tt)) (once_rested 9) = steps_at worked_policies rested_start rested_events rested_answers 8 (serves Client 65000000) (answers.Timeout (Ok tt)) _ _ refl refl refl in
    record { answer = inl refl; end = s.end; control = s.control; heard = s.heard; openings = tt; others = s.others; lacking = tt }

client_answers : IsStep worked_policies (once_rested 9) (asks_at Client 65000000) (gives_unmarked 32) (once_rested 10)
unfolding once_rested
client_answers =
    let s : StepsSo worked_policies (once_rested 9) (asks_at Client 65000000) (gives_unmarked 32) (once_rested 10) = steps_at worked_policies rested_start rested_events rested_answers 9 (asks_at Client 65000000) (gives_unmarked 32) _ _ refl refl refl in
    record { answer = inl refl; end = s.end; control = s.control; heard = s.heard; openings = tt; others = s.others; lacking = tt }

all_answered : IsStep worked_policies (once_rested 10) (second_comes 70000000) (answers.Deliver receives.Taken) (once_rested 11)
unfolding once_rested
all_answered =
    let s : StepsSo worked_policies (once_rested 10) (second_comes 70000000) (answers.Deliver receives.Taken) (once_rested 11) = steps_at worked_policies rested_start rested_events rested_answers 10 (second_comes 70000000) (answers.Deliver receives.Taken) _ _ refl refl refl in
    record { answer = inl refl; end = s.end; control = s.control; heard = s.heard; openings = tt; others = s.others; lacking = tt }

client_rests : IsStep worked_policies (once_rested 11) (asks_at Client 70000000) gives_nothing (once_rested 12)
unfolding once_rested
client_rests =
    let s : StepsSo worked_policies (once_rested 11) (asks_at Client 70000000) gives_nothing (once_rested 12) = steps_at worked_policies rested_start rested_events rested_answers 11 (asks_at Client 70000000) gives_nothing _ _ refl refl refl in
    record { answer = inl refl; end = s.end; control = s.control; heard = s.heard; openings = tt; others = s.others; lacking = tt }

server_rests : IsStep worked_policies (once_rested 12) (asks_at Server 70000000) gives_nothing (once_rested 13)
unfolding once_rested
server_rests =
    let s : StepsSo worked_policies (once_rested 12) (asks_at Server 70000000) gives_nothing (once_rested 13) = steps_at worked_policies rested_start rested_events rested_answers 12 (asks_at Server 70000000) gives_nothing _ _ refl refl refl in
    record { answer = inl refl; end = s.end; control = s.control; heard = s.heard; openings = tt; others = s.others; lacking = tt }

opened_seen : still_view ≡ view_of (once_rested 1)
unfolding once_rested
opened_seen = refl

written_seen : still_view ≡ view_of (once_rested 2)
unfolding once_rested
written_seen = refl

ended_seen : still_view ≡ view_of (once_rested 3)
unfolding once_rested
ended_seen = refl

given_seen : given_view ≡ view_of (once_rested 4)
unfolding once_rested
given_seen = refl

taken_seen : taken_view ≡ view_of (once_rested 5)
unfolding once_rested
taken_seen = refl

due_seen : given_view ≡ view_of (once_rested 6)
unfolding once_rested
due_seen = refl

answer_seen : told_view (Some 1024000000) None ≡ view_of (once_rested 7)
unfolding once_rested
answer_seen = refl

answered_seen : told_view None (Some 65000000) ≡ view_of (once_rested 8)
unfolding once_rested
answered_seen = refl

client_due_seen : told_view None None ≡ view_of (once_rested 9)
unfolding once_rested
client_due_seen = refl

client_answer_seen : told_view None None ≡ view_of (once_rested 10)
unfolding once_rested
client_answer_seen = refl

all_seen : still_view ≡ view_of (once_rested 11)
unfolding once_rested
all_seen = refl

client_seen : still_view ≡ view_of (once_rested 12)
unfolding once_rested
client_seen = refl

server_seen : still_view ≡ view_of (once_rested 13)
unfolding once_rested
server_seen = refl

-- what the machine does behind it
pub until_rested : (events : List RunEvent) (told : List Answer) (views : List View) (end : World)
    → Follows worked_policies (once_rested 13) events told views end → Follows worked_policies rested_start (rested_events ++ events) (rested_answers ++ told) (rested_run.views ++ views) end
until_rested events told views end rest = (once_rested 1, opens, opened_seen, (once_rested 2, writes, written_seen, (once_rested 3, finishes, ended_seen, (once_rested 4, gives, given_seen, (once_rested 5, takes, taken_seen, (once_rested 6, is_due, due_seen, (once_rested 7, answers_it, answer_seen, (once_rested 8, is_answered, answered_seen, (once_rested 9, client_due, client_due_seen, (once_rested 10, client_answers, client_answer_seen, (once_rested 11, all_answered, all_seen, (once_rested 12, client_rests, client_seen, (once_rested 13, server_rests, server_seen, rest)))))))))))))

follows : Follows rested_run.keys rested_run.start rested_run.events rested_run.answers rested_run.views (once_rested 13)
follows = until_rested [] [] [] (once_rested 13) refl

gave_hello : rested_run.from_client ≡ (once_rested 13).from_client
unfolding once_rested
gave_hello = refl

gave_ack : rested_run.from_server ≡ (once_rested 13).from_server
unfolding once_rested
gave_ack = refl

pub rested_is_run : IsRun rested_run (once_rested 13)
rested_is_run = record { codes = no_codes rested_run.events refl; follows = follows; from_client = gave_hello; from_server = gave_ack }

-- ---- both rest

-- both are open, and show no timer set
still : (side : Side) → ShowsStill still_view side
still Client = record { no_loss_timer = refl; no_ack_timer = refl; no_pacing_timer = refl }
still Server = record { no_loss_timer = refl; no_ack_timer = refl; no_pacing_timer = refl }

pub client_at_rest : Rests rested_run Client 13
client_at_rest = record { front = take 7 (until rested_run Client 13); now = 70000000; last = refl; view = still_view; shown = refl; is_open = refl; validated = refl; still = still Client }

pub client_before : Rests rested_run Client 12
client_before = record { front = take 7 (until rested_run Client 12); now = 70000000; last = refl; view = still_view; shown = refl; is_open = refl; validated = refl; still = still Client }

pub server_at_rest : Rests rested_run Server 13
server_at_rest = record { front = take 4 (until rested_run Server 13); now = 70000000; last = refl; view = still_view; shown = refl; is_open = refl; validated = refl; still = still Server }

-- ---- what arrived

-- the packet that acknowledges the server's ids
abbrev pub acks_ids : Packet
acks_ids = record { number = 1; frames = ack (record { largest = 0; delay = 3125; ranges = (0, 0) ∷ []; ecn = None }) ∷ [] }

-- it came behind the word
abbrev pub both_packets : List Packet
both_packets = acks_ids ∷ hello_packet ∷ []

took_hello : took rested_run Server 13 ≡ both_packets
unfolding client_acked
took_hello = refl

-- each offset of the word
pub word_arrived : (offset : ℕ) → offset < 5 → HasArrived both_packets 0 offset
word_arrived offset below = record { frame = hello_frame; taken = record { packet = hello_packet; was_taken = inr (inl refl); carried = inr (inr (inr (inr (inr (inr (inr (inl refl))))))) }; of_stream = refl; from = omega arith; below = below }

pub first_arrived : HasArrived (took rested_run Server 13) 0 0
first_arrived = subst (λ (ps : List Packet). HasArrived ps 0 0) (sym took_hello) (word_arrived 0 (lit< tt))

pub last_arrived : HasArrived (took rested_run Server 13) 0 4
last_arrived = subst (λ (ps : List Packet). HasArrived ps 0 4) (sym took_hello) (word_arrived 4 (lit< tt))

pub end_in_hello : EndHasArrived both_packets 0 5
end_in_hello = record { frame = hello_frame; taken = record { packet = hello_packet; was_taken = inr (inl refl); carried = inr (inr (inr (inr (inr (inr (inr (inl refl))))))) }; of_stream = refl; fin = refl; behind = refl }

pub end_arrived : EndHasArrived (took rested_run Server 13) 0 5
end_arrived = subst (λ (ps : List Packet). EndHasArrived ps 0 5) (sym took_hello) end_in_hello

-- ---- what is owed

pub owes_one : unanswered rested_run Server 6 ≡ hello_packet ∷ []
unfolding client_acked
owes_one = refl

pub owes_no_more : unanswered rested_run Server 13 ≡ []
unfolding client_acked
owes_no_more = refl

pub owes_never : unanswered rested_run Client 13 ≡ []
unfolding client_acked
owes_never = refl

-- ---- what was written doesn't arrive

kept_rests : Rests kept_run Client 3
kept_rests = record { front = take 2 (until kept_run Client 3); now = 0; last = refl; view = still_view; shown = refl; is_open = refl; validated = refl; still = still Client }

pub kept_delivers : DeliveredAtRest kept_run → ⊥
kept_delivers h = ((h Client 3 0 refl have_room kept_rests refl).0 0 (lit< tt)).taken.was_taken

forgotten_rests : Rests forgotten_run Client 6
forgotten_rests = record { front = take 5 (until forgotten_run Client 6); now = 1024000000; last = refl; view = still_view; shown = refl; is_open = refl; validated = refl; still = still Client }

pub forgotten_delivers : DeliveredAtRest forgotten_run → ⊥
forgotten_delivers h = ((h Client 6 0 refl have_room forgotten_rests refl).0 0 (lit< tt)).taken.was_taken

kept_own : (side : Side) → AreOwn side [] kept_run.events kept_run.answers kept_run.views
kept_own Client = (tt, (inl refl, (tt, tt)))
kept_own Server = (tt, (tt, (tt, tt)))

pub kept_is_honest : IsHonest kept_run
kept_is_honest = record { start = rested_started; keys = are_keys; ids = own_ids kept_run kept_own }

forgotten_own : (side : Side) → AreOwn side [] forgotten_run.events forgotten_run.answers forgotten_run.views
forgotten_own Client = (tt, (inl refl, (inl refl, (tt, (tt, (tt, tt))))))
forgotten_own Server = (tt, (tt, (tt, (tt, (tt, (tt, tt))))))

pub forgotten_is_honest : IsHonest forgotten_run
forgotten_is_honest = record { start = rested_started; keys = are_keys; ids = own_ids forgotten_run forgotten_own }

kept_no : IsRefused (once_rested 2) asks_datagram gives_nothing
unfolding once_rested
kept_no (inl e) = cc
kept_no (inr e) = cc

pub kept_is_none : IsNoRun kept_run
kept_is_none = behind refl opens (behind refl writes (stops _ _ _ _ _ kept_no))

-- the client once its timer expired
unfoldable once_expired : World
unfolding once_rested
once_expired = ran worked_policies (once_rested 4) (serves Client 1024000000 ∷ []) (answers.Timeout (Ok tt) ∷ [])

-- what it has counted before and behind that: its datagram
sent_before : (once_rested 4).client_heard ≡ record { received = 0; sent = 230; failures = 0 }
unfolding once_rested
sent_before = refl

sent_behind : once_expired.client_heard ≡ record { received = 0; sent = 230; failures = 0 }
unfolding once_expired
sent_behind = refl

sent_still : once_expired.client_heard ≡ (once_rested 4).client_heard
sent_still = sent_behind ∙ sym sent_before

expires : IsStep worked_policies (once_rested 4) (serves Client 1024000000) (answers.Timeout (Ok tt)) once_expired
unfolding once_expired
expires = record { answer = inl refl; end = refl; control = refl; heard = sent_still; openings = tt; others = others_so worked_policies (once_rested 4) (serves Client 1024000000) (answers.Timeout (Ok tt)); lacking = tt }

forgotten_no : IsRefused once_expired (asks_at Client 1024000000) gives_nothing
unfolding once_expired
forgotten_no (inl e) = cc
forgotten_no (inr e) = cc

pub forgotten_is_none : IsNoRun forgotten_run
forgotten_is_none = behind refl opens (behind refl writes (behind refl finishes (behind refl gives (behind refl expires (stops _ _ _ _ _ forgotten_no)))))

-- ---- what asks isn't acknowledged

unanswered_rests : Rests unanswered_run Server 6
unanswered_rests = record { front = take 1 (until unanswered_run Server 6); now = 10000000; last = refl; view = given_view; shown = refl; is_open = refl; validated = refl; still = record { no_loss_timer = refl; no_ack_timer = refl; no_pacing_timer = refl } }

owes_it : unanswered unanswered_run Server 6 ≡ hello_packet ∷ []
unfolding client_acked
owes_it = refl

none_sent : sents_until unanswered_run Server 6 ≡ []
unfolding client_acked
none_sent = refl

pub is_owed : IsUnacknowledged unanswered_run Server 6 hello_packet
is_owed = record {
  since = subst (λ (ps : List Packet). In hello_packet ps) (sym owes_it) (inl refl);
  above = λ s greatest among says named. absurd (subst (λ (ss : List SentAs). In s ss) none_sent among);
}

pub owes_at_rest : NothingOwedAtRest unanswered_run → ⊥
owes_at_rest h = h Server 6 hello_packet refl have_room unanswered_rests is_owed

unanswered_own : (side : Side) → AreOwn side [] unanswered_run.events unanswered_run.answers unanswered_run.views
unanswered_own Client = (tt, (inl refl, (inl refl, (tt, (tt, (tt, tt))))))
unanswered_own Server = (tt, (tt, (tt, (tt, (tt, (tt, tt))))))

pub unanswered_is_honest : IsHonest unanswered_run
unanswered_is_honest = record { start = rested_started; keys = are_keys; ids = own_ids unanswered_run unanswered_own }

-- the machine gives its ids there, and the acknowledgement along with them
heard_no : IsRefused (once_rested 5) (asks_at Server 10000000) gives_nothing
unfolding once_rested
heard_no (inl e) = cc
heard_no (inr e) = cc

unanswered_is_none : IsNoRun unanswered_run
unanswered_is_none = behind refl opens (behind refl writes (behind refl finishes (behind refl gives (behind refl takes (stops _ _ _ _ _ heard_no)))))

pub never_unanswered : NeverShows unanswered_run
never_unanswered end f = unanswered_is_none.never unanswered_run.views end f

-- the moment of a timer that is set
moment_in : Option (Option ℕ) → ℕ
moment_in (Some (Some moment)) = moment
moment_in other = 0

-- that of the client's loss timer, in a view that is there
loss_moment : Option View → ℕ
loss_moment None = 0
loss_moment (Some v) = moment_in (loss_timer v Client)

-- ---- an end that doesn't rest

-- the client's datagram, as it was sent
abbrev hello_sent : SentAs
hello_sent = record { id = server_id; number = 0; reference = 0; frames = behind_ids (stream hello_frame ∷ []); moment = 0; size = 230; generation = 0 }

sent_one : sents_until timed_on Client 8 ≡ hello_sent ∷ []
unfolding client_acked
sent_one = refl

-- the server's datagram, as it came
abbrev acked_packet : Packet
acked_packet = record { number = 0; frames = ack (record { largest = 0; delay = 3125; ranges = (0, 0) ∷ []; ecn = None }) ∷ id_frames }

took_ack : took timed_on Client 8 ≡ acked_packet ∷ []
unfolding client_acked
took_ack = refl

all_named : AllNamed timed_on Client 8
all_named s among asks = go (subst (λ (ss : List SentAs). In s ss) sent_one among)
  where
    there : IsNamed (acked_packet ∷ []) 0
    there = record { packet = acked_packet; was_taken = inl refl; frame = record { largest = 0; delay = 3125; ranges = (0, 0) ∷ []; ecn = None }; carried = inl refl; named = refl }

    go : In s (hello_sent ∷ []) → IsNamed (took timed_on Client 8) s.number
    go (inl is) = subst (λ (t : SentAs). IsNamed (took timed_on Client 8) t.number) (sym is) (subst (λ (ps : List Packet). IsNamed ps 0) (sym took_ack) there)
    go (inr none) = absurd none

-- a timer that is set, and isn't
set_and_not : (moment : ℕ) → ◌≡◌ {A = Option (Option ℕ)} (Some (Some moment)) (Some None) → ⊥
set_and_not moment is = cc

pub timed_quiet : LossTimerQuiet timed_on → ⊥
timed_quiet h = set_and_not 1024000000 (h Client 7 (told_view (Some 1024000000) (Some 65000000)) refl refl refl all_named)

pub timed_rests : Rests timed_on Client 13 → ⊥
timed_rests at = (let shown : rest_view (Some 1024000000) None ≡ at.view = cc in set_and_not 1024000000 (ap (λ (v : View). loss_timer v Client) shown ∙ at.still.no_loss_timer))

pub shows_paced : IsPaced paced_run Client 3 paced_view
shows_paced = record { moment = 1000000; shown = refl; later = lit< tt }

pub paced_rests : Rests paced_run Client 3 → ⊥
paced_rests at = (let shown : paced_view ≡ at.view = cc in set_and_not 1000000 (ap (λ (v : View). pacing_timer v Client) shown ∙ at.still.no_pacing_timer))

-- by the lists the pacer names no later moment
paced_names : named_at paced_run Client 2 0 ≡ None
paced_names = refl

set_otherwise : (o : Option ℕ) (moment : ℕ) → o ≡ None → (◌≡◌ {A = Option (Option ℕ)} (Some (Some moment)) (Some None)) ⊎ (◌≡◌ {A = Option (Option ℕ)} (Some (Some moment)) (Some o)) → ⊥
set_otherwise o moment none (inl is) = set_and_not moment is
set_otherwise o moment none (inr is) = set_and_not moment (is ∙ ap (λ (x : Option ℕ). Some x) none)

-- its client looks for no greater size of datagrams
paced_apart : SearchesApart paced_run Client
unfolding client_acked
paced_apart = tt

pub paced_paces : PacerIsOfHistory paced_run → ⊥
paced_paces h = set_otherwise (named_at paced_run Client 2 0) 1000000 paced_names (h Client 2 (calls.Poll 0) gives_nothing paced_view refl (record { event = refl; answer = refl }) refl refl paced_apart).sets

timed_own : (side : Side) → AreOwn side [] timed_on.events timed_on.answers timed_on.views
timed_own Client = (tt, (inl refl, (inl refl, (tt, (tt, (tt, (tt, (tt, (tt, (tt, (tt, (tt, (tt, tt)))))))))))))
timed_own Server = (tt, (tt, (tt, (tt, (tt, (tt, (tt, (tt, (tt, (tt, (tt, (tt, (tt, tt)))))))))))))

pub timed_is_honest : IsHonest timed_on
timed_is_honest = record { start = rested_started; keys = are_keys; ids = own_ids timed_on timed_own }

paced_own : (side : Side) → AreOwn side [] paced_run.events paced_run.answers paced_run.views
paced_own Client = (tt, (inl refl, (tt, tt)))
paced_own Server = (tt, (tt, (tt, tt)))

pub paced_is_honest : IsHonest paced_run
paced_is_honest = record { start = rested_started; keys = are_keys; ids = own_ids paced_run paced_own }

pub never_timed : NeverShows timed_on
unfolding loss_moment moment_in
never_timed end f =
    let same = one_run rested_run.keys rested_run.answers rested_run.start rested_run.events timed_on.views rested_run.views end (once_rested 13) refl f follows in
    let moments : ◌≡◌ {A = ℕ} 1024000000 0 = ap (λ (vs : List View). loss_moment (slice_get vs 7)) same.0 in
    absurd (omega arith)

pub paced_is_none : IsNoRun paced_run
paced_is_none = kept_is_none
