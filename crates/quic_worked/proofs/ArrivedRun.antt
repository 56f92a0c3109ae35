-- The run in which all that ends sent beside the bytes of streams has arrived, event by event, and
-- machines that come to rest though it hasn't.
use Rattle.std.proofs.Common.{◌≡◌, ◌<◌, ℕ, List, [], ◌∷◌, take, Bool, true, false, Some, None, Ok, refl, inl, inr, sym, ap, ◌∙◌, subst, lit<, arith}
use Rattle.std.specs.Prelude.{length}
use Rattle.std.proofs.lemmas.Bool.{both_ways}
use Rattle.quic_wire_core.specs.declared.stream_id.Side.TheVariants.{Client, Server}
use Rattle.quic_wire.specs.Value.{StreamValue, ResetStreamValue, stream, reset_stream, retire_connection_id, max_data}
use Rattle.quic_machine.specs.declared.answers.Received.TheVariants as receives
use Rattle.quic_machine.specs.declared.run.Answer.TheVariants as answers
use Rattle.quic_machine.specs.Machine.{World, IsStep, Follows, view_of}
use Rattle.quic_headline.specs.Runs.{Packet, In, until, written, reset}
use Rattle.quic_headline.specs.Observer.{took, sents_until}
use Rattle.quic_headline.specs.Headline.{IsHonest, IsRun}
use Rattle.quic_headline.specs.Amounts.{was_stopped}
use Rattle.quic_headline.specs.InUse.{in_use, TellsStays}
use Rattle.quic_headline.specs.Undone.{SizeHasCome}
use Rattle.quic_headline.specs.Unread.{stopped}
use Rattle.quic_headline.specs.Duties.{AllData, WasGiven, LimitHasArrived, WasRetired}
use Rattle.quic_headline.specs.Rest.{Rests}
use Rattle.quic_headline.specs.ControlArrived.{ResetArrivedAs, ResetsAtRest, StopsAtRest, RetirementsAtRest, LimitsAtRest}
use Rattle.quic_worked.specs.Worked.{worked_policies, hello, opens_stream, asks_datagram, gives_bytes, gives_unmarked, ran}
use Rattle.quic_worked.specs.Broken.{IsNoRun}
use Rattle.quic_worked.specs.Reordered.{abc, delivers_at}
use Rattle.quic_worked.specs.Paired.{writes_on, resets_with, asks_server, client_hears}
use Rattle.quic_worked.specs.Losses.{client_polled, server_polled}
use Rattle.quic_worked.specs.Timed.{serves, asks_at}
use Rattle.quic_worked.specs.Held.{gives_nothing}
use Rattle.quic_worked.specs.Credit.{opens_one_way, accepts_one_way}
use Rattle.quic_worked.specs.Raised.{client_waits}
use Rattle.quic_worked.specs.Renamed.{uses_next, retiring_packet, client_hears_second}
use Rattle.quic_worked.specs.Blocked.{small_start}
use Rattle.quic_worked.specs.Confirmed.{all_seen, unset_view}
use Rattle.quic_worked.specs.Arrived.{stops_one_way, third_comes, arrived_events, arrived_answers, once_arrived, given_view, taken_view, both_view, told_view, retiring_view, retired_view, issued_view, last_view, acked_view, reset_packet, stop_packet, stop_sent, ack_packet, arrived_run, reset_forgotten, stop_forgotten, retirement_forgotten}
use Rattle.quic_worked.proofs.Codes.{AllSmall, small_codes}
use Rattle.quic_worked.proofs.OwnIds.{honest_from}
use Rattle.quic_worked.proofs.BrokenRuns.{IsRefused, stops, behind}
use Rattle.quic_worked.proofs.BlockedRun.{left_started, small_room}
use Rattle.quic_worked.proofs.Steps.{StepsSo, steps_at, steps_so}
use Rattle.quic_worked.proofs.Unmoved.{client_tells_stays}

-- ---- the machine's run

opens_first : IsStep worked_policies (small_start 8) opens_stream (answers.Open (Some 0)) (once_arrived 1)
unfolding once_arrived
opens_first =
    let s : StepsSo worked_policies (small_start 8) opens_stream (answers.Open (Some 0)) (once_arrived 1) = steps_at worked_policies (small_start 8) arrived_events arrived_answers 0 opens_stream (answers.Open (Some 0)) _ _ refl refl refl in
    record { answer = refl; end = s.end; control = s.control; heard = s.heard; openings = tt; others = s.others; lacking = tt }

writes_first : IsStep worked_policies (once_arrived 1) (writes_on 0 abc) (answers.Write (Ok 3)) (once_arrived 2)
unfolding once_arrived
writes_first =
    let s : StepsSo worked_policies (once_arrived 1) (writes_on 0 abc) (answers.Write (Ok 3)) (once_arrived 2) = steps_at worked_policies (small_start 8) arrived_events arrived_answers 1 (writes_on 0 abc) (answers.Write (Ok 3)) _ _ refl refl refl in
    record { answer = inl refl; end = s.end; control = s.control; heard = s.heard; openings = tt; others = s.others; lacking = λ lacks. cc }

resets_it : IsStep worked_policies (once_arrived 2) (resets_with 7) (answers.Reset (Ok tt)) (once_arrived 3)
unfolding once_arrived
resets_it =
    let s : StepsSo worked_policies (once_arrived 2) (resets_with 7) (answers.Reset (Ok tt)) (once_arrived 3) = steps_at worked_policies (small_start 8) arrived_events arrived_answers 2 (resets_with 7) (answers.Reset (Ok tt)) _ _ refl refl refl in
    record { answer = inl refl; end = s.end; control = s.control; heard = s.heard; openings = tt; others = s.others; lacking = λ lacks. cc }

opens_second : IsStep worked_policies (once_arrived 3) opens_one_way (answers.Open (Some 2)) (once_arrived 4)
unfolding once_arrived
opens_second =
    let s : StepsSo worked_policies (once_arrived 3) opens_one_way (answers.Open (Some 2)) (once_arrived 4) = steps_at worked_policies (small_start 8) arrived_events arrived_answers 3 opens_one_way (answers.Open (Some 2)) _ _ refl refl refl in
    record { answer = refl; end = s.end; control = s.control; heard = s.heard; openings = tt; others = s.others; lacking = tt }

writes_second : IsStep worked_policies (once_arrived 4) (writes_on 2 hello) (answers.Write (Ok 5)) (once_arrived 5)
unfolding once_arrived
writes_second =
    let s : StepsSo worked_policies (once_arrived 4) (writes_on 2 hello) (answers.Write (Ok 5)) (once_arrived 5) = steps_at worked_policies (small_start 8) arrived_events arrived_answers 4 (writes_on 2 hello) (answers.Write (Ok 5)) _ _ refl refl refl in
    record { answer = inl refl; end = s.end; control = s.control; heard = s.heard; openings = tt; others = s.others; lacking = λ lacks. cc }

gives_reset : IsStep worked_policies (once_arrived 5) asks_datagram (gives_bytes 234) (once_arrived 6)
unfolding once_arrived
gives_reset =
    let s : StepsSo worked_policies (once_arrived 5) asks_datagram (gives_bytes 234) (once_arrived 6) = steps_at worked_policies (small_start 8) arrived_events arrived_answers 5 asks_datagram (gives_bytes 234) _ _ refl refl refl in
    record { answer = inl refl; end = s.end; control = s.control; heard = s.heard; openings = tt; others = s.others; lacking = tt }

takes_reset : IsStep worked_policies (once_arrived 6) (delivers_at 0) (answers.Deliver receives.Taken) (once_arrived 7)
unfolding once_arrived
takes_reset =
    let s : StepsSo worked_policies (once_arrived 6) (delivers_at 0) (answers.Deliver receives.Taken) (once_arrived 7) = steps_at worked_policies (small_start 8) arrived_events arrived_answers 6 (delivers_at 0) (answers.Deliver receives.Taken) _ _ refl refl refl in
    record { answer = inl refl; end = s.end; control = s.control; heard = s.heard; openings = tt; others = s.others; lacking = tt }

accepts_it : IsStep worked_policies (once_arrived 7) accepts_one_way (answers.Accept (Some 2)) (once_arrived 8)
unfolding once_arrived
accepts_it =
    let s : StepsSo worked_policies (once_arrived 7) accepts_one_way (answers.Accept (Some 2)) (once_arrived 8) = steps_at worked_policies (small_start 8) arrived_events arrived_answers 7 accepts_one_way (answers.Accept (Some 2)) _ _ refl refl refl in
    record { answer = refl; end = s.end; control = s.control; heard = s.heard; openings = tt; others = s.others; lacking = tt }

stops_it : IsStep worked_policies (once_arrived 8) stops_one_way (answers.Stop (Ok tt)) (once_arrived 9)
unfolding once_arrived
stops_it =
    let s : StepsSo worked_policies (once_arrived 8) stops_one_way (answers.Stop (Ok tt)) (once_arrived 9) = steps_at worked_policies (small_start 8) arrived_events arrived_answers 8 stops_one_way (answers.Stop (Ok tt)) _ _ refl refl refl in
    record { answer = inl refl; end = s.end; control = s.control; heard = s.heard; openings = tt; others = s.others; lacking = λ lacks. cc }

gives_stop : IsStep worked_policies (once_arrived 9) asks_server (gives_bytes 232) (once_arrived 10)
unfolding once_arrived
gives_stop =
    let s : StepsSo worked_policies (once_arrived 9) asks_server (gives_bytes 232) (once_arrived 10) = steps_at worked_policies (small_start 8) arrived_events arrived_answers 9 asks_server (gives_bytes 232) _ _ refl refl refl in
    record { answer = inl refl; end = s.end; control = s.control; heard = s.heard; openings = tt; others = s.others; lacking = tt }

takes_stop : IsStep worked_policies (once_arrived 10) client_hears (answers.Deliver receives.Taken) (once_arrived 11)
unfolding once_arrived
takes_stop =
    let s : StepsSo worked_policies (once_arrived 10) client_hears (answers.Deliver receives.Taken) (once_arrived 11) = steps_at worked_policies (small_start 8) arrived_events arrived_answers 10 client_hears (answers.Deliver receives.Taken) _ _ refl refl refl in
    record { answer = inl refl; end = s.end; control = s.control; heard = s.heard; openings = tt; others = s.others; lacking = tt }

renames : IsStep worked_policies (once_arrived 11) uses_next (answers.UseNextId (Ok tt)) (once_arrived 12)
unfolding once_arrived
renames =
    let s : StepsSo worked_policies (once_arrived 11) uses_next (answers.UseNextId (Ok tt)) (once_arrived 12) = steps_at worked_policies (small_start 8) arrived_events arrived_answers 11 uses_next (answers.UseNextId (Ok tt)) _ _ refl refl refl in
    record { answer = inl refl; end = s.end; control = s.control; heard = s.heard; openings = tt; others = s.others; lacking = λ lacks. cc }

gives_retirement : IsStep worked_policies (once_arrived 12) asks_datagram (gives_unmarked 33) (once_arrived 13)
unfolding once_arrived
gives_retirement =
    let s : StepsSo worked_policies (once_arrived 12) asks_datagram (gives_unmarked 33) (once_arrived 13) = steps_at worked_policies (small_start 8) arrived_events arrived_answers 12 asks_datagram (gives_unmarked 33) _ _ refl refl refl in
    record { answer = inl refl; end = s.end; control = s.control; heard = s.heard; openings = tt; others = s.others; lacking = tt }

takes_retirement : IsStep worked_policies (once_arrived 13) (delivers_at 1) (answers.Deliver receives.Taken) (once_arrived 14)
unfolding once_arrived
takes_retirement =
    let s : StepsSo worked_policies (once_arrived 13) (delivers_at 1) (answers.Deliver receives.Taken) (once_arrived 14) = steps_at worked_policies (small_start 8) arrived_events arrived_answers 13 (delivers_at 1) (answers.Deliver receives.Taken) _ _ refl refl refl in
    record { answer = inl refl; end = s.end; control = s.control; heard = s.heard; openings = tt; others = s.others; lacking = tt }

gives_id : IsStep worked_policies (once_arrived 14) asks_server (gives_unmarked 59) (once_arrived 15)
unfolding once_arrived
gives_id =
    let s : StepsSo worked_policies (once_arrived 14) asks_server (gives_unmarked 59) (once_arrived 15) = steps_at worked_policies (small_start 8) arrived_events arrived_answers 14 asks_server (gives_unmarked 59) _ _ refl refl refl in
    record { answer = inl refl; end = s.end; control = s.control; heard = s.heard; openings = tt; others = s.others; lacking = tt }

takes_id : IsStep worked_policies (once_arrived 15) client_hears_second (answers.Deliver receives.Taken) (once_arrived 16)
unfolding once_arrived
takes_id =
    let s : StepsSo worked_policies (once_arrived 15) client_hears_second (answers.Deliver receives.Taken) (once_arrived 16) = steps_at worked_policies (small_start 8) arrived_events arrived_answers 15 client_hears_second (answers.Deliver receives.Taken) _ _ refl refl refl in
    record { answer = inl refl; end = s.end; control = s.control; heard = s.heard; openings = tt; others = s.others; lacking = tt }

client_due : IsStep worked_policies (once_arrived 16) client_waits (answers.Timeout (Ok tt)) (once_arrived 17)
unfolding once_arrived
client_due =
    let s : StepsSo worked_policies (once_arrived 16) client_waits (answers.Timeout (Ok tt)) (once_arrived 17) = steps_at worked_policies (small_start 8) arrived_events arrived_answers 16 client_waits (answers.Timeout (Ok tt)) _ _ refl refl refl in
    record { answer = inl refl; end = s.end; control = s.control; heard = s.heard; openings = tt; others = s.others; lacking = tt }

client_answers : IsStep worked_policies (once_arrived 17) client_polled (gives_unmarked 32) (once_arrived 18)
unfolding once_arrived
client_answers =
    let s : StepsSo worked_policies (once_arrived 17) client_polled (gives_unmarked 32) (once_arrived 18) = steps_at worked_policies (small_start 8) arrived_events arrived_answers 17 client_polled (gives_unmarked 32) _ _ refl refl refl in
    record { answer = inl refl; end = s.end; control = s.control; heard = s.heard; openings = tt; others = s.others; lacking = tt }

all_taken : IsStep worked_policies (once_arrived 18) third_comes (answers.Deliver receives.Taken) (once_arrived 19)
unfolding once_arrived
all_taken =
    let s : StepsSo worked_policies (once_arrived 18) third_comes (answers.Deliver receives.Taken) (once_arrived 19) = steps_at worked_policies (small_start 8) arrived_events arrived_answers 18 third_comes (answers.Deliver receives.Taken) _ _ refl refl refl in
    record { answer = inl refl; end = s.end; control = s.control; heard = s.heard; openings = tt; others = s.others; lacking = tt }

client_rests : IsStep worked_policies (once_arrived 19) client_polled gives_nothing (once_arrived 20)
unfolding once_arrived
client_rests =
    let s : StepsSo worked_policies (once_arrived 19) client_polled gives_nothing (once_arrived 20) = steps_at worked_policies (small_start 8) arrived_events arrived_answers 19 client_polled gives_nothing _ _ refl refl refl in
    record { answer = inl refl; end = s.end; control = s.control; heard = s.heard; openings = tt; others = s.others; lacking = tt }

server_rests : IsStep worked_policies (once_arrived 20) server_polled gives_nothing (once_arrived 21)
unfolding once_arrived
server_rests =
    let s : StepsSo worked_policies (once_arrived 20) server_polled gives_nothing (once_arrived 21) = steps_at worked_policies (small_start 8) arrived_events arrived_answers 20 server_polled gives_nothing _ _ refl refl refl in
    record { answer = inl refl; end = s.end; control = s.control; heard = s.heard; openings = tt; others = s.others; lacking = tt }

seen_opens_first : unset_view ≡ view_of (once_arrived 1)
unfolding once_arrived
seen_opens_first = refl

seen_writes_first : unset_view ≡ view_of (once_arrived 2)
unfolding once_arrived
seen_writes_first = refl

seen_resets_it : unset_view ≡ view_of (once_arrived 3)
unfolding once_arrived
seen_resets_it = refl

seen_opens_second : unset_view ≡ view_of (once_arrived 4)
unfolding once_arrived
seen_opens_second = refl

seen_writes_second : unset_view ≡ view_of (once_arrived 5)
unfolding once_arrived
seen_writes_second = refl

seen_gives_reset : given_view ≡ view_of (once_arrived 6)
unfolding once_arrived
seen_gives_reset = refl

seen_takes_reset : taken_view ≡ view_of (once_arrived 7)
unfolding once_arrived
seen_takes_reset = refl

seen_accepts_it : taken_view ≡ view_of (once_arrived 8)
unfolding once_arrived
seen_accepts_it = refl

seen_stops_it : taken_view ≡ view_of (once_arrived 9)
unfolding once_arrived
seen_stops_it = refl

seen_gives_stop : both_view ≡ view_of (once_arrived 10)
unfolding once_arrived
seen_gives_stop = refl

seen_takes_stop : told_view ≡ view_of (once_arrived 11)
unfolding once_arrived
seen_takes_stop = refl

seen_renames : told_view ≡ view_of (once_arrived 12)
unfolding once_arrived
seen_renames = refl

seen_gives_retirement : retiring_view ≡ view_of (once_arrived 13)
unfolding once_arrived
seen_gives_retirement = refl

seen_takes_retirement : retired_view ≡ view_of (once_arrived 14)
unfolding once_arrived
seen_takes_retirement = refl

seen_gives_id : issued_view ≡ view_of (once_arrived 15)
unfolding once_arrived
seen_gives_id = refl

seen_takes_id : last_view ≡ view_of (once_arrived 16)
unfolding once_arrived
seen_takes_id = refl

seen_client_due : acked_view ≡ view_of (once_arrived 17)
unfolding once_arrived
seen_client_due = refl

seen_client_answers : acked_view ≡ view_of (once_arrived 18)
unfolding once_arrived
seen_client_answers = refl

seen_all_taken : unset_view ≡ view_of (once_arrived 19)
unfolding once_arrived
seen_all_taken = refl

seen_client_rests : unset_view ≡ view_of (once_arrived 20)
unfolding once_arrived
seen_client_rests = refl

seen_server_rests : unset_view ≡ view_of (once_arrived 21)
unfolding once_arrived
seen_server_rests = refl

follows : Follows arrived_run.keys arrived_run.start arrived_run.events arrived_run.answers arrived_run.views (once_arrived 21)
follows = (once_arrived 1, opens_first, seen_opens_first, (once_arrived 2, writes_first, seen_writes_first, (once_arrived 3, resets_it, seen_resets_it, (once_arrived 4, opens_second, seen_opens_second, (once_arrived 5, writes_second, seen_writes_second, (once_arrived 6, gives_reset, seen_gives_reset, (once_arrived 7, takes_reset, seen_takes_reset, (once_arrived 8, accepts_it, seen_accepts_it, (once_arrived 9, stops_it, seen_stops_it, (once_arrived 10, gives_stop, seen_gives_stop, (once_arrived 11, takes_stop, seen_takes_stop, (once_arrived 12, renames, seen_renames, (once_arrived 13, gives_retirement, seen_gives_retirement, (once_arrived 14, takes_retirement, seen_takes_retirement, (once_arrived 15, gives_id, seen_gives_id, (once_arrived 16, takes_id, seen_takes_id, (once_arrived 17, client_due, seen_client_due, (once_arrived 18, client_answers, seen_client_answers, (once_arrived 19, all_taken, seen_all_taken, (once_arrived 20, client_rests, seen_client_rests, (once_arrived 21, server_rests, seen_server_rests, refl)))))))))))))))))))))

gave_client : arrived_run.from_client ≡ (once_arrived 21).from_client
unfolding once_arrived
gave_client = refl

gave_server : arrived_run.from_server ≡ (once_arrived 21).from_server
unfolding once_arrived
gave_server = refl

codes_are : AllSmall arrived_run.events
codes_are = (tt, (tt, (omega arith, (tt, (tt, (tt, (tt, (tt, (omega arith, (tt, (tt, (tt, (tt, (tt, (tt, (tt, (tt, (tt, (tt, (tt, (tt, tt)))))))))))))))))))))

pub arrived_is_run : IsRun arrived_run (once_arrived 21)
arrived_is_run = record { codes = small_codes arrived_run.events codes_are; follows = follows; from_client = gave_client; from_server = gave_server }

pub arrived_is_honest : IsHonest arrived_run
arrived_is_honest = honest_from (small_start 8) left_started arrived_run (record {
  start = refl;
  keys = refl;
  client = (tt, (inl refl, (inl refl, (tt, (inr (inl refl), (tt, (tt, (tt, (tt, (tt, (tt, (tt, (tt, (tt, (tt, (tt, (tt, (tt, (tt, (tt, (tt, tt)))))))))))))))))))));
  server = (tt, (tt, (tt, (tt, (tt, (tt, (tt, (tt, (inl refl, (tt, (tt, (tt, (tt, (tt, (tt, (tt, (tt, (tt, (tt, (tt, (tt, tt)))))))))))))))))))));
})

-- ---- both ends rest

pub client_at_rest : Rests arrived_run Client 21
client_at_rest = record { front = take 12 (until arrived_run Client 21); now = 25000000; last = refl; view = unset_view; shown = refl; is_open = refl; validated = refl; still = record { no_loss_timer = refl; no_ack_timer = refl; no_pacing_timer = refl } }

pub server_at_rest : Rests arrived_run Server 21
server_at_rest = record { front = take 7 (until arrived_run Server 21); now = 25000000; last = refl; view = unset_view; shown = refl; is_open = refl; validated = refl; still = record { no_loss_timer = refl; no_ack_timer = refl; no_pacing_timer = refl } }

-- what the client sent has come
pub was_reset : reset 0 (until arrived_run Client 21) ≡ Some 7
was_reset = refl

pub three_written : length (written 0 (until arrived_run Client 21)) ≡ 3
three_written = refl

took_all : took arrived_run Server 21 ≡ ack_packet ∷ retiring_packet ∷ reset_packet ∷ []
unfolding once_arrived
took_all = refl

pub reset_has_arrived : ResetArrivedAs (took arrived_run Server 21) 0 7 3
reset_has_arrived = subst (λ (ps : List Packet). ResetArrivedAs ps 0 7 3) (sym took_all) (record { packet = reset_packet; was_taken = inr (inr (inl refl)); frame = record { id = 0; code = 7; final_size = 3 }; carried = inl refl; of_stream = refl; with_code = refl; with_size = refl })

pub tells_stays : (stays : ℕ → Bool) → TellsStays arrived_run Client stays
tells_stays stays = client_tells_stays arrived_run stays

pub first_in_use : (stays : ℕ → Bool) → in_use arrived_run stays Client 21 ≡ 1
unfolding once_arrived
first_in_use stays = refl

pub was_retired : WasRetired (took arrived_run Server 21) 0
was_retired = subst (λ (ps : List Packet). WasRetired ps 0) (sym took_all) (record { packet = retiring_packet; was_taken = inr (inl refl); carried = inl refl })

-- and what the server sent
sent_first : In stop_sent (sents_until arrived_run Server 21)
unfolding once_arrived
sent_first = inl refl

pub one_was_stopped : stopped 2 (until arrived_run Server 21) ≡ true
one_was_stopped = refl

pub stop_has_arrived : was_stopped 2 (took arrived_run Client 21) ≡ true
unfolding once_arrived
stop_has_arrived = refl

pub limit_given : WasGiven (sents_until arrived_run Server 21) (max_data 16)
limit_given = record { sent = stop_sent; among = sent_first; carried = inr (inl refl) }

took_stop : In stop_packet (took arrived_run Client 21)
unfolding once_arrived
took_stop = inr (inl refl)

pub limit_has_arrived : LimitHasArrived (took arrived_run Client 21) AllData 16
limit_has_arrived = record { packet = stop_packet; was_taken = took_stop; limit = 16; carried = inr (inl refl); enough = omega arith }

-- ---- the reset is forgotten

reset_rests : Rests reset_forgotten Client 8
reset_rests = record { front = take 7 (until reset_forgotten Client 8); now = 1024000000; last = refl; view = unset_view; shown = refl; is_open = refl; validated = refl; still = record { no_loss_timer = refl; no_ack_timer = refl; no_pacing_timer = refl } }

pub forgotten_reset : ResetsAtRest reset_forgotten → ⊥
forgotten_reset h = (h Client 8 0 7 refl (small_room 8) reset_rests refl).was_taken

pub reset_is_honest : IsHonest reset_forgotten
reset_is_honest = honest_from (small_start 8) left_started reset_forgotten (record {
  start = refl;
  keys = refl;
  client = (tt, (inl refl, (inl refl, (tt, (inr (inl refl), (tt, (tt, (tt, tt))))))));
  server = (tt, (tt, (tt, (tt, (tt, (tt, (tt, (tt, tt))))))));
})

-- the client once its timer expired
unfoldable reset_expired : World
unfolding once_arrived
reset_expired = ran worked_policies (once_arrived 6) (serves Client 1024000000 ∷ []) (answers.Timeout (Ok tt) ∷ [])

expires_first : IsStep worked_policies (once_arrived 6) (serves Client 1024000000) (answers.Timeout (Ok tt)) reset_expired
unfolding reset_expired
expires_first =
    let s : StepsSo worked_policies (once_arrived 6) (serves Client 1024000000) (answers.Timeout (Ok tt)) reset_expired = steps_so worked_policies (once_arrived 6) (serves Client 1024000000) (answers.Timeout (Ok tt)) refl in
    record { answer = inl refl; end = s.end; control = s.control; heard = s.heard; openings = tt; others = s.others; lacking = tt }

reset_no : IsRefused reset_expired (asks_at Client 1024000000) gives_nothing
unfolding reset_expired
reset_no (inl e) = cc
reset_no (inr e) = cc

pub reset_is_none : IsNoRun reset_forgotten
reset_is_none = behind refl opens_first (behind refl writes_first (behind refl resets_it (behind refl opens_second (behind refl writes_second (behind refl gives_reset (behind refl expires_first (stops _ _ _ _ _ reset_no)))))))

-- ---- the limit is forgotten, and that a stream was stopped

stop_rests : Rests stop_forgotten Server 12
stop_rests = record { front = take 5 (until stop_forgotten Server 12); now = 1024000000; last = refl; view = given_view; shown = refl; is_open = refl; validated = refl; still = record { no_loss_timer = refl; no_ack_timer = refl; no_pacing_timer = refl } }

stop_went : In stop_sent (sents_until stop_forgotten Server 12)
unfolding once_arrived
stop_went = inl refl

pub forgotten_limit : LimitsAtRest stop_forgotten → ⊥
forgotten_limit h = ((h Server 12 16 refl (small_room 8) stop_rests).0 (record { sent = stop_sent; among = stop_went; carried = inr (inl refl) })).was_taken

-- nothing came to the client
none_stopped : was_stopped 2 (took stop_forgotten Client 12) ≡ false
none_stopped = refl

-- nor the size of that stream to the server
took_bytes : took stop_forgotten Server 12 ≡ reset_packet ∷ []
unfolding once_arrived
took_bytes = refl

none_sized : SizeHasCome (reset_packet ∷ []) 2 → ⊥
none_sized (inl end) = go end.1.taken.packet end.1.taken.was_taken end.1.taken.carried
  where
    f : StreamValue
    f = end.1.frame

    among : In (stream f) reset_packet.frames → ⊥
    among (inl e) = cc
    among (inr (inl e)) = cc
    among (inr (inr (inl e))) = cc
    among (inr (inr (inr (inl e)))) = cc
    among (inr (inr (inr (inr (inl e))))) = cc
    among (inr (inr (inr (inr (inr (inl e)))))) = cc
    among (inr (inr (inr (inr (inr (inr (inl e))))))) = cc
    among (inr (inr (inr (inr (inr (inr (inr (inl e)))))))) = cc
    among (inr (inr (inr (inr (inr (inr (inr (inr (inl e))))))))) = (
        let same : f ≡ record { id = 2; offset = 0; fin = false; bytes = hello } = cc in
        both_ways f.fin (ap (λ (g : StreamValue). g.fin) same) end.1.fin)
    among (inr (inr (inr (inr (inr (inr (inr (inr (inr none))))))))) = none

    go : (p : Packet) → In p (reset_packet ∷ []) → In (stream f) p.frames → ⊥
    go p (inl is) i = among (subst (λ (q : Packet). In (stream f) q.frames) is i)
    go p (inr none) i = none
none_sized (inr reset) = go reset.packet reset.was_taken reset.carried
  where
    f : ResetStreamValue
    f = reset.frame

    among : In (reset_stream f) reset_packet.frames → ⊥
    among (inl e) = (
        let same : f ≡ record { id = 0; code = 7; final_size = 3 } = cc in
        let clash : ◌≡◌ {A = ℕ} 2 0 = sym reset.of_stream ∙ ap (λ (g : ResetStreamValue). g.id) same in
        omega (arith, clash))
    among (inr (inl e)) = cc
    among (inr (inr (inl e))) = cc
    among (inr (inr (inr (inl e)))) = cc
    among (inr (inr (inr (inr (inl e))))) = cc
    among (inr (inr (inr (inr (inr (inl e)))))) = cc
    among (inr (inr (inr (inr (inr (inr (inl e))))))) = cc
    among (inr (inr (inr (inr (inr (inr (inr (inl e)))))))) = cc
    among (inr (inr (inr (inr (inr (inr (inr (inr (inl e))))))))) = cc
    among (inr (inr (inr (inr (inr (inr (inr (inr (inr none))))))))) = none

    go : (p : Packet) → In p (reset_packet ∷ []) → In (reset_stream f) p.frames → ⊥
    go p (inl is) i = among (subst (λ (q : Packet). In (reset_stream f) q.frames) is i)
    go p (inr none) i = none

pub forgotten_stop : StopsAtRest stop_forgotten → ⊥
forgotten_stop h = elim (h Server 12 2 refl (small_room 8) stop_rests refl) [
  | inl came ↦ both_ways (was_stopped 2 (took stop_forgotten Client 12)) none_stopped came
  | inr sized ↦ none_sized (subst (λ (ps : List Packet). SizeHasCome ps 2) took_bytes sized)
]

pub stop_is_honest : IsHonest stop_forgotten
stop_is_honest = honest_from (small_start 8) left_started stop_forgotten (record {
  start = refl;
  keys = refl;
  client = (tt, (inl refl, (inl refl, (tt, (inr (inl refl), (tt, (tt, (tt, (tt, (tt, (tt, (tt, tt))))))))))));
  server = (tt, (tt, (tt, (tt, (tt, (tt, (tt, (tt, (inl refl, (tt, (tt, (tt, tt))))))))))));
})

-- the server once its timer expired
unfoldable stop_expired : World
unfolding once_arrived
stop_expired = ran worked_policies (once_arrived 10) (serves Server 1024000000 ∷ []) (answers.Timeout (Ok tt) ∷ [])

expires_next : IsStep worked_policies (once_arrived 10) (serves Server 1024000000) (answers.Timeout (Ok tt)) stop_expired
unfolding stop_expired
expires_next =
    let s : StepsSo worked_policies (once_arrived 10) (serves Server 1024000000) (answers.Timeout (Ok tt)) stop_expired = steps_so worked_policies (once_arrived 10) (serves Server 1024000000) (answers.Timeout (Ok tt)) refl in
    record { answer = inl refl; end = s.end; control = s.control; heard = s.heard; openings = tt; others = s.others; lacking = tt }

stop_no : IsRefused stop_expired (asks_at Server 1024000000) gives_nothing
unfolding stop_expired
stop_no (inl e) = cc
stop_no (inr e) = cc

pub stop_is_none : IsNoRun stop_forgotten
stop_is_none = behind refl opens_first (behind refl writes_first (behind refl resets_it (behind refl opens_second (behind refl writes_second (behind refl gives_reset (behind refl takes_reset (behind refl accepts_it (behind refl stops_it (behind refl gives_stop (behind refl expires_next (stops _ _ _ _ _ stop_no)))))))))))

-- ---- the retirement is forgotten

retirement_rests : Rests retirement_forgotten Client 15
retirement_rests = record { front = take 10 (until retirement_forgotten Client 15); now = 26000000; last = refl; view = all_seen None None (Some 1024000000) None; shown = refl; is_open = refl; validated = refl; still = record { no_loss_timer = refl; no_ack_timer = refl; no_pacing_timer = refl } }

took_first : took retirement_forgotten Server 15 ≡ reset_packet ∷ []
unfolding once_arrived
took_first = refl

used_first : in_use retirement_forgotten (λ n. false) Client 15 ≡ 1
unfolding once_arrived
used_first = refl

none_retired : WasRetired (reset_packet ∷ []) 0 → ⊥
none_retired w = go w.packet w.was_taken w.carried
  where
    among : In (retire_connection_id 0) reset_packet.frames → ⊥
    among (inl e) = cc
    among (inr (inl e)) = cc
    among (inr (inr (inl e))) = cc
    among (inr (inr (inr (inl e)))) = cc
    among (inr (inr (inr (inr (inl e))))) = cc
    among (inr (inr (inr (inr (inr (inl e)))))) = cc
    among (inr (inr (inr (inr (inr (inr (inl e))))))) = cc
    among (inr (inr (inr (inr (inr (inr (inr (inl e)))))))) = cc
    among (inr (inr (inr (inr (inr (inr (inr (inr (inl e))))))))) = cc
    among (inr (inr (inr (inr (inr (inr (inr (inr (inr none))))))))) = none

    go : (p : Packet) → In p (reset_packet ∷ []) → In (retire_connection_id 0) p.frames → ⊥
    go p (inl is) i = among (subst (λ (q : Packet). In (retire_connection_id 0) q.frames) is i)
    go p (inr none) i = none

pub forgotten_retirement : RetirementsAtRest retirement_forgotten → ⊥
forgotten_retirement h = none_retired (subst (λ (ps : List Packet). WasRetired ps 0) took_first
    (h Client (λ n. false) 15 0 (client_tells_stays retirement_forgotten (λ n. false)) refl (small_room 8) retirement_rests (subst (λ (n : ℕ). 0 < n) (sym used_first) (lit< tt))))

pub retirement_is_honest : IsHonest retirement_forgotten
retirement_is_honest = honest_from (small_start 8) left_started retirement_forgotten (record {
  start = refl;
  keys = refl;
  client = (tt, (inl refl, (inl refl, (tt, (inr (inl refl), (tt, (tt, (tt, (tt, (tt, (tt, (tt, (tt, (tt, (tt, tt)))))))))))))));
  server = (tt, (tt, (tt, (tt, (tt, (tt, (tt, (tt, (inl refl, (tt, (tt, (tt, (tt, (tt, (tt, tt)))))))))))))));
})

-- the client once its timer expired
unfoldable retirement_expired : World
unfolding once_arrived
retirement_expired = ran worked_policies (once_arrived 13) (serves Client 26000000 ∷ []) (answers.Timeout (Ok tt) ∷ [])

expires_last : IsStep worked_policies (once_arrived 13) (serves Client 26000000) (answers.Timeout (Ok tt)) retirement_expired
unfolding retirement_expired
expires_last =
    let s : StepsSo worked_policies (once_arrived 13) (serves Client 26000000) (answers.Timeout (Ok tt)) retirement_expired = steps_so worked_policies (once_arrived 13) (serves Client 26000000) (answers.Timeout (Ok tt)) refl in
    record { answer = inl refl; end = s.end; control = s.control; heard = s.heard; openings = tt; others = s.others; lacking = tt }

retirement_no : IsRefused retirement_expired (asks_at Client 26000000) gives_nothing
unfolding retirement_expired
retirement_no (inl e) = cc
retirement_no (inr e) = cc

pub retirement_is_none : IsNoRun retirement_forgotten
retirement_is_none = behind refl opens_first (behind refl writes_first (behind refl resets_it (behind refl opens_second (behind refl writes_second (behind refl gives_reset (behind refl takes_reset (behind refl accepts_it (behind refl stops_it (behind refl gives_stop (behind refl takes_stop (behind refl renames (behind refl gives_retirement (behind refl expires_last (stops _ _ _ _ _ retirement_no))))))))))))))
