-- The run in which the limits that the server said have arrived while both ends rest, event by
-- event; and a machine that rests though they haven't.
use Rattle.std.proofs.Common.{◌≡◌, List, [], ◌∷◌, take, true, false, Some, Ok, refl, inl, inr, sym, ap, subst, lit<, lit≤}
use Rattle.std.proofs.lemmas.Bool.{both_ways}
use Rattle.quic_wire_core.specs.declared.stream_id.Side.{Side}
use Rattle.quic_wire_core.specs.declared.stream_id.Side.TheVariants.{Client, Server}
use Rattle.quic_wire.specs.Value.{StreamValue, ResetStreamValue, stream, reset_stream}
use Rattle.quic_machine.specs.declared.answers.Received.TheVariants as receives
use Rattle.quic_machine.specs.declared.run.ReadCall.{ReadCall}
use Rattle.quic_machine.specs.declared.run.Answer.TheVariants as answers
use Rattle.quic_machine.specs.End.{IsMade}
use Rattle.quic_machine.specs.Start.{AreStarted}
use Rattle.quic_machine.specs.Machine.{IsStep, Follows, view_of}
use Rattle.quic_headline.specs.Runs.{Packet, In, until}
use Rattle.quic_headline.specs.Observer.{took, sents_until}
use Rattle.quic_headline.specs.Headline.{IsHonest, IsRun}
use Rattle.quic_headline.specs.Duties.{StreamData, limit_frame, WasGiven, LimitHasArrived}
use Rattle.quic_headline.specs.Rest.{Rests, HaveRoom}
use Rattle.quic_headline.specs.Undone.{SizeHasCome}
use Rattle.quic_headline.specs.Unread.{stopped}
use Rattle.quic_headline.specs.ControlArrived.{StreamLimitsAtRest}
use Rattle.quic_worked.specs.Worked.{worked_policies, with_server, client_id, server_id, hello, opens_stream, writes_hello, asks_datagram, delivers, accepts_stream, reads_stream, gives_bytes, gives_unmarked}
use Rattle.quic_worked.specs.Settings.{plain_settings}
use Rattle.quic_worked.specs.Broken.{IsNoRun}
use Rattle.quic_worked.specs.Paired.{asks_server, client_hears}
use Rattle.quic_worked.specs.Losses.{client_polled, server_polled}
use Rattle.quic_worked.specs.Timed.{serves, asks_at}
use Rattle.quic_worked.specs.Held.{gives_nothing}
use Rattle.quic_worked.specs.Credit.{eight_bounds, ReadsEight}
use Rattle.quic_worked.specs.Raised.{client_waits, ack_comes}
use Rattle.quic_worked.specs.Limited.{takes_eight, narrow_parameters, hello_nexts}
use Rattle.quic_worked.specs.Rested.{roomy_windows}
use Rattle.quic_worked.specs.Confirmed.{unset_view}
use Rattle.quic_worked.specs.Arrived.{given_view, taken_view, both_view, told_view}
use Rattle.quic_worked.specs.LimitArrived.{word_start, word_events, word_answers, word_views, word_opened, word_written, word_sent, word_taken, word_accepted, word_read, word_given, word_heard, word_due, word_named, word_known, word_rests, word_end, word_expired, known_view, word_packet, limits_packet, limits_sent, word_run, limit_dropped}
use Rattle.quic_worked.proofs.Codes.{no_codes}
use Rattle.quic_worked.proofs.OwnIds.{AreOwn, own_ids}
use Rattle.quic_worked.proofs.BrokenRuns.{IsRefused, stops, behind}
use Rattle.quic_worked.proofs.WorkedKeys.{are_keys}
use Rattle.quic_worked.proofs.WorkedHonest.{in_range, making}
use Rattle.quic_worked.proofs.WorkedRun.{ReadsSo, reads_at, parameters_say}
use Rattle.quic_worked.proofs.LimitedRun.{narrow_say}
use Rattle.quic_worked.proofs.RestedRun.{have_room}
use Rattle.quic_worked.proofs.Steps.{StepsSo, steps_so}

-- ---- the premises

word_started : AreStarted word_start
word_started = record {
  client_making = record (making client_id) { windows = roomy_windows };
  server_making = record (making server_id) { settings = takes_eight; windows = roomy_windows; parameters = narrow_parameters };
  client_is = record { range = in_range; sizes = lit≤ tt; says = parameters_say; id = refl };
  server_is = record { range = record { receive_window = lit< tt; stream_receive_window = lit< tt; bounds = record { bidi = lit≤ tt; uni = lit≤ tt; divides = lit< tt; initial = lit≤ tt; least = lit≤ tt }; search = tt }; sizes = lit≤ tt; says = narrow_say; id = refl };
  client = subst (λ read. IsMade Client plain_settings roomy_windows read client_id server_id 0 0 true (λ n. 63) word_start.client) (sym narrow_say) refl;
  server = subst (λ read. IsMade Server takes_eight roomy_windows read server_id client_id 0 0 true (λ n. 63) word_start.server) (sym parameters_say) refl;
  client_gave = refl;
  server_gave = refl;
  client_heard = refl;
  server_heard = refl;
}

pub word_room : HaveRoom word_start
word_room = record { controlled = record { client = have_room.controlled.client; server = have_room.controlled.server }; client = have_room.client; server = have_room.server }

-- ---- the machine's run

opens : IsStep worked_policies word_start opens_stream (answers.Open (Some 0)) word_opened
opens =
    let s : StepsSo worked_policies word_start opens_stream (answers.Open (Some 0)) word_opened = steps_so worked_policies word_start opens_stream (answers.Open (Some 0)) refl in
    record { answer = refl; end = s.end; control = s.control; heard = s.heard; openings = tt; others = s.others; lacking = tt }

writes : IsStep worked_policies word_opened writes_hello (answers.Write (Ok 5)) word_written
unfolding word_written
writes =
    let s : StepsSo worked_policies word_opened writes_hello (answers.Write (Ok 5)) word_written = steps_so worked_policies word_opened writes_hello (answers.Write (Ok 5)) refl in
    record { answer = inl refl; end = s.end; control = s.control; heard = s.heard; openings = tt; others = s.others; lacking = λ lacks. cc }

gives : IsStep worked_policies word_written asks_datagram (gives_bytes 230) word_sent
unfolding word_sent
gives =
    let s : StepsSo worked_policies word_written asks_datagram (gives_bytes 230) word_sent = steps_so worked_policies word_written asks_datagram (gives_bytes 230) refl in
    record { answer = inl refl; end = s.end; control = s.control; heard = s.heard; openings = tt; others = s.others; lacking = tt }

takes : IsStep worked_policies word_sent delivers (answers.Deliver receives.Taken) word_taken
unfolding word_taken
takes =
    let s : StepsSo worked_policies word_sent delivers (answers.Deliver receives.Taken) word_taken = steps_so worked_policies word_sent delivers (answers.Deliver receives.Taken) refl in
    record { answer = inl refl; end = s.end; control = s.control; heard = s.heard; openings = tt; others = s.others; lacking = tt }

accepts : IsStep worked_policies word_taken accepts_stream (answers.Accept (Some 0)) word_accepted
unfolding word_taken
accepts =
    let s : StepsSo worked_policies word_taken accepts_stream (answers.Accept (Some 0)) word_accepted = steps_so worked_policies word_taken accepts_stream (answers.Accept (Some 0)) refl in
    record { answer = refl; end = s.end; control = s.control; heard = s.heard; openings = tt; others = s.others; lacking = tt }

reads_so : ReadsSo word_accepted 0 true eight_bounds hello_nexts word_read.server
unfolding word_taken
reads_so = record { answer = (refl, (inl refl, tt)); lacking = (λ lacks. cc, tt); end = refl }

reads_only : word_read ≡ with_server word_accepted word_read.server
reads_only = refl

reads : (read : ReadCall) → ReadsEight read → IsStep worked_policies word_accepted (reads_stream read) (answers.Read (Ok hello_nexts)) word_read
reads = reads_at word_accepted word_read 0 true eight_bounds hello_nexts reads_so reads_only

raises : IsStep worked_policies word_read asks_server (gives_bytes 232) word_given
unfolding word_given
raises =
    let s : StepsSo worked_policies word_read asks_server (gives_bytes 232) word_given = steps_so worked_policies word_read asks_server (gives_bytes 232) refl in
    record { answer = inl refl; end = s.end; control = s.control; heard = s.heard; openings = tt; others = s.others; lacking = tt }

hears : IsStep worked_policies word_given client_hears (answers.Deliver receives.Taken) word_heard
unfolding word_heard
hears =
    let s : StepsSo worked_policies word_given client_hears (answers.Deliver receives.Taken) word_heard = steps_so worked_policies word_given client_hears (answers.Deliver receives.Taken) refl in
    record { answer = inl refl; end = s.end; control = s.control; heard = s.heard; openings = tt; others = s.others; lacking = tt }

waits : IsStep worked_policies word_heard client_waits (answers.Timeout (Ok tt)) word_due
unfolding word_due
waits =
    let s : StepsSo worked_policies word_heard client_waits (answers.Timeout (Ok tt)) word_due = steps_so worked_policies word_heard client_waits (answers.Timeout (Ok tt)) refl in
    record { answer = inl refl; end = s.end; control = s.control; heard = s.heard; openings = tt; others = s.others; lacking = tt }

names : IsStep worked_policies word_due client_polled (gives_unmarked 32) word_named
unfolding word_named
names =
    let s : StepsSo worked_policies word_due client_polled (gives_unmarked 32) word_named = steps_so worked_policies word_due client_polled (gives_unmarked 32) refl in
    record { answer = inl refl; end = s.end; control = s.control; heard = s.heard; openings = tt; others = s.others; lacking = tt }

knows : IsStep worked_policies word_named ack_comes (answers.Deliver receives.Taken) word_known
unfolding word_known
knows =
    let s : StepsSo worked_policies word_named ack_comes (answers.Deliver receives.Taken) word_known = steps_so worked_policies word_named ack_comes (answers.Deliver receives.Taken) refl in
    record { answer = inl refl; end = s.end; control = s.control; heard = s.heard; openings = tt; others = s.others; lacking = tt }

client_rests : IsStep worked_policies word_known client_polled gives_nothing word_rests
unfolding word_rests
client_rests =
    let s : StepsSo worked_policies word_known client_polled gives_nothing word_rests = steps_so worked_policies word_known client_polled gives_nothing refl in
    record { answer = inl refl; end = s.end; control = s.control; heard = s.heard; openings = tt; others = s.others; lacking = tt }

server_rests : IsStep worked_policies word_rests server_polled gives_nothing word_end
unfolding word_end
server_rests =
    let s : StepsSo worked_policies word_rests server_polled gives_nothing word_end = steps_so worked_policies word_rests server_polled gives_nothing refl in
    record { answer = inl refl; end = s.end; control = s.control; heard = s.heard; openings = tt; others = s.others; lacking = tt }

seen_opens : unset_view ≡ view_of word_opened
seen_opens = refl

seen_writes : unset_view ≡ view_of word_written
unfolding word_written
seen_writes = refl

seen_gives : given_view ≡ view_of word_sent
unfolding word_sent
seen_gives = refl

seen_takes : taken_view ≡ view_of word_taken
unfolding word_taken
seen_takes = refl

seen_accepts : taken_view ≡ view_of word_accepted
unfolding word_taken
seen_accepts = refl

seen_reads : taken_view ≡ view_of word_read
unfolding word_taken
seen_reads = refl

seen_raises : both_view ≡ view_of word_given
unfolding word_given
seen_raises = refl

seen_hears : told_view ≡ view_of word_heard
unfolding word_heard
seen_hears = refl

seen_waits : known_view ≡ view_of word_due
unfolding word_due
seen_waits = refl

seen_names : known_view ≡ view_of word_named
unfolding word_named
seen_names = refl

seen_knows : unset_view ≡ view_of word_known
unfolding word_known
seen_knows = refl

seen_client_rests : unset_view ≡ view_of word_rests
unfolding word_rests
seen_client_rests = refl

seen_server_rests : unset_view ≡ view_of word_end
unfolding word_end
seen_server_rests = refl

follows : (read : ReadCall) → ReadsEight read → Follows worked_policies word_start (word_events read) word_answers word_views word_end
follows read by = (word_opened, opens, seen_opens, (word_written, writes, seen_writes, (word_sent, gives, seen_gives, (word_taken, takes, seen_takes, (word_accepted, accepts, seen_accepts, (word_read, reads read by, seen_reads, (word_given, raises, seen_raises, (word_heard, hears, seen_hears, (word_due, waits, seen_waits, (word_named, names, seen_names, (word_known, knows, seen_knows, (word_rests, client_rests, seen_client_rests, (word_end, server_rests, seen_server_rests, refl)))))))))))))

gave_client : (read : ReadCall) → (word_run read).from_client ≡ word_end.from_client
unfolding word_end
gave_client read = refl

gave_server : (read : ReadCall) → (word_run read).from_server ≡ word_end.from_server
unfolding word_end
gave_server read = refl

pub word_is_run : (read : ReadCall) → ReadsEight read → IsRun (word_run read) word_end
word_is_run read by = record { codes = no_codes (word_events read) refl; follows = follows read by; from_client = gave_client read; from_server = gave_server read }

-- the stream that is read was accepted
read_own : (read : ReadCall) → ReadsEight read → In read.id (0 ∷ [])
read_own read by = inl by.id

word_own : (read : ReadCall) → ReadsEight read → (side : Side) → AreOwn side [] (word_run read).events (word_run read).answers (word_run read).views
word_own read by Client = (tt, (inl refl, (tt, (tt, (tt, (tt, (tt, (tt, (tt, (tt, (tt, (tt, (tt, tt)))))))))))))
word_own read by Server = (tt, (tt, (tt, (tt, (tt, (read_own read by, (tt, (tt, (tt, (tt, (tt, (tt, (tt, tt)))))))))))))

pub word_is_honest : (read : ReadCall) → ReadsEight read → IsHonest (word_run read)
word_is_honest read by = record { start = word_started; keys = are_keys; ids = own_ids (word_run read) (word_own read by) }

-- ---- both ends rest

pub server_at_rest : (read : ReadCall) → Rests (word_run read) Server 13
server_at_rest read = record { front = take 5 (until (word_run read) Server 13); now = 25000000; last = refl; view = unset_view; shown = refl; is_open = refl; validated = refl; still = record { no_loss_timer = refl; no_ack_timer = refl; no_pacing_timer = refl } }

limits_went : (read : ReadCall) → In limits_sent (sents_until (word_run read) Server 13)
unfolding word_end
limits_went read = inl refl

pub limit_given : (read : ReadCall) → WasGiven (sents_until (word_run read) Server 13) (limit_frame (StreamData 0) 10)
limit_given read = record { sent = limits_sent; among = limits_went read; carried = inr (inl refl) }

limits_came : (read : ReadCall) → In limits_packet (took (word_run read) Client 13)
unfolding word_end
limits_came read = inl refl

pub limit_has_arrived : (read : ReadCall) → LimitHasArrived (took (word_run read) Client 13) (StreamData 0) 10
limit_has_arrived read = record { packet = limits_packet; was_taken = limits_came read; limit = 10; carried = inr (inl refl); enough = lit≤ tt }

-- ---- the limit is forgotten

dropped_rests : (read : ReadCall) → Rests (limit_dropped read) Server 9
dropped_rests read = record { front = take 5 (until (limit_dropped read) Server 9); now = 1024000000; last = refl; view = given_view; shown = refl; is_open = refl; validated = refl; still = record { no_loss_timer = refl; no_ack_timer = refl; no_pacing_timer = refl } }

dropped_went : (read : ReadCall) → In limits_sent (sents_until (limit_dropped read) Server 9)
unfolding word_end
dropped_went read = inl refl

dropped_took : (read : ReadCall) → took (limit_dropped read) Server 9 ≡ word_packet ∷ []
unfolding word_end
dropped_took read = refl

dropped_unstopped : (read : ReadCall) → stopped 0 (until (limit_dropped read) Server 9) ≡ false
dropped_unstopped read = refl

-- the size of the stream didn't come
none_sized : SizeHasCome (word_packet ∷ []) 0 → ⊥
none_sized (inl end) = go end.1.taken.packet end.1.taken.was_taken end.1.taken.carried
  where
    f : StreamValue
    f = end.1.frame

    among : In (stream f) word_packet.frames → ⊥
    among (inl e) = cc
    among (inr (inl e)) = cc
    among (inr (inr (inl e))) = cc
    among (inr (inr (inr (inl e)))) = cc
    among (inr (inr (inr (inr (inl e))))) = cc
    among (inr (inr (inr (inr (inr (inl e)))))) = cc
    among (inr (inr (inr (inr (inr (inr (inl e))))))) = cc
    among (inr (inr (inr (inr (inr (inr (inr (inl e)))))))) = (
        let same : f ≡ record { id = 0; offset = 0; fin = false; bytes = hello } = cc in
        both_ways f.fin (ap (λ (g : StreamValue). g.fin) same) end.1.fin)
    among (inr (inr (inr (inr (inr (inr (inr (inr none)))))))) = none

    go : (p : Packet) → In p (word_packet ∷ []) → In (stream f) p.frames → ⊥
    go p (inl is) i = among (subst (λ (q : Packet). In (stream f) q.frames) is i)
    go p (inr none) i = none
none_sized (inr reset) = go reset.packet reset.was_taken reset.carried
  where
    f : ResetStreamValue
    f = reset.frame

    among : In (reset_stream f) word_packet.frames → ⊥
    among (inl e) = cc
    among (inr (inl e)) = cc
    among (inr (inr (inl e))) = cc
    among (inr (inr (inr (inl e)))) = cc
    among (inr (inr (inr (inr (inl e))))) = cc
    among (inr (inr (inr (inr (inr (inl e)))))) = cc
    among (inr (inr (inr (inr (inr (inr (inl e))))))) = cc
    among (inr (inr (inr (inr (inr (inr (inr (inl e)))))))) = cc
    among (inr (inr (inr (inr (inr (inr (inr (inr none)))))))) = none

    go : (p : Packet) → In p (word_packet ∷ []) → In (reset_stream f) p.frames → ⊥
    go p (inl is) i = among (subst (λ (q : Packet). In (reset_stream f) q.frames) is i)
    go p (inr none) i = none

pub dropped_shows : (read : ReadCall) → StreamLimitsAtRest (limit_dropped read) → ⊥
dropped_shows read h = elim (h Server 9 0 10 refl word_room (dropped_rests read) (record { sent = limits_sent; among = dropped_went read; carried = inr (inl refl) })) [
  | inl came ↦ came.was_taken
  | inr (inl sized) ↦ none_sized (subst (λ (ps : List Packet). SizeHasCome ps 0) (dropped_took read) sized)
  | inr (inr halted) ↦ both_ways (stopped 0 (until (limit_dropped read) Server 9)) (dropped_unstopped read) halted
]

dropped_own : (read : ReadCall) → ReadsEight read → (side : Side) → AreOwn side [] (limit_dropped read).events (limit_dropped read).answers (limit_dropped read).views
dropped_own read by Client = (tt, (inl refl, (tt, (tt, (tt, (tt, (tt, (tt, (tt, tt)))))))))
dropped_own read by Server = (tt, (tt, (tt, (tt, (tt, (read_own read by, (tt, (tt, (tt, tt)))))))))

pub dropped_is_honest : (read : ReadCall) → ReadsEight read → IsHonest (limit_dropped read)
dropped_is_honest read by = record { start = word_started; keys = are_keys; ids = own_ids (limit_dropped read) (dropped_own read by) }

expires : IsStep worked_policies word_given (serves Server 1024000000) (answers.Timeout (Ok tt)) word_expired
unfolding word_expired
expires =
    let s : StepsSo worked_policies word_given (serves Server 1024000000) (answers.Timeout (Ok tt)) word_expired = steps_so worked_policies word_given (serves Server 1024000000) (answers.Timeout (Ok tt)) refl in
    record { answer = inl refl; end = s.end; control = s.control; heard = s.heard; openings = tt; others = s.others; lacking = tt }

dropped_no : IsRefused word_expired (asks_at Server 1024000000) gives_nothing
unfolding word_expired
dropped_no (inl e) = cc
dropped_no (inr e) = cc

pub dropped_is_none : (read : ReadCall) → ReadsEight read → IsNoRun (limit_dropped read)
dropped_is_none read by = behind refl opens (behind refl writes (behind refl gives (behind refl takes (behind refl accepts (behind refl (reads read by) (behind refl raises (behind refl expires (stops _ _ _ _ _ dropped_no))))))))
