-- Machines with a fault: the clause that is false of the run of each, that it meets the premises,
-- and that the reference machine makes another.
use Rattle.std.proofs.Common.{◌≡◌, ℕ, List, [], ◌∷◌, Some, None, Result, Ok, Err, true, false, refl, inl, inr, ap, sym, ◌∙◌, subst, arith, lit<, lit≤}
use Rattle.quic_wire_core.specs.TransportError.{plain_error}
use Rattle.quic_wire_core.specs.declared.stream_id.Side.{Side}
use Rattle.quic_wire_core.specs.declared.stream_id.Side.TheVariants.{Client, Server}
use Rattle.quic_wire_core.specs.declared.stream_id.Dir.TheVariants.{Uni}
use Rattle.quic_wire.specs.Value.{StreamValue, stream}
use Rattle.quic_parameters.specs.ParametersRead.{parameters_at, judged, values_met, met_in, met_within, met_after, whole_at, entry_at}
use Rattle.quic_packet.specs.Datagram.{Opening}
use Rattle.quic_config.specs.Transport.{parameters_of}
use Rattle.quic_worked.specs.Settings.{plain_settings}
use Rattle.quic_streams_parts.specs.declared.answers.WriteError.{WriteError}
use Rattle.quic_streams_parts.specs.declared.answers.WriteError.TheVariants as write_errors
use Rattle.quic_machine.specs.declared.answers.State.TheVariants as states
use Rattle.quic_machine.specs.declared.answers.LostReason.TheVariants as reasons
use Rattle.quic_machine.specs.declared.answers.Received.TheVariants as receives
use Rattle.quic_machine.specs.declared.answers.DropReason.TheVariants as drops
use Rattle.quic_machine.specs.declared.run.Call.TheVariants as calls
use Rattle.quic_machine.specs.declared.run.Answer.{Answer}
use Rattle.quic_machine.specs.declared.run.Answer.TheVariants as answers
use Rattle.quic_machine.specs.declared.run.ReadCall.{ReadCall}
use Rattle.quic_machine.specs.End.{IsMade}
use Rattle.quic_machine.specs.Start.{AreStarted}
use Rattle.quic_machine.specs.Machine.{IsStep, Follows, view_of}
use Rattle.quic_headline.specs.Runs.{Packet, Told, In, until, accepts, WasNamed}
use Rattle.quic_headline.specs.Observer.{took}
use Rattle.quic_headline.specs.Amounts.{taken_of, left_for, WritesTakeWhatLimitsAllow}
use Rattle.quic_headline.specs.Causes.{Shows, NoBlame, PacketCame, stream_window_at, IsTakenOrCrowded, TakenOrTooMany}
use Rattle.quic_headline.specs.Headline.{AcceptsAll, IsHonest, IsRun}
use Rattle.quic_worked.specs.Exchange.{with_uni}
use Rattle.quic_worked.specs.Worked.{steady, worked_policies, worked_parameters, client_id, server_id, ReadsBy, two_chunks, started, once_opened, once_written, once_ended, once_sent, once_taken, once_accepted, once_read, at_server, hello, hello_datagram, hello_opening, writes_hello, asks_datagram, delivery, delivers, accepts_stream, gives_bytes, sent_view, run_with, once_again, behind_ids, server_waiting, told_ids}
use Rattle.quic_worked.specs.Acknowledged.{client_datagram}
use Rattle.quic_worked.specs.Broken.{IsNoRun, duplicate, injects}
use Rattle.quic_worked.specs.Machines.{all_dropped}
use Rattle.quic_worked.specs.Reordered.{abc, abc_datagram, def_datagram, delivers_at, second_taken as second_world}
use Rattle.quic_worked.specs.Paired.{writes_on}
use Rattle.quic_worked.specs.Credit.{opens_one_way, accepts_one_way}
use Rattle.quic_worked.specs.Limited.{limited_start, limited_opened, sixteen}
use Rattle.quic_worked.specs.Closed.{closed_view}
use Rattle.quic_worked.specs.Faults.{own_payload, own_limits, ever_blocked, one_way_parameters, one_back, one_way_opened, one_way_written, one_way_sent, one_way_taken, opened_instead, accepted_run, nothing_to_accept, below_dropped, spoilt_datagram, noted_early, once_spoilt}
use Rattle.quic_worked.proofs.WorkedRun as worked
use Rattle.quic_worked.proofs.WorkedRun.{parameters_say, hello_packet, opens as opens_first}
use Rattle.quic_worked.proofs.BrokenClauses.{hello_named}
use Rattle.quic_worked.proofs.Codes.{no_codes}
use Rattle.quic_worked.proofs.WorkedKeys.{are_keys}
use Rattle.quic_worked.proofs.WorkedHonest.{are_started}
use Rattle.quic_worked.proofs.OwnIds.{AreOwn, own_ids, honest}
use Rattle.quic_worked.proofs.BrokenRuns.{IsRefused, stops, behind, behind_sent}
use Rattle.quic_worked.proofs.LimitedRun.{limited_started, opens as opens_limited}
use Rattle.quic_worked.proofs.ReorderedRun as reordered
use Rattle.quic_worked.proofs.ReorderedRun.{writes_abc, gives_abc, writes_def, gives_def, takes_def}
use Rattle.quic_worked.proofs.Steps.{StepsSo, counts_so, steps_so}

-- ---- limits that are the end's own

lack : (n : ℕ) → ◌≡◌ {A = Result ℕ WriteError} (Ok n) (Err write_errors.Memory) → ⊥
lack n e = cc

-- five may be taken
five_left : taken_of (left_for own_limits limited_started Client 1 0) 16 ≡ Ok 5
unfolding limited_started
five_left = refl

not_seven : Ok 7 ≡ taken_of (left_for own_limits limited_started Client 1 0) 16 → ⊥
not_seven more = let clash : ◌≡◌ {A = Result ℕ WriteError} (Ok 7) (Ok 5) = more ∙ five_left in cc

pub own_writes : WritesTakeWhatLimitsAllow own_limits → ⊥
own_writes h = elim (h limited_started Client 1 0 16 (writes_on 0 sixteen).call (answers.Write (Ok 7)) refl (record { event = refl; answer = refl }) (refl, refl) refl (record { sends = refl; unended = refl; kept = refl; goes = refl })) [ inl lacks ↦ lack 7 lacks | inr more ↦ not_seven more ]

own_shows : Shows own_limits Server 3 (Some (reasons.Transport (plain_error 3)))
own_shows = record { served = refl; view = record { client = sent_view; server = closed_view (reasons.Transport (plain_error 3)) }; there = refl; is = refl }

pub own_blames : NoBlame own_limits → ⊥
own_blames h = h Server 3 (Some (reasons.Transport (plain_error 3))) own_shows

-- the server does close
pub own_closes : at_server limited_start.server (client_datagram 0 0 (told_ids own_payload)) ≡ receives.Closed (plain_error 3)
unfolding once_taken
own_closes = refl

own_own : (side : Side) → AreOwn side [] own_limits.events own_limits.answers own_limits.views
own_own Client = (tt, (inl refl, (tt, (tt, tt))))
own_own Server = (tt, (tt, (tt, (tt, tt))))

pub own_is_honest : IsHonest own_limits
own_is_honest = record { start = limited_started; keys = are_keys; ids = own_ids own_limits own_own }

seven_no : IsRefused limited_opened (writes_on 0 sixteen) (answers.Write (Ok 7))
seven_no (inl e) = cc
seven_no (inr e) = cc

pub own_is_none : IsNoRun own_limits
own_is_none = behind refl opens_limited (stops _ _ _ _ _ seven_no)

-- ---- writes that are blocked

all_five : taken_of (left_for ever_blocked are_started Client 1 0) 5 ≡ Ok 5
unfolding are_started
all_five = refl

not_blocked : Err write_errors.Blocked ≡ taken_of (left_for ever_blocked are_started Client 1 0) 5 → ⊥
not_blocked none = let clash : ◌≡◌ {A = Result ℕ WriteError} (Err write_errors.Blocked) (Ok 5) = none ∙ all_five in cc

no_memory : ◌≡◌ {A = Result ℕ WriteError} (Err write_errors.Blocked) (Err write_errors.Memory) → ⊥
no_memory e = cc

pub blocked_writes : WritesTakeWhatLimitsAllow ever_blocked → ⊥
blocked_writes h = elim (h are_started Client 1 0 5 writes_hello.call (answers.Write (Err write_errors.Blocked)) refl (record { event = refl; answer = refl }) (refl, refl) refl (record { sends = refl; unended = refl; kept = refl; goes = refl })) [ inl lacks ↦ no_memory lacks | inr none ↦ not_blocked none ]

blocked_no : IsRefused once_opened writes_hello (answers.Write (Err write_errors.Blocked))
blocked_no (inl e) = cc
blocked_no (inr e) = cc

pub blocked_is_none : IsNoRun ever_blocked
blocked_is_none = behind refl opens_first (stops _ _ _ _ _ blocked_no)

pub blocked_is_honest : IsHonest ever_blocked
blocked_is_honest = honest ever_blocked (record { start = refl; keys = refl; client = (tt, (inl refl, tt)); server = (tt, (tt, tt)) })

-- ---- a stream that is opened where one is to be accepted

one_way_say : parameters_at one_way_parameters ≡ Ok (parameters_of (with_uni 1))
unfolding parameters_at judged values_met met_in met_within met_after whole_at entry_at
one_way_say = refl

one_back_started : AreStarted one_back
one_back_started = record {
  client_making = record { settings = with_uni 1; windows = steady; parameters = one_way_parameters; id = client_id; remote = 0; moment = 0; validated = true; words = λ n. 63 };
  server_making = record { settings = plain_settings; windows = steady; parameters = worked_parameters; id = server_id; remote = 0; moment = 0; validated = true; words = λ n. 63 };
  client_is = record { range = record { receive_window = lit< tt; stream_receive_window = lit< tt; bounds = record { bidi = lit≤ tt; uni = lit≤ tt; divides = lit< tt; initial = lit≤ tt; least = lit≤ tt }; search = tt }; sizes = lit≤ tt; says = one_way_say; id = refl };
  server_is = record { range = record { receive_window = lit< tt; stream_receive_window = lit< tt; bounds = record { bidi = lit≤ tt; uni = lit≤ tt; divides = lit< tt; initial = lit≤ tt; least = lit≤ tt }; search = tt }; sizes = lit≤ tt; says = parameters_say; id = refl };
  client = subst (λ read. IsMade Client (with_uni 1) steady read client_id server_id 0 0 true (λ n. 63) one_back.client) (sym parameters_say) refl;
  server = subst (λ read. IsMade Server plain_settings steady read server_id client_id 0 0 true (λ n. 63) one_back.server) (sym one_way_say) refl;
  client_gave = refl;
  server_gave = refl;
  client_heard = refl;
  server_heard = refl;
}

opens_way : IsStep worked_policies one_back opens_one_way (answers.Open (Some 2)) one_way_opened
opens_way =
    let s : StepsSo worked_policies one_back opens_one_way (answers.Open (Some 2)) one_way_opened = steps_so worked_policies one_back opens_one_way (answers.Open (Some 2)) refl in
    record { answer = refl; end = s.end; control = s.control; heard = s.heard; openings = tt; others = s.others; lacking = tt }

writes_way : IsStep worked_policies one_way_opened (writes_on 2 hello) (answers.Write (Ok 5)) one_way_written
writes_way =
    let s : StepsSo worked_policies one_way_opened (writes_on 2 hello) (answers.Write (Ok 5)) one_way_written = steps_so worked_policies one_way_opened (writes_on 2 hello) (answers.Write (Ok 5)) refl in
    record { answer = inl refl; end = s.end; control = s.control; heard = s.heard; openings = tt; others = s.others; lacking = λ lacks. cc }

gives_way : IsStep worked_policies one_way_written asks_datagram (gives_bytes 230) one_way_sent
unfolding one_way_sent
gives_way =
    let s : StepsSo worked_policies one_way_written asks_datagram (gives_bytes 230) one_way_sent = steps_so worked_policies one_way_written asks_datagram (gives_bytes 230) refl in
    record { answer = inl refl; end = s.end; control = s.control; heard = s.heard; openings = tt; others = s.others; lacking = tt }

takes_way : IsStep worked_policies one_way_sent delivers (answers.Deliver receives.Taken) one_way_taken
unfolding one_way_taken
takes_way =
    let s : StepsSo worked_policies one_way_sent delivers (answers.Deliver receives.Taken) one_way_taken = steps_so worked_policies one_way_sent delivers (answers.Deliver receives.Taken) refl in
    record { answer = inl refl; end = s.end; control = s.control; heard = s.heard; openings = tt; others = s.others; lacking = tt }

-- the stream that an answer accepts
abbrev accepted_in : Answer → ℕ
accepted_in (answers.Accept (Some id)) = id
accepted_in a = 0

instead_no : IsRefused one_way_taken accepts_one_way (answers.Accept (Some 3))
unfolding one_way_taken
instead_no is = let clash : ◌≡◌ {A = ℕ} 3 2 = ap accepted_in is in omega (arith, clash)

pub instead_is_none : IsNoRun opened_instead
instead_is_none = behind refl opens_way (behind refl writes_way (behind refl gives_way (behind refl takes_way (stops _ _ _ _ _ instead_no))))

-- the frame that came, which opens stream 2
abbrev way_frame : StreamValue
way_frame = record { id = 2; offset = 0; fin = false; bytes = hello }

abbrev way_packet : Packet
way_packet = record { number = 0; frames = behind_ids (stream way_frame ∷ []) }

way_took : took opened_instead Server 5 ≡ way_packet ∷ []
unfolding once_taken
way_took = refl

way_named : WasNamed (way_packet ∷ []) 2
way_named = record { packet = way_packet; was_taken = inl refl; frame = stream way_frame; carried = inr (inr (inr (inr (inr (inr (inr (inl refl))))))); opens = refl }

two_in : In {X = ℕ} 2 (3 ∷ []) → ⊥
two_in (inl e) = omega (arith, e)
two_in (inr i) = i

pub instead_accepts : AcceptsAll opened_instead → ⊥
instead_accepts h = two_in (h Server 5 Uni 0 0 refl (record { event = refl; answer = refl }) (subst (λ (ps : List Packet). WasNamed ps 2) (sym way_took) way_named) (omega arith))

instead_own : (side : Side) → AreOwn side [] opened_instead.events opened_instead.answers opened_instead.views
instead_own Client = (tt, (inl refl, (tt, (tt, (tt, (tt, tt))))))
instead_own Server = (tt, (tt, (tt, (tt, (tt, (tt, tt))))))

pub instead_is_honest : IsHonest opened_instead
instead_is_honest = record { start = one_back_started; keys = are_keys; ids = own_ids opened_instead instead_own }

-- ---- a stream that was accepted

accepts_none : IsStep worked_policies once_read accepts_stream (answers.Accept None) nothing_to_accept
unfolding once_taken
accepts_none =
    let s : StepsSo worked_policies once_read accepts_stream (answers.Accept None) nothing_to_accept = steps_so worked_policies once_read accepts_stream (answers.Accept None) refl in
    record { answer = refl; end = s.end; control = s.control; heard = s.heard; openings = tt; others = s.others; lacking = tt }

none_seen : record { client = sent_view; server = server_waiting } ≡ view_of nothing_to_accept
unfolding once_taken
none_seen = refl

gave_hello : hello_datagram ∷ [] ≡ nothing_to_accept.from_client
unfolding once_taken
gave_hello = refl

gave_none : [] ≡ nothing_to_accept.from_server
unfolding once_taken
gave_none = refl

accepted_follows : (read : ReadCall) → ReadsBy two_chunks read → Follows worked_policies started (accepted_run read).events (accepted_run read).answers (accepted_run read).views nothing_to_accept
accepted_follows read by = (
  once_opened,
  opens_first,
  refl,
  (
    once_written,
    worked.writes,
    refl,
    (
      once_ended,
      worked.finishes,
      refl,
      (
        once_sent,
        worked.gives,
        worked.sent_seen,
        (
          once_taken,
          worked.takes,
          worked.taken_seen,
          (
            once_again,
            worked.drops_duplicate,
            worked.taken_seen,
            (once_accepted, worked.accepts, worked.accepted_seen, (once_read, worked.reads read by, worked.read_seen, (nothing_to_accept, accepts_none, none_seen, refl))),
          ),
        ),
      ),
    ),
  ),
)

pub accepted_is_run : (read : ReadCall) → ReadsBy two_chunks read → IsRun (accepted_run read) nothing_to_accept
accepted_is_run read by = record { codes = no_codes (accepted_run read).events refl; follows = accepted_follows read by; from_client = gave_hello; from_server = gave_none }

pub accepted_is_honest : (read : ReadCall) → read.id ≡ 0 → IsHonest (accepted_run read)
accepted_is_honest read e = honest (accepted_run read) (record { start = refl; keys = refl; client = (tt, (inl refl, (inl refl, (tt, (tt, (tt, (tt, (tt, (tt, tt))))))))); server = (tt, (tt, (tt, (tt, (tt, (tt, (tt, (inl e, (tt, tt))))))))) })

accepted_took : (read : ReadCall) → took (accepted_run read) Server 8 ≡ hello_packet ∷ []
unfolding once_taken
accepted_took read = refl

pub accepted_is_named : (read : ReadCall) → WasNamed (took (accepted_run read) Server 8) 0
accepted_is_named read = subst (λ (ps : List Packet). WasNamed ps 0) (sym (accepted_took read)) hello_named

pub is_accepted : (read : ReadCall) → In 0 (accepts (until (accepted_run read) Server 8))
is_accepted read = inl refl

-- ---- packets that are dropped

-- whether a delivery was answered by a drop
abbrev is_drop : Answer → ℕ
is_drop (answers.Deliver (receives.Dropped reason)) = 1
is_drop a = 0

-- what the client's datagrams come to at the server
abbrev CameTo : List (List ℕ) → List Told → Type 0
CameTo given told = PacketCame worked_policies.server given told

-- a packet that is dropped was neither taken nor crowded
not_dropped : (window : ℕ) (given : List (List ℕ)) (told : List Told) (c : CameTo given told) → is_drop c.call.answer ≡ 1 → IsTakenOrCrowded worked_policies.server window given told c → ⊥
not_dropped window given told c drop (inl taken) = let clash : ◌≡◌ {A = ℕ} 1 0 = sym drop ∙ ap is_drop taken in omega (arith, clash)
not_dropped window given told c drop (inr crowded) = let clash : ◌≡◌ {A = ℕ} 1 0 = sym drop ∙ ap is_drop crowded.0 in omega (arith, clash)

-- the first delivery of the worked run, which none of these packets opens to
abbrev hello_dropped : Told
hello_dropped = record { call = calls.Deliver delivery; answer = answers.Deliver (receives.Dropped drops.NotOpened); state = states.Open }

abbrev never_opened : (read : ReadCall) → CameTo (hello_datagram ∷ []) (until (run_with read all_dropped) Server 5)
never_opened read = record {
  before = [];
  call = hello_dropped;
  behind = [];
  split = refl;
  was_open = refl;
  datagram = hello_datagram;
  handed_in = refl;
  opening = hello_opening;
  opened = refl;
  new = refl;
}

pub never_opened_takes : (read : ReadCall) → TakenOrTooMany (run_with read all_dropped) → ⊥
never_opened_takes read h = not_dropped (stream_window_at (run_with read all_dropped) Server) (hello_datagram ∷ []) (until (run_with read all_dropped) Server 5) (never_opened read) refl (h Server 5 refl (never_opened read))

-- the second datagram, which comes first, and what the first one opens to behind it
abbrev second_taken : Told
second_taken = record { call = (delivers_at 1).call; answer = answers.Deliver receives.Taken; state = states.Open }

abbrev first_dropped : Told
first_dropped = record { call = (delivers_at 0).call; answer = answers.Deliver duplicate; state = states.Open }

abbrev abc_opening : Opening
abc_opening = record { first = 0x40; number = 0; payload = told_ids (0x0a ∷ 0x00 ∷ 0x03 ∷ abc) }

abbrev pub below_came : CameTo (abc_datagram ∷ def_datagram ∷ []) (until below_dropped Server 7)
below_came = record {
  before = second_taken ∷ [];
  call = first_dropped;
  behind = [];
  split = refl;
  was_open = refl;
  datagram = abc_datagram;
  handed_in = refl;
  opening = abc_opening;
  opened = refl;
  new = refl;
}

pub below_takes : TakenOrTooMany below_dropped → ⊥
below_takes h = not_dropped (stream_window_at below_dropped Server) (abc_datagram ∷ def_datagram ∷ []) (until below_dropped Server 7) below_came refl (h Server 7 refl below_came)

below_no : IsRefused second_world (delivers_at 0) (answers.Deliver duplicate)
unfolding second_world
below_no (inl e) = cc
below_no (inr e) = cc

pub below_is_none : IsNoRun below_dropped
below_is_none = behind refl reordered.opens (behind refl writes_abc (behind refl gives_abc (behind refl writes_def (behind refl gives_def (behind refl takes_def (stops _ _ _ _ _ below_no))))))

pub below_is_honest : IsHonest below_dropped
below_is_honest = honest below_dropped (record { start = refl; keys = refl; client = (tt, (inl refl, (tt, (inl refl, (tt, (tt, (tt, tt))))))); server = (tt, (tt, (tt, (tt, (tt, (tt, (tt, tt))))))) })

-- the bytes that are injected
abbrev spoilt : Told
spoilt = record { call = (injects Server spoilt_datagram).call; answer = answers.Inject (receives.Dropped drops.NotOpened); state = states.Open }

abbrev hello_again : Told
hello_again = record { call = calls.Deliver delivery; answer = answers.Deliver duplicate; state = states.Open }

abbrev pub noted_came : CameTo (hello_datagram ∷ []) (until noted_early Server 6)
noted_came = record {
  before = spoilt ∷ [];
  call = hello_again;
  behind = [];
  split = refl;
  was_open = refl;
  datagram = hello_datagram;
  handed_in = refl;
  opening = hello_opening;
  opened = refl;
  new = refl;
}

pub noted_takes : TakenOrTooMany noted_early → ⊥
noted_takes h = not_dropped (stream_window_at noted_early Server) (hello_datagram ∷ []) (until noted_early Server 6) noted_came refl (h Server 6 refl noted_came)

spoilt_drops : IsStep worked_policies once_sent (injects Server spoilt_datagram) (answers.Inject (receives.Dropped drops.NotOpened)) once_spoilt
unfolding once_sent
spoilt_drops = record { answer = refl; end = refl; control = refl; heard = counts_so worked_policies once_sent (injects Server spoilt_datagram) (answers.Inject (receives.Dropped drops.NotOpened)); openings = refl; others = refl; lacking = tt }

noted_no : IsRefused once_sent delivers (answers.Deliver duplicate)
unfolding once_taken
noted_no (inl e) = cc
noted_no (inr e) = cc

pub noted_is_none : IsNoRun noted_early
noted_is_none = behind_sent (behind refl spoilt_drops (stops _ _ _ _ _ noted_no))

pub noted_is_honest : IsHonest noted_early
noted_is_honest = honest noted_early (record { start = refl; keys = refl; client = (tt, (inl refl, (inl refl, (tt, (tt, (tt, tt)))))); server = (tt, (tt, (tt, (tt, (tt, (tt, tt)))))) })
