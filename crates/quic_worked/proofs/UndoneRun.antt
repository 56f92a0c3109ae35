-- A stream that isn't done at rest, and ends at which none can be opened though all that were
-- opened are done.
use Rattle.std.proofs.Common.{◌≡◌, ℕ, ◌<◌, ◌≤◌, List, [], ◌∷◌, ◌++◌, length, take, true, false, Some, None, Ok, refl, inl, inr, sym, ap, subst, eqb, lit<, lit≤, arith}
use Rattle.std.specs.Prelude.{◌==◌, if◌then◌else◌}
use Rattle.std.specs.List.{IsDistinct}
use Rattle.quic_wire_core.specs.declared.stream_id.Side.{Side}
use Rattle.quic_wire_core.specs.declared.stream_id.Side.TheVariants.{Client, Server}
use Rattle.quic_wire_core.specs.declared.stream_id.Dir.TheVariants.{Bi, Uni}
use Rattle.quic_parameters.specs.ParametersRead.{entry_at, whole_at, met_after, met_within, met_in, values_met, judged, parameters_at}
use Rattle.quic_config.specs.Transport.{IsInRange, parameters_of}
use Rattle.quic_worked.specs.Settings.{plain_settings}
use Rattle.quic_machine.specs.declared.run.ReadCall.{ReadCall}
use Rattle.quic_machine.specs.declared.run.Answer.TheVariants as answers
use Rattle.quic_machine.specs.End.{IsMade}
use Rattle.quic_machine.specs.Start.{AreStarted}
use Rattle.quic_machine.specs.Machine.{World, IsStep}
use Rattle.quic_headline.specs.Runs.{Packet, In, until, tells_end}
use Rattle.quic_headline.specs.Observer.{took}
use Rattle.quic_headline.specs.Headline.{IsHonest}
use Rattle.quic_headline.specs.Rest.{ShowsStill, Rests, HaveRoom}
use Rattle.quic_headline.specs.Undone.{IsReceived, IsDone, HasUndone, NoneOpenedOnlyForUndone}
use Rattle.quic_worked.specs.Worked.{ran, worked_policies, client_id, server_id, asks_datagram}
use Rattle.quic_worked.specs.Exchange.{with_uni}
use Rattle.quic_worked.specs.Broken.{IsNoRun}
use Rattle.quic_worked.specs.Held.{gives_nothing}
use Rattle.quic_worked.specs.Credit.{opens_one_way, ends_one_way, accepts_one_way}
use Rattle.quic_worked.specs.Rested.{roomy_windows, rested_start, still_view, rested_run}
use Rattle.quic_worked.specs.Undone.{shut_run, lone_parameters, lone_start, ReadsLone, kept_back_run}
use Rattle.quic_worked.proofs.OwnIds.{AreOwn, own_ids}
use Rattle.quic_worked.proofs.BrokenRuns.{IsRefused, stops, behind}
use Rattle.quic_worked.proofs.WorkedKeys.{are_keys}
use Rattle.quic_worked.proofs.WorkedHonest.{in_range, making}
use Rattle.quic_worked.proofs.WorkedRun.{parameters_say}
use Rattle.quic_worked.proofs.RestedRun.{have_room}
use Rattle.quic_worked.proofs.Steps.{counts_so}

-- ---- what is left

-- the stream isn't done: it was neither read nor stopped
not_received : (packets : List Packet) → IsReceived packets (until rested_run Server 13) 0 → ⊥
not_received packets (inl end) = (let clash : false ≡ true = end in cc)
not_received packets (inr (inl told)) = (let clash : false ≡ true = told in cc)
not_received packets (inr (inr (inl told))) = (let clash : false ≡ true = told in cc)
not_received packets (inr (inr (inr both))) = (let clash : false ≡ true = both.0 in cc)

alone : IsDistinct eqb (0 ∷ [])
unfolding IsDistinct
alone = (tt, tt)

pub one_left : HasUndone (until rested_run Client 13) (took rested_run Server 13) (until rested_run Server 13) Bi 1
one_left = record {
  ids = 0 ∷ [];
  distinct = alone;
  opened = λ id i. elim i [ inl is ↦ inl is | inr none ↦ absurd none ];
  undone = λ id i d. elim i [
    | inl is ↦ not_received (took rested_run Server 13) (subst (λ (q : ℕ). IsReceived (took rested_run Server 13) (until rested_run Server 13) q) is d.received)
    | inr none ↦ absurd none
  ];
  many = lit≤ tt;
}

-- ---- none can be opened, and none was

still : (side : Side) → ShowsStill still_view side
still Client = record { no_loss_timer = refl; no_ack_timer = refl; no_pacing_timer = refl }
still Server = record { no_loss_timer = refl; no_ack_timer = refl; no_pacing_timer = refl }

pub client_shut : Rests shut_run Client 2
client_shut = record { front = []; now = 0; last = refl; view = still_view; shown = refl; is_open = refl; validated = refl; still = still Client }

pub server_shut : Rests shut_run Server 2
server_shut = record { front = []; now = 0; last = refl; view = still_view; shown = refl; is_open = refl; validated = refl; still = still Server }

abbrev shut_started : AreStarted rested_start
shut_started = record {
  client_making = record (making client_id) { windows = roomy_windows };
  server_making = record (making server_id) { windows = roomy_windows };
  client_is = record { range = in_range; sizes = lit≤ tt; says = parameters_say; id = refl };
  server_is = record { range = in_range; sizes = lit≤ tt; says = parameters_say; id = refl };
  client = subst (λ read. IsMade Client plain_settings roomy_windows read client_id server_id 0 0 true (λ n. 63) rested_start.client) (sym parameters_say) refl;
  server = subst (λ read. IsMade Server plain_settings roomy_windows read server_id client_id 0 0 true (λ n. 63) rested_start.server) (sym parameters_say) refl;
  client_gave = refl;
  server_gave = refl;
  client_heard = refl;
  server_heard = refl;
}

-- none of none is undone
none_undone : (ids : List ℕ) (count : ℕ) → 0 < count → ((id : ℕ) → In id ids → In id []) → count ≤ length ids → ⊥
none_undone [] count some opened many = omega arith
none_undone (id ∷ ids) count some opened many = opened id (inl refl)

pub shut_undone : NoneOpenedOnlyForUndone shut_run → ⊥
shut_undone h = (let u = h shut_started Client 2 Bi refl have_room (lit< tt) (lit< tt) client_shut server_shut (record { event = refl; answer = refl }) in none_undone u.ids _ (lit< tt) u.opened u.many)

shut_own : (side : Side) → AreOwn side [] shut_run.events shut_run.answers shut_run.views
shut_own Client = (tt, (tt, (tt, tt)))
shut_own Server = (tt, (tt, (tt, tt)))

pub shut_is_honest : IsHonest shut_run
shut_is_honest = record { start = shut_started; keys = are_keys; ids = own_ids shut_run shut_own }

-- the machine gives its ids
client_no : IsRefused rested_start asks_datagram gives_nothing
client_no (inl e) = cc
client_no (inr e) = cc

pub shut_is_none : IsNoRun shut_run
shut_is_none = stops _ _ _ _ _ client_no

-- ---- none can be opened, and the one that was is done

lone_says : parameters_at lone_parameters ≡ Ok (parameters_of (with_uni 1))
unfolding parameters_at judged values_met met_in met_within met_after whole_at entry_at
lone_says = refl

lone_range : IsInRange (with_uni 1)
lone_range = record { receive_window = lit< tt; stream_receive_window = lit< tt; bounds = record { bidi = lit≤ tt; uni = lit≤ tt; divides = lit< tt; initial = lit≤ tt; least = lit≤ tt }; search = tt }

abbrev lone_started : AreStarted lone_start
lone_started = record {
  client_making = record (making client_id) { windows = roomy_windows };
  server_making = record (making server_id) { settings = with_uni 1; windows = roomy_windows; parameters = lone_parameters };
  client_is = record { range = in_range; sizes = lit≤ tt; says = parameters_say; id = refl };
  server_is = record { range = lone_range; sizes = lit≤ tt; says = lone_says; id = refl };
  client = subst (λ read. IsMade Client plain_settings roomy_windows read client_id server_id 0 0 true (λ n. 63) lone_start.client) (sym lone_says) refl;
  server = subst (λ read. IsMade Server (with_uni 1) roomy_windows read server_id client_id 0 0 true (λ n. 63) lone_start.server) (sym parameters_say) refl;
  client_gave = refl;
  server_gave = refl;
  client_heard = refl;
  server_heard = refl;
}

lone_room : HaveRoom lone_start
lone_room = record { controlled = record { client = have_room.controlled.client; server = have_room.controlled.server }; client = have_room.client; server = have_room.server }

pub client_kept_back : (read : ReadCall) → ReadsLone read → Rests (kept_back_run read) Client 6
client_kept_back read by = record { front = take 2 (until (kept_back_run read) Client 6); now = 0; last = refl; view = still_view; shown = refl; is_open = refl; validated = refl; still = still Client }

pub server_kept_back : (read : ReadCall) → ReadsLone read → Rests (kept_back_run read) Server 6
server_kept_back read by = record { front = take 2 (until (kept_back_run read) Server 6); now = 0; last = refl; view = still_view; shown = refl; is_open = refl; validated = refl; still = still Server }

-- the stream was read to its end
read_up : (read : ReadCall) → ReadsLone read → (packets : List Packet) → IsDone packets (until (kept_back_run read) Server 6) 2
read_up read by packets = record {
  received = inl (ap (λ (q : ℕ). tells_end ((if q == 2 then Ok None ∷ [] else []) ++ [])) by.id);
  sent = λ two. (let clash : false ≡ true = two in cc);
}

pub kept_back_undone : (read : ReadCall) → ReadsLone read → NoneOpenedOnlyForUndone (kept_back_run read) → ⊥
kept_back_undone read by h =
    let u = h lone_started Client 6 Uni refl lone_room (lit< tt) (lit< tt) (client_kept_back read by) (server_kept_back read by) (record { event = refl; answer = refl }) in
    go u.ids u.opened u.undone u.many
  where
    packets : List Packet
    packets = took (kept_back_run read) Server 6

    two_done : (id : ℕ) → In id (2 ∷ []) → (IsDone packets (until (kept_back_run read) Server 6) id → ⊥) → ⊥
    two_done id (inl is) undone = undone (subst (λ (q : ℕ). IsDone packets (until (kept_back_run read) Server 6) q) (sym is) (read_up read by packets))
    two_done id (inr none) undone = none

    go : (ids : List ℕ) → ((id : ℕ) → In id ids → In id (2 ∷ [])) → ((id : ℕ) → In id ids → IsDone packets (until (kept_back_run read) Server 6) id → ⊥) → 1 ≤ length ids → ⊥
    go [] opened undone many = omega arith
    go (id ∷ ids) opened undone many = two_done id (opened id (inl refl)) (undone id (inl refl))

kept_back_own : (read : ReadCall) → ReadsLone read → (side : Side) → AreOwn side [] (kept_back_run read).events (kept_back_run read).answers (kept_back_run read).views
kept_back_own read by Client = (tt, (inl refl, (tt, (tt, (tt, (tt, (tt, tt)))))))
kept_back_own read by Server = (tt, (tt, (tt, (inl by.id, (tt, (tt, (tt, tt)))))))

pub kept_back_is_honest : (read : ReadCall) → ReadsLone read → IsHonest (kept_back_run read)
kept_back_is_honest read by = record { start = lone_started; keys = are_keys; ids = own_ids (kept_back_run read) (kept_back_own read by) }

unfoldable once_lone : ℕ → ReadCall → World
once_lone n read = ran worked_policies lone_start (take n (kept_back_run read).events) (take n (kept_back_run read).answers)

lone_opens : (read : ReadCall) → IsStep worked_policies lone_start opens_one_way (answers.Open (Some 2)) (once_lone 1 read)
unfolding once_lone
lone_opens read = record { answer = refl; end = refl; control = refl; heard = counts_so worked_policies lone_start opens_one_way (answers.Open (Some 2)); openings = tt; others = refl; lacking = tt }

lone_ends : (read : ReadCall) → IsStep worked_policies (once_lone 1 read) ends_one_way (answers.Finish (Ok tt)) (once_lone 2 read)
unfolding once_lone
lone_ends read = record { answer = inl refl; end = refl; control = refl; heard = counts_so worked_policies (once_lone 1 read) ends_one_way (answers.Finish (Ok tt)); openings = tt; others = refl; lacking = λ lacks. cc }

lone_no : (read : ReadCall) → IsRefused (once_lone 2 read) accepts_one_way (answers.Accept (Some 2))
unfolding once_lone
lone_no read e = cc

pub kept_back_is_none : (read : ReadCall) → ReadsLone read → IsNoRun (kept_back_run read)
kept_back_is_none read by = behind refl (lone_opens read) (behind refl (lone_ends read) (stops _ _ _ _ _ (lone_no read)))
