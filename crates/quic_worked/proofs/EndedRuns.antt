-- The runs in which an end closes for a reason, event by event, and machines that close for none.
use Rattle.std.proofs.Common.{◌≡◌, ℕ, zero, suc, ◌+◌, ◌<◌, ◌≤◌, List, [], ◌∷◌, ◌++◌, length, true, false, Bool, Option, Some, None, Ok, refl, inl, inr, sym, ap, ◌∙◌, subst, lit<, lit≤, arith}
use Rattle.std.specs.Prelude.{max, slice_get}
use Rattle.std.proofs.lemmas.Bool.{both_ways}
use Rattle.quic_wire_core.specs.declared.stream_id.Side.{Side}
use Rattle.quic_wire_core.specs.declared.stream_id.Side.TheVariants.{Client, Server}
use Rattle.quic_wire_core.specs.declared.shared.EcnCodepoint.TheVariants.{Ect0}
use Rattle.quic_wire.specs.Close.{CloseValue}
use Rattle.quic_wire.specs.Value.{ack}
use Rattle.quic_parameters.specs.ParametersRead.{entry_at, whole_at, met_after, met_within, met_in, values_met, judged, parameters_at}
use Rattle.quic_config.specs.Transport.{IsInRange, parameters_of}
use Rattle.quic_machine.specs.declared.answers.LostReason.{LostReason}
use Rattle.quic_machine.specs.declared.answers.LostReason.TheVariants as reasons
use Rattle.quic_machine.specs.declared.answers.Received.TheVariants as receives
use Rattle.quic_machine.specs.declared.run.RunEvent.{RunEvent}
use Rattle.quic_machine.specs.declared.run.Call.{Call}
use Rattle.quic_machine.specs.declared.run.Call.TheVariants as calls
use Rattle.quic_machine.specs.declared.run.Answer.{Answer}
use Rattle.quic_machine.specs.declared.run.Answer.TheVariants as answers
use Rattle.quic_machine.specs.declared.run.View.{View}
use Rattle.quic_machine.specs.End.{IsMade}
use Rattle.quic_machine.specs.Start.{AreStarted, AreKeys}
use Rattle.quic_machine.specs.Machine.{World, Policies, IsAnswer, IsStep, Follows, policy_at, end_met, view_of}
use Rattle.quic_headline.specs.Runs.{until}
use Rattle.quic_headline.specs.Observer.{Sent, watch, sents_until}
use Rattle.quic_headline.specs.Polls.{GaveOne}
use Rattle.quic_headline.specs.Waited.{wants_ack, as_size_probe, as_loss_probe, as_ack, as_frames, as_close, EachWaited}
use Rattle.quic_headline.specs.Headline.{IsAt, IsHonest, IsRun}
use Rattle.quic_headline.specs.Causes.{Shows, reason_in, HadClosed, PeerClosed, WasClosed, ApplicationClosed, WasIdle, IdleExpired, ordinary, IsKeyUsedUp, unopened, KeyLimited, KeysLast}
use Rattle.quic_worked.specs.Settings.{plain_settings}
use Rattle.quic_worked.specs.Worked.{shut_window, steady, shut, worked_policies, client_id, server_id, started, once_taken, asks_datagram, delivers, gives_bytes, server_open}
use Rattle.quic_worked.specs.Acknowledged.{client_acked}
use Rattle.quic_worked.specs.Broken.{IsNoRun}
use Rattle.quic_worked.specs.Machines.{NeverGives}
use Rattle.quic_worked.specs.Paired.{asks_server}
use Rattle.quic_worked.specs.Renamed.{ids_sent}
use Rattle.quic_worked.specs.Timed.{serves}
use Rattle.quic_worked.specs.Held.{gives_nothing}
use Rattle.quic_wire.specs.Reading.{connection_close_at, application_close_at}
use Rattle.quic_worked.specs.Closed.{closed_view}
use Rattle.quic_worked.specs.Ended.{drained_view, closes_by, close_read, once_closed, closing_view, closing_run, idle_settings, idle_parameters, idle_start, idle_moment, once_idle, idle_view, idle_run, sealing, short_policies, once_short, short_run, sealed_past, closed_past, closed_early, close_named, drains_for}
use Rattle.quic_worked.proofs.Codes.{AllSmall, small_codes, no_codes}
use Rattle.quic_worked.proofs.OwnIds.{AreOwn, own_ids, honest}
use Rattle.quic_worked.proofs.BrokenRuns.{IsRefused, behind, stops}
use Rattle.quic_worked.proofs.MessageRuns.{given_bytes}
use Rattle.quic_worked.proofs.RepeatedRuns.{alone_closes}
use Rattle.quic_worked.proofs.WorkedKeys.{are_keys}
use Rattle.quic_worked.proofs.WorkedHonest.{in_range, making, are_started}
use Rattle.quic_worked.proofs.WorkedRun.{parameters_say}
use Rattle.quic_worked.proofs.Steps.{counts_so}

-- ---- an application closes

pub closes : IsStep worked_policies started (closes_by 7) answers.Close (once_closed 1)
unfolding once_closed
closes = record { answer = refl; end = refl; control = refl; heard = counts_so worked_policies started (closes_by 7) answers.Close; openings = tt; others = refl; lacking = tt }

gives_close : IsStep worked_policies (once_closed 1) asks_datagram (gives_bytes 29) (once_closed 2)
unfolding once_closed
gives_close = record { answer = inl refl; end = refl; control = refl; heard = counts_so worked_policies (once_closed 1) asks_datagram (gives_bytes 29); openings = tt; others = refl; lacking = tt }

takes_close : IsStep worked_policies (once_closed 2) delivers (answers.Deliver receives.Taken) (once_closed 3)
unfolding once_closed application_close_at
takes_close = record { answer = inl refl; end = refl; control = refl; heard = counts_so worked_policies (once_closed 2) delivers (answers.Deliver receives.Taken); openings = tt; others = refl; lacking = tt }

pub closed_seen : record { client = closing_view; server = server_open } ≡ view_of (once_closed 1)
unfolding once_closed
closed_seen = refl

given_seen : record { client = closing_view; server = server_open } ≡ view_of (once_closed 2)
unfolding once_closed
given_seen = refl

-- both ends, once the close came
abbrev last_view : View
last_view = record { client = closing_view; server = drained_view shut_window (reasons.Peer (close_read 7)) }

taken_seen : last_view ≡ view_of (once_closed 3)
unfolding once_closed application_close_at
taken_seen = refl

closing_follows : Follows closing_run.keys closing_run.start closing_run.events closing_run.answers closing_run.views (once_closed 3)
closing_follows = (once_closed 1, closes, closed_seen, (once_closed 2, gives_close, given_seen, (once_closed 3, takes_close, taken_seen, refl)))

gave_close : closing_run.from_client ≡ (once_closed 3).from_client
unfolding once_closed
gave_close = refl

gave_none : closing_run.from_server ≡ (once_closed 3).from_server
unfolding once_closed
gave_none = refl

-- the code is the only one
closing_codes : AllSmall closing_run.events
closing_codes = (lit< tt, (tt, (tt, tt)))

pub closing_is_run : IsRun closing_run (once_closed 3)
closing_is_run = record { codes = small_codes closing_run.events closing_codes; follows = closing_follows; from_client = gave_close; from_server = gave_none }

pub closing_is_honest : IsHonest closing_run
closing_is_honest = honest closing_run (record { start = refl; keys = refl; client = (tt, (tt, (tt, tt))); server = (tt, (tt, (tt, tt))) })

pub client_shows : Shows closing_run Client 0 (Some reasons.Application)
client_shows = record { served = refl; view = record { client = closing_view; server = server_open }; there = refl; is = refl }

pub server_shows : Shows closing_run Server 2 (Some (reasons.Peer (close_read 7)))
server_shows = record { served = refl; view = last_view; there = refl; is = refl }

pub was_closed : WasClosed closing_run Client 0
was_closed = record { earlier = 0; up_to = lit≤ tt; close = record { now = 0; error_code = 7; reason = [] }; called = record { event = refl; answer = refl }; was_open = refl }

pub had_closed : HadClosed closing_run Client 2
had_closed = record { earlier = 0; up_to = lit≤ tt; reason = reasons.Application; shown = client_shows }

-- ---- nothing comes for the idle timeout

idle_say : parameters_at idle_parameters ≡ Ok (parameters_of idle_settings)
unfolding parameters_at judged values_met met_in met_within met_after whole_at entry_at
idle_say = refl

idle_range : IsInRange idle_settings
idle_range = record { receive_window = lit< tt; stream_receive_window = lit< tt; bounds = record { bidi = lit≤ tt; uni = lit≤ tt; divides = lit< tt; initial = lit≤ tt; least = lit≤ tt }; search = tt }

pub idle_started : AreStarted idle_start
idle_started = record {
  client_making = record (making client_id) { settings = idle_settings; parameters = idle_parameters };
  server_making = record (making server_id) { windows = shut };
  client_is = record { range = idle_range; sizes = lit≤ tt; says = idle_say; id = refl };
  server_is = record { range = in_range; sizes = lit≤ tt; says = parameters_say; id = refl };
  client = subst (λ read. IsMade Client idle_settings steady read client_id server_id 0 0 true (λ n. 63) idle_start.client) (sym parameters_say) refl;
  server = subst (λ read. IsMade Server plain_settings shut read server_id client_id 0 0 true (λ n. 63) idle_start.server) (sym idle_say) refl;
  client_gave = refl;
  server_gave = refl;
  client_heard = refl;
  server_heard = refl;
}

idle_own : (side : Side) → AreOwn side [] idle_run.events idle_run.answers idle_run.views
idle_own Client = (tt, (tt, tt))
idle_own Server = (tt, (tt, tt))

pub idle_is_honest : IsHonest idle_run
idle_is_honest = record { start = idle_started; keys = are_keys; ids = own_ids idle_run idle_own }

pub tells_ids : IsStep worked_policies idle_start asks_datagram (gives_bytes 222) (once_idle 1)
unfolding once_idle
tells_ids = record { answer = inl refl; end = refl; control = refl; heard = counts_so worked_policies idle_start asks_datagram (gives_bytes 222); openings = tt; others = refl; lacking = tt }

is_drained : IsStep worked_policies (once_idle 1) (serves Client idle_moment) (answers.Timeout (Ok tt)) (once_idle 2)
unfolding once_idle
is_drained = record { answer = inl refl; end = refl; control = refl; heard = counts_so worked_policies (once_idle 1) (serves Client idle_moment) (answers.Timeout (Ok tt)); openings = tt; others = refl; lacking = tt }

waiting_seen : idle_view ≡ view_of (once_idle 1)
unfolding once_idle
waiting_seen = refl

-- both ends, once the client is drained
abbrev drained_last : View
drained_last = record { client = drained_view 12000 reasons.Idle; server = server_open }

drained_seen : drained_last ≡ view_of (once_idle 2)
unfolding once_idle
drained_seen = refl

idle_gave : idle_run.from_client ≡ (once_idle 2).from_client
unfolding once_idle
idle_gave = refl

idle_gave_none : idle_run.from_server ≡ (once_idle 2).from_server
unfolding once_idle
idle_gave_none = refl

pub idle_is_run : IsRun idle_run (once_idle 2)
idle_is_run = record { codes = no_codes idle_run.events refl; follows = (once_idle 1, tells_ids, waiting_seen, (once_idle 2, is_drained, drained_seen, refl)); from_client = idle_gave; from_server = idle_gave_none }

pub idle_shows : Shows idle_run Client 1 (Some reasons.Idle)
idle_shows = record { served = refl; view = drained_last; there = refl; is = refl }

is_due : idle_moment ≤ max (watch idle_run Client 1).clock idle_moment
unfolding once_taken
is_due = lit≤ tt

pub was_idle : WasIdle idle_run Client 1
was_idle = record { earlier = 1; up_to = lit≤ tt; now = idle_moment; called = record { event = refl; answer = refl }; view = idle_view; before = refl; moment = idle_moment; set = refl; due = is_due }

-- ---- a key seals no more

-- how many packets a key seals is no matter of laws
short_keys : (seals : ℕ) → AreKeys (sealing seals)
short_keys seals = record {
  client = record { form = are_keys.client.form; width = are_keys.client.width; tag = are_keys.client.tag };
  server = are_keys.server;
  to_server = are_keys.to_server;
  to_client = are_keys.to_client;
}

short_own : (side : Side) → AreOwn side [] short_run.events short_run.answers short_run.views
short_own Client = (tt, tt)
short_own Server = (tt, tt)

pub short_is_honest : IsHonest short_run
short_is_honest = record { start = are_started; keys = short_keys 8; ids = own_ids short_run short_own }

closes_short : IsStep short_policies started asks_datagram (gives_bytes 30) (once_short 1)
unfolding once_short
closes_short = record { answer = inl refl; end = refl; control = refl; heard = counts_so short_policies started asks_datagram (gives_bytes 30); openings = tt; others = refl; lacking = tt }

-- both ends then
abbrev short_view : View
short_view = record { client = closed_view reasons.KeyLimit; server = server_open }

short_seen : short_view ≡ view_of (once_short 1)
unfolding once_short
short_seen = refl

short_gave : short_run.from_client ≡ (once_short 1).from_client
unfolding once_short
short_gave = refl

short_gave_none : short_run.from_server ≡ (once_short 1).from_server
unfolding once_short
short_gave_none = refl

pub short_is_run : IsRun short_run (once_short 1)
short_is_run = record { codes = no_codes short_run.events refl; follows = (once_short 1, closes_short, short_seen, refl); from_client = short_gave; from_server = short_gave_none }

pub short_shows : Shows short_run Client 0 (Some reasons.KeyLimit)
short_shows = record { served = refl; view = short_view; there = refl; is = refl }

-- it gave its close alone
short_ordinary : ordinary short_run Client 1 ≡ []
unfolding once_taken connection_close_at
short_ordinary = refl

pub is_used_up : IsKeyUsedUp (policy_at Client short_run.keys) (length (ordinary short_run Client 1)) (unopened (until short_run Client 1))
is_used_up = inl (subst (λ (ss : List Sent). 8 ≤ length ss + 8) (sym short_ordinary) (lit≤ tt))

-- ---- a key that seals past its limit

past_sent : sents_until sealed_past Client 1 ≡ ids_sent ∷ []
unfolding once_taken
past_sent = refl

pub past_wrong : KeysLast sealed_past → ⊥
past_wrong h = let last : 8 < 8 = (h Client 1 refl).1 0 ids_sent (ap (λ (ss : List Sent). slice_get ss 0) past_sent) refl in omega (arith, last)

past_own : (side : Side) → AreOwn side [] sealed_past.events sealed_past.answers sealed_past.views
past_own Client = (tt, tt)
past_own Server = (tt, tt)

pub past_is_honest : IsHonest sealed_past
past_is_honest = record { start = are_started; keys = short_keys 8; ids = own_ids sealed_past past_own }

-- the machine closes
past_no : IsAnswer short_policies.client (end_met started asks_datagram) [] (calls.Poll 0) (gives_bytes 222) → ⊥
past_no (inl e) = let clash : ◌≡◌ {A = ℕ} 222 30 = ap given_bytes e in omega (arith, clash)
past_no (inr e) = cc

-- a first poll that isn't answered so is none of a run
never_polls : (k : Policies) (a : Answer) → (IsAnswer k.client (end_met started asks_datagram) [] (calls.Poll 0) a → ⊥) → (views : List View) (end : World) → Follows k started (asks_datagram ∷ []) (a ∷ []) views end → ⊥
never_polls k a not_so [] end f = f
never_polls k a not_so (v ∷ vs) end f = not_so f.1.answer

pub past_is_none : NeverGives sealed_past
past_is_none views end is = never_polls short_policies (gives_bytes 222) past_no views end is.follows

pub closes_wrong : KeysLast closed_past → ⊥
closes_wrong h = let most : 1 ≤ 0 = (h Client 1 refl).0 in omega (arith, most)

closes_own : (side : Side) → AreOwn side [] closed_past.events closed_past.answers closed_past.views
closes_own Client = (tt, tt)
closes_own Server = (tt, tt)

pub closes_is_honest : IsHonest closed_past
closes_is_honest = record { start = are_started; keys = short_keys 0; ids = own_ids closed_past closes_own }

-- the machine gives nothing
closes_no : IsAnswer (sealing 0).client (end_met started asks_datagram) [] (calls.Poll 0) (gives_bytes 30) → ⊥
closes_no (inl e) = cc
closes_no (inr e) = cc

pub closes_is_none : NeverGives closed_past
closes_is_none views end is = never_polls (sealing 0) (gives_bytes 30) closes_no views end is.follows

-- ---- a client that closes one datagram too early

early_shows : Shows closed_early Client 0 (Some reasons.KeyLimit)
early_shows = record { served = refl; view = short_view; there = refl; is = refl }

early_ordinary : ordinary closed_early Client 1 ≡ []
unfolding once_taken connection_close_at
early_ordinary = refl

pub early_wrong : KeyLimited closed_early → ⊥
early_wrong h = go (subst (λ (ss : List Sent). IsKeyUsedUp (sealing 9).client (length ss) 0) early_ordinary (h Client 0 early_shows))
  where
    go : IsKeyUsedUp (sealing 9).client 0 0 → ⊥
    go (inl many) = let most : 9 ≤ 8 = many in omega (arith, most)
    go (inr many) = let most : 8388608 ≤ 0 = many in omega (arith, most)

early_own : (side : Side) → AreOwn side [] closed_early.events closed_early.answers closed_early.views
early_own Client = (tt, tt)
early_own Server = (tt, tt)

pub early_is_honest : IsHonest closed_early
early_is_honest = record { start = are_started; keys = short_keys 9; ids = own_ids closed_early early_own }

-- the machine gives its ids
early_no : IsAnswer (sealing 9).client (end_met started asks_datagram) [] (calls.Poll 0) (gives_bytes 30) → ⊥
early_no (inl e) = let clash : ◌≡◌ {A = ℕ} 30 222 = ap given_bytes e in omega (arith, clash)
early_no (inr e) = cc

pub early_is_none : NeverGives closed_early
early_is_none views end is = never_polls (sealing 9) (gives_bytes 30) early_no views end is.follows

-- ---- a close that is acknowledged

-- the server's datagram as it was sent
abbrev naming_close : Sent
naming_close = record { id = client_id; number = 0; reference = 0; frames = ack (record { largest = 0; delay = 0; ranges = (0, 0) ∷ []; ecn = None }) ∷ []; moment = 0; size = 31; generation = 0 }

named_sent : sents_until close_named Server 4 ≡ sents_until close_named Server 3 ++ naming_close ∷ []
unfolding client_acked application_close_at
named_sent = refl

named_unwanted : wants_ack close_named Server 3 ≡ false
unfolding client_acked application_close_at
named_unwanted = refl

named_no_probe : (watch close_named Server 3).flight.probes ≡ 0
unfolding client_acked application_close_at
named_no_probe = refl

gave_name : GaveOne close_named Server 3 0
gave_name = record { transmit = record { size = 31; ecn = Some Ect0; remote = 0 }; poll = record { event = refl; answer = refl }; served = refl; sent = naming_close; went = named_sent }

pub named_wrong : EachWaited close_named → ⊥
unfolding gave_name
named_wrong h = elim (h Server 3 0 gave_name) [
  | as_size_probe probe ↦ (let above : 1200 ≤ 31 = probe.above in absurd (omega (arith, above)))
  | as_loss_probe waits ↦ (let none = named_no_probe in absurd (omega (arith, waits, none)))
  | as_ack none frames wanted ↦ both_ways (wants_ack close_named Server 3) named_unwanted wanted
  | as_frames asks each ↦ (let clash : ◌≡◌ {A = Bool} false true = asks in cc)
  | as_close closes ↦ (let clash : ◌≡◌ {A = Bool} false true = alone_closes naming_close closes in cc)
]

pub named_is_honest : IsHonest close_named
named_is_honest = honest close_named (record { start = refl; keys = refl; client = (tt, (tt, (tt, (tt, tt)))); server = (tt, (tt, (tt, (tt, tt)))) })

-- a drained server gives nothing
named_no : IsRefused (once_closed 3) asks_server (gives_bytes 31)
unfolding once_closed application_close_at
named_no (inl e) = cc
named_no (inr e) = cc

pub named_is_none : IsNoRun close_named
named_is_none = behind refl closes (behind refl gives_close (behind refl takes_close (stops _ _ _ _ _ named_no)))

-- ---- machines that close for nothing

-- its client shows the reason at its first poll
drained_shows : (reason : LostReason) → Shows (drains_for reason) Client 0 (Some reason)
drained_shows reason = record { served = refl; view = record { client = drained_view 12000 reason; server = server_open }; there = refl; is = refl }

-- the call of an event
abbrev call_of : Option RunEvent → Call
call_of (Some event) = event.call
call_of None = calls.Poll 0

-- which is the only call
only_polled : (reason : LostReason) (earlier : ℕ) (call : Call) (a : Answer) → IsAt (drains_for reason) earlier Client call a → call ≡ calls.Poll 0
only_polled reason zero call a at = sym (ap call_of at.event)
only_polled reason (suc n) call a at = let none : ◌≡◌ {A = Option RunEvent} None (Some (record { side = Client; call = call })) = at.event in absurd cc

pub application_wrong : ApplicationClosed (drains_for reasons.Application) → ⊥
application_wrong h =
    let w = h Client 0 (drained_shows reasons.Application) in
    let is : calls.Close w.close ≡ calls.Poll 0 = only_polled reasons.Application w.earlier (calls.Close w.close) answers.Close w.called in
    cc

pub idle_wrong : IdleExpired (drains_for reasons.Idle) → ⊥
idle_wrong h =
    let w = h Client 0 (drained_shows reasons.Idle) in
    let is : calls.Timeout w.now ≡ calls.Poll 0 = only_polled reasons.Idle w.earlier (calls.Timeout w.now) (answers.Timeout (Ok tt)) w.called in
    cc

pub key_wrong : KeyLimited (drains_for reasons.KeyLimit) → ⊥
key_wrong h = go (h Client 0 (drained_shows reasons.KeyLimit))
  where
    go : IsKeyUsedUp worked_policies.client 0 0 → ⊥
    go (inl many) = let most : 8388608 ≤ 8 = many in omega (arith, most)
    go (inr many) = let most : 8388608 ≤ 0 = many in omega (arith, most)

-- the server shows no reason
none_shown : (reason : LostReason) (earlier : ℕ) (view : View) (shown : LostReason) → slice_get (drains_for reason).views earlier ≡ Some view → reason_in view Server ≡ Some shown → ⊥
none_shown reason zero view shown there is =
    let same : record { client = drained_view 12000 reason; server = server_open } ≡ view = cc in
    let clash : ◌≡◌ {A = Option LostReason} None (Some shown) = ap (λ (v : View). reason_in v Server) same ∙ is in
    cc
none_shown reason (suc n) view shown there is = cc

pub peer_wrong : (close : CloseValue) → PeerClosed (drains_for (reasons.Peer close)) → ⊥
peer_wrong close h =
    let c = h Client 0 close (drained_shows (reasons.Peer close)) in
    none_shown (reasons.Peer close) c.earlier c.shown.view c.reason c.shown.there c.shown.is

pub drains_is_honest : (reason : LostReason) → IsHonest (drains_for reason)
drains_is_honest reason = honest (drains_for reason) (record { start = refl; keys = refl; client = (tt, tt); server = (tt, tt) })

-- the machine gives its ids
gives_no : IsRefused started asks_datagram gives_nothing
gives_no (inl e) = cc
gives_no (inr e) = cc

pub drains_is_none : (reason : LostReason) → IsNoRun (drains_for reason)
drains_is_none reason = stops _ _ _ _ _ gives_no
