-- Ends that something closes, event by event, and machines that go on though it did.
use Rattle.std.proofs.Common.{◌≡◌, ℕ, zero, suc, ◌<◌, ◌≤◌, max, Bool, true, false, List, [], ◌∷◌, Option, Some, None, Ok, refl, inl, inr, sym, ap, ◌∙◌, subst, lit<, lit≤, arith}
use Rattle.std.specs.Prelude.{slice_get}
use Rattle.quic_wire.specs.Close.{CloseValue, by_transport, by_application}
use Rattle.quic_wire.specs.Value.{FrameValue, application_close}
use Rattle.quic_wire.specs.Reading.{application_close_at}
use Rattle.quic_wire_core.specs.declared.stream_id.Side.{Side}
use Rattle.quic_wire_core.specs.declared.stream_id.Side.TheVariants.{Client, Server}
use Rattle.quic_machine.specs.declared.answers.State.{State}
use Rattle.quic_machine.specs.declared.answers.State.TheVariants as states
use Rattle.quic_machine.specs.declared.answers.LostReason.{LostReason}
use Rattle.quic_machine.specs.declared.answers.LostReason.TheVariants as reasons
use Rattle.quic_machine.specs.declared.answers.Received.TheVariants as receives
use Rattle.quic_machine.specs.declared.run.Call.{Call}
use Rattle.quic_machine.specs.declared.run.Call.TheVariants as calls
use Rattle.quic_machine.specs.declared.run.RunEvent.{RunEvent}
use Rattle.quic_machine.specs.declared.run.Answer.TheVariants as answers
use Rattle.quic_machine.specs.declared.run.View.{View}
use Rattle.quic_machine.specs.Receive.{key_limit}
use Rattle.quic_machine.specs.Start.{AreKeys}
use Rattle.quic_machine.specs.Machine.{World, IsStep, Follows, view_of}
use Rattle.quic_machine.specs.RunLaws.{one_world, one_run}
use Rattle.quic_headline.specs.Runs.{Packet, In, until, state_in}
use Rattle.quic_headline.specs.Observer.{took, watch}
use Rattle.quic_headline.specs.Headline.{IsHonest, IsRun}
use Rattle.quic_headline.specs.Causes.{reason_in, unopened}
use Rattle.quic_headline.specs.Closes.{IsToldAs}
use Rattle.quic_headline.specs.Shut.{IsDrainedFor, IdlesOut, first_close, IsClosedBy, ClosesForPeer, ClosesForApplication, RefusalsClose}
use Rattle.quic_worked.specs.Worked.{steady_window, started, open_view, server_open, shut_window}
use Rattle.quic_worked.specs.Acknowledged.{client_acked}
use Rattle.quic_worked.specs.Closed.{closed_server}
use Rattle.quic_worked.specs.Ended.{drained_view, close_read, once_closed, closing_view, closing_run, idle_moment, once_idle, idle_view, idle_run}
use Rattle.quic_worked.specs.Ending.{other_peer}
use Rattle.quic_worked.specs.Isolated.{forges, refused}
use Rattle.quic_worked.specs.Machines.{NeverGives}
use Rattle.quic_worked.specs.Timed.{NeverShows}
use Rattle.quic_worked.specs.Shut.{refusing_policies, once_refused, both_open, refusing_run, refuses_on, idles_on, stays_open, ignores_close}
use Rattle.quic_worked.proofs.Codes.{no_codes}
use Rattle.quic_worked.proofs.OwnIds.{AreOwn, own_ids, honest}
use Rattle.quic_worked.proofs.WorkedKeys.{are_keys}
use Rattle.quic_worked.proofs.WorkedHonest.{are_started}
use Rattle.quic_worked.proofs.EndedRuns.{closing_is_run, closes, closed_seen, idle_started, idle_is_run}
use Rattle.quic_worked.proofs.Steps.{counts_so}

-- ---- what views show

-- a view that is at a place is the one that stands there
same_view : (u v : View) → Some u ≡ Some v → u ≡ v
same_view u v is = cc

-- the state and the reason of an end in a view that is there
abbrev state_of : Side → Option View → State
state_of side None = states.Failed
state_of side (Some v) = state_in v side

-- an end that is open is neither closing nor drained
open_closing : states.Open ≡ states.Closing → ⊥
open_closing is = cc

open_drained : states.Open ≡ states.Drained → ⊥
open_drained is = cc

-- ---- being idle

-- the second view shows that the client is drained
drained_there : (v : View) → slice_get idle_run.views 1 ≡ Some v → IsDrainedFor v Client reasons.Idle
drained_there v there =
    let same = same_view (record { client = drained_view steady_window reasons.Idle; server = server_open }) v there in
    subst (λ (u : View). IsDrainedFor u Client reasons.Idle) same (record { drained = refl; why = refl })

pub idles_so : IdlesOut idle_run
idles_so Client zero now moment a v served at there opened set due = let clash = at.event in cc
idles_so Client (suc zero) now moment a v served at there opened set due = drained_there v there
idles_so Client (suc (suc i)) now moment a v served at there opened set due = cc
idles_so Server zero now moment a v served at there opened set due = let clash = at.event in cc
idles_so Server (suc zero) now moment a v served at there opened set due = let clash = at.event in cc
idles_so Server (suc (suc i)) now moment a v served at there opened set due = cc

-- the moment comes
is_due : idle_moment ≤ max (watch idles_on Client 1).clock idle_moment
unfolding client_acked
is_due = lit≤ tt

pub idles_on_not : IdlesOut idles_on → ⊥
idles_on_not h = open_drained (h Client 1 idle_moment idle_moment (answers.Timeout (Ok tt)) idle_view refl (record { event = refl; answer = refl }) refl refl refl is_due).drained

idles_own : (side : Side) → AreOwn side [] idles_on.events idles_on.answers idles_on.views
idles_own Client = (tt, (tt, tt))
idles_own Server = (tt, (tt, tt))

pub idles_on_is_honest : IsHonest idles_on
idles_on_is_honest = record { start = idle_started; keys = are_keys; ids = own_ids idles_on idles_own }

pub never_idles_on : NeverShows idles_on
never_idles_on end f =
    let same = one_run idle_run.keys idle_run.answers idle_run.start idle_run.events idles_on.views idle_run.views end (once_idle 2) refl f idle_is_run.follows in
    absurd (open_drained (ap (λ (vs : List View). state_of Client (slice_get vs 1)) same.0))

-- ---- the application closes

-- the first view shows that the client is closing
abbrev first_view : View
first_view = record { client = closing_view; server = server_open }

closing_there : (v : View) → slice_get closing_run.views 0 ≡ Some v → (state_in v Client ≡ states.Closing) × (reason_in v Client ≡ Some reasons.Application)
closing_there v there = let same = same_view first_view v there in subst (λ (u : View). (state_in u Client ≡ states.Closing) × (reason_in u Client ≡ Some reasons.Application)) same (refl, refl)

-- the side of an event that is there
abbrev side_of : Option RunEvent → Side
side_of None = Client
side_of (Some event) = event.side

other_side_not : Client ≡ Server → ⊥
other_side_not is = cc

-- whether an event that is there is a call to close
abbrev call_closes : Call → Bool
call_closes (calls.Close c) = true
call_closes other = false

abbrev closes_by_call : Option RunEvent → Bool
closes_by_call None = false
closes_by_call (Some event) = call_closes event.call

not_close : false ≡ true → ⊥
not_close is = cc

pub application_so : ClosesForApplication closing_run
application_so Client zero close a v at there opened = closing_there v there
application_so Client (suc zero) close a v at there opened = (let clash = at.event in cc, let clash = at.event in cc)
application_so Client (suc (suc zero)) close a v at there opened = (let clash = at.event in cc, let clash = at.event in cc)
application_so Client (suc (suc (suc i))) close a v at there opened = (let clash = there in cc, let clash = there in cc)
application_so Server zero close a v at there opened = absurd (other_side_not (ap side_of at.event))
application_so Server (suc zero) close a v at there opened = absurd (other_side_not (ap side_of at.event))
application_so Server (suc (suc zero)) close a v at there opened = absurd (not_close (ap closes_by_call at.event))
application_so Server (suc (suc (suc i))) close a v at there opened = (let clash = there in cc, let clash = there in cc)

pub stays_open_not : ClosesForApplication stays_open → ⊥
stays_open_not h = open_closing (h Client 0 (record { now = 0; error_code = 7; reason = [] }) answers.Close both_open (record { event = refl; answer = refl }) refl refl).0

pub stays_open_is_honest : IsHonest stays_open
stays_open_is_honest = honest stays_open (record { start = refl; keys = refl; client = (tt, tt); server = (tt, tt) })

first_follows : Follows stays_open.keys stays_open.start stays_open.events stays_open.answers (first_view ∷ []) (once_closed 1)
first_follows = (once_closed 1, closes, closed_seen, refl)

pub never_stays_open : NeverShows stays_open
never_stays_open end f =
    let same = one_run stays_open.keys stays_open.answers stays_open.start stays_open.events stays_open.views (first_view ∷ []) end (once_closed 1) refl f first_follows in
    absurd (open_closing (ap (λ (vs : List View). state_of Client (slice_get vs 0)) same.0))

-- ---- the peer closes

-- the close that comes, and its packet
abbrev seven_frame : FrameValue
seven_frame = application_close (record { code = 7; reason = [] })

abbrev seven_packet : Packet
seven_packet = record { number = 0; frames = seven_frame ∷ [] }

-- the last view shows that the server is drained for it
abbrev last_view : View
last_view = record { client = closing_view; server = drained_view shut_window (reasons.Peer (close_read 7)) }

took_seven : took closing_run Server 3 ≡ seven_packet ∷ []
unfolding client_acked application_close_at
took_seven = refl

closed_there : (v : View) (packet : Packet) (frame : FrameValue) → slice_get closing_run.views 2 ≡ Some v → In packet (seven_packet ∷ []) → first_close packet.frames ≡ Some frame → IsClosedBy v Server frame
closed_there v packet frame there (inr none) first = absurd none
closed_there v packet frame there (inl is) first =
    let same = same_view last_view v there in
    let both : Some seven_frame ≡ Some frame = ap (λ (p : Packet). first_close p.frames) (sym is) ∙ first in
    let one : seven_frame ≡ frame = cc in
    subst (λ (f : FrameValue). IsClosedBy v Server f) one (subst (λ (u : View). IsClosedBy u Server seven_frame) same (record { close = close_read 7; told_as = (refl, refl); shown = record { drained = refl; why = refl } }))

pub peer_so : ClosesForPeer closing_run
peer_so Client zero v packet frame served there among first = absurd among
peer_so Client (suc zero) v packet frame served there among first = absurd among
peer_so Client (suc (suc zero)) v packet frame served there among first = absurd among
peer_so Client (suc (suc (suc i))) v packet frame served there among first = cc
peer_so Server zero v packet frame served there among first = absurd among
peer_so Server (suc zero) v packet frame served there among first = absurd among
peer_so Server (suc (suc zero)) v packet frame served there among first = closed_there v packet frame there (subst (In packet) took_seven among) first
peer_so Server (suc (suc (suc i))) v packet frame served there among first = cc

took_ignored : took ignores_close Server 3 ≡ seven_packet ∷ []
unfolding client_acked application_close_at
took_ignored = refl

pub ignores_close_not : ClosesForPeer ignores_close → ⊥
ignores_close_not h = open_drained (h Server 2 first_view seven_packet seven_frame refl refl (subst (In seven_packet) (sym took_ignored) (inl refl)) refl).shown.drained

took_other : took other_peer Server 3 ≡ seven_packet ∷ []
unfolding client_acked application_close_at
took_other = refl

-- the code in a reason
abbrev code_of : Option LostReason → ℕ
code_of (Some (reasons.Peer (by_application c))) = c.code
code_of reason = 0

pub other_peer_not : ClosesForPeer other_peer → ⊥
other_peer_not h = go (h Server 2 (record { client = closing_view; server = drained_view shut_window (reasons.Peer (close_read 8)) }) seven_packet seven_frame refl refl (subst (In seven_packet) (sym took_other) (inl refl)) refl)
  where
    told : (close : CloseValue) → IsToldAs seven_frame close → code_of (Some (reasons.Peer close)) ≡ 7
    told (by_transport c) said = absurd said
    told (by_application c) said = said.0

    go : IsClosedBy (record { client = closing_view; server = drained_view shut_window (reasons.Peer (close_read 8)) }) Server seven_frame → ⊥
    go c = let clash : ◌≡◌ {A = ℕ} 8 7 = ap code_of c.shown.why ∙ told c.close c.told_as in omega (arith, clash)

pub ignores_close_is_honest : IsHonest ignores_close
ignores_close_is_honest = honest ignores_close (record { start = refl; keys = refl; client = (tt, (tt, (tt, tt))); server = (tt, (tt, (tt, tt))) })

pub never_ignores_close : NeverShows ignores_close
never_ignores_close end f =
    let same = one_run closing_run.keys closing_run.answers closing_run.start closing_run.events ignores_close.views closing_run.views end (once_closed 3) refl f closing_is_run.follows in
    absurd (open_drained (ap (λ (vs : List View). state_of Server (slice_get vs 2)) same.0))

-- ---- packets that don't open

-- how many packets a key refuses is no matter of laws
refusing_keys : AreKeys refusing_policies
refusing_keys = record {
  client = are_keys.client;
  server = record { form = are_keys.server.form; width = are_keys.server.width; tag = are_keys.server.tag };
  to_server = are_keys.to_server;
  to_client = are_keys.to_client;
}

drops_first : IsStep refusing_policies started (forges 0) refused (once_refused 1)
unfolding once_refused
drops_first = record { answer = refl; end = refl; control = refl; heard = counts_so refusing_policies started (forges 0) refused; openings = refl; others = refl; lacking = tt }

closes_then : IsStep refusing_policies (once_refused 1) (forges 0) (answers.Inject (receives.Closed key_limit)) (once_refused 2)
unfolding once_refused
closes_then = record { answer = refl; end = refl; control = refl; heard = counts_so refusing_policies (once_refused 1) (forges 0) (answers.Inject (receives.Closed key_limit)); openings = λ last. refl; others = refl; lacking = tt }

open_seen : both_open ≡ view_of (once_refused 1)
unfolding once_refused
open_seen = refl

abbrev limit_view : View
limit_view = record { client = open_view; server = closed_server reasons.KeyLimit }

limit_seen : limit_view ≡ view_of (once_refused 2)
unfolding once_refused
limit_seen = refl

gave_client : refusing_run.from_client ≡ (once_refused 2).from_client
unfolding once_refused
gave_client = refl

gave_server : refusing_run.from_server ≡ (once_refused 2).from_server
unfolding once_refused
gave_server = refl

pub refusing_is_run : IsRun refusing_run (once_refused 2)
refusing_is_run = record { codes = no_codes refusing_run.events refl; follows = (once_refused 1, drops_first, open_seen, (once_refused 2, closes_then, limit_seen, refl)); from_client = gave_client; from_server = gave_server }

refusing_own : (side : Side) → AreOwn side [] refusing_run.events refusing_run.answers refusing_run.views
refusing_own Client = (tt, (tt, tt))
refusing_own Server = (tt, (tt, tt))

pub refusing_is_honest : IsHonest refusing_run
refusing_is_honest = record { start = are_started; keys = refusing_keys; ids = own_ids refusing_run refusing_own }

pub one_refused : unopened (until refusing_run Server 1) ≡ 1
one_refused = refl

pub two_refused : unopened (until refusing_run Server 2) ≡ 2
two_refused = refl

-- the server is closing in the second view
closing_not : (v : View) → slice_get refusing_run.views 1 ≡ Some v → state_in v Server ≡ states.Open → ⊥
closing_not v there opened = let same = same_view limit_view v there in open_closing (sym opened ∙ sym (ap (λ (u : View). state_in u Server) same))

pub refusals_so : RefusalsClose refusing_run
refusals_so Client zero v served there opened some small = some
refusals_so Client (suc zero) v served there opened some small = some
refusals_so Client (suc (suc i)) v served there opened some small = cc
refusals_so Server zero v served there opened some small = lit< tt
refusals_so Server (suc zero) v served there opened some small = absurd (closing_not v there opened)
refusals_so Server (suc (suc i)) v served there opened some small = cc

pub refuses_on_not : RefusalsClose refuses_on → ⊥
refuses_on_not h = let few : 2 < 2 = h Server 1 both_open refl refl refl (lit< tt) (lit< tt) in omega (arith, few)

on_own : (side : Side) → AreOwn side [] refuses_on.events refuses_on.answers refuses_on.views
on_own Client = (tt, (tt, tt))
on_own Server = (tt, (tt, tt))

pub refuses_on_is_honest : IsHonest refuses_on
refuses_on_is_honest = record { start = are_started; keys = refusing_keys; ids = own_ids refuses_on on_own }

-- the second is the last that may not open
second_last : (x : World) → (w : World) → w ≡ once_refused 1 → IsStep refusing_policies w (forges 0) refused x → ⊥
unfolding once_refused
second_last x w same step = let clash : ◌≡◌ {A = Bool} true false = (subst (λ (v : World). IsStep refusing_policies v (forges 0) refused x) same step).openings in cc

pub never_refuses_on : NeverGives refuses_on
never_refuses_on [] end is = absurd is.follows
never_refuses_on (v ∷ []) end is = absurd is.follows.3
never_refuses_on (v ∷ u ∷ more) end is =
    let f = is.follows in
    second_last f.3.0 f.0 (one_world refusing_policies started (forges 0) refused f.0 (once_refused 1) refl f.1 drops_first) f.3.1
