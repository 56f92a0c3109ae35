-- What an observer of a run's lists counts as in flight is what an open end waits for: each call
-- keeps that.
use Rattle.std.proofs.Common.{◌≡◌, ℕ, ◌+◌, ◌-◌, ◌<◌, ◌≤◌, ◌^◌, max, min, Bool, true, false, ◌||◌, List, [], ◌∷◌, ◌++◌, length, take, replicate, Option, Some, None, Ok, refl, sym, ap, ◌∙◌, subst, arith}
use Rattle.std.specs.Prelude.{if◌then◌else◌}
use Rattle.std.specs.List.{list_any}
use Rattle.std.proofs.lemmas.Bool.{lt-ltb, le-ltb}
use Rattle.std.proofs.lemmas.List.{append-nil}
use Rattle.quic_wire.specs.Value.{FrameValue, connection_close, application_close, padding}
use Rattle.quic_packet.specs.Datagram.{opened_packet}
use Rattle.quic_packet.proofs.Opening.{sent_length}
use Rattle.quic_recovery_core.specs.PendingAcks.{Pending}
use Rattle.quic_time.specs.Timers.{Timers, has_come}
use Rattle.quic_machine.specs.declared.answers.State.{State}
use Rattle.quic_machine.specs.declared.answers.State.TheVariants as states
use Rattle.quic_machine.specs.declared.answers.LostReason.{LostReason}
use Rattle.quic_machine.specs.declared.answers.LostReason.TheVariants as reasons
use Rattle.quic_machine.specs.declared.run.Call.{Call}
use Rattle.quic_machine.specs.declared.run.Call.TheVariants as calls
use Rattle.quic_machine.specs.declared.run.Delivery.{Delivery}
use Rattle.quic_machine.specs.declared.run.Answer.{Answer}
use Rattle.quic_machine.specs.declared.run.Answer.TheVariants as answers
use Rattle.quic_machine.specs.Policy.{Policy, CanOpen}
use Rattle.quic_machine.specs.Closing.{Closing, ticked}
use Rattle.quic_machine.specs.Opens.{own_id_length}
use Rattle.quic_machine.specs.Start.{IsLawful}
use Rattle.quic_spaces.specs.Numbers.{Numbers, cut_against}
use Rattle.quic_machine.specs.Parts.{Path, Validation, Signals}
use Rattle.quic_machine.specs.Tracking.{Tracking}
use Rattle.quic_machine.specs.End.{End, number_of, with_closing, closed_by, drained_by, with_loss_timer, with_path_timer, challenged}
use Rattle.quic_machine.specs.Idle.{keep_alive_expired}
use Rattle.quic_machine.specs.Timeouts.{acks_expired, loss_judged, loss_expired, pacing_expired, timed_out_in, timed_out, Expiry, expiry_at, after_others, unless_idle}
use Rattle.quic_machine.specs.Poll.{Polled, Draft, zeros_behind, payload_of, datagram_of, datagram_size, gives_datagram, draft_as, close_to_go, closes_if, closes, after_close, after_given, bounds, goes, rests, sends, polled_if, polled_in, polled, Ready}
use Rattle.quic_machine.specs.Poll as poll
use Rattle.quic_machine.specs.Machine.{after_call, fails, gave}
use Rattle.quic_machine.specs.CallCases.{Plain, is_delivery, is_poll, is_timeout, by_plain_call}
use Rattle.quic_machine.specs.CallCases as cases
use Rattle.quic_machine.specs.PollCases.{ready_at, ready_leaves, draft_at, frames_padded, given_as, Composes, composes, bounds_none, poll_left, may_leave_at}
use Rattle.quic_machine.specs.FrameCases.{Settling, losses_keep}
use Rattle.quic_headline.specs.Runs.{Told, Packet, Intake, acknowledged, and_handed, and_told, folded}
use Rattle.quic_headline.specs.Observer.{Sent, Terms, loss_due, is_past, expired_for, after_packets, and_flying, and_sent, and_all_sent, Watch, news, has_opened, moment_of, clock_behind, is_close, moment_for, sent_as, next_number, after_frames, watch_sent, Lens, watch_given, is_timely, watch_moment, watch_came, watch_told, Flight, Route, route_behind, watch_moved}
use Rattle.quic_headline.proofs.Packets.Invariant.{IsSent, KnowsIn, IsBehind}
use Rattle.quic_headline.proofs.Packets.Intakes.{nothing_handed, none_handed}
use Rattle.quic_headline.proofs.Packets.Delivered.{with_taken}
use Rattle.quic_headline.proofs.Packets.Probes.{by_going}
use Rattle.quic_headline.proofs.Packets.Given.{allocated_near, draft_number, number_small}
use Rattle.quic_headline.proofs.Packets.CloseForms.{close_small}
use Rattle.quic_headline.proofs.Packets.Owing.{Owes, close_is, error_owes}
use Rattle.quic_headline.proofs.Packets.References.{cut_before, reference_read, moment_read}
use Rattle.quic_headline.proofs.Packets.Waited.{AreWaited}
use Rattle.quic_headline.proofs.Packets.Closeless.{sent_closeless}
use Rattle.quic_headline.proofs.Packets.Flying.{Held, held, request_in, IsAsked, Waits, Loses, timer_is, sent_read, draft_waits, ticked_waits, ready_waits, expired_waits, expired_flies}
use Rattle.quic_headline.proofs.Timers.LossTimers.{OpenStands, LossStands, ready_stands}
use Rattle.quic_headline.proofs.Places.Parties.{close_if, close_draft, given_in, draft_given, sent_as as draft_sent, sent_by, sent_if, told_of}
use Rattle.quic_machine.specs.DraftLaws.{IsClose, MayLeave}
use Rattle.quic_machine.specs.LeaveCases.{Expired, by_expiring, by_busy}
use Rattle.quic_machine.specs.LeaveCases as expiring
use Rattle.quic_machine.specs.Steps as steps
use Rattle.quic_headline.proofs.Packets.Apart.{AsksOn, next_frequency, by_waits, by_next_id}

-- ---- the observer

-- what came with a call is taken
abbrev pub came_with : Lens → Told → Watch → Watch
came_with l t w =
    let after = and_told l.own l.peer_gave t w.intake in
    watch_came l.terms after (clock_behind w.clock (moment_of t.state (has_opened w.intake after) t.call)) (watch_moved l.serves after t.call w)

-- and the moment that the call tells
abbrev pub timed_with : Lens → Told → Watch → Watch
timed_with l t w = watch_moment (is_timely t.state t.call) l.terms (came_with l t w)

-- a moment changes what is in flight, and nothing else
moment_leaves : (b : Bool) (t : Terms) (w : Watch) → watch_moment b t w ≡ record w { flight = (watch_moment b t w).flight }
moment_leaves true t w = refl
moment_leaves false t w = refl

-- only a timeout tells one
pub untimely : (state : State) (call : Call) → is_timeout call ≡ false → is_timely state call ≡ false
untimely states.Open (calls.Timeout now) other = cc
untimely states.Open call other = refl
untimely states.Closing call other = refl
untimely states.Drained call other = refl
untimely states.Failed call other = refl

-- a datagram that is given leaves what came
sent_intake : (taker : Policy) (ds : List (List ℕ)) (w : Watch) → (watch_sent taker ds w).intake ≡ w.intake
sent_intake taker [] w = refl
sent_intake taker (d ∷ ds) w = refl

given_intake : (b : Bool) (l : Lens) (w : Watch) → (watch_given b l w).intake ≡ w.intake
given_intake true l w = sent_intake l.taker w.left w
given_intake false l w = refl

-- what came to the end is its intake
pub watched_intake : (l : Lens) (told : List Told) (w : Watch) → (folded (watch_told l) told w).intake ≡ folded (and_told l.own l.peer_gave) told w.intake
watched_intake l [] w = refl
watched_intake l (t ∷ told) w =
    watched_intake l told (watch_told l t w)
    ∙ ap (λ (i : Intake). folded (and_told l.own l.peer_gave) told i) (given_intake (gave t.answer) l (timed_with l t w) ∙ ap (λ (v : Watch). v.intake) (moment_leaves (is_timely t.state t.call) l.terms (came_with l t w)))

-- between an intake and itself, no packet opened
pub none_opened : (i : Intake) → has_opened i i ≡ false
none_opened i = le-ltb (length i.opened) (length i.opened) (omega arith)

-- and none was taken
pub none_new : (i : Intake) → news i i ≡ []
none_new i = let none : length i.took - length i.took ≡ 0 = omega arith in ap (λ (n : ℕ). take n i.took) none

-- where one packet more was taken, one opened
pub one_opened : (i : Intake) (n : ℕ) (frames : List FrameValue) → has_opened i (with_taken i n frames) ≡ true
one_opened i n frames = lt-ltb (length i.opened) (length (n ∷ i.opened)) (omega arith)

-- and it alone was taken
pub one_new : (i : Intake) (n : ℕ) (frames : List FrameValue) → news i (with_taken i n frames) ≡ record { number = n; frames = frames } ∷ []
one_new i n frames = let one : length (record { number = n; frames = frames } ∷ i.took) - length i.took ≡ 1 = omega arith in ap (λ (k : ℕ). take k (record { number = n; frames = frames } ∷ i.took)) one

-- where none was, the peer is where it was
route_same : (serves : Bool) (before : List Packet) (call : Call) (r : Route) → route_behind serves before [] call r ≡ r
route_same true before call r = refl
route_same false before call r = refl

pub moved_none : (serves : Bool) (call : Call) (w : Watch) → watch_moved serves w.intake call w ≡ w
moved_none serves call w = ap (λ (ps : List Packet). record w { route = route_behind serves w.intake.took ps call w.route }) (none_new w.intake) ∙ ap (λ (r : Route). record w { route = r }) (route_same serves w.intake.took call w.route)

-- where nothing came, only the clock may change
came_none : (t : Terms) (w : Watch) (state : State) (call : Call) → watch_came t w.intake (clock_behind w.clock (moment_of state (has_opened w.intake w.intake) call)) w ≡ record w { clock = clock_behind w.clock (moment_of state false call) }
came_none t w state call =
    ap (λ (b : Bool). watch_came t w.intake (clock_behind w.clock (moment_of state b call)) w) (none_opened w.intake)
    ∙ ap (λ (ps : List Packet). record w { clock = clock_behind w.clock (moment_of state false call); flight = after_packets t (clock_behind w.clock (moment_of state false call)) ps w.flight }) (none_new w.intake)

-- so it is by a call at which nothing came
pub came_quiet : (l : Lens) (t : Told) (w : Watch) → and_told l.own l.peer_gave t w.intake ≡ w.intake → came_with l t w ≡ record w { clock = clock_behind w.clock (moment_of t.state false t.call) }
came_quiet l t w same =
    ap (λ (i : Intake). watch_came l.terms i (clock_behind w.clock (moment_of t.state (has_opened w.intake i) t.call)) (watch_moved l.serves i t.call w)) same
    ∙ ap (λ (v : Watch). watch_came l.terms w.intake (clock_behind w.clock (moment_of t.state (has_opened w.intake w.intake) t.call)) v) (moved_none l.serves t.call w)
    ∙ came_none l.terms w t.state t.call

-- only at a delivery something comes
pub none_comes : (l : Lens) (t : Told) (i : Intake) → is_delivery t.call ≡ false → and_told l.own l.peer_gave t i ≡ i
none_comes l t i apart = ap (λ (o : Option (List ℕ)). and_handed t.state o l.own t.answer i) (none_handed l.peer_gave t.call t.answer apart) ∙ nothing_handed t.state l.own t.answer i

-- and by one that gave nothing either
pub told_timed : (l : Lens) (t : Told) (w : Watch) → gave t.answer ≡ false → and_told l.own l.peer_gave t w.intake ≡ w.intake → watch_told l t w ≡ watch_moment (is_timely t.state t.call) l.terms (record w { clock = clock_behind w.clock (moment_of t.state false t.call) })
told_timed l t w none same = ap (λ (b : Bool). watch_given b l (timed_with l t w)) none ∙ ap (λ (v : Watch). watch_moment (is_timely t.state t.call) l.terms v) (came_quiet l t w same)

-- where it tells no moment, only the clock may change
pub told_quiet : (l : Lens) (t : Told) (w : Watch) → is_timeout t.call ≡ false → gave t.answer ≡ false → and_told l.own l.peer_gave t w.intake ≡ w.intake → watch_told l t w ≡ record w { clock = clock_behind w.clock (moment_of t.state false t.call) }
told_quiet l t w other none same = told_timed l t w none same ∙ ap (λ (b : Bool). watch_moment b l.terms (record w { clock = clock_behind w.clock (moment_of t.state false t.call) })) (untimely t.state t.call other)

-- what is left, and what was given, a moment leaves
timed_left : (l : Lens) (t : Told) (w : Watch) → (timed_with l t w).left ≡ w.left
timed_left l t w = ap (λ (v : Watch). v.left) (moment_leaves (is_timely t.state t.call) l.terms (came_with l t w))

timed_own : (l : Lens) (t : Told) (w : Watch) → (timed_with l t w).own ≡ w.own
timed_own l t w = ap (λ (v : Watch). v.own) (moment_leaves (is_timely t.state t.call) l.terms (came_with l t w))

-- what is given is the first of what was to be given
pub told_left : (l : Lens) (t : Told) (w : Watch) (ds rest : List (List ℕ)) (b : Bool) → gave t.answer ≡ b → length ds ≡ (if b then 1 else 0) → w.left ≡ ds ++ rest → (watch_told l t w).left ≡ rest
told_left l t w [] rest true is count left = absurd (omega arith)
told_left l t w [] rest false is count left = ap (λ (b : Bool). (watch_given b l (timed_with l t w)).left) is ∙ timed_left l t w ∙ left
told_left l t w (d ∷ []) rest true is count left = ap (λ (b : Bool). (watch_given b l (timed_with l t w)).left) is ∙ ap (λ (xs : List (List ℕ)). (watch_sent l.taker xs (timed_with l t w)).left) (timed_left l t w ∙ left)
told_left l t w (d ∷ []) rest false is count left = absurd (omega arith)
told_left l t w (c ∷ d ∷ ds) rest true is count left = absurd (omega arith)
told_left l t w (c ∷ d ∷ ds) rest false is count left = absurd (omega arith)

-- where nothing is given, nothing more was
pub told_own : (l : Lens) (t : Told) (w : Watch) → gave t.answer ≡ false → (watch_told l t w).own ≡ w.own
told_own l t w none = ap (λ (b : Bool). (watch_given b l (timed_with l t w)).own) none ∙ timed_own l t w

-- ---- an end that is watched

-- a path leads to this address, and is this one
abbrev pub IsRoute : Route → Path → Type 0
IsRoute r p = (p.remote ≡ r.address) × (p.generation ≡ r.generation)

-- an observer knows the clock of an open end, by what it judges losses, and what it waits for; and
-- where the end takes its peer to be, and how often that changed
pub record IsWatched (t : Terms) (w : Watch) (e : End) : Type 0 where
  pub path : e.path.generation ≡ w.route.generation
  pub address : e.path.remote ≡ w.route.address
  pub flight : e.closing.state ≡ states.Open → Waits t w.clock w.flight (held e)

-- of an end that closed, nothing is said but the path
pub closed_watched : (t : Terms) (w : Watch) (e : End) → IsRoute w.route e.path → (e.closing.state ≡ states.Open → ⊥) → IsWatched t w e
closed_watched t w e route closed = record { path = route.1; address = route.0; flight = λ opened. absurd (closed opened) }

-- of an end whose observer knows it
pub route_of : (t : Terms) (w : Watch) (e : End) → IsWatched t w e → IsRoute w.route e.path
route_of t w e i = (i.address, i.path)

-- an end that has what another has of all that its observer knows, but for the path
pub record Alike (e f : End) : Type 0 where
  pub clock : f.closing.clock ≡ e.closing.clock
  pub numbers : f.numbers ≡ e.numbers
  pub tracking : f.tracking ≡ e.tracking
  pub transport : f.transport ≡ e.transport
  pub peer : f.peer_params ≡ e.peer_params
  pub rtt : f.path.rtt ≡ e.path.rtt
  pub delay : f.frequency.peer_delay ≡ e.frequency.peer_delay
  pub request : f.frequency.in_flight ≡ e.frequency.in_flight

-- it waits for what the other waits for
pub alike_waits : (t : Terms) (clock : ℕ) (flight : Flight) (e f : End) → Alike e f → Waits t clock flight (held e) → Waits t clock flight (held f)
alike_waits t clock flight e f l before =
    let told = before.tells in
    record {
      tells = record {
        terms = told.terms ∙ rw (l.transport, l.peer) refl;
        clock = told.clock ∙ sym l.clock;
        named = told.named ∙ ap (λ (x : Numbers). x.largest_acked) (sym l.numbers);
        waits = subst (λ (x : Tracking). AreWaited flight.flying x.packets) (sym l.tracking) told.waits;
        asked = subst (λ (x : Tracking). IsAsked flight.asked x) (sym l.tracking) told.asked;
        rtt = told.rtt ∙ sym l.rtt;
        delay = told.delay ∙ sym l.delay;
        request = told.request ∙ ap request_in (sym l.request);
      };
      loss_time = before.loss_time ∙ ap (λ (x : Tracking). x.loss_time) (sym l.tracking);
      expiries = before.expiries ∙ ap (λ (x : Tracking). min x.timeouts 16) (sym l.tracking);
      probes = before.probes ∙ ap (λ (x : Tracking). x.probes) (sym l.tracking);
    }

-- ---- a delivery

-- a delivery counts for the clock only where its packet opened
pub undelivered : (state : State) (delivery : Delivery) → moment_of state false (calls.Deliver delivery) ≡ None
undelivered states.Open delivery = refl
undelivered states.Closing delivery = refl
undelivered states.Drained delivery = refl
undelivered states.Failed delivery = refl

-- what an observer knows once a delivery brought this
abbrev pub with_delivery : Terms → Watch → State → Delivery → Intake → Watch
with_delivery t w state delivery i = watch_came t i (clock_behind w.clock (moment_of state (has_opened w.intake i) (calls.Deliver delivery))) w

-- a delivery that brings nothing
pub nothing_delivered : (t : Terms) (w : Watch) (state : State) (delivery : Delivery) → with_delivery t w state delivery w.intake ≡ w
nothing_delivered t w state delivery = came_none t w state (calls.Deliver delivery) ∙ ap (λ (o : Option ℕ). record w { clock = clock_behind w.clock o }) (undelivered state delivery)

-- one that brings a packet which is taken
pub packet_delivered : (t : Terms) (w : Watch) (state : State) (delivery : Delivery) (n : ℕ) (frames : List FrameValue) → state ≡ states.Open
    → with_delivery t w state delivery (with_taken w.intake n frames) ≡ record w { intake = with_taken w.intake n frames; clock = max w.clock delivery.now; flight = after_frames t (max w.clock delivery.now) frames w.flight }
packet_delivered t w state delivery n frames opened =
    let after : Intake = with_taken w.intake n frames in
    ap (λ (s : State). with_delivery t w s delivery after) opened
    ∙ ap (λ (b : Bool). watch_came t after (clock_behind w.clock (moment_of states.Open b (calls.Deliver delivery))) w) (one_opened w.intake n frames)
    ∙ ap (λ (ps : List Packet). record w { intake = after; clock = max w.clock delivery.now; flight = after_packets t (max w.clock delivery.now) ps w.flight }) (one_new w.intake n frames)

-- ---- a poll

-- a close is one
pub closes_is : (f : FrameValue) → IsClose f → is_close f ≡ true
closes_is (connection_close c) is = refl
closes_is (application_close c) is = refl
closes_is f is = absurd is

module _ (l : Lens) (rest : List (List ℕ)) (lawful : IsLawful l.own) (mates : CanOpen l.own l.taker) (e : End) (w : Watch) (behind : IsBehind e.numbers) (next : e.numbers.next ≡ next_number w.own) (owes : Owes e) (stands : LossStands e)
    (knows : e.closing.state ≡ states.Open → cut_against e.numbers ≡ acknowledged w.intake.took) (watched_before : IsWatched l.terms w e) where
  -- what the observer knows behind a poll that comes to this
  abbrev behind_poll : ℕ → State → Polled → Watch
  behind_poll now state r = watch_told l (told_of (calls.Poll now) (answers.Poll r.answer) state) w

  -- what a poll gives was sent so
  abbrev pub GivesAt : ℕ → Polled → Type 0
  GivesAt now r = (d : List ℕ) → r.datagram ≡ Some d → IsSent l.own (sent_by l.own e now) d

  -- an observer goes on with what a poll comes to, where what it gives is the first of what was to
  -- be given
  abbrev GoesOn : ℕ → State → Polled → Type 0
  GoesOn now state r = GivesAt now r → w.left ≡ given_as r.answer r.datagram ++ rest → ((behind_poll now state r).own ≡ w.own ++ sent_if (gave (answers.Poll r.answer)) (sent_by l.own e now)) × IsWatched l.terms (behind_poll now state r) r.end

  -- the path of an end that is ready
  ready_path : (now : ℕ) → IsRoute w.route (ready_at e now).end.path
  ready_path now = subst (λ (x : End). IsRoute w.route x.path) (sym (ready_leaves e now)) (route_of l.terms w e watched_before)

  -- the moment is taken over
  moment_watched : (now : ℕ) → e.closing.state ≡ states.Open → IsWatched l.terms (record w { clock = max w.clock now }) (ready_at e now).end
  moment_watched now opened = record { path = (ready_path now).1; address = (ready_path now).0; flight = λ still. ready_waits l.terms w.clock now w.flight e (stands opened).stands.lies (watched_before.flight opened) }

  -- a poll that gives nothing
  none_goes_on : (now : ℕ) (state : State) (f : End) → IsWatched l.terms (record w { clock = clock_behind w.clock (moment_of state false (calls.Poll now)) }) f → GoesOn now state (record { answer = Ok None; datagram = None; end = f })
  none_goes_on now state f i none left =
      let t : Told = told_of (calls.Poll now) (answers.Poll (Ok None)) state in (
        told_own l t w refl ∙ sym (append-nil w.own),
        subst (λ (v : Watch). IsWatched l.terms v f) (sym (told_quiet l t w refl refl (nothing_handed state l.own t.answer w.intake))) i,
      )

  -- the end that is ready has the numbers of the end
  ready_is : (now : ℕ) → (ready_at e now).end ≡ poll_left e now (ready_at e now).end
  ready_is now = ready_leaves e now

  -- what goes of an end that has this draft, the observer reads as it was sent: one that closes
  -- nothing, where it knows what that was cut against, and when it went
  module _ (now : ℕ) (state : State) (x : Draft) (f : End) (number : number_of x.end ≡ number_of e) (cut : cut_against x.end.numbers ≡ cut_against e.numbers) (near : number_of e - cut_against e.numbers < 2 ^ 31)
      (known : list_any is_close (frames_padded x) ≡ false → (cut_against e.numbers ≡ acknowledged w.intake.took) × (clock_behind w.clock (moment_of state false (calls.Poll now)) ≡ max e.closing.clock now))
      (was : IsSent l.own (draft_sent e now x) (datagram_of l.own x)) (left : w.left ≡ datagram_of l.own x ∷ rest) where
    abbrev d : List ℕ
    d = datagram_of l.own x

    abbrev s : Sent
    s = draft_sent e now x

    abbrev closing : Bool
    closing = list_any is_close (frames_padded x)

    abbrev clock : ℕ
    clock = clock_behind w.clock (moment_of state false (calls.Poll now))

    abbrev ticks : Watch
    ticks = record w { clock = clock_behind w.clock (moment_of state false (calls.Poll now)) }

    abbrev given : Told
    given = told_of (calls.Poll now) (answers.Poll (gives_datagram (datagram_of l.own x) f).answer) state

    -- it has as many bytes as was told of it
    size : length d ≡ datagram_size x
    size =
        let near_so : number_of x.end - cut_against x.end.numbers < 2 ^ 31 = subst (λ (n : ℕ). n - cut_against x.end.numbers < 2 ^ 31) (sym number) (subst (λ (n : ℕ). number_of e - n < 2 ^ 31) (sym cut) near) in
        let long = sent_length l.own.header l.own.packet lawful.width lawful.tag (number_of x.end) (cut_against x.end.numbers) x.end.ids.peer.id (payload_of x) near_so in
        omega arith

    -- the number that is expected
    after : next_number w.own ≤ number_of e
    after = let more = (allocated_near e.filter e.numbers.next).0 in let same = next in omega arith

    before : s.reference ≤ next_number w.own
    before = subst (λ (n : ℕ). s.reference ≤ n) next (cut_before closing (number_of e) (cut_against e.numbers) e.numbers.next (allocated_near e.filter e.numbers.next).1 behind)

    -- the observer reads it as it was sent
    read : sent_as (opened_packet l.taker.header l.taker.packet (own_id_length + 1) (next_number w.own) d) (acknowledged w.intake.took) clock w.route.generation d ≡ s ∷ []
    read =
        sent_read l.own l.taker e.ids.peer.id (number_of e) s.reference (frames_padded x) d was mates lawful (next_number w.own) before after (acknowledged w.intake.took) clock w.route.generation
        ∙ ap (λ (r : ℕ). record { id = e.ids.peer.id; number = number_of e; reference = r; frames = frames_padded x; moment = moment_for closing clock; size = length d; generation = w.route.generation } ∷ [])
        (reference_read closing (number_of e) (cut_against e.numbers) (acknowledged w.intake.took) (λ ordinary. (known ordinary).0))
        ∙ ap (λ (m : ℕ). record { id = e.ids.peer.id; number = number_of e; reference = s.reference; frames = frames_padded x; moment = m; size = length d; generation = w.route.generation } ∷ [])
        (moment_read closing clock (max e.closing.clock now) (λ ordinary. (known ordinary).1))
        ∙ ap (λ (n : ℕ). record { id = e.ids.peer.id; number = number_of e; reference = s.reference; frames = frames_padded x; moment = s.moment; size = n; generation = w.route.generation } ∷ []) size
        ∙ ap (λ (g : ℕ). record { id = e.ids.peer.id; number = number_of e; reference = s.reference; frames = frames_padded x; moment = s.moment; size = s.size; generation = g } ∷ []) (sym watched_before.path)

    behind_given : behind_poll now state (gives_datagram (datagram_of l.own x) f) ≡ record ticks { left = rest; own = w.own ++ s ∷ []; flight = and_sent s w.flight }
    behind_given =
        ap (λ (b : Bool). watch_given true l (watch_moment b l.terms (came_with l given w))) (untimely state (calls.Poll now) refl)
        ∙ ap (λ (v : Watch). watch_given true l v) (came_quiet l given w (nothing_handed state l.own given.answer w.intake))
        ∙ ap (λ (ds : List (List ℕ)). watch_sent l.taker ds ticks) left
        ∙ ap (λ (ss : List Sent). record ticks { left = rest; own = w.own ++ ss; flight = and_all_sent ss w.flight }) read

  -- an open end knows what it cuts a number against, and its clock
  open_knows : (now : ℕ) → e.closing.state ≡ states.Open → (cut_against e.numbers ≡ acknowledged w.intake.took) × (max w.clock now ≡ max e.closing.clock now)
  open_knows now opened = (knows opened, ap (λ (n : ℕ). max n now) (watched_before.flight opened).tells.clock)

  -- one that gives a datagram
  one_goes_on : (now : ℕ) → e.closing.state ≡ states.Open → bounds l.own e ≡ None → GoesOn now states.Open (gives_datagram (datagram_of l.own (draft_at e now)) (after_given l.own (draft_at e now)))
  one_goes_on now opened bound sent left =
      subst (λ (x : Draft). ((behind_poll now states.Open (gives_datagram (datagram_of l.own draft) (after_given l.own draft))).own ≡ w.own ++ draft_sent e now x ∷ [])
      × IsWatched l.terms (behind_poll now states.Open (gives_datagram (datagram_of l.own draft) (after_given l.own draft))) (after_given l.own draft)) (sym same)
      (ap (λ (v : Watch). v.own) is, subst (λ (v : Watch). IsWatched l.terms v (after_given l.own draft)) (sym (is ∙ flies)) after)
    where
      g : Ready
      g = ready_at e now

      before : End
      before = g.end

      draft : Draft
      draft = draft_at e now

      same : draft_given l.own e now ≡ draft
      same = ap (λ (state : State). given_in state (bounds l.own e) l.own e now) opened ∙ ap (λ (o : Option LostReason). given_in states.Open o l.own e now) bound

      may : MayLeave g.leaving before
      may = may_leave_at e now

      ready : g.end ≡ poll_left e now g.end
      ready = ready_is now

      c : Composes before draft.end
      c = composes g.leaving before may

      s : Sent
      s = draft_sent e now draft

      ticks : Watch
      ticks = record w { clock = max w.clock now }

      is : behind_poll now states.Open (gives_datagram (datagram_of l.own draft) (after_given l.own draft)) ≡ record ticks { left = rest; own = w.own ++ s ∷ []; flight = and_sent s w.flight }
      is = behind_given now states.Open draft (after_given l.own draft) (draft_number g.leaving before may ∙ ap (λ (x : End). number_of x) ready)
          (ap (λ (x : Numbers). cut_against x) c.numbers ∙ ap (λ (x : End). cut_against x.numbers) ready) (number_small e.filter e.numbers (bounds_none l.own e bound).0).1 (λ ordinary. open_knows now opened)
          (subst (λ (x : Draft). IsSent l.own (draft_sent e now x) (datagram_of l.own draft)) same (sent (datagram_of l.own draft) refl)) left

      flies : record ticks { left = rest; own = w.own ++ s ∷ []; flight = and_sent s w.flight } ≡ record ticks { left = rest; own = w.own ++ s ∷ []; flight = and_flying s w.flight }
      flies = ap (λ (b : Bool). record ticks { left = rest; own = w.own ++ s ∷ []; flight = if b then w.flight else and_flying s w.flight }) (sent_closeless e now)

      after : IsWatched l.terms (record ticks { left = rest; own = w.own ++ s ∷ []; flight = and_flying s w.flight }) (after_given l.own draft)
      after = record {
        path = by_going (λ (x : End). x.path.generation ≡ w.route.generation) l.own draft (λ going. ap (λ (x : Path). x.generation) c.path ∙ (ready_path now).1);
        address = by_going (λ (x : End). x.path.remote ≡ w.route.address) l.own draft (λ going. ap (λ (x : Path). x.remote) c.path ∙ (ready_path now).0);
        flight = λ still.
            let open_still : g.end.closing.state ≡ states.Open = ap (λ (x : End). x.closing.state) ready ∙ opened in
            draft_waits l.own l.terms (max w.clock now) g.leaving before s w.flight may (ap (λ (x : End). x.path.generation) ready) (ap (λ (x : End). number_of x) (sym ready))
            (ap (λ (b : Bool). moment_for b (max e.closing.clock now)) (sent_closeless e now) ∙ ap (λ (x : End). x.closing.clock) (sym ready)) refl refl
            (ready_stands e now stands open_still).stands.lies (allocated_near before.filter before.numbers.next).0 ((moment_watched now opened).flight open_still);
      }

  -- an end that closes or is closing gives its close, or nothing
  module _ (now : ℕ) (state : State) (y : End) (number : number_of y ≡ number_of e) (cut : cut_against y.numbers ≡ cut_against e.numbers) (due : Owes y) (closed : y.closing.state ≡ states.Open → ⊥)
      (path : IsRoute w.route y.path) (same : draft_given l.own e now ≡ close_draft l.own y) where
    one_close : (f : FrameValue) → close_to_go l.own y ≡ Some f → GoesOn now state (closes_if (Some f) l.own y)
    one_close f goes sent left =
        subst (λ (x : Draft). ((behind_poll now state (closes_if (Some f) l.own y)).own ≡ w.own ++ draft_sent e now x ∷ []) × IsWatched l.terms (behind_poll now state (closes_if (Some f) l.own y)) (after_close l.own draft)) (sym alike)
        (ap (λ (v : Watch). v.own) is, subst (λ (v : Watch). IsWatched l.terms v (after_close l.own draft)) (sym is) (closed_watched l.terms sent_behind (after_close l.own draft) path closed))
      where
        draft : Draft
        draft = draft_as (poll.closing f) y

        alike : draft_given l.own e now ≡ draft
        alike = same ∙ ap (λ (o : Option FrameValue). close_if o y) goes

        near : number_of e - cut_against e.numbers < 2 ^ 31
        near = subst (λ (n : ℕ). n - cut_against e.numbers < 2 ^ 31) number (subst (λ (n : ℕ). number_of y - n < 2 ^ 31) cut (close_small l.own y f goes).1)

        -- it closes
        closing_so : list_any is_close (frames_padded draft) ≡ true
        closing_so = ap (λ (b : Bool). b || list_any is_close (replicate (zeros_behind draft) padding)) (closes_is f (close_is l.own y due f goes))

        sent_behind : Watch
        sent_behind = record (record w { clock = clock_behind w.clock (moment_of state false (calls.Poll now)) }) { left = rest; own = w.own ++ draft_sent e now draft ∷ []; flight = and_sent (draft_sent e now draft) w.flight }

        is : behind_poll now state (closes_if (Some f) l.own y) ≡ sent_behind
        is = behind_given now state draft (after_close l.own draft) number cut near (λ ordinary. (let clash : true ≡ false = sym closing_so ∙ ordinary in cc))
            (subst (λ (x : Draft). IsSent l.own (draft_sent e now x) (datagram_of l.own draft)) alike (sent (datagram_of l.own draft) refl)) left

    closes_on : (o : Option FrameValue) → close_to_go l.own y ≡ o → GoesOn now state (closes_if o l.own y)
    closes_on None none = none_goes_on now state y (closed_watched l.terms (record w { clock = clock_behind w.clock (moment_of state false (calls.Poll now)) }) y path closed)
    closes_on (Some f) goes = one_close f goes

  -- an open end that closes
  close_goes_on : (now : ℕ) → e.closing.state ≡ states.Open → (reason : LostReason) → bounds l.own e ≡ Some reason → GoesOn now states.Open (closes l.own (closed_by reason (ready_at e now).end))
  close_goes_on now opened reason bound = closes_on now states.Open y (ap (λ (x : End). number_of x) (ready_is now)) (ap (λ (x : End). cut_against x.numbers) (ready_is now)) (error_owes reason (ready_at e now).end) (λ still. cc) (ready_path now)
      (ap (λ (state : State). given_in state (bounds l.own e) l.own e now) opened ∙ ap (λ (o : Option LostReason). given_in states.Open o l.own e now) bound) (close_to_go l.own y) refl
    where
      y : End
      y = closed_by reason (ready_at e now).end

  -- an open end
  open_goes_on : (now : ℕ) → e.closing.state ≡ states.Open → (b : Bool) → goes (ready_at e now) ≡ b → GoesOn now states.Open (polled_if b l.own (ready_at e now))
  open_goes_on now opened false none = none_goes_on now states.Open (rests (ready_at e now)) (let i = moment_watched now opened in record { path = i.path; address = i.address; flight = i.flight })
  open_goes_on now opened true some = subst (λ (o : Option LostReason). GoesOn now states.Open (sends o l.own (ready_at e now))) (ap (λ (x : End). bounds l.own x) (sym (ready_is now))) (go (bounds l.own e) refl)
    where
      go : (o : Option LostReason) → bounds l.own e ≡ o → GoesOn now states.Open (sends o l.own (ready_at e now))
      go None bound = one_goes_on now opened bound
      go (Some reason) bound = close_goes_on now opened reason bound

  -- a closing end
  closing_goes_on : (now : ℕ) → e.closing.state ≡ states.Closing → GoesOn now states.Closing (closes l.own (with_closing e (ticked e.closing now)))
  closing_goes_on now is = closes_on now states.Closing (with_closing e (ticked e.closing now)) refl refl owes (λ still. (let clash : states.Closing ≡ states.Open = sym is ∙ still in cc)) (route_of l.terms w e watched_before)
      (ap (λ (state : State). given_in state (bounds l.own e) l.own e now) is) (close_to_go l.own (with_closing e (ticked e.closing now))) refl

  -- any end that doesn't fail
  poll_goes_on : (now : ℕ) (state : State) → e.closing.state ≡ state → fails (answers.Poll (polled_in state l.own e now).answer) ≡ false → GoesOn now state (polled_in state l.own e now)
  poll_goes_on now states.Open opened served = open_goes_on now opened (goes (ready_at e now)) refl
  poll_goes_on now states.Closing is served = closing_goes_on now is
  poll_goes_on now states.Drained is served = none_goes_on now states.Drained e watched_before
  poll_goes_on now states.Failed is served = cc

  -- a poll of an end
  pub poll_watched : (now : ℕ) → fails (answers.Poll (polled l.own e now).answer) ≡ false → GoesOn now e.closing.state (polled l.own e now)
  poll_watched now served = poll_goes_on now e.closing.state refl served

-- ---- a timeout

-- both say whether a moment has come
pub past_same : (o : Option ℕ) (clock : ℕ) → has_come o clock ≡ is_past o clock
past_same None clock = refl
past_same (Some moment) clock = refl

-- an expired timer of losses leaves where the path leads, and which it is
pub settles_route : (r : Route) → Settling (λ (x : End). IsRoute r x.path)
settles_route r (steps.known n) x i = i
settles_route r s x i = i

expired_path : (r : Route) (b : Bool) (e : End) → IsRoute r e.path → IsRoute r (loss_expired b e).path
expired_path r false e i = i
expired_path r true e i = go e.tracking.loss_time
  where
    go : (o : Option ℕ) → IsRoute r (loss_judged o e).path
    go None = i
    go (Some moment) = losses_keep (λ (x : End). IsRoute r x.path) (settles_route r) e i

-- the observer says with the end whether its timer of losses expires
pub timer_expires : (t : Terms) (w : Watch) (e : End) (now : ℕ) → OpenStands e → Waits t w.clock w.flight (held e) → has_come e.timers.loss_detection (max e.closing.clock now) ≡ is_past (loss_due w.flight) (max w.clock now)
timer_expires t w e now s i =
    past_same e.timers.loss_detection (max e.closing.clock now)
    ∙ ap (λ (o : Option ℕ). is_past o (max e.closing.clock now)) (timer_is t w.clock w.flight e s i)
    ∙ ap (λ (n : ℕ). is_past (loss_due w.flight) (max n now)) (sym i.tells.clock)

-- what the observer of an open end knows at a moment that a timeout tells
abbrev pub at_time : Terms → Watch → ℕ → Watch
at_time t w now = watch_moment true t (record w { clock = max w.clock now })

-- the timers of acknowledgements and of the pacer leave what the observer knows of
pub others_held : (words : ℕ → ℕ) (x : Expiry) (e : End) → x.idle ≡ false → held (after_others words x e) ≡ held e
others_held words x e busy = ap (λ (b : Bool). held (unless_idle b words x e)) busy ∙ by_busy words Same Same each (λ f i. i) x e refl
  where
    Same : End → Type 0
    Same f = held f ≡ held e

    each : (s : Expired) (f : End) → Same f → Same (expiring.after s f)
    each expiring.of_acks f i = i
    each s f i = i

-- a timeout at an open end
open_timeout : (p : Policy) (t : Terms) (w : Watch) (e : End) (now : ℕ) → OpenStands e → IsRoute w.route e.path → Waits t w.clock w.flight (held e) → IsWatched t (at_time t w now) (timed_out_in states.Open p e now).end
open_timeout p t w e now s path i = record { path = route.1; address = route.0; flight = λ still. waits (busy expiry.idle still) }
  where
    begins : End
    begins = with_closing e (ticked e.closing now)

    expiry : Expiry
    expiry = expiry_at (max e.closing.clock now) e.timers

    expires : Bool
    expires = expiry.loss

    after : Waits t (max w.clock now) (if expires then expired_for w.flight.loss_time t (max w.clock now) w.flight else w.flight) (held (loss_expired expires begins))
    after = expired_waits t (max w.clock now) w.flight begins (ticked_waits t w.clock now w.flight (held e) i) expires

    -- an end that is open still wasn't idle for too long
    busy : (b : Bool) → (unless_idle b p.words expiry (loss_expired expires begins)).closing.state ≡ states.Open → b ≡ false
    busy true still = cc
    busy false still = refl

    waits : expiry.idle ≡ false → Waits t (max w.clock now) (at_time t w now).flight (held (after_others p.words expiry (loss_expired expires begins)))
    waits none = subst (λ (h : Held). Waits t (max w.clock now) (at_time t w now).flight h) (sym (others_held p.words expiry (loss_expired expires begins) none))
        (subst (λ (b : Bool). Waits t (max w.clock now) (if b then expired_for w.flight.loss_time t (max w.clock now) w.flight else w.flight) (held (loss_expired expires begins))) (timer_expires t w e now s i) after)

    Here : End → Type 0
    Here f = IsRoute w.route f.path

    each : (s : Expired) (f : End) → Here f → Here (expiring.after s f)
    each expiring.of_acks f j = j
    each s f j = j

    route : Here (after_others p.words expiry (loss_expired expires begins))
    route = by_expiring p.words Here Here each (λ f j. j) (λ f j. j) expiry (loss_expired expires begins) (expired_path w.route expires begins path)

-- a timeout takes the moment over, and expired timers leave what is watched
pub timeout_watched : (p : Policy) (t : Terms) (w : Watch) (e : End) (now : ℕ) → LossStands e → IsWatched t w e → IsWatched t (watch_moment (is_timely e.closing.state (calls.Timeout now)) t (record w { clock = clock_behind w.clock (moment_of e.closing.state false (calls.Timeout now)) })) (timed_out p e now).end
timeout_watched p t w e now stands i = go e.closing.state refl
  where
    go : (state : State) → e.closing.state ≡ state → IsWatched t (watch_moment (is_timely state (calls.Timeout now)) t (record w { clock = clock_behind w.clock (moment_of state false (calls.Timeout now)) })) (timed_out_in state p e now).end
    go states.Open opened = open_timeout p t w e now (stands opened) (route_of t w e i) (i.flight opened)
    go states.Closing is = by_waits (IsWatched t w) (has_come e.timers.close (ticked e.closing now).clock) (with_closing e (ticked e.closing now))
        (closed_watched t w _ (route_of t w e i) (λ opened. cc)) (closed_watched t w _ (route_of t w e i) (λ opened. (let clash : states.Closing ≡ states.Open = sym is ∙ opened in cc)))
    go states.Drained is = i
    go states.Failed is = i

-- what losses keep, and a moment, other timers and other packets to acknowledge, an open end keeps
-- there with what is in flight
pub timeout_flies : (P : List Sent → List Sent → End → Type 0) → Loses P
    → ((flying acked : List Sent) (c : Closing) (pending : Pending) (timers : Timers) (signals : Signals) (validation : Validation) (e : End) → P flying acked e → P flying acked (record e { closing = c; acknowledging = pending; timers = timers; waiting = record e.waiting { signals = signals }; validation = validation }))
    → (p : Policy) (t : Terms) (w : Watch) (e : End) (now : ℕ) → OpenStands e → Waits t w.clock w.flight (held e) → P w.flight.flying w.flight.acked e → P (at_time t w now).flight.flying (at_time t w now).flight.acked (timed_out_in states.Open p e now).end
timeout_flies P c others p t w e now s i holds =
    by_expiring p.words Here Here each (λ f j. others flying acked f.closing f.acknowledging (with_loss_timer f).timers f.waiting.signals f.validation f j)
    (λ f j. let g : End = drained_by reasons.Idle f in others flying acked g.closing f.acknowledging g.timers f.waiting.signals f.validation f j) expiry (loss_expired expires begins)
    (subst (λ (b : Bool). P (if b then expired_for w.flight.loss_time t (max w.clock now) w.flight else w.flight).flying (if b then expired_for w.flight.loss_time t (max w.clock now) w.flight else w.flight).acked (loss_expired expires begins)) (timer_expires t w e now s i)
    (expired_flies P c t (max w.clock now) w.flight begins (ticked_waits t w.clock now w.flight (held e) i) (others w.flight.flying w.flight.acked (ticked e.closing now) e.acknowledging e.timers e.waiting.signals e.validation e holds) expires))
  where
    begins : End
    begins = with_closing e (ticked e.closing now)

    expiry : Expiry
    expiry = expiry_at (max e.closing.clock now) e.timers

    expires : Bool
    expires = expiry.loss

    flying : List Sent
    flying = (at_time t w now).flight.flying

    acked : List Sent
    acked = (at_time t w now).flight.acked

    Here : End → Type 0
    Here = P flying acked

    each : (s : Expired) (f : End) → Here f → Here (expiring.after s f)
    each expiring.of_acks f j = let g : End = acks_expired true f in others flying acked f.closing g.acknowledging g.timers f.waiting.signals f.validation f j
    each expiring.of_pacer f j = let g : End = pacing_expired true f in others flying acked f.closing f.acknowledging g.timers f.waiting.signals f.validation f j
    each expiring.of_keep_alive f j = let g : End = keep_alive_expired true f in others flying acked f.closing f.acknowledging g.timers g.waiting.signals f.validation f j
    each (expiring.of_path word) f j = let g : End = challenged word f in others flying acked f.closing f.acknowledging g.timers g.waiting.signals g.validation f j
    each expiring.of_last_path f j = others flying acked f.closing f.acknowledging (with_path_timer f.timers None) f.waiting.signals f.validation f j

-- ---- other calls

-- no other call is at a moment
pub no_moment : (state : State) (call : Call) → is_delivery call ≡ false → is_poll call ≡ false → is_timeout call ≡ false → moment_of state false call ≡ None
no_moment states.Open (calls.Poll now) apart silent other = cc
no_moment states.Open (calls.Timeout now) apart silent other = cc
no_moment states.Open (calls.Deliver delivery) apart silent other = cc
no_moment states.Open call apart silent other = refl
no_moment states.Closing call apart silent other = refl
no_moment states.Drained call apart silent other = refl
no_moment states.Failed call apart silent other = refl

-- an end of which what is watched is as it was
pub record Leaves (e f : End) : Type 0 where
  pub state : f.closing.state ≡ e.closing.state
  pub path : f.path.generation ≡ e.path.generation
  pub address : f.path.remote ≡ e.path.remote
  pub alike : Alike e f

-- an end that was left so is watched as it was
pub leaves_watched : (t : Terms) (w : Watch) (e f : End) → Leaves e f → IsWatched t w e → IsWatched t w f
leaves_watched t w e f l i = record {
  path = l.path ∙ i.path;
  address = l.address ∙ i.address;
  flight = λ opened. alike_waits t w.clock w.flight e f l.alike (i.flight (sym l.state ∙ opened));
}

-- what an open end cuts its numbers against is what came to it says
pub open_named : (state : State) (numbers : Numbers) (i : Intake) → state ≡ states.Open → KnowsIn state numbers i → cut_against numbers ≡ acknowledged i.took
open_named states.Open numbers i is k = k.named
open_named states.Closing numbers i is k = cc
open_named states.Drained numbers i is k = cc
open_named states.Failed numbers i is k = cc

-- any call that is neither a delivery nor a poll nor a timeout leaves an end watched as it was
pub quiet_watched : (t : Terms) (w : Watch) (p : Policy) (e : End) (theirs : List (List ℕ)) (call : Call) (a : Answer) → is_delivery call ≡ false → is_poll call ≡ false → is_timeout call ≡ false → IsWatched t w e → IsWatched t w (after_call p e theirs call a)
quiet_watched t w p e theirs call a apart silent other i = by_plain_call p e theirs (IsWatched t w) call a cases_keep
  where
    cases_keep : Plain p e call (IsWatched t w)
    cases_keep (cases.times now expiry) is = cc
    cases_keep (cases.polls now) is = cc
    cases_keep (cases.hears arrival d) is = cc
    cases_keep (cases.waits now b) is = cc
    cases_keep (cases.closes reason f now) may = closed_watched t w _ (route_of t w e i) (λ still. cc)
    cases_keep (cases.changes_id b) may = by_next_id (λ (x : End). AsksOn e.frequency x.frequency → IsWatched t w x) e b (λ on. i) (λ c on. leaves_watched t w e _ (record { state = refl; path = refl; address = refl; alike = record { clock = refl; numbers = refl; tracking = refl; transport = refl; peer = refl; rtt = refl; delay = on.peer_delay; request = on.in_flight } }) i) (λ c most on. leaves_watched t w e _ (record { state = refl; path = refl; address = refl; alike = record { clock = refl; numbers = refl; tracking = refl; transport = refl; peer = refl; rtt = refl; delay = on.peer_delay; request = on.in_flight } }) i) (next_frequency e b)
    cases_keep c may = leaves_watched t w e _ (record { state = refl; path = refl; address = refl; alike = record { clock = refl; numbers = refl; tracking = refl; transport = refl; peer = refl; rtt = refl; delay = refl; request = refl } }) i
