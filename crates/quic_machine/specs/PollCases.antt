-- What a poll comes to, as cases with what is known in each.
use Rattle.std.proofs.Common.{◌≡◌, ℕ, List, [], ◌++◌, length, replicate, Bool, true, false, not, Option, Some, None, refl, sym, ap, ◌∙◌, subst}
use Rattle.std.specs.Prelude.{Result, Ok, Err, if◌then◌else◌, nat_lt}
use Rattle.std.specs.Option.{option_to_list}
use Rattle.quic_wire.specs.Value.{FrameValue, padding}
use Rattle.quic_machine.specs.declared.answers.State.{State}
use Rattle.quic_machine.specs.declared.answers.State.TheVariants as states
use Rattle.quic_machine.specs.declared.answers.LostReason.{LostReason}
use Rattle.quic_machine.specs.declared.answers.LostReason.TheVariants as reasons
use Rattle.quic_machine.specs.declared.answers.Failed.{Failed}
use Rattle.quic_machine.specs.declared.answers.Transmit.{Transmit}
use Rattle.quic_machine.specs.declared.run.Call.TheVariants as calls
use Rattle.quic_machine.specs.declared.run.Answer.TheVariants as answers
use Rattle.quic_machine.specs.Closing.{ticked}
use Rattle.quic_machine.specs.Policy.{Policy}
use Rattle.quic_time.specs.Timers.{Timers}
use Rattle.quic_congestion.specs.Pacer.{Pacing}
use Rattle.quic_congestion.specs.Search.{Discovery}
use Rattle.quic_recovery_core.specs.PendingAcks.{can_send}
use Rattle.quic_streams_state.specs.Waiting.{is_empty}
use Rattle.quic_spaces.specs.Numbers.{can_number}
use Rattle.quic_spaces.specs.Records.{first_record}
use Rattle.quic_machine.specs.Tracking.{TrackedPacket, Tracking}
use Rattle.quic_machine.specs.Parts.{Waiting}
use Rattle.quic_machine.specs.End.{End, words_drawn, with_closing, closed_by, with_number_given, with_loss_timer, with_ping, with_immediate, with_discovery}
use Rattle.quic_machine.specs.Control.{is_window_full, paced_until, pacer_asked, Gated, lets, holds, by_pacer, by_window, gated_if, with_pacing_timer, with_app_limited}
use Rattle.quic_machine.specs.Sizes.{may_search, search_names, search_asked}
use Rattle.quic_machine.specs.Poll.{Polled, Draft, gives_nothing, gives_datagram, asking, datagram_of, datagram_size, tracked, paid_if, after_given, hastened, ping_unless, record_moved, probe_filled, probe_if, probed, request_queued, waits, is_gated, gated, Leaving, whole, alone, probe, closing, nothing, Ready, probe_named, searched_if, free_if, held_if, leaves_if, leaves, ready, goes, is_held, zeros_behind, draft_left, draft_as, draft_of, rests, may_seal, bounds, close_to_go, closes_if, closes, sends, polled_if, polled_in, polled, leaves_unless, leaves_at}
use Rattle.quic_machine.specs.Idle.{packet_given, packet_given_leaves}
use Rattle.quic_machine.specs.Machine.{gives, gave}
use Rattle.quic_machine.specs.DraftLaws.{Writing, MayGo, MayLeave, lazy_due, by_left, by_leave}
use Rattle.quic_machine.specs.Puts as puts

-- what a poll changes of an end beside its moment, where nothing goes: which packets are tracked
-- and which frames wait, for a probe; its pacer, whose timer may be set; the search for a size; and
-- whether it had something to send
pub record PollChange : Type 0 where
  pub tracking : Tracking
  pub waiting : Waiting
  pub moment : Option ℕ
  pub pacing : Pacing
  pub discovery : Discovery
  pub limited : Bool

-- an end that took a moment over, so changed
abbrev pub at_poll : End → ℕ → PollChange → End
at_poll e now c = record e {
  closing = ticked e.closing now;
  tracking = c.tracking;
  waiting = c.waiting;
  timers = record e.timers { pacing = c.moment };
  path = record e.path { pacing = c.pacing; discovery = c.discovery; app_limited = c.limited };
}

-- what a draft that went changes besides: what is tracked, the timers, whether the next one lets
-- the idle timeout begin anew, and the pacer
pub record Paid : Type 0 where
  pub tracking : Tracking
  pub timers : Timers
  pub armed : Bool
  pub pacing : Pacing

-- the end after a draft went
abbrev pub after_draft : Policy → Draft → Paid → End
after_draft p d c = record (with_number_given (p.words (words_drawn d.end)) d.end) { tracking = c.tracking; timers = c.timers; idle_armed = c.armed; path = record d.end.path { pacing = c.pacing; app_limited = false } }

-- an end that is ready to give at a moment: the timer of its pacer is stopped, what a probe carries
-- waits, and window and pacer were asked
abbrev pub ready_at : End → ℕ → Ready
ready_at e now = ready (with_closing e (ticked e.closing now))

-- the frames of the datagram that a draft makes: the bytes 0 behind the others are PADDING
abbrev pub frames_padded : Draft → List FrameValue
frames_padded d = d.frames ++ replicate (zeros_behind d) padding

-- what an end gives at a moment
abbrev pub draft_at : End → ℕ → Draft
draft_at e now = draft_of (ready_at e now)

-- the frames of the datagram that an end gives at a moment
abbrev pub frames_at : End → ℕ → List FrameValue
frames_at e now = frames_padded (draft_at e now)

-- ---- bounds

-- where an ordinary datagram may be given, there is a number for it, and a seal
pub bounds_none : (p : Policy) (e : End) → bounds p e ≡ None → (can_number e.numbers ≡ true) × (may_seal p e ≡ true)
bounds_none p e = go (can_number e.numbers) (may_seal p e)
  where
    go : (numbered sealed : Bool) → (if not numbered then Some reasons.NumberLimit else (if not sealed then Some reasons.KeyLimit else None)) ≡ None → (numbered ≡ true) × (sealed ≡ true)
    go true true free = (refl, refl)
    go true false free = cc
    go false sealed free = cc

-- ---- a probe

-- what something waits for a probe with: whatever waits already, IMMEDIATE_ACK or not; PING; or the
-- record of a packet, which has something, and IMMEDIATE_ACK or not
pub record Probes (e : End) (P : End → Type 0) : Type 0 where
  pub none : nat_lt 0 e.tracking.probes ≡ false → P e
  pub hastens : nat_lt 0 e.tracking.probes ≡ true → P (hastened e)
  pub pings : nat_lt 0 e.tracking.probes ≡ true → (hastened e).waiting.signals.immediate ≡ false → P (with_ping (hastened e) true)
  pub moves : (p : ℕ × TrackedPacket) → nat_lt 0 e.tracking.probes ≡ true → first_record e.streams e.tracking.packets ≡ Some p → P (record_moved (Some p) (hastened e))

-- what holds in each case holds where something waits for a probe
pub by_probes : (e : End) (P : End → Type 0) → Probes e P → P (probed e)
by_probes e P c = go (nat_lt 0 e.tracking.probes) refl
  where
    ping_case : nat_lt 0 e.tracking.probes ≡ true → (b : Bool) → (hastened e).waiting.signals.immediate ≡ b → P (ping_unless b (hastened e))
    ping_case probes true is = c.hastens probes
    ping_case probes false is = c.pings probes is

    record_case : nat_lt 0 e.tracking.probes ≡ true → (o : Option (ℕ × TrackedPacket)) → first_record e.streams e.tracking.packets ≡ o → P (record_moved o (hastened e))
    record_case probes None is = ping_case probes (hastened e).waiting.signals.immediate refl
    record_case probes (Some p) is = c.moves p probes is

    empty_case : nat_lt 0 e.tracking.probes ≡ true → (b : Bool) → P (probe_filled b (hastened e))
    empty_case probes true = record_case probes (first_record e.streams e.tracking.packets) refl
    empty_case probes false = c.hastens probes

    go : (b : Bool) → nat_lt 0 e.tracking.probes ≡ b → P (probe_if b e)
    go true is = empty_case is (is_empty e.waiting.frames e.streams)
    go false is = c.none is

-- what holds of an end whichever of PING and IMMEDIATE_ACK wait, and where the record of a packet
-- waits, which has something, and IMMEDIATE_ACK or not, holds where something waits for a probe
pub by_probed : (e : End) (P : End → Type 0) → P e → ((immediate : Bool) → P (with_immediate e immediate)) → ((immediate : Bool) → P (with_ping (with_immediate e immediate) true))
    → ((immediate : Bool) (p : ℕ × TrackedPacket) → nat_lt 0 e.tracking.probes ≡ true → first_record e.streams e.tracking.packets ≡ Some p → P (record_moved (Some p) (with_immediate e immediate))) → P (probed e)
by_probed e P same hastens pings moves = by_probes e P (record {
  none = λ none. same;
  hastens = λ some. hastens (hastened e).waiting.signals.immediate;
  pings = λ some unless. pings (hastened e).waiting.signals.immediate;
  moves = λ p some is. moves (hastened e).waiting.signals.immediate p some is;
})

-- a probe changes what is tracked and what waits, and nothing else
pub probe_leaves : (e : End) → probed e ≡ record e { tracking = (probed e).tracking; waiting = (probed e).waiting }
probe_leaves e = by_probed e (λ (x : End). x ≡ record e { tracking = x.tracking; waiting = x.waiting }) refl (λ immediate. refl) (λ immediate. refl) (λ immediate p probes is. refl)

-- and so it is where the request of how often to acknowledge may wait besides
pub request_leaves : (e : End) → request_queued (probed e) ≡ record e { tracking = (probed e).tracking; waiting = (request_queued (probed e)).waiting }
request_leaves e = ap (λ (x : End). record x { waiting = (request_queued (probed e)).waiting }) (probe_leaves e)

-- ---- window and pacer

-- the cases of what asks
pub record Gates (e : End) (P : Gated → Type 0) : Type 0 where
  -- it needn't be asked
  pub free : is_gated e ≡ false → P (lets e)
  -- the window is full
  pub full : is_gated e ≡ true → is_window_full e ≡ true → P (holds e)
  -- the pacer lets it go, or names a later moment
  pub lets : is_gated e ≡ true → is_window_full e ≡ false → paced_until e ≡ None → P (lets (pacer_asked e))
  pub holds : (moment : ℕ) → is_gated e ≡ true → is_window_full e ≡ false → paced_until e ≡ Some moment → P (holds (with_pacing_timer (pacer_asked e) (Some moment)))

-- what holds in each case holds where window and pacer were asked
pub by_gate : (e : End) (P : Gated → Type 0) → Gates e P → P (gated e)
by_gate e P c = go (is_gated e) refl
  where
    pacer_case : is_gated e ≡ true → is_window_full e ≡ false → (o : Option ℕ) → paced_until e ≡ o → P (by_pacer o (pacer_asked e))
    pacer_case asks room None is = c.lets asks room is
    pacer_case asks room (Some moment) is = c.holds moment asks room is

    window_case : is_gated e ≡ true → (b : Bool) → is_window_full e ≡ b → P (by_window b e)
    window_case asks true is = c.full asks is
    window_case asks false is = pacer_case asks is (paced_until e) refl

    go : (b : Bool) → is_gated e ≡ b → P (gated_if b e)
    go true is = window_case is (is_window_full e) refl
    go false is = c.free is

-- window and pacer change the pacer and its timer, and nothing else
pub gate_leaves : (e : End) → (gated e).end ≡ record e { timers = record e.timers { pacing = (gated e).end.timers.pacing }; path = record e.path { pacing = (gated e).end.path.pacing } }
gate_leaves e = by_gate e (λ (g : Gated). g.end ≡ record e { timers = record e.timers { pacing = g.end.timers.pacing }; path = record e.path { pacing = g.end.path.pacing } })
    (record { free = λ is. refl; full = λ asks is. refl; lets = λ asks room is. refl; holds = λ moment asks room is. refl })

-- ---- what goes

-- the cases of what goes, by what is held back and what waits
pub record Leaves (g : Gated) (P : Ready → Type 0) : Type 0 where
  -- what asks is held back: a due ACK goes alone, or nothing
  pub acks : g.held ≡ true → can_send g.end.acknowledging ≡ true → P (record { leaving = alone; end = g.end })
  pub held : g.held ≡ true → can_send g.end.acknowledging ≡ false → P (record { leaving = nothing true; end = g.end })
  -- all goes that waits
  pub all : g.held ≡ false → waits g.end ≡ true → P (record { leaving = whole; end = g.end })
  -- nothing waits: no size may be looked for, none is named, or one is
  pub idle : g.held ≡ false → waits g.end ≡ false → P (record { leaving = nothing false; end = g.end })
  pub asked : g.held ≡ false → waits g.end ≡ false → P (record { leaving = nothing false; end = search_asked g.end })
  pub probes : (size : ℕ) → g.held ≡ false → waits g.end ≡ false → may_search g.end ≡ true → search_names g.end ≡ Some size → P (record { leaving = probe size; end = search_asked g.end })

-- what holds in each case holds of what goes
pub by_leaves : (g : Gated) (P : Ready → Type 0) → Leaves g P → P (leaves g)
by_leaves g P c = go g.held refl
  where
    named : g.held ≡ false → waits g.end ≡ false → may_search g.end ≡ true → (o : Option ℕ) → search_names g.end ≡ o → P (record { leaving = probe_named o; end = search_asked g.end })
    named free none may None is = c.asked free none
    named free none may (Some size) is = c.probes size free none may is

    search_case : g.held ≡ false → waits g.end ≡ false → (b : Bool) → may_search g.end ≡ b → P (searched_if b g.end)
    search_case free none true may = named free none may (search_names g.end) refl
    search_case free none false may = c.idle free none

    waits_case : g.held ≡ false → (b : Bool) → waits g.end ≡ b → P (free_if b g.end)
    waits_case free true some = c.all free some
    waits_case free false none = search_case free none (may_search g.end) refl

    held_case : g.held ≡ true → (b : Bool) → can_send g.end.acknowledging ≡ b → P (held_if b g.end)
    held_case held true due = c.acks held due
    held_case held false none = c.held held none

    go : (b : Bool) → g.held ≡ b → P (leaves_if b g.end)
    go true held = held_case held (can_send g.end.acknowledging) refl
    go false free = waits_case free (waits g.end) refl

-- what holds where nothing goes to an address that isn't validated, and in each case where that
-- isn't so, holds of what goes
pub by_ready : (e : End) (P : Ready → Type 0) → (e.path.blocked ≡ true → P (record { leaving = nothing false; end = e })) → (e.path.blocked ≡ false → Leaves (gated e) P) → P (leaves_at e)
by_ready e P blocked free = go e.path.blocked refl
  where
    go : (b : Bool) → e.path.blocked ≡ b → P (leaves_unless b e)
    go true is = blocked is
    go false is = by_leaves (gated e) P (free is)

-- what goes changes the search for a size, and nothing else
pub search_leaves : (g : Gated) → (leaves g).end ≡ with_discovery g.end (leaves g).end.path.discovery
search_leaves g = by_leaves g (λ (r : Ready). r.end ≡ with_discovery g.end r.end.path.discovery)
    (record { acks = λ held due. refl; held = λ held none. refl; all = λ free some. refl; idle = λ free none. refl; asked = λ free none. refl; probes = λ size free none may is. refl })

-- where an ACK goes alone, it is due
pub may_leave_at : (e : End) (now : ℕ) → MayLeave (ready_at e now).leaving (ready_at e now).end
may_leave_at e now = by_ready (request_queued (probed (with_pacing_timer (with_closing e (ticked e.closing now)) None))) (λ (r : Ready). MayLeave r.leaving r.end) (λ blocked. tt) (λ unblocked. record {
  acks = λ held due. lazy_due (gated (request_queued (probed (with_pacing_timer (with_closing e (ticked e.closing now)) None)))).end due;
  held = λ held none. tt;
  all = λ free some. tt;
  idle = λ free none. tt;
  asked = λ free none. tt;
  probes = λ size free none may named. tt;
})

-- no close goes of an end that is open
pub ready_closes_not : (e : End) (now : ℕ) (f : FrameValue) → (ready_at e now).leaving ≡ closing f → ⊥
ready_closes_not e now f = by_ready (request_queued (probed (with_pacing_timer (with_closing e (ticked e.closing now)) None))) (λ (r : Ready). r.leaving ≡ closing f → ⊥) (λ blocked is. cc) (λ unblocked. record {
  acks = λ held due is. cc;
  held = λ held none is. cc;
  all = λ free some is. cc;
  idle = λ free none is. cc;
  asked = λ free none is. cc;
  probes = λ size free none may named is. cc;
})

-- all goes where something waits
pub whole_waits : (e : End) (now : ℕ) → (ready_at e now).leaving ≡ whole → waits (ready_at e now).end ≡ true
whole_waits e now = by_ready (request_queued (probed (with_pacing_timer (with_closing e (ticked e.closing now)) None))) (λ (r : Ready). r.leaving ≡ whole → waits r.end ≡ true) (λ blocked is. cc) (λ unblocked. record {
  acks = λ held due is. cc;
  held = λ held none is. cc;
  all = λ free some is. some;
  idle = λ free none is. cc;
  asked = λ free none is. cc;
  probes = λ size free none may named is. cc;
})

-- what a poll changed of an end that is left so
abbrev pub changed_by : End → PollChange
changed_by x = record { tracking = x.tracking; waiting = x.waiting; moment = x.timers.pacing; pacing = x.path.pacing; discovery = x.path.discovery; limited = x.path.app_limited }

-- an end that took a moment over as it is left in one form, by what a poll may change of it
abbrev pub poll_left : End → ℕ → End → End
poll_left e now x = at_poll e now (changed_by x)

-- an end is made ready: its moment, a probe, its pacer, its timer and the search for a size change,
-- and nothing else
pub ready_leaves : (e : End) (now : ℕ) → (ready_at e now).end ≡ poll_left e now (ready_at e now).end
ready_leaves e now = go (probed begun).path.blocked
  where
    begun : End
    begun = with_pacing_timer (with_closing e (ticked e.closing now)) None

    gates : (g y : End) → g ≡ record y { timers = record y.timers { pacing = g.timers.pacing }; path = record y.path { pacing = g.path.pacing } }
        → y ≡ record (with_pacing_timer (with_closing e (ticked e.closing now)) None) { tracking = y.tracking; waiting = y.waiting } → g ≡ poll_left e now g
    gates g y gate carried =
        let same : g ≡ at_poll e now (record { tracking = y.tracking; waiting = y.waiting; moment = g.timers.pacing; pacing = g.path.pacing; discovery = e.path.discovery; limited = e.path.app_limited })
        = gate ∙ ap (λ (z : End). record z { timers = record z.timers { pacing = g.timers.pacing }; path = record z.path { pacing = g.path.pacing } }) carried in
        same ∙ ap (λ (z : End). at_poll e now (record { tracking = z.tracking; waiting = z.waiting; moment = g.timers.pacing; pacing = g.path.pacing; discovery = z.path.discovery; limited = z.path.app_limited })) (sym same)

    both : (r g : End) → r ≡ with_discovery g r.path.discovery → g ≡ poll_left e now g → r ≡ poll_left e now r
    both r g searched left =
        let same : r ≡ at_poll e now (record (changed_by g) { discovery = r.path.discovery }) = searched ∙ ap (λ (z : End). with_discovery z r.path.discovery) left in
        same ∙ ap (λ (z : End). at_poll e now (record (changed_by z) { discovery = r.path.discovery })) (sym same)

    readied : End
    readied = request_queued (probed begun)

    go : (b : Bool) → (leaves_unless b readied).end ≡ poll_left e now (leaves_unless b readied).end
    go true = gates readied readied refl (request_leaves begun)
    go false = both (leaves (gated readied)).end (gated readied).end (search_leaves (gated readied)) (gates (gated readied).end readied (gate_leaves readied) (request_leaves begun))

-- ---- cases

-- the cases of a poll, with the end exactly as it is left
pub record PollsTo (p : Policy) (e : End) (now : ℕ) (P : Polled → Type 0) : Type 0 where
  -- an end that is drained, has failed, or is closing: that gives the close that it owes, if it may
  -- go
  pub silent : P (gives_nothing e)
  pub failed : P (record { answer = Err (record {}); datagram = None; end = e })
  pub repeats : e.closing.state ≡ states.Closing → P (closes p (with_closing e (ticked e.closing now)))
  -- nothing has to go, or what has to is held back
  pub nothing : e.closing.state ≡ states.Open → goes (ready_at e now) ≡ false → P (gives_nothing (rests (ready_at e now)))
  -- numbers or the key are used up: the end closes, and gives its close, if it may go
  pub closes : (reason : LostReason) → bounds p e ≡ Some reason → P (closes p (closed_by reason (ready_at e now).end))
  -- something goes
  pub gives : e.closing.state ≡ states.Open → bounds p e ≡ None → goes (ready_at e now) ≡ true → P (gives_datagram (datagram_of p (draft_at e now)) (after_given p (draft_at e now)))

-- the cases, with less said of the end
pub record Polls (p : Policy) (e : End) (now : ℕ) (P : Polled → Type 0) : Type 0 where
  -- an end that is drained, has failed, or is closing: that gives the close that it owes, if it may
  -- go
  pub silent : P (gives_nothing e)
  pub failed : P (record { answer = Err (record {}); datagram = None; end = e })
  pub repeats : e.closing.state ≡ states.Closing → P (closes p (with_closing e (ticked e.closing now)))
  -- nothing has to go, or what has to is held back
  pub nothing : (c : PollChange) → P (gives_nothing (at_poll e now c))
  -- numbers or the key are used up: the end closes, and gives its close, if it may go
  pub closes : (reason : LostReason) (c : PollChange) → bounds p e ≡ Some reason → P (closes p (closed_by reason (at_poll e now c)))
  -- something goes
  pub gives : (leaving : Leaving) (c : PollChange) (left : Paid) → e.closing.state ≡ states.Open → bounds p e ≡ None → ready_at e now ≡ record { leaving = leaving; end = at_poll e now c } → goes (ready_at e now) ≡ true
      → P (gives_datagram (datagram_of p (draft_as leaving (at_poll e now c))) (after_draft p (draft_as leaving (at_poll e now c)) left))

module _ (p : Policy) (e : End) (now : ℕ) (P : Polled → Type 0) (c : PollsTo p e now P) where
  -- numbers and the key last, or not
  bound_case : e.closing.state ≡ states.Open → goes (ready_at e now) ≡ true → (o : Option LostReason) → bounds p e ≡ o → P (sends o p (ready_at e now))
  bound_case s w None n = c.gives s n w
  bound_case s w (Some reason) n = c.closes reason n

  -- an end that is made ready gives no number
  same_bounds : bounds p (ready_at e now).end ≡ bounds p e
  same_bounds = ap (λ (x : End). bounds p x) (ready_leaves e now)

  -- something goes or doesn't
  going_case : e.closing.state ≡ states.Open → (b : Bool) → goes (ready_at e now) ≡ b → P (polled_if b p (ready_at e now))
  going_case s true w = subst (λ (o : Option LostReason). P (sends o p (ready_at e now))) (sym same_bounds) (bound_case s w (bounds p e) refl)
  going_case s false w = c.nothing s w

  -- an end that isn't open gives nothing but its close
  state_case : (state : State) → e.closing.state ≡ state → P (polled_in state p e now)
  state_case states.Open s = going_case s (goes (ready_at e now)) refl
  state_case states.Closing s = c.repeats s
  state_case states.Drained s = c.silent
  state_case states.Failed s = c.failed

-- what holds in each case holds of a poll
pub by_poll_to : (p : Policy) (e : End) (now : ℕ) (P : Polled → Type 0) → PollsTo p e now P → P (polled p e now)
by_poll_to p e now P c = state_case p e now P c e.closing.state refl

-- what a datagram changed that left an end so
abbrev pub paid_by : End → Paid
paid_by x = record { tracking = x.tracking; timers = x.timers; armed = x.idle_armed; pacing = x.path.pacing }

-- what a datagram leaves that went
pub given_leaves : (p : Policy) (d : Draft) → after_given p d ≡ after_draft p d (paid_by (after_given p d))
given_leaves p d = subst (λ (y : End). left y ≡ after_draft p d (paid_by (left y))) (sym (packet_given_leaves (asking d.frames) z)) (go (asking d.frames) (packet_given (asking d.frames) z).timers (packet_given (asking d.frames) z).idle_armed)
  where
    x : End
    x = with_number_given (p.words (words_drawn d.end)) (tracked d)

    z : End
    z = paid_if (asking d.frames) x (datagram_size d)

    left : End → End
    left y = with_loss_timer (with_app_limited y false)

    go : (b : Bool) (timers : Timers) (armed : Bool) → (let y = left (record (paid_if b x (datagram_size d)) { timers = timers; idle_armed = armed }) in y ≡ after_draft p d (paid_by y))
    go true timers armed = refl
    go false timers armed = refl

-- the same, whatever is tracked, whichever timers are set, and whatever the pacer holds
pub by_poll : (p : Policy) (e : End) (now : ℕ) (P : Polled → Type 0) → Polls p e now P → P (polled p e now)
by_poll p e now P c = by_poll_to p e now P (record { silent = c.silent; failed = c.failed; repeats = c.repeats; nothing = none; closes = closing; gives = gives })
  where
    g : Ready
    g = ready_at e now

    x : End
    x = poll_left e now g.end

    is : g.end ≡ x
    is = ready_leaves e now

    ready_is : g ≡ record { leaving = g.leaving; end = x }
    ready_is = ap (λ (y : End). record g { end = y }) is

    none : e.closing.state ≡ states.Open → goes g ≡ false → P (gives_nothing (rests g))
    none s w = subst (λ (y : End). P (gives_nothing (with_app_limited y (not (is_held g.leaving))))) (sym is) (c.nothing (record (changed_by g.end) { limited = not (is_held g.leaving) }))

    closing : (reason : LostReason) → bounds p e ≡ Some reason → P (closes p (closed_by reason g.end))
    closing reason bound = subst (λ (y : End). P (closes p (closed_by reason y))) (sym is) (c.closes reason (changed_by g.end) bound)

    gives : e.closing.state ≡ states.Open → bounds p e ≡ None → goes g ≡ true → P (gives_datagram (datagram_of p (draft_of g)) (after_given p (draft_of g)))
    gives s n goes =
        let d : Draft = draft_as g.leaving x in
        let given = c.gives g.leaving (changed_by g.end) (paid_by (after_given p d)) s n ready_is goes in
        let plain : after_draft p d (paid_by (after_given p d)) ≡ after_given p d = sym (given_leaves p d) in
        subst (λ (y : End). P (gives_datagram (datagram_of p (draft_as g.leaving y)) (after_given p (draft_as g.leaving y)))) (sym is) (subst (λ (y : End). P (gives_datagram (datagram_of p d) y)) plain given)

-- ---- how many datagrams are given

-- what an answer gives of the datagram behind it
abbrev pub given_as : Result (Option Transmit) Failed → Option (List ℕ) → List (List ℕ)
given_as (Ok (Some t)) d = option_to_list d
given_as (Ok None) d = []
given_as (Err e) d = []

pub gives_as : (p : Policy) (e : End) (now : ℕ) (r : Result (Option Transmit) Failed) → gives p e (calls.Poll now) (answers.Poll r) ≡ given_as r (polled p e now).datagram
gives_as p e now (Ok (Some t)) = refl
gives_as p e now (Ok None) = refl
gives_as p e now (Err f) = refl

-- an end that closes or is closing gives its close, or nothing
pub closes_count : (p : Policy) (e : End) → length (given_as (closes p e).answer (closes p e).datagram) ≡ (if gave (answers.Poll (closes p e).answer) then 1 else 0)
closes_count p e = go (close_to_go p e)
  where
    go : (o : Option FrameValue) → length (given_as (closes_if o p e).answer (closes_if o p e).datagram) ≡ (if gave (answers.Poll (closes_if o p e).answer) then 1 else 0)
    go None = refl
    go (Some f) = refl

-- a poll that answers a datagram gives one
pub poll_count : (p : Policy) (e : End) (now : ℕ) → length (gives p e (calls.Poll now) (answers.Poll (polled p e now).answer)) ≡ (if gave (answers.Poll (polled p e now).answer) then 1 else 0)
poll_count p e now =
    ap length (gives_as p e now (polled p e now).answer)
    ∙ by_poll p e now (λ x. length (given_as x.answer x.datagram) ≡ (if gave (answers.Poll x.answer) then 1 else 0)) (record {
      silent = refl;
      failed = refl;
      repeats = λ is. closes_count p (with_closing e (ticked e.closing now));
      nothing = λ c. refl;
      closes = λ reason c bound. closes_count p (closed_by reason (at_poll e now c));
      gives = λ leaving c left s n is goes. refl;
    })

-- ---- what a poll leaves as it was

-- ids and numbers are as they were, and so are clock and state, what is tracked, the timers of
-- losses and of the pacer, the path and by what it is validated, and what is said of the peer; no
-- word is drawn
pub record Composes (e f : End) : Type 0 where
  pub ids : f.ids ≡ e.ids
  pub numbers : f.numbers ≡ e.numbers
  pub filter : f.filter ≡ e.filter
  pub closing : f.closing ≡ e.closing
  pub tracking : f.tracking ≡ e.tracking
  pub loss : f.timers.loss_detection ≡ e.timers.loss_detection
  pub pacing : f.timers.pacing ≡ e.timers.pacing
  pub path : f.path ≡ e.path
  pub validation : f.validation ≡ e.validation
  pub transport : f.transport ≡ e.transport
  pub peer : f.peer_params ≡ e.peer_params

writing : (e : End) → Writing (λ (d : Draft). Composes e d.end)
writing e puts.ping d may c = record { ids = c.ids; numbers = c.numbers; filter = c.filter; closing = c.closing; tracking = c.tracking; loss = c.loss; pacing = c.pacing; path = c.path; validation = c.validation; transport = c.transport; peer = c.peer }
writing e p d may c = record { ids = c.ids; numbers = c.numbers; filter = c.filter; closing = c.closing; tracking = c.tracking; loss = c.loss; pacing = c.pacing; path = c.path; validation = c.validation; transport = c.transport; peer = c.peer }

pub composes_left : (leaving : Leaving) (e : End) → MayGo leaving e → Composes e (draft_left leaving e).end
composes_left leaving e due = by_left (λ (d : Draft). Composes e d.end) (writing e) leaving e due
    (record { ids = refl; numbers = refl; filter = refl; closing = refl; tracking = refl; loss = refl; pacing = refl; path = refl; validation = refl; transport = refl; peer = refl })

pub composes : (leaving : Leaving) (e : End) → MayLeave leaving e → Composes e (draft_as leaving e).end
composes leaving e due = by_leave (λ (d : Draft). Composes e d.end) (writing e) leaving e due
    (record { ids = refl; numbers = refl; filter = refl; closing = refl; tracking = refl; loss = refl; pacing = refl; path = refl; validation = refl; transport = refl; peer = refl })
