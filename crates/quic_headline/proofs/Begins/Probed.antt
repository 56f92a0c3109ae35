-- Probes of losses wait where the timer of losses expires, by what an observer counts.
use Rattle.std.proofs.Common.{◌≡◌, ℕ, ◌+◌, ◌-◌, ◌<◌, Bool, true, false, ◌&&◌, not, List, [], ◌∷◌, filter, Option, Some, None, refl, sym, ap, ◌∙◌, subst, ◌⊎◌, inl, inr, arith}
use Rattle.std.specs.Prelude.{if◌then◌else◌}
use Rattle.std.specs.Option.{is_none}
use Rattle.std.proofs.lemmas.Bool.{and_from}
use Rattle.quic_wire.specs.Value.{FrameValue, AckValue, ack}
use Rattle.quic_packet.specs.Datagram.{opened_packet}
use Rattle.quic_machine.specs.declared.answers.State.{State}
use Rattle.quic_machine.specs.declared.answers.State.TheVariants as states
use Rattle.quic_machine.specs.declared.run.Call.{Call}
use Rattle.quic_machine.specs.declared.run.Call.TheVariants as calls
use Rattle.quic_machine.specs.Policy.{Policy}
use Rattle.quic_machine.specs.Opens.{own_id_length}
use Rattle.quic_machine.specs.CallCases.{is_delivery}
use Rattle.quic_machine.specs.Machine.{gave}
use Rattle.quic_headline.specs.Runs.{Told, Packet, and_told, acknowledged, names}
use Rattle.quic_headline.specs.Observer.{Sent, next_number, Terms, asks_of, Flight, settled_by, after_ack, after_frames, after_packets, closes_of, and_flying, and_sent, and_all_sent, loss_due, is_past, expired_for, Watch, news, moment_of, clock_behind, sent_as, watch_sent, Lens, watch_given, is_timely, watch_moment, watch_told}
use Rattle.quic_headline.proofs.Packets.Watching.{came_with, timed_with, came_quiet, none_comes}

-- ---- fewer wait

-- probes wait only where they did
abbrev Fewer : Flight → Flight → Type 0
Fewer f g = 0 < g.probes → 0 < f.probes

ack_fewer : (t : Terms) (clock : ℕ) (a : AckValue) (f : Flight) → Fewer f (after_ack t clock a f)
ack_fewer t clock a f = go (filter (λ s. names a s.number) f.flying)
  where
    go : (ss : List Sent) → Fewer f (settled_by t clock a ss (filter (λ s. not (names a s.number)) f.flying) f)
    go [] some = some
    go (s ∷ ss) some = absurd (omega arith)

frames_fewer : (t : Terms) (clock : ℕ) (fs : List FrameValue) (f : Flight) → Fewer f (after_frames t clock fs f)
frames_fewer t clock [] f some = some
frames_fewer t clock (ack a ∷ fs) f some = ack_fewer t clock a f (frames_fewer t clock fs (after_ack t clock a f) some)
frames_fewer t clock (other ∷ fs) f some = frames_fewer t clock fs f some

packets_fewer : (t : Terms) (clock : ℕ) (ps : List Packet) (f : Flight) → Fewer f (after_packets t clock ps f)
packets_fewer t clock [] f some = some
packets_fewer t clock (p ∷ ps) f some = packets_fewer t clock ps f (frames_fewer t clock p.frames (after_packets t clock ps f) some)

sent_fewer : (s : Sent) (f : Flight) → Fewer f (and_sent s f)
sent_fewer s f = go (closes_of s)
  where
    flies : (b : Bool) → 0 < (if b then f.probes - 1 else f.probes) → 0 < f.probes
    flies true some = omega (arith, some)
    flies false some = some

    go : (b : Bool) → Fewer f (if b then f else and_flying s f)
    go true some = some
    go false some = flies (asks_of s) some

all_fewer : (ss : List Sent) (f : Flight) → Fewer f (and_all_sent ss f)
all_fewer [] f some = some
all_fewer (s ∷ ss) f some = sent_fewer s f (all_fewer ss (and_sent s f) some)

datagram_fewer : (taker : Policy) (ds : List (List ℕ)) (w : Watch) → Fewer w.flight (watch_sent taker ds w).flight
datagram_fewer taker [] w some = some
datagram_fewer taker (d ∷ ds) w some = all_fewer (sent_as (opened_packet taker.header taker.packet (own_id_length + 1) (next_number w.own) d) (acknowledged w.intake.took) w.clock w.route.generation d) w.flight some

given_fewer : (b : Bool) (l : Lens) (w : Watch) → Fewer w.flight (watch_given b l w).flight
given_fewer true l w some = datagram_fewer l.taker w.left w some
given_fewer false l w some = some

-- ---- the timer expires

-- what is left, a moment and what goes leave the clock
sent_clock : (taker : Policy) (ds : List (List ℕ)) (w : Watch) → (watch_sent taker ds w).clock ≡ w.clock
sent_clock taker [] w = refl
sent_clock taker (d ∷ ds) w = refl

given_clock : (b : Bool) (l : Lens) (w : Watch) → (watch_given b l w).clock ≡ w.clock
given_clock true l w = sent_clock l.taker w.left w
given_clock false l w = refl

pub moment_clock : (b : Bool) (t : Terms) (w : Watch) → (watch_moment b t w).clock ≡ w.clock
moment_clock true t w = refl
moment_clock false t w = refl

-- probes waited, or the timer expires, and none may be lost by time
abbrev Expires : Terms → Watch → Type 0
Expires t w = (0 < w.flight.probes) ⊎ ((is_none w.flight.loss_time && is_past (loss_due w.flight) w.clock) ≡ true)

moment_probes : (t : Terms) (w : Watch) → 0 < (watch_moment true t w).flight.probes → Expires t w
moment_probes t w some = go (is_past (loss_due w.flight) w.clock) refl some
  where
    expires : (o : Option ℕ) → w.flight.loss_time ≡ o → is_past (loss_due w.flight) w.clock ≡ true → 0 < (expired_for o t w.clock w.flight).probes → Expires t w
    expires None is past more = inr (and_from (is_none w.flight.loss_time) (is_past (loss_due w.flight) w.clock) (ap is_none is) past)
    expires (Some moment) is past more = inl more

    go : (b : Bool) → is_past (loss_due w.flight) w.clock ≡ b → 0 < (if b then expired_for w.flight.loss_time t w.clock w.flight else w.flight).probes → Expires t w
    go true past more = expires w.flight.loss_time refl past more
    go false past more = inl more

-- a call that says a moment is no delivery
timely_apart : (state : State) (call : Call) → is_timely state call ≡ true → is_delivery call ≡ false
timely_apart state (calls.Deliver delivery) is = not_timely state is
  where
    not_timely : (s : State) → is_timely s (calls.Deliver delivery) ≡ true → true ≡ false
    not_timely states.Open is = cc
    not_timely states.Closing is = cc
    not_timely states.Drained is = cc
    not_timely states.Failed is = cc
timely_apart state call is = refl

-- behind a call probes wait where they did, or where the timer expires at it
pub told_probes : (l : Lens) (t : Told) (w : Watch) → 0 < (watch_told l t w).flight.probes → (0 < w.flight.probes) ⊎ ((is_timely t.state t.call && (is_none w.flight.loss_time && is_past (loss_due w.flight) (watch_told l t w).clock)) ≡ true)
told_probes l t w some = go (is_timely t.state t.call) refl (given_fewer (gave t.answer) l (timed_with l t w) some)
  where
    clock : (watch_told l t w).clock ≡ (came_with l t w).clock
    clock = given_clock (gave t.answer) l (timed_with l t w) ∙ moment_clock (is_timely t.state t.call) l.terms (came_with l t w)

    go : (b : Bool) → is_timely t.state t.call ≡ b → 0 < (watch_moment b l.terms (came_with l t w)).flight.probes
        → (0 < w.flight.probes) ⊎ ((b && (is_none w.flight.loss_time && is_past (loss_due w.flight) (watch_told l t w).clock)) ≡ true)
    go false is more = inl (packets_fewer l.terms _ (news w.intake (and_told l.own l.peer_gave t w.intake)) w.flight more)
    go true is more =
        let quiet : came_with l t w ≡ record w { clock = clock_behind w.clock (moment_of t.state false t.call) } = came_quiet l t w (none_comes l t w.intake (timely_apart t.state t.call is)) in
        let same : (came_with l t w).flight ≡ w.flight = ap (λ (v : Watch). v.flight) quiet in
        elim (moment_probes l.terms (came_with l t w) more) [
          | inl waits ↦ inl (subst (λ (f : Flight). 0 < f.probes) same waits)
          | inr expires ↦ inr (
              ap (λ (n : ℕ). is_none w.flight.loss_time && is_past (loss_due w.flight) n) clock
              ∙ ap (λ (f : Flight). is_none f.loss_time && is_past (loss_due f) (came_with l t w).clock) (sym same)
              ∙ expires)
        ]
