-- What an observer counts as in flight, its end gave: a datagram goes into both, and is only taken
-- out of those in flight.
use Rattle.std.proofs.Common.{ℕ, ◌+◌, Bool, true, false, not, List, [], ◌∷◌, ◌++◌, filter, length, Option, Some, None, inl, inr}
use Rattle.std.specs.Prelude.{if◌then◌else◌, ◌==◌, ◌&&◌, nat_lt, unwrap_or}
use Rattle.quic_wire_core.specs.declared.stream_id.Side.{Side}
use Rattle.quic_wire.specs.Value.{FrameValue, ack, AckValue}
use Rattle.quic_packet.specs.Datagram.{opened_packet}
use Rattle.quic_spaces.specs.Numbers.{greatest_of}
use Rattle.quic_machine.specs.Opens.{own_id_length}
use Rattle.quic_machine.specs.Policy.{Policy}
use Rattle.quic_machine.specs.Machine.{end_at, gave}
use Rattle.quic_headline.specs.Runs.{Run, Told, Packet, Intake, In, names, acknowledged, and_told, folded, until, given_of}
use Rattle.quic_headline.specs.Observer.{Sent, Terms, Flight, Watch, Lens, asks_of, closes_of, late_by, is_lost, after_losses, settled_by, kept_delay, open_request, measures, rtt_behind, after_ack, after_frames, after_packets, unasked, without_number, without_oldest, kept_flying, and_flying, and_sent, and_all_sent, loss_due, is_past, expired_for, after_moment, next_number, sent_as, news, has_opened, moment_of, clock_behind, watch_sent, watch_given, is_timely, watch_moment, watch_came, watch_moved, watch_told, lens_of, watch_from, watch}
use Rattle.quic_headline.proofs.Packets.Named.{in_filter}
use Rattle.quic_headline.proofs.Places.Told.{in_append, in_left, in_right}

-- ---- some are taken out

-- those of the one are among those of the other
abbrev Fewer : List Sent → List Sent → Type 0
Fewer ss more = (s : Sent) → In s ss → In s more

losses_fewer : (t : Terms) (clock : ℕ) (f : Flight) → Fewer (after_losses t clock f).flying f.flying
losses_fewer t clock f s i = in_filter (λ (u : Sent). not (is_lost t (late_by t f.rtt) clock (unwrap_or f.named 0) u)) s f.flying i

ack_fewer : (t : Terms) (clock : ℕ) (a : AckValue) (f : Flight) → Fewer (after_ack t clock a f).flying f.flying
ack_fewer t clock a f = go (filter (λ (s : Sent). names a s.number) f.flying) (filter (λ (s : Sent). not (names a s.number)) f.flying) (λ s i. in_filter (λ (u : Sent). not (names a u.number)) s f.flying i)
  where
    go : (acked others : List Sent) → Fewer others f.flying → Fewer (settled_by t clock a acked others f).flying f.flying
    go [] others less s i = i
    go (u ∷ us) others less s i = less s (losses_fewer t clock (record f {
      named = Some (greatest_of f.named a.largest);
      flying = others;
      acked = f.acked ++ u ∷ us;
      rtt = rtt_behind t (kept_delay f.request (u ∷ us) f.delay) clock a (measures f.named a (u ∷ us)) f.rtt;
      delay = kept_delay f.request (u ∷ us) f.delay;
      request = open_request f.request (u ∷ us);
      expiries = 0;
      probes = 0;
    }) s i)

frames_fewer : (t : Terms) (clock : ℕ) (fs : List FrameValue) (f : Flight) → Fewer (after_frames t clock fs f).flying f.flying
frames_fewer t clock [] f s i = i
frames_fewer t clock (ack a ∷ fs) f s i = ack_fewer t clock a f s (frames_fewer t clock fs (after_ack t clock a f) s i)
frames_fewer t clock (other ∷ fs) f s i = frames_fewer t clock fs f s i

packets_fewer : (t : Terms) (clock : ℕ) (ps : List Packet) (f : Flight) → Fewer (after_packets t clock ps f).flying f.flying
packets_fewer t clock [] f s i = i
packets_fewer t clock (p ∷ ps) f s i = packets_fewer t clock ps f s (frames_fewer t clock p.frames (after_packets t clock ps f) s i)

moment_fewer : (t : Terms) (clock : ℕ) (f : Flight) → Fewer (after_moment t clock f).flying f.flying
moment_fewer t clock f = go (is_past (loss_due f) clock)
  where
    expired : (o : Option ℕ) → Fewer (expired_for o t clock f).flying f.flying
    expired None s i = i
    expired (Some moment) s i = losses_fewer t clock f s i

    go : (b : Bool) → Fewer (if b then expired_for f.loss_time t clock f else f).flying f.flying
    go true = expired f.loss_time
    go false = λ s i. i

-- ---- one more goes

number_fewer : (n : ℕ) (ss : List Sent) → Fewer (without_number n ss) ss
number_fewer n [] s i = i
number_fewer n (u ∷ ss) s i = go (n == u.number) (number_fewer n ss s) i
  where
    go : (b : Bool) → (In s (without_number n ss) → In s ss) → In s (if b then ss else u ∷ without_number n ss) → In s (u ∷ ss)
    go true rest j = inr j
    go false rest (inl is) = inl is
    go false rest (inr j) = inr (rest j)

kept_fewer : (asks : Bool) (f : Flight) → Fewer (kept_flying asks f) f.flying
kept_fewer asks f = go (not asks && nat_lt 1000 (length (unasked f)))
  where
    oldest : (ss : List Sent) → Fewer (without_oldest ss f.flying) f.flying
    oldest [] s i = i
    oldest (u ∷ ss) s i = number_fewer u.number f.flying s i

    go : (b : Bool) → Fewer (if b then without_oldest (unasked f) f.flying else f.flying) f.flying
    go true = oldest (unasked f)
    go false = λ s i. i

sent_within : (u : Sent) (f : Flight) (own : List Sent) → Fewer f.flying own → Fewer (and_sent u f).flying (own ++ u ∷ [])
sent_within u f own within = go (closes_of u)
  where
    go : (b : Bool) → Fewer (if b then f else and_flying u f).flying (own ++ u ∷ [])
    go true s i = in_left s own (u ∷ []) (within s i)
    go false s i = elim (in_append s (kept_flying (asks_of u) f) (u ∷ []) i) [ inl old ↦ in_left s own (u ∷ []) (within s (kept_fewer (asks_of u) f s old)) | inr new ↦ in_right s own (u ∷ []) new ]

-- ---- the observer

-- what flies, the end gave
abbrev Within : Watch → Type 0
Within w = Fewer w.flight.flying w.own

all_within : (ss : List Sent) (f : Flight) (own : List Sent) → Fewer f.flying own → Fewer (and_all_sent ss f).flying (own ++ ss)
all_within [] f own within s i = in_left s own [] (within s i)
all_within (u ∷ ss) f own within s i = elim (in_append s (own ++ u ∷ []) ss (all_within ss (and_sent u f) (own ++ u ∷ []) (sent_within u f own within) s i)) [
  | inl old ↦ elim (in_append s own (u ∷ []) old) [ inl before ↦ in_left s own (u ∷ ss) before | inr this ↦ in_right s own (u ∷ ss) (in_left s (u ∷ []) ss this) ]
  | inr new ↦ in_right s own (u ∷ ss) (inr new)
]

datagram_within : (taker : Policy) (ds : List (List ℕ)) (w : Watch) → Within w → Within (watch_sent taker ds w)
datagram_within taker [] w within = within
datagram_within taker (d ∷ ds) w within = all_within (sent_as (opened_packet taker.header taker.packet (own_id_length + 1) (next_number w.own) d) (acknowledged w.intake.took) w.clock w.route.generation d) w.flight w.own within

given_within : (b : Bool) (l : Lens) (w : Watch) → Within w → Within (watch_given b l w)
given_within false l w within = within
given_within true l w within = datagram_within l.taker w.left w within

timed_within : (b : Bool) (t : Terms) (w : Watch) → Within w → Within (watch_moment b t w)
timed_within false t w within = within
timed_within true t w within = λ s i. within s (moment_fewer t w.clock w.flight s i)

came_within : (t : Terms) (after : Intake) (clock : ℕ) (w : Watch) → Within w → Within (watch_came t after clock w)
came_within t after clock w within = λ s i. within s (packets_fewer t clock (news w.intake after) w.flight s i)

told_within : (l : Lens) (t : Told) (w : Watch) → Within w → Within (watch_told l t w)
told_within l t w within =
    let after : Intake = and_told l.own l.peer_gave t w.intake in
    let moved : Watch = watch_moved l.serves after t.call w in
    let came : Watch = watch_came l.terms after (clock_behind w.clock (moment_of t.state (has_opened w.intake after) t.call)) moved in
    given_within (gave t.answer) l (watch_moment (is_timely t.state t.call) l.terms came) (timed_within (is_timely t.state t.call) l.terms came (came_within l.terms after (clock_behind w.clock (moment_of t.state (has_opened w.intake after) t.call)) moved within))

all_told : (l : Lens) (ts : List Told) (w : Watch) → Within w → Within (folded (watch_told l) ts w)
all_told l [] w within = within
all_told l (t ∷ ts) w within = all_told l ts (watch_told l t w) (told_within l t w within)

-- ---- over a run

pub flying_given : (r : Run) (side : Side) (i : ℕ) (s : Sent) → In s (watch r side i).flight.flying → In s (watch r side i).own
flying_given r side i = all_told (lens_of r side) (until r side i) (watch_from (end_at side r.start) (given_of r side)) (λ s none. absurd none)
