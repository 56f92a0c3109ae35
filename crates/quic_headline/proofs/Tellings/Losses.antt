-- What a controller is told of packets that are lost is what may be told of the datagrams in flight
-- that are lost (RFC 9002, sections 7.3.2 and 7.6; RFC 8899, section 4.3).
use Rattle.std.proofs.Common.{◌≡◌, ℕ, ◌*◌, min, Bool, true, false, not, ◌⊎◌, ◌&&◌, cond, List, [], ◌∷◌, ◌++◌, filter, map, Option, Some, None, refl, sym, ap, ◌∙◌, subst, inl, inr, arith}
use Rattle.std.specs.Prelude.{if◌then◌else◌, ◌↔◌, sum_by}
use Rattle.std.specs.List.{list_any}
use Rattle.std.proofs.lemmas.Bool.{eq-eqb}
use Rattle.std.proofs.lemmas.List.Sums.{sum_by-cons}
use Rattle.quic_time.specs.Rtt.{Rtt}
use Rattle.quic_recovery_core.specs.AckFrequency.{longest_delay}
use Rattle.quic_time.specs.Clocks.{saturated}
use Rattle.quic_config.specs.Transport.{TransportSettings}
use Rattle.quic_congestion.specs.Congestion.{Told, Congested, Resized}
use Rattle.quic_congestion.specs.Search.{Search, Discovery, is_number, search_of, open_probe, open_of, probed_by, acknowledged_probe}
use Rattle.quic_streams_parts.specs.Table.{Table}
use Rattle.quic_spaces.specs.Persistent.{Loss, IsPersistent}
use Rattle.quic_spaces.proofs.PersistentLaws.{finds_persistent}
use Rattle.quic_machine.specs.Tracking.{TrackedPacket, lost_by}
use Rattle.quic_machine.specs.End.{End, probe_timeout}
use Rattle.quic_machine.specs.Control.{flies, last_sent, persistent_period}
use Rattle.quic_machine.specs.Sizes.{is_resized, told_if_resized, told_size, is_probe, others_of, after_lost, loss_of, is_persistent, told_congested}
use Rattle.quic_machine.specs.Acked.{verdict, told_detected}
use Rattle.quic_headline.specs.Runs.{In}
use Rattle.quic_headline.specs.Observer.{Sent, asks_of, Terms, Flight, latest, is_lost}
use Rattle.quic_headline.specs.Polls.{counts_on}
use Rattle.quic_headline.specs.Telling.{Judging, measured_first, told_if, MayProbe, lost_at, but_for_probe, bytes_asking, last_moment, lasting, loss_as, TellsLosses}
use Rattle.quic_headline.proofs.Packets.Named.{in_filter}
use Rattle.quic_headline.proofs.Packets.Waited.{IsWaited, AreWaited, waited_filter, waited_any}
use Rattle.quic_headline.proofs.Packets.Flying.{Tells, held, reckoned, longest_same, lost_waited}
use Rattle.quic_headline.proofs.Held.Flight.{flies_same}
use Rattle.quic_headline.proofs.Sizes.Search.{lost_falls}

-- ---- in step with packets

-- the last of both went at one moment
pub waited_last : (ss : List Sent) (ps : Table TrackedPacket) → AreWaited ss ps → last_sent ps ≡ last_moment ss
waited_last [] [] w = refl
waited_last (s ∷ []) (p ∷ []) w = w.0.time
waited_last (s ∷ t ∷ ss) (p ∷ q ∷ ps) w = waited_last (t ∷ ss) (q ∷ ps) w.1
waited_last [] (p ∷ ps) w = absurd w
waited_last (s ∷ ss) [] w = absurd w
waited_last (s ∷ []) (p ∷ q ∷ ps) w = absurd w.1
waited_last (s ∷ t ∷ ss) (p ∷ []) w = absurd w.1

-- both have as many bytes: a packet that doesn't ask counts for none
waited_bytes : (ss : List Sent) (ps : Table TrackedPacket) → AreWaited ss ps → sum_by (λ (p : ℕ × TrackedPacket). p.1.size) ps ≡ bytes_asking ss
waited_bytes [] [] w = refl
waited_bytes (s ∷ ss) (p ∷ ps) w = go (asks_of s) w.0.size (waited_bytes ss ps w.1)
  where
    go : (b : Bool) → p.1.size ≡ (if b then s.size else 0) → sum_by (λ (q : ℕ × TrackedPacket). q.1.size) ps ≡ bytes_asking ss
        → sum_by (λ (q : ℕ × TrackedPacket). q.1.size) (p ∷ ps) ≡ sum_by (λ (t : Sent). t.size) (cond b (s ∷ filter asks_of ss) (filter asks_of ss))
    go true size rest =
        let packets = sum_by-cons (λ (q : ℕ × TrackedPacket). q.1.size) p ps in
        let datagrams = sum_by-cons (λ (t : Sent). t.size) s (filter asks_of ss) in
        omega arith
    go false size rest = let packets = sum_by-cons (λ (q : ℕ × TrackedPacket). q.1.size) p ps in omega arith
waited_bytes [] (p ∷ ps) w = absurd w
waited_bytes (s ∷ ss) [] w = absurd w

-- both are the open probe, or aren't
probe_same : (d : Discovery) (s : Sent) (p : ℕ × TrackedPacket) → IsWaited s p → is_number s.number (open_probe d) ≡ is_probe d p
probe_same d s p w = ap (λ (n : ℕ). is_number n (open_probe d)) (sym w.number)

-- what is lost shows this of its number, when it went and whether it asks
abbrev loss_with : Discovery → ℕ → ℕ → Bool → Loss
loss_with d number moment asks = record { number = number; time_sent = moment; asks = asks && not (is_number number (open_probe d)) }

-- what is lost shows the same of both
loss_same : (d : Discovery) (s : Sent) (p : ℕ × TrackedPacket) → IsWaited s p → loss_of d p ≡ loss_as (open_probe d) s
loss_same d s p w =
    ap (λ (n : ℕ). loss_with d n p.1.time_sent p.1.asks) w.number
    ∙ ap (λ (n : ℕ). loss_with d s.number n p.1.asks) w.time
    ∙ ap (λ (b : Bool). loss_with d s.number s.moment b) w.asks

losses_same : (d : Discovery) (ss : List Sent) (ps : Table TrackedPacket) → AreWaited ss ps → map (loss_of d) ps ≡ map (loss_as (open_probe d)) ss
losses_same d [] [] w = refl
losses_same d (s ∷ ss) (p ∷ ps) w = ap (λ (l : Loss). l ∷ map (loss_of d) ps) (loss_same d s p w.0) ∙ ap (λ (ls : List Loss). loss_as (open_probe d) s ∷ ls) (losses_same d ss ps w.1)
losses_same d [] (p ∷ ps) w = absurd w
losses_same d (s ∷ ss) [] w = absurd w

-- ---- the size

-- where one search follows another, a size that changed is told, which is this one
pub size_told : (d f : Discovery) (size : ℕ) → (f.size ≡ d.size) ⊎ (f.size ≡ size) → told_size d f ≡ told_if (is_resized d f) (Resized size)
size_told d f size (inl same) = ap (λ (b : Bool). told_if_resized (not b) f.size) (eq-eqb d.size f.size (sym same)) ∙ sym (ap (λ (b : Bool). told_if (not b) (Resized size)) (eq-eqb d.size f.size (sym same)))
size_told d f size (inr is) = go (is_resized d f)
  where
    go : (b : Bool) → told_if_resized b f.size ≡ told_if b (Resized size)
    go true = ap (λ (n : ℕ). Resized n ∷ []) is
    go false = refl

-- the open probe has a size
open_shown : (n : ℕ) (d : Discovery) → is_number n (open_probe d) ≡ true → (size : ℕ) × (acknowledged_probe n d ≡ Some size)
open_shown n d = go (search_of d)
  where
    go : (o : Option Search) → is_number n (open_of o) ≡ true → (size : ℕ) × (probed_by n o ≡ Some size)
    go None is = cc
    go (Some s) is = (s.last, ap (λ (b : Bool). cond {A = Option ℕ} b (Some s.last) None) is)

-- ---- whether congestion persists

-- an acknowledgement is waited for so long at first
once : (n : ℕ) → min n latest ≡ min (min n latest * 1) latest
once n = omega arith

waited_once : (e : End) → probe_timeout e ≡ reckoned e.path.rtt (longest_delay e.frequency) 0
waited_once e = once _

-- so far apart both want what shows it to have gone
lasting_same : (t : Terms) (now : ℕ) (f : Flight) (e : End) → Tells t now f (held e) → persistent_period e ≡ lasting e.transport f
lasting_same t now f e w =
    ap (λ (n : ℕ). saturated (e.transport.persistent_congestion_threshold * n)) (waited_once e)
    ∙ ap (λ (r : Rtt). saturated (e.transport.persistent_congestion_threshold * reckoned r (longest_delay e.frequency) 0)) (sym w.rtt)
    ∙ ap (λ (d : ℕ). saturated (e.transport.persistent_congestion_threshold * reckoned f.rtt d 0)) (longest_same t now f e w)

-- only an ACK shows it
by_both : (b c : Bool) (P : Type 0) → (c ≡ true) ↔ P → (b && c ≡ true) ↔ ((b ≡ true) × P)
by_both true c P h = (λ is. (refl, h.0 is), λ both. h.1 both.1)
by_both false c P h = (λ is. cc, λ both. (let clash : false ≡ true = both.0 in cc))

-- ---- what is told

-- where an end knows what its observer does, on the path that it judges, with these settings, and with the
-- number that went next as a round trip was first measured, and the open probe may be one, its
-- controller is told of losses so
pub losses_told : (j : Judging) (now : ℕ) (by_ack : Bool) (f : Flight) (e : End) → Tells j.terms now f (held e) → e.path.generation ≡ j.generation → e.transport ≡ j.settings → e.path.first_after_rtt ≡ measured_first j.first j.next f.rtt.smoothed
    → e.path.discovery.bursts.least ≡ j.settings.min_mtu
    → ((s : Sent) → In s f.flying → (size : ℕ) → acknowledged_probe s.number e.path.discovery ≡ Some size → MayProbe j.settings.min_mtu s) → TellsLosses j now by_ack f (told_detected by_ack e)
losses_told j now by_ack f e w path settings measured floor probes = record {
  probe = probe;
  pinged = λ s among is. (let shown = open_shown s.number d is in probes s (in_filter (λ u. is_lost j.terms _ now _ u) s f.flying among) shown.0 shown.1);
  falls = is_resized d g;
  persists = persists;
  persistent = by_both by_ack (is_persistent e lost) (IsPersistent (lasting j.settings f) sampled (map (loss_as probe) gone)) found;
  is =
      ap (λ (ts : List Told). ts ++ told_congested by_ack e lost) (size_told d g j.settings.min_mtu fell)
      ∙ ap (λ (ts : List Told). told_if (is_resized d g) (Resized j.settings.min_mtu) ++ ts) congested;
}
  where
    d : Discovery
    d = e.path.discovery

    probe : Option ℕ
    probe = open_probe d

    lost : Table TrackedPacket
    lost = lost_by (verdict e) e.tracking.packets

    g : Discovery
    g = after_lost e.closing.clock lost d

    gone : List Sent
    gone = lost_at j.terms now f

    both : AreWaited gone lost
    both = lost_waited j.terms now f e w

    others : List Sent
    others = but_for_probe probe gone

    each : AreWaited others (others_of d lost)
    each = waited_filter (λ s. not (is_number s.number probe)) (λ p. not (is_probe d p)) (λ s p i. ap not (probe_same d s p i)) gone lost both

    sampled : Option ℕ
    sampled = measured_first j.first j.next f.rtt.smoothed

    persists : Bool
    persists = by_ack && is_persistent e lost

    fell : (g.size ≡ d.size) ⊎ (g.size ≡ j.settings.min_mtu)
    fell = elim (lost_falls e.closing.clock lost d) [
      | inl same ↦ inl same
      | inr least ↦ inr (least.0 ∙ floor)
    ]

    found : (is_persistent e lost ≡ true) ↔ IsPersistent (lasting j.settings f) sampled (map (loss_as probe) gone)
    found =
        subst (λ (n : ℕ). (is_persistent e lost ≡ true) ↔ IsPersistent n sampled (map (loss_as probe) gone)) (lasting_same j.terms now f e w ∙ ap (λ (x : TransportSettings). lasting x f) settings)
        (subst (λ (o : Option ℕ). (is_persistent e lost ≡ true) ↔ IsPersistent (persistent_period e) o (map (loss_as probe) gone)) measured
        (subst (λ (ls : List Loss). (is_persistent e lost ≡ true) ↔ IsPersistent (persistent_period e) e.path.first_after_rtt ls) (losses_same d gone lost both) (finds_persistent (persistent_period e) e.path.first_after_rtt (map (loss_of d) lost))))

    bytes : ℕ
    bytes = sum_by (λ (p : ℕ × TrackedPacket). p.1.size) (others_of d lost)

    telling : Congested e.closing.clock (last_sent (others_of d lost)) persists (saturated bytes) ≡ Congested now (last_moment others) persists (min (bytes_asking others) latest)
    telling =
        ap (λ (n : ℕ). Congested n (last_sent (others_of d lost)) persists (saturated bytes)) (sym w.clock)
        ∙ ap (λ (n : ℕ). Congested now n persists (saturated bytes)) (waited_last others (others_of d lost) each)
        ∙ ap (λ (n : ℕ). Congested now (last_moment others) persists (saturated n)) (waited_bytes others (others_of d lost) each)

    any : list_any (flies e.path.generation) (others_of d lost) ≡ list_any (counts_on j.generation) others
    any = ap (λ (n : ℕ). list_any (flies n) (others_of d lost)) path ∙ sym (waited_any (counts_on j.generation) (flies j.generation) (λ s p i. sym (flies_same j.generation s p i)) others (others_of d lost) each)

    told : (b : Bool) → (if b then Congested e.closing.clock (last_sent (others_of d lost)) persists (saturated bytes) ∷ [] else []) ≡ told_if b (Congested now (last_moment others) persists (min (bytes_asking others) latest))
    told true = ap (λ (x : Told). x ∷ []) telling
    told false = refl

    congested : told_congested by_ack e lost ≡ told_if (list_any (counts_on j.generation) others) (Congested now (last_moment others) persists (min (bytes_asking others) latest))
    congested = told (list_any (flies e.path.generation) (others_of d lost)) ∙ ap (λ (b : Bool). told_if b (Congested now (last_moment others) persists (min (bytes_asking others) latest))) any
