-- Where a probe waits, something waits for it to carry: PING, IMMEDIATE_ACK, or what has to be told
-- of streams (RFC 9002, section 6.2.4).
use Rattle.std.proofs.Common.{◌≡◌, ℕ, [], ◌∷◌, Bool, true, false, Option, Some, None, refl, sym, ap, subst}
use Rattle.std.specs.Prelude.{not, ◌||◌, nat_lt, if◌then◌else◌}
use Rattle.std.proofs.lemmas.Bool.{or_left, or_right}
use Rattle.std.specs.Option.{is_some}
use Rattle.quic_streams_parts.specs.Table.{Table}
use Rattle.quic_retransmits.specs.Retransmits.{merged, control_kinds}
use Rattle.quic_streams_state.specs.declared.state.StreamsState.{StreamsState}
use Rattle.quic_streams_state.specs.ControlLaws.{merged_fills}
use Rattle.quic_streams_state.specs.Waiting.{is_empty, any_goes}
use Rattle.quic_spaces.specs.Records.{first_record}
use Rattle.quic_machine.specs.Tracking.{TrackedPacket}
use Rattle.quic_machine.specs.End.{End}
use Rattle.quic_machine.specs.Poll.{hastened, ping_unless, record_moved, probe_filled, probe_if, probed}
use Rattle.quic_machine.specs.Parts.{Signals, signals_wait}
use Rattle.quic_headline.proofs.Packets.Probes.{with_asked}
use Rattle.std.specs.List.{list_any}

-- ---- a probe

-- the first packet whose record would be written has one that would
first_has : (s : StreamsState) (ps : Table TrackedPacket) (p : ℕ × TrackedPacket) → first_record s ps ≡ Some p → is_empty p.1.carried.retransmits s ≡ false
first_has s [] p is = absurd cc
first_has s (q ∷ ps) p is = go (is_empty q.1.carried.retransmits s) refl is (first_has s ps p)
  where
    go : (b : Bool) → is_empty q.1.carried.retransmits s ≡ b → (if b then first_record s ps else Some q) ≡ Some p → (first_record s ps ≡ Some p → is_empty p.1.carried.retransmits s ≡ false)
        → is_empty p.1.carried.retransmits s ≡ false
    go true empty goes others = others goes
    go false filled goes others = let same : q ≡ p = cc in subst (λ (x : ℕ × TrackedPacket). is_empty x.1.carried.retransmits s ≡ false) same filled

-- whether a signal waits, or what has to be told of streams
abbrev pub has_probe : End → Bool
has_probe e = signals_wait e.waiting.signals || not (is_empty e.waiting.frames e.streams)

-- PING or IMMEDIATE_ACK is a signal
signal_waits : (s : Signals) → s.ping || s.immediate ≡ true → signals_wait s ≡ true
signal_waits s some = or_right (is_some s.challenge) (is_some s.response || (s.ping || s.immediate)) (or_right (is_some s.response) (s.ping || s.immediate) some)

-- where one waits that is filled, one of them does
filled_has : (e : End) → has_probe (probe_filled (is_empty e.waiting.frames e.streams) e) ≡ true
filled_has e = filled (is_empty e.waiting.frames e.streams) refl
  where
    unless : (b : Bool) → e.waiting.signals.immediate ≡ b → has_probe (ping_unless b e) ≡ true
    unless true is = or_left (signals_wait e.waiting.signals) (not (is_empty e.waiting.frames e.streams)) (signal_waits e.waiting.signals (or_right e.waiting.signals.ping e.waiting.signals.immediate is))
    unless false is = or_left (signals_wait (record e.waiting.signals { ping = true })) (not (is_empty e.waiting.frames e.streams)) (signal_waits (record e.waiting.signals { ping = true }) refl)

    moved : (o : Option (ℕ × TrackedPacket)) → first_record e.streams e.tracking.packets ≡ o → has_probe (record_moved o e) ≡ true
    moved None is = unless e.waiting.signals.immediate refl
    moved (Some p) is = or_right (signals_wait e.waiting.signals) (not (is_empty (merged e.waiting.frames p.1.carried.retransmits) e.streams)) (ap not (merged_fills e.waiting.frames p.1.carried.retransmits e.streams (first_has e.streams e.tracking.packets p is)))

    filled : (b : Bool) → is_empty e.waiting.frames e.streams ≡ b → has_probe (probe_filled b e) ≡ true
    filled true is = moved (first_record e.streams e.tracking.packets) refl
    filled false is = or_right (signals_wait e.waiting.signals) (not (is_empty e.waiting.frames e.streams)) (ap not is)

-- where a probe waits, one of them does
pub probe_has : (e : End) → nat_lt 0 e.tracking.probes ≡ true → has_probe (probed e) ≡ true
probe_has e waits = subst (λ (b : Bool). has_probe (probe_if b e) ≡ true) (sym waits) (filled_has (hastened e))

-- so it is whether or not ACK_FREQUENCY waits besides
pub asked_has : (e : End) (waits : Bool) → has_probe e ≡ true → has_probe (with_asked e (waits || e.waiting.frames.ack_frequency)) ≡ true
asked_has e waits some = more (signals_wait e.waiting.signals) (list_any (λ kind. any_goes kind e.waiting.frames e.streams) control_kinds) e.waiting.frames.ack_frequency some
  where
    more : (a b c : Bool) → (a || not (not (b || c))) ≡ true → (a || not (not (b || (waits || c)))) ≡ true
    more true b c is = refl
    more false true c is = refl
    more false false true is = ap (λ (d : Bool). not (not d)) (or_right waits true refl)
    more false false false is = cc
