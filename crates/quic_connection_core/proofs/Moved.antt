-- Where a probe waits, something waits to go.
use Rattle.std.proofs.Common.{◌≡◌, ℕ, ◌≤◌, [], ◌∷◌, Bool, true, false, Option, Some, None, refl, subst, arith}
use Rattle.std.specs.Prelude.{not, ◌||◌, nat_lt, if◌then◌else◌}
use Rattle.std.specs.Option.{is_some}
use Rattle.std.specs.List.{list_any}
use Rattle.std.proofs.lemmas.Bool.{or_parts, not-true, not-false, ltb-false}
use Rattle.quic_streams_parts.specs.Table.{Table}
use Rattle.quic_streams_state.specs.declared.state.StreamsState.{StreamsState}
use Rattle.quic_streams_state.specs.ControlLaws.{merged_fills}
use Rattle.quic_retransmits.specs.Retransmits.{Retransmits, control_kinds}
use Rattle.quic_streams_state.specs.Waiting.{any_goes, is_empty, can_send_stream_data}
use Rattle.quic_recovery_core.specs.PendingAcks.{can_send}
use Rattle.quic_spaces.specs.Records.{first_record}
use Rattle.quic_machine.specs.Tracking.{TrackedPacket}
use Rattle.quic_machine.specs.Parts.{signals_wait}
use Rattle.quic_machine.specs.End.{End, with_ping, with_frames}
use Rattle.quic_machine.specs.Poll.{hastened, ping_unless, record_moved, probe_filled, probe_if, probed, asks_anew, request_queued, waits, message_waits, asks_to_go}

-- ---- a probe

-- the record that moves has something
first_has : (s : StreamsState) (ps : Table TrackedPacket) (p : ℕ × TrackedPacket) → first_record s ps ≡ Some p → is_empty p.1.carried.retransmits s ≡ false
first_has s [] p is = absurd cc
first_has s (q ∷ ps) p is = go (is_empty q.1.carried.retransmits s) refl is (first_has s ps p)
  where
    go : (b : Bool) → is_empty q.1.carried.retransmits s ≡ b → (if b then first_record s ps else Some q) ≡ Some p → (first_record s ps ≡ Some p → is_empty p.1.carried.retransmits s ≡ false)
        → is_empty p.1.carried.retransmits s ≡ false
    go true empty goes others = others goes
    go false filled goes others = let same : q ≡ p = cc in subst (λ (x : ℕ × TrackedPacket). is_empty x.1.carried.retransmits s ≡ false) same filled

-- where nothing waits, nothing waits to be told, and neither PING nor IMMEDIATE_ACK
no_frames : (e : End) → waits e ≡ false → is_empty e.waiting.frames e.streams ≡ true
no_frames e none =
    let asking = or_parts (can_send e.acknowledging) (asks_to_go e) none in
    let beside = or_parts (signals_wait e.waiting.signals) (not (is_empty e.waiting.frames e.streams) || (message_waits e || can_send_stream_data e.streams)) asking.1 in
    let frames = or_parts (not (is_empty e.waiting.frames e.streams)) (message_waits e || can_send_stream_data e.streams) beside.1 in
    not-false (is_empty e.waiting.frames e.streams) frames.0

no_bare : (e : End) → waits e ≡ false → (e.waiting.signals.ping ≡ false) × (e.waiting.signals.immediate ≡ false)
no_bare e none =
    let asking = or_parts (can_send e.acknowledging) (asks_to_go e) none in
    let signals = (or_parts (signals_wait e.waiting.signals) (not (is_empty e.waiting.frames e.streams) || (message_waits e || can_send_stream_data e.streams)) asking.1).0 in
    let bare : Bool = e.waiting.signals.ping || e.waiting.signals.immediate in
    let answers = or_parts (is_some e.waiting.signals.challenge) (is_some e.waiting.signals.response || bare) signals in
    or_parts e.waiting.signals.ping e.waiting.signals.immediate (or_parts (is_some e.waiting.signals.response) bare answers.1).1

-- where nothing waits beside a probe, no probe does
silent_probes : (e : End) → waits (probed e) ≡ false → (probed e).tracking.probes ≡ 0
silent_probes e = go (nat_lt 0 e.tracking.probes) refl
  where
    pings : (b : Bool) → (hastened e).waiting.signals.immediate ≡ b → waits (ping_unless b (hastened e)) ≡ false → (ping_unless b (hastened e)).tracking.probes ≡ 0
    pings true is none = absurd (let bare = (no_bare (hastened e) none).1 in cc)
    pings false is none = absurd (let bare = (no_bare (with_ping (hastened e) true) none).0 in cc)

    moved : (o : Option (ℕ × TrackedPacket)) → first_record e.streams e.tracking.packets ≡ o → waits (record_moved o (hastened e)) ≡ false → (record_moved o (hastened e)).tracking.probes ≡ 0
    moved None is none = pings (hastened e).waiting.signals.immediate refl none
    moved (Some p) is none = absurd (let frames = no_frames (record_moved (Some p) (hastened e)) none in let some = merged_fills e.waiting.frames p.1.carried.retransmits e.streams (first_has e.streams e.tracking.packets p is) in cc)

    filled : (b : Bool) → is_empty e.waiting.frames e.streams ≡ b → waits (probe_filled b (hastened e)) ≡ false → (probe_filled b (hastened e)).tracking.probes ≡ 0
    filled true is none = moved (first_record e.streams e.tracking.packets) refl none
    filled false is none = absurd (let frames = no_frames (hastened e) none in cc)

    go : (b : Bool) → nat_lt 0 e.tracking.probes ≡ b → waits (probe_if b e) ≡ false → (probe_if b e).tracking.probes ≡ 0
    go true is none = filled (is_empty e.waiting.frames e.streams) refl none
    go false is none = let le : e.tracking.probes ≤ 0 = ltb-false 0 e.tracking.probes is in omega (arith, le)

-- so it is where ACK_FREQUENCY may wait besides
unflagged : (p : Retransmits) (s : StreamsState) → is_empty p s ≡ true → p.ack_frequency ≡ false
unflagged p s empty = (or_parts (list_any (λ k. any_goes k p s) control_kinds) p.ack_frequency (not-true (list_any (λ k. any_goes k p s) control_kinds || p.ack_frequency) empty)).1

request_waits : (e : End) → waits (request_queued e) ≡ false → waits e ≡ false
request_waits e = go (asks_anew e.transport.ack_frequency_config e)
  where
    asked : Bool → End
    asked b = with_frames e (record e.waiting.frames { ack_frequency = b || e.waiting.frames.ack_frequency })

    go : (b : Bool) → waits (asked b) ≡ false → waits e ≡ false
    go true none = absurd (let flag = unflagged (asked true).waiting.frames e.streams (no_frames (asked true) none) in cc)
    go false none = none

pub readied_probes : (e : End) → waits (request_queued (probed e)) ≡ false → (request_queued (probed e)).tracking.probes ≡ 0
readied_probes e none = silent_probes e (request_waits (probed e) none)
