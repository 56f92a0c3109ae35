-- What a write leaves that the limit of its stream blocks.
use Rattle.std.proofs.Common.{◌≡◌, ◌≢◌, ℕ, false, Option, Some, ap, ◌∙◌}
use Rattle.std.specs.Ordering.{nat_cmp}
use Rattle.std.specs.BTreeMap.{is_at}
use Rattle.std.proofs.lemmas.Bool.{ne_eqb}
use Rattle.std.proofs.lemmas.Map.Steps.{set_value_same}
use Rattle.quic_streams_parts.specs.Table.{Table, at}
use Rattle.quic_streams_parts.specs.SendHalf.{SendHalf, was_said}
use Rattle.quic_streams_halves.specs.Halves.{placed}
use Rattle.quic_retransmits.specs.Retransmits.{Retransmits, with_id}
use Rattle.quic_streams_state.specs.State.{StreamsState, streams_of, sending_half, with_send, room}
use Rattle.quic_streams_state.specs.Writing.{blocked_at}

-- a half in use that takes the value that it has leaves the streams as they were
in_use_same : (s : StreamsState) (id : ℕ) (h : SendHalf) → at s.sending.halves.live id ≡ Some h → with_send s id h ≡ s
in_use_same s id h found =
    ap (λ (o : Option SendHalf). record s { sending = record s.sending { halves = placed o s.side s.sending.halves id h } }) found
    ∙ ap (λ (t : Table SendHalf). record s { sending = record s.sending { halves = record s.sending.halves { live = t } } }) (set_value_same (is_at (nat_cmp id)) s.sending.halves.live h found)

-- so its limit waits to be said, and nothing else changes
pub own_waits : (s : StreamsState) (p : Retransmits) (id : ℕ) (h : SendHalf) → at s.sending.halves.live id ≡ Some h → room s.sending ≢ 0 → was_said h.said h.limit ≡ false
    → blocked_at (sending_half s id) s p id ≡ streams_of s (record p { stream_data_blocked = with_id id p.stream_data_blocked })
own_waits s p id h found some unsaid =
    rw (found, ne_eqb (room s.sending) 0 some, unsaid) (ap (λ (t : StreamsState). streams_of t (record p { stream_data_blocked = with_id id p.stream_data_blocked })) (in_use_same s id h found))
