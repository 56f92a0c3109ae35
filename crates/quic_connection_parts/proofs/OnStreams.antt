-- What packets carried of streams, where it is acknowledged or lost: streams change, and nothing
-- else of an end.
use Rattle.std.proofs.Common.{◌≡◌, ℕ, List, [], ◌∷◌, Some, None, refl, ap, ◌∙◌}
use Rattle.quic_send_buffer.specs.declared.stream_meta.StreamMeta.{StreamMeta}
use Rattle.quic_retransmits.specs.Retransmits.{merged, first_of, others_of}
use Rattle.quic_streams_state.specs.State.{Streams, streams_of}
use Rattle.quic_streams_state.specs.Acked.{after_reset_acked}
use Rattle.quic_machine.specs.Tracking.{Carried}
use Rattle.quic_machine.specs.End.{End, streams_at, with_streams}
use Rattle.quic_machine.specs.Acked.{without_known, reset_acked, resets_acked, stream_acked, streams_acked, carried_acked, stream_lost, streams_lost, carried_lost}
use Rattle.quic_connection_parts.specs.Tracked.{with_resets_acked, with_frames_acked, with_carried_acked, with_frames_lost, with_carried_lost}

-- ---- an end, and its streams alone

resets_on_streams : (rs : List (ℕ × ℕ)) (e : End) → resets_acked rs e ≡ with_streams e (with_resets_acked rs (streams_at e))
resets_on_streams [] e = refl
resets_on_streams (r ∷ rs) e = resets_on_streams rs (reset_acked r.0 e)

frames_on_streams : (ms : List StreamMeta) (e : End) → streams_acked ms e ≡ with_streams e (with_frames_acked ms (streams_at e))
frames_on_streams [] e = refl
frames_on_streams (m ∷ ms) e = frames_on_streams ms (stream_acked m e)

-- what is acknowledged of a packet changes the streams of the end, beside the numbers that the peer
-- knows of
pub acked_on_streams : (c : Carried) (e : End) → carried_acked c e ≡ (let known = without_known c.largest_acked e in with_streams known (with_carried_acked c (streams_at known)))
acked_on_streams c e =
    let known : End = without_known c.largest_acked e in
    let resets : Streams = with_resets_acked c.retransmits.reset_stream (streams_at known) in
    ap (streams_acked c.stream_frames) (resets_on_streams c.retransmits.reset_stream known)
    ∙ frames_on_streams c.stream_frames (with_streams known resets)

lost_frames_on_streams : (ms : List StreamMeta) (e : End) → streams_lost ms e ≡ record e { streams = with_frames_lost ms e.streams }
lost_frames_on_streams [] e = refl
lost_frames_on_streams (m ∷ ms) e = lost_frames_on_streams ms (stream_lost m e)

-- a packet that is lost changes its streams
pub lost_on_streams : (c : Carried) (e : End) → carried_lost c e ≡ with_streams e (with_carried_lost c (streams_at e))
lost_on_streams c e =
    ap (λ (x : End). with_streams x (streams_of x.streams (merged x.waiting.frames c.retransmits))) (lost_frames_on_streams c.stream_frames e)

-- ---- what a packet carried beside the bytes of streams

same_streams : (t u : Streams) → t.state ≡ u.state → t.pending ≡ u.pending → t ≡ u
same_streams t u state pending = ap (λ s. streams_of s t.pending) state ∙ ap (λ p. streams_of u.state p) pending

-- its first RESET_STREAM frame is acknowledged, and then the others
pub reset_step : (rs left : List (ℕ × ℕ)) (r : ℕ × ℕ) (t u : Streams) → Some r ≡ first_of rs → left ≡ others_of rs
    → u.state ≡ (after_reset_acked t.state t.pending r.0).state → u.pending ≡ (after_reset_acked t.state t.pending r.0).pending → with_resets_acked left u ≡ with_resets_acked rs t
reset_step [] left r t u first others state pending = absurd cc
reset_step (x ∷ rs) left r t u first others state pending =
    let same : r ≡ x = cc in
    ap (with_resets_acked left) (same_streams u (after_reset_acked t.state t.pending r.0) state pending)
    ∙ ap (λ (xs : List (ℕ × ℕ)). with_resets_acked xs (after_reset_acked t.state t.pending r.0)) others
    ∙ ap (λ (y : ℕ × ℕ). with_resets_acked rs (after_reset_acked t.state t.pending y.0)) same

-- where there is none, nothing changes
pub no_resets : (rs : List (ℕ × ℕ)) (t : Streams) → first_of rs ≡ None → with_resets_acked rs t ≡ t
no_resets [] t none = refl
no_resets (x ∷ rs) t none = absurd cc
