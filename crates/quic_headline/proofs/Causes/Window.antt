-- How many bytes more than were read may come on a stream stays as it was, whatever changes.
use Rattle.std.proofs.Common.{◌≡◌, ℕ, not, ◌&&◌, ◌||◌, Bool, true, false, List, refl, ◌∙◌}
use Rattle.std.proofs.lemmas.Bool.{cond_both}
use Rattle.quic_wire_core.specs.StreamId.{dir_of}
use Rattle.quic_wire.specs.Value.{FrameValue}
use Rattle.quic_streams_parts.specs.Dirs.{is_own, is_two_way}
use Rattle.quic_streams_halves.specs.Halves.{is_done}
use Rattle.quic_streams_state.specs.declared.state.StreamsState.{StreamsState}
use Rattle.quic_streams_state.specs.State.{sending_status, receiving_status, done_if}
use Rattle.quic_streams_laws.specs.Keeping.{KeepsAll}
use Rattle.quic_streams_laws.specs.Keeping as changes
use Rattle.quic_streams_laws.specs.KeepingLaws.{by_stream, by_reset_frame}
use Rattle.quic_streams_laws.specs.QuietLaws.{is_quiet}
use Rattle.quic_machine.specs.End.{End}
use Rattle.quic_machine.specs.Receive.{take_frame}
use Rattle.quic_machine.specs.FrameCases.{passed, frames_keep}
use Rattle.quic_headline.proofs.Halves.QuietSteps.{frame_quiet}

-- so many may come
abbrev pub HasWindow : ℕ → StreamsState → Type 0
HasWindow window s = s.receiving.stream_window ≡ window

done_keeps : (b : Bool) (id : ℕ) (s : StreamsState) → (done_if b id s).receiving.stream_window ≡ s.receiving.stream_window
done_keeps false id s = refl
done_keeps true id s = refl

-- each change keeps it
pub window_stays : (window : ℕ) → KeepsAll (λ r id old new. Unit {0}) (λ s id old new. Unit {0}) (λ s id n old new. Unit {0}) (λ s dir. Unit {0}) (λ id. Unit {0}) (HasWindow window)
window_stays window (changes.joins id h) s may i = cond_both h.blocked s _ (HasWindow window) (λ e. i) (λ e. i)
window_stays window (changes.ends_sending id h) s may i = done_keeps (not (is_own s.side id) && is_done (receiving_status s id)) id _ ∙ i
window_stays window (changes.ends_receiving id h) s may i = done_keeps (not (is_own s.side id) && (not (is_two_way (dir_of id)) || is_done (sending_status s id))) id _ ∙ i
window_stays window c s may i = i

-- a frame does
pub frame_window : (window : ℕ) (f : FrameValue) (e : End) → HasWindow window e.streams → HasWindow window (take_frame f e).end.streams
frame_window window f e i = frame_quiet (HasWindow window) (is_quiet (HasWindow window) (window_stays window)) f e
    (λ g is. by_stream (HasWindow window) (window_stays window) e.streams e.waiting.frames g (λ h a u. tt) i)
    (λ g is. by_reset_frame (HasWindow window) (window_stays window) e.streams e.waiting.frames g (λ h a u. tt) i)
    i

-- and those of a packet
pub frames_window : (window : ℕ) (frames : List FrameValue) (e : End) → HasWindow window e.streams → HasWindow window (passed frames e).end.streams
frames_window window frames e i = frames_keep (λ (x : End). HasWindow window x.streams) (frame_window window) frames e i
