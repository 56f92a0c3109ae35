-- What STREAM and RESET_STREAM leave beside the limits that grew, and where memory may lack for
-- them.
use Rattle.std.specs.Prelude.{◌≡◌, ℕ, Bool, true, false, ◌&&◌, ◌||◌, not, Option, Some, None}
use Rattle.std.specs.Option.{is_some}
use Rattle.quic_wire.specs.Value.{StreamValue, ResetStreamValue}
use Rattle.quic_streams_parts.specs.declared.answers.Breach.{Breach}
use Rattle.quic_streams_parts.specs.RecvHalf.{RecvHalf, after_frame, after_reset_stream}
use Rattle.quic_streams_state.specs.State.{StreamsState, with_recv}
use Rattle.quic_streams_state.specs.Opening.{opens}
use Rattle.quic_streams_state.specs.Taking.{renewed, readable_if}

-- a part is done once this end stopped it and its final size is known
abbrev pub is_over : Option RecvHalf → Bool
is_over None = false
is_over (Some h) = h.stopped && is_some h.final

-- the streams after a frame on a part
abbrev pub framed_at : RecvHalf → StreamsState → StreamValue → StreamsState
framed_at h s f = renewed s f.id h (after_frame h f) true

-- the streams after a reset of a part
abbrev pub reset_on : RecvHalf → StreamsState → ResetStreamValue → StreamsState
reset_on h s f = renewed s f.id h (after_reset_stream h f.code f.final_size) (not (is_some h.reset))

-- a part has another value, and the application is told, before the frame opens the stream
abbrev pub noted_on : StreamsState → ℕ → RecvHalf → RecvHalf → Bool → StreamsState
noted_on s id old new tells = with_recv (readable_if (tells && not (old.stopped || opens s id)) id s) id new

-- memory may lack for a frame that isn't refused, on a part that isn't done, nor stopped by this
-- end
abbrev pub FrameLacks : Option Breach → Option RecvHalf → Type 0
FrameLacks (Some b) o = ⊥
FrameLacks None None = ⊥
FrameLacks None (Some h) = h.stopped ≡ false

-- memory may lack for a reset that isn't refused, on a part that isn't done, nor stopped by this
-- end, nor reset before
abbrev pub ResetLacks : Option Breach → Option RecvHalf → Type 0
ResetLacks (Some b) o = ⊥
ResetLacks None None = ⊥
ResetLacks None (Some h) = (h.stopped || is_some h.reset) ≡ false
