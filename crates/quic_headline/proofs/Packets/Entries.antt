-- What waits beside the bytes of streams goes in frames of control.
use Rattle.std.proofs.Common.{◌≡◌, ◌≤◌, Option, Some, None, sym, subst, arith, Bool, true, false, refl}
use Rattle.quic_wire.specs.Value.{FrameValue, ack, crypto, new_token, stream, connection_close, application_close, datagram, ack_frequency}
use Rattle.quic_wire.specs.Writing.{Fits, frame_size}
use Rattle.quic_wire.proofs.FrameRange.{size_most}
use Rattle.quic_retransmits.specs.declared.retransmits.ControlKind.{ControlKind}
use Rattle.quic_streams_state.specs.Control.{kind_of, without_first}
use Rattle.quic_machine.specs.Poll.{Draft, with_request, request_if, with_frequency_frame}
use Rattle.quic_retransmits.specs.Retransmits.{Retransmits}
use Rattle.quic_retransmits.specs.declared.retransmits.ControlKind.TheVariants.{MaxStreams}

-- there is a kind
abbrev pub HasKind : Option ControlKind → Type 0
HasKind None = ⊥
HasKind (Some kind) = Unit {0}

-- a frame that asks for an acknowledgement, and has no byte of a stream (RFC 9000, sections 19.4,
-- 19.5, 19.9 to 19.13, 19.15, 19.16 and 19.20)
abbrev pub IsControl : FrameValue → Type 0
IsControl f = HasKind (kind_of f)

-- one of a kind is
pub control_of : (f : FrameValue) (kind : ControlKind) → kind_of f ≡ Some kind → IsControl f
control_of f kind is = subst HasKind (sym is) tt

-- it takes 54 bytes at most, where it has a form, as NEW_CONNECTION_ID may
pub control_short : (f : FrameValue) → IsControl f → Fits f → frame_size f ≤ 54
control_short (ack a) is fits = absurd is
control_short (crypto c) is fits = absurd is
control_short (new_token t) is fits = absurd is
control_short (stream s) is fits = absurd is
control_short (connection_close c) is fits = absurd is
control_short (application_close c) is fits = absurd is
control_short (datagram d) is fits = absurd is
control_short (ack_frequency a) is fits = absurd is
control_short f is fits = let most = size_most f fits in omega arith

-- what holds of a draft holds where ACK_FREQUENCY goes, if it waits
pub by_request : (P : Draft → Type 0) (d : Draft) → (d.end.waiting.frames.ack_frequency ≡ true → P d → P (with_request d)) → P d → P (with_frequency_frame d)
by_request P d goes i = go d.end.waiting.frames.ack_frequency refl
  where
    go : (b : Bool) → d.end.waiting.frames.ack_frequency ≡ b → P (request_if b d)
    go true is = goes is i
    go false is = i

-- without the first that waits of a kind, it waits as before
pub without_asks : (kind : ControlKind) (p : Retransmits) → (without_first kind p).ack_frequency ≡ p.ack_frequency
without_asks (MaxStreams dir) p = refl
without_asks kind p = refl
