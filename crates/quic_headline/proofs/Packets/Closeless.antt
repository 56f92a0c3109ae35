-- What goes of an open end is no close.
use Rattle.std.proofs.Common.{◌≡◌, ℕ, zero, suc, Bool, true, false, ◌||◌, List, [], ◌∷◌, ◌++◌, replicate, refl, ap, ◌∙◌}
use Rattle.std.specs.List.{list_any}
use Rattle.std.proofs.lemmas.List.Folds.{list_any-append}
use Rattle.quic_wire.specs.Value.{FrameValue, padding, ping, immediate_ack, ack, stream, datagram, connection_close, application_close, path_challenge, path_response, ack_frequency}
use Rattle.quic_streams_parts.specs.SendHalf.{frame_of}
use Rattle.quic_recovery_core.specs.PendingAcks.{can_send}
use Rattle.quic_machine.specs.End.{End}
use Rattle.quic_machine.specs.Poll.{Draft, no_frames, zeros_behind, with_signal_frames, with_control_frames, with_message_frames, with_asking, with_ack, ack_of, ack_fits, ack_if, composed_if, composed, lazied, Leaving, whole, alone, probe, closing, nothing, draft_as, with_frequency_frame, request_of}
use Rattle.quic_machine.specs.DraftLaws.{by_entries, by_messages, by_streams, IsSignal, by_signals}
use Rattle.quic_machine.specs.PollCases.{ready_at, draft_at, ready_closes_not}
use Rattle.quic_headline.specs.Observer.{is_close, closes_of}
use Rattle.quic_headline.proofs.Packets.Entries.{IsControl, control_of, by_request}
use Rattle.quic_headline.proofs.Places.Parties.{sent_as}

-- no frame is a close
abbrev Closeless : List FrameValue → Type 0
Closeless fs = list_any is_close fs ≡ false

-- so it is where more frames go that are none
more : (fs gs : List FrameValue) → Closeless fs → Closeless gs → Closeless (fs ++ gs)
more fs gs none others = list_any-append is_close fs gs ∙ ap (λ (b : Bool). b || list_any is_close gs) none ∙ others

-- a frame of control is no close
control_is : (f : FrameValue) → IsControl f → is_close f ≡ false
control_is (connection_close c) is = absurd is
control_is (application_close c) is = absurd is
control_is f is = refl

-- nor is a signal
signal_is : (f : FrameValue) → IsSignal f → is_close f ≡ false
signal_is ping is = refl
signal_is immediate_ack is = refl
signal_is (path_challenge token) is = refl
signal_is (path_response token) is = refl
signal_is f is = absurd is

padding_is : (count : ℕ) → Closeless (replicate count padding)
padding_is zero = refl
padding_is (suc count) = padding_is count

-- what asks
asking_closeless : (d : Draft) → Closeless d.frames → Closeless (with_asking d).frames
asking_closeless d none = by_streams Of (λ x id h room found first left is counts i. more x.frames (stream (frame_of id h room) ∷ []) i refl) (with_message_frames (with_control_frames (with_frequency_frame (with_signal_frames d))))
    (by_messages Of (λ x m ms is fit i. more x.frames (datagram m ∷ []) i refl) (with_control_frames (with_frequency_frame (with_signal_frames d)))
    (by_entries Of (λ x kind i. i) (λ x kind f is i. more x.frames (f ∷ []) i (ap (λ (b : Bool). b || false) (control_is f (control_of f kind is.of_kind)))) (with_frequency_frame (with_signal_frames d))
    (by_request Of (with_signal_frames d) (λ waits i. more (with_signal_frames d).frames (ack_frequency (request_of (with_signal_frames d).end) ∷ []) i refl) (by_signals Of (λ x f left is i. more x.frames (f ∷ []) i (ap (λ (b : Bool). b || false) (signal_is f is))) d none))))
  where
    Of : Draft → Type 0
    Of x = Closeless x.frames

-- what is composed
composed_closeless : (e : End) → Closeless (composed e).frames
composed_closeless e = go (can_send e.acknowledging)
  where
    late : (b : Bool) (d : Draft) → Closeless d.frames → Closeless (ack_if b d).frames
    late true d none = more d.frames (ack (ack_of d.end) ∷ []) none refl
    late false d none = none

    go : (b : Bool) → Closeless (composed_if b e).frames
    go true = asking_closeless (with_ack (no_frames e)) refl
    go false = late (ack_fits (with_asking (no_frames e))) (with_asking (no_frames e)) (asking_closeless (no_frames e) refl)

-- and what goes of an open end, but where it closes
pub sent_closeless : (e : End) (now : ℕ) → closes_of (sent_as e now (draft_at e now)) ≡ false
sent_closeless e now = more (draft_at e now).frames (replicate (zeros_behind (draft_at e now)) padding) (go (ready_at e now).leaving refl) (padding_is (zeros_behind (draft_at e now)))
  where
    x : End
    x = (ready_at e now).end

    go : (l : Leaving) → (ready_at e now).leaving ≡ l → Closeless (draft_as l x).frames
    go whole is = composed_closeless (lazied x)
    go alone is = refl
    go (probe size) is = refl
    go (closing f) is = absurd (ready_closes_not e now f is)
    go (nothing held) is = refl
