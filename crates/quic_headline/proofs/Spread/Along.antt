-- A frame that goes with the signals of a datagram, or ACK_FREQUENCY behind them, stays in it,
-- whichever frames go behind.
use Rattle.std.proofs.Common.{◌≡◌, Bool, true, false, [], ◌∷◌, ◌++◌, ◌∙◌, refl}
use Rattle.std.specs.List.{list_any}
use Rattle.std.proofs.lemmas.Bool.{or_left}
use Rattle.std.proofs.lemmas.List.Folds.{list_any-append}
use Rattle.quic_wire.specs.Value.{FrameValue, ack, ack_frequency}
use Rattle.quic_recovery_core.specs.PendingAcks.{can_send}
use Rattle.quic_machine.specs.End.{End}
use Rattle.quic_machine.specs.Poll.{Draft, no_frames, with_signal_frames, with_frequency_frame, request_of, with_control_frames, with_message_frames, with_asking, ack_of, with_ack, ack_fits, ack_if, composed_if, composed}
use Rattle.quic_machine.specs.DraftLaws.{Writing, drops_of, entry_of, half_of, message_of, by_entries, by_messages, by_streams}
use Rattle.quic_machine.specs.Puts as puts
use Rattle.quic_headline.proofs.Packets.Entries.{by_request}

module _ (test : FrameValue → Bool) where
  -- one of the frames of a draft passes the test
  abbrev pub Has : Draft → Type 0
  Has d = list_any test d.frames ≡ true

  pub still_has : (d : Draft) (f : FrameValue) → Has d → list_any test (d.frames ++ f ∷ []) ≡ true
  still_has d f is = list_any-append test d.frames (f ∷ []) ∙ or_left (list_any test d.frames) (list_any test (f ∷ [])) is

  -- it stays, whichever frames go behind
  stays : Writing Has
  stays (puts.drops kind) d may is = is
  stays p d may is = still_has d _ is

  -- one that goes with the signals stays where ACK_FREQUENCY goes behind it
  pub signals_stay : (d : Draft) → Has (with_signal_frames d) → Has (with_frequency_frame (with_signal_frames d))
  signals_stay d is = by_request Has (with_signal_frames d) (λ asks i. still_has (with_signal_frames d) (ack_frequency (request_of (with_signal_frames d).end)) i) is

  asking_has : (d : Draft) → Has (with_frequency_frame (with_signal_frames d)) → Has (with_asking d)
  asking_has d is = by_streams Has (half_of Has stays) (with_message_frames (with_control_frames (with_frequency_frame (with_signal_frames d))))
      (by_messages Has (message_of Has stays) (with_control_frames (with_frequency_frame (with_signal_frames d))) (by_entries Has (drops_of Has stays) (entry_of Has stays) (with_frequency_frame (with_signal_frames d)) is))

  -- so one that goes before what is to be told of streams is among all that waits
  pub composed_has : (e : End) → ((d : Draft) → d.end.waiting ≡ e.waiting → Has (with_frequency_frame (with_signal_frames d))) → Has (composed e)
  composed_has e first = go (can_send e.acknowledging)
    where
      late : (b : Bool) (d : Draft) → Has d → Has (ack_if b d)
      late true d is = still_has d (ack (ack_of d.end)) is
      late false d is = is

      go : (b : Bool) → Has (composed_if b e)
      go true = asking_has (with_ack (no_frames e)) (first (with_ack (no_frames e)) refl)
      go false = late (ack_fits (with_asking (no_frames e))) (with_asking (no_frames e)) (asking_has (no_frames e) (first (no_frames e) refl))
