-- Where something waits that asks, and what is composed of it doesn't ask, a message waits: it had
-- no room beside an ACK frame.
use Rattle.std.proofs.Common.{◌≡◌, ◌+◌, ◌<◌, ◌≤◌, Bool, true, false, ◌||◌, List, [], ◌∷◌, length, map, refl, sym, ◌∙◌, subst, ◌⊎◌, inl, inr, arith}
use Rattle.std.specs.Prelude.{not}
use Rattle.std.specs.List.{list_any}
use Rattle.std.proofs.lemmas.Bool.{or_cases, or_left, or_right, and_parts, both_ways}
use Rattle.std.proofs.lemmas.List.Folds.{list_any-append}
use Rattle.quic_wire_core.specs.Law.{length-shortest, varint_size_le}
use Rattle.quic_wire.specs.Value.{StreamValue, ack, stream, datagram, asks, ack_frequency}
use Rattle.quic_wire.specs.AckGrammar.{AckFits}
use Rattle.quic_wire.specs.Writing.{width_of, spelling}
use Rattle.quic_wire.proofs.AckSet.{set_length}
use Rattle.quic_wire.proofs.FrameRange.{size_most}
use Rattle.quic_wire.proofs.FrameWritten.{spelling_length}
use Rattle.quic_recovery_core.specs.PendingAcks.{most_ack_runs, can_send, is_filled}
use Rattle.quic_retransmits.specs.declared.retransmits.ControlKind.{ControlKind}
use Rattle.quic_streams_state.specs.State.{Streams}
use Rattle.quic_streams_state.specs.Waiting.{is_empty, can_send_stream_data}
use Rattle.quic_streams_state.specs.Frames as of_streams
use Rattle.quic_streams_state.specs.Frames.{Sent}
use Rattle.quic_machine.specs.Parts.{signals_wait}
use Rattle.quic_machine.specs.End.{End, streams_at}
use Rattle.quic_machine.specs.Poll.{Draft, no_frames, frame_room, left, no_stream_frames, with_signal_frames, with_control_frames, with_message_frames, with_stream_frames, with_asking, ack_of, with_ack, composed_if, composed, lazied, asking, message_waits, asks_to_go, with_frequency_frame, request_of}
use Rattle.quic_machine.specs.DraftLaws.{HasRoom, signal_asks, half_of, room_most, by_signals, by_entries, by_messages, by_streams}
use Rattle.quic_machine.specs.Puts.{without_entry}
use Rattle.quic_headline.proofs.Packets.Invariant.{Acks}
use Rattle.quic_headline.proofs.Packets.Entries.{control_of, by_request}
use Rattle.quic_headline.proofs.Packets.Composed.{Spelling, ack_form}
use Rattle.quic_headline.proofs.Packets.Going.{Bringing, BringsFirst, first_goes}
use Rattle.quic_headline.proofs.Steps.Moved.{has_probe}
use Rattle.quic_headline.proofs.Steps.Probes.{Asks, last_asks, asks_stay, control_asks, composed_asks}
use Rattle.quic_headline.proofs.Waited.Drafts.{composed_asking}

-- ---- a frame of a stream

-- STREAM frames ask, if there are some
streams_ask : (fs : List StreamValue) → 0 < length fs → list_any asks (map stream fs) ≡ true
streams_ask [] some = absurd (omega arith)
streams_ask (f ∷ fs) some = refl

-- that of the stream that stands first goes behind a draft that leaves room for it
first_asks : (d : Draft) → length d.bytes + 33 ≤ frame_room d.end → BringsFirst d.end.streams → Asks (with_stream_frames d)
first_asks d room b =
    let narrow : width_of b.id ≤ 8 = rw (length-shortest b.id) (varint_size_le b.id) in
    let goes = first_goes (left d) d.end.transport.send_fairness (left d) (no_stream_frames d) b.id b.half (omega arith) (omega arith) b.first b.found (b.counts (of_streams.stream_room (left d) (no_stream_frames d) b.id) (omega arith)) in
    let sent : Sent = of_streams.with_stream_frames d.end.transport.send_fairness (left d) (no_stream_frames d) in
    list_any-append asks d.frames (map stream sent.frames) ∙ or_right (asking d.frames) (asking (map stream sent.frames)) (streams_ask sent.frames goes)

-- an ACK frame leaves room for it
ack_spares : (e : End) → Acks e.acknowledging e.marks.came → is_filled e.acknowledging.runs ≡ true → 1159 ≤ frame_room e → length (spelling (ack (ack_of e))) + 33 ≤ frame_room e
ack_spares e acks filled room =
    let form : AckFits (ack_of e) = ack_form e acks filled in
    let long = spelling_length (ack (ack_of e)) form in
    let most = size_most (ack (ack_of e)) form in
    let count = set_length e.acknowledging.runs in
    let few = acks.runs.few in
    let runs : most_ack_runs ≡ 64 = refl in
    omega arith

-- ---- a draft behind another

-- It asks, or has no more bytes, and leaves as much room and the same streams.
record IsBare (d x : Draft) : Type 0 where
  bytes : length x.bytes ≡ length d.bytes
  room : frame_room x.end ≡ frame_room d.end
  streams : x.end.streams ≡ d.end.streams

abbrev AsksOrBare : Draft → Draft → Type 0
AsksOrBare d x = Asks x ⊎ IsBare d x

-- so it is behind what goes but for the bytes of streams
before_streams : (d : Draft) → AsksOrBare d (with_message_frames (with_control_frames (with_frequency_frame (with_signal_frames d))))
before_streams d = by_messages (AsksOrBare d) (λ x m ms is fit before. inl (last_asks x (datagram m) refl)) (with_control_frames (with_frequency_frame (with_signal_frames d)))
    (by_entries (AsksOrBare d) drops (λ x kind f is before. inl (last_asks x f (control_asks f (control_of f kind is.of_kind)))) (with_frequency_frame (with_signal_frames d))
    (by_request (AsksOrBare d) (with_signal_frames d) (λ waits before. inl (last_asks (with_signal_frames d) (ack_frequency (request_of (with_signal_frames d).end)) refl)) signals))
  where
    drops : (x : Draft) (kind : ControlKind) → AsksOrBare d x → AsksOrBare d (without_entry x kind)
    drops x kind (inl is) = inl is
    drops x kind (inr b) = inr (record { bytes = b.bytes; room = b.room; streams = b.streams })

    signals : AsksOrBare d (with_signal_frames d)
    signals = by_signals (AsksOrBare d) (λ x f left is before. inl (last_asks x f (signal_asks f is))) d (inr (record { bytes = refl; room = refl; streams = refl }))

-- where a stream has something to send, and there is room for a frame of it, something goes that
-- asks
with_asking_asks : (d : Draft) → length d.bytes + 33 ≤ frame_room d.end → BringsFirst d.end.streams → Asks (with_asking d)
with_asking_asks d room b = go (before_streams d)
  where
    x : Draft
    x = with_message_frames (with_control_frames (with_frequency_frame (with_signal_frames d)))

    go : AsksOrBare d x → Asks (with_stream_frames x)
    go (inl is) = by_streams Asks (half_of Asks asks_stay) x is
    go (inr bare) = (
        let bytes = bare.bytes in
        let same = bare.room in
        first_asks x (omega arith) (subst BringsFirst (sym bare.streams) b))

-- ---- what is composed

module _ (K : Streams → Type 0) (k : Spelling K) (c : Bringing K) where
  pub message_left : (e : End) → Acks e.acknowledging e.marks.came → HasRoom e → K (streams_at e) → asks_to_go e ≡ true → asking (composed (lazied e)).frames ≡ false → message_waits e ≡ true
  message_left e acks short i wants quiet = go (can_send (lazied e).acknowledging) refl
    where
      never : Asks (composed (lazied e)) → message_waits e ≡ true
      never is = absurd (both_ways (asking (composed (lazied e)).frames) quiet is)

      -- for a probe of losses there'd be something that asks
      probes : has_probe e ≡ true → message_waits e ≡ true
      probes is = never (composed_asks K k c (lazied e) (record { runs = acks.runs; small = acks.small; counts = acks.counts }) short i is)

      behind_ack : can_send (lazied e).acknowledging ≡ true → BringsFirst e.streams → Asks (composed (lazied e))
      behind_ack due b =
          let filled = (and_parts (lazied e).acknowledging.due (is_filled (lazied e).acknowledging.runs) due).1 in
          subst (λ (b : Bool). Asks (composed_if b (lazied e))) (sym due)
          (with_asking_asks (with_ack (no_frames (lazied e))) (ack_spares (lazied e) (record { runs = acks.runs; small = acks.small; counts = acks.counts }) filled (room_most (lazied e) short)) b)

      by_kind : can_send (lazied e).acknowledging ≡ true → message_waits e ≡ true
      by_kind due = elim (or_cases (signals_wait e.waiting.signals) (not (is_empty e.waiting.frames e.streams) || (message_waits e || can_send_stream_data e.streams)) wants) [
        | inl pinged ↦ probes (or_left (signals_wait e.waiting.signals) (not (is_empty e.waiting.frames e.streams)) pinged)
        | inr more ↦ elim (or_cases (not (is_empty e.waiting.frames e.streams)) (message_waits e || can_send_stream_data e.streams) more) [
          | inl some ↦ probes (or_right (signals_wait e.waiting.signals) (not (is_empty e.waiting.frames e.streams)) some)
          | inr others ↦ elim (or_cases (message_waits e) (can_send_stream_data e.streams) others) [
            | inl some ↦ some
            | inr queued ↦ never (behind_ack due (c.queued (streams_at e) i queued))
          ]
        ]
      ]

      go : (b : Bool) → can_send (lazied e).acknowledging ≡ b → message_waits e ≡ true
      go true due = by_kind due
      go false none = never (composed_asking K k c e short i (or_right (can_send e.acknowledging) (asks_to_go e) wants) none)
