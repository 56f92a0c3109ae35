-- Where nothing waits that asks for an acknowledgement, what goes doesn't ask.
use Rattle.std.proofs.Common.{◌≡◌, ℕ, ◌+◌, ◌-◌, ◌<◌, ◌≤◌, List, [], ◌∷◌, length, Bool, true, false, Some, None, refl, sym, ap, ◌∙◌, subst, arith}
use Rattle.std.specs.Prelude.{not, ◌||◌, ◌==◌, ◌*◌, nat_lt, nat_le, if◌then◌else◌}
use Rattle.std.specs.Option.{is_some}
use Rattle.std.proofs.lemmas.Bool.{or_left, or_parts, and_parts, both_ways, not-false, leb-true, leb-false, not-true}
use Rattle.quic_wire_core.specs.Law.{length-shortest, varint_size_positive}
use Rattle.quic_wire.specs.Value.{FrameValue, AckValue, ack, datagram}
use Rattle.quic_wire.specs.AckGrammar.{GoDown, AckFits, ack_numbers}
use Rattle.quic_wire.specs.NumbersWritten.{width_of, widths}
use Rattle.quic_wire.specs.Writing.{frame_size}
use Rattle.quic_wire.proofs.FrameWritten.{spelling_length}
use Rattle.quic_recovery_core.specs.PendingAcks.{is_filled, can_send}
use Rattle.quic_messages.specs.Messages.{fitting, frame_bytes}
use Rattle.quic_retransmits.specs.Retransmits.{Retransmits, others_of, control_kinds}
use Rattle.quic_streams_parts.specs.Queue.{Place, first_of, first_queued}
use Rattle.quic_streams_parts.specs.Queue as queue
use Rattle.quic_streams_state.specs.declared.state.StreamsState.{StreamsState}
use Rattle.quic_retransmits.specs.declared.retransmits.ControlKind.{ControlKind}
use Rattle.quic_streams_state.specs.Waiting.{is_empty, can_send_stream_data, any_goes}
use Rattle.quic_streams_state.specs.Control.{Entry, waiting, without_first, frame_of_first}
use Rattle.quic_streams_state.specs.ControlLaws.{is_due, any_due, none_due, others_wait, others_same, place, same_place}
use Rattle.quic_spaces.specs.Numbers.{cut_against}
use Rattle.quic_machine.specs.End.{End, number_of}
use Rattle.quic_machine.specs.Parts.{signals_wait}
use Rattle.quic_machine.specs.Poll.{Draft, no_frames, most_ordinary, frame_room, least_room, fits, with_control_frames, with_message_frames, with_stream_frames, ack_of, with_ack, composed_if, composed, asking, message_waits, asks_to_go, request_if, with_frequency_frame}
use Rattle.quic_machine.specs.DraftLaws.{by_entries, by_messages, by_streams, no_signal}
use Rattle.quic_headline.proofs.Packets.Invariant.{Acks}
use Rattle.quic_headline.proofs.Packets.Composed.{ack_form}
use Rattle.std.specs.List.{list_any}

-- ---- what waits beside the bytes of streams

-- Nothing of it would go.
abbrev NoneDue : Retransmits → StreamsState → Type 0
NoneDue p s = (kind : ControlKind) → any_due s (waiting kind p) ≡ false

-- of a list with none that is due, none is without its first
none_behind : (s : StreamsState) (es : List Entry) → any_due s es ≡ false → any_due s (others_of es) ≡ false
none_behind s [] none = refl
none_behind s (e ∷ es) none = (or_parts (is_due s e) (any_due s es) none).1

-- it is so still without the first of a kind
none_without : (kind : ControlKind) (p : Retransmits) (s : StreamsState) → NoneDue p s → NoneDue (without_first kind p) s
none_without kind p s none other = go (place kind == place other) refl
  where
    go : (b : Bool) → (place kind == place other) ≡ b → any_due s (waiting other (without_first kind p)) ≡ false
    go true is = subst (λ (k : ControlKind). any_due s (waiting k (without_first kind p)) ≡ false) (same_place kind other is) (ap (any_due s) (others_wait kind p) ∙ none_behind s (waiting kind p) (none kind))
    go false is = ap (any_due s) (others_same kind other p is) ∙ none other

-- none of it has a frame
none_goes : (kind : ControlKind) (p : Retransmits) (s : StreamsState) → NoneDue p s → (e : Entry) (es : List Entry) (f : FrameValue) → waiting kind p ≡ e ∷ es → e.frame s ≡ Some f → ⊥
none_goes kind p s none e es f is due = both_ways (any_due s (waiting kind p)) (none kind) (ap (any_due s) is ∙ or_left (is_due s e) (any_due s es) (ap is_some due))

-- nor the first of what waits
none_first : (kind : ControlKind) (p : Retransmits) (s : StreamsState) → NoneDue p s → (f : FrameValue) → frame_of_first (waiting kind p) s ≡ Some f → ⊥
none_first kind p s n f first = go (waiting kind p) refl first
  where
    go : (es : List Entry) → waiting kind p ≡ es → frame_of_first es s ≡ Some f → ⊥
    go [] is due = cc
    go (e ∷ es) is due = none_goes kind p s n e es f is due

-- ---- drafts that don't ask

-- No frame of a draft asks, those that it has leave no room for the oldest message of an end, and
-- nothing else waits that would go.
record IsMute (e : End) (d : Draft) : Type 0 where
  asks : asking d.frames ≡ false
  long : 3 ≤ length d.bytes
  room : frame_room d.end ≤ least_room e + 3
  streams : d.end.streams ≡ e.streams
  messages : d.end.messages.queues.outgoing ≡ e.messages.queues.outgoing
  none : NoneDue d.end.waiting.frames d.end.streams

-- no frame of control goes behind it
mute_control : (e : End) (d : Draft) → IsMute e d → IsMute e (with_control_frames d)
mute_control e = by_entries (IsMute e)
    (λ d kind m. record { asks = m.asks; long = m.long; room = m.room; streams = m.streams; messages = m.messages; none = none_without kind d.end.waiting.frames d.end.streams m.none })
    (λ d kind f is m. absurd (none_first kind d.end.waiting.frames d.end.streams m.none f is.first))

-- no message
mute_messages : (e : End) → message_waits e ≡ false → (d : Draft) → IsMute e d → IsMute e (with_message_frames d)
mute_messages e none = by_messages (IsMute e) (λ d m ms is fit mute. absurd (no_message d m ms is fit mute))
  where
    too_long : (ms others : List (List ℕ)) (m : List ℕ) → ms ≡ m ∷ others → is_some (fitting (least_room e) ms) ≡ false → least_room e < frame_bytes m
    too_long [] others m is waits = cc
    too_long (k ∷ ks) others m is waits =
        let first : k ≡ m = cc in
        subst (λ (x : List ℕ). least_room e < frame_bytes x) first (leb-false (frame_bytes k) (least_room e) (go (nat_le (frame_bytes k) (least_room e)) waits))
      where
        go : (b : Bool) → is_some (if b then Some k else None) ≡ false → b ≡ false
        go true is = cc
        go false is = refl

    no_message : (d : Draft) (m : List ℕ) (ms : List (List ℕ)) → d.end.messages.queues.outgoing ≡ m ∷ ms → fits d (datagram m) ≡ true → IsMute e d → ⊥
    no_message d m ms is fit mute =
        let within = leb-true (length d.bytes + frame_size (datagram m)) (frame_room d.end) fit in
        let longer = too_long e.messages.queues.outgoing ms m (sym mute.messages ∙ is) none in
        let room = mute.room in
        let long = mute.long in
        omega arith

-- no frame of a stream
mute_streams : (e : End) → can_send_stream_data e.streams ≡ false → (d : Draft) → IsMute e d → IsMute e (with_stream_frames d)
mute_streams e none = by_streams (IsMute e) (λ d id h room found first some is counts mute. absurd (not_queued e.streams.sending.queue.entries id none (ap (λ (s : StreamsState). first_queued s.sending.queue) (sym mute.streams) ∙ first)))
  where
    not_queued : (es : List (Place × ℕ)) (id : ℕ) → queue.is_any es ≡ false → first_of es ≡ Some id → ⊥
    not_queued [] id none is = cc
    not_queued (e ∷ es) id none is = cc

-- ---- an ACK frame alone

-- each number takes a byte
some_width : (n : ℕ) → 1 ≤ width_of n
some_width n = let some = varint_size_positive n in let same = length-shortest n in omega arith

-- an ACK frame takes three bytes at least
ack_long : (a : AckValue) (ranges : List (ℕ × ℕ)) → GoDown a.largest ranges → 3 ≤ widths (ack_numbers a ranges)
ack_long a [] down = absurd down
ack_long a (r ∷ rs) down =
    let largest = some_width a.largest in
    let delay = some_width a.delay in
    let count = some_width (length rs) in
    omega arith

-- no number of a datagram takes fewer bytes than one
room_more : (e : End) → frame_room e ≤ least_room e + 3
room_more e =
    let between : ℕ = number_of e - cut_against e.numbers in
    go (nat_lt (2 * between) 256) (nat_lt (2 * between) 65536) (nat_lt (2 * between) 16777216)
  where
    go : (a b c : Bool) → most_ordinary e - (1 + length e.ids.peer.id + (if a then 1 else (if b then 2 else (if c then 3 else 4))) + 16) ≤ least_room e + 3
    go true b c = omega arith
    go false true c = omega arith
    go false false true = omega arith
    go false false false = omega arith

-- ---- what is composed

-- where nothing waits beside the bytes of streams, ACK_FREQUENCY doesn't
pub unasked_empty : (p : Retransmits) (s : StreamsState) → is_empty p s ≡ true → p.ack_frequency ≡ false
unasked_empty p s none = (or_parts (list_any (λ kind. any_goes kind p s) control_kinds) p.ack_frequency (not-true _ none)).1

-- where nothing waits that asks, a due ACK goes alone
pub mute_composed : (e : End) → Acks e.acknowledging e.marks.came → can_send e.acknowledging ≡ true → asks_to_go e ≡ false → asking (composed e).frames ≡ false
mute_composed e acks due none =
    let signal = or_parts (signals_wait e.waiting.signals) (not (is_empty e.waiting.frames e.streams) || (message_waits e || can_send_stream_data e.streams)) none in
    let empty = or_parts (not (is_empty e.waiting.frames e.streams)) (message_waits e || can_send_stream_data e.streams) signal.1 in
    let others = or_parts (message_waits e) (can_send_stream_data e.streams) empty.1 in
    let first = mute_control e (with_ack (no_frames e)) (alone (none_due e.waiting.frames e.streams (not-false (is_empty e.waiting.frames e.streams) empty.0))) in
    let second = mute_messages e others.0 (with_control_frames (with_ack (no_frames e))) first in
    let third = mute_streams e others.1 (with_message_frames (with_control_frames (with_ack (no_frames e)))) second in
    ap (λ (b : Bool). asking (composed_if b e).frames) due
    ∙ ap (λ (d : Draft). asking (with_stream_frames (with_message_frames (with_control_frames (with_frequency_frame d)))).frames) (no_signal (with_ack (no_frames e)) signal.0)
    ∙ ap (λ (b : Bool). asking (with_stream_frames (with_message_frames (with_control_frames (request_if b (with_ack (no_frames e)))))).frames) (unasked_empty e.waiting.frames e.streams (not-false (is_empty e.waiting.frames e.streams) empty.0))
    ∙ third.asks
  where
    alone : NoneDue e.waiting.frames e.streams → IsMute e (with_ack (no_frames e))
    alone none =
        let form : AckFits (ack_of e) = ack_form e acks (and_parts e.acknowledging.due (is_filled e.acknowledging.runs) due).1 in
        let size = spelling_length (ack (ack_of e)) form in
        let long = ack_long (ack_of e) (ack_of e).ranges form.3 in
        record { asks = refl; long = omega arith; room = room_more e; streams = refl; messages = refl; none = none }
