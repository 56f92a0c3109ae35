-- What messages and frames about streams say: that they ask for an acknowledgement, and what they
-- carry.
use Rattle.std.proofs.Common.{◌≡◌, ℕ, ◌+◌, ◌-◌, ◌≤◌, Bool, true, false, List, [], ◌∷◌, ◌++◌, length, Option, Some, None, ◌⊎◌, inl, inr, refl, sym, ap, subst, ◌∙◌, arith}
use Rattle.std.specs.Prelude.{map, nat_lt, Result, Ok, Err, IfOk, OnOk}
use Rattle.std.specs.List.{fold}
use Rattle.std.proofs.Math.Bool.{or-true}
use Rattle.std.proofs.lemmas.Bool.{lt-ltb, le-ltb}
use Rattle.std.proofs.lemmas.List.{append_assoc, append-nil, length-append, map-append}
use Rattle.std.proofs.lemmas.List.Folds.{list_any-append}
use Rattle.std.proofs.lemmas.List.Sums.{fold-append}
use Rattle.quic_wire.specs.Value.{FrameValue, StreamValue, padding, ping, ack, stream, connection_close, application_close, datagram, ack_frequency, AckFrequencyValue, asks}
use Rattle.quic_wire.specs.Writing.{spelling, spelled_all, stream_spelling, written, widths, width_of, numbers_of, fields_of, text_of, kind_as}
use Rattle.quic_wire.specs.FrameTypes.{type_of}
use Rattle.quic_wire_core.specs.Varint.{shortest}
use Rattle.quic_wire_core.specs.Law.{length-shortest, varint_size_positive}
use Rattle.quic_wire.proofs.FrameWritten.{stream_length}
use Rattle.quic_send_buffer.specs.Buffered.{writes_length}
use Rattle.quic_send_buffer.specs.declared.stream_meta.StreamMeta.{StreamMeta}
use Rattle.quic_retransmits.specs.Retransmits.{Retransmits, nothing_waits}
use Rattle.quic_retransmits.specs.Kept.{made}
use Rattle.quic_streams_parts.specs.SendHalf.{SendHalf, frame_of, meta_of}
use Rattle.quic_retransmits.specs.declared.retransmits.ControlKind.{ControlKind}
use Rattle.quic_streams_state.specs.declared.state.StreamsState.{StreamsState}
use Rattle.quic_streams_state.specs.Control.{Draft, first_sent, no_frames, kind_of}
use Rattle.quic_streams_state.specs.Control as control
use Rattle.quic_streams_state.specs.State.{streams_of}
use Rattle.quic_streams_state.specs.Frames.{Sent, stream_room, frame_sent, no_stream_frames, stream_frames_in}
use Rattle.quic_streams_laws.specs.ControlWalk.{by_control, by_stream_frames}
use Rattle.quic_machine.specs.Tracking.{Carried, acked_in, streams_in, and_again, retransmits_in, carried_in}
use Rattle.quic_machine.specs.Poll.{asking}
use Rattle.quic_messages.specs.Messages.{frame_bytes}
use Rattle.quic_connection_parts.specs.Frames.{control_part, message_part, messages_left, behind_control, message_frames, stream_part, content, with_request}

-- ---- frames that ask have bytes

-- frames that ask for an acknowledgement, and how they are written; or none
abbrev pub Marked : List FrameValue → List ℕ → Type 0
Marked fs bytes = ((asking fs ≡ true) × (1 ≤ length bytes)) ⊎ ((fs ≡ []) × (bytes ≡ []))

-- of which the last asks
marked_last : (fs : List FrameValue) (f : FrameValue) (bytes more : List ℕ) → asks f ≡ true → 1 ≤ length more → Marked (fs ++ f ∷ []) (bytes ++ more)
marked_last fs f bytes more asks_f some =
    inl (list_any-append asks fs (f ∷ []) ∙ rw asks_f (or-true (asking fs)), (let both = length-append bytes more in omega arith))

-- one behind another
pub marked_both : (fs gs : List FrameValue) (bytes more : List ℕ) → Marked fs bytes → Marked gs more → Marked (fs ++ gs) (bytes ++ more)
marked_both fs gs bytes more (inl p) q = inl (list_any-append asks fs gs ∙ rw p.0 refl, (let both = length-append bytes more in let some = p.1 in omega arith))
marked_both fs gs bytes more (inr p) q = rw (p.0, p.1) q

-- they ask where something is written
pub marked_asks : (fs : List FrameValue) (bytes : List ℕ) (before after : ℕ) → Marked fs bytes → after ≡ before + length bytes → nat_lt before after ≡ asking fs
marked_asks fs bytes before after (inl p) grown = let some = p.1 in lt-ltb before after (omega arith) ∙ sym p.0
marked_asks fs bytes before after (inr p) grown = let none : length bytes ≡ 0 = ap length p.1 in le-ltb before after (omega arith) ∙ sym (ap asking p.0)

-- none is written where nothing is
pub marked_none : (fs : List FrameValue) (bytes : List ℕ) → Marked fs bytes → length bytes ≡ 0 → fs ≡ []
marked_none fs bytes (inl p) none = let some = p.1 in absurd (omega arith)
marked_none fs bytes (inr p) none = p.0

-- ---- what one behind another carry

-- behind frames that name no number, others name what they do
pub acked_more : (fs gs : List FrameValue) → acked_in fs ≡ None → acked_in (fs ++ gs) ≡ acked_in gs
acked_more [] gs none = refl
acked_more (ack a ∷ fs) gs none = cc
acked_more (f ∷ fs) gs none = acked_more fs gs none

-- behind frames with no bytes of streams, others have what they do
pub streams_more : (fs gs : List FrameValue) → streams_in fs ≡ [] → streams_in (fs ++ gs) ≡ streams_in gs
streams_more [] gs none = refl
streams_more (stream f ∷ fs) gs none = cc
streams_more (f ∷ fs) gs none = streams_more fs gs none

-- ---- what a frame of control says

-- what begins with a number has a byte at least
numbered_some : (n : ℕ) (ns text : List ℕ) → 1 ≤ length (written (n ∷ ns) ++ text)
numbered_some n ns text =
    let all = length-append (written (n ∷ ns)) text in
    let front = length-append (shortest n) (written ns) in
    let long = length-shortest n in
    let some = varint_size_positive n in
    omega arith

-- it asks, names no number and has no bytes of a stream
record Says (f : FrameValue) : Type 0 where
  asks_for : asks f ≡ true
  names_none : acked_in (f ∷ []) ≡ None
  no_bytes : streams_in (f ∷ []) ≡ []
  some : 1 ≤ length (spelling f)
  -- and is no ACK_FREQUENCY
  again : (r : Retransmits) → control.and_again r f ≡ and_again r f
  unasked : (r : Retransmits) → (and_again r f).ack_frequency ≡ r.ack_frequency

control_says : (f : FrameValue) (kind : ControlKind) → kind_of f ≡ Some kind → Says f
control_says padding kind is = cc
control_says ping kind is = cc
control_says (ack a) kind is = cc
control_says (stream s) kind is = cc
control_says (connection_close c) kind is = cc
control_says (application_close c) kind is = cc
control_says (ack_frequency f) kind is = cc
control_says f kind is = record { asks_for = refl; names_none = refl; no_bytes = refl; some = numbered_some (type_of (kind_as f)) (fields_of f) (text_of f); again = λ r. refl; unasked = λ r. refl }

-- ---- what frames of control say

-- one more frame is spelled behind the others
spelled_more : (fs : List FrameValue) (f : FrameValue) → spelled_all (fs ++ f ∷ []) ≡ spelled_all fs ++ spelling f
spelled_more [] f = append-nil (spelling f)
spelled_more (g ∷ fs) f = ap (λ (bs : List ℕ). spelling g ++ bs) (spelled_more fs f) ∙ sym (append_assoc (spelling g) (spelled_all fs) (spelling f))

-- what is to be sent again is what the frames carry; they ask, name no number and have no bytes of
-- streams
record Told (d : Draft) : Type 0 where
  carried : d.sent ≡ retransmits_in d.frames
  unasked : (retransmits_in d.frames).ack_frequency ≡ false
  marked : Marked d.frames (spelled_all d.frames)
  names_none : acked_in d.frames ≡ None
  no_bytes : streams_in d.frames ≡ []

told_more : (d : Draft) (kind : ControlKind) (f : FrameValue) → Says f → Told d → Told (first_sent kind f d)
told_more d kind f says t = record {
  carried = says.again d.sent ∙ ap (λ (r : Retransmits). and_again r f) t.carried ∙ sym (fold-append and_again nothing_waits d.frames (f ∷ []));
  unasked = ap (λ (r : Retransmits). r.ack_frequency) (fold-append and_again nothing_waits d.frames (f ∷ [])) ∙ says.unasked (retransmits_in d.frames) ∙ t.unasked;
  marked = subst (Marked (d.frames ++ f ∷ [])) (sym (spelled_more d.frames f)) (marked_last d.frames f (spelled_all d.frames) (spelling f) says.asks_for says.some);
  names_none = acked_more d.frames (f ∷ []) t.names_none ∙ says.names_none;
  no_bytes = streams_more d.frames (f ∷ []) t.no_bytes ∙ says.no_bytes;
}

control_told : (most used : ℕ) (s : StreamsState) (p : Retransmits) → Told (control_part most used s p)
unfolding control_part
control_told most used s p = by_control most Told (record {
  drops = λ d kind e es is due t. record { carried = t.carried; unasked = t.unasked; marked = t.marked; names_none = t.names_none; no_bytes = t.no_bytes };
  sends = λ d kind f is fits t. told_more d kind f (control_says f kind is.of_kind) t;
}) (no_frames used s p nothing_waits) (record { carried = refl; unasked = refl; marked = inr (refl, refl); names_none = refl; no_bytes = refl })

-- what is kept of frames of control to be sent again is what they carry
pub control_carried : (most used : ℕ) (s : StreamsState) (p : Retransmits) → (control_part most used s p).sent ≡ retransmits_in (control_part most used s p).frames
control_carried most used s p = (control_told most used s p).carried

-- no ACK_FREQUENCY is among them
pub control_unasked : (most used : ℕ) (s : StreamsState) (p : Retransmits) → (retransmits_in (control_part most used s p).frames).ack_frequency ≡ false
control_unasked most used s p = (control_told most used s p).unasked

pub control_marked : (most used : ℕ) (s : StreamsState) (p : Retransmits) → Marked (control_part most used s p).frames (spelled_all (control_part most used s p).frames)
control_marked most used s p = (control_told most used s p).marked

-- what is kept of what carries this
pub kept_carried : {E : Type 0} (r : Result (Option Retransmits) E) (sent carried : Retransmits) → IfOk r (λ kept. kept ≡ Some sent) → sent ≡ carried → IfOk r (λ kept. made kept ≡ carried)
kept_carried (Ok kept) sent carried is same = ap made is ∙ same
kept_carried (Err e) sent carried is same = tt

-- what carries this carries that, which is the same
pub kept_as : {E : Type 0} (r : Result (Option Retransmits) E) (sent carried : Retransmits) → IfOk r (λ kept. made kept ≡ sent) → sent ≡ carried → IfOk r (λ kept. made kept ≡ carried)
kept_as (Ok kept) sent carried is same = is ∙ same
kept_as (Err e) sent carried is same = tt

-- what carries ACK_FREQUENCY besides, or doesn't
abbrev pub with_flag : Bool → Retransmits → Retransmits
with_flag b r = record r { ack_frequency = b }

-- what is said where there is an answer
pub on_ok : {A E P : Type 0} (r : Result A E) → P → OnOk r P
on_ok (Ok x) p = p
on_ok (Err e) p = tt

-- and what follows from it
pub on_ok_so : {A E P Q : Type 0} (r : Result A E) → OnOk r P → (P → Q) → OnOk r Q
on_ok_so (Ok x) p f = f p
on_ok_so (Err e) p f = tt

-- no frame carries anything where none is written
pub none_carried : (most used : ℕ) (s : StreamsState) (p : Retransmits) → length (spelled_all (control_part most used s p).frames) ≡ 0 → nothing_waits ≡ retransmits_in (control_part most used s p).frames
none_carried most used s p none = ap retransmits_in (sym (marked_none (control_part most used s p).frames (spelled_all (control_part most used s p).frames) (control_marked most used s p) none))

-- ---- what DATAGRAM frames say

-- numbers take so many bytes
written_long : (ns : List ℕ) → length (written ns) ≡ widths ns
written_long [] = refl
written_long (n ∷ ns) = length-append (shortest n) (written ns) ∙ ap (λ (k : ℕ). width_of n + k) (written_long ns)

-- so does the frame of a message
pub message_long : (m : List ℕ) → length (spelling (datagram m)) ≡ frame_bytes m
message_long m = length-append (written (numbers_of (datagram m))) m ∙ ap (λ (k : ℕ). k + length m) (written_long (numbers_of (datagram m)))

-- messages ask for an acknowledgement, and each has a byte at least
messages_marked : (ms : List (List ℕ)) → Marked (map datagram ms) (spelled_all (map datagram ms))
messages_marked [] = inr (refl, refl)
messages_marked (m ∷ ms) =
    let long = length-append (spelling (datagram m)) (spelled_all (map datagram ms)) in
    inl (refl, omega (arith, message_some m))
  where
    message_some : (m : List ℕ) → 1 ≤ length (spelling (datagram m))
    message_some m = omega arith

-- they name no number
messages_name_none : (ms : List (List ℕ)) → acked_in (map datagram ms) ≡ None
messages_name_none [] = refl
messages_name_none (m ∷ ms) = messages_name_none ms

-- they have no bytes of streams
messages_no_bytes : (ms : List (List ℕ)) → streams_in (map datagram ms) ≡ []
messages_no_bytes [] = refl
messages_no_bytes (m ∷ ms) = messages_no_bytes ms

-- nothing of them is sent again
messages_again : (r : Retransmits) (ms : List (List ℕ)) → fold and_again r (map datagram ms) ≡ r
messages_again r [] = refl
messages_again r (m ∷ ms) = messages_again r ms

-- ---- what STREAM frames say

-- one more among frames
mapped_more : (fs : List StreamValue) (f : StreamValue) → map stream (fs ++ f ∷ []) ≡ map stream fs ++ stream f ∷ []
mapped_more fs f = map-append stream fs (f ∷ [])

-- one has a byte at least
stream_some : (sized : Bool) (f : StreamValue) → 1 ≤ length (stream_spelling sized f)
stream_some sized f = let long = stream_length sized f in omega arith

stream_marked : (fair : Bool) (most used : ℕ) (s : StreamsState) (p : Retransmits) (ms : List (List ℕ)) → Marked (map stream (stream_part fair most used s p ms).frames) (stream_part fair most used s p ms).bytes
unfolding stream_part
stream_marked fair most used s p ms =
    let left : ℕ = most - (behind_control most used s p + length (spelled_all (message_frames most used s p ms))) in
    by_stream_frames fair left (λ (t : Sent). Marked (map stream t.frames) t.bytes) (λ t id h found first room counts m. one left t id h) (no_stream_frames (control_part most used s p).state) (inr (refl, refl))
  where
    one : (left : ℕ) (t : Sent) (id : ℕ) (h : SendHalf) → Marked (map stream (frame_sent fair left t id h).frames) (frame_sent fair left t id h).bytes
    one left t id h =
        let room : ℕ = stream_room left t id in
        let f : StreamValue = frame_of id h room in
        let sized : Bool = writes_length h.buffer room in
        subst (λ (fs : List FrameValue). Marked fs (t.bytes ++ stream_spelling sized f)) (sym (mapped_more t.frames f)) (marked_last (map stream t.frames) (stream f) t.bytes (stream_spelling sized f) refl (stream_some sized f))

streams_name_none : (fs : List StreamValue) → acked_in (map stream fs) ≡ None
streams_name_none [] = refl
streams_name_none (f ∷ fs) = streams_name_none fs

streams_noted : (fs : List StreamValue) → streams_in (map stream fs) ≡ map meta_of fs
streams_noted [] = refl
streams_noted (f ∷ fs) = ap (λ (ms : List StreamMeta). meta_of f ∷ ms) (streams_noted fs)

streams_again : (r : Retransmits) (fs : List StreamValue) → fold and_again r (map stream fs) ≡ r
streams_again r [] = refl
streams_again r (f ∷ fs) = streams_again r fs

-- ---- what all of them say

module _ (fair : Bool) (most used : ℕ) (s : StreamsState) (p : Retransmits) (ms : List (List ℕ)) where
  -- messages behind frames of control, and STREAM frames behind them
  behind_marked : Marked (message_frames most used s p ms ++ map stream (stream_part fair most used s p ms).frames) (spelled_all (message_frames most used s p ms) ++ (stream_part fair most used s p ms).bytes)
  unfolding message_frames
  behind_marked =
      marked_both (map datagram (message_part most (behind_control most used s p) ms)) (map stream (stream_part fair most used s p ms).frames)
      (spelled_all (map datagram (message_part most (behind_control most used s p) ms))) (stream_part fair most used s p ms).bytes
      (messages_marked (message_part most (behind_control most used s p) ms)) (stream_marked fair most used s p ms)

  pub content_marked : Marked (content fair most used s p ms).frames (content fair most used s p ms).bytes
  unfolding content
  content_marked =
      marked_both (control_part most used s p).frames (message_frames most used s p ms ++ map stream (stream_part fair most used s p ms).frames)
      (spelled_all (control_part most used s p).frames) (spelled_all (message_frames most used s p ms) ++ (stream_part fair most used s p ms).bytes)
      (control_marked most used s p) behind_marked

-- frames of control, and messages and STREAM frames behind them, carry what each of them does
all_carried : (d : Draft) (ms : List (List ℕ)) (fs : List StreamValue) → Told d
    → carried_in (d.frames ++ (map datagram ms ++ map stream fs)) ≡ record { largest_acked = None; stream_frames = map meta_of fs; retransmits = retransmits_in d.frames }
all_carried d ms fs t =
    let behind : List FrameValue = map datagram ms ++ map stream fs in
    let acked : acked_in (d.frames ++ behind) ≡ None = acked_more d.frames behind t.names_none ∙ acked_more (map datagram ms) (map stream fs) (messages_name_none ms) ∙ streams_name_none fs in
    let noted : streams_in (d.frames ++ behind) ≡ map meta_of fs = streams_more d.frames behind t.no_bytes ∙ streams_more (map datagram ms) (map stream fs) (messages_no_bytes ms) ∙ streams_noted fs in
    let again : retransmits_in (d.frames ++ behind) ≡ retransmits_in d.frames =
    fold-append and_again nothing_waits d.frames behind
    ∙ fold-append and_again (retransmits_in d.frames) (map datagram ms) (map stream fs)
    ∙ ap (λ (r : Retransmits). fold and_again r (map stream fs)) (messages_again (retransmits_in d.frames) ms)
    ∙ streams_again (retransmits_in d.frames) fs in
    rw (acked, noted, again) refl

module _ (fair : Bool) (most used : ℕ) (s : StreamsState) (p : Retransmits) (ms : List (List ℕ)) where
  pub content_carried : carried_in (content fair most used s p ms).frames ≡ record { largest_acked = None; stream_frames = map meta_of (stream_part fair most used s p ms).frames; retransmits = retransmits_in (control_part most used s p).frames }
  unfolding content message_frames
  content_carried = all_carried (control_part most used s p) (message_part most (behind_control most used s p) ms) (stream_part fair most used s p ms).frames (control_told most used s p)

-- ---- how all of them are written

-- what stands in a buffer once frames of control went behind so many bytes of a payload
module _ (body most len mid : ℕ) (s : StreamsState) (p : Retransmits) (ms : List (List ℕ)) (below : body ≤ len) (grown : mid ≡ len + length (spelled_all (control_part most (len - body) s p).frames)) where
  used_is : mid - body ≡ behind_control most (len - body) s p
  used_is = omega (arith, below, grown)

  -- the messages behind them
  pub messages_are : map datagram (message_part most (mid - body) ms) ≡ message_frames most (len - body) s p ms
  unfolding message_frames
  messages_are = ap (λ (k : ℕ). map datagram (message_part most k ms)) used_is

  pub messages_stay : (fair : Bool) → messages_left most (mid - body) ms ≡ (content fair most (len - body) s p ms).outgoing
  unfolding content
  messages_stay fair = ap (λ (k : ℕ). messages_left most k ms) used_is

  -- how many bytes are left for STREAM frames behind them
  pub stream_is : (fair : Bool) (last : ℕ) (x : StreamsState) → last ≡ mid + length (spelled_all (message_frames most (len - body) s p ms)) → x ≡ (control_part most (len - body) s p).state
      → stream_frames_in fair (body + most - last) x ≡ stream_part fair most (len - body) s p ms
  unfolding stream_part
  stream_is fair last x more left =
      let used : ℕ = behind_control most (len - body) s p + length (spelled_all (message_frames most (len - body) s p ms)) in
      let room : body + most - last ≡ most - used = omega (arith, below, grown, more) in
      ap (λ (k : ℕ). stream_frames_in fair k x) room ∙ ap (λ (y : StreamsState). stream_frames_in fair (most - used) y) left

module _ (fair : Bool) (most used : ℕ) (s : StreamsState) (p : Retransmits) (ms : List (List ℕ)) where
  -- one behind another
  pub content_written : (old mid last new : List ℕ) → mid ≡ old ++ spelled_all (control_part most used s p).frames → last ≡ mid ++ spelled_all (message_frames most used s p ms) → new ≡ last ++ (stream_part fair most used s p ms).bytes
      → new ≡ old ++ (content fair most used s p ms).bytes
  unfolding content
  content_written old mid last new first second third =
      let control : List ℕ = spelled_all (control_part most used s p).frames in
      let messages : List ℕ = spelled_all (message_frames most used s p ms) in
      let streams : List ℕ = (stream_part fair most used s p ms).bytes in
      third
      ∙ ap (λ (z : List ℕ). z ++ streams) second
      ∙ append_assoc mid messages streams
      ∙ ap (λ (z : List ℕ). z ++ (messages ++ streams)) first
      ∙ append_assoc old control (messages ++ streams)

  -- the streams that they leave
  pub content_left : (x : StreamsState) (q : Retransmits) → x ≡ (stream_part fair most used s p ms).state → q ≡ (control_part most used s p).pending → streams_of x q ≡ (content fair most used s p ms).streams
  unfolding content
  content_left x q state pending = ap (λ (y : StreamsState). streams_of y q) state ∙ ap (λ (r : Retransmits). streams_of (stream_part fair most used s p ms).state r) pending

  -- what is kept of what they carry, and of ACK_FREQUENCY
  pub content_kept : (requests : Bool) (metas : List StreamMeta) (kept : Option Retransmits) → metas ≡ map meta_of (stream_part fair most used s p ms).frames → made kept ≡ with_flag requests (retransmits_in (control_part most used s p).frames)
      → ◌≡◌ {A = Carried} (record { largest_acked = None; stream_frames = metas; retransmits = made kept }) (with_request requests (carried_in (content fair most used s p ms).frames))
  content_kept requests metas kept noted again =
      ap (λ (xs : List StreamMeta). record { largest_acked = None; stream_frames = xs; retransmits = made kept }) noted
      ∙ ap (λ (r : Retransmits). record { largest_acked = None; stream_frames = map meta_of (stream_part fair most used s p ms).frames; retransmits = r }) again
      ∙ sym (ap (λ (c : Carried). with_request requests c) (content_carried fair most used s p ms))

  -- they have no ACK_FREQUENCY
  pub content_unasked : (carried_in (content fair most used s p ms).frames).retransmits.ack_frequency ≡ false
  content_unasked = ap (λ (c : Carried). c.retransmits.ack_frequency) (content_carried fair most used s p ms) ∙ control_unasked most used s p

-- behind ACK_FREQUENCY others are to be sent again as without it, and it besides
again_behind : (r : Retransmits) (f : FrameValue) → and_again (with_flag true r) f ≡ with_flag true (and_again r f)
again_behind r (stream f) = refl
again_behind r (ack_frequency f) = refl
again_behind r f = refl

all_behind : (r : Retransmits) (fs : List FrameValue) → fold and_again (with_flag true r) fs ≡ with_flag true (fold and_again r fs)
all_behind r [] = refl
all_behind r (f ∷ fs) = ap (λ (x : Retransmits). fold and_again x fs) (again_behind r f) ∙ all_behind (and_again r f) fs

-- so it is of what a datagram carried
pub request_carried : (f : AckFrequencyValue) (fs : List FrameValue) → carried_in (ack_frequency f ∷ fs) ≡ with_request true (carried_in fs)
request_carried f fs = ap (λ (r : Retransmits). record { largest_acked = acked_in fs; stream_frames = streams_in fs; retransmits = r }) (all_behind nothing_waits fs)
