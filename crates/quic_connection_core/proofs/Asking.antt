-- How what asks for an acknowledgement goes behind the frames of a payload.
use Rattle.std.proofs.Common.{◌≡◌, ℕ, ◌+◌, ◌-◌, ◌≤◌, Bool, true, false, List, [], ◌∷◌, ◌++◌, ◌||◌, length, Option, Some, None, max, refl, sym, ap, inl, inr, ◌∙◌, arith}
use Rattle.std.specs.Prelude.{map, nat_lt, if◌then◌else◌}
use Rattle.std.specs.Option.{is_some}
use Rattle.std.proofs.lemmas.List.{append_assoc, append-nil, length-append}
use Rattle.quic_wire.specs.Value.{FrameValue, ping, immediate_ack, stream, datagram}
use Rattle.quic_wire.specs.Writing.{spelling, spelled_all}
use Rattle.quic_retransmits.specs.Retransmits.{nothing_waits}
use Rattle.quic_streams_state.specs.State.{streams_of}
use Rattle.quic_streams_state.specs.Control as control
use Rattle.quic_streams_state.specs.Frames as of_streams
use Rattle.quic_messages.specs.Messages.{frame_bytes}
use Rattle.quic_machine.specs.Tracking.{Carried, acked_in, carried_in}
use Rattle.quic_machine.specs.Parts.{Signals}
use Rattle.quic_machine.specs.End.{End, with_streams, with_queued}
use Rattle.quic_paths.specs.Responses.{Response}
use Rattle.quic_machine.specs.Validation.{path_waits, challenge_frame, response_frame}
use Rattle.quic_machine.specs.Poll.{Draft, whole, least_by, frame_room, fits, challenge_if, response_if, ping_if, immediate_if, request_if, with_challenge_frame, with_response_frame, with_ping_frame, with_immediate_frame, with_frequency_frame, behind_control, with_control_frames, with_message, with_messages_of, with_message_frames, behind_stream, with_stream_frames, request_of, with_asking, asking}
use Rattle.quic_connection_parts.specs.Frames.{control_part, message_part, messages_left, message_frames, stream_part, Content, content, content_at, with_content, challenge_list, response_list, path_frames, path_bytes, challenge_gone, response_gone, paths_sent, ping_list, ping_bytes, end_after_ping_if, pinged, immediate_list, immediate_bytes, end_after_immediate_if, bare_list, bare_bytes, bare_sent, request_list, request_bytes, end_after_request_if, request_gone, with_request, asked_behind_signals, asked_behind_paths, asked}
use Rattle.quic_connection_parts.proofs.Content.{Marked, marked_both, marked_asks, message_long, content_marked, content_carried, content_unasked, request_carried}

-- what goes behind the frames of a draft that let its datagram have any size
abbrev pub behind : Draft → Draft → Draft
behind d x = record { frames = d.frames ++ x.frames; bytes = d.bytes ++ x.bytes; least = x.least; end = x.end }

-- what goes behind the frames of a draft, and lets its datagram have any size
abbrev behind_freely : Draft → Draft → Draft
behind_freely d x = record { frames = d.frames ++ x.frames; bytes = d.bytes ++ x.bytes; least = d.least; end = x.end }

-- ---- messages

-- messages behind a draft, which leave these to be sent
abbrev with_messages_behind : Draft → List (List ℕ) → List (List ℕ) → Draft
with_messages_behind d sent left = record { frames = d.frames ++ map datagram sent; bytes = d.bytes ++ spelled_all (map datagram sent); least = d.least; end = with_queued d.end (record d.end.messages.queues { outgoing = left }) }

-- one more before them
message_first : (d : Draft) (m : List ℕ) (ms sent left : List (List ℕ)) → with_messages_behind (with_message d m ms) sent left ≡ with_messages_behind d (m ∷ sent) left
message_first d m ms sent left =
    let fs : (d.frames ++ datagram m ∷ []) ++ map datagram sent ≡ d.frames ++ datagram m ∷ map datagram sent = append_assoc d.frames (datagram m ∷ []) (map datagram sent) in
    let bs : (d.bytes ++ spelling (datagram m)) ++ spelled_all (map datagram sent) ≡ d.bytes ++ (spelling (datagram m) ++ spelled_all (map datagram sent)) =
    append_assoc d.bytes (spelling (datagram m)) (spelled_all (map datagram sent)) in
    rw (fs, bs) refl

-- messages go while they fit
messages_go : (ms : List (List ℕ)) (d : Draft) → d.end.messages.queues.outgoing ≡ ms
    → with_messages_of ms d ≡ with_messages_behind d (message_part (frame_room d.end) (length d.bytes) ms) (messages_left (frame_room d.end) (length d.bytes) ms)
unfolding message_part messages_left
messages_go [] d is = rw (append-nil d.frames, append-nil d.bytes) (ap (λ (xs : List (List ℕ)). record d { end = with_queued d.end (record d.end.messages.queues { outgoing = xs }) }) is)
messages_go (m ∷ ms) d is = go (fits d (datagram m)) (messages_go ms (with_message d m ms) refl)
  where
    long : length (d.bytes ++ spelling (datagram m)) ≡ length d.bytes + frame_bytes m
    long = length-append d.bytes (spelling (datagram m)) ∙ ap (λ (k : ℕ). length d.bytes + k) (message_long m)

    go : (b : Bool) → with_messages_of ms (with_message d m ms) ≡ with_messages_behind (with_message d m ms) (message_part (frame_room d.end) (length (d.bytes ++ spelling (datagram m))) ms) (messages_left (frame_room d.end) (length (d.bytes ++ spelling (datagram m))) ms)
        → (if b then with_messages_of ms (with_message d m ms) else d)
        ≡ with_messages_behind d (if b then m ∷ message_part (frame_room d.end) (length d.bytes + frame_bytes m) ms else []) (if b then messages_left (frame_room d.end) (length d.bytes + frame_bytes m) ms else m ∷ ms)
    go true others =
        others
        ∙ ap (λ (k : ℕ). with_messages_behind (with_message d m ms) (message_part (frame_room d.end) k ms) (messages_left (frame_room d.end) k ms)) long
        ∙ message_first d m ms (message_part (frame_room d.end) (length d.bytes + frame_bytes m) ms) (messages_left (frame_room d.end) (length d.bytes + frame_bytes m) ms)
    go false others = rw (append-nil d.frames, append-nil d.bytes) (ap (λ (xs : List (List ℕ)). record d { end = with_queued d.end (record d.end.messages.queues { outgoing = xs }) }) is)

-- ---- messages, and frames about streams

-- frames of control, messages and STREAM frames behind a draft
abbrev joined : Draft → control.Draft → List (List ℕ) → List (List ℕ) → of_streams.Sent → Draft
joined d c sent left t = record {
  frames = d.frames ++ (c.frames ++ (map datagram sent ++ map stream t.frames));
  bytes = d.bytes ++ (spelled_all c.frames ++ (spelled_all (map datagram sent) ++ t.bytes));
  least = d.least;
  end = with_queued (with_streams d.end (streams_of t.state c.pending)) (record d.end.messages.queues { outgoing = left });
}

joined_is : (d : Draft) (c : control.Draft) (sent left : List (List ℕ)) (t : of_streams.Sent) → behind_stream (with_messages_behind (behind_control d c) sent left) t ≡ joined d c sent left t
joined_is d c sent left t =
    let fs : ((d.frames ++ c.frames) ++ map datagram sent) ++ map stream t.frames ≡ d.frames ++ (c.frames ++ (map datagram sent ++ map stream t.frames)) =
    append_assoc (d.frames ++ c.frames) (map datagram sent) (map stream t.frames) ∙ append_assoc d.frames c.frames (map datagram sent ++ map stream t.frames) in
    let bs : ((d.bytes ++ spelled_all c.frames) ++ spelled_all (map datagram sent)) ++ t.bytes ≡ d.bytes ++ (spelled_all c.frames ++ (spelled_all (map datagram sent) ++ t.bytes)) =
    append_assoc (d.bytes ++ spelled_all c.frames) (spelled_all (map datagram sent)) t.bytes ∙ append_assoc d.bytes (spelled_all c.frames) (spelled_all (map datagram sent) ++ t.bytes) in
    rw (fs, bs) refl

-- STREAM frames go behind messages
streams_go : (d : Draft) (c : control.Draft) (sent left : List (List ℕ)) → with_stream_frames (with_messages_behind (behind_control d c) sent left)
    ≡ joined d c sent left (of_streams.stream_frames_in d.end.transport.send_fairness (frame_room d.end - (length d.bytes + length (spelled_all c.frames) + length (spelled_all (map datagram sent)))) c.state)
streams_go d c sent left =
    let bs : List ℕ = spelled_all (map datagram sent) in
    let long : length ((d.bytes ++ spelled_all c.frames) ++ bs) ≡ length d.bytes + length (spelled_all c.frames) + length bs =
    length-append (d.bytes ++ spelled_all c.frames) bs ∙ ap (λ (k : ℕ). k + length bs) (length-append d.bytes (spelled_all c.frames)) in
    ap (λ (k : ℕ). behind_stream (with_messages_behind (behind_control d c) sent left) (of_streams.stream_frames_in d.end.transport.send_fairness (frame_room d.end - k) c.state)) long
    ∙ joined_is d c sent left (of_streams.stream_frames_in d.end.transport.send_fairness (frame_room d.end - (length d.bytes + length (spelled_all c.frames) + length bs)) c.state)

-- messages go behind frames of control, and STREAM frames behind them
all_go : (d : Draft) (c : control.Draft) → let used : ℕ = length d.bytes + length (spelled_all c.frames) in
    let sent : List (List ℕ) = message_part (frame_room d.end) used d.end.messages.queues.outgoing in
    with_stream_frames (with_message_frames (behind_control d c))
    ≡ joined d c sent (messages_left (frame_room d.end) used d.end.messages.queues.outgoing) (of_streams.stream_frames_in d.end.transport.send_fairness (frame_room d.end - (used + length (spelled_all (map datagram sent)))) c.state)
all_go d c =
    let ms : List (List ℕ) = d.end.messages.queues.outgoing in
    let used : ℕ = length d.bytes + length (spelled_all c.frames) in
    ap with_stream_frames (messages_go ms (behind_control d c) refl)
    ∙ ap (λ (k : ℕ). with_stream_frames (with_messages_behind (behind_control d c) (message_part (frame_room d.end) k ms) (messages_left (frame_room d.end) k ms))) (length-append d.bytes (spelled_all c.frames))
    ∙ streams_go d c (message_part (frame_room d.end) used ms) (messages_left (frame_room d.end) used ms)

-- behind the frames of a draft
unfoldable content_behind : Draft → Content → Draft
content_behind d a = record { frames = d.frames ++ a.frames; bytes = d.bytes ++ a.bytes; least = d.least; end = with_content d.end a }

content_goes : (d : Draft) → with_stream_frames (with_message_frames (with_control_frames d)) ≡ content_behind d (content_at d.end (length d.bytes))
unfolding content_behind content stream_part message_frames control_part
content_goes d = all_go d (control.control_frames (frame_room d.end) (length d.bytes) d.end.streams d.end.waiting.frames nothing_waits)

-- ---- PING and IMMEDIATE_ACK, and the others behind them

-- a draft behind which each goes that waits
abbrev with_bare : Bool → Bool → Draft → Draft
with_bare a b d = record {
  frames = d.frames ++ (ping_list a ++ immediate_list b);
  bytes = d.bytes ++ (ping_bytes a ++ immediate_bytes b);
  least = d.least;
  end = end_after_immediate_if b (end_after_ping_if a d.end);
}

bare_both : (a b : Bool) (d : Draft) → immediate_if b (ping_if a d) ≡ with_bare a b d
bare_both true true d =
    let x : Draft = immediate_if true (ping_if true d) in
    let fs : (d.frames ++ ping ∷ []) ++ immediate_ack ∷ [] ≡ d.frames ++ (ping ∷ immediate_ack ∷ []) = append_assoc d.frames (ping ∷ []) (immediate_ack ∷ []) in
    let bs : (d.bytes ++ spelling ping) ++ spelling immediate_ack ≡ d.bytes ++ (spelling ping ++ spelling immediate_ack) = append_assoc d.bytes (spelling ping) (spelling immediate_ack) in
    ap (λ (z : List FrameValue). record x { frames = z }) fs ∙ ap (λ (z : List ℕ). record x { frames = d.frames ++ (ping ∷ immediate_ack ∷ []); bytes = z }) bs
bare_both true false d = ap (λ (z : List ℕ). record (ping_if true d) { bytes = d.bytes ++ z }) (sym (append-nil (spelling ping)))
bare_both false true d = refl
bare_both false false d = rw (append-nil d.frames, append-nil d.bytes) refl

-- PING leaves IMMEDIATE_ACK waiting
ping_stays : (a : Bool) (d : Draft) → (ping_if a d).end.waiting.signals.immediate ≡ d.end.waiting.signals.immediate
ping_stays true d = refl
ping_stays false d = refl

unfoldable bare_draft : Draft → Draft
bare_draft d = with_bare d.end.waiting.signals.ping d.end.waiting.signals.immediate d

bare_goes : (d : Draft) → with_immediate_frame (with_ping_frame d) ≡ bare_draft d
unfolding bare_draft
bare_goes d =
    let a : Bool = d.end.waiting.signals.ping in
    ap (λ (b : Bool). immediate_if b (ping_if a d)) (ping_stays a d) ∙ bare_both a d.end.waiting.signals.immediate d

-- ---- ACK_FREQUENCY, and the others behind it

-- a draft behind which it goes, if it waits
abbrev with_requested : Bool → Draft → Draft
with_requested b d = record { frames = d.frames ++ request_list b d.end; bytes = d.bytes ++ request_bytes b d.end; least = d.least; end = end_after_request_if b d.end }

unfoldable request_draft : Draft → Draft
request_draft d = with_requested d.end.waiting.frames.ack_frequency d

request_goes : (b : Bool) (d : Draft) → request_if b d ≡ with_requested b d
request_goes true d = refl
request_goes false d = rw (append-nil d.frames, append-nil d.bytes) refl

-- it goes behind signals
behind_signals : (d : Draft) → with_stream_frames (with_message_frames (with_control_frames (with_frequency_frame d))) ≡ behind_freely d (asked_behind_signals d.end (length d.bytes))
unfolding asked_behind_signals content_behind request_draft
behind_signals d =
    let b : Bool = d.end.waiting.frames.ack_frequency in
    let bs : List ℕ = request_bytes b d.end in
    ap (λ (x : Draft). with_stream_frames (with_message_frames (with_control_frames x))) (request_goes b d)
    ∙ content_goes (request_draft d)
    ∙ ap (λ (k : ℕ). content_behind (request_draft d) (content_at (request_gone d.end) k)) (length-append d.bytes bs)
    ∙ together (content_at (request_gone d.end) (length d.bytes + length bs))
  where
    together : (a : Content) → content_behind (request_draft d) a
        ≡ behind_freely d (record { frames = request_list d.end.waiting.frames.ack_frequency d.end ++ a.frames; bytes = request_bytes d.end.waiting.frames.ack_frequency d.end ++ a.bytes; least = 0; end = with_content (request_gone d.end) a })
    together a =
        let fs = append_assoc d.frames (request_list d.end.waiting.frames.ack_frequency d.end) a.frames in
        let bs = append_assoc d.bytes (request_bytes d.end.waiting.frames.ack_frequency d.end) a.bytes in
        rw (fs, bs) refl

-- they go behind frames of path validation
behind_paths : (d : Draft) → with_stream_frames (with_message_frames (with_control_frames (with_frequency_frame (with_immediate_frame (with_ping_frame d))))) ≡ behind_freely d (asked_behind_paths d.end (length d.bytes))
unfolding asked_behind_paths bare_draft
behind_paths d =
    let bs : List ℕ = bare_bytes d.end.waiting.signals in
    ap (λ (x : Draft). with_stream_frames (with_message_frames (with_control_frames (with_frequency_frame x)))) (bare_goes d)
    ∙ behind_signals (bare_draft d)
    ∙ ap (λ (k : ℕ). behind_freely (bare_draft d) (asked_behind_signals (bare_sent d.end) k)) (length-append d.bytes bs)
    ∙ together (asked_behind_signals (bare_sent d.end) (length d.bytes + length bs))
  where
    together : (a : Draft) → behind_freely (bare_draft d) a ≡ behind_freely d (record { frames = bare_list d.end.waiting.signals ++ a.frames; bytes = bare_bytes d.end.waiting.signals ++ a.bytes; least = 0; end = a.end })
    together a =
        let fs = append_assoc d.frames (bare_list d.end.waiting.signals) a.frames in
        let bs = append_assoc d.bytes (bare_bytes d.end.waiting.signals) a.bytes in
        rw (fs, bs) refl

-- ---- frames of path validation, and the others behind them

-- a draft with any size, behind which each goes that waits
abbrev with_paths : Option ℕ → Option Response → Draft → Draft
with_paths o r d = record {
  frames = d.frames ++ (challenge_list o ++ response_list r);
  bytes = d.bytes ++ spelled_all (challenge_list o ++ response_list r);
  least = least_by whole (is_some o || is_some r);
  end = response_gone r (challenge_gone o d.end);
}

both_go : (o : Option ℕ) (r : Option Response) (d : Draft) → d.least ≡ 0 → response_if r (challenge_if o d) ≡ with_paths o r d
both_go None None d none = rw (append-nil d.frames, append-nil d.bytes) (ap (λ (n : ℕ). record d { least = n }) none)
both_go (Some word) None d none =
    let bs : spelling (challenge_frame word) ++ [] ≡ spelling (challenge_frame word) = append-nil (spelling (challenge_frame word)) in
    ap (λ (n : ℕ). record (challenge_if (Some word) d) { least = max n 1200 }) none
    ∙ ap (λ (x : List ℕ). record (challenge_if (Some word) d) { bytes = d.bytes ++ x; least = 1200 }) (sym bs)
both_go None (Some r) d none =
    let bs : spelling (response_frame r) ++ [] ≡ spelling (response_frame r) = append-nil (spelling (response_frame r)) in
    ap (λ (n : ℕ). record (response_if (Some r) d) { least = max n 1200 }) none
    ∙ ap (λ (x : List ℕ). record (response_if (Some r) d) { bytes = d.bytes ++ x; least = 1200 }) (sym bs)
both_go (Some word) (Some r) d none =
    let f : FrameValue = challenge_frame word in
    let g : FrameValue = response_frame r in
    let x : Draft = response_if (Some r) (challenge_if (Some word) d) in
    let fs : (d.frames ++ f ∷ []) ++ g ∷ [] ≡ d.frames ++ (f ∷ g ∷ []) = append_assoc d.frames (f ∷ []) (g ∷ []) in
    let bs : (d.bytes ++ spelling f) ++ spelling g ≡ d.bytes ++ (spelling f ++ (spelling g ++ [])) = append_assoc d.bytes (spelling f) (spelling g) ∙ ap (λ (z : List ℕ). d.bytes ++ (spelling f ++ z)) (sym (append-nil (spelling g))) in
    ap (λ (n : ℕ). record x { least = max (max n 1200) 1200 }) none
    ∙ ap (λ (z : List FrameValue). record x { frames = z; least = 1200 }) fs
    ∙ ap (λ (z : List ℕ). record x { frames = d.frames ++ (f ∷ g ∷ []); bytes = z; least = 1200 }) bs

unfoldable paths_draft : Draft → Draft
paths_draft d = with_paths d.end.waiting.signals.challenge d.end.waiting.signals.response d

paths_go : (d : Draft) → d.least ≡ 0 → with_response_frame (with_challenge_frame d) ≡ paths_draft d
unfolding paths_draft
paths_go d none = answered d.end.waiting.signals.challenge ∙ both_go d.end.waiting.signals.challenge d.end.waiting.signals.response d none
  where
    answered : (o : Option ℕ) → with_response_frame (challenge_if o d) ≡ response_if d.end.waiting.signals.response (challenge_if o d)
    answered None = refl
    answered (Some word) = refl

-- what asks goes behind the frames of a draft that let its datagram have any size
pub asked_behind : (d : Draft) → d.least ≡ 0 → with_asking d ≡ behind d (asked d.end (length d.bytes))
unfolding asked paths_draft
asked_behind d none =
    ap (λ (x : Draft). with_stream_frames (with_message_frames (with_control_frames (with_frequency_frame (with_immediate_frame (with_ping_frame x)))))) (paths_go d none)
    ∙ behind_paths (paths_draft d)
    ∙ ap (λ (k : ℕ). behind_freely (paths_draft d) (asked_behind_paths (paths_sent d.end) k)) (length-append d.bytes (path_bytes d.end))
    ∙ together (asked_behind_paths (paths_sent d.end) (length d.bytes + length (path_bytes d.end)))
  where
    together : (a : Draft) → behind_freely (paths_draft d) a ≡ behind d (record { frames = path_frames d.end ++ a.frames; bytes = path_bytes d.end ++ a.bytes; least = least_by whole (path_waits d.end); end = a.end })
    together a =
        let fs = append_assoc d.frames (path_frames d.end) a.frames in
        let bs = append_assoc d.bytes (path_bytes d.end) a.bytes in
        rw (fs, bs) refl

-- ---- how frames of path validation are written

spelled_both : (fs gs : List FrameValue) → spelled_all (fs ++ gs) ≡ spelled_all fs ++ spelled_all gs
spelled_both [] gs = refl
spelled_both (f ∷ fs) gs = ap (λ (z : List ℕ). spelling f ++ z) (spelled_both fs gs) ∙ sym (append_assoc (spelling f) (spelled_all fs) (spelled_all gs))

-- PATH_CHALLENGE leaves PATH_RESPONSE waiting
response_stays : (o : Option ℕ) (e : End) → (challenge_gone o e).waiting.signals.response ≡ e.waiting.signals.response
response_stays None e = refl
response_stays (Some word) e = refl

pub paths_written : (e y : End) (old mid new : List ℕ) → y ≡ challenge_gone e.waiting.signals.challenge e → mid ≡ old ++ spelled_all (challenge_list e.waiting.signals.challenge) → new ≡ mid ++ spelled_all (response_list y.waiting.signals.response) → new ≡ old ++ path_bytes e
paths_written e y old mid new left first second =
    let c : List ℕ = spelled_all (challenge_list e.waiting.signals.challenge) in
    let same : y.waiting.signals.response ≡ e.waiting.signals.response = ap (λ (z : End). z.waiting.signals.response) left ∙ response_stays e.waiting.signals.challenge e in
    second
    ∙ ap (λ (r : Option Response). mid ++ spelled_all (response_list r)) same
    ∙ ap (λ (z : List ℕ). z ++ spelled_all (response_list e.waiting.signals.response)) first
    ∙ append_assoc old c (spelled_all (response_list e.waiting.signals.response))
    ∙ ap (λ (z : List ℕ). old ++ z) (sym (spelled_both (challenge_list e.waiting.signals.challenge) (response_list e.waiting.signals.response)))

pub paths_gone : (e y : End) → y ≡ challenge_gone e.waiting.signals.challenge e → response_gone y.waiting.signals.response y ≡ paths_sent e
paths_gone e y left = ap (λ (z : End). response_gone z.waiting.signals.response z) left ∙ ap (λ (r : Option Response). response_gone r (challenge_gone e.waiting.signals.challenge e)) (response_stays e.waiting.signals.challenge e)

-- ---- how PING and IMMEDIATE_ACK are written

-- PING leaves IMMEDIATE_ACK waiting
immediate_stays : (b : Bool) (e : End) → (end_after_ping_if b e).waiting.signals.immediate ≡ e.waiting.signals.immediate
immediate_stays true e = refl
immediate_stays false e = refl

pub bare_written : (e y : End) (old mid new : List ℕ) → y ≡ pinged e → mid ≡ old ++ ping_bytes e.waiting.signals.ping → new ≡ mid ++ immediate_bytes y.waiting.signals.immediate → new ≡ old ++ bare_bytes e.waiting.signals
bare_written e y old mid new left first second =
    let same : y.waiting.signals.immediate ≡ e.waiting.signals.immediate = ap (λ (z : End). z.waiting.signals.immediate) left ∙ immediate_stays e.waiting.signals.ping e in
    second
    ∙ ap (λ (b : Bool). mid ++ immediate_bytes b) same
    ∙ ap (λ (z : List ℕ). z ++ immediate_bytes e.waiting.signals.immediate) first
    ∙ append_assoc old (ping_bytes e.waiting.signals.ping) (immediate_bytes e.waiting.signals.immediate)

pub bare_gone : (e y : End) → y ≡ pinged e → end_after_immediate_if y.waiting.signals.immediate y ≡ bare_sent e
bare_gone e y left = ap (λ (z : End). end_after_immediate_if z.waiting.signals.immediate z) left ∙ ap (λ (b : Bool). end_after_immediate_if b (pinged e)) (immediate_stays e.waiting.signals.ping e)

-- each has one byte
pub bare_short : (s : Signals) → length (bare_bytes s) ≤ 2
bare_short s = go s.ping s.immediate
  where
    go : (a b : Bool) → length (ping_bytes a ++ immediate_bytes b) ≤ 2
    go true true = omega arith
    go true false = omega arith
    go false true = omega arith
    go false false = omega arith

-- ---- what it says

-- PING and IMMEDIATE_ACK leave as much room in all
pub bare_room : (e : End) → frame_room (bare_sent e) ≡ frame_room e
bare_room e = go e.waiting.signals.ping e.waiting.signals.immediate
  where
    go : (a b : Bool) → frame_room (end_after_immediate_if b (end_after_ping_if a e)) ≡ frame_room e
    go true true = refl
    go true false = refl
    go false true = refl
    go false false = refl

-- and as many numbers are given
pub bare_numbers : (e : End) → (bare_sent e).numbers ≡ e.numbers
bare_numbers e = go e.waiting.signals.ping e.waiting.signals.immediate
  where
    go : (a b : Bool) → (end_after_immediate_if b (end_after_ping_if a e)).numbers ≡ e.numbers
    go true true = refl
    go true false = refl
    go false true = refl
    go false false = refl

-- so it is of ACK_FREQUENCY
pub request_room : (e : End) → frame_room (request_gone e) ≡ frame_room e
request_room e = go e.waiting.frames.ack_frequency
  where
    go : (b : Bool) → frame_room (end_after_request_if b e) ≡ frame_room e
    go true = refl
    go false = refl

pub request_numbers : (e : End) → (request_gone e).numbers ≡ e.numbers
request_numbers e = go e.waiting.frames.ack_frequency
  where
    go : (b : Bool) → (end_after_request_if b e).numbers ≡ e.numbers
    go true = refl
    go false = refl

-- and of frames of path validation
pub paths_room : (e : End) → frame_room (paths_sent e) ≡ frame_room e
paths_room e = go e.waiting.signals.challenge e.waiting.signals.response
  where
    go : (o : Option ℕ) (r : Option Response) → frame_room (response_gone r (challenge_gone o e)) ≡ frame_room e
    go None None = refl
    go None (Some r) = refl
    go (Some word) None = refl
    go (Some word) (Some r) = refl

pub paths_numbers : (e : End) → (paths_sent e).numbers ≡ e.numbers
paths_numbers e = go e.waiting.signals.challenge e.waiting.signals.response
  where
    go : (o : Option ℕ) (r : Option Response) → (response_gone r (challenge_gone o e)).numbers ≡ e.numbers
    go None None = refl
    go None (Some r) = refl
    go (Some word) None = refl
    go (Some word) (Some r) = refl

-- and of all of these, one behind another
pub behind_room : (e y x z : End) → y ≡ paths_sent e → x ≡ bare_sent y → z ≡ request_gone x → frame_room z ≡ frame_room e
behind_room e y x z paths bare request = ap frame_room request ∙ request_room x ∙ ap frame_room bare ∙ bare_room y ∙ ap frame_room paths ∙ paths_room e

pub behind_numbers : (e y x z : End) → y ≡ paths_sent e → x ≡ bare_sent y → z ≡ request_gone x → z.numbers ≡ e.numbers
behind_numbers e y x z paths bare request =
    ap (λ (v : End). v.numbers) request ∙ request_numbers x ∙ ap (λ (v : End). v.numbers) bare ∙ bare_numbers y ∙ ap (λ (v : End). v.numbers) paths ∙ paths_numbers e

-- and of what asks
pub asked_room : (e : End) (used : ℕ) → frame_room (asked e used).end ≡ frame_room e
unfolding asked asked_behind_paths asked_behind_signals
asked_room e used = request_room (bare_sent (paths_sent e)) ∙ bare_room (paths_sent e) ∙ paths_room e

pub asked_numbers : (e : End) (used : ℕ) → (asked e used).end.numbers ≡ e.numbers
unfolding asked asked_behind_paths asked_behind_signals
asked_numbers e used = request_numbers (bare_sent (paths_sent e)) ∙ bare_numbers (paths_sent e) ∙ paths_numbers e

bare_marked : (a b : Bool) → Marked (ping_list a ++ immediate_list b) (ping_bytes a ++ immediate_bytes b)
bare_marked true b = inl (refl, long b)
  where
    long : (b : Bool) → 1 ≤ length (ping_bytes true ++ immediate_bytes b)
    long true = omega arith
    long false = omega arith
bare_marked false true = inl (refl, omega arith)
bare_marked false false = inr (refl, refl)

request_marked : (b : Bool) (e : End) → Marked (request_list b e) (request_bytes b e)
request_marked true e = inl (refl, omega arith)
request_marked false e = inr (refl, refl)

signals_marked : (e : End) (used : ℕ) → Marked (asked_behind_signals e used).frames (asked_behind_signals e used).bytes
unfolding asked_behind_signals
signals_marked e used =
    let b : Bool = e.waiting.frames.ack_frequency in
    let x : End = request_gone e in
    let more : ℕ = used + length (request_bytes b e) in
    let a : Content = content_at x more in
    marked_both (request_list b e) a.frames (request_bytes b e) a.bytes (request_marked b e) (content_marked x.transport.send_fairness (frame_room x) more x.streams x.waiting.frames x.messages.queues.outgoing)

rest_marked : (e : End) (used : ℕ) → Marked (asked_behind_paths e used).frames (asked_behind_paths e used).bytes
unfolding asked_behind_paths
rest_marked e used =
    let a : Draft = asked_behind_signals (bare_sent e) (used + length (bare_bytes e.waiting.signals)) in
    marked_both (bare_list e.waiting.signals) a.frames (bare_bytes e.waiting.signals) a.bytes (bare_marked e.waiting.signals.ping e.waiting.signals.immediate) (signals_marked (bare_sent e) (used + length (bare_bytes e.waiting.signals)))

paths_marked : (o : Option ℕ) (r : Option Response) → Marked (challenge_list o ++ response_list r) (spelled_all (challenge_list o ++ response_list r))
paths_marked None None = inr (refl, refl)
paths_marked None (Some r) = inl (refl, omega arith)
paths_marked (Some word) r = inl (refl, omega arith)

pub asked_marked : (e : End) (used : ℕ) → Marked (asked e used).frames (asked e used).bytes
unfolding asked
asked_marked e used =
    let rest : Draft = asked_behind_paths (paths_sent e) (used + length (path_bytes e)) in
    marked_both (path_frames e) rest.frames (path_bytes e) rest.bytes (paths_marked e.waiting.signals.challenge e.waiting.signals.response) (rest_marked (paths_sent e) (used + length (path_bytes e)))

-- PING and IMMEDIATE_ACK carry nothing
bare_carried : (a b : Bool) (fs : List FrameValue) → carried_in ((ping_list a ++ immediate_list b) ++ fs) ≡ carried_in fs
bare_carried true true fs = refl
bare_carried true false fs = refl
bare_carried false true fs = refl
bare_carried false false fs = refl

rest_carried : (e : End) (used : ℕ) → carried_in (asked_behind_paths e used).frames ≡ carried_in (asked_behind_signals (bare_sent e) (used + length (bare_bytes e.waiting.signals))).frames
unfolding asked_behind_paths
rest_carried e used = bare_carried e.waiting.signals.ping e.waiting.signals.immediate (asked_behind_signals (bare_sent e) (used + length (bare_bytes e.waiting.signals))).frames

-- ACK_FREQUENCY is to be sent again, where it goes
requested : (b : Bool) (e : End) (fs : List FrameValue) → (carried_in fs).retransmits.ack_frequency ≡ false → carried_in (request_list b e ++ fs) ≡ with_request b (carried_in fs)
requested true e fs none = request_carried (request_of e) fs
requested false e fs none = ap (λ (b : Bool). with_request b (carried_in fs)) none

signals_carried : (e : End) (used : ℕ) → carried_in (asked_behind_signals e used).frames ≡ with_request e.waiting.frames.ack_frequency (carried_in (content_at (request_gone e) (used + length (request_bytes e.waiting.frames.ack_frequency e))).frames)
unfolding asked_behind_signals
signals_carried e used =
    let b : Bool = e.waiting.frames.ack_frequency in
    let x : End = request_gone e in
    let more : ℕ = used + length (request_bytes b e) in
    requested b e (content_at x more).frames (content_unasked x.transport.send_fairness (frame_room x) more x.streams x.waiting.frames x.messages.queues.outgoing)

-- nor do frames of path validation
paths_carried : (o : Option ℕ) (r : Option Response) (fs : List FrameValue) → carried_in ((challenge_list o ++ response_list r) ++ fs) ≡ carried_in fs
paths_carried None None fs = refl
paths_carried None (Some r) fs = refl
paths_carried (Some word) None fs = refl
paths_carried (Some word) (Some r) fs = refl

pub asked_carried : (e : End) (used : ℕ) → carried_in (asked e used).frames ≡ carried_in (asked_behind_paths (paths_sent e) (used + length (path_bytes e))).frames
unfolding asked
asked_carried e used = paths_carried e.waiting.signals.challenge e.waiting.signals.response (asked_behind_paths (paths_sent e) (used + length (path_bytes e))).frames

-- what asks names no number
pub asked_names_none : (e : End) (used : ℕ) → acked_in (asked e used).frames ≡ None
asked_names_none e used =
    let x : End = paths_sent e in
    let some : ℕ = used + length (path_bytes e) in
    let y : End = bare_sent x in
    let more : ℕ = some + length (bare_bytes x.waiting.signals) in
    let b : Bool = y.waiting.frames.ack_frequency in
    let z : End = request_gone y in
    let all : ℕ = more + length (request_bytes b y) in
    ap (λ (c : Carried). c.largest_acked) (asked_carried e used ∙ rest_carried x some ∙ signals_carried y more)
    ∙ ap (λ (c : Carried). c.largest_acked) (content_carried z.transport.send_fairness (frame_room z) all z.streams z.waiting.frames z.messages.queues.outgoing)

-- ---- ACK_FREQUENCY went, and the others go behind it

module _ (e x : End) (used behind_request : ℕ) (left : x ≡ request_gone e) (grown : behind_request ≡ used + length (request_bytes e.waiting.frames.ack_frequency e)) where
  abbrev flag : Bool
  flag = e.waiting.frames.ack_frequency

  content_same : content_at x behind_request ≡ content_at (request_gone e) (used + length (request_bytes flag e))
  content_same = ap (λ (y : End). content_at y behind_request) left ∙ ap (λ (k : ℕ). content_at (request_gone e) k) grown

  signals_written : (old mid new : List ℕ) → mid ≡ old ++ request_bytes flag e → new ≡ mid ++ (content_at x behind_request).bytes → new ≡ old ++ (asked_behind_signals e used).bytes
  unfolding asked_behind_signals
  signals_written old mid new first second =
      let a : Content = content_at (request_gone e) (used + length (request_bytes flag e)) in
      second ∙ ap (λ (b : Content). mid ++ b.bytes) content_same ∙ ap (λ (z : List ℕ). z ++ a.bytes) first ∙ append_assoc old (request_bytes flag e) a.bytes

  signals_left : with_content x (content_at x behind_request) ≡ (asked_behind_signals e used).end
  unfolding asked_behind_signals
  signals_left =
      let a : Content = content_at (request_gone e) (used + length (request_bytes flag e)) in
      ap (λ (b : Content). with_content x b) content_same ∙ ap (λ (y : End). with_content y a) left

  signals_kept : (carried : Carried) → carried ≡ with_request flag (carried_in (content_at x behind_request).frames) → carried ≡ carried_in (asked_behind_signals e used).frames
  signals_kept carried is = is ∙ ap (λ (b : Content). with_request flag (carried_in b.frames)) content_same ∙ sym (signals_carried e used)

-- frames of path validation, PING and IMMEDIATE_ACK went, and they go behind these

module _ (e y x z : End) (used behind_path behind_bare behind_request : ℕ) (first : y ≡ paths_sent e) (some : behind_path ≡ used + length (path_bytes e)) (left : x ≡ bare_sent y) (grown : behind_bare ≡ behind_path + length (bare_bytes y.waiting.signals))
    (asks : z ≡ request_gone x) (more : behind_request ≡ behind_bare + length (request_bytes x.waiting.frames.ack_frequency x)) where
  abbrev rest : Draft
  rest = asked_behind_paths (paths_sent e) (used + length (path_bytes e))

  abbrev behind_both : Draft
  behind_both = asked_behind_signals (bare_sent y) (behind_path + length (bare_bytes y.waiting.signals))

  rest_same : asked_behind_paths y behind_path ≡ rest
  rest_same = ap (λ (v : End). asked_behind_paths v behind_path) first ∙ ap (λ (k : ℕ). asked_behind_paths (paths_sent e) k) some

  signals_same : asked_behind_signals x behind_bare ≡ behind_both
  signals_same = ap (λ (v : End). asked_behind_signals v behind_bare) left ∙ ap (λ (k : ℕ). asked_behind_signals (bare_sent y) k) grown

  rest_written : (paths mid new : List ℕ) → mid ≡ paths ++ bare_bytes y.waiting.signals → new ≡ mid ++ (asked_behind_signals x behind_bare).bytes → new ≡ paths ++ (asked_behind_paths y behind_path).bytes
  unfolding asked_behind_paths
  rest_written paths mid new second third =
      third ∙ ap (λ (d : Draft). mid ++ d.bytes) signals_same ∙ ap (λ (v : List ℕ). v ++ behind_both.bytes) second ∙ append_assoc paths (bare_bytes y.waiting.signals) behind_both.bytes

  rest_left : (asked_behind_signals x behind_bare).end ≡ (asked_behind_paths y behind_path).end
  unfolding asked_behind_paths
  rest_left = ap (λ (d : Draft). d.end) signals_same

  pub asked_written : (old paths mid last new : List ℕ) → paths ≡ old ++ path_bytes e → mid ≡ paths ++ bare_bytes y.waiting.signals → last ≡ mid ++ request_bytes x.waiting.frames.ack_frequency x → new ≡ last ++ (content_at z behind_request).bytes
      → new ≡ old ++ (asked e used).bytes
  unfolding asked
  asked_written old paths mid last new zeroth second third fourth =
      rest_written paths mid new second (signals_written x z behind_bare behind_request asks more mid last new third fourth)
      ∙ ap (λ (d : Draft). paths ++ d.bytes) rest_same
      ∙ ap (λ (v : List ℕ). v ++ rest.bytes) zeroth
      ∙ append_assoc old (path_bytes e) rest.bytes

  pub asked_left : with_content z (content_at z behind_request) ≡ (asked e used).end
  unfolding asked
  asked_left = signals_left x z behind_bare behind_request asks more ∙ rest_left ∙ ap (λ (d : Draft). d.end) rest_same

  pub asked_kept : (carried : Carried) → carried ≡ with_request x.waiting.frames.ack_frequency (carried_in (content_at z behind_request).frames) → carried ≡ carried_in (asked e used).frames
  asked_kept carried is =
      signals_kept x z behind_bare behind_request asks more carried is
      ∙ ap (λ (d : Draft). carried_in d.frames) signals_same
      ∙ sym (rest_carried y behind_path)
      ∙ ap (λ (d : Draft). carried_in d.frames) rest_same
      ∙ sym (asked_carried e used)

-- something asks where something is written
pub asked_asks : (e : End) (used before after : ℕ) (old new : List ℕ) → before ≡ length old → after ≡ length new → new ≡ old ++ (asked e used).bytes → nat_lt before after ≡ asking (asked e used).frames
asked_asks e used before after old new b a put =
    let long : length new ≡ length old + length (asked e used).bytes = ap length put ∙ length-append old (asked e used).bytes in
    marked_asks (asked e used).frames (asked e used).bytes before after (asked_marked e used) (omega (arith, a, b, long))
