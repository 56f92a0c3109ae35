use Rattle.std.proofs.Common.{◌≡◌, ◌+◌, ◌-◌, ◌++◌, List, ℕ, length, map, ap, ◌∙◌, arith}
use Rattle.std.specs.Prelude.{vec_len}
use Rattle.std.proofs.lemmas.List.{length-append}
use Rattle.quic_wire.specs.Writing.{spelled_all}
use Rattle.quic_send_buffer.specs.declared.stream_meta.StreamMeta.{StreamMeta}
use Rattle.quic_streams_parts.specs.SendHalf.{meta_of}
use Rattle.quic_streams_state.specs.Control.{Draft}
use Rattle.quic_streams_state.specs.Frames.{Sent, stream_frames_in}
use Rattle.quic_messages.specs.Messages.{Messages}
use Rattle.quic_connection_parts.specs.Frames.{control_part, message_frames, stream_part}
use Rattle.quic_connection_parts.proofs.Content.{messages_are, messages_stay, stream_is, content_written, content_left, content_kept}
use Rattle.quic_connection_parts.proofs.packet.put_content.Goals as goal

-- the same messages, where these wait to be sent
abbrev with_outgoing : Messages → List (List ℕ) → Messages
with_outgoing m ms = record m { outgoing = ms }

pub returns-clause-items : goal.returns-clause-items
returns-clause-items c =
    let a = c.args in
    let used : ℕ = vec_len a.out.now - a.body in
    let ms : List (List ℕ) = a.datagrams.now.outgoing in
    let control : Draft = control_part a.most used a.streams.now.state a.streams.now.pending in
    let p = c.in_ok-retransmits.ensures in
    let m = c.put_messages.ensures in
    let w = c.in_ok-write_stream_frames.ensures in
    let long : length c.put_control_frames.new.out.items ≡ length a.out.now.items + length (spelled_all control.frames) = ap length p.items ∙ length-append a.out.now.items (spelled_all control.frames) in
    let first = a.out.now.ok.0 in
    let second = c.put_control_frames.new.out.ok.0 in
    let grown : vec_len c.put_control_frames.new.out ≡ vec_len a.out.now + length (spelled_all control.frames) = omega (arith, long, first, second) in
    let sent : c.put_messages.new.out.items ≡ c.put_control_frames.new.out.items ++ spelled_all (message_frames a.most used a.streams.now.state a.streams.now.pending ms) =
    m.items ∙ ap (λ fs. c.put_control_frames.new.out.items ++ spelled_all fs) (messages_are a.body a.most (vec_len a.out.now) (vec_len c.put_control_frames.new.out) a.streams.now.state a.streams.now.pending ms c.requires.body grown) in
    let far = ap length sent ∙ length-append c.put_control_frames.new.out.items (spelled_all (message_frames a.most used a.streams.now.state a.streams.now.pending ms)) in
    let third = c.put_messages.new.out.ok.0 in
    let same : stream_frames_in a.fair (a.body + a.most - vec_len c.put_messages.new.out) c.put_control_frames.new.streams.state ≡ stream_part a.fair a.most used a.streams.now.state a.streams.now.pending ms =
    stream_is a.body a.most (vec_len a.out.now) (vec_len c.put_control_frames.new.out) a.streams.now.state a.streams.now.pending ms c.requires.body grown a.fair (vec_len c.put_messages.new.out) c.put_control_frames.new.streams.state
    (omega (arith, far, second, third)) p.state in
    content_written a.fair a.most used a.streams.now.state a.streams.now.pending ms a.out.now.items c.put_control_frames.new.out.items c.put_messages.new.out.items c.write_stream_frames.new.out.items p.items sent
    (w.items ∙ ap (λ (t : Sent). c.put_messages.new.out.items ++ t.bytes) same)

pub returns-clause-streams : goal.returns-clause-streams
returns-clause-streams c =
    let a = c.args in
    let used : ℕ = vec_len a.out.now - a.body in
    let ms : List (List ℕ) = a.datagrams.now.outgoing in
    let control : Draft = control_part a.most used a.streams.now.state a.streams.now.pending in
    let p = c.in_ok-retransmits.ensures in
    let m = c.put_messages.ensures in
    let w = c.in_ok-write_stream_frames.ensures in
    let long : length c.put_control_frames.new.out.items ≡ length a.out.now.items + length (spelled_all control.frames) = ap length p.items ∙ length-append a.out.now.items (spelled_all control.frames) in
    let first = a.out.now.ok.0 in
    let second = c.put_control_frames.new.out.ok.0 in
    let grown : vec_len c.put_control_frames.new.out ≡ vec_len a.out.now + length (spelled_all control.frames) = omega (arith, long, first, second) in
    let sent : c.put_messages.new.out.items ≡ c.put_control_frames.new.out.items ++ spelled_all (message_frames a.most used a.streams.now.state a.streams.now.pending ms) =
    m.items ∙ ap (λ fs. c.put_control_frames.new.out.items ++ spelled_all fs) (messages_are a.body a.most (vec_len a.out.now) (vec_len c.put_control_frames.new.out) a.streams.now.state a.streams.now.pending ms c.requires.body grown) in
    let far = ap length sent ∙ length-append c.put_control_frames.new.out.items (spelled_all (message_frames a.most used a.streams.now.state a.streams.now.pending ms)) in
    let third = c.put_messages.new.out.ok.0 in
    let same : stream_frames_in a.fair (a.body + a.most - vec_len c.put_messages.new.out) c.put_control_frames.new.streams.state ≡ stream_part a.fair a.most used a.streams.now.state a.streams.now.pending ms =
    stream_is a.body a.most (vec_len a.out.now) (vec_len c.put_control_frames.new.out) a.streams.now.state a.streams.now.pending ms c.requires.body grown a.fair (vec_len c.put_messages.new.out) c.put_control_frames.new.streams.state
    (omega (arith, far, second, third)) p.state in
    content_left a.fair a.most used a.streams.now.state a.streams.now.pending ms c.write_stream_frames.new.self c.put_control_frames.new.streams.pending (w.state ∙ ap (λ (t : Sent). t.state) same) p.pending

pub returns-clause-messages : goal.returns-clause-messages
returns-clause-messages c =
    let a = c.args in
    let used : ℕ = vec_len a.out.now - a.body in
    let ms : List (List ℕ) = a.datagrams.now.outgoing in
    let control : Draft = control_part a.most used a.streams.now.state a.streams.now.pending in
    let p = c.in_ok-retransmits.ensures in
    let m = c.put_messages.ensures in
    let w = c.in_ok-write_stream_frames.ensures in
    let long : length c.put_control_frames.new.out.items ≡ length a.out.now.items + length (spelled_all control.frames) = ap length p.items ∙ length-append a.out.now.items (spelled_all control.frames) in
    let first = a.out.now.ok.0 in
    let second = c.put_control_frames.new.out.ok.0 in
    let grown : vec_len c.put_control_frames.new.out ≡ vec_len a.out.now + length (spelled_all control.frames) = omega (arith, long, first, second) in
    m.left
    ∙ ap (λ (xs : List (List ℕ)). with_outgoing a.datagrams.now xs) (messages_stay a.body a.most (vec_len a.out.now) (vec_len c.put_control_frames.new.out) a.streams.now.state a.streams.now.pending ms c.requires.body grown a.fair)

pub returns-clause-carried : goal.returns-clause-carried
returns-clause-carried c =
    let a = c.args in
    let used : ℕ = vec_len a.out.now - a.body in
    let ms : List (List ℕ) = a.datagrams.now.outgoing in
    let control : Draft = control_part a.most used a.streams.now.state a.streams.now.pending in
    let p = c.in_ok-retransmits.ensures in
    let m = c.put_messages.ensures in
    let w = c.in_ok-write_stream_frames.ensures in
    let long : length c.put_control_frames.new.out.items ≡ length a.out.now.items + length (spelled_all control.frames) = ap length p.items ∙ length-append a.out.now.items (spelled_all control.frames) in
    let first = a.out.now.ok.0 in
    let second = c.put_control_frames.new.out.ok.0 in
    let grown : vec_len c.put_control_frames.new.out ≡ vec_len a.out.now + length (spelled_all control.frames) = omega (arith, long, first, second) in
    let sent : c.put_messages.new.out.items ≡ c.put_control_frames.new.out.items ++ spelled_all (message_frames a.most used a.streams.now.state a.streams.now.pending ms) =
    m.items ∙ ap (λ fs. c.put_control_frames.new.out.items ++ spelled_all fs) (messages_are a.body a.most (vec_len a.out.now) (vec_len c.put_control_frames.new.out) a.streams.now.state a.streams.now.pending ms c.requires.body grown) in
    let far = ap length sent ∙ length-append c.put_control_frames.new.out.items (spelled_all (message_frames a.most used a.streams.now.state a.streams.now.pending ms)) in
    let third = c.put_messages.new.out.ok.0 in
    let same : stream_frames_in a.fair (a.body + a.most - vec_len c.put_messages.new.out) c.put_control_frames.new.streams.state ≡ stream_part a.fair a.most used a.streams.now.state a.streams.now.pending ms =
    stream_is a.body a.most (vec_len a.out.now) (vec_len c.put_control_frames.new.out) a.streams.now.state a.streams.now.pending ms c.requires.body grown a.fair (vec_len c.put_messages.new.out) c.put_control_frames.new.streams.state
    (omega (arith, far, second, third)) p.state in
    let frames : Sent = stream_frames_in a.fair (a.body + a.most - vec_len c.put_messages.new.out) c.put_control_frames.new.streams.state in
    content_kept a.fair a.most used a.streams.now.state a.streams.now.pending ms a.requests c.write_stream_frames.new.sent.items c.in_ok-retransmits.retransmits
    (w.sent ∙ ap (λ (xs : List StreamMeta). xs ++ map meta_of frames.frames) c.requires.unused ∙ ap (λ (t : Sent). map meta_of t.frames) same) p.carried
