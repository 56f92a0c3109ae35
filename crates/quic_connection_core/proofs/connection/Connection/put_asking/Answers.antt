use Rattle.std.proofs.Common.{◌≡◌, ◌+◌, ◌-◌, Bool, length, ap, ◌∙◌, arith}
use Rattle.std.specs.Prelude.{vec_len}
use Rattle.quic_spaces.specs.Numbers.{can_number}
use Rattle.quic_machine.specs.Tracking.{carried_in}
use Rattle.quic_machine.specs.Poll.{frame_room}
use Rattle.quic_machine.specs.End.{End, with_end}
use Rattle.quic_connection_parts.specs.Frames.{content_at, with_content, path_bytes, bare_bytes, request_bytes, with_request}
use Rattle.quic_connection_core.proofs.Plain.{front_of}
use Rattle.quic_connection_core.proofs.Asking.{behind_room, behind_numbers, asked_written, asked_left, asked_kept, asked_asks}
use Rattle.quic_connection_core.proofs.connection.Connection.put_asking.Goals as goal

pub put_content-requires-clause-number : goal.put_content-requires-clause-number
put_content-requires-clause-number g c =
    let same = behind_numbers c.args.self.now.end c.put_path_frames-requires_padding.new.self.end c.put_bare_signals.new.self.end c.put_request-requests.new.self.end
    (ap (λ w. w.end) c.put_path_frames-requires_padding.ensures.end) (ap (λ w. w.end) c.put_bare_signals.ensures.end) (ap (λ w. w.end) c.put_request-requests.ensures.end) in
    ap can_number same ∙ c.requires.number

pub put_content-requires-clause-within : goal.put_content-requires-clause-within
put_content-requires-clause-within g c =
    let e : End = c.args.self.now.end in
    let y : End = c.put_path_frames-requires_padding.new.self.end in
    let x : End = c.put_bare_signals.new.self.end in
    let z : End = c.put_request-requests.new.self.end in
    let same : frame_room z ≡ frame_room e = behind_room e y x z (ap (λ w. w.end) c.put_path_frames-requires_padding.ensures.end) (ap (λ w. w.end) c.put_bare_signals.ensures.end) (ap (λ w. w.end) c.put_request-requests.ensures.end) in
    let few = c.requires.few in
    let some = c.requires.some in
    let len = c.put_path_frames-requires_padding.ensures.len in
    let short = c.put_path_frames-requires_padding.ensures.few in
    let bare_len = c.put_bare_signals.ensures.len in
    let bare_short = c.put_bare_signals.ensures.few in
    let last_len = c.put_request-requests.ensures.len in
    let last_short = c.put_request-requests.ensures.few in
    omega (arith, same, few, some, len, short, bare_len, bare_short, last_len, last_short)

pub put_content-requires-clause-room : goal.put_content-requires-clause-room
put_content-requires-clause-room g c =
    let e : End = c.args.self.now.end in
    let y : End = c.put_path_frames-requires_padding.new.self.end in
    let x : End = c.put_bare_signals.new.self.end in
    let z : End = c.put_request-requests.new.self.end in
    let same : frame_room z ≡ frame_room e = behind_room e y x z (ap (λ w. w.end) c.put_path_frames-requires_padding.ensures.end) (ap (λ w. w.end) c.put_bare_signals.ensures.end) (ap (λ w. w.end) c.put_request-requests.ensures.end) in
    let room = c.requires.room in
    let one = c.put_path_frames-requires_padding.ensures.capacity in
    let two = c.put_bare_signals.ensures.capacity in
    let three = c.put_request-requests.ensures.capacity in
    omega (arith, same, room, one, two, three)

pub returns-in_err-carried-clause-within : goal.returns-in_err-carried-clause-within
returns-in_err-carried-clause-within g c =
    let e : End = c.args.self.now.end in
    let y : End = c.put_path_frames-requires_padding.new.self.end in
    let x : End = c.put_bare_signals.new.self.end in
    let z : End = c.put_request-requests.new.self.end in
    let same : frame_room z ≡ frame_room e = behind_room e y x z (ap (λ w. w.end) c.put_path_frames-requires_padding.ensures.end) (ap (λ w. w.end) c.put_bare_signals.ensures.end) (ap (λ w. w.end) c.put_request-requests.ensures.end) in
    let within = c.put_content.ensures.within in
    omega (arith, same, within)

pub returns-clause-within : goal.returns-clause-within
returns-clause-within g c =
    let e : End = c.args.self.now.end in
    let y : End = c.put_path_frames-requires_padding.new.self.end in
    let x : End = c.put_bare_signals.new.self.end in
    let z : End = c.put_request-requests.new.self.end in
    let same : frame_room z ≡ frame_room e = behind_room e y x z (ap (λ w. w.end) c.put_path_frames-requires_padding.ensures.end) (ap (λ w. w.end) c.put_bare_signals.ensures.end) (ap (λ w. w.end) c.put_request-requests.ensures.end) in
    let within = c.put_content.ensures.within in
    omega (arith, same, within)

pub returns-clause-items : goal.returns-clause-items
returns-clause-items g c =
    let e : End = c.args.self.now.end in
    let y : End = c.put_path_frames-requires_padding.new.self.end in
    let x : End = c.put_bare_signals.new.self.end in
    let z : End = c.put_request-requests.new.self.end in
    let len = c.put_path_frames-requires_padding.ensures.len in
    let bare_len = c.put_bare_signals.ensures.len in
    let last_len = c.put_request-requests.ensures.len in
    let body = c.requires.body in
    let some : vec_len c.put_path_frames-requires_padding.new.out - c.args.body ≡ vec_len c.args.out.now - c.args.body + length (path_bytes e) = omega (arith, len, body) in
    let grown : vec_len c.put_bare_signals.new.out - c.args.body ≡ vec_len c.put_path_frames-requires_padding.new.out - c.args.body + length (bare_bytes y.waiting.signals) = omega (arith, len, bare_len, body) in
    let more : vec_len c.put_request-requests.new.out - c.args.body ≡ vec_len c.put_bare_signals.new.out - c.args.body + length (request_bytes x.waiting.frames.ack_frequency x) = omega (arith, len, bare_len, last_len, body) in
    asked_written e y x z (vec_len c.args.out.now - c.args.body) (vec_len c.put_path_frames-requires_padding.new.out - c.args.body) (vec_len c.put_bare_signals.new.out - c.args.body) (vec_len c.put_request-requests.new.out - c.args.body)
    (ap (λ w. w.end) c.put_path_frames-requires_padding.ensures.end) some (ap (λ w. w.end) c.put_bare_signals.ensures.end) grown (ap (λ w. w.end) c.put_request-requests.ensures.end) more c.args.out.now.items c.put_path_frames-requires_padding.new.out.items c.put_bare_signals.new.out.items c.put_request-requests.new.out.items c.put_content.new.out.items
    c.put_path_frames-requires_padding.ensures.items c.put_bare_signals.ensures.items c.put_request-requests.ensures.items c.in_ok-carried.ensures.items

pub returns-clause-end : goal.returns-clause-end
returns-clause-end g c =
    let e : End = c.args.self.now.end in
    let y : End = c.put_path_frames-requires_padding.new.self.end in
    let x : End = c.put_bare_signals.new.self.end in
    let z : End = c.put_request-requests.new.self.end in
    let len = c.put_path_frames-requires_padding.ensures.len in
    let bare_len = c.put_bare_signals.ensures.len in
    let last_len = c.put_request-requests.ensures.len in
    let body = c.requires.body in
    let some : vec_len c.put_path_frames-requires_padding.new.out - c.args.body ≡ vec_len c.args.out.now - c.args.body + length (path_bytes e) = omega (arith, len, body) in
    let grown : vec_len c.put_bare_signals.new.out - c.args.body ≡ vec_len c.put_path_frames-requires_padding.new.out - c.args.body + length (bare_bytes y.waiting.signals) = omega (arith, len, bare_len, body) in
    let more : vec_len c.put_request-requests.new.out - c.args.body ≡ vec_len c.put_bare_signals.new.out - c.args.body + length (request_bytes x.waiting.frames.ack_frequency x) = omega (arith, len, bare_len, last_len, body) in
    c.in_ok-carried.ensures.end
    ∙ ap (λ w. with_end w (with_content z (content_at z (vec_len c.put_request-requests.new.out - c.args.body)))) c.put_request-requests.ensures.end
    ∙ ap (λ w. with_end w (with_content z (content_at z (vec_len c.put_request-requests.new.out - c.args.body)))) c.put_bare_signals.ensures.end
    ∙ ap (λ w. with_end w (with_content z (content_at z (vec_len c.put_request-requests.new.out - c.args.body)))) c.put_path_frames-requires_padding.ensures.end
    ∙ ap (λ (v : End). with_end c.args.self.now v) (asked_left e y x z (vec_len c.args.out.now - c.args.body) (vec_len c.put_path_frames-requires_padding.new.out - c.args.body) (vec_len c.put_bare_signals.new.out - c.args.body) (vec_len c.put_request-requests.new.out - c.args.body)
    (ap (λ w. w.end) c.put_path_frames-requires_padding.ensures.end) some (ap (λ w. w.end) c.put_bare_signals.ensures.end) grown (ap (λ w. w.end) c.put_request-requests.ensures.end) more)

pub returns-clause-asks : goal.returns-clause-asks
returns-clause-asks g c =
    let e : End = c.args.self.now.end in
    let y : End = c.put_path_frames-requires_padding.new.self.end in
    let x : End = c.put_bare_signals.new.self.end in
    let z : End = c.put_request-requests.new.self.end in
    let len = c.put_path_frames-requires_padding.ensures.len in
    let bare_len = c.put_bare_signals.ensures.len in
    let last_len = c.put_request-requests.ensures.len in
    let body = c.requires.body in
    let some : vec_len c.put_path_frames-requires_padding.new.out - c.args.body ≡ vec_len c.args.out.now - c.args.body + length (path_bytes e) = omega (arith, len, body) in
    let grown : vec_len c.put_bare_signals.new.out - c.args.body ≡ vec_len c.put_path_frames-requires_padding.new.out - c.args.body + length (bare_bytes y.waiting.signals) = omega (arith, len, bare_len, body) in
    let more : vec_len c.put_request-requests.new.out - c.args.body ≡ vec_len c.put_bare_signals.new.out - c.args.body + length (request_bytes x.waiting.frames.ack_frequency x) = omega (arith, len, bare_len, last_len, body) in
    asked_asks e (vec_len c.args.out.now - c.args.body) c.len-before.result c.len.result c.args.out.now.items c.put_content.new.out.items (c.len-before.ensures ∙ c.args.out.now.ok.0) (c.len.ensures ∙ c.put_content.new.out.ok.0) (
    asked_written e y x z (vec_len c.args.out.now - c.args.body) (vec_len c.put_path_frames-requires_padding.new.out - c.args.body) (vec_len c.put_bare_signals.new.out - c.args.body) (vec_len c.put_request-requests.new.out - c.args.body)
    (ap (λ w. w.end) c.put_path_frames-requires_padding.ensures.end) some (ap (λ w. w.end) c.put_bare_signals.ensures.end) grown (ap (λ w. w.end) c.put_request-requests.ensures.end) more c.args.out.now.items c.put_path_frames-requires_padding.new.out.items c.put_bare_signals.new.out.items c.put_request-requests.new.out.items c.put_content.new.out.items
    c.put_path_frames-requires_padding.ensures.items c.put_bare_signals.ensures.items c.put_request-requests.ensures.items c.in_ok-carried.ensures.items)

pub returns-clause-carried : goal.returns-clause-carried
returns-clause-carried g c =
    let e : End = c.args.self.now.end in
    let y : End = c.put_path_frames-requires_padding.new.self.end in
    let x : End = c.put_bare_signals.new.self.end in
    let z : End = c.put_request-requests.new.self.end in
    let len = c.put_path_frames-requires_padding.ensures.len in
    let bare_len = c.put_bare_signals.ensures.len in
    let last_len = c.put_request-requests.ensures.len in
    let body = c.requires.body in
    let some : vec_len c.put_path_frames-requires_padding.new.out - c.args.body ≡ vec_len c.args.out.now - c.args.body + length (path_bytes e) = omega (arith, len, body) in
    let grown : vec_len c.put_bare_signals.new.out - c.args.body ≡ vec_len c.put_path_frames-requires_padding.new.out - c.args.body + length (bare_bytes y.waiting.signals) = omega (arith, len, bare_len, body) in
    let more : vec_len c.put_request-requests.new.out - c.args.body ≡ vec_len c.put_bare_signals.new.out - c.args.body + length (request_bytes x.waiting.frames.ack_frequency x) = omega (arith, len, bare_len, last_len, body) in
    asked_kept e y x z (vec_len c.args.out.now - c.args.body) (vec_len c.put_path_frames-requires_padding.new.out - c.args.body) (vec_len c.put_bare_signals.new.out - c.args.body) (vec_len c.put_request-requests.new.out - c.args.body)
    (ap (λ w. w.end) c.put_path_frames-requires_padding.ensures.end) some (ap (λ w. w.end) c.put_bare_signals.ensures.end) grown (ap (λ w. w.end) c.put_request-requests.ensures.end) more c.in_ok-carried.carried
    (c.in_ok-carried.ensures.carried ∙ ap (λ (b : Bool). with_request b (carried_in (content_at z (vec_len c.put_request-requests.new.out - c.args.body)).frames)) c.put_request-requests.ensures.waited)

pub returns-in_err-carried-clause-front : goal.returns-in_err-carried-clause-front
returns-in_err-carried-clause-front g c =
    let y : End = c.put_path_frames-requires_padding.new.self.end in
    let x : End = c.put_bare_signals.new.self.end in
    let path = c.put_path_frames-requires_padding.new.out in
    let bare = c.put_bare_signals.new.out in
    let request = c.put_request-requests.new.out in
    let new = c.put_content.new.out.items in
    let len = c.put_path_frames-requires_padding.ensures.len in
    let bare_len = c.put_bare_signals.ensures.len in
    let last_len = c.put_request-requests.ensures.len in
    let third = front_of bare.items request.items new (request_bytes x.waiting.frames.ack_frequency x) (vec_len bare) (vec_len request) bare.ok.0 (omega (arith, last_len)) c.put_request-requests.ensures.items c.put_content.ensures.front in
    let second = front_of path.items bare.items new (bare_bytes y.waiting.signals) (vec_len path) (vec_len bare) path.ok.0 (omega (arith, bare_len)) c.put_bare_signals.ensures.items third in
    front_of c.args.out.now.items path.items new (path_bytes c.args.self.now.end) (vec_len c.args.out.now) (vec_len path) c.args.out.now.ok.0 (omega (arith, len)) c.put_path_frames-requires_padding.ensures.items second
