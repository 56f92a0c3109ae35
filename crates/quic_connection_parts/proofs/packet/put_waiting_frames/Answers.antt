use Rattle.std.proofs.Common.{◌≡◌, ◌+◌, ◌-◌, ◌++◌, ℕ, List, length, ap, ◌∙◌, arith}
use Rattle.std.specs.Prelude.{vec_len}
use Rattle.std.proofs.lemmas.List.{length-append}
use Rattle.quic_wire.specs.Writing.{spelled_all}
use Rattle.quic_retransmits.specs.Retransmits.{Retransmits}
use Rattle.quic_streams_state.specs.Control.{Draft}
use Rattle.quic_connection_parts.specs.Frames.{control_part}
use Rattle.quic_connection_parts.proofs.Shifted.{control_is}
use Rattle.quic_connection_parts.proofs.Content.{control_carried, kept_carried, kept_as, with_flag, on_ok, none_carried}
use Rattle.quic_connection_parts.proofs.packet.put_waiting_frames.Goals as goal

pub returns-then-len-before-clause-items : goal.returns-then-len-before-clause-items
returns-then-len-before-clause-items c =
    on_ok c.kept_request.result (
    c.in_ok-write_control_frames.ensures.items
    ∙ ap (λ (d : Draft). c.args.out.now.items ++ spelled_all d.frames) (control_is c.args.body c.args.most (vec_len c.args.out.now) c.args.streams.now.state c.args.streams.now.pending c.new-sent.result c.requires.body c.new-sent.ensures))

pub returns-then-len-before-clause-state : goal.returns-then-len-before-clause-state
returns-then-len-before-clause-state c =
    on_ok c.kept_request.result (
    c.in_ok-write_control_frames.ensures.state
    ∙ ap (λ (d : Draft). d.state) (control_is c.args.body c.args.most (vec_len c.args.out.now) c.args.streams.now.state c.args.streams.now.pending c.new-sent.result c.requires.body c.new-sent.ensures))

pub returns-then-len-before-clause-pending : goal.returns-then-len-before-clause-pending
returns-then-len-before-clause-pending c =
    on_ok c.kept_request.result (
    c.in_ok-write_control_frames.ensures.pending
    ∙ ap (λ (d : Draft). d.pending) (control_is c.args.body c.args.most (vec_len c.args.out.now) c.args.streams.now.state c.args.streams.now.pending c.new-sent.result c.requires.body c.new-sent.ensures))

pub returns-then-len-before-clause-carried : goal.returns-then-len-before-clause-carried
returns-then-len-before-clause-carried c =
    let old : List ℕ = c.args.out.now.items in
    let part : Draft = control_part c.args.most (vec_len c.args.out.now - c.args.body) c.args.streams.now.state c.args.streams.now.pending in
    let items : c.write_control_frames.new.out.items ≡ old ++ spelled_all part.frames =
    c.in_ok-write_control_frames.ensures.items
    ∙ ap (λ (d : Draft). old ++ spelled_all d.frames) (control_is c.args.body c.args.most (vec_len c.args.out.now) c.args.streams.now.state c.args.streams.now.pending c.new-sent.result c.requires.body c.new-sent.ensures) in
    let long : length c.write_control_frames.new.out.items ≡ length old + length (spelled_all part.frames) = ap length items ∙ length-append old (spelled_all part.frames) in
    let before = c.len-before.ensures in
    let after = c.len.ensures in
    let same = c.if-len-before.true in
    let first = c.args.out.now.ok.0 in
    let second = c.write_control_frames.new.out.ok.0 in
    kept_as c.kept_request.result _ _ c.kept_request.ensures (
    ap (λ (r : Retransmits). with_flag c.args.requests r) (none_carried c.args.most (vec_len c.args.out.now - c.args.body) c.args.streams.now.state c.args.streams.now.pending (omega (arith, long, before, after, same, first, second))))

pub returns-clause-items : goal.returns-clause-items
returns-clause-items c =
    on_ok c.of.result (
    c.in_ok-write_control_frames.ensures.items
    ∙ ap (λ (d : Draft). c.args.out.now.items ++ spelled_all d.frames) (control_is c.args.body c.args.most (vec_len c.args.out.now) c.args.streams.now.state c.args.streams.now.pending c.new-sent.result c.requires.body c.new-sent.ensures))

pub returns-clause-state : goal.returns-clause-state
returns-clause-state c =
    on_ok c.of.result (
    c.in_ok-write_control_frames.ensures.state
    ∙ ap (λ (d : Draft). d.state) (control_is c.args.body c.args.most (vec_len c.args.out.now) c.args.streams.now.state c.args.streams.now.pending c.new-sent.result c.requires.body c.new-sent.ensures))

pub returns-clause-pending : goal.returns-clause-pending
returns-clause-pending c =
    on_ok c.of.result (
    c.in_ok-write_control_frames.ensures.pending
    ∙ ap (λ (d : Draft). d.pending) (control_is c.args.body c.args.most (vec_len c.args.out.now) c.args.streams.now.state c.args.streams.now.pending c.new-sent.result c.requires.body c.new-sent.ensures))

pub returns-clause-carried : goal.returns-clause-carried
returns-clause-carried c =
    kept_carried c.of.result c.set_ack_frequency.new.self _ c.of.ensures (
    c.set_ack_frequency.ensures
    ∙ ap (λ (r : Retransmits). with_flag c.args.requests r)
    (c.in_ok-write_control_frames.ensures.sent
    ∙ ap (λ (d : Draft). d.sent) (control_is c.args.body c.args.most (vec_len c.args.out.now) c.args.streams.now.state c.args.streams.now.pending c.new-sent.result c.requires.body c.new-sent.ensures)
    ∙ control_carried c.args.most (vec_len c.args.out.now - c.args.body) c.args.streams.now.state c.args.streams.now.pending))
