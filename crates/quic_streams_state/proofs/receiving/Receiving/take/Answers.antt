use Rattle.std.proofs.Common.{◌≡◌, ◌+◌, ◌-◌, ◌≤◌, ◌<◌, ◌^◌, None, false, IfSome, sym, subst}
use Rattle.quic_wire.specs.FrameView.{stream_view}
use Rattle.quic_streams_parts.specs.Table.{at}
use Rattle.quic_streams_parts.specs.RecvHalf.{greatest_offset, end_of, breaks_final, after_frame}
use Rattle.quic_streams_state.specs.Parts.{Receiving, seen}
use Rattle.quic_streams_state.specs.Taking.{breach_on}
use Rattle.quic_streams_state.proofs.Arriving.{allowed, frame_room, if_some, changed_room}
use Rattle.quic_streams_state.proofs.receiving.Receiving.take.Goals as goal

pub take-requires-clause-end : goal.take-requires-clause-end
take-requires-clause-end c =
    let f = stream_view c.args.frame.now in
    let r : Receiving = record { halves = c.self.inside.recv; gone = c.self.inside.gone; window = c.self.inside.receive_window; announced = c.self.inside.sent_max_data; stream_window = c.self.inside.stream_receive_window } in
    let P : Receiving → Type 0 = λ x. IfSome (at x.halves.live f.id) (λ h. breach_on x h (end_of f) f.fin ≡ None) in
    if_some {Q = λ h. end_of f < 2 ^ 62} (at r.halves.live f.id) (subst P (sym c.self.view_is) c.requires) (λ h e. (allowed r h (end_of f) f.fin e).small)

pub take-requires-clause-size : goal.take-requires-clause-size
take-requires-clause-size c =
    let f = stream_view c.args.frame.now in
    let r : Receiving = record { halves = c.self.inside.recv; gone = c.self.inside.gone; window = c.self.inside.receive_window; announced = c.self.inside.sent_max_data; stream_window = c.self.inside.stream_receive_window } in
    let P : Receiving → Type 0 = λ x. IfSome (at x.halves.live f.id) (λ h. breach_on x h (end_of f) f.fin ≡ None) in
    if_some {Q = λ h. breaks_final h.final h.seen (end_of f) f.fin ≡ false} (at r.halves.live f.id) (subst P (sym c.self.view_is) c.requires) (λ h e. (allowed r h (end_of f) f.fin e).size)

pub invariant_of-self-2 : goal.invariant_of-self-2
invariant_of-self-2 c =
    let f = stream_view c.args.frame.now in
    let r : Receiving = record { halves = c.self.inside.recv; gone = c.self.inside.gone; window = c.self.inside.receive_window; announced = c.self.inside.sent_max_data; stream_window = c.self.inside.stream_receive_window } in
    let P : Receiving → Type 0 = λ x. IfSome (at x.halves.live f.id) (λ h. breach_on x h (end_of f) f.fin ≡ None) in
    let fits = if_some {Q = λ h. seen r - h.seen + (after_frame h f).seen ≤ greatest_offset} (at r.halves.live f.id) (subst P (sym c.self.view_is) c.requires) (λ h e. frame_room r h f e) in
    changed_room (λ h. after_frame h f) r f.id c.take.new.self c.self.invariant fits c.in_ok-take.ensures.ok
