use Rattle.std.proofs.Common.{ℕ, ◌+◌, ap, ◌∙◌, arith}
use Rattle.quic_streams_parts.specs.RecvHalf.{RecvHalf}
use Rattle.quic_streams_halves.specs.Halves.{Halves, seen_in, without_half}
use Rattle.quic_streams_parts.specs.Table.{at}
use Rattle.quic_streams_state.specs.Parts.{Receiving}
use Rattle.quic_streams_state.proofs.Arriving.{removed_sum, seen_found}
use Rattle.quic_streams_state.proofs.receiving.Receiving.remove.Goals as goal

pub overflow_add-self : goal.overflow_add-self
overflow_add-self c =
    let r : Receiving = record { halves = c.self.inside.recv; gone = c.self.inside.gone; window = c.self.inside.receive_window; announced = c.self.inside.sent_max_data; stream_window = c.self.inside.stream_receive_window } in
    let sum = removed_sum r c.args.id in
    let size = c.remove-size.ensures.seen ∙ seen_found (at r.halves.live c.args.id) in
    let was = c.self.invariant.seen in
    omega arith

pub invariant_of-self : goal.invariant_of-self
invariant_of-self c =
    let r : Receiving = record { halves = c.self.inside.recv; gone = c.self.inside.gone; window = c.self.inside.receive_window; announced = c.self.inside.sent_max_data; stream_window = c.self.inside.stream_receive_window } in
    let sum = removed_sum r c.args.id in
    let size = c.remove-size.ensures.seen ∙ seen_found (at r.halves.live c.args.id) in
    let was = c.self.invariant.seen in
    let left = ap (λ (h : Halves RecvHalf). seen_in h.live) c.remove-size.ensures.new in
    record { limits = c.self.invariant.limits; seen = omega arith }

pub returns : goal.returns
returns c =
    let r : Receiving = record { halves = c.self.inside.recv; gone = c.self.inside.gone; window = c.self.inside.receive_window; announced = c.self.inside.sent_max_data; stream_window = c.self.inside.stream_receive_window } in
    let size = c.remove-size.ensures.seen ∙ seen_found (at r.halves.live c.args.id) in
    rw (← c.self.view_is) (ap (λ (hs : Halves RecvHalf). record r { halves = hs; gone = r.gone + c.remove-size.result }) c.remove-size.ensures.new ∙ ap (λ (n : ℕ). record r { halves = without_half r.halves c.args.id; gone = r.gone + n }) size)
