use Rattle.std.proofs.Common.{ℕ, ap, arith, sym, ◌∙◌}
use Rattle.quic_send_buffer.specs.KeptBytes.{passed_of}
use Rattle.quic_send_buffer.proofs.Kept.Runs.{piece_in}
use Rattle.quic_send_buffer.proofs.send_buffer.stretch.Stretch.piece.Goals as goal

pub overflow_add-to : goal.overflow_add-to
overflow_add-to c =
    let v = c.self.inside in
    let p = piece_in v.end c.start.result c.each-in-Many.result c.args.at c.passed-from.result v.store c.in-Many.run' c.args.self.now c.bytes-bytes.result.now c.self.invariant c.self.view_is c.in-Many.is c.start.ensures c.each-in-Many.ensures c.requires c.bytes-bytes.ensures (c.passed-from.ensures ∙ ap (λ (k : ℕ). passed_of c.start.result k c.args.at) (c.each.ensures ∙ sym c.each-in-Many.ensures)) in
    let fits = p.0 in
    let ends = p.1 in
    omega (arith, fits, ends)

pub overflow_sub-result : goal.overflow_sub-result
overflow_sub-result c =
    let v = c.self.inside in
    let p = piece_in v.end c.start.result c.each-in-Many.result c.args.at c.passed-from.result v.store c.in-Many.run' c.args.self.now c.bytes-bytes.result.now c.self.invariant c.self.view_is c.in-Many.is c.start.ensures c.each-in-Many.ensures c.requires c.bytes-bytes.ensures (c.passed-from.ensures ∙ ap (λ (k : ℕ). passed_of c.start.result k c.args.at) (c.each.ensures ∙ sym c.each-in-Many.ensures)) in
    let fits = p.0 in
    let ends = p.1 in
    omega (arith, fits, ends)

pub overflow_sub-result-in-Many : goal.overflow_sub-result-in-Many
overflow_sub-result-in-Many c =
    let v = c.self.inside in
    let p = piece_in v.end c.start.result c.each-in-Many.result c.args.at c.passed-from.result v.store c.in-Many.run' c.args.self.now c.bytes-bytes.result.now c.self.invariant c.self.view_is c.in-Many.is c.start.ensures c.each-in-Many.ensures c.requires c.bytes-bytes.ensures (c.passed-from.ensures ∙ ap (λ (k : ℕ). passed_of c.start.result k c.args.at) (c.each.ensures ∙ sym c.each-in-Many.ensures)) in
    let fits = p.0 in
    let ends = p.1 in
    omega (arith, fits, ends)

pub slice_bounds-result-end : goal.slice_bounds-result-end
slice_bounds-result-end c =
    let v = c.self.inside in
    let p = piece_in v.end c.start.result c.each-in-Many.result c.args.at c.passed-from.result v.store c.in-Many.run' c.args.self.now c.bytes-bytes.result.now c.self.invariant c.self.view_is c.in-Many.is c.start.ensures c.each-in-Many.ensures c.requires c.bytes-bytes.ensures (c.passed-from.ensures ∙ ap (λ (k : ℕ). passed_of c.start.result k c.args.at) (c.each.ensures ∙ sym c.each-in-Many.ensures)) in
    let fits = p.0 in
    let ends = p.1 in
    omega (arith, fits, ends)

pub returns-in-Many : goal.returns-in-Many
returns-in-Many c =
    let v = c.self.inside in
    let p = piece_in v.end c.start.result c.each-in-Many.result c.args.at c.passed-from.result v.store c.in-Many.run' c.args.self.now c.bytes-bytes.result.now c.self.invariant c.self.view_is c.in-Many.is c.start.ensures c.each-in-Many.ensures c.requires c.bytes-bytes.ensures (c.passed-from.ensures ∙ ap (λ (k : ℕ). passed_of c.start.result k c.args.at) (c.each.ensures ∙ sym c.each-in-Many.ensures)) in
    p.2
