use Rattle.std.proofs.Common.{sym, ap, ◌∙◌}
use Rattle.quic_sets.specs.Parts.{bytes_of}
use Rattle.quic_send_buffer.proofs.Kept.Runs.{store_bytes}
use Rattle.quic_send_buffer.proofs.send_buffer.stretch.Stretch.bytes.Goals as goal

pub returns-in-Many : goal.returns-in-Many
returns-in-Many c =
    let v = c.self.inside in
    c.bytes.ensures ∙ sym (store_bytes v.end v.store c.in-Many.run' c.self.invariant c.in-Many.is) ∙ ap bytes_of c.self.view_is
