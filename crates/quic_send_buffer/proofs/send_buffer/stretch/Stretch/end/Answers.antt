use Rattle.std.proofs.Common.{sym, ap, ◌∙◌}
use Rattle.quic_send_buffer.proofs.Kept.Runs.{store_end}
use Rattle.quic_send_buffer.specs.KeptBytes.{end_of}
use Rattle.quic_send_buffer.proofs.send_buffer.stretch.Stretch.end.Goals as goal

pub returns : goal.returns
returns c = let v = c.self.inside in sym (store_end v.end v.store c.self.invariant) ∙ ap end_of c.self.view_is
