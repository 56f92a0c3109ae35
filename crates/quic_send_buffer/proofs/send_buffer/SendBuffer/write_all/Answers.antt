use Rattle.std.proofs.Common.{◌+◌, ◌<◌, ◌^◌, sym, subst, arith}
use Rattle.quic_send_buffer.specs.Buffered.{Buffered, written}
use Rattle.quic_send_buffer.specs.Source.{cut_to}
use Rattle.quic_send_buffer.specs.contracts.send_buffer.SendBuffer.{the_view}
use Rattle.quic_send_buffer.specs.WritesLaws.{cut_bytes}
use Rattle.quic_send_buffer.proofs.Buffered.Calls.{writes_either, writes_made}
use Rattle.quic_send_buffer.proofs.send_buffer.SendBuffer.write_all.Goals as goal

pub invariant_of-self : goal.invariant_of-self
invariant_of-self c =
    let small = subst (λ (b : Buffered). written b + c.args.len < 2 ^ 62) (sym c.self.view_is) c.requires in
    let within = cut_bytes c.args.len c.args.chunks.now in
    writes_either c.push_all.result (the_view c.self.inside) (cut_to c.args.len c.args.chunks.now) c.push_all.new.self c.self.invariant (omega (arith, small, within)) c.push_all.ensures.ok c.push_all.ensures.err

pub returns-clause-ok : goal.returns-clause-ok
returns-clause-ok c = writes_made c.push_all.result (the_view c.self.inside) c.args.self.now (cut_to c.args.len c.args.chunks.now) c.push_all.new.self c.self.view_is c.push_all.ensures.ok

pub returns-clause-lawful : goal.returns-clause-lawful
returns-clause-lawful c =
    let small = subst (λ (b : Buffered). written b + c.args.len < 2 ^ 62) (sym c.self.view_is) c.requires in
    let within = cut_bytes c.args.len c.args.chunks.now in
    writes_either c.push_all.result (the_view c.self.inside) (cut_to c.args.len c.args.chunks.now) c.push_all.new.self c.self.invariant (omega (arith, small, within)) c.push_all.ensures.ok c.push_all.ensures.err
