use Rattle.quic_send_buffer.proofs.Kept.Runs.{passed_in, released_in}
use Rattle.quic_send_buffer.proofs.send_buffer.stretch.Stretch.release.Goals as goal

pub pass-requires : goal.pass-requires
pass-requires c =
    let v = c.self.inside in
    passed_in v.end c.start-start.result c.each.result c.args.up_to c.passed-count.result v.store c.in-Many.run' c.args.self.now c.self.invariant c.self.view_is c.in-Many.is c.start-start.ensures c.each.ensures c.requires c.passed-count.ensures

pub invariant_of-self-2 : goal.invariant_of-self-2
invariant_of-self-2 c =
    let v = c.self.inside in
    (released_in v.end c.start-start.result c.each.result c.args.up_to c.passed-count.result v.store c.in-Many.run' c.pass.new.self c.args.self.now c.self.invariant c.self.view_is c.in-Many.is c.start-start.ensures c.each.ensures c.requires c.passed-count.ensures c.pass.ensures).0

pub returns : goal.returns
returns c =
    let v = c.self.inside in
    (released_in v.end c.start-start.result c.each.result c.args.up_to c.passed-count.result v.store c.in-Many.run' c.pass.new.self c.args.self.now c.self.invariant c.self.view_is c.in-Many.is c.start-start.ensures c.each.ensures c.requires c.passed-count.ensures c.pass.ensures).1
