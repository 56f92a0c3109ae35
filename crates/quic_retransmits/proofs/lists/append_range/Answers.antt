use Rattle.std.proofs.Common.{arith}
use Rattle.quic_retransmits.proofs.Ranges.{appended_more}
use Rattle.quic_retransmits.proofs.lists.append_range.Goals as goal

pub loop-i-preserved : goal.loop-i-preserved
loop-i-preserved c = record {
  items = appended_more c.loop-i.list.items c.push_back_reserved.new.self.items c.args.list.now.items c.args.start c.loop-i.i c.push_back_reserved.ensures.items c.loop-i.invariant.items;
  len = omega arith;
  capacity = omega arith;
}
