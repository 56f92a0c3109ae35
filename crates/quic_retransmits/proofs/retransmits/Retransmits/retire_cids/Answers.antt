use Rattle.std.proofs.Common.{◌≡◌, ◌++◌, ◌^◌, arith, rules}
use Rattle.std.specs.List.{range_with_len}
use Rattle.quic_retransmits.proofs.Ranges.{range_fits}
use Rattle.quic_retransmits.proofs.retransmits.Retransmits.retire_cids.Goals as goal

pub invariant_of-self-2 : goal.invariant_of-self-2
invariant_of-self-2 c =
    let appended : c.append_range.new.list.items ≡ c.self.inside.retire_cids.items ++ range_with_len c.args.cids.start c.saturating_sub-count.result = search rules in
    (c.self.invariant.0, range_fits c.append_range.new.list.items c.self.inside.retire_cids.items c.args.cids.start c.saturating_sub-count.result (2 ^ 62) appended (omega arith) c.self.invariant.1)
