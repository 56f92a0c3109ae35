use Rattle.std.proofs.Common.{sym}
use Rattle.quic_sets.proofs.Offsets.Prefix.{prefix_first}
use Rattle.quic_sets.proofs.prefix_set.PrefixSet.first_lacking.Goals as goal

pub returns : goal.returns
returns c =
    let v = c.self.inside in
    rw (← c.self.view_is) (sym (prefix_first v.first_lacking v.rest c.self.invariant))
