use Rattle.std.proofs.Common.{◌∙◌, arith, rules}
use Rattle.quic_sets.proofs.Offsets.Spans.{free_of, put_is}
use Rattle.quic_sets.proofs.spans.add_run.Goals as goal

pub returns-clause-ok : goal.returns-clause-ok
returns-clause-ok c =
    let start = c.args.start in
    let end = c.args.end in
    let gs = c.args.spans.now.entries in
    search rules ∙ put_is 0 start end gs c.requires.spans c.requires.some (omega arith) (free_of 0 start end gs c.requires.some c.requires.spans c.requires.free)
