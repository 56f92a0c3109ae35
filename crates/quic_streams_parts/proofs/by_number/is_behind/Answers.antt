use Rattle.std.proofs.Common.{length}
use Rattle.std.proofs.lemmas.Bool.{ltb-true}
use Rattle.quic_streams_parts.proofs.Behind.{behind_last, none_at}
use Rattle.quic_streams_parts.proofs.Looked.{past}
use Rattle.quic_streams_parts.proofs.by_number.is_behind.Goals as goal

pub returns-in-Some : goal.returns-in-Some
returns-in-Some g c = λ t.
    let last = c.in-Some.last.now in
    behind_last c.args.number last c.args.values.now.entries (ltb-true last c.args.number t) c.in-Some.ensures.all_up_to

pub returns-in-None : goal.returns-in-None
returns-in-None g c = λ t.
    let es = c.args.values.now.entries in
    none_at c.args.number es (past 0 (length es) c.in-None.ensures.variant.1)
