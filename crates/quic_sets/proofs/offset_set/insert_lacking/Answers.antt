use Rattle.std.proofs.lemmas.Result.{on_ok_weaker, on_err_weaker}
use Rattle.quic_sets.proofs.Offsets.OffsetCalls.{lacking_made, lacks_made}
use Rattle.quic_sets.proofs.offset_set.insert_lacking.Goals as goal

pub returns-clause-ok : goal.returns-clause-ok
returns-clause-ok c =
    let a = c.args in
    on_ok_weaker c.add_lacking.result (lacking_made a.x.start a.x.end a.spans.now.entries c.add_lacking.new.spans.entries a.others.now.entries) c.add_lacking.ensures.ok

pub returns-clause-free : goal.returns-clause-free
returns-clause-free c =
    let a = c.args in
    on_err_weaker c.add_lacking.result (lacks_made a.x.start a.x.end a.spans.now.entries a.others.now.entries) c.add_lacking.ensures.free
