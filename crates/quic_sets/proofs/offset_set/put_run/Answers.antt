use Rattle.std.proofs.lemmas.Result.{on_ok_weaker}
use Rattle.quic_sets.proofs.Offsets.OffsetSet.{run_back, touch_put}
use Rattle.quic_sets.proofs.offset_set.put_run.Goals as goal

pub returns-clause-back : goal.returns-clause-back
returns-clause-back c =
    let a = c.args in
    run_back c.keep.result a.end a.at a.spans.now.entries c.keep.new.spans.entries a.ends.now.items c.push.new.self.items c.requires.fits.absent c.in_ok-push.ensures.items c.keep.ensures.ok c.keep.ensures.err

pub returns-clause-touch : goal.returns-clause-touch
returns-clause-touch c =
    let a = c.args in
    on_ok_weaker c.keep.result (touch_put a.at a.end a.spans.now.entries c.keep.new.spans.entries c.requires.ordered) c.keep.ensures.ok
