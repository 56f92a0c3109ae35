use Rattle.quic_sets.proofs.Offsets.OffsetSet.{Looked, counts, fits, put_has, skip_has, lack_here}
use Rattle.quic_sets.proofs.Outcomes.{of_error}
use Rattle.quic_sets.proofs.offset_set.put_lacking.Goals as goal

pub put_run-requires-clause-fits : goal.put_run-requires-clause-fits
put_run-requires-clause-fits c =
    let a = c.args in
    let m : Looked a.at a.len a.others.now.entries a.spans.now.entries c.look-other.result.0 c.look-other.result.1 c.look-held.result.0 c.look-held.result.1 = record {
      others = c.requires.others;
      loose = c.requires.loose;
      some = c.requires.some;
      small = c.requires.small;
      other_is = c.look-other.ensures.held;
      most_is = c.look-other.ensures.count;
      held_is = c.look-held.ensures.held;
      count_is = c.look-held.ensures.count;
    } in
    fits m c.if-not-other-held.true

pub returns-in_ok-put_run-clause-offsets : goal.returns-in_ok-put_run-clause-offsets
returns-in_ok-put_run-clause-offsets c =
    let a = c.args in
    let m : Looked a.at a.len a.others.now.entries a.spans.now.entries c.look-other.result.0 c.look-other.result.1 c.look-held.result.0 c.look-held.result.1 = record {
      others = c.requires.others;
      loose = c.requires.loose;
      some = c.requires.some;
      small = c.requires.small;
      other_is = c.look-other.ensures.held;
      most_is = c.look-other.ensures.count;
      held_is = c.look-held.ensures.held;
      count_is = c.look-held.ensures.count;
    } in
    put_has c.put_run.new.spans.entries m c.if-not-other-held.true c.in_ok-put_run.ensures.offsets

pub returns-else-not-other-held-clause-some : goal.returns-else-not-other-held-clause-some
returns-else-not-other-held-clause-some c =
    let a = c.args in
    let m : Looked a.at a.len a.others.now.entries a.spans.now.entries c.look-other.result.0 c.look-other.result.1 c.look-held.result.0 c.look-held.result.1 = record {
      others = c.requires.others;
      loose = c.requires.loose;
      some = c.requires.some;
      small = c.requires.small;
      other_is = c.look-other.ensures.held;
      most_is = c.look-other.ensures.count;
      held_is = c.look-held.ensures.held;
      count_is = c.look-held.ensures.count;
    } in
    (counts m).0

pub returns-else-not-other-held-clause-offsets : goal.returns-else-not-other-held-clause-offsets
returns-else-not-other-held-clause-offsets c =
    let a = c.args in
    let m : Looked a.at a.len a.others.now.entries a.spans.now.entries c.look-other.result.0 c.look-other.result.1 c.look-held.result.0 c.look-held.result.1 = record {
      others = c.requires.others;
      loose = c.requires.loose;
      some = c.requires.some;
      small = c.requires.small;
      other_is = c.look-other.ensures.held;
      most_is = c.look-other.ensures.count;
      held_is = c.look-held.ensures.held;
      count_is = c.look-held.ensures.count;
    } in
    skip_has m c.if-not-other-held.false

pub returns-in_err-put_run-clause-free : goal.returns-in_err-put_run-clause-free
returns-in_err-put_run-clause-free c =
    let a = c.args in
    let m : Looked a.at a.len a.others.now.entries a.spans.now.entries c.look-other.result.0 c.look-other.result.1 c.look-held.result.0 c.look-held.result.1 = record {
      others = c.requires.others;
      loose = c.requires.loose;
      some = c.requires.some;
      small = c.requires.small;
      other_is = c.look-other.ensures.held;
      most_is = c.look-other.ensures.count;
      held_is = c.look-held.ensures.held;
      count_is = c.look-held.ensures.count;
    } in
    of_error c.from_residual.result (lack_here m c.if-not-other-held.true)
