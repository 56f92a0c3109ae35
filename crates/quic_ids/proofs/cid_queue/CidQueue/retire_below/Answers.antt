use Rattle.std.proofs.Common.{◌≡◌, ◌+◌, ◌∷◌, Some, sym, ◌∙◌}
use Rattle.quic_ids.specs.CidQueue.{least_from, with_cid, known_from, from}
use Rattle.quic_ids.proofs.PeerIdSteps.{used_below, left_below, left_from, left_at, used_first, told_first}
use Rattle.quic_ids.proofs.cid_queue.CidQueue.retire_below.Goals as goal
use Rattle.quic_ids.proofs.cid_queue.CidQueue.retire_below.Goals.{in_default-via-in-Some+else-first-cid, in_default-via-in_default}

pub returns-in-Some-clause-new : goal.returns-in-Some-clause-new
returns-in-Some-clause-new c =
    let ids = c.args.self.now in
    let cid = c.args.cid in
    let least = c.args.least in
    let first = c.in-Some.first in
    let w = c.least_from.ensures.window in
    let found : least_from least ids.later ≡ Some first = sym c.in-Some.ensures.found in
    let left = left_below ids least cid first w found c.in-Some.ensures.least c.if-first-cid.true in
    used_first ids c.keep.new.self least cid first (with_cid (from (first.sequence + 1) ids.later) cid) left (used_below ids c.switch_to.new.self c.keep.new.self least cid first w found c.in-Some.ensures.least c.if-first-cid.true c.switch_to.ensures c.keep.ensures)

pub returns-in-Some-clause-token : goal.returns-in-Some-clause-token
returns-in-Some-clause-token c =
    let ids = c.args.self.now in
    let cid = c.args.cid in
    let least = c.args.least in
    let first = c.in-Some.first in
    let w = c.least_from.ensures.window in
    let found : least_from least ids.later ≡ Some first = sym c.in-Some.ensures.found in
    let left = left_below ids least cid first w found c.in-Some.ensures.least c.if-first-cid.true in
    told_first ids c.keep.new.self least cid first (with_cid (from (first.sequence + 1) ids.later) cid) left (used_below ids c.switch_to.new.self c.keep.new.self least cid first w found c.in-Some.ensures.least c.if-first-cid.true c.switch_to.ensures c.keep.ensures)

pub returns-in_default-clause-new : goal.returns-in_default-clause-new
returns-in_default-clause-new c =
    let ids = c.args.self.now in
    let cid = c.args.cid in
    let least = c.args.least in
    let w = c.least_from.ensures.window in
    let left : known_from least cid ids ≡ cid ∷ from (cid.sequence + 1) ids.later = elim c.in_default.branch [
      | in_default-via-in-Some+else-first-cid w1 ↦ left_at ids least cid w1.in-Some.first w c.requires.low (sym w1.in-Some.ensures.found) w1.if-first-cid.false
      | in_default-via-in_default w1 ↦ left_from ids least cid w c.requires.low (sym c.least_from.ensures.found ∙ w1.in_default.is)
    ] in
    used_first ids c.switch_to-in_default.new.self least cid cid (from (cid.sequence + 1) ids.later) left c.switch_to-in_default.ensures

pub returns-in_default-clause-token : goal.returns-in_default-clause-token
returns-in_default-clause-token c =
    let ids = c.args.self.now in
    let cid = c.args.cid in
    let least = c.args.least in
    let w = c.least_from.ensures.window in
    let left : known_from least cid ids ≡ cid ∷ from (cid.sequence + 1) ids.later = elim c.in_default.branch [
      | in_default-via-in-Some+else-first-cid w1 ↦ left_at ids least cid w1.in-Some.first w c.requires.low (sym w1.in-Some.ensures.found) w1.if-first-cid.false
      | in_default-via-in_default w1 ↦ left_from ids least cid w c.requires.low (sym c.least_from.ensures.found ∙ w1.in_default.is)
    ] in
    told_first ids c.switch_to-in_default.new.self least cid cid (from (cid.sequence + 1) ids.later) left c.switch_to-in_default.ensures
