use Rattle.std.proofs.Common.{◌<◌, length, inl, inr, arith}
use Rattle.std.proofs.lemmas.Bool.{cases_lt}
use Rattle.quic_sets.proofs.RunLists.{filled}
use Rattle.quic_sets.proofs.RunEdits.{empty}
use Rattle.quic_sets.proofs.range_set.runs.met.Goals as goal

pub returns : goal.returns
returns c =
    let from = c.ending_by.result in
    let to = c.starting_by.result in
    let rs = c.args.runs.now in
    record {
      ascend = elim (cases_lt to from) [
        | inr le ↦ le
        | inl lt ↦ (let within : to < length rs = omega (arith, c.ending_by.ensures.within) in
            let e = c.ending_by.ensures.front to empty lt in
            let s = c.starting_by.ensures.back to empty (omega arith) within in
            let f = filled 0 rs to empty c.requires.runs within in
            omega (arith, e, s, f, c.requires.ascend))
      ];
      within = c.starting_by.ensures.within;
      before = c.ending_by.ensures.front;
      meet = λ k d ge lt. (c.ending_by.ensures.back k d ge (omega (arith, c.starting_by.ensures.within)), c.starting_by.ensures.front k d lt);
      behind = c.starting_by.ensures.back;
    }
