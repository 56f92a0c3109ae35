use Rattle.std.proofs.Common.{rules, arith, refl, subst, ap, ◌∙◌, ◌≡◌, ◌+◌, ℕ, nat_cmp}
use Rattle.std.specs.BTreeMap.{insert_entry}
use Rattle.quic_assembler.proofs.Parts.Filled.{put_apart, put_runs, runs_fit}
use Rattle.quic_assembler.proofs.Arrived.WaitingBytes.{put_bytes, bytes_small}
use Rattle.quic_assembler.proofs.assembler.parts.Parts.fill_gap.Goals as goal

pub overflow_add-self : goal.overflow_add-self
overflow_add-self c =
    let k = runs_fit 0 c.self.inside.map c.self.invariant.apart in
    let e = c.self.invariant.counted in
    search (rules, arith, k, e)

pub overflow_add-self-2 : goal.overflow_add-self-2
overflow_add-self-2 c =
    let k = bytes_small c.self.inside.map c.self.invariant.apart in
    let e = c.self.invariant.bytes in
    let s = c.requires.small in
    let n = c.len-len.ensures.value in
    omega arith

pub invariant_of-self-2 : goal.invariant_of-self-2
invariant_of-self-2 c =
    let a = c.args in
    let i = c.self.inside in
    let put = subst (λ (n : ℕ). c.keep.new.self ≡ insert_entry nat_cmp i.map (a.at + n) a.part) c.len-len.ensures.value c.in_ok-keep.ensures.ok in
    record {
      apart = put_apart 0 a.at _ i.map _ a.part _ c.self.view_is c.self.invariant.apart (omega arith) c.requires.some c.requires.small c.requires.fits refl put;
      counted = put_runs 0 a.at i.runs a.touched _ i.map _ a.part _ c.self.view_is c.self.invariant.apart (omega arith) c.requires.some c.requires.fits c.self.invariant.counted c.requires.touched refl put;
      bytes = ap (λ (n : ℕ). i.bytes + n) c.len-len.ensures.value ∙ put_bytes a.at i.bytes _ i.map _ a.part _ c.self.view_is c.self.invariant.apart c.requires.some c.requires.fits c.self.invariant.bytes refl put;
    }

pub returns-clause-apart : goal.returns-clause-apart
returns-clause-apart c =
    let a = c.args in
    let i = c.self.inside in
    let put = subst (λ (n : ℕ). c.keep.new.self ≡ insert_entry nat_cmp i.map (a.at + n) a.part) c.len-len.ensures.value c.in_ok-keep.ensures.ok in
    put_apart 0 a.at _ i.map _ a.part _ c.self.view_is c.self.invariant.apart (omega arith) c.requires.some c.requires.small c.requires.fits refl put
