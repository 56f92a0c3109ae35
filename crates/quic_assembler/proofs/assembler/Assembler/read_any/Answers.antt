use Rattle.std.proofs.Common.{◌≡◌, ◌+◌, ◌<◌, ◌≤◌, ℕ, false, sym, ap, ◌∙◌, subst, arith}
use Rattle.quic_assembler.specs.Arrived.{Arrived}
use Rattle.quic_sets.specs.Spans.{in_spans, with_run}
use Rattle.quic_assembler.proofs.Calls.Kept.{chunk_small, chunk_clear, pick_kept, pick_known, pick_counted, total_small}
use Rattle.quic_sets.proofs.Offsets.Spans.{lower}
use Rattle.quic_assembler.proofs.assembler.Assembler.read_any.Goals as goal

pub add-requires : goal.add-requires
add-requires c =
    let i = c.self.inside in
    let chunk = c.in-Some.chunk in
    let h = c.self.invariant.lawful in
    let e = sym c.in-Some.is ∙ c.in_ok-chunk.ensures.ok in
    let k = chunk_small i.read c.args.max i.parts chunk h.apart e in
    let l = c.len-len.ensures.value in
    record {
      small = omega arith;
      spans = lower i.read 0 i.picked.entries h.spans (omega arith);
      free = subst (λ (n : ℕ). (o : ℕ) → chunk.offset ≤ o → o < chunk.offset + n → in_spans i.picked.entries o ≡ false) (sym l) (chunk_clear i.read c.args.max i.unordered i.picked.entries i.parts chunk h e);
    }

pub overflow_add-self : goal.overflow_add-self
overflow_add-self c =
    let i = c.self.inside in
    let k = total_small i.read i.unordered i.picked.entries i.parts c.self.invariant.lawful in
    let t = c.self.invariant.total in
    let l = c.len-len.ensures.bound in
    omega arith

pub invariant_of-self-in-Some : goal.invariant_of-self-in-Some
invariant_of-self-in-Some c =
    let i = c.self.inside in
    let chunk = c.in-Some.chunk in
    let u = ap (λ (a : Arrived). a.unordered) c.self.view_is ∙ c.requires in
    let e = sym c.in-Some.is ∙ c.in_ok-chunk.ensures.ok in
    let l = c.len-len.ensures.value in
    let added = c.in_ok-add-in-Some.ensures.ok ∙ ap (λ (n : ℕ). with_run chunk.offset n i.picked.entries) l in
    record {
      lawful = pick_kept i.read c.args.max i.unordered i.picked.entries _ i.parts _ chunk c.self.invariant.lawful u e added c.skip_front.ensures;
      known = pick_known i.read c.args.max i.unordered i.picked.entries _ i.parts _ chunk i.arrived c.self.invariant.lawful u e added c.skip_front.ensures c.self.invariant.known;
      total = rw l (pick_counted i.read c.args.max i.total i.unordered i.picked.entries _ i.parts chunk c.self.invariant.lawful e added c.self.invariant.total);
    }
