use Rattle.std.proofs.Common.{ℕ, ◌+◌, sym, ap, ◌∙◌, subst, arith}
use Rattle.quic_sets.specs.Runs.{Drops}
use Rattle.quic_assembler.specs.Arrived.{Arrived, is_next, left_front}
use Rattle.quic_assembler.specs.PartSteps.{front_of}
use Rattle.quic_assembler.proofs.Calls.Reading.{read_small, taken_next}
use Rattle.quic_assembler.proofs.Calls.Kept.{next_kept, next_known, total_small}
use Rattle.quic_assembler.proofs.assembler.Assembler.read_next.Goals as goal

pub overflow_add-self : goal.overflow_add-self
overflow_add-self c =
    let i = c.self.inside in
    let taken = taken_next (is_next i.parts i.read) (front_of i.parts c.args.max) i.parts (left_front i.parts c.args.max) _ c.in-Some.bytes (sym c.in-Some.is ∙ c.in_ok-bytes.ensures.ok) c.in_ok-bytes.ensures.new in
    let k = read_small i.read c.args.max i.parts c.in-Some.bytes c.self.invariant.lawful.apart taken.0 taken.1 in
    let l = c.len-len.ensures.value in
    omega arith

pub overflow_add-self-in-Some : goal.overflow_add-self-in-Some
overflow_add-self-in-Some c =
    let i = c.self.inside in
    let k = total_small i.read i.unordered i.picked.entries i.parts c.self.invariant.lawful in
    let t = c.self.invariant.total in
    let l = c.len-len.ensures.bound in
    omega arith

pub invariant_of-self-in-Some : goal.invariant_of-self-in-Some
invariant_of-self-in-Some c =
    let i = c.self.inside in
    let taken = taken_next (is_next i.parts i.read) (front_of i.parts c.args.max) i.parts (left_front i.parts c.args.max) _ c.in-Some.bytes (sym c.in-Some.is ∙ c.in_ok-bytes.ensures.ok) c.in_ok-bytes.ensures.new in
    let u = ap (λ (a : Arrived). a.unordered) c.self.view_is ∙ c.requires in
    let t = c.self.invariant.total in
    let l = c.len-len.ensures.value in
    record {
      lawful = rw l (next_kept i.read c.args.max i.unordered i.picked.entries i.parts _ c.in-Some.bytes c.self.invariant.lawful u taken.0 taken.1 taken.2);
      known = rw l (next_known i.read c.args.max i.unordered i.picked.entries i.parts _ c.in-Some.bytes i.arrived _ c.self.invariant.lawful u taken.0 taken.1 taken.2 c.self.invariant.known (subst (λ (n : ℕ). Drops i.arrived c.forget.new.arrived 0 (i.read + n)) l c.forget.ensures));
      total = omega arith;
    }
