use Rattle.std.proofs.Common.{[], ◌∷◌, arith, ◌+◌, ◌<◌, ◌^◌, ℕ, List, sym, subst, length}
use Rattle.quic_send_buffer.specs.Buffered.{Buffered, written}
use Rattle.std.proofs.lemmas.List.Sums.{sum_by-cons}
use Rattle.quic_send_buffer.specs.contracts.send_buffer.SendBuffer.{the_view}
use Rattle.quic_send_buffer.proofs.Buffered.Calls.{writes_either}
use Rattle.quic_send_buffer.proofs.send_buffer.SendBuffer.write.Goals as goal

pub invariant_of-self : goal.invariant_of-self
invariant_of-self c =
    let small = subst (λ (b : Buffered). written b + length c.args.bytes.now < 2 ^ 62) (sym c.self.view_is) c.requires in
    let one = sum_by-cons (λ (x : List ℕ). length x) c.args.bytes.now [] in
    writes_either c.push.result (the_view c.self.inside) (c.args.bytes.now ∷ []) c.push.new.self c.self.invariant (omega (arith, small, one)) c.push.ensures.ok c.push.ensures.err

pub returns-clause-lawful : goal.returns-clause-lawful
returns-clause-lawful c =
    let small = subst (λ (b : Buffered). written b + length c.args.bytes.now < 2 ^ 62) (sym c.self.view_is) c.requires in
    let one = sum_by-cons (λ (x : List ℕ). length x) c.args.bytes.now [] in
    writes_either c.push.result (the_view c.self.inside) (c.args.bytes.now ∷ []) c.push.new.self c.self.invariant (omega (arith, small, one)) c.push.ensures.ok c.push.ensures.err
