use Rattle.std.proofs.Common.{◌≤◌, refl, sym, ap, subst, arith}
use Rattle.quic_sets.specs.Runs.{Run}
use Rattle.quic_send_buffer.specs.Buffered.{written}
use Rattle.quic_send_buffer.proofs.Buffered.Calls.{next_kept, next_ordered, next_bounded, start_small}
use Rattle.quic_send_buffer.proofs.send_buffer.SendBuffer.next_transmit.Goals as goal

pub offset_size-requires : goal.offset_size-requires
offset_size-requires c =
    let b = c.args.self.now in
    let next = c.next_range-next.ensures in
    start_small b b refl next.lawful c.next_range-next.result.start (ap (λ (r : Run). r.start) next.value)

pub returns-clause-kept : goal.returns-clause-kept
returns-clause-kept c =
    let b = c.args.self.now in
    let next = c.next_range-next.ensures in
    subst (λ (r : Run). b.base ≤ r.start) (sym next.value) (next_kept b next.lawful)

pub returns-clause-bounded : goal.returns-clause-bounded
returns-clause-bounded c =
    let b = c.args.self.now in
    let next = c.next_range-next.ensures in
    let ordered = subst (λ (r : Run). r.start ≤ r.end) (sym next.value) (next_ordered b next.lawful) in
    let bounded = subst (λ (r : Run). r.end ≤ written b) (sym next.value) (next_bounded b next.lawful) in
    let few = c.min.ensures in
    omega (arith, ordered, bounded, few)
