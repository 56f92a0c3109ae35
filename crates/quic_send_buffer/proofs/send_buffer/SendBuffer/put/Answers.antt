use Rattle.std.proofs.Common.{◌≡◌, subst, ◌+◌, ◌-◌, ◌++◌, ap, ◌∙◌, arith, length, List, ℕ}
use Rattle.std.specs.Prelude.{slice_range}
use Rattle.quic_send_buffer.specs.Buffered.{Buffered}
use Rattle.std.proofs.lemmas.List.{append_assoc}
use Rattle.quic_send_buffer.proofs.Kept.Ranges.{range_joined}
use Rattle.quic_send_buffer.proofs.send_buffer.SendBuffer.put.Goals as goal

pub loop-at-preserved : goal.loop-at-preserved
loop-at-preserved c =
    let b = c.args.self.now in
    let l = c.loop-at in
    let i = l.invariant in
    let got = c.get_joined-bytes.ensures in
    let seen : c.get_joined-bytes.result.now ≡ slice_range b.kept (l.at - b.base) (l.at + length c.get_joined-bytes.result.now - b.base) = subst (λ (x : Buffered). c.get_joined-bytes.result.now ≡ slice_range x.kept (l.at - x.base) (l.at + length c.get_joined-bytes.result.now - x.base)) c.self.view_is got.bytes in
    let bytes = c.get_joined-bytes.result.now in
    let next : ℕ = l.at + length bytes in
    let from = i.from in
    let kept = c.requires.kept in
    let bounded = c.requires.bounded in
    let within = got.within in
    let sizes = c.append.ensures.len in
    let before = i.len in
    let more = c.append.ensures.capacity in
    let room = i.capacity in
    record {
      from = omega (arith, from);
      up_to = within;
      items = c.append.ensures.items ∙ ap (λ (z : List ℕ). z ++ bytes) i.items ∙ append_assoc c.args.out.now.items (slice_range b.kept (c.args.offsets.start - b.base) (l.at - b.base)) bytes
          ∙ ap (λ (z : List ℕ). c.args.out.now.items ++ z) (ap (λ (z : List ℕ). slice_range b.kept (c.args.offsets.start - b.base) (l.at - b.base) ++ z) seen
          ∙ range_joined b.kept (c.args.offsets.start - b.base) (l.at - b.base) (next - b.base) (omega (arith, from)) (omega (arith, from)) (omega (arith, within, bounded)));
      len = omega (arith, sizes, before, from);
      capacity = omega (arith, more, room);
    }
