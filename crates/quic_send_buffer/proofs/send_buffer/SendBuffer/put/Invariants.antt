use Rattle.std.proofs.Common.{◌≡◌, ◌+◌, ◌-◌, ◌≤◌, ◌++◌}
use Rattle.std.specs.Prelude.{slice_range, vec_len, vec_capacity}
use Rattle.quic_send_buffer.proofs.send_buffer.SendBuffer.put.Given as goal

abbrev pub invariant-loop-at : goal.invariant-loop-at
invariant-loop-at l = record {
  from : l.fn.offsets.start ≤ l.at;
  up_to : l.at ≤ l.fn.offsets.end;
  items : l.out.items ≡ l.fn.out.items ++ slice_range l.fn.self.kept (l.fn.offsets.start - l.fn.self.base) (l.at - l.fn.self.base);
  len : vec_len l.out ≡ vec_len l.fn.out + (l.at - l.fn.offsets.start);
  capacity : vec_capacity l.fn.out ≤ vec_capacity l.out;
}

abbrev pub decreases-loop-at : goal.decreases-loop-at
decreases-loop-at l = l.fn.offsets.end - l.at
