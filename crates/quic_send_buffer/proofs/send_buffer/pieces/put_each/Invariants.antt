use Rattle.std.proofs.Common.{◌≡◌, ◌+◌, ◌≤◌, ◌++◌, length, take}
use Rattle.quic_send_buffer.specs.Source.{bytes_of, cut_to}
use Rattle.quic_send_buffer.specs.KeptBytes.{alone, parts_from}
use Rattle.quic_send_buffer.proofs.send_buffer.pieces.put_each.Given as goal

-- what is put and what is left are all; and all that is put can be taken off again
abbrev pub invariant-loop-chunk : goal.invariant-loop-chunk
invariant-loop-chunk l = record {
  all : l.stretches ++ alone (parts_from l.at (cut_to l.left l.rest)) ≡ l.fn.stretches ++ alone (parts_from l.fn.end (cut_to l.fn.len l.fn.chunks));
  count : l.at + bytes_of (cut_to l.left l.rest) ≡ l.fn.end + bytes_of (cut_to l.fn.len l.fn.chunks);
  room : l.at + l.left ≡ l.fn.end + l.fn.len;
  above : l.fn.end ≤ l.at;
  own : l.kept ≤ length l.stretches;
  back : take l.kept l.stretches ≡ l.fn.stretches;
}

abbrev pub decreases-loop-chunk : goal.decreases-loop-chunk
decreases-loop-chunk l = length l.rest
