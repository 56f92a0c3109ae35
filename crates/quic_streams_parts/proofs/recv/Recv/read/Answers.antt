use Rattle.std.proofs.Common.{◌≡◌, ℕ, Option, Result, Ok, Err, OnOk, OnErr, sym, subst}
use Rattle.quic_assembler.specs.Arrived.{Arrived, after_read}
use Rattle.quic_streams_parts.specs.RecvBounds.{IsWithin}
use Rattle.quic_streams_parts.proofs.Within.{next_within}
use Rattle.quic_streams_parts.proofs.recv.Recv.read.Goals as goal

-- whether memory lacks or not
either : {T E : Type 0} (r : Result T E) (a n : Arrived) (seen announced most : ℕ) (size : Option ℕ) → OnOk r (n ≡ after_read a most) → OnErr r (n ≡ a) → IsWithin a seen size announced → IsWithin n seen size announced
either (Ok x) a n seen announced most size ok err h = next_within a n seen announced most size h ok
either (Err e) a n seen announced most size ok err h = subst (λ (x : Arrived). IsWithin x seen size announced) (sym err) h

pub invariant_of-self : goal.invariant_of-self
invariant_of-self c =
    either c.read.result c.self.inside.assembler c.read.new.self c.self.inside.end c.self.inside.sent_max_stream_data c.args.max c.self.inside.final_offset c.read.ensures.new c.read.ensures.err c.self.invariant
