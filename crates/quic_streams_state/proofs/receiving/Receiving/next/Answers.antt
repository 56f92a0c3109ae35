use Rattle.std.proofs.Common.{◌≡◌, ℕ, Option, Some, None, Result, Ok, Err, refl}
use Rattle.quic_assembler.specs.declared.assembler.Chunk.{Chunk}
use Rattle.quic_streams_parts.specs.declared.answers.ReadError.{ReadError}
use Rattle.quic_streams_parts.specs.RecvHalf.{RecvHalf, half_after_next}
use Rattle.quic_streams_state.specs.Parts.{Receiving}
use Rattle.quic_streams_state.proofs.Arriving.{changed_same}
use Rattle.quic_streams_state.proofs.receiving.Receiving.next.Goals as goal

-- a read leaves the greatest offset
next_seen : (r : Result (Option Chunk) ReadError) (most : ℕ) (h : RecvHalf) → (half_after_next r h most).seen ≡ h.seen
next_seen (Ok (Some chunk)) most h = refl
next_seen (Ok None) most h = refl
next_seen (Err e) most h = refl

pub invariant_of-self : goal.invariant_of-self
invariant_of-self c =
    let r : Receiving = record { halves = c.self.inside.recv; gone = c.self.inside.gone; window = c.self.inside.receive_window; announced = c.self.inside.sent_max_data; stream_window = c.self.inside.stream_receive_window } in
    changed_same (λ h. half_after_next c.next.result h c.args.max) r c.args.id c.next.new.self c.self.invariant (next_seen c.next.result c.args.max) c.next.ensures.new
