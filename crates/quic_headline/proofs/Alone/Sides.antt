-- An end stays the client or the server, whatever is handed to it.
use Rattle.std.proofs.Common.{◌≡◌, List, ℕ, refl}
use Rattle.quic_wire_core.specs.declared.stream_id.Side.{Side}
use Rattle.quic_wire.specs.Value.{StreamValue}
use Rattle.quic_streams_state.specs.State.{sending_half}
use Rattle.quic_streams_laws.specs.KeepingLaws.{by_accept, by_blocked, by_stream, by_reset_frame}
use Rattle.quic_machine.specs.declared.run.Call.{Call}
use Rattle.quic_machine.specs.declared.run.Call.TheVariants as calls
use Rattle.quic_machine.specs.declared.run.Answer.{Answer}
use Rattle.quic_machine.specs.Policy.{Policy}
use Rattle.quic_machine.specs.End.{End, side_of}
use Rattle.quic_machine.specs.Machine.{IsAnswer, after_call}
use Rattle.quic_headline.proofs.Halves.Opened.{IsOf, side_stays}
use Rattle.quic_headline.proofs.Halves.ReadCalls.{any_kept}
use Rattle.quic_headline.proofs.Alone.Places.{Hands}
use Rattle.quic_headline.proofs.Alone.Streams.{write_leaves, chunks_leave, IsKeptAlone, call_keeps}

-- any STREAM frame
abbrev Any : StreamValue → Type 0
Any f = Unit {0}

side_alone : (side : Side) → IsKeptAlone Any (IsOf side)
side_alone side = record {
  kept = any_kept (IsOf side) (side_stays side);
  accept = λ dir s i. by_accept (IsOf side) (side_stays side) dir s (λ may. tt) i;
  write = λ b answer s p id bytes i. write_leaves (IsOf side) (λ t other h q n there j. j) b answer s p id bytes (λ full. by_blocked (IsOf side) (side_stays side) s p id (sending_half s id) refl i) i;
  chunks = λ b answer s p id chunks i. chunks_leave (IsOf side) (λ t other h q n there j. j) b answer s p id chunks (λ full. by_blocked (IsOf side) (side_stays side) s p id (sending_half s id) refl i) i;
  stream = λ s p f fits i. by_stream (IsOf side) (side_stays side) s p f (λ h a u. tt) i;
  reset = λ s p f i. by_reset_frame (IsOf side) (side_stays side) s p f (λ h a u. tt) i;
}

-- any call
pub side_call : (p : Policy) (e : End) (theirs : List (List ℕ)) (call : Call) (a : Answer) → IsAnswer p e theirs call a → side_of (after_call p e theirs call a) ≡ side_of e
side_call p e theirs call a is = call_keeps Any (IsOf (side_of e)) (side_alone (side_of e)) p e theirs refl (λ d. Unit {0}) (λ d handed f stands. tt) call a is (hands call)
  where
    hands : (c : Call) → Hands theirs (λ d. Unit {0}) c
    hands (calls.Deliver delivery) = λ d there. tt
    hands c = tt
