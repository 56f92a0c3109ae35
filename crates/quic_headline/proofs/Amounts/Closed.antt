-- An end that isn't open takes nothing to send: at each place of an honest run.
use Rattle.std.proofs.Common.{◌≡◌, false, length, inl, inr, refl, sym, ap, ◌∙◌}
use Rattle.quic_wire_core.specs.StreamId.{other_side}
use Rattle.quic_messages.specs.Sending.{send_answer}
use Rattle.quic_streams_state.specs.Opening.{open_answer}
use Rattle.quic_streams_state.specs.Writing.{write_answer, write_chunks_answer}
use Rattle.quic_machine.specs.declared.answers.State.{State}
use Rattle.quic_machine.specs.declared.answers.State.TheVariants as states
use Rattle.quic_machine.specs.declared.run.Call.{Call}
use Rattle.quic_machine.specs.declared.run.Call.TheVariants as calls
use Rattle.quic_machine.specs.declared.run.Answer.{Answer}
use Rattle.quic_machine.specs.declared.run.Answer.TheVariants as answers
use Rattle.quic_machine.specs.Calls.{is_open}
use Rattle.quic_machine.specs.MessageCalls.{limits_of}
use Rattle.quic_machine.specs.End.{End}
use Rattle.quic_machine.specs.Machine.{World, IsAnswer, end_at, reads_window, control_at, heard_at, given_by, policy_at}
use Rattle.quic_headline.specs.Runs.{Run}
use Rattle.quic_headline.specs.Headline.{IsHonest, IsRun}
use Rattle.quic_headline.specs.Stopped.{takes_up, ClosedTakeNothing}
use Rattle.quic_headline.proofs.Places.Placed.{Placed, placed, answered}
use Rattle.quic_headline.proofs.Places.Everything as everything
use Rattle.quic_headline.proofs.Places.Theorems.{ready}
use Rattle.quic_headline.proofs.Halves.Ready.{Ready}

-- one that isn't open
shut : (state : State) → (state ≡ states.Open → ⊥) → is_open state ≡ false
shut states.Open not_open = absurd (not_open refl)
shut states.Closing not_open = refl
shut states.Drained not_open = refl
shut states.Failed not_open = refl

pub closed_take_nothing : (r : Run) (end : World) → IsHonest r → IsRun r end → ClosedTakeNothing r
closed_take_nothing r end honest run side i call a served not_open at = by_call call a (answered r p.world end i side call a p.goes_on at)
  where
    p : Placed (everything.All Ready ready) r end side i
    p = placed (everything.All Ready ready) (everything.all Ready ready) r end honest run side i served

    e : End
    e = end_at side p.world

    closed : is_open e.closing.state ≡ false
    closed = shut e.closing.state (λ is. not_open (sym p.state ∙ is))

    by_call : (call : Call) (a : Answer) → IsAnswer (policy_at side r.keys) (reads_window (control_at side p.world) (heard_at side p.world) call e) (given_by (other_side side) p.world) call a → takes_up call a ≡ false
    by_call (calls.Open dir) a is = ap (takes_up (calls.Open dir)) (is ∙ ap (λ b. answers.Open (open_answer b dir e.streams)) closed)
    by_call (calls.Write id bytes) a (inl is) = ap (takes_up (calls.Write id bytes)) (is ∙ ap (λ b. answers.Write (write_answer b e.streams id (length bytes))) closed)
    by_call (calls.Write id bytes) a (inr is) = ap (takes_up (calls.Write id bytes)) is
    by_call (calls.WriteChunks id chunks) a (inl is) = ap (takes_up (calls.WriteChunks id chunks)) (is ∙ ap (λ b. answers.WriteChunks (write_chunks_answer b e.streams id chunks.items)) closed)
    by_call (calls.WriteChunks id chunks) a (inr is) = ap (takes_up (calls.WriteChunks id chunks)) is
    by_call (calls.Send message makes_room) a (inl is) = ap (takes_up (calls.Send message makes_room)) (is ∙ ap (λ b. answers.Send (send_answer (record (limits_of e) { is_open = b }) makes_room message e.messages.queues)) closed)
    by_call (calls.Send message makes_room) a (inr is) = ap (takes_up (calls.Send message makes_room)) is
    by_call call a is = refl
