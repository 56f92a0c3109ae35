-- A call of the application, on the messages of an end alone.
use Rattle.std.specs.Prelude.{◌≡◌, ◌⊎◌, Ok, Err}
use Rattle.quic_messages.specs.declared.errors.SendDatagramError.TheVariants as send_errors
use Rattle.quic_messages.specs.declared.limits.DatagramLimits.{DatagramLimits}
use Rattle.quic_messages.specs.Messages.{Messages, oldest, after_recv}
use Rattle.quic_messages.specs.Sending.{send_answer, after_send}
use Rattle.quic_machine.specs.declared.run.Call.{Call}
use Rattle.quic_machine.specs.declared.run.Call.TheVariants as calls
use Rattle.quic_machine.specs.declared.run.Answer.{Answer}
use Rattle.quic_machine.specs.declared.run.Answer.TheVariants as answers

-- what messages with these limits may answer a call: what they say, or that memory lacks
abbrev pub MayAnswer : DatagramLimits → Messages → Call → Answer → Type 0
MayAnswer limits old (calls.Send message makes_room) a = (a ≡ answers.Send (send_answer limits makes_room message old)) ⊎ (a ≡ answers.Send (Err send_errors.Memory))
MayAnswer limits old calls.Recv a = a ≡ answers.Recv (oldest old.incoming)
MayAnswer limits old call a = ⊥

-- which messages a call leaves, by its answer
abbrev pub left_by : DatagramLimits → Messages → Call → Answer → Messages
left_by limits old (calls.Send message makes_room) (answers.Send (Ok x)) = after_send limits makes_room message old
left_by limits old calls.Recv a = after_recv old
left_by limits old call a = old

-- where it may say that memory lacks: it would queue a message
abbrev pub MayLack : DatagramLimits → Messages → Call → Answer → Type 0
MayLack limits old (calls.Send message makes_room) (answers.Send answer) = answer ≡ Err send_errors.Memory → send_answer limits makes_room message old ≡ Ok tt
MayLack limits old call a = Unit {0}

-- A call on messages with these limits may be answered so, lacking memory only where it takes some,
-- and leaves them so.
pub record IsCallOn (limits : DatagramLimits) (old : Messages) (call : Call) (a : Answer) (new : Messages) : Type 0 where
  pub answer : MayAnswer limits old call a
  pub lacking : MayLack limits old call a
  pub left : new ≡ left_by limits old call a
