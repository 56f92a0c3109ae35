-- The calls of the application on messages (RFC 9221): what each may be answered, and what it
-- leaves.
use Rattle.std.specs.Prelude.{ℕ, Option, ◌≡◌, ◌⊎◌, Bool, true, false, length, Ok, Err}
use Rattle.quic_messages.specs.declared.errors.SendDatagramError.TheVariants as send_errors
use Rattle.quic_messages.specs.declared.limits.DatagramLimits.{DatagramLimits}
use Rattle.quic_messages.specs.Messages.{oldest, after_recv}
use Rattle.quic_messages.specs.Sending.{max_size, send_answer, after_send}
use Rattle.quic_machine.specs.declared.run.Call.{Call}
use Rattle.quic_machine.specs.declared.run.Call.TheVariants as calls
use Rattle.quic_machine.specs.declared.run.Answer.{Answer}
use Rattle.quic_machine.specs.declared.run.Answer.TheVariants as answers
use Rattle.quic_machine.specs.Ids.{destination}
use Rattle.quic_machine.specs.Parts.{current_mtu, Messaging, with_queues}
use Rattle.quic_machine.specs.End.{End, with_messages}
use Rattle.quic_machine.specs.Calls.{is_open}

-- how long a message may be, where the peer takes messages
abbrev pub most_message : End → Option ℕ
most_message e = max_size e.peer_params.max_datagram_frame_size (current_mtu e.path) (length (destination e.ids))

-- what bounds the messages of an end: its settings, what the peer takes, and what a datagram takes
abbrev pub limits_of : End → DatagramLimits
limits_of e = record {
  is_open = is_open e.closing.state;
  receive_buffer_size = e.transport.datagram_receive_buffer_size;
  send_buffer_size = e.transport.datagram_send_buffer_size;
  max_size = most_message e;
}

-- whether a call is one on messages
abbrev pub is_on_messages : Call → Bool
is_on_messages (calls.Send message makes_room) = true
is_on_messages calls.Recv = true
is_on_messages call = false

-- what a call on messages may be answered: what the messages say, or that memory lacks
abbrev pub IsMessageAnswer : End → Call → Answer → Type 0
IsMessageAnswer e (calls.Send message makes_room) a = (a ≡ answers.Send (send_answer (limits_of e) makes_room message e.messages.queues)) ⊎ (a ≡ answers.Send (Err send_errors.Memory))
IsMessageAnswer e calls.Recv a = a ≡ answers.Recv (oldest e.messages.queues.incoming)
IsMessageAnswer e call a = ⊥

-- what it leaves, by its answer: an error changes nothing
abbrev pub after_on_messages : End → Call → Answer → Messaging
after_on_messages e (calls.Send message makes_room) (answers.Send (Ok x)) = with_queues e.messages (after_send (limits_of e) makes_room message e.messages.queues)
after_on_messages e calls.Recv a = with_queues e.messages (after_recv e.messages.queues)
after_on_messages e call a = e.messages

-- the end that it leaves: with other messages alone
abbrev pub end_on_messages : End → Call → Answer → End
end_on_messages e call a = with_messages e (after_on_messages e call a)

-- a call on messages that says that memory lacks is one that would queue a message
abbrev pub MessageCallLacks : End → Call → Answer → Type 0
MessageCallLacks e (calls.Send message makes_room) (answers.Send answer) = answer ≡ Err send_errors.Memory → send_answer (limits_of e) makes_room message e.messages.queues ≡ Ok tt
MessageCallLacks e call a = Unit {0}
