-- What leaves the messages of an end as they were: all frames but DATAGRAM, and all calls but
-- polls, deliveries and those on messages.
use Rattle.std.proofs.Common.{◌≡◌, ℕ, Bool, true, false, List, Result, Ok, Err, refl}
use Rattle.quic_wire.specs.Value.{FrameValue, ack, datagram, new_connection_id, retire_connection_id, path_response, handshake_done, ack_frequency}
use Rattle.quic_messages.specs.declared.errors.ReceivedError.{ReceivedError}
use Rattle.quic_messages.specs.Messages.{Messages, without_longer, received_answer, after_received}
use Rattle.quic_machine.specs.declared.run.Call.{Call}
use Rattle.quic_machine.specs.declared.run.Answer.{Answer}
use Rattle.quic_machine.specs.Closing.{ticked}
use Rattle.quic_machine.specs.Policy.{Policy}
use Rattle.quic_machine.specs.End.{End, with_closing}
use Rattle.quic_machine.specs.Receive.{is_above, names_ungiven, message_judged, take_frame}
use Rattle.quic_machine.specs.MessageCalls.{is_on_messages}
use Rattle.quic_machine.specs.Machine.{after_call}
use Rattle.quic_machine.specs.FrameCases.{Settling, losses_keep, named, ack_taken, acked_keeps, apart_leaves}
use Rattle.quic_machine.specs.Steps as steps
use Rattle.quic_machine.specs.LeaveCases.{by_expired, by_event}
use Rattle.quic_machine.specs.CallCases.{is_delivery, is_poll, by_call, by_done}
use Rattle.quic_headline.proofs.Packets.Apart.{by_waits, by_next_id}

module _ (P : Messages → Type 0) (drops : (most : ℕ) (q : Messages) → P q → P (without_longer most q)) where
  -- packets that are acknowledged or lost
  settles : Settling (λ (f : End). P f.messages.queues)
  settles (steps.shortens most) x p = drops most x.messages.queues p
  settles s x p = p

  -- what holds of the messages, and where one more is taken, holds behind a frame
  pub frame_messages : (f : FrameValue) (e : End) → P e.messages.queues → ((m : List ℕ) → f ≡ datagram m → P (after_received e.transport.datagram_receive_buffer_size m e.messages.queues)) → P (take_frame f e).end.messages.queues
  frame_messages (ack a) e same takes = go (names_ungiven a e)
    where
      go : (b : Bool) → P (ack_taken b a e).end.messages.queues
      go true = same
      go false = acked_keeps (λ (f : End). P f.messages.queues) settles (is_above e.numbers.largest_acked a.largest) a (named a e) same
  frame_messages (datagram m) e same takes = go (received_answer e.transport.datagram_receive_buffer_size m e.messages.queues)
    where
      go : (r : Result Bool ReceivedError) → P (message_judged r m e).end.messages.queues
      go (Ok first) = takes m refl
      go (Err error) = same
  frame_messages (new_connection_id f) e same takes = apart_leaves (λ (x : End). P x.messages.queues) (new_connection_id f) e tt (λ c. same) (λ c most. drops most e.messages.queues same)
  frame_messages (retire_connection_id n) e same takes = apart_leaves (λ (x : End). P x.messages.queues) (retire_connection_id n) e tt (λ c. same) (λ c most. drops most e.messages.queues same)
  frame_messages (path_response token) e same takes = apart_leaves (λ (x : End). P x.messages.queues) (path_response token) e tt (λ c. same) (λ c most. drops most e.messages.queues same)
  frame_messages handshake_done e same takes = apart_leaves (λ (x : End). P x.messages.queues) handshake_done e tt (λ c. same) (λ c most. drops most e.messages.queues same)
  frame_messages (ack_frequency r) e same takes = apart_leaves (λ (x : End). P x.messages.queues) (ack_frequency r) e tt (λ c. same) (λ c most. drops most e.messages.queues same)
  frame_messages f e same takes = same

  -- what holds of the messages holds behind a call
  pub call_messages : (p : Policy) (e : End) (theirs : List (List ℕ)) (call : Call) (a : Answer) → is_poll call ≡ false → is_delivery call ≡ false → is_on_messages call ≡ false → P e.messages.queues → P (after_call p e theirs call a).messages.queues
  call_messages p e theirs call a unpolled apart off same = by_call p e theirs (λ (f : End). P f.messages.queues) call a (record {
    same = same;
    on_streams = λ on answer. same;
    on_messages = λ on answer. cc;
    pings = same;
    times = λ now expiry set. by_expired p.words e now (λ (f : End). P f.messages.queues) (λ pending tracking timers waits asked runs packets. same) (λ pending timers waits asked runs. losses_keep (λ (f : End). P f.messages.queues) settles (with_closing e (ticked e.closing now)) same) (λ x j. j) expiry;
    closes = λ reason f now own. same;
    waits = λ now b set. by_waits (λ (f : End). P f.messages.queues) b (with_closing e (ticked e.closing now)) same same;
    changes_id = λ uses answer. by_next_id (λ (f : End). P f.messages.queues) e a same (λ c. same) (λ c most. drops most e.messages.queues same);
    says_handshake = λ says answer. by_done (λ (f : End). P f.messages.queues) e a same same;
    polls = λ now set. cc;
    hears = λ arrival d set. cc;
    tells = λ asks. by_event e (λ (f : End). P f.messages.queues) same same (λ told. same);
  })
