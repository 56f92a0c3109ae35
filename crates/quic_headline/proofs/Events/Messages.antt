-- The messages of an end that wait to be received, and how often it is to be told that they came.
use Rattle.std.proofs.Common.{◌≡◌, ℕ, ◌+◌, ◌<◌, ◌≤◌, ◌⊎◌, inl, inr, Bool, true, false, nat_le, List, [], ◌∷◌, ◌++◌, length, Option, Some, None, Result, Ok, Err, refl, sym, ap, ◌∙◌, subst, arith}
use Rattle.std.specs.Prelude.{◌==◌, if◌then◌else◌}
use Rattle.quic_wire.specs.Value.{FrameValue, ack, datagram, new_connection_id, retire_connection_id, path_response, handshake_done, ack_frequency}
use Rattle.quic_messages.specs.declared.errors.ReceivedError.{ReceivedError}
use Rattle.quic_messages.specs.declared.errors.ReceivedError.TheVariants as received_errors
use Rattle.quic_messages.specs.Messages.{Messages, weight, bytes_of, left_for, with_message, is_taken, received_answer, after_received}
use Rattle.quic_machine.specs.declared.run.Call.{Call}
use Rattle.quic_machine.specs.declared.run.Call.TheVariants as calls
use Rattle.quic_machine.specs.declared.run.Answer.{Answer}
use Rattle.quic_machine.specs.declared.run.Answer.TheVariants as answers
use Rattle.quic_machine.specs.Closing.{ticked}
use Rattle.quic_machine.specs.Policy.{Policy}
use Rattle.quic_machine.specs.End.{End, with_closing, closed_by}
use Rattle.quic_machine.specs.Receive.{is_above, names_ungiven, told_of_message, message_taken, message_judged, take_frame}
use Rattle.quic_machine.specs.Poll.{Polled, Draft, polled, draft_as, Leaving}
use Rattle.quic_machine.specs.MessageCalls.{is_on_messages, limits_of}
use Rattle.quic_machine.specs.Machine.{after_call}
use Rattle.quic_machine.specs.DraftLaws.{Writing, by_leave, MayLeave}
use Rattle.quic_machine.specs.Puts as puts
use Rattle.quic_machine.specs.FrameCases.{Settling, losses_keep, named, ack_taken, acked_keeps, passed, frames_keep, frames_taken, apart_leaves}
use Rattle.quic_machine.specs.Steps as steps
use Rattle.quic_machine.specs.LeaveCases.{by_expired}
use Rattle.quic_machine.specs.PollCases.{by_poll, at_poll}
use Rattle.quic_machine.specs.CallCases.{is_delivery, asks_event, by_call, by_done}
use Rattle.quic_headline.specs.Events.{messages_of}
use Rattle.quic_headline.proofs.Packets.Apart.{by_waits, by_next_id}
use Rattle.quic_headline.proofs.Packets.Closes.{by_closes}
use Rattle.quic_headline.proofs.Messages.Counted.{sent_leaves}
use Rattle.quic_headline.proofs.Packets.Probes.{may_leave}

-- whether a call receives a message
abbrev pub receives : Call → Bool
receives calls.Recv = true
receives call = false

-- ---- what leaves both

-- a fact of the messages that wait, and of how often it is to be told that some came
module _ (P : List (List ℕ) → ℕ → Type 0) where
  abbrev pub Of : End → Type 0
  Of e = P e.messages.queues.incoming e.messages.to_tell

  settles : Settling (λ (e : End). Of e)
  settles (steps.known n) x p = p
  settles s x p = p

  -- whichever frames go
  drafted : (leaving : Leaving) (e : End) → MayLeave leaving e → Of e → Of (draft_as leaving e).end
  drafted leaving e due here = by_leave (λ (d : Draft). Of d.end) keep leaving e due here
    where
      keep : Writing (λ (d : Draft). Of d.end)
      keep puts.ping d may i = i
      keep p d may i = i

  polled_leaves : (p : Policy) (e : End) (now : ℕ) → Of e → Of (polled p e now).end
  polled_leaves p e now here = by_poll p e now (λ (q : Polled). Of q.end) (record {
    silent = here;
    failed = here;
    nothing = λ c. here;
    repeats = λ is. by_closes p (with_closing e (ticked e.closing now)) (λ (q : Polled). Of q.end) here (λ f goes. here);
    closes = λ reason c bound. by_closes p (closed_by reason (at_poll e now c)) (λ (q : Polled). Of q.end) here (λ f goes. here);
    gives = λ leaving c left is may ready some.
        let x : End = at_poll e now c in
        drafted leaving x (may_leave e now leaving x ready) here;
  })

  -- a call that isn't on messages, and asks for no event
  others_leave : (p : Policy) (e : End) (theirs : List (List ℕ)) (call : Call) (a : Answer) → is_delivery call ≡ false → is_on_messages call ≡ false → asks_event call ≡ false → Of e → Of (after_call p e theirs call a)
  others_leave p e theirs call a apart off quiet here = by_call p e theirs (λ (f : End). Of f) call a (record {
    same = here;
    on_streams = λ on answer. here;
    on_messages = λ on answer. cc;
    pings = here;
    times = λ now expiry set. by_expired p.words e now (λ (f : End). Of f) (λ pending tracking timers waits asked runs packets. here) (λ pending timers waits asked runs. losses_keep (λ (f : End). Of f) settles (with_closing e (ticked e.closing now)) here) (λ x j. j) expiry;
    closes = λ reason f now own. here;
    waits = λ now b set. by_waits (λ (f : End). Of f) b (with_closing e (ticked e.closing now)) here here;
    changes_id = λ uses answer. by_next_id (λ (f : End). Of f) e a here (λ c. here) (λ c most. here);
    says_handshake = λ says answer. by_done (λ (f : End). Of f) e a here here;
    polls = λ now set. polled_leaves p e now here;
    hears = λ arrival d set. cc;
    tells = λ asks. cc;
  })

  -- any call that receives no message, and asks for no event, but a delivery
  pub call_leaves : (p : Policy) (e : End) (theirs : List (List ℕ)) (call : Call) (a : Answer) → is_delivery call ≡ false → receives call ≡ false → asks_event call ≡ false → Of e → Of (after_call p e theirs call a)
  call_leaves p e theirs (calls.Send x makes_room) (answers.Send (Ok done)) apart off quiet here = subst (λ (ms : List (List ℕ)). P ms e.messages.to_tell) (sym (sent_leaves (limits_of e) makes_room x e.messages.queues)) here
  call_leaves p e theirs (calls.Send x makes_room) a apart off quiet here = here
  call_leaves p e theirs calls.Recv a apart off quiet here = cc
  call_leaves p e theirs call a apart off quiet here = others_leave p e theirs call a apart refl quiet here

  -- a frame, where a message may be taken
  pub frame_leaves : (f : FrameValue) (e : End) → Of e → ((m : List ℕ) (first : Bool) → f ≡ datagram m → Of e → P (message_taken first m e).queues.incoming (message_taken first m e).to_tell) → Of (take_frame f e).end
  frame_leaves (ack a) e here takes = go (names_ungiven a e)
    where
      go : (b : Bool) → Of (ack_taken b a e).end
      go true = here
      go false = acked_keeps (λ (f : End). Of f) settles (is_above e.numbers.largest_acked a.largest) a (named a e) here
  frame_leaves (datagram m) e here takes = go (received_answer e.transport.datagram_receive_buffer_size m e.messages.queues)
    where
      go : (r : Result Bool ReceivedError) → Of (message_judged r m e).end
      go (Ok first) = takes m first refl here
      go (Err error) = here
  frame_leaves (new_connection_id f) e here takes = apart_leaves (λ (x : End). Of x) (new_connection_id f) e tt (λ c. here) (λ c most. here)
  frame_leaves (retire_connection_id n) e here takes = apart_leaves (λ (x : End). Of x) (retire_connection_id n) e tt (λ c. here) (λ c most. here)
  frame_leaves (path_response token) e here takes = apart_leaves (λ (x : End). Of x) (path_response token) e tt (λ c. here) (λ c most. here)
  frame_leaves handshake_done e here takes = apart_leaves (λ (x : End). Of x) handshake_done e tt (λ c. here) (λ c most. here)
  frame_leaves (ack_frequency r) e here takes = apart_leaves (λ (x : End). Of x) (ack_frequency r) e tt (λ c. here) (λ c most. here)
  frame_leaves f e here takes = here

-- ---- messages that come

-- it stays to be told once more, where another came
still_told : (first : Bool) (n : ℕ) → 0 < n → 0 < told_of_message first n
still_told true n some = omega arith
still_told false n some = some

-- it is to be told where none waited
now_told : (n : ℕ) → 0 < told_of_message true n
now_told n = omega arith

-- so it is behind all frames of a packet, taken or refused
pub frames_tell : (frames : List FrameValue) (e : End) → 0 < e.messages.to_tell → 0 < (passed frames e).end.messages.to_tell
frames_tell frames e some = frames_keep (λ (x : End). 0 < x.messages.to_tell) (λ f x here. frame_leaves (λ ms n. 0 < n) f x here (λ m first is was. still_told first x.messages.to_tell was)) frames e some

-- where the oldest go, no more are left
left_fewer : (size : List ℕ → ℕ) (room len : ℕ) (ms : List (List ℕ)) → length (left_for size room len ms) ≤ length ms
left_fewer size room len [] = omega arith
left_fewer size room len (x ∷ ms) = go (nat_le (bytes_of size (x ∷ ms) + len) room) (left_fewer size room len ms)
  where
    go : (b : Bool) → length (left_for size room len ms) ≤ length ms → length (if b then x ∷ ms else left_for size room len ms) ≤ length (x ∷ ms)
    go true rest = omega arith
    go false rest = omega arith

one_longer : (xs : List (List ℕ)) (x : List ℕ) → length (xs ++ x ∷ []) ≡ length xs + 1
one_longer [] x = refl
one_longer (y ∷ xs) x = (let rest = one_longer xs x in omega arith)

-- one that comes makes one more at most
received_longer : (window : Option ℕ) (m : List ℕ) (s : Messages) → length (after_received window m s).incoming ≤ length s.incoming + 1
received_longer None m s = omega arith
received_longer (Some window) m s = go (nat_le (length m) window)
  where
    go : (b : Bool) → length (if b then record s { incoming = with_message weight window m s.incoming } else s).incoming ≤ length s.incoming + 1
    go true = (let less = left_fewer weight window (weight m) s.incoming in let more = one_longer (left_for weight window (weight m) s.incoming) m in omega arith)
    go false = omega arith

-- what is told of one that is taken: whether none waited
told_first : (b : Bool) (n : ℕ) (first : Bool) → (if b then Ok (n == 0) else Err received_errors.Breach) ≡ Ok first → (n == 0) ≡ first
told_first true n first is = cc
told_first false n first is = cc

-- Behind frames of a packet, of which these are left: so many messages wait at most; it stays to be
-- told, if it was before; and where none waited, none came or it is to be told.
pub record Brings (e : End) (all left : List FrameValue) (x : End) : Type 0 where
  pub fewer : length x.messages.queues.incoming + messages_of left ≤ length e.messages.queues.incoming + messages_of all
  pub tells : 0 < e.messages.to_tell → 0 < x.messages.to_tell
  pub first : length e.messages.queues.incoming ≡ 0 → ((messages_of left ≡ messages_of all) × (length x.messages.queues.incoming ≡ 0)) ⊎ (0 < x.messages.to_tell)

module _ (e : End) (all : List FrameValue) where
  -- where neither changes
  abbrev Same : List FrameValue → List (List ℕ) → ℕ → Type 0
  Same left ms n = (length ms + messages_of left ≤ length e.messages.queues.incoming + messages_of all)
      × ((0 < e.messages.to_tell → 0 < n) × (length e.messages.queues.incoming ≡ 0 → ((messages_of left ≡ messages_of all) × (length ms ≡ 0)) ⊎ (0 < n)))

  message_step : (m : List ℕ) (left : List FrameValue) (x : End) (r : Result Bool ReceivedError) → received_answer x.transport.datagram_receive_buffer_size m x.messages.queues ≡ r → (message_judged r m x).fault ≡ None → Brings e all (datagram m ∷ left) x
      → Brings e all left (message_judged r m x).end
  message_step m left x (Err error) is none b = cc
  message_step m left x (Ok fresh) is none b = record {
    fewer = (let more = received_longer x.transport.datagram_receive_buffer_size m x.messages.queues in let was = b.fewer in omega arith);
    tells = λ some. still_told fresh x.messages.to_tell (b.tells some);
    first = λ empty. elim (b.first empty) [
      | inl before ↦ inr (subst (λ (c : Bool). 0 < told_of_message c x.messages.to_tell) (ap (λ (k : ℕ). k == 0) (sym before.1) ∙ told_first (is_taken x.transport.datagram_receive_buffer_size m) (length x.messages.queues.incoming) fresh is) (now_told x.messages.to_tell))
      | inr some ↦ inr (still_told fresh x.messages.to_tell some)
    ];
  }

  frame_step : (f : FrameValue) (left : List FrameValue) (x : End) → (take_frame f x).fault ≡ None → Brings e all (f ∷ left) x → Brings e all left (take_frame f x).end
  frame_step (datagram m) left x none b = message_step m left x (received_answer x.transport.datagram_receive_buffer_size m x.messages.queues) refl none b
  frame_step f left x none b = (let s : Same left (take_frame f x).end.messages.queues.incoming (take_frame f x).end.messages.to_tell = frame_leaves (Same left) f x (b.fewer, (b.tells, b.first)) (λ m first is was. cc) in record { fewer = s.0; tells = s.1.0; first = s.1.1 })

  -- all of a packet that is taken
  pub frames_bring : (passed all e).fault ≡ None → Brings e all [] (passed all e).end
  frames_bring none = frames_taken (Brings e all) frame_step all e none (record { fewer = omega arith; tells = λ some. some; first = λ empty. inl (refl, empty) })
