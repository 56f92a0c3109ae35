-- Calls on the messages of an end, one after another, and what they took and gave.
use Rattle.std.specs.Prelude.{ℕ, Bool, not, if◌then◌else◌, List, [], ◌∷◌, ◌++◌, length, filter, count_by, Option, Some, None, is_ok}
use Rattle.std.specs.Option.{option_to_list}
use Rattle.std.specs.Str.{bytes_eq}
use Rattle.quic_messages.specs.declared.limits.DatagramLimits.{DatagramLimits}
use Rattle.quic_messages.specs.Messages.{Messages, oldest, weight, gone_for, is_taken, after_received, after_recv, is_within, fitting, after_fitting, without_longer}
use Rattle.quic_messages.specs.Sending.{send_answer, after_send}

-- a call, which memory doesn't lack for
pub data Call : Type 0 where
  received : (window : Option ℕ) (message : List ℕ) → Call
  recv : Call
  send : (limits : DatagramLimits) (makes_room : Bool) (message : List ℕ) → Call
  next_frame : (room : ℕ) → Call
  drop_oversized : (size : ℕ) → Call

-- what it makes of the messages
abbrev pub after_call : Call → Messages → Messages
after_call (received window m) s = after_received window m s
after_call recv s = after_recv s
after_call (send limits makes_room m) s = after_send limits makes_room m s
after_call (next_frame room) s = after_fitting room s
after_call (drop_oversized size) s = without_longer size s

-- the message that it takes of the peer, if it does
abbrev pub came_by : Call → Messages → List (List ℕ)
came_by (received window m) s = if is_taken window m then m ∷ [] else []
came_by call s = []

-- the message that it gives to the application, if it does
abbrev pub given_by : Call → Messages → List (List ℕ)
given_by recv s = option_to_list (oldest s.incoming)
given_by call s = []

-- the messages that it drops unread
abbrev pub incoming_dropped_by : Call → Messages → List (List ℕ)
incoming_dropped_by (received None m) s = []
incoming_dropped_by (received (Some window) m) s = if is_taken (Some window) m then gone_for weight window (weight m) s.incoming else []
incoming_dropped_by call s = []

-- the message that it takes of the application, if it does
abbrev pub queued_by : Call → Messages → List (List ℕ)
queued_by (send limits makes_room m) s = if is_ok (send_answer limits makes_room m s) then m ∷ [] else []
queued_by call s = []

-- the message whose frame it sends, if it does
abbrev pub sent_by : Call → Messages → List (List ℕ)
sent_by (next_frame room) s = option_to_list (fitting room s.outgoing)
sent_by call s = []

-- the messages that it drops unsent
abbrev pub outgoing_dropped_by : Call → Messages → List (List ℕ)
outgoing_dropped_by (send limits makes_room m) s = if is_ok (send_answer limits makes_room m s) then gone_for length limits.send_buffer_size (length m) s.outgoing else []
outgoing_dropped_by (drop_oversized size) s = filter (λ m. not (is_within size m)) s.outgoing
outgoing_dropped_by call s = []

-- what calls make of the messages, the first call first
abbrev pub after_calls : List Call → Messages → Messages
after_calls [] s = s
after_calls (call ∷ calls) s = after_calls calls (after_call call s)

-- the messages of some kind of all calls
abbrev pub over : (Call → Messages → List (List ℕ)) → List Call → Messages → List (List ℕ)
over by [] s = []
over by (call ∷ calls) s = by call s ++ over by calls (after_call call s)

-- how often a message stands among others
abbrev pub times : List ℕ → List (List ℕ) → ℕ
times m ms = count_by (bytes_eq m) ms
