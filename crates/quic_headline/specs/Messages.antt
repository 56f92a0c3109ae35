-- Messages (RFC 9221): those that an end sent, those that it received, and what both ends keep of
-- them, over a run's lists alone.
use Rattle.std.specs.Prelude.{ℕ, ◌≤◌, List, [], ◌∷◌, ◌++◌, Some, Ok}
use Rattle.quic_wire_core.specs.declared.stream_id.Side.{Side}
use Rattle.quic_wire_core.specs.StreamId.{other_side}
use Rattle.quic_messages.specs.History.{times}
use Rattle.quic_machine.specs.declared.run.Call.{Call}
use Rattle.quic_machine.specs.declared.run.Call.TheVariants as calls
use Rattle.quic_machine.specs.declared.run.Answer.{Answer}
use Rattle.quic_machine.specs.declared.run.Answer.TheVariants as answers
use Rattle.quic_headline.specs.Runs.{Run, Told, until, AreServed}

-- the message that a call sent, if it was answered that it waits to go
abbrev pub sent_by : Call → Answer → List (List ℕ)
sent_by (calls.Send message makes_room) (answers.Send (Ok done)) = message ∷ []
sent_by call a = []

-- the messages that an end sent, in their order
abbrev pub sent_messages : List Told → List (List ℕ)
sent_messages [] = []
sent_messages (t ∷ ts) = sent_by t.call t.answer ++ sent_messages ts

-- the message that a call received, if one waited
abbrev pub received_by : Call → Answer → List (List ℕ)
received_by calls.Recv (answers.Recv (Some message)) = message ∷ []
received_by call a = []

-- the messages that an end received, in their order
abbrev pub received_messages : List Told → List (List ℕ)
received_messages [] = []
received_messages (t ∷ ts) = received_by t.call t.answer ++ received_messages ts

-- each message is received at one end at most as often as the other sent it, whatever is lost,
-- repeated or reordered
abbrev pub MessagesAtMostOnce : Run → Type 0
MessagesAtMostOnce r = (side : Side) (i : ℕ) (message : List ℕ) → AreServed r i
    → times message (received_messages (until r side i)) ≤ times message (sent_messages (until r (other_side side) i))
