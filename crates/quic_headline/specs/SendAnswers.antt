-- What an application is answered that sends a message, by the run's lists (RFC 9221, sections 3
-- and 5).
use Rattle.std.specs.Prelude.{ℕ, ◌+◌, ◌<◌, ◌≤◌, ◌≡◌, ◌⊎◌, Bool, true, false, List, length, Option, Some, None, Ok, Err}
use Rattle.std.specs.List.{sum_by}
use Rattle.quic_wire_core.specs.declared.stream_id.Side.{Side}
use Rattle.quic_messages.specs.declared.errors.SendDatagramError.{SendDatagramError}
use Rattle.quic_messages.specs.declared.errors.SendDatagramError.TheVariants.{UnsupportedByPeer, Disabled, TooLarge, Blocked, Memory}
use Rattle.quic_machine.specs.declared.answers.State.TheVariants as states
use Rattle.quic_machine.specs.declared.run.Call.TheVariants as calls
use Rattle.quic_machine.specs.declared.run.Answer.TheVariants as answers
use Rattle.quic_headline.specs.Runs.{Run, AreServed, state_at}
use Rattle.quic_headline.specs.Headline.{IsAt}
use Rattle.quic_headline.specs.Polls.{seen_at}
use Rattle.quic_headline.specs.Queue.{queue_room, longest_by, waiting_messages}
use Rattle.quic_headline.specs.Inbox.{inbox_room}

-- how long a message of an end may be at a place, if its peer takes any: by the size of datagrams
-- that is seen
abbrev pub longest_at : Run → Side → ℕ → Option ℕ
longest_at r side i = longest_by r side (seen_at r side i).current_mtu

-- how many bytes the messages have that wait
abbrev pub bytes_waiting : Run → Side → ℕ → ℕ
bytes_waiting r side i = sum_by (λ (m : List ℕ). length m) (waiting_messages r side i)

-- A message is one that may be taken, for which older ones that wait may be dropped or not: its end
-- takes messages itself, and its peer takes any of its length; and it has room beside those that
-- wait, where these stay.
pub record MayTake (r : Run) (side : Side) (i : ℕ) (makes_room : Bool) (message : List ℕ) : Type 0 where
  pub receives : inbox_room r side ≡ None → ⊥
  pub most : ℕ
  pub is_most : longest_at r side i ≡ Some most
  pub short : length message ≤ most
  pub room : (makes_room ≡ true) ⊎ (bytes_waiting r side i + length message ≤ queue_room r side)

-- Why one isn't taken: its end takes none itself; its peer takes none; it is longer than it may be;
-- it has no room beside those that wait, which stay; or memory lacks for one that may be taken.
abbrev pub IsReason : Run → Side → ℕ → Bool → List ℕ → SendDatagramError → Type 0
IsReason r side i makes_room message Disabled = inbox_room r side ≡ None
IsReason r side i makes_room message UnsupportedByPeer = longest_at r side i ≡ None
IsReason r side i makes_room message TooLarge = (most : ℕ) × (longest_at r side i ≡ Some most) × (most < length message)
IsReason r side i makes_room message Blocked = (makes_room ≡ false) × (queue_room r side < bytes_waiting r side i + length message)
IsReason r side i makes_room message Memory = MayTake r side i makes_room message

-- an open end doesn't take a message only for such a reason, and takes only one that may be taken
pub record SendsAreLet (r : Run) : Type 0 where
  pub refused : (side : Side) (i : ℕ) (message : List ℕ) (makes_room : Bool) (error : SendDatagramError) → AreServed r i → state_at r side i ≡ states.Open → IsAt r i side (calls.Send message makes_room) (answers.Send (Err error)) → IsReason r side i makes_room message error
  pub taken : (side : Side) (i : ℕ) (message : List ℕ) (makes_room : Bool) → AreServed r i → state_at r side i ≡ states.Open → IsAt r i side (calls.Send message makes_room) (answers.Send (Ok tt)) → MayTake r side i makes_room message
