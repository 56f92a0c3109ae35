-- That an end asks its peer whether it receives where it is (RFC 9000, sections 8.2.1 and 8.2.4):
-- PATH_CHALLENGE goes to an address that isn't validated.
use Rattle.std.specs.Prelude.{ℕ, suc, ◌<◌, ◌≡◌, ◌⊎◌, true, false}
use Rattle.std.specs.List.{list_any}
use Rattle.quic_wire_core.specs.declared.stream_id.Side.{Side}
use Rattle.quic_machine.specs.declared.run.View.{View}
use Rattle.quic_headline.specs.Runs.{Run, AreServed}
use Rattle.quic_headline.specs.Expiring.{most_questions, questions}
use Rattle.quic_headline.specs.Polls.{GaveAsking, GaveNothing, IsHeldBack, IsLimited, seen_at}
use Rattle.quic_headline.specs.Validated.{asking}
use Rattle.quic_headline.specs.Waited.{is_path_challenge}

-- An end is to ask its peer: the address of that isn't seen to be validated; it gave no
-- PATH_CHALLENGE yet, or none since its path changed, or since the moment came to ask anew; and it
-- asked fewer times than 64 bits count.
pub record IsToAsk (r : Run) (side : Side) (i : ℕ) : Type 0 where
  pub unvalidated : (seen_at r side i).validated ≡ false
  pub unasked : (asking r side i).renewed ≡ true
  pub few : (questions r side i).count < most_questions

-- Then each datagram that asks for an acknowledgement has PATH_CHALLENGE; and where a poll of an
-- open end gives nothing, window or pacer hold it back, or nothing more may go to an address that
-- isn't validated.
pub record ChallengesGo (r : Run) : Type 0 where
  pub along : (side : Side) (i now : ℕ) (given : GaveAsking r side i now) → IsToAsk r side i → list_any is_path_challenge given.one.sent.frames ≡ true
  pub held : (side : Side) (i now : ℕ) (v : View) → AreServed r (suc i) → GaveNothing r side i now v → IsToAsk r side (suc i) → IsHeldBack r side (suc i) v ⊎ IsLimited r side (suc i) v
