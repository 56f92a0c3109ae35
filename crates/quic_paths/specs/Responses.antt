-- Answers to the peer's challenges (RFC 9000, section 8.2.2).
use Rattle.std.specs.Prelude.{ℕ, nat_lt, if◌then◌else◌, Option, Some, None}

-- an answer that waits to be sent: the word of a challenge, and the number of the packet with which
-- that came
pub record Response : Type 0 where
  pub packet : ℕ
  pub token : ℕ

-- one more challenge came: the one that is answered is that of the newest packet, of two in one
-- packet the later
abbrev pub newest : Option Response → Response → Option Response
newest None r = Some r
newest (Some waiting) r = if nat_lt r.packet waiting.packet then Some waiting else Some r
