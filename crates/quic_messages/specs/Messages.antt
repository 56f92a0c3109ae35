-- Messages of an end, the oldest first (RFC 9221), and what calls make of them.
use Rattle.std.specs.Prelude.{ℕ, zero, ◌+◌, max, Bool, false, nat_le, is_some, ◌==◌, if◌then◌else◌, List, [], ◌∷◌, ◌++◌, length, drop, filter, sum_by, Option, Some, None, Result, Ok, Err}
use Rattle.quic_wire.specs.Value.{datagram}
use Rattle.quic_wire.specs.Writing.{frame_size}
use Rattle.quic_messages.specs.declared.errors.ReceivedError.{ReceivedError}
use Rattle.quic_messages.specs.declared.errors.ReceivedError.TheVariants as received_errors

-- those that came and weren't read, and those that wait to be sent
pub record Messages : Type 0 where
  pub incoming : List (List ℕ)
  pub outgoing : List (List ℕ)

-- there are none
abbrev pub no_messages : Messages
no_messages = record { incoming = []; outgoing = [] }

-- ---- what a message takes of the buffer that it waits in

-- its bytes, and so many at least
abbrev pub at_least : ℕ → List ℕ → ℕ
at_least zero m = length m
at_least least m = max (length m) least

-- of the send buffer it takes its bytes (`length`). Of the receive buffer an empty one takes one
-- byte: the peer sends as many as it likes, RFC 9221 (section 5.3) leaves to the receiver what it
-- keeps, and a message without a byte has its place in the queue as any other
abbrev pub weight : List ℕ → ℕ
weight m = at_least 1 m

-- how many bytes messages take together, where each takes `size`
abbrev pub bytes_of : (List ℕ → ℕ) → List (List ℕ) → ℕ
bytes_of size ms = sum_by size ms

-- the oldest
abbrev pub oldest : List (List ℕ) → Option (List ℕ)
oldest [] = None
oldest (m ∷ ms) = Some m

-- what is left once the oldest go until one more of so many bytes fits in the room, or none is left
abbrev pub left_for : (List ℕ → ℕ) → ℕ → ℕ → List (List ℕ) → List (List ℕ)
left_for size room len [] = []
left_for size room len (m ∷ ms) = if nat_le (bytes_of size (m ∷ ms) + len) room then m ∷ ms else left_for size room len ms

-- those that go for it
abbrev pub gone_for : (List ℕ → ℕ) → ℕ → ℕ → List (List ℕ) → List (List ℕ)
gone_for size room len [] = []
gone_for size room len (m ∷ ms) = if nat_le (bytes_of size (m ∷ ms) + len) room then [] else m ∷ gone_for size room len ms

-- one more behind them, for which the oldest go
abbrev pub with_message : (List ℕ → ℕ) → ℕ → List ℕ → List (List ℕ) → List (List ℕ)
with_message size room m ms = left_for size room (size m) ms ++ m ∷ []

-- ---- messages that come

-- whether an end takes a message: one of at most as many bytes as it keeps unread, if it takes any.
-- What it tells the peer is the longest message, so an empty one is never too long
abbrev pub is_taken : Option ℕ → List ℕ → Bool
is_taken None m = false
is_taken (Some window) m = nat_le (length m) window

-- one that comes is refused, or it is told whether none was unread before
abbrev pub received_answer : Option ℕ → List ℕ → Messages → Result Bool ReceivedError
received_answer window m s = if is_taken window m then Ok (length s.incoming == 0) else Err received_errors.Breach

-- where it is taken, the oldest unread go until it fits
abbrev pub after_received : Option ℕ → List ℕ → Messages → Messages
after_received None m s = s
after_received (Some window) m s = if nat_le (length m) window then record s { incoming = with_message weight window m s.incoming } else s

-- the oldest unread is read
abbrev pub after_recv : Messages → Messages
after_recv s = record s { incoming = drop 1 s.incoming }

-- ---- messages that go

-- how many bytes the frame of a message takes: its type, its length and the message
abbrev pub frame_bytes : List ℕ → ℕ
frame_bytes m = frame_size (datagram m)

-- the oldest that waits, where its frame fits in the room
abbrev pub fitting : ℕ → List (List ℕ) → Option (List ℕ)
fitting room [] = None
fitting room (m ∷ ms) = if nat_le (frame_bytes m) room then Some m else None

-- what waits once it is sent
abbrev pub after_fitting : ℕ → Messages → Messages
after_fitting room s = if is_some (fitting room s.outgoing) then record s { outgoing = drop 1 s.outgoing } else s

-- whether a message has at most so many bytes
abbrev pub is_within : ℕ → List ℕ → Bool
is_within size m = nat_le (length m) size

-- those that wait and are longer go
abbrev pub without_longer : ℕ → Messages → Messages
without_longer size s = record s { outgoing = filter (is_within size) s.outgoing }
