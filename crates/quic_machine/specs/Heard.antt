-- What an end counts beside all else that it is. While the peer's address isn't validated, the
-- bytes that came say how many may go (RFC 9000, section 8.1); and keys are of no more use once too
-- many packets didn't open under them (RFC 9001, section 6.6).
use Rattle.std.specs.Prelude.{ℕ, ◌+◌, ◌==◌, ◌||◌, Bool, true, false, nat_le, if◌then◌else◌, List, length, Option, Some, None}
use Rattle.quic_time.specs.Clocks.{saturated}
use Rattle.quic_machine.specs.declared.answers.Received.{Received}
use Rattle.quic_wire_core.specs.TransportError.{ErrorValue}
use Rattle.quic_machine.specs.declared.answers.Received.TheVariants.{Dropped, Closed}
use Rattle.quic_machine.specs.declared.answers.DropReason.TheVariants as drops
use Rattle.quic_machine.specs.declared.answers.Transmit.{Transmit}

-- what was counted
pub record Heard : Type 0 where
  -- the bytes of all datagrams that came on the path, whatever was made of them, and of all that
  -- were given on it
  pub received : ℕ
  pub sent : ℕ
  -- how many packets didn't open
  pub failures : ℕ

-- nothing came, and nothing was given
abbrev pub nothing_heard : Heard
nothing_heard = record { received = 0; sent = 0; failures = 0 }

-- so many more: a count has 64 bits, and stays at the greatest number that they hold
abbrev pub counted : ℕ → ℕ → ℕ
counted n more = saturated (n + more)

-- a datagram of so many bytes came, or went
abbrev pub heard_received : ℕ → Heard → Heard
heard_received size h = record h { received = counted h.received size }

-- a datagram of so many bytes went
abbrev pub heard_sent : ℕ → Heard → Heard
heard_sent size h = record h { sent = counted h.sent size }

-- a packet didn't open
abbrev pub heard_failure : Heard → Heard
heard_failure h = record h { failures = counted h.failures 1 }

-- whether an error is AEAD_LIMIT_REACHED (RFC 9000, section 20.1): no packet that opened comes to
-- it
abbrev pub is_key_limit : ErrorValue → Bool
is_key_limit error = error.code == 15

-- whether the next packet that doesn't open is the last of so many that may not
abbrev pub is_last : ℕ → Heard → Bool
is_last limit h = nat_le limit (counted h.failures 1)

-- by what a datagram came to: where its packet didn't open, that counts
abbrev pub heard_answer : Received → Heard → Heard
heard_answer (Dropped drops.NotOpened) h = heard_failure h
heard_answer (Closed error) h = if is_key_limit error then heard_failure h else h
heard_answer a h = h

-- another path has got nothing, and nothing went there
abbrev pub heard_anew : Bool → Heard → Heard
heard_anew true h = record h { received = 0; sent = 0 }
heard_anew false h = h

-- a datagram counts for the path whose address it came from, or for the one that it made, or for
-- none
abbrev pub received_if : Bool → ℕ → Heard → Heard
received_if true size h = heard_received size h
received_if false size h = h

-- a datagram of so many bytes made another path or didn't, which counts what came from elsewhere
abbrev pub heard_moved : Bool → ℕ → Heard → Heard
heard_moved new size h = received_if new size (heard_anew new h)

-- a datagram came from the path's address or didn't, made another path or didn't, and came to this
abbrev pub heard_datagram : Bool → Bool → List ℕ → Received → Heard → Heard
heard_datagram here new d a h = heard_answer a (received_if (here || new) (length d) (heard_anew new h))

-- what a poll gave, if it gave a datagram
abbrev pub heard_given : Option Transmit → Heard → Heard
heard_given None h = h
heard_given (Some transmit) h = heard_sent transmit.size h
