-- Messages of an end that keeps 8 bytes of unread ones and lets 8 bytes wait, whose peer takes
-- frames of 15 bytes.
use Rattle.std.specs.Prelude.{ℕ, zero, suc, Bool, true, false, List, [], ◌∷◌, codes, Option, Some, None, Result}
use Rattle.quic_messages.specs.declared.errors.ReceivedError.{ReceivedError}
use Rattle.quic_messages.specs.declared.limits.DatagramLimits.{DatagramLimits}
use Rattle.quic_messages.specs.Messages.{Messages, no_messages, oldest, received_answer, after_received, after_recv}
use Rattle.quic_messages.specs.Sending.{max_size, after_send}

-- what bounds them
abbrev pub limits : DatagramLimits
limits = record { is_open = true; receive_buffer_size = Some 8; send_buffer_size = 8; max_size = max_size 15 1200 8 }

-- the same where the end isn't open, takes no messages itself, has a peer that takes none, or may
-- send four bytes at most
abbrev pub not_open : DatagramLimits
not_open = record limits { is_open = false }

-- the end takes none itself
abbrev pub takes_none : DatagramLimits
takes_none = record limits { receive_buffer_size = None }

-- its peer takes none
abbrev pub peer_takes_none : DatagramLimits
peer_takes_none = record limits { max_size = None }

-- it may send four bytes at most
abbrev pub of_four : DatagramLimits
of_four = record limits { max_size = Some 4 }

-- ---- messages that go

-- these were queued, for which none goes
abbrev pub queued_behind : Messages → List (List ℕ) → Messages
queued_behind s [] = s
queued_behind s (m ∷ ms) = queued_behind (after_send limits false m s) ms

-- these were queued first
abbrev pub sent_each : List (List ℕ) → Messages
sent_each ms = queued_behind no_messages ms

-- one waits
abbrev pub hello_queued : Messages
hello_queued = sent_each (codes "hello" ∷ [])

-- two wait, with 8 bytes
abbrev pub two_queued : Messages
two_queued = sent_each (codes "oldest" ∷ codes "is" ∷ [])

-- a third was queued, for which the oldest may go
abbrev pub here_queued : Messages
here_queued = after_send limits true (codes "here") two_queued

-- one without a byte was queued behind them
abbrev pub empty_queued : Messages
empty_queued = sent_each (codes "oldest" ∷ codes "is" ∷ [] ∷ [])

-- ---- messages that come

-- these came to an end that keeps so many bytes unread
abbrev pub came : ℕ → List (List ℕ) → Messages → Messages
came window [] s = s
came window (m ∷ ms) s = came window ms (after_received (Some window) m s)

-- what each was answered
abbrev pub answers_of : ℕ → List (List ℕ) → Messages → List (Result Bool ReceivedError)
answers_of window [] s = []
answers_of window (m ∷ ms) s = received_answer (Some window) m s ∷ answers_of window ms (after_received (Some window) m s)

-- three came, for which 8 bytes are kept
abbrev pub three_came : Messages
three_came = came 8 (codes "hello" ∷ codes "abc" ∷ codes "defg" ∷ []) no_messages

-- what so many reads give
abbrev pub read_each : ℕ → Messages → List (Option (List ℕ))
read_each zero s = []
read_each (suc n) s = oldest s.incoming ∷ read_each n (after_recv s)
