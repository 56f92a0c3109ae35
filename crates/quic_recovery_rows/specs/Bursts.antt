-- A pacer at worked values, where round trips take 50 ms. Times are in nanoseconds, sizes in bytes.
use Rattle.std.specs.Prelude.{ℕ, zero, suc, Bool, true, is_none, ◌&&◌}
use Rattle.quic_congestion.specs.Pacer.{Pacing, Ask, after_ask, answer_of, after_datagram}

-- how long a round trip takes
abbrev pub trip : ℕ
trip = 50000000

-- so many bytes are to go at 0, by the size of datagrams and the window
abbrev pub asks : ℕ → ℕ → ℕ → Ask
asks bytes size window = record { rtt = trip; bytes = bytes; size = size; window = window; moment = 0 }

-- a datagram of 1000 bytes is to go at a moment
abbrev pub asks_at : ℕ → Ask
asks_at moment = record { rtt = trip; bytes = 1000; size = 1000; window = 2000000; moment = moment }

-- the pacer after such a datagram went
abbrev pub after_one : ℕ → Pacing → Pacing
after_one moment p = after_datagram (after_ask p (asks_at moment)) 1000

-- whether so many go at once, one behind another
unfoldable pub go_at_once : ℕ → ℕ → Pacing → Bool
go_at_once zero moment p = true
go_at_once (suc n) moment p = is_none (answer_of p (asks_at moment)) && go_at_once n moment (after_one moment p)

-- the pacer once they went, and it was asked for one more
unfoldable pub behind : ℕ → ℕ → Pacing → Pacing
behind zero moment p = p
behind (suc n) moment p = behind n moment (after_one moment p)
