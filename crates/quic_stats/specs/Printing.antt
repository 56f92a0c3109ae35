-- What is printed of statistics: a line for each figure.
use Rattle.std.specs.Prelude.{ℕ, List, ◌++◌, codes, decimal}
use Rattle.quic_time.specs.Printing.{duration_text}
use Rattle.quic_stats.specs.declared.drops.DropStats.{DropStats}
use Rattle.quic_stats.specs.declared.udp.UdpStats.{UdpStats}

-- a line: a name behind that of the part that it stands in, and what it has
abbrev pub line_text : List ℕ → List ℕ → List ℕ → List ℕ
line_text part name text = part ++ (name ++ (codes " " ++ (text ++ codes "\n")))

-- a figure
abbrev pub figure_text : List ℕ → List ℕ → ℕ → List ℕ
figure_text part name n = line_text part name (decimal n)

-- a length of time
abbrev pub length_text : List ℕ → List ℕ → ℕ → List ℕ
length_text part name n = line_text part name (duration_text n)

-- datagrams
abbrev pub udp_text : List ℕ → UdpStats → List ℕ
udp_text part s = figure_text part (codes "datagrams") s.datagrams ++ (figure_text part (codes "bytes") s.bytes ++ figure_text part (codes "ios") s.ios)

-- datagrams that were dropped before their packet was opened: those whose header can't be read or names no ID
abbrev pub headers_text : List ℕ → DropStats → List ℕ
headers_text part s = figure_text part (codes "too_short") s.too_short ++ (figure_text part (codes "not_short") s.not_short ++ (figure_text part (codes "fixed_bit") s.fixed_bit ++ figure_text part (codes "unknown_id") s.unknown_id))

-- datagrams that were dropped for their packet
abbrev pub packets_text : List ℕ → DropStats → List ℕ
packets_text part s = figure_text part (codes "not_opened") s.not_opened ++ (figure_text part (codes "key_phase") s.key_phase ++ figure_text part (codes "duplicate") s.duplicate)

-- datagrams that were dropped for the state of the endpoint
abbrev pub states_text : List ℕ → DropStats → List ℕ
states_text part s = figure_text part (codes "closing") s.closing ++ (figure_text part (codes "drained") s.drained ++ figure_text part (codes "failed") s.failed)

-- datagrams that were dropped
abbrev pub drops_text : List ℕ → DropStats → List ℕ
drops_text part s = headers_text part s ++ (packets_text part s ++ states_text part s)
