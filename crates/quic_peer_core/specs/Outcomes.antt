-- How lines end: which of them were run, and what was printed of them, behind a text that came
-- first. The bytes of the lines, and those that a writer holds, are there where they are known.
use Rattle.std.specs.Prelude.{ℕ, List, Option}
use Rattle.quic_lines.specs.declared.error.ScriptError.{ScriptError}
use Rattle.quic_lines.specs.LineByLine as lines
use Rattle.quic_peer_core.specs.Peer.{first_stage, peer_rules}

-- all lines were run
abbrev pub RanAll : List ℕ → Option (List ℕ) → Option (List ℕ) → Option (List ℕ) → Type 0
RanAll before script old new = lines.RanAll peer_rules first_stage before script old new

-- How lines end by an error. Where the writer failed, nothing is known of what it took.
abbrev pub Stopped : ScriptError → List ℕ → Option (List ℕ) → Option (List ℕ) → Option (List ℕ) → Type 0
Stopped e before script old new = lines.Stopped peer_rules e first_stage before script old new
