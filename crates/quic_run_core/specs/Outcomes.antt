-- How a script ends: which of its lines were run, and what was printed of them. A script's bytes,
-- and those that a writer holds, are there where they are known.
use Rattle.std.specs.Prelude.{ℕ, List, [], Option}
use Rattle.quic_lines.specs.declared.error.ScriptError.{ScriptError}
use Rattle.quic_lines.specs.LineByLine as lines
use Rattle.quic_run_core.specs.Scripts.{Stage, first_stage, script_rules}

-- Lines were run in turn from the first stage on, and what they print was appended, and nothing
-- else.
abbrev pub HasRun : List (List ℕ) → Stage → Option (List ℕ) → Option (List ℕ) → Type 0
HasRun done stage old new = lines.HasRun script_rules first_stage [] done stage old new

-- all lines of a script were run
abbrev pub RanAll : Option (List ℕ) → Option (List ℕ) → Option (List ℕ) → Type 0
RanAll script old new = lines.RanAll script_rules first_stage [] script old new

-- How a script ends by an error. Where the writer failed, nothing is known of what it took.
abbrev pub Stopped : ScriptError → Option (List ℕ) → Option (List ℕ) → Option (List ℕ) → Type 0
Stopped e script old new = lines.Stopped script_rules e first_stage [] script old new
