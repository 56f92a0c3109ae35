-- What is seen of a stretch: pieces one behind the other, whose bytes stand in one buffer.
use Rattle.std.specs.Prelude.{◌≡◌, ℕ, ◌-◌, ◌*◌, ◌/◌, ◌<◌, ◌≤◌, List, [], ◌∷◌, ◌++◌, length}
use Rattle.quic_sets.specs.Parts.{Part}
use Rattle.quic_send_buffer.specs.KeptBytes.{run_of}
use Rattle.quic_send_buffer.specs.declared.send_buffer.stretch.Store.{Store}
use Rattle.quic_send_buffer.specs.declared.send_buffer.stretch.Store.TheVariants.{One, Many}

-- the pieces of a run that ends at an offset
abbrev pub run_to : ℕ → ℕ → List ℕ → List Part
run_to end each bytes = run_of (length bytes / each) (end - length bytes) each bytes

-- the pieces of a stretch that does
abbrev pub parts_in : ℕ → Store → List Part
parts_in end (One bytes) = (end, bytes) ∷ []
parts_in end (Many run) = run_to end run.each run.bytes

-- it has a piece, none is empty, and all are whole
pub record IsRun (end each : ℕ) (bytes : List ℕ) : Type 0 where
  pub filled : 0 < each
  pub some : 0 < length bytes / each
  pub whole : length bytes / each * each ≡ length bytes
  pub placed : length bytes ≤ end

abbrev pub IsStretch : ℕ → Store → Type 0
IsStretch end (One bytes) = (0 < length bytes) × (length bytes ≤ end)
IsStretch end (Many run) = IsRun end run.each run.bytes

-- one more piece, as long as those before, stands behind them
abbrev pub IsGrown : List ℕ → Store → Store → Type 0
IsGrown piece old (One bytes) = ⊥
IsGrown piece (One first) (Many run) = (run.each ≡ length piece) × (length first ≡ length piece) × (run.bytes ≡ first ++ piece)
IsGrown piece (Many before) (Many run) = (run.each ≡ length piece) × (before.each ≡ length piece) × (run.bytes ≡ before.bytes ++ piece)
