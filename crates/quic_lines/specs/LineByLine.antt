-- How lines are run one by one, whatever language they are in. The bytes of the lines, and those
-- that a writer holds, are there where they are known.
use Rattle.std.specs.Prelude.{◌≡◌, ◌+◌, ◌<◌, ◌==◌, ℕ, List, [], ◌∷◌, ◌++◌, length, Option, Some, None, IfSome}
use Rattle.std.specs.List.{slice_split}
use Rattle.std.specs.Io.KnownBytes.{Appends}
use Rattle.quic_lines.specs.declared.error.ScriptError.{ScriptError}
use Rattle.quic_lines.specs.declared.error.ScriptError.TheVariants.{BadCommand, ReadFault, WriteFault, OutOfMemory}

-- ---- the lines of bytes

-- what stands behind the last line feed is a line where it isn't empty
abbrev pub last_line : List ℕ → List (List ℕ)
last_line [] = []
last_line (b ∷ bs) = (b ∷ bs) ∷ []

-- the lines that are made of the parts between line feeds
abbrev pub ended : List (List ℕ) → List (List ℕ)
ended [] = []
ended (x ∷ []) = last_line x
ended (x ∷ y ∷ more) = x ∷ ended (y ∷ more)

-- the lines of bytes, each ended by a line feed, which the last may lack
abbrev pub lines_of : List ℕ → List (List ℕ)
lines_of bytes = ended (slice_split (λ b. b == 10) bytes)

-- these are the first lines of bytes
abbrev pub Begins : Option (List ℕ) → List (List ℕ) → Type 0
Begins None done = Unit {0}
Begins (Some bytes) done = (rest : List (List ℕ)) × (lines_of bytes ≡ done ++ rest)

-- ---- a language

-- What a language says of lines: what a line prints at a stage, and the stage behind it; and that a
-- line can't be run at a stage.
pub record LineRules (S : Type 0) : Type 1 where
  pub Does : List ℕ → S → List ℕ → S → Type 0
  pub IsRefused : List ℕ → S → Type 0

-- No line of more than 2^20 bytes, of which no more need be read, can be run.
pub record RefusesLong {S : Type 0} (rules : LineRules S) : Type 0 where
  pub refused : (line : List ℕ) (s : S) → 1048576 < length line → rules.IsRefused line s
  pub undone : (line : List ℕ) (s : S) (text : List ℕ) (t : S) → 1048576 < length line → rules.Does line s text t → ⊥

-- ---- lines that are run

module _ {S : Type 0} (rules : LineRules S) where
  -- lines that are run in turn from a stage, what they print, and the stage behind them
  abbrev pub IsRun : S → List (List ℕ) → List ℕ → S → Type 0
  IsRun s [] text t = (text ≡ []) × (t ≡ s)
  IsRun s (line ∷ lines) text t = (first : List ℕ) × (mid : S) × (rest : List ℕ) × rules.Does line s first mid × IsRun mid lines rest t × (text ≡ first ++ rest)

  -- Lines were run in turn from a stage on, and what they print was appended behind a first text,
  -- and nothing else.
  pub record HasRun (from : S) (before : List ℕ) (done : List (List ℕ)) (stage : S) (old new : Option (List ℕ)) : Type 0 where
    pub text : List ℕ
    pub run : IsRun from done text stage
    pub printed : Appends old new (before ++ text)

  -- all lines were run
  abbrev pub RanAll : S → List ℕ → Option (List ℕ) → Option (List ℕ) → Option (List ℕ) → Type 0
  RanAll from before script old new = (done : List (List ℕ)) × (stage : S) × HasRun from before done stage old new × IfSome script (λ bytes. lines_of bytes ≡ done)

  -- the first lines were run
  abbrev pub RanSome : S → List ℕ → Option (List ℕ) → Option (List ℕ) → Option (List ℕ) → Type 0
  RanSome from before script old new = (done : List (List ℕ)) × (stage : S) × HasRun from before done stage old new × Begins script done

  -- the lines before this one were run, and this one can't be
  abbrev pub StopsAt : ℕ → S → List ℕ → Option (List ℕ) → Option (List ℕ) → Option (List ℕ) → Type 0
  StopsAt number from before script old new = (done : List (List ℕ)) × (stage : S) × (bad : List ℕ) × HasRun from before done stage old new × rules.IsRefused bad stage × (number ≡ length done + 1) × Begins script (done ++ bad ∷ [])

  -- How lines end by an error. Where the writer failed, nothing is known of what it took.
  abbrev pub Stopped : ScriptError → S → List ℕ → Option (List ℕ) → Option (List ℕ) → Option (List ℕ) → Type 0
  Stopped (BadCommand number) from before script old new = StopsAt number from before script old new
  Stopped ReadFault from before script old new = RanSome from before script old new
  Stopped WriteFault from before script old new = Unit {0}
  Stopped OutOfMemory from before script old new = RanSome from before script old new
