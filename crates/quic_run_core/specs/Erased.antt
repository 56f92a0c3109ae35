-- A script less the lines that change nothing.
use Rattle.std.specs.Prelude.{◌≡◌, ◌||◌, ℕ, Bool, if◌then◌else◌, eqb, List, [], ◌∷◌, ◌++◌, codes, Option, IfSome}
use Rattle.std.specs.List.{list_any, starts_with, ends_with}
use Rattle.quic_wire_core.specs.declared.stream_id.Side.TheVariants.{Client, Server}
use Rattle.quic_machine.specs.declared.answers.DropReason.{DropReason}
use Rattle.quic_machine.specs.declared.answers.DropReason.TheVariants as drops
use Rattle.quic_lines.specs.Language.{said}
use Rattle.quic_lines.specs.LineByLine.{lines_of}
use Rattle.quic_lines.specs.Printed.{line_feed, reason_text}
use Rattle.quic_run_core.specs.Scripts.{Stage, first_stage, heading, Does}

-- why a datagram is dropped that doesn't open, came before, or came to a client from elsewhere
abbrev pub shut_out : List DropReason
shut_out = drops.TooShort ∷ drops.NotShort ∷ drops.FixedBit ∷ drops.UnknownId ∷ drops.NotOpened ∷ drops.KeyPhase ∷ drops.Duplicate ∷ drops.Address ∷ []

-- whether a line that prints this delivers such a datagram
abbrev pub is_shut_out : List ℕ → Bool
is_shut_out text = list_any (λ reason. ends_with eqb text (codes " deliver dropped " ++ (reason_text reason ++ line_feed))) shut_out

-- whether a line that prints this changes nothing: it injects bytes, or delivers such a datagram
abbrev pub is_left_out : List ℕ → Bool
is_left_out text = list_any (λ side. starts_with eqb text (heading side (codes "inject"))) (Client ∷ Server ∷ []) || is_shut_out text

-- what stays of a line that prints this
abbrev pub line_kept : List ℕ → List ℕ → List ℕ
line_kept text line = if is_left_out text then [] else line ++ line_feed

-- lines that are run in turn from a stage, what stays of them, and the stage behind them
abbrev pub IsErased : Stage → List (List ℕ) → List ℕ → Stage → Type 0
IsErased s [] kept t = (kept ≡ []) × (t ≡ s)
IsErased s (line ∷ lines) kept t = (text : List ℕ) × (mid : Stage) × (rest : List ℕ) × Does (said line) s text mid × IsErased mid lines rest t × (kept ≡ line_kept text line ++ rest)

-- all lines of a script were run, and this stays of them
abbrev pub ErasedAll : Option (List ℕ) → List ℕ → Type 0
ErasedAll script kept = (done : List (List ℕ)) × (stage : Stage) × IsErased first_stage done kept stage × IfSome script (λ bytes. lines_of bytes ≡ done)
