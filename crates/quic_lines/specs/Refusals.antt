-- Why a line can't be run, and how lines end there.
use Rattle.std.specs.Prelude.{ℕ}
use Rattle.quic_machine.specs.declared.answers.ConfigError.{ConfigError}
use Rattle.quic_machine.specs.declared.answers.ConfigError.TheVariants.{Parameters, IdLength, Size, Window, KeyLimit, FirstSample, Memory}
use Rattle.quic_lines.specs.declared.error.ScriptError.{ScriptError}
use Rattle.quic_lines.specs.declared.error.ScriptError.TheVariants as endings
use Rattle.quic_lines.specs.declared.script.LineError.{LineError}
use Rattle.quic_lines.specs.declared.script.LineError.TheVariants.{BadCommand, OutOfMemory}

-- ends that can't be made are a bad command, but for want of memory
abbrev pub line_error : ConfigError → LineError
line_error Parameters = BadCommand
line_error IdLength = BadCommand
line_error Size = BadCommand
line_error Window = BadCommand
line_error KeyLimit = BadCommand
line_error FirstSample = BadCommand
line_error Memory = OutOfMemory

-- how lines end where the one of this number can't be run
abbrev pub script_error : ℕ → LineError → ScriptError
script_error number BadCommand = endings.BadCommand number
script_error number OutOfMemory = endings.OutOfMemory
