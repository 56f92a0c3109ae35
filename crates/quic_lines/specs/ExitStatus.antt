-- The exit status of the program.
use Rattle.std.specs.Prelude.{ℕ}
use Rattle.quic_lines.specs.declared.error.ScriptError.{ScriptError}
use Rattle.quic_lines.specs.declared.error.ScriptError.TheVariants.{BadCommand, ReadFault, WriteFault, OutOfMemory}

-- 2 for a line that isn't in the language, 1 for a fault
abbrev pub exit_status : ScriptError → ℕ
exit_status (BadCommand line) = 2
exit_status ReadFault = 1
exit_status WriteFault = 1
exit_status OutOfMemory = 1
