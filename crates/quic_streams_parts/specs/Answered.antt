-- What a STREAM frame is answered, where memory may lack.
use Rattle.std.specs.Prelude.{◌≡◌, Option, Some, None, Result, Ok, Err}
use Rattle.quic_streams_parts.specs.declared.answers.Breach.{Breach}
use Rattle.quic_streams_parts.specs.declared.answers.ReceivedError.{ReceivedError}
use Rattle.quic_streams_parts.specs.declared.answers.ReceivedError.TheVariants as errors

-- the answer is this breach, or none, unless memory lacked
abbrev pub AnswersBreach : Result (Unit {0}) ReceivedError → Option Breach → Type 0
AnswersBreach (Ok x) breach = breach ≡ None
AnswersBreach (Err (errors.Breach b)) breach = breach ≡ Some b
AnswersBreach (Err errors.Memory) breach = Unit {0}

-- a fact, unless memory lacked
abbrev pub UnlessMemory : Result (Unit {0}) ReceivedError → Type 0 → Type 0
UnlessMemory (Ok x) P = P
UnlessMemory (Err (errors.Breach b)) P = P
UnlessMemory (Err errors.Memory) P = Unit {0}

-- a fact, where memory lacked
abbrev pub OnMemory : Result (Unit {0}) ReceivedError → Type 0 → Type 0
OnMemory (Ok x) P = Unit {0}
OnMemory (Err (errors.Breach b)) P = Unit {0}
OnMemory (Err errors.Memory) P = P
