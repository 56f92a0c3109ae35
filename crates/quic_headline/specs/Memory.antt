-- Where answers say that memory lacks.
use Rattle.std.specs.Prelude.{◌≡◌, Bool, true, false, Option, Result, Ok, Err}
use Rattle.std.specs.List.{list_any}
use Rattle.quic_assembler.specs.declared.assembler.Chunk.{Chunk}
use Rattle.quic_messages.specs.declared.errors.SendDatagramError.TheVariants as send_errors
use Rattle.quic_streams_parts.specs.declared.answers.WriteError.TheVariants as write_errors
use Rattle.quic_streams_parts.specs.declared.answers.FinishError.TheVariants as finish_errors
use Rattle.quic_streams_parts.specs.declared.answers.UpdateError.TheVariants as update_errors
use Rattle.quic_streams_parts.specs.declared.answers.ReadableError.TheVariants as readable_errors
use Rattle.quic_streams_parts.specs.declared.answers.ReadError.{ReadError}
use Rattle.quic_streams_parts.specs.declared.answers.ReadError.TheVariants as read_errors
use Rattle.quic_machine.specs.declared.answers.NextIdError.TheVariants as next_errors
use Rattle.quic_machine.specs.declared.answers.Received.TheVariants as receives
use Rattle.quic_machine.specs.declared.run.Answer.{Answer}
use Rattle.quic_machine.specs.declared.run.Answer.TheVariants as answers
use Rattle.quic_headline.specs.Runs.{Run}

-- whether a `next` of a read says so
abbrev pub next_lacks : Result (Option Chunk) ReadError → Bool
next_lacks (Err read_errors.Memory) = true
next_lacks answer = false

-- Whether an answer says so: of a call of the application, or of a poll, a timeout, a delivery or an
-- injection, at which its end fails, or had failed before.
abbrev pub lacks : Answer → Bool
lacks (answers.Write (Err write_errors.Memory)) = true
lacks (answers.WriteChunks (Err write_errors.Memory)) = true
lacks (answers.Finish (Err finish_errors.Memory)) = true
lacks (answers.Reset (Err update_errors.Memory)) = true
lacks (answers.SetPriority (Err update_errors.Memory)) = true
lacks (answers.Read (Err readable_errors.Memory)) = true
lacks (answers.Read (Ok nexts)) = list_any next_lacks nexts
lacks (answers.Stop (Err update_errors.Memory)) = true
lacks (answers.Send (Err send_errors.Memory)) = true
lacks (answers.UseNextId (Err next_errors.Memory)) = true
lacks (answers.Poll (Err failed)) = true
lacks (answers.Timeout (Err failed)) = true
lacks (answers.Deliver receives.Failed) = true
lacks (answers.Inject receives.Failed) = true
lacks a = false

-- no answer of a run says so
abbrev pub FindsMemory : Run → Type 0
FindsMemory r = list_any lacks r.answers ≡ false
