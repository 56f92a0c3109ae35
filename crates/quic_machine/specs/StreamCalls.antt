-- The calls of the application on streams (RFC 9000, sections 2 and 3): what each may be answered,
-- and what it leaves. Each is a call of the streams, with the end open or not.
use Rattle.std.specs.Prelude.{ℕ, ◌≡◌, ◌⊎◌, Bool, true, false, List, length, Result, Ok, Err}
use Rattle.quic_streams_parts.specs.declared.answers.WriteError.TheVariants as write_errors
use Rattle.quic_streams_parts.specs.declared.answers.FinishError.TheVariants as finish_errors
use Rattle.quic_streams_parts.specs.declared.answers.UpdateError.TheVariants as update_errors
use Rattle.quic_streams_parts.specs.declared.answers.ReadableError.TheVariants as readable_errors
use Rattle.quic_streams_state.specs.declared.state.StreamsState.{StreamsState}
use Rattle.quic_streams_state.specs.State.{Streams}
use Rattle.quic_streams_state.specs.Opening.{open_answer, after_open, accept_answer, after_accept}
use Rattle.quic_streams_state.specs.Writing.{write_answer, after_write, write_chunks_answer, after_write_chunks, finish_answer, finished_by, reset_answer, after_reset, set_priority_answer, after_set_priority}
use Rattle.quic_streams_state.specs.Reading.{read_answer, told_bytes, after_read_begun, stop_answer, after_stop, received_reset_answer, after_received_reset}
use Rattle.quic_machine.specs.declared.run.Call.{Call}
use Rattle.quic_machine.specs.declared.run.Call.TheVariants as calls
use Rattle.quic_machine.specs.declared.run.Answer.{Answer}
use Rattle.quic_machine.specs.declared.run.Answer.TheVariants as answers
use Rattle.quic_machine.specs.Calls.{AreNexts, after_reads}

-- whether a call is one on streams
abbrev pub is_on_streams : Call → Bool
is_on_streams (calls.Open dir) = true
is_on_streams (calls.Accept dir) = true
is_on_streams (calls.Write id bytes) = true
is_on_streams (calls.WriteChunks id chunks) = true
is_on_streams (calls.Finish id) = true
is_on_streams (calls.Reset id code) = true
is_on_streams (calls.SetPriority id priority) = true
is_on_streams (calls.Read read) = true
is_on_streams (calls.Stop id code) = true
is_on_streams (calls.ReceivedReset id) = true
is_on_streams call = false

-- what a read is answered: the stream can't be read, or each `next` answers in turn; to begin it
-- may lack memory
abbrev pub IsRead : StreamsState → ℕ → Bool → List ℕ → Answer → Type 0
IsRead s id ordered mosts (answers.Read (Ok nexts)) = (read_answer s id ordered ≡ Ok tt) × AreNexts told_bytes (after_read_begun s id ordered) id mosts nexts
IsRead s id ordered mosts (answers.Read (Err error)) = (read_answer s id ordered ≡ Err error) ⊎ (error ≡ readable_errors.Memory)
IsRead s id ordered mosts a = ⊥

-- what a call on streams may be answered: what the streams say, or that memory lacks
abbrev pub IsStreamAnswer : Bool → StreamsState → Call → Answer → Type 0
IsStreamAnswer is_open s (calls.Open dir) a = a ≡ answers.Open (open_answer is_open dir s)
IsStreamAnswer is_open s (calls.Accept dir) a = a ≡ answers.Accept (accept_answer dir s)
IsStreamAnswer is_open s (calls.Write id bytes) a = (a ≡ answers.Write (write_answer is_open s id (length bytes))) ⊎ (a ≡ answers.Write (Err write_errors.Memory))
IsStreamAnswer is_open s (calls.WriteChunks id chunks) a = (a ≡ answers.WriteChunks (write_chunks_answer is_open s id chunks.items)) ⊎ (a ≡ answers.WriteChunks (Err write_errors.Memory))
IsStreamAnswer is_open s (calls.Finish id) a = (a ≡ answers.Finish (finish_answer s id)) ⊎ (a ≡ answers.Finish (Err finish_errors.Memory))
IsStreamAnswer is_open s (calls.Reset id code) a = (a ≡ answers.Reset (reset_answer s id)) ⊎ (a ≡ answers.Reset (Err update_errors.Memory))
IsStreamAnswer is_open s (calls.SetPriority id priority) a = (a ≡ answers.SetPriority (set_priority_answer s id)) ⊎ (a ≡ answers.SetPriority (Err update_errors.Memory))
IsStreamAnswer is_open s (calls.Read read) a = IsRead s read.id read.ordered read.nexts.items a
IsStreamAnswer is_open s (calls.Stop id code) a = (a ≡ answers.Stop (stop_answer s id)) ⊎ (a ≡ answers.Stop (Err update_errors.Memory))
IsStreamAnswer is_open s (calls.ReceivedReset id) a = a ≡ answers.ReceivedReset (received_reset_answer s id)
IsStreamAnswer is_open s call a = ⊥

-- what a call leaves that is answered so: an error changes nothing
abbrev pub if_ok : {A E : Type 0} → Result A E → Streams → Streams → Streams
if_ok (Ok x) after before = after
if_ok (Err e) after before = before

-- what a call on streams leaves, by its answer
abbrev pub after_on_streams : Bool → Streams → Call → Answer → Streams
after_on_streams is_open t (calls.Open dir) a = record t { state = after_open is_open dir t.state }
after_on_streams is_open t (calls.Accept dir) a = record t { state = after_accept dir t.state }
after_on_streams is_open t (calls.Write id bytes) (answers.Write answer) = after_write is_open answer t.state t.pending id bytes
after_on_streams is_open t (calls.WriteChunks id chunks) (answers.WriteChunks answer) = after_write_chunks is_open answer t.state t.pending id chunks.items
after_on_streams is_open t (calls.Finish id) (answers.Finish answer) = record t { state = finished_by answer t.state id }
after_on_streams is_open t (calls.Reset id code) (answers.Reset answer) = if_ok answer (after_reset t.state t.pending id code) t
after_on_streams is_open t (calls.SetPriority id priority) (answers.SetPriority answer) = if_ok answer (record t { state = after_set_priority t.state id priority }) t
after_on_streams is_open t (calls.Read read) (answers.Read (Ok nexts)) = after_reads t read.id read.ordered read.nexts.items nexts
after_on_streams is_open t (calls.Stop id code) (answers.Stop answer) = if_ok answer (after_stop t.state t.pending id code) t
after_on_streams is_open t (calls.ReceivedReset id) a = after_received_reset t.state t.pending id
after_on_streams is_open t call a = t
