-- What a read answers at each `next`, and which reads may be made in order (RFC 9000, section 2.2).
use Rattle.std.specs.Prelude.{ℕ, ◌≤◌, ◌≡◌, min, true, false, List, [], ◌∷◌, length, Some, Ok, Err}
use Rattle.quic_wire_core.specs.declared.stream_id.Side.{Side}
use Rattle.quic_streams_parts.specs.declared.answers.ReadableError.TheVariants as readable_errors
use Rattle.quic_machine.specs.declared.run.ReadCall.{ReadCall}
use Rattle.quic_machine.specs.declared.run.Call.TheVariants as calls
use Rattle.quic_machine.specs.declared.run.Answer.TheVariants as answers
use Rattle.quic_headline.specs.Runs.{Run, Next, AreServed, until, only_in_order}
use Rattle.quic_headline.specs.Headline.{IsAt}

-- a chunk has no more bytes than its `next` asked for, and has one at least, where it asked for one
abbrev pub FitsNext : ℕ → Next → Type 0
FitsNext most (Ok (Some chunk)) = (min most 1 ≤ length chunk.bytes) × (length chunk.bytes ≤ most)
FitsNext most answer = Unit {0}

-- each `next` that was asked for is answered, in turn
abbrev pub AnswersEach : List ℕ → List Next → Type 0
AnswersEach [] [] = Unit {0}
AnswersEach (most ∷ mosts) (answer ∷ answers) = FitsNext most answer × AnswersEach mosts answers
AnswersEach mosts answers = ⊥

-- A read that may be made answers each `next`. One in order may be made, and isn't refused for its
-- order, exactly where all reads of the stream before it were made in order.
pub record ReadsAnswer (r : Run) : Type 0 where
  pub each : (side : Side) (i : ℕ) (read : ReadCall) (said : List Next) → AreServed r i → IsAt r i side (calls.Read read) (answers.Read (Ok said)) → AnswersEach read.nexts.items said
  pub in_order : (side : Side) (i : ℕ) (read : ReadCall) (said : List Next) → AreServed r i → IsAt r i side (calls.Read read) (answers.Read (Ok said)) → read.ordered ≡ true → only_in_order read.id (until r side i) ≡ true
  pub refused : (side : Side) (i : ℕ) (read : ReadCall) → AreServed r i → IsAt r i side (calls.Read read) (answers.Read (Err readable_errors.IllegalOrderedRead)) → (read.ordered ≡ true) × (only_in_order read.id (until r side i) ≡ false)
