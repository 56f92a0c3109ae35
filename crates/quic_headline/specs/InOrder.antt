-- Streams are opened in the order of their ids (RFC 9000, section 2.1).
use Rattle.std.specs.Prelude.{ℕ, ◌≡◌, length, Some}
use Rattle.quic_wire_core.specs.declared.stream_id.Side.{Side}
use Rattle.quic_wire_core.specs.declared.stream_id.Dir.{Dir}
use Rattle.quic_wire_core.specs.StreamId.{stream_id}
use Rattle.quic_machine.specs.declared.run.Call.TheVariants as calls
use Rattle.quic_machine.specs.declared.run.Answer.TheVariants as answers
use Rattle.quic_headline.specs.Runs.{Run, until, AreServed}
use Rattle.quic_headline.specs.Headline.{IsAt}
use Rattle.quic_headline.specs.Undone.{opens}

-- a call opens the stream of its kind behind those that calls opened before, without a gap
abbrev pub OpensInOrder : Run → Type 0
OpensInOrder r = (side : Side) (i id : ℕ) (dir : Dir) → AreServed r i → IsAt r i side (calls.Open dir) (answers.Open (Some id)) → id ≡ stream_id side dir (length (opens dir (until r side i)))
