-- How many buffers a write of several is said to have taken up: a caller keeps the others.
use Rattle.std.specs.Prelude.{ℕ, suc, ◌<◌, ◌≤◌, List, length, take, Ok}
use Rattle.std.specs.declared.vec.Vec.{Vec}
use Rattle.std.specs.declared.alloc.Global.{Global}
use Rattle.quic_wire_core.specs.declared.stream_id.Side.{Side}
use Rattle.quic_streams_parts.specs.declared.answers.Written.{Written}
use Rattle.quic_machine.specs.declared.run.Call.TheVariants as calls
use Rattle.quic_machine.specs.declared.run.Answer.TheVariants as answers
use Rattle.quic_headline.specs.Runs.{Run, AreServed, joined}
use Rattle.quic_headline.specs.Headline.{IsAt}

-- So many of the first buffers lie within so many bytes, and one more, if there is one, doesn't.
pub record LieWithin (bytes : ℕ) (buffers : List (List ℕ)) (count : ℕ) : Type 0 where
  pub few : count ≤ length buffers
  pub within : length (joined (take count buffers)) ≤ bytes
  pub no_more : count < length buffers → bytes < length (joined (take (suc count) buffers))

-- a write of several buffers that takes bytes says how many of the buffers lie within these
abbrev pub BuffersAreCounted : Run → Type 0
BuffersAreCounted r = (side : Side) (i id : ℕ) (buffers : Vec (List ℕ) Global) (w : Written) → AreServed r i → IsAt r i side (calls.WriteChunks id buffers) (answers.WriteChunks (Ok w)) → LieWithin w.bytes buffers.items w.chunks
