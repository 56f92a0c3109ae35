-- What was done on the streams of an end, and read of them, by what was told at it; and that what
-- it sent says so.
use Rattle.std.specs.Prelude.{◌≡◌, ℕ, not, List, None}
use Rattle.quic_wire.specs.Value.{FrameValue, stream, reset_stream}
use Rattle.quic_machine.specs.declared.run.Call.{Call}
use Rattle.quic_machine.specs.declared.run.Answer.{Answer}
use Rattle.quic_streams_laws.specs.Written.{Wrote, Grows, IsStreamOf, IsResetOf, HoldsWritten}
use Rattle.quic_streams_laws.specs.Reads.{Reads}
use Rattle.quic_headline.specs.Runs.{Told, In, written, ended, reset, reads, only_in_order}
use Rattle.quic_headline.specs.Observer.{Sent}
use Rattle.quic_headline.proofs.Packets.Group.{PacketsHold}
use Rattle.quic_headline.proofs.Places.Parties.{Party, called}
use Rattle.quic_headline.proofs.Places.Groups.{Way, Calls}

-- what an application did on each stream
abbrev pub wrote : List Told → ℕ → Wrote
wrote told id = record { bytes = written id told; ended = ended id told; reset = reset id told }

-- what it read of each stream
abbrev pub read : List Told → ℕ → Reads
read told id = record { chunks = reads id told; unordered = not (only_in_order id told) }

-- a frame says what was done on its stream: what it brings of the bytes and the end, or how it was
-- reset
abbrev pub SaysOf : (ℕ → Wrote) → FrameValue → Type 0
SaysOf done (stream f) = IsStreamOf (done f.id) f
SaysOf done (reset_stream f) = IsResetOf (done f.id) f
SaysOf done f = Unit {0}

-- as it goes, a STREAM frame also is of a stream that wasn't reset
abbrev pub GoesOf : (ℕ → Wrote) → FrameValue → Type 0
GoesOf done (stream f) = IsStreamOf (done f.id) f × ((done f.id).reset ≡ None)
GoesOf done (reset_stream f) = IsResetOf (done f.id) f
GoesOf done f = Unit {0}

pub goes_says : (done : ℕ → Wrote) (f : FrameValue) → GoesOf done f → SaysOf done f
goes_says done (stream f) goes = goes.0
goes_says done (reset_stream f) goes = goes
goes_says done f goes = tt

-- each frame that an end sent says what was done at it
abbrev pub Saying : Way
Saying x y = (s : Sent) → In s x.sents → (f : FrameValue) → In f s.frames → SaysOf (wrote x.told) f

-- What reading rests on: the packets between the ends; the one that gives holds what was written at
-- it, and says so; and what is done on a stream only grows by a call.
pub record IsWriting (B : Way) : Type 1 where
  pub packets : (x y : Party) → B x y → PacketsHold x y
  pub written : (x y : Party) → B x y → HoldsWritten (wrote x.told) x.end.streams
  pub says : (x y : Party) → B x y → Saying x y
  pub grows : (x y : Party) (call : Call) (a : Answer) → Calls B x y call a → (id : ℕ) → Grows (wrote x.told id) (wrote (called x y.given call a).told id)
