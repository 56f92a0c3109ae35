-- The rules of limits and sizes, put together: what fits the streams of an end, and lets each frame
-- of the other pass.
use Rattle.std.proofs.Common.{◌≡◌, ℕ, ◌^◌, ◌<◌, ◌≤◌, Bool, true, false, arith}
use Rattle.quic_wire.specs.Value.{FrameValue, stream, reset_stream}
use Rattle.quic_streams_laws.specs.ReadsLaws.{stands_within}
use Rattle.quic_streams_state.specs.declared.state.StreamsState.{StreamsState}
use Rattle.quic_streams_state.specs.Opening.{opens, opened_by, opened_if}
use Rattle.quic_machine.specs.declared.answers.State.TheVariants as states
use Rattle.quic_machine.specs.End.{End}
use Rattle.quic_machine.specs.Receive.{take_frame}
use Rattle.quic_headline.specs.Runs.{In}
use Rattle.quic_headline.specs.Observer.{Sent}
use Rattle.quic_headline.proofs.Places.Parties.{Party}
use Rattle.quic_headline.proofs.Places.Groups.{Way}
use Rattle.quic_headline.proofs.Halves.Ghosts.{wrote, SaysOf, Saying}
use Rattle.quic_headline.proofs.Halves.ReadGroup.{ReadsHold}
use Rattle.quic_headline.proofs.Channel.Passing.{IdsPass, SizesPass, SizesHold}
use Rattle.quic_headline.proofs.Channel.Received.{Allows, allows_half, Stays}
use Rattle.quic_headline.proofs.Channel.AllStreams.{size_in, AllStreams}
use Rattle.quic_headline.proofs.Channel.Sizes.{FitsWritten, written_fits, written_stays, LetsCome, WithinLimit, sizes_pass}

-- what fits the streams of y: they saw no more than x wrote, and no limit fell that y told
abbrev pub FitsAll : Party → Party → StreamsState → Type 0
FitsAll x y t = FitsWritten x y t × Stays y.end.streams t

-- What that rests on.
pub record LetsWrite (B : Way) : Type 1 where
  pub all : (x y : Party) → B x y → AllStreams x y
  pub reads : (x y : Party) → B x y → ReadsHold x y
  pub says : (x y : Party) → B x y → Saying x y
  -- the limit on all streams that x was told is small, and no more than y told
  pub small : (x y : Party) → B x y → x.end.streams.sending.limit < 2 ^ 62
  pub limit : (x y : Party) → B x y → y.end.closing.state ≡ states.Open → x.end.streams.sending.limit ≤ y.end.streams.receiving.announced
  -- what x wrote on a stream, y lets come
  pub allows : (x y : Party) → B x y → y.end.closing.state ≡ states.Open → (id : ℕ) → Allows y.end.streams id (size_in x.told id)
  -- the streams of y stay within what it told
  pub stays : (x y : Party) → B x y → y.end.closing.state ≡ states.Open → Stays y.end.streams y.end.streams
  pub frame : (x y : Party) → B x y → (f : FrameValue) (e : End) → Stays y.end.streams e.streams → Stays y.end.streams (take_frame f e).end.streams

-- an opened stream lets as much come
allows_opened : (b : Bool) (s : StreamsState) (id n : ℕ) → Allows s id n → Allows (opened_if b id s) id n
allows_opened true s id n a = a
allows_opened false s id n a = a

module _ (B : Way) (l : LetsWrite B) where
  -- a frame that says what was written is within the limit of its stream
  limits_let : (x y : Party) (b : B x y) (still : y.end.closing.state ≡ states.Open) (t : StreamsState) (i : FitsAll x y t) (lets : LetsCome x t) (f : FrameValue) → SaysOf (wrote x.told) f → WithinLimit x y (l.all x y b) t i.0 lets f
  limits_let x y b still t i lets (stream f) says = λ h part.
      let most = allows_half (opened_by t f.id) f.id (size_in x.told f.id) h part (allows_opened (opens t f.id) t f.id (size_in x.told f.id) (i.1.receives.allows f.id (size_in x.told f.id) (l.allows x y b still f.id))) in
      let fits = stands_within (wrote x.told f.id).bytes f.offset f.bytes says.stands in
      omega arith
  limits_let x y b still t i lets (reset_stream f) says = λ h part.
      let most = allows_half (opened_by t f.id) f.id (size_in x.told f.id) h part (allows_opened (opens t f.id) t f.id (size_in x.told f.id) (i.1.receives.allows f.id (size_in x.told f.id) (l.allows x y b still f.id))) in
      let whole = says.size in
      omega arith
  limits_let x y b still t i lets f says = tt

  -- so each frame that x gave passes
  pub sizes_hold : (x y : Party) (b : B x y) → y.end.closing.state ≡ states.Open → (s : Sent) → In s x.sents → (f : FrameValue) → In f s.frames → (t : StreamsState) → FitsAll x y t → IdsPass t f → SizesPass t f
  sizes_hold x y b still s among f carried t i allowed =
      let r = i.1.receives in
      let lets : LetsCome x t = (let told = l.limit x y b still in let more = r.more in let raised = r.announced in record { limit = omega arith; small = l.small x y b }) in
      let says = l.says x y b s among f carried in
      sizes_pass x y (l.all x y b) t i.0 lets f says allowed (limits_let x y b still t i lets f says)

-- what fits the streams of y while it is open
abbrev pub FitsOpen : Party → Party → StreamsState → Type 0
FitsOpen x y t = FitsAll x y t × (y.end.closing.state ≡ states.Open)

-- the part of limits and sizes
pub sizes_stand : (B : Way) → LetsWrite B → SizesHold B FitsOpen
sizes_stand B l = record {
  holds = λ x y b still. ((written_fits x y (l.all x y b) (l.reads x y b), l.stays x y b still), still);
  sizes = λ x y b s among f carried t i allowed. sizes_hold B l x y b i.1 s among f carried t i.0 allowed;
  stays = λ x y b s among f carried e i allowed. ((written_stays x y f e (l.says x y b s among f carried) i.0.0, l.frame x y b f e i.0.1), i.1);
}
