-- Each packet of an honest end passes at the other, where the limits that it was told are those
-- that the other told: the parts put together, and the clauses.
use Rattle.std.proofs.Common.{◌≡◌, ℕ, ◌≤◌}
use Rattle.quic_machine.specs.declared.answers.State.TheVariants as states
use Rattle.quic_machine.specs.Machine.{World}
use Rattle.quic_headline.specs.Runs.{Run}
use Rattle.quic_headline.specs.Causes.{NoBlame, TakenOrTooMany}
use Rattle.quic_headline.specs.Headline.{IsHonest, IsRun}
use Rattle.quic_headline.proofs.Places.Parties.{Party}
use Rattle.quic_headline.proofs.Places.Groups.{Way, Nothing, And, Group, both, beside}
use Rattle.quic_headline.proofs.Halves.Ghosts.{IsWriting}
use Rattle.quic_headline.proofs.Halves.Writer.{grows_behind}
use Rattle.quic_headline.proofs.Causes.Blameless as blameless
use Rattle.quic_headline.proofs.Causes.Pieces.{Held}
use Rattle.quic_headline.proofs.Channel.Passing.{PassesAt, SizesHold}
use Rattle.quic_headline.proofs.Channel.Received.{Allows, Stays}
use Rattle.quic_headline.proofs.Channel.Told.{stays_frame}
use Rattle.quic_headline.proofs.Channel.Counts.{Ids, ids_group}
use Rattle.quic_headline.proofs.Channel.Messages.{MessagesFit, messages_group}
use Rattle.quic_headline.proofs.Channel.IdsAgree.{IdsAgree, agree_group}
use Rattle.quic_headline.proofs.Channel.AllStreams.{size_in, AllStreams, all_streams_group}
use Rattle.quic_headline.proofs.Channel.Assembled.{FitsOpen, sizes_stand}
use Rattle.quic_headline.proofs.Channel.Passes.{passing_group}

-- all that is known of the ends before
abbrev pub Before : Way
Before = And Nothing Held

-- what was written, and said so
pub writing : IsWriting Before
writing = record {
  packets = λ x y h. h.1.0.0.0.0;
  written = λ x y h. h.1.0.0.0.1.0.writes.keeps.holds;
  says = λ x y h. h.1.0.0.0.1.0.says;
  grows = λ x y call a c. grows_behind Before (λ x y h. h.1.0.0.0.0) x y call a c c.gives.1.0.0.0.1.0;
}

-- What is known of limits: while y is open, it lets come what x was told of all streams, and what x
-- wrote on each, and stays within what it told.
pub record LimitsHold (W : Way) : Type 1 where
  pub group : Group Before W
  pub limit : (x y : Party) → W x y → y.end.closing.state ≡ states.Open → x.end.streams.sending.limit ≤ y.end.streams.receiving.announced
  pub allows : (x y : Party) → W x y → y.end.closing.state ≡ states.Open → (id : ℕ) → Allows y.end.streams id (size_in x.told id)
  pub stays : (x y : Party) → W x y → y.end.closing.state ≡ states.Open → Stays y.end.streams y.end.streams

module _ (W : Way) (limits : LimitsHold W) where
  -- ids and messages, sums and limits
  abbrev Names : Way
  Names = And Ids (And MessagesFit IdsAgree)

  abbrev Parts : Way
  Parts = And Names (And AllStreams W)

  parts : Group Before Parts
  parts = beside Before Names (And AllStreams W)
      (beside Before Ids (And MessagesFit IdsAgree) (ids_group Before (record { packets = writing.packets; written = writing.written }) (λ x y h. h.1.0.0.0.1.0.writes.keeps.few))
      (beside Before MessagesFit IdsAgree (messages_group Before writing.packets) (agree_group Before writing.packets)))
      (beside Before AllStreams W (all_streams_group Before writing) limits.group)

  sizes : SizesHold (And Before Parts) FitsOpen
  sizes = sizes_stand (And Before Parts) (record {
    all = λ x y h. h.1.1.0;
    reads = λ x y h. h.0.1.0.1;
    says = λ x y h. h.0.1.0.0.0.1.0.says;
    small = λ x y h. h.0.1.0.0.0.1.1.0.small;
    limit = λ x y h. limits.limit x y h.1.1.1;
    allows = λ x y h. limits.allows x y h.1.1.1;
    stays = λ x y h. limits.stays x y h.1.1.1;
    frame = λ x y h f e i. stays_frame y.end.streams f e i;
  })

  -- so each packet passes
  passing : blameless.IsPassing (And Parts PassesAt)
  passing = record {
    group = both Before Parts PassesAt parts (passing_group (And Before Parts) (λ x y h. h.0.1.0.0.0.0) (λ x y h. h.1.0.0) (λ x y h. h.1.0.1.0) (λ x y h. h.1.0.1.1) FitsOpen sizes);
    passes = λ x y h. h.1.1;
  }

  pub no_blame : (r : Run) (end : World) → IsHonest r → IsRun r end → NoBlame r
  no_blame = blameless.no_blame (And Parts PassesAt) passing

  pub taken_or_too_many : (r : Run) (end : World) → IsHonest r → IsRun r end → TakenOrTooMany r
  taken_or_too_many = blameless.taken_or_too_many (And Parts PassesAt) passing
