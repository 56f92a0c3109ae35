-- What is written on the streams between two ends, and what waits to go of them, as one group over
-- the packets: what an end composes has a form.
use Rattle.std.proofs.Common.{ℕ, ◌<◌, ◌^◌, sym, subst}
use Rattle.quic_machine.specs.End.{End}
use Rattle.quic_machine.specs.PollCases.{ready_at}
use Rattle.quic_headline.proofs.Packets.Probes.{ready_state}
use Rattle.quic_headline.proofs.Halves.Kept.{Keeping}
use Rattle.quic_headline.proofs.Packets.MayGo.{AreReady, MayGo, may_go_spells, may_go_brings}
use Rattle.quic_headline.proofs.Packets.Group.{PacketsHold}
use Rattle.quic_headline.proofs.Places.Parties.{Party}
use Rattle.quic_headline.proofs.Places.Groups.{Way, And, Group, both}
use Rattle.quic_headline.proofs.Places.Together.{Spells}
use Rattle.quic_headline.proofs.Halves.Wrote.{wrote}
use Rattle.quic_headline.proofs.Halves.Writer.{WritesHold, writes_group}

-- what waits beside the bytes of streams may go, and the limit on all of them has a form
pub record GoesWell (e : End) : Type 0 where
  pub limit : e.streams.sending.limit < 2 ^ 62
  pub waits : AreReady e.streams.sending.halves.live e.waiting.frames

module _ (R : Way) (goes : (x y : Party) → PacketsHold x y → R x y → (now : ℕ) → GoesWell (ready_at x.end now).end) where
  -- what is written, and what else is known of the streams of the end that writes
  pub streams_spell : Spells (And WritesHold R)
  streams_spell = record {
    known = MayGo;
    spelling = may_go_spells;
    bringing = may_go_brings;
    holds = λ x y p h now. (
        let w = h.0 in
        let keeps = subst (Keeping (wrote x.told)) (sym (ready_state x.end now)) w.writes.keeps in
        let g : GoesWell (ready_at x.end now).end = goes x y p h.1 now in
        record { wrote = wrote x.told; streams = record { holds = keeps.holds; orderly = keeps.orderly; few = keeps.few; limit = g.limit }; waits = g.waits });
  }

  -- one group of both
  pub streams_group : Group (And PacketsHold WritesHold) R → Group PacketsHold (And WritesHold R)
  streams_group r = both PacketsHold WritesHold R (writes_group PacketsHold (λ x y p. p)) r
