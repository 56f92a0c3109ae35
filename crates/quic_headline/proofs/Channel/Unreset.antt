-- Behind a reset no STREAM frame of its stream goes, at each place of an honest run.
use Rattle.std.proofs.Common.{◌≡◌, ℕ, true, List, ◌∷◌, replicate, None, Some, Ok, subst, inl, inr}
use Rattle.quic_wire_core.specs.declared.stream_id.Side.{Side}
use Rattle.quic_wire_core.specs.StreamId.{other_side}
use Rattle.quic_wire.specs.Value.{FrameValue, StreamValue, stream, padding, connection_close, application_close}
use Rattle.quic_machine.specs.declared.run.Call.TheVariants as calls
use Rattle.quic_machine.specs.declared.run.Answer.{Answer}
use Rattle.quic_machine.specs.declared.run.Answer.TheVariants as answers
use Rattle.quic_machine.specs.Tracking.{TrackedPacket}
use Rattle.quic_machine.specs.Machine.{World, given_by}
use Rattle.quic_headline.specs.Runs.{Run, In, until, reset}
use Rattle.quic_headline.specs.Observer.{Sent, is_close}
use Rattle.quic_headline.specs.Headline.{IsHonest, IsRun}
use Rattle.quic_headline.specs.Polls.{GaveOne}
use Rattle.quic_headline.specs.Waited.{IsCloseAlone}
use Rattle.quic_headline.specs.Codes.{NothingBehindResets}
use Rattle.quic_headline.proofs.Places.Parties.{Party}
use Rattle.quic_headline.proofs.Places.Groups.{Way}
use Rattle.quic_headline.proofs.Places.Placed.{party_at}
use Rattle.quic_headline.proofs.Places.Everything as everything
use Rattle.quic_headline.proofs.Places.Theorems.{ready}
use Rattle.quic_headline.proofs.Halves.Ready.{Ready}
use Rattle.quic_headline.proofs.Halves.Wrote.{wrote}
use Rattle.quic_headline.proofs.Halves.Says.{CarriedSays, tracked_says}
use Rattle.quic_headline.proofs.Halves.Writer.{WritesHold, poll_goes}
use Rattle.quic_headline.proofs.Steps.Made.{MadeAt, made_at, polling, PollHolds, poll_holds}
use Rattle.quic_headline.proofs.Steps.Probing.{IsGiving, IsClosing, closing_alone}
use Rattle.quic_headline.proofs.Steps.Probing as probing
use Rattle.quic_headline.proofs.Waited.Clause.{in_padding}

-- what is known of the packets and the streams
abbrev All : Way
All = everything.All Ready ready

abbrev Streams : Way
Streams = everything.Streams Ready ready

-- a close is no STREAM frame, nor is PADDING
close_apart : (f : StreamValue) (g : FrameValue) → is_close g ≡ true → stream f ≡ g → ⊥
close_apart f (connection_close c) is same = let clash : stream f ≡ connection_close c = same in cc
close_apart f (application_close c) is same = let clash : stream f ≡ application_close c = same in cc
close_apart f g is same = cc

module _ (r : Run) (end : World) (honest : IsHonest r) (run : IsRun r end) (side : Side) (i now : ℕ) (gave : GaveOne r side i now) where
  abbrev answer : Answer
  answer = answers.Poll (Ok (Some gave.transmit))

  at : MadeAt r i side (calls.Poll now) answer
  at = made_at All (everything.all Ready ready) r end honest run i side (calls.Poll now) answer gave.poll gave.served

  abbrev w : World
  w = at.before

  h : PollHolds All r i side now answer w
  h = poll_holds All (everything.all Ready ready) r end honest run i side now answer w at.behind at.made

  abbrev x : Party
  x = polling r i w side h.sents

  abbrev y : Party
  y = party_at r i w (other_side side) h.theirs

  holds : WritesHold x y
  holds = h.gives.0.1.0

  -- what is tracked says what was written
  tracked : (n : ℕ) (t : TrackedPacket) → In (n, t) x.end.tracking.packets → CarriedSays (wrote x.told) t.carried
  tracked n t among = tracked_says (wrote x.told) x.sents holds.says x.end.tracking.packets h.gives.0.0.tracked n t among

  pub unreset : (f : StreamValue) → In (stream f) gave.sent.frames → reset f.id (until r side i) ≡ None
  unreset f among = elim (probing.either Streams (everything.all Ready ready) r end honest run side i now gave w at.behind at.made) [
    | inl gives ↦ (poll_goes x.policy x.end (given_by (other_side side) w) (wrote x.told) holds.writes tracked now (stream f) (subst (λ (s : Sent). In (stream f) s.frames) gives.sent among)).1
    | inr close ↦ absurd (closes (closing_alone x.policy x.end now gave.transmit gave.sent close))
  ]
    where
      closes : IsCloseAlone gave.sent → ⊥
      closes alone = apart (subst (λ (fs : List FrameValue). In (stream f) fs) alone.alone among)
        where
          apart : In (stream f) (alone.close ∷ replicate alone.zeros padding) → ⊥
          apart (inl is) = close_apart f alone.close alone.is is
          apart (inr more) = (let clash : stream f ≡ padding = in_padding (stream f) alone.zeros more in cc)

pub nothing_behind_resets : (r : Run) (end : World) → IsHonest r → IsRun r end → NothingBehindResets r
nothing_behind_resets r end honest run side i now gave f among = unreset r end honest run side i now gave f among
