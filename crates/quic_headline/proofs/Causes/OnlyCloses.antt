-- An end that isn't open behind a poll gave a close by it, or nothing: at each place of an honest
-- run.
use Rattle.std.proofs.Common.{◌≡◌, ℕ, suc, Some, Ok, sym, ap, ◌∙◌, inl, inr}
use Rattle.std.specs.Prelude.{◌≢◌}
use Rattle.quic_wire_core.specs.declared.stream_id.Side.{Side}
use Rattle.quic_machine.specs.declared.answers.State.TheVariants as states
use Rattle.quic_machine.specs.declared.run.Call.TheVariants as calls
use Rattle.quic_machine.specs.declared.run.Answer.{Answer}
use Rattle.quic_machine.specs.declared.run.Answer.TheVariants as answers
use Rattle.quic_machine.specs.Closing.{Closing}
use Rattle.quic_machine.specs.End.{End}
use Rattle.quic_machine.specs.Poll.{polled}
use Rattle.quic_machine.specs.Machine.{World, end_at, policy_at}
use Rattle.quic_headline.specs.Runs.{Run, state_at}
use Rattle.quic_headline.specs.Headline.{IsHonest, IsRun}
use Rattle.quic_headline.specs.Polls.{GaveOne}
use Rattle.quic_headline.specs.Waited.{IsCloseAlone}
use Rattle.quic_headline.specs.Closes.{ClosesGoAlone}
use Rattle.quic_headline.proofs.Places.Groups.{Way}
use Rattle.quic_headline.proofs.Places.Everything as everything
use Rattle.quic_headline.proofs.Places.Placed.{Placed, placed}
use Rattle.quic_headline.proofs.Places.Theorems.{ready}
use Rattle.quic_headline.proofs.Halves.Ready.{Ready}
use Rattle.quic_headline.proofs.Steps.Made.{MadeAt, made_at, one_behind}
use Rattle.quic_headline.proofs.Steps.Probing as probing
use Rattle.quic_headline.proofs.Steps.Probing.{IsGiving, closing_alone, given_closing}

-- what is known of the packets and the streams
abbrev All : Way
All = everything.All Ready ready

abbrev Streams : Way
Streams = everything.Streams Ready ready

module _ (r : Run) (end : World) (honest : IsHonest r) (run : IsRun r end) (side : Side) (i now : ℕ) (gave : GaveOne r side i now) where
  abbrev answer : Answer
  answer = answers.Poll (Ok (Some gave.transmit))

  at : MadeAt r i side (calls.Poll now) answer
  at = made_at All (everything.all Ready ready) r end honest run i side (calls.Poll now) answer gave.poll gave.served

  abbrev e : End
  e = probing.e Streams (everything.all Ready ready) r end honest run side i now gave at.before at.behind at.made

  -- an end that gave something else is open behind the poll
  stays_open : IsGiving (policy_at side r.keys) e now gave.transmit (polled (policy_at side r.keys) e now).end gave.sent → state_at r side (suc i) ≡ states.Open
  stays_open gives =
      let p : Placed All r end side (suc i) = placed All (everything.all Ready ready) r end honest run side (suc i) gave.served in
      let left : end_at side at.behind ≡ (polled (policy_at side r.keys) e now).end = probing.left Streams (everything.all Ready ready) r end honest run side i now gave at.before at.behind at.made in
      sym p.state
      ∙ ap (λ (w : World). (end_at side w).closing.state) (one_behind r (suc i) p.world at.behind gave.served p.leads at.leads)
      ∙ ap (λ (x : End). x.closing.state) (left ∙ gives.left)
      ∙ ap (λ (c : Closing). c.state) (given_closing (policy_at side r.keys) e now)
      ∙ gives.opened

  pub goes_alone : state_at r side (suc i) ≢ states.Open → IsCloseAlone gave.sent
  goes_alone not_open = elim (probing.either Streams (everything.all Ready ready) r end honest run side i now gave at.before at.behind at.made) [
    | inl gives ↦ absurd (not_open (stays_open gives))
    | inr close ↦ closing_alone (policy_at side r.keys) e now gave.transmit gave.sent close
  ]

pub closes_go_alone : (r : Run) (end : World) → IsHonest r → IsRun r end → ClosesGoAlone r
closes_go_alone r end honest run side i now gave not_open = goes_alone r end honest run side i now gave not_open
