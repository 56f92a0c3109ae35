-- No end fails where memory served: a call leaves it as it was, closes it, or drains it.
use Rattle.std.proofs.Common.{◌≡◌, ◌≢◌, sym, ◌∙◌}
use Rattle.quic_machine.specs.declared.answers.State.TheVariants as states
use Rattle.quic_machine.specs.declared.run.Call.{Call}
use Rattle.quic_machine.specs.declared.run.Answer.{Answer}
use Rattle.quic_machine.specs.Closing.{Closing}
use Rattle.quic_machine.specs.Machine.{World, after_call}
use Rattle.quic_headline.specs.Runs.{Run}
use Rattle.quic_headline.specs.Headline.{IsHonest, IsRun}
use Rattle.quic_headline.specs.Reasons.{NeverFails}
use Rattle.quic_headline.proofs.Places.Groups.{Way, Nothing, Group}
use Rattle.quic_headline.proofs.Places.Placed.{Placed, placed}
use Rattle.quic_headline.proofs.Causes.Turns.{Turns, kept, asked, went, shut, ended, lapsed, turns}

-- a call that was served
turned_unfailed : (b c : Closing) (call : Call) (a : Answer) → b.state ≢ states.Failed → Turns b call a c → c.state ≢ states.Failed
turned_unfailed b c call a i (kept same owed still) = λ failed. i (sym same.state ∙ failed)
turned_unfailed b c call a i (asked here same owed none asks) = λ failed. i (sym same.state ∙ failed)
turned_unfailed b c call a i (went here same owed one) = λ failed. i (sym same.state ∙ failed)
turned_unfailed b c call a i (shut here state reason for f close says owed) = λ failed. (let clash : states.Closing ≡ states.Failed = sym state ∙ failed in cc)
turned_unfailed b c call a i (ended here state reason close) = λ failed. (let clash : states.Drained ≡ states.Failed = sym state ∙ failed in cc)
turned_unfailed b c call a i (lapsed here state close) = λ failed. (let clash : states.Drained ≡ states.Failed = sym state ∙ failed in cc)

-- x hasn't failed
abbrev Unfailed : Way
Unfailed x y = x.end.closing.state ≢ states.Failed

unfailed : Group Nothing Unfailed
unfailed = record {
  first = λ x y m there here failed. cc;
  writer = λ x y call a c before back. turned_unfailed x.end.closing (after_call x.policy x.end y.given call a).closing call a before (turns x.policy x.end y.given call a c.answer c.served);
  reader = λ x y call a c there before. before;
  shows = λ x y here there b back i j. i;
}

-- the clause
pub never_fails : (r : Run) (end : World) → IsHonest r → IsRun r end → NeverFails r
never_fails r end honest run side i served failed = at.gives (at.state ∙ failed)
  where
    at : Placed Unfailed r end side i
    at = placed Unfailed unfailed r end honest run side i served
