-- Where nothing more may go to the address of an open end, a poll gives nothing, and so it is by
-- the lists.
use Rattle.std.proofs.Common.{◌≡◌, ℕ, suc, Bool, true, Some, None, Ok, sym, ap, ◌∙◌, subst}
use Rattle.std.specs.Prelude.{slice_get}
use Rattle.quic_wire_core.specs.declared.stream_id.Side.{Side}
use Rattle.quic_machine.specs.declared.answers.State.{State}
use Rattle.quic_machine.specs.declared.answers.State.TheVariants as states
use Rattle.quic_machine.specs.declared.run.Call.TheVariants as calls
use Rattle.quic_machine.specs.declared.run.Answer.{Answer}
use Rattle.quic_machine.specs.declared.run.Answer.TheVariants as answers
use Rattle.quic_machine.specs.declared.run.View.{View}
use Rattle.quic_machine.specs.Policy.{Policy}
use Rattle.quic_machine.specs.End.{End}
use Rattle.quic_machine.specs.Poll.{goes, polled_if, polled_in, polled}
use Rattle.quic_machine.specs.PollCases.{ready_at}
use Rattle.quic_machine.specs.Machine.{World, end_at, policy_at}
use Rattle.quic_headline.specs.Runs.{Run, state_in, LeadsTo}
use Rattle.quic_headline.specs.Headline.{IsHonest, IsRun}
use Rattle.quic_headline.proofs.Packets.Quiet.{HaveHeardNothing}
use Rattle.quic_headline.specs.Polls.{GaveNothing, IsLimited, IsMade}
use Rattle.quic_headline.proofs.Places.Parties.{with_shown, shown_at}
use Rattle.quic_headline.proofs.Places.Placed.{placed, placed_less}
use Rattle.quic_headline.proofs.Places.Steps.{poll_answer}
use Rattle.quic_headline.proofs.Steps.Made.{one_behind, served_before, made_served}
use Rattle.quic_headline.proofs.Timers.Watched.{Observed}
use Rattle.quic_headline.proofs.Held.Silent.{may_not_go}
use Rattle.quic_headline.proofs.Held.Behind.{last as last_poll, blocked_there}
use Rattle.quic_headline.proofs.Held.Bytes.{when_blocked}
use Rattle.quic_headline.proofs.Held.Clause.{Shortly, shortly, heard_first}

-- such a poll gives nothing
pub gives_none : (p : Policy) (e : End) (now : ℕ) → e.closing.state ≡ states.Open → e.path.blocked ≡ true → (polled p e now).answer ≡ Ok None
gives_none p e now opened blocked =
    ap (λ (s : State). (polled_in s p e now).answer) opened ∙ ap (λ (b : Bool). (polled_if b p (ready_at e now)).answer) (ap goes (may_not_go e now blocked))

-- and the lists say why
pub limits_poll : (r : Run) (end : World) → IsHonest r → IsRun r end → HaveHeardNothing r.start → (side : Side) (i now : ℕ) (a : Answer) (v : View) (w next : World) → IsMade r i side (calls.Poll now) a w next → LeadsTo r (suc i) next → slice_get r.views i ≡ Some v
    → state_in v side ≡ states.Open → (end_at side w).closing.state ≡ states.Open → (with_shown (end_at side w) (shown_at side w)).path.blocked ≡ true → IsLimited r side (suc i) v
limits_poll r end honest run quiet side i now a v w next m leads there opened before blocked =
    when_blocked r end honest run (λ by j served. placed_less Shortly Observed r end by j (λ x y h. (h.0.0.0, h.0.1)) (placed Shortly shortly r end honest run by j served)) side (heard_first side r.start quiet) i now v next m.served leads gave
    (blocked_there r side i now v next leads gave (subst (λ (u : World). (with_shown (end_at side u) (shown_at side u)).path.blocked ≡ true) (sym before_is) blocked))
  where
    p : Policy
    p = policy_at side r.keys

    e : End
    e = with_shown (end_at side w) (shown_at side w)

    said : a ≡ answers.Poll (Ok None)
    said = poll_answer p e now a m.step.answer (made_served r i side (calls.Poll now) a w next m) ∙ ap answers.Poll (gives_none p e now before blocked)

    gave : GaveNothing r side i now v
    gave = record { poll = record { event = m.at.event; answer = m.at.answer ∙ ap (λ (b : Answer). Some b) said }; shown = there; opened = opened }

    -- the world before is that of the poll
    before_is : (last_poll r side i now v next leads gave).before ≡ w
    before_is = one_behind r i (last_poll r side i now v next leads gave).before w (served_before r.answers i m.served) (last_poll r side i now v next leads gave).leads m.leads
