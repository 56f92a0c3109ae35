-- Where the observer of an end finds a packet urged by its mark, an acknowledgement is due (RFC
-- 9000, section 13.2.1).
use Rattle.std.proofs.Common.{◌≡◌, ℕ, Bool, true, false, List, map, Ok, sym, ap, ◌∙◌, subst}
use Rattle.std.proofs.lemmas.Bool.{or_right, and_parts, both_ways}
use Rattle.quic_recovery_core.specs.PendingAcks.{Pending, after_insert}
use Rattle.quic_spaces.specs.Acknowledging.{with_due}
use Rattle.quic_wire.specs.Value.{FrameValue}
use Rattle.quic_machine.specs.declared.answers.State.TheVariants as states
use Rattle.quic_machine.specs.declared.answers.Received.TheVariants as receives
use Rattle.quic_machine.specs.declared.run.Call.{Call}
use Rattle.quic_machine.specs.declared.run.Call.TheVariants as calls
use Rattle.quic_machine.specs.declared.run.Delivery.{Delivery}
use Rattle.quic_machine.specs.declared.run.Answer.{Answer}
use Rattle.quic_machine.specs.declared.run.Answer.TheVariants as answers
use Rattle.quic_machine.specs.Closing.{Closing}
use Rattle.quic_machine.specs.End.{End}
use Rattle.quic_machine.specs.Receive.{asks_in, is_urged, Outcome}
use Rattle.quic_machine.specs.CallCases.{is_delivery}
use Rattle.quic_machine.specs.FrameCases.{begun}
use Rattle.quic_headline.specs.Runs.{Intake}
use Rattle.quic_headline.specs.AcksDue.{takes_marked}
use Rattle.quic_headline.proofs.Packets.Delivered.{frames_at, ArrivalsWith, arrived}
use Rattle.quic_headline.proofs.Packets.Moved.{migrated_closing, migrated_acks}
use Rattle.quic_headline.proofs.Packets.Group.{meets}
use Rattle.quic_headline.proofs.Places.Parties.{Party, called, came_to}
use Rattle.quic_headline.proofs.Places.Groups.{Calls}
use Rattle.quic_headline.proofs.Places.Coming.{by_coming_with}
use Rattle.quic_headline.proofs.Timers.Watched.{Observed}
use Rattle.quic_headline.proofs.AcksDue.Arrivals.{packet_due}
use Rattle.quic_headline.proofs.AcksDue.Urging.{urged_by, none_urged, urged_taken}

-- only a delivery brings the mark
none_marked : (call : Call) (a : Answer) → is_delivery call ≡ false → takes_marked call a ≡ true → ⊥
none_marked (calls.Deliver delivery) a apart marked = cc
none_marked call a apart marked = cc

pub urged_due : (x y : Party) (call : Call) (a : Answer) → Calls Observed x y call a → urged_by x y call a (came_to (called x y.given call a) y) ≡ true → (called x y.given call a).end.closing.state ≡ states.Open → (called x y.given call a).end.acknowledging.due ≡ true
urged_due x y call a c = by_coming_with x y a c.joined c.served (meets y x c.takes.0) Due call c.answer (record {
  apart = λ apart urged opened. absurd (none_marked call a apart (and_parts (takes_marked call a) _ urged).0);
  none = λ delivery is urged opened. absurd (nothing a urged);
  comes = λ delivery is s among here. arrivals delivery is s.number s.frames here;
})
  where
    Due : Answer → End → Intake → Type 0
    Due b e i = urged_by x y call b i ≡ true → e.closing.state ≡ states.Open → e.acknowledging.due ≡ true

    nothing : (b : Answer) → urged_by x y call b (came_to x y) ≡ true → ⊥
    nothing b some = both_ways (urged_by x y call b (came_to x y)) (none_urged x y call b) some

    arrivals : (delivery : Delivery) → call ≡ calls.Deliver delivery → (n : ℕ) (frames : List FrameValue) (here : Bool) → ArrivalsWith delivery.ecn x.end delivery.now n frames (frames_at here frames) (came_to x y) (λ (o : Outcome) (i : Intake). Due (answers.Deliver o.answer) o.end i)
    arrivals delivery is n frames here = record {
      ignored = λ reason urged opened. absurd (nothing (answers.Deliver (receives.Dropped reason)) urged);
      noted = λ state reason urged opened. absurd (nothing (answers.Deliver (receives.Dropped reason)) urged);
      takes = λ words state new none urged opened.
          let within : List FrameValue = frames_at here frames in
          let hurries : Bool = is_urged delivery.ecn (asks_in (map Ok frames)) (map Ok within) (begun x.end delivery.now n) in
          let marked : hurries ≡ true = sym (urged_taken x y call c.gives.1 delivery is state n frames here none) ∙ urged in
          let left : End = (arrived x.end delivery.now n within).end in
          let noted : Pending = with_due hurries (after_insert left.acknowledging n left.closing.clock) in
          packet_due (asks_in (map Ok frames)) noted left.closing.clock n left.numbers.opened (or_right left.acknowledging.due hurries marked);
      moves = λ p o same remote z state due urged opened.
          subst (λ (q : Pending). q.due ≡ true) (sym (migrated_acks p o remote z)) (due urged (sym (ap (λ (k : Closing). k.state) (migrated_closing p o remote z)) ∙ opened));
      drains = λ words state new close fault urged opened. absurd cc;
      refuses = λ words state new f fault urged opened. absurd cc;
      exhausts = λ state urged opened. absurd cc;
    }
