use Rattle.std.proofs.Common.{◌≡◌, ◌+◌, ◌++◌, ◌∷◌, [], nat_le, true, ap, sym, ◌∙◌, arith, rules}
use Rattle.quic_messages.specs.Messages.{at_least, bytes_of, left_for}
use Rattle.quic_messages.proofs.Leaving.{left_for_all, left_for_none}
use Rattle.quic_messages.proofs.Longest.{oldest_goes}
use Rattle.quic_messages.proofs.message_queue.MessageQueue.push.Goals as goal
use Rattle.quic_messages.proofs.message_queue.MessageQueue.push.Goals.{else-loop-self-test, then-loop-self-test+in_default}

pub returns-clause-ok : goal.returns-clause-ok
returns-clause-ok g c =
    let before = c.loop-self.self-inside in
    let takes = at_least g.row.LEAST in
    let bytes = c.size-bytes.result in
    let left = elim c.loop-self-test.branch as (λ _. c.loop-self-test.self-inside.messages.items ≡ left_for takes c.args.room bytes c.args.self.now) [
      | else-loop-self-test w ↦
          (let fits : nat_le (bytes_of takes before.messages.items + bytes) c.args.room ≡ true = rw (← c.loop-self.invariant.total) (sym c.fits.ensures ∙ w.loop-self-test.false) in
          rw w.self-inside-is (sym (left_for_all takes c.args.room bytes before.messages.items fits) ∙ c.loop-self.invariant.left))
      | then-loop-self-test+in_default w ↦
          (let none = before.messages.ok.0 in
          let empty = w.in_default.ensures.cases.0 in
          rw w.self-inside-is (sym w.in_default.ensures.items ∙ sym (left_for_none takes c.args.room bytes before.messages.items (omega arith)) ∙ c.loop-self.invariant.left))
    ] in
    rw c.push_back_reserved.ensures.items (ap (λ ms. ms ++ c.args.message ∷ []) left ∙ ap (λ n. left_for takes c.args.room n c.args.self.now ++ c.args.message ∷ []) c.size-bytes.ensures)

pub loop-self-preserved-in-Some : goal.loop-self-preserved-in-Some
loop-self-preserved-in-Some g c =
    let i = c.loop-self.invariant in
    let popped = c.in-Some.ensures.items in
    let left = oldest_goes (at_least g.row.LEAST) c.loop-self.self-inside.longest c.args.room c.size-bytes.result c.in-Some.dropped c.pop_front.new.self.items popped i.total (sym c.fits.ensures ∙ c.loop-self-test.true) i.short in
    let place = i.place in
    record { total = rw c.size.ensures left.0; left = left.1 ∙ i.left; short = left.2; fits = i.fits; place = search rules }

pub loop-self-preserved : goal.loop-self-preserved
loop-self-preserved g c =
    let i = c.loop-self.invariant in
    let popped = c.in-Some.ensures.items in
    let left = oldest_goes (at_least g.row.LEAST) c.loop-self.self-inside.longest c.args.room c.size-bytes.result c.in-Some.dropped c.pop_front.new.self.items popped i.total (sym c.fits.ensures ∙ c.loop-self-test.true) i.short in
    let place = i.place in
    record { total = rw c.size.ensures left.0; left = left.1 ∙ i.left; short = left.2; fits = i.fits; place = search rules }
