use Rattle.std.proofs.Common.{sym, ap, subst, ◌∙◌}
use Rattle.quic_send_buffer.specs.Buffered.{Buffered, IsBuffered, after_ack}
use Rattle.quic_send_buffer.specs.contracts.send_buffer.SendBuffer.{the_view}
use Rattle.quic_send_buffer.proofs.Buffered.Calls.{IsAcked, ack_made, ack_lawful, unacked_found}
use Rattle.quic_sets.proofs.Outcomes.{of_error}
use Rattle.quic_send_buffer.proofs.send_buffer.SendBuffer.ack.Goals as goal

pub invariant_of-self-2 : goal.invariant_of-self-2
invariant_of-self-2 c =
    let v = the_view c.self.inside in
    let made : IsAcked v c.args.range.start c.args.range.end c.min.result c.insert_from.new.self c.insert_from.new.other = record {
      cut = c.min.ensures;
      adds = c.in_ok-insert_from.ensures.ok;
      runs_acked = c.in_ok-insert_from.ensures.runs;
      drops = c.in_ok-insert_from.ensures.other;
      runs_lost = c.in_ok-insert_from.ensures.other_runs;
    } in
    let same = ack_made c.first_lacking.result c.release.new.self c.self.invariant made c.first_lacking.ensures c.release.ensures in
    subst IsBuffered (sym same) (ack_lawful v c.args.range.start c.args.range.end c.self.invariant)

pub returns-clause-ok : goal.returns-clause-ok
returns-clause-ok c =
    let v = the_view c.self.inside in
    let made : IsAcked v c.args.range.start c.args.range.end c.min.result c.insert_from.new.self c.insert_from.new.other = record {
      cut = c.min.ensures;
      adds = c.in_ok-insert_from.ensures.ok;
      runs_acked = c.in_ok-insert_from.ensures.runs;
      drops = c.in_ok-insert_from.ensures.other;
      runs_lost = c.in_ok-insert_from.ensures.other_runs;
    } in
    let same = ack_made c.first_lacking.result c.release.new.self c.self.invariant made c.first_lacking.ensures c.release.ensures in
    same ∙ ap (λ (b : Buffered). after_ack b c.args.range.start c.args.range.end) c.self.view_is

pub returns-clause-lawful : goal.returns-clause-lawful
returns-clause-lawful c = subst IsBuffered (sym (returns-clause-ok c)) (ack_lawful c.args.self.now c.args.range.start c.args.range.end (subst IsBuffered c.self.view_is c.self.invariant))

pub returns-in_err-insert_from-clause-unacked : goal.returns-in_err-insert_from-clause-unacked
returns-in_err-insert_from-clause-unacked c =
    let a = c.args in
    of_error c.from_residual.result (unacked_found (the_view c.self.inside) a.self.now c.self.view_is c.self.invariant a.range.start a.range.end c.min.result c.min.ensures c.in_err-insert_from.ensures.moving)
