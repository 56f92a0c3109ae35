use Rattle.std.proofs.Common.{rules, ◌≡◌, None, subst, ap, ◌∙◌}
use Rattle.std.specs.Prelude.{Result, Ok, Err, OnErr}
use Rattle.quic_machine.specs.End.{with_end}
use Rattle.quic_machine.specs.Control.{with_pacing_timer}
use Rattle.quic_machine.specs.Lacking.{MovesRecord}
use Rattle.quic_machine.specs.Poll.{probed, request_queued, leaves_at}
use Rattle.quic_connection_parts.specs.Leaving.{Leaves, rested}
use Rattle.quic_connection_core.proofs.connection.Connection.make_ready.Goals as goal

on_err : {T E P : Type 0} (r : Result T E) → P → OnErr r P
on_err (Ok x) p = tt
on_err (Err e) p = p

pub returns-in_err-queue_probe-clause-lacking : goal.returns-in_err-queue_probe-clause-lacking
returns-in_err-queue_probe-clause-lacking g c =
    on_err c.from_residual.result (subst (λ x. MovesRecord x.end) (c.self.view_is ∙ c.tick.ensures) c.in_err-queue_probe.ensures.lacking)

pub returns-clause-leaving : goal.returns-clause-leaving
returns-clause-leaving g c =
    let probes : c.queue_probe.new.self ≡ with_end c.tick.new.self (probed (with_pacing_timer c.tick.new.self.end None)) = search rules in
    let before = probes ∙ ap (λ x. with_end x (probed (with_pacing_timer x.end None))) c.tick.ensures in
    let is = c.queue_ack_frequency.ensures ∙ ap (λ x. with_end x (request_queued x.end)) before in
    subst (λ x. Leaves c.leaving.result (leaves_at x.end).leaving) is c.leaving.ensures.leaving

pub returns-clause-end : goal.returns-clause-end
returns-clause-end g c =
    let probes : c.queue_probe.new.self ≡ with_end c.tick.new.self (probed (with_pacing_timer c.tick.new.self.end None)) = search rules in
    let before = probes ∙ ap (λ x. with_end x (probed (with_pacing_timer x.end None))) c.tick.ensures in
    let is = c.queue_ack_frequency.ensures ∙ ap (λ x. with_end x (request_queued x.end)) before in
    c.leaving.ensures.end ∙ ap (λ x. with_end x (rested (leaves_at x.end))) is
