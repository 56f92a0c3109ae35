use Rattle.std.proofs.Common.{rules, ap, subst, ◌∙◌}
use Rattle.quic_c_core.specs.declared.endpoint.Endpoint.{Endpoint}
use Rattle.quic_c_core.specs.Events.{IsLostText}
use Rattle.quic_c.specs.Says.{counted_answer}
use Rattle.quic_c.proofs.events.quic_c_lost_text.Goals as goal

pub returns-clause-text : goal.returns-clause-text
returns-clause-text c =
    let told = c.put_lost_text.ensures in
    let answer = c.measured.ensures ∙ ap counted_answer told.2 in
    (told.0, subst (λ (e : Endpoint). IsLostText e.conn.end.closing.reason told.0) c.as_mut.ensures.value told.1, search (rules, answer), told.3)
