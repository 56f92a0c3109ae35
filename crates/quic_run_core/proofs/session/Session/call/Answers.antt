use Rattle.std.proofs.Common.{◌≡◌, ◌++◌, ℕ, length, refl, sym, ap, ◌∙◌}
use Rattle.std.specs.Prelude.{string_bytes}
use Rattle.quic_wire_core.specs.declared.stream_id.Side.{Side}
use Rattle.quic_machine.specs.Machine.{World, Policies, given_by}
use Rattle.quic_congestion.specs.NewReno.{window_after}
use Rattle.quic_connection.specs.Ends.{world_of}
use Rattle.quic_lines.specs.Printed.{answer_text}
use Rattle.quic_wire_core.specs.declared.stream_id.Side.TheVariants.{Client, Server}
use Rattle.quic_run_core.specs.Scripts.{policies_for}
use Rattle.quic_run_core.proofs.Making.{given_more, on_ok_then}
use Rattle.quic_run_core.proofs.Showing.{known_more}
use Rattle.quic_connection.specs.GoingOn.{are_on}
use Rattle.quic_run_core.proofs.session.Session.call.Goals as goal
use Rattle.quic_run_core.proofs.session.Session.call.Goals.{in-Client, in-Server}

pub invariant_of-self-clause-plain : goal.invariant_of-self-clause-plain
invariant_of-self-clause-plain c = are_on _ _ _ _ _ _ _ _ c.args.self.now.plain c.step.ensures.goes_on

pub invariant_of-self-clause-client_known : goal.invariant_of-self-clause-client_known
invariant_of-self-clause-client_known c =
    let more = given_more _ (policies_for c.args.self.now.client c.args.self.now.server) _ _ _ _ Client c.args.self.now.plain c.step.ensures.step c.step.ensures.err_given in
    rw more.1 (known_more Client _ more.0 _ c.args.self.now.client_known)

pub invariant_of-self-clause-server_known : goal.invariant_of-self-clause-server_known
invariant_of-self-clause-server_known c =
    let more = given_more _ (policies_for c.args.self.now.client c.args.self.now.server) _ _ _ _ Server c.args.self.now.plain c.step.ensures.step c.step.ensures.err_given in
    rw more.1 (known_more Server _ more.0 _ c.args.self.now.server_known)

pub returns-clause-tells : goal.returns-clause-tells
returns-clause-tells c =
    let k : Policies = policies_for c.args.self.now.client c.args.self.now.server in
    let next : World = world_of window_after c.step.new.ends c.step.new.given in
    let answer = c.in_ok-answer.answer in
    let count : c.match-event.given ≡ length (given_by c.args.event.now.side next) =
    elim c.match-event.branch [
      | in-Client w ↦ w.given-is ∙ w.len-given.ensures ∙ c.step.new.given.client.ok.0 ∙ ap (λ (side : Side). length (given_by side next)) (sym w.in-Client.is)
      | in-Server w ↦ w.given-is ∙ w.len-given-in-Server.ensures ∙ c.step.new.given.server.ok.0 ∙ ap (λ (side : Side). length (given_by side next)) (sym w.in-Server.is)
    ] in
    on_ok_then c.put_answer.result (λ said. (
      answer_text (length (given_by c.args.event.now.side next)) answer,
      record { answer = answer; step = c.in_ok-answer.ensures.step k c.args.self.now.plain; is = refl },
      said ∙ ap (λ (n : ℕ). string_bytes c.args.out.now ++ answer_text n answer) count,
    )) c.put_answer.ensures
