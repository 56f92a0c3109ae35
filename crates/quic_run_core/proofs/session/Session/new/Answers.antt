use Rattle.std.proofs.Common.{refl}
use Rattle.quic_wire_core.specs.declared.stream_id.Side.TheVariants.{Client, Server}
use Rattle.std.proofs.lemmas.Result.{err_from_is_err_and}
use Rattle.quic_machine.specs.End.{are_keys_short}
use Rattle.quic_lines.specs.Options.{limits_in}
use Rattle.quic_run_core.proofs.Making.{first_ends, are_started, plain_at, short_too, or_first}
use Rattle.quic_run_core.proofs.session.Session.new.Goals as goal

pub returns-clause-started : goal.returns-clause-started
returns-clause-started c = are_started c.args.client.now c.args.server.now c.in-Ok.ensures.making c.in_ok-client_end.ensures.making

pub returns-clause-lasts : goal.returns-clause-lasts
returns-clause-lasts c = rw (c.in_ok-client_end.ensures.lasts, c.in-Ok.ensures.lasts) refl

pub returns-in_err-client_end-clause-refusal : goal.returns-in_err-client_end-clause-refusal
returns-in_err-client_end-clause-refusal c =
    let p = err_from_is_err_and c.from_residual.result c.from_residual.ensures.1 in
    rw (p.1, p.2) (short_too _ _ _ (or_first _ (are_keys_short (limits_in c.args.server.now))) c.in_err-client_end.ensures.refusal)

pub returns-in-Err-clause-refusal : goal.returns-in-Err-clause-refusal
returns-in-Err-clause-refusal c = rw c.in_ok-client_end.ensures.lasts c.in-Err.ensures.refusal

pub invariant_of-result-clause-plain : goal.invariant_of-result-clause-plain
invariant_of-result-clause-plain c = record {
  client = plain_at Client c.args.client.now c.in_ok-client_end.client_end c.in_ok-client_end.ensures.keys c.in_ok-client_end.ensures.words;
  server = plain_at Server c.args.server.now c.in-Ok.end c.in-Ok.ensures.keys c.in-Ok.ensures.words;
}

pub invariant_of-result-clause-client_known : goal.invariant_of-result-clause-client_known
invariant_of-result-clause-client_known c = rw (c.new.ensures.client, c.new-2.ensures.items) refl

pub invariant_of-result-clause-server_known : goal.invariant_of-result-clause-server_known
invariant_of-result-clause-server_known c = rw (c.new.ensures.server, c.new-3.ensures.items) refl

pub returns-clause-world : goal.returns-clause-world
returns-clause-world c = first_ends c.args.client.now c.args.server.now _ _ _ _ _ _ _ _ c.in_ok-client_end.ensures.end c.in-Ok.ensures.end c.new.ensures.client c.new.ensures.server c.in_ok-client_end.ensures.control c.in-Ok.ensures.control c.in_ok-client_end.ensures.heard c.in-Ok.ensures.heard
