use Rattle.std.proofs.Common.{◌+◌, length, ap, sym, ◌∙◌, arith}
use Rattle.std.proofs.lemmas.List.{length-append}
use Rattle.quic_machine.specs.End.{End, with_end}
use Rattle.quic_connection_parts.specs.Frames.{path_bytes, response_gone}
use Rattle.quic_connection_core.proofs.Asking.{paths_written, paths_gone}
use Rattle.quic_connection_core.proofs.connection.Connection.put_path_frames.Goals as goal

pub returns-clause-items : goal.returns-clause-items
returns-clause-items g c =
    paths_written c.args.self.now.end c.put_challenge.new.self.end c.args.out.now.items c.put_challenge.new.out.items c.put_response.new.out.items (ap (λ w. w.end) c.put_challenge.ensures.end) c.put_challenge.ensures.items c.put_response.ensures.items

pub returns-clause-len : goal.returns-clause-len
returns-clause-len g c =
    let e : End = c.args.self.now.end in
    let items = paths_written e c.put_challenge.new.self.end c.args.out.now.items c.put_challenge.new.out.items c.put_response.new.out.items (ap (λ w. w.end) c.put_challenge.ensures.end) c.put_challenge.ensures.items c.put_response.ensures.items in
    c.put_response.new.out.ok.0 ∙ ap length items ∙ length-append c.args.out.now.items (path_bytes e) ∙ ap (λ n. n + length (path_bytes e)) (sym c.args.out.now.ok.0)

pub returns-clause-few : goal.returns-clause-few
returns-clause-few g c =
    let e : End = c.args.self.now.end in
    let items = paths_written e c.put_challenge.new.self.end c.args.out.now.items c.put_challenge.new.out.items c.put_response.new.out.items (ap (λ w. w.end) c.put_challenge.ensures.end) c.put_challenge.ensures.items c.put_response.ensures.items in
    let long = c.put_response.new.out.ok.0 ∙ ap length items ∙ length-append c.args.out.now.items (path_bytes e) ∙ ap (λ n. n + length (path_bytes e)) (sym c.args.out.now.ok.0) in
    let one = c.put_challenge.ensures.few in
    let two = c.put_response.ensures.few in
    omega (arith, long, one, two)

pub returns-clause-end : goal.returns-clause-end
returns-clause-end g c =
    let w = c.args.self.now in
    c.put_response.ensures.end
    ∙ ap (λ x. with_end x (response_gone c.put_challenge.new.self.end.waiting.signals.response c.put_challenge.new.self.end)) c.put_challenge.ensures.end
    ∙ ap (λ (e : End). with_end w e) (paths_gone w.end c.put_challenge.new.self.end (ap (λ x. x.end) c.put_challenge.ensures.end))
