use Rattle.std.proofs.Common.{◌+◌, length, ap, sym, ◌∙◌}
use Rattle.std.proofs.lemmas.List.{length-append}
use Rattle.quic_machine.specs.End.{End, with_end}
use Rattle.quic_connection_parts.specs.Frames.{bare_bytes, end_after_immediate_if}
use Rattle.quic_connection_core.proofs.Asking.{bare_written, bare_gone, bare_short}
use Rattle.quic_connection_core.proofs.connection.Connection.put_bare_signals.Goals as goal

pub returns-clause-items : goal.returns-clause-items
returns-clause-items g c =
    bare_written c.args.self.now.end c.put_ping.new.self.end c.args.out.now.items c.put_ping.new.out.items c.put_immediate_ack.new.out.items (ap (λ w. w.end) c.put_ping.ensures.end) c.put_ping.ensures.items c.put_immediate_ack.ensures.items

pub returns-clause-len : goal.returns-clause-len
returns-clause-len g c =
    let e : End = c.args.self.now.end in
    let items = bare_written e c.put_ping.new.self.end c.args.out.now.items c.put_ping.new.out.items c.put_immediate_ack.new.out.items (ap (λ w. w.end) c.put_ping.ensures.end) c.put_ping.ensures.items c.put_immediate_ack.ensures.items in
    c.put_immediate_ack.new.out.ok.0 ∙ ap length items ∙ length-append c.args.out.now.items (bare_bytes e.waiting.signals) ∙ ap (λ n. n + length (bare_bytes e.waiting.signals)) (sym c.args.out.now.ok.0)

pub returns-clause-few : goal.returns-clause-few
returns-clause-few g c = bare_short c.args.self.now.end.waiting.signals

pub returns-clause-end : goal.returns-clause-end
returns-clause-end g c =
    let w = c.args.self.now in
    c.put_immediate_ack.ensures.end
    ∙ ap (λ x. with_end x (end_after_immediate_if c.put_ping.new.self.end.waiting.signals.immediate c.put_ping.new.self.end)) c.put_ping.ensures.end
    ∙ ap (λ (e : End). with_end w e) (bare_gone w.end c.put_ping.new.self.end (ap (λ x. x.end) c.put_ping.ensures.end))
