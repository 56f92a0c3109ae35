use Rattle.std.proofs.Common.{Bool, sym, ap, ◌∙◌, ◌||◌}
use Rattle.quic_wire.proofs.AckWritten.{first_left, none_left}
use Rattle.quic_sent_packets.specs.Packets.{asks_any}
use Rattle.quic_spaces.specs.Named.{among}
use Rattle.quic_spaces.proofs.NamedLaws.{among_none}
use Rattle.quic_spaces.proofs.AskingLaws.{asks_first}
use Rattle.quic_spaces.proofs.tracking.Tracking.names_asking.Goals as goal

pub returns-then-asks_within : goal.returns-then-asks_within
returns-then-asks_within c =
    let all = c.loop-range.range-iterator in
    let rs = c.next.new.self in
    let es = c.args.self.now.packets in
    let low = c.start.result.now in
    let high = c.end.result.now in
    let e = first_left all rs c.in-Some.range low high c.in-Some.ensures.steps c.start.ensures c.end.ensures in
    let here = sym c.asks_within.ensures ∙ c.if-asks_within.true in
    sym (c.loop-range.invariant ∙ asks_first low high rs all es e ∙ ap (λ (b : Bool). b || asks_any (among rs es)) here)

pub loop-range-preserved : goal.loop-range-preserved
loop-range-preserved c =
    let all = c.loop-range.range-iterator in
    let rs = c.next.new.self in
    let es = c.args.self.now.packets in
    let low = c.start.result.now in
    let high = c.end.result.now in
    let e = first_left all rs c.in-Some.range low high c.in-Some.ensures.steps c.start.ensures c.end.ensures in
    let here = sym c.asks_within.ensures ∙ c.if-asks_within.false in
    c.loop-range.invariant ∙ asks_first low high rs all es e ∙ ap (λ (b : Bool). b || asks_any (among rs es)) here

pub returns : goal.returns
returns c =
    let es = c.args.self.now.packets in
    let e = none_left c.loop-range.range-iterator c.in-None.ensures.steps.0 in
    sym (c.loop-range.invariant ∙ ap (λ rs. asks_any (among rs es)) e ∙ ap asks_any (among_none es))
