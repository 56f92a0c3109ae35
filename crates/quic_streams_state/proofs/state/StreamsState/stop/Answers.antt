use Rattle.std.proofs.Common.{◌≡◌, ℕ, Option, Some, false, sym, ap, rules, ◌∙◌}
use Rattle.quic_streams_parts.specs.Table.{at}
use Rattle.quic_streams_state.specs.Reading.{with_stop}
use Rattle.quic_streams_state.proofs.Coming.{went, is_stopped}
use Rattle.quic_streams_state.proofs.state.StreamsState.stop.Goals as goal

pub returns-clause-answer : goal.returns-clause-answer
returns-clause-answer c = λ _.
    let h = c.in-Some.half.now in
    let found : at c.args.self.now.receiving.halves.live c.args.id ≡ Some h = search rules in
    let free : h.stopped ≡ false = sym c.is_stopped.ensures ∙ c.if-is_stopped.false in
    let asked = went c.ask_to_stop.result (sym c.is_err.ensures.value ∙ c.if-is_err.false) c.ask_to_stop.ensures.ok ∙ ap (λ (o : Option ℕ). with_stop o c.args.id c.args.error_code c.args.pending.now) c.reset_code.ensures in
    (is_stopped c.args.self.now c.args.pending.now c.ask_to_stop.new.pending c.args.id c.args.error_code h c.stop.new.self c.end_if_over.new.self c.decide.new.pending found free c.stop.ensures c.end_if_over.ensures asked c.decide.ensures).answer

pub returns-clause-new : goal.returns-clause-new
returns-clause-new c = λ _.
    let h = c.in-Some.half.now in
    let found : at c.args.self.now.receiving.halves.live c.args.id ≡ Some h = search rules in
    let free : h.stopped ≡ false = sym c.is_stopped.ensures ∙ c.if-is_stopped.false in
    let asked = went c.ask_to_stop.result (sym c.is_err.ensures.value ∙ c.if-is_err.false) c.ask_to_stop.ensures.ok ∙ ap (λ (o : Option ℕ). with_stop o c.args.id c.args.error_code c.args.pending.now) c.reset_code.ensures in
    (is_stopped c.args.self.now c.args.pending.now c.ask_to_stop.new.pending c.args.id c.args.error_code h c.stop.new.self c.end_if_over.new.self c.decide.new.pending found free c.stop.ensures c.end_if_over.ensures asked c.decide.ensures).new

pub returns-clause-pending : goal.returns-clause-pending
returns-clause-pending c = λ _.
    let h = c.in-Some.half.now in
    let found : at c.args.self.now.receiving.halves.live c.args.id ≡ Some h = search rules in
    let free : h.stopped ≡ false = sym c.is_stopped.ensures ∙ c.if-is_stopped.false in
    let asked = went c.ask_to_stop.result (sym c.is_err.ensures.value ∙ c.if-is_err.false) c.ask_to_stop.ensures.ok ∙ ap (λ (o : Option ℕ). with_stop o c.args.id c.args.error_code c.args.pending.now) c.reset_code.ensures in
    (is_stopped c.args.self.now c.args.pending.now c.ask_to_stop.new.pending c.args.id c.args.error_code h c.stop.new.self c.end_if_over.new.self c.decide.new.pending found free c.stop.ensures c.end_if_over.ensures asked c.decide.ensures).pending
