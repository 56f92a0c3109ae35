use Rattle.std.proofs.Common.{◌≡◌, Some, None, sym, ◌∙◌}
use Rattle.quic_wire.specs.FrameView.{stream_view}
use Rattle.quic_streams_parts.specs.RecvHalf.{end_of}
use Rattle.quic_streams_state.specs.State.{first_window}
use Rattle.quic_streams_state.specs.Taking.{refusal}
use Rattle.quic_streams_state.proofs.Coming.{went}
use Rattle.quic_streams_state.proofs.Fresh.{refused_on, is_taken_first}
use Rattle.quic_streams_state.proofs.state.StreamsState.received_fresh.Goals as goal

pub returns-clause-new : goal.returns-clause-new
returns-clause-new c =
    let f = stream_view c.args.frame.now in
    let s = c.args.self.now in
    let allowed : refusal s f.id (end_of f) f.fin ≡ None = refused_on s f.id (end_of f) f.fin (Some c.in-Some.half) c.requires.lawful c.in-Some.ensures.part ∙ sym c.breach_on.ensures ∙ c.in_default-breach_on.is in
    let kept = went c.keep_fresh.result (sym c.is_err.ensures.value ∙ c.if-is_err.false) c.keep_fresh.ensures.ok in
    (is_taken_first s c.args.pending.now f c.keep_fresh.new.self c.open_by.new.self c.decide.new.pending c.in-Some.half (first_window s.receiving) c.in-Some.ensures.fresh allowed (sym c.in-Some.ensures.part) kept c.open_by.ensures c.decide.ensures).new

pub returns-clause-pending : goal.returns-clause-pending
returns-clause-pending c =
    let f = stream_view c.args.frame.now in
    let s = c.args.self.now in
    let allowed : refusal s f.id (end_of f) f.fin ≡ None = refused_on s f.id (end_of f) f.fin (Some c.in-Some.half) c.requires.lawful c.in-Some.ensures.part ∙ sym c.breach_on.ensures ∙ c.in_default-breach_on.is in
    let kept = went c.keep_fresh.result (sym c.is_err.ensures.value ∙ c.if-is_err.false) c.keep_fresh.ensures.ok in
    (is_taken_first s c.args.pending.now f c.keep_fresh.new.self c.open_by.new.self c.decide.new.pending c.in-Some.half (first_window s.receiving) c.in-Some.ensures.fresh allowed (sym c.in-Some.ensures.part) kept c.open_by.ensures c.decide.ensures).pending

pub returns-clause-answer : goal.returns-clause-answer
returns-clause-answer c =
    let f = stream_view c.args.frame.now in
    let s = c.args.self.now in
    let allowed : refusal s f.id (end_of f) f.fin ≡ None = refused_on s f.id (end_of f) f.fin (Some c.in-Some.half) c.requires.lawful c.in-Some.ensures.part ∙ sym c.breach_on.ensures ∙ c.in_default-breach_on.is in
    let kept = went c.keep_fresh.result (sym c.is_err.ensures.value ∙ c.if-is_err.false) c.keep_fresh.ensures.ok in
    (is_taken_first s c.args.pending.now f c.keep_fresh.new.self c.open_by.new.self c.decide.new.pending c.in-Some.half (first_window s.receiving) c.in-Some.ensures.fresh allowed (sym c.in-Some.ensures.part) kept c.open_by.ensures c.decide.ensures).answer
