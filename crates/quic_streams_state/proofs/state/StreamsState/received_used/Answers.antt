use Rattle.std.proofs.Common.{Bool, sym, ap, ◌∙◌}
use Rattle.std.specs.Prelude.{if◌then◌else◌, Some, None}
use Rattle.quic_wire.specs.FrameView.{stream_view}
use Rattle.quic_streams_parts.specs.declared.answers.Breach.TheVariants.{Pieces}
use Rattle.quic_streams_state.proofs.Coming.{went, is_taken_live}
use Rattle.quic_streams_state.proofs.state.StreamsState.received_used.Goals as goal

pub returns-then-crowded-clause-answer : goal.returns-then-crowded-clause-answer
returns-then-crowded-clause-answer c =
    let kept = went c.keep.result (sym c.is_err.ensures.value ∙ c.if-is_err.false) c.keep.ensures.ok in
    (is_taken_live c.args.self.now c.args.pending.now (stream_view c.args.frame.now) c.keep.new.self c.settle.new.self c.settle.new.pending c.has_too_many_pieces-crowded.result c.requires.allowed c.requires.used kept c.has_too_many_pieces-crowded.ensures c.settle.ensures.new c.settle.ensures.pending).answer ∙ ap (λ (b : Bool). if b then Some Pieces else None) c.if-crowded.true

pub returns-then-crowded-clause-new : goal.returns-then-crowded-clause-new
returns-then-crowded-clause-new c =
    let kept = went c.keep.result (sym c.is_err.ensures.value ∙ c.if-is_err.false) c.keep.ensures.ok in
    (is_taken_live c.args.self.now c.args.pending.now (stream_view c.args.frame.now) c.keep.new.self c.settle.new.self c.settle.new.pending c.has_too_many_pieces-crowded.result c.requires.allowed c.requires.used kept c.has_too_many_pieces-crowded.ensures c.settle.ensures.new c.settle.ensures.pending).new

pub returns-then-crowded-clause-pending : goal.returns-then-crowded-clause-pending
returns-then-crowded-clause-pending c =
    let kept = went c.keep.result (sym c.is_err.ensures.value ∙ c.if-is_err.false) c.keep.ensures.ok in
    (is_taken_live c.args.self.now c.args.pending.now (stream_view c.args.frame.now) c.keep.new.self c.settle.new.self c.settle.new.pending c.has_too_many_pieces-crowded.result c.requires.allowed c.requires.used kept c.has_too_many_pieces-crowded.ensures c.settle.ensures.new c.settle.ensures.pending).pending

pub returns-clause-answer : goal.returns-clause-answer
returns-clause-answer c =
    let kept = went c.keep.result (sym c.is_err.ensures.value ∙ c.if-is_err.false) c.keep.ensures.ok in
    (is_taken_live c.args.self.now c.args.pending.now (stream_view c.args.frame.now) c.keep.new.self c.settle.new.self c.settle.new.pending c.has_too_many_pieces-crowded.result c.requires.allowed c.requires.used kept c.has_too_many_pieces-crowded.ensures c.settle.ensures.new c.settle.ensures.pending).answer ∙ ap (λ (b : Bool). if b then Some Pieces else None) c.if-crowded.false

pub returns-clause-new : goal.returns-clause-new
returns-clause-new c =
    let kept = went c.keep.result (sym c.is_err.ensures.value ∙ c.if-is_err.false) c.keep.ensures.ok in
    (is_taken_live c.args.self.now c.args.pending.now (stream_view c.args.frame.now) c.keep.new.self c.settle.new.self c.settle.new.pending c.has_too_many_pieces-crowded.result c.requires.allowed c.requires.used kept c.has_too_many_pieces-crowded.ensures c.settle.ensures.new c.settle.ensures.pending).new

pub returns-clause-pending : goal.returns-clause-pending
returns-clause-pending c =
    let kept = went c.keep.result (sym c.is_err.ensures.value ∙ c.if-is_err.false) c.keep.ensures.ok in
    (is_taken_live c.args.self.now c.args.pending.now (stream_view c.args.frame.now) c.keep.new.self c.settle.new.self c.settle.new.pending c.has_too_many_pieces-crowded.result c.requires.allowed c.requires.used kept c.has_too_many_pieces-crowded.ensures c.settle.ensures.new c.settle.ensures.pending).pending
