use Rattle.std.proofs.Common.{◌≡◌, Some, None, true, sym, ap, ◌∙◌}
use Rattle.quic_wire.specs.FrameView.{reset_stream_view}
use Rattle.quic_streams_state.specs.State.{first_window}
use Rattle.quic_streams_state.specs.Taking.{breach_on, refusal}
use Rattle.quic_streams_state.proofs.Coming.{went}
use Rattle.quic_streams_state.proofs.Fresh.{refused_on, is_reset_first}
use Rattle.quic_streams_state.proofs.state.StreamsState.received_fresh_reset.Goals as goal

pub returns-clause-new : goal.returns-clause-new
returns-clause-new c =
    let f = reset_stream_view c.args.frame in
    let s = c.args.self.now in
    let on : breach_on s.receiving c.in-Some.half f.final_size true ≡ None = ap (λ n. breach_on s.receiving c.in-Some.half n true) (sym c.into_inner-size.ensures.value) ∙ sym c.breach_on.ensures ∙ c.in_default-breach_on.is in
    let allowed : refusal s f.id f.final_size true ≡ None = refused_on s f.id f.final_size true (Some c.in-Some.half) c.requires.lawful c.in-Some.ensures.part ∙ on in
    let kept = went c.keep_fresh_reset.result (sym c.is_err.ensures.value ∙ c.if-is_err.false) c.keep_fresh_reset.ensures.ok in
    (is_reset_first s c.args.pending.now f c.keep_fresh_reset.new.self c.open_by.new.self c.decide.new.pending c.in-Some.half (first_window s.receiving) c.in-Some.ensures.fresh allowed (sym c.in-Some.ensures.part) kept c.open_by.ensures c.decide.ensures).new

pub returns-clause-pending : goal.returns-clause-pending
returns-clause-pending c =
    let f = reset_stream_view c.args.frame in
    let s = c.args.self.now in
    let on : breach_on s.receiving c.in-Some.half f.final_size true ≡ None = ap (λ n. breach_on s.receiving c.in-Some.half n true) (sym c.into_inner-size.ensures.value) ∙ sym c.breach_on.ensures ∙ c.in_default-breach_on.is in
    let allowed : refusal s f.id f.final_size true ≡ None = refused_on s f.id f.final_size true (Some c.in-Some.half) c.requires.lawful c.in-Some.ensures.part ∙ on in
    let kept = went c.keep_fresh_reset.result (sym c.is_err.ensures.value ∙ c.if-is_err.false) c.keep_fresh_reset.ensures.ok in
    (is_reset_first s c.args.pending.now f c.keep_fresh_reset.new.self c.open_by.new.self c.decide.new.pending c.in-Some.half (first_window s.receiving) c.in-Some.ensures.fresh allowed (sym c.in-Some.ensures.part) kept c.open_by.ensures c.decide.ensures).pending
