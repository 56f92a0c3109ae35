use Rattle.std.proofs.Common.{rules, ◌≡◌, Option, sym, ap, ◌∙◌, subst}
use Rattle.quic_wire.specs.FrameView.{frame_view}
use Rattle.quic_streams_parts.specs.declared.answers.Breach.{Breach}
use Rattle.quic_streams_state.specs.declared.taking.IdRule.{IdRule}
use Rattle.quic_streams_state.specs.Taking.{id_rule, broken}
use Rattle.quic_machine.specs.End.{End}
use Rattle.quic_machine.specs.Receive.{Progress, fault_of, take_frame}
use Rattle.quic_connection_parts.specs.Faults.{TakesAs, holding}
use Rattle.quic_connection_parts.proofs.stream_frames.take_other.Goals as goal

-- a frame of another kind is held to its rule alone
pub returns-in_default : goal.returns-in_default
returns-in_default c = λ (e : End).
    let old : End = holding c.args.streams.now e in
    let held : take_frame (frame_view c.args.frame.now) old ≡ record { end = old; fault = fault_of (broken c.args.streams.now.state (id_rule (frame_view c.args.frame.now))) } = search rules in
    let broke : c.breach.result ≡ broken c.args.streams.now.state (id_rule (frame_view c.args.frame.now)) = c.breach.ensures ∙ ap (λ (r : IdRule). broken c.args.streams.now.state r) c.of.ensures in
    subst (λ (p : Progress). TakesAs c.refuse.result p old) (ap (λ (b : Option Breach). record { end = old; fault = fault_of b }) broke ∙ sym held) (c.refuse.ensures old)
