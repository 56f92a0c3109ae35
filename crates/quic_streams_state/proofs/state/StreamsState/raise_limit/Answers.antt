use Rattle.std.proofs.Common.{◌≡◌, ◌<◌, Option, Some, true, false, refl, sym, ap, rules, arith, ◌∙◌}
use Rattle.quic_streams_parts.specs.Table.{at}
use Rattle.quic_streams_parts.specs.SendHalf.{SendHalf}
use Rattle.quic_streams_state.specs.Parts.{Sending}
use Rattle.quic_streams_state.specs.State.{StreamsState}
use Rattle.quic_streams_state.specs.Taking.{is_used_up, noted_at}
use Rattle.quic_streams_state.proofs.Raised.{limited, limit_live, plain_raised, noted_raised}
use Rattle.quic_streams_state.proofs.state.StreamsState.raise_limit.Goals as goal
use Rattle.quic_streams_state.proofs.state.StreamsState.raise_limit.Goals.{then-is_used_up+in_ok-note_writable, else-is_used_up}

pub returns-in-Some-clause-ok : goal.returns-in-Some-clause-ok
returns-in-Some-clause-ok c =
    let s : StreamsState = c.args.self.now in
    let found : at c.args.self.now.sending.halves.live c.args.id ≡ Some c.in-Some.half.now = search rules in
    let above : c.in-Some.half.now.limit < c.args.limit = omega (arith, c.into_inner.ensures.value, c.into_inner-in-Some.ensures.value, c.max_data.ensures, c.if-into_inner.false) in
    let set = ap (λ (x : Sending). record c.if-is_used_up.self { sending = x }) c.set_max_data.ensures in
    let told = sym (limit_live s c.args.id c.in-Some.half.now c.args.limit found above) in
    elim c.if-is_used_up.branch [
      | then-is_used_up+in_ok-note_writable w ↦
          let used : is_used_up c.in-Some.half.now ≡ true = sym c.is_used_up.ensures ∙ w.if-is_used_up.true in
          let noted = w.self-is ∙ w.in_ok-note_writable.ensures.ok ∙ ap (λ (o : Option SendHalf). noted_at o s c.args.id) found in
          set ∙ ap (λ (t : StreamsState). limited t c.args.id c.args.limit) noted ∙ noted_raised s c.args.id c.in-Some.half.now c.args.limit found used ∙ told
      | else-is_used_up w ↦
          let unused : is_used_up c.in-Some.half.now ≡ false = sym c.is_used_up.ensures ∙ w.if-is_used_up.false in
          set ∙ ap (λ (t : StreamsState). limited t c.args.id c.args.limit) w.self-is ∙ plain_raised s c.args.id c.in-Some.half.now c.args.limit found unused ∙ told
    ]
