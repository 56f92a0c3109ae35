use Rattle.std.proofs.Common.{[], ◌++◌, sym, ap, ◌∙◌, append_assoc, rules}
use Rattle.std.proofs.Output.{has_written_append, has_written_of_eq, writes_in_calls_nil}
use Rattle.std.proofs.lemmas.List.{append-nil}
use Rattle.std.proofs.lemmas.Str.{utf8_lossy_empty}
use Rattle.quic_wire.specs.Close.{piece_text}
use Rattle.quic_wire.proofs.Closes.{piece_lossy}
use Rattle.quic_wire.proofs.frame.close.write_text.Goals as goal

pub loop-chunk-init : goal.loop-chunk-init
loop-chunk-init g c = λ plain. ([], record { wrote = writes_in_calls_nil _ _; plain = plain }, search rules)

pub loop-chunk-preserved : goal.loop-chunk-preserved
loop-chunk-preserved g c =
    λ plain.
    let now = c.loop-chunk.invariant plain in
    let steps = c.in-Some.ensures.steps in
    let piece = piece_text c.in-Some.chunk.valid.now c.in-Some.chunk.invalid.now in (
      now.0 ++ piece,
      has_written_append _ _ _ _ _ _ now.1 (search rules),
      append_assoc now.0 piece _ ∙ ap (λ l. now.0 ++ l) (piece_lossy _ _ _ _ steps.0 steps.3.0 steps.3.1 steps.2) ∙ now.2,
    )

pub returns : goal.returns
returns g c =
    λ plain ok.
    let now = c.loop-chunk.invariant plain in
    has_written_of_eq _ _ _ _ _ (sym (append-nil now.0) ∙ ap (λ l. now.0 ++ l) (sym (utf8_lossy_empty _ c.in-None.ensures.steps.0)) ∙ now.2) now.1
