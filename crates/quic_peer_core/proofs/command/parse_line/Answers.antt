use Rattle.std.proofs.Common.{◌≡◌, length, false, refl, sym, inr, ◌∙◌, arith}
use Rattle.std.proofs.lemmas.Bool.{le-ltb}
use Rattle.std.proofs.lemmas.Str.{is_utf8-from_IsUtf8}
use Rattle.quic_lines.specs.Language.{is_skipped}
use Rattle.quic_lines.proofs.Saying.{is_utf8_not}
use Rattle.quic_peer_core.proofs.Saying.{said-words, said-no_text}
use Rattle.quic_peer_core.proofs.command.parse_line.Goals as goal

pub returns-in-Ok : goal.returns-in-Ok
returns-in-Ok c =
    let line = c.args.line.now in
    let short = le-ltb 1048576 (length line) (omega arith) in
    let stands : is_skipped line ≡ false = sym c.is_skipped.ensures ∙ c.if-is_skipped.false in
    let text = is_utf8-from_IsUtf8 line c.in-Ok.ensures.cases.1 in
    rw (said-words line short stands text) (rw c.in-Ok.ensures.cases.0 at c.parse_text.ensures)

pub returns-in-Err : goal.returns-in-Err
returns-in-Err c =
    let line = c.args.line.now in
    let short = le-ltb 1048576 (length line) (omega arith) in
    let stands : is_skipped line ≡ false = sym c.is_skipped.ensures ∙ c.if-is_skipped.false in
    let none = is_utf8_not line c.in-Err.ensures.cases.0 in
    inr (refl, said-no_text line short stands none)
