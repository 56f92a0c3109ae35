use Rattle.std.proofs.Common.{Some, refl, inr, ◌∙◌}
use Rattle.quic_lines.specs.Language.{command_of}
use Rattle.quic_lines.proofs.Saying.{words_stand}
use Rattle.quic_lines.proofs.script.parse_text.Goals as goal

pub returns-in-Some : goal.returns-in-Some
returns-in-Some c = inr (refl, c.in_ok-parsed.ensures ∙ rw c.in-Some.is (words_stand c.in-Some.field-0.now (Some (command_of c.in_ok-parsed.parsed))))
