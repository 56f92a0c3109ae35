use Rattle.std.proofs.Common.{ap}
use Rattle.quic_lines.specs.declared.script.LineError.TheVariants.{BadCommand}
use Rattle.quic_lines.specs.Language.{number_named, setting_with, within, words_left}
use Rattle.quic_lines.proofs.Saying.{one-read, read-within}
use Rattle.quic_lines.proofs.script.setting_of.Goals as goal

pub returns : goal.returns
returns c =
    let read = c.in_ok-value.ensures in
    let name = c.args.name.now in
    let whole = ap within (one-read (setting_with name) number_named BadCommand (words_left c.args.words.now.rest) _ read.answer) in
    rw (c.ok_or.ensures.value, c.setting_with.ensures, read.rest) (read-within (setting_with name c.in_ok-value.value) _ _ whole)
