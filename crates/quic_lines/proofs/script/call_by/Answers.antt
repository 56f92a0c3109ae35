use Rattle.quic_lines.specs.declared.script.LineError.TheVariants.{BadCommand}
use Rattle.quic_lines.specs.Named.{timer_named}
use Rattle.quic_lines.specs.Language.{asks_timer, words_left}
use Rattle.quic_lines.proofs.Saying.{one-read}
use Rattle.quic_lines.proofs.script.call_by.Goals as goal

pub returns-in_ok-timer-in-Timer : goal.returns-in_ok-timer-in-Timer
returns-in_ok-timer-in-Timer c =
    let read = c.in_ok-timer-in-Timer.ensures in
    rw (c.in-Timer.is, read.rest) (one-read asks_timer timer_named BadCommand (words_left c.args.words.now.rest) _ read.answer)
