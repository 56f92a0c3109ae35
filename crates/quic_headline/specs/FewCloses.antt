-- How often an end that is closing gives its close, whatever its peer sends (RFC 9000, section
-- 10.2.1).
use Rattle.std.specs.Prelude.{ℕ, ◌+◌, ◌≤◌, ◌≡◌, if◌then◌else◌, List}
use Rattle.quic_machine.specs.declared.answers.State.TheVariants as states
use Rattle.quic_machine.specs.declared.run.Call.{Call}
use Rattle.quic_machine.specs.declared.run.Answer.{Answer}
use Rattle.quic_machine.specs.End.{End}
use Rattle.quic_machine.specs.Machine.{gave}
use Rattle.quic_headline.specs.Closes.{asks_again}
use Rattle.quic_headline.specs.FewEvents.{counted}

-- an end is closing
abbrev pub IsClosing : End → Type 0
IsClosing e = e.closing.state ≡ states.Closing

-- how many datagrams a call gave
abbrev pub gave_in : Call → Answer → ℕ
gave_in call a = if gave a then 1 else 0

-- how many came by it that ask a closing end for its close once more: they opened, under numbers
-- that didn't come before
abbrev pub asked_in : Call → Answer → ℕ
asked_in call a = if asks_again a then 1 else 0

-- These calls gave no more datagrams than came by them that ask for a close, and one.
abbrev pub CloseFew : List Call → List Answer → Type 0
CloseFew cs told = counted gave_in cs told ≤ counted asked_in cs told + 1
