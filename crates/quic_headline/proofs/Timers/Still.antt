-- An end that is open behind a call was open before it.
use Rattle.std.proofs.Common.{◌≡◌, ℕ, List}
use Rattle.quic_machine.specs.declared.answers.State.TheVariants as states
use Rattle.quic_machine.specs.declared.run.Call.{Call}
use Rattle.quic_machine.specs.declared.run.Answer.{Answer}
use Rattle.quic_machine.specs.Policy.{Policy}
use Rattle.quic_machine.specs.End.{End}
use Rattle.quic_machine.specs.Machine.{after_call}
use Rattle.quic_headline.proofs.Packets.EndMoves.{Cause, cause_of, Keeps}
use Rattle.quic_headline.proofs.Packets.EndMoves as moves
use Rattle.quic_headline.proofs.Packets.ByMoves.{behind_call}

-- it was open before
abbrev pub WasOpen : End → End → Type 0
WasOpen e f = f.closing.state ≡ states.Open → e.closing.state ≡ states.Open

opened : (e : End) (by : Cause) → Keeps by (WasOpen e)
opened e by (moves.closes reason close) x may i = λ is. cc
opened e by (moves.drains reason) x may i = λ is. cc
opened e by moves.over x may i = λ is. cc
opened e by m x may i = i

-- behind any call
pub was_open : (p : Policy) (e : End) (theirs : List (List ℕ)) (call : Call) (a : Answer) → WasOpen e (after_call p e theirs call a)
was_open p e theirs call a = behind_call (WasOpen e) p e theirs call a (opened e (cause_of call)) (λ is. is)
