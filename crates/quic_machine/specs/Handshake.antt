-- That the handshake is done (RFC 9001, section 4.1.2): a server's application says so, and its
-- peer is told by HANDSHAKE_DONE, which goes until it is acknowledged (RFC 9000, sections 13.3 and
-- 19.20). Of the handshake itself nothing is said here.
use Rattle.std.specs.Prelude.{Bool, true, false, Result, Ok, Err}
use Rattle.quic_wire_core.specs.declared.stream_id.Side.{Side}
use Rattle.quic_wire_core.specs.declared.stream_id.Side.TheVariants.{Client, Server}
use Rattle.quic_machine.specs.declared.answers.HandshakeDoneError.{HandshakeDoneError}
use Rattle.quic_machine.specs.declared.answers.HandshakeDoneError.TheVariants as done_errors
use Rattle.quic_machine.specs.declared.run.Answer.{Answer}
use Rattle.quic_machine.specs.declared.run.Answer.TheVariants as answers
use Rattle.quic_machine.specs.Parts.{said_done}
use Rattle.quic_machine.specs.End.{End, side_of, with_confirmation, with_done}
use Rattle.quic_machine.specs.Calls.{is_open}

-- what the call is answered at this end, where it was made before or not, and where that is open or
-- not: only a server sends HANDSHAKE_DONE (section 19.20), it says so once, and one that isn't open
-- sends nothing but its close (section 10.2)
abbrev pub done_judged : Side → Bool → Bool → Result (Unit {0}) HandshakeDoneError
done_judged Client was is_open = Err done_errors.Client
done_judged Server true is_open = Err done_errors.Again
done_judged Server false false = Err done_errors.NotOpen
done_judged Server false true = Ok tt

-- so it is answered by an end
abbrev pub done_answer : End → Result (Unit {0}) HandshakeDoneError
done_answer e = done_judged (side_of e) e.confirmation.confirmed (is_open e.closing.state)

-- the handshake is confirmed, and the peer is to be told so
abbrev pub after_done : End → End
after_done e = with_done (with_confirmation e said_done) true

-- what the call leaves, by its answer: an error changes nothing
abbrev pub end_on_done : End → Answer → End
end_on_done e (answers.HandshakeDone (Ok done)) = after_done e
end_on_done e a = e
