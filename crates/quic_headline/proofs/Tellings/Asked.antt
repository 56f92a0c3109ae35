-- An end asks its peer nothing where the peer's address is validated: no challenge no it is open,
-- and its timer of path validation isn't set.
use Rattle.std.proofs.Common.{◌≡◌, ℕ, Bool, true, false, List, Option, None, refl, ap, inl, inr}
use Rattle.std.proofs.lemmas.Bool.{both_ways}
use Rattle.quic_wire_core.specs.declared.stream_id.Side.{Side}
use Rattle.quic_wire.specs.Value.{FrameValue}
use Rattle.quic_parameters.specs.Parameters.{ParameterValues}
use Rattle.quic_config.specs.Transport.{Settings}
use Rattle.quic_time.specs.Timers.{has_come}
use Rattle.quic_machine.specs.declared.run.Call.{Call}
use Rattle.quic_machine.specs.declared.run.Answer.{Answer}
use Rattle.quic_machine.specs.Policy.{Policy}
use Rattle.quic_machine.specs.Parts.{Windows}
use Rattle.quic_machine.specs.End.{End, new_end}
use Rattle.quic_machine.specs.Receive.{take_frame}
use Rattle.quic_machine.specs.Machine.{after_call}
use Rattle.quic_headline.proofs.Packets.EndMoves.{Move, Cause, cause_of, after, OfFrame, Keeps}
use Rattle.quic_headline.proofs.Packets.EndMoves as moves
use Rattle.quic_headline.proofs.Packets.ByMoves.{behind_frame, behind_call}

-- nothing is asked, and no moment is set to ask
abbrev pub IsUnasked : End → Type 0
IsUnasked e = (e.validation.challenge ≡ None) × (e.timers.path_validation ≡ None)

-- so it is where the address of the peer is validated
abbrev pub IsUnaskedIf : End → Type 0
IsUnaskedIf e = e.path.validated ≡ true → IsUnasked e

-- so is an end that is made
pub first_unasked : (side : Side) (settings : Settings) (windows : Windows) (theirs : ParameterValues) (own_id peer_id : List ℕ) (remote now : ℕ) (validated : Bool) (words : ℕ → ℕ) → IsUnaskedIf (new_end side settings windows theirs own_id peer_id remote now validated words)
first_unasked side settings windows theirs own_id peer_id remote now true words is = (refl, refl)
first_unasked side settings windows theirs own_id peer_id remote now false words is = cc

-- ---- moves

-- what doesn't ask anew leaves an end so that asks nothing
abbrev Silent : Move → Type 0
Silent (moves.asked word) = ⊥
Silent m = Unit {0}

unasked : (m : Move) (e : End) → Silent m → IsUnasked e → IsUnasked (after m e)
unasked (moves.asked word) e other i = absurd other
unasked moves.validated e other i = (refl, refl)
unasked moves.stops e other i = (i.0, refl)
unasked (moves.closes reason close) e other i = (i.0, refl)
unasked (moves.drains reason) e other i = (i.0, refl)
unasked moves.over e other i = (i.0, refl)
unasked (moves.leads remote) e other i = (refl, i.1)
unasked m e other i = i

pub frame_unasked : (f : FrameValue) (e : End) → IsUnasked e → IsUnasked (take_frame f e).end
frame_unasked f e i = behind_frame f IsUnasked keep e i
  where
    keep : (m : Move) (x : End) → OfFrame f m x → IsUnasked x → IsUnasked (after m x)
    keep (moves.asked word) x of j = absurd of
    keep m x of j = unasked m x tt j

-- and the peer isn't asked anew whose address is validated
unasked_if : (by : Cause) → Keeps by IsUnaskedIf
unasked_if by (moves.asked word) e (inl other) i = λ is. absurd (both_ways e.path.validated other is)
unasked_if by (moves.asked word) e (inr came) i = λ is. absurd (both_ways (has_come e.timers.path_validation e.closing.clock) (ap (λ (o : Option ℕ). has_come o e.closing.clock) (i is).1) came)
unasked_if by moves.validated e may i = λ is. (refl, refl)
unasked_if by (moves.leads remote) e may i = λ is. cc
unasked_if by m e may i = λ is. unasked m e tt (i is)

-- any call leaves it so
pub call_unasked : (p : Policy) (e : End) (theirs : List (List ℕ)) (call : Call) (a : Answer) → IsUnaskedIf e → IsUnaskedIf (after_call p e theirs call a)
call_unasked p e theirs call a i = behind_call IsUnaskedIf p e theirs call a (unasked_if (cause_of call)) i
