-- An end keeps its path, but where its peer moved: the path is the next one then (RFC 9000, section
-- 9.3).
use Rattle.std.proofs.Common.{◌≡◌, ℕ, ◌+◌, ◌<◌, Bool, true, false, not, ◌==◌, List, Ok, refl, ap, ◌∙◌, arith}
use Rattle.std.proofs.lemmas.Bool.{eqb-true, eq-eqb}
use Rattle.quic_wire.specs.Value.{FrameValue}
use Rattle.quic_packet.specs.Datagram.{Opening}
use Rattle.quic_machine.specs.declared.run.Call.{Call}
use Rattle.quic_machine.specs.declared.run.Answer.{Answer}
use Rattle.quic_machine.specs.declared.run.Answer.TheVariants as answers
use Rattle.quic_machine.specs.Policy.{Policy}
use Rattle.quic_machine.specs.End.{End}
use Rattle.quic_machine.specs.IdFrames.{end_on_next_id}
use Rattle.quic_machine.specs.Receive.{take_frame}
use Rattle.quic_machine.specs.Migration.{migrated, has_moved}
use Rattle.quic_machine.specs.Poll.{polled}
use Rattle.quic_machine.specs.Machine.{after_call}
use Rattle.quic_machine.specs.CallCases.{is_delivery}
use Rattle.quic_headline.proofs.Packets.Moving.{by_moves}
use Rattle.quic_headline.proofs.Packets.EndMoves.{Move, Cause, cause_of, IsPacket, after, OfFrame, Keeps}
use Rattle.quic_headline.proofs.Packets.EndMoves as moves
use Rattle.quic_headline.proofs.Packets.ByMoves.{no_packet, behind_frame, behind_poll, behind_next_id, behind_call}

-- an end is on this path
abbrev IsOn : ℕ → End → Type 0
IsOn n e = e.path.generation ≡ n

on_path : (n : ℕ) (by : Cause) → (IsPacket by → ⊥) → Keeps by (IsOn n)
on_path n by apart (moves.leads remote) e may i = absurd (apart may)
on_path n by apart m e may i = i

-- no frame leads it to another
pub frame_stays : (f : FrameValue) (e : End) → (take_frame f e).end.path.generation ≡ e.path.generation
frame_stays f e = behind_frame f (IsOn e.path.generation) keep e refl
  where
    keep : (m : Move) (x : End) → OfFrame f m x → IsOn e.path.generation x → IsOn e.path.generation (after m x)
    keep (moves.leads remote) x of i = absurd of
    keep m x of i = i

-- nor does another id
pub next_stays : (e : End) (a : Answer) → (end_on_next_id e a).path.generation ≡ e.path.generation
next_stays e a = behind_next_id (IsOn e.path.generation) (on_path e.path.generation moves.other (λ none. none)) e a refl

-- the path of a peer that moved is the next one
pub moved_next : (p : Policy) (o : Opening) (remote : ℕ) (e : End) → (migrated p o remote e).path.generation ≡ e.path.generation + 1
moved_next p o remote e = by_moves (IsOn (e.path.generation + 1)) p o remote e refl (λ word x i. i) (λ x i. i) (λ x i. next_stays x (answers.UseNextId (Ok tt)) ∙ i) (λ token x i. i) (λ x i. i)

pub polled_stays : (p : Policy) (e : End) (now : ℕ) → (polled p e now).end.path.generation ≡ e.path.generation
polled_stays p e now = behind_poll (IsOn e.path.generation) (on_path e.path.generation moves.poll (λ none. none)) p e now refl

-- so only a datagram that comes does
pub apart_stays : (p : Policy) (e : End) (theirs : List (List ℕ)) (call : Call) (a : Answer) → is_delivery call ≡ false → (after_call p e theirs call a).path.generation ≡ e.path.generation
apart_stays p e theirs call a apart = behind_call (IsOn e.path.generation) p e theirs call a (on_path e.path.generation (cause_of call) (no_packet call apart)) refl

-- whether it has another is told by its number
pub same_path : (e f : End) → f.path.generation ≡ e.path.generation → has_moved e f ≡ false
same_path e f is = ap not (eq-eqb f.path.generation e.path.generation is)

pub other_path : (e f : End) → e.path.generation < f.path.generation → has_moved e f ≡ true
other_path e f above = go (f.path.generation == e.path.generation) refl
  where
    go : (b : Bool) → (f.path.generation == e.path.generation) ≡ b → not b ≡ true
    go false is = refl
    go true is = (let same = eqb-true f.path.generation e.path.generation is in absurd (omega (arith, above, same)))
