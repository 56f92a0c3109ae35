-- What calls leave of what an end marks: only a datagram that comes changes it; and what a poll
-- gives is marked so.
use Rattle.std.proofs.Common.{◌≡◌, ℕ, Bool, true, false, List, length, Some, None, Ok, refl, sym, ap, ◌∙◌}
use Rattle.std.specs.Prelude.{if◌then◌else◌}
use Rattle.quic_wire_core.specs.declared.shared.EcnCodepoint.TheVariants.{Ect0}
use Rattle.quic_machine.specs.declared.answers.Transmit.{Transmit}
use Rattle.quic_machine.specs.declared.run.Call.{Call}
use Rattle.quic_machine.specs.declared.run.Answer.{Answer}
use Rattle.quic_machine.specs.Policy.{Policy}
use Rattle.quic_machine.specs.Closing.{ticked}
use Rattle.quic_machine.specs.End.{End, with_closing, closed_by}
use Rattle.quic_machine.specs.Poll.{Polled, mark_of, gives_datagram, datagram_of, draft_as, after_close, polled, closes}
use Rattle.quic_machine.specs.Poll as poll
use Rattle.quic_machine.specs.PollCases.{at_poll, after_draft, by_poll, composes}
use Rattle.quic_machine.specs.Parts.{Path}
use Rattle.quic_machine.specs.CallCases.{is_delivery}
use Rattle.quic_machine.specs.Machine.{after_call}
use Rattle.quic_headline.specs.Marking.{Marking}
use Rattle.quic_headline.proofs.Packets.Closes.{by_closes}
use Rattle.quic_headline.proofs.Packets.Probes.{may_leave}
use Rattle.quic_headline.proofs.Marking.Judged.{IsMarked}
use Rattle.quic_headline.proofs.Packets.EndMoves.{Cause, cause_of, IsPacket}
use Rattle.quic_headline.proofs.Packets.EndMoves as moves
use Rattle.quic_headline.proofs.Packets.ByMoves.{no_packet, behind_call}

-- ---- what calls leave

-- only a datagram that comes changes it
marked : (k : Marking) (by : Cause) → (IsPacket by → ⊥) → moves.Keeps by (IsMarked k)
marked k by apart (moves.marked seen marks) e may i = absurd (apart may)
marked k by apart (moves.leads remote) e may i = absurd (apart may)
marked k by apart m e may i = i

-- a call by which nothing comes leaves it
pub apart_marked : (k : Marking) (p : Policy) (e : End) (theirs : List (List ℕ)) (call : Call) (a : Answer) → is_delivery call ≡ false → IsMarked k e → IsMarked k (after_call p e theirs call a)
apart_marked k p e theirs call a apart i = behind_call (IsMarked k) p e theirs call a (marked k (cause_of call) (no_packet call apart)) i

-- ---- what a poll gives

-- the mark of what is given, where datagrams are marked or aren't
pub mark_is : (b : Bool) → mark_of b ≡ (if b then Some Ect0 else None)
mark_is true = refl
mark_is false = refl

said_mark : (d : List ℕ) (x : End) (t : Transmit) → (gives_datagram d x).answer ≡ Ok (Some t) → t.ecn ≡ mark_of x.path.marking
said_mark d x t is = sym (ap (λ (u : Transmit). u.ecn) (same is))
  where
    same : (gives_datagram d x).answer ≡ Ok (Some t) → record { size = length d; ecn = mark_of x.path.marking; remote = x.path.remote } ≡ t
    same is = cc

pub poll_marks : (p : Policy) (e : End) (now : ℕ) (t : Transmit) → (polled p e now).answer ≡ Ok (Some t) → t.ecn ≡ mark_of e.path.marking
poll_marks p e now t = by_poll p e now Of (record {
  silent = λ is. cc;
  failed = λ is. cc;
  nothing = λ c is. cc;
  repeats = λ state. close (with_closing e (ticked e.closing now)) refl;
  closes = λ reason c bound. close (closed_by reason (at_poll e now c)) refl;
  gives = λ leaving c left state bound ready some is.
      let x : End = at_poll e now c in
      said_mark (datagram_of p (draft_as leaving x)) (after_draft p (draft_as leaving x) left) t is
      ∙ ap (λ (q : Path). mark_of q.marking) (composes leaving x (may_leave e now leaving x ready)).path;
})
  where
    Of : Polled → Type 0
    Of q = q.answer ≡ Ok (Some t) → t.ecn ≡ mark_of e.path.marking

    -- the close of an end that closes, or is closing
    close : (x : End) → x.path.marking ≡ e.path.marking → Of (closes p x)
    close x same = by_closes p x Of (λ is. cc) (λ f goes is. said_mark (datagram_of p (draft_as (poll.closing f) x)) (after_close p (draft_as (poll.closing f) x)) t is ∙ ap mark_of same)
