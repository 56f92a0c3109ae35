-- An end tells no more often that something happened than bytes came in datagrams that weren't
-- dropped and writes were blocked, as long as it doesn't fail; beside these it tells once at most
-- of each stream that it is finished, and once that it is lost.
use Rattle.std.proofs.Common.{◌≡◌, ℕ, zero, suc, ◌+◌, ◌≤◌, Bool, false, List, [], ◌∷◌, take, refl, sym, subst, arith}
use Rattle.std.specs.List.{list_any}
use Rattle.std.proofs.lemmas.Bool.{or_parts}
use Rattle.quic_packet.specs.Keys.{KeepsLength, OpensNoMore}
use Rattle.quic_machine.specs.declared.run.Call.{Call}
use Rattle.quic_machine.specs.declared.run.Call.TheVariants as calls
use Rattle.quic_machine.specs.declared.run.Answer.{Answer}
use Rattle.quic_machine.specs.Policy.{Policy}
use Rattle.quic_machine.specs.Control.{Control}
use Rattle.quic_machine.specs.Heard.{Heard}
use Rattle.quic_machine.specs.End.{End}
use Rattle.quic_machine.specs.Machine.{IsLeft, reads_window, end_left, fails}
use Rattle.quic_headline.specs.Alone.{Lone, IsLoneStep, FollowsAlone}
use Rattle.quic_headline.specs.FewEvents.{told_in, came_in, blocked_in, counted, TellsFew}
use Rattle.quic_headline.proofs.Alone.Places.{made_holds}
use Rattle.quic_headline.proofs.Alone.Told.{to_tell, call_tells}
use Rattle.quic_headline.proofs.Alone.Finished.{finished_once}
use Rattle.quic_headline.proofs.Alone.Lost.{lost_once}

module _ (p : Policy) (theirs : List (List ℕ)) (keeps : KeepsLength p.header.reveal) (opens : OpensNoMore p.packet.unseal) where
  -- whatever a call reads
  read_tells : (control : Control) (heard : Heard) (call : Call) (e : End) → to_tell (reads_window control heard call e) ≡ to_tell e
  read_tells control heard (calls.Poll now) e = refl
  read_tells control heard call e = refl

  -- a call that doesn't fail
  step_tells : (x next : Lone) (call : Call) (a : Answer) → IsLoneStep p theirs x call a next → fails a ≡ false → told_in call a + to_tell next.end ≤ to_tell x.end + came_in theirs call a + blocked_in call a
  step_tells x next call a s served =
      let left : next.end ≡ end_left p x.control x.heard x.end theirs call a = subst (λ (b : Bool). IsLeft b p x.control x.heard x.end theirs call a next.end) served s.end in
      subst (λ (m : ℕ). told_in call a + to_tell next.end ≤ m + came_in theirs call a + blocked_in call a) (read_tells x.control x.heard call x.end)
      (subst (λ (y : End). told_in call a + to_tell y ≤ to_tell (reads_window x.control x.heard call x.end) + came_in theirs call a + blocked_in call a) (sym left) (call_tells p (reads_window x.control x.heard call x.end) theirs call a keeps opens s.answer))

  -- what the first calls tell was to be told, or came by them, or they saw it blocked
  few_told : (i : ℕ) (x left : Lone) (cs : List Call) (told : List Answer) → FollowsAlone p theirs x cs told left → list_any fails (take i told) ≡ false
      → counted told_in (take i cs) (take i told) ≤ to_tell x.end + counted (came_in theirs) (take i cs) (take i told) + counted blocked_in (take i cs) (take i told)
  few_told zero x left cs told f served = omega arith
  few_told (suc i) x left [] [] f served = omega arith
  few_told (suc i) x left [] (b ∷ told) f served = absurd f
  few_told (suc i) x left (c ∷ cs) [] f served = absurd f
  few_told (suc i) x left (c ∷ cs) (b ∷ told) f served =
      let both = or_parts (fails b) (list_any fails (take i told)) served in
      let first = step_tells x f.0 c b f.1 both.0 in
      let others = few_told i f.0 left cs told f.2 both.1 in
      omega arith

pub tells_few : (p : Policy) (theirs : List (List ℕ)) (x left : Lone) (calls : List Call) (told : List Answer) → TellsFew p theirs x calls told left
tells_few p theirs x left cs told new keeps opens f i served = record {
  few = (
      let none : to_tell x.end ≡ 0 = made_holds (λ (e : End). to_tell e ≡ 0) x.end new (λ peer. refl) in
      let most = few_told p theirs keeps opens i x left cs told f served in
      omega arith);
  finished = finished_once p theirs x left cs told new f i served;
  lost = lost_once p theirs x left cs told new f i served;
}
