-- The number that went next as a round trip was first measured: what calls leave of it, and of how
-- long a round trip takes.
use Rattle.std.proofs.Common.{◌≡◌, ℕ, false, List, Option, Some, None, refl, sym, ap, ◌∙◌, subst}
use Rattle.quic_wire.specs.Value.{FrameValue}
use Rattle.quic_packet.specs.Datagram.{Opening}
use Rattle.quic_machine.specs.declared.run.Call.{Call}
use Rattle.quic_machine.specs.declared.run.Answer.{Answer}
use Rattle.quic_machine.specs.Arrival.{Arrival}
use Rattle.quic_machine.specs.Policy.{Policy}
use Rattle.quic_machine.specs.Parts.{Path}
use Rattle.quic_machine.specs.End.{End}
use Rattle.quic_machine.specs.Receive.{take_frame}
use Rattle.quic_machine.specs.Migration.{migrated}
use Rattle.quic_machine.specs.Machine.{after_delivered, after_call}
use Rattle.quic_machine.specs.CallCases.{is_delivery}
use Rattle.quic_machine.specs.FrameCases.{by_received}
use Rattle.quic_headline.specs.Telling.{Judging, measured_first}
use Rattle.quic_headline.proofs.Tellings.Acks.{IsSet, frame_set}
use Rattle.quic_headline.proofs.Packets.Heard.{by_taken}
use Rattle.quic_headline.proofs.Packets.Moved.{by_migrated}
use Rattle.quic_headline.proofs.Packets.EndMoves.{Cause, cause_of, IsPacket, Keeps}
use Rattle.quic_headline.proofs.Packets.EndMoves as moves
use Rattle.quic_headline.proofs.Packets.ByMoves.{no_packet, behind_call}

-- ---- calls that are no deliveries

-- what is measured of two ends is the same
abbrev pub Measured : Path → Path → Type 0
Measured p q = (q.first_after_rtt ≡ p.first_after_rtt) × (q.rtt ≡ p.rtt)

-- only an ACK frame measures one
measured_kept : (path : Path) (by : Cause) → (IsPacket by → ⊥) → Keeps by (λ (x : End). Measured path x.path)
measured_kept path by apart (moves.measured_as r first) x may i = absurd (apart may)
measured_kept path by apart m x may i = i

pub call_measured : (p : Policy) (e : End) (theirs : List (List ℕ)) (call : Call) (a : Answer) → is_delivery call ≡ false → Measured e.path (after_call p e theirs call a).path
call_measured p e theirs call a apart = behind_call (λ (x : End). Measured e.path x.path) p e theirs call a (measured_kept e.path (cause_of call) (no_packet call apart)) (refl, refl)

-- ---- a delivery

-- an end is judged so, but on the path that it has
abbrev pub IsSetThere : Judging → End → Type 0
IsSetThere j e = IsSet (record j { generation = e.path.generation }) e

frame_there : (j : Judging) (f : FrameValue) (e : End) → IsSetThere j e → IsSetThere j (take_frame f e).end
frame_there j f e i = (let on = frame_set (record j { generation = e.path.generation }) f e i in subst (λ (n : ℕ). IsSet (record j { generation = n }) (take_frame f e).end) (sym on.path) on)

moved_there : (j : Judging) (p : Policy) (o : Opening) (remote : ℕ) (e : End) → IsSetThere j e → IsSetThere j (migrated p o remote e)
moved_there j p o remote e i = by_migrated (IsSetThere j) p o remote e (λ c. record { path = refl; settings = i.settings; next = i.next; measured = i.measured; limited = i.limited }) (λ c most. record { path = refl; settings = i.settings; next = i.next; measured = i.measured; limited = i.limited })

-- an end that is judged so is so behind a delivery
pub delivered_set : (j : Judging) (p : Policy) (e : End) (arrival : Arrival) (o : Option (List ℕ)) → IsSetThere j e → IsSetThere j (after_delivered p e arrival o)
delivered_set j p e arrival None i = i
delivered_set j p e arrival (Some d) i =
    by_received (IsSetThere j) (record { notes = λ n x k. k; begins = λ now n x k. k; frame = frame_there j; takes = λ n asks urged mark x k. by_taken (IsSetThere j) n asks urged mark x (λ idle alive. k); closes = λ reason x k. k; drains = λ close x k. k; asks_close = λ x k. k; exhausts = λ now x k. k; draws = λ words x k. k; moves = moved_there j }) p e arrival d i

-- ---- what is known of it

-- The first number is this, and where there is none, no round trip was measured.
pub record IsFirst (first : Option ℕ) (p : Path) : Type 0 where
  pub is : p.first_after_rtt ≡ first
  pub none : first ≡ None → p.rtt.smoothed ≡ None

-- so it is by whichever number goes next
pub first_measured : (first : Option ℕ) (next : ℕ) (p : Path) → IsFirst first p → p.first_after_rtt ≡ measured_first first next p.rtt.smoothed
first_measured (Some n) next p i = i.is
first_measured None next p i = i.is ∙ sym (ap (λ (o : Option ℕ). measured_first None next o) (i.none refl))

-- where there is none, none was measured
none_measured : (first : Option ℕ) (next : ℕ) (smoothed : Option ℕ) → measured_first first next smoothed ≡ None → smoothed ≡ None
none_measured (Some n) next smoothed is = cc
none_measured None next None is = refl
none_measured None next (Some n) is = cc

-- what is measured is known then
pub is_first : (first : Option ℕ) (next : ℕ) (p : Path) → p.first_after_rtt ≡ measured_first first next p.rtt.smoothed → IsFirst (measured_first first next p.rtt.smoothed) p
is_first first next p is = record { is = is; none = none_measured first next p.rtt.smoothed }
