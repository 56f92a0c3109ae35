-- A datagram that is dropped changes nothing of its end but which numbers opened, and that a close
-- is to go once more.
use Rattle.std.proofs.Common.{◌≡◌, ℕ, Bool, true, false, List, Option, Some, None, Result, Ok, Err, sym, ap, ◌∙◌, subst}
use Rattle.std.specs.Prelude.{if◌then◌else◌}
use Rattle.quic_wire_core.specs.declared.shared.EcnCodepoint.{EcnCodepoint}
use Rattle.quic_wire.specs.Items.{items}
use Rattle.quic_packet.specs.Header.{key_phase}
use Rattle.quic_packet.specs.Datagram.{Opening}
use Rattle.quic_recovery_core.specs.Duplicates.{is_duplicate}
use Rattle.quic_spaces.specs.Numbers.{number_opened}
use Rattle.quic_machine.specs.Arrival.{Arrival}
use Rattle.quic_machine.specs.Closing.{close_asked}
use Rattle.quic_machine.specs.declared.answers.State.{State}
use Rattle.quic_machine.specs.declared.answers.State.TheVariants as states
use Rattle.quic_machine.specs.declared.answers.DropReason.{DropReason}
use Rattle.quic_machine.specs.declared.answers.DropReason.TheVariants as drops
use Rattle.quic_machine.specs.declared.answers.Received.TheVariants as receives
use Rattle.quic_machine.specs.Policy.{Policy}
use Rattle.quic_machine.specs.End.{End, with_closing, with_numbers}
use Rattle.quic_machine.specs.Opens.{head}
use Rattle.quic_machine.specs.Receive.{Fault, broke, too_many_pieces, closed_by_peer, Outcome, asks_in, is_urged, take_payload, ends_as, by_state, opened_to, opened_as, opening, dropped, headed, unopened_in, received_in, is_read, is_taken, items_taken, drawn_if, with_ids_drawn, received}
use Rattle.quic_machine.specs.FrameCases.{begun}
use Rattle.quic_headline.proofs.Packets.Moved.{by_migration}

-- What each step keeps that a datagram which is dropped makes of an end.
pub record Ignores (P : End → Type 0) : Type 0 where
  pub notes : (n : ℕ) (e : End) → P e → P (with_numbers e (number_opened e.numbers n))
  pub asks_close : (e : End) → P e → P (with_closing e (close_asked e.closing))

-- what comes of a datagram keeps a fact, if that is that it was dropped
abbrev KeepsDropped : (End → Type 0) → Outcome → Type 0
KeepsDropped P o = (reason : DropReason) → o.answer ≡ receives.Dropped reason → P o.end

module _ (P : End → Type 0) (c : Ignores P) where
  -- what was read isn't dropped
  ends_kept : (fault : Option Fault) (asks urged : Bool) (n : ℕ) (mark : Option EcnCodepoint) (e : End) → KeepsDropped P (ends_as fault asks urged n mark e)
  ends_kept None asks urged n mark e reason is = cc
  ends_kept (Some (closed_by_peer close)) asks urged n mark e reason is = cc
  ends_kept (Some (broke error)) asks urged n mark e reason is = cc
  ends_kept (Some too_many_pieces) asks urged n mark e reason is = cc

  state_kept : (state : State) (o : Opening) (arrival : Arrival) (e : End) → P e → KeepsDropped P (by_state state o arrival (with_numbers e (number_opened e.numbers o.number)))
  state_kept states.Open o arrival e i reason is =
      let begins = begun e arrival.now o.number in
      let asks = asks_in (items o.payload) in
      let taken = take_payload o.first (items_taken o arrival e) begins in
      ends_kept taken.fault asks (is_urged arrival.mark asks (items_taken o arrival e) begins) o.number arrival.mark taken.end reason is
  state_kept states.Closing o arrival e i reason is = c.asks_close (with_numbers e (number_opened e.numbers o.number)) (c.notes o.number e i)
  state_kept states.Drained o arrival e i reason is = c.notes o.number e i
  state_kept states.Failed o arrival e i reason is = c.notes o.number e i

  opened_kept : (o : Opening) (arrival : Arrival) (e : End) → P e → KeepsDropped P (opened_to o arrival e)
  opened_kept o arrival e i = go (key_phase o.first) (is_duplicate e.numbers.opened o.number)
    where
      go : (a b : Bool) → KeepsDropped P (if a then dropped drops.KeyPhase e else (if b then dropped drops.Duplicate e else by_state e.closing.state o arrival (with_numbers e (number_opened e.numbers o.number))))
      go true b reason is = i
      go false true reason is = i
      go false false reason is = state_kept e.closing.state o arrival e i reason is

  unopened_kept : (state : State) (b : Bool) (arrival : Arrival) (e : End) → P e → KeepsDropped P (unopened_in state b arrival e)
  unopened_kept states.Open true arrival e i reason is = cc
  unopened_kept states.Open false arrival e i reason is = i
  unopened_kept states.Closing b arrival e i reason is = i
  unopened_kept states.Drained b arrival e i reason is = i
  unopened_kept states.Failed b arrival e i reason is = i

  -- no ids are drawn behind it, and its end has no other path
  packet_kept : (o : Option Opening) (p : Policy) (arrival : Arrival) (e : End) → P e → KeepsDropped P (opened_as o p arrival e)
  packet_kept None p arrival e i = unopened_kept e.closing.state arrival.last arrival e i
  packet_kept (Some o) p arrival e i = by_migration (KeepsDropped P) p o arrival.remote e (with_ids_drawn p (opened_to o arrival e))
      (λ reason is. subst (λ (b : Bool). P (drawn_if b p (opened_to o arrival e).end)) (sym (ap is_read is)) (opened_kept o arrival e i reason is))
      (λ moved taken opened reason is. (let clash : false ≡ true = sym (ap is_taken is) ∙ taken in cc))

  headed_kept : (r : Result (List ℕ) DropReason) (p : Policy) (e : End) (arrival : Arrival) (d : List ℕ) → P e → KeepsDropped P (headed r p e arrival d)
  headed_kept (Err error) p e arrival d i reason is = i
  headed_kept (Ok id) p e arrival d i reason is = packet_kept (opening p e d) p arrival e i reason is

  received_kept : (state : State) (p : Policy) (e : End) (arrival : Arrival) (d : List ℕ) → P e → KeepsDropped P (received_in state p e arrival d)
  received_kept states.Failed p e arrival d i reason is = i
  received_kept states.Drained p e arrival d i reason is = i
  received_kept states.Open p e arrival d i reason is = headed_kept (head e arrival.remote d) p e arrival d i reason is
  received_kept states.Closing p e arrival d i reason is = headed_kept (head e arrival.remote d) p e arrival d i reason is

-- what these steps keep holds after a datagram that is dropped
pub dropped_keeps : (P : End → Type 0) → Ignores P → (p : Policy) (e : End) (arrival : Arrival) (d : List ℕ) (reason : DropReason) → (received p e arrival d).answer ≡ receives.Dropped reason → P e → P (received p e arrival d).end
dropped_keeps P c p e arrival d reason is i = received_kept P c e.closing.state p e arrival d i reason is
