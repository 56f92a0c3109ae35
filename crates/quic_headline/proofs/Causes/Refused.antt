-- A packet that is answered to be refused leaves an end closed for a reason of its own: not for
-- that the peer closed, and not open.
use Rattle.std.proofs.Common.{◌≡◌, ℕ, Bool, true, false, List, Option, Some, None, Result, Ok, Err, sym, ◌∙◌, inl, inr}
use Rattle.std.specs.Prelude.{if◌then◌else◌}
use Rattle.quic_wire_core.specs.TransportError.{ErrorValue}
use Rattle.quic_wire_core.specs.declared.shared.EcnCodepoint.{EcnCodepoint}
use Rattle.quic_wire.specs.Close.{CloseValue}
use Rattle.quic_wire.specs.Items.{items}
use Rattle.quic_packet.specs.Header.{key_phase}
use Rattle.quic_packet.specs.Datagram.{Opening}
use Rattle.quic_recovery_core.specs.Duplicates.{is_duplicate}
use Rattle.quic_spaces.specs.Numbers.{number_opened}
use Rattle.quic_machine.specs.Arrival.{Arrival, delivered_by}
use Rattle.quic_machine.specs.declared.answers.State.{State}
use Rattle.quic_machine.specs.declared.answers.State.TheVariants as states
use Rattle.quic_machine.specs.declared.answers.DropReason.{DropReason}
use Rattle.quic_machine.specs.declared.answers.DropReason.TheVariants as drops
use Rattle.quic_machine.specs.declared.answers.LostReason.{LostReason}
use Rattle.quic_machine.specs.declared.answers.LostReason.TheVariants as reasons
use Rattle.quic_machine.specs.declared.answers.Received.{Received}
use Rattle.quic_machine.specs.declared.answers.Received.TheVariants.{Closed}
use Rattle.quic_machine.specs.declared.answers.Received.TheVariants as receives
use Rattle.quic_machine.specs.declared.run.Delivery.{Delivery}
use Rattle.quic_machine.specs.declared.run.Answer.{Answer}
use Rattle.quic_machine.specs.declared.run.Answer.TheVariants as answers
use Rattle.quic_machine.specs.Policy.{Policy}
use Rattle.quic_machine.specs.Closing.{Closing, ticked}
use Rattle.quic_machine.specs.End.{End, with_closing, with_numbers, closed_by}
use Rattle.quic_machine.specs.Opens.{head}
use Rattle.quic_machine.specs.Receive.{Fault, broke, too_many_pieces, closed_by_peer, Outcome, asks_in, is_urged, take_payload, dropped, ends_as, by_state, is_read, items_taken, drawn_if, with_ids_drawn, has_migrated, opened_to, opened_as, opening, unopened_in, headed, received_in, received}
use Rattle.quic_machine.specs.Machine.{IsDelivered, after_delivered, says_last}
use Rattle.quic_headline.proofs.Packets.Moved.{by_migrated_if}

-- two deliveries that are answered alike
same_received : (r q : Received) → answers.Deliver r ≡ answers.Deliver q → r ≡ q
same_received r q is = cc

-- a reason that isn't a close of the peer's
abbrev pub IsOwn : LostReason → Type 0
IsOwn (reasons.Peer close) = ⊥
IsOwn reason = Unit {0}

-- P, which holds of no end that closes for such a reason
module _ (error : ErrorValue) (P : Closing → Type 0) (none : (reason : LostReason) (e : End) → IsOwn reason → P (closed_by reason e).closing → ⊥) where
  -- it isn't both
  abbrev NotBoth : Outcome → Type 0
  NotBoth o = o.answer ≡ Closed error → P o.end.closing → ⊥

  ends_not : (fault : Option Fault) (asking urged : Bool) (n : ℕ) (mark : Option EcnCodepoint) (e : End) → NotBoth (ends_as fault asking urged n mark e)
  ends_not None asking urged n mark e answer so = cc
  ends_not (Some (closed_by_peer other)) asking urged n mark e answer so = cc
  ends_not (Some (broke broken)) asking urged n mark e answer so = none (reasons.Transport broken) e tt so
  ends_not (Some too_many_pieces) asking urged n mark e answer so = none reasons.Pieces e tt so

  state_not : (s : State) (o : Opening) (arrival : Arrival) (e : End) → NotBoth (by_state s o arrival e)
  state_not states.Open o arrival e =
      let begins : End = with_closing e (ticked e.closing arrival.now) in
      let asks = asks_in (items o.payload) in
      let within = items_taken o arrival e in
      let taken = take_payload o.first within begins in
      ends_not taken.fault asks (is_urged arrival.mark asks within begins) o.number arrival.mark taken.end
  state_not states.Closing o arrival e = λ answer reason. cc
  state_not states.Drained o arrival e = λ answer reason. cc
  state_not states.Failed o arrival e = λ answer reason. cc

  opened_not : (o : Opening) (arrival : Arrival) (e : End) → NotBoth (opened_to o arrival e)
  opened_not o arrival e = go (key_phase o.first) (is_duplicate e.numbers.opened o.number)
    where
      go : (phase again : Bool) → NotBoth (if phase then dropped drops.KeyPhase e else (if again then dropped drops.Duplicate e else by_state e.closing.state o arrival (with_numbers e (number_opened e.numbers o.number))))
      go true again = λ answer reason. cc
      go false true = λ answer reason. cc
      go false false = state_not e.closing.state o arrival (with_numbers e (number_opened e.numbers o.number))

  drawn_not : (b : Bool) (p : Policy) (o : Outcome) → NotBoth o → NotBoth (record { answer = o.answer; end = drawn_if b p o.end })
  drawn_not true p o i = i
  drawn_not false p o i = i

  unopened_not : (s : State) (last : Bool) (arrival : Arrival) (e : End) → NotBoth (unopened_in s last arrival e)
  unopened_not states.Open true arrival e answer so = none reasons.KeyLimit (with_closing e (ticked e.closing arrival.now)) tt so
  unopened_not states.Open false arrival e answer reason = cc
  unopened_not states.Closing last arrival e answer reason = cc
  unopened_not states.Drained last arrival e answer reason = cc
  unopened_not states.Failed last arrival e answer reason = cc

  packet_not : (o : Option Opening) (p : Policy) (arrival : Arrival) (e : End) → NotBoth (opened_as o p arrival e)
  packet_not None p arrival e = unopened_not e.closing.state arrival.last arrival e
  packet_not (Some o) p arrival e =
      let out = with_ids_drawn p (opened_to o arrival e) in
      let left = drawn_not (is_read (opened_to o arrival e).answer) p (opened_to o arrival e) (opened_not o arrival e) in
      by_migrated_if (λ (x : End). NotBoth (record { answer = out.answer; end = x })) p o arrival.remote out.end (λ c. left) (λ c most. left) (has_migrated o arrival.remote e out) left

  headed_not : (r : Result (List ℕ) DropReason) (p : Policy) (e : End) (arrival : Arrival) (d : List ℕ) → NotBoth (headed r p e arrival d)
  headed_not (Err wrong) p e arrival d = λ answer reason. cc
  headed_not (Ok id) p e arrival d = packet_not (opening p e d) p arrival e

  received_not : (s : State) (p : Policy) (e : End) (arrival : Arrival) (d : List ℕ) → NotBoth (received_in s p e arrival d)
  received_not states.Failed p e arrival d = λ answer reason. cc
  received_not states.Drained p e arrival d = λ answer reason. cc
  received_not states.Open p e arrival d = headed_not (head e arrival.remote d) p e arrival d
  received_not states.Closing p e arrival d = headed_not (head e arrival.remote d) p e arrival d

  -- so it is of a datagram that comes
  pub refused_never : (p : Policy) (e : End) (arrival : Arrival) (d : List ℕ) → NotBoth (received p e arrival d)
  refused_never p e arrival d = received_not e.closing.state p e arrival d

-- a delivery isn't refused for which an end is closed by its peer
pub refused_not : (close : CloseValue) (error : ErrorValue) (p : Policy) (e : End) (delivery : Delivery) (o : Option (List ℕ)) (a : Answer) → IsDelivered p e delivery o a → a ≡ answers.Deliver (Closed error) → (after_delivered p e (delivered_by (says_last a) delivery) o).closing.reason ≡ Some (reasons.Peer close) → ⊥
refused_not close error p e delivery None a is refused reason = let clash : answers.NoDatagram ≡ answers.Deliver (Closed error) = sym is ∙ refused in cc
refused_not close error p e delivery (Some d) a (inl is) refused reason =
    refused_never error (λ (c : Closing). c.reason ≡ Some (reasons.Peer close)) none p e (delivered_by (says_last a) delivery) d (same_received (received p e (delivered_by (says_last a) delivery) d).answer (Closed error) (sym is ∙ refused)) reason
  where
    none : (why : LostReason) (x : End) → IsOwn why → (closed_by why x).closing.reason ≡ Some (reasons.Peer close) → ⊥
    none (reasons.Peer other) x own same = own
    none why x own same = cc
refused_not close error p e delivery (Some d) a (inr is) refused reason = let clash : answers.Deliver receives.Failed ≡ answers.Deliver (Closed error) = sym is ∙ refused in cc
