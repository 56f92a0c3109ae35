-- What is handed in leaves its end as it is: either it would open and no call is made, or it
-- doesn't open and isn't the last that may not.
use Rattle.std.proofs.Common.{◌≡◌, ℕ, Bool, true, false, List, Option, Some, None, Result, Ok, Err, refl, sym, subst}
use Rattle.std.specs.Prelude.{if◌then◌else◌}
use Rattle.std.specs.Option.{is_some}
use Rattle.quic_packet.specs.Header.{key_phase}
use Rattle.quic_packet.specs.Datagram.{Opening}
use Rattle.quic_machine.specs.Arrival.{Arrival, injected_by}
use Rattle.quic_machine.specs.declared.run.Injection.{Injection}
use Rattle.quic_machine.specs.declared.answers.State.{State}
use Rattle.quic_machine.specs.declared.answers.State.TheVariants as states
use Rattle.quic_machine.specs.declared.answers.DropReason.{DropReason}
use Rattle.quic_machine.specs.declared.answers.DropReason.TheVariants as drops
use Rattle.quic_spaces.specs.Numbers.{expected, number_opened}
use Rattle.quic_recovery_core.specs.Duplicates.{is_duplicate}
use Rattle.quic_machine.specs.Policy.{Policy}
use Rattle.quic_machine.specs.End.{End, with_numbers}
use Rattle.quic_machine.specs.Opens.{head, in_phase, opens_behind, would_open}
use Rattle.quic_machine.specs.Receive.{Outcome, dropped, by_state, unopened_in, opened_as, opening, headed, received_in, with_ids_drawn, with_migration}
use Rattle.quic_machine.specs.Machine.{after_injected_if}
use Rattle.quic_headline.proofs.Packets.Moved.{by_migration}

unopened_stays : (state : State) (arrival : Arrival) (e : End) → (unopened_in state false arrival e).end ≡ e
unopened_stays states.Open arrival e = refl
unopened_stays states.Closing arrival e = refl
unopened_stays states.Drained arrival e = refl
unopened_stays states.Failed arrival e = refl

packet_stays : (o : Option Opening) (p : Policy) (arrival : Arrival) (e : End) → arrival.last ≡ false → is_some (in_phase o) ≡ false → (opened_as o p arrival e).end ≡ e
packet_stays None p arrival e early none = subst (λ (b : Bool). (unopened_in e.closing.state b arrival e).end ≡ e) (sym early) (unopened_stays e.closing.state arrival e)
packet_stays (Some o) p arrival e early none = go (key_phase o.first) none
  where
    go : (b : Bool) → is_some (if b then None else Some o) ≡ false
        → (with_migration p o arrival.remote e (with_ids_drawn p (if b then dropped drops.KeyPhase e else (if is_duplicate e.numbers.opened o.number then dropped drops.Duplicate e else by_state e.closing.state o arrival (with_numbers e (number_opened e.numbers o.number)))))).end ≡ e
    go true none = by_migration (λ (out : Outcome). out.end ≡ e) p o arrival.remote e (dropped drops.KeyPhase e) refl (λ moved taken opened. cc)
    go false none = cc

headed_stays : (r : Result (List ℕ) DropReason) (p : Policy) (e : End) (arrival : Arrival) (d : List ℕ) → arrival.last ≡ false → is_some (opens_behind r p (expected e.numbers) d) ≡ false → (headed r p e arrival d).end ≡ e
headed_stays (Err error) p e arrival d early none = refl
headed_stays (Ok id) p e arrival d early none = packet_stays (opening p e d) p arrival e early none

received_stays : (state : State) (p : Policy) (e : End) (arrival : Arrival) (d : List ℕ) → arrival.last ≡ false → would_open p e arrival.remote d ≡ false → (received_in state p e arrival d).end ≡ e
received_stays states.Failed p e arrival d early none = refl
received_stays states.Drained p e arrival d early none = refl
received_stays states.Open p e arrival d early none = headed_stays (head e arrival.remote d) p e arrival d early none
received_stays states.Closing p e arrival d early none = headed_stays (head e arrival.remote d) p e arrival d early none

pub injected_stays : (p : Policy) (e : End) (injection : Injection) → after_injected_if (would_open p e injection.remote injection.bytes) false p e injection ≡ e
injected_stays p e injection = go (would_open p e injection.remote injection.bytes) refl
  where
    go : (b : Bool) → would_open p e injection.remote injection.bytes ≡ b → after_injected_if b false p e injection ≡ e
    go true is = refl
    go false is = received_stays e.closing.state p e (injected_by false injection) injection.bytes refl is
