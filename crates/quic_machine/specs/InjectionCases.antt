-- An injection leaves its end as it is: either it would open and no call is made, or it is dropped;
-- or it is one too many that doesn't open, and the end closes.
use Rattle.std.proofs.Common.{◌≡◌, ℕ, Bool, true, false, List, Option, Some, None, Result, Ok, Err, refl}
use Rattle.std.specs.Prelude.{◌&&◌, if◌then◌else◌}
use Rattle.std.specs.Option.{is_some}
use Rattle.quic_packet.specs.Header.{key_phase}
use Rattle.quic_packet.specs.Datagram.{Opening}
use Rattle.quic_machine.specs.Arrival.{Arrival, injected_by}
use Rattle.quic_machine.specs.declared.run.Injection.{Injection}
use Rattle.quic_machine.specs.declared.answers.State.{State}
use Rattle.quic_machine.specs.declared.answers.State.TheVariants as states
use Rattle.quic_machine.specs.declared.answers.DropReason.{DropReason}
use Rattle.quic_machine.specs.declared.answers.DropReason.TheVariants as drops
use Rattle.quic_spaces.specs.Numbers.{expected, number_opened}
use Rattle.quic_recovery_core.specs.Duplicates.{is_duplicate}
use Rattle.quic_machine.specs.Policy.{Policy}
use Rattle.quic_machine.specs.End.{End, with_numbers}
use Rattle.quic_machine.specs.Opens.{in_phase, opens_behind, head, would_open}
use Rattle.quic_machine.specs.Migration.{migrates}
use Rattle.quic_machine.specs.Receive.{dropped, by_state, exhausted, unopened_in, opened_as, opening, headed, received_in, with_ids_drawn, migrated_if, with_migration}
use Rattle.quic_machine.specs.Machine.{injected_if, after_injected_if, gave}

-- a packet that doesn't open leaves its end as it is, or closes it
unopened_case : (state : State) (b : Bool) (arrival : Arrival) (e : End) (P : End → Type 0) → P e → ((now : ℕ) → P (exhausted now e)) → P (unopened_in state b arrival e).end
unopened_case states.Open true arrival e P same closes = closes arrival.now
unopened_case states.Open false arrival e P same closes = same
unopened_case states.Closing b arrival e P same closes = same
unopened_case states.Drained b arrival e P same closes = same
unopened_case states.Failed b arrival e P same closes = same

-- a packet that isn't taken doesn't say that the peer has moved
stays_case : (b : Bool) (p : Policy) (o : Opening) (remote : ℕ) (e : End) (P : End → Type 0) → P e → P (migrated_if (b && false) p o remote e)
stays_case true p o remote e P same = same
stays_case false p o remote e P same = same

-- so it is of one that doesn't open in key phase 0
packet_case : (o : Option Opening) (p : Policy) (arrival : Arrival) (e : End) (P : End → Type 0) → is_some (in_phase o) ≡ false → P e → ((now : ℕ) → P (exhausted now e)) → P (opened_as o p arrival e).end
packet_case None p arrival e P none same closes = unopened_case e.closing.state arrival.last arrival e P same closes
packet_case (Some o) p arrival e P none same closes = go (key_phase o.first) none
  where
    go : (b : Bool) → is_some (if b then None else Some o) ≡ false
        → P (with_migration p o arrival.remote e (with_ids_drawn p (if b then dropped drops.KeyPhase e else (if is_duplicate e.numbers.opened o.number then dropped drops.Duplicate e else by_state e.closing.state o arrival (with_numbers e (number_opened e.numbers o.number)))))).end
    go true none = stays_case (migrates o arrival.remote e) p o arrival.remote e P same
    go false none = cc

headed_case : (r : Result (List ℕ) DropReason) (p : Policy) (e : End) (arrival : Arrival) (d : List ℕ) (P : End → Type 0) → is_some (opens_behind r p (expected e.numbers) d) ≡ false → P e → ((now : ℕ) → P (exhausted now e)) → P (headed r p e arrival d).end
headed_case (Err error) p e arrival d P none same closes = same
headed_case (Ok id) p e arrival d P none same closes = packet_case (opening p e d) p arrival e P none same closes

received_case : (state : State) (p : Policy) (e : End) (arrival : Arrival) (d : List ℕ) (P : End → Type 0) → would_open p e arrival.remote d ≡ false → P e → ((now : ℕ) → P (exhausted now e)) → P (received_in state p e arrival d).end
received_case states.Failed p e arrival d P none same closes = same
received_case states.Drained p e arrival d P none same closes = same
received_case states.Open p e arrival d P none same closes = headed_case (head e arrival.remote d) p e arrival d P none same closes
received_case states.Closing p e arrival d P none same closes = headed_case (head e arrival.remote d) p e arrival d P none same closes

-- what holds of the end as it was, and of it where it closes for packets that didn't open, holds
-- after an injection
pub by_injection : (p : Policy) (e : End) (is_last : Bool) (injection : Injection) (P : End → Type 0) → P e → ((now : ℕ) → P (exhausted now e)) → P (after_injected_if (would_open p e injection.remote injection.bytes) is_last p e injection)
by_injection p e is_last injection P same closes = go (would_open p e injection.remote injection.bytes) refl
  where
    go : (b : Bool) → would_open p e injection.remote injection.bytes ≡ b → P (after_injected_if b is_last p e injection)
    go true is = same
    go false is = received_case e.closing.state p e (injected_by is_last injection) injection.bytes P is same closes

-- it gives no datagram
pub injected_gives : (b is_last : Bool) (p : Policy) (e : End) (injection : Injection) → gave (injected_if b is_last p e injection) ≡ false
injected_gives true is_last p e injection = refl
injected_gives false is_last p e injection = refl
