-- What a datagram comes to, case by case.
use Rattle.std.proofs.Common.{◌≡◌, ◌⊎◌, inl, inr, ℕ, Bool, true, false, List, [], Option, Some, None, refl, ap, ◌∙◌}
use Rattle.std.specs.Prelude.{if◌then◌else◌, Result, Ok}
use Rattle.quic_wire_core.specs.declared.shared.EcnCodepoint.{EcnCodepoint}
use Rattle.quic_packet.specs.Header.{key_phase}
use Rattle.quic_packet.specs.Datagram.{Opening}
use Rattle.quic_recovery_core.specs.Duplicates.{is_duplicate}
use Rattle.quic_spaces.specs.Numbers.{number_opened}
use Rattle.quic_machine.specs.declared.answers.State.{State}
use Rattle.quic_machine.specs.declared.answers.State.TheVariants as states
use Rattle.quic_machine.specs.declared.answers.DropReason.{DropReason}
use Rattle.quic_machine.specs.declared.answers.DropReason.TheVariants as drops
use Rattle.quic_machine.specs.Arrival.{Arrival, arriving}
use Rattle.quic_machine.specs.Policy.{Policy}
use Rattle.quic_machine.specs.Opens.{head}
use Rattle.quic_machine.specs.End.{End, with_numbers}
use Rattle.quic_machine.specs.Calls.{is_open}
use Rattle.quic_machine.specs.Receive.{dropped, by_state, opened_to, unopened_in, with_ids_drawn, with_migration, opened_as, opening, headed, received_in, received, told_opened, told_opened_as, told_headed, told_received_in, told_received}

-- ---- packets that don't open

-- an end that isn't open drops them
pub unopened_closed : (s : State) (b : Bool) (arrival : Arrival) (e : End) → is_open s ≡ false → unopened_in s b arrival e ≡ dropped drops.NotOpened e
unopened_closed states.Open b arrival e closed = absurd cc
unopened_closed states.Closing b arrival e closed = refl
unopened_closed states.Drained b arrival e closed = refl
unopened_closed states.Failed b arrival e closed = refl

-- and so does any, where more may not open
pub unopened_spared : (s : State) (arrival : Arrival) (e : End) → unopened_in s false arrival e ≡ dropped drops.NotOpened e
unopened_spared states.Open arrival e = refl
unopened_spared states.Closing arrival e = refl
unopened_spared states.Drained arrival e = refl
unopened_spared states.Failed arrival e = refl

pub open_is : (s : State) → is_open s ≡ true → s ≡ states.Open
open_is states.Open is = refl
open_is states.Closing is = absurd cc
open_is states.Drained is = absurd cc
open_is states.Failed is = absurd cc

-- ---- packets that open

-- what one comes to doesn't hang on whether it was the last that may not open
pub last_unread : (o : Opening) (now remote : ℕ) (mark : Option EcnCodepoint) (a b : Bool) (e : End) → opened_to o (arriving now remote mark a) e ≡ opened_to o (arriving now remote mark b) e
last_unread o now remote mark a b e = by (key_phase o.first) (is_duplicate e.numbers.opened o.number)
  where
    x : End
    x = with_numbers e (number_opened e.numbers o.number)

    in_state : (s : State) → by_state s o (arriving now remote mark a) x ≡ by_state s o (arriving now remote mark b) x
    in_state states.Open = refl
    in_state states.Closing = refl
    in_state states.Drained = refl
    in_state states.Failed = refl

    by : (p d : Bool) → (if p then dropped drops.KeyPhase e else (if d then dropped drops.Duplicate e else by_state e.closing.state o (arriving now remote mark a) x)) ≡ (if p then dropped drops.KeyPhase e else (if d then dropped drops.Duplicate e else by_state e.closing.state o (arriving now remote mark b) x))
    by true d = refl
    by false true = refl
    by false false = in_state e.closing.state

-- an end that is open or closing reads the header
module _ (p : Policy) (e : End) (arrival : Arrival) (d : List ℕ) (takes : (e.closing.state ≡ states.Open) ⊎ (e.closing.state ≡ states.Closing)) where
  pub received_headed : received p e arrival d ≡ headed (head e arrival.remote d) p e arrival d
  received_headed = go takes
    where
      go : (e.closing.state ≡ states.Open) ⊎ (e.closing.state ≡ states.Closing) → received p e arrival d ≡ headed (head e arrival.remote d) p e arrival d
      go (inl is) = ap (λ (s : State). received_in s p e arrival d) is
      go (inr is) = ap (λ (s : State). received_in s p e arrival d) is

  pub told_received_headed : told_received p e arrival d ≡ told_headed (head e arrival.remote d) p e arrival d
  told_received_headed = go takes
    where
      go : (e.closing.state ≡ states.Open) ⊎ (e.closing.state ≡ states.Closing) → told_received p e arrival d ≡ told_headed (head e arrival.remote d) p e arrival d
      go (inl is) = ap (λ (s : State). told_received_in s p e arrival d) is
      go (inr is) = ap (λ (s : State). told_received_in s p e arrival d) is

  module _ (id : List ℕ) (headed_so : head e arrival.remote d ≡ Ok id) where
    -- one that doesn't open
    pub received_unopened : opening p e d ≡ None → received p e arrival d ≡ unopened_in e.closing.state arrival.last arrival e
    received_unopened none = received_headed ∙ ap (λ (r : Result (List ℕ) DropReason). headed r p e arrival d) headed_so ∙ ap (λ (o : Option Opening). opened_as o p arrival e) none

    pub told_unopened : opening p e d ≡ None → told_received p e arrival d ≡ []
    told_unopened none = told_received_headed ∙ ap (λ (r : Result (List ℕ) DropReason). told_headed r p e arrival d) headed_so ∙ ap (λ (o : Option Opening). told_opened_as o arrival e) none

    -- one that opens
    pub received_opened : (o : Opening) → opening p e d ≡ Some o → received p e arrival d ≡ with_migration p o arrival.remote e (with_ids_drawn p (opened_to o arrival e))
    received_opened o is = received_headed ∙ ap (λ (r : Result (List ℕ) DropReason). headed r p e arrival d) headed_so ∙ ap (λ (x : Option Opening). opened_as x p arrival e) is

    pub told_received_opened : (o : Opening) → opening p e d ≡ Some o → told_received p e arrival d ≡ told_opened o arrival e
    told_received_opened o is = told_received_headed ∙ ap (λ (r : Result (List ℕ) DropReason). told_headed r p e arrival d) headed_so ∙ ap (λ (x : Option Opening). told_opened_as x arrival e) is
