-- Which packet is the last that may not open, by what an end has counted and by its answer.
use Rattle.std.proofs.Common.{◌≡◌, ℕ, Bool, true, false, List, Option, Some, None, Result, Ok, Err, refl, sym, ap, ◌∙◌, subst}
use Rattle.std.specs.Prelude.{if◌then◌else◌}
use Rattle.quic_wire_core.specs.declared.shared.EcnCodepoint.{EcnCodepoint}
use Rattle.quic_packet.specs.Datagram.{Opening}
use Rattle.quic_packet.specs.Destination.{decoded, fixed_length_id}
use Rattle.quic_packet.specs.declared.packet.HeaderError.{HeaderError}
use Rattle.quic_packet.specs.declared.packet.HeaderError.TheVariants as headers
use Rattle.quic_machine.specs.declared.answers.State.{State}
use Rattle.quic_machine.specs.declared.answers.State.TheVariants as states
use Rattle.quic_machine.specs.declared.answers.Received.{Received}
use Rattle.quic_machine.specs.declared.answers.Received.TheVariants as receives
use Rattle.quic_machine.specs.declared.answers.DropReason.{DropReason}
use Rattle.quic_machine.specs.declared.answers.DropReason.TheVariants as drops
use Rattle.quic_machine.specs.declared.run.Answer.TheVariants as answers
use Rattle.quic_machine.specs.Arrival.{Arrival, arriving}
use Rattle.quic_machine.specs.Heard.{Heard, is_last}
use Rattle.quic_machine.specs.Policy.{Policy}
use Rattle.quic_machine.specs.Ids.{known}
use Rattle.quic_machine.specs.Opens.{own_id_length, with_drop, head}
use Rattle.quic_machine.specs.Migration.{is_foreign}
use Rattle.quic_machine.specs.End.{End}
use Rattle.quic_machine.specs.Receive.{Outcome, opened_to, unopened_in, with_ids_drawn, with_migration, opened_as, opening, headed, received_in, received}
use Rattle.quic_machine.specs.Machine.{says_last, CountsReceived, CountsIn}
use Rattle.quic_connection_core.proofs.Counted.{ToOpened, opened_answer}
use Rattle.quic_connection_core.proofs.Receiving.{last_unread}

-- ---- packets that open

counts_opened : (limit : ℕ) (h : Heard) (a : Received) → ToOpened a → CountsReceived limit h a
counts_opened limit h receives.Taken here = tt
counts_opened limit h (receives.Closed error) here = λ says. absurd (let clash : ◌≡◌ {A = Bool} true false = sym says ∙ here in cc)
counts_opened limit h (receives.Dropped drops.NotOpened) here = absurd here
counts_opened limit h (receives.Dropped reason) here = tt
counts_opened limit h receives.Failed here = tt

counts_in : (s : State) (limit : ℕ) (h : Heard) (a : Received) → CountsReceived limit h a → CountsIn s limit h a
counts_in states.Open limit h a here = here
counts_in states.Closing limit h a here = tt
counts_in states.Drained limit h a here = tt
counts_in states.Failed limit h a here = tt

-- ---- a datagram

-- whether an answer says that the last packet came that may not open
abbrev pub says : Received → Bool
says a = says_last (answers.Deliver a)

module _ (p : Policy) (e : End) (now remote : ℕ) (mark : Option EcnCodepoint) (d : List ℕ) where
  -- what comes comes to the same by what its answer says
  abbrev Same : (Bool → Outcome) → Bool → Type 0
  Same f b = f b ≡ f (says (f b).answer)

  pub received_says : (b : Bool) → received p e (arriving now remote mark b) d ≡ received p e (arriving now remote mark (says (received p e (arriving now remote mark b) d).answer)) d
  received_says b = go e.closing.state
    where
      unopened : (s : State) (c : Bool) → Same (λ k. unopened_in s k (arriving now remote mark k) e) c
      unopened states.Open true = refl
      unopened states.Open false = refl
      unopened states.Closing c = refl
      unopened states.Drained c = refl
      unopened states.Failed c = refl

      opens : (o : Option Opening) → Same (λ k. opened_as o p (arriving now remote mark k) e) b
      opens None = unopened e.closing.state b
      opens (Some o) = ap (λ (out : Outcome). with_migration p o remote e (with_ids_drawn p out)) (last_unread o now remote mark b (says (opened_to o (arriving now remote mark b) e).answer) e)

      heads : (r : Result (List ℕ) DropReason) → Same (λ k. headed r p e (arriving now remote mark k) d) b
      heads (Err x) = refl
      heads (Ok id) = opens (opening p e d)

      go : (s : State) → Same (λ k. received_in s p e (arriving now remote mark k) d) b
      go states.Open = heads (head e remote d)
      go states.Closing = heads (head e remote d)
      go states.Drained = refl
      go states.Failed = refl

  -- an open end closes for packets that didn't open exactly at the last that may not
  pub received_counts : (limit : ℕ) (h : Heard) → CountsIn e.closing.state limit h (received p e (arriving now remote mark (is_last limit h)) d).answer
  received_counts limit h = go e.closing.state refl
    where
      arrival : Arrival
      arrival = arriving now remote mark (is_last limit h)

      unopened : (b : Bool) → is_last limit h ≡ b → CountsReceived limit h (unopened_in states.Open b arrival e).answer
      unopened true last = λ is. last
      unopened false last = last

      opens : e.closing.state ≡ states.Open → (o : Option Opening) → CountsReceived limit h (opened_as o p arrival e).answer
      opens here None = subst (λ (s : State). CountsReceived limit h (unopened_in s (is_last limit h) arrival e).answer) (sym here) (unopened (is_last limit h) refl)
      opens here (Some o) = counts_opened limit h (opened_to o arrival e).answer (opened_answer o arrival e)

      heads : e.closing.state ≡ states.Open → (foreign : Bool) (r : Result (List ℕ) HeaderError) → CountsReceived limit h (headed (if foreign then Err drops.Address else with_drop r) p e arrival d).answer
      heads here true r = tt
      heads here false (Err (headers.TooShort)) = tt
      heads here false (Err (headers.NotShort)) = tt
      heads here false (Err (headers.FixedBit)) = tt
      heads here false (Err (headers.UnknownId)) = tt
      heads here false (Ok id) = opens here (opening p e d)

      go : (s : State) → e.closing.state ≡ s → CountsIn s limit h (received_in s p e arrival d).answer
      go states.Open here = heads here (is_foreign remote e) (decoded (fixed_length_id own_id_length) (known e.ids) d)
      go states.Closing here = tt
      go states.Drained here = tt
      go states.Failed here = tt
