-- Where an end takes its peer to be, and what that changes (RFC 9000, section 9): datagrams go there,
-- the path changes exactly where the run's lists say so, and a client takes nothing from elsewhere.
use Rattle.std.specs.Prelude.{ℕ, suc, ◌≡◌, ◌⊎◌, ◌↔◌, true, false, List, Some, Ok}
use Rattle.quic_wire_core.specs.declared.stream_id.Side.{Side}
use Rattle.quic_machine.specs.declared.answers.Transmit.{Transmit}
use Rattle.quic_machine.specs.declared.answers.Received.{Received}
use Rattle.quic_machine.specs.declared.answers.Received.TheVariants.{Dropped}
use Rattle.quic_machine.specs.declared.answers.DropReason.TheVariants as drops
use Rattle.quic_machine.specs.declared.answers.State.TheVariants as states
use Rattle.quic_machine.specs.declared.run.Delivery.{Delivery}
use Rattle.quic_machine.specs.declared.run.Injection.{Injection}
use Rattle.quic_machine.specs.declared.run.Call.TheVariants as calls
use Rattle.quic_machine.specs.declared.run.Answer.TheVariants as answers
use Rattle.quic_headline.specs.Runs.{Run, state_at, AreServed}
use Rattle.quic_headline.specs.Observer.{peer_address, path_changes}
use Rattle.quic_headline.specs.Headline.{IsAt, takes_nothing_from}
use Rattle.quic_headline.specs.Polls.{seen_at}
use Rattle.quic_headline.specs.Validated.{AnswerCame}

-- each datagram that a poll gives, a close too, goes to where its end takes its peer to be (sections
-- 9.3 and 10.2)
abbrev pub GoesToPath : Run → Type 0
GoesToPath r = (side : Side) (i now : ℕ) (t : Transmit) → AreServed r (suc i) → IsAt r i side (calls.Poll now) (answers.Poll (Ok (Some t))) → t.remote ≡ peer_address r side i

-- at an open end an address that is seen to be validated no longer is so only where the path changes,
-- and where it changes it isn't, unless the answer to the new challenge came with that very packet
-- (sections 9.3 and 9.3.1)
abbrev pub PathChangesExactly : Run → Type 0
PathChangesExactly r = (side : Side) (i : ℕ) → AreServed r (suc i) → state_at r side (suc i) ≡ states.Open
    → ((seen_at r side i).validated ≡ true → (seen_at r side (suc i)).validated ≡ false → path_changes r side i ≡ true)
    × (path_changes r side i ≡ true → ((seen_at r side (suc i)).validated ≡ false) ⊎ ((token : List ℕ) × AnswerCame r side i token))

-- an end reads what comes: it is open or closing
abbrev pub ReadsAt : Run → Side → ℕ → Type 0
ReadsAt r side i = (state_at r side i ≡ states.Open) ⊎ (state_at r side i ≡ states.Closing)

-- A datagram from an address is handed to an end, or bytes are, and come to this there.
pub data ComesTo (r : Run) (i : ℕ) (side : Side) : ℕ → Received → Type 0 where
  delivered : (delivery : Delivery) (a : Received) → IsAt r i side (calls.Deliver delivery) (answers.Deliver a) → ComesTo r i side delivery.remote a
  injected : (injection : Injection) (a : Received) → IsAt r i side (calls.Inject injection) (answers.Inject a) → ComesTo r i side injection.remote a

-- what comes is dropped for its address exactly at a client, from elsewhere than where that was told
-- its peer is (section 9)
abbrev pub DropsOtherAddresses : Run → Type 0
DropsOtherAddresses r = (side : Side) (i remote : ℕ) (a : Received) → AreServed r (suc i) → ReadsAt r side i → ComesTo r i side remote a
    → (a ≡ Dropped drops.Address) ↔ (takes_nothing_from r side remote ≡ true)
