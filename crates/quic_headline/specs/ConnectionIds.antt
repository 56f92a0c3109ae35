-- Connection ids in a run (RFC 9000, sections 5.1, 19.15 and 19.16): to which one a datagram goes,
-- when one is unknown, and when the next one can't be used. All is read off the run's lists, but
-- where it is said: an end may have an id that it drew and told nobody, which no list shows.
use Rattle.std.specs.Prelude.{ℕ, suc, Bool, true, ◌≡◌, ◌⊎◌, ◌↔◌, ◌<◌, ◌+◌, ◌-◌, List, [], ◌∷◌, ◌++◌, length, slice_get, Option, Some, None, Err}
use Rattle.quic_wire_core.specs.declared.stream_id.Side.{Side}
use Rattle.quic_wire_core.specs.StreamId.{other_side}
use Rattle.quic_wire.specs.Value.{NewConnectionIdValue, new_connection_id, retire_connection_id}
use Rattle.quic_packet.specs.Datagram.{Opening}
use Rattle.quic_retransmits.specs.Retransmits.{most_retirements}
use Rattle.quic_machine.specs.declared.answers.State.TheVariants as states
use Rattle.quic_machine.specs.declared.answers.DropReason.TheVariants as drops
use Rattle.quic_machine.specs.declared.answers.Received.TheVariants as receives
use Rattle.quic_machine.specs.declared.answers.NextIdError.TheVariants as next_errors
use Rattle.quic_machine.specs.declared.run.Delivery.{Delivery}
use Rattle.quic_machine.specs.declared.run.Call.TheVariants as calls
use Rattle.quic_machine.specs.declared.run.Answer.{Answer}
use Rattle.quic_machine.specs.declared.run.Answer.TheVariants as answers
use Rattle.quic_machine.specs.Ids.{known}
use Rattle.quic_machine.specs.Opens.{opens}
use Rattle.quic_machine.specs.End.{End}
use Rattle.quic_machine.specs.Machine.{World, policy_at, end_at}
use Rattle.quic_headline.specs.Runs.{Run, Packet, In, state_at, given_of, given_until, LeadsTo, AreServed, destination, expected_behind, first_id_of_peer}
use Rattle.quic_headline.specs.Observer.{Sent, took, came_in, sents_until, generation_at, path_changes}
use Rattle.quic_headline.specs.Polls.{GaveOne}
use Rattle.quic_headline.specs.InUse.{in_use, next_id, TellsStays}
use Rattle.quic_headline.specs.Duties.{WasGiven, WasToldId, WasRetired}
use Rattle.quic_headline.specs.Headline.{IsAt, NoneAbove, OpensAs}

-- ---- to which id a datagram goes

-- An id is one that an end was told under a number: the peer's first id is, under 0, and each that
-- a NEW_CONNECTION_ID frame gave which it took.
abbrev pub IsToldId : List ℕ → List Packet → ℕ → List ℕ → Type 0
IsToldId first packets number id = ((number ≡ 0) × (id ≡ first)) ⊎ WasToldId packets number id

-- A datagram went to an id that its end was told under a number, which stands in no
-- RETIRE_CONNECTION_ID that the end gave before it, nor in the datagram itself.
pub record IsIssued (first : List ℕ) (packets : List Packet) (before : List Sent) (s : Sent) : Type 0 where
  pub number : ℕ
  pub told : IsToldId first packets number s.id
  pub unretired : WasGiven (before ++ s ∷ []) (retire_connection_id number) → ⊥

-- so it is of each datagram that an end gave: it went to an id that the peer issued and the end
-- hadn't retired. A closing end may use one that came in the packet for which it closes
abbrev pub IdsAreIssued : Run → Type 0
IdsAreIssued r = (side : Side) (i : ℕ) (before behind : List Sent) (s : Sent) → AreServed r i → sents_until r side i ≡ before ++ s ∷ behind
    → IsIssued (first_id_of_peer r side) (came_in r side i) before s

-- ---- which ids an end knows as its own

-- an end told its peer of this id under a number: of its first one, under 0, and of each that
-- stands in a NEW_CONNECTION_ID frame that it gave
abbrev pub Tells : Run → Side → ℕ → ℕ → List ℕ → Type 0
Tells r side i number id = ((number ≡ 0) × (id ≡ first_id_of_peer r (other_side side)))
    ⊎ ((f : NewConnectionIdValue) × (f.sequence ≡ number) × (f.id ≡ id) × WasGiven (sents_until r side i) (new_connection_id f))

-- where a delivery at an open end is answered that its datagram was sent to no id of the end's, the
-- end took a RETIRE_CONNECTION_ID of each number under which it had told its peer of that id
abbrev pub UnknownOnlyWhereRetired : Run → Type 0
UnknownOnlyWhereRetired r = (side : Side) (i number : ℕ) (delivery : Delivery) (datagram : List ℕ) → AreServed r i → state_at r side i ≡ states.Open
    → IsAt r i side (calls.Deliver delivery) (answers.Deliver (receives.Dropped drops.UnknownId)) → slice_get (given_of r (other_side side)) delivery.index ≡ Some datagram
    → Tells r side i number (destination datagram) → WasRetired (took r side i) number

-- wherever the run leads, an open end knows each id of which it told its peer, under a number of
-- which it took no RETIRE_CONNECTION_ID
abbrev pub ToldIdsAreKnown : Run → Type 0
ToldIdsAreKnown r = (side : Side) (i number : ℕ) (id : List ℕ) (w : World) → AreServed r i → LeadsTo r i w → state_at r side i ≡ states.Open
    → Tells r side i number id → (WasRetired (took r side i) number → ⊥) → In id (known (end_at side w).ids)

-- what a datagram that an end gave opens to at the other end, to which the run leads: with its keys
-- and its ids, where one above the greatest number that it took is expected (RFC 9000, sections 5.2
-- and 12.2, and A.3)
abbrev pub opened_at_end : Run → World → Side → ℕ → List ℕ → Option Opening
opened_at_end r w side i d = opens (policy_at (other_side side) r.keys) (known (end_at (other_side side) w).ids) (expected_behind (took r (other_side side) i)) d

-- wherever the run leads, each datagram that an end gave opens as it was sent at the other one that
-- is open, took none with a number above its own, and told of the id under a number of which it
-- took no RETIRE_CONNECTION_ID
abbrev pub NewestOpensAtEnd : Run → Type 0
NewestOpensAtEnd r = (side : Side) (i place number : ℕ) (datagram : List ℕ) (s : Sent) (w : World) → AreServed r i → LeadsTo r i w → state_at r (other_side side) i ≡ states.Open
    → slice_get (given_until r side i) place ≡ Some datagram → slice_get (sents_until r side i) place ≡ Some s
    → NoneAbove (took r (other_side side) i) s.number
    → Tells r (other_side side) i number s.id → (WasRetired (took r (other_side side) i) number → ⊥)
    → OpensAs s (opened_at_end r w side i datagram)

-- ---- the next id is used, or can't be (RFC 9000, section 5.1.2)

-- each datagram that an open end gave went to the id of the number in use, as the end was told of
-- it (section 5.1.2)
abbrev pub IdsAreInUse : Run → Type 0
IdsAreInUse r = (side : Side) (stays : ℕ → Bool) (i now : ℕ) (gave : GaveOne r side i now) → TellsStays r side stays → state_at r side i ≡ states.Open → IsToldId (first_id_of_peer r side) (took r side i) (in_use r stays side i) gave.sent.id

-- an open end refuses the next id for want of one exactly where no frame that it took brought an id
-- with a number above that in use
abbrev pub NoIdIsExact : Run → Type 0
NoIdIsExact r = (side : Side) (stays : ℕ → Bool) (i : ℕ) (a : Answer) → TellsStays r side stays → AreServed r i → state_at r side i ≡ states.Open → IsAt r i side calls.UseNextId a
    → (a ≡ answers.UseNextId (Err next_errors.NoId)) ↔ (next_id r stays side i ≡ None)

-- the next id would retire so many that, with those that wait at an end to be told, there are more
-- than 80
abbrev pub IsPastLimit : End → ℕ → ℕ → Type 0
IsPastLimit e used next = most_retirements < length e.waiting.frames.retire_cids + (next - used)

-- and for too many retirements exactly where there is a next id, and with those that wait at the
-- end to which the run leads there would be more than 80
abbrev pub TooManyIsExact : Run → Type 0
TooManyIsExact r = (side : Side) (stays : ℕ → Bool) (i : ℕ) (a : Answer) (w : World) → TellsStays r side stays → AreServed r i → LeadsTo r i w → state_at r side i ≡ states.Open → IsAt r i side calls.UseNextId a
    → (a ≡ answers.UseNextId (Err next_errors.TooManyPending)) ↔ ((next : ℕ) × (next_id r stays side i ≡ Some next) × IsPastLimit (end_at side w) (in_use r stays side i) next)

-- where the path of an end changes, the id stays in use only where the end took none with a number
-- above it by then, or where too many retirements would wait (sections 5.1.2 and 9.5)
abbrev pub StaysForAReason : Run → Type 0
StaysForAReason r = (side : Side) (stays : ℕ → Bool) (i : ℕ) (v : World) → TellsStays r side stays → AreServed r (suc i) → LeadsTo r (suc i) v → path_changes r side i ≡ true → stays (generation_at r side (suc i)) ≡ true
    → (next_id r stays side (suc i) ≡ None) ⊎ ((next : ℕ) × (next_id r stays side (suc i) ≡ Some next) × IsPastLimit (end_at side v) (in_use r stays side (suc i)) next)
