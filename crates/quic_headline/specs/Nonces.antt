-- What an end seals, whatever its peer sends: each packet under a number of its own, of which the
-- nonce is made, and no more of them than its key may (RFC 9000, sections 12.3 and 17.1; RFC 9001,
-- sections 5.3 and 6.6).
use Rattle.std.specs.Prelude.{ℕ, ◌+◌, ◌-◌, ◌^◌, ◌<◌, ◌≤◌, ◌≡◌, List, [], ◌∷◌, length}
use Rattle.quic_packet.specs.Datagram.{sent}
use Rattle.quic_machine.specs.declared.run.Call.{Call}
use Rattle.quic_machine.specs.declared.run.Answer.{Answer}
use Rattle.quic_machine.specs.Policy.{Policy}
use Rattle.quic_headline.specs.Alone.{Lone, IsNew, GivesAlone}

-- A datagram is a payload that was sealed under this number, and goes to an id. The number is below
-- 2^62, and less than 2^31 above what it is cut against. The peer says what that is, but it isn't
-- above `low`, and below that lie all numbers that were given before.
pub record IsSealed (p : Policy) (low number : ℕ) (datagram : List ℕ) : Type 0 where
  pub reference : ℕ
  pub id : List ℕ
  pub payload : List ℕ
  pub small : number < 2 ^ 62
  pub behind : reference ≤ low
  pub near : number - reference < 2 ^ 31
  pub is : datagram ≡ sent p.header p.packet number reference id payload

-- each was sealed under a number at or above `low` and above those before it, of which at most one
-- is left out
abbrev pub SealedInTurn : Policy → ℕ → List (List ℕ) → Type 0
SealedInTurn p low [] = Unit {0}
SealedInTurn p low (d ∷ ds) = (number : ℕ) × (low ≤ number) × (number ≤ low + 1) × IsSealed p low number d × SealedInTurn p (number + 1) ds

-- Datagrams were sealed under numbers that rise, so that no two have one nonce, and are no more
-- than the key may seal.
pub record SealedOnce (p : Policy) (ds : List (List ℕ)) : Type 0 where
  pub numbers : SealedInTurn p 0 ds
  pub few : length ds ≤ p.seals

-- So is all that an end gives as it was made, whatever datagrams are handed in; where memory lacks,
-- too, since an end that fails gives nothing more.
abbrev pub SealsOnce : Policy → List (List ℕ) → Lone → List Call → List Answer → List (List ℕ) → Lone → Type 0
SealsOnce p theirs x calls told given left = IsNew x.end → GivesAlone p theirs x calls told given left → SealedOnce p given
