-- Which datagrams open at an end (RFC 9000, section 12.2).
use Rattle.std.specs.Prelude.{ℕ, ◌+◌, Bool, if◌then◌else◌, List, Option, Some, None, Result, Ok, Err}
use Rattle.std.specs.Option.{is_some}
use Rattle.quic_packet.specs.Header.{key_phase}
use Rattle.quic_packet.specs.Datagram.{Opening, opened_packet}
use Rattle.quic_packet.specs.Destination.{decoded, fixed_length_id}
use Rattle.quic_packet.specs.declared.packet.HeaderError.{HeaderError}
use Rattle.quic_packet.specs.declared.packet.HeaderError.TheVariants as headers
use Rattle.quic_machine.specs.declared.answers.DropReason.{DropReason}
use Rattle.quic_machine.specs.declared.answers.DropReason.TheVariants as drops
use Rattle.quic_machine.specs.Ids.{known}
pub use Rattle.quic_machine.specs.Ids.{own_id_length}
use Rattle.quic_spaces.specs.Numbers.{expected}
use Rattle.quic_machine.specs.Policy.{Policy}
use Rattle.quic_machine.specs.End.{End}
use Rattle.quic_machine.specs.Migration.{is_foreign}

-- ---- for whom a datagram is

-- why a datagram with such a header is dropped
abbrev pub drop_of : HeaderError → DropReason
drop_of headers.TooShort = drops.TooShort
drop_of headers.NotShort = drops.NotShort
drop_of headers.FixedBit = drops.FixedBit
drop_of headers.UnknownId = drops.UnknownId

-- what a header says, or why its datagram is dropped
abbrev pub with_drop : Result (List ℕ) HeaderError → Result (List ℕ) DropReason
with_drop (Err error) = Err (drop_of error)
with_drop (Ok id) = Ok id

-- the id to which a datagram was sent that came from an address, or why it is dropped before a key
-- is asked: for that address, or for its header
abbrev pub head : End → ℕ → List ℕ → Result (List ℕ) DropReason
head e remote d = if is_foreign remote e then Err drops.Address else with_drop (decoded (fixed_length_id own_id_length) (known e.ids) d)

-- ---- what it opens to

-- a packet whose key phase is 0
abbrev pub in_phase : Option Opening → Option Opening
in_phase None = None
in_phase (Some o) = if key_phase o.first then None else Some o

-- what a datagram opens to, by what its header says
abbrev pub opens_behind : {X : Type 0} → Result (List ℕ) X → Policy → ℕ → List ℕ → Option Opening
opens_behind (Err e) p expected d = None
opens_behind (Ok id) p expected d = in_phase (opened_packet p.header p.packet (own_id_length + 1) expected d)

-- What a datagram opens to at an end with these ids, where this number is expected: it has a short
-- header with one of the ids, and its packet opens under the number to which its number's bytes
-- expand (RFC 9000, section 12.2).
abbrev pub opens : Policy → List (List ℕ) → ℕ → List ℕ → Option Opening
opens p ids expected d = opens_behind (decoded (fixed_length_id own_id_length) ids d) p expected d

-- whether a datagram from an address opens at an end, in whatever state the end is, and also where
-- it came before
abbrev pub would_open : Policy → End → ℕ → List ℕ → Bool
would_open p e remote d = is_some (opens_behind (head e remote d) p (expected e.numbers) d)
