-- Which packets an end acknowledges, whatever its peer sends: none but those that it took (RFC
-- 9000, section 13.1). A peer can't have it acknowledge what it never got, as section 21.4 has it
-- of the peer.
use Rattle.std.specs.Prelude.{ℕ, ◌≡◌, true, List, [], ◌∷◌, ◌++◌, length, slice_get, Option, Some, None}
use Rattle.quic_wire.specs.Value.{AckValue, ack}
use Rattle.quic_wire.specs.Items.{items}
use Rattle.quic_packet.specs.Datagram.{Opening, sent}
use Rattle.quic_machine.specs.declared.answers.Received.TheVariants as receives
use Rattle.quic_machine.specs.declared.run.Call.{Call}
use Rattle.quic_machine.specs.declared.run.Call.TheVariants as calls
use Rattle.quic_machine.specs.declared.run.Answer.{Answer}
use Rattle.quic_machine.specs.declared.run.Answer.TheVariants as answers
use Rattle.quic_machine.specs.Policy.{Policy}
use Rattle.quic_headline.specs.Runs.{In, Packet, IsTaken, packet_of, expected_behind, frames_of, names, opens_by_key}
use Rattle.quic_headline.specs.Headline.{CodeIsSmall}
use Rattle.quic_headline.specs.FewCloses.{gave_in}
use Rattle.quic_headline.specs.Alone.{Lone, BeginsFit, GivesAlone}

-- ---- what was taken

-- a packet more, where bytes opened to one
abbrev pub and_packet : Option Opening → List Packet → List Packet
and_packet None packets = packets
and_packet (Some o) packets = packet_of o ∷ packets

-- what a datagram opens to, if there is one, where these packets were taken before it: its number
-- is read as one above the greatest of theirs is expected (RFC 9000, A.3)
abbrev pub and_datagram : Policy → Option (List ℕ) → List Packet → List Packet
and_datagram p None packets = packets
and_datagram p (Some bytes) packets = and_packet (opens_by_key p (expected_behind packets) bytes) packets

-- what a call takes: a delivery that is answered so what it hands in, and no other call anything
abbrev pub and_call : Policy → List (List ℕ) → Call → Answer → List Packet → List Packet
and_call p theirs (calls.Deliver delivery) (answers.Deliver receives.Taken) packets = and_datagram p (slice_get theirs delivery.index) packets
and_call p theirs call a packets = packets

-- the packets that these calls took, each call with its answer: the latest first, as they stand
abbrev pub taken_by : Policy → List (List ℕ) → List (Call × Answer) → List Packet
taken_by p theirs [] = []
taken_by p theirs (t ∷ before) = and_call p theirs t.0 t.1 (taken_by p theirs before)

-- one of them has this number
abbrev pub WasTaken : Policy → List (List ℕ) → List (Call × Answer) → ℕ → Type 0
WasTaken p theirs before number = IsTaken (taken_by p theirs before) number

-- ---- what is acknowledged

-- A datagram was sealed over a payload of which each ACK frame, as a reader finds it there, names
-- only numbers of which this holds.
pub record AcksOnly (p : Policy) (Taken : ℕ → Type 0) (datagram : List ℕ) : Type 0 where
  pub number : ℕ
  pub reference : ℕ
  pub id : List ℕ
  pub payload : List ℕ
  pub is : datagram ≡ sent p.header p.packet number reference id payload
  pub named : (a : AckValue) (k : ℕ) → In (ack a) (frames_of (items payload)) → names a k ≡ true → Taken k

-- Each of these datagrams was given by one of these calls, in their order, and acknowledges only
-- packets that a call before it took; the calls before these are there with their answers, the
-- latest first.
abbrev pub AcksTaken : Policy → List (List ℕ) → List (Call × Answer) → List Call → List Answer → List (List ℕ) → Type 0
AcksTaken p theirs before [] [] ds = ds ≡ []
AcksTaken p theirs before (call ∷ cs) (a ∷ told) ds =
    (given : List (List ℕ)) × (more : List (List ℕ)) × (ds ≡ given ++ more) × (length given ≡ gave_in call a) × ((d : List ℕ) → In d given → AcksOnly p (WasTaken p theirs before) d) × AcksTaken p theirs ((call, a) ∷ before) cs told more
AcksTaken p theirs before [] (a ∷ told) ds = ⊥
AcksTaken p theirs before (call ∷ cs) [] ds = ⊥

-- the codes of calls are codes
abbrev pub CodesAreSmall : List Call → Type 0
CodesAreSmall made = (call : Call) → In call made → CodeIsSmall call

-- So it is of all that such an end gives, whatever datagrams are handed in; where memory lacks,
-- too, since an end that fails gives nothing more.
abbrev pub AcksOnlyTaken : Policy → List (List ℕ) → Lone → List Call → List Answer → List (List ℕ) → Lone → Type 0
AcksOnlyTaken p theirs x made told given left = BeginsFit x → CodesAreSmall made → GivesAlone p theirs x made told given left → AcksTaken p theirs [] made told given
