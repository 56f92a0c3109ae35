-- What one end makes of any calls, whatever datagrams are handed to it: its peer may have the keys,
-- and lie (RFC 9000, section 21).
use Rattle.std.specs.Prelude.{ℕ, Bool, false, ◌+◌, ◌-◌, ◌≤◌, ◌≡◌, List, [], ◌∷◌, ◌++◌, length, take, slice_get, Option, Some, None}
use Rattle.std.specs.List.{list_any}
use Rattle.quic_wire_core.specs.declared.stream_id.Side.{Side}
use Rattle.quic_config.specs.Transport.{Settings, IsInRange}
use Rattle.quic_wire.specs.Value.{StreamValue, stream, datagram}
use Rattle.quic_wire.specs.Items.{items}
use Rattle.quic_packet.specs.Datagram.{Opening}
use Rattle.quic_assembler.specs.declared.assembler.Chunk.{Chunk}
use Rattle.quic_machine.specs.declared.run.Call.{Call}
use Rattle.quic_machine.specs.declared.run.Call.TheVariants as calls
use Rattle.quic_machine.specs.declared.run.Answer.{Answer}
use Rattle.quic_machine.specs.declared.run.Answer.TheVariants as answers
use Rattle.quic_machine.specs.Policy.{Policy}
use Rattle.quic_machine.specs.Control.{Control}
use Rattle.quic_machine.specs.Heard.{Heard}
use Rattle.quic_machine.specs.Parts.{Windows}
use Rattle.quic_machine.specs.End.{End, MadeFrom, most_payload}
use Rattle.quic_machine.specs.Machine.{IsAnswer, IsLeft, IsTold, IsHeard, CountsOpenings, reads_window, gives, fails}
use Rattle.quic_machine.specs.Lacking.{LacksWhere}
use Rattle.quic_headline.specs.Runs.{In, chunks_of, frames_of, nexts_by, opens_by_key}

-- ---- calls at one end

-- an end, its controller, and what it has counted
pub record Lone : Type 0 where
  pub end : End
  pub control : Control
  pub heard : Heard

-- a call at an end with these keys may be answered so, lacking memory only where it takes some, and
-- leave the end so; these datagrams are there to be handed to it
pub record IsLoneStep (p : Policy) (theirs : List (List ℕ)) (x : Lone) (call : Call) (a : Answer) (next : Lone) : Type 0 where
  pub answer : IsAnswer p (reads_window x.control x.heard call x.end) theirs call a
  pub end : IsLeft (fails a) p x.control x.heard x.end theirs call a next.end
  pub control : IsTold (fails a) p x.control x.heard x.end theirs call next.control
  pub heard : IsHeard (fails a) x.end next.end theirs call a x.heard next.heard
  pub openings : CountsOpenings p.openings x.end.closing.state x.heard a
  pub lacking : LacksWhere p (reads_window x.control x.heard call x.end) theirs call a

-- so it is of calls, one behind another
abbrev pub FollowsAlone : Policy → List (List ℕ) → Lone → List Call → List Answer → Lone → Type 0
FollowsAlone p theirs x [] [] left = left ≡ x
FollowsAlone p theirs x (call ∷ calls) (a ∷ answers) left = (next : Lone) × IsLoneStep p theirs x call a next × FollowsAlone p theirs next calls answers left
FollowsAlone p theirs x [] (a ∷ answers) left = ⊥
FollowsAlone p theirs x (call ∷ calls) [] left = ⊥

-- and gives these datagrams
abbrev pub GivesAlone : Policy → List (List ℕ) → Lone → List Call → List Answer → List (List ℕ) → Lone → Type 0
GivesAlone p theirs x [] [] ds left = (ds ≡ []) × (left ≡ x)
GivesAlone p theirs x (call ∷ calls) (a ∷ answers) ds left =
    (next : Lone) × (more : List (List ℕ)) × IsLoneStep p theirs x call a next × (ds ≡ gives p (reads_window x.control x.heard call x.end) call a ++ more) × GivesAlone p theirs next calls answers more left
GivesAlone p theirs x [] (a ∷ answers) ds left = ⊥
GivesAlone p theirs x (call ∷ calls) [] ds left = ⊥

-- An end as it was made, to which nothing came.
pub record IsNew (e : End) : Type 0 where
  pub side : Side
  pub settings : Settings
  pub windows : Windows
  pub parameters : List ℕ
  pub own_id : List ℕ
  pub peer_id : List ℕ
  pub remote : ℕ
  pub moment : ℕ
  pub validated : Bool
  pub words : ℕ → ℕ
  pub made : MadeFrom side settings windows parameters own_id peer_id remote moment validated words e

-- An end as it was made by settings in range, by which no path has to carry more than a UDP payload
-- has, for a peer whose id is no longer than ids are (RFC 9000, section 17.2).
pub record BeginsFit (x : Lone) : Type 0 where
  pub new : IsNew x.end
  pub range : IsInRange new.settings
  pub sizes : new.settings.min_mtu ≤ most_payload
  pub id : length new.peer_id ≤ 20

-- ---- what came, and what is read

-- the datagrams that calls hand in, of these
abbrev pub handed_in : List (List ℕ) → List Call → List (List ℕ)
handed_in theirs [] = []
handed_in theirs (calls.Deliver delivery ∷ others) = and_one (slice_get theirs delivery.index) (handed_in theirs others)
  where
    and_one : Option (List ℕ) → List (List ℕ) → List (List ℕ)
    and_one None ds = ds
    and_one (Some d) ds = d ∷ ds
handed_in theirs (call ∷ others) = handed_in theirs others

-- A datagram that was handed in opened by the key of the peer, and these stand in it.
pub record CameOpen (p : Policy) (ds : List (List ℕ)) : Type 0 where
  pub bytes : List ℕ
  pub handed : In bytes ds
  pub expected : ℕ
  pub opening : Opening
  pub opened : opens_by_key p expected bytes ≡ Some opening

-- A byte of a stream stood at an offset in a STREAM frame of such a datagram.
pub record ByteCame (p : Policy) (ds : List (List ℕ)) (id offset byte : ℕ) : Type 0 where
  pub packet : CameOpen p ds
  pub frame : StreamValue
  pub carried : In (stream frame) (frames_of (items packet.opening.payload))
  pub of_stream : frame.id ≡ id
  pub from : frame.offset ≤ offset
  pub is : slice_get frame.bytes (offset - frame.offset) ≡ Some byte

-- A message stood in a DATAGRAM frame of such a datagram.
pub record MessageCame (p : Policy) (ds : List (List ℕ)) (message : List ℕ) : Type 0 where
  pub packet : CameOpen p ds
  pub carried : In (datagram message) (frames_of (items packet.opening.payload))

-- Each byte that a read gives stood at its offset in a frame that was handed in before, and opened,
-- at an end that hasn't failed: of one that has nothing is said but its state.
abbrev pub BytesCame : Policy → List (List ℕ) → List Call → List Answer → Type 0
BytesCame p theirs calls answers = (i id k byte : ℕ) (call : Call) (a : Answer) (chunk : Chunk) → list_any fails (take i answers) ≡ false → slice_get calls i ≡ Some call → slice_get answers i ≡ Some a
    → In chunk (chunks_of (nexts_by id call a)) → slice_get chunk.bytes k ≡ Some byte → ByteCame p (handed_in theirs (take i calls)) id (chunk.offset + k) byte

-- and each message that is received there
abbrev pub MessagesCame : Policy → List (List ℕ) → List Call → List Answer → Type 0
MessagesCame p theirs made told = (i : ℕ) (message : List ℕ) → list_any fails (take i told) ≡ false → slice_get made i ≡ Some calls.Recv → slice_get told i ≡ Some (answers.Recv (Some message))
    → MessageCame p (handed_in theirs (take i made)) message
