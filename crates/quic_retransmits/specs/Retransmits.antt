-- What waits to be sent, or was sent in a packet and has to go again if that is lost, beside the
-- bytes of streams (RFC 9000, section 13.3).
use Rattle.std.specs.Prelude.{ℕ, ◌+◌, ◌-◌, ◌^◌, ◌<◌, ◌≤◌, Bool, true, false, not, ◌&&◌, ◌||◌, ◌==◌, nat_le, if◌then◌else◌, List, [], ◌∷◌, ◌++◌, length, Option, Some, None}
use Rattle.std.specs.List.{range_with_len, list_any, AllByRecursion}
use Rattle.std.specs.Ordering.{nat_cmp}
use Rattle.std.specs.BTreeMap.{is_at}
use Rattle.std.specs.BTreeSet.{insert_key}
use Rattle.std.specs.Set.{remove_key}
use Rattle.quic_wire_core.specs.declared.shared.IssuedCid.{IssuedCid}
use Rattle.quic_wire_core.specs.declared.stream_id.Dir.TheVariants.{Bi, Uni}
use Rattle.quic_wire.specs.Value.{StopSendingValue}
use Rattle.quic_streams_parts.specs.Dirs.{Flags, no_flag, of}
use Rattle.quic_retransmits.specs.declared.retransmits.ControlKind.{ControlKind}
use Rattle.quic_retransmits.specs.declared.retransmits.ControlKind.TheVariants.{HandshakeDone, ResetStream, StopSending, MaxData, MaxStreamData, MaxStreams, DataBlocked, StreamDataBlocked, NewConnectionId, RetireConnectionId}

-- HANDSHAKE_DONE; MAX_DATA; DATA_BLOCKED; MAX_STREAMS of each kind; RESET_STREAM of these streams
-- with these codes; STOP_SENDING; MAX_STREAM_DATA and STREAM_DATA_BLOCKED of the streams of these
-- sets; NEW_CONNECTION_ID; RETIRE_CONNECTION_ID of these numbers; and ACK_FREQUENCY
pub record Retransmits : Type 0 where
  pub handshake_done : Bool
  pub max_data : Bool
  pub data_blocked : Bool
  pub max_stream_id : Flags
  pub reset_stream : List (ℕ × ℕ)
  pub stop_sending : List StopSendingValue
  pub max_stream_data : List ℕ
  pub stream_data_blocked : List ℕ
  pub new_cids : List IssuedCid
  pub retire_cids : List ℕ
  pub ack_frequency : Bool

-- an id that NEW_CONNECTION_ID can tell: its number can be written, and it has bytes (RFC 9000,
-- sections 16 and 19.15)
abbrev pub CanBeTold : IssuedCid → Type 0
CanBeTold cid = (cid.sequence < 2 ^ 62) × (1 ≤ length cid.id)

-- all ids that wait to be told can be, and all numbers that wait to be retired can be written
abbrev pub HaveForm : List IssuedCid → List ℕ → Type 0
HaveForm new_cids retire_cids = AllByRecursion CanBeTold new_cids × AllByRecursion (λ n. n < 2 ^ 62) retire_cids

-- nothing
abbrev pub nothing_waits : Retransmits
nothing_waits = record {
  handshake_done = false;
  max_data = false;
  data_blocked = false;
  max_stream_id = no_flag;
  reset_stream = [];
  stop_sending = [];
  max_stream_data = [];
  stream_data_blocked = [];
  new_cids = [];
  retire_cids = [];
  ack_frequency = false;
}

-- ---- a set of stream ids, as its ascending list

-- with an id
abbrev pub with_id : ℕ → List ℕ → List ℕ
with_id id ids = insert_key nat_cmp ids id

-- without an id
abbrev pub without_id : ℕ → List ℕ → List ℕ
without_id id ids = remove_key (is_at (nat_cmp id)) ids

-- with the ids of another set
abbrev pub with_ids : List ℕ → List ℕ → List ℕ
with_ids [] ids = ids
with_ids (k ∷ ks) ids = with_ids ks (with_id k ids)

-- without ids, the last of them first
abbrev pub without_ids : List ℕ → List ℕ → List ℕ
without_ids [] ids = ids
without_ids (k ∷ ks) ids = without_id k (without_ids ks ids)

-- whether it has an id
abbrev pub has_id : ℕ → List ℕ → Bool
has_id id ids = list_any (is_at (nat_cmp id)) ids

-- each is below 2^62
abbrev pub AreIds : List ℕ → Type 0
AreIds ids = AllByRecursion (λ id. id < 2 ^ 62) ids

-- ---- lists and sets, from the front

-- the first of a list, if it isn't empty
abbrev pub first_of : {A : Type 0} → List A → Option A
first_of [] = None
first_of (x ∷ xs) = Some x

-- a list without its first
abbrev pub others_of : {A : Type 0} → List A → List A
others_of [] = []
others_of (x ∷ xs) = xs

-- whether there is one
abbrev pub is_any : {A : Type 0} → List A → Bool
is_any [] = false
is_any (x ∷ xs) = true

-- ---- both together

-- flags that either has
abbrev pub both_flags : Flags → Flags → Flags
both_flags f g = record { bi = f.bi || g.bi; uni = f.uni || g.uni }

-- flags and sets are joined, and the other's lists go behind
abbrev pub merged : Retransmits → Retransmits → Retransmits
merged r other = record {
  handshake_done = r.handshake_done || other.handshake_done;
  max_data = r.max_data || other.max_data;
  data_blocked = r.data_blocked || other.data_blocked;
  max_stream_id = both_flags r.max_stream_id other.max_stream_id;
  reset_stream = r.reset_stream ++ other.reset_stream;
  stop_sending = r.stop_sending ++ other.stop_sending;
  max_stream_data = with_ids other.max_stream_data r.max_stream_data;
  stream_data_blocked = with_ids other.stream_data_blocked r.stream_data_blocked;
  new_cids = r.new_cids ++ other.new_cids;
  retire_cids = r.retire_cids ++ other.retire_cids;
  ack_frequency = r.ack_frequency || other.ack_frequency;
}

-- ---- retirements (RFC 9000, section 5.1.2)

-- the most retirements that wait
abbrev pub most_retirements : ℕ
most_retirements = 80

-- whether the numbers from a up to z may be retired beside those that wait
abbrev pub can_retire : Retransmits → ℕ → ℕ → Bool
can_retire r a z = nat_le (length r.retire_cids + (z - a)) most_retirements

-- the numbers from a up to z are to be retired
abbrev pub after_retire : Retransmits → ℕ → ℕ → Retransmits
after_retire r a z = record r { retire_cids = r.retire_cids ++ range_with_len a (z - a) }

-- an id comes late whose number is retired: it is to be retired once more, unless that waits, or as
-- many wait as may
abbrev pub after_late : Retransmits → ℕ → Retransmits
after_late r n = if nat_le most_retirements (length r.retire_cids) || list_any (λ m. m == n) r.retire_cids then r
    else record r { retire_cids = r.retire_cids ++ n ∷ [] }

-- the kinds of control frames, in the order in which they go into a datagram (RFC 9000, sections
-- 19.4, 19.5, 19.9 to 19.13, 19.15, 19.16, 19.20): HANDSHAKE_DONE, RESET_STREAM, STOP_SENDING,
-- MAX_DATA, MAX_STREAM_DATA, MAX_STREAMS of two-way and then of one-way streams, DATA_BLOCKED,
-- STREAM_DATA_BLOCKED, NEW_CONNECTION_ID, RETIRE_CONNECTION_ID. The order is our choice
abbrev pub control_kinds : List ControlKind
control_kinds = HandshakeDone ∷ ResetStream ∷ StopSending ∷ MaxData ∷ MaxStreamData ∷ MaxStreams Bi ∷ MaxStreams Uni ∷ DataBlocked
    ∷ StreamDataBlocked ∷ NewConnectionId ∷ RetireConnectionId ∷ []

-- ---- whether something goes

-- whether something waits of a kind that may go: what has a gate counts where it is open, for the
-- kind or on the stream
abbrev pub any_counts : (ControlKind → Bool) → (ControlKind → ℕ → Bool) → ControlKind → Retransmits → Bool
any_counts gate gate_on HandshakeDone r = r.handshake_done
any_counts gate gate_on ResetStream r = is_any r.reset_stream
any_counts gate gate_on StopSending r = is_any r.stop_sending
any_counts gate gate_on MaxData r = r.max_data
any_counts gate gate_on MaxStreamData r = list_any (λ id. gate_on MaxStreamData id) r.max_stream_data
any_counts gate gate_on (MaxStreams dir) r = of dir r.max_stream_id
any_counts gate gate_on DataBlocked r = r.data_blocked && gate DataBlocked
any_counts gate gate_on StreamDataBlocked r = list_any (λ id. gate_on StreamDataBlocked id) r.stream_data_blocked
any_counts gate gate_on NewConnectionId r = is_any r.new_cids
any_counts gate gate_on RetireConnectionId r = is_any r.retire_cids

-- nothing waits that may go
abbrev pub is_empty_where : (ControlKind → Bool) → (ControlKind → ℕ → Bool) → Retransmits → Bool
is_empty_where gate gate_on r = not (list_any (λ kind. any_counts gate gate_on kind r) control_kinds || r.ack_frequency)
