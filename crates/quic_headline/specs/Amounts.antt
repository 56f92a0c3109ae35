-- How much a write takes: what the peer's limits and the send window leave (RFC 9000, section 4.1).
-- The limits are those of the peer's transport parameters and of the frames that came, and the rest
-- is read off what calls were answered and what was acknowledged.
use Rattle.std.specs.Prelude.{ℕ, zero, suc, ◌+◌, ◌-◌, ◌≡◌, ◌⊎◌, min, max, Bool, true, false, nat_le, nat_lt, ◌==◌, ◌&&◌, ◌||◌, if◌then◌else◌, List, [], ◌∷◌, ◌++◌, length, take, None, Result, Ok, Err}
use Rattle.std.specs.List.{list_any}
use Rattle.std.specs.Option.{is_some}
use Rattle.quic_wire_core.specs.declared.stream_id.Side.{Side}
use Rattle.quic_wire_core.specs.declared.stream_id.Side.TheVariants.{Client, Server}
use Rattle.quic_wire_core.specs.declared.stream_id.Dir.{Dir}
use Rattle.quic_wire_core.specs.declared.stream_id.Dir.TheVariants.{Bi, Uni}
use Rattle.quic_wire_core.specs.StreamId.{other_side, dir_of}
use Rattle.quic_parameters.specs.Parameters.{ParameterValues}
use Rattle.quic_config.specs.Transport.{parameters_of}
use Rattle.quic_wire.specs.Value.{FrameValue, stream, stop_sending, max_data, max_stream_data}
use Rattle.quic_streams_parts.specs.Dirs.{is_own, is_two_way}
use Rattle.quic_streams_parts.specs.declared.answers.WriteError.{WriteError}
use Rattle.quic_streams_parts.specs.declared.answers.WriteError.TheVariants as write_errors
use Rattle.quic_machine.specs.declared.answers.State.TheVariants as states
use Rattle.quic_machine.specs.declared.run.Call.{Call}
use Rattle.quic_machine.specs.declared.run.Call.TheVariants as calls
use Rattle.quic_machine.specs.declared.run.Answer.{Answer}
use Rattle.quic_machine.specs.declared.run.Answer.TheVariants as answers
use Rattle.quic_machine.specs.Start.{AreStarted, Making}
use Rattle.quic_machine.specs.Machine.{World}
use Rattle.quic_headline.specs.Runs.{Run, Told, Packet, joined, until, state_at, AreServed, written, ended, reset}
use Rattle.quic_headline.specs.Observer.{Sent, took, acked_until}
use Rattle.quic_headline.specs.Headline.{IsAt}

-- ---- how far the peer lets an end come

-- how an end was made
abbrev pub making_at : Side → (w : World) → AreStarted w → Making
making_at Client w s = s.client_making
making_at Server w s = s.server_making

-- the transport parameters that the peer of an end told (section 7.4)
abbrev pub peer_parameters : Side → (w : World) → AreStarted w → ParameterValues
peer_parameters side w s = parameters_of (making_at (other_side side) w s).settings

-- how far a stream may come at first: one of its own two-way streams, one of its own one-way
-- streams, or one that the peer opened (section 18.2)
abbrev pub first_told : ParameterValues → Bool → Dir → ℕ
first_told p true Bi = p.initial_max_stream_data_bidi_remote
first_told p true Uni = p.initial_max_stream_data_uni
first_told p false dir = p.initial_max_stream_data_bidi_local

-- the limit on all data that a frame tells (section 19.9)
abbrev pub data_limit_in : FrameValue → ℕ
data_limit_in (max_data limit) = limit
data_limit_in f = 0

-- the limit on the data of a stream that a frame tells (section 19.10)
abbrev pub stream_limit_in : ℕ → FrameValue → ℕ
stream_limit_in id (max_stream_data f) = if f.id == id then f.limit else 0
stream_limit_in id f = 0

-- the greatest of what frames tell, or 0
abbrev pub greatest_in : (FrameValue → ℕ) → List FrameValue → ℕ
greatest_in tells [] = 0
greatest_in tells (f ∷ fs) = max (tells f) (greatest_in tells fs)

-- the greatest of what the frames of packets tell, or 0
abbrev pub greatest : (FrameValue → ℕ) → List Packet → ℕ
greatest tells [] = 0
greatest tells (p ∷ ps) = max (greatest_in tells p.frames) (greatest tells ps)

-- how far all streams may come: the greatest limit that was told
abbrev pub data_limit : ParameterValues → List Packet → ℕ
data_limit p packets = max p.initial_max_data (greatest data_limit_in packets)

-- how far a stream may come that an end of this side writes
abbrev pub stream_limit : ParameterValues → Side → List Packet → ℕ → ℕ
stream_limit p side packets id = max (first_told p (is_own side id) (dir_of id)) (greatest (stream_limit_in id) packets)

-- whether a frame stops a stream (section 19.5)
abbrev pub stops_stream : ℕ → FrameValue → Bool
stops_stream id (stop_sending f) = f.id == id
stops_stream id f = false

-- whether the peer stopped a stream
abbrev pub was_stopped : ℕ → List Packet → Bool
was_stopped id packets = list_any (λ p. list_any (stops_stream id) p.frames) packets

-- ---- what was accepted

-- how many bytes a call wrote, on whichever stream
abbrev pub amount_by : Call → Answer → ℕ
amount_by (calls.Write s bytes) (answers.Write (Ok count)) = length (take count bytes)
amount_by (calls.WriteChunks s buffers) (answers.WriteChunks (Ok w)) = length (take w.bytes (joined buffers.items))
amount_by call a = 0

-- how many all calls wrote
abbrev pub all_written : List Told → ℕ
all_written [] = 0
all_written (t ∷ ts) = amount_by t.call t.answer + all_written ts

-- ---- what is buffered

-- A piece: what one write added to a stream, or one of the buffers of a write of several; it ends
-- below this offset, and has so many bytes.
pub record Piece : Type 0 where
  pub stream : ℕ
  pub end : ℕ
  pub size : ℕ

-- pieces of a stream that have these sizes, one behind another from an offset on
abbrev pub laid : ℕ → ℕ → List ℕ → List Piece
laid id at [] = []
laid id at (n ∷ ns) = record { stream = id; end = at + n; size = n } ∷ laid id (at + n) ns

-- so many bytes of buffers: how many lie in each
abbrev pub shares : ℕ → List (List ℕ) → List ℕ
shares n [] = []
shares n (b ∷ bs) = min n (length b) ∷ shares (n - length b) bs

-- the pieces that a call added, behind what was written before it
abbrev pub pieces_by : List Told → Call → Answer → List Piece
pieces_by before (calls.Write s bytes) (answers.Write (Ok count)) = laid s (length (written s before)) (length (take count bytes) ∷ [])
pieces_by before (calls.WriteChunks s buffers) (answers.WriteChunks (Ok w)) = laid s (length (written s before)) (shares w.bytes buffers.items)
pieces_by before call a = []

-- those of several calls, behind others
abbrev pub pieces_behind : List Told → List Told → List Piece
pieces_behind before [] = []
pieces_behind before (t ∷ ts) = pieces_by before t.call t.answer ++ pieces_behind (before ++ t ∷ []) ts

-- the pieces of an end
abbrev pub pieces_of : List Told → List Piece
pieces_of told = pieces_behind [] told

-- whether an offset of a stream stands in a frame (section 19.8)
abbrev pub has_offset : ℕ → ℕ → FrameValue → Bool
has_offset id offset (stream f) = (f.id == id) && (nat_le f.offset offset && nat_lt offset (f.offset + length f.bytes))
has_offset id offset f = false

-- whether it stands in one of these datagrams
abbrev pub is_held : List Sent → ℕ → ℕ → Bool
is_held sents id offset = list_any (λ s. list_any (has_offset id offset) s.frames) sents

-- whether each offset of a stream below an end does
abbrev pub all_held : List Sent → ℕ → ℕ → Bool
all_held sents id zero = true
all_held sents id (suc end) = is_held sents id end && all_held sents id end

-- A piece is kept whole until all of its stream up to its end is acknowledged, or the stream is
-- reset.
abbrev pub kept_of : List Sent → List Told → Piece → ℕ
kept_of acked told p = if is_some (reset p.stream told) || all_held acked p.stream p.end then 0 else p.size

-- how many bytes are kept of pieces
abbrev pub kept_in : List Sent → List Told → List Piece → ℕ
kept_in acked told [] = 0
kept_in acked told (p ∷ ps) = kept_of acked told p + kept_in acked told ps

-- how many bytes an end keeps, of which these datagrams were acknowledged
abbrev pub buffered : List Sent → List Told → ℕ
buffered acked told = kept_in acked told (pieces_of told)

-- ---- the clause

-- what a write of so many bytes may be told, where so many may be taken
abbrev pub taken_of : ℕ → ℕ → Result ℕ WriteError
taken_of left count = if left == 0 then Err write_errors.Blocked else Ok (min count left)

-- what is left to an end of this side at a place: of the limit on all data
abbrev pub data_left : (r : Run) → AreStarted r.start → Side → ℕ → ℕ
data_left r s side i = data_limit (peer_parameters side r.start s) (took r side i) - all_written (until r side i)

-- of that of a stream
abbrev pub stream_left : (r : Run) → AreStarted r.start → Side → ℕ → ℕ → ℕ
stream_left r s side i id = stream_limit (peer_parameters side r.start s) side (took r side i) id - length (written id (until r side i))

-- and of its send window
abbrev pub window_left : (r : Run) → AreStarted r.start → Side → ℕ → ℕ
window_left r s side i = (making_at side r.start s).settings.send_window - buffered (acked_until r side i) (until r side i)

-- so many bytes may be taken of a stream: the least of these
abbrev pub left_for : (r : Run) → AreStarted r.start → Side → ℕ → ℕ → ℕ
left_for r s side i id = min (data_left r s side i) (min (stream_left r s side i id) (window_left r s side i))

-- a call writes so many bytes on a stream
abbrev pub WritesOn : Call → ℕ → ℕ → Type 0
WritesOn (calls.Write s bytes) id count = (s ≡ id) × (length bytes ≡ count)
WritesOn (calls.WriteChunks s buffers) id count = (s ≡ id) × (length (joined buffers.items) ≡ count)
WritesOn call id count = ⊥

-- what a write was told of its bytes
abbrev pub told_so : Answer → Result ℕ WriteError → Type 0
told_so (answers.Write said) result = said ≡ result
told_so (answers.WriteChunks (Ok w)) result = Ok w.bytes ≡ result
told_so (answers.WriteChunks (Err e)) result = Err e ≡ result
told_so a result = ⊥

-- An end may write on a stream: it runs its way, and the end neither finished nor reset it, nor did
-- the peer stop it.
pub record MayWrite (r : Run) (side : Side) (i id : ℕ) : Type 0 where
  pub sends : (is_own side id || is_two_way (dir_of id)) ≡ true
  pub unended : ended id (until r side i) ≡ false
  pub kept : reset id (until r side i) ≡ None
  pub goes : was_stopped id (took r side i) ≡ false

-- a write of an open end takes as many bytes as may be taken, and is blocked where none may; or it
-- finds no memory, and takes none
abbrev pub WritesTakeWhatLimitsAllow : Run → Type 0
WritesTakeWhatLimitsAllow r = (s : AreStarted r.start) (side : Side) (i id count : ℕ) (call : Call) (a : Answer)
    → AreServed r i → IsAt r i side call a → WritesOn call id count → state_at r side i ≡ states.Open → MayWrite r side i id
    → told_so a (Err write_errors.Memory) ⊎ told_so a (taken_of (left_for r s side i id) count)
