-- What an end waits for, against what an observer of the run's lists knows to be in flight (RFC
-- 9002, sections 2, 6.1.1 and A.1).
use Rattle.std.specs.Prelude.{ℕ, ◌+◌, ◌≡◌, ◌⊎◌, Bool, true, false, not, if◌then◌else◌, List, [], ◌∷◌, length, map, Option, Some, None}
use Rattle.std.specs.List.{list_any}
use Rattle.quic_wire_core.specs.declared.shared.IssuedCid.{IssuedCid}
use Rattle.quic_wire_core.specs.declared.stream_id.Side.{Side}
use Rattle.quic_wire.specs.Value.{FrameValue, StreamValue, StopSendingValue, ack, stream, handshake_done, reset_stream, stop_sending, max_data, max_stream_data, max_streams, data_blocked, stream_data_blocked, new_connection_id, retire_connection_id, ack_frequency}
use Rattle.quic_send_buffer.specs.declared.stream_meta.StreamMeta.{StreamMeta}
use Rattle.quic_machine.specs.declared.answers.State.TheVariants as states
use Rattle.quic_streams_parts.specs.Table.{Table}
use Rattle.quic_retransmits.specs.Retransmits.{Retransmits, nothing_waits, with_ids}
use Rattle.quic_machine.specs.Tracking.{Carried, TrackedPacket, without_record}
use Rattle.quic_machine.specs.Machine.{World, end_at}
use Rattle.quic_headline.specs.Runs.{Run, In, AreServed, LeadsTo}
use Rattle.quic_headline.specs.Observer.{Sent, asks_of, watch}

-- the offsets of a STREAM frame, and whether the stream ends behind them (RFC 9000, section 19.8)
abbrev pub offsets_in : StreamValue → StreamMeta
offsets_in f = record { id = f.id; offsets = record { start = f.offset; end = f.offset + length f.bytes }; fin = f.fin }

-- those of the STREAM frames among some
abbrev pub all_offsets : List FrameValue → List StreamMeta
all_offsets [] = []
all_offsets (stream f ∷ fs) = offsets_in f ∷ all_offsets fs
all_offsets (other ∷ fs) = all_offsets fs

-- the greatest number that the first ACK frame acknowledges, if there is one
abbrev pub first_acknowledged : List FrameValue → Option ℕ
first_acknowledged [] = None
first_acknowledged (ack a ∷ fs) = Some a.largest
first_acknowledged (other ∷ fs) = first_acknowledged fs

-- ---- what has to be sent again if a datagram is lost, beside the bytes of streams (RFC 9000, section 13.3)

-- whether a frame is of such a kind, and what the frames of a kind say: HANDSHAKE_DONE
abbrev pub is_handshake_done : FrameValue → Bool
is_handshake_done handshake_done = true
is_handshake_done other = false

-- the same of MAX_DATA
abbrev pub is_max_data : FrameValue → Bool
is_max_data (max_data limit) = true
is_max_data other = false

-- the same of DATA_BLOCKED
abbrev pub is_data_blocked : FrameValue → Bool
is_data_blocked (data_blocked limit) = true
is_data_blocked other = false

-- the same of ACK_FREQUENCY, in the place of which another goes (QUIC Acknowledgement Frequency,
-- section 4)
abbrev pub is_ack_frequency : FrameValue → Bool
is_ack_frequency (ack_frequency f) = true
is_ack_frequency other = false

-- MAX_STREAMS of two-way or of one-way streams
abbrev pub is_max_streams : Bool → FrameValue → Bool
is_max_streams true (max_streams f) = f.one_way
is_max_streams false (max_streams f) = not f.one_way
is_max_streams one_way other = false

-- the streams that RESET_STREAM frames reset, with their codes
abbrev pub resets_in : List FrameValue → List (ℕ × ℕ)
resets_in [] = []
resets_in (reset_stream f ∷ fs) = (f.id, f.code) ∷ resets_in fs
resets_in (other ∷ fs) = resets_in fs

-- what STOP_SENDING frames say
abbrev pub stops_in : List FrameValue → List StopSendingValue
stops_in [] = []
stops_in (stop_sending f ∷ fs) = f ∷ stops_in fs
stops_in (other ∷ fs) = stops_in fs

-- the streams of MAX_STREAM_DATA frames
abbrev pub limits_in : List FrameValue → List ℕ
limits_in [] = []
limits_in (max_stream_data f ∷ fs) = f.id ∷ limits_in fs
limits_in (other ∷ fs) = limits_in fs

-- the streams of STREAM_DATA_BLOCKED frames
abbrev pub blocked_in : List FrameValue → List ℕ
blocked_in [] = []
blocked_in (stream_data_blocked f ∷ fs) = f.id ∷ blocked_in fs
blocked_in (other ∷ fs) = blocked_in fs

-- the ids of NEW_CONNECTION_ID frames
abbrev pub new_ids_in : List FrameValue → List IssuedCid
new_ids_in [] = []
new_ids_in (new_connection_id f ∷ fs) = record { sequence = f.sequence; id = f.id; reset_token = f.token } ∷ new_ids_in fs
new_ids_in (other ∷ fs) = new_ids_in fs

-- the numbers of RETIRE_CONNECTION_ID frames
abbrev pub retirements_in : List FrameValue → List ℕ
retirements_in [] = []
retirements_in (retire_connection_id n ∷ fs) = n ∷ retirements_in fs
retirements_in (other ∷ fs) = retirements_in fs

-- all of it: of each kind, that its frames are among these, or what they say, in their order or as
-- a set of streams
abbrev pub again_in : List FrameValue → Retransmits
again_in frames = record {
  handshake_done = list_any is_handshake_done frames;
  max_data = list_any is_max_data frames;
  data_blocked = list_any is_data_blocked frames;
  max_stream_id = record { bi = list_any (is_max_streams false) frames; uni = list_any (is_max_streams true) frames };
  reset_stream = resets_in frames;
  stop_sending = stops_in frames;
  max_stream_data = with_ids (limits_in frames) [];
  stream_data_blocked = with_ids (blocked_in frames) [];
  new_cids = new_ids_in frames;
  retire_cids = retirements_in frames;
  ack_frequency = list_any is_ack_frequency frames;
}

-- what a datagram with these frames carried
abbrev pub carried_by : List FrameValue → Carried
carried_by frames = record { largest_acked = first_acknowledged frames; stream_frames = all_offsets frames; retransmits = again_in frames }

-- what an end knows of a datagram that it waits for, by its number, and on which path it went. Where
-- it asks, it counts against the congestion window
abbrev pub waited_for : Sent → ℕ × TrackedPacket
waited_for s = (s.number, record { generation = s.generation; time_sent = s.moment; size = if asks_of s then s.size else 0; asks = asks_of s; carried = carried_by s.frames })

-- the same, but for what has to be sent again of it: a probe may have taken that (RFC 9002, section
-- 6.2.4)
abbrev pub but_for_record : ℕ × TrackedPacket → ℕ × TrackedPacket
but_for_record p = (p.0, without_record p.1)

-- the datagrams of an end that are in flight behind the first so many answers, as the end is to
-- know them
abbrev pub in_flight : Run → Side → ℕ → Table TrackedPacket
in_flight r side i = map waited_for (watch r side i).flight.flying

-- An end waits for exactly these: of each it knows when it went, what acknowledgement and which
-- bytes of streams it carried, and what has to be sent again of it, unless a probe took that.
pub record WaitsFor (packets flying : Table TrackedPacket) : Type 0 where
  pub same : map but_for_record packets ≡ map but_for_record flying
  pub records : (n : ℕ) (p q : TrackedPacket) → In (n, p) packets → In (n, q) flying → (p.carried.retransmits ≡ q.carried.retransmits) ⊎ (p.carried.retransmits ≡ nothing_waits)

-- so does an end that is open there of the datagrams that are in flight
abbrev pub TracksAt : Run → ℕ → World → Type 0
TracksAt r i w = (side : Side) → (end_at side w).closing.state ≡ states.Open → WaitsFor (end_at side w).tracking.packets (in_flight r side i)

-- so it is at each place before which no delivery, no poll and no timeout met want of memory
abbrev pub TracksInFlight : Run → Type 0
TracksInFlight r = (i : ℕ) (w : World) → AreServed r i → LeadsTo r i w → TracksAt r i w
