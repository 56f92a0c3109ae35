-- The limits on what an end sends are those of its peer's transport parameters, as bytes, and of
-- the frames that came; and it opens streams while these let it (RFC 9000, sections 4.1, 4.6, 7.4 and
-- 18.2).
use Rattle.std.specs.Prelude.{ℕ, ◌<◌, ◌≤◌, ◌≡◌, max, if◌then◌else◌, List, length, Option, Some, None, Ok}
use Rattle.quic_wire_core.specs.declared.stream_id.Side.{Side}
use Rattle.quic_wire_core.specs.declared.stream_id.Dir.{Dir}
use Rattle.quic_wire_core.specs.declared.stream_id.Dir.TheVariants.{Bi, Uni}
use Rattle.quic_wire_core.specs.StreamId.{other_side}
use Rattle.quic_parameters.specs.Parameters.{ParameterValues}
use Rattle.quic_parameters.specs.ParametersRead.{parameters_at}
use Rattle.quic_wire.specs.Value.{FrameValue, max_streams}
use Rattle.quic_streams_parts.specs.Dirs.{of}
use Rattle.quic_streams_parts.specs.SendHalf.{SendHalf}
use Rattle.quic_streams_parts.specs.Table.{at}
use Rattle.quic_machine.specs.declared.answers.State.TheVariants as states
use Rattle.quic_machine.specs.declared.run.Call.TheVariants as calls
use Rattle.quic_machine.specs.declared.run.Answer.TheVariants as answers
use Rattle.quic_machine.specs.Start.{AreStarted}
use Rattle.quic_machine.specs.Parts.{current_mtu}
use Rattle.quic_machine.specs.End.{End}
use Rattle.quic_machine.specs.Machine.{World, end_at}
use Rattle.quic_headline.specs.Runs.{Run, Packet, until, state_at, AreServed, LeadsTo}
use Rattle.quic_headline.specs.Observer.{took}
use Rattle.quic_headline.specs.Headline.{IsAt}
use Rattle.quic_headline.specs.Undone.{opens}
use Rattle.quic_headline.specs.Amounts.{making_at, peer_parameters, data_limit, stream_limit, greatest}

-- how many streams of a kind an end may open at first (section 18.2)
abbrev pub first_count : ParameterValues → Dir → ℕ
first_count p Bi = p.initial_max_streams_bidi
first_count p Uni = p.initial_max_streams_uni

-- how many a frame tells (section 19.11)
abbrev pub count_in : Dir → FrameValue → ℕ
count_in Bi (max_streams f) = if f.one_way then 0 else f.count
count_in Uni (max_streams f) = if f.one_way then f.count else 0
count_in dir f = 0

-- how many it may open: the greatest number that was told
abbrev pub count_limit : ParameterValues → Dir → List Packet → ℕ
count_limit p dir packets = max (first_count p dir) (greatest (count_in dir) packets)

-- An end keeps to these parameters of its peer, and to what these packets brought: on all data, on
-- the data of each stream, on how many streams of a kind it opens, and on the bytes of a datagram.
pub record KeepsTo (p : ParameterValues) (side : Side) (packets : List Packet) (e : End) : Type 0 where
  pub told : e.peer_params ≡ p
  pub all_data : e.streams.sending.limit ≡ data_limit p packets
  pub stream : (id : ℕ) (h : SendHalf) → at e.streams.sending.halves.live id ≡ Some h → h.limit ≡ stream_limit p side packets id
  pub count : (dir : Dir) → of dir e.streams.opening.own_limit ≡ count_limit p dir packets
  pub size : current_mtu e.path ≤ p.max_udp_payload_size

-- so each open end keeps to what the bytes say that it was given of its peer as it was made, and to
-- what it took
abbrev pub LimitsAreThePeers : Run → Type 0
LimitsAreThePeers r = (s : AreStarted r.start) (side : Side) (i : ℕ) (w : World) (p : ParameterValues) → AreServed r i → LeadsTo r i w → state_at r side i ≡ states.Open
    → parameters_at (making_at (other_side side) r.start s).parameters ≡ Ok p → KeepsTo p side (took r side i) (end_at side w)

-- A call that opens a stream, of an end that opened so many of its kind and may open as many as this,
-- finds none exactly where it opened as many.
pub record OpensWithin (opened count : ℕ) (answer : Option ℕ) : Type 0 where
  pub none : answer ≡ None → count ≤ opened
  pub some : (id : ℕ) → answer ≡ Some id → opened < count

-- so does each of an open end, which may open as many as the greatest count lets it that its peer
-- told (section 4.6)
abbrev pub OpeningIsExact : Run → Type 0
OpeningIsExact r = (s : AreStarted r.start) (side : Side) (i : ℕ) (dir : Dir) (answer : Option ℕ) → AreServed r i → state_at r side i ≡ states.Open → IsAt r i side (calls.Open dir) (answers.Open answer)
    → OpensWithin (length (opens dir (until r side i))) (count_limit (peer_parameters side r.start s) dir (took r side i)) answer
