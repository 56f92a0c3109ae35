-- What the application is told of streams, one event at a time.
use Rattle.std.specs.Prelude.{ℕ, Bool, true, false, nat_lt, ◌==◌, ◌&&◌, if◌then◌else◌, List, [], ◌∷◌, Option, Some, None}
use Rattle.quic_wire_core.specs.declared.stream_id.Dir.{Dir}
use Rattle.quic_wire_core.specs.declared.stream_id.Dir.TheVariants.{Bi, Uni}
use Rattle.quic_streams_parts.specs.declared.answers.StreamEvent.{StreamEvent}
use Rattle.quic_streams_parts.specs.declared.answers.StreamEvent.TheVariants as stream_events
use Rattle.quic_streams_parts.specs.Table.{Table, at, put}
use Rattle.quic_streams_parts.specs.Dirs.{with_of}
use Rattle.quic_streams_parts.specs.Events.{first_event, after_event}
use Rattle.quic_streams_parts.specs.SendHalf.{SendHalf, is_ready, written_on}
use Rattle.quic_streams_state.specs.State.{StreamsState, Sending, room}

-- what is told, if anything is, and the streams that are left
pub record Telling : Type 0 where
  pub answer : Option StreamEvent
  pub state : StreamsState

-- ---- streams that take bytes again, the latest blocked first

-- whether a write on a part would be accepted, or refused for a stop that the application hasn't
-- seen
abbrev pub is_writable : Option SendHalf → Bool
is_writable None = false
is_writable (Some h) = is_ready h && nat_lt (written_on h) h.limit

-- the parts, of which one is no longer among those that are blocked
abbrev pub unblocked_at : Option SendHalf → Table SendHalf → ℕ → Table SendHalf
unblocked_at None halves id = halves
unblocked_at (Some h) halves id = put halves id (record h { blocked = false })

-- the first that is writable, and what is left of the others and of the parts: those before it are
-- passed over, unreported
pub record Passing : Type 0 where
  pub found : Option ℕ
  pub blocked : List ℕ
  pub halves : Table SendHalf

-- the blocked streams are passed, up to the first that is writable
abbrev pub passed : List ℕ → Table SendHalf → Passing
passed [] halves = record { found = None; blocked = []; halves = halves }
passed (id ∷ ids) halves = if is_writable (at halves id) then record { found = Some id; blocked = ids; halves = unblocked_at (at halves id) halves id } else passed ids (unblocked_at (at halves id) halves id)

-- what is sent after those were passed
abbrev pub after_passed : Sending → Passing → Sending
after_passed s p = record s { blocked = p.blocked; halves = record s.halves { live = p.halves } }

-- the streams after those were passed
abbrev pub after_passing : StreamsState → Passing → StreamsState
after_passing s p = record s { sending = after_passed s.sending p }

-- ---- in this order: streams that were opened, two-way ones first; those that take bytes again; the rest as it came

-- the first event that waits is told, and waits no more
abbrev pub told_next : StreamsState → Telling
told_next s = record { answer = first_event s.events; state = record s { events = after_event s.events } }

-- a stream that is writable is told, if one was found, and else what comes behind
abbrev pub told_behind : Option ℕ → StreamsState → Telling
told_behind (Some id) s = record { answer = Some (stream_events.Writable id); state = s }
told_behind None s = told_next s

-- a stream is told to take bytes again only while the connection has room
abbrev pub told_writable : StreamsState → Telling
told_writable s = if room s.sending == 0 then told_next s else (let p = passed s.sending.blocked s.sending.halves.live in told_behind p.found (after_passing s p))

-- it is told that the peer opened streams of a kind
abbrev pub told_opened : Dir → StreamsState → Telling
told_opened dir s = record { answer = Some (stream_events.Opened dir); state = record s { events = record s.events { opened = with_of dir false s.events.opened } } }

-- what a poll for events answers and leaves
abbrev pub polled : StreamsState → Telling
polled s = if s.events.opened.bi then told_opened Bi s else (if s.events.opened.uni then told_opened Uni s else told_writable s)
