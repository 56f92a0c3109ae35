-- Small ends, frames and drafts on which single definitions of the machine are computed, each of
-- which an engineer might get wrong unseen: what is worked out by hand by a rule is false over the
-- definition that was changed so.
use Rattle.std.specs.Prelude.{ℕ, zero, suc, Bool, true, false, if◌then◌else◌, List, [], ◌∷◌, ◌++◌, map, replicate, Option, Some, None, Ok}
use Rattle.quic_wire_core.specs.declared.shared.EcnCodepoint.{EcnCodepoint}
use Rattle.quic_wire_core.specs.declared.stream_id.Side.TheVariants.{Client, Server}
use Rattle.quic_wire_core.specs.declared.stream_id.Dir.TheVariants.{Bi}
use Rattle.quic_wire.specs.Value.{FrameValue, AckValue, ApplicationCloseValue, ping, padding, stream, datagram, asks}
use Rattle.quic_wire.specs.Writing.{stream_spelling}
use Rattle.quic_sets.specs.Offsets.{with_offsets, without_offsets, parts_from}
use Rattle.quic_sets.specs.Pieces.{pieces, with_range, joining, joined}
use Rattle.quic_config.specs.Transport.{parameters_of}
use Rattle.quic_time.specs.Timers.{no_timers}
use Rattle.quic_retransmits.specs.Retransmits.{nothing_waits}
use Rattle.quic_spaces.specs.Marks.{Counts}
use Rattle.quic_spaces.specs.Numbers.{number_opened}
use Rattle.quic_machine.specs.declared.answers.LostReason.TheVariants as reasons
use Rattle.quic_machine.specs.declared.run.Call.TheVariants as calls
use Rattle.quic_machine.specs.declared.run.Answer.TheVariants as answers
use Rattle.quic_machine.specs.Arrival.{arriving}
use Rattle.quic_machine.specs.Calls.{end_after_close}
use Rattle.quic_machine.specs.Closing.{ticked, close_given}
use Rattle.quic_machine.specs.End.{End, new_end, drained_by, with_closing, with_discovery, with_numbers, with_ping, with_waiting}
use Rattle.quic_machine.specs.Idle.{agreed_timeout}
use Rattle.quic_machine.specs.Machine.{end_on_streams}
use Rattle.quic_machine.specs.Parts as parts
use Rattle.quic_machine.specs.Poll.{Draft, no_frames, with_stream_frames}
use Rattle.quic_machine.specs.Receive.{Outcome, take_items, judged, is_urged, number_noted, opened_to}
use Rattle.quic_machine.specs.Sizes.{search_asked}
use Rattle.quic_machine.specs.Tracking.{TrackedPacket, streams_in}
use Rattle.quic_machine.specs.Validation.{path_asked}
use Rattle.quic_worked.specs.Settings.{plain_settings}
use Rattle.quic_worked.specs.Worked.{steady, client_id, server_id, client_made, server_made, searching, hello, hello_frame}

-- ---- ends

-- a client with which nothing waits but PING, where that does
abbrev pub quiet : Bool → End
quiet pings = with_ping (with_waiting client_made parts.nothing_waits) pings

-- an end at a later moment
abbrev pub at_moment : ℕ → End → End
at_moment now e = with_closing e (ticked e.closing now)

-- what an end makes of a frame that stands alone in packet 0
abbrev pub took : FrameValue → End → Outcome
took f e = judged (take_items (Ok f ∷ []) e) (asks f) false 0 None

-- a random source whose words count up from 0, and how one below 256 is written
abbrev pub counting : ℕ → ℕ
counting n = n

-- such a word, in eight bytes
abbrev pub word_bytes : ℕ → List ℕ
word_bytes n = replicate 7 0x00 ++ n ∷ []

-- ---- what comes, and what is acknowledged

-- packet 0 came to a client with a mark or with none, and asks, or has PADDING alone
abbrev pub came_with : Option EcnCodepoint → Bool → End
came_with mark asking = number_noted 0 asking (is_urged mark asking (Ok (if asking then ping else padding) ∷ []) client_made) mark client_made

-- to a client with which PING waits or doesn't the first so many packets came, of which none asks
abbrev pub silent_came : Bool → ℕ → End
silent_came pings zero = quiet pings
silent_came pings (suc n) = number_noted n false false None (silent_came pings n)

-- packets 0, 1 and 4 came
abbrev pub gap_came : End
gap_came = number_noted 4 false false None (silent_came false 2)

-- an ACK frame that names numbers from one up to another at once, and tells no counts
abbrev pub acks_from : ℕ → ℕ → AckValue
acks_from least greatest = record { largest = greatest; delay = 0; ranges = (least, greatest) ∷ []; ecn = None }

-- an ACK frame that names packet 0 and tells these counts
abbrev pub acks_marked : Counts → AckValue
acks_marked counts = record { largest = 0; delay = 0; ranges = (0, 0) ∷ []; ecn = Some counts }

-- a full datagram that asks and went at a moment, of which nothing has to be sent again
abbrev pub went_at : ℕ → TrackedPacket
went_at moment = record {
  generation = 0;
  time_sent = moment;
  size = 1200;
  asks = true;
  carried = record { largest_acked = None; stream_frames = []; retransmits = nothing_waits };
}

-- a client whose MTU probe goes under number 0
abbrev pub probing_client : End
probing_client = search_asked (searching true)

-- ---- streams, messages and events

-- a client that opened stream 0
abbrev pub opened_client : End
opened_client = end_on_streams client_made (calls.Open Bi) (answers.Open (Some 0))

-- a client whose datagrams have room for 34 bytes of frames: it wrote 40 bytes on stream 0, and
-- five on stream 4
abbrev pub small_client : End
small_client = with_discovery (quiet false) (record client_made.path.discovery { size = 60 })

-- behind its first write
abbrev pub forty_written : End
forty_written =
    end_on_streams (end_on_streams small_client (calls.Open Bi) (answers.Open (Some 0))) (calls.Write 0 (replicate 40 0x61)) (answers.Write (Ok 40))

-- behind both
abbrev pub both_written : End
both_written =
    end_on_streams (end_on_streams forty_written (calls.Open Bi) (answers.Open (Some 4))) (calls.Write 4 hello) (answers.Write (Ok 5))

-- what goes of its streams into one datagram after another, counted from 0
unfoldable pub stream_turn : ℕ → Draft
unfolding stream_spelling with_offsets with_range joining joined without_offsets parts_from pieces
stream_turn zero = with_stream_frames (no_frames both_written)
stream_turn (suc n) = with_stream_frames (no_frames (stream_turn n).end)

-- the streams whose frames stand in a draft, in their order
abbrev pub streams_of_draft : Draft → List ℕ
streams_of_draft d = map (λ m. m.id) (streams_in d.frames)

-- a message came twice to a client
abbrev pub two_came : End
two_came = (took (datagram hello) (took (datagram hello) client_made).end).end

-- to a server a stream came and a message, and then it was lost
abbrev pub much_happened : End
much_happened = drained_by reasons.Idle (took (datagram hello) (took (stream hello_frame) server_made).end).end

-- ---- ids and path validation

-- a client whose random source counts
abbrev pub counting_client : End
counting_client = new_end Client plain_settings steady (parameters_of plain_settings) client_id server_id 0 0 true counting

-- a server whose random source does, and to which its peer's address isn't validated
abbrev pub asking_server : End
asking_server = new_end Server plain_settings steady (parameters_of plain_settings) server_id client_id 0 0 false counting

-- to an end PATH_CHALLENGE with a word comes in a packet
abbrev pub challenged_in : ℕ → ℕ → End → End
challenged_in number word e = path_asked (word_bytes word) (with_numbers e (number_opened e.numbers number))

-- ---- sizes and timers

-- a client that fills its datagrams up to their size, to which packet 0 came, which doesn't ask
abbrev pub padding_client : End
padding_client = record (silent_came false 1) { transport = record client_made.transport { pad_to_mtu = true } }

-- a client that is to be without a packet for ten seconds from moment 0 on, and no longer
abbrev pub alive_client : End
alive_client = record (quiet false) { timers = record no_timers { keep_alive = Some 10000000000 } }

-- a client that may be idle for 30 seconds
abbrev pub idle_client : End
idle_client = record client_made { transport = record client_made.transport { max_idle_timeout = Some 30000 } }

-- how long a connection may be without a packet, of whose ends these told this
abbrev pub agreed : Option ℕ → ℕ → Option ℕ
agreed own peer = agreed_timeout (record client_made.transport { max_idle_timeout = own }) (record client_made.peer_params { max_idle_timeout = peer })

-- ---- closing

-- how a client's application closes it at moment 0, and the client then
abbrev pub hello_close : ApplicationCloseValue
hello_close = record { code = 7; reason = hello }

-- the client that closed so
abbrev pub closing_client : End
closing_client = end_after_close 0 7 hello client_made

-- its close went
abbrev pub close_went : End → End
close_went e = with_closing e (close_given e.closing)

-- a packet with PING opened at an end, under a number
abbrev pub ping_opened : ℕ → End → Outcome
ping_opened number e = opened_to (record { first = 0x40; number = number; payload = 0x01 ∷ [] }) (arriving 0 0 None false) e
