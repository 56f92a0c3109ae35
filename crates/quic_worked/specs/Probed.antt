-- A run in which a probe takes what has to be sent again of a datagram (RFC 9002, section 6.2.4):
-- the client resets one of two streams, its datagram comes to nobody, and its loss timer expires.
-- The first probe carries the reset once more, the datagram stays in flight. And machines that go
-- wrong there.
use Rattle.std.specs.Prelude.{ℕ, true, false, List, [], ◌∷◌, ◌++◌, drop, Some, None, Ok, Option}
use Rattle.quic_wire_core.specs.declared.stream_id.Side.TheVariants.{Client}
use Rattle.quic_send_buffer.specs.declared.stream_meta.StreamMeta.{StreamMeta}
use Rattle.quic_wire.specs.Reading.{reset_stream_at}
use Rattle.quic_retransmits.specs.Retransmits.{Retransmits}
use Rattle.quic_streams_parts.specs.Table.{Table}
use Rattle.quic_machine.specs.declared.run.View.{View}
use Rattle.quic_machine.specs.declared.run.RunEvent.{RunEvent}
use Rattle.quic_machine.specs.declared.run.Answer.{Answer}
use Rattle.quic_machine.specs.declared.run.Answer.TheVariants as answers
use Rattle.quic_machine.specs.Tracking.{TrackedPacket}
use Rattle.quic_machine.specs.Machine.{World}
use Rattle.quic_headline.specs.Runs.{Run}
use Rattle.quic_worked.specs.Worked.{ran_so_far, worked_policies, with_client, gives_bytes, ids_payload, ids_again, both_steady, view_with, open_view}
use Rattle.quic_worked.specs.Acknowledged.{client_acked, client_datagram}
use Rattle.quic_worked.specs.Losses.{waiting_for}
use Rattle.quic_worked.specs.Paired.{pair_sent, giving_events, giving_answers, paired_payload, without_again}
use Rattle.quic_worked.specs.Timed.{serves, asks_at}

-- ---- the run

-- 1024 ms pass, and the client is asked for a datagram
abbrev pub later_events : List RunEvent
later_events = serves Client 1024000000 ∷ asks_at Client 1024000000 ∷ []

-- the probe has 226 bytes
abbrev pub later_answers : List Answer
later_answers = answers.Timeout (Ok tt) ∷ gives_bytes 226 ∷ []

-- what the first so many of these leave
unfoldable pub once_probed : ℕ → World
unfolding client_acked reset_stream_at pair_sent
once_probed n = ran_so_far worked_policies pair_sent later_events later_answers n

-- RESET_STREAM of stream 0 with code 7 and final size 3 (RFC 9000, section 19.4), and the ids
abbrev pub reset_payload : List ℕ
reset_payload = 0x04 ∷ 0x00 ∷ 0x07 ∷ 0x03 ∷ ids_payload

-- what is seen of a client with this timer of losses, and of a server that is open
abbrev pub shown_with : Option ℕ → View
shown_with timer = record { client = view_with timer None; server = open_view }

-- the run: the wait doubles once the timer expired, and counts from the probe on
abbrev pub probed_run : Run
probed_run = record {
  keys = worked_policies;
  start = both_steady;
  events = giving_events ++ later_events;
  answers = giving_answers ++ later_answers;
  views =
      shown_with None
      ∷ shown_with None
      ∷ shown_with None
      ∷ shown_with None
      ∷ shown_with None
      ∷ shown_with (Some 1024000000)
      ∷ shown_with (Some 2048000000)
      ∷ shown_with (Some 3072000000)
      ∷ [];
  from_client = client_datagram 0 0 paired_payload ∷ client_datagram 1 0 reset_payload ∷ [];
  from_server = [];
}

-- ---- what is waited for

-- a datagram of so many bytes that went at a moment with these parts of streams, and of which this
-- has to be sent again if it is lost
abbrev pub telling : ℕ → ℕ → List StreamMeta → Retransmits → TrackedPacket
telling size moment frames again = record {
  generation = 0;
  time_sent = moment;
  size = size;
  asks = true;
  carried = record { largest_acked = None; stream_frames = frames; retransmits = again };
}

-- the three bytes of the second stream
abbrev pub second_bytes : StreamMeta
second_bytes = record { id = 4; offsets = record { start = 0; end = 3 }; fin = false }

-- the reset of the first, and the ids
abbrev pub the_reset : Retransmits
the_reset = record ids_again { reset_stream = (0, 7) ∷ [] }

-- the first datagram, of which this has to be sent again, and the probe
abbrev pub both_with : Retransmits → Table TrackedPacket
both_with again = (0, telling 232 0 (second_bytes ∷ []) again) ∷ (1, telling 226 1024000000 [] the_reset) ∷ []

-- ---- machines that go wrong there

-- the reset is taken from the first datagram, and no other carries it
abbrev pub record_dropped : World
record_dropped = with_client (once_probed 2) (waiting_for (without_again (once_probed 2).client.tracking.packets) (once_probed 2).client)

-- the first datagram isn't waited for any more, once its reset was taken
abbrev pub datagram_dropped : World
datagram_dropped = with_client (once_probed 2) (waiting_for (drop 1 (once_probed 2).client.tracking.packets) (once_probed 2).client)
