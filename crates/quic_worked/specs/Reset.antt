-- A run in which a stream is reset that the peer's application was told of, and is told once more;
-- and a machine that tells it nothing of the reset.
use Rattle.std.specs.Prelude.{ℕ, List, [], ◌∷◌, ◌++◌, replicate, Some, None, Ok}
use Rattle.quic_wire.specs.Reading.{reset_stream_at}
use Rattle.quic_sets.specs.Offsets.{with_offsets}
use Rattle.quic_sets.specs.Pieces.{with_range, joining, pieces}
use Rattle.quic_machine.specs.declared.answers.Received.TheVariants as receives
use Rattle.quic_machine.specs.declared.run.RunEvent.{RunEvent}
use Rattle.quic_machine.specs.declared.run.Answer.{Answer}
use Rattle.quic_machine.specs.declared.run.Answer.TheVariants as answers
use Rattle.quic_machine.specs.Machine.{World}
use Rattle.quic_headline.specs.Runs.{Run}
use Rattle.quic_worked.specs.Worked.{after_event, worked_policies, started, once_taken, opens_stream, asks_datagram, gives_bytes, open_view, sent_view, server_open, server_waiting}
use Rattle.quic_worked.specs.Reordered.{abc, abc_datagram, writes_bytes, delivers_at, first_sent}
use Rattle.quic_worked.specs.Paired.{resets_with}
use Rattle.quic_worked.specs.Messages.{server_asks}
use Rattle.quic_worked.specs.Told.{tells_opened, tells_readable}

-- RESET_STREAM of stream 0 with code 7 and final size 3, under number 1 (RFC 9000, section 19.4)
abbrev pub reset_datagram : List ℕ
reset_datagram = (0x43 ∷ (replicate 8 0x50 ++ 0x01 ∷ [])) ++ (0x04 ∷ 0x00 ∷ 0x07 ∷ 0x03 ∷ []) ++ (replicate 7 0x00 ++ 0x01 ∷ replicate 8 0x63)

-- the client writes three bytes, gives them, resets their stream, and gives that; the first
-- datagram comes, and the application is told of the stream; then the second comes, and it asks
abbrev pub resetting : List RunEvent → List Answer → Run
resetting asks told = record {
  keys = worked_policies;
  start = started;
  events = opens_stream ∷ writes_bytes abc ∷ asks_datagram ∷ resets_with 7 ∷ asks_datagram ∷ delivers_at 0 ∷ server_asks ∷ delivers_at 1 ∷ asks;
  answers = answers.Open (Some 0) ∷ answers.Write (Ok 3) ∷ gives_bytes 228 ∷ answers.Reset (Ok tt) ∷ gives_bytes 30 ∷ answers.Deliver receives.Taken ∷ tells_opened ∷ answers.Deliver receives.Taken ∷ told;
  views =
      replicate 2 (record { client = open_view; server = server_open })
      ++ replicate 3 (record { client = sent_view; server = server_open })
      ++ replicate 5 (record { client = sent_view; server = server_waiting });
  from_client = abc_datagram ∷ reset_datagram ∷ [];
  from_server = [];
}

-- it is told that the stream may be read, and then of nothing
abbrev pub reset_run : Run
reset_run = resetting (server_asks ∷ server_asks ∷ []) (tells_readable ∷ answers.Event None ∷ [])

-- it is told of nothing, though the reset came
abbrev pub reset_untold : Run
reset_untold = resetting (server_asks ∷ []) (answers.Event None ∷ [])

-- ---- what the events leave

-- the stream is reset
unfoldable pub once_reset : World
unfolding first_sent with_offsets with_range joining pieces
once_reset = after_event worked_policies first_sent (resets_with 7) (answers.Reset (Ok tt))

-- that is given
unfoldable pub reset_sent : World
unfolding once_reset
reset_sent = after_event worked_policies once_reset asks_datagram (gives_bytes 30)

-- the bytes came
unfoldable pub bytes_taken : World
unfolding reset_sent once_taken
bytes_taken = after_event worked_policies reset_sent (delivers_at 0) (answers.Deliver receives.Taken)

-- the application was told of their stream
abbrev pub bytes_told : World
bytes_told = after_event worked_policies bytes_taken server_asks tells_opened

-- the reset came
unfoldable pub reset_taken : World
unfolding bytes_taken reset_stream_at
reset_taken = after_event worked_policies bytes_told (delivers_at 1) (answers.Deliver receives.Taken)

-- the application was told that the stream may be read
abbrev pub reset_told : World
reset_told = after_event worked_policies reset_taken server_asks tells_readable

-- and nothing is left to tell
abbrev pub reset_end : World
reset_end = after_event worked_policies reset_told server_asks (answers.Event None)
