-- What an end keeps of what its peer sent, whatever that is: no more than the end advertised, or
-- than a number of its own lets it (RFC 9000, sections 4.1, 4.6, 5.1.1, 13.2.3 and 21.7; RFC 9221,
-- section 3). The constants are ours.
use Rattle.std.specs.Prelude.{ℕ, ◌+◌, ◌/◌, ◌≤◌, ◌≡◌, max, true, false, List, [], length, Option, Some, None}
use Rattle.std.specs.List.{list_any}
use Rattle.quic_wire_core.specs.declared.stream_id.Dir.{Dir}
use Rattle.quic_config.specs.Transport.{Settings}
use Rattle.quic_assembler.specs.Arrived.{bytes_read_of, runs_of}
use Rattle.quic_messages.specs.Messages.{bytes_of}
use Rattle.quic_streams_parts.specs.Table.{at}
use Rattle.quic_streams_parts.specs.Dirs.{of}
use Rattle.quic_streams_parts.specs.RecvHalf.{RecvHalf}
use Rattle.quic_streams_state.specs.State.{seen, consumed}
use Rattle.quic_machine.specs.declared.run.Call.{Call}
use Rattle.quic_machine.specs.declared.run.Answer.{Answer}
use Rattle.quic_machine.specs.Policy.{Policy}
use Rattle.quic_machine.specs.Calls.{is_open}
use Rattle.quic_machine.specs.End.{End}
use Rattle.quic_machine.specs.Machine.{fails}
use Rattle.quic_headline.specs.Credit.{most_at_once}
use Rattle.quic_headline.specs.Alone.{Lone, IsNew, FollowsAlone}

-- So many bytes at most, and as many messages or one, wait to be received in such a buffer; without
-- one none does.
abbrev pub WaitWithin : Option ℕ → List (List ℕ) → Type 0
WaitWithin None messages = messages ≡ []
WaitWithin (Some room) messages = (bytes_of length messages ≤ room) × (length messages ≤ max room 1)

-- An end with these settings keeps no more than it advertised.
pub record KeepsWithin (s : Settings) (e : End) : Type 0 where
  -- of a stream nothing lies further than its window past what was read, nor of all together past
  -- what counts as consumed (RFC 9000, section 4.1)
  pub stream : (id : ℕ) (h : RecvHalf) → at e.streams.receiving.halves.live id ≡ Some h → h.seen ≤ bytes_read_of h.arrived + s.stream_receive_window
  pub total : seen e.streams.receiving ≤ consumed e.streams.receiving + s.receive_window
  -- while it is open, what waits of a stream stands in no more runs than one for each 1,024 bytes
  -- of its window, and 2048 at least (section 21.7, which names no number): a frame by which it
  -- stands in more closes it
  pub runs : is_open e.closing.state ≡ true → (id : ℕ) (h : RecvHalf) → at e.streams.receiving.halves.live id ≡ Some h → runs_of h.arrived.parts ≤ max 2048 (s.stream_receive_window / 1024)
  -- the peer opened at most as many streams past those that are done as it may have open at once
  -- (section 4.6)
  pub streams : (dir : Dir) → of dir e.streams.opening.remote ≤ of dir e.streams.opening.done + most_at_once dir s
  -- messages wait within the receive buffer (RFC 9221, section 3)
  pub messages : WaitWithin s.datagram_receive_buffer_size e.messages.queues.incoming
  -- the numbers to acknowledge are 64 runs at most (section 13.2.3)
  pub numbers : length e.acknowledging.runs ≤ 64
  -- of the peer's connection ids seven are known beside the one in use (section 5.1.1)
  pub ids : length e.ids.peer.later ≤ 7

-- So does an end that was made with these settings, behind any calls at it, whatever datagrams are
-- handed in, as long as it doesn't fail.
abbrev pub StaysWithin : Policy → List (List ℕ) → Lone → List Call → List Answer → Lone → Type 0
StaysWithin p theirs x calls told left = (new : IsNew x.end) → FollowsAlone p theirs x calls told left → list_any fails told ≡ false → KeepsWithin new.settings left.end
