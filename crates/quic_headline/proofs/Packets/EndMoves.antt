-- What frames, datagrams, moments, calls and polls change of an end, as moves: each leaves another
-- end without a condition, and conditions say which of them come.
use Rattle.std.proofs.Common.{◌≡◌, ℕ, Bool, true, false, List, [], ◌∷◌, ◌++◌, Option, Some, None}
use Rattle.std.specs.Prelude.{◌⊎◌}
use Rattle.std.specs.declared.ops.Range.{Range}
use Rattle.quic_send_buffer.specs.declared.stream_meta.StreamMeta.{StreamMeta}
use Rattle.quic_wire_core.specs.declared.shared.EcnCodepoint.{EcnCodepoint}
use Rattle.quic_wire_core.specs.declared.stream_id.Side.TheVariants.{Client}
use Rattle.quic_wire.specs.Value.{FrameValue, AckValue, AckFrequencyValue, NewConnectionIdValue, path_challenge, path_response, handshake_done, new_connection_id, retire_connection_id, immediate_ack, ack_frequency}
use Rattle.quic_messages.specs.Messages.{without_longer}
use Rattle.quic_spaces.specs.Marks.{Counts, after_mark}
use Rattle.quic_spaces.specs.Numbers.{number_opened, number_named, number_taken}
use Rattle.quic_spaces.specs.Acknowledging.{with_due}
use Rattle.quic_recovery_core.specs.PendingAcks.{after_insert, after_packet}
use Rattle.quic_time.specs.Rtt.{Rtt}
use Rattle.quic_time.specs.Timers.{has_come}
use Rattle.quic_congestion.specs.Pacer.{Pacing}
use Rattle.quic_congestion.specs.Search.{Discovery}
use Rattle.quic_streams_state.specs.State.{Streams, streams_of}
use Rattle.quic_streams_state.specs.Control.{without_first, frame_told}
use Rattle.quic_streams_state.specs.Frames.{after_frame_sent}
use Rattle.quic_streams_parts.specs.Table.{at}
use Rattle.quic_streams_parts.specs.SendHalf.{SendHalf, frame_counts}
use Rattle.quic_streams_parts.specs.Queue.{first_queued}
use Rattle.quic_streams_laws.specs.KindLaws.{GoesFirst}
use Rattle.quic_retransmits.specs.declared.retransmits.ControlKind.{ControlKind}
use Rattle.quic_machine.specs.declared.answers.LostReason.{LostReason}
use Rattle.quic_machine.specs.declared.answers.State.TheVariants as states
use Rattle.quic_machine.specs.declared.run.Call.{Call}
use Rattle.quic_machine.specs.declared.run.Call.TheVariants as calls
use Rattle.quic_machine.specs.Closing.{ticked, close_asked, close_given}
use Rattle.quic_machine.specs.Parts.{Messaging, Confirmation, heard_done}
use Rattle.quic_machine.specs.Tracking.{TrackedPacket, Carried, Verdict, after_sent, not_acked_by, after_detection, after_answered, after_loss_timeout}
use Rattle.quic_machine.specs.End.{End, side_of, with_closing, closing_by, drained_by, with_numbers, with_ids, with_frames, with_frequency, with_streams, with_messages, with_confirmation, with_tracking, with_rtt, with_told, with_marking, with_discovery, with_queued, with_ack_timer_at, with_path_timer, with_loss_timer, with_ping, with_immediate, with_done, with_number_given, number_of, challenged}
use Rattle.quic_machine.specs.Acked.{request_acked, without_known, reset_acked, stream_acked, stream_lost, again}
use Rattle.quic_machine.specs.Idle.{packet_heard, keep_alive_expired}
use Rattle.quic_machine.specs.Ids.{retired, next_used}
use Rattle.quic_machine.specs.IdFrames.{retiring, with_taken_up, issued, drawn}
use Rattle.quic_machine.specs.Validation.{path_asked, path_validated, challenge_sent, response_sent}
use Rattle.quic_machine.specs.Control.{with_app_limited}
use Rattle.quic_machine.specs.Poll.{record_moved, lazied, after_ack, after_request}
use Rattle.quic_machine.specs.Migration.{path_to, with_path}
use Rattle.quic_machine.specs.Receive.{ack_required, acknowledging_as}
use Rattle.quic_machine.specs.LeaveCases.{at_event}
use Rattle.quic_machine.specs.Timeouts.{acks_expired, pacing_expired, close_expired}
use Rattle.quic_headline.specs.Runs.{In}
use Rattle.quic_headline.proofs.Packets.Probes.{with_pacer, Going}

-- one change of an end
pub data Move : Type 0 where
  -- an ACK frame: its greatest number counts; of a packet that it names what the packet told is
  -- known to the peer, and what it carried is acknowledged; those that it names are tracked no
  -- more, no probe has to go, a round trip is measured, and the peer's counts of marks are kept
  counts : ℕ → Move
  known : ℕ → Move
  answered : ℕ → Move
  reset : ℕ → Move
  acked : StreamMeta → Move
  acknowledged : AckValue → Move
  replied : Move
  measured_as : Rtt → Option ℕ → Move
  marked : Counts → Bool → Move
  -- what a packet carried is lost, and packets are tracked no more by this verdict
  lost : StreamMeta → Move
  waits_again : Carried → Move
  detected : Verdict → Move
  -- the search for a size learns of both, and messages that are too long are dropped
  searched : Discovery → Move
  shortened_to : ℕ → Move
  -- streams change, and messages
  on_streams : Streams → Move
  on_messages : Messaging → Move
  -- ids: one of the peer's is taken up, numbers are to be retired, one once more, the next is used;
  -- an own one lives no more, one is issued, and those that were issued are drawn of these words
  taken_up : NewConnectionIdValue → Move
  retires : Range ℕ → Move
  late : ℕ → Move
  next : Move
  gone : ℕ → Move
  issues : Move
  draws : (ℕ → ℕ) → Move
  -- path validation: the peer asks, it answers, it is asked by this word, it is asked no more, and
  -- it is at another address
  challenge : List ℕ → Move
  validated : Move
  asked : ℕ → Move
  stops : Move
  leads : ℕ → Move
  -- acknowledging: one is due, as the peer asks; and so it asks for them
  urged : Move
  stale : ℕ → Move
  asks_so : AckFrequencyValue → Move
  -- HANDSHAKE_DONE came
  done : Move
  -- a packet: its number opened; and is taken, which asks or doesn't, at once, with this mark; one
  -- may wait until this moment; the times without one begin anew
  opened : ℕ → Move
  taken : ℕ → Bool → Bool → Option EcnCodepoint → Move
  awaits : ℕ → Move
  heard : Move
  -- PING is asked for, the handshake is confirmed so, and streams and the loss are told
  pings : Move
  confirms : Confirmation → Bool → Move
  tells : Bool → Move
  -- a poll: PING and IMMEDIATE_ACK wait so, and ACK_FREQUENCY; what has to be sent again of a
  -- tracked packet waits; pacer and search were asked; nothing went for want of it, or else
  signalled : Bool → Bool → Move
  requests : Bool → Move
  moved_again : ℕ × TrackedPacket → Move
  gates : Option ℕ → Pacing → Discovery → Move
  limits : Bool → Move
  -- an acknowledgement is due where many packets came that don't ask; a frame goes
  hurried : Move
  ack_went : Move
  challenge_went : Move
  response_went : Move
  ping_went : Move
  immediate_went : Move
  request_went : Move
  dropped : ControlKind → Move
  control_went : ControlKind → FrameValue → Move
  message_went : List ℕ → List (List ℕ) → Move
  stream_went : ℕ → SendHalf → ℕ → Move
  -- its packet is tracked, its number is given, and the rest is set; a close went
  tracks : ℕ → TrackedPacket → Move
  numbered : ℕ → Move
  went : Going → Move
  gave_close : Move
  -- a moment is taken over; timers expire
  ticks : ℕ → Move
  probes : Move
  acks_due : Move
  paced : Move
  alive : Move
  -- the loss timer is set anew
  sets : Move
  -- the end closes, its close is to go once more, and it is drained; so it is where it was closing,
  -- or the peer closed
  closes : LostReason → FrameValue → Move
  owes : Move
  drains : LostReason → Move
  over : Move
  takes : ℕ → Move

-- the end that a move leaves
abbrev pub after : Move → End → End
after (counts n) e = with_numbers e (number_named e.numbers n)
after (known n) e = without_known (Some n) e
after (answered n) e = request_acked n e
after (reset id) e = reset_acked id e
after (acked m) e = stream_acked m e
after (acknowledged a) e = with_tracking e (record e.tracking { packets = not_acked_by a e.tracking.packets })
after replied e = with_tracking e (after_answered e.tracking)
after (measured_as r first) e = with_rtt e r first
after (marked seen marks) e = with_marking (with_told e seen) marks
after (lost m) e = stream_lost m e
after (waits_again c) e = again c e
after (detected v) e = with_tracking e (after_detection v e.tracking)
after (searched d) e = with_discovery e d
after (shortened_to most) e = with_queued e (without_longer most e.messages.queues)
after (on_streams t) e = with_streams e t
after (on_messages m) e = with_messages e m
after (taken_up f) e = with_taken_up f e
after (retires r) e = retiring r e
after (late n) e = with_frames e (record e.waiting.frames { retire_cids = e.waiting.frames.retire_cids ++ n ∷ [] })
after next e = with_ids e (next_used e.ids)
after (gone n) e = with_ids e (retired n e.ids)
after issues e = issued e
after (draws words) e = drawn words e
after (challenge token) e = path_asked token e
after validated e = path_validated e
after (asked word) e = challenged word e
after stops e = record e { timers = with_path_timer e.timers None }
after (leads remote) e = with_path e (path_to remote e)
after urged e = ack_required e
after (stale n) e = with_frequency e (record e.frequency { last = Some n })
after (asks_so f) e = acknowledging_as f e
after done e = with_confirmation e (heard_done e.confirmation)
after (opened n) e = with_numbers e (number_opened e.numbers n)
after (taken n asking hurries mark) e = record e {
  numbers = number_taken e.numbers n;
  acknowledging = after_packet (with_due hurries (after_insert e.acknowledging n e.closing.clock)) e.closing.clock n asking e.numbers.opened;
  marks = record e.marks { came = after_mark mark e.marks.came };
}
after (awaits until) e = with_ack_timer_at e (Some until)
after heard e = packet_heard e
after pings e = with_ping e true
after (confirms c queued) e = with_done (with_confirmation e c) queued
after (tells told) e = at_event e told
after (signalled ping immediate) e = with_ping (with_immediate e immediate) ping
after (requests waits) e = with_frames e (record e.waiting.frames { ack_frequency = waits })
after (moved_again p) e = record_moved (Some p) e
after (gates until pacing discovery) e = with_pacer e until pacing discovery
after (limits limited) e = with_app_limited e limited
after hurried e = lazied e
after ack_went e = after_ack e
after challenge_went e = challenge_sent e
after response_went e = response_sent e
after ping_went e = with_ping e false
after immediate_went e = with_immediate e false
after request_went e = after_request e
after (dropped kind) e = with_streams e (streams_of e.streams (without_first kind e.waiting.frames))
after (control_went kind f) e = with_streams e (streams_of (frame_told f e.streams) (without_first kind e.waiting.frames))
after (message_went m ms) e = with_queued e (record e.messages.queues { outgoing = ms })
after (stream_went id h room) e = record e { streams = after_frame_sent e.transport.send_fairness e.streams id h room }
after (tracks n sent) e = with_tracking e (after_sent e.tracking n sent)
after (numbered word) e = with_number_given word e
after (went g) e = record e { timers = record e.timers { idle = g.idle; keep_alive = g.alive }; idle_armed = g.armed; path = record e.path { pacing = g.pacing; app_limited = false } }
after gave_close e = with_closing e (close_given e.closing)
after (ticks now) e = with_closing e (ticked e.closing now)
after probes e = with_tracking e (after_loss_timeout e.tracking)
after acks_due e = acks_expired true e
after paced e = pacing_expired true e
after alive e = keep_alive_expired true e
after sets e = with_loss_timer e
after (closes reason f) e = closing_by reason f e
after owes e = with_closing e (close_asked e.closing)
after (drains reason) e = drained_by reason e
after over e = close_expired true e
after (takes n) e = with_numbers e (number_taken e.numbers n)

-- what makes a move: a datagram, a moment at which timers expire, a poll, what is told, or another
-- call
pub data Cause : Type 0 where
  packet : Cause
  moment : Cause
  poll : Cause
  event : Cause
  other : Cause

abbrev pub cause_of : Call → Cause
cause_of (calls.Deliver delivery) = packet
cause_of (calls.Timeout now) = moment
cause_of (calls.Poll now) = poll
cause_of calls.Event = event
cause_of call = other

abbrev pub IsPacket : Cause → Type 0
IsPacket packet = Unit {0}
IsPacket by = ⊥

abbrev pub IsMoment : Cause → Type 0
IsMoment moment = Unit {0}
IsMoment by = ⊥

abbrev pub IsPoll : Cause → Type 0
IsPoll poll = Unit {0}
IsPoll by = ⊥

abbrev pub IsEvent : Cause → Type 0
IsEvent event = Unit {0}
IsEvent by = ⊥

-- When a move may come: by what makes it; the peer is asked where it isn't validated, or the moment
-- for that has come; an end that was closing is drained; and what goes waited.
abbrev pub May : Cause → Move → End → Type 0
May by (asked word) e = (e.path.validated ≡ false) ⊎ (has_come e.timers.path_validation e.closing.clock ≡ true)
May by (counts n) e = IsPacket by
May by (known n) e = IsPacket by
May by (answered n) e = IsPacket by
May by (reset id) e = IsPacket by
May by (acked m) e = IsPacket by
May by (acknowledged a) e = IsPacket by
May by replied e = IsPacket by
May by (measured_as r first) e = IsPacket by
May by (marked seen marks) e = IsPacket by
May by (taken_up g) e = IsPacket by
May by (late n) e = IsPacket by
May by (gone n) e = IsPacket by
May by issues e = IsPacket by
May by (draws words) e = IsPacket by
May by (challenge token) e = IsPacket by
May by validated e = IsPacket by
May by (leads remote) e = IsPacket by
May by urged e = IsPacket by
May by (stale n) e = IsPacket by
May by (asks_so f) e = IsPacket by
May by done e = IsPacket by
May by (opened n) e = IsPacket by
May by (taken n asking hurries mark) e = IsPacket by
May by (awaits until) e = IsPacket by
May by heard e = IsPacket by
May by owes e = IsPacket by
May by (takes n) e = IsPacket by
May by probes e = IsMoment by
May by acks_due e = IsMoment by
May by paced e = IsMoment by
May by alive e = IsMoment by
May by over e = IsMoment by × (e.closing.state ≡ states.Closing)
May by (tells told) e = IsEvent by
May by (signalled ping immediate) e = IsPoll by
May by (requests waits) e = IsPoll by
May by (gates until pacing discovery) e = IsPoll by
May by (limits limited) e = IsPoll by
May by hurried e = IsPoll by
May by ack_went e = IsPoll by
May by challenge_went e = IsPoll by
May by response_went e = IsPoll by
May by ping_went e = IsPoll by
May by immediate_went e = IsPoll by
May by request_went e = IsPoll by
May by (dropped kind) e = IsPoll by
May by (numbered word) e = IsPoll by
May by (went g) e = IsPoll by
May by gave_close e = IsPoll by
May by (moved_again p) e = IsPoll by × In p e.tracking.packets
May by (control_went kind f) e = IsPoll by × GoesFirst kind e.waiting.frames e.streams f
May by (message_went m ms) e = IsPoll by × (e.messages.queues.outgoing ≡ m ∷ ms)
May by (stream_went id h room) e = IsPoll by × (at e.streams.sending.halves.live id ≡ Some h) × (first_queued e.streams.sending.queue ≡ Some id) × (frame_counts h room ≡ true)
May by (tracks n sent) e = IsPoll by × (n ≡ number_of e)
May by m e = Unit {0}

-- which frame of a packet makes it
abbrev pub OfFrame : FrameValue → Move → End → Type 0
OfFrame f (challenge token) e = f ≡ path_challenge token
OfFrame f validated e = (token : List ℕ) × (f ≡ path_response token)
OfFrame f done e = (f ≡ handshake_done) × (side_of e ≡ Client)
OfFrame f (taken_up g) e = f ≡ new_connection_id g
OfFrame f (gone n) e = f ≡ retire_connection_id n
OfFrame f urged e = f ≡ immediate_ack
OfFrame f (asks_so g) e = f ≡ ack_frequency g
OfFrame f (asked word) e = ⊥
OfFrame f (leads remote) e = ⊥
OfFrame f (opened n) e = ⊥
OfFrame f (taken n asking hurries mark) e = ⊥
OfFrame f (takes n) e = ⊥
OfFrame f heard e = ⊥
OfFrame f m e = May packet m e

-- what each move keeps
abbrev pub Keeps : Cause → (End → Type 0) → Type 0
Keeps by P = (m : Move) (e : End) → May by m e → P e → P (after m e)
