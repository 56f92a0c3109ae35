-- An end rests where it has nothing left to do: its last call was a poll that gave nothing, and
-- none of the timers that wait for the peer is set. What it wrote has arrived then, and it owes no
-- acknowledgement (RFC 9000, sections 13.2 and 13.3; RFC 9002, section 6.2).
use Rattle.std.specs.Prelude.{ℕ, zero, suc, ◌<◌, ◌≡◌, Bool, true, false, filter, if◌then◌else◌, List, [], ◌∷◌, ◌++◌, length, slice_get, Option, Some, None, Ok}
use Rattle.std.specs.List.{list_any}
use Rattle.quic_wire_core.specs.declared.stream_id.Side.{Side}
use Rattle.quic_wire_core.specs.declared.stream_id.Side.TheVariants.{Client, Server}
use Rattle.quic_wire_core.specs.StreamId.{other_side}
use Rattle.quic_wire.specs.Value.{asks}
use Rattle.quic_config.specs.Transport.{first_mtu}
use Rattle.quic_congestion.specs.Congestion.{HasRoom}
use Rattle.quic_machine.specs.declared.answers.State.TheVariants as states
use Rattle.quic_machine.specs.declared.run.Call.TheVariants as calls
use Rattle.quic_machine.specs.declared.run.Answer.TheVariants as answers
use Rattle.quic_machine.specs.declared.run.View.{View}
use Rattle.quic_machine.specs.Start.{AreControlled}
use Rattle.quic_machine.specs.Tracking.{asks_any}
use Rattle.quic_machine.specs.End.{End}
use Rattle.quic_machine.specs.Poll.{waits}
use Rattle.quic_machine.specs.Machine.{World, end_at}
use Rattle.quic_headline.specs.Runs.{Run, Told, Packet, In, state_in, AreServed, LeadsTo, written, ended, reset, HasArrived, EndHasArrived, was_said_done, DoneHasArrived, IsNamed, folded, until, given_of}
use Rattle.quic_headline.specs.Observer.{Sent, Watch, watch_from, took, sents_until, news, Lens, watch_told, lens_of}
use Rattle.quic_headline.specs.InFlight.{first_acknowledged}
use Rattle.quic_headline.specs.Moments.{loss_timer, ack_timer, acknowledges, went}
use Rattle.quic_headline.specs.Polls.{pacing_timer}

-- ---- what is seen of an end

-- whether the path of an end is validated, in a view (RFC 9000, section 8)
abbrev pub validated_in : View → Side → Bool
validated_in v Client = v.client.validated
validated_in v Server = v.server.validated

-- the view behind the first so many answers, whichever end the last of them came from
abbrev pub view_behind : Run → ℕ → Option View
view_behind r zero = None
view_behind r (suc i) = slice_get r.views i

-- A view shows none of the timers of an end set that wait for the peer: of losses, of
-- acknowledgements and of the pacer. Others may be: for them nothing is owed.
pub record ShowsStill (v : View) (side : Side) : Type 0 where
  pub no_loss_timer : loss_timer v side ≡ Some None
  pub no_ack_timer : ack_timer v side ≡ Some None
  pub no_pacing_timer : pacing_timer v side ≡ Some None

-- ---- rest

-- a poll of an open end at a moment that gave nothing
abbrev pub poll_of_nothing : ℕ → Told
poll_of_nothing now = record { call = calls.Poll now; answer = answers.Poll (Ok None); state = states.Open }

-- An end rests behind the first so many answers: the last call at it was a poll that gave nothing,
-- and the view there shows it open, its path validated, and these timers not set. The other end may
-- have been called since.
pub record Rests (r : Run) (side : Side) (i : ℕ) : Type 0 where
  pub front : List Told
  pub now : ℕ
  pub last : until r side i ≡ front ++ poll_of_nothing now ∷ []
  pub view : View
  pub shown : view_behind r i ≡ Some view
  pub is_open : state_in view side ≡ states.Open
  pub validated : validated_in view side ≡ true
  pub still : ShowsStill view side

-- Both controllers keep their law, and show windows that hold two datagrams of the size with which
-- the paths begin: with a lesser window no end is made (RFC 9002, section 7.2).
pub record HaveRoom (w : World) : Type 0 where
  pub controlled : AreControlled w
  pub client : HasRoom (first_mtu w.client.transport) w.client.path.window
  pub server : HasRoom (first_mtu w.server.transport) w.server.path.window

-- An open end has nothing left to do: nothing waits to be sent, no datagram that asks for an
-- acknowledgement is waited for, and the timer of acknowledgements isn't set.
pub record HasNothingLeft (e : End) : Type 0 where
  pub is_open : e.closing.state ≡ states.Open
  pub nothing_waits : waits e ≡ false
  pub nothing_asks : asks_any e.tracking.packets ≡ false
  pub no_ack_timer : e.timers.max_ack_delay ≡ None

-- so it is of each end that rests
abbrev pub RestIsQuiet : Run → Type 0
RestIsQuiet r = (side : Side) (i : ℕ) (w : World) → AreServed r i → HaveRoom r.start → Rests r side i → LeadsTo r i w → HasNothingLeft (end_at side w)

-- ---- what was written has arrived

-- where an end rests, each byte that was written on a stream that it didn't reset has arrived, and
-- so has the end of each such stream that was finished; a stream that the peer stopped goes on
-- sending until it is reset
abbrev pub DeliveredAtRest : Run → Type 0
DeliveredAtRest r = (side : Side) (i id : ℕ) → AreServed r i → HaveRoom r.start → Rests r side i → reset id (until r side i) ≡ None
    → ((offset : ℕ) → offset < length (written id (until r side i)) → HasArrived (took r (other_side side) i) id offset)
    × (ended id (until r side i) ≡ true → EndHasArrived (took r (other_side side) i) id (length (written id (until r side i))))

-- where an end rests whose application said that the handshake is done, HANDSHAKE_DONE has arrived
-- (section 19.20)
abbrev pub DoneAtRest : Run → Type 0
DoneAtRest r = (side : Side) (i : ℕ) → AreServed r i → HaveRoom r.start → Rests r side i → was_said_done (until r side i) ≡ true → DoneHasArrived (took r (other_side side) i)

-- ---- no acknowledgement is owed

-- what an observer knows of an end, and the packets that ask for an acknowledgement and were taken
-- since the end gave an ACK frame, the latest first
pub record Unanswered : Type 0 where
  pub watch : Watch
  pub packets : List Packet

-- those among packets that ask for an acknowledgement (RFC 9000, section 13.2)
abbrev pub asking_among : List Packet → List Packet
asking_among ps = filter (λ p. list_any asks p.frames) ps

-- those behind a call: an ACK frame that goes ends them
abbrev pub packets_behind : Unanswered → Watch → List Packet
packets_behind u after = if acknowledges (went u.watch after) then [] else asking_among (news u.watch.intake after.intake) ++ u.packets

-- one call more at the end
abbrev pub unanswered_told : Lens → Told → Unanswered → Unanswered
unanswered_told l t u = let after = watch_told l t u.watch in record { watch = after; packets = packets_behind u after }

-- nothing came before the first call
abbrev pub none_unanswered : Watch → Unanswered
none_unanswered w = record { watch = w; packets = [] }

-- the packets that an end took, ask, and came since it gave an ACK frame, behind the first so many
-- answers
abbrev pub unanswered : Run → Side → ℕ → List Packet
unanswered r side i = (folded (unanswered_told (lens_of r side)) (until r side i) (none_unanswered (watch_from (end_at side r.start) (given_of r side)))).packets

-- An acknowledgement of a packet is owed: the packet is one of these, and lies above the greatest
-- number in each ACK frame of a datagram that the peer acknowledged. What such a frame named, and
-- all below its greatest number, the end may forget (RFC 9000, section 13.2.4).
pub record IsUnacknowledged (r : Run) (side : Side) (i : ℕ) (p : Packet) : Type 0 where
  pub since : In p (unanswered r side i)
  pub above : (s : Sent) (greatest : ℕ) → In s (sents_until r side i) → first_acknowledged s.frames ≡ Some greatest → IsNamed (took r side i) s.number → greatest < p.number

-- where an end rests, it owes no acknowledgement
abbrev pub NothingOwedAtRest : Run → Type 0
NothingOwedAtRest r = (side : Side) (i : ℕ) (p : Packet) → AreServed r i → HaveRoom r.start → Rests r side i → IsUnacknowledged r side i p → ⊥
