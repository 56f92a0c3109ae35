-- A peer that moves (RFC 9000, section 9): from where an end takes datagrams, when a server finds its
-- peer at another address, and what it makes of that.
use Rattle.std.specs.Prelude.{ℕ, ◌+◌, Bool, true, false, ◌==◌, ◌&&◌, not, nat_le, nat_lt, List, [], ◌∷◌, map, None, Result, Ok, Err}
use Rattle.std.specs.List.{list_any}
use Rattle.quic_wire_core.specs.declared.stream_id.Side.{Side}
use Rattle.quic_wire_core.specs.declared.stream_id.Side.TheVariants.{Client, Server}
use Rattle.quic_wire.specs.Value.{FrameValue, padding, path_challenge, path_response, new_connection_id}
use Rattle.quic_wire.specs.Items.{items}
use Rattle.quic_wire.specs.declared.frame.InvalidFrame.{InvalidFrame}
use Rattle.quic_packet.specs.Datagram.{Opening}
use Rattle.quic_congestion.specs.Pacer.{Pacing, new_pacing}
use Rattle.quic_time.specs.Rtt.{best_rtt}
use Rattle.quic_spaces.specs.Numbers.{expected}
use Rattle.quic_machine.specs.declared.answers.NextIdError.{NextIdError}
use Rattle.quic_machine.specs.Policy.{Policy}
use Rattle.quic_machine.specs.Parts.{Path, current_mtu}
use Rattle.quic_machine.specs.End.{End, side_of}
use Rattle.quic_machine.specs.Control.{with_pacing}
use Rattle.quic_machine.specs.Validation.{path_asked, path_answered, challenged_anew, most_challenges}
use Rattle.quic_machine.specs.IdFrames.{next_id_answer, after_next_id}

-- ---- from elsewhere

-- whether a side is the client's
abbrev pub is_client : Side → Bool
is_client Client = true
is_client Server = false

-- whether an end has its peer at an address
abbrev pub is_there : ℕ → End → Bool
is_there remote e = remote == e.path.remote

-- whether an end takes nothing from an address: a client's peer stays where it is (section 9)
abbrev pub is_foreign : ℕ → End → Bool
is_foreign remote e = is_client (side_of e) && not (is_there remote e)

-- what a frame counts for that came from elsewhere: one of path validation for nothing, as PADDING
abbrev pub as_elsewhere : FrameValue → FrameValue
as_elsewhere (path_challenge token) = padding
as_elsewhere (path_response token) = padding
as_elsewhere f = f

-- so it is of what was read of a payload
abbrev pub item_elsewhere : Result FrameValue InvalidFrame → Result FrameValue InvalidFrame
item_elsewhere (Ok f) = Ok (as_elsewhere f)
item_elsewhere (Err x) = Err x

-- where it came from elsewhere
abbrev pub item_at : Bool → Result FrameValue InvalidFrame → Result FrameValue InvalidFrame
item_at true i = i
item_at false i = item_elsewhere i

-- and of all of it
abbrev pub items_at : Bool → List (Result FrameValue InvalidFrame) → List (Result FrameValue InvalidFrame)
items_at true is = is
items_at false is = map item_elsewhere is

-- ---- where the peer is now

-- whether a frame may go to find out whether a path carries packets, and so doesn't say that the
-- peer has moved there (section 9.1)
abbrev pub is_probing : FrameValue → Bool
is_probing padding = true
is_probing (path_challenge token) = true
is_probing (path_response token) = true
is_probing (new_connection_id f) = true
is_probing f = false

-- whether an item of a payload is a frame that says so
abbrev pub is_telling : Result FrameValue InvalidFrame → Bool
is_telling (Ok f) = not (is_probing f)
is_telling (Err x) = false

-- Whether a packet that opened says that a server's peer is at another address from now on, if all
-- its frames are taken: its number lies above all that were taken before it came to this end, and
-- it doesn't only probe (section 9.3).
abbrev pub migrates : Opening → ℕ → End → Bool
migrates o remote e = not (is_client (side_of e)) && (not (is_there remote e) && (nat_le (expected e.numbers) o.number && list_any is_telling (items o.payload)))

-- ---- another path

-- the path to that address: what was measured stays, the address isn't validated, and datagrams are
-- marked again
abbrev pub path_to : ℕ → End → Path
path_to remote e = record e.path { validated = false; generation = e.path.generation + 1; remote = remote; marking = true }

-- the end with this path, which has no challenge of the old one and no answer for it
abbrev pub with_path : End → Path → End
with_path e path = record e {
  path = path;
  validation = record e.validation { challenge = None };
  waiting = record e.waiting { signals = record e.waiting.signals { challenge = None; response = None } };
}

-- the next id is used, where it may be
abbrev pub next_id_if : Result (Unit {0}) NextIdError → End → End
next_id_if (Ok done) e = after_next_id e
next_id_if (Err error) e = e

-- so that addresses can't be told to be those of one peer (section 9.5): where none is known, or too
-- many retirements would wait, the id stays
abbrev pub next_id_if_allowed : End → End
next_id_if_allowed e = next_id_if (next_id_answer e) e

-- an item of a payload is taken, if it is a frame of path validation
abbrev pub path_item_taken : Result FrameValue InvalidFrame → End → End
path_item_taken (Ok (path_challenge token)) e = path_asked token e
path_item_taken (Ok (path_response token)) e = path_answered token e
path_item_taken i e = e

-- and all that are
abbrev pub path_frames_taken : List (Result FrameValue InvalidFrame) → End → End
path_frames_taken [] e = e
path_frames_taken (i ∷ is) e = path_frames_taken is (path_item_taken i e)

-- The peer is at another address, as a packet said: the path is another one, whose peer is asked to
-- show that it receives there (section 9.3), the next id comes into use, and the frames of path
-- validation that the packet has count for this path. The pacer is made anew, too (`repaced`).
abbrev pub migrated : Policy → Opening → ℕ → End → End
migrated p o remote e =
    let there = with_path e (path_to remote e) in
    path_frames_taken (items o.payload) (next_id_if_allowed (challenged_anew p.words (nat_lt there.validation.drawn most_challenges) there))

-- whether an end has another path than it had before
abbrev pub has_moved : End → End → Bool
has_moved before after = not (after.path.generation == before.path.generation)

-- the pacer of an end, where the controller has this window: that of another path is made for it
abbrev pub pacing_moved : Bool → ℕ → End → Pacing
pacing_moved true window after = new_pacing (best_rtt after.path.rtt) window (current_mtu after.path) after.closing.clock
pacing_moved false window after = after.path.pacing

-- the end behind another, with that pacer
abbrev pub repaced : ℕ → End → End → End
repaced window before after = with_pacing after (pacing_moved (has_moved before after) window after)
