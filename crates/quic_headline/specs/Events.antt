-- What an application is told of: where it asks what is told next and nothing is, nothing is left
-- to tell, by the run's lists.
use Rattle.std.specs.Prelude.{ℕ, ◌+◌, ◌-◌, ◌<◌, ◌≤◌, ◌≡◌, Bool, true, false, nat_lt, not, ◌==◌, ◌&&◌, ◌||◌, if◌then◌else◌, max, nat_le, List, [], ◌∷◌, ◌++◌, length, Some, None, Err}
use Rattle.std.specs.List.{list_any}
use Rattle.quic_wire_core.specs.declared.stream_id.Side.{Side}
use Rattle.quic_wire_core.specs.declared.stream_id.Dir.{Dir}
use Rattle.quic_wire_core.specs.declared.stream_id.Dir.TheVariants.{Bi, Uni}
use Rattle.quic_wire_core.specs.StreamId.{other_side, dir_of}
use Rattle.quic_wire.specs.Value.{FrameValue, stream, datagram}
use Rattle.quic_streams_parts.specs.declared.answers.StreamEvent.TheVariants.{Opened, Readable, Writable, Available}
use Rattle.quic_streams_parts.specs.declared.answers.WriteError.TheVariants.{Blocked}
use Rattle.quic_streams_parts.specs.Dirs.{of, is_own}
use Rattle.quic_machine.specs.declared.answers.Event.TheVariants as events
use Rattle.quic_machine.specs.declared.answers.LostReason.{LostReason}
use Rattle.quic_machine.specs.declared.answers.State.TheVariants as states
use Rattle.quic_machine.specs.declared.run.Call.{Call}
use Rattle.quic_machine.specs.declared.run.Call.TheVariants as calls
use Rattle.quic_machine.specs.declared.run.Answer.{Answer}
use Rattle.quic_machine.specs.declared.run.Answer.TheVariants as answers
use Rattle.quic_machine.specs.Policy.{Policy}
use Rattle.quic_machine.specs.Start.{AreStarted}
use Rattle.quic_machine.specs.Machine.{policy_at, end_at}
use Rattle.quic_headline.specs.Runs.{Run, Told, Packet, Intake, nothing_came, and_told, folded, until, given_of, state_at, AreServed, written, ended, reset}
use Rattle.quic_headline.specs.Observer.{news, took}
use Rattle.quic_headline.specs.Headline.{IsAt}
use Rattle.quic_headline.specs.Amounts.{peer_parameters, first_told, stream_limit_in, greatest, left_for}
use Rattle.quic_headline.specs.PeerLimits.{count_in}
use Rattle.quic_headline.specs.Polls.{seen_at}
use Rattle.quic_headline.specs.FewEvents.{lost_in}
use Rattle.quic_headline.specs.Ids.{WasOpened}
use Rattle.quic_headline.specs.Credit.{was_reset, is_read_up}

-- ---- messages (RFC 9221)

-- how many of these frames bring a message
abbrev pub messages_of : List FrameValue → ℕ
messages_of [] = 0
messages_of (datagram m ∷ fs) = messages_of fs + 1
messages_of (f ∷ fs) = messages_of fs

-- how many messages these packets bring
abbrev pub messages_brought : List Packet → ℕ
messages_brought [] = 0
messages_brought (p ∷ ps) = messages_of p.frames + messages_brought ps

-- whether a call told that messages came
abbrev pub tells_messages : Call → Answer → Bool
tells_messages calls.Event (answers.Event (Some events.Message)) = true
tells_messages call a = false

-- how many messages wait behind a call, where so many did: one that is received waits no more, and
-- where none is, none waited; an end that keeps too many drops the oldest, so fewer may wait
abbrev pub unread_behind : Call → Answer → ℕ → ℕ
unread_behind calls.Recv (answers.Recv (Some message)) n = n - 1
unread_behind calls.Recv (answers.Recv None) n = 0
unread_behind call a n = n

-- whether it was told that messages came since the first of those came that wait
abbrev pub told_behind : Call → Answer → ℕ → Bool → Bool
told_behind call a n told = tells_messages call a || (nat_lt 0 n && told)

-- what came to an end, how many messages wait there to be received, and whether it was told that
-- messages came since some wait
pub record Mail : Type 0 where
  pub intake : Intake
  pub unread : ℕ
  pub told : Bool

-- nothing came
abbrev pub no_mail : Mail
no_mail = record { intake = nothing_came; unread = 0; told = false }

-- one call more, where this has come behind it
abbrev pub mail_behind : Told → Mail → Intake → Mail
mail_behind t m after = record {
  intake = after;
  unread = unread_behind t.call t.answer (m.unread + messages_brought (news m.intake after));
  told = told_behind t.call t.answer m.unread m.told;
}

-- one call more, at an end with these keys; `given` are the datagrams that the other end gave
abbrev pub mail_told : Policy → List (List ℕ) → Told → Mail → Mail
mail_told p given t m = mail_behind t m (and_told p given t m.intake)

-- so it is at an end behind the first so many answers
abbrev pub mail : Run → Side → ℕ → Mail
mail r side i = folded (mail_told (policy_at side r.keys) (given_of r (other_side side))) (until r side i) no_mail

-- where nothing is told next while messages wait, it was told that they came since the first of
-- them did, whatever the state of the end
abbrev pub MessagesAreTold : Run → Type 0
MessagesAreTold r = (side : Side) (i : ℕ) → AreServed r i → IsAt r i side calls.Event (answers.Event None) → 0 < (mail r side i).unread → (mail r side i).told ≡ true

-- ---- streams that the peer opens (RFC 9000, sections 2.1 and 3.2)

-- whether a call told that the peer opened streams of a kind
abbrev pub tells_opened : Dir → Call → Answer → Bool
tells_opened Bi calls.Event (answers.Event (Some (events.Stream (Opened Bi)))) = true
tells_opened Uni calls.Event (answers.Event (Some (events.Stream (Opened Uni)))) = true
tells_opened dir call a = false

-- what came to an end, and the packets that it had taken when it was told last that the peer opened
-- streams of a kind
pub record Openings : Type 0 where
  pub intake : Intake
  pub heard : List Packet

-- nothing came
abbrev pub no_openings : Openings
no_openings = record { intake = nothing_came; heard = [] }

-- one call more
abbrev pub openings_told : Policy → List (List ℕ) → Dir → Told → Openings → Openings
openings_told p given dir t o = record { intake = and_told p given t o.intake; heard = if tells_opened dir t.call t.answer then o.intake.took else o.heard }

-- the packets that an end had taken when it was told last, by the first so many answers, that the
-- peer opened streams of a kind
abbrev pub heard_of : Run → Side → Dir → ℕ → List Packet
heard_of r side dir i = (folded (openings_told (policy_at side r.keys) (given_of r (other_side side)) dir) (until r side i) no_openings).heard

-- where nothing is told next, each stream that a frame opened was opened when it was told last that
-- the peer opened streams of its kind, whatever was accepted, and whatever the state of the end
abbrev pub OpeningsAreTold : Run → Type 0
OpeningsAreTold r = (side : Side) (i id : ℕ) (dir : Dir) → AreServed r i → IsAt r i side calls.Event (answers.Event None) → WasOpened (took r side i) side dir id → WasOpened (heard_of r side dir i) side dir id

-- ---- streams that may be read (RFC 9000, section 2.2)

-- whether a frame brings bytes of a stream, or its end
abbrev pub brings_of : ℕ → FrameValue → Bool
brings_of id (stream f) = f.id == id
brings_of id f = false

-- whether one of these packets does
abbrev pub brings : ℕ → List Packet → Bool
brings id packets = list_any (λ p. list_any (brings_of id) p.frames) packets

-- whether a call told that a stream may be read
abbrev pub tells_readable : ℕ → Call → Answer → Bool
tells_readable id calls.Event (answers.Event (Some (events.Stream (Readable s)))) = s == id
tells_readable id call a = false

-- whether it is told of what comes on a stream, where these packets were taken before it, and these
-- with it: this end opened the stream, or something of it came before, and it is read on
abbrev pub is_reading : Side → ℕ → List Packet → List Packet → List Told → Bool
is_reading side id before after told = (is_own side id || brings id before) && not (is_read_up id after told)

-- whether it is told of these packets, where they come behind others, and these are all: they bring
-- something of a stream that it reads behind them, or the first reset of one that it read before
-- them
abbrev pub comes_to_read : Side → ℕ → List Packet → List Packet → List Packet → List Told → Bool
comes_to_read side id before new after told = (brings id new && is_reading side id before after told) || (was_reset id new && is_reading side id before before told)

-- what came to an end, what was told at it, and whether it is to be told that a stream may be read
pub record Reading : Type 0 where
  pub intake : Intake
  pub told : List Told
  pub waits : Bool

-- nothing came
abbrev pub no_reading : Reading
no_reading = record { intake = nothing_came; told = []; waits = false }

-- one call more at the end of this side, where this has come behind it
abbrev pub reading_behind : Side → ℕ → Told → Reading → Intake → Reading
reading_behind side id t r after = record {
  intake = after;
  told = r.told ++ t ∷ [];
  waits = if tells_readable id t.call t.answer then false else r.waits || comes_to_read side id r.intake.took (news r.intake after) after.took (r.told ++ t ∷ []);
}

-- one call more, at an end with these keys; `given` are the datagrams that the other end gave
abbrev pub reading_told : Side → Policy → List (List ℕ) → ℕ → Told → Reading → Reading
reading_told side p given id t r = reading_behind side id t r (and_told p given t r.intake)

-- so it is behind the first so many answers
abbrev pub reading : Run → Side → ℕ → ℕ → Reading
reading r side id i = folded (reading_told side (policy_at side r.keys) (given_of r (other_side side)) id) (until r side i) no_reading

-- where nothing is told next, it was told that a stream may be read since the last STREAM frame and
-- the first RESET_STREAM frame came on it, of those that it is told of, whatever the state of the
-- end
abbrev pub ReadablesAreTold : Run → Type 0
ReadablesAreTold r = (side : Side) (i id : ℕ) → AreServed r i → IsAt r i side calls.Event (answers.Event None) → (reading r side id i).waits ≡ false

-- ---- streams that take bytes again (RFC 9000, sections 4.1 and 19.10)

-- whether a call told that a stream takes bytes again
abbrev pub tells_writable : ℕ → Call → Answer → Bool
tells_writable id calls.Event (answers.Event (Some (events.Stream (Writable s)))) = s == id
tells_writable id call a = false

-- whether a write on a stream was blocked, by whichever limit
abbrev pub is_blocked : ℕ → Call → Answer → Bool
is_blocked id (calls.Write s bytes) (answers.Write (Err Blocked)) = s == id
is_blocked id (calls.WriteChunks s buffers) (answers.WriteChunks (Err Blocked)) = s == id
is_blocked id call a = false

-- whether all was written on a stream that these packets let come, where so much may come at first
abbrev pub is_used_up : ℕ → ℕ → List Packet → List Told → Bool
is_used_up first id packets told = nat_le (max first (greatest (stream_limit_in id) packets)) (length (written id told))

-- what came to an end, what was told at it, and whether it is to be told, once bytes of a stream
-- may be taken, that it takes bytes again
pub record Writing : Type 0 where
  pub intake : Intake
  pub told : List Told
  pub waits : Bool

-- nothing came
abbrev pub no_writing : Writing
no_writing = record { intake = nothing_came; told = []; waits = false }

-- one call more, where this has come behind it: it is to be told from where the stream's limit was
-- used up, or a write was blocked, until it is
abbrev pub writing_behind : ℕ → ℕ → Told → Writing → Intake → Writing
writing_behind first id t w after = record {
  intake = after;
  told = w.told ++ t ∷ [];
  waits = if tells_writable id t.call t.answer then false else w.waits || (is_used_up first id w.intake.took w.told || is_blocked id t.call t.answer);
}

-- one call more at the end
abbrev pub writing_told : Policy → List (List ℕ) → ℕ → ℕ → Told → Writing → Writing
writing_told p given first id t w = writing_behind first id t w (and_told p given t w.intake)

-- so it is behind the first so many answers
abbrev pub writing : (r : Run) → AreStarted r.start → Side → ℕ → ℕ → Writing
writing r s side id i = folded (writing_told (policy_at side r.keys) (given_of r (other_side side)) (first_told (peer_parameters side r.start s) (is_own side id) (dir_of id)) id) (until r side i) no_writing

-- where an open end is told nothing next, and bytes may be taken of a stream that it neither ended
-- nor reset, it was told that the stream takes bytes again since its limit was used up last, and
-- since a write on it was blocked last, by its own limit, that of all data or the send window
abbrev pub WritablesAreTold : Run → Type 0
WritablesAreTold r = (s : AreStarted r.start) (side : Side) (i id : ℕ) → AreServed r i → IsAt r i side calls.Event (answers.Event None) → state_at r side i ≡ states.Open → ended id (until r side i) ≡ false → reset id (until r side i) ≡ None → 0 < left_for r s side i id
    → (writing r s side id i).waits ≡ false

-- ---- streams that an end may open itself (RFC 9000, section 4.6)

-- whether a call told that more streams of a kind may be opened
abbrev pub tells_available : Dir → Call → Answer → Bool
tells_available Bi calls.Event (answers.Event (Some (events.Stream (Available Bi)))) = true
tells_available Uni calls.Event (answers.Event (Some (events.Stream (Available Uni)))) = true
tells_available dir call a = false

-- what came to an end, and the packets that it had taken when it was told last that more streams of
-- a kind may be opened
pub record MayOpen : Type 0 where
  pub intake : Intake
  pub heard : List Packet

-- nothing came
abbrev pub may_open_first : MayOpen
may_open_first = record { intake = nothing_came; heard = [] }

-- one call more
abbrev pub may_open_told : Policy → List (List ℕ) → Dir → Told → MayOpen → MayOpen
may_open_told p given dir t m = record { intake = and_told p given t m.intake; heard = if tells_available dir t.call t.answer then m.intake.took else m.heard }

-- the packets that an end had taken when it was told last, by the first so many answers, that more
-- streams of a kind may be opened
abbrev pub heard_available : Run → Side → Dir → ℕ → List Packet
heard_available r side dir i = (folded (may_open_told (policy_at side r.keys) (given_of r (other_side side)) dir) (until r side i) may_open_first).heard

-- where an open end is told nothing next, the greatest count of streams that MAX_STREAMS frames
-- brought it is no greater than that with which it was made, or than what they had brought when it
-- was told last that more streams of their kind may be opened
abbrev pub AvailableIsTold : Run → Type 0
AvailableIsTold r = (side : Side) (i : ℕ) (dir : Dir) → AreServed r i → state_at r side i ≡ states.Open → IsAt r i side calls.Event (answers.Event None)
    → greatest (count_in dir) (took r side i) ≤ max (of dir (end_at side r.start).streams.opening.own_limit) (greatest (count_in dir) (heard_available r side dir i))

-- ---- the loss of the connection (RFC 9000, section 10)

-- how often an application was told by these calls that its connection is lost
abbrev pub losses_told : List Told → ℕ
losses_told [] = 0
losses_told (t ∷ ts) = lost_in t.call t.answer + losses_told ts

-- A loss is told once at most; with the reason that is seen of the end; and where nothing is told
-- next at an end of which one is seen, it was told.
pub record LossIsToldAt (r : Run) (side : Side) (i : ℕ) : Type 0 where
  pub once : losses_told (until r side i) ≤ 1
  pub why : (reason : LostReason) → IsAt r i side calls.Event (answers.Event (Some (events.Lost reason))) → (seen_at r side i).reason ≡ Some reason
  pub told : (reason : LostReason) → IsAt r i side calls.Event (answers.Event None) → (seen_at r side i).reason ≡ Some reason → losses_told (until r side i) ≡ 1

-- so it is at each place
abbrev pub LossIsTold : Run → Type 0
LossIsTold r = (side : Side) (i : ℕ) → AreServed r i → LossIsToldAt r side i
