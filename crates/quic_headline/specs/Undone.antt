-- No stream can be opened at rest only for streams that the peer isn't done with (RFC 9000, section
-- 4.6).
use Rattle.std.specs.Prelude.{ℕ, ◌^◌, ◌<◌, ◌≤◌, ◌≡◌, ◌⊎◌, min, Bool, true, false, eqb, ◌==◌, ◌||◌, if◌then◌else◌, List, [], ◌∷◌, length, Option, Some, None, Ok, Err}
use Rattle.std.specs.Option.{IsSome}
use Rattle.std.specs.List.{IsDistinct}
use Rattle.quic_wire_core.specs.declared.stream_id.Side.{Side}
use Rattle.quic_wire_core.specs.declared.stream_id.Dir.{Dir}
use Rattle.quic_wire_core.specs.declared.stream_id.Dir.TheVariants.{Bi, Uni}
use Rattle.quic_wire_core.specs.StreamId.{other_side, dir_of}
use Rattle.quic_config.specs.Transport.{Settings}
use Rattle.quic_streams_parts.specs.Dirs.{is_two_way}
use Rattle.quic_streams_parts.specs.declared.answers.ReadError.TheVariants as read_errors
use Rattle.quic_machine.specs.declared.run.Call.{Call}
use Rattle.quic_machine.specs.declared.run.Call.TheVariants as calls
use Rattle.quic_machine.specs.declared.run.Answer.{Answer}
use Rattle.quic_machine.specs.declared.run.Answer.TheVariants as answers
use Rattle.quic_machine.specs.Start.{AreStarted}
use Rattle.quic_headline.specs.Runs.{Run, Told, Packet, Next, In, until, AreServed, and_id, nexts, finished, ended, reset, EndHasArrived, ResetHasArrived}
use Rattle.quic_headline.specs.Observer.{took}
use Rattle.quic_headline.specs.Headline.{IsAt}
use Rattle.quic_headline.specs.Amounts.{making_at}
use Rattle.quic_headline.specs.Rest.{Rests, HaveRoom}
use Rattle.quic_headline.specs.Unread.{stopped, least_left}

-- ---- the streams that an end opened

-- whether both are the same direction
abbrev pub same_dir : Dir → Dir → Bool
same_dir Bi Bi = true
same_dir Uni Uni = true
same_dir a b = false

-- the stream of a direction that a call opened
abbrev pub opened_by : Dir → Call → Answer → Option ℕ
opened_by dir (calls.Open d) (answers.Open id) = if same_dir d dir then id else None
opened_by dir call a = None

-- the streams of a direction that an end opened, in their order
abbrev pub opens : Dir → List Told → List ℕ
opens dir [] = []
opens dir (t ∷ ts) = and_id (opened_by dir t.call t.answer) (opens dir ts)

-- ---- what an end is done with

-- whether the nexts of a read told the reset of the stream
abbrev pub tells_reset : List Next → Bool
tells_reset [] = false
tells_reset (Ok chunk ∷ more) = tells_reset more
tells_reset (Err (read_errors.Reset code) ∷ more) = true
tells_reset (Err e ∷ more) = tells_reset more

-- whether a call asked for the reset of a stream, and was told of one
abbrev pub asked_by : ℕ → Call → Answer → Bool
asked_by id (calls.ReceivedReset s) (answers.ReceivedReset (Ok (Some code))) = s == id
asked_by id call a = false

-- whether an application asked for the reset of a stream, and was told of one
abbrev pub asked : ℕ → List Told → Bool
asked id [] = false
asked id (t ∷ ts) = asked_by id t.call t.answer || asked id ts

-- The final size of a stream came, with its end or its reset (section 4.5).
abbrev pub SizeHasCome : List Packet → ℕ → Type 0
SizeHasCome packets id = ((size : ℕ) × EndHasArrived packets id size) ⊎ ResetHasArrived packets id

-- Nothing more is received on a stream (section 3.2): the application read its end, or was told of
-- its reset, or stopped it, and its final size came.
abbrev pub IsReceived : List Packet → List Told → ℕ → Type 0
IsReceived packets told id = (finished id told ≡ true) ⊎ (tells_reset (nexts id told) ≡ true) ⊎ (asked id told ≡ true) ⊎ ((stopped id told ≡ true) × SizeHasCome packets id)

-- Nothing more is sent on a stream (section 3.1): the application finished or reset it. Where its
-- end rests, all of it, and the end, or the reset, was acknowledged.
abbrev pub IsSentOff : List Told → ℕ → Type 0
IsSentOff told id = (ended id told ≡ true) ⊎ IsSome (reset id told)

-- An end that took these packets and was told this is done with a stream of the peer's, both ways
-- if it runs both.
pub record IsDone (packets : List Packet) (told : List Told) (id : ℕ) : Type 0 where
  pub received : IsReceived packets told id
  pub sent : is_two_way (dir_of id) ≡ true → IsSentOff told id

-- Of the streams of a direction that an end opened so many at least aren't done at the peer: there
-- are as many, no two the same.
pub record HasUndone (own : List Told) (packets : List Packet) (told : List Told) (dir : Dir) (count : ℕ) : Type 0 where
  pub ids : List ℕ
  pub distinct : IsDistinct eqb ids
  pub opened : (id : ℕ) → In id ids → In id (opens dir own)
  pub undone : (id : ℕ) → In id ids → IsDone packets told id → ⊥
  pub many : count ≤ length ids

-- ---- the clause

-- how many streams of a direction an end is configured to let its peer have open at once, 2^60 at
-- most
abbrev pub configured_for : Settings → Dir → ℕ
configured_for s Bi = min s.max_bidi (2 ^ 60)
configured_for s Uni = min s.max_uni (2 ^ 60)

-- how many streams of a direction an endpoint of a run lets its peer have open at once, by its
-- settings
abbrev pub streams_let : (r : Run) → AreStarted r.start → Side → Dir → ℕ
streams_let r s side dir = configured_for (making_at side r.start s).settings dir

-- where both ends rest, the peer lets one stream of a direction be open at least, and fewer than
-- 2^59 of it were opened, a call that opens one is answered none only where so many of those that
-- were opened aren't done at the peer: as many as it lets be open at once, less those by which its
-- limit has to grow until it tells that
abbrev pub NoneOpenedOnlyForUndone : Run → Type 0
NoneOpenedOnlyForUndone r = (s : AreStarted r.start) (side : Side) (i : ℕ) (dir : Dir) → AreServed r i → HaveRoom r.start → 0 < streams_let r s (other_side side) dir → length (opens dir (until r side i)) < 2 ^ 59
    → Rests r side i → Rests r (other_side side) i → IsAt r i side (calls.Open dir) (answers.Open None)
    → HasUndone (until r side i) (took r (other_side side) i) (until r (other_side side) i) dir (least_left (streams_let r s (other_side side) dir))
