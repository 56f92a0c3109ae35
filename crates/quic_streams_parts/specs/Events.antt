-- What the application is told of streams.
use Rattle.std.specs.Prelude.{true, false, if◌then◌else◌, List, [], ◌∷◌, ◌++◌, Option, Some, None}
use Rattle.quic_wire_core.specs.declared.stream_id.Dir.{Dir}
use Rattle.quic_wire_core.specs.declared.stream_id.Dir.TheVariants.{Bi, Uni}
use Rattle.quic_streams_parts.specs.declared.answers.StreamEvent.{StreamEvent}
use Rattle.quic_streams_parts.specs.Dirs.{Flags, with_of, no_flag}

-- whether the peer opened streams of each kind since that was told last; and what else happened, in
-- its order
pub record Events : Type 0 where
  pub opened : Flags
  pub queue : List StreamEvent

-- nothing happened
abbrev pub no_events : Events
no_events = record { opened = no_flag; queue = [] }

-- the peer opened streams of a kind
abbrev pub with_opened : Dir → Events → Events
with_opened dir e = record e { opened = with_of dir true e.opened }

-- something happened
abbrev pub with_event : StreamEvent → Events → Events
with_event event e = record e { queue = e.queue ++ event ∷ [] }

-- ---- what is told next

-- the kind of which the peer opened streams, two-way ones first
abbrev pub first_opened : Events → Option Dir
first_opened e = if e.opened.bi then Some Bi else (if e.opened.uni then Some Uni else None)

-- that it opened streams of a kind is told
abbrev pub after_opened : Events → Option Dir → Events
after_opened e None = e
after_opened e (Some dir) = record e { opened = with_of dir false e.opened }

-- the first of a list, and the others
abbrev pub first_of : List StreamEvent → Option StreamEvent
first_of [] = None
first_of (e ∷ es) = Some e

-- what happened, without the first of it
abbrev pub others_of : List StreamEvent → List StreamEvent
others_of [] = []
others_of (e ∷ es) = es

-- what happened first of the rest
abbrev pub first_event : Events → Option StreamEvent
first_event e = first_of e.queue

-- that is told
abbrev pub after_event : Events → Events
after_event e = record e { queue = others_of e.queue }
