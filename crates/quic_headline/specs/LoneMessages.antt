-- Which messages an end takes, whatever its peer sends: none but those that have room in its
-- receive buffer, and none at all where it has no such buffer (RFC 9221, section 3). So much it
-- advertises, and 65535 bytes at most. A buffer of no byte has room for a message of none, though 0,
-- which is advertised then, says that no DATAGRAM frame is taken.
use Rattle.std.specs.Prelude.{ℕ, ◌≤◌, if◌then◌else◌, List, [], ◌∷◌, length, Option, Some, None}
use Rattle.quic_wire.specs.Value.{FrameValue, datagram}
use Rattle.quic_machine.specs.declared.run.Call.{Call}
use Rattle.quic_machine.specs.declared.run.Answer.{Answer}
use Rattle.quic_machine.specs.Policy.{Policy}
use Rattle.quic_headline.specs.Runs.{In, Packet}
use Rattle.quic_headline.specs.Observer.{is_close}
use Rattle.quic_headline.specs.LoneAcks.{taken_by}
use Rattle.quic_headline.specs.Alone.{Lone, IsNew, FollowsAlone}

-- the frames before the first close: none behind that is read (RFC 9000, section 10.2.2)
abbrev pub before_close : List FrameValue → List FrameValue
before_close [] = []
before_close (f ∷ fs) = if is_close f then [] else f ∷ before_close fs

-- a message has room in a buffer of so many bytes; none has where there is no buffer
abbrev pub Fits : Option ℕ → List ℕ → Type 0
Fits None message = ⊥
Fits (Some room) message = length message ≤ room

-- so has each message of these packets
abbrev pub AllFit : Option ℕ → List Packet → Type 0
AllFit room packets = (packet : Packet) (message : List ℕ) → In packet packets → In (datagram message) (before_close packet.frames) → Fits room message

-- and of those that such calls took by each of them, where these were made before, the latest first
abbrev pub TakesFit : Policy → List (List ℕ) → Option ℕ → List (Call × Answer) → List Call → List Answer → Type 0
TakesFit p theirs room before [] [] = AllFit room (taken_by p theirs before)
TakesFit p theirs room before (call ∷ cs) (a ∷ told) = AllFit room (taken_by p theirs before) × TakesFit p theirs room ((call, a) ∷ before) cs told
TakesFit p theirs room before [] (a ∷ told) = ⊥
TakesFit p theirs room before (call ∷ cs) [] = ⊥

-- So it is of an end as it was made, whatever datagrams are handed in; where memory lacks, too,
-- since an end that fails takes nothing more.
abbrev pub MessagesFit : Policy → List (List ℕ) → Lone → List Call → List Answer → Lone → Type 0
MessagesFit p theirs x made told left = (new : IsNew x.end) → FollowsAlone p theirs x made told left → TakesFit p theirs new.settings.datagram_receive_buffer_size [] made told
