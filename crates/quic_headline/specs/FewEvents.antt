-- How often an end tells its application that something happened, whatever its peer sends: no more
-- often than bytes came in datagrams that it took, or at which it closed, and writes were blocked;
-- beside these that a stream is finished, and that the end is lost, once each (RFC 9000, section
-- 2.4; the bound is ours).
use Rattle.std.specs.Prelude.{ℕ, ◌+◌, ◌≤◌, ◌≡◌, ◌==◌, false, if◌then◌else◌, List, [], ◌∷◌, length, take, slice_get, Option, Some, None, Err}
use Rattle.std.specs.List.{list_any}
use Rattle.quic_streams_parts.specs.declared.answers.StreamEvent.TheVariants.{Finished}
use Rattle.quic_streams_parts.specs.declared.answers.WriteError.TheVariants as write_errors
use Rattle.quic_packet.specs.Keys.{KeepsLength, OpensNoMore}
use Rattle.quic_machine.specs.declared.answers.Event.TheVariants as events
use Rattle.quic_machine.specs.declared.answers.Received.TheVariants as receives
use Rattle.quic_machine.specs.declared.run.Call.{Call}
use Rattle.quic_machine.specs.declared.run.Call.TheVariants as calls
use Rattle.quic_machine.specs.declared.run.Answer.{Answer}
use Rattle.quic_machine.specs.declared.run.Answer.TheVariants as answers
use Rattle.quic_machine.specs.Policy.{Policy}
use Rattle.quic_machine.specs.Machine.{fails}
use Rattle.quic_headline.specs.Alone.{Lone, IsNew, FollowsAlone}

-- how many events a call told, but those that come once
abbrev pub told_in : Call → Answer → ℕ
told_in calls.Event (answers.Event (Some (events.Stream (Finished id)))) = 0
told_in calls.Event (answers.Event (Some (events.Lost reason))) = 0
told_in calls.Event (answers.Event (Some event)) = 1
told_in call a = 0

-- whether it told that a stream is finished, and that the end is lost
abbrev pub finished_in : ℕ → Call → Answer → ℕ
finished_in id calls.Event (answers.Event (Some (events.Stream (Finished s)))) = if s == id then 1 else 0
finished_in id call a = 0

abbrev pub lost_in : Call → Answer → ℕ
lost_in calls.Event (answers.Event (Some (events.Lost reason))) = 1
lost_in call a = 0

-- how many bytes a datagram has, if there is one
abbrev pub size_of : Option (List ℕ) → ℕ
size_of None = 0
size_of (Some d) = length d

-- how many bytes came by a call, which of these hands one in: of a datagram that was dropped none
abbrev pub came_in : List (List ℕ) → Call → Answer → ℕ
came_in theirs (calls.Deliver delivery) (answers.Deliver (receives.Dropped reason)) = 0
came_in theirs (calls.Deliver delivery) a = size_of (slice_get theirs delivery.index)
came_in theirs call a = 0

-- how many writes a call saw blocked, by the window or by a limit
abbrev pub blocked_in : Call → Answer → ℕ
blocked_in (calls.Write id bytes) (answers.Write (Err write_errors.Blocked)) = 1
blocked_in (calls.WriteChunks id chunks) (answers.WriteChunks (Err write_errors.Blocked)) = 1
blocked_in call a = 0

-- how many there are of calls, where each has as many as `count` says
abbrev pub counted : (Call → Answer → ℕ) → List Call → List Answer → ℕ
counted count (call ∷ calls) (a ∷ told) = count call a + counted count calls told
counted count [] told = 0
counted count (call ∷ calls) [] = 0

-- What these calls told is little: no more than bytes came and writes were blocked by them, and of
-- each stream once at most that it is finished, and of the end that it is lost.
pub record TellFew (theirs : List (List ℕ)) (calls : List Call) (told : List Answer) : Type 0 where
  pub few : counted told_in calls told ≤ counted (came_in theirs) calls told + counted blocked_in calls told
  pub finished : (id : ℕ) → counted (finished_in id) calls told ≤ 1
  pub lost : counted lost_in calls told ≤ 1

-- So it is of the first so many, as long as none failed.
abbrev pub EventsAreFew : List (List ℕ) → List Call → List Answer → Type 0
EventsAreFew theirs calls told = (i : ℕ) → list_any fails (take i told) ≡ false → TellFew theirs (take i calls) (take i told)

-- So it is at an end as it was made, whatever datagrams are handed in, where header keys show as
-- many bytes as stand there, and what packet keys open has no more than there were.
abbrev pub TellsFew : Policy → List (List ℕ) → Lone → List Call → List Answer → Lone → Type 0
TellsFew p theirs x calls told left = IsNew x.end → KeepsLength p.header.reveal → OpensNoMore p.packet.unseal → FollowsAlone p theirs x calls told left → EventsAreFew theirs calls told
