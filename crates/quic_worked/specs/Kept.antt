-- Ends that keep more of what came than they may, or just as much: each took `hello`, and has
-- settings that let less come, or one thing changed so that it keeps more. What they tell too often,
-- and what they seal and acknowledge as they may or mayn't.
use Rattle.std.specs.Prelude.{ℕ, zero, suc, ◌+◌, ◌*◌, ◌^◌, List, [], ◌∷◌, ◌++◌, length, map, Some, None, Ok}
use Rattle.std.specs.List.{range_with_len}
use Rattle.quic_packet.specs.Datagram.{sent}
use Rattle.quic_config.specs.Transport.{Settings}
use Rattle.quic_sets.specs.Parts.{Part}
use Rattle.quic_streams_parts.specs.declared.answers.StreamEvent.TheVariants.{Finished}
use Rattle.quic_streams_parts.specs.RecvHalf.{RecvHalf, nothing_arrived, new_recv_half}
use Rattle.quic_machine.specs.declared.answers.Event.TheVariants as events
use Rattle.quic_machine.specs.declared.answers.LostReason.TheVariants as reasons
use Rattle.quic_machine.specs.declared.answers.DropReason.TheVariants as drops
use Rattle.quic_machine.specs.declared.answers.Received.TheVariants as receives
use Rattle.quic_machine.specs.declared.answers.Transmit.{Transmit}
use Rattle.quic_machine.specs.declared.run.CloseCall.{CloseCall}
use Rattle.quic_machine.specs.declared.run.Call.{Call}
use Rattle.quic_machine.specs.declared.run.Call.TheVariants as calls
use Rattle.quic_machine.specs.declared.run.Answer.{Answer}
use Rattle.quic_machine.specs.declared.run.Answer.TheVariants as answers
use Rattle.quic_machine.specs.End.{End}
use Rattle.quic_machine.specs.Policy.{Policy}
use Rattle.quic_worked.specs.Settings.{plain_settings}
use Rattle.quic_worked.specs.Worked.{worked_policies, client_id, once_taken, issued, delivery}
use Rattle.quic_worked.specs.Acknowledged.{client_datagram}

-- an end that took five bytes of a stream, and its FIN
abbrev pub took_five : End
took_five = once_taken.server

-- of a stream four bytes may come
abbrev pub four_on_a_stream : Settings
four_on_a_stream = record plain_settings { stream_receive_window = 4 }

-- of all streams together
abbrev pub four_on_all : Settings
four_on_all = record plain_settings { receive_window = 4 }

-- one two-way stream of the peer may be open
abbrev pub one_at_once : Settings
one_at_once = record plain_settings { max_bidi = 1 }

-- two are
abbrev pub two_opened : End
two_opened = let e : End = took_five in record e { streams = record e.streams { opening = record e.streams.opening { remote = record { bi = 2; uni = 0 } } } }

-- so many bytes of a stream from an offset on, each behind a gap of one
abbrev pub behind_gaps : ℕ → ℕ → List Part
behind_gaps at zero = []
behind_gaps at (suc n) = (at + 2, 7 ∷ []) ∷ behind_gaps (at + 2) n

-- a half on which so many came so
abbrev pub half_apart : ℕ → RecvHalf
half_apart n = record (new_recv_half plain_settings.stream_receive_window) { arrived = record nothing_arrived { parts = behind_gaps 0 n }; seen = 2 * n }

-- an end that is open, and whose stream is such a half
abbrev pub came_apart : ℕ → End
came_apart n = let e : End = took_five in record e { streams = record e.streams { receiving = record e.streams.receiving { halves = record e.streams.receiving.halves { live = (0, half_apart n) ∷ [] } } } }

-- of a stream 4 MiB may come
abbrev pub four_mebibytes : Settings
four_mebibytes = record plain_settings { stream_receive_window = 2 ^ 22 }

-- one byte of messages may wait
abbrev pub room_of_one : Settings
room_of_one = record plain_settings { datagram_receive_buffer_size = Some 1 }

-- an end at which these messages wait
abbrev pub waits_for : List (List ℕ) → End
waits_for messages = let e : End = took_five in record e { messages = record e.messages { queues = record e.messages.queues { incoming = messages } } }

-- a message of two bytes
abbrev pub two_bytes : End
two_bytes = waits_for ((7 ∷ 7 ∷ []) ∷ [])

-- two messages without a byte
abbrev pub two_empty : End
two_empty = waits_for ([] ∷ [] ∷ [])

-- 65 runs of one number each are to be acknowledged, all even ones
abbrev pub too_many_runs : End
too_many_runs = let e : End = took_five in record e { acknowledging = record e.acknowledging { runs = map (λ n. record { start = 2 * n; end = 2 * n + 1 }) (range_with_len 0 65) } }

-- eight ids of the peer are known beside the one in use
abbrev pub too_many_known : End
too_many_known = let e : End = took_five in record e { ids = record e.ids { peer = record e.ids.peer { later = map (λ n. issued n) (range_with_len 1 8) } } }

-- ---- what an application is told

-- it asks what it is told
abbrev pub asks_once : List Call
asks_once = calls.Event ∷ []

-- that a message came
abbrev pub told_once : List Answer
told_once = answers.Event (Some events.Message) ∷ []

-- a datagram is handed in before that
abbrev pub hands_in_before : List Call
hands_in_before = calls.Deliver delivery ∷ asks_once

-- and is taken
abbrev pub taken_before : List Answer
taken_before = answers.Deliver receives.Taken ∷ told_once

-- or is dropped
abbrev pub dropped_before : List Answer
dropped_before = answers.Deliver (receives.Dropped drops.NotOpened) ∷ told_once

-- it asks what it is told, and once more
abbrev pub asks_twice : List Call
asks_twice = calls.Event ∷ asks_once

-- that a stream is finished, both times
abbrev pub finished_twice : List Answer
finished_twice = answers.Event (Some (events.Stream (Finished 0))) ∷ answers.Event (Some (events.Stream (Finished 0))) ∷ []

-- that the end is lost
abbrev pub lost_twice : List Answer
lost_twice = answers.Event (Some (events.Lost reasons.Idle)) ∷ answers.Event (Some (events.Lost reasons.Idle)) ∷ []

-- ---- what an end seals

-- three datagrams of the client: number 1 is left out, and the last is cut against number 2, which
-- its peer named
abbrev pub sealed_in_turn : List ℕ → List ℕ → List ℕ → List (List ℕ)
sealed_in_turn first second third = client_datagram 0 0 first ∷ client_datagram 2 0 second ∷ client_datagram 3 2 third ∷ []

-- two under one number, whichever their payloads are
abbrev pub sealed_under_one : List ℕ → List ℕ → List (List ℕ)
sealed_under_one first second = client_datagram 0 0 first ∷ client_datagram 0 0 second ∷ []

-- the second goes under the lower number
abbrev pub sealed_falling : List ℕ → List ℕ → List (List ℕ)
sealed_falling first second = client_datagram 1 0 first ∷ client_datagram 0 0 second ∷ []

-- the client, whose key seals two packets
abbrev pub two_seals : Policy
two_seals = record worked_policies.client { seals = 2 }

-- ---- why an end isn't open

-- a moment, and one call at it
abbrev pub handles : ℕ → List Call
handles now = calls.Timeout now ∷ []

abbrev pub handled : List Answer
handled = answers.Timeout (Ok tt) ∷ []

-- one poll, which gives nothing
abbrev pub polls_once : ℕ → List Call
polls_once now = calls.Poll now ∷ []

abbrev pub gave_none : List Answer
gave_none = answers.Poll (Ok None) ∷ []

-- a datagram is handed in, and is dropped
abbrev pub hands_one : List Call
hands_one = calls.Deliver delivery ∷ []

abbrev pub one_dropped : List Answer
one_dropped = answers.Deliver (receives.Dropped drops.NotOpened) ∷ []

-- the application closes
abbrev pub closes_it : CloseCall → List Call
closes_it close = calls.Close close ∷ []

abbrev pub was_closed : List Answer
was_closed = answers.Close ∷ []

-- two polls, each of which gives a datagram
abbrev pub polls_twice : ℕ → List Call
polls_twice now = calls.Poll now ∷ polls_once now

abbrev pub gave_twice : Transmit → List Answer
gave_twice t = answers.Poll (Ok (Some t)) ∷ answers.Poll (Ok (Some t)) ∷ []

-- between them a datagram is handed in that opens
abbrev pub polls_between : ℕ → List Call
polls_between now = calls.Poll now ∷ calls.Deliver delivery ∷ polls_once now

abbrev pub gave_between : Transmit → List Answer
gave_between t = answers.Poll (Ok (Some t)) ∷ answers.Deliver (receives.Dropped drops.Closing) ∷ answers.Poll (Ok (Some t)) ∷ []

-- ---- what an end acknowledges

-- the server, whose key writes behind each payload how long it is, so that a datagram shows its
-- payload
abbrev pub shows_payload : Policy
shows_payload = let p : Policy = worked_policies.server in record p { packet = record p.packet { seal = λ n header payload. payload ++ length payload ∷ [] } }

-- its first datagram with this payload
abbrev pub shows_it : List ℕ → List (List ℕ)
shows_it payload = sent shows_payload.header shows_payload.packet 0 0 client_id payload ∷ []

-- one poll, which gives a datagram
abbrev pub gave_one : Transmit → List Answer
gave_one t = answers.Poll (Ok (Some t)) ∷ []

-- a datagram is handed in before it
abbrev pub hands_and_polls : ℕ → List Call
hands_and_polls now = calls.Deliver delivery ∷ polls_once now

-- and is taken
abbrev pub taken_and_gave : Transmit → List Answer
taken_and_gave t = answers.Deliver receives.Taken ∷ gave_one t

-- or is dropped
abbrev pub dropped_and_gave : Transmit → List Answer
dropped_and_gave t = answers.Deliver (receives.Dropped drops.KeyPhase) ∷ gave_one t

-- ---- which messages an end takes

-- one datagram is handed in, and is taken
abbrev pub one_taken : List Answer
one_taken = answers.Deliver receives.Taken ∷ []

-- a DATAGRAM frame with a message of two bytes (RFC 9221, section 4)
abbrev pub message_of_two : List ℕ
message_of_two = 0x31 ∷ 0x02 ∷ 0x07 ∷ 0x07 ∷ []

-- CONNECTION_CLOSE without an error, and behind it that frame
abbrev pub closed_before_message : List ℕ
closed_before_message = 0x1c ∷ 0x00 ∷ 0x00 ∷ 0x00 ∷ message_of_two

-- the client's first datagram, with such a payload
abbrev pub with_message : List ℕ
with_message = client_datagram 0 0 message_of_two

abbrev pub with_message_behind : List ℕ
with_message_behind = client_datagram 0 0 closed_before_message
