-- A run in which a datagram is lost, and machines that go wrong there: the client gives its
-- datagram and four with PING alone, of which the last alone comes and is acknowledged. So the
-- first two are lost, and two are in flight. Behind it stand runs in which one datagram is
-- acknowledged, and in which numbers fall.
use Rattle.std.specs.Prelude.{ℕ, List, [], ◌∷◌, ◌++◌, drop, replicate, take, Some, Ok}
use Rattle.quic_wire_core.specs.declared.stream_id.Side.TheVariants.{Client, Server}
use Rattle.quic_streams_parts.specs.Table.{Table}
use Rattle.quic_machine.specs.declared.answers.Received.TheVariants as receives
use Rattle.quic_machine.specs.declared.run.RunEvent.{RunEvent}
use Rattle.quic_machine.specs.declared.run.ReadCall.{ReadCall}
use Rattle.quic_machine.specs.declared.run.Call.TheVariants as calls
use Rattle.quic_machine.specs.declared.run.Answer.{Answer}
use Rattle.quic_machine.specs.declared.run.Answer.TheVariants as answers
use Rattle.quic_machine.specs.Tracking.{TrackedPacket}
use Rattle.quic_machine.specs.End.{End}
use Rattle.quic_machine.specs.Machine.{World}
use Rattle.quic_headline.specs.Runs.{Run}
use Rattle.quic_worked.specs.Acknowledged.{client_acked, client_datagram, from_server, ack_payload}
use Rattle.quic_worked.specs.Worked.{worked_policies, hello_datagram, started, with_client, once_sent, once_taken, after_event, ran, asks_datagram, delivery, accepts_stream, reads_stream, gives_chunk, gives_bytes, gives_unmarked, sending_events, sending_answers, open_view, ids_payload, server_open, hello_payload}
use Rattle.quic_worked.specs.Reordered.{delivers_at}
use Rattle.quic_worked.specs.Broken.{hellp, answered_run, asks_event, tells_finished}

-- ---- the events

-- the client is asked for a PING
abbrev pub asks_ping : RunEvent
asks_ping = record { side = Client; call = calls.Ping }

-- a datagram with PING alone goes
abbrev pub ping_events : List RunEvent
ping_events = asks_ping ∷ asks_datagram ∷ []

-- what that is answered
abbrev pub ping_answers : List Answer
ping_answers = answers.Ping ∷ gives_bytes 29 ∷ []

-- 25 ms pass at the server
abbrev pub server_waits : RunEvent
server_waits = record { side = Server; call = calls.Timeout 25000000 }

-- it gives what it has
abbrev pub server_polled : RunEvent
server_polled = record { side = Server; call = calls.Poll 25000000 }

-- which comes to the client
abbrev pub client_delivered : RunEvent
client_delivered = record { side = Client; call = calls.Deliver (record delivery { now = 25000000 }) }

-- all events
abbrev pub losing_events : List RunEvent
losing_events =
    sending_events
    ++ ping_events
    ++ ping_events
    ++ ping_events
    ++ ping_events
    ++ delivers_at 4
    ∷ server_waits
    ∷ server_polled
    ∷ client_delivered
    ∷ []

-- their answers
abbrev pub losing_answers : List Answer
losing_answers =
    sending_answers
    ++ ping_answers
    ++ ping_answers
    ++ ping_answers
    ++ ping_answers
    ++ answers.Deliver receives.Taken
    ∷ answers.Timeout (Ok tt)
    ∷ gives_bytes 32
    ∷ answers.Deliver receives.Taken
    ∷ []

-- what that is answered where it is the first that goes, which tells the ids behind PING
abbrev pub first_ping_answers : List Answer
first_ping_answers = answers.Ping ∷ gives_bytes 223 ∷ []

-- ---- what they leave

-- one PING more went
abbrev pub after_ping : World → World
after_ping w = after_event worked_policies w asks_ping answers.Ping

-- and its datagram
abbrev pub pinged : World → World
pinged w = ran worked_policies w ping_events ping_answers

-- the first PING behind the word
unfoldable pub pinged_once : World
unfolding once_sent
pinged_once = pinged once_sent

-- the second
unfoldable pub pinged_twice : World
unfolding pinged_once
pinged_twice = pinged pinged_once

-- the third
unfoldable pub pinged_thrice : World
unfolding pinged_twice
pinged_thrice = pinged pinged_twice

-- all five datagrams are given
unfoldable pub all_given : World
unfolding pinged_thrice
all_given = pinged pinged_thrice

-- the last came
unfoldable pub last_taken : World
unfolding once_taken all_given
last_taken = after_event worked_policies all_given (delivers_at 4) (answers.Deliver receives.Taken)

-- its acknowledgement is due at once, since numbers before it are missing (RFC 9000, section
-- 13.2.1); 25 ms pass all the same
abbrev pub last_due : World
last_due = after_event worked_policies last_taken server_waits (answers.Timeout (Ok tt))

-- and is given
unfoldable pub last_named : World
unfolding last_taken
last_named = after_event worked_policies last_due server_polled (gives_bytes 32)

-- the client takes it: two datagrams are lost
unfoldable pub once_lost : World
unfolding client_acked last_named
once_lost = after_event worked_policies last_named client_delivered (answers.Deliver receives.Taken)

-- ---- the run

-- PING and padding
abbrev pub ping_payload : List ℕ
ping_payload = 0x01 ∷ 0x00 ∷ 0x00 ∷ []

-- PING, and the ids behind it
abbrev pub first_ping : List ℕ
first_ping = 0x01 ∷ ids_payload

-- ACK of number 4 alone, after 25000 microseconds
abbrev pub fourth_payload : List ℕ
fourth_payload = 0x02 ∷ 0x04 ∷ 0x4c ∷ 0x35 ∷ 0x00 ∷ 0x00 ∷ []

-- the run, with more events, answered so
abbrev pub losing_run : List RunEvent → List Answer → Run
losing_run more told = record {
  keys = worked_policies;
  start = started;
  events = losing_events ++ more;
  answers = losing_answers ++ told;
  views = replicate 20 (record { client = open_view; server = server_open });
  from_client =
      hello_datagram
      ∷ client_datagram 1 0 ping_payload
      ∷ client_datagram 2 0 ping_payload
      ∷ client_datagram 3 0 ping_payload
      ∷ client_datagram 4 0 ping_payload
      ∷ [];
  from_server = from_server 0 fourth_payload ∷ [];
}

-- ---- the ends of wrong machines

-- an end that waits for these datagrams
abbrev pub waiting_for : Table TrackedPacket → End → End
waiting_for packets e = record e { tracking = record e.tracking { packets = packets } }

-- nothing is ever lost
abbrev pub never_lost : World
never_lost = with_client once_lost (waiting_for (take 4 all_given.client.tracking.packets) once_lost.client)

-- no number above 0 is ever lost: so it is too where four numbers above one are needed to lose it
abbrev pub seldom_lost : World
seldom_lost = with_client once_lost (waiting_for (take 3 (drop 1 all_given.client.tracking.packets)) once_lost.client)

-- two numbers above one lose it
abbrev pub early_lost : World
early_lost = with_client once_lost (waiting_for (drop 1 once_lost.client.tracking.packets) once_lost.client)

-- the datagram that was acknowledged is waited for still
abbrev pub still_waiting : World
still_waiting = with_client once_lost (waiting_for (drop 2 all_given.client.tracking.packets) once_lost.client)

-- what was lost doesn't go again
abbrev pub lost_for_good : World
lost_for_good = with_client once_lost (record once_lost.client { streams = all_given.client.streams })

-- ---- the runs of wrong machines

-- the acknowledgement of the last datagram counts for all before it
abbrev pub all_named : Run
all_named = losing_run (asks_event ∷ []) (tells_finished ∷ [])

-- the client is asked for a datagram
abbrev pub client_polled : RunEvent
client_polled = record { side = Client; call = calls.Poll 25000000 }

-- the bytes that were lost go again with another last one, and are read
abbrev pub changed_again : ReadCall → Run
changed_again read =
    losing_run (client_polled ∷ delivers_at 5 ∷ accepts_stream ∷ reads_stream read ∷ [])
    (gives_unmarked 235 ∷ answers.Deliver receives.Taken ∷ answers.Accept (Some 0) ∷ answers.Read (Ok (gives_chunk hellp ∷ [])) ∷ [])

-- ---- what is lost goes again

-- it gives what was lost
unfoldable pub again_given : World
unfolding once_lost
again_given = after_event worked_policies once_lost client_polled (gives_unmarked 235)

-- which comes
unfoldable pub again_taken : World
unfolding once_taken again_given
again_taken = after_event worked_policies again_given (delivers_at 5) (answers.Deliver receives.Taken)

-- its stream is accepted
abbrev pub again_accepted : World
again_accepted = after_event worked_policies again_taken accepts_stream (answers.Accept (Some 0))

-- ---- an acknowledgement

-- 25 ms behind the client's datagram its acknowledgement is due
abbrev pub once_due : World
once_due = after_event worked_policies once_taken server_waits (answers.Timeout (Ok tt))

-- it is given
unfoldable pub once_named : World
unfolding once_taken
once_named = after_event worked_policies once_due server_polled (gives_bytes 32)

-- and taken
unfoldable pub once_acked : World
unfolding client_acked once_named
once_acked = after_event worked_policies once_named client_delivered (answers.Deliver receives.Taken)

-- it is told that its stream is finished
abbrev pub once_told : World
once_told = after_event worked_policies once_acked asks_event tells_finished

-- ACK of numbers 0 and 1
abbrev pub wide_payload : List ℕ
wide_payload = 0x02 ∷ 0x01 ∷ 0x4c ∷ 0x35 ∷ 0x00 ∷ 0x01 ∷ []

-- the server acknowledges one number more than it took
abbrev pub wide_name : ReadCall → Run
wide_name read = record (answered_run read) {
  events = take 7 (answered_run read).events;
  answers = take 7 (answered_run read).answers;
  from_server = from_server 0 wide_payload ∷ [];
}

-- ACK of number 1 alone
abbrev pub narrow_payload : List ℕ
narrow_payload = 0x02 ∷ 0x01 ∷ 0x4c ∷ 0x35 ∷ 0x00 ∷ 0x00 ∷ []

-- the server leaves the number that it took out of its acknowledgement
abbrev pub narrow_name : ReadCall → Run
narrow_name read = record (wide_name read) { from_server = from_server 0 narrow_payload ∷ [] }

-- ---- an acknowledgement of the first of two datagrams

-- the client gives its datagram and a PING behind it, of which the first comes and is acknowledged
abbrev pub first_events : List RunEvent
first_events = sending_events ++ ping_events ++ delivers_at 0 ∷ server_waits ∷ server_polled ∷ client_delivered ∷ []

-- what that is answered
abbrev pub first_answers : List Answer
first_answers =
    sending_answers
    ++ ping_answers
    ++ answers.Deliver receives.Taken
    ∷ answers.Timeout (Ok tt)
    ∷ gives_bytes 32
    ∷ answers.Deliver receives.Taken
    ∷ []

-- the first came
unfoldable pub first_taken : World
unfolding once_taken pinged_once
first_taken = after_event worked_policies pinged_once (delivers_at 0) (answers.Deliver receives.Taken)

-- its acknowledgement is due
abbrev pub first_due : World
first_due = after_event worked_policies first_taken server_waits (answers.Timeout (Ok tt))

-- and is given
unfoldable pub first_named : World
unfolding first_taken
first_named = after_event worked_policies first_due server_polled (gives_bytes 32)

-- and taken
unfoldable pub first_acked : World
unfolding client_acked first_named
first_acked = after_event worked_policies first_named client_delivered (answers.Deliver receives.Taken)

-- the run
abbrev pub first_run : Run
first_run = record (losing_run [] []) {
  events = first_events;
  answers = first_answers;
  from_client = hello_datagram ∷ client_datagram 1 0 ping_payload ∷ [];
  from_server = from_server 0 ack_payload ∷ [];
}

-- the client waits for none, though the second came to nobody
abbrev pub above_acked : World
above_acked = with_client first_acked (waiting_for [] first_acked.client)

-- ---- numbers that fall

-- a PING goes, and then the word
abbrev pub falling_events : List RunEvent
falling_events = ping_events ++ sending_events

-- what the calls that send the word are answered behind it: the ids went before
abbrev pub word_answers : List Answer
word_answers = answers.Open (Some 0) ∷ answers.Write (Ok 5) ∷ answers.Finish (Ok tt) ∷ gives_bytes 34 ∷ []

-- what that is answered
abbrev pub falling_answers : List Answer
falling_answers = first_ping_answers ++ word_answers

-- the PING is given
unfoldable pub ping_given : World
unfolding once_sent
ping_given = ran worked_policies started ping_events first_ping_answers

-- behind so many of the calls that send the word
abbrev pub ping_and : ℕ → World
ping_and n = ran worked_policies ping_given (take n sending_events) (take n word_answers)

-- the word is given too
unfoldable pub word_given : World
unfolding ping_given
word_given = ping_and 4

-- the PING has number 1, and the word number 0
abbrev pub falling : Run
falling = record (losing_run [] []) {
  events = falling_events;
  answers = falling_answers;
  from_client = client_datagram 1 0 first_ping ∷ client_datagram 0 0 hello_payload ∷ [];
  from_server = [];
}
