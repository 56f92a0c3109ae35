-- A run in which the datagram is lost that lets the client go further (RFC 9000, sections 4.1 and
-- 13.3): the server takes 8 bytes at a time, and once these are read it says that 16 may come, in
-- MAX_DATA. That datagram never comes; once three later ones went, and the client acknowledged the
-- last of them, the limit waits again, goes again, and comes. And what machines leave that forget
-- it.
use Rattle.std.specs.Prelude.{ℕ, false, List, [], ◌∷◌, ◌++◌, None, Ok}
use Rattle.quic_wire_core.specs.declared.stream_id.Side.TheVariants.{Client, Server}
use Rattle.quic_sets.specs.Offsets.{with_offsets}
use Rattle.quic_sets.specs.Pieces.{with_range, joining}
use Rattle.quic_packet.specs.Datagram.{sent}
use Rattle.quic_machine.specs.declared.answers.Received.TheVariants as receives
use Rattle.quic_machine.specs.declared.run.RunEvent.{RunEvent}
use Rattle.quic_machine.specs.declared.run.ReadCall.{ReadCall}
use Rattle.quic_machine.specs.declared.run.Call.TheVariants as calls
use Rattle.quic_machine.specs.declared.run.Answer.{Answer}
use Rattle.quic_machine.specs.declared.run.Answer.TheVariants as answers
use Rattle.quic_machine.specs.declared.run.View.{View}
use Rattle.quic_machine.specs.End.{End}
use Rattle.quic_machine.specs.Machine.{World, Follows, view_of}
use Rattle.quic_headline.specs.Runs.{Run}
use Rattle.quic_worked.specs.Worked.{worked_policies, client_id, with_server, after_event, reads_stream, gives_bytes, gives_unmarked, told_ids}
use Rattle.quic_worked.specs.Acknowledged.{client_acked, client_datagram, from_server, ack_at_once}
use Rattle.quic_worked.specs.Paired.{writes_on, asks_server}
use Rattle.quic_worked.specs.Losses.{client_polled, server_polled}
use Rattle.quic_worked.specs.Credit.{narrow_bytes, eight, eight_payload, credit_front, credit_until, limit_payload, credit_opened, credit_written, credit_sent, credit_taken, credit_accepted, credit_read, credit_given}

-- ---- the events

-- the server is asked for a PING
abbrev pub server_pings : RunEvent
server_pings = record { side = Server; call = calls.Ping }

-- a datagram with it goes
abbrev pub ping_sent : List RunEvent
ping_sent = server_pings ∷ asks_server ∷ []

-- one of the server's datagrams comes to the client
abbrev pub comes_to_client : ℕ → RunEvent
comes_to_client index = record { side = Client; call = calls.Deliver (record { now = 0; remote = 0; ecn = None; index = index }) }

-- 25 ms pass at the client
abbrev pub client_waits : RunEvent
client_waits = record { side = Client; call = calls.Timeout 25000000 }

-- its acknowledgement comes to the server
abbrev pub ack_comes : RunEvent
ack_comes = record { side = Server; call = calls.Deliver (record { now = 25000000; remote = 0; ecn = None; index = 1 }) }

-- up to the loss
abbrev pub losing_limit : ReadCall → List RunEvent
losing_limit read =
    credit_front
    ++ reads_stream read
    ∷ asks_server
    ∷ ping_sent
    ++ ping_sent
    ++ ping_sent
    ++ comes_to_client 3
    ∷ client_waits
    ∷ client_polled
    ∷ ack_comes
    ∷ []

-- all of it, where the server reads by this call
abbrev pub raised_events : ReadCall → List RunEvent
raised_events read = losing_limit read ++ server_polled ∷ comes_to_client 4 ∷ writes_on 0 eight ∷ []

-- what a PING that goes is answered
abbrev pub ping_told : List Answer
ping_told = answers.Ping ∷ gives_bytes 32 ∷ []

-- what that is answered up to the loss
abbrev pub losing_told : List Answer
losing_told =
    credit_until
    ++ gives_bytes 229
    ∷ ping_told
    ++ ping_told
    ++ ping_told
    ++ answers.Deliver receives.Taken
    ∷ answers.Timeout (Ok tt)
    ∷ gives_unmarked 32
    ∷ answers.Deliver receives.Taken
    ∷ []

-- and what all of it is answered
abbrev pub raised_told : List Answer
raised_told = losing_told ++ gives_unmarked 229 ∷ answers.Deliver receives.Taken ∷ answers.Write (Ok 8) ∷ []

-- ---- what they leave

-- a PING is asked for at the server
abbrev pub after_server_ping : World → World
after_server_ping w = after_event worked_policies w server_pings answers.Ping

-- the first of three PINGs is given
unfoldable pub first_ping : World
unfolding credit_given
first_ping = after_event worked_policies (after_server_ping credit_given) asks_server (gives_bytes 32)

-- the second
unfoldable pub second_ping : World
unfolding first_ping
second_ping = after_event worked_policies (after_server_ping first_ping) asks_server (gives_bytes 32)

-- and the third
unfoldable pub third_ping : World
unfolding second_ping
third_ping = after_event worked_policies (after_server_ping second_ping) asks_server (gives_bytes 32)

-- the last comes alone, and its acknowledgement is due at once, since numbers before it are missing
unfoldable pub third_came : World
unfolding third_ping client_acked
third_came = after_event worked_policies third_ping (comes_to_client 3) (answers.Deliver receives.Taken)

-- the client's timer of acknowledgements is served
abbrev pub third_due : World
third_due = after_event worked_policies third_came client_waits (answers.Timeout (Ok tt))

-- it gives the acknowledgement
unfoldable pub third_named : World
unfolding third_came
third_named = after_event worked_policies third_due client_polled (gives_unmarked 32)

-- the server takes it: the datagram with the limit is lost
unfoldable pub limit_lost : World
unfolding third_named client_acked with_offsets with_range joining
limit_lost = after_event worked_policies third_named ack_comes (answers.Deliver receives.Taken)

-- the limit goes again
unfoldable pub limit_again : World
unfolding limit_lost
limit_again = after_event worked_policies limit_lost server_polled (gives_unmarked 229)

-- it comes
unfoldable pub limit_came : World
unfolding limit_again
limit_came = after_event worked_policies limit_again (comes_to_client 4) (answers.Deliver receives.Taken)

-- and is used
abbrev pub limit_used : World
limit_used = after_event worked_policies limit_came (writes_on 0 eight) (answers.Write (Ok 8))

-- ---- the run

-- what is seen of both after each event
abbrev pub raised_views : List View
raised_views =
    view_of credit_opened
    ∷ view_of credit_written
    ∷ view_of credit_sent
    ∷ view_of credit_taken
    ∷ view_of credit_accepted
    ∷ view_of credit_read
    ∷ view_of credit_given
    ∷ view_of (after_server_ping credit_given)
    ∷ view_of first_ping
    ∷ view_of (after_server_ping first_ping)
    ∷ view_of second_ping
    ∷ view_of (after_server_ping second_ping)
    ∷ view_of third_ping
    ∷ view_of third_came
    ∷ view_of third_due
    ∷ view_of third_named
    ∷ view_of limit_lost
    ∷ view_of limit_again
    ∷ view_of limit_came
    ∷ view_of limit_used
    ∷ []

-- the datagram that the server gives under a number that is cut against another
abbrev pub server_datagram : ℕ → ℕ → List ℕ → List ℕ
server_datagram number reference payload = sent worked_policies.server.header worked_policies.server.packet number reference client_id payload

-- PING, and the acknowledgement along with it
abbrev pub ping_and_ack : List ℕ
ping_and_ack = 0x01 ∷ ack_at_once

-- ACK of number 3 alone, after 25000 microseconds
abbrev pub third_ack : List ℕ
third_ack = 0x02 ∷ 0x03 ∷ 0x4c ∷ 0x35 ∷ 0x00 ∷ 0x00 ∷ []

-- MAX_DATA of 16 bytes, the ids that were told with it, and ACK of number 1, at once
abbrev pub again_payload : List ℕ
again_payload = 0x10 ∷ 0x10 ∷ told_ids (0x02 ∷ 0x01 ∷ 0x00 ∷ 0x00 ∷ 0x00 ∷ [])

-- the run, where the server reads by this call
abbrev pub raised_run : ReadCall → Run
raised_run read = record {
  keys = worked_policies;
  start = narrow_bytes;
  events = raised_events read;
  answers = raised_told;
  views = raised_views;
  from_client = client_datagram 0 0 eight_payload ∷ client_datagram 1 0 third_ack ∷ [];
  from_server =
      from_server 0 (limit_payload 16)
      ∷ from_server 1 ping_and_ack
      ∷ from_server 2 ping_and_ack
      ∷ from_server 3 ping_and_ack
      ∷ server_datagram 4 3 again_payload
      ∷ [];
}

-- these events, answered so, lead from the ends of this run to no such end
abbrev pub NeverComes : List RunEvent → List Answer → World → Type 0
NeverComes events told end = (views : List View) → Follows worked_policies narrow_bytes events told views end → ⊥

-- ---- machines that forget it

-- an end at which MAX_DATA doesn't wait
abbrev pub without_limit : End → End
without_limit e = record e { waiting = record e.waiting { frames = record e.waiting.frames { max_data = false } } }

-- an end that told its peer that so many bytes may come
abbrev pub announcing : ℕ → End → End
announcing limit e = record e { streams = record e.streams { receiving = record e.streams.receiving { announced = limit } } }

-- the server isn't to say that more may come, though all was read
abbrev pub never_noted : World
never_noted = with_server credit_read (without_limit credit_read.server)

-- or not again, though the datagram that said it is lost
abbrev pub limit_forgotten : World
limit_forgotten = with_server limit_lost (without_limit limit_lost.server)

-- or it said one byte less than may come
abbrev pub limit_low : World
limit_low = with_server credit_given (announcing 15 credit_given.server)
