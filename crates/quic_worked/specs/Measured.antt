-- A run in which a round trip is measured, and datagrams are lost by number and by time (RFC 9002,
-- sections 5 and 6.1): the client gives four with PING alone at moment 0, of which the last alone
-- comes. Numbers before it are missing, so it is acknowledged at once (RFC 9000, section 13.2.1).
-- And a run in which a number is left out (section 21.4). Behind each stand machines that go wrong
-- there.
use Rattle.std.specs.Prelude.{ℕ, true, List, [], ◌∷◌, ◌++◌, replicate, take, Option, Some, None, Ok, suc, zero}
use Rattle.quic_wire_core.specs.TransportError.{plain_error}
use Rattle.quic_wire_core.specs.declared.stream_id.Side.TheVariants.{Client}
use Rattle.quic_config.specs.Transport.{parameters_of}
use Rattle.quic_worked.specs.Settings.{plain_settings}
use Rattle.quic_machine.specs.declared.answers.LostReason.TheVariants as reasons
use Rattle.quic_machine.specs.declared.answers.Received.TheVariants as receives
use Rattle.quic_machine.specs.declared.run.RunEvent.{RunEvent}
use Rattle.quic_machine.specs.declared.run.Answer.{Answer}
use Rattle.quic_machine.specs.declared.run.Answer.TheVariants as answers
use Rattle.quic_machine.specs.declared.run.View.{View}
use Rattle.quic_time.specs.Timers.{no_timers}
use Rattle.quic_machine.specs.End.{new_end}
use Rattle.quic_machine.specs.Machine.{World}
use Rattle.quic_headline.specs.Runs.{Run}
use Rattle.quic_worked.specs.Worked.{ran_so_far, steady, ran, worked_policies, client_id, server_id, started, with_client, delivers, asks_datagram, ids_payload, gives_bytes, open_view, sent_view, server_open, server_waiting}
use Rattle.quic_worked.specs.Acknowledged.{ack_of_third, ack_payload, client_datagram, client_acked, from_server}
use Rattle.quic_worked.specs.Reordered.{delivers_at}
use Rattle.quic_worked.specs.Losses.{ping_events, ping_answers, ping_payload, server_waits, server_polled, client_delivered, first_ping_answers, first_ping}
use Rattle.quic_worked.specs.Closed.{closed_view}
use Rattle.quic_worked.specs.Paired.{asks_server}
use Rattle.quic_worked.specs.Timed.{serves, comes_at, seen_with}

-- ---- four datagrams, of which the last comes

-- what happens
abbrev pub measured_events : List RunEvent
measured_events =
    ping_events
    ++ ping_events
    ++ ping_events
    ++ ping_events
    ++ delivers_at 3
    ∷ asks_server
    ∷ comes_at Client 100000000
    ∷ serves Client 112500000
    ∷ []

-- what it is answered
abbrev pub measured_answers : List Answer
measured_answers =
    first_ping_answers
    ++ ping_answers
    ++ ping_answers
    ++ ping_answers
    ++ answers.Deliver receives.Taken
    ∷ gives_bytes 31
    ∷ answers.Deliver receives.Taken
    ∷ answers.Timeout (Ok tt)
    ∷ []

-- what the first so many of these leave
unfoldable pub once_measured : ℕ → World
unfolding client_acked
once_measured n = ran_so_far worked_policies started measured_events measured_answers n

-- the views, where the client shows its loss timer so once the acknowledgement came, and once the
-- timers were served
abbrev pub measured_views : Option ℕ → Option ℕ → List View
measured_views answered served =
    seen_with None None
    ∷ replicate 9 (seen_with (Some 1024000000) None)
    ++ seen_with answered None
    ∷ seen_with served None
    ∷ []

-- the run with these
abbrev pub measured_seen : Option ℕ → Option ℕ → Run
measured_seen answered served = record {
  keys = worked_policies;
  start = started;
  events = measured_events;
  answers = measured_answers;
  views = measured_views answered served;
  from_client =
      client_datagram 0 0 first_ping
      ∷ client_datagram 1 0 ping_payload
      ∷ client_datagram 2 0 ping_payload
      ∷ client_datagram 3 0 ping_payload
      ∷ [];
  from_server = from_server 0 ack_of_third ∷ [];
}

-- the run: the round trip took 100 ms. Number 0 is lost, three below the number that is
-- acknowledged; numbers 1 and 2 are once nine eighths of that have passed since they went, and then
-- nothing is waited for
abbrev pub measured_run : Run
measured_run = measured_seen (Some 112500000) None

-- ---- machines that go wrong there

-- none is ever lost by time: an acknowledgement of numbers 1 and 2 is waited for during 100 ms,
-- four times 50 ms, and 25 ms
abbrev pub never_late : Run
never_late = measured_seen (Some 325000000) (Some 325000000)

-- and where the timers are served, they are waited for as before
abbrev pub late_kept : World
late_kept = with_client (once_measured 12) (once_measured 11).client

-- the acknowledgement stops the loss timer, though two are waited for
abbrev pub timer_cleared : Run
timer_cleared = measured_seen None None

-- and leaves it so
abbrev pub cleared : World
cleared = with_client (once_measured 11) (record (once_measured 11).client { timers = no_timers })

-- ---- a number that is left out

-- words of a random source, of which the first is 0
abbrev pub zero_first : ℕ → ℕ
zero_first zero = 0
zero_first (suc n) = 63

-- both ends, of which the client leaves out number 0: that was the first word of its random source
abbrev pub leaving_out : World
leaving_out = with_client started (new_end Client plain_settings steady (parameters_of plain_settings) client_id server_id 0 0 true zero_first)

-- a datagram goes, and is acknowledged
abbrev pub skipping_events : List RunEvent
skipping_events = ping_events ++ delivers ∷ server_waits ∷ server_polled ∷ client_delivered ∷ []

-- what that is answered until the client takes the acknowledgement
abbrev pub skipping_until : List Answer
skipping_until = first_ping_answers ++ answers.Deliver receives.Taken ∷ answers.Timeout (Ok tt) ∷ gives_bytes 32 ∷ []

-- and with its answer to that
abbrev pub skipping_answers : List Answer
skipping_answers = skipping_until ++ answers.Deliver receives.Taken ∷ []

-- what the first so many leave
unfoldable pub once_skipped : ℕ → World
unfolding client_acked
once_skipped n = ran worked_policies leaving_out (take n skipping_events) (take n skipping_answers)

-- ACK of number 1 alone, after 25000 microseconds
abbrev pub ack_of_first : List ℕ
ack_of_first = 0x02 ∷ 0x01 ∷ 0x4c ∷ 0x35 ∷ 0x00 ∷ 0x00 ∷ []

-- what is seen until then: the server waits for 25 ms, since before any packet came none counts as
-- missing below number 1
abbrev pub skipping_views : List View
skipping_views =
    record { client = open_view; server = server_open }
    ∷ record { client = sent_view; server = server_open }
    ∷ record { client = sent_view; server = server_waiting }
    ∷ replicate 2 (record { client = sent_view; server = server_open })

-- the run: the first datagram has number 1
abbrev pub skipping_run : Run
skipping_run = record {
  keys = worked_policies;
  start = leaving_out;
  events = skipping_events;
  answers = skipping_answers;
  views = skipping_views ++ record { client = open_view; server = server_open } ∷ [];
  from_client = client_datagram 1 0 first_ping ∷ [];
  from_server = from_server 0 ack_of_first ∷ [];
}

-- a client gives 0, the number that it leaves out
abbrev pub left_out_sent : Run
left_out_sent = record skipping_run { events = ping_events; answers = first_ping_answers; from_client = client_datagram 0 0 first_ping ∷ []; from_server = [] }

-- and it closes once that is acknowledged, as if its peer had made it up: PROTOCOL_VIOLATION
abbrev pub left_out_given : Run
left_out_given = record skipping_run {
  answers = skipping_until ++ answers.Deliver (receives.Closed (plain_error 10)) ∷ [];
  views = skipping_views ++ record { client = closed_view (reasons.Transport (plain_error 10)); server = server_open } ∷ [];
  from_client = client_datagram 0 0 first_ping ∷ [];
  from_server = from_server 0 ack_payload ∷ [];
}

-- a client whose random source answered 63 first, and that leaves out 0 all the same, and has
-- PADDING
abbrev pub other_left_out : Run
other_left_out = record {
  keys = worked_policies;
  start = started;
  events = asks_datagram ∷ [];
  answers = gives_bytes 223 ∷ [];
  views = seen_with (Some 1024000000) None ∷ [];
  from_client = client_datagram 1 0 (0x00 ∷ ids_payload) ∷ [];
  from_server = [];
}
