-- A run in which streams take bytes again (RFC 9000, section 4.1): that in which each limit binds,
-- up to where limits are raised; then the client's application asks what it is told next. And a
-- machine that tells it nothing.
use Rattle.std.specs.Prelude.{ℕ, ◌≡◌, Bool, List, [], ◌∷◌, ◌++◌, take, replicate, Some, None, Ok, Err}
use Rattle.quic_wire_core.specs.declared.stream_id.Side.TheVariants.{Client}
use Rattle.quic_sets.specs.Offsets.{with_offsets}
use Rattle.quic_sets.specs.Pieces.{with_range, joining, pieces}
use Rattle.quic_wire.specs.Reading.{stream_limit_at}
use Rattle.quic_streams_parts.specs.declared.answers.StreamEvent.TheVariants.{Writable}
use Rattle.quic_streams_parts.specs.declared.answers.WriteError.TheVariants as write_errors
use Rattle.quic_machine.specs.declared.answers.Event.TheVariants as events
use Rattle.quic_machine.specs.declared.answers.Received.TheVariants as receives
use Rattle.quic_machine.specs.declared.run.RunEvent.{RunEvent}
use Rattle.quic_machine.specs.declared.run.ReadCall.{ReadCall}
use Rattle.quic_machine.specs.declared.run.Answer.{Answer}
use Rattle.quic_machine.specs.declared.run.Answer.TheVariants as answers
use Rattle.quic_machine.specs.Start.{AreStarted}
use Rattle.quic_machine.specs.Machine.{World}
use Rattle.quic_headline.specs.Runs.{Run}
use Rattle.quic_headline.specs.Events.{writing}
use Rattle.quic_worked.specs.Worked.{ran_so_far, worked_policies, with_server, end_after_reads, once_taken, hello, opens_stream, asks_datagram, delivers, accepts_stream, reads_stream, gives_bytes, sent_view, waiting_view, told_ids}
use Rattle.quic_worked.specs.Acknowledged.{client_acked, client_datagram, from_server}
use Rattle.quic_worked.specs.Paired.{writes_on, asks_server, client_hears, client_asks}
use Rattle.quic_worked.specs.Credit.{eight_bounds, views_of_credit}
use Rattle.quic_worked.specs.Limited.{limited_start, sixteen, hello_nexts, raised_payload, limited_events, limited_answers, limited_views, limited_run, limited_heard}

-- it is told that a stream takes bytes again
abbrev pub tells_again : ℕ → Answer
tells_again id = answers.Event (Some (events.Stream (Writable id)))

-- it asks three times
abbrev pub asks_thrice : List RunEvent
asks_thrice = replicate 3 client_asks

-- it is told of the stream whose limit was used up, of the one whose write was blocked, and of
-- nothing
abbrev pub told_thrice : List Answer
told_thrice = tells_again 0 ∷ tells_again 4 ∷ answers.Event None ∷ []

-- what the first so many of these leave
abbrev pub once_asked : ℕ → World
once_asked n = ran_so_far worked_policies limited_heard asks_thrice told_thrice n

-- the limits came, and it asks and is answered so, where the server reads by this call
abbrev pub asking_again : ReadCall → List RunEvent → List Answer → Run
asking_again read asks told = record (limited_run read) {
  events = take 11 (limited_events read) ++ asks;
  answers = take 11 limited_answers ++ told;
  views = take 11 limited_views ++ replicate 3 (record { client = waiting_view; server = sent_view });
}

-- the run
abbrev pub writable_run : ReadCall → Run
writable_run read = asking_again read asks_thrice told_thrice

-- it is told of nothing, though limits were raised
abbrev pub writable_untold : ReadCall → Run
writable_untold read = asking_again read (client_asks ∷ []) (answers.Event None ∷ [])

-- whether the client is to be told of these streams before an event
pub record AwaitsAt (read : ReadCall) (s : AreStarted limited_start) (i : ℕ) (first second : Bool) : Type 0 where
  pub used_up : (writing (writable_run read) s Client 0 i).waits ≡ first
  pub blocked : (writing (writable_run read) s Client 4 i).waits ≡ second

-- ---- a write that the stream's own limit blocks

-- the client opens a stream, uses up its limit and is blocked by that; what it gives comes, and the
-- stream is accepted
abbrev pub own_front : List RunEvent
own_front = opens_stream ∷ writes_on 0 sixteen ∷ writes_on 0 sixteen ∷ asks_datagram ∷ delivers ∷ accepts_stream ∷ []

-- the answers to these: five bytes are written, and the second write is blocked
abbrev pub own_told : List Answer
own_told = answers.Open (Some 0) ∷ answers.Write (Ok 5) ∷ answers.Write (Err write_errors.Blocked) ∷ gives_bytes 233 ∷ answers.Deliver receives.Taken ∷ answers.Accept (Some 0) ∷ []

-- once the stream is read, limits are raised, and the client's application asks twice
abbrev pub own_back : List RunEvent
own_back = asks_server ∷ client_hears ∷ client_asks ∷ client_asks ∷ []

-- the answers to these: the client is told once that the stream is writable
abbrev pub told_back : List Answer
told_back = gives_bytes 232 ∷ answers.Deliver receives.Taken ∷ tells_again 0 ∷ answers.Event None ∷ []

-- what the first so many leave
unfoldable pub own_until : ℕ → World
unfolding once_taken with_offsets with_range joining pieces stream_limit_at
own_until n = ran_so_far worked_policies limited_start own_front own_told n

-- the stream is read
abbrev pub own_read : World
own_read = with_server (own_until 6) (end_after_reads (own_until 6).server 0 eight_bounds hello_nexts)

-- and what the first so many behind that leave
unfoldable pub own_behind : ℕ → World
unfolding own_until client_acked
own_behind n = ran_so_far worked_policies own_read own_back told_back n

-- STREAM_DATA_BLOCKED at 5 bytes (RFC 9000, section 19.13), the client's ids, and STREAM with a
-- length and the word
abbrev pub own_payload : List ℕ
own_payload = (0x15 ∷ 0x00 ∷ 0x05 ∷ []) ++ told_ids ((0x0a ∷ 0x00 ∷ 0x05 ∷ []) ++ hello)

-- the run, where the server reads by this call
abbrev pub own_run : ReadCall → Run
own_run read = record {
  keys = worked_policies;
  start = limited_start;
  events = own_front ++ reads_stream read ∷ own_back;
  answers = own_told ++ answers.Read (Ok hello_nexts) ∷ told_back;
  views = views_of_credit 3 ++ record { client = waiting_view; server = sent_view } ∷ [];
  from_client = client_datagram 0 0 own_payload ∷ [];
  from_server = from_server 0 raised_payload ∷ [];
}
