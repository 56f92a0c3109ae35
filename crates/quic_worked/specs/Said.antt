-- Runs in which a limit is said to be used up once (RFC 9000, sections 4.1, 19.12 and 19.13): a
-- client writes as much as may come, gives it, and then writes in vain. The first such write asks
-- for a frame that says the limit, which goes; those behind it ask for none, and the client has
-- nothing to give. In one run all data is used up, in the other a stream. And clients at which the
-- limit is to be said again.
use Rattle.std.specs.Prelude.{false, ℕ, true, List, [], ◌∷◌, ◌++◌, replicate, take, Some, Ok, Err}
use Rattle.quic_wire_core.specs.declared.stream_id.Side.TheVariants.{Client}
use Rattle.quic_wire.specs.Reading.{stream_limit_at}
use Rattle.quic_streams_parts.specs.declared.answers.WriteError.TheVariants as write_errors
use Rattle.quic_retransmits.specs.Retransmits.{Retransmits}
use Rattle.quic_machine.specs.declared.run.RunEvent.{RunEvent}
use Rattle.quic_machine.specs.declared.run.Call.TheVariants as calls
use Rattle.quic_machine.specs.declared.run.Answer.{Answer}
use Rattle.quic_machine.specs.declared.run.Answer.TheVariants as answers
use Rattle.quic_machine.specs.declared.run.View.{View}
use Rattle.quic_machine.specs.End.{End}
use Rattle.quic_machine.specs.Machine.{World, Follows}
use Rattle.quic_headline.specs.Runs.{Run}
use Rattle.quic_headline.specs.Begins.{Seen, seen_at}
use Rattle.quic_worked.specs.Worked.{worked_policies, with_client, ran_so_far, hello, opens_stream, asks_datagram, gives_bytes, told_ids, open_view, sent_view}
use Rattle.quic_worked.specs.Acknowledged.{client_acked, client_datagram}
use Rattle.quic_worked.specs.Paired.{writes_on}
use Rattle.quic_worked.specs.Credit.{eight, eight_payload}
use Rattle.quic_worked.specs.Limited.{limited_start, sixteen}
use Rattle.quic_worked.specs.Held.{gives_nothing}
use Rattle.quic_worked.specs.Rested.{still_view, given_view}
use Rattle.quic_worked.specs.Blocked.{small_start}

-- ---- what is called, and answered

-- a write that finds a limit used up
abbrev pub in_vain : Answer
in_vain = answers.Write (Err write_errors.Blocked)

-- the client writes more than may come, and gives what it took; it writes in vain, and gives a
-- datagram; then it writes in vain four times more, and is asked for one
abbrev pub said_events : List RunEvent
said_events = opens_stream ∷ writes_on 0 sixteen ∷ asks_datagram ∷ writes_on 0 eight ∷ asks_datagram ∷ replicate 4 (writes_on 0 eight) ++ asks_datagram ∷ []

-- what that is answered, where so many bytes may come, and the datagram with them has this size
abbrev pub said_answers : ℕ → ℕ → List Answer
said_answers taken size =
    answers.Open (Some 0)
    ∷ answers.Write (Ok taken)
    ∷ gives_bytes size
    ∷ in_vain
    ∷ gives_bytes 29
    ∷ replicate 4 in_vain
    ++ gives_nothing
    ∷ []

-- ---- all data

-- what the first so many events leave, where the server takes eight bytes in all
unfoldable pub once_said : ℕ → World
unfolding client_acked
once_said n = ran_so_far worked_policies (small_start 8) said_events (said_answers 8 233) n

-- DATA_BLOCKED at 8 bytes, and padding
abbrev pub blocked_payload : List ℕ
blocked_payload = 0x14 ∷ 0x08 ∷ 0x00 ∷ []

-- the run
abbrev pub said_run : Run
said_run = record {
  keys = worked_policies;
  start = small_start 8;
  events = said_events;
  answers = said_answers 8 233;
  views = replicate 2 still_view ++ replicate 8 given_view;
  from_client = client_datagram 0 0 eight_payload ∷ client_datagram 1 0 blocked_payload ∷ [];
  from_server = [];
}

-- ---- a stream

-- what the first so many events leave, where the server takes five bytes on a stream
unfoldable pub once_said_on : ℕ → World
unfolding client_acked stream_limit_at
once_said_on n = ran_so_far worked_policies limited_start said_events (said_answers 5 230) n

-- the client's ids, and STREAM with a length and five bytes
abbrev pub five_payload : List ℕ
five_payload = told_ids ((0x0a ∷ 0x00 ∷ 0x05 ∷ []) ++ hello)

-- STREAM_DATA_BLOCKED of stream 0 at 5 bytes
abbrev pub blocked_on_payload : List ℕ
blocked_on_payload = 0x15 ∷ 0x00 ∷ 0x05 ∷ []

-- the run
abbrev pub said_on_run : Run
said_on_run = record {
  keys = worked_policies;
  start = limited_start;
  events = said_events;
  answers = said_answers 5 230;
  views = replicate 2 (record { client = open_view; server = open_view }) ++ replicate 8 (record { client = sent_view; server = open_view });
  from_client = client_datagram 0 0 five_payload ∷ client_datagram 1 0 blocked_on_payload ∷ [];
  from_server = [];
}

-- ---- what is seen of the writes in vain

-- the first of them
abbrev pub first_in_vain : Run → Seen
first_in_vain r = seen_at r (λ n. false) Client 3 (calls.Write 0 eight) in_vain

-- and the next, behind the datagram that says the limit
abbrev pub second_in_vain : Run → Seen
second_in_vain r = seen_at r (λ n. false) Client 5 (calls.Write 0 eight) in_vain

-- ---- machines that say it again

-- a world in which other frames wait at the client
abbrev pub waits_for : (Retransmits → Retransmits) → World → World
waits_for more w = with_client w (let e : End = w.client in record e { waiting = record e.waiting { frames = more e.waiting.frames } })

-- DATA_BLOCKED waits again behind the next write
abbrev pub says_again : World
says_again = waits_for (λ f. record f { data_blocked = true }) (once_said 6)

-- STREAM_DATA_BLOCKED does
abbrev pub says_again_on : World
says_again_on = waits_for (λ f. record f { stream_data_blocked = 0 ∷ [] }) (once_said_on 6)

-- the first six events, answered so, don't lead there from a start
abbrev pub NeverSays : World → List Answer → World → Type 0
NeverSays start told end = (views : List View) → Follows worked_policies start (take 6 said_events) (take 6 told) views end → ⊥
