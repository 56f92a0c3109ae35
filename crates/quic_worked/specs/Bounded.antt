-- The run in which each limit binds, and what the server let come in it: its windows past what was
-- read. And machines that let more come: what was read counts twice there, on all data or on its
-- stream (RFC 9000, sections 4.1, 19.9 and 19.10).
use Rattle.std.specs.Prelude.{ℕ, List, [], ◌∷◌, ◌++◌, take}
use Rattle.quic_machine.specs.declared.run.ReadCall.{ReadCall}
use Rattle.quic_headline.specs.Runs.{Run}
use Rattle.quic_worked.specs.Acknowledged.{from_server, ack_at_once}
use Rattle.quic_worked.specs.Credit.{count_events, count_answers, count_payload, views_of_credit, count_run}
use Rattle.quic_worked.specs.Limited.{limited_events, limited_answers, limited_views, limited_run}
use Rattle.quic_worked.specs.Worked.{told_ids}

-- MAX_DATA of as many bytes, MAX_STREAM_DATA of as many on the first stream, the ids, and an
-- acknowledgement
abbrev pub lets_come : ℕ → ℕ → List ℕ
lets_come all own = 0x10 ∷ all ∷ 0x11 ∷ 0x00 ∷ own ∷ told_ids ack_at_once

-- the run up to the server's datagram, which lets as many come
abbrev pub letting : ℕ → ℕ → ReadCall → Run
letting all own read = record (limited_run read) {
  events = take 10 (limited_events read);
  answers = take 10 limited_answers;
  views = take 10 limited_views;
  from_server = from_server 0 (lets_come all own) ∷ [];
}

-- the five bytes that were read count twice past the eight of the window
abbrev pub twice_for_all : ReadCall → Run
twice_for_all = letting 18 10

-- and past the five of the window of their stream
abbrev pub twice_on_one : ReadCall → Run
twice_on_one = letting 13 15

-- ---- counts

-- what a server tells that takes one one-way stream
abbrev pub one_way_parameters : List ℕ
one_way_parameters =
    (0x04 ∷ 0x08 ∷ 0xff ∷ 0xff ∷ 0xff ∷ 0xff ∷ 0xff ∷ 0xff ∷ 0xff ∷ 0xff ∷ [])
    ++ (0x05 ∷ 0x04 ∷ 0x80 ∷ 0x13 ∷ 0x12 ∷ 0xd0 ∷ [])
    ++ (0x06 ∷ 0x04 ∷ 0x80 ∷ 0x13 ∷ 0x12 ∷ 0xd0 ∷ [])
    ++ (0x07 ∷ 0x04 ∷ 0x80 ∷ 0x13 ∷ 0x12 ∷ 0xd0 ∷ [])
    ++ (0x08 ∷ 0x02 ∷ 0x40 ∷ 0x64 ∷ [])
    ++ (0x09 ∷ 0x01 ∷ 0x01 ∷ [])
    ++ (0x0e ∷ 0x01 ∷ 0x08 ∷ [])
    ++ (0x20 ∷ 0x04 ∷ 0x80 ∷ 0x00 ∷ 0xff ∷ 0xff ∷ [])

-- the run of a count up to the server's datagram, which says as many
abbrev pub counting : ℕ → ReadCall → Run
counting count read = record (count_run read) {
  events = take 9 (count_events read);
  answers = take 9 count_answers;
  views = take 9 (views_of_credit 4);
  from_server = from_server 0 (count_payload count) ∷ [];
}

-- the stream that is done counts twice past the one that may be open
abbrev pub twice_done : ReadCall → Run
twice_done = counting 3
