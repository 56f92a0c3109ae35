-- A run in which the second of two datagrams comes first, and the server reads what has come in no
-- order.
use Rattle.std.specs.Prelude.{ℕ, false, List, [], ◌∷◌, ◌++◌, Some, Ok}
use Rattle.quic_machine.specs.declared.answers.Received.TheVariants as receives
use Rattle.quic_machine.specs.declared.run.ReadCall.{ReadCall}
use Rattle.quic_machine.specs.declared.run.Answer.{Answer}
use Rattle.quic_machine.specs.declared.run.Answer.TheVariants as answers
use Rattle.quic_machine.specs.Calls.{after_reads}
use Rattle.quic_machine.specs.End.{End, streams_at, with_streams}
use Rattle.quic_machine.specs.Machine.{World}
use Rattle.quic_headline.specs.Runs.{Run}
use Rattle.quic_worked.specs.Worked.{ReadsAs, NextAnswers, worked_policies, with_server, after_event}
use Rattle.quic_worked.specs.Reordered.{abc, def, both_answers, second_taken, second_accepted, delivers_at, blocked_nexts, reordered_run}

-- two chunks of at most 32 bytes each
abbrev pub picked_bounds : List ℕ
picked_bounds = 32 ∷ 32 ∷ []

-- a read of stream 0 asks for these in no order
abbrev pub Picks : ReadCall → Type 0
Picks read = ReadsAs 0 false picked_bounds read

-- a read that gives these bytes at an offset, and then nothing
abbrev pub picks_at : ℕ → List ℕ → NextAnswers
picks_at offset bytes = Ok (Some (record { offset = offset; bytes = bytes })) ∷ blocked_nexts

-- the answers, with these to both reads
abbrev pub picked_with : NextAnswers → NextAnswers → List Answer
picked_with first second =
    both_answers
    ++ answers.Deliver receives.Taken
    ∷ answers.Accept (Some 0)
    ∷ answers.Read (Ok first)
    ∷ answers.Deliver receives.Taken
    ∷ answers.Read (Ok second)
    ∷ []

-- the run with these answers
abbrev pub picked_as : NextAnswers → NextAnswers → ReadCall → ReadCall → Run
picked_as said later first second = record (reordered_run first second) { answers = picked_with said later }

-- the run: the bytes that came first are read first
abbrev pub picked_run : ReadCall → ReadCall → Run
picked_run = picked_as (picks_at 3 def) (picks_at 0 abc)

-- ---- what its events leave

-- the end, where a read in no order was answered so
abbrev pub after_picks : End → NextAnswers → End
after_picks e nexts = with_streams e (after_reads (streams_at e) 0 false picked_bounds nexts)

-- what came is read
abbrev pub picked_once : World
picked_once = with_server second_accepted (after_picks second_accepted.server (picks_at 3 def))

-- what lacked has come
unfoldable pub picked_taken : World
unfolding second_taken
picked_taken = after_event worked_policies picked_once (delivers_at 0) (answers.Deliver receives.Taken)

-- and is read
abbrev pub picked_twice : World
picked_twice = with_server picked_taken (after_picks picked_taken.server (picks_at 0 abc))

-- ---- machines that go wrong there

-- what was read once is given again, behind the bytes before it
abbrev pub again_nexts : NextAnswers
again_nexts = Ok (Some (record { offset = 0; bytes = abc })) ∷ Ok (Some (record { offset = 3; bytes = def })) ∷ []

-- its run
abbrev pub picked_again : ReadCall → ReadCall → Run
picked_again = picked_as (picks_at 3 def) again_nexts

-- nothing is given, although the bytes at offset 3 came
abbrev pub never_picked : ReadCall → ReadCall → Run
never_picked = picked_as blocked_nexts (picks_at 0 abc)
