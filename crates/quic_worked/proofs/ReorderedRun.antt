-- The run in which the second datagram comes first, event by event.
use Rattle.std.proofs.Common.{◌≡◌, List, [], ◌∷◌, ◌++◌, take, drop, Some, Ok, Err, true, refl, inl}
use Rattle.quic_wire_core.specs.declared.stream_id.Side.TheVariants.{Server}
use Rattle.quic_streams_parts.specs.declared.answers.ReadError.TheVariants as read_errors
use Rattle.quic_machine.specs.declared.answers.Received.TheVariants as receives
use Rattle.quic_machine.specs.declared.run.ReadCall.{ReadCall}
use Rattle.quic_machine.specs.declared.run.RunEvent.{RunEvent}
use Rattle.quic_machine.specs.declared.run.Answer.{Answer}
use Rattle.quic_machine.specs.declared.run.Answer.TheVariants as answers
use Rattle.quic_machine.specs.declared.run.View.{View}
use Rattle.quic_machine.specs.Machine.{World, IsStep, Follows, view_of}
use Rattle.quic_worked.specs.Worked.{with_server, ReadsBy, once_taken, worked_policies, started, ran, opens_stream, asks_datagram, accepts_stream, gives_bytes, sent_view, server_open, server_waiting}
use Rattle.quic_headline.specs.Observer.{took}
use Rattle.quic_headline.specs.Headline.{IsRun}
use Rattle.quic_worked.proofs.Steps.{others_so, counts_so, same_server, counts_ran}
use Rattle.quic_worked.proofs.WorkedRun.{ReadsSo, reads_at}
use Rattle.quic_worked.proofs.Codes.{no_codes}
use Rattle.quic_worked.proofs.Unread.{stays}
use Rattle.quic_worked.proofs.Unread as unread
use Rattle.quic_worked.specs.Reordered.{abc, def, abc_datagram, def_datagram, writes_bytes, delivers_at, both_events, both_answers, blocked_nexts, both_nexts, first_sent, second_written, both_sent, second_taken, second_accepted, both_taken, both_read, reordered_events, reordered_answers, reordered_views, reordered_packets, reordered_run}

-- ---- the events

-- the stream is open
abbrev pub opened : World
opened = ran worked_policies started (opens_stream ∷ []) (answers.Open (Some 0) ∷ [])

-- the first bytes are written
abbrev pub first_written : World
first_written = ran worked_policies opened (writes_bytes abc ∷ []) (answers.Write (Ok 3) ∷ [])

pub opens : IsStep worked_policies started opens_stream (answers.Open (Some 0)) opened
opens = record { answer = refl; end = refl; control = refl; heard = counts_so worked_policies started opens_stream (answers.Open (Some 0)); openings = tt; others = refl; lacking = tt }

pub writes_abc : IsStep worked_policies opened (writes_bytes abc) (answers.Write (Ok 3)) first_written
writes_abc = record { answer = inl refl; end = refl; control = refl; heard = counts_so worked_policies opened (writes_bytes abc) (answers.Write (Ok 3)); openings = tt; others = refl; lacking = λ lacks. cc }

pub gives_abc : IsStep worked_policies first_written asks_datagram (gives_bytes 228) first_sent
unfolding first_sent
gives_abc = record { answer = inl refl; end = refl; control = refl; heard = counts_so worked_policies first_written asks_datagram (gives_bytes 228); openings = tt; others = refl; lacking = tt }

pub writes_def : IsStep worked_policies first_sent (writes_bytes def) (answers.Write (Ok 3)) second_written
unfolding first_sent
writes_def = record { answer = inl refl; end = refl; control = refl; heard = counts_ran worked_policies first_sent (writes_bytes def) (answers.Write (Ok 3)); openings = tt; others = others_so worked_policies first_sent (writes_bytes def) (answers.Write (Ok 3)); lacking = λ lacks. cc }

pub gives_def : IsStep worked_policies second_written asks_datagram (gives_bytes 33) both_sent
unfolding both_sent
gives_def = record { answer = inl refl; end = refl; control = refl; heard = counts_so worked_policies second_written asks_datagram (gives_bytes 33); openings = tt; others = refl; lacking = tt }

pub takes_def : IsStep worked_policies both_sent (delivers_at 1) (answers.Deliver receives.Taken) second_taken
unfolding second_taken
takes_def = record { answer = inl refl; end = refl; control = refl; heard = counts_so worked_policies both_sent (delivers_at 1) (answers.Deliver receives.Taken); openings = tt; others = refl; lacking = tt }

pub accepts : IsStep worked_policies second_taken accepts_stream (answers.Accept (Some 0)) second_accepted
unfolding second_taken
accepts = record { answer = refl; end = refl; control = refl; heard = counts_ran worked_policies second_taken accepts_stream (answers.Accept (Some 0)); openings = tt; others = others_so worked_policies second_taken accepts_stream (answers.Accept (Some 0)); lacking = tt }

takes_abc : IsStep worked_policies second_accepted (delivers_at 0) (answers.Deliver receives.Taken) both_taken
unfolding both_taken
takes_abc = record { answer = inl refl; end = refl; control = refl; heard = counts_so worked_policies second_accepted (delivers_at 0) (answers.Deliver receives.Taken); openings = tt; others = refl; lacking = tt }

-- ---- the reads

-- no limit grew
nothing_grew : unread.NothingGrew second_accepted.server.streams 0
unfolding second_taken
nothing_grew = record { bytes = refl; two_way = refl; one_way = refl; stream = refl }

-- nothing is given before the first bytes come
blocked : ReadsSo second_accepted 0 true (32 ∷ []) blocked_nexts second_accepted.server
unfolding second_taken
blocked = record { answer = (refl, (inl refl, tt)); lacking = (λ lacks. cc, tt); end = stays second_accepted.server 0 32 (Err read_errors.Blocked) (λ o s. unread.blocked o s 0 32) nothing_grew }

blocks_only : second_accepted ≡ with_server second_accepted second_accepted.server
blocks_only = same_server second_accepted

-- then all is given in order
gives_all : ReadsSo both_taken 0 true (32 ∷ 32 ∷ 32 ∷ []) both_nexts both_read.server
unfolding both_taken
gives_all = record { answer = (refl, (inl refl, (inl refl, (inl refl, tt)))); lacking = (λ lacks. cc, (λ lacks. cc, (λ lacks. cc, tt))); end = refl }

reads_only : both_read ≡ with_server both_taken both_read.server
reads_only = refl

-- ---- what is seen

-- the client waits for an acknowledgement, and the server for nothing yet
abbrev pub one_waits : View
one_waits = record { client = sent_view; server = server_open }

-- or the server waits to give one
abbrev pub both_wait : View
both_wait = record { client = sent_view; server = server_waiting }

pub sees_first : one_waits ≡ view_of first_sent
unfolding first_sent
sees_first = refl

pub sees_second : one_waits ≡ view_of second_written
unfolding first_sent
sees_second = refl

pub sees_both : one_waits ≡ view_of both_sent
unfolding both_sent
sees_both = refl

sees_taken : both_wait ≡ view_of second_taken
unfolding second_taken
sees_taken = refl

sees_accepted : both_wait ≡ view_of second_accepted
unfolding second_taken
sees_accepted = refl

sees_all : both_wait ≡ view_of both_taken
unfolding both_taken
sees_all = refl

sees_read : both_wait ≡ view_of both_read
unfolding both_taken
sees_read = refl

-- ---- the run

-- the events until the stream is accepted, their answers, and what is seen
abbrev pub front_events : List RunEvent
front_events = both_events ++ delivers_at 1 ∷ accepts_stream ∷ []

abbrev pub front_answers : List Answer
front_answers = both_answers ++ answers.Deliver receives.Taken ∷ answers.Accept (Some 0) ∷ []

abbrev pub front_views : List View
front_views = take 7 reordered_views

-- what the machine does behind them
pub until_accepted : (events : List RunEvent) (told : List Answer) (views : List View) (end : World)
    → Follows worked_policies second_accepted events told views end → Follows worked_policies started (front_events ++ events) (front_answers ++ told) (front_views ++ views) end
until_accepted events told views end rest = (
  opened,
  opens,
  refl,
  (
    first_written,
    writes_abc,
    refl,
    (
      first_sent,
      gives_abc,
      sees_first,
      (
        second_written,
        writes_def,
        sees_second,
        (both_sent, gives_def, sees_both, (second_taken, takes_def, sees_taken, (second_accepted, accepts, sees_accepted, rest))),
      ),
    ),
  ),
)

follows : (first second : ReadCall) → ReadsBy (32 ∷ []) first → ReadsBy (32 ∷ 32 ∷ 32 ∷ []) second
    → Follows worked_policies started (reordered_events first second) reordered_answers reordered_views both_read
follows first second one three = until_accepted (drop 7 (reordered_events first second)) (drop 7 reordered_answers) (drop 7 reordered_views) both_read (
  second_accepted,
  reads_at second_accepted second_accepted 0 true (32 ∷ []) blocked_nexts blocked blocks_only first one,
  sees_accepted,
  (both_taken, takes_abc, sees_all, (both_read, reads_at both_taken both_read 0 true (32 ∷ 32 ∷ 32 ∷ []) both_nexts gives_all reads_only second three, sees_read, refl)),
)

-- the client gave both datagrams, and the server none
gave_both : abc_datagram ∷ def_datagram ∷ [] ≡ both_read.from_client
unfolding both_taken
gave_both = refl

gave_none : [] ≡ both_read.from_server
unfolding both_taken
gave_none = refl

pub is_run : (first second : ReadCall) → ReadsBy (32 ∷ []) first → ReadsBy (32 ∷ 32 ∷ 32 ∷ []) second
    → IsRun (reordered_run first second) both_read
is_run first second one three = record { codes = no_codes (reordered_run first second).events refl; follows = follows first second one three; from_client = gave_both; from_server = gave_none }

-- ---- what came

pub took_both : (first second : ReadCall) → took (reordered_run first second) Server 10 ≡ reordered_packets
unfolding once_taken
took_both first second = refl
