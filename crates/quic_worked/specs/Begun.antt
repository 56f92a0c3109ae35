-- Ends at which something waits without a cause: MAX_DATA and bytes behind the poll that gave them,
-- MAX_DATA and MAX_STREAM_DATA behind a read of few bytes, PING behind a timeout, and an ACK frame
-- though no packet came; and behind a call that asks for PING PATH_CHALLENGE, PATH_RESPONSE,
-- NEW_CONNECTION_ID, RETIRE_CONNECTION_ID and HANDSHAKE_DONE. They are those of the run in which a
-- limit is lost and goes again, but for that. And a client that asks again whether its peer
-- receives, at a timeout before the moment for that; servers that issue two ids for one that is
-- retired, or tell an id twice; and clients that retire another id of the peer than that which they
-- used, where they use the next one, or one as it comes.
use Rattle.std.specs.Prelude.{ℕ, false, true, List, [], ◌∷◌, ◌++◌, take, Some, None, Ok}
use Rattle.quic_machine.specs.declared.run.ReadCall.{ReadCall}
use Rattle.quic_machine.specs.declared.run.Call.TheVariants as calls
use Rattle.quic_machine.specs.declared.run.Answer.TheVariants as answers
use Rattle.quic_machine.specs.declared.answers.Received.TheVariants as receives
use Rattle.quic_machine.specs.End.{End, with_signals, with_ping}
use Rattle.quic_machine.specs.Parts.{Signals}
use Rattle.quic_retransmits.specs.Retransmits.{Retransmits}
use Rattle.quic_machine.specs.Timeouts.{timed_out}
use Rattle.quic_machine.specs.declared.run.View.{View}
use Rattle.quic_wire_core.specs.declared.shared.IssuedCid.{IssuedCid}
use Rattle.quic_machine.specs.Machine.{World, Follows}
use Rattle.quic_wire_core.specs.declared.stream_id.Side.TheVariants.{Client, Server}
use Rattle.quic_headline.specs.Runs.{Run}
use Rattle.quic_headline.specs.Begins.{Seen, seen_at}
use Rattle.quic_worked.specs.Worked.{started, worked_events, worked_answers, worked_run, once_read, all_nexts, with_client, with_server, sent_view, worked_policies, both_steady, delivery, gives_bytes, id_word, issued}
use Rattle.quic_worked.specs.Credit.{eight_nexts, credit_written, credit_sent, credit_read, credit_given}
use Rattle.quic_worked.specs.Renamed.{renaming_events, renaming_answers, once_renamed, retiring_payload, renaming_run}
use Rattle.quic_worked.specs.Reordered.{delivers_at}
use Rattle.quic_packet.specs.Datagram.{sent}
use Rattle.quic_worked.specs.Unvalidated.{far_run, far_events, far_answers, far_view, once_far, answered_run}
use Rattle.quic_worked.specs.Raised.{raised_run, after_server_ping, third_due}

-- ---- what is seen of calls of that run

-- the client is polled, and gives the bytes that it wrote
abbrev pub sending_seen : ReadCall → Seen
sending_seen read = seen_at (raised_run read) (λ n. false) Client 2 (calls.Poll 0) (gives_bytes 233)

-- the server reads all that came
abbrev pub reading_seen : ReadCall → Seen
reading_seen read = seen_at (raised_run read) (λ n. false) Server 5 (calls.Read read) (answers.Read (Ok eight_nexts))

-- a server reads a word of five bytes, where far more may come
abbrev pub word_seen : ReadCall → Seen
word_seen read = seen_at (worked_run read) (λ n. false) Server 7 (calls.Read read) (answers.Read (Ok all_nexts))

-- it is polled, and says that more may come
abbrev pub raising_seen : ReadCall → Seen
raising_seen read = seen_at (raised_run read) (λ n. false) Server 6 (calls.Poll 0) (gives_bytes 229)

-- it is asked for PING
abbrev pub pinging_seen : ReadCall → Seen
pinging_seen read = seen_at (raised_run read) (λ n. false) Server 7 calls.Ping answers.Ping

-- 25 ms pass at the client
abbrev pub waiting_seen : ReadCall → Seen
waiting_seen read = seen_at (raised_run read) (λ n. false) Client 14 (calls.Timeout 25000000) (answers.Timeout (Ok tt))

-- its acknowledgement comes to the server, at which the datagram with the limit is lost
abbrev pub losing_seen : ReadCall → Seen
losing_seen read = seen_at (raised_run read) (λ n. false) Server 16 (calls.Deliver (record { now = 25000000; remote = 0; ecn = None; index = 1 })) (answers.Deliver receives.Taken)

-- the client takes the datagram in which the server asks it to answer
abbrev pub challenged_seen : Seen
challenged_seen = seen_at answered_run (λ n. false) Client 5 (calls.Deliver delivery) (answers.Deliver receives.Taken)

-- the client takes the datagram that brings ids of its peer
abbrev pub bringing_seen : Seen
bringing_seen = seen_at renaming_run (λ n. false) Client 2 (calls.Deliver delivery) (answers.Deliver receives.Taken)

-- the client uses the next id of its peer
abbrev pub using_seen : Seen
using_seen = seen_at renaming_run (λ n. false) Client 3 calls.UseNextId (answers.UseNextId (Ok tt))

-- the server takes the datagram that says that its first id is retired
abbrev pub retired_seen : Seen
retired_seen = seen_at renaming_run (λ n. false) Server 5 (calls.Deliver (record { now = 0; remote = 0; ecn = None; index = 1 })) (answers.Deliver receives.Taken)

-- the server, whose peer didn't answer for 3072 ms
abbrev pub unanswered_server : End
unanswered_server = (timed_out worked_policies.server (once_far 5).server 3072000000).end

-- the run in which it asked, and this much time passes then
abbrev pub unanswered_run : ℕ → Run
unanswered_run now = record far_run {
  events = far_events ++ record { side = Server; call = calls.Timeout now } ∷ [];
  answers = far_answers ++ answers.Timeout (Ok tt) ∷ [];
  views = far_run.views ++ record { client = sent_view; server = far_view (Some 1024000000) None } ∷ [];
}

-- what is seen of that call
abbrev pub unanswered_seen : ℕ → Seen
unanswered_seen now = seen_at (unanswered_run now) (λ n. false) Server 5 (calls.Timeout now) (answers.Timeout (Ok tt))

-- the client says once more that this id is retired, in its third datagram, which comes to the
-- server, too
abbrev pub repeating_run : Run
repeating_run = record renaming_run {
  events = take 6 renaming_events ++ delivers_at 2 ∷ [];
  answers = take 6 renaming_answers ++ answers.Deliver receives.Taken ∷ [];
  from_client = renaming_run.from_client ++ sent worked_policies.client.header worked_policies.client.packet 2 0 id_word retiring_payload ∷ [];
}

-- the server takes that
abbrev pub repeated_seen : Seen
repeated_seen = seen_at repeating_run (λ n. false) Server 6 (calls.Deliver (record { now = 0; remote = 0; ecn = None; index = 2 })) (answers.Deliver receives.Taken)

-- ---- machines that make something wait at each call

-- MAX_DATA waits again behind the poll that said it
abbrev pub limit_at_each_poll : World
limit_at_each_poll = with_server credit_given (let e : End = credit_given.server in record e { waiting = record e.waiting { frames = record e.waiting.frames { max_data = true } } })

-- MAX_STREAM_DATA waits behind a read of eight bytes, though 1250000 may come of the stream
abbrev pub limit_at_each_read : World
limit_at_each_read = with_server credit_read (let e : End = credit_read.server in record e { waiting = record e.waiting { frames = record e.waiting.frames { max_stream_data = 0 ∷ [] } } })

-- MAX_DATA waits behind a read of five bytes, though far more may come of all streams
abbrev pub all_at_each_read : World
all_at_each_read = with_server once_read (let e : End = once_read.server in record e { waiting = record e.waiting { frames = record e.waiting.frames { max_data = true } } })

-- an ACK frame is due behind a call that asks for PING
abbrev pub ack_at_each_call : World
ack_at_each_call = let w : World = after_server_ping credit_given in with_server w (let e : End = w.server in record e { acknowledging = record e.acknowledging { due = true } })

-- PING waits behind a timeout
abbrev pub ping_at_each_timeout : World
ping_at_each_timeout = with_client third_due (with_ping third_due.client true)

-- PATH_CHALLENGE waits behind a timeout, at a client whose peer's address is validated
abbrev pub challenge_at_each_timeout : World
challenge_at_each_timeout = with_client third_due (let e : End = third_due.client in with_signals e (record e.waiting.signals { challenge = Some 63 }))

-- it waits behind one that comes too early, at a server whose peer didn't answer yet
abbrev pub early_challenge : End
early_challenge = let e : End = (once_far 5).server in with_signals e (record e.waiting.signals { challenge = Some 63 })

-- bytes wait again behind the poll that gave them
abbrev pub bytes_at_each_poll : World
bytes_at_each_poll = with_client credit_sent (record credit_sent.client { streams = credit_written.client.streams })

-- the server behind the call that asks for PING, with these signals
abbrev pub signalling : (Signals → Signals) → World
signalling more = let w : World = after_server_ping credit_given in with_server w (let e : End = w.server in with_signals e (more e.waiting.signals))

-- and with these frames that wait
abbrev pub telling : (Retransmits → Retransmits) → World
telling more = let w : World = after_server_ping credit_given in with_server w (let e : End = w.server in record e { waiting = record e.waiting { frames = more e.waiting.frames } })

-- PATH_CHALLENGE waits
abbrev pub challenge_at_each_call : World
challenge_at_each_call = signalling (λ s. record s { challenge = Some 63 })

-- PATH_RESPONSE does
abbrev pub response_at_each_call : World
response_at_each_call = signalling (λ s. record s { response = Some (record { packet = 0; token = 63 }) })

-- the first of the server's ids is to be told again
abbrev pub id_at_each_call : World
id_at_each_call = telling (λ f. record f { new_cids = issued 1 ∷ [] })

-- HANDSHAKE_DONE waits, though nobody said that the handshake is done
abbrev pub done_at_each_call : World
done_at_each_call = telling (λ f. record f { handshake_done = true })

-- the first of the client's ids is retired
abbrev pub retirement_at_each_call : World
retirement_at_each_call = telling (λ f. record f { retire_cids = 0 ∷ [] })

-- the server, whose peer retired an id, is to tell these
abbrev pub telling_ids : List IssuedCid → World
telling_ids ids = let w : World = once_renamed 6 in with_server w (let e : End = w.server in record e { waiting = record e.waiting { frames = record e.waiting.frames { new_cids = ids } } })

-- two more, for one that is retired
abbrev pub issues_two : World
issues_two = telling_ids (issued 8 ∷ issued 9 ∷ [])

-- one more, and one that it told before
abbrev pub tells_again : World
tells_again = telling_ids (issued 8 ∷ issued 1 ∷ [])

-- the client that uses the next id of its peer retires that one, beside the one that it used
abbrev pub retires_the_next : World
retires_the_next = let w : World = once_renamed 4 in with_client w (let e : End = w.client in record e { waiting = record e.waiting { frames = record e.waiting.frames { retire_cids = 0 ∷ 1 ∷ [] } } })

-- the client retires an id of its peer as it comes
abbrev pub retires_at_once : World
retires_at_once = let w : World = once_renamed 3 in with_client w (let e : End = w.client in record e { waiting = record e.waiting { frames = record e.waiting.frames { retire_cids = 1 ∷ [] } } })

-- the events up to the retirement lead to no such end
abbrev pub NeverRetired : World → Type 0
NeverRetired end = (views : List View) → Follows worked_policies both_steady (take 6 renaming_events) (take 6 renaming_answers) views end → ⊥

-- the first events lead to no such end
abbrev pub NeverBrought : World → Type 0
NeverBrought end = (views : List View) → Follows worked_policies both_steady (take 3 renaming_events) (take 3 renaming_answers) views end → ⊥

-- the events with the read of the word lead to no such end
abbrev pub NeverRead : ReadCall → World → Type 0
NeverRead read end = (views : List View) → Follows worked_policies started (worked_events read) worked_answers views end → ⊥

-- the events up to there lead to no such end
abbrev pub NeverRenamed : World → Type 0
NeverRenamed end = (views : List View) → Follows worked_policies both_steady (take 4 renaming_events) (take 4 renaming_answers) views end → ⊥
