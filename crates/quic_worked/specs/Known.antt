-- Runs in which an end asks for the next id of its peer (RFC 9000, section 5.1.2), and machines
-- that refuse one that is there, or forget an id that they told.
use Rattle.std.specs.Prelude.{ℕ, List, [], ◌∷◌, ◌++◌, replicate, take, Ok, Err}
use Rattle.quic_packet.specs.Datagram.{sent}
use Rattle.quic_machine.specs.declared.answers.NextIdError.TheVariants as next_errors
use Rattle.quic_machine.specs.declared.answers.Received.TheVariants as receives
use Rattle.quic_machine.specs.declared.run.RunEvent.{RunEvent}
use Rattle.quic_machine.specs.declared.run.Answer.{Answer}
use Rattle.quic_machine.specs.declared.run.Answer.TheVariants as answers
use Rattle.quic_machine.specs.End.{with_ids, with_frames}
use Rattle.quic_machine.specs.Machine.{World}
use Rattle.quic_headline.specs.Runs.{Run}
use Rattle.quic_headline.specs.Observer.{Sent}
use Rattle.quic_worked.specs.Worked.{after_event, ran_so_far, worked_policies, both_steady, with_client, with_server, asks_datagram, gives_bytes, open_view, sent_view, waiting_view, id_word, id_frames, ids_payload, told_ids, client_id}
use Rattle.quic_worked.specs.Acknowledged.{client_acked, from_server}
use Rattle.quic_worked.specs.Paired.{asks_server, client_hears}
use Rattle.quic_worked.specs.Renamed.{uses_next, retiring_payload, second_sent}

-- ---- the runs

-- the server tells its ids; the client takes them, asks for the next one, and gives a datagram
abbrev pub naming_events : List RunEvent
naming_events = asks_server ∷ client_hears ∷ uses_next ∷ asks_datagram ∷ []

-- what that is answered, where asking for the next id is answered so
abbrev pub naming_answers : Answer → List Answer
naming_answers a = gives_bytes 222 ∷ answers.Deliver receives.Taken ∷ a ∷ gives_bytes 229 ∷ []

-- the next id is used
abbrev pub is_used : Answer
is_used = answers.UseNextId (Ok tt)

-- there is none
abbrev pub has_none : Answer
has_none = answers.UseNextId (Err next_errors.NoId)

-- too many retirements would wait
abbrev pub has_too_many : Answer
has_too_many = answers.UseNextId (Err next_errors.TooManyPending)

-- what the first so many of these leave of two ends
unfoldable pub once_named : World → Answer → ℕ → World
unfolding client_acked
once_named w a n = ran_so_far worked_policies w naming_events (naming_answers a) n

-- the client's datagram, to the first of the ids that the server told: its own ids,
-- RETIRE_CONNECTION_ID of number 0, and an acknowledgement
abbrev pub naming_datagram : List ℕ
naming_datagram = sent worked_policies.client.header worked_policies.client.packet 0 0 id_word (told_ids retiring_payload)

-- as it was sent
abbrev pub naming_sent : Sent
naming_sent = record { id = id_word; number = 0; reference = 0; frames = id_frames ++ (second_sent id_word).frames; moment = 0; size = 229; generation = 0 }

-- the server's datagram as it was sent
abbrev pub telling_sent : Sent
telling_sent = record { id = client_id; number = 0; reference = 0; frames = id_frames; moment = 0; size = 222; generation = 0 }

-- the run from two ends
abbrev pub naming_run : World → Run
naming_run w = record {
  keys = worked_policies;
  start = w;
  events = naming_events;
  answers = naming_answers is_used;
  views =
      record { client = open_view; server = sent_view }
      ∷ replicate 2 (record { client = waiting_view; server = sent_view })
      ++ record { client = sent_view; server = sent_view }
      ∷ [];
  from_client = naming_datagram ∷ [];
  from_server = from_server 0 ids_payload ∷ [];
}

-- the run until the next id is asked for, which is answered so
abbrev pub asking_run : World → Answer → Run
asking_run w a = record (naming_run w) {
  events = take 3 naming_events;
  answers = take 3 (naming_answers a);
  views = take 3 (naming_run w).views;
  from_client = [];
}

-- the client asks for the next id before it was told of one
abbrev pub asking_early : Run
asking_early = record {
  keys = worked_policies;
  start = both_steady;
  events = uses_next ∷ [];
  answers = has_none ∷ [];
  views = record { client = open_view; server = open_view } ∷ [];
  from_client = [];
  from_server = [];
}

-- what that leaves
abbrev pub asked_early : World
asked_early = after_event worked_policies both_steady uses_next has_none

-- a client that uses an id which nobody told
abbrev pub made_up : Run
made_up = record asking_early { answers = is_used ∷ [] }

-- ---- ends that aren't new

-- eighty retirements wait at the client to be told
abbrev pub eighty_wait : World
eighty_wait = with_client both_steady (with_frames both_steady.client (record both_steady.client.waiting.frames { retire_cids = replicate 80 0 }))

-- the server knows its first id alone, and tells seven more
abbrev pub forgetful : World
forgetful = with_server both_steady (with_ids both_steady.server (record both_steady.server.ids { living = take 1 both_steady.server.ids.living }))
