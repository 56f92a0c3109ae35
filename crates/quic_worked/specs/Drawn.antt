-- A run in which the peer of a server retires an id, for which the server draws another one, of
-- words that count up; and a server that tells that with the token of those which it told before
-- (RFC 9000, sections 5.1.1 and 10.3.2).
use Rattle.std.specs.Prelude.{ℕ, ◌%◌, List, [], ◌∷◌, ◌++◌, replicate, None}
use Rattle.quic_packet.specs.Datagram.{sent}
use Rattle.quic_wire.specs.Value.{AckValue, NewConnectionIdValue, new_connection_id, ack}
use Rattle.quic_machine.specs.declared.answers.Received.TheVariants as receives
use Rattle.quic_machine.specs.declared.run.RunEvent.{RunEvent}
use Rattle.quic_machine.specs.declared.run.Answer.{Answer}
use Rattle.quic_machine.specs.declared.run.Answer.TheVariants as answers
use Rattle.quic_machine.specs.Policy.{Policy}
use Rattle.quic_machine.specs.Machine.{World, Policies, view_of}
use Rattle.quic_headline.specs.Runs.{Run}
use Rattle.quic_headline.specs.Observer.{Sent}
use Rattle.quic_worked.specs.Worked.{ran_so_far, worked_policies, both_steady, gives_unmarked, client_id, id_word, ids_payload}
use Rattle.quic_worked.specs.Acknowledged.{client_acked, ack_at_once, from_server}
use Rattle.quic_worked.specs.Paired.{asks_server}
use Rattle.quic_worked.specs.Reordered.{delivers_at}
use Rattle.quic_worked.specs.Known.{naming_events, naming_answers, is_used, naming_datagram}

-- words that count up to 255, and from 0 again
abbrev pub up_to_255 : ℕ → ℕ
up_to_255 n = n % 256

-- the keys of the worked run, with a server whose random source answers these
abbrev pub counting_policies : Policies
counting_policies = record worked_policies { server = (let p : Policy = worked_policies.server in record p { words = up_to_255 }) }

-- the server tells its ids, the client uses the next one and retires the first, and the server is
-- asked for a datagram once more
abbrev pub drawing_events : List RunEvent
drawing_events = naming_events ++ delivers_at 0 ∷ asks_server ∷ []

-- what that is answered
abbrev pub drawing_answers : List Answer
drawing_answers = naming_answers is_used ++ answers.Deliver receives.Taken ∷ gives_unmarked 59 ∷ []

-- what the first so many of these leave
unfoldable pub once_drawn : ℕ → World
unfolding client_acked
once_drawn n = ran_so_far counting_policies both_steady drawing_events drawing_answers n

-- a word below 256, in eight bytes
abbrev pub low_word : ℕ → List ℕ
low_word n = replicate 7 0x00 ++ n ∷ []

-- number 8, whose id is word 22, as 22 words were drawn as the server was made; with this token
abbrev pub eighth_with : List ℕ → NewConnectionIdValue
eighth_with token = record { sequence = 8; retire_prior_to = 0; id = low_word 22; token = token }

-- NEW_CONNECTION_ID with it, and an acknowledgement
abbrev pub eighth_payload : List ℕ → List ℕ
eighth_payload token = 0x18 ∷ 0x08 ∷ 0x00 ∷ 0x08 ∷ low_word 22 ++ token ++ ack_at_once

-- ACK of number 0 alone
abbrev pub zero_named : AckValue
zero_named = record { largest = 0; delay = 0; ranges = (0, 0) ∷ []; ecn = None }

-- the server's datagram as it was sent
abbrev pub eighth_sent : List ℕ → Sent
eighth_sent token = record { id = client_id; number = 1; reference = 0; frames = new_connection_id (eighth_with token) ∷ ack zero_named ∷ []; moment = 0; size = 59; generation = 0 }

-- the run, where number 8 has this token
abbrev pub tells_with : List ℕ → Run
tells_with token = record {
  keys = counting_policies;
  start = both_steady;
  events = drawing_events;
  answers = drawing_answers;
  views = view_of (once_drawn 1) ∷ view_of (once_drawn 2) ∷ view_of (once_drawn 3) ∷ view_of (once_drawn 4) ∷ view_of (once_drawn 5) ∷ view_of (once_drawn 6) ∷ [];
  from_client = naming_datagram ∷ [];
  from_server = from_server 0 ids_payload ∷ (let p : Policy = worked_policies.server in sent p.header p.packet 1 0 client_id (eighth_payload token)) ∷ [];
}

-- words 23 and 24
abbrev pub drawing_run : Run
drawing_run = tells_with (low_word 23 ++ low_word 24)

-- a server that tells the token of number 7 again
abbrev pub token_again : Run
token_again = tells_with (id_word ++ id_word)
