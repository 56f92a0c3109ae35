-- A server whose peer's address isn't validated, and that doesn't ask its peer: it gives a datagram
-- without PATH_CHALLENGE, or nothing (RFC 9000, section 8.2.1).
use Rattle.std.specs.Prelude.{ℕ, List, [], ◌∷◌, ◌++◌, replicate, take, Some, None}
use Rattle.quic_wire.specs.Value.{padding}
use Rattle.quic_machine.specs.declared.run.View.{View}
use Rattle.quic_headline.specs.Runs.{Run}
use Rattle.quic_headline.specs.Observer.{Sent}
use Rattle.quic_worked.specs.Worked.{client_id, sent_view, told_ids, behind_ids}
use Rattle.quic_worked.specs.Acknowledged.{ack_at_once, from_server}
use Rattle.quic_worked.specs.Held.{gives_nothing}
use Rattle.quic_worked.specs.Unvalidated.{far_answers, far_view, far_run}
use Rattle.quic_worked.specs.Questioned.{acks_first}

-- the server's ids, an acknowledgement, and PADDING up to 1200 bytes in all
abbrev pub unasking_payload : List ℕ
unasking_payload = told_ids (ack_at_once ++ replicate 973 0x00)

-- a server that gives that, and PATH_CHALLENGE not
abbrev pub unasking_run : Run
unasking_run = record far_run { from_server = from_server 0 unasking_payload ∷ [] }

abbrev pub unasking_sent : Sent
unasking_sent = record { id = client_id; number = 0; reference = 0; frames = behind_ids (acks_first ∷ replicate 973 padding); moment = 0; size = 1200; generation = 0 }

-- one that gives nothing, though 1200 bytes came
abbrev pub mute_view : View
mute_view = record { client = sent_view; server = far_view None (Some 25000000) }

abbrev pub mute_run : Run
mute_run = record far_run { answers = take 4 far_answers ++ gives_nothing ∷ []; views = take 4 far_run.views ++ mute_view ∷ []; from_server = [] }
