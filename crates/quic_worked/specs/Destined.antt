-- Runs of machines that take one id for another (RFC 9000, sections 5.1 and 5.2): a client sends
-- its datagram to its own id, and a server drops what was sent to the one with which it began.
use Rattle.std.specs.Prelude.{ℕ, List, [], ◌∷◌, take, None, Ok}
use Rattle.quic_packet.specs.Datagram.{sent}
use Rattle.quic_wire.specs.Items.{items}
use Rattle.quic_machine.specs.declared.answers.DropReason.TheVariants as drops
use Rattle.quic_machine.specs.declared.answers.Received.TheVariants as receives
use Rattle.quic_machine.specs.declared.run.ReadCall.{ReadCall}
use Rattle.quic_machine.specs.declared.run.Answer.{Answer}
use Rattle.quic_headline.specs.Runs.{Run, frames_of}
use Rattle.quic_headline.specs.Observer.{Sent}
use Rattle.quic_worked.specs.Worked.{worked_policies, client_id, hello_whole}
use Rattle.quic_worked.specs.Broken.{answers_with, sending_run}

-- the word as it goes to an id
abbrev pub word_to : List ℕ → List ℕ
word_to id = sent worked_policies.client.header worked_policies.client.packet 0 0 id hello_whole

-- the client's datagram as it was sent to an id
abbrev pub sent_to : List ℕ → Sent
sent_to id = record { id = id; number = 0; reference = 0; frames = frames_of (items hello_whole); moment = 0; size = 230; generation = 0 }

-- the client sends it to its own id
abbrev pub sent_to_itself : ReadCall → Run
sent_to_itself read = record (sending_run read) { from_client = word_to client_id ∷ [] }

-- the server drops both copies of what was sent to its id, as sent to none of its own
abbrev pub all_unknown : List Answer
all_unknown =
    let lost = receives.Dropped drops.UnknownId in
    take 7 (answers_with (Ok 5) (Ok tt) lost lost None [])
