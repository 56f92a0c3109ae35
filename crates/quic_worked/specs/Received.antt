-- A run in which four messages come at once to a server that keeps three such, and machines that
-- give its application others, or none.
use Rattle.std.specs.Prelude.{ℕ, true, List, [], ◌∷◌, ◌++◌, replicate, Option, Some, None}
use Rattle.quic_wire_core.specs.declared.stream_id.Side.TheVariants.{Client, Server}
use Rattle.quic_config.specs.Transport.{Settings, parameters_of}
use Rattle.quic_machine.specs.declared.answers.Received.TheVariants as receives
use Rattle.quic_machine.specs.declared.run.RunEvent.{RunEvent}
use Rattle.quic_machine.specs.declared.run.Answer.{Answer}
use Rattle.quic_machine.specs.declared.run.Answer.TheVariants as answers
use Rattle.quic_machine.specs.End.{new_end}
use Rattle.quic_machine.specs.Machine.{World}
use Rattle.quic_headline.specs.Runs.{Run}
use Rattle.quic_worked.specs.Settings.{plain_settings}
use Rattle.quic_worked.specs.Worked.{after_event, ran_so_far, worked_policies, steady, client_id, server_id, once_taken, asks_datagram, delivers, gives_bytes, told_ids, both_steady}
use Rattle.quic_worked.specs.Acknowledged.{client_datagram}
use Rattle.quic_worked.specs.Messages.{sends_message, server_reads, is_sent, both_seen}

-- settings by which messages of 14 bytes in all wait to be received
abbrev pub crowded_settings : Settings
crowded_settings = record plain_settings { datagram_receive_buffer_size = Some 14 }

-- both ends, before anything was given: the server has these
abbrev pub crowded_start : World
crowded_start = record both_steady {
  client = new_end Client plain_settings steady (parameters_of crowded_settings) client_id server_id 0 0 true (λ n. 63);
  server = new_end Server crowded_settings steady (parameters_of plain_settings) server_id client_id 0 0 true (λ n. 63);
}

-- a message of four times this byte
abbrev pub four_of : ℕ → List ℕ
four_of b = replicate 4 b

-- the client sends four of them, which go in one datagram; it comes, and the server's application
-- reads four times
abbrev pub crowded_events : List RunEvent
crowded_events =
    sends_message (four_of 0x61)
    ∷ sends_message (four_of 0x62)
    ∷ sends_message (four_of 0x63)
    ∷ sends_message (four_of 0x64)
    ∷ asks_datagram
    ∷ delivers
    ∷ replicate 4 server_reads

-- what that is answered, where these are read
abbrev pub crowded_answers : Option (List ℕ) → Option (List ℕ) → Option (List ℕ) → Option (List ℕ) → List Answer
crowded_answers first second third fourth =
    replicate 4 is_sent
    ++ gives_bytes 246
    ∷ answers.Deliver receives.Taken
    ∷ answers.Recv first
    ∷ answers.Recv second
    ∷ answers.Recv third
    ∷ answers.Recv fourth
    ∷ []

-- the latest three are, in their order
abbrev pub latest_three : List Answer
latest_three = crowded_answers (Some (four_of 0x62)) (Some (four_of 0x63)) (Some (four_of 0x64)) None

-- what the first so many of these leave, up to the sixth
unfoldable pub once_crowded : ℕ → World
unfolding once_taken
once_crowded n = ran_so_far worked_policies crowded_start crowded_events latest_three n

-- the first is received
abbrev pub one_received : World
one_received = after_event worked_policies (once_crowded 6) server_reads (answers.Recv (Some (four_of 0x62)))

-- and the next
abbrev pub two_received : World
two_received = after_event worked_policies one_received server_reads (answers.Recv (Some (four_of 0x63)))

-- and the last
abbrev pub three_received : World
three_received = after_event worked_policies two_received server_reads (answers.Recv (Some (four_of 0x64)))

-- and no other
abbrev pub crowded_end : World
crowded_end = after_event worked_policies three_received server_reads (answers.Recv None)

-- the four frames, with their lengths
abbrev pub crowded_payload : List ℕ
crowded_payload = (0x31 ∷ 0x04 ∷ four_of 0x61) ++ (0x31 ∷ 0x04 ∷ four_of 0x62) ++ (0x31 ∷ 0x04 ∷ four_of 0x63) ++ 0x31 ∷ 0x04 ∷ four_of 0x64

-- the run in which these are read
abbrev pub crowded_with : Option (List ℕ) → Option (List ℕ) → Option (List ℕ) → Option (List ℕ) → Run
crowded_with first second third fourth = record {
  keys = worked_policies;
  start = crowded_start;
  events = crowded_events;
  answers = crowded_answers first second third fourth;
  views = replicate 4 (both_seen None None None None) ++ both_seen (Some 1024000000) None None None ∷ replicate 5 (both_seen (Some 1024000000) None None (Some 25000000));
  from_client = client_datagram 0 0 (told_ids crowded_payload) ∷ [];
  from_server = [];
}

-- the run
abbrev pub crowded_run : Run
crowded_run = crowded_with (Some (four_of 0x62)) (Some (four_of 0x63)) (Some (four_of 0x64)) None

-- none is read
abbrev pub none_given : Run
none_given = crowded_with None None None None

-- the latest is read first
abbrev pub latest_given : Run
latest_given = crowded_with (Some (four_of 0x64)) (Some (four_of 0x63)) (Some (four_of 0x62)) None

-- the message is read that went for the last one
abbrev pub dropped_given : Run
dropped_given = crowded_with (Some (four_of 0x61)) (Some (four_of 0x62)) (Some (four_of 0x63)) (Some (four_of 0x64))
