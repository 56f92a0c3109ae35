use Rattle.std.specs.Prelude.{ℕ}
use Rattle.quic_wire_core.specs.declared.stream_id.Side.{Side}
use Rattle.quic_wire_core.specs.declared.stream_id.Side.TheVariants.{Client, Server}
use Rattle.quic_machine.specs.End.{KeyLimits}
use Rattle.quic_machine.specs.Start.{IsLawful}
use Rattle.quic_keys.specs.KeysOf.{keys_of}
use Rattle.quic_keys.specs.PlainLaw.{first_form, number_length, adds_tag}
use Rattle.quic_keys.specs.Policies.{plain_policy}
use Rattle.quic_keys.proofs.Mates.{policies_mate}
use Rattle.quic_keys.proofs.laws.keys_meet_the_premises.Goals as goal

lawful : (limits : KeyLimits) (side : Side) (words : ℕ → ℕ) → IsLawful (plain_policy limits side words)
lawful limits side words = record { form = first_form; width = number_length; tag = adds_tag (keys_of side).packet.local.mark }

pub returns : goal.returns
returns c = λ limits peer_limits client server. record {
  client = lawful limits Client client;
  server = lawful peer_limits Server server;
  to_server = policies_mate Client limits peer_limits client server;
  to_client = policies_mate Server peer_limits limits server client;
}
