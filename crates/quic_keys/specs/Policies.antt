-- What the stand-in keys and random sources of two ends do, as the machine sees it.
use Rattle.std.specs.Prelude.{ℕ}
use Rattle.quic_wire_core.specs.declared.stream_id.Side.{Side}
use Rattle.quic_wire_core.specs.declared.stream_id.Side.TheVariants.{Client, Server}
use Rattle.quic_machine.specs.Policy.{Policy}
use Rattle.quic_machine.specs.End.{KeyLimits}
use Rattle.quic_machine.specs.Machine.{Policies}
use Rattle.quic_keys.specs.Plain.{plain_sealed, plain_opened, plain_protection}
use Rattle.quic_keys.specs.KeysOf.{keys_of}

-- what the keys of an end do, with these limits, and its random source, which answers these words
-- one after another
abbrev pub plain_policy : KeyLimits → Side → (ℕ → ℕ) → Policy
plain_policy limits side words = record {
  words = words;
  seals = limits.seals;
  openings = limits.openings;
  header = plain_protection;
  packet = record {
    seal = plain_sealed (keys_of side).packet.local.mark;
    unseal = plain_opened (keys_of side).packet.remote.mark;
  };
}

-- what the keys of both do, of which the client's have the first limits and the server's the
-- second, and their random sources, of which the client's answers the first words and the server's
-- the second
abbrev pub plain_policies : KeyLimits → KeyLimits → (ℕ → ℕ) → (ℕ → ℕ) → Policies
plain_policies client_limits server_limits client server = record { client = plain_policy client_limits Client client; server = plain_policy server_limits Server server }
