-- The keys of the two ends: each seals with its own letter, and opens by the other's.
use Rattle.std.specs.Prelude.{ℕ}
use Rattle.quic_wire_core.specs.declared.stream_id.Side.{Side}
use Rattle.quic_wire_core.specs.declared.stream_id.Side.TheVariants.{Client, Server}
use Rattle.quic_wire_core.specs.StreamId.{other_side}
use Rattle.quic_packet.specs.declared.crypto.Keys.{Keys}
use Rattle.quic_keys.specs.declared.key.PlainHeaderKey.{PlainHeaderKey}
use Rattle.quic_keys.specs.declared.key.PlainKey.{PlainKey}

-- the mark of an end's packets: the letter `c` or `s`
abbrev pub mark_of : Side → ℕ
mark_of Client = 0x63
mark_of Server = 0x73

-- the packet key of an end, which seals so many packets at most, and may refuse so many
abbrev pub key_with : ℕ → ℕ → Side → PlainKey
key_with seals openings side = record { mark = mark_of side; confidentiality_limit = seals; integrity_limit = openings }

-- the keys of an end, what it seals with and what it opens with, with these limits
abbrev pub keys_with : ℕ → ℕ → Side → Keys PlainHeaderKey PlainKey
keys_with seals openings side = record {
  header = record { local = record {}; remote = record {} };
  packet = record { local = key_with seals openings side; remote = key_with seals openings (other_side side) };
}

-- how many packets a key seals at most, and may refuse, where nothing is set
abbrev pub usual_limit : ℕ
usual_limit = 8388608

-- the keys of an end, with the usual limits
abbrev pub keys_of : Side → Keys PlainHeaderKey PlainKey
keys_of side = keys_with usual_limit usual_limit side
