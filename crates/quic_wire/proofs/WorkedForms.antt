-- The forms of worked values, each put together from its parts.
use Rattle.std.proofs.Common.{ℕ, zero, suc, ◌*◌, ◌^◌, ◌<◌, ◌≤◌, List, [], ◌∷◌, ◌++◌, length, take, drop, refl, inl, inr, lit<, lit≤, arith}
use Rattle.std.specs.Prelude.{true, false, replicate}
use Rattle.quic_wire_core.specs.Varint.{Spells}
use Rattle.quic_parameters.specs.declared.transport_parameters.id.TransportParameterId.{TransportParameterId}
use Rattle.quic_parameters.specs.declared.transport_parameters.id.TransportParameterId.TheVariants.{MaxIdleTimeout, MaxUdpPayloadSize, InitialMaxData, InitialMaxStreamDataBidiLocal, InitialMaxStreamDataBidiRemote, InitialMaxStreamDataUni, InitialMaxStreamsBidi, InitialMaxStreamsUni, AckDelayExponent, MaxAckDelay, ActiveConnectionIdLimit, MaxDatagramFrameSize, MinAckDelay}
use Rattle.quic_packet.specs.Number.{IsFewest}
use Rattle.quic_wire.specs.Value.{padding, ping, stream}
use Rattle.quic_wire.specs.Grammar.{Numbers, IsForm, Payload}
use Rattle.quic_parameters.specs.Parameters.{value_of, EntrySpells, EntriesSpell, Says, ParametersSpell}
use Rattle.quic_wire.specs.Worked.{hello_stream, hello_sized, hello_unsized, limits, limits_spelled}

-- no width below three bytes is enough for 65611 numbers
below_three : (k : ℕ) → 1 ≤ k → k < 3 → 256 ^ k ≤ 2 * 65611
below_three zero some few = absurd (omega arith)
below_three (suc zero) some few = lit≤ tt
below_three (suc (suc zero)) some few = lit≤ tt
below_three (suc (suc (suc k))) some few = absurd (omega arith)

pub three_fewest : IsFewest 65611 3
three_fewest = record { some = lit≤ tt; four = lit≤ tt; enough = lit< tt; fewest = below_three }

-- ---- frames

-- numbers below 64, each in one byte
two_numbers : (a b : ℕ) → a < 64 → b < 64 → Numbers (a ∷ b ∷ []) (a ∷ b ∷ [])
two_numbers a b h k = (a ∷ [], b ∷ [], inl (h, refl), (b ∷ [], [], inl (k, refl), refl, refl), refl)

three_numbers : (a b c : ℕ) → a < 64 → b < 64 → c < 64 → Numbers (a ∷ b ∷ c ∷ []) (a ∷ b ∷ c ∷ [])
three_numbers a b c h k l = (a ∷ [], b ∷ c ∷ [], inl (h, refl), two_numbers b c k l, refl)

pub sized_form : (rest : List ℕ) → IsForm (stream hello_stream) hello_sized rest
sized_form rest = record { written = false; sized = true; offset = refl; ends = tt; text = (0x0b ∷ 0x00 ∷ 0x05 ∷ [], three_numbers 0x0b 0x00 0x05 (lit< tt) (lit< tt) (lit< tt), refl) }

pub unsized_form : IsForm (stream hello_stream) hello_unsized []
unsized_form = record { written = false; sized = false; offset = refl; ends = refl; text = (0x09 ∷ 0x00 ∷ [], two_numbers 0x09 0x00 (lit< tt) (lit< tt), refl) }

-- PING in two bytes, the frame, and PADDING
pub three_frames : Payload (ping ∷ stream hello_stream ∷ padding ∷ []) (0x40 ∷ 0x01 ∷ (hello_sized ++ 0x00 ∷ []))
three_frames = (
  0x40 ∷ 0x01 ∷ [],
  hello_sized ++ 0x00 ∷ [],
  (0x40 ∷ 0x01 ∷ [], [], inr (inl (lit< tt, refl)), refl, refl),
  (
    hello_sized,
    0x00 ∷ [],
    sized_form (0x00 ∷ []),
    (0x00 ∷ [], [], (0x00 ∷ [], [], inl (lit< tt, refl), refl, refl), refl, refl),
    refl,
  ),
  refl,
)

-- ---- transport parameters

-- an id and a length below 64, each in one byte, and the value
entry : (id : ℕ) (value : List ℕ) → id < 64 → length value < 64 → EntrySpells (id, value) (id ∷ length value ∷ value)
entry id value h k = (id ∷ [], length value ∷ [], inl (h, refl), inl (k, refl), refl)

-- 30000, 2^62 - 1, 1250000, 100, 8, 65535 and 1000
abbrev idle_bytes : List ℕ
idle_bytes = 0x80 ∷ 0x00 ∷ 0x75 ∷ 0x30 ∷ []

abbrev all_bytes : List ℕ
all_bytes = replicate 8 0xff

abbrev stream_bytes : List ℕ
stream_bytes = 0x80 ∷ 0x13 ∷ 0x12 ∷ 0xd0 ∷ []

abbrev count_bytes : List ℕ
count_bytes = 0x40 ∷ 0x64 ∷ []

abbrev ids_bytes : List ℕ
ids_bytes = 0x08 ∷ []

abbrev message_bytes : List ℕ
message_bytes = 0x80 ∷ 0x00 ∷ 0xff ∷ 0xff ∷ []

abbrev delay_bytes : List ℕ
delay_bytes = 0x43 ∷ 0xe8 ∷ []

idle_spelled : Spells 30000 idle_bytes
idle_spelled = inr (inr (inl (lit< tt, refl)))

all_spelled : Spells 4611686018427387903 all_bytes
all_spelled = inr (inr (inr (lit< tt, refl)))

stream_spelled : Spells 1250000 stream_bytes
stream_spelled = inr (inr (inl (lit< tt, refl)))

count_spelled : Spells 100 count_bytes
count_spelled = inr (inl (lit< tt, refl))

ids_spelled : Spells 8 ids_bytes
ids_spelled = inl (lit< tt, refl)

message_spelled : Spells 65535 message_bytes
message_spelled = inr (inr (inl (lit< tt, refl)))

delay_spelled : Spells 1000 delay_bytes
delay_spelled = inr (inl (lit< tt, refl))

-- the last id, in its eight bytes
last_id : Spells 0xff04de1b (0xc0 ∷ 0x00 ∷ 0x00 ∷ 0x00 ∷ 0xff ∷ 0x04 ∷ 0xde ∷ 0x1b ∷ [])
last_id = inr (inr (inr (lit< tt, refl)))

last_entry : EntrySpells (0xff04de1b, delay_bytes) (drop 51 limits_spelled)
last_entry = (0xc0 ∷ 0x00 ∷ 0x00 ∷ 0x00 ∷ 0xff ∷ 0x04 ∷ 0xde ∷ 0x1b ∷ [], 0x02 ∷ [], last_id, inl (lit< tt, refl), refl)

abbrev entries : List (ℕ × List ℕ)
entries =
    (0x01, idle_bytes) ∷ (0x04, all_bytes) ∷ (0x05, stream_bytes) ∷ (0x06, stream_bytes) ∷ (0x07, stream_bytes) ∷ (0x08, count_bytes) ∷ (0x09, count_bytes) ∷ (0x0e, ids_bytes) ∷ (0x20, message_bytes) ∷ (0xff04de1b, delay_bytes) ∷ []

entries_spelled : EntriesSpell entries limits_spelled
entries_spelled = (
  take 6 limits_spelled,
  drop 6 limits_spelled,
  entry 0x01 idle_bytes (lit< tt) (lit< tt),
  (
    take 10 (drop 6 limits_spelled),
    drop 16 limits_spelled,
    entry 0x04 all_bytes (lit< tt) (lit< tt),
    (
      take 6 (drop 16 limits_spelled),
      drop 22 limits_spelled,
      entry 0x05 stream_bytes (lit< tt) (lit< tt),
      (
        take 6 (drop 22 limits_spelled),
        drop 28 limits_spelled,
        entry 0x06 stream_bytes (lit< tt) (lit< tt),
        (
          take 6 (drop 28 limits_spelled),
          drop 34 limits_spelled,
          entry 0x07 stream_bytes (lit< tt) (lit< tt),
          (
            take 4 (drop 34 limits_spelled),
            drop 38 limits_spelled,
            entry 0x08 count_bytes (lit< tt) (lit< tt),
            (
              take 4 (drop 38 limits_spelled),
              drop 42 limits_spelled,
              entry 0x09 count_bytes (lit< tt) (lit< tt),
              (
                take 3 (drop 42 limits_spelled),
                drop 45 limits_spelled,
                entry 0x0e ids_bytes (lit< tt) (lit< tt),
                (
                  take 6 (drop 45 limits_spelled),
                  drop 51 limits_spelled,
                  entry 0x20 message_bytes (lit< tt) (lit< tt),
                  (drop 51 limits_spelled, [], last_entry, refl, refl),
                  refl,
                ),
                refl,
              ),
              refl,
            ),
            refl,
          ),
          refl,
        ),
        refl,
      ),
      refl,
    ),
    refl,
  ),
  refl,
)

-- each parameter that isn't the default stands once
stand : (k : TransportParameterId) → Says entries k (value_of limits k)
stand MaxIdleTimeout = inr (idle_bytes, refl, (30000, idle_spelled, refl))
stand MaxUdpPayloadSize = inl (refl, refl)
stand InitialMaxData = inr (all_bytes, refl, (4611686018427387903, all_spelled, refl))
stand InitialMaxStreamDataBidiLocal = inr (stream_bytes, refl, (1250000, stream_spelled, refl))
stand InitialMaxStreamDataBidiRemote = inr (stream_bytes, refl, (1250000, stream_spelled, refl))
stand InitialMaxStreamDataUni = inr (stream_bytes, refl, (1250000, stream_spelled, refl))
stand InitialMaxStreamsBidi = inr (count_bytes, refl, (100, count_spelled, refl))
stand InitialMaxStreamsUni = inr (count_bytes, refl, (100, count_spelled, refl))
stand AckDelayExponent = inl (refl, refl)
stand MaxAckDelay = inl (refl, refl)
stand ActiveConnectionIdLimit = inr (ids_bytes, refl, (8, ids_spelled, refl))
stand MaxDatagramFrameSize = inr (message_bytes, refl, (65535, message_spelled, refl))
stand MinAckDelay = inr (delay_bytes, refl, (1000, delay_spelled, refl))

pub limits_are_spelled : ParametersSpell limits limits_spelled
limits_are_spelled = record { entries = entries; spelled = entries_spelled; says = stand }
