-- Frames that one end sends, as its mate reads them.
use Rattle.std.specs.Prelude.{◌≡◌, ℕ, ◌+◌, ◌-◌, ◌/◌, ◌^◌, ◌<◌, ◌≤◌, List, ◌++◌, length, map, replicate, Option, Some, Ok}
use Rattle.quic_wire.specs.Value.{FrameValue, padding}
use Rattle.quic_wire.specs.Items.{items}
use Rattle.quic_wire.specs.Writing.{spelled_all, AllFit}
use Rattle.quic_packet.specs.Number.{window, truncated}
use Rattle.quic_packet.specs.Header.{first_byte}
use Rattle.quic_packet.specs.Keys.{Protection, Aead, AreMates}
use Rattle.quic_packet.specs.Datagram.{Opening, sent, opened_packet}

-- a packet opened to this first byte, this number and a payload that is read as these frames
pub record OpensToFrames (opened : Option Opening) (first number : ℕ) (frames : List FrameValue) : Type 0 where
  pub payload : List ℕ
  pub opens : opened ≡ Some (record { first = first; number = number; payload = payload })
  pub reads : items payload ≡ map Ok frames

-- a datagram of frames, with zeros behind them, opens at a mate to these frames and a PADDING frame
-- for each zero, wherever the mate expects a number from the greatest acknowledged up to less than
-- half a window above the datagram's
abbrev pub FramesArrive : Type 0
FramesArrive = (protection : Protection) (aead : Aead) (protection' : Protection) (aead' : Aead) → AreMates protection aead protection' aead' → (number acked expected : ℕ) (id : List ℕ) (fs : List FrameValue) (zeros : ℕ) → number - acked < 2 ^ 31 → number < 2 ^ 62 → acked ≤ expected → expected < number + window (truncated number acked).width / 2 → AllFit fs → OpensToFrames (opened_packet protection' aead' (length id + 1) expected (sent protection aead number acked id (spelled_all fs ++ replicate zeros 0))) (first_byte (truncated number acked).width) number (fs ++ replicate zeros padding)
