-- Frames that one end sends arrive at its mate.
use Rattle.std.proofs.Common.{◌≡◌, ◌++◌, replicate, true, refl, ◌∙◌}
use Rattle.std.specs.Prelude.{◌==◌}
use Rattle.std.proofs.lemmas.Bool.{eq-eqb}
use Rattle.quic_packet.specs.Number.{truncated, expanded}
use Rattle.quic_wire.specs.Writing.{spelled_all}
use Rattle.quic_wire.specs.Arriving.{FramesArrive}
use Rattle.quic_wire.proofs.FrameReadBack.{padded_read}
use Rattle.quic_packet.proofs.Numbers.{late_opens}
use Rattle.quic_packet.proofs.Opening.{mates_open}

-- the payload that was sealed is the one that opens, and what was written in it is read
pub frames_arrive : FramesArrive
frames_arrive protection aead protection' aead' mates number acked expected id fs zeros near fits above below fit =
    let payload = spelled_all fs ++ replicate zeros 0 in
    let same = late_opens number acked expected near above below in
    let told : (expanded (truncated number acked) expected == number) ≡ true = eq-eqb _ _ same in
    record { payload = payload; opens = mates_open protection aead protection' aead' mates number acked expected id payload near fits ∙ rw told refl; reads = padded_read fs zeros fit }
