-- What an end that waits for the datagrams in flight has in common with them, whatever a probe took
-- of what has to be sent again.
use Rattle.std.proofs.Common.{◌≡◌, ℕ, length, map, ap, sym, ◌∙◌}
use Rattle.std.proofs.lemmas.List.{length-map}
use Rattle.quic_streams_parts.specs.Table.{Table}
use Rattle.quic_machine.specs.Tracking.{TrackedPacket}
use Rattle.quic_headline.specs.InFlight.{but_for_record, WaitsFor}

-- what is counted or read of them without their records is the same
pub alike : {packets flying : Table TrackedPacket} (f : Table TrackedPacket → ℕ) → ((ps : Table TrackedPacket) → f (map but_for_record ps) ≡ f ps) → WaitsFor packets flying → f packets ≡ f flying
alike {packets} {flying} f kept w = sym (kept packets) ∙ ap f w.same ∙ kept flying

-- so there are as many
pub as_many : {packets flying : Table TrackedPacket} → WaitsFor packets flying → length packets ≡ length flying
as_many w = alike (λ (ps : Table TrackedPacket). length ps) (λ ps. length-map ps but_for_record) w
