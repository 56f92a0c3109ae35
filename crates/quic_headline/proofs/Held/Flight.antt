-- The bytes that an open end counts as in flight are those that its observer counts (RFC 9002,
-- section 2).
use Rattle.std.proofs.Common.{◌≡◌, ℕ, Bool, true, false, cond, List, [], ◌∷◌, filter, refl, sym, ap, ◌∙◌, arith}
use Rattle.std.specs.Prelude.{if◌then◌else◌, ◌&&◌, ◌==◌, sum_by}
use Rattle.std.proofs.lemmas.List.Sums.{sum_by-cons}
use Rattle.quic_wire_core.specs.declared.stream_id.Side.{Side}
use Rattle.quic_wire_core.specs.StreamId.{other_side}
use Rattle.quic_streams_parts.specs.Table.{Table}
use Rattle.quic_machine.specs.declared.answers.State.TheVariants as states
use Rattle.quic_machine.specs.Tracking.{TrackedPacket}
use Rattle.quic_machine.specs.End.{End}
use Rattle.quic_machine.specs.Control.{flies, bytes_in_flight}
use Rattle.quic_machine.specs.Control as control
use Rattle.quic_machine.specs.Machine.{World, end_at}
use Rattle.quic_headline.specs.Runs.{Run}
use Rattle.quic_headline.specs.Observer.{Sent, asks_of, Watch}
use Rattle.quic_headline.specs.Polls.{counts_on, bytes_on, bytes_flying}
use Rattle.quic_headline.specs.Headline.{IsHonest}
use Rattle.quic_headline.proofs.Packets.Waited.{IsWaited, AreWaited}
use Rattle.quic_headline.proofs.Packets.Sight.{Sight}
use Rattle.quic_headline.proofs.Places.Parties.{Party, watch_of}
use Rattle.quic_headline.proofs.Places.Placed.{party_at, Placed, watch_is}

-- ---- one datagram

-- a tracked packet is in flight on a path where its datagram went there and asks
pub flies_same : (generation : ℕ) (s : Sent) (p : ℕ × TrackedPacket) → IsWaited s p → flies generation p ≡ counts_on generation s
flies_same generation s p w = ap (λ (b : Bool). b && (p.1.generation == generation)) w.asks ∙ ap (λ (n : ℕ). asks_of s && (n == generation)) w.generation

-- ---- all of them

-- the bytes of packets that are in flight on a path
abbrev bytes_tracked : ℕ → Table TrackedPacket → ℕ
bytes_tracked generation ps = sum_by (λ (p : ℕ × TrackedPacket). p.1.size) (control.flying generation ps)

-- both are as many, where the one are tracked as the other
pub bytes_same : (generation : ℕ) (ss : List Sent) (ps : Table TrackedPacket) → AreWaited ss ps → bytes_tracked generation ps ≡ bytes_on generation ss
bytes_same generation [] [] w = refl
bytes_same generation (s ∷ ss) (p ∷ ps) w =
    ap (λ (b : Bool). sum_by (λ (q : ℕ × TrackedPacket). q.1.size) (cond b (p ∷ control.flying generation ps) (control.flying generation ps))) (flies_same generation s p w.0)
    ∙ go (asks_of s) (s.generation == generation) w.0.size (bytes_same generation ss ps w.1)
  where
    go : (a b : Bool) → p.1.size ≡ (if a then s.size else 0) → bytes_tracked generation ps ≡ bytes_on generation ss
        → sum_by (λ (q : ℕ × TrackedPacket). q.1.size) (cond (a && b) (p ∷ control.flying generation ps) (control.flying generation ps)) ≡ sum_by (λ (t : Sent). t.size) (cond (a && b) (s ∷ filter (counts_on generation) ss) (filter (counts_on generation) ss))
    go true true size rest =
        let packets = sum_by-cons (λ (q : ℕ × TrackedPacket). q.1.size) p (control.flying generation ps) in
        let datagrams = sum_by-cons (λ (t : Sent). t.size) s (filter (counts_on generation) ss) in
        omega arith
    go true false size rest = rest
    go false b size rest = rest
bytes_same generation [] (p ∷ ps) w = absurd w
bytes_same generation (s ∷ ss) [] w = absurd w

-- so an end counts them that tracks these, on its path
pub bytes_of_end : (e : End) (generation : ℕ) (ss : List Sent) → e.path.generation ≡ generation → AreWaited ss e.tracking.packets → bytes_in_flight e ≡ bytes_on generation ss
bytes_of_end e generation ss is w = ap (λ (n : ℕ). sum_by (λ (p : ℕ × TrackedPacket). p.1.size) (control.flying n e.tracking.packets)) is ∙ bytes_same generation ss e.tracking.packets w

-- ---- at a place

-- an open end counts as its observer does
pub bytes_at : (r : Run) (end : World) → IsHonest r → (side : Side) (i : ℕ) (at : Placed Sight r end side i) → (end_at side at.world).closing.state ≡ states.Open → bytes_in_flight (end_at side at.world) ≡ bytes_flying r side i
bytes_at r end honest side i at opened =
    let x : Party = party_at r i at.world side at.sents in
    let y : Party = party_at r i at.world (other_side side) at.theirs in
    bytes_of_end x.end (watch_of x y).route.generation (watch_of x y).flight.flying at.gives.watched.path (at.gives.watched.flight opened).tells.waits
    ∙ ap (λ (w : Watch). bytes_on w.route.generation w.flight.flying) (sym (watch_is r honest at.world i side at.sents at.theirs))
