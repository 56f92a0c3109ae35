-- A peer that isn't validated is sent no more than three times what it sent.
use Rattle.std.proofs.Common.{◌≡◌, ℕ, ◌+◌, ◌*◌, ◌<◌, ◌≤◌, ◌^◌, Bool, false, not, ◌&&◌, nat_lt, List, [], ◌∷◌, Option, refl, subst, arith}
use Rattle.std.proofs.lemmas.Bool.{ltb-false}
use Rattle.quic_time.specs.Clocks.{saturated}
use Rattle.quic_config.specs.Transport.{TransportSettings}
use Rattle.quic_paths.specs.Paths.{PathValue, new_path, next_path, path_after_received, path_after_sent, is_blocked, Datagram, came, went, bytes_came, bytes_went, AreAllowed}

-- bytes that don't have to wait
fits : {C : Type 0} (path : PathValue C) (bytes : ℕ) → path.validated ≡ false → is_blocked path bytes ≡ false → path.sent + bytes ≤ saturated (3 * path.received)
fits path bytes unvalidated free =
    ltb-false (saturated (3 * path.received)) (path.sent + bytes)
    (subst (λ v. (not v && nat_lt (saturated (3 * path.received)) (path.sent + bytes)) ≡ false) unvalidated free)

pub later : {C : Type 0} (path : PathValue C) (datagrams : List Datagram) → path.validated ≡ false → path.sent < 2 ^ 64 → path.received < 2 ^ 64 → path.sent ≤ 3 * path.received
    → AreAllowed datagrams path → path.sent + bytes_went datagrams ≤ 3 * (path.received + bytes_came datagrams)
later path [] unvalidated sent received threefold allowed = omega (arith, threefold)
later path (came bytes ∷ rest) unvalidated sent received threefold allowed =
    let more = later (path_after_received path bytes) rest unvalidated sent (omega arith) (omega (arith, sent, received, threefold)) allowed in
    omega (arith, more)
later path (went bytes ∷ rest) unvalidated sent received threefold (free, allowed) =
    let fit = fits path bytes unvalidated free in
    let more = later (path_after_sent path bytes) rest unvalidated (omega arith) received (omega (arith, fit)) allowed in
    omega (arith, fit, more)

pub first : {C : Type 0} (remote : ℕ) (searches : Bool) (limit : Option ℕ) (generation now initial : ℕ) (settings : TransportSettings) (controller : C) (datagrams : List Datagram)
    → AreAllowed datagrams (new_path remote searches limit generation now settings controller initial) → bytes_went datagrams ≤ 3 * bytes_came datagrams
first remote searches limit generation now initial settings controller datagrams allowed =
    let more = later (new_path remote searches limit generation now settings controller initial) datagrams refl (omega arith) (omega arith) (omega arith) allowed in
    omega (arith, more)

pub next : {C : Type 0} (remote : ℕ) (prev : PathValue C) (generation now window : ℕ) (datagrams : List Datagram)
    → AreAllowed datagrams (next_path remote prev generation now window) → bytes_went datagrams ≤ 3 * bytes_came datagrams
next remote prev generation now window datagrams allowed =
    let more = later (next_path remote prev generation now window) datagrams refl (omega arith) (omega arith) (omega arith) allowed in
    omega (arith, more)
