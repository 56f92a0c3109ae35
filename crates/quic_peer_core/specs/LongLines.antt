-- No line that is too long can be run.
use Rattle.std.specs.Prelude.{◌≡◌, ◌<◌, ℕ, List, length, None, refl}
use Rattle.std.proofs.lemmas.Bool.{lt-ltb}
use Rattle.quic_lines.specs.LineByLine.{RefusesLong}
use Rattle.quic_peer_core.specs.Language.{said}
use Rattle.quic_peer_core.specs.Peer.{Stage, Does, peer_rules}

-- it asks for nothing
said-long : (line : List ℕ) → 1048576 < length line → said line ≡ None
said-long line long = rw (lt-ltb 1048576 (length line) long) refl

-- so it does nothing
undone : (line : List ℕ) (s : Stage) (text : List ℕ) (t : Stage) → 1048576 < length line → Does (said line) s text t → ⊥
undone line s text t long does = rw (said-long line long) at does

-- and can't be run
pub refuses_long : RefusesLong peer_rules
refuses_long = record { refused = λ line s long. rw (said-long line long) tt; undone = undone }
