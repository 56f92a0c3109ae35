-- Lines of which none was run, behind a text that was printed first.
use Rattle.std.proofs.Common.{ℕ, List, [], ◌++◌, Option, Some, None, refl, append-nil}
use Rattle.std.specs.Io.KnownBytes.{Appends}
use Rattle.quic_lines.specs.LineByLine.{Begins, RanSome}
use Rattle.quic_peer_core.specs.Peer.{first_stage, peer_rules}

-- any lines begin with none
begins_none : (script : Option (List ℕ)) → Begins script []
begins_none None = tt
begins_none (Some bytes) = (_, refl)

-- no line was run
pub none_behind : (before : List ℕ) (script old new : Option (List ℕ)) → Appends old new before → RanSome peer_rules first_stage before script old new
none_behind before script old new first = ([], first_stage, record { text = []; run = (refl, refl); printed = nothing old new first }, begins_none script)
  where
    nothing : (old new : Option (List ℕ)) → Appends old new before → Appends old new (before ++ [])
    nothing old new first = rw (append-nil before) first
