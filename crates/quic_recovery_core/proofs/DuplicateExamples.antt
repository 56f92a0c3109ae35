-- Duplicates computed at worked values: a number is one of itself, and of a number that is 257
-- above it.
use Rattle.std.proofs.Common.{◌≡◌, true, false, [], ◌∷◌, refl}
use Rattle.quic_recovery_core.specs.Duplicates.{is_duplicate}
use Rattle.quic_recovery_core.specs.DuplicateRuns.{seen_after}

of_itself : is_duplicate (seen_after (7 ∷ [])) 7 ≡ true
of_itself = refl

near : is_duplicate (seen_after (256 ∷ [])) 0 ≡ false
near = refl

far : is_duplicate (seen_after (257 ∷ [])) 0 ≡ true
far = refl
