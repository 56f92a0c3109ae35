use Rattle.std.proofs.Common.{◌≡◌, length}
use Rattle.quic_streams_state.specs.Telling.{passed, after_passed}
use Rattle.quic_streams_state.proofs.sending.Sending.pop_writable.Given as goal

-- what is left to pass gives the same
abbrev pub invariant-blocked : goal.invariant-blocked
invariant-blocked l =
    ((passed l.initial.self.blocked l.initial.self.halves.live).found ≡ (passed l.self.blocked l.self.halves.live).found)
    × (after_passed l.initial.self (passed l.initial.self.blocked l.initial.self.halves.live) ≡ after_passed l.self (passed l.self.blocked l.self.halves.live))

abbrev pub decreases-blocked : goal.decreases-blocked
decreases-blocked l = length l.self.blocked
