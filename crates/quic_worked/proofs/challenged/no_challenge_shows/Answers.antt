use Rattle.quic_worked.proofs.ChallengedRun.{unasking_not, mute_not, unasking_is_honest, mute_is_honest, never_unasking, mute_is_none}
use Rattle.quic_worked.proofs.challenged.no_challenge_shows.Goals as goal

pub returns : goal.returns
returns c = record { other = unasking_not; mute = mute_not; other_premises = unasking_is_honest; mute_premises = mute_is_honest; machine_other = never_unasking; machine_mute = mute_is_none }
