use Rattle.quic_worked.proofs.RepeatedRuns.{challenge_shows, response_shows, challenge_is_honest, response_is_honest, challenge_is_none, response_is_none}
use Rattle.quic_worked.proofs.repeated.path_frames_again_show.Goals as goal

pub returns : goal.returns
returns c = record { challenge = challenge_shows; response = response_shows; challenge_premises = challenge_is_honest; response_premises = response_is_honest; machine_challenge = challenge_is_none; machine_response = response_is_none }
