use Rattle.quic_worked.proofs.BegunRuns.{challenge_shows, response_shows, id_shows, retirement_shows, never_challenge, never_response, never_id, never_retirement, done_shows, never_done}
use Rattle.quic_worked.proofs.begun.needless_frames_show.Goals as goal

pub returns : goal.returns
returns c = record {
  challenge = challenge_shows;
  response = response_shows;
  new_id = id_shows;
  retirement = retirement_shows;
  done = done_shows;
  machine_challenge = never_challenge;
  machine_response = never_response;
  machine_new_id = never_id;
  machine_retirement = never_retirement;
  machine_done = never_done;
}
