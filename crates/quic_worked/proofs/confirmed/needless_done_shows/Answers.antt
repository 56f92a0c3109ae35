use Rattle.quic_worked.proofs.ConfirmedRun.{unsaid_shows, given_again_shows, unsaid_is_honest, given_again_is_honest, unsaid_is_none, given_again_is_none}
use Rattle.quic_worked.proofs.confirmed.needless_done_shows.Goals as goal

pub returns : goal.returns
returns c = record { unsaid = unsaid_shows; again = given_again_shows; unsaid_premises = unsaid_is_honest; again_premises = given_again_is_honest; machine_unsaid = unsaid_is_none; machine_again = given_again_is_none }
