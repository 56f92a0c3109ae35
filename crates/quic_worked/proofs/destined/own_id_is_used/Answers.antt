use Rattle.quic_worked.proofs.DestinedRuns.{word_is, sent_right, itself_shows, itself_is_honest, no_itself}
use Rattle.quic_worked.proofs.destined.own_id_is_used.Goals as goal

pub returns : goal.returns
returns c = record { word = word_is; sent = sent_right; wrong = itself_shows; premises = itself_is_honest; machine = no_itself }
