use Rattle.quic_worked.proofs.RespelledRun.{respelled_not, cut_short_not, respelled_is_honest, cut_short_is_honest, never_respelled, never_cut_short}
use Rattle.quic_worked.proofs.respelled.other_bytes_show.Goals as goal

pub returns : goal.returns
returns c = record { bytes = respelled_not; fin = cut_short_not; bytes_premises = respelled_is_honest; fin_premises = cut_short_is_honest; machine_bytes = never_respelled; machine_fin = never_cut_short }
