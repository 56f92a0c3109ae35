use Rattle.quic_worked.proofs.AskingMachines.{one_not, twenty_not, unasked_not, one_is_honest, twenty_is_honest, unasked_is_honest, one_is_none, twenty_is_none, unasked_is_none}
use Rattle.quic_worked.proofs.asking.wrong_requests_show.Goals as goal

pub returns : goal.returns
returns c = record {
  number = one_not;
  delay = twenty_not;
  unasked = unasked_not;
  number_honest = one_is_honest;
  delay_honest = twenty_is_honest;
  unasked_honest = unasked_is_honest;
  machine_number = one_is_none;
  machine_delay = twenty_is_none;
  machine_unasked = unasked_is_none;
}
