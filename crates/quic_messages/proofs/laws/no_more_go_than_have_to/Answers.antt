use Rattle.quic_messages.proofs.Leaving.{gone_and_left, left_fits, fewest_go, with_message_fits, with_message_all}
use Rattle.quic_messages.proofs.laws.no_more_go_than_have_to.Goals as goal

pub returns-clause-oldest : goal.returns-clause-oldest
returns-clause-oldest c = gone_and_left

pub returns-clause-fits : goal.returns-clause-fits
returns-clause-fits c = left_fits

pub returns-clause-fewest : goal.returns-clause-fewest
returns-clause-fewest c = fewest_go

pub returns-clause-within : goal.returns-clause-within
returns-clause-within c = with_message_fits

pub returns-clause-spared : goal.returns-clause-spared
returns-clause-spared c = with_message_all
