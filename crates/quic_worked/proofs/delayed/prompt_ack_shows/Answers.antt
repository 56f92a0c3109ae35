use Rattle.quic_worked.proofs.DelayedRun.{prompt_not, prompt_is_honest, never_prompt}
use Rattle.quic_worked.proofs.delayed.prompt_ack_shows.Goals as goal

pub returns : goal.returns
returns c = record { delays = prompt_not; premises = prompt_is_honest; machine = never_prompt }
