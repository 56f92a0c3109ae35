use Rattle.quic_worked.proofs.AgainRuns.{first_at, second_at, hello_again}
use Rattle.quic_worked.proofs.closed.hello_comes_again.Goals as goal

pub returns : goal.returns
returns c = record { first = first_at; second = second_at; again = hello_again }
