use Rattle.std.proofs.Common.{◌≡◌, arith}
use Rattle.quic_connection_parts.proofs.Closed.{longest_in, longest_fits, longest_none}
use Rattle.quic_connection_parts.proofs.closes.longest_text.Goals as goal

pub returns-clause-fits : goal.returns-clause-fits
returns-clause-fits c =
    let is : c.max-2.result ≡ longest_in c.args.room = omega arith in
    longest_fits c.args.room c.max-2.result c.requires.some c.requires.few is

pub returns-clause-longest : goal.returns-clause-longest
returns-clause-longest c n fits =
    let is : c.max-2.result ≡ longest_in c.args.room = omega arith in
    longest_none c.args.room c.max-2.result n c.requires.few is fits
