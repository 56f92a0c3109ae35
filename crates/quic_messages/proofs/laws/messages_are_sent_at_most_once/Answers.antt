use Rattle.std.proofs.Common.{arith}
use Rattle.std.specs.Str.{bytes_eq}
use Rattle.quic_messages.specs.Messages.{no_messages}
use Rattle.quic_messages.proofs.Counting.{each_sent}
use Rattle.quic_messages.proofs.laws.messages_are_sent_at_most_once.Goals as goal

pub returns-clause-each : goal.returns-clause-each
returns-clause-each c calls m = let all = each_sent (bytes_eq m) calls no_messages in omega arith

pub returns-clause-most : goal.returns-clause-most
returns-clause-most c calls m = let all = each_sent (bytes_eq m) calls no_messages in omega arith
