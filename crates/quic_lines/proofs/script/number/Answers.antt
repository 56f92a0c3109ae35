use Rattle.std.proofs.Common.{◌<◌, ◌^◌, rules, arith}
use Rattle.std.proofs.lemmas.Grind.{common_steps}
use Rattle.std.specs.Option.{SomeIff}
use Rattle.std.specs.Str.Parse.{IsNumeral, digits_value}
use Rattle.quic_lines.proofs.Saying.{number_named-from}
use Rattle.quic_lines.proofs.script.number.Goals as goal

pub returns-in_default-clause-value : goal.returns-in_default-clause-value
returns-in_default-clause-value c =
    let numeral : SomeIff c.ok.result (IsNumeral 10 c.args.word.now × (digits_value 10 c.args.word.now < 2 ^ 64)) (digits_value 10 c.args.word.now) = first_of (search rules, grind (arith, common_steps)) in
    number_named-from c.args.word.now c.ok.result numeral
