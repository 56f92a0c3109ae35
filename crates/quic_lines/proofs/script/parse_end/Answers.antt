use Rattle.std.proofs.Common.{sym, ◌∙◌}
use Rattle.quic_lines.specs.Named.{side_named}
use Rattle.quic_lines.proofs.Saying.{end_said-at}
use Rattle.quic_lines.proofs.script.parse_end.Goals as goal

pub returns : goal.returns
returns c =
    let named = sym c.side.ensures ∙ c.in_ok-side.ensures.ok_part in
    rw (end_said-at (side_named c.args.end.now) _ _ _ _ named c.in_ok-name.ensures.word) c.command.ensures
