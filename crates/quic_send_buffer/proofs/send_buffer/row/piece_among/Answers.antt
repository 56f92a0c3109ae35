use Rattle.std.proofs.Common.{sym, ap, ◌∙◌}
use Rattle.std.specs.Option.{option_map}
use Rattle.quic_send_buffer.proofs.Kept.Stretches.{stretch_ends, stretch_none}
use Rattle.quic_send_buffer.proofs.send_buffer.row.piece_among.Goals as goal

pub returns-in_err-stretch : goal.returns-in_err-stretch
returns-in_err-stretch c = ap (option_map (λ p. (p.0, p.1.now))) c.from_residual.ensures ∙ stretch_none c.args.at c.args.stretches.now.items c.in_err-stretch.ensures

pub piece-requires : goal.piece-requires
piece-requires c = (stretch_ends c.args.at c.args.stretches.now.items c.in_ok-stretch.stretch.now c.in_ok-stretch.ensures).0

pub returns : goal.returns
returns c = sym ((stretch_ends c.args.at c.args.stretches.now.items c.in_ok-stretch.stretch.now c.in_ok-stretch.ensures).1 ∙ c.piece.ensures)
