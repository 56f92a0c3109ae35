use Rattle.std.proofs.Common.{sym, subst, leb, List}
use Rattle.std.specs.List.Sorted.{IsPartitionedBy}
use Rattle.quic_sets.specs.Parts.{Part}
use Rattle.quic_send_buffer.specs.KeptBytes.{end_of}
use Rattle.quic_send_buffer.proofs.Kept.Order.{others_ordered}
use Rattle.quic_send_buffer.proofs.send_buffer.row.Row.piece.Goals as goal

pub piece_among-requires : goal.piece_among-requires
piece_among-requires c =
    let v = c.self.inside in
    others_ordered c.args.at v.first v.others.items (subst (λ (ss : List (List Part)). IsPartitionedBy (λ s. leb (end_of s) c.args.at) ss) (sym c.self.view_is) c.requires)
