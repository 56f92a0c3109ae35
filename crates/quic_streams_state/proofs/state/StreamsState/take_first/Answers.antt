use Rattle.std.proofs.Common.{[], ◌∷◌, ◌≡◌, List, ℕ, length, ap, subst, ◌∙◌}
use Rattle.std.specs.Result.{OnOk}
use Rattle.quic_streams_state.specs.Parts.{Sending}
use Rattle.quic_streams_state.specs.Sends.{chunks_grown_half}
use Rattle.quic_streams_state.proofs.Buffers.{not_empty, first_accepted}
use Rattle.quic_streams_state.proofs.state.StreamsState.take_first.Goals as goal

pub returns-clause-ok : goal.returns-clause-ok
returns-clause-ok c =
    let some = not_empty (length c.args.bytes.now) c.is_empty.result c.is_empty.ensures c.if-is_empty.false in
    let one = c.from_ref.ensures.value ∙ ap (λ (bs : List ℕ). bs ∷ []) c.in_ok-piece.ensures.piece in
    let grown = subst (λ (s : Sending). OnOk c.write_fresh.result (c.write_fresh.new.self ≡ chunks_grown_half c.args.half s c.args.self.now.side c.args.id (length c.args.bytes.now) c.from_ref.result.now)) c.in_ok-piece.ensures.same c.write_fresh.ensures.ok in
    first_accepted c.write_fresh.result c.args.self.now c.write_fresh.new.self c.args.id c.args.half c.args.bytes.now c.from_ref.result.now c.requires.half some one grown
