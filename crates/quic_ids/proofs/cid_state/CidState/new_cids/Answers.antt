use Rattle.std.proofs.Common.{Option, sym, ap, ◌∙◌}
use Rattle.std.specs.Option.{option_copied}
use Rattle.quic_wire_core.specs.declared.shared.IssuedCid.{IssuedCid}
use Rattle.quic_ids.specs.CidState.{after_batch}
use Rattle.quic_ids.proofs.cid_state.CidState.new_cids.Goals as goal

pub returns-in_default-clause-ok : goal.returns-in_default-clause-ok
returns-in_default-clause-ok c =
    let none = sym c.last.ensures.value ∙ ap option_copied c.in_default.is in
    sym (ap (λ (last : Option IssuedCid). after_batch last c.args.self.now c.args.ids.now c.args.now) none)
