use Rattle.std.proofs.Common.{rules, ◌≡◌, true, false, sym, ap, ◌∙◌}
use Rattle.quic_machine.specs.End.{with_end}
use Rattle.quic_machine.specs.Control.{is_window_full}
use Rattle.quic_machine.specs.Poll.{is_gated}
use Rattle.quic_connection_core.proofs.Gates.{gated_paced}
use Rattle.quic_connection_core.proofs.connection.Connection.is_held_back.Goals as goal

pub returns-else-is_window_full-clause-held : goal.returns-else-is_window_full-clause-held
returns-else-is_window_full-clause-held g c =
    let e = c.args.self.now.end in
    let asks : is_gated e ≡ true = search rules in
    let room : is_window_full e ≡ false = search rules in
    c.is_paced.ensures.held ∙ ap (λ x. x.held) (sym (gated_paced e asks room))

pub returns-else-is_window_full-clause-end : goal.returns-else-is_window_full-clause-end
returns-else-is_window_full-clause-end g c =
    let e = c.args.self.now.end in
    let asks : is_gated e ≡ true = search rules in
    let room : is_window_full e ≡ false = search rules in
    c.is_paced.ensures.end ∙ ap (λ x. with_end c.args.self.now x.end) (sym (gated_paced e asks room))
