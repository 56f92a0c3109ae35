use Rattle.std.proofs.Common.{rules, ◌≡◌, ◌||◌, not, true, false, refl, sym, ap, ◌∙◌}
use Rattle.std.proofs.Math.Bool.{or-true, or_comm}
use Rattle.quic_streams_state.specs.Waiting.{is_empty}
use Rattle.quic_connection_core.proofs.connection.Connection.frames_wait.Goals as goal

pub returns-then-bytes_wait : goal.returns-then-bytes_wait
returns-then-bytes_wait g c =
    let e = c.args.self.now.end in
    let here : c.bytes_wait.result ≡ true = search rules in
    here ∙ sym (ap (λ b. not (is_empty e.waiting.frames e.streams) || b) (sym c.bytes_wait.ensures ∙ here) ∙ or-true (not (is_empty e.waiting.frames e.streams)))

pub returns-else-bytes_wait : goal.returns-else-bytes_wait
returns-else-bytes_wait g c =
    let e = c.args.self.now.end in
    let here : c.bytes_wait.result ≡ false = search rules in
    let same = c.is_empty.ensures ∙ ap (λ w. is_empty w.end.waiting.frames w.end.streams) c.self.view_is in
    ap not same
    ∙ sym (or_comm (not (is_empty e.waiting.frames e.streams)) false ∙ refl)
    ∙ ap (λ b. not (is_empty e.waiting.frames e.streams) || b) (sym here ∙ c.bytes_wait.ensures)
