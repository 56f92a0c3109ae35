use Rattle.std.proofs.Common.{◌+◌, ◌-◌, ◌*◌, ℕ, length, sym, ap, ◌∙◌}
use Rattle.quic_machine.specs.Ids.{Ids}
use Rattle.quic_connection_parts.specs.Drawn.{after_words}
use Rattle.quic_connection_parts.proofs.Drawing.{draws_ids, ids_words}
use Rattle.quic_connection_core.proofs.connection.Connection.draw_ids.Goals as goal

pub returns-clause-end : goal.returns-clause-end
returns-clause-end g c =
    draws_ids g.H.HeaderKey.protection g.K.PacketKey.aead g.K.PacketKey.seal_limit g.K.PacketKey.refusal_limit g.R.Rng.stream _ _ c.draw.new.random c.draw.new.self c.draw.new.pending c.self.view_is c.draw.ensures.ids c.draw.ensures.waits

pub returns-clause-random : goal.returns-clause-random
returns-clause-random g c =
    let i = c.self.inside in
    let stream = g.R.Rng.stream in
    rw (← c.self.view_is) (c.draw.ensures.random
    ∙ ap (λ (k : ℕ). after_words k (stream i.random)) (ids_words i.filter.drawn i.challenges i.ids.own.issued (length i.ids.undrawn) c.draw.ensures.few
    ∙ ap (λ (x : Ids). (i.filter.drawn + 3 * (x.own.issued - 1 - length x.undrawn) + i.challenges) - (i.filter.drawn + 3 * (i.ids.own.issued - 1 - length i.ids.undrawn) + i.challenges)) (sym c.draw.ensures.ids)))
