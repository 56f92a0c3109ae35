use Rattle.quic_config.proofs.SettingsRange.{in_range_with}
use Rattle.quic_connection_parts.proofs.config.Config.parameters.Goals as goal

pub returns-else-self-clause-in_range : goal.returns-else-self-clause-in_range
returns-else-self-clause-in_range g c = rw (← c.self.view_is) (in_range_with c.self.inside.transport c.self.inside.ack_frequency_support c.transport_parameters-told.ensures.in_range)
