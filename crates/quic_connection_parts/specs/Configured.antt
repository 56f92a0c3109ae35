-- A configuration as contracts see it.
use Rattle.quic_config.specs.Transport.{Settings}

-- the settings of an end, and what makes its congestion controller
pub record Configured (F : Type 0) : Type 0 where
  pub settings : Settings
  pub factory : F
