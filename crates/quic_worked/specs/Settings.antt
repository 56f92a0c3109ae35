-- The settings of ends in worked runs.
use Rattle.std.specs.Prelude.{None, false}
use Rattle.quic_config.specs.Transport.{Settings, default_settings}

-- those where nothing is set but that there is no idle timeout, so that its timer isn't set, and
-- that the peer isn't told that it may ask how often to acknowledge, so that its probes have no
-- IMMEDIATE_ACK
abbrev pub search_settings : Settings
search_settings = record default_settings { max_idle_timeout = None; ack_frequency_support = false }

-- those where no greater size of datagrams is looked for besides, so that a poll that has nothing
-- to give gives nothing
abbrev pub plain_settings : Settings
plain_settings = record search_settings { mtu_discovery_config = None }
