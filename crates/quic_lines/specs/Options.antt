-- What is set of an end before it is made.
use Rattle.std.specs.Prelude.{min, ◌^◌, ◌==◌, ℕ, Bool, true, false, if◌then◌else◌, Option, Some, None}
use Rattle.quic_config.specs.Configs.{SearchSettings, default_search}
use Rattle.quic_config.specs.Transport.{Settings, settings_with, default_transport}
use Rattle.quic_congestion.specs.NewReno.{default_reno}
use Rattle.quic_machine.specs.Parts.{Windows}
use Rattle.quic_machine.specs.End.{KeyLimits}
use Rattle.quic_lines.specs.declared.options.Options.{Options}
use Rattle.quic_lines.specs.declared.script.Setting.{Setting}
use Rattle.quic_lines.specs.declared.script.Setting.TheVariants.{ReceiveWindow, StreamWindow, SendWindow, Bidi, Uni, Idle, Messages, Search, SealLimit, OpenLimit, Validated, Word, Pcg}
use Rattle.quic_keys.specs.declared.words.Source.TheVariants as sources
use Rattle.quic_keys.specs.KeysOf.{usual_limit}

-- the options of an end for which none is set: no greater size is looked for, and its keys have the
-- usual limits
abbrev pub first_options : Options
first_options = record { transport = record default_transport { mtu_discovery_config = None }; seal_limit = usual_limit; open_limit = usual_limit; source = sources.Word 63; validated = true }

-- the settings of an end with these options; none sets a size of datagrams
abbrev pub settings_of : Options → Settings
settings_of o = settings_with (record o.transport { initial_mtu = 1200; min_mtu = 1200; first_sample = None }) true

-- how many bytes of messages an end keeps unread: none, where it takes no messages, for 0
abbrev pub kept_size : ℕ → Option ℕ
kept_size bytes = if bytes == 0 then None else Some bytes

-- how a greater size of datagrams is looked for, where it is
abbrev pub search_if : Bool → Option SearchSettings
search_if true = Some default_search
search_if false = None

-- the options with one of them set
abbrev pub with_setting : Setting → Options → Options
with_setting (ReceiveWindow value) o = record o { transport = record o.transport { receive_window = value } }
with_setting (StreamWindow value) o = record o { transport = record o.transport { stream_receive_window = value } }
with_setting (SendWindow value) o = record o { transport = record o.transport { send_window = value } }
with_setting (Bidi count) o = record o { transport = record o.transport { max_bidi = min count (2 ^ 60) } }
with_setting (Uni count) o = record o { transport = record o.transport { max_uni = min count (2 ^ 60) } }
with_setting (Idle millis) o = record o { transport = record o.transport { max_idle_timeout = Some millis } }
with_setting (Messages bytes) o = record o { transport = record o.transport { datagram_receive_buffer_size = kept_size bytes } }
with_setting (Search on) o = record o { transport = record o.transport { mtu_discovery_config = search_if on } }
with_setting (SealLimit packets) o = record o { seal_limit = packets }
with_setting (OpenLimit packets) o = record o { open_limit = packets }
with_setting (Validated validated) o = record o { validated = validated }
with_setting (Word word) o = record o { source = sources.Word word }
with_setting (Pcg seed) o = record o { source = sources.Pcg seed }

-- how long the keys of an end with these options last
abbrev pub limits_in : Options → KeyLimits
limits_in o = record { seals = o.seal_limit; openings = o.open_limit }

-- the windows that the controller of an end shows as it is made: NewReno as nothing is set of it
abbrev pub first_windows : Windows
first_windows = record { initial = default_reno.initial; present = default_reno.initial }
