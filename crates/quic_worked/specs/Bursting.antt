-- Runs about the size of datagrams, behind the one in which a client finds a larger size: a machine
-- whose size falls as one datagram is lost, and one whose search doesn't rest behind its end (RFC
-- 8899, sections 4.3 and 5.3).
use Rattle.std.specs.Prelude.{ℕ, true, List, [], ◌∷◌, ◌++◌, map, replicate, Some, None, Ok}
use Rattle.quic_wire_core.specs.declared.stream_id.Side.TheVariants.{Client}
use Rattle.quic_wire.specs.Value.{ping, padding}
use Rattle.quic_config.specs.Configs.{SearchSettings, default_search}
use Rattle.quic_config.specs.Transport.{Settings, TransportSettings, parameters_of, transport_of}
use Rattle.quic_machine.specs.declared.run.Answer.TheVariants as answers
use Rattle.quic_machine.specs.declared.run.View.{View}
use Rattle.quic_machine.specs.End.{new_end}
use Rattle.quic_machine.specs.Machine.{World}
use Rattle.quic_headline.specs.Runs.{Run}
use Rattle.quic_headline.specs.Observer.{Sent}
use Rattle.quic_headline.specs.PathSizes.{Sizing, first_sizing}
use Rattle.quic_worked.specs.Worked.{started, with_client, gives_bytes, server_id, view_with, server_open, client_id, steady}
use Rattle.quic_worked.specs.Acknowledged.{client_datagram}
use Rattle.quic_worked.specs.Timed.{serves, asks_at}
use Rattle.quic_worked.specs.Searched.{found_view, searched_run}
use Rattle.quic_worked.specs.Settings.{search_settings, plain_settings}

-- ---- bursts

-- datagrams of 1300 bytes with these numbers, which ask
abbrev pub long_ones : List ℕ → List Sent
long_ones numbers = map (λ n. record { id = server_id; number = n; reference = 0; frames = ping ∷ []; moment = 0; size = 1300; generation = 0 }) numbers

abbrev pub searching : TransportSettings
searching = transport_of search_settings

-- a path whose datagrams have 1326 bytes
abbrev pub long_path : Sizing
long_path = first_sizing 1326 searching

-- ---- one loss

-- a client that shows this size, while its timer of losses isn't set
abbrev pub sized_view : ℕ → View
sized_view size = record { client = record (view_with None None) { current_mtu = size }; server = server_open }

-- once the larger size was found, the client's ids, which went before the probe, are lost by time;
-- it shows this size then
abbrev pub lost_run : ℕ → Run
lost_run size = record searched_run {
  events = searched_run.events ++ serves Client 45000000 ∷ [];
  answers = searched_run.answers ++ answers.Timeout (Ok tt) ∷ [];
  views = searched_run.views ++ sized_view size ∷ [];
}

-- ---- no rest

-- a client that looks for sizes up to 1326 bytes in steps of 126: its search ends with the first
abbrev pub one_step : SearchSettings
one_step = record default_search { upper_bound = 1326; least_change = 126 }

abbrev pub ending_settings : Settings
ending_settings = record search_settings { mtu_discovery_config = Some one_step }

abbrev pub ending_start : World
ending_start = with_client started (new_end Client ending_settings steady (parameters_of plain_settings) client_id server_id 0 0 true (λ n. 63))

-- a probe of 1400 bytes, a millisecond behind the end of its search
abbrev pub restless_sent : Sent
restless_sent = record { id = server_id; number = 2; reference = 1; frames = ping ∷ replicate 1373 padding; moment = 41000000; size = 1400; generation = 0 }

-- a client that gives it
abbrev pub restless_run : Run
restless_run = record searched_run {
  start = ending_start;
  events = searched_run.events ++ asks_at Client 41000000 ∷ [];
  answers = searched_run.answers ++ gives_bytes 1400 ∷ [];
  views = searched_run.views ++ found_view ∷ [];
  from_client = searched_run.from_client ++ client_datagram 2 1 (0x01 ∷ replicate 1373 0x00) ∷ [];
}
