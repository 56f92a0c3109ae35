-- Two ends that were made for one another, and keys that are lawful.
use Rattle.std.specs.Prelude.{ℕ, ◌≡◌, ◌≤◌, Bool, List, [], length, Ok}
use Rattle.quic_packet.specs.Keys.{KeepsForm, KeepsLength, AddsTag}
use Rattle.quic_congestion.specs.Congestion.{Told, AreSized, last_size, HasRoom}
use Rattle.quic_wire_core.specs.declared.stream_id.Side.TheVariants.{Client, Server}
use Rattle.quic_parameters.specs.ParametersRead.{parameters_at}
use Rattle.quic_config.specs.Transport.{Settings, IsInRange, parameters_of, first_mtu}
use Rattle.quic_machine.specs.Heard.{nothing_heard}
use Rattle.quic_machine.specs.Parts.{Windows}
use Rattle.quic_machine.specs.Policy.{Policy, CanOpen}
use Rattle.quic_machine.specs.End.{MadeFrom, most_payload}
use Rattle.quic_machine.specs.Opens.{own_id_length}
use Rattle.quic_machine.specs.Control.{Control}
use Rattle.quic_machine.specs.Machine.{World, Policies}

-- how one end was made: its settings, the windows that its controller showed, the parameter bytes
-- that the settings come to, its first id, the peer's first address, the moment, whether the path
-- was validated, and the words that its random source answers
pub record Making : Type 0 where
  pub settings : Settings
  pub windows : Windows
  pub parameters : List ℕ
  pub id : List ℕ
  pub remote : ℕ
  pub moment : ℕ
  pub validated : Bool
  pub words : ℕ → ℕ

-- the parameter bytes say the settings, which are in range, and the id has the length of an own id
pub record IsMaking (m : Making) : Type 0 where
  pub range : IsInRange m.settings
  pub says : parameters_at m.parameters ≡ Ok (parameters_of m.settings)
  pub id : length m.id ≡ own_id_length
  -- no path has to carry more than a UDP payload has
  pub sizes : m.settings.min_mtu ≤ most_payload

-- One client and one server, each made from the other's parameter bytes and first id; neither has
-- given anything.
pub record AreStarted (w : World) : Type 0 where
  pub client_making : Making
  pub server_making : Making
  pub client_is : IsMaking client_making
  pub server_is : IsMaking server_making
  pub client : MadeFrom Client client_making.settings client_making.windows server_making.parameters client_making.id server_making.id client_making.remote client_making.moment client_making.validated client_making.words w.client
  pub server : MadeFrom Server server_making.settings server_making.windows client_making.parameters server_making.id client_making.id server_making.remote server_making.moment server_making.validated server_making.words w.server
  pub client_gave : w.from_client ≡ []
  pub server_gave : w.from_server ≡ []
  pub client_heard : w.client_heard ≡ nothing_heard
  pub server_heard : w.server_heard ≡ nothing_heard

-- protecting keeps the top three bits of the first byte and how many bytes the number has; sealing
-- adds 16 bytes (RFC 9001, sections 5.3 and 5.4)
pub record IsLawful (p : Policy) : Type 0 where
  pub form : KeepsForm p.header.mask
  pub width : KeepsLength p.header.hide
  pub tag : AddsTag p.packet.seal

-- the keys are lawful, and mates in both directions
pub record AreKeys (k : Policies) : Type 0 where
  pub client : IsLawful k.client
  pub server : IsLawful k.server
  pub to_server : CanOpen k.client k.server
  pub to_client : CanOpen k.server k.client

-- a controller shows the window of an end as it was made, and keeps room for two datagrams of the
-- size that it was told last, whatever it is told
pub record IsController (control : Control) (size present : ℕ) : Type 0 where
  pub first : control [] ≡ present
  pub room : (told : List Told) → AreSized told → HasRoom size present → HasRoom (last_size size told) (control told)

-- so do the controllers of two ends
pub record AreControlled (w : World) : Type 0 where
  pub client : IsController w.client_control (first_mtu w.client.transport) w.client.path.window
  pub server : IsController w.server_control (first_mtu w.server.transport) w.server.path.window
