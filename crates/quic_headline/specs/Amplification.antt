-- How much one end gives to an address that it hasn't validated, whatever comes: no more than three
-- times what came from there (RFC 9000, section 8.1).
use Rattle.std.specs.Prelude.{ℕ, ◌+◌, ◌-◌, ◌*◌, ◌==◌, ◌≤◌, ◌≡◌, not, Bool, true, false, if◌then◌else◌, List, [], ◌∷◌, length, take, drop}
use Rattle.std.specs.List.{list_any}
use Rattle.quic_wire_core.specs.declared.stream_id.Side.{Side}
use Rattle.quic_packet.specs.Keys.{KeepsLength, AddsTag}
use Rattle.quic_config.specs.Transport.{IsInRange}
use Rattle.quic_machine.specs.declared.run.Call.{Call}
use Rattle.quic_machine.specs.declared.run.Answer.{Answer}
use Rattle.quic_machine.specs.Policy.{Policy}
use Rattle.quic_machine.specs.End.{End}
use Rattle.quic_machine.specs.Heard.{nothing_heard}
use Rattle.quic_machine.specs.Machine.{fails, gave}
use Rattle.quic_headline.specs.Runs.{Packet, bytes_in_call}
use Rattle.quic_headline.specs.Observer.{Route, route_behind, serves}
use Rattle.quic_headline.specs.Allowance.{is_from, first_size}
use Rattle.quic_headline.specs.Alone.{Lone, IsNew, GivesAlone}
use Rattle.quic_headline.specs.LoneAcks.{and_call}

-- What counts for the path that an end has: the packets that it took, the latest first; where it
-- takes its peer to be; the datagrams that it gives from here on; and how many bytes came on that
-- path, and how many went.
pub record LoneAllowance : Type 0 where
  pub packets : List Packet
  pub route : Route
  pub left : List (List ℕ)
  pub came : ℕ
  pub went : ℕ

-- those of a list that lie before the last so many others, which stood in it already
abbrev pub news_of : List Packet → List Packet → List Packet
news_of before after = take (length after - length before) after

-- the datagrams that are left where one goes or doesn't
abbrev pub left_behind : Bool → List (List ℕ) → List (List ℕ)
left_behind true ds = drop 1 ds
left_behind false ds = ds

-- One call more, at an end with these keys that is the server or isn't: where the path changed by it,
-- what it handed in came from there, and nothing went yet; else what came from there counts, and the
-- datagram that it gave.
abbrev pub lone_told : Bool → Policy → List (List ℕ) → Call → Answer → LoneAllowance → LoneAllowance
lone_told server p theirs call a x =
    let packets = and_call p theirs call a x.packets in
    let route = route_behind server x.packets (news_of x.packets packets) call x.route in
    let size = bytes_in_call theirs call a in
    let left = left_behind (gave a) x.left in
    if not (route.generation == x.route.generation) then record { packets = packets; route = route; left = left; came = size; went = 0 }
    else record {
      packets = packets;
      route = route;
      left = left;
      came = x.came + (if is_from x.route call then size else 0);
      went = x.went + (if gave a then first_size x.left else 0);
    }

-- calls, one behind another
abbrev pub lone_allowance : Bool → Policy → List (List ℕ) → List Call → List Answer → LoneAllowance → LoneAllowance
lone_allowance server p theirs [] told x = x
lone_allowance server p theirs (call ∷ calls) [] x = x
lone_allowance server p theirs (call ∷ calls) (a ∷ told) x = lone_allowance server p theirs calls told (lone_told server p theirs call a x)

-- nothing came yet to an end whose peer is at this address, and which gives these datagrams
abbrev pub no_lone_allowance : ℕ → List (List ℕ) → LoneAllowance
no_lone_allowance remote given = record { packets = []; route = record { address = remote; generation = 0 }; left = given; came = 0; went = 0 }

-- Where an end of a side, that was made for this address of its peer, shows where its peer is now as
-- not validated, the datagrams that it gave since it took its peer to be there have no more bytes
-- than three times those that these calls handed in from there since then. Behind want of memory
-- nothing is said of what an end shows.
abbrev pub IsThreefold : Policy → List (List ℕ) → Side → ℕ → List Call → List Answer → List (List ℕ) → End → Type 0
IsThreefold p theirs side remote calls told given left =
    let counts = lone_allowance (serves side) p theirs calls told (no_lone_allowance remote given) in
    list_any fails told ≡ false → left.path.validated ≡ false → counts.went ≤ 3 * counts.came

-- An end as it was made by settings in range, for a peer whose id is no longer than ids are (RFC
-- 9000, section 17.2), which has counted nothing.
pub record BeginsAlone (x : Lone) : Type 0 where
  pub new : IsNew x.end
  pub range : IsInRange new.settings
  pub id : length new.peer_id ≤ 20
  pub heard : x.heard ≡ nothing_heard

-- So it is of such an end, whatever datagrams are handed in, where header keys hide as many bytes as
-- stand there, and packet keys add a tag of 16 bytes.
abbrev pub StaysThreefold : Policy → List (List ℕ) → Lone → List Call → List Answer → List (List ℕ) → Lone → Type 0
StaysThreefold p theirs x calls told given left =
    (begins : BeginsAlone x) → KeepsLength p.header.hide → AddsTag p.packet.seal → GivesAlone p theirs x calls told given left
    → IsThreefold p theirs begins.new.side begins.new.remote calls told given left.end
