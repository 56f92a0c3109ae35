-- The search for the size of datagrams at an end (RFC 8899; RFC 9000, sections 14.3 and 14.4): when
-- one may be probed, and what the search learns of packets that are acknowledged and lost, of which
-- the controller is told.
use Rattle.std.specs.Prelude.{ℕ, ◌+◌, Bool, true, false, not, ◌&&◌, ◌==◌, nat_lt, if◌then◌else◌, List, [], ◌∷◌, ◌++◌, map, sum_by, Option, Some, None}
use Rattle.std.specs.List.{filter, list_any}
use Rattle.quic_time.specs.Clocks.{saturated}
use Rattle.quic_congestion.specs.Congestion.{Told, Congested, Resized}
use Rattle.quic_congestion.specs.Search.{Discovery, search_bound, open_probe, is_number, poll_names, after_poll, after_ack, after_probe_lost, after_packet_lost, after_question}
use Rattle.quic_messages.specs.Messages.{without_longer}
use Rattle.quic_streams_parts.specs.Table.{Table}
use Rattle.quic_spaces.specs.Persistent.{Loss}
use Rattle.quic_spaces.specs.PersistentSteps.{is_persistent_after}
use Rattle.quic_machine.specs.Tracking.{TrackedPacket}
use Rattle.quic_machine.specs.End.{End, number_of, with_discovery, with_queued}
use Rattle.quic_machine.specs.MessageCalls.{most_message}
use Rattle.quic_machine.specs.Control.{flies, bytes_in_flight, told_packet, persistent_period, last_sent}

-- ---- a size is looked for (RFC 8899, section 5.3)

-- whether the window has room for the greatest size that is looked at
abbrev pub has_window : Option ℕ → End → Bool
has_window None e = false
has_window (Some bound) e = nat_lt (bytes_in_flight e + bound) e.path.window

-- whether one may be looked for: the search isn't disabled, the peer's address is validated, and
-- the window has room
abbrev pub may_search : End → Bool
may_search e = e.path.validated && has_window (search_bound e.path.discovery) e

-- the size that the search names at the moment of the end, if it names one
abbrev pub search_names : End → Option ℕ
search_names e = poll_names e.closing.clock e.path.discovery

-- the end after its search was asked at its moment, with the number that is next
abbrev pub search_asked : End → End
search_asked e = with_discovery e (after_poll e.closing.clock (number_of e) e.path.discovery)

-- ---- a size that changed

-- whether it did
abbrev pub is_resized : Discovery → Discovery → Bool
is_resized d f = not (d.size == f.size)

-- the controller is told of it
abbrev pub told_if_resized : Bool → ℕ → List Told
told_if_resized true size = Resized size ∷ []
told_if_resized false size = []

-- of one search behind another
abbrev pub told_size : Discovery → Discovery → List Told
told_size d f = told_if_resized (is_resized d f) f.size

-- ---- a packet that is acknowledged

-- the open probe, of which the size is that of datagrams from now on, or another packet
abbrev pub with_acked : ℕ × TrackedPacket → Discovery → Discovery
with_acked p d = after_ack p.0 p.1.size d

-- the search learns of it
abbrev pub search_acked : ℕ × TrackedPacket → End → End
search_acked p e = with_discovery e (with_acked p e.path.discovery)

-- the controller is told of the size that changed
abbrev pub told_probe : ℕ × TrackedPacket → Discovery → List Told
told_probe p d = told_size d (with_acked p d)

-- packets are acknowledged, one after another
abbrev pub told_packets : End → Table TrackedPacket → List Told
told_packets e [] = []
told_packets e (p ∷ ps) = told_packet e p ++ told_probe p e.path.discovery ++ told_packets (search_acked p e) ps

-- ---- packets that are lost

-- whether a packet is the open probe
abbrev pub is_probe : Discovery → ℕ × TrackedPacket → Bool
is_probe d p = is_number p.0 (open_probe d)

-- the others: the loss of a probe says that its size is too great, and nothing of congestion (RFC
-- 9000, section 14.4). A probe is one no more where its search ended
abbrev pub others_of : Discovery → Table TrackedPacket → Table TrackedPacket
others_of d lost = filter (λ p. not (is_probe d p)) lost

-- one is lost: the open probe, or another
abbrev pub with_one_lost : Bool → ℕ × TrackedPacket → Discovery → Discovery
with_one_lost true p d = after_probe_lost d
with_one_lost false p d = after_packet_lost p.0 p.1.size d

-- several are, one after another, where this was the number of the open probe before
abbrev pub with_all_lost : Option ℕ → Table TrackedPacket → Discovery → Discovery
with_all_lost probe [] d = d
with_all_lost probe (p ∷ ps) d = with_all_lost probe ps (with_one_lost (is_number p.0 probe) p d)

-- so it is of the probe that is open
abbrev pub with_lost : Table TrackedPacket → Discovery → Discovery
with_lost lost d = with_all_lost (open_probe d) lost d

-- whether they show that the path carries less than before is asked where one of them is no probe
abbrev pub asked_behind : Table TrackedPacket → ℕ → Discovery → Discovery
asked_behind [] now d = d
asked_behind (p ∷ ps) now d = after_question now d

-- the search after packets were lost
abbrev pub after_lost : ℕ → Table TrackedPacket → Discovery → Discovery
after_lost now lost d = asked_behind (others_of d lost) now (with_lost lost d)

-- messages that are longer than one may be now don't go any more
abbrev pub without_longer_if : Option ℕ → End → End
without_longer_if None e = e
without_longer_if (Some most) e = with_queued e (without_longer most e.messages.queues)

-- the size of datagrams fell, or didn't
abbrev pub shortened : Bool → End → End
shortened true e = without_longer_if (most_message e) e
shortened false e = e

-- the end with another search, in which the size may have fallen
abbrev pub with_searched : Discovery → End → End
with_searched d e = shortened (is_resized e.path.discovery d) (with_discovery e d)

-- the search learns of packets that are lost
abbrev pub search_lost : Table TrackedPacket → End → End
search_lost lost e = with_searched (after_lost e.closing.clock lost e.path.discovery) e

-- a packet as one that is lost: the open probe doesn't begin or end the period, as its loss shows
-- no congestion
abbrev pub loss_of : Discovery → ℕ × TrackedPacket → Loss
loss_of d p = record { number = p.0; time_sent = p.1.time_sent; asks = p.1.asks && not (is_probe d p) }

-- whether packets that are lost show persistent congestion
abbrev pub is_persistent : End → Table TrackedPacket → Bool
is_persistent e lost = is_persistent_after (persistent_period e) e.path.first_after_rtt (map (loss_of e.path.discovery) lost)

-- packets are lost, by an ACK or by time: where one of them other than the open probe was in flight
-- on the path, it is congested (RFC 9002, sections 7.3.2 and 7.6); only an ACK shows that
-- congestion persists
abbrev pub told_congested : Bool → End → Table TrackedPacket → List Told
told_congested by_ack e lost =
    let others = others_of e.path.discovery lost in
    if list_any (flies e.path.generation) others
    then Congested e.closing.clock (last_sent others) (by_ack && is_persistent e lost) (saturated (sum_by (λ p. p.1.size) others)) ∷ []
    else []

-- the controller is told of a size that fell, and then of congestion
abbrev pub told_losses : Bool → End → Table TrackedPacket → List Told
told_losses by_ack e lost = told_size e.path.discovery (after_lost e.closing.clock lost e.path.discovery) ++ told_congested by_ack e lost
