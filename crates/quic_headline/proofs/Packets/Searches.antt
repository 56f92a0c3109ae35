-- What the search for a size changes where packets are lost: itself, and which messages wait; and
-- all else is as it would be without. And what it changes where an end is polled, and which room
-- for frames that leaves.
use Rattle.std.proofs.Common.{◌≡◌, ℕ, ◌<◌, ◌≤◌, ◌^◌, length, min, nat_lt, None, refl, sym, ap, ◌∙◌, subst}
use Rattle.std.specs.Prelude.{if◌then◌else◌}
use Rattle.quic_config.specs.Transport.{TransportSettings}
use Rattle.quic_congestion.specs.Search.{Discovery, after_poll}
use Rattle.quic_messages.specs.Messages.{Messages, without_longer}
use Rattle.quic_streams_parts.specs.Table.{Table}
use Rattle.quic_machine.specs.Sizes.{after_lost, search_asked, search_lost}
use Rattle.quic_machine.specs.Tracking.{TrackedPacket, lost_by, after_detection}
use Rattle.quic_machine.specs.Closing.{Closing, ticked}
use Rattle.quic_machine.specs.Parts.{Path, current_mtu}
use Rattle.quic_machine.specs.Ids.{Ids}
use Rattle.quic_machine.specs.DraftLaws.{HasRoom}
use Rattle.quic_machine.specs.PollCases.{ready_at, gate_leaves, probe_leaves, by_probed, by_ready, ready_leaves}
use Rattle.quic_machine.specs.End.{End, number_of, with_closing, with_tracking, with_discovery, with_queued}
use Rattle.quic_machine.specs.Acked.{packets_lost, verdict, losses_detected}
use Rattle.quic_machine.specs.FrameCases.{packets_lost_keep, by_searched}
use Rattle.quic_machine.specs.Control.{Gated, with_pacing_timer}
use Rattle.quic_machine.specs.Poll.{most_ordinary, probed, gated, Ready, request_queued}

-- ---- where packets are lost

-- the end whose losses were detected, with this search and these messages
abbrev pub found : End → Discovery → Messages → End
found e discovery queues = with_queued (with_discovery (with_tracking (packets_lost (lost_by (verdict e) e.tracking.packets) e) (after_detection (verdict e) e.tracking)) discovery) queues

losses_leave : (e : End) → losses_detected e ≡ found e (losses_detected e).path.discovery (losses_detected e).messages.queues
losses_leave e =
    let lost = lost_by (verdict e) e.tracking.packets in
    let left : End = with_tracking (packets_lost lost e) (after_detection (verdict e) e.tracking) in
    by_searched (after_lost left.closing.clock lost left.path.discovery) left (λ (x : End). x ≡ found e x.path.discovery x.messages.queues) refl (λ most. refl)

-- What holds whichever search and messages there are holds where losses were detected.
pub by_losses : (P : End → Type 0) (e : End) → ((discovery : Discovery) (queues : Messages) → P (found e discovery queues)) → P (losses_detected e)
by_losses P e each = subst P (sym (losses_leave e)) (each (losses_detected e).path.discovery (losses_detected e).messages.queues)

-- What stays where another search begins and where messages are dropped that are too long stays
-- where the search learns of packets that are lost.
pub search_keeps : (P : End → Type 0) → ((d : Discovery) (e : End) → P e → P (with_discovery e d)) → ((most : ℕ) (e : End) → P e → P (with_queued e (without_longer most e.messages.queues)))
    → (lost : Table TrackedPacket) (e : End) → P e → P (search_lost lost e)
search_keeps P searched shortens lost e i =
    let d : Discovery = after_lost e.closing.clock lost e.path.discovery in
    let told : P (with_discovery e d) = searched d e i in
    by_searched d e P told (λ most. shortens most (with_discovery e d) told)

-- so it stays where losses were detected
pub losses_searched : (P : End → Type 0) → ((d : Discovery) (e : End) → P e → P (with_discovery e d)) → ((most : ℕ) (e : End) → P e → P (with_queued e (without_longer most e.messages.queues)))
    → (e : End) → P (with_tracking (packets_lost (lost_by (verdict e) e.tracking.packets) e) (after_detection (verdict e) e.tracking)) → P (losses_detected e)
losses_searched P searched shortens e i =
    let lost = lost_by (verdict e) e.tracking.packets in
    search_keeps P searched shortens lost (with_tracking (packets_lost lost e) (after_detection (verdict e) e.tracking)) i

-- the search itself learns of the packets
pub losses_search : (e : End) → (losses_detected e).path.discovery ≡ after_lost e.closing.clock (lost_by (verdict e) e.tracking.packets) e.path.discovery
losses_search e =
    let lost = lost_by (verdict e) e.tracking.packets in
    let left : End = with_tracking (packets_lost lost e) (after_detection (verdict e) e.tracking) in
    let d : Discovery = after_lost left.closing.clock lost left.path.discovery in
    let path = packets_lost_keep (λ (x : End). x.path ≡ e.path) (λ m x same. same) (λ c x same. same) lost e refl in
    let closing = packets_lost_keep (λ (x : End). x.closing ≡ e.closing) (λ m x same. same) (λ c x same. same) lost e refl in
    by_searched d left (λ (x : End). x.path.discovery ≡ d) refl (λ most. refl)
    ∙ ap (λ (c : Closing). after_lost c.clock lost left.path.discovery) closing
    ∙ ap (λ (p : Path). after_lost e.closing.clock lost p.discovery) path

-- ---- where an end is polled

-- what stays where it is asked stays where an end is made ready
pub ready_searched : (Q : Discovery → Type 0) → ((now number : ℕ) (d : Discovery) → Q d → Q (after_poll now number d)) → (e : End) (now : ℕ) → Q e.path.discovery → Q (ready_at e now).end.path.discovery
ready_searched Q asks e now i = by_ready (request_queued (probed x)) (λ (r : Ready). Q r.end.path.discovery) (λ blocked. begins) (λ free. record {
  acks = λ held due. before;
  held = λ held none. before;
  all = λ free some. before;
  idle = λ free none. before;
  asked = λ free none. after;
  probes = λ size free none may named. after;
})
  where
    x : End
    x = with_pacing_timer (with_closing e (ticked e.closing now)) None

    g : Gated
    g = gated (request_queued (probed x))

    begins : Q (request_queued (probed x)).path.discovery
    begins = subst Q (sym (ap (λ (z : End). z.path.discovery) (probe_leaves x))) i

    before : Q g.end.path.discovery
    before = subst Q (sym (ap (λ (z : End). z.path.discovery) (gate_leaves (request_queued (probed x))))) begins

    after : Q (search_asked g.end).path.discovery
    after = asks g.end.closing.clock (number_of g.end) g.end.path.discovery before

-- which leaves the size
pub ready_size : (e : End) (now : ℕ) → current_mtu (ready_at e now).end.path ≡ current_mtu e.path
ready_size e now = ready_searched (λ (d : Discovery). d.size ≡ current_mtu e.path) (λ moment number d same. same) e now refl

-- nor does it change how many probes of losses wait
pub ready_probes : (e : End) (now : ℕ) → (ready_at e now).end.tracking.probes ≡ e.tracking.probes
ready_probes e now = by_ready (request_queued (probed x)) (λ (r : Ready). r.end.tracking.probes ≡ e.tracking.probes) (λ blocked. begins) (λ free. record {
  acks = λ held due. before;
  held = λ held none. before;
  all = λ free some. before;
  idle = λ free none. before;
  asked = λ free none. before;
  probes = λ size free none may named. before;
})
  where
    x : End
    x = with_pacing_timer (with_closing e (ticked e.closing now)) None

    begins : (request_queued (probed x)).tracking.probes ≡ e.tracking.probes
    begins = by_probed x (λ (z : End). z.tracking.probes ≡ e.tracking.probes) refl (λ immediate. refl) (λ immediate. refl) (λ immediate q probes is. refl)

    before : (gated (request_queued (probed x))).end.tracking.probes ≡ e.tracking.probes
    before = ap (λ (z : End). z.tracking.probes) (gate_leaves (request_queued (probed x))) ∙ begins

-- ---- room for frames

-- it stays where id, size and settings do
pub room_stays : (e f : End) → f.ids ≡ e.ids → current_mtu f.path ≡ current_mtu e.path → f.transport ≡ e.transport → HasRoom e → HasRoom f
room_stays e f ids size transport room = (
  subst (λ (x : Ids). length x.peer.id ≤ 20) (sym ids) room.0,
  subst (λ (n : ℕ). 1200 ≤ n) (sym size) room.1,
  subst (λ (n : ℕ). n < 2 ^ 16) (sym size) room.2,
  subst (λ (t : TransportSettings). 1200 ≤ t.min_mtu) (sym transport) room.3,
)

-- so it does where an end is made ready
pub ready_room : (e : End) (now : ℕ) → HasRoom e → HasRoom (ready_at e now).end
ready_room e now room = room_stays e (ready_at e now).end (ap (λ (x : End). x.ids) (ready_leaves e now)) (ready_size e now) (ap (λ (x : End). x.transport) (ready_leaves e now)) room

-- how many bytes an ordinary datagram has at most stays where size, settings and the probes that
-- wait do
pub most_stays : (e f : End) → f.tracking.probes ≡ e.tracking.probes → current_mtu f.path ≡ current_mtu e.path → f.transport ≡ e.transport → most_ordinary f ≡ most_ordinary e
most_stays e f probes size transport =
    ap (λ (n : ℕ). if nat_lt 0 n then min f.transport.min_mtu (current_mtu f.path) else current_mtu f.path) probes
    ∙ ap (λ (n : ℕ). if nat_lt 0 e.tracking.probes then min f.transport.min_mtu n else n) size
    ∙ ap (λ (t : TransportSettings). if nat_lt 0 e.tracking.probes then min t.min_mtu (current_mtu e.path) else current_mtu e.path) transport

pub ready_most : (e : End) (now : ℕ) → most_ordinary (ready_at e now).end ≡ most_ordinary e
ready_most e now = most_stays e (ready_at e now).end (ready_probes e now) (ready_size e now) (ap (λ (x : End). x.transport) (ready_leaves e now))

-- where no probe waits, that is the size
pub unprobed_most : (e : End) → e.tracking.probes ≡ 0 → most_ordinary e ≡ current_mtu e.path
unprobed_most e none = ap (λ (n : ℕ). if nat_lt 0 n then min e.transport.min_mtu (current_mtu e.path) else current_mtu e.path) none
