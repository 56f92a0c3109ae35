-- What an ACK frame makes of an end, and loss detection (RFC 9000, section 13.1; RFC 9002, sections
-- 5 and 6.1).
use Rattle.std.specs.Prelude.{ℕ, ◌-◌, ◌*◌, ◌^◌, min, Bool, true, false, ◌&&◌, if◌then◌else◌, List, [], ◌∷◌, ◌++◌, length, Option, Some, None, Result, Ok, Err}
use Rattle.quic_send_buffer.specs.declared.stream_meta.StreamMeta.{StreamMeta}
use Rattle.quic_wire.specs.Value.{AckValue}
use Rattle.quic_congestion.specs.Congestion.{Told, Congested}
use Rattle.quic_recovery_core.specs.PendingAcks.{after_subtract}
use Rattle.quic_recovery_core.specs.AckFrequency as frequency
use Rattle.quic_time.specs.Clocks.{saturated}
use Rattle.quic_time.specs.Rtt.{with_sample}
use Rattle.quic_streams_parts.specs.Table.{Table, at}
use Rattle.quic_retransmits.specs.Retransmits.{merged}
use Rattle.quic_streams_state.specs.State.{streams_of}
use Rattle.quic_streams_state.specs.Acked.{after_stream_acked, after_stream_lost, after_reset_acked}
use Rattle.quic_spaces.specs.Numbers.{cut_against}
use Rattle.quic_machine.specs.Tracking.{TrackedPacket, Carried, asks_any, acked_by, not_acked_by, loss_delay, Verdict, verdict_at, lost_by, after_detection, after_answered}
use Rattle.quic_machine.specs.Sizes.{search_acked, search_lost, told_packets, told_losses}
use Rattle.quic_machine.specs.End.{End, with_acknowledging, with_frequency, with_tracking, with_rtt, with_streams, with_told, with_marking, peer_delay}
use Rattle.quic_spaces.specs.Marks.{Counts, marks_refused, marks_judged}
use Rattle.quic_spaces.specs.declared.space.EcnError.{EcnError}
use Rattle.quic_machine.specs.Control.{last_sent, told_acks_ended}

-- ---- a packet that is acknowledged

-- the peer knows of the numbers up to one: they need no more acknowledgement
abbrev pub without_known : Option ℕ → End → End
without_known None e = e
without_known (Some n) e = with_acknowledging e (after_subtract e.acknowledging n)

-- RESET_STREAM of a stream is acknowledged
abbrev pub reset_acked : ℕ → End → End
reset_acked id e = with_streams e (after_reset_acked e.streams e.waiting.frames id)

-- the RESET_STREAM frames of a packet, of these streams with these codes, are acknowledged
abbrev pub resets_acked : List (ℕ × ℕ) → End → End
resets_acked [] e = e
resets_acked (r ∷ rs) e = resets_acked rs (reset_acked r.0 e)

-- a STREAM frame is acknowledged: where its stream is wholly acknowledged then, its end too, the
-- application is told so
abbrev pub stream_acked : StreamMeta → End → End
stream_acked m e = with_streams e (after_stream_acked e.streams e.waiting.frames m)

-- the STREAM frames of a packet are acknowledged
abbrev pub streams_acked : List StreamMeta → End → End
streams_acked [] e = e
streams_acked (m ∷ ms) e = streams_acked ms (stream_acked m e)

-- what a packet carried is acknowledged
abbrev pub carried_acked : Carried → End → End
carried_acked c e = streams_acked c.stream_frames (resets_acked c.retransmits.reset_stream (without_known c.largest_acked e))

-- the packet of a number is acknowledged: where it has the request of how often to acknowledge, the
-- peer keeps to that from now on (QUIC Acknowledgement Frequency, section 4)
abbrev pub request_acked : ℕ → End → End
request_acked n e = with_frequency e (frequency.after_acked e.frequency.in_flight n e.frequency)

-- a packet is acknowledged
abbrev pub packet_acked : ℕ × TrackedPacket → End → End
packet_acked p e = carried_acked p.1.carried (request_acked p.0 (search_acked p e))

-- packets are acknowledged, one after another
abbrev pub packets_acked : Table TrackedPacket → End → End
packets_acked [] e = e
packets_acked (p ∷ ps) e = packets_acked ps (packet_acked p e)

-- ---- a packet that is lost

-- a STREAM frame is lost
abbrev pub stream_lost : StreamMeta → End → End
stream_lost m e = record e { streams = after_stream_lost e.streams m }

-- the STREAM frames of a packet are lost
abbrev pub streams_lost : List StreamMeta → End → End
streams_lost [] e = e
streams_lost (m ∷ ms) e = streams_lost ms (stream_lost m e)

-- what has to be sent again of a packet that is lost, besides
abbrev pub again : Carried → End → End
again c e = with_streams e (streams_of e.streams (merged e.waiting.frames c.retransmits))

-- what a packet carried is lost
abbrev pub carried_lost : Carried → End → End
carried_lost c e = again c (streams_lost c.stream_frames e)

-- packets are lost, one after another
abbrev pub packets_lost : Table TrackedPacket → End → End
packets_lost [] e = e
packets_lost (p ∷ ps) e = packets_lost ps (carried_lost p.1.carried e)

-- the packets that a verdict finds lost are: what they carried waits again, and when the next may
-- be lost by time is known anew
abbrev pub lost_as : Verdict → End → End
lost_as v e =
    let lost = lost_by v e.tracking.packets in
    search_lost lost (with_tracking (packets_lost lost e) (after_detection v e.tracking))

-- how late a packet may be at an end at its moment (RFC 9002, section 6.1)
abbrev pub verdict : End → Verdict
verdict e = verdict_at (cut_against e.numbers) e.transport.packet_threshold (loss_delay e.transport.time_threshold e.path.rtt) e.closing.clock

-- loss detection: what is lost by number or by time
abbrev pub losses_detected : End → End
losses_detected e = lost_as (verdict e) e

-- ---- a round trip is measured (RFC 9002, section 5)

-- how long the peer says that it held an acknowledgement back, in nanoseconds: so many
-- microseconds, shifted by the exponent that it told, but no longer than it may (section 5.3; RFC
-- 9000, section 19.3)
abbrev pub told_delay : End → AckValue → ℕ
told_delay e a = min (saturated (a.delay * 2 ^ e.peer_params.ack_delay_exponent * 1000)) (peer_delay e)

-- the packet that an ACK frame measures, if it measures one: that of the greatest number that it
-- names, where no greater one was acknowledged before, it is among these, which are newly
-- acknowledged, and one of these asks
abbrev pub measured : Bool → AckValue → Table TrackedPacket → Option TrackedPacket
measured rises a acked = if rises && asks_any acked then at acked a.largest else None

-- the number that was next when a round trip was first measured, where one is measured now
abbrev pub first_measured : Option ℕ → ℕ → Option ℕ
first_measured None next = Some next
first_measured (Some first) next = Some first

-- the end with the round trip of a packet as one more sample, if there is one
abbrev pub sampled : Option TrackedPacket → AckValue → End → End
sampled None a e = e
sampled (Some p) a e = with_rtt e (with_sample e.path.rtt (told_delay e a) (e.closing.clock - p.time_sent)) (first_measured e.path.first_after_rtt e.numbers.next)

-- ---- the marks that the peer counted (RFC 9000, section 13.4.2)

-- the counts that came are kept; where they can't be right, nothing is marked any more
abbrev pub counts_judged : Result Bool EcnError → Counts → End → End
counts_judged (Ok grew) counts e = with_told e counts
counts_judged (Err error) counts e = with_marking e false

-- what judging counts answers that came where so many packets were newly acknowledged
abbrev pub counts_answer : End → ℕ → Counts → Result Bool EcnError
counts_answer e newly counts = marks_judged (marks_refused newly e.marks.told counts) e.marks.told counts

-- counts are judged where a number is named above all that were before, since those of an older ACK
-- may be smaller; where none come, the peer or the path doesn't keep marks, and nothing is marked
-- any more
abbrev pub counts_taken : Bool → ℕ → Option Counts → End → End
counts_taken rises newly None e = with_marking e false
counts_taken true newly (Some counts) e = counts_judged (counts_answer e newly counts) counts e
counts_taken false newly (Some counts) e = e

-- while datagrams are marked
abbrev pub counts_seen : Bool → Bool → ℕ → Option Counts → End → End
counts_seen true rises newly counts e = counts_taken rises newly counts e
counts_seen false rises newly counts e = e

-- of an ACK frame that newly acknowledges so many packets
abbrev pub marks_seen : Bool → ℕ → AckValue → End → End
marks_seen rises newly a e = counts_seen e.path.marking rises newly a.ecn e

-- the controller is told where the count of CE grew (RFC 9002, section 7.1): the last packet newly
-- acknowledged went at this moment
abbrev pub told_grown : Result Bool EcnError → ℕ → ℕ → List Told
told_grown (Ok true) now sent = Congested now sent false 0 ∷ []
told_grown r now sent = []

-- of counts that come, or of none
abbrev pub told_taken : Bool → ℕ → Option Counts → ℕ → End → List Told
told_taken true newly (Some counts) sent e = told_grown (counts_answer e newly counts) e.closing.clock sent
told_taken rises newly counts sent e = []

-- while datagrams are marked
abbrev pub told_seen : Bool → Bool → ℕ → Option Counts → ℕ → End → List Told
told_seen true rises newly counts sent e = told_taken rises newly counts sent e
told_seen false rises newly counts sent e = []

-- of an ACK frame that newly acknowledges these packets
abbrev pub told_marks : Bool → Table TrackedPacket → AckValue → End → List Told
told_marks rises acked a e = told_seen e.path.marking rises (length acked) a.ecn (last_sent acked) e

-- ---- an ACK frame

-- the peer answers: no probe has to go
abbrev pub answered : End → End
answered e = with_tracking e (after_answered e.tracking)

-- the end once packets that an ACK frame names are acknowledged: the others stay tracked
abbrev pub without_acked : Table TrackedPacket → AckValue → End → End
without_acked acked a e = with_tracking (packets_acked acked e) (record e.tracking { packets = not_acked_by a e.tracking.packets })

-- of the packets that it names, these are acknowledged, the round trip is measured where it can be,
-- and others are lost
abbrev pub losses_taken : Table TrackedPacket → Bool → AckValue → End → End
losses_taken acked rises a e = answered (losses_detected (sampled (measured rises a acked) a (without_acked acked a e)))

-- an ACK frame that names tracked packets, which are these, or names none: so it is of them, and
-- the counts of marks are judged. `rises` says whether a number is named above all that were before
abbrev pub after_named : Table TrackedPacket → Bool → AckValue → End → End
after_named [] rises a e = e
after_named (p ∷ ps) rises a e = marks_seen rises (length (p ∷ ps)) a (losses_taken (p ∷ ps) rises a e)

-- the end after an ACK frame, whose greatest number is counted already
abbrev pub after_acked : Bool → AckValue → End → End
after_acked rises a e = after_named (acked_by a e.tracking.packets) rises a e

-- ---- what the controller is told of it (RFC 9002, section 7)

-- of the packets that loss detection finds, by an ACK or by time
abbrev pub told_detected : Bool → End → List Told
told_detected by_ack e = told_losses by_ack e (lost_by (verdict e) e.tracking.packets)

-- of the packets that an ACK frame names: these are acknowledged, this ends, and others are lost
abbrev pub told_of_losses : Table TrackedPacket → Bool → AckValue → End → List Told
told_of_losses acked rises a e =
    let left = without_acked acked a e in
    told_packets e acked ++ told_acks_ended left ++ told_detected true (sampled (measured rises a acked) a left)

-- of an ACK frame that names tracked packets, which are these, or names none: so it is of them, and
-- marks may show congestion
abbrev pub told_named : Table TrackedPacket → Bool → AckValue → End → List Told
told_named [] rises a e = []
told_named (p ∷ ps) rises a e = told_of_losses (p ∷ ps) rises a e ++ told_marks rises (p ∷ ps) a (losses_taken (p ∷ ps) rises a e)

-- of an ACK frame, whose greatest number is counted already
abbrev pub told_acked : Bool → AckValue → End → List Told
told_acked rises a e = told_named (acked_by a e.tracking.packets) rises a e
