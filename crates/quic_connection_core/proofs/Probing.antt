-- What a probe makes of the only packet number space is what it makes of the end.
use Rattle.std.proofs.Common.{◌≡◌, ℕ, Bool, true, false, [], ◌∷◌, Option, Some, None, Result, Ok, Err, OnOk, OnErr, refl, sym, ap, ◌∙◌, subst}
use Rattle.std.specs.Prelude.{not, ◌||◌, nat_lt, if◌then◌else◌}
use Rattle.std.specs.Option.{is_some}
use Rattle.std.specs.Map.{keys_of}
use Rattle.std.specs.BTreeMap.{is_at}
use Rattle.std.specs.Ordering.{nat_cmp}
use Rattle.std.proofs.lemmas.Map.Keys.{sorted_head, sorted_tail}
use Rattle.quic_paths.specs.InFlight.{Flight}
use Rattle.quic_streams_parts.specs.Table.{Table, at}
use Rattle.quic_sent_packets.specs.Packets.{Ascends}
use Rattle.quic_spaces.proofs.Tails.{other_behind}
use Rattle.quic_connection_parts.specs.Flying.{IsInFlight}
use Rattle.quic_connection_parts.proofs.Flights.{same_place, moved_flies}
use Rattle.quic_retransmits.specs.Retransmits.{Retransmits}
use Rattle.quic_streams_state.specs.declared.state.StreamsState.{StreamsState}
use Rattle.quic_streams_state.specs.Waiting.{is_empty}
use Rattle.quic_spaces.specs.Records.{first_record}
use Rattle.quic_spaces.specs.declared.space.PacketSpace.{PacketSpace}
use Rattle.quic_spaces.specs.Space.{Probed, after_probe_queued, probe_queued}
use Rattle.quic_spaces.specs.Space as space
use Rattle.quic_wire.specs.AckView.{counts_view}
use Rattle.quic_machine.specs.Parts.{Marks}
use Rattle.quic_machine.specs.Tracking.{TrackedPacket}
use Rattle.quic_machine.specs.End.{End}
use Rattle.quic_machine.specs.Poll.{hastened, ping_unless, record_moved, probe_filled, probe_if, probed}

-- the counts of marks of a space
abbrev pub marks_of : PacketSpace → Marks
marks_of s = record { came = counts_view s.ecn_counters; told = counts_view s.ecn_feedback }

-- the end whose space this is, and beside whose bytes of streams this waits
abbrev pub with_space : End → Probed → End
with_space e q = record e { numbers = q.space.numbers; acknowledging = q.space.acknowledging; marks = marks_of q.space; tracking = q.space.tracking; waiting = record { signals = record e.waiting.signals { ping = q.space.ping_pending; immediate = q.space.immediate_ack_pending }; frames = q.pending } }

-- both as they are
abbrev pub as_is : PacketSpace → Retransmits → Probed
as_is s p = record { space = s; pending = p }

or_turned : (a b : Bool) → a || b ≡ b || a
or_turned true true = refl
or_turned true false = refl
or_turned false true = refl
or_turned false false = refl

-- PING waits unless IMMEDIATE_ACK does
unless_true : (a b : Bool) → b ≡ true → a || not b ≡ a
unless_true true b is = refl
unless_true false true is = refl
unless_true false false is = sym is

unless_false : (a b : Bool) → b ≡ false → a || not b ≡ true
unless_false true b is = refl
unless_false false false is = refl
unless_false false true is = sym is

-- what a probe makes of an end, where IMMEDIATE_ACK is asked for as its peer takes it
fills : (e : End) (s : PacketSpace) (p : Retransmits) → with_space e (after_probe_queued (is_some e.peer_params.min_ack_delay) s p e.streams) ≡ probed (with_space e (as_is s p))
fills e s p = go (nat_lt 0 s.tracking.probes)
  where
    marked : PacketSpace
    marked = record s { immediate_ack_pending = s.immediate_ack_pending || is_some e.peer_params.min_ack_delay }

    hastens : with_space e (as_is marked p) ≡ hastened (with_space e (as_is s p))
    hastens = ap (λ (b : Bool). with_space e (as_is (record s { immediate_ack_pending = b }) p)) (or_turned s.immediate_ack_pending (is_some e.peer_params.min_ack_delay))

    ping_case : (b : Bool) → marked.immediate_ack_pending ≡ b → with_space e (space.record_moved None marked p) ≡ ping_unless b (with_space e (as_is marked p))
    ping_case true is = ap (λ (ping : Bool). with_space e (as_is (record marked { ping_pending = ping }) p)) (unless_true s.ping_pending marked.immediate_ack_pending is)
    ping_case false is = ap (λ (ping : Bool). with_space e (as_is (record marked { ping_pending = ping }) p)) (unless_false s.ping_pending marked.immediate_ack_pending is)

    record_case : (o : Option (ℕ × TrackedPacket)) → with_space e (space.record_moved o marked p) ≡ record_moved o (with_space e (as_is marked p))
    record_case None = ping_case marked.immediate_ack_pending refl
    record_case (Some r) = refl

    empty_case : (b : Bool) → with_space e (space.probe_filled b marked p e.streams) ≡ probe_filled b (with_space e (as_is marked p))
    empty_case true = record_case (first_record e.streams s.tracking.packets)
    empty_case false = refl

    go : (b : Bool) → with_space e (probe_queued b (is_some e.peer_params.min_ack_delay) s p e.streams) ≡ probe_if b (with_space e (as_is s p))
    go true = empty_case (is_empty p e.streams) ∙ ap (probe_filled (is_empty p e.streams)) hastens
    go false = refl

-- the same of streams that are the end's, where this is asked for
pub probe_fills : (e : End) (s : PacketSpace) (p : Retransmits) (t : StreamsState) (immediate : Bool) → t ≡ e.streams → immediate ≡ is_some e.peer_params.min_ack_delay → with_space e (after_probe_queued immediate s p t) ≡ probed (with_space e (as_is s p))
probe_fills e s p t immediate same asked = ap (λ (b : Bool). with_space e (after_probe_queued b s p t)) asked ∙ ap (λ (x : StreamsState). with_space e (after_probe_queued (is_some e.peer_params.min_ack_delay) s p x)) same ∙ fills e s p

-- what follows where a call was served
pub where_ok : {A E : Type 0} (r : Result A E) (P Q : Type 0) → (P → Q) → OnOk r P → OnOk r Q
where_ok (Ok x) P Q f p = f p
where_ok (Err x) P Q f p = tt

-- what follows of three facts where a call lacked memory
pub where_lacking : {A E : Type 0} (r : Result A E) (P Q R S : Type 0) → (P → Q → R → S) → OnErr r P → OnErr r Q → OnErr r R → OnErr r S
where_lacking (Ok x) P Q R S f p q s = tt
where_lacking (Err x) P Q R S f p q s = f p q s

-- what holds in both cases
pub either_way : {A E : Type 0} (r : Result A E) (P Q R : Type 0) → (P → R) → (Q → R) → OnOk r P → OnErr r Q → R
either_way (Ok x) P Q R f g p q = f p
either_way (Err x) P Q R f g p q = g q

-- ---- what is in flight stays so

-- the packet whose record moves is there
record_there : (t : StreamsState) (es : Table TrackedPacket) (r : ℕ × TrackedPacket) → Ascends es → first_record t es ≡ Some r → at es r.0 ≡ Some r.1
record_there t [] r up is = absurd cc
record_there t (x ∷ es) r up is = go (is_empty x.1.carried.retransmits t) is (record_there t es r (sorted_tail nat_cmp x.0 (keys_of es) up))
  where
    go : (b : Bool) → (if b then first_record t es else Some x) ≡ Some r → (first_record t es ≡ Some r → at es r.0 ≡ Some r.1) → at (x ∷ es) r.0 ≡ Some r.1
    go true found others =
        let there = others found in
        let apart : is_at (nat_cmp r.0) x.0 ≡ false = other_behind es x.0 r.0 r.1 (sorted_head nat_cmp x.0 (keys_of es) up) there in
        rw apart there
    go false found others =
        let same : x ≡ r = cc in
        subst (λ (y : ℕ × TrackedPacket). at (x ∷ es) y.0 ≡ Some y.1) same (rw (same_place x.0) refl)

pub probe_flies : (g : ℕ) (f : Flight) (immediate : Bool) (s : PacketSpace) (p : Retransmits) (t : StreamsState) → Ascends s.tracking.packets → IsInFlight g s.numbers.next s.tracking.packets f
    → IsInFlight g (after_probe_queued immediate s p t).space.numbers.next (after_probe_queued immediate s p t).space.tracking.packets f
probe_flies g f immediate s p t up i = go (nat_lt 0 s.tracking.probes)
  where
    marked : PacketSpace
    marked = record s { immediate_ack_pending = s.immediate_ack_pending || immediate }

    record_case : (o : Option (ℕ × TrackedPacket)) → first_record t s.tracking.packets ≡ o → IsInFlight g (space.record_moved o marked p).space.numbers.next (space.record_moved o marked p).space.tracking.packets f
    record_case None is = i
    record_case (Some r) is = moved_flies g s.numbers.next s.tracking.packets f r i (record_there t s.tracking.packets r up is)

    empty_case : (b : Bool) → IsInFlight g (space.probe_filled b marked p t).space.numbers.next (space.probe_filled b marked p t).space.tracking.packets f
    empty_case true = record_case (first_record t s.tracking.packets) refl
    empty_case false = i

    go : (b : Bool) → IsInFlight g (probe_queued b immediate s p t).space.numbers.next (probe_queued b immediate s p t).space.tracking.packets f
    go true = empty_case (is_empty p t)
    go false = i

-- and no number is given or taken
pub probe_numbers : (immediate : Bool) (s : PacketSpace) (p : Retransmits) (t : StreamsState) → (after_probe_queued immediate s p t).space.numbers ≡ s.numbers
probe_numbers immediate s p t = go (nat_lt 0 s.tracking.probes)
  where
    marked : PacketSpace
    marked = record s { immediate_ack_pending = s.immediate_ack_pending || immediate }

    record_case : (o : Option (ℕ × TrackedPacket)) → (space.record_moved o marked p).space.numbers ≡ s.numbers
    record_case None = refl
    record_case (Some r) = refl

    empty_case : (b : Bool) → (space.probe_filled b marked p t).space.numbers ≡ s.numbers
    empty_case true = record_case (first_record t s.tracking.packets)
    empty_case false = refl

    go : (b : Bool) → (probe_queued b immediate s p t).space.numbers ≡ s.numbers
    go true = empty_case (is_empty p t)
    go false = refl
