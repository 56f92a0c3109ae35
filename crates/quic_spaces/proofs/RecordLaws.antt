-- Going over packets to the first whose record has something that would be written.
use Rattle.std.proofs.Common.{◌≡◌, ℕ, ◌+◌, ◌<◌, ◌≤◌, ◌^◌, Bool, true, false, not, cond, [], ◌∷◌, Option, Some, None, is_some, IfSome, Result, Ok, Err, OnOk, refl, sym, ap, ◌∙◌, arith}
use Rattle.std.specs.Option.{option_map}
use Rattle.quic_streams_parts.specs.Table.{Table, at, put}
use Rattle.quic_sent_packets.specs.Packets.{TrackedPacket, Ascends, oldest, from, without_record}
use Rattle.quic_retransmits.specs.Retransmits.{Retransmits, merged}
use Rattle.std.specs.declared.alloc.AllocError.{AllocError}
use Rattle.quic_spaces.specs.Tracking.{Tracking}
use Rattle.quic_spaces.specs.declared.space.PacketSpace.{PacketSpace}
use Rattle.quic_spaces.specs.Probes.{moved_for, probe_filled_for}
use Rattle.quic_streams_state.specs.declared.state.StreamsState.{StreamsState}
use Rattle.quic_streams_state.specs.Waiting.{is_empty}
use Rattle.quic_spaces.specs.Records.{first_record, has_record}
use Rattle.quic_spaces.specs.Walks.{StepsTo}
use Rattle.quic_spaces.proofs.Tails.{LieBelow, none_from}
use Rattle.quic_spaces.proofs.WalkLaws.{steps_to, from_zero}

abbrev Packets : Type 0
Packets = Table TrackedPacket

pub first_from_zero : (streams : StreamsState) (es : Packets) → first_record streams (from 0 es) ≡ first_record streams es
first_from_zero streams es = ap (first_record streams) (from_zero es)

step : (low n : ℕ) (es : Packets) → Ascends es → Some n ≡ option_map (λ p. p.0) (oldest (from low es)) → StepsTo low (n + 1) es n
step low n es up first = steps_to low (n + 1) n es up first (omega arith)

pub steps_up : (low n : ℕ) (es : Packets) → Ascends es → Some n ≡ option_map (λ p. p.0) (oldest (from low es)) → low ≤ n
steps_up low n es up first = (step low n es up first).above

-- a packet that has none is passed over
pub passes_empty : (streams : StreamsState) (low n : ℕ) (es : Packets) → Ascends es → Some n ≡ option_map (λ p. p.0) (oldest (from low es)) → has_record streams (at es n) ≡ false → first_record streams (from (n + 1) es) ≡ first_record streams (from low es)
passes_empty streams low n es up first none =
    let s = step low n es up first in
    let empty : is_empty s.packet.carried.retransmits streams ≡ true = twice (is_empty s.packet.carried.retransmits streams) (sym (ap (has_record streams) s.there) ∙ none) in
    sym (ap (first_record streams) s.first ∙ ap (λ (b : Bool). cond b (first_record streams (from (n + 1) es)) (Some (n, s.packet))) empty)
  where
    twice : (b : Bool) → not b ≡ false → b ≡ true
    twice true e = refl
    twice false e = cc

-- one that has one is the first
found_at : (streams : StreamsState) (low n : ℕ) (es : Packets) → Ascends es → Some n ≡ option_map (λ p. p.0) (oldest (from low es)) → has_record streams (at es n) ≡ true → first_record streams (from low es) ≡ option_map (λ p. (n, p)) (at es n)
found_at streams low n es up first has =
    let s = step low n es up first in
    let filled : is_empty s.packet.carried.retransmits streams ≡ false = twice (is_empty s.packet.carried.retransmits streams) (sym (ap (has_record streams) s.there) ∙ has) in
    ap (first_record streams) s.first
    ∙ ap (λ (b : Bool). cond b (first_record streams (from (n + 1) es)) (Some (n, s.packet))) filled
    ∙ sym (ap (λ (o : Option TrackedPacket). option_map (λ p. (n, p)) o) s.there)
  where
    twice : (b : Bool) → not b ≡ true → b ≡ false
    twice true e = cc
    twice false e = refl

pub finds_there : (streams : StreamsState) (low n : ℕ) (es : Packets) → Ascends es → Some n ≡ option_map (λ p. p.0) (oldest (from low es)) → has_record streams (at es n) ≡ true → first_record streams (from low es) ≡ first_record streams es → first_record streams es ≡ option_map (λ p. (n, p)) (at es n)
finds_there streams low n es up first has same = sym same ∙ found_at streams low n es up first has

numbered : (n : ℕ) (o : Option TrackedPacket) → is_some o ≡ true → Some n ≡ option_map (λ (q : ℕ × TrackedPacket). q.0) (option_map (λ (p : TrackedPacket). (n, p)) o)
numbered n None h = cc
numbered n (Some p) h = refl

pub finds_record : (streams : StreamsState) (low n : ℕ) (es : Packets) → Ascends es → Some n ≡ option_map (λ p. p.0) (oldest (from low es)) → has_record streams (at es n) ≡ true → first_record streams (from low es) ≡ first_record streams es → Some n ≡ option_map (λ p. p.0) (first_record streams es)
finds_record streams low n es up first has same =
    numbered n (at es n) (known (at es n) has) ∙ sym (ap (λ (o : Option (ℕ × TrackedPacket)). option_map (λ p. p.0) o) (finds_there streams low n es up first has same))
  where
    known : (o : Option TrackedPacket) → has_record streams o ≡ true → is_some o ≡ true
    known None h = h
    known (Some p) h = refl

-- where none lies from a number on, there is none
pub ends_none : (streams : StreamsState) (es : Packets) → option_map (λ p. p.0) (oldest es) ≡ None → first_record streams es ≡ None
ends_none streams [] e = refl
ends_none streams (x ∷ es) e = absurd cc

pub ends_last : (streams : StreamsState) (n : ℕ) (es : Packets) → 2 ^ 64 ≤ n + 1 → n < 2 ^ 64 → LieBelow (2 ^ 64) es → first_record streams (from (n + 1) es) ≡ None
ends_last streams n es most fits below =
    let last : n + 1 ≡ 2 ^ 64 = omega arith in
    ap (λ (m : ℕ). first_record streams (from m es)) last ∙ ap (first_record streams) (none_from (2 ^ 64) es below)

-- ---- the record of the first moves

-- what is left where it moved
abbrev Moved : PacketSpace → Retransmits → Retransmits → Tracking → ℕ → TrackedPacket → Type 0
Moved s pending after tracking n p = (tracking ≡ record s.tracking { packets = put s.tracking.packets n (without_record p) }) × (after ≡ merged pending p.carried.retransmits)

moves : (s : PacketSpace) (pending after : Retransmits) (tracking : Tracking) (streams : StreamsState) (immediate : Bool) (n : ℕ) (p : TrackedPacket) → first_record streams s.tracking.packets ≡ Some (n, p) → Moved s pending after tracking n p
    → record { space = record s { tracking = tracking }; pending = after } ≡ probe_filled_for immediate s pending streams
moves s pending after tracking streams immediate n p first (t, r) =
    ap (λ (t : Tracking). record { space = record s { tracking = t }; pending = after }) t
    ∙ ap (λ (r : Retransmits). record { space = record s { tracking = record s.tracking { packets = put s.tracking.packets n (without_record p) } }; pending = r }) r
    ∙ ap (λ (o : Option (ℕ × TrackedPacket)). moved_for o immediate s pending) (sym first)

pub record_moves : (s : PacketSpace) (pending after : Retransmits) (tracking : Tracking) (streams : StreamsState) (immediate : Bool) (n : ℕ) (r : Result (Unit {0}) AllocError)
    → Some n ≡ option_map (λ p. p.0) (first_record streams s.tracking.packets)
    → first_record streams s.tracking.packets ≡ option_map (λ p. (n, p)) (at s.tracking.packets n)
    → IfSome (at s.tracking.packets n) (λ p. OnOk r (Moved s pending after tracking n p))
    → OnOk r (record { space = record s { tracking = tracking }; pending = after } ≡ probe_filled_for immediate s pending streams)
record_moves s pending after tracking streams immediate n r some first moved = go (at s.tracking.packets n) r first moved
  where
    go : (o : Option TrackedPacket) (r : Result (Unit {0}) AllocError) → first_record streams s.tracking.packets ≡ option_map (λ p. (n, p)) o → IfSome o (λ p. OnOk r (Moved s pending after tracking n p))
        → OnOk r (record { space = record s { tracking = tracking }; pending = after } ≡ probe_filled_for immediate s pending streams)
    go None r e h = absurd (let no : Some n ≡ None = some ∙ ap (λ (o : Option (ℕ × TrackedPacket)). option_map (λ p. p.0) o) e in cc)
    go (Some p) (Ok u) e h = moves s pending after tracking streams immediate n p e h
    go (Some p) (Err x) e h = tt
