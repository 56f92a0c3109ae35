-- Every small change keeps the counts of streams.
use Rattle.std.proofs.Common.{◌≡◌, ℕ, ◌+◌, ◌<◌, ◌≤◌, Bool, true, false, Some, None, refl, arith}
use Rattle.std.specs.Prelude.{nat_le, ◌&&◌, ◌||◌, not, if◌then◌else◌}
use Rattle.std.proofs.lemmas.Bool.{cond_both, leb-false}
use Rattle.quic_wire_core.specs.declared.stream_id.Dir.{Dir}
use Rattle.quic_wire_core.specs.declared.stream_id.Dir.TheVariants.{Bi, Uni}
use Rattle.quic_wire_core.specs.StreamId.{dir_of, index_of}
use Rattle.quic_streams_parts.specs.declared.answers.Breach.TheVariants as breaches
use Rattle.quic_streams_parts.specs.Dirs.{Counts, of, with_of, more, is_own, is_two_way}
use Rattle.quic_streams_parts.specs.Table.{at}
use Rattle.quic_streams_halves.specs.Halves.{without_half, is_done}
use Rattle.quic_streams_state.specs.declared.state.StreamsState.{StreamsState}
use Rattle.quic_streams_state.specs.State.{Opening, is_opened_in, done_if, without_send, receiving_status, sending_status, seen_at}
use Rattle.quic_streams_state.specs.Limits.{most_streams, raised_count}
use Rattle.quic_streams_state.specs.Opening.{opens, beyond, with_remote}
use Rattle.quic_streams_laws.specs.Keeping.{KeepsBy, Keeps}
use Rattle.quic_streams_laws.specs.Keeping as changes
use Rattle.quic_streams_laws.specs.KeepingLaws.{keeps_fewer}
use Rattle.quic_streams_laws.specs.ShapeLaws.{past_remote}
use Rattle.quic_streams_laws.specs.Few.{AreFew}

-- one more of a kind is within a limit that wasn't reached
more_within : (dir d : Dir) (c l : Counts) → of dir c < of dir l → of d c ≤ of d l → of d (more dir c) ≤ of d l
more_within Bi Bi c l lt le = omega arith
more_within Bi Uni c l lt le = le
more_within Uni Bi c l lt le = le
more_within Uni Uni c l lt le = omega arith

with_above : (dir d : Dir) (c l : Counts) (n : ℕ) → of dir l < n → of d c ≤ of d l → of d c ≤ of d (with_of dir n l)
with_above Bi Bi c l n lt le = omega arith
with_above Bi Uni c l n lt le = le
with_above Uni Bi c l n lt le = le
with_above Uni Uni c l n lt le = omega arith

with_below : (dir d : Dir) (l : Counts) (n most : ℕ) → n ≤ most → of d l ≤ most → of d (with_of dir n l) ≤ most
with_below Bi Bi l n most le lt = le
with_below Bi Uni l n most le lt = lt
with_below Uni Bi l n most le lt = lt
with_below Uni Uni l n most le lt = le

-- a stream that a frame opens is one of those that the peer may open
pub within_raised : (s : StreamsState) (id : ℕ) → opens s id ≡ true → beyond s id ≡ None → index_of id < raised_count (dir_of id) s.opening
within_raised s id e within = go (is_own s.side id) refl within
  where
    go : (b : Bool) → is_own s.side id ≡ b
        → (if b then (if is_opened_in s.opening s.side id then None else Some breaches.StreamState) else (if nat_le (raised_count (dir_of id) s.opening) (index_of id) then Some breaches.StreamLimit else None)) ≡ None → index_of id < raised_count (dir_of id) s.opening
    go true is f = absurd (let past = past_remote s id e in let no_own : is_own s.side id ≡ false = past.0 in cc)
    go false is f = late (nat_le (raised_count (dir_of id) s.opening) (index_of id)) refl f
      where
        late : (b : Bool) → nat_le (raised_count (dir_of id) s.opening) (index_of id) ≡ b → (if b then Some breaches.StreamLimit else None) ≡ None → index_of id < raised_count (dir_of id) s.opening
        late true is f = cc
        late false is f = leb-false (raised_count (dir_of id) s.opening) (index_of id) is

remote_within : (dir d : Dir) (n : ℕ) (o : Opening) → n ≤ most_streams → of d o.remote ≤ most_streams → of d (with_remote dir n o).remote ≤ most_streams
remote_within Bi Bi n o le lt = le
remote_within Bi Uni n o le lt = lt
remote_within Uni Bi n o le lt = lt
remote_within Uni Uni n o le lt = le

remote_above : (dir d : Dir) (n : ℕ) (o : Opening) → of dir o.remote ≤ n → of d o.accepted ≤ of d o.remote → of d (with_remote dir n o).accepted ≤ of d (with_remote dir n o).remote
remote_above Bi Bi n o le lt = omega arith
remote_above Bi Uni n o le lt = lt
remote_above Uni Bi n o le lt = lt
remote_above Uni Uni n o le lt = omega arith

same_own : (dir d : Dir) (n : ℕ) (o : Opening) → of d o.own ≤ of d o.own_limit → of d o.own_limit ≤ most_streams → (of d (with_remote dir n o).own ≤ of d (with_remote dir n o).own_limit) × (of d (with_remote dir n o).own_limit ≤ most_streams)
same_own Bi d n o le lt = (le, lt)
same_own Uni d n o le lt = (le, lt)

few_done : (b : Bool) (id : ℕ) (s : StreamsState) → AreFew s → AreFew (done_if b id s)
few_done true id s i = record { own = i.own; own_limit = i.own_limit; remote = i.remote; accepted = i.accepted }
few_done false id s i = i

-- however halves change
pub few_any : KeepsBy (λ r id old new. Unit {0}) (λ s id old new. Unit {0}) (λ s id n old new. Unit {0}) AreFew
few_any (changes.opens_own dir) s lt i = record { own = λ d. more_within dir d s.opening.own s.opening.own_limit lt (i.own d); own_limit = i.own_limit; remote = i.remote; accepted = i.accepted }
few_any (changes.accepts dir) s lt i = record { own = i.own; own_limit = i.own_limit; remote = i.remote; accepted = λ d. more_within dir d s.opening.accepted s.opening.remote lt (i.accepted d) }
few_any (changes.allows dir count) s (le, lt) i = record { own = λ d. with_above dir d s.opening.own s.opening.own_limit count lt (i.own d); own_limit = λ d. with_below dir d s.opening.own_limit count most_streams le (i.own_limit d); remote = i.remote; accepted = i.accepted }
few_any (changes.opens_theirs id) s (e, within) i =
    let below = within_raised s id e within in
    let past = past_remote s id e in
    record {
      own = λ d. (same_own (dir_of id) d (index_of id + 1) s.opening (i.own d) (i.own_limit d)).0;
      own_limit = λ d. (same_own (dir_of id) d (index_of id + 1) s.opening (i.own d) (i.own_limit d)).1;
      remote = λ d. remote_within (dir_of id) d (index_of id + 1) s.opening (omega arith) (i.remote d);
      accepted = λ d. remote_above (dir_of id) d (index_of id + 1) s.opening (omega (arith, past.1)) (i.accepted d);
    }
few_any (changes.joins id h) s may i = cond_both h.blocked s _ AreFew (λ e. i) (λ e. record { own = i.own; own_limit = i.own_limit; remote = i.remote; accepted = i.accepted })
few_any (changes.ends_sending id h) s may i = few_done (not (is_own s.side id) && is_done (receiving_status s id)) id (without_send s id) (record { own = i.own; own_limit = i.own_limit; remote = i.remote; accepted = i.accepted })
few_any (changes.ends_receiving id h) s may i = few_done (not (is_own s.side id) && (not (is_two_way (dir_of id)) || is_done (sending_status s id))) id (record s { receiving = record s.receiving { halves = without_half s.receiving.halves id; gone = s.receiving.gone + seen_at (at s.receiving.halves.live id) } }) (record { own = i.own; own_limit = i.own_limit; remote = i.remote; accepted = i.accepted })
few_any c s may i = record { own = i.own; own_limit = i.own_limit; remote = i.remote; accepted = i.accepted }

pub few_kept : Keeps AreFew
few_kept = keeps_fewer (λ r id old new on. tt) (λ s id old new on. tt) (λ s id n old new on. tt) few_any
