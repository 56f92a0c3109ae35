-- Packet numbers that come, at worked values. Times are in nanoseconds.
use Rattle.std.specs.Prelude.{ℕ, ◌*◌, Bool, true, false, List, [], ◌∷◌, fold, map, Option, Some, None}
use Rattle.std.specs.List.{range_with_len}
use Rattle.quic_sets.specs.Runs.{Run}
use Rattle.quic_recovery_core.specs.Duplicates.{Seen, is_duplicate}
use Rattle.quic_recovery_core.specs.Duplicates as duplicates
use Rattle.quic_recovery_core.specs.PendingAcks.{Pending, none_pending, after_insert, after_packet, packet_starts_wait}
use Rattle.quic_spaces.specs.Acknowledging.{with_due}

-- so many milliseconds
abbrev pub millis : ℕ → ℕ
millis n = n * 1000000

-- ---- duplicates

-- the numbers that are told apart after these came, the first of them first
unfoldable pub seen : List ℕ → Seen
seen numbers = fold duplicates.after_insert [] numbers

-- whether each of these numbers counts as one that came before
unfoldable pub told : Seen → List ℕ → List Bool
told s [] = []
told s (n ∷ ns) = is_duplicate s n ∷ told (duplicates.after_insert s n) ns

-- ---- what is to be acknowledged

-- what is to be acknowledged, and the numbers that are told apart
pub record Came : Type 0 where
  pub pending : Pending
  pub seen : Seen

-- nothing came
abbrev pub nothing_came : Came
nothing_came = record { pending = none_pending; seen = [] }

-- what there is when a packet of this number is judged, which came at 0 with CE or without
abbrev pub judged : Bool → Came → ℕ → Came
judged congested c n = record {
  pending = with_due congested (after_insert c.pending n 0);
  seen = duplicates.after_insert c.seen n;
}

-- once it asked for an acknowledgement
abbrev pub asked : Came → ℕ → Came
asked c n = record c { pending = after_packet c.pending 0 n true c.seen }

-- such a packet comes
abbrev pub comes_with : Bool → Came → ℕ → Came
comes_with congested c n = asked (judged congested c n) n

-- without CE
abbrev pub comes : Came → ℕ → Came
comes c n = comes_with false c n

-- whether the timer is to be set then
abbrev pub waits : Came → ℕ → Bool
waits c n = packet_starts_wait (judged false c n).pending n true (judged false c n).seen

-- numbers are to be acknowledged that came at a moment
unfoldable pub with_numbers : ℕ → List ℕ → Pending → Pending
with_numbers now numbers p = fold (λ q n. after_insert q n now) p numbers

-- the peer lets so many packets that ask wait, and numbers be missing so far below the greatest
abbrev pub with_thresholds : ℕ → ℕ → Came → Came
with_thresholds threshold reordering c = record c { pending = record c.pending { threshold = threshold; reordering = reordering } }

-- so many numbers from 0 on, each two above the one before it
unfoldable pub even_numbers : ℕ → List ℕ
even_numbers n = map (λ k. 2 * k) (range_with_len 0 n)

-- where the first of some runs starts
abbrev pub least_start : List Run → Option ℕ
least_start [] = None
least_start (r ∷ rs) = Some r.start
