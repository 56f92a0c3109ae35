-- Bursts of lost packets, by which a path that carries less than before is found out (RFC 8899,
-- section 4.3).
use Rattle.std.specs.Prelude.{ℕ, ◌+◌, ◌==◌, ltb, leb, min, max, Bool, not, cond, ◌&&◌, ◌||◌, List, [], ◌∷◌, length, take, Option, Some, None}
use Rattle.std.specs.List.{filter}

-- packets with consecutive numbers that were lost: the last number, and the least size
pub record Burst : Type 0 where
  pub last : ℕ
  pub size : ℕ

-- the size that every path carries; the size that is known to arrive, and the number of the packet
-- that showed it; the burst that may still grow; and the sizes of the suspicious bursts that are
-- kept, the greatest first
pub record Bursts : Type 0 where
  pub least : ℕ
  pub acked : ℕ
  pub number : ℕ
  pub current : Option Burst
  pub kept : List ℕ

-- nothing is lost, and nothing acknowledged
abbrev pub no_bursts : ℕ → Bursts
no_bursts least = record { least = least; acked = least; number = 0; current = None; kept = [] }

-- whether the path may have begun to carry less: but for sizes that every path carries, and where a
-- later packet at least as large arrived
abbrev pub is_suspicious : Bursts → Burst → Bool
is_suspicious b burst = not (leb burst.size b.least || (ltb burst.last b.number && leb burst.size b.acked))

-- a size put where it belongs among sizes in descending order
abbrev pub placed : ℕ → List ℕ → List ℕ
placed size [] = size ∷ []
placed size (x ∷ xs) = cond (leb x size) (size ∷ x ∷ xs) (x ∷ placed size xs)

-- four are kept: a larger fifth replaces the least
abbrev pub kept_with : ℕ → List ℕ → List ℕ
kept_with size kept = take 4 (placed size kept)

-- the sizes above an acknowledged one
abbrev pub kept_above : ℕ → List ℕ → List ℕ
kept_above size kept = filter (λ x. ltb size x) kept

-- a suspicious burst is kept; one behind the packet that showed a size makes that size doubtful
abbrev pub suspected : Bursts → Burst → Bursts
suspected b burst = record b { acked = cond (ltb b.number burst.last) b.least b.acked; kept = kept_with burst.size b.kept }

-- a burst that has ended is judged
abbrev pub judged : Bursts → Burst → Bursts
judged b burst = cond (is_suspicious b burst) (suspected b burst) b

-- the same, if there is one
abbrev pub judged_if : Option Burst → Bursts → Bursts
judged_if None b = b
judged_if (Some burst) b = judged b burst

-- the current burst has ended
abbrev pub ended : Bursts → Bursts
ended b = judged_if b.current (record b { current = None })

-- a burst of one packet begins
abbrev pub begun_at : ℕ → ℕ → Bursts → Bursts
begun_at number size b = record b { current = Some (record { last = number; size = size }) }

-- a packet was lost: the next of the current burst, or else the first of another
abbrev pub lost_behind : Option Burst → ℕ → ℕ → Bursts → Bursts
lost_behind None number size b = begun_at number size b
lost_behind (Some burst) number size b =
    cond (number == burst.last + 1) (begun_at number (min burst.size size) b) (begun_at number size (ended b))

-- a packet that is no probe was lost
abbrev pub after_lost : ℕ → ℕ → Bursts → Bursts
after_lost number size b = lost_behind b.current number size b

-- a packet that is no probe was acknowledged: less than what is known to arrive says nothing, as
-- much renews it, and more shows that bursts of no more than this were due to something else
abbrev pub after_acknowledged : ℕ → ℕ → Bursts → Bursts
after_acknowledged number size b =
    cond (ltb size b.acked) b
    (cond (size == b.acked) (record b { number = max b.number number })
    (record b { acked = size; number = number; kept = kept_above size b.kept }))

-- a probe was acknowledged: it is larger than all that went before
abbrev pub after_probe : ℕ → ℕ → Bursts → Bursts
after_probe number size b = record b { acked = size; number = number; kept = [] }

-- whether more than three bursts are suspicious once the current one has ended
abbrev pub is_black_hole : Bursts → Bool
is_black_hole b = ltb 3 (length (ended b).kept)

-- the losses were told: the current burst ends, and of a path that carries less nothing more is
-- held
abbrev pub after_told : Bursts → Bursts
after_told b = cond (is_black_hole b) (record (ended b) { kept = [] }) (ended b)

-- what happens to packets: a number and a size of one that was lost, acknowledged, or an
-- acknowledged probe; and the question for a black hole
pub data Sign : Type 0 where
  PacketLost : ℕ → ℕ → Sign
  PacketAcknowledged : ℕ → ℕ → Sign
  ProbeAcknowledged : ℕ → ℕ → Sign
  LossesTold : Sign

-- the losses after a sign
abbrev pub bursts_after : Sign → Bursts → Bursts
bursts_after (PacketLost number size) b = after_lost number size b
bursts_after (PacketAcknowledged number size) b = after_acknowledged number size b
bursts_after (ProbeAcknowledged number size) b = after_probe number size b
bursts_after LossesTold b = after_told b

-- after a history, the latest first
abbrev pub bursts_over : Bursts → List Sign → Bursts
bursts_over b [] = b
bursts_over b (sign ∷ earlier) = bursts_after sign (bursts_over b earlier)
