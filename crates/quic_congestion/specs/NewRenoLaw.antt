-- NewReno keeps what is said of every controller: the size handed in last, and the room for two
-- datagrams of it.
use Rattle.std.specs.Prelude.{ℕ, ◌+◌, ◌-◌, ◌*◌, ◌<◌, ◌≤◌, ◌^◌, max, min, Bool, true, false, ◌||◌, if◌then◌else◌, nat_le, nat_lt, refl}
use Rattle.std.proofs.Common.{arith}
use Rattle.quic_congestion.specs.Congestion.{KeepsRoom, TakesSize}
use Rattle.quic_congestion.specs.NewReno.{Reno, loss_leaves, bytes_sum, is_past, grown, recounted, raised, reno_acked, recovering, collapsed, reno_congested, reno_resized}

-- a NewReno keeps its size, and the room for two datagrams of it
abbrev pub Keeps : Reno → Reno → Type 0
Keeps old new = KeepsRoom (λ (r : Reno). r.size) (λ (r : Reno). r.window) old new

-- room is left in a sum
room_in_sum : (z w b : ℕ) → z < 2 ^ 16 → 2 * z ≤ w → 2 * z ≤ min (w + b) (2 ^ 64 - 1)
room_in_sum z w b sized room = omega arith

-- and in the greater of two windows
room_in_max : (w z : ℕ) → 2 * z ≤ max w (2 * z)
room_in_max w z = omega arith

room_in_two : (z : ℕ) → 2 * z ≤ 2 * z
room_in_two z = omega arith

-- a state keeps its own room
pub stays : (r : Reno) → Keeps r r
stays r = record { size_stays = refl; room_stays = λ h. h }

-- so does either of two states that keep it
either_keeps : (b : Bool) (r x y : Reno) → Keeps r x → Keeps r y → Keeps r (if b then x else y)
either_keeps true r x y h k = h
either_keeps false r x y h k = k

grown_keeps : (r : Reno) (bytes : ℕ) → Keeps r (grown r (bytes_sum r.window bytes))
grown_keeps r bytes = record {
  size_stays = refl;
  room_stays = λ h. record { sized = h.sized; room = room_in_sum r.size r.window bytes h.sized h.room };
}

recounted_keeps : (r : Reno) (counted : ℕ) → Keeps r (recounted r counted)
recounted_keeps r counted =
    either_keeps (nat_le r.window counted) r (record r { counted = counted - r.window; window = bytes_sum r.window r.size }) (record r { counted = counted })
    (record {
      size_stays = refl;
      room_stays = λ h. record { sized = h.sized; room = room_in_sum r.size r.window r.size h.sized h.room };
    })
    (record { size_stays = refl; room_stays = λ h. h })

pub acked_keeps_room : (r : Reno) (sent bytes : ℕ) (app_limited : Bool) → Keeps r (reno_acked r sent bytes app_limited)
acked_keeps_room r sent bytes app_limited =
    either_keeps (app_limited || is_past r sent) r r (raised r bytes)
    (stays r)
    (either_keeps (nat_lt r.window r.threshold) r (grown r (bytes_sum r.window bytes)) (recounted r (bytes_sum r.counted bytes))
    (grown_keeps r bytes)
    (recounted_keeps r (bytes_sum r.counted bytes)))

collapsed_keeps : (r : Reno) (now : ℕ) → Keeps r (collapsed (recovering r now))
collapsed_keeps r now = record {
  size_stays = refl;
  room_stays = λ h. record { sized = h.sized; room = room_in_two r.size };
}

recovering_keeps : (r : Reno) (now : ℕ) → Keeps r (recovering r now)
recovering_keeps r now = record {
  size_stays = refl;
  room_stays = λ h. record { sized = h.sized; room = room_in_max (loss_leaves r.settings r.window) r.size };
}

pub congested_keeps_room : (r : Reno) (now sent : ℕ) (persistent : Bool) → Keeps r (reno_congested r now sent persistent)
congested_keeps_room r now sent persistent =
    either_keeps (is_past r sent) r r (if persistent then collapsed (recovering r now) else recovering r now)
    (stays r)
    (either_keeps persistent r (collapsed (recovering r now)) (recovering r now) (collapsed_keeps r now) (recovering_keeps r now))

pub resized_takes_size : (r : Reno) (size : ℕ) → TakesSize (λ (s : Reno). s.size) (λ (s : Reno). s.window) r size (reno_resized r size)
resized_takes_size r size = record {
  size_taken = refl;
  room_stays = λ fits h. record { sized = fits; room = room_in_max r.window size };
}
