-- Connection IDs that an end gives its peer, at worked values. Times are in nanoseconds.
use Rattle.std.specs.Prelude.{ℕ, replicate, length, map, Option}
use Rattle.std.specs.List.{range_with_len}
use Rattle.quic_wire_core.specs.declared.shared.IssuedCid.{IssuedCid}
use Rattle.quic_ids.specs.CidState.{OwnIds, initial_ids, after_new, first_expiry}

-- the ID of a number
abbrev pub issued : ℕ → IssuedCid
issued n = record { sequence = n; id = replicate 8 1; reset_token = replicate 16 2 }

-- the ID 0 was issued at 0, and IDs have so many bytes and live so long, if not for ever
abbrev pub one_issued : ℕ → Option ℕ → OwnIds
one_issued id_len lifetime = initial_ids id_len lifetime 0 1

-- the next four are issued at 5
abbrev pub with_four : OwnIds → OwnIds
with_four s = after_new s (map issued (range_with_len s.issued 4)) 5

-- what is seen: how many were issued, how many of them live, the value of retire_prior_to, and when
-- the next batch expires
abbrev pub shown : OwnIds → ℕ × ℕ × ℕ × Option ℕ
shown s = (s.issued, length s.living, s.retire_prior_to, first_expiry s)
