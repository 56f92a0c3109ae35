-- What a write takes is within all limits.
use Rattle.std.proofs.Common.{◌≡◌, ℕ, ◌≤◌, Bool, true, false, Option, Some, None, IfSome, Result, Ok, Err, refl, arith}
use Rattle.std.specs.Prelude.{min, not, ◌||◌, ◌==◌, if◌then◌else◌}
use Rattle.std.specs.Option.{is_some}
use Rattle.quic_streams_parts.specs.declared.answers.WriteError.{WriteError}
use Rattle.quic_streams_parts.specs.declared.answers.WriteError.TheVariants as write_errors
use Rattle.quic_streams_parts.specs.SendHalf.{SendHalf, room_on, is_ready, taken_unless, written_to}
use Rattle.quic_streams_halves.specs.Halves.{half_of, status_from}

not_taken : (x : WriteError) (n : ℕ) → Err x ≡ Ok n → ⊥
not_taken x n e = cc

least : (z : Bool) (m n : ℕ) (x : WriteError) → (if z then Err x else Ok m) ≡ Ok n → n ≡ m
least true m n x e = absurd (not_taken x n e)
least false m n x e = cc

no_reset : (o : Option ℕ) (f : Bool) → not (f || is_some o) ≡ true → o ≡ None
no_reset None f e = refl
no_reset (Some x) true e = cc
no_reset (Some x) false e = cc

-- what is accepted fits the half and the connection, and the half wasn't reset
pub taken : (h : SendHalf) (room len n : ℕ) → written_to (Some h) room len ≡ Ok n → (n ≤ room_on h) × (n ≤ room) × (h.reset ≡ None)
taken h room len n e = go (room == 0) (is_ready h) h.stopped refl e
  where
    go : (b r : Bool) (st : Option ℕ) → is_ready h ≡ r → (if b then Err write_errors.Blocked else (if r then taken_unless st h room len else Err write_errors.ClosedStream)) ≡ Ok n → (n ≤ room_on h) × (n ≤ room) × (h.reset ≡ None)
    go true r st is e = absurd (not_taken write_errors.Blocked n e)
    go false false st is e = absurd (not_taken write_errors.ClosedStream n e)
    go false true (Some code) is e = absurd (not_taken (write_errors.Stopped code) n e)
    go false true None is e =
        let m : n ≡ min len (min room (room_on h)) = least (room_on h == 0) (min len (min room (room_on h))) n write_errors.Blocked e in
        (omega arith, omega arith, no_reset h.reset h.finished is)

-- the same of a half that is in use
pub live_taken : (o : Option SendHalf) (new : SendHalf) (opened used : Bool) (room len n : ℕ) → written_to (half_of new (status_from o opened used)) room len ≡ Ok n → IfSome o (λ h. (n ≤ room_on h) × (n ≤ room) × (h.reset ≡ None))
live_taken None new opened used room len n e = tt
live_taken (Some h) new opened used room len n e = taken h room len n e
