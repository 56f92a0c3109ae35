-- What is left behind a field is no longer than what was there, and behind a number it is shorter.
use Rattle.std.proofs.Common.{◌≡◌, ℕ, ◌≤◌, ◌<◌, Bool, true, false, cond, ltb, eqb, List, length, drop, Option, Some, None, Result, Ok, Err, refl, arith}
use Rattle.std.specs.Int.{Width, w8, w16, w32, w64, byte_len}
use Rattle.std.specs.Prelude.{if◌then◌else◌, slice_index, ◌/◌, ◌^◌}
use Rattle.std.proofs.lemmas.Bool.{ltb-false}
use Rattle.std.proofs.lemmas.List.{length-drop}
use Rattle.quic_wire_core.specs.Varint.{varint_at, wide_at}
use Rattle.quic_wire.specs.declared.frame.FrameError.{FrameError}
use Rattle.quic_wire_core.specs.Taking.{◌>>=◌}
use Rattle.quic_wire.specs.Fields.{field, var_at}

-- at most n bytes are left
abbrev pub LeavesAtMost : {A E : Type 0} → ℕ → Result (A × List ℕ) E → Type 0
LeavesAtMost n (Ok x) = length x.1 ≤ n
LeavesAtMost n (Err e) = Unit {0}

pub record Leaves {A E : Type 0} (n : ℕ) (r : Result (A × List ℕ) E) : Type 0 where
  pub most : LeavesAtMost n r

pub bind : {A B : Type 0} (n : ℕ) (r : Result (A × List ℕ) FrameError) (f : A × List ℕ → Result (B × List ℕ) FrameError) → Leaves n r → ((x : A × List ℕ) → length x.1 ≤ n → Leaves n (f x)) → Leaves n (r >>= f)
bind n (Ok x) f h g = g x h.most
bind n (Err e) f h g = record { most = tt }

pub guard : {A : Type 0} (n : ℕ) (b : Bool) (e : FrameError) (r : Result (A × List ℕ) FrameError) → Leaves n r → Leaves n (if b then Err e else r)
guard n true e r h = record { most = tt }
guard n false e r h = h

-- ---- numbers

-- fewer than n bytes are left
abbrev pub LeavesFewer : {A : Type 0} → ℕ → Option (A × List ℕ) → Type 0
LeavesFewer n (Some x) = length x.1 < n
LeavesFewer n None = Unit {0}

choose_fewer : {A : Type 0} (n : ℕ) (b : Bool) (r s : Option (A × List ℕ)) → LeavesFewer n r → LeavesFewer n s → LeavesFewer n (cond b r s)
choose_fewer n true r s h k = h
choose_fewer n false r s h k = k

wide_fewer_if : (w : Width) (bytes : List ℕ) (x : ℕ) (b : Bool) → 0 < byte_len w → (b ≡ false → byte_len w ≤ length bytes) → LeavesFewer (length bytes) (cond b None (Some (x, drop (byte_len w) bytes)))
wide_fewer_if w bytes x true pos h = tt
wide_fewer_if w bytes x false pos h = let k = h refl in omega (arith, length-drop (byte_len w) bytes)

wide_fewer : (w : Width) (bytes : List ℕ) → 0 < byte_len w → LeavesFewer (length bytes) (wide_at w bytes)
wide_fewer w bytes pos = wide_fewer_if w bytes _ (ltb (length bytes) (byte_len w)) pos (ltb-false _ _)

pub varint_fewer : (bytes : List ℕ) → LeavesFewer (length bytes) (varint_at bytes)
varint_fewer bytes =
    let n = length bytes in let t = slice_index bytes 0 / 2 ^ 6 in
    choose_fewer n (eqb t 0) (wide_at w8 bytes) _ (wide_fewer w8 bytes (omega arith))
    (choose_fewer n (eqb t 1) (wide_at w16 bytes) _ (wide_fewer w16 bytes (omega arith))
    (choose_fewer n (eqb t 2) (wide_at w32 bytes) (wide_at w64 bytes) (wide_fewer w32 bytes (omega arith)) (wide_fewer w64 bytes (omega arith))))

field_leaves : {A : Type 0} (n m : ℕ) (o : Option (A × List ℕ)) → m ≤ n → LeavesFewer m o → Leaves n (field o)
field_leaves n m (Some x) le h = record { most = omega arith }
field_leaves n m None le h = record { most = tt }

-- ---- fields, one line for each

pub var : (n : ℕ) (bytes : List ℕ) → length bytes ≤ n → Leaves n (var_at bytes)
var n bytes le = field_leaves n (length bytes) (varint_at bytes) le (varint_fewer bytes)
