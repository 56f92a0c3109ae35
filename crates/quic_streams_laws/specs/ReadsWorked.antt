-- What is said of reading, worked on rows.
use Rattle.std.proofs.Common.{◌≡◌, ℕ, length, [], ◌∷◌, ◌++◌, Bool, true, false, List, Some, None, Ok, Err, refl, arith}
use Rattle.std.specs.Prelude.{not, ltb}
use Rattle.std.proofs.lemmas.Bool.{and_parts}
use Rattle.quic_wire.specs.Value.{StreamValue}
use Rattle.quic_assembler.specs.Arrived.{in_chunk}
use Rattle.quic_assembler.specs.ArrivedHistory.{was_given}
use Rattle.quic_streams_parts.specs.declared.answers.ReadError.TheVariants as read_errors
use Rattle.quic_streams_parts.specs.RecvHalf.{RecvHalf, new_recv_half, after_frame, after_reset_stream, begun, read_on, next_of}
use Rattle.quic_streams_laws.specs.Written.{Wrote}
use Rattle.quic_streams_laws.specs.Reads.{Reads, nothing_read, read_begun_by, read_next_by, bytes_of, AreSlices, AreDistinct, FollowOn, IsNextOf}
use Rattle.quic_streams_laws.specs.ReadsLaws.{all_read}
use Rattle.quic_streams_laws.specs.Kept.{BringsNothing}

-- ---- one stream, on which three bytes were written before it ended

abbrev three : Wrote
three = record { bytes = 7 ∷ 8 ∷ 9 ∷ []; ended = true; reset = None }

-- the first two, and the third with the end
abbrev front : StreamValue
front = record { id = 0; offset = 0; fin = false; bytes = 7 ∷ 8 ∷ [] }

abbrev last : StreamValue
last = record { id = 0; offset = 2; fin = true; bytes = 9 ∷ [] }

-- the last came first
abbrev late : RecvHalf
late = after_frame (new_recv_half 10) last

-- nothing is read in order
pub blocked_at_first : next_of late 9 ≡ Err read_errors.Blocked
blocked_at_first = refl

-- but out of order
pub last_given : next_of (begun late false) 9 ≡ Ok (Some (record { offset = 2; bytes = 9 ∷ [] }))
last_given = refl

-- all of it came
abbrev whole : RecvHalf
whole = after_frame late front

-- two bytes are read, and then the third
pub front_given : next_of whole 9 ≡ Ok (Some (record { offset = 0; bytes = 7 ∷ 8 ∷ [] }))
front_given = refl

pub third_given : next_of (read_on whole 9) 9 ≡ Ok (Some (record { offset = 2; bytes = 9 ∷ [] }))
third_given = refl

-- and the end
pub end_told : next_of (read_on (read_on whole 9) 9) 9 ≡ Ok None
end_told = refl

-- a reset comes before the bytes that wait
pub reset_told : next_of (after_reset_stream whole 5 3) 9 ≡ Err (read_errors.Reset 5)
reset_told = refl

-- ---- what was read

-- both chunks of the first stream
abbrev both_read : ℕ → Reads
both_read = read_next_by (Ok (Some (record { offset = 2; bytes = 9 ∷ [] }))) 0 (read_next_by (Ok (Some (record { offset = 0; bytes = 7 ∷ 8 ∷ [] }))) 0 (λ id. nothing_read))

pub bytes_read : bytes_of (both_read 0).chunks ≡ 7 ∷ 8 ∷ 9 ∷ []
bytes_read = refl

-- nothing of another
pub none_apart : both_read 4 ≡ nothing_read
none_apart = refl

-- a read that isn't in order is noted, one that is refused isn't
pub noted : (read_begun_by (Ok tt) false 0 both_read 0).unordered ≡ true
noted = refl

pub in_order : (read_begun_by (Ok tt) true 0 both_read 0).unordered ≡ false
in_order = refl

-- they follow one another
pub both_follow : FollowOn 0 (both_read 0).chunks
both_follow = (refl, (refl, tt))

-- ---- what isn't so

-- the third byte, where nothing was read before it, doesn't follow
pub not_first : FollowOn 0 (record { offset = 2; bytes = 9 ∷ [] } ∷ []) → ⊥
not_first f = let e : ◌≡◌ {A = ℕ} 2 0 = f.0 in omega arith

-- a byte that wasn't written is no slice
pub not_written : AreSlices three.bytes (record { offset = 0; bytes = 5 ∷ [] } ∷ []) → ⊥
not_written a = other a.0.before a.0.place a.0.is
  where
    other : (xs : List ℕ) → length xs ≡ 0 → (xs ++ 5 ∷ []) ++ a.0.behind ≡ 7 ∷ 8 ∷ 9 ∷ [] → ⊥
    other [] e is = let first : ◌≡◌ {A = ℕ} 5 7 = cc in omega arith
    other (x ∷ xs) e is = omega arith

-- one byte read twice
pub not_twice : AreDistinct (record { offset = 0; bytes = 7 ∷ [] } ∷ record { offset = 0; bytes = 7 ∷ [] } ∷ []) → ⊥
not_twice d = let e : true ≡ false = d.0 0 refl in cc

-- the end, where a byte wasn't read
pub not_at_end : IsNextOf three (record { chunks = record { offset = 0; bytes = 7 ∷ 8 ∷ [] } ∷ []; unordered = false }) (Ok None) → ⊥
not_at_end n = let e : false ≡ true = n.1 2 (omega arith) in cc

-- a frame with the third byte brings what may be read next, where two were
pub brings_third : BringsNothing (record { chunks = record { offset = 0; bytes = 7 ∷ 8 ∷ [] } ∷ []; unordered = false }) last → ⊥
brings_third b = b.ordered refl (omega arith) (omega arith)

-- and one whose bytes were all read brings the end
pub brings_end : BringsNothing (both_read 0) last → ⊥
brings_end b = b.end refl (λ o lt. all_read three.bytes (both_read 0).chunks slices once refl o (omega arith))
  where
    slices : AreSlices three.bytes (both_read 0).chunks
    slices = (record { before = []; behind = 9 ∷ []; is = refl; place = refl }, (record { before = 7 ∷ 8 ∷ []; behind = []; is = refl; place = refl }, tt))

    once : AreDistinct (both_read 0).chunks
    once = (λ o e. apart o e, (λ o e. refl, tt))
      where
        apart : (o : ℕ) → in_chunk (Some (record { offset = 0; bytes = 7 ∷ 8 ∷ [] })) o ≡ true → was_given (record { offset = 2; bytes = 9 ∷ [] } ∷ []) o ≡ false
        apart o e = go (ltb o 2) refl (and_parts (not (ltb o 0)) (ltb o 2) e).1
          where
            go : (c : Bool) → ltb o 2 ≡ c → c ≡ true → was_given (record { offset = 2; bytes = 9 ∷ [] } ∷ []) o ≡ false
            go true q f = rw q refl
            go false q f = cc
