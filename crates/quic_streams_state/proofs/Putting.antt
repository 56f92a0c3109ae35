-- The frame of the stream that stands first, if it goes.
use Rattle.std.proofs.Common.{◌≡◌, ℕ, ◌+◌, ◌-◌, ◌^◌, ◌≤◌, Bool, true, false, List, Option, Some, None, IsSome, IfSome, Result, Ok, Err, OnOk, OnErr, refl, sym, ap, subst, arith, ◌∙◌}
use Rattle.std.specs.Prelude.{nat_lt, if◌then◌else◌}
use Rattle.quic_wire_core.specs.Varint.{varint_size}
use Rattle.quic_wire_core.specs.Law.{length-shortest}
use Rattle.std.specs.Option.{is_some}
use Rattle.quic_wire.specs.Writing.{width_of}
use Rattle.quic_send_buffer.specs.declared.stream_meta.StreamMeta.{StreamMeta}
use Rattle.quic_streams_parts.specs.Table.{at}
use Rattle.quic_streams_parts.specs.SendHalf.{SendHalf, frame_counts}
use Rattle.quic_streams_halves.specs.Queued.{counting_at}
use Rattle.quic_streams_state.specs.Parts.{Sending}
use Rattle.quic_streams_state.specs.State.{StreamsState}
use Rattle.quic_streams_state.specs.Sends.{sent_in, sent_if_counts_in}
use Rattle.quic_streams_state.specs.Frames.{stream_if, counting, first_in, going, noted_in}

-- how much room the frame of a stream has
abbrev room_of : ℕ → ℕ → ℕ
room_of left id = left - (1 + width_of id)

going_of : (s : StreamsState) (left n : ℕ) → first_in s left ≡ Some n → going s left ≡ stream_if (at s.sending.halves.live n) left n
going_of s left n is = ap (λ (o : Option ℕ). counting o s left) is

-- none stands there
pub none_goes : (s : StreamsState) (left : ℕ) → first_in s left ≡ None → going s left ≡ None
none_goes s left is = ap (λ (o : Option ℕ). counting o s left) is

-- one stands there whose frame brings something, or one whose frame doesn't
pub data Stands (s : StreamsState) (left n : ℕ) : Type 0 where
  goes : (h : SendHalf) → at s.sending.halves.live n ≡ Some h → frame_counts h (room_of left n) ≡ true → going s left ≡ Some n → Stands s left n
  waits : counting_at (at s.sending.halves.live n) (room_of left n) ≡ None → going s left ≡ None → Stands s left n

pub stands : (s : StreamsState) (left n : ℕ) → first_in s left ≡ Some n → Stands s left n
stands s left n is = by_half (at s.sending.halves.live n) refl
  where
    by_test : (b : Bool) (h : SendHalf) → at s.sending.halves.live n ≡ Some h → frame_counts h (room_of left n) ≡ b → Stands s left n
    by_test true h found e = goes h found e (going_of s left n is ∙ ap (λ (o : Option SendHalf). stream_if o left n) found ∙ ap (λ (b : Bool). if b then Some n else None) e)
    by_test false h found e = waits (ap (λ (o : Option SendHalf). counting_at o (room_of left n)) found ∙ ap (λ (b : Bool). if b then Some h else None) e) (going_of s left n is ∙ ap (λ (o : Option SendHalf). stream_if o left n) found ∙ ap (λ (b : Bool). if b then Some n else None) e)

    by_half : (o : Option SendHalf) → at s.sending.halves.live n ≡ o → Stands s left n
    by_half None found = waits (ap (λ (o : Option SendHalf). counting_at o (room_of left n)) found) (going_of s left n is ∙ ap (λ (o : Option SendHalf). stream_if o left n) found)
    by_half (Some h) found = by_test (frame_counts h (room_of left n)) h found refl

counts : (o : Option SendHalf) (h : SendHalf) (room : ℕ) → o ≡ Some h → frame_counts h room ≡ true → counting_at o room ≡ o
counts o h room found e = ap (λ (x : Option SendHalf). counting_at x room) found ∙ ap (λ (b : Bool). if b then Some h else None) e ∙ sym found

same_id : (n id : ℕ) (o : Option ℕ) → o ≡ Some n → o ≡ Some id → n ≡ id
same_id n id o a b = cc

none_some : (o : Option ℕ) (id : ℕ) → o ≡ None → o ≡ Some id → ⊥
none_some o id a b = cc

-- what is so of the half whose frame went
pub went : (s : StreamsState) (left n : ℕ) → first_in s left ≡ Some n → (P : ℕ → ℕ → SendHalf → Type 0) → IfSome (counting_at (at s.sending.halves.live n) (room_of left n)) (P n (room_of left n))
    → (id : ℕ) → going s left ≡ Some id → IfSome (at s.sending.halves.live id) (P id (room_of left id))
went s left n is P p id g = go (stands s left n is)
  where
    go : Stands s left n → IfSome (at s.sending.halves.live id) (P id (room_of left id))
    go (goes h found e first) =
        subst (λ (k : ℕ). IfSome (at s.sending.halves.live k) (P k (room_of left k))) (same_id n id (going s left) first g)
        (subst (λ (o : Option SendHalf). IfSome o (P n (room_of left n))) (counts (at s.sending.halves.live n) h (room_of left n) found e) p)
    go (waits none first) = absurd (none_some (going s left) id first g)

-- what is sent then
pub sent_then : (fair : Bool) (s t : StreamsState) (left n : ℕ) → first_in s left ≡ Some n → t ≡ record s { sending = sent_if_counts_in fair (at s.sending.halves.live n) s.sending n (room_of left n) }
    → (id : ℕ) → going s left ≡ Some id → t ≡ record s { sending = sent_in fair (at s.sending.halves.live id) s.sending id (room_of left id) }
sent_then fair s t left n is e id g = e ∙ go (stands s left n is)
  where
    go : Stands s left n → record s { sending = sent_if_counts_in fair (at s.sending.halves.live n) s.sending n (room_of left n) } ≡ record s { sending = sent_in fair (at s.sending.halves.live id) s.sending id (room_of left id) }
    go (goes h found test first) =
        ap (λ (o : Option SendHalf). let y : StreamsState = record s { sending = sent_if_counts_in fair o s.sending n (room_of left n) } in y) found
        ∙ ap (λ (b : Bool). let y : StreamsState = record s { sending = if b then sent_in fair (Some h) s.sending n (room_of left n) else s.sending } in y) test
        ∙ ap (λ (o : Option SendHalf). let y : StreamsState = record s { sending = sent_in fair o s.sending n (room_of left n) } in y) (sym found)
        ∙ ap (λ (k : ℕ). let y : StreamsState = record s { sending = sent_in fair (at s.sending.halves.live k) s.sending k (room_of left k) } in y) (same_id n id (going s left) first g)
    go (waits none first) = absurd (none_some (going s left) id first g)

-- and noted
pub noted_then : (s : StreamsState) (left n : ℕ) (old new : List StreamMeta) → first_in s left ≡ Some n → new ≡ noted_in (counting_at (at s.sending.halves.live n) (room_of left n)) n (room_of left n) old
    → (id : ℕ) → going s left ≡ Some id → new ≡ noted_in (at s.sending.halves.live id) id (room_of left id) old
noted_then s left n old new is e id g = e ∙ go (stands s left n is)
  where
    go : Stands s left n → noted_in (counting_at (at s.sending.halves.live n) (room_of left n)) n (room_of left n) old ≡ noted_in (at s.sending.halves.live id) id (room_of left id) old
    go (goes h found test first) =
        ap (λ (o : Option SendHalf). noted_in o n (room_of left n) old) (counts (at s.sending.halves.live n) h (room_of left n) found test)
        ∙ ap (λ (k : ℕ). noted_in (at s.sending.halves.live k) k (room_of left k) old) (same_id n id (going s left) first g)
    go (waits none first) = absurd (none_some (going s left) id first g)

-- where none goes, its part brings nothing
pub none_counts : (s : StreamsState) (left n : ℕ) → first_in s left ≡ Some n → going s left ≡ None → counting_at (at s.sending.halves.live n) (room_of left n) ≡ None
none_counts s left n is g = go (stands s left n is)
  where
    go : Stands s left n → counting_at (at s.sending.halves.live n) (room_of left n) ≡ None
    go (goes h found test first) = absurd (none_some (going s left) n g first)
    go (waits none first) = none

pub nothing_sent : (fair : Bool) (s : Sending) (id room : ℕ) → counting_at (at s.halves.live id) room ≡ None → sent_if_counts_in fair (at s.halves.live id) s id room ≡ s
nothing_sent fair s id room none = go (at s.halves.live id) none
  where
    by_test : (b : Bool) (h : SendHalf) → (if b then Some h else None) ≡ None → (if b then sent_in fair (Some h) s id room else s) ≡ s
    by_test true h e = cc
    by_test false h e = refl

    go : (o : Option SendHalf) → counting_at o room ≡ None → sent_if_counts_in fair o s id room ≡ s
    go None e = refl
    go (Some h) e = by_test (frame_counts h room) h e

-- whether one goes
pub goes_if : (s : StreamsState) (left n : ℕ) → first_in s left ≡ Some n → is_some (counting_at (at s.sending.halves.live n) (room_of left n)) ≡ true → Some n ≡ going s left
goes_if s left n is e = go (stands s left n is)
  where
    wrong : (o : Option SendHalf) → o ≡ None → is_some o ≡ true → ⊥
    wrong o none some = cc

    go : Stands s left n → Some n ≡ going s left
    go (goes h found test first) = sym first
    go (waits none first) = absurd (wrong (counting_at (at s.sending.halves.live n) (room_of left n)) none e)

pub waits_if : (s : StreamsState) (left n : ℕ) → first_in s left ≡ Some n → is_some (counting_at (at s.sending.halves.live n) (room_of left n)) ≡ false → None ≡ going s left
waits_if s left n is e = go (stands s left n is)
  where
    wrong : (o : Option SendHalf) (h : SendHalf) → o ≡ Some h → is_some o ≡ false → ⊥
    wrong o h some none = cc

    go : Stands s left n → None ≡ going s left
    go (goes h found test first) = absurd (wrong (counting_at (at s.sending.halves.live n) (room_of left n)) h (counts (at s.sending.halves.live n) h (room_of left n) found test ∙ found) e)
    go (waits none first) = sym first

lacks : IsSome {T = SendHalf} None → ⊥
lacks e = cc

pub some_goes : (s : StreamsState) (left n : ℕ) → first_in s left ≡ Some n → IsSome (counting_at (at s.sending.halves.live n) (room_of left n)) → IsSome (going s left)
some_goes s left n is some = go (stands s left n is)
  where
    go : Stands s left n → IsSome (going s left)
    go (goes h found test first) = subst (λ (o : Option ℕ). IsSome o) (sym first) refl
    go (waits none first) = absurd (lacks (subst (λ (o : Option SendHalf). IsSome o) none some))

-- an id takes a byte at least
pub wide : (id : ℕ) → 1 ≤ width_of id
wide id = let len = length-shortest id in let some = go (nat_lt id (2 ^ 6)) (nat_lt id (2 ^ 14)) (nat_lt id (2 ^ 30)) in omega (arith, len, some)
  where
    go : (a b c : Bool) → 1 ≤ (if a then 1 else (if b then 2 else (if c then 4 else 8)))
    go true b c = omega arith
    go false true c = omega arith
    go false false true = omega arith
    go false false false = omega arith

-- the stream that goes next, where one does
pub record Next (o : Option ℕ) : Type 0 where
  pub id : ℕ
  pub is : o ≡ Some id

pub next : (o : Option ℕ) → IsSome o → Next o
next None e = absurd (no_stream e)
  where
    no_stream : IsSome {T = ℕ} None → ⊥
    no_stream e = cc
next (Some id) e = record { id = id; is = refl }
