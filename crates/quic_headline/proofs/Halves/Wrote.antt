-- What an application did on the streams that it writes, as it was told: each call more is one of
-- the words of what was written.
use Rattle.std.proofs.Common.{◌≡◌, ℕ, ◌==◌, ◌||◌, Bool, true, false, List, [], ◌∷◌, ◌++◌, take, Option, Some, None, refl, sym, ap, ◌∙◌, append_assoc, append-nil, eqb-true, eq-eqb}
use Rattle.std.specs.Prelude.{Ok, if◌then◌else◌}
use Rattle.std.specs.List.{concat}
use Rattle.quic_streams_laws.specs.Written.{Wrote, with_bytes, with_end, with_reset, wrote_by, wrote_chunks_by, wrote_end_by, wrote_reset_by}
use Rattle.quic_machine.specs.declared.run.Call.{Call}
use Rattle.quic_machine.specs.declared.run.Call.TheVariants as calls
use Rattle.quic_machine.specs.declared.run.Answer.{Answer}
use Rattle.quic_machine.specs.declared.run.Answer.TheVariants as answers
use Rattle.quic_headline.specs.Runs.{Told, joined, written_by, written, ended_by, ended, reset_by, first_of, reset}

-- what was done on a stream
abbrev pub wrote : List Told → ℕ → Wrote
wrote told id = record { bytes = written id told; ended = ended id told; reset = reset id told }

-- what a call does on streams, by its answer
abbrev pub done_by : Call → Answer → (ℕ → Wrote) → ℕ → Wrote
done_by (calls.Write id bytes) (answers.Write answer) before = wrote_by answer id bytes before
done_by (calls.WriteChunks id chunks) (answers.WriteChunks answer) before = wrote_chunks_by answer id chunks.items before
done_by (calls.Finish id) (answers.Finish answer) before = wrote_end_by answer id before
done_by (calls.Reset id code) (answers.Reset answer) before = wrote_reset_by answer id code before
done_by call a before = before

-- ---- one call more

-- what was done on a stream, with what a call adds
abbrev pub adds : ℕ → Call → Answer → Wrote → Wrote
adds id call a w = record { bytes = w.bytes ++ written_by id call a; ended = w.ended || ended_by id call a; reset = first_of w.reset (reset_by id call a) }

pub or_false : (b : Bool) → (b || false) ≡ b
or_false true = refl
or_false false = refl

or_assoc : (a b c : Bool) → (a || (b || c)) ≡ ((a || b) || c)
or_assoc true b c = refl
or_assoc false b c = refl

or_true : (b : Bool) → (b || true) ≡ true
or_true true = refl
or_true false = refl

pub first_none : (o : Option ℕ) → first_of o None ≡ o
first_none None = refl
first_none (Some code) = refl

first_assoc : (a b c : Option ℕ) → first_of a (first_of b c) ≡ first_of (first_of a b) c
first_assoc None b c = refl
first_assoc (Some code) b c = refl

pub written_more : (id : ℕ) (told : List Told) (t : Told) → written id (told ++ t ∷ []) ≡ written id told ++ written_by id t.call t.answer
written_more id [] t = append-nil (written_by id t.call t.answer)
written_more id (u ∷ told) t = ap (λ (bs : List ℕ). written_by id u.call u.answer ++ bs) (written_more id told t) ∙ sym (append_assoc (written_by id u.call u.answer) (written id told) (written_by id t.call t.answer))

ended_more : (id : ℕ) (told : List Told) (t : Told) → ended id (told ++ t ∷ []) ≡ (ended id told || ended_by id t.call t.answer)
ended_more id [] t = or_false (ended_by id t.call t.answer)
ended_more id (u ∷ told) t = ap (λ (b : Bool). ended_by id u.call u.answer || b) (ended_more id told t) ∙ or_assoc (ended_by id u.call u.answer) (ended id told) (ended_by id t.call t.answer)

pub reset_more : (id : ℕ) (told : List Told) (t : Told) → reset id (told ++ t ∷ []) ≡ first_of (reset id told) (reset_by id t.call t.answer)
reset_more id [] t = first_none (reset_by id t.call t.answer)
reset_more id (u ∷ told) t = ap (first_of (reset_by id u.call u.answer)) (reset_more id told t) ∙ first_assoc (reset_by id u.call u.answer) (reset id told) (reset_by id t.call t.answer)

pub told_more : (told : List Told) (t : Told) (id : ℕ) → wrote (told ++ t ∷ []) id ≡ adds id t.call t.answer (wrote told id)
told_more told t id = rw (written_more id told t, ended_more id told t, reset_more id told t)

-- ---- which stream

same_way : (a b : ℕ) → (a == b) ≡ (b == a)
same_way a b = go (b == a) refl
  where
    go : (t : Bool) → (b == a) ≡ t → (a == b) ≡ t
    go true is = eq-eqb a b (sym (eqb-true b a is))
    go false is = other (a == b) refl
      where
        other : (u : Bool) → (a == b) ≡ u → (a == b) ≡ false
        other false e = e
        other true e = let clash : true ≡ false = sym (eq-eqb b a (sym (eqb-true a b e))) ∙ is in cc

-- nothing is added
adds_none : (w : Wrote) → record { bytes = w.bytes ++ []; ended = w.ended || false; reset = first_of w.reset None } ≡ w
adds_none w = rw (append-nil w.bytes, or_false w.ended, first_none w.reset)

-- buffers, one behind another
joined_is : (bs : List (List ℕ)) → joined bs ≡ concat bs
joined_is [] = refl
joined_is (b ∷ bs) = ap (λ (x : List ℕ). b ++ x) (joined_is bs)

bytes_added : (w : Wrote) (bytes : List ℕ) (s q : ℕ) → record { bytes = w.bytes ++ (if s == q then bytes else []); ended = w.ended || false; reset = first_of w.reset None } ≡ (if q == s then with_bytes bytes w else w)
bytes_added w bytes s q = rw (same_way q s, or_false w.ended, first_none w.reset) (go (s == q))
  where
    go : (b : Bool) → record { bytes = w.bytes ++ (if b then bytes else []); ended = w.ended; reset = w.reset } ≡ (if b then with_bytes bytes w else w)
    go true = refl
    go false = rw (append-nil w.bytes)

end_added : (w : Wrote) (s q : ℕ) → record { bytes = w.bytes ++ []; ended = w.ended || (s == q); reset = first_of w.reset None } ≡ (if q == s then with_end w else w)
end_added w s q = rw (same_way q s, append-nil w.bytes, first_none w.reset) (go (s == q))
  where
    go : (b : Bool) → record { bytes = w.bytes; ended = w.ended || b; reset = w.reset } ≡ (if b then with_end w else w)
    go true = rw (or_true w.ended)
    go false = rw (or_false w.ended)

-- a stream is reset once
reset_added : (w : Wrote) (code s q : ℕ) → (s ≡ q → w.reset ≡ None) → record { bytes = w.bytes ++ []; ended = w.ended || false; reset = first_of w.reset (if s == q then Some code else None) } ≡ (if q == s then with_reset code w else w)
reset_added w code s q first = rw (same_way q s, append-nil w.bytes, or_false w.ended) (go (s == q) refl)
  where
    go : (b : Bool) → (s == q) ≡ b → record { bytes = w.bytes; ended = w.ended; reset = first_of w.reset (if b then Some code else None) } ≡ (if b then with_reset code w else w)
    go true is = ap (λ (o : Option ℕ). record { bytes = w.bytes; ended = w.ended; reset = first_of o (Some code) }) (first (eqb-true s q is))
    go false is = rw (first_none w.reset)

-- ---- each call

-- a reset that is answered Ok is the first of its stream
abbrev pub ResetsFirst : (ℕ → Wrote) → Call → Answer → Type 0
ResetsFirst before (calls.Reset id code) (answers.Reset (Ok done)) = (before id).reset ≡ None
ResetsFirst before call a = Unit {0}

adds_is : (before : ℕ → Wrote) (call : Call) (a : Answer) (q : ℕ) → ResetsFirst before call a → adds q call a (before q) ≡ done_by call a before q
adds_is before (calls.Write id bytes) (answers.Write (Ok n)) q first = bytes_added (before q) (take n bytes) id q
adds_is before (calls.WriteChunks id chunks) (answers.WriteChunks (Ok w)) q first = rw (joined_is chunks.items) (bytes_added (before q) (take w.bytes (concat chunks.items)) id q)
adds_is before (calls.Finish id) (answers.Finish (Ok done)) q first = end_added (before q) id q
adds_is before (calls.Reset id code) (answers.Reset (Ok done)) q first = reset_added (before q) code id q (λ same. ap (λ (n : ℕ). (before n).reset) (sym same) ∙ first)
adds_is before call a q first = adds_none (before q)

-- one call more
pub wrote_more : (told : List Told) (t : Told) (q : ℕ) → ResetsFirst (wrote told) t.call t.answer → wrote (told ++ t ∷ []) q ≡ done_by t.call t.answer (wrote told) q
wrote_more told t q first = told_more told t q ∙ adds_is (wrote told) t.call t.answer q first
