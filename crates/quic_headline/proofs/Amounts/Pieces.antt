-- The pieces that calls added: of each stream they lie one behind another, and by one call more
-- only those of its stream are more.
use Rattle.std.proofs.Common.{◌≡◌, ℕ, ◌+◌, ◌-◌, Bool, true, false, List, [], ◌∷◌, ◌++◌, length, take, Ok, refl, sym, ap, ◌∙◌, arith, append_assoc, append-nil, length-append, length-take}
use Rattle.std.specs.Prelude.{min, ◌==◌, if◌then◌else◌, map}
use Rattle.std.proofs.lemmas.Bool.{eqb-true}
use Rattle.quic_send_buffer.specs.Buffered.{Buffered, piece_of, bytes_in, after_write, after_writes}
use Rattle.quic_send_buffer.specs.Source.{cut_to}
use Rattle.quic_machine.specs.declared.run.Call.{Call}
use Rattle.quic_machine.specs.declared.run.Call.TheVariants as calls
use Rattle.quic_machine.specs.declared.run.Answer.{Answer}
use Rattle.quic_machine.specs.declared.run.Answer.TheVariants as answers
use Rattle.quic_headline.specs.Runs.{Told, joined, written_by, written}
use Rattle.quic_headline.specs.Amounts.{Piece, laid, shares, pieces_by, pieces_behind, pieces_of}
use Rattle.quic_headline.proofs.Halves.Wrote.{written_more}

-- ---- sizes

-- the sizes of the pieces that a call added on a stream
abbrev pub sizes_by : ℕ → Call → Answer → List ℕ
sizes_by id (calls.Write s bytes) (answers.Write (Ok count)) = if s == id then length (take count bytes) ∷ [] else []
sizes_by id (calls.WriteChunks s buffers) (answers.WriteChunks (Ok w)) = if s == id then shares w.bytes buffers.items else []
sizes_by id call a = []

-- those of several
abbrev pub sizes : ℕ → List Told → List ℕ
sizes id [] = []
sizes id (t ∷ ts) = sizes_by id t.call t.answer ++ sizes id ts

pub sizes_more : (id : ℕ) (told : List Told) (t : Told) → sizes id (told ++ t ∷ []) ≡ sizes id told ++ sizes_by id t.call t.answer
sizes_more id [] t = append-nil (sizes_by id t.call t.answer)
sizes_more id (u ∷ told) t = ap (λ (ns : List ℕ). sizes_by id u.call u.answer ++ ns) (sizes_more id told t) ∙ sym (append_assoc (sizes_by id u.call u.answer) (sizes id told) (sizes_by id t.call t.answer))

-- as many bytes lie in buffers as there are, or as are to lie in them
pub shares_sum : (n : ℕ) (bs : List (List ℕ)) → bytes_in (shares n bs) ≡ length (take n (joined bs))
shares_sum n [] = sym (length-take-none n)
  where
    length-take-none : (n : ℕ) → length {A = ℕ} (take n []) ≡ 0
    length-take-none n = let few = length-take {A = ℕ} n [] in omega arith
shares_sum n (b ∷ bs) =
    let rest = shares_sum (n - length b) bs in
    let few = length-take (n - length b) (joined bs) in
    let all = length-take n (b ++ joined bs) in
    let both = length-append b (joined bs) in
    omega arith

-- what a call added on a stream it wrote
sizes_sum_by : (id : ℕ) (call : Call) (a : Answer) → bytes_in (sizes_by id call a) ≡ length (written_by id call a)
sizes_sum_by id (calls.Write s bytes) (answers.Write (Ok count)) = go (s == id)
  where
    go : (b : Bool) → bytes_in (if b then length (take count bytes) ∷ [] else []) ≡ length {A = ℕ} (if b then take count bytes else [])
    go true = omega arith
    go false = refl
sizes_sum_by id (calls.WriteChunks s buffers) (answers.WriteChunks (Ok w)) = go (s == id)
  where
    go : (b : Bool) → bytes_in (if b then shares w.bytes buffers.items else []) ≡ length {A = ℕ} (if b then take w.bytes (joined buffers.items) else [])
    go true = shares_sum w.bytes buffers.items
    go false = refl
sizes_sum_by id call a = refl

pub sum_both : (xs ys : List ℕ) → bytes_in (xs ++ ys) ≡ bytes_in xs + bytes_in ys
sum_both [] ys = omega arith
sum_both (x ∷ xs) ys = let rest = sum_both xs ys in omega arith

pub sizes_sum : (id : ℕ) (told : List Told) → bytes_in (sizes id told) ≡ length (written id told)
sizes_sum id [] = refl
sizes_sum id (t ∷ ts) =
    let one = sizes_sum_by id t.call t.answer in
    let rest = sizes_sum id ts in
    let both = sum_both (sizes_by id t.call t.answer) (sizes id ts) in
    let all = length-append (written_by id t.call t.answer) (written id ts) in
    omega arith

-- ---- pieces of one stream

-- those of a stream
abbrev pub on_stream : ℕ → List Piece → List Piece
on_stream id [] = []
on_stream id (p ∷ ps) = if p.stream == id then p ∷ on_stream id ps else on_stream id ps

on_both : (id : ℕ) (ps qs : List Piece) → on_stream id (ps ++ qs) ≡ on_stream id ps ++ on_stream id qs
on_both id [] qs = refl
on_both id (p ∷ ps) qs = go (p.stream == id) (on_both id ps qs)
  where
    go : (b : Bool) → on_stream id (ps ++ qs) ≡ on_stream id ps ++ on_stream id qs → (if b then p ∷ on_stream id (ps ++ qs) else on_stream id (ps ++ qs)) ≡ (if b then p ∷ on_stream id ps else on_stream id ps) ++ on_stream id qs
    go true rest = ap (λ (rs : List Piece). p ∷ rs) rest
    go false rest = rest

on_laid : (id s at : ℕ) (ns : List ℕ) → on_stream id (laid s at ns) ≡ laid id at (if s == id then ns else [])
on_laid id s at ns = go (s == id) refl
  where
    same : (at : ℕ) (ns : List ℕ) → (s == id) ≡ true → on_stream id (laid s at ns) ≡ laid s at ns
    same at [] is = refl
    same at (n ∷ ns) is = rw is (ap (λ (rs : List Piece). record { stream = s; end = at + n; size = n } ∷ rs) (same (at + n) ns is))

    other : (at : ℕ) (ns : List ℕ) → (s == id) ≡ false → on_stream id (laid s at ns) ≡ []
    other at [] is = refl
    other at (n ∷ ns) is = rw is (other (at + n) ns is)

    go : (b : Bool) → (s == id) ≡ b → on_stream id (laid s at ns) ≡ laid id at (if b then ns else [])
    go true is = same at ns is ∙ ap (λ (x : ℕ). laid x at ns) (eqb-true s id is)
    go false is = other at ns is

pub laid_both : (id at : ℕ) (xs ys : List ℕ) → laid id at (xs ++ ys) ≡ laid id at xs ++ laid id (at + bytes_in xs) ys
laid_both id at [] ys = ap (λ (n : ℕ). laid id n ys) (omega arith)
laid_both id at (x ∷ xs) ys = ap (λ (rs : List Piece). record { stream = id; end = at + x; size = x } ∷ rs) (laid_both id (at + x) xs ys ∙ ap (λ (n : ℕ). laid id (at + x) xs ++ laid id n ys) (omega arith))

-- a call's lie behind what was written before
on_call : (id : ℕ) (before : List Told) (call : Call) (a : Answer) → on_stream id (pieces_by before call a) ≡ laid id (length (written id before)) (sizes_by id call a)
on_call id before (calls.Write s bytes) (answers.Write (Ok count)) = on_laid id s (length (written s before)) (length (take count bytes) ∷ []) ∙ here (s == id) refl
  where
    here : (b : Bool) → (s == id) ≡ b → laid id (length (written s before)) (if b then length (take count bytes) ∷ [] else []) ≡ laid id (length (written id before)) (if b then length (take count bytes) ∷ [] else [])
    here true is = ap (λ (x : ℕ). laid id (length (written x before)) (length (take count bytes) ∷ [])) (eqb-true s id is)
    here false is = refl
on_call id before (calls.WriteChunks s buffers) (answers.WriteChunks (Ok w)) = on_laid id s (length (written s before)) (shares w.bytes buffers.items) ∙ here (s == id) refl
  where
    here : (b : Bool) → (s == id) ≡ b → laid id (length (written s before)) (if b then shares w.bytes buffers.items else []) ≡ laid id (length (written id before)) (if b then shares w.bytes buffers.items else [])
    here true is = ap (λ (x : ℕ). laid id (length (written x before)) (shares w.bytes buffers.items)) (eqb-true s id is)
    here false is = refl
on_call id before call a = refl

on_behind : (id : ℕ) (before ts : List Told) → on_stream id (pieces_behind before ts) ≡ laid id (length (written id before)) (sizes id ts)
on_behind id before [] = refl
on_behind id before (t ∷ ts) =
    let more : length (written id (before ++ t ∷ [])) ≡ length (written id before) + bytes_in (sizes_by id t.call t.answer) =
    ap length (written_more id before t) ∙ length-append (written id before) (written_by id t.call t.answer) ∙ ap (λ (n : ℕ). length (written id before) + n) (sym (sizes_sum_by id t.call t.answer)) in
    on_both id (pieces_by before t.call t.answer) (pieces_behind (before ++ t ∷ []) ts)
    ∙ ap (λ (ps : List Piece). ps ++ on_stream id (pieces_behind (before ++ t ∷ []) ts)) (on_call id before t.call t.answer)
    ∙ ap (λ (ps : List Piece). laid id (length (written id before)) (sizes_by id t.call t.answer) ++ ps) (on_behind id (before ++ t ∷ []) ts ∙ ap (λ (n : ℕ). laid id n (sizes id ts)) more)
    ∙ sym (laid_both id (length (written id before)) (sizes_by id t.call t.answer) (sizes id ts))

-- the pieces of a stream lie one behind another, from its first byte on
pub pieces_laid : (id : ℕ) (told : List Told) → on_stream id (pieces_of told) ≡ laid id 0 (sizes id told)
pieces_laid id told = on_behind id [] told

-- ---- pieces as a buffer has them: those with a byte

abbrev pub filled : List ℕ → List ℕ
filled [] = []
filled (n ∷ ns) = piece_of n ++ filled ns

pub filled_both : (xs ys : List ℕ) → filled (xs ++ ys) ≡ filled xs ++ filled ys
filled_both [] ys = refl
filled_both (x ∷ xs) ys = ap (λ (ns : List ℕ). piece_of x ++ ns) (filled_both xs ys) ∙ sym (append_assoc (piece_of x) (filled xs) (filled ys))

-- no byte of buffers
pub no_shares : (bs : List (List ℕ)) → filled (shares 0 bs) ≡ []
no_shares [] = refl
no_shares (b ∷ bs) =
    let few : min 0 (length b) ≡ 0 = omega arith in
    let none : 0 - length b ≡ 0 = omega arith in
    ap (λ (n : ℕ). piece_of n ++ filled (shares (0 - length b) bs)) few ∙ ap (λ (n : ℕ). filled (shares n bs)) none ∙ no_shares bs

-- several writes
pub written_pieces : (b : Buffered) (cs : List (List ℕ)) → (after_writes b cs).pieces ≡ b.pieces ++ filled (map length cs)
written_pieces b [] = sym (append-nil b.pieces)
written_pieces b (c ∷ cs) = written_pieces (after_write b c) cs ∙ append_assoc b.pieces (piece_of (length c)) (filled (map length cs))

pub written_base : (b : Buffered) (cs : List (List ℕ)) → (after_writes b cs).base ≡ b.base
written_base b [] = refl
written_base b (c ∷ cs) = written_base (after_write b c) cs

pub cut_lengths : (n : ℕ) (bs : List (List ℕ)) → map length (cut_to n bs) ≡ shares n bs
cut_lengths n [] = refl
cut_lengths n (b ∷ bs) = rw (cut_lengths (n - length b) bs) (ap (λ (m : ℕ). m ∷ shares (n - length b) bs) (let few = length-take n b in omega arith))
