-- The numbers of an end's datagrams, learnt one after another.
use Rattle.std.proofs.Common.{◌≡◌, ℕ, zero, suc, ◌+◌, ◌-◌, ◌<◌, ◌≤◌, List, [], ◌∷◌, ◌++◌, length, take, get_or, Option, Some, None, refl, sym, ap, subst, ◌∙◌, arith, length-append}
use Rattle.std.specs.Prelude.{slice_get}
use Rattle.std.proofs.lemmas.List.{length-take, take-take, take-append-le, take_more}
use Rattle.std.proofs.lemmas.Bool.{lt-ltb, le-ltb}
use Rattle.quic_wire_core.specs.declared.stream_id.Side.{Side}
use Rattle.quic_wire_core.specs.StreamId.{other_side}
use Rattle.quic_packet.specs.declared.crypto.Keys.{Keys}
use Rattle.quic_packet.specs.Datagram.{Opening, opened_packet}
use Rattle.quic_keys.specs.declared.key.PlainHeaderKey.{PlainHeaderKey}
use Rattle.quic_keys.specs.declared.key.PlainKey.{PlainKey}
use Rattle.quic_keys.specs.Plain.{plain_protection, plain_aead}
use Rattle.quic_keys.specs.KeysOf.{keys_of}
use Rattle.quic_run_core.specs.Shown.{parts_of, opening_at, number_behind, number_of, numbers_from, expected_behind, behind_last, AreNumbers, parts_text, shown_text}

-- each datagram has a number
numbers-length : (side : Side) (expected : ℕ) (ds : List (List ℕ)) → length (numbers_from side expected ds) ≡ length ds
numbers-length side expected [] = refl
numbers-length side expected (d ∷ ds) = ap (λ (n : ℕ). suc n) (numbers-length side (number_behind (number_of expected (opening_at side expected d))) ds)

-- the first numbers are those of the first datagrams
numbers-take : (side : Side) (expected i : ℕ) (ds : List (List ℕ)) → take i (numbers_from side expected ds) ≡ numbers_from side expected (take i ds)
numbers-take side expected zero ds = refl
numbers-take side expected (suc i) [] = refl
numbers-take side expected (suc i) (d ∷ ds) =
    let n = number_of expected (opening_at side expected d) in
    ap (λ (ns : List ℕ). n ∷ ns) (numbers-take side (number_behind n) i ds)

-- one datagram more has one number more
numbers-push : (side : Side) (expected : ℕ) (ds : List (List ℕ)) (d : List ℕ) → let x = expected_behind side expected ds in numbers_from side expected (ds ++ d ∷ []) ≡ numbers_from side expected ds ++ number_of x (opening_at side x d) ∷ []
numbers-push side expected [] d = refl
numbers-push side expected (e ∷ ds) d =
    let n = number_of expected (opening_at side expected e) in
    ap (λ (ns : List ℕ). n ∷ ns) (numbers-push side (number_behind n) ds d)

-- the last of some
get_last : (m : ℕ) (ns : List ℕ) → (n : ℕ) × (slice_get (m ∷ ns) (length ns) ≡ Some n)
get_last m [] = (m, refl)
get_last m (n ∷ ns) = get_last n ns

-- the number behind the last of some
last-cons : (expected n : ℕ) (ns : List ℕ) → behind_last expected (slice_get (n ∷ ns) (length (n ∷ ns) - 1)) ≡ behind_last (number_behind n) (slice_get ns (length ns - 1))
last-cons expected n [] = refl
last-cons expected n (m ∷ ns) =
    let more : length (n ∷ m ∷ ns) - 1 ≡ suc (length ns) = omega arith in
    let some : length (m ∷ ns) - 1 ≡ length ns = omega arith in
    let last = get_last m ns in
    rw (more, some, last.1) refl

-- the number behind the last one is the number expected
last-numbers : (side : Side) (expected : ℕ) (ds : List (List ℕ)) → behind_last expected (slice_get (numbers_from side expected ds) (length (numbers_from side expected ds) - 1)) ≡ expected_behind side expected ds
last-numbers side expected [] = refl
last-numbers side expected (d ∷ ds) =
    let n = number_of expected (opening_at side expected d) in
    last-cons expected n (numbers_from side (number_behind n) ds) ∙ last-numbers side (number_behind n) ds

-- there are no more numbers than datagrams
known_fit : (side : Side) (given : List (List ℕ)) (ns : List ℕ) → AreNumbers side given ns → length ns ≤ length given
known_fit side given ns known =
    let same : length ns ≡ length (take (length ns) given) = ap (λ (xs : List ℕ). length xs) known ∙ numbers-length side 0 (take (length ns) given) in
    omega (arith, same, length-take (length ns) given)

-- no number is known
pub known_none : (side : Side) (given : List (List ℕ)) → AreNumbers side given []
known_none side given = refl

-- what is known stands when more datagrams are given
pub known_more : (side : Side) (given more : List (List ℕ)) (ns : List ℕ) → AreNumbers side given ns → AreNumbers side (given ++ more) ns
known_more side given more ns known =
    let fits = known_fit side given ns known in
    rw (take-append-le (length ns) given more fits) known

-- the number expected behind the first of those that are known
pub expected_at : (side : Side) (given : List (List ℕ)) (ns : List ℕ) (i : ℕ) → AreNumbers side given ns → i ≤ length ns → behind_last 0 (slice_get (take i ns) (length (take i ns) - 1)) ≡ expected_behind side 0 (take i given)
expected_at side given ns i known fits =
    let first : take i ns ≡ numbers_from side 0 (take i given) = ap (λ (xs : List ℕ). take i xs) known ∙ numbers-take side 0 i (take (length ns) given) ∙ ap (λ (ds : List (List ℕ)). numbers_from side 0 ds) (take-take i (length ns) given fits) in
    ap (λ (xs : List ℕ). behind_last 0 (slice_get xs (length xs - 1))) first ∙ last-numbers side 0 (take i given)

-- the number of the next datagram is learnt
pub known_push : (side : Side) (given : List (List ℕ)) (ns : List ℕ) (k : ℕ) (d : List ℕ) (x : ℕ) → AreNumbers side given ns → k ≡ length ns → k < length given → d ≡ get_or given k d → x ≡ behind_last 0 (slice_get ns (length ns - 1)) → AreNumbers side given (ns ++ number_of x (opening_at side x d) ∷ [])
known_push side given ns k d x known size fits at is =
    let n = number_of x (opening_at side x d) in
    let some : take (k + 1) given ≡ take k given ++ d ∷ [] = take_more given k d fits ∙ ap (λ (e : List ℕ). take k given ++ e ∷ []) (sym at) in
    let same : ns ≡ numbers_from side 0 (take k given) = rw size known in
    let behind : x ≡ expected_behind side 0 (take k given) = is ∙ ap (λ (xs : List ℕ). behind_last 0 (slice_get xs (length xs - 1))) same ∙ last-numbers side 0 (take k given) in
    let pushed : numbers_from side 0 (take k given ++ d ∷ []) ≡ numbers_from side 0 (take k given) ++ n ∷ [] = rw behind (numbers-push side 0 (take k given) d) in
    let more : length (ns ++ n ∷ []) ≡ k + 1 = length-append ns (n ∷ []) ∙ ap (λ (i : ℕ). i + 1) (sym size) in
    let left : ns ++ n ∷ [] ≡ numbers_from side 0 (take k given) ++ n ∷ [] = ap (λ (xs : List ℕ). xs ++ n ∷ []) same in
    left ∙ sym pushed ∙ ap (λ (ds : List (List ℕ)). numbers_from side 0 ds) (sym some ∙ ap (λ (i : ℕ). take i given) (sym more))

-- a datagram opens to what its packet does
pub opening_at-packet : (side : Side) (expected : ℕ) (d : List ℕ) (keys : Keys PlainHeaderKey PlainKey) (o : Option Opening) → 29 ≤ length d → keys ≡ keys_of (other_side side) → opened_packet plain_protection (plain_aead keys.packet.remote.mark) 9 expected d ≡ o → opening_at side expected d ≡ parts_of o
unfolding opening_at
opening_at-packet side expected d keys o long same opened =
    let is = subst (λ (k : Keys PlainHeaderKey PlainKey). opened_packet plain_protection (plain_aead k.packet.remote.mark) 9 expected d ≡ o) same opened in
    rw (le-ltb (length d) 29 long) (ap (λ (p : Option Opening). parts_of p) is)

-- a short one doesn't open
pub opening_at-short : (side : Side) (expected : ℕ) (d : List ℕ) → length d < 29 → opening_at side expected d ≡ None
unfolding opening_at
opening_at-short side expected d short = rw (lt-ltb (length d) 29 short) refl

-- a datagram that stands at an index
got : (ds : List (List ℕ)) (i : ℕ) (d : List ℕ) → i < length ds → d ≡ get_or ds i d → slice_get ds i ≡ Some d
got [] i d fits is = absurd (omega arith)
got (e ∷ ds) zero d fits is = ap (λ (x : List ℕ). Some x) (sym is)
got (e ∷ ds) (suc i) d fits is = got ds i d (omega arith) is

-- what is shown of it
pub shown-at : (side : Side) (given : List (List ℕ)) (index : ℕ) (d : List ℕ) (x : ℕ) → index < length given → d ≡ get_or given index d → x ≡ expected_behind side 0 (take index given) → shown_text side given index ≡ parts_text (opening_at side x d)
shown-at side given index d x fits at is = rw (got given index d fits at, is) refl
