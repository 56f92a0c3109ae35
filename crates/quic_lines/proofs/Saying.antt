-- How the words of a line are read, one after another.
use Rattle.std.proofs.Common.{◌≡◌, ℕ, ◌+◌, ◌<◌, ◌^◌, ◌==◌, List, [], ◌∷◌, length, drop, Bool, true, false, cond, not, ◌&&◌, nat_lt, if◌then◌else◌, Option, Some, None, Ok, ok_or, refl, arith}
use Rattle.std.specs.List.{onto_first, position_or_len, before_first, after_first}
use Rattle.std.specs.Option.{SomeIff, option_map}
use Rattle.std.specs.Str.{all_ascii_digits, is_utf8, IsUtf8}
use Rattle.std.specs.Str.Parse.{IsNumeral, digits_value}
use Rattle.std.proofs.lemmas.List.Splits.{slice_split_first}
use Rattle.std.proofs.lemmas.Bool.{ltb-true, lt-ltb}
use Rattle.std.proofs.lemmas.Str.{IsUtf8-from_is_utf8}
use Rattle.std.proofs.lemmas.Str.Parse.{IsNumeralModel, numerals_by_value, tells_all_ascii_digits}
use Rattle.quic_wire_core.specs.declared.stream_id.Side.{Side}
use Rattle.quic_lines.specs.declared.script.LineError.TheVariants.{BadCommand}
use Rattle.quic_lines.specs.Language.{words, ends, first, one, within, number_named, command_said, end_said, words_said, is_skipped, said, Reads}

-- a blank
abbrev is_blank : ℕ → Bool
is_blank b = b == 32

-- the first word ends at the first blank
pub words-split : (text word rest : List ℕ) → (word ≡ before_first is_blank text) × (rest ≡ after_first is_blank text) × (position_or_len is_blank text < length text) → words text ≡ word ∷ words rest
words-split text word rest h = rw (h.0, h.1) (slice_split_first is_blank text 0 h.2)

-- a text without a blank is one word
pub words-whole : (text : List ℕ) → position_or_len is_blank text ≡ length text → words text ≡ text ∷ []
words-whole [] h = refl
words-whole (b ∷ bs) h = go (b == 32) (words-whole bs) h
  where
    go : (t : Bool) → (position_or_len is_blank bs ≡ length bs → words bs ≡ bs ∷ []) → cond (not t) (1 + position_or_len is_blank bs) 0 ≡ length (b ∷ bs) → cond t ([] ∷ words bs) (onto_first b (words bs)) ≡ (b ∷ bs) ∷ []
    go true ih e = absurd (omega arith)
    go false ih e = let whole : words bs ≡ bs ∷ [] = ih (omega arith) in rw whole refl

-- a text has a word at least
pub words_stand : {A : Type 0} (text : List ℕ) (whole : Option A) → ends (words text) whole ≡ None
words_stand [] whole = refl
words_stand (b ∷ bs) whole = go (b == 32) (words bs)
  where
    go : (t : Bool) (ws : List (List ℕ)) → ends (cond t ([] ∷ ws) (onto_first b ws)) whole ≡ None
    go true ws = refl
    go false [] = refl
    go false (w ∷ ws) = refl

-- a text is told as one
pub is_utf8_not : (bs : List ℕ) → (IsUtf8 bs → ⊥) → is_utf8 bs ≡ false
is_utf8_not bs h = go (is_utf8 bs) (λ e. h (IsUtf8-from_is_utf8 bs e))
  where
    go : (t : Bool) → (t ≡ true → ⊥) → t ≡ false
    go true f = absurd (f refl)
    go false f = refl

-- digits are told as digits
own : IsNumeralModel (λ ds. all_ascii_digits ds ≡ true) (digits_value 10)
own = numerals_by_value _ tells_all_ascii_digits

-- what is answered of a numeral is the number that it names
pub number_named-from : (word : List ℕ) (r : Option ℕ) → SomeIff r (IsNumeral 10 word × (digits_value 10 word < 2 ^ 64)) (digits_value 10 word) → r ≡ number_named word
number_named-from word (Some n) h =
    let some : nat_lt 0 (length word) ≡ true = lt-ltb 0 (length word) h.0.0.0 in
    let digits : all_ascii_digits word ≡ true = own.from word h.0.0.1 in
    let fits : nat_lt (digits_value 10 word) (2 ^ 64) ≡ true = lt-ltb (digits_value 10 word) (2 ^ 64) h.0.1 in
    rw (some, digits, fits, h.1) refl
number_named-from word None h =
    go (nat_lt 0 (length word)) (all_ascii_digits word) (nat_lt (digits_value 10 word) (2 ^ 64))
    (λ some digits fits. h ((ltb-true 0 (length word) some, own.to word digits), ltb-true (digits_value 10 word) (2 ^ 64) fits))
  where
    go : (a b d : Bool) → (a ≡ true → b ≡ true → d ≡ true → ⊥) → None ≡ (if a && b && d then Some (digits_value 10 word) else None)
    go true true true f = absurd (f refl refl refl)
    go true true false f = refl
    go true false d f = refl
    go false b d f = refl

-- the words behind the name of an end are asked of that end
pub end_said-at : (named : Option Side) (ws : List (List ℕ)) (side : Side) (name : List ℕ) (args : List (List ℕ)) → named ≡ Some side → ws ≡ name ∷ args → end_said named ws ≡ command_said side name args
end_said-at named ws side name args is words = rw (is, words) refl

-- what is made of just one word stands where that word was read and none is left
pub one-read : {A B E : Type 0} (make : A → B) (f : List ℕ → Option A) (e : E) (ws : List (List ℕ)) (a : A) → Ok a ≡ ok_or (first f ws) e → one make f ws ≡ ends (drop 1 ws) (Some (make a))
one-read make f e [] a h = absurd cc
one-read {A} make f e (w ∷ []) a h = go (f w) h
  where
    go : (o : Option A) → Ok a ≡ ok_or o e → option_map make o ≡ Some (make a)
    go None h = absurd cc
    go (Some b) h = let same : b ≡ a = cc in rw same refl
one-read make f e (w ∷ v ∷ vs) a h = refl

-- what is made of it is there where that is, and no words are left
pub read-within : {A : Type 0} (o : Option A) (left : List (List ℕ)) (whole : Option A) → whole ≡ within (ends left (Some o)) → Reads (ok_or o BadCommand) (λ a. a) whole left
read-within None [] whole h = h
read-within None (w ∷ ws) whole h = h
read-within (Some a) [] whole h = h
read-within (Some a) (w ∷ ws) whole h = h

-- a line of text that is neither too long nor skipped asks for what its words do
pub said-words : (line : List ℕ) → nat_lt 1048576 (length line) ≡ false → is_skipped line ≡ false → is_utf8 line ≡ true → said line ≡ words_said (words line)
said-words line short stands text = rw (short, stands, text) refl

-- a line that is no text asks for nothing
pub said-no_text : (line : List ℕ) → nat_lt 1048576 (length line) ≡ false → is_skipped line ≡ false → is_utf8 line ≡ false → said line ≡ None
said-no_text line short stands text = rw (short, stands, text) refl
