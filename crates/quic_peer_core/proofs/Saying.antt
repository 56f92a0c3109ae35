-- How the words of a line are read.
use Rattle.std.proofs.Common.{◌≡◌, ◌⊎◌, ℕ, List, [], ◌∷◌, length, drop, true, false, nat_lt, Option, Some, None, Ok, Err, ok_or, refl, inl, inr}
use Rattle.std.specs.Option.{option_map}
use Rattle.std.specs.Str.{is_utf8}
use Rattle.quic_wire_core.specs.declared.shared.EcnCodepoint.{EcnCodepoint}
use Rattle.quic_wire_core.specs.declared.stream_id.Side.{Side}
use Rattle.quic_machine.specs.declared.run.Injection.{Injection}
use Rattle.quic_lines.specs.declared.script.LineError.{LineError}
use Rattle.quic_lines.specs.declared.script.LineError.TheVariants.{BadCommand, OutOfMemory}
use Rattle.quic_lines.specs.Named.{side_named, mark_named, bytes_named}
use Rattle.quic_lines.specs.Language.{Asked, injects, number_named, first, words, is_skipped, ends, both, three, Reads}
use Rattle.quic_peer_core.specs.declared.command.Line.{Line}
use Rattle.quic_peer_core.specs.declared.command.NewEnd.{NewEnd}
use Rattle.quic_peer_core.specs.Language.{Command, nothing, receives, id_named, new_end, joined, five, command_of, words_said, said}

-- a line of text that is neither too long nor skipped asks for what its words do
pub said-words : (line : List ℕ) → nat_lt 1048576 (length line) ≡ false → is_skipped line ≡ false → is_utf8 line ≡ true → said line ≡ words_said (words line)
said-words line short stands text = rw (short, stands, text) refl

-- a line that is no text asks for nothing
pub said-no_text : (line : List ℕ) → nat_lt 1048576 (length line) ≡ false → is_skipped line ≡ false → is_utf8 line ≡ false → said line ≡ None
said-no_text line short stands text = rw (short, stands, text) refl

-- ---- a datagram that came

-- what was read as an injection came
abbrev came : Asked → Command
came (injects now ecn bytes) = receives now ecn bytes
came asked = nothing

-- the words name what came as they name an injection
receives-injects : (args : List (List ℕ)) → three receives number_named mark_named bytes_named args ≡ option_map came (three injects number_named mark_named bytes_named args)
receives-injects [] = refl
receives-injects (v ∷ []) = refl
receives-injects (v ∷ w ∷ []) = refl
receives-injects (v ∷ w ∷ x ∷ []) = go (number_named v) (mark_named w) (bytes_named x)
  where
    go : (a : Option ℕ) (b : Option (Option EcnCodepoint)) (d : Option (List ℕ)) → both (λ (m : List ℕ → Command) c. m c) (both {C = List ℕ → Command} receives a b) d ≡ option_map came (both (λ (m : List ℕ → Asked) c. m c) (both {C = List ℕ → Asked} injects a b) d)
    go None b d = refl
    go (Some a) None d = refl
    go (Some a) (Some b) None = refl
    go (Some a) (Some b) (Some d) = refl
receives-injects (v ∷ w ∷ x ∷ y ∷ ws) = refl

-- what stands alone behind its words does so as something else
ends-came : (left : List (List ℕ)) (asked : Asked) → option_map came (ends left (Some asked)) ≡ ends left (Some (came asked))
ends-came [] asked = refl
ends-came (w ∷ ws) asked = refl

-- what came was read
pub received-read : (args left : List (List ℕ)) (i : Injection) → three injects number_named mark_named bytes_named args ≡ ends left (Some (injects i.now i.ecn i.bytes)) → three receives number_named mark_named bytes_named args ≡ ends left (Some (receives i.now i.ecn i.bytes))
received-read args left i read = rw (receives-injects args, read) (ends-came left (injects i.now i.ecn i.bytes))

-- what came can't be read
pub received-bad : (args left : List (List ℕ)) (e : LineError) → Reads {T = Injection} (Err e) (λ i. injects i.now i.ecn i.bytes) (three injects number_named mark_named bytes_named args) left → Reads {T = Line} (Err e) command_of (three receives number_named mark_named bytes_named args) left
received-bad args left BadCommand read = rw (receives-injects args, read) refl
received-bad args left OutOfMemory read = tt

-- ---- what an end is made from

-- what was read of a word
pub read_is : {A : Type 0} (o : Option A) (a : A) → Ok a ≡ ok_or o BadCommand → o ≡ Some a
read_is None a is = absurd cc
read_is (Some b) a is = let same : b ≡ a = cc in rw same refl

-- what wasn't read of a word
pub unread_is : {A : Type 0} (o : Option A) (e : LineError) → Err e ≡ ok_or o BadCommand → (e ≡ OutOfMemory) ⊎ ((e ≡ BadCommand) × (o ≡ None))
unread_is None e is = let bad : e ≡ BadCommand = cc in inr (bad, refl)
unread_is (Some b) e is = absurd cc

-- what just five words say that an end is made from
abbrev pub new_named : List (List ℕ) → Option NewEnd
new_named ws = five new_end side_named id_named id_named number_named bytes_named ws

-- they are read, one after another
pub new-read : (ws : List (List ℕ)) (a : Side) (b c : List ℕ) (d : ℕ) (e : List ℕ) → first side_named ws ≡ Some a → first id_named (drop 1 ws) ≡ Some b → first id_named (drop 1 (drop 1 ws)) ≡ Some c → first number_named (drop 1 (drop 1 (drop 1 ws))) ≡ Some d → first bytes_named (drop 1 (drop 1 (drop 1 (drop 1 ws)))) ≡ Some e
    → new_named ws ≡ ends (drop 1 (drop 1 (drop 1 (drop 1 (drop 1 ws))))) (Some (new_end a b c d e))
new-read [] a b c d e p q r s t = absurd cc
new-read (u ∷ []) a b c d e p q r s t = absurd cc
new-read (u ∷ v ∷ []) a b c d e p q r s t = absurd cc
new-read (u ∷ v ∷ w ∷ []) a b c d e p q r s t = absurd cc
new-read (u ∷ v ∷ w ∷ x ∷ []) a b c d e p q r s t = absurd cc
new-read (u ∷ v ∷ w ∷ x ∷ y ∷ []) a b c d e p q r s t = rw (p, q, r, s, t) refl
new-read (u ∷ v ∷ w ∷ x ∷ y ∷ z ∷ more) a b c d e p q r s t = refl

-- the third of them names nothing
third-none : (ws : List (List ℕ)) → first id_named (drop 1 (drop 1 ws)) ≡ None → new_named ws ≡ None
third-none [] lacks = refl
third-none (u ∷ []) lacks = refl
third-none (u ∷ v ∷ []) lacks = refl
third-none (u ∷ v ∷ w ∷ []) lacks = refl
third-none (u ∷ v ∷ w ∷ x ∷ []) lacks = refl
third-none (u ∷ v ∷ w ∷ x ∷ y ∷ []) lacks = go (side_named u) (id_named v) (id_named w) (number_named x) (bytes_named y) lacks
  where
    go : (a : Option Side) (b c : Option (List ℕ)) (d : Option ℕ) (e : Option (List ℕ)) → c ≡ None → joined (joined (joined (both new_end a b) c) d) e ≡ None
    go a b (Some c) d e lacks = absurd cc
    go None b None d e lacks = refl
    go (Some a) None None d e lacks = refl
    go (Some a) (Some b) None d e lacks = refl
third-none (u ∷ v ∷ w ∷ x ∷ y ∷ z ∷ more) lacks = refl

-- the fourth
fourth-none : (ws : List (List ℕ)) → first number_named (drop 1 (drop 1 (drop 1 ws))) ≡ None → new_named ws ≡ None
fourth-none [] lacks = refl
fourth-none (u ∷ []) lacks = refl
fourth-none (u ∷ v ∷ []) lacks = refl
fourth-none (u ∷ v ∷ w ∷ []) lacks = refl
fourth-none (u ∷ v ∷ w ∷ x ∷ []) lacks = refl
fourth-none (u ∷ v ∷ w ∷ x ∷ y ∷ []) lacks = go (side_named u) (id_named v) (id_named w) (number_named x) (bytes_named y) lacks
  where
    go : (a : Option Side) (b c : Option (List ℕ)) (d : Option ℕ) (e : Option (List ℕ)) → d ≡ None → joined (joined (joined (both new_end a b) c) d) e ≡ None
    go a b c (Some d) e lacks = absurd cc
    go None b c None e lacks = refl
    go (Some a) None c None e lacks = refl
    go (Some a) (Some b) None None e lacks = refl
    go (Some a) (Some b) (Some c) None e lacks = refl
fourth-none (u ∷ v ∷ w ∷ x ∷ y ∷ z ∷ more) lacks = refl

-- the last
last-none : (ws : List (List ℕ)) → first bytes_named (drop 1 (drop 1 (drop 1 (drop 1 ws)))) ≡ None → new_named ws ≡ None
last-none [] lacks = refl
last-none (u ∷ []) lacks = refl
last-none (u ∷ v ∷ []) lacks = refl
last-none (u ∷ v ∷ w ∷ []) lacks = refl
last-none (u ∷ v ∷ w ∷ x ∷ []) lacks = refl
last-none (u ∷ v ∷ w ∷ x ∷ y ∷ []) lacks = go (side_named u) (id_named v) (id_named w) (number_named x) (bytes_named y) lacks
  where
    go : (a : Option Side) (b c : Option (List ℕ)) (d : Option ℕ) (e : Option (List ℕ)) → e ≡ None → joined (joined (joined (both new_end a b) c) d) e ≡ None
    go a b c d (Some e) lacks = absurd cc
    go None b c d None lacks = refl
    go (Some a) None c d None lacks = refl
    go (Some a) (Some b) None d None lacks = refl
    go (Some a) (Some b) (Some c) None None lacks = refl
    go (Some a) (Some b) (Some c) (Some d) None lacks = refl
last-none (u ∷ v ∷ w ∷ x ∷ y ∷ z ∷ more) lacks = refl

-- nothing was read of them: memory lacked, or one names nothing
new-bad : {A : Type 0} (part : Option A) (whole : Option NewEnd) (left : List (List ℕ)) (e : LineError) → (part ≡ None → whole ≡ None) → (e ≡ OutOfMemory) ⊎ ((e ≡ BadCommand) × (part ≡ None)) → Reads {T = NewEnd} (Err e) (λ new. new) whole left
new-bad part whole left e none or = elim or [
  | inl memory ↦ rw memory tt
  | inr bad ↦ rw bad.0 (none bad.1)
]

-- so the third
pub third-bad : (ws left : List (List ℕ)) (e : LineError) → (e ≡ OutOfMemory) ⊎ ((e ≡ BadCommand) × (first id_named (drop 1 (drop 1 ws)) ≡ None)) → Reads {T = NewEnd} (Err e) (λ new. new) (new_named ws) left
third-bad ws left e or = new-bad (first id_named (drop 1 (drop 1 ws))) (new_named ws) left e (third-none ws) or

-- the fourth
pub fourth-bad : (ws left : List (List ℕ)) (e : LineError) → Err e ≡ ok_or (first number_named (drop 1 (drop 1 (drop 1 ws)))) BadCommand → Reads {T = NewEnd} (Err e) (λ new. new) (new_named ws) left
fourth-bad ws left e is = new-bad (first number_named (drop 1 (drop 1 (drop 1 ws)))) (new_named ws) left e (fourth-none ws) (unread_is (first number_named (drop 1 (drop 1 (drop 1 ws)))) e is)

-- and the last
pub last-bad : (ws left : List (List ℕ)) (e : LineError) → (e ≡ OutOfMemory) ⊎ ((e ≡ BadCommand) × (first bytes_named (drop 1 (drop 1 (drop 1 (drop 1 ws)))) ≡ None)) → Reads {T = NewEnd} (Err e) (λ new. new) (new_named ws) left
last-bad ws left e or = new-bad (first bytes_named (drop 1 (drop 1 (drop 1 (drop 1 ws))))) (new_named ws) left e (last-none ws) or
