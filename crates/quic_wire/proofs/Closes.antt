-- Bytes that are printed as text, piece by piece.
use Rattle.std.proofs.Common.{◌≡◌, ℕ, List, [], ◌∷◌, ◌++◌, length, drop, false, refl, sym, ap, ◌∙◌, arith, append_assoc}
use Rattle.std.specs.Prelude.{◌==◌}
use Rattle.std.proofs.lemmas.Bool.{ne_eqb}
use Rattle.std.proofs.lemmas.List.{append-nil}
use Rattle.std.proofs.lemmas.Str.{utf8_lossy_chunk, utf8_lossy_last_chunk}
use Rattle.std.specs.Str.Lossy.{utf8_lossy, utf8_valid_len, utf8_invalid_len, replacement_bytes}
use Rattle.quic_wire.specs.Close.{piece_text}

-- the text of the first piece, and the text of what is left, are the text of all
pub piece_lossy : (bs valid invalid rest : List ℕ) → bs ≡ valid ++ (invalid ++ rest) → length valid ≡ utf8_valid_len bs → length invalid ≡ utf8_invalid_len (drop (utf8_valid_len bs) bs) → (length invalid ≡ 0 → length rest ≡ 0) → piece_text valid invalid ++ utf8_lossy rest ≡ utf8_lossy bs
piece_lossy bs valid [] rest parts long wide last =
    ap (λ (l : List ℕ). l ++ utf8_lossy rest) (append-nil valid) ∙ sym (utf8_lossy_last_chunk bs valid [] rest parts long refl (last refl))
piece_lossy bs valid (b ∷ others) rest parts long wide last =
    let some : (length (b ∷ others) == 0) ≡ false = ne_eqb (length (b ∷ others)) 0 (λ e. absurd cc) in
    rw some (append_assoc valid replacement_bytes (utf8_lossy rest) ∙ sym (utf8_lossy_chunk bs valid (b ∷ others) rest parts long wide (omega arith)))
