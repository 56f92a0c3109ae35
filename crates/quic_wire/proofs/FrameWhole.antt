-- Payloads: what is read is a form, and what is a form is read.
use Rattle.std.proofs.Common.{◌≡◌, ℕ, ◌<◌, List, [], ◌∷◌, ◌++◌, length, map, Result, Ok, Err, sym, ap, ◌∙◌, arith, inl, inr}
use Rattle.std.proofs.lemmas.Bool.{cases_lt}
use Rattle.std.proofs.lemmas.List.{nil_from_length}
use Rattle.quic_wire_core.specs.Coding.{IsBytes}
use Rattle.quic_wire.specs.declared.frame.InvalidFrame.{InvalidFrame}
use Rattle.quic_wire.specs.Value.{FrameValue}
use Rattle.quic_wire.specs.Grammar.{IsForm, Payload}
use Rattle.quic_wire.specs.Items.{frame_at, first_and, items}
use Rattle.quic_wire.proofs.FrameShrinks.{frame_fewer}
use Rattle.quic_wire.proofs.FrameItems.{items_nil, items_step, items_ok}
use Rattle.quic_wire.proofs.FrameAgain.{form_again}
use Rattle.quic_wire.proofs.FrameFound.{form_found}

not_empty : (bytes : List ℕ) (f : FrameValue) (rest : List ℕ) → frame_at bytes ≡ Ok (f, rest) → 0 < length bytes
not_empty bytes f rest e = let h = rw e at (frame_fewer bytes) in omega (arith, h)

-- a form at the front is the first item
pub form_items : (f : FrameValue) (bytes rest : List ℕ) → IsForm f bytes rest → items (bytes ++ rest) ≡ Ok f ∷ items rest
form_items f bytes rest h =
    let read : frame_at (bytes ++ rest) ≡ Ok (f, rest) = form_again f bytes rest h in
    items_ok (bytes ++ rest) f rest (not_empty (bytes ++ rest) f rest read) read

pub payload_items : (fs : List FrameValue) (bytes : List ℕ) → Payload fs bytes → items bytes ≡ map Ok fs
payload_items [] bytes h = ap items h ∙ items_nil
payload_items (f ∷ fs) bytes h = ap items h.4 ∙ form_items f h.0 h.1 h.2 ∙ ap (λ (xs : List (Result FrameValue InvalidFrame)). Ok f ∷ xs) (payload_items fs h.1 h.3)

first_is : (r : Result (FrameValue × List ℕ) InvalidFrame) (f : FrameValue) (others : List (Result FrameValue InvalidFrame)) → first_and items r ≡ Ok f ∷ others → (rest : List ℕ) × (r ≡ Ok (f, rest)) × (items rest ≡ others)
first_is (Ok x) f others e = (x.1, ap (λ (g : FrameValue). Ok (g, x.1)) cc, cc)
first_is (Err g) f others e = absurd cc

first_some : (r : Result (FrameValue × List ℕ) InvalidFrame) → first_and items r ≡ [] → ⊥
first_some (Ok x) e = cc
first_some (Err g) e = cc

pub items_payload : (fs : List FrameValue) (bytes : List ℕ) → IsBytes bytes → items bytes ≡ map Ok fs → Payload fs bytes
items_payload [] bytes fits e =
    elim (cases_lt 0 (length bytes)) [
      | inl lt ↦ absurd (first_some (frame_at bytes) (sym (items_step bytes lt) ∙ e))
      | inr le ↦ nil_from_length bytes (omega arith)
    ]
items_payload (f ∷ fs) bytes fits e =
    elim (cases_lt 0 (length bytes)) [
      | inr le ↦ absurd (let none = ap items (nil_from_length bytes (omega arith)) ∙ items_nil in cc)
      | inl lt ↦ (let s = first_is (frame_at bytes) f (map Ok fs) (sym (items_step bytes lt) ∙ e) in
          let found = form_found bytes f s.0 fits s.1 in
          (found.form, s.0, found.is, items_payload fs s.0 found.fits s.2, found.parts))
    ]
