-- Frames that are written are read as those frames.
use Rattle.std.proofs.Common.{◌≡◌, ℕ, zero, suc, false, List, [], ◌∷◌, ◌++◌, map, replicate, Result, Ok, Err, refl, sym, ap, ◌∙◌, append_assoc}
use Rattle.std.proofs.lemmas.List.{map-append, append-nil}
use Rattle.quic_wire.specs.declared.frame.InvalidFrame.{InvalidFrame}
use Rattle.quic_wire.specs.Value.{FrameValue, StreamValue, padding, stream, datagram}
use Rattle.quic_wire.specs.Grammar.{IsForm, Payload}
use Rattle.quic_wire.specs.Items.{items}
use Rattle.quic_wire.specs.Writing.{spelling, stream_spelling, datagram_to_end, spelled_all, AllFit, StreamFits}
use Rattle.quic_wire.proofs.FrameItems.{items_nil}
use Rattle.quic_wire.proofs.FrameWhole.{form_items, payload_items}
use Rattle.quic_wire.proofs.FrameWritten.{stream_form, spelling_form, datagram_end_form}

-- the items of frames that are written, and of what follows them
all_read : (fs : List FrameValue) (rest : List ℕ) → AllFit fs → items (spelled_all fs ++ rest) ≡ map Ok fs ++ items rest
all_read [] rest h = refl
all_read (f ∷ fs) rest h =
    ap items (append_assoc (spelling f) (spelled_all fs) rest) ∙ form_items f (spelling f) (spelled_all fs ++ rest) (spelling_form f (spelled_all fs ++ rest) h.0)
    ∙ ap (λ (xs : List (Result FrameValue InvalidFrame)). Ok f ∷ xs) (all_read fs rest h.1)

zeros_read : (count : ℕ) → items (replicate count 0) ≡ map Ok (replicate count padding)
zeros_read zero = items_nil
zeros_read (suc count) =
    form_items padding (0 ∷ []) (replicate count 0) (spelling_form padding (replicate count 0) tt)
    ∙ ap (λ (xs : List (Result FrameValue InvalidFrame)). Ok padding ∷ xs) (zeros_read count)

pub padded_read : (fs : List FrameValue) (count : ℕ) → AllFit fs → items (spelled_all fs ++ replicate count 0) ≡ map Ok (fs ++ replicate count padding)
padded_read fs count h =
    all_read fs (replicate count 0) h ∙ ap (λ (xs : List (Result FrameValue InvalidFrame)). map Ok fs ++ xs) (zeros_read count)
    ∙ sym (map-append (λ (f : FrameValue). Ok f) fs (replicate count padding))

one_read : (s : StreamValue) → StreamFits s → items (stream_spelling false s) ≡ Ok (stream s) ∷ []
one_read s h =
    ap items (sym (append-nil (stream_spelling false s))) ∙ form_items (stream s) (stream_spelling false s) [] (stream_form false s [] h refl)
    ∙ ap (λ (xs : List (Result FrameValue InvalidFrame)). Ok (stream s) ∷ xs) items_nil

pub last_read : (fs : List FrameValue) (s : StreamValue) → AllFit fs → StreamFits s → items (spelled_all fs ++ stream_spelling false s) ≡ map Ok (fs ++ stream s ∷ [])
last_read fs s h k =
    all_read fs (stream_spelling false s) h ∙ ap (λ (xs : List (Result FrameValue InvalidFrame)). map Ok fs ++ xs) (one_read s k)
    ∙ sym (map-append (λ (f : FrameValue). Ok f) fs (stream s ∷ []))

one_datagram : (d : List ℕ) → items (datagram_to_end d) ≡ Ok (datagram d) ∷ []
one_datagram d =
    ap items (sym (append-nil (datagram_to_end d))) ∙ form_items (datagram d) (datagram_to_end d) [] (datagram_end_form d)
    ∙ ap (λ (xs : List (Result FrameValue InvalidFrame)). Ok (datagram d) ∷ xs) items_nil

pub last_datagram_read : (fs : List FrameValue) (d : List ℕ) → AllFit fs → items (spelled_all fs ++ datagram_to_end d) ≡ map Ok (fs ++ datagram d ∷ [])
last_datagram_read fs d h =
    all_read fs (datagram_to_end d) h ∙ ap (λ (xs : List (Result FrameValue InvalidFrame)). map Ok fs ++ xs) (one_datagram d)
    ∙ sym (map-append (λ (f : FrameValue). Ok f) fs (datagram d ∷ []))

not_both : (f : FrameValue) (e : InvalidFrame) (xs ys : List (Result FrameValue InvalidFrame)) → Ok f ∷ xs ≡ Err e ∷ ys → ⊥
not_both f e xs ys h = cc

pub refused_no_form : (bytes : List ℕ) (e : InvalidFrame) (others : List (Result FrameValue InvalidFrame)) → items bytes ≡ Err e ∷ others
    → (f : FrameValue) (front rest : List ℕ) → bytes ≡ front ++ rest → IsForm f front rest → ⊥
refused_no_form bytes e others h f front rest parts form = not_both f e (items rest) others (sym (form_items f front rest form) ∙ ap items (sym parts) ∙ h)

abbrev oks : List FrameValue → List (Result FrameValue InvalidFrame)
oks fs = map Ok fs

same_ok : (fs gs : List FrameValue) → oks fs ≡ oks gs → fs ≡ gs
same_ok [] [] e = refl
same_ok [] (g ∷ gs) e = absurd cc
same_ok (f ∷ fs) [] e = absurd cc
same_ok (f ∷ fs) (g ∷ gs) e =
    let others : fs ≡ gs = same_ok fs gs cc in
    let first : f ≡ g = cc in cc

-- bytes are the payload of one list of frames at most
pub payload_once : (fs gs : List FrameValue) (bytes : List ℕ) → Payload fs bytes → Payload gs bytes → fs ≡ gs
payload_once fs gs bytes h k = same_ok fs gs (sym (payload_items fs bytes h) ∙ payload_items gs bytes k)
