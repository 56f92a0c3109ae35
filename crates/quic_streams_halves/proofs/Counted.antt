-- A half whose next frame goes if it brings a byte or the end.
use Rattle.std.proofs.Common.{◌≡◌, ℕ, Bool, true, false, Option, Some, None, IsSome, IfSome, Result, Ok, Err, OnOk, OnErr, refl, sym, ap, subst, ◌∙◌}
use Rattle.std.specs.Prelude.{if◌then◌else◌}
use Rattle.quic_streams_parts.specs.SendHalf.{SendHalf, frame_counts}
use Rattle.quic_streams_parts.specs.Table.{Table, at, put}
use Rattle.quic_streams_halves.specs.declared.places.Places.{Places}
use Rattle.quic_streams_halves.specs.Halves.{Halves, changed, changed_at}
use Rattle.quic_streams_halves.specs.Queued.{counting_at}

-- what is so where it goes
pub where_counts : (o : Option SendHalf) (h : SendHalf) (room : ℕ) (P : SendHalf → Type 0) → o ≡ Some h → (frame_counts h room ≡ true → P h) → IfSome (counting_at o room) P
where_counts o h room P found f = subst (λ (x : Option SendHalf). IfSome (counting_at x room) P) (sym found) (go (frame_counts h room) refl)
  where
    go : (b : Bool) → frame_counts h room ≡ b → IfSome (if b then Some h else None) P
    go true e = f e
    go false e = tt

-- and where it doesn't
pub where_none : (o : Option SendHalf) (h : SendHalf) (room : ℕ) (P : Type 0) → o ≡ Some h → (frame_counts h room ≡ false → P) → counting_at o room ≡ None → P
where_none o h room P found f none = go (frame_counts h room) refl (sym (ap (λ (x : Option SendHalf). counting_at x room) found) ∙ none)
  where
    go : (b : Bool) → frame_counts h room ≡ b → (if b then Some h else None) ≡ None → P
    go true e n = cc
    go false e n = f e

pub some_counts : {T E : Type 0} (r : Result T E) (o : Option SendHalf) (h : SendHalf) (room : ℕ) → o ≡ Some h → OnErr r (frame_counts h room ≡ true) → OnErr r (IsSome (counting_at o room))
some_counts (Ok x) o h room found e = tt
some_counts (Err x) o h room found e =
    let is : counting_at o room ≡ Some h = ap (λ (y : Option SendHalf). counting_at y room) found ∙ ap (λ (b : Bool). if b then Some h else None) e in
    subst (λ (y : Option SendHalf). IsSome y) (sym is) refl

-- a half that a call changed
pub changed_told : {A T E : Type 0} (r : Result T E) (f : A → A) (es ns : Table A) (places : Places) (id : ℕ) (h w : A) → at es id ≡ Some h → ns ≡ put es id w → OnOk r (w ≡ f h)
    → OnOk r (record { live = ns; places = places } ≡ changed f (record { live = es; places = places }) id)
changed_told {A = A} (Err x) f es ns places id h w found told is = tt
changed_told {A = A} (Ok x) f es ns places id h w found told is =
    let live : ns ≡ changed_at (at es id) f es id = told ∙ ap (put es id) is ∙ sym (ap (λ (o : Option A). changed_at o f es id) found) in
    ap (λ (t : Table A). let hs : Halves A = record { live = t; places = places } in hs) live
