-- What comes from elsewhere than where a path leads: frames of path validation are taken as PADDING,
-- and all others as they are; and which datagrams are dropped before a key is asked.
use Rattle.std.proofs.Common.{◌≡◌, ◌⊎◌, ℕ, Bool, true, false, List, [], ◌∷◌, Result, Ok, Err, refl, subst, inl, inr}
use Rattle.std.specs.Prelude.{if◌then◌else◌}
use Rattle.quic_wire.specs.Value.{FrameValue, padding, path_challenge, path_response}
use Rattle.quic_wire.specs.declared.frame.InvalidFrame.{InvalidFrame}
use Rattle.quic_packet.specs.Destination.{decoded, fixed_length_id}
use Rattle.quic_packet.specs.declared.packet.HeaderError.{HeaderError}
use Rattle.quic_machine.specs.declared.answers.DropReason.{DropReason}
use Rattle.quic_machine.specs.declared.answers.DropReason.TheVariants as drops
use Rattle.quic_machine.specs.Ids.{known}
use Rattle.quic_machine.specs.End.{End}
use Rattle.quic_machine.specs.Opens.{own_id_length, drop_of, with_drop, head}
use Rattle.quic_machine.specs.Migration.{is_foreign, as_elsewhere, items_at}
use Rattle.quic_headline.specs.Runs.{In, frames_of}

-- ---- frames

-- a frame is taken as it is, or as PADDING
pub taken_as : (f : FrameValue) → (as_elsewhere f ≡ f) ⊎ (as_elsewhere f ≡ padding)
taken_as (path_challenge token) = inr refl
taken_as (path_response token) = inr refl
taken_as f = inl refl

-- each frame that is taken of a payload stands in it, or is PADDING
pub among_taken : (here : Bool) (is : List (Result FrameValue InvalidFrame)) (f : FrameValue) → In f (frames_of (items_at here is)) → In f (frames_of is) ⊎ (f ≡ padding)
among_taken true is f among = inl among
among_taken false [] f among = absurd among
among_taken false (Err x ∷ is) f among = among_taken false is f among
among_taken false (Ok g ∷ is) f (inl same) = elim (taken_as g) [
  | inl is_same ↦ inl (inl (subst (λ (x : FrameValue). f ≡ x) is_same same))
  | inr is_padding ↦ inr (subst (λ (x : FrameValue). f ≡ x) is_padding same)
]
among_taken false (Ok g ∷ is) f (inr more) = elim (among_taken false is f more) [
  | inl stands ↦ inl (inr stands)
  | inr is_padding ↦ inr is_padding
]

-- ---- headers

-- a datagram that isn't dropped before a key is asked was sent to an own id
pub head_decodes : (e : End) (remote : ℕ) (d id : List ℕ) → head e remote d ≡ Ok id → decoded (fixed_length_id own_id_length) (known e.ids) d ≡ Ok id
head_decodes e remote d id = go (is_foreign remote e) (decoded (fixed_length_id own_id_length) (known e.ids) d)
  where
    go : (foreign : Bool) (r : Result (List ℕ) HeaderError) → ◌≡◌ {A = Result (List ℕ) DropReason} (if foreign then Err drops.Address else with_drop r) (Ok id) → r ≡ Ok id
    go true r is = cc
    go false (Ok x) is = cc
    go false (Err error) is = cc

-- one that is dropped then is so for its address, or for its header
pub by_dropped : (Q : DropReason → Type 0) (e : End) (remote : ℕ) (d : List ℕ) (reason : DropReason) → Q drops.Address → ((error : HeaderError) → Q (drop_of error)) → head e remote d ≡ Err reason → Q reason
by_dropped Q e remote d reason address header = go (is_foreign remote e) (decoded (fixed_length_id own_id_length) (known e.ids) d)
  where
    go : (foreign : Bool) (r : Result (List ℕ) HeaderError) → ◌≡◌ {A = Result (List ℕ) DropReason} (if foreign then Err drops.Address else with_drop r) (Err reason) → Q reason
    go true r is = let same : drops.Address ≡ reason = cc in subst Q same address
    go false (Ok id) is = cc
    go false (Err error) is = let same : drop_of error ≡ reason = cc in subst Q same (header error)
