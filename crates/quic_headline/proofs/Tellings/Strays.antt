-- What is told of the frames of a packet that came from elsewhere is what may be told of the packet:
-- frames of path validation, which count as PADDING there, tell nothing.
use Rattle.std.proofs.Common.{◌≡◌, ℕ, Bool, true, false, List, [], ◌∷◌, ◌++◌, map, Result, Ok, Err, refl, ap, ◌∙◌}
use Rattle.quic_congestion.specs.Congestion.{Told}
use Rattle.quic_wire.specs.Value.{FrameValue, ack}
use Rattle.quic_wire.specs.declared.frame.InvalidFrame.{InvalidFrame}
use Rattle.quic_machine.specs.Migration.{as_elsewhere, items_at}
use Rattle.quic_headline.specs.Runs.{frames_of}
use Rattle.quic_headline.specs.Observer.{Flight, after_ack}
use Rattle.quic_headline.specs.Telling.{Judging, TellsFrames}
use Rattle.quic_headline.specs.Marking.{Marking, marking_ack}
use Rattle.quic_headline.proofs.Packets.Delivered.{frames_at}

-- the frames that are taken of a payload
pub frames_items : (here : Bool) (is : List (Result FrameValue InvalidFrame)) → frames_of (items_at here is) ≡ frames_at here (frames_of is)
frames_items true is = refl
frames_items false [] = refl
frames_items false (Ok f ∷ is) = ap (λ (fs : List FrameValue). as_elsewhere f ∷ fs) (frames_items false is)
frames_items false (Err x ∷ is) = frames_items false is

-- and of one that was sent as frames
pub items_sent : (here : Bool) (fs : List FrameValue) → items_at here (map Ok fs) ≡ map Ok (frames_at here fs)
items_sent true fs = refl
items_sent false [] = refl
items_sent false (f ∷ fs) = ap (λ (is : List (Result FrameValue InvalidFrame)). Ok (as_elsewhere f) ∷ is) (items_sent false fs)

-- these tell what all of them do
pub stray_tells : (j : Judging) (clock : ℕ) (here : Bool) (fs : List FrameValue) (f : Flight) (k : Marking) (told : List Told) → TellsFrames j clock (frames_at here fs) f k told → TellsFrames j clock fs f k told
stray_tells j clock true fs f k told tells = tells
stray_tells j clock false [] f k told tells = tells
stray_tells j clock false (ack a ∷ fs) f k told tells = (tells.0, tells.1, tells.2, stray_tells j clock false fs (after_ack j.terms clock a f) (marking_ack a f k) tells.1 tells.3, tells.4)
stray_tells j clock false (g ∷ fs) f k told tells = stray_tells j clock false fs f k told tells

-- Frames, of which these are the first that are taken.
pub record Fronts (here : Bool) (fs front : List FrameValue) : Type 0 where
  pub first : List FrameValue
  pub others : List FrameValue
  pub split : fs ≡ first ++ others
  pub same : frames_at here first ≡ front

no_more : (f : FrameValue) (front behind : List FrameValue) → ◌≡◌ {A = List FrameValue} [] (f ∷ front ++ behind) → ⊥
no_more f front behind is = cc

head_same : (f g : FrameValue) (fs gs : List FrameValue) → f ∷ fs ≡ g ∷ gs → f ≡ g
head_same f g fs gs is = cc

tail_same : (f g : FrameValue) (fs gs : List FrameValue) → f ∷ fs ≡ g ∷ gs → fs ≡ gs
tail_same f g fs gs is = cc

pub fronts : (here : Bool) (fs front behind : List FrameValue) → frames_at here fs ≡ front ++ behind → Fronts here fs front
fronts true fs front behind is = record { first = front; others = behind; split = is; same = refl }
fronts false fs [] behind is = record { first = []; others = fs; split = refl; same = refl }
fronts false [] (f ∷ front) behind is = absurd (no_more f front behind is)
fronts false (g ∷ fs) (f ∷ front) behind is =
    let rest = fronts false fs front behind (tail_same (as_elsewhere g) f (map as_elsewhere fs) (front ++ behind) is) in
    record {
      first = g ∷ rest.first;
      others = rest.others;
      split = ap (λ (gs : List FrameValue). g ∷ gs) rest.split;
      same = ap (λ (h : FrameValue). h ∷ map as_elsewhere rest.first) (head_same (as_elsewhere g) f (map as_elsewhere fs) (front ++ behind) is) ∙ ap (λ (gs : List FrameValue). f ∷ gs) rest.same;
    }
