-- What an observer folds over the frames of a packet, with what is in flight, against the end that
-- takes them.
use Rattle.std.proofs.Common.{◌≡◌, ℕ, Bool, true, false, not, List, [], ◌∷◌, filter, Option, Some, None, refl, sym, ap, ◌∙◌, subst}
use Rattle.quic_wire.specs.Value.{FrameValue, AckValue, ack}
use Rattle.quic_spaces.specs.Numbers.{greatest_of}
use Rattle.quic_machine.specs.Parts.{Messaging}
use Rattle.quic_machine.specs.Tracking.{acked_by, not_acked_by}
use Rattle.quic_machine.specs.End.{End, with_messages}
use Rattle.quic_machine.specs.Acked.{after_named}
use Rattle.quic_machine.specs.Receive.{Fault, Progress, is_above, names_ungiven, take_frame, take_items, unless_fault}
use Rattle.quic_machine.specs.FrameCases.{OnStreams, IsApart, named, ack_taken, passed, frames_taken}
use Rattle.quic_headline.specs.Runs.{names}
use Rattle.quic_headline.specs.Observer.{Terms, Flight, is_greatest, after_frames}
use Rattle.quic_headline.proofs.Packets.Named.{IsNoAck, by_frame}
use Rattle.quic_headline.proofs.Packets.Waited.{AreWaited, waited_filter}
use Rattle.quic_headline.proofs.Packets.Flying.{Tells, Waits, held, above_same, counted, frames_wait}

-- An ACK frame that comes: which datagrams in flight it names, in step with packets, and which
-- others stay.
pub record Acks (t : Terms) (now : ℕ) (a : AckValue) (f : Flight) (e : End) : Type 0 where
  pub rises : is_above e.numbers.largest_acked a.largest ≡ is_greatest f.named a.largest
  pub acked : AreWaited (filter (λ s. names a s.number) f.flying) (acked_by a e.tracking.packets)
  pub stay : AreWaited (filter (λ s. not (names a s.number)) f.flying) (not_acked_by a e.tracking.packets)
  pub tells : Tells t now (counted a f) (held (named a e))

pub acks_of : (t : Terms) (now : ℕ) (a : AckValue) (f : Flight) (e : End) → Waits t now f (held e) → Acks t now a f e
acks_of t now a f e i =
    let w = i.tells in
    record {
      rises = above_same e.numbers.largest_acked a.largest ∙ ap (λ (o : Option ℕ). is_greatest o a.largest) (sym w.named);
      acked = waited_filter (λ s. names a s.number) (λ p. names a p.0) (λ s p v. ap (λ (n : ℕ). names a n) (sym v.number)) f.flying e.tracking.packets w.waits;
      stay = waited_filter (λ s. not (names a s.number)) (λ p. not (names a p.0)) (λ s p v. ap (λ (n : ℕ). not (names a n)) (sym v.number)) f.flying e.tracking.packets w.waits;
      tells = record { terms = w.terms; clock = w.clock; named = ap (λ (o : Option ℕ). Some (greatest_of o a.largest)) w.named; waits = w.waits; asked = w.asked; rtt = w.rtt; delay = w.delay; request = w.request };
    }

-- what is folded over frames, where a first one and the others are folded one behind another, and
-- what of it holds of an end stays where the end takes them
pub record Folds (S : Type 0) (t : Terms) (now : ℕ) (frames : List FrameValue → Flight → S → S) (R : S → End → Type 0) : Type 0 where
  pub none : (f : Flight) (s : S) → frames [] f s ≡ s
  pub first : (g : FrameValue) (gs : List FrameValue) (f : Flight) (s : S) → frames (g ∷ gs) f s ≡ frames gs (after_frames t now (g ∷ []) f) (frames (g ∷ []) f s)
  pub other : (g : FrameValue) (f : Flight) (s : S) → IsNoAck g → frames (g ∷ []) f s ≡ s
  pub acks : (a : AckValue) (f : Flight) (s : S) (e : End) → Acks t now a f e → R s e → R (frames (ack a ∷ []) f s) (after_named (acked_by a e.tracking.packets) (is_above e.numbers.largest_acked a.largest) a (named a e))
  pub on_streams : (g : FrameValue) (s : S) (e : End) → OnStreams g → R s e → R s (take_frame g e).end
  pub message : (m : Messaging) (s : S) (e : End) → R s e → R s (with_messages e m)
  pub apart : (g : FrameValue) (s : S) (e : End) → IsApart g → R s e → R s (take_frame g e).end

-- a frame that was taken leaves what a packet of it alone does
pub one_passed : (f : FrameValue) (e : End) → ((passed (f ∷ []) e).end ≡ (take_frame f e).end) × ((take_frame f e).fault ≡ None → (passed (f ∷ []) e).fault ≡ None)
one_passed f e = go (take_frame f e).fault
  where
    p : Progress
    p = take_frame f e

    go : (o : Option Fault) → ((unless_fault o p (take_items [])).end ≡ p.end) × (o ≡ None → (unless_fault o p (take_items [])).fault ≡ None)
    go None = (refl, λ none. refl)
    go (Some fault) = (refl, λ none. cc)

-- and what is in flight then to both
pub one_waits : (t : Terms) (now : ℕ) (g : FrameValue) (f : Flight) (e : End) → (take_frame g e).fault ≡ None → Waits t now f (held e) → Waits t now (after_frames t now (g ∷ []) f) (held (take_frame g e).end)
one_waits t now g f e none w =
    let one = one_passed g e in
    subst (λ (x : End). Waits t now (after_frames t now (g ∷ []) f) (held x)) one.0 (frames_wait t now (g ∷ []) f e (one.1 none) w)

module _ (S : Type 0) (t : Terms) (now : ℕ) (frames : List FrameValue → Flight → S → S) (R : S → End → Type 0) (c : Folds S t now frames R) where
  -- an ACK frame that is taken
  ack_folds : (b : Bool) (a : AckValue) (f : Flight) (s : S) (e : End) → (ack_taken b a e).fault ≡ None → Waits t now f (held e) → R s e → R (frames (ack a ∷ []) f s) (ack_taken b a e).end
  ack_folds true a f s e ok w i = cc
  ack_folds false a f s e ok w i = c.acks a f s e (acks_of t now a f e w) i

  -- any frame that is
  pub frame_folds : (g : FrameValue) (f : Flight) (s : S) (e : End) → (take_frame g e).fault ≡ None → Waits t now f (held e) → R s e → R (frames (g ∷ []) f s) (take_frame g e).end
  frame_folds g f s e ok w i =
      by_frame g e (λ h p. p.fault ≡ None → R (frames (h ∷ []) f s) p.end)
      (λ a is fine. ack_folds (names_ungiven a e) a f s e fine w i)
      (λ other on fine. still other (c.on_streams g s e on i))
      (λ other m same fine. still other (subst (λ (x : End). R s x) (sym same) (c.message m s e i)))
      (λ other apart fine. still other (c.apart g s e apart i))
      ok
    where
      still : IsNoAck g → R s (take_frame g e).end → R (frames (g ∷ []) f s) (take_frame g e).end
      still other j = subst (λ (r : S). R r (take_frame g e).end) (sym (c.other g f s other)) j

  -- What is known with these frames still to come, behind which it comes to this.
  record Going (end : S) (left : List FrameValue) (e : End) : Type 0 where
    flight : Flight
    so_far : S
    goes_on : frames left flight so_far ≡ end
    waits : Waits t now flight (held e)
    holds : R so_far e

  -- where all frames of a packet were taken
  pub frames_fold : (fs : List FrameValue) (f : Flight) (s : S) (e : End) → (passed fs e).fault ≡ None → Waits t now f (held e) → R s e → R (frames fs f s) (passed fs e).end
  frames_fold fs f s e ok w i =
      let all : Going (frames fs f s) [] (passed fs e).end = frames_taken (Going (frames fs f s)) (λ g left x fine before. record {
        flight = after_frames t now (g ∷ []) before.flight;
        so_far = frames (g ∷ []) before.flight before.so_far;
        goes_on = sym (c.first g left before.flight before.so_far) ∙ before.goes_on;
        waits = one_waits t now g before.flight x fine before.waits;
        holds = frame_folds g before.flight before.so_far x fine before.waits before.holds;
      }) fs e ok (record { flight = f; so_far = s; goes_on = refl; waits = w; holds = i }) in
      subst (λ (r : S). R r (passed fs e).end) (sym (c.none all.flight all.so_far) ∙ all.goes_on) all.holds
