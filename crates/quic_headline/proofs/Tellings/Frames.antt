-- What a controller is told of the frames of a packet is what may be told of them, up to the first
-- that is at fault.
use Rattle.std.proofs.Common.{◌≡◌, ℕ, Bool, true, false, not, List, [], ◌∷◌, ◌++◌, filter, map, ◌⊎◌, inl, inr, Option, Some, None, Result, Ok, Err, refl, sym, ap, ◌∙◌, subst}
use Rattle.std.specs.Prelude.{if◌then◌else◌}
use Rattle.quic_wire.specs.Value.{FrameValue, AckValue, ack, padding}
use Rattle.quic_wire.specs.declared.frame.InvalidFrame.{InvalidFrame}
use Rattle.quic_congestion.specs.Congestion.{Told}
use Rattle.quic_spaces.specs.Numbers.{greatest_of}
use Rattle.quic_machine.specs.Tracking.{acked_by, not_acked_by}
use Rattle.quic_machine.specs.End.{End}
use Rattle.quic_machine.specs.Acked.{told_acked}
use Rattle.quic_machine.specs.Receive.{Fault, Progress, is_above, names_ungiven, take_frame, take_items, unless_fault, told_ack, told_item, told_unless, told_items}
use Rattle.quic_machine.specs.FrameCases.{named, ack_taken}
use Rattle.quic_headline.specs.Runs.{names, frames_of}
use Rattle.quic_headline.specs.Observer.{Sent, Flight, is_greatest, after_frames}
use Rattle.quic_headline.specs.Telling.{Judging, TellsAck, TellsFrames}
use Rattle.quic_headline.specs.Marking.{Marking, marking_frames}
use Rattle.quic_machine.specs.DraftLaws.{IsClose}
use Rattle.quic_headline.proofs.Packets.Owing.{AreCloses}
use Rattle.quic_headline.proofs.Packets.Delivered.{frames_of_oks}
use Rattle.quic_headline.proofs.Packets.Named.{in_filter}
use Rattle.quic_headline.proofs.Packets.Waited.{AreWaited, waited_filter}
use Rattle.quic_headline.proofs.Packets.Flying.{Tells, Waits, held, apart_filter, above_same, counted, frames_fly}
use Rattle.quic_headline.proofs.Sizes.Moving.{Moves, moving_flies}
use Rattle.quic_headline.proofs.Marking.Judged.{IsMarked}
use Rattle.quic_headline.proofs.Marking.Frames.{frame_marked}
use Rattle.quic_headline.proofs.Packets.Folds.{one_passed}
use Rattle.quic_headline.proofs.Tellings.Asked.{IsUnasked, frame_unasked}
use Rattle.quic_headline.proofs.Tellings.Acks.{IsSet, frame_set, named_told}

-- one at fault tells nothing
none_told : (f : FrameValue) (e : End) (fault : Fault) → (take_frame f e).fault ≡ Some fault → told_item (Ok f) e ≡ []
none_told (ack a) e fault is = go (names_ungiven a e) is
  where
    go : (b : Bool) → (ack_taken b a e).fault ≡ Some fault → (if b then [] else told_acked (is_above e.numbers.largest_acked a.largest) a (named a e)) ≡ []
    go true is = refl
    go false is = cc
none_told f e fault is = refl

-- closes and PADDING tell nothing
closes_silent : (fs : List FrameValue) (e : End) → AreCloses fs → told_items (map Ok fs) e ≡ []
closes_silent [] e closes = refl
closes_silent (f ∷ fs) e closes = ap (λ (ts : List Told). ts ++ told_unless p.fault (told_items (map Ok fs) p.end)) (here f (closes f (inl refl))) ∙ later p.fault (closes_silent fs p.end (λ g i. closes g (inr i)))
  where
    p : Progress
    p = take_frame f e

    here : (g : FrameValue) → IsClose g ⊎ (g ≡ padding) → told_item (Ok g) e ≡ []
    here (ack a) (inl is) = absurd is
    here (ack a) (inr is) = cc
    here g is = refl

    later : (o : Option Fault) → told_items (map Ok fs) p.end ≡ [] → told_unless o (told_items (map Ok fs) p.end) ≡ []
    later None rest = rest
    later (Some fault) rest = refl

-- nor may they
closes_tell_none : (j : Judging) (now : ℕ) (fs : List FrameValue) (x : Flight) (k : Marking) → AreCloses fs → TellsFrames j now fs x k []
closes_tell_none j now [] x k closes = refl
closes_tell_none j now (ack a ∷ fs) x k closes = go (closes (ack a) (inl refl))
  where
    go : IsClose (ack a) ⊎ (ack a ≡ padding) → TellsFrames j now (ack a ∷ fs) x k []
    go (inl is) = absurd is
    go (inr is) = cc
closes_tell_none j now (f ∷ fs) x k closes = closes_tell_none j now fs x k (λ g i. closes g (inr i))

pub closes_tell : (j : Judging) (now : ℕ) (fs : List FrameValue) (x : Flight) (k : Marking) (e : End) → AreCloses fs → TellsFrames j now (frames_of (map Ok fs)) x k (told_items (map Ok fs) e)
closes_tell j now fs x k e closes =
    subst (λ (gs : List FrameValue). TellsFrames j now gs x k (told_items (map Ok fs) e)) (sym (frames_of_oks fs))
    (subst (λ (ts : List Told). TellsFrames j now fs x k ts) (sym (closes_silent fs e closes)) (closes_tell_none j now fs x k closes))

module _ (j : Judging) (now : ℕ) (flew : List Sent) (before : ℕ) where
  -- what is known of an end before a frame
  pub record Reads (x : Flight) (k : Marking) (e : End) : Type 0 where
    pub waits : Waits j.terms now x (held e)
    pub set : IsSet j e
    pub unasked : j.validated ≡ true → IsUnasked e
    pub moves : Moves flew j.settings.min_mtu before x.flying x.acked e
    pub marked : IsMarked k e

  -- so it is behind it
  frame_reads : (f : FrameValue) (x : Flight) (k : Marking) (e : End) → (take_frame f e).fault ≡ None → Reads x k e → Reads (after_frames j.terms now (f ∷ []) x) (marking_frames j.terms now (f ∷ []) x k) (take_frame f e).end
  frame_reads f x k e none r =
      let one = one_passed f e in
      let on = frames_fly j.terms now (f ∷ []) (Moves flew j.settings.min_mtu before) (moving_flies flew j.settings.min_mtu before (f ∷ [])) x e (one.1 none) (record { waits = r.waits; holds = r.moves }) in
      record {
        waits = subst (λ (g : End). Waits j.terms now (after_frames j.terms now (f ∷ []) x) (held g)) one.0 on.waits;
        set = frame_set j f e r.set;
        unasked = λ validated. frame_unasked f e (r.unasked validated);
        moves = subst (λ (g : End). let y = after_frames j.terms now (f ∷ []) x in Moves flew j.settings.min_mtu before y.flying y.acked g) one.0 on.holds;
        marked = frame_marked j.terms now f x k e none r.waits r.marked;
      }

  -- an ACK frame that is taken
  ack_told : (a : AckValue) (x : Flight) (k : Marking) (e : End) → (take_frame (ack a) e).fault ≡ None → Reads x k e → TellsAck j now a x k (told_ack a e)
  ack_told a x k e none r = go (names_ungiven a e) none
    where
      acked : List Sent
      acked = filter (λ s. names a s.number) x.flying

      others : List Sent
      others = filter (λ s. not (names a s.number)) x.flying

      rises : Bool
      rises = is_above e.numbers.largest_acked a.largest

      is : rises ≡ is_greatest x.named a.largest
      is = above_same e.numbers.largest_acked a.largest ∙ ap (λ (o : Option ℕ). is_greatest o a.largest) (sym r.waits.tells.named)

      first : AreWaited acked (acked_by a e.tracking.packets)
      first = waited_filter (λ s. names a s.number) (λ p. names a p.0) (λ s p w. ap (λ (n : ℕ). names a n) (sym w.number)) x.flying e.tracking.packets r.waits.tells.waits

      second : AreWaited others (not_acked_by a e.tracking.packets)
      second = waited_filter (λ s. not (names a s.number)) (λ p. not (names a p.0)) (λ s p w. ap (λ (n : ℕ). not (names a n)) (sym w.number)) x.flying e.tracking.packets r.waits.tells.waits

      counts : Tells j.terms now (counted a x) (held (named a e))
      counts = let w = r.waits.tells in record { terms = w.terms; clock = w.clock; named = ap (λ (o : Option ℕ). Some (greatest_of o a.largest)) w.named; waits = w.waits; asked = w.asked; rtt = w.rtt; delay = w.delay; request = w.request }

      set : IsSet j (named a e)
      set = r.set

      go : (b : Bool) → (ack_taken b a e).fault ≡ None → TellsAck j now a x k (if b then [] else told_acked rises a (named a e))
      go true none = cc
      go false none = named_told j now flew before acked others (acked_by a e.tracking.packets) rises a x k (named a e) is (λ s i. in_filter (λ u. names a u.number) s x.flying i) (λ s i. in_filter (λ u. not (names a u.number)) s x.flying i) (apart_filter (λ u. names a u.number) x.flying) first second counts set (λ validated. (r.unasked validated).0) r.moves r.marked

  -- a frame that is taken, and what is told of others behind it
  frame_told : (f : FrameValue) (x : Flight) (k : Marking) (e : End) → (take_frame f e).fault ≡ None → Reads x k e → (fs : List FrameValue) (later : List Told) → TellsFrames j now fs (after_frames j.terms now (f ∷ []) x) (marking_frames j.terms now (f ∷ []) x k) later → TellsFrames j now (f ∷ fs) x k (told_item (Ok f) e ++ later)
  frame_told (ack a) x k e none r fs later rest = (told_ack a e, later, ack_told a x k e none r, rest, refl)
  frame_told f x k e none r fs later rest = rest

  -- What is told of some of the frames, from the first on; where none is at fault, of all.
  pub record ToldItems (is : List (Result FrameValue InvalidFrame)) (x : Flight) (k : Marking) (e : End) : Type 0 where
    pub front : List FrameValue
    pub behind : List FrameValue
    pub split : frames_of is ≡ front ++ behind
    pub told : TellsFrames j now front x k (told_items is e)
    pub whole : (take_items is e).fault ≡ None → behind ≡ []

  pub items_told : (is : List (Result FrameValue InvalidFrame)) (x : Flight) (k : Marking) (e : End) → Reads x k e → ToldItems is x k e
  items_told [] x k e r = record { front = []; behind = []; split = refl; told = refl; whole = λ none. refl }
  items_told (Err error ∷ is) x k e r = record { front = []; behind = frames_of is; split = refl; told = refl; whole = λ none. cc }
  items_told (Ok f ∷ is) x k e r = go p.fault refl (λ none. items_told is (after_frames j.terms now (f ∷ []) x) (marking_frames j.terms now (f ∷ []) x k) p.end (frame_reads f x k e none r))
    where
      p : Progress
      p = take_frame f e

      -- by whether it is at fault
      go : (o : Option Fault) → p.fault ≡ o → (p.fault ≡ None → ToldItems is (after_frames j.terms now (f ∷ []) x) (marking_frames j.terms now (f ∷ []) x k) p.end) → ToldItems (Ok f ∷ is) x k e
      go None none later =
          let rest = later none in
          record {
            front = f ∷ rest.front;
            behind = rest.behind;
            split = ap (λ (fs : List FrameValue). f ∷ fs) rest.split;
            told = subst (λ (o : Option Fault). TellsFrames j now (f ∷ rest.front) x k (told_item (Ok f) e ++ told_unless o (told_items is p.end))) (sym none) (frame_told f x k e none r rest.front (told_items is p.end) rest.told);
            whole = λ all. rest.whole (subst (λ (o : Option Fault). (unless_fault o p (take_items is)).fault ≡ None) none all);
          }
      go (Some fault) some later = record {
        front = [];
        behind = f ∷ frames_of is;
        split = refl;
        told = ap (λ (o : Option Fault). told_item (Ok f) e ++ told_unless o (told_items is p.end)) some ∙ ap (λ (ts : List Told). ts ++ []) (none_told f e fault some);
        whole = λ all. (let clash : p.fault ≡ None = subst (λ (o : Option Fault). (unless_fault o p (take_items is)).fault ≡ None) some all in cc);
      }
