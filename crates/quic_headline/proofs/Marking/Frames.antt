-- What the frames of a packet leave an end mark, by the counts of ECN among them, is what they leave
-- its observer say.
use Rattle.std.proofs.Common.{◌≡◌, ℕ, Bool, true, false, List, [], ◌∷◌, filter, None, refl}
use Rattle.quic_wire.specs.Value.{FrameValue, ack}
use Rattle.quic_machine.specs.Tracking.{acked_by}
use Rattle.quic_machine.specs.End.{End}
use Rattle.quic_machine.specs.Receive.{is_above, take_frame}
use Rattle.quic_machine.specs.FrameCases.{named, passed, frame_leaves, apart_leaves}
use Rattle.quic_headline.specs.Runs.{names}
use Rattle.quic_headline.specs.Observer.{Terms, Flight, after_ack, after_frames}
use Rattle.quic_headline.specs.Marking.{Marking, marking_ack, marking_frames}
use Rattle.quic_headline.proofs.Packets.Delivered.{frames_at}
use Rattle.quic_headline.proofs.Packets.Named.{IsNoAck}
use Rattle.quic_headline.proofs.Packets.Flying.{Waits, held}
use Rattle.quic_headline.proofs.Packets.Folds.{Folds, frame_folds, frames_fold}
use Rattle.quic_headline.proofs.Marking.Judged.{IsMarked, named_marked}

-- the first frame, and then the others
first_marking : (t : Terms) (now : ℕ) (f : FrameValue) (fs : List FrameValue) (x : Flight) (k : Marking) → marking_frames t now (f ∷ fs) x k ≡ marking_frames t now fs (after_frames t now (f ∷ []) x) (marking_frames t now (f ∷ []) x k)
first_marking t now (ack a) fs x k = refl
first_marking t now f fs x k = refl

-- a frame that is no ACK frame leaves it
no_ack_marking : (t : Terms) (now : ℕ) (f : FrameValue) (x : Flight) (k : Marking) → IsNoAck f → marking_frames t now (f ∷ []) x k ≡ k
no_ack_marking t now (ack a) x k other = absurd other
no_ack_marking t now f x k other = refl

-- frames of path validation count nothing
pub marking_at : (t : Terms) (now : ℕ) (here : Bool) (fs : List FrameValue) (x : Flight) (k : Marking) → marking_frames t now (frames_at here fs) x k ≡ marking_frames t now fs x k
marking_at t now true fs x k = refl
marking_at t now false [] x k = refl
marking_at t now false (ack a ∷ fs) x k = marking_at t now false fs (after_ack t now a x) (marking_ack a x k)
marking_at t now false (g ∷ fs) x k = marking_at t now false fs x k

-- what the frames of a packet leave
pub marking_folds : (t : Terms) (now : ℕ) → Folds Marking t now (marking_frames t now) (λ k e. IsMarked k e)
marking_folds t now = record {
  none = λ f k. refl;
  first = λ g gs f k. first_marking t now g gs f k;
  other = λ g f k apart. no_ack_marking t now g f k apart;
  acks = λ a f k e n i. named_marked f.named k (filter (λ s. names a s.number) f.flying) (acked_by a e.tracking.packets) (is_above e.numbers.largest_acked a.largest) a (named a e) n.rises n.acked i;
  on_streams = λ g k e on i. frame_leaves (IsMarked k) g e on (λ u. i);
  message = λ m k e i. i;
  apart = λ g k e apart i. apart_leaves (IsMarked k) g e apart (λ c. i) (λ c most. i);
}

-- any frame that is taken
pub frame_marked : (t : Terms) (now : ℕ) (g : FrameValue) (f : Flight) (k : Marking) (e : End) → (take_frame g e).fault ≡ None → Waits t now f (held e) → IsMarked k e → IsMarked (marking_frames t now (g ∷ []) f k) (take_frame g e).end
frame_marked t now = frame_folds Marking t now (marking_frames t now) (λ k e. IsMarked k e) (marking_folds t now)

-- where all frames of a packet were
pub frames_marked : (t : Terms) (now : ℕ) (fs : List FrameValue) (f : Flight) (k : Marking) (e : End) → (passed fs e).fault ≡ None → Waits t now f (held e) → IsMarked k e → IsMarked (marking_frames t now fs f k) (passed fs e).end
frames_marked t now = frames_fold Marking t now (marking_frames t now) (λ k e. IsMarked k e) (marking_folds t now)
