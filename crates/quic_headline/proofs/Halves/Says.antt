-- What a datagram carried that says what was written: it had the end of a stream only where there
-- is one, and its resets are those of streams that were reset.
use Rattle.std.proofs.Common.{◌≡◌, ℕ, true, List, [], ◌∷◌, Some, refl, sym, ap, ◌∙◌, subst, inl, inr}
use Rattle.std.specs.List.{fold}
use Rattle.quic_wire.specs.Value.{FrameValue, stream, reset_stream}
use Rattle.quic_send_buffer.specs.declared.stream_meta.StreamMeta.{StreamMeta}
use Rattle.quic_streams_parts.specs.Table.{Table}
use Rattle.quic_retransmits.specs.Retransmits.{Retransmits, nothing_waits}
use Rattle.quic_streams_laws.specs.Written.{Wrote, Grows, SaysResets}
use Rattle.quic_streams_laws.specs.WrittenFrames.{all_append}
use Rattle.quic_streams_laws.specs.ContentLaws.{stream_of_grows, reset_of_grows}
use Rattle.quic_machine.specs.Tracking.{Carried, TrackedPacket, streams_in, and_again, carried_in}
use Rattle.quic_headline.specs.Runs.{Packet, In}
use Rattle.quic_headline.specs.Observer.{Sent}
use Rattle.quic_headline.proofs.Packets.Invariant.{IsCarriedFrom, AreTracked, WereSent}
use Rattle.quic_headline.proofs.Packets.Named.{WasCarried, IsCarriedBy, tracked_carried}
use Rattle.quic_headline.proofs.Halves.Ghosts.{SaysOf}

-- each frame says what was done
abbrev pub AllSay : (ℕ → Wrote) → List FrameValue → Type 0
AllSay done fs = (f : FrameValue) → In f fs → SaysOf done f

-- each of what was sent does
abbrev pub SentSay : (ℕ → Wrote) → List Sent → Type 0
SentSay done sents = (s : Sent) → In s sents → AllSay done s.frames

-- what a frame says is so once more was done
pub says_grow : (done more : ℕ → Wrote) → ((q : ℕ) → Grows (done q) (more q)) → (f : FrameValue) → SaysOf done f → SaysOf more f
says_grow done more grows (stream f) says = stream_of_grows (done f.id) (more f.id) f (grows f.id) says
says_grow done more grows (reset_stream f) says = reset_of_grows (done f.id) (more f.id) f (grows f.id) says
says_grow done more grows f says = tt

-- ---- what a datagram carried

-- its resets are those of streams that were reset, and it had the end of a stream only where there
-- is one
pub record CarriedSays (done : ℕ → Wrote) (c : Carried) : Type 0 where
  pub resets : SaysResets done c.retransmits
  pub ends : (m : StreamMeta) → In m c.stream_frames → m.fin ≡ true → (done m.id).ended ≡ true

-- the ends of its STREAM frames
ends_say : (done : ℕ → Wrote) (fs : List FrameValue) → AllSay done fs → (m : StreamMeta) → In m (streams_in fs) → m.fin ≡ true → (done m.id).ended ≡ true
ends_say done [] say m i fin = absurd i
ends_say done (stream f ∷ fs) say m (inl is) fin =
    let says = say (stream f) (inl refl) in
    let there : f.fin ≡ true = ap (λ (x : StreamMeta). x.fin) (sym is) ∙ fin in
    ap (λ (x : StreamMeta). (done x.id).ended) is ∙ says.ended there
ends_say done (stream f ∷ fs) say m (inr i) fin = ends_say done fs (λ g j. say g (inr j)) m i fin
ends_say done (f ∷ fs) say m i fin = ends_say done fs (λ g j. say g (inr j)) m i fin

-- one frame more
again_says : (done : ℕ → Wrote) (r : Retransmits) (f : FrameValue) → SaysOf done f → SaysResets done r → SaysResets done (and_again r f)
again_says done r (reset_stream f) says before = all_append (λ e. (done e.0).reset ≡ Some e.1) r.reset_stream ((f.id, f.code) ∷ []) before (says.code, tt)
again_says done r f says before = before

resets_say : (done : ℕ → Wrote) (fs : List FrameValue) (r : Retransmits) → AllSay done fs → SaysResets done r → SaysResets done (fold and_again r fs)
resets_say done [] r say before = before
resets_say done (f ∷ fs) r say before = resets_say done fs (and_again r f) (λ g j. say g (inr j)) (again_says done r f (say f (inl refl)) before)

-- what frames carried that say what was done
pub carried_says : (done : ℕ → Wrote) (fs : List FrameValue) → AllSay done fs → CarriedSays done (carried_in fs)
carried_says done fs say = record { resets = resets_say done fs nothing_waits say tt; ends = ends_say done fs say }

-- so does what is without what has to be sent again
says_from : (done : ℕ → Wrote) (c : Carried) (fs : List FrameValue) → IsCarriedFrom c fs → AllSay done fs → CarriedSays done c
says_from done c fs (inl is) say = subst (CarriedSays done) (sym is) (carried_says done fs say)
says_from done c fs (inr is) say = subst (CarriedSays done) (sym is) (record { resets = tt; ends = ends_say done fs say })

module _ (done : ℕ → Wrote) (sents : List Sent) (say : SentSay done sents) where
  -- a datagram that was sent
  pub sent_says : (c : Carried) → IsCarriedBy sents c → CarriedSays done c
  sent_says c is = says_from done c is.sent.frames is.is (say is.sent is.among)

  -- a packet that was taken
  pub taken_says : (took : List Packet) → WereSent sents took → (c : Carried) → WasCarried took c → CarriedSays done c
  taken_says took were c was =
      let found = were was.packet was.was_taken in
      sent_says c (record { sent = found.sent; among = found.is.0; is = subst (λ (fs : List FrameValue). IsCarriedFrom c fs) (sym found.frames) was.is })

  -- what is tracked was sent
  pub tracked_says : (packets : Table TrackedPacket) → AreTracked sents packets → (n : ℕ) (t : TrackedPacket) → In (n, t) packets → CarriedSays done t.carried
  tracked_says packets tracked n t among = sent_says t.carried (tracked_carried sents packets tracked n t among)
