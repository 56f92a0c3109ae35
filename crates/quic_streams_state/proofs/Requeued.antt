-- What is sent after a half in use changed, and the queue with it.
use Rattle.std.proofs.Common.{◌≡◌, ℕ, ◌+◌, Bool, true, false, List, [], ◌∷◌, length, Option, Some, None, Result, Ok, Err, OnOk, refl, ap, arith, ◌∙◌}
use Rattle.std.specs.Prelude.{if◌then◌else◌}
use Rattle.std.specs.Ordering.{nat_cmp}
use Rattle.std.specs.BTreeMap.{is_at}
use Rattle.std.proofs.lemmas.Map.Steps.{set_value_same}
use Rattle.std.proofs.Math.Dec.{eqb-suc-zero}
use Rattle.quic_send_buffer.specs.declared.stream_meta.StreamMeta.{StreamMeta}
use Rattle.quic_streams_parts.specs.Table.{at}
use Rattle.quic_streams_parts.specs.Queue.{Queue}
use Rattle.quic_streams_parts.specs.SendHalf.{SendHalf, Queued, is_ready, frame_counts, half_after, turned}
use Rattle.quic_streams_halves.specs.Halves.{Halves, changed, changed_at}
use Rattle.quic_streams_halves.specs.Queued.{queue_with, unmoved, accepted_with, acked_with, acked_if_ready, lost_with, sent_if_counts, finished_with, reset_with}
use Rattle.quic_streams_state.specs.Parts.{Sending}
use Rattle.quic_streams_state.specs.Sends.{with_live_queued, accepted_in, acked_in, acked_if_ready_in, lost_in, sent_in, sent_if_counts_in, finished_in, reset_in}

-- what two facts of a call that went well come to
pub on_both : {T E P Q R : Type 0} (r : Result T E) → OnOk r P → OnOk r Q → (P → Q → R) → OnOk r R
on_both (Ok x) p q f = f p q
on_both (Err e) p q f = tt

-- halves and queue that changed together
abbrev together : (SendHalf → Queued) → Option SendHalf → Sending → ℕ → Sending
together f o s id = record s { halves = record s.halves { live = changed_at o (λ h. (f h).half) s.halves.live id }; queue = queue_with f o s.queue }

both_changed : (f : SendHalf → Queued) (s : Sending) (id : ℕ) (hs : Halves SendHalf) (q : Queue) → hs ≡ changed (λ h. (f h).half) s.halves id → q ≡ queue_with f (at s.halves.live id) s.queue
    → record s { halves = hs; queue = q } ≡ together f (at s.halves.live id) s id
both_changed f s id hs q e g = rw (e, g) refl

-- a half that stays as it is
stays : (s : Sending) (id : ℕ) (h : SendHalf) → at s.halves.live id ≡ Some h → with_live_queued s id (unmoved s.queue h) ≡ s
stays s id h found = ap (λ xs. record s { halves = record s.halves { live = xs } }) (set_value_same (is_at (nat_cmp id)) s.halves.live h found)

-- a frame was acknowledged
pub acked_is : (s : Sending) (m : StreamMeta) (hs : Halves SendHalf) (q : Queue) → hs ≡ changed (λ h. (acked_with m s.queue h).half) s.halves m.id → q ≡ queue_with (acked_with m s.queue) (at s.halves.live m.id) s.queue
    → record s { halves = hs; queue = q } ≡ acked_in (at s.halves.live m.id) s m
acked_is s m hs q e g = both_changed (acked_with m s.queue) s m.id hs q e g ∙ go (at s.halves.live m.id)
  where
    go : (o : Option SendHalf) → together (acked_with m s.queue) o s m.id ≡ acked_in o s m
    go None = refl
    go (Some h) = refl

pub acked_if_is : (s : Sending) (m : StreamMeta) (hs : Halves SendHalf) (q : Queue) → hs ≡ changed (λ h. (acked_if_ready m s.queue h).half) s.halves m.id → q ≡ queue_with (acked_if_ready m s.queue) (at s.halves.live m.id) s.queue
    → record s { halves = hs; queue = q } ≡ acked_if_ready_in (at s.halves.live m.id) s m
acked_if_is s m hs q e g = both_changed (acked_if_ready m s.queue) s m.id hs q e g ∙ go (at s.halves.live m.id) refl
  where
    by_ready : (b : Bool) (h : SendHalf) → at s.halves.live m.id ≡ Some h → with_live_queued s m.id (if b then acked_with m s.queue h else unmoved s.queue h) ≡ (if b then acked_in (Some h) s m else s)
    by_ready true h found = refl
    by_ready false h found = stays s m.id h found

    go : (o : Option SendHalf) → at s.halves.live m.id ≡ o → together (acked_if_ready m s.queue) o s m.id ≡ acked_if_ready_in o s m
    go None found = refl
    go (Some h) found = by_ready (is_ready h) h found

-- a frame was lost
pub lost_is : (s : Sending) (m : StreamMeta) (hs : Halves SendHalf) (q : Queue) → hs ≡ changed (λ h. (lost_with m s.queue h).half) s.halves m.id → q ≡ queue_with (lost_with m s.queue) (at s.halves.live m.id) s.queue
    → record s { halves = hs; queue = q } ≡ lost_in (at s.halves.live m.id) s m
lost_is s m hs q e g = both_changed (lost_with m s.queue) s m.id hs q e g ∙ go (at s.halves.live m.id)
  where
    go : (o : Option SendHalf) → together (lost_with m s.queue) o s m.id ≡ lost_in o s m
    go None = refl
    go (Some h) = refl

-- its end waits to go
pub finished_is : (s : Sending) (id : ℕ) (hs : Halves SendHalf) (q : Queue) → hs ≡ changed (λ h. (finished_with id s.queue h).half) s.halves id → q ≡ queue_with (finished_with id s.queue) (at s.halves.live id) s.queue
    → record s { halves = hs; queue = q } ≡ finished_in (at s.halves.live id) s id
finished_is s id hs q e g = both_changed (finished_with id s.queue) s id hs q e g ∙ go (at s.halves.live id)
  where
    go : (o : Option SendHalf) → together (finished_with id s.queue) o s id ≡ finished_in o s id
    go None = refl
    go (Some h) = refl

-- it is reset
pub reset_is : (s : Sending) (id : ℕ) (hs : Halves SendHalf) (q : Queue) → hs ≡ changed (λ h. (reset_with id s.queue h).half) s.halves id → q ≡ queue_with (reset_with id s.queue) (at s.halves.live id) s.queue
    → record s { halves = hs; queue = q } ≡ reset_in (at s.halves.live id) s id
reset_is s id hs q e g = both_changed (reset_with id s.queue) s id hs q e g ∙ go (at s.halves.live id)
  where
    go : (o : Option SendHalf) → together (reset_with id s.queue) o s id ≡ reset_in o s id
    go None = refl
    go (Some h) = refl

-- a frame went
pub sent_is : (fair : Bool) (s : Sending) (id room : ℕ) (hs : Halves SendHalf) (q : Queue) → hs ≡ changed (λ h. (sent_if_counts fair id room s.queue h).half) s.halves id → q ≡ queue_with (sent_if_counts fair id room s.queue) (at s.halves.live id) s.queue
    → record s { halves = hs; queue = q } ≡ sent_if_counts_in fair (at s.halves.live id) s id room
sent_is fair s id room hs q e g = both_changed (sent_if_counts fair id room s.queue) s id hs q e g ∙ go (at s.halves.live id) refl
  where
    by_counts : (b : Bool) (h : SendHalf) → at s.halves.live id ≡ Some h → with_live_queued s id (if b then turned fair s.queue id (half_after h room) else unmoved s.queue h) ≡ (if b then sent_in fair (Some h) s id room else s)
    by_counts true h found = refl
    by_counts false h found = stays s id h found

    go : (o : Option SendHalf) → at s.halves.live id ≡ o → together (sent_if_counts fair id room s.queue) o s id ≡ sent_if_counts_in fair o s id room
    go None found = refl
    go (Some h) found = by_counts (frame_counts h room) h found

-- bytes were accepted
pub accepted_is : (s : Sending) (id n : ℕ) (bytes : List ℕ) (hs : Halves SendHalf) (q : Queue) → n ≡ length bytes → (at s.halves.live id ≡ None → ⊥)
    → hs ≡ changed (λ h. (accepted_with id bytes s.queue h).half) s.halves id → q ≡ queue_with (accepted_with id bytes s.queue) (at s.halves.live id) s.queue
    → record s { halves = hs; queue = q; accepted = s.accepted + n } ≡ accepted_in (at s.halves.live id) s id bytes
accepted_is s id n bytes hs q len used e g =
    ap (λ (t : Sending). record t { accepted = s.accepted + n }) (both_changed (accepted_with id bytes s.queue) s id hs q e g)
    ∙ ap (λ (k : ℕ). record (together (accepted_with id bytes s.queue) (at s.halves.live id) s id) { accepted = s.accepted + k }) len
    ∙ go (at s.halves.live id) refl bytes
  where
    go : (o : Option SendHalf) → at s.halves.live id ≡ o → (bs : List ℕ) → record (together (accepted_with id bs s.queue) o s id) { accepted = s.accepted + length bs } ≡ accepted_in o s id bs
    go None found bs = absurd (used found)
    go (Some h) found [] = ap (λ (t : Sending). record t { accepted = s.accepted + 0 }) (stays s id h found) ∙ ap (λ (k : ℕ). record s { accepted = k }) (none s.accepted)
      where
        none : (k : ℕ) → k + 0 ≡ k
        none k = omega arith
    go (Some h) found (b ∷ bs) = rw (eqb-suc-zero (length bs)) refl
