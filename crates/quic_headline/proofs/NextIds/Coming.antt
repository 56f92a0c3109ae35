-- What comes of the ids of the peer that an end knows: frames that bring one, and the call that
-- changes to the next.
use Rattle.std.proofs.Common.{◌≡◌, ℕ, ◌≤◌, Bool, true, false, cond, ltb, ◌||◌, List, [], ◌∷◌, ◌++◌, Option, Some, None, Result, Ok, Err, refl, sym, ap, ◌∙◌, subst, inl, inr, arith}
use Rattle.std.specs.Prelude.{option_map}
use Rattle.std.proofs.lemmas.Bool.{ltb-true, ltb-false, le-ltb, or_from, cond-true, cond-false}
use Rattle.std.specs.declared.ops.Range.{Range}
use Rattle.quic_wire.specs.Value.{FrameValue, NewConnectionIdValue, new_connection_id}
use Rattle.quic_wire.specs.declared.frame.NewConnectionId.{NewConnectionId}
use Rattle.quic_ids.specs.CidQueue.{PeerIds, known_with, brought, first_used, exceeds, retires_active, left_by, after_accepted, after_insert, after_next, accepted_answer, insert_answer, next_after}
use Rattle.quic_ids.specs.CidQueue as queue
use Rattle.quic_ids.specs.declared.cid_queue.InsertError.{InsertError}
use Rattle.quic_ids.specs.declared.cid_queue.InsertError.TheVariants as inserts
use Rattle.quic_machine.specs.Ids.{frame_of, retires_for, next_used}
use Rattle.quic_machine.specs.IdFrames.{retiring, with_taken_up, next_id_taken, after_next_id}
use Rattle.quic_machine.specs.End.{End, with_ids}
use Rattle.quic_machine.specs.Receive.{id_judged, take_frame}
use Rattle.quic_machine.specs.FrameCases.{passed, frames_taken, frames_leave}
use Rattle.quic_headline.specs.Runs.{In}
use Rattle.quic_headline.specs.InUse.{brought_by}
use Rattle.quic_headline.proofs.Places.Told.{in_left, in_right, in_append}
use Rattle.quic_headline.proofs.Packets.OfPeer.{peer_shortened, peer_frame, peer_taken_up}
use Rattle.quic_headline.proofs.NextIds.Peer.{Knows, knows_past, knows_more, known_active, none_after, Reaches, reaches_more}
use Rattle.quic_headline.proofs.NextIds.Asking.{AsksNone, AllAskNone}

-- ---- a frame that brings one

module _ (p : PeerIds) (g : NewConnectionId) (none : g.retire_prior_to ≡ 0) where
  -- where it asks for none to be retired, the one in use stays
  stays_active : retires_active p g ≡ false
  stays_active = ap (λ (n : ℕ). ltb p.active n) none ∙ le-ltb p.active 0 (omega arith)

  -- one below that in use comes late
  answers_late : ltb g.sequence p.active ≡ true → insert_answer p g ≡ Err inserts.Retired
  answers_late low = cond-true (ltb g.sequence p.active) (Err inserts.Retired) (cond (exceeds p g) (Err inserts.ExceedsLimit) (Ok (accepted_answer p g))) low

  -- another is refused, or known from then on
  answers_far : ltb g.sequence p.active ≡ false → exceeds p g ≡ true → insert_answer p g ≡ Err inserts.ExceedsLimit
  answers_far high far =
      cond-false (ltb g.sequence p.active) (Err inserts.Retired) (cond (exceeds p g) (Err inserts.ExceedsLimit) (Ok (accepted_answer p g))) high
      ∙ cond-true (exceeds p g) (Err inserts.ExceedsLimit) (Ok (accepted_answer p g)) far

  answers_near : ltb g.sequence p.active ≡ false → exceeds p g ≡ false → insert_answer p g ≡ Ok None
  answers_near high near =
      cond-false (ltb g.sequence p.active) (Err inserts.Retired) (cond (exceeds p g) (Err inserts.ExceedsLimit) (Ok (accepted_answer p g))) high
      ∙ cond-false (exceeds p g) (Err inserts.ExceedsLimit) (Ok (accepted_answer p g)) near
      ∙ ap (λ (o : Option (Range ℕ × List ℕ)). Ok o) (cond-false (retires_active p g) (queue.retired_for (left_by p g) p.active) None stays_active)

  near_known : ltb g.sequence p.active ≡ false → exceeds p g ≡ false → after_insert p g ≡ known_with p (brought g)
  near_known high near =
      cond-false (ltb g.sequence p.active || exceeds p g) p (after_accepted p g) (or_from (ltb g.sequence p.active) (exceeds p g) high near)
      ∙ cond-false (retires_active p g) (first_used (left_by p g) p) (known_with p (brought g)) stays_active

-- a frame that is taken, and asks for none to be retired, leaves them, or one more is known
brings : (P : PeerIds → Type 0) (f : NewConnectionIdValue) (e : End) → f.retire_prior_to ≡ 0 → (take_frame (new_connection_id f) e).fault ≡ None
    → (f.sequence ≤ e.ids.peer.active → P e.ids.peer) → (e.ids.peer.active ≤ f.sequence → P (known_with e.ids.peer (brought (frame_of f)))) → P (take_frame (new_connection_id f) e).end.ids.peer
brings P f e none taken late more = go (ltb f.sequence p.active) (exceeds p (frame_of f)) refl refl
  where
    p : PeerIds
    p = e.ids.peer

    -- by what was answered
    judged : (r : Result (Option (Range ℕ × List ℕ)) InsertError) → insert_answer p (frame_of f) ≡ r → P (id_judged (retires_for r) f e).end.ids.peer → P (take_frame (new_connection_id f) e).end.ids.peer
    judged r is left = subst (λ (s : Result (Option (Range ℕ × List ℕ)) InsertError). P (id_judged (retires_for s) f e).end.ids.peer) (sym is) left

    refused : insert_answer p (frame_of f) ≡ Err inserts.ExceedsLimit → ⊥
    refused is = (let fault = subst (λ (s : Result (Option (Range ℕ × List ℕ)) InsertError). (id_judged (retires_for s) f e).fault ≡ None) is taken in cc)

    go : (low far : Bool) → ltb f.sequence p.active ≡ low → exceeds p (frame_of f) ≡ far → P (take_frame (new_connection_id f) e).end.ids.peer
    go true far is out = judged (Err inserts.Retired) (answers_late p (frame_of f) none is) (late (let low = ltb-true f.sequence p.active is in omega arith))
    go false true is out = absurd (refused (answers_far p (frame_of f) none is out))
    go false false is out = judged (Ok None) (answers_near p (frame_of f) none is out)
        (peer_shortened P _ (with_taken_up f e) (subst P (sym (near_known p (frame_of f) none is out)) (more (ltb-false f.sequence p.active is))))

-- ---- a packet

-- Behind frames of a packet, of which these are left, and ask for none to be retired: what is known
-- are those that were brought before, and those that the packet brings.
pub record Passes (numbers : List ℕ) (used : ℕ) (all left : List FrameValue) (p : PeerIds) : Type 0 where
  pub knows : Knows (brought_by all ++ numbers) (brought_by left) p
  pub used_is : p.active ≡ used
  pub among : (n : ℕ) → In n (brought_by left) → In n (brought_by all ++ numbers)
  pub asks : AllAskNone left

module _ (numbers : List ℕ) (used : ℕ) (all : List FrameValue) where
  frame_passes : (f : FrameValue) (left : List FrameValue) (e : End) → (take_frame f e).fault ≡ None → Passes numbers used all (f ∷ left) e.ids.peer → Passes numbers used all left (take_frame f e).end.ids.peer
  frame_passes (new_connection_id g) left e taken i = brings (Passes numbers used all left) g e (i.asks (new_connection_id g) (inl refl)) taken
      (λ low. record {
        knows = knows_past (brought_by all ++ numbers) (brought_by left) (brought (frame_of g)) e.ids.peer i.knows low;
        used_is = i.used_is;
        among = λ n j. i.among n (inr j);
        asks = λ h j. i.asks h (inr j);
      })
      (λ high. record {
        knows = knows_more (brought_by all ++ numbers) (brought_by left) (brought (frame_of g)) e.ids.peer i.knows (i.among g.sequence (inl refl)) high;
        used_is = known_active e.ids.peer (brought (frame_of g)) ∙ i.used_is;
        among = λ n j. i.among n (inr j);
        asks = λ h j. i.asks h (inr j);
      })
  frame_passes f left e taken i = peer_frame (Passes numbers used all left) f e (λ g is. cc) (record { knows = i.knows; used_is = i.used_is; among = i.among; asks = λ h j. i.asks h (inr j) })

  -- behind all of them
  pub packet_passes : (e : End) → (passed all e).fault ≡ None → AllAskNone all → Knows numbers [] e.ids.peer → e.ids.peer.active ≡ used → Passes numbers used all [] (passed all e).end.ids.peer
  packet_passes e taken asks k same = frames_taken (λ (left : List FrameValue) (x : End). Passes numbers used all left x.ids.peer) frame_passes all e taken (record {
    knows = record {
      ascend = k.ascend;
      each = λ n has. in_right n (brought_by all) numbers (k.each n has);
      all = λ n i above. elim (in_append n (brought_by all) numbers i) [ inl new ↦ inr new | inr old ↦ elim (k.all n old above) [ inl has ↦ inl has | inr none ↦ absurd none ] ];
    };
    used_is = same;
    among = λ n i. in_left n (brought_by all) numbers i;
    asks = asks;
  })

-- ---- the number in use never falls

module _ (used : ℕ) where
  -- by a frame that asks for none to be retired, whether it is taken or not
  inserted_reaches : (p : PeerIds) (g : NewConnectionId) → g.retire_prior_to ≡ 0 → Reaches used p → Reaches used (after_insert p g)
  inserted_reaches p g none k = go (ltb g.sequence p.active) (exceeds p g) (retires_active p g) refl refl
    where
      go : (low far asks : Bool) → ltb g.sequence p.active ≡ low → retires_active p g ≡ asks → Reaches used (cond (low || far) p (cond asks (first_used (left_by p g) p) (known_with p (brought g))))
      go true far asks is not = k
      go false true asks is not = k
      go false false true is not = let clash : true ≡ false = sym not ∙ stays_active p g none in cc
      go false false false is not = reaches_more used p k (brought g) (ltb-false g.sequence p.active is)

  taken_reaches : (f : NewConnectionIdValue) (e : End) → f.retire_prior_to ≡ 0 → Reaches used e.ids.peer → Reaches used (take_frame (new_connection_id f) e).end.ids.peer
  taken_reaches f e none k = peer_taken_up (Reaches used) f e (inserted_reaches e.ids.peer (frame_of f) none k) k

  -- so it is behind the frames of a packet, up to the first that is wrong
  pub packet_reaches : (fs : List FrameValue) (e : End) → AllAskNone fs → Reaches used e.ids.peer → Reaches used (passed fs e).end.ids.peer
  packet_reaches fs e asks k = (frames_leave (λ (left : List FrameValue) (x : End). AllAskNone left × Reaches used x.ids.peer) (λ f left x h. (
    (λ g j. h.0 g (inr j)),
    peer_frame (Reaches used) f x (λ g is. taken_reaches g x (subst AsksNone is (h.0 f (inl refl))) h.1) h.1,
  )) fs e (asks, k)).1.1

-- ---- the next one

-- where it is used, the end knows it as in use
pub next_peer : (e : End) → (after_next_id e).ids.peer ≡ after_next e.ids.peer
next_peer e = go (next_after e.ids.peer) refl
  where
    p : PeerIds
    p = e.ids.peer

    go : (o : Option ℕ) → next_after p ≡ o → (next_id_taken (option_map (λ next. record { start = p.active; end = next }) o) e).ids.peer ≡ after_next p
    go None is = sym (none_after p is)
    go (Some n) is = peer_shortened (λ (q : PeerIds). q ≡ after_next p) _ (retiring (record { start = p.active; end = n }) (with_ids e (next_used e.ids))) refl
