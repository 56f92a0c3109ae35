-- The ids of its peer that an end knows have 20 bytes at most (RFC 9000, section 17.2), whatever
-- comes.
use Rattle.std.proofs.Common.{ℕ, ◌≤◌, ◌==◌, ◌||◌, ltb, leb, Bool, true, false, cond, List, [], ◌∷◌, length, Option, Some, None, Ok, refl, sym, subst, inl, inr}
use Rattle.std.specs.Prelude.{slice_get}
use Rattle.std.specs.declared.ops.Range.{Range}
use Rattle.quic_wire_core.specs.declared.shared.IssuedCid.{IssuedCid}
use Rattle.quic_wire.specs.Value.{FrameValue, NewConnectionIdValue, new_connection_id}
use Rattle.quic_wire.specs.declared.frame.NewConnectionId.{NewConnectionId}
use Rattle.quic_ids.specs.CidQueue.{PeerIds, from, with_cid, known_with, brought, exceeds, retires_active, left_by, first_used, after_accepted, after_insert}
use Rattle.quic_machine.specs.declared.run.Call.{Call}
use Rattle.quic_machine.specs.declared.run.Call.TheVariants as calls
use Rattle.quic_machine.specs.declared.run.Answer.{Answer}
use Rattle.quic_machine.specs.declared.run.Answer.TheVariants as answers
use Rattle.quic_machine.specs.Arrival.{Arrival, delivered_by}
use Rattle.quic_machine.specs.Policy.{Policy}
use Rattle.quic_machine.specs.Ids.{frame_of, retires_for_next, next_used}
use Rattle.quic_machine.specs.IdFrames.{retiring, next_id_taken, end_on_next_id}
use Rattle.quic_machine.specs.End.{End, with_ids}
use Rattle.quic_machine.specs.Receive.{take_frame, received}
use Rattle.quic_machine.specs.Machine.{says_last, after_call, after_delivered}
use Rattle.quic_headline.specs.Runs.{In}
use Rattle.quic_headline.proofs.Packets.Ids.{in_with}
use Rattle.quic_headline.proofs.Packets.Named.{in_filter}
use Rattle.quic_headline.proofs.Packets.OfPeer.{Of, peer_frame, peer_taken_up, peer_shortened, peer_call}
use Rattle.quic_headline.proofs.Alone.Asked.{BringsId, brings_id}
use Rattle.quic_headline.proofs.Alone.Taking.{by_taking}
use Rattle.quic_headline.proofs.Packets.Moving.{moving_keeps}

-- ---- the ids that are known

abbrev IsShort : IssuedCid → Type 0
IsShort c = length c.id ≤ 20

-- the id in use is short, and so are the others that are known
pub record AreShort (ids : PeerIds) : Type 0 where
  pub used : length ids.id ≤ 20
  pub later : (c : IssuedCid) → In c ids.later → IsShort c

first_short : (cs : List IssuedCid) (ids : PeerIds) → AreShort ids → ((c : IssuedCid) → In c cs → IsShort c) → AreShort (first_used cs ids)
first_short [] ids k all = k
first_short (c ∷ cs) ids k all = record { used = all c (inl refl); later = λ d i. all d (inr i) }

-- one more is brought
insert_short : (ids : PeerIds) (g : NewConnectionId) → AreShort ids → length g.id ≤ 20 → AreShort (after_insert ids g)
insert_short ids g k short = go (ltb g.sequence ids.active || exceeds ids g)
  where
    among : (es : List IssuedCid) → ((c : IssuedCid) → In c es → IsShort c) → (c : IssuedCid) → In c (with_cid es (brought g)) → IsShort c
    among es all c i = elim (in_with es (brought g) c i) [ inl old ↦ all c old | inr is ↦ subst IsShort (sym is) short ]

    knows : (b : Bool) → AreShort (cond b (record ids { id = (brought g).id }) (record ids { later = with_cid ids.later (brought g) }))
    knows true = record { used = short; later = k.later }
    knows false = record { used = k.used; later = among ids.later k.later }

    accepted : (b : Bool) → AreShort (cond b (first_used (left_by ids g) ids) (known_with ids (brought g)))
    accepted true = first_short (left_by ids g) ids k (among (from g.retire_prior_to ids.later) (λ c i. k.later c (in_filter (λ d. leb g.retire_prior_to d.sequence) c ids.later i)))
    accepted false = knows (g.sequence == ids.active)

    go : (b : Bool) → AreShort (cond b ids (after_accepted ids g))
    go true = k
    go false = accepted (retires_active ids g)

-- ---- at an end

-- the next one is used, or it isn't
next_id : (e : End) (a : Answer) → AreShort e.ids.peer → AreShort (end_on_next_id e a).ids.peer
next_id e (answers.UseNextId (Ok done)) k = taken (retires_for_next e.ids)
  where
    taken : (o : Option (Range ℕ)) → AreShort (next_id_taken o e).ids.peer
    taken None = k
    taken (Some r) = peer_shortened AreShort _ (retiring r (with_ids e (next_used e.ids))) (first_short e.ids.peer.later e.ids.peer k k.later)
next_id e a k = k

frame_short : (f : FrameValue) (e : End) → BringsId f → AreShort e.ids.peer → AreShort (take_frame f e).end.ids.peer
frame_short f e brings k = peer_frame AreShort f e (λ g is. taken g (subst BringsId is brings)) k
  where
    taken : (g : NewConnectionIdValue) → BringsId (new_connection_id g) → AreShort (take_frame (new_connection_id g) e).end.ids.peer
    taken g brings = peer_taken_up AreShort g e (insert_short e.ids.peer (frame_of g) k brings.1) k

received_short : (p : Policy) (e : End) (arrival : Arrival) (d : List ℕ) → AreShort e.ids.peer → AreShort (received p e arrival d).end.ids.peer
received_short p e arrival d k = by_taking p e arrival d (Of AreShort) (record {
  frame = λ f stands x j. frame_short f x (brings_id stands.opening.payload f stands.carried) j;
  notes = λ n x j. j;
  begins = λ now n x j. j;
  takes = λ n asks urged mark x j. j;
  closes = λ reason x j. j;
  drains = λ close x j. j;
  asks_close = λ x j. j;
  exhausts = λ now x j. j;
  draws = λ words x j. j;
  moves = moving_keeps (Of AreShort) (λ m x j. j) next_id;
}) k

-- any call keeps them short
pub call_short : (p : Policy) (e : End) (theirs : List (List ℕ)) (call : Call) (a : Answer) → AreShort e.ids.peer → AreShort (after_call p e theirs call a).ids.peer
call_short p e theirs (calls.Deliver delivery) a k = go (slice_get theirs delivery.index)
  where
    go : (o : Option (List ℕ)) → AreShort (after_delivered p e (delivered_by (says_last a) delivery) o).ids.peer
    go None = k
    go (Some d) = received_short p e (delivered_by (says_last a) delivery) d k
call_short p e theirs call a k = peer_call AreShort p e theirs call a refl (λ uses. next_id e a k) k
