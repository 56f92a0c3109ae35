-- The id of its peer that an end uses, and those that it knows besides, were told to it; and each
-- number that it retires, or retired, is below that in use (RFC 9000, sections 5.1.2, 19.15 and
-- 19.16).
use Rattle.std.proofs.Common.{◌≡◌, ℕ, ◌-◌, ◌<◌, ◌≤◌, Bool, true, false, cond, ltb, ◌==◌, ◌||◌, List, [], ◌∷◌, ◌++◌, length, Option, Some, None, Result, Ok, Err, refl, sym, ◌∙◌, subst, inl, inr, arith}
use Rattle.std.specs.Prelude.{nat_le, if◌then◌else◌}
use Rattle.std.specs.List.{range_with_len, list_any}
use Rattle.std.specs.declared.ops.Range.{Range}
use Rattle.std.proofs.lemmas.Bool.{eqb-true, ltb-true}
use Rattle.quic_wire_core.specs.TransportError.{ErrorValue}
use Rattle.quic_wire_core.specs.declared.shared.IssuedCid.{IssuedCid}
use Rattle.quic_wire.specs.Value.{FrameValue, AckValue, ack, stream, reset_stream, stop_sending, max_data, max_stream_data, max_streams, datagram, path_response, handshake_done, new_connection_id, retire_connection_id, ack_frequency}
use Rattle.quic_wire.specs.declared.frame.NewConnectionId.{NewConnectionId}
use Rattle.quic_ids.specs.CidState.{retirement_answer}
use Rattle.quic_ids.specs.CidQueue.{PeerIds, IsWindow, with_cid, known_with, first_used, brought, exceeds, retires_active, retired_for as retires_in, left_by, after_accepted, after_insert, after_next, insert_answer}
use Rattle.quic_ids.specs.declared.cid_queue.InsertError.{InsertError}
use Rattle.quic_ids.specs.declared.cid_queue.InsertError.TheVariants as inserts
use Rattle.quic_ids.proofs.PeerIdLaws.{insert_window, next_window, next_rises}
use Rattle.quic_paths.specs.Paths.{is_asked}
use Rattle.quic_retransmits.specs.Retransmits.{Retransmits, most_retirements}
use Rattle.quic_machine.specs.declared.run.Answer.{Answer}
use Rattle.quic_machine.specs.declared.run.Answer.TheVariants as answers
use Rattle.quic_machine.specs.MessageCalls.{most_message}
use Rattle.quic_machine.specs.Sizes.{without_longer_if, shortened}
use Rattle.quic_machine.specs.Ids.{frame_of, retires_for, retired, retires_for_next, next_used}
use Rattle.quic_machine.specs.IdFrames.{retiring, with_taken_up, issued_if, issues_for, next_id_taken, end_on_next_id}
use Rattle.quic_machine.specs.Validation.{word_of, validated_if}
use Rattle.quic_machine.specs.End.{End, with_ids}
use Rattle.quic_machine.specs.Receive.{id_judged, retirement_judged, take_frame}
use Rattle.quic_machine.specs.FrameCases.{IsApart, OnStreams, begun, frame_leaves}
use Rattle.quic_machine.specs.Steps as steps
use Rattle.quic_headline.specs.Runs.{Packet, In}
use Rattle.quic_headline.specs.Observer.{Sent}
use Rattle.quic_headline.proofs.Places.Told.{in_append}
use Rattle.quic_headline.proofs.Packets.Growth.{in_more}
use Rattle.quic_headline.proofs.Packets.Invariant.{AreTracked}
use Rattle.quic_headline.proofs.Packets.Named.{NamesTaken, SettlesOn, Stands, frames_settle}
use Rattle.quic_headline.proofs.Packets.Delivered.{arrived}
use Rattle.quic_headline.proofs.Packets.Ids.{SaysIds, Waits, SentSayIds, AnyNumber, in_with, steps_wait, on_streams_wait}
use Rattle.quic_headline.proofs.Halves.KnownIds.{range_below}
use Rattle.quic_headline.proofs.Duties.OfIds.{AsksNone, next_range, insert_keeps}
use Rattle.quic_headline.proofs.Destined.Issues.{AnyId}
use Rattle.quic_headline.proofs.Packets.Apart.{by_frequency, by_heard_done}

-- below a number
abbrev pub IsBelow : ℕ → ℕ → Type 0
IsBelow a n = n < a

-- ---- known ids

module _ (T : ℕ → List ℕ → Type 0) where
  -- the id in use and those known behind it were told under their numbers, by which they ascend
  pub record KnowsTold (p : PeerIds) : Type 0 where
    pub used : T p.active p.id
    pub later : (c : IssuedCid) → In c p.later → T c.sequence c.id
    pub window : IsWindow p

  -- the first of some comes into use
  first_told : (cs : List IssuedCid) (p : PeerIds) → T p.active p.id → ((c : IssuedCid) → In c p.later → T c.sequence c.id) → ((c : IssuedCid) → In c cs → T c.sequence c.id)
      → T (first_used cs p).active (first_used cs p).id × ((c : IssuedCid) → In c (first_used cs p).later → T c.sequence c.id)
  first_told [] p used later all = (used, later)
  first_told (c ∷ cs) p used later all = (all c (inl refl), λ d i. all d (inr i))

  next_told : (p : PeerIds) → KnowsTold p → KnowsTold (after_next p)
  next_told p k =
      let both = first_told p.later p k.used k.later k.later in
      record { used = both.0; later = both.1; window = next_window p k.window }

  -- a frame brings one, and asks for no retirements
  insert_told : (p : PeerIds) (g : NewConnectionId) → g.retire_prior_to ≡ 0 → T g.sequence g.id → KnowsTold p → KnowsTold (after_insert p g)
  insert_told p g none told k =
      let both = go (ltb g.sequence p.active || exceeds p g) in
      record { used = both.0; later = both.1; window = insert_window p g (omega arith) k.window }
    where
      AreTold : PeerIds → Type 0
      AreTold q = T q.active q.id × ((c : IssuedCid) → In c q.later → T c.sequence c.id)

      among : (c : IssuedCid) → In c (with_cid p.later (brought g)) → T c.sequence c.id
      among c i = elim (in_with p.later (brought g) c i) [ inl old ↦ k.later c old | inr is ↦ subst (λ (d : IssuedCid). T d.sequence d.id) (sym is) told ]

      knows : (b : Bool) → (g.sequence == p.active) ≡ b → AreTold (cond b (record p { id = (brought g).id }) (record p { later = with_cid p.later (brought g) }))
      knows true same = (subst (λ (n : ℕ). T n g.id) (eqb-true g.sequence p.active same) told, k.later)
      knows false other = (k.used, among)

      accepted : (b : Bool) → retires_active p g ≡ b → AreTold (cond b (first_used (left_by p g) p) (known_with p (brought g)))
      accepted true asks = let clash = ltb-true p.active g.retire_prior_to asks in absurd (omega arith)
      accepted false keeps = knows (g.sequence == p.active) refl

      go : (b : Bool) → AreTold (cond b p (after_accepted p g))
      go true = (k.used, k.later)
      go false = accepted (retires_active p g) refl

-- such a frame is answered with no retirements
none_retired : (p : PeerIds) (g : NewConnectionId) (r : Range ℕ) → g.retire_prior_to ≡ 0 → retires_for (insert_answer p g) ≡ Ok (Some r) → ⊥
none_retired p g r none is = go (ltb g.sequence p.active) (exceeds p g) (retires_active p g) refl is
  where
    go : (a b d : Bool) → retires_active p g ≡ d → retires_for (cond a (Err inserts.Retired) (cond b (Err inserts.ExceedsLimit) (Ok (cond d (retires_in (left_by p g) p.active) None)))) ≡ Ok (Some r) → ⊥
    go true b d asks said = cc
    go false true d asks said = cc
    go false false true asks said = let clash = ltb-true p.active g.retire_prior_to asks in omega arith
    go false false false asks said = cc

-- and one that comes late has a number below that in use
late_below : (p : PeerIds) (g : NewConnectionId) → g.retire_prior_to ≡ 0 → retires_for (insert_answer p g) ≡ Err inserts.Retired → g.sequence < p.active
late_below p g none is = go (ltb g.sequence p.active) (exceeds p g) (retires_active p g) refl refl is
  where
    go : (a b d : Bool) → ltb g.sequence p.active ≡ a → retires_active p g ≡ d → retires_for (cond a (Err inserts.Retired) (cond b (Err inserts.ExceedsLimit) (Ok (cond d (retires_in (left_by p g) p.active) None)))) ≡ Err inserts.Retired → g.sequence < p.active
    go true b d less asks said = ltb-true g.sequence p.active less
    go false true d less asks said = cc
    go false false true less asks said = let clash = ltb-true p.active g.retire_prior_to asks in absurd (omega arith)
    go false false false less asks said = cc

-- ---- messages that are dropped change neither ids nor control frames

pub fits_keep : (P : PeerIds → Retransmits → Type 0) (b : Bool) (e : End) → P e.ids.peer e.waiting.frames → P (shortened b e).ids.peer (shortened b e).waiting.frames
fits_keep P false e i = i
fits_keep P true e i = lasts (most_message e)
  where
    lasts : (o : Option ℕ) → P (without_longer_if o e).ids.peer (without_longer_if o e).waiting.frames
    lasts None = i
    lasts (Some most) = i

-- ---- while a packet is taken

module _ (T : ℕ → List ℕ → Type 0) (a : ℕ) where
  -- the number in use stays, and those are below it that wait to be retired
  pub record Uses (p : PeerIds) (frames : Retransmits) : Type 0 where
    pub knows : KnowsTold T p
    pub active : p.active ≡ a
    pub waits : Waits AnyId (IsBelow a) frames

  abbrev pub UsesAt : End → Type 0
  UsesAt e = Uses e.ids.peer e.waiting.frames

  -- a frame apart from streams, which tells an id or none
  apart_uses : (f : FrameValue) (e : End) → IsApart f → AsksNone f → SaysIds (λ c. T c.sequence c.id) AnyNumber f → UsesAt e → UsesAt (take_frame f e).end
  apart_uses (ack x) e apart none says u = absurd apart
  apart_uses (stream f) e apart none says u = absurd apart
  apart_uses (reset_stream f) e apart none says u = absurd apart
  apart_uses (stop_sending f) e apart none says u = absurd apart
  apart_uses (max_data limit) e apart none says u = absurd apart
  apart_uses (max_stream_data f) e apart none says u = absurd apart
  apart_uses (max_streams f) e apart none says u = absurd apart
  apart_uses (datagram m) e apart none says u = absurd apart
  apart_uses (new_connection_id f) e apart none says u = go (retires_for (insert_answer e.ids.peer (frame_of f))) refl
    where
      up : Uses (after_insert e.ids.peer (frame_of f)) e.waiting.frames
      up = record { knows = insert_told T e.ids.peer (frame_of f) none says u.knows; active = insert_keeps e.ids.peer (frame_of f) none ∙ u.active; waits = u.waits }

      late : f.sequence < a → (b : Bool) → Uses e.ids.peer (if b then e.waiting.frames else record e.waiting.frames { retire_cids = e.waiting.frames.retire_cids ++ f.sequence ∷ [] })
      late less true = u
      late less false = record {
        knows = u.knows;
        active = u.active;
        waits = record {
          tells = u.waits.tells;
          retires = λ n i. elim (in_more n f.sequence e.waiting.frames.retire_cids i) [ inl old ↦ u.waits.retires n old | inr is ↦ subst (IsBelow a) (sym is) less ];
        };
      }

      go : (r : Result (Option (Range ℕ)) InsertError) → retires_for (insert_answer e.ids.peer (frame_of f)) ≡ r → UsesAt (id_judged r f e).end
      go (Ok None) is = fits_keep Uses _ (with_taken_up f e) up
      go (Ok (Some r)) is = absurd (none_retired e.ids.peer (frame_of f) r none is)
      go (Err inserts.Retired) is =
          late (subst (λ (n : ℕ). f.sequence < n) u.active (late_below e.ids.peer (frame_of f) none is)) (nat_le most_retirements (length e.waiting.frames.retire_cids) || list_any (λ m. m == f.sequence) e.waiting.frames.retire_cids)
      go (Err inserts.ExceedsLimit) is = u
  apart_uses (retire_connection_id n) e apart none says u = go (retirement_answer e.ids.own n e.ids.limit)
    where
      issues : (b : Bool) → UsesAt (issued_if b (with_ids e (retired n e.ids)))
      issues true = record { knows = u.knows; active = u.active; waits = record { tells = λ c i. tt; retires = u.waits.retires } }
      issues false = u

      go : (r : Result Bool ErrorValue) → UsesAt (retirement_judged r n e).end
      go (Ok more) = issues (issues_for n e)
      go (Err error) = u
  apart_uses (path_response token) e apart none says u = go (is_asked e.validation.challenge (word_of token))
    where
      go : (b : Bool) → UsesAt (validated_if b e)
      go true = u
      go false = u
  apart_uses handshake_done e apart none says u = by_heard_done UsesAt e u (λ c. u)
  apart_uses (ack_frequency r) e apart none says u = by_frequency UsesAt r e (λ threshold reordering frequency. u)
  apart_uses f e apart none says u = u

  -- a frame on streams
  streams_use : (f : FrameValue) (e : End) → OnStreams f → UsesAt e → UsesAt (take_frame f e).end
  streams_use f e on u =
      let same = frame_leaves (λ (x : End). KnowsTold T x.ids.peer × (x.ids.peer.active ≡ a)) f e on (λ t. (u.knows, u.active)) in
      record { knows = same.0; active = same.1; waits = on_streams_wait AnyId (IsBelow a) f e on u.waits }

  -- what is acknowledged or lost
  settles_use : (theirs : List Packet) (sents : List Sent) → SentSayIds AnyId (IsBelow a) sents → SettlesOn theirs sents UsesAt
  settles_use theirs sents say (steps.known n) e may u = u
  settles_use theirs sents say (steps.again c) e may u = record { knows = u.knows; active = u.active; waits = steps_wait AnyId (IsBelow a) theirs sents say (steps.again c) e may u.waits }
  settles_use theirs sents say s e may u = record { knows = u.knows; active = u.active; waits = steps_wait AnyId (IsBelow a) theirs sents say s e may u.waits }

  -- all frames of a packet
  pub frames_use : (theirs : List Packet) (sents : List Sent) → Stands theirs sents → SentSayIds AnyId (IsBelow a) sents → (frames : List FrameValue) → ((f : FrameValue) → In f frames → AsksNone f) → ((f : FrameValue) → In f frames → SaysIds (λ c. T c.sequence c.id) AnyNumber f)
      → (e : End) (now n : ℕ) → ((x : AckValue) → In (ack x) frames → NamesTaken theirs x) → AreTracked sents e.tracking.packets → UsesAt e → UsesAt (arrived e now n frames).end
  frames_use theirs sents stands say frames none told e now n names tracked u = frames_settle theirs sents stands frames UsesAt (record {
    settles = settles_use theirs sents say;
    names = λ x y among j. j;
    on_streams = λ f x among on j. streams_use f x on j;
    message = λ m x j. j;
    apart = λ f x among is j. apart_uses f x is (none f among) (told f among) j;
  }) (begun e now n) names tracked u

-- ---- the next id is used

-- what is so of ids and of numbers that wait, by the number in use
pub record UsesBelow (T : ℕ → List ℕ → Type 0) (p : PeerIds) (frames : Retransmits) : Type 0 where
  pub knows : KnowsTold T p
  pub waits : Waits AnyId (IsBelow p.active) frames

pub next_uses : (T : ℕ → List ℕ → Type 0) (e : End) (a : Answer) → UsesBelow T e.ids.peer e.waiting.frames → UsesBelow T (end_on_next_id e a).ids.peer (end_on_next_id e a).waiting.frames
next_uses T e (answers.UseNextId (Ok done)) u = taken (retires_for_next e.ids) refl
  where
    taken : (o : Option (Range ℕ)) → retires_for_next e.ids ≡ o → UsesBelow T (next_id_taken o e).ids.peer (next_id_taken o e).waiting.frames
    taken None is = u
    taken (Some r) is = fits_keep (UsesBelow T) _ (retiring r (with_ids e (next_used e.ids))) (record {
      knows = next_told T e.ids.peer u.knows;
      waits = record {
        tells = λ c i. tt;
        retires = λ n i. elim (in_append n e.waiting.frames.retire_cids (range_with_len r.start (r.end - r.start)) i) [
          | inl old ↦ (let before = u.waits.retires n old in let rises = next_rises e.ids.peer u.knows.window in omega arith)
          | inr new ↦ subst (λ (k : ℕ). n < k) (next_range e.ids r is).1 (range_below r n new)
        ];
      };
    })
next_uses T e a u = u

-- the number in use doesn't fall
pub next_active : (e : End) (a : Answer) → IsWindow e.ids.peer → e.ids.peer.active ≤ (end_on_next_id e a).ids.peer.active
next_active e (answers.UseNextId (Ok done)) w = taken (retires_for_next e.ids)
  where
    taken : (o : Option (Range ℕ)) → e.ids.peer.active ≤ (next_id_taken o e).ids.peer.active
    taken None = omega arith
    taken (Some r) = fits_keep (λ (p : PeerIds) (frames : Retransmits). e.ids.peer.active ≤ p.active) _ (retiring r (with_ids e (next_used e.ids))) (next_rises e.ids.peer w)
next_active e a w = omega arith
