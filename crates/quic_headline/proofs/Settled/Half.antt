-- What an end knows of what was sent and acknowledged on each stream, and how often the stream was
-- told to be finished: a half in use was never told so, one that is done once, unless it was reset.
use Rattle.std.proofs.Common.{◌≡◌, ℕ, ◌<◌, Bool, true, false, List, [], ◌∷◌, Option, Some, None, refl, sym, ap, ◌∙◌, inl, inr, arith}
use Rattle.std.specs.Prelude.{◌||◌, ◌&&◌, not, if◌then◌else◌}
use Rattle.std.specs.Option.{is_some, is_none}
use Rattle.std.proofs.lemmas.Bool.{both_ways}
use Rattle.quic_sets.specs.Runs.{Has}
use Rattle.quic_send_buffer.specs.Buffered.{is_fully_acked}
use Rattle.quic_streams_parts.specs.Queue.{Place, Queue}
use Rattle.quic_streams_parts.specs.Table.{at}
use Rattle.quic_streams_parts.specs.SendHalf.{SendHalf, Queued, is_acked, is_ready, grown, grown_all, requeued_at, half_after}
use Rattle.quic_streams_halves.specs.Halves.{has_place}
use Rattle.quic_streams_state.specs.declared.state.StreamsState.{StreamsState}
use Rattle.quic_streams_state.specs.State.{sending_half}
use Rattle.quic_streams_state.specs.Writing.{put_queued}
use Rattle.quic_streams_laws.specs.Keeping.{KeepsBy}
use Rattle.quic_streams_laws.specs.Each.{HalfIs, EachSends, AreOfHalves}
use Rattle.quic_streams_laws.specs.EachLaws.{each_with, each_kept, half_follows, said_of}
use Rattle.quic_streams_laws.specs.ShapeLaws.{sends_with}

-- ---- what is known

-- what of streams was sent, and what was acknowledged of that: offsets, and ends
pub record Known : Type 1 where
  pub sent : ℕ → ℕ → Type 0
  pub end_sent : ℕ → Type 0
  pub acked : ℕ → ℕ → Type 0
  pub end_acked : ℕ → Type 0

-- nothing was
abbrev pub nothing_known : Known
nothing_known = record { sent = λ id o. ⊥; end_sent = λ id. ⊥; acked = λ id o. ⊥; end_acked = λ id. ⊥ }

-- all that is known in one is known in another
pub record KnowsMore (k l : Known) : Type 0 where
  pub sent : (id o : ℕ) → k.sent id o → l.sent id o
  pub end_sent : (id : ℕ) → k.end_sent id → l.end_sent id
  pub acked : (id o : ℕ) → k.acked id o → l.acked id o
  pub end_acked : (id : ℕ) → k.end_acked id → l.end_acked id

-- nothing was sent on a stream
abbrev pub IsFree : Known → ℕ → Type 0
IsFree k id = ((o : ℕ) → k.sent id o → ⊥) × (k.end_sent id → ⊥) × ((o : ℕ) → k.acked id o → ⊥) × (k.end_acked id → ⊥)

-- what was sent of a half lies below what goes next, and what was acknowledged the half has so
abbrev pub IsKnown : Known → ℕ → SendHalf → Type 0
IsKnown k id h = ((o : ℕ) → k.sent id o → o < h.buffer.unsent) × ((o : ℕ) → k.acked id o → Has h.buffer.acked o) × (k.end_acked id → h.end_acked ≡ true)

-- ---- a stream

-- how often it was told that a stream is finished, with what waits to be told; and whether it was
-- reset
pub record Tells : Type 0 where
  pub times : ℕ → ℕ
  pub reset : ℕ → Bool

-- once, unless it was reset
abbrev pub times_done : Bool → ℕ
times_done b = if b then 0 else 1

-- nothing was done on a stream
abbrev pub UnusedSettles : Known → Tells → ℕ → Type 0
UnusedSettles k t id = (t.times id ≡ 0) × (t.reset id ≡ false) × IsFree k id

-- its half is in use
abbrev pub HalfSettles : Known → Tells → ℕ → SendHalf → Type 0
HalfSettles k t id h = (t.times id ≡ 0) × (is_acked h ≡ false) × (is_some h.reset ≡ t.reset id) × (h.reset ≡ None → IsKnown k id h)

-- it is done
abbrev pub DoneSettles : Tells → ℕ → Type 0
DoneSettles t id = t.times id ≡ times_done (t.reset id)

-- so it is of each stream
abbrev pub Settles : Known → Tells → StreamsState → Type 0
Settles k t s = EachSends (λ id limit. Unit {0}) (UnusedSettles k t) (HalfSettles k t) (DoneSettles t) s

-- ---- halves

-- what isn't finished isn't wholly acknowledged
unfinished : (a f z : Bool) → f ≡ false → (a && (f && z)) ≡ false
unfinished true false z is = refl
unfinished false f z is = refl
unfinished true true z is = cc

not_finished : (f r : Bool) → not (f || r) ≡ true → f ≡ false
not_finished false r ready = refl
not_finished true r ready = cc

-- nor is one whose end isn't acknowledged
pub unended : (a f e z : Bool) → e ≡ false → (a && (f && (e && z))) ≡ false
unended true true false z is = refl
unended true false e z is = refl
unended false f e z is = refl
unended true true true z is = cc

module _ (k : Known) (t : Tells) where
  -- of halves by their place
  pub settles_of_halves : AreOfHalves (λ id limit. Unit {0}) (UnusedSettles k t) (HalfSettles k t) (DoneSettles t)
  settles_of_halves = record {
    fresh = λ id limit f n. (n.0, refl, sym n.1, λ none. ((λ o x. absurd (n.2.0 o x)), (λ o x. absurd (n.2.2 o x)), λ x. absurd (n.2.3 x)));
    over = λ id h q ended. elim ended [
      | inl reset ↦ q.0 ∙ sym (ap times_done (sym q.2 ∙ reset))
      | inr acked ↦ absurd (both_ways (is_acked h) q.1 acked)
    ];
    blocked = λ id h b q. q;
    noted = λ id h said q. q;
    placed = λ id h p q. q;
  }

  pub settles_kept : KeepsBy (λ r id old new. Unit {0}) (λ s id old new. HalfSettles k t id old → HalfSettles k t id new) (λ s id n old new. HalfSettles k t id old → HalfSettles k t id new) (Settles k t)
  settles_kept = each_kept (λ id limit. Unit {0}) (UnusedSettles k t) (HalfSettles k t) (DoneSettles t) settles_of_halves

  -- what is said of a half that is in use, or on which nothing was done
  pub half_settles : (s : StreamsState) (id : ℕ) (h : SendHalf) → sending_half s id ≡ Some h → Settles k t s → HalfSettles k t id h
  half_settles s id h is i = said_of (λ id limit. Unit {0}) (UnusedSettles k t) (HalfSettles k t) (DoneSettles t) settles_of_halves s id h is i

  -- on one that isn't finished bytes are written
  grown_settles : (id : ℕ) (h : SendHalf) (bytes : List ℕ) → is_ready h ≡ true → HalfSettles k t id h → HalfSettles k t id (grown h bytes)
  grown_settles id h bytes ready q = (q.0, unfinished (is_none h.reset) h.finished (h.end_acked && is_fully_acked (grown h bytes).buffer) (not_finished h.finished (is_some h.reset) ready), q.2, q.3)

  pub grown_all_settles : (cs : List (List ℕ)) (id : ℕ) (h : SendHalf) → is_ready h ≡ true → HalfSettles k t id h → HalfSettles k t id (grown_all h cs)
  grown_all_settles [] id h ready q = q
  grown_all_settles (c ∷ cs) id h ready q = grown_all_settles cs id (grown h c) ready (grown_settles id h c ready q)

  pub grown_one_settles : (id : ℕ) (h : SendHalf) (bytes : List ℕ) → is_ready h ≡ true → HalfSettles k t id h → HalfSettles k t id (grown h bytes)
  grown_one_settles id h bytes ready q = grown_settles id h bytes ready q

  -- more of it is sent
  pub after_settles : (id : ℕ) (h : SendHalf) (room : ℕ) → HalfSettles k t id h → HalfSettles k t id (half_after h room)
  after_settles id h room q = (q.0, q.1, q.2, λ none. (let x = q.3 none in ((λ o sent. (let below = x.0 o sent in omega arith)), x.1, x.2)))

  -- wherever it stands in the queue
  pub requeued_settles : (o : Option Place) (b : Bool) (q : Queue) (id : ℕ) (h : SendHalf) → HalfSettles k t id h → HalfSettles k t id (requeued_at o b q id h).half
  requeued_settles None true q id h i = i
  requeued_settles None false q id h i = i
  requeued_settles (Some place) true q id h i = i
  requeued_settles (Some place) false q id h i = i

  -- one has another value
  pub put_settles : (s : StreamsState) (id : ℕ) (old : SendHalf) (q : Queued) → sending_half s id ≡ Some old → HalfSettles k t id q.half → Settles k t s → Settles k t (put_queued s id q)
  put_settles s id old q is now i = record {
    shape = sends_with s id old q is i.shape;
    first = λ j. tt;
    each = each_with s.side s.sending.halves id q.half (UnusedSettles k t) (UnusedSettles k t) (HalfSettles k t) (HalfSettles k t) (DoneSettles t) (DoneSettles t) i.shape.sending.runs now (λ j o used ne x. x) i.each;
  }

  -- how many bytes of all streams were accepted tells nothing of one
  pub accepted_settles : (s : StreamsState) (n : ℕ) → Settles k t s → Settles k t (record s { sending = record s.sending { accepted = n } })
  accepted_settles s n i = record { shape = record { sending = i.shape.sending; receiving = i.shape.receiving }; first = λ j. tt; each = i.each }

-- ---- where as much is known and told

-- what is told of each stream is the same
pub record TellsAlike (t u : Tells) : Type 0 where
  pub times : (id : ℕ) → u.times id ≡ t.times id
  pub reset : (id : ℕ) → u.reset id ≡ t.reset id

module _ (k l : Known) (t u : Tells) (fewer : KnowsMore l k) where
  -- of one stream
  pub one_follows : (id : ℕ) → u.times id ≡ t.times id → u.reset id ≡ t.reset id → (o : Option SendHalf) (used : Bool) → HalfIs (UnusedSettles k t id) (HalfSettles k t id) (DoneSettles t id) o used → HalfIs (UnusedSettles l u id) (HalfSettles l u id) (DoneSettles u id) o used
  one_follows id times reset =
      half_follows {N = UnusedSettles k t id} {N' = UnusedSettles l u id} {Q = HalfSettles k t id} {Q' = HalfSettles l u id} {D = DoneSettles t id} {D' = DoneSettles u id}
      (λ x. (times ∙ x.0, reset ∙ x.1, ((λ o s. x.2.0 o (fewer.sent id o s)), (λ s. x.2.1 (fewer.end_sent id s)), (λ o a. x.2.2 o (fewer.acked id o a)), λ a. x.2.3 (fewer.end_acked id a))))
      (λ h x. (times ∙ x.0, x.1, x.2 ∙ sym reset, λ none. (let y = x.3 none in ((λ o s. y.0 o (fewer.sent id o s)), (λ o a. y.1 o (fewer.acked id o a)), λ a. y.2 (fewer.end_acked id a)))))
      (λ x. times ∙ x ∙ sym (ap times_done reset))

  -- of all
  pub settles_follow : (s : StreamsState) → TellsAlike t u → Settles k t s → Settles l u s
  settles_follow s alike i = record {
    shape = i.shape;
    first = λ j. tt;
    each = λ id. one_follows id (alike.times id) (alike.reset id) (at s.sending.halves.live id) (has_place s.side s.sending.halves.places id) (i.each id);
  }

-- nothing more is known
pub knows_same : (k : Known) → KnowsMore k k
knows_same k = record { sent = λ id o x. x; end_sent = λ id x. x; acked = λ id o x. x; end_acked = λ id x. x }

pub knows_nothing : (k : Known) → KnowsMore nothing_known k
knows_nothing k = record { sent = λ id o x. absurd x; end_sent = λ id x. absurd x; acked = λ id o x. absurd x; end_acked = λ id x. absurd x }

-- where the same is told
pub settles_alike : (k : Known) (t u : Tells) (s : StreamsState) → TellsAlike t u → Settles k t s → Settles k u s
settles_alike k t u s alike i = settles_follow k k t u (knows_same k) s alike i
