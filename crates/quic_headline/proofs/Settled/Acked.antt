-- A STREAM frame is acknowledged: its stream is told to be finished where that was the last of it,
-- and not before.
use Rattle.std.proofs.Common.{◌≡◌, ℕ, ◌+◌, ◌<◌, ◌≤◌, Bool, true, false, [], ◌∷◌, Option, Some, None, refl, sym, ap, ◌∙◌, subst, ◌⊎◌, inl, inr, arith}
use Rattle.std.specs.Prelude.{◌&&◌, not, if◌then◌else◌}
use Rattle.std.specs.Option.{is_some}
use Rattle.std.proofs.lemmas.Bool.{cond_both, cases_eq, or_left, or_right, eq-eqb, ne_eqb}
use Rattle.quic_send_buffer.specs.Buffered.{IsBuffered}
use Rattle.quic_send_buffer.specs.declared.stream_meta.StreamMeta.{StreamMeta}
use Rattle.quic_send_buffer.proofs.Buffered.Calls.{acked_is}
use Rattle.quic_streams_parts.specs.declared.answers.StreamEvent.TheVariants as stream_events
use Rattle.quic_streams_parts.specs.Dirs.{is_own}
use Rattle.quic_streams_parts.specs.Table.{at}
use Rattle.quic_streams_parts.specs.TableLaws.{at-without, at-without-apart}
use Rattle.quic_streams_parts.specs.SendHalf.{SendHalf, is_acked, half_acked, requeued, has_pending}
use Rattle.quic_streams_halves.specs.Halves.{has_place, is_done}
use Rattle.quic_retransmits.specs.Retransmits.{Retransmits}
use Rattle.quic_streams_state.specs.declared.state.StreamsState.{StreamsState}
use Rattle.quic_streams_state.specs.State.{Streams, send_done, without_send, done_if, receiving_status}
use Rattle.quic_streams_state.specs.Writing.{replaced}
use Rattle.quic_streams_state.specs.Acked.{after_stream_acked, acked_at, finished}
use Rattle.quic_streams_laws.specs.Keeping.{finishes_in}
use Rattle.quic_streams_laws.specs.Keeping as changes
use Rattle.quic_streams_laws.specs.KeepingLaws.{by_option, by_stream_acked, free, at-half, live_sends, finishes_append}
use Rattle.quic_streams_laws.specs.Shape.{IsShaped}
use Rattle.quic_streams_laws.specs.ShapeLaws.{shape_any}
use Rattle.quic_streams_laws.specs.QueuedLaws.{half-apart}
use Rattle.quic_streams_laws.specs.Each.{HalfIs}
use Rattle.quic_streams_laws.specs.EachLaws.{each_with, half_place-apart}
use Rattle.quic_headline.proofs.Settled.Told.{sent_queue}
use Rattle.quic_headline.proofs.Settled.Half.{Known, Tells, IsKnown, UnusedSettles, HalfSettles, DoneSettles, Settles, times_done, requeued_settles}

-- ---- what is told

-- how often each stream was told finished before and waits to be told so
abbrev pub total : (ℕ → ℕ) → StreamsState → ℕ → ℕ
total n s id = n id + finishes_in id s.events.queue

abbrev pub telling : (ℕ → ℕ) → (ℕ → Bool) → StreamsState → Tells
telling n reset s = record { times = total n s; reset = reset }

-- ---- what is known more

-- an acknowledged frame adds no more than what it says
pub record KnowsAcked (m : StreamMeta) (k l : Known) : Type 0 where
  pub sent : (id o : ℕ) → l.sent id o → k.sent id o
  pub end_sent : (id : ℕ) → l.end_sent id → k.end_sent id
  pub acked : (id o : ℕ) → l.acked id o → k.acked id o ⊎ ((id ≡ m.id) × (m.offsets.start ≤ o) × (o < m.offsets.end))
  pub end_acked : (id : ℕ) → l.end_acked id → k.end_acked id ⊎ ((id ≡ m.id) × (m.fin ≡ true))
  -- all of which was sent
  pub was_sent : (o : ℕ) → l.acked m.id o → m.offsets.start ≤ o → o < m.offsets.end → k.sent m.id o
  pub end_was_sent : l.end_acked m.id → m.fin ≡ true → k.end_sent m.id

module _ (m : StreamMeta) (k l : Known) (adds : KnowsAcked m k l) where
  -- what is known of a half that wasn't reset, once the frame is acknowledged
  known_acked : (h : SendHalf) → (IsBuffered h.buffer) → IsKnown k m.id h → IsKnown l m.id (half_acked h m)
  known_acked h lawful i = (
    (λ o x. i.0 o (adds.sent m.id o x)),
    (λ o x. (acked_is h.buffer m.offsets.start m.offsets.end o lawful).1 (elim (adds.acked m.id o x) [
      | inl old ↦ inl (i.1 o old)
      | inr new ↦ (let below = i.0 o (adds.was_sent o x new.1 new.2) in let last = new.2 in inr (new.1, omega arith))
    ])),
    (λ x. elim (adds.end_acked m.id x) [ inl old ↦ or_left h.end_acked m.fin (i.2 old) | inr new ↦ or_right h.end_acked m.fin new.1 ]),
  )

  module _ (t u : Tells) where
    -- other streams
    apart_follows : (j : ℕ) → (j ≡ m.id → ⊥) → u.times j ≡ t.times j → u.reset j ≡ t.reset j → (o : Option SendHalf) (used : Bool) → HalfIs (UnusedSettles k t j) (HalfSettles k t j) (DoneSettles t j) o used → HalfIs (UnusedSettles l u j) (HalfSettles l u j) (DoneSettles u j) o used
    apart_follows j ne times reset (Some h) used x = (times ∙ x.0, x.1, x.2 ∙ sym reset, λ none. (let y = x.3 none in ((λ o s. y.0 o (adds.sent j o s)), (λ o a. y.1 o (offset o a)), λ a. y.2 (end a))))
      where
        offset : (o : ℕ) → l.acked j o → k.acked j o
        offset o a = elim (adds.acked j o a) [ inl old ↦ old | inr new ↦ absurd (ne new.0) ]

        end : l.end_acked j → k.end_acked j
        end a = elim (adds.end_acked j a) [ inl old ↦ old | inr new ↦ absurd (ne new.0) ]
    apart_follows j ne times reset None true x = times ∙ x ∙ sym (ap times_done reset)
    apart_follows j ne times reset None false x = (times ∙ x.0, reset ∙ x.1, ((λ o s. x.2.0 o (adds.sent j o s)), (λ s. x.2.1 (adds.end_sent j s)), (λ o a. x.2.2 o (offset o a)), λ a. x.2.3 (end a)))
      where
        offset : (o : ℕ) → l.acked j o → k.acked j o
        offset o a = elim (adds.acked j o a) [ inl old ↦ old | inr new ↦ absurd (ne new.0) ]

        end : l.end_acked j → k.end_acked j
        end a = elim (adds.end_acked j a) [ inl old ↦ old | inr new ↦ absurd (ne new.0) ]

  -- the stream itself, where its half isn't in use, or was reset
  none_here : (t : Tells) (used : Bool) → HalfIs (UnusedSettles k t m.id) (HalfSettles k t m.id) (DoneSettles t m.id) None used → HalfIs (UnusedSettles l t m.id) (HalfSettles l t m.id) (DoneSettles t m.id) None used
  none_here t true x = x
  none_here t false x = (
    x.0,
    x.1,
    (
      (λ o s. x.2.0 o (adds.sent m.id o s)),
      (λ s. x.2.1 (adds.end_sent m.id s)),
      (λ o a. elim (adds.acked m.id o a) [ inl old ↦ x.2.2 o old | inr new ↦ x.2.0 o (adds.was_sent o a new.1 new.2) ]),
      λ a. elim (adds.end_acked m.id a) [ inl old ↦ x.2.3 old | inr new ↦ x.2.1 (adds.end_was_sent a new.1) ],
    ),
  )

  reset_here : (t : Tells) (h : SendHalf) → is_some h.reset ≡ true → HalfSettles k t m.id h → HalfSettles l t m.id h
  reset_here t h over x = (x.0, x.1, x.2, λ none. (let off : false ≡ true = ap is_some (sym none) ∙ over in cc))

  -- ---- the word

  module _ (n : ℕ → ℕ) (reset : ℕ → Bool) (s : StreamsState) (p : Retransmits) (i : Settles k (telling n reset s) s) (lawful : (h : SendHalf) → at s.sending.halves.live m.id ≡ Some h → IsBuffered h.buffer) where
    abbrev t : Tells
    t = telling n reset s

    shape : IsShaped (after_stream_acked s p m).state
    shape = by_stream_acked IsShaped shape_any s p m (λ h is none. tt) (λ h is none all. tt) i.shape

    -- the half as it stands
    there : (h : SendHalf) → at s.sending.halves.live m.id ≡ Some h → HalfSettles k t m.id h
    there h is = subst (λ (o : Option SendHalf). HalfIs (UnusedSettles k t m.id) (HalfSettles k t m.id) (DoneSettles t m.id) o (has_place s.side s.sending.halves.places m.id)) is (i.each m.id)

    -- no half changes
    same : ((h : SendHalf) → at s.sending.halves.live m.id ≡ Some h → HalfSettles l t m.id h) → Settles l t s
    same here = record {
      shape = i.shape;
      first = λ j. tt;
      each = λ j. elim (cases_eq j m.id) [
        | inl is ↦ subst (λ (x : ℕ). HalfIs (UnusedSettles l t x) (HalfSettles l t x) (DoneSettles t x) (at s.sending.halves.live x) (has_place s.side s.sending.halves.places x)) (sym is) (go (at s.sending.halves.live m.id) refl (i.each m.id))
        | inr ne ↦ apart_follows t t j ne refl refl (at s.sending.halves.live j) (has_place s.side s.sending.halves.places j) (i.each j)
      ];
    }
      where
        go : (o : Option SendHalf) → at s.sending.halves.live m.id ≡ o → HalfIs (UnusedSettles k t m.id) (HalfSettles k t m.id) (DoneSettles t m.id) o (has_place s.side s.sending.halves.places m.id)
            → HalfIs (UnusedSettles l t m.id) (HalfSettles l t m.id) (DoneSettles t m.id) o (has_place s.side s.sending.halves.places m.id)
        go (Some h) is x = here h is
        go None is x = none_here t (has_place s.side s.sending.halves.places m.id) x

    module _ (h : SendHalf) (is : at s.sending.halves.live m.id ≡ Some h) (none : h.reset ≡ None) where
      abbrev new : SendHalf
      new = half_acked h m

      abbrev left : StreamsState
      left = replaced s m.id new

      -- not all of it is acknowledged
      some_left : is_acked new ≡ false → Settles l t left
      some_left more =
          let x = there h is in
          let now : HalfSettles l t m.id new = (x.0, more, x.2, λ free. known_acked h (lawful h is) (x.3 none)) in
          record {
            shape = by_shape;
            first = λ j. tt;
            each = each_with s.side s.sending.halves m.id (requeued s.sending.queue m.id new).half (UnusedSettles k t) (UnusedSettles l t) (HalfSettles k t) (HalfSettles l t) (DoneSettles t) (DoneSettles t) i.shape.sending.runs
                (requeued_settles l t new.place (has_pending new) s.sending.queue m.id new now) (λ j o used ne y. apart_follows t t j ne refl refl o used y) i.each;
          }
        where
          by_shape : IsShaped left
          by_shape = shape_any (changes.queues m.id h new (has_pending new)) s ((live_sends s m.id h is), tt, refl) i.shape

      -- all of it is: the stream is told finished
      all_acked : IsShaped (finished left m.id) → Settles l (telling n reset (finished left m.id)) (finished left m.id)
      all_acked whole = record { shape = whole; first = λ j. tt; each = λ j. go j (cases_eq j m.id) }
        where
          after : StreamsState
          after = finished left m.id

          u : Tells
          u = telling n reset after

          counts : (j : ℕ) → u.times j ≡ t.times j + finishes_in j (stream_events.Finished m.id ∷ [])
          counts j =
              let both : finishes_in j after.events.queue ≡ finishes_in j (send_done left m.id).events.queue + finishes_in j (stream_events.Finished m.id ∷ []) = finishes_append j (send_done left m.id).events.queue (stream_events.Finished m.id ∷ []) in
              let before : finishes_in j (send_done left m.id).events.queue ≡ finishes_in j s.events.queue = ap (finishes_in j) (sent_queue left m.id) in
              omega arith

          -- the halves behind it, and the places
          Is : ℕ → StreamsState → Type 0
          Is j v = HalfIs (UnusedSettles l u j) (HalfSettles l u j) (DoneSettles u j) (at v.sending.halves.live j) (has_place v.side v.sending.halves.places j)

          done_same : (j : ℕ) (b : Bool) (v : StreamsState) → Is j v → Is j (done_if b m.id v)
          done_same j true v x = x
          done_same j false v x = x

          here : Is m.id (without_send left m.id)
          here =
              let x = there h is in
              let one : finishes_in m.id (stream_events.Finished m.id ∷ []) ≡ 1 = ap (λ (b : Bool). (if b then 1 else 0) + 0) (eq-eqb m.id m.id refl) in
              let was = x.0 in
              let sum = counts m.id in
              let told : u.times m.id ≡ 1 = omega arith in
              let free_of : reset m.id ≡ false = sym x.2 ∙ ap is_some none in
              let over : DoneSettles u m.id = told ∙ sym (ap times_done free_of) in
              let shaped : IsShaped left = shape_any (changes.queues m.id h new (has_pending new)) s ((live_sends s m.id h is), tt, refl) i.shape in
              let used = shaped.sending.placed m.id _ (at-half s.side s.sending.halves m.id (requeued s.sending.queue m.id new).half) in
              subst (λ (o : Option SendHalf). HalfIs (UnusedSettles l u m.id) (HalfSettles l u m.id) (DoneSettles u m.id) o (has_place left.side left.sending.halves.places m.id)) (sym (at-without left.sending.halves.live m.id shaped.sending.sorted))
              (subst (λ (b : Bool). HalfIs (UnusedSettles l u m.id) (HalfSettles l u m.id) (DoneSettles u m.id) None b) (sym used) over)

          other : (j : ℕ) → (j ≡ m.id → ⊥) → Is j (without_send left m.id)
          other j ne =
              let none_more : finishes_in j (stream_events.Finished m.id ∷ []) ≡ 0 = ap (λ (b : Bool). (if b then 1 else 0) + 0) (ne_eqb m.id j (λ e. ne (sym e))) in
              let sum = counts j in
              let before = apart_follows t u j ne (omega arith) refl (at s.sending.halves.live j) (has_place s.side s.sending.halves.places j) (i.each j) in
              subst (λ (o : Option SendHalf). HalfIs (UnusedSettles l u j) (HalfSettles l u j) (DoneSettles u j) o (has_place left.side left.sending.halves.places j)) (sym (at-without-apart left.sending.halves.live m.id j ne ∙ half-apart s.side s.sending.halves m.id (requeued s.sending.queue m.id new).half j ne))
              (subst (λ (b : Bool). HalfIs (UnusedSettles l u j) (HalfSettles l u j) (DoneSettles u j) (at s.sending.halves.live j) b) (sym (half_place-apart s.side s.sending.halves m.id (requeued s.sending.queue m.id new).half j i.shape.sending.runs ne)) before)

          go : (j : ℕ) → (j ≡ m.id) ⊎ (j ≡ m.id → ⊥) → Is j (send_done left m.id)
          go j (inl same) = subst (λ (x : ℕ). Is x (send_done left m.id)) (sym same) (done_same m.id (not (is_own left.side m.id) && is_done (receiving_status left m.id)) (without_send left m.id) here)
          go j (inr ne) = done_same j (not (is_own left.side m.id) && is_done (receiving_status left m.id)) (without_send left m.id) (other j ne)

    -- a STREAM frame is acknowledged
    pub settles_acked : Settles l (telling n reset (after_stream_acked s p m).state) (after_stream_acked s p m).state
    settles_acked = by_option (at s.sending.halves.live m.id) (λ o. IsShaped (acked_at o s p m).state → Settles l (telling n reset (acked_at o s p m).state) (acked_at o s p m).state)
        (λ e whole. same (λ h is. (let clash : ◌≡◌ {A = Option SendHalf} None (Some h) = sym e ∙ is in cc)))
        (λ h e. cond_both {A = Streams} (is_some h.reset) _ _ (λ v. IsShaped v.state → Settles l (telling n reset v.state) v.state)
        (λ f whole. same (λ g is. (let one : Some h ≡ Some g = sym e ∙ is in let alike : h ≡ g = cc in reset_here t g (ap (λ (x : SendHalf). is_some x.reset) (sym alike) ∙ f) (there g is))))
        (λ f. cond_both {A = Streams} (is_acked (half_acked h m)) _ _ (λ v. IsShaped v.state → Settles l (telling n reset v.state) v.state)
        (λ g whole. all_acked h e (free h.reset f) whole)
        (λ g whole. some_left h e (free h.reset f) g)))
        shape
