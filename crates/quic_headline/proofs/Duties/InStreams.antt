-- What of an end's streams is in flight stands somewhere: what each word about streams makes of
-- that.
use Rattle.std.proofs.Common.{◌≡◌, ℕ, Bool, true, false, Option, Some, None, refl, sym, ap, ◌∙◌, subst, ◌⊎◌, inl, inr}
use Rattle.std.specs.Option.{is_some}
use Rattle.std.proofs.lemmas.Bool.{cond_both, cases_eq}
use Rattle.quic_send_buffer.specs.declared.stream_meta.StreamMeta.{StreamMeta}
use Rattle.quic_streams_parts.specs.Table.{at}
use Rattle.quic_streams_parts.specs.SendHalf.{SendHalf, half_acked, half_lost, requeued, requeued_at, has_pending, is_acked}
use Rattle.quic_streams_halves.specs.Halves.{has_place}
use Rattle.quic_retransmits.specs.Retransmits.{Retransmits}
use Rattle.quic_streams_state.specs.declared.state.StreamsState.{StreamsState}
use Rattle.quic_streams_state.specs.State.{Streams, sending_half, send_done}
use Rattle.quic_streams_state.specs.Writing.{replaced}
use Rattle.quic_streams_state.specs.Acked.{after_stream_acked, after_stream_lost, acked_at, lost_at}
use Rattle.quic_streams_laws.specs.Each.{HalfIs}
use Rattle.quic_streams_laws.specs.Keeping.{KeepsBy}
use Rattle.quic_streams_laws.specs.Keeping as changes
use Rattle.quic_streams_laws.specs.EachLaws.{each_with, half_follows}
use Rattle.quic_streams_laws.specs.ShapeLaws.{sends_with}
use Rattle.quic_streams_laws.specs.KeepingLaws.{by_option, free, at-half, live_sends, by_open, by_accept, by_set_priority, by_read_begun, by_next, by_finalize, by_stop, by_received_reset}
use Rattle.quic_streams_laws.specs.Written.{Wrote, IsSendHalf, nothing_done}
use Rattle.quic_streams_laws.specs.WrittenHalves.{prioritized_holds, placed_holds, acked_holds, lost_holds}
use Rattle.quic_streams_laws.specs.WroteLaws.{HoldsWith, with_kept, with_half, with_write, with_write_chunks, with_finish, with_reset_call}
use Rattle.quic_headline.specs.Duties.{Duty, Carries}
use Rattle.quic_headline.proofs.Duties.Flies.{FliesIn, flies_more, flies_along, flies_acked, flies_lost}
use Rattle.quic_headline.proofs.Halves.Words.{CallWords}

-- of each stream that wasn't reset, what is in flight stands in F
abbrev pub AllFly : (Duty → Type 0) → (ℕ → Wrote) → StreamsState → Type 0
AllFly F done s = HoldsWith (FliesIn F) (λ id w. Unit {0}) done s

-- where it stands in more places
pub all_more : (F G : Duty → Type 0) (done : ℕ → Wrote) (s : StreamsState) → ((u : Duty) → F u → G u) → AllFly F done s → AllFly G done s
all_more F G done s more i = record {
  shape = i.shape;
  first = i.first;
  each = λ id. half_follows {N = done id ≡ nothing_done} {N' = done id ≡ nothing_done} {Q = λ h. IsSendHalf (done id) h × FliesIn F id h} {Q' = λ h. IsSendHalf (done id) h × FliesIn G id h} {D = Unit {0}} {D' = Unit {0}}
      (λ x. x) (λ h x. (x.0, flies_more F G id h more x.1)) (λ x. x) (at s.sending.halves.live id) (has_place s.side s.sending.halves.places id) (i.each id);
}

-- one half holds what was written, and what of it is in flight stands in F, where another did
abbrev pub Follows : (Duty → Type 0) → (ℕ → Wrote) → ℕ → SendHalf → SendHalf → Type 0
Follows F done id old new = IsSendHalf (done id) old × FliesIn F id old → IsSendHalf (done id) new × FliesIn F id new

-- each small change keeps it whose half follows
pub fly_kept : (F : Duty → Type 0) (done : ℕ → Wrote) → KeepsBy (λ r id old new. Unit {0}) (λ s id old new. Follows F done id old new) (λ s id n old new. Follows F done id old new) (AllFly F done)
fly_kept F done = with_kept (FliesIn F) (λ id w. Unit {0}) (flies_along F) done

-- ---- calls

-- calls put nothing in flight
pub fly_calls : (F : Duty → Type 0) → CallWords (AllFly F)
fly_calls F =
    let X : ℕ → SendHalf → Type 0 = FliesIn F in
    let D : ℕ → Wrote → Type 0 = λ id w. Unit {0} in
    record {
      writes = λ b w s p id bytes i. with_write X D (flies_along F) w s i b p id bytes;
      writes_chunks = λ b w s p id chunks i. with_write_chunks X D (flies_along F) w s i b p id chunks;
      finishes = λ w s id i. with_finish X D (flies_along F) w s i id;
      resets = λ w s p id code i. with_reset_call X D (flies_along F) w s i p id code;
      opens = λ b dir w s i. by_open (AllFly F w) (fly_kept F w) b dir s i;
      accepts = λ dir w s i. by_accept (AllFly F w) (fly_kept F w) dir s (λ may. may) i;
      sets_priority = λ w s id priority i. by_set_priority (AllFly F w) (fly_kept F w) s id priority (λ h e x. (prioritized_holds (w id) h x.0 priority, record { offsets = x.1.offsets; fin = x.1.fin })) i;
      begins = λ w s id ordered i. by_read_begun (AllFly F w) (fly_kept F w) s id ordered (λ h e. tt) i;
      nexts = λ w told s id most i. by_next (AllFly F w) (fly_kept F w) told s id most (λ h c e is. tt) i;
      finalizes = λ w s p id i. by_finalize (AllFly F w) (fly_kept F w) s p id i;
      stops = λ w s p id code i. by_stop (AllFly F w) (fly_kept F w) s p id code (λ h e. tt) i;
      hears_reset = λ w s p id i. by_received_reset (AllFly F w) (fly_kept F w) s p id i;
    }

-- ---- a frame is acknowledged or lost

module _ (F : Duty → Type 0) (done : ℕ → Wrote) (m : StreamMeta) where
  -- what of the frame's stream stands in it or in F, and of others in F
  abbrev Both : Duty → Type 0
  Both u = Carries m u ⊎ F u

  -- a frame carries nothing of other streams
  elsewhere : (id : ℕ) (h : SendHalf) → (id ≡ m.id → ⊥) → FliesIn Both id h → FliesIn F id h
  elsewhere id h ne x = record {
    offsets = λ none o is. elim (x.offsets none o is) [ inl c ↦ absurd (ne (sym c.0)) | inr f ↦ f ];
    fin = λ none is. elim (x.fin none is) [ inl c ↦ absurd (ne (sym c.0)) | inr f ↦ f ];
  }

  others_follow : (j : ℕ) (o : Option SendHalf) (used : Bool) → (j ≡ m.id → ⊥) → HalfIs (done j ≡ nothing_done) (λ h. IsSendHalf (done j) h × FliesIn Both j h) (Unit {0}) o used → HalfIs (done j ≡ nothing_done) (λ h. IsSendHalf (done j) h × FliesIn F j h) (Unit {0}) o used
  others_follow j o used ne = half_follows {N = done j ≡ nothing_done} {N' = done j ≡ nothing_done} {Q = λ h. IsSendHalf (done j) h × FliesIn Both j h} {Q' = λ h. IsSendHalf (done j) h × FliesIn F j h} {D = Unit {0}} {D' = Unit {0}} (λ x. x) (λ h x. (x.0, elsewhere j h ne x.1)) (λ x. x) o used

  -- a half is put where it stood, with its place in the queue
  placed_again : (o : Option (ℕ × ℕ)) (b : Bool) (q : _) (h : SendHalf) → IsSendHalf (done m.id) h × FliesIn F m.id h → IsSendHalf (done m.id) (requeued_at o b q m.id h).half × FliesIn F m.id (requeued_at o b q m.id h).half
  placed_again None true q h i = (placed_holds (done m.id) h i.0 _, record { offsets = i.1.offsets; fin = i.1.fin })
  placed_again None false q h i = (placed_holds (done m.id) h i.0 _, record { offsets = i.1.offsets; fin = i.1.fin })
  placed_again (Some place) true q h i = (placed_holds (done m.id) h i.0 _, record { offsets = i.1.offsets; fin = i.1.fin })
  placed_again (Some place) false q h i = (placed_holds (done m.id) h i.0 _, record { offsets = i.1.offsets; fin = i.1.fin })

  -- the half of the frame's stream is another now
  half_replaced : (s : StreamsState) (old new : SendHalf) → sending_half s m.id ≡ Some old → IsSendHalf (done m.id) new × FliesIn F m.id new → AllFly Both done s → AllFly F done (replaced s m.id new)
  half_replaced s old new is now i = record {
    shape = sends_with s m.id old (requeued s.sending.queue m.id new) is i.shape;
    first = i.first;
    each = each_with s.side s.sending.halves m.id (requeued s.sending.queue m.id new).half (λ j. done j ≡ nothing_done) (λ j. done j ≡ nothing_done) (λ j h. IsSendHalf (done j) h × FliesIn Both j h) (λ j h. IsSendHalf (done j) h × FliesIn F j h) (λ j. Unit {0}) (λ j. Unit {0}) i.shape.sending.runs
        (placed_again new.place (has_pending new) s.sending.queue new now) others_follow i.each;
  }

  -- nothing of that stream is in flight
  none_there : (s : StreamsState) → ((h : SendHalf) → at s.sending.halves.live m.id ≡ Some h → FliesIn F m.id h) → AllFly Both done s → AllFly F done s
  none_there s none i = record {
    shape = i.shape;
    first = i.first;
    each = λ j. elim (cases_eq j m.id) [
      | inl same ↦ here j same (at s.sending.halves.live j) refl (i.each j)
      | inr ne ↦ others_follow j (at s.sending.halves.live j) (has_place s.side s.sending.halves.places j) ne (i.each j)
    ];
  }
    where
      here : (j : ℕ) → j ≡ m.id → (o : Option SendHalf) → at s.sending.halves.live j ≡ o → HalfIs (done j ≡ nothing_done) (λ h. IsSendHalf (done j) h × FliesIn Both j h) (Unit {0}) o (has_place s.side s.sending.halves.places j)
          → HalfIs (done j ≡ nothing_done) (λ h. IsSendHalf (done j) h × FliesIn F j h) (Unit {0}) o (has_place s.side s.sending.halves.places j)
      here j same (Some h) is x = (x.0, subst (λ (n : ℕ). FliesIn F n h) (sym same) (none h (ap (λ (n : ℕ). at s.sending.halves.live n) (sym same) ∙ is)))
      here j same None is x = go (has_place s.side s.sending.halves.places j) x
        where
          go : (b : Bool) → HalfIs (done j ≡ nothing_done) (λ h. IsSendHalf (done j) h × FliesIn Both j h) (Unit {0}) None b → HalfIs (done j ≡ nothing_done) (λ h. IsSendHalf (done j) h × FliesIn F j h) (Unit {0}) None b
          go true y = y
          go false y = y

  -- ---- words

  module _ (s : StreamsState) (p : Retransmits) (ends : m.fin ≡ true → (done m.id).ended ≡ true) (i : AllFly Both done s) where
    -- what its half holds
    there : (h : SendHalf) → at s.sending.halves.live m.id ≡ Some h → IsSendHalf (done m.id) h × FliesIn Both m.id h
    there h e = with_half (FliesIn Both) (λ id w. Unit {0}) (flies_along Both) done s m.id h (live_sends s m.id h e) i

    -- the half behind an acknowledgement
    acked_there : (h : SendHalf) → at s.sending.halves.live m.id ≡ Some h → AllFly F done (replaced s m.id (half_acked h m))
    acked_there h e = let x = there h e in half_replaced s h (half_acked h m) (live_sends s m.id h e) (acked_holds (done m.id) h x.0 m ends, flies_acked F (done m.id) h m x.0 x.1) i

    -- of a half that was reset nothing has to stand anywhere
    reset_flies : (h g : SendHalf) → at s.sending.halves.live m.id ≡ Some h → at s.sending.halves.live m.id ≡ Some g → is_some h.reset ≡ true → FliesIn F m.id g
    reset_flies h g e is f =
        let same : h ≡ g = (let both : Some h ≡ Some g = sym e ∙ is in cc) in
        let over : is_some g.reset ≡ true = ap (λ (x : SendHalf). is_some x.reset) (sym same) ∙ f in
        record { offsets = λ none. absurd (clash g none over); fin = λ none. absurd (clash g none over) }
      where
        clash : (g : SendHalf) → g.reset ≡ None → is_some g.reset ≡ true → ⊥
        clash g none over = let off : false ≡ true = ap is_some (sym none) ∙ over in cc

    -- a STREAM frame is acknowledged
    pub fly_acked : AllFly F done (after_stream_acked s p m).state
    fly_acked = by_option (at s.sending.halves.live m.id) (λ o. AllFly F done (acked_at o s p m).state)
        (λ e. none_there s (λ h is. (let clash : ◌≡◌ {A = Option SendHalf} None (Some h) = sym e ∙ is in cc)) i)
        (λ h e. cond_both {A = Streams} (is_some h.reset) _ _ (λ t. AllFly F done t.state)
        (λ f. none_there s (λ g is. reset_flies h g e is f) i)
        (λ f.
        let t : StreamsState = replaced s m.id (half_acked h m) in
        let now : AllFly F done t = acked_there h e in
        let k = fly_kept F done in
        let here : at t.sending.halves.live m.id ≡ Some (requeued_at h.place (has_pending (half_acked h m)) s.sending.queue m.id (half_acked h m)).half = at-half s.side s.sending.halves m.id _ in
        cond_both {A = Streams} (is_acked (half_acked h m)) _ _ (λ u. AllFly F done u.state)
        (λ g. k (changes.finishes m.id) (send_done t m.id) tt (k (changes.ends_sending m.id _) t (here, (inr (again_acked h.place (has_pending (half_acked h m)) s.sending.queue (half_acked h m) ∙ g))) now)) (λ g. now)))
      where
        again_acked : (o : Option (ℕ × ℕ)) (b : Bool) (q : _) (h : SendHalf) → is_acked (requeued_at o b q m.id h).half ≡ is_acked h
        again_acked None true q h = refl
        again_acked None false q h = refl
        again_acked (Some place) true q h = refl
        again_acked (Some place) false q h = refl

    -- or lost
    pub fly_lost : AllFly F done (after_stream_lost s m)
    fly_lost = by_option (at s.sending.halves.live m.id) (λ o. AllFly F done (lost_at o s m))
        (λ e. none_there s (λ h is. (let clash : ◌≡◌ {A = Option SendHalf} None (Some h) = sym e ∙ is in cc)) i)
        (λ h e. cond_both (is_some h.reset) _ _ (AllFly F done)
        (λ f. none_there s (λ g is. reset_flies h g e is f) i)
        (λ f. (let x = there h e in half_replaced s h (half_lost h m) (live_sends s m.id h e) (lost_holds (done m.id) h x.0 m (free h.reset f) ends, flies_lost F (done m.id) h m x.0 x.1) i)))
