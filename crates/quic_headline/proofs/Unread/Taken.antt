-- What a packet that is taken leaves of what is known of each half that receives: its frames are
-- among those that were taken.
use Rattle.std.proofs.Common.{◌≡◌, ℕ, ◌≤◌, Bool, true, false, List, [], ◌∷◌, ◌++◌, Option, Some, None, refl, sym, ◌∙◌, subst, ◌⊎◌, inl, inr, append_assoc, append-nil}
use Rattle.std.specs.Prelude.{◌&&◌, ◌||◌, not, if◌then◌else◌}
use Rattle.std.specs.Option.{is_some}
use Rattle.std.proofs.lemmas.Bool.{cases_eq, and_from}
use Rattle.quic_wire_core.specs.StreamId.{dir_of}
use Rattle.quic_wire.specs.Value.{FrameValue, StreamValue, ResetStreamValue, stream, reset_stream}
use Rattle.quic_streams_parts.specs.declared.answers.Breach.{Breach}
use Rattle.quic_streams_parts.specs.declared.answers.Breach.TheVariants as breaches
use Rattle.quic_streams_parts.specs.Dirs.{is_own, is_two_way}
use Rattle.quic_streams_parts.specs.Table.{at}
use Rattle.quic_streams_parts.specs.RecvHalf.{RecvHalf, new_recv_half, after_frame, after_reset_stream, end_of}
use Rattle.quic_streams_halves.specs.Halves.{half_of, status_from, has_place}
use Rattle.quic_streams_state.specs.declared.state.StreamsState.{StreamsState}
use Rattle.quic_streams_state.specs.State.{Receiving, is_opened, receives_on, first_window, receiving_half}
use Rattle.quic_streams_state.specs.Opening.{opens, opened_if, opened_by, beyond, receiving_refusal}
use Rattle.quic_streams_state.specs.Taking.{part_for, refusal, breach_kept, reset_breach, renewed}
use Rattle.quic_streams_laws.specs.Keeping.{EndsThere}
use Rattle.quic_streams_laws.specs.KeepingLaws.{stream_cases, reset_cases}
use Rattle.quic_streams_laws.specs.Each.{HalfIs}
use Rattle.quic_streams_laws.specs.Written.{Wrote}
use Rattle.quic_machine.specs.End.{End}
use Rattle.quic_machine.specs.Receive.{fault_of, take_frame}
use Rattle.quic_machine.specs.FrameCases.{passed, frames_taken}
use Rattle.quic_headline.specs.Runs.{In}
use Rattle.quic_headline.proofs.Places.Told.{in_append}
use Rattle.quic_headline.proofs.Halves.Ghosts.{SaysOf}
use Rattle.quic_headline.proofs.Halves.Opened.{opened_now}
use Rattle.quic_headline.proofs.Channel.Received.{Stays}
use Rattle.quic_headline.proofs.Channel.Seen.{receives_within}
use Rattle.quic_headline.proofs.Channel.Told.{stays_frame}
use Rattle.quic_headline.proofs.Unread.Walk.{Of, Change, takes, resets, renewed_left, opened_left, opened_receiving, frame_kept}
use Rattle.quic_headline.proofs.Unread.Half.{Brings, IsTold, IsUntold, IsWhole, change_told, frame_reaches, reset_reaches, reset_leaves, told_fewer, told_with}
use Rattle.quic_headline.proofs.Unread.Consumed.{Consumes, half_told, with_value, consumed_steps, consumes_fewer, known_calls, known_with, known_opened, ended_there}

-- ---- a stream of which a frame comes

-- it is opened then
opened_after : (s : StreamsState) (id : ℕ) → receiving_refusal s id ≡ None → is_opened (opened_by s id) id ≡ true
opened_after s id e = go (is_own s.side id) refl
  where
    was : (own o : Bool) (z : Option Breach) → own ≡ true → (if own then (if o then None else Some breaches.StreamState) else z) ≡ None → o ≡ true
    was true true z f g = refl
    was true false z f g = cc
    was false o z f g = cc

    not_theirs : (own o : Bool) → own ≡ true → (not own && not o) ≡ true → ⊥
    not_theirs true o f g = cc
    not_theirs false o f g = cc

    by_opening : is_own s.side id ≡ true → (b : Bool) → opens s id ≡ b → is_opened (opened_if b id s) id ≡ true
    by_opening own true f = absurd (not_theirs (is_own s.side id) (is_opened s id) own f)
    by_opening own false f = was (is_own s.side id) (is_opened s id) _ own (receives_within s id e)

    go : (b : Bool) → is_own s.side id ≡ b → is_opened (opened_by s id) id ≡ true
    go false theirs = opened_now s id theirs
    go true own = by_opening own (opens s id) refl

-- and where its half is done, that was in use
pub gone_there : (s : StreamsState) (id : ℕ) → receiving_refusal s id ≡ None → part_for s id ≡ None → (at s.receiving.halves.live id ≡ None) × (has_place s.side s.receiving.halves.places id ≡ true)
gone_there s id e none = by_opening (opens s id) (opened_after s id e) none
  where
    Gone : Type 0
    Gone = (at s.receiving.halves.live id ≡ None) × (has_place s.side s.receiving.halves.places id ≡ true)

    new : RecvHalf
    new = new_recv_half (first_window s.receiving)

    receives : receives_on s.side id ≡ true
    receives = by_way (is_own s.side id) (is_two_way (dir_of id)) e
      where
        by_way : (own two : Bool) → (if own && not two then Some breaches.StreamState else beyond s id) ≡ None → (not own || two) ≡ true
        by_way true true f = refl
        by_way true false f = cc
        by_way false two f = refl

    by_status : (o : Option RecvHalf) (m u : Bool) → at s.receiving.halves.live id ≡ o → has_place s.side s.receiving.halves.places id ≡ u → m ≡ true → half_of (new_recv_half (first_window s.receiving)) (status_from o m u) ≡ None → Gone
    by_status (Some h) m u is p f g = cc
    by_status None true true is p f g = (is, p)
    by_status None true false is p f g = cc
    by_status None false u is p f g = cc

    by_opening : (b : Bool) → is_opened (opened_if b id s) id ≡ true → receiving_half (opened_if b id s) id ≡ None → Gone
    by_opening true opened f = by_status (at s.receiving.halves.live id) (receives_on s.side id && is_opened (opened_if true id s) id) (has_place s.side s.receiving.halves.places id) refl refl (and_from (receives_on s.side id) (is_opened (opened_if true id s) id) receives opened) f
    by_opening false opened f = by_status (at s.receiving.halves.live id) (receives_on s.side id && is_opened s id) (has_place s.side s.receiving.halves.places id) refl refl (and_from (receives_on s.side id) (is_opened s id) receives opened) f

-- a rule of streams that was not broken
pub no_fault : (o : Option Breach) → fault_of o ≡ None → o ≡ None
no_fault None e = refl
no_fault (Some b) e = cc

pub kept_before : (o : Option Breach) (s : StreamsState) (f : StreamValue) → breach_kept o s f ≡ None → o ≡ None
kept_before None s f e = refl
kept_before (Some b) s f e = cc

pub unbroken_none : (b : Breach) (o : Option Breach) → o ≡ None → o ≡ Some b → ⊥
unbroken_none b o e f = cc

-- ---- a frame that is taken

module _ (done : ℕ → Wrote) (before : StreamsState) (taken more : FrameValue → Type 0) (f : FrameValue) (one : (g : FrameValue) → more g → taken g ⊎ (g ≡ f)) where
  abbrev Was : StreamsState → Type 0
  Was s = Of (Consumes done taken) s

  abbrev Now : StreamsState → Type 0
  Now s = Of (Consumes done more) s

  -- of other streams no frame more was taken
  elsewhere : (id : ℕ) → ((q end : ℕ) → Brings f q end → q ≡ id) → (j : ℕ) → (j ≡ id → ⊥) → (g : FrameValue) (end : ℕ) → Brings g j end → more g → taken g
  elsewhere id only j ne g end brings was = elim (one g was) [ inl old ↦ old | inr is ↦ absurd (ne (only j end (subst (λ (x : FrameValue). Brings x j end) is brings))) ]

  -- the half of its stream is done
  gone_takes : (s : StreamsState) (id : ℕ) → ((q end : ℕ) → Brings f q end → q ≡ id) → receiving_refusal s id ≡ None → part_for s id ≡ None → Was s → Now s
  gone_takes s id only e none i = record { final = i.final; sum = i.sum; each = λ j. at_each j (cases_eq j id) }
    where
      gone : (at s.receiving.halves.live id ≡ None) × (has_place s.side s.receiving.halves.places id ≡ true)
      gone = gone_there s id e none

      F : (FrameValue → Type 0) → ℕ → Option RecvHalf → Bool → Type 0
      F these j o b = HalfIs (IsUntold these j) (IsTold (done j) these j) (IsWhole (done j) (i.final j)) o b

      fewer : (j : ℕ) (o : Option RecvHalf) (b : Bool) → ((g : FrameValue) (end : ℕ) → Brings g j end → more g → taken g) → F taken j o b → F more j o b
      fewer j (Some h) b less x = told_fewer (done j) taken more j h less x
      fewer j None true less x = x
      fewer j None false less x = λ g end was brings. x g end (less g end brings was) brings

      at_each : (j : ℕ) → (j ≡ id) ⊎ (j ≡ id → ⊥) → F more j (at s.receiving.halves.live j) (has_place s.side s.receiving.halves.places j)
      at_each j (inl same) =
          let was : F taken id None true = subst (λ (b : Bool). F taken id None b) gone.1 (subst (λ (o : Option RecvHalf). F taken id o (has_place s.side s.receiving.halves.places id)) gone.0 (i.each id)) in
          let now : F more id (at s.receiving.halves.live id) (has_place s.side s.receiving.halves.places id) = subst (λ (o : Option RecvHalf). F more id o (has_place s.side s.receiving.halves.places id)) (sym gone.0) (subst (λ (b : Bool). F more id None b) (sym gone.1) was) in
          subst (λ (x : ℕ). F more x (at s.receiving.halves.live x) (has_place s.side s.receiving.halves.places x)) (sym same) now
      at_each j (inr ne) = fewer j (at s.receiving.halves.live j) (has_place s.side s.receiving.halves.places j) (elsewhere id only j ne) (i.each j)

  -- it has another value
  value_takes : (s : StreamsState) (id : ℕ) (old new : RecvHalf) (tells : Bool) → ((q end : ℕ) → Brings f q end → q ≡ id) → beyond s id ≡ None → part_for s id ≡ Some old → Change (SaysOf done) s.receiving id old new
      → (IsTold (done id) taken id old → EndsThere old → (end : ℕ) → Brings f id end → end ≤ new.seen) → ((g : ResetStreamValue) → f ≡ reset_stream g → (new.stopped ≡ true) ⊎ (is_some new.reset ≡ true)) → Stays before s → Was s → Now (renewed s id old new tells)
  value_takes s id old new tells only within part change reach leaves known i =
      let u : StreamsState = opened_by s id in
      let there : Stays before u = known_opened before s id within known in
      let on : Change (SaysOf done) u.receiving id old new = subst (λ (r : Receiving). Change (SaysOf done) r id old new) (sym (opened_receiving s id)) change in
      let was : Was u = opened_left (Consumes done taken) s id i in
      let told : IsTold (done id) taken id old = half_told done taken u id old part was in
      let ended : EndsThere old = ended_there before u id old part there in
      let now : IsTold (done id) more id new = told_with (done id) taken more id new f one (reach told ended) leaves (change_told done taken u.receiving id old new ended on told) in
      renewed_left (SaysOf done) (Stays before) (known_calls before) (Consumes done more) (consumed_steps done before more) s id old new tells (known_with before (SaysOf done) u id old new part on there)
      (with_value done before taken more u id old new part now (elsewhere id only) there was)

-- a frame that says what was written, and is taken, is one of them
frame_takes : (done : ℕ → Wrote) (before : StreamsState) (taken more : FrameValue → Type 0) (f : FrameValue) (e : End) → ((g : FrameValue) → more g → taken g ⊎ (g ≡ f)) → SaysOf done f → (take_frame f e).fault ≡ None → Stays before e.streams → Of (Consumes done taken) e.streams
    → Of (Consumes done more) (take_frame f e).end.streams
frame_takes done before taken more (stream g) e one says none known i =
    let allowed : refusal e.streams g.id (end_of g) g.fin ≡ None = kept_before (refusal e.streams g.id (end_of g) g.fin) e.streams g (no_fault _ none) in
    stream_cases e.streams e.waiting.frames g (Of (Consumes done more))
    (λ b is. absurd (unbroken_none b (refusal e.streams g.id (end_of g) g.fin) allowed is))
    (λ within gone. gone_takes done before taken more (stream g) one e.streams g.id (λ q end brings. sym brings.0) within gone i)
    (λ h within part u. value_takes done before taken more (stream g) one e.streams g.id h (after_frame h g) true (λ q end brings. sym brings.0) within part (takes g says refl u refl)
    (λ told ended end brings. subst (λ (n : ℕ). n ≤ (after_frame h g).seen) brings.1 (frame_reaches (done g.id) taken e.streams.receiving g.id h g ended told u)) (λ r is. cc) known i)
frame_takes done before taken more (reset_stream g) e one says none known i =
    let allowed : reset_breach e.streams g ≡ None = no_fault _ none in
    reset_cases e.streams e.waiting.frames g (Of (Consumes done more))
    (λ b is. absurd (unbroken_none b (reset_breach e.streams g) allowed is))
    (λ within gone. gone_takes done before taken more (reset_stream g) one e.streams g.id (λ q end brings. sym brings.0) within gone i)
    (λ h within part u. value_takes done before taken more (reset_stream g) one e.streams g.id h (after_reset_stream h g.code g.final_size) (not (is_some h.reset)) (λ q end brings. sym brings.0) within part (resets g says refl u refl)
    (λ told ended end brings. subst (λ (n : ℕ). n ≤ (after_reset_stream h g.code g.final_size).seen) brings.1 (reset_reaches (done g.id) taken e.streams.receiving g.id h g.code g.final_size ended told u)) (λ r is. reset_leaves h g.code g.final_size) known i)
frame_takes done before taken more f e one says none known i =
    consumes_fewer done taken more (take_frame f e).end.streams.side (take_frame f e).end.streams.receiving (take_frame f e).end.streams.opening.announced (take_frame f e).end.streams.opening.configured
    (λ g id end brings was. elim (one g was) [ inl old ↦ old | inr is ↦ absurd (subst (λ (x : FrameValue). Brings x id end) is brings) ])
    (frame_kept (SaysOf done) (Stays before) (known_calls before) (Consumes done taken) (consumed_steps done before taken) (known_opened before) f e says known i)

-- ---- all frames of a packet

-- the frames that were taken before a packet, and its first ones
abbrev so_far : (FrameValue → Type 0) → List FrameValue → FrameValue → Type 0
so_far taken front g = taken g ⊎ In g front

-- over the frames that are left of a packet: these came before them
record Left (done : ℕ → Wrote) (before : StreamsState) (taken : FrameValue → Type 0) (frames left : List FrameValue) (x : End) : Type 0 where
  front : List FrameValue
  is : front ++ left ≡ frames
  says : (f : FrameValue) → In f left → SaysOf done f
  known : Stays before x.streams
  holds : Of (Consumes done (so_far taken front)) x.streams

pub frames_take : (done : ℕ → Wrote) (before : StreamsState) (taken more : FrameValue → Type 0) (frames : List FrameValue) (e : End) → ((g : FrameValue) → more g → taken g ⊎ In g frames) → ((f : FrameValue) → In f frames → SaysOf done f) → (passed frames e).fault ≡ None → Stays before e.streams
    → Of (Consumes done taken) e.streams → Of (Consumes done more) (passed frames e).end.streams
frames_take done before taken more frames e one says none known i =
    let first : Of (Consumes done (so_far taken [])) e.streams = consumes_fewer done taken (so_far taken []) e.streams.side e.streams.receiving e.streams.opening.announced e.streams.opening.configured (λ g id end brings was. nothing_more g was) i in
    let all = frames_taken (Left done before taken frames) step frames e none (record { front = []; is = refl; says = says; known = known; holds = first }) in
    let after : End = (passed frames e).end in
    consumes_fewer done (so_far taken all.front) more after.streams.side after.streams.receiving after.streams.opening.announced after.streams.opening.configured
    (λ g id end brings was. elim (one g was) [ inl old ↦ inl old | inr j ↦ inr (subst (In g) (sym (sym (append-nil all.front) ∙ all.is)) j) ]) all.holds
  where
    nothing_more : (g : FrameValue) → so_far taken [] g → taken g
    nothing_more g (inl was) = was
    nothing_more g (inr j) = absurd j

    last : (g f : FrameValue) → In g (f ∷ []) → g ≡ f
    last g f (inl is) = is
    last g f (inr none) = absurd none

    by_part : (front : List FrameValue) (f g : FrameValue) → so_far taken (front ++ f ∷ []) g → so_far taken front g ⊎ (g ≡ f)
    by_part front f g (inl was) = inl (inl was)
    by_part front f g (inr j) = elim (in_append g front (f ∷ []) j) [ inl was ↦ inl (inr was) | inr now ↦ inr (last g f now) ]

    step : (f : FrameValue) (left : List FrameValue) (x : End) → (take_frame f x).fault ≡ None → Left done before taken frames (f ∷ left) x → Left done before taken frames left (take_frame f x).end
    step f left x right g = record {
      front = g.front ++ f ∷ [];
      is = append_assoc g.front (f ∷ []) left ∙ g.is;
      says = λ h j. g.says h (inr j);
      known = stays_frame before f x g.known;
      holds = frame_takes done before (so_far taken g.front) (so_far taken (g.front ++ f ∷ [])) f x (by_part g.front f) (g.says f (inl refl)) right g.known g.holds;
    }
