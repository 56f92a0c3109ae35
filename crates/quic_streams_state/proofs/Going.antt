-- What goes of a kind, one after another.
use Rattle.std.proofs.Common.{◌≡◌, ℕ, ◌+◌, ◌-◌, ◌≤◌, ◌<◌, Bool, true, false, List, [], ◌∷◌, ◌++◌, length, take, Option, Some, None, Result, Ok, Err, OnErr, ◌⊎◌, inl, inr, refl, sym, ap, subst, ◌∙◌, arith}
use Rattle.std.specs.Prelude.{nat_le, map, if◌then◌else◌}
use Rattle.std.specs.List.{fold}
use Rattle.std.proofs.lemmas.List.{append_assoc, append-nil, take-append-le}
use Rattle.std.proofs.lemmas.Bool.{le-leb}
use Rattle.std.proofs.lemmas.Bool.Decides.{leb_tells}
use Rattle.quic_wire.specs.Value.{FrameValue}
use Rattle.quic_wire.specs.Writing.{spelling, spelled_all, frame_size}
use Rattle.quic_retransmits.specs.Retransmits.{Retransmits, others_of, is_any}
use Rattle.quic_retransmits.specs.declared.retransmits.ControlKind.{ControlKind}
use Rattle.quic_streams_state.specs.State.{StreamsState}
use Rattle.quic_streams_state.specs.Control.{Entry, Draft, waiting, without_first, no_frames, first_dropped, first_sent, first_and_more, with_listed, with_kind, frame_of_first, frame_told, and_again}
use Rattle.quic_streams_state.specs.ControlLaws.{others_wait}

-- ---- frames that went already

-- a draft behind other frames
abbrev pub behind : List FrameValue → Draft → Draft
behind fs d = record d { frames = fs ++ d.frames }

first_behind : (more : Draft → Draft) (kind : ControlKind) (most : ℕ) (fs : List FrameValue) (d : Draft) (o : Option FrameValue)
    → ((x : Draft) → more (behind fs x) ≡ behind fs (more x)) → first_and_more o more kind most (behind fs d) ≡ behind fs (first_and_more o more kind most d)
first_behind more kind most fs d None m = m (first_dropped kind d)
first_behind more kind most fs d (Some f) m = go (nat_le (d.used + frame_size f) most)
  where
    sent : first_sent kind f (behind fs d) ≡ behind fs (first_sent kind f d)
    sent = ap (λ gs. record (first_sent kind f d) { frames = gs }) (append_assoc fs d.frames (f ∷ []))

    go : (b : Bool) → (if b then more (first_sent kind f (behind fs d)) else behind fs d) ≡ behind fs (if b then more (first_sent kind f d) else d)
    go true = ap more sent ∙ m (first_sent kind f d)
    go false = refl

listed_behind : (kind : ControlKind) (most : ℕ) (es : List Entry) (fs : List FrameValue) (d : Draft) → with_listed kind most es (behind fs d) ≡ behind fs (with_listed kind most es d)
listed_behind kind most [] fs d = refl
listed_behind kind most (e ∷ es) fs d = first_behind (with_listed kind most es) kind most fs d (e.frame d.state) (listed_behind kind most es fs)

-- what goes of kinds doesn't depend on the frames before it
pub kinds_behind : (most : ℕ) (kinds : List ControlKind) (fs : List FrameValue) (d : Draft) → fold (with_kind most) (behind fs d) kinds ≡ behind fs (fold (with_kind most) d kinds)
kinds_behind most [] fs d = refl
kinds_behind most (kind ∷ kinds) fs d = ap (λ x. fold (with_kind most) x kinds) (listed_behind kind most (waiting kind d.pending) fs d) ∙ kinds_behind most kinds fs (with_kind most d kind)

-- a draft is behind its own frames
pub own_frames : (d : Draft) → behind d.frames (no_frames d.used d.state d.pending d.sent) ≡ d
own_frames d = ap (λ fs. record d { frames = fs }) (append-nil d.frames)

-- ---- one step

-- the first is dropped where it is no longer due
pub goes_stale : (kind : ControlKind) (most used : ℕ) (s : StreamsState) (p sent : Retransmits) → is_any (waiting kind p) ≡ true → frame_of_first (waiting kind p) s ≡ None
    → with_kind most (no_frames used s p sent) kind ≡ with_kind most (no_frames used s (without_first kind p) sent) kind
goes_stale kind most used s p sent any none = go (waiting kind p) (others_wait kind p) any none
  where
    next : Draft
    next = no_frames used s (without_first kind p) sent

    go : (es : List Entry) → waiting kind (without_first kind p) ≡ others_of es → is_any es ≡ true → frame_of_first es s ≡ None → with_listed kind most es (no_frames used s p sent) ≡ with_kind most (no_frames used s (without_first kind p) sent) kind
    go [] others any none = cc
    go (e ∷ es) others any none =
        ap (λ o. first_and_more o (with_listed kind most es) kind most (no_frames used s p sent)) none
        ∙ ap (λ xs. with_listed kind most xs (no_frames used s (without_first kind p) sent)) (sym others)

-- and fewer wait then
pub fewer_wait : (kind : ControlKind) (p q : Retransmits) → is_any (waiting kind p) ≡ true → q ≡ without_first kind p → length (waiting kind q) < length (waiting kind p)
fewer_wait kind p q any is = subst (λ (r : Retransmits). length (waiting kind r) < length (waiting kind p)) (sym is) (go (waiting kind p) (others_wait kind p) any)
  where
    go : (es : List Entry) → waiting kind (without_first kind p) ≡ others_of es → is_any es ≡ true → length (waiting kind (without_first kind p)) < length es
    go [] others any = cc
    go (e ∷ es) others any = let same : length (waiting kind (without_first kind p)) ≡ length es = ap (λ (xs : List Entry). length xs) others in omega arith

-- nothing goes where nothing waits
pub goes_none : (kind : ControlKind) (most used : ℕ) (s : StreamsState) (p sent : Retransmits) → is_any (waiting kind p) ≡ false → with_kind most (no_frames used s p sent) kind ≡ no_frames used s p sent
goes_none kind most used s p sent none = go (waiting kind p) none
  where
    go : (es : List Entry) → is_any es ≡ false → with_listed kind most es (no_frames used s p sent) ≡ no_frames used s p sent
    go [] none = refl
    go (e ∷ es) none = cc

-- nor where the first doesn't fit
pub goes_full : (kind : ControlKind) (most used : ℕ) (s : StreamsState) (p sent : Retransmits) (f : FrameValue) → frame_of_first (waiting kind p) s ≡ Some f → nat_le (used + frame_size f) most ≡ false
    → with_kind most (no_frames used s p sent) kind ≡ no_frames used s p sent
goes_full kind most used s p sent f is full = go (waiting kind p) is
  where
    go : (es : List Entry) → frame_of_first es s ≡ Some f → with_listed kind most es (no_frames used s p sent) ≡ no_frames used s p sent
    go [] is = cc
    go (e ∷ es) is =
        ap (λ o. first_and_more o (with_listed kind most es) kind most (no_frames used s p sent)) is
        ∙ ap (λ b. if b then with_listed kind most es (first_sent kind f (no_frames used s p sent)) else no_frames used s p sent) full

-- the first goes where it fits
pub goes_first : (kind : ControlKind) (most used : ℕ) (s : StreamsState) (p sent : Retransmits) (f : FrameValue) → frame_of_first (waiting kind p) s ≡ Some f → nat_le (used + frame_size f) most ≡ true
    → with_kind most (no_frames used s p sent) kind ≡ behind (f ∷ []) (with_kind most (no_frames (used + frame_size f) (frame_told f s) (without_first kind p) (and_again sent f)) kind)
goes_first kind most used s p sent f is fits = go (waiting kind p) (others_wait kind p) is
  where
    go : (es : List Entry) → waiting kind (without_first kind p) ≡ others_of es → frame_of_first es s ≡ Some f
        → with_listed kind most es (no_frames used s p sent) ≡ behind (f ∷ []) (with_kind most (no_frames (used + frame_size f) (frame_told f s) (without_first kind p) (and_again sent f)) kind)
    go [] others is = cc
    go (e ∷ es) others is =
        ap (λ o. first_and_more o (with_listed kind most es) kind most (no_frames used s p sent)) is
        ∙ ap (λ b. if b then with_listed kind most es (first_sent kind f (no_frames used s p sent)) else no_frames used s p sent) fits
        ∙ listed_behind kind most es (f ∷ []) (no_frames (used + frame_size f) (frame_told f s) (without_first kind p) (and_again sent f))
        ∙ ap (λ xs. behind (f ∷ []) (with_listed kind most xs (no_frames (used + frame_size f) (frame_told f s) (without_first kind p) (and_again sent f)))) (sym others)

-- ---- what is written

-- from these bytes and this draft on the same is written and left as from those others
pub record Left (before : List ℕ) (d : Draft) (after : List ℕ) (e : Draft) : Type 0 where
  pub items : before ++ spelled_all d.frames ≡ after ++ spelled_all e.frames
  pub used : d.used ≡ e.used
  pub state : d.state ≡ e.state
  pub pending : d.pending ≡ e.pending
  pub sent : d.sent ≡ e.sent
  pub fewer : length e.frames ≤ length d.frames

-- at first
pub left_all : (before : List ℕ) (d : Draft) → Left before d before d
left_all before d = record { items = refl; used = refl; state = refl; pending = refl; sent = refl; fewer = omega arith }

spelled_append : (fs gs : List FrameValue) → spelled_all (fs ++ gs) ≡ spelled_all fs ++ spelled_all gs
spelled_append [] gs = refl
spelled_append (f ∷ fs) gs = ap (λ x. spelling f ++ x) (spelled_append fs gs) ∙ sym (append_assoc (spelling f) (spelled_all fs) (spelled_all gs))

longer : (fs gs : List FrameValue) → length gs ≤ length (fs ++ gs)
longer [] gs = omega arith
longer (f ∷ fs) gs = let below = longer fs gs in omega arith

-- once frames were written
pub left_behind : (before : List ℕ) (d : Draft) (after : List ℕ) (x e : Draft) (fs : List FrameValue) (more : List ℕ)
    → Left before d after x → x ≡ behind fs e → more ≡ after ++ spelled_all fs → Left before d more e
left_behind before d after x e fs more l is grown = go (subst (λ y. Left before d after y) is l)
  where
    go : Left before d after (behind fs e) → Left before d more e
    go l = record {
      items = l.items ∙ ap (λ y. after ++ y) (spelled_append fs e.frames) ∙ sym (append_assoc after (spelled_all fs) (spelled_all e.frames)) ∙ ap (λ y. y ++ spelled_all e.frames) (sym grown);
      used = l.used;
      state = l.state;
      pending = l.pending;
      sent = l.sent;
      fewer = let more = longer fs e.frames in let below = l.fewer in omega arith;
    }

-- once the first was dropped, since it is no longer due
pub left_stale : (before : List ℕ) (d : Draft) (after : List ℕ) (kind : ControlKind) (most used : ℕ) (s : StreamsState) (p q sent : Retransmits)
    → Left before d after (with_kind most (no_frames used s p sent) kind) → is_any (waiting kind p) ≡ true → frame_of_first (waiting kind p) s ≡ None → q ≡ without_first kind p
    → Left before d after (with_kind most (no_frames used s q sent) kind)
left_stale before d after kind most used s p q sent l any none is =
    subst (Left before d after) (goes_stale kind most used s p sent any none ∙ ap (λ w. with_kind most (no_frames used s w sent) kind) (sym is)) l

-- the streams, what waits and what a datagram carries, once the first went
pub record FirstWent (kind : ControlKind) (f : FrameValue) (s : StreamsState) (p sent : Retransmits) (s' : StreamsState) (p' sent' : Retransmits) : Type 0 where
  pub told : s' ≡ frame_told f s
  pub dropped : p' ≡ without_first kind p
  pub carried : sent' ≡ and_again sent f

went : (kind : ControlKind) (f : FrameValue) (most used : ℕ) (s : StreamsState) (p sent : Retransmits) (s' : StreamsState) (p' sent' : Retransmits) → FirstWent kind f s p sent s' p' sent'
    → with_kind most (no_frames used (frame_told f s) (without_first kind p) (and_again sent f)) kind ≡ with_kind most (no_frames used s' p' sent') kind
went kind f most used s p sent s' p' sent' w = let told = w.told in let dropped = w.dropped in let carried = w.carried in ap (λ x. with_kind most x kind) (cc)

-- once the frame of the first went
pub left_first : (before : List ℕ) (d : Draft) (after : List ℕ) (kind : ControlKind) (most used : ℕ) (s : StreamsState) (p sent : Retransmits) (f : FrameValue) (more : List ℕ) (used' : ℕ) (s' : StreamsState) (p' sent' : Retransmits)
    → Left before d after (with_kind most (no_frames used s p sent) kind) → frame_of_first (waiting kind p) s ≡ Some f → used + frame_size f ≤ most
    → FirstWent kind f s p sent s' p' sent' → used' ≡ used + frame_size f → more ≡ after ++ spelling f
    → Left before d more (with_kind most (no_frames used' s' p' sent') kind)
left_first before d after kind most used s p sent f more used' s' p' sent' l is fits w len grown =
    let next : with_kind most (no_frames used s p sent) kind ≡ behind (f ∷ []) (with_kind most (no_frames used' s' p' sent') kind) =
    goes_first kind most used s p sent f is (le-leb (used + frame_size f) most fits)
    ∙ ap (behind (f ∷ [])) (went kind f most (used + frame_size f) s p sent s' p' sent' w ∙ ap (λ n. with_kind most (no_frames n s' p' sent') kind) (sym len)) in
    left_behind before d after (with_kind most (no_frames used s p sent) kind) (with_kind most (no_frames used' s' p' sent') kind) (f ∷ []) more l next (grown ∙ ap (λ x. after ++ x) (sym (append-nil (spelling f))))

-- a frame goes where the first is due and fits
pub left_some : (before : List ℕ) (d : Draft) (after : List ℕ) (kind : ControlKind) (most used : ℕ) (s : StreamsState) (p sent : Retransmits) (f : FrameValue)
    → Left before d after (with_kind most (no_frames used s p sent) kind) → frame_of_first (waiting kind p) s ≡ Some f → used + frame_size f ≤ most → 0 < length d.frames
left_some before d after kind most used s p sent f l is fits =
    let first = ap (λ x. length x.frames) (goes_first kind most used s p sent f is (le-leb (used + frame_size f) most fits)) in
    let fewer = l.fewer in
    omega arith

too_many : (a b : ℕ) → b < a → nat_le a b ≡ false
too_many a b less = go (leb_tells a b)
  where
    go : ((nat_le a b ≡ true) × (a ≤ b)) ⊎ ((nat_le a b ≡ false) × (b < a)) → nat_le a b ≡ false
    go (inl (x, le)) = absurd (omega arith)
    go (inr (x, lt)) = x

-- where nothing of a kind goes any more
pub left_none : (before : List ℕ) (d : Draft) (after : List ℕ) (kind : ControlKind) (most used : ℕ) (s : StreamsState) (p sent : Retransmits)
    → Left before d after (with_kind most (no_frames used s p sent) kind) → is_any (waiting kind p) ≡ false → Left before d after (no_frames used s p sent)
left_none before d after kind most used s p sent l none = subst (Left before d after) (goes_none kind most used s p sent none) l

-- where the first doesn't fit
pub left_full : (before : List ℕ) (d : Draft) (after : List ℕ) (kind : ControlKind) (most used : ℕ) (s : StreamsState) (p sent : Retransmits) (f : FrameValue)
    → Left before d after (with_kind most (no_frames used s p sent) kind) → frame_of_first (waiting kind p) s ≡ Some f → most - used < frame_size f → Left before d after (no_frames used s p sent)
left_full before d after kind most used s p sent f l is full =
    subst (Left before d after) (goes_full kind most used s p sent f is (too_many (used + frame_size f) most (omega arith))) l

-- once a kind was written
pub left_kind : (before : List ℕ) (d : Draft) (after : List ℕ) (kind : ControlKind) (kinds : List ControlKind) (most used : ℕ) (s : StreamsState) (p sent : Retransmits) (more : List ℕ) (used' : ℕ) (s' : StreamsState) (p' sent' : Retransmits)
    → Left before d after (fold (with_kind most) (no_frames used s p sent) (kind ∷ kinds))
    → more ≡ after ++ spelled_all (with_kind most (no_frames used s p sent) kind).frames
    → used' ≡ (with_kind most (no_frames used s p sent) kind).used → s' ≡ (with_kind most (no_frames used s p sent) kind).state
    → p' ≡ (with_kind most (no_frames used s p sent) kind).pending → sent' ≡ (with_kind most (no_frames used s p sent) kind).sent
    → Left before d more (fold (with_kind most) (no_frames used' s' p' sent') kinds)
left_kind before d after kind kinds most used s p sent more used' s' p' sent' l grown len state pending carried = go (with_kind most (no_frames used s p sent) kind) l grown len state pending carried
  where
    go : (x : Draft) → Left before d after (fold (with_kind most) x kinds) → more ≡ after ++ spelled_all x.frames → used' ≡ x.used → s' ≡ x.state → p' ≡ x.pending → sent' ≡ x.sent
        → Left before d more (fold (with_kind most) (no_frames used' s' p' sent') kinds)
    go x l grown len state pending carried =
        let same : no_frames x.used x.state x.pending x.sent ≡ no_frames used' s' p' sent' = cc in
        let next : fold (with_kind most) x kinds ≡ behind x.frames (fold (with_kind most) (no_frames used' s' p' sent') kinds) =
        ap (λ y. fold (with_kind most) y kinds) (sym (own_frames x))
        ∙ kinds_behind most kinds x.frames (no_frames x.used x.state x.pending x.sent)
        ∙ ap (λ y. behind x.frames (fold (with_kind most) y kinds)) same in
        left_behind before d after (fold (with_kind most) x kinds) (fold (with_kind most) (no_frames used' s' p' sent') kinds) x.frames more l next grown

-- a frame of one kind is a frame of all that are left
pub left_some_kind : (before : List ℕ) (d : Draft) (after : List ℕ) (kind : ControlKind) (kinds : List ControlKind) (most used : ℕ) (s : StreamsState) (p sent : Retransmits)
    → Left before d after (fold (with_kind most) (no_frames used s p sent) (kind ∷ kinds)) → 0 < length (with_kind most (no_frames used s p sent) kind).frames → 0 < length d.frames
left_some_kind before d after kind kinds most used s p sent l some = go (with_kind most (no_frames used s p sent) kind) l some
  where
    longer_first : (fs gs : List FrameValue) → length fs ≤ length (fs ++ gs)
    longer_first [] gs = omega arith
    longer_first (f ∷ fs) gs = let below = longer_first fs gs in omega arith

    go : (x : Draft) → Left before d after (fold (with_kind most) x kinds) → 0 < length x.frames → 0 < length d.frames
    go x l some =
        let next : fold (with_kind most) x kinds ≡ behind x.frames (fold (with_kind most) (no_frames x.used x.state x.pending x.sent) kinds) =
        ap (λ y. fold (with_kind most) y kinds) (sym (own_frames x)) ∙ kinds_behind most kinds x.frames (no_frames x.used x.state x.pending x.sent) in
        let same = ap (λ y. length y.frames) next in
        let more = longer_first x.frames (fold (with_kind most) (no_frames x.used x.state x.pending x.sent) kinds).frames in
        let fewer = l.fewer in
        omega arith

-- ---- what the calls leave

-- what stands once nothing of a kind goes any more
pub record Written (before : List ℕ) (d : Draft) (after : List ℕ) (used : ℕ) (s : StreamsState) (p sent : Retransmits) : Type 0 where
  pub items : after ≡ before ++ spelled_all d.frames
  pub used_up : used ≡ d.used
  pub state : s ≡ d.state
  pub pending : p ≡ d.pending
  pub carried : sent ≡ d.sent

written : (before : List ℕ) (d : Draft) (after : List ℕ) (used : ℕ) (s : StreamsState) (p sent : Retransmits) → Left before d after (no_frames used s p sent) → Written before d after used s p sent
written before d after used s p sent l = record {
  items = sym (l.items ∙ append-nil after);
  used_up = sym l.used;
  state = sym l.state;
  pending = sym l.pending;
  carried = sym l.sent;
}

-- where nothing of it waits
pub written_none : (before : List ℕ) (d : Draft) (after : List ℕ) (kind : ControlKind) (most used : ℕ) (s : StreamsState) (p sent : Retransmits)
    → Left before d after (with_kind most (no_frames used s p sent) kind) → is_any (waiting kind p) ≡ false → Written before d after used s p sent
written_none before d after kind most used s p sent l none = written before d after used s p sent (left_none before d after kind most used s p sent l none)

-- where the first doesn't fit
pub written_full : (before : List ℕ) (d : Draft) (after : List ℕ) (kind : ControlKind) (most used : ℕ) (s : StreamsState) (p sent : Retransmits) (f : FrameValue)
    → Left before d after (with_kind most (no_frames used s p sent) kind) → frame_of_first (waiting kind p) s ≡ Some f → most - used < frame_size f → Written before d after used s p sent
written_full before d after kind most used s p sent f l is full = written before d after used s p sent (left_full before d after kind most used s p sent f l is full)

-- what stood in front stands there yet
pub begins_on : (n : ℕ) (front after more x : List ℕ) → take n after ≡ front → n ≤ length after → more ≡ after ++ x → take n more ≡ front
begins_on n front after more x is below grown = ap (take n) grown ∙ take-append-le n after x below ∙ is

-- what holds anyhow holds on an error
pub on_err : {T E : Type 0} (r : Result T E) {P : Type 0} → P → OnErr r P
on_err (Ok x) p = tt
on_err (Err e) p = p

-- ---- several kinds

-- the kinds that are left, by the first of them
pub left_next : (before : List ℕ) (d : Draft) (after : List ℕ) (most used : ℕ) (s : StreamsState) (p sent : Retransmits) (all : List ControlKind) (kind : ControlKind) (kinds : List ControlKind)
    → Left before d after (fold (with_kind most) (no_frames used s p sent) all) → all ≡ kind ∷ kinds → Left before d after (fold (with_kind most) (no_frames used s p sent) (kind ∷ kinds))
left_next before d after most used s p sent all kind kinds l is = subst (λ x. Left before d after (fold (with_kind most) (no_frames used s p sent) x)) is l
