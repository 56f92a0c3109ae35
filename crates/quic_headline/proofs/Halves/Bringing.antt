-- What a packet that comes brings to the streams: what was written, stream by stream, and each
-- frame of it is kept.
use Rattle.std.proofs.Common.{◌≡◌, ℕ, true, false, List, [], ◌∷◌, ◌++◌, Option, Some, None, refl, sym, ap, ◌∙◌, subst, inl, inr, ◌⊎◌}
use Rattle.std.proofs.lemmas.List.{append_assoc, append-nil}
use Rattle.quic_wire_core.specs.declared.stream_id.Side.{Side}
use Rattle.quic_wire.specs.Value.{FrameValue, StreamValue, stream, reset_stream, stop_sending, max_stream_data, padding, path_challenge, path_response}
use Rattle.quic_streams_parts.specs.declared.answers.Breach.{Breach}
use Rattle.quic_streams_parts.specs.Dirs.{is_own}
use Rattle.quic_streams_parts.specs.RecvHalf.{end_of}
use Rattle.quic_streams_state.specs.declared.state.StreamsState.{StreamsState}
use Rattle.quic_streams_state.specs.State.{is_opened}
use Rattle.quic_streams_state.specs.Taking.{refusal, breach_kept}
use Rattle.quic_streams_laws.specs.Written.{Wrote}
use Rattle.quic_streams_laws.specs.Reads.{Reads}
use Rattle.quic_streams_laws.specs.Content.{HoldsRead}
use Rattle.quic_streams_laws.specs.ContentLaws.{read_kept, read_stream, read_reset}
use Rattle.quic_streams_laws.specs.Kept.{HoldsTaken}
use Rattle.quic_streams_laws.specs.TakenLaws.{taken_kept, taken_stream, taken_reset, taken_fewer}
use Rattle.quic_streams_laws.specs.Accepted.{HoldsAccepted}
use Rattle.quic_streams_laws.specs.AcceptedLaws.{accepted_kept}
use Rattle.quic_streams_laws.specs.KeepingLaws.{by_stream, by_reset_frame}
use Rattle.quic_streams_laws.specs.QuietLaws.{is_quiet}
use Rattle.quic_streams_laws.specs.Shape.{IsShaped}
use Rattle.quic_machine.specs.End.{End}
use Rattle.quic_machine.specs.Receive.{fault_of, take_frame}
use Rattle.quic_machine.specs.FrameCases.{passed, frames_keep, frames_leave, frames_taken}
use Rattle.quic_headline.specs.Runs.{In, OpensStream}
use Rattle.quic_machine.specs.DraftLaws.{IsClose}
use Rattle.quic_headline.proofs.Packets.Owing.{AreCloses, closes_fine}
use Rattle.quic_headline.proofs.Places.Told.{in_append}
use Rattle.quic_headline.proofs.Halves.Ghosts.{SaysOf}
use Rattle.quic_headline.proofs.Halves.QuietSteps.{frame_quiet}
use Rattle.quic_headline.proofs.Halves.Opened.{IsOpened, IsOf, opened_stays, side_stays, stop_opens, limit_opens, reset_opens, stream_opens}
use Rattle.quic_headline.proofs.Packets.Strays.{IsPath}

-- a rule of streams that was not broken
no_breach : (o : Option Breach) → fault_of o ≡ None → o ≡ None
no_breach None e = refl
no_breach (Some b) e = cc

kept_breach : (o : Option Breach) (s : StreamsState) (f : StreamValue) → breach_kept o s f ≡ None → o ≡ None
kept_breach None s f e = refl
kept_breach (Some b) s f e = cc

-- ---- what was read stays what was written

-- where a frame says what was
pub frame_read : (done : ℕ → Wrote) (r : ℕ → Reads) (f : FrameValue) (e : End) → SaysOf done f → HoldsRead done r e.streams → HoldsRead done r (take_frame f e).end.streams
frame_read done r f e says i = frame_quiet (HoldsRead done r) (is_quiet (HoldsRead done r) (read_kept done r)) f e
    (λ g is. read_stream done r e.streams e.waiting.frames g (subst (SaysOf done) is says) i)
    (λ g is. read_reset done r e.streams e.waiting.frames g (subst (SaysOf done) is says) i)
    i

-- over the frames that are left of a packet: each says what was done
record Says (done : ℕ → Wrote) (r : ℕ → Reads) (left : List FrameValue) (x : End) : Type 0 where
  says : (f : FrameValue) → In f left → SaysOf done f
  holds : HoldsRead done r x.streams

-- where each frame says what was
pub frames_read : (done : ℕ → Wrote) (r : ℕ → Reads) (frames : List FrameValue) (e : End) → ((f : FrameValue) → In f frames → SaysOf done f) → HoldsRead done r e.streams → HoldsRead done r (passed frames e).end.streams
frames_read done r frames e says i = (frames_leave (Says done r) step frames e (record { says = says; holds = i })).1.holds
  where
    step : (f : FrameValue) (left : List FrameValue) (x : End) → Says done r (f ∷ left) x → Says done r left (take_frame f x).end
    step f left x g = record { says = λ h j. g.says h (inr j); holds = frame_read done r f x (g.says f (inl refl)) g.holds }

-- ---- what frames brought is kept

-- of whatever was taken before
pub frame_keeps_taken : (taken : StreamValue → Type 0) (f : FrameValue) (e : End) → HoldsTaken taken e.streams → HoldsTaken taken (take_frame f e).end.streams
frame_keeps_taken taken f e i = frame_quiet (HoldsTaken taken) (is_quiet (HoldsTaken taken) (taken_kept taken)) f e
    (λ g is. taken_stream taken taken e.streams e.waiting.frames g (λ h t. inl t) i)
    (λ g is. taken_reset taken e.streams e.waiting.frames g i)
    i

-- and of a frame that is taken
frame_takes : (taken more : StreamValue → Type 0) (f : FrameValue) (e : End) → ((g : StreamValue) → more g → taken g ⊎ (stream g ≡ f)) → (take_frame f e).fault ≡ None → HoldsTaken taken e.streams → HoldsTaken more (take_frame f e).end.streams
frame_takes taken more (stream f) e one none i =
    let allowed : refusal e.streams f.id (end_of f) f.fin ≡ None = kept_breach (refusal e.streams f.id (end_of f) f.fin) e.streams f (no_breach _ none) in
    taken_stream taken more e.streams e.waiting.frames f (λ g m. elim (one g m) [ inl was ↦ inl was | inr is ↦ inr (same g is, allowed) ]) i
  where
    same : (g : StreamValue) → stream g ≡ stream f → g ≡ f
    same g is = cc
frame_takes taken more f e one none i = taken_fewer taken more (take_frame f e).end.streams (λ g m. elim (one g m) [ inl was ↦ was | inr is ↦ cc ]) (frame_keeps_taken taken f e i)

-- ---- what holds of streams by the frames that were taken

-- each STREAM frame of these is kept, and each of them opened its stream, at the end of this side
pub record Brought (side : Side) (were : FrameValue → Type 0) (s : StreamsState) : Type 0 where
  pub taken : HoldsTaken (λ g. were (stream g)) s
  pub of_side : IsOf side s
  pub opened : (f : FrameValue) (id : ℕ) → were f → OpensStream f id → is_own side id ≡ false → is_opened s id ≡ true

-- so of fewer frames
pub brought_fewer : (side : Side) (were fewer : FrameValue → Type 0) (s : StreamsState) → ((f : FrameValue) → fewer f → were f) → Brought side were s → Brought side fewer s
brought_fewer side were fewer s less i = record {
  taken = taken_fewer (λ g. were (stream g)) (λ g. fewer (stream g)) s (λ g j. less (stream g) j) i.taken;
  of_side = i.of_side;
  opened = λ f id j. i.opened f id (less f j);
}

-- what is opened stays so, whatever frame comes
frame_stays : (side : Side) (id : ℕ) (f : FrameValue) (e : End) → IsOpened side id e.streams → IsOpened side id (take_frame f e).end.streams
frame_stays side id f e i = frame_quiet (IsOpened side id) (is_quiet (IsOpened side id) (opened_stays side id)) f e
    (λ g is. by_stream (IsOpened side id) (opened_stays side id) e.streams e.waiting.frames g (λ h a u. tt) i)
    (λ g is. by_reset_frame (IsOpened side id) (opened_stays side id) e.streams e.waiting.frames g (λ h a u. tt) i)
    i

pub frame_side : (side : Side) (f : FrameValue) (e : End) → IsOf side e.streams → IsOf side (take_frame f e).end.streams
frame_side side f e i = frame_quiet (IsOf side) (is_quiet (IsOf side) (side_stays side)) f e
    (λ g is. by_stream (IsOf side) (side_stays side) e.streams e.waiting.frames g (λ h a u. tt) i)
    (λ g is. by_reset_frame (IsOf side) (side_stays side) e.streams e.waiting.frames g (λ h a u. tt) i)
    i

-- a frame that is taken opens its stream
frame_opens : (f : FrameValue) (e : End) (id : ℕ) → IsShaped e.streams → (take_frame f e).fault ≡ None → OpensStream f id → is_own e.streams.side id ≡ false → is_opened (take_frame f e).end.streams id ≡ true
frame_opens (stream f) e id shape none is theirs =
    subst (λ (q : ℕ). is_opened (take_frame (stream f) e).end.streams q ≡ true) is
    (stream_opens e.streams e.waiting.frames f shape (ap (is_own e.streams.side) is ∙ theirs) (kept_breach (refusal e.streams f.id (end_of f) f.fin) e.streams f (no_breach _ none)))
frame_opens (reset_stream f) e id shape none is theirs =
    subst (λ (q : ℕ). is_opened (take_frame (reset_stream f) e).end.streams q ≡ true) is (reset_opens e.streams e.waiting.frames f shape (ap (is_own e.streams.side) is ∙ theirs) (no_breach _ none))
frame_opens (stop_sending f) e id shape none is theirs =
    subst (λ (q : ℕ). is_opened (take_frame (stop_sending f) e).end.streams q ≡ true) is (stop_opens e.streams f (ap (is_own e.streams.side) is ∙ theirs) (no_breach _ none))
frame_opens (max_stream_data f) e id shape none is theirs =
    subst (λ (q : ℕ). is_opened (take_frame (max_stream_data f) e).end.streams q ≡ true) is (limit_opens e.streams f.id f.limit (ap (is_own e.streams.side) is ∙ theirs) (no_breach _ none))
frame_opens f e id shape none is theirs = absurd is

-- what was brought stays, whatever frame comes, taken or refused
frame_leaves_brought : (side : Side) (were : FrameValue → Type 0) (f : FrameValue) (e : End) → Brought side were e.streams → Brought side were (take_frame f e).end.streams
frame_leaves_brought side were f e i = record {
  taken = frame_keeps_taken (λ g. were (stream g)) f e i.taken;
  of_side = frame_side side f e i.of_side;
  opened = λ g id j opens theirs. (frame_stays side id f e (record { of_side = i.of_side; opened = i.opened g id j opens theirs })).opened;
}

-- and so does a packet
pub frames_leave_brought : (side : Side) (were : FrameValue → Type 0) (frames : List FrameValue) (e : End) → Brought side were e.streams → Brought side were (passed frames e).end.streams
frames_leave_brought side were frames e i = frames_keep (λ (x : End). Brought side were x.streams) (frame_leaves_brought side were) frames e i

-- a frame that is taken is one of them then
frame_brings : (side : Side) (were more : FrameValue → Type 0) (f : FrameValue) (e : End) → ((g : FrameValue) → more g → were g ⊎ (g ≡ f)) → (take_frame f e).fault ≡ None → Brought side were e.streams → Brought side more (take_frame f e).end.streams
frame_brings side were more f e one none i =
    let stays = frame_leaves_brought side were f e i in
    record {
      taken = frame_takes (λ g. were (stream g)) (λ g. more (stream g)) f e (λ g m. one (stream g) m) none i.taken;
      of_side = stays.of_side;
      opened = λ g id m opens theirs. elim (one g m) [
        | inl was ↦ stays.opened g id was opens theirs
        | inr is ↦ frame_opens f e id i.taken.shape none (subst (λ (h : FrameValue). OpensStream h id) is opens) (ap (λ (s : Side). is_own s id) i.of_side ∙ theirs)
      ];
    }

-- the frames that were taken before a packet, and its first ones
abbrev so_far : (FrameValue → Type 0) → List FrameValue → FrameValue → Type 0
so_far were front g = were g ⊎ In g front

-- over the frames that are left of a packet: these came before them
record Brings (side : Side) (were : FrameValue → Type 0) (frames left : List FrameValue) (x : End) : Type 0 where
  front : List FrameValue
  is : front ++ left ≡ frames
  holds : Brought side (so_far were front) x.streams

-- all frames of a packet that is taken are
pub frames_bring : (side : Side) (were more : FrameValue → Type 0) (frames : List FrameValue) (e : End) → ((g : FrameValue) → more g → were g ⊎ In g frames) → (passed frames e).fault ≡ None → Brought side were e.streams → Brought side more (passed frames e).end.streams
frames_bring side were more frames e one none i =
    let all = frames_taken (Brings side were frames) step frames e none (record { front = []; is = refl; holds = brought_fewer side were (so_far were []) e.streams nothing_more i }) in
    brought_fewer side (so_far were all.front) more (passed frames e).end.streams (λ g m. elim (one g m) [ inl was ↦ inl was | inr j ↦ inr (subst (In g) (sym (sym (append-nil all.front) ∙ all.is)) j) ]) all.holds
  where
    nothing_more : (g : FrameValue) → so_far were [] g → were g
    nothing_more g (inl was) = was
    nothing_more g (inr j) = absurd j

    last : (g f : FrameValue) → In g (f ∷ []) → g ≡ f
    last g f (inl is) = is
    last g f (inr none) = absurd none

    by_part : (front : List FrameValue) (f g : FrameValue) → so_far were (front ++ f ∷ []) g → so_far were front g ⊎ (g ≡ f)
    by_part front f g (inl was) = inl (inl was)
    by_part front f g (inr j) = elim (in_append g front (f ∷ []) j) [ inl was ↦ inl (inr was) | inr now ↦ inr (last g f now) ]

    step : (f : FrameValue) (left : List FrameValue) (x : End) → (take_frame f x).fault ≡ None → Brings side were frames (f ∷ left) x → Brings side were frames left (take_frame f x).end
    step f left x right g = record {
      front = g.front ++ f ∷ [];
      is = append_assoc g.front (f ∷ []) left ∙ g.is;
      holds = frame_brings side (so_far were g.front) (so_far were (g.front ++ f ∷ [])) f x (by_part g.front f) right g.holds;
    }

-- frames of path validation bring nothing
pub brought_strays : (side : Side) (were more : FrameValue → Type 0) (s : StreamsState) → ((g : FrameValue) → more g → were g ⊎ IsPath g) → Brought side were s → Brought side more s
brought_strays side were more s one i = record {
  taken = taken_fewer (λ g. were (stream g)) (λ g. more (stream g)) s (λ g m. elim (one (stream g) m) [ inl was ↦ was | inr path ↦ absurd path ]) i.taken;
  of_side = i.of_side;
  opened = λ f id m opens theirs. elim (one f m) [ inl was ↦ i.opened f id was opens theirs | inr path ↦ absurd (opens_no_path f id path opens) ];
}
  where
    opens_no_path : (f : FrameValue) (id : ℕ) → IsPath f → OpensStream f id → ⊥
    opens_no_path (path_challenge token) id path opens = opens
    opens_no_path (path_response token) id path opens = opens
    opens_no_path f id path opens = path

-- a close brings nothing, nor does what goes beside it
close_brings_not : (f : FrameValue) → IsClose f ⊎ (f ≡ padding) → (id : ℕ) → OpensStream f id → ⊥
close_brings_not = closes_fine (λ f. (id : ℕ) → OpensStream f id → ⊥) (λ c id none. none) (λ c id none. none) (λ id none. none)

close_is_no_stream : (f : FrameValue) → IsClose f ⊎ (f ≡ padding) → (g : StreamValue) → stream g ≡ f → ⊥
close_is_no_stream = closes_fine (λ f. (g : StreamValue) → stream g ≡ f → ⊥) (λ c g same. cc) (λ c g same. cc) (λ g same. cc)

-- so what was brought is that of a packet that has closes alone
pub closed_brings : (side : Side) (were more : FrameValue → Type 0) (frames : List FrameValue) (s : StreamsState) → AreCloses frames → ((g : FrameValue) → more g → were g ⊎ In g frames) → Brought side were s → Brought side more s
closed_brings side were more frames s closes one i = record {
  taken = taken_fewer (λ g. were (stream g)) (λ g. more (stream g)) s (λ g m. elim (one (stream g) m) [ inl was ↦ was | inr among ↦ absurd (close_is_no_stream (stream g) (closes (stream g) among) g refl) ]) i.taken;
  of_side = i.of_side;
  opened = λ f id m opens theirs. elim (one f m) [ inl was ↦ i.opened f id was opens theirs | inr among ↦ absurd (close_brings_not f (closes f among) id opens) ];
}

-- ---- what was accepted stays

pub frames_accepted : (accepted : ℕ → Type 0) (frames : List FrameValue) (e : End) → HoldsAccepted accepted e.streams → HoldsAccepted accepted (passed frames e).end.streams
frames_accepted accepted frames e i = frames_keep (λ (x : End). HoldsAccepted accepted x.streams) (λ f x j. frame_quiet (HoldsAccepted accepted) (is_quiet (HoldsAccepted accepted) (accepted_kept accepted)) f x
    (λ g is. by_stream (HoldsAccepted accepted) (accepted_kept accepted) x.streams x.waiting.frames g (λ h a u. tt) j)
    (λ g is. by_reset_frame (HoldsAccepted accepted) (accepted_kept accepted) x.streams x.waiting.frames g (λ h a u. tt) j)
    j) frames e i
