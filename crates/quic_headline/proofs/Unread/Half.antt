-- What is known of a half that receives, by the frames that were taken of its stream and by what
-- was written on it: how far they reach, whether it was reset, and its final size (RFC 9000,
-- sections 3.2, 4.5, 19.4 and 19.8).
use Rattle.std.proofs.Common.{◌≡◌, ℕ, ◌≤◌, Bool, true, false, ◌==◌, Option, Some, None, refl, sym, ap, ◌∙◌, subst, arith, ◌⊎◌, inl, inr, length}
use Rattle.std.specs.Prelude.{nat_lt, ◌&&◌, not, if◌then◌else◌}
use Rattle.std.specs.Option.{is_some, IsSome}
use Rattle.std.proofs.lemmas.Bool.{cond_both, ltb-false, or_parts}
use Rattle.quic_wire.specs.Value.{FrameValue, StreamValue, ResetStreamValue, stream, reset_stream}
use Rattle.quic_streams_parts.specs.RecvHalf.{RecvHalf, new_recv_half, after_frame, after_reset_stream, end_of, breaks_final, final_after, reset_by}
use Rattle.quic_streams_state.specs.State.{Receiving}
use Rattle.quic_streams_laws.specs.Keeping.{EndsThere, SeesMore, ReceivesOn}
use Rattle.quic_streams_laws.specs.KeepingLaws.{Unbroken, reset_on}
use Rattle.quic_streams_laws.specs.Written.{Wrote, Grows, IsOver, IsStreamOf, IsResetOf}
use Rattle.quic_headline.proofs.Halves.Ghosts.{SaysOf}
use Rattle.quic_headline.proofs.Unread.Walk.{Change, begins, reads, stops, takes, resets, IsLast}

-- a frame brings bytes of a stream up to this offset, or says that as many were written in all
abbrev pub Brings : FrameValue → ℕ → ℕ → Type 0
Brings (stream f) id end = (f.id ≡ id) × (end_of f ≡ end)
Brings (reset_stream f) id end = (f.id ≡ id) × (f.final_size ≡ end)
Brings f id end = ⊥

-- of a half in use: it saw as far as any frame reaches, it is stopped or was reset where
-- RESET_STREAM was taken, and its final size is that of what was written
pub record IsTold (w : Wrote) (taken : FrameValue → Type 0) (id : ℕ) (h : RecvHalf) : Type 0 where
  pub reached : (f : FrameValue) (end : ℕ) → taken f → Brings f id end → end ≤ h.seen
  pub reset : (f : ResetStreamValue) → taken (reset_stream f) → f.id ≡ id → (h.stopped ≡ true) ⊎ (is_some h.reset ≡ true)
  pub known : is_some h.reset ≡ true → is_some h.final ≡ true
  pub sized : (size : ℕ) → h.final ≡ Some size → (size ≡ length w.bytes) × IsOver w

-- of one that was never in use: no frame was taken
abbrev pub IsUntold : (FrameValue → Type 0) → ℕ → Type 0
IsUntold taken id = (f : FrameValue) (end : ℕ) → taken f → Brings f id end → ⊥

-- of one that is done: nothing more is written, and so much was
abbrev pub IsWhole : Wrote → ℕ → Type 0
IsWhole w size = (size ≡ length w.bytes) × IsOver w

-- a half on which nothing was done
pub new_told : (w : Wrote) (taken : FrameValue → Type 0) (id window : ℕ) → IsUntold taken id → IsTold w taken id (new_recv_half window)
new_told w taken id window none = record {
  reached = λ f end was brings. absurd (none f end was brings);
  reset = λ f was same. absurd (none (reset_stream f) f.final_size was (same, refl));
  known = λ some. cc;
  sized = λ size is. cc;
}

-- ---- a frame comes

-- one that isn't refused doesn't reach past a final size
not_past : (o : Option ℕ) (seen end size : ℕ) (fin : Bool) → o ≡ Some size → breaks_final o seen end fin ≡ false → end ≤ size
not_past None seen end size fin is e = cc
not_past (Some s) seen end size fin is e =
    let same : s ≡ size = cc in
    let low = ltb-false s end (or_parts (nat_lt s end) (fin && not (end == s)) e).0 in
    omega arith

-- what comes only adds to what was seen
rises : (r : Receiving) (old new : RecvHalf) → ReceivesOn r old new → old.seen ≤ new.seen
rises r old new on = go on.sees
  where
    go : (new.seen ≡ old.seen) ⊎ SeesMore r old new → old.seen ≤ new.seen
    go (inl same) = omega arith
    go (inr more) = more.more

-- what an offset of the final size says
size_after : (w : Wrote) (h : RecvHalf) (f : StreamValue) → IsStreamOf w f → ((size : ℕ) → h.final ≡ Some size → IsWhole w size) → (size : ℕ) → final_after h (end_of f) f.fin ≡ Some size → IsWhole w size
size_after w h f says was size = go f.fin refl
  where
    go : (b : Bool) → f.fin ≡ b → (if b then Some (end_of f) else h.final) ≡ Some size → IsWhole w size
    go true fin e = let same : end_of f ≡ size = cc in (sym same ∙ says.last fin, inl (says.ended fin))
    go false fin e = was size e

known_after : (h : RecvHalf) (f : StreamValue) → is_some h.final ≡ true → is_some (final_after h (end_of f) f.fin) ≡ true
known_after h f some = go f.fin
  where
    go : (b : Bool) → is_some (if b then Some (end_of f) else h.final) ≡ true
    go true = refl
    go false = some

module _ (w : Wrote) (taken : FrameValue → Type 0) (r : Receiving) (id : ℕ) where
  -- a STREAM frame that says what was written
  frame_told : (h : RecvHalf) (f : StreamValue) → IsStreamOf w f → Unbroken r h (end_of f) f.fin → IsTold w taken id h → IsTold w taken id (after_frame h f)
  frame_told h f says u i = cond_both h.stopped _ _ (IsTold w taken id) (λ e. record {
    reached = λ g end was brings. (let low = i.reached g end was brings in omega arith);
    reset = λ g was same. inl e;
    known = λ some. known_after h f (i.known some);
    sized = size_after w h f says i.sized;
  }) (λ e. cond_both (is_some h.reset) _ _ (IsTold w taken id) (λ c. i) (λ c. record {
    reached = λ g end was brings. (let low = i.reached g end was brings in omega arith);
    reset = λ g was same. i.reset g was same;
    known = λ some. known_after h f (i.known some);
    sized = size_after w h f says i.sized;
  }))

  -- a RESET_STREAM frame that does
  reset_told : (h : RecvHalf) (f : ResetStreamValue) → IsResetOf w f → EndsThere h → Unbroken r h f.final_size true → IsTold w taken id h → IsTold w taken id (after_reset_stream h f.code f.final_size)
  reset_told h f says ended u i = go h.stopped (is_some h.reset) refl refl (rises r h (after_reset_stream h f.code f.final_size) (reset_on r h f.code f.final_size ended u))
    where
      whole : (size : ℕ) → Some f.final_size ≡ Some size → IsWhole w size
      whole size is = let same : f.final_size ≡ size = cc in (sym same ∙ says.size, inr (ap is_some says.code))

      go : (s c : Bool) → h.stopped ≡ s → is_some h.reset ≡ c → h.seen ≤ (if s then record h { seen = f.final_size; final = Some f.final_size } else (if c then h else reset_by h f.code f.final_size)).seen
          → IsTold w taken id (if s then record h { seen = f.final_size; final = Some f.final_size } else (if c then h else reset_by h f.code f.final_size))
      go true c stopped reset above = record {
        reached = λ g end was brings. (let low = i.reached g end was brings in omega arith);
        reset = λ g was same. inl stopped;
        known = λ some. refl;
        sized = whole;
      }
      go false true stopped reset above = i
      go false false stopped reset above = record {
        reached = λ g end was brings. (let low = i.reached g end was brings in omega arith);
        reset = λ g was same. inr refl;
        known = λ some. refl;
        sized = whole;
      }

-- what each change keeps, where frames say what was written
pub change_told : (done : ℕ → Wrote) (taken : FrameValue → Type 0) (r : Receiving) (id : ℕ) (old new : RecvHalf) → EndsThere old → Change (SaysOf done) r id old new → IsTold (done id) taken id old → IsTold (done id) taken id new
change_told done taken r id old new ended (begins is) i = subst (IsTold (done id) taken id) (sym is) (record { reached = i.reached; reset = i.reset; known = i.known; sized = i.sized })
change_told done taken r id old new ended (reads most c e is) i = subst (IsTold (done id) taken id) (sym is) (record { reached = i.reached; reset = i.reset; known = i.known; sized = i.sized })
change_told done taken r id old new ended (stops free is) i = subst (IsTold (done id) taken id) (sym is) (record { reached = i.reached; reset = λ f was same. inl refl; known = i.known; sized = i.sized })
change_told done taken r id old new ended (takes f says of_id u is) i = subst (IsTold (done id) taken id) (sym is) (frame_told (done id) taken r id old f (subst (λ (q : ℕ). IsStreamOf (done q) f) of_id says) u i)
change_told done taken r id old new ended (resets f says of_id u is) i = subst (IsTold (done id) taken id) (sym is) (reset_told (done id) taken r id old f (subst (λ (q : ℕ). IsResetOf (done q) f) of_id says) ended u i)

-- ---- what a frame that comes is then

-- a final size that is known is what was seen
seen_all : (o : Option ℕ) (h : RecvHalf) (end : ℕ) (fin : Bool) → h.final ≡ o → is_some o ≡ true → EndsThere h → breaks_final o h.seen end fin ≡ false → end ≤ h.seen
seen_all None h end fin is some ended e = cc
seen_all (Some size) h end fin is some ended e = let whole = ended size is in let most = not_past (Some size) h.seen end size fin refl e in omega arith

unbroken_at : (r : Receiving) (h : RecvHalf) (end : ℕ) (fin : Bool) → EndsThere h → is_some h.final ≡ true → Unbroken r h end fin → end ≤ h.seen
unbroken_at r h end fin ended some u = seen_all h.final h end fin refl some ended u.final

-- STREAM reaches no further than what was seen
pub frame_reaches : (w : Wrote) (taken : FrameValue → Type 0) (r : Receiving) (id : ℕ) (h : RecvHalf) (f : StreamValue) → EndsThere h → IsTold w taken id h → Unbroken r h (end_of f) f.fin → end_of f ≤ (after_frame h f).seen
frame_reaches w taken r id h f ended i u = cond_both h.stopped _ _ (λ (g : RecvHalf). end_of f ≤ g.seen) (λ e. omega arith) (λ e. cond_both (is_some h.reset) _ _ (λ (g : RecvHalf). end_of f ≤ g.seen) (λ c. unbroken_at r h (end_of f) f.fin ended (i.known c) u) (λ c. omega arith))

-- so does RESET_STREAM
pub reset_reaches : (w : Wrote) (taken : FrameValue → Type 0) (r : Receiving) (id : ℕ) (h : RecvHalf) (code size : ℕ) → EndsThere h → IsTold w taken id h → Unbroken r h size true → size ≤ (after_reset_stream h code size).seen
reset_reaches w taken r id h code size ended i u = cond_both h.stopped _ _ (λ (g : RecvHalf). size ≤ g.seen) (λ e. omega arith) (λ e. cond_both (is_some h.reset) _ _ (λ (g : RecvHalf). size ≤ g.seen) (λ c. unbroken_at r h size true ended (i.known c) u) (λ c. omega arith))

-- which stops a half, or leaves it reset
pub reset_leaves : (h : RecvHalf) (code size : ℕ) → ((after_reset_stream h code size).stopped ≡ true) ⊎ (is_some (after_reset_stream h code size).reset ≡ true)
reset_leaves h code size = cond_both h.stopped _ _ (λ (g : RecvHalf). (g.stopped ≡ true) ⊎ (is_some g.reset ≡ true)) (λ e. inl e) (λ e. cond_both (is_some h.reset) _ _ (λ (g : RecvHalf). (g.stopped ≡ true) ⊎ (is_some g.reset ≡ true)) (λ c. inr c) (λ c. inr refl))

-- a half of which nothing more comes saw all that was written
pub last_whole : (w : Wrote) (taken : FrameValue → Type 0) (id : ℕ) (h : RecvHalf) → EndsThere h → IsTold w taken id h → IsLast h → IsWhole w h.seen
last_whole w taken id h ended i last = go h.final refl (elim last [ inl some ↦ some | inr some ↦ i.known some ])
  where
    go : (o : Option ℕ) → h.final ≡ o → is_some o ≡ true → IsWhole w h.seen
    go None is some = cc
    go (Some size) is some = let whole = i.sized size is in (ended size is ∙ whole.0, whole.1)

-- ---- where more was written, or other frames count

-- of a half
pub told_fewer : (w : Wrote) (taken fewer : FrameValue → Type 0) (id : ℕ) (h : RecvHalf) → ((f : FrameValue) (end : ℕ) → Brings f id end → fewer f → taken f) → IsTold w taken id h → IsTold w fewer id h
told_fewer w taken fewer id h less i = record {
  reached = λ f end was brings. i.reached f end (less f end brings was) brings;
  reset = λ f was same. i.reset f (less (reset_stream f) f.final_size (same, refl) was) same;
  known = i.known;
  sized = i.sized;
}

-- with one frame more
pub told_with : (w : Wrote) (taken more : FrameValue → Type 0) (id : ℕ) (h : RecvHalf) (f : FrameValue) → ((g : FrameValue) → more g → taken g ⊎ (g ≡ f)) → ((end : ℕ) → Brings f id end → end ≤ h.seen) → ((g : ResetStreamValue) → f ≡ reset_stream g → (h.stopped ≡ true) ⊎ (is_some h.reset ≡ true))
    → IsTold w taken id h → IsTold w more id h
told_with w taken more id h f one reach leaves i = record {
  reached = λ g end was brings. elim (one g was) [ inl old ↦ i.reached g end old brings | inr same ↦ reach end (subst (λ (x : FrameValue). Brings x id end) same brings) ];
  reset = λ g was same. elim (one (reset_stream g) was) [ inl old ↦ i.reset g old same | inr is ↦ leaves g (sym is) ];
  known = i.known;
  sized = i.sized;
}

-- a stream that is over stays so
over_grows : (w more : Wrote) → Grows w more → IsOver w → IsOver more
over_grows w more g (inl ended) = inl (g.ended ended)
over_grows w more g (inr some) = inr (go w.reset refl some)
  where
    go : (o : Option ℕ) → w.reset ≡ o → is_some o ≡ true → IsSome more.reset
    go None is some = cc
    go (Some code) is some = ap is_some (g.reset code is)

pub whole_grows : (w more : Wrote) (size : ℕ) → Grows w more → IsWhole w size → IsWhole more size
whole_grows w more size g i = (i.0 ∙ sym (ap length (g.over i.1)), over_grows w more g i.1)

pub told_grows : (w more : Wrote) (taken : FrameValue → Type 0) (id : ℕ) (h : RecvHalf) → Grows w more → IsTold w taken id h → IsTold more taken id h
told_grows w more taken id h g i = record { reached = i.reached; reset = i.reset; known = i.known; sized = λ size is. whole_grows w more size g (i.sized size is) }
