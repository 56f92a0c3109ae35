-- Frames of control go into a payload as they go into the buffer that it stands in.
use Rattle.std.proofs.Common.{◌≡◌, ℕ, ◌+◌, ◌-◌, ◌≤◌, ◌<◌, Bool, true, false, List, [], ◌∷◌, Option, Some, None, ◌⊎◌, inl, inr, refl, sym, ap, ◌∙◌, arith}
use Rattle.std.specs.Prelude.{nat_le, if◌then◌else◌}
use Rattle.std.specs.List.{fold}
use Rattle.std.proofs.lemmas.Bool.{le-leb, lt-leb}
use Rattle.std.proofs.lemmas.Bool.Decides.{leb_tells}
use Rattle.quic_wire.specs.Value.{FrameValue}
use Rattle.quic_wire.specs.Writing.{frame_size}
use Rattle.quic_retransmits.specs.Retransmits.{Retransmits, nothing_waits, control_kinds}
use Rattle.quic_retransmits.specs.declared.retransmits.ControlKind.{ControlKind}
use Rattle.quic_streams_state.specs.declared.state.StreamsState.{StreamsState}
use Rattle.quic_streams_state.specs.Control.{Entry, Draft, waiting, no_frames, first_dropped, first_sent, first_and_more, with_listed, with_kind, control_frames}
use Rattle.quic_connection_parts.specs.Frames.{control_part}

-- a draft with so many more bytes before its frames
abbrev pub shifted : ℕ → Draft → Draft
shifted n d = record d { used = n + d.used }

-- more bytes before, and as many more that may be taken
fits_shifted : (n used size most : ℕ) → nat_le (n + used + size) (n + most) ≡ nat_le (used + size) most
fits_shifted n used size most = go (leb_tells (used + size) most)
  where
    go : ((nat_le (used + size) most ≡ true) × (used + size ≤ most)) ⊎ ((nat_le (used + size) most ≡ false) × (most < used + size)) → nat_le (n + used + size) (n + most) ≡ nat_le (used + size) most
    go (inl t) = let le = t.1 in le-leb (n + used + size) (n + most) (omega arith) ∙ sym t.0
    go (inr t) = let lt = t.1 in lt-leb (n + used + size) (n + most) (omega arith) ∙ sym t.0

module _ (n most : ℕ) (wide more : Draft → Draft) (kind : ControlKind) (d : Draft) (same : (x : Draft) → wide (shifted n x) ≡ shifted n (more x)) where
  sent_shifted : (f : FrameValue) → first_sent kind f (shifted n d) ≡ shifted n (first_sent kind f d)
  sent_shifted f = ap (λ (k : ℕ). record (first_sent kind f d) { used = k }) (let all : n + d.used + frame_size f ≡ n + (d.used + frame_size f) = omega arith in all)

  goes_shifted : (f : FrameValue) (b : Bool) → (if b then wide (first_sent kind f (shifted n d)) else shifted n d) ≡ shifted n (if b then more (first_sent kind f d) else d)
  goes_shifted f true = ap wide (sent_shifted f) ∙ same (first_sent kind f d)
  goes_shifted f false = refl

  first_shifted : (o : Option FrameValue) → first_and_more o wide kind (n + most) (shifted n d) ≡ shifted n (first_and_more o more kind most d)
  first_shifted None = same (first_dropped kind d)
  first_shifted (Some f) = ap (λ (b : Bool). if b then wide (first_sent kind f (shifted n d)) else shifted n d) (fits_shifted n d.used (frame_size f) most) ∙ goes_shifted f (nat_le (d.used + frame_size f) most)

listed_shifted : (n most : ℕ) (kind : ControlKind) (es : List Entry) (d : Draft) → with_listed kind (n + most) es (shifted n d) ≡ shifted n (with_listed kind most es d)
listed_shifted n most kind [] d = refl
listed_shifted n most kind (e ∷ es) d = first_shifted n most (with_listed kind (n + most) es) (with_listed kind most es) kind d (listed_shifted n most kind es) (e.frame d.state)

kinds_shifted : (n most : ℕ) (kinds : List ControlKind) (d : Draft) → fold (with_kind (n + most)) (shifted n d) kinds ≡ shifted n (fold (with_kind most) d kinds)
kinds_shifted n most [] d = refl
kinds_shifted n most (kind ∷ kinds) d = ap (λ (x : Draft). fold (with_kind (n + most)) x kinds) (listed_shifted n most kind (waiting kind d.pending) d) ∙ kinds_shifted n most kinds (with_kind most d kind)

-- the frames of all kinds, behind more bytes, where as many more may be taken
control_shifted : (n most used : ℕ) (s : StreamsState) (p sent : Retransmits) → control_frames (n + most) (n + used) s p sent ≡ shifted n (control_frames most used s p sent)
control_shifted n most used s p sent = kinds_shifted n most control_kinds (no_frames used s p sent)

-- they are those that go into the payload that begins there
pub control_is : (body most len : ℕ) (s : StreamsState) (p sent : Retransmits) → body ≤ len → sent ≡ nothing_waits → control_frames (body + most) len s p sent ≡ shifted body (control_part most (len - body) s p)
unfolding control_part
control_is body most len s p sent below none =
    ap (λ (r : Retransmits). control_frames (body + most) len s p r) none
    ∙ ap (λ (k : ℕ). control_frames (body + most) k s p nothing_waits) (let whole : len ≡ body + (len - body) = omega arith in whole)
    ∙ control_shifted body most (len - body) s p nothing_waits

-- where nothing waits none goes, and all is left as it was
pub idle_part : (most used : ℕ) (s : StreamsState) (p : Retransmits) → p ≡ nothing_waits → control_part most used s p ≡ no_frames used s nothing_waits nothing_waits
unfolding control_part
idle_part most used s p idle = ap (λ (r : Retransmits). control_frames most used s r nothing_waits) idle
