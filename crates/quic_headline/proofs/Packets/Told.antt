-- A frame that goes of what waits beside the bytes of streams leaves each sending half as it was,
-- but for which limit was said on it (RFC 9000, section 19.13).
use Rattle.std.proofs.Common.{◌≡◌, ℕ, Option, Some, None, refl, sym, ap, ◌∙◌, subst, inl, inr}
use Rattle.std.proofs.lemmas.Bool.{cases_eq}
use Rattle.quic_wire.specs.Value.{FrameValue, max_data, max_stream_data, max_streams, stream_data_blocked}
use Rattle.quic_streams_parts.specs.Table.{Table, at, put}
use Rattle.quic_streams_parts.specs.TableLaws.{at-put, at-put-apart}
use Rattle.quic_streams_parts.specs.SendHalf.{SendHalf}
use Rattle.quic_streams_halves.specs.Halves.{changed_at}
use Rattle.quic_streams_state.specs.declared.state.StreamsState.{StreamsState}
use Rattle.quic_streams_state.specs.Control.{frame_told}

-- where a half in use changes, so does what is said of it
pub changed_half : (g : SendHalf → SendHalf) (P : Option SendHalf → Type 0) → ((h : SendHalf) → P (Some h) → P (Some (g h))) → (live : Table SendHalf) (id j : ℕ) → P (at live j) → P (at (changed_at (at live id) g live id) j)
changed_half g P keeps live id j q = go (at live id) refl
  where
    go : (o : Option SendHalf) → at live id ≡ o → P (at (changed_at o g live id) j)
    go None is = q
    go (Some h) is = elim (cases_eq j id) [
      | inl same ↦ (
          let was : P (Some h) = subst P (ap (λ (x : ℕ). at live x) same ∙ is) q in
          subst P (sym (ap (λ (x : ℕ). at (put live id (g h)) x) same ∙ at-put live id h (g h) is)) (keeps h was))
      | inr ne ↦ subst P (sym (at-put-apart live id (g h) j ne)) q
    ]

-- what holds of a half of which another limit was said, too, holds once a frame went
pub told_half : (P : Option SendHalf → Type 0) → ((h : SendHalf) (limit : ℕ) → P (Some h) → P (Some (record h { said = Some limit }))) → (f : FrameValue) (s : StreamsState) (id : ℕ) → P (at s.sending.halves.live id) → P (at (frame_told f s).sending.halves.live id)
told_half P keeps (stream_data_blocked f) s id q = changed_half (λ h. record h { said = Some f.limit }) P (λ h i. keeps h f.limit i) s.sending.halves.live f.id id q
told_half P keeps (max_data limit) s id q = q
told_half P keeps (max_stream_data f) s id q = q
told_half P keeps (max_streams f) s id q = q
told_half P keeps f s id q = q

-- so what is read of a half, but for which limit was said, is the same
pub told_reads : {A : Type 0} (read : Option SendHalf → A) → ((h : SendHalf) (limit : ℕ) → read (Some (record h { said = Some limit })) ≡ read (Some h)) → (f : FrameValue) (s : StreamsState) (id : ℕ) → read (at (frame_told f s).sending.halves.live id) ≡ read (at s.sending.halves.live id)
told_reads read same f s id = told_half (λ (o : Option SendHalf). read o ≡ read (at s.sending.halves.live id)) (λ h limit is. same h limit ∙ is) f s id refl
