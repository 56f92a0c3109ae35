-- What of a half is in flight stands somewhere: what each step of a half makes of that.
use Rattle.std.proofs.Common.{◌≡◌, ℕ, ◌+◌, ◌-◌, ◌≤◌, Bool, true, false, not, ◌||◌, ◌&&◌, length, drop, length-take, length-drop, None, refl, sym, ◌∙◌, ◌⊎◌, inl, inr, arith}
use Rattle.std.proofs.lemmas.Bool.{and_parts, both_ways, not-true, le-ltb}
use Rattle.std.specs.Prelude.{nat_lt}
use Rattle.quic_sets.specs.Offsets.{is_within}
use Rattle.quic_sets.proofs.Offsets.Edits.{within_from, within_is}
use Rattle.quic_send_buffer.specs.Buffered.{is_in_flight, is_acknowledged, is_lost, nothing_written, next_start, sent_end}
use Rattle.quic_send_buffer.proofs.Buffered.Calls.{next_kept, next_bounded, sent_from, sent_within}
use Rattle.quic_send_buffer.proofs.Buffered.Places.{ack_in_flight, loss_in_flight, poll_stays}
use Rattle.quic_send_buffer.specs.declared.stream_meta.StreamMeta.{StreamMeta}
use Rattle.quic_streams_parts.specs.SendHalf.{SendHalf, new_send_half, half_after, half_acked, half_lost, frame_of, meta_of, reaches_end}
use Rattle.quic_streams_laws.specs.Written.{Wrote, IsSendHalf}
use Rattle.quic_streams_laws.specs.WroteLaws.{GoesAlong}
use Rattle.quic_headline.specs.Duties.{Duty, Offset, Fin, Carries}

-- an end that neither waits nor is acknowledged
abbrev pub fin_flies : SendHalf → Bool
fin_flies h = h.finished && not (h.end_acked || h.end_waits)

-- of a half that wasn't reset each offset in flight, and such an end, stands somewhere
pub record FliesIn (F : Duty → Type 0) (id : ℕ) (h : SendHalf) : Type 0 where
  pub offsets : h.reset ≡ None → (o : ℕ) → is_in_flight h.buffer o ≡ true → F (Offset id o)
  pub fin : h.reset ≡ None → fin_flies h ≡ true → F (Fin id)

-- it stands in more places
pub flies_more : (F G : Duty → Type 0) (id : ℕ) (h : SendHalf) → ((u : Duty) → F u → G u) → FliesIn F id h → FliesIn G id h
flies_more F G id h more i = record { offsets = λ none o is. more (Offset id o) (i.offsets none o is); fin = λ none is. more (Fin id) (i.fin none is) }

-- ---- what is done on a half

-- nothing of a new half is in flight
none_flies : (F : Duty → Type 0) (id limit : ℕ) → FliesIn F id (new_send_half limit)
none_flies F id limit = record {
  offsets = λ none o is. (let sent = and_parts (nat_lt o 0) (not (is_acknowledged nothing_written o || is_lost nothing_written o)) is in absurd (both_ways (nat_lt o 0) (le-ltb o 0 (omega arith)) sent.0));
  fin = λ none is. cc;
}

-- the end of a half that is finished waits
ended_waits : (acked : Bool) → not (acked || true) ≡ true → ⊥
ended_waits true is = cc
ended_waits false is = cc

-- what an application does on a half puts nothing in flight
pub flies_along : (F : Duty → Type 0) → GoesAlong (FliesIn F) (λ id w. Unit {0})
flies_along F = record {
  fresh = none_flies F;
  blocked = λ id h b i. record { offsets = i.offsets; fin = i.fin };
  noted = λ id h said i. record { offsets = i.offsets; fin = i.fin };
  placed = λ id h p i. record { offsets = i.offsets; fin = i.fin };
  grown = λ id h bytes i. record { offsets = i.offsets; fin = i.fin };
  ended = λ id h i. record { offsets = i.offsets; fin = λ none is. absurd (ended_waits h.end_acked is) };
  reset = λ id h i. record { offsets = λ none. cc; fin = λ none. cc };
  over = λ w id h held i over. tt;
}

-- ---- a frame is acknowledged or lost

-- an end that flies behind an acknowledgement wasn't in it
fin_acked : (fin acked in_it waits : Bool) → (fin && not ((acked || in_it) || waits)) ≡ true → (in_it ≡ false) × ((fin && not (acked || waits)) ≡ true)
fin_acked false acked in_it waits i = cc
fin_acked true true in_it waits i = cc
fin_acked true false true waits i = cc
fin_acked true false false waits i = (refl, i)

-- nor was one behind a loss
fin_lost : (fin acked waits in_it : Bool) → (fin && not (acked || (waits || in_it))) ≡ true → (in_it ≡ false) × ((fin && not (acked || waits)) ≡ true)
fin_lost false acked waits in_it i = cc
fin_lost true true waits in_it i = cc
fin_lost true false true in_it i = cc
fin_lost true false false true i = cc
fin_lost true false false false i = (refl, refl)

module _ (F : Duty → Type 0) (w : Wrote) (h : SendHalf) (m : StreamMeta) (held : IsSendHalf w h) (i : FliesIn (λ u. Carries m u ⊎ F u) m.id h) where
  -- what isn't carried stands elsewhere
  offset_else : h.reset ≡ None → (o : ℕ) → (is_in_flight h.buffer o && not (is_within m.offsets.start m.offsets.end o)) ≡ true → F (Offset m.id o)
  offset_else none o is =
      let was = and_parts (is_in_flight h.buffer o) (not (is_within m.offsets.start m.offsets.end o)) is in
      elim (i.offsets none o was.0) [
        | inl c ↦ absurd (both_ways (is_within m.offsets.start m.offsets.end o) (not-true (is_within m.offsets.start m.offsets.end o) was.1) (within_from m.offsets.start m.offsets.end o c.1 c.2))
        | inr other ↦ other
      ]

  fin_else : h.reset ≡ None → (m.fin ≡ false) × (fin_flies h ≡ true) → F (Fin m.id)
  fin_else none was = elim (i.fin none was.1) [ inl c ↦ absurd (both_ways m.fin was.0 c.1) | inr other ↦ other ]

  -- of a half of which a frame was acknowledged, what flies stands elsewhere
  pub flies_acked : FliesIn F m.id (half_acked h m)
  flies_acked = record {
    offsets = λ none o is. offset_else none o (sym (ack_in_flight h.buffer m.offsets.start m.offsets.end o held.lawful) ∙ is);
    fin = λ none is. fin_else none (fin_acked h.finished h.end_acked m.fin h.end_waits is);
  }

  -- so it does of one of which a frame was lost
  pub flies_lost : FliesIn F m.id (half_lost h m)
  flies_lost = record {
    offsets = λ none o is. offset_else none o (sym (loss_in_flight h.buffer m.offsets.start m.offsets.end o held.lawful) ∙ is);
    fin = λ none is. fin_else none (fin_lost h.finished h.end_acked h.end_waits m.fin is);
  }

-- ---- a frame goes

-- an end that goes is carried
fin_went : (fin acked waits reaches : Bool) → (fin && not (acked || (waits && not reaches))) ≡ true → (reaches ≡ true) ⊎ ((fin && not (acked || waits)) ≡ true)
fin_went fin acked waits true i = inl refl
fin_went fin acked true false i = inr i
fin_went fin acked false false i = inr i

-- how many bytes the frame of a half has
pub frame_bytes : (id : ℕ) (h : SendHalf) (room : ℕ) → h.buffer.base ≤ next_start h.buffer → next_start h.buffer ≤ sent_end h.buffer room → sent_end h.buffer room ≤ h.buffer.base + length h.buffer.kept → length (frame_of id h room).bytes ≡ sent_end h.buffer room - next_start h.buffer
frame_bytes id h room kept ordered bounded =
    let from : ℕ = next_start h.buffer - h.buffer.base in
    let to : ℕ = sent_end h.buffer room - h.buffer.base in
    let taken = length-take (to - from) (drop from h.buffer.kept) in
    let behind = length-drop from h.buffer.kept in
    omega (arith, taken, behind, kept, ordered, bounded)

-- what of a half goes stands in its frame, and all else where it stood
pub flies_went : (F : Duty → Type 0) (w : Wrote) (id : ℕ) (h : SendHalf) (room : ℕ) → IsSendHalf w h → FliesIn F id h → FliesIn (λ u. Carries (meta_of (frame_of id h room)) u ⊎ F u) id (half_after h room)
flies_went F w id h room held i = record {
  offsets = λ none o is. offset none o is (is_within (next_start h.buffer) (sent_end h.buffer room) o) refl;
  fin = λ none is. elim (fin_went h.finished h.end_acked h.end_waits (reaches_end h (sent_end h.buffer room)) is) [ inl goes ↦ inl (refl, goes) | inr was ↦ inr (i.fin none was) ];
}
  where
    offset : h.reset ≡ None → (o : ℕ) → is_in_flight (half_after h room).buffer o ≡ true → (b : Bool) → is_within (next_start h.buffer) (sent_end h.buffer room) o ≡ b → Carries (meta_of (frame_of id h room)) (Offset id o) ⊎ F (Offset id o)
    offset none o is true inside =
        let place = within_is (next_start h.buffer) (sent_end h.buffer room) o inside in
        let low = sent_from h.buffer room in
        let high = sent_within h.buffer room held.lawful in
        let most = next_bounded h.buffer held.lawful in
        let count = frame_bytes id h room (next_kept h.buffer held.lawful) low (omega arith) in
        let end = place.1 in
        inl (refl, place.0, omega arith)
    offset none o is false outside = inr (i.offsets none o (sym (poll_stays h.buffer room o held.lawful outside).in_flight ∙ is))
