-- What each change of a sending half makes of what it holds.
use Rattle.std.proofs.Common.{◌≡◌, ℕ, ◌+◌, ◌-◌, ◌^◌, ◌<◌, ◌≤◌, length, take, drop, [], ◌∷◌, ◌++◌, Bool, true, List, Option, Some, None, refl, sym, ap, ◌∙◌, subst, arith, inl, inr, length-append, length-drop, drop-drop}
use Rattle.std.specs.Prelude.{not, unwrap_or}
use Rattle.std.specs.Option.{IsSome, option_map}
use Rattle.std.specs.List.{concat}
use Rattle.std.proofs.lemmas.Bool.{and_parts, or_cases, cases_lt}
use Rattle.std.proofs.lemmas.List.{append-nil, append_assoc, drop-append-le, take-append-le}
use Rattle.std.proofs.lemmas.List.Sums.{sum_by-cons}
use Rattle.std.proofs.Math.Seq.{drop-nil, take-nil, take-append-add}
use Rattle.quic_send_buffer.specs.Buffered.{Buffered, IsBuffered, nothing_written, written, acknowledged, done, sent_end}
use Rattle.quic_send_buffer.specs.declared.stream_meta.StreamMeta.{StreamMeta}
use Rattle.quic_send_buffer.proofs.Buffered.Calls.{write_lawful, ack_lawful, ack_within, loss_lawful, poll_lawful}
use Rattle.quic_streams_parts.specs.SendHalf.{SendHalf, new_send_half, written_on, room_on, grown, ended, reset_now, half_after, half_acked, half_lost, reaches_end}
use Rattle.quic_streams_state.specs.Taking.{stopped_half, limited_half}
use Rattle.quic_send_buffer.specs.Source.{cut_to, bytes_of}
use Rattle.quic_streams_parts.specs.SendHalf.{grown_all}
use Rattle.quic_streams_laws.specs.Written.{Wrote, nothing_done, with_bytes, with_end, with_reset, IsSendHalf}

-- an option that has no value has none
no_some : {A : Type 0} (o : Option A) → o ≡ None → IsSome o → ⊥
no_some None e f = cc
no_some (Some x) e f = cc

none_was : (o : Option ℕ) (n : ℕ) → option_map (λ code. n) o ≡ None → o ≡ None
none_was None n e = refl
none_was (Some x) n e = cc

-- nothing is written
pub nothing_lawful : IsBuffered nothing_written
nothing_lawful = record {
  acked = tt;
  lost = tt;
  apart = λ o a l. a;
  acked_sent = λ o a. absurd a;
  lost_sent = λ o l. absurd l;
  filled = tt;
  whole = refl;
  begun = omega arith;
  needed = tt;
  sent = omega arith;
  bounded = omega arith;
  small = omega arith;
}

-- a half on which nothing was done
pub new_holds : (limit : ℕ) → limit < 2 ^ 62 → IsSendHalf nothing_done (new_send_half limit)
new_holds limit small = record {
  lawful = nothing_lawful;
  finished = refl;
  reset = refl;
  rest = λ e. record { base = omega arith; kept = refl };
  gone = λ e. record { kept = refl; end = refl };
  within = omega arith;
  limit = small;
  waits = λ e. e;
  acked = λ e. e;
}

module _ (w : Wrote) (h : SendHalf) (i : IsSendHalf w h) where
  -- a half that wasn't reset is that of a stream that wasn't
  pub not_reset : h.reset ≡ None → w.reset ≡ None
  not_reset e = none_was w.reset (length w.bytes) (sym i.reset ∙ e)

  -- all that was written, by the half's own account
  pub bytes_written : w.reset ≡ None → written h.buffer ≡ length w.bytes
  bytes_written none =
      let k = i.rest none in
      let base = k.base in
      let kept = ap length k.kept in
      let rest = length-drop h.buffer.base w.bytes in
      omega arith

  pub all_written : written_on h ≡ length w.bytes
  all_written = go w.reset refl
    where
      go : (o : Option ℕ) → w.reset ≡ o → written_on h ≡ length w.bytes
      go None e = ap (λ o. unwrap_or o (written h.buffer)) (i.reset ∙ ap (option_map (λ code. length w.bytes)) e) ∙ bytes_written e
      go (Some code) e = ap (λ o. unwrap_or o (written h.buffer)) (i.reset ∙ ap (option_map (λ code. length w.bytes)) e)

  -- ---- what is done

  -- more bytes
  pub grown_holds : (more : List ℕ) → h.reset ≡ None → length more ≤ room_on h → IsSendHalf (with_bytes more w) (grown h more)
  grown_holds more free fits =
      let none : w.reset ≡ None = not_reset free in
      let k = i.rest none in
      let all : written_on h ≡ length w.bytes = all_written in
      let bytes : written h.buffer ≡ length w.bytes = bytes_written none in
      let sum = length-append w.bytes more in
      let within = i.within in
      let limit = i.limit in
      let base = k.base in
      record {
        lawful = write_lawful h.buffer more i.lawful (omega arith);
        finished = i.finished;
        reset = free ∙ sym (ap (option_map (λ code. length (w.bytes ++ more))) none);
        rest = λ e. record { base = omega arith; kept = ap (λ (bs : List ℕ). bs ++ more) k.kept ∙ sym (drop-append-le h.buffer.base w.bytes more k.base) };
        gone = λ e. absurd (no_some w.reset none e);
        within = omega arith;
        limit = i.limit;
        waits = i.waits;
        acked = i.acked;
      }

  -- its end
  pub ended_holds : h.reset ≡ None → IsSendHalf (with_end w) (ended h)
  ended_holds free = record {
    lawful = i.lawful;
    finished = refl;
    reset = i.reset;
    rest = i.rest;
    gone = λ e. absurd (no_some w.reset (not_reset free) e);
    within = i.within;
    limit = i.limit;
    waits = λ e. refl;
    acked = λ e. refl;
  }

  -- a reset
  pub reset_holds : (code : ℕ) → IsSendHalf (with_reset code w) (reset_now h)
  reset_holds code = record {
    lawful = nothing_lawful;
    finished = i.finished;
    reset = ap Some all_written;
    rest = λ e. absurd (no_some (Some code) e refl);
    gone = λ e. record { kept = refl; end = refl };
    within = i.within;
    limit = i.limit;
    waits = λ e. cc;
    acked = i.acked;
  }

  -- ---- what changes nothing of that

  -- whether it is blocked, which limit the peer was told to be used up, its place and its priority
  pub blocked_holds : (b : Bool) → IsSendHalf w (record h { blocked = b })
  blocked_holds b = record { lawful = i.lawful; finished = i.finished; reset = i.reset; rest = i.rest; gone = λ e. (let k = i.gone e in record { kept = k.kept; end = k.end }); within = i.within; limit = i.limit; waits = i.waits; acked = i.acked }

  pub noted_holds : (said : Option ℕ) → IsSendHalf w (record h { said = said })
  noted_holds said = record { lawful = i.lawful; finished = i.finished; reset = i.reset; rest = i.rest; gone = λ e. (let k = i.gone e in record { kept = k.kept; end = k.end }); within = i.within; limit = i.limit; waits = i.waits; acked = i.acked }

  pub placed_holds : (p : _) → IsSendHalf w (record h { place = p })
  placed_holds p = record { lawful = i.lawful; finished = i.finished; reset = i.reset; rest = i.rest; gone = λ e. (let k = i.gone e in record { kept = k.kept; end = k.end }); within = i.within; limit = i.limit; waits = i.waits; acked = i.acked }

  pub prioritized_holds : (p : _) → IsSendHalf w (record h { priority = p })
  prioritized_holds p = record { lawful = i.lawful; finished = i.finished; reset = i.reset; rest = i.rest; gone = λ e. (let k = i.gone e in record { kept = k.kept; end = k.end }); within = i.within; limit = i.limit; waits = i.waits; acked = i.acked }

  -- the peer stopped it
  pub stopped_holds : (code : ℕ) → IsSendHalf w (stopped_half h code)
  stopped_holds code = record { lawful = i.lawful; finished = i.finished; reset = i.reset; rest = i.rest; gone = λ e. (let k = i.gone e in record { kept = k.kept; end = k.end }); within = i.within; limit = i.limit; waits = i.waits; acked = i.acked }

  -- it may come further
  pub limited_holds : (limit : ℕ) → h.limit < limit → limit < 2 ^ 62 → IsSendHalf w (limited_half h limit)
  limited_holds limit above small = record { lawful = i.lawful; finished = i.finished; reset = i.reset; rest = i.rest; gone = λ e. (let k = i.gone e in record { kept = k.kept; end = k.end }); within = (let within = i.within in omega arith); limit = small; waits = i.waits; acked = i.acked }

  -- ---- frames

  -- one went
  pub polled_holds : (room : ℕ) → IsSendHalf w (half_after h room)
  polled_holds room = record {
    lawful = poll_lawful h.buffer room i.lawful;
    finished = i.finished;
    reset = i.reset;
    rest = λ e. (let k = i.rest e in record { base = k.base; kept = k.kept });
    gone = λ e. (let k = i.gone e in record { kept = k.kept; end = rw k.end refl });
    within = i.within;
    limit = i.limit;
    waits = λ e. i.waits (and_parts h.end_waits (not (reaches_end h (sent_end h.buffer room))) e).0;
    acked = i.acked;
  }

  -- one was acknowledged: it had the end only where there is one
  pub acked_holds : (m : StreamMeta) → (m.fin ≡ true → w.ended ≡ true) → IsSendHalf w (half_acked h m)
  acked_holds m last =
      let b : Buffered = acknowledged h.buffer m.offsets.start m.offsets.end in
      let few : done b ≤ length h.buffer.kept = ack_within h.buffer m.offsets.start m.offsets.end i.lawful in
      record {
        lawful = ack_lawful h.buffer m.offsets.start m.offsets.end i.lawful;
        finished = i.finished;
        reset = i.reset;
        rest = λ e. (
            let k = i.rest e in
            let base = k.base in
            let kept = ap length k.kept in
            let rest = length-drop h.buffer.base w.bytes in
            record { base = omega arith; kept = ap (drop (done b)) k.kept ∙ drop-drop (done b) h.buffer.base w.bytes });
        gone = λ e. (let k = i.gone e in record { kept = ap (drop (done b)) k.kept ∙ drop-nil (done b); end = k.end });
        within = i.within;
        limit = i.limit;
        waits = i.waits;
        acked = λ e. elim (or_cases h.end_acked m.fin e) [ inl x ↦ i.acked x | inr x ↦ last x ];
      }

  -- one was lost, of a half that wasn't reset
  pub lost_holds : (m : StreamMeta) → h.reset ≡ None → (m.fin ≡ true → w.ended ≡ true) → IsSendHalf w (half_lost h m)
  lost_holds m free last = record {
    lawful = loss_lawful h.buffer m.offsets.start m.offsets.end i.lawful;
    finished = i.finished;
    reset = i.reset;
    rest = λ e. (let k = i.rest e in record { base = k.base; kept = k.kept });
    gone = λ e. absurd (no_some w.reset (not_reset free) e);
    within = i.within;
    limit = i.limit;
    waits = λ e. elim (or_cases h.end_waits m.fin e) [ inl x ↦ i.waits x | inr x ↦ last x ];
    acked = i.acked;
  }

-- ---- several buffers

-- buffers that are cut have the first bytes of all
pub cut_concat : (n : ℕ) (cs : List (List ℕ)) → concat (cut_to n cs) ≡ take n (concat cs)
cut_concat n [] = sym (take-nil n)
cut_concat n (c ∷ cs) = elim (cases_lt n (length c)) [
  | inl below ↦
      let none : n - length c ≡ 0 = omega arith in
      let rest : concat (cut_to (n - length c) cs) ≡ [] = cut_concat (n - length c) cs ∙ ap (λ k. take k (concat cs)) none in
      ap (λ (bs : List ℕ). take n c ++ bs) rest ∙ (append-nil (take n c) ∙ sym (take-append-le n c (concat cs) (omega arith)))
  | inr above ↦
      let parts : length c + (n - length c) ≡ n = omega arith in
      let whole : take n c ≡ c = ap (λ k. take k c) (sym parts) ∙ whole_front c (n - length c) in
      ap (λ (bs : List ℕ). bs ++ concat (cut_to (n - length c) cs)) whole
      ∙ (ap (λ (bs : List ℕ). c ++ bs) (cut_concat (n - length c) cs)
      ∙ (sym (take-append-add c (concat cs) (n - length c))
      ∙ ap (λ k. take k (c ++ concat cs)) parts))
]
  where
    whole_front : (c : List ℕ) (k : ℕ) → take (length c + k) c ≡ c
    whole_front c k = ap (take (length c + k)) (sym (append-nil c)) ∙ (take-append-add c [] k ∙ (ap (λ (bs : List ℕ). c ++ bs) (take-nil k) ∙ append-nil c))

-- buffers that fit
pub grown_all_holds : (w : Wrote) (h : SendHalf) (cs : List (List ℕ)) → IsSendHalf w h → h.reset ≡ None → bytes_of cs ≤ room_on h → IsSendHalf (with_bytes (concat cs) w) (grown_all h cs)
grown_all_holds w h [] i free fits = subst (λ (bs : List ℕ). IsSendHalf (record w { bytes = bs }) h) (sym (append-nil w.bytes)) i
grown_all_holds w h (c ∷ cs) i free fits =
    let sum : bytes_of (c ∷ cs) ≡ length c + bytes_of cs = sum_by-cons (λ (x : List ℕ). length x) c cs in
    let now : IsSendHalf (with_bytes c w) (grown h c) = grown_holds w h i c free (omega arith) in
    let was : written_on h ≡ length w.bytes = all_written w h i in
    let all : written_on (grown h c) ≡ length (w.bytes ++ c) = all_written (with_bytes c w) (grown h c) now in
    let long = length-append w.bytes c in
    let rest : IsSendHalf (with_bytes (concat cs) (with_bytes c w)) (grown_all (grown h c) cs) = grown_all_holds (with_bytes c w) (grown h c) cs now free (omega arith) in
    subst (λ (bs : List ℕ). IsSendHalf (record w { bytes = bs }) (grown_all (grown h c) cs)) (append_assoc w.bytes c (concat cs)) rest
