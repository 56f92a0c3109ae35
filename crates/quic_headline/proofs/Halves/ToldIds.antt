-- Ids that wait to be told, and numbers that wait to be retired, have a form: those with which an
-- end begins, those that it issues and draws, and those for which a frame or a call asks.
use Rattle.std.proofs.Common.{◌≡◌, ℕ, zero, suc, ◌-◌, ◌<◌, ◌^◌, Bool, true, false, cond, List, [], ◌∷◌, ◌++◌, length, Option, Some, None, Result, Ok, Err, refl, sym, subst, ◌⊎◌, inl, inr, arith}
use Rattle.std.specs.Prelude.{nat_le, nat_lt, ◌==◌, ◌||◌, set, slice_get, if◌then◌else◌}
use Rattle.std.specs.List.{range_with_len, list_any}
use Rattle.std.specs.declared.ops.Range.{Range}
use Rattle.std.proofs.lemmas.Bool.{and_parts, ltb-true}
use Rattle.quic_wire_core.specs.TransportError.{ErrorValue}
use Rattle.quic_wire_core.specs.declared.shared.IssuedCid.{IssuedCid}
use Rattle.quic_wire.specs.Value.{FrameValue, ack, stream, reset_stream, stop_sending, max_data, max_stream_data, max_streams, datagram, new_connection_id, retire_connection_id, path_response, handshake_done, ack_frequency}
use Rattle.quic_wire.specs.Writing.{Fits}
use Rattle.quic_ids.specs.CidState.{OwnIds, is_wrong, without, after_retirement, retirement_answer}
use Rattle.quic_ids.specs.CidQueue.{kept_ids, insert_answer}
use Rattle.quic_ids.specs.declared.cid_queue.InsertError.{InsertError}
use Rattle.quic_ids.specs.declared.cid_queue.InsertError.TheVariants as inserts
use Rattle.quic_retransmits.specs.Retransmits.{Retransmits, most_retirements, can_retire, after_retire, after_late}
use Rattle.quic_streams_state.specs.Control.{told_id}
use Rattle.quic_paths.specs.Paths.{is_asked}
use Rattle.quic_machine.specs.declared.run.Answer.{Answer}
use Rattle.quic_machine.specs.declared.run.Answer.TheVariants as answers
use Rattle.quic_machine.specs.Ids.{Drawing, words_behind, words_of_id, drawn_id, drawn_ids, undrawn_id, most_ids, later_numbers, retired, is_more, drawn_one, drawn_places, frame_of, retires_for, retires_for_next, next_used}
use Rattle.quic_machine.specs.IdFrames.{retiring, with_taken_up, issued, issued_if, issues_for, drawn, next_id_taken, end_on_next_id}
use Rattle.quic_machine.specs.MessageCalls.{most_message}
use Rattle.quic_machine.specs.Sizes.{without_longer_if, shortened}
use Rattle.quic_machine.specs.Validation.{word_of, validated_if}
use Rattle.quic_machine.specs.End.{End, with_ids, words_drawn}
use Rattle.quic_machine.specs.Receive.{retired_for, id_judged, retirement_judged, take_frame}
use Rattle.quic_machine.specs.FrameCases.{IsApart, issues_may}
use Rattle.quic_headline.specs.Runs.{In}
use Rattle.quic_headline.proofs.Places.Told.{in_append}
use Rattle.quic_headline.proofs.Halves.Small.{IsSmallNumber}
use Rattle.quic_headline.proofs.Halves.KnownIds.{AreWritten, range_in, range_below, retires_written, next_retires_written}
use Rattle.quic_headline.proofs.Halves.Pile.{NothingElse}
use Rattle.quic_headline.proofs.Packets.Apart.{by_frequency, by_heard_done}

-- ---- lists

-- what stands at a place is in the list
pub got_in : {X : Type 0} (xs : List X) (i : ℕ) (x : X) → slice_get xs i ≡ Some x → In x xs
got_in [] i x q = cc
got_in (y ∷ xs) zero x q = let same : y ≡ x = cc in inl (sym same)
got_in (y ∷ xs) (suc i) x q = inr (got_in xs i x q)

-- where one is put at a place, each is that or was there
set_in : {X : Type 0} (x y : X) (xs : List X) (i : ℕ) → In x (set xs i y) → (x ≡ y) ⊎ In x xs
set_in x y [] i j = absurd j
set_in x y (z ∷ zs) zero j = elim j [ inl same ↦ inl same | inr more ↦ inr (inr more) ]
set_in x y (z ∷ zs) (suc i) j = elim j [
  | inl here ↦ inr (inl here)
  | inr there ↦ elim (set_in x y zs i there) [ inl same ↦ inl same | inr old ↦ inr (inr old) ]
]

-- ---- one id

-- it has a form where its number can be written, its bytes are as many as those of an own id, and
-- its token has a token's
told_fits : (cid : IssuedCid) → cid.sequence < 2 ^ 62 → length cid.id ≡ 8 → length cid.reset_token ≡ 16 → Fits (new_connection_id (told_id cid))
told_fits cid small long token = ((small, (omega arith, tt)), record { retires = omega arith; some = omega arith; short = omega arith; token = token })

drawn_fits : (words : ℕ → ℕ) (n : ℕ) → n < 2 ^ 62 → Fits (new_connection_id (told_id (drawn_id words n)))
drawn_fits words n small = told_fits (drawn_id words n) small refl refl

undrawn_fits : (n : ℕ) → n < 2 ^ 62 → Fits (new_connection_id (told_id (undrawn_id n)))
undrawn_fits n small = told_fits (undrawn_id n) small refl refl

-- ---- several

-- ids that wait have a form
abbrev pub AreTold : List IssuedCid → Type 0
AreTold cids = (cid : IssuedCid) → In cid cids → Fits (new_connection_id (told_id cid))

-- those that are drawn of small numbers
drawn_told : (words : ℕ → ℕ) (ns : List ℕ) → ((n : ℕ) → In n ns → n < 2 ^ 62) → AreTold (drawn_ids words ns)
drawn_told words [] small cid i = absurd i
drawn_told words (n ∷ ns) small cid (inl same) = subst (λ (x : IssuedCid). Fits (new_connection_id (told_id x))) (sym same) (drawn_fits words n (small n (inl refl)))
drawn_told words (n ∷ ns) small cid (inr more) = drawn_told (words_behind words_of_id words) ns (λ m i. small m (inr i)) cid more

-- those with which an end begins
pub first_told : (words : ℕ → ℕ) (limit : ℕ) → AreTold (drawn_ids words (later_numbers (most_ids limit)))
first_told words limit = drawn_told words (later_numbers (most_ids limit)) (λ n i. (let within = range_in n 1 (most_ids limit - 1) i in let most : kept_ids ≡ 8 = refl in omega arith))

-- those that are drawn behind a packet
places_told : (places : List ℕ) (words : ℕ → ℕ) (d : Drawing) → AreTold d.waiting → AreTold (drawn_places places words d).waiting
places_told [] words d all = all
places_told (place ∷ places) words d all = places_told places (words_behind words_of_id words) (drawn_one (slice_get d.waiting place) place words d) (go (slice_get d.waiting place) refl)
  where
    go : (o : Option IssuedCid) → slice_get d.waiting place ≡ o → AreTold (drawn_one o place words d).waiting
    go None is cid i = all cid i
    go (Some c) is cid i = elim (set_in cid (drawn_id words c.sequence) d.waiting place i) [
      | inl same ↦ subst (λ (x : IssuedCid). Fits (new_connection_id (told_id x))) (sym same) (drawn_fits words c.sequence (all c (got_in d.waiting place c is)).0.0)
      | inr old ↦ all cid old
    ]

-- ---- what waits

-- numbers are retired
retire_else : (p : Retransmits) (r : Range ℕ) → r.end < 2 ^ 62 → NothingElse p → NothingElse (after_retire p r.start r.end)
retire_else p r little n = record {
  ids = n.ids;
  retired = λ m i. elim (in_append m p.retire_cids (range_with_len r.start (r.end - r.start)) i) [
    | inl old ↦ n.retired m old
    | inr new ↦ (let below = range_below r m new in omega arith)
  ];
}

-- one is once more
late_else : (p : Retransmits) (number : ℕ) → number < 2 ^ 62 → NothingElse p → NothingElse (after_late p number)
late_else p number small n = go (nat_le most_retirements (length p.retire_cids) || list_any (λ m. m == number) p.retire_cids)
  where
    go : (b : Bool) → NothingElse (if b then p else record p { retire_cids = p.retire_cids ++ number ∷ [] })
    go true = n
    go false = record {
      ids = n.ids;
      retired = λ m i. elim (in_append m p.retire_cids (number ∷ []) i) [
        | inl old ↦ n.retired m old
        | inr new ↦ elim new [ inl same ↦ omega arith | inr none ↦ absurd none ]
      ];
    }

-- an id is issued
issued_else : (e : End) → e.ids.own.issued < 2 ^ 62 → NothingElse e.waiting.frames → NothingElse (issued e).waiting.frames
issued_else e small n = record {
  ids = λ cid i. elim (in_append cid e.waiting.frames.new_cids (undrawn_id e.ids.own.issued ∷ []) i) [
    | inl old ↦ n.ids cid old
    | inr new ↦ elim new [
      | inl same ↦ subst (λ (x : IssuedCid). Fits (new_connection_id (told_id x))) (sym same) (undrawn_fits e.ids.own.issued small)
      | inr none ↦ absurd none
    ]
  ];
  retired = n.retired;
}

-- ids are drawn
pub drawn_else : (words : ℕ → ℕ) (e : End) → NothingElse e.waiting.frames → NothingElse (drawn words e).waiting.frames
drawn_else words e n = record {
  ids = places_told e.ids.undrawn (words_behind (words_drawn e) words) (record { living = e.ids.living; waiting = e.waiting.frames.new_cids }) n.ids;
  retired = n.retired;
}

-- messages are dropped
lasts_else : (o : Option ℕ) (x : End) → NothingElse x.waiting.frames → NothingElse (without_longer_if o x).waiting.frames
lasts_else None x n = n
lasts_else (Some most) x n = n

fits_else : (b : Bool) (x : End) → NothingElse x.waiting.frames → NothingElse (shortened b x).waiting.frames
fits_else true x n = lasts_else (most_message x) x n
fits_else false x n = n

-- ---- frames

-- a retirement issues none
retirement_issued : (s : OwnIds) (n : ℕ) → (after_retirement s n).issued ≡ s.issued
retirement_issued s n = go (is_wrong s n)
  where
    go : (b : Bool) → (cond b s (record s { living = without n s.living })).issued ≡ s.issued
    go true = refl
    go false = refl

-- a frame apart from streams
pub apart_else : (f : FrameValue) (e : End) → IsApart f → IsSmallNumber f → AreWritten e.ids.peer → NothingElse e.waiting.frames → NothingElse (take_frame f e).end.waiting.frames
apart_else (ack a) e apart small w n = absurd apart
apart_else (stream f) e apart small w n = absurd apart
apart_else (reset_stream f) e apart small w n = absurd apart
apart_else (stop_sending f) e apart small w n = absurd apart
apart_else (max_data limit) e apart small w n = absurd apart
apart_else (max_stream_data f) e apart small w n = absurd apart
apart_else (max_streams f) e apart small w n = absurd apart
apart_else (datagram m) e apart small w n = absurd apart
apart_else (new_connection_id f) e apart small w n = judged (retires_for (insert_answer e.ids.peer (frame_of f))) refl
  where
    retires : (r : Range ℕ) → r.end < 2 ^ 62 → (b : Bool) → NothingElse (retired_for b r f e).end.waiting.frames
    retires r little true = fits_else _ (retiring r (with_taken_up f e)) (retire_else e.waiting.frames r little n)
    retires r little false = n

    judged : (r : Result (Option (Range ℕ)) InsertError) → retires_for (insert_answer e.ids.peer (frame_of f)) ≡ r → NothingElse (id_judged r f e).end.waiting.frames
    judged (Ok None) is = fits_else _ (with_taken_up f e) n
    judged (Ok (Some r)) is = retires r (retires_written e.ids.peer (frame_of f) small w r is) (can_retire e.waiting.frames r.start r.end)
    judged (Err inserts.Retired) is = late_else e.waiting.frames f.sequence small n
    judged (Err inserts.ExceedsLimit) is = n
apart_else (retire_connection_id m) e apart small w n = judged (retirement_answer e.ids.own m e.ids.limit)
  where
    left : End
    left = with_ids e (retired m e.ids)

    issues : (b : Bool) → issues_for m e ≡ b → NothingElse (issued_if b left).waiting.frames
    issues true may =
        let below = ltb-true e.ids.own.issued (2 ^ 62) (and_parts (is_more (retirement_answer e.ids.own m e.ids.limit)) (nat_lt e.ids.own.issued (2 ^ 62)) (issues_may m e may)).1 in
        let same = retirement_issued e.ids.own m in
        issued_else left (subst (λ (k : ℕ). k < 2 ^ 62) (sym same) below) n
    issues false may = n

    judged : (r : Result Bool ErrorValue) → NothingElse (retirement_judged r m e).end.waiting.frames
    judged (Ok more) = issues (issues_for m e) refl
    judged (Err error) = n
apart_else (path_response token) e apart small w n = go (is_asked e.validation.challenge (word_of token))
  where
    go : (b : Bool) → NothingElse (validated_if b e).waiting.frames
    go true = n
    go false = n
apart_else handshake_done e apart small w n = by_heard_done (λ (x : End). NothingElse x.waiting.frames) e n (λ c. n)
apart_else (ack_frequency r) e apart small w n = by_frequency (λ (x : End). NothingElse x.waiting.frames) r e (λ threshold reordering frequency. n)
apart_else f e apart small w n = n

-- ---- a call

-- the next id of the peer is used, or it isn't
pub next_else : (e : End) (a : Answer) → AreWritten e.ids.peer → NothingElse e.waiting.frames → NothingElse (end_on_next_id e a).waiting.frames
next_else e (answers.UseNextId (Ok done)) w n = taken (retires_for_next e.ids) refl
  where
    taken : (o : Option (Range ℕ)) → retires_for_next e.ids ≡ o → NothingElse (next_id_taken o e).waiting.frames
    taken None is = n
    taken (Some r) is = fits_else _ (retiring r (with_ids e (next_used e.ids))) (retire_else e.waiting.frames r (next_retires_written e.ids w r is) n)
next_else e a w n = n
