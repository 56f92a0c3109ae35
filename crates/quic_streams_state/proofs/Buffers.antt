-- Writes of several chunks.
use Rattle.std.proofs.Common.{◌≡◌, ℕ, zero, suc, ◌+◌, ◌<◌, ◌≤◌, min, Bool, true, false, ◌==◌, List, [], ◌∷◌, length, Option, Some, None, Result, Ok, Err, refl, sym, ap, subst, ◌∙◌, arith}
use Rattle.std.specs.Prelude.{OnOk, IsOkAnd, if◌then◌else◌}
use Rattle.std.proofs.Math.Dec.{eqb-suc-zero}
use Rattle.std.specs.Option.{is_some}
use Rattle.quic_send_buffer.specs.Source.{bytes_of}
use Rattle.quic_send_buffer.specs.WritesLaws.{cut_one}
use Rattle.quic_streams_parts.specs.declared.answers.Written.{Written}
use Rattle.quic_streams_parts.specs.declared.answers.WriteError.{WriteError}
use Rattle.quic_streams_parts.specs.declared.answers.WriteError.TheVariants as write_errors
use Rattle.quic_streams_parts.specs.SendHalf.{SendHalf, room_on, is_ready, grown, grown_all, requeued_at, written_to, taken_unless}
use Rattle.quic_streams_state.specs.Sends.{with_queued, with_live_queued, accepted_in, chunks_grown_half, chunks_grown_in}
use Rattle.quic_streams_parts.specs.Table.{at}
use Rattle.quic_streams_state.specs.Parts.{Sending}
use Rattle.quic_streams_state.specs.State.{StreamsState, sending_half, room}
use Rattle.quic_streams_state.specs.SendLacking.{WriteMayLack}
use Rattle.quic_streams_state.specs.Writing.{write_answer, write_chunks_answer, chunks_of, accepted_at, grown_by, chunks_grown_by, chunks_accepted_at}

-- more bytes than there is room for are as many as the room
pub answer_up_to : (o : Option SendHalf) (all len most : ℕ) → all ≤ most → written_to o all (min len most) ≡ written_to o all len
answer_up_to None all len most le = refl
answer_up_to (Some h) all len most le = ap (λ (x : Result ℕ WriteError). if all == 0 then Err write_errors.Blocked else (if is_ready h then x else Err write_errors.ClosedStream)) (go h.stopped)
  where
    same : min (min len most) (min all (room_on h)) ≡ min len (min all (room_on h))
    same = omega arith

    go : (stopped : Option ℕ) → taken_unless stopped h all (min len most) ≡ taken_unless stopped h all len
    go (Some code) = refl
    go None = ap (λ (n : ℕ). if room_on h == 0 then Err write_errors.Blocked else Ok n) same

-- some bytes are accepted
pub chunks_accepted : (h : SendHalf) (s : StreamsState) (id n : ℕ) (cs : List (List ℕ)) → 0 < n → chunks_accepted_at (Some h) s id n cs ≡ chunks_grown_by h s id n cs
chunks_accepted h s id zero cs some = absurd (omega arith)
chunks_accepted h s id (suc n) cs some = refl

-- chunks are accepted on a half in use
live_chunks : (s : StreamsState) (id n : ℕ) (h : SendHalf) (cs : List (List ℕ)) → at s.sending.halves.live id ≡ Some h → 0 < n
    → record s { sending = chunks_grown_in (Some h) s.sending id n cs } ≡ chunks_accepted_at (sending_half s id) s id n cs
live_chunks s id n h cs found some =
    let in_use : sending_half s id ≡ Some h = rw found refl in
    let grown : chunks_grown_by h s id n cs ≡ record s { sending = chunks_grown_in (Some h) s.sending id n cs } = rw found refl in
    sym (ap (λ (o : Option SendHalf). chunks_accepted_at o s id n cs) in_use ∙ chunks_accepted h s id n cs some ∙ grown)

pub live_accepted : {T E : Type 0} (r : Result T E) (s : StreamsState) (t : Sending) (id n : ℕ) (cs : List (List ℕ)) → is_some (at s.sending.halves.live id) ≡ true → 0 < n
    → OnOk r (t ≡ chunks_grown_in (at s.sending.halves.live id) s.sending id n cs) → OnOk r (record s { sending = t } ≡ chunks_accepted_at (sending_half s id) s id n cs)
live_accepted (Err e) s t id n cs there some put = tt
live_accepted (Ok x) s t id n cs there some put = go (at s.sending.halves.live id) refl there
  where
    go : (o : Option SendHalf) → at s.sending.halves.live id ≡ o → is_some o ≡ true → record s { sending = t } ≡ chunks_accepted_at (sending_half s id) s id n cs
    go None e f = cc
    go (Some h) e f = ap (λ (x : Sending). let y : StreamsState = record s { sending = x } in y) (put ∙ ap (λ (o : Option SendHalf). chunks_grown_in o s.sending id n cs) e) ∙ live_chunks s id n h cs e some

-- one chunk whole is a write of its bytes
pub one_accepted : (o : Option SendHalf) (s : StreamsState) (id : ℕ) (bytes : List ℕ) → 0 < length bytes → chunks_accepted_at o s id (length bytes) (bytes ∷ []) ≡ accepted_at o s id bytes
one_accepted None s id bytes some = refl
one_accepted (Some h) s id [] some = absurd (omega arith)
one_accepted (Some h) s id (b ∷ bytes) some =
    ap (λ (ds : List (List ℕ)). let t : StreamsState = record s { sending = record (with_queued s.sending s.side id (requeued_at h.place true s.sending.queue id (grown_all h ds))) { accepted = s.sending.accepted + length (b ∷ bytes) } } in t)
    (cut_one (b ∷ bytes))
    ∙ sym (ap (λ (z : Bool). if z then s else grown_by h s id (b ∷ bytes)) (eqb-suc-zero (length bytes)))

-- what isn't empty
pub not_empty : (n : ℕ) (empty : Bool) → empty ≡ (n == 0) → empty ≡ false → 0 < n
not_empty zero empty e f = absurd (wrong (sym e ∙ f))
  where
    wrong : true ≡ false → ⊥
    wrong h = cc
not_empty (suc n) empty e f = omega arith

-- one chunk whole is accepted first on a half
pub first_accepted : {T E : Type 0} (r : Result T E) (s : StreamsState) (t : Sending) (id : ℕ) (h : SendHalf) (bytes : List ℕ) (cs : List (List ℕ)) → sending_half s id ≡ Some h → 0 < length bytes → cs ≡ bytes ∷ []
    → OnOk r (t ≡ chunks_grown_half h s.sending s.side id (length bytes) cs) → OnOk r (record s { sending = t } ≡ accepted_at (sending_half s id) s id bytes)
first_accepted (Err x) s t id h bytes cs is some e put = tt
first_accepted (Ok x) s t id h bytes cs is some e put =
    ap (λ (y : Sending). let u : StreamsState = record s { sending = y } in u) put
    ∙ sym (chunks_accepted h s id (length bytes) cs some)
    ∙ ap (λ (ds : List (List ℕ)). chunks_accepted_at (Some h) s id (length bytes) ds) e
    ∙ one_accepted (Some h) s id bytes some
    ∙ sym (ap (λ (o : Option SendHalf). accepted_at o s id bytes) is)

-- no chunk is left to count
pub none_left : (total most n : ℕ) (cs : List (List ℕ)) → length cs ≡ 0 → min (total + bytes_of cs) most ≡ n → total ≤ most → total ≡ n
none_left total most n [] h e small = let one : bytes_of [] ≡ 0 = refl in omega arith
none_left total most n (c ∷ cs) h e small = absurd (omega arith)

-- as a write of all their bytes
pub chunks_answer : (s : StreamsState) (id len most : ℕ) (cs : List (List ℕ)) → len ≡ min (bytes_of cs) most → room s.sending ≤ most → write_answer true s id len ≡ write_answer true s id (bytes_of cs)
chunks_answer s id len most cs e le = ap (λ (n : ℕ). write_answer true s id n) e ∙ answer_up_to (sending_half s id) (room s.sending) (bytes_of cs) most le

pub refused_answer : (s : StreamsState) (id len most : ℕ) (cs : List (List ℕ)) (error told : WriteError) (b : Bool) → b ≡ true → len ≡ min (bytes_of cs) most → room s.sending ≤ most
    → Err error ≡ write_answer true s id len → told ≡ error → Err told ≡ write_chunks_answer b s id cs
refused_answer s id len most cs error told b is_open e le answer same =
    ap (λ (x : WriteError). let y : Result Written WriteError = Err x in y) same
    ∙ ap (λ (r : Result ℕ WriteError). chunks_of r cs) (answer ∙ chunks_answer s id len most cs e le)
    ∙ ap (λ (z : Bool). write_chunks_answer z s id cs) (sym is_open)

-- ---- a write to a half in use

in_use : (s : StreamsState) (id : ℕ) (h : SendHalf) → at s.sending.halves.live id ≡ Some h → sending_half s id ≡ Some h
in_use s id h found = rw found refl

-- what it is answered is what any write is
pub live_answer : (s : StreamsState) (id len : ℕ) (r : Result ℕ WriteError) → is_some (at s.sending.halves.live id) ≡ true → r ≡ written_to (at s.sending.halves.live id) (room s.sending) len → r ≡ write_answer true s id len
live_answer s id len r there told = told ∙ go (at s.sending.halves.live id) refl there
  where
    go : (o : Option SendHalf) → at s.sending.halves.live id ≡ o → is_some o ≡ true → written_to o (room s.sending) len ≡ write_answer true s id len
    go None found is = cc
    go (Some h) found is = sym (ap (λ (o : Option SendHalf). written_to o (room s.sending) len) (in_use s id h found))

-- and what it leaves
pub live_written : (s : StreamsState) (t : Sending) (id : ℕ) (bytes : List ℕ) → (at s.sending.halves.live id ≡ None → ⊥) → t ≡ accepted_in (at s.sending.halves.live id) s.sending id bytes
    → record s { sending = t } ≡ accepted_at (sending_half s id) s id bytes
live_written s t id bytes used is = ap (λ (x : Sending). let y : StreamsState = record s { sending = x } in y) is ∙ go (at s.sending.halves.live id) refl
  where
    by_some : (b : Bool) (h : SendHalf) → at s.sending.halves.live id ≡ Some h
        → record s { sending = if b then s.sending else record (with_live_queued s.sending id (requeued_at h.place true s.sending.queue id (grown h bytes))) { accepted = s.sending.accepted + length bytes } } ≡ (if b then s else grown_by h s id bytes)
    by_some true h found = refl
    by_some false h found = rw found refl

    go : (o : Option SendHalf) → at s.sending.halves.live id ≡ o → record s { sending = accepted_in o s.sending id bytes } ≡ accepted_at (sending_half s id) s id bytes
    go None found = absurd (used found)
    go (Some h) found = by_some (length bytes == 0) h found ∙ sym (ap (λ (o : Option SendHalf). accepted_at o s id bytes) (in_use s id h found))

-- and it lacks memory where any write may
pub live_lacks : (s : StreamsState) (id len : ℕ) → IsOkAnd (written_to (at s.sending.halves.live id) (room s.sending) len) (λ n. 0 < n)
    → WriteMayLack (written_to (sending_half s id) (room s.sending) len) (sending_half s id) (room s.sending)
live_lacks s id len ok = go (at s.sending.halves.live id) refl ok
  where
    by_answer : (r : Result ℕ WriteError) (o : Option SendHalf) → IsOkAnd r (λ n. 0 < n) → WriteMayLack r o (room s.sending)
    by_answer (Ok n) o some = some
    by_answer (Err e) o some = absurd some

    go : (o : Option SendHalf) → at s.sending.halves.live id ≡ o → IsOkAnd (written_to o (room s.sending) len) (λ n. 0 < n) → WriteMayLack (written_to (sending_half s id) (room s.sending) len) (sending_half s id) (room s.sending)
    go None found some = absurd some
    go (Some h) found some = by_answer (written_to (sending_half s id) (room s.sending) len) (sending_half s id) (subst (λ (o : Option SendHalf). IsOkAnd (written_to o (room s.sending) len) (λ n. 0 < n)) (sym (in_use s id h found)) some)
