-- What an end wrote in all is the sum of what it wrote on each stream: a group over what is
-- written.
use Rattle.std.proofs.Common.{◌≡◌, ℕ, ◌+◌, ◌^◌, ◌<◌, Bool, true, false, List, [], ◌∷◌, ◌++◌, length, take, Result, Ok, Err, refl, sym, ap, ◌∙◌, inl, inr, arith, length-append}
use Rattle.std.specs.Prelude.{◌==◌, if◌then◌else◌}
use Rattle.std.proofs.lemmas.Bool.{and_parts, ne_eqb, eq-eqb}
use Rattle.quic_send_buffer.specs.Source.{bytes_of}
use Rattle.quic_streams_parts.specs.declared.answers.WriteError.{WriteError}
use Rattle.quic_streams_parts.specs.declared.answers.WriteError.TheVariants as write_errors
use Rattle.quic_streams_parts.specs.SendHalf.{written_to}
use Rattle.quic_streams_state.specs.declared.state.StreamsState.{StreamsState}
use Rattle.quic_streams_state.specs.State.{sending_half, sends_on, is_opened, room}
use Rattle.quic_streams_state.specs.Writing.{write_answer, write_chunks_answer, chunks_of}
use Rattle.quic_streams_laws.specs.KeepingLaws.{by_option, not_taken}
use Rattle.quic_streams_laws.specs.Shape.{IsShaped}
use Rattle.quic_streams_laws.specs.ShapeLaws.{sends_may}
use Rattle.quic_streams_laws.specs.Few.{AreFew}
use Rattle.quic_streams_laws.specs.Summed.{sum_below}
use Rattle.quic_streams_laws.specs.SummedLaws.{sum_same, sum_one, opened_below}
use Rattle.quic_machine.specs.declared.run.Call.{Call}
use Rattle.quic_machine.specs.declared.run.Call.TheVariants as calls
use Rattle.quic_machine.specs.declared.run.Answer.{Answer}
use Rattle.quic_machine.specs.declared.run.Answer.TheVariants as answers
use Rattle.quic_machine.specs.Calls.{is_open}
use Rattle.quic_machine.specs.Machine.{IsAnswer}
use Rattle.quic_headline.specs.Runs.{Told, joined, written_by, written}
use Rattle.quic_headline.specs.Amounts.{amount_by, all_written}
use Rattle.quic_headline.proofs.Places.Told.{written_more}
use Rattle.quic_headline.proofs.Places.Parties.{told_of, Party}
use Rattle.quic_headline.proofs.Places.Groups.{Way, Calls, Group}
use Rattle.quic_headline.proofs.Channel.Sums.{all_more, sum_none}
use Rattle.quic_headline.proofs.Channel.AllStreams.{ids, size_in}
use Rattle.quic_headline.proofs.Channel.Within.{Within}

-- ---- one call more

-- what was written in all is what was written on each
abbrev pub IsSum : List Told → Type 0
IsSum told = all_written told ≡ sum_below ids (size_in told)

module _ (told : List Told) (t : Told) where
  -- how much was written on a stream
  size_more : (j : ℕ) → size_in (told ++ t ∷ []) j ≡ size_in told j + length (written_by j t.call t.answer)
  size_more j = ap length (written_more j told t) ∙ length-append (written j told) (written_by j t.call t.answer)

  -- a call that wrote nothing
  none_more : ((j : ℕ) → written_by j t.call t.answer ≡ []) → amount_by t.call t.answer ≡ 0 → IsSum told → IsSum (told ++ t ∷ [])
  none_more none no_amount i =
      let same : sum_below ids (size_in (told ++ t ∷ [])) ≡ sum_below ids (size_in told) = sum_same ids (size_in told) (size_in (told ++ t ∷ [])) (λ j below. (let more = size_more j in let nothing : length (written_by j t.call t.answer) ≡ 0 = ap length (none j) in omega arith)) in
      let all = all_more told t in
      omega arith

  -- one that wrote on a stream
  one_more : (s : ℕ) (bytes : List ℕ) → s < ids → ((j : ℕ) → written_by j t.call t.answer ≡ (if s == j then bytes else [])) → amount_by t.call t.answer ≡ length bytes → IsSum told → IsSum (told ++ t ∷ [])
  one_more s bytes below is amount i =
      let f : ℕ → ℕ = size_in told in
      let g : ℕ → ℕ = size_in (told ++ t ∷ []) in
      let apart : (j : ℕ) → (j ≡ s → ⊥) → g j ≡ f j = λ j ne. (
      let more = size_more j in
      let nothing : length (written_by j t.call t.answer) ≡ 0 = ap length (is j) ∙ ap (λ (b : Bool). length {A = ℕ} (if b then bytes else [])) (ne_eqb s j (λ e. ne (sym e))) in
      let r : g j ≡ f j = omega arith in
      r) in
      let sums : sum_below ids g + f s ≡ sum_below ids f + g s = sum_one ids s f g below apart in
      let here : g s ≡ f s + length (written_by s t.call t.answer) = size_more s in
      let whole : length (written_by s t.call t.answer) ≡ length bytes = ap length (is s) ∙ ap (λ (b : Bool). length {A = ℕ} (if b then bytes else [])) (eq-eqb s s refl) in
      let all = all_more told t in
      omega (arith, sums, here, whole, all, amount, i)

-- ---- which streams are written

-- one that is written is opened
written_below : (s : StreamsState) (id room len n : ℕ) → IsShaped s → AreFew s → written_to (sending_half s id) room len ≡ Ok n → id < 2 ^ 62
written_below s id room len n shape few e = by_option (sending_half s id) (λ o. written_to o room len ≡ Ok n → id < 2 ^ 62) (λ f g. absurd (not_taken write_errors.ClosedStream n g))
    (λ h f g. opened_below s id few (and_parts (sends_on s.side id) (is_opened s id) (sends_may s id h shape f)).1) e

module _ (told : List Told) (s : StreamsState) (shape : IsShaped s) (few : AreFew s) (i : IsSum told) where
  -- a write
  write_sums : (b : Bool) (id : ℕ) (bytes : List ℕ) (t : Told) → t.call ≡ calls.Write id bytes → t.answer ≡ answers.Write (write_answer b s id (length bytes)) → IsSum (told ++ t ∷ [])
  write_sums false id bytes t call answer = none_more told t
      (λ j. ap (λ (k : Call). written_by j k t.answer) call ∙ ap (λ (o : Answer). written_by j (calls.Write id bytes) o) answer) (ap (λ (k : Call). amount_by k t.answer) call ∙ ap (λ (o : Answer). amount_by (calls.Write id bytes) o) answer) i
  write_sums true id bytes t call answer = go (written_to (sending_half s id) (room s.sending) (length bytes)) refl answer
    where
      go : (r : Result ℕ WriteError) → written_to (sending_half s id) (room s.sending) (length bytes) ≡ r → t.answer ≡ answers.Write r → IsSum (told ++ t ∷ [])
      go (Ok n) is said = one_more told t id (take n bytes) (let small = written_below s id (room s.sending) (length bytes) n shape few is in omega arith)
          (λ j. ap (λ (k : Call). written_by j k t.answer) call ∙ ap (λ (o : Answer). written_by j (calls.Write id bytes) o) said) (ap (λ (k : Call). amount_by k t.answer) call ∙ ap (λ (o : Answer). amount_by (calls.Write id bytes) o) said) i
      go (Err e) is said = none_more told t
          (λ j. ap (λ (k : Call). written_by j k t.answer) call ∙ ap (λ (o : Answer). written_by j (calls.Write id bytes) o) said) (ap (λ (k : Call). amount_by k t.answer) call ∙ ap (λ (o : Answer). amount_by (calls.Write id bytes) o) said) i

  -- one of several buffers
  chunks_sum : (b : Bool) (id : ℕ) (cs : _) (t : Told) → t.call ≡ calls.WriteChunks id cs → t.answer ≡ answers.WriteChunks (write_chunks_answer b s id cs.items) → IsSum (told ++ t ∷ [])
  chunks_sum false id cs t call answer = none_more told t
      (λ j. ap (λ (k : Call). written_by j k t.answer) call ∙ ap (λ (o : Answer). written_by j (calls.WriteChunks id cs) o) answer) (ap (λ (k : Call). amount_by k t.answer) call ∙ ap (λ (o : Answer). amount_by (calls.WriteChunks id cs) o) answer) i
  chunks_sum true id cs t call answer = go (written_to (sending_half s id) (room s.sending) (bytes_of cs.items)) refl answer
    where
      go : (r : Result ℕ WriteError) → written_to (sending_half s id) (room s.sending) (bytes_of cs.items) ≡ r → t.answer ≡ answers.WriteChunks (chunks_of r cs.items) → IsSum (told ++ t ∷ [])
      go (Ok n) is said = one_more told t id (take n (joined cs.items)) (let small = written_below s id (room s.sending) (bytes_of cs.items) n shape few is in omega arith)
          (λ j. ap (λ (k : Call). written_by j k t.answer) call ∙ ap (λ (o : Answer). written_by j (calls.WriteChunks id cs) o) said) (ap (λ (k : Call). amount_by k t.answer) call ∙ ap (λ (o : Answer). amount_by (calls.WriteChunks id cs) o) said) i
      go (Err e) is said = none_more told t
          (λ j. ap (λ (k : Call). written_by j k t.answer) call ∙ ap (λ (o : Answer). written_by j (calls.WriteChunks id cs) o) said) (ap (λ (k : Call). amount_by k t.answer) call ∙ ap (λ (o : Answer). amount_by (calls.WriteChunks id cs) o) said) i

-- ---- the group

-- what x wrote is the sum of what it wrote on each stream
pub record Sums (x y : Party) : Type 0 where
  pub whole : IsSum x.told

module _ (B : Way) (within : (x y : Party) → B x y → Within x y) (x y : Party) (call : Call) (a : Answer) (c : Calls B x y call a) (i : Sums x y) where
  sums_call : (k : Call) → IsAnswer x.policy x.end y.given k a → IsSum (x.told ++ told_of k a x.end.closing.state ∷ [])
  sums_call (calls.Write id bytes) (inl is) = write_sums x.told x.end.streams (within y x c.takes).stays.shape (within y x c.takes).stays.few i.whole (is_open x.end.closing.state) id bytes (told_of (calls.Write id bytes) a x.end.closing.state) refl is
  sums_call (calls.Write id bytes) (inr is) = none_more x.told (told_of (calls.Write id bytes) a x.end.closing.state) (λ j. ap (λ (o : Answer). written_by j (calls.Write id bytes) o) is) (ap (λ (o : Answer). amount_by (calls.Write id bytes) o) is) i.whole
  sums_call (calls.WriteChunks id cs) (inl is) = chunks_sum x.told x.end.streams (within y x c.takes).stays.shape (within y x c.takes).stays.few i.whole (is_open x.end.closing.state) id cs (told_of (calls.WriteChunks id cs) a x.end.closing.state) refl is
  sums_call (calls.WriteChunks id cs) (inr is) = none_more x.told (told_of (calls.WriteChunks id cs) a x.end.closing.state) (λ j. ap (λ (o : Answer). written_by j (calls.WriteChunks id cs) o) is) (ap (λ (o : Answer). amount_by (calls.WriteChunks id cs) o) is) i.whole
  sums_call k is = none_more x.told (told_of k a x.end.closing.state) (λ j. refl) refl i.whole

pub sums_group : (B : Way) → ((x y : Party) → B x y → Within x y) → Group B Sums
sums_group B within = record {
  first = λ x y m there back. record { whole = sym (sum_none ids (size_in []) (λ j below. refl)) };
  writer = λ x y call a c i back. record { whole = sums_call B within x y call a c i call c.answer };
  reader = λ x y call a c there i. record { whole = i.whole };
  shows = λ x y here there b back i j. record { whole = i.whole };
}
