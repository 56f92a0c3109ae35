-- A write of several buffers says how many of them lie within the bytes that it took: at each place
-- of an honest run.
use Rattle.std.proofs.Common.{◌≡◌, ℕ, suc, ◌+◌, ◌-◌, ◌≤◌, Bool, true, false, List, [], ◌∷◌, length, take, Result, Ok, Err, inl, inr, refl, sym, subst, arith, ◌⊎◌}
use Rattle.std.specs.Prelude.{nat_le, if◌then◌else◌}
use Rattle.std.proofs.lemmas.Bool.{leb-true, leb-false}
use Rattle.std.proofs.lemmas.List.{length-append}
use Rattle.quic_send_buffer.specs.Source.{bytes_of}
use Rattle.quic_streams_parts.specs.declared.answers.WriteError.{WriteError}
use Rattle.quic_streams_parts.specs.declared.answers.WriteError.TheVariants as write_errors
use Rattle.quic_streams_parts.specs.declared.answers.Written.{Written}
use Rattle.quic_streams_state.specs.Writing.{write_answer, used_up, chunks_of}
use Rattle.quic_machine.specs.declared.run.Call.TheVariants as calls
use Rattle.quic_machine.specs.declared.run.Answer.TheVariants as answers
use Rattle.quic_machine.specs.Calls.{is_open}
use Rattle.quic_machine.specs.End.{End}
use Rattle.quic_machine.specs.Machine.{World, end_at}
use Rattle.quic_headline.specs.Runs.{Run, joined}
use Rattle.quic_headline.specs.Headline.{IsHonest, IsRun}
use Rattle.quic_headline.specs.Buffers.{LieWithin, BuffersAreCounted}
use Rattle.quic_headline.proofs.Places.Placed.{Placed, placed, answered}
use Rattle.quic_headline.proofs.Places.Everything as everything
use Rattle.quic_headline.proofs.Places.Theorems.{ready}
use Rattle.quic_headline.proofs.Halves.Ready.{Ready}

-- a buffer that lies within them, before others
one_more : (n k : ℕ) (c : List ℕ) (cs : List (List ℕ)) → length c ≤ n → LieWithin (n - length c) cs k → LieWithin n (c ∷ cs) (suc k)
one_more n k c cs fits rest = record {
  few = (let few = rest.few in omega (arith, few));
  within = (let all = length-append c (joined (take k cs)) in let within = rest.within in omega (arith, all, within, fits));
  no_more = λ below. (
      let all = length-append c (joined (take (suc k) cs)) in
      let more = rest.no_more (omega (arith, below)) in
      omega (arith, all, more, fits));
}

lie_within : (n : ℕ) (cs : List (List ℕ)) → LieWithin n cs (used_up n cs)
lie_within n [] = record { few = omega arith; within = omega arith; no_more = λ below. absurd (omega (arith, below)) }
lie_within n (c ∷ cs) = go (nat_le (length c) n) refl (lie_within (n - length c) cs)
  where
    next : 1 + used_up (n - length c) cs ≡ suc (used_up (n - length c) cs)
    next = omega arith

    go : (b : Bool) → nat_le (length c) n ≡ b → LieWithin (n - length c) cs (used_up (n - length c) cs) → LieWithin n (c ∷ cs) (if b then 1 + used_up (n - length c) cs else 0)
    go true is rest = subst (λ (k : ℕ). LieWithin n (c ∷ cs) k) (sym next) (one_more n (used_up (n - length c) cs) c cs (leb-true (length c) n is) rest)
    go false is rest = (
        let longer = leb-false (length c) n is in
        let all = length-append c (joined (take 0 cs)) in
        record { few = omega arith; within = omega arith; no_more = λ below. omega (arith, all, longer) })

pub buffers_are_counted : (r : Run) (end : World) → IsHonest r → IsRun r end → BuffersAreCounted r
buffers_are_counted r end honest run side i id buffers w served at = by_answer (answered r p.world end i side (calls.WriteChunks id buffers) (answers.WriteChunks (Ok w)) p.goes_on at)
  where
    p : Placed (everything.All Ready ready) r end side i
    p = placed (everything.All Ready ready) (everything.all Ready ready) r end honest run side i served

    e : End
    e = end_at side p.world

    said : Result ℕ WriteError
    said = write_answer (is_open e.closing.state) e.streams id (bytes_of buffers.items)

    by_result : (o : Result ℕ WriteError) → answers.WriteChunks (Ok w) ≡ answers.WriteChunks (chunks_of o buffers.items) → LieWithin w.bytes buffers.items w.chunks
    by_result (Ok n) is = let same : w ≡ record { bytes = n; chunks = used_up n buffers.items } = cc in subst (λ (v : Written). LieWithin v.bytes buffers.items v.chunks) (sym same) (lie_within n buffers.items)
    by_result (Err error) is = cc

    by_answer : (answers.WriteChunks (Ok w) ≡ answers.WriteChunks (chunks_of said buffers.items)) ⊎ (answers.WriteChunks (Ok w) ≡ answers.WriteChunks (Err write_errors.Memory)) → LieWithin w.bytes buffers.items w.chunks
    by_answer (inl is) = by_result said is
    by_answer (inr is) = cc
