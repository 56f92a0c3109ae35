-- The end of a stream is told only where it ended and all of it was read: at each `next` of a run
-- that told one.
use Rattle.std.proofs.Common.{◌≡◌, ℕ, Bool, false, List, [], ◌∷◌, ◌++◌, None, Ok, refl, sym, ap, ◌∙◌, subst, inl, inr}
use Rattle.std.specs.Prelude.{◌==◌, if◌then◌else◌}
use Rattle.std.proofs.lemmas.Bool.{eqb-true, cases_Bool}
use Rattle.quic_wire.specs.Value.{StreamValue}
use Rattle.quic_assembler.specs.declared.assembler.Chunk.{Chunk}
use Rattle.quic_streams_state.specs.Reading.{told_bytes, told_end, after_read_begun}
use Rattle.quic_streams_laws.specs.Written.{Wrote, Grows}
use Rattle.quic_streams_laws.specs.Reads.{Reads}
use Rattle.quic_streams_laws.specs.Content.{HoldsRead, TellsRight}
use Rattle.quic_streams_laws.specs.ContentLaws.{tells_grows}
use Rattle.quic_streams_laws.specs.Kept.{HoldsTaken}
use Rattle.quic_machine.specs.declared.run.Call.{Call}
use Rattle.quic_machine.specs.declared.run.Call.TheVariants as calls
use Rattle.quic_machine.specs.declared.run.Answer.{Answer}
use Rattle.quic_machine.specs.declared.run.Answer.TheVariants as answers
use Rattle.quic_machine.specs.declared.run.ReadCall.{ReadCall}
use Rattle.quic_machine.specs.declared.answers.State.{State}
use Rattle.quic_machine.specs.Policy.{Policy}
use Rattle.quic_machine.specs.End.{End}
use Rattle.quic_machine.specs.StreamCalls.{IsRead}
use Rattle.quic_machine.specs.Machine.{IsAnswer}
use Rattle.quic_headline.specs.Runs as runs
use Rattle.quic_headline.specs.Runs.{Next, chunks_of, nexts, nexts_by}
use Rattle.quic_headline.proofs.Places.Told.{nexts_more, chunks_append}
use Rattle.quic_headline.proofs.Places.Parties.{told_of}
use Rattle.quic_headline.proofs.Halves.Ghosts.{read}
use Rattle.quic_headline.proofs.Halves.Reading.{AtNext, reads_of, read_nexts, begun_reads, nexts_here, begun_here, begins, next_on, at_next}

-- where the end of a stream was told, it had ended, and the chunks of the nexts before have all of
-- it
abbrev pub EndsRight : (ℕ → Wrote) → List runs.Told → Type 0
EndsRight done told = (id : ℕ) (front behind : List Next) → nexts id told ≡ front ++ Ok None ∷ behind → TellsRight (done id) (reads_of (chunks_of front) false) told_end

-- ---- as more is done

pub ends_grow : (done more : ℕ → Wrote) (told : List runs.Told) → ((id : ℕ) → Grows (done id) (more id)) → EndsRight done told → EndsRight more told
ends_grow done more told grows i id front behind is = tells_grows (done id) (more id) (reads_of (chunks_of front) false) told_end (grows id) (i id front behind is)

-- ---- one call more

-- an element of two lists, one behind another, stands in the first or in the second
data Stands {X : Type 0} (xs ys front : List X) (x : X) (behind : List X) : Type 0 where
  in_first : (rest : List X) → xs ≡ front ++ x ∷ rest → Stands xs ys front x behind
  in_second : (before : List X) → front ≡ xs ++ before → ys ≡ before ++ x ∷ behind → Stands xs ys front x behind

tail_of : {X : Type 0} (x y : X) (xs ys : List X) → x ∷ xs ≡ y ∷ ys → (x ≡ y) × (xs ≡ ys)
tail_of x y xs ys e = (cc, cc)

stands : {X : Type 0} (xs ys front : List X) (x : X) (behind : List X) → xs ++ ys ≡ front ++ x ∷ behind → Stands xs ys front x behind
stands [] ys front x behind e = in_second front refl e
stands (a ∷ xs) ys [] x behind e = in_first xs (ap (λ b. b ∷ xs) (tail_of a x (xs ++ ys) behind e).0)
stands {X} (a ∷ xs) ys (b ∷ front) x behind e = go (stands xs ys front x behind (tail_of a b (xs ++ ys) (front ++ x ∷ behind) e).1)
  where
    same : a ≡ b
    same = (tail_of a b (xs ++ ys) (front ++ x ∷ behind) e).0

    go : Stands xs ys front x behind → Stands (a ∷ xs) ys (b ∷ front) x behind
    go (in_first rest is) = in_first rest (ap (λ (zs : List X). a ∷ zs) is ∙ ap (λ (c : X). c ∷ (front ++ x ∷ rest)) same)
    go (in_second before is other) = in_second before (ap (λ (zs : List X). b ∷ zs) is ∙ ap (λ (c : X). c ∷ (xs ++ before)) (sym same)) other

module _ (done : ℕ → Wrote) (taken : StreamValue → Type 0) (told : List runs.Told) (state : State) (e : End) (i : HoldsRead done (read told) e.streams) (k : HoldsTaken taken e.streams) where
  -- what a read told: its nexts before stand behind those of the stream
  pub told_at : (rd : ReadCall) (front behind : List Next) (answer : Next) → IsRead e.streams rd.id rd.ordered rd.nexts.items (answers.Read (Ok (front ++ answer ∷ behind))) → AtNext done taken rd.id (begun_reads rd.ordered rd.id (read told)) front answer
  told_at rd front behind answer is = at_next done taken rd.id told_bytes (after_read_begun e.streams rd.id rd.ordered) (begun_reads rd.ordered rd.id (read told)) rd.nexts.items front answer behind is.1 (begins done taken rd.id e.streams rd.ordered (read told) is.0 i k)

  -- the chunks that were read by then
  pub chunks_at : (rd : ReadCall) (front : List Next) → (read_nexts front rd.id (begun_reads rd.ordered rd.id (read told)) rd.id).chunks ≡ chunks_of (nexts rd.id told ++ front)
  chunks_at rd front =
      ap (λ (x : Reads). x.chunks) (nexts_here front rd.id (begun_reads rd.ordered rd.id (read told)) ∙ ap (λ (x : Reads). reads_of (x.chunks ++ chunks_of front) x.unordered) (begun_here rd.ordered rd.id (read told)))
      ∙ sym (chunks_append (nexts rd.id told) front)

  -- a read tells the end so
  read_ends : (rd : ReadCall) (front behind : List Next) → IsRead e.streams rd.id rd.ordered rd.nexts.items (answers.Read (Ok (front ++ Ok None ∷ behind))) → TellsRight (done rd.id) (reads_of (chunks_of (nexts rd.id told ++ front)) false) told_end
  read_ends rd front behind is =
      let at = told_at rd front behind (Ok None) is in
      let after = next_on done taken rd.id at.told at.state (read_nexts front rd.id (begun_reads rd.ordered rd.id (read told))) at.most (Ok None) at.is at.on in
      subst (λ (cs : List Chunk). TellsRight (done rd.id) (reads_of cs false) told_end) (chunks_at rd front) after.right

  ends_more : (p : Policy) (theirs : List (List ℕ)) (call : Call) (a : Answer) → IsAnswer p e theirs call a → (id : ℕ) (front behind : List Next) → nexts_by id call a ≡ front ++ Ok None ∷ behind → TellsRight (done id) (reads_of (chunks_of (nexts id told ++ front)) false) told_end
  ends_more p theirs (calls.Read rd) (answers.Read (Ok said)) is id front behind says = elim (cases_Bool (rd.id == id)) [
    | inl same ↦
        let whole : said ≡ front ++ Ok None ∷ behind = sym (ap (λ (b : Bool). if b then said else []) same) ∙ says in
        subst (λ (q : ℕ). TellsRight (done q) (reads_of (chunks_of (nexts q told ++ front)) false) told_end) (eqb-true rd.id id same)
        (read_ends rd front behind (subst (λ (xs : List Next). IsRead e.streams rd.id rd.ordered rd.nexts.items (answers.Read (Ok xs))) whole is))
    | inr other ↦ absurd (nothing front (sym (ap (λ (b : Bool). if b then said else []) other) ∙ says))
  ]
    where
      nothing : (front : List Next) → [] ≡ front ++ Ok None ∷ behind → ⊥
      nothing [] none = cc
      nothing (x ∷ front) none = cc
  ends_more p theirs call a is id front behind says = absurd (nothing front says)
    where
      nothing : (front : List Next) → [] ≡ front ++ Ok None ∷ behind → ⊥
      nothing [] none = cc
      nothing (x ∷ front) none = cc

  -- so it is behind any call
  pub ends_call : (p : Policy) (theirs : List (List ℕ)) (call : Call) (a : Answer) → IsAnswer p e theirs call a → EndsRight done told → EndsRight done (told ++ told_of call a state ∷ [])
  ends_call p theirs call a is before id front behind says = go (stands (nexts id told) (nexts_by id call a) front (Ok None) behind (sym (nexts_more id told (told_of call a state)) ∙ says))
    where
      go : Stands (nexts id told) (nexts_by id call a) front (Ok None) behind → TellsRight (done id) (reads_of (chunks_of front) false) told_end
      go (in_first rest here) = before id front rest here
      go (in_second before_it is_front here) = subst (λ (xs : List Next). TellsRight (done id) (reads_of (chunks_of xs) false) told_end) (sym is_front) (ends_more p theirs call a is id before_it behind here)
