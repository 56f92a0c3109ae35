-- How lines are run, one by one.
use Rattle.std.proofs.Common.{◌≡◌, ◌⊎◌, ℕ, ◌+◌, ◌<◌, List, [], ◌∷◌, ◌++◌, length, Option, Some, None, refl, sym, subst, ◌∙◌, inl, inr, arith, append_assoc, append-nil, length-append}
use Rattle.std.specs.Prelude.{IfSome}
use Rattle.std.specs.Io.KnownBytes.{Appends}
use Rattle.quic_lines.specs.declared.error.ScriptError.{ScriptError}
use Rattle.quic_lines.specs.declared.script.LineError.{LineError}
use Rattle.quic_lines.specs.declared.script.LineError.TheVariants.{BadCommand, OutOfMemory}
use Rattle.quic_lines.specs.Refusals.{script_error}
use Rattle.quic_lines.specs.Reading.{IsNextLine, IsOver, BeginsTooLong, IsUnread}
use Rattle.quic_lines.specs.LineByLine.{lines_of, Begins, LineRules, RefusesLong, IsRun, HasRun, RanAll, RanSome, StopsAt, Stopped}

-- ---- what a writer holds

-- nothing is appended
pub appends-nil : (known : Option (List ℕ)) → Appends known known []
appends-nil None = tt
appends-nil (Some xs) = sym (append-nil xs)

-- a text behind another
pub appends-more : (old mid new : Option (List ℕ)) (text more : List ℕ) → Appends old mid text → Appends mid new more → Appends old new (text ++ more)
appends-more None mid new text more a b = tt
appends-more (Some xs) None new text more a b = absurd a
appends-more (Some xs) (Some ys) None text more a b = absurd b
appends-more (Some xs) (Some ys) (Some zs) text more a b = rw (b, a) (append_assoc xs text more)

-- ---- lines that were taken

-- these lines of a script were taken, and these bytes are left
abbrev pub IsBehind : Option (List ℕ) → List (List ℕ) → Option (List ℕ) → Type 0
IsBehind None done left = Unit {0}
IsBehind (Some bytes) done None = ⊥
IsBehind (Some bytes) done (Some rest) = lines_of bytes ≡ done ++ lines_of rest

-- all is left
pub behind-none : (script : Option (List ℕ)) → IsBehind script [] script
behind-none None = tt
behind-none (Some bytes) = refl

-- the next line was taken, which isn't too long
pub behind-more : (script : Option (List ℕ)) (done : List (List ℕ)) (left next : Option (List ℕ)) (line : List ℕ) → IsBehind script done left → IsNextLine left line next → (1048576 < length line → ⊥) → IsBehind script (done ++ line ∷ []) next
behind-more None done left next line b n short = tt
behind-more (Some bytes) done None next line b n short = absurd b
behind-more (Some bytes) done (Some rest) None line b n short = absurd n
behind-more (Some bytes) done (Some rest) (Some more) line b n short =
    elim n [
      | inl e ↦ b ∙ rw e (sym (append_assoc done (line ∷ []) (lines_of more)))
      | inr long ↦ absurd (short long.0)
    ]

-- the lines that were run are the first ones
pub begins_done : (script : Option (List ℕ)) (done : List (List ℕ)) (left : Option (List ℕ)) → IsBehind script done left → Begins script done
begins_done None done left b = tt
begins_done (Some bytes) done None b = absurd b
begins_done (Some bytes) done (Some rest) b = (lines_of rest, b)

-- no line is left
pub all_done : (script : Option (List ℕ)) (done : List (List ℕ)) (left : Option (List ℕ)) → IsBehind script done left → IsOver left → IfSome script (λ bytes. lines_of bytes ≡ done)
all_done None done left b over = tt
all_done (Some bytes) done None b over = absurd b
all_done (Some bytes) done (Some rest) b over = b ∙ rw over (append-nil done)

-- ---- lines that were run

module _ {S : Type 0} (rules : LineRules S) where
  -- one line more is run
  pub run-push : (s : S) (lines : List (List ℕ)) (text : List ℕ) (t : S) (line more : List ℕ) (u : S) → IsRun rules s lines text t → rules.Does line t more u → IsRun rules s (lines ++ line ∷ []) (text ++ more) u
  run-push s [] text t line more u run does =
      let at : rules.Does line s more u = subst (λ (x : S). rules.Does line x more u) run.1 does in
      (more, u, [], at, (refl, refl), rw run.0 (sym (append-nil more)))
  run-push s (l ∷ ls) text t line more u run does =
      (run.0, run.1, run.2 ++ more, run.3, run-push run.1 ls run.2 t line more u run.4 does, rw run.5 (append_assoc run.0 run.2 more))

  -- Some lines of a script were run; `number` is that of the next one, and `left` are the bytes
  -- behind them.
  pub record Running (from : S) (script old : Option (List ℕ)) (number : ℕ) (stage : S) (left new : Option (List ℕ)) : Type 0 where
    pub done : List (List ℕ)
    pub ran : HasRun rules from [] done stage old new
    pub count : number ≡ length done + 1
    pub behind : IsBehind script done left

  -- no line was run
  pub running-none : (script old : Option (List ℕ)) (stage : S) → Running stage script old 1 stage script old
  running-none script old stage = record {
    done = [];
    ran = record { text = []; run = (refl, refl); printed = appends-nil old };
    count = refl;
    behind = behind-none script;
  }

  -- the script stops somewhere
  pub running-some : (from : S) (script old : Option (List ℕ)) (number : ℕ) (stage : S) (left new : Option (List ℕ)) → Running from script old number stage left new → RanSome rules from [] script old new
  running-some from script old number stage left new r = (r.done, stage, r.ran, begins_done script r.done left r.behind)

  -- the script is over
  pub running-all : (from : S) (script old : Option (List ℕ)) (number : ℕ) (stage : S) (left new : Option (List ℕ)) → Running from script old number stage left new → IsOver left → RanAll rules from [] script old new
  running-all from script old number stage left new r over = (r.done, stage, r.ran, all_done script r.done left r.behind over)

  -- a fault of the reader, or want of memory, stops the script somewhere
  pub stopped_fault : (e : ScriptError) (from : S) (script old new : Option (List ℕ)) → IsUnread e → RanSome rules from [] script old new → Stopped rules e from [] script old new
  stopped_fault e from script old new fault some =
      elim fault [
        | inl is ↦ rw is some
        | inr is ↦ rw is some
      ]

-- ---- where no line that is too long can be run

module _ {S : Type 0} (rules : LineRules S) (long : RefusesLong rules) where
  -- the next line was run, and its answer printed
  pub running-more : (from : S) (script old : Option (List ℕ)) (number : ℕ) (stage : S) (left new : Option (List ℕ)) (line text : List ℕ) (next : S) (rest written : Option (List ℕ)) → Running rules from script old number stage left new → IsNextLine left line rest → rules.Does line stage text next → Appends new written text
      → Running rules from script old (number + 1) next rest written
  running-more from script old number stage left new line text next rest written r taken does printed = record {
    done = r.done ++ line ∷ [];
    ran = record {
      text = r.ran.text ++ text;
      run = run-push rules from r.done r.ran.text stage line text next r.ran.run does;
      printed = appends-more old new written r.ran.text text r.ran.printed printed;
    };
    count = (let size : length (r.done ++ line ∷ []) ≡ length r.done + 1 = length-append r.done (line ∷ []) in let had = r.count in omega arith);
    behind = behind-more script r.done left rest line r.behind taken (λ size. long.undone line stage text next size does);
  }

  -- a line of the script that can't be run, behind these
  abbrev Bad : Option (List ℕ) → List (List ℕ) → S → Type 0
  Bad script done stage = (bad : List ℕ) × rules.IsRefused bad stage × Begins script (done ++ bad ∷ [])

  -- a long line can't be run
  long_bad : (bytes : List ℕ) (done lines : List (List ℕ)) (stage : S) → lines_of bytes ≡ done ++ lines → BeginsTooLong lines → Bad (Some bytes) done stage
  long_bad bytes done [] stage is size = absurd size
  long_bad bytes done (line ∷ lines) stage is size =
      (line, long.refused line stage size, (lines, is ∙ sym (append_assoc done (line ∷ []) lines)))

  -- the line that was taken can't be run
  bad_line : (script : Option (List ℕ)) (done : List (List ℕ)) (left next : Option (List ℕ)) (line : List ℕ) (stage : S) → IsBehind script done left → IsNextLine left line next → rules.IsRefused line stage → Bad script done stage
  bad_line None done left next line stage b n refused = (line, refused, tt)
  bad_line (Some bytes) done None next line stage b n refused = absurd b
  bad_line (Some bytes) done (Some rest) None line stage b n refused = absurd n
  bad_line (Some bytes) done (Some rest) (Some more) line stage b n refused =
      elim n [
        | inl e ↦ (line, refused, (lines_of more, b ∙ rw e (sym (append_assoc done (line ∷ []) (lines_of more)))))
        | inr size ↦ long_bad bytes done (lines_of rest) stage b size.1
      ]

  -- the script stops at a line that can't be run
  running-bad : (from : S) (script old : Option (List ℕ)) (number : ℕ) (stage : S) (left new : Option (List ℕ)) (line : List ℕ) (rest : Option (List ℕ)) → Running rules from script old number stage left new → IsNextLine left line rest → rules.IsRefused line stage → StopsAt rules number from [] script old new
  running-bad from script old number stage left new line rest r taken refused =
      let bad = bad_line script r.done left rest line stage r.behind taken refused in
      (r.done, stage, bad.0, r.ran, bad.1, r.count, bad.2)

  -- a line stops the script that can't be run, or at which memory lacked
  pub running-refused : (from : S) (script old : Option (List ℕ)) (number : ℕ) (stage : S) (left new : Option (List ℕ)) (line : List ℕ) (rest : Option (List ℕ)) (e : LineError) → Running rules from script old number stage left new → IsNextLine left line rest → (e ≡ OutOfMemory) ⊎ ((e ≡ BadCommand) × rules.IsRefused line stage) → Stopped rules (script_error number e) from [] script old new
  running-refused from script old number stage left new line rest e r taken or = elim or [
    | inl memory ↦ rw memory (running-some rules from script old number stage left new r)
    | inr bad ↦ rw bad.0 (running-bad from script old number stage left new line rest r taken bad.1)
  ]
