-- How a script is run and its lines are kept, line by line.
use Rattle.std.proofs.Common.{◌≡◌, ℕ, ◌+◌, List, [], ◌∷◌, ◌++◌, length, Option, None, refl, sym, subst, arith, append_assoc, append-nil, length-append}
use Rattle.quic_lines.specs.Language.{said}
use Rattle.quic_run_core.specs.Scripts.{Stage, first_stage, Does, script_rules}
use Rattle.quic_run_core.specs.LongLines.{refuses_long}
use Rattle.quic_lines.specs.Reading.{IsNextLine, IsOver}
use Rattle.quic_run_core.specs.Erased.{line_kept, IsErased, ErasedAll}
use Rattle.quic_run_core.specs.Outcomes.{HasRun}
use Rattle.quic_lines.proofs.Running.{Running, IsBehind, run-push, behind-none, behind-more, all_done}

-- one line more is run, and kept or left out
erased_push : (s : Stage) (lines : List (List ℕ)) (kept : List ℕ) (t : Stage) (line text : List ℕ) (u : Stage) → IsErased s lines kept t → Does (said line) t text u → IsErased s (lines ++ line ∷ []) (kept ++ line_kept text line) u
erased_push s [] kept t line text u run does =
    let at : Does (said line) s text u = subst (λ (x : Stage). Does (said line) x text u) run.1 does in
    (text, u, [], at, (refl, refl), rw run.0 (sym (append-nil (line_kept text line))))
erased_push s (l ∷ ls) kept t line text u run does =
    (run.0, run.1, run.2 ++ line_kept text line, run.3, erased_push run.1 ls run.2 t line text u run.4 does, rw run.5 (append_assoc (line_kept run.0 l) run.2 (line_kept text line)))

-- Some lines of a script were run, and this stays of them; `number` is that of the next one, and
-- `left` are the bytes behind them.
pub record Erasing (script : Option (List ℕ)) (number : ℕ) (stage : Stage) (left : Option (List ℕ)) (kept : List ℕ) : Type 0 where
  pub done : List (List ℕ)
  pub ran : HasRun done stage None None
  pub count : number ≡ length done + 1
  pub behind : IsBehind script done left
  pub erased : IsErased first_stage done kept stage

-- no line was run
pub erasing_none : (script : Option (List ℕ)) (stage : Stage) → stage ≡ first_stage → Erasing script 1 stage script []
erasing_none script stage is = record { done = []; ran = record { text = []; run = (refl, is); printed = tt }; count = refl; behind = behind-none script; erased = (refl, is) }

-- the next line was run
pub erasing_more : (script : Option (List ℕ)) (number : ℕ) (stage : Stage) (left : Option (List ℕ)) (kept line text : List ℕ) (next : Stage) (rest : Option (List ℕ)) → Erasing script number stage left kept → IsNextLine left line rest → Does (said line) stage text next
    → Erasing script (number + 1) next rest (kept ++ line_kept text line)
erasing_more script number stage left kept line text next rest e taken does = record {
  done = e.done ++ line ∷ [];
  ran = record { text = e.ran.text ++ text; run = run-push script_rules first_stage e.done e.ran.text stage line text next e.ran.run does; printed = tt };
  count = (let size : length (e.done ++ line ∷ []) ≡ length e.done + 1 = length-append e.done (line ∷ []) in let had = e.count in omega arith);
  behind = behind-more script e.done left rest line e.behind taken (λ long. refuses_long.undone line stage text next long does);
  erased = erased_push first_stage e.done kept stage line text next e.erased does;
}

-- so they were run
pub erasing_runs : (script : Option (List ℕ)) (number : ℕ) (stage : Stage) (left : Option (List ℕ)) (kept : List ℕ) → Erasing script number stage left kept → Running script_rules first_stage script None number stage left None
erasing_runs script number stage left kept e = record { done = e.done; ran = e.ran; count = e.count; behind = e.behind }

-- the script is over
pub erasing_all : (script : Option (List ℕ)) (number : ℕ) (stage : Stage) (left : Option (List ℕ)) (kept : List ℕ) → Erasing script number stage left kept → IsOver left → ErasedAll script kept
erasing_all script number stage left kept e over = (e.done, stage, e.erased, all_done script e.done left e.behind over)
