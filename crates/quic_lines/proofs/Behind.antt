-- Lines that are run behind a text that was printed first, by the bytes that their reader gives and
-- by those that are left to read at first.
use Rattle.std.proofs.Common.{◌≡◌, ℕ, List, [], Option, Some, None, Result, Ok, Err, OnOk, IfErr, subst}
use Rattle.std.specs.Io.KnownBytes.{Appends, Keeps}
use Rattle.quic_lines.specs.declared.error.ScriptError.{ScriptError}
use Rattle.quic_lines.specs.declared.error.ScriptError.TheVariants.{BadCommand, ReadFault, WriteFault, OutOfMemory}
use Rattle.quic_lines.specs.LineByLine.{LineRules, HasRun, RanAll, Stopped}
use Rattle.quic_lines.proofs.Running.{appends-more}

module _ {S : Type 0} (rules : LineRules S) where
  -- what was run stands behind a first text
  has_run : (from : S) (before : List ℕ) (done : List (List ℕ)) (stage : S) (old mid new : Option (List ℕ)) → Appends old mid before → HasRun rules from [] done stage mid new → HasRun rules from before done stage old new
  has_run from before done stage old mid new first ran = record {
    text = ran.text;
    run = ran.run;
    printed = appends-more old mid new before ran.text first ran.printed;
  }

  -- all lines
  ran_from : (from : S) (before : List ℕ) (script left old mid new : Option (List ℕ)) (r : Result (Unit {0}) ScriptError) → Keeps script left → Appends old mid before → OnOk r (RanAll rules from [] left mid new) → OnOk r (RanAll rules from before script old new)
  ran_from from before script left old mid new (Err e) same first ran = tt
  ran_from from before None left old mid new (Ok x) same first ran = (ran.0, ran.1, has_run from before ran.0 ran.1 old mid new first ran.2, tt)
  ran_from from before (Some bytes) None old mid new (Ok x) same first ran = absurd same
  ran_from from before (Some bytes) (Some rest) old mid new (Ok x) same first ran =
      subst (λ (b : List ℕ). RanAll rules from before (Some b) old new) same (ran.0, ran.1, has_run from before ran.0 ran.1 old mid new first ran.2, ran.3)

  -- lines of which the first ones were run
  stopped_at : (from : S) (before : List ℕ) (left old mid new : Option (List ℕ)) (e : ScriptError) → Appends old mid before → Stopped rules e from [] left mid new → Stopped rules e from before left old new
  stopped_at from before left old mid new (BadCommand number) first s = (s.0, s.1, s.2, has_run from before s.0 s.1 old mid new first s.3, s.4, s.5, s.6)
  stopped_at from before left old mid new ReadFault first s = (s.0, s.1, has_run from before s.0 s.1 old mid new first s.2, s.3)
  stopped_at from before left old mid new WriteFault first s = tt
  stopped_at from before left old mid new OutOfMemory first s = (s.0, s.1, has_run from before s.0 s.1 old mid new first s.2, s.3)

  -- of lines whose bytes aren't known less is said
  unknown : (from : S) (before : List ℕ) (left old new : Option (List ℕ)) (e : ScriptError) → Stopped rules e from before left old new → Stopped rules e from before None old new
  unknown from before left old new (BadCommand number) s = (s.0, s.1, s.2, s.3, s.4, s.5, tt)
  unknown from before left old new ReadFault s = (s.0, s.1, s.2, tt)
  unknown from before left old new WriteFault s = tt
  unknown from before left old new OutOfMemory s = (s.0, s.1, s.2, tt)

  -- and lines that stopped
  stopped_from : (from : S) (before : List ℕ) (script left old mid new : Option (List ℕ)) (r : Result (Unit {0}) ScriptError) → Keeps script left → Appends old mid before → IfErr r (λ e. Stopped rules e from [] left mid new) → IfErr r (λ e. Stopped rules e from before script old new)
  stopped_from from before script left old mid new (Ok x) same first s = tt
  stopped_from from before None left old mid new (Err e) same first s = unknown from before left old new e (stopped_at from before left old mid new e first s)
  stopped_from from before (Some bytes) None old mid new (Err e) same first s = absurd same
  stopped_from from before (Some bytes) (Some rest) old mid new (Err e) same first s =
      subst (λ (b : List ℕ). Stopped rules e from before (Some b) old new) same (stopped_at from before (Some rest) old mid new e first s)

  -- all lines, from this stage on
  pub ran_behind : (begun from : S) (before : List ℕ) (script left old mid new : Option (List ℕ)) (r : Result (Unit {0}) ScriptError) → begun ≡ from → Keeps script left → Appends old mid before → OnOk r (RanAll rules begun [] left mid new) → OnOk r (RanAll rules from before script old new)
  ran_behind begun from before script left old mid new r is same first ran =
      ran_from from before script left old mid new r same first (subst (λ (s : S). OnOk r (RanAll rules s [] left mid new)) is ran)

  -- and lines that stopped
  pub stopped_behind : (begun from : S) (before : List ℕ) (script left old mid new : Option (List ℕ)) (r : Result (Unit {0}) ScriptError) → begun ≡ from → Keeps script left → Appends old mid before → IfErr r (λ e. Stopped rules e begun [] left mid new) → IfErr r (λ e. Stopped rules e from before script old new)
  stopped_behind begun from before script left old mid new r is same first stopped =
      stopped_from from before script left old mid new r same first (subst (λ (s : S). IfErr r (λ e. Stopped rules e s [] left mid new)) is stopped)
