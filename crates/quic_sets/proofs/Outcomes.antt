-- Answers that may be errors.
use Rattle.std.specs.Result.{OnErr}
use Rattle.std.specs.declared.result.Result.{Result}
use Rattle.std.specs.declared.result.Result.TheVariants.{Ok, Err}

-- what is true is true of an error
pub of_error : {A E P : Type 0} (r : Result A E) → P → OnErr r P
of_error (Ok x) p = tt
of_error (Err e) p = p
