-- How the code of transport parameters answers, beside what the definitions say.
use Rattle.std.specs.Prelude.{◌≡◌, ℕ, List, Option, Result, Ok, Err}
use Rattle.quic_parameters.specs.declared.transport_parameters.error.TransportParametersError.{TransportParametersError}
use Rattle.quic_parameters.specs.declared.transport_parameters.reading.Entry.{Entry}

-- An entry, without where its value lies in memory.
abbrev pub entry_view : Entry → ℕ × List ℕ
entry_view e = (e.id, e.value.now)

-- What is met after an entry, where it is taken. A refusal ends the reading.
abbrev pub Meets : Result (Unit {0}) TransportParametersError → List (Option ℕ) → Result (List (Option ℕ)) TransportParametersError → Type 0
Meets (Ok x) met read = read ≡ Ok met
Meets (Err e) met read = read ≡ Err e
