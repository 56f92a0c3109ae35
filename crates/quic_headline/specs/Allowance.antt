-- How much came to an end from where it takes its peer to be, and how much went there, since it does
-- (RFC 9000, section 8.1).
use Rattle.std.specs.Prelude.{ℕ, ◌+◌, ◌==◌, Bool, false, if◌then◌else◌, List, [], ◌∷◌, length}
use Rattle.quic_wire_core.specs.declared.stream_id.Side.{Side}
use Rattle.quic_machine.specs.declared.run.Call.{Call}
use Rattle.quic_machine.specs.declared.run.Call.TheVariants as calls
use Rattle.quic_machine.specs.Machine.{end_at, gave}
use Rattle.quic_headline.specs.Runs.{Run, Told, bytes_in_call, folded, until, given_of}
use Rattle.quic_headline.specs.Observer.{Route, Watch, Lens, watch_from, watch_told, lens_of, has_changed}

-- What counts for the path that an end has: what its observer knows, how many bytes came on it, and
-- how many went. Each datagram counts for one path at most.
pub record Allowance : Type 0 where
  pub watch : Watch
  pub came : ℕ
  pub went : ℕ

-- whether what a call hands in comes from where an end takes its peer to be
abbrev pub is_from : Route → Call → Bool
is_from route (calls.Deliver delivery) = delivery.remote == route.address
is_from route (calls.Inject injection) = injection.remote == route.address
is_from route call = false

-- the bytes of the first of these
abbrev pub first_size : List (List ℕ) → ℕ
first_size [] = 0
first_size (d ∷ ds) = length d

-- What counts behind a call: where the path changed by it, what it handed in, which came from there,
-- and nothing went yet; else what came from there, and the datagram that it gave.
abbrev pub allowance_told : Lens → Told → Allowance → Allowance
allowance_told l t a =
    let after = watch_told l t a.watch in
    let size = bytes_in_call l.peer_gave t.call t.answer in
    if has_changed a.watch after then record { watch = after; came = size; went = 0 }
    else record {
      watch = after;
      came = a.came + (if is_from a.watch.route t.call then size else 0);
      went = a.went + (if gave t.answer then first_size a.watch.left else 0);
    }

-- nothing came and nothing went before the first call
abbrev pub no_allowance : Watch → Allowance
no_allowance w = record { watch = w; came = 0; went = 0 }

-- what counts for the path of an end behind the first so many answers
abbrev pub allowance : Run → Side → ℕ → Allowance
allowance r side i = folded (allowance_told (lens_of r side)) (until r side i) (no_allowance (watch_from (end_at side r.start) (given_of r side)))

-- how many bytes were handed to an end on the path that it has behind the first so many answers
abbrev pub bytes_handed : Run → Side → ℕ → ℕ
bytes_handed r side i = (allowance r side i).came

-- how many bytes the datagrams have that it gave there
abbrev pub bytes_given : Run → Side → ℕ → ℕ
bytes_given r side i = (allowance r side i).went
