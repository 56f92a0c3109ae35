-- Which id of its peer an end uses, and which is next (RFC 9000, section 5.1.2), read off the run's
-- lists.
use Rattle.std.specs.Prelude.{ℕ, suc, ◌≡◌, ◌↔◌, Bool, true, false, nat_lt, min, if◌then◌else◌, List, [], ◌∷◌, ◌++◌, Option, Some, None, unwrap_or, Ok}
use Rattle.quic_wire_core.specs.declared.stream_id.Side.{Side}
use Rattle.quic_wire.specs.Value.{FrameValue, new_connection_id}
use Rattle.quic_machine.specs.declared.answers.State.{State}
use Rattle.quic_machine.specs.declared.answers.State.TheVariants as states
use Rattle.quic_machine.specs.declared.run.Answer.{Answer}
use Rattle.quic_machine.specs.declared.run.Answer.TheVariants as answers
use Rattle.quic_machine.specs.Machine.{World, end_at}
use Rattle.quic_headline.specs.Runs.{Run, Told, Packet, AreServed, LeadsTo, folded, until, given_of}
use Rattle.quic_headline.specs.Observer.{Watch, Lens, watch_from, watch_told, lens_of, has_changed, took, generation_at, path_changes}

-- the numbers of the ids that frames brought
abbrev pub brought_by : List FrameValue → List ℕ
brought_by [] = []
brought_by (new_connection_id f ∷ fs) = f.sequence ∷ brought_by fs
brought_by (f ∷ fs) = brought_by fs

-- and packets
abbrev pub brought : List Packet → List ℕ
brought [] = []
brought (p ∷ ps) = brought_by p.frames ++ brought ps

-- a number, or the lesser of it and another
abbrev pub lesser_of : ℕ → Option ℕ → ℕ
lesser_of n None = n
lesser_of n (Some m) = min n m

-- the least of numbers above one, if there is one
abbrev pub next_of : ℕ → List ℕ → Option ℕ
next_of n [] = None
next_of n (m ∷ ms) = if nat_lt n m then Some (lesser_of m (next_of n ms)) else next_of n ms

-- what an observer knows of an end, and the number of the peer's id that it uses
pub record Using : Type 0 where
  pub watch : Watch
  pub number : ℕ

-- the next number behind one among those that packets brought, or the same where there is none
abbrev pub next_in : List Packet → ℕ → ℕ
next_in packets number = unwrap_or (next_of number (brought packets)) number

-- the id in use changes where the application asked an open end for the next one and wasn't
-- refused. Honest peers ask for none to be retired. Another end isn't looked at: it may have taken
-- up an id from a packet that it refused
abbrev pub used_behind : Answer → State → List Packet → ℕ → ℕ
used_behind (answers.UseNextId (Ok done)) states.Open packets number = next_in packets number
used_behind a state packets number = number

-- and where the path changes, unless the id stays then
abbrev pub used_on : Bool → Bool → List Packet → ℕ → ℕ
used_on true false packets number = next_in packets number
used_on changed stays packets number = number

-- one call more, where it is known of each path, by its generation, whether the id stayed as the
-- path came
abbrev pub using_told : Lens → (ℕ → Bool) → Told → Using → Using
using_told l stays t u =
    let after = watch_told l t u.watch in
    record { watch = after; number = used_on (has_changed u.watch after) (stays after.route.generation) after.intake.took (used_behind t.answer t.state after.intake.took u.number) }

-- what is known of an end and its peer's id behind the first so many answers
abbrev pub using : Run → (ℕ → Bool) → Side → ℕ → Using
using r stays side i = folded (using_told (lens_of r side) stays) (until r side i) (record { watch = watch_from (end_at side r.start) (given_of r side); number = 0 })

-- the number of the peer's id that an end uses behind the first so many answers, or used last while
-- it was open
abbrev pub in_use : Run → (ℕ → Bool) → Side → ℕ → ℕ
in_use r stays side i = (using r stays side i).number

-- the number of the next id, if an open end took one
abbrev pub next_id : Run → (ℕ → Bool) → Side → ℕ → Option ℕ
next_id r stays side i = next_of (in_use r stays side i) (brought (took r side i))

-- So it is known of an end: wherever the run leads before and behind a call by which its path
-- changes, the number of the id that the end uses is the same exactly where the id is taken to stay.
-- No list shows it: the id stays where too many retirements would wait, and what is lost waits again.
abbrev pub TellsStays : Run → Side → (ℕ → Bool) → Type 0
TellsStays r side stays = (i : ℕ) (w v : World) → AreServed r (suc i) → LeadsTo r i w → LeadsTo r (suc i) v → path_changes r side i ≡ true
    → (stays (generation_at r side (suc i)) ≡ true) ↔ ((end_at side v).ids.peer.active ≡ (end_at side w).ids.peer.active)
