-- Where memory beside the ends' own runs out, the next event takes some.
use Rattle.std.proofs.Common.{◌≡◌, ◌<◌, ◌⊎◌, ℕ, false, List, Option, Some, None, Result, Ok, Err, OnOk, OnErr, is_err, inl, inr, refl, sym, subst, arith}
use Rattle.std.specs.Prelude.{IsSome, slice_get}
use Rattle.quic_wire_core.specs.declared.stream_id.Side.{Side}
use Rattle.quic_wire_core.specs.StreamId.{other_side}
use Rattle.quic_machine.specs.declared.run.Call.{Call}
use Rattle.quic_machine.specs.declared.run.Call.TheVariants as calls
use Rattle.quic_machine.specs.declared.run.RunEvent.{RunEvent}
use Rattle.quic_machine.specs.Lacking.{TakesOfItsOwn}
use Rattle.quic_machine.specs.Machine.{World, end_at, given_by}
use Rattle.quic_connection.specs.Rooms.{told_len, len_of, handed_len}
use Rattle.quic_connection.specs.Stopping.{TakesMemory, for_call, for_view}

-- a fact of each refusal
pub on_err : {A E : Type 0} {X : Type 0} (r : Result A E) → X → OnErr r X
on_err (Ok a) x = tt
on_err (Err e) x = x

-- what is known where a call serves
pub served : {A E P : Type 0} (r : Result A E) → is_err r ≡ false → OnOk r P → P
served (Ok a) serves p = p
served (Err e) serves p = absurd cc

-- a call takes memory of its own that delivers a byte
takes_what_comes : (theirs : List (List ℕ)) (call : Call) → 0 < handed_len theirs call → TakesOfItsOwn theirs call
takes_what_comes theirs (calls.Read read) some = tt
takes_what_comes theirs (calls.Send message makes_room) some = tt
takes_what_comes theirs (calls.Close close) some = tt
takes_what_comes theirs (calls.Poll now) some = tt
takes_what_comes theirs (calls.Inject injection) some = tt
takes_what_comes theirs (calls.Deliver delivery) some = is_there (slice_get theirs delivery.index) some
  where
    is_there : (o : Option (List ℕ)) → 0 < len_of o → IsSome o
    is_there None few = absurd (omega (arith, few))
    is_there (Some d) few = refl
takes_what_comes theirs call some = absurd (omega (arith, some))

-- an event takes memory where room behind it lacks at an end
pub takes_memory : (side : Side) (w : World) (event : RunEvent) → (0 < told_len (end_at side w).closing.reason) ⊎ ((event.side ≡ side) × (0 < handed_len (given_by (other_side side) w) event.call)) → TakesMemory w event
takes_memory side w event (inl some) = for_view side some
takes_memory side w event (inr came) =
    for_call (takes_what_comes (given_by (other_side event.side) w) event.call (subst (λ (at : Side). 0 < handed_len (given_by (other_side at) w) event.call) (sym came.0) came.1))
