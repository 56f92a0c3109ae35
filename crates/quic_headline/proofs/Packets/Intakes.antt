-- One call more, and what came to an end by it.
use Rattle.std.proofs.Common.{◌≡◌, ℕ, ◌+◌, Bool, true, false, List, [], ◌∷◌, ◌++◌, Option, Some, None, inr, refl, sym, subst, arith}
use Rattle.std.specs.Prelude.{if◌then◌else◌}
use Rattle.quic_packet.specs.Datagram.{Opening}
use Rattle.quic_machine.specs.declared.answers.State.{State}
use Rattle.quic_machine.specs.declared.answers.State.TheVariants as states
use Rattle.quic_machine.specs.declared.run.Call.{Call}
use Rattle.quic_machine.specs.declared.run.Call.TheVariants as calls
use Rattle.quic_machine.specs.declared.run.Answer.{Answer}
use Rattle.quic_machine.specs.Policy.{Policy}
use Rattle.quic_headline.specs.Runs.{Told, Packet, Intake, In, is_again, packet_of, handed, is_refused, came_open, and_opened, and_handed, and_told, folded, count_given}
use Rattle.quic_machine.specs.Machine.{gave}
use Rattle.quic_machine.specs.CallCases.{is_delivery}

-- one call more
pub folded_more : {S : Type 0} (step : Told → S → S) (ts : List Told) (t : Told) (s : S) → folded step (ts ++ t ∷ []) s ≡ step t (folded step ts s)
folded_more step [] t s = refl
folded_more step (u ∷ ts) t s = folded_more step ts t (step u s)

-- a packet that opened is one more, or none
opened_keeps : (o : Option Opening) (a : Answer) (i : Intake) (packet : Packet) → In packet i.took → In packet (and_opened o a i).took
opened_keeps None a i packet h = h
opened_keeps (Some o) a i packet h = go (is_again o.number i.opened) (is_refused a)
  where
    go : (again refused : Bool) → In packet (if again then i else record { opened = o.number ∷ i.opened; took = (if refused then i.took else packet_of o ∷ i.took); part = (if refused then Some (packet_of o) else i.part) }).took
    go true refused = h
    go false true = h
    go false false = inr h

-- so a datagram that is handed in leaves the packets that were taken
handed_keeps : (state : State) (d : Option (List ℕ)) (p : Policy) (a : Answer) (i : Intake) (packet : Packet) → In packet i.took → In packet (and_handed state d p a i).took
handed_keeps states.Open None p a i packet h = h
handed_keeps states.Open (Some d) p a i packet h = opened_keeps (came_open p i.took a d) a i packet h
handed_keeps states.Closing d p a i packet h = h
handed_keeps states.Drained d p a i packet h = h
handed_keeps states.Failed d p a i packet h = h

-- what was taken stays so by one call more
pub took_more : (p : Policy) (given : List (List ℕ)) (ts : List Told) (t : Told) (i : Intake) (packet : Packet) → In packet (folded (and_told p given) ts i).took → In packet (folded (and_told p given) (ts ++ t ∷ []) i).took
took_more p given ts t i packet h =
    subst (λ (j : Intake). In packet j.took) (sym (folded_more (and_told p given) ts t i))
    (handed_keeps t.state (handed given t.call t.answer) p t.answer (folded (and_told p given) ts i) packet h)

-- a call that hands nothing in
pub nothing_handed : (state : State) (p : Policy) (a : Answer) (i : Intake) → and_handed state None p a i ≡ i
nothing_handed states.Open p a i = refl
nothing_handed states.Closing p a i = refl
nothing_handed states.Drained p a i = refl
nothing_handed states.Failed p a i = refl

-- a call that is no delivery hands nothing in
pub none_handed : (given : List (List ℕ)) (call : Call) (a : Answer) → is_delivery call ≡ false → handed given call a ≡ None
none_handed given (calls.Deliver delivery) a apart = cc
none_handed given call a apart = refl

-- how many datagrams were given by one call more
pub count_more : (ts : List Told) (t : Told) → count_given (ts ++ t ∷ []) ≡ count_given ts + (if gave t.answer then 1 else 0)
count_more [] t = omega arith
count_more (u ∷ ts) t = let more = count_more ts t in omega arith
