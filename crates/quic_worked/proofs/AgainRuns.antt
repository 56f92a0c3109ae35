-- A datagram that comes twice is taken once, and a machine that takes it twice, or drops what is
-- new as a duplicate, is none of those that the clause allows.
use Rattle.std.proofs.Common.{◌≡◌, ℕ, true, false, List, [], ◌∷◌, ◌++◌, Some, refl, sym, ap, ◌∙◌}
use Rattle.std.proofs.lemmas.List.{same_from_push}
use Rattle.quic_packet.specs.Datagram.{Opening}
use Rattle.quic_wire_core.specs.declared.stream_id.Side.TheVariants.{Server}
use Rattle.quic_machine.specs.declared.answers.State.TheVariants as states
use Rattle.quic_machine.specs.declared.answers.Received.TheVariants as receives
use Rattle.quic_machine.specs.declared.run.Call.TheVariants as calls
use Rattle.quic_machine.specs.declared.run.Answer.TheVariants as answers
use Rattle.quic_machine.specs.declared.run.ReadCall.{ReadCall}
use Rattle.quic_machine.specs.Policy.{Policy}
use Rattle.quic_headline.specs.Runs.{Told, Intake, is_again, handed, came_open, until}
use Rattle.quic_headline.specs.Headline.{IsAt}
use Rattle.quic_headline.specs.Causes.{came_by, PacketCame}
use Rattle.quic_headline.specs.Taken.{CameAgain, TakenExactly}
use Rattle.quic_worked.specs.Worked.{worked_policies, worked_run, run_with, delivery, hello_datagram, hello_opening}
use Rattle.quic_worked.specs.Broken.{duplicate}
use Rattle.quic_worked.specs.Machines.{taken_again}
use Rattle.quic_worked.specs.Reordered.{abc_datagram, def_datagram}
use Rattle.quic_worked.specs.Faults.{below_dropped, noted_early}
use Rattle.quic_worked.proofs.FaultRuns.{below_came, noted_came}

-- ---- the datagram that comes twice

-- behind the first of them the server was told this
abbrev hello_told : Told
hello_told = record { call = calls.Deliver delivery; answer = answers.Deliver receives.Taken; state = states.Open }

-- what comes to the server of the worked run
abbrev hello_came : List Told → Intake
hello_came told = came_by worked_policies.server (hello_datagram ∷ []) told

pub first_at : (read : ReadCall) → IsAt (worked_run read) 4 Server (calls.Deliver delivery) (answers.Deliver receives.Taken)
first_at read = record { event = refl; answer = refl }

pub second_at : (read : ReadCall) → IsAt (worked_run read) 5 Server (calls.Deliver delivery) (answers.Deliver duplicate)
second_at read = record { event = refl; answer = refl }

pub hello_again : (read : ReadCall) → CameAgain worked_policies.server (hello_came (until (worked_run read) Server 5)) (answers.Deliver duplicate) hello_datagram
hello_again read = record { opening = hello_opening; opened = refl; again = refl }

-- ---- it is taken twice

-- the second opens to what came before
abbrev second_opens : came_open worked_policies.server (hello_came (hello_told ∷ [])).took (answers.Deliver receives.Taken) hello_datagram ≡ Some hello_opening
second_opens = refl

abbrev second_again : is_again hello_opening.number (hello_came (hello_told ∷ [])).opened ≡ true
second_again = refl

-- so it is no packet that came
not_twice : (told : List Told) → told ≡ hello_told ∷ hello_told ∷ [] → (c : PacketCame worked_policies.server (hello_datagram ∷ []) told) → c.behind ≡ [] → ⊥
not_twice told is c none =
    let ends : (hello_told ∷ []) ++ hello_told ∷ [] ≡ c.before ++ c.call ∷ [] = sym is ∙ c.split ∙ ap (λ (ts : List Told). c.before ++ c.call ∷ ts) none in
    let parts = same_from_push (hello_told ∷ []) c.before hello_told c.call ends in
    let both : Some c.datagram ≡ Some hello_datagram = sym c.handed_in ∙ ap (λ (t : Told). handed (hello_datagram ∷ []) t.call t.answer) (sym parts.1) in
    let same : c.datagram ≡ hello_datagram = cc in
    let openings : Some c.opening ≡ Some hello_opening =
    sym c.opened
    ∙ ap (λ (ts : List Told). came_open worked_policies.server (hello_came ts).took c.call.answer c.datagram) (sym parts.0)
    ∙ ap (λ (t : Told). came_open worked_policies.server (hello_came (hello_told ∷ [])).took t.answer c.datagram) (sym parts.1)
    ∙ ap (λ ds. came_open worked_policies.server (hello_came (hello_told ∷ [])).took hello_told.answer ds) same
    ∙ second_opens in
    let opening : c.opening ≡ hello_opening = cc in
    let clash : false ≡ true =
    sym c.new
    ∙ ap (λ (ts : List Told). is_again c.opening.number (hello_came ts).opened) (sym parts.0)
    ∙ ap (λ (o : Opening). is_again o.number (hello_came (hello_told ∷ [])).opened) opening
    ∙ second_again in
    cc

pub twice_taken : (read : ReadCall) → TakenExactly (run_with read taken_again) → ⊥
twice_taken read h =
    let c = h.0 Server 5 delivery refl (record { event = refl; answer = refl }) in
    not_twice (until (run_with read taken_again) Server 6) refl c.0 c.1

-- ---- what is new is dropped

-- what came didn't come again
new_not_again : (p : Policy) (given : List (List ℕ)) (told : List Told) (c : PacketCame p given told) → CameAgain p (came_by p given c.before) c.call.answer c.datagram → ⊥
new_not_again p given told c again =
    let both : Some c.opening ≡ Some again.opening = sym c.opened ∙ again.opened in
    let same : c.opening ≡ again.opening = cc in
    let clash : false ≡ true = sym c.new ∙ ap (λ (o : Opening). is_again o.number (came_by p given c.before).opened) same ∙ again.again in
    cc

pub noted_drops : TakenExactly noted_early → ⊥
noted_drops h =
    new_not_again worked_policies.server (hello_datagram ∷ []) (until noted_early Server 6) noted_came
    ((h.1 Server 5 delivery (answers.Deliver duplicate) hello_datagram refl refl (record { event = refl; answer = refl }) refl).0 refl)

pub below_drops : TakenExactly below_dropped → ⊥
below_drops h =
    new_not_again worked_policies.server (abc_datagram ∷ def_datagram ∷ []) (until below_dropped Server 7) below_came
    ((h.1 Server 6 delivery (answers.Deliver duplicate) abc_datagram refl refl (record { event = refl; answer = refl }) refl).0 refl)
