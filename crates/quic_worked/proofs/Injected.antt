-- Injections that are answered as the machine does, and as it doesn't.
use Rattle.std.proofs.Common.{◌≡◌, ℕ, zero, suc, ◌&&◌, not, List, [], Some, None, Bool, true, false, refl, sym, ap, ◌∙◌, subst}
use Rattle.std.specs.Prelude.{slice_get, ◌↔◌, if◌then◌else◌}
use Rattle.std.specs.Option.{is_some}
use Rattle.quic_wire_core.specs.declared.stream_id.Side.{Side}
use Rattle.quic_wire_core.specs.declared.stream_id.Side.TheVariants.{Client, Server}
use Rattle.quic_machine.specs.declared.answers.Received.TheVariants as receives
use Rattle.quic_machine.specs.declared.answers.DropReason.TheVariants as drops
use Rattle.quic_machine.specs.declared.run.Answer.TheVariants as answers
use Rattle.quic_machine.specs.declared.run.Call.{Call}
use Rattle.quic_machine.specs.declared.run.Call.TheVariants as calls
use Rattle.quic_machine.specs.declared.run.Answer.{Answer}
use Rattle.quic_machine.specs.declared.run.Injection.{Injection}
use Rattle.quic_machine.specs.declared.run.RunEvent.{RunEvent}
use Rattle.quic_machine.specs.Ids.{known}
use Rattle.quic_machine.specs.Opens.{opens}
use Rattle.quic_machine.specs.End.{End}
use Rattle.quic_machine.specs.Machine.{World, IsStep}
use Rattle.quic_headline.specs.Runs.{In, until, LeadsTo, ids_of, expected_behind}
use Rattle.quic_headline.specs.Observer.{took}
use Rattle.quic_headline.specs.Headline.{used, IsAt, IsHonest, IsRun, OpensExactly, takes_nothing_from, would_open_at}
use Rattle.quic_worked.specs.Worked.{worked_policies, started, hello_datagram}
use Rattle.quic_worked.specs.Broken.{IsNoRun, injects, injected_run, always_opens, never_opens, once_injected}
use Rattle.quic_worked.proofs.WorkedHonest.{are_started, side_of, call_of, uses}
use Rattle.quic_worked.proofs.WorkedKeys.{are_keys}
use Rattle.quic_worked.proofs.BrokenRuns.{stops}
use Rattle.quic_worked.proofs.Codes.{no_codes}
use Rattle.quic_worked.proofs.Steps.{counts_so}

-- ---- the machine answers so

opens_there : IsStep worked_policies started (injects Server hello_datagram) answers.Opens started
opens_there = record { answer = refl; end = refl; control = refl; heard = counts_so worked_policies started (injects Server hello_datagram) answers.Opens; openings = tt; others = refl; lacking = tt }

drops_here : IsStep worked_policies started (injects Client hello_datagram) (answers.Inject (receives.Dropped drops.UnknownId)) once_injected
drops_here = record { answer = refl; end = refl; control = refl; heard = counts_so worked_policies started (injects Client hello_datagram) (answers.Inject (receives.Dropped drops.UnknownId)); openings = tt; others = refl; lacking = tt }

pub injected_is_run : IsRun injected_run once_injected
injected_is_run = record {
  codes = no_codes injected_run.events refl;
  follows = (started, opens_there, refl, (once_injected, drops_here, refl, refl));
  from_client = refl;
  from_server = refl;
}

-- no application makes a call
own_at : (side : Side) (i id : ℕ) (call : Call) → slice_get injected_run.events i ≡ Some (record { side = side; call = call }) → used call ≡ Some id → In id (ids_of (until injected_run side i))
own_at side zero id call q u = let never = uses (injects Server hello_datagram) (record { side = side; call = call }) id q u in cc
own_at side (suc zero) id call q u = let never = uses (injects Client hello_datagram) (record { side = side; call = call }) id q u in cc
own_at side (suc (suc i)) id call q u = cc

pub injected_is_honest : IsHonest injected_run
injected_is_honest = record { start = are_started; keys = are_keys; ids = λ side i id call a at u. own_at side i id call at.event u }

-- the bytes of an injection
abbrev bytes_in : Call → List ℕ
bytes_in (calls.Inject injection) = injection.bytes
bytes_in call = []

-- an answer that stands at a place is the one there
answer_of : (a b : Answer) → Some a ≡ Some b → b ≡ a
answer_of a b q = let same : a ≡ b = cc in sym same

-- whether the client's own datagram opens at a client so left, behind the first injection
abbrev opens_to : End → Bool
opens_to e = is_some (opens worked_policies.client (known e.ids) (expected_behind (took injected_run Client 1)) hello_datagram)

-- where an injection that stands at a place opens, and is answered so, or neither
exact_at : (b : Bool) (a : Answer) → a ≡ (if b then answers.Opens else answers.Inject (receives.Dropped drops.UnknownId)) → (a ≡ answers.Opens) ↔ (b ≡ true)
exact_at true a is = (λ opens. refl, λ opens. is)
exact_at false a is = (λ opens. let clash = sym is ∙ opens in cc, λ never. absurd cc)

never_both : (b c : Bool) → c ≡ false → (b && c) ≡ false
never_both true c none = none
never_both false c none = refl

judged : (i : ℕ) (side : Side) (w : World) (injection : Injection) (a : Answer) → LeadsTo injected_run i w → IsAt injected_run i side (calls.Inject injection) a → (a ≡ answers.Opens) ↔ (would_open_at injected_run w side i injection.remote injection.bytes ≡ true)
judged zero side w injection a leads at =
    let e : RunEvent = injects Server hello_datagram in
    let f : RunEvent = record { side = side; call = calls.Inject injection } in
    let sides : Server ≡ side = side_of e f at.event in
    let bytes : hello_datagram ≡ injection.bytes = ap bytes_in (call_of e f at.event) in
    let here : would_open_at injected_run w Server 0 injection.remote hello_datagram ≡ true = subst (λ (v : World). would_open_at injected_run v Server 0 injection.remote hello_datagram ≡ true) (sym leads) refl in
    let there : would_open_at injected_run w side 0 injection.remote injection.bytes ≡ true = subst (λ (s : Side). would_open_at injected_run w s 0 injection.remote injection.bytes ≡ true) sides (subst (λ (d : List ℕ). would_open_at injected_run w Server 0 injection.remote d ≡ true) bytes here) in
    subst (λ (b : Bool). (a ≡ answers.Opens) ↔ (b ≡ true)) (sym there) (exact_at true a (answer_of answers.Opens a at.answer))
judged (suc zero) side w injection a leads at =
    let e : RunEvent = injects Client hello_datagram in
    let f : RunEvent = record { side = side; call = calls.Inject injection } in
    let sides : Client ≡ side = side_of e f at.event in
    let bytes : hello_datagram ≡ injection.bytes = ap bytes_in (call_of e f at.event) in
    let same : w.client ≡ started.client = ap (λ (v : World). v.client) leads.3 ∙ ap (λ (v : World). v.client) leads.1.others in
    let none : opens_to w.client ≡ false = subst (λ (e : End). opens_to e ≡ false) (sym same) refl in
    let here : would_open_at injected_run w Client 1 injection.remote hello_datagram ≡ false = never_both (not (takes_nothing_from injected_run Client injection.remote)) (opens_to w.client) none in
    let there : would_open_at injected_run w side 1 injection.remote injection.bytes ≡ false = subst (λ (s : Side). would_open_at injected_run w s 1 injection.remote injection.bytes ≡ false) sides (subst (λ (d : List ℕ). would_open_at injected_run w Client 1 injection.remote d ≡ false) bytes here) in
    subst (λ (b : Bool). (a ≡ answers.Opens) ↔ (b ≡ true)) (sym there) (exact_at false a (answer_of (answers.Inject (receives.Dropped drops.UnknownId)) a at.answer))
judged (suc (suc i)) side w injection a leads at = let none = at.event in cc

pub opens_so : OpensExactly injected_run
opens_so side i w injection a served leads at = judged i side w injection a leads at

-- ---- answers that the machine doesn't give

pub opens_wrongly : OpensExactly always_opens → ⊥
opens_wrongly h =
    let never : false ≡ true = (h Server 0 started (record { now = 0; remote = 0; ecn = None; bytes = [] }) answers.Opens refl refl (record { event = refl; answer = refl })).0 refl in
    cc

pub takes_wrongly : OpensExactly never_opens → ⊥
takes_wrongly h = let opens = (h Server 0 started (record { now = 0; remote = 0; ecn = None; bytes = hello_datagram }) (answers.Inject receives.Taken) refl refl (record { event = refl; answer = refl })).1 refl in cc

pub never_always : IsNoRun always_opens
never_always = stops _ _ _ _ _ (λ opened. cc)

pub never_takes : IsNoRun never_opens
never_takes = stops _ _ _ _ _ (λ taken. cc)
