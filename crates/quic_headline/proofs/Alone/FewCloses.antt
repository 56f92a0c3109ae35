-- An end that is closing gives its close only where it owes it: once at first, and once for each
-- datagram that asks for it again.
use Rattle.std.proofs.Common.{◌≡◌, ◌≤◌, ◌+◌, ℕ, Bool, true, false, List, [], ◌∷◌, Some, None, Ok, Err, refl, sym, ap, ◌∙◌, subst, arith}
use Rattle.std.specs.Prelude.{option_map, if◌then◌else◌}
use Rattle.quic_wire.specs.Value.{FrameValue}
use Rattle.quic_machine.specs.declared.answers.State.{State}
use Rattle.quic_machine.specs.declared.answers.State.TheVariants as states
use Rattle.quic_machine.specs.declared.run.Call.{Call}
use Rattle.quic_machine.specs.declared.run.Call.TheVariants as calls
use Rattle.quic_machine.specs.declared.run.Answer.{Answer}
use Rattle.quic_machine.specs.declared.run.Answer.TheVariants as answers
use Rattle.quic_machine.specs.Policy.{Policy}
use Rattle.quic_machine.specs.Control.{Control}
use Rattle.quic_machine.specs.Heard.{Heard}
use Rattle.quic_machine.specs.Closing.{Closing, ticked}
use Rattle.quic_machine.specs.End.{End, with_closing}
use Rattle.quic_machine.specs.Poll.{Polled, may_close, close_room, fitted, close_to_go, polled_in, polled}
use Rattle.quic_machine.specs.Machine.{IsAnswer, IsLeft, after_call, reads_window, fails, gave}
use Rattle.quic_headline.specs.Closes.{asks_again}
use Rattle.quic_headline.specs.Alone.{Lone, IsLoneStep, FollowsAlone}
use Rattle.quic_headline.specs.FewEvents.{counted}
use Rattle.quic_headline.specs.FewCloses.{IsClosing, gave_in, asked_in, CloseFew}
use Rattle.quic_headline.proofs.Packets.Closes.{by_closes}
use Rattle.quic_headline.proofs.Places.Steps.{only_polls_give, poll_answer}
use Rattle.quic_headline.proofs.Causes.Turns.{Turns, kept, asked, went, shut, ended, lapsed, turns}

-- ---- a poll

-- a close goes only where it is owed
goes_owed : (p : Policy) (x : End) (f : FrameValue) → close_to_go p x ≡ Some f → x.closing.owed ≡ true
goes_owed p x f = go (may_close p x) x.closing.owed refl
  where
    go : (may owed : Bool) → x.closing.owed ≡ owed → (if may then option_map (fitted (close_room x)) (if owed then x.closing.close else None) else None) ≡ Some f → x.closing.owed ≡ true
    go true true here is = here
    go true false here is = cc
    go false owed here is = cc

-- an end that isn't open gives something only where it is closing, and owes its close
polled_owes : (p : Policy) (e : End) (now : ℕ) → (e.closing.state ≡ states.Open → ⊥) → gave (answers.Poll (polled p e now).answer) ≡ true → IsClosing e × (e.closing.owed ≡ true)
polled_owes p e now not_open = go e.closing.state refl
  where
    x : End
    x = with_closing e (ticked e.closing now)

    Owes : Polled → Type 0
    Owes q = gave (answers.Poll q.answer) ≡ true → e.closing.owed ≡ true

    go : (s : State) → e.closing.state ≡ s → gave (answers.Poll (polled_in s p e now).answer) ≡ true → IsClosing e × (e.closing.owed ≡ true)
    go states.Open here one = absurd (not_open here)
    go states.Closing here one = (here, by_closes p x Owes (λ none. cc) (λ f goes given. goes_owed p x f goes) one)
    go states.Drained here one = cc
    go states.Failed here one = cc

call_owes : (p : Policy) (e : End) (theirs : List (List ℕ)) (call : Call) (a : Answer) → IsAnswer p e theirs call a → fails a ≡ false → (e.closing.state ≡ states.Open → ⊥) → gave a ≡ true → IsClosing e × (e.closing.owed ≡ true)
call_owes p e theirs (calls.Poll now) a is served not_open one = polled_owes p e now not_open (sym (ap gave (poll_answer p e now a is served)) ∙ one)
call_owes p e theirs call a is served not_open one = let none : gave a ≡ false = only_polls_give p e theirs call a refl is in let clash : false ≡ true = sym none ∙ one in cc

-- ---- what an end owes

-- how many closes it may give at once: the one that it owes
abbrev due_in : State → Bool → ℕ
due_in states.Closing owed = if owed then 1 else 0
due_in state owed = 0

abbrev due : Closing → ℕ
due c = due_in c.state c.owed

due_one : (s : State) (owed : Bool) → due_in s owed ≤ 1
due_one states.Closing true = omega arith
due_one states.Closing false = omega arith
due_one s owed = omega arith

abbrev one_if : Bool → ℕ
one_if b = if b then 1 else 0

-- a call gives no more than was due, or was asked for
abbrev Spends : Closing → Answer → Closing → Type 0
Spends b a c = one_if (gave a) + due c ≤ one_if (asks_again a) + due b

module _ (b : Closing) (call : Call) (a : Answer) (c : Closing) (not_open : b.state ≡ states.Open → ⊥) (owes : gave a ≡ true → (b.state ≡ states.Closing) × (b.owed ≡ true)) where
  due_owed : b.state ≡ states.Closing → b.owed ≡ true → due b ≡ 1
  due_owed here owed = rw (here, owed) refl

  -- it gives what it owes, or nothing
  ends_spending : due c ≡ 0 → Spends b a c
  ends_spending none = go (gave a) refl
    where
      go : (g : Bool) → gave a ≡ g → one_if g + due c ≤ one_if (asks_again a) + due b
      go true one = (let owed = owes one in let had = due_owed owed.0 owed.1 in omega arith)
      go false silent = omega (arith, none)

  turned_spends : Turns b call a c → Spends b a c × (c.state ≡ states.Open → ⊥)
  turned_spends (kept same owed still) = (go (gave a) refl, λ opened. not_open (sym same.state ∙ opened))
    where
      as_before : due c ≡ due b
      as_before = ap (λ (s : State). due_in s c.owed) same.state ∙ ap (λ (o : Bool). due_in b.state o) owed

      go : (g : Bool) → gave a ≡ g → one_if g + due c ≤ one_if (asks_again a) + due b
      go true one = (let clash : true ≡ false = sym one ∙ (still (owes one).0).0 in cc)
      go false silent = omega (arith, as_before)
  turned_spends (asked here same owed none asks) = (
    (let most = due_one c.state c.owed in
        let gives : one_if (gave a) ≡ 0 = ap one_if none in
        let came : one_if (asks_again a) ≡ 1 = ap one_if asks in
        omega arith),
    λ opened. not_open (sym same.state ∙ opened),
  )
  turned_spends (went here same owed one) = (ends_spending (ap (λ (s : State). due_in s c.owed) (same.state ∙ here) ∙ ap one_if owed), λ opened. not_open (sym same.state ∙ opened))
  turned_spends (shut here state reason for f close says owed) = absurd (not_open here)
  turned_spends (ended here state reason close) = (ends_spending (ap (λ (s : State). due_in s c.owed) state), λ opened. (let clash : states.Drained ≡ states.Open = sym state ∙ opened in cc))
  turned_spends (lapsed here state close) = absurd (not_open here)

-- what fails gives nothing
failed_none : (a : Answer) → fails a ≡ true → gave a ≡ false
failed_none (answers.Poll (Ok given)) is = cc
failed_none (answers.Poll (Err failed)) is = refl
failed_none a is = refl

-- ---- one call behind another

reads_closing : (control : Control) (heard : Heard) (call : Call) (e : End) → (reads_window control heard call e).closing ≡ e.closing
reads_closing control heard (calls.Poll now) e = refl
reads_closing control heard call e = refl

module _ (p : Policy) (theirs : List (List ℕ)) where
  step_spends : (x next : Lone) (call : Call) (a : Answer) → IsLoneStep p theirs x call a next → (x.end.closing.state ≡ states.Open → ⊥) → Spends x.end.closing a next.end.closing × (next.end.closing.state ≡ states.Open → ⊥)
  step_spends x next call a s not_open = go (fails a) refl s.end
    where
      met : End
      met = reads_window x.control x.heard call x.end

      same : met.closing ≡ x.end.closing
      same = reads_closing x.control x.heard call x.end

      still_not : met.closing.state ≡ states.Open → ⊥
      still_not opened = not_open (sym (ap (λ (c : Closing). c.state) same) ∙ opened)

      Left : Closing → Closing → Type 0
      Left b c = Spends b a c × (c.state ≡ states.Open → ⊥)

      go : (f : Bool) → fails a ≡ f → IsLeft f p x.control x.heard x.end theirs call a next.end → Left x.end.closing next.end.closing
      go true failed left = (
        (let none : one_if (gave a) ≡ 0 = ap one_if (failed_none a failed) in
            let over : due next.end.closing ≡ 0 = ap (λ (state : State). due_in state next.end.closing.owed) left.0 in
            omega arith),
        λ opened. (let clash : states.Failed ≡ states.Open = sym left.0 ∙ opened in cc),
      )
      go false served left = subst (λ (b : Closing). Left b next.end.closing) same (subst (λ (e : End). Left met.closing e.closing) (sym left)
          (turned_spends met.closing call a (after_call p met theirs call a).closing still_not (call_owes p met theirs call a s.answer served still_not) (turns p met theirs call a s.answer served)))

  all_spend : (x left : Lone) (cs : List Call) (told : List Answer) → FollowsAlone p theirs x cs told left → (x.end.closing.state ≡ states.Open → ⊥) → counted gave_in cs told ≤ counted asked_in cs told + due x.end.closing
  all_spend x left [] [] f not_open = omega arith
  all_spend x left [] (b ∷ told) f not_open = absurd f
  all_spend x left (c ∷ cs) [] f not_open = absurd f
  all_spend x left (c ∷ cs) (b ∷ told) f not_open =
      let step = step_spends x f.0 c b f.1 not_open in
      let first : Spends x.end.closing b f.0.end.closing = step.0 in
      let others = all_spend f.0 left cs told f.2 step.1 in
      omega arith

pub closes_few : (p : Policy) (theirs : List (List ℕ)) (x left : Lone) (cs : List Call) (told : List Answer) → IsClosing x.end → FollowsAlone p theirs x cs told left → CloseFew cs told
closes_few p theirs x left cs told closing f =
    let all = all_spend p theirs x left cs told f (λ opened. (let clash : states.Closing ≡ states.Open = sym closing ∙ opened in cc)) in
    let one = due_one x.end.closing.state x.end.closing.owed in
    omega arith
