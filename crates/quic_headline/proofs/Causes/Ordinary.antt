-- What an end gave that doesn't close its connection: all of it while the end is open, and no less
-- as more goes.
use Rattle.std.proofs.Common.{◌≡◌, ℕ, ◌≤◌, Bool, false, not, List, [], ◌∷◌, ◌++◌, filter, length, refl, sym, ap, ◌∙◌, subst, arith}
use Rattle.std.specs.Prelude.{if◌then◌else◌}
use Rattle.std.proofs.lemmas.List.{length-append}
use Rattle.std.proofs.lemmas.List.Elements.{filter-append}
use Rattle.quic_machine.specs.declared.answers.State.TheVariants as states
use Rattle.quic_machine.specs.declared.run.Call.{Call}
use Rattle.quic_machine.specs.declared.run.Call.TheVariants as calls
use Rattle.quic_machine.specs.declared.run.Answer.{Answer}
use Rattle.quic_machine.specs.declared.run.Answer.TheVariants as answers
use Rattle.quic_machine.specs.Policy.{Policy}
use Rattle.quic_machine.specs.End.{End}
use Rattle.quic_machine.specs.Poll.{Polled, polled}
use Rattle.quic_machine.specs.PollCases.{draft_at}
use Rattle.quic_machine.specs.Machine.{IsAnswer, after_call, fails, gave}
use Rattle.quic_headline.specs.Observer.{Sent, closes_of, next_number}
use Rattle.quic_headline.proofs.Packets.Closeless.{sent_closeless}
use Rattle.quic_headline.proofs.Packets.Sends.{by_sends}
use Rattle.quic_headline.proofs.Places.Parties.{sent_as, sent_by, sent_if, sents_by}
use Rattle.quic_headline.proofs.Places.Groups.{Way, Nothing, Group}
use Rattle.quic_headline.proofs.Places.Steps.{poll_answer}
use Rattle.quic_headline.proofs.Timers.Still.{was_open}

-- ---- of datagrams

-- those of these that don't close
abbrev pub ordinary_of : List Sent → List Sent
ordinary_of ss = filter (λ s. not (closes_of s)) ss

-- more of them
ordinary_append : (ss more : List Sent) → ordinary_of (ss ++ more) ≡ ordinary_of ss ++ ordinary_of more
ordinary_append ss more = filter-append (λ s. not (closes_of s)) ss more

-- they are no fewer then
pub ordinary_longer : (ss more : List Sent) → length (ordinary_of ss) ≤ length (ordinary_of (ss ++ more))
ordinary_longer ss more =
    let long = ap length (ordinary_append ss more) in
    let both = length-append (ordinary_of ss) (ordinary_of more) in
    omega arith

-- the number that goes next doesn't fall as more go
next_front : (ss more : List Sent) → next_number ss ≤ next_number (ss ++ more)
next_front [] more = let n : ℕ = next_number more in omega arith
next_front (s ∷ ss) more = let rest = next_front ss more in omega arith

-- nor does that behind those that don't close
pub ordinary_next : (ss more : List Sent) → next_number (ordinary_of ss) ≤ next_number (ordinary_of (ss ++ more))
ordinary_next ss more = subst (λ (all : List Sent). next_number (ordinary_of ss) ≤ next_number all) (sym (ordinary_append ss more)) (next_front (ordinary_of ss) (ordinary_of more))

-- ---- of an open end

-- none of these closes
abbrev AreOrdinary : List Sent → Type 0
AreOrdinary ss = ordinary_of ss ≡ ss

-- what an end gives by a poll behind which it is open
polled_ordinary : (p : Policy) (e : End) (now : ℕ) → (polled p e now).end.closing.state ≡ states.Open → AreOrdinary (sent_if (gave (answers.Poll (polled p e now).answer)) (sent_by p e now))
polled_ordinary p e now = by_sends p e now (λ (q : Polled) (ss : List Sent). q.end.closing.state ≡ states.Open → AreOrdinary ss) (record {
  silent = λ opened. refl;
  failed = λ opened. refl;
  nothing = λ is none opened. refl;
  repeats = λ is. ((λ opened. refl), λ f goes opened. let clash : states.Closing ≡ states.Open = sym is ∙ opened in cc);
  closes = λ reason is bound. ((λ opened. refl), λ f goes opened. cc);
  gives = λ is bound some opened. ap (λ (b : Bool). if not b then sent_as e now (draft_at e now) ∷ [] else []) (sent_closeless e now);
})

-- and by any call
call_ordinary : (p : Policy) (e : End) (theirs : List (List ℕ)) (call : Call) (a : Answer) → IsAnswer p e theirs call a → fails a ≡ false → (after_call p e theirs call a).closing.state ≡ states.Open → AreOrdinary (sents_by p e call a)
call_ordinary p e theirs (calls.Poll now) a is served opened =
    subst (λ (b : Answer). AreOrdinary (sents_by p e (calls.Poll now) b)) (sym (poll_answer p e now a is served)) (polled_ordinary p e now opened)
call_ordinary p e theirs call a is served opened = refl

-- x gave nothing else while it is open
abbrev pub Unclosed : Way
Unclosed x y = x.end.closing.state ≡ states.Open → AreOrdinary x.sents

pub unclosed_group : Group Nothing Unclosed
unclosed_group = record {
  first = λ x y m there here opened. refl;
  writer = λ x y call a c before back opened.
      let more : List Sent = sents_by x.policy x.end call a in
      ordinary_append x.sents more
      ∙ ap (λ (ss : List Sent). ss ++ ordinary_of more) (before (was_open x.policy x.end y.given call a opened))
      ∙ ap (λ (ss : List Sent). x.sents ++ ss) (call_ordinary x.policy x.end y.given call a c.answer c.served opened);
  reader = λ x y call a c before back. back;
  shows = λ x y here there b back s t. s;
}
