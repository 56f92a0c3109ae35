use Rattle.std.proofs.Common.{ℕ, List, lit<, drop, ap, sym}
use Rattle.quic_lines.proofs.Saying.{words-split, words-whole}
use Rattle.quic_lines.proofs.script.LineWords.next.Goals as goal

pub returns-in-Some-split_once-clause-word : goal.returns-in-Some-split_once-clause-word
returns-in-Some-split_once-clause-word c = rw c.in-Some.is (words-split _ _ _ (c.in-Some-split_once.ensures.byte (lit< tt) (λ w o h. h)))

pub returns-in-Some-split_once-clause-rest : goal.returns-in-Some-split_once-clause-rest
returns-in-Some-split_once-clause-rest c = rw c.in-Some.is (ap (λ (ws : List (List ℕ)). drop 1 ws) (sym (words-split _ _ _ (c.in-Some-split_once.ensures.byte (lit< tt) (λ w o h. h)))))

pub returns-in-None-clause-word : goal.returns-in-None-clause-word
returns-in-None-clause-word c = rw c.in-Some.is (words-whole _ (c.in-None.ensures.byte (lit< tt) (λ w o h. h)))

pub returns-in-None-clause-rest : goal.returns-in-None-clause-rest
returns-in-None-clause-rest c = rw c.in-Some.is (ap (λ (ws : List (List ℕ)). drop 1 ws) (sym (words-whole _ (c.in-None.ensures.byte (lit< tt) (λ w o h. h)))))
