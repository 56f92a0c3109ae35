-- An end closes for a limit of its keys only where one is reached: its own key sealed as many
-- ordinary packets as it may, less those that are kept for closes, or its peer's refused as many as
-- it may.
use Rattle.std.proofs.Common.{◌≡◌, ℕ, suc, ◌+◌, ◌≤◌, Bool, true, false, not, nat_lt, length, List, [], ◌∷◌, ◌++◌, Some, None, ◌⊎◌, inl, inr, refl, sym, ap, subst, arith}
use Rattle.std.specs.Prelude.{if◌then◌else◌}
use Rattle.std.proofs.lemmas.Bool.{ltb-false}
use Rattle.quic_spaces.specs.Numbers.{can_number}
use Rattle.quic_machine.specs.declared.answers.LostReason.TheVariants as reasons
use Rattle.quic_machine.specs.declared.run.Call.{Call}
use Rattle.quic_machine.specs.declared.run.Answer.{Answer}
use Rattle.quic_machine.specs.Policy.{Policy}
use Rattle.quic_machine.specs.End.{End}
use Rattle.quic_machine.specs.Receive.{Fault, broke, too_many_pieces, closed_by_peer, reason_of}
use Rattle.quic_machine.specs.Poll.{bounds, may_seal}
use Rattle.quic_machine.specs.Machine.{World, policy_at}
use Rattle.quic_headline.specs.Runs.{Run, AreServed, until}
use Rattle.quic_headline.specs.Observer.{Sent, sents_until}
use Rattle.quic_headline.specs.Headline.{IsHonest, IsRun}
use Rattle.quic_headline.specs.Causes.{seals_kept, ordinary, unopened, IsKeyUsedUp, KeyLimited}
use Rattle.quic_headline.proofs.Packets.Group.{PacketsHold}
use Rattle.quic_headline.proofs.Packets.Sight.{Sight}
use Rattle.quic_headline.proofs.Places.Told.{in_left, in_last}
use Rattle.quic_headline.proofs.Places.Parties.{sents_by, told_of, Party, called}
use Rattle.quic_headline.proofs.Places.Groups.{Way, Nothing, And, Calls, Group, both, beside, over}
use Rattle.quic_headline.proofs.Places.Placed.{Placed, placed, placed_less}
use Rattle.quic_headline.proofs.Places.Flights.{own_at}
use Rattle.quic_headline.proofs.Places.Everything as everything
use Rattle.quic_headline.proofs.Places.Theorems.{ready}
use Rattle.quic_headline.proofs.Halves.Ready.{Ready}
use Rattle.quic_headline.proofs.Causes.Keyed.{Exhausted, many_unopened}
use Rattle.quic_headline.proofs.Causes.Ordinary.{ordinary_of, ordinary_longer, Unclosed, unclosed_group}
use Rattle.quic_headline.proofs.Causes.Sealed.{Seals, seals_group}
use Rattle.quic_headline.proofs.Causes.Shown.{reason_shown}
use Rattle.quic_headline.proofs.Causes.Why.{Cause, was, applies, bound, refuses, exhausts, idles, call_why}

-- ---- at one end

-- where the key may seal no more ordinary packets, it sealed as many
used_up : (p : Policy) (e : End) → bounds p e ≡ Some reasons.KeyLimit → p.seals ≤ e.numbers.sealed + seals_kept
used_up p e is = ltb-false (e.numbers.sealed + seals_kept) p.seals (go (can_number e.numbers) (may_seal p e) refl is)
  where
    go : (numbered sealed : Bool) → may_seal p e ≡ sealed → (if not numbered then Some reasons.NumberLimit else (if not sealed then Some reasons.KeyLimit else None)) ≡ Some reasons.KeyLimit → nat_lt (e.numbers.sealed + seals_kept) p.seals ≡ false
    go false sealed here limit = cc
    go true false here limit = here
    go true true here limit = cc

-- no packet is refused for a limit of keys
refused_not : (f : Fault) → reason_of f ≡ reasons.KeyLimit → ⊥
refused_not (broke error) is = cc
refused_not too_many_pieces is = cc
refused_not (closed_by_peer close) is = cc

-- ---- the group

-- x closed for a limit of its keys only where it gave as many ordinary datagrams as its own key
-- seals, or where the last packet came that may not open
pub record Limited (x y : Party) : Type 0 where
  pub limited : x.end.closing.reason ≡ Some reasons.KeyLimit → (x.policy.seals ≤ length (ordinary_of x.sents) + seals_kept) ⊎ Exhausted x.told

module _ (B : Way) (seals : (x y : Party) → B x y → Seals x y) (unclosed : (x y : Party) → B x y → Unclosed x y) where
  -- x makes a call
  gives_on : (x y : Party) (call : Call) (a : Answer) → Calls B x y call a → Limited x y → Limited (called x y.given call a) y
  gives_on x y call a c l = record { limited = λ shown. limits (call_why x.policy x.end y.given call a reasons.KeyLimit shown) }
    where
      more : List Sent
      more = sents_by x.policy x.end call a

      limits : Cause x.policy x.end call a reasons.KeyLimit → (x.policy.seals ≤ length (ordinary_of (x.sents ++ more)) + seals_kept) ⊎ Exhausted (x.told ++ told_of call a x.end.closing.state ∷ [])
      limits (was old) = elim (l.limited old) [
        | inl sealed ↦ (let longer = ordinary_longer x.sents more in inl (omega arith))
        | inr e ↦ inr (record { told = e.told; among = in_left e.told x.told (told_of call a x.end.closing.state ∷ []) e.among; here = e.here; last = e.last })
      ]
      limits (applies close same here for) = cc
      limits (bound here limit) =
          let used = used_up x.policy x.end limit in
          let sealed = (seals x y c.gives).sealed in
          let all = ap length (unclosed x y c.gives here) in
          let longer = ordinary_longer x.sents more in
          inl (omega arith)
      limits (refuses f for) = absurd (refused_not f for)
      limits (exhausts here last for) = inr (record { told = told_of call a x.end.closing.state; among = in_last (told_of call a x.end.closing.state) x.told; here = here; last = last })
      limits (idles now same here come for) = cc

  pub limited_group : Group B Limited
  limited_group = record {
    first = λ x y m there here. record { limited = λ is. cc };
    writer = λ x y call a c l back. gives_on x y call a c l;
    reader = λ x y call a c there l. record { limited = l.limited };
    shows = λ x y here there b back l k. record { limited = l.limited };
  }

-- ---- the clause

-- all that holds between the ends, what keys sealed, and what open ends gave
abbrev Given : Way
Given = And (everything.All Ready ready) (And Seals Unclosed)

given : Group Nothing Given
given = both Nothing (everything.All Ready ready) (And Seals Unclosed) (everything.all Ready ready)
    (beside (And Nothing (everything.All Ready ready)) Seals Unclosed (over PacketsHold (And Nothing (everything.All Ready ready)) Seals (λ x y h. h.1.0.0) seals_group) (over Nothing (And Nothing (everything.All Ready ready)) Unclosed (λ x y h. tt) unclosed_group))

known : Group Nothing (And Given Limited)
known = both Nothing Given Limited given (limited_group (And Nothing Given) (λ x y h. h.1.1.0) (λ x y h. h.1.1.1))

pub key_limited : (r : Run) (end : World) → IsHonest r → IsRun r end → KeyLimited r
key_limited r end honest run side place shows = subst (λ (n : ℕ). IsKeyUsedUp (policy_at side r.keys) (length (ordinary r side n)) (unopened (until r side n))) (sym next) at_place
  where
    next : place + 1 ≡ suc place
    next = omega arith

    served : AreServed r (suc place)
    served = subst (AreServed r) next shows.served

    p : Placed (And Given Limited) r end side (suc place)
    p = placed (And Given Limited) known r end honest run side (suc place) served

    own : sents_until r side (suc place) ≡ p.sents
    own = own_at r end honest side (suc place) (placed_less (And Given Limited) Sight r end side (suc place) (λ x y h. h.0.0.1) p)

    at_place : IsKeyUsedUp (policy_at side r.keys) (length (ordinary r side (suc place))) (unopened (until r side (suc place)))
    at_place = elim (p.gives.1.limited (reason_shown (And Given Limited) r end side place (Some reasons.KeyLimit) shows p)) [
      | inl sealed ↦ inl (subst (λ (ss : List Sent). (policy_at side r.keys).seals ≤ length (ordinary_of ss) + seals_kept) (sym own) sealed)
      | inr e ↦ inr (many_unopened r end honest run side (suc place) served e)
    ]
