-- A key seals no more packets than it may, and keeps eight of these for closes: a group over the
-- packets, and the clause.
use Rattle.std.proofs.Common.{◌≡◌, ℕ, zero, suc, ◌+◌, ◌<◌, ◌≤◌, Bool, true, false, ◌||◌, List, [], ◌∷◌, ◌++◌, length, replicate, slice_get, Some, refl, sym, ap, ◌∙◌, subst, arith}
use Rattle.std.specs.List.{list_any}
use Rattle.std.proofs.lemmas.Bool.{ltb-true}
use Rattle.std.proofs.lemmas.List.{length-append}
use Rattle.quic_wire_core.specs.declared.stream_id.Side.{Side}
use Rattle.quic_wire.specs.Value.{padding}
use Rattle.quic_spaces.specs.Numbers.{Numbers}
use Rattle.quic_machine.specs.declared.run.Call.{Call}
use Rattle.quic_machine.specs.declared.run.Call.TheVariants as calls
use Rattle.quic_machine.specs.declared.run.Answer.{Answer}
use Rattle.quic_machine.specs.declared.run.Answer.TheVariants as answers
use Rattle.quic_machine.specs.Policy.{Policy}
use Rattle.quic_machine.specs.Closing.{ticked}
use Rattle.quic_machine.specs.End.{End, with_closing, closed_by}
use Rattle.quic_machine.specs.Poll.{Polled, Draft, zeros_behind, draft_as, polled}
use Rattle.quic_machine.specs.Poll as poll
use Rattle.quic_machine.specs.CallCases.{is_poll}
use Rattle.quic_machine.specs.PollCases.{ready_at, ready_leaves, draft_at, composes, bounds_none, may_leave_at}
use Rattle.quic_machine.specs.Machine.{World, IsAnswer, after_call, fails, gave, policy_at}
use Rattle.quic_headline.specs.Runs.{Run, AreServed, given_until}
use Rattle.quic_headline.specs.Observer.{Sent, is_close, closes_of, sents_until}
use Rattle.quic_headline.specs.Headline.{IsHonest}
use Rattle.quic_headline.specs.Causes.{seals_kept, KeysLast}
use Rattle.quic_headline.proofs.Packets.CloseForms.{close_sealed}
use Rattle.quic_headline.proofs.Packets.Group.{PacketsHold}
use Rattle.quic_headline.proofs.Packets.Growth.{step_length}
use Rattle.quic_headline.proofs.Packets.Owing.{Owes, close_is, error_owes}
use Rattle.quic_headline.proofs.Packets.Invariant.{IsSent}
use Rattle.quic_headline.proofs.Packets.Probes.{by_going}
use Rattle.quic_headline.proofs.Packets.Sends.{GivesClose, by_sends}
use Rattle.quic_headline.proofs.Packets.Sight.{Sight}
use Rattle.quic_headline.proofs.Packets.Watching.{closes_is}
use Rattle.quic_headline.proofs.Places.Parties.{sent_as, sent_by, sent_if, sents_by, Party}
use Rattle.quic_headline.proofs.Places.Groups.{And, Group}
use Rattle.quic_headline.proofs.Places.Placed.{Placed, placed_less, party_at}
use Rattle.quic_headline.proofs.Places.Openings.{given_here}
use Rattle.quic_headline.proofs.Places.Flights.{own_at}
use Rattle.quic_headline.proofs.Places.Steps.{poll_answer}
use Rattle.quic_headline.proofs.Timers.Watched.{Observed}
use Rattle.quic_headline.proofs.Packets.EndMoves.{Cause, cause_of, IsPoll, Keeps}
use Rattle.quic_headline.proofs.Packets.EndMoves as moves
use Rattle.quic_headline.proofs.Packets.ByMoves.{no_poll, behind_call}

-- ---- how many packets were sealed

abbrev pub SameSeals : End → End → Type 0
SameSeals e f = f.numbers.sealed ≡ e.numbers.sealed

-- only a poll seals
same_seals : (e : End) (by : Cause) → (IsPoll by → ⊥) → Keeps by (SameSeals e)
same_seals e by other (moves.numbered word) x may i = absurd (other may)
same_seals e by other m x may i = i

pub seals_stay : (p : Policy) (e : End) (theirs : List (List ℕ)) (call : Call) (a : Answer) → is_poll call ≡ false → SameSeals e (after_call p e theirs call a)
seals_stay p e theirs call a other = behind_call (SameSeals e) p e theirs call a (same_seals e (cause_of call) (no_poll call other)) refl

-- ---- what a key sealed

-- each datagram goes while the key may seal one more than those before it, and one that doesn't
-- close while it may seal eight more besides
abbrev AreLet : ℕ → ℕ → List Sent → Type 0
AreLet seals before [] = Unit {0}
AreLet seals before (s ∷ ss) = (before < seals) × (closes_of s ≡ false → before + seals_kept < seals) × AreLet seals (before + 1) ss

-- so they are in all no more than it may seal
let_length : (seals before : ℕ) (ss : List Sent) → before ≤ seals → AreLet seals before ss → before + length ss ≤ seals
let_length seals before [] low all = omega arith
let_length seals before (s ∷ ss) low all = let here = all.0 in let rest = let_length seals (before + 1) ss (omega arith) all.2 in omega arith

-- and so is each
let_each : (seals before place : ℕ) (ss : List Sent) (s : Sent) → slice_get ss place ≡ Some s → AreLet seals before ss → closes_of s ≡ false → before + place + seals_kept < seals
let_each seals before zero (t ∷ ss) s is all ordinary =
    let same : t ≡ s = cc in
    let here = all.1 (subst (λ (u : Sent). closes_of u ≡ false) (sym same) ordinary) in
    omega arith
let_each seals before (suc place) (t ∷ ss) s is all ordinary = let later = let_each seals (before + 1) place ss s is all.2 ordinary in omega arith
let_each seals before place [] s is all ordinary = cc

-- more of them
let_more : (seals before : ℕ) (ss ts : List Sent) → AreLet seals before ss → AreLet seals (before + length ss) ts → AreLet seals before (ss ++ ts)
let_more seals before [] ts all more = subst (λ (n : ℕ). AreLet seals n ts) (omega arith) more
let_more seals before (s ∷ ss) ts all more = (all.0, all.1, let_more seals (before + 1) ss ts all.2 (subst (λ (n : ℕ). AreLet seals n ts) (omega arith) more))

none_more : (n : ℕ) → 0 + n ≡ n
none_more n = omega arith

-- ---- a poll

-- what a poll seals goes so
abbrev SealsOn : Policy → End → Polled → List Sent → Type 0
SealsOn p e q more = (q.end.numbers.sealed ≡ e.numbers.sealed + length more) × AreLet p.seals e.numbers.sealed more

poll_seals : (p : Policy) (e : End) (now : ℕ) → Owes e → SealsOn p e (polled p e now) (sent_if (gave (answers.Poll (polled p e now).answer)) (sent_by p e now))
poll_seals p e now owes = by_sends p e now (SealsOn p e) (record {
  silent = (omega arith, tt);
  failed = (omega arith, tt);
  repeats = λ is. closing (with_closing e (ticked e.closing now)) refl owes;
  nothing = λ is none. (let same = ready in (omega arith, tt));
  closes = λ reason is bound. closing (closed_by reason x) ready (error_owes reason x);
  gives = λ is bound some. by_going (λ (y : End). (y.numbers.sealed ≡ e.numbers.sealed + 1) × AreLet p.seals e.numbers.sealed (sent_as e now (draft_at e now) ∷ [])) p (draft_at e now)
      (λ going.
      let drawn : (draft_at e now).end.numbers.sealed ≡ x.numbers.sealed = ap (λ (n : Numbers). n.sealed) (composes (ready_at e now).leaving x (may_leave_at e now)).numbers in
      let same = ready in
      let may = ltb-true (e.numbers.sealed + poll.kept_seals) p.seals (bounds_none p e bound).1 in
      (omega arith, (omega arith, (λ ordinary. omega arith), tt)));
})
  where
    x : End
    x = (ready_at e now).end

    ready : x.numbers.sealed ≡ e.numbers.sealed
    ready = ap (λ (y : End). y.numbers.sealed) (ready_leaves e now)

    closing : (y : End) → y.numbers.sealed ≡ e.numbers.sealed → Owes y → GivesClose p e now (SealsOn p e) y
    closing y same due = (
      (omega arith, tt),
      λ f goes.
          let d : Draft = draft_as (poll.closing f) y in
          let closes : closes_of (sent_as e now d) ≡ true = ap (λ (b : Bool). b || list_any is_close (replicate (zeros_behind d) padding)) (closes_is f (close_is p y due f goes)) in
          let room = close_sealed p y f goes in
          (omega arith, (omega arith, (λ ordinary. (let clash : true ≡ false = sym closes ∙ ordinary in cc)), tt)),
    )

-- ---- the group

-- x gives: its key sealed what it gave, and no more than it may
pub record Seals (x y : Party) : Type 0 where
  pub sealed : x.end.numbers.sealed ≡ length x.sents
  pub each : AreLet x.policy.seals 0 x.sents

-- any call
call_seals : (p : Policy) (e : End) (theirs : List (List ℕ)) (call : Call) (a : Answer) → IsAnswer p e theirs call a → fails a ≡ false → Owes e
    → ((after_call p e theirs call a).numbers.sealed ≡ e.numbers.sealed + length (sents_by p e call a)) × AreLet p.seals e.numbers.sealed (sents_by p e call a)
call_seals p e theirs (calls.Poll now) a is served owes =
    subst (λ (b : Answer). ((polled p e now).end.numbers.sealed ≡ e.numbers.sealed + length (sents_by p e (calls.Poll now) b)) × AreLet p.seals e.numbers.sealed (sents_by p e (calls.Poll now) b)) (sym (poll_answer p e now a is served)) (poll_seals p e now owes)
call_seals p e theirs call a is served owes = (let same = seals_stay p e theirs call a refl in omega arith, tt)

pub seals_group : Group PacketsHold Seals
seals_group = record {
  first = λ x y m there here. record { sealed = refl; each = tt };
  writer = λ x y call a c before back.
      let more = call_seals x.policy x.end y.given call a c.answer c.served c.gives.owes in
      let all = length-append x.sents (sents_by x.policy x.end call a) in
      let was = before.sealed in
      record {
        sealed = let on = more.0 in omega arith;
        each = let_more x.policy.seals 0 x.sents (sents_by x.policy x.end call a) before.each (subst (λ (n : ℕ). AreLet x.policy.seals n (sents_by x.policy x.end call a)) (was ∙ sym (none_more (length x.sents))) more.1);
      };
  reader = λ x y call a c before back. record { sealed = back.sealed; each = back.each };
  shows = λ x y here there b back s t. record { sealed = s.sealed; each = s.each };
}

-- ---- the clause

module _ (r : Run) (end : World) (honest : IsHonest r) (side : Side) (i : ℕ) (at : Placed (And Observed Seals) r end side i) where
  abbrev here : Party
  here = party_at r i at.world side at.sents

  own : sents_until r side i ≡ at.sents
  own = own_at r end honest side i (placed_less (And Observed Seals) Sight r end side i (λ x y h. h.0.1) at)

  given : given_until r side i ≡ here.given
  given = given_here r end honest side i (placed_less (And Observed Seals) PacketsHold r end side i (λ x y h. h.0.0) at)

  last_at : (length (given_until r side i) ≤ (policy_at side r.keys).seals) × ((place : ℕ) (s : Sent) → slice_get (sents_until r side i) place ≡ Some s → closes_of s ≡ false → place + seals_kept < (policy_at side r.keys).seals)
  last_at = (
    let all = let_length here.policy.seals 0 at.sents (omega arith) at.gives.1.each in
        let same = step_length (IsSent here.policy) at.sents here.given at.gives.0.0.gives.each in
        let long = ap length given in
        omega arith,
    λ place s is ordinary. subst (λ (n : ℕ). n + seals_kept < here.policy.seals) (none_more place) (let_each here.policy.seals 0 place at.sents s (subst (λ (ss : List Sent). slice_get ss place ≡ Some s) own is) at.gives.1.each ordinary),
  )

-- the clause, where what is observed, and what was sealed, hold at each place
pub keys_last : (r : Run) (end : World) → IsHonest r → ((side : Side) (i : ℕ) → AreServed r i → Placed (And Observed Seals) r end side i) → KeysLast r
keys_last r end honest all side i served = last_at r end honest side i (all side i served)
