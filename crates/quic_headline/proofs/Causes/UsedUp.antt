-- An end that closed for used-up numbers had used them up by what it gave beside closes: a group
-- over the packets, and the clause.
use Rattle.std.proofs.Common.{◌≡◌, ℕ, suc, ◌+◌, ◌≤◌, Bool, true, false, not, List, ◌++◌, Option, Some, None, inl, inr, refl, sym, ap, ◌∙◌, subst, arith}
use Rattle.std.specs.Prelude.{if◌then◌else◌}
use Rattle.quic_spaces.specs.Numbers.{can_number}
use Rattle.quic_wire_core.specs.declared.stream_id.Side.{Side}
use Rattle.quic_wire_core.specs.StreamId.{other_side}
use Rattle.quic_wire.specs.Value.{FrameValue}
use Rattle.quic_machine.specs.declared.answers.State.{State}
use Rattle.quic_machine.specs.declared.answers.State.TheVariants as states
use Rattle.quic_machine.specs.declared.answers.LostReason.{LostReason}
use Rattle.quic_machine.specs.declared.answers.LostReason.TheVariants as reasons
use Rattle.quic_machine.specs.declared.run.Call.{Call}
use Rattle.quic_machine.specs.declared.run.Answer.{Answer}
use Rattle.quic_machine.specs.Closing.{Closing}
use Rattle.quic_machine.specs.Policy.{Policy}
use Rattle.quic_machine.specs.End.{End}
use Rattle.quic_machine.specs.Receive.{Fault, broke, too_many_pieces, closed_by_peer, Outcome, reason_of}
use Rattle.quic_machine.specs.Poll.{bounds, may_seal}
use Rattle.quic_machine.specs.Machine.{World, after_call}
use Rattle.quic_machine.specs.CallCases.{is_delivery}
use Rattle.quic_machine.specs.FrameCases.{begun}
use Rattle.quic_headline.specs.Runs.{Run, Intake, acknowledged, AreServed}
use Rattle.quic_headline.specs.Observer.{Sent, Watch, watch, sents_until, next_number}
use Rattle.quic_headline.specs.Headline.{IsHonest}
use Rattle.quic_headline.specs.Causes.{ordinary, AreUsedUp, NumberLimit}
use Rattle.quic_headline.proofs.Packets.Invariant.{Knows, KnowsIn}
use Rattle.quic_headline.proofs.Packets.Delivered.{frames_at, Arrivals, arrived, with_taken}
use Rattle.quic_headline.proofs.Packets.Moved.{by_migrated}
use Rattle.quic_headline.proofs.Packets.Stays.{Keeps, keeps_frames}
use Rattle.quic_headline.proofs.Packets.Group.{PacketsHold, meets}
use Rattle.quic_headline.proofs.Packets.Sight.{Sight}
use Rattle.quic_headline.proofs.Places.Parties.{sents_by, Party, called, came_to}
use Rattle.quic_headline.proofs.Places.Groups.{Way, Calls, Group}
use Rattle.quic_headline.proofs.Places.Coming.{by_coming}
use Rattle.quic_headline.proofs.Places.Placed.{party_at, Placed, watch_is}
use Rattle.quic_headline.proofs.Places.Openings.{took_is}
use Rattle.quic_headline.specs.Reasons.{Explains}
use Rattle.quic_headline.proofs.Causes.Closing.{used_up}
use Rattle.quic_headline.proofs.Causes.Ordinary.{ordinary_of, ordinary_next, Unclosed}
use Rattle.quic_headline.proofs.Causes.Reasons.{call_keeps}
use Rattle.quic_headline.proofs.Causes.Why.{Cause, was, applies, bound, refuses, exhausts, idles, call_why}
use Rattle.quic_headline.proofs.Causes.Shown.{reason_shown}

-- an end that gave these says why it isn't open, and where it closed for used-up numbers they are
-- used up, by what came to it
pub record IsShut (sents : List Sent) (e : End) (i : Intake) : Type 0 where
  pub used : e.closing.reason ≡ Some reasons.NumberLimit → AreUsedUp (next_number (ordinary_of sents)) (acknowledged i.took)
  pub explained : Explains e.closing.state e.closing.reason

-- an open end has no reason to be closed
open_free : (state : State) (o : Option LostReason) → Explains state o → state ≡ states.Open → (reason : LostReason) → o ≡ Some reason → ⊥
open_free states.Open None explained is reason same = cc
open_free states.Open (Some other) explained is reason same = absurd explained
open_free states.Closing o explained is reason same = cc
open_free states.Drained o explained is reason same = cc
open_free states.Failed o explained is reason same = cc

-- numbers that are used up stay so as more are given
used_more : (n m named : ℕ) → n ≤ m → AreUsedUp n named → AreUsedUp m named
used_more n m named up (inl far) = inl (omega arith)
used_more n m named up (inr wide) = inr (omega arith)

-- also where it gave more
shut_more : (sents more : List Sent) (e : End) (i : Intake) → IsShut sents e i → IsShut (sents ++ more) e i
shut_more sents more e i s = record { used = λ is. used_more _ _ (acknowledged i.took) (ordinary_next sents more) (s.used is); explained = s.explained }

-- a frame at fault is no reason of numbers
no_limit : (f : Fault) → reason_of f ≡ reasons.NumberLimit → ⊥
no_limit (broke error) is = cc
no_limit too_many_pieces is = cc
no_limit (closed_by_peer close) is = cc

same_reason : (x y : LostReason) → Some x ≡ Some y → x ≡ y
same_reason x y is = cc

-- where numbers are the bound, none may be given
limit_numbers : (p : Policy) (e : End) → bounds p e ≡ Some reasons.NumberLimit → can_number e.numbers ≡ false
limit_numbers p e limit = go (can_number e.numbers) (may_seal p e) refl limit
  where
    go : (numbered sealed : Bool) → can_number e.numbers ≡ numbered → (if not numbered then Some reasons.NumberLimit else (if not sealed then Some reasons.KeyLimit else None)) ≡ Some reasons.NumberLimit → can_number e.numbers ≡ false
    go false sealed here is = here
    go true true here is = cc
    go true false here is = cc

-- ---- any call but a delivery

module _ (p : Policy) (e : End) (theirs : List (List ℕ)) (call : Call) (a : Answer) (i : Intake) (apart : is_delivery call ≡ false) (k : KnowsIn e.closing.state e.numbers i)
    (sents : List Sent) (next : e.numbers.next ≡ next_number sents) (all : e.closing.state ≡ states.Open → ordinary_of sents ≡ sents) (s : IsShut sents e i) where
  -- where it closes for used-up numbers, they were used up before
  before : Cause p e call a reasons.NumberLimit → AreUsedUp (next_number (ordinary_of sents)) (acknowledged i.took)
  before (was old) = s.used old
  before (applies close is here for) = cc
  before (bound here limit) =
      let knows : Knows e.numbers i = subst (λ (state : State). KnowsIn state e.numbers i) here k in
      subst (λ (n : ℕ). AreUsedUp n (acknowledged i.took)) (next ∙ ap next_number (sym (all here))) (subst (AreUsedUp e.numbers.next) knows.named (used_up e.numbers (limit_numbers p e limit)))
  before (refuses f for) = absurd (no_limit f for)
  before (exhausts here last for) = cc
  before (idles now is here come for) = cc

  shut_call : (more : List Sent) → IsShut (sents ++ more) (after_call p e theirs call a) i
  shut_call more = record {
    used = λ shown. used_more _ _ (acknowledged i.took) (ordinary_next sents more) (before (call_why p e theirs call a reasons.NumberLimit shown));
    explained = call_keeps p e theirs call a s.explained;
  }

-- in each case of a delivery
shut_arrivals : (sents : List Sent) (e : End) (now n : ℕ) (frames taken : List FrameValue) (i : Intake) → IsShut sents e i → Arrivals e now n frames taken i (λ (o : Outcome) (j : Intake). IsShut sents o.end j)
shut_arrivals sents e now n frames taken i s = record {
  ignored = λ reason. s;
  noted = λ state reason. record { used = s.used; explained = s.explained };
  takes = λ words still_open new none urged mark. record {
    used = λ shown. absurd (open_free e.closing.state e.closing.reason s.explained still_open reasons.NumberLimit (sym (ap (λ (c : Closing). c.reason) left.closing) ∙ shown));
    explained = subst (λ (c : Closing). Explains c.state c.reason) (sym left.closing) s.explained;
  };
  moves = λ p o same remote x opened left_so. by_migrated (λ (z : End). IsShut sents z (with_taken i n frames)) p o remote x (λ c. record { used = left_so.used; explained = left_so.explained }) (λ c most. record { used = left_so.used; explained = left_so.explained });
  drains = λ words still_open new close is. record { used = λ shown. absurd (no_limit (closed_by_peer close) (same_reason _ reasons.NumberLimit shown)); explained = tt };
  refuses = λ words still_open new f is. record { used = λ shown. absurd (no_limit f (same_reason _ reasons.NumberLimit shown)); explained = tt };
  exhausts = λ still_open. record { used = λ shown. (let clash : ◌≡◌ {A = Option LostReason} (Some reasons.KeyLimit) (Some reasons.NumberLimit) = shown in cc); explained = tt };
}
  where
    left : Keeps (begun e now n) (arrived e now n taken).end
    left = keeps_frames taken (begun e now n)

-- ---- the group

-- y takes from x: why it closed is so
abbrev pub Shut : Way
Shut x y = IsShut y.sents y.end (came_to y x)

module _ (B : Way) (packets : (x y : Party) → B x y → PacketsHold x y) (unclosed : (x y : Party) → B x y → Unclosed x y) where
  -- x makes a call, and takes from y
  shut_on : (x y : Party) (call : Call) (a : Answer) → Calls B x y call a → Shut x y → Shut y x → Shut y (called x y.given call a)
  shut_on x y call a c there s =
      let p : PacketsHold y x = packets y x c.takes in
      let more : List Sent = sents_by x.policy x.end call a in
      let all : IsShut (x.sents ++ more) x.end (came_to x y) = shut_more x.sents more x.end (came_to x y) s in
      by_coming x y a c.joined c.served (meets y x p) (λ (e : End) (i : Intake). IsShut (x.sents ++ more) e i) call c.answer (record {
        apart = λ apart. shut_call x.policy x.end y.given call a (came_to x y) apart p.knows x.sents (packets x y c.gives).gives.next (unclosed x y c.gives) s more;
        none = λ delivery is. all;
        comes = λ delivery is sent among here. shut_arrivals (x.sents ++ more) x.end delivery.now sent.number sent.frames (frames_at here sent.frames) (came_to x y) all;
      })

  pub shut_group : Group B Shut
  shut_group = record {
    first = λ x y m there here. record { used = λ is. cc; explained = tt };
    writer = λ x y call a c s back. s;
    reader = shut_on;
    shows = λ x y here there b back s t. record { used = s.used; explained = s.explained };
  }

-- ---- the clause

-- What it rests on at a place.
pub record SaysWhyShut (G : Way) : Type 1 where
  pub sight : (x y : Party) → G x y → Sight x y
  pub shut : (x y : Party) → G x y → Shut x y

module _ (G : Way) (g : SaysWhyShut G) (r : Run) (end : World) (honest : IsHonest r) (all : (side : Side) (i : ℕ) → AreServed r i → Placed G r end side i) where
  -- an end closes for used-up numbers only where they are
  pub number_limit : NumberLimit r
  number_limit side place shows = subst (λ (n : ℕ). AreUsedUp (next_number (ordinary r side n)) (acknowledged (watch r side n).intake.took)) (sym next) at_place
    where
      next : place + 1 ≡ suc place
      next = omega arith

      p : Placed G r end side (suc place)
      p = all side (suc place) (subst (AreServed r) next shows.served)

      x : Party
      x = party_at r (suc place) p.world side p.sents

      y : Party
      y = party_at r (suc place) p.world (other_side side) p.theirs

      -- why it closed, as the view shows
      reason : x.end.closing.reason ≡ Some reasons.NumberLimit
      reason = reason_shown G r end side place (Some reasons.NumberLimit) shows p

      own : sents_until r side (suc place) ≡ x.sents
      own = ap (λ (w : Watch). w.own) (watch_is r honest p.world (suc place) side p.sents p.theirs) ∙ (g.sight x y p.gives).own

      at_place : AreUsedUp (next_number (ordinary r side (suc place))) (acknowledged (watch r side (suc place)).intake.took)
      at_place = subst (λ (i : Intake). AreUsedUp (next_number (ordinary r side (suc place))) (acknowledged i.took)) (sym (took_is r honest p.world (suc place) side p.sents p.theirs))
          (subst (λ (ss : List Sent). AreUsedUp (next_number (ordinary_of ss)) (acknowledged (came_to x y).took)) (sym own) ((g.shut y x p.takes).used reason))
