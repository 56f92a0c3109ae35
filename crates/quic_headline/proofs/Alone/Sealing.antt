-- An end seals each datagram under a number above those before, and no more than its key may,
-- whatever is handed to it: a call that fails gives nothing, and nothing goes behind it.
use Rattle.std.proofs.Common.{◌≡◌, ℕ, ◌+◌, ◌-◌, ◌^◌, ◌<◌, ◌≤◌, Bool, true, false, List, [], ◌∷◌, ◌++◌, length, Some, Ok, refl, sym, ap, ◌∙◌, subst, inl, inr, arith}
use Rattle.std.proofs.lemmas.Bool.{ltb-true}
use Rattle.quic_packet.specs.Datagram.{sent}
use Rattle.quic_spaces.specs.Numbers.{Numbers, cut_against}
use Rattle.quic_machine.specs.declared.answers.State.{State}
use Rattle.quic_machine.specs.declared.answers.State.TheVariants as states
use Rattle.quic_machine.specs.declared.run.Call.{Call}
use Rattle.quic_machine.specs.declared.run.Call.TheVariants as calls
use Rattle.quic_machine.specs.declared.run.Answer.{Answer}
use Rattle.quic_machine.specs.declared.run.Answer.TheVariants as answers
use Rattle.quic_machine.specs.Policy.{Policy}
use Rattle.quic_machine.specs.Control.{Control}
use Rattle.quic_machine.specs.Heard.{Heard}
use Rattle.quic_machine.specs.Ids.{Ids}
use Rattle.quic_machine.specs.Closing.{Closing, ticked}
use Rattle.quic_machine.specs.End.{End, number_of, with_closing, closed_by}
use Rattle.quic_machine.specs.DraftLaws.{MayLeave}
use Rattle.quic_machine.specs.Poll.{Polled, Draft, Leaving, payload_of, datagram_of, draft_as, closes, polled_in, polled}
use Rattle.quic_machine.specs.Poll as poll
use Rattle.quic_machine.specs.PollCases.{at_poll, by_poll, bounds_none, composes, given_as, gives_as}
use Rattle.quic_machine.specs.Machine.{IsAnswer, IsLeft, after_call, gives, reads_window, end_left, fails}
use Rattle.quic_headline.specs.Alone.{Lone, IsLoneStep, GivesAlone}
use Rattle.quic_headline.specs.Nonces.{IsSealed, SealedInTurn, SealsOnce}
use Rattle.quic_headline.proofs.Packets.Invariant.{IsBehind}
use Rattle.quic_headline.proofs.Packets.Given.{allocated_near, draft_number, number_small}
use Rattle.quic_headline.proofs.Packets.Stays.{stays_call}
use Rattle.quic_headline.proofs.Packets.Probes.{may_leave}
use Rattle.quic_headline.proofs.Packets.Closes.{by_closes}
use Rattle.quic_headline.proofs.Packets.CloseForms.{close_sealed, close_small}
use Rattle.quic_headline.proofs.Places.Steps.{poll_answer}
use Rattle.quic_headline.proofs.Causes.Sealed.{seals_stay}
use Rattle.quic_headline.proofs.Causes.Turns.{Turns, kept, asked, went, shut, ended, lapsed, turns}
use Rattle.quic_headline.proofs.Alone.Places.{made_holds}

-- ---- one call

-- what a call seals, at an end with these numbers, and which it leaves: nothing, or one datagram
data Seals (p : Policy) (before : Numbers) (ds : List (List ℕ)) (after : Numbers) : Type 0 where
  none : ds ≡ [] → after.next ≡ before.next → after.sealed ≡ before.sealed → IsBehind after → Seals p before ds after
  one : (d : List ℕ) (number : ℕ) → ds ≡ d ∷ [] → before.next ≤ number → number ≤ before.next + 1 → IsSealed p before.next number d → before.sealed < p.seals
      → after.next ≡ number + 1 → after.sealed ≡ before.sealed + 1 → IsBehind after → Seals p before ds after

-- what goes is sealed under the number of its end
draft_sealed : (p : Policy) (leaving : Leaving) (e : End) → (number_of e < 2 ^ 62) × (number_of e - cut_against e.numbers < 2 ^ 31) → MayLeave leaving e → IsBehind e.numbers → IsSealed p e.numbers.next (number_of e) (datagram_of p (draft_as leaving e))
draft_sealed p leaving e small may behind =
    let c = composes leaving e may in
    let d : Draft = draft_as leaving e in
    record {
      reference = cut_against e.numbers;
      id = e.ids.peer.id;
      payload = payload_of d;
      small = small.0;
      behind = behind;
      near = small.1;
      is = ap (λ (n : ℕ). sent p.header p.packet n (cut_against d.end.numbers) d.end.ids.peer.id (payload_of d)) (draft_number leaving e may)
          ∙ ap (λ (x : Numbers). sent p.header p.packet (number_of e) (cut_against x) d.end.ids.peer.id (payload_of d)) c.numbers
          ∙ ap (λ (x : Ids). sent p.header p.packet (number_of e) (cut_against e.numbers) x.peer.id (payload_of d)) c.ids;
    }

module _ (p : Policy) (e : End) (now : ℕ) (behind : IsBehind e.numbers) where
  -- what a poll seals
  abbrev Of : Polled → Type 0
  Of q = Seals p e.numbers (given_as q.answer q.datagram) q.end.numbers

  near : (e.numbers.next ≤ number_of e) × (number_of e ≤ e.numbers.next + 1)
  near = allocated_near e.filter e.numbers.next

  -- an end with these numbers gives its close, or nothing
  close_seals : (y : End) → y.numbers ≡ e.numbers → y.filter ≡ e.filter → Of (closes p y)
  close_seals y same filter = rw (← same) (by_closes p y (λ (q : Polled). Seals p y.numbers (given_as q.answer q.datagram) q.end.numbers) (none refl refl refl (rw same behind)) (λ f goes.
      let small = close_small p y f goes in
      let next = allocated_near y.filter y.numbers.next in
      let low : IsBehind y.numbers = rw same behind in
      one (datagram_of p (draft_as (poll.closing f) y)) (number_of y) refl next.0 next.1
      (record { reference = cut_against y.numbers; id = y.ids.peer.id; payload = payload_of (draft_as (poll.closing f) y); small = small.0; behind = low; near = small.1; is = refl })
      (close_sealed p y f goes) refl refl (omega arith)))

  poll_seals : Of (polled p e now)
  poll_seals = by_poll p e now Of (record {
    silent = none refl refl refl behind;
    failed = none refl refl refl behind;
    repeats = λ is. close_seals (with_closing e (ticked e.closing now)) refl refl;
    nothing = λ c. none refl refl refl behind;
    closes = λ reason c bound. close_seals (closed_by reason (at_poll e now c)) refl refl;
    gives = λ leaving c left is bound ready some.
        let y : End = at_poll e now c in
        let may : MayLeave leaving y = may_leave e now leaving y ready in
        let d : Draft = draft_as leaving y in
        let same : d.end.numbers ≡ e.numbers = (composes leaving y may).numbers in
        let lets = bounds_none p e bound in
        let room = ltb-true (e.numbers.sealed + poll.kept_seals) p.seals lets.1 in
        let number : number_of d.end ≡ number_of e = draft_number leaving y may in
        let sealed = ap (λ (x : Numbers). x.sealed) same in
        let cut = ap (λ (x : Numbers). cut_against x) same in
        let next = near in
        let low = behind in
        one (datagram_of p d) (number_of e) refl near.0 near.1 (draft_sealed p leaving y (number_small e.filter e.numbers lets.0) may behind) (omega arith) (omega arith) (omega arith) (omega arith);
  })

-- any call that doesn't fail
call_seals : (p : Policy) (e : End) (theirs : List (List ℕ)) (call : Call) (a : Answer) → IsAnswer p e theirs call a → fails a ≡ false → IsBehind e.numbers → Seals p e.numbers (gives p e call a) (after_call p e theirs call a).numbers
call_seals p e theirs (calls.Poll now) a is served behind =
    let said = poll_answer p e now a is served in
    let all : gives p e (calls.Poll now) a ≡ given_as (polled p e now).answer (polled p e now).datagram = ap (λ (x : Answer). gives p e (calls.Poll now) x) said ∙ gives_as p e now (polled p e now).answer in
    rw all (poll_seals p e now behind)
call_seals p e theirs call a is served behind = let stays = stays_call p e theirs call a refl in none refl stays.next (seals_stay p e theirs call a refl) (stays.behind behind)

-- ---- an end that failed

-- a call that fails gives nothing
pub failing_gives : (p : Policy) (e : End) (call : Call) (a : Answer) → fails a ≡ true → gives p e call a ≡ []
failing_gives p e (calls.Poll now) (answers.Poll (Ok (Some transmit))) is = cc
failing_gives p e call a is = refl

-- nor does any call at an end that failed
pub failed_gives : (p : Policy) (e : End) (theirs : List (List ℕ)) (call : Call) (a : Answer) → IsAnswer p e theirs call a → e.closing.state ≡ states.Failed → gives p e call a ≡ []
failed_gives p e theirs (calls.Poll now) a (inl is) failed =
    ap (λ (x : Answer). gives p e (calls.Poll now) x) (is ∙ ap (λ (s : State). answers.Poll (polled_in s p e now).answer) failed)
failed_gives p e theirs (calls.Poll now) a (inr is) failed = ap (λ (x : Answer). gives p e (calls.Poll now) x) is
failed_gives p e theirs call a is failed = refl

-- it stays so
turned_failed : (b c : Closing) (call : Call) (a : Answer) → b.state ≡ states.Failed → Turns b call a c → c.state ≡ states.Failed
turned_failed b c call a failed (kept same owed still) = same.state ∙ failed
turned_failed b c call a failed (asked here same owed gave asks) = same.state ∙ failed
turned_failed b c call a failed (went here same owed gave) = same.state ∙ failed
turned_failed b c call a failed (shut here state reason for f close says owed) = let clash : states.Open ≡ states.Failed = sym here ∙ failed in cc
turned_failed b c call a failed (ended here state reason close) = let clash : states.Closing ≡ states.Failed = sym here ∙ failed in cc
turned_failed b c call a failed (lapsed here state close) = let clash : states.Open ≡ states.Failed = sym here ∙ failed in cc

-- ---- calls one behind another

module _ (p : Policy) (theirs : List (List ℕ)) where
  -- a poll reads no number, and no state
  read_numbers : (control : Control) (heard : Heard) (call : Call) (e : End) → (reads_window control heard call e).numbers ≡ e.numbers
  read_numbers control heard (calls.Poll now) e = refl
  read_numbers control heard call e = refl

  pub read_state : (control : Control) (heard : Heard) (call : Call) (e : End) → (reads_window control heard call e).closing.state ≡ e.closing.state
  read_state control heard (calls.Poll now) e = refl
  read_state control heard call e = refl

  -- the end behind a call that doesn't fail, and behind one that does
  pub left_is : (x next : Lone) (call : Call) (a : Answer) → IsLoneStep p theirs x call a next → fails a ≡ false → next.end ≡ end_left p x.control x.heard x.end theirs call a
  left_is x next call a s served = subst (λ (b : Bool). IsLeft b p x.control x.heard x.end theirs call a next.end) served s.end

  pub stops : (x next : Lone) (call : Call) (a : Answer) → IsLoneStep p theirs x call a next → fails a ≡ true → next.end.closing.state ≡ states.Failed
  stops x next call a s failing = (subst (λ (b : Bool). IsLeft b p x.control x.heard x.end theirs call a next.end) failing s.end).0

  pub stays_failed : (x next : Lone) (call : Call) (a : Answer) → IsLoneStep p theirs x call a next → x.end.closing.state ≡ states.Failed → next.end.closing.state ≡ states.Failed
  stays_failed x next call a s failed = go (fails a) refl
    where
      e : End
      e = reads_window x.control x.heard call x.end

      go : (b : Bool) → fails a ≡ b → next.end.closing.state ≡ states.Failed
      go true failing = stops x next call a s failing
      go false served = ap (λ (y : End). y.closing.state) (left_is x next call a s served)
          ∙ turned_failed e.closing (after_call p e theirs call a).closing call a (read_state x.control x.heard call x.end ∙ failed) (turns p e theirs call a s.answer served)

  -- an end that failed gives nothing more
  failed_none : (x : Lone) (cs : List Call) (told : List Answer) (ds : List (List ℕ)) (left : Lone) → GivesAlone p theirs x cs told ds left → x.end.closing.state ≡ states.Failed → ds ≡ []
  failed_none x [] [] ds left g failed = g.0
  failed_none x [] (a ∷ told) ds left g failed = absurd g
  failed_none x (c ∷ cs) [] ds left g failed = absurd g
  failed_none x (c ∷ cs) (a ∷ told) ds left g failed =
      let first = failed_gives p (reads_window x.control x.heard c x.end) theirs c a g.2.answer (read_state x.control x.heard c x.end ∙ failed) in
      let rest = failed_none g.0 cs told g.1 left g.4 (stays_failed x g.0 c a g.2 failed) in
      g.3 ∙ ap (λ (xs : List (List ℕ)). xs ++ g.1) first ∙ rest

  -- what an end gives from a number on, where its key sealed so many packets before
  abbrev From : Numbers → List (List ℕ) → Type 0
  From n ds = SealedInTurn p n.next ds × (n.sealed + length ds ≤ p.seals)

  nothing_from : (n : Numbers) (ds : List (List ℕ)) → n.sealed ≤ p.seals → ds ≡ [] → From n ds
  nothing_from n ds few is = rw is (tt, omega arith)

  -- what a call seals goes before what goes from the numbers that it leaves
  sealed_before : (before after : Numbers) (first more : List (List ℕ)) → Seals p before first after → From after more → From before (first ++ more)
  sealed_before before after first more (none is next sealed behind) rest =
      let few = rest.1 in
      rw is (subst (λ (n : ℕ). SealedInTurn p n more) next rest.0, omega arith)
  sealed_before before after first more (one d number is low high seal room next sealed behind) rest =
      let few = rest.1 in
      rw is ((number, low, high, seal, subst (λ (n : ℕ). SealedInTurn p n more) next rest.0), omega arith)

  sealed_behind : (before after : Numbers) (ds : List (List ℕ)) → Seals p before ds after → IsBehind after
  sealed_behind before after ds (none is next sealed behind) = behind
  sealed_behind before after ds (one d number is low high seal room next sealed behind) = behind

  sealed_few : (before after : Numbers) (ds : List (List ℕ)) → Seals p before ds after → before.sealed ≤ p.seals → after.sealed ≤ p.seals
  sealed_few before after ds (none is next sealed behind) few = omega arith
  sealed_few before after ds (one d number is low high seal room next sealed behind) few = omega arith

  sealed_from : (x : Lone) (cs : List Call) (told : List Answer) (ds : List (List ℕ)) (left : Lone) → GivesAlone p theirs x cs told ds left → IsBehind x.end.numbers → x.end.numbers.sealed ≤ p.seals → From x.end.numbers ds
  sealed_from x [] [] ds left g behind few = nothing_from x.end.numbers ds few g.0
  sealed_from x [] (a ∷ told) ds left g behind few = absurd g
  sealed_from x (c ∷ cs) [] ds left g behind few = absurd g
  sealed_from x (c ∷ cs) (a ∷ told) ds left g behind few = go (fails a) refl (sealed_from g.0 cs told g.1 left g.4)
    where
      e : End
      e = reads_window x.control x.heard c x.end

      same : e.numbers ≡ x.end.numbers
      same = read_numbers x.control x.heard c x.end

      go : (b : Bool) → fails a ≡ b → (IsBehind g.0.end.numbers → g.0.end.numbers.sealed ≤ p.seals → From g.0.end.numbers g.1) → From x.end.numbers ds
      go true failing others = nothing_from x.end.numbers ds few (g.3 ∙ ap (λ (xs : List (List ℕ)). xs ++ g.1) (failing_gives p e c a failing) ∙ failed_none g.0 cs told g.1 left g.4 (stops x g.0 c a g.2 failing))
      go false served others =
          let there : (after_call p e theirs c a).numbers ≡ g.0.end.numbers = ap (λ (y : End). y.numbers) (sym (left_is x g.0 c a g.2 served)) in
          let seals : Seals p x.end.numbers (gives p e c a) g.0.end.numbers = subst (λ (n : Numbers). Seals p x.end.numbers (gives p e c a) n) there
          (subst (λ (n : Numbers). Seals p n (gives p e c a) (after_call p e theirs c a).numbers) same (call_seals p e theirs c a g.2.answer served (subst IsBehind (sym same) behind))) in
          let rest = others (sealed_behind x.end.numbers g.0.end.numbers (gives p e c a) seals) (sealed_few x.end.numbers g.0.end.numbers (gives p e c a) seals few) in
          subst (From x.end.numbers) (sym g.3) (sealed_before x.end.numbers g.0.end.numbers (gives p e c a) g.1 seals rest)

-- from an end as it was made on
pub seals_once : (p : Policy) (theirs : List (List ℕ)) (x left : Lone) (calls : List Call) (told : List Answer) (given : List (List ℕ)) → SealsOnce p theirs x calls told given left
seals_once p theirs x left cs told given new g =
    let first : (x.end.numbers.next ≡ 0) × (x.end.numbers.sealed ≡ 0) × (cut_against x.end.numbers ≡ 0) = made_holds (λ (e : End). (e.numbers.next ≡ 0) × (e.numbers.sealed ≡ 0) × (cut_against e.numbers ≡ 0)) x.end new (λ peer. (refl, refl, refl)) in
    let next = first.0 in
    let sealed = first.1 in
    let cut = first.2 in
    let all = sealed_from p theirs x cs told given left g (omega arith) (omega arith) in
    let few = all.1 in
    record { numbers = subst (λ (n : ℕ). SealedInTurn p n given) next all.0; few = omega arith }
