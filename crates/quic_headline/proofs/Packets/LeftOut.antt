-- The numbers that an end left out are drawn of its random source, and so is the one that it leaves
-- out next: each call keeps that.
use Rattle.std.proofs.Common.{◌≡◌, ◌⊎◌, ℕ, ◌+◌, ◌≤◌, ◌%◌, ◌^◌, min, max, Bool, true, false, List, [], ◌∷◌, ◌++◌, refl, sym, ap, ◌∙◌, subst, inl, inr, arith}
use Rattle.std.specs.Prelude.{if◌then◌else◌, ◌==◌}
use Rattle.std.proofs.lemmas.Bool.{eqb-true, eq-eqb, ne_eqb}
use Rattle.std.proofs.lemmas.List.{append-nil, append_assoc}
use Rattle.quic_spaces.specs.Numbers.{Numbers}
use Rattle.quic_spaces.specs.Filter.{Filter, is_skipped, allocated, after_skipped, after_allocated}
use Rattle.quic_machine.specs.declared.run.Call.{Call}
use Rattle.quic_machine.specs.declared.run.Call.TheVariants as calls
use Rattle.quic_machine.specs.declared.run.Answer.{Answer}
use Rattle.quic_machine.specs.declared.run.Answer.TheVariants as answers
use Rattle.quic_machine.specs.Policy.{Policy}
use Rattle.quic_machine.specs.Closing.{ticked}
use Rattle.quic_machine.specs.End.{End, words_drawn, with_closing, closed_by}
use Rattle.quic_machine.specs.DraftLaws.{HasRoom, MayLeave}
use Rattle.quic_machine.specs.Poll.{Polled, Draft, draft_as, polled, Leaving}
use Rattle.quic_machine.specs.Poll as poll
use Rattle.quic_machine.specs.PollCases.{ready_at, draft_at, composes, poll_left, ready_leaves, may_leave_at}
use Rattle.quic_machine.specs.Machine.{after_call, gave}
use Rattle.quic_machine.specs.CallCases.{is_poll}
use Rattle.quic_headline.specs.Observer.{Sent, next_number}
use Rattle.quic_headline.specs.LeftOut.{left_out, IsDrawn, AreDrawn, AreLeftOut}
use Rattle.quic_headline.proofs.Packets.Invariant.{RisingFrom}
use Rattle.quic_headline.proofs.Packets.CloseForms.{OwesWell, close_well, bound_well}
use Rattle.quic_headline.proofs.Packets.Searches.{ready_room}
use Rattle.quic_headline.proofs.Packets.Sends.{GivesClose, by_sends}
use Rattle.quic_headline.proofs.Packets.Probes.{by_going}
use Rattle.quic_headline.proofs.Packets.Stays.{stays_call}
use Rattle.quic_headline.proofs.Packets.Group.{PacketsHold, has_room}
use Rattle.quic_headline.proofs.Places.Parties.{sent_as, sent_by, sent_if, sents_by, Party, called}
use Rattle.quic_headline.proofs.Places.Groups.{Calls, Group}
use Rattle.quic_headline.proofs.Places.Steps.{poll_answer}

-- ---- one datagram more

-- the number that may come behind these
abbrev pub behind_of : ℕ → List Sent → ℕ
behind_of low [] = low
behind_of low (s ∷ ss) = behind_of (s.number + 1) ss

none_behind : (low : ℕ) → low ≡ max low 0
none_behind low = omega arith

one_behind : (low n behind next : ℕ) → low ≤ n → behind ≡ max (n + 1) next → behind ≡ max low (max (n + 1) next)
one_behind low n behind next first later = omega (arith, first, later)

behind_is : (low : ℕ) (ss : List Sent) → RisingFrom low ss → behind_of low ss ≡ max low (next_number ss)
behind_is low [] rising = none_behind low
behind_is low (s ∷ ss) rising = one_behind low s.number (behind_of (s.number + 1) ss) (next_number ss) rising.0 (behind_is (s.number + 1) ss rising.2)

-- it leaves out the one that may come, or none
left_more : (low : ℕ) (ss : List Sent) (s : Sent) → left_out low (ss ++ s ∷ []) ≡ left_out low ss ++ (if s.number == behind_of low ss then [] else behind_of low ss ∷ [])
left_more low [] s = append-nil (if s.number == low then [] else low ∷ [])
left_more low (t ∷ ss) s =
    ap (λ (ns : List ℕ). (if t.number == low then [] else low ∷ []) ++ ns) (left_more (t.number + 1) ss s)
    ∙ sym (append_assoc (if t.number == low then [] else low ∷ []) (left_out (t.number + 1) ss) (if s.number == behind_of (t.number + 1) ss then [] else behind_of (t.number + 1) ss ∷ []))

-- ---- which are drawn

-- for which power the next is drawn behind these
abbrev pub power_behind : ℕ → List ℕ → ℕ
power_behind exponent [] = exponent
power_behind exponent (n ∷ ns) = power_behind (min (exponent + 1) 62) ns

module _ (words : ℕ → ℕ) where
  drawn_more : (exponent : ℕ) (ns : List ℕ) (n : ℕ) → AreDrawn words exponent ns → IsDrawn words (power_behind exponent ns) n → AreDrawn words exponent (ns ++ n ∷ [])
  drawn_more exponent [] n all one = (one, tt)
  drawn_more exponent (m ∷ ns) n all one = (all.0, drawn_more (min (exponent + 1) 62) ns n all.1 one)

  drawn_less : (exponent : ℕ) (ns : List ℕ) (n : ℕ) → AreDrawn words exponent (ns ++ n ∷ []) → AreDrawn words exponent ns
  drawn_less exponent [] n all = tt
  drawn_less exponent (m ∷ ns) n all = (all.0, drawn_less (min (exponent + 1) 62) ns n all.1)

  power_more : (exponent : ℕ) (ns : List ℕ) (n : ℕ) → power_behind exponent (ns ++ n ∷ []) ≡ min (power_behind exponent ns + 1) 62
  power_more exponent [] n = refl
  power_more exponent (m ∷ ns) n = power_more (min (exponent + 1) 62) ns n

  -- An end that left out none leaves out this number first.
  pub record NoneYet (first : ℕ) (out : List ℕ) (f : Filter) : Type 0 where
    pub none : out ≡ []
    pub next : f.next ≡ first
    pub power : f.exponent ≡ 6

  -- Or it left out that, and others that are drawn, as the next one is.
  pub record SomeDrawn (first : ℕ) (out : List ℕ) (f : Filter) : Type 0 where
    pub others : List ℕ
    pub are : out ≡ first ∷ others
    pub drawn : AreDrawn words 6 (others ++ f.next ∷ [])
    pub power : f.exponent ≡ power_behind 6 (others ++ f.next ∷ [])

  abbrev pub Draws : ℕ → List ℕ → Filter → Type 0
  Draws first out f = NoneYet first out f ⊎ SomeDrawn first out f

  -- so those that were left out are
  pub draws_all : (first : ℕ) (out : List ℕ) (f : Filter) → Draws first out f → AreLeftOut words first out
  draws_all first out f (inl i) = subst (λ (ns : List ℕ). AreLeftOut words first ns) (sym i.none) tt
  draws_all first out f (inr i) = subst (λ (ns : List ℕ). AreLeftOut words first ns) (sym i.are) (refl, drawn_less 6 i.others f.next i.drawn)

  -- one more is left out
  skipped_draws : (first : ℕ) (out : List ℕ) (f : Filter) (k : ℕ) → Draws first out f → Draws first (out ++ f.next ∷ []) (after_skipped f (words k))
  skipped_draws first out f k (inl i) = inr (record {
    others = [];
    are = ap (λ (ns : List ℕ). ns ++ f.next ∷ []) i.none ∙ ap (λ (n : ℕ). n ∷ []) i.next;
    drawn = (record { drawn = k; is = ap (λ (e : ℕ). 2 ^ e + words k % 2 ^ e) i.power }, tt);
    power = ap (λ (e : ℕ). min (e + 1) 62) i.power;
  })
  skipped_draws first out f k (inr i) = inr (record {
    others = i.others ++ f.next ∷ [];
    are = ap (λ (ns : List ℕ). ns ++ f.next ∷ []) i.are;
    drawn = drawn_more 6 (i.others ++ f.next ∷ []) (after_skipped f (words k)).next i.drawn (record { drawn = k; is = ap (λ (e : ℕ). 2 ^ e + words k % 2 ^ e) i.power });
    power = ap (λ (e : ℕ). min (e + 1) 62) i.power ∙ sym (power_more 6 (i.others ++ f.next ∷ []) (after_skipped f (words k)).next);
  })

  -- a datagram goes with the number that is given next
  given_draws : (first : ℕ) (sents : List Sent) (s : Sent) (f : Filter) (next k : ℕ) → RisingFrom 0 sents → next ≡ next_number sents → s.number ≡ allocated f next → Draws first (left_out 0 sents) f → Draws first (left_out 0 (sents ++ s ∷ [])) (after_allocated f next (words k))
  given_draws first sents s f next k rising is number i = subst (λ (ns : List ℕ). Draws first ns (after_allocated f next (words k))) (sym (left_more 0 sents s)) (go (is_skipped f next) refl)
    where
      low_is : behind_of 0 sents ≡ next
      low_is = (let behind = behind_is 0 sents rising in omega (arith, behind, is))

      go : (b : Bool) → is_skipped f next ≡ b → Draws first (left_out 0 sents ++ (if s.number == (behind_of 0 sents) then [] else (behind_of 0 sents) ∷ [])) (after_allocated f next (words k))
      go true skips =
          let there : next ≡ f.next = eqb-true next f.next skips in
          let above : s.number ≡ next + 1 = number ∙ ap (λ (b : Bool). if b then next + 1 else next) skips in
          let apart : (s.number == (behind_of 0 sents)) ≡ false = ne_eqb s.number (behind_of 0 sents) (λ same. (let here = low_is in omega (arith, same, above, here))) in
          subst (λ (g : Filter). Draws first (left_out 0 sents ++ (if s.number == (behind_of 0 sents) then [] else (behind_of 0 sents) ∷ [])) g) (sym (ap (λ (b : Bool). if b then after_skipped f (words k) else f) skips))
          (subst (λ (b : Bool). Draws first (left_out 0 sents ++ (if b then [] else (behind_of 0 sents) ∷ [])) (after_skipped f (words k))) (sym apart)
          (subst (λ (n : ℕ). Draws first (left_out 0 sents ++ n ∷ []) (after_skipped f (words k))) (sym (low_is ∙ there)) (skipped_draws first (left_out 0 sents) f k i)))
      go false stays =
          let same : s.number ≡ (behind_of 0 sents) = number ∙ ap (λ (b : Bool). if b then next + 1 else next) stays ∙ sym low_is in
          subst (λ (g : Filter). Draws first (left_out 0 sents ++ (if s.number == (behind_of 0 sents) then [] else (behind_of 0 sents) ∷ [])) g) (sym (ap (λ (b : Bool). if b then after_skipped f (words k) else f) stays))
          (subst (λ (b : Bool). Draws first (left_out 0 sents ++ (if b then [] else (behind_of 0 sents) ∷ [])) f) (sym (eq-eqb s.number (behind_of 0 sents) same))
          (subst (λ (ns : List ℕ). Draws first ns f) (sym (append-nil (left_out 0 sents))) i))

-- ---- a poll

module _ (first : ℕ) (p : Policy) (e : End) (now : ℕ) (sents : List Sent) (rising : RisingFrom 0 sents) (next : e.numbers.next ≡ next_number sents) (before : Draws p.words first (left_out 0 sents) e.filter) where
  abbrev Of : Polled → List Sent → Type 0
  Of q more = Draws p.words first (left_out 0 (sents ++ more)) q.end.filter

  none_goes : (f : Filter) → f ≡ e.filter → Draws p.words first (left_out 0 (sents ++ [])) f
  none_goes f same = subst (λ (ss : List Sent). Draws p.words first (left_out 0 ss) f) (sym (append-nil sents)) (subst (λ (g : Filter). Draws p.words first (left_out 0 sents) g) (sym same) before)

  one_goes : (leaving : Leaving) (y : End) → y.numbers ≡ e.numbers → y.filter ≡ e.filter → MayLeave leaving y → (k : ℕ)
      → (let d : Draft = draft_as leaving y in Draws p.words first (left_out 0 (sents ++ sent_as e now d ∷ [])) (after_allocated d.end.filter d.end.numbers.next (p.words k)))
  one_goes leaving y numbers filter may k =
      let d : Draft = draft_as leaving y in
      let c = composes leaving y may in
      subst (λ (n : Numbers). Draws p.words first (left_out 0 (sents ++ sent_as e now d ∷ [])) (after_allocated d.end.filter n.next (p.words k))) (sym (c.numbers ∙ numbers))
      (subst (λ (f : Filter). Draws p.words first (left_out 0 (sents ++ sent_as e now d ∷ [])) (after_allocated f e.numbers.next (p.words k))) (sym (c.filter ∙ filter))
      (given_draws p.words first sents (sent_as e now d) e.filter e.numbers.next k rising next refl before))

  close_goes : (y : End) → y.numbers ≡ e.numbers → y.filter ≡ e.filter → HasRoom y → OwesWell y → GivesClose p e now Of y
  close_goes y numbers filter wide due = (
    none_goes y.filter filter,
    λ f goes. (
        let well = (close_well p y due wide f goes).well in
        one_goes (poll.closing f) y numbers filter (well.is, (refl, well.fits, well.form)) (words_drawn (draft_as (poll.closing f) y).end)),
  )

  polled_draws : HasRoom e → OwesWell e → Of (polled p e now) (sent_if (gave (answers.Poll (polled p e now).answer)) (sent_by p e now))
  polled_draws room owes = by_sends p e now Of (record {
    silent = none_goes e.filter refl;
    failed = none_goes e.filter refl;
    repeats = λ is. close_goes (with_closing e (ticked e.closing now)) refl refl room owes;
    nothing = λ is none. none_goes z.filter (ap (λ (y : End). y.filter) left);
    closes = λ reason is bound. close_goes (closed_by reason z) (ap (λ (y : End). y.numbers) left) (ap (λ (y : End). y.filter) left) (ready_room e now room) (bound_well p e z reason bound);
    gives = λ is bound some. by_going (λ (y : End). Draws p.words first (left_out 0 (sents ++ sent_as e now (draft_at e now) ∷ [])) y.filter) p (draft_at e now)
        (λ going. one_goes (ready_at e now).leaving z (ap (λ (y : End). y.numbers) left) (ap (λ (y : End). y.filter) left) (may_leave_at e now) (words_drawn (draft_at e now).end));
  })
    where
      z : End
      z = (ready_at e now).end

      left : z ≡ poll_left e now z
      left = ready_leaves e now

-- ---- the group

-- so it is of those that x left out, and of the next
pub record Drawing (x y : Party) : Type 0 where
  pub draws : Draws x.policy.words x.made.filter.next (left_out 0 x.sents) x.end.filter

module _ (x y : Party) (a : Answer) (i : Drawing x y) where
  other_draws : (call : Call) → is_poll call ≡ false → sents_by x.policy x.end call a ≡ [] → Drawing (called x y.given call a) y
  other_draws call other none = record {
    draws = subst (λ (ss : List Sent). Draws x.policy.words x.made.filter.next (left_out 0 (x.sents ++ ss)) (after_call x.policy x.end y.given call a).filter) (sym none)
        (subst (λ (f : Filter). Draws x.policy.words x.made.filter.next (left_out 0 (x.sents ++ [])) f) (sym (stays_call x.policy x.end y.given call a other).filter)
        (subst (λ (ss : List Sent). Draws x.policy.words x.made.filter.next (left_out 0 ss) x.end.filter) (sym (append-nil x.sents)) i.draws));
  }

  call_draws : (call : Call) → Calls PacketsHold x y call a → Drawing (called x y.given call a) y
  call_draws (calls.Poll now) c = record {
    draws = subst (λ (b : Answer). Draws x.policy.words x.made.filter.next (left_out 0 (x.sents ++ sent_if (gave b) (sent_by x.policy x.end now))) (polled x.policy x.end now).end.filter) (sym (poll_answer x.policy x.end now a c.answer c.served))
        (polled_draws x.made.filter.next x.policy x.end now x.sents c.gives.gives.rising c.gives.gives.next i.draws (has_room x y c.gives) c.gives.due);
  }
  call_draws call c = other_draws call refl refl

-- over the packets between both ends
pub drawing_group : Group PacketsHold Drawing
drawing_group = record {
  first = λ x y m there back. record { draws = inl (record { none = refl; next = refl; power = refl }) };
  writer = λ x y call a c i back. call_draws x y a i call c;
  reader = λ x y call a c there i. record { draws = i.draws };
  shows = λ x y here there b back i j. record { draws = i.draws };
}
