-- While the address of its peer isn't validated, an end gives no more than three times the bytes
-- that were handed to it: it asks before each datagram, which has no more than the current size.
use Rattle.std.proofs.Common.{◌≡◌, ◌⊎◌, ℕ, zero, suc, ◌+◌, ◌*◌, ◌<◌, ◌≤◌, Bool, true, false, not, ◌&&◌, ◌==◌, List, [], ◌∷◌, length, take, Option, Some, None, Result, Ok, Err, refl, sym, ap, ◌∙◌, subst, inl, inr, arith}
use Rattle.std.specs.Prelude.{slice_get, nat_lt, if◌then◌else◌, option_map}
use Rattle.std.specs.List.{list_any}
use Rattle.std.proofs.lemmas.Bool.{ltb-false, both_ways, cases_lt}
use Rattle.std.proofs.lemmas.List.{take_all}
use Rattle.quic_wire_core.specs.declared.stream_id.Side.{Side}
use Rattle.quic_wire_core.specs.StreamId.{other_side}
use Rattle.quic_wire.specs.Value.{FrameValue}
use Rattle.quic_time.specs.Clocks.{saturated}
use Rattle.quic_machine.specs.declared.answers.Transmit.{Transmit}
use Rattle.quic_machine.specs.declared.answers.Failed.{Failed}
use Rattle.quic_machine.specs.declared.run.RunEvent.{RunEvent}
use Rattle.quic_machine.specs.declared.run.Call.{Call}
use Rattle.quic_machine.specs.declared.run.Call.TheVariants as calls
use Rattle.quic_machine.specs.declared.run.Answer.{Answer}
use Rattle.quic_machine.specs.declared.run.Answer.TheVariants as answers
use Rattle.quic_machine.specs.declared.run.EndView.{EndView}
use Rattle.quic_machine.specs.declared.run.View.{View}
use Rattle.quic_machine.specs.Policy.{Policy}
use Rattle.quic_machine.specs.Parts.{current_mtu}
use Rattle.quic_machine.specs.Closing.{ticked, close_owed}
use Rattle.quic_machine.specs.End.{End, with_closing, closed_by}
use Rattle.quic_machine.specs.Heard.{Heard, nothing_heard}
use Rattle.quic_machine.specs.Migration.{has_moved}
use Rattle.quic_machine.specs.Validation.{is_blocked}
use Rattle.quic_machine.specs.Poll.{Polled, close_room, goes, fitted, can_close, close_to_go, polled}
use Rattle.quic_machine.specs.Poll as poll
use Rattle.quic_machine.specs.PollCases.{ready_at, by_poll, at_poll}
use Rattle.quic_machine.specs.Machine.{World, IsStep, after_call, gave, fails, end_at, given_by, heard_at, control_at, policy_at, end_met}
use Rattle.quic_machine.specs.RunLaws.{as_many_views}
use Rattle.quic_headline.specs.Runs.{Run, Told, bytes_in_call, same_side, told_at, until, given_of, LeadsTo, AreServed}
use Rattle.quic_headline.specs.Observer.{watch}
use Rattle.quic_headline.specs.Allowance.{first_size, bytes_handed, bytes_given}
use Rattle.quic_headline.specs.Headline.{IsHonest, IsRun}
use Rattle.quic_headline.specs.Polls.{end_in, seen_of, seen_behind, seen_at, IsMade, GaveOne, IsSizeProbe}
use Rattle.quic_headline.specs.Sizes.{DatagramsAreSized}
use Rattle.quic_headline.specs.Threefold.{Threefold}
use Rattle.quic_headline.proofs.Packets.Closes.{by_closes}
use Rattle.quic_headline.proofs.Packets.Quiet.{heard_nothing}
use Rattle.quic_headline.proofs.Places.Moments.{last_seen}
use Rattle.quic_headline.proofs.Places.Parties.{with_shown, shown_at, sent_by}
use Rattle.quic_headline.proofs.Places.Groups.{Way}
use Rattle.quic_headline.proofs.Places.Placed.{Placed, placed, placed_less}
use Rattle.quic_headline.proofs.Places.Steps.{poll_answer, only_polls_give}
use Rattle.quic_headline.proofs.Places.Everything as everything
use Rattle.quic_headline.proofs.Places.Theorems.{ready, datagrams_are_sized}
use Rattle.quic_headline.proofs.Halves.Ready.{Ready}
use Rattle.quic_headline.proofs.Timers.Watched.{Observed}
use Rattle.quic_headline.proofs.Steps.Made.{made_served, left_at, made_end, served_before, reads_either, PollHolds, observed_poll, poll_holds, sents_more}
use Rattle.quic_headline.proofs.Steps.Along.{stands_within, along}
use Rattle.quic_headline.proofs.Isolated.Validated.{call_validated}
use Rattle.quic_headline.proofs.Rest.Between.{step_leaves}
use Rattle.quic_headline.proofs.Held.Silent.{may_not_go}
use Rattle.quic_headline.proofs.Held.Bytes.{came_behind, went_behind, from_there, Counted, counting, none_given, there, gives_size, handed_next, given_next, counts_at}
use Rattle.quic_headline.proofs.Held.Clause.{heard_first}

-- ---- a poll

off : (b : Bool) → (b ≡ true → ⊥) → b ≡ false
off true never = absurd (never refl)
off false never = refl

-- where nothing more may go, no close does
no_close_goes : (p : Policy) (e : End) (f : FrameValue) → e.path.blocked ≡ true → close_to_go p e ≡ Some f → ⊥
no_close_goes p e f blocked goes =
    let none : close_to_go p e ≡ None = ap (λ (b : Bool). if not b && can_close p e then option_map (fitted (close_room e)) (close_owed e.closing) else None) blocked in
    let clash : ◌≡◌ {A = Option FrameValue} None (Some f) = sym none ∙ goes in
    cc

-- where a poll gives a datagram, more may go
free_gives : (p : Policy) (e : End) (now : ℕ) (t : Transmit) → (polled p e now).answer ≡ Ok (Some t) → e.path.blocked ≡ false
free_gives p e now t = by_poll p e now Of (record {
  silent = λ is. cc;
  failed = λ is. cc;
  nothing = λ c is. cc;
  repeats = λ state. close (with_closing e (ticked e.closing now)) refl;
  closes = λ reason c bound. close (closed_by reason (at_poll e now c)) refl;
  gives = λ leaving c left state bound ready some is. off e.path.blocked (λ blocked. both_ways (goes (ready_at e now)) (ap goes (may_not_go e now blocked)) some);
})
  where
    Of : Polled → Type 0
    Of q = q.answer ≡ Ok (Some t) → e.path.blocked ≡ false

    -- the close of an end that closes, or is closing
    close : (x : End) → x.path.blocked ≡ e.path.blocked → Of (poll.closes p x)
    close x same = by_closes p x Of (λ is. cc) (λ f goes is. off e.path.blocked (λ blocked. no_close_goes p x f (same ∙ blocked) goes))

-- where more may go, one more datagram of the current size comes to no more than three times what
-- was counted
may_go : (e : End) (h : Heard) → e.path.validated ≡ false → is_blocked e h ≡ false → h.sent + current_mtu e.path ≤ saturated (3 * h.received)
may_go e h unvalidated free =
    ltb-false (saturated (3 * h.received)) (h.sent + current_mtu e.path) (ap (λ (b : Bool). not b && nat_lt (saturated (3 * h.received)) (h.sent + current_mtu e.path)) (sym unvalidated) ∙ free)

-- so it is of what the lists say, which 64 bits hold then
goes_within : (came counted_came given counted_given size mtu : ℕ) → counted_came ≡ saturated came → counted_given ≡ saturated given → 0 < mtu → size ≤ mtu → counted_given + mtu ≤ saturated (3 * counted_came) → given + size ≤ 3 * came
goes_within came counted_came given counted_given size mtu received sent some few within = omega (arith, received, sent, some, few, within)

-- ---- at each place

-- what is seen of an end stays behind the last view
pub seen_last : (side : Side) (seen : EndView) (i : ℕ) (views : List View) → length views ≤ i → seen_behind side seen i views ≡ seen_behind side seen (length views) views
seen_last side seen zero [] past = refl
seen_last side seen zero (v ∷ views) past = absurd (omega arith)
seen_last side seen (suc i) [] past = refl
seen_last side seen (suc i) (v ∷ views) past = seen_last side (end_in v side) i views (omega arith)

module _ (r : Run) (end : World) (honest : IsHonest r) (run : IsRun r end) (all : (by : Side) (i : ℕ) → AreServed r i → Placed Observed r end by i) (sized : DatagramsAreSized r)
    (holds : (i : ℕ) (by : Side) (now : ℕ) (a : Answer) (w next : World) → IsMade r i by (calls.Poll now) a w next → PollHolds Observed r i by now a w) (side : Side) (nothing : heard_at side r.start ≡ nothing_heard) where
  -- at an address that isn't validated no more went than three times what came from there
  abbrev Within : ℕ → World → Type 0
  Within i w = (end_at side w).path.validated ≡ false → bytes_given r side i ≤ 3 * bytes_handed r side i

  abbrev p : Policy
  p = policy_at side r.keys

  first_within : Within 0 r.start
  first_within still = let none = none_given r end honest run all side nothing in omega (arith, none)

  -- a call of its own
  module _ (i : ℕ) (call : Call) (a : Answer) (w next : World) (m : IsMade r i side call a w next) (leads : LeadsTo r (suc i) next) where
    abbrev e : End
    e = end_met w (record { side = side; call = call })

    abbrev here : End
    here = end_at side w

    abbrev behind : End
    behind = end_at side next

    -- behind one that stays on the path, an address that isn't validated wasn't before
    unvalidated : has_moved here behind ≡ false → behind.path.validated ≡ false → here.path.validated ≡ false
    unvalidated same still = off here.path.validated (λ is. both_ways behind.path.validated still (ap (λ (x : End). x.path.validated) left ∙ call_validated p e (given_by (other_side side) w) call a (reads_either (λ (x : End). x.path.validated ≡ true) (control_at side w) (heard_at side w) call here is is) stays))
      where
        left : behind ≡ left_at r side w call a
        left = made_end r i side call a w next m

        reads : e.path.generation ≡ here.path.generation
        reads = reads_either (λ (x : End). x.path.generation ≡ here.path.generation) (control_at side w) (heard_at side w) call here refl refl

        stays : has_moved e (after_call p e (given_by (other_side side) w) call a) ≡ false
        stays = ap (λ (g : ℕ). not ((after_call p e (given_by (other_side side) w) call a).path.generation == g)) reads ∙ ap (λ (x : End). has_moved here x) (sym left) ∙ same

    -- how many bytes the datagram has that goes next
    abbrev next_size : ℕ
    next_size = first_size (watch r side i).left

    -- where it is within the allowance, if one goes
    call_within : (gave a ≡ true → here.path.validated ≡ false → bytes_given r side i + next_size ≤ 3 * bytes_handed r side i) → Within i w → Within (suc i) next
    call_within fits before still = go (has_moved here behind) refl
      where
        size : ℕ
        size = bytes_in_call (given_of r (other_side side)) call a

        more : (from : Bool) (n k : ℕ) → n ≤ n + (if from then k else 0)
        more true n k = omega arith
        more false n k = omega arith

        on_path : (b : Bool) → gave a ≡ b → here.path.validated ≡ false → bytes_given r side i + (if b then next_size else 0) ≤ 3 * bytes_handed r side i
        on_path true gives unvalidated_there = fits gives unvalidated_there
        on_path false silent unvalidated_there = let least = before unvalidated_there in omega (arith, least)

        go : (b : Bool) → has_moved here behind ≡ b → bytes_given r side (suc i) ≤ 3 * bytes_handed r side (suc i)
        go true is =
            let none : bytes_given r side (suc i) ≡ 0 = given_next r end honest run all side nothing i call a w next m leads ∙ ap (λ (b : Bool). went_behind b (gave a) next_size (bytes_given r side i)) is in
            omega (arith, none)
        go false is =
            let given : bytes_given r side (suc i) ≡ bytes_given r side i + (if gave a then next_size else 0) = given_next r end honest run all side nothing i call a w next m leads ∙ ap (λ (b : Bool). went_behind b (gave a) next_size (bytes_given r side i)) is in
            let handed : bytes_handed r side (suc i) ≡ bytes_handed r side i + (if from_there here call then size else 0) = handed_next r end honest run all side nothing i call a w next m leads ∙ ap (λ (b : Bool). came_behind b (from_there here call) size (bytes_handed r side i)) is in
            let within = on_path (gave a) refl (unvalidated is still) in
            let grows = more (from_there here call) (bytes_handed r side i) size in
            omega (arith, given, handed, within, grows)

  -- a poll that gives a datagram
  module _ (i now : ℕ) (t : Transmit) (w next : World) (m : IsMade r i side (calls.Poll now) (answers.Poll (Ok (Some t))) w next) (leads : LeadsTo r (suc i) next) (is : (polled p (with_shown (end_at side w) (shown_at side w)) now).answer ≡ Ok (Some t)) where
    abbrev a : Answer
    a = answers.Poll (Ok (Some t))

    abbrev met : End
    met = with_shown (end_at side w) (shown_at side w)

    served : AreServed r i
    served = served_before r.answers i m.served

    counts : Counted r end honest run all side nothing i w
    counts = counts_at r end honest run all side nothing i w (stands_within r end run side i side (calls.Poll now) a w next m) served m.leads

    -- as its observer sees it
    abbrev given_so : GaveOne r side i now
    given_so = record { transmit = t; poll = m.at; served = m.served; sent = sent_by p met now; went = sents_more r i side now a w (holds i side now a w next m) }

    seen : seen_at r side i ≡ seen_of side w
    seen = last_seen side r.keys i r.start w r.events r.answers r.views m.leads

    few : (end_at side w).path.validated ≡ false → t.size ≤ current_mtu (end_at side w).path
    few unvalidated_there =
        let size = sized side i now given_so in
        let same : (seen_at r side i).current_mtu ≡ current_mtu (end_at side w).path = ap (λ (u : EndView). u.current_mtu) seen in
        omega (arith, size.0, bounded size.1, same)
      where
        bounded : (given_so.sent.size ≤ (seen_at r side i).current_mtu) ⊎ IsSizeProbe r side i given_so.sent → given_so.sent.size ≤ (seen_at r side i).current_mtu
        bounded (inl low) = low
        bounded (inr probe) = absurd (both_ways (end_at side w).path.validated unvalidated_there (sym (ap (λ (u : EndView). u.validated) seen) ∙ probe.validated))

    some : 0 < current_mtu (end_at side w).path
    some =
        let least = (all side i served).gives.0.sized.between.size in
        let same : current_mtu (end_at side (all side i served).world).path ≡ current_mtu (end_at side w).path = ap (λ (u : World). current_mtu (end_at side u).path) (there r end honest run all side nothing i w served m.leads) in
        omega (arith, least, same)

    gives_one : Within i w → Within (suc i) next
    gives_one = call_within i (calls.Poll now) a w next m leads (λ gives unvalidated_there.
        let size : first_size (watch r side i).left ≡ t.size = gives_size r end honest run all side nothing i (calls.Poll now) a w next m leads now t refl refl in
        let most = goes_within (bytes_handed r side i) (heard_at side w).received (bytes_given r side i) (heard_at side w).sent t.size (current_mtu (end_at side w).path) counts.received counts.sent some (few unvalidated_there)
        (may_go (end_at side w) (heard_at side w) unvalidated_there (free_gives p met now t is)) in
        omega (arith, size, most))

  -- a poll
  polls : (i now : ℕ) (a : Answer) (w next : World) → IsMade r i side (calls.Poll now) a w next → LeadsTo r (suc i) next → Within i w → Within (suc i) next
  polls i now a w next m leads before = go (polled p met_now now).answer refl
    where
      met_now : End
      met_now = with_shown (end_at side w) (shown_at side w)

      said : a ≡ answers.Poll (polled p met_now now).answer
      said = poll_answer p met_now now a m.step.answer (made_served r i side (calls.Poll now) a w next m)

      -- one that gives none
      silent : (o : Result (Option Transmit) Failed) → a ≡ answers.Poll o → gave (answers.Poll o) ≡ false → Within (suc i) next
      silent o is none = call_within i (calls.Poll now) a w next m leads (λ gives. absurd (both_ways (gave a) (ap gave is ∙ none) gives)) before

      go : (o : Result (Option Transmit) Failed) → (polled p met_now now).answer ≡ o → Within (suc i) next
      go (Ok (Some t)) is = gives_one i now t w next (subst (λ (b : Answer). IsMade r i side (calls.Poll now) b w next) (said ∙ ap answers.Poll is) m) leads is before
      go (Ok None) is = silent (Ok None) (said ∙ ap answers.Poll is) refl
      go (Err f) is = silent (Err f) (said ∙ ap answers.Poll is) refl

  own_call : (i : ℕ) (call : Call) (a : Answer) (w next : World) → IsMade r i side call a w next → LeadsTo r (suc i) next → Within i w → Within (suc i) next
  own_call i (calls.Poll now) a w next m leads before = polls i now a w next m leads before
  own_call i call a w next m leads before = call_within i call a w next m leads (λ gives. absurd (both_ways (gave a) (only_polls_give p (end_met w (record { side = side; call = call })) (given_by (other_side side) w) call a refl m.step.answer) gives)) before

  -- one of the other end
  other_call : (i : ℕ) (event : RunEvent) (a : Answer) (w next : World) → slice_get r.events i ≡ Some event → same_side event.side side ≡ false → IsStep r.keys w event a next → until r side (suc i) ≡ until r side i → Within i w → Within (suc i) next
  other_call i event a w next at other step told before still =
      let least = before (sym (ap (λ (x : End). x.path.validated) (step_leaves side r.keys w next event a other step).end) ∙ still) in
      subst (λ (ts : List Told). (counting r end honest run all side nothing ts).went ≤ 3 * (counting r end honest run all side nothing ts).came) (sym told) least

  -- each place
  within_at : (i : ℕ) (w : World) → i ≤ length r.views → AreServed r i → LeadsTo r i w → Within i w
  within_at = along r end run side Within (record { first = first_within; own = own_call; other = other_call })

  -- by the lists
  limited : (i : ℕ) → i ≤ length r.views → AreServed r i → (seen_at r side i).validated ≡ false → bytes_given r side i ≤ 3 * bytes_handed r side i
  limited i within served shown =
      let at = all side i served in
      within_at i at.world within served at.leads (sym (ap (λ (u : EndView). u.validated) (last_seen side r.keys i r.start at.world r.events r.answers r.views at.leads)) ∙ shown)

  -- whatever is told behind them
  pub threefold_at : (i : ℕ) → AreServed r i → (seen_at r side i).validated ≡ false → bytes_given r side i ≤ 3 * bytes_handed r side i
  threefold_at i served shown = elim (cases_lt (length r.views) i) [
    | inl past ↦ at_end (omega (arith, past))
    | inr within ↦ limited i within served shown
  ]
    where
      told : List Answer → List Told
      told said = told_at side (end_at side r.start).closing.state r.events said r.views

      at_end : length r.views ≤ i → bytes_given r side i ≤ 3 * bytes_handed r side i
      at_end past =
          let many : length r.views ≡ length r.answers = as_many_views r.keys r.start end r.events r.answers r.views run.follows in
          let same : take (length r.views) r.answers ≡ take i r.answers = take_all (length r.views) r.answers (omega (arith, many)) ∙ sym (take_all i r.answers (omega (arith, many, past))) in
          subst (λ (said : List Answer). (counting r end honest run all side nothing (told said)).went ≤ 3 * (counting r end honest run all side nothing (told said)).came) same
          (limited (length r.views) (omega arith) (subst (λ (said : List Answer). list_any fails said ≡ false) (sym same) served) (ap (λ (u : EndView). u.validated) (sym (seen_last side (seen_of side r.start) i r.views past)) ∙ shown))

-- ---- the clause

-- all that holds between the ends
abbrev All : Way
All = everything.All Ready ready

pub threefold : (r : Run) (end : World) → IsHonest r → IsRun r end → Threefold r
threefold r end honest run side = threefold_at r end honest run (λ by i served. placed_less All Observed r end by i (λ x y h. (h.0.0, h.1)) (placed All (everything.all Ready ready) r end honest run by i served)) (datagrams_are_sized r end honest run)
    (λ i by now a w next m. observed_poll (everything.Streams Ready ready) r i by now a w (poll_holds All (everything.all Ready ready) r end honest run i by now a w next m)) side (heard_first side r.start (heard_nothing r honest))
