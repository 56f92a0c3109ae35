-- What the observer of an end knows at each place: what is left to be given, how what went was
-- sent, and what the end waits for.
use Rattle.std.proofs.Common.{arith, ◌≡◌, ℕ, Bool, true, false, List, [], ◌∷◌, ◌++◌, Option, Some, refl, sym, ap, ◌∙◌, subst, ◌*◌}
use Rattle.std.proofs.lemmas.List.{append-nil, append_assoc}
use Rattle.quic_machine.specs.declared.answers.State.{State}
use Rattle.quic_machine.specs.declared.answers.State.TheVariants as states
use Rattle.quic_machine.specs.declared.run.Call.{Call}
use Rattle.quic_machine.specs.declared.run.Call.TheVariants as calls
use Rattle.quic_machine.specs.declared.run.Answer.{Answer}
use Rattle.quic_machine.specs.declared.run.Answer.TheVariants as answers
use Rattle.quic_machine.specs.declared.run.Delivery.{Delivery}
use Rattle.quic_machine.specs.Policy.{Policy}
use Rattle.quic_headline.specs.RoundTrip.{first_round}
use Rattle.quic_headline.proofs.Packets.RoundTrip.{first_same}
use Rattle.quic_spaces.specs.Numbers.{cut_against, expected}
use Rattle.quic_machine.specs.Closing.{ticked}
use Rattle.quic_machine.specs.End.{End, side_of, with_closing, closed_by, with_window}
use Rattle.quic_machine.specs.Migration.{is_client}
use Rattle.quic_machine.specs.Receive.{Outcome}
use Rattle.quic_machine.specs.Poll.{Polled, datagram_of, polled, closes, draft_as}
use Rattle.quic_machine.specs.Poll as poll
use Rattle.quic_machine.specs.Machine.{IsAnswer, after_call, gives, fails, gave}
use Rattle.quic_machine.specs.CallCases.{is_delivery, is_poll, is_timeout}
use Rattle.quic_machine.specs.PollCases.{given_as, gives_as, by_poll, at_poll}
use Rattle.std.specs.Prelude.{not}
use Rattle.quic_wire_core.specs.declared.stream_id.Side.{Side}
use Rattle.quic_wire_core.specs.declared.stream_id.Side.TheVariants.{Client, Server}
use Rattle.quic_headline.specs.Runs.{Told, Intake, acknowledged, expected_behind, and_told}
use Rattle.quic_headline.specs.Observer.{Sent, terms_of, no_flight, Watch, first_watch, clock_behind, watch_told, watch_given, watch_moment, next_number, serves}
use Rattle.quic_headline.proofs.Packets.Invariant.{InStep, IsSent, Gives}
use Rattle.quic_headline.proofs.Packets.Closes.{by_closes}
use Rattle.quic_headline.proofs.Packets.Owing.{Owes}
use Rattle.quic_headline.proofs.Packets.Intakes.{folded_more}
use Rattle.quic_headline.proofs.Packets.Delivered.{ArrivalsFrom}
use Rattle.quic_headline.proofs.Packets.Watching.{IsWatched, watched_intake, came_with, timed_with, untimely, none_comes, told_timed, told_quiet, told_left, told_own, poll_watched, timeout_watched, no_moment, quiet_watched, open_named}
use Rattle.quic_headline.proofs.Packets.Routed.{delivered_to, nothing_to, arrivals_watched}
use Rattle.quic_headline.proofs.Packets.Knowing.{expects_in}
use Rattle.quic_headline.proofs.Packets.Flying.{Waits, held}
use Rattle.quic_headline.proofs.Alone.Sides.{side_call}
use Rattle.quic_headline.proofs.Timers.LossTimers.{LossStands, call_stands, stands_shown, stands_paced}
use Rattle.quic_headline.proofs.Places.Steps.{gives_count, only_polls_give, poll_answer}
use Rattle.quic_headline.proofs.Places.Parties.{sent_by, sent_if, sents_by, told_of, Party, called, came_to, lens, watch_of, AreJoined, Beginning, new_as, begun_as}
use Rattle.quic_headline.proofs.Places.Groups.{Group}
use Rattle.quic_headline.proofs.Places.Coming.{Meets, came_more, by_coming_from}
use Rattle.quic_headline.proofs.Packets.Group.{PacketsHold, meets}
use Rattle.quic_machine.specs.Validation.{with_blocked}

-- ---- an end and its observer

-- what the observer of x knows, where y takes what x gives
pub record Sight (x y : Party) : Type 0 where
  -- what is left to be given
  pub left : (rest : List (List ℕ)) → x.given ++ rest ≡ x.final → (watch_of x y).left ≡ rest
  -- how what went was sent
  pub own : (watch_of x y).own ≡ x.sents
  -- what the end waits for, and its clock
  pub watched : IsWatched x.terms (watch_of x y) x.end
  -- what it tracks, and its timer of losses
  pub stands : LossStands x.end
  -- it is the client or the server still
  pub side : side_of x.end ≡ x.side

-- a server is no client
as_server : (side : Side) → not (is_client side) ≡ serves side
as_server Client = refl
as_server Server = refl

-- before the first call
pub sight_first : (x y : Beginning) → Sight (begun_as x y) (begun_as y x)
sight_first x y = record { left = λ rest whole. sym whole; own = refl; watched = record { path = refl; address = refl; flight = λ opened. first }; side = refl; stands = λ opened. record { stands = record { lies = omega arith; asked = λ p i asks. absurd i; late = λ there. cc }; set = refl } }
  where
    e : End
    e = new_as x y

    first : Waits (terms_of e) x.making.moment (no_flight (first_round e.transport) (e.peer_params.max_ack_delay * 1000000)) (held e)
    first = record { tells = record { terms = refl; clock = refl; named = refl; waits = tt; asked = refl; rtt = first_same e.transport; delay = refl; request = refl }; loss_time = refl; expiries = refl; probes = refl }

-- ---- what a poll gives

-- the last of two lists in step
step_last : {Y X : Type 0} (P : Y → X → Type 0) (ys : List Y) (xs : List X) (y : Y) (x : X) → InStep P ys xs → InStep P (ys ++ y ∷ []) (xs ++ x ∷ []) → P y x
step_last P [] [] y x before behind = behind.0
step_last P (v ∷ ys) (u ∷ xs) y x before behind = step_last P ys xs y x before.1 behind.1
step_last P [] (u ∷ xs) y x before behind = absurd before
step_last P (v ∷ ys) [] y x before behind = absurd before

-- a poll that has a datagram gives it
record IsGivenBy (r : Polled) (d : List ℕ) : Type 0 where
  gave : gave (answers.Poll r.answer) ≡ true
  given : given_as r.answer r.datagram ≡ d ∷ []

poll_gives : (p : Policy) (e : End) (now : ℕ) (d : List ℕ) → (polled p e now).datagram ≡ Some d → IsGivenBy (polled p e now) d
poll_gives p e now d = by_poll p e now (λ (r : Polled). r.datagram ≡ Some d → IsGivenBy r d) (record {
  silent = λ is. cc;
  failed = λ is. cc;
  nothing = λ c is. cc;
  repeats = λ still. closing (with_closing e (ticked e.closing now));
  closes = λ reason c bound. closing (closed_by reason (at_poll e now c));
  gives = λ leaving c left s n ready some is. (let same : datagram_of p (draft_as leaving (at_poll e now c)) ≡ d = cc in record { gave = refl; given = ap (λ (x : List ℕ). x ∷ []) same });
})
  where
    closing : (x : End) → (closes p x).datagram ≡ Some d → IsGivenBy (closes p x) d
    closing x = by_closes p x (λ (r : Polled). r.datagram ≡ Some d → IsGivenBy r d) (λ is. cc)
        (λ f goes is. (let same : datagram_of p (draft_as (poll.closing f) x) ≡ d = cc in record { gave = refl; given = ap (λ (x : List ℕ). x ∷ []) same }))

-- ---- any call

module _ (x y : Party) (joined : AreJoined x y) (meets : Meets y x) (gives_before : Gives x.policy x.end.numbers x.end.filter.last x.sents x.given) (owes : Owes x.end) (sight : Sight x y) where
  -- what the observer knows before the call
  abbrev pub seen : Watch
  seen = watch_of x y

  -- what came to the end, as the observer has it
  seen_intake : seen.intake ≡ came_to x y
  seen_intake = watched_intake (lens x y) x.told (first_watch x.final x.began x.made.path.remote x.first_rtt x.initial_delay)

  -- what it knows behind the call
  abbrev pub after_told : Call → Answer → Watch
  after_told call a = watch_told (lens x y) (told_of call a x.end.closing.state) seen

  -- what was given more, and what the end waits for
  pub record KnowsOn (call : Call) (a : Answer) : Type 0 where
    pub own : (after_told call a).own ≡ seen.own ++ sents_by x.policy x.end call a
    pub watched : IsWatched x.terms (after_told call a) (after_call x.policy x.end y.given call a)

  -- a call that is no poll gives nothing
  none_more : (call : Call) (a : Answer) → is_poll call ≡ false → IsAnswer x.policy x.end y.given call a → (after_told call a).own ≡ seen.own ++ sents_by x.policy x.end call a
  none_more call a silent is =
      told_own (lens x y) (told_of call a x.end.closing.state) seen (only_polls_give x.policy x.end y.given call a silent is) ∙ sym (append-nil seen.own) ∙ ap (λ (ss : List Sent). seen.own ++ ss) (sym (none_sent call silent))
    where
      none_sent : (call : Call) → is_poll call ≡ false → sents_by x.policy x.end call a ≡ []
      none_sent (calls.Poll now) silent = cc
      none_sent call silent = refl

  -- x serves where its observer says so
  serves_as : not (is_client (side_of x.end)) ≡ serves x.side
  serves_as = ap (λ (side : Side). not (is_client side)) sight.side ∙ as_server x.side

  -- a delivery
  delivery_seen : (delivery : Delivery) (a : Answer) → IsAnswer x.policy x.end y.given (calls.Deliver delivery) a → fails a ≡ false → IsWatched x.terms (after_told (calls.Deliver delivery) a) (after_call x.policy x.end y.given (calls.Deliver delivery) a)
  delivery_seen delivery a is served =
      let call : Call = calls.Deliver delivery in
      let after : End = after_call x.policy x.end y.given call a in
      let came : Watches after (came_to (called x y.given call a) y) = by_coming_from x y a joined served meets (λ (b : Answer) (e : End) (i : Intake). Watches e i) call is (record {
        apart = λ apart. cc;
        none = λ other same. subst (λ (i : Intake). Watches x.end i) seen_intake (subst (λ (w : Watch). IsWatched x.terms w x.end) (sym (nothing_to x.terms (serves x.side) seen state delivery)) sight.watched);
        comes = λ other same s among. comes other same s;
      }) in
      let intake : came_to (called x y.given call a) y ≡ and_told x.policy y.final (told_of call a state) seen.intake =
      came_more x y call a ∙ ap (λ (i : Intake). and_told x.policy y.final (told_of call a state) i) (sym seen_intake) in
      subst (λ (w : Watch). IsWatched x.terms w after) (sym (ap (λ (b : Bool). watch_given b (lens x y) (timed_with (lens x y) (told_of call a state) seen)) (only_polls_give x.policy x.end y.given call a refl is)
      ∙ ap (λ (b : Bool). watch_moment b x.terms (came_with (lens x y) (told_of call a state) seen)) (untimely state call refl)))
      (subst (λ (i : Intake). Watches after i) intake came)
    where
      state : State
      state = x.end.closing.state

      Watches : End → Intake → Type 0
      Watches e i = IsWatched x.terms (delivered_to x.terms (serves x.side) seen state delivery i) e

      expects : expected x.end.numbers ≡ expected_behind seen.intake.took
      expects = expects_in state x.end.numbers (came_to x y) meets.knows ∙ ap (λ (i : Intake). expected_behind i.took) (sym seen_intake)

      comes : (other : Delivery) → calls.Deliver delivery ≡ calls.Deliver other → (s : Sent) → ArrivalsFrom other.remote other.ecn x.end other.now s.number s.frames (came_to x y) (λ (o : Outcome) (i : Intake). Watches o.end i)
      comes other same s =
          let is : delivery ≡ other = cc in
          subst (λ (d : Delivery). ArrivalsFrom d.remote d.ecn x.end d.now s.number s.frames (came_to x y) (λ (o : Outcome) (i : Intake). Watches o.end i)) is
          (subst (λ (j : Intake). ArrivalsFrom delivery.remote delivery.ecn x.end delivery.now s.number s.frames j (λ (o : Outcome) (i : Intake). Watches o.end i)) seen_intake
          (arrivals_watched x.terms (serves x.side) seen x.end delivery s.number s.frames serves_as expects sight.watched))

  -- one that is neither a delivery nor a poll nor a timeout leaves what is watched
  quiet_seen : (call : Call) (a : Answer) → is_delivery call ≡ false → is_poll call ≡ false → is_timeout call ≡ false → IsAnswer x.policy x.end y.given call a → KnowsOn call a
  quiet_seen call a apart silent other is =
      let t : Told = told_of call a x.end.closing.state in
      record {
        own = none_more call a silent is;
        watched = subst (λ (v : Watch). IsWatched x.terms v (after_call x.policy x.end y.given call a))
            (sym (told_quiet (lens x y) t seen other (only_polls_give x.policy x.end y.given call a silent is) (none_comes (lens x y) t seen.intake apart) ∙ ap (λ (m : Option ℕ). record seen { clock = clock_behind seen.clock m }) (no_moment x.end.closing.state call apart silent other)))
            (quiet_watched x.terms seen x.policy x.end y.given call a apart silent other sight.watched);
      }

  -- a timeout
  timeout_seen : (now : ℕ) (a : Answer) → IsAnswer x.policy x.end y.given (calls.Timeout now) a → IsWatched x.terms (after_told (calls.Timeout now) a) (after_call x.policy x.end y.given (calls.Timeout now) a)
  timeout_seen now a is =
      let t : Told = told_of (calls.Timeout now) a x.end.closing.state in
      subst (λ (v : Watch). IsWatched x.terms v (after_call x.policy x.end y.given (calls.Timeout now) a)) (sym (told_timed (lens x y) t seen (only_polls_give x.policy x.end y.given (calls.Timeout now) a refl is) (none_comes (lens x y) t seen.intake refl)))
      (timeout_watched x.policy x.terms seen x.end now sight.stands sight.watched)

  -- what a poll gives was sent so, where it holds behind the call of all that was given
  gives_at : (now : ℕ) → InStep (IsSent x.policy) (x.sents ++ sents_by x.policy x.end (calls.Poll now) (answers.Poll (polled x.policy x.end now).answer)) (x.given ++ gives x.policy x.end (calls.Poll now) (answers.Poll (polled x.policy x.end now).answer))
      → (d : List ℕ) → (polled x.policy x.end now).datagram ≡ Some d → IsSent x.policy (sent_by x.policy x.end now) d
  gives_at now behind d is =
      let r : Polled = polled x.policy x.end now in
      let by = poll_gives x.policy x.end now d is in
      let given : gives x.policy x.end (calls.Poll now) (answers.Poll r.answer) ≡ d ∷ [] = gives_as x.policy x.end now r.answer ∙ by.given in
      step_last (IsSent x.policy) x.sents x.given (sent_by x.policy x.end now) d gives_before.each
      (subst (λ (ds : List (List ℕ)). InStep (IsSent x.policy) (x.sents ++ sent_by x.policy x.end now ∷ []) (x.given ++ ds)) given
      (subst (λ (b : Bool). InStep (IsSent x.policy) (x.sents ++ sent_if b (sent_by x.policy x.end now)) (x.given ++ gives x.policy x.end (calls.Poll now) (answers.Poll r.answer))) by.gave behind))

  -- a poll
  poll_seen : (now : ℕ) (a : Answer) → IsAnswer x.policy x.end y.given (calls.Poll now) a → fails a ≡ false → InStep (IsSent x.policy) (x.sents ++ sents_by x.policy x.end (calls.Poll now) a) (x.given ++ gives x.policy x.end (calls.Poll now) a)
      → (rest : List (List ℕ)) → seen.left ≡ gives x.policy x.end (calls.Poll now) a ++ rest → KnowsOn (calls.Poll now) a
  poll_seen now a is served behind rest left =
      let r : Polled = polled x.policy x.end now in
      let said : a ≡ answers.Poll r.answer = poll_answer x.policy x.end now a is served in
      subst (λ (b : Answer). KnowsOn (calls.Poll now) b) (sym said)
      (subst (λ (b : Answer). InStep (IsSent x.policy) (x.sents ++ sents_by x.policy x.end (calls.Poll now) b) (x.given ++ gives x.policy x.end (calls.Poll now) b) → seen.left ≡ gives x.policy x.end (calls.Poll now) b ++ rest → fails b ≡ false → KnowsOn (calls.Poll now) (answers.Poll r.answer)) (sym said)
      (λ all whole ok. goes_on all (whole ∙ ap (λ (ds : List (List ℕ)). ds ++ rest) (gives_as x.policy x.end now r.answer)) ok) behind left served)
    where
      knows : x.end.closing.state ≡ states.Open → cut_against x.end.numbers ≡ acknowledged seen.intake.took
      knows opened = open_named x.end.closing.state x.end.numbers (came_to x y) opened meets.knows ∙ ap (λ (i : Intake). acknowledged i.took) (sym seen_intake)

      goes_on : InStep (IsSent x.policy) (x.sents ++ sents_by x.policy x.end (calls.Poll now) (answers.Poll (polled x.policy x.end now).answer)) (x.given ++ gives x.policy x.end (calls.Poll now) (answers.Poll (polled x.policy x.end now).answer))
          → seen.left ≡ given_as (polled x.policy x.end now).answer (polled x.policy x.end now).datagram ++ rest → fails (answers.Poll (polled x.policy x.end now).answer) ≡ false → KnowsOn (calls.Poll now) (answers.Poll (polled x.policy x.end now).answer)
      goes_on all whole ok =
          let on = poll_watched (lens x y) rest joined.x_lawful joined.to_y x.end seen gives_before.behind (gives_before.next ∙ ap next_number (sym sight.own)) owes sight.stands knows sight.watched now ok (λ d has. gives_at now all d has) whole in
          record { own = on.0; watched = on.1 }

  -- after any call the observer knows what the end knows
  pub call_seen : (call : Call) (a : Answer) → IsAnswer x.policy x.end y.given call a → fails a ≡ false → InStep (IsSent x.policy) (x.sents ++ sents_by x.policy x.end call a) (x.given ++ gives x.policy x.end call a)
      → (rest : List (List ℕ)) → seen.left ≡ gives x.policy x.end call a ++ rest → KnowsOn call a
  call_seen (calls.Poll now) a is served behind rest left = poll_seen now a is served behind rest left
  call_seen (calls.Timeout now) a is served behind rest left = record { own = none_more (calls.Timeout now) a refl is; watched = timeout_seen now a is }
  call_seen (calls.Deliver delivery) a is served behind rest left = record { own = none_more (calls.Deliver delivery) a refl is; watched = delivery_seen delivery a is served }
  call_seen call a is served behind rest left = quiet_seen call a refl refl refl is

  -- so it stays in sight, where what it gives is the first of what is left
  pub sight_step : (call : Call) (a : Answer) → IsAnswer x.policy x.end y.given call a → fails a ≡ false → InStep (IsSent x.policy) (x.sents ++ sents_by x.policy x.end call a) (x.given ++ gives x.policy x.end call a)
      → (rest : List (List ℕ)) × ((x.given ++ gives x.policy x.end call a) ++ rest ≡ x.final) → Sight (called x y.given call a) y
  sight_step call a is served behind more =
      let t : Told = told_of call a x.end.closing.state in
      let first : Watch = first_watch x.final x.began x.made.path.remote x.first_rtt x.initial_delay in
      let after : watch_of (called x y.given call a) y ≡ after_told call a = folded_more (watch_told (lens x y)) x.told t first in
      let before : (rest : List (List ℕ)) → (x.given ++ gives x.policy x.end call a) ++ rest ≡ x.final → seen.left ≡ gives x.policy x.end call a ++ rest =
      λ rest whole. sight.left (gives x.policy x.end call a ++ rest) (sym (append_assoc x.given (gives x.policy x.end call a) rest) ∙ whole) in
      let knows = call_seen call a is served behind more.0 (before more.0 more.1) in
      record {
        left = λ rest whole. ap (λ (w : Watch). w.left) after ∙ told_left (lens x y) t seen (gives x.policy x.end call a) rest (gave a) refl (gives_count x.policy x.end y.given call a is) (before rest whole);
        own = ap (λ (w : Watch). w.own) after ∙ knows.own ∙ ap (λ (ss : List Sent). ss ++ sents_by x.policy x.end call a) sight.own;
        watched = subst (λ (w : Watch). IsWatched x.terms w (after_call x.policy x.end y.given call a)) (sym after) knows.watched;
        stands = call_stands x.policy x.end y.given call a sight.stands;
        side = side_call x.policy x.end y.given call a is ∙ sight.side;
      }

-- ---- the group

-- what the observer of an end knows, over the packets between both ends
pub sight_group : Group PacketsHold Sight
sight_group = record {
  first = λ x y m there here. sight_first x y;
  writer = λ x y call a c sight back. sight_step x y c.joined (meets y x c.takes) c.gives.gives c.gives.owes sight call a c.answer c.served c.gives_behind.gives.each c.joined_behind.x_more;
  reader = λ x y call a c sight back. record { left = back.left; own = back.own; watched = back.watched; stands = back.stands; side = back.side };
  shows = λ x y here there b back s t. record { left = s.left; own = s.own; watched = record { path = s.watched.path; address = s.watched.address; flight = s.watched.flight }; stands = stands_paced here.pacing (with_blocked (with_window x.end here.window) here.blocked) (stands_shown here.window here.blocked x.end s.stands); side = s.side };
}
