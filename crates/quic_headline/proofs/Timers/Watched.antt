-- What the observer of an end knows behind a call of it, and what the view there shows.
use Rattle.std.proofs.Common.{◌≡◌, ℕ, suc, List, [], ◌∷◌, ◌++◌, length, drop, Some, refl, sym, ap, ◌∙◌, subst}
use Rattle.std.specs.Prelude.{slice_get}
use Rattle.quic_time.specs.Timers.{each_timer}
use Rattle.quic_wire_core.specs.declared.stream_id.Side.{Side}
use Rattle.quic_wire_core.specs.declared.stream_id.Side.TheVariants.{Client, Server}
use Rattle.quic_machine.specs.declared.answers.State.TheVariants as states
use Rattle.quic_machine.specs.declared.run.Call.{Call}
use Rattle.quic_machine.specs.declared.run.Answer.{Answer}
use Rattle.quic_machine.specs.declared.run.View.{View}
use Rattle.quic_machine.specs.Machine.{World, end_at, view_of}
use Rattle.quic_headline.specs.Runs.{Run, LeadsTo, state_in}
use Rattle.quic_headline.specs.Observer.{Sent, Watch, first_watch, watch_told}
use Rattle.quic_headline.specs.Moments.{timers_in, went}
use Rattle.quic_headline.proofs.Packets.Intakes.{folded_more}
use Rattle.quic_headline.proofs.Packets.Watching.{IsWatched, watched_intake}
use Rattle.quic_headline.proofs.Packets.Group.{PacketsHold}
use Rattle.quic_headline.proofs.Packets.Sight.{Sight}
use Rattle.quic_headline.proofs.Places.Parties.{sents_by, told_of, Party, called, came_to, lens, watch_of}
use Rattle.quic_headline.proofs.Places.Groups.{Way, And, Calls}
use Rattle.quic_headline.proofs.Places.Moments.{state_shown}
use Rattle.quic_headline.proofs.Places.Placed.{shown}

-- the packets between two ends, and what their observers know
abbrev pub Observed : Way
Observed = And PacketsHold Sight

-- what lies behind the first of two lists
pub drop_all : (xs ys : List Sent) → drop (length xs) (xs ++ ys) ≡ ys
drop_all [] ys = refl
drop_all (x ∷ xs) ys = drop_all xs ys

-- what goes at a call is what the end gives
pub went_is : (before after : Watch) (ss : List Sent) → after.own ≡ before.own ++ ss → went before after ≡ ss
went_is before after ss is = ap (λ (xs : List Sent). drop (length before.own) xs) is ∙ drop_all before.own ss

module _ (x y : Party) (call : Call) (a : Answer) (c : Calls Observed x y call a) (w : Watch) (is : w ≡ watch_of x y) where
  -- what the observer knows behind the call
  abbrev pub watch_behind : Watch
  watch_behind = watch_told (lens x y) (told_of call a x.end.closing.state) w

  -- it is what the observer of the end knows there
  pub behind_is : watch_of (called x y.given call a) y ≡ watch_behind
  behind_is =
      folded_more (watch_told (lens x y)) x.told (told_of call a x.end.closing.state) (first_watch x.final x.began x.made.path.remote x.first_rtt x.initial_delay)
      ∙ ap (λ (v : Watch). watch_told (lens x y) (told_of call a x.end.closing.state) v) (sym is)

  -- what was given more, it knows
  pub own_behind : watch_behind.own ≡ w.own ++ sents_by x.policy x.end call a
  own_behind =
      ap (λ (v : Watch). v.own) (sym behind_is)
      ∙ c.gives_behind.1.own
      ∙ ap (λ (ss : List Sent). ss ++ sents_by x.policy x.end call a) (sym c.gives.1.own ∙ ap (λ (v : Watch). v.own) (sym is))

  -- it goes at the call
  pub went_behind : went w watch_behind ≡ sents_by x.policy x.end call a
  went_behind = went_is w watch_behind (sents_by x.policy x.end call a) own_behind

  -- it knows what came before the call, and what came by then
  pub came_before : w.intake ≡ came_to x y
  came_before = ap (λ (v : Watch). v.intake) is ∙ watched_intake (lens x y) x.told (first_watch x.final x.began x.made.path.remote x.first_rtt x.initial_delay)

  pub came_behind : watch_behind.intake ≡ came_to (called x y.given call a) y
  came_behind =
      ap (λ (v : Watch). v.intake) (sym behind_is)
      ∙ watched_intake (lens x y) (x.told ++ told_of call a x.end.closing.state ∷ []) (first_watch x.final x.began x.made.path.remote x.first_rtt x.initial_delay)

  -- and what the end waits for
  pub watched_behind : IsWatched x.terms watch_behind (called x y.given call a).end
  watched_behind = subst (λ (v : Watch). IsWatched x.terms v (called x y.given call a).end) behind_is c.gives_behind.1.watched

-- ---- a view

-- what a view shows of the timers of an end
pub timers_shown : (side : Side) (w : World) → timers_in (view_of w) side ≡ each_timer (end_at side w).timers
timers_shown Client w = refl
timers_shown Server w = refl

module _ (r : Run) (w : World) (i : ℕ) (v : View) (side : Side) (leads : LeadsTo r (suc i) w) (there : slice_get r.views i ≡ Some v) where
  -- the view behind an event shows the timers of the end there
  pub timers_behind : timers_in v side ≡ each_timer (end_at side w).timers
  timers_behind = ap (λ (u : View). timers_in u side) (shown r w i v leads there) ∙ timers_shown side w

  -- and that it is open
  pub open_behind : state_in v side ≡ states.Open → (end_at side w).closing.state ≡ states.Open
  open_behind opened = sym (ap (λ (u : View). state_in u side) (shown r w i v leads there) ∙ state_shown side w) ∙ opened
