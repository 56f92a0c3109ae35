-- Which timers of an end expire at a moment, where some of them expired already.
use Rattle.std.proofs.Common.{◌≡◌, ℕ, ◌-◌, Bool, true, false, List, inl, refl, sym, ap, subst, ◌∙◌, arith}
use Rattle.std.specs.Prelude.{nat_lt}
use Rattle.quic_congestion.specs.Congestion.{Told, Steps}
use Rattle.rand_core.specs.Stream.{Stream}
use Rattle.quic_packet.specs.Keys.{Protection, Aead}
use Rattle.quic_time.specs.Timers.{Timers, has_come}
use Rattle.quic_machine.specs.declared.answers.State.{State}
use Rattle.quic_machine.specs.declared.answers.State.TheVariants as states
use Rattle.quic_machine.specs.declared.answers.LostReason.TheVariants as reasons
use Rattle.quic_machine.specs.Closing.{Closing, ticked}
use Rattle.quic_machine.specs.Lacking.{LosesOrHasFailed}
use Rattle.quic_machine.specs.End.{End, ConnectionValue, with_end, with_closing, with_loss_timer, drained_by, drawing, words_drawn, policy_of, HasFailed}
use Rattle.quic_machine.specs.Idle.{keep_alive_expired}
use Rattle.quic_machine.specs.Validation.{challenged_anew, path_expired, most_challenges}
use Rattle.quic_machine.specs.Timeouts.{acks_expired, pacing_expired, loss_expired, expiry_at, after_busy, unless_idle, expired, timed_out_in, timed_out, told_expired, told_timed_out_in, told_timed_out}
use Rattle.quic_connection_parts.specs.Drawn.{words_of, words_at, after_words, Draws}
use Rattle.quic_connection_parts.specs.Telling.{telling, KeepsRest}
use Rattle.quic_connection_parts.specs.Tracked.{LosesByTime}
use Rattle.quic_connection_parts.proofs.Lost.{KeepsTime, loss_expired_keeps}

-- ---- one timer behind another

abbrev pub alive_step : End → End
alive_step e = keep_alive_expired (has_come e.timers.keep_alive e.closing.clock) e

abbrev pub pacing_step : End → End
pacing_step e = pacing_expired (has_come e.timers.pacing e.closing.clock) e

abbrev pub acks_step : End → End
acks_step e = acks_expired (has_come e.timers.max_ack_delay e.closing.clock) e

abbrev pub steps_behind_path : End → End
steps_behind_path e = with_loss_timer (acks_step (pacing_step (alive_step e)))

-- that of path validation changes none of the others, nor the clock
record KeepsOthers (e f : End) : Type 0 where
  alive : f.timers.keep_alive ≡ e.timers.keep_alive
  pacing : f.timers.pacing ≡ e.timers.pacing
  acks : f.timers.max_ack_delay ≡ e.timers.max_ack_delay
  closing : f.closing ≡ e.closing

path_keeps : (words : ℕ → ℕ) (b : Bool) (e : End) → KeepsOthers e (path_expired words b e)
path_keeps words false e = record { alive = refl; pacing = refl; acks = refl; closing = refl }
path_keeps words true e = anew (nat_lt e.validation.drawn most_challenges)
  where
    anew : (b : Bool) → KeepsOthers e (challenged_anew words b e)
    anew true = record { alive = refl; pacing = refl; acks = refl; closing = refl }
    anew false = record { alive = refl; pacing = refl; acks = refl; closing = refl }

-- so those behind it expire as they would before it
steps_are : (x : End) (e : End) → KeepsOthers e x
    → steps_behind_path x ≡ with_loss_timer (acks_expired (has_come e.timers.max_ack_delay e.closing.clock) (pacing_expired (has_come e.timers.pacing e.closing.clock) (keep_alive_expired (has_come e.timers.keep_alive e.closing.clock) x)))
steps_are x e k =
    ap (λ (d : Bool). with_loss_timer (acks_step (pacing_step (keep_alive_expired d x)))) alive
    ∙ ap with_loss_timer (lively (has_come e.timers.keep_alive e.closing.clock) (has_come e.timers.pacing e.closing.clock) (has_come e.timers.max_ack_delay e.closing.clock) pacing acks)
  where
    alive : has_come x.timers.keep_alive x.closing.clock ≡ has_come e.timers.keep_alive e.closing.clock
    alive = ap (λ o. has_come o x.closing.clock) k.alive ∙ ap (λ (c : Closing). has_come e.timers.keep_alive c.clock) k.closing

    pacing : has_come x.timers.pacing x.closing.clock ≡ has_come e.timers.pacing e.closing.clock
    pacing = ap (λ o. has_come o x.closing.clock) k.pacing ∙ ap (λ (c : Closing). has_come e.timers.pacing c.clock) k.closing

    acks : has_come x.timers.max_ack_delay x.closing.clock ≡ has_come e.timers.max_ack_delay e.closing.clock
    acks = ap (λ o. has_come o x.closing.clock) k.acks ∙ ap (λ (c : Closing). has_come e.timers.max_ack_delay c.clock) k.closing

    -- those of keep-alive and of the pacer leave the others
    paced : (a b : Bool) (y : End) → has_come y.timers.max_ack_delay y.closing.clock ≡ b → acks_step (pacing_expired a y) ≡ acks_expired b (pacing_expired a y)
    paced true b y is = ap (λ (d : Bool). acks_expired d (pacing_expired true y)) is
    paced false b y is = ap (λ (d : Bool). acks_expired d y) is

    lively : (a p b : Bool) → has_come x.timers.pacing x.closing.clock ≡ p → has_come x.timers.max_ack_delay x.closing.clock ≡ b → acks_step (pacing_step (keep_alive_expired a x)) ≡ acks_expired b (pacing_expired p (keep_alive_expired a x))
    lively true p b first second = ap (λ (d : Bool). acks_step (pacing_expired d (keep_alive_expired true x))) first ∙ paced p b (keep_alive_expired true x) second
    lively false p b first second = ap (λ (d : Bool). acks_step (pacing_expired d x)) first ∙ paced p b x second

pub busy_is : (words : ℕ → ℕ) (e : End) → steps_behind_path (path_expired words (has_come e.timers.path_validation e.closing.clock) e) ≡ after_busy words (expiry_at e.closing.clock e.timers) e
busy_is words e = steps_are (path_expired words (has_come e.timers.path_validation e.closing.clock) e) e (path_keeps words (has_come e.timers.path_validation e.closing.clock) e)

-- they draw no word
pub steps_words : (e : End) → words_drawn (steps_behind_path e) ≡ words_drawn e
steps_words e = alive (has_come e.timers.keep_alive e.closing.clock)
  where
    acks : (b : Bool) (x : End) → words_drawn (acks_expired b x) ≡ words_drawn x
    acks true x = refl
    acks false x = refl

    pacing : (b : Bool) (x : End) → words_drawn (acks_step (pacing_expired b x)) ≡ words_drawn x
    pacing true x = acks (has_come (pacing_expired true x).timers.max_ack_delay x.closing.clock) (pacing_expired true x)
    pacing false x = acks (has_come x.timers.max_ack_delay x.closing.clock) x

    alive : (b : Bool) → words_drawn (acks_step (pacing_step (keep_alive_expired b e))) ≡ words_drawn e
    alive true = pacing (has_come (keep_alive_expired true e).timers.pacing e.closing.clock) (keep_alive_expired true e)
    alive false = pacing (has_come e.timers.pacing e.closing.clock) e

-- ---- all of them, behind that of losses

module _ {H K R C : Type 0} (steps : Steps C) (stream : R → Stream) (w first : ConnectionValue H K R C) (told : List Told) (came : Bool) (is : first ≡ telling steps w told (loss_expired came w.end)) where
  abbrev lossless : End
  lossless = loss_expired came w.end

  keeps : KeepsTime w.end lossless
  keeps = loss_expired_keeps came w.end

  -- the idle timeout is over or not
  pub idle_is : has_come first.end.timers.idle first.end.closing.clock ≡ has_come w.end.timers.idle w.end.closing.clock
  idle_is =
      ap (λ (x : ConnectionValue H K R C). has_come x.end.timers.idle x.end.closing.clock) is
      ∙ ap (λ (t : Timers). has_come t.idle lossless.closing.clock) keeps.timers
      ∙ ap (λ (c : Closing). has_come w.end.timers.idle c.clock) keeps.closing

  pub words_are : words_drawn first.end ≡ words_drawn w.end
  words_are = ap (λ (x : ConnectionValue H K R C). words_drawn x.end) is ∙ keeps.words

  pub random_is : first.random ≡ w.random
  random_is = ap (λ (x : ConnectionValue H K R C). x.random) is

  -- where it is over, the end is drained
  pub idles : (came ≡ has_come w.end.timers.loss_detection w.end.closing.clock) → has_come w.end.timers.idle w.end.closing.clock ≡ true → (new : ConnectionValue H K R C) → new ≡ with_end first (drained_by reasons.Idle first.end)
      → new ≡ drawing new.random (telling steps w told (expired (words_at stream w) w.end))
  idles loss idle new drains =
      let drained : new ≡ telling steps w told (drained_by reasons.Idle lossless) = drains ∙ ap (λ (x : ConnectionValue H K R C). with_end x (drained_by reasons.Idle x.end)) is in
      let random : w.random ≡ new.random = sym (ap (λ (x : ConnectionValue H K R C). x.random) drained) in
      drained
      ∙ ap (λ (b : Bool). telling steps w told (drained_by reasons.Idle (loss_expired b w.end))) loss
      ∙ ap (λ (b : Bool). telling steps w told (unless_idle b (words_at stream w) (expiry_at w.end.closing.clock w.end.timers) (loss_expired (has_come w.end.timers.loss_detection w.end.closing.clock) w.end))) (sym idle)
      ∙ ap (λ (r : R). drawing r (telling steps w told (expired (words_at stream w) w.end))) random

  -- else the others may expire
  module _ (asked new : ConnectionValue H K R C) (drawn : asked ≡ drawing asked.random (with_end first (path_expired (words_at stream first) (has_come first.end.timers.path_validation first.end.closing.clock) first.end))) (left : new ≡ with_end asked (steps_behind_path asked.end)) where
    same_words : (n : ℕ) → words_at stream first n ≡ words_at stream w n
    same_words n = ap (λ (r : R). words_of stream r (n - words_drawn first.end)) random_is ∙ ap (λ (k : ℕ). words_of stream w.random (n - k)) words_are

    behind_path : new ≡ drawing asked.random (with_end first (after_busy (words_at stream first) (expiry_at first.end.closing.clock first.end.timers) first.end))
    behind_path =
        left
        ∙ ap (λ (x : ConnectionValue H K R C). with_end x (steps_behind_path x.end)) drawn
        ∙ ap (λ (e : End). drawing asked.random (with_end first e)) (busy_is (words_at stream first) first.end)

    pub busy : (came ≡ has_come w.end.timers.loss_detection w.end.closing.clock) → has_come w.end.timers.idle w.end.closing.clock ≡ false → new ≡ drawing new.random (telling steps w told (expired (words_at stream w) w.end))
    busy loss idle =
        let words : ℕ → ℕ = words_at stream w in
        let random : asked.random ≡ new.random = sym (ap (λ (x : ConnectionValue H K R C). x.random) left) in
        behind_path
        ∙ ap (λ (f : ℕ → ℕ). drawing asked.random (with_end first (after_busy f (expiry_at first.end.closing.clock first.end.timers) first.end))) (λ i n. same_words n i)
        ∙ ap (λ (x : ConnectionValue H K R C). drawing asked.random (with_end x (after_busy words (expiry_at x.end.closing.clock x.end.timers) x.end))) is
        ∙ ap (λ (t : Timers). drawing asked.random (telling steps w told (after_busy words (expiry_at lossless.closing.clock t) lossless))) keeps.timers
        ∙ ap (λ (c : Closing). drawing asked.random (telling steps w told (after_busy words (expiry_at c.clock w.end.timers) lossless))) keeps.closing
        ∙ ap (λ (b : Bool). drawing asked.random (telling steps w told (after_busy words (expiry_at w.end.closing.clock w.end.timers) (loss_expired b w.end)))) loss
        ∙ ap (λ (b : Bool). drawing asked.random (telling steps w told (unless_idle b words (expiry_at w.end.closing.clock w.end.timers) (loss_expired (has_come w.end.timers.loss_detection w.end.closing.clock) w.end)))) (sym idle)
        ∙ ap (λ (r : R). drawing r (telling steps w told (expired words w.end))) random

    pub draws : Draws stream first asked → Draws stream w new
    draws more =
        let some : words_drawn new.end ≡ words_drawn asked.end = ap (λ (x : ConnectionValue H K R C). words_drawn x.end) left ∙ steps_words asked.end in
        ap (λ (x : ConnectionValue H K R C). stream x.random) left
        ∙ more
        ∙ ap (λ (r : R). after_words (words_drawn asked.end - words_drawn first.end) (stream r)) random_is
        ∙ ap (λ (k : ℕ). after_words (words_drawn asked.end - k) (stream w.random)) words_are
        ∙ ap (λ (k : ℕ). after_words (k - words_drawn w.end) (stream w.random)) (sym some)

  pub idles_draw : (new : ConnectionValue H K R C) → new ≡ with_end first (drained_by reasons.Idle first.end) → Draws stream w new
  idles_draw new drains =
      let some : words_drawn new.end ≡ words_drawn w.end = ap (λ (x : ConnectionValue H K R C). words_drawn x.end) drains ∙ words_are in
      ap (λ (x : ConnectionValue H K R C). stream x.random) drains ∙ ap stream random_is ∙ ap (λ (k : ℕ). after_words k (stream w.random)) (let none : 0 ≡ words_drawn new.end - words_drawn w.end = omega (arith, some) in none)

-- ---- an open end at a moment

module _ {H K R C : Type 0} (w x : ConnectionValue H K R C) (now : ℕ) (ticks : x ≡ with_end w (with_closing w.end (ticked w.end.closing now))) where
  -- what its timers leave is what the moment does
  pub timers_time_out : (protection : H → Protection) (aead : K → Aead) (seals openings : K → ℕ) (stream : R → Stream) (steps : Steps C) (y : ConnectionValue H K R C) → w.end.closing.state ≡ states.Open
      → y ≡ drawing y.random (telling steps x (told_expired (has_come x.end.timers.loss_detection x.end.closing.clock) x.end) (expired (words_at stream x) x.end))
      → y ≡ drawing y.random (telling steps w (told_timed_out w.end now) (timed_out (policy_of protection aead seals openings (words_of stream) w) w.end now).end)
  timers_time_out protection aead seals openings stream steps y opened is =
      is
      ∙ ap (λ (v : ConnectionValue H K R C). drawing y.random (telling steps v (told_expired (has_come v.end.timers.loss_detection v.end.closing.clock) v.end) (expired (words_at stream v) v.end))) ticks
      ∙ ap (λ (s : State). drawing y.random (telling steps w (told_timed_out_in s w.end now) (timed_out_in s (policy_of protection aead seals openings (words_of stream) w) w.end now).end)) (sym opened)

  pub timers_draw : (stream : R → Stream) (y : ConnectionValue H K R C) → Draws stream x y → Draws stream w y
  timers_draw stream y draws = subst (λ (v : ConnectionValue H K R C). Draws stream v y) ticks draws

  -- it has failed then, where it has with what its timers left
  pub timers_fail : (y z : ConnectionValue H K R C) → KeepsRest x y → HasFailed y z → HasFailed w z
  timers_fail y z keeps failed = record {
    state = failed.state;
    reason = failed.reason;
    keys = failed.keys
        ∙ ap (λ (v : ConnectionValue H K R C). record v { end = z.end; control = z.control; heard = z.heard }) keeps
        ∙ ap (λ (v : ConnectionValue H K R C). record v { end = z.end; control = z.control; heard = z.heard }) ticks;
  }

  -- and packets were lost by time
  pub timers_lose : w.end.closing.state ≡ states.Open → LosesByTime x.end → LosesOrHasFailed w.end now
  timers_lose opened loses =
      let l : LosesByTime (with_closing w.end (ticked w.end.closing now)) = subst (λ (v : ConnectionValue H K R C). LosesByTime v.end) ticks loses in
      inl (opened, l.come, l.set, l.some)
