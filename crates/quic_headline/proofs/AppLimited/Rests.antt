-- What an end holds of which nothing goes: it is held back by its pacer or its window, or has
-- nothing more to send.
use Rattle.std.proofs.Common.{◌≡◌, ℕ, true, false, Some, None, refl, sym, ap, subst}
use Rattle.std.specs.Prelude.{◌==◌}
use Rattle.std.proofs.lemmas.Bool.{and_parts, or_parts, both_ways}
use Rattle.quic_recovery_core.specs.PendingAcks.{can_send}
use Rattle.quic_machine.specs.End.{End}
use Rattle.quic_machine.specs.Control.{is_window_full, pacer_asked, with_pacing_timer, Gated, lets, holds}
use Rattle.quic_machine.specs.Poll.{waits, probed, asks_to_go, is_gated, Ready, leaves, goes, is_held, request_queued}
use Rattle.quic_machine.specs.PollCases.{ready_at, probe_leaves, by_gate, by_leaves}
use Rattle.quic_headline.proofs.Held.Silent.{may_go, may_not_go}
use Rattle.quic_headline.proofs.Steps.Probes.{begun}

-- An end that is ready, of which nothing goes, is so.
pub data IsResting (g : Ready) : Type 0 where
  -- its pacer names a later moment, to which the timer is set
  paced : (moment : ℕ) → g.end.timers.pacing ≡ Some moment → is_held g.leaving ≡ true → IsResting g
  -- its window is full
  full : g.end.timers.pacing ≡ None → is_window_full g.end ≡ true → is_held g.leaving ≡ true → IsResting g
  -- nothing waits that asks
  idle : g.end.timers.pacing ≡ None → asks_to_go g.end ≡ false → is_held g.leaving ≡ false → IsResting g

module _ (e : End) (now : ℕ) where
  -- the end that asks
  abbrev x : End
  x = request_queued (probed (begun e now))

  abbrev Rests : Ready → Type 0
  Rests g = goes g ≡ false → IsResting g

  stops : x.timers.pacing ≡ None
  stops = ap (λ (z : End). z.timers.pacing) (probe_leaves (begun e now))

  -- where it waits for nothing, it has nothing that asks
  none_asks : (y : End) → waits y ≡ false → asks_to_go y ≡ false
  none_asks y none = (or_parts (can_send y.acknowledging) (asks_to_go y) none).1

  when_held : (moment : ℕ) → Rests (leaves (holds (with_pacing_timer (pacer_asked x) (Some moment))))
  when_held moment = by_leaves (holds (with_pacing_timer (pacer_asked x) (Some moment))) Rests (record {
    acks = λ held due none. cc;
    held = λ held quiet none. paced moment refl refl;
    all = λ free some none. cc;
    idle = λ free quiet none. cc;
    asked = λ free quiet none. cc;
    probes = λ size free quiet may named none. cc;
  })

  when_full : is_window_full x ≡ true → Rests (leaves (holds x))
  when_full is = by_leaves (holds x) Rests (record {
    acks = λ held due none. cc;
    held = λ held quiet none. full stops is refl;
    all = λ free some none. cc;
    idle = λ free quiet none. cc;
    asked = λ free quiet none. cc;
    probes = λ size free quiet may named none. cc;
  })

  when_free : Rests (leaves (lets x))
  when_free = by_leaves (lets x) Rests (record {
    acks = λ held due none. cc;
    held = λ held quiet none. cc;
    all = λ free some none. cc;
    idle = λ free quiet none. idle stops (none_asks x quiet) refl;
    asked = λ free quiet none. idle stops (none_asks x quiet) refl;
    probes = λ size free quiet may named none. cc;
  })

  -- what is let goes
  when_let : is_gated x ≡ true → Rests (leaves (lets (pacer_asked x)))
  when_let gate = by_leaves (lets (pacer_asked x)) Rests (record {
    acks = λ held due none. cc;
    held = λ held quiet none. cc;
    all = λ free some none. cc;
    idle = λ free quiet none. absurd (never quiet);
    asked = λ free quiet none. absurd (never quiet);
    probes = λ size free quiet may named none. cc;
  })
    where
      never : waits (pacer_asked x) ≡ false → ⊥
      never quiet = both_ways (asks_to_go x) (none_asks (pacer_asked x) quiet) (and_parts (asks_to_go x) (x.tracking.probes == 0) gate).0

  -- where more may go to its address
  pub resting : e.path.blocked ≡ false → goes (ready_at e now) ≡ false → IsResting (ready_at e now)
  resting unblocked = subst Rests (sym (may_go e now unblocked)) (by_gate x (λ (f : Gated). Rests (leaves f)) (record {
    free = λ gate. when_free;
    full = λ gate is. when_full is;
    lets = λ gate room until. when_let gate;
    holds = λ moment gate room until. when_held moment;
  }))

  -- where nothing more may go there, no timer of the pacer is set, and nothing is held back
  pub blocked_rests : e.path.blocked ≡ true → ((ready_at e now).end.timers.pacing ≡ None) × (is_held (ready_at e now).leaving ≡ false)
  blocked_rests blocked = subst (λ (g : Ready). (g.end.timers.pacing ≡ None) × (is_held g.leaving ≡ false)) (sym (may_not_go e now blocked)) (stops, refl)
