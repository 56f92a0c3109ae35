-- What an end holds that was made ready to give, by whether window and pacer were asked: its pacer,
-- the timer of it, and whether what goes asks for an acknowledgement.
use Rattle.std.proofs.Common.{◌≡◌, ℕ, Bool, true, false, Some, None, refl, sym, ap, ◌∙◌, subst, inl, inr}
use Rattle.std.specs.Prelude.{max, ◌==◌}
use Rattle.std.proofs.lemmas.Bool.{and_parts, and_cases, or_cases, or_parts, both_ways, eqb-true, eq-eqb}
use Rattle.quic_congestion.specs.Pacer.{Ask, after_ask}
use Rattle.quic_recovery_core.specs.PendingAcks.{can_send}
use Rattle.quic_machine.specs.Parts.{Path, current_mtu}
use Rattle.quic_machine.specs.End.{End}
use Rattle.quic_machine.specs.Control.{is_window_full, paced_rtt, paced_until, pacer_asked, with_pacing_timer, Gated, lets, holds}
use Rattle.quic_machine.specs.Sizes.{may_search, search_names, search_asked}
use Rattle.quic_machine.specs.Poll.{waits, asking, probed, lazied, composed, asks_to_go, is_gated, whole, probe, Ready, leaves, leaves_unless, goes, draft_of, request_queued}
use Rattle.quic_machine.specs.DraftLaws.{lazy_due}
use Rattle.quic_machine.specs.PollCases.{ready_at, by_probed, probe_leaves, by_gate, by_leaves}
use Rattle.quic_headline.proofs.Packets.Invariant.{Acks}
use Rattle.quic_headline.proofs.Steps.Probes.{begun}
use Rattle.quic_headline.proofs.Steps.Idle.{mute_composed}
use Rattle.quic_headline.proofs.Spread.Tokens.{names_of}
use Rattle.quic_headline.proofs.Steps.Probing.{IsProbing, unprobed, unasked}

-- what the pacer of an end is asked in a poll at a moment
abbrev pub ask : End → ℕ → Ask
ask e now = record { rtt = paced_rtt e; bytes = current_mtu e.path; size = current_mtu e.path; window = e.path.window; moment = max e.closing.clock now }

-- an end at a moment, with the timer of its pacer stopped, where ACK_FREQUENCY waits if the peer is
-- to be asked
abbrev pub asked_at : End → ℕ → End
asked_at e now = request_queued (begun e now)

-- An end was made ready so.
pub data IsReadied (e : End) (now : ℕ) (g : Ready) : Type 0 where
  -- the pacer names a later moment
  held : (moment : ℕ) → names_of e.path.pacing (ask e now) ≡ Some moment → g.end.timers.pacing ≡ Some moment → g.end.path.pacing ≡ after_ask e.path.pacing (ask e now) → asking (draft_of g).frames ≡ false → IsReadied e now g
  -- window and pacer let what waits go
  passes : names_of e.path.pacing (ask e now) ≡ None → e.tracking.probes ≡ 0 → is_window_full e ≡ false → asks_to_go (asked_at e now) ≡ true → g ≡ record { leaving = whole; end = pacer_asked (asked_at e now) } → IsReadied e now g
  -- the window is full
  full : g.end.timers.pacing ≡ None → g.end.path.pacing ≡ e.path.pacing → e.tracking.probes ≡ 0 → is_window_full e ≡ true → asking (draft_of g).frames ≡ false → IsReadied e now g
  -- neither was asked: a probe of losses waits, or nothing that asks; then what asks is a probe of
  -- a size
  free : g.end.timers.pacing ≡ None → g.end.path.pacing ≡ e.path.pacing → (e.tracking.probes ≡ 0 → (asks_to_go (asked_at e now) ≡ false) × (asking (draft_of g).frames ≡ true → IsProbing (begun e now) g)) → IsReadied e now g
  -- nothing more may go to an address that isn't validated
  limited : g.end.timers.pacing ≡ None → g.end.path.pacing ≡ e.path.pacing → goes g ≡ false → IsReadied e now g

module _ (e : End) (now : ℕ) where
  -- the end that asks
  abbrev x : End
  x = request_queued (probed (begun e now))

  -- as many probes wait, and its pacer and its clock are the same
  same_probes : x.tracking.probes ≡ e.tracking.probes
  same_probes = by_probed (begun e now) (λ (z : End). z.tracking.probes ≡ e.tracking.probes) refl (λ immediate. refl) (λ immediate. refl) (λ immediate q probes is. refl)

  same_path : x.path ≡ e.path
  same_path = ap (λ (z : End). z.path) (probe_leaves (begun e now))

  pub names : paced_until x ≡ names_of e.path.pacing (ask e now)
  names = ap (λ (z : End). paced_until z) (probe_leaves (begun e now))

  pays : (pacer_asked x).path.pacing ≡ after_ask e.path.pacing (ask e now)
  pays = ap (λ (z : End). (pacer_asked z).path.pacing) (probe_leaves (begun e now))

  stops : x.timers.pacing ≡ None
  stops = ap (λ (z : End). z.timers.pacing) (probe_leaves (begun e now))

  -- where it asks, no probe waits, and it is the end as it was begun
  no_probe : is_gated x ≡ true → e.tracking.probes ≡ 0
  no_probe is = sym same_probes ∙ eqb-true x.tracking.probes 0 (and_parts (asks_to_go x) (x.tracking.probes == 0) is).1

  bare : is_gated x ≡ true → x ≡ asked_at e now
  bare is = ap request_queued (unprobed (begun e now) (no_probe is))

  wants : is_gated x ≡ true → asks_to_go (asked_at e now) ≡ true
  wants is = sym (ap asks_to_go (bare is)) ∙ (and_parts (asks_to_go x) (x.tracking.probes == 0) is).0

  -- ---- what is held back

  when_held : (moment : ℕ) → is_gated x ≡ true → paced_until x ≡ Some moment → IsReadied e now (leaves (holds (with_pacing_timer (pacer_asked x) (Some moment))))
  when_held moment gate until =
      let f : Gated = holds (with_pacing_timer (pacer_asked x) (Some moment)) in
      by_leaves f (IsReadied e now) (record {
        acks = λ is due. held moment (sym names ∙ until) refl pays refl;
        held = λ is none. held moment (sym names ∙ until) refl pays refl;
        all = λ free some. cc;
        idle = λ free none. cc;
        asked = λ free none. cc;
        probes = λ size free none may named. cc;
      })

  when_full : is_gated x ≡ true → is_window_full x ≡ true → IsReadied e now (leaves (holds x))
  when_full gate is =
      let same : is_window_full e ≡ true = sym (ap is_window_full (bare gate)) ∙ is in
      by_leaves (holds x) (IsReadied e now) (record {
        acks = λ on due. full stops (ap (λ (p : Path). p.pacing) same_path) (no_probe gate) same refl;
        held = λ on none. full stops (ap (λ (p : Path). p.pacing) same_path) (no_probe gate) same refl;
        all = λ off some. cc;
        idle = λ off none. cc;
        asked = λ off none. cc;
        probes = λ size off none may named. cc;
      })

  -- ---- what isn't

  when_let : is_gated x ≡ true → is_window_full x ≡ false → paced_until x ≡ None → IsReadied e now (leaves (lets (pacer_asked x)))
  when_let gate room until = by_leaves (lets (pacer_asked x)) (IsReadied e now) (record {
    acks = λ held due. cc;
    held = λ held none. cc;
    all = λ off some. passes (sym names ∙ until) (no_probe gate) (sym (ap is_window_full (bare gate)) ∙ room) (wants gate) (ap (λ (z : End). record { leaving = whole; end = pacer_asked z }) (bare gate));
    idle = λ off none. absurd (silent none);
    asked = λ off none. absurd (silent none);
    probes = λ size off none may named. absurd (silent none);
  })
    where
      silent : waits (pacer_asked x) ≡ false → ⊥
      silent none = both_ways (asks_to_go x) (or_parts (can_send x.acknowledging) (asks_to_go x) none).1 (and_parts (asks_to_go x) (x.tracking.probes == 0) gate).0

  -- where nothing waits that asks, an ACK goes alone
  mute : Acks e.acknowledging e.marks.came → asks_to_go x ≡ false → waits x ≡ true → asking (composed (lazied x)).frames ≡ false
  mute acks silent some = mute_composed (lazied x) (record { runs = there.runs; small = there.small; counts = there.counts }) (lazy_due x due) silent
    where
      there : Acks x.acknowledging x.marks.came
      there = subst (λ (z : End). Acks z.acknowledging z.marks.came) (sym (probe_leaves (begun e now))) acks

      due : can_send x.acknowledging ≡ true
      due = elim (or_cases (can_send x.acknowledging) (asks_to_go x) some) [
        | inl is ↦ is
        | inr is ↦ absurd (both_ways (asks_to_go x) silent is)
      ]

  when_free : Acks e.acknowledging e.marks.came → is_gated x ≡ false → IsReadied e now (leaves (lets x))
  when_free acks gate = by_leaves (lets x) (IsReadied e now) (record {
    acks = λ held due. cc;
    held = λ held none. cc;
    all = λ off some. free stops (ap (λ (p : Path). p.pacing) same_path) (λ none. (there none, λ asks. absurd (both_ways (asking (composed (lazied x)).frames) (mute acks (quiet none) some) asks)));
    idle = λ off none_waits. free stops (ap (λ (p : Path). p.pacing) same_path) (λ none. (there none, λ asks. (let clash : false ≡ true = asks in cc)));
    asked = λ off none_waits. free stops (ap (λ (p : Path). p.pacing) same_path) (λ none. (there none, λ asks. (let clash : false ≡ true = asks in cc)));
    probes = λ size off idle may named. free stops (ap (λ (p : Path). p.pacing) same_path) (λ none. (there none, λ asks. found none size idle may named));
  })
    where
      quiet : e.tracking.probes ≡ 0 → asks_to_go x ≡ false
      quiet none = elim (and_cases (asks_to_go x) (x.tracking.probes == 0) gate) [
        | inl silent ↦ silent
        | inr probes ↦ absurd (both_ways (x.tracking.probes == 0) probes (eq-eqb x.tracking.probes 0 (same_probes ∙ none)))
      ]

      there : e.tracking.probes ≡ 0 → asks_to_go (asked_at e now) ≡ false
      there none = sym (ap (λ (z : End). asks_to_go (request_queued z)) (unprobed (begun e now) none)) ∙ quiet none

      found : e.tracking.probes ≡ 0 → (size : ℕ) → waits x ≡ false → may_search x ≡ true → search_names x ≡ Some size → IsProbing (begun e now) (record { leaving = probe size; end = search_asked x })
      found none size idle may named = subst (λ (z : End). IsProbing z (record { leaving = probe size; end = search_asked x })) (unasked (begun e now) (subst (λ (z : End). waits (request_queued z) ≡ false) (unprobed (begun e now) none) idle))
          (subst (λ (z : End). IsProbing (request_queued z) (record { leaving = probe size; end = search_asked x })) (unprobed (begun e now) none) (record { size = size; is = refl; idle = idle; may = may; named = named }))

  pub readied : Acks e.acknowledging e.marks.came → IsReadied e now (ready_at e now)
  readied acks = go x.path.blocked
    where
      go : (b : Bool) → IsReadied e now (leaves_unless b x)
      go true = limited stops (ap (λ (p : Path). p.pacing) same_path) refl
      go false = by_gate x (λ (f : Gated). IsReadied e now (leaves f)) (record {
        free = λ gate. when_free acks gate;
        full = λ gate is. when_full gate is;
        lets = λ gate room until. when_let gate room until;
        holds = λ moment gate room until. when_held moment gate until;
      })
