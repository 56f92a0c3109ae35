-- What asks for an acknowledgement goes, where no probe of losses waits, only where the window has
-- room for it and the pacer names no later moment (RFC 9002, sections 7 and 7.7), or as a probe of
-- a size.
use Rattle.std.proofs.Common.{◌≡◌, ℕ, ◌+◌, ◌<◌, [], Bool, true, false, Some, None, Ok, refl, sym, ap, ◌∙◌, subst, ◌⊎◌, inl, inr}
use Rattle.std.specs.Prelude.{◌==◌}
use Rattle.std.proofs.lemmas.Bool.{leb-false, eq-eqb, and_cases, or_cases, both_ways}
use Rattle.quic_recovery_core.specs.PendingAcks.{can_send}
use Rattle.quic_machine.specs.declared.run.Call.TheVariants as calls
use Rattle.quic_machine.specs.declared.run.Answer.TheVariants as answers
use Rattle.quic_machine.specs.declared.run.EndView.{EndView}
use Rattle.quic_machine.specs.Parts.{current_mtu}
use Rattle.quic_machine.specs.End.{End}
use Rattle.quic_machine.specs.Control.{bytes_in_flight, paced_until, pacer_asked, with_pacing_timer, Gated, lets, holds}
use Rattle.quic_machine.specs.Poll.{zeros_behind, waits, asking, probed, lazied, composed, asks_to_go, is_gated, gated, Ready, leaves, leaves_unless, goes, draft_of, polled, request_queued}
use Rattle.quic_machine.specs.Machine.{World, end_at, control_at, policy_at}
use Rattle.quic_machine.specs.DraftLaws.{lazy_due}
use Rattle.quic_machine.specs.PollCases.{ready_at, draft_at, by_gate, by_leaves}
use Rattle.quic_headline.specs.Runs.{Run}
use Rattle.quic_headline.specs.Observer.{Sent, asks_of, watch}
use Rattle.quic_headline.specs.Headline.{IsHonest, IsRun}
use Rattle.quic_headline.specs.Polls.{bytes_flying, pacer_names, IsMade, GaveAsking, AreLetting, AskingGoesWhereLet}
use Rattle.quic_headline.proofs.Packets.Invariant.{Acks}
use Rattle.quic_headline.proofs.Packets.Flying.{asking_padded}
use Rattle.quic_headline.proofs.Packets.Group.{PacketsHold}
use Rattle.quic_headline.proofs.Packets.Sight.{Sight}
use Rattle.quic_headline.proofs.Places.Groups.{Way, Nothing, And, Group}
use Rattle.quic_headline.proofs.Steps.Made.{one_behind, served_before, made_at}
use Rattle.quic_headline.proofs.Steps.Probes.{begun}
use Rattle.quic_headline.proofs.Steps.Idle.{mute_composed}
use Rattle.quic_headline.proofs.Steps.Pacing.{names_shown}
use Rattle.quic_headline.proofs.Steps.Probing.{IsGiving, IsProbing, unprobed, probe_goes}
use Rattle.quic_headline.proofs.Steps.Probing as probing
use Rattle.quic_wire_core.specs.declared.stream_id.Side.{Side}
use Rattle.quic_headline.proofs.Places.Parties.{with_shown, shown_at}

-- ---- window and pacer

-- The window of an end has room for one more datagram, and its pacer names no later moment.
record IsLet (e : End) : Type 0 where
  room : bytes_in_flight e + current_mtu e.path < e.path.window
  unpaced : paced_until e ≡ None

-- where no probe of losses waits and what goes asks, both let it, or it is a probe of a size
let_go : (e : End) → Acks e.acknowledging e.marks.came → e.tracking.probes ≡ 0 → goes (leaves (gated e)) ≡ true → asking (draft_of (leaves (gated e))).frames ≡ true → IsLet e ⊎ IsProbing e (leaves (gated e))
let_go e acks none = by_gate e (λ (g : Gated). Goes (leaves g)) (record {
  free = λ is. freely (quiet is);
  full = λ gate is. alone_goes e;
  lets = λ gate room unpaced some asks. inl (record { room = leb-false e.path.window (bytes_in_flight e + current_mtu e.path) room; unpaced = unpaced });
  holds = λ moment gate room is. alone_goes (with_pacing_timer (pacer_asked e) (Some moment));
})
  where
    Goes : Ready → Type 0
    Goes g = goes g ≡ true → asking (draft_of g).frames ≡ true → IsLet e ⊎ IsProbing e g

    -- what is held back doesn't go
    alone_goes : (x : End) → Goes (leaves (holds x))
    alone_goes x = by_leaves (holds x) Goes (record {
      acks = λ held due some asks. (let clash : ◌≡◌ {A = Bool} false true = asks in cc);
      held = λ held none some asks. cc;
      all = λ free some. cc;
      idle = λ free none. cc;
      asked = λ free none. cc;
      probes = λ size free none. cc;
    })

    quiet : is_gated e ≡ false → asks_to_go e ≡ false
    quiet is = elim (and_cases (asks_to_go e) (e.tracking.probes == 0) is) [
      | inl silent ↦ silent
      | inr probes ↦ absurd (both_ways (e.tracking.probes == 0) probes (eq-eqb e.tracking.probes 0 none))
    ]

    -- where nothing asks to go, an ACK goes alone
    mute : asks_to_go e ≡ false → waits e ≡ true → asking (composed (lazied e)).frames ≡ true → ⊥
    mute silent some asks = both_ways (asking (composed (lazied e)).frames) (mute_composed (lazied e) (record { runs = acks.runs; small = acks.small; counts = acks.counts }) (lazy_due e due) silent) asks
      where
        due : can_send e.acknowledging ≡ true
        due = elim (or_cases (can_send e.acknowledging) (asks_to_go e) some) [
          | inl is ↦ is
          | inr is ↦ absurd (both_ways (asks_to_go e) silent is)
        ]

    freely : asks_to_go e ≡ false → Goes (leaves (lets e))
    freely silent = by_leaves (lets e) Goes (record {
      acks = λ held due. cc;
      held = λ held none. cc;
      all = λ free some went asks. absurd (mute silent some asks);
      idle = λ free none some asks. cc;
      asked = λ free none some asks. cc;
      probes = λ size free idle may named some asks. inr (record { size = size; is = refl; idle = idle; may = may; named = named });
    })

-- so it is where nothing more may go to an address that isn't validated: nothing goes
let_leave : (e : End) → Acks e.acknowledging e.marks.came → e.tracking.probes ≡ 0 → (b : Bool) → goes (leaves_unless b e) ≡ true → asking (draft_of (leaves_unless b e)).frames ≡ true → IsLet e ⊎ IsProbing e (leaves_unless b e)
let_leave e acks none true = λ some asks. cc
let_leave e acks none false = let_go e acks none

-- ---- the clause

module _ (H : Way) (g : Group Nothing (And (And PacketsHold H) Sight)) (r : Run) (end : World) (honest : IsHonest r) (run : IsRun r end) where
  module _ (side : Side) (i now : ℕ) (gave : GaveAsking r side i now) (w next : World) (m : IsMade r i side (calls.Poll now) (answers.Poll (Ok (Some gave.one.transmit))) w next) (none : (watch r side i).flight.probes ≡ 0) where
    abbrev e : End
    e = with_shown (end_at side w) (shown_at side w)

    -- it is no close
    gives : IsGiving (policy_at side r.keys) e now gave.one.transmit (polled (policy_at side r.keys) e now).end gave.one.sent
    gives = probing.asking_gives H g r end honest run side i now gave.one w next m gave.asks

    asks : asking (draft_at e now).frames ≡ true
    asks = sym (asking_padded (draft_at e now).frames (zeros_behind (draft_at e now))) ∙ ap (λ (s : Sent). asks_of s) (sym gives.sent) ∙ gave.asks

    -- the end has no probe of losses that waits, so that nothing changes for one
    no_probe : e.tracking.probes ≡ 0
    no_probe = sym (probing.probes H g r end honest run side i now gave.one w next m gives) ∙ none

    quiet : probed (begun e now) ≡ begun e now
    quiet = unprobed (begun e now) no_probe

    acks : Acks e.acknowledging e.marks.came
    acks = (probing.h H g r end honest run side i now gave.one w next m).takes.0.0.acks

    free : IsLet (begun e now) ⊎ IsProbing (begun e now) (ready_at e now)
    free = elim (let_leave x (subst (λ (z : End). Acks z.acknowledging z.marks.came) (sym quiet) (record { runs = acks.runs; small = acks.small; counts = acks.counts })) (ap (λ (z : End). z.tracking.probes) quiet ∙ no_probe) x.path.blocked gives.some asks) [
      | inl let_it ↦ inl (subst IsLet quiet (record { room = let_it.room; unpaced = let_it.unpaced }))
      | inr sizes ↦ inr (probe_goes e now sizes.size (ap (λ (g : Ready). g.leaving) sizes.is))
    ]
      where
        x : End
        x = request_queued (probed (begun e now))

    -- what lets the end give it, is seen before
    lets_it : IsLet (begun e now) → AreLetting r side i now
    lets_it is = record {
      room = subst (λ (u : EndView). bytes_flying r side i + u.current_mtu < u.window) (sym (probing.seen H g r end honest run side i now gave.one w next m))
          (subst (λ (n : ℕ). n + current_mtu (end_at side w).path < control_at side w []) (probing.flight H g r end honest run side i now gave.one w next m gives) is.room);
      unpaced = λ v leads. subst (λ (x : World). pacer_names side x now ≡ None) (one_behind r i w v (served_before r.answers i gave.one.served) m.leads leads) (sym (names_shown side w now) ∙ ap (λ (z : End). paced_until z) quiet ∙ is.unpaced);
    }

  -- where no probe of losses waits, what asks goes only where the window has room for it beside
  -- what is in flight and the pacer names no later moment, or as a probe of a size
  pub asking_goes_where_let : AskingGoesWhereLet r
  asking_goes_where_let side i now gave none =
      let at = made_at (And (And PacketsHold H) Sight) g r end honest run i side (calls.Poll now) (answers.Poll (Ok (Some gave.one.transmit))) gave.one.poll gave.one.served in
      elim (free side i now gave at.before at.behind at.made none) [
        | inl is ↦ inl (lets_it side i now gave at.before at.behind at.made none is)
        | inr is ↦ inr (probing.is_probe H g r end honest run side i now gave.one at.before at.behind at.made (gives side i now gave at.before at.behind at.made none) is at.leads)
      ]
