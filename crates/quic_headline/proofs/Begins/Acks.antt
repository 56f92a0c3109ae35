-- By what an ACK frame becomes due at an open end, where a timer expires and at a poll.
use Rattle.std.proofs.Common.{◌≡◌, ℕ, max, Bool, true, false, ◌||◌, List, Option, Some, None, refl, sym, ap, ◌∙◌, ◌⊎◌, inl, inr}
use Rattle.std.proofs.lemmas.Bool.{and_parts}
use Rattle.std.specs.Prelude.{nat_lt, if◌then◌else◌, not, ◌&&◌}
use Rattle.std.proofs.lemmas.Bool.{or_cases}
use Rattle.quic_recovery_core.specs.PendingAcks.{Pending, lazy_threshold, after_timeout}
use Rattle.quic_time.specs.Timers.{has_come}
use Rattle.quic_machine.specs.declared.answers.State.TheVariants as states
use Rattle.quic_machine.specs.declared.answers.State.{State}
use Rattle.quic_machine.specs.Policy.{Policy}
use Rattle.quic_machine.specs.End.{End, closed_by, with_closing}
use Rattle.quic_machine.specs.Timeouts.{Expiry, timed_out_in, timed_out}
use Rattle.quic_machine.specs.Poll.{Polled, Draft, no_frames, Leaving, whole, alone, probe, nothing, closing, lazied_as, draft_as, polled}
use Rattle.quic_machine.specs.DraftLaws.{Writing, by_leave, MayLeave}
use Rattle.quic_machine.specs.Puts as puts
use Rattle.quic_machine.specs.PollCases.{ready_at, draft_at, by_poll_to, may_leave_at}
use Rattle.quic_machine.specs.LeaveCases.{at_expiry}
use Rattle.quic_headline.specs.Observer.{is_past}
use Rattle.quic_headline.specs.Moments.{first_deadline}
use Rattle.quic_machine.specs.Closing.{ticked}
use Rattle.quic_headline.proofs.Packets.Closes.{by_closes}
use Rattle.quic_headline.proofs.Packets.Probes.{ready_acks, by_going}
use Rattle.quic_headline.proofs.Rest.Standing.{expired_acks}

-- ---- a timeout

-- the timer of acknowledgements expired, or an acknowledgement was due
expired_due : (words : ℕ → ℕ) (e : End) (now : ℕ) (expiry : Expiry) → (at_expiry words e now expiry).acknowledging.due ≡ true → (e.acknowledging.due ≡ true) ⊎ (expiry.acks ≡ true)
expired_due words e now expiry due = go (not expiry.idle && expiry.acks) refl (ap (λ (p : Pending). p.due) (sym (expired_acks words e now expiry)) ∙ due)
  where
    go : (b : Bool) → (not expiry.idle && expiry.acks) ≡ b → (if b then after_timeout e.acknowledging else e.acknowledging).due ≡ true → (e.acknowledging.due ≡ true) ⊎ (expiry.acks ≡ true)
    go true both is = inr (and_parts (not expiry.idle) expiry.acks both).1
    go false none is = inl is

-- where one is due behind a timeout at an open end, it was, or the first of these deadlines has come
pub timeout_due : (p : Policy) (e : End) (now : ℕ) (deadlines : List ℕ) → e.closing.state ≡ states.Open → ((moment : ℕ) → e.timers.max_ack_delay ≡ Some moment → first_deadline deadlines ≡ Some moment) → (timed_out p e now).end.acknowledging.due ≡ true
    → (e.acknowledging.due ≡ true) ⊎ (is_past (first_deadline deadlines) (max e.closing.clock now) ≡ true)
timeout_due p e now deadlines opened owes due = go e.closing.state opened due
  where
    late : (o : Option ℕ) → e.timers.max_ack_delay ≡ o → has_come o (max e.closing.clock now) ≡ true → is_past (first_deadline deadlines) (max e.closing.clock now) ≡ true
    late None set came = cc
    late (Some moment) set came = ap (λ (o : Option ℕ). is_past o (max e.closing.clock now)) (owes moment set) ∙ came

    go : (s : State) → s ≡ states.Open → (timed_out_in s p e now).end.acknowledging.due ≡ true → (e.acknowledging.due ≡ true) ⊎ (is_past (first_deadline deadlines) (max e.closing.clock now) ≡ true)
    go states.Open is due = elim (expired_due p.words e now _ due) [
      | inl was ↦ inl was
      | inr came ↦ inr (late e.timers.max_ack_delay refl came)
    ]
    go states.Closing is due = cc
    go states.Drained is due = cc
    go states.Failed is due = cc

-- ---- a poll

-- it was due, or many came that don't ask
abbrev DueOf : End → End → Type 0
DueOf e f = f.acknowledging.due ≡ true → (e.acknowledging.due ≡ true) ⊎ (nat_lt lazy_threshold e.acknowledging.silent ≡ true)

draft_due : (e : End) (leaving : Leaving) (x : End) → MayLeave leaving x → x.acknowledging ≡ e.acknowledging → DueOf e (draft_as leaving x).end
draft_due e leaving x may same = by_leave (λ (d : Draft). DueOf e d.end) keep leaving x may (none leaving)
  where
    keep : Writing (λ (d : Draft). DueOf e d.end)
    keep puts.ack d may i = λ due. cc
    keep p d may i = i

    lazy : DueOf e (lazied_as whole x)
    lazy due = or_cases e.acknowledging.due (nat_lt lazy_threshold e.acknowledging.silent) (ap (λ (p : Pending). p.due || nat_lt lazy_threshold p.silent) (sym same) ∙ due)

    none : (l : Leaving) → DueOf e (no_frames (lazied_as l x)).end
    none whole = lazy
    none alone = lazy
    none (probe size) = λ due. inl (ap (λ (p : Pending). p.due) (sym same) ∙ due)
    none (closing f) = λ due. inl (ap (λ (p : Pending). p.due) (sym same) ∙ due)
    none (nothing held) = λ due. inl (ap (λ (p : Pending). p.due) (sym same) ∙ due)

pub polled_due : (p : Policy) (e : End) (now : ℕ) → DueOf e (polled p e now).end
polled_due p e now = by_poll_to p e now (λ (q : Polled). DueOf e q.end) (record {
  silent = λ due. inl due;
  failed = λ due. inl due;
  nothing = λ is none due. inl (ready due);
  repeats = λ is. by_closes p (with_closing e (ticked e.closing now)) (λ (q : Polled). DueOf e q.end) (λ due. inl due) (λ f goes due. inl due);
  closes = λ reason bound. by_closes p (closed_by reason (ready_at e now).end) (λ (q : Polled). DueOf e q.end) (λ due. inl (ready due)) (λ f goes due. inl (ready due));
  gives = λ is may some. by_going (DueOf e) p (draft_at e now) (λ pacing. draft_due e (ready_at e now).leaving (ready_at e now).end (may_leave_at e now) (ready_acks e now));
})
  where
    ready : (ready_at e now).end.acknowledging.due ≡ true → e.acknowledging.due ≡ true
    ready due = ap (λ (q : Pending). q.due) (sym (ready_acks e now)) ∙ due
