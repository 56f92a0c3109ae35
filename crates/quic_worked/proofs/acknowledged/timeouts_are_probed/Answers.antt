use Rattle.std.proofs.Common.{◌≡◌, ℕ, Bool, true, false, refl, ap, ◌∙◌}
use Rattle.quic_time.specs.Timers.{has_come}
use Rattle.quic_machine.specs.declared.answers.State.{State}
use Rattle.quic_machine.specs.declared.answers.State.TheVariants as states
use Rattle.quic_machine.specs.Closing.{ticked}
use Rattle.quic_machine.specs.Policy.{Policy}
use Rattle.quic_machine.specs.End.{End, with_closing}
use Rattle.quic_machine.specs.Timeouts.{expiry_at, after_expiry, timed_out, timed_out_in}
use Rattle.quic_worked.specs.Worked.{once_sent, worked_policies}
use Rattle.quic_worked.proofs.acknowledged.timeouts_are_probed.Goals as goal

-- before the loss timer of an open end expires, nothing changes of what it waits for, while it is
-- busy and its path isn't asked again
early_leaves : (p : Policy) (e : End) (now : ℕ) → e.closing.state ≡ states.Open → has_come e.timers.loss_detection (ticked e.closing now).clock ≡ false
    → has_come e.timers.idle (ticked e.closing now).clock ≡ false → has_come e.timers.path_validation (ticked e.closing now).clock ≡ false
    → (timed_out p e now).end.tracking ≡ e.tracking
early_leaves p e now opened early busy asked =
    let x = expiry_at (ticked e.closing now).clock e.timers in
    ap (λ (state : State). (timed_out_in state p e now).end.tracking) opened
    ∙ ap (λ (loss : Bool). (after_expiry p.words (record x { loss = loss }) begun).tracking) early
    ∙ ap (λ (idle : Bool). (after_expiry p.words (record x { loss = false; idle = idle }) begun).tracking) busy
    ∙ ap (λ (path : Bool). (after_expiry p.words (record x { loss = false; idle = false; path = path }) begun).tracking) asked
    ∙ go x.acks x.keep_alive x.pacing
  where
    begun : End
    begun = with_closing e (ticked e.closing now)

    go : (acks keep_alive pacing : Bool) → (after_expiry p.words (record { acks = acks; loss = false; idle = false; path = false; keep_alive = keep_alive; pacing = pacing }) begun).tracking ≡ e.tracking
    go true true true = refl
    go true true false = refl
    go true false true = refl
    go true false false = refl
    go false true true = refl
    go false true false = refl
    go false false true = refl
    go false false false = refl

sent_opened : once_sent.client.closing.state ≡ states.Open
unfolding once_sent
sent_opened = refl

not_come : has_come once_sent.client.timers.loss_detection (ticked once_sent.client.closing 1023999999).clock ≡ false
unfolding once_sent
not_come = refl

busy_still : has_come once_sent.client.timers.idle (ticked once_sent.client.closing 1023999999).clock ≡ false
unfolding once_sent
busy_still = refl

not_asked : has_come once_sent.client.timers.path_validation (ticked once_sent.client.closing 1023999999).clock ≡ false
unfolding once_sent
not_asked = refl

pub returns-clause-early : goal.returns-clause-early
returns-clause-early c = early_leaves worked_policies.client once_sent.client 1023999999 sent_opened not_come busy_still not_asked
