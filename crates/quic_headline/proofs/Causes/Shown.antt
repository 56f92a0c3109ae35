-- Why an end closed, as the views of a run show it, and which calls may close one.
use Rattle.std.proofs.Common.{◌≡◌, ℕ, suc, Bool, true, false, List, Option, Some, None, refl, sym, ap, ◌∙◌, subst, ◌⊎◌, inl, inr}
use Rattle.std.specs.Prelude.{not, if◌then◌else◌}
use Rattle.quic_wire_core.specs.declared.stream_id.Side.{Side}
use Rattle.quic_wire_core.specs.declared.stream_id.Side.TheVariants.{Client, Server}
use Rattle.quic_machine.specs.declared.answers.State.TheVariants as states
use Rattle.quic_machine.specs.declared.answers.LostReason.{LostReason}
use Rattle.quic_machine.specs.declared.answers.LostReason.TheVariants as reasons
use Rattle.quic_machine.specs.declared.run.Call.{Call}
use Rattle.quic_machine.specs.declared.run.Answer.{Answer}
use Rattle.quic_machine.specs.declared.run.View.{View}
use Rattle.quic_machine.specs.Policy.{Policy}
use Rattle.quic_machine.specs.End.{End, with_closing, closed_by}
use Rattle.quic_machine.specs.Poll.{polled, Polled, bounds, may_seal}
use Rattle.quic_machine.specs.Machine.{World, end_at, after_call, view_of}
use Rattle.quic_machine.specs.CallCases.{is_delivery, Plain, IsOwn, by_plain_call}
use Rattle.quic_machine.specs.Closing.{Closing, ticked}
use Rattle.quic_machine.specs.PollCases.{by_poll, at_poll, composes}
use Rattle.quic_machine.specs.LeaveCases.{by_expired}
use Rattle.quic_machine.specs.CallCases as cases
use Rattle.quic_headline.proofs.Packets.Apart.{by_waits, by_next_id}
use Rattle.quic_headline.proofs.Packets.Closes.{by_closes}
use Rattle.quic_spaces.specs.Numbers.{can_number}
use Rattle.quic_headline.specs.Runs.{Run}
use Rattle.quic_headline.specs.Causes.{reason_in, Shows}
use Rattle.quic_headline.proofs.Places.Groups.{Way}
use Rattle.quic_headline.proofs.Places.Placed.{Placed, shown}
use Rattle.quic_headline.proofs.Packets.Stays.{settles_losses}
use Rattle.quic_headline.proofs.Packets.Probes.{may_leave}
use Rattle.quic_headline.proofs.Causes.Closing.{Keeps}

-- a view shows why its end isn't open any more
pub reason_there : (side : Side) (w : World) → reason_in (view_of w) side ≡ (end_at side w).closing.reason
reason_there Client w = refl
reason_there Server w = refl

-- the end behind a view has the reason that it shows
pub reason_shown : (G : Way) (r : Run) (end : World) (side : Side) (place : ℕ) (reason : Option LostReason) → Shows r side place reason → (p : Placed G r end side (suc place)) → (end_at side p.world).closing.reason ≡ reason
reason_shown G r end side place reason shows p = sym (reason_there side p.world) ∙ (ap (λ (v : View). reason_in v side) (sym (shown r p.world place shows.view p.leads shows.there)) ∙ shows.is)

-- the reasons for which an end closes that reads no packet
abbrev pub IsUnread : LostReason → Type 0
IsUnread reasons.NumberLimit = Unit {0}
IsUnread reasons.KeyLimit = Unit {0}
IsUnread reasons.Application = Unit {0}
IsUnread reasons.Idle = Unit {0}
IsUnread reason = ⊥

-- an end isn't open any more: for such a reason, or for that for which it had closed
pub record Shuts (e f : End) : Type 0 where
  pub shut : f.closing.state ≡ states.Open → ⊥
  pub reason : (f.closing.reason ≡ e.closing.reason) ⊎ ((reason : LostReason) × (f.closing.reason ≡ Some reason) × IsUnread reason)

-- a call but a delivery keeps why an end closed and whether it is open, or the end isn't open any
-- more
pub call_closes : (p : Policy) (e : End) (theirs : List (List ℕ)) (call : Call) (a : Answer) → is_delivery call ≡ false → Keeps e (after_call p e theirs call a) ⊎ Shuts e (after_call p e theirs call a)
call_closes p e theirs call a apart = by_plain_call p e theirs P call a keep
  where
    P : End → Type 0
    P f = Keeps e f ⊎ Shuts e f

    -- numbers or the key are used up
    bounded : (reason : LostReason) → bounds p e ≡ Some reason → IsUnread reason
    bounded reason = go (can_number e.numbers) (may_seal p e)
      where
        go : (numbered sealed : Bool) → (if not numbered then Some reasons.NumberLimit else (if not sealed then Some reasons.KeyLimit else None)) ≡ Some reason → IsUnread reason
        go false sealed is = (let same : reasons.NumberLimit ≡ reason = cc in subst IsUnread same tt)
        go true false is = (let same : reasons.KeyLimit ≡ reason = cc in subst IsUnread same tt)
        go true true is = cc

    own : (reason : LostReason) → IsOwn reason → IsUnread reason
    own reasons.Application is = tt
    own reasons.KeyLimit is = tt
    own reason is = absurd is

    polled_keeps : (now : ℕ) → P (polled p e now).end
    polled_keeps now = by_poll p e now (λ (q : Polled). P q.end) (record {
      silent = inl (record { reason = refl; state = refl });
      failed = inl (record { reason = refl; state = refl });
      nothing = λ c. inl (record { reason = refl; state = refl });
      repeats = λ is. by_closes p (with_closing e (ticked e.closing now)) (λ (q : Polled). P q.end) (inl (record { reason = refl; state = refl })) (λ f goes. inl (record { reason = refl; state = refl }));
      closes = λ reason c bound. by_closes p (closed_by reason (at_poll e now c)) (λ (q : Polled). P q.end)
          (inr (record { shut = λ still. cc; reason = inr (reason, refl, bounded reason bound) })) (λ f goes. inr (record { shut = λ still. cc; reason = inr (reason, refl, bounded reason bound) }));
      gives = λ leaving c left is bound ready some.
          let x : End = at_poll e now c in
          let d = composes leaving x (may_leave e now leaving x ready) in
          inl (record { reason = ap (λ (z : Closing). z.reason) d.closing; state = ap (λ (z : Closing). z.state) d.closing });
    })

    keep : Plain p e call P
    keep (cases.times now expiry) may = by_expired p.words e now P (λ pending tracking timers waits asked runs packets. inl (record { reason = refl; state = refl }))
        (λ pending timers waits asked runs. (let s = settles_losses (with_closing e (ticked e.closing now)) in inl (record { reason = ap (λ (z : Closing). z.reason) s.closing; state = ap (λ (z : Closing). z.state) s.closing })))
        (λ x j. inr (record { shut = λ still. cc; reason = inr (reasons.Idle, refl, tt) })) expiry
    keep (cases.polls now) may = polled_keeps now
    keep (cases.hears arrival d) is = (let clash : true ≡ false = sym is ∙ apart in cc)
    keep (cases.closes reason f now) may = inr (record { shut = λ still. cc; reason = inr (reason, refl, own reason may) })
    keep (cases.waits now b) may = by_waits P b (with_closing e (ticked e.closing now)) (inr (record { shut = λ still. cc; reason = inl refl })) (inl (record { reason = refl; state = refl }))
    keep (cases.changes_id b) may = by_next_id P e b (inl (record { reason = refl; state = refl })) (λ c. inl (record { reason = refl; state = refl })) (λ c most. inl (record { reason = refl; state = refl }))
    keep c may = inl (record { reason = refl; state = refl })
