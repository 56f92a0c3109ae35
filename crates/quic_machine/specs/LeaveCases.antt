-- What a timeout and an event leave, each in one form.
use Rattle.std.proofs.Common.{◌≡◌, ℕ, Bool, true, false, Option, Some, None, refl, sym, ap, ◌∙◌, subst}
use Rattle.std.specs.Prelude.{◌+◌, nat_lt, if◌then◌else◌}
use Rattle.quic_recovery_core.specs.PendingAcks.{Pending, after_timeout}
use Rattle.quic_time.specs.Timers.{Timers, has_come}
use Rattle.quic_machine.specs.declared.answers.State.{State}
use Rattle.quic_machine.specs.declared.answers.State.TheVariants as states
use Rattle.quic_machine.specs.declared.answers.LostReason.{LostReason}
use Rattle.quic_machine.specs.declared.answers.LostReason.TheVariants as reasons
use Rattle.quic_streams_parts.specs.declared.answers.StreamEvent.{StreamEvent}
use Rattle.quic_machine.specs.Closing.{ticked, loss_to_tell, after_told}
use Rattle.quic_machine.specs.Sizes.{after_lost}
use Rattle.quic_machine.specs.Policy.{Policy}
use Rattle.quic_machine.specs.Tracking.{Tracking, lost_by, after_detection, after_loss_timeout, loss_moment}
use Rattle.quic_machine.specs.Validation.{Asked, asked_of, with_asked, most_challenges, challenged_anew, path_expired}
use Rattle.quic_machine.specs.End.{End, words_drawn, with_closing, drained_by, with_ack_timer, with_path_timer, probe_timeout, validation_moment, challenged, with_loss_timer, with_tracking, with_ping}
use Rattle.quic_machine.specs.Acked.{packets_lost, losses_detected, verdict}
use Rattle.quic_machine.specs.FrameCases.{packets_lost_keep, by_searched}
use Rattle.quic_machine.specs.Idle.{keep_alive_expired}
use Rattle.quic_machine.specs.Timeouts.{acks_expired, loss_judged, loss_expired, pacing_expired, Expiry, expiry_at, after_busy, unless_idle, after_others, after_expiry, close_expired, timed_out_in, timed_out}
use Rattle.quic_machine.specs.Calls.{streams_told, closing_told, tells_message, tells_done, confirmation_told, message_told, others_told, end_after_event}

-- ---- a timeout

-- an end that took a moment over, with other packets to acknowledge, other tracked packets and
-- other timers, where PING waits or doesn't, and that asks its peer so
abbrev pub at_timeout : End → ℕ → Pending → Tracking → Timers → Bool → Asked → End
at_timeout e now acks tracking timers waits asked = with_asked (with_ping (record e { closing = ticked e.closing now; acknowledging = acks; tracking = tracking; timers = timers }) waits) asked

-- an end that detected losses as it took a moment over
abbrev pub lost_at : End → ℕ → End
lost_at e now = losses_detected (with_closing e (ticked e.closing now))

-- the same with other packets to acknowledge and other timers, where PING waits or doesn't, and
-- that asks its peer so
abbrev pub at_losses : End → ℕ → Pending → Timers → Bool → Asked → End
at_losses e now acks timers waits asked = with_asked (with_ping (record (lost_at e now) { acknowledging = acks; timers = timers }) waits) asked

-- an end that took a moment over, at which these timers expired, and whose random source answers
-- these words
abbrev pub at_expiry : (ℕ → ℕ) → End → ℕ → Expiry → End
at_expiry words e now expiry = after_expiry words expiry (with_closing e (ticked e.closing now))

-- what a timer beside that of losses does that expired, as a value; that of path validation asks
-- the peer anew, by this word, or does no more
pub data Expired : Type 0 where
  of_acks : Expired
  of_pacer : Expired
  of_keep_alive : Expired
  of_path : (word : ℕ) → Expired
  of_last_path : Expired

-- the end that it leaves
abbrev pub after : Expired → End → End
after of_acks e = acks_expired true e
after of_pacer e = pacing_expired true e
after of_keep_alive e = keep_alive_expired true e
after (of_path word) e = challenged word e
after of_last_path e = record e { timers = with_path_timer e.timers None }

-- what each of them keeps, all of them do that expire, and then the loss timer is set anew
pub by_busy : (words : ℕ → ℕ) (P Q : End → Type 0) → ((s : Expired) (e : End) → P e → P (after s e)) → ((e : End) → P e → Q (with_loss_timer e)) → (x : Expiry) (e : End) → P e → Q (after_busy words x e)
by_busy words P Q each sets x e i =
    let validated : End = path_expired words x.path e in
    let alive : End = keep_alive_expired x.keep_alive validated in
    let paced : End = pacing_expired x.pacing alive in
    sets (acks_expired x.acks paced) (acked x.acks paced (pacer x.pacing alive (kept x.keep_alive validated (path x.path))))
  where
    anew : (b : Bool) → P (challenged_anew words b e)
    anew true = each (of_path (words (words_drawn e))) e i
    anew false = each of_last_path e i

    path : (b : Bool) → P (path_expired words b e)
    path true = anew (nat_lt e.validation.drawn most_challenges)
    path false = i

    kept : (b : Bool) (f : End) → P f → P (keep_alive_expired b f)
    kept true f j = each of_keep_alive f j
    kept false f j = j

    pacer : (b : Bool) (f : End) → P f → P (pacing_expired b f)
    pacer true f j = each of_pacer f j
    pacer false f j = j

    acked : (b : Bool) (f : End) → P f → P (acks_expired b f)
    acked true f j = each of_acks f j
    acked false f j = j

-- unless the end is idle, and drained
pub by_expiring : (words : ℕ → ℕ) (P Q : End → Type 0) → ((s : Expired) (e : End) → P e → P (after s e)) → ((e : End) → P e → Q (with_loss_timer e)) → ((e : End) → P e → Q (drained_by reasons.Idle e)) → (x : Expiry) (e : End) → P e → Q (after_others words x e)
by_expiring words P Q each sets drains x e i = go x.idle
  where
    go : (b : Bool) → Q (unless_idle b words x e)
    go true = drains e i
    go false = by_busy words P Q each sets x e i

-- so it is of all timers, behind what that of losses does
pub by_timers : (words : ℕ → ℕ) (P Q : End → Type 0) → ((o : Option ℕ) (e : End) → P e → P (loss_judged o e)) → ((s : Expired) (e : End) → P e → P (after s e)) → ((e : End) → P e → Q (with_loss_timer e)) → ((e : End) → P e → Q (drained_by reasons.Idle e)) → (x : Expiry) (e : End) → P e → Q (after_expiry words x e)
by_timers words P Q judged each sets drains x e i = by_expiring words P Q each sets drains x (loss_expired x.loss e) (lost x.loss)
  where
    lost : (b : Bool) → P (loss_expired b e)
    lost true = judged e.tracking.loss_time e i
    lost false = i

-- an end with other packets to acknowledge, but for their numbers, and other timers, where PING
-- waits or doesn't, and that asks its peer so
pub record IsBut (base e : End) : Type 0 where
  pub acks : Pending
  pub timers : Timers
  pub waits : Bool
  pub asked : Asked
  pub runs : acks.runs ≡ base.acknowledging.runs
  pub is : e ≡ with_asked (with_ping (record base { acknowledging = acks; timers = timers }) waits) asked

-- the timers beside that of losses and the idle one leave no other
pub busy_leave : (words : ℕ → ℕ) (x : Expiry) (e : End) → IsBut e (after_busy words x e)
busy_leave words x e = by_busy words (IsBut e) (IsBut e) each sets x e (record { acks = e.acknowledging; timers = e.timers; waits = e.waiting.signals.ping; asked = asked_of e; runs = refl; is = refl })
  where
    each : (s : Expired) (f : End) → IsBut e f → IsBut e (after s f)
    each of_acks f i = record { acks = after_timeout i.acks; timers = with_ack_timer i.timers None; waits = i.waits; asked = i.asked; runs = i.runs; is = ap (λ (y : End). acks_expired true y) i.is }
    each of_pacer f i = record { acks = i.acks; timers = record i.timers { pacing = None }; waits = i.waits; asked = i.asked; runs = i.runs; is = ap (λ (y : End). pacing_expired true y) i.is }
    each of_keep_alive f i = record { acks = i.acks; timers = record i.timers { keep_alive = None }; waits = true; asked = i.asked; runs = i.runs; is = ap (λ (y : End). keep_alive_expired true y) i.is }
    each (of_path word) f i = record {
      acks = i.acks;
      timers = with_path_timer i.timers (Some (validation_moment e));
      waits = i.waits;
      asked = record { validation = record { challenge = Some word; drawn = i.asked.validation.drawn + 1 }; waits = Some word };
      runs = i.runs;
      is = ap (λ (y : End). challenged word y) i.is;
    }
    each of_last_path f i = record { acks = i.acks; timers = with_path_timer i.timers None; waits = i.waits; asked = i.asked; runs = i.runs; is = ap (λ (y : End). record y { timers = with_path_timer y.timers None }) i.is }

    sets : (f : End) → IsBut e f → IsBut e (with_loss_timer f)
    sets f i = record { acks = i.acks; timers = record i.timers { loss_detection = loss_moment (probe_timeout e) e.tracking }; waits = i.waits; asked = i.asked; runs = i.runs; is = ap (λ (y : End). with_loss_timer y) i.is }

-- an acknowledgement is due where that of acknowledgements expires, and no other timer changes what
-- is to be acknowledged
pub busy_acknowledge : (words : ℕ → ℕ) (x : Expiry) (e : End) → (after_busy words x e).acknowledging ≡ (if x.acks then after_timeout e.acknowledging else e.acknowledging)
busy_acknowledge words x e = go x.acks x.pacing x.keep_alive (path_expired words x.path e) (path x.path)
  where
    anew : (b : Bool) → (challenged_anew words b e).acknowledging ≡ e.acknowledging
    anew true = refl
    anew false = refl

    path : (b : Bool) → (path_expired words b e).acknowledging ≡ e.acknowledging
    path true = anew (nat_lt e.validation.drawn most_challenges)
    path false = refl

    go : (acks pacing keeps : Bool) (f : End) → f.acknowledging ≡ e.acknowledging → (with_loss_timer (acks_expired acks (pacing_expired pacing (keep_alive_expired keeps f)))).acknowledging ≡ (if acks then after_timeout e.acknowledging else e.acknowledging)
    go true true true f is = ap (λ (p : Pending). after_timeout p) is
    go true true false f is = ap (λ (p : Pending). after_timeout p) is
    go true false true f is = ap (λ (p : Pending). after_timeout p) is
    go true false false f is = ap (λ (p : Pending). after_timeout p) is
    go false true true f is = is
    go false true false f is = is
    go false false true f is = is
    go false false false f is = is

-- losses change none of the packets to acknowledge
losses_leave : (e : End) → (losses_detected e).acknowledging ≡ e.acknowledging
losses_leave e =
    let lost = lost_by (verdict e) e.tracking.packets in
    let left : End = packets_lost lost e in
    let same : left.acknowledging ≡ e.acknowledging = packets_lost_keep (λ (x : End). x.acknowledging ≡ e.acknowledging) (λ m x i. i) (λ c x i. i) lost e refl in
    by_searched (after_lost left.closing.clock lost left.path.discovery) (with_tracking left (after_detection (verdict e) e.tracking)) (λ (x : End). x.acknowledging ≡ e.acknowledging) same (λ most. same)

-- whatever timers expire, the numbers to acknowledge are as they were; and so are the tracked
-- packets, unless some were lost
pub by_expired : (words : ℕ → ℕ) (e : End) (now : ℕ) (P : End → Type 0)
    → ((acks : Pending) (tracking : Tracking) (timers : Timers) (waits : Bool) (asked : Asked) → acks.runs ≡ e.acknowledging.runs → tracking.packets ≡ e.tracking.packets → P (at_timeout e now acks tracking timers waits asked))
    → ((acks : Pending) (timers : Timers) (waits : Bool) (asked : Asked) → acks.runs ≡ e.acknowledging.runs → P (at_losses e now acks timers waits asked))
    → ((x : End) → P x → P (drained_by reasons.Idle x))
    → (expiry : Expiry) → P (at_expiry words e now expiry)
by_expired words e now P changes loses drains expiry = go expiry.loss
  where
    begun : End
    begun = with_closing e (ticked e.closing now)

    lost : End
    lost = losses_detected begun

    runs : lost.acknowledging.runs ≡ e.acknowledging.runs
    runs = ap (λ (a : Pending). a.runs) (losses_leave begun)

    -- where no loss is detected, the others leave it so
    busy : (tracking : Tracking) → tracking.packets ≡ e.tracking.packets → P (after_busy words expiry (with_tracking begun tracking))
    busy tracking packets = let left = busy_leave words expiry (with_tracking begun tracking) in subst P (sym left.is) (changes left.acks tracking left.timers left.waits left.asked left.runs packets)

    -- or the end is idle
    changed : (tracking : Tracking) → tracking.packets ≡ e.tracking.packets → P (after_others words expiry (with_tracking begun tracking))
    changed tracking packets = idle expiry.idle
      where
        idle : (b : Bool) → P (unless_idle b words expiry (with_tracking begun tracking))
        idle true = drains (with_tracking begun tracking) (changes e.acknowledging tracking e.timers e.waiting.signals.ping (asked_of e) refl packets)
        idle false = busy tracking packets

    found : (b : Bool) → P (unless_idle b words expiry lost)
    found true = drains lost (loses lost.acknowledging lost.timers lost.waiting.signals.ping (asked_of lost) runs)
    found false = let left = busy_leave words expiry lost in subst P (sym left.is) (loses left.acks left.timers left.waits left.asked (left.runs ∙ runs))

    judged : (o : Option ℕ) → P (after_others words expiry (loss_judged o begun))
    judged None = changed (after_loss_timeout e.tracking) refl
    judged (Some moment) = found expiry.idle

    go : (loss : Bool) → P (after_others words expiry (loss_expired loss begun))
    go true = judged e.tracking.loss_time
    go false = changed e.tracking refl

-- an end that is closing waits for that to be over, and one that isn't open else has no timer
pub by_expiry : (p : Policy) (e : End) (now : ℕ) (P : End → Type 0) → P e → ((b : Bool) → P (close_expired b (with_closing e (ticked e.closing now)))) → ((expiry : Expiry) → P (at_expiry p.words e now expiry)) → P (timed_out p e now).end
by_expiry p e now P same waits expires = go e.closing.state
  where
    go : (state : State) → P (timed_out_in state p e now).end
    go states.Open = expires (expiry_at (ticked e.closing now).clock e.timers)
    go states.Closing = waits (has_come e.timers.close (ticked e.closing now).clock)
    go states.Drained = same
    go states.Failed = same

-- what holds of the end as it was, and of it after whatever timers change or packets are lost,
-- holds after a timeout
pub by_timeout : (p : Policy) (e : End) (now : ℕ) (P : End → Type 0) → P e → ((b : Bool) → P (close_expired b (with_closing e (ticked e.closing now))))
    → ((acks : Pending) (tracking : Tracking) (timers : Timers) (waits : Bool) (asked : Asked) → P (at_timeout e now acks tracking timers waits asked))
    → ((acks : Pending) (timers : Timers) (waits : Bool) (asked : Asked) → P (at_losses e now acks timers waits asked))
    → ((x : End) → P x → P (drained_by reasons.Idle x)) → P (timed_out p e now).end
by_timeout p e now P same waits changes loses drains =
    by_expiry p e now P same waits (by_expired p.words e now P (λ acks tracking timers ping asked runs packets. changes acks tracking timers ping asked) (λ acks timers ping asked runs. loses acks timers ping asked) drains)

-- ---- an event

-- an end whose streams told what they had to tell, and whose loss was told or wasn't
abbrev pub at_event : End → Bool → End
at_event e told = record e { closing = record e.closing { told = told }; streams = (streams_told e).state }

-- what holds whether or not the loss was told holds after an event that tells of no message
pub by_others : (e : End) (P : End → Type 0) → ((told : Bool) → P (at_event e told)) → P (others_told e)
by_others e P changes = go (streams_told e).answer
  where
    loss_case : (o : Option LostReason) → P (record e { streams = (streams_told e).state; closing = after_told o e.closing })
    loss_case None = changes e.closing.told
    loss_case (Some reason) = changes true

    go : (o : Option StreamEvent) → P (record e { streams = (streams_told e).state; closing = closing_told o e.closing })
    go None = loss_case (loss_to_tell e.closing)
    go (Some event) = changes e.closing.told

-- what holds once a message was told of, or that the handshake is confirmed, and in these cases,
-- holds after an event
pub by_event : (e : End) (P : End → Type 0) → P (message_told e) → P (confirmation_told e) → ((told : Bool) → P (at_event e told)) → P (end_after_event e)
by_event e P message confirmation changes = go (tells_message e) (tells_done e)
  where
    go : (b c : Bool) → P (if b then message_told e else (if c then confirmation_told e else others_told e))
    go true c = message
    go false true = confirmation
    go false false = by_others e P changes
