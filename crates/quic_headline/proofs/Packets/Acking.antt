-- The numbers that an end has to acknowledge stay few maximal runs of packet numbers, whatever
-- comes and whatever call is made.
use Rattle.std.proofs.Common.{◌≡◌, ℕ, ◌^◌, ◌<◌, Bool, true, false, Option, Some, None, List, ◌∷◌, map, Ok, refl, sym, subst, inl, inr, arith}
use Rattle.quic_wire_core.specs.declared.shared.EcnCodepoint.{EcnCodepoint}
use Rattle.quic_wire_core.specs.declared.shared.EcnCodepoint.TheVariants.{Ect0, Ect1, Ce}
use Rattle.quic_spaces.specs.Marks.{Counts, none_marked, after_mark}
use Rattle.quic_sets.specs.Runs.{Run}
use Rattle.quic_wire.specs.Value.{FrameValue}
use Rattle.quic_recovery_core.specs.Duplicates.{Seen}
use Rattle.quic_recovery_core.specs.PendingAcks.{Pending, none_pending, after_insert, with_wait, asking_counted, after_packet, starts_wait}
use Rattle.quic_recovery_core.proofs.AckRunSteps.{at_most_kept, kept_numbers}
use Rattle.quic_machine.specs.declared.run.Call.{Call}
use Rattle.quic_machine.specs.declared.run.Answer.{Answer}
use Rattle.quic_machine.specs.Policy.{Policy}
use Rattle.quic_machine.specs.Closing.{ticked}
use Rattle.quic_machine.specs.End.{End, with_closing, closed_by}
use Rattle.quic_machine.specs.Receive.{asks_in}
use Rattle.quic_spaces.specs.Acknowledging.{with_due}
use Rattle.quic_machine.specs.Poll.{Draft, Polled, polled, draft_as, Leaving, whole, lazied_as}
use Rattle.quic_machine.specs.Machine.{after_call}
use Rattle.quic_headline.specs.Runs.{Packet, Intake}
use Rattle.quic_machine.specs.DraftLaws.{Writing, by_leave, MayLeave}
use Rattle.quic_machine.specs.Puts as puts
use Rattle.quic_headline.proofs.Packets.Invariant.{AreTaken, CountsFit, Acks}
use Rattle.quic_machine.specs.FrameCases.{begun}
use Rattle.quic_headline.proofs.Packets.Delivered.{Arrivals, arrived, with_taken}
use Rattle.quic_headline.proofs.Packets.Stays.{Keeps, keeps_frames, settles_losses}
use Rattle.quic_headline.proofs.Packets.Probes.{may_leave}
use Rattle.quic_machine.specs.LeaveCases.{by_expired}
use Rattle.quic_machine.specs.CallCases.{Plain, is_delivery, by_plain_call}
use Rattle.quic_machine.specs.CallCases as cases
use Rattle.quic_machine.specs.PollCases.{by_poll, at_poll}
use Rattle.quic_headline.proofs.Packets.Closes.{by_closes}
use Rattle.quic_headline.proofs.Packets.Apart.{by_waits, by_next_id}
use Rattle.quic_headline.proofs.Packets.Moved.{by_migrated}
use Rattle.quic_headline.proofs.Packets.Moving.{moved_acks}
use Rattle.quic_machine.specs.Migration.{migrated}

-- nothing came yet
pub acks_first : Acks none_pending none_marked
acks_first = record { runs = record { runs = tt; few = omega arith; small = λ k h. absurd h }; small = λ k h. absurd h; counts = (omega arith, omega arith, omega arith) }

-- the same runs
acks_same : (p q : Pending) (came : Counts) → q.runs ≡ p.runs → Acks p came → Acks q came
acks_same p q came same acks = record { runs = rw same acks.runs; small = rw same acks.small; counts = acks.counts }

-- one packet more with a mark, or with none
counts_fit : (mark : Option EcnCodepoint) (came : Counts) → CountsFit came → CountsFit (after_mark mark came)
counts_fit None came fit = fit
counts_fit (Some Ect0) came fit = (omega arith, fit.1, fit.2)
counts_fit (Some Ect1) came fit = (fit.0, omega arith, fit.2)
counts_fit (Some Ce) came fit = (fit.0, fit.1, omega arith)

-- ---- a packet

-- setting the timer changes no number
wait_runs : (b : Bool) (p : Pending) (now : ℕ) → starts_wait p ≡ b → (with_wait p now).runs ≡ p.runs
wait_runs true p now is = rw is refl
wait_runs false p now is = rw is refl

-- a packet that came changes when an acknowledgement is due, and no number
pub packet_runs : (p : Pending) (now n : ℕ) (asking : Bool) (seen : Seen) → (after_packet p now n asking seen).runs ≡ p.runs
packet_runs p now n true seen = wait_runs (starts_wait (asking_counted p n seen)) (asking_counted p n seen) now refl
packet_runs p now n false seen = refl

-- the number of a packet is one more to acknowledge
pub acks_taken : (p : Pending) (came : Counts) (urged : Bool) (mark : Option EcnCodepoint) (n now : ℕ) (asking : Bool) (seen : Seen) → n < 2 ^ 62 → Acks p came → Acks (after_packet (with_due urged (after_insert p n now)) now n asking seen) (after_mark mark came)
acks_taken p came urged mark n now asking seen lt acks =
    let due : Pending = with_due urged (after_insert p n now) in
    acks_same (after_insert p n now) (after_packet due now n asking seen) (after_mark mark came) (packet_runs due now n asking seen) (record {
      runs = at_most_kept p.runs n acks.runs (omega arith);
      small = λ k h. elim (kept_numbers p.runs n k acks.runs.runs h) [ inl old ↦ acks.small k old | inr same ↦ omega arith ];
      counts = counts_fit mark came acks.counts;
    })

-- in each case of a delivery what is to acknowledge stays so
pub acks_arrivals : (e : End) (now n : ℕ) (frames taken : List FrameValue) (i : Intake) → n < 2 ^ 62 → Acks e.acknowledging e.marks.came → Arrivals e now n frames taken i (λ o j. Acks o.end.acknowledging o.end.marks.came)
acks_arrivals e now n frames taken i small acks = record {
  ignored = λ reason. acks;
  noted = λ state reason. acks;
  takes = λ words state new none urged mark. acks_taken left.acknowledging left.marks.came urged mark n left.closing.clock (asks_in (map Ok frames)) left.numbers.opened small after;
  moves = λ p o same remote x opened i. subst (λ (q : Pending). Acks q (migrated p o remote x).marks.came) (sym (moved_acks p o remote x)) (by_migrated (λ (z : End). Acks x.acknowledging z.marks.came) p o remote x (λ c. i) (λ c most. i));
  drains = λ words state new close is. after;
  refuses = λ words state new f is. after;
  exhausts = λ state. acks;
}
  where
    left : End
    left = (arrived e now n taken).end

    after : Acks left.acknowledging left.marks.came
    after = (keeps_frames taken (begun e now n)).acks acks

-- in each case of a delivery the numbers to acknowledge are those of packets that were taken
pub taken_arrivals : (e : End) (now n : ℕ) (frames those : List FrameValue) (i : Intake) → Acks e.acknowledging e.marks.came → AreTaken e.acknowledging.runs i.took → Arrivals e now n frames those i (λ o j. AreTaken o.end.acknowledging.runs j.took)
taken_arrivals e now n frames those i acks before = record {
  ignored = λ reason. before;
  noted = λ state reason. before;
  takes = λ words state new none urged mark. taken urged;
  moves = λ p o same remote x opened h. subst (λ (q : Pending). AreTaken q.runs (with_taken i n frames).took) (sym (moved_acks p o remote x)) h;
  drains = λ words state new close is k h. (let t = before k (keeps.fewer k h) in record { packet = t.packet; was_taken = inr t.was_taken; is = t.is });
  refuses = λ words state new f is k h. before k (keeps.fewer k h);
  exhausts = λ state. before;
}
  where
    left : End
    left = (arrived e now n those).end

    keeps : Keeps (begun e now n) left
    keeps = keeps_frames those (begun e now n)

    taken : (urged : Bool) → AreTaken (after_packet (with_due urged (after_insert left.acknowledging n left.closing.clock)) left.closing.clock n (asks_in (map Ok frames)) left.numbers.opened).runs (record { number = n; frames = frames } ∷ i.took)
    taken urged k h =
        let same = packet_runs (with_due urged (after_insert left.acknowledging n left.closing.clock)) left.closing.clock n (asks_in (map Ok frames)) left.numbers.opened in
        let after = keeps.acks acks in
        elim (kept_numbers left.acknowledging.runs n k after.runs.runs (rw same at h)) [
          | inl old ↦ (let t = before k (keeps.fewer k old) in record { packet = t.packet; was_taken = inr t.was_taken; is = t.is })
          | inr is ↦ record { packet = record { number = n; frames = frames }; was_taken = inl refl; is = sym is }
        ]

-- ---- a poll

-- an end that has the numbers and the marks of another to tell
abbrev pub TellsAs : End → End → Type 0
TellsAs e f = (f.acknowledging.runs ≡ e.acknowledging.runs) × (f.marks.came ≡ e.marks.came)

-- they are the same where an acknowledgement becomes due
pub lazied_tells : (leaving : Leaving) (e : End) → TellsAs e (lazied_as leaving e)
lazied_tells whole e = (refl, refl)
lazied_tells other e = (refl, refl)

-- whichever frames go, they stay: an ACK that tells them may be lost
draft_runs : (leaving : Leaving) (e : End) → MayLeave leaving e → TellsAs e (draft_as leaving e).end
draft_runs leaving e due = by_leave (λ (d : Draft). TellsAs e d.end) keep leaving e due (lazied_tells leaving e)
  where
    keep : Writing (λ (d : Draft). TellsAs e d.end)
    keep puts.ping d may same = same
    keep p d may same = same

-- a poll leaves them
polled_runs : (p : Policy) (e : End) (now : ℕ) → TellsAs e (polled p e now).end
polled_runs p e now = by_poll p e now (λ (q : Polled). TellsAs e q.end) (record {
  silent = (refl, refl);
  failed = (refl, refl);
  nothing = λ c. (refl, refl);
  repeats = λ is. by_closes p (with_closing e (ticked e.closing now)) (λ (q : Polled). TellsAs e q.end) (refl, refl) (λ f goes. (refl, refl));
  closes = λ reason c bound. by_closes p (closed_by reason (at_poll e now c)) (λ (q : Polled). TellsAs e q.end) (refl, refl) (λ f goes. (refl, refl));
  gives = λ leaving c left is may ready some.
      let x : End = at_poll e now c in
      draft_runs leaving x (may_leave e now leaving x ready);
})

-- ---- any call

-- a call that is no delivery leaves them, though losses are detected
pub runs_step : (q : Policy) (e : End) (theirs : List (List ℕ)) (call : Call) (a : Answer) → is_delivery call ≡ false → TellsAs e (after_call q e theirs call a)
runs_step q e theirs call a other = by_plain_call q e theirs (TellsAs e) call a cases_keep
  where
    cases_keep : Plain q e call (TellsAs e)
    cases_keep (cases.times now expiry) may = by_expired q.words e now (TellsAs e) (λ pending tracking timers waits asked runs packets. (runs, refl)) (λ pending timers waits asked runs. (runs, (settles_losses (with_closing e (ticked e.closing now))).came)) (λ x j. j) expiry
    cases_keep (cases.polls now) may = polled_runs q e now
    cases_keep (cases.hears arrival d) is = cc
    cases_keep (cases.waits now b) may = by_waits (TellsAs e) b (with_closing e (ticked e.closing now)) (refl, refl) (refl, refl)
    cases_keep (cases.changes_id b) may = by_next_id (TellsAs e) e b (refl, refl) (λ c. (refl, refl)) (λ c most. (refl, refl))
    cases_keep c may = (refl, refl)

-- the numbers to acknowledge stay those of packets that were taken over a call that is no delivery
pub taken_step : (q : Policy) (e : End) (theirs : List (List ℕ)) (call : Call) (a : Answer) (packets : List Packet) → is_delivery call ≡ false → AreTaken e.acknowledging.runs packets → AreTaken (after_call q e theirs call a).acknowledging.runs packets
taken_step q e theirs call a packets other before = subst (λ (runs : List Run). AreTaken runs packets) (sym (runs_step q e theirs call a other).0) before

-- what is to acknowledge stays so over a call that is no delivery
pub acks_step : (q : Policy) (e : End) (theirs : List (List ℕ)) (call : Call) (a : Answer) → is_delivery call ≡ false → Acks e.acknowledging e.marks.came → Acks (after_call q e theirs call a).acknowledging (after_call q e theirs call a).marks.came
acks_step q e theirs call a other acks =
    let same = runs_step q e theirs call a other in
    acks_same e.acknowledging (after_call q e theirs call a).acknowledging (after_call q e theirs call a).marks.came same.0 (subst (Acks e.acknowledging) (sym same.1) acks)
