-- A run is one again without what doesn't open and what came before; and a machine on which that
-- leaves something breaks the clause.
use Rattle.std.proofs.Common.{◌≡◌, ℕ, zero, suc, Bool, true, false, [], ◌∷◌, ◌++◌, Some, None, refl, sym, inl, inr, subst, arith, List}
use Rattle.std.specs.Prelude.{slice_get}
use Rattle.std.specs.List.{list_any}
use Rattle.std.proofs.lemmas.Bool.{or_parts}
use Rattle.quic_wire_core.specs.declared.stream_id.Side.{Side}
use Rattle.quic_wire_core.specs.declared.stream_id.Side.TheVariants.{Client, Server}
use Rattle.quic_machine.specs.declared.answers.Received.TheVariants as receives
use Rattle.quic_machine.specs.declared.answers.DropReason.TheVariants as drops
use Rattle.quic_machine.specs.declared.run.Call.{Call}
use Rattle.quic_machine.specs.declared.run.Answer.{Answer}
use Rattle.quic_machine.specs.declared.run.Answer.TheVariants as answers
use Rattle.quic_machine.specs.Machine.{World, IsStep, says_last}
use Rattle.quic_headline.specs.Headline.{IsHonest, IsRun}
use Rattle.quic_headline.specs.Isolated.{is_idle, erased, OnlyIdle, SameButCounts, Isolated, answered_idle, IsolatedByAnswers, listed_idle, IsolatedByLists}
use Rattle.quic_headline.proofs.Isolated.Injected.{injected_stays}
use Rattle.quic_headline.proofs.Isolated.Erasing.{chosen_idle}
use Rattle.quic_worked.specs.Worked.{worked_policies, started, once_opened, once_written, once_ended, once_sent, once_taken, hello_datagram, asks_datagram, gives_bytes, delivers, sending_events, sending_answers}
use Rattle.quic_worked.specs.Broken.{NeverAnswers, IsNoRun}
use Rattle.quic_worked.specs.Ended.{idle_start, once_idle}
use Rattle.quic_worked.specs.Faults.{injects_late}
use Rattle.quic_worked.specs.Isolated.{forged_datagram, forges, refused, asks_wait, noisy_run, quiet_run, noted_early, ticked_early, came_in, noisy_left, quiet_left, asks_idle, too_short, late_dropped, idle_anew}
use Rattle.quic_worked.proofs.Codes.{no_codes}
use Rattle.quic_worked.proofs.WorkedHonest.{call_of}
use Rattle.quic_worked.proofs.WorkedRun as worked
use Rattle.quic_worked.proofs.WorkedRun.{opens, writes, finishes, gives, takes}
use Rattle.quic_worked.proofs.BrokenRuns.{IsRefused, stops, behind, behind_sent}
use Rattle.quic_worked.proofs.OwnIds.{AreOwn, own_ids}
use Rattle.quic_worked.proofs.WorkedKeys.{are_keys}
use Rattle.quic_worked.proofs.EndedRuns.{idle_started, tells_ids}
use Rattle.quic_worked.proofs.Steps.{counts_so, others_so}
use Rattle.quic_worked.proofs.AllValidated.{are_validated}

-- ---- the run

-- what the key refuses leaves both ends as they are, before the datagram came and behind it: the
-- server counts it
refused_first : (now : ℕ) → IsStep worked_policies once_sent (forges now) refused (came_in 1 1 once_sent)
unfolding once_sent
refused_first now = record { answer = refl; end = sym (injected_stays worked_policies.server once_sent.server (record { now = now; remote = 0; ecn = None; bytes = forged_datagram })); control = refl; heard = counts_so worked_policies once_sent (forges now) refused; openings = refl; others = refl; lacking = tt }

refused_again : (now : ℕ) → IsStep worked_policies (came_in 3 1 once_taken) (forges now) refused noisy_left
unfolding once_taken
refused_again now = record { answer = refl; end = sym (injected_stays worked_policies.server once_taken.server (record { now = now; remote = 0; ecn = None; bytes = forged_datagram })); control = refl; heard = counts_so worked_policies (came_in 3 1 once_taken) (forges now) refused; openings = refl; others = refl; lacking = tt }

-- the datagram comes behind what was refused, and comes again
takes_behind : IsStep worked_policies (came_in 1 1 once_sent) delivers (answers.Deliver receives.Taken) (came_in 2 1 once_taken)
unfolding once_taken
takes_behind = record { answer = inl refl; end = refl; control = refl; heard = counts_so worked_policies (came_in 1 1 once_sent) delivers (answers.Deliver receives.Taken); openings = tt; others = refl; lacking = tt }

drops_behind : IsStep worked_policies (came_in 2 1 once_taken) delivers (answers.Deliver (receives.Dropped drops.Duplicate)) (came_in 3 1 once_taken)
unfolding once_taken
drops_behind = record { answer = inl refl; end = refl; control = refl; heard = counts_so worked_policies (came_in 2 1 once_taken) delivers (answers.Deliver (receives.Dropped drops.Duplicate)); openings = tt; others = refl; lacking = tt }

waits : (count failures : ℕ) → IsStep worked_policies (came_in count failures once_taken) asks_wait (answers.Timer (Some 25000000)) (came_in count failures once_taken)
unfolding once_taken
waits count failures = record { answer = refl; end = refl; control = refl; heard = counts_so worked_policies (came_in count failures once_taken) asks_wait (answers.Timer (Some 25000000)); openings = tt; others = refl; lacking = tt }

-- so many bytes are what it counts of the datagram alone
pub counted_once : once_taken ≡ quiet_left
unfolding once_taken
counted_once = refl

-- the client gave its datagram, and the server none
gave_hello : hello_datagram ∷ [] ≡ once_taken.from_client
unfolding once_taken
gave_hello = refl

gave_none : [] ≡ once_taken.from_server
unfolding once_taken
gave_none = refl

pub noisy_is_run : IsRun noisy_run noisy_left
noisy_is_run = record {
  codes = no_codes noisy_run.events refl;
  follows = (
    once_opened,
    opens,
    refl,
    (
      once_written,
      writes,
      refl,
      (
        once_ended,
        finishes,
        refl,
        (
          once_sent,
          gives,
          worked.sent_seen,
          (
            came_in 1 1 once_sent,
            refused_first 1000000000,
            worked.sent_seen,
            (
              came_in 2 1 once_taken,
              takes_behind,
              worked.taken_seen,
              (came_in 3 1 once_taken, drops_behind, worked.taken_seen, (noisy_left, refused_again 1000000000, worked.taken_seen, (noisy_left, waits 4 2, worked.taken_seen, refl))),
            ),
          ),
        ),
      ),
    ),
  );
  from_client = gave_hello;
  from_server = gave_none;
}

-- where nothing else came
takes_alone : IsStep worked_policies once_sent delivers (answers.Deliver receives.Taken) quiet_left
takes_alone = subst (λ (w : World). IsStep worked_policies once_sent delivers (answers.Deliver receives.Taken) w) counted_once takes

pub quiet_is_run : IsRun quiet_run quiet_left
quiet_is_run = record {
  codes = no_codes quiet_run.events refl;
  follows = (once_opened, opens, refl, (once_written, writes, refl, (once_ended, finishes, refl, (once_sent, gives, worked.sent_seen, (quiet_left, takes_alone, worked.taken_seen, (quiet_left, waits 1 0, worked.taken_seen, refl))))));
  from_client = gave_hello;
  from_server = gave_none;
}

-- what both ends have counted then
pub noise_same : SameButCounts noisy_left quiet_left
noise_same = refl

pub noise_sent : noisy_left.client_heard ≡ record { received = 0; sent = 230; failures = 0 }
unfolding once_taken
noise_sent = refl

-- less what is chosen it is the quiet run
pub noise_erased : erased (answered_idle noisy_run) noisy_run ≡ quiet_run
noise_erased = refl

-- ---- the machines

-- the datagram is no duplicate where it comes first
duplicate_no : IsRefused once_sent delivers (answers.Deliver (receives.Dropped drops.Duplicate))
unfolding once_taken
duplicate_no (inl e) = cc
duplicate_no (inr e) = cc

-- the timer doesn't expire a second later
wait_no : IsRefused once_taken asks_wait (answers.Timer (Some 1025000000))
unfolding once_taken
wait_no e = let clash : ◌≡◌ {A = ℕ} 1025000000 25000000 = cc in omega (arith, clash)

-- without what the key refused the datagram is no duplicate
never_noted : NeverAnswers started (sending_events ++ delivers ∷ []) (sending_answers ++ answers.Deliver (receives.Dropped drops.Duplicate) ∷ [])
never_noted = behind_sent (stops _ _ _ _ _ duplicate_no)

-- the injection alone is left out
abbrev fifth : ℕ → Bool
fifth (suc (suc (suc (suc zero)))) = true
fifth i = false

-- where no answer of a list says that the last packet came that may not open, none of them does
pub none_last : (answers : List Answer) → list_any says_last answers ≡ false → (i : ℕ) (a : Answer) → slice_get answers i ≡ Some a → says_last a ≡ false
none_last [] none i a at = cc
none_last (b ∷ bs) none zero a at = let same : b ≡ a = cc in subst (λ (c : Answer). says_last c ≡ false) same (or_parts (says_last b) (list_any says_last bs) none).0
none_last (b ∷ bs) none (suc i) a at = none_last bs (or_parts (says_last b) (list_any says_last bs) none).1 i a at

-- it is idle
fifth_idle : OnlyIdle noted_early fifth
fifth_idle side zero call a chosen at = cc
fifth_idle side (suc zero) call a chosen at = cc
fifth_idle side (suc (suc zero)) call a chosen at = cc
fifth_idle side (suc (suc (suc zero))) call a chosen at = cc
fifth_idle side (suc (suc (suc (suc zero)))) call a chosen at = let same = call_of (forges 0) (record { side = side; call = call }) at.event in subst (λ (c : Call). is_idle c a ≡ true) same refl
fifth_idle side (suc (suc (suc (suc (suc i))))) call a chosen at = let clash : ◌≡◌ {A = Bool} false true = chosen in absurd cc

pub noted_isolated : (end : World) → Isolated noted_early end → ⊥
noted_isolated end any = let less = any (are_validated noted_early refl refl refl) fifth fifth_idle (none_last noted_early.answers refl) in never_noted.never (erased fifth noted_early).views less.0 less.2.follows

-- by the lists the injection brings nothing, and the datagram is new
pub noted_by_lists : IsolatedByLists noted_early → ⊥
noted_by_lists less = let on = less (are_validated noted_early refl refl refl) 6 refl (none_last noted_early.answers refl) in never_noted.never (erased (listed_idle noted_early) noted_early).views on.world on.follows

pub no_noted : IsNoRun noted_early
no_noted = behind_sent (behind refl (refused_first 0) (stops _ _ _ _ _ duplicate_no))

-- without it the acknowledgement waits 25 ms
never_ticked : NeverAnswers started (sending_events ++ delivers ∷ asks_wait ∷ []) (sending_answers ++ answers.Deliver receives.Taken ∷ answers.Timer (Some 1025000000) ∷ [])
never_ticked = behind_sent (behind refl takes (stops _ _ _ _ _ wait_no))

pub ticked_by_answers : (end : World) → IsolatedByAnswers ticked_early end → ⊥
ticked_by_answers end less = let on = less (are_validated ticked_early refl refl refl) (none_last ticked_early.answers refl) in never_ticked.never (erased (answered_idle ticked_early) ticked_early).views on.0 on.2.follows

pub ticked_isolated : (end : World) → Isolated ticked_early end → ⊥
ticked_isolated end any = ticked_by_answers end (λ validated below. any validated (answered_idle ticked_early) (chosen_idle ticked_early) below)

pub no_ticked : IsNoRun ticked_early
no_ticked = behind_sent (behind refl (refused_first 1000000000) (behind refl takes_behind (stops _ _ _ _ _ wait_no)))

-- ---- an idle timer that begins anew

drops_short : IsStep worked_policies (once_idle 1) injects_late too_short late_dropped
unfolding once_idle
drops_short = record { answer = refl; end = refl; control = refl; heard = counts_so worked_policies (once_idle 1) injects_late too_short; openings = tt; others = others_so worked_policies (once_idle 1) injects_late too_short; lacking = tt }

-- the timer doesn't expire five seconds later, with those bytes or without them
anew_no : IsRefused late_dropped asks_idle (answers.Timer (Some 35000000000))
unfolding once_idle
anew_no e = let clash : ◌≡◌ {A = ℕ} 35000000000 30000000000 = cc in omega (arith, clash)

idle_no : IsRefused (once_idle 1) asks_idle (answers.Timer (Some 35000000000))
unfolding once_idle
idle_no e = let clash : ◌≡◌ {A = ℕ} 35000000000 30000000000 = cc in omega (arith, clash)

never_anew : NeverAnswers idle_start (asks_datagram ∷ asks_idle ∷ []) (gives_bytes 222 ∷ answers.Timer (Some 35000000000) ∷ [])
never_anew = behind refl tells_ids (stops _ _ _ _ _ idle_no)

pub anew_by_answers : (end : World) → IsolatedByAnswers idle_anew end → ⊥
anew_by_answers end less = let on = less (are_validated idle_anew refl refl refl) (none_last idle_anew.answers refl) in never_anew.never (erased (answered_idle idle_anew) idle_anew).views on.0 on.2.follows

pub anew_isolated : (end : World) → Isolated idle_anew end → ⊥
anew_isolated end any = anew_by_answers end (λ validated below. any validated (answered_idle idle_anew) (chosen_idle idle_anew) below)

pub anew_by_lists : IsolatedByLists idle_anew → ⊥
anew_by_lists less = let on = less (are_validated idle_anew refl refl refl) 3 refl (none_last idle_anew.answers refl) in never_anew.never (erased (listed_idle idle_anew) idle_anew).views on.world on.follows

anew_own : (side : Side) → AreOwn side [] idle_anew.events idle_anew.answers idle_anew.views
anew_own Client = (tt, (tt, (tt, tt)))
anew_own Server = (tt, (tt, (tt, tt)))

pub anew_is_honest : IsHonest idle_anew
anew_is_honest = record { start = idle_started; keys = are_keys; ids = own_ids idle_anew anew_own }

pub no_anew : IsNoRun idle_anew
no_anew = behind refl tells_ids (behind refl drops_short (stops _ _ _ _ _ anew_no))
