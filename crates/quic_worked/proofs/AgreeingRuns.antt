-- Runs of one start over the same events come to the same, and machines of which they don't.
use Rattle.std.proofs.Common.{◌≡◌, ℕ, Some, refl, inl, ap, arith, List}
use Rattle.std.specs.Prelude.{slice_get, Option}
use Rattle.quic_machine.specs.declared.run.Answer.{Answer}
use Rattle.quic_machine.specs.declared.run.Answer.TheVariants as answers
use Rattle.quic_machine.specs.Machine.{World}
use Rattle.quic_headline.specs.Headline.{IsHonest}
use Rattle.quic_headline.specs.Isolated.{answered_idle, without}
use Rattle.quic_headline.specs.TwoRuns.{BeganSo, CameTo, RunsAgree, IdleRunsAgree}
use Rattle.quic_headline.proofs.Isolated.Erasing.{chosen_idle}
use Rattle.quic_worked.specs.Worked.{once_taken}
use Rattle.quic_worked.specs.Broken.{IsNoRun}
use Rattle.quic_worked.specs.Isolated.{noisy_run, quiet_run, quiet_left, ticked_early, asks_wait}
use Rattle.quic_worked.specs.Agreeing.{drawn_wait}
use Rattle.quic_worked.proofs.AllValidated.{are_validated}
use Rattle.quic_worked.proofs.OwnIds.{honest}
use Rattle.quic_worked.proofs.BrokenRuns.{IsRefused, stops, behind, behind_sent}
use Rattle.quic_worked.proofs.IsolatedRuns.{quiet_is_run, none_last}
use Rattle.quic_worked.proofs.WorkedRun.{takes}

pub quiet_began : BeganSo noisy_run quiet_run (without (answered_idle noisy_run) noisy_run.events) 6
quiet_began = record { keys = refl; start = refl; events = refl; count = refl; finds = refl }

pub quiet_came : CameTo noisy_run quiet_run (without (answered_idle noisy_run) noisy_run.answers) (without (answered_idle noisy_run) noisy_run.views)
quiet_came = record { answers = refl; views = refl; from_client = refl; from_server = refl }

-- when a timer expires by the last of six answers
abbrev expires : Option Answer → ℕ
expires (Some (answers.Timer (Some at))) = at
expires o = 0

-- the server waits for 25 ms in the quiet run
pub drawn_differs : (end : World) → RunsAgree drawn_wait end → ⊥
drawn_differs end agree =
    let came = agree refl quiet_run quiet_left quiet_is_run (record { keys = refl; start = refl; events = refl; count = refl; finds = refl }) in
    let clash : ◌≡◌ {A = ℕ} 25000000 26000000 = ap (λ (told : List Answer). expires (slice_get told 5)) came.0.answers in
    omega (arith, clash)

pub drawn_is_honest : IsHonest drawn_wait
drawn_is_honest = honest drawn_wait (record { start = refl; keys = refl; client = (tt, (inl refl, (inl refl, (tt, (tt, (tt, tt)))))); server = (tt, (tt, (tt, (tt, (tt, (tt, tt)))))) })

drawn_no : IsRefused once_taken asks_wait (answers.Timer (Some 26000000))
unfolding once_taken
drawn_no e = let clash : ◌≡◌ {A = ℕ} 26000000 25000000 = cc in omega (arith, clash)

pub no_drawn : IsNoRun drawn_wait
no_drawn = behind_sent (behind refl takes (stops _ _ _ _ _ drawn_no))

-- so it does without the forged datagram
pub forged_differs : (end : World) → IdleRunsAgree ticked_early end → ⊥
forged_differs end agree =
    let came = agree (are_validated ticked_early refl refl refl) (none_last ticked_early.answers refl) refl (answered_idle ticked_early) (chosen_idle ticked_early) quiet_run quiet_left quiet_is_run (record { keys = refl; start = refl; events = refl; count = refl; finds = refl }) in
    let clash : ◌≡◌ {A = ℕ} 25000000 1025000000 = ap (λ (told : List Answer). expires (slice_get told 5)) came.0.answers in
    omega (arith, clash)

pub ticked_is_honest : IsHonest ticked_early
ticked_is_honest = honest ticked_early (record { start = refl; keys = refl; client = (tt, (inl refl, (inl refl, (tt, (tt, (tt, (tt, tt))))))); server = (tt, (tt, (tt, (tt, (tt, (tt, (tt, tt))))))) })
