-- A client that is asked for its timers, and one that always answers that none is set.
use Rattle.std.proofs.Common.{◌≡◌, ℕ, [], ◌∷◌, Option, Some, None, refl, inl, sym, ◌∙◌}
use Rattle.quic_wire_core.specs.declared.stream_id.Side.TheVariants.{Client}
use Rattle.quic_time.specs.declared.timer.Timer.TheVariants.{LossDetection}
use Rattle.quic_machine.specs.declared.run.Call.TheVariants as calls
use Rattle.quic_machine.specs.declared.run.Answer.TheVariants as answers
use Rattle.quic_machine.specs.declared.run.View.{View}
use Rattle.quic_machine.specs.Machine.{IsStep, Follows}
use Rattle.quic_headline.specs.Runs.{Run}
use Rattle.quic_headline.specs.Headline.{IsRun}
use Rattle.quic_headline.specs.Views.{ViewsTell}
use Rattle.quic_headline.proofs.Timers.Shown.{run_tells}
use Rattle.quic_worked.specs.Worked.{worked_policies, started, once_opened, once_written, once_ended, once_sent, hello_datagram, sent_view, server_open}
use Rattle.quic_worked.specs.Broken.{IsNoRun}
use Rattle.quic_worked.specs.Timed.{asks_loss, asks_next, asking_run}
use Rattle.quic_worked.proofs.WorkedRun.{opens, writes, finishes, gives, sent_seen}
use Rattle.quic_worked.proofs.BrokenRuns.{IsRefused, stops, behind, behind_sent}
use Rattle.quic_worked.proofs.Codes.{no_codes}
use Rattle.quic_worked.proofs.Steps.{counts_so}

-- ---- the machine's run

abbrev right : Run
right = asking_run (Some 1024000000) (Some 1024000000)

tells_loss : IsStep worked_policies once_sent asks_loss (answers.Timer (Some 1024000000)) once_sent
unfolding once_sent
tells_loss = record { answer = refl; end = refl; control = refl; heard = counts_so worked_policies once_sent asks_loss (answers.Timer (Some 1024000000)); openings = tt; others = refl; lacking = tt }

tells_next : IsStep worked_policies once_sent asks_next (answers.NextTimeout (Some 1024000000)) once_sent
unfolding once_sent
tells_next = record { answer = refl; end = refl; control = refl; heard = counts_so worked_policies once_sent asks_next (answers.NextTimeout (Some 1024000000)); openings = tt; others = refl; lacking = tt }

follows : Follows worked_policies started right.events right.answers right.views once_sent
follows = (once_opened, opens, refl, (once_written, writes, refl, (once_ended, finishes, refl, (once_sent, gives, sent_seen, (once_sent, tells_loss, sent_seen, (once_sent, tells_next, sent_seen, refl))))))

gave_hello : hello_datagram ∷ [] ≡ once_sent.from_client
unfolding once_sent
gave_hello = refl

gave_none : [] ≡ once_sent.from_server
unfolding once_sent
gave_none = refl

pub asking_is_run : IsRun right once_sent
asking_is_run = record { codes = no_codes right.events refl; follows = follows; from_client = gave_hello; from_server = gave_none }

-- ---- the clause

pub tells_timers : ViewsTell right
tells_timers side i call a view at shown = run_tells worked_policies started once_sent right.events right.answers right.views follows side i call a view at.event at.answer shown

-- what is seen once the datagram is given
abbrev given_view : View
given_view = record { client = sent_view; server = server_open }

pub hides_timer : ViewsTell (asking_run None (Some 1024000000)) → ⊥
hides_timer h =
    let clash : ◌≡◌ {A = Option (Option ℕ)} (Some (Some 1024000000)) (Some None) = h Client 4 (calls.Timer LossDetection) (answers.Timer None) given_view (record { event = refl; answer = refl }) refl in
    cc

pub hides_next : ViewsTell (asking_run (Some 1024000000) None) → ⊥
hides_next h = h Client 5 calls.NextTimeout (answers.NextTimeout None) given_view (record { event = refl; answer = refl }) refl 1024000000 (inl refl)

timer_no : IsRefused once_sent asks_loss (answers.Timer None)
timer_no is = let clash : answers.Timer None ≡ answers.Timer (Some 1024000000) = is ∙ sym tells_loss.answer in cc

next_no : IsRefused once_sent asks_next (answers.NextTimeout None)
next_no is = let clash : answers.NextTimeout None ≡ answers.NextTimeout (Some 1024000000) = is ∙ sym tells_next.answer in cc

pub no_timer : IsNoRun (asking_run None (Some 1024000000))
no_timer = behind_sent (stops _ _ _ _ _ timer_no)

pub no_next : IsNoRun (asking_run (Some 1024000000) None)
no_next = behind_sent (behind refl tells_loss (stops _ _ _ _ _ next_no))
