-- An application that is told once why its connection is lost, event by event, and machines that
-- tell it otherwise.
use Rattle.std.proofs.Common.{◌≡◌, ℕ, ◌≤◌, Some, None, refl, lit<, arith}
use Rattle.quic_wire_core.specs.declared.stream_id.Side.TheVariants.{Client}
use Rattle.quic_machine.specs.declared.answers.LostReason.TheVariants as reasons
use Rattle.quic_machine.specs.declared.run.Answer.TheVariants as answers
use Rattle.quic_machine.specs.declared.run.View.{View}
use Rattle.quic_machine.specs.Machine.{IsStep, Follows, view_of}
use Rattle.quic_headline.specs.Runs.{until}
use Rattle.quic_headline.specs.Headline.{IsHonest, IsRun}
use Rattle.quic_headline.specs.Events.{losses_told, LossIsTold}
use Rattle.quic_headline.proofs.Events.Lost.{loss_is_told}
use Rattle.quic_worked.specs.Worked.{worked_policies, server_open}
use Rattle.quic_worked.specs.Broken.{IsNoRun}
use Rattle.quic_worked.specs.Ended.{closing_view, once_closed}
use Rattle.quic_worked.specs.Paired.{client_asks}
use Rattle.quic_worked.specs.Shut.{tells_lost, once_lost, losing_run, lost_untold, lost_twice, lost_otherwise}
use Rattle.quic_worked.proofs.Codes.{AllSmall, small_codes}
use Rattle.quic_worked.proofs.OwnIds.{honest}
use Rattle.quic_worked.proofs.BrokenRuns.{IsRefused, behind, stops}
use Rattle.quic_worked.proofs.EndedRuns.{closes, closed_seen}
use Rattle.quic_worked.proofs.Steps.{counts_so}

tells : IsStep worked_policies (once_closed 1) client_asks (tells_lost reasons.Application) (once_lost 2)
unfolding once_closed once_lost
tells = record { answer = refl; end = refl; control = refl; heard = counts_so worked_policies (once_closed 1) client_asks (tells_lost reasons.Application); openings = tt; others = refl; lacking = tt }

tells_none : IsStep worked_policies (once_lost 2) client_asks (answers.Event None) (once_lost 3)
unfolding once_lost
tells_none = record { answer = refl; end = refl; control = refl; heard = counts_so worked_policies (once_lost 2) client_asks (answers.Event None); openings = tt; others = refl; lacking = tt }

abbrev seen : View
seen = record { client = closing_view; server = server_open }

told_seen : seen ≡ view_of (once_lost 2)
unfolding once_lost
told_seen = refl

last_seen : seen ≡ view_of (once_lost 3)
unfolding once_lost
last_seen = refl

losing_follows : Follows losing_run.keys losing_run.start losing_run.events losing_run.answers losing_run.views (once_lost 3)
losing_follows = (once_closed 1, closes, closed_seen, (once_lost 2, tells, told_seen, (once_lost 3, tells_none, last_seen, refl)))

gave_client : losing_run.from_client ≡ (once_lost 3).from_client
unfolding once_lost
gave_client = refl

gave_server : losing_run.from_server ≡ (once_lost 3).from_server
unfolding once_lost
gave_server = refl

losing_codes : AllSmall losing_run.events
losing_codes = (lit< tt, (tt, (tt, tt)))

pub losing_is_run : IsRun losing_run (once_lost 3)
losing_is_run = record { codes = small_codes losing_run.events losing_codes; follows = losing_follows; from_client = gave_client; from_server = gave_server }

pub losing_is_honest : IsHonest losing_run
losing_is_honest = honest losing_run (record { start = refl; keys = refl; client = (tt, (tt, (tt, tt))); server = (tt, (tt, (tt, tt))) })

pub none_first : losses_told (until losing_run Client 1) ≡ 0
none_first = refl

pub one_then : losses_told (until losing_run Client 3) ≡ 1
one_then = refl

pub told_so : LossIsTold losing_run
told_so = loss_is_told losing_run (once_lost 3) losing_is_honest losing_is_run

pub untold_not : LossIsTold lost_untold → ⊥
untold_not h = let clash : ◌≡◌ {A = ℕ} 0 1 = (h Client 1 refl).told reasons.Application (record { event = refl; answer = refl }) refl in omega (arith, clash)

pub twice_not : LossIsTold lost_twice → ⊥
twice_not h = let once : 2 ≤ 1 = (h Client 3 refl).once in omega (arith, once)

pub other_not : LossIsTold lost_otherwise → ⊥
other_not h = let clash : Some reasons.Application ≡ Some reasons.Idle = (h Client 1 refl).why reasons.Idle (record { event = refl; answer = refl }) in cc

pub untold_is_honest : IsHonest lost_untold
untold_is_honest = honest lost_untold (record { start = refl; keys = refl; client = (tt, (tt, tt)); server = (tt, (tt, tt)) })

pub twice_is_honest : IsHonest lost_twice
twice_is_honest = honest lost_twice (record { start = refl; keys = refl; client = (tt, (tt, (tt, tt))); server = (tt, (tt, (tt, tt))) })

pub other_is_honest : IsHonest lost_otherwise
other_is_honest = honest lost_otherwise (record { start = refl; keys = refl; client = (tt, (tt, tt)); server = (tt, (tt, tt)) })

untold_no : IsRefused (once_closed 1) client_asks (answers.Event None)
unfolding once_closed
untold_no e = cc

pub no_untold : IsNoRun lost_untold
no_untold = behind refl closes (stops _ _ _ _ _ untold_no)

twice_no : IsRefused (once_lost 2) client_asks (tells_lost reasons.Application)
unfolding once_lost
twice_no e = cc

pub no_twice : IsNoRun lost_twice
no_twice = behind refl closes (behind refl tells (stops _ _ _ _ _ twice_no))

other_no : IsRefused (once_closed 1) client_asks (tells_lost reasons.Idle)
unfolding once_closed
other_no e = cc

pub no_other : IsNoRun lost_otherwise
no_other = behind refl closes (stops _ _ _ _ _ other_no)
