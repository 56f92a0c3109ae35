-- The client that is told of a round trip that was measured before the connection begins.
use Rattle.std.proofs.Common.{◌≡◌, ℕ, zero, suc, true, List, Option, Some, None, refl, inl, sym, ap, ◌∙◌, subst, lit<, lit≤, arith}
use Rattle.std.specs.Prelude.{slice_get}
use Rattle.quic_wire_core.specs.declared.stream_id.Side.TheVariants.{Client, Server}
use Rattle.quic_config.specs.Transport.{IsInRange}
use Rattle.quic_machine.specs.declared.run.View.{View}
use Rattle.quic_machine.specs.End.{IsMade}
use Rattle.quic_machine.specs.Start.{AreStarted}
use Rattle.quic_machine.specs.Machine.{IsStep, Follows, view_of}
use Rattle.quic_machine.specs.RunLaws.{one_run}
use Rattle.quic_headline.specs.Headline.{IsHonest, IsRun}
use Rattle.quic_headline.specs.Moments.{LossMoments}
use Rattle.quic_worked.specs.Worked.{worked_policies, steady, shut, client_id, server_id, gives_bytes}
use Rattle.quic_worked.specs.Acknowledged.{client_acked}
use Rattle.quic_worked.specs.Timed.{asks_at, seen_with, due_at, NeverShows, sampled_settings, sampled_start, once_sampled, sampled_until, sampled_run, unsampled_run}
use Rattle.quic_worked.proofs.Codes.{no_codes}
use Rattle.quic_worked.proofs.OwnIds.{honest_from}
use Rattle.quic_worked.proofs.Steps.{StepsSo, steps_so}
use Rattle.quic_worked.proofs.TimedRun.{shows, moment_in, moment_of}
use Rattle.quic_worked.proofs.WorkedHonest.{in_range, making}
use Rattle.quic_worked.proofs.WorkedRun.{parameters_say, server_is_made}

-- ---- the premises

sampled_range : IsInRange sampled_settings
sampled_range = record { receive_window = lit< tt; stream_receive_window = lit< tt; bounds = record { bidi = lit≤ tt; uni = lit≤ tt; divides = lit< tt; initial = lit≤ tt; least = lit≤ tt }; search = tt }

-- the client's parameters say nothing of what was measured
pub sampled_started : AreStarted sampled_start
sampled_started = record {
  client_making = record (making client_id) { settings = sampled_settings };
  server_making = record (making server_id) { windows = shut };
  client_is = record { range = sampled_range; sizes = lit≤ tt; says = parameters_say; id = refl };
  server_is = record { range = in_range; sizes = lit≤ tt; says = parameters_say; id = refl };
  client = subst (λ read. IsMade Client sampled_settings steady read client_id server_id 0 0 true (λ n. 63) sampled_start.client) (sym parameters_say) refl;
  server = server_is_made;
  client_gave = refl;
  server_gave = refl;
  client_heard = refl;
  server_heard = refl;
}

honest_until : (due : ℕ) → IsHonest (sampled_until due)
honest_until due = honest_from sampled_start sampled_started (sampled_until due) (record { start = refl; keys = refl; client = (tt, tt); server = (tt, tt) })

pub sampled_is_honest : IsHonest sampled_run
sampled_is_honest = honest_until 205000000

pub unsampled_is_honest : IsHonest unsampled_run
unsampled_is_honest = honest_until 1024000000

-- ---- the machine's run

gives_ids : IsStep worked_policies sampled_start (asks_at Client 0) (gives_bytes 222) once_sampled
unfolding once_sampled
gives_ids =
    let s : StepsSo worked_policies sampled_start (asks_at Client 0) (gives_bytes 222) once_sampled = steps_so worked_policies sampled_start (asks_at Client 0) (gives_bytes 222) refl in
    record { answer = inl refl; end = s.end; control = s.control; heard = s.heard; openings = tt; others = s.others; lacking = tt }

sampled_seen : seen_with (Some 205000000) None ≡ view_of once_sampled
unfolding once_sampled
sampled_seen = refl

follows : Follows worked_policies sampled_start sampled_run.events sampled_run.answers sampled_run.views once_sampled
follows = (once_sampled, gives_ids, sampled_seen, refl)

gave_ids : sampled_run.from_client ≡ once_sampled.from_client
unfolding once_sampled
gave_ids = refl

gave_none : sampled_run.from_server ≡ once_sampled.from_server
unfolding once_sampled
gave_none = refl

pub sampled_is_run : IsRun sampled_run once_sampled
sampled_is_run = record { codes = no_codes sampled_run.events refl; follows = follows; from_client = gave_ids; from_server = gave_none }

-- ---- what is reckoned

pub sampled_due : due_at sampled_run Client 1 ≡ Some 205000000
unfolding client_acked
sampled_due = refl

pub sampled_moments : LossMoments sampled_run
sampled_moments Client zero v served is opened = shows Client _ v _ _ is refl sampled_due
sampled_moments Server zero v served is opened = shows Server _ v _ _ is refl refl
sampled_moments Client (suc i) v served is opened = cc
sampled_moments Server (suc i) v served is opened = cc

unsampled_due : due_at unsampled_run Client 1 ≡ Some 205000000
unfolding client_acked
unsampled_due = refl

pub unsampled_not : LossMoments unsampled_run → ⊥
unsampled_not h = let same : ◌≡◌ {A = ℕ} 1024000000 205000000 = ap moment_in (h Client 0 (seen_with (Some 1024000000) None) refl refl refl ∙ ap (λ (o : Option ℕ). Some o) unsampled_due) in absurd (omega arith)

pub never_unsampled : NeverShows unsampled_run
never_unsampled end f =
    let same = one_run worked_policies unsampled_run.answers sampled_start unsampled_run.events unsampled_run.views sampled_run.views end once_sampled refl f follows in
    let moments : ◌≡◌ {A = ℕ} 1024000000 205000000 = ap (λ (vs : List View). moment_of (slice_get vs 0)) same.0 in
    absurd (omega arith)
