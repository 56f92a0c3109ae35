-- A server to which the new address of its peer is validated by an answer from the old one.
use Rattle.std.proofs.Common.{◌≡◌, ℕ, Bool, false, List, [], ◌∷◌, ◌++◌, take, Option, Some, None, refl, inl, inr, sym, ap, ◌∙◌}
use Rattle.std.specs.Prelude.{slice_get}
use Rattle.std.proofs.lemmas.Bool.{both_ways}
use Rattle.quic_wire_core.specs.declared.stream_id.Side.{Side}
use Rattle.quic_wire_core.specs.declared.stream_id.Side.TheVariants.{Client, Server}
use Rattle.quic_machine.specs.declared.answers.Received.TheVariants as receives
use Rattle.quic_machine.specs.declared.run.Call.{Call}
use Rattle.quic_machine.specs.declared.run.Call.TheVariants as calls
use Rattle.quic_machine.specs.declared.run.Answer.TheVariants as answers
use Rattle.quic_machine.specs.declared.run.Delivery.{Delivery}
use Rattle.quic_machine.specs.declared.run.RunEvent.{RunEvent}
use Rattle.quic_machine.specs.declared.run.View.{View}
use Rattle.quic_machine.specs.Machine.{World, IsStep, Follows, view_of}
use Rattle.quic_machine.specs.RunLaws.{one_run}
use Rattle.quic_headline.specs.Observer.{peer_address, path_changes}
use Rattle.quic_headline.specs.Headline.{IsHonest, IsRun}
use Rattle.quic_headline.specs.Validated.{CameFromPeer, ValidatedByAnswer}
use Rattle.quic_worked.specs.Worked.{worked_policies}
use Rattle.quic_worked.specs.Acknowledged.{client_acked}
use Rattle.quic_worked.specs.Unvalidated.{far_start}
use Rattle.quic_worked.specs.Migrated.{comes_from}
use Rattle.quic_worked.specs.Moved.{early_answers, once_early, early_run}
use Rattle.quic_worked.specs.Elsewhere.{elsewhere_events, once_elsewhere, elsewhere_run}
use Rattle.quic_worked.proofs.OwnIds.{AreOwn, own_ids}
use Rattle.quic_worked.proofs.WorkedKeys.{are_keys}
use Rattle.quic_worked.proofs.UnvalidatedRun.{far_started}
use Rattle.quic_worked.proofs.Steps.{StepsSo, steps_at}
use Rattle.quic_worked.proofs.EarlyRun.{early_0, early_seen_0, early_1, early_seen_1, early_2, early_seen_2, early_3, early_seen_3, early_4, early_seen_4, early_5, early_seen_5, early_6, early_seen_6, early_7, early_seen_7, early_8, early_seen_8, early_9, early_seen_9}

-- ---- the clause

there : peer_address elsewhere_run Server 10 ≡ 9
unfolding client_acked
there = refl

stays : path_changes elsewhere_run Server 10 ≡ false
unfolding client_acked
stays = refl

-- the datagram came from address 0
from_old : CameFromPeer elsewhere_run Server 10 → ⊥
from_old c = (let clash : ◌≡◌ {A = ℕ} 0 9 = sym (remote_is c.delivery c.at.event) ∙ c.from ∙ there in cc)
  where
    remote_in : Call → ℕ
    remote_in (calls.Deliver d) = d.remote
    remote_in call = 0

    event_in : Option RunEvent → ℕ
    event_in None = 0
    event_in (Some event) = remote_in event.call

    remote_is : (d : Delivery) → ◌≡◌ {A = Option RunEvent} (Some (comes_from 0 1)) (Some (record { side = Server; call = calls.Deliver d })) → d.remote ≡ 0
    remote_is d is = ap event_in (sym is)

pub elsewhere_wrong : ValidatedByAnswer elsewhere_run → ⊥
elsewhere_wrong h = elim (h Server 10 refl refl refl refl).from [
  | inl here ↦ from_old here
  | inr changes ↦ both_ways (path_changes elsewhere_run Server 10) stays changes
]

elsewhere_own : (side : Side) → AreOwn side [] elsewhere_run.events elsewhere_run.answers elsewhere_run.views
elsewhere_own Client = (tt, (inl refl, (tt, (tt, (tt, (tt, (tt, (tt, (tt, (tt, (tt, tt)))))))))))
elsewhere_own Server = (tt, (tt, (tt, (tt, (tt, (tt, (tt, (tt, (tt, (tt, (tt, tt)))))))))))

pub elsewhere_is_honest : IsHonest elsewhere_run
elsewhere_is_honest = record { start = far_started; keys = are_keys; ids = own_ids elsewhere_run elsewhere_own }

-- ---- the machine

step : IsStep worked_policies (once_early 10) (comes_from 0 1) (answers.Deliver receives.Taken) (once_elsewhere 11)
unfolding client_acked
step =
    let s : StepsSo worked_policies (once_early 10) (comes_from 0 1) (answers.Deliver receives.Taken) (once_elsewhere 11) = steps_at worked_policies far_start elsewhere_events early_answers 10 (comes_from 0 1) (answers.Deliver receives.Taken) _ _ refl refl refl in
    record { answer = inl refl; end = s.end; control = s.control; heard = s.heard; openings = tt; others = s.others; lacking = tt }

-- its views
abbrev own_views : List View
own_views = take 10 early_run.views ++ view_of (once_elsewhere 11) ∷ []

follows : Follows worked_policies far_start elsewhere_events early_answers own_views (once_elsewhere 11)
follows = (once_early 1, early_0, early_seen_0, (once_early 2, early_1, early_seen_1, (once_early 3, early_2, early_seen_2, (once_early 4, early_3, early_seen_3, (once_early 5, early_4, early_seen_4, (once_early 6, early_5, early_seen_5, (once_early 7, early_6, early_seen_6, (once_early 8, early_7, early_seen_7, (once_early 9, early_8, early_seen_8, (once_early 10, early_9, early_seen_9, (once_elsewhere 11, step, refl, refl)))))))))))

-- the server's address in the last of them
abbrev validated_in : Option View → Bool
validated_in None = false
validated_in (Some v) = v.server.validated

unvalidated : (view_of (once_elsewhere 11)).server.validated ≡ false
unfolding client_acked
unvalidated = refl

pub never_elsewhere : (end : World) → IsRun elsewhere_run end → ⊥
never_elsewhere end is =
    let same = one_run worked_policies early_answers far_start elsewhere_events elsewhere_run.views own_views end (once_elsewhere 11) refl is.follows follows in
    both_ways (view_of (once_elsewhere 11)).server.validated unvalidated (sym (ap (λ (vs : List View). validated_in (slice_get vs 10)) same.0))
