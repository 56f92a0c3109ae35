-- The run in which timers expire, event by event, and what an observer reckons of it.
use Rattle.std.proofs.Common.{◌≡◌, ℕ, zero, suc, List, [], ◌∷◌, Option, Some, None, Ok, refl, inl, sym, ap, ◌∙◌, arith}
use Rattle.std.specs.Prelude.{slice_get}
use Rattle.quic_wire_core.specs.declared.stream_id.Side.{Side}
use Rattle.quic_wire_core.specs.declared.stream_id.Side.TheVariants.{Client, Server}
use Rattle.quic_machine.specs.declared.answers.Received.TheVariants as receives
use Rattle.quic_machine.specs.declared.run.Answer.TheVariants as answers
use Rattle.quic_machine.specs.declared.run.View.{View}
use Rattle.quic_machine.specs.Machine.{IsStep, Follows, view_of}
use Rattle.quic_machine.specs.RunLaws.{one_run}
use Rattle.quic_headline.specs.Headline.{IsRun}
use Rattle.quic_headline.specs.Moments.{loss_timer, LossMoments, ack_timer, debt, first_deadline, AckMoments}
use Rattle.quic_worked.specs.Worked.{worked_policies, once_opened, once_written, once_ended, once_sent, gives_bytes}
use Rattle.quic_worked.specs.Acknowledged.{client_acked}
use Rattle.quic_worked.specs.Timed.{serves, asks_at, comes_at, once_later, seen_with, timed_run, never_backs_off, never_resets, never_measures, waits_twice, due_at, NeverShows}
use Rattle.quic_worked.proofs.Steps.{counts_so, still_shut}
use Rattle.quic_worked.proofs.WorkedRun.{opens, writes, finishes, gives, sent_seen}
use Rattle.quic_worked.proofs.Codes.{no_codes}

-- ---- the machine's run

expires : IsStep worked_policies once_sent (serves Client 1024000000) (answers.Timeout (Ok tt)) (once_later 1)
unfolding once_later
expires = record { answer = inl refl; end = refl; control = refl; heard = counts_so worked_policies once_sent (serves Client 1024000000) (answers.Timeout (Ok tt)); openings = tt; others = refl; lacking = tt }

probes : IsStep worked_policies (once_later 1) (asks_at Client 1024000000) (gives_bytes 222) (once_later 2)
unfolding once_later
probes = record { answer = inl refl; end = refl; control = refl; heard = counts_so worked_policies (once_later 1) (asks_at Client 1024000000) (gives_bytes 222); openings = tt; others = refl; lacking = tt }

takes : IsStep worked_policies (once_later 2) (comes_at Server 1030000000) (answers.Deliver receives.Taken) (once_later 3)
unfolding once_later
takes = record { answer = inl refl; end = refl; control = refl; heard = counts_so worked_policies (once_later 2) (comes_at Server 1030000000) (answers.Deliver receives.Taken); openings = tt; others = refl; lacking = tt }

is_due : IsStep worked_policies (once_later 3) (serves Server 1055000000) (answers.Timeout (Ok tt)) (once_later 4)
unfolding once_later
is_due = record { answer = inl refl; end = refl; control = refl; heard = counts_so worked_policies (once_later 3) (serves Server 1055000000) (answers.Timeout (Ok tt)); openings = tt; others = refl; lacking = tt }

answers_it : IsStep worked_policies (once_later 4) (asks_at Server 1055000000) (gives_bytes 32) (once_later 5)
unfolding once_later
answers_it = record { answer = inl refl; end = refl; control = still_shut; heard = counts_so worked_policies (once_later 4) (asks_at Server 1055000000) (gives_bytes 32); openings = tt; others = refl; lacking = tt }

is_answered : IsStep worked_policies (once_later 5) (comes_at Client 1060000000) (answers.Deliver receives.Taken) (once_later 6)
unfolding once_later
is_answered = record { answer = inl refl; end = refl; control = refl; heard = counts_so worked_policies (once_later 5) (comes_at Client 1060000000) (answers.Deliver receives.Taken); openings = tt; others = refl; lacking = tt }

expired_seen : seen_with (Some 2048000000) None ≡ view_of (once_later 1)
unfolding once_later
expired_seen = refl

probed_seen : seen_with (Some 3072000000) None ≡ view_of (once_later 2)
unfolding once_later
probed_seen = refl

taken_seen : seen_with (Some 3072000000) (Some 1055000000) ≡ view_of (once_later 3)
unfolding once_later
taken_seen = refl

due_seen : seen_with (Some 3072000000) None ≡ view_of (once_later 4)
unfolding once_later
due_seen = refl

given_seen : seen_with (Some 3072000000) None ≡ view_of (once_later 5)
unfolding once_later
given_seen = refl

answered_seen : seen_with (Some 4229000000) None ≡ view_of (once_later 6)
unfolding once_later
answered_seen = refl

follows : Follows timed_run.keys timed_run.start timed_run.events timed_run.answers timed_run.views (once_later 6)
follows = (
  once_opened,
  opens,
  refl,
  (
    once_written,
    writes,
    refl,
    (
      once_ended,
      finishes,
      refl,
      (
        once_sent,
        gives,
        sent_seen,
        (
          once_later 1,
          expires,
          expired_seen,
          (
            once_later 2,
            probes,
            probed_seen,
            (
              once_later 3,
              takes,
              taken_seen,
              (once_later 4, is_due, due_seen, (once_later 5, answers_it, given_seen, (once_later 6, is_answered, answered_seen, refl))),
            ),
          ),
        ),
      ),
    ),
  ),
)

gave_both : timed_run.from_client ≡ (once_later 6).from_client
unfolding once_later
gave_both = refl

gave_one : timed_run.from_server ≡ (once_later 6).from_server
unfolding once_later
gave_one = refl

pub timed_is_run : IsRun timed_run (once_later 6)
timed_is_run = record { codes = no_codes timed_run.events refl; follows = follows; from_client = gave_both; from_server = gave_one }

-- ---- what is reckoned

pub due_before : due_at timed_run Client 3 ≡ None
due_before = refl

pub due_sent : due_at timed_run Client 4 ≡ Some 1024000000
unfolding client_acked
due_sent = refl

pub due_expired : due_at timed_run Client 5 ≡ Some 2048000000
unfolding client_acked
due_expired = refl

pub due_probed : due_at timed_run Client 6 ≡ Some 3072000000
unfolding client_acked
due_probed = refl

due_taken : due_at timed_run Client 7 ≡ Some 3072000000
unfolding client_acked
due_taken = refl

due_served : due_at timed_run Client 8 ≡ Some 3072000000
unfolding client_acked
due_served = refl

due_given : due_at timed_run Client 9 ≡ Some 3072000000
unfolding client_acked
due_given = refl

pub due_answered : due_at timed_run Client 10 ≡ Some 4229000000
unfolding client_acked
due_answered = refl

pub server_due : due_at timed_run Server 10 ≡ None
unfolding client_acked
server_due = refl

server_due_taken : due_at timed_run Server 7 ≡ None
unfolding client_acked
server_due_taken = refl

server_due_served : due_at timed_run Server 8 ≡ None
unfolding client_acked
server_due_served = refl

server_due_given : due_at timed_run Server 9 ≡ None
unfolding client_acked
server_due_given = refl

-- a view that is at a place shows what is reckoned there
pub shows : (side : Side) (u v : View) (moment due : Option ℕ) → Some u ≡ Some v → loss_timer u side ≡ Some moment → due ≡ moment → loss_timer v side ≡ Some due
shows side u v moment due is shown reckoned = let same : u ≡ v = cc in ap (λ (x : View). loss_timer x side) (sym same) ∙ shown ∙ ap (λ (o : Option ℕ). Some o) (sym reckoned)

pub timed_moments : LossMoments timed_run
timed_moments Client zero v served is opened = shows Client _ v _ _ is refl refl
timed_moments Client (suc zero) v served is opened = shows Client _ v _ _ is refl refl
timed_moments Client (suc (suc zero)) v served is opened = shows Client _ v _ _ is refl due_before
timed_moments Client (suc (suc (suc zero))) v served is opened = shows Client _ v _ _ is refl due_sent
timed_moments Client (suc (suc (suc (suc zero)))) v served is opened = shows Client _ v _ _ is refl due_expired
timed_moments Client (suc (suc (suc (suc (suc zero))))) v served is opened = shows Client _ v _ _ is refl due_probed
timed_moments Client (suc (suc (suc (suc (suc (suc zero)))))) v served is opened = shows Client _ v _ _ is refl due_taken
timed_moments Client (suc (suc (suc (suc (suc (suc (suc zero))))))) v served is opened = shows Client _ v _ _ is refl due_served
timed_moments Client (suc (suc (suc (suc (suc (suc (suc (suc zero)))))))) v served is opened = shows Client _ v _ _ is refl due_given
timed_moments Client (suc (suc (suc (suc (suc (suc (suc (suc (suc zero))))))))) v served is opened = shows Client _ v _ _ is refl due_answered
timed_moments Client (suc (suc (suc (suc (suc (suc (suc (suc (suc (suc i)))))))))) v served is opened = cc
timed_moments Server zero v served is opened = shows Server _ v _ _ is refl refl
timed_moments Server (suc zero) v served is opened = shows Server _ v _ _ is refl refl
timed_moments Server (suc (suc zero)) v served is opened = shows Server _ v _ _ is refl refl
timed_moments Server (suc (suc (suc zero))) v served is opened = shows Server _ v _ _ is refl refl
timed_moments Server (suc (suc (suc (suc zero)))) v served is opened = shows Server _ v _ _ is refl refl
timed_moments Server (suc (suc (suc (suc (suc zero))))) v served is opened = shows Server _ v _ _ is refl refl
timed_moments Server (suc (suc (suc (suc (suc (suc zero)))))) v served is opened = shows Server _ v _ _ is refl server_due_taken
timed_moments Server (suc (suc (suc (suc (suc (suc (suc zero))))))) v served is opened = shows Server _ v _ _ is refl server_due_served
timed_moments Server (suc (suc (suc (suc (suc (suc (suc (suc zero)))))))) v served is opened = shows Server _ v _ _ is refl server_due_given
timed_moments Server (suc (suc (suc (suc (suc (suc (suc (suc (suc zero))))))))) v served is opened = shows Server _ v _ _ is refl server_due
timed_moments Server (suc (suc (suc (suc (suc (suc (suc (suc (suc (suc i)))))))))) v served is opened = cc

-- ---- machines with a bug

-- the moment that is shown
abbrev pub moment_in : Option (Option ℕ) → ℕ
moment_in (Some (Some moment)) = moment
moment_in other = 0

-- that of the client's loss timer, in a view that is there
abbrev pub moment_of : Option View → ℕ
moment_of None = 0
moment_of (Some v) = moment_in (loss_timer v Client)

backed_off : due_at never_backs_off Client 5 ≡ Some 2048000000
unfolding client_acked
backed_off = refl

pub backs_off_not : LossMoments never_backs_off → ⊥
backs_off_not h = let same : ◌≡◌ {A = ℕ} 1024000000 2048000000 = ap moment_in (h Client 4 (seen_with (Some 1024000000) None) refl refl refl ∙ ap (λ (o : Option ℕ). Some o) backed_off) in absurd (omega arith)

reset : due_at never_resets Client 10 ≡ Some 4229000000
unfolding client_acked
reset = refl

pub resets_not : LossMoments never_resets → ⊥
resets_not h = let same : ◌≡◌ {A = ℕ} 7434000000 4229000000 = ap moment_in (h Client 9 (seen_with (Some 7434000000) None) refl refl refl ∙ ap (λ (o : Option ℕ). Some o) reset) in absurd (omega arith)

measures : due_at never_measures Client 10 ≡ Some 4229000000
unfolding client_acked
measures = refl

pub measures_not : LossMoments never_measures → ⊥
measures_not h = let same : ◌≡◌ {A = ℕ} 2048000000 4229000000 = ap moment_in (h Client 9 (seen_with (Some 2048000000) None) refl refl refl ∙ ap (λ (o : Option ℕ). Some o) measures) in absurd (omega arith)

pub never_shows_same : NeverShows never_backs_off
never_shows_same end f =
    let same = one_run timed_run.keys timed_run.answers timed_run.start timed_run.events never_backs_off.views timed_run.views end (once_later 6) refl f follows in
    let moments : ◌≡◌ {A = ℕ} 1024000000 2048000000 = ap (λ (vs : List View). moment_of (slice_get vs 4)) same.0 in
    absurd (omega arith)

pub never_shows_long : NeverShows never_resets
never_shows_long end f =
    let same = one_run timed_run.keys timed_run.answers timed_run.start timed_run.events never_resets.views timed_run.views end (once_later 6) refl f follows in
    let moments : ◌≡◌ {A = ℕ} 7434000000 4229000000 = ap (λ (vs : List View). moment_of (slice_get vs 9)) same.0 in
    absurd (omega arith)

pub never_shows_early : NeverShows never_measures
never_shows_early end f =
    let same = one_run timed_run.keys timed_run.answers timed_run.start timed_run.events never_measures.views timed_run.views end (once_later 6) refl f follows in
    let moments : ◌≡◌ {A = ℕ} 2048000000 4229000000 = ap (λ (vs : List View). moment_of (slice_get vs 9)) same.0 in
    absurd (omega arith)

-- ---- what came and asks

pub owes_nothing : (debt timed_run Server 6).deadlines ≡ []
unfolding client_acked
owes_nothing = refl

pub owes_one : (debt timed_run Server 7).deadlines ≡ 1055000000 ∷ []
unfolding client_acked
owes_one = refl

pub owes_still : (debt timed_run Server 8).deadlines ≡ 1055000000 ∷ []
unfolding client_acked
owes_still = refl

pub owes_no_more : (debt timed_run Server 9).deadlines ≡ []
unfolding client_acked
owes_no_more = refl

pub owes_never : (debt timed_run Client 10).deadlines ≡ []
unfolding client_acked
owes_never = refl

-- a view in which the timer isn't set
unset : (side : Side) (u v : View) (moment : ℕ) → Some u ≡ Some v → ack_timer u side ≡ Some None → ack_timer v side ≡ Some (Some moment) → ⊥
unset side u v moment is none set =
    let same : u ≡ v = cc in
    let clash : ◌≡◌ {A = Option (Option ℕ)} (Some None) (Some (Some moment)) = sym none ∙ ap (λ (x : View). ack_timer x side) same ∙ set in
    cc

-- the view in which it is
due_there : (v : View) (moment : ℕ) → Some (seen_with (Some 3072000000) (Some 1055000000)) ≡ Some v → ack_timer v Server ≡ Some (Some moment) → first_deadline (debt timed_run Server 7).deadlines ≡ Some moment
due_there v moment is set =
    let same : seen_with (Some 3072000000) (Some 1055000000) ≡ v = cc in
    let shown : ◌≡◌ {A = Option (Option ℕ)} (Some (Some 1055000000)) (Some (Some moment)) = ap (λ (x : View). ack_timer x Server) same ∙ set in
    ap first_deadline owes_one ∙ ap (λ (k : ℕ). Some k) (ap moment_in shown)

pub timed_acks : AckMoments timed_run
timed_acks Client zero moment v served is opened set = absurd (unset Client _ v moment is refl set)
timed_acks Client (suc zero) moment v served is opened set = absurd (unset Client _ v moment is refl set)
timed_acks Client (suc (suc zero)) moment v served is opened set = absurd (unset Client _ v moment is refl set)
timed_acks Client (suc (suc (suc zero))) moment v served is opened set = absurd (unset Client _ v moment is refl set)
timed_acks Client (suc (suc (suc (suc zero)))) moment v served is opened set = absurd (unset Client _ v moment is refl set)
timed_acks Client (suc (suc (suc (suc (suc zero))))) moment v served is opened set = absurd (unset Client _ v moment is refl set)
timed_acks Client (suc (suc (suc (suc (suc (suc zero)))))) moment v served is opened set = absurd (unset Client _ v moment is refl set)
timed_acks Client (suc (suc (suc (suc (suc (suc (suc zero))))))) moment v served is opened set = absurd (unset Client _ v moment is refl set)
timed_acks Client (suc (suc (suc (suc (suc (suc (suc (suc zero)))))))) moment v served is opened set = absurd (unset Client _ v moment is refl set)
timed_acks Client (suc (suc (suc (suc (suc (suc (suc (suc (suc zero))))))))) moment v served is opened set = absurd (unset Client _ v moment is refl set)
timed_acks Client (suc (suc (suc (suc (suc (suc (suc (suc (suc (suc i)))))))))) moment v served is opened set = cc
timed_acks Server zero moment v served is opened set = absurd (unset Server _ v moment is refl set)
timed_acks Server (suc zero) moment v served is opened set = absurd (unset Server _ v moment is refl set)
timed_acks Server (suc (suc zero)) moment v served is opened set = absurd (unset Server _ v moment is refl set)
timed_acks Server (suc (suc (suc zero))) moment v served is opened set = absurd (unset Server _ v moment is refl set)
timed_acks Server (suc (suc (suc (suc zero)))) moment v served is opened set = absurd (unset Server _ v moment is refl set)
timed_acks Server (suc (suc (suc (suc (suc zero))))) moment v served is opened set = absurd (unset Server _ v moment is refl set)
timed_acks Server (suc (suc (suc (suc (suc (suc zero)))))) moment v served is opened set = due_there v moment is set
timed_acks Server (suc (suc (suc (suc (suc (suc (suc zero))))))) moment v served is opened set = absurd (unset Server _ v moment is refl set)
timed_acks Server (suc (suc (suc (suc (suc (suc (suc (suc zero)))))))) moment v served is opened set = absurd (unset Server _ v moment is refl set)
timed_acks Server (suc (suc (suc (suc (suc (suc (suc (suc (suc zero))))))))) moment v served is opened set = absurd (unset Server _ v moment is refl set)
timed_acks Server (suc (suc (suc (suc (suc (suc (suc (suc (suc (suc i)))))))))) moment v served is opened set = cc

-- ---- a server that waits twice

owes_as_well : (debt waits_twice Server 7).deadlines ≡ 1055000000 ∷ []
unfolding client_acked
owes_as_well = refl

not_due : first_deadline (1055000000 ∷ []) ≡ Some 1080000000 → ⊥
not_due first = let same : ◌≡◌ {A = ℕ} 1055000000 1080000000 = ap (λ (o : Option ℕ). moment_in (Some o)) first in omega (arith, same)

pub waits_not_twice : AckMoments waits_twice → ⊥
waits_not_twice h = not_due (ap first_deadline (sym owes_as_well) ∙ h Server 6 1080000000 (seen_with (Some 3072000000) (Some 1080000000)) refl refl refl refl)

-- the moment of the server's timer of acknowledgements, in a view that is there
abbrev pub ack_moment_of : Option View → ℕ
ack_moment_of None = 0
ack_moment_of (Some v) = moment_in (ack_timer v Server)

pub never_waits_twice : NeverShows waits_twice
never_waits_twice end f =
    let same = one_run timed_run.keys timed_run.answers timed_run.start timed_run.events waits_twice.views timed_run.views end (once_later 6) refl f follows in
    let moments : ◌≡◌ {A = ℕ} 1080000000 1055000000 = ap (λ (vs : List View). ack_moment_of (slice_get vs 6)) same.0 in
    absurd (omega arith)
