-- The run in which a full window holds back frames of their own, event by event, and machines that
-- keep such frames back.
use Rattle.std.proofs.Common.{◌≡◌, ◌⊎◌, ◌+◌, ◌≤◌, Bool, ℕ, [], ◌∷◌, replicate, true, false, Option, Some, None, Ok, refl, inl, inr, sym, ap, subst, lit≤, arith}
use Rattle.quic_wire_core.specs.declared.stream_id.Side.{Side}
use Rattle.quic_wire_core.specs.declared.stream_id.Side.TheVariants.{Client, Server}
use Rattle.quic_wire_core.specs.declared.stream_id.Dir.TheVariants.{Bi}
use Rattle.quic_machine.specs.declared.answers.State.TheVariants as states
use Rattle.quic_machine.specs.declared.answers.Received.TheVariants as receives
use Rattle.quic_machine.specs.declared.run.Call.TheVariants as calls
use Rattle.quic_machine.specs.declared.run.Answer.TheVariants as answers
use Rattle.quic_machine.specs.declared.run.View.{View}
use Rattle.quic_machine.specs.Machine.{IsStep, Follows, view_of}
use Rattle.quic_headline.specs.Runs.{Run, until, reset}
use Rattle.quic_headline.specs.Observer.{took}
use Rattle.quic_headline.specs.Headline.{IsHonest, IsRun}
use Rattle.quic_headline.specs.InUse.{in_use}
use Rattle.quic_headline.specs.Amounts.{stops_stream}
use Rattle.quic_headline.specs.Unread.{stopped}
use Rattle.quic_headline.specs.Credit.{resets_stream}
use Rattle.quic_headline.specs.Polls.{GaveNothing, bytes_flying, IsFull, IsHeldBack, IsLimited}
use Rattle.quic_headline.specs.Rest.{Rests}
use Rattle.quic_headline.specs.Going.{size_came, retires_number, IsMissing, ControlGoes, RetirementsGo}
use Rattle.quic_worked.specs.Worked.{worked_policies, both_steady, once_opened, opens_stream, asks_datagram, gives_bytes, open_view, view_with}
use Rattle.quic_worked.specs.Allowed as allowed
use Rattle.quic_worked.specs.Broken.{IsNoRun}
use Rattle.quic_worked.specs.Confirmed.{says_it, is_said}
use Rattle.quic_worked.specs.Held.{held_start, gives_nothing, held_view, full_view}
use Rattle.quic_worked.specs.Paired.{resets_with, asks_server, client_hears}
use Rattle.quic_worked.specs.Renamed.{once_renamed, uses_next}
use Rattle.quic_worked.specs.Reordered.{writes_bytes}
use Rattle.quic_worked.specs.Timed.{asks_at}
use Rattle.quic_worked.specs.Going.{going_events, going_answers, once_going, told_view, heard_view, going_run, idle_view, reset_kept, stop_kept, done_kept, retirement_kept, reset_waits, stop_waits, done_waits}
use Rattle.quic_worked.proofs.Codes.{AllSmall, small_codes}
use Rattle.quic_worked.proofs.OwnIds.{AreOwn, own_ids, honest, honest_steady}
use Rattle.quic_worked.proofs.BrokenRuns.{IsRefused, stops, behind}
use Rattle.quic_worked.proofs.HeldRun.{held_started}
use Rattle.quic_worked.proofs.RenamedRuns.{client_tells, server_tells, client_takes, client_uses}
use Rattle.quic_worked.proofs.Steps.{steps_at, steps_so, StepsSo}
use Rattle.quic_worked.proofs.Unmoved.{client_tells_stays}
use Rattle.quic_worked.proofs.Validated.{unless_limited}
use Rattle.quic_worked.proofs.WorkedKeys.{are_keys}
use Rattle.quic_worked.proofs.WorkedRun.{opens as opens_first}

-- ---- the premises

own : (side : Side) → AreOwn side [] going_run.events going_run.answers going_run.views
own Client = (tt, (inl refl, (tt, (tt, (tt, (tt, (inl refl, (inl refl, (tt, tt)))))))))
own Server = (tt, (tt, (tt, (tt, (tt, (tt, (tt, (tt, (tt, tt)))))))))

pub going_is_honest : IsHonest going_run
going_is_honest = record { start = held_started; keys = are_keys; ids = own_ids going_run own }

-- ---- the machine's run

opens : IsStep worked_policies held_start opens_stream (answers.Open (Some 0)) (once_going 1)
unfolding once_going
opens =
    let s : StepsSo worked_policies held_start opens_stream (answers.Open (Some 0)) (once_going 1) = steps_at worked_policies held_start going_events going_answers 0 opens_stream (answers.Open (Some 0)) _ _ refl refl refl in
    record { answer = refl; end = s.end; control = s.control; heard = s.heard; openings = tt; others = s.others; lacking = tt }

writes : IsStep worked_policies (once_going 1) (writes_bytes (replicate 4000 0x61)) (answers.Write (Ok 4000)) (once_going 2)
unfolding once_going
writes =
    let s : StepsSo worked_policies (once_going 1) (writes_bytes (replicate 4000 0x61)) (answers.Write (Ok 4000)) (once_going 2) = steps_at worked_policies held_start going_events going_answers 1 (writes_bytes (replicate 4000 0x61)) (answers.Write (Ok 4000)) _ _ refl refl refl in
    record { answer = inl refl; end = s.end; control = s.control; heard = s.heard; openings = tt; others = s.others; lacking = λ lacks. cc }

gives : IsStep worked_policies (once_going 2) (asks_at Client 0) (gives_bytes 1200) (once_going 3)
unfolding once_going
gives =
    let s : StepsSo worked_policies (once_going 2) (asks_at Client 0) (gives_bytes 1200) (once_going 3) = steps_at worked_policies held_start going_events going_answers 2 (asks_at Client 0) (gives_bytes 1200) _ _ refl refl refl in
    record { answer = inl refl; end = s.end; control = s.control; heard = s.heard; openings = tt; others = s.others; lacking = tt }

tells : IsStep worked_policies (once_going 3) asks_server (gives_bytes 222) (once_going 4)
unfolding once_going
tells =
    let s : StepsSo worked_policies (once_going 3) asks_server (gives_bytes 222) (once_going 4) = steps_at worked_policies held_start going_events going_answers 3 asks_server (gives_bytes 222) _ _ refl refl refl in
    record { answer = inl refl; end = s.end; control = s.control; heard = s.heard; openings = tt; others = s.others; lacking = tt }

takes : IsStep worked_policies (once_going 4) client_hears (answers.Deliver receives.Taken) (once_going 5)
unfolding once_going
takes =
    let s : StepsSo worked_policies (once_going 4) client_hears (answers.Deliver receives.Taken) (once_going 5) = steps_at worked_policies held_start going_events going_answers 4 client_hears (answers.Deliver receives.Taken) _ _ refl refl refl in
    record { answer = inl refl; end = s.end; control = s.control; heard = s.heard; openings = tt; others = s.others; lacking = tt }

uses : IsStep worked_policies (once_going 5) uses_next (answers.UseNextId (Ok tt)) (once_going 6)
unfolding once_going
uses =
    let s : StepsSo worked_policies (once_going 5) uses_next (answers.UseNextId (Ok tt)) (once_going 6) = steps_at worked_policies held_start going_events going_answers 5 uses_next (answers.UseNextId (Ok tt)) _ _ refl refl refl in
    record { answer = inl refl; end = s.end; control = s.control; heard = s.heard; openings = tt; others = s.others; lacking = λ lacks. cc }

stops_it : IsStep worked_policies (once_going 6) allowed.stops_stream (answers.Stop (Ok tt)) (once_going 7)
unfolding once_going
stops_it =
    let s : StepsSo worked_policies (once_going 6) allowed.stops_stream (answers.Stop (Ok tt)) (once_going 7) = steps_at worked_policies held_start going_events going_answers 6 allowed.stops_stream (answers.Stop (Ok tt)) _ _ refl refl refl in
    record { answer = inl refl; end = s.end; control = s.control; heard = s.heard; openings = tt; others = s.others; lacking = λ lacks. cc }

resets_it : IsStep worked_policies (once_going 7) (resets_with 7) (answers.Reset (Ok tt)) (once_going 8)
unfolding once_going
resets_it =
    let s : StepsSo worked_policies (once_going 7) (resets_with 7) (answers.Reset (Ok tt)) (once_going 8) = steps_at worked_policies held_start going_events going_answers 7 (resets_with 7) (answers.Reset (Ok tt)) _ _ refl refl refl in
    record { answer = inl refl; end = s.end; control = s.control; heard = s.heard; openings = tt; others = s.others; lacking = λ lacks. cc }

holds : IsStep worked_policies (once_going 8) (asks_at Client 0) gives_nothing (once_going 9)
unfolding once_going
holds =
    let s : StepsSo worked_policies (once_going 8) (asks_at Client 0) gives_nothing (once_going 9) = steps_at worked_policies held_start going_events going_answers 8 (asks_at Client 0) gives_nothing _ _ refl refl refl in
    record { answer = inl refl; end = s.end; control = s.control; heard = s.heard; openings = tt; others = s.others; lacking = tt }

seen_first : held_view (view_with None None) ≡ view_of (once_going 1)
unfolding once_going
seen_first = refl

seen_written : held_view (view_with None None) ≡ view_of (once_going 2)
unfolding once_going
seen_written = refl

seen_given : full_view ≡ view_of (once_going 3)
unfolding once_going
seen_given = refl

seen_told : told_view ≡ view_of (once_going 4)
unfolding once_going
seen_told = refl

seen_taken : heard_view ≡ view_of (once_going 5)
unfolding once_going
seen_taken = refl

seen_used : heard_view ≡ view_of (once_going 6)
unfolding once_going
seen_used = refl

seen_stopped : heard_view ≡ view_of (once_going 7)
unfolding once_going
seen_stopped = refl

seen_reset : heard_view ≡ view_of (once_going 8)
unfolding once_going
seen_reset = refl

seen_last : heard_view ≡ view_of (once_going 9)
unfolding once_going
seen_last = refl

follows : Follows going_run.keys going_run.start going_run.events going_run.answers going_run.views (once_going 9)
follows = (
  once_going 1,
  opens,
  seen_first,
  (
    once_going 2,
    writes,
    seen_written,
    (
      once_going 3,
      gives,
      seen_given,
      (once_going 4, tells, seen_told, (once_going 5, takes, seen_taken, (once_going 6, uses, seen_used, (once_going 7, stops_it, seen_stopped, (once_going 8, resets_it, seen_reset, (once_going 9, holds, seen_last, refl)))))),
    ),
  ),
)

gave_one : going_run.from_client ≡ (once_going 9).from_client
unfolding once_going
gave_one = refl

gave_ids : going_run.from_server ≡ (once_going 9).from_server
unfolding once_going
gave_ids = refl

codes_are : AllSmall going_run.events
codes_are = (tt, (tt, (tt, (tt, (tt, (tt, (omega arith, (omega arith, (tt, tt)))))))))

pub going_is_run : IsRun going_run (once_going 9)
going_is_run = record { codes = small_codes going_run.events codes_are; follows = follows; from_client = gave_one; from_server = gave_ids }

-- ---- what waits, and is held back

pub none_given : GaveNothing going_run Client 8 0 heard_view
none_given = record { poll = record { event = refl; answer = refl }; shown = refl; opened = refl }

pub was_reset : reset 0 (until going_run Client 9) ≡ Some 7
was_reset = refl

pub reset_missing : IsMissing going_run Client 9 (resets_stream 0)
unfolding once_going
reset_missing = record { not_flying = refl; not_come = refl }

pub was_stopped : stopped 0 (until going_run Client 9) ≡ true
was_stopped = refl

pub no_size : size_came 0 (took going_run Client 9) ≡ false
unfolding once_going
no_size = refl

pub stop_missing : IsMissing going_run Client 9 (stops_stream 0)
unfolding once_going
stop_missing = record { not_flying = refl; not_come = refl }

pub next_used : (stays : ℕ → Bool) → in_use going_run stays Client 9 ≡ 1
unfolding once_going
next_used stays = refl

pub retirement_missing : IsMissing going_run Client 9 (retires_number 0)
unfolding once_going
retirement_missing = record { not_flying = refl; not_come = refl }

so_many : bytes_flying going_run Client 9 ≡ 1200
unfolding once_going
so_many = refl

pub window_is_full : IsFull going_run Client 9 heard_view
window_is_full = let same : bytes_flying going_run Client 9 + 1200 ≡ 2400 = ap (λ (n : ℕ). n + 1200) so_many in subst (λ (n : ℕ). 2400 ≤ n) (sym same) (lit≤ tt)

-- ---- a client that keeps what its stream has to say

-- nothing is in flight, and no timer is set
abbrev IsFree : Run → ℕ → Type 0
IsFree r i = IsHeldBack r Client i idle_view ⊎ IsLimited r Client i idle_view → ⊥

reset_free : IsFree reset_kept 3
reset_free h = elim (unless_limited reset_kept Client 3 idle_view (IsHeldBack reset_kept Client 3 idle_view) refl h) [
  | inl full ↦ (let most : 12000 ≤ 1200 = full in omega (arith, most))
  | inr paced ↦ (let shown : ◌≡◌ {A = Option (Option ℕ)} (Some None) (Some (Some paced.moment)) = paced.shown in cc)
]

pub reset_shows : ControlGoes reset_kept → ⊥
reset_shows h = reset_free (h.reset Client 2 0 0 idle_view refl (record { poll = record { event = refl; answer = refl }; shown = refl; opened = refl }) refl (record { not_flying = refl; not_come = refl }))

pub reset_rests : Rests reset_kept Client 3
reset_rests = record {
  front = record { call = calls.Open Bi; answer = answers.Open (Some 0); state = states.Open } ∷ record { call = calls.Reset 0 7; answer = answers.Reset (Ok tt); state = states.Open } ∷ [];
  now = 0;
  last = refl;
  view = idle_view;
  shown = refl;
  is_open = refl;
  validated = refl;
  still = record { no_loss_timer = refl; no_ack_timer = refl; no_pacing_timer = refl };
}

pub reset_is_honest : IsHonest reset_kept
reset_is_honest = honest reset_kept (record { start = refl; keys = refl; client = (tt, (inl refl, (tt, tt))); server = (tt, (tt, (tt, tt))) })

resets : IsStep worked_policies once_opened (resets_with 7) (answers.Reset (Ok tt)) reset_waits
unfolding reset_waits
resets =
    let s : StepsSo worked_policies once_opened (resets_with 7) (answers.Reset (Ok tt)) reset_waits = steps_so worked_policies once_opened (resets_with 7) (answers.Reset (Ok tt)) refl in
    record { answer = inl refl; end = s.end; control = s.control; heard = s.heard; openings = tt; others = s.others; lacking = λ lacks. cc }

reset_no : IsRefused reset_waits asks_datagram gives_nothing
unfolding reset_waits
reset_no (inl e) = cc
reset_no (inr e) = cc

pub reset_is_none : IsNoRun reset_kept
reset_is_none = behind refl opens_first (behind refl resets (stops _ _ _ _ _ reset_no))

stop_free : IsFree stop_kept 3
stop_free h = elim (unless_limited stop_kept Client 3 idle_view (IsHeldBack stop_kept Client 3 idle_view) refl h) [
  | inl full ↦ (let most : 12000 ≤ 1200 = full in omega (arith, most))
  | inr paced ↦ (let shown : ◌≡◌ {A = Option (Option ℕ)} (Some None) (Some (Some paced.moment)) = paced.shown in cc)
]

pub stop_shows : ControlGoes stop_kept → ⊥
stop_shows h = stop_free (h.stop Client 2 0 0 idle_view refl (record { poll = record { event = refl; answer = refl }; shown = refl; opened = refl }) refl refl (record { not_flying = refl; not_come = refl }))

pub stop_rests : Rests stop_kept Client 3
stop_rests = record {
  front = record { call = calls.Open Bi; answer = answers.Open (Some 0); state = states.Open } ∷ record { call = calls.Stop 0 7; answer = answers.Stop (Ok tt); state = states.Open } ∷ [];
  now = 0;
  last = refl;
  view = idle_view;
  shown = refl;
  is_open = refl;
  validated = refl;
  still = record { no_loss_timer = refl; no_ack_timer = refl; no_pacing_timer = refl };
}

pub stop_is_honest : IsHonest stop_kept
stop_is_honest = honest stop_kept (record { start = refl; keys = refl; client = (tt, (inl refl, (tt, tt))); server = (tt, (tt, (tt, tt))) })

stops_first : IsStep worked_policies once_opened allowed.stops_stream (answers.Stop (Ok tt)) stop_waits
unfolding stop_waits
stops_first =
    let s : StepsSo worked_policies once_opened allowed.stops_stream (answers.Stop (Ok tt)) stop_waits = steps_so worked_policies once_opened allowed.stops_stream (answers.Stop (Ok tt)) refl in
    record { answer = inl refl; end = s.end; control = s.control; heard = s.heard; openings = tt; others = s.others; lacking = λ lacks. cc }

stop_no : IsRefused stop_waits asks_datagram gives_nothing
unfolding stop_waits
stop_no (inl e) = cc
stop_no (inr e) = cc

pub stop_is_none : IsNoRun stop_kept
stop_is_none = behind refl opens_first (behind refl stops_first (stops _ _ _ _ _ stop_no))

-- ---- a server that keeps HANDSHAKE_DONE

abbrev both_open : View
both_open = record { client = open_view; server = open_view }

done_free : IsHeldBack done_kept Server 2 both_open ⊎ IsLimited done_kept Server 2 both_open → ⊥
done_free h = elim (unless_limited done_kept Server 2 both_open (IsHeldBack done_kept Server 2 both_open) refl h) [
  | inl full ↦ (let most : 12000 ≤ 1200 = full in omega (arith, most))
  | inr paced ↦ (let shown : ◌≡◌ {A = Option (Option ℕ)} (Some None) (Some (Some paced.moment)) = paced.shown in cc)
]

pub done_shows : ControlGoes done_kept → ⊥
done_shows h = done_free (h.done Server 1 0 both_open refl (record { poll = record { event = refl; answer = refl }; shown = refl; opened = refl }) refl (record { not_flying = refl; not_come = refl }))

pub done_is_honest : IsHonest done_kept
done_is_honest = honest_steady done_kept (record { start = refl; keys = refl; client = (tt, (tt, tt)); server = (tt, (tt, tt)) })

says : IsStep worked_policies both_steady (says_it Server) is_said done_waits
unfolding done_waits
says =
    let s : StepsSo worked_policies both_steady (says_it Server) is_said done_waits = steps_so worked_policies both_steady (says_it Server) is_said refl in
    record { answer = refl; end = s.end; control = s.control; heard = s.heard; openings = tt; others = s.others; lacking = tt }

done_no : IsRefused done_waits asks_server gives_nothing
unfolding done_waits
done_no (inl e) = cc
done_no (inr e) = cc

pub done_is_none : IsNoRun done_kept
done_is_none = behind refl says (stops _ _ _ _ _ done_no)

-- ---- a client that keeps a retirement

abbrev used_view : View
used_view = record { client = view_with (Some 1024000000) (Some 25000000); server = view_with (Some 1024000000) None }

ids_fly : bytes_flying retirement_kept Client 5 ≡ 222
unfolding once_renamed
ids_fly = refl

retirement_free : IsHeldBack retirement_kept Client 5 used_view ⊎ IsLimited retirement_kept Client 5 used_view → ⊥
retirement_free h = elim (unless_limited retirement_kept Client 5 used_view (IsHeldBack retirement_kept Client 5 used_view) refl h) [
  | inl full ↦ (let most : 12000 ≤ bytes_flying retirement_kept Client 5 + 1200 = full in let so = ids_fly in omega (arith, most, so))
  | inr paced ↦ (let shown : ◌≡◌ {A = Option (Option ℕ)} (Some None) (Some (Some paced.moment)) = paced.shown in cc)
]

one_used : in_use retirement_kept (λ n. false) Client 5 ≡ 1
unfolding once_renamed
one_used = refl

none_says : IsMissing retirement_kept Client 5 (retires_number 0)
unfolding once_renamed
none_says = record { not_flying = refl; not_come = refl }

pub retirement_shows : RetirementsGo retirement_kept → ⊥
retirement_shows h =
    let one = one_used in
    retirement_free (h Client (λ n. false) 4 0 0 used_view (client_tells_stays retirement_kept (λ n. false)) refl (record { poll = record { event = refl; answer = refl }; shown = refl; opened = refl }) (omega (arith, one)) none_says)

pub retirement_is_honest : IsHonest retirement_kept
retirement_is_honest = honest_steady retirement_kept (record { start = refl; keys = refl; client = (tt, (tt, (tt, (tt, (tt, tt))))); server = (tt, (tt, (tt, (tt, (tt, tt))))) })

retirement_no : IsRefused (once_renamed 4) asks_datagram gives_nothing
unfolding once_renamed
retirement_no (inl e) = cc
retirement_no (inr e) = cc

pub retirement_is_none : IsNoRun retirement_kept
retirement_is_none = behind refl client_tells (behind refl server_tells (behind refl client_takes (behind refl client_uses (stops _ _ _ _ _ retirement_no))))
