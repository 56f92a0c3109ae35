-- The run in which the pacer holds a datagram back, event by event.
use Rattle.std.proofs.Common.{◌≡◌, ◌⊎◌, ℕ, List, [], ◌∷◌, ◌++◌, replicate, take, Option, Some, None, Ok, false, refl, inl, inr, sym, ap, ◌∙◌, lit<, arith}
use Rattle.std.specs.Prelude.{slice_get}
use Rattle.quic_wire_core.specs.declared.stream_id.Side.TheVariants.{Client}
use Rattle.quic_wire_core.specs.declared.shared.EcnCodepoint.TheVariants.{Ect0}
use Rattle.quic_wire.specs.Value.{ping, padding, stream}
use Rattle.quic_machine.specs.declared.run.Call.TheVariants as calls
use Rattle.quic_machine.specs.declared.run.Answer.TheVariants as answers
use Rattle.quic_machine.specs.declared.run.View.{View}
use Rattle.quic_machine.specs.Machine.{World, IsStep, Follows, view_of}
use Rattle.quic_machine.specs.RunLaws.{one_run}
use Rattle.quic_headline.specs.Runs.{Run}
use Rattle.quic_headline.specs.Observer.{Sent, watch, sents_until}
use Rattle.quic_headline.specs.Headline.{IsRun}
use Rattle.quic_headline.specs.Polls.{GaveNothing, GaveAsking, IsByteToGo, IsPaced, PacingBehind, pacer_names, pacing_at, IsSizeProbe}
use Rattle.quic_worked.specs.Worked.{worked_policies, hello, opens_stream, writes_hello, gives_bytes, open_view, view_with, once_written, once_sent, once_taken, server_id, sent_view, behind_ids, server_open}
use Rattle.quic_worked.specs.Timed.{asks_at, serves, seen_with, NeverShows}
use Rattle.quic_worked.specs.Held.{gives_nothing, once_held, held_run}
use Rattle.quic_worked.specs.Paced.{full_again, paced_start, once_paced, paced_view, paced_run, needlessly_paced, unheld_run, paced_until, hurried_run, unfilled_run, first_expiry, scarce_start, once_scarce, uncharged_run, scarce_events, scarce_answers}
use Rattle.quic_headline.specs.Spread.{pacer_at, named_at, PacerIsOfHistory, SearchesApart}
use Rattle.quic_headline.proofs.Spread.Clause.{pacer_is_of_history}
use Rattle.quic_worked.specs.Broken.{IsNoRun}
use Rattle.quic_worked.proofs.BrokenRuns.{IsRefused, stops, behind}
use Rattle.quic_worked.proofs.Codes.{no_codes}
use Rattle.quic_worked.proofs.HeldRun.{held_is_honest, held_is_run}
use Rattle.quic_worked.proofs.Steps.{counts_so, steps_at, StepsSo}

-- ---- the events

opens : IsStep worked_policies paced_start opens_stream (answers.Open (Some 0)) (once_paced 1)
unfolding once_paced
opens = record { answer = refl; end = refl; control = refl; heard = counts_so worked_policies paced_start opens_stream (answers.Open (Some 0)); openings = tt; others = refl; lacking = tt }

writes : IsStep worked_policies (once_paced 1) writes_hello (answers.Write (Ok 5)) (once_paced 2)
unfolding once_paced
writes = record { answer = inl refl; end = refl; control = refl; heard = counts_so worked_policies (once_paced 1) writes_hello (answers.Write (Ok 5)); openings = tt; others = refl; lacking = λ lacks. cc }

holds : IsStep worked_policies (once_paced 2) (asks_at Client 0) gives_nothing (once_paced 3)
unfolding once_paced
holds = record { answer = inl refl; end = refl; control = refl; heard = counts_so worked_policies (once_paced 2) (asks_at Client 0) gives_nothing; openings = tt; others = refl; lacking = tt }

gives : IsStep worked_policies (once_paced 3) (asks_at Client full_again) (gives_bytes 230) (once_paced 4)
unfolding once_paced
gives = record { answer = inl refl; end = refl; control = refl; heard = counts_so worked_policies (once_paced 3) (asks_at Client full_again) (gives_bytes 230); openings = tt; others = refl; lacking = tt }

opened_seen : record { client = open_view; server = server_open } ≡ view_of (once_paced 1)
unfolding once_paced
opened_seen = refl

written_seen : record { client = open_view; server = server_open } ≡ view_of (once_paced 2)
unfolding once_paced
written_seen = refl

held_seen : paced_view ≡ view_of (once_paced 3)
unfolding once_paced
held_seen = refl

given_seen : record { client = view_with (Some 1290400000) None; server = server_open } ≡ view_of (once_paced 4)
unfolding once_paced
given_seen = refl

gave_one : paced_run.from_client ≡ (once_paced 4).from_client
unfolding once_paced
gave_one = refl

gave_none : paced_run.from_server ≡ (once_paced 4).from_server
unfolding once_paced
gave_none = refl

pub paced_is_run : IsRun paced_run (once_paced 4)
paced_is_run = record {
  codes = no_codes paced_run.events refl;
  follows = (once_paced 1, opens, opened_seen, (once_paced 2, writes, written_seen, (once_paced 3, holds, held_seen, (once_paced 4, gives, given_seen, refl))));
  from_client = gave_one;
  from_server = gave_none;
}

-- ---- the pacer

pub names_later : pacer_names Client (once_paced 2) 0 ≡ Some full_again
unfolding once_paced
names_later = refl

pub sets_timer : pacing_at Client (once_paced 3) ≡ Some full_again
unfolding once_paced
sets_timer = refl

pub names_none : pacer_names Client (once_paced 3) full_again ≡ None
unfolding once_paced
names_none = refl

pub stops_timer : pacing_at Client (once_paced 4) ≡ None
unfolding once_paced
stops_timer = refl

-- ---- what the lists say

pub gave_nothing : GaveNothing paced_run Client 2 0 paced_view
gave_nothing = record { poll = record { event = refl; answer = refl }; shown = refl; opened = refl }

pub byte_waits : IsByteToGo paced_run Client 3 0 0
byte_waits = record { written = lit< tt; kept = refl; not_flying = λ h. h.among; not_acked = λ h. h.among }

pub is_paced : IsPaced paced_run Client 3 paced_view
is_paced = record { moment = full_again; shown = refl; later = lit< tt }

-- the datagram as it was sent
abbrev word_sent : Sent
word_sent = record {
  id = server_id;
  number = 0;
  reference = 0;
  frames = behind_ids (stream (record { id = 0; offset = 0; fin = false; bytes = hello }) ∷ []);
  moment = full_again;
  size = 230;
  generation = 0;
}

word_went : sents_until paced_run Client 4 ≡ sents_until paced_run Client 3 ++ word_sent ∷ []
unfolding once_taken
word_went = refl

pub goes_then : GaveAsking paced_run Client 3 full_again
goes_then = record {
  one = record {
    transmit = record { size = 230; ecn = Some Ect0; remote = 0 };
    poll = record { event = refl; answer = refl };
    served = refl;
    sent = word_sent;
    went = word_went;
  };
  asks = refl;
}

-- ---- what goes wrong

pub gives_no : (next : World) → IsStep worked_policies (once_paced 2) (asks_at Client 0) (gives_bytes 230) next → ⊥
unfolding once_paced
gives_no next step = elim (step.answer) [ inl e ↦ cc | inr e ↦ cc ]

-- the pacer has tokens
pub names_nothing : pacer_names Client once_written 0 ≡ None
unfolding once_sent
names_nothing = refl

set_needlessly : pacing_at Client needlessly_paced ≡ Some full_again
set_needlessly = refl

pub needless_behind : PacingBehind Client (calls.Poll 0) once_written needlessly_paced → ⊥
needless_behind (inl e) = (let never : Some full_again ≡ None = sym set_needlessly ∙ e in cc)
needless_behind (inr e) = (let never : Some full_again ≡ None = sym set_needlessly ∙ e ∙ names_nothing in cc)

pub gives_nothing_no : (next : World) → IsStep worked_policies once_written (asks_at Client 0) gives_nothing next → ⊥
unfolding once_sent
gives_nothing_no next step = elim (step.answer) [ inl e ↦ cc | inr e ↦ cc ]

-- ---- the pacer by the lists

pub held_tokens : (pacer_at paced_run Client 3).tokens ≡ 0
unfolding once_taken
held_tokens = refl

pub lists_name : named_at paced_run Client 2 0 ≡ Some full_again
unfolding once_taken
lists_name = refl

pub lists_name_none : named_at paced_run Client 3 full_again ≡ None
unfolding once_taken
lists_name_none = refl

pub left_tokens : (pacer_at paced_run Client 4).tokens ≡ 11770
unfolding once_taken
left_tokens = refl

pub paid_tokens : (pacer_at held_run Client 3).tokens ≡ 10800
unfolding once_held
paid_tokens = refl

pub probe_tokens : (pacer_at held_run Client 8).tokens ≡ 8400
unfolding once_held
probe_tokens = refl

pub held_paces : PacerIsOfHistory held_run
held_paces = pacer_is_of_history held_run (once_held 8) held_is_honest held_is_run (refl, refl)

-- ---- a pacer that is never asked

pub unheld_names : named_at unheld_run Client 2 0 ≡ Some full_again
unfolding once_taken
unheld_names = refl

-- the datagram as it was sent at once
abbrev soon_sent : Sent
soon_sent = record word_sent { moment = 0 }

soon_went : sents_until unheld_run Client 3 ≡ sents_until unheld_run Client 2 ++ soon_sent ∷ []
unfolding once_taken
soon_went = refl

abbrev soon_gave : GaveAsking unheld_run Client 2 0
soon_gave = record { one = record { transmit = record { size = 230; ecn = Some Ect0; remote = 0 }; poll = record { event = refl; answer = refl }; served = refl; sent = soon_sent; went = soon_went }; asks = refl }

soon_probes : (watch unheld_run Client 2).flight.probes ≡ 0
soon_probes = refl

-- what goes though a later moment is named, goes as no probe of a size
not_let : (r : Run) (i now moment : ℕ) (gave : GaveAsking r Client i now) → named_at r Client i now ≡ Some moment → ((zeros : ℕ) → gave.one.sent.frames ≡ ping ∷ replicate zeros padding → ⊥) → (named_at r Client i now ≡ None) ⊎ IsSizeProbe r Client i gave.one.sent → ⊥
not_let r i now moment gave names other (inl none) = (let clash : ◌≡◌ {A = Option ℕ} None (Some moment) = sym none ∙ names in cc)
not_let r i now moment gave names other (inr probe) = other probe.zeros probe.alone

-- its client looks for no greater size of datagrams
unheld_apart : SearchesApart unheld_run Client
unheld_apart = tt

pub unheld_paces : PacerIsOfHistory unheld_run → ⊥
unheld_paces h = not_let unheld_run 2 0 full_again soon_gave unheld_names (λ zeros is. cc) ((h Client 2 (calls.Poll 0) (gives_bytes 230) (record { client = sent_view; server = server_open }) refl (record { event = refl; answer = refl }) refl refl unheld_apart).lets soon_gave soon_probes)

unheld_refused : IsRefused (once_paced 2) (asks_at Client 0) (gives_bytes 230)
unfolding once_paced
unheld_refused (inl e) = cc
unheld_refused (inr e) = cc

pub unheld_is_none : IsNoRun unheld_run
unheld_is_none = behind refl opens (behind refl writes (stops _ _ _ _ _ unheld_refused))

-- ---- tokens that come too fast, or never

-- a timer that is set to no moment that is named
set_apart : (named : Option ℕ) (moment : ℕ) → (named ≡ Some moment → ⊥) → (◌≡◌ {A = Option (Option ℕ)} (Some (Some moment)) (Some None)) ⊎ (◌≡◌ {A = Option (Option ℕ)} (Some (Some moment)) (Some named)) → ⊥
set_apart named moment other (inl none) = cc
set_apart named moment other (inr is) = other (let same : ◌≡◌ {A = Option ℕ} (Some moment) named = cc in sym same)

hurried_names : named_at hurried_run Client 2 0 ≡ Some full_again
unfolding once_taken
hurried_names = refl

hurried_apart : SearchesApart hurried_run Client
hurried_apart = tt

-- the moments differ
sooner : Some full_again ≡ Some 133200000 → ⊥
sooner is = (let same : ◌≡◌ {A = ℕ} 266400000 133200000 = cc in absurd (omega (arith, same)))

pub hurried_paces : PacerIsOfHistory hurried_run → ⊥
hurried_paces h = set_apart (named_at hurried_run Client 2 0) 133200000 (λ is. sooner (sym hurried_names ∙ is)) (h Client 2 (calls.Poll 0) gives_nothing (paced_until 133200000) refl (record { event = refl; answer = refl }) refl refl hurried_apart).sets

three_follow : Follows worked_policies paced_start hurried_run.events hurried_run.answers (take 3 paced_run.views) (once_paced 3)
three_follow = (once_paced 1, opens, opened_seen, (once_paced 2, writes, written_seen, (once_paced 3, holds, held_seen, refl)))

-- to which moment the timer of the client's pacer is seen set
abbrev set_to : Option View → Option (Option ℕ)
set_to None = None
set_to (Some v) = slice_get v.client.timers 6

pub hurried_never : NeverShows hurried_run
hurried_never end f =
    let same = one_run worked_policies hurried_run.answers paced_start hurried_run.events hurried_run.views (take 3 paced_run.views) end (once_paced 3) refl f three_follow in
    let moments : ◌≡◌ {A = Option (Option ℕ)} (Some (Some 133200000)) (Some (Some full_again)) = ap (λ (vs : List View). set_to (slice_get vs 2)) same.0 in
    sooner (let is : ◌≡◌ {A = Option ℕ} (Some 133200000) (Some full_again) = cc in sym is)

pub unfilled_names : named_at unfilled_run Client 3 full_again ≡ None
unfolding once_taken
unfilled_names = refl

unfilled_apart : SearchesApart unfilled_run Client
unfilled_apart = tt

pub unfilled_paces : PacerIsOfHistory unfilled_run → ⊥
unfilled_paces h = set_apart (named_at unfilled_run Client 3 full_again) 532800000 (λ is. (let clash : ◌≡◌ {A = Option ℕ} None (Some 532800000) = sym unfilled_names ∙ is in cc)) (h Client 3 (calls.Poll full_again) gives_nothing (paced_until 532800000) refl (record { event = refl; answer = refl }) refl refl unfilled_apart).sets

unfilled_refused : IsRefused (once_paced 3) (asks_at Client full_again) gives_nothing
unfolding once_paced
unfilled_refused (inl e) = cc
unfilled_refused (inr e) = cc

pub unfilled_is_none : IsNoRun unfilled_run
unfilled_is_none = behind refl opens (behind refl writes (behind refl holds (stops _ _ _ _ _ unfilled_refused)))

-- ---- probes that take no tokens

pub two_probes : (watch uncharged_run Client 4).flight.probes ≡ 2
unfolding once_scarce
two_probes = refl

pub tokens_before : (pacer_at uncharged_run Client 4).tokens ≡ 1200
unfolding once_scarce
tokens_before = refl

pub tokens_behind : (pacer_at uncharged_run Client 7).tokens ≡ 756
unfolding once_scarce
tokens_behind = refl

-- when its pacer is full: 11244 tokens more
abbrev later : ℕ
later = 1273616800

again_named : named_at uncharged_run Client 7 first_expiry ≡ Some later
unfolding once_scarce
again_named = refl

-- the word as it was sent again
abbrev again_sent : Sent
again_sent = record { id = server_id; number = 3; reference = 0; frames = stream (record { id = 0; offset = 5; fin = false; bytes = hello }) ∷ []; moment = first_expiry; size = 35; generation = 0 }

again_went : sents_until uncharged_run Client 8 ≡ sents_until uncharged_run Client 7 ++ again_sent ∷ []
unfolding once_scarce
again_went = refl

abbrev again_gave : GaveAsking uncharged_run Client 7 first_expiry
again_gave = record { one = record { transmit = record { size = 35; ecn = Some Ect0; remote = 0 }; poll = record { event = refl; answer = refl }; served = refl; sent = again_sent; went = again_went }; asks = refl }

again_probes : (watch uncharged_run Client 7).flight.probes ≡ 0
unfolding once_scarce
again_probes = refl

-- nor does its client
uncharged_apart : SearchesApart uncharged_run Client
uncharged_apart = tt

pub uncharged_paces : PacerIsOfHistory uncharged_run → ⊥
uncharged_paces h = not_let uncharged_run 7 first_expiry later again_gave again_named (λ zeros is. cc) ((h Client 7 (calls.Poll first_expiry) (gives_bytes 35) (seen_with (Some 3072000000) None) refl (record { event = refl; answer = refl }) refl refl uncharged_apart).lets again_gave again_probes)

scarce_opens : IsStep worked_policies scarce_start opens_stream (answers.Open (Some 0)) (once_scarce 1)
unfolding once_scarce
scarce_opens =
    let s : StepsSo worked_policies scarce_start opens_stream (answers.Open (Some 0)) (once_scarce 1) = steps_at worked_policies scarce_start scarce_events scarce_answers 0 opens_stream (answers.Open (Some 0)) _ _ refl refl refl in
    record { answer = refl; end = s.end; control = s.control; heard = s.heard; openings = tt; others = s.others; lacking = tt }

scarce_writes : IsStep worked_policies (once_scarce 1) writes_hello (answers.Write (Ok 5)) (once_scarce 2)
unfolding once_scarce
scarce_writes =
    let s : StepsSo worked_policies (once_scarce 1) writes_hello (answers.Write (Ok 5)) (once_scarce 2) = steps_at worked_policies scarce_start scarce_events scarce_answers 1 writes_hello (answers.Write (Ok 5)) _ _ refl refl refl in
    record { answer = inl refl; end = s.end; control = s.control; heard = s.heard; openings = tt; others = s.others; lacking = λ lacks. cc }

scarce_gives : IsStep worked_policies (once_scarce 2) (asks_at Client 0) (gives_bytes 230) (once_scarce 3)
unfolding once_scarce
scarce_gives =
    let s : StepsSo worked_policies (once_scarce 2) (asks_at Client 0) (gives_bytes 230) (once_scarce 3) = steps_at worked_policies scarce_start scarce_events scarce_answers 2 (asks_at Client 0) (gives_bytes 230) _ _ refl refl refl in
    record { answer = inl refl; end = s.end; control = s.control; heard = s.heard; openings = tt; others = s.others; lacking = tt }

scarce_expires : IsStep worked_policies (once_scarce 3) (serves Client first_expiry) (answers.Timeout (Ok tt)) (once_scarce 4)
unfolding once_scarce
scarce_expires =
    let s : StepsSo worked_policies (once_scarce 3) (serves Client first_expiry) (answers.Timeout (Ok tt)) (once_scarce 4) = steps_at worked_policies scarce_start scarce_events scarce_answers 3 (serves Client first_expiry) (answers.Timeout (Ok tt)) _ _ refl refl refl in
    record { answer = inl refl; end = s.end; control = s.control; heard = s.heard; openings = tt; others = s.others; lacking = tt }

scarce_probes : IsStep worked_policies (once_scarce 4) (asks_at Client first_expiry) (gives_bytes 222) (once_scarce 5)
unfolding once_scarce
scarce_probes =
    let s : StepsSo worked_policies (once_scarce 4) (asks_at Client first_expiry) (gives_bytes 222) (once_scarce 5) = steps_at worked_policies scarce_start scarce_events scarce_answers 4 (asks_at Client first_expiry) (gives_bytes 222) _ _ refl refl refl in
    record { answer = inl refl; end = s.end; control = s.control; heard = s.heard; openings = tt; others = s.others; lacking = tt }

scarce_probes_again : IsStep worked_policies (once_scarce 5) (asks_at Client first_expiry) (gives_bytes 222) (once_scarce 6)
unfolding once_scarce
scarce_probes_again =
    let s : StepsSo worked_policies (once_scarce 5) (asks_at Client first_expiry) (gives_bytes 222) (once_scarce 6) = steps_at worked_policies scarce_start scarce_events scarce_answers 5 (asks_at Client first_expiry) (gives_bytes 222) _ _ refl refl refl in
    record { answer = inl refl; end = s.end; control = s.control; heard = s.heard; openings = tt; others = s.others; lacking = tt }

scarce_writes_again : IsStep worked_policies (once_scarce 6) writes_hello (answers.Write (Ok 5)) (once_scarce 7)
unfolding once_scarce
scarce_writes_again =
    let s : StepsSo worked_policies (once_scarce 6) writes_hello (answers.Write (Ok 5)) (once_scarce 7) = steps_at worked_policies scarce_start scarce_events scarce_answers 6 writes_hello (answers.Write (Ok 5)) _ _ refl refl refl in
    record { answer = inl refl; end = s.end; control = s.control; heard = s.heard; openings = tt; others = s.others; lacking = λ lacks. cc }

uncharged_refused : IsRefused (once_scarce 7) (asks_at Client first_expiry) (gives_bytes 35)
unfolding once_scarce
uncharged_refused (inl e) = cc
uncharged_refused (inr e) = cc

pub uncharged_is_none : IsNoRun uncharged_run
uncharged_is_none = behind refl scarce_opens (behind refl scarce_writes (behind refl scarce_gives (behind refl scarce_expires (behind refl scarce_probes (behind refl scarce_probes_again (behind refl scarce_writes_again (stops _ _ _ _ _ uncharged_refused)))))))
