-- The run in which the peer answers what a server asked it, event by event, and machines that take
-- another answer, or none, for the right one, or the right one for none.
use Rattle.std.proofs.Common.{◌≡◌, ◌<◌, ◌⊎◌, ℕ, zero, suc, List, [], ◌∷◌, replicate, Option, Some, None, Ok, Bool, true, false, refl, inl, inr, sym, ap, ◌∙◌, subst, arith}
use Rattle.std.specs.Prelude.{◌^◌}
use Rattle.quic_wire_core.specs.declared.stream_id.Side.{Side}
use Rattle.quic_wire_core.specs.declared.stream_id.Side.TheVariants.{Client, Server}
use Rattle.quic_wire.specs.Value.{stream, path_response, padding}
use Rattle.quic_machine.specs.declared.answers.Received.TheVariants as receives
use Rattle.quic_machine.specs.declared.run.Answer.{Answer}
use Rattle.quic_machine.specs.declared.run.Answer.TheVariants as answers
use Rattle.quic_machine.specs.declared.run.EndView.{EndView}
use Rattle.quic_machine.specs.Machine.{IsStep, policy_at, end_at, view_of}
use Rattle.quic_headline.specs.Runs.{Run, Packet, In}
use Rattle.quic_headline.specs.Observer.{watch, news, peer_address, path_changes}
use Rattle.quic_headline.specs.Polls.{seen_at}
use Rattle.quic_headline.specs.Headline.{IsHonest, IsRun}
use Rattle.quic_machine.specs.Validation.{word_of}
use Rattle.quic_headline.specs.Validated.{asking, IsLatest, AnswerCame, IsOwnWord, MayAskOther, WasAnswered, ValidatedByAnswer, AreWords, CameFromPeer, AnswersValidate}
use Rattle.quic_worked.specs.Worked.{worked_policies, asks_datagram, gives_bytes, gives_unmarked, view_with, waiting_view, id_word, behind_ids}
use Rattle.quic_worked.specs.Acknowledged.{client_acked}
use Rattle.quic_worked.specs.Broken.{IsNoRun}
use Rattle.quic_worked.specs.Paired.{asks_server, client_hears}
use Rattle.quic_worked.specs.Reordered.{delivers_at}
use Rattle.quic_worked.specs.Unvalidated.{far_start, far_view, once_far, answering_events, answering_answers, once_answered, asks_state, tells_state, state_told, response_packet, answered_with, answered_run, ignored_run, unanswered_run, other_word, old_answer_run, late_answer_run, early_packet, early_answer_run}
use Rattle.quic_worked.proofs.Codes.{no_codes}
use Rattle.quic_worked.proofs.OwnIds.{AreOwn, own_ids}
use Rattle.quic_worked.proofs.BrokenRuns.{IsRefused, behind, stops}
use Rattle.quic_worked.proofs.WorkedKeys.{are_keys}
use Rattle.quic_worked.proofs.UnvalidatedRun.{far_started, opens, writes, gives, takes, asks_back, opened_seen, written_seen, given_seen, taken_seen, asked_seen}
use Rattle.quic_worked.proofs.Steps.{StepsSo, counts_so, steps_at}

-- ---- the machine's run

pub hears : IsStep worked_policies (once_far 5) client_hears (answers.Deliver receives.Taken) (once_answered 1)
unfolding once_answered
hears = record { answer = inl refl; end = refl; control = refl; heard = counts_so worked_policies (once_far 5) client_hears (answers.Deliver receives.Taken); openings = tt; others = refl; lacking = tt }

pub responds : IsStep worked_policies (once_answered 1) asks_datagram (gives_unmarked 1200) (once_answered 2)
unfolding once_answered
responds =
    let s : StepsSo worked_policies (once_answered 1) asks_datagram (gives_unmarked 1200) (once_answered 2) = steps_at worked_policies (once_far 5) answering_events answering_answers 1 asks_datagram (gives_unmarked 1200) _ _ refl refl refl in
    record { answer = inl refl; end = s.end; control = s.control; heard = s.heard; openings = tt; others = s.others; lacking = tt }

takes_answer : IsStep worked_policies (once_answered 2) (delivers_at 1) (answers.Deliver receives.Taken) (once_answered 3)
unfolding once_answered
takes_answer = record { answer = inl refl; end = refl; control = refl; heard = counts_so worked_policies (once_answered 2) (delivers_at 1) (answers.Deliver receives.Taken); openings = tt; others = refl; lacking = tt }

tells : IsStep worked_policies (once_answered 3) asks_state (tells_state true) state_told
unfolding once_answered
tells = record { answer = refl; end = refl; control = refl; heard = counts_so worked_policies (once_answered 3) asks_state (tells_state true); openings = tt; others = refl; lacking = tt }

heard_seen : record { client = waiting_view; server = far_view (Some 1024000000) None } ≡ view_of (once_answered 1)
unfolding once_answered
heard_seen = refl

responded_seen : record { client = view_with (Some 26000000) None; server = far_view (Some 1024000000) None } ≡ view_of (once_answered 2)
unfolding once_answered
responded_seen = refl

validated_seen : record { client = view_with (Some 26000000) None; server = waiting_view } ≡ view_of (once_answered 3)
unfolding once_answered
validated_seen = refl

told_seen : record { client = view_with (Some 26000000) None; server = waiting_view } ≡ view_of state_told
unfolding once_answered
told_seen = refl

gave_response : answered_run.from_client ≡ state_told.from_client
unfolding once_answered
gave_response = refl

gave_challenge : answered_run.from_server ≡ state_told.from_server
unfolding once_answered
gave_challenge = refl

pub answered_is_run : IsRun answered_run state_told
answered_is_run = record {
  codes = no_codes answered_run.events refl;
  follows = (
    once_far 1,
    opens,
    opened_seen,
    (
      once_far 2,
      writes,
      written_seen,
      (
        once_far 3,
        gives,
        given_seen,
        (
          once_far 4,
          takes,
          taken_seen,
          (once_far 5, asks_back, asked_seen, (once_answered 1, hears, heard_seen, (once_answered 2, responds, responded_seen, (once_answered 3, takes_answer, validated_seen, (state_told, tells, told_seen, refl))))),
        ),
      ),
    ),
  );
  from_client = gave_response;
  from_server = gave_challenge;
}

answered_own : (validated : Bool) (seen : EndView) (side : Side) → AreOwn side [] (answered_with validated seen).events (answered_with validated seen).answers (answered_with validated seen).views
answered_own validated seen Client = (tt, (inl refl, (tt, (tt, (tt, (tt, (tt, (tt, (tt, tt)))))))))
answered_own validated seen Server = (tt, (tt, (tt, (tt, (tt, (tt, (tt, (tt, (tt, tt)))))))))

pub with_is_honest : (validated : Bool) (seen : EndView) → IsHonest (answered_with validated seen)
with_is_honest validated seen = record { start = far_started; keys = are_keys; ids = own_ids (answered_with validated seen) (answered_own validated seen) }

-- ---- what was asked, and answered

came_alone : (validated : Bool) (seen : EndView) → news (watch (answered_with validated seen) Server 7).intake (watch (answered_with validated seen) Server 8).intake ≡ response_packet ∷ []
unfolding client_acked
came_alone validated seen = refl

asked_last : (validated : Bool) (seen : EndView) → (asking (answered_with validated seen) Server 7).latest ≡ Some id_word
unfolding client_acked
asked_last validated seen = refl

pub not_renewed : (validated : Bool) (seen : EndView) → (asking (answered_with validated seen) Server 7).renewed ≡ false
unfolding client_acked
not_renewed validated seen = refl

pub answer_came : (validated : Bool) (seen : EndView) → AnswerCame (answered_with validated seen) Server 7 id_word
answer_came validated seen = record { packet = response_packet; came = subst (λ (ps : List Packet). In response_packet ps) (sym (came_alone validated seen)) (inl refl); answers = inl refl }

pub is_latest : (validated : Bool) (seen : EndView) → IsLatest (asking (answered_with validated seen) Server 7).latest id_word
is_latest validated seen = subst (λ (o : Option (List ℕ)). IsLatest o id_word) (sym (asked_last validated seen)) refl

-- it came from where the server takes its peer to be
peer_there : (validated : Bool) (seen : EndView) → peer_address (answered_with validated seen) Server 7 ≡ 0
unfolding client_acked
peer_there validated seen = refl

came_from_peer : (validated : Bool) (seen : EndView) → CameFromPeer (answered_with validated seen) Server 7
came_from_peer validated seen = record { delivery = record { now = 0; remote = 0; ecn = None; index = 1 }; answer = answers.Deliver receives.Taken; at = record { event = refl; answer = refl }; from = sym (peer_there validated seen) }

pub was_answered : WasAnswered answered_run Server 7
was_answered = record { token = id_word; came = answer_came true waiting_view; right = inl (is_latest true waiting_view); from = inl (came_from_peer true waiting_view) }

pub not_before : (seen_at answered_run Server 7).validated ≡ false
not_before = refl

pub is_behind : (seen_at answered_run Server 8).validated ≡ true
is_behind = refl

pub are_words : (validated : Bool) (seen : EndView) → AreWords (answered_with validated seen)
are_words validated seen = record { drawn = drawn; asked = asked }
  where
    few : 63 < 2 ^ 64
    few = omega arith

    drawn : (side : Side) (n : ℕ) → (policy_at side worked_policies).words n < 2 ^ 64
    drawn Client n = few
    drawn Server n = few

    asked : (side : Side) (word : ℕ) → (end_at side (answered_with validated seen).start).validation.challenge ≡ Some word → word < 2 ^ 64
    asked Client word e = cc
    asked Server word e = let is : 63 ≡ word = cc in subst (λ (n : ℕ). n < 2 ^ 64) is few

-- ---- the right answer does nothing

pub ignored_wrong : AnswersValidate ignored_run → ⊥
ignored_wrong h =
    let seen = far_view None (Some 25000000) in
    let clash : false ≡ true = h (are_words false seen) Server 7 id_word refl refl (came_from_peer false seen) (not_renewed false seen) (answer_came false seen) (is_latest false seen) in
    cc

ignored_no : IsRefused (once_answered 3) asks_state (tells_state false)
unfolding once_answered
ignored_no e = cc

pub ignored_is_none : IsNoRun ignored_run
ignored_is_none = behind refl opens (behind refl writes (behind refl gives (behind refl takes (behind refl asks_back (behind refl hears (behind refl responds (behind refl takes_answer (stops _ _ _ _ _ ignored_no))))))))

-- ---- no answer came

-- the packet that came
abbrev written_packet : Packet
written_packet = record { number = 0; frames = behind_ids (stream (record { id = 0; offset = 0; fin = false; bytes = replicate 976 0x61 }) ∷ []) }

data_came : news (watch unanswered_run Server 3).intake (watch unanswered_run Server 4).intake ≡ written_packet ∷ []
unfolding client_acked
data_came = refl

no_answer : (token : List ℕ) → In (path_response token) written_packet.frames → ⊥
no_answer token (inl e) = cc
no_answer token (inr (inl e)) = cc
no_answer token (inr (inr (inl e))) = cc
no_answer token (inr (inr (inr (inl e)))) = cc
no_answer token (inr (inr (inr (inr (inl e))))) = cc
no_answer token (inr (inr (inr (inr (inr (inl e)))))) = cc
no_answer token (inr (inr (inr (inr (inr (inr (inl e))))))) = cc
no_answer token (inr (inr (inr (inr (inr (inr (inr (inl e)))))))) = cc
no_answer token (inr (inr (inr (inr (inr (inr (inr (inr none)))))))) = none

pub unanswered_wrong : ValidatedByAnswer unanswered_run → ⊥
unanswered_wrong h = go (h Server 3 refl refl refl refl)
  where
    among : (token : List ℕ) (p : Packet) → In p (written_packet ∷ []) → In (path_response token) p.frames → ⊥
    among token p (inl is) i = no_answer token (subst (λ (q : Packet). In (path_response token) q.frames) is i)
    among token p (inr none) i = none

    go : WasAnswered unanswered_run Server 3 → ⊥
    go w = among w.token w.came.packet (subst (λ (ps : List Packet). In w.came.packet ps) data_came w.came.came) w.came.answers

unanswered_own : (side : Side) → AreOwn side [] unanswered_run.events unanswered_run.answers unanswered_run.views
unanswered_own Client = (tt, (inl refl, (tt, (tt, (tt, tt)))))
unanswered_own Server = (tt, (tt, (tt, (tt, (tt, tt)))))

pub unanswered_is_honest : IsHonest unanswered_run
unanswered_is_honest = record { start = far_started; keys = are_keys; ids = own_ids unanswered_run unanswered_own }

unanswered_no : IsRefused (once_far 4) asks_state (tells_state true)
unfolding once_far
unanswered_no e = cc

pub unanswered_is_none : IsNoRun unanswered_run
unanswered_is_none = behind refl opens (behind refl writes (behind refl gives (behind refl takes (stops _ _ _ _ _ unanswered_no))))

-- ---- the answer to what was asked before

old_came : news (watch old_answer_run Server 8).intake (watch old_answer_run Server 9).intake ≡ response_packet ∷ []
unfolding client_acked
old_came = refl

asked_anew : (asking old_answer_run Server 8).latest ≡ Some other_word
unfolding client_acked
asked_anew = refl

none_since : (asking old_answer_run Server 8).renewed ≡ false
unfolding client_acked
none_since = refl

-- PADDING answers nothing
not_padding : (token : List ℕ) (n : ℕ) → In (path_response token) (replicate n padding) → ⊥
not_padding token zero i = i
not_padding token (suc n) (inl e) = cc
not_padding token (suc n) (inr i) = not_padding token n i

-- the only answer in that packet is the word that was asked for first
answers_first : (token : List ℕ) → In (path_response token) response_packet.frames → token ≡ id_word
answers_first token (inl e) = cc
answers_first token (inr (inl e)) = cc
answers_first token (inr (inr i)) = absurd (not_padding token 1160 i)

-- that isn't the other one
not_latest : IsLatest (Some other_word) id_word → ⊥
not_latest e = let clash : ◌≡◌ {A = ℕ} 63 0 = e in omega (arith, clash)

-- so it answers nothing of what was asked last
pub wrong_answer : (r : Run) (i : ℕ) → news (watch r Server i).intake (watch r Server (suc i)).intake ≡ response_packet ∷ [] → (asking r Server i).latest ≡ Some other_word → (asking r Server i).renewed ≡ false → path_changes r Server i ≡ false → WasAnswered r Server i → ⊥
wrong_answer r i came asked none same w = go w.right
  where
    among : (token : List ℕ) (p : Packet) → In p (response_packet ∷ []) → In (path_response token) p.frames → token ≡ id_word
    among token p (inl is) i = answers_first token (subst (λ (q : Packet). In (path_response token) q.frames) is i)
    among token p (inr none) i = absurd none

    first : w.token ≡ id_word
    first = among w.token w.came.packet (subst (λ (ps : List Packet). In w.came.packet ps) came w.came.came) w.came.answers

    go : IsLatest (asking r Server i).latest w.token ⊎ (MayAskOther r Server i × IsOwnWord r Server (word_of w.token)) → ⊥
    go (inl latest) = not_latest (subst (λ (t : List ℕ). IsLatest (Some other_word) t) first (subst (λ (o : Option (List ℕ)). IsLatest o w.token) asked latest))
    go (inr (inl renewed, own)) = let clash : false ≡ true = sym none ∙ renewed in cc
    go (inr (inr changes, own)) = let clash : false ≡ true = sym same ∙ changes in cc

old_stays : path_changes old_answer_run Server 8 ≡ false
unfolding client_acked
old_stays = refl

pub old_wrong : ValidatedByAnswer old_answer_run → ⊥
old_wrong h = wrong_answer old_answer_run 8 old_came asked_anew none_since old_stays (h Server 8 refl refl refl refl)

old_own : (side : Side) → AreOwn side [] old_answer_run.events old_answer_run.answers old_answer_run.views
old_own Client = (tt, (inl refl, (tt, (tt, (tt, (tt, (tt, (tt, (tt, tt)))))))))
old_own Server = (tt, (tt, (tt, (tt, (tt, (tt, (tt, (tt, (tt, tt)))))))))

pub old_is_honest : IsHonest old_answer_run
old_is_honest = record { start = far_started; keys = are_keys; ids = own_ids old_answer_run old_own }

-- nothing more is asked for before the timer expires
pub none_asked_anew : IsRefused (once_far 5) asks_server (gives_bytes 1200)
unfolding once_far
none_asked_anew (inl e) = cc
none_asked_anew (inr e) = cc

pub old_is_none : IsNoRun old_answer_run
old_is_none = behind refl opens (behind refl writes (behind refl gives (behind refl takes (behind refl asks_back (stops _ _ _ _ _ none_asked_anew)))))

-- ---- and that where a moment came

late_came : news (watch late_answer_run Server 9).intake (watch late_answer_run Server 10).intake ≡ response_packet ∷ []
unfolding client_acked
late_came = refl

late_asked : (asking late_answer_run Server 9).latest ≡ Some other_word
unfolding client_acked
late_asked = refl

none_late : (asking late_answer_run Server 9).renewed ≡ false
unfolding client_acked
none_late = refl

late_stays : path_changes late_answer_run Server 9 ≡ false
unfolding client_acked
late_stays = refl

pub late_wrong : ValidatedByAnswer late_answer_run → ⊥
late_wrong h = wrong_answer late_answer_run 9 late_came late_asked none_late late_stays (h Server 9 refl refl refl refl)

late_own : (side : Side) → AreOwn side [] late_answer_run.events late_answer_run.answers late_answer_run.views
late_own Client = (tt, (inl refl, (tt, (tt, (tt, (tt, (tt, (tt, (tt, (tt, tt))))))))))
late_own Server = (tt, (tt, (tt, (tt, (tt, (tt, (tt, (tt, (tt, (tt, tt))))))))))

pub late_is_honest : IsHonest late_answer_run
late_is_honest = record { start = far_started; keys = are_keys; ids = own_ids late_answer_run late_own }

pub late_is_none : IsNoRun late_answer_run
late_is_none = behind refl opens (behind refl writes (behind refl gives (behind refl takes (behind refl asks_back (stops _ _ _ _ _ none_asked_anew)))))

-- ---- data that nobody was asked for

early_came : news (watch early_answer_run Server 1).intake (watch early_answer_run Server 2).intake ≡ early_packet ∷ []
unfolding client_acked
early_came = refl

none_asked : (asking early_answer_run Server 1).latest ≡ None
unfolding client_acked
none_asked = refl

-- the only answer in that packet is the other word
answers_other : (token : List ℕ) → In (path_response token) early_packet.frames → token ≡ other_word
answers_other token (inl e) = cc
answers_other token (inr i) = absurd (not_padding token 1165 i)

-- which isn't one that the server may have drawn
not_own : IsOwnWord early_answer_run Server 0 → ⊥
not_own (inl drawn) = let clash : ◌≡◌ {A = ℕ} 63 0 = drawn.1 in omega (arith, clash)
not_own (inr asked) = let clash : ◌≡◌ {A = ℕ} 63 0 = first_word asked in omega (arith, clash)
  where
    first_word : ◌≡◌ {A = Option ℕ} (Some 63) (Some 0) → ◌≡◌ {A = ℕ} 63 0
    first_word e = cc

pub early_wrong : ValidatedByAnswer early_answer_run → ⊥
early_wrong h = go (h Server 1 refl refl refl refl)
  where
    among : (token : List ℕ) (p : Packet) → In p (early_packet ∷ []) → In (path_response token) p.frames → token ≡ other_word
    among token p (inl is) i = answers_other token (subst (λ (q : Packet). In (path_response token) q.frames) is i)
    among token p (inr none) i = absurd none

    right : (token : List ℕ) → token ≡ other_word → IsLatest (asking early_answer_run Server 1).latest token ⊎ (MayAskOther early_answer_run Server 1 × IsOwnWord early_answer_run Server (word_of token)) → ⊥
    right token is (inl latest) = absurd (subst (λ (o : Option (List ℕ)). IsLatest o token) none_asked latest)
    right token is (inr other) = not_own (subst (λ (t : List ℕ). IsOwnWord early_answer_run Server (word_of t)) is other.1)

    go : WasAnswered early_answer_run Server 1 → ⊥
    go w = right w.token (among w.token w.came.packet (subst (λ (ps : List Packet). In w.came.packet ps) early_came w.came.came) w.came.answers) w.right

early_own : (side : Side) → AreOwn side [] early_answer_run.events early_answer_run.answers early_answer_run.views
early_own Client = (tt, (tt, tt))
early_own Server = (tt, (tt, tt))

pub early_is_honest : IsHonest early_answer_run
early_is_honest = record { start = far_started; keys = are_keys; ids = own_ids early_answer_run early_own }

-- the size of a datagram that a poll gives
abbrev size_in : Answer → ℕ
size_in (answers.Poll (Ok (Some t))) = t.size
size_in a = 0

early_no : IsRefused far_start asks_datagram (gives_bytes 1200)
early_no (inl e) = let sizes : ◌≡◌ {A = ℕ} 1200 222 = ap size_in e in absurd (omega arith)
early_no (inr e) = cc

pub early_is_none : IsNoRun early_answer_run
early_is_none = stops _ _ _ _ _ early_no
