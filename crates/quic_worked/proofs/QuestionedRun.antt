-- The client that answers its server's challenge, and machines that answer with other data, that
-- don't answer, or that answer in a short datagram, or ask for data that weren't drawn.
use Rattle.std.proofs.Common.{◌≡◌, ◌⊎◌, ◌≤◌, ℕ, zero, suc, true, false, List, [], ◌∷◌, ◌++◌, map, Option, Some, None, Ok, refl, inl, inr, sym, ap, ◌∙◌, subst, arith}
use Rattle.std.specs.Prelude.{slice_index}
use Rattle.quic_wire_core.specs.declared.shared.EcnCodepoint.TheVariants.{Ect0}
use Rattle.quic_wire_core.specs.declared.stream_id.Side.{Side}
use Rattle.quic_wire_core.specs.declared.stream_id.Side.TheVariants.{Client, Server}
use Rattle.quic_machine.specs.declared.run.Answer.{Answer}
use Rattle.quic_machine.specs.declared.run.Answer.TheVariants as answers
use Rattle.quic_machine.specs.declared.run.View.{View}
use Rattle.quic_machine.specs.Validation.{token_of, word_of}
use Rattle.quic_machine.specs.Machine.{World}
use Rattle.quic_machine.specs.RunLaws.{one_run}
use Rattle.quic_headline.specs.Runs.{In}
use Rattle.quic_headline.specs.Observer.{Sent, sents_until}
use Rattle.quic_headline.specs.Headline.{IsHonest}
use Rattle.quic_headline.specs.Polls.{GaveOne, GaveAsking, IsFull, IsPaced, IsHeldBack}
use Rattle.quic_headline.specs.Responses.{Challenge, challenged, answers_in, IsNewest, ResponsesAnswer, ChallengesAnswered, PathFramesFill}
use Rattle.quic_headline.specs.Validated.{IsOwnWord, IsOwnData, ChallengesAreOwn}
use Rattle.quic_headline.proofs.Validated.Own.{challenges_are_own}
use Rattle.quic_worked.specs.Worked.{asks_datagram, gives_unmarked, id_word}
use Rattle.quic_worked.specs.Machines.{NeverGives}
use Rattle.quic_worked.specs.Acknowledged.{client_acked}
use Rattle.quic_worked.specs.Broken.{IsNoRun}
use Rattle.quic_worked.specs.Held.{gives_nothing}
use Rattle.quic_worked.specs.Unvalidated.{once_far, far_run, once_answered, other_word, answered_run}
use Rattle.quic_worked.specs.Questioned.{server_asks, once_asked, response_seen, silent_seen, other_given, ping_given, short_given, answers_other, other_sent, pings_instead, ping_sent, answers_never, answers_short, short_sent, asks_zeros, zeros_sent}
use Rattle.quic_worked.proofs.OwnIds.{AreOwn, own_ids}
use Rattle.quic_worked.proofs.BrokenRuns.{IsRefused, behind, stops}
use Rattle.quic_worked.proofs.WorkedKeys.{are_keys}
use Rattle.quic_worked.proofs.UnvalidatedRun.{far_started, far_own, far_is_honest, far_is_run, opens, writes, gives, takes, asks_back}
use Rattle.quic_worked.proofs.AnsweredRun.{hears}
use Rattle.quic_worked.proofs.Unpolled.{unpolled}
use Rattle.quic_worked.proofs.Validated.{unless_limited}

-- ---- the machine's run

pub was_asked : (challenged answered_run Client 6).unanswered ≡ server_asks ∷ []
unfolding client_acked
was_asked = refl

pub is_none : (challenged answered_run Client 7).unanswered ≡ []
unfolding client_acked
is_none = refl

-- the server's challenge is the only one
only_one : IsNewest (server_asks ∷ []) id_word
only_one = record { challenge = server_asks; among = inl refl; same = refl; newest = least }
  where
    least : (other : Challenge) → In other (server_asks ∷ []) → other.number ≤ 0
    least other (inl is) = (let number : other.number ≡ 0 = ap (λ (q : Challenge). q.number) is in omega (arith, number))
    least other (inr none) = absurd none

pub is_newest : IsNewest (challenged answered_run Client 6).unanswered id_word
is_newest = subst (λ (unanswered : List Challenge). IsNewest unanswered id_word) (sym was_asked) only_one

-- what a datagram answers, and how many bytes it has
abbrev Answered : Type 0
Answered = List (List ℕ) × ℕ

abbrev answered : Sent → Answered
answered s = (answers_in s.frames, s.size)

-- the last of these, if there is one
abbrev last_of : List Answered → Option Answered
last_of [] = None
last_of (x ∷ []) = Some x
last_of (x ∷ y ∷ ys) = last_of (y ∷ ys)

last_more : (front : List Sent) (s : Sent) → last_of (map answered (front ++ s ∷ [])) ≡ Some (answered s)
last_more [] s = refl
last_more (x ∷ []) s = refl
last_more (x ∷ y ∷ front) s = last_more (y ∷ front) s

-- so it is of one that a poll gave
gave_last : (side : Side) (i now : ℕ) (given : GaveOne answered_run side i now) → Some (answered given.sent) ≡ last_of (map answered (sents_until answered_run side (suc i)))
gave_last side i now given = sym (last_more (sents_until answered_run side i) given.sent) ∙ ap (λ (ss : List Sent). last_of (map answered ss)) (sym given.went)

client_first : last_of (map answered (sents_until answered_run Client 3)) ≡ Some ([], 1200)
unfolding client_acked
client_first = refl

server_first : last_of (map answered (sents_until answered_run Server 5)) ≡ Some ([], 1200)
unfolding client_acked
server_first = refl

client_second : last_of (map answered (sents_until answered_run Client 7)) ≡ Some (id_word ∷ [], 1200)
unfolding client_acked
client_second = refl

none_said : (x : Answered) → Some x ≡ Some ([], 1200) → (x.0 ≡ []) × (x.1 ≡ 1200)
none_said x is = let same : x ≡ ([], 1200) = cc in (ap (λ (y : Answered). y.0) same, ap (λ (y : Answered). y.1) same)

one_said : (x : Answered) → Some x ≡ Some (id_word ∷ [], 1200) → (x.0 ≡ id_word ∷ []) × (x.1 ≡ 1200)
one_said x is = let same : x ≡ (id_word ∷ [], 1200) = cc in (ap (λ (y : Answered). y.0) same, ap (λ (y : Answered). y.1) same)

-- each datagram answers so, and has 1200 bytes
abbrev Says : Side → (i : ℕ) → Sent → Type 0
Says side i s = ((answers_in s.frames ≡ []) ⊎ ((token : List ℕ) × (answers_in s.frames ≡ token ∷ []) × IsNewest (challenged answered_run side i).unanswered token)) × (s.size ≡ 1200)

at_2 : (side : Side) (now : ℕ) (given : GaveOne answered_run side 2 now) → Says side 2 given.sent
at_2 Client now given = let said = none_said (answered given.sent) (gave_last Client 2 now given ∙ client_first) in (inl said.0, said.1)
at_2 Server now given = absurd (unpolled Server now _ given.poll.event refl)

at_4 : (side : Side) (now : ℕ) (given : GaveOne answered_run side 4 now) → Says side 4 given.sent
at_4 Client now given = absurd (unpolled Client now _ given.poll.event refl)
at_4 Server now given = let said = none_said (answered given.sent) (gave_last Server 4 now given ∙ server_first) in (inl said.0, said.1)

at_6 : (side : Side) (now : ℕ) (given : GaveOne answered_run side 6 now) → Says side 6 given.sent
at_6 Client now given = let said = one_said (answered given.sent) (gave_last Client 6 now given ∙ client_second) in (inr (id_word, said.0, is_newest), said.1)
at_6 Server now given = absurd (unpolled Server now _ given.poll.event refl)

says : (side : Side) (i now : ℕ) (given : GaveOne answered_run side i now) → Says side i given.sent
says side zero now given = absurd (unpolled side now _ given.poll.event refl)
says side (suc zero) now given = absurd (unpolled side now _ given.poll.event refl)
says side (suc (suc zero)) now given = at_2 side now given
says side (suc (suc (suc zero))) now given = absurd (unpolled side now _ given.poll.event refl)
says side (suc (suc (suc (suc zero)))) now given = at_4 side now given
says side (suc (suc (suc (suc (suc zero))))) now given = absurd (unpolled side now _ given.poll.event refl)
says side (suc (suc (suc (suc (suc (suc zero)))))) now given = at_6 side now given
says side (suc (suc (suc (suc (suc (suc (suc zero))))))) now given = absurd (unpolled side now _ given.poll.event refl)
says side (suc (suc (suc (suc (suc (suc (suc (suc zero)))))))) now given = absurd (unpolled side now _ given.poll.event refl)
says side (suc (suc (suc (suc (suc (suc (suc (suc (suc i))))))))) now given = absurd (unpolled side now _ given.poll.event refl)

pub responses_answer : ResponsesAnswer answered_run
responses_answer side i now given = (says side i now given).0

pub path_frames_fill : PathFramesFill answered_run
path_frames_fill side i now given has = (let size = (says side i now given).1 in omega (arith, size))

-- ---- machines that go wrong

-- the premises, however the second poll is answered
asked_own : (a : Answer) (v : View) (given : List (List ℕ)) (side : Side) → AreOwn side [] (once_asked a v given).events (once_asked a v given).answers (once_asked a v given).views
asked_own a v given Client = (tt, (inl refl, (tt, (tt, (tt, (tt, (tt, tt)))))))
asked_own a v given Server = (tt, (tt, (tt, (tt, (tt, (tt, (tt, tt)))))))

asked_is_honest : (a : Answer) (v : View) (given : List (List ℕ)) → IsHonest (once_asked a v given)
asked_is_honest a v given = record { start = far_started; keys = are_keys; ids = own_ids (once_asked a v given) (asked_own a v given) }

-- the machine answers otherwise
abbrev size_in : Answer → ℕ
size_in (answers.Poll (Ok (Some t))) = t.size
size_in a = 0

refused_so : (a : Answer) (v : View) (given : List (List ℕ)) → IsRefused (once_answered 1) asks_datagram a → IsNoRun (once_asked a v given)
refused_so a v given refused = behind refl opens (behind refl writes (behind refl gives (behind refl takes (behind refl asks_back (behind refl hears (stops _ _ _ _ _ refused))))))

-- ---- other data

other_went : sents_until answers_other Client 7 ≡ sents_until answers_other Client 6 ++ other_sent ∷ []
unfolding client_acked
other_went = refl

gave_other : GaveOne answers_other Client 6 0
gave_other = record { transmit = record { size = 1201; ecn = None; remote = 0 }; poll = record { event = refl; answer = refl }; served = refl; sent = other_sent; went = other_went }

other_asked : (challenged answers_other Client 6).unanswered ≡ server_asks ∷ []
unfolding client_acked
other_asked = refl

not_other : IsNewest (server_asks ∷ []) other_word → ⊥
not_other n = elim n.among [
  | inl is ↦ (let clash : 0 ≡ 63 = ap word_of (n.same ∙ ap (λ (q : Challenge). q.token) is) in omega (arith, clash))
  | inr none ↦ none
]

said_other : (answers_in other_sent.frames ≡ []) ⊎ ((token : List ℕ) × (answers_in other_sent.frames ≡ token ∷ []) × IsNewest (challenged answers_other Client 6).unanswered token) → ⊥
said_other (inl none) = cc
said_other (inr said) =
    let same : said.0 ≡ other_word = head_same said.0 other_word (sym said.1) in
    not_other (subst (λ (token : List ℕ). IsNewest (server_asks ∷ []) token) same (subst (λ (unanswered : List Challenge). IsNewest unanswered said.0) other_asked said.2))
  where
    head_same : (a b : List ℕ) → a ∷ [] ≡ b ∷ [] → a ≡ b
    head_same a b is = cc

pub other_not : ResponsesAnswer answers_other → ⊥
unfolding gave_other
other_not h = said_other (h Client 6 0 gave_other)

pub other_is_honest : IsHonest answers_other
other_is_honest = asked_is_honest (gives_unmarked 1201) response_seen other_given

other_no : IsRefused (once_answered 1) asks_datagram (gives_unmarked 1201)
unfolding once_answered
other_no (inl e) = let sizes : ◌≡◌ {A = ℕ} 1201 1200 = ap size_in e in absurd (omega arith)
other_no (inr e) = cc

pub other_is_none : IsNoRun answers_other
other_is_none = refused_so (gives_unmarked 1201) response_seen other_given other_no

-- ---- no answer

ping_went : sents_until pings_instead Client 7 ≡ sents_until pings_instead Client 6 ++ ping_sent ∷ []
unfolding client_acked
ping_went = refl

gave_ping : GaveAsking pings_instead Client 6 0
gave_ping = record { one = record { transmit = record { size = 32; ecn = None; remote = 0 }; poll = record { event = refl; answer = refl }; served = refl; sent = ping_sent; went = ping_went }; asks = refl }

pings_asked : (challenged pings_instead Client 6).unanswered ≡ server_asks ∷ []
unfolding client_acked
pings_asked = refl

pub pings_not : ChallengesAnswered pings_instead → ⊥
unfolding gave_ping
pings_not h = (let clash : false ≡ true = h.along Client 6 0 gave_ping server_asks (subst (λ (unanswered : List Challenge). In server_asks unanswered) (sym pings_asked) (inl refl)) in cc)

pub pings_is_honest : IsHonest pings_instead
pings_is_honest = asked_is_honest (gives_unmarked 32) response_seen ping_given

pings_no : IsRefused (once_answered 1) asks_datagram (gives_unmarked 32)
unfolding once_answered
pings_no (inl e) = let sizes : ◌≡◌ {A = ℕ} 32 1200 = ap size_in e in absurd (omega arith)
pings_no (inr e) = cc

pub pings_is_none : IsNoRun pings_instead
pings_is_none = refused_so (gives_unmarked 32) response_seen ping_given pings_no

never_asked : (challenged answers_never Client 7).unanswered ≡ server_asks ∷ []
unfolding client_acked
never_asked = refl

never_full : IsFull answers_never Client 7 silent_seen → ⊥
unfolding client_acked
never_full full = let most : 12000 ≤ 1200 = full in omega (arith, most)

never_paced : IsPaced answers_never Client 7 silent_seen → ⊥
never_paced paced = let shown : ◌≡◌ {A = Option (Option ℕ)} (Some None) (Some (Some paced.moment)) = paced.shown in cc

pub never_not : ChallengesAnswered answers_never → ⊥
never_not h =
    elim (unless_limited answers_never Client 7 silent_seen (IsHeldBack answers_never Client 7 silent_seen) refl (h.held Client 6 0 silent_seen server_asks refl (record { poll = record { event = refl; answer = refl }; shown = refl; opened = refl })
    (subst (λ (unanswered : List Challenge). In server_asks unanswered) (sym never_asked) (inl refl)))) [
      | inl full ↦ never_full full
      | inr paced ↦ never_paced paced
    ]

pub never_is_honest : IsHonest answers_never
never_is_honest = asked_is_honest gives_nothing silent_seen []

never_no : IsRefused (once_answered 1) asks_datagram gives_nothing
unfolding once_answered
never_no (inl e) = cc
never_no (inr e) = cc

pub never_is_none : IsNoRun answers_never
never_is_none = refused_so gives_nothing silent_seen [] never_no

-- ---- a short datagram

short_went : sents_until answers_short Client 7 ≡ sents_until answers_short Client 6 ++ short_sent ∷ []
unfolding client_acked
short_went = refl

gave_short : GaveOne answers_short Client 6 0
gave_short = record { transmit = record { size = 40; ecn = None; remote = 0 }; poll = record { event = refl; answer = refl }; served = refl; sent = short_sent; went = short_went }

pub short_not : PathFramesFill answers_short → ⊥
unfolding gave_short
short_not h = (let most : 1200 ≤ 40 = h Client 6 0 gave_short refl in omega (arith, most))

pub short_is_honest : IsHonest answers_short
short_is_honest = asked_is_honest (gives_unmarked 40) response_seen short_given

short_no : IsRefused (once_answered 1) asks_datagram (gives_unmarked 40)
unfolding once_answered
short_no (inl e) = let sizes : ◌≡◌ {A = ℕ} 40 1200 = ap size_in e in absurd (omega arith)
short_no (inr e) = cc

pub short_is_none : IsNoRun answers_short
short_is_none = refused_so (gives_unmarked 40) response_seen short_given short_no

-- ---- what is asked

pub challenge_own : ChallengesAreOwn far_run
challenge_own = challenges_are_own far_run (once_far 5) far_is_honest far_is_run

zeros_went : sents_until asks_zeros Server 5 ≡ sents_until asks_zeros Server 4 ++ zeros_sent ∷ []
unfolding client_acked
zeros_went = refl

gave_zeros : GaveOne asks_zeros Server 4 0
gave_zeros = record { transmit = record { size = 1200; ecn = Some Ect0; remote = 0 }; poll = record { event = refl; answer = refl }; served = refl; sent = zeros_sent; went = zeros_went }

-- its own word is 63
own_is : (word : ℕ) → IsOwnWord asks_zeros Server word → word ≡ 63
own_is word (inl drawn) = sym drawn.1
own_is word (inr asked) = some_same asked
  where
    some_same : ◌≡◌ {A = Option ℕ} (Some 63) (Some word) → word ≡ 63
    some_same is = let same : ◌≡◌ {A = ℕ} 63 word = cc in sym same

no_zeros : IsOwnData asks_zeros Server other_word → ⊥
no_zeros d =
    let clash : ◌≡◌ {A = ℕ} 0 63 = ap word_of (d.told ∙ ap token_of (own_is d.word d.own)) in
    omega (arith, clash)

pub zeros_not : ChallengesAreOwn asks_zeros → ⊥
unfolding gave_zeros
zeros_not h = no_zeros (h Server 4 0 gave_zeros other_word (inl refl))

pub zeros_is_honest : IsHonest asks_zeros
zeros_is_honest = record { start = far_started; keys = are_keys; ids = own_ids asks_zeros far_own }

-- the last byte of what the first datagram asks
abbrev asked_byte : List (List ℕ) → ℕ
asked_byte [] = 0
asked_byte (d ∷ ds) = slice_index d 18

right_word : asked_byte (once_far 5).from_server ≡ 63
unfolding once_far
right_word = refl

pub never_zeros : NeverGives asks_zeros
never_zeros views end is =
    let same = one_run far_run.keys far_run.answers far_run.start far_run.events views far_run.views end (once_far 5) refl is.follows far_is_run.follows in
    let clash : ◌≡◌ {A = ℕ} 0 63 = ap asked_byte (is.from_server ∙ ap (λ (w : World). w.from_server) same.1) ∙ right_word in
    omega (arith, clash)
