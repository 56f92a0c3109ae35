-- So each PATH_RESPONSE answers a challenge, each challenge is answered, and datagrams with frames
-- of path validation are long enough, at each place of an honest run.
use Rattle.std.proofs.Common.{◌≡◌, ◌⊎◌, ℕ, suc, ◌≤◌, true, List, [], ◌∷◌, replicate, Option, Some, None, Ok, refl, sym, ap, ◌∙◌, subst, inl, inr, arith}
use Rattle.std.specs.List.{list_any}
use Rattle.std.proofs.lemmas.Bool.{both_ways}
use Rattle.std.proofs.lemmas.Option.{slice_get_within}
use Rattle.quic_wire.specs.Value.{FrameValue, padding, connection_close, application_close}
use Rattle.quic_wire_core.specs.declared.stream_id.Side.{Side}
use Rattle.quic_paths.specs.Responses.{Response}
use Rattle.quic_machine.specs.declared.answers.State.TheVariants as states
use Rattle.quic_machine.specs.declared.run.Call.TheVariants as calls
use Rattle.quic_machine.specs.declared.run.Answer.{Answer}
use Rattle.quic_machine.specs.declared.run.Answer.TheVariants as answers
use Rattle.quic_machine.specs.declared.run.View.{View}
use Rattle.quic_machine.specs.Policy.{Policy}
use Rattle.quic_machine.specs.Validation.{token_of}
use Rattle.quic_machine.specs.End.{End}
use Rattle.quic_machine.specs.Poll.{polled, asks_to_go}
use Rattle.quic_machine.specs.PollCases.{draft_at}
use Rattle.quic_machine.specs.Machine.{World, policy_at, end_at}
use Rattle.quic_headline.specs.Runs.{Run, In, AreServed}
use Rattle.quic_headline.specs.Observer.{Sent, asks_of, is_close}
use Rattle.quic_headline.specs.Headline.{IsHonest, IsRun}
use Rattle.quic_headline.specs.Polls.{GaveOne, GaveNothing, IsHeldBack, IsLimited}
use Rattle.quic_headline.specs.Waited.{is_path_response, IsCloseAlone}
use Rattle.quic_headline.specs.Responses.{Challenge, challenged, answers_in, IsNewest, ResponsesAnswer, ChallengesAnswered, validates_path, PathFramesFill}
use Rattle.quic_headline.proofs.Packets.Quiet.{heard_nothing}
use Rattle.quic_headline.proofs.Places.Parties.{sent_as, with_shown, shown_at}
use Rattle.quic_headline.proofs.Places.Groups.{Way}
use Rattle.quic_headline.proofs.Places.Placed.{Placed, placed, placed_less}
use Rattle.quic_headline.proofs.Places.Everything as everything
use Rattle.quic_headline.proofs.Places.Theorems.{ready}
use Rattle.quic_headline.proofs.Halves.Ready.{Ready}
use Rattle.quic_headline.proofs.Timers.Watched.{Observed}
use Rattle.quic_headline.proofs.Held.Behind.{open_now, held_back}
use Rattle.quic_headline.proofs.Held.Clause.{held_or_blocked}
use Rattle.quic_headline.proofs.Steps.Made.{MadeAt, made_at, served_before}
use Rattle.quic_headline.proofs.Steps.Along.{stands_within}
use Rattle.quic_headline.proofs.Steps.Probing.{IsGiving, IsClosing, closing_alone}
use Rattle.quic_headline.proofs.Steps.Probing as probing
use Rattle.quic_headline.proofs.Validated.Went.{replies}
use Rattle.quic_headline.proofs.Responses.Drafts.{Says, none_padded}
use Rattle.quic_headline.proofs.Responses.Waiting.{Answers, WaitsSo}
use Rattle.quic_headline.proofs.Responses.Answering.{answers_at}
use Rattle.quic_headline.proofs.Responses.Fill.{response_asks, asking_responds, no_padding, fills}

-- what is known of the packets and the streams
abbrev All : Way
All = everything.All Ready ready

abbrev Streams : Way
Streams = everything.Streams Ready ready

-- a close is no frame of path validation
close_other : (f : FrameValue) (fs : List FrameValue) → is_close f ≡ true → answers_in (f ∷ fs) ≡ answers_in fs
close_other (connection_close c) fs is = refl
close_other (application_close c) fs is = refl
close_other f fs is = cc

close_apart : (f : FrameValue) (fs : List FrameValue) → is_close f ≡ true → list_any validates_path (f ∷ fs) ≡ list_any validates_path fs
close_apart (connection_close c) fs is = refl
close_apart (application_close c) fs is = refl
close_apart f fs is = cc

module _ (r : Run) (end : World) (honest : IsHonest r) (run : IsRun r end) where
  -- ---- what a poll gave

  module _ (side : Side) (i now : ℕ) (gave : GaveOne r side i now) where
    abbrev answer : Answer
    answer = answers.Poll (Ok (Some gave.transmit))

    at : MadeAt r i side (calls.Poll now) answer
    at = made_at All (everything.all Ready ready) r end honest run i side (calls.Poll now) answer gave.poll gave.served

    abbrev w : World
    w = at.before

    abbrev p : Policy
    p = policy_at side r.keys

    abbrev e : End
    e = with_shown (end_at side w) (shown_at side w)

    either : IsGiving p e now gave.transmit (polled p e now).end gave.sent ⊎ IsClosing p e now gave.transmit gave.sent
    either = probing.either Streams (everything.all Ready ready) r end honest run side i now gave w at.behind at.made

    alone : IsClosing p e now gave.transmit gave.sent → IsCloseAlone gave.sent
    alone close = closing_alone p e now gave.transmit gave.sent close

    -- the answer that waits is one to the newest
    waits : e.closing.state ≡ states.Open → WaitsSo (challenged r side i).unanswered e.waiting.signals.response
    waits opened = answers_at r end honest run side i w (stands_within r end run side i side (calls.Poll now) answer w at.behind at.made) (served_before r.answers i gave.served) at.made.leads opened

    pub answers_newest : (answers_in gave.sent.frames ≡ []) ⊎ ((token : List ℕ) × (answers_in gave.sent.frames ≡ token ∷ []) × IsNewest (challenged r side i).unanswered token)
    answers_newest = elim either [
      | inl gives ↦ said gives.sent (waits gives.opened) (replies p e now)
      | inr close ↦ inl (ap answers_in (alone close).alone ∙ close_other (alone close).close (replicate (alone close).zeros padding) (alone close).is ∙ none_padded (alone close).zeros)
    ]
      where
        newest : (response : Response) → Answers (challenged r side i).unanswered response → IsNewest (challenged r side i).unanswered (token_of response.token)
        newest response one = record {
          challenge = one.challenge;
          among = one.among;
          same = sym one.same;
          newest = λ other j. (let most = one.newest other j in let number = one.number in omega (arith, most, number));
        }

        said : gave.sent ≡ sent_as e now (draft_at e now) → WaitsSo (challenged r side i).unanswered e.waiting.signals.response → Says e.waiting.signals.response (draft_at e now).end.waiting.signals.response (sent_as e now (draft_at e now)).frames
            → (answers_in gave.sent.frames ≡ []) ⊎ ((token : List ℕ) × (answers_in gave.sent.frames ≡ token ∷ []) × IsNewest (challenged r side i).unanswered token)
        said is waiting (inl none) = inl (ap (λ (s : Sent). answers_in s.frames) is ∙ none.none)
        said is waiting (inr one) = inr (token_of one.response.token, ap (λ (s : Sent). answers_in s.frames) is ∙ one.said, newest one.response (subst (λ (o : Option Response). WaitsSo (challenged r side i).unanswered o) one.is waiting))

    pub fills_path : list_any validates_path gave.sent.frames ≡ true → 1200 ≤ gave.sent.size
    fills_path has = elim either [
      | inl gives ↦ subst (λ (s : Sent). 1200 ≤ s.size) (sym gives.sent) (fills e now gives.some (subst (λ (s : Sent). list_any validates_path s.frames ≡ true) gives.sent has))
      | inr close ↦ absurd (both_ways (list_any validates_path gave.sent.frames)
          (ap (λ (fs : List FrameValue). list_any validates_path fs) (alone close).alone ∙ close_apart (alone close).close (replicate (alone close).zeros padding) (alone close).is ∙ no_padding (alone close).zeros) has)
    ]

    -- where a challenge is to be answered, what asks answers it
    pub answers_along : asks_of gave.sent ≡ true → (challenge : Challenge) → In challenge (challenged r side i).unanswered → list_any is_path_response gave.sent.frames ≡ true
    answers_along asks challenge among = go e.waiting.signals.response refl (waits gives.opened)
      where
        gives : IsGiving p e now gave.transmit (polled p e now).end gave.sent
        gives = probing.asking_gives Streams (everything.all Ready ready) r end honest run side i now gave w at.behind at.made asks

        go : (o : Option Response) → e.waiting.signals.response ≡ o → WaitsSo (challenged r side i).unanswered o → list_any is_path_response gave.sent.frames ≡ true
        go None set none = absurd (none challenge among)
        go (Some response) set one =
            subst (λ (s : Sent). list_any is_path_response s.frames ≡ true) (sym gives.sent) (asking_responds e now response set gives.some (subst (λ (s : Sent). asks_of s ≡ true) gives.sent asks))

  -- ---- what a poll holds back

  place : (side : Side) (i : ℕ) → AreServed r i → Placed All r end side i
  place = placed All (everything.all Ready ready) r end honest run

  is_held : (side : Side) (i now : ℕ) (v : View) (challenge : Challenge) → AreServed r (suc i) → GaveNothing r side i now v → In challenge (challenged r side (suc i)).unanswered → IsHeldBack r side (suc i) v ⊎ IsLimited r side (suc i) v
  is_held side i now v challenge served gave among =
      let at = place side (suc i) served in
      let opened : (end_at side at.world).closing.state ≡ states.Open = open_now r side i now v at.world at.leads gave in
      let within = slice_get_within r.views i v gave.shown in
      held_or_blocked r end honest run (λ by j there. placed_less All Observed r end by j (λ x y h. (h.0.0, h.1)) (place by j there)) (heard_nothing r honest) side i now v at.world served at.leads gave
      (held_back All (record { packets = λ x y h. h.0.0; sight = λ x y h. h.1 }) r end honest side i now v at gave (λ none. waiting (end_at side at.world) (end_at side at.world).waiting.signals.response refl (answers_at r end honest run side (suc i) at.world (omega (arith, within)) served at.leads opened)))
    where
      waiting : (f : End) (o : Option Response) → f.waiting.signals.response ≡ o → WaitsSo (challenged r side (suc i)).unanswered o → asks_to_go f ≡ true
      waiting f None set none = absurd (none challenge among)
      waiting f (Some response) set one = response_asks f response set

pub responses_answer : (r : Run) (end : World) → IsHonest r → IsRun r end → ResponsesAnswer r
responses_answer r end honest run side i now gave = answers_newest r end honest run side i now gave

pub challenges_answered : (r : Run) (end : World) → IsHonest r → IsRun r end → ChallengesAnswered r
challenges_answered r end honest run = record {
  along = λ side i now given challenge among. answers_along r end honest run side i now given.one given.asks challenge among;
  held = is_held r end honest run;
}

pub path_frames_fill : (r : Run) (end : World) → IsHonest r → IsRun r end → PathFramesFill r
path_frames_fill r end honest run side i now gave has = fills_path r end honest run side i now gave has
