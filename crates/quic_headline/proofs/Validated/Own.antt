-- The data of each PATH_CHALLENGE are its end's own, at each place of an honest run.
use Rattle.std.proofs.Common.{◌≡◌, ℕ, true, List, [], ◌∷◌, ◌++◌, replicate, Option, None, Some, Ok, refl, sym, ◌∙◌, subst, inl, inr}
use Rattle.quic_wire_core.specs.declared.stream_id.Side.{Side}
use Rattle.quic_wire.specs.Value.{FrameValue, path_challenge, padding, connection_close, application_close}
use Rattle.quic_streams_state.specs.declared.state.StreamsState.{StreamsState}
use Rattle.quic_retransmits.specs.Retransmits.{Retransmits}
use Rattle.quic_streams_state.specs.Control.{Goes}
use Rattle.quic_machine.specs.declared.run.Call.TheVariants as calls
use Rattle.quic_machine.specs.declared.run.Answer.{Answer}
use Rattle.quic_machine.specs.declared.run.Answer.TheVariants as answers
use Rattle.quic_machine.specs.Validation.{token_of}
use Rattle.quic_machine.specs.End.{End}
use Rattle.quic_machine.specs.Poll.{Draft, zeros_behind}
use Rattle.quic_machine.specs.PollCases.{ready_at, draft_at, may_leave_at}
use Rattle.quic_machine.specs.DraftLaws.{Writing, by_leave}
use Rattle.quic_machine.specs.Puts as puts
use Rattle.quic_machine.specs.Machine.{World}
use Rattle.quic_headline.specs.Runs.{Run, In}
use Rattle.quic_headline.specs.Observer.{Sent, is_close}
use Rattle.quic_headline.specs.Headline.{IsHonest, IsRun}
use Rattle.quic_headline.specs.Polls.{GaveOne}
use Rattle.quic_headline.specs.Waited.{IsCloseAlone}
use Rattle.quic_headline.specs.Validated.{IsOwnWord, IsOwnData, ChallengesAreOwn}
use Rattle.quic_headline.proofs.Places.Told.{in_append}
use Rattle.quic_headline.proofs.Places.Parties.{Party}
use Rattle.quic_headline.proofs.Places.Groups.{Way}
use Rattle.quic_headline.proofs.Places.Everything as everything
use Rattle.quic_headline.proofs.Places.Theorems.{ready}
use Rattle.quic_headline.proofs.Halves.Ready.{Ready}
use Rattle.quic_headline.proofs.Steps.Made.{MadeAt, made_at, polling, PollHolds, poll_holds}
use Rattle.quic_headline.proofs.Steps.Probing.{IsGiving, IsClosing, closing_alone}
use Rattle.quic_headline.proofs.Steps.Probing as probing
use Rattle.quic_headline.proofs.Waited.Clause.{in_padding}
use Rattle.quic_headline.proofs.Validated.Went.{ready_waits}
use Rattle.quic_headline.proofs.Validated.Clause.{All, all}

-- ---- what goes

module _ (Own : ℕ → Type 0) where
  -- a frame, where it is PATH_CHALLENGE, has the eight bytes of such a word
  abbrev pub HasOwn : FrameValue → Type 0
  HasOwn (path_challenge token) = (word : ℕ) × Own word × (token ≡ token_of word)
  HasOwn f = Unit {0}

  -- so have the frames of a draft, where the word that waits is one
  record OwnGo (d : Draft) : Type 0 where
    waits : (word : ℕ) → d.end.waiting.signals.challenge ≡ Some word → Own word
    frames : (f : FrameValue) → In f d.frames → HasOwn f

  one_more : (fs : List FrameValue) (g : FrameValue) → ((f : FrameValue) → In f fs → HasOwn f) → HasOwn g → (f : FrameValue) → In f (fs ++ g ∷ []) → HasOwn f
  one_more fs g were one f i = elim (in_append f fs (g ∷ []) i) [
    | inl old ↦ were f old
    | inr new ↦ elim new [ inl is ↦ subst HasOwn (sym is) one | inr none ↦ absurd none ]
  ]

  control_own : (p : Retransmits) (s : StreamsState) (f : FrameValue) → Goes p s f → HasOwn f
  control_own p s (path_challenge token) goes = absurd goes
  control_own p s f goes = tt

  goes_on : Writing OwnGo
  goes_on (puts.challenge word) d is g = record { waits = λ other none. (let clash : ◌≡◌ {A = Option ℕ} None (Some other) = none in cc); frames = one_more d.frames (path_challenge (token_of word)) g.frames (word, g.waits word is, refl) }
  goes_on (puts.drops kind) d may g = record { waits = g.waits; frames = g.frames }
  goes_on (puts.control kind f) d is g = record { waits = g.waits; frames = one_more d.frames f g.frames (control_own d.end.waiting.frames d.end.streams f is.says) }
  goes_on p d may g = record { waits = g.waits; frames = one_more d.frames _ g.frames tt }

  -- the frames that an end gives at a moment, where the word that waits is one
  polled_own : (e : End) (now : ℕ) → ((word : ℕ) → e.waiting.signals.challenge ≡ Some word → Own word) → (f : FrameValue) → In f (draft_at e now).frames → HasOwn f
  polled_own e now waits = (by_leave OwnGo goes_on (ready_at e now).leaving (ready_at e now).end (may_leave_at e now) (record { waits = λ word is. waits word (sym (ready_waits e now) ∙ is); frames = λ f i. absurd i })).frames

-- ---- the clause

-- the streams
abbrev Streams : Way
Streams = everything.Streams Ready ready

-- a close is no PATH_CHALLENGE, nor is PADDING
close_apart : (token : List ℕ) (g : FrameValue) → is_close g ≡ true → path_challenge token ≡ g → ⊥
close_apart token (connection_close c) is same = let clash : path_challenge token ≡ connection_close c = same in cc
close_apart token (application_close c) is same = let clash : path_challenge token ≡ application_close c = same in cc
close_apart token g is same = cc

module _ (r : Run) (end : World) (honest : IsHonest r) (run : IsRun r end) (side : Side) (i now : ℕ) (gave : GaveOne r side i now) where
  abbrev answer : Answer
  answer = answers.Poll (Ok (Some gave.transmit))

  at : MadeAt r i side (calls.Poll now) answer
  at = made_at All all r end honest run i side (calls.Poll now) answer gave.poll gave.served

  abbrev w : World
  w = at.before

  h : PollHolds All r i side now answer w
  h = poll_holds All all r end honest run i side now answer w at.behind at.made

  abbrev x : Party
  x = polling r i w side h.sents

  pub own_data : (token : List ℕ) → In (path_challenge token) gave.sent.frames → IsOwnData r side token
  own_data token among = elim (probing.either Streams (everything.all Ready ready) r end honest run side i now gave w at.behind at.made) [
    | inl gives ↦ elim (in_append (path_challenge token) (draft_at x.end now).frames (replicate (zeros_behind (draft_at x.end now)) padding) (subst (λ (s : Sent). In (path_challenge token) s.frames) gives.sent among)) [
      | inl here ↦ (let found = polled_own (IsOwnWord r side) x.end now (λ word waits. h.gives.1.own gives.opened word (inr waits)) (path_challenge token) here in record { word = found.0; own = found.1; told = found.2 })
      | inr zeros ↦ absurd (pads (in_padding (path_challenge token) (zeros_behind (draft_at x.end now)) zeros))
    ]
    | inr close ↦ absurd (closes (closing_alone x.policy x.end now gave.transmit gave.sent close))
  ]
    where
      pads : path_challenge token ≡ padding → ⊥
      pads is = cc

      closes : IsCloseAlone gave.sent → ⊥
      closes alone = apart (subst (λ (fs : List FrameValue). In (path_challenge token) fs) alone.alone among)
        where
          apart : In (path_challenge token) (alone.close ∷ replicate alone.zeros padding) → ⊥
          apart (inl is) = close_apart token alone.close alone.is is
          apart (inr more) = pads (in_padding (path_challenge token) alone.zeros more)

pub challenges_are_own : (r : Run) (end : World) → IsHonest r → IsRun r end → ChallengesAreOwn r
challenges_are_own r end honest run side i now gave token among = own_data r end honest run side i now gave token among
