-- When the address of an end's peer becomes validated: where the peer answers the challenge that
-- the end gave last (RFC 9000, sections 8.2.2 and 8.2.3); and which data challenges have (section
-- 8.2.1).
use Rattle.std.specs.Prelude.{ℕ, suc, ◌<◌, ◌^◌, nat_lt, ◌≡◌, ◌⊎◌, ◌||◌, Bool, true, false, if◌then◌else◌, List, [], ◌∷◌, Option, Some, None}
use Rattle.quic_wire_core.specs.declared.stream_id.Side.{Side}
use Rattle.quic_wire.specs.Value.{FrameValue, path_challenge, path_response}
use Rattle.quic_machine.specs.declared.answers.State.TheVariants as states
use Rattle.quic_machine.specs.declared.run.Delivery.{Delivery}
use Rattle.quic_machine.specs.declared.run.Call.TheVariants as calls
use Rattle.quic_machine.specs.declared.run.Answer.{Answer}
use Rattle.quic_machine.specs.Validation.{token_of, word_of}
use Rattle.quic_machine.specs.Machine.{policy_at, end_at}
use Rattle.quic_headline.specs.Runs.{Run, Told, Packet, In, folded, until, state_at, AreServed}
use Rattle.quic_headline.specs.Observer.{Sent, Lens, watch, lens_of, news, has_changed, peer_address, path_changes}
use Rattle.quic_headline.specs.Headline.{IsAt}
use Rattle.quic_headline.specs.Moments.{went}
use Rattle.quic_headline.specs.Expiring.{Questions, questions_told, questions_at_first}
use Rattle.quic_headline.specs.Polls.{GaveOne, seen_at}
use Rattle.quic_headline.specs.Telling.{shows_validated}
use Rattle.quic_headline.specs.Waited.{stands, is_path_challenge}

-- ---- what an end asked

-- the data of the last PATH_CHALLENGE of frames, or this where there is none
abbrev pub asked_in : List FrameValue → Option (List ℕ) → Option (List ℕ)
asked_in [] before = before
asked_in (path_challenge token ∷ fs) before = asked_in fs (Some token)
asked_in (f ∷ fs) before = asked_in fs before

-- and of datagrams
abbrev pub asked_by : List Sent → Option (List ℕ) → Option (List ℕ)
asked_by [] before = before
asked_by (s ∷ ss) before = asked_by ss (asked_in s.frames before)

-- What an observer knows of what an end asks: how it asked, by its timer; the data of the
-- PATH_CHALLENGE that it gave last; and whether it may ask for other data by now: it gave none yet,
-- or since then the timer of path validation expired (section 8.2.4), or its path changed.
pub record Asking : Type 0 where
  pub questions : Questions
  pub latest : Option (List ℕ)
  pub renewed : Bool

-- what is known behind a call at which these go
abbrev pub asking_behind : List Sent → Questions → Asking → Asking
asking_behind sents after a = record {
  questions = after;
  latest = asked_by sents a.latest;
  renewed = (if stands is_path_challenge sents then false else nat_lt a.questions.count after.count || (has_changed a.questions.watch after.watch || a.renewed));
}

-- one call more at the end, where before its call behind so many others the address of the peer is
-- seen to be validated or isn't
abbrev pub asking_told : Lens → (ℕ → Bool) → Told → Asking → Asking
asking_told l validated t a = let after = questions_told l validated t a.questions in asking_behind (went a.questions.watch after.watch) after a

-- nothing was asked before the first call
abbrev pub first_asking : Questions → Asking
first_asking q = record { questions = q; latest = None; renewed = true }

-- what an end asks behind the first so many answers
abbrev pub asking : Run → Side → ℕ → Asking
asking r side i = folded (asking_told (lens_of r side) (shows_validated r side)) (until r side i) (first_asking (questions_at_first r side))

-- ---- what the peer answered

-- PATH_RESPONSE with these data came to an end with the call at a place, in a packet that it took.
pub record AnswerCame (r : Run) (side : Side) (i : ℕ) (token : List ℕ) : Type 0 where
  pub packet : Packet
  pub came : In packet (news (watch r side i).intake (watch r side (suc i)).intake)
  pub answers : In (path_response token) packet.frames

-- data are those of the last PATH_CHALLENGE: the same number in eight bytes
abbrev pub IsLatest : Option (List ℕ) → List ℕ → Type 0
IsLatest None token = ⊥
IsLatest (Some asked) token = word_of token ≡ word_of asked

-- A word that an end may have drawn though it didn't ask it yet: its random source answers it, or
-- the end asked it as it was made.
abbrev pub IsOwnWord : Run → Side → ℕ → Type 0
IsOwnWord r side word = ((n : ℕ) × ((policy_at side r.keys).words n ≡ word)) ⊎ ((end_at side r.start).validation.challenge ≡ Some word)

-- Data are the eight bytes of such a word.
pub record IsOwnData (r : Run) (side : Side) (token : List ℕ) : Type 0 where
  pub word : ℕ
  pub own : IsOwnWord r side word
  pub told : token ≡ token_of word

-- so are the data of each PATH_CHALLENGE in a datagram that a poll gives (section 8.2.1)
abbrev pub ChallengesAreOwn : Run → Type 0
ChallengesAreOwn r = (side : Side) (i now : ℕ) (gave : GaveOne r side i now) (token : List ℕ) → In (path_challenge token) gave.sent.frames → IsOwnData r side token

-- other data may be asked for by now, or are as the path changes by the packet
abbrev pub MayAskOther : Run → Side → ℕ → Type 0
MayAskOther r side i = ((asking r side i).renewed ≡ true) ⊎ (path_changes r side i ≡ true)

-- A datagram came to an end from where it takes its peer to be, with the call at a place.
pub record CameFromPeer (r : Run) (side : Side) (i : ℕ) : Type 0 where
  pub delivery : Delivery
  pub answer : Answer
  pub at : IsAt r i side (calls.Deliver delivery) answer
  pub from : delivery.remote ≡ peer_address r side i

-- The peer answered, before the end was called at a place, what it was asked last, or, where other
-- data may be asked for, told a word that the end may have drawn. An honest peer tells none that it
-- wasn't asked. It did so from where the end takes it to be, or is by that packet: an answer that
-- comes from where the peer was before says nothing of where it is.
pub record WasAnswered (r : Run) (side : Side) (i : ℕ) : Type 0 where
  pub token : List ℕ
  pub came : AnswerCame r side i token
  pub right : IsLatest (asking r side i).latest token ⊎ (MayAskOther r side i × IsOwnWord r side (word_of token))
  pub from : CameFromPeer r side i ⊎ (path_changes r side i ≡ true)

-- the address of an end's peer becomes validated only so, as views of an end that stays open show
-- it
abbrev pub ValidatedByAnswer : Run → Type 0
ValidatedByAnswer r = (side : Side) (i : ℕ) → AreServed r (suc i) → state_at r side (suc i) ≡ states.Open
    → (seen_at r side i).validated ≡ false → (seen_at r side (suc i)).validated ≡ true → WasAnswered r side i

-- The words that the random sources of both ends answer, and that which each asked first, if it
-- asked one, fit 64 bits: a word that doesn't can't be told in eight bytes, nor answered.
pub record AreWords (r : Run) : Type 0 where
  pub drawn : (side : Side) (n : ℕ) → (policy_at side r.keys).words n < 2 ^ 64
  pub asked : (side : Side) (word : ℕ) → (end_at side r.start).validation.challenge ≡ Some word → word < 2 ^ 64

-- and it is validated then, where the answer came from where the end takes its peer to be, no other
-- data may be asked for, and all words fit
abbrev pub AnswersValidate : Run → Type 0
AnswersValidate r = AreWords r → (side : Side) (i : ℕ) (token : List ℕ) → AreServed r (suc i) → state_at r side (suc i) ≡ states.Open
    → CameFromPeer r side i → (asking r side i).renewed ≡ false → AnswerCame r side i token → IsLatest (asking r side i).latest token → (seen_at r side (suc i)).validated ≡ true
