-- How an end answers the challenges of its peer (RFC 9000, section 8.2.2), and how many bytes the
-- datagrams of path validation have (sections 8.2.1 and 8.2.2).
use Rattle.std.specs.Prelude.{ℕ, suc, ◌≤◌, ◌≡◌, ◌⊎◌, ◌==◌, ◌||◌, Bool, true, false, if◌then◌else◌, List, [], ◌∷◌, ◌++◌}
use Rattle.std.specs.List.{list_any}
use Rattle.quic_wire_core.specs.declared.stream_id.Side.{Side}
use Rattle.quic_wire.specs.Value.{FrameValue, path_challenge, path_response}
use Rattle.quic_machine.specs.declared.run.Call.{Call}
use Rattle.quic_machine.specs.declared.run.Call.TheVariants as calls
use Rattle.quic_machine.specs.declared.run.View.{View}
use Rattle.quic_machine.specs.Machine.{end_at}
use Rattle.quic_headline.specs.Runs.{Run, Told, Packet, In, AreServed, folded, until, given_of}
use Rattle.quic_headline.specs.Observer.{Sent, Watch, watch_from, news, Lens, watch_told, lens_of, has_changed}
use Rattle.quic_headline.specs.Moments.{went}
use Rattle.quic_headline.specs.Polls.{GaveOne, GaveAsking, GaveNothing, IsHeldBack, IsLimited}
use Rattle.quic_headline.specs.Waited.{stands, is_path_challenge, is_path_response}

-- ---- which challenges are to be answered

-- a PATH_CHALLENGE frame that came: the number of its packet, and its data
pub record Challenge : Type 0 where
  pub number : ℕ
  pub token : List ℕ

-- those among the frames of a packet with this number
abbrev pub challenges_in : ℕ → List FrameValue → List Challenge
challenges_in number [] = []
challenges_in number (path_challenge token ∷ fs) = record { number = number; token = token } ∷ challenges_in number fs
challenges_in number (f ∷ fs) = challenges_in number fs

-- and among those of packets
abbrev pub challenges_of : List Packet → List Challenge
challenges_of [] = []
challenges_of (p ∷ ps) = challenges_in p.number p.frames ++ challenges_of ps

-- whether a call brings a datagram from an address
abbrev pub comes_from : ℕ → Call → Bool
comes_from address (calls.Deliver delivery) = delivery.remote == address
comes_from address call = false

-- What an observer knows of the challenges that an end is to answer: those that it took since it
-- last gave a PATH_RESPONSE, from where it takes its peer to be; one that comes from elsewhere
-- isn't answered, nor is any of a path that the end has left.
pub record Challenged : Type 0 where
  pub watch : Watch
  pub unanswered : List Challenge

-- those that are to be answered behind a call at which these go, and these packets come
abbrev pub open_behind : Call → List Sent → List Packet → Watch → Watch → List Challenge → List Challenge
open_behind call sents came before after unanswered =
    if stands is_path_response sents then []
    else (if comes_from after.route.address call then challenges_of came else []) ++ (if has_changed before after then [] else unanswered)

-- one call more at the end
abbrev pub challenged_told : Lens → Told → Challenged → Challenged
challenged_told l t q = let after = watch_told l t q.watch in record { watch = after; unanswered = open_behind t.call (went q.watch after) (news q.watch.intake after.intake) q.watch after q.unanswered }

-- the challenges that an end is to answer behind the first so many answers
abbrev pub challenged : Run → Side → ℕ → Challenged
challenged r side i = folded (challenged_told (lens_of r side)) (until r side i) (record { watch = watch_from (end_at side r.start) (given_of r side); unanswered = [] })

-- ---- what is answered

-- Data are those of one of these challenges, of which none came in a packet with a greater number.
pub record IsNewest (unanswered : List Challenge) (token : List ℕ) : Type 0 where
  pub challenge : Challenge
  pub among : In challenge unanswered
  pub same : token ≡ challenge.token
  pub newest : (other : Challenge) → In other unanswered → other.number ≤ challenge.number

-- the data of the PATH_RESPONSE frames among these
abbrev pub answers_in : List FrameValue → List (List ℕ)
answers_in [] = []
answers_in (path_response token ∷ fs) = token ∷ answers_in fs
answers_in (f ∷ fs) = answers_in fs

-- a datagram that a poll gives has no PATH_RESPONSE, or one, with the data of the newest challenge
-- that is to be answered
abbrev pub ResponsesAnswer : Run → Type 0
ResponsesAnswer r = (side : Side) (i now : ℕ) (gave : GaveOne r side i now) → (answers_in gave.sent.frames ≡ []) ⊎ ((token : List ℕ) × (answers_in gave.sent.frames ≡ token ∷ []) × IsNewest (challenged r side i).unanswered token)

-- Where a challenge is to be answered, each datagram that asks for an acknowledgement has
-- PATH_RESPONSE; and where a poll of an open end gives nothing, window or pacer hold it back, or
-- nothing more may go to an address that isn't validated.
pub record ChallengesAnswered (r : Run) : Type 0 where
  pub along : (side : Side) (i now : ℕ) (given : GaveAsking r side i now) (challenge : Challenge) → In challenge (challenged r side i).unanswered → list_any is_path_response given.one.sent.frames ≡ true
  pub held : (side : Side) (i now : ℕ) (v : View) (challenge : Challenge) → AreServed r (suc i) → GaveNothing r side i now v → In challenge (challenged r side (suc i)).unanswered → IsHeldBack r side (suc i) v ⊎ IsLimited r side (suc i) v

-- ---- how long these datagrams are

-- whether a frame is one of path validation
abbrev pub validates_path : FrameValue → Bool
validates_path f = is_path_challenge f || is_path_response f

-- a datagram with such a frame has 1200 bytes at least, so that the path is known to carry as many
abbrev pub PathFramesFill : Run → Type 0
PathFramesFill r = (side : Side) (i now : ℕ) (gave : GaveOne r side i now) → list_any validates_path gave.sent.frames ≡ true → 1200 ≤ gave.sent.size
