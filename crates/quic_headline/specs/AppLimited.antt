-- Whether an end had nothing more to send as it was last polled (RFC 9002, section 7.8: application
-- limited), as far as a run's lists say.
use Rattle.std.specs.Prelude.{ℕ, suc, ◌+◌, ◌<◌, ◌≡◌, ◌⊎◌, Bool, true, false, List, length, slice_get, Some, None, Ok}
use Rattle.quic_wire_core.specs.declared.stream_id.Side.{Side}
use Rattle.quic_machine.specs.declared.answers.Transmit.{Transmit}
use Rattle.quic_machine.specs.declared.run.Call.TheVariants as calls
use Rattle.quic_machine.specs.declared.run.Answer.{Answer}
use Rattle.quic_machine.specs.declared.run.Answer.TheVariants as answers
use Rattle.quic_machine.specs.declared.run.View.{View}
use Rattle.quic_headline.specs.Runs.{Run, In, until}
use Rattle.quic_headline.specs.Headline.{IsAt}
use Rattle.quic_headline.specs.Polls.{window_in, mtu_in, pacing_timer, bytes_flying, IsFull, IsLimited, IsToGo}
use Rattle.quic_headline.specs.Queue.{waiting_messages}

-- An end was polled last, among the first so many answers, at this place and moment, and answered
-- so.
pub record WasPolled (r : Run) (side : Side) (i place now : ℕ) (a : Answer) : Type 0 where
  pub below : place < i
  pub poll : IsAt r place side (calls.Poll now) a
  pub last : (other later : ℕ) (b : Answer) → place < other → other < i → IsAt r other side (calls.Poll later) b → ⊥

-- by the lists something waits to go: a byte of a stream, its end, or a message
abbrev pub HasToGo : Run → Side → ℕ → Type 0
HasToGo r side i = ((id : ℕ) × IsToGo r side i id) ⊎ ((message : List ℕ) × In message (waiting_messages r side i))

-- Behind the first so many answers an end counts as having nothing more to send, or doesn't. It
-- doesn't where its last poll gave a datagram; or where it gave nothing, and the timer of the pacer
-- is seen set behind it, or the window is full and something waits that may go to the address of
-- the peer. It does where it gave nothing, and nothing more may go to an address that isn't
-- validated; or that timer isn't set, and the window has room. Of a full window beside which
-- nothing is seen to wait it isn't said.
pub record MayCount (r : Run) (side : Side) (i : ℕ) (limited : Bool) : Type 0 where
  pub gave : (place now : ℕ) (transmit : Transmit) → WasPolled r side i place now (answers.Poll (Ok (Some transmit))) → limited ≡ false
  pub paced : (place now moment : ℕ) (v : View) → WasPolled r side i place now (answers.Poll (Ok None)) → slice_get r.views place ≡ Some v → pacing_timer v side ≡ Some (Some moment) → limited ≡ false
  pub full : (place now : ℕ) (v : View) → WasPolled r side i place now (answers.Poll (Ok None)) → slice_get r.views place ≡ Some v → IsFull r side (suc place) v → HasToGo r side (suc place) → (IsLimited r side (suc place) v → ⊥) → limited ≡ false
  pub limits : (place now : ℕ) (v : View) → WasPolled r side i place now (answers.Poll (Ok None)) → slice_get r.views place ≡ Some v → IsLimited r side (suc place) v → limited ≡ true
  pub idle : (place now : ℕ) (v : View) → WasPolled r side i place now (answers.Poll (Ok None)) → slice_get r.views place ≡ Some v → pacing_timer v side ≡ Some None → bytes_flying r side (suc place) + mtu_in v side < window_in v side → limited ≡ true

-- so it is at a call of the end behind so many others
pub record CountsAt (r : Run) (side : Side) (calls_before : ℕ) (limited : Bool) : Type 0 where
  pub place : ℕ
  pub as_many : length (until r side place) ≡ calls_before
  pub counts : MayCount r side place limited
