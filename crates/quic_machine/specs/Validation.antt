-- Path validation (RFC 9000, sections 8.1 and 8.2): how much goes to an address that isn't
-- validated, and what shows that the peer receives there.
use Rattle.std.specs.Prelude.{ℕ, ◌+◌, ◌-◌, ◌*◌, ◌^◌, Bool, true, false, not, ◌&&◌, ◌||◌, nat_lt, List, Option, None}
use Rattle.std.specs.Int.{from_be_bytes, to_be_bytes, w64}
use Rattle.std.specs.Option.{is_some}
use Rattle.quic_time.specs.Clocks.{saturated}
use Rattle.quic_wire.specs.Value.{FrameValue, path_challenge, path_response}
use Rattle.quic_paths.specs.Paths.{is_asked}
use Rattle.quic_paths.specs.Responses.{Response, newest}
use Rattle.quic_machine.specs.Heard.{Heard}
use Rattle.quic_machine.specs.Parts.{Validation, current_mtu}
use Rattle.quic_machine.specs.End.{End, with_path_timer, with_signals, words_drawn, challenged}

-- ---- how much may go (section 8.1)

-- Whether the peer's address isn't validated and one more datagram of the current size would come
-- to more than three times the bytes that came: 64 bits hold three times these. Of what an end
-- counts nothing else is read before a datagram goes.
abbrev pub is_blocked : End → Heard → Bool
is_blocked e h = not e.path.validated && nat_lt (saturated (3 * h.received)) (h.sent + current_mtu e.path)

-- the end that reads whether it is so
abbrev pub with_blocked : End → Bool → End
with_blocked e blocked = record e { path = record e.path { blocked = blocked } }

-- ---- what is asked, and answered (section 8.2)

-- the eight bytes by which a word is told
abbrev pub token_of : ℕ → List ℕ
token_of word = to_be_bytes w64 word

-- and the word that eight bytes tell
abbrev pub word_of : List ℕ → ℕ
word_of token = from_be_bytes w64 token

-- whether PATH_CHALLENGE or PATH_RESPONSE waits
abbrev pub path_waits : End → Bool
path_waits e = is_some e.waiting.signals.challenge || is_some e.waiting.signals.response

-- PATH_CHALLENGE came with this token, in the packet that opened last: it is to be answered, unless
-- a newer packet's is
abbrev pub path_asked : List ℕ → End → End
path_asked token e = with_signals e (record e.waiting.signals { response = newest e.waiting.signals.response (record { packet = e.numbers.present; token = word_of token }) })

-- the peer answered the latest challenge: its address is validated, and nothing is asked of it any
-- more (section 8.2.3)
abbrev pub path_validated : End → End
path_validated e = record e {
  path = record e.path { validated = true };
  validation = record e.validation { challenge = None };
  waiting = record e.waiting { signals = record e.waiting.signals { challenge = None } };
  timers = with_path_timer e.timers None;
}

-- so it is where the answer is right
abbrev pub validated_if : Bool → End → End
validated_if true e = path_validated e
validated_if false e = e

-- PATH_RESPONSE came with this token: an answer to any challenge but the latest does nothing
abbrev pub path_answered : List ℕ → End → End
path_answered token e = validated_if (is_asked e.validation.challenge (word_of token)) e

-- what is asked of the peer, and which challenge of it waits to be sent
pub record Asked : Type 0 where
  pub validation : Validation
  pub waits : Option ℕ

-- that of an end
abbrev pub asked_of : End → Asked
asked_of e = record { validation = e.validation; waits = e.waiting.signals.challenge }

-- the end that asks so
abbrev pub with_asked : End → Asked → End
with_asked e asked = record e { validation = asked.validation; waiting = record e.waiting { signals = record e.waiting.signals { challenge = asked.waits } } }

-- the most challenges that an end makes: 64 bits count them
abbrev pub most_challenges : ℕ
most_challenges = 2 ^ 64 - 1

-- the peer is asked to answer the next word of the random source, unless no more challenges are
-- made
abbrev pub challenged_anew : (ℕ → ℕ) → Bool → End → End
challenged_anew words true e = challenged (words (words_drawn e)) e
challenged_anew words false e = record e { timers = with_path_timer e.timers None }

-- the timer of path validation expired or not: the peer is asked anew then (section 8.2.4)
abbrev pub path_expired : (ℕ → ℕ) → Bool → End → End
path_expired words true e = challenged_anew words (nat_lt e.validation.drawn most_challenges) e
path_expired words false e = e

-- ---- their frames

-- PATH_CHALLENGE went
abbrev pub challenge_sent : End → End
challenge_sent e = with_signals e (record e.waiting.signals { challenge = None })

-- PATH_RESPONSE went
abbrev pub response_sent : End → End
response_sent e = with_signals e (record e.waiting.signals { response = None })

-- how many bytes a datagram with one of them has at least, so that the path is known to carry as
-- many (sections 8.2.1 and 8.2.2)
abbrev pub path_frames_size : ℕ
path_frames_size = 1200

-- the frame that asks for this word
abbrev pub challenge_frame : ℕ → FrameValue
challenge_frame word = path_challenge (token_of word)

-- and the one that answers a challenge
abbrev pub response_frame : Response → FrameValue
response_frame r = path_response (token_of r.token)
