-- Parts of an end: each has its place, so that a new field moves no other.
use Rattle.std.specs.Prelude.{ℕ, Bool, true, false, ◌||◌, not, List, Option, None}
use Rattle.std.specs.Option.{is_some}
use Rattle.quic_wire_core.specs.declared.shared.IssuedCid.{IssuedCid}
use Rattle.quic_time.specs.Rtt.{Rtt, best_rtt}
use Rattle.quic_config.specs.Transport.{TransportSettings, first_mtu, first_estimate, first_behind_sample}
use Rattle.quic_congestion.specs.Pacer.{Pacing, new_pacing}
use Rattle.quic_congestion.specs.Search.{Discovery, first_discovery, after_limit}
use Rattle.quic_retransmits.specs.Retransmits as retransmits
use Rattle.quic_messages.specs.Messages.{Messages, no_messages}
use Rattle.quic_paths.specs.Responses.{Response}
use Rattle.quic_spaces.specs.Marks.{Counts, none_marked}

-- by what an end finds that its peer receives at its address (RFC 9000, section 8.2): the word of
-- the latest PATH_CHALLENGE, until it is answered; and how many words of its random source the
-- challenges took
pub record Validation : Type 0 where
  pub challenge : Option ℕ
  pub drawn : ℕ

-- nothing was asked
abbrev pub no_validation : Validation
no_validation = record { challenge = None; drawn = 0 }

-- whether the handshake is confirmed (RFC 9001, section 4.1.2): at a server, whose application said
-- that it is done, and at a client, to which HANDSHAKE_DONE came; and whether a client's
-- application has still to be told
pub record Confirmation : Type 0 where
  pub confirmed : Bool
  pub to_tell : Bool

-- nobody said so
abbrev pub unconfirmed : Confirmation
unconfirmed = record { confirmed = false; to_tell = false }

-- a server's application said so
abbrev pub said_done : Confirmation
said_done = record { confirmed = true; to_tell = false }

-- HANDSHAKE_DONE came: the application is to be told of the first
abbrev pub heard_done : Confirmation → Confirmation
heard_done c = record { confirmed = true; to_tell = c.to_tell || not c.confirmed }

-- the application was told
abbrev pub done_told : Confirmation → Confirmation
done_told c = record c { to_tell = false }

-- the path to the peer
pub record Path : Type 0 where
  -- where the peer is (RFC 9000, section 9)
  pub remote : ℕ
  -- whether the peer's address is validated (RFC 9000, section 8), which path of the connection it
  -- is (section 9), and how many bytes a datagram has at most that it takes, with the search for
  -- more (section 14)
  pub validated : Bool
  pub generation : ℕ
  pub discovery : Discovery
  -- whether the last poll found that the peer's address isn't validated, and that one more datagram
  -- would come to more than three times what came (section 8.1)
  pub blocked : Bool
  -- how long a round trip takes (RFC 9002, section 5), and which number was next when one was first
  -- measured (section 7.6.2)
  pub rtt : Rtt
  pub first_after_rtt : Option ℕ
  -- how many bytes may be in flight, as its controller showed at the last poll (section 7), and how
  -- sending is spread (section 7.7)
  pub window : ℕ
  pub pacing : Pacing
  -- whether the last poll gave nothing though neither window nor pacer held anything back (section
  -- 7.8)
  pub app_limited : Bool
  -- whether datagrams are marked ECT(0), so that routers can tell of congestion (RFC 9000, section
  -- 13.4)
  pub marking : Bool

-- the window with which a controller begins, and the one that it shows when it is made
pub record Windows : Type 0 where
  pub initial : ℕ
  pub present : ℕ

-- the first path, to an address that is validated or not, made at a moment by these settings to a
-- peer that takes so many bytes in a datagram, with a controller that shows these windows
abbrev pub first_path : ℕ → Bool → TransportSettings → ℕ → Windows → ℕ → Path
first_path remote validated settings limit windows now = record {
  remote = remote;
  validated = validated;
  generation = 0;
  discovery = after_limit limit (first_discovery true None settings);
  blocked = false;
  rtt = first_estimate settings;
  first_after_rtt = first_behind_sample settings;
  window = windows.present;
  pacing = new_pacing (best_rtt (first_estimate settings)) windows.initial (first_mtu settings) now;
  app_limited = false;
  marking = true;
}

-- how many bytes a datagram on a path has at most
abbrev pub current_mtu : Path → ℕ
current_mtu p = p.discovery.size

-- the marks of congestion (RFC 9000, section 13.4): how many packets came with each, and how many
-- the peer said last
pub record Marks : Type 0 where
  pub came : Counts
  pub told : Counts

-- no packet came with a mark, and the peer told of none
abbrev pub no_marks : Marks
no_marks = record { came = none_marked; told = none_marked }

-- messages that wait to be sent and those that came and weren't read (RFC 9221), and how often the
-- application has still to be told that one came while none was unread
pub record Messaging : Type 0 where
  pub queues : Messages
  pub to_tell : ℕ

-- no message waits, and none came
abbrev pub no_messaging : Messaging
no_messaging = record { queues = no_messages; to_tell = 0 }

-- the same, where other messages wait
abbrev pub with_queues : Messaging → Messages → Messaging
with_queues m queues = record m { queues = queues }

-- frames that ask for an acknowledgement and that no packet's record has: each goes once, and not
-- again where it is lost. The word of a PATH_CHALLENGE that waits, and the answer that waits to one
-- of the peer's (RFC 9000, section 8.2); whether PING waits (section 19.2); and whether
-- IMMEDIATE_ACK does (QUIC Acknowledgement Frequency, section 5)
pub record Signals : Type 0 where
  pub challenge : Option ℕ
  pub response : Option Response
  pub ping : Bool
  pub immediate : Bool

-- none of them waits
abbrev pub no_signals : Signals
no_signals = record { challenge = None; response = None; ping = false; immediate = false }

-- whether one of them waits
abbrev pub signals_wait : Signals → Bool
signals_wait s = is_some s.challenge || (is_some s.response || (s.ping || s.immediate))

-- which of them wait to be sent, and what waits beside the bytes of streams (RFC 9000, section
-- 13.3)
pub record Waiting : Type 0 where
  pub signals : Signals
  pub frames : retransmits.Retransmits

-- ids that were issued wait to be told (section 19.15), and nothing else waits
abbrev pub ids_wait : List IssuedCid → Waiting
ids_wait cids = record { signals = no_signals; frames = record retransmits.nothing_waits { new_cids = cids } }

-- nothing waits
abbrev pub nothing_waits : Waiting
nothing_waits = record { signals = no_signals; frames = retransmits.nothing_waits }
