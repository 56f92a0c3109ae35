-- Each message that waits at an end fits in a datagram, whichever number it has, where no probe of
-- losses waits: a longer one is refused (RFC 9221, section 5.4).
use Rattle.std.proofs.Common.{◌≡◌, ℕ, ◌+◌, ◌-◌, ◌<◌, ◌≤◌, ◌^◌, min, cond, Bool, true, false, ◌==◌, List, [], ◌∷◌, length, Option, Some, None, Ok, Err, refl, sym, ap, ◌∙◌, subst, arith}
use Rattle.std.specs.Prelude.{if◌then◌else◌, nat_le, nat_lt, is_some, is_ok, unwrap_or}
use Rattle.std.specs.List.{filter}
use Rattle.std.proofs.lemmas.Bool.{leb-true, ltb-false, le-leb}
use Rattle.quic_wire.specs.Value.{datagram}
use Rattle.quic_wire.proofs.FrameRange.{size_most}
use Rattle.quic_messages.specs.declared.errors.SendDatagramError.TheVariants.{Blocked}
use Rattle.quic_messages.specs.Messages.{frame_bytes, fitting, is_taken, is_within}
use Rattle.quic_messages.specs.Sending.{max_size, sized_answer}
use Rattle.quic_machine.specs.declared.run.Call.{Call}
use Rattle.quic_machine.specs.declared.run.Answer.{Answer}
use Rattle.quic_machine.specs.Opens.{own_id_length}
use Rattle.quic_machine.specs.End.{End, with_discovery, with_closing}
use Rattle.quic_machine.specs.Parts.{current_mtu}
use Rattle.quic_machine.specs.DraftLaws.{HasRoom}
use Rattle.quic_machine.specs.Poll.{least_room, message_waits, polled}
use Rattle.quic_headline.specs.Runs.{In, Intake}
use Rattle.quic_parameters.specs.Parameters.{ParameterValues}
use Rattle.quic_config.specs.declared.mtu_discovery.TheConstants.{MAX_UDP_PAYLOAD}
use Rattle.quic_congestion.specs.Search.{Discovery}
use Rattle.quic_streams_parts.specs.Table.{Table}
use Rattle.quic_machine.specs.declared.run.Call.TheVariants as calls
use Rattle.quic_machine.specs.Policy.{Policy}
use Rattle.quic_machine.specs.Tracking.{TrackedPacket}
use Rattle.quic_machine.specs.Sizes.{is_resized, after_lost, search_acked, search_lost, shortened, without_longer_if}
use Rattle.quic_machine.specs.MessageCalls.{most_message}
use Rattle.quic_machine.specs.Machine.{after_call}
use Rattle.quic_machine.specs.LeaveCases.{by_event}
use Rattle.quic_machine.specs.CallCases.{is_delivery, by_call, by_done}
use Rattle.quic_machine.specs.Closing.{ticked}
use Rattle.quic_headline.proofs.Packets.Apart.{by_waits}
use Rattle.quic_congestion.specs.SearchBounds.{IsSized}
use Rattle.quic_congestion.proofs.SizedSearch.{sized_acked, sized_polled}
use Rattle.quic_headline.proofs.Packets.Sizes.{Sizing, sizing, Searching, sized_lost, same_size, expired_size, polled_search}
use Rattle.quic_wire.specs.Value.{FrameValue}
use Rattle.quic_headline.proofs.Packets.Delivered.{frames_at, among_at}
use Rattle.quic_headline.proofs.Packets.Ids.{SaysIds, IsLong, AnyNumber, KnownLong}
use Rattle.quic_headline.proofs.Packets.Widths.{next_same, arrivals_size}
use Rattle.quic_headline.proofs.Packets.Stays.{placed_call}
use Rattle.quic_headline.proofs.Packets.Searches.{unprobed_most}
use Rattle.quic_headline.proofs.Packets.Group.{PacketsHold, meets}
use Rattle.quic_headline.proofs.Places.Coming.{by_coming}
use Rattle.quic_headline.proofs.Places.Parties.{Party, called, came_to}
use Rattle.quic_headline.proofs.Places.Groups.{Way, Calls, Group}
use Rattle.quic_headline.proofs.Channel.Messages.{AreTaken, TakesSized, not_longer, message_call_leaves, poll_leaves}

-- ---- how long messages are

-- the most bytes of a message that goes to an id of eight bytes in a datagram of so many
abbrev pub longest : ℕ → ℕ
longest size = size - own_id_length - 30

-- how long a message may be at an end; where the peer takes none, none is longer than 0
abbrev pub bound : Sizing → ℕ
bound s = unwrap_or (max_size s.frame s.discovery.size s.width) 0

-- a longer one is refused
sized_bound : (o : Option ℕ) (room : Bool) (m : List ℕ) → is_ok (sized_answer o room m) ≡ true → is_taken (Some (unwrap_or o 0)) m ≡ true
sized_bound None room m ok = cc
sized_bound (Some most) room m ok =
    let short = ltb-false most (length m) (not_longer (nat_lt most (length m)) (if room then Ok tt else Err Blocked) ok) in
    le-leb (length m) most short

-- it grows with the size
pub bound_grows : (frame less more id : ℕ) → less ≤ more → unwrap_or (max_size frame less id) 0 ≤ unwrap_or (max_size frame more id) 0
bound_grows frame less more id l = go (frame == 0)
  where
    go : (b : Bool) → unwrap_or (if b then None else Some (min (frame - 9) (less - id - 30))) 0 ≤ unwrap_or (if b then None else Some (min (frame - 9) (more - id - 30))) 0
    go true = omega arith
    go false = omega arith

-- where the peer takes none, whatever the size
bound_none : (frame size other id : ℕ) → max_size frame size id ≡ None → unwrap_or (max_size frame other id) 0 ≤ 0
bound_none frame size other id is = go (frame == 0) is
  where
    go : (b : Bool) → (if b then None else Some (min (frame - 9) (size - id - 30))) ≡ None → unwrap_or (if b then None else Some (min (frame - 9) (other - id - 30))) 0 ≤ 0
    go true none = omega arith
    go false none = cc

-- one that goes to an id of eight bytes fits
bound_short : (frame size id : ℕ) → id ≡ own_id_length → unwrap_or (max_size frame size id) 0 ≤ longest size
bound_short frame size id eight = go (frame == 0)
  where
    go : (b : Bool) → unwrap_or (if b then None else Some (min (frame - 9) (size - id - 30))) 0 ≤ longest size
    go true = omega arith
    go false = omega arith

-- messages may be as long where they may be longer
pub longer_taken : (less more : ℕ) (ms : List (List ℕ)) → less ≤ more → AreTaken (Some less) ms → AreTaken (Some more) ms
longer_taken less more [] l t = t
longer_taken less more (m ∷ ms) l t = (le-leb (length m) more (let short = leb-true (length m) less t.0 in omega arith), longer_taken less more ms l t.1)

-- those that are left where longer ones are dropped
dropped_taken : (most : ℕ) (ms : List (List ℕ)) → AreTaken (Some most) (filter (is_within most) ms)
dropped_taken most [] = tt
dropped_taken most (m ∷ ms) = go (nat_le (length m) most) refl (dropped_taken most ms)
  where
    go : (b : Bool) → nat_le (length m) most ≡ b → AreTaken (Some most) (filter (is_within most) ms) → AreTaken (Some most) (cond b (m ∷ filter (is_within most) ms) (filter (is_within most) ms))
    go true is rest = (is, rest)
    go false is rest = rest

-- the frame of one that isn't has nine bytes more at most
frame_short : (size : ℕ) (m : List ℕ) → size < 2 ^ 16 → length m ≤ longest size → frame_bytes m ≤ length m + 9
frame_short size m sized short = let most = size_most (datagram m) (omega arith, tt) in omega arith

-- so one that waits fits, where no probe of losses does, for which a datagram may be shorter
pub short_waits : (e : End) (message : List ℕ) → e.tracking.probes ≡ 0 → HasRoom e → length e.ids.peer.id ≡ own_id_length → AreTaken (Some (longest (current_mtu e.path))) e.messages.queues.outgoing → In message e.messages.queues.outgoing → message_waits e ≡ true
short_waits e message none room eight all i = go e.messages.queues.outgoing all i
  where
    first_fits : (m : List ℕ) → is_taken (Some (longest (current_mtu e.path))) m ≡ true → nat_le (frame_bytes m) (least_room e) ≡ true
    first_fits m is =
        let short = leb-true (length m) (longest (current_mtu e.path)) is in
        let bytes = frame_short (current_mtu e.path) m room.2 short in
        let least = room.1 in
        let most = unprobed_most e none in
        le-leb (frame_bytes m) (least_room e) (omega arith)

    go : (ms : List (List ℕ)) → AreTaken (Some (longest (current_mtu e.path))) ms → In message ms → is_some (fitting (least_room e) ms) ≡ true
    go [] all i = absurd i
    go (m ∷ ms) all i = ap (λ (b : Bool). is_some (if b then Some m else None)) (first_fits m all.0)

-- ---- the group

-- the size of an end is lawful, and each message that waits is so short
record AreBounded (s : Sizing) : Type 0 where
  sized : IsSized 1200 MAX_UDP_PAYLOAD s.discovery
  short : AreTaken (Some (bound s)) s.outgoing

-- so it stays: an acknowledged packet lets the size grow, and where it falls longer messages are
-- dropped
searching : Searching AreBounded
searching = record {
  acks = λ p e i. (
      let grown = sized_acked 1200 MAX_UDP_PAYLOAD p.0 p.1.size e.path.discovery i.sized in
      record {
        sized = grown.0;
        short = longer_taken (bound (sizing e)) (bound (sizing (search_acked p e))) e.messages.queues.outgoing (bound_grows (sizing e).frame e.path.discovery.size (search_acked p e).path.discovery.size (length e.ids.peer.id) grown.1) i.short;
      });
  loses = losing;
}
  where
    losing : (lost : Table TrackedPacket) (e : End) → AreBounded (sizing e) → AreBounded (sizing (search_lost lost e))
    losing lost e i = go (is_resized e.path.discovery heard.path.discovery) refl
      where
        heard : End
        heard = with_discovery e (after_lost e.closing.clock lost e.path.discovery)

        sized : IsSized 1200 MAX_UDP_PAYLOAD heard.path.discovery
        sized = sized_lost 1200 MAX_UDP_PAYLOAD e.closing.clock lost e.path.discovery i.sized

        fell : (o : Option ℕ) → most_message heard ≡ o → AreBounded (sizing (without_longer_if o heard))
        fell None is = record {
          sized = sized;
          short = longer_taken (bound (sizing e)) (bound (sizing heard)) e.messages.queues.outgoing
              (let none = bound_none (sizing e).frame heard.path.discovery.size e.path.discovery.size (length e.ids.peer.id) is in omega arith) i.short;
        }
        fell (Some most) is = record {
          sized = sized;
          short = subst (λ (n : ℕ). AreTaken (Some n) (filter (is_within most) e.messages.queues.outgoing)) (ap (λ (o : Option ℕ). unwrap_or o 0) (sym is)) (dropped_taken most e.messages.queues.outgoing);
        }

        go : (b : Bool) → is_resized e.path.discovery heard.path.discovery ≡ b → AreBounded (sizing (shortened b heard))
        go true is = fell (most_message heard) refl
        go false is = record {
          sized = sized;
          short = longer_taken (bound (sizing e)) (bound (sizing heard)) e.messages.queues.outgoing
              (bound_grows (sizing e).frame e.path.discovery.size heard.path.discovery.size (length e.ids.peer.id) (let same = same_size e.path.discovery heard.path.discovery is in omega arith)) i.short;
        }

-- behind any call that is no delivery
bounded_call : (p : Policy) (e : End) (theirs : List (List ℕ)) (call : Call) (a : Answer) → is_delivery call ≡ false → KnownLong e.ids.peer → KnownLong (after_call p e theirs call a).ids.peer → AreBounded (sizing e) → AreBounded (sizing (after_call p e theirs call a))
bounded_call p e theirs (calls.Poll now) a apart k behind i = record {
  sized = polled_search (IsSized 1200 MAX_UDP_PAYLOAD) (sized_polled 1200 MAX_UDP_PAYLOAD) p e now i.sized;
  short = subst (λ (n : ℕ). AreTaken (Some n) f.messages.queues.outgoing) (sym same) (poll_leaves (Some (bound (sizing e))) p e now i.short);
}
  where
    f : End
    f = (polled p e now).end

    size : current_mtu f.path ≡ current_mtu e.path
    size = polled_search (λ (d : Discovery). d.size ≡ current_mtu e.path) (λ moment number d same. same) p e now refl

    same : bound (sizing f) ≡ bound (sizing e)
    same =
        ap (λ (n : ℕ). unwrap_or (max_size f.peer_params.max_datagram_frame_size n (length f.ids.peer.id)) 0) size
        ∙ ap (λ (x : ParameterValues). unwrap_or (max_size x.max_datagram_frame_size (current_mtu e.path) (length f.ids.peer.id)) 0) (placed_call p e theirs (calls.Poll now) a).peer
        ∙ ap (λ (n : ℕ). unwrap_or (max_size e.peer_params.max_datagram_frame_size (current_mtu e.path) n) 0) (behind.used ∙ sym k.used)
bounded_call p e theirs call a apart k behind i = by_call p e theirs (λ (x : End). AreBounded (sizing x)) call a (record {
  same = i;
  on_streams = λ on answer. i;
  on_messages = λ on answer. record { sized = i.sized; short = message_call_leaves (Some (bound (sizing e))) e taken i.short call a };
  pings = i;
  times = λ now expiry set. expired_size AreBounded searching p.words e now expiry i;
  closes = λ reason f now own. i;
  waits = λ now b set. by_waits (λ (x : End). AreBounded (sizing x)) b (with_closing e (ticked e.closing now)) i i;
  changes_id = λ uses answer. subst AreBounded (sym (next_same e a k)) i;
  says_handshake = λ says answer. by_done (λ (x : End). AreBounded (sizing x)) e a i i;
  polls = λ now set. cc;
  hears = λ arrival d set. cc;
  tells = λ asks. by_event e (λ (x : End). AreBounded (sizing x)) i i (λ was_told. i);
})
  where
    taken : TakesSized (Some (bound (sizing e))) e
    taken room m ok = sized_bound (most_message e) room m ok

-- each message that waits at x is so short
pub record AreShort (x y : Party) : Type 0 where
  pub short : AreTaken (Some (longest (current_mtu x.end.path))) x.end.messages.queues.outgoing
  pub bounded : AreTaken (Some (bound (sizing x.end))) x.end.messages.queues.outgoing

module _ (B : Way) (packets : (x y : Party) → B x y → PacketsHold x y) where
  short_on : (x y : Party) (call : Call) (a : Answer) → Calls B x y call a → AreShort x y → AreShort (called x y.given call a) y
  short_on x y call a c i =
      let f : End = after_call x.policy x.end y.given call a in
      let wide : length f.ids.peer.id ≡ own_id_length = (packets (called x y.given call a) y c.gives_behind).long.peer.used in
      record { short = longer_taken (bound (sizing f)) (longest (current_mtu f.path)) f.messages.queues.outgoing (bound_short (sizing f).frame (current_mtu f.path) (length f.ids.peer.id) wide) left.short; bounded = left.short }
    where
      p : PacketsHold x y
      p = packets x y c.gives

      before : AreBounded (sizing x.end)
      before = record { sized = p.sized; short = i.bounded }

      left : AreBounded (sizing (called x y.given call a).end)
      left = (by_coming x y a c.joined c.served (meets y x (packets y x c.takes)) (λ (e : End) (j : Intake). KnownLong e.ids.peer × AreBounded (sizing e)) call c.answer (record {
        apart = λ apart. (let known = (packets (called x y.given call a) y c.gives_behind).long.peer in (known, bounded_call x.policy x.end y.given call a apart p.long.peer known before));
        none = λ delivery is. (p.long.peer, before);
        comes = λ delivery is s among here. arrivals_size AreBounded searching x.end delivery.now s.number s.frames (frames_at here s.frames) (came_to x y) (among_at (λ (f : FrameValue). SaysIds IsLong AnyNumber f) tt here s.frames (λ f carried. (packets y x c.takes).tells s f among carried)) p.long.peer before;
      })).1

  pub short_group : Group B AreShort
  short_group = record {
    first = λ x y m there back. record { short = tt; bounded = tt };
    writer = λ x y call a c i back. short_on x y call a c i;
    reader = λ x y call a c there i. record { short = i.short; bounded = i.bounded };
    shows = λ x y here there b back i j. record { short = i.short; bounded = i.bounded };
  }
