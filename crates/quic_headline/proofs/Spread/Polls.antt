-- What a poll leaves of the pacer of an open end, in the words of a run's lists: it was asked or
-- wasn't, and what went took its tokens.
use Rattle.std.proofs.Common.{◌≡◌, ℕ, zero, suc, ◌+◌, ◌<◌, Bool, true, false, not, ◌||◌, ◌&&◌, List, [], ◌∷◌, ◌++◌, length, map, cond, replicate, Option, Some, None, refl, sym, ap, ◌∙◌, subst, arith}
use Rattle.std.specs.Prelude.{max, nat_lt, ◌==◌}
use Rattle.std.specs.List.{list_any}
use Rattle.std.specs.Option.{is_some}
use Rattle.std.proofs.lemmas.Bool.{and_from, and_left, and_right, or_from, or_right, or_parts, both_ways, leb-true, leb-false, ltb-true, lt-ltb, eq-eqb, ne_eqb, false_from_ne_true}
use Rattle.quic_wire_core.specs.declared.stream_id.Side.{Side}
use Rattle.quic_wire.specs.Value.{padding}
use Rattle.quic_time.specs.Rtt.{Rtt, best_rtt}
use Rattle.quic_config.specs.declared.mtu_discovery.TheConstants.{MAX_UDP_PAYLOAD}
use Rattle.quic_congestion.specs.SearchBounds.{IsSized}
use Rattle.quic_congestion.specs.Pacer.{Pacing, Ask, pacing_after}
use Rattle.quic_congestion.specs.Pacer as pacer
use Rattle.quic_messages.specs.Messages.{fitting}
use Rattle.quic_streams_state.specs.State.{Streams}
use Rattle.quic_streams_state.specs.Waiting.{is_empty, can_send_stream_data}
use Rattle.quic_machine.specs.declared.answers.State.{State}
use Rattle.quic_machine.specs.declared.answers.State.TheVariants as states
use Rattle.quic_machine.specs.declared.run.Call.TheVariants as calls
use Rattle.quic_machine.specs.declared.run.Answer.TheVariants as answers
use Rattle.quic_machine.specs.declared.run.View.{View}
use Rattle.quic_machine.specs.Policy.{Policy}
use Rattle.quic_machine.specs.Parts.{Path, current_mtu, signals_wait}
use Rattle.quic_machine.specs.Idle.{packet_given_leaves}
use Rattle.quic_machine.specs.End.{End, words_drawn, with_number_given, streams_at, closed_by}
use Rattle.quic_machine.specs.Control.{bytes_in_flight, is_window_full, pacer_asked}
use Rattle.quic_machine.specs.Sizes.{search_asked}
use Rattle.quic_machine.specs.Poll.{Polled, Draft, zeros_behind, asking, datagram_size, tracked, paid_if, after_given, least_room, message_waits, asks_to_go, whole, Ready, goes, draft_of, sends, polled_if, polled_in, polled, bounds}
use Rattle.quic_machine.specs.DraftLaws.{HasRoom, ordinary_within}
use Rattle.quic_machine.specs.PollCases.{ready_at, ready_leaves, may_leave_at, composes}
use Rattle.quic_machine.specs.Machine.{gave}
use Rattle.quic_headline.specs.Runs.{Run}
use Rattle.quic_headline.specs.Observer.{Sent, asks_of, watch}
use Rattle.quic_headline.specs.Polls.{seen_at, pacing_timer, bytes_flying}
use Rattle.quic_headline.specs.Queue.{waiting_messages}
use Rattle.quic_headline.specs.Waited.{is_ping, wants}
use Rattle.quic_headline.specs.Spread.{gone_at, ask_at, leaves_message, probes_size, is_paced, one_paced, asks_pacer, asked_if, charges, paces_by}
use Rattle.quic_machine.specs.declared.answers.LostReason.{LostReason}
use Rattle.quic_headline.proofs.Packets.Closes.{by_closes}
use Rattle.quic_headline.proofs.Packets.Invariant.{Acks}
use Rattle.quic_headline.proofs.Packets.Composed.{Spelling}
use Rattle.quic_headline.proofs.Packets.Going.{Bringing, spellable_next}
use Rattle.quic_headline.proofs.Packets.Flying.{asking_padded}
use Rattle.quic_headline.proofs.Packets.Probes.{by_going}
use Rattle.quic_headline.proofs.Places.Parties.{given_in, sent_as, sent_by, sent_if}
use Rattle.quic_headline.proofs.Steps.Probes.{begun}
use Rattle.quic_headline.proofs.Steps.Probing.{IsProbing, probe_size}
use Rattle.quic_headline.proofs.Steps.Sized.{IsOrdinary, leaving_size}
use Rattle.quic_headline.proofs.Sizes.Apart.{IsApart, named_apart}
use Rattle.quic_headline.proofs.Waited.Pings.{idle_unpinged}
use Rattle.quic_headline.proofs.Spread.Pings.{whole_pinged}
use Rattle.quic_headline.proofs.Spread.Left.{message_left}
use Rattle.quic_headline.proofs.Spread.Gates.{ask, IsReadied, held, passes, full, free, limited, readied, asked_at}

-- What is known of an end behind the first so many answers, by what the lists say of it.
pub record Knows (r : Run) (side : Side) (i : ℕ) (e : End) : Type 0 where
  pub probes : (watch r side i).flight.probes ≡ e.tracking.probes
  pub rtt : (watch r side i).flight.rtt ≡ e.path.rtt
  pub clock : (watch r side i).clock ≡ e.closing.clock
  pub flying : bytes_flying r side i ≡ bytes_in_flight e
  pub messages : waiting_messages r side i ≡ e.messages.queues.outgoing
  -- PING waits where it was asked for, and only then, or where a probe waited in vain; and a probe
  -- of a size is longer than the current one
  pub asked : (wants r side i).pinged ≡ true → e.waiting.signals.ping ≡ true
  pub waits : e.waiting.signals.ping ≡ true → ((wants r side i).pinged || (wants r side i).probed) ≡ true
  pub sized : IsSized 1200 MAX_UDP_PAYLOAD e.path.discovery
  pub apart : IsApart e.path.discovery
  pub size : (seen_at r side i).current_mtu ≡ current_mtu e.path
  pub window : (seen_at r side i).window ≡ e.path.window

-- what a pacer is asked with, by the round trip, the size, the window and the clock of its end
abbrev with_these : ℕ → Rtt → ℕ → ℕ → ℕ → Ask
with_these now rtt size window clock = record { rtt = max (best_rtt rtt) 1; bytes = size; size = size; window = window; moment = max clock now }

-- it is asked so
pub asked_alike : (r : Run) (side : Side) (i : ℕ) (e : End) (now : ℕ) → Knows r side i e → ask_at r side i now ≡ ask e now
asked_alike r side i e now k =
    ap (λ (x : Rtt). with_these now x (seen_at r side i).current_mtu (seen_at r side i).window (watch r side i).clock) k.rtt
    ∙ ap (λ (n : ℕ). with_these now e.path.rtt n (seen_at r side i).window (watch r side i).clock) k.size
    ∙ ap (λ (n : ℕ). with_these now e.path.rtt (current_mtu e.path) n (watch r side i).clock) k.window
    ∙ ap (λ (n : ℕ). with_these now e.path.rtt (current_mtu e.path) e.path.window n) k.clock

-- ---- tokens

-- a pacer that is asked or isn't, and from which tokens are taken then
in_turn : (b : Bool) (a : Ask) (cs : List pacer.Call) (p : Pacing) → pacing_after (asked_if b a ++ cs) p ≡ pacing_after cs (pacing_after (asked_if b a) p)
in_turn true a cs p = refl
in_turn false a cs p = refl

-- a datagram that went took its own
charged : (p : Policy) (d : Draft) (s : Sent) → asks_of s ≡ asking d.frames → s.size ≡ datagram_size d → (after_given p d).path.pacing ≡ pacing_after (charges (s ∷ [])) d.end.path.pacing
charged p d s asks size =
    ap (λ (z : End). z.path.pacing) (packet_given_leaves (asking d.frames) (paid_if (asking d.frames) x (datagram_size d)))
    ∙ ap (λ (b : Bool). (paid_if b x (datagram_size d)).path.pacing) (sym asks)
    ∙ ap (λ (n : ℕ). (paid_if (asks_of s) x n).path.pacing) (sym size)
    ∙ go (asks_of s)
  where
    x : End
    x = with_number_given (p.words (words_drawn d.end)) (tracked d)

    go : (b : Bool) → (paid_if b x s.size).path.pacing ≡ pacing_after (map (λ (u : Sent). pacer.went u.size) (cond b (s ∷ []) [])) d.end.path.pacing
    go true = refl
    go false = refl

-- ---- a poll

module _ (K : Streams → Type 0) (spelling : Spelling K) (bringing : Bringing K) (r : Run) (side : Side) (i : ℕ) (v : View) (p : Policy) (e : End) (now : ℕ) (k : Knows r side i e) (acks : Acks e.acknowledging e.marks.came)
    (short : HasRoom e) (streams : (moment : ℕ) → K (streams_at (ready_at e moment).end)) (fits : e.tracking.probes ≡ 0 → 0 < length e.messages.queues.outgoing → message_waits e ≡ true) where
  abbrev g : Ready
  g = ready_at e now

  -- what goes of it, if something does
  abbrev s : Sent
  s = sent_as e now (draft_of g)

  -- so it is sent where the end is open, and its numbers and its key last
  sent_is : e.closing.state ≡ states.Open → bounds p g.end ≡ None → sent_by p e now ≡ s
  sent_is opened lasts =
      ap (λ (state : State). sent_as e now (given_in state (bounds p e) p e now)) opened
      ∙ ap (λ (o : Option LostReason). sent_as e now (given_in states.Open o p e now)) (sym (ap (λ (x : End). bounds p x) (ready_leaves e now)) ∙ lasts)

  -- the pacer behind the poll is this, by the lists
  abbrev Paced : Pacing → Type 0
  Paced q = q ≡ pacing_after (paces_by (calls.Poll now) r side i v) e.path.pacing

  -- it is, by whether it was asked, and what went
  settles : (b : Bool) (sents : List Sent) (q : Pacing) → asks_pacer (pacing_timer v side) r side i ≡ b → gone_at r side i ≡ sents → q ≡ pacing_after (charges sents) (pacing_after (asked_if b (ask e now)) e.path.pacing) → Paced q
  settles b sents q asked gone is =
      is
      ∙ sym (in_turn b (ask e now) (charges sents) e.path.pacing)
      ∙ ap (λ (ss : List Sent). pacing_after (asked_if b (ask e now) ++ charges ss) e.path.pacing) (sym gone)
      ∙ ap (λ (c : Bool). pacing_after (asked_if c (ask e now) ++ charges (gone_at r side i)) e.path.pacing) (sym asked)
      ∙ ap (λ (a : Ask). pacing_after (asked_if (asks_pacer (pacing_timer v side) r side i) a ++ charges (gone_at r side i)) e.path.pacing) (sym (asked_alike r side i e now k))

  -- ---- whether it was asked

  abbrev Asked : Bool → Type 0
  Asked b = asks_pacer (pacing_timer v side) r side i ≡ b

  when_set : (moment : ℕ) → pacing_timer v side ≡ Some (Some moment) → Asked true
  when_set moment set = ap (λ (o : Option (Option ℕ)). asks_pacer o r side i) set

  when_unset : (sents : List Sent) → pacing_timer v side ≡ Some None → gone_at r side i ≡ sents → asks_pacer (pacing_timer v side) r side i ≡ ((e.tracking.probes == 0) && one_paced sents r side i)
  when_unset sents unset gone =
      ap (λ (o : Option (Option ℕ)). asks_pacer o r side i) unset
      ∙ ap (λ (n : ℕ). (n == 0) && one_paced (gone_at r side i) r side i) k.probes
      ∙ ap (λ (ss : List Sent). (e.tracking.probes == 0) && one_paced ss r side i) gone

  when_none : pacing_timer v side ≡ Some None → gone_at r side i ≡ [] → Asked false
  when_none unset gone = when_unset [] unset gone ∙ and_right (e.tracking.probes == 0) false refl

  -- where one went
  only : (b : Bool) → is_paced (asks_of s) r side i s ≡ b → one_paced (s ∷ []) r side i ≡ b
  only true is = ap (λ (c : Bool). c || false) is
  only false is = ap (λ (c : Bool). c || false) is

  when_one : (b : Bool) → pacing_timer v side ≡ Some None → gone_at r side i ≡ s ∷ [] → e.tracking.probes ≡ 0 → is_paced (asks_of s) r side i s ≡ b → Asked b
  when_one b unset gone none is = when_unset (s ∷ []) unset gone ∙ ap (λ (c : Bool). c && one_paced (s ∷ []) r side i) (eq-eqb e.tracking.probes 0 none) ∙ only b is

  -- ---- what goes

  -- it asks as its draft does
  asks_alike : asks_of s ≡ asking (draft_of g).frames
  asks_alike = asking_padded (draft_of g).frames (zeros_behind (draft_of g))

  -- whether a message waits, and whether the window has room
  abbrev some_wait : Bool
  some_wait = nat_lt 0 (length (waiting_messages r side i))

  abbrev has_space : Bool
  has_space = nat_lt (bytes_flying r side i + (seen_at r side i).current_mtu) (seen_at r side i).window

  -- a message that waits has room in the window, unless it is full
  room_is : is_window_full e ≡ false → has_space ≡ true
  room_is is =
      let less = leb-false e.path.window (bytes_in_flight e + current_mtu e.path) is in
      let flying = k.flying in
      let size = k.size in
      let window = k.window in
      lt-ltb (bytes_flying r side i + (seen_at r side i).current_mtu) (seen_at r side i).window (omega (arith, less, flying, size, window))

  room_none : is_window_full e ≡ true → leaves_message r side i ≡ false
  room_none is = and_right some_wait has_space (false_from_ne_true has_space (λ has.
      let less = ltb-true (bytes_flying r side i + (seen_at r side i).current_mtu) (seen_at r side i).window has in
      let most = leb-true e.path.window (bytes_in_flight e + current_mtu e.path) is in
      let flying = k.flying in
      let size = k.size in
      let window = k.window in
      omega (arith, less, most, flying, size, window)))

  -- where none waits, none is left
  none_left : e.tracking.probes ≡ 0 → message_waits e ≡ false → leaves_message r side i ≡ false
  none_left unprobed none = and_left some_wait has_space (false_from_ne_true some_wait (λ has.
      let some = ltb-true 0 (length (waiting_messages r side i)) has in
      both_ways (message_waits e) none (fits unprobed (subst (λ (ms : List (List ℕ)). 0 < length ms) k.messages some))))

  -- ---- by how the end was made ready

  -- what goes with leave has at most the current size
  whole_short : g ≡ record { leaving = whole; end = pacer_asked (asked_at e now) } → nat_lt (seen_at r side i).current_mtu s.size ≡ false
  whole_short is = false_from_ne_true (nat_lt (seen_at r side i).current_mtu s.size) (λ long.
      let over = ltb-true (seen_at r side i).current_mtu s.size long in
      let most = leaving_size e now short (spellable_next K spelling bringing e acks short streams now (ap goes is)) (subst IsOrdinary (sym (ap (λ (x : Ready). x.leaving) is)) tt) in
      let within = ordinary_within e in
      let size = k.size in
      omega (arith, over, most, within, size))

  -- where it goes with leave, its pacer was asked
  pass_one : gone_at r side i ≡ s ∷ [] → is_window_full e ≡ false → asks_to_go (asked_at e now) ≡ true → g ≡ record { leaving = whole; end = pacer_asked (asked_at e now) } → (b : Bool) → asks_of s ≡ b → is_paced b r side i s ≡ true
  pass_one gone room asks is true loud = ap not (go (list_any is_ping s.frames) refl)
    where
      longer : Bool
      longer = nat_lt (seen_at r side i).current_mtu s.size

      by_asked : (c : Bool) → (wants r side i).pinged ≡ c → e.waiting.signals.ping ≡ true → (not (wants r side i).pinged && (not (wants r side i).probed || longer)) ≡ false
      by_asked true on waited = and_left (not (wants r side i).pinged) (not (wants r side i).probed || longer) (ap not on)
      by_asked false off waited =
          let probed : (wants r side i).probed ≡ true = ap (λ (c : Bool). c || (wants r side i).probed) (sym off) ∙ k.waits waited in
          and_right (not (wants r side i).pinged) (not (wants r side i).probed || longer) (or_from (not (wants r side i).probed) longer (ap not probed) (whole_short is))

      go : (c : Bool) → list_any is_ping s.frames ≡ c → probes_size r side i s ≡ false
      go true has = and_right (list_any is_ping s.frames) (not (wants r side i).pinged && (not (wants r side i).probed || longer)) (by_asked (wants r side i).pinged refl (whole_pinged (pacer_asked (asked_at e now)) (zeros_behind (draft_of (record { leaving = whole; end = pacer_asked (asked_at e now) })))
          (subst (λ (x : Ready). list_any is_ping ((draft_of x).frames ++ replicate (zeros_behind (draft_of x)) padding) ≡ true) is has)))
      go false none = and_left (list_any is_ping s.frames) (not (wants r side i).pinged && (not (wants r side i).probed || longer)) none
  pass_one gone room asks is false quiet =
      let silent : asking (draft_of (record { leaving = whole; end = pacer_asked (asked_at e now) })).frames ≡ false = sym (ap (λ (x : Ready). asking (draft_of x).frames) is) ∙ sym asks_alike ∙ quiet in
      let waits : message_waits e ≡ true = message_left K spelling bringing (pacer_asked (asked_at e now)) (record { runs = acks.runs; small = acks.small; counts = acks.counts }) short (subst (λ (x : Ready). K (streams_at x.end)) is (streams now)) asks silent in
      and_from some_wait has_space (lt-ltb 0 (length (waiting_messages r side i)) (subst (λ (ms : List (List ℕ)). 0 < length ms) (sym k.messages) (some e.messages.queues.outgoing waits))) (room_is room)
    where
      some : (ms : List (List ℕ)) → is_some (fitting (least_room e) ms) ≡ true → 0 < length ms
      some [] waits = cc
      some (m ∷ ms) waits = omega arith

  -- where neither was, what asks is a probe of a size
  free_one : e.tracking.probes ≡ 0 → asks_to_go (asked_at e now) ≡ false → (asking (draft_of g).frames ≡ true → IsProbing (begun e now) g) → (b : Bool) → asks_of s ≡ b → is_paced b r side i s ≡ false
  free_one none silent probes true loud =
      let q : IsProbing (begun e now) g = probes (sym asks_alike ∙ loud) in
      let has : list_any is_ping s.frames ≡ true = ap (λ (x : Ready). list_any is_ping ((draft_of x).frames ++ replicate (zeros_behind (draft_of x)) padding)) q.is in
      let unasked : (wants r side i).pinged ≡ false = false_from_ne_true (wants r side i).pinged (λ asked. both_ways e.waiting.signals.ping (idle_unpinged (begun e now) q.idle) (k.asked asked)) in
      let above = named_apart 1200 MAX_UDP_PAYLOAD (begun e now).closing.clock q.size e.path.discovery k.sized k.apart q.named in
      let size : s.size ≡ q.size = ap (λ (x : Ready). datagram_size (draft_of x)) q.is ∙ probe_size q.size (search_asked (begun e now)) short (omega (arith, above)) in
      let seen = k.size in
      let longer : nat_lt (seen_at r side i).current_mtu s.size ≡ true = lt-ltb (seen_at r side i).current_mtu s.size (omega (arith, above, size, seen)) in
      ap not (and_from (list_any is_ping s.frames) (not (wants r side i).pinged && (not (wants r side i).probed || nat_lt (seen_at r side i).current_mtu s.size)) has
      (and_from (not (wants r side i).pinged) (not (wants r side i).probed || nat_lt (seen_at r side i).current_mtu s.size) (ap not unasked) (or_right (not (wants r side i).probed) (nat_lt (seen_at r side i).current_mtu s.size) longer)))
  free_one none silent probes false quiet = none_left none (message_none (or_parts (signals_wait e.waiting.signals) (not (is_empty (asked_at e now).waiting.frames e.streams) || (message_waits e || can_send_stream_data e.streams)) silent).1)
    where
      message_none : (not (is_empty (asked_at e now).waiting.frames e.streams) || (message_waits e || can_send_stream_data e.streams)) ≡ false → message_waits e ≡ false
      message_none is = (or_parts (message_waits e) (can_send_stream_data e.streams) (or_parts (not (is_empty (asked_at e now).waiting.frames e.streams)) (message_waits e || can_send_stream_data e.streams) is).1).0

  -- ---- nothing goes

  nothing_paced : IsReadied e now g → goes g ≡ false → pacing_timer v side ≡ Some g.end.timers.pacing → gone_at r side i ≡ [] → Paced g.end.path.pacing
  nothing_paced (held moment named set pays quiet) none shown gone = settles true [] g.end.path.pacing (when_set moment (shown ∙ ap (λ (o : Option ℕ). Some o) set)) gone pays
  nothing_paced (passes named probes room asks is) none shown gone = absurd (both_ways (goes g) none (ap goes is))
  nothing_paced (full unset same probes is quiet) none shown gone = settles false [] g.end.path.pacing (when_none (shown ∙ ap (λ (o : Option ℕ). Some o) unset) gone) gone same
  nothing_paced (limited unset same still) none shown gone = settles false [] g.end.path.pacing (when_none (shown ∙ ap (λ (o : Option ℕ). Some o) unset) gone) gone same
  nothing_paced (free unset same probes) none shown gone = settles false [] g.end.path.pacing (when_none (shown ∙ ap (λ (o : Option ℕ). Some o) unset) gone) gone same

  -- ---- a datagram goes

  given_timer : (after_given p (draft_of g)).timers.pacing ≡ g.end.timers.pacing
  given_timer = by_going (λ (z : End). z.timers.pacing ≡ g.end.timers.pacing) p (draft_of g) (λ pacing. (composes g.leaving g.end (may_leave_at e now)).pacing)

  given_pacing : (b : Bool) → g.end.path.pacing ≡ pacing_after (asked_if b (ask e now)) e.path.pacing → (after_given p (draft_of g)).path.pacing ≡ pacing_after (charges (s ∷ [])) (pacing_after (asked_if b (ask e now)) e.path.pacing)
  given_pacing b is =
      charged p (draft_of g) s asks_alike refl
      ∙ ap (λ (x : Path). pacing_after (charges (s ∷ [])) x.pacing) (composes g.leaving g.end (may_leave_at e now)).path
      ∙ ap (λ (q : Pacing). pacing_after (charges (s ∷ [])) q) is

  given_paced : IsReadied e now g → goes g ≡ true → pacing_timer v side ≡ Some (after_given p (draft_of g)).timers.pacing → gone_at r side i ≡ s ∷ [] → Paced (after_given p (draft_of g)).path.pacing
  given_paced (held moment named set pays quiet) some shown gone =
      settles true (s ∷ []) (after_given p (draft_of g)).path.pacing (when_set moment (shown ∙ ap (λ (o : Option ℕ). Some o) (given_timer ∙ set))) gone (given_pacing true pays)
  given_paced (passes named probes room asks is) some shown gone =
      let unset : pacing_timer v side ≡ Some None = shown ∙ ap (λ (o : Option ℕ). Some o) (given_timer ∙ ap (λ (x : Ready). x.end.timers.pacing) is) in
      settles true (s ∷ []) (after_given p (draft_of g)).path.pacing (when_one true unset gone probes (pass_one gone room asks is (asks_of s) refl)) gone (given_pacing true (ap (λ (x : Ready). x.end.path.pacing) is))
  given_paced (full unset same probes is quiet) some shown gone =
      let still : pacing_timer v side ≡ Some None = shown ∙ ap (λ (o : Option ℕ). Some o) (given_timer ∙ unset) in
      let silent : asks_of s ≡ false = asks_alike ∙ quiet in
      settles false (s ∷ []) (after_given p (draft_of g)).path.pacing (when_one false still gone probes (ap (λ (b : Bool). is_paced b r side i s) silent ∙ room_none is)) gone (given_pacing false same)
  given_paced (limited unset same still) some shown gone = absurd (both_ways (goes g) still some)
  given_paced (free unset same probes) some shown gone =
      settles false (s ∷ []) (after_given p (draft_of g)).path.pacing (by_probes e.tracking.probes refl) gone (given_pacing false same)
    where
      still : pacing_timer v side ≡ Some None
      still = shown ∙ ap (λ (o : Option ℕ). Some o) (given_timer ∙ unset)

      by_probes : (n : ℕ) → e.tracking.probes ≡ n → Asked false
      by_probes zero none = when_one false still gone none (free_one none (probes none).0 (probes none).1 (asks_of s) refl)
      by_probes (suc n) some = when_unset (s ∷ []) still gone ∙ and_left (e.tracking.probes == 0) (one_paced (s ∷ []) r side i) (ne_eqb e.tracking.probes 0 (λ none. omega (arith, some, none)))

  -- ---- so behind a poll of an open end that leaves it open

  abbrev Behind : Polled → Type 0
  Behind q = q.end.closing.state ≡ states.Open → pacing_timer v side ≡ Some q.end.timers.pacing → gone_at r side i ≡ sent_if (gave (answers.Poll q.answer)) (sent_by p e now) → Paced q.end.path.pacing

  pub polled_spread : e.closing.state ≡ states.Open → Behind (polled p e now)
  polled_spread opened = subst (λ (state : State). Behind (polled_in state p e now)) (sym opened) (going_case (goes g) refl)
    where
      bound_case : goes g ≡ true → (o : Option LostReason) → bounds p g.end ≡ o → Behind (sends o p g)
      bound_case some None lasts = λ still shown gone. given_paced (readied e now acks) some shown (gone ∙ ap (λ (x : Sent). x ∷ []) (sent_is opened lasts))
      bound_case some (Some reason) bound = by_closes p (closed_by reason g.end) Behind (λ still shown gone. cc) (λ f goes still shown gone. cc)

      going_case : (b : Bool) → goes g ≡ b → Behind (polled_if b p g)
      going_case true some = bound_case some (bounds p g.end) refl
      going_case false none = λ still shown gone. nothing_paced (readied e now acks) none shown gone
