-- A poll that gives a datagram, and where it gives a probe of a size: PING and zeros alone, of the
-- size that the search names (RFC 8899, section 5.3).
use Rattle.std.proofs.Common.{◌≡◌, ◌⊎◌, inl, inr, ℕ, suc, ◌+◌, ◌-◌, ◌<◌, ◌≤◌, max, List, [], ◌∷◌, length, replicate, Bool, true, false, Some, None, Ok, refl, sym, ap, ◌∙◌, subst, arith, zero}
use Rattle.std.specs.Prelude.{Option, Result, ◌==◌, ◌&&◌, if◌then◌else◌, ◌||◌, not}
use Rattle.std.proofs.lemmas.Bool.{le-ltb, ltb-true, and_parts, both_ways, or_parts, not-true, not-false}
use Rattle.std.proofs.lemmas.List.{append_cancel_left, length-append, length-replicate}
use Rattle.quic_wire_core.specs.StreamId.{other_side}
use Rattle.quic_wire.specs.Value.{FrameValue, ping, connection_close, application_close}
use Rattle.quic_wire.specs.Writing.{spelling}
use Rattle.quic_config.specs.declared.mtu_discovery.TheConstants.{MAX_UDP_PAYLOAD}
use Rattle.quic_congestion.specs.Search.{search_bound, open_probe, poll_names}
use Rattle.quic_congestion.specs.SearchBounds.{IsSized}
use Rattle.quic_congestion.proofs.SizedSearch.{named_sized, named_bounded, named_opens, named_alone}
use Rattle.quic_recovery_core.specs.PendingAcks.{can_send}
use Rattle.quic_spaces.specs.Numbers.{cut_against, can_number}
use Rattle.quic_machine.specs.declared.answers.State.TheVariants as states
use Rattle.quic_machine.specs.declared.answers.Failed.{Failed}
use Rattle.quic_machine.specs.declared.answers.Transmit.{Transmit}
use Rattle.quic_machine.specs.declared.run.Call.TheVariants as calls
use Rattle.quic_machine.specs.declared.run.Answer.{Answer}
use Rattle.quic_machine.specs.declared.run.Answer.TheVariants as answers
use Rattle.quic_machine.specs.declared.run.EndView.{EndView}
use Rattle.quic_machine.specs.Policy.{Policy}
use Rattle.quic_machine.specs.Parts.{current_mtu, signals_wait}
use Rattle.quic_machine.specs.Closing.{Closing, ticked}
use Rattle.quic_machine.specs.End.{End, number_of, with_closing, closed_by, with_frames}
use Rattle.quic_machine.specs.Control.{bytes_in_flight, pacer_asked, with_pacing_timer, Gated, lets, holds}
use Rattle.quic_machine.specs.Sizes.{has_window, may_search, search_names, search_asked}
use Rattle.quic_machine.specs.Poll.{waits, Polled, Draft, most_ordinary, probing, asking, number_width, overhead, zeros_behind, datagram_size, after_given, probe_if, probed, asks_to_go, probe, Ready, leaves, leaves_unless, goes, draft_as, draft_of, close_to_go, after_close, polled, datagram_of, mark_of, message_waits, request_queued, asks_anew}
use Rattle.quic_machine.specs.Poll as poll
use Rattle.quic_machine.specs.Machine.{World, end_at, control_at, given_by, policy_at, gave as gave_one}
use Rattle.quic_machine.specs.DraftLaws.{IsClose, HasRoom, ordinary_within, width_few}
use Rattle.quic_machine.specs.PollCases.{ready_at, draft_at, frames_padded, ready_leaves, may_leave_at, composes, by_gate, by_leaves, bounds_none}
use Rattle.quic_headline.specs.Runs.{Run, LeadsTo}
use Rattle.std.specs.List.{list_any}
use Rattle.quic_headline.specs.Observer.{Sent, asks_of, is_close, Watch, watch, sents_until}
use Rattle.quic_headline.specs.Headline.{IsHonest, IsRun}
use Rattle.quic_headline.specs.Polls.{bytes_on, bytes_flying, search_at, seen_of, seen_at, IsMade, GaveOne, IsSearched, IsSizeProbe}
use Rattle.quic_headline.specs.Waited.{IsCloseAlone}
use Rattle.quic_headline.proofs.Packets.Probes.{by_going}
use Rattle.quic_headline.proofs.Packets.Flying.{asking_padded}
use Rattle.quic_headline.proofs.Packets.Sends.{GivesClose, by_sends}
use Rattle.quic_headline.proofs.Packets.CloseForms.{OwesWell, close_well, bound_well}
use Rattle.quic_headline.proofs.Packets.Searches.{ready_size, room_stays}
use Rattle.quic_headline.proofs.Packets.Group.{PacketsHold, has_room}
use Rattle.quic_headline.proofs.Packets.Sight.{Sight}
use Rattle.quic_headline.proofs.Places.Parties.{sent_as, sent_if, sent_by, Party, watch_of, called, with_shown, shown_at}
use Rattle.quic_headline.proofs.Places.Groups.{Way, Nothing, And, Group}
use Rattle.quic_headline.proofs.Places.Moments.{last_seen}
use Rattle.quic_headline.proofs.Places.Placed.{party_at}
use Rattle.quic_headline.proofs.Places.Steps.{poll_answer}
use Rattle.quic_headline.proofs.Held.Flight.{bytes_of_end}
use Rattle.quic_headline.proofs.Steps.Made.{made_served, made_end, one_behind, served_before, polling, PollHolds, poll_holds, observed_poll, sents_more}
use Rattle.quic_headline.proofs.Steps.Probes.{begun}
use Rattle.quic_streams_state.specs.Waiting.{is_empty, can_send_stream_data, any_goes}
use Rattle.quic_headline.proofs.Held.Silent.{may_not_go, ready_whole}
use Rattle.quic_wire_core.specs.declared.stream_id.Side.{Side}
use Rattle.quic_retransmits.specs.Retransmits.{control_kinds}

-- ---- a poll that gives a datagram

-- It comes of an open end, of which something goes, which is left so.
pub record IsGiving (p : Policy) (e : End) (now : ℕ) (t : Transmit) (f : End) (s : Sent) : Type 0 where
  pub opened : e.closing.state ≡ states.Open
  pub may : can_number e.numbers ≡ true
  pub some : goes (ready_at e now) ≡ true
  pub size : t.size ≡ length (datagram_of p (draft_at e now))
  pub left : f ≡ after_given p (draft_at e now)
  pub sent : s ≡ sent_as e now (draft_at e now)

-- Or it is the close of an end that closes, or is closing.
pub record IsClosing (p : Policy) (e : End) (now : ℕ) (t : Transmit) (s : Sent) : Type 0 where
  pub closed : End
  pub close : FrameValue
  pub may : close_to_go p closed ≡ Some close
  pub owes : OwesWell closed
  pub room : HasRoom closed
  pub mtu : current_mtu closed.path ≡ current_mtu e.path
  pub size : t.size ≡ length (datagram_of p (draft_as (poll.closing close) closed))
  pub sent : s ≡ sent_as e now (draft_as (poll.closing close) closed)

-- two polls that are answered alike
pub same_answer : (a b : Result (Option Transmit) Failed) → answers.Poll a ≡ answers.Poll b → b ≡ a
same_answer a b is = cc

-- two datagrams that are answered alike have one size
same_bytes : (a b : Transmit) → ◌≡◌ {A = Result (Option Transmit) Failed} (Ok (Some a)) (Ok (Some b)) → b.size ≡ a.size
same_bytes a b is = let same : a ≡ b = cc in ap (λ (t : Transmit). t.size) (sym same)

-- one in a list of one
only_one : (s t : Sent) → s ∷ [] ≡ t ∷ [] → t ≡ s
only_one s t is = cc

-- a poll that is answered so gives one
pub giving : (p : Policy) (e : End) (now : ℕ) (t : Transmit) (s : Sent) → HasRoom e → OwesWell e → (polled p e now).answer ≡ Ok (Some t) → sent_by p e now ≡ s → IsGiving p e now t (polled p e now).end s ⊎ IsClosing p e now t s
giving p e now t s room owes is same = by_sends p e now Of (record {
  silent = λ none went. cc;
  failed = λ none went. cc;
  repeats = λ state. closed (with_closing e (ticked e.closing now)) refl refl refl owes;
  nothing = λ opened none is went. cc;
  closes = λ reason opened bound. closed (closed_by reason (ready_at e now).end) (ready_size e now) (ap (λ (x : End). x.ids) (ready_leaves e now)) (ap (λ (x : End). x.transport) (ready_leaves e now)) (bound_well p e (ready_at e now).end reason bound);
  gives = λ opened bound some gave went. inl (record {
    opened = opened;
    may = (bounds_none p e bound).0;
    some = some;
    size = same_bytes (record { size = length (datagram_of p (draft_at e now)); ecn = mark_of (after_given p (draft_at e now)).path.marking; remote = (after_given p (draft_at e now)).path.remote }) t gave;
    left = refl;
    sent = only_one (sent_as e now (draft_at e now)) s went;
  });
}) is (ap (λ (a : Result (Option Transmit) Failed). sent_if (gave_one (answers.Poll a)) (sent_by p e now)) is ∙ ap (λ (x : Sent). x ∷ []) same)
  where
    Of : Polled → List Sent → Type 0
    Of q ss = q.answer ≡ Ok (Some t) → ss ≡ s ∷ [] → IsGiving p e now t q.end s ⊎ IsClosing p e now t s

    closed : (x : End) → current_mtu x.path ≡ current_mtu e.path → x.ids ≡ e.ids → x.transport ≡ e.transport → OwesWell x → GivesClose p e now Of x
    closed x mtu ids settings due = (
      λ none went. cc,
      λ f may gave went. inr (record {
        closed = x;
        close = f;
        may = may;
        owes = due;
        room = room_stays e x ids mtu settings room;
        mtu = mtu;
        size = same_bytes (record { size = length (datagram_of p (draft_as (poll.closing f) x)); ecn = mark_of (after_close p (draft_as (poll.closing f) x)).path.marking; remote = (after_close p (draft_as (poll.closing f) x)).path.remote }) t gave;
        sent = only_one (sent_as e now (draft_as (poll.closing f) x)) s went;
      }),
    )

-- a close doesn't ask for an acknowledgement
close_silent : (f : FrameValue) → IsClose f → asking (f ∷ []) ≡ false
close_silent (connection_close c) is = refl
close_silent (application_close c) is = refl
close_silent f is = absurd is

pub closing_silent : (p : Policy) (e : End) (now : ℕ) (t : Transmit) (s : Sent) → IsClosing p e now t s → asks_of s ≡ false
closing_silent p e now t s c =
    let d : Draft = draft_as (poll.closing c.close) c.closed in
    ap (λ (x : Sent). asks_of x) c.sent
    ∙ asking_padded d.frames (zeros_behind d)
    ∙ close_silent c.close (close_well p c.closed c.owes c.room c.close c.may).well.is

-- it is a close
is_closing : (f : FrameValue) → IsClose f → is_close f ≡ true
is_closing (connection_close c) is = refl
is_closing (application_close c) is = refl
is_closing f is = absurd is

pub closing_alone : (p : Policy) (e : End) (now : ℕ) (t : Transmit) (s : Sent) → IsClosing p e now t s → IsCloseAlone s
closing_alone p e now t s c = record {
  close = c.close;
  is = is_closing c.close (close_well p c.closed c.owes c.room c.close c.may).well.is;
  zeros = zeros_behind (draft_as (poll.closing c.close) c.closed);
  alone = ap (λ (x : Sent). x.frames) c.sent;
}

-- it takes a moment over, and stays open
pub given_closing : (p : Policy) (e : End) (now : ℕ) → (after_given p (draft_at e now)).closing ≡ ticked e.closing now
given_closing p e now = by_going (λ (x : End). x.closing ≡ ticked e.closing now) p (draft_at e now)
    (λ pacing. (composes (ready_at e now).leaving (ready_at e now).end (may_leave_at e now)).closing ∙ ap (λ (x : End). x.closing) (ready_leaves e now))

-- ---- a probe of a size

-- PING goes of an end alone, as a probe of the size that its search names, since nothing waits.
pub record IsProbing (e : End) (g : Ready) : Type 0 where
  pub size : ℕ
  pub is : g ≡ record { leaving = probe size; end = search_asked e }
  pub idle : waits e ≡ false
  pub may : may_search e ≡ true
  pub named : search_names e ≡ Some size

-- where no probe waits, nothing changes for one
pub unprobed : (e : End) → e.tracking.probes ≡ 0 → probed e ≡ e
unprobed e none = ap (λ (b : Bool). probe_if b e) (le-ltb 0 e.tracking.probes (omega arith))

-- where nothing waits, the peer isn't to be asked
pub unasked : (e : End) → waits (request_queued e) ≡ false → request_queued e ≡ e
unasked e none = ap (λ (b : Bool). with_frames e (record e.waiting.frames { ack_frequency = b })) (off ∙ sym (or_parts (asks_anew e.transport.ack_frequency_config e) e.waiting.frames.ack_frequency off).1)
  where
    x : End
    x = request_queued e

    quiet : (not (is_empty x.waiting.frames x.streams) || (message_waits x || can_send_stream_data x.streams)) ≡ false
    quiet = (or_parts (signals_wait x.waiting.signals) _ (or_parts (can_send x.acknowledging) (asks_to_go x) none).1).1

    off : x.waiting.frames.ack_frequency ≡ false
    off = (or_parts (list_any (λ kind. any_goes kind x.waiting.frames x.streams) control_kinds) x.waiting.frames.ack_frequency (not-true _ (not-false (is_empty x.waiting.frames x.streams) (or_parts (not (is_empty x.waiting.frames x.streams)) _ quiet).0))).1

-- one goes only where no probe of losses waits, for which all goes that waits
pub probe_unprobed : (e : End) (now size : ℕ) → (ready_at e now).leaving ≡ probe size → e.tracking.probes ≡ 0
probe_unprobed e now size is = go e.tracking.probes refl e.path.blocked refl
  where
    go : (n : ℕ) → e.tracking.probes ≡ n → (b : Bool) → e.path.blocked ≡ b → e.tracking.probes ≡ 0
    go zero none b reads = none
    go (suc n) some true blocked = (let clash : poll.nothing false ≡ probe size = sym (ap (λ (g : Ready). g.leaving) (may_not_go e now blocked)) ∙ is in cc)
    go (suc n) some false free = (let clash : poll.whole ≡ probe size = sym (ap (λ (g : Ready). g.leaving) (ready_whole e now (omega arith) free)) ∙ is in cc)

-- and where nothing waits
pub probe_goes : (e : End) (now size : ℕ) → (ready_at e now).leaving ≡ probe size → IsProbing (begun e now) (ready_at e now)
probe_goes e now size is =
    subst (λ (z : End). IsProbing z (ready_at e now)) (unasked (begun e now) (subst (λ (z : End). waits (request_queued z) ≡ false) none found.idle)) (subst (λ (z : End). IsProbing (request_queued z) (ready_at e now)) none found)
  where
    y : End
    y = request_queued (probed (begun e now))

    Goes : Ready → Type 0
    Goes g = g.leaving ≡ probe size → IsProbing y g

    waiting : (x : End) → asks_to_go x ≡ true → waits x ≡ false → ⊥
    waiting x asks none = both_ways (asks_to_go x) (or_parts (can_send x.acknowledging) (asks_to_go x) none).1 asks

    alone_goes : (x : End) → Goes (leaves (holds x))
    alone_goes x = by_leaves (holds x) Goes (record { acks = λ held due is. cc; held = λ held none is. cc; all = λ free some. cc; idle = λ free none. cc; asked = λ free none. cc; probes = λ n free none. cc })

    reached : (b : Bool) → Goes (leaves_unless b y)
    reached true = λ is. cc
    reached false = by_gate y (λ (g : Gated). Goes (leaves g)) (record {
      free = λ gate. by_leaves (lets y) Goes (record {
        acks = λ held. cc;
        held = λ held. cc;
        all = λ free some is. cc;
        idle = λ free none is. cc;
        asked = λ free none is. cc;
        probes = λ n free idle may named is. record { size = n; is = refl; idle = idle; may = may; named = named };
      });
      full = λ gate full. alone_goes y;
      lets = λ gate room until. by_leaves (lets (pacer_asked y)) Goes (record {
        acks = λ held. cc;
        held = λ held. cc;
        all = λ free some is. cc;
        idle = λ free none is. cc;
        asked = λ free none is. cc;
        probes = λ n free idle may named is. absurd (waiting (pacer_asked y) (and_parts (asks_to_go y) (y.tracking.probes == 0) gate).0 idle);
      });
      holds = λ moment gate room until. alone_goes (with_pacing_timer (pacer_asked y) (Some moment));
    })

    found : IsProbing y (ready_at e now)
    found = reached y.path.blocked is

    none : probed (begun e now) ≡ begun e now
    none = unprobed (begun e now) (probe_unprobed e now size is)

-- a probe of a size has that size
pub probe_size : (size : ℕ) (e : End) → HasRoom e → current_mtu e.path ≤ size → datagram_size (probing size e) ≡ size
probe_size size e room above =
    let long = length-append (spelling ping) (replicate (zeros_behind d) 0) in
    let zeros : length (replicate {A = ℕ} (zeros_behind d) 0) ≡ zeros_behind d = length-replicate (zeros_behind d) 0 in
    let full = filled e.transport.pad_to_mtu in
    omega arith
  where
    d : Draft
    d = probing size e

    filled : (pads : Bool) → max (4 - (number_width d + length d.bytes)) ((if pads && asking d.frames then max size (most_ordinary e) else size) - (overhead d + length d.bytes)) + (overhead d + length d.bytes) ≡ size
    filled true = let width = width_few (number_of e - cut_against e.numbers) in let short = room.0 in let enough = room.1 in let most = ordinary_within e in omega arith
    filled false = let width = width_few (number_of e - cut_against e.numbers) in let short = room.0 in let enough = room.1 in omega arith

-- ---- what a poll gave

module _ (H : Way) (g : Group Nothing (And (And PacketsHold H) Sight)) (r : Run) (end : World) (honest : IsHonest r) (run : IsRun r end) where
  module _ (side : Side) (i now : ℕ) (gave : GaveOne r side i now) (w next : World) (m : IsMade r i side (calls.Poll now) (answers.Poll (Ok (Some gave.transmit))) w next) where
    abbrev pub answer : Answer
    answer = answers.Poll (Ok (Some gave.transmit))

    pub h : PollHolds (And (And PacketsHold H) Sight) r i side now answer w
    h = poll_holds (And (And PacketsHold H) Sight) g r end honest run i side now answer w next m

    abbrev pub x : Party
    x = polling r i w side h.sents

    abbrev pub y : Party
    y = party_at r i w (other_side side) h.theirs

    abbrev pub p : Policy
    p = policy_at side r.keys

    abbrev pub e : End
    e = with_shown (end_at side w) (shown_at side w)

    pub said : answer ≡ answers.Poll (polled p e now).answer
    said = poll_answer p e now answer m.step.answer (made_served r i side (calls.Poll now) answer w next m)

    -- it went as the end says
    pub went : gave.sent ∷ [] ≡ sent_by p e now ∷ []
    went = append_cancel_left (sents_until r side i) (gave.sent ∷ []) (sent_by p e now ∷ []) (sym gave.went ∙ sents_more r i side now answer w (observed_poll H r i side now answer w h))

    pub same : sent_by p e now ≡ gave.sent
    same = only_one gave.sent (sent_by p e now) went

    pub room : HasRoom e
    room = has_room x y h.gives.0.0

    pub sized : IsSized 1200 MAX_UDP_PAYLOAD e.path.discovery
    sized = h.gives.0.0.sized

    -- what is seen of the end is what it is
    pub seen : seen_at r side i ≡ seen_of side w
    seen = last_seen side r.keys i r.start w r.events r.answers r.views m.leads

    pub left : end_at side next ≡ (polled p e now).end
    left = made_end r i side (calls.Poll now) answer w next m

    -- an open end composed the datagram, or it is a close
    pub either : IsGiving p e now gave.transmit (polled p e now).end gave.sent ⊎ IsClosing p e now gave.transmit gave.sent
    either = giving p e now gave.transmit gave.sent room h.gives.0.0.due (same_answer (Ok (Some gave.transmit)) (polled p e now).answer said) same

    -- it isn't, where it asks
    pub asking_gives : asks_of gave.sent ≡ true → IsGiving p e now gave.transmit (polled p e now).end gave.sent
    asking_gives asks = elim either [
      | inl gives ↦ gives
      | inr close ↦ absurd (both_ways (asks_of gave.sent) (closing_silent p e now gave.transmit gave.sent close) asks)
    ]

    module _ (gives : IsGiving p e now gave.transmit (polled p e now).end gave.sent) where
      -- the observer counts the bytes in flight as the end does
      pub flight : bytes_in_flight e ≡ bytes_flying r side i
      flight =
          bytes_of_end e (watch_of x y).route.generation (watch_of x y).flight.flying h.gives.1.watched.path (h.gives.1.watched.flight gives.opened).tells.waits
          ∙ ap (λ (v : Watch). bytes_on v.route.generation v.flight.flying) (sym h.seen)

      -- and the probes that wait
      pub probes : (watch r side i).flight.probes ≡ e.tracking.probes
      probes = ap (λ (v : Watch). v.flight.probes) h.seen ∙ (h.gives.1.watched.flight gives.opened).probes

      -- ---- a probe of a size

      -- the clock of the observer behind the poll is that of the end
      pub clock : (watch r side (suc i)).clock ≡ max e.closing.clock now
      clock =
          ap (λ (v : Watch). v.clock) h.seen_behind
          ∙ (h.behind.1.watched.flight still).tells.clock
          ∙ ap (λ (c : Closing). c.clock) closes
        where
          closes : (polled p e now).end.closing ≡ ticked e.closing now
          closes = ap (λ (x : End). x.closing) gives.left ∙ given_closing p e now

          still : (called x (given_by (other_side side) w) (calls.Poll now) answer).end.closing.state ≡ states.Open
          still = ap (λ (c : Closing). c.state) closes ∙ gives.opened

      module _ (q : IsProbing (begun e now) (ready_at e now)) (leads : LeadsTo r (suc i) next) where
        abbrev d : Draft
        d = probing q.size (search_asked (begun e now))

        names : ((search_at side w).size ≤ q.size) × (q.size ≤ MAX_UDP_PAYLOAD)
        names = named_sized 1200 MAX_UDP_PAYLOAD e.path.discovery (begun e now).closing.clock q.size sized q.named

        parts : (e.path.validated ≡ true) × (has_window (search_bound e.path.discovery) (begun e now) ≡ true)
        parts = and_parts e.path.validated (has_window (search_bound e.path.discovery) (begun e now)) q.may

        looks : (o : Option ℕ) → search_bound e.path.discovery ≡ o → has_window o (begun e now) ≡ true → (bound : ℕ) × (search_bound e.path.discovery ≡ Some bound) × (bytes_in_flight e + bound < e.path.window)
        looks None is has = cc
        looks (Some bound) is has = (bound, is, ltb-true (bytes_in_flight e + bound) e.path.window has)

        looked : (bound : ℕ) × (search_bound e.path.discovery ≡ Some bound) × (bytes_in_flight e + bound < e.path.window)
        looked = looks (search_bound e.path.discovery) refl parts.1

        size : gave.sent.size ≡ q.size
        size = ap (λ (s : Sent). s.size) gives.sent ∙ ap (λ (g : Ready). datagram_size (draft_of g)) q.is ∙ probe_size q.size (search_asked (begun e now)) room names.0

        below : gave.sent.size ≤ looked.0
        below = subst (λ (n : ℕ). n ≤ looked.0) (sym size) (named_bounded 1200 MAX_UDP_PAYLOAD e.path.discovery (begun e now).closing.clock q.size looked.0 sized q.named looked.1)

        roomy : bytes_flying r side i + looked.0 < control_at side w []
        roomy = subst (λ (n : ℕ). n + looked.0 < control_at side w []) flight looked.2

        -- the search looks for it
        searched : IsSearched r side i w next gave.sent
        searched = record {
          named = ap (λ (n : ℕ). poll_names n e.path.discovery) clock ∙ q.named ∙ ap (λ (n : ℕ). Some n) (sym size);
          none_open = named_alone (begun e now).closing.clock q.size e.path.discovery q.named;
          opened =
              ap (λ (z : End). open_probe z.path.discovery) (left ∙ gives.left)
              ∙ ap (λ (g : Ready). open_probe (after_given p (draft_of g)).path.discovery) q.is
              ∙ by_going (λ (z : End). open_probe z.path.discovery ≡ Some (number_of e)) p d (λ pacing. named_opens (begun e now).closing.clock (number_of e) q.size e.path.discovery q.named)
              ∙ ap (λ (s : Sent). Some s.number) same;
          bound = looked.0;
          is_bound = looked.1;
          below = below;
          idle = q.idle;
          room = roomy;
        }

        -- and so it is wherever the run leads there
        pub is_probe : IsSizeProbe r side i gave.sent
        is_probe = record {
          zeros = zeros_behind d;
          alone = ap (λ (s : Sent). s.frames) gives.sent ∙ ap (λ (g : Ready). frames_padded (draft_of g)) q.is;
          above = subst (λ (u : EndView). u.current_mtu ≤ gave.sent.size) (sym seen) (let size_is = size in let above = names.0 in omega arith);
          validated = ap (λ (u : EndView). u.validated) seen ∙ parts.0;
          room = subst (λ (u : EndView). bytes_flying r side i + gave.sent.size < u.window) (sym seen) (let few = below in let left_over = roomy in omega arith);
          searched = λ v n before behind.
              subst (λ (x : World). IsSearched r side i x n gave.sent) (one_behind r i w v (served_before r.answers i gave.served) m.leads before)
              (subst (λ (x : World). IsSearched r side i w x gave.sent) (one_behind r (suc i) next n gave.served leads behind) searched);
        }
