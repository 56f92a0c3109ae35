-- So each datagram carries something that waited, at each place of an honest run.
use Rattle.std.proofs.Common.{◌≡◌, ℕ, ◌≤◌, zero, suc, Bool, true, false, ◌||◌, List, [], ◌∷◌, replicate, Some, Ok, refl, sym, ap, ◌∙◌, subst, ◌⊎◌, inl, inr, arith}
use Rattle.std.specs.Prelude.{nat_lt}
use Rattle.std.specs.List.{list_any}
use Rattle.std.proofs.lemmas.Bool.{or_left, or_right, or_cases, both_ways, lt-ltb}
use Rattle.quic_wire_core.specs.declared.stream_id.Side.{Side}
use Rattle.quic_wire_core.specs.StreamId.{other_side}
use Rattle.quic_wire.specs.Value.{FrameValue, padding, ping, stream, handshake_done, max_data, max_streams, data_blocked, path_challenge, path_response, immediate_ack, ack_frequency}
use Rattle.quic_streams_state.specs.declared.state.StreamsState.{StreamsState}
use Rattle.quic_machine.specs.declared.run.Call.TheVariants as calls
use Rattle.quic_machine.specs.declared.run.Answer.{Answer}
use Rattle.quic_machine.specs.declared.run.Answer.TheVariants as answers
use Rattle.quic_machine.specs.Parts.{Waiting}
use Rattle.quic_machine.specs.End.{End, streams_at}
use Rattle.quic_machine.specs.Poll.{asking, zeros_behind, whole, alone, probe, nothing, Leaving, goes_as, goes, draft_as, polled, closing, request_queued, asks_anew}
use Rattle.quic_machine.specs.DraftLaws.{HasRoom}
use Rattle.quic_machine.specs.PollCases.{ready_at, draft_at, frames_at, may_leave_at, ready_closes_not}
use Rattle.quic_machine.specs.Machine.{World, policy_at, end_at}
use Rattle.quic_headline.specs.Runs.{Run, In, was_said_done}
use Rattle.quic_headline.specs.Observer.{Sent, HoldsOffset, HoldsEnd, asks_of, Watch}
use Rattle.quic_headline.specs.Headline.{IsHonest, IsRun}
use Rattle.quic_headline.specs.Moments.{is_ack, acknowledges}
use Rattle.quic_headline.specs.Polls.{GaveOne}
use Rattle.quic_headline.specs.Waited.{count_silent, may_come, stands, Wants, wants, FrameWaited, HasWaited, as_size_probe, as_loss_probe, as_ack, as_frames, as_close, EachWaited}
use Rattle.quic_headline.specs.InFlight.{is_max_streams, is_ack_frequency}
use Rattle.quic_headline.specs.Requests.{Asking, asking_at, count_requests, wants_anew}
use Rattle.quic_headline.proofs.Packets.Acked.{acks}
use Rattle.quic_headline.proofs.Packets.Flying.{asking_padded}
use Rattle.quic_headline.proofs.Packets.Group.{PacketsHold}
use Rattle.quic_headline.proofs.Packets.Searches.{ready_room}
use Rattle.quic_headline.proofs.Packets.Probes.{ready_acks, ready_state}
use Rattle.quic_headline.proofs.Places.Told.{in_append}
use Rattle.quic_headline.proofs.Places.Parties.{sent_as, Party, watch_of, with_shown, shown_at}
use Rattle.quic_headline.proofs.Places.Groups.{Way, Nothing, And, Group, both, beside, over}
use Rattle.quic_headline.proofs.Places.Placed.{party_at}
use Rattle.quic_headline.proofs.Places.Together.{Spells}
use Rattle.quic_headline.proofs.Places.Everything as everything
use Rattle.quic_headline.proofs.Places.Theorems.{ready}
use Rattle.quic_headline.proofs.Halves.Ready.{Ready}
use Rattle.quic_headline.proofs.Halves.Ghosts.{wrote}
use Rattle.quic_headline.proofs.Halves.Joined.{streams_spell}
use Rattle.quic_headline.proofs.Timers.Watched.{Observed}
use Rattle.quic_headline.proofs.Timers.AckMoments.{any_padded}
use Rattle.quic_headline.proofs.Steps.Made.{MadeAt, made_at, polling, PollHolds, poll_holds}
use Rattle.quic_headline.proofs.Steps.Probing.{IsGiving, closing_alone, probe_goes}
use Rattle.quic_headline.proofs.Steps.Probing as probing
use Rattle.quic_headline.proofs.Settled.Words.{Settling}
use Rattle.quic_headline.proofs.Settled.Carried.{known_of}
use Rattle.quic_headline.proofs.Settled.Group.{Open, told_so}
use Rattle.quic_headline.proofs.Settled.Clause.{Held, held}
use Rattle.quic_headline.proofs.Waited.Flags.{Flag, confirmed, all, counts, blocked, challenge, response, says, flag, draft_said, asked_flag}
use Rattle.quic_headline.proofs.Waited.Pings.{ready_still}
use Rattle.quic_headline.proofs.Waited.Drafts.{IsUrged, silent_acks, Brings, whole_brings}
use Rattle.quic_headline.specs.AcksDue.{Haste}
use Rattle.quic_headline.proofs.AcksDue.Group.{haste_of}
use Rattle.quic_headline.proofs.Waited.Group.{IsWanted, wants_of, wants_watch, wants_done}
use Rattle.quic_headline.proofs.Waited.Urged.{is_wanted, Wished, wished_group}
use Rattle.quic_headline.proofs.Steps.Probes.{begun}
use Rattle.quic_headline.proofs.Duties.Carrier.{any_is}
use Rattle.quic_headline.proofs.Requests.Asks.{by_of, is_anew, anew_is, anew_known}
use Rattle.quic_headline.proofs.Requests.Drafts.{Has, has_none, has_one, draft_has, count_any}
use Rattle.quic_headline.proofs.Requests.Group.{Counted, counted_group}

-- ---- frames

-- PADDING alone
pub in_padding : (f : FrameValue) (count : ℕ) → In f (replicate count padding) → f ≡ padding
in_padding f zero i = absurd i
in_padding f (suc count) (inl is) = is
in_padding f (suc count) (inr more) = in_padding f count more

module _ (q : Asking) (w : Wants) (e : End) (i : IsWanted w e) where
  -- what waits wasn't said since
  unsaid : (k : Flag) → flag k e.waiting ≡ true → stands (says k) w.since ≡ false
  unsaid k waits = go (stands (says k) w.since) refl
    where
      go : (b : Bool) → stands (says k) w.since ≡ b → b ≡ false
      go true is = absurd (both_ways (flag k e.waiting) (i.gone k is) waits)
      go false is = refl

  -- ACK_FREQUENCY didn't go since, or the peer is to be asked anew
  abbrev Asked : Type 0
  Asked = (stands is_ack_frequency w.since ≡ false) ⊎ (wants_anew q w.watch.own w.watch.flight ≡ true)

  -- so it is where that waits
  asks_or_none : is_anew (by_of e) ≡ wants_anew q w.watch.own w.watch.flight → (is_anew (by_of e) ≡ true) ⊎ (e.waiting.frames.ack_frequency ≡ true) → Asked
  asks_or_none known (inl anew) = inr (sym known ∙ anew)
  asks_or_none known (inr waits) = go (stands is_ack_frequency w.since) refl
    where
      go : (b : Bool) → stands is_ack_frequency w.since ≡ b → Asked
      go true is = inr (sym known ∙ i.asked is waits)
      go false is = inl is

  -- so a frame waited that brings something, and says what waits, HANDSHAKE_DONE where it was said
  -- so
  frame_waited : (f : FrameValue) → Brings w.watch.flight.acked e f → ((k : Flag) → says k f ≡ true → flag k e.waiting ≡ true) → (is_ack_frequency f ≡ true → Asked) → (e.waiting.frames.handshake_done ≡ true → w.done ≡ true) → FrameWaited q w f
  frame_waited ping brings waits asks done = i.pinged brings
  frame_waited immediate_ack brings waits asks done = i.hastened brings
  frame_waited (stream f) brings waits asks done = brings
  frame_waited handshake_done brings waits asks done = (done (waits confirmed refl), unsaid confirmed (waits confirmed refl))
  frame_waited (max_data limit) brings waits asks done = unsaid all (waits all refl)
  frame_waited (max_streams f) brings waits asks done = unsaid (counts f.one_way) (waits (counts f.one_way) (same f.one_way))
    where
      same : (b : Bool) → is_max_streams b (max_streams (record { one_way = b; count = f.count })) ≡ true
      same true = refl
      same false = refl
  frame_waited (data_blocked limit) brings waits asks done = unsaid blocked (waits blocked refl)
  frame_waited (path_challenge token) brings waits asks done = unsaid challenge (waits challenge refl)
  frame_waited (path_response token) brings waits asks done = unsaid response (waits response refl)
  frame_waited (ack_frequency f) brings waits asks done = asks refl
  frame_waited f brings waits asks done = tt

  -- and an ACK frame is wanted where one is due, or many came that don't ask
  ack_wanted : (h : Haste) → (e.acknowledging.due ≡ true → is_wanted h w ≡ true) → IsUrged e.acknowledging → is_wanted h w ≡ true
  ack_wanted h urged (inl due) = urged due
  ack_wanted h urged (inr many) = (
      let most = i.silent in
      or_right h.due (w.marked || nat_lt may_come (count_silent w.packets)) (or_right w.marked (nat_lt may_come (count_silent w.packets)) (lt-ltb may_come (count_silent w.packets) (omega arith))))

-- ---- the clause

-- all that is known of the packets and the streams, what was acknowledged, what is wanted, and how
-- often the peer was asked how to acknowledge
abbrev Known : Way
Known = And Held (And Wished Counted)

known : Group Nothing Known
known = both Nothing Held (And Wished Counted) held (beside (And Nothing Held) Wished Counted (over Observed (And Nothing Held) Wished (λ x y h. (h.1.0.0.0, h.1.0.1)) wished_group) (over PacketsHold (And Nothing Held) Counted (λ x y h. h.1.0.0.0) counted_group))

-- what is known of the streams
abbrev Streams : Way
Streams = everything.Streams Ready ready

spells : Spells Streams
spells = streams_spell (everything.Rest Ready ready) (everything.goes Ready ready)

module _ (r : Run) (end : World) (honest : IsHonest r) (run : IsRun r end) (side : Side) (i now : ℕ) (gave : GaveOne r side i now) where
  abbrev answer : Answer
  answer = answers.Poll (Ok (Some gave.transmit))

  at : MadeAt r i side (calls.Poll now) answer
  at = made_at Known known r end honest run i side (calls.Poll now) answer gave.poll gave.served

  abbrev w : World
  w = at.before

  h : PollHolds Known r i side now answer w
  h = poll_holds Known known r end honest run i side now answer w at.behind at.made

  abbrev x : Party
  x = polling r i w side h.sents

  abbrev y : Party
  y = party_at r i w (other_side side) h.theirs

  abbrev e : End
  e = with_shown (end_at side w) (shown_at side w)

  -- an open end composed it, or it is a close
  module _ (gives : IsGiving (policy_at side r.keys) e now gave.transmit (polled (policy_at side r.keys) e now).end gave.sent) where
    same : sent_as e now (draft_at e now) ≡ gave.sent
    same = sym gives.sent

    -- what is wanted of the run is what is wanted of its end
    wants_is : wants r side i ≡ wants_of x y
    wants_is = refl

    wanted : IsWanted (wants r side i) e
    wanted = subst (λ (v : Wants). IsWanted v e) (sym wants_is) (h.gives.1.0.0.1.wanted gives.opened)

    -- the end that is ready
    abbrev z : End
    z = (ready_at e now).end

    short : HasRoom z
    short = ready_room e now (probing.room Streams (everything.all Ready ready) r end honest run side i now gave w at.behind at.made)

    streams_known : spells.known (streams_at z)
    streams_known = spells.holds x y h.gives.0.0.0.0 h.gives.0.0.0.1 now

    -- ---- one that doesn't ask

    ask_alike : asks_of gave.sent ≡ asking (draft_at e now).frames
    ask_alike = ap (λ (s : Sent). asks_of s) (sym same) ∙ asking_padded (draft_at e now).frames _

    quiet : asks_of gave.sent ≡ false → HasWaited r side i gave.sent
    quiet none =
        let found = silent_acks spells.known spells.spelling spells.bringing e now gives.some short streams_known (sym ask_alike ∙ none) in
        as_ack none
        (ap (λ (s : Sent). acknowledges (s ∷ [])) (sym same) ∙ or_left (list_any is_ack (frames_at e now)) false (any_padded (draft_at e now).frames _ ∙ found.0))
        (ack_wanted (asking_at r side) (wants r side i) e wanted (haste_of x y) (h.gives.1.0.1.due gives.opened) (subst IsUrged (ready_acks e now) found.1))

    -- ---- one that asks

    -- what was acknowledged of it, its observer knows
    acks_are : (wants r side i).watch.flight.acked ≡ acks x y
    acks_are = ap (λ (v : Wants). v.watch.flight.acked) wants_is ∙ ap (λ (v : Watch). v.flight.acked) (wants_watch x y)

    -- its observer finds when the peer is to be asked anew
    anew_seen : is_anew (by_of e) ≡ wants_anew (asking_at r side) (wants r side i).watch.own (wants r side i).watch.flight
    anew_seen =
        anew_known x.terms (watch_of x y).clock x.sents (watch_of x y).flight e (h.gives.0.0.1.watched.flight gives.opened).tells h.gives.1.1.next
        ∙ ap (λ (b : Asking). wants_anew b x.sents (watch_of x y).flight) h.gives.1.1.same
        ∙ ap (λ (ss : List Sent). wants_anew (asking_at r side) ss (watch_of x y).flight) (sym h.gives.0.0.1.own)
        ∙ ap (λ (v : Watch). wants_anew (asking_at r side) v.own v.flight) (sym (ap (λ (v : Wants). v.watch) wants_is ∙ wants_watch x y))

    -- where no probe of losses waits, each of its frames waited
    frames_waited : e.tracking.probes ≡ 0 → (ready_at e now).leaving ≡ whole → (f : FrameValue) → In f gave.sent.frames → FrameWaited (asking_at r side) (wants r side i) f
    frames_waited none is f among = elim (in_append f (draft_at e now).frames (replicate (zeros_behind (draft_at e now)) padding) (subst (λ (s : Sent). In f s.frames) (sym same) among)) [
      | inl here ↦ frame_waited (asking_at r side) (wants r side i) e wanted f (brings (ap (λ (v : Waiting). v.signals.ping) still) (ap (λ (v : Waiting). v.signals.immediate) still) here) (λ k said. (
          let waited : flag k z.waiting ≡ true = (draft_said z.waiting k (ready_at e now).leaving z (may_leave_at e now) refl).waited (any_is (says k) f (draft_at e now).frames here said) in
          sym (asked_flag k e.waiting _) ∙ ap (flag k) (sym still) ∙ waited)) (λ said. asks_or_none (asking_at r side) (wants r side i) e wanted anew_seen (asked_so (draft_has (ready_at e now).leaving z (may_leave_at e now)) (count_any (draft_at e now).frames (any_is is_ack_frequency f (draft_at e now).frames here said)))) (λ set. said_done (h.gives.1.1.only.waits.1 set))
      | inr behind ↦ subst (FrameWaited (asking_at r side) (wants r side i)) (sym (in_padding f (zeros_behind (draft_at e now)) behind)) tt
    ]
      where
        -- where it was said that the handshake is done, the observer knows that
        said_done : was_said_done x.told ≡ true → (wants r side i).done ≡ true
        said_done said = ap (λ (v : Wants). v.done) wants_is ∙ wants_done x y said

        still : z.waiting ≡ (request_queued (begun e now)).waiting
        still = ready_still e now none

        -- ACK_FREQUENCY goes where it waited, or the peer is to be asked anew
        asked_so : Has z (draft_at e now) → 1 ≤ count_requests (draft_at e now).frames → (is_anew (by_of e) ≡ true) ⊎ (e.waiting.frames.ack_frequency ≡ true)
        asked_so (has_none count same stays) some = absurd (omega arith)
        asked_so (has_one count next told waited gone) some = elim (or_cases (asks_anew e.transport.ack_frequency_config (begun e now)) e.waiting.frames.ack_frequency (sym (ap (λ (v : Waiting). v.frames.ack_frequency) still) ∙ waited)) [
          | inl anew ↦ inl (sym (anew_is (begun e now)) ∙ anew)
          | inr was ↦ inr was
        ]

        settled : Open x.sents (wrote x.told) (told_so x) (acks x y) z
        settled = subst (λ (s : StreamsState). Settling (λ id o. HoldsOffset (acks x y) id o) (λ id. HoldsEnd (acks x y) id) (known_of x.sents (acks x y)) (told_so x) (wrote x.told) s) (sym (ready_state e now)) (h.gives.0.1.still gives.opened)

        brings : z.waiting.signals.ping ≡ e.waiting.signals.ping → z.waiting.signals.immediate ≡ e.waiting.signals.immediate → In f (draft_at e now).frames → Brings (wants r side i).watch.flight.acked e f
        brings ping_same immediate_same here = pass f (subst (λ (ss : List Sent). Brings ss z f) (sym acks_are) (whole_brings spells.known spells.spelling x.sents (acks x y) (told_so x) (wrote x.told) z streams_known settled f (subst (λ (l : Leaving). In f (draft_as l z).frames) is here)))
          where
            pass : (g : FrameValue) → Brings (wants r side i).watch.flight.acked z g → Brings (wants r side i).watch.flight.acked e g
            pass ping b = sym ping_same ∙ b
            pass immediate_ack b = sym immediate_same ∙ b
            pass (stream g) b = b
            pass g b = tt

    loud : asks_of gave.sent ≡ true → HasWaited r side i gave.sent
    loud asks = by_probes e.tracking.probes refl
      where
        by_leaving : e.tracking.probes ≡ 0 → (l : Leaving) → (ready_at e now).leaving ≡ l → HasWaited r side i gave.sent
        by_leaving none whole is = as_frames asks (frames_waited none is)
        by_leaving none alone is = (let quiet_alone : asking (draft_at e now).frames ≡ false = ap (λ (l : Leaving). asking (draft_as l z).frames) is in absurd (both_ways (asks_of gave.sent) (ask_alike ∙ quiet_alone) asks))
        by_leaving none (probe size) is = as_size_probe (probing.is_probe Streams (everything.all Ready ready) r end honest run side i now gave w at.behind at.made gives (probe_goes e now size is) at.leads)
        by_leaving none (closing f) is = absurd (ready_closes_not e now f is)
        by_leaving none (nothing held) is = absurd (both_ways (goes (ready_at e now)) (ap goes_as is) gives.some)

        by_probes : (n : ℕ) → e.tracking.probes ≡ n → HasWaited r side i gave.sent
        by_probes zero none = by_leaving none (ready_at e now).leaving refl
        by_probes (suc n) some = as_loss_probe (let seen = probing.probes Streams (everything.all Ready ready) r end honest run side i now gave w at.behind at.made gives in omega arith)

    carries : (b : Bool) → asks_of gave.sent ≡ b → HasWaited r side i gave.sent
    carries true asks = loud asks
    carries false none = quiet none

  pub has_waited : HasWaited r side i gave.sent
  has_waited = elim (probing.either Streams (everything.all Ready ready) r end honest run side i now gave w at.behind at.made) [
    | inl gives ↦ carries gives (asks_of gave.sent) refl
    | inr close ↦ as_close (closing_alone (policy_at side r.keys) e now gave.transmit gave.sent close)
  ]

pub each_waited : (r : Run) (end : World) → IsHonest r → IsRun r end → EachWaited r
each_waited r end honest run side i now gave = has_waited r end honest run side i now gave
