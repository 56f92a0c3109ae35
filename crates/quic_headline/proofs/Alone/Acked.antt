-- An end acknowledges only packets that it took, whatever is handed to it: what goes spells its
-- frames, a call that fails gives nothing, and nothing goes behind it.
use Rattle.std.proofs.Common.{◌≡◌, ◌⊎◌, ℕ, ◌≤◌, Bool, true, false, List, [], ◌∷◌, length, Option, Some, None, Result, Ok, Err, refl, sym, ap, ◌∙◌, subst, inl, inr, arith}
use Rattle.std.specs.Prelude.{slice_get, if◌then◌else◌}
use Rattle.quic_wire.specs.Value.{FrameValue, AckValue, ack, connection_close, application_close}
use Rattle.quic_wire.specs.Grammar.{Payload}
use Rattle.quic_parameters.specs.Parameters.{ParameterValues}
use Rattle.quic_parameters.specs.ParametersRead.{parameters_at}
use Rattle.quic_parameters.specs.declared.transport_parameters.id.TransportParameterId.TheVariants.{MaxUdpPayloadSize}
use Rattle.quic_parameters.specs.declared.transport_parameters.error.TransportParametersError.{TransportParametersError}
use Rattle.quic_config.specs.Transport.{Settings, TransportSettings, IsInRange, transport_of}
use Rattle.quic_congestion.specs.Pacer.{Pacing}
use Rattle.quic_congestion.specs.Search.{after_limit, first_discovery}
use Rattle.quic_spaces.specs.Numbers.{cut_against}
use Rattle.quic_machine.specs.declared.answers.State.TheVariants as states
use Rattle.quic_machine.specs.declared.run.Call.{Call}
use Rattle.quic_machine.specs.declared.run.Call.TheVariants as calls
use Rattle.quic_machine.specs.declared.run.Answer.{Answer}
use Rattle.quic_machine.specs.Arrival.{delivered_by}
use Rattle.quic_machine.specs.Policy.{Policy}
use Rattle.quic_machine.specs.Control.{Control, with_pacing}
use Rattle.quic_machine.specs.Heard.{Heard}
use Rattle.quic_machine.specs.Ids.{destination}
use Rattle.quic_machine.specs.Closing.{ticked}
use Rattle.quic_machine.specs.End.{End, IsMade, new_end, number_of, most_payload, with_closing, with_window, closed_by}
use Rattle.quic_machine.specs.Validation.{is_blocked, with_blocked}
use Rattle.quic_machine.specs.Poll.{Polled, Draft, payload_of, datagram_of, draft_as, polled}
use Rattle.quic_machine.specs.Poll as poll
use Rattle.quic_machine.specs.PollCases.{ready_at, ready_leaves, draft_at, may_leave_at, frames_padded, given_as, gives_as, poll_count}
use Rattle.quic_machine.specs.DraftLaws.{IsClose, HasRoom}
use Rattle.quic_machine.specs.Machine.{IsAnswer, says_last, after_call, after_delivered, gives, reads_window, pacing_left, end_left, tells, fails}
use Rattle.quic_headline.specs.Runs.{In, Packet, IsTaken, names}
use Rattle.quic_headline.specs.Observer.{Sent}
use Rattle.quic_headline.specs.Headline.{CodeIsSmall}
use Rattle.quic_headline.specs.FewCloses.{gave_in}
use Rattle.quic_headline.specs.Alone.{Lone, IsLoneStep, IsNew, GivesAlone}
use Rattle.quic_headline.specs.LoneAcks.{and_call, taken_by, WasTaken, AcksOnly, AcksTaken, CodesAreSmall, AcksOnlyTaken}
use Rattle.quic_headline.proofs.Packets.Invariant.{Acks}
use Rattle.quic_headline.proofs.Packets.Acking.{acks_first}
use Rattle.quic_headline.proofs.Packets.CloseForms.{CanGo, OwesWell, close_well, bound_well}
use Rattle.quic_headline.proofs.Packets.Composed.{close_spells, draft_spells}
use Rattle.quic_headline.proofs.Packets.Delivered.{frames_of_payload}
use Rattle.quic_headline.proofs.Packets.MayGo.{MayGo, may_go_spells}
use Rattle.quic_headline.proofs.Packets.Naming.{names_kept}
use Rattle.quic_headline.proofs.Packets.Owing.{Owes, close_alone}
use Rattle.quic_headline.proofs.Packets.Searches.{ready_room}
use Rattle.quic_headline.proofs.Packets.Sends.{GivesClose, by_sends}
use Rattle.quic_headline.proofs.Places.Steps.{only_polls_give, poll_answer}
use Rattle.quic_headline.proofs.Halves.Counts.{read_in_range}
use Rattle.quic_headline.proofs.Alone.Sealing.{failing_gives, failed_gives, read_state, left_is, stops, stays_failed}
use Rattle.quic_headline.proofs.Alone.Kept.{KeptAt, call_kept, kept_first}
use Rattle.quic_headline.proofs.Alone.ShortIds.{AreShort, call_short}
use Rattle.quic_headline.proofs.Alone.Between.{IsBounded, call_bounded, first_between, first_bounded}
use Rattle.quic_headline.proofs.Alone.Sendable.{Sendable, received_sendable, call_sendable, shown_sendable, may_go, made_sendable}
use Rattle.quic_headline.proofs.Alone.Taken.{Knows, call_knows}

-- ---- what an end keeps

-- what an end owes that can go is a close
can_close : (f : FrameValue) → CanGo f → IsClose f
can_close (connection_close c) can = tt
can_close (application_close c) can = tt
can_close f can = absurd can

well_owes : (e : End) → OwesWell e → Owes e
well_owes e well f is = can_close f (well f is)

module _ (t : TransportSettings) where
  -- an end with such a transport, which took these packets: what it knows, and that what it has to
  -- send may go, and has room
  record Lives (packets : List Packet) (e : End) : Type 0 where
    knows : Knows (Unit {0}) packets e
    sends : Sendable e
    kept : KeptAt t e
    ids : AreShort e.ids.peer
    size : IsBounded 1200 most_payload e.path.discovery

  -- what it has to send is as it was behind a datagram, and behind another call
  sends_on : (p : Policy) (theirs : List (List ℕ)) (e : End) (call : Call) (a : Answer) → IsAnswer p e theirs call a → fails a ≡ false → CodeIsSmall call → Owes e → Sendable e → Sendable (after_call p e theirs call a)
  sends_on p theirs e (calls.Deliver delivery) a is served small owes s = go (slice_get theirs delivery.index)
    where
      go : (o : Option (List ℕ)) → Sendable (after_delivered p e (delivered_by (says_last a) delivery) o)
      go None = s
      go (Some d) = received_sendable p e (delivered_by (says_last a) delivery) d s
  sends_on p theirs e call a is served small owes s = call_sendable p e theirs call a is served owes s refl small

  call_lives : (packets : List Packet) (p : Policy) (theirs : List (List ℕ)) (e : End) (call : Call) (a : Answer) → IsAnswer p e theirs call a → fails a ≡ false → CodeIsSmall call → Lives packets e → Lives (and_call p theirs call a packets) (after_call p e theirs call a)
  call_lives packets p theirs e call a is served small l = record {
    knows = call_knows (Unit {0}) packets p theirs e call a is served (λ codes. small) l.knows;
    sends = sends_on p theirs e call a is served small (well_owes e (l.knows.owes tt)) l.sends;
    kept = call_kept t p e theirs call a l.kept;
    ids = call_short p e theirs call a l.ids;
    size = call_bounded 1200 most_payload p e theirs call a l.size;
  }

  -- whatever a call reads, and with another pacer
  shown_lives : (packets : List Packet) (window : ℕ) (blocked : Bool) (pacing : Pacing) (e : End) → Lives packets e → Lives packets (with_pacing (with_blocked (with_window e window) blocked) pacing)
  shown_lives packets window blocked pacing e l = record {
    knows = (let knows = l.knows in record { acks = knows.acks; taken = knows.taken; expected = knows.expected; owes = knows.owes });
    sends = shown_sendable window blocked pacing e l.sends;
    kept = l.kept;
    ids = l.ids;
    size = l.size;
  }

  reads_lives : (packets : List Packet) (control : Control) (heard : Heard) (call : Call) (e : End) → Lives packets e → Lives packets (reads_window control heard call e)
  reads_lives packets control heard (calls.Poll now) e l = shown_lives packets (control []) (is_blocked e heard) e.path.pacing e l
  reads_lives packets control heard call e l = l

  -- the end that a call leaves
  left_lives : (packets : List Packet) (p : Policy) (control : Control) (heard : Heard) (theirs : List (List ℕ)) (e : End) (call : Call) (a : Answer) → Lives packets (after_call p (reads_window control heard call e) theirs call a) → Lives packets (end_left p control heard e theirs call a)
  left_lives packets p control heard theirs e call a l =
      let met : End = reads_window control heard call e in
      let left : End = after_call p met theirs call a in
      shown_lives packets left.path.window left.path.blocked (pacing_left (control (tells p met theirs call)) call met left) left l

  -- its datagrams have room
  has_room : (packets : List Packet) (e : End) → 1200 ≤ t.min_mtu → Lives packets e → HasRoom e
  has_room packets e least l =
      let size = l.size.size in
      (l.ids.used, l.size.between.size, omega arith, subst (λ (s : TransportSettings). 1200 ≤ s.min_mtu) (sym l.kept.same) least)

-- ---- at the start

first_size : (s : Settings) (limit : ℕ) → IsInRange s → s.min_mtu ≤ most_payload → 1200 ≤ limit → limit ≤ most_payload → IsBounded 1200 most_payload (after_limit limit (first_discovery true None (transport_of s)))
first_size s limit range sizes takes within =
    let initial = range.bounds.initial in
    first_bounded 1200 most_payload (transport_of s) limit (first_between 1200 (transport_of s) limit (omega arith) range.bounds.least takes range.search) sizes within

made_lives : (e : End) (new : IsNew e) → IsInRange new.settings → new.settings.min_mtu ≤ most_payload → length new.peer_id ≤ 20 → Lives (transport_of new.settings) [] e
made_lives e new range sizes short = go (parameters_at new.parameters) refl new.made
  where
    first : (theirs : ParameterValues) → parameters_at new.parameters ≡ Ok theirs → e ≡ new_end new.side new.settings new.windows theirs new.own_id new.peer_id new.remote new.moment new.validated new.words → Lives (transport_of new.settings) [] e
    first theirs is made = record {
      knows = subst (Knows (Unit {0}) []) (sym made) (record { acks = acks_first; taken = λ k has. absurd has; expected = refl; owes = λ codes f owed. cc });
      sends = made_sendable e new;
      kept = subst (KeptAt (transport_of new.settings)) (sym made) (kept_first new.settings new.side new.windows theirs new.own_id new.peer_id new.remote new.moment new.validated new.words);
      ids = subst (λ (x : End). AreShort x.ids.peer) (sym made) (record { used = short; later = λ c i. absurd i });
      size = (
          let most = read_in_range new.parameters theirs is MaxUdpPayloadSize in
          subst (λ (x : End). IsBounded 1200 most_payload x.path.discovery) (sym made) (first_size new.settings theirs.max_udp_payload_size range sizes most.0 most.1));
    }

    go : (r : Result ParameterValues TransportParametersError) → parameters_at new.parameters ≡ r → IsMade new.side new.settings new.windows r new.own_id new.peer_id new.remote new.moment new.validated new.words e → Lives (transport_of new.settings) [] e
    go (Ok theirs) is made = first theirs is made
    go (Err error) is made = absurd made

-- ---- what is given

module _ (t : TransportSettings) (least : 1200 ≤ t.min_mtu) (packets : List Packet) (p : Policy) (e : End) (now : ℕ) (l : Lives t packets e) where
  -- what a poll gives acknowledges no other number
  abbrev Names : Polled → Type 0
  Names q = (d : List ℕ) → In d (given_as q.answer q.datagram) → AcksOnly p (IsTaken packets) d

  one : (x : List ℕ) → AcksOnly p (IsTaken packets) x → (d : List ℕ) → In d (x ∷ []) → AcksOnly p (IsTaken packets) d
  one x names_only d (inl is) = subst (AcksOnly p (IsTaken packets)) (sym is) names_only
  one x names_only d (inr none) = absurd none

  -- a reader finds the frames that it was composed of
  draft_names : (d : Draft) → Payload (frames_padded d) (payload_of d) → ((a : AckValue) (k : ℕ) → In (ack a) (frames_padded d) → names a k ≡ true → IsTaken packets k) → AcksOnly p (IsTaken packets) (datagram_of p d)
  draft_names d spells named = record {
    number = number_of d.end;
    reference = cut_against d.end.numbers;
    id = destination d.end.ids;
    payload = payload_of d;
    is = refl;
    named = λ a k i is. named a k (subst (λ (fs : List FrameValue). In (ack a) fs) (frames_of_payload (frames_padded d) (payload_of d) spells) i) is;
  }

  room : HasRoom e
  room = has_room t packets e least l

  -- a close acknowledges nothing
  close_names : (x : End) → OwesWell x → HasRoom x → GivesClose p e now (λ (q : Polled) (sents : List Sent). Names q) x
  close_names x due wide = (
    λ d i. absurd i,
    λ f goes. (
        let d : Draft = draft_as (poll.closing f) x in
        let well = (close_well p x due wide f goes).well in
        one (datagram_of p d) (draft_names d (close_spells f x well.form) (λ a k i named. elim (close_alone x f well.is (ack a) i) [ inl is ↦ absurd is | inr is ↦ cc ]))),
  )

  ready_knows : Acks (ready_at e now).end.acknowledging (ready_at e now).end.marks.came
  ready_knows = (let acks = l.knows.acks in subst (λ (x : End). Acks x.acknowledging x.marks.came) (sym (ready_leaves e now)) (record { runs = acks.runs; small = acks.small; counts = acks.counts }))

  poll_names : Names (polled p e now)
  poll_names = by_sends p e now (λ (q : Polled) (sents : List Sent). Names q) (record {
    silent = λ d i. absurd i;
    failed = λ d i. absurd i;
    repeats = λ is. close_names (with_closing e (ticked e.closing now)) (l.knows.owes tt) room;
    nothing = λ is none d i. absurd i;
    closes = λ reason is bound. close_names (closed_by reason (ready_at e now).end) (bound_well p e (ready_at e now).end reason bound) (ready_room e now room);
    gives = λ is bound some. (
        let spells = (draft_spells MayGo may_go_spells (ready_at e now).leaving (ready_at e now).end (may_leave_at e now) ready_knows (ready_room e now room) (may_go e now l.sends)).spells in
        one (datagram_of p (draft_at e now)) (draft_names (draft_at e now) spells (λ a k i named. l.knows.taken k (names_kept e now a k l.knows.acks i named))));
  })

call_names : (t : TransportSettings) → 1200 ≤ t.min_mtu → (packets : List Packet) (p : Policy) (theirs : List (List ℕ)) (e : End) (call : Call) (a : Answer) → IsAnswer p e theirs call a → fails a ≡ false → Lives t packets e → (d : List ℕ) → In d (gives p e call a) → AcksOnly p (IsTaken packets) d
call_names t least packets p theirs e (calls.Poll now) a is served l d i =
    let said = poll_answer p e now a is served in
    let all : gives p e (calls.Poll now) a ≡ given_as (polled p e now).answer (polled p e now).datagram = ap (λ (x : Answer). gives p e (calls.Poll now) x) said ∙ gives_as p e now (polled p e now).answer in
    poll_names t least packets p e now l d (subst (In d) all i)
call_names t least packets p theirs e call a is served l d i = absurd i

-- a call gives a datagram where it is answered so
pub gives_count : (p : Policy) (theirs : List (List ℕ)) (e : End) (call : Call) (a : Answer) → IsAnswer p e theirs call a → length (gives p e call a) ≡ gave_in call a
gives_count p theirs e (calls.Poll now) a (inl is) = subst (λ (b : Answer). length (gives p e (calls.Poll now) b) ≡ gave_in (calls.Poll now) b) (sym is) (poll_count p e now)
gives_count p theirs e (calls.Poll now) a (inr is) = subst (λ (b : Answer). length (gives p e (calls.Poll now) b) ≡ gave_in (calls.Poll now) b) (sym is) refl
gives_count p theirs e call a is = sym (ap (λ (b : Bool). if b then 1 else 0) (only_polls_give p e theirs call a refl is))

-- ---- calls one behind another

module _ (t : TransportSettings) (least : 1200 ≤ t.min_mtu) (p : Policy) (theirs : List (List ℕ)) where
  -- behind these calls an end lives that took their packets, or it failed
  abbrev Stands : List (Call × Answer) → End → Type 0
  Stands before e = (e.closing.state ≡ states.Failed) ⊎ Lives t (taken_by p theirs before) e

  module _ (before : List (Call × Answer)) (x next : Lone) (call : Call) (a : Answer) (s : IsLoneStep p theirs x call a next) where
    abbrev e : End
    e = reads_window x.control x.heard call x.end

    -- one call more
    next_stands : CodeIsSmall call → Stands before x.end → Stands ((call, a) ∷ before) next.end
    next_stands small (inl failed) = inl (stays_failed p theirs x next call a s failed)
    next_stands small (inr lives) = go (fails a) refl (reads_lives t (taken_by p theirs before) x.control x.heard call x.end lives)
      where
        go : (b : Bool) → fails a ≡ b → Lives t (taken_by p theirs before) e → Stands ((call, a) ∷ before) next.end
        go true failing here = inl (stops p theirs x next call a s failing)
        go false served here = inr (subst (Lives t (taken_by p theirs ((call, a) ∷ before))) (sym (left_is p theirs x next call a s served))
            (left_lives t (taken_by p theirs ((call, a) ∷ before)) p x.control x.heard theirs x.end call a (call_lives t (taken_by p theirs before) p theirs e call a s.answer served small here)))

    -- what it gives
    step_names : Stands before x.end → (d : List ℕ) → In d (gives p e call a) → AcksOnly p (WasTaken p theirs before) d
    step_names (inl failed) d i = absurd (subst (In d) (failed_gives p e theirs call a s.answer (read_state p theirs x.control x.heard call x.end ∙ failed)) i)
    step_names (inr lives) d i = go (fails a) refl (reads_lives t (taken_by p theirs before) x.control x.heard call x.end lives)
      where
        go : (b : Bool) → fails a ≡ b → Lives t (taken_by p theirs before) e → AcksOnly p (WasTaken p theirs before) d
        go true failing here = absurd (subst (In d) (failing_gives p e call a failing) i)
        go false served here = call_names t least (taken_by p theirs before) p theirs e call a s.answer served here d i

  acks_from : (before : List (Call × Answer)) (x left : Lone) (cs : List Call) (told : List Answer) (ds : List (List ℕ)) → CodesAreSmall cs → GivesAlone p theirs x cs told ds left → Stands before x.end → AcksTaken p theirs before cs told ds
  acks_from before x left [] [] ds small g stands = g.0
  acks_from before x left [] (a ∷ told) ds small g stands = absurd g
  acks_from before x left (c ∷ cs) [] ds small g stands = absurd g
  acks_from before x left (c ∷ cs) (a ∷ told) ds small g stands =
      let e : End = reads_window x.control x.heard c x.end in (
        gives p e c a,
        g.1,
        g.3,
        gives_count p theirs e c a g.2.answer,
        step_names before x g.0 c a g.2 stands,
        acks_from ((c, a) ∷ before) g.0 left cs told g.1 (λ d i. small d (inr i)) g.4 (next_stands before x g.0 c a g.2 (small c (inl refl)) stands),
      )

-- from an end as it was made on
pub acks_only_taken : (p : Policy) (theirs : List (List ℕ)) (x left : Lone) (calls : List Call) (told : List Answer) (given : List (List ℕ)) → AcksOnlyTaken p theirs x calls told given left
acks_only_taken p theirs x left cs told given fit small g =
    let t : TransportSettings = transport_of fit.new.settings in
    acks_from t fit.range.bounds.least p theirs [] x left cs told given small g (inr (made_lives x.end fit.new fit.range fit.sizes fit.id))
