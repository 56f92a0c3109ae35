-- Where an end has its peer, whatever is handed to it: where the packets say that it took (RFC 9000,
-- section 9.3).
use Rattle.std.proofs.Common.{◌≡◌, ◌⊎◌, ℕ, ◌+◌, ◌-◌, Bool, true, false, ◌||◌, List, [], ◌∷◌, length, take, Option, Some, None, Result, Ok, Err, refl, sym, ap, ◌∙◌, subst, inl, inr, arith}
use Rattle.std.specs.Prelude.{slice_get, ◌==◌, ◌&&◌, not, nat_le, if◌then◌else◌}
use Rattle.std.specs.List.{list_any}
use Rattle.std.proofs.Math.Bool.{and-false}
use Rattle.std.proofs.lemmas.Bool.{or_from}
use Rattle.quic_wire_core.specs.declared.shared.EcnCodepoint.{EcnCodepoint}
use Rattle.quic_wire.specs.Value.{FrameValue, connection_close, application_close, path_challenge, path_response}
use Rattle.quic_wire.specs.Items.{items}
use Rattle.quic_wire.specs.Close.{CloseValue}
use Rattle.quic_packet.specs.Header.{key_phase, reserved_bits}
use Rattle.quic_packet.specs.Datagram.{Opening}
use Rattle.quic_recovery_core.specs.Duplicates.{is_duplicate}
use Rattle.quic_spaces.specs.Numbers.{expected, number_opened}
use Rattle.quic_machine.specs.Arrival.{Arrival, delivered_by}
use Rattle.quic_machine.specs.declared.answers.State.{State}
use Rattle.quic_machine.specs.declared.answers.State.TheVariants as states
use Rattle.quic_machine.specs.declared.answers.DropReason.{DropReason}
use Rattle.quic_machine.specs.declared.answers.DropReason.TheVariants as drops
use Rattle.quic_machine.specs.declared.answers.Received.{Received}
use Rattle.quic_machine.specs.declared.answers.Received.TheVariants as receives
use Rattle.quic_machine.specs.declared.run.Delivery.{Delivery}
use Rattle.quic_machine.specs.declared.run.Call.{Call}
use Rattle.quic_machine.specs.declared.run.Call.TheVariants as calls
use Rattle.quic_machine.specs.declared.run.Answer.{Answer}
use Rattle.quic_machine.specs.declared.run.Answer.TheVariants as answers
use Rattle.quic_machine.specs.Policy.{Policy}
use Rattle.quic_machine.specs.Ids.{known}
use Rattle.quic_machine.specs.Closing.{Closing, ticked}
use Rattle.quic_machine.specs.Calls.{is_open}
use Rattle.quic_machine.specs.Opens.{head, opens}
use Rattle.quic_machine.specs.End.{End, side_of, with_closing, with_numbers, closed_by}
use Rattle.quic_machine.specs.Migration.{is_client, is_there, as_elsewhere, items_at, is_probing, is_telling, migrates}
use Rattle.quic_machine.specs.Receive.{Fault, broke, too_many_pieces, closed_by_peer, violation, is_empty, asks_in, is_urged, take_frame, unless_fault, take_items, take_payload, Outcome, dropped, ends_as, by_state, opened_to, opened_as, opening, unopened_in, headed, received_in, received, is_read, is_taken, items_taken, drawn_if, with_ids_drawn, has_migrated, migrated_if, with_migration}
use Rattle.quic_machine.specs.FrameCases.{begun, named, acked_keeps, losses_keep, frame_keeps, frame_leaves, items_keep, apart_leaves}
use Rattle.quic_machine.specs.Poll.{Polled, polled}
use Rattle.quic_machine.specs.PollCases.{at_poll, by_poll, composes}
use Rattle.quic_machine.specs.CallCases.{Plain, is_delivery, by_plain_call}
use Rattle.quic_machine.specs.CallCases as cases
use Rattle.quic_machine.specs.LeaveCases.{by_expired}
use Rattle.quic_machine.specs.Machine.{IsAnswer, IsDelivered, says_last, after_call, after_delivered, fails}
use Rattle.quic_headline.specs.Runs.{Packet, packet_of, expected_behind, frames_of}
use Rattle.quic_headline.specs.Observer.{Route, is_close, tells_other, route_behind}
use Rattle.quic_headline.specs.Closes.{IsToldAs}
use Rattle.quic_headline.specs.LoneAcks.{and_call}
use Rattle.quic_headline.specs.Amplification.{news_of}
use Rattle.quic_headline.proofs.Packets.Apart.{by_waits, by_next_id}
use Rattle.quic_headline.proofs.Packets.Closes.{by_closes}
use Rattle.quic_headline.proofs.Packets.Probes.{may_leave}
use Rattle.quic_headline.proofs.Packets.Routed.{told_route, closeless_frame, close_among, moved_path}
use Rattle.quic_headline.proofs.Packets.Watching.{IsRoute, settles_route}
use Rattle.quic_headline.proofs.Alone.Shut.{Tells, stray_tells, payload_tells, payload_has}
use Rattle.quic_headline.proofs.Alone.Taken.{Knows, behind, one_more, delivery_takes}
use Rattle.quic_headline.proofs.Alone.Taking.{Items, opens_to}

-- ---- what is told

-- none is new of those that were there, and one more is
none_new : (packets : List Packet) → news_of packets packets ≡ []
none_new packets = ap (λ (n : ℕ). take n packets) (let none : length packets - length packets ≡ 0 = omega arith in none)

one_new : (packets : List Packet) (q : Packet) → news_of packets (q ∷ packets) ≡ q ∷ []
one_new packets q = ap (λ (n : ℕ). take n (q ∷ packets)) (let one : length (q ∷ packets) - length packets ≡ 1 = omega arith in one)

-- where the peer is behind none or one
none_told : (serves : Bool) (packets : List Packet) (call : Call) (r : Route) → route_behind serves packets [] call r ≡ r
none_told true packets call r = refl
none_told false packets call r = refl

one_told : (serves : Bool) (packets : List Packet) (q : Packet) (delivery : Delivery) (r : Route) → route_behind serves packets (q ∷ []) (calls.Deliver delivery) r ≡ told_route (serves && tells_other packets q delivery.remote r) delivery.remote r
one_told true packets q delivery r = refl
one_told false packets q delivery r = refl

-- the peer stays where nothing more was taken
pub route_stays : (serves : Bool) (packets : List Packet) (call : Call) (r : Route) → route_behind serves packets (news_of packets packets) call r ≡ r
route_stays serves packets call r = ap (λ (qs : List Packet). route_behind serves packets qs call r) (none_new packets) ∙ none_told serves packets call r

-- so it does by any call but the delivery of a datagram
pub route_quiet : (serves : Bool) (packets : List Packet) (p : Policy) (theirs : List (List ℕ)) (call : Call) (a : Answer) (r : Route) → (is_delivery call ≡ false) ⊎ (a ≡ answers.NoDatagram)
    → route_behind serves packets (news_of packets (and_call p theirs call a packets)) call r ≡ r
route_quiet serves packets p theirs (calls.Deliver delivery) a r (inl apart) = cc
route_quiet serves packets p theirs (calls.Deliver delivery) a r (inr none) =
    ap (λ (b : Answer). route_behind serves packets (news_of packets (and_call p theirs (calls.Deliver delivery) b packets)) (calls.Deliver delivery) r) none ∙ route_stays serves packets (calls.Deliver delivery) r
route_quiet serves packets p theirs call a r quiet = route_stays serves packets call r

-- ---- frames

-- a payload says that the peer has moved by its frames
telling_frames : (is : Items) → list_any is_telling is ≡ list_any (λ f. not (is_probing f)) (frames_of is)
telling_frames [] = refl
telling_frames (Ok f ∷ is) = ap (λ (b : Bool). not (is_probing f) || b) (telling_frames is)
telling_frames (Err x ∷ is) = telling_frames is

-- a close is one wherever it came from
close_elsewhere : (f : FrameValue) → is_close (as_elsewhere f) ≡ is_close f
close_elsewhere (path_challenge token) = refl
close_elsewhere (path_response token) = refl
close_elsewhere f = refl

closes_at : (here : Bool) (is : Items) → list_any is_close (frames_of (items_at here is)) ≡ list_any is_close (frames_of is)
closes_at true is = refl
closes_at false [] = refl
closes_at false (Ok f ∷ is) = ap (λ (b : Bool). is_close (as_elsewhere f) || b) (closes_at false is) ∙ ap (λ (b : Bool). b || list_any is_close (frames_of is)) (close_elsewhere f)
closes_at false (Err x ∷ is) = closes_at false is

-- where all are taken, none closes the connection
closeless_items : (is : Items) (e : End) → (take_items is e).fault ≡ None → list_any is_close (frames_of is) ≡ false
closeless_items [] e none = refl
closeless_items (Err x ∷ is) e none = cc
closeless_items (Ok f ∷ is) e none = go (take_frame f e).fault refl none (closeless_items is (take_frame f e).end)
  where
    go : (o : Option Fault) → (take_frame f e).fault ≡ o → (unless_fault o (take_frame f e) (take_items is)).fault ≡ None → ((take_items is (take_frame f e).end).fault ≡ None → list_any is_close (frames_of is) ≡ false) → (is_close f || list_any is_close (frames_of is)) ≡ false
    go None here rest later = or_from (is_close f) (list_any is_close (frames_of is)) (closeless_frame f e here) (later rest)
    go (Some x) here rest later = (let clash : Some x ≡ None = sym here ∙ rest in cc)

closeless_payload : (first : ℕ) (is : Items) (e : End) → (take_payload first is e).fault ≡ None → list_any is_close (frames_of is) ≡ false
closeless_payload first is e = go (not (reserved_bits first == 0) || is_empty is)
  where
    go : (b : Bool) → (if b then record { end = e; fault = Some violation } else take_items is e).fault ≡ None → list_any is_close (frames_of is) ≡ false
    go true none = cc
    go false none = closeless_items is e none

-- and one is there that an end is told
told_closes : (f : FrameValue) (close : CloseValue) → IsToldAs f close → is_close f ≡ true
told_closes (connection_close c) close told = refl
told_closes (application_close c) close told = refl
told_closes f close told = absurd told

tells_close : (is : Items) (close : CloseValue) → Tells is close → list_any is_close (frames_of is) ≡ true
tells_close is close tells = close_among (frames_of is) tells.0 tells.1 (told_closes tells.0 close tells.2)

-- frames leave where the path leads, and which it is
module _ (r : Route) where
  abbrev On : End → Type 0
  On x = IsRoute r x.path

  frame_on : (f : FrameValue) (e : End) → On e → On (take_frame f e).end
  frame_on = frame_keeps On (record {
    ack = λ rises a x i. acked_keeps On (settles_route r) rises a (named a x) i;
    on_streams = λ f x on i. frame_leaves On f x on (λ t. i);
    message = λ m x i. i;
    apart = λ f x is i. apart_leaves On f x is (λ c. i) (λ c most. i);
  })

  payload_on : (first : ℕ) (is : Items) (e : End) → On e → On (take_payload first is e).end
  payload_on first is e i = go (not (reserved_bits first == 0) || is_empty is)
    where
      go : (b : Bool) → On (if b then record { end = e; fault = Some violation } else take_items is e).end
      go true = i
      go false = items_keep On frame_on is e i

  -- ---- a packet that opened

  module _ (p : Policy) (o : Opening) where
    abbrev closing : Bool
    closing = list_any is_close (frames_of (items o.payload))

    -- before the peer is found elsewhere: the path is as it was, and a packet that is taken leaves the
    -- end open unless it closes the connection
    record Opened (out : Outcome) : Type 0 where
      route : On out.end
      clear : is_taken out.answer ≡ true → key_phase o.first ≡ false
      stays : is_taken out.answer ≡ true → is_open out.end.closing.state ≡ not closing

    -- one that isn't taken
    untaken : (out : Outcome) → is_taken out.answer ≡ false → On out.end → Opened out
    untaken out none on = record { route = on; clear = λ taken. (let clash : true ≡ false = sym taken ∙ none in cc); stays = λ taken. (let clash : true ≡ false = sym taken ∙ none in cc) }

    ends_opened : (fault : Option Fault) (x : End) (asks urged : Bool) (mark : Option EcnCodepoint) → key_phase o.first ≡ false → On x → x.closing.state ≡ states.Open → (fault ≡ None → closing ≡ false) → ((close : CloseValue) → fault ≡ Some (closed_by_peer close) → closing ≡ true)
        → Opened (ends_as fault asks urged o.number mark x)
    ends_opened None x asks urged mark clear on opens_on closeless closes = record { route = on; clear = λ taken. clear; stays = λ taken. ap is_open opens_on ∙ ap not (sym (closeless refl)) }
    ends_opened (Some (closed_by_peer close)) x asks urged mark clear on opens_on closeless closes = record { route = on; clear = λ taken. clear; stays = λ taken. ap not (sym (closes close refl)) }
    ends_opened (Some (broke error)) x asks urged mark clear on opens_on closeless closes = untaken (ends_as (Some (broke error)) asks urged o.number mark x) refl on
    ends_opened (Some too_many_pieces) x asks urged mark clear on opens_on closeless closes = untaken (ends_as (Some too_many_pieces) asks urged o.number mark x) refl on

    module _ (e : End) (arrival : Arrival) (on : On e) where
      state_opened : (s : State) → e.closing.state ≡ s → key_phase o.first ≡ false → Opened (by_state s o arrival (with_numbers e (number_opened e.numbers o.number)))
      state_opened states.Open here clear =
          let at : End = begun e arrival.now o.number in
          let within : Items = items_taken o arrival e in
          let taken = take_payload o.first within at in
          ends_opened taken.fault taken.end (asks_in (items o.payload)) (is_urged arrival.mark (asks_in (items o.payload)) within at) arrival.mark clear (payload_on o.first within at on)
          (ap (λ (c : Closing). c.state) (payload_has (ticked e.closing arrival.now) o.first within at refl) ∙ here)
          (λ none. sym (closes_at (is_there arrival.remote e) (items o.payload)) ∙ closeless_payload o.first within at none)
          (λ close told. tells_close (items o.payload) close (stray_tells (is_there arrival.remote e) (items o.payload) close (payload_tells o.first within at close told)))
      state_opened states.Closing here clear = untaken (by_state states.Closing o arrival (with_numbers e (number_opened e.numbers o.number))) refl on
      state_opened states.Drained here clear = untaken (by_state states.Drained o arrival (with_numbers e (number_opened e.numbers o.number))) refl on
      state_opened states.Failed here clear = untaken (by_state states.Failed o arrival (with_numbers e (number_opened e.numbers o.number))) refl on

      opened_comes : Opened (opened_to o arrival e)
      opened_comes = go (key_phase o.first) refl (is_duplicate e.numbers.opened o.number)
        where
          go : (phase : Bool) → key_phase o.first ≡ phase → (again : Bool) → Opened (if phase then dropped drops.KeyPhase e else (if again then dropped drops.Duplicate e else by_state e.closing.state o arrival (with_numbers e (number_opened e.numbers o.number))))
          go true is_set again = untaken (dropped drops.KeyPhase e) refl on
          go false is_clear true = untaken (dropped drops.Duplicate e) refl on
          go false is_clear false = state_opened e.closing.state refl is_clear

    -- nor do ids change it that are drawn
    drawn_opened : (out : Outcome) → Opened out → Opened (with_ids_drawn p out)
    drawn_opened out i = go (is_read out.answer)
      where
        go : (b : Bool) → Opened (record { answer = out.answer; end = drawn_if b p out.end })
        go true = record { route = i.route; clear = i.clear; stays = i.stays }
        go false = record { route = i.route; clear = i.clear; stays = i.stays }

    -- the path behind it leads where the packet tells
    moved_on : (b : Bool) (remote : ℕ) (e : End) → On e → IsRoute (told_route b remote r) (migrated_if b p o remote e).path
    moved_on false remote e on = on
    moved_on true remote e on = (let moved = moved_path p o remote e in (moved.0, moved.1 ∙ ap (λ (n : ℕ). n + 1) on.1))

-- ---- a delivery

taken_is : (a : Received) → is_taken a ≡ true → a ≡ receives.Taken
taken_is receives.Taken is = refl
taken_is (receives.Dropped reason) is = cc
taken_is (receives.Closed error) is = cc
taken_is receives.Failed is = cc

-- what an end makes of a packet, and what is told of one
regrouped : (s apart above telling still : Bool) → (s && (apart && (above && (telling && still)))) ≡ ((s && (apart && (above && telling))) && (true && still))
regrouped false apart above telling still = refl
regrouped true false above telling still = refl
regrouped true true false telling still = refl
regrouped true true true false still = refl
regrouped true true true true still = refl

module _ (C : Type 0) (packets : List Packet) (p : Policy) (e : End) (d : List ℕ) (knows : Knows C packets e) (serves : Bool) (side : not (is_client (side_of e)) ≡ serves) (r : Route) (on : IsRoute r e.path) (delivery : Delivery) (last : Bool) where
  abbrev remote : ℕ
  remote = delivery.remote

  abbrev arrival : Arrival
  arrival = delivered_by last delivery

  -- where the peer is behind a datagram that was answered so
  abbrev route_at : Received → Route
  route_at a = route_behind serves packets (news_of packets (behind C packets p e d knows a)) (calls.Deliver delivery) r

  abbrev Leads : Outcome → Type 0
  Leads out = IsRoute (route_at out.answer) out.end.path

  -- one that isn't taken tells nothing
  untold : (a : Received) → is_taken a ≡ false → route_at a ≡ r
  untold receives.Taken none = cc
  untold (receives.Dropped reason) none = route_stays serves packets (calls.Deliver delivery) r
  untold (receives.Closed error) none = route_stays serves packets (calls.Deliver delivery) r
  untold receives.Failed none = route_stays serves packets (calls.Deliver delivery) r

  still : (out : Outcome) → is_taken out.answer ≡ false → IsRoute r out.end.path → Leads out
  still out none leads = subst (λ (x : Route). IsRoute x out.end.path) (sym (untold out.answer none)) leads

  module _ (o : Opening) (opens_so : key_phase o.first ≡ false → opens p (known e.ids) (expected e.numbers) d ≡ Some o) (out : Outcome) (i : Opened r p o out) where
    abbrev moves : Bool
    moves = has_migrated o remote e out

    -- whether a packet that was taken tells another address
    tells_so : is_taken out.answer ≡ true → (serves && tells_other packets (packet_of o) remote r) ≡ moves
    tells_so taken =
        let telling : Bool = list_any (λ f. not (is_probing f)) (frames_of (items o.payload)) in
        let above : Bool = nat_le (expected e.numbers) o.number in
        let apart : Bool = not (remote == e.path.remote) in
        ap (λ (s : Bool). s && tells_other packets (packet_of o) remote r) (sym side)
        ∙ ap (λ (m : ℕ). not (is_client (side_of e)) && (not (remote == m) && (nat_le (expected_behind packets) o.number && (telling && not (closing r p o))))) (sym on.0)
        ∙ ap (λ (m : ℕ). not (is_client (side_of e)) && (apart && (nat_le m o.number && (telling && not (closing r p o))))) (sym knows.expected)
        ∙ ap (λ (b : Bool). not (is_client (side_of e)) && (apart && (above && (b && not (closing r p o))))) (sym (telling_frames (items o.payload)))
        ∙ regrouped (not (is_client (side_of e))) apart above (list_any is_telling (items o.payload)) (not (closing r p o))
        ∙ ap (λ (b : Bool). migrates o remote e && (true && b)) (sym (i.stays taken))
        ∙ ap (λ (b : Bool). migrates o remote e && (b && is_open out.end.closing.state)) (sym taken)

    told : (b : Bool) → is_taken out.answer ≡ b → route_at out.answer ≡ told_route moves remote r
    told true taken =
        ap route_at (taken_is out.answer taken)
        ∙ ap (λ (qs : List Packet). route_behind serves packets (news_of packets qs) (calls.Deliver delivery) r) (one_more C packets p e d knows o (opens_so (i.clear taken)))
        ∙ ap (λ (qs : List Packet). route_behind serves packets qs (calls.Deliver delivery) r) (one_new packets (packet_of o))
        ∙ one_told serves packets (packet_of o) delivery r
        ∙ ap (λ (b : Bool). told_route b remote r) (tells_so taken)
    told false none =
        let stays : moves ≡ false = ap (λ (b : Bool). migrates o remote e && (b && is_open out.end.closing.state)) none ∙ and-false (migrates o remote e) in
        untold out.answer none ∙ ap (λ (b : Bool). told_route b remote r) (sym stays)

    opened_leads : Leads (with_migration p o remote e out)
    opened_leads = subst (λ (x : Route). IsRoute x (migrated_if moves p o remote out.end).path) (sym (told (is_taken out.answer) refl)) (moved_on r p o moves remote out.end i.route)

  unopened_leads : (s : State) (b : Bool) → Leads (unopened_in s b arrival e)
  unopened_leads states.Open true = still (unopened_in states.Open true arrival e) refl on
  unopened_leads states.Open false = still (unopened_in states.Open false arrival e) refl on
  unopened_leads states.Closing b = still (unopened_in states.Closing b arrival e) refl on
  unopened_leads states.Drained b = still (unopened_in states.Drained b arrival e) refl on
  unopened_leads states.Failed b = still (unopened_in states.Failed b arrival e) refl on

  packet_leads : (o : Option Opening) → ((x : Opening) → o ≡ Some x → key_phase x.first ≡ false → opens p (known e.ids) (expected e.numbers) d ≡ Some x) → Leads (opened_as o p arrival e)
  packet_leads None is = unopened_leads e.closing.state arrival.last
  packet_leads (Some o) is = opened_leads o (is o refl) (with_ids_drawn p (opened_to o arrival e)) (drawn_opened r p o (opened_to o arrival e) (opened_comes r p o e arrival on))

  headed_leads : (x : Result (List ℕ) DropReason) → head e remote d ≡ x → Leads (headed x p e arrival d)
  headed_leads (Err error) is = still (headed (Err error) p e arrival d) refl on
  headed_leads (Ok id) is = packet_leads (opening p e d) (λ o opens_so phase. opens_to p e arrival d id o is opens_so phase)

  received_leads : Leads (received p e arrival d)
  received_leads = go e.closing.state
    where
      go : (s : State) → Leads (received_in s p e arrival d)
      go states.Failed = still (received_in states.Failed p e arrival d) refl on
      go states.Drained = still (received_in states.Drained p e arrival d) refl on
      go states.Open = headed_leads (head e remote d) refl
      go states.Closing = headed_leads (head e remote d) refl

-- ---- any call

module _ (C : Type 0) (packets : List Packet) (p : Policy) (theirs : List (List ℕ)) (e : End) (knows : Knows C packets e) (serves : Bool) (side : not (is_client (side_of e)) ≡ serves) (r : Route) (on : IsRoute r e.path) where
  -- where the peer is behind a call
  abbrev pub route_called : Call → Answer → Route
  route_called call a = route_behind serves packets (news_of packets (and_call p theirs call a packets)) call r

  -- by whether there is such a datagram
  delivered_leads : (delivery : Delivery) (o : Option (List ℕ)) → slice_get theirs delivery.index ≡ o → (a : Answer) → IsDelivered p e delivery o a → fails a ≡ false → IsRoute (route_called (calls.Deliver delivery) a) (after_delivered p e (delivered_by (says_last a) delivery) o).path
  delivered_leads delivery None there a is served = subst (λ (x : Route). IsRoute x e.path) (sym (route_quiet serves packets p theirs (calls.Deliver delivery) a r (inr is))) on
  delivered_leads delivery (Some d) there a (inl is) served =
      let left : Outcome = received p e (delivered_by (says_last a) delivery) d in
      let same : behind C packets p e d knows left.answer ≡ and_call p theirs (calls.Deliver delivery) a packets = delivery_takes C packets p e d knows theirs delivery there left.answer ∙ ap (λ (b : Answer). and_call p theirs (calls.Deliver delivery) b packets) (sym is) in
      subst (λ (qs : List Packet). IsRoute (route_behind serves packets (news_of packets qs) (calls.Deliver delivery) r) left.end.path) same (received_leads C packets p e d knows serves side r on delivery (says_last a))
  delivered_leads delivery (Some d) there a (inr is) served = let lacks = ap fails is in cc

  polled_on : (now : ℕ) → On r (polled p e now).end
  polled_on now = by_poll p e now (λ (q : Polled). On r q.end) (record {
    silent = on;
    failed = on;
    nothing = λ c. on;
    repeats = λ is. by_closes p (with_closing e (ticked e.closing now)) (λ (q : Polled). On r q.end) on (λ f goes. on);
    closes = λ reason c bound. by_closes p (closed_by reason (at_poll e now c)) (λ (q : Polled). On r q.end) on (λ f goes. on);
    gives = λ leaving c left is may ready some. (let x : End = at_poll e now c in subst (IsRoute r) (sym (composes leaving x (may_leave e now leaving x ready)).path) on);
  })

  -- no call leads it elsewhere but a delivery
  plain_on : (call : Call) (a : Answer) → is_delivery call ≡ false → On r (after_call p e theirs call a)
  plain_on call a other = by_plain_call p e theirs (On r) call a keep
    where
      keep : Plain p e call (On r)
      keep (cases.times now expiry) may = by_expired p.words e now (On r) (λ pending tracking timers waits asked runs packets. on) (λ pending timers waits asked runs. losses_keep (On r) (settles_route r) (with_closing e (ticked e.closing now)) on) (λ x j. j) expiry
      keep (cases.polls now) may = polled_on now
      keep (cases.hears arrival d) is = cc
      keep (cases.waits now b) may = by_waits (On r) b (with_closing e (ticked e.closing now)) on on
      keep (cases.changes_id b) may = by_next_id (On r) e b on (λ c. on) (λ c most. on)
      keep c may = on

  pub call_leads : (call : Call) (a : Answer) → IsAnswer p e theirs call a → fails a ≡ false → IsRoute (route_called call a) (after_call p e theirs call a).path
  call_leads (calls.Deliver delivery) a is served = delivered_leads delivery (slice_get theirs delivery.index) refl a is served
  call_leads call a is served = subst (λ (x : Route). IsRoute x (after_call p e theirs call a).path) (sym (route_quiet serves packets p theirs call a r (inl refl))) (plain_on call a refl)
