-- Each size that datagrams of an end take is told to its controller: the size that a view shows is
-- the last that was told, or that with which the path began.
use Rattle.std.proofs.Common.{◌≡◌, ℕ, suc, ◌≤◌, List, [], ◌∷◌, ◌++◌, take, length, Bool, true, false, not, ◌||◌, ◌&&◌, ◌==◌, Option, Some, None, Result, Ok, Err, refl, sym, ap, ◌∙◌, subst, arith}
use Rattle.std.specs.Prelude.{if◌then◌else◌, slice_get, sum_by}
use Rattle.std.specs.List.{list_any}
use Rattle.std.proofs.lemmas.Bool.{or_parts}
use Rattle.std.proofs.lemmas.List.Elements.{All-nil, All-cons, All-head, All-tail}
use Rattle.quic_wire_core.specs.declared.stream_id.Side.{Side}
use Rattle.quic_wire_core.specs.declared.stream_id.Side.TheVariants.{Client, Server}
use Rattle.quic_wire_core.specs.declared.shared.EcnCodepoint.{EcnCodepoint}
use Rattle.quic_wire.specs.Value.{FrameValue, AckValue, ack, datagram, new_connection_id, retire_connection_id, path_response, handshake_done, ack_frequency}
use Rattle.quic_wire.specs.Items.{items}
use Rattle.quic_wire.specs.declared.frame.InvalidFrame.{InvalidFrame}
use Rattle.quic_packet.specs.Header.{key_phase, reserved_bits}
use Rattle.quic_packet.specs.Datagram.{Opening}
use Rattle.quic_messages.specs.declared.errors.ReceivedError.{ReceivedError}
use Rattle.quic_messages.specs.Messages.{received_answer}
use Rattle.quic_config.specs.declared.mtu_discovery.TheConstants.{MAX_UDP_PAYLOAD}
use Rattle.quic_congestion.specs.Search.{Discovery}
use Rattle.quic_congestion.specs.SearchBounds as bounds
use Rattle.quic_congestion.proofs.SizedSearch.{sized_polled, sized_acked}
use Rattle.quic_congestion.specs.Congestion.{Told, Sent, Acked, AcksEnded, Congested, Resized, IsSized, AreSized, size_told, last_size}
use Rattle.quic_streams_parts.specs.Table.{Table}
use Rattle.quic_recovery_core.specs.Duplicates.{is_duplicate}
use Rattle.quic_spaces.specs.Numbers.{number_opened}
use Rattle.quic_spaces.specs.Marks.{Counts}
use Rattle.quic_spaces.specs.declared.space.EcnError.{EcnError}
use Rattle.quic_time.specs.Clocks.{saturated}
use Rattle.quic_machine.specs.declared.answers.State.{State}
use Rattle.quic_machine.specs.declared.answers.State.TheVariants as states
use Rattle.quic_machine.specs.declared.answers.DropReason.{DropReason}
use Rattle.quic_machine.specs.declared.answers.DropReason.TheVariants as drops
use Rattle.quic_machine.specs.declared.run.RunEvent.{RunEvent}
use Rattle.quic_machine.specs.declared.run.Call.{Call}
use Rattle.quic_machine.specs.declared.run.Call.TheVariants as calls
use Rattle.quic_machine.specs.declared.run.Answer.{Answer}
use Rattle.quic_machine.specs.declared.run.View.{View}
use Rattle.quic_machine.specs.Parts.{current_mtu}
use Rattle.quic_machine.specs.Policy.{Policy}
use Rattle.quic_machine.specs.Closing.{ticked}
use Rattle.quic_machine.specs.Opens.{head}
use Rattle.quic_machine.specs.Tracking.{TrackedPacket, lost_by, acked_by}
use Rattle.quic_machine.specs.Arrival.{Arrival, early, delivered_by}
use Rattle.quic_machine.specs.End.{End, with_closing, with_numbers}
use Rattle.quic_machine.specs.Control.{Control, flies, told_sent, told_packet, told_acks_ended, last_sent}
use Rattle.quic_machine.specs.Sizes.{is_resized, told_if_resized, told_size, with_acked, search_acked, told_packets, others_of, after_lost, is_persistent, told_congested, told_losses}
use Rattle.quic_machine.specs.Acked.{packet_acked, packets_acked, losses_detected, after_named, verdict, told_detected, told_grown, told_taken, told_seen, told_marks, told_of_losses, told_named, told_acked, counts_answer, sampled, measured, without_acked, losses_taken, request_acked}
use Rattle.quic_machine.specs.Receive.{Fault, violation, Progress, message_judged, take_frame, unless_fault, take_items, take_payload, ends_as, asks_in, is_urged, dropped, by_state, opened_to, opened_as, headed, received_in, is_above, names_ungiven, is_empty, take_item, told_ack, told_item, told_unless, told_items, told_payload, told_by_state, told_opened, told_opened_as, told_headed, told_received_in, opening, broke, too_many_pieces, closed_by_peer, unopened_in, is_read, drawn_if, with_ids_drawn, has_migrated, migrated_if, items_taken}
use Rattle.quic_machine.specs.Poll.{Ready, polled, ready, goes, asking, datagram_size, draft_of, told_if, told_polled_in}
use Rattle.quic_machine.specs.Poll as poll
use Rattle.quic_machine.specs.End.{number_of}
use Rattle.quic_machine.specs.Timeouts.{Expiry, expiry_at, loss_judged, loss_expired, timed_out_in, told_judged, told_expired, told_timed_out_in}
use Rattle.quic_machine.specs.FrameCases.{named, ack_taken, by_marks, apart_leaves}
use Rattle.quic_machine.specs.CallCases.{Plain, is_delivery, is_poll, is_timeout, by_plain_call}
use Rattle.quic_machine.specs.CallCases as cases
use Rattle.quic_machine.specs.Machine.{World, Policies, IsStep, IsLeft, after_delivered, after_call, reads_window, end_left, fails, tells, told_delivered, view_of, says_last}
use Rattle.quic_headline.specs.Runs.{Run}
use Rattle.quic_headline.specs.Headline.{IsRun}
use Rattle.quic_headline.specs.Polls.{mtu_in, search_at, told_by_step, WasTold}
use Rattle.quic_headline.specs.Sizes.{SizeIsOfHistory}
use Rattle.quic_headline.proofs.Packets.Searches.{losses_search}
use Rattle.quic_headline.proofs.Packets.Sizes.{Sizing, sized_lost, same_size, carried_same, polled_search}
use Rattle.quic_headline.proofs.Places.Moments.{last_view}
use Rattle.quic_headline.proofs.Steps.Windows.{history, first_lead}
use Rattle.quic_machine.specs.LeaveCases.{Expired, by_expiring}
use Rattle.quic_machine.specs.LeaveCases as expiring
use Rattle.quic_machine.specs.Heard.{Heard}
use Rattle.quic_time.specs.Timers.{has_come}
use Rattle.std.specs.Option.{is_none}
use Rattle.quic_headline.proofs.Packets.Apart.{by_waits, by_next_id}
use Rattle.quic_headline.proofs.Packets.Moved.{by_migrated}

-- ---- what tells no size

-- a controller is told no size
abbrev SaysNoSize : Told → Type 0
SaysNoSize (Resized size) = ⊥
SaysNoSize told = Unit {0}

-- so it is of all of these
abbrev SayNoSize : List Told → Type 0
SayNoSize [] = Unit {0}
SayNoSize (t ∷ ts) = SaysNoSize t × SayNoSize ts

none_both : (ts us : List Told) → SayNoSize ts → SayNoSize us → SayNoSize (ts ++ us)
none_both [] us a b = b
none_both (t ∷ ts) us a b = (a.0, none_both ts us a.1 b)

none_sent : (asks : Bool) (e : End) (size number : ℕ) → SayNoSize (told_sent asks e size number)
none_sent true e size number = (tt, tt)
none_sent false e size number = tt

none_packet : (e : End) (p : ℕ × TrackedPacket) → SayNoSize (told_packet e p)
none_packet e p = go (p.1.asks && is_none e.validation.challenge)
  where
    go : (b : Bool) → SayNoSize (if b then Acked e.closing.clock p.1.time_sent p.1.size e.path.app_limited e.path.rtt ∷ [] else [])
    go true = (tt, tt)
    go false = tt

none_congested : (by_ack : Bool) (e : End) (lost : Table TrackedPacket) → SayNoSize (told_congested by_ack e lost)
none_congested by_ack e lost = go (list_any (flies e.path.generation) others)
  where
    others : Table TrackedPacket
    others = others_of e.path.discovery lost

    go : (b : Bool) → SayNoSize (if b then Congested e.closing.clock (last_sent others) (by_ack && is_persistent e lost) (saturated (sum_by (λ (p : ℕ × TrackedPacket). p.1.size) others)) ∷ [] else [])
    go true = (tt, tt)
    go false = tt

none_grown : (r : Result Bool EcnError) (now sent : ℕ) → SayNoSize (told_grown r now sent)
none_grown (Ok true) now sent = (tt, tt)
none_grown (Ok false) now sent = tt
none_grown (Err error) now sent = tt

none_taken : (rises : Bool) (newly : ℕ) (counts : Option Counts) (sent : ℕ) (e : End) → SayNoSize (told_taken rises newly counts sent e)
none_taken true newly (Some counts) sent e = none_grown (counts_answer e newly counts) e.closing.clock sent
none_taken true newly None sent e = tt
none_taken false newly counts sent e = tt

none_seen : (marking rises : Bool) (newly : ℕ) (counts : Option Counts) (sent : ℕ) (e : End) → SayNoSize (told_seen marking rises newly counts sent e)
none_seen true rises newly counts sent e = none_taken rises newly counts sent e
none_seen false rises newly counts sent e = tt

none_if : (b : Bool) (g : Ready) → SayNoSize (told_if b g)
none_if true g = none_sent (asking (draft_of g).frames) (draft_of g).end (datagram_size (draft_of g)) (number_of (draft_of g).end)
none_if false g = tt

none_polled : (s : State) (p : Policy) (e : End) (now : ℕ) → SayNoSize (told_polled_in s p e now)
none_polled states.Open p e now = (let g : Ready = ready (with_closing e (ticked e.closing now)) in none_if (goes g && is_none (poll.bounds p g.end)) g)
none_polled states.Closing p e now = tt
none_polled states.Drained p e now = tt
none_polled states.Failed p e now = tt

-- ---- sizes that are told

-- where all that is told fits, and so does more, both together do
sized_both : (ts us : List Told) → AreSized ts → AreSized us → AreSized (ts ++ us)
sized_both [] us a b = b
sized_both (t ∷ ts) us a b = All-cons IsSized t (ts ++ us) (All-head IsSized t ts a) (sized_both ts us (All-tail IsSized t ts a) b)

-- the last size of both is that of the second, where the first said one before
last_both : (ts us : List Told) (size : ℕ) → last_size size (ts ++ us) ≡ last_size (last_size size ts) us
last_both [] us size = refl
last_both (t ∷ ts) us size = last_both ts us (size_told t size)

-- it is no less where the first was no less
pub last_more : (ts : List Told) (a b : ℕ) → a ≤ b → last_size a ts ≤ last_size b ts
last_more [] a b l = l
last_more (t ∷ ts) a b l = last_more ts (size_told t a) (size_told t b) (one t)
  where
    one : (t : Told) → size_told t a ≤ size_told t b
    one (Sent now bytes last) = l
    one (Acked now sent bytes app_limited rtt) = l
    one (AcksEnded now in_flight app_limited largest) = l
    one (Congested now sent persistent lost) = l
    one (Resized size) = omega arith

-- what says no size
unsized : (ts : List Told) (size : ℕ) → SayNoSize ts → AreSized ts × (last_size size ts ≡ size)
unsized [] size none = (All-nil IsSized, refl)
unsized (t ∷ ts) size none = one (unsized ts size none.1) t none.0
  where
    one : AreSized ts × (last_size size ts ≡ size) → (t : Told) → SaysNoSize t → AreSized (t ∷ ts) × (last_size size (t ∷ ts) ≡ size)
    one rest (Sent now bytes last) none = (All-cons IsSized (Sent now bytes last) ts tt rest.0, rest.1)
    one rest (Acked now sent bytes app_limited rtt) none = (All-cons IsSized (Acked now sent bytes app_limited rtt) ts tt rest.0, rest.1)
    one rest (AcksEnded now in_flight app_limited largest) none = (All-cons IsSized (AcksEnded now in_flight app_limited largest) ts tt rest.0, rest.1)
    one rest (Congested now sent persistent lost) none = (All-cons IsSized (Congested now sent persistent lost) ts tt rest.0, rest.1)
    one rest (Resized size) none = absurd none

-- ---- what a call tells of the search

-- Where one search follows another, each size that it took was told, and it has the last that was.
pub record Tells (d : Discovery) (ts : List Told) (f : Discovery) : Type 0 where
  pub stays : bounds.IsSized 1200 MAX_UDP_PAYLOAD d → bounds.IsSized 1200 MAX_UDP_PAYLOAD f
  pub sized : bounds.IsSized 1200 MAX_UDP_PAYLOAD d → AreSized ts
  pub size : f.size ≡ last_size d.size ts

-- what says no size, where the size stays
quiet : (d f : Discovery) (ts : List Told) → (bounds.IsSized 1200 MAX_UDP_PAYLOAD d → bounds.IsSized 1200 MAX_UDP_PAYLOAD f) → f.size ≡ d.size → SayNoSize ts → Tells d ts f
quiet d f ts stays same none = record { stays = stays; sized = λ h. (unsized ts 0 none).0; size = same ∙ sym (unsized ts d.size none).1 }

-- what says no size, where the search stays
pub still : (d : Discovery) (ts : List Told) → SayNoSize ts → Tells d ts d
still d ts none = quiet d d ts (λ h. h) refl none

-- one behind another
pub both : (d f g : Discovery) (ts us : List Told) → Tells d ts f → Tells f us g → Tells d (ts ++ us) g
both d f g ts us one two = record {
  stays = λ h. two.stays (one.stays h);
  sized = λ h. sized_both ts us (one.sized h) (two.sized (one.stays h));
  size = two.size ∙ ap (λ (n : ℕ). last_size n us) one.size ∙ sym (last_both ts us d.size);
}

-- a size that changed is told
resized : (d f : Discovery) → (bounds.IsSized 1200 MAX_UDP_PAYLOAD d → bounds.IsSized 1200 MAX_UDP_PAYLOAD f) → Tells d (told_size d f) f
resized d f stays = go (is_resized d f) refl
  where
    go : (b : Bool) → is_resized d f ≡ b → Tells d (told_if_resized b f.size) f
    go true is = record {
      stays = stays;
      sized = λ h. All-cons IsSized (Resized f.size) [] (let most = (stays h).size in omega arith) (All-nil IsSized);
      size = refl;
    }
    go false is = quiet d f [] stays (same_size d f is) tt

-- packets are acknowledged
packets_tell : (ps : Table TrackedPacket) (e x : End) → x.path.discovery ≡ e.path.discovery → Tells e.path.discovery (told_packets e ps) (packets_acked ps x).path.discovery
packets_tell [] e x same = subst (λ (f : Discovery). Tells e.path.discovery [] f) (sym same) (still e.path.discovery [] tt)
packets_tell (p ∷ ps) e x same =
    let d : Discovery = e.path.discovery in
    let f : Discovery = with_acked p d in
    let left : (packet_acked p x).path.discovery ≡ f = ap (λ (s : Sizing). s.discovery) (carried_same p.1.carried (request_acked p.0 (search_acked p x))) ∙ ap (λ (g : Discovery). with_acked p g) same in
    both d f (packets_acked ps (packet_acked p x)).path.discovery (told_packet e p ++ told_size d f) (told_packets (search_acked p e) ps)
    (both d d f (told_packet e p) (told_size d f) (still d (told_packet e p) (none_packet e p)) (resized d f (λ h. (sized_acked 1200 MAX_UDP_PAYLOAD p.0 p.1.size d h).0)))
    (packets_tell ps (search_acked p e) (packet_acked p x) left)

-- losses are detected
losses_tell : (by_ack : Bool) (e : End) → Tells e.path.discovery (told_detected by_ack e) (losses_detected e).path.discovery
losses_tell by_ack e =
    let lost = lost_by (verdict e) e.tracking.packets in
    let d : Discovery = e.path.discovery in
    let f : Discovery = after_lost e.closing.clock lost d in
    subst (λ (g : Discovery). Tells d (told_losses by_ack e lost) g) (sym (losses_search e))
    (both d f f (told_size d f) (told_congested by_ack e lost) (resized d f (sized_lost 1200 MAX_UDP_PAYLOAD e.closing.clock lost d)) (still f (told_congested by_ack e lost) (none_congested by_ack e lost)))

sampled_same : (o : Option TrackedPacket) (a : AckValue) (e : End) → (sampled o a e).path.discovery ≡ e.path.discovery
sampled_same None a e = refl
sampled_same (Some p) a e = refl

-- an ACK frame names these packets
named_tell : (ps : Table TrackedPacket) (rises : Bool) (a : AckValue) (e : End) → Tells e.path.discovery (told_named ps rises a e) (after_named ps rises a e).path.discovery
named_tell [] rises a e = still e.path.discovery [] tt
named_tell (p ∷ ps) rises a e =
    let d : Discovery = e.path.discovery in
    let left : End = without_acked (p ∷ ps) a e in
    let timed : End = sampled (measured rises a (p ∷ ps)) a left in
    let taken : End = losses_taken (p ∷ ps) rises a e in
    let f : Discovery = left.path.discovery in
    let g : Discovery = taken.path.discovery in
    let detected : Tells f (told_detected true timed) g = subst (λ (x : Discovery). Tells x (told_detected true timed) g) (sampled_same (measured rises a (p ∷ ps)) a left) (losses_tell true timed) in
    let lost : Tells d (told_of_losses (p ∷ ps) rises a e) g =
    both d f g (told_packets e (p ∷ ps) ++ told_acks_ended left) (told_detected true timed)
    (both d f f (told_packets e (p ∷ ps)) (told_acks_ended left) (packets_tell (p ∷ ps) e e refl) (still f (told_acks_ended left) (tt, tt))) detected in
    let marks : List Told = told_marks rises (p ∷ ps) a taken in
    by_marks rises (length (p ∷ ps)) a taken (λ (x : End). Tells d (told_of_losses (p ∷ ps) rises a e ++ marks) x.path.discovery)
    (λ m marking. both d g g (told_of_losses (p ∷ ps) rises a e) marks lost (still g marks (none_seen taken.path.marking rises (length (p ∷ ps)) a.ecn (last_sent (p ∷ ps)) taken)))

ack_tells : (a : AckValue) (e : End) → Tells e.path.discovery (told_ack a e) (take_frame (ack a) e).end.path.discovery
ack_tells a e = go (names_ungiven a e)
  where
    go : (b : Bool) → Tells e.path.discovery (if b then [] else told_acked (is_above e.numbers.largest_acked a.largest) a (named a e)) (ack_taken b a e).end.path.discovery
    go true = still e.path.discovery [] tt
    go false = named_tell (acked_by a (named a e).tracking.packets) (is_above e.numbers.largest_acked a.largest) a (named a e)

-- an item of a payload
item_tells : (i : Result FrameValue InvalidFrame) (e : End) → Tells e.path.discovery (told_item i e) (take_item i e).end.path.discovery
item_tells (Ok (ack a)) e = ack_tells a e
item_tells (Ok (datagram m)) e = go (received_answer e.transport.datagram_receive_buffer_size m e.messages.queues)
  where
    go : (r : Result Bool ReceivedError) → Tells e.path.discovery [] (message_judged r m e).end.path.discovery
    go (Ok first) = still e.path.discovery [] tt
    go (Err error) = still e.path.discovery [] tt
item_tells (Ok (new_connection_id f)) e = apart_leaves (λ (x : End). Tells e.path.discovery [] x.path.discovery) (new_connection_id f) e tt (λ c. still e.path.discovery [] tt) (λ c most. still e.path.discovery [] tt)
item_tells (Ok (retire_connection_id n)) e = apart_leaves (λ (x : End). Tells e.path.discovery [] x.path.discovery) (retire_connection_id n) e tt (λ c. still e.path.discovery [] tt) (λ c most. still e.path.discovery [] tt)
item_tells (Ok (path_response token)) e = apart_leaves (λ (x : End). Tells e.path.discovery [] x.path.discovery) (path_response token) e tt (λ c. still e.path.discovery [] tt) (λ c most. still e.path.discovery [] tt)
item_tells (Ok handshake_done) e = apart_leaves (λ (x : End). Tells e.path.discovery [] x.path.discovery) handshake_done e tt (λ c. still e.path.discovery [] tt) (λ c most. still e.path.discovery [] tt)
item_tells (Ok (ack_frequency r)) e = apart_leaves (λ (x : End). Tells e.path.discovery [] x.path.discovery) (ack_frequency r) e tt (λ c. still e.path.discovery [] tt) (λ c most. still e.path.discovery [] tt)
item_tells (Ok f) e = still e.path.discovery [] tt
item_tells (Err x) e = still e.path.discovery [] tt

items_tell : (is : List (Result FrameValue InvalidFrame)) (e : End) → Tells e.path.discovery (told_items is e) (take_items is e).end.path.discovery
items_tell [] e = still e.path.discovery [] tt
items_tell (i ∷ is) e = go p.fault (items_tell is p.end)
  where
    p : Progress
    p = take_item i e

    go : (o : Option Fault) → Tells p.end.path.discovery (told_items is p.end) (take_items is p.end).end.path.discovery
        → Tells e.path.discovery (told_item i e ++ told_unless o (told_items is p.end)) (unless_fault o p (take_items is)).end.path.discovery
    go None rest = both e.path.discovery p.end.path.discovery (take_items is p.end).end.path.discovery (told_item i e) (told_items is p.end) (item_tells i e) rest
    go (Some fault) rest = both e.path.discovery p.end.path.discovery p.end.path.discovery (told_item i e) [] (item_tells i e) (still p.end.path.discovery [] tt)

payload_tells : (first : ℕ) (is : List (Result FrameValue InvalidFrame)) (e : End) → Tells e.path.discovery (told_payload first is e) (take_payload first is e).end.path.discovery
payload_tells first is e = go (not (reserved_bits first == 0) || is_empty is)
  where
    go : (b : Bool) → Tells e.path.discovery (if b then [] else told_items is e) (if b then record { end = e; fault = Some violation } else take_items is e).end.path.discovery
    go true = still e.path.discovery [] tt
    go false = items_tell is e

ends_tell : (fault : Option Fault) (asks urged : Bool) (n : ℕ) (mark : Option EcnCodepoint) (d : Discovery) (ts : List Told) (e : End) → Tells d ts e.path.discovery → Tells d ts (ends_as fault asks urged n mark e).end.path.discovery
ends_tell None asks urged n mark d ts e t = t
ends_tell (Some (closed_by_peer close)) asks urged n mark d ts e t = t
ends_tell (Some (broke error)) asks urged n mark d ts e t = t
ends_tell (Some too_many_pieces) asks urged n mark d ts e t = t

by_state_tells : (s : State) (o : Opening) (arrival : Arrival) (e : End) → Tells e.path.discovery (told_by_state s o (early arrival) e) (by_state s o arrival e).end.path.discovery
by_state_tells states.Open o arrival e =
    let begins : End = with_closing e (ticked e.closing arrival.now) in
    let is : List (Result FrameValue InvalidFrame) = items_taken o arrival e in
    let asks : Bool = asks_in (items o.payload) in
    let taken : Progress = take_payload o.first is begins in
    ends_tell taken.fault asks (is_urged arrival.mark asks is begins) o.number arrival.mark e.path.discovery (told_payload o.first is begins) taken.end (payload_tells o.first is begins)
by_state_tells states.Closing o arrival e = still e.path.discovery [] tt
by_state_tells states.Drained o arrival e = still e.path.discovery [] tt
by_state_tells states.Failed o arrival e = still e.path.discovery [] tt

opened_tells : (o : Opening) (arrival : Arrival) (e : End) → Tells e.path.discovery (told_opened o (early arrival) e) (opened_to o arrival e).end.path.discovery
opened_tells o arrival e = go (key_phase o.first) (is_duplicate e.numbers.opened o.number)
  where
    noted : End
    noted = with_numbers e (number_opened e.numbers o.number)

    go : (a b : Bool) → Tells e.path.discovery (if a || b then [] else told_by_state e.closing.state o (early arrival) noted)
        (if a then dropped drops.KeyPhase e else (if b then dropped drops.Duplicate e else by_state e.closing.state o arrival noted)).end.path.discovery
    go true b = still e.path.discovery [] tt
    go false true = still e.path.discovery [] tt
    go false false = by_state_tells e.closing.state o arrival noted

unopened_tells : (s : State) (b : Bool) (arrival : Arrival) (e : End) → Tells e.path.discovery [] (unopened_in s b arrival e).end.path.discovery
unopened_tells states.Open true arrival e = still e.path.discovery [] tt
unopened_tells states.Open false arrival e = still e.path.discovery [] tt
unopened_tells states.Closing b arrival e = still e.path.discovery [] tt
unopened_tells states.Drained b arrival e = still e.path.discovery [] tt
unopened_tells states.Failed b arrival e = still e.path.discovery [] tt

-- ids that are drawn leave the search
drawn_tells : (b : Bool) (p : Policy) (d : Discovery) (ts : List Told) (e : End) → Tells d ts e.path.discovery → Tells d ts (drawn_if b p e).path.discovery
drawn_tells true p d ts e t = t
drawn_tells false p d ts e t = t

-- and so does another path
moved_tells : (b : Bool) (p : Policy) (o : Opening) (remote : ℕ) (d : Discovery) (ts : List Told) (e : End) → Tells d ts e.path.discovery → Tells d ts (migrated_if b p o remote e).path.discovery
moved_tells true p o remote d ts e t = by_migrated (λ (x : End). Tells d ts x.path.discovery) p o remote e (λ c. t) (λ c most. t)
moved_tells false p o remote d ts e t = t

opened_as_tells : (o : Option Opening) (p : Policy) (arrival : Arrival) (e : End) → Tells e.path.discovery (told_opened_as o (early arrival) e) (opened_as o p arrival e).end.path.discovery
opened_as_tells None p arrival e = unopened_tells e.closing.state arrival.last arrival e
opened_as_tells (Some o) p arrival e =
    let out = with_ids_drawn p (opened_to o arrival e) in
    moved_tells (has_migrated o arrival.remote e out) p o arrival.remote e.path.discovery (told_opened o (early arrival) e) out.end
    (drawn_tells (is_read (opened_to o arrival e).answer) p e.path.discovery (told_opened o (early arrival) e) (opened_to o arrival e).end (opened_tells o arrival e))

headed_tells : (r : Result (List ℕ) DropReason) (p : Policy) (e : End) (arrival : Arrival) (d : List ℕ) → Tells e.path.discovery (told_headed r p e (early arrival) d) (headed r p e arrival d).end.path.discovery
headed_tells (Err error) p e arrival d = still e.path.discovery [] tt
headed_tells (Ok id) p e arrival d = opened_as_tells (opening p e d) p arrival e

received_tells : (s : State) (p : Policy) (e : End) (arrival : Arrival) (d : List ℕ) → Tells e.path.discovery (told_received_in s p e (early arrival) d) (received_in s p e arrival d).end.path.discovery
received_tells states.Failed p e arrival d = still e.path.discovery [] tt
received_tells states.Drained p e arrival d = still e.path.discovery [] tt
received_tells states.Open p e arrival d = headed_tells (head e arrival.remote d) p e arrival d
received_tells states.Closing p e arrival d = headed_tells (head e arrival.remote d) p e arrival d

delivered_tells : (p : Policy) (e : End) (arrival : Arrival) (o : Option (List ℕ)) → Tells e.path.discovery (told_delivered p e (early arrival) o) (after_delivered p e arrival o).path.discovery
delivered_tells p e arrival None = still e.path.discovery [] tt
delivered_tells p e arrival (Some d) = received_tells e.closing.state p e arrival d

-- timers expire
judged_tells : (o : Option ℕ) (e : End) → Tells e.path.discovery (told_judged o e) (loss_judged o e).path.discovery
judged_tells None e = still e.path.discovery [] tt
judged_tells (Some moment) e = losses_tell false e

expired_tells : (b : Bool) (e : End) → Tells e.path.discovery (told_expired b e) (loss_expired b e).path.discovery
expired_tells true e = judged_tells e.tracking.loss_time e
expired_tells false e = still e.path.discovery [] tt

timed_out_tells : (s : State) (p : Policy) (e : End) (now : ℕ) → Tells e.path.discovery (told_timed_out_in s e now) (timed_out_in s p e now).end.path.discovery
timed_out_tells states.Open p e now = by_expiring p.words TellsSo TellsSo others (λ f i. i) (λ f i. i) x (loss_expired x.loss begun) (expired_tells x.loss begun)
  where
    begun : End
    begun = with_closing e (ticked e.closing now)

    x : Expiry
    x = expiry_at begun.closing.clock begun.timers

    TellsSo : End → Type 0
    TellsSo f = Tells e.path.discovery (told_expired x.loss begun) f.path.discovery

    -- the other timers leave the search
    others : (s : Expired) (f : End) → TellsSo f → TellsSo (expiring.after s f)
    others expiring.of_acks f i = i
    others s f i = i
timed_out_tells states.Closing p e now = by_waits (λ (f : End). Tells e.path.discovery [] f.path.discovery) (has_come e.timers.close (ticked e.closing now).clock) (with_closing e (ticked e.closing now)) (still e.path.discovery [] tt) (still e.path.discovery [] tt)
timed_out_tells states.Drained p e now = still e.path.discovery [] tt
timed_out_tells states.Failed p e now = still e.path.discovery [] tt

-- an end is polled
polled_tells : (p : Policy) (e : End) (now : ℕ) → Tells e.path.discovery (told_polled_in e.closing.state p e now) (polled p e now).end.path.discovery
polled_tells p e now = quiet e.path.discovery (polled p e now).end.path.discovery (told_polled_in e.closing.state p e now)
    (λ h. polled_search (bounds.IsSized 1200 MAX_UDP_PAYLOAD) (sized_polled 1200 MAX_UDP_PAYLOAD) p e now h)
    (polled_search (λ (d : Discovery). d.size ≡ current_mtu e.path) (λ moment number d same. same) p e now refl) (none_polled e.closing.state p e now)

-- the search stays behind other calls
pub others_leave : (p : Policy) (e : End) (theirs : List (List ℕ)) (call : Call) (a : Answer) → is_delivery call ≡ false → is_poll call ≡ false → is_timeout call ≡ false → (after_call p e theirs call a).path.discovery ≡ e.path.discovery
others_leave p e theirs call a apart silent timeless = by_plain_call p e theirs (λ (x : End). x.path.discovery ≡ e.path.discovery) call a keep
  where
    keep : Plain p e call (λ (x : End). x.path.discovery ≡ e.path.discovery)
    keep (cases.times now expiry) is = (let clash : true ≡ false = sym is ∙ timeless in cc)
    keep (cases.polls now) is = (let clash : true ≡ false = sym is ∙ silent in cc)
    keep (cases.hears arrival d) is = (let clash : true ≡ false = sym is ∙ apart in cc)
    keep (cases.closes reason f now) may = refl
    keep (cases.waits now b) may = by_waits (λ (x : End). x.path.discovery ≡ e.path.discovery) b (with_closing e (ticked e.closing now)) refl refl
    keep (cases.changes_id a) may = by_next_id (λ (x : End). x.path.discovery ≡ e.path.discovery) e a refl (λ c. refl) (λ c most. refl)
    keep c may = refl

other_tells : (p : Policy) (e : End) (theirs : List (List ℕ)) (call : Call) (a : Answer) → is_delivery call ≡ false → is_poll call ≡ false → is_timeout call ≡ false → Tells e.path.discovery [] (after_call p e theirs call a).path.discovery
other_tells p e theirs call a apart silent timeless = subst (λ (f : Discovery). Tells e.path.discovery [] f) (sym (others_leave p e theirs call a apart silent timeless)) (still e.path.discovery [] tt)

-- what a call tells
pub call_tells : (p : Policy) (e : End) (theirs : List (List ℕ)) (call : Call) (a : Answer) → Tells e.path.discovery (tells p e theirs call) (after_call p e theirs call a).path.discovery
call_tells p e theirs (calls.Poll now) a = polled_tells p e now
call_tells p e theirs (calls.Timeout now) a = timed_out_tells e.closing.state p e now
call_tells p e theirs (calls.Deliver delivery) a = delivered_tells p e (delivered_by (says_last a) delivery) (slice_get theirs delivery.index)
call_tells p e theirs call a = other_tells p e theirs call a refl refl refl

-- ---- one step

-- a poll that reads the window leaves the search
pub reads_search : (control : Control) (heard : Heard) (call : Call) (e : End) → (reads_window control heard call e).path.discovery ≡ e.path.discovery
reads_search control heard (calls.Poll now) e = refl
reads_search control heard call e = refl

-- so does a step, whichever end it is made at
pub step_tells : (side : Side) (k : Policies) (w next : World) (event : RunEvent) (a : Answer) → fails a ≡ false → IsStep k w event a next → Tells (search_at side w) (told_by_step side k w event) (search_at side next)
step_tells side k w next event a served s = go side event.side event.call s
  where
    -- the end that is called
    called : (p : Policy) (control : Control) (heard : Heard) (e left : End) (theirs : List (List ℕ)) (call : Call) → IsLeft (fails a) p control heard e theirs call a left → Tells e.path.discovery (tells p (reads_window control heard call e) theirs call) left.path.discovery
    called p control heard e left theirs call is =
        let read : End = reads_window control heard call e in
        let ends : left ≡ end_left p control heard e theirs call a = subst (λ (b : Bool). IsLeft b p control heard e theirs call a left) served is in
        subst (λ (x : End). Tells e.path.discovery (tells p read theirs call) x.path.discovery) (sym ends)
        (subst (λ (d : Discovery). Tells d (tells p read theirs call) (after_call p read theirs call a).path.discovery) (reads_search control heard call e) (call_tells p read theirs call a))

    -- the other end is as it was
    other : (d f : Discovery) → f ≡ d → Tells d [] f
    other d f same = subst (λ (x : Discovery). Tells d [] x) (sym same) (still d [] tt)

    go : (side by : Side) (call : Call) → IsStep k w (record { side = by; call = call }) a next → Tells (search_at side w) (told_by_step side k w (record { side = by; call = call })) (search_at side next)
    go Client Client call s = called k.client w.client_control w.client_heard w.client next.client w.from_server call s.end
    go Server Server call s = called k.server w.server_control w.server_heard w.server next.server w.from_client call s.end
    go Client Server call s = other w.client.path.discovery next.client.path.discovery (ap (λ (v : World). v.client.path.discovery) s.others)
    go Server Client call s = other w.server.path.discovery next.server.path.discovery (ap (λ (v : World). v.server.path.discovery) s.others)

-- ---- a run

-- so it is of what a controller was told by a run
pub history_tells : (side : Side) (k : Policies) (w end : World) (events : List RunEvent) (answers : List Answer) (told : List Told) → list_any fails answers ≡ false → WasTold side k w events answers end told → Tells (search_at side w) told (search_at side end)
history_tells side k w end events [] told served was =
    subst (λ (ts : List Told). Tells (search_at side w) ts (search_at side end)) (sym was.1) (subst (λ (v : World). Tells (search_at side w) [] (search_at side v)) (sym was.0) (still (search_at side w) [] tt))
history_tells side k w end [] (a ∷ answers) told served was = absurd was
history_tells side k w end (e ∷ events) (a ∷ answers) told served was =
    let parts = or_parts (fails a) (list_any fails answers) served in
    let next : World = was.0 in
    let later : List Told = was.1 in
    let now : List Told = told_by_step side k w e in
    subst (λ (ts : List Told). Tells (search_at side w) ts (search_at side end)) (sym was.3)
    (both (search_at side w) (search_at side next) (search_at side end) now later (step_tells side k w next e a parts.0 was.2) (history_tells side k next end events answers later parts.1 was.4))

-- ---- the clause

-- a view shows the sizes of both ends
pub size_there : (side : Side) (w : World) → mtu_in (view_of w) side ≡ (search_at side w).size
size_there Client w = refl
size_there Server w = refl

-- the size that a view shows is the last that the controller of its end was told of, or that with
-- which the path began
pub size_is_of_history : (r : Run) (end : World) → IsRun r end → SizeIsOfHistory r
size_is_of_history r end run side i v served there =
    let lead = first_lead (suc i) r.keys r.start r.events r.answers r.views end run.follows in
    let h = history side r.keys r.start (take (suc i) r.events) (take (suc i) r.answers) (take (suc i) r.views) lead.0 lead.1 served in
    let seen : v ≡ view_of lead.0 = last_view r.keys i r.start lead.0 r.events r.answers r.views v lead.1 there in (
      lead.0,
      h.told,
      h.was,
      ap (λ (u : View). mtu_in u side) seen ∙ size_there side lead.0 ∙ (history_tells side r.keys r.start lead.0 (take (suc i) r.events) (take (suc i) r.answers) h.told served h.was).size,
    )
