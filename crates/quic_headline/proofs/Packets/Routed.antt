-- Where the observer of an end knows its peer to be, once a datagram came: where the end takes it
-- to be (RFC 9000, section 9); and what is in flight then.
use Rattle.std.proofs.Common.{◌≡◌, ℕ, ◌+◌, max, Bool, true, false, ◌||◌, List, [], ◌∷◌, map, Option, Some, None, Ok, refl, sym, ap, ◌∙◌, subst, inl, inr}
use Rattle.std.specs.Prelude.{◌==◌, ◌&&◌, not, nat_le, if◌then◌else◌}
use Rattle.std.specs.List.{list_any}
use Rattle.std.proofs.Math.Bool.{and-true, and-false}
use Rattle.std.proofs.lemmas.Bool.{or_from, or_left, or_right}
use Rattle.quic_wire_core.specs.declared.shared.EcnCodepoint.{EcnCodepoint}
use Rattle.quic_wire.specs.Value.{FrameValue, ack, connection_close, application_close}
use Rattle.quic_wire.specs.Close.{CloseValue}
use Rattle.quic_packet.specs.Datagram.{Opening}
use Rattle.quic_spaces.specs.Numbers.{expected, number_opened, number_taken}
use Rattle.quic_machine.specs.declared.answers.State.{State}
use Rattle.quic_machine.specs.declared.answers.State.TheVariants as states
use Rattle.quic_machine.specs.declared.run.Call.TheVariants as calls
use Rattle.quic_machine.specs.declared.run.Delivery.{Delivery}
use Rattle.quic_machine.specs.Policy.{Policy}
use Rattle.quic_machine.specs.Closing.{Closing, close_asked}
use Rattle.quic_machine.specs.End.{End, side_of, with_closing, closed_by, with_numbers}
use Rattle.quic_machine.specs.Calls.{is_open}
use Rattle.quic_machine.specs.IdFrames.{drawn}
use Rattle.quic_machine.specs.Migration.{is_client, is_there, is_probing, migrated}
use Rattle.quic_machine.specs.Receive.{Fault, closed_by_peer, reason_of, Outcome, take_frame, take_items, unless_fault, asks_in, is_urged, after_taken, drained_at, exhausted, migrated_if}
use Rattle.quic_machine.specs.FrameCases.{begun, passed, named, Settling, acked_keeps, frame_keeps, frame_leaves, apart_leaves, frames_keep}
use Rattle.quic_machine.specs.Steps as steps
use Rattle.quic_headline.specs.Runs.{Packet, Intake, In, expected_behind}
use Rattle.quic_headline.specs.Observer.{Terms, Flight, Route, Watch, news, is_close, after_ack, after_frames, moved_to, tells_other, route_behind, watch_moved}
use Rattle.quic_headline.proofs.Packets.Stays.{keeps_frames}
use Rattle.quic_headline.proofs.Packets.Apart.{AsksOn}
use Rattle.quic_headline.proofs.Packets.Moved.{by_migrated}
use Rattle.quic_headline.proofs.Packets.Moving.{moved_frequency}
use Rattle.quic_headline.proofs.Packets.Delivered.{frames_at, arrived, with_taken, with_refused, ArrivalsFrom, moves_by}
use Rattle.quic_headline.proofs.Packets.Strays.{any_at, same_at}
use Rattle.quic_headline.proofs.Packets.Owing.{closing_among}
use Rattle.quic_headline.proofs.Packets.Flying.{held, Waits, frames_wait, ticked_waits, numbers_wait}
use Rattle.quic_headline.proofs.Packets.Watching.{moved_none, one_new, IsRoute, IsWatched, closed_watched, Alike, alike_waits, with_delivery, nothing_delivered, packet_delivered, closes_is}

-- ---- frames

-- frames leave where the path leads
settles_remote : (remote : ℕ) → Settling (λ (x : End). x.path.remote ≡ remote)
settles_remote remote (steps.known n) x i = i
settles_remote remote s x i = i

pub frames_route : (fs : List FrameValue) (e : End) → (passed fs e).end.path.remote ≡ e.path.remote
frames_route fs e = frames_keep Same (frame_keeps Same (record {
  ack = λ rises a x i. acked_keeps Same (settles_remote e.path.remote) rises a (named a x) i;
  on_streams = λ f x on i. frame_leaves Same f x on (λ t. i);
  apart = λ f x is i. apart_leaves Same f x is (λ c. i) (λ c most. i);
  message = λ m x i. i;
})) fs e refl
  where
    Same : End → Type 0
    Same x = x.path.remote ≡ e.path.remote

-- ---- where the peer is

-- a frame that is taken closes nothing
pub closeless_frame : (f : FrameValue) (e : End) → (take_frame f e).fault ≡ None → is_close f ≡ false
closeless_frame (connection_close c) e is = cc
closeless_frame (application_close c) e is = cc
closeless_frame f e is = refl

-- where all are taken, none does
pub closeless_frames : (fs : List FrameValue) (e : End) → (passed fs e).fault ≡ None → list_any is_close fs ≡ false
closeless_frames [] e none = refl
closeless_frames (f ∷ fs) e none = go (take_frame f e).fault refl none (closeless_frames fs (take_frame f e).end)
  where
    go : (o : Option Fault) → (take_frame f e).fault ≡ o → (unless_fault o (take_frame f e) (take_items (map Ok fs))).fault ≡ None → ((passed fs (take_frame f e).end).fault ≡ None → list_any is_close fs ≡ false) → (is_close f || list_any is_close fs) ≡ false
    go None is rest later = or_from (is_close f) (list_any is_close fs) (closeless_frame f e is) (later rest)
    go (Some x) is rest later = (let clash : Some x ≡ None = sym is ∙ rest in cc)

-- one among others closes
pub close_among : (fs : List FrameValue) (f : FrameValue) → In f fs → is_close f ≡ true → list_any is_close fs ≡ true
close_among [] f i closes = absurd i
close_among (g ∷ fs) f (inl is) closes = or_left (is_close g) (list_any is_close fs) (ap is_close (sym is) ∙ closes)
close_among (g ∷ fs) f (inr i) closes = or_right (is_close g) (list_any is_close fs) (close_among fs f i closes)

-- the end that is on another path is watched as it was before
module _ (p : Policy) (o : Opening) (remote : ℕ) (e : End) where
  pub moved_path : ((migrated p o remote e).path.remote ≡ remote) × ((migrated p o remote e).path.generation ≡ e.path.generation + 1)
  moved_path = by_migrated (λ (x : End). (x.path.remote ≡ remote) × (x.path.generation ≡ e.path.generation + 1)) p o remote e (λ c. (refl, refl)) (λ c most. (refl, refl))

  moved_alike : Alike e (migrated p o remote e)
  moved_alike = by_migrated (λ (x : End). AsksOn e.frequency x.frequency → Alike e x) p o remote e
      (λ c on. record { clock = refl; numbers = refl; tracking = refl; transport = refl; peer = refl; rtt = refl; delay = on.peer_delay; request = on.in_flight })
      (λ c most on. record { clock = refl; numbers = refl; tracking = refl; transport = refl; peer = refl; rtt = refl; delay = on.peer_delay; request = on.in_flight })
      (moved_frequency p o remote e)

-- frames of path validation acknowledge nothing
pub flight_at : (t : Terms) (clock : ℕ) (here : Bool) (fs : List FrameValue) (f : Flight) → after_frames t clock (frames_at here fs) f ≡ after_frames t clock fs f
flight_at t clock true fs f = refl
flight_at t clock false [] f = refl
flight_at t clock false (ack a ∷ fs) f = flight_at t clock false fs (after_ack t clock a f)
flight_at t clock false (g ∷ fs) f = flight_at t clock false fs f

-- whether a packet tells that the peer has moved, where the observer knows where it was
abbrev pub told_route : Bool → ℕ → Route → Route
told_route moves remote r = if moves then moved_to remote r else r

module _ (serves : Bool) (e : End) (w : Watch) (n : ℕ) (frames : List FrameValue) (delivery : Delivery) (side : not (is_client (side_of e)) ≡ serves) (expects : expected e.numbers ≡ expected_behind w.intake.took) (address : e.path.remote ≡ w.route.address) where
  abbrev packet : Packet
  packet = record { number = n; frames = frames }

  abbrev telling : Bool
  telling = list_any (λ f. not (is_probing f)) frames

  -- a packet that closes nothing tells what the end takes it to
  route_taken : list_any is_close frames ≡ false → route_behind serves w.intake.took (packet ∷ []) (calls.Deliver delivery) w.route ≡ told_route (moves_by delivery.remote n frames e) delivery.remote w.route
  route_taken closeless =
      go serves
      ∙ ap (λ (b : Bool). told_route (b && apart) delivery.remote w.route) (sym side)
      ∙ ap (λ (m : ℕ). told_route (not (is_client (side_of e)) && (not (delivery.remote == m) && (nat_le (expected_behind w.intake.took) n && telling))) delivery.remote w.route) (sym address)
      ∙ ap (λ (m : ℕ). told_route (not (is_client (side_of e)) && (not (delivery.remote == e.path.remote) && (nat_le m n && telling))) delivery.remote w.route) (sym expects)
    where
      apart : Bool
      apart = not (delivery.remote == w.route.address) && (nat_le (expected_behind w.intake.took) n && telling)

      closes_not : (telling && not (list_any is_close frames)) ≡ telling
      closes_not = ap (λ (b : Bool). telling && not b) closeless ∙ and-true telling

      go : (b : Bool) → route_behind b w.intake.took (packet ∷ []) (calls.Deliver delivery) w.route ≡ told_route (b && apart) delivery.remote w.route
      go false = refl
      go true = ap (λ (b : Bool). told_route (not (delivery.remote == w.route.address) && (nat_le (expected_behind w.intake.took) n && b)) delivery.remote w.route) closes_not

  -- one that closes the connection tells nothing
  route_closed : list_any is_close frames ≡ true → route_behind serves w.intake.took (packet ∷ []) (calls.Deliver delivery) w.route ≡ w.route
  route_closed closes = go serves
    where
      none : tells_other w.intake.took packet delivery.remote w.route ≡ false
      none =
          ap (λ (b : Bool). not (delivery.remote == w.route.address) && (nat_le (expected_behind w.intake.took) n && (telling && not b))) closes
          ∙ ap (λ (b : Bool). not (delivery.remote == w.route.address) && (nat_le (expected_behind w.intake.took) n && b)) (and-false telling)
          ∙ ap (λ (b : Bool). not (delivery.remote == w.route.address) && b) (and-false (nat_le (expected_behind w.intake.took) n))
          ∙ and-false (not (delivery.remote == w.route.address))

      go : (b : Bool) → route_behind b w.intake.took (packet ∷ []) (calls.Deliver delivery) w.route ≡ w.route
      go false = refl
      go true = ap (λ (b : Bool). if b then moved_to delivery.remote w.route else w.route) none

-- what the observer knows once a delivery brought this to a server, or to a client
abbrev pub delivered_to : Terms → Bool → Watch → State → Delivery → Intake → Watch
delivered_to t serves w state delivery i = with_delivery t (watch_moved serves i (calls.Deliver delivery) w) state delivery i

-- nothing did
pub nothing_to : (t : Terms) (serves : Bool) (w : Watch) (state : State) (delivery : Delivery) → delivered_to t serves w state delivery w.intake ≡ w
nothing_to t serves w state delivery = ap (λ (v : Watch). with_delivery t v state delivery w.intake) (moved_none serves (calls.Deliver delivery) w) ∙ nothing_delivered t w state delivery

-- each case of a delivery is watched
module _ (t : Terms) (serves : Bool) (w : Watch) (e : End) (delivery : Delivery) (n : ℕ) (frames : List FrameValue) (side : not (is_client (side_of e)) ≡ serves) (expects : expected e.numbers ≡ expected_behind w.intake.took) (i : IsWatched t w e) where
  abbrev those : List FrameValue
  those = frames_at (is_there delivery.remote e) frames

  abbrev after : End
  after = (arrived e delivery.now n those).end

  abbrev Watches : Outcome → Intake → Type 0
  Watches o j = IsWatched t (delivered_to t serves w e.closing.state delivery j) o.end

  -- frames leave the path, and which one it is
  same_path : IsRoute w.route after.path
  same_path =
      let k = keeps_frames those (begun e delivery.now n) in
      (frames_route those (begun e delivery.now n) ∙ i.address, k.generation ∙ i.path)

  -- what the observer knows where it was told nothing of the peer's address
  still : (j : Intake) → route_behind serves w.intake.took (news w.intake j) (calls.Deliver delivery) w.route ≡ w.route → (x : End) → IsRoute w.route x.path → (x.closing.state ≡ states.Open → ⊥) → IsWatched t (delivered_to t serves w e.closing.state delivery j) x
  still j same x route closed = closed_watched t _ x (subst (λ (r : Route). IsRoute r x.path) (sym same) route) closed

  taken_route : route_behind serves w.intake.took (news w.intake (with_taken w.intake n frames)) (calls.Deliver delivery) w.route ≡ route_behind serves w.intake.took (record { number = n; frames = frames } ∷ []) (calls.Deliver delivery) w.route
  taken_route = ap (λ (ps : List Packet). route_behind serves w.intake.took ps (calls.Deliver delivery) w.route) (one_new w.intake n frames)

  -- the packet is taken, and the peer has moved or hasn't
  taken : (p : Policy) (o : Opening) → e.closing.state ≡ states.Open → (arrived e delivery.now n those).fault ≡ None → (urged : Bool) (mark : Option EcnCodepoint)
      → (let x : End = drawn p.words (after_taken n (asks_in (map Ok frames)) urged mark after) in IsWatched t (delivered_to t serves w e.closing.state delivery (with_taken w.intake n frames)) (migrated_if (moves_by delivery.remote n frames e && is_open x.closing.state) p o delivery.remote x))
  taken p o opened none urged mark =
      subst (λ (v : Watch). IsWatched t v (migrated_if (moves_by delivery.remote n frames e && is_open x.closing.state) p o delivery.remote x)) (sym (packet_delivered t (watch_moved serves (with_taken w.intake n frames) (calls.Deliver delivery) w) e.closing.state delivery n frames opened))
      (subst (λ (r : Route). IsWatched t (record behind { route = r }) (migrated_if (moves_by delivery.remote n frames e && is_open x.closing.state) p o delivery.remote x)) (sym (taken_route ∙ route_taken serves e w n frames delivery side expects i.address closeless))
      (subst (λ (s : State). IsWatched t (record behind { route = told_route (moves_by delivery.remote n frames e) delivery.remote w.route }) (migrated_if (moves_by delivery.remote n frames e && is_open s) p o delivery.remote x)) (sym x_open) (go (moves_by delivery.remote n frames e))))
    where
      x : End
      x = drawn p.words (after_taken n (asks_in (map Ok frames)) urged mark after)

      behind : Watch
      behind = record w { intake = with_taken w.intake n frames; clock = max w.clock delivery.now; flight = after_frames t (max w.clock delivery.now) frames w.flight }

      closeless : list_any is_close frames ≡ false
      closeless = sym (same_at is_close refl (λ token. refl) (λ token. refl) (is_there delivery.remote e) frames) ∙ closeless_frames those (begun e delivery.now n) none

      x_open : x.closing.state ≡ states.Open
      x_open = ap (λ (c : Closing). c.state) (keeps_frames those (begun e delivery.now n)).closing ∙ opened

      -- what is in flight is as the observer reckons it
      waits : Waits t (max w.clock delivery.now) (after_frames t (max w.clock delivery.now) frames w.flight) (held x)
      waits =
          let begins : Waits t (max w.clock delivery.now) w.flight (held (begun e delivery.now n)) = ticked_waits t w.clock delivery.now w.flight (record (held e) { numbers = number_opened e.numbers n }) (numbers_wait t w.clock w.flight (held e) (number_opened e.numbers n) refl (i.flight opened)) in
          numbers_wait t (max w.clock delivery.now) (after_frames t (max w.clock delivery.now) frames w.flight) (held after) (number_taken after.numbers n) refl
          (subst (λ (f : Flight). Waits t (max w.clock delivery.now) f (held after)) (flight_at t (max w.clock delivery.now) (is_there delivery.remote e) frames w.flight) (frames_wait t (max w.clock delivery.now) those w.flight (begun e delivery.now n) none begins))

      go : (b : Bool) → IsWatched t (record behind { route = told_route b delivery.remote w.route }) (migrated_if (b && true) p o delivery.remote x)
      go false = record { path = same_path.1; address = same_path.0; flight = λ still_open. waits }
      go true = (
          let moved = moved_path p o delivery.remote x in
          record {
            path = moved.1 ∙ ap (λ (m : ℕ). m + 1) same_path.1;
            address = moved.0;
            flight = λ still_open. alike_waits t (max w.clock delivery.now) (after_frames t (max w.clock delivery.now) frames w.flight) x (migrated p o delivery.remote x) (moved_alike p o delivery.remote x) waits;
          })

  pub arrivals_watched : ArrivalsFrom delivery.remote delivery.ecn e delivery.now n frames w.intake Watches
  arrivals_watched = record {
    ignored = λ reason. subst (λ (v : Watch). IsWatched t v e) (sym (nothing_to t serves w e.closing.state delivery)) i;
    noted = λ state reason. still w.intake (ap (λ (v : Watch). v.route) (moved_none serves (calls.Deliver delivery) w)) (with_closing (with_numbers e (number_opened e.numbers n)) (close_asked e.closing)) (i.address, i.path) (λ opened. (let clash : states.Closing ≡ states.Open = sym state ∙ opened in cc));
    takes = λ p o same state new none. taken p o state none (is_urged delivery.ecn (asks_in (map Ok frames)) (map Ok those) (begun e delivery.now n)) delivery.ecn;
    drains = λ words state new close is. still (with_taken w.intake n frames) (taken_route ∙ route_closed serves e w n frames delivery side expects i.address (closes close is)) (drawn words (drained_at n close after)) same_path (λ opened. cc);
    refuses = λ words state new f is. still (with_refused w.intake n frames) (ap (λ (v : Watch). v.route) (moved_none serves (calls.Deliver delivery) w)) (drawn words (closed_by (reason_of f) after)) same_path (λ opened. cc);
    exhausts = λ state. still w.intake (ap (λ (v : Watch). v.route) (moved_none serves (calls.Deliver delivery) w)) (exhausted delivery.now e) (i.address, i.path) (λ opened. cc);
  }
    where
      closes : (close : CloseValue) → (arrived e delivery.now n those).fault ≡ Some (closed_by_peer close) → list_any is_close frames ≡ true
      closes close is =
          let found = closing_among those (begun e delivery.now n) close is in
          any_at is_close refl (is_there delivery.remote e) frames (close_among those found.0 found.1 (closes_is found.0 found.2))
