-- What a datagram makes of an end, where each frame that is taken is one of those to which it opens
-- there.
use Rattle.std.proofs.Common.{◌≡◌, ℕ, Bool, true, false, not, ◌||◌, ◌==◌, List, [], ◌∷◌, map, Option, Some, None, Result, Ok, Err, refl, sym, ap, ◌∙◌, inl, inr}
use Rattle.std.specs.Prelude.{if◌then◌else◌}
use Rattle.quic_wire_core.specs.declared.shared.EcnCodepoint.{EcnCodepoint}
use Rattle.quic_wire.specs.Value.{FrameValue, path_challenge, path_response}
use Rattle.quic_wire.specs.Items.{items}
use Rattle.quic_wire.specs.Close.{CloseValue}
use Rattle.quic_wire.specs.declared.frame.InvalidFrame.{InvalidFrame}
use Rattle.quic_packet.specs.Header.{key_phase, reserved_bits}
use Rattle.quic_packet.specs.Destination.{is_known}
use Rattle.quic_packet.specs.declared.packet.HeaderError.{HeaderError}
use Rattle.quic_packet.specs.Datagram.{Opening}
use Rattle.quic_recovery_core.specs.Duplicates.{is_duplicate}
use Rattle.quic_spaces.specs.Numbers.{expected, number_opened}
use Rattle.quic_machine.specs.Arrival.{Arrival}
use Rattle.quic_machine.specs.Closing.{close_asked}
use Rattle.quic_machine.specs.declared.answers.State.{State}
use Rattle.quic_machine.specs.declared.answers.State.TheVariants as states
use Rattle.quic_machine.specs.declared.answers.DropReason.{DropReason}
use Rattle.quic_machine.specs.declared.answers.DropReason.TheVariants as drops
use Rattle.quic_machine.specs.declared.answers.LostReason.{LostReason}
use Rattle.quic_machine.specs.Ids.{known}
use Rattle.quic_machine.specs.Policy.{Policy}
use Rattle.quic_machine.specs.End.{End, with_closing, closed_by, with_numbers}
use Rattle.quic_machine.specs.Opens.{in_phase, head, opens_behind, opens}
use Rattle.quic_machine.specs.Migration.{is_there, as_elsewhere, item_elsewhere, items_at, migrated}
use Rattle.quic_machine.specs.IdFrames.{drawn}
use Rattle.quic_machine.specs.Receive.{Fault, broke, too_many_pieces, closed_by_peer, drained_at, exhausted, unopened_in, violation, reason_of, Progress, take_frame, unless_fault, take_items, is_empty, take_payload, asks_in, is_urged, after_taken, dropped, ends_as, by_state, opened_to, opened_as, opening, headed, received_in, is_read, drawn_if, with_ids_drawn, has_migrated, migrated_if, received}
use Rattle.quic_machine.specs.FrameCases.{begun}
use Rattle.quic_headline.specs.Runs.{In, frames_of, destination, opens_by_key}
use Rattle.quic_headline.specs.Alone.{CameOpen}
use Rattle.quic_headline.proofs.Packets.ByKey.{counted, opens_by_id}
use Rattle.quic_headline.proofs.Packets.Elsewhere.{head_decodes}

-- a frame of a datagram as it opens at an end
pub record Stands (p : Policy) (e : End) (d : List ℕ) (f : FrameValue) : Type 0 where
  pub opening : Opening
  pub opened : opens p (known e.ids) (expected e.numbers) d ≡ Some opening
  pub carried : In f (frames_of (items opening.payload))

-- what a datagram opens to at an end, it opens to by its key
pub opened_by_key : (p : Policy) (e : End) (d : List ℕ) (o : Opening) → opens p (known e.ids) (expected e.numbers) d ≡ Some o → opens_by_key p (expected e.numbers) d ≡ Some o
opened_by_key p e d o is = if_counted (is_known (destination d) (known e.ids)) (opens_by_key p (expected e.numbers) d) (sym (opens_by_id p (known e.ids) (expected e.numbers) d) ∙ is)
  where
    if_counted : (b : Bool) (x : Option Opening) → counted b x ≡ Some o → x ≡ Some o
    if_counted true x same = same
    if_counted false x same = cc

pub came_open : (p : Policy) (ds : List (List ℕ)) (e : End) (d : List ℕ) (f : FrameValue) (stands : Stands p e d f) → In d ds → (packet : CameOpen p ds) × In f (frames_of (items packet.opening.payload))
came_open p ds e d f stands handed = (record { bytes = d; handed = handed; expected = expected e.numbers; opening = stands.opening; opened = opened_by_key p e d stands.opening stands.opened }, stands.carried)

-- what frames and refusals a payload has
abbrev pub Items : Type 0
Items = List (Result FrameValue InvalidFrame)

-- What each step keeps that a datagram makes of an end, of frames that stand in it, where these
-- items are still to be taken: none are at the end, since those behind a fault aren't. A frame is
-- passed over where it is one of path validation that came from elsewhere.
pub record TakesEach (stands : FrameValue → Type 0) (P : Items → End → Type 0) : Type 0 where
  pub frame : (f : FrameValue) → stands f → (is : Items) (e : End) → P (Ok f ∷ is) e → P is (take_frame f e).end
  pub passes : (f : FrameValue) → stands f → (is : Items) (e : End) → P (Ok f ∷ is) e → P is e
  pub stops : (is : Items) (e : End) → P is e → P [] e
  pub notes : (n : ℕ) (e : End) → P [] e → P [] (with_numbers e (number_opened e.numbers n))
  pub begins : (now n : ℕ) (is : Items) (e : End) → P is e → P is (begun e now n)
  pub takes : (n : ℕ) (asks urged : Bool) (mark : Option EcnCodepoint) (e : End) → P [] e → P [] (after_taken n asks urged mark e)
  pub closes : (reason : LostReason) (e : End) → P [] e → P [] (closed_by reason e)
  pub drains : (close : ℕ × CloseValue) (e : End) → P [] e → P [] (drained_at close.0 close.1 e)
  pub asks_close : (e : End) → P [] e → P [] (with_closing e (close_asked e.closing))
  pub exhausts : (now : ℕ) (e : End) → P [] e → P [] (exhausted now e)
  pub draws : (words : ℕ → ℕ) (e : End) → P [] e → P [] (drawn words e)
  pub moves : (p : Policy) (o : Opening) (remote : ℕ) (e : End) → P [] e → P [] (migrated p o remote e)

module _ (stands : FrameValue → Type 0) (P : Items → End → Type 0) (c : TakesEach stands P) where
  unless_came : (fault : Option Fault) (q : Progress) (is : Items) (next : End → Progress) → P is q.end → ((e : End) → P is e → P [] (next e).end) → P [] (unless_fault fault q next).end
  unless_came None q is next i more = more q.end i
  unless_came (Some fault) q is next i more = c.stops is q.end i

  -- all items, up to the first fault
  items_came : (is : Items) → ((f : FrameValue) → In f (frames_of is) → stands f) → (e : End) → P is e → P [] (take_items is e).end
  items_came [] all e i = i
  items_came (Ok f ∷ is) all e i = unless_came (take_frame f e).fault (take_frame f e) is (take_items is) (c.frame f (all f (inl refl)) is e i) (items_came is (λ g among. all g (inr among)))
  items_came (Err x ∷ is) all e i = c.stops (Err x ∷ is) e i

  -- a frame of path validation that came from elsewhere is passed over
  elsewhere_came : (f : FrameValue) → stands f → (is : Items) (e : End) → P (Ok f ∷ is) e → P is (take_frame (as_elsewhere f) e).end
  elsewhere_came (path_challenge token) stood is e i = c.passes (path_challenge token) stood is e i
  elsewhere_came (path_response token) stood is e i = c.passes (path_response token) stood is e i
  elsewhere_came f stood is e i = c.frame f stood is e i

  strays_came : (is : Items) → ((f : FrameValue) → In f (frames_of is) → stands f) → (e : End) → P is e → P [] (take_items (map item_elsewhere is) e).end
  strays_came [] all e i = i
  strays_came (Ok f ∷ is) all e i =
      unless_came (take_frame (as_elsewhere f) e).fault (take_frame (as_elsewhere f) e) is (take_items (map item_elsewhere is)) (elsewhere_came f (all f (inl refl)) is e i) (strays_came is (λ g among. all g (inr among)))
  strays_came (Err x ∷ is) all e i = c.stops (Err x ∷ is) e i

  payload_came : (first : ℕ) (here : Bool) (is : Items) → ((f : FrameValue) → In f (frames_of is) → stands f) → (e : End) → P is e → P [] (take_payload first (items_at here is) e).end
  payload_came first here is all e i = go (not (reserved_bits first == 0) || is_empty (items_at here is))
    where
      taken : (there : Bool) → P [] (take_items (items_at there is) e).end
      taken true = items_came is all e i
      taken false = strays_came is all e i

      go : (b : Bool) → P [] (if b then record { end = e; fault = Some violation } else take_items (items_at here is) e).end
      go true = c.stops is e i
      go false = taken here

  -- all frames were taken, or one was at fault
  ends_came : (fault : Option Fault) (asks urged : Bool) (n : ℕ) (mark : Option EcnCodepoint) (e : End) → P [] e → P [] (ends_as fault asks urged n mark e).end
  ends_came None asks urged n mark e i = c.takes n asks urged mark e i
  ends_came (Some (closed_by_peer close)) asks urged n mark e i = c.drains (n, close) e i
  ends_came (Some (broke error)) asks urged n mark e i = c.closes (reason_of (broke error)) e i
  ends_came (Some too_many_pieces) asks urged n mark e i = c.closes (reason_of too_many_pieces) e i

  -- a packet whose number is new
  state_came : (state : State) (o : Opening) (arrival : Arrival) (e : End) → ((f : FrameValue) → In f (frames_of (items o.payload)) → stands f) → P (items o.payload) e → P [] e → P [] (by_state state o arrival (with_numbers e (number_opened e.numbers o.number))).end
  state_came states.Open o arrival e all i j =
      let begins = begun e arrival.now o.number in
      let here = is_there arrival.remote e in
      let asks = asks_in (items o.payload) in
      let taken = take_payload o.first (items_at here (items o.payload)) begins in
      ends_came taken.fault asks (is_urged arrival.mark asks (items_at here (items o.payload)) begins) o.number arrival.mark taken.end (payload_came o.first here (items o.payload) all begins (c.begins arrival.now o.number (items o.payload) e i))
  state_came states.Closing o arrival e all i j = c.asks_close (with_numbers e (number_opened e.numbers o.number)) (c.notes o.number e j)
  state_came states.Drained o arrival e all i j = c.notes o.number e j
  state_came states.Failed o arrival e all i j = c.notes o.number e j

  -- a packet that opened, in key phase 0 or not
  opened_came : (o : Opening) (arrival : Arrival) (e : End) → (key_phase o.first ≡ false → (f : FrameValue) → In f (frames_of (items o.payload)) → stands f) → P (items o.payload) e → P [] e → P [] (opened_to o arrival e).end
  opened_came o arrival e all i j = go (key_phase o.first) (is_duplicate e.numbers.opened o.number) refl
    where
      go : (a b : Bool) → key_phase o.first ≡ a → P [] (if a then dropped drops.KeyPhase e else (if b then dropped drops.Duplicate e else by_state e.closing.state o arrival (with_numbers e (number_opened e.numbers o.number)))).end
      go true b is = j
      go false true is = j
      go false false is = state_came e.closing.state o arrival e (all is) i j

  -- ids are drawn behind a packet whose frames were taken
  drawn_came : (b : Bool) (p : Policy) (e : End) → P [] e → P [] (drawn_if b p e)
  drawn_came true p e i = c.draws p.words e i
  drawn_came false p e i = i

  -- the peer has moved or hasn't
  migrated_came : (b : Bool) (p : Policy) (o : Opening) (remote : ℕ) (e : End) → P [] e → P [] (migrated_if b p o remote e)
  migrated_came true p o remote e i = c.moves p o remote e i
  migrated_came false p o remote e i = i

  unopened_came : (state : State) (b : Bool) (arrival : Arrival) (e : End) → P [] e → P [] (unopened_in state b arrival e).end
  unopened_came states.Open true arrival e i = c.exhausts arrival.now e i
  unopened_came states.Open false arrival e i = i
  unopened_came states.Closing b arrival e i = i
  unopened_came states.Drained b arrival e i = i
  unopened_came states.Failed b arrival e i = i

  packet_came : (o : Option Opening) (p : Policy) (arrival : Arrival) (e : End) → ((x : Opening) → o ≡ Some x → key_phase x.first ≡ false → (f : FrameValue) → In f (frames_of (items x.payload)) → stands f) → ((x : Opening) → o ≡ Some x → P (items x.payload) e) → P [] e → P [] (opened_as o p arrival e).end
  packet_came None p arrival e all starts i = unopened_came e.closing.state arrival.last arrival e i
  packet_came (Some o) p arrival e all starts i =
      let out = with_ids_drawn p (opened_to o arrival e) in
      migrated_came (has_migrated o arrival.remote e out) p o arrival.remote out.end (drawn_came (is_read (opened_to o arrival e).answer) p (opened_to o arrival e).end (opened_came o arrival e (all o refl) (starts o refl) i))

module _ (p : Policy) (e : End) (arrival : Arrival) (d : List ℕ) where
  -- what a packet opens to in key phase 0 is what its datagram opens to
  pub opens_to : (id : List ℕ) (o : Opening) → head e arrival.remote d ≡ Ok id → opening p e d ≡ Some o → key_phase o.first ≡ false → opens p (known e.ids) (expected e.numbers) d ≡ Some o
  opens_to id o header is phase =
      ap (λ (r : Result (List ℕ) HeaderError). opens_behind r p (expected e.numbers) d) (head_decodes e arrival.remote d id header)
      ∙ ap (λ (x : Option Opening). in_phase x) is
      ∙ ap (λ (b : Bool). if b then None else Some o) phase

  -- what each step keeps holds after a datagram, where it holds before with what that opens to
  pub by_items : (P : Items → End → Type 0) → TakesEach (Stands p e d) P → ((o : Opening) → opening p e d ≡ Some o → P (items o.payload) e) → P [] e → P [] (received p e arrival d).end
  by_items P c starts i = received_came e.closing.state
    where
      headed_came : (r : Result (List ℕ) DropReason) → head e arrival.remote d ≡ r → P [] (headed r p e arrival d).end
      headed_came (Err error) header = i
      headed_came (Ok id) header = packet_came (Stands p e d) P c (opening p e d) p arrival e (λ o is phase f among. record { opening = o; opened = opens_to id o header is phase; carried = among }) starts i

      received_came : (state : State) → P [] (received_in state p e arrival d).end
      received_came states.Failed = i
      received_came states.Drained = i
      received_came states.Open = headed_came (head e arrival.remote d) refl
      received_came states.Closing = headed_came (head e arrival.remote d) refl

-- the same, whatever is still to be taken
pub record Takes (stands : FrameValue → Type 0) (P : End → Type 0) : Type 0 where
  pub frame : (f : FrameValue) → stands f → (e : End) → P e → P (take_frame f e).end
  pub notes : (n : ℕ) (e : End) → P e → P (with_numbers e (number_opened e.numbers n))
  pub begins : (now n : ℕ) (e : End) → P e → P (begun e now n)
  pub takes : (n : ℕ) (asks urged : Bool) (mark : Option EcnCodepoint) (e : End) → P e → P (after_taken n asks urged mark e)
  pub closes : (reason : LostReason) (e : End) → P e → P (closed_by reason e)
  pub drains : (close : ℕ × CloseValue) (e : End) → P e → P (drained_at close.0 close.1 e)
  pub asks_close : (e : End) → P e → P (with_closing e (close_asked e.closing))
  pub exhausts : (now : ℕ) (e : End) → P e → P (exhausted now e)
  pub draws : (words : ℕ → ℕ) (e : End) → P e → P (drawn words e)
  pub moves : (p : Policy) (o : Opening) (remote : ℕ) (e : End) → P e → P (migrated p o remote e)

pub by_taking : (p : Policy) (e : End) (arrival : Arrival) (d : List ℕ) (P : End → Type 0) → Takes (Stands p e d) P → P e → P (received p e arrival d).end
by_taking p e arrival d P c i = by_items p e arrival d (λ is x. P x) (record {
  frame = λ f stands is x j. c.frame f stands x j;
  passes = λ f stands is x j. j;
  stops = λ is x j. j;
  notes = c.notes;
  begins = λ now n is x j. c.begins now n x j;
  takes = c.takes;
  closes = c.closes;
  drains = c.drains;
  asks_close = c.asks_close;
  exhausts = c.exhausts;
  draws = c.draws;
  moves = c.moves;
}) (λ o is. i) i
