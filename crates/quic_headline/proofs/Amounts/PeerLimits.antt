-- The limits on what an open end sends are those of its peer's transport parameters, and of the
-- frames that came: at each place of an honest run.
use Rattle.std.proofs.Common.{◌≡◌, ℕ, ◌≤◌, max, Bool, true, false, List, ◌∷◌, Option, Some, None, Ok, refl, sym, ap, ◌∙◌, subst, inl, inr, arith}
use Rattle.std.specs.Prelude.{◌&&◌, nat_le, nat_lt, if◌then◌else◌}
use Rattle.std.proofs.lemmas.Bool.{cond_both, both_ways, and_parts, and_cases, ltb-true, ltb-false, le-leb}
use Rattle.quic_wire_core.specs.declared.stream_id.Side.{Side}
use Rattle.quic_wire_core.specs.declared.stream_id.Side.TheVariants.{Client, Server}
use Rattle.quic_wire_core.specs.declared.stream_id.Dir.{Dir}
use Rattle.quic_wire_core.specs.declared.stream_id.Dir.TheVariants.{Bi, Uni}
use Rattle.quic_wire_core.specs.StreamId.{other_side}
use Rattle.quic_parameters.specs.Parameters.{ParameterValues}
use Rattle.quic_parameters.specs.ParametersRead.{parameters_at}
use Rattle.quic_wire.specs.Value.{FrameValue, StreamCountValue, max_streams, path_challenge, path_response}
use Rattle.quic_streams_parts.specs.declared.answers.Breach.TheVariants.{FrameEncoding}
use Rattle.quic_streams_parts.specs.Dirs.{Counts, of, with_of}
use Rattle.quic_streams_parts.specs.Table.{at}
use Rattle.quic_streams_parts.specs.SendHalf.{SendHalf}
use Rattle.quic_streams_halves.specs.Halves.{has_place}
use Rattle.quic_streams_state.specs.declared.state.StreamsState.{StreamsState}
use Rattle.quic_streams_state.specs.State.{Opening}
use Rattle.quic_streams_state.specs.Limits.{most_streams}
use Rattle.quic_streams_state.specs.Opening.{after_open, with_own_limit, after_max_streams}
use Rattle.quic_streams_laws.specs.Each.{HalfIs}
use Rattle.quic_machine.specs.declared.answers.State.TheVariants as states
use Rattle.quic_machine.specs.declared.run.Call.{Call}
use Rattle.quic_machine.specs.declared.run.Call.TheVariants as calls
use Rattle.quic_machine.specs.declared.run.Answer.{Answer}
use Rattle.quic_machine.specs.Tracking.{dir_named}
use Rattle.quic_machine.specs.Start.{AreStarted, IsMaking}
use Rattle.quic_machine.specs.Calls.{is_open}
use Rattle.quic_machine.specs.End.{End}
use Rattle.quic_machine.specs.Receive.{Outcome, fault_of, take_frame}
use Rattle.quic_machine.specs.FrameCases.{begun, passed, frames_taken}
use Rattle.quic_machine.specs.CallCases.{is_delivery}
use Rattle.quic_machine.specs.Machine.{World, IsAnswer, after_call, end_at}
use Rattle.quic_machine.specs.Migration.{as_elsewhere}
use Rattle.quic_headline.specs.Runs.{Run, Packet, Intake, AreServed, state_at, until}
use Rattle.quic_headline.specs.Observer.{Sent, took}
use Rattle.quic_headline.specs.Headline.{IsHonest, IsRun}
use Rattle.quic_headline.specs.Amounts.{making_at, peer_parameters, greatest_in, greatest, data_limit_in, stream_limit_in, data_limit, stream_limit}
use Rattle.quic_headline.specs.PeerLimits.{first_count, count_in, count_limit, KeepsTo, LimitsAreThePeers}
use Rattle.quic_headline.proofs.Packets.Delivered.{Arrivals, frames_at, with_taken}
use Rattle.quic_headline.proofs.Packets.Group.{PacketsHold, meets}
use Rattle.quic_headline.proofs.Packets.Stays.{placed_call}
use Rattle.quic_headline.proofs.Places.Parties.{Party, called, came_to}
use Rattle.quic_headline.proofs.Places.Groups.{Way, Nothing, And, Calls, Group, both}
use Rattle.quic_headline.proofs.Places.Placed.{party_at, Placed, placed, start_is}
use Rattle.quic_headline.proofs.Places.Coming.{by_coming}
use Rattle.quic_headline.proofs.Places.Openings.{took_is}
use Rattle.quic_headline.proofs.Steps.Made.{one_behind}
use Rattle.quic_headline.proofs.Timers.Still.{was_open}
use Rattle.quic_headline.proofs.Unread.OpeningOwn.{call_own, frame_own}
use Rattle.quic_headline.proofs.Amounts.Tally.{Tally, IsTallied, IsFresh, Tallies}
use Rattle.quic_headline.proofs.Amounts.Group.{tally_of}
use Rattle.quic_headline.proofs.Amounts.Clause.{Whole, whole, first_is, all_is}
use Rattle.quic_headline.proofs.Halves.Moved.{streams_stay}
use Rattle.quic_headline.proofs.Amounts.Frames.{greatest_at}

-- ---- how many streams are told

-- what a frame of this kind tells of a direction
abbrev counted : Dir → Bool → ℕ → ℕ
counted Bi one_way count = if one_way then 0 else count
counted Uni one_way count = if one_way then count else 0

counted_is : (dir : Dir) (f : StreamCountValue) → count_in dir (max_streams f) ≡ counted dir f.one_way f.count
counted_is Bi f = refl
counted_is Uni f = refl

-- a count that may be told counts where it is above the one before
told_at : (dir : Dir) (count : ℕ) (s : StreamsState) → count ≤ most_streams → of dir (after_max_streams dir count s).opening.own_limit ≡ max (of dir s.opening.own_limit) count
told_at dir count s few = go (nat_le count most_streams && nat_lt (of dir s.opening.own_limit) count) refl
  where
    put : (d : Dir) (c : Counts) → of d (with_of d count c) ≡ count
    put Bi c = refl
    put Uni c = refl

    go : (b : Bool) → (nat_le count most_streams && nat_lt (of dir s.opening.own_limit) count) ≡ b → of dir (if b then with_own_limit dir count s else s).opening.own_limit ≡ max (of dir s.opening.own_limit) count
    go true is =
        let above = ltb-true (of dir s.opening.own_limit) count (and_parts (nat_le count most_streams) (nat_lt (of dir s.opening.own_limit) count) is).1 in
        let now : of dir (with_of dir count s.opening.own_limit) ≡ count = put dir s.opening.own_limit in
        now ∙ omega arith
    go false is = elim (and_cases (nat_le count most_streams) (nat_lt (of dir s.opening.own_limit) count) is) [
      | inl many ↦ absurd (both_ways (nat_le count most_streams) many (le-leb count most_streams few))
      | inr below ↦ (let less = ltb-false (of dir s.opening.own_limit) count below in omega arith)
    ]

-- the count of the other direction stays
stays_at : (dir other : Dir) (count : ℕ) (s : StreamsState) → ((c : Counts) → of other (with_of dir count c) ≡ of other c) → of other (after_max_streams dir count s).opening.own_limit ≡ of other s.opening.own_limit
stays_at dir other count s same = cond_both (nat_le count most_streams && nat_lt (of dir s.opening.own_limit) count) _ _ (λ (t : StreamsState). of other t.opening.own_limit ≡ of other s.opening.own_limit) (λ more. same s.opening.own_limit) (λ none. refl)

told_more : (dir : Dir) (one_way : Bool) (count : ℕ) (s : StreamsState) → count ≤ most_streams → of dir (after_max_streams (dir_named one_way) count s).opening.own_limit ≡ max (of dir s.opening.own_limit) (counted dir one_way count)
told_more Bi true count s few = stays_at Uni Bi count s (λ c. refl) ∙ omega arith
told_more Bi false count s few = told_at Bi count s few
told_more Uni true count s few = told_at Uni count s few
told_more Uni false count s few = stays_at Bi Uni count s (λ c. refl) ∙ omega arith

-- a count is told that may be, where no rule is broken
few_told : (f : StreamCountValue) (e : End) → (take_frame (max_streams f) e).fault ≡ None → f.count ≤ most_streams
few_told f e none = go (nat_lt most_streams f.count) refl none
  where
    go : (b : Bool) → nat_lt most_streams f.count ≡ b → fault_of (if b then Some FrameEncoding else None) ≡ None → f.count ≤ most_streams
    go true is fault = cc
    go false is fault = ltb-false most_streams f.count is

-- behind frames of a packet, of which these are left, so many may be opened as are told with these
abbrev Tells : (Dir → ℕ) → List FrameValue → Counts → Counts → Type 0
Tells n left own limit = (dir : Dir) → max (of dir limit) (greatest_in (count_in dir) left) ≡ n dir

module _ (n : Dir → ℕ) where
  frame_tells : (f : FrameValue) (left : List FrameValue) (e : End) → (take_frame f e).fault ≡ None → Tells n (f ∷ left) e.streams.opening.own e.streams.opening.own_limit → Tells n left (take_frame f e).end.streams.opening.own (take_frame f e).end.streams.opening.own_limit
  frame_tells (max_streams g) left e none i = λ dir. (
      let was = i dir in
      let counts = counted_is dir g in
      let now = told_more dir g.one_way g.count e.streams (few_told g e none) in
      omega arith)
  frame_tells f left e none i = frame_own (Tells n left) f e (λ g is. cc) (λ dir. (let was = i dir in let nothing : count_in dir f ≡ 0 = elim dir as (λ d. count_in d f ≡ 0) [ Bi ↦ refl | Uni ↦ refl ] in omega arith))

  packet_tells : (frames : List FrameValue) (e : End) → (passed frames e).fault ≡ None → Tells n frames e.streams.opening.own e.streams.opening.own_limit → (dir : Dir) → of dir (passed frames e).end.streams.opening.own_limit ≡ n dir
  packet_tells frames e none i dir = (let last = frames_taken (λ (left : List FrameValue) (x : End). Tells n left x.streams.opening.own x.streams.opening.own_limit) frame_tells frames e none i dir in omega arith)

-- frames of path validation tell none
count_same : (dir : Dir) (f : FrameValue) → count_in dir (as_elsewhere f) ≡ count_in dir f
count_same Bi (path_challenge token) = refl
count_same Bi (path_response token) = refl
count_same Bi f = refl
count_same Uni (path_challenge token) = refl
count_same Uni (path_response token) = refl
count_same Uni f = refl

-- ---- the group

-- as many may be opened as the end that was made so may, and as frames told
abbrev pub CountsAre : StreamsState → List Packet → End → Type 0
CountsAre made packets e = (dir : Dir) → of dir e.streams.opening.own_limit ≡ max (of dir made.opening.own_limit) (greatest (count_in dir) packets)

-- x keeps to the parameters with which it was made, and an open one to how many streams it was told
pub record CountsKnown (x y : Party) : Type 0 where
  pub peer : x.end.peer_params ≡ x.made.peer_params
  pub counts : x.end.closing.state ≡ states.Open → CountsAre x.made.streams (came_to x y).took x.end

module _ (B : Way) (packets : (x y : Party) → B x y → PacketsHold x y) (x y : Party) (call : Call) (a : Answer) (c : Calls B x y call a) (k : CountsKnown x y) where
  abbrev After : End → Intake → Type 0
  After e i = e.closing.state ≡ states.Open → CountsAre x.made.streams i.took e

  -- a call that opens a stream
  open_counts : (b : Bool) (dir : Dir) (s : StreamsState) (d : Dir) → of d (after_open b dir s).opening.own_limit ≡ of d s.opening.own_limit
  open_counts false dir s d = refl
  open_counts true dir s d = cond_both {A = Option ℕ × Opening} (nat_lt (of dir s.opening.own) (of dir s.opening.own_limit)) _ _ (λ t. of d t.1.own_limit ≡ of d s.opening.own_limit) (λ is. refl) (λ is. refl)

  -- any call but a delivery
  apart_counts : (call : Call) → is_delivery call ≡ false → IsAnswer x.policy x.end y.given call a → CountsAre x.made.streams (came_to x y).took x.end → CountsAre x.made.streams (came_to x y).took (after_call x.policy x.end y.given call a)
  apart_counts (calls.Open d) apart is before = λ dir. open_counts (is_open x.end.closing.state) d x.end.streams dir ∙ before dir
  apart_counts call apart is before = call_own (λ own limit. (dir : Dir) → of dir limit ≡ max (of dir x.made.streams.opening.own_limit) (greatest (count_in dir) (came_to x y).took)) x.policy x.end y.given call a apart refl is before

  -- each case of a delivery
  comes_counts : (now : ℕ) (s : Sent) (here : Bool) → Arrivals x.end now s.number s.frames (frames_at here s.frames) (came_to x y) (λ (o : Outcome) (i : Intake). After o.end i)
  comes_counts now s here = record {
    ignored = λ reason. k.counts;
    noted = λ state reason opened. (let clash : states.Closing ≡ states.Open = sym state ∙ opened in cc);
    takes = λ words state new none urged mark opened dir.
        packet_tells (λ d. max (of d x.made.streams.opening.own_limit) (max (greatest_in (count_in d) s.frames) (greatest (count_in d) (came_to x y).took))) (frames_at here s.frames) (begun x.end now s.number) none
        (λ d. (let was = k.counts state d in let same = greatest_at (count_in d) (count_same d) here s.frames in omega arith)) dir;
    moves = λ p o same remote z opened j still. streams_stay (λ (v : StreamsState). (dir : Dir) → of dir v.opening.own_limit ≡ max (of dir x.made.streams.opening.own_limit) (greatest (count_in dir) (with_taken (came_to x y) s.number s.frames).took)) p o remote z (j opened);
    drains = λ words state new close is opened. cc;
    refuses = λ words state new f is opened. cc;
    exhausts = λ state opened. cc;
  }

  counts_step : CountsKnown (called x y.given call a) y
  counts_step = record {
    peer = (placed_call x.policy x.end y.given call a).peer ∙ k.peer;
    counts = by_coming x y a c.joined c.served (meets y x (packets y x c.takes)) After call c.answer (record {
      apart = λ apart opened. apart_counts call apart c.answer (k.counts (was_open x.policy x.end y.given call a opened));
      none = λ delivery is. k.counts;
      comes = λ delivery is s among here. comes_counts delivery.now s here;
    });
  }

pub counts_group : (B : Way) → ((x y : Party) → B x y → PacketsHold x y) → Group B CountsKnown
counts_group B packets = record {
  first = λ x y m there back. record { peer = refl; counts = λ opened dir. omega arith };
  writer = λ x y call a c k back. counts_step B packets x y call a c k;
  reader = λ x y call a c there k. record { peer = k.peer; counts = k.counts };
  shows = λ x y here there b back k other. record { peer = k.peer; counts = k.counts };
}

-- ---- the clause

abbrev pub All : Way
All = And Whole CountsKnown

pub all : Group Nothing All
all = both Nothing Whole CountsKnown whole (counts_group (And Nothing Whole) (λ x y h. h.1.0.0.0.0))

-- how an end was made
making_is : (side : Side) (w : World) (s : AreStarted w) → IsMaking (making_at side w s)
making_is Client w s = s.client_is
making_is Server w s = s.server_is

-- the parameters that the bytes of its peer say are those of its settings
told_is : (side : Side) (w : World) (s : AreStarted w) (p : ParameterValues) → parameters_at (making_at (other_side side) w s).parameters ≡ Ok p → peer_parameters side w s ≡ p
told_is side w s p says = (let is = sym (making_is (other_side side) w s).says ∙ says in cc)

-- how many streams it may open as it is made
pub count_is : (side : Side) (w : World) (s : AreStarted w) (dir : Dir) → of dir (end_at side w).streams.opening.own_limit ≡ first_count (peer_parameters side w s) dir
count_is side w s dir = ap (λ (e : End). of dir e.streams.opening.own_limit) (start_is w s side) ∙ go dir
  where
    go : (d : Dir) → of d (record { bi = (peer_parameters side w s).initial_max_streams_bidi; uni = (peer_parameters side w s).initial_max_streams_uni }) ≡ first_count (peer_parameters side w s) d
    go Bi = refl
    go Uni = refl

module _ (r : Run) (end : World) (honest : IsHonest r) (run : IsRun r end) (side : Side) (i : ℕ) (served : AreServed r i) (opened : state_at r side i ≡ states.Open) where
  abbrev placed_here : Placed All r end side i
  placed_here = placed All all r end honest run side i served

  abbrev x : Party
  x = party_at r i placed_here.world side placed_here.sents

  abbrev y : Party
  y = party_at r i placed_here.world (other_side side) placed_here.theirs

  abbrev told : ParameterValues
  told = peer_parameters side r.start honest.start

  tallies : Tallies (tally_of x.made.streams (came_to x y).took (until r side i)) x.end.streams
  tallies = placed_here.gives.0.1.0.still (placed_here.state ∙ opened)

  packets_are : (came_to x y).took ≡ took r side i
  packets_are = sym (ap (λ (j : Intake). j.took) (took_is r honest placed_here.world i side placed_here.sents placed_here.theirs))

  limit_is : (id : ℕ) (h : SendHalf) → at x.end.streams.sending.halves.live id ≡ Some h → h.limit ≡ stream_limit told side (took r side i) id
  limit_is id h there =
      let t : Tally = tally_of x.made.streams (came_to x y).took (until r side i) in
      let known : IsTallied t id h = subst (λ (o : Option SendHalf). HalfIs (IsFresh t id) (IsTallied t id) (Unit {0}) o (has_place x.end.streams.side x.end.streams.sending.halves.places id)) there (tallies.halves.each id) in
      known.limit
      ∙ ap (λ (m : ℕ). max m (greatest (stream_limit_in id) (came_to x y).took)) (first_is side id r.start honest.start)
      ∙ ap (λ (ps : List Packet). stream_limit told side ps id) packets_are

  keeps_told : KeepsTo told side (took r side i) (end_at side placed_here.world)
  keeps_told = record {
    told = placed_here.gives.1.peer ∙ ap (λ (e : End). e.peer_params) (start_is r.start honest.start side);
    all_data = tallies.sums.limit ∙ ap (λ (m : ℕ). max m (greatest data_limit_in (came_to x y).took)) (all_is side r.start honest.start) ∙ ap (λ (ps : List Packet). data_limit told ps) packets_are;
    stream = limit_is;
    count = λ dir.
        placed_here.gives.1.counts (placed_here.state ∙ opened) dir
        ∙ ap (λ (m : ℕ). max m (greatest (count_in dir) (came_to x y).took)) (count_is side r.start honest.start dir)
        ∙ ap (λ (ps : List Packet). count_limit told dir ps) packets_are;
    size = placed_here.gives.0.0.0.0.0.sized.size;
  }

pub limits_are_the_peers : (r : Run) (end : World) → IsHonest r → IsRun r end → LimitsAreThePeers r
limits_are_the_peers r end honest run s side i w p served leads opened says =
    let so : IsHonest r = record { start = s; keys = honest.keys; ids = honest.ids } in
    let keeps = keeps_told r end so run side i served opened in
    subst (λ (v : World). KeepsTo p side (took r side i) (end_at side v)) (one_behind r i (placed All all r end so run side i served).world w served (placed All all r end so run side i served).leads leads)
    (subst (λ (q : ParameterValues). KeepsTo q side (took r side i) (end_at side (placed All all r end so run side i served).world)) (told_is side r.start s p says) keeps)
