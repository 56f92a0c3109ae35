-- Where a poll of an open end gives nothing, window or pacer hold back a limit that is to be said
-- anew, or nothing more may go to the peer's address: at each place of an honest run.
use Rattle.std.proofs.Common.{◌≡◌, ◌⊎◌, ℕ, suc, ◌-◌, ◌^◌, ◌≤◌, Bool, true, false, not, ◌&&◌, ◌||◌, map, List, length, Option, Some, None, refl, sym, ap, ◌∙◌, subst, inl, inr, arith}
use Rattle.std.specs.Option.{is_some}
use Rattle.std.proofs.lemmas.Bool.{both_ways}
use Rattle.quic_wire_core.specs.declared.stream_id.Side.{Side}
use Rattle.quic_wire_core.specs.StreamId.{other_side}
use Rattle.quic_wire.specs.Value.{FrameValue}
use Rattle.quic_streams_parts.specs.Table.{at}
use Rattle.quic_streams_parts.specs.RecvHalf.{RecvHalf, greatest_offset, takes_limits}
use Rattle.quic_streams_halves.specs.Halves.{has_place, status_from}
use Rattle.quic_streams_state.specs.declared.state.StreamsState.{StreamsState}
use Rattle.quic_streams_state.specs.State.{consumed, is_opened, receives_on}
use Rattle.quic_streams_state.specs.Limits.{takes_limits_of}
use Rattle.quic_streams_laws.specs.Content.{AllReceiving, IsRecvStatus}
use Rattle.quic_streams_laws.specs.Each.{HalfIs}
use Rattle.quic_streams_laws.specs.Reads.{Reads, nothing_read}
use Rattle.quic_machine.specs.declared.answers.State.TheVariants as states
use Rattle.quic_machine.specs.declared.run.View.{View}
use Rattle.quic_machine.specs.Tracking.{TrackedPacket}
use Rattle.quic_machine.specs.End.{End}
use Rattle.quic_machine.specs.Machine.{World, end_at}
use Rattle.quic_machine.specs.Start.{AreStarted}
use Rattle.quic_headline.specs.Runs.{Run, Packet, Intake, In, AreServed, until, reads, bytes_of}
use Rattle.quic_headline.specs.Observer.{Sent, Watch, took, watch}
use Rattle.quic_headline.specs.Headline.{IsHonest, IsRun}
use Rattle.quic_headline.specs.InFlight.{waited_for, WaitsFor}
use Rattle.quic_headline.specs.Duties.{Limited, AllData, StreamData, limit_waits, WasGiven, Matters}
use Rattle.quic_headline.specs.Grown.{HasGrown, GrownLimitsWaitAt}
use Rattle.quic_headline.specs.Polls.{flying, GaveNothing, IsHeldBack, IsLimited}
use Rattle.quic_headline.specs.Unread.{stopped, receive_window, stream_window}
use Rattle.quic_headline.specs.Credit.{all_consumed}
use Rattle.quic_headline.specs.Going.{size_came, IsToRaise, LimitsGo}
use Rattle.quic_headline.proofs.Packets.Flew.{flying_given}
use Rattle.quic_headline.proofs.Packets.Rising.{one_number}
use Rattle.quic_headline.proofs.Places.Parties.{Party, came_to}
use Rattle.quic_headline.proofs.Places.Groups.{And}
use Rattle.quic_headline.proofs.Places.Placed.{party_at, Placed, placed, start_is, watch_is}
use Rattle.quic_headline.proofs.Places.Openings.{took_is, took_there}
use Rattle.quic_headline.proofs.Places.Theorems.{tracks_in_flight, grown_limits_wait, once}
use Rattle.quic_headline.proofs.Halves.Ghosts.{read, wrote, SaysOf}
use Rattle.quic_headline.proofs.Halves.ReadGroup.{WasIn}
use Rattle.quic_headline.proofs.Duties.Lasting.{WasUsed, Ends}
use Rattle.quic_headline.proofs.Duties.Ledger.{limit_asks}
use Rattle.quic_headline.proofs.Duties.Limits.{LimitStands, FliesFrom}
use Rattle.quic_headline.proofs.Unread.Clause.{Base, Wide, wide}
use Rattle.quic_headline.proofs.Unread.Least.{consumed_least}
use Rattle.quic_headline.proofs.Unread.Newest.{IsNewest}
use Rattle.quic_headline.proofs.Unread.Resting.{found_for}
use Rattle.quic_headline.proofs.Unread.Walk.{Of}
use Rattle.quic_headline.proofs.Credit.Counted.{IsAny, IsCounted, IsSpent, Uses}
use Rattle.quic_headline.proofs.Credit.Lists.{Usage, usage}
use Rattle.quic_headline.proofs.Held.Control.{opened, asking_held, counted, world_is}

-- a greater limit lies above all that a lesser one does
grown_below : (window used most told more : ℕ) → told ≤ more → HasGrown window used most more → HasGrown window used most told
grown_below window used most told more less grew = omega (arith, less, grew)

-- so it does where more is used up
grown_more : (window used more most told : ℕ) → used ≤ more → HasGrown window used most told → HasGrown window more most told
grown_more window used more most told less grew = omega (arith, less, grew)

module _ (r : Run) (end : World) (honest : IsHonest r) (run : IsRun r end) (start : AreStarted r.start) (side : Side) (i now : ℕ) (v : View) (served : AreServed r (suc i)) (gave : GaveNothing r side i now v) where
  place : Placed (And Base Wide) r end side (suc i)
  place = placed (And Base Wide) wide r end honest run side (suc i) served

  abbrev x : Party
  x = party_at r (suc i) place.world side place.sents

  abbrev y : Party
  y = party_at r (suc i) place.world (other_side side) place.theirs

  abbrev s : StreamsState
  s = x.end.streams

  -- what the lists say of its streams
  abbrev uses : Usage
  uses = usage (took r side (suc i)) (until r side (suc i))

  abbrev Held : Type 0
  Held = IsHeldBack r side (suc i) v ⊎ IsLimited r side (suc i) v

  is_open : x.end.closing.state ≡ states.Open
  is_open = ap (λ (w : World). (end_at side w).closing.state) (world_is r end honest run side i now v served gave place.world place.leads) ∙ opened r end honest run side i now v served gave

  own_is : (watch r side (suc i)).own ≡ x.sents
  own_is = ap (λ (w : Watch). w.own) (watch_is r honest place.world (suc i) side place.sents place.theirs) ∙ place.gives.0.0.0.0.1.own

  came_is : took r (other_side side) (suc i) ≡ (came_to y x).took
  came_is = ap (λ (k : Intake). k.took) (took_there r honest place.world (suc i) side place.sents place.theirs)

  -- a datagram whose packet is tracked is in flight
  tracked_flies : (what : Limited) (value : ℕ) (f : FliesFrom x.sents x.end.tracking.packets what value) → In f.flies.sent (flying r side (suc i))
  tracked_flies what value f =
      let waited : WaitsFor x.end.tracking.packets (map waited_for (flying r side (suc i))) = tracks_in_flight r end honest run (suc i) place.world served place.leads side is_open in
      let found = found_for x.end.tracking.packets (flying r side (suc i)) (f.flies.sent.number, f.flies.packet) waited.same f.flies.tracked in
      let t : Sent = found.0 in
      let number : f.flies.sent.number ≡ t.number = ap (λ (p : ℕ × TrackedPacket). p.0) found.2 in
      let given : In t x.sents = subst (λ (ss : List Sent). In t ss) own_is (flying_given r side (suc i) t found.1) in
      subst (λ (q : Sent). In q (flying r side (suc i))) (sym (one_number 0 x.sents f.flies.sent t place.gives.0.0.0.0.0.0.gives.rising f.flies.among given number)) found.1

  -- the limit that the peer was told lies as far below, or a greater one waits
  raised : (what : Limited) (window used most value : ℕ) → Matters x.end what → (AllReceiving (Ends what) s → ⊥) → IsToRaise r side (suc i) what window used most → IsNewest (WasGiven x.sents) window what value → HasGrown window used most value ⊎ (limit_waits x.end.waiting.frames what ≡ true)
  raised what window used most value matters still g (inl same) = inl (subst (λ (n : ℕ). HasGrown window used most n) (sym same) g.first)
  raised what window used most value matters still g (inr said) = go (place.gives.0.1.limits what value said).stand
    where
      go : LimitStands (came_to y x).took x.sents what value x.end → HasGrown window used most value ⊎ (limit_waits x.end.waiting.frames what ≡ true)
      go (inl ends) = absurd (still ends)
      go (inr (inl waits)) = inr waits
      go (inr (inr (inl f))) = inl (grown_below window used most value f.limit f.enough (g.flying f.flies.sent f.limit (tracked_flies what value f) f.flies.carried))
      go (inr (inr (inr c))) = inl (grown_below window used most value c.limit c.enough (g.came c.packet c.limit (subst (λ (ps : List Packet). In c.packet ps) (sym came_is) c.was_taken) c.carried))

  -- so it is held back, where it waits once it grew
  limit_held : (what : Limited) (window used most value : ℕ) → Matters x.end what → (AllReceiving (Ends what) s → ⊥) → (HasGrown window used most value → limit_waits x.end.waiting.frames what ≡ true) → IsToRaise r side (suc i) what window used most → IsNewest (WasGiven x.sents) window what value → Held
  limit_held what window used most value matters still waits g newest =
      asking_held r end honest run side i now v served gave place.world place.leads (limit_asks x.end what matters (elim (raised what window used most value matters still g newest) [ inl grew ↦ waits grew | inr there ↦ there ]))

  grown : GrownLimitsWaitAt (until r side (suc i)) x.end
  grown = grown_limits_wait r end honest run (suc i) place.world served place.leads side

  -- ---- the data of a stream

  abbrev each_wide : ℕ
  each_wide = stream_window r start side

  stream_wide : s.receiving.stream_window ≡ each_wide
  stream_wide = place.gives.1.1.1.1.0.says.stream_window ∙ ap (λ (e : End). e.streams.receiving.stream_window) (start_is r.start start side)

  abbrev read_on : ℕ → ℕ
  read_on id = length (bytes_of (reads id (until r side (suc i))))

  -- of a half in use, which is neither stopped nor of a known size
  module _ (id : ℕ) (unstopped : stopped id (until r side (suc i)) ≡ false) (unsized : size_came id (took r side (suc i)) ≡ false) (g : IsToRaise r side (suc i) (StreamData id) each_wide (read_on id) (2 ^ 62 - 1)) (h : RecvHalf) (found : at s.receiving.halves.live id ≡ Some h) (c : IsCounted uses id h) where
    takes : takes_limits h ≡ true
    takes = by_both h.stopped (is_some h.final) refl refl
      where
        by_both : (a b : Bool) → h.stopped ≡ a → is_some h.final ≡ b → not (a || b) ≡ true
        by_both true b halted known = absurd (both_ways (stopped id (until r side (suc i))) unstopped (c.halted halted))
        by_both false true halted known = absurd (both_ways (size_came id (took r side (suc i))) unsized (c.sized (inl known)))
        by_both false false halted known = refl

    matters : Matters x.end (StreamData id)
    matters = ap takes_limits_of found ∙ takes

    still : AllReceiving (Ends (StreamData id)) s → ⊥
    still ends = both_ways (takes_limits h) (subst (λ (o : Option RecvHalf). WasUsed (λ q. takes_limits q ≡ false) (status_from o (receives_on s.side id && is_opened s id) (has_place s.side s.receiving.halves.places id))) found (ends.each id refl)) takes

    newest : IsNewest (WasGiven x.sents) each_wide (StreamData id) h.announced
    newest = subst (λ (n : ℕ). IsNewest (WasGiven x.sents) n (StreamData id) h.announced) (ap (λ (e : End). e.streams.receiving.stream_window) (start_is r.start start side)) (place.gives.1.1.1.1.0.says.each id h found)

    waits : HasGrown each_wide (read_on id) (2 ^ 62 - 1) h.announced → limit_waits x.end.waiting.frames (StreamData id) ≡ true
    waits grew = grown.stream id (record { half = h; found = found; matters = takes; grew = subst (λ (n : ℕ). HasGrown n (read_on id) greatest_offset h.announced) (sym stream_wide) grew })

    half_held : Held
    half_held = limit_held (StreamData id) each_wide (read_on id) (2 ^ 62 - 1) h.announced matters still waits g newest

  stream_held : (id : ℕ) → stopped id (until r side (suc i)) ≡ false → size_came id (took r side (suc i)) ≡ false → IsToRaise r side (suc i) (StreamData id) each_wide (read_on id) (2 ^ 62 - 1) → Held
  stream_held id unstopped unsized g = go (at s.receiving.halves.live id) (receives_on s.side id && is_opened s id) (has_place s.side s.receiving.halves.places id) refl (lists.2.sums.each id) (place.takes.1.0.reads.each id)
    where
      lists : (wide : ℕ) × (each : ℕ) × Of (Uses wide each uses) s
      lists = counted r end honest run side i now v served gave place.world place.leads

      -- something was read
      some_read : read x.told id ≡ nothing_read → ⊥
      some_read none =
          let nothing : read_on id ≡ 0 = ap (λ (q : Reads). length (bytes_of q.chunks)) none in
          let first = g.first in
          omega (arith, first, nothing)

      go : (o : Option RecvHalf) (m used : Bool) → at s.receiving.halves.live id ≡ o → HalfIs (IsAny id) (IsCounted uses id) (IsSpent uses id (lists.2.sums.final id)) o used → IsRecvStatus (wrote y.told id) (read x.told id) (status_from o m used) → Held
      go (Some h) m used found c was = half_held id unstopped unsized g h found c
      go None m true found c was = absurd (both_ways (size_came id (took r side (suc i))) unsized c.3)
      go None true false found c was = absurd (some_read was)
      go None false false found c was = absurd (some_read was)

  -- ---- all data

  abbrev all_wide : ℕ
  all_wide = receive_window r start side

  all_wide_is : s.receiving.window ≡ all_wide
  all_wide_is = place.gives.1.1.1.1.0.says.window ∙ ap (λ (e : End). e.streams.receiving.window) (start_is r.start start side)

  own_came_is : took r side (suc i) ≡ (came_to x y).took
  own_came_is = ap (λ (k : Intake). k.took) (took_is r honest place.world (suc i) side place.sents place.theirs)

  -- what a frame that came says
  came_says : (f : FrameValue) → WasIn (came_to x y).took f → SaysOf (wrote y.told) f
  came_says f w =
      let was = place.takes.0.0.0.0.0.0.taken w.packet w.was_taken in
      place.takes.0.0.0.0.0.1.0.says was.sent was.is.0 f (subst (λ (fs : List FrameValue). In f fs) (sym was.frames) w.carried)

  least : all_consumed (took r side (suc i)) (until r side (suc i)) ≤ consumed s.receiving
  least = subst (λ (ps : List Packet). all_consumed ps (until r side (suc i)) ≤ consumed s.receiving) (sym own_came_is) (consumed_least (wrote y.told) (came_to x y).took (until r side (suc i)) s (record {
    known = place.takes.1.1.1.1.1.1.known;
    stays = place.takes.0.0.1.1.stays;
    read_so = place.takes.1.0.reads;
    once = λ id. once r end honest run side id (suc i) served;
    halted = place.gives.0.1.halts.halted;
    says = came_says;
  }))

  all_held : IsToRaise r side (suc i) AllData all_wide (all_consumed (took r side (suc i)) (until r side (suc i))) (2 ^ 62 - 1) → Held
  all_held g = limit_held AllData all_wide (all_consumed (took r side (suc i)) (until r side (suc i))) (2 ^ 62 - 1) s.receiving.announced tt (λ ends. ends.each 0) waits g newest
    where
      newest : IsNewest (WasGiven x.sents) all_wide AllData s.receiving.announced
      newest = subst (λ (n : ℕ). IsNewest (WasGiven x.sents) n AllData s.receiving.announced) (ap (λ (e : End). e.streams.receiving.window) (start_is r.start start side)) place.gives.1.1.1.1.0.says.all

      waits : HasGrown all_wide (all_consumed (took r side (suc i)) (until r side (suc i))) (2 ^ 62 - 1) s.receiving.announced → limit_waits x.end.waiting.frames AllData ≡ true
      waits grew =
          let more = least in
          let wide_is : s.receiving.window ≡ all_wide = all_wide_is in
          grown.bytes (subst (λ (n : ℕ). HasGrown n (consumed s.receiving) greatest_offset s.receiving.announced) (sym wide_is) (grown_more all_wide (all_consumed (took r side (suc i)) (until r side (suc i))) (consumed s.receiving) (2 ^ 62 - 1) s.receiving.announced more grew))

-- ---- the clause

pub limits_go : (r : Run) (end : World) → IsHonest r → IsRun r end → LimitsGo r
limits_go r end honest run = record {
  all = λ start side i now v served gave g. all_held r end honest run start side i now v served gave g;
  stream = λ start side i now id v served gave unstopped unsized g. stream_held r end honest run start side i now v served gave id unstopped unsized g;
}
