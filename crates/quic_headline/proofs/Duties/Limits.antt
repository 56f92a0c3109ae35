-- A limit that was said waits to be said anew, stands in a datagram that is tracked, or came, each
-- no less than it was said; or it matters no more. Each frame that comes keeps that, and calls take
-- nothing off what waits.
use Rattle.std.proofs.Common.{◌≡◌, ℕ, ◌≤◌, Bool, true, false, not, cond, List, [], ◌∷◌, filter, Option, Some, None, Ok, refl, sym, ap, ◌∙◌, subst, ◌⊎◌, inl, inr, length}
use Rattle.std.specs.Ordering.{nat_cmp}
use Rattle.std.specs.BTreeMap.{is_at}
use Rattle.std.proofs.lemmas.Bool.{or_left, or_right}
use Rattle.quic_wire_core.specs.declared.stream_id.Dir.TheVariants.{Bi, Uni}
use Rattle.quic_wire.specs.Value.{FrameValue, AckValue, ack, stream, reset_stream, stop_sending, max_data, max_stream_data, max_streams}
use Rattle.quic_send_buffer.specs.declared.stream_meta.StreamMeta.{StreamMeta}
use Rattle.quic_streams_parts.specs.Table.{Table}
use Rattle.quic_streams_parts.specs.TableLaws.{nat_cmp-same}
use Rattle.quic_streams_parts.specs.Dirs.{Counts, Flags, of}
use Rattle.quic_wire_core.specs.declared.shared.IssuedCid.{IssuedCid}
use Rattle.quic_retransmits.specs.Retransmits.{Retransmits, merged, has_id}
use Rattle.quic_streams_state.specs.declared.state.StreamsState.{StreamsState}
use Rattle.quic_streams_state.specs.State.{Streams, Receiving, streams_of}
use Rattle.quic_streams_state.specs.Limits.{data_grew, count_grew, stream_grew, with_stream_if, decided}
use Rattle.quic_streams_state.specs.Reading.{told_bytes, after_read_begun}
use Rattle.quic_streams_laws.specs.Content.{AllReceiving}
use Rattle.quic_streams_laws.specs.ToldLaws.{has_all, has_given}
use Rattle.quic_machine.specs.declared.run.Call.{Call}
use Rattle.quic_machine.specs.declared.run.Call.TheVariants as calls
use Rattle.quic_machine.specs.declared.run.Answer.{Answer}
use Rattle.quic_machine.specs.declared.run.Answer.TheVariants as answers
use Rattle.quic_machine.specs.Tracking.{Tracking, TrackedPacket, Carried, carried_in, names, acked_by, not_acked_by, is_lost, lost_by, kept_by}
use Rattle.quic_machine.specs.End.{End, streams_at}
use Rattle.quic_machine.specs.Calls.{after_nexts}
use Rattle.quic_machine.specs.StreamCalls.{after_on_streams}
use Rattle.quic_machine.specs.Acked.{stream_lost, streams_lost, carried_lost, packets_lost, verdict, losses_detected, measured, sampled, without_acked, after_named, losses_taken}
use Rattle.quic_machine.specs.Receive.{is_above, names_ungiven, take_frame, Outcome}
use Rattle.quic_machine.specs.FrameCases.{OnStreams, Settling, named, ack_taken, acked_keeps, begun, passed, frames_leave, by_marks, Apart, with_apart, apart_leaves}
use Rattle.quic_machine.specs.FrameCases as cases
use Rattle.quic_machine.specs.Steps as steps
use Rattle.quic_machine.specs.Migration.{migrated}
use Rattle.quic_machine.specs.Policy.{Policy}
use Rattle.quic_headline.specs.Runs.{Packet, Intake, In}
use Rattle.quic_headline.specs.Observer.{Sent}
use Rattle.quic_headline.specs.InFlight.{is_max_data, is_max_streams, limits_in, again_in}
use Rattle.quic_headline.specs.Duties.{Limited, AllData, StreamData, StreamCount, limit_frame, limit_waits, IsInFlight, LimitHasArrived}
use Rattle.quic_headline.proofs.Packets.Searches.{by_losses}
use Rattle.quic_headline.proofs.Packets.Carried.{carried_same}
use Rattle.quic_headline.proofs.Packets.Delivered.{Arrivals, arrived}
use Rattle.quic_headline.proofs.Packets.Named.{NamesTaken, Stands, by_frame}
use Rattle.quic_headline.proofs.Packets.Rising.{one_number}
use Rattle.quic_headline.proofs.Grown.Flags.{KeptIn, Decides, calls_keep, acked_keeps as acked_flags, reset_acked_keeps, lost_keeps, frame_keeps}
use Rattle.quic_headline.proofs.Duties.Carrier.{any_is}
use Rattle.quic_headline.proofs.Duties.Lasting.{Knows, Ends, knows_lasts, ends_lasts, frame_lasts}
use Rattle.quic_headline.proofs.Packets.Moved.{by_migrated}
use Rattle.quic_headline.proofs.Halves.Moved.{streams_stay}
use Rattle.quic_packet.specs.Datagram.{Opening}

-- ---- what waits

-- a limit among what waits to be told
abbrev WaitsIn : Limited → Receiving → Counts → Counts → Counts → Bool → Flags → List ℕ → Type 0
WaitsIn AllData r announced configured done all counts ids = all ≡ true
WaitsIn (StreamData id) r announced configured done all counts ids = has_id id ids ≡ true
WaitsIn (StreamCount dir) r announced configured done all counts ids = of dir counts ≡ true

abbrev Waits : Limited → Streams → Type 0
Waits what t = KeptIn (WaitsIn what) t

abbrev pub IsWaiting : Limited → Streams → Type 0
IsWaiting what t = limit_waits t.pending what ≡ true

-- ids that wait to be told of and to be retired change none of that
limit_apart : (what : Limited) (r : Retransmits) (new_cids : List IssuedCid) (retire_cids : List ℕ) → limit_waits (record r { new_cids = new_cids; retire_cids = retire_cids }) what ≡ limit_waits r what
limit_apart AllData r new_cids retire_cids = refl
limit_apart (StreamData id) r new_cids retire_cids = refl
limit_apart (StreamCount dir) r new_cids retire_cids = refl

pub limit_more : {X : Type 0} (what : Limited) (e : End) (c : Apart) → (limit_waits e.waiting.frames what ≡ true) ⊎ X → (limit_waits (with_apart e c).waiting.frames what ≡ true) ⊎ X
limit_more what e c (inl waits) = inl (limit_apart what e.waiting.frames c.new_cids c.retire_cids ∙ waits)
limit_more what e c (inr more) = inr more

waits_in : (what : Limited) (t : Streams) → IsWaiting what t → Waits what t
waits_in AllData t is = is
waits_in (StreamData id) t is = is
waits_in (StreamCount dir) t is = is

waits_of : (what : Limited) (t : Streams) → Waits what t → IsWaiting what t
waits_of AllData t is = is
waits_of (StreamData id) t is = is
waits_of (StreamCount dir) t is = is

decides : (what : Limited) → Decides (WaitsIn what)
decides AllData s t p q same i = or_left q.max_data (data_grew t.receiving) (same.bytes ∙ i)
decides (StreamData id) s t p q same i = ap (has_id id) same.streams ∙ i
decides (StreamCount Bi) s t p q same i = or_left q.max_stream_id.bi (count_grew Bi t.opening) (ap (λ (f : Flags). f.bi) same.counts ∙ i)
decides (StreamCount Uni) s t p q same i = or_left q.max_stream_id.uni (count_grew Uni t.opening) (ap (λ (f : Flags). f.uni) same.counts ∙ i)

-- it waits still beside what was lost
pub merged_left : (what : Limited) (p lost : Retransmits) → limit_waits p what ≡ true → limit_waits (merged p lost) what ≡ true
merged_left AllData p lost is = or_left p.max_data lost.max_data is
merged_left (StreamData id) p lost is = has_all lost.max_stream_data p.max_stream_data id is
merged_left (StreamCount Bi) p lost is = or_left p.max_stream_id.bi lost.max_stream_id.bi is
merged_left (StreamCount Uni) p lost is = or_left p.max_stream_id.uni lost.max_stream_id.uni is

-- and what was lost waits
pub merged_right : (what : Limited) (p lost : Retransmits) → limit_waits lost what ≡ true → limit_waits (merged p lost) what ≡ true
merged_right AllData p lost is = or_right p.max_data lost.max_data is
merged_right (StreamData id) p lost is = has_given lost.max_stream_data p.max_stream_data id is
merged_right (StreamCount Bi) p lost is = or_right p.max_stream_id.bi lost.max_stream_id.bi is
merged_right (StreamCount Uni) p lost is = or_right p.max_stream_id.uni lost.max_stream_id.uni is

-- once a read is over
read_waits : (what : Limited) (b : Bool) (id : ℕ) (s : StreamsState) (p : Retransmits) → limit_waits p what ≡ true → limit_waits (with_stream_if b id (decided s p)) what ≡ true
read_waits AllData true id s p is = or_left p.max_data (data_grew s.receiving) is
read_waits AllData false id s p is = or_left p.max_data (data_grew s.receiving) is
read_waits (StreamData j) true id s p is = has_all (id ∷ []) p.max_stream_data j is
read_waits (StreamData j) false id s p is = is
read_waits (StreamCount Bi) true id s p is = or_left p.max_stream_id.bi (count_grew Bi s.opening) is
read_waits (StreamCount Bi) false id s p is = or_left p.max_stream_id.bi (count_grew Bi s.opening) is
read_waits (StreamCount Uni) true id s p is = or_left p.max_stream_id.uni (count_grew Uni s.opening) is
read_waits (StreamCount Uni) false id s p is = or_left p.max_stream_id.uni (count_grew Uni s.opening) is

module _ (what : Limited) where
  -- a call on streams takes nothing off
  pub call_waits : (b : Bool) (t : Streams) (call : Call) (a : Answer) → IsWaiting what t → IsWaiting what (after_on_streams b t call a)
  call_waits b t (calls.Read read) (answers.Read (Ok said)) is = (
      let s : StreamsState = after_nexts told_bytes (after_read_begun t.state read.id read.ordered) read.id read.nexts.items said in
      read_waits what (stream_grew s read.id) read.id s t.pending is)
  call_waits b t (calls.Read read) a is = is
  call_waits b t call a is = waits_of what (after_on_streams b t call a) (calls_keep (WaitsIn what) (decides what) b t call a refl (waits_in what t is))

  -- nor do frames that come
  settles : Settling (λ (e : End). Waits what (streams_at e))
  settles (steps.reset id) e w = reset_acked_keeps (WaitsIn what) (decides what) e.streams e.waiting.frames id w
  settles (steps.acked m) e w = acked_flags (WaitsIn what) (decides what) e.streams e.waiting.frames m w
  settles (steps.lost m) e w = lost_keeps (WaitsIn what) (decides what) e.streams e.waiting.frames m w
  settles (steps.again c) e w = waits_in what (streams_of e.streams (merged e.waiting.frames c.retransmits)) (merged_left what e.waiting.frames c.retransmits (waits_of what (streams_at e) w))
  settles s e w = w

  pub frame_waits : (f : FrameValue) (e : End) → IsWaiting what (streams_at e) → IsWaiting what (streams_at (take_frame f e).end)
  frame_waits f e is = waits_of what (streams_at (take_frame f e).end) (cases.frame_keeps (λ (x : End). Waits what (streams_at x)) (record {
    ack = λ rises a x v. acked_keeps (λ (y : End). Waits what (streams_at y)) settles rises a (named a x) v;
    on_streams = λ g x on v. frame_keeps (WaitsIn what) (decides what) g x on v;
    message = λ m x v. v;
    apart = λ g x is v. cases.apart_leaves (λ (y : End). Waits what (streams_at y)) g x is (λ c. v) (λ c most. v);
  }) f e (waits_in what (streams_at e) is))

-- ---- what a datagram carries

limits_have : (id limit : ℕ) (fs : List FrameValue) → In (max_stream_data (record { id = id; limit = limit })) fs → has_id id (limits_in fs) ≡ true
limits_have id limit [] i = absurd i
limits_have id limit (f ∷ fs) (inl same) = subst (λ (g : FrameValue). has_id id (limits_in (g ∷ fs)) ≡ true) same (rw (nat_cmp-same id) refl)
limits_have id limit (f ∷ fs) (inr more) = later f (limits_have id limit fs more)
  where
    later : (g : FrameValue) → has_id id (limits_in fs) ≡ true → has_id id (limits_in (g ∷ fs)) ≡ true
    later (max_stream_data g) is = or_right (is_at (nat_cmp id) g.id) (has_id id (limits_in fs)) is
    later g is = is

again_waits : (what : Limited) (value : ℕ) (fs : List FrameValue) → In (limit_frame what value) fs → limit_waits (again_in fs) what ≡ true
again_waits AllData value fs i = any_is is_max_data (max_data value) fs i refl
again_waits (StreamData id) value fs i = has_given (limits_in fs) [] id (limits_have id value fs i)
again_waits (StreamCount Bi) value fs i = any_is (is_max_streams false) (max_streams (record { one_way = false; count = value })) fs i refl
again_waits (StreamCount Uni) value fs i = any_is (is_max_streams true) (max_streams (record { one_way = true; count = value })) fs i refl

-- a limit in its frames is sent again if it is lost
pub carried_waits : (what : Limited) (value : ℕ) (fs : List FrameValue) → In (limit_frame what value) fs → limit_waits (carried_in fs).retransmits what ≡ true
carried_waits what value fs i = subst (λ (c : Carried). limit_waits c.retransmits what ≡ true) (carried_same fs) (again_waits what value fs i)

-- what lost packets carried waits, and what waited
lost_wait : (ms : List StreamMeta) (e : End) → (streams_lost ms e).waiting ≡ e.waiting
lost_wait [] e = refl
lost_wait (m ∷ ms) e = lost_wait ms (stream_lost m e)

losses_wait : (what : Limited) (ps : Table TrackedPacket) (e : End) → (limit_waits e.waiting.frames what ≡ true) ⊎ ((n : ℕ) × (t : TrackedPacket) × In (n, t) ps × (limit_waits t.carried.retransmits what ≡ true)) → limit_waits (packets_lost ps e).waiting.frames what ≡ true
losses_wait what [] e (inl was) = was
losses_wait what [] e (inr none) = absurd none.2
losses_wait what (p ∷ ps) e i = losses_wait what ps (carried_lost p.1.carried e) (one i)
  where
    c : Carried
    c = p.1.carried

    before : limit_waits e.waiting.frames what ≡ true → limit_waits (streams_lost c.stream_frames e).waiting.frames what ≡ true
    before is = ap (λ w. limit_waits w.frames what) (lost_wait c.stream_frames e) ∙ is

    one : (limit_waits e.waiting.frames what ≡ true) ⊎ ((n : ℕ) × (t : TrackedPacket) × In (n, t) (p ∷ ps) × (limit_waits t.carried.retransmits what ≡ true))
        → (limit_waits (carried_lost c e).waiting.frames what ≡ true) ⊎ ((n : ℕ) × (t : TrackedPacket) × In (n, t) ps × (limit_waits t.carried.retransmits what ≡ true))
    one (inl was) = inl (merged_left what (streams_lost c.stream_frames e).waiting.frames c.retransmits (before was))
    one (inr some) = go some.2
      where
        go : In (some.0, some.1) (p ∷ ps) → (limit_waits (carried_lost c e).waiting.frames what ≡ true) ⊎ ((n : ℕ) × (t : TrackedPacket) × In (n, t) ps × (limit_waits t.carried.retransmits what ≡ true))
        go (inl here) = inl (merged_right what (streams_lost c.stream_frames e).waiting.frames c.retransmits (subst (λ (q : ℕ × TrackedPacket). limit_waits q.1.carried.retransmits what ≡ true) here some.3))
        go (inr more) = inr (some.0, some.1, more, some.3)

-- ---- where a limit is

-- a limit that is under way, no less than a value, in a datagram of which it is said again if that
-- is lost: no probe took that
pub record FliesFrom (own : List Sent) (packets : Table TrackedPacket) (what : Limited) (value : ℕ) : Type 0 where
  pub limit : ℕ
  pub flies : IsInFlight own packets (limit_frame what limit)
  pub again : limit_waits flies.packet.carried.retransmits what ≡ true
  pub enough : value ≤ limit

-- it matters no more, waits, is under way, or came
abbrev pub LimitStands : List Packet → List Sent → Limited → ℕ → End → Type 0
LimitStands took own what value e = AllReceiving (Ends what) e.streams ⊎ (limit_waits e.waiting.frames what ≡ true) ⊎ FliesFrom own e.tracking.packets what value ⊎ LimitHasArrived took what value

-- where it is, and that it was said of a half that was in use
pub record Stated (took : List Packet) (own : List Sent) (what : Limited) (value : ℕ) (e : End) : Type 0 where
  pub knows : AllReceiving (Knows what) e.streams
  pub stand : LimitStands took own what value e

-- ---- an ACK frame

pub filter_has : {X : Type 0} (f : X → Bool) (x : X) (xs : List X) → In x xs → f x ≡ true → In x (filter f xs)
filter_has f x [] i on = absurd i
filter_has f x (y ∷ xs) i on = go (f y) refl i (filter_has f x xs)
  where
    go : (b : Bool) → f y ≡ b → In x (y ∷ xs) → (In x xs → f x ≡ true → In x (filter f xs)) → In x (cond b (y ∷ filter f xs) (filter f xs))
    go true is (inl same) later = inl same
    go true is (inr more) later = inr (later more on)
    go false is (inl same) later = let clash : true ≡ false = sym on ∙ (ap f same ∙ is) in cc
    go false is (inr more) later = later more on

module _ (took : List Packet) (own : List Sent) (what : Limited) (value : ℕ) where
  -- where the peer is at another address
  moved_stands : (p : Policy) (o : Opening) (remote : ℕ) (e : End) → LimitStands took own what value e → LimitStands took own what value (migrated p o remote e)
  moved_stands p o remote e (inl ends) = inl (streams_stay (AllReceiving (Ends what)) p o remote e ends)
  moved_stands p o remote e (inr (inl waits)) =
      let v = waits_in what (streams_at e) waits in
      inr (inl (waits_of what (streams_at (migrated p o remote e)) (by_migrated (λ (x : End). Waits what (streams_at x)) p o remote e (λ c. v) (λ c most. v))))
  moved_stands p o remote e (inr (inr more)) = inr (inr (by_migrated (λ (x : End). FliesFrom own x.tracking.packets what value ⊎ LimitHasArrived took what value) p o remote e (λ c. more) (λ c most. more)))

  pub moved_stated : (p : Policy) (o : Opening) (remote : ℕ) (e : End) → Stated took own what value e → Stated took own what value (migrated p o remote e)
  moved_stated p o remote e i = record { knows = streams_stay (AllReceiving (Knows what)) p o remote e i.knows; stand = moved_stands p o remote e i.stand }

  -- it is under way still where its packet stays tracked
  pub still : (before after : Table TrackedPacket) (i : FliesFrom own before what value) → In (i.flies.sent.number, i.flies.packet) after → FliesFrom own after what value
  still before after i there = record {
    limit = i.limit;
    flies = record { sent = i.flies.sent; among = i.flies.among; carried = i.flies.carried; packet = i.flies.packet; tracked = there };
    again = i.again;
    enough = i.enough;
  }

  -- losses that are detected
  detected_flies : (e : End) → FliesFrom own e.tracking.packets what value → LimitStands took own what value (losses_detected e)
  detected_flies e i = go (is_lost (verdict e) here) refl
    where
      here : ℕ × TrackedPacket
      here = (i.flies.sent.number, i.flies.packet)

      go : (lost : Bool) → is_lost (verdict e) here ≡ lost → LimitStands took own what value (losses_detected e)
      go true is = by_losses (LimitStands took own what value) e (λ discovery queues. inr (inl (losses_wait what (lost_by (verdict e) e.tracking.packets) e (inr (here.0, here.1, filter_has (is_lost (verdict e)) here e.tracking.packets i.flies.tracked is, i.again)))))
      go false is = by_losses (LimitStands took own what value) e (λ discovery queues. inr (inr (inl (still e.tracking.packets (kept_by (verdict e) e.tracking.packets) i (filter_has (λ q. not (is_lost (verdict e) q)) here e.tracking.packets i.flies.tracked (ap not is))))))

  pub detected_more : (e : End) → (limit_waits e.waiting.frames what ≡ true) ⊎ FliesFrom own e.tracking.packets what value ⊎ LimitHasArrived took what value → LimitStands took own what value (losses_detected e)
  detected_more e (inl waits) = by_losses (LimitStands took own what value) e (λ discovery queues. inr (inl (losses_wait what (lost_by (verdict e) e.tracking.packets) e (inl waits))))
  detected_more e (inr (inl flies)) = detected_flies e flies
  detected_more e (inr (inr came)) = by_losses (LimitStands took own what value) e (λ discovery queues. inr (inr (inr came)))

  -- a round trip is measured, if one is
  sampled_flies : (o : Option TrackedPacket) (a : AckValue) (e : End) → FliesFrom own e.tracking.packets what value → FliesFrom own (sampled o a e).tracking.packets what value
  sampled_flies None a e i = i
  sampled_flies (Some p) a e i = i

module _ (took : List Packet) (own : List Sent) (what : Limited) (value : ℕ) (stands : Stands took own) where
  -- an ACK frame that names these packets
  named_flies : (ps : Table TrackedPacket) (rises : Bool) (a : AckValue) (e : End) → NamesTaken took a → FliesFrom own e.tracking.packets what value → LimitStands took own what value (after_named ps rises a e)
  named_flies [] rises a e takes i = inr (inr (inl i))
  named_flies (p ∷ ps) rises a e takes i = by_marks rises (length (p ∷ ps)) a taken (LimitStands took own what value) (λ m marking. go (names a number) refl)
    where
      number : ℕ
      number = i.flies.sent.number

      left : End
      left = without_acked (p ∷ ps) a e

      o : Option TrackedPacket
      o = measured rises a (p ∷ ps)

      taken : End
      taken = losses_taken (p ∷ ps) rises a e

      go : (acked : Bool) → names a number ≡ acked → LimitStands took own what value taken
      go true on =
          let arrived = takes number on in
          let found = stands.taken arrived.packet arrived.was_taken in
          let same : i.flies.sent ≡ found.sent = one_number 0 own i.flies.sent found.sent stands.rising i.flies.among found.is.0 (sym (found.is.1 ∙ arrived.is)) in
          inr (inr (inr (record {
            packet = arrived.packet;
            was_taken = arrived.was_taken;
            limit = i.limit;
            carried = subst (In (limit_frame what i.limit)) (ap (λ (s : Sent). s.frames) same ∙ found.frames) i.flies.carried;
            enough = i.enough;
          })))
      go false off =
          let there : In (number, i.flies.packet) (not_acked_by a e.tracking.packets) = filter_has (λ q. not (names a q.0)) (number, i.flies.packet) e.tracking.packets i.flies.tracked (ap not off) in
          detected_flies took own what value (sampled o a left) (sampled_flies took own what value o a left (still took own what value e.tracking.packets (not_acked_by a e.tracking.packets) i there))

  -- ---- a delivery

  -- an ACK frame, taken or refused
  ack_flies : (b : Bool) (a : AckValue) (e : End) → NamesTaken took a → FliesFrom own e.tracking.packets what value → LimitStands took own what value (ack_taken b a e).end
  ack_flies true a e takes i = inr (inr (inl i))
  ack_flies false a e takes i = named_flies (acked_by a e.tracking.packets) (is_above e.numbers.largest_acked a.largest) a (named a e) takes i

  -- over the frames of a packet
  record Going (over : List FrameValue) (e : End) : Type 0 where
    takes : (a : AckValue) → In (ack a) over → NamesTaken took a
    knows : AllReceiving (Knows what) e.streams
    stand : LimitStands took own what value e

  -- a frame on streams leaves what is tracked
  frame_tracks : (f : FrameValue) (e : End) → OnStreams f → (take_frame f e).end.tracking ≡ e.tracking
  frame_tracks (stream f) e on = refl
  frame_tracks (reset_stream f) e on = refl
  frame_tracks (stop_sending f) e on = refl
  frame_tracks (max_data limit) e on = refl
  frame_tracks (max_stream_data f) e on = refl
  frame_tracks (max_streams f) e on = refl
  frame_tracks f e on = absurd on

  -- any frame
  frame_stands : (f : FrameValue) (over : List FrameValue) (e : End) → Going (f ∷ over) e → LimitStands took own what value (take_frame f e).end
  frame_stands f over e g = go g.stand
    where
      go : LimitStands took own what value e → LimitStands took own what value (take_frame f e).end
      go (inl ends) = inl (frame_lasts (Ends what) (ends_lasts what) f e ends)
      go (inr (inl waits)) = inr (inl (frame_waits what f e waits))
      go (inr (inr (inl flies))) = by_frame f e (λ h p. LimitStands took own what value p.end) (λ a is. ack_flies (names_ungiven a e) a e (g.takes a (inl is)) flies)
          (λ other on. inr (inr (inl (subst (λ (t : Tracking). FliesFrom own t.packets what value) (sym (frame_tracks f e on)) flies))))
          (λ other m same. subst (LimitStands took own what value) (sym same) (inr (inr (inl flies))))
          (λ other apart. inr (inr (inl (apart_leaves (λ (x : End). FliesFrom own x.tracking.packets what value) f e apart (λ c. flies) (λ c most. flies)))))
      go (inr (inr (inr came))) = inr (inr (inr came))

  frames_stand : (fs : List FrameValue) (e : End) → Going fs e → (over : List FrameValue) × Going over (passed fs e).end
  frames_stand fs e g = frames_leave Going (λ f over x k. record {
    takes = λ a j. k.takes a (inr j);
    knows = frame_lasts (Knows what) (knows_lasts what) f x k.knows;
    stand = frame_stands f over x k;
  }) fs e g

  -- each case of a delivery
  pub arrivals_stated : (e : End) (now n : ℕ) (frames taken : List FrameValue) (came : Intake) → ((a : AckValue) → In (ack a) taken → NamesTaken took a) → Stated took own what value e
      → Arrivals e now n frames taken came (λ (o : Outcome) (j : Intake). Stated took own what value o.end)
  arrivals_stated e now n frames taken came takes i = record {
    ignored = λ reason. i;
    noted = λ state reason. record { knows = i.knows; stand = i.stand };
    takes = λ words state new none urged mark. record { knows = after.1.knows; stand = after.1.stand };
    moves = λ p o same remote x opened j. moved_stated took own what value p o remote x j;
    drains = λ words state new close is. record { knows = after.1.knows; stand = after.1.stand };
    refuses = λ words state new f is. record { knows = after.1.knows; stand = after.1.stand };
    exhausts = λ state. record { knows = i.knows; stand = i.stand };
  }
    where
      after : (over : List FrameValue) × Going over (arrived e now n taken).end
      after = frames_stand taken (begun e now n) (record { takes = takes; knows = i.knows; stand = i.stand })
