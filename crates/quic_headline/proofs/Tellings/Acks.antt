-- What a controller is told of an ACK frame is what may be told of the datagrams in flight that it
-- acknowledges (RFC 9002, sections 7 and 7.1).
use Rattle.std.proofs.Common.{◌≡◌, ℕ, ◌-◌, ◌≤◌, min, Bool, true, false, not, cond, List, [], ◌∷◌, ◌++◌, length, Option, Some, None, refl, sym, ap, ◌∙◌, subst, inl, inr, arith}
use Rattle.std.specs.Prelude.{if◌then◌else◌, ◌&&◌}
use Rattle.std.specs.Option.{option_and_then, is_some, is_none}
use Rattle.std.proofs.lemmas.Bool.{eq-eqb}
use Rattle.std.proofs.lemmas.List.{append_assoc}
use Rattle.quic_time.specs.Rtt.{Rtt, sampled_rtt, with_sample}
use Rattle.quic_time.specs.Clocks.{saturated}
use Rattle.quic_wire.specs.Value.{FrameValue, AckValue, ack}
use Rattle.quic_config.specs.Transport.{TransportSettings}
use Rattle.quic_congestion.specs.Congestion.{Told, Acked, AcksEnded, Congested, Resized}
use Rattle.quic_congestion.specs.Search.{Search, Plan, Discovery, is_number, search_in, probed_by, acknowledged_probe, after_ack}
use Rattle.quic_congestion.specs.SearchBounds.{IsSearch, IsSearchIf, IsPlanIf, IsSized}
use Rattle.quic_congestion.proofs.SizedSearch.{sized_acked}
use Rattle.quic_config.specs.declared.mtu_discovery.TheConstants.{MAX_UDP_PAYLOAD}
use Rattle.quic_streams_parts.specs.Table.{Table}
use Rattle.quic_spaces.specs.Numbers.{greatest_of}
use Rattle.quic_machine.specs.Tracking.{TrackedPacket, acked_by, not_acked_by, lost_by}
use Rattle.quic_machine.specs.End.{End}
use Rattle.quic_machine.specs.Control.{bytes_in_flight, told_packet, told_acks_ended}
use Rattle.quic_machine.specs.Sizes.{is_resized, search_acked, told_packets, told_probe}
use Rattle.quic_machine.specs.Acked.{packets_acked, verdict, losses_detected, told_delay, first_measured, after_named, told_marks, told_detected, told_of_losses, told_named, measured, sampled, without_acked, losses_taken}
use Rattle.quic_machine.specs.Receive.{take_frame}
use Rattle.quic_machine.specs.FrameCases.{packets_lost_keep, by_marks, named, frame_keeps, frame_leaves, apart_leaves}
use Rattle.quic_headline.specs.Runs.{In}
use Rattle.quic_headline.specs.Observer.{Sent, asks_of, Flight, latest, is_greatest}
use Rattle.quic_headline.specs.Polls.{bytes_on}
use Rattle.quic_headline.specs.Telling.{Judging, measured_first, told_if, IsPinged, MayProbe, last_moment, TellsAcked, acked_flight, TellsSettled, TellsNamed}
use Rattle.quic_headline.specs.Marking.{Marking, has_grown}
use Rattle.quic_headline.proofs.Packets.Searches.{losses_searched}
use Rattle.quic_headline.proofs.Packets.Waited.{IsWaited, AreWaited}
use Rattle.quic_headline.proofs.Packets.Flying.{Held, Tells, held, losses_tell, acked_keep, acked_held, timed, counted, timed_tells}
use Rattle.quic_headline.proofs.Held.Flight.{bytes_of_end}
use Rattle.quic_headline.proofs.Sizes.Search.{acked_fewer, acked_size}
use Rattle.quic_headline.proofs.Sizes.Probed.{Probes}
use Rattle.quic_headline.proofs.Sizes.Moving.{Moves, moving_flies}
use Rattle.quic_headline.proofs.Marking.Judged.{IsMarked, marks_told, settled_marked}
use Rattle.quic_headline.proofs.Tellings.Losses.{size_told, losses_told}

-- ---- each that is acknowledged

-- a packet that asks counts
packet_told : (e : End) (now : ℕ) (challenged : Bool) (s : Sent) (p : ℕ × TrackedPacket) → now ≡ e.closing.clock → is_none e.validation.challenge ≡ not challenged → IsWaited s p → told_packet e p ≡ told_if (asks_of s && not challenged) (Acked now s.moment s.size e.path.app_limited e.path.rtt)
packet_told e now challenged s p clock free w =
    ap (λ (b : Bool). if b && is_none e.validation.challenge then Acked e.closing.clock p.1.time_sent p.1.size e.path.app_limited e.path.rtt ∷ [] else []) w.asks
    ∙ ap (λ (b : Bool). if asks_of s && b then Acked e.closing.clock p.1.time_sent p.1.size e.path.app_limited e.path.rtt ∷ [] else []) free
    ∙ ap (λ (n : ℕ). if asks_of s && not challenged then Acked n p.1.time_sent p.1.size e.path.app_limited e.path.rtt ∷ [] else []) (sym clock)
    ∙ ap (λ (n : ℕ). if asks_of s && not challenged then Acked now n p.1.size e.path.app_limited e.path.rtt ∷ [] else []) w.time
    ∙ go (asks_of s) (not challenged) w.size
  where
    go : (b c : Bool) → p.1.size ≡ (if b then s.size else 0) → (if b && c then Acked now s.moment p.1.size e.path.app_limited e.path.rtt ∷ [] else []) ≡ told_if (b && c) (Acked now s.moment s.size e.path.app_limited e.path.rtt)
    go true true size = ap (λ (n : ℕ). Acked now s.moment n e.path.app_limited e.path.rtt ∷ []) size
    go true false size = refl
    go false c size = refl

-- whether the peer has a challenge to answer
none_is : (o : Option ℕ) → is_none o ≡ not (is_some o)
none_is None = refl
none_is (Some word) = refl

-- it has one only where its address wasn't validated before the call
some_unvalidated : (o : Option ℕ) (validated : Bool) → (validated ≡ true → o ≡ None) → is_some o ≡ true → validated ≡ false
some_unvalidated o false none some = refl
some_unvalidated o true none some = (let clash : false ≡ true = sym (ap (λ (x : Option ℕ). is_some x) (none refl)) ∙ some in cc)

-- the open probe has no less than the least size
pub may_probe : (least : ℕ) (d : Discovery) (s : Sent) → IsSized least MAX_UDP_PAYLOAD d → (size : ℕ) → acknowledged_probe s.number d ≡ Some size → IsPinged s × (s.size ≡ size) → MayProbe least s
may_probe least d s sized size is found = record { pinged = found.0; sized = subst (λ (n : ℕ). least ≤ n) (sym found.1) (plan_case d.plan sized.between.plan is) }
  where
    chosen : (u : Search) → IsSearch least d.limit u → (b : Bool) → cond {A = Option ℕ} b (Some u.last) None ≡ Some size → least ≤ size
    chosen u i true so = let same : u.last ≡ size = cc in let low = i.low in let last = i.last in omega arith
    chosen u i false so = cc

    search_case : (o : Option Search) → IsSearchIf least d.limit o → probed_by s.number o ≡ Some size → least ≤ size
    search_case None i so = cc
    search_case (Some u) i so = chosen u i (is_number s.number u.probe) so

    plan_case : (o : Option Plan) → IsPlanIf least d.limit o → probed_by s.number (option_and_then search_in o) ≡ Some size → least ≤ size
    plan_case None i so = cc
    plan_case (Some plan) i so = search_case plan.current i.1 so

-- one that is the open probe may give its size to later ones
probe_told : (least : ℕ) (d : Discovery) (s : Sent) (p : ℕ × TrackedPacket) → IsWaited s p → ((size : ℕ) → acknowledged_probe s.number d ≡ Some size → MayProbe least s × (s.size ≡ size))
    → (grows : Bool) × (grows ≡ true → MayProbe least s) × (told_probe p d ≡ told_if grows (Resized s.size))
probe_told least d s p w probes = go (acknowledged_probe p.0 d) refl
  where
    f : Discovery
    f = after_ack p.0 p.1.size d

    go : (o : Option ℕ) → acknowledged_probe p.0 d ≡ o → (grows : Bool) × (grows ≡ true → MayProbe least s) × (told_probe p d ≡ told_if grows (Resized s.size))
    go None is =
        let same : f.size ≡ d.size = acked_size p.0 p.1.size d None is in
        (false, (λ grows. cc), size_told d f s.size (inl same) ∙ ap (λ (b : Bool). told_if (not b) (Resized s.size)) (eq-eqb d.size f.size (sym same)))
    go (Some size) is =
        let found = probes size (ap (λ (n : ℕ). acknowledged_probe n d) (sym w.number) ∙ is) in
        (is_resized d f, (λ grows. found.0), size_told d f s.size (inr (acked_size p.0 p.1.size d (Some size) is ∙ sym found.1)))

-- each in turn
acked_told : (least now : ℕ) (challenged : Bool) (ss : List Sent) (ps : Table TrackedPacket) (e : End) → now ≡ e.closing.clock → is_none e.validation.challenge ≡ not challenged → AreWaited ss ps → IsSized least MAX_UDP_PAYLOAD e.path.discovery → Probes ss e.path.discovery → TellsAcked least now challenged e.path.app_limited e.path.rtt ss (told_packets e ps)
acked_told least now challenged [] [] e clock free w sized probes = refl
acked_told least now challenged (s ∷ ss) (p ∷ ps) e clock free w sized probes =
    let d : Discovery = e.path.discovery in
    let rest : List Told = told_packets (search_acked p e) ps in
    let one = probe_told least d s p w.0 (λ size is. (may_probe least d s sized size is (probes s (inl refl) size is), (probes s (inl refl) size is).1)) in (
      one.0,
      one.1,
      rest,
      acked_told least now challenged ss ps (search_acked p e) clock free w.1 (sized_acked least MAX_UDP_PAYLOAD p.0 p.1.size d sized).0 (λ t i size is. probes t (inr i) size (acked_fewer p.0 p.1.size d t.number size is)),
      ap (λ (ts : List Told). ts ++ told_probe p d ++ rest) (packet_told e now challenged s p clock free w.0)
          ∙ ap (λ (ts : List Told). told_if (asks_of s && not challenged) (Acked now s.moment s.size e.path.app_limited e.path.rtt) ++ ts ++ rest) one.2,
    )
acked_told least now challenged [] (p ∷ ps) e clock free w sized probes = absurd w
acked_told least now challenged (s ∷ ss) [] e clock free w sized probes = absurd w

-- ---- an ACK frame

-- the parts of an end that what is told of losses rests on: its place, its settings, the number
-- that goes next, the one that did as a round trip was first measured, with how long one takes, and
-- whether the end counts as having nothing more to send
pub record Setting : Type 0 where
  pub generation : ℕ
  pub transport : TransportSettings
  pub next : ℕ
  pub first : Option ℕ
  pub rtt : Rtt
  pub limited : Bool

-- those of an end
abbrev pub setting : End → Setting
setting e = record { generation = e.path.generation; transport = e.transport; next = e.numbers.next; first = e.path.first_after_rtt; rtt = e.path.rtt; limited = e.path.app_limited }

-- They are on the path that is judged, and as its losses are judged.
pub record IsJudged (j : Judging) (s : Setting) : Type 0 where
  pub path : s.generation ≡ j.generation
  pub settings : s.transport ≡ j.settings
  pub next : s.next ≡ j.next
  pub measured : s.first ≡ measured_first j.first j.next s.rtt.smoothed
  pub limited : s.limited ≡ j.limited

-- so it is of an end
abbrev pub IsSet : Judging → End → Type 0
IsSet j e = IsJudged j (setting e)

-- packets that are acknowledged leave whether the end had nothing more to send
acked_limited : (ps : Table TrackedPacket) (e : End) → (packets_acked ps e).path.app_limited ≡ e.path.app_limited
acked_limited ps e = acked_keep (λ (x : End). x.path.app_limited ≡ e.path.app_limited) (λ d x i. i) (λ n x i. i) (λ n x i. i) (λ id x i. i) (λ m x i. i) ps e refl

-- a sample is smoothed
sample_smoothed : (r : Rtt) (delay rtt : ℕ) → (smoothed : ℕ) × ((with_sample r delay rtt).smoothed ≡ Some smoothed)
sample_smoothed r delay rtt = go r.smoothed
  where
    go : (o : Option ℕ) → (smoothed : ℕ) × ((sampled_rtt o r.least r.var delay rtt).smoothed ≡ Some smoothed)
    go None = (rtt, refl)
    go (Some before) = (_, refl)

-- the number that goes next counts as a round trip is measured, where none was before
measured_now : (first : Option ℕ) (next : ℕ) (smoothed : Option ℕ) (now : ℕ) (o : Option ℕ) → o ≡ measured_first first next smoothed → first_measured o next ≡ measured_first first next (Some now)
measured_now (Some first) next smoothed now o is = ap (λ (x : Option ℕ). first_measured x next) is
measured_now None next None now o is = ap (λ (x : Option ℕ). first_measured x next) is
measured_now None next (Some before) now o is = ap (λ (x : Option ℕ). first_measured x next) is

-- a round trip that is measured leaves it so
timed_set : (j : Judging) (ps : Table TrackedPacket) (rises : Bool) (a : AckValue) (e : End) → IsSet j e → IsSet j (timed ps rises a e)
timed_set j ps rises a e i = go (measured rises a ps)
  where
    left : End
    left = without_acked ps a e

    stays : IsSet j left
    stays = acked_keep (IsSet j) (λ d x k. k) (λ n x k. k) (λ n x k. k) (λ id x k. k) (λ m x k. k) ps e i

    go : (o : Option TrackedPacket) → IsSet j (sampled o a left)
    go None = stays
    go (Some p) =
        let x : End = sampled (Some p) a left in
        let sample = sample_smoothed left.path.rtt (told_delay left a) (left.closing.clock - p.time_sent) in
        record {
          path = stays.path;
          settings = stays.settings;
          next = stays.next;
          measured =
              ap (λ (n : ℕ). first_measured left.path.first_after_rtt n) stays.next
              ∙ measured_now j.first j.next left.path.rtt.smoothed sample.0 left.path.first_after_rtt stays.measured
              ∙ ap (λ (o : Option ℕ). measured_first j.first j.next o) (sym sample.1);
          limited = stays.limited;
        }

-- so does an ACK frame that names these
named_set : (j : Judging) (ps : Table TrackedPacket) (rises : Bool) (a : AckValue) (e : End) → IsSet j e → IsSet j (after_named ps rises a e)
named_set j [] rises a e i = i
named_set j (p ∷ ps) rises a e i =
    let x : End = timed (p ∷ ps) rises a e in
    let found : IsSet j (losses_detected x) = losses_searched (IsSet j) (λ d y k. k) (λ most y k. k) x (packets_lost_keep (IsSet j) (λ m y k. k) (λ c y k. k) (lost_by (verdict x) x.tracking.packets) x (timed_set j (p ∷ ps) rises a e i)) in
    by_marks rises (length (p ∷ ps)) a (losses_taken (p ∷ ps) rises a e) (IsSet j) (λ counts marking. found)

-- and so does any frame
pub frame_set : (j : Judging) (f : FrameValue) (e : End) → IsSet j e → IsSet j (take_frame f e).end
frame_set j = frame_keeps (IsSet j) (record {
  ack = λ rises a e i. named_set j (acked_by a (named a e).tracking.packets) rises a (named a e) i;
  on_streams = λ f e on i. frame_leaves (IsSet j) f e on (λ t. i);
  apart = λ f e is i. apart_leaves (IsSet j) f e is (λ c. i) (λ c most. i);
  message = λ m e i. i;
})

-- and the search
timed_moves : (flew : List Sent) (least before : ℕ) (flying acked : List Sent) (ps : Table TrackedPacket) (rises : Bool) (a : AckValue) (e : End) → Moves flew least before flying acked (packets_acked ps e) → Moves flew least before flying acked (timed ps rises a e)
timed_moves flew least before flying acked ps rises a e m = go (measured rises a ps)
  where
    go : (o : Option TrackedPacket) → Moves flew least before flying acked (sampled o a (without_acked ps a e))
    go None = m
    go (Some p) = m

module _ (j : Judging) (now : ℕ) (flew : List Sent) (before : ℕ) where
  -- an ACK frame that names these
  settled_told : (ss others : List Sent) (ps : Table TrackedPacket) (rises : Bool) (a : AckValue) (f : Flight) (k : Marking) (e : End) → rises ≡ is_greatest f.named a.largest → ((s : Sent) → In s ss → In s f.flying) → ((s : Sent) → In s others → In s f.flying)
      → ((s : Sent) → In s ss → In s others → ⊥) → AreWaited ss ps → AreWaited others (not_acked_by a e.tracking.packets) → Tells j.terms now (counted a f) (held e) → IsSet j e → (j.validated ≡ true → e.validation.challenge ≡ None) → Moves flew j.settings.min_mtu before f.flying f.acked e → IsMarked k e
      → TellsSettled j now a ss others f k (told_of_losses ps rises a e ++ told_marks rises ps a (losses_taken ps rises a e))
  settled_told ss others ps rises a f k e is inside stays apart acked stay w set unasked moves marked = record {
    challenged = is_some e.validation.challenge;
    unvalidated = some_unvalidated e.validation.challenge j.validated unasked;
    each = told_packets e ps;
    acks = subst (λ (b : Bool). TellsAcked j.settings.min_mtu now (is_some e.validation.challenge) b f.rtt ss (told_packets e ps)) set.limited (subst (λ (r : Rtt). TellsAcked j.settings.min_mtu now (is_some e.validation.challenge) e.path.app_limited r ss (told_packets e ps)) (sym w.rtt) (acked_told j.settings.min_mtu now (is_some e.validation.challenge) ss ps e w.clock (none_is e.validation.challenge) acked moves.sized (λ s i size shown. moves.probes s (moves.inside s (inside s i)) size shown)));
    lost = told_detected true x;
    losses = losses_told j now true (acked_flight j.terms now a ss others f) x told (timed_set j ps rises a e set).path (timed_set j ps rises a e set).settings measured after.floor (λ s i size shown. may_probe j.settings.min_mtu x.path.discovery s after.sized size shown (after.probes s (after.inside s i) size shown));
    is =
        ap (λ (ts : List Told). ts ++ told_marks rises ps a (losses_taken ps rises a e)) (append_assoc (told_packets e ps) (told_acks_ended left) (told_detected true x))
        ∙ ap (λ (y : Told). told_packets e ps ++ y ∷ told_detected true x ++ told_marks rises ps a (losses_taken ps rises a e)) ended
        ∙ ap (λ (ts : List Told). told_packets e ps ++ AcksEnded now (min (bytes_on j.generation others) latest) j.limited (Some (greatest_of f.named a.largest)) ∷ told_detected true x ++ ts) told_more;
  }
    where
      left : End
      left = without_acked ps a e

      x : End
      x = timed ps rises a e

      told : Tells j.terms now (acked_flight j.terms now a ss others f) (held x)
      told = timed_tells j.terms now ss others ps rises a f e is acked stay w

      after : Moves flew j.settings.min_mtu before others (f.acked ++ ss) x
      after = timed_moves flew j.settings.min_mtu before others (f.acked ++ ss) ps rises a e ((moving_flies flew j.settings.min_mtu before (ack a ∷ [])).acks f.flying f.acked ss others ps e a (inl refl) inside stays apart acked moves)

      -- the observer measures the same round trip
      measured : x.path.first_after_rtt ≡ measured_first j.first j.next (acked_flight j.terms now a ss others f).rtt.smoothed
      measured = (timed_set j ps rises a e set).measured ∙ ap (λ (r : Rtt). measured_first j.first j.next r.smoothed) (sym told.rtt)

      clock : now ≡ (losses_taken ps rises a e).closing.clock
      clock = (losses_tell j.terms now (acked_flight j.terms now a ss others f) x told).0.clock

      told_more : told_marks rises ps a (losses_taken ps rises a e) ≡ told_if (has_grown f.named a (length ss) k) (Congested now (last_moment ss) false 0)
      told_more = marks_told f.named now rises ss ps a k (losses_taken ps rises a e) clock is acked (settled_marked k ps rises a e marked)

      ended : AcksEnded left.closing.clock (saturated (bytes_in_flight left)) left.path.app_limited left.numbers.largest_acked ≡ AcksEnded now (min (bytes_on j.generation others) latest) j.limited (Some (greatest_of f.named a.largest))
      ended =
          ap (λ (n : ℕ). AcksEnded n (saturated (bytes_in_flight left)) left.path.app_limited left.numbers.largest_acked) (ap (λ (h : Held). h.closing.clock) (acked_held ps e) ∙ sym w.clock)
          ∙ ap (λ (n : ℕ). AcksEnded now (saturated n) left.path.app_limited left.numbers.largest_acked) (bytes_of_end left j.generation others (ap (λ (h : Held). h.generation) (acked_held ps e) ∙ set.path) stay)
          ∙ ap (λ (b : Bool). AcksEnded now (min (bytes_on j.generation others) latest) b left.numbers.largest_acked) (acked_limited ps e ∙ set.limited)
          ∙ ap (λ (o : Option ℕ). AcksEnded now (min (bytes_on j.generation others) latest) j.limited o) (ap (λ (h : Held). h.numbers.largest_acked) (acked_held ps e) ∙ sym w.named)

  -- one that names these, or none
  pub named_told : (ss others : List Sent) (ps : Table TrackedPacket) (rises : Bool) (a : AckValue) (f : Flight) (k : Marking) (e : End) → rises ≡ is_greatest f.named a.largest → ((s : Sent) → In s ss → In s f.flying) → ((s : Sent) → In s others → In s f.flying)
      → ((s : Sent) → In s ss → In s others → ⊥) → AreWaited ss ps → AreWaited others (not_acked_by a e.tracking.packets) → Tells j.terms now (counted a f) (held e) → IsSet j e → (j.validated ≡ true → e.validation.challenge ≡ None) → Moves flew j.settings.min_mtu before f.flying f.acked e → IsMarked k e → TellsNamed j now a ss others f k (told_named ps rises a e)
  named_told [] others [] rises a f k e is inside stays apart acked stay w set unasked moves marked = refl
  named_told (s ∷ ss) others (p ∷ ps) rises a f k e is inside stays apart acked stay w set unasked moves marked = settled_told (s ∷ ss) others (p ∷ ps) rises a f k e is inside stays apart acked stay w set unasked moves marked
  named_told [] others (p ∷ ps) rises a f k e is inside stays apart acked stay w set unasked moves marked = absurd acked
  named_told (s ∷ ss) others [] rises a f k e is inside stays apart acked stay w set unasked moves marked = absurd acked
