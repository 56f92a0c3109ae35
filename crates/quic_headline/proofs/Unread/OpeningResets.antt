-- The reset of a stream waits, or stands in a packet that is tracked, until the half that sends is
-- done: then RESET_STREAM was acknowledged (RFC 9000, section 3.1).
use Rattle.std.proofs.Common.{◌≡◌, ℕ, Bool, true, false, ◌==◌, List, [], ◌∷◌, ◌++◌, length, Option, Some, None, refl, sym, ap, ◌∙◌, subst, ◌⊎◌, inl, inr, lit<}
use Rattle.std.specs.Prelude.{not, ◌&&◌}
use Rattle.std.specs.Option.{IsSome, is_some}
use Rattle.std.proofs.lemmas.Bool.{cases_eq, cond_both, or_cases, or_left, or_right, eqb-true, both_ways}
use Rattle.std.proofs.lemmas.List.Folds.{list_any-append}
use Rattle.quic_wire.specs.Value.{FrameValue, AckValue, stream, reset_stream, stop_sending, max_data, max_stream_data, max_streams}
use Rattle.quic_send_buffer.specs.declared.stream_meta.StreamMeta.{StreamMeta}
use Rattle.quic_streams_parts.specs.Table.{Table, at, without}
use Rattle.quic_streams_parts.specs.TableLaws.{at-without}
use Rattle.quic_streams_parts.specs.Dirs.{is_own}
use Rattle.quic_streams_parts.specs.SendHalf.{SendHalf}
use Rattle.quic_streams_halves.specs.Halves.{has_place, is_done}
use Rattle.quic_retransmits.specs.Retransmits.{Retransmits}
use Rattle.quic_streams_state.specs.declared.state.StreamsState.{StreamsState}
use Rattle.quic_streams_state.specs.State.{Streams, receiving_status, send_done, without_send, done_if}
use Rattle.quic_streams_state.specs.Acked.{reset_acked_at, after_reset_acked}
use Rattle.quic_streams_laws.specs.Each.{HalfIs, EachSends, AreOfHalves}
use Rattle.quic_streams_laws.specs.EachLaws.{each_kept}
use Rattle.quic_streams_laws.specs.Keeping.{KeepsBy}
use Rattle.quic_streams_laws.specs.Keeping as changes
use Rattle.quic_streams_laws.specs.KeepingLaws.{keeps_fewer, by_stream, by_reset_frame, by_stop_sending, by_max_data_where, by_max_stream_data, by_max_streams, by_stream_lost, by_stream_acked, by_stream_acked_where, by_reset_acked, by_reset_acked_where}
use Rattle.quic_streams_laws.specs.Shape.{IsShaped}
use Rattle.quic_streams_laws.specs.ShapeLaws.{shape_any}
use Rattle.quic_machine.specs.declared.run.Call.{Call}
use Rattle.quic_machine.specs.declared.run.Call.TheVariants as calls
use Rattle.quic_machine.specs.declared.run.Answer.{Answer}
use Rattle.quic_machine.specs.Tracking.{TrackedPacket, Carried, dir_named, names, acked_by, is_lost, lost_by, after_detection}
use Rattle.quic_machine.specs.End.{End, streams_at, number_of}
use Rattle.quic_machine.specs.Calls.{is_open}
use Rattle.quic_machine.specs.StreamCalls.{is_on_streams}
use Rattle.quic_machine.specs.Acked.{without_known, reset_acked, resets_acked, stream_acked, streams_acked, packet_acked, packets_acked, stream_lost, streams_lost, carried_lost, packets_lost, verdict, losses_detected, measured, sampled, without_acked, after_named, losses_taken, request_acked}
use Rattle.quic_machine.specs.Sizes.{search_acked}
use Rattle.quic_machine.specs.Receive.{is_above, names_ungiven, take_frame}
use Rattle.quic_machine.specs.FrameCases.{OnStreams, Settling, named, ack_taken, begun, passed, frames_keep, by_marks, resets_acked_keep, streams_acked_keep, packets_lost_keep, losses_keep, apart_leaves}
use Rattle.quic_machine.specs.Steps as steps
use Rattle.quic_machine.specs.PollCases.{ready_at}
use Rattle.quic_machine.specs.CallCases.{is_delivery}
use Rattle.quic_machine.specs.Machine.{after_call}
use Rattle.quic_headline.specs.Runs.{Intake, In, first_of, reset_by, reset}
use Rattle.quic_headline.specs.Duties.{Reset, has_reset, AnyIn, IsCarried}
use Rattle.quic_headline.proofs.Packets.Searches.{by_losses}
use Rattle.quic_headline.proofs.Packets.Group.{PacketsHold, meets}
use Rattle.quic_headline.proofs.Packets.MayGo.{WasReset, AreReady}
use Rattle.quic_headline.proofs.Packets.Named.{by_frame}
use Rattle.quic_headline.proofs.Places.Parties.{told_of, Party, called}
use Rattle.quic_headline.proofs.Places.Groups.{Way, Calls, Group}
use Rattle.quic_headline.proofs.Places.Coming.{by_coming}
use Rattle.quic_headline.proofs.Halves.Wrote.{reset_more}
use Rattle.quic_headline.proofs.Halves.Ghosts.{wrote, IsWriting}
use Rattle.quic_headline.proofs.Halves.QuietSteps.{sent_within}
use Rattle.quic_headline.proofs.Halves.ReadCalls.{call_kept}
use Rattle.quic_headline.proofs.Halves.Waiting.{stream_same, reset_same, stream_acked_same, reset_acked_same}
use Rattle.quic_headline.proofs.Halves.WordsCalls.{call_on_is}
use Rattle.quic_headline.proofs.Halves.InUse.{InUse, in_use_kept, acked_free}
use Rattle.quic_headline.proofs.Halves.Pile.{resets_of}
use Rattle.quic_headline.proofs.Halves.PileSteps.{HoldsAll}
use Rattle.quic_headline.proofs.Duties.Carrier.{any_either, IsNew}
use Rattle.quic_headline.proofs.Duties.Tail.{AskBefore, next_new}
use Rattle.quic_headline.proofs.Duties.Listed.{ResetOf, listed_in, ListedStands, call_resets, call_stands}
use Rattle.quic_headline.proofs.Unread.OpeningLasts.{Lasts, lasts_any}
use Rattle.quic_headline.proofs.Packets.Delivered.{frames_at}
use Rattle.quic_headline.proofs.Packets.Moved.{by_migrated}

-- ---- lists of resets

has_front : (id : ℕ) (rs more : List (ℕ × ℕ)) → has_reset id rs ≡ true → has_reset id (rs ++ more) ≡ true
has_front id rs more is = list_any-append (λ r. r.0 == id) rs more ∙ or_left (has_reset id rs) (has_reset id more) is

has_behind : (id : ℕ) (rs more : List (ℕ × ℕ)) → has_reset id more ≡ true → has_reset id (rs ++ more) ≡ true
has_behind id rs more is = list_any-append (λ r. r.0 == id) rs more ∙ or_right (has_reset id rs) (has_reset id more) is

-- one of them
reset_among : (id : ℕ) (rs : List (ℕ × ℕ)) → has_reset id rs ≡ true → (r : ℕ × ℕ) × In r rs × (r.0 ≡ id)
reset_among id [] is = cc
reset_among id (r ∷ rs) is = elim (or_cases (r.0 == id) (has_reset id rs) is) [
  | inl here ↦ (r, inl refl, eqb-true r.0 id here)
  | inr more ↦ (let rest = reset_among id rs more in (rest.0, inr rest.1, rest.2))
]

-- what packets carried
packets_reset : (ps : Table TrackedPacket) (id : ℕ) → IsCarried ps (Reset id) → has_reset id (resets_of ps) ≡ true
packets_reset [] id i = absurd i
packets_reset (p ∷ ps) id (inl here) = has_front id p.1.carried.retransmits.reset_stream (resets_of ps) here
packets_reset (p ∷ ps) id (inr more) = has_behind id p.1.carried.retransmits.reset_stream (resets_of ps) (packets_reset ps id more)

-- ---- what waits

abbrev waiting_of : End → List (ℕ × ℕ)
waiting_of e = e.waiting.frames.reset_stream

resets_wait : (rs : List (ℕ × ℕ)) (e : End) → waiting_of (resets_acked rs e) ≡ waiting_of e
resets_wait [] e = refl
resets_wait (r ∷ rs) e = resets_wait rs (reset_acked r.0 e) ∙ reset_acked_same e.streams e.waiting.frames r.0

streams_wait : (ms : List StreamMeta) (e : End) → waiting_of (streams_acked ms e) ≡ waiting_of e
streams_wait [] e = refl
streams_wait (m ∷ ms) e = streams_wait ms (stream_acked m e) ∙ stream_acked_same e.streams e.waiting.frames m

known_wait : (o : Option ℕ) (e : End) → waiting_of (without_known o e) ≡ waiting_of e
known_wait None e = refl
known_wait (Some n) e = refl

-- acknowledged packets leave it
packets_wait : (ps : Table TrackedPacket) (e : End) → waiting_of (packets_acked ps e) ≡ waiting_of e
packets_wait [] e = refl
packets_wait (p ∷ ps) e =
    let c : Carried = p.1.carried in
    let asked : End = request_acked p.0 (search_acked p e) in
    let knows : End = without_known c.largest_acked asked in
    packets_wait ps (packet_acked p e) ∙ streams_wait c.stream_frames (resets_acked c.retransmits.reset_stream knows) ∙ resets_wait c.retransmits.reset_stream knows ∙ known_wait c.largest_acked asked

lost_wait : (ms : List StreamMeta) (e : End) → (streams_lost ms e).waiting ≡ e.waiting
lost_wait [] e = refl
lost_wait (m ∷ ms) e = lost_wait ms (stream_lost m e)

-- what lost packets carried waits, and what waited
losses_wait : (ps : Table TrackedPacket) (e : End) (id : ℕ) → (has_reset id (waiting_of e) ≡ true) ⊎ IsCarried ps (Reset id) → has_reset id (waiting_of (packets_lost ps e)) ≡ true
losses_wait [] e id (inl was) = was
losses_wait [] e id (inr none) = absurd none
losses_wait (p ∷ ps) e id i = losses_wait ps (carried_lost p.1.carried e) id (one i)
  where
    c : Carried
    c = p.1.carried

    same : waiting_of (carried_lost c e) ≡ waiting_of e ++ c.retransmits.reset_stream
    same = ap (λ w. w.frames.reset_stream ++ c.retransmits.reset_stream) (lost_wait c.stream_frames e)

    one : (has_reset id (waiting_of e) ≡ true) ⊎ IsCarried (p ∷ ps) (Reset id) → (has_reset id (waiting_of (carried_lost c e)) ≡ true) ⊎ IsCarried ps (Reset id)
    one (inl was) = inl (ap (has_reset id) same ∙ has_front id (waiting_of e) c.retransmits.reset_stream was)
    one (inr (inl here)) = inl (ap (has_reset id) same ∙ has_behind id (waiting_of e) c.retransmits.reset_stream here)
    one (inr (inr more)) = inr more

-- the shape of streams lasts
shape_lasts : Lasts IsShaped
shape_lasts = lasts_any IsShaped (λ s dir may. may) shape_any

-- ---- one stream

module _ (id : ℕ) where
  -- its half that sends is done
  abbrev pub SendsNoMore : StreamsState → Type 0
  SendsNoMore s = EachSends (λ j limit. Unit {0}) (λ j. (j ≡ id → ⊥)) (λ j h. (j ≡ id → ⊥)) (λ j. Unit {0}) s

  ends_of_halves : AreOfHalves (λ j limit. Unit {0}) (λ j. (j ≡ id → ⊥)) (λ j h. (j ≡ id → ⊥)) (λ j. Unit {0})
  ends_of_halves = record { fresh = λ j limit f ne. ne; over = λ j h ne over. tt; blocked = λ j h b ne. ne; noted = λ j h said ne. ne; placed = λ j h p ne. ne }

  ends_kept : KeepsBy (λ r j old new. Unit {0}) (λ s j old new. Unit {0}) (λ s j n old new. Unit {0}) SendsNoMore
  ends_kept = keeps_fewer (λ r j old new x. x) (λ s j old new x ne. ne) (λ s j n old new x ne. ne) (each_kept (λ j limit. Unit {0}) (λ j. (j ≡ id → ⊥)) (λ j h. (j ≡ id → ⊥)) (λ j. Unit {0}) ends_of_halves)

  pub sends_last : Lasts SendsNoMore
  sends_last = lasts_any SendsNoMore (λ s dir may. may) ends_kept

  -- it is done
  either : (j : ℕ) (o : Option SendHalf) (used : Bool) → (j ≡ id → (o ≡ None) × (used ≡ true)) → HalfIs (j ≡ id → ⊥) (λ h. (j ≡ id → ⊥)) (Unit {0}) o used
  either j (Some h) used c = λ same. (let clash : Some h ≡ None = (c same).0 in cc)
  either j None true c = tt
  either j None false c = λ same. (let clash : false ≡ true = (c same).1 in cc)

  off : (s : StreamsState) (h : SendHalf) → at s.sending.halves.live id ≡ Some h → is_some h.reset ≡ true → IsShaped s → SendsNoMore (send_done s id)
  off s h is reset shape = go (not (is_own s.side id) && is_done (receiving_status s id)) (shape_any (changes.ends_sending id h) s (is, (inl reset)) shape)
    where
      gone : (j : ℕ) → j ≡ id → (at (without s.sending.halves.live id) j ≡ None) × (has_place s.side s.sending.halves.places j ≡ true)
      gone j same = subst (λ (x : ℕ). (at (without s.sending.halves.live id) x ≡ None) × (has_place s.side s.sending.halves.places x ≡ true)) (sym same) (at-without s.sending.halves.live id shape.sending.sorted, shape.sending.placed id h is)

      go : (b : Bool) → IsShaped (done_if b id (without_send s id)) → SendsNoMore (done_if b id (without_send s id))
      go true shaped = record { shape = shaped; first = λ j. tt; each = λ j. either j (at (without s.sending.halves.live id) j) (has_place s.side s.sending.halves.places j) (gone j) }
      go false shaped = record { shape = shaped; first = λ j. tt; each = λ j. either j (at (without s.sending.halves.live id) j) (has_place s.side s.sending.halves.places j) (gone j) }

  -- one of its resets
  abbrev r : ℕ × ℕ
  r = (id, 0)

  -- its half is in use and was reset, or is done
  record Going (e : End) : Type 0 where
    shape : IsShaped e.streams
    half : InUse r e.streams ⊎ SendsNoMore e.streams

  -- ---- what is acknowledged

  reset_off : (s : StreamsState) (p : Retransmits) → IsShaped s → InUse r s → SendsNoMore (after_reset_acked s p id).state
  reset_off s p shape u = subst (λ (o : Option SendHalf). SendsNoMore (reset_acked_at o s p id).state) (sym u.found)
      (cond_both {A = Streams} (is_some u.half.reset) _ _ (λ (t : Streams). SendsNoMore t.state) (λ e. off s u.half u.found e shape) (λ e. absurd (both_ways (is_some u.half.reset) e (ap is_some u.reset))))

  sends_settle : Settling (λ (e : End). SendsNoMore e.streams)
  sends_settle (steps.reset q) e i = sends_last.calls.quiet.reset_acked e.streams e.waiting.frames q i
  sends_settle (steps.acked m) e i = sends_last.calls.quiet.acked e.streams e.waiting.frames m i
  sends_settle (steps.lost m) e i = sends_last.calls.quiet.lost e.streams m i
  sends_settle s e i = i

  reset_going : (q : ℕ) (e : End) → Going e → Going (reset_acked q e)
  reset_going q e g = record { shape = by_reset_acked IsShaped shape_any e.streams e.waiting.frames q g.shape; half = go g.half (cases_eq q id) }
    where
      go : InUse r e.streams ⊎ SendsNoMore e.streams → (q ≡ id) ⊎ (q ≡ id → ⊥) → InUse r (reset_acked q e).streams ⊎ SendsNoMore (reset_acked q e).streams
      go (inr n) either = inr (sends_settle (steps.reset q) e n)
      go (inl u) (inl same) = inr (subst (λ (x : ℕ). SendsNoMore (after_reset_acked e.streams e.waiting.frames x).state) (sym same) (reset_off e.streams e.waiting.frames g.shape u))
      go (inl u) (inr ne) = inl (by_reset_acked_where (InUse r) (in_use_kept r) e.streams e.waiting.frames q (λ h is was some same. ne same) u)

  acked_going : (m : StreamMeta) (e : End) → Going e → Going (stream_acked m e)
  acked_going m e g = record { shape = by_stream_acked IsShaped shape_any e.streams e.waiting.frames m (λ h is free. tt) (λ h is free all. tt) g.shape; half = go g.half }
    where
      go : InUse r e.streams ⊎ SendsNoMore e.streams → InUse r (stream_acked m e).streams ⊎ SendsNoMore (stream_acked m e).streams
      go (inr n) = inr (sends_settle (steps.acked m) e n)
      go (inl u) = inl (by_stream_acked_where (InUse r) (in_use_kept r) e.streams e.waiting.frames m (λ half is free some. refl) (λ half is free all. tt) (λ half all some same. acked_free half all some) u)

  lost_going : (m : StreamMeta) (e : End) → Going e → Going (stream_lost m e)
  lost_going m e g = record { shape = by_stream_lost IsShaped shape_any e.streams m (λ h is free. tt) g.shape; half = go g.half }
    where
      go : InUse r e.streams ⊎ SendsNoMore e.streams → InUse r (stream_lost m e).streams ⊎ SendsNoMore (stream_lost m e).streams
      go (inr n) = inr (sends_settle (steps.lost m) e n)
      go (inl u) = inl (by_stream_lost (InUse r) (in_use_kept r) e.streams m (λ half is free some. refl) u)

  going_settle : Settling Going
  going_settle (steps.reset id) e i = reset_going id e i
  going_settle (steps.acked m) e i = acked_going m e i
  going_settle (steps.lost m) e i = lost_going m e i
  going_settle s e g = record { shape = g.shape; half = g.half }

  -- packets that are acknowledged
  module _ (P : End → Type 0) (c : Settling P) where
    known_on : (o : Option ℕ) (e : End) → P e → P (without_known o e)
    known_on None e i = i
    known_on (Some n) e i = c (steps.known n) e i

    packet_on : (p : ℕ × TrackedPacket) (e : End) → P e → P (packet_acked p e)
    packet_on p e i =
        let learned : End = search_acked p e in
        let asked : End = request_acked p.0 learned in
        let knows : End = without_known p.1.carried.largest_acked asked in
        streams_acked_keep P (λ m. c (steps.acked m)) p.1.carried.stream_frames (resets_acked p.1.carried.retransmits.reset_stream knows)
        (resets_acked_keep P (λ q. c (steps.reset q)) p.1.carried.retransmits.reset_stream knows (known_on p.1.carried.largest_acked asked (c (steps.answered p.0) learned (c (steps.searched learned.path.discovery) e i))))

    packets_on : (ps : Table TrackedPacket) (e : End) → P e → P (packets_acked ps e)
    packets_on [] e i = i
    packets_on (p ∷ ps) e i = packets_on ps (packet_acked p e) (packet_on p e i)

  -- RESET_STREAM frames of which one is of the stream
  resets_off : (rs : List (ℕ × ℕ)) (e : End) → has_reset id rs ≡ true → Going e → SendsNoMore (resets_acked rs e).streams
  resets_off [] e is g = cc
  resets_off (q ∷ rs) e is g = elim (or_cases (q.0 == id) (has_reset id rs) is) [
    | inl here ↦ resets_acked_keep (λ (x : End). SendsNoMore x.streams) (λ q. sends_settle (steps.reset q)) rs (reset_acked q.0 e) (first (eqb-true q.0 id here) g.half)
    | inr more ↦ resets_off rs (reset_acked q.0 e) more (reset_going q.0 e g)
  ]
    where
      first : q.0 ≡ id → InUse r e.streams ⊎ SendsNoMore e.streams → SendsNoMore (reset_acked q.0 e).streams
      first same (inl u) = subst (λ (x : ℕ). SendsNoMore (after_reset_acked e.streams e.waiting.frames x).state) (sym same) (reset_off e.streams e.waiting.frames g.shape u)
      first same (inr n) = sends_settle (steps.reset q.0) e n

  abbrev HasIt : ℕ × TrackedPacket → Type 0
  HasIt q = has_reset id q.1.carried.retransmits.reset_stream ≡ true

  -- packets of which one carried it
  packets_off : (ps : Table TrackedPacket) (e : End) → AnyIn HasIt ps → Going e → SendsNoMore (packets_acked ps e).streams
  packets_off [] e none g = absurd none
  packets_off (p ∷ ps) e (inl here) g =
      let learned : End = search_acked p e in
      let asked : End = request_acked p.0 learned in
      let knows : End = without_known p.1.carried.largest_acked asked in
      packets_on (λ (x : End). SendsNoMore x.streams) sends_settle ps (packet_acked p e)
      (streams_acked_keep (λ (x : End). SendsNoMore x.streams) (λ m. sends_settle (steps.acked m)) p.1.carried.stream_frames (resets_acked p.1.carried.retransmits.reset_stream knows)
      (resets_off p.1.carried.retransmits.reset_stream knows here (known_on Going going_settle p.1.carried.largest_acked asked (going_settle (steps.answered p.0) learned (going_settle (steps.searched learned.path.discovery) e g)))))
  packets_off (p ∷ ps) e (inr more) g = packets_off ps (packet_acked p e) more (packet_on Going going_settle p e g)

  -- ---- where its reset is

  -- it waits, or stands in a tracked packet, or the half is done
  abbrev Stands : End → Type 0
  Stands e = ((listed_in (ResetOf id) e.waiting.frames ≡ true) ⊎ IsCarried e.tracking.packets (Reset id)) ⊎ SendsNoMore e.streams

  record Goes (e : End) : Type 0 where
    going : Going e
    stands : Stands e

  -- losses that are detected
  detected_goes : (e : End) → Goes e → Goes (losses_detected e)
  detected_goes e g = record { going = losses_keep Going going_settle e g.going; stands = by_losses Stands e (λ discovery queues. go g.stands) }
    where
      lost : Table TrackedPacket
      lost = lost_by (verdict e) e.tracking.packets

      go : Stands e → ((listed_in (ResetOf id) (packets_lost lost e).waiting.frames ≡ true) ⊎ IsCarried (after_detection (verdict e) e.tracking).packets (Reset id)) ⊎ SendsNoMore (packets_lost lost e).streams
      go (inl (inl waits)) = inl (inl (losses_wait lost e id (inl waits)))
      go (inl (inr flying)) = elim (any_either HasIt (is_lost (verdict e)) e.tracking.packets flying) [ inl gone ↦ inl (inl (losses_wait lost e id (inr gone))) | inr kept ↦ inl (inr kept) ]
      go (inr n) = inr (packets_lost_keep (λ (x : End). SendsNoMore x.streams) (λ m. sends_settle (steps.lost m)) (λ carried. sends_settle (steps.again carried)) lost e n)

  -- the same of an end with such streams, of which the same waits and is tracked
  goes_same : (e f : End) → f.streams ≡ e.streams → waiting_of f ≡ waiting_of e → f.tracking.packets ≡ e.tracking.packets → Goes e → Goes f
  goes_same e f streams waits tracked g = record {
    going = record { shape = rw streams g.going.shape; half = rw streams g.going.half };
    stands = rw (streams, waits, tracked) g.stands;
  }

  sampled_goes : (o : Option TrackedPacket) (a : AckValue) (e : End) → Goes e → Goes (sampled o a e)
  sampled_goes None a e g = g
  sampled_goes (Some p) a e g = goes_same e (sampled (Some p) a e) refl refl refl g

  -- an ACK frame that names these packets
  named_goes : (ps : Table TrackedPacket) (rises : Bool) (a : AckValue) (e : End) → acked_by a e.tracking.packets ≡ ps → Goes e → Goes (after_named ps rises a e)
  named_goes [] rises a e is g = g
  named_goes (p ∷ ps) rises a e is g =
      let o : Option TrackedPacket = measured rises a (p ∷ ps) in
      let left : End = without_acked (p ∷ ps) a e in
      let found : End = losses_detected (sampled o a left) in
      let taken : End = losses_taken (p ∷ ps) rises a e in
      by_marks rises (length (p ∷ ps)) a taken Goes (λ m marking. goes_same found _ refl refl refl (detected_goes (sampled o a left) (sampled_goes o a left one)))
    where
      packets : Table TrackedPacket
      packets = e.tracking.packets

      left : End
      left = without_acked (p ∷ ps) a e

      acked : Going (packets_acked (p ∷ ps) e)
      acked = packets_on Going going_settle (p ∷ ps) e g.going

      go : ((listed_in (ResetOf id) e.waiting.frames ≡ true) ⊎ IsCarried packets (Reset id)) ⊎ SendsNoMore e.streams → ((listed_in (ResetOf id) left.waiting.frames ≡ true) ⊎ IsCarried left.tracking.packets (Reset id)) ⊎ SendsNoMore left.streams
      go (inl (inl waits)) = inl (inl (ap (has_reset id) (packets_wait (p ∷ ps) e) ∙ waits))
      go (inl (inr flying)) = elim (any_either HasIt (λ q. names a q.0) packets flying) [
        | inl gone ↦ inr (packets_off (p ∷ ps) e (subst (AnyIn HasIt) is gone) g.going)
        | inr other ↦ inl (inr other)
      ]
      go (inr n) = inr (packets_on (λ (x : End). SendsNoMore x.streams) sends_settle (p ∷ ps) e n)

      one : Goes left
      one = record { going = record { shape = acked.shape; half = acked.half }; stands = go g.stands }

  -- ---- a frame

  -- on streams
  half_on : (f : FrameValue) (e : End) → OnStreams f → InUse r e.streams → InUse r (take_frame f e).end.streams
  half_on (stream f) e on u = by_stream (InUse r) (in_use_kept r) e.streams e.waiting.frames f (λ h a b. tt) u
  half_on (reset_stream f) e on u = by_reset_frame (InUse r) (in_use_kept r) e.streams e.waiting.frames f (λ h a b. tt) u
  half_on (stop_sending f) e on u = by_stop_sending (InUse r) (in_use_kept r) e.streams f (λ h is some. refl) u
  half_on (max_data limit) e on u = by_max_data_where (InUse r) (in_use_kept r) e.streams limit tt u
  half_on (max_stream_data f) e on u = by_max_stream_data (InUse r) (in_use_kept r) e.streams f.id f.limit (λ h is above some. refl) u
  half_on (max_streams f) e on u = by_max_streams (InUse r) (in_use_kept r) (dir_named f.one_way) f.count e.streams u
  half_on f e on u = absurd on

  waits_on : (f : FrameValue) (e : End) → OnStreams f → waiting_of (take_frame f e).end ≡ waiting_of e
  waits_on (stream f) e on = stream_same e.streams e.waiting.frames f
  waits_on (reset_stream f) e on = reset_same e.streams e.waiting.frames f
  waits_on (stop_sending f) e on = refl
  waits_on (max_data limit) e on = refl
  waits_on (max_stream_data f) e on = refl
  waits_on (max_streams f) e on = refl
  waits_on f e on = absurd on

  tracks_on : (f : FrameValue) (e : End) → OnStreams f → (take_frame f e).end.tracking ≡ e.tracking
  tracks_on (stream f) e on = refl
  tracks_on (reset_stream f) e on = refl
  tracks_on (stop_sending f) e on = refl
  tracks_on (max_data limit) e on = refl
  tracks_on (max_stream_data f) e on = refl
  tracks_on (max_streams f) e on = refl
  tracks_on f e on = absurd on

  streams_goes : (f : FrameValue) (e : End) → OnStreams f → Goes e → Goes (take_frame f e).end
  streams_goes f e on g = record { going = record { shape = shape_lasts.frame f e g.going.shape; half = half g.going.half }; stands = stands g.stands }
    where
      half : InUse r e.streams ⊎ SendsNoMore e.streams → InUse r (take_frame f e).end.streams ⊎ SendsNoMore (take_frame f e).end.streams
      half (inl u) = inl (half_on f e on u)
      half (inr n) = inr (sends_last.frame f e n)

      stands : ((listed_in (ResetOf id) e.waiting.frames ≡ true) ⊎ IsCarried e.tracking.packets (Reset id)) ⊎ SendsNoMore e.streams → ((listed_in (ResetOf id) (take_frame f e).end.waiting.frames ≡ true) ⊎ IsCarried (take_frame f e).end.tracking.packets (Reset id)) ⊎ SendsNoMore (take_frame f e).end.streams
      stands (inl (inl waits)) = inl (inl (ap (has_reset id) (waits_on f e on) ∙ waits))
      stands (inl (inr flying)) = inl (inr (subst (λ t. IsCarried t.packets (Reset id)) (sym (tracks_on f e on)) flying))
      stands (inr n) = inr (sends_last.frame f e n)

  -- any
  frame_goes : (f : FrameValue) (e : End) → Goes e → Goes (take_frame f e).end
  frame_goes f e g = by_frame f e (λ h p. Goes p.end) (λ a is. acks a (names_ungiven a e)) (λ other on. streams_goes f e on g) (λ other m same. subst Goes (sym same) (goes_same e _ refl refl refl g)) (λ other apart. apart_leaves Goes f e apart (λ c. goes_same e _ refl refl refl g) (λ c most. goes_same e _ refl refl refl g))
    where
      acks : (a : AckValue) (b : Bool) → Goes (ack_taken b a e).end
      acks a true = g
      acks a false = named_goes (acked_by a e.tracking.packets) (is_above e.numbers.largest_acked a.largest) a (named a e) refl (goes_same e (named a e) refl refl refl g)

  -- where something of it stands, the half is in use
  in_use_of : (e : End) → HoldsAll e → ((listed_in (ResetOf id) e.waiting.frames ≡ true) ⊎ IsCarried e.tracking.packets (Reset id)) → InUse r e.streams
  in_use_of e all stands = go (reset_among id (waiting_of e ++ resets_of e.tracking.packets) (there stands))
    where
      there : ((listed_in (ResetOf id) e.waiting.frames ≡ true) ⊎ IsCarried e.tracking.packets (Reset id)) → has_reset id (waiting_of e ++ resets_of e.tracking.packets) ≡ true
      there (inl waits) = has_front id (waiting_of e) (resets_of e.tracking.packets) waits
      there (inr flying) = has_behind id (waiting_of e) (resets_of e.tracking.packets) (packets_reset e.tracking.packets id flying)

      go : (q : ℕ × ℕ) × In q (waiting_of e ++ resets_of e.tracking.packets) × (q.0 ≡ id) → InUse r e.streams
      go found =
          let was : WasReset e.streams.sending.halves.live found.0 = all.holds.pile.reset found.0 found.1 in
          record { half = was.half; found = subst (λ (x : ℕ). at e.streams.sending.halves.live x ≡ Some was.half) found.2 was.found; size = was.size; reset = was.reset; code = lit< tt }

-- ---- the group

-- each reset of x waits, or stands in a tracked packet, or its half is done
pub record Resetting (x y : Party) : Type 0 where
  pub each : (id : ℕ) → IsSome (reset id x.told) → ListedStands [] (ResetOf id) x.end ⊎ SendsNoMore id x.end.streams

-- what that rests on
pub record IsResetting (B : Way) : Type 1 where
  pub writing : IsWriting B
  pub ready : (x y : Party) → B x y → (now : ℕ) → AreReady (ready_at x.end now).end.streams.sending.halves.live (ready_at x.end now).end.waiting.frames
  pub holds : (x y : Party) → B x y → HoldsAll x.end
  pub asked : (x y : Party) → B x y → AskBefore x.sents x.end.tracking.greatest_asking

-- a call that is none on streams resets none
none_reset : (id : ℕ) (call : Call) (a : Answer) → is_on_streams call ≡ false → IsSome (reset_by id call a) → ⊥
none_reset id (calls.Reset s code) a off some = cc
none_reset id call a off some = cc

module _ (B : Way) (b : IsResetting B) (x y : Party) (call : Call) (a : Answer) (c : Calls B x y call a) (i : Resetting x y) where
  w : IsWriting B
  w = b.writing

  gives : PacketsHold x y
  gives = w.packets x y c.gives

  new : IsNew x.end.tracking.packets (number_of x.end)
  new = next_new x.sents x.end gives.gives.below gives.tracked

  abbrev Now : ℕ → End → Type 0
  Now id e = ListedStands [] (ResetOf id) e ⊎ SendsNoMore id e.streams

  none_came : (id : ℕ) (e : End) → ListedStands [] (ResetOf id) e → (listed_in (ResetOf id) e.waiting.frames ≡ true) ⊎ IsCarried e.tracking.packets (Reset id)
  none_came id e (inl waits) = inl waits
  none_came id e (inr (inl flying)) = inr flying
  none_came id e (inr (inr came)) = absurd came.was_taken

  -- before the frames of a packet
  goes_first : (id : ℕ) → Now id x.end → Goes id x.end
  goes_first id (inl stands) =
      let there = none_came id x.end stands in
      record { going = record { shape = (w.written x y c.gives).shape; half = inl (in_use_of id x.end (b.holds x y c.gives) there) }; stands = inl there }
  goes_first id (inr n) = record { going = record { shape = (w.written x y c.gives).shape; half = inr n }; stands = inr n }

  -- and behind
  goes_last : (id : ℕ) (e : End) → Goes id e → Now id e
  goes_last id e g = go g.stands
    where
      go : ((listed_in (ResetOf id) e.waiting.frames ≡ true) ⊎ IsCarried e.tracking.packets (Reset id)) ⊎ SendsNoMore id e.streams → Now id e
      go (inl (inl waits)) = inl (inl waits)
      go (inl (inr flying)) = inl (inr (inl flying))
      go (inr n) = inr n

  old_one : (id : ℕ) → Now id x.end → Now id (called x y.given call a).end
  old_one id now = by_coming x y a c.joined c.served (meets y x (w.packets y x c.takes)) (λ (e : End) (j : Intake). Now id e) call c.answer (record {
    apart = λ apart. other apart now;
    none = λ delivery is. now;
    comes = λ delivery is s among here. (
        let taken : List FrameValue = frames_at here s.frames in
        let before : End = begun x.end delivery.now s.number in
        let first : Goes id before = goes_same id x.end before refl refl refl (goes_first id now) in
        let after : Now id (passed taken before).end = goes_last id (passed taken before).end (frames_keep (Goes id) (frame_goes id) taken before first) in
        record { ignored = λ reason. now; noted = λ state reason. now; takes = λ words state fresh none urged mark. after; moves = λ p o same remote z opened j. by_migrated (Now id) p o remote z (λ c. j) (λ c most. j); drains = λ words state fresh close fault. after; refuses = λ words state fresh f fault. after; exhausts = λ state. now });
  })
    where
      other : is_delivery call ≡ false → Now id x.end → Now id (after_call x.policy x.end y.given call a)
      other apart (inl stands) = inl (call_stands [] x.sents (ResetOf id) x.policy x.end y.given call a apart gives.ascends gives.tracked (b.asked x y c.gives) new (b.ready x y c.gives) stands)
      other apart (inr n) = inr (call_kept (SendsNoMore id) (sends_last id).calls x.policy x.end y.given (sent_within (wrote x.told) x.end.streams (w.written x y c.gives)) n call a c.answer apart (λ dir same. (sends_last id).accepts dir x.end.streams n))

  new_one : (id : ℕ) → IsSome (reset_by id call a) → Now id (called x y.given call a).end
  new_one id some = go (is_on_streams call) refl
    where
      go : (on : Bool) → is_on_streams call ≡ on → Now id (called x y.given call a).end
      go true on =
          let k = call_on_is x.policy x.end y.given call a on in
          inl (inl (ap (λ (e : End). listed_in (ResetOf id) e.waiting.frames) k.same ∙ call_resets id (is_open x.end.closing.state) (streams_at x.end) call a (k.answer c.answer) some))
      go false off = absurd (none_reset id call a off some)

  resetting_call : Resetting (called x y.given call a) y
  resetting_call = record { each = λ id some. go id (reset id x.told) refl (subst (λ (o : Option ℕ). IsSome o) (reset_more id x.told (told_of call a x.end.closing.state)) some) }
    where
      go : (id : ℕ) (o : Option ℕ) → reset id x.told ≡ o → IsSome (first_of o (reset_by id call a)) → Now id (called x y.given call a).end
      go id (Some code) is some = old_one id (i.each id (ap is_some is))
      go id None is some = new_one id some

pub resetting_group : (B : Way) → IsResetting B → Group B Resetting
resetting_group B b = record {
  first = λ x y m there back. record { each = λ id some. cc };
  writer = λ x y call a c i back. resetting_call B b x y call a c i;
  reader = λ x y call a c there i. record { each = i.each };
  shows = λ x y here there before back i j. record { each = i.each };
}
