-- What a delivery makes due at an end: an acknowledgement that was due for packets that ask stays
-- so, and one becomes due where the observer of the end finds a packet that hastens it; or where
-- the packet is urged by its mark, and nowhere else.
use Rattle.std.proofs.Common.{◌≡◌, ℕ, ◌+◌, ◌-◌, ◌^◌, ◌<◌, ◌⊎◌, Bool, true, false, ◌||◌, cond, max, min, List, [], ◌∷◌, ◌++◌, length, map, Option, Some, None, Ok, refl, sym, ap, ◌∙◌, subst, inl, inr, arith}
use Rattle.std.specs.Prelude.{nat_lt, unwrap_or}
use Rattle.std.specs.List.{list_any}
use Rattle.std.proofs.Math.Bool.{or-false, or_assoc}
use Rattle.std.proofs.lemmas.Bool.{or_cases, or_left, or_right, and_parts, and_from, lt-ltb, ltb-true}
use Rattle.quic_wire.specs.Value.{FrameValue, AckValue, ack, stream, reset_stream, stop_sending, max_data, max_stream_data, max_streams, datagram, immediate_ack, asks}
use Rattle.quic_recovery_core.specs.Duplicates.{Seen, after_insert as with_seen}
use Rattle.quic_recovery_core.specs.DuplicateRuns.{seen_after}
use Rattle.quic_recovery_core.specs.PendingAcks.{Pending, after_insert, count_up, greatest_before, asking_counted, starts_wait, after_packet}
use Rattle.quic_recovery_core.specs.PendingAcks as pending
use Rattle.quic_spaces.specs.Acknowledging.{with_due}
use Rattle.quic_spaces.specs.Numbers.{Numbers}
use Rattle.quic_machine.specs.declared.answers.State.TheVariants as states
use Rattle.quic_machine.specs.Closing.{Closing}
use Rattle.quic_machine.specs.End.{End}
use Rattle.quic_machine.specs.declared.answers.Received.TheVariants as receives
use Rattle.quic_machine.specs.declared.run.Delivery.{Delivery}
use Rattle.quic_machine.specs.declared.run.Answer.{Answer}
use Rattle.quic_machine.specs.declared.run.Answer.TheVariants as answers
use Rattle.quic_machine.specs.Receive.{is_above, names_ungiven, take_frame, asks_in, is_urged, Outcome}
use Rattle.quic_machine.specs.FrameCases.{Settling, named, ack_taken, acked_keeps, message_leaves, begun, passed, frames_taken}
use Rattle.quic_machine.specs.Steps as steps
use Rattle.quic_headline.specs.Runs.{Packet, Intake}
use Rattle.quic_headline.specs.Requested.{Requested, requested_by, requested}
use Rattle.quic_headline.specs.Observer.{news}
use Rattle.quic_headline.specs.Rest.{asking_among}
use Rattle.quic_headline.specs.AcksDue.{is_too_late, is_immediate_ack, hastens, one_hastens}
use Rattle.quic_headline.proofs.Packets.Apart.{apart_asks}
use Rattle.quic_headline.proofs.Packets.Delivered.{frames_at, Arrivals, ArrivalsWith, arrived, with_taken}
use Rattle.quic_headline.proofs.Packets.Moved.{migrated_closing, migrated_acks}
use Rattle.quic_headline.proofs.Packets.Strays.{same_at}
use Rattle.quic_headline.proofs.Packets.Watching.{none_new, one_new}
use Rattle.quic_headline.proofs.Packets.Stays.{keeps_frames}
use Rattle.quic_headline.proofs.Timers.AckMoments.{asks_same}
use Rattle.quic_headline.proofs.Rest.Standing.{CountsOn, frames_acks}
use Rattle.quic_headline.proofs.Rest.Unanswered.{taken_counts}
use Rattle.quic_headline.proofs.AcksDue.Rules.{asked_of, Rule, rule_of, rule_by, requested_at, frames_asked, packet_asked, latest_is}
use Rattle.quic_headline.proofs.AcksDue.Gaps.{TookCame, late_there, late_back}

-- an acknowledgement is due for packets that ask
abbrev pub IsPressed : Pending → Type 0
IsPressed p = (p.due ≡ true) × (0 < p.asking)

-- ---- a packet that is taken

-- the timer changes nothing that is due
waited : (b : Bool) (p : Pending) (now : ℕ) → (cond b (record p { since = Some now }) p).due ≡ p.due
waited true p now = refl
waited false p now = refl

-- what was due is due still
pub packet_due : (b : Bool) (p : Pending) (now n : ℕ) (s : Seen) → p.due ≡ true → (after_packet p now n b s).due ≡ true
packet_due true p now n s due = waited (starts_wait (asking_counted p n s)) (asking_counted p n s) now ∙ or_left p.due (nat_lt p.threshold (count_up p.asking) || pending.is_out_of_order p (greatest_before p) (max (greatest_before p) n) n s) due
packet_due false p now n s due = due

-- and it becomes so where more wait than may, or the packet is out of order
packet_hastens : (p : Pending) (now n : ℕ) (s : Seen) → (nat_lt p.threshold (count_up p.asking) ≡ true) ⊎ (pending.is_out_of_order p (greatest_before p) (max (greatest_before p) n) n s ≡ true) → (after_packet p now n true s).due ≡ true
packet_hastens p now n s cause =
    let many = nat_lt p.threshold (count_up p.asking) in
    let order = pending.is_out_of_order p (greatest_before p) (max (greatest_before p) n) n s in
    waited (starts_wait (asking_counted p n s)) (asking_counted p n s) now ∙ or_right p.due (many || order) (elim cause [ inl is ↦ or_left many order is | inr is ↦ or_right many order is ])

-- the timer changes no count
waited_asking : (b : Bool) (p : Pending) (now : ℕ) → (cond b (record p { since = Some now }) p).asking ≡ p.asking
waited_asking true p now = refl
waited_asking false p now = refl

-- one that asks counts
packet_count : (b : Bool) (p : Pending) (now n : ℕ) (s : Seen) → (after_packet p now n b s).asking ≡ cond b (count_up p.asking) p.asking
packet_count true p now n s = waited_asking (starts_wait (asking_counted p n s)) (asking_counted p n s) now
packet_count false p now n s = refl

-- as many packets as these are counted, as far as counts go
abbrev pub Counts : ℕ → List Packet → Type 0
Counts asking ps = asking ≡ min (length ps) (2 ^ 64 - 1)

-- so it is with one more
counts_on : (b : Bool) (q : Packet) (ps : List Packet) (asking : ℕ) → Counts asking ps → Counts (cond b (count_up asking) asking) (cond b (q ∷ []) [] ++ ps)
counts_on true q ps asking c = omega (arith, c)
counts_on false q ps asking c = c

-- ---- IMMEDIATE_ACK

-- an ACK frame leaves what is due
settling : (e : End) → Settling (λ (x : End). x.acknowledging.due ≡ e.acknowledging.due)
settling e (steps.known n) x i = i
settling e s x i = i

ack_due : (b : Bool) (a : AckValue) (e : End) → (ack_taken b a e).end.acknowledging.due ≡ e.acknowledging.due
ack_due true a e = refl
ack_due false a e = acked_keeps (λ (x : End). x.acknowledging.due ≡ e.acknowledging.due) (settling e) (is_above e.numbers.largest_acked a.largest) a (named a e) refl

-- an acknowledgement is due behind a frame where it was, or that is IMMEDIATE_ACK
frame_due : (f : FrameValue) (e : End) → (take_frame f e).end.acknowledging.due ≡ (e.acknowledging.due || is_immediate_ack f)
frame_due (ack a) e = ack_due (names_ungiven a e) a e ∙ sym (or-false e.acknowledging.due)
frame_due (stream f) e = sym (or-false e.acknowledging.due)
frame_due (reset_stream f) e = sym (or-false e.acknowledging.due)
frame_due (stop_sending f) e = sym (or-false e.acknowledging.due)
frame_due (max_data limit) e = sym (or-false e.acknowledging.due)
frame_due (max_stream_data f) e = sym (or-false e.acknowledging.due)
frame_due (max_streams f) e = sym (or-false e.acknowledging.due)
frame_due (datagram m) e = message_leaves (λ (x : End). x.acknowledging.due ≡ (e.acknowledging.due || false)) m e (sym (or-false e.acknowledging.due)) (λ left. sym (or-false e.acknowledging.due))
frame_due f e = (apart_asks f e tt).due

-- so it is where all frames of a packet are taken
frames_due : (fs : List FrameValue) (e : End) → (passed fs e).fault ≡ None → (passed fs e).end.acknowledging.due ≡ (e.acknowledging.due || list_any is_immediate_ack fs)
frames_due fs e none = sym (or-false (passed fs e).end.acknowledging.due) ∙ frames_taken DueWith step fs e none refl
  where
    -- what is due once those that are left are taken too
    DueWith : List FrameValue → End → Type 0
    DueWith left x = (x.acknowledging.due || list_any is_immediate_ack left) ≡ (e.acknowledging.due || list_any is_immediate_ack fs)

    step : (f : FrameValue) (left : List FrameValue) (x : End) → (take_frame f x).fault ≡ None → DueWith (f ∷ left) x → DueWith left (take_frame f x).end
    step f left x is before = ap (λ (b : Bool). b || list_any is_immediate_ack left) (frame_due f x) ∙ or_assoc x.acknowledging.due (is_immediate_ack f) (list_any is_immediate_ack left) ∙ before

-- a packet with IMMEDIATE_ACK asks
hurry_asks : (fs : List FrameValue) → list_any is_immediate_ack fs ≡ true → list_any asks fs ≡ true
hurry_asks [] some = cc
hurry_asks (f ∷ fs) some = elim (or_cases (is_immediate_ack f) (list_any is_immediate_ack fs) some) [ inl here ↦ or_left (asks f) (list_any asks fs) (one f here) | inr later ↦ or_right (asks f) (list_any asks fs) (hurry_asks fs later) ]
  where
    one : (g : FrameValue) → is_immediate_ack g ≡ true → asks g ≡ true
    one immediate_ack is = refl
    one g is = cc

-- ---- each case of a delivery

-- what is due behind a call, where packets wait before it, and this was the greatest number of
-- those that ask as the last ACK frame went
pub record Presses (p : Pending) (acked : Option ℕ) (i : Intake) (ps : List Packet) (q : Pending) (j : Intake) : Type 0 where
  pub on : IsPressed p → IsPressed q
  pub hastens : one_hastens acked i j (asking_among (news i j) ++ ps) ≡ true → IsPressed q
  pub counted : Counts q.asking (asking_among (news i j) ++ ps)
  pub last : q.acked ≡ p.acked

-- so it is while the end is open, where the peer asks for no more than a frame says
abbrev pub PressesOpen : Pending → Option ℕ → Intake → List Packet → End → Intake → Type 0
PressesOpen p acked i ps f j = (requested j.took).threshold < 2 ^ 62 → f.closing.state ≡ states.Open → Presses p acked i ps f.acknowledging j

-- what is known of an end before a packet comes
pub record Pressing (e : End) (acked : Option ℕ) (i : Intake) (ps : List Packet) : Type 0 where
  pub rules : rule_of e ≡ rule_by i.took
  pub last : e.acknowledging.acked ≡ acked
  pub counted : Counts e.acknowledging.asking ps
  pub seen : e.numbers.opened ≡ seen_after i.opened
  pub came : TookCame i

module _ (e : End) (now n : ℕ) (frames : List FrameValue) (here : Bool) (i : Intake) (ps : List Packet) (acked : Option ℕ) (known : Pressing e acked i ps) (none : (arrived e now n (frames_at here frames)).fault ≡ None) where
  -- the frames of it that are taken
  abbrev within : List FrameValue
  within = frames_at here frames

  abbrev packet : Packet
  packet = record { number = n; frames = frames }

  abbrev left : End
  left = (arrived e now n within).end

  -- what the peer asked for, with the packet
  abbrev asked : Requested
  asked = requested (packet ∷ i.took)

  -- what waits, with it
  abbrev waiting : List Packet
  waiting = asking_among (packet ∷ []) ++ ps

  -- what is to be acknowledged, with the packet
  abbrev noted : Bool → Pending
  noted urged = with_due urged (after_insert left.acknowledging n left.closing.clock)

  abbrev after : Bool → Pending
  after urged = after_packet (noted urged) left.closing.clock n (asks_in (map Ok frames)) left.numbers.opened

  -- frames leave what is due, and the counts
  left_acks : CountsOn e left
  left_acks = frames_acks within (begun e now n)

  -- and the end was asked what the observer reads
  left_asked : asked_of left ≡ asked
  left_asked = frames_asked within (begun e now n) none ∙ ap (λ (r : Rule). requested_by within r.asked) known.rules ∙ requested_at here frames (requested i.took)

  -- what was due stays so
  stays : (urged : Bool) → IsPressed e.acknowledging → IsPressed (after urged)
  stays urged was = (
    packet_due (asks_in (map Ok frames)) (noted urged) left.closing.clock n left.numbers.opened (or_left left.acknowledging.due urged (left_acks.due was.0)),
    (taken_counts (asks_in (map Ok frames)) (noted urged) left.closing.clock n left.numbers.opened).1 (subst (λ (k : ℕ). 0 < k) (sym left_acks.asking) was.1),
  )

  -- the end tells apart the numbers that came
  seen_left : left.numbers.opened ≡ seen_after (n ∷ i.opened)
  seen_left = ap (λ (x : Numbers). x.opened) (keeps_frames within (begun e now n)).numbers ∙ ap (λ (s : Seen). with_seen s n) known.seen

  -- what is due behind the frames
  left_due : left.acknowledging.due ≡ (e.acknowledging.due || list_any is_immediate_ack frames)
  left_due = frames_due within (begun e now n) none ∙ ap (λ (b : Bool). e.acknowledging.due || b) (same_at is_immediate_ack refl (λ token. refl) (λ token. refl) here frames)

  -- IMMEDIATE_ACK came
  hurry_there : (urged : Bool) → list_any is_immediate_ack frames ≡ true → (noted urged).due ≡ true
  hurry_there urged some = or_left left.acknowledging.due urged (left_due ∙ or_right e.acknowledging.due (list_any is_immediate_ack frames) some)

  -- more wait than may
  many_there : (urged : Bool) → asked.threshold < 2 ^ 62 → list_any asks frames ≡ true → nat_lt asked.threshold (length waiting) ≡ true → nat_lt (noted urged).threshold (count_up (noted urged).asking) ≡ true
  many_there urged small asking many =
      let more : asked.threshold < length ps + 1 = by_one (list_any asks frames) asking (ltb-true asked.threshold (length waiting) many) in
      let threshold : left.acknowledging.threshold ≡ asked.threshold = ap (λ (r : Requested). r.threshold) left_asked in
      let same = left_acks.asking in
      let count = known.counted in
      lt-ltb left.acknowledging.threshold (count_up left.acknowledging.asking) (omega (arith, more, threshold, same, count, small))
    where
      by_one : (b : Bool) → b ≡ true → asked.threshold < length (cond b (packet ∷ []) [] ++ ps) → asked.threshold < length ps + 1
      by_one true is more = omega arith
      by_one false is more = cc

  -- it comes too late
  late_here : (urged : Bool) → is_too_late asked.reordering acked i.took (n ∷ i.opened) packet ≡ true → pending.is_out_of_order (noted urged) (greatest_before (noted urged)) (max (greatest_before (noted urged)) n) n left.numbers.opened ≡ true
  late_here urged late = late_there (noted urged) acked i.took i.opened n frames left.numbers.opened (left_acks.acked ∙ known.last)
      (ap (λ (o : Option ℕ). unwrap_or o 0) (left_acks.greatest ∙ ap (λ (r : Rule). r.greatest) known.rules) ∙ latest_is i.took) seen_left known.came
      (ap (λ (r : Requested). is_too_late r.reordering acked i.took (n ∷ i.opened) packet) left_asked ∙ late)

  -- a packet that asks presses
  asks_presses : (urged : Bool) (b : Bool) → b ≡ true
      → ((noted urged).due ≡ true) ⊎ ((nat_lt (noted urged).threshold (count_up (noted urged).asking) ≡ true) ⊎ (pending.is_out_of_order (noted urged) (greatest_before (noted urged)) (max (greatest_before (noted urged)) n) n left.numbers.opened ≡ true))
      → IsPressed (after_packet (noted urged) left.closing.clock n b left.numbers.opened)
  asks_presses urged true is (inl due) = (packet_due true (noted urged) left.closing.clock n left.numbers.opened due, (taken_counts true (noted urged) left.closing.clock n left.numbers.opened).0 refl)
  asks_presses urged true is (inr cause) = (packet_hastens (noted urged) left.closing.clock n left.numbers.opened cause, (taken_counts true (noted urged) left.closing.clock n left.numbers.opened).0 refl)
  asks_presses urged false is cause = cc

  -- so it does where the observer finds that it does
  pressed : (urged : Bool) → asked.threshold < 2 ^ 62 → hastens asked acked i.took (n ∷ i.opened) waiting packet ≡ true → IsPressed (after urged)
  pressed urged small is =
      let hurries = list_any is_immediate_ack frames in
      let many = nat_lt asked.threshold (length waiting) in
      let late = is_too_late asked.reordering acked i.took (n ∷ i.opened) packet in
      let parts = and_parts (list_any asks frames) (hurries || (many || late)) is in
      asks_presses urged (asks_in (map Ok frames)) (asks_same frames ∙ parts.0) (elim (or_cases hurries (many || late) parts.1) [
        | inl hurry ↦ inl (hurry_there urged hurry)
        | inr others ↦ inr (elim (or_cases many late others) [ inl more ↦ inl (many_there urged small parts.0 more) | inr order ↦ inr (late_here urged order) ])
      ])

  -- the packets that wait are counted
  counts_there : (urged : Bool) → Counts (after urged).asking waiting
  counts_there urged =
      let before : Counts left.acknowledging.asking ps = subst (λ (k : ℕ). Counts k ps) (sym left_acks.asking) known.counted in
      subst (λ (k : ℕ). Counts k waiting) (sym (packet_count (asks_in (map Ok frames)) (noted urged) left.closing.clock n left.numbers.opened ∙ ap (λ (b : Bool). cond b (count_up left.acknowledging.asking) left.acknowledging.asking) (asks_same frames)))
      (counts_on (list_any asks frames) packet ps left.acknowledging.asking before)

  -- where one packet came
  one_presses : (urged : Bool) → asked.threshold < 2 ^ 62 → Presses e.acknowledging acked i ps (after urged) (with_taken i n frames)
  one_presses urged small = record {
    on = stays urged;
    hastens = λ is.
        let alone : list_any (hastens asked acked i.took (n ∷ i.opened) waiting) (packet ∷ []) ≡ true =
        subst (λ (qs : List Packet). list_any (hastens asked acked i.took (n ∷ i.opened) (asking_among qs ++ ps)) qs ≡ true) (one_new i n frames) is in
        pressed urged small (sym (or-false (hastens asked acked i.took (n ∷ i.opened) waiting packet)) ∙ alone);
    counted = subst (λ (qs : List Packet). Counts (after urged).asking (asking_among qs ++ ps)) (sym (one_new i n frames)) (counts_there urged);
    last = (packet_asked (asks_in (map Ok frames)) (noted urged) left.closing.clock n left.numbers.opened).2 ∙ left_acks.acked;
  }

  -- ---- what made one due

  -- it was due, or this did
  abbrev DueBy : Bool → Bool → Type 0
  DueBy urged hastened = (e.acknowledging.due ≡ true) ⊎ ((hastened ≡ true) ⊎ (urged ≡ true))

  -- behind the frames and the mark
  noted_back : (urged : Bool) → (noted urged).due ≡ true → DueBy urged (list_any is_immediate_ack frames)
  noted_back urged due = elim (or_cases left.acknowledging.due urged due) [
    | inl made ↦ elim (or_cases e.acknowledging.due (list_any is_immediate_ack frames) (sym left_due ∙ made)) [ inl was ↦ inl was | inr hurry ↦ inr (inl hurry) ]
    | inr marked ↦ inr (inr marked)
  ]

  -- more wait than may
  many_back : (urged : Bool) → list_any asks frames ≡ true → nat_lt (noted urged).threshold (count_up (noted urged).asking) ≡ true → nat_lt asked.threshold (length waiting) ≡ true
  many_back urged asking many =
      let less = ltb-true left.acknowledging.threshold (count_up left.acknowledging.asking) many in
      let threshold : left.acknowledging.threshold ≡ asked.threshold = ap (λ (r : Requested). r.threshold) left_asked in
      let same = left_acks.asking in
      let count = known.counted in
      lt-ltb asked.threshold (length waiting) (by_one (list_any asks frames) asking (omega (arith, less, threshold, same, count)))
    where
      by_one : (b : Bool) → b ≡ true → asked.threshold < length ps + 1 → asked.threshold < length (cond b (packet ∷ []) [] ++ ps)
      by_one true is more = omega arith
      by_one false is more = cc

  -- it comes too late
  order_back : (urged : Bool) → pending.is_out_of_order (noted urged) (greatest_before (noted urged)) (max (greatest_before (noted urged)) n) n left.numbers.opened ≡ true → is_too_late asked.reordering acked i.took (n ∷ i.opened) packet ≡ true
  order_back urged order =
      sym (ap (λ (r : Requested). is_too_late r.reordering acked i.took (n ∷ i.opened) packet) left_asked)
      ∙ late_back (noted urged) acked i.took i.opened n frames left.numbers.opened (left_acks.acked ∙ known.last)
      (ap (λ (o : Option ℕ). unwrap_or o 0) (left_acks.greatest ∙ ap (λ (r : Rule). r.greatest) known.rules) ∙ latest_is i.took) seen_left order

  -- so the observer finds that the packet did, or it is urged by its mark
  pressed_back : (urged : Bool) → (after urged).due ≡ true → DueBy urged (hastens asked acked i.took (n ∷ i.opened) waiting packet)
  pressed_back urged due = go (asks_in (map Ok frames)) refl due
    where
      hurries : Bool
      hurries = list_any is_immediate_ack frames

      many : Bool
      many = nat_lt asked.threshold (length waiting)

      late : Bool
      late = is_too_late asked.reordering acked i.took (n ∷ i.opened) packet

      by_asking : list_any asks frames ≡ true → (hurries || (many || late)) ≡ true → DueBy urged (hastens asked acked i.took (n ∷ i.opened) waiting packet)
      by_asking asking cause = inr (inl (and_from (list_any asks frames) (hurries || (many || late)) asking cause))

      by_note : DueBy urged hurries → DueBy urged (hastens asked acked i.took (n ∷ i.opened) waiting packet)
      by_note (inl was) = inl was
      by_note (inr (inl hurry)) = by_asking (hurry_asks frames hurry) (or_left hurries (many || late) hurry)
      by_note (inr (inr marked)) = inr (inr marked)

      go : (b : Bool) → asks_in (map Ok frames) ≡ b → (after_packet (noted urged) left.closing.clock n b left.numbers.opened).due ≡ true → DueBy urged (hastens asked acked i.took (n ∷ i.opened) waiting packet)
      go false is due = by_note (noted_back urged due)
      go true is due =
          let asking : list_any asks frames ≡ true = sym (asks_same frames) ∙ is in
          let more = nat_lt (noted urged).threshold (count_up (noted urged).asking) in
          let order = pending.is_out_of_order (noted urged) (greatest_before (noted urged)) (max (greatest_before (noted urged)) n) n left.numbers.opened in
          elim (or_cases (noted urged).due (more || order) (sym (waited (starts_wait (asking_counted (noted urged) n left.numbers.opened)) (asking_counted (noted urged) n left.numbers.opened) left.closing.clock) ∙ due)) [
            | inl made ↦ by_note (noted_back urged made)
            | inr others ↦ by_asking asking (or_right hurries (many || late) (elim (or_cases more order others) [ inl wait ↦ or_left many late (many_back urged asking wait) | inr out ↦ or_right many late (order_back urged out) ]))
          ]

  -- where one packet came
  one_back : (urged : Bool) → (after urged).due ≡ true → DueBy urged (one_hastens acked i (with_taken i n frames) (asking_among (news i (with_taken i n frames)) ++ ps))
  one_back urged due = elim (pressed_back urged due) [
    | inl was ↦ inl was
    | inr other ↦ inr (elim other [
      | inl is ↦ inl (ap (λ (qs : List Packet). list_any (hastens asked acked i.took (n ∷ i.opened) (asking_among qs ++ ps)) qs) (one_new i n frames) ∙ or_left (hastens asked acked i.took (n ∷ i.opened) waiting packet) false is)
      | inr marked ↦ inr marked
    ])
  ]

-- where nothing came, no packet hastens
none_hastens : (acked : Option ℕ) (i : Intake) (ps : List Packet) → one_hastens acked i i ps ≡ true → ⊥
none_hastens acked i ps is =
    let none : list_any (hastens (requested i.took) acked i.took i.opened ps) [] ≡ true = ap (λ (qs : List Packet). list_any (hastens (requested i.took) acked i.took i.opened ps) qs) (sym (none_new i)) ∙ is in
    cc

-- where nothing came
pub none_presses : (p q : Pending) (acked : Option ℕ) (i : Intake) (ps : List Packet) → (IsPressed p → IsPressed q) → Counts q.asking ps → q.acked ≡ p.acked → Presses p acked i ps q i
none_presses p q acked i ps on counted last = record {
  on = on;
  hastens = λ is. absurd (none_hastens acked i (asking_among (news i i) ++ ps) is);
  counted = subst (λ (qs : List Packet). Counts q.asking (asking_among qs ++ ps)) (sym (none_new i)) counted;
  last = last;
}

pub arrivals_press : (e : End) (now n : ℕ) (frames : List FrameValue) (here : Bool) (i : Intake) (ps : List Packet) (acked : Option ℕ) → (e.closing.state ≡ states.Open → Pressing e acked i ps) → Arrivals e now n frames (frames_at here frames) i (λ (o : Outcome) (j : Intake). PressesOpen e.acknowledging acked i ps o.end j)
arrivals_press e now n frames here i ps acked known = record {
  ignored = λ reason small opened. none_presses e.acknowledging e.acknowledging acked i ps (λ was. was) (known opened).counted refl;
  noted = λ state reason small opened. absurd (let clash : states.Closing ≡ states.Open = sym state ∙ opened in cc);
  takes = λ words state new none urged mark small opened. one_presses e now n frames here i ps acked (known state) none urged small;
  moves = λ p o same remote x state left small opened.
      subst (λ (q : Pending). Presses e.acknowledging acked i ps q (with_taken i n frames)) (sym (migrated_acks p o remote x)) (left small (sym (ap (λ (c : Closing). c.state) (migrated_closing p o remote x)) ∙ opened));
  drains = λ words state new close is small opened. absurd cc;
  refuses = λ words state new f is small opened. absurd cc;
  exhausts = λ state small opened. absurd cc;
}

-- what makes one due by a delivery
abbrev pub DueOf : Pending → Option ℕ → Intake → List Packet → Bool → Pending → Intake → Type 0
DueOf p acked i ps urged q j = q.due ≡ true → (p.due ≡ true) ⊎ ((one_hastens acked i j (asking_among (news i j) ++ ps) ≡ true) ⊎ (urged ≡ true))

-- at an end that is open behind it, a packet that hastens it, or that is urged by its mark, as an
-- observer finds it where the end does
pub arrivals_due : (e : End) (delivery : Delivery) (n : ℕ) (frames : List FrameValue) (here : Bool) (i : Intake) (ps : List Packet) (acked : Option ℕ) → (e.closing.state ≡ states.Open → Pressing e acked i ps) → (urges : Answer → Intake → Bool)
    → (e.closing.state ≡ states.Open → (arrived e delivery.now n (frames_at here frames)).fault ≡ None → urges (answers.Deliver receives.Taken) (with_taken i n frames) ≡ is_urged delivery.ecn (asks_in (map Ok frames)) (map Ok (frames_at here frames)) (begun e delivery.now n))
    → ArrivalsWith delivery.ecn e delivery.now n frames (frames_at here frames) i (λ (o : Outcome) (j : Intake). o.end.closing.state ≡ states.Open → DueOf e.acknowledging acked i ps (urges (answers.Deliver o.answer) j) o.end.acknowledging j)
arrivals_due e delivery n frames here i ps acked known urges same = record {
  ignored = λ reason opened due. inl due;
  noted = λ state reason opened. absurd (let clash : states.Closing ≡ states.Open = sym state ∙ opened in cc);
  takes = λ words state new none opened due. elim (one_back e delivery.now n frames here i ps acked (known state) none (is_urged delivery.ecn (asks_in (map Ok frames)) (map Ok (frames_at here frames)) (begun e delivery.now n)) due) [
    | inl was ↦ inl was
    | inr other ↦ inr (elim other [ inl is ↦ inl is | inr urged ↦ inr (same state none ∙ urged) ])
  ];
  moves = λ p o alike remote x state left opened.
      subst (λ (q : Pending). DueOf e.acknowledging acked i ps (urges (answers.Deliver receives.Taken) (with_taken i n frames)) q (with_taken i n frames)) (sym (migrated_acks p o remote x)) (left (sym (ap (λ (c : Closing). c.state) (migrated_closing p o remote x)) ∙ opened));
  drains = λ words state new close is opened. absurd cc;
  refuses = λ words state new f is opened. absurd cc;
  exhausts = λ state opened. absurd cc;
}
