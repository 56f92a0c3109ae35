-- What a number was cut against is below what its taker expects: the giver was told that it came,
-- so the taker had taken it.
use Rattle.std.proofs.Common.{◌≡◌, ℕ, ◌-◌, ◌<◌, ◌≤◌, ◌^◌, Bool, true, false, List, [], ◌∷◌, Option, Some, None, inl, inr, refl, sym, ap, subst, arith}
use Rattle.std.specs.Prelude.{unwrap_or}
use Rattle.std.specs.List.{list_any}
use Rattle.quic_wire.specs.Value.{FrameValue, AckValue, ack, datagram, new_connection_id, retire_connection_id, path_response, handshake_done, ack_frequency}
use Rattle.quic_machine.specs.declared.run.Call.{Call}
use Rattle.quic_machine.specs.declared.run.Call.TheVariants as calls
use Rattle.quic_machine.specs.declared.run.Answer.{Answer}
use Rattle.quic_machine.specs.declared.run.Answer.TheVariants as answers
use Rattle.quic_machine.specs.Policy.{Policy}
use Rattle.quic_machine.specs.Closing.{ticked}
use Rattle.quic_spaces.specs.Numbers.{Numbers, cut_against, greatest_of}
use Rattle.quic_machine.specs.End.{End, number_of, with_closing, closed_by}
use Rattle.quic_machine.specs.Receive.{Outcome, is_above, names_ungiven, take_frame}
use Rattle.quic_machine.specs.Poll.{Polled, Draft, draft_as, polled}
use Rattle.quic_machine.specs.Poll as poll
use Rattle.quic_machine.specs.Machine.{IsAnswer, after_call, fails, gave}
use Rattle.quic_machine.specs.PollCases.{ready_at, ready_leaves, draft_at, frames_padded, by_poll, at_poll, composes}
use Rattle.quic_machine.specs.FrameCases.{Settling, ack_taken, named, passed, begun, acked_keeps, losses_keep, message_leaves, apart_leaves, frames_leave}
use Rattle.quic_machine.specs.LeaveCases.{by_expired}
use Rattle.quic_machine.specs.Steps as steps
use Rattle.quic_machine.specs.CallCases.{Plain, is_delivery, by_plain_call}
use Rattle.quic_machine.specs.CallCases as cases
use Rattle.quic_headline.specs.Runs.{Packet, Intake, In, expected_behind, nothing_came}
use Rattle.quic_headline.specs.Observer.{Sent, is_close, closes_of}
use Rattle.quic_headline.proofs.Packets.Invariant.{IsSent}
use Rattle.quic_headline.proofs.Packets.Growth.{step_of}
use Rattle.quic_headline.proofs.Packets.Intakes.{took_more}
use Rattle.quic_headline.proofs.Packets.Apart.{by_waits, by_next_id}
use Rattle.quic_headline.proofs.Packets.Closes.{by_closes}
use Rattle.quic_headline.proofs.Packets.Closeless.{sent_closeless}
use Rattle.quic_headline.proofs.Packets.CloseForms.{close_small}
use Rattle.quic_headline.proofs.Packets.References.{cut_low}
use Rattle.quic_headline.proofs.Packets.Sends.{GivesClose, by_sends}
use Rattle.quic_headline.proofs.Packets.Delivered.{Arrivals, arrived, frames_at}
use Rattle.quic_headline.proofs.Packets.Probes.{may_leave}
use Rattle.quic_headline.proofs.Packets.Naming.{greatest_named}
use Rattle.quic_headline.proofs.Packets.Group.{PacketsHold, meets}
use Rattle.quic_headline.proofs.Places.Told.{in_append}
use Rattle.quic_headline.proofs.Places.Steps.{poll_answer}
use Rattle.quic_headline.proofs.Places.Parties.{cut_for, sent_as, sent_by, sent_if, sents_by, told_of, Party, called, came_to}
use Rattle.quic_headline.proofs.Places.Coming.{by_coming}
use Rattle.quic_headline.proofs.Places.Groups.{Group}
use Rattle.quic_headline.proofs.Packets.Moved.{by_migrated}
use Rattle.quic_headline.proofs.Packets.Strays.{acks_at}

-- ---- the number that is expected

-- what was taken lies below it
taken_below : (packets : List Packet) (packet : Packet) → In packet packets → packet.number < expected_behind packets
taken_below [] packet i = absurd i
taken_below (p ∷ packets) packet (inl is) = let same : packet.number ≡ p.number = ap (λ (q : Packet). q.number) is in omega arith
taken_below (p ∷ packets) packet (inr i) = let later = taken_below packets packet i in omega arith

-- it isn't above a bound that lies above all that was taken
pub expected_most : (packets : List Packet) (most : ℕ) → ((packet : Packet) → In packet packets → packet.number < most) → expected_behind packets ≤ most
expected_most [] most below = omega arith
expected_most (p ∷ packets) most below =
    let first = below p (inl refl) in
    let later = expected_most packets most (λ q i. below q (inr i)) in
    omega arith

-- ---- what the next number is cut against

module _ (most : ℕ) where
  -- no number above this
  abbrev CutBelow : End → Type 0
  CutBelow e = cut_against e.numbers ≤ most

  settles : Settling CutBelow
  settles (steps.known n) e i = i
  settles s e i = i

  -- nor is it once one is named that isn't
  named_below : (e : End) (o : Option ℕ) (n : ℕ) → e.numbers.largest_acked ≡ o → n ≤ most → CutBelow e → greatest_of o n ≤ most
  named_below e None n is small i = small
  named_below e (Some m) n is small i = let same : cut_against e.numbers ≡ m = ap (λ (p : Option ℕ). unwrap_or p 0) is in omega arith

  -- a frame, whose ACK frame names none above it
  frame_cuts : (f : FrameValue) (e : End) → ((a : AckValue) → ack a ≡ f → a.largest ≤ most) → CutBelow e → CutBelow (take_frame f e).end
  frame_cuts (ack a) e small i = go (names_ungiven a e)
    where
      go : (b : Bool) → CutBelow (ack_taken b a e).end
      go true = i
      go false = acked_keeps CutBelow settles (is_above e.numbers.largest_acked a.largest) a (named a e) (named_below e e.numbers.largest_acked a.largest refl (small a refl) i)
  frame_cuts (datagram m) e small i = message_leaves CutBelow m e i (λ left. i)
  frame_cuts (new_connection_id f) e small i = apart_leaves CutBelow (new_connection_id f) e tt (λ c. i) (λ c least. i)
  frame_cuts (retire_connection_id n) e small i = apart_leaves CutBelow (retire_connection_id n) e tt (λ c. i) (λ c least. i)
  frame_cuts (path_response token) e small i = apart_leaves CutBelow (path_response token) e tt (λ c. i) (λ c least. i)
  frame_cuts handshake_done e small i = apart_leaves CutBelow handshake_done e tt (λ c. i) (λ c least. i)
  frame_cuts (ack_frequency r) e small i = apart_leaves CutBelow (ack_frequency r) e tt (λ c. i) (λ c least. i)
  frame_cuts f e small i = i

  -- all frames of a packet, taken or refused
  frames_cut : (fs : List FrameValue) (e : End) → ((a : AckValue) → In (ack a) fs → a.largest ≤ most) → CutBelow e → CutBelow (passed fs e).end
  frames_cut fs e small i = (frames_leave (λ (left : List FrameValue) (x : End). ((a : AckValue) → In (ack a) left → a.largest ≤ most) × CutBelow x)
      (λ f left x j. ((λ a k. j.0 a (inr k)), frame_cuts f x (λ a is. j.0 a (inl is)) j.1)) fs e (small, i)).1.1

  -- in each case of a delivery
  cut_arrivals : (e : End) (now n : ℕ) (frames taken : List FrameValue) (i : Intake) → ((a : AckValue) → In (ack a) taken → a.largest ≤ most) → CutBelow e → Arrivals e now n frames taken i (λ (o : Outcome) (j : Intake). CutBelow o.end)
  cut_arrivals e now n frames taken i small before = record {
    ignored = λ reason. before;
    noted = λ state reason. before;
    takes = λ words state new none urged mark. after;
    moves = λ p o same remote x opened j. by_migrated CutBelow p o remote x (λ c. j) (λ c least. j);
    drains = λ words state new close is. after;
    refuses = λ words state new f is. after;
    exhausts = λ state. before;
  }
    where
      after : CutBelow (arrived e now n taken).end
      after = frames_cut taken (begun e now n) small before

  -- a poll
  polled_cuts : (p : Policy) (e : End) (now : ℕ) → CutBelow e → CutBelow (polled p e now).end
  polled_cuts p e now i = by_poll p e now (λ (q : Polled). CutBelow q.end) (record {
    silent = i;
    failed = i;
    repeats = λ is. by_closes p (with_closing e (ticked e.closing now)) (λ (q : Polled). CutBelow q.end) i (λ f goes. i);
    nothing = λ c. i;
    closes = λ reason c bound. by_closes p (closed_by reason (at_poll e now c)) (λ (q : Polled). CutBelow q.end) i (λ f goes. i);
    gives = λ leaving c left is bound ready some. (
        let x : End = at_poll e now c in
        subst (λ (n : Numbers). cut_against n ≤ most) (sym (composes leaving x (may_leave e now leaving x ready)).numbers) i);
  })

  -- any call that is no delivery
  call_cuts : (p : Policy) (e : End) (theirs : List (List ℕ)) (call : Call) (a : Answer) → is_delivery call ≡ false → CutBelow e → CutBelow (after_call p e theirs call a)
  call_cuts p e theirs call a other i = by_plain_call p e theirs CutBelow call a keep
    where
      keep : Plain p e call CutBelow
      keep (cases.times now expiry) may = by_expired p.words e now CutBelow (λ pending tracking timers waits asked runs packets. i) (λ pending timers waits asked runs. losses_keep CutBelow settles (with_closing e (ticked e.closing now)) i) (λ x j. j) expiry
      keep (cases.polls now) may = polled_cuts p e now i
      keep (cases.hears arrival d) is = cc
      keep (cases.waits now b) may = by_waits CutBelow b (with_closing e (ticked e.closing now)) i i
      keep (cases.changes_id b) may = by_next_id CutBelow e b i (λ c. i) (λ c least. i)
      keep c may = i

-- ---- the group

-- x gives, and y takes: the number of each datagram was cut against one that y took, or 0, and so
-- is the next
pub record Refers (x y : Party) : Type 0 where
  pub behind : (s : Sent) → In s x.sents → s.reference ≤ expected_behind (came_to y x).took
  pub cut : cut_against x.end.numbers ≤ expected_behind (came_to y x).took

-- what an ACK frame of y names, y took
named_expected : (x y : Party) → PacketsHold y x → (s : Sent) → In s y.sents → (a : AckValue) → In (ack a) s.frames → a.largest ≤ expected_behind (came_to y x).took
named_expected x y back s i a among =
    let spelled = (step_of (IsSent y.policy) y.sents y.given s back.gives.each i).1 in
    let was = back.named s a a.largest i among (greatest_named s.frames spelled.payload a spelled.spells among) in
    let lies = taken_below (came_to y x).took was.packet was.was_taken in
    let same = was.is in
    omega arith

-- what x sends at a poll
poll_refers : (p : Policy) (e : End) (now : ℕ) (s : Sent) → In s (sent_if (gave (answers.Poll (polled p e now).answer)) (sent_by p e now)) → s.reference ≤ cut_against e.numbers
poll_refers p e now = by_sends p e now (λ (q : Polled) (more : List Sent). Lie more) (record {
  silent = none;
  failed = none;
  repeats = λ is. closing (with_closing e (ticked e.closing now)) refl refl;
  nothing = λ is rests. none;
  closes = λ reason is bound. closing (closed_by reason (ready_at e now).end) (ap (λ (x : End). number_of x) (ready_leaves e now)) (ap (λ (x : End). cut_against x.numbers) (ready_leaves e now));
  gives = λ is bound some. one (draft_at e now) (let ordinary : closes_of (sent_as e now (draft_at e now)) ≡ false = sent_closeless e now in subst (λ (b : Bool). cut_for b e ≤ cut_against e.numbers) (sym ordinary) (omega arith));
})
  where
    Lie : List Sent → Type 0
    Lie more = (s : Sent) → In s more → s.reference ≤ cut_against e.numbers

    none : Lie []
    none s i = absurd i

    one : (d : Draft) → (sent_as e now d).reference ≤ cut_against e.numbers → Lie (sent_as e now d ∷ [])
    one d low s (inl same) = subst (λ (t : Sent). t.reference ≤ cut_against e.numbers) (sym same) low
    one d low s (inr i) = absurd i

    closing : (y : End) → number_of y ≡ number_of e → cut_against y.numbers ≡ cut_against e.numbers → GivesClose p e now (λ (q : Polled) (more : List Sent). Lie more) y
    closing y number cut = (
      none,
      λ f goes.
          let small = (close_small p y f goes).1 in
          let near : number_of e - cut_against e.numbers < 2 ^ 31 = subst (λ (n : ℕ). n - cut_against e.numbers < 2 ^ 31) number (subst (λ (n : ℕ). number_of y - n < 2 ^ 31) cut small) in
          one (draft_as (poll.closing f) y) (cut_low (list_any is_close (frames_padded (draft_as (poll.closing f) y))) (number_of e) (cut_against e.numbers) near),
    )

-- and at any call that is served
sends_refer : (p : Policy) (e : End) (theirs : List (List ℕ)) (call : Call) (a : Answer) → IsAnswer p e theirs call a → fails a ≡ false → (s : Sent) → In s (sents_by p e call a) → s.reference ≤ cut_against e.numbers
sends_refer p e theirs (calls.Poll now) a is served s i =
    poll_refers p e now s (subst (λ (b : Answer). In s (sents_by p e (calls.Poll now) b)) (poll_answer p e now a is served) i)
sends_refer p e theirs call a is served s i = absurd i

-- y expects no less behind a call
expects_more : (x y : Party) (call : Call) (a : Answer) → expected_behind (came_to x y).took ≤ expected_behind (came_to (called x y.given call a) y).took
expects_more x y call a = expected_most (came_to x y).took (expected_behind (came_to (called x y.given call a) y).took)
    (λ packet j. taken_below (came_to (called x y.given call a) y).took packet (took_more x.policy y.final x.told (told_of call a x.end.closing.state) nothing_came packet j))

-- over the packets between both ends
pub refers_group : Group PacketsHold Refers
refers_group = record {
  first = λ x y m there here. record { behind = λ s i. absurd i; cut = omega arith };
  writer = λ x y call a c before back. record {
    behind = λ s i. elim (in_append s x.sents (sents_by x.policy x.end call a) i) [
      | inl old ↦ before.behind s old
      | inr new ↦ (let low = sends_refer x.policy x.end y.given call a c.answer c.served s new in let cut = before.cut in omega arith)
    ];
    cut = by_coming x y a c.joined c.served (meets y x c.takes) (λ (e : End) (i : Intake). cut_against e.numbers ≤ expected_behind (came_to y x).took) call c.answer (record {
      apart = λ apart. call_cuts (expected_behind (came_to y x).took) x.policy x.end y.given call a apart before.cut;
      none = λ delivery is. before.cut;
      comes = λ delivery is s among here. cut_arrivals (expected_behind (came_to y x).took) x.end delivery.now s.number s.frames (frames_at here s.frames) (came_to x y) (λ a i. acks_at (λ b. b.largest ≤ expected_behind (came_to y x).took) here s.frames (λ b j. named_expected x y c.takes s among b j) a i) before.cut;
    });
  };
  reader = λ x y call a c before back. record {
    behind = λ s i. (let earlier = back.behind s i in let on = expects_more x y call a in omega arith);
    cut = (let earlier = back.cut in let on = expects_more x y call a in omega arith);
  };
  shows = λ x y here there b back refers others. record { behind = refers.behind; cut = refers.cut };
}
