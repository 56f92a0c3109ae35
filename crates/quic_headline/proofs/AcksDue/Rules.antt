-- By which rules an end holds acknowledgements back: what it was asked of how often to acknowledge
-- is what its observer reads off the packets that it took (QUIC Acknowledgement Frequency, section
-- 4), and so is the greatest number of those that asked. Each call keeps that.
use Rattle.std.proofs.Common.{◌≡◌, ℕ, Bool, true, false, cond, max, nat_lt, List, [], ◌∷◌, map, Option, Some, None, Result, Ok, Err, refl, sym, ap, ◌∙◌, subst, arith}
use Rattle.std.specs.Prelude.{if◌then◌else◌, ◌==◌, unwrap_or}
use Rattle.std.specs.List.{list_any}
use Rattle.std.specs.declared.ops.Range.{Range}
use Rattle.std.proofs.lemmas.Bool.{lt-ltb, ltb-true, leb-true, leb-false}
use Rattle.quic_wire_core.specs.TransportError.{ErrorValue}
use Rattle.quic_wire_core.specs.declared.shared.EcnCodepoint.{EcnCodepoint}
use Rattle.quic_wire.specs.Value.{FrameValue, AckFrequencyValue, ack, datagram, new_connection_id, retire_connection_id, path_challenge, path_response, handshake_done, ack_frequency, asks}
use Rattle.quic_ids.specs.CidState.{retirement_answer}
use Rattle.quic_ids.specs.CidQueue.{insert_answer}
use Rattle.quic_ids.specs.declared.cid_queue.InsertError.{InsertError}
use Rattle.quic_ids.specs.declared.cid_queue.InsertError.TheVariants as inserts
use Rattle.quic_packet.specs.Datagram.{Opening}
use Rattle.quic_paths.specs.Paths.{is_asked}
use Rattle.quic_retransmits.specs.Retransmits.{can_retire}
use Rattle.quic_recovery_core.specs.declared.ack_frequency.Request.{Request}
use Rattle.quic_recovery_core.specs.AckFrequency.{is_stale, after_acked}
use Rattle.quic_recovery_core.specs.Duplicates.{Seen}
use Rattle.quic_recovery_core.specs.PendingAcks.{Pending, after_insert, asking_counted, starts_wait, after_packet}
use Rattle.quic_spaces.specs.Acknowledging.{with_due}
use Rattle.quic_machine.specs.declared.answers.State.TheVariants as states
use Rattle.quic_machine.specs.declared.run.Call.{Call}
use Rattle.quic_machine.specs.declared.run.Answer.{Answer}
use Rattle.quic_machine.specs.declared.run.Answer.TheVariants as answers
use Rattle.quic_machine.specs.Policy.{Policy}
use Rattle.quic_machine.specs.Closing.{Closing, ticked}
use Rattle.quic_machine.specs.Acked.{request_acked}
use Rattle.quic_machine.specs.MessageCalls.{most_message}
use Rattle.quic_machine.specs.Sizes.{without_longer_if, shortened}
use Rattle.quic_machine.specs.Ids.{frame_of, retires_for, retired, retires_for_next, next_used}
use Rattle.quic_machine.specs.IdFrames.{retiring, with_taken_up, issued_if, issues_for, next_id_taken, end_on_next_id}
use Rattle.quic_machine.specs.Validation.{word_of, validated_if}
use Rattle.quic_machine.specs.Migration.{as_elsewhere, migrated}
use Rattle.quic_machine.specs.End.{End, with_ids, with_frequency, with_closing, closed_by}
use Rattle.quic_machine.specs.Receive.{is_above, names_ungiven, retired_for, id_judged, retirement_judged, asks_too_soon, frequency_judged, take_frame, asks_in, after_taken, Outcome}
use Rattle.quic_machine.specs.Poll.{Polled, Draft, polled, draft_as, lazied_as, Leaving, whole, Ready}
use Rattle.quic_machine.specs.Timeouts.{Expiry, loss_judged}
use Rattle.quic_machine.specs.Machine.{after_call}
use Rattle.quic_machine.specs.CallCases.{Plain, is_delivery, by_plain_call}
use Rattle.quic_machine.specs.CallCases as cases
use Rattle.quic_machine.specs.FrameCases.{Settling, named, ack_taken, begun, passed, acked_keeps, losses_keep, message_leaves, frames_taken}
use Rattle.quic_machine.specs.Steps as steps
use Rattle.quic_machine.specs.LeaveCases.{at_expiry, Expired, by_timers}
use Rattle.quic_machine.specs.LeaveCases as expiring
use Rattle.quic_machine.specs.PollCases.{ready_at, ready_leaves, draft_at, by_poll_to, may_leave_at}
use Rattle.quic_machine.specs.DraftLaws.{Writing, by_leave, MayLeave}
use Rattle.quic_machine.specs.Puts as puts
use Rattle.quic_headline.specs.Runs.{Packet, Intake}
use Rattle.quic_headline.specs.Requested.{Requested, is_newer, requested_after, requested_by, requested}
use Rattle.quic_headline.specs.AcksDue.{greatest_asking, latest_asking}
use Rattle.quic_headline.proofs.Packets.Closes.{by_closes}
use Rattle.quic_headline.proofs.Packets.Apart.{by_waits, by_heard_done}
use Rattle.quic_headline.proofs.Packets.Delivered.{frames_at, Arrivals, arrived}
use Rattle.quic_headline.proofs.Packets.Moved.{migrated_closing}
use Rattle.quic_headline.proofs.Packets.Group.{meets}
use Rattle.quic_headline.proofs.Packets.Probes.{by_going}
use Rattle.quic_headline.proofs.Places.Parties.{Party, called, came_to}
use Rattle.quic_headline.proofs.Places.Groups.{Calls, Group}
use Rattle.quic_headline.proofs.Places.Coming.{by_coming}
use Rattle.quic_headline.proofs.Timers.Still.{was_open}
use Rattle.quic_headline.proofs.Timers.Watched.{Observed}
use Rattle.quic_headline.proofs.Timers.AckMoments.{asks_same}
use Rattle.quic_headline.proofs.Rest.Standing.{frames_acks}
use Rattle.quic_headline.proofs.Packets.Moving.{moving_keeps}

-- what an end was asked
abbrev pub asked_of : End → Requested
asked_of e = record { last = e.frequency.last; delay = e.frequency.own_delay; threshold = e.acknowledging.threshold; reordering = e.acknowledging.reordering }

-- that, and the greatest number of the packets that ask and were taken
pub record Rule : Type 0 where
  pub asked : Requested
  pub greatest : Option ℕ

abbrev pub rule_of : End → Rule
rule_of e = record { asked = asked_of e; greatest = e.acknowledging.greatest }

-- as it is read off these packets
abbrev pub rule_by : List Packet → Rule
rule_by taken = record { asked = requested taken; greatest = latest_asking taken }

-- ---- what leaves it

-- it is that of another end
abbrev Keeps : End → End → Type 0
Keeps e x = rule_of x ≡ rule_of e

-- so does the packet of a request that is acknowledged
answered_rule : (n : ℕ) (e : End) → rule_of (request_acked n e) ≡ rule_of e
answered_rule n e = go e.frequency.in_flight
  where
    go : (o : Option Request) → rule_of (with_frequency e (after_acked o n e.frequency)) ≡ rule_of e
    go None = refl
    go (Some r) = one (r.packet == n)
      where
        one : (b : Bool) → rule_of (with_frequency e (cond b (record e.frequency { in_flight = None; peer_delay = r.delay }) e.frequency)) ≡ rule_of e
        one true = refl
        one false = refl

-- packets that are acknowledged or lost leave it
settles : (e : End) → Settling (Keeps e)
settles e (steps.known n) x i = i
settles e (steps.answered n) x i = answered_rule n x ∙ i
settles e s x i = i

-- so do messages that are dropped
shortened_rule : (b : Bool) (e : End) → Keeps e (shortened b e)
shortened_rule false e = refl
shortened_rule true e = lasts (most_message e)
  where
    lasts : (o : Option ℕ) → Keeps e (without_longer_if o e)
    lasts None = refl
    lasts (Some most) = refl

-- ---- a call that is no delivery

-- an acknowledgement that became due leaves it
lazied_rule : (e : End) (leaving : Leaving) (x : End) → Keeps e x → Keeps e (lazied_as leaving x)
lazied_rule e whole x i = i
lazied_rule e other x i = i

-- an ACK frame that goes leaves it too
draft_rule : (e : End) (leaving : Leaving) (x : End) → MayLeave leaving x → Keeps e x → Keeps e (draft_as leaving x).end
draft_rule e leaving x due i = by_leave (λ (d : Draft). Keeps e d.end) keep leaving x due (lazied_rule e leaving x i)
  where
    keep : Writing (λ (d : Draft). Keeps e d.end)
    keep puts.ping d may i = i
    keep p d may i = i

ready_rule : (e : End) (now : ℕ) → Keeps e (ready_at e now).end
ready_rule e now = subst (λ (x : End). Keeps e x) (sym (ready_leaves e now)) refl

polled_rule : (p : Policy) (e : End) (now : ℕ) → Keeps e (polled p e now).end
polled_rule p e now = by_poll_to p e now (λ (q : Polled). Keeps e q.end) (record {
  silent = refl;
  failed = refl;
  nothing = λ is none. ready_rule e now;
  repeats = λ is. by_closes p (with_closing e (ticked e.closing now)) (λ (q : Polled). Keeps e q.end) refl (λ f goes. refl);
  closes = λ reason bound. by_closes p (closed_by reason (ready_at e now).end) (λ (q : Polled). Keeps e q.end) (ready_rule e now) (λ f goes. ready_rule e now);
  gives = λ is may some.
      let g : Ready = ready_at e now in
      by_going (Keeps e) p (draft_at e now) (λ pacing. draft_rule e g.leaving g.end (may_leave_at e now) (ready_rule e now));
})

-- nor do timers change it, nor losses
judged_rule : (e : End) (o : Option ℕ) (x : End) → Keeps e x → Keeps e (loss_judged o x)
judged_rule e None x i = i
judged_rule e (Some moment) x i = losses_keep (Keeps e) (settles e) x i

expired_rule : (words : ℕ → ℕ) (e : End) (now : ℕ) (expiry : Expiry) → Keeps e (at_expiry words e now expiry)
expired_rule words e now expiry = by_timers words (Keeps e) (Keeps e) (judged_rule e) each (λ x i. i) (λ x i. i) expiry (with_closing e (ticked e.closing now)) refl
  where
    each : (s : Expired) (x : End) → Keeps e x → Keeps e (expiring.after s x)
    each expiring.of_acks x i = i
    each s x i = i

-- nor does the next id of the peer
next_rule : (e : End) (a : Answer) → Keeps e (end_on_next_id e a)
next_rule e (answers.UseNextId (Ok done)) = taken (retires_for_next e.ids)
  where
    taken : (o : Option (Range ℕ)) → Keeps e (next_id_taken o e)
    taken None = refl
    taken (Some r) = shortened_rule _ (retiring r (with_ids e (next_used e.ids)))
next_rule e a = refl

-- another path leaves it
migrated_rule : (p : Policy) (o : Opening) (remote : ℕ) (e : End) → Keeps e (migrated p o remote e)
migrated_rule p o remote e = moving_keeps (Keeps e) (λ m x same. same) (λ x a same. next_rule x a ∙ same) p o remote e refl

pub call_rule : (p : Policy) (e : End) (theirs : List (List ℕ)) (call : Call) (a : Answer) → is_delivery call ≡ false → rule_of (after_call p e theirs call a) ≡ rule_of e
call_rule p e theirs call a apart = by_plain_call p e theirs (Keeps e) call a cases_keep
  where
    cases_keep : Plain p e call (Keeps e)
    cases_keep (cases.times now expiry) may = expired_rule p.words e now expiry
    cases_keep (cases.polls now) may = polled_rule p e now
    cases_keep (cases.hears arrival d) is = (let clash : true ≡ false = sym is ∙ apart in cc)
    cases_keep (cases.closes reason f now) may = refl
    cases_keep (cases.waits now b) may = by_waits (Keeps e) b (with_closing e (ticked e.closing now)) refl refl
    cases_keep (cases.changes_id b) may = next_rule e b
    cases_keep c may = refl

-- ---- frames

-- an end and its observer find the same frames newer
newer_is : (o : Option ℕ) (n : ℕ) (stale : Bool) → is_stale o n ≡ stale → is_newer o n ≡ cond stale false true
newer_is None n true is = cc
newer_is None n false is = refl
newer_is (Some m) n true is = go (nat_lt m n) refl
  where
    go : (b : Bool) → nat_lt m n ≡ b → b ≡ false
    go true below = (let less = ltb-true m n below in let most = leb-true n m is in absurd (omega arith))
    go false below = refl
newer_is (Some m) n false is = lt-ltb m n (let less = leb-false n m is in omega arith)

-- what an ACK_FREQUENCY frame asks that is taken
frequency_asked : (f : AckFrequencyValue) (e : End) → (take_frame (ack_frequency f) e).fault ≡ None → asked_of (take_frame (ack_frequency f) e).end ≡ requested_after (asked_of e) f
frequency_asked f e none = go (is_stale e.frequency.last f.sequence) refl (asks_too_soon f) none
  where
    newer : Requested
    newer = requested_after (record (asked_of e) { last = None }) f

    go : (stale : Bool) → is_stale e.frequency.last f.sequence ≡ stale → (soon : Bool) → (frequency_judged stale soon f e).fault ≡ None → asked_of (frequency_judged stale soon f e).end ≡ requested_after (asked_of e) f
    go true is soon none = sym (ap (λ (b : Bool). if b then newer else asked_of e) (newer_is e.frequency.last f.sequence true is))
    go false is true none = cc
    go false is false none = sym (ap (λ (b : Bool). if b then newer else asked_of e) (newer_is e.frequency.last f.sequence false is))

-- what any frame asks that is taken
frame_asked : (f : FrameValue) (e : End) → (take_frame f e).fault ≡ None → asked_of (take_frame f e).end ≡ requested_by (f ∷ []) (asked_of e)
frame_asked (ack a) e none = ap (λ (r : Rule). r.asked) (go (names_ungiven a e))
  where
    go : (b : Bool) → Keeps e (ack_taken b a e).end
    go true = refl
    go false = acked_keeps (Keeps e) (settles e) (is_above e.numbers.largest_acked a.largest) a (named a e) refl
frame_asked (datagram m) e none = message_leaves (λ (x : End). asked_of x ≡ asked_of e) m e refl (λ left. refl)
frame_asked (new_connection_id f) e none = ap (λ (r : Rule). r.asked) (go (retires_for (insert_answer e.ids.peer (frame_of f))))
  where
    retires : (b : Bool) (r : Range ℕ) → Keeps e (retired_for b r f e).end
    retires true r = shortened_rule _ (retiring r (with_taken_up f e))
    retires false r = refl

    go : (r : Result (Option (Range ℕ)) InsertError) → Keeps e (id_judged r f e).end
    go (Ok None) = shortened_rule _ (with_taken_up f e)
    go (Ok (Some r)) = retires (can_retire e.waiting.frames r.start r.end) r
    go (Err inserts.Retired) = refl
    go (Err inserts.ExceedsLimit) = refl
frame_asked (retire_connection_id n) e none = ap (λ (r : Rule). r.asked) (go (retirement_answer e.ids.own n e.ids.limit))
  where
    issues : (b : Bool) → Keeps e (issued_if b (with_ids e (retired n e.ids)))
    issues true = refl
    issues false = refl

    go : (r : Result Bool ErrorValue) → Keeps e (retirement_judged r n e).end
    go (Ok more) = issues (issues_for n e)
    go (Err error) = refl
frame_asked (path_response token) e none = ap (λ (r : Rule). r.asked) (go (is_asked e.validation.challenge (word_of token)))
  where
    go : (b : Bool) → Keeps e (validated_if b e)
    go true = refl
    go false = refl
frame_asked handshake_done e none = by_heard_done (λ (x : End). asked_of x ≡ asked_of e) e refl (λ c. refl)
frame_asked (ack_frequency f) e none = frequency_asked f e none
frame_asked f e none = refl

-- the first frame asks, and then the others
requested_first : (f : FrameValue) (fs : List FrameValue) (r : Requested) → requested_by (f ∷ fs) r ≡ requested_by fs (requested_by (f ∷ []) r)
requested_first (ack_frequency f) fs r = refl
requested_first f fs r = refl

-- one from elsewhere asks the same
requested_elsewhere : (f : FrameValue) (fs : List FrameValue) (r : Requested) → requested_by (as_elsewhere f ∷ fs) r ≡ requested_by (f ∷ fs) r
requested_elsewhere (path_challenge token) fs r = refl
requested_elsewhere (path_response token) fs r = refl
requested_elsewhere f fs r = refl

-- so do all
pub requested_at : (here : Bool) (fs : List FrameValue) (r : Requested) → requested_by (frames_at here fs) r ≡ requested_by fs r
requested_at true fs r = refl
requested_at false [] r = refl
requested_at false (f ∷ fs) r = requested_elsewhere f (frames_at false fs) r ∙ requested_first f (frames_at false fs) r ∙ requested_at false fs (requested_by (f ∷ []) r) ∙ sym (requested_first f fs r)

-- what all frames of a packet ask that are taken
pub frames_asked : (fs : List FrameValue) (e : End) → (passed fs e).fault ≡ None → asked_of (passed fs e).end ≡ requested_by fs (asked_of e)
frames_asked fs e none = frames_taken (λ (left : List FrameValue) (x : End). requested_by left (asked_of x) ≡ requested_by fs (asked_of e)) step fs e none refl
  where
    step : (f : FrameValue) (left : List FrameValue) (x : End) → (take_frame f x).fault ≡ None → requested_by (f ∷ left) (asked_of x) ≡ requested_by fs (asked_of e) → requested_by left (asked_of (take_frame f x).end) ≡ requested_by fs (asked_of e)
    step f left x is before = ap (λ (r : Requested). requested_by left r) (frame_asked f x is) ∙ sym (requested_first f left (asked_of x)) ∙ before

-- ---- a packet that is taken

-- it leaves what was asked, and the greatest number that was acknowledged
pub packet_asked : (b : Bool) (p : Pending) (now n : ℕ) (s : Seen)
    → ((after_packet p now n b s).threshold ≡ p.threshold) × ((after_packet p now n b s).reordering ≡ p.reordering) × ((after_packet p now n b s).acked ≡ p.acked)
packet_asked true p now n s = go (starts_wait counted)
  where
    counted : Pending
    counted = asking_counted p n s

    waited : Bool → Pending
    waited b = cond b (record counted { since = Some now }) counted

    go : (b : Bool) → ((waited b).threshold ≡ p.threshold) × ((waited b).reordering ≡ p.reordering) × ((waited b).acked ≡ p.acked)
    go true = (refl, refl, refl)
    go false = (refl, refl, refl)
packet_asked false p now n s = (refl, refl, refl)

-- the greatest number of those that ask, or 0
pub latest_is : (taken : List Packet) → unwrap_or (latest_asking taken) 0 ≡ greatest_asking taken
latest_is [] = refl
latest_is (p ∷ ps) = go (list_any asks p.frames) (latest_is ps)
  where
    go : (b : Bool) → unwrap_or (latest_asking ps) 0 ≡ greatest_asking ps → unwrap_or (if b then Some (if b then max p.number (greatest_asking ps) else greatest_asking ps) else latest_asking ps) 0 ≡ (if b then max p.number (greatest_asking ps) else greatest_asking ps)
    go true rest = refl
    go false rest = rest

-- the timer changes none of it
waited_greatest : (b : Bool) (p : Pending) (now : ℕ) → (cond b (record p { since = Some now }) p).greatest ≡ p.greatest
waited_greatest true p now = refl
waited_greatest false p now = refl

-- the greatest number behind one more
greatest_more : (g h n : ℕ) → g ≡ h → max g n ≡ max n h
greatest_more g h n same = omega (arith, same)

packet_greatest : (taken : List Packet) (frames : List FrameValue) (b : Bool) (p : Pending) (now n : ℕ) (s : Seen) → list_any asks frames ≡ b → p.greatest ≡ latest_asking taken
    → (after_packet p now n b s).greatest ≡ latest_asking (record { number = n; frames = frames } ∷ taken)
packet_greatest taken frames true p now n s is same =
    let counted = asking_counted p n s in
    let before : unwrap_or p.greatest 0 ≡ greatest_asking taken = ap (λ (o : Option ℕ). unwrap_or o 0) same ∙ latest_is taken in
    waited_greatest (starts_wait counted) counted now
    ∙ ap (λ (k : ℕ). Some k) (greatest_more (unwrap_or p.greatest 0) (greatest_asking taken) n before)
    ∙ ap (λ (c : Bool). if c then Some (if c then max n (greatest_asking taken) else greatest_asking taken) else latest_asking taken) (sym is)
packet_greatest taken frames false p now n s is same = same ∙ ap (λ (c : Bool). if c then Some (if c then max n (greatest_asking taken) else greatest_asking taken) else latest_asking taken) (sym is)

-- an end is ruled so while it is open
abbrev IsRuled : End → Intake → Type 0
IsRuled e i = e.closing.state ≡ states.Open → rule_of e ≡ rule_by i.took

-- each case of a delivery
arrivals_ruled : (e : End) (now n : ℕ) (frames : List FrameValue) (here : Bool) (i : Intake) → IsRuled e i → Arrivals e now n frames (frames_at here frames) i (λ (o : Outcome) (j : Intake). IsRuled o.end j)
arrivals_ruled e now n frames here i ruled = record {
  ignored = λ reason. ruled;
  noted = λ state reason opened. absurd (let clash : states.Closing ≡ states.Open = sym state ∙ opened in cc);
  takes = λ words state new none urged mark opened. taken none urged mark (ruled state);
  moves = λ p o same remote x state left opened. migrated_rule p o remote x ∙ left (sym (ap (λ (c : Closing). c.state) (migrated_closing p o remote x)) ∙ opened);
  drains = λ words state new close is opened. absurd cc;
  refuses = λ words state new f is opened. absurd cc;
  exhausts = λ state opened. absurd cc;
}
  where
    within : List FrameValue
    within = frames_at here frames

    left : End
    left = (arrived e now n within).end

    all : List Packet
    all = record { number = n; frames = frames } ∷ i.took

    taken : (arrived e now n within).fault ≡ None → (urged : Bool) (mark : Option EcnCodepoint) → rule_of e ≡ rule_by i.took → rule_of (after_taken n (asks_in (map Ok frames)) urged mark left) ≡ rule_by all
    taken none urged mark was =
        let noted : Pending = with_due urged (after_insert left.acknowledging n left.closing.clock) in
        let q : Pending = after_packet noted left.closing.clock n (asks_in (map Ok frames)) left.numbers.opened in
        let kept = packet_asked (asks_in (map Ok frames)) noted left.closing.clock n left.numbers.opened in
        let greatest : q.greatest ≡ latest_asking all = packet_greatest i.took frames (asks_in (map Ok frames)) noted left.closing.clock n left.numbers.opened (sym (asks_same frames)) ((frames_acks within (begun e now n)).greatest ∙ ap (λ (r : Rule). r.greatest) was) in
        let asked : asked_of left ≡ requested all = frames_asked within (begun e now n) none ∙ ap (λ (r : Rule). requested_by within r.asked) was ∙ requested_at here frames (requested i.took) in
        ap (λ (t : ℕ). record { asked = record { last = left.frequency.last; delay = left.frequency.own_delay; threshold = t; reordering = q.reordering }; greatest = q.greatest }) kept.0
        ∙ ap (λ (t : ℕ). record { asked = record { last = left.frequency.last; delay = left.frequency.own_delay; threshold = left.acknowledging.threshold; reordering = t }; greatest = q.greatest }) kept.1
        ∙ ap (λ (o : Option ℕ). record { asked = asked_of left; greatest = o }) greatest
        ∙ ap (λ (r : Requested). record { asked = r; greatest = latest_asking all }) asked

-- ---- the group

-- x is ruled so by what came to it.
pub record Ruled (x y : Party) : Type 0 where
  pub rules : x.end.closing.state ≡ states.Open → rule_of x.end ≡ rule_by (came_to x y).took

ruled_step : (x y : Party) (call : Call) (a : Answer) → Calls Observed x y call a → Ruled x y → Ruled (called x y.given call a) y
ruled_step x y call a c i = record {
  rules = by_coming x y a c.joined c.served (meets y x c.takes.0) IsRuled call c.answer (record {
    apart = λ apart opened. call_rule x.policy x.end y.given call a apart ∙ i.rules (was_open x.policy x.end y.given call a opened);
    none = λ delivery is. i.rules;
    comes = λ delivery is s among here. arrivals_ruled x.end delivery.now s.number s.frames here (came_to x y) i.rules;
  });
}

-- over the packets and what observers know of them
pub rules_group : Group Observed Ruled
rules_group = record {
  first = λ x y m there here. record { rules = λ opened. refl };
  writer = λ x y call a c i back. ruled_step x y call a c i;
  reader = λ x y call a c i back. record { rules = back.rules };
  shows = λ x y here there b back i j. record { rules = i.rules };
}
