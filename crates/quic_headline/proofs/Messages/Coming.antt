-- The end that takes: a message was received or is unread at most as often as it stands in the
-- datagrams of the other whose numbers came.
use Rattle.std.proofs.Common.{◌≡◌, ℕ, ◌+◌, ◌≤◌, Bool, true, false, List, [], ◌∷◌, ◌++◌, drop, Option, Some, None, Ok, option_to_list, refl, sym, ap, ◌∙◌, subst, arith}
use Rattle.std.proofs.lemmas.List.{append_assoc, append-nil}
use Rattle.quic_wire.specs.Value.{FrameValue, datagram, path_challenge, path_response}
use Rattle.quic_messages.specs.Messages.{Messages, oldest, after_received}
use Rattle.quic_machine.specs.declared.run.Call.{Call}
use Rattle.quic_machine.specs.declared.run.Call.TheVariants as calls
use Rattle.quic_machine.specs.declared.run.Answer.{Answer}
use Rattle.quic_machine.specs.declared.run.Answer.TheVariants as answers
use Rattle.quic_machine.specs.Policy.{Policy}
use Rattle.quic_machine.specs.End.{End, closed_by, with_closing}
use Rattle.quic_machine.specs.Migration.{as_elsewhere}
use Rattle.quic_machine.specs.Receive.{Outcome, take_frame}
use Rattle.quic_machine.specs.Poll.{Polled, Draft, polled, draft_as, Leaving}
use Rattle.quic_machine.specs.MessageCalls.{limits_of}
use Rattle.quic_machine.specs.Machine.{IsAnswer, after_call, fails}
use Rattle.quic_machine.specs.DraftLaws.{Writing, by_leave, MayLeave}
use Rattle.quic_machine.specs.Puts as puts
use Rattle.quic_machine.specs.FrameCases.{passed, frames_leave, begun}
use Rattle.quic_machine.specs.PollCases.{by_poll, at_poll}
use Rattle.quic_machine.specs.CallCases.{is_delivery}
use Rattle.quic_headline.specs.Runs.{Told, Intake, In, is_again}
use Rattle.quic_headline.specs.Observer.{Sent}
use Rattle.quic_headline.specs.Messages.{received_by, received_messages}
use Rattle.quic_machine.specs.Closing.{ticked}
use Rattle.quic_headline.proofs.Packets.Closes.{by_closes}
use Rattle.quic_headline.proofs.Packets.Delivered.{frames_at, Arrivals, arrived, with_taken}
use Rattle.quic_headline.proofs.Packets.Moved.{by_migrated}
use Rattle.quic_headline.proofs.Places.Parties.{told_of, Party, called, came_to, AreJoined}
use Rattle.quic_headline.proofs.Places.Coming.{Meets, came_same, by_coming}
use Rattle.quic_headline.proofs.Messages.Counted.{often, often_none, often_append, often_oldest, received_more, sent_leaves, messages_in, often_first, new_number, came, came_more, came_new}
use Rattle.quic_headline.proofs.Messages.Kept.{frame_messages, call_messages}
use Rattle.quic_headline.proofs.Packets.Probes.{may_leave}

-- ---- calls that leave what is unread

-- whichever frames go
drafted : (leaving : Leaving) (e : End) → MayLeave leaving e → (draft_as leaving e).end.messages.queues.incoming ≡ e.messages.queues.incoming
drafted leaving e due = by_leave (λ (d : Draft). d.end.messages.queues.incoming ≡ e.messages.queues.incoming) keep leaving e due refl
  where
    keep : Writing (λ (d : Draft). d.end.messages.queues.incoming ≡ e.messages.queues.incoming)
    keep puts.ping d may i = i
    keep p d may i = i

-- a poll
polled_leaves : (p : Policy) (e : End) (now : ℕ) → (polled p e now).end.messages.queues.incoming ≡ e.messages.queues.incoming
polled_leaves p e now = by_poll p e now (λ (q : Polled). q.end.messages.queues.incoming ≡ e.messages.queues.incoming)
    (record {
      silent = refl;
      failed = refl;
      nothing = λ c. refl;
      repeats = λ is. by_closes p (with_closing e (ticked e.closing now)) (λ (q : Polled). q.end.messages.queues.incoming ≡ e.messages.queues.incoming) refl (λ f goes. refl);
      closes = λ reason c bound. by_closes p (closed_by reason (at_poll e now c)) (λ (q : Polled). q.end.messages.queues.incoming ≡ e.messages.queues.incoming) refl (λ f goes. refl);
      gives = λ leaving c left is may ready some.
          let x : End = at_poll e now c in
          drafted leaving x (may_leave e now leaving x ready);
    })

-- whether a call reads a message
abbrev pub reads : Call → Bool
reads calls.Recv = true
reads call = false

-- any call that reads none, but a delivery
pub call_leaves : (p : Policy) (e : End) (theirs : List (List ℕ)) (call : Call) (a : Answer) → is_delivery call ≡ false → reads call ≡ false → (after_call p e theirs call a).messages.queues.incoming ≡ e.messages.queues.incoming
call_leaves p e theirs (calls.Poll now) a apart unread = polled_leaves p e now
call_leaves p e theirs (calls.Send x makes_room) (answers.Send (Ok done)) apart unread = sent_leaves (limits_of e) makes_room x e.messages.queues
call_leaves p e theirs (calls.Send x makes_room) a apart unread = refl
call_leaves p e theirs calls.Recv a apart unread = cc
call_leaves p e theirs (calls.Deliver delivery) a apart unread = cc
call_leaves p e theirs call a apart unread = call_messages (λ (q : Messages). q.incoming ≡ e.messages.queues.incoming) (λ most q same. same) p e theirs call a refl refl refl refl

-- ---- frames

module _ (m : List ℕ) (fs : List FrameValue) (e : End) where
  -- a message is unread, or stands among frames that are left, at most as often as it did before
  -- all of them
  abbrev Most : List FrameValue → Messages → Type 0
  Most left q = often m (messages_in left) + often m q.incoming ≤ often m (messages_in fs) + often m e.messages.queues.incoming

  -- one frame
  frame_brings : (f : FrameValue) (left : List FrameValue) (x : End) → Most (f ∷ left) x.messages.queues → Most left (take_frame f x).end.messages.queues
  frame_brings f left x before = frame_messages (Most left) (λ most q few. few) f x quiet takes
    where
      quiet : Most left x.messages.queues
      quiet = let parts = often_first m f left in omega arith

      takes : (y : List ℕ) → f ≡ datagram y → Most left (after_received x.transport.datagram_receive_buffer_size y x.messages.queues)
      takes y is =
          let parts = often_first m f left in
          let one : often m (messages_in (f ∷ [])) ≡ often m (y ∷ []) = ap (λ (g : FrameValue). often m (messages_in (g ∷ []))) is in
          let more = received_more m x.transport.datagram_receive_buffer_size y x.messages.queues in
          omega arith

  -- frames leave a message unread at most as often more as it stands among them
  frames_bring : often m (passed fs e).end.messages.queues.incoming ≤ often m (messages_in fs) + often m e.messages.queues.incoming
  frames_bring =
      let first : Most fs e.messages.queues = omega arith in
      let all = frames_leave (λ (left : List FrameValue) (x : End). Most left x.messages.queues) frame_brings fs e first in
      let most : often m (messages_in all.0) + often m (passed fs e).end.messages.queues.incoming ≤ often m (messages_in fs) + often m e.messages.queues.incoming = all.1 in
      omega arith

-- a frame that comes from elsewhere holds the message it would hold
elsewhere_leaves : (f : FrameValue) (fs : List FrameValue) → messages_in (as_elsewhere f ∷ fs) ≡ messages_in (f ∷ fs)
elsewhere_leaves (path_challenge token) fs = refl
elsewhere_leaves (path_response token) fs = refl
elsewhere_leaves f fs = refl

-- and a frame the message it holds, before any frames of the same messages
first_message : (f : FrameValue) (fs gs : List FrameValue) → messages_in fs ≡ messages_in gs → messages_in (f ∷ fs) ≡ messages_in (f ∷ gs)
first_message (datagram m) fs gs same = ap (λ (ms : List (List ℕ)). m ∷ ms) same
first_message f fs gs same = same

-- those that are taken of a packet have the same messages, wherever it came from
pub messages_at : (here : Bool) (fs : List FrameValue) → messages_in (frames_at here fs) ≡ messages_in fs
messages_at true fs = refl
messages_at false [] = refl
messages_at false (f ∷ fs) = elsewhere_leaves f (frames_at false fs) ∙ first_message f (frames_at false fs) fs (messages_at false fs)

-- ---- what came

-- a message was received or is unread at most as often as it stands in these datagrams, of those
-- whose numbers came
pub record Comes (e : End) (i : Intake) (sents : List Sent) (told : List Told) : Type 0 where
  pub most : (m : List ℕ) → often m (received_messages told) + often m e.messages.queues.incoming ≤ often m (came i.opened sents)

-- so it is where more went
pub comes_more : (e : End) (i : Intake) (sents more : List Sent) (told : List Told) → Comes e i sents told → Comes e i (sents ++ more) told
comes_more e i sents more told before = record { most = λ m. (let was = before.most m in let on = came_more m i.opened sents more in omega arith) }

-- and where what is unread is as it was
comes_kept : (e left : End) (i : Intake) (sents : List Sent) (told : List Told) → left.messages.queues.incoming ≡ e.messages.queues.incoming → Comes e i sents told → Comes left i sents told
comes_kept e left i sents told same before = record { most = λ m. subst (λ (ms : List (List ℕ)). often m (received_messages told) + often m ms ≤ often m (came i.opened sents)) (sym same) (before.most m) }

-- over plain lists
comes_further : (m : List ℕ) (told before after brought was now : List (List ℕ)) → often m told + often m before ≤ often m was → often m after ≤ often m brought + often m before → often m was + often m brought ≤ often m now → often m told + often m after ≤ often m now
comes_further m told before after brought was now first step more = omega arith

-- and in each case of a delivery
comes_arrivals : (e : End) (now : ℕ) (s : Sent) (here : Bool) (i : Intake) (sents : List Sent) (told : List Told) → In s sents → Comes e i sents told → Arrivals e now s.number s.frames (frames_at here s.frames) i (λ (o : Outcome) (j : Intake). Comes o.end j sents told)
comes_arrivals e now s here i sents told among before = record {
  ignored = λ reason. before;
  noted = λ state reason. record { most = before.most };
  takes = λ words state new none urged mark. record { most = brought new };
  moves = λ p o same remote x opened left. by_migrated (λ (z : End). Comes z (with_taken i s.number s.frames) sents told) p o remote x (λ c. record { most = left.most }) (λ c most. record { most = left.most });
  drains = λ words state new close is. record { most = brought new };
  refuses = λ words state new f is. record { most = brought new };
  exhausts = λ state. record { most = before.most };
}
  where
    within : List FrameValue
    within = frames_at here s.frames

    brought : is_again s.number i.opened ≡ false → (m : List ℕ) → often m (received_messages told) + often m (arrived e now s.number within).end.messages.queues.incoming ≤ often m (came (s.number ∷ i.opened) sents)
    brought new m = comes_further m (received_messages told) e.messages.queues.incoming (arrived e now s.number within).end.messages.queues.incoming (messages_in s.frames) (came i.opened sents) (came (s.number ∷ i.opened) sents)
        (before.most m) (subst (λ (ms : List (List ℕ)). often m (arrived e now s.number within).end.messages.queues.incoming ≤ often m ms + often m e.messages.queues.incoming) (messages_at here s.frames) (frames_bring m within (begun e now s.number))) (came_new m s i.opened sents among (new_number s.number i.opened new))

-- ---- what was received

-- what was received by more calls
received_messages-append : (ts more : List Told) → received_messages (ts ++ more) ≡ received_messages ts ++ received_messages more
received_messages-append [] more = refl
received_messages-append (t ∷ ts) more =
    ap (λ (ms : List (List ℕ)). received_by t.call t.answer ++ ms) (received_messages-append ts more) ∙ sym (append_assoc (received_by t.call t.answer) (received_messages ts) (received_messages more))

-- one call more
often_received : (m : List ℕ) (ts : List Told) (t : Told) → often m (received_messages (ts ++ t ∷ [])) ≡ often m (received_messages ts) + often m (received_by t.call t.answer)
often_received m ts t =
    ap (often m) (received_messages-append ts (t ∷ []) ∙ ap (λ (ms : List (List ℕ)). received_messages ts ++ ms) (append-nil (received_by t.call t.answer))) ∙ often_append m (received_messages ts) (received_by t.call t.answer)

-- one that received nothing
comes_on : (e : End) (i : Intake) (sents : List Sent) (told : List Told) (t : Told) → received_by t.call t.answer ≡ [] → Comes e i sents told → Comes e i sents (told ++ t ∷ [])
comes_on e i sents told t nothing before = record {
  most = λ m. (
      let was = before.most m in
      let all = often_received m told t in
      let one : often m (received_by t.call t.answer) ≡ often m [] = ap (often m) nothing in
      let none = often_none m in
      omega arith);
}

-- what is answered to one that reads
told_oldest : (o : Option (List ℕ)) → received_by calls.Recv (answers.Recv o) ≡ option_to_list o
told_oldest None = refl
told_oldest (Some x) = refl

-- the oldest is read
comes_read : (e : End) (i : Intake) (sents : List Sent) (told : List Told) (t : Told) (left : End) → left.messages.queues.incoming ≡ drop 1 e.messages.queues.incoming → received_by t.call t.answer ≡ option_to_list (oldest e.messages.queues.incoming)
    → Comes e i sents told → Comes left i sents (told ++ t ∷ [])
comes_read e i sents told t left leaves reads before = record {
  most = λ m. (
      let was = before.most m in
      let all = often_received m told t in
      let one : often m (received_by t.call t.answer) ≡ often m (option_to_list (oldest e.messages.queues.incoming)) = ap (often m) reads in
      let others : often m left.messages.queues.incoming ≡ often m (drop 1 e.messages.queues.incoming) = ap (often m) leaves in
      let parts = often_oldest m e.messages.queues.incoming in
      omega arith);
}

-- ---- any call

-- the same behind a call of the end that takes
pub comes_step : (x y : Party) (call : Call) (a : Answer) → AreJoined x y → fails a ≡ false → Meets y x → IsAnswer x.policy x.end y.given call a → Comes x.end (came_to x y) y.sents x.told
    → Comes (called x y.given call a).end (came_to (called x y.given call a) y) y.sents (x.told ++ told_of call a x.end.closing.state ∷ [])
comes_step x y calls.Recv a joined served meets is before =
    subst (λ (i : Intake). Comes (called x y.given calls.Recv a).end i y.sents (x.told ++ told_of calls.Recv a x.end.closing.state ∷ [])) (sym (came_same x y calls.Recv a refl))
    (comes_read x.end (came_to x y) y.sents x.told (told_of calls.Recv a x.end.closing.state) (called x y.given calls.Recv a).end refl (ap (received_by calls.Recv) is ∙ told_oldest (oldest x.end.messages.queues.incoming)) before)
comes_step x y call a joined served meets is before =
    comes_on (called x y.given call a).end (came_to (called x y.given call a) y) y.sents x.told (told_of call a x.end.closing.state) refl
    (by_coming x y a joined served meets (λ (e : End) (i : Intake). Comes e i y.sents x.told) call is (record {
      apart = λ apart. comes_kept x.end (after_call x.policy x.end y.given call a) (came_to x y) y.sents x.told (call_leaves x.policy x.end y.given call a apart refl) before;
      none = λ delivery at. before;
      comes = λ delivery at s among here. comes_arrivals x.end delivery.now s here (came_to x y) y.sents x.told among before;
    }))
