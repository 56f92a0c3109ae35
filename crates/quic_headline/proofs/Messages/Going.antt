-- The end that sends: a message went or waits to go at most as often as it was sent.
use Rattle.std.proofs.Common.{◌≡◌, ℕ, ◌+◌, ◌≤◌, false, List, [], ◌∷◌, ◌++◌, replicate, Option, Some, None, Ok, refl, sym, ap, ◌∙◌, subst, arith}
use Rattle.std.specs.Prelude.{slice_get}
use Rattle.std.proofs.lemmas.List.{append_assoc, append-nil}
use Rattle.quic_machine.specs.Arrival.{delivered_by, Arrival}
use Rattle.quic_wire.specs.Value.{FrameValue, padding, datagram}
use Rattle.quic_messages.specs.Messages.{is_within, without_longer, Messages}
use Rattle.quic_machine.specs.declared.run.Call.{Call}
use Rattle.quic_machine.specs.declared.run.Call.TheVariants as calls
use Rattle.quic_machine.specs.declared.run.Answer.{Answer}
use Rattle.quic_machine.specs.declared.run.Answer.TheVariants as answers
use Rattle.quic_machine.specs.Policy.{Policy}
use Rattle.quic_machine.specs.Closing.{ticked}
use Rattle.quic_machine.specs.Parts.{Messaging}
use Rattle.quic_machine.specs.End.{End, with_closing, closed_by}
use Rattle.quic_machine.specs.Poll.{zeros_behind, Draft, polled, draft_as, Leaving}
use Rattle.quic_machine.specs.Poll as poll
use Rattle.quic_machine.specs.MessageCalls.{limits_of}
use Rattle.quic_machine.specs.Machine.{IsAnswer, after_delivered, after_call, fails, gave, says_last}
use Rattle.quic_machine.specs.DraftLaws.{Writing, by_leave, MayLeave}
use Rattle.quic_machine.specs.Puts as puts
use Rattle.quic_machine.specs.FrameCases.{by_received}
use Rattle.quic_machine.specs.PollCases.{ready_at, ready_leaves, draft_at, frames_padded, frames_at, may_leave_at}
use Rattle.quic_headline.specs.Runs.{Told}
use Rattle.quic_headline.specs.Observer.{Sent}
use Rattle.quic_headline.specs.Messages as messages
use Rattle.quic_headline.specs.Messages.{sent_messages}
use Rattle.quic_headline.proofs.Packets.Entries.{IsControl, control_of}
use Rattle.quic_headline.proofs.Packets.Moved.{by_migrated}
use Rattle.quic_headline.proofs.Packets.Sends.{GivesClose, by_sends}
use Rattle.quic_headline.proofs.Packets.Owing.{Owes, error_owes, close_is, close_alone}
use Rattle.quic_headline.proofs.Places.Steps.{poll_answer}
use Rattle.quic_headline.proofs.Places.Parties.{sent_as, sent_by, sent_if, sents_by, told_of}
use Rattle.quic_headline.proofs.Messages.Counted.{close_none, often_filter, often, often_none, often_append, often_more, sent_more, received_leaves, messages_in, often_last, often_padded, gone, gone_append}
use Rattle.quic_headline.proofs.Messages.Kept.{frame_messages, call_messages}
use Rattle.quic_headline.proofs.Packets.Probes.{by_going}

-- ---- what a poll gives

-- a frame of control has no message
pub control_none : (f : FrameValue) → IsControl f → messages_in (f ∷ []) ≡ []
control_none (datagram m) is = absurd is
control_none f is = refl

module _ (m : List ℕ) (e : End) where
  -- a message goes in a draft or waits behind it as often as it waited
  abbrev Same : Draft → Type 0
  Same d = often m (messages_in d.frames) + often m d.end.messages.queues.outgoing ≡ often m e.messages.queues.outgoing

  -- a frame without one
  plain_goes : (d : Draft) (f : FrameValue) → messages_in (f ∷ []) ≡ [] → Same d → often m (messages_in (d.frames ++ f ∷ [])) + often m d.end.messages.queues.outgoing ≡ often m e.messages.queues.outgoing
  plain_goes d f nothing before =
      let all = often_last m d.frames f in
      let one : often m (messages_in (f ∷ [])) ≡ often m [] = ap (often m) nothing in
      let none = often_none m in
      omega arith

  -- that of the oldest message
  message_goes : (d : Draft) (x : List ℕ) (xs : List (List ℕ)) → d.end.messages.queues.outgoing ≡ x ∷ xs → Same d → often m (messages_in (d.frames ++ datagram x ∷ [])) + often m xs ≡ often m e.messages.queues.outgoing
  message_goes d x xs is before =
      let all : often m (messages_in (d.frames ++ datagram x ∷ [])) ≡ often m (messages_in d.frames) + often m (x ∷ []) = often_last m d.frames (datagram x) in
      let waited : often m d.end.messages.queues.outgoing ≡ often m (x ∷ xs) = ap (often m) is in
      let more = often_more m x xs in
      omega arith

-- whichever frames go, a message goes or waits still as often as it waited
drafted : (m : List ℕ) (leaving : Leaving) (e : End) → MayLeave leaving e → often m (messages_in (draft_as leaving e).frames) + often m (draft_as leaving e).end.messages.queues.outgoing ≡ often m e.messages.queues.outgoing
drafted m leaving e due = by_leave (Same m e) keep leaving e due (let none = often_none m in omega arith)
  where
    keep : Writing (Same m e)
    keep (puts.drops kind) d may i = i
    keep (puts.control kind f) d is i = plain_goes m e d f (control_none f (control_of f kind is.of_kind)) i
    keep (puts.message x xs) d (is, fit) i = message_goes m e d x xs is i
    keep p d may i = plain_goes m e d _ refl i

-- a message waits at most as often as it did
abbrev FewWait : List ℕ → End → Messages → Type 0
FewWait m e q = often m q.outgoing ≤ often m e.messages.queues.outgoing

-- so it is where messages that are too long are dropped
drop_fewer : (m : List ℕ) (e : End) (most : ℕ) (q : Messages) → FewWait m e q → FewWait m e (without_longer most q)
drop_fewer m e most q few = let less = often_filter m (is_within most) q.outgoing in omega arith

-- what comes leaves the messages that wait to go, or drops some
delivery_leaves : (m : List ℕ) (p : Policy) (e : End) (arrival : Arrival) (o : Option (List ℕ)) → FewWait m e (after_delivered p e arrival o).messages.queues
delivery_leaves m p e arrival None = omega arith
delivery_leaves m p e arrival (Some d) = by_received (λ (f : End). FewWait m e f.messages.queues) (record {
  notes = λ n x few. few;
  begins = λ moment n x few. few;
  frame = λ f x few. frame_messages (FewWait m e) (drop_fewer m e) f x few (λ y is. subst (λ (ms : List (List ℕ)). often m ms ≤ often m e.messages.queues.outgoing) (sym (received_leaves x.transport.datagram_receive_buffer_size y x.messages.queues)) few);
  takes = λ n asks urged mark x few. few;
  closes = λ reason x few. few;
  drains = λ close x few. few;
  asks_close = λ x few. few;
  exhausts = λ now x few. few;
  draws = λ words x few. few;
  moves = λ q o remote x few. by_migrated (λ (f : End). FewWait m e f.messages.queues) q o remote x (λ c. few) (λ c most. drop_fewer m e most x.messages.queues few);
}) p e arrival d (omega arith)

-- ---- any call

module _ (m : List ℕ) where
  -- PADDING behind frames brings nothing
  given_goes : (frames padded : List FrameValue) (count : ℕ) (left before : List (List ℕ)) → padded ≡ frames ++ replicate count padding → often m (messages_in frames) + often m left ≡ often m before
      → often m (messages_in padded ++ []) + often m left ≤ often m before
  given_goes frames padded count left before is sum =
      let all : often m (messages_in padded ++ []) ≡ often m (messages_in (frames ++ replicate count padding)) =
      ap (often m) (append-nil (messages_in padded)) ∙ ap (λ (fs : List FrameValue). often m (messages_in fs)) is in
      let zeros = often_padded m frames count in
      omega arith

  -- nothing goes
  quiet_goes : (left before asked : List (List ℕ)) → often m left ≤ often m before → often m [] + often m left ≤ often m before + often m asked
  quiet_goes left before asked few = let none = often_none m in omega arith

  -- no more goes where more is sent
  less_goes : (went left before asked : List (List ℕ)) → often m went + often m left ≤ often m before → often m went + often m left ≤ often m before + often m asked
  less_goes went left before asked less = omega arith

  -- a message that a poll gives waits no more
  polled_goes : (p : Policy) (e : End) (now : ℕ) → Owes e
      → often m (gone (sent_if (gave (answers.Poll (polled p e now).answer)) (sent_by p e now))) + often m (polled p e now).end.messages.queues.outgoing ≤ often m e.messages.queues.outgoing
  polled_goes p e now owes = by_sends p e now (λ q sents. Few sents q.end) (record {
    silent = nothing e refl;
    failed = nothing e refl;
    nothing = λ is none. nothing (ready_at e now).end ready;
    repeats = λ is. closing (with_closing e (ticked e.closing now)) owes refl;
    closes = λ reason is bound. closing (closed_by reason (ready_at e now).end) (error_owes reason (ready_at e now).end) ready;
    gives = λ is bound some. by_going (Few (sent_as e now (draft_at e now) ∷ [])) p (draft_at e now) (λ going. one);
  })
    where
      Few : List Sent → End → Type 0
      Few sents x = often m (gone sents) + often m x.messages.queues.outgoing ≤ often m e.messages.queues.outgoing

      ready : (ready_at e now).end.messages ≡ e.messages
      ready = ap (λ (x : End). x.messages) (ready_leaves e now)

      nothing : (x : End) → x.messages ≡ e.messages → often m [] + often m x.messages.queues.outgoing ≤ often m e.messages.queues.outgoing
      nothing x same = (let none = often_none m in let waits : often m x.messages.queues.outgoing ≡ often m e.messages.queues.outgoing = ap (λ (q : Messaging). often m q.queues.outgoing) same in omega arith)

      closing : (x : End) → Owes x → x.messages ≡ e.messages → GivesClose p e now (λ q sents. Few sents q.end) x
      closing x due same = (
        nothing x same,
        λ f goes.
            subst (λ (ms : List (List ℕ)). often m (ms ++ []) + often m x.messages.queues.outgoing ≤ often m e.messages.queues.outgoing)
            (sym (close_none (frames_padded (draft_as (poll.closing f) x)) (close_alone x f (close_is p x due f goes)))) (nothing x same),
      )

      one : Few (sent_as e now (draft_at e now) ∷ []) (draft_at e now).end
      one =
          let d : Draft = draft_at e now in
          given_goes d.frames (frames_at e now) (zeros_behind d) d.end.messages.queues.outgoing e.messages.queues.outgoing refl
          (drafted m (ready_at e now).leaving (ready_at e now).end (may_leave_at e now) ∙ ap (λ (q : Messaging). often m q.queues.outgoing) ready)

  -- what a call gives and what waits behind it waited before, or is sent by it
  goes_call : (p : Policy) (e : End) (theirs : List (List ℕ)) (call : Call) (a : Answer) → Owes e → IsAnswer p e theirs call a → fails a ≡ false
      → often m (gone (sents_by p e call a)) + often m (after_call p e theirs call a).messages.queues.outgoing ≤ often m e.messages.queues.outgoing + often m (messages.sent_by call a)
  goes_call p e theirs (calls.Poll now) a owes is served =
      less_goes (gone (sent_if (gave a) (sent_by p e now))) (polled p e now).end.messages.queues.outgoing e.messages.queues.outgoing []
      (subst (λ (b : Answer). often m (gone (sent_if (gave b) (sent_by p e now))) + often m (polled p e now).end.messages.queues.outgoing ≤ often m e.messages.queues.outgoing) (sym (poll_answer p e now a is served)) (polled_goes p e now owes))
  goes_call p e theirs (calls.Send x makes_room) (answers.Send (Ok done)) owes is served =
      let more = sent_more m (limits_of e) makes_room x e.messages.queues in
      let none = often_none m in
      omega arith
  goes_call p e theirs (calls.Send x makes_room) a owes is served = quiet_goes e.messages.queues.outgoing e.messages.queues.outgoing [] (omega arith)
  goes_call p e theirs calls.Recv a owes is served = quiet_goes e.messages.queues.outgoing e.messages.queues.outgoing [] (omega arith)
  goes_call p e theirs (calls.Deliver delivery) a owes is served =
      let o : Option (List ℕ) = slice_get theirs delivery.index in
      quiet_goes (after_delivered p e (delivered_by (says_last a) delivery) o).messages.queues.outgoing e.messages.queues.outgoing [] (delivery_leaves m p e (delivered_by (says_last a) delivery) o)
  goes_call p e theirs call a owes is served =
      quiet_goes (after_call p e theirs call a).messages.queues.outgoing e.messages.queues.outgoing []
      (call_messages (FewWait m e) (drop_fewer m e) p e theirs call a refl refl refl (omega arith))

-- ---- all of them

-- what was sent by more calls
sent_messages-append : (ts more : List Told) → sent_messages (ts ++ more) ≡ sent_messages ts ++ sent_messages more
sent_messages-append [] more = refl
sent_messages-append (t ∷ ts) more =
    ap (λ (ms : List (List ℕ)). messages.sent_by t.call t.answer ++ ms) (sent_messages-append ts more) ∙ sym (append_assoc (messages.sent_by t.call t.answer) (sent_messages ts) (sent_messages more))

-- a message went or waits at most as often as it was sent
pub record Goes (e : End) (sents : List Sent) (told : List Told) : Type 0 where
  pub most : (m : List ℕ) → often m (gone sents) + often m e.messages.queues.outgoing ≤ often m (sent_messages told)

-- over plain lists
goes_further : (m : List ℕ) (went more left before told asked : List (List ℕ)) → often m went + often m before ≤ often m told → often m more + often m left ≤ often m before + often m asked → often m (went ++ more) + often m left ≤ often m (told ++ asked)
goes_further m went more left before told asked first step =
    let all = often_append m went more in
    let sent = often_append m told asked in
    omega arith

-- so it is behind a call
pub goes_on : (p : Policy) (e : End) (theirs : List (List ℕ)) (call : Call) (a : Answer) (sents : List Sent) (told : List Told) → Owes e → IsAnswer p e theirs call a → fails a ≡ false → Goes e sents told
    → Goes (after_call p e theirs call a) (sents ++ sents_by p e call a) (told ++ told_of call a e.closing.state ∷ [])
goes_on p e theirs call a sents told owes is served before = record { most = most }
  where
    t : Told
    t = told_of call a e.closing.state

    asked : sent_messages (told ++ t ∷ []) ≡ sent_messages told ++ messages.sent_by call a
    asked = sent_messages-append told (t ∷ []) ∙ ap (λ (ms : List (List ℕ)). sent_messages told ++ ms) (append-nil (messages.sent_by call a))

    most : (m : List ℕ) → often m (gone (sents ++ sents_by p e call a)) + often m (after_call p e theirs call a).messages.queues.outgoing ≤ often m (sent_messages (told ++ told_of call a e.closing.state ∷ []))
    most m = rw (gone_append sents (sents_by p e call a), asked)
        (goes_further m (gone sents) (gone (sents_by p e call a)) (after_call p e theirs call a).messages.queues.outgoing e.messages.queues.outgoing (sent_messages told) (messages.sent_by call a) (before.most m) (goes_call m p e theirs call a owes is served))
