-- What a call leaves of the messages that wait to go at an end is what a run's lists say of it.
use Rattle.std.proofs.Common.{◌≡◌, ℕ, ◌+◌, Bool, true, false, List, [], ◌∷◌, ◌++◌, length, replicate, drop, Option, Some, None, Result, Ok, Err, refl, sym, ap, ◌∙◌, subst, inl, inr}
use Rattle.std.specs.Prelude.{nat_le, nat_lt, is_ok, is_none, not, if◌then◌else◌}
use Rattle.std.proofs.lemmas.List.{append_assoc, append-nil}
use Rattle.quic_config.specs.declared.mtu_discovery.TheConstants.{MAX_UDP_PAYLOAD}
use Rattle.quic_congestion.specs.SearchBounds.{IsSized}
use Rattle.quic_wire.specs.Value.{FrameValue, padding, datagram}
use Rattle.quic_messages.specs.declared.errors.SendDatagramError.{SendDatagramError}
use Rattle.quic_messages.specs.declared.errors.SendDatagramError.TheVariants as send_errors
use Rattle.quic_messages.specs.declared.limits.DatagramLimits.{DatagramLimits}
use Rattle.quic_messages.specs.Messages.{Messages, bytes_of, left_for, with_message}
use Rattle.quic_messages.specs.Sending.{has_room, sized_answer, send_answer, after_send}
use Rattle.quic_machine.specs.declared.run.Call.{Call}
use Rattle.quic_machine.specs.declared.run.Call.TheVariants as calls
use Rattle.quic_machine.specs.declared.run.Answer.{Answer}
use Rattle.quic_machine.specs.declared.run.Answer.TheVariants as answers
use Rattle.quic_machine.specs.Policy.{Policy}
use Rattle.quic_machine.specs.Closing.{ticked}
use Rattle.quic_machine.specs.Parts.{Messaging}
use Rattle.quic_machine.specs.End.{End, with_closing, closed_by}
use Rattle.quic_machine.specs.Poll.{zeros_behind, Draft, Leaving, draft_as, close_to_go, polled}
use Rattle.quic_machine.specs.Poll as poll
use Rattle.quic_machine.specs.MessageCalls.{limits_of, is_on_messages}
use Rattle.quic_machine.specs.CallCases.{is_poll}
use Rattle.quic_machine.specs.Machine.{IsAnswer, after_call, fails, gave}
use Rattle.quic_machine.specs.DraftLaws.{Writing, MayLeave, by_leave}
use Rattle.quic_machine.specs.Puts as puts
use Rattle.quic_machine.specs.PollCases.{ready_at, ready_leaves, draft_at, frames_padded, frames_at, may_leave_at}
use Rattle.quic_headline.specs.Runs.{In}
use Rattle.quic_headline.specs.Observer.{Sent}
use Rattle.quic_headline.specs.Queue.{messages_in, Outbox, and_queued, short_ones, outbox_by, outbox_behind}
use Rattle.quic_headline.proofs.Packets.Entries.{control_of}
use Rattle.quic_headline.proofs.Packets.Probes.{by_going}
use Rattle.quic_headline.proofs.Packets.Sends.{GivesClose, by_sends}
use Rattle.quic_headline.proofs.Packets.Owing.{Owes, error_owes, close_is, close_alone}
use Rattle.quic_headline.proofs.Packets.Sizes.{sizing}
use Rattle.quic_headline.proofs.Places.Steps.{poll_answer}
use Rattle.quic_headline.proofs.Places.Parties.{sent_as, sent_by, sent_if, sents_by}
use Rattle.quic_headline.proofs.Channel.Messages.{AreTaken}
use Rattle.quic_headline.proofs.Held.Messages.{bound}
use Rattle.quic_headline.proofs.Messages.Counted.{messages_append, padding_none, close_none}
use Rattle.quic_headline.proofs.Messages.Going.{control_none}
use Rattle.quic_headline.proofs.Messages.Dropped.{Drops, longest_of, all_short, quiet_leaves}

-- ---- what a poll gives

-- a frame without a message
plain_goes : (fs : List FrameValue) (f : FrameValue) (left all : List (List ℕ)) → messages_in (f ∷ []) ≡ [] → messages_in fs ++ left ≡ all → messages_in (fs ++ f ∷ []) ++ left ≡ all
plain_goes fs f left all none is = ap (λ (ms : List (List ℕ)). ms ++ left) (messages_append fs (f ∷ []) ∙ ap (λ (ms : List (List ℕ)). messages_in fs ++ ms) none ∙ append-nil (messages_in fs)) ∙ is

-- that of the oldest message
message_goes : (fs : List FrameValue) (x : List ℕ) (xs before all : List (List ℕ)) → before ≡ x ∷ xs → messages_in fs ++ before ≡ all → messages_in (fs ++ datagram x ∷ []) ++ xs ≡ all
message_goes fs x xs before all first is = ap (λ (ms : List (List ℕ)). ms ++ xs) (messages_append fs (datagram x ∷ [])) ∙ append_assoc (messages_in fs) (x ∷ []) xs ∙ ap (λ (ms : List (List ℕ)). messages_in fs ++ ms) (sym first) ∙ is

-- whichever frames go, their messages are the first of those that waited, and the others wait still
drafted : (leaving : Leaving) (e : End) → MayLeave leaving e → messages_in (draft_as leaving e).frames ++ (draft_as leaving e).end.messages.queues.outgoing ≡ e.messages.queues.outgoing
drafted leaving e due = by_leave (λ (d : Draft). messages_in d.frames ++ d.end.messages.queues.outgoing ≡ e.messages.queues.outgoing) keep leaving e due refl
  where
    keep : Writing (λ (d : Draft). messages_in d.frames ++ d.end.messages.queues.outgoing ≡ e.messages.queues.outgoing)
    keep (puts.drops kind) d may i = i
    keep (puts.control kind f) d is i = plain_goes d.frames f d.end.messages.queues.outgoing e.messages.queues.outgoing (control_none f (control_of f kind is.of_kind)) i
    keep (puts.message x xs) d (is, fit) i = message_goes d.frames x xs d.end.messages.queues.outgoing e.messages.queues.outgoing is i
    keep p d may i = plain_goes d.frames _ d.end.messages.queues.outgoing e.messages.queues.outgoing refl i

-- PADDING has none
padded_same : (frames : List FrameValue) (count : ℕ) → messages_in (frames ++ replicate count padding) ≡ messages_in frames
padded_same frames count = messages_append frames (replicate count padding) ∙ ap (λ (ms : List (List ℕ)). messages_in frames ++ ms) (padding_none count) ∙ append-nil (messages_in frames)

-- what is ready to go takes messages of those that waited
ready_messages : (e : End) (now : ℕ) → (ready_at e now).end.messages ≡ e.messages
ready_messages e now = ap (λ (x : End). x.messages) (ready_leaves e now)

-- so it is of what a poll gives
given_order : (e : End) (now : ℕ) → messages_in (frames_at e now) ++ (draft_at e now).end.messages.queues.outgoing ≡ e.messages.queues.outgoing
given_order e now =
    let d : Draft = draft_at e now in
    ap (λ (ms : List (List ℕ)). ms ++ d.end.messages.queues.outgoing) (padded_same d.frames (zeros_behind d))
    ∙ drafted (ready_at e now).leaving (ready_at e now).end (may_leave_at e now)
    ∙ ap (λ (q : Messaging). q.queues.outgoing) (ready_messages e now)

-- and of a close
close_order : (p : Policy) (e x : End) → Owes x → x.messages ≡ e.messages → (f : FrameValue) → close_to_go p x ≡ Some f → messages_in (frames_padded (draft_as (poll.closing f) x)) ++ x.messages.queues.outgoing ≡ e.messages.queues.outgoing
close_order p e x owes same f goes =
    ap (λ (ms : List (List ℕ)). ms ++ x.messages.queues.outgoing) (close_none (frames_padded (draft_as (poll.closing f) x)) (close_alone x f (close_is p x owes f goes)))
    ∙ ap (λ (q : Messaging). q.queues.outgoing) same

-- where a poll gives a datagram, its messages are the first of those that waited
pub polled_order : (p : Policy) (e : End) (now : ℕ) → Owes e → (s : Sent) → In s (sent_if (gave (answers.Poll (polled p e now).answer)) (sent_by p e now)) → messages_in s.frames ++ (polled p e now).end.messages.queues.outgoing ≡ e.messages.queues.outgoing
polled_order p e now owes = by_sends p e now (λ q sents. Ordered sents q.end) (record {
  silent = λ s i. absurd i;
  failed = λ s i. absurd i;
  nothing = λ is none s i. absurd i;
  repeats = λ is. closing (with_closing e (ticked e.closing now)) owes refl;
  closes = λ reason is bound. closing (closed_by reason (ready_at e now).end) (error_owes reason (ready_at e now).end) (ready_messages e now);
  gives = λ is bound some. by_going (Ordered (sent_as e now (draft_at e now) ∷ [])) p (draft_at e now) (λ going. one (sent_as e now (draft_at e now)) (draft_at e now).end (given_order e now));
})
  where
    Ordered : List Sent → End → Type 0
    Ordered sents x = (s : Sent) → In s sents → messages_in s.frames ++ x.messages.queues.outgoing ≡ e.messages.queues.outgoing

    one : (t : Sent) (x : End) → messages_in t.frames ++ x.messages.queues.outgoing ≡ e.messages.queues.outgoing → Ordered (t ∷ []) x
    one t x is s (inl same) = ap (λ (u : Sent). messages_in u.frames ++ x.messages.queues.outgoing) same ∙ is
    one t x is s (inr none) = absurd none

    closing : (x : End) → Owes x → x.messages ≡ e.messages → GivesClose p e now (λ q sents. Ordered sents q.end) x
    closing x due same = ((λ s i. absurd i), (λ f goes. one (sent_as e now (draft_as (poll.closing f) x)) x (close_order p e x due same f goes)))

-- without the first of a list the others are left
drop_front : {X : Type 0} (xs ys zs : List X) → xs ++ ys ≡ zs → drop (length xs) zs ≡ ys
drop_front xs ys zs is = subst (λ all. drop (length xs) all ≡ ys) is (go xs)
  where
    go : (xs : List _) → drop (length xs) (xs ++ ys) ≡ ys
    go [] = refl
    go (x ∷ xs) = go xs

-- what a call leaves waiting, where it gave these
abbrev Leaves : ℕ → Call → Answer → End → List Sent → End → Type 0
Leaves room call a e new left = (more : List Sent) → outbox_by room call a (record { waiting = e.messages.queues.outgoing; left = new ++ more }) ≡ record { waiting = left.messages.queues.outgoing; left = more }

polled_leaves : (room : ℕ) (p : Policy) (e : End) (now : ℕ) → Owes e → Leaves room (calls.Poll now) (answers.Poll (polled p e now).answer) e (sent_if (gave (answers.Poll (polled p e now).answer)) (sent_by p e now)) (polled p e now).end
polled_leaves room p e now owes = by_sends p e now (λ q sents. Leaves room (calls.Poll now) (answers.Poll q.answer) e sents q.end) (record {
  silent = λ more. refl;
  failed = λ more. refl;
  nothing = λ is none. quiet (ready_at e now).end (ready_messages e now);
  repeats = λ is. closing (with_closing e (ticked e.closing now)) owes refl;
  closes = λ reason is bound. closing (closed_by reason (ready_at e now).end) (error_owes reason (ready_at e now).end) (ready_messages e now);
  gives = λ is bound some. by_going (λ (x : End). (more : List Sent) → ◌≡◌ {A = Outbox} (record { waiting = drop (length (messages_in (frames_at e now))) e.messages.queues.outgoing; left = more }) (record { waiting = x.messages.queues.outgoing; left = more })) p (draft_at e now)
      (λ going. first (messages_in (frames_at e now)) (draft_at e now).end (given_order e now));
})
  where
    -- the first of them went
    first : (ms : List (List ℕ)) (x : End) → ms ++ x.messages.queues.outgoing ≡ e.messages.queues.outgoing → (more : List Sent)
        → ◌≡◌ {A = Outbox} (record { waiting = drop (length ms) e.messages.queues.outgoing; left = more }) (record { waiting = x.messages.queues.outgoing; left = more })
    first ms x is more = ap {B = Outbox} (λ (waiting : List (List ℕ)). record { waiting = waiting; left = more }) (drop_front ms x.messages.queues.outgoing e.messages.queues.outgoing is)

    -- none did
    quiet : (x : End) → x.messages ≡ e.messages → (more : List Sent) → ◌≡◌ {A = Outbox} (record { waiting = e.messages.queues.outgoing; left = more }) (record { waiting = x.messages.queues.outgoing; left = more })
    quiet x same more = ap {B = Outbox} (λ (q : Messaging). record { waiting = q.queues.outgoing; left = more }) (sym same)

    closing : (x : End) → Owes x → x.messages ≡ e.messages → GivesClose p e now (λ q sents. Leaves room (calls.Poll now) (answers.Poll q.answer) e sents q.end) x
    closing x due same = (quiet x same, λ f goes. first (messages_in (frames_padded (draft_as (poll.closing f) x))) x (close_order p e x due same f goes))

-- ---- a message is sent

-- where it fits, none goes for it
all_left : (room len : ℕ) (ms : List (List ℕ)) → nat_le (bytes_of length ms + len) room ≡ true → left_for length room len ms ≡ ms
all_left room len [] fits = refl
all_left room len (m ∷ ms) fits = ap (λ (b : Bool). if b then m ∷ ms else left_for length room len ms) fits

-- one that no older one goes for has room
had_room : (is_open none : Bool) (most : Option ℕ) (fits : Bool) (m : List ℕ) → is_ok (if not is_open then Err send_errors.Blocked else (if none then Err send_errors.Disabled else sized_answer most fits m)) ≡ true → fits ≡ true
had_room false none most fits m ok = cc
had_room true true most fits m ok = cc
had_room true false None fits m ok = cc
had_room true false (Some most) true m ok = refl
had_room true false (Some most) false m ok = (let never : ⊥ = go (nat_lt most (length m)) ok in absurd never)
  where
    go : (long : Bool) → is_ok {T = Unit {0}} {E = SendDatagramError} (if long then Err send_errors.TooLarge else Err send_errors.Blocked) ≡ true → ⊥
    go true e = cc
    go false e = cc

queued_is : (limits : DatagramLimits) (makes_room : Bool) (m : List ℕ) (s : Messages) → is_ok (send_answer limits makes_room m s) ≡ true → and_queued makes_room limits.send_buffer_size m s.outgoing ≡ (after_send limits makes_room m s).outgoing
queued_is limits makes_room m s ok = by_kind makes_room ok ∙ ap (λ (b : Bool). (if b then record s { outgoing = with_message length limits.send_buffer_size m s.outgoing } else s).outgoing) (sym ok)
  where
    by_kind : (makes_room : Bool) → is_ok (send_answer limits makes_room m s) ≡ true → and_queued makes_room limits.send_buffer_size m s.outgoing ≡ with_message length limits.send_buffer_size m s.outgoing
    by_kind true ok = refl
    by_kind false ok = ap (λ (ms : List (List ℕ)). ms ++ m ∷ []) (sym (all_left limits.send_buffer_size (length m) s.outgoing (had_room limits.is_open (is_none limits.receive_buffer_size) limits.max_size (has_room limits.send_buffer_size m s) m ok)))

said_ok : (r : Result (Unit {0}) SendDatagramError) (x : Unit {0}) → answers.Send (Ok x) ≡ answers.Send r → is_ok r ≡ true
said_ok (Ok y) x e = refl
said_ok (Err error) x e = cc

-- ---- any call

-- what is known where a call comes, and behind it: how many bytes of messages the end keeps, that
-- its size is lawful, and that no message that waits is too long
pub record Fits (bytes : ℕ) (e left : End) : Type 0 where
  pub room : e.transport.datagram_send_buffer_size ≡ bytes
  pub sized : IsSized 1200 MAX_UDP_PAYLOAD e.path.discovery
  pub short : AreTaken (Some (bound (sizing e))) e.messages.queues.outgoing
  pub short_behind : AreTaken (Some (bound (sizing left))) left.messages.queues.outgoing

-- where no message is too long, none is dropped
none_dropped : (room : ℕ) (call : Call) (a : Answer) (e left : End) (new more : List Sent) → AreTaken (Some (bound (sizing left))) left.messages.queues.outgoing
    → outbox_by room call a (record { waiting = e.messages.queues.outgoing; left = new ++ more }) ≡ record { waiting = left.messages.queues.outgoing; left = more }
    → outbox_behind room (longest_of (sizing left)) call a (record { waiting = e.messages.queues.outgoing; left = new ++ more }) ≡ record { waiting = left.messages.queues.outgoing; left = more }
none_dropped room call a e left new more short is =
    ap (λ (o : Outbox). record o { waiting = short_ones (longest_of (sizing left)) o.waiting }) is
    ∙ ap (λ (ms : List (List ℕ)). record { waiting = ms; left = more }) (all_short (longest_of (sizing left)) left.messages.queues.outgoing short)

pub call_leaves : (room : ℕ) (p : Policy) (e : End) (theirs : List (List ℕ)) (call : Call) (a : Answer) → Owes e → (is_poll call ≡ false → is_on_messages call ≡ false → Drops (sizing e) (sizing (after_call p e theirs call a))) → Fits room e (after_call p e theirs call a) → IsAnswer p e theirs call a → fails a ≡ false → (more : List Sent)
    → outbox_behind room (longest_of (sizing (after_call p e theirs call a))) call a (record { waiting = e.messages.queues.outgoing; left = sents_by p e call a ++ more }) ≡ record { waiting = (after_call p e theirs call a).messages.queues.outgoing; left = more }
call_leaves room p e theirs (calls.Poll now) a owes quiet fits is served more =
    none_dropped room (calls.Poll now) a e (polled p e now).end (sents_by p e (calls.Poll now) a) more fits.short_behind
    (subst (λ (b : Answer). Leaves room (calls.Poll now) b e (sent_if (gave b) (sent_by p e now)) (polled p e now).end) (sym (poll_answer p e now a is served)) (polled_leaves room p e now owes) more)
call_leaves room p e theirs (calls.Send x makes_room) (answers.Send (Ok done)) owes quiet fits (inl is) served more =
    none_dropped room (calls.Send x makes_room) (answers.Send (Ok done)) e (after_call p e theirs (calls.Send x makes_room) (answers.Send (Ok done))) [] more fits.short_behind
    (ap (λ (ms : List (List ℕ)). record { waiting = ms; left = more })
    (ap (λ (n : ℕ). and_queued makes_room n x e.messages.queues.outgoing) (sym fits.room) ∙ queued_is (limits_of e) makes_room x e.messages.queues (said_ok (send_answer (limits_of e) makes_room x e.messages.queues) done is)))
call_leaves room p e theirs (calls.Send x makes_room) (answers.Send (Ok done)) owes quiet fits (inr is) served more = cc
call_leaves room p e theirs (calls.Send x makes_room) a owes quiet fits is served more = none_dropped room (calls.Send x makes_room) a e (after_call p e theirs (calls.Send x makes_room) a) [] more fits.short_behind refl
call_leaves room p e theirs calls.Recv a owes quiet fits is served more = none_dropped room calls.Recv a e (after_call p e theirs calls.Recv a) [] more fits.short_behind refl
call_leaves room p e theirs call a owes quiet fits is served more =
    ap (λ (ms : List (List ℕ)). record { waiting = ms; left = more }) (sym (quiet_leaves (sizing e) (sizing (after_call p e theirs call a)) (quiet refl refl) fits.short))
