-- Where an application is told nothing next while messages wait, it was told that they came: at
-- each place of an honest run.
use Rattle.std.proofs.Common.{◌≡◌, ℕ, ◌+◌, ◌<◌, ◌≤◌, inl, inr, Bool, true, false, List, [], ◌∷◌, length, Some, None, refl, sym, ap, ◌∙◌, subst, arith, ◌⊎◌, map}
use Rattle.std.specs.Prelude.{nat_lt, ◌-◌, ◌&&◌, drop, if◌then◌else◌}
use Rattle.std.proofs.lemmas.Bool.{or_parts, lt-ltb, ltb-true, ltb-false}
use Rattle.quic_wire_core.specs.StreamId.{other_side}
use Rattle.quic_messages.specs.Messages.{oldest}
use Rattle.quic_machine.specs.declared.answers.Event.TheVariants as events
use Rattle.quic_machine.specs.declared.answers.State.TheVariants as states
use Rattle.quic_machine.specs.declared.run.Call.{Call}
use Rattle.quic_machine.specs.declared.run.Call.TheVariants as calls
use Rattle.quic_machine.specs.declared.run.Answer.{Answer}
use Rattle.quic_machine.specs.declared.run.Answer.TheVariants as answers
use Rattle.quic_machine.specs.Policy.{Policy}
use Rattle.quic_machine.specs.Calls.{tells_message, tells_done, tells_of, streams_told, end_tells, message_told, confirmation_told, others_told}
use Rattle.quic_machine.specs.End.{End}
use Rattle.quic_machine.specs.Receive.{Outcome}
use Rattle.quic_machine.specs.FrameCases.{begun, passed}
use Rattle.quic_machine.specs.LeaveCases.{by_others}
use Rattle.quic_machine.specs.CallCases.{is_delivery, asks_event}
use Rattle.quic_machine.specs.Machine.{World, after_call}
use Rattle.quic_headline.specs.Runs.{Run, Told, Intake, and_told, folded}
use Rattle.quic_headline.specs.Observer.{Sent, news}
use Rattle.quic_headline.specs.Headline.{IsHonest, IsRun}
use Rattle.quic_headline.specs.Events.{messages_brought, tells_messages, unread_behind, told_behind, Mail, no_mail, mail_behind, mail_told, mail, MessagesAreTold, messages_of}
use Rattle.quic_headline.proofs.Packets.Delivered.{Arrivals, with_taken, with_refused, frames_at}
use Rattle.quic_headline.proofs.Packets.Group.{PacketsHold, meets}
use Rattle.quic_headline.proofs.Packets.Intakes.{folded_more}
use Rattle.quic_headline.proofs.Packets.Watching.{none_new, one_new}
use Rattle.quic_headline.proofs.Places.Parties.{told_of, Party, called, came_to}
use Rattle.quic_headline.proofs.Places.Groups.{Way, Nothing, And, Calls, Group, both}
use Rattle.quic_headline.proofs.Places.Coming.{came_more, came_same, by_coming}
use Rattle.quic_headline.proofs.Places.Placed.{party_at, Placed, placed, answered}
use Rattle.quic_headline.proofs.Places.Everything as everything
use Rattle.quic_headline.proofs.Places.Theorems.{ready}
use Rattle.quic_headline.proofs.Halves.Ready.{Ready}
use Rattle.quic_headline.proofs.Timers.Still.{was_open}
use Rattle.quic_headline.proofs.Events.Messages.{receives, call_leaves, frames_tell, Brings, frames_bring}
use Rattle.quic_headline.proofs.Packets.Owing.{AreCloses, IsAlone}
use Rattle.quic_headline.proofs.Packets.Strays.{closed_at}
use Rattle.quic_headline.proofs.Packets.Moved.{by_migrated}
use Rattle.quic_machine.specs.DraftLaws.{IsClose}
use Rattle.quic_machine.specs.Migration.{as_elsewhere}
use Rattle.quic_wire.specs.Value.{FrameValue, datagram, padding, path_challenge, path_response}

-- ---- what waits

-- an open end has no more messages than wait by the lists, and where it wasn't told of those that
-- wait, it is to be told
pub record MailHolds (n : ℕ) (told : Bool) (e : End) : Type 0 where
  pub fewer : e.closing.state ≡ states.Open → length e.messages.queues.incoming ≤ n
  pub waits : 0 < n → told ≡ false → 0 < e.messages.to_tell

-- where it wasn't told behind a call, it wasn't before, while some waited
untold : (call : Call) (a : Answer) (n : ℕ) (told : Bool) → 0 < n → told_behind call a n told ≡ false → told ≡ false
untold call a n told some is = sym (ap (λ (b : Bool). b && told) (lt-ltb 0 n some)) ∙ (or_parts (tells_messages call a) (nat_lt 0 n && told) is).1

-- ---- calls

module _ (p : Policy) (e : End) (theirs : List (List ℕ)) (n : ℕ) (told : Bool) (h : MailHolds n told e) where
  -- the oldest is received
  recv_holds : (ms : List (List ℕ)) → e.messages.queues.incoming ≡ ms
      → MailHolds (unread_behind calls.Recv (answers.Recv (oldest ms)) n) (told_behind calls.Recv (answers.Recv (oldest ms)) n told) (after_call p e theirs calls.Recv (answers.Recv (oldest ms)))
  recv_holds [] is = record { fewer = λ open_now. subst (λ (xs : List (List ℕ)). length (after xs) ≤ 0) (sym is) (omega arith); waits = λ some. absurd (omega arith) }
    where
      after : List (List ℕ) → List (List ℕ)
      after xs = drop 1 xs
  recv_holds (m ∷ ms) is = record {
    fewer = λ open_now. (let was : length (m ∷ ms) ≤ n = subst (λ (xs : List (List ℕ)). length xs ≤ n) is (h.fewer open_now) in subst (λ (xs : List (List ℕ)). length (drop 1 xs) ≤ n - 1) (sym is) (omega arith));
    waits = λ some not. h.waits (omega arith) (untold calls.Recv (answers.Recv (Some m)) n told (omega arith) not);
  }

  -- it is told what is next
  event_holds : MailHolds n (told_behind calls.Event (answers.Event (end_tells e)) n told) (after_call p e theirs calls.Event (answers.Event (end_tells e)))
  event_holds = go (tells_message e) (tells_done e)
    where
      go : (b c : Bool) → MailHolds n (told_behind calls.Event (answers.Event (if b then Some events.Message else (if c then Some events.HandshakeConfirmed else tells_of (streams_told e).answer e.closing))) n told) (if b then message_told e else (if c then confirmation_told e else others_told e))
      go true c = record { fewer = λ open_now. h.fewer open_now; waits = λ some not. cc }
      go false true = record { fewer = λ open_now. h.fewer open_now; waits = λ some not. h.waits some (untold calls.Event (answers.Event (Some events.HandshakeConfirmed)) n told some not) }
      go false false = by_others e (λ (f : End). MailHolds n (told_behind calls.Event (answers.Event (tells_of (streams_told e).answer e.closing)) n told) f)
          (λ was. record { fewer = λ open_now. h.fewer open_now; waits = λ some not. h.waits some (untold calls.Event (answers.Event (tells_of (streams_told e).answer e.closing)) n told some not) })

  -- any other call, but a delivery
  other_holds : (call : Call) (a : Answer) → is_delivery call ≡ false → receives call ≡ false → asks_event call ≡ false → MailHolds n (nat_lt 0 n && told) (after_call p e theirs call a)
  other_holds call a apart off quiet = record {
    fewer = λ open_now. call_leaves (λ ms k. length ms ≤ n) p e theirs call a apart off quiet (h.fewer (was_open p e theirs call a open_now));
    waits = λ some not. call_leaves (λ ms k. 0 < k) p e theirs call a apart off quiet (h.waits some (sym (ap (λ (b : Bool). b && told) (lt-ltb 0 n some)) ∙ not));
  }

-- ---- what comes

-- closes and PADDING bring no message
closes_bring : (fs : List FrameValue) → AreCloses fs → messages_of fs ≡ 0
closes_bring [] all = refl
closes_bring (f ∷ fs) all = first f (all f (inl refl)) ∙ closes_bring fs (λ g i. all g (inr i))
  where
    first : (g : FrameValue) → IsClose g ⊎ (g ≡ padding) → messages_of (g ∷ fs) ≡ messages_of fs
    first (datagram m) (inl close) = absurd close
    first (datagram m) (inr same) = cc
    first g either = refl

-- nor do frames of path validation
messages_at : (here : Bool) (fs : List FrameValue) → messages_of (frames_at here fs) ≡ messages_of fs
messages_at true fs = refl
messages_at false [] = refl
messages_at false (f ∷ fs) = one f (messages_at false fs)
  where
    one : (g : FrameValue) → messages_of (map as_elsewhere fs) ≡ messages_of fs → messages_of (as_elsewhere g ∷ map as_elsewhere fs) ≡ messages_of (g ∷ fs)
    one (datagram m) rest = ap (λ (k : ℕ). k + 1) rest
    one (path_challenge token) rest = rest
    one (path_response token) rest = rest
    one g rest = rest

module _ (e : End) (i : Intake) (n : ℕ) (told : Bool) (h : MailHolds n told e) where
  -- what waits behind a packet
  abbrev Behind : End → Intake → Type 0
  Behind f j = MailHolds (n + messages_brought (news i j)) (nat_lt 0 n && told) f

  still_untold : 0 < n → (nat_lt 0 n && told) ≡ false → told ≡ false
  still_untold some is = sym (ap (λ (b : Bool). b && told) (lt-ltb 0 n some)) ∙ is

  same : MailHolds n (nat_lt 0 n && told) e
  same = record { fewer = h.fewer; waits = λ some not. h.waits some (still_untold some not) }

  -- nothing was taken
  none_more : (f : End) (j : Intake) → news i j ≡ [] → MailHolds n (nat_lt 0 n && told) f → Behind f j
  none_more f j none holds = (let zero : messages_brought (news i j) ≡ 0 = ap messages_brought none in subst (λ (k : ℕ). MailHolds k (nat_lt 0 n && told) f) (omega arith) holds)

  mail_arrives : (now : ℕ) (s : Sent) (here : Bool) → IsAlone s.frames → Arrivals e now s.number s.frames (frames_at here s.frames) i (λ (o : Outcome) (j : Intake). Behind o.end j)
  mail_arrives now s here alone = record {
    ignored = λ reason. none_more e i (none_new i) same;
    noted = λ state reason. none_more _ i (none_new i) (record { fewer = λ open_now. h.fewer open_now; waits = same.waits });
    takes = λ words state new none urged mark. taken state none _ refl refl;
    moves = λ p o same remote z opened k. by_migrated (λ (f : End). Behind f (with_taken i s.number s.frames)) p o remote z (λ c. record { fewer = k.fewer; waits = k.waits }) (λ c most. record { fewer = k.fewer; waits = k.waits });
    drains = λ words state new close is. none_brought _ (closed_at here s.frames (begun e now s.number) close alone is) (record { fewer = λ open_now. cc; waits = λ some not. frames_tell came (begun e now s.number) (same.waits some not) });
    refuses = λ words state new f fault. none_more _ (with_refused i s.number s.frames) (none_new i) (record { fewer = λ open_now. cc; waits = λ some not. frames_tell came (begun e now s.number) (same.waits some not) });
    exhausts = λ state. none_more _ i (none_new i) (record { fewer = λ open_now. cc; waits = same.waits });
  }
    where
      came : List FrameValue
      came = frames_at here s.frames

      as_many : messages_of came ≡ messages_of s.frames
      as_many = messages_at here s.frames

      -- a packet in which the peer closes brings none
      none_brought : (f : End) → AreCloses s.frames → MailHolds n (nat_lt 0 n && told) f → Behind f (with_taken i s.number s.frames)
      none_brought f closes holds =
          let zero : messages_brought (news i (with_taken i s.number s.frames)) ≡ 0 = ap messages_brought (one_new i s.number s.frames) ∙ ap (λ (k : ℕ). k + 0) (closes_bring s.frames closes) in
          subst (λ (k : ℕ). MailHolds k (nat_lt 0 n && told) f) (omega arith) holds

      taken : e.closing.state ≡ states.Open → (passed came (begun e now s.number)).fault ≡ None → (f : End) → f.messages.queues.incoming ≡ (passed came (begun e now s.number)).end.messages.queues.incoming → f.messages.to_tell ≡ (passed came (begun e now s.number)).end.messages.to_tell
          → Behind f (with_taken i s.number s.frames)
      taken state none f same_messages same_told =
          let b = frames_bring (begun e now s.number) came none in
          let count : messages_brought (news i (with_taken i s.number s.frames)) ≡ messages_brought (record { number = s.number; frames = s.frames } ∷ []) = ap messages_brought (one_new i s.number s.frames) in
          record {
            fewer = λ open_now. (let less = b.fewer in let brought = as_many in let was = h.fewer state in let kept : length f.messages.queues.incoming ≡ length (passed came (begun e now s.number)).end.messages.queues.incoming = ap length same_messages in omega arith);
            waits = λ some not. subst (λ (k : ℕ). 0 < k) (sym same_told) (go (nat_lt 0 n) refl b count some not);
          }
        where
          go : (c : Bool) → nat_lt 0 n ≡ c → Brings (begun e now s.number) came [] (passed came (begun e now s.number)).end → messages_brought (news i (with_taken i s.number s.frames)) ≡ messages_brought (record { number = s.number; frames = s.frames } ∷ [])
              → 0 < n + messages_brought (news i (with_taken i s.number s.frames)) → (c && told) ≡ false → 0 < (passed came (begun e now s.number)).end.messages.to_tell
          go true is b count some not = b.tells (h.waits (ltb-true 0 n is) not)
          go false is b count some not = (let none_before = ltb-false 0 n is in let was = h.fewer state in elim (b.first (omega arith)) [ inl nothing ↦ (let zero = nothing.0 in let brought = as_many in absurd (omega arith)) | inr due ↦ due ])

-- ---- the group

-- what waits at x to be received
abbrev pub mail_of : Party → Party → Mail
mail_of x y = folded (mail_told x.policy y.final) x.told no_mail

-- what came is what came
same_intake : (p : Policy) (given : List (List ℕ)) (told : List Told) (m : Mail) → (folded (mail_told p given) told m).intake ≡ folded (and_told p given) told m.intake
same_intake p given [] m = refl
same_intake p given (t ∷ told) m = same_intake p given told (mail_told p given t m)

pub record Mailed (x y : Party) : Type 0 where
  pub holds : MailHolds (mail_of x y).unread (mail_of x y).told x.end

module _ (B : Way) (packets : (x y : Party) → B x y → PacketsHold x y) (x y : Party) where
  -- what waits behind a call
  abbrev Next : Call → Answer → End → Intake → Type 0
  Next call a e j = MailHolds (unread_behind call a ((mail_of x y).unread + messages_brought (news (came_to x y) j))) (told_behind call a (mail_of x y).unread (mail_of x y).told) e

  mail_more : (call : Call) (a : Answer) → mail_of (called x y.given call a) y ≡ mail_behind (told_of call a x.end.closing.state) (record { intake = came_to x y; unread = (mail_of x y).unread; told = (mail_of x y).told }) (came_to (called x y.given call a) y)
  mail_more call a =
      let m : Mail = mail_of x y in
      let t : Told = told_of call a x.end.closing.state in
      folded_more (mail_told x.policy y.final) x.told t no_mail
      ∙ ap (λ (i : Intake). mail_told x.policy y.final t (record { intake = i; unread = m.unread; told = m.told })) (same_intake x.policy y.final x.told no_mail)
      ∙ ap (λ (j : Intake). mail_behind t (record { intake = came_to x y; unread = m.unread; told = m.told }) j) (sym (came_more x y call a))

  -- where nothing comes
  stays : (call : Call) (a : Answer) (e : End) → came_to (called x y.given call a) y ≡ came_to x y → MailHolds (unread_behind call a (mail_of x y).unread) (told_behind call a (mail_of x y).unread (mail_of x y).told) e → Next call a e (came_to (called x y.given call a) y)
  stays call a e same holds =
      let none : messages_brought (news (came_to x y) (came_to (called x y.given call a) y)) ≡ 0 = ap messages_brought (ap (λ (j : Intake). news (came_to x y) j) same ∙ none_new (came_to x y)) in
      subst (λ (k : ℕ). MailHolds (unread_behind call a k) (told_behind call a (mail_of x y).unread (mail_of x y).told) e) (omega arith) holds

  next_call : (call : Call) (a : Answer) → Calls B x y call a → Mailed x y → Next call a (called x y.given call a).end (came_to (called x y.given call a) y)
  next_call calls.Recv a c h = stays calls.Recv a (called x y.given calls.Recv a).end (came_same x y calls.Recv a refl)
      (subst (λ (b : Answer). MailHolds (unread_behind calls.Recv b (mail_of x y).unread) (told_behind calls.Recv b (mail_of x y).unread (mail_of x y).told) (after_call x.policy x.end y.given calls.Recv b)) (sym c.answer)
      (recv_holds x.policy x.end y.given (mail_of x y).unread (mail_of x y).told h.holds x.end.messages.queues.incoming refl))
  next_call calls.Event a c h = stays calls.Event a (called x y.given calls.Event a).end (came_same x y calls.Event a refl)
      (subst (λ (b : Answer). MailHolds (mail_of x y).unread (told_behind calls.Event b (mail_of x y).unread (mail_of x y).told) (after_call x.policy x.end y.given calls.Event b)) (sym c.answer)
      (event_holds x.policy x.end y.given (mail_of x y).unread (mail_of x y).told h.holds))
  next_call call a c h = by_coming x y a c.joined c.served (meets y x (packets y x c.takes)) (λ (e : End) (j : Intake). MailHolds ((mail_of x y).unread + messages_brought (news (came_to x y) j)) (nat_lt 0 (mail_of x y).unread && (mail_of x y).told) e) call c.answer (record {
    apart = λ apart. none_more x.end (came_to x y) (mail_of x y).unread (mail_of x y).told h.holds (after_call x.policy x.end y.given call a) (came_to x y) (none_new (came_to x y)) (other_holds x.policy x.end y.given (mail_of x y).unread (mail_of x y).told h.holds call a apart refl refl);
    none = λ delivery is. none_more x.end (came_to x y) (mail_of x y).unread (mail_of x y).told h.holds x.end (came_to x y) (none_new (came_to x y)) (same x.end (came_to x y) (mail_of x y).unread (mail_of x y).told h.holds);
    comes = λ delivery is s among here. mail_arrives x.end (came_to x y) (mail_of x y).unread (mail_of x y).told h.holds delivery.now s here ((packets y x c.takes).alone s among);
  })

  mailed_step : (call : Call) (a : Answer) → Calls B x y call a → Mailed x y → Mailed (called x y.given call a) y
  mailed_step call a c h = record { holds = subst (λ (m : Mail). MailHolds m.unread m.told (called x y.given call a).end) (sym (mail_more call a)) (next_call call a c h) }

pub mail_group : (B : Way) → ((x y : Party) → B x y → PacketsHold x y) → Group B Mailed
mail_group B packets = record {
  first = λ x y m there back. record { holds = record { fewer = λ open_now. omega arith; waits = λ some. absurd (omega arith) } };
  writer = λ x y call a c i back. mailed_step B packets x y call a c i;
  reader = λ x y call a c there i. record { holds = record { fewer = i.holds.fewer; waits = i.holds.waits } };
  shows = λ x y here there b back i j. record { holds = record { fewer = i.holds.fewer; waits = i.holds.waits } };
}

-- ---- the clause

abbrev All : Way
All = And (everything.All Ready ready) Mailed

all : Group Nothing All
all = both Nothing (everything.All Ready ready) Mailed (everything.all Ready ready) (mail_group (And Nothing (everything.All Ready ready)) (λ x y h. h.1.0.0))

-- where it is told nothing next, it isn't to be told that messages came
nothing_told : (e : End) → answers.Event None ≡ answers.Event (end_tells e) → e.messages.to_tell ≤ 0
nothing_told e is = go (tells_message e) (tells_done e) refl is
  where
    go : (b c : Bool) → nat_lt 0 e.messages.to_tell ≡ b → answers.Event None ≡ answers.Event (if b then Some events.Message else (if c then Some events.HandshakeConfirmed else tells_of (streams_told e).answer e.closing)) → e.messages.to_tell ≤ 0
    go true c some is = cc
    go false c none is = ltb-false 0 e.messages.to_tell none

pub messages_are_told : (r : Run) (end : World) → IsHonest r → IsRun r end → MessagesAreTold r
messages_are_told r end honest run side i served at some = told_so (mail r side i).told refl
  where
    p : Placed All r end side i
    p = placed All all r end honest run side i served

    x : Party
    x = party_at r i p.world side p.sents

    y : Party
    y = party_at r i p.world (other_side side) p.theirs

    same : mail r side i ≡ mail_of x y
    same = refl

    holds : MailHolds (mail r side i).unread (mail r side i).told x.end
    holds = subst (λ (m : Mail). MailHolds m.unread m.told x.end) (sym same) p.gives.1.holds

    told_so : (b : Bool) → (mail r side i).told ≡ b → (mail r side i).told ≡ true
    told_so true is = is
    told_so false is = (let none = nothing_told x.end (answered r p.world end i side calls.Event (answers.Event None) p.goes_on at) in let due = holds.waits some is in absurd (omega arith))
