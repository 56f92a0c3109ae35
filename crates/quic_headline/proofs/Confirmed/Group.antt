-- How the handshake is confirmed at both ends: a server's is where its application said so, and it is
-- told of nothing; a client's is where HANDSHAKE_DONE came, and that is to be told until it is.
use Rattle.std.proofs.Common.{◌≡◌, ℕ, inl, inr, Bool, true, false, not, ◌&&◌, ◌||◌, List, [], ◌∷◌, ◌++◌, Option, Some, None, refl, sym, ap, ◌∙◌, subst}
use Rattle.std.specs.Prelude.{option_map, if◌then◌else◌}
use Rattle.std.specs.Option.{option_to_list}
use Rattle.std.proofs.Math.Bool.{or-false}
use Rattle.std.proofs.lemmas.Bool.{and_parts}
use Rattle.std.proofs.lemmas.List.Folds.{list_any-append}
use Rattle.quic_wire_core.specs.declared.stream_id.Side.{Side}
use Rattle.quic_wire_core.specs.declared.stream_id.Side.TheVariants.{Client, Server}
use Rattle.quic_wire.specs.Value.{FrameValue, handshake_done, padding}
use Rattle.quic_streams_parts.specs.declared.answers.StreamEvent.{StreamEvent}
use Rattle.quic_machine.specs.declared.answers.Event.TheVariants as events
use Rattle.quic_machine.specs.declared.answers.LostReason.{LostReason}
use Rattle.quic_machine.specs.declared.answers.State.TheVariants as states
use Rattle.quic_machine.specs.declared.run.Call.{Call}
use Rattle.quic_machine.specs.declared.run.Call.TheVariants as calls
use Rattle.quic_machine.specs.declared.run.Answer.{Answer}
use Rattle.quic_machine.specs.declared.run.Answer.TheVariants as answers
use Rattle.quic_machine.specs.Closing.{Closing, loss_to_tell}
use Rattle.quic_machine.specs.Parts.{Confirmation, heard_done, done_told}
use Rattle.quic_machine.specs.End.{End, side_of}
use Rattle.quic_machine.specs.Calls.{is_open, tells_message, tells_done, tells_of, streams_told, end_tells, message_told, confirmation_told, others_told, end_after_event}
use Rattle.quic_machine.specs.Handshake.{done_judged, done_answer, end_on_done}
use Rattle.quic_machine.specs.Receive.{Outcome}
use Rattle.quic_machine.specs.FrameCases.{begun, passed}
use Rattle.quic_machine.specs.CallCases.{asks_event, is_done_call}
use Rattle.quic_machine.specs.Machine.{after_call}
use Rattle.quic_headline.specs.Runs.{Told, Packet, Intake, In, says_done, was_said_done, DoneHasArrived}
use Rattle.quic_headline.specs.Observer.{Sent}
use Rattle.quic_headline.specs.Confirmed.{tells_confirmed, was_confirmed}
use Rattle.quic_headline.proofs.Packets.Delivered.{Arrivals, frames_at, with_taken, with_refused}
use Rattle.quic_headline.proofs.Packets.Group.{PacketsHold, meets}
use Rattle.quic_headline.proofs.Packets.Owing.{AreCloses, IsAlone}
use Rattle.quic_headline.proofs.Packets.Sight.{Sight}
use Rattle.quic_headline.proofs.Packets.Strays.{in_at, of_at, closed_at}
use Rattle.quic_headline.proofs.Places.Parties.{told_of, Party, called, came_to}
use Rattle.quic_headline.proofs.Places.Groups.{Way, Calls, Group}
use Rattle.quic_headline.proofs.Places.Coming.{came_same, by_coming}
use Rattle.quic_headline.proofs.Channel.Openers.{Openers}
use Rattle.quic_headline.proofs.Confirmed.Kept.{call_leaves, moved_leaves, packet_leaves, stays_confirmed, taken_confirms, confirmed_by}

-- ---- what is said and told

-- where its application said so or didn't, and was told so or wasn't: a server's confirmation is what
-- was said, and isn't told; a client's is to be told where it wasn't
abbrev pub Stands : Side → Bool → Bool → Confirmation → Type 0
Stands Client said told c = (c.to_tell ≡ (c.confirmed && not told)) × (told ≡ true → c.confirmed ≡ true)
Stands Server said told c = (c.to_tell ≡ false) × (c.confirmed ≡ said)

-- HANDSHAKE_DONE comes to a client
still_waits : (waits was told : Bool) → waits ≡ (was && not told) → (told ≡ true → was ≡ true) → (waits || not was) ≡ not told
still_waits waits true told is heard = or-false waits ∙ is
still_waits waits false false is heard = ap (λ (b : Bool). b || true) is
still_waits waits false true is heard = (let clash : false ≡ true = heard refl in cc)

heard_stands : (side : Side) (said told : Bool) → side ≡ Client → (c : Confirmation) → Stands side said told c → Stands side said told (heard_done c)
heard_stands Client said told client c s = (still_waits c.to_tell c.confirmed told s.0 s.1, λ so. refl)
heard_stands Server said told client c s = cc

-- it is told
none_waits : (b : Bool) → false ≡ (b && false)
none_waits true = refl
none_waits false = refl

told_stands : (side : Side) (said told : Bool) (c : Confirmation) → c.to_tell ≡ true → Stands side said told c → Stands side said (told || true) (done_told c)
told_stands Client said told c so s = (subst (λ (b : Bool). false ≡ (c.confirmed && not b)) (sym (or_true told)) (none_waits c.confirmed), λ again. (and_parts c.confirmed (not told) (sym s.0 ∙ so)).0)
  where
    or_true : (b : Bool) → (b || true) ≡ true
    or_true true = refl
    or_true false = refl
told_stands Server said told c so s = (let clash : false ≡ true = sym s.0 ∙ so in cc)

-- what is told of streams, or that the end is lost, isn't that
pub others_tell : (o : Option StreamEvent) (c : Closing) → tells_confirmed calls.Event (answers.Event (tells_of o c)) ≡ false
others_tell (Some event) c = refl
others_tell None c = go (loss_to_tell c)
  where
    go : (o : Option LostReason) → tells_confirmed calls.Event (answers.Event (option_map events.Lost o)) ≡ false
    go None = refl
    go (Some reason) = refl

-- ---- what came

-- the packets that were taken, and the one that was refused
abbrev pub all_of : Intake → List Packet
all_of j = option_to_list j.part ++ j.took

-- Where a client's handshake is confirmed, HANDSHAKE_DONE came; and where that was taken, it is.
pub record Facts (side : Side) (said told : Bool) (j : Intake) (c : Confirmation) : Type 0 where
  pub stands : Stands side said told c
  pub came : side ≡ Client → c.confirmed ≡ true → DoneHasArrived (all_of j)
  pub taken : DoneHasArrived j.took → c.confirmed ≡ true

-- where another fact is the same
facts_as : (side : Side) (said told s t : Bool) (j : Intake) (c : Confirmation) → said ≡ s → told ≡ t → Facts side said told j c → Facts side s t j c
facts_as side said told s t j c same alike f = subst (λ (b : Bool). Facts side b t j c) same (subst (λ (b : Bool). Facts side said b j c) alike f)

-- a packet more
more_came : (o : Option Packet) (ps : List Packet) (p : Packet) → DoneHasArrived (option_to_list o ++ ps) → DoneHasArrived (option_to_list o ++ p ∷ ps)
more_came None ps p d = record { packet = d.packet; was_taken = inr d.was_taken; carried = d.carried }
more_came (Some q) ps p d = elim d.was_taken [
  | inl first ↦ record { packet = d.packet; was_taken = inl first; carried = d.carried }
  | inr later ↦ record { packet = d.packet; was_taken = inr (inr later); carried = d.carried }
]

new_came : (o : Option Packet) (ps : List Packet) (p : Packet) → In handshake_done p.frames → DoneHasArrived (option_to_list o ++ p ∷ ps)
new_came None ps p among = record { packet = p; was_taken = inl refl; carried = among }
new_came (Some q) ps p among = record { packet = p; was_taken = inr (inl refl); carried = among }

-- HANDSHAKE_DONE is none of path validation, no PADDING and no close
done_of : (here : Bool) (fs : List FrameValue) → In handshake_done (frames_at here fs) → In handshake_done fs
done_of here fs among = elim (of_at here fs handshake_done among) [ inl there ↦ there | inr pads ↦ (let clash : handshake_done ≡ padding = pads in cc) ]

done_at : (here : Bool) (fs : List FrameValue) → In handshake_done fs → In handshake_done (frames_at here fs)
done_at here fs among = elim (in_at here fs handshake_done among) [ inl there ↦ there | inr path ↦ absurd path ]

not_closing : (fs : List FrameValue) → AreCloses fs → In handshake_done fs → ⊥
not_closing fs all among = elim (all handshake_done among) [ inl close ↦ absurd close | inr pads ↦ (let clash : handshake_done ≡ padding = pads in cc) ]

module _ (side : Side) (said told : Bool) (i : Intake) (e : End) (of_side : side_of e ≡ side) (still : e.closing.state ≡ states.Open → i.part ≡ None) (f : Facts side said told i e.confirmation) (now : ℕ) (s : Sent) (here : Bool) (alone : IsAlone s.frames) where
  abbrev taken_now : List FrameValue
  taken_now = frames_at here s.frames

  abbrev packet : Packet
  packet = record { number = s.number; frames = s.frames }

  abbrev behind : Confirmation
  behind = (passed taken_now (begun e now s.number)).end.confirmation

  -- behind its frames, taken or refused
  stands_behind : Stands side said told behind
  stands_behind = packet_leaves (Stands side said told) side (heard_stands side said told) taken_now (begun e now s.number) of_side f.stands

  stays_behind : e.confirmation.confirmed ≡ true → behind.confirmed ≡ true
  stays_behind set = stays_confirmed taken_now (begun e now s.number) set

  came_behind : (packets : List Packet) → (DoneHasArrived (all_of i) → DoneHasArrived packets) → (In handshake_done s.frames → DoneHasArrived packets) → side ≡ Client → behind.confirmed ≡ true → DoneHasArrived packets
  came_behind packets wider new client set = elim (confirmed_by taken_now (begun e now s.number) set) [
    | inl was ↦ wider (f.came client was)
    | inr among ↦ new (done_of here s.frames among)
  ]

  -- where the packet is taken, so far as its peer closes if it does
  facts_taken : (In handshake_done s.frames → behind.confirmed ≡ true) → Facts side said told (with_taken i s.number s.frames) behind
  facts_taken confirms = record {
    stands = stands_behind;
    came = came_behind (all_of (with_taken i s.number s.frames)) (more_came i.part i.took packet) (new_came i.part i.took packet);
    taken = λ d. elim d.was_taken [
      | inl first ↦ confirms (subst (λ (p : Packet). In handshake_done p.frames) first d.carried)
      | inr later ↦ stays_behind (f.taken (record { packet = d.packet; was_taken = later; carried = d.carried }))
    ];
  }

  -- and where it is refused
  facts_refused : e.closing.state ≡ states.Open → Facts side said told (with_refused i s.number s.frames) behind
  facts_refused opened = record {
    stands = stands_behind;
    came = came_behind (all_of (with_refused i s.number s.frames)) (λ d. (let was : DoneHasArrived i.took = subst (λ (o : Option Packet). DoneHasArrived (option_to_list o ++ i.took)) (still opened) d in record { packet = was.packet; was_taken = inr was.was_taken; carried = was.carried })) (λ among. record { packet = packet; was_taken = inl refl; carried = among });
    taken = λ d. stays_behind (f.taken d);
  }

  arrives : Arrivals e now s.number s.frames taken_now i (λ (o : Outcome) (j : Intake). Facts side said told j o.end.confirmation)
  arrives = record {
    ignored = λ reason. f;
    noted = λ state reason. f;
    takes = λ words state new none urged mark. facts_taken (λ among. taken_confirms taken_now (begun e now s.number) none (done_at here s.frames among));
    moves = λ p o same remote x opened k. moved_leaves (Facts side said told (with_taken i s.number s.frames)) p o remote x k;
    drains = λ words state new close is. facts_taken (λ among. absurd (not_closing s.frames (closed_at here s.frames (begun e now s.number) close alone is) among));
    refuses = λ words state new g fault. facts_refused state;
    exhausts = λ state. f;
  }

-- ---- the group

pub record Confirms (x y : Party) : Type 0 where
  pub facts : Facts x.side (was_said_done x.told) (was_confirmed x.told) (came_to x y) x.end.confirmation

-- What it rests on.
pub record IsConfirming (B : Way) : Type 1 where
  pub packets : (x y : Party) → B x y → PacketsHold x y
  pub sight : (x y : Party) → B x y → Sight x y
  pub openers : (x y : Party) → B x y → Openers x y

-- what is said and told by one call more
said_more : (told : List Told) (t : Told) → (was_said_done told || says_done t.call t.answer) ≡ was_said_done (told ++ t ∷ [])
said_more told t = ap (λ (b : Bool). was_said_done told || b) (sym (or-false (says_done t.call t.answer))) ∙ sym (list_any-append (λ (u : Told). says_done u.call u.answer) told (t ∷ []))

told_more : (told : List Told) (t : Told) → (was_confirmed told || tells_confirmed t.call t.answer) ≡ was_confirmed (told ++ t ∷ [])
told_more told t = ap (λ (b : Bool). was_confirmed told || b) (sym (or-false (tells_confirmed t.call t.answer))) ∙ sym (list_any-append (λ (u : Told). tells_confirmed u.call u.answer) told (t ∷ []))

-- nothing is said or told
unsaid : (call : Call) (a : Answer) → is_done_call call ≡ false → says_done call a ≡ false
unsaid calls.HandshakeDone a other = cc
unsaid call a other = refl

untold : (call : Call) (a : Answer) → asks_event call ≡ false → tells_confirmed call a ≡ false
untold calls.Event a quiet = cc
untold call a quiet = refl

module _ (side : Side) (said told : Bool) (j : Intake) (e : End) (f : Facts side said told j e.confirmation) where
  -- it is told what is next
  event_facts : Facts side said (told || tells_confirmed calls.Event (answers.Event (end_tells e))) j (end_after_event e).confirmation
  event_facts = go (tells_message e) (tells_done e) refl
    where
      same : (b : Bool) → b ≡ false → Facts side said (told || b) j e.confirmation
      same b none = facts_as side said told said (told || b) j e.confirmation refl (sym (or-false told) ∙ ap (λ (c : Bool). told || c) (sym none)) f

      go : (b c : Bool) → e.confirmation.to_tell ≡ c
          → Facts side said (told || tells_confirmed calls.Event (answers.Event (if b then Some events.Message else (if c then Some events.HandshakeConfirmed else tells_of (streams_told e).answer e.closing)))) j (if b then message_told e else (if c then confirmation_told e else others_told e)).confirmation
      go true c is = same false refl
      go false true is = record { stands = told_stands side said told e.confirmation is f.stands; came = f.came; taken = f.taken }
      go false false is = same (tells_confirmed calls.Event (answers.Event (tells_of (streams_told e).answer e.closing))) (others_tell (streams_told e).answer e.closing)

  -- it is said that the handshake is done, or can't be
  done_facts : side_of e ≡ side → Facts side (said || says_done calls.HandshakeDone (answers.HandshakeDone (done_answer e))) told j (end_on_done e (answers.HandshakeDone (done_answer e))).confirmation
  done_facts of_side = subst (λ (s : Side). Facts side (said || says_done calls.HandshakeDone (answers.HandshakeDone (done_judged s e.confirmation.confirmed (is_open e.closing.state)))) told j (end_on_done e (answers.HandshakeDone (done_judged s e.confirmation.confirmed (is_open e.closing.state)))).confirmation) (sym of_side)
      (go side e.confirmation.confirmed (is_open e.closing.state) f)
    where
      same : (s : Side) → Facts s said told j e.confirmation → Facts s (said || false) told j e.confirmation
      same s g = facts_as s said told (said || false) told j e.confirmation (sym (or-false said)) refl g

      or_true : (b : Bool) → true ≡ (b || true)
      or_true true = refl
      or_true false = refl

      go : (s : Side) (was opened : Bool) → Facts s said told j e.confirmation → Facts s (said || says_done calls.HandshakeDone (answers.HandshakeDone (done_judged s was opened))) told j (end_on_done e (answers.HandshakeDone (done_judged s was opened))).confirmation
      go Client was opened g = same Client g
      go Server true opened g = same Server g
      go Server false false g = same Server g
      go Server false true g = record { stands = (refl, or_true said); came = λ client. cc; taken = λ d. refl }

module _ (B : Way) (b : IsConfirming B) (x y : Party) where
  -- what is known behind a call
  abbrev Next : Call → Answer → Type 0
  Next call a = Facts x.side (was_said_done x.told || says_done call a) (was_confirmed x.told || tells_confirmed call a) (came_to (called x y.given call a) y) (called x y.given call a).end.confirmation

  next_call : (call : Call) (a : Answer) → Calls B x y call a → Confirms x y → Next call a
  next_call calls.Event a c h =
      subst (λ (d : Answer). Facts x.side (was_said_done x.told || says_done calls.Event d) (was_confirmed x.told || tells_confirmed calls.Event d) (came_to (called x y.given calls.Event a) y) (after_call x.policy x.end y.given calls.Event d).confirmation) (sym c.answer)
      (subst (λ (i : Intake). Facts x.side (was_said_done x.told || false) (was_confirmed x.told || tells_confirmed calls.Event (answers.Event (end_tells x.end))) i (end_after_event x.end).confirmation) (sym (came_same x y calls.Event a refl))
      (facts_as x.side (was_said_done x.told) _ (was_said_done x.told || false) _ (came_to x y) (end_after_event x.end).confirmation (sym (or-false (was_said_done x.told))) refl
      (event_facts x.side (was_said_done x.told) (was_confirmed x.told) (came_to x y) x.end h.facts)))
  next_call calls.HandshakeDone a c h =
      subst (λ (d : Answer). Facts x.side (was_said_done x.told || says_done calls.HandshakeDone d) (was_confirmed x.told || tells_confirmed calls.HandshakeDone d) (came_to (called x y.given calls.HandshakeDone a) y) (after_call x.policy x.end y.given calls.HandshakeDone d).confirmation) (sym c.answer)
      (subst (λ (i : Intake). Facts x.side (was_said_done x.told || says_done calls.HandshakeDone (answers.HandshakeDone (done_answer x.end))) (was_confirmed x.told || false) i (end_on_done x.end (answers.HandshakeDone (done_answer x.end))).confirmation) (sym (came_same x y calls.HandshakeDone a refl))
      (facts_as x.side _ (was_confirmed x.told) _ (was_confirmed x.told || false) (came_to x y) (end_on_done x.end (answers.HandshakeDone (done_answer x.end))).confirmation refl (sym (or-false (was_confirmed x.told)))
      (done_facts x.side (was_said_done x.told) (was_confirmed x.told) (came_to x y) x.end h.facts (b.sight x y c.gives).side)))
  next_call call a c h = facts_as x.side (was_said_done x.told) (was_confirmed x.told) _ _ (came_to (called x y.given call a) y) (called x y.given call a).end.confirmation
      (sym (or-false (was_said_done x.told)) ∙ ap (λ (t : Bool). was_said_done x.told || t) (sym (unsaid call a refl)))
      (sym (or-false (was_confirmed x.told)) ∙ ap (λ (t : Bool). was_confirmed x.told || t) (sym (untold call a refl)))
      (by_coming x y a c.joined c.served (meets y x (b.packets y x c.takes)) (λ (e : End) (i : Intake). Facts x.side (was_said_done x.told) (was_confirmed x.told) i e.confirmation) call c.answer (record {
        apart = λ apart. call_leaves (Facts x.side (was_said_done x.told) (was_confirmed x.told) (came_to x y)) x.policy x.end y.given call a apart refl refl h.facts;
        none = λ delivery is. h.facts;
        comes = λ delivery is s among here. arrives x.side (was_said_done x.told) (was_confirmed x.told) (came_to x y) x.end (b.sight x y c.gives).side (b.openers x y c.gives).still h.facts delivery.now s here ((b.packets y x c.takes).alone s among);
      }))

  confirms_step : (call : Call) (a : Answer) → Calls B x y call a → Confirms x y → Confirms (called x y.given call a) y
  confirms_step call a c h = record {
    facts = facts_as x.side _ _ _ _ (came_to (called x y.given call a) y) (called x y.given call a).end.confirmation
        (said_more x.told (told_of call a x.end.closing.state)) (told_more x.told (told_of call a x.end.closing.state)) (next_call call a c h);
  }

-- before the first call
first_stands : (side : Side) → Stands side false false (record { confirmed = false; to_tell = false })
first_stands Client = (refl, λ is. is)
first_stands Server = (refl, refl)

pub confirms_group : (B : Way) → IsConfirming B → Group B Confirms
confirms_group B b = record {
  first = λ x y m there back. record { facts = record { stands = first_stands x.side; came = λ client set. cc; taken = λ d. absurd d.was_taken } };
  writer = λ x y call a c i back. confirms_step B b x y call a c i;
  reader = λ x y call a c there i. record { facts = i.facts };
  shows = λ x y here there c back i j. record { facts = i.facts };
}
