-- What closes say: why their end isn't open; and that the peer is told of no other.
use Rattle.std.proofs.Common.{◌≡◌, ℕ, zero, suc, ◌+◌, Bool, true, false, List, [], ◌∷◌, ◌++◌, map, replicate, take, drop, length, Option, Some, None, Ok, refl, sym, ap, ◌∙◌, subst, inl, inr, arith}
use Rattle.std.specs.Prelude.{slice_get, if◌then◌else◌, option_map}
use Rattle.std.proofs.lemmas.List.{append_assoc, append-nil}
use Rattle.quic_wire_core.specs.declared.stream_id.Side.{Side}
use Rattle.quic_wire_core.specs.declared.stream_id.Side.TheVariants.{Client, Server}
use Rattle.quic_wire_core.specs.StreamId.{other_side}
use Rattle.quic_wire.specs.Value.{FrameValue, connection_close, application_close, padding}
use Rattle.quic_wire.specs.Close.{CloseValue}
use Rattle.quic_machine.specs.declared.answers.State.{State}
use Rattle.quic_machine.specs.declared.answers.State.TheVariants as states
use Rattle.quic_machine.specs.declared.answers.LostReason.{LostReason}
use Rattle.quic_machine.specs.declared.answers.LostReason.TheVariants as reasons
use Rattle.quic_machine.specs.declared.run.RunEvent.{RunEvent}
use Rattle.quic_machine.specs.declared.run.Call.{Call}
use Rattle.quic_machine.specs.declared.run.Call.TheVariants as calls
use Rattle.quic_machine.specs.declared.run.Delivery.{Delivery}
use Rattle.quic_machine.specs.declared.run.Answer.{Answer}
use Rattle.quic_machine.specs.declared.run.Answer.TheVariants as answers
use Rattle.quic_machine.specs.declared.run.EndView.{EndView}
use Rattle.quic_machine.specs.declared.run.View.{View}
use Rattle.quic_machine.specs.Policy.{Policy}
use Rattle.quic_machine.specs.Reasons.{error_close}
use Rattle.quic_machine.specs.Closing.{Closing, ticked}
use Rattle.quic_machine.specs.End.{End, with_closing, closed_by}
use Rattle.quic_machine.specs.Migration.{is_there}
use Rattle.quic_machine.specs.Receive.{Fault, broke, too_many_pieces, closed_by_peer, reason_of, take_frame, unless_fault, take_items}
use Rattle.quic_machine.specs.Poll.{Polled, zeros_behind, close_room, longest_fitting, fitted, draft_as, may_close, close_to_go, polled}
use Rattle.quic_machine.specs.Poll as poll
use Rattle.quic_machine.specs.PollCases.{ready_at, draft_at, frames_at, frames_padded}
use Rattle.quic_machine.specs.FrameCases.{begun, passed}
use Rattle.quic_machine.specs.RunLaws.{as_many_views}
use Rattle.quic_machine.specs.Machine.{World, Policies, IsAnswer, Follows, end_at, after_call, fails, gave}
use Rattle.quic_headline.specs.Runs.{Run, Told, In, AreServed, same_side, given_of, until, folded}
use Rattle.quic_headline.specs.Observer.{Sent, Watch, is_close, sents_until, watch_told, watch_from, lens_of}
use Rattle.quic_headline.specs.Headline.{IsHonest, IsRun, IsPrefixOf}
use Rattle.quic_headline.specs.Polls.{seen_at}
use Rattle.quic_headline.specs.Causes.{Shows}
use Rattle.quic_headline.specs.Reasons.{Explains}
use Rattle.quic_headline.specs.Closes.{SaidSo, IsCode, SaysSo, SaysWhy, ClosesSayWhy, IsToldAs, PeerClosesCome}
use Rattle.quic_headline.proofs.Packets.Closeless.{sent_closeless}
use Rattle.quic_headline.proofs.Packets.Delivered.{arrived}
use Rattle.quic_headline.proofs.Packets.Strays.{of_at}
use Rattle.quic_headline.proofs.Packets.Group.{PacketsHold, meets}
use Rattle.quic_headline.proofs.Packets.Owing.{closing_frame, no_close_among}
use Rattle.quic_headline.proofs.Packets.Sends.{GivesClose, by_sends}
use Rattle.quic_headline.proofs.Packets.Sight.{Sight}
use Rattle.quic_machine.specs.DraftLaws.{IsClose}
use Rattle.quic_headline.proofs.Places.Coming.{Meets}
use Rattle.quic_headline.proofs.Places.Everything as everything
use Rattle.quic_headline.proofs.Places.Flights.{own_at}
use Rattle.quic_headline.proofs.Places.Groups.{Way, Nothing, And, Group, both}
use Rattle.quic_headline.proofs.Places.Moments.{last_seen}
use Rattle.quic_headline.proofs.Places.Parties.{told_of, sent_as, sent_by, sent_if, sents_by, Party, called, AreJoined}
use Rattle.quic_headline.proofs.Places.Placed.{party_at, Placed, placed, placed_less, watch_is}
use Rattle.quic_headline.proofs.Places.Steps.{poll_answer}
use Rattle.quic_headline.proofs.Places.Theorems.{ready}
use Rattle.quic_headline.proofs.Places.Told.{in_left, in_right, in_append}
use Rattle.quic_headline.proofs.Halves.Ready.{Ready}
use Rattle.quic_headline.proofs.Rest.Between.{step_leaves}
use Rattle.quic_headline.proofs.Steps.Made.{served_before, told_next, one_behind, MadeAt, made_at}
use Rattle.quic_headline.proofs.Causes.Judged.{taken_of, Judged, nothing, exhausted, drained, taken, refused, judged}
use Rattle.quic_headline.proofs.Causes.Reasons.{call_keeps}
use Rattle.quic_headline.proofs.Causes.Shown.{reason_shown, IsUnread, call_closes}
use Rattle.quic_headline.proofs.Causes.Turns.{Turns, kept, asked, went, shut, ended, lapsed, error_says, bound_error, turns}

-- ---- what stays said

-- what the application said, it said behind more calls too, and among more
said_left : (told more : List Told) (code : ℕ) (text : List ℕ) → SaidSo told code text → SaidSo (told ++ more) code text
said_left told more code text s = record { call = s.call; among = in_left s.call told more s.among; was_open = s.was_open; close = s.close; called = s.called; same = s.same; begins = s.begins }

said_right : (told more : List Told) (code : ℕ) (text : List ℕ) → SaidSo more code text → SaidSo (told ++ more) code text
said_right told more code text s = record { call = s.call; among = in_right s.call told more s.among; was_open = s.was_open; close = s.close; called = s.called; same = s.same; begins = s.begins }

-- so a close says why among more calls
module _ (told more : List Told) (stays : (code : ℕ) (text : List ℕ) → SaidSo told code text → SaidSo more code text) where
  so_more : (f : FrameValue) → SaysSo told f → SaysSo more f
  so_more (application_close c) says = stays c.code c.reason says
  so_more f says = absurd says

  says_more : (reason : Option LostReason) (f : FrameValue) → SaysWhy reason told f → SaysWhy reason more f
  says_more (Some reasons.Application) f says = so_more f says
  says_more (Some reasons.KeyLimit) f says = says
  says_more (Some reasons.NumberLimit) f says = says
  says_more (Some reasons.Pieces) f says = says
  says_more (Some (reasons.Transport error)) f says = says
  says_more reason f says = absurd says

says_left : (told more : List Told) (reason : Option LostReason) (f : FrameValue) → SaysWhy reason told f → SaysWhy reason (told ++ more) f
says_left told more = says_more told (told ++ more) (said_left told more)

says_right : (told more : List Told) (reason : Option LostReason) (f : FrameValue) → SaysWhy reason more f → SaysWhy reason (told ++ more) f
says_right told more = says_more more (told ++ more) (said_right told more)

-- and with less of its text
take_begins : (n : ℕ) (text all : List ℕ) → IsPrefixOf text all → IsPrefixOf (take n text) all
take_begins n text all begins = (drop n text ++ begins.0, sym (append_assoc (take n text) (drop n text) begins.0) ∙ ap (λ (bs : List ℕ). bs ++ begins.0) (take_drop n text) ∙ begins.1)
  where
    take_drop : (m : ℕ) (xs : List ℕ) → take m xs ++ drop m xs ≡ xs
    take_drop zero xs = refl
    take_drop (suc m) [] = refl
    take_drop (suc m) (x ∷ xs) = ap (λ (ys : List ℕ). x ∷ ys) (take_drop m xs)

so_fitted : (room : ℕ) (told : List Told) (f : FrameValue) → SaysSo told f → SaysSo told (fitted room f)
so_fitted room told (application_close c) s = record {
  call = s.call;
  among = s.among;
  was_open = s.was_open;
  close = s.close;
  called = s.called;
  same = s.same;
  begins = take_begins (longest_fitting room c.code c.reason (length c.reason)) c.reason s.close.reason s.begins;
}
so_fitted room told f s = absurd s

code_fitted : (room code : ℕ) (f : FrameValue) → IsCode code f → IsCode code (fitted room f)
code_fitted room code (connection_close c) is = is
code_fitted room code f is = absurd is

says_fitted : (room : ℕ) (reason : Option LostReason) (told : List Told) (f : FrameValue) → SaysWhy reason told f → SaysWhy reason told (fitted room f)
says_fitted room (Some reasons.Application) told f says = so_fitted room told f says
says_fitted room (Some reasons.KeyLimit) told f says = code_fitted room 15 f says
says_fitted room (Some reasons.NumberLimit) told f says = code_fitted room 1 f says
says_fitted room (Some reasons.Pieces) told f says = code_fitted room 1 f says
says_fitted room (Some (reasons.Transport error)) told f says = code_fitted room error.code f says
says_fitted room reason told f says = absurd says

-- ---- what an end says

-- the close that it has says why it isn't open
abbrev HasSaid : Closing → List Told → Type 0
HasSaid c told = (f : FrameValue) → c.close ≡ Some f → SaysWhy c.reason told f

-- an open end has no reason not to be
open_none : (s : State) (o : Option LostReason) → Explains s o → s ≡ states.Open → o ≡ None
open_none states.Open None explained is = refl
open_none states.Open (Some reason) explained is = absurd explained
open_none states.Closing o explained is = cc
open_none states.Drained o explained is = cc
open_none states.Failed o explained is = cc

module _ (b : Closing) (call : Call) (a : Answer) (c : Closing) (told : List Told) (explained : Explains b.state b.reason) where
  abbrev later : List Told
  later = told ++ told_of call a b.state ∷ []

  -- a close that said so says so still, for the same reason
  still_says : (f : FrameValue) → c.reason ≡ b.reason → SaysWhy b.reason told f → SaysWhy c.reason later f
  still_says f same says = subst (λ (o : Option LostReason). SaysWhy o later f) (sym same) (says_left told (told_of call a b.state ∷ []) b.reason f says)

  -- none did of an end that was open
  none_says : (f : FrameValue) → b.state ≡ states.Open → SaysWhy b.reason told f → ⊥
  none_says f here says = subst (λ (o : Option LostReason). SaysWhy o told f) (open_none b.state b.reason explained here) says

  -- so it is of closes that went
  reason_says : Turns b call a c → (f : FrameValue) → SaysWhy b.reason told f → SaysWhy c.reason later f
  reason_says (kept same owed still) f says = still_says f same.reason says
  reason_says (asked here same owed none asks) f says = still_says f same.reason says
  reason_says (went here same owed one) f says = still_says f same.reason says
  reason_says (shut here state reason for g close why owed) f says = absurd (none_says f here says)
  reason_says (ended here state reason close) f says = still_says f reason says
  reason_says (lapsed here state close) f says = absurd (none_says f here says)

  -- and of the close that it has
  close_says : Turns b call a c → HasSaid b told → HasSaid c later
  close_says (kept same owed still) says f is = still_says f same.reason (says f (sym same.close ∙ is))
  close_says (asked here same owed none asks) says f is = still_says f same.reason (says f (sym same.close ∙ is))
  close_says (went here same owed one) says f is = still_says f same.reason (says f (sym same.close ∙ is))
  close_says (shut here state reason for g close why owed) says f is =
      let same : Some g ≡ Some f = sym close ∙ is in
      let one : g ≡ f = cc in
      subst (λ (o : Option LostReason). SaysWhy o later f) (sym for) (says_right told (told_of call a b.state ∷ []) (Some reason) f (subst (λ (h : FrameValue). SaysWhy (Some reason) (told_of call a b.state ∷ []) h) one why))
  close_says (ended here state reason close) says f is = let clash : ◌≡◌ {A = Option FrameValue} None (Some f) = sym close ∙ is in cc
  close_says (lapsed here state close) says f is = absurd (none_says f here (says f (sym close ∙ is)))

-- ---- what goes of an end

-- each close among frames says why
abbrev AllSay : Option LostReason → List Told → List Sent → Type 0
AllSay reason told sents = (s : Sent) → In s sents → (f : FrameValue) → In f s.frames → is_close f ≡ true → SaysWhy reason told f

-- PADDING is no close
padding_closes_not : (count : ℕ) (f : FrameValue) → In f (replicate count padding) → is_close f ≡ true → ⊥
padding_closes_not zero f i is = i
padding_closes_not (suc count) f (inl same) is = let clash : false ≡ true = sym (ap is_close same) ∙ is in cc
padding_closes_not (suc count) f (inr more) is = padding_closes_not count f more is

-- what is a close by a test is one
close_by : (f : FrameValue) → is_close f ≡ true → IsClose f
close_by (connection_close c) is = tt
close_by (application_close c) is = tt
close_by f is = cc

-- what goes of the close that an end owes says so
to_go_says : (p : Policy) (x : End) (told : List Told) → HasSaid x.closing told → (f : FrameValue) → close_to_go p x ≡ Some f → SaysWhy x.closing.reason told f
to_go_says p x told says f is = go (may_close p x) x.closing.owed x.closing.close refl is
  where
    go : (may owed : Bool) (o : Option FrameValue) → x.closing.close ≡ o → (if may then option_map (fitted (close_room x)) (if owed then o else None) else None) ≡ Some f → SaysWhy x.closing.reason told f
    go true true (Some g) there said = (let same : fitted (close_room x) g ≡ f = cc in subst (SaysWhy x.closing.reason told) same (says_fitted (close_room x) x.closing.reason told g (says g there)))
    go true true None there said = cc
    go true false o there said = cc
    go false owed o there said = cc

-- at a poll
polled_says : (p : Policy) (e : End) (now : ℕ) (told : List Told) → HasSaid e.closing told → AllSay (polled p e now).end.closing.reason told (sent_if (gave (answers.Poll (polled p e now).answer)) (sent_by p e now))
polled_says p e now told says = by_sends p e now Of (record {
  silent = λ s i. absurd i;
  failed = λ s i. absurd i;
  nothing = λ is none s i. absurd i;
  repeats = λ is. closing (with_closing e (ticked e.closing now)) says;
  closes = λ reason is bound. closing (closed_by reason (ready_at e now).end) (λ f close. (let same : error_close reason ≡ f = cc in subst (SaysWhy (Some reason) told) same (error_says reason told (bound_error p e reason bound))));
  gives = λ is bound some s i f j closes. absurd (none_goes s i f j closes);
})
  where
    Of : Polled → List Sent → Type 0
    Of q sents = AllSay q.end.closing.reason told sents

    -- what an open end composes has no close
    none_goes : (s : Sent) → In s (sent_as e now (draft_at e now) ∷ []) → (f : FrameValue) → In f s.frames → is_close f ≡ true → ⊥
    none_goes s (inl same) f j is = no_close_among (frames_at e now) (sent_closeless e now) f (subst (λ (u : Sent). In f u.frames) same j) (close_by f is)
    none_goes s (inr none) f j is = none

    -- of one that closes its close goes, with PADDING
    among : (x : End) (g f : FrameValue) → SaysWhy x.closing.reason told g → In f (frames_padded (draft_as (poll.closing g) x)) → is_close f ≡ true → SaysWhy x.closing.reason told f
    among x g f why (inl same) is = subst (SaysWhy x.closing.reason told) (sym same) why
    among x g f why (inr more) is = absurd (padding_closes_not (zeros_behind (draft_as (poll.closing g) x)) f more is)

    one : (x : End) (g : FrameValue) → SaysWhy x.closing.reason told g → AllSay x.closing.reason told (sent_as e now (draft_as (poll.closing g) x) ∷ [])
    one x g why s (inl same) f j is = among x g f why (subst (λ (u : Sent). In f u.frames) same j) is
    one x g why s (inr none) f j is = absurd none

    closing : (x : End) → HasSaid x.closing told → GivesClose p e now Of x
    closing x due = ((λ s i. absurd i), (λ g goes. one x g (to_go_says p x told due g goes)))

-- at any call
call_says : (p : Policy) (e : End) (theirs : List (List ℕ)) (call : Call) (a : Answer) (told : List Told) → IsAnswer p e theirs call a → fails a ≡ false → HasSaid e.closing told → AllSay (after_call p e theirs call a).closing.reason told (sents_by p e call a)
call_says p e theirs (calls.Poll now) a told is served says =
    subst (λ (b : Answer). AllSay (polled p e now).end.closing.reason told (sent_if (gave b) (sent_by p e now))) (sym (poll_answer p e now a is served)) (polled_says p e now told says)
call_says p e theirs call a told is served says = λ s i. absurd i

-- ---- the group

-- x explains why it isn't open, and so does each close of it
record Says (x y : Party) : Type 0 where
  explained : Explains x.end.closing.state x.end.closing.reason
  has : HasSaid x.end.closing x.told
  all : AllSay x.end.closing.reason x.told x.sents

says_on : (x y : Party) (call : Call) (a : Answer) → IsAnswer x.policy x.end y.given call a → fails a ≡ false → Says x y → Says (called x y.given call a) y
says_on x y call a answer served s = record {
  explained = call_keeps x.policy x.end y.given call a s.explained;
  has = close_says x.end.closing call a after.closing x.told s.explained turned s.has;
  all = λ u i f j is. elim (in_append u x.sents (sents_by x.policy x.end call a) i) [
    | inl old ↦ reason_says x.end.closing call a after.closing x.told s.explained turned f (s.all u old f j is)
    | inr new ↦ says_left x.told (told_of call a x.end.closing.state ∷ []) after.closing.reason f (call_says x.policy x.end y.given call a x.told answer served s.has u new f j is)
  ];
}
  where
    after : End
    after = after_call x.policy x.end y.given call a

    turned : Turns x.end.closing call a after.closing
    turned = turns x.policy x.end y.given call a answer served

says_group : (B : Way) → Group B Says
says_group B = record {
  first = λ x y m there here. record { explained = tt; has = λ f is. cc; all = λ s i. absurd i };
  writer = λ x y call a c s back. says_on x y call a c.answer c.served s;
  reader = λ x y call a c there s. record { explained = s.explained; has = s.has; all = s.all };
  shows = λ x y here there b back s t. record { explained = s.explained; has = s.has; all = s.all };
}

-- ---- the clause

-- all that holds between the ends, and this
abbrev Saying : Way
Saying = And (everything.All Ready ready) Says

saying : Group Nothing Saying
saying = both Nothing (everything.All Ready ready) Says (everything.all Ready ready) (says_group (And Nothing (everything.All Ready ready)))

pub closes_say_why : (r : Run) (end : World) → IsHonest r → IsRun r end → ClosesSayWhy r
closes_say_why r end honest run side i s f served among carried is =
    subst (λ (o : Option LostReason). SaysWhy o (until r side i) f) (sym reason) (at.gives.1.all s (subst (λ (ss : List Sent). In s ss) own among) f carried is)
  where
    at : Placed Saying r end side i
    at = placed Saying saying r end honest run side i served

    own : sents_until r side i ≡ at.sents
    own = own_at r end honest side i (placed_less Saying Sight r end side i (λ x y h. h.0.1) at)

    reason : (seen_at r side i).reason ≡ (end_at side at.world).closing.reason
    reason = ap (λ (v : EndView). v.reason) (last_seen side r.keys i r.start at.world r.events r.answers r.views at.leads)

-- ---- what the peer is told

-- a frame for which an end is told that its peer closed tells so
pub frame_tells : (f : FrameValue) (e : End) (close : CloseValue) → (take_frame f e).fault ≡ Some (closed_by_peer close) → IsToldAs f close
frame_tells f e close is = go f (closing_frame f e close is) is
  where
    same_close : (c d : CloseValue) → Some (closed_by_peer c) ≡ Some (closed_by_peer d) → c ≡ d
    same_close c d same = cc

    go : (g : FrameValue) → IsClose g → (take_frame g e).fault ≡ Some (closed_by_peer close) → IsToldAs g close
    go (connection_close c) closes same = subst (IsToldAs (connection_close c)) (same_close _ close same) (refl, refl, refl)
    go (application_close c) closes same = subst (IsToldAs (application_close c)) (same_close _ close same) (refl, refl)
    go g closes same = absurd closes

-- one stands among the frames of such a packet
told_among : (fs : List FrameValue) (e : End) (close : CloseValue) → (passed fs e).fault ≡ Some (closed_by_peer close) → (f : FrameValue) × In f fs × IsToldAs f close
told_among [] e close is = cc
told_among (f ∷ fs) e close is = go (take_frame f e).fault refl is (told_among fs (take_frame f e).end close)
  where
    go : (o : Option Fault) → (take_frame f e).fault ≡ o → (unless_fault o (take_frame f e) (take_items (map Ok fs))).fault ≡ Some (closed_by_peer close)
        → ((passed fs (take_frame f e).end).fault ≡ Some (closed_by_peer close) → (g : FrameValue) × In g fs × IsToldAs g close) → (g : FrameValue) × In g (f ∷ fs) × IsToldAs g close
    go None there said rest = (let found = rest said in (found.0, inr found.1, found.2))
    go (Some fault) there said rest = (f, inl refl, frame_tells f e close said)

-- One of these datagrams has this close.
record HasClose (sents : List Sent) (close : CloseValue) : Type 0 where
  sent : Sent
  among : In sent sents
  frame : FrameValue
  carried : In frame sent.frames
  told_as : IsToldAs frame close

-- y isn't open for its peer's close, which x gave
abbrev Came : Way
Came x y = (close : CloseValue) → y.end.closing.reason ≡ Some (reasons.Peer close) → HasClose x.sents close

-- more datagrams have it too
has_more : (sents more : List Sent) (close : CloseValue) → HasClose sents close → HasClose (sents ++ more) close
has_more sents more close h = record { sent = h.sent; among = in_left h.sent sents more h.among; frame = h.frame; carried = h.carried; told_as = h.told_as }

-- a packet of its peer's in which that closes, or what had closed the end before
module _ (x y : Party) (delivery : Delivery) (a : Answer) (after : End) (came : Came y x) (close : CloseValue) (is : after.closing.reason ≡ Some (reasons.Peer close)) where
  told_so : (s : Sent) → In s y.sents → (c : CloseValue) → (arrived x.end delivery.now s.number (taken_of x y delivery a s)).fault ≡ Some (closed_by_peer c) → Some (reasons.Peer c) ≡ Some (reasons.Peer close) → HasClose y.sents close
  told_so s among c fault same =
      let one : c ≡ close = cc in
      let found = told_among (taken_of x y delivery a s) (begun x.end delivery.now s.number) c fault in
      elim (of_at (is_there delivery.remote x.end) s.frames found.0 found.1) [
        | inl stands ↦ record { sent = s; among = among; frame = found.0; carried = stands; told_as = subst (IsToldAs found.0) one found.2 }
        | inr pads ↦ absurd (subst (λ (f : FrameValue). IsToldAs f c) pads found.2)
      ]

  faulty : (s : Sent) → In s y.sents → (g : Fault) → (arrived x.end delivery.now s.number (taken_of x y delivery a s)).fault ≡ Some g → ◌≡◌ {A = Option LostReason} (Some (reason_of g)) (Some (reasons.Peer close)) → HasClose y.sents close
  faulty s among (broke error) fault same = cc
  faulty s among too_many_pieces fault same = cc
  faulty s among (closed_by_peer c) fault same = told_so s among c fault same

  judged_came : Judged x y delivery a after → HasClose y.sents close
  judged_came (nothing k none) = came close (sym k.reason ∙ is)
  judged_came (taken s among new still_open none answer k) = came close (sym k.reason ∙ is)
  judged_came (exhausted none reason state) = (let clash : ◌≡◌ {A = Option LostReason} (Some reasons.KeyLimit) (Some (reasons.Peer close)) = sym reason ∙ is in cc)
  judged_came (drained s among new still_open c fault answer reason state) = told_so s among c fault (sym reason ∙ is)
  judged_came (refused s among new still_open g fault answer reason state) = faulty s among g fault (sym reason ∙ is)

-- so behind any call
call_came : (x y : Party) (call : Call) (a : Answer) → AreJoined x y → Meets y x → fails a ≡ false → IsAnswer x.policy x.end y.given call a → Came y x → Came y (called x y.given call a)
call_came x y (calls.Deliver delivery) a joined meets served answer came close is = judged_came x y delivery a (after_call x.policy x.end y.given (calls.Deliver delivery) a) came close is (judged x y delivery a joined meets served answer)
call_came x y call a joined meets served answer came close is = elim (call_closes x.policy x.end y.given call a refl) [
  | inl k ↦ came close (sym k.reason ∙ is)
  | inr shuts ↦ elim shuts.reason [
    | inl same ↦ came close (sym same ∙ is)
    | inr other ↦ absurd (read other.0 other.2 (sym other.1 ∙ is))
  ]
]
  where
    read : (reason : LostReason) → IsUnread reason → ◌≡◌ {A = Option LostReason} (Some reason) (Some (reasons.Peer close)) → ⊥
    read reasons.NumberLimit unread same = cc
    read reasons.KeyLimit unread same = cc
    read reasons.Application unread same = cc
    read reasons.Idle unread same = cc
    read reason unread same = unread

came_group : (B : Way) → ((x y : Party) → B x y → PacketsHold x y) → Group B Came
came_group B packets = record {
  first = λ x y m there here close is. cc;
  writer = λ x y call a c s back close is. has_more x.sents (sents_by x.policy x.end call a) close (s close is);
  reader = λ x y call a c there s. call_came x y call a c.joined (meets y x (packets y x c.takes)) c.served c.answer s;
  shows = λ x y here there b back s t. s;
}

-- ---- its clause

abbrev Coming : Way
Coming = And (everything.All Ready ready) Came

coming : Group Nothing Coming
coming = both Nothing (everything.All Ready ready) Came (everything.all Ready ready) (came_group (And Nothing (everything.All Ready ready)) (λ x y h. h.1.0.0))

-- An event at a place, and its answer.
record Stands (events : List RunEvent) (told : List Answer) (place : ℕ) : Type 0 where
  event : RunEvent
  answer : Answer
  at_event : slice_get events place ≡ Some event
  at_answer : slice_get told place ≡ Some answer

-- each view stands behind one
stands : (k : Policies) (place : ℕ) (w end : World) (events : List RunEvent) (told : List Answer) (views : List View) (v : View) → Follows k w events told views end → slice_get views place ≡ Some v → Stands events told place
stands k place w end events told [] v f there = cc
stands k place w end [] [] (u ∷ views) v f there = absurd f
stands k place w end (e ∷ events) [] (u ∷ views) v f there = absurd f
stands k place w end [] (a ∷ told) (u ∷ views) v f there = absurd f
stands k zero w end (e ∷ events) (a ∷ told) (u ∷ views) v f there = record { event = e; answer = a; at_event = refl; at_answer = refl }
stands k (suc place) w end (e ∷ events) (a ∷ told) (u ∷ views) v f there =
    let later = stands k place f.0 end events told views v f.3 there in
    record { event = later.event; answer = later.answer; at_event = later.at_event; at_answer = later.at_answer }

-- what the other end gave, its observer has as it was sent
own_there : (r : Run) → IsHonest r → (w : World) (i : ℕ) (side : Side) (sents theirs : List Sent) → Sight (party_at r i w (other_side side) theirs) (party_at r i w side sents) → sents_until r (other_side side) i ≡ theirs
own_there r honest w i Client sents theirs s = ap (λ (v : Watch). v.own) (watch_is r honest w i Server theirs sents) ∙ s.own
own_there r honest w i Server sents theirs s = ap (λ (v : Watch). v.own) (watch_is r honest w i Client theirs sents) ∙ s.own

-- a call at one side is none at the other
other_not : (a b : Side) → same_side a (other_side b) ≡ true → same_side a b ≡ false
other_not Client Client is = cc
other_not Client Server is = refl
other_not Server Client is = refl
other_not Server Server is = cc

module _ (r : Run) (end : World) (honest : IsHonest r) (run : IsRun r end) (side : Side) (place : ℕ) (close : CloseValue) (shows : Shows r side place (Some (reasons.Peer close))) where
  served : AreServed r (suc place)
  served = (let next : place + 1 ≡ suc place = omega arith in subst (AreServed r) next shows.served)

  -- an end that isn't open for a close of its peer's was told so before
  given_at : (i : ℕ) (at : Placed Coming r end side i) → (end_at side at.world).closing.reason ≡ Some (reasons.Peer close) → HasClose (sents_until r (other_side side) i) close
  given_at i at is = subst (λ (ss : List Sent). HasClose ss close) (sym (own_there r honest at.world i side at.sents at.theirs at.takes.0.1)) (at.takes.1 close is)

  -- where the view shows it
  behind : Placed Coming r end side (suc place)
  behind = placed Coming coming r end honest run side (suc place) served

  reason : (end_at side behind.world).closing.reason ≡ Some (reasons.Peer close)
  reason = reason_shown Coming r end side place (Some (reasons.Peer close)) shows behind

  before : Placed Coming r end side place
  before = placed Coming coming r end honest run side place (served_before r.answers place served)

  s : Stands r.events r.answers place
  s = stands r.keys place r.start end r.events r.answers r.views shows.view run.follows shows.there

  -- the other end was called: this one was told so before
  was_told : same_side s.event.side (other_side side) ≡ true → HasClose (sents_until r (other_side side) place) close
  was_told other = given_at place before (ap (λ (e : End). e.closing.reason) same ∙ reason)
    where
      made : MadeAt r place s.event.side s.event.call s.answer
      made = made_at Coming coming r end honest run place s.event.side s.event.call s.answer (record { event = s.at_event; answer = s.at_answer }) served

      same : end_at side before.world ≡ end_at side behind.world
      same =
          ap (λ (w : World). end_at side w) (one_behind r place before.world made.before (served_before r.answers place served) before.leads made.made.leads)
          ∙ sym (step_leaves side r.keys made.before made.behind s.event s.answer (other_not s.event.side side other) made.made.step).end
          ∙ ap (λ (w : World). end_at side w) (one_behind r (suc place) made.behind behind.world served made.leads behind.leads)

  -- or this one was, and the other gave nothing more
  is_told : same_side s.event.side (other_side side) ≡ false → HasClose (sents_until r (other_side side) place) close
  is_told here = subst (λ (ts : List Told). HasClose (folded (watch_told (lens_of r (other_side side))) ts (watch_from (end_at (other_side side) r.start) (given_of r (other_side side)))).own close) same (given_at (suc place) behind reason)
    where
      none : (b : Bool) (t : Told) → b ≡ false → (if b then t ∷ [] else []) ≡ []
      none true t is = cc
      none false t is = refl

      same : until r (other_side side) (suc place) ≡ until r (other_side side) place
      same =
          told_next (other_side side) (end_at (other_side side) r.start).closing.state place r.events r.answers r.views s.event s.answer s.at_event s.at_answer (as_many_views r.keys r.start end r.events r.answers r.views run.follows)
          ∙ ap (λ (ts : List Told). until r (other_side side) place ++ ts) (none (same_side s.event.side (other_side side)) _ here)
          ∙ append-nil (until r (other_side side) place)

  found : HasClose (sents_until r (other_side side) place) close
  found = go (same_side s.event.side (other_side side)) refl
    where
      go : (b : Bool) → same_side s.event.side (other_side side) ≡ b → HasClose (sents_until r (other_side side) place) close
      go true is = was_told is
      go false is = is_told is

pub peer_closes_come : (r : Run) (end : World) → IsHonest r → IsRun r end → PeerClosesCome r
peer_closes_come r end honest run side place close shows =
    let h = found r end honest run side place close shows in
    record { sent = h.sent; among = h.among; frame = h.frame; carried = h.carried; told_as = h.told_as }
