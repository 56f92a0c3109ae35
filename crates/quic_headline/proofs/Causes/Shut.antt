-- What closes an end closes it: its idle timer expires, its application closes it, or a close of
-- its peer's comes.
use Rattle.std.proofs.Common.{◌≡◌, ℕ, suc, ◌≤◌, max, Bool, true, false, List, [], ◌∷◌, map, slice_get, Option, Some, None, Ok, inl, inr, refl, sym, ap, ◌∙◌, subst}
use Rattle.std.specs.Prelude.{if◌then◌else◌}
use Rattle.std.proofs.lemmas.Bool.{le-leb}
use Rattle.quic_wire_core.specs.declared.stream_id.Side.{Side}
use Rattle.quic_wire_core.specs.StreamId.{other_side}
use Rattle.quic_wire.specs.Value.{FrameValue, connection_close, application_close, path_challenge, path_response}
use Rattle.quic_wire.specs.Close.{CloseValue}
use Rattle.quic_time.specs.Timers.{has_come}
use Rattle.quic_time.specs.declared.timer.Timer.TheVariants.{Idle}
use Rattle.quic_machine.specs.declared.answers.State.{State}
use Rattle.quic_machine.specs.declared.answers.State.TheVariants as states
use Rattle.quic_machine.specs.declared.answers.LostReason.TheVariants as reasons
use Rattle.quic_machine.specs.declared.run.RunEvent.{RunEvent}
use Rattle.quic_machine.specs.declared.run.CloseCall.{CloseCall}
use Rattle.quic_machine.specs.declared.run.Call.{Call}
use Rattle.quic_machine.specs.declared.run.Call.TheVariants as calls
use Rattle.quic_machine.specs.declared.run.Answer.{Answer}
use Rattle.quic_machine.specs.declared.run.Answer.TheVariants as answers
use Rattle.quic_machine.specs.declared.run.EndView.{EndView}
use Rattle.quic_machine.specs.declared.run.View.{View}
use Rattle.quic_machine.specs.Policy.{Policy}
use Rattle.quic_machine.specs.Closing.{Closing, ticked}
use Rattle.quic_machine.specs.End.{End, with_closing}
use Rattle.quic_machine.specs.Receive.{Fault, closed_by_peer, take_frame, unless_fault, take_items, Outcome}
use Rattle.quic_machine.specs.Calls.{closed_in}
use Rattle.quic_machine.specs.Timeouts.{Expiry, expiry_at, unless_idle, loss_expired, timed_out_in, timed_out}
use Rattle.quic_machine.specs.DraftLaws.{IsClose}
use Rattle.quic_machine.specs.FrameCases.{begun, passed}
use Rattle.quic_machine.specs.Machine.{World, IsAnswer, IsLeft, end_at, view_of, control_at, heard_at, given_by, policy_at, reads_window, after_call, end_left, fails}
use Rattle.quic_headline.specs.Runs.{Run, Packet, Intake, In, AreServed, LeadsTo, state_in, state_at}
use Rattle.quic_headline.specs.Observer.{is_close, watch, Watch}
use Rattle.quic_headline.specs.Headline.{IsHonest, IsRun, IsAt}
use Rattle.quic_headline.specs.Causes.{reason_in}
use Rattle.quic_headline.specs.Polls.{seen_at, IsMade}
use Rattle.quic_headline.specs.Views.{place}
use Rattle.quic_headline.specs.Closes.{IsToldAs}
use Rattle.quic_headline.specs.Shut.{IsDrainedFor, IdlesOut, first_close, ClosesForPeer, ClosesForApplication}
use Rattle.quic_headline.proofs.Halves.Ready.{Ready}
use Rattle.quic_headline.proofs.Packets.Delivered.{frames_at, Arrivals, with_taken}
use Rattle.quic_headline.proofs.Packets.Group.{PacketsHold, meets}
use Rattle.quic_headline.proofs.Packets.Moved.{by_migrated}
use Rattle.quic_headline.proofs.Packets.Owing.{closing_frame}
use Rattle.quic_headline.proofs.Places.Coming.{by_coming}
use Rattle.quic_headline.proofs.Places.Everything as everything
use Rattle.quic_headline.proofs.Places.Groups.{Way, Nothing, And, Calls, Group, both}
use Rattle.quic_headline.proofs.Places.Moments.{last_view, last_seen, state_shown}
use Rattle.quic_headline.proofs.Places.Openings.{took_is}
use Rattle.quic_headline.proofs.Places.Parties.{Party, called, came_to}
use Rattle.quic_headline.proofs.Places.Placed.{Placed, placed, shown, watch_is}
use Rattle.quic_headline.proofs.Places.Theorems.{ready}
use Rattle.quic_headline.proofs.Held.Behind.{Last, last_step}
use Rattle.quic_headline.proofs.Steps.Made.{served_before, made_served, one_behind}
use Rattle.quic_headline.proofs.Steps.Windows.{first_lead}
use Rattle.quic_headline.proofs.Causes.Said.{frame_tells}
use Rattle.quic_headline.proofs.Causes.Shown.{reason_there}
use Rattle.quic_headline.proofs.Causes.Turns.{Turns, kept, asked, went, shut, ended, lapsed, turns}
use Rattle.quic_headline.proofs.Timers.Closed.{state_there}

-- ---- what one end makes of its calls

-- a timeout drains an open end whose idle timer has come
timed_idles : (p : Policy) (e : End) (now moment : ℕ) → e.closing.state ≡ states.Open → e.timers.idle ≡ Some moment → moment ≤ max e.closing.clock now
    → (let f : End = (timed_out p e now).end in (f.closing.state ≡ states.Drained) × (f.closing.reason ≡ Some reasons.Idle))
timed_idles p e now moment opened set due = (
  ap (λ (s : State). (timed_out_in s p e now).end.closing.state) opened ∙ ap (λ (b : Bool). (unless_idle b p.words x (loss_expired x.loss begins)).closing.state) come,
  ap (λ (s : State). (timed_out_in s p e now).end.closing.reason) opened ∙ ap (λ (b : Bool). (unless_idle b p.words x (loss_expired x.loss begins)).closing.reason) come,
)
  where
    begins : End
    begins = with_closing e (ticked e.closing now)

    x : Expiry
    x = expiry_at begins.closing.clock begins.timers

    come : has_come e.timers.idle (max e.closing.clock now) ≡ true
    come = ap (λ (o : Option ℕ). has_come o (max e.closing.clock now)) set ∙ le-leb moment (max e.closing.clock now) due

-- the application closes an end that is open
closes_own : (e : End) (close : CloseCall) → e.closing.state ≡ states.Open
    → (let f : End = closed_in e.closing.state close.now close.error_code close.reason e in (f.closing.state ≡ states.Closing) × (f.closing.reason ≡ Some reasons.Application))
closes_own e close opened = (
  ap (λ (s : State). (closed_in s close.now close.error_code close.reason e).closing.state) opened,
  ap (λ (s : State). (closed_in s close.now close.error_code close.reason e).closing.reason) opened,
)

-- ---- at a place

module _ (r : Run) (end : World) (run : IsRun r end) (side : Side) (i : ℕ) (call : Call) (a : Answer) (v : View) (called_at : IsAt r i side call a) (there : slice_get r.views i ≡ Some v) where
  lead : (w : World) × LeadsTo r (suc i) w
  lead = first_lead (suc i) r.keys r.start r.events r.answers r.views end run.follows

  abbrev event : RunEvent
  event = record { side = side; call = call }

  last : Last r.keys i r.start lead.0 r.events r.answers r.views event a
  last = last_step r.keys i r.start lead.0 r.events r.answers r.views event a called_at.event called_at.answer lead.1

  abbrev before : End
  before = end_at side last.before

  abbrev behind : End
  behind = end_at side lead.0

  abbrev p : Policy
  p = policy_at side r.keys

  abbrev theirs : List (List ℕ)
  theirs = given_by (other_side side) last.before

  opened_before : state_at r side i ≡ states.Open → before.closing.state ≡ states.Open
  opened_before opened = sym (state_there side r.keys i r.start last.before r.events r.answers r.views last.leads) ∙ opened

  view_is : v ≡ view_of lead.0
  view_is = last_view r.keys i r.start lead.0 r.events r.answers r.views v lead.1 there

  state_behind : state_in v side ≡ behind.closing.state
  state_behind = ap (λ (u : View). state_in u side) view_is ∙ state_shown side lead.0

  reason_behind : reason_in v side ≡ behind.closing.reason
  reason_behind = ap (λ (u : View). reason_in u side) view_is ∙ reason_there side lead.0

  -- a call that doesn't fail leaves what the machine does
  left_so : fails a ≡ false → behind ≡ end_left p (control_at side last.before) (heard_at side last.before) before theirs call a
  left_so served = subst (λ (b : Bool). IsLeft b p (control_at side last.before) (heard_at side last.before) before theirs call a behind) served last.step.end

  -- the end is left so by another name of the call
  left_by : (c : Call) → call ≡ c → fails a ≡ false → behind ≡ end_left p (control_at side last.before) (heard_at side last.before) before theirs c a
  left_by c is served = subst (λ (d : Call). behind ≡ end_left p (control_at side last.before) (heard_at side last.before) before theirs d a) is (left_so served)

  -- the application closes it
  pub closes_then : (close : CloseCall) → call ≡ calls.Close close → state_at r side i ≡ states.Open → (state_in v side ≡ states.Closing) × (reason_in v side ≡ Some reasons.Application)
  closes_then close is opened =
      let answer : a ≡ answers.Close = subst (λ (c : Call). IsAnswer p (reads_window (control_at side last.before) (heard_at side last.before) c before) theirs c a) is last.step.answer in
      let left = left_by (calls.Close close) is (ap fails answer) in
      let closes = closes_own before close (opened_before opened) in (
        state_behind ∙ ap (λ (e : End). e.closing.state) left ∙ closes.0,
        reason_behind ∙ ap (λ (e : End). e.closing.reason) left ∙ closes.1,
      )

  module _ (honest : IsHonest r) (served : AreServed r (suc i)) where
    some_same : (o q : Option ℕ) → Some o ≡ Some q → o ≡ q
    some_same o q is = cc

    set_before : (moment : ℕ) → slice_get (seen_at r side i).timers (place Idle) ≡ Some (Some moment) → before.timers.idle ≡ Some moment
    set_before moment set = some_same before.timers.idle (Some moment) (sym (ap (λ (s : EndView). slice_get s.timers (place Idle)) (last_seen side r.keys i r.start last.before r.events r.answers r.views last.leads)) ∙ set)

    -- the observer of an open end knows its clock
    clock : state_at r side i ≡ states.Open → (watch r side i).clock ≡ before.closing.clock
    clock opened =
        let here = placed (everything.All Ready ready) (everything.all Ready ready) r end honest run side i (served_before r.answers i served) in
        let same : here.world ≡ last.before = one_behind r i here.world last.before (served_before r.answers i served) here.leads last.leads in
        let tells = (here.gives.1.watched.flight (here.state ∙ opened)).tells in
        let seen = watch_is r honest here.world i side here.sents here.theirs in
        ap (λ (u : Watch). u.clock) seen ∙ tells.clock ∙ ap (λ (w : World). (end_at side w).closing.clock) same

    -- its idle timer has come
    pub idles_then : (now moment : ℕ) → call ≡ calls.Timeout now → state_at r side i ≡ states.Open → slice_get (seen_at r side i).timers (place Idle) ≡ Some (Some moment) → moment ≤ max (watch r side i).clock now → IsDrainedFor v side reasons.Idle
    idles_then now moment is opened set due =
        let made : IsMade r i side call a last.before lead.0 = record { at = called_at; leads = last.leads; step = last.step; served = served } in
        let left = left_by (calls.Timeout now) is (made_served r i side call a last.before lead.0 made) in
        let idles = timed_idles p before now moment (opened_before opened) (set_before moment set) (subst (λ (n : ℕ). moment ≤ max n now) (clock opened) due) in
        record {
          drained = state_behind ∙ ap (λ (e : End). e.closing.state) left ∙ idles.0;
          why = reason_behind ∙ ap (λ (e : End). e.closing.reason) left ∙ idles.1;
        }

-- whether or not memory served before
pub closes_for_application : (r : Run) (end : World) → IsHonest r → IsRun r end → ClosesForApplication r
closes_for_application r end honest run side i close a v called_at there opened = closes_then r end run side i (calls.Close close) a v called_at there close refl opened

pub idles_out : (r : Run) (end : World) → IsHonest r → IsRun r end → IdlesOut r
idles_out r end honest run side i now moment a v served called_at there opened set due = idles_then r end run side i (calls.Timeout now) a v called_at there honest served now moment refl opened set due

-- ---- a close of the peer

-- the first close among these frames is told so
abbrev FirstTold : List FrameValue → CloseValue → Type 0
FirstTold fs close = (f : FrameValue) → first_close fs ≡ Some f → IsToldAs f close

-- a frame by which the peer closes is one by the test
close_found : (f : FrameValue) → IsClose f → is_close f ≡ true
close_found (connection_close c) closes = refl
close_found (application_close c) closes = refl
close_found f closes = absurd closes

-- no close is taken as other frames are
close_faults : (f : FrameValue) (e : End) → is_close f ≡ true → (take_frame f e).fault ≡ None → ⊥
close_faults (connection_close c) e is none = cc
close_faults (application_close c) e is none = cc
close_faults f e is none = cc

-- where all frames were taken none is a close
none_closes : (fs : List FrameValue) (e : End) → (passed fs e).fault ≡ None → (f : FrameValue) → first_close fs ≡ Some f → ⊥
none_closes [] e none f first = cc
none_closes (g ∷ fs) e none f first = go (take_frame g e).fault refl none (is_close g) refl first (λ rest there. none_closes fs (take_frame g e).end rest f there)
  where
    go : (o : Option Fault) → (take_frame g e).fault ≡ o → (unless_fault o (take_frame g e) (take_items (map Ok fs))).fault ≡ None → (b : Bool) → is_close g ≡ b → (if b then Some g else first_close fs) ≡ Some f
        → ((passed fs (take_frame g e).end).fault ≡ None → first_close fs ≡ Some f → ⊥) → ⊥
    go None said rest true closes is more = close_faults g e closes said
    go None said rest false closes is more = more rest is
    go (Some fault) said rest b closes is more = let clash : ◌≡◌ {A = Option Fault} (Some fault) None = sym said ∙ rest in cc

-- where the peer closed it did by the first
first_tells : (fs : List FrameValue) (e : End) (close : CloseValue) → (passed fs e).fault ≡ Some (closed_by_peer close) → FirstTold fs close
first_tells [] e close is f first = cc
first_tells (g ∷ fs) e close is f first = go (take_frame g e).fault refl is (is_close g) refl first (λ rest there. first_tells fs (take_frame g e).end close rest f there)
  where
    go : (o : Option Fault) → (take_frame g e).fault ≡ o → (unless_fault o (take_frame g e) (take_items (map Ok fs))).fault ≡ Some (closed_by_peer close) → (b : Bool) → is_close g ≡ b → (if b then Some g else first_close fs) ≡ Some f
        → ((passed fs (take_frame g e).end).fault ≡ Some (closed_by_peer close) → first_close fs ≡ Some f → IsToldAs f close) → IsToldAs f close
    go None said rest true closes there more = absurd (close_faults g e closes said)
    go None said rest false closes there more = more rest there
    go (Some fault) said rest true closes there more = let same : g ≡ f = cc in subst (λ (h : FrameValue). IsToldAs h close) same (frame_tells g e close rest)
    go (Some fault) said rest false closes there more = let clash : ◌≡◌ {A = Bool} false true = sym closes ∙ close_found g (closing_frame g e close rest) in cc

-- the frames that are taken have the same first close, wherever the packet came from
first_at : (here : Bool) (fs : List FrameValue) (f : FrameValue) → first_close fs ≡ Some f → first_close (frames_at here fs) ≡ Some f
first_at true fs f first = first
first_at false [] f first = first
first_at false (path_challenge token ∷ fs) f first = first_at false fs f first
first_at false (path_response token ∷ fs) f first = first_at false fs f first
first_at false (connection_close c ∷ fs) f first = first
first_at false (application_close c ∷ fs) f first = first
first_at false (g ∷ fs) f first = first_at false fs f first

-- an end is drained for its peer, which closed so
record IsShutBy (c : Closing) (f : FrameValue) : Type 0 where
  close : CloseValue
  told_as : IsToldAs f close
  drained : c.state ≡ states.Drained
  why : c.reason ≡ Some (reasons.Peer close)

-- so it is for each close that was taken
abbrev ShutsFor : End → Intake → Type 0
ShutsFor e i = (packet : Packet) (f : FrameValue) → In packet i.took → first_close packet.frames ≡ Some f → IsShutBy e.closing f

-- one that is drained stays so
still_shut : (b c : Closing) (call : Call) (a : Answer) (f : FrameValue) → Turns b call a c → IsShutBy b f → IsShutBy c f
still_shut b c call a f (kept same owed still) s = record { close = s.close; told_as = s.told_as; drained = same.state ∙ s.drained; why = same.reason ∙ s.why }
still_shut b c call a f (asked here same owed none asks) s = let clash : states.Closing ≡ states.Drained = sym here ∙ s.drained in cc
still_shut b c call a f (went here same owed one) s = let clash : states.Closing ≡ states.Drained = sym here ∙ s.drained in cc
still_shut b c call a f (shut here state reason for g close why owed) s = let clash : states.Open ≡ states.Drained = sym here ∙ s.drained in cc
still_shut b c call a f (ended here state reason close) s = let clash : states.Closing ≡ states.Drained = sym here ∙ s.drained in cc
still_shut b c call a f (lapsed here state close) s = let clash : states.Open ≡ states.Drained = sym here ∙ s.drained in cc

-- nothing was taken of a close while an end is open
open_shut : (c : Closing) (f : FrameValue) → c.state ≡ states.Open → IsShutBy c f → ⊥
open_shut c f opened s = let clash : states.Open ≡ states.Drained = sym opened ∙ s.drained in cc

shut_arrivals : (e : End) (now n : ℕ) (frames : List FrameValue) (here : Bool) (i : Intake) → ShutsFor e i → Arrivals e now n frames (frames_at here frames) i (λ (o : Outcome) (j : Intake). ShutsFor o.end j)
shut_arrivals e now n frames here i s = record {
  ignored = λ reason. s;
  noted = λ closing reason packet f among first. (let old = s packet f among first in let clash : states.Closing ≡ states.Drained = sym closing ∙ old.drained in cc);
  takes = λ words opened new none urged mark packet f among first. elim among [
    | inl this ↦ absurd (none_closes (frames_at here frames) (begun e now n) none f (first_at here frames f (ap (λ (q : Packet). first_close q.frames) (sym this) ∙ first)))
    | inr old ↦ absurd (open_shut e.closing f opened (s packet f old first))
  ];
  moves = λ p o same remote x opened left. by_migrated (λ (z : End). ShutsFor z (with_taken i n frames)) p o remote x (λ c. left) (λ c most. left);
  drains = λ words opened new close fault packet f among first. elim among [
    | inl this ↦ record {
      close = close;
      told_as = first_tells (frames_at here frames) (begun e now n) close fault f (first_at here frames f (ap (λ (q : Packet). first_close q.frames) (sym this) ∙ first));
      drained = refl;
      why = refl;
    }
    | inr old ↦ absurd (open_shut e.closing f opened (s packet f old first))
  ];
  refuses = λ words opened new fault broken packet f among first. absurd (open_shut e.closing f opened (s packet f among first));
  exhausts = λ opened packet f among first. absurd (open_shut e.closing f opened (s packet f among first));
}

-- x took no close of y's, or is drained for it
abbrev Shuts : Way
Shuts x y = ShutsFor x.end (came_to x y)

module _ (B : Way) (packets : (x y : Party) → B x y → PacketsHold x y) where
  shuts_on : (x y : Party) (call : Call) (a : Answer) → Calls B x y call a → Shuts x y → Shuts (called x y.given call a) y
  shuts_on x y call a c s =
      by_coming x y a c.joined c.served (meets y x (packets y x c.takes)) ShutsFor call c.answer (record {
        apart = λ apart packet f among first. still_shut x.end.closing (after_call x.policy x.end y.given call a).closing call a f (turns x.policy x.end y.given call a c.answer c.served) (s packet f among first);
        none = λ delivery is. s;
        comes = λ delivery is sent among here. shut_arrivals x.end delivery.now sent.number sent.frames here (came_to x y) s;
      })

  shuts_group : Group B Shuts
  shuts_group = record {
    first = λ x y m there here packet f among. absurd among;
    writer = λ x y call a c s back. shuts_on x y call a c s;
    reader = λ x y call a c there s. s;
    shows = λ x y here there b back s t. s;
  }

-- all that holds between the ends, and this
abbrev Shutting : Way
Shutting = And (everything.All Ready ready) Shuts

shutting : Group Nothing Shutting
shutting = both Nothing (everything.All Ready ready) Shuts (everything.all Ready ready) (shuts_group (And Nothing (everything.All Ready ready)) (λ x y h. h.1.0.0))

pub closes_for_peer : (r : Run) (end : World) → IsHonest r → IsRun r end → ClosesForPeer r
closes_for_peer r end honest run side i v packet f served there among first = record {
  close = s.close;
  told_as = s.told_as;
  shown = record {
    drained = ap (λ (u : View). state_in u side) view_is ∙ state_shown side at.world ∙ s.drained;
    why = ap (λ (u : View). reason_in u side) view_is ∙ reason_there side at.world ∙ s.why;
  };
}
  where
    at : Placed Shutting r end side (suc i)
    at = placed Shutting shutting r end honest run side (suc i) served

    view_is : v ≡ view_of at.world
    view_is = shown r at.world i v at.leads there

    s : IsShutBy (end_at side at.world).closing f
    s = at.gives.1 packet f (subst (λ (j : Intake). In packet j.took) (took_is r honest at.world (suc i) side at.sents at.theirs) among) first
