-- Each call that receives gives the oldest of the messages that wait by a run's lists, at each
-- place of an honest run.
use Rattle.std.proofs.Common.{◌≡◌, ℕ, zero, suc, ◌<◌, ◌⊎◌, Bool, true, false, List, [], ◌∷◌, ◌++◌, length, take, drop, Option, Some, None, refl, sym, ap, ◌∙◌, subst, inl, inr, arith}
use Rattle.std.specs.Prelude.{slice_get, if◌then◌else◌}
use Rattle.std.proofs.lemmas.List.{append-nil}
use Rattle.quic_wire_core.specs.declared.stream_id.Side.{Side}
use Rattle.quic_wire_core.specs.declared.stream_id.Side.TheVariants.{Client, Server}
use Rattle.quic_wire_core.specs.StreamId.{other_side}
use Rattle.quic_wire.specs.Value.{FrameValue}
use Rattle.quic_config.specs.Transport.{TransportSettings}
use Rattle.quic_messages.specs.Messages.{oldest}
use Rattle.quic_machine.specs.declared.answers.State.{State}
use Rattle.quic_machine.specs.declared.answers.State.TheVariants as states
use Rattle.quic_machine.specs.declared.run.RunEvent.{RunEvent}
use Rattle.quic_machine.specs.declared.run.Call.{Call}
use Rattle.quic_machine.specs.declared.run.Call.TheVariants as calls
use Rattle.quic_machine.specs.declared.run.Answer.{Answer}
use Rattle.quic_machine.specs.declared.run.Answer.TheVariants as answers
use Rattle.quic_machine.specs.declared.run.View.{View}
use Rattle.quic_machine.specs.Policy.{Policy}
use Rattle.quic_machine.specs.End.{End}
use Rattle.quic_machine.specs.Receive.{Outcome, exhausted}
use Rattle.quic_machine.specs.FrameCases.{begun, passed}
use Rattle.quic_machine.specs.Machine.{World, after_call, end_at}
use Rattle.quic_machine.specs.RunLaws.{as_many_views}
use Rattle.quic_headline.specs.Runs.{Run, Told, Packet, Intake, and_told, folded, same_side, state_in, told_by, told_at}
use Rattle.quic_headline.specs.Observer.{Sent}
use Rattle.quic_headline.specs.Headline.{IsHonest, IsRun}
use Rattle.quic_headline.specs.LoneMessages.{before_close}
use Rattle.quic_headline.specs.Queue.{messages_in}
use Rattle.quic_headline.specs.Inbox.{and_messages, messages_taken, messages_left, messages_between, Inbox, no_inbox, taken_out, inbox_behind, inbox_told, ReceivesOldest}
use Rattle.quic_headline.proofs.Packets.Delivered.{Arrivals, with_taken, with_refused, frames_at}
use Rattle.quic_headline.proofs.Packets.Group.{PacketsHold, meets}
use Rattle.quic_headline.proofs.Packets.Intakes.{folded_more}
use Rattle.quic_headline.proofs.Packets.Watching.{none_new, one_new}
use Rattle.quic_headline.proofs.Packets.Owing.{IsAlone, AreCloses}
use Rattle.quic_headline.proofs.Packets.Strays.{closed_at}
use Rattle.quic_headline.proofs.Packets.Moved.{by_migrated}
use Rattle.quic_headline.proofs.Places.Parties.{told_of, Party, called, came_to}
use Rattle.quic_headline.proofs.Places.Groups.{Way, Nothing, And, Calls, Group, both}
use Rattle.quic_headline.proofs.Places.Coming.{came_more, came_same, by_coming}
use Rattle.quic_headline.proofs.Places.Placed.{party_at, Placed, placed}
use Rattle.quic_headline.proofs.Places.Everything as everything
use Rattle.quic_headline.proofs.Places.Theorems.{ready}
use Rattle.quic_headline.proofs.Halves.Ready.{Ready}
use Rattle.quic_headline.proofs.Timers.Still.{was_open}
use Rattle.quic_headline.proofs.Messages.Counted.{close_none}
use Rattle.quic_headline.proofs.Messages.Coming.{reads, call_leaves, messages_at}
use Rattle.quic_headline.proofs.Messages.Unread.{all_read, some_read, taken_at, none_among, before_same}

-- ---- calls that receive, over what was told

-- a call that receives gives the oldest of these
abbrev GivesOldest : Call → Answer → List (List ℕ) → Type 0
GivesOldest calls.Recv (answers.Recv message) waiting = message ≡ oldest waiting
GivesOldest call a waiting = Unit {0}

module _ (step : Told → Inbox → Inbox) where
  -- each does, of those that wait before it
  abbrev AllGive : List Told → Inbox → Type 0
  AllGive [] b = Unit {0}
  AllGive (t ∷ ts) b = GivesOldest t.call t.answer b.waiting × AllGive ts (step t b)

  -- and one more
  give_more : (ts : List Told) (t : Told) (b : Inbox) → AllGive ts b → GivesOldest t.call t.answer (folded step ts b).waiting → AllGive (ts ++ t ∷ []) b
  give_more [] t b all last = (last, tt)
  give_more (u ∷ ts) t b all last = (all.0, give_more ts t (step u b) all.1 last)

  -- what an event tells, if it is of this end, and what is told behind it
  gives_there : (side : Side) (state : State) (e : RunEvent) (a : Answer) (ts : List Told) (b : Inbox) → AllGive (told_by side state e a ++ ts) b → AllGive ts (folded step (told_by side state e a) b)
  gives_there side state e a ts b all = go (same_side e.side side) all
    where
      t : Told
      t = record { call = e.call; answer = a; state = state }

      go : (own : Bool) → AllGive ((if own then t ∷ [] else []) ++ ts) b → AllGive ts (folded step (if own then t ∷ [] else []) b)
      go true all = all.1
      go false all = all

  folded_there : (side : Side) (state : State) (e : RunEvent) (a : Answer) (ts : List Told) (b : Inbox) → folded step (told_by side state e a ++ ts) b ≡ folded step ts (folded step (told_by side state e a) b)
  folded_there side state e a ts b = go (same_side e.side side)
    where
      t : Told
      t = record { call = e.call; answer = a; state = state }

      go : (own : Bool) → folded step ((if own then t ∷ [] else []) ++ ts) b ≡ folded step ts (folded step (if own then t ∷ [] else []) b)
      go true = refl
      go false = refl

  -- an event that receives, the first of these
  gives_first : (side : Side) (state : State) (e : RunEvent) (a : Answer) (message : Option (List ℕ)) (ts : List Told) (b : Inbox) → e ≡ record { side = side; call = calls.Recv } → a ≡ answers.Recv message → AllGive (told_by side state e a ++ ts) b → message ≡ oldest b.waiting
  gives_first side state e a message ts b at said all = go side (subst (λ (c : Answer). AllGive (told_by side state (record { side = side; call = calls.Recv }) c ++ ts) b) said (subst (λ (f : RunEvent). AllGive (told_by side state f a ++ ts) b) at all))
    where
      go : (by : Side) → AllGive (told_by by state (record { side = by; call = calls.Recv }) (answers.Recv message) ++ ts) b → message ≡ oldest b.waiting
      go Client all = all.0
      go Server all = all.0

  -- the event at a place, among those before another
  gives_at : (side : Side) (state : State) (i j : ℕ) (message : Option (List ℕ)) (events : List RunEvent) (said : List Answer) (views : List View) (b : Inbox) → length views ≡ length said → j < i → slice_get events j ≡ Some (record { side = side; call = calls.Recv }) → slice_get said j ≡ Some (answers.Recv message)
      → AllGive (told_at side state events (take i said) views) b → message ≡ oldest (folded step (told_at side state events (take j said) views) b).waiting
  gives_at side state i j message [] said views b many below at_event at_answer all = cc
  gives_at side state i j message (e ∷ events) [] views b many below at_event at_answer all = cc
  gives_at side state i j message (e ∷ events) (a ∷ said) [] b many below at_event at_answer all = absurd (omega arith)
  gives_at side state zero j message (e ∷ events) (a ∷ said) (v ∷ views) b many below at_event at_answer all = absurd (omega arith)
  gives_at side state (suc i) zero message (e ∷ events) (a ∷ said) (v ∷ views) b many below at_event at_answer all =
      gives_first side state e a message (told_at side (state_in v side) events (take i said) views) b (cc) (cc) all
  gives_at side state (suc i) (suc j) message (e ∷ events) (a ∷ said) (v ∷ views) b many below at_event at_answer all =
      gives_at side (state_in v side) i j message events said views (folded step (told_by side state e a) b) (omega arith) (omega arith) at_event at_answer
      (gives_there side state e a (told_at side (state_in v side) events (take i said) views) b all)
      ∙ ap (λ (c : Inbox). oldest c.waiting) (sym (folded_there side state e a (told_at side (state_in v side) events (take j said) views) b))

-- ---- what comes

-- nothing was refused between two intakes
none_left : (frames : ℕ) (part : Option Packet) → messages_left frames part part ≡ []
none_left frames None = refl
none_left frames (Some p) = refl

-- nothing came between them
none_between : (frames : ℕ) (i : Intake) → messages_between frames i i ≡ []
none_between frames i = ap (λ (ps : List Packet). messages_taken ps ++ messages_left frames i.part i.part) (none_new i) ∙ none_left frames i.part

-- one packet was taken
one_between : (frames : ℕ) (i : Intake) (n : ℕ) (fs : List FrameValue) → messages_between frames i (with_taken i n fs) ≡ messages_in (before_close fs)
one_between frames i n fs =
    ap (λ (ps : List Packet). messages_taken ps ++ messages_left frames i.part i.part) (one_new i n fs)
    ∙ ap (λ (ms : List (List ℕ)). messages_in (before_close fs) ++ ms) (none_left frames i.part)
    ∙ append-nil (messages_in (before_close fs))

-- one was refused, the first
part_between : (frames : ℕ) (i : Intake) (n : ℕ) (fs : List FrameValue) → i.part ≡ None → messages_between frames i (with_refused i n fs) ≡ messages_in (take frames fs)
part_between frames i n fs first =
    ap (λ (ps : List Packet). messages_taken ps ++ messages_left frames i.part (Some (record { number = n; frames = fs }))) (none_new i)
    ∙ ap (λ (o : Option Packet). messages_left frames o (Some (record { number = n; frames = fs }))) first

-- the messages that wait at x, where x was e before, and these packets came since
module _ (e : End) (i : Intake) (still : e.closing.state ≡ states.Open → i.part ≡ None) where
  -- the messages between wait behind those that did
  abbrev Fills : ℕ → End → Intake → Type 0
  Fills frames x j = x.messages.queues.incoming ≡ and_messages e.transport.datagram_receive_buffer_size (messages_between frames i j) e.messages.queues.incoming

  -- an open end has refused nothing
  abbrev Still : End → Intake → Type 0
  Still x j = x.closing.state ≡ states.Open → j.part ≡ None

  -- however many frames were read of a packet that was refused, or one was refused just now
  abbrev Fill : End → Intake → Type 0
  Fill x j = Still x j × (((frames : ℕ) → Fills frames x j) ⊎ ((e.closing.state ≡ states.Open) × (x.closing.state ≡ states.Open → ⊥) × ((frames : ℕ) × Fills frames x j)))

  -- nothing came
  fills_same : (x : End) → x.messages.queues.incoming ≡ e.messages.queues.incoming → (frames : ℕ) → Fills frames x i
  fills_same x same frames = same ∙ ap (λ (ms : List (List ℕ)). and_messages e.transport.datagram_receive_buffer_size ms e.messages.queues.incoming) (sym (none_between frames i))

  fill_arrives : (now : ℕ) (s : Sent) (here : Bool) → IsAlone s.frames → Arrivals e now s.number s.frames (frames_at here s.frames) i (λ (o : Outcome) (j : Intake). Fill o.end j)
  fill_arrives now s here alone = record {
    ignored = λ reason. (still, inl (fills_same e refl));
    noted = λ state reason. (still, inl (fills_same e refl));
    takes = λ words state new none urged mark. ((λ is_open. still state), inl (taken (all_read came (begun e now s.number) none)));
    moves = λ p o same remote x is_open k. by_migrated (λ (f : End). Fill f (with_taken i s.number s.frames)) p o remote x (λ c. k) (λ c most. k);
    drains = λ words state new close is. ((λ is_open. cc), inl (closed (closed_at here s.frames (begun e now s.number) close alone is)));
    refuses = λ words state new f fault. ((λ is_open. cc), inr (state, (λ is_open. cc), (part.0, refused state)));
    exhausts = λ state. ((λ is_open. cc), inl (fills_same (exhausted now e) refl));
  }
    where
      came : List FrameValue
      came = frames_at here s.frames

      behind : End
      behind = (passed came (begun e now s.number)).end

      -- it is taken
      taken : behind.messages.queues.incoming ≡ and_messages e.transport.datagram_receive_buffer_size (messages_in came) e.messages.queues.incoming → (frames : ℕ) → behind.messages.queues.incoming ≡ and_messages e.transport.datagram_receive_buffer_size (messages_between frames i (with_taken i s.number s.frames)) e.messages.queues.incoming
      taken read frames = read ∙ ap (λ (ms : List (List ℕ)). and_messages e.transport.datagram_receive_buffer_size ms e.messages.queues.incoming) (messages_at here s.frames ∙ sym (before_same s.frames alone) ∙ sym (one_between frames i s.number s.frames))

      part : (frames : ℕ) × (behind.messages.queues.incoming ≡ and_messages e.transport.datagram_receive_buffer_size (messages_in (take frames came)) e.messages.queues.incoming)
      part = some_read came (begun e now s.number)

      -- the peer closes in it
      closed : AreCloses s.frames → (frames : ℕ) → behind.messages.queues.incoming ≡ and_messages e.transport.datagram_receive_buffer_size (messages_between frames i (with_taken i s.number s.frames)) e.messages.queues.incoming
      closed closes frames =
          let none : messages_in s.frames ≡ [] = close_none s.frames closes in
          part.1
          ∙ ap (λ (ms : List (List ℕ)). and_messages e.transport.datagram_receive_buffer_size ms e.messages.queues.incoming)
          (taken_at here part.0 s.frames ∙ none_among part.0 s.frames none ∙ sym none ∙ sym (before_same s.frames alone) ∙ sym (one_between frames i s.number s.frames))

      -- it is refused
      refused : e.closing.state ≡ states.Open → behind.messages.queues.incoming ≡ and_messages e.transport.datagram_receive_buffer_size (messages_between part.0 i (with_refused i s.number s.frames)) e.messages.queues.incoming
      refused state = part.1 ∙ ap (λ (ms : List (List ℕ)). and_messages e.transport.datagram_receive_buffer_size ms e.messages.queues.incoming) (taken_at here part.0 s.frames ∙ sym (part_between part.0 i s.number s.frames (still state)))

-- ---- the group

-- one call more at x
abbrev step_of : Party → Party → ℕ → Told → Inbox → Inbox
step_of x y frames = inbox_told frames x.made.transport.datagram_receive_buffer_size x.policy y.final

-- what waits at x to be received, where so many frames were read of a packet that was refused
abbrev inbox_of : Party → Party → ℕ → Inbox
inbox_of x y frames = folded (step_of x y frames) x.told no_inbox

-- each call gave the oldest, and what waits by the lists is what waits
abbrev Holds : Party → Party → ℕ → Type 0
Holds x y frames = AllGive (step_of x y frames) x.told no_inbox × ((inbox_of x y frames).waiting ≡ x.end.messages.queues.incoming)

-- so it is for some number of frames, and for any while the end is open, which has refused nothing
pub record Boxed (x y : Party) : Type 0 where
  pub still : x.end.closing.state ≡ states.Open → (came_to x y).part ≡ None
  pub any : x.end.closing.state ≡ states.Open → (frames : ℕ) → Holds x y frames
  pub some : (frames : ℕ) × Holds x y frames

-- what came is what came
same_intake : (frames : ℕ) (room : Option ℕ) (p : Policy) (given : List (List ℕ)) (told : List Told) (b : Inbox) → (folded (inbox_told frames room p given) told b).intake ≡ folded (and_told p given) told b.intake
same_intake frames room p given [] b = refl
same_intake frames room p given (t ∷ told) b = same_intake frames room p given told (inbox_told frames room p given t b)

module _ (B : Way) (packets : (x y : Party) → B x y → PacketsHold x y) (x y : Party) where
  -- what waits behind a call
  waits_more : (call : Call) (a : Answer) (frames : ℕ)
      → (inbox_of (called x y.given call a) y frames).waiting ≡ taken_out call (and_messages x.made.transport.datagram_receive_buffer_size (messages_between frames (came_to x y) (came_to (called x y.given call a) y)) (inbox_of x y frames).waiting)
  waits_more call a frames =
      let room : Option ℕ = x.made.transport.datagram_receive_buffer_size in
      let b : Inbox = inbox_of x y frames in
      let t : Told = told_of call a x.end.closing.state in
      ap (λ (c : Inbox). c.waiting)
      (folded_more (step_of x y frames) x.told t no_inbox
      ∙ ap (λ (i : Intake). inbox_told frames room x.policy y.final t (record { intake = i; waiting = b.waiting })) (same_intake frames room x.policy y.final x.told no_inbox)
      ∙ ap (λ (j : Intake). inbox_behind frames room t (record { intake = came_to x y; waiting = b.waiting }) j) (sym (came_more x y call a)))

  -- behind a call that gives the oldest, if it receives, and fills what waits
  holds_more : (call : Call) (a : Answer) (frames : ℕ) → Holds x y frames → GivesOldest call a (inbox_of x y frames).waiting
      → (called x y.given call a).end.messages.queues.incoming ≡ taken_out call (and_messages x.made.transport.datagram_receive_buffer_size (messages_between frames (came_to x y) (came_to (called x y.given call a) y)) x.end.messages.queues.incoming) → Holds (called x y.given call a) y frames
  holds_more call a frames h gives fills = (
    give_more (step_of x y frames) x.told (told_of call a x.end.closing.state) no_inbox h.0 gives,
    waits_more call a frames
        ∙ ap (λ (ms : List (List ℕ)). taken_out call (and_messages x.made.transport.datagram_receive_buffer_size (messages_between frames (came_to x y) (came_to (called x y.given call a) y)) ms)) h.1
        ∙ sym fills,
  )

  -- the oldest is received
  recv_next : (a : Answer) → Calls B x y calls.Recv a → Boxed x y → Boxed (called x y.given calls.Recv a) y
  recv_next a c h = record {
    still = λ is_open. ap (λ (i : Intake). i.part) same ∙ h.still is_open;
    any = λ is_open frames. next frames (h.any is_open frames);
    some = (h.some.0, next h.some.0 h.some.1);
  }
    where
      same : came_to (called x y.given calls.Recv a) y ≡ came_to x y
      same = came_same x y calls.Recv a refl

      gives : (frames : ℕ) → Holds x y frames → GivesOldest calls.Recv a (inbox_of x y frames).waiting
      gives frames holds = subst (λ (b : Answer). GivesOldest calls.Recv b (inbox_of x y frames).waiting) (sym c.answer) (ap oldest (sym holds.1))

      next : (frames : ℕ) → Holds x y frames → Holds (called x y.given calls.Recv a) y frames
      next frames holds = holds_more calls.Recv a frames holds (gives frames holds)
          (ap (λ (ms : List (List ℕ)). drop 1 (and_messages x.made.transport.datagram_receive_buffer_size ms x.end.messages.queues.incoming)) (sym (none_between frames (came_to x y)) ∙ ap (messages_between frames (came_to x y)) (sym same)))

  -- any other call
  module _ (call : Call) (a : Answer) (c : Calls B x y call a) (h : Boxed x y) where
    -- what fills is by the settings with which the end was made
    by_made : (frames : ℕ) → Fills x.end (came_to x y) h.still frames (called x y.given call a).end (came_to (called x y.given call a) y)
        → (called x y.given call a).end.messages.queues.incoming ≡ and_messages x.made.transport.datagram_receive_buffer_size (messages_between frames (came_to x y) (came_to (called x y.given call a) y)) x.end.messages.queues.incoming
    by_made frames fills =
        fills ∙ ap (λ (t : TransportSettings). and_messages t.datagram_receive_buffer_size (messages_between frames (came_to x y) (came_to (called x y.given call a) y)) x.end.messages.queues.incoming) (packets x y c.gives).settings

    fill : reads call ≡ false → Fill x.end (came_to x y) h.still (called x y.given call a).end (came_to (called x y.given call a) y)
    fill unread = by_coming x y a c.joined c.served (meets y x (packets y x c.takes)) (λ (e : End) (j : Intake). Fill x.end (came_to x y) h.still e j) call c.answer (record {
      apart = λ apart. ((λ is_open. h.still (was_open x.policy x.end y.given call a is_open)), inl (fills_same x.end (came_to x y) h.still (after_call x.policy x.end y.given call a) (call_leaves x.policy x.end y.given call a apart unread)));
      none = λ delivery is. (h.still, inl (fills_same x.end (came_to x y) h.still x.end refl));
      comes = λ delivery is s among here. fill_arrives x.end (came_to x y) h.still delivery.now s here ((packets y x c.takes).alone s among);
    })

    other_next : reads call ≡ false → ((ms : List (List ℕ)) → GivesOldest call a ms) → ((ms : List (List ℕ)) → ms ≡ taken_out call ms) → Boxed (called x y.given call a) y
    other_next unread silent all = go (fill unread)
      where
        next : (frames : ℕ) → Holds x y frames → Fills x.end (came_to x y) h.still frames (called x y.given call a).end (came_to (called x y.given call a) y) → Holds (called x y.given call a) y frames
        next frames holds fills = holds_more call a frames holds (silent (inbox_of x y frames).waiting) (by_made frames fills ∙ all (and_messages x.made.transport.datagram_receive_buffer_size (messages_between frames (came_to x y) (came_to (called x y.given call a) y)) x.end.messages.queues.incoming))

        go : Fill x.end (came_to x y) h.still (called x y.given call a).end (came_to (called x y.given call a) y) → Boxed (called x y.given call a) y
        go (still, inl each) = record {
          still = still;
          any = λ is_open frames. next frames (h.any (was_open x.policy x.end y.given call a is_open) frames) (each frames);
          some = (h.some.0, next h.some.0 h.some.1 (each h.some.0));
        }
        go (still, inr (was, shut, (frames, fills))) = record {
          still = still;
          any = λ is_open. absurd (shut is_open);
          some = (frames, next frames (h.any was frames) fills);
        }

  next_call : (call : Call) (a : Answer) → Calls B x y call a → Boxed x y → Boxed (called x y.given call a) y
  next_call calls.Recv a c h = recv_next a c h
  next_call call a c h = other_next call a c h refl (λ ms. tt) (λ ms. refl)

pub inbox_group : (B : Way) → ((x y : Party) → B x y → PacketsHold x y) → Group B Boxed
inbox_group B packets = record {
  first = λ x y m there back. record { still = λ is_open. refl; any = λ is_open frames. (tt, refl); some = (0, (tt, refl)) };
  writer = λ x y call a c i back. next_call B packets x y call a c i;
  reader = λ x y call a c there i. record { still = i.still; any = i.any; some = i.some };
  shows = λ x y here there b back i j. record { still = i.still; any = i.any; some = i.some };
}

-- ---- the clause

abbrev All : Way
All = And (everything.All Ready ready) Boxed

all : Group Nothing All
all = both Nothing (everything.All Ready ready) Boxed (everything.all Ready ready) (inbox_group (And Nothing (everything.All Ready ready)) (λ x y h. h.1.0.0))

pub receives_oldest : (r : Run) (end : World) → IsHonest r → IsRun r end → ReceivesOldest r
receives_oldest r end honest run side i served = (
  p.gives.1.some.0,
  λ j message below at.
      gives_at (step_of x y p.gives.1.some.0) side (end_at side r.start).closing.state i j message r.events r.answers r.views no_inbox (as_many_views r.keys r.start end r.events r.answers r.views run.follows) below at.event at.answer p.gives.1.some.1.0,
)
  where
    p : Placed All r end side i
    p = placed All all r end honest run side i served

    x : Party
    x = party_at r i p.world side p.sents

    y : Party
    y = party_at r i p.world (other_side side) p.theirs
