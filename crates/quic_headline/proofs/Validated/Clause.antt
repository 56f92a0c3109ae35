-- The address of an end's peer becomes validated where the peer answers what it was asked last, and
-- so it does: at each place of an honest run.
use Rattle.std.proofs.Common.{◌≡◌, ◌⊎◌, ℕ, suc, ◌<◌, ◌^◌, Bool, true, false, not, List, [], ◌∷◌, map, Option, Some, None, Result, Ok, refl, sym, ap, ◌∙◌, subst, inl, inr, eq-eqb}
use Rattle.std.specs.Prelude.{◌==◌, slice_get}
use Rattle.std.proofs.lemmas.Bool.{eqb-true, both_ways}
use Rattle.quic_wire_core.specs.declared.shared.EcnCodepoint.{EcnCodepoint}
use Rattle.quic_wire_core.specs.declared.stream_id.Side.{Side}
use Rattle.quic_wire_core.specs.StreamId.{other_side}
use Rattle.quic_wire.specs.Value.{FrameValue, padding, path_challenge, path_response}
use Rattle.quic_wire.specs.Items.{items}
use Rattle.quic_wire.specs.declared.frame.InvalidFrame.{InvalidFrame}
use Rattle.quic_packet.specs.Datagram.{Opening}
use Rattle.quic_paths.specs.Paths.{is_asked}
use Rattle.quic_machine.specs.declared.answers.State.TheVariants as states
use Rattle.quic_machine.specs.declared.run.Call.{Call}
use Rattle.quic_machine.specs.declared.run.Call.TheVariants as calls
use Rattle.quic_machine.specs.declared.run.Answer.{Answer}
use Rattle.quic_machine.specs.declared.run.Answer.TheVariants as answers
use Rattle.quic_machine.specs.declared.run.Delivery.{Delivery}
use Rattle.quic_machine.specs.declared.run.EndView.{EndView}
use Rattle.quic_machine.specs.declared.run.RunEvent.{RunEvent}
use Rattle.quic_machine.specs.Policy.{Policy}
use Rattle.quic_machine.specs.Validation.{token_of, word_of}
use Rattle.quic_machine.specs.End.{End}
use Rattle.quic_machine.specs.Migration.{is_there, as_elsewhere, migrated, has_moved}
use Rattle.quic_machine.specs.Receive.{Outcome}
use Rattle.quic_machine.specs.FrameCases.{passed, begun}
use Rattle.quic_machine.specs.CallCases.{is_delivery}
use Rattle.quic_machine.specs.Machine.{World, after_call, end_at, control_at, heard_at}
use Rattle.quic_headline.specs.Runs.{Run, Told, Packet, Intake, In, folded, until, given_of, state_at, AreServed, LeadsTo}
use Rattle.quic_headline.specs.Observer.{Watch, first_watch, watch_from, watch, watch_told, lens_of, news, path_changes}
use Rattle.quic_headline.specs.Headline.{IsHonest, IsRun, IsAt}
use Rattle.quic_headline.specs.Polls.{seen_at, IsMade}
use Rattle.quic_headline.specs.Waited.{is_path_response}
use Rattle.quic_headline.specs.Validated.{asking, AnswerCame, IsLatest, IsOwnWord, WasAnswered, ValidatedByAnswer, AreWords, CameFromPeer, AnswersValidate}
use Rattle.quic_headline.proofs.Packets.Delivered.{frames_at, with_taken, ArrivalsFrom}
use Rattle.quic_headline.proofs.Packets.Moving.{by_asked}
use Rattle.quic_headline.proofs.Packets.Strays.{of_at}
use Rattle.quic_headline.proofs.Packets.Watching.{watched_intake, none_new, one_new}
use Rattle.quic_headline.proofs.Packets.Group.{meets}
use Rattle.quic_headline.proofs.Places.Moments.{last_seen}
use Rattle.quic_headline.proofs.Places.Parties.{Party, called, came_to, lens}
use Rattle.quic_headline.proofs.Places.Groups.{Way, Nothing, And, Group, both, over}
use Rattle.quic_headline.proofs.Places.Placed.{party_at, stands_in, Placed, placed}
use Rattle.quic_headline.proofs.Places.Coming.{by_coming_by, by_coming_from}
use Rattle.quic_headline.proofs.Places.Everything as everything
use Rattle.quic_headline.proofs.Places.Theorems.{ready}
use Rattle.quic_headline.proofs.Halves.Ready.{Ready}
use Rattle.quic_headline.proofs.Timers.Watched.{Observed}
use Rattle.quic_headline.proofs.Timers.Still.{was_open}
use Rattle.quic_headline.proofs.Isolated.Validated.{call_validated}
use Rattle.quic_headline.proofs.Moves.Kept.{apart_stays, same_path}
use Rattle.quic_headline.proofs.Moves.Comes.{Leads, those, arrivals_lead}
use Rattle.quic_headline.proofs.Moves.Route.{routed_at, changes_at}
use Rattle.quic_headline.proofs.Steps.Made.{left_at, made_served, made_end, served_before, one_behind, reads_state, reads_either, calling, CallHolds, call_holds}
use Rattle.quic_headline.proofs.Steps.Along.{stands_within}
use Rattle.quic_headline.proofs.Steps.Called.{IsCalled, StaysSo, called_or_stays}
use Rattle.quic_headline.proofs.Validated.Standing.{Standing, standing, answered_if, answered, next_stands, call_stands, frames_stand}
use Rattle.quic_headline.proofs.Validated.Went.{polled_left}
use Rattle.quic_headline.proofs.Validated.Group.{word_whole, AnswerFits, IsOwn, AnswersOwn, arrivals_answer, words_own, Challenging, challenging_group}
use Rattle.quic_headline.proofs.Validated.Asking.{Asks, Silent, AsksSo, asks_at}

-- ---- a packet

module _ (fs : List FrameValue) (e : End) (none : (passed fs e).fault ≡ None) where
  abbrev o : Option ℕ
  o = e.validation.challenge

  -- one that validates the address has PATH_RESPONSE that is right
  validates : e.path.validated ≡ false → (passed fs e).end.path.validated ≡ true → (token : List ℕ) × In (path_response token) fs × (is_asked o (word_of token) ≡ true)
  validates unvalidated validated = elim (frames_stand Q told others fs e none (inr (unvalidated, refl, λ f j. j))) [
    | inl found ↦ found
    | inr still ↦ absurd (both_ways (passed fs e).end.path.validated still.0 validated)
  ]
    where
      Found : Type 0
      Found = (token : List ℕ) × In (path_response token) fs × (is_asked o (word_of token) ≡ true)

      Q : List FrameValue → Standing → Type 0
      Q left s = Found ⊎ ((s.validated ≡ false) × (s.asked.validation.challenge ≡ o) × ((f : FrameValue) → In f left → In f fs))

      told : (token : List ℕ) (left : List FrameValue) (s : Standing) → Q (path_response token ∷ left) s → Q left (answered token s)
      told token left s (inl found) = inl found
      told token left s (inr still) = go (is_asked s.asked.validation.challenge (word_of token)) refl
        where
          go : (b : Bool) → is_asked s.asked.validation.challenge (word_of token) ≡ b → Q left (answered_if b s)
          go true is = inl (token, still.2 (path_response token) (inl refl), ap (λ (c : Option ℕ). is_asked c (word_of token)) (sym still.1) ∙ is)
          go false is = inr (still.0, still.1, λ f j. still.2 f (inr j))

      others : (f : FrameValue) (left : List FrameValue) (s : Standing) → is_path_response f ≡ false → Q (f ∷ left) s → Q left s
      others f left s other (inl found) = inl found
      others f left s other (inr still) = inr (still.0, still.1, λ g j. still.2 g (inr j))

  -- and one with it validates the address
  answers_right : (token : List ℕ) → In (path_response token) fs → is_asked o (word_of token) ≡ true → (passed fs e).end.path.validated ≡ true
  answers_right token among right = elim (frames_stand Q told others fs e none (inr (refl, among))) [ inl is ↦ is | inr left ↦ absurd left.1 ]
    where
      Q : List FrameValue → Standing → Type 0
      Q left s = (s.validated ≡ true) ⊎ ((s.asked.validation.challenge ≡ o) × In (path_response token) left)

      stays : (b : Bool) (left : List FrameValue) (s : Standing) → Q left s → Q left (answered_if b s)
      stays true left s i = inl refl
      stays false left s i = i

      same_token : (t : List ℕ) → path_response token ≡ path_response t → t ≡ token
      same_token t is = cc

      told : (t : List ℕ) (left : List FrameValue) (s : Standing) → Q (path_response t ∷ left) s → Q left (answered t s)
      told t left s (inl is) = stays (is_asked s.asked.validation.challenge (word_of t)) left s (inl is)
      told t left s (inr (same, inl is)) =
          let asked : is_asked s.asked.validation.challenge (word_of t) ≡ true = ap (λ (c : Option ℕ). is_asked c (word_of t)) same ∙ ap (λ (u : List ℕ). is_asked o (word_of u)) (same_token t is) ∙ right in
          subst (λ (b : Bool). Q left (answered_if b s)) (sym asked) (inl refl)
      told t left s (inr (same, inr j)) = stays (is_asked s.asked.validation.challenge (word_of t)) left s (inr (same, j))

      others : (f : FrameValue) (left : List FrameValue) (s : Standing) → is_path_response f ≡ false → Q (f ∷ left) s → Q left s
      others f left s other (inl is) = inl is
      others f left s other (inr (same, inl is)) = absurd (both_ways (is_path_response f) other (sym (ap is_path_response is)))
      others f left s other (inr (same, inr j)) = inr (same, j)

-- ---- a call

-- only a delivery validates the address
apart_validated : (p : Policy) (e : End) (theirs : List (List ℕ)) (call : Call) (a : Answer) → is_delivery call ≡ false → (after_call p e theirs call a).closing.state ≡ states.Open → (after_call p e theirs call a).path.validated ≡ e.path.validated
apart_validated p e theirs (calls.Poll now) a apart still = (polled_left p e now still).validated
apart_validated p e theirs call a apart still = call_stands (λ (s : Standing). s.validated ≡ e.path.validated) p e theirs call a apart refl (λ is n moment s j. j) (λ s j. j) refl

-- PATH_RESPONSE that is right stands in a packet that came between, so, and tells a word of 64
-- bits.
record Right (whence : Type 0) (o : Option ℕ) (before behind : Intake) : Type 0 where
  from : whence
  token : List ℕ
  packet : Packet
  came : In packet (news before behind)
  answers : In (path_response token) packet.frames
  right : is_asked o (word_of token) ≡ true
  fits : word_of token < 2 ^ 64

-- PATH_RESPONSE stands in one.
pub record Came (before behind : Intake) : Type 0 where
  pub token : List ℕ
  pub packet : Packet
  pub came : In packet (news before behind)
  pub answers : In (path_response token) packet.frames

-- a call is no delivery, or one from this address
abbrev IsFrom : Call → ℕ → Type 0
IsFrom call remote = (delivery : Delivery) → call ≡ calls.Deliver delivery → delivery.remote ≡ remote

-- of an end whose path is the same, and what came to it: where its address becomes validated such a
-- one came, and where one came on that path it is validated
record Answered (here whence : Type 0) (o : Option ℕ) (validated : Bool) (before : Intake) (e : End) (behind : Intake) : Type 0 where
  by : validated ≡ false → e.path.validated ≡ true → Right whence o before behind
  so : here → (token : List ℕ) (packet : Packet) → In packet (news before behind) → In (path_response token) packet.frames → is_asked o (word_of token) ≡ true → e.path.validated ≡ true

-- of one whose path is another: nothing came from where its peer was, and where the address is
-- validated the answer came
record Anew (here : Type 0) (before : Intake) (e : End) (behind : Intake) : Type 0 where
  pub away : here → ⊥
  pub came : e.path.validated ≡ true → Came before behind

-- nothing came, and it stays
none_answered : (here whence : Type 0) (o : Option ℕ) (validated : Bool) (before : Intake) (e : End) → e.path.validated ≡ validated → Answered here whence o validated before e before
none_answered here whence o validated before e same = record {
  by = λ unvalidated is. absurd (both_ways validated unvalidated (sym same ∙ is));
  so = λ from token packet came answers right. absurd (subst (λ (ps : List Packet). In packet ps) (none_new before) came);
}

-- an item of a payload is a frame of it
of_items : (fs : List FrameValue) (f : FrameValue) → In (Ok f) (map {B = Result FrameValue InvalidFrame} Ok fs) → In f fs
of_items [] f among = absurd among
of_items (g ∷ fs) f (inl is) = inl (let same : f ≡ g = cc in same)
of_items (g ∷ fs) f (inr among) = inr (of_items fs f among)

-- the address at which a peer is that moved is validated only by an answer in the same packet
moved_answered : (p : Policy) (o : Opening) (remote : ℕ) (e : End) → (migrated p o remote e).path.validated ≡ true → (token : List ℕ) × In (Ok (path_response token)) (items o.payload)
moved_answered p o remote e = by_asked Found p o remote e (λ may is. cc) (λ may is. cc) (λ x j. next_stands (λ (s : Standing). s.validated ≡ true → Answer) x (answers.UseNextId (Ok tt)) j) (λ token x j. j) (λ token x among j is. (token, among))
  where
    Answer : Type 0
    Answer = (token : List ℕ) × In (Ok (path_response token)) (items o.payload)

    Found : End → Type 0
    Found x = x.path.validated ≡ true → Answer

-- PATH_RESPONSE is taken only of a packet from where the peer is
never_elsewhere : (f : FrameValue) (token : List ℕ) → path_response token ≡ as_elsewhere f → ⊥
never_elsewhere (path_challenge t) token is = cc
never_elsewhere (path_response t) token is = cc
never_elsewhere f token is = cc

only_here : (b : Bool) (fs : List FrameValue) (token : List ℕ) → In (path_response token) (frames_at b fs) → b ≡ true
only_here true fs token among = refl
only_here false [] token among = absurd among
only_here false (f ∷ fs) token (inl is) = absurd (never_elsewhere f token is)
only_here false (f ∷ fs) token (inr among) = only_here false fs token among

-- so it is in each case of a delivery, where the end stays open
module _ (remote : ℕ) (mark : Option EcnCodepoint) (e : End) (now n : ℕ) (frames : List FrameValue) (i : Intake) (from : Type 0) (says : from → remote ≡ e.path.remote) (whence : Type 0) (there : remote ≡ e.path.remote → whence) (fits : (f : FrameValue) → In f frames → AnswerFits f) where
  abbrev Same : End → Intake → Type 0
  Same f j = Answered from whence e.validation.challenge e.path.validated i f j

  abbrev Other : End → Intake → Type 0
  Other f j = Anew from i f j

  abbrev packet : Packet
  packet = record { number = n; frames = frames }

  the_one : (p : Packet) → In p (packet ∷ []) → p ≡ packet
  the_one p (inl is) = is
  the_one p (inr none) = absurd none

  -- it came
  came_one : In packet (news i (with_taken i n frames))
  came_one = subst (λ (ps : List Packet). In packet ps) (sym (one_new i n frames)) (inl refl)

  one_came : (p : Packet) → In p (news i (with_taken i n frames)) → p ≡ packet
  one_came p came = the_one p (subst (λ (ps : List Packet). In p ps) (one_new i n frames) came)

  abbrev taken : List FrameValue
  taken = those remote mark e now n frames

  -- PATH_RESPONSE that is taken is one of the packet
  of_packet : (token : List ℕ) → In (path_response token) taken → In (path_response token) frames
  of_packet token among = elim (of_at (is_there remote e) frames (path_response token) among) [ inl there ↦ there | inr pads ↦ absurd (let clash : path_response token ≡ padding = pads in cc) ]

  arrivals_answered : ArrivalsFrom remote mark e now n frames i (λ (o : Outcome) (j : Intake). o.end.closing.state ≡ states.Open → Leads e Same Other o.end j)
  arrivals_answered = arrivals_lead remote mark e now n frames Same Other i (none_answered from whence e.validation.challenge e.path.validated i e refl)
      (λ words none. record {
        by = λ unvalidated is. (let found = validates taken (begun e now n) none unvalidated is in record {
          from = there (eqb-true remote e.path.remote (only_here (is_there remote e) frames found.0 found.1));
          token = found.0;
          packet = packet;
          came = came_one;
          answers = of_packet found.0 found.1;
          right = found.2;
          fits = fits (path_response found.0) (of_packet found.0 found.1);
        });
        so = λ here token p came answers right. whole (is_there remote e) (eq-eqb remote e.path.remote (says here)) none token (subst (λ (q : Packet). In (path_response token) q.frames) (one_came p came) answers) right;
      })
      (λ p o same away x answered. record {
        away = λ here. both_ways (is_there remote e) away (eq-eqb remote e.path.remote (says here));
        came = λ is. (let found = moved_answered p o remote x is in record {
          token = found.0;
          packet = packet;
          came = came_one;
          answers = of_items frames (path_response found.0) (subst (λ (ks : List (Result FrameValue InvalidFrame)). In (Ok (path_response found.0)) ks) same found.1);
        });
      })
    where
      whole : (b : Bool) → b ≡ true → (passed (frames_at b frames) (begun e now n)).fault ≡ None → (token : List ℕ) → In (path_response token) frames → is_asked e.validation.challenge (word_of token) ≡ true → (passed (frames_at b frames) (begun e now n)).end.path.validated ≡ true
      whole true is none token among right = answers_right frames (begun e now n) none token among right
      whole false is none token among right = cc

-- ---- at a place

-- there is one call there
same_call : (side : Side) (call other : Call) (o : Option RunEvent) → o ≡ Some (record { side = side; call = call }) → o ≡ Some (record { side = side; call = other }) → call ≡ other
same_call side call other o is also =
    let here : RunEvent = record { side = side; call = call } in
    let there : RunEvent = record { side = side; call = other } in
    ap (λ (f : RunEvent). f.call) (same here there (sym is ∙ also))
  where
    same : (f g : RunEvent) → Some f ≡ Some g → f ≡ g
    same f g equal = cc

one_delivery : (d other : Delivery) → calls.Deliver d ≡ calls.Deliver other → other ≡ d
one_delivery d other is = cc

-- the word that is asked, if one is, fits 64 bits
abbrev IsSmall : Option ℕ → Type 0
IsSmall o = (word : ℕ) → o ≡ Some word → word < 2 ^ 64

-- all that holds between the ends, and what both ask
abbrev pub All : Way
All = And (everything.All Ready ready) Challenging

pub all : Group Nothing All
all = both Nothing (everything.All Ready ready) Challenging (everything.all Ready ready) (over Observed (And Nothing (everything.All Ready ready)) Challenging (λ x y h. (h.1.0.0, h.1.1)) challenging_group)

module _ (r : Run) (end : World) (honest : IsHonest r) (run : IsRun r end) (side : Side) (i : ℕ) (call : Call) (a : Answer) (w next : World) (m : IsMade r i side call a w next) (leads : LeadsTo r (suc i) next) (still : (end_at side next).closing.state ≡ states.Open) where
  pub h : CallHolds All r i side call a w
  h = call_holds All all r end honest run i side call a w next (λ id is. honest.ids side i id call a m.at is) (run.codes (record { side = side; call = call }) (stands_in r.events i (record { side = side; call = call }) m.at.event)) m

  abbrev pub x : Party
  x = calling r i w side call h.sents

  abbrev pub y : Party
  y = party_at r i w (other_side side) h.theirs

  abbrev pub behind : Party
  behind = called x y.given call a

  pub left : end_at side next ≡ left_at r side w call a
  left = made_end r i side call a w next m

  pub open_behind : behind.end.closing.state ≡ states.Open
  open_behind = sym (ap (λ (e : End). e.closing.state) left) ∙ still

  pub opened : x.end.closing.state ≡ states.Open
  opened = was_open x.policy x.end y.given call a open_behind

  -- that a poll reads its window changes nothing of it
  reads : standing x.end ≡ standing (end_at side w)
  reads = reads_either (λ (e : End). standing e ≡ standing (end_at side w)) (control_at side w) (heard_at side w) call (end_at side w) refl refl

  pub reads_path : (x.end.path.generation ≡ (end_at side w).path.generation) × (x.end.path.remote ≡ (end_at side w).path.remote)
  reads_path = reads_either (λ (e : End). (e.path.generation ≡ (end_at side w).path.generation) × (e.path.remote ≡ (end_at side w).path.remote)) (control_at side w) (heard_at side w) call (end_at side w) (refl, refl) (refl, refl)

  pub open_there : (end_at side w).closing.state ≡ states.Open
  open_there = sym (reads_state (control_at side w) (heard_at side w) call (end_at side w)) ∙ opened

  asks : AsksSo (asking r side i).latest (asking r side i).renewed (standing x.end)
  asks = subst (λ (s : Standing). AsksSo (asking r side i).latest (asking r side i).renewed s) (sym reads) (asks_at r end honest run side i w (stands_within r end run side i side call a w next m) (served_before r.answers i m.served) m.leads open_there)

  -- the path changes where the lists say so
  pub changes : path_changes r side i ≡ has_moved x.end behind.end
  changes =
      changes_at r end honest run side i w next m.served m.leads leads
      ∙ ap (λ (e : End). has_moved (end_at side w) e) left
      ∙ ap (λ (g : ℕ). not (behind.end.path.generation == g)) (sym reads_path.0)

  -- what came by the run's lists is what came to it
  pub news_are : news (watch r side i).intake (watch r side (suc i)).intake ≡ news (came_to x y) (came_to behind y)
  news_are =
      ap (λ (j : Intake). news j (watch r side (suc i)).intake) (ap (λ (v : Watch). v.intake) h.seen ∙ watched_intake (lens x y) x.told (first_watch x.final x.began x.made.path.remote x.first_rtt x.initial_delay))
      ∙ ap (λ (j : Intake). news (came_to x y) j) (ap (λ (v : Watch). v.intake) h.seen_behind ∙ watched_intake (lens x y) behind.told (first_watch x.final x.began x.made.path.remote x.first_rtt x.initial_delay))

  -- where it comes from
  abbrev Here : Type 0
  Here = IsFrom call x.end.path.remote

  -- it is a delivery from there
  abbrev Whence : Type 0
  Whence = (delivery : Delivery) × (call ≡ calls.Deliver delivery) × (delivery.remote ≡ x.end.path.remote)

  abbrev Answers : End → Intake → Type 0
  Answers e j = Leads x.end (λ (f : End) (k : Intake). Answered Here Whence x.end.validation.challenge x.end.path.validated (came_to x y) f k) (λ (f : End) (k : Intake). Anew Here (came_to x y) f k) e j

  answered_behind : Answers behind.end (came_to behind y)
  answered_behind = by_coming_from x y a h.joined (made_served r i side call a w next m) (meets y x h.takes.0.0.0) (λ (b : Answer) (e : End) (j : Intake). e.closing.state ≡ states.Open → Answers e j) call m.step.answer (record {
    apart = λ apart opened.
        let f : End = after_call x.policy x.end y.given call a in
        inl (same_path x.end f (apart_stays x.policy x.end y.given call a apart), none_answered Here Whence x.end.validation.challenge x.end.path.validated (came_to x y) f (apart_validated x.policy x.end y.given call a apart opened));
    none = λ delivery is opened. inl (same_path x.end x.end refl, none_answered Here Whence x.end.validation.challenge x.end.path.validated (came_to x y) x.end refl);
    comes = λ delivery is s among. arrivals_answered delivery.remote delivery.ecn x.end delivery.now s.number s.frames (came_to x y) Here (λ here. here delivery is) Whence (λ same. (delivery, is, same)) (h.takes.1.answers s among);
  }) open_behind

  -- an answer that came to it came by the lists
  came_so : Came (came_to x y) (came_to behind y) → (token : List ℕ) × AnswerCame r side i token
  came_so found = (found.token, record { packet = found.packet; came = subst (λ (ps : List Packet). In found.packet ps) (sym news_are) found.came; answers = found.answers })

  left_validated : behind.end.path.validated ≡ (end_at side next).path.validated
  left_validated = sym (ap (λ (e : End). e.path.validated) left)

  -- where the path changes the address is validated only by an answer in the same packet
  pub answered_there : path_changes r side i ≡ true → (end_at side next).path.validated ≡ true → (token : List ℕ) × AnswerCame r side i token
  answered_there moves validated = elim answered_behind [
    | inl same ↦ absurd (both_ways (has_moved x.end behind.end) same.0 (sym changes ∙ moves))
    | inr moved ↦ came_so (moved.1.came (left_validated ∙ validated))
  ]

  -- and where it doesn't, one that was validated is so
  pub stays_validated : path_changes r side i ≡ false → (end_at side w).path.validated ≡ true → (end_at side next).path.validated ≡ true
  stays_validated stays validated = sym left_validated ∙ call_validated x.policy x.end y.given call a (ap (λ (s : Standing). s.validated) reads ∙ validated) (sym changes ∙ stays)

  -- by a word that the end may have drawn, where the path changes
  answered_own : has_moved x.end behind.end ≡ true → behind.end.path.validated ≡ true → AnswersOwn (IsOwn x) (came_to x y) (came_to behind y)
  answered_own = by_coming_by x y a h.joined (made_served r i side call a w next m) (meets y x h.takes.0.0.0) (λ (b : Answer) (e : End) (j : Intake). e.closing.state ≡ states.Open → has_moved x.end e ≡ true → e.path.validated ≡ true → AnswersOwn (IsOwn x) (came_to x y) j) call m.step.answer (record {
    apart = λ apart opened moved. absurd (both_ways (has_moved x.end (after_call x.policy x.end y.given call a)) (same_path x.end (after_call x.policy x.end y.given call a) (apart_stays x.policy x.end y.given call a apart)) moved);
    none = λ delivery is opened moved. absurd (both_ways (has_moved x.end x.end) (same_path x.end x.end refl) moved);
    comes = λ delivery is s among. arrivals_answer (IsOwn x) x.policy (words_own x) delivery.remote delivery.ecn x.end delivery.now s.number s.frames (came_to x y);
  }) open_behind

  -- where the address becomes validated, the peer answered
  pub was_answered : (end_at side w).path.validated ≡ false → (end_at side next).path.validated ≡ true → WasAnswered r side i
  was_answered unvalidated validated = elim answered_behind [
    | inl same ↦ right_so (same.1.by unvalidated_here (left_validated ∙ validated)) (asks unvalidated_here)
    | inr moved ↦ (
        let found = answered_own moved.0 (left_validated ∙ validated) in
        record { token = found.0; came = record { packet = found.1; came = subst (λ (ps : List Packet). In found.1 ps) (sym news_are) found.2; answers = found.3 }; right = inr (inr (changes ∙ moved.0), found.4); from = inr (changes ∙ moved.0) })
  ]
    where
      unvalidated_here : x.end.path.validated ≡ false
      unvalidated_here = ap (λ (s : Standing). s.validated) reads ∙ unvalidated

      -- it came from there by the lists
      from_there : Whence → CameFromPeer r side i
      from_there (delivery, is, same) = record {
        delivery = delivery;
        answer = a;
        at = subst (λ (c : Call). IsAt r i side c a) is m.at;
        from = same ∙ reads_path.1 ∙ sym (routed_at r end honest run side i w (served_before r.answers i m.served) m.leads).address;
      }

      right_so : Right Whence x.end.validation.challenge (came_to x y) (came_to behind y) → Asks (asking r side i).latest (asking r side i).renewed (standing x.end) ⊎ Silent (asking r side i).renewed (standing x.end) → WasAnswered r side i
      right_so found (inl asked) = record {
        token = found.token;
        came = record { packet = found.packet; came = subst (λ (ps : List Packet). In found.packet ps) (sym news_are) found.came; answers = found.answers };
        right = elim asked.either [
          | inl waits ↦ inr (inl waits.1, subst (IsOwnWord r side) same (h.gives.1.own opened asked.word (inl asked.asked)))
          | inr went ↦ inl (subst (λ (latest : Option (List ℕ)). IsLatest latest found.token) (sym went.1) (sym same ∙ sym (word_whole asked.word (subst (λ (n : ℕ). n < 2 ^ 64) (sym same) found.fits))))
        ];
        from = inl (from_there found.from);
      }
        where
          same : asked.word ≡ word_of found.token
          same = eqb-true asked.word (word_of found.token) (sym (ap (λ (o : Option ℕ). is_asked o (word_of found.token)) asked.asked) ∙ found.right)
      right_so found (inr none) = absurd (let clash : false ≡ true = sym (ap (λ (o : Option ℕ). is_asked o (word_of found.token)) none.asked) ∙ found.right in cc)

  -- where it answered from there, the address is validated, if the word that is asked fits 64 bits
  pub is_validated : ((end_at side w).closing.state ≡ states.Open → IsSmall (end_at side w).validation.challenge) → CameFromPeer r side i → (asking r side i).renewed ≡ false → (token : List ℕ) → AnswerCame r side i token → IsLatest (asking r side i).latest token → (end_at side next).path.validated ≡ true
  is_validated small from renewed token came right = sym left_validated ∙ elim answered_behind [
    | inl same ↦ go same.0 same.1.so x.end.path.validated refl
    | inr moved ↦ absurd (moved.1.away here)
  ]
    where
      here : Here
      here other is =
          ap (λ (d : Delivery). d.remote) (one_delivery from.delivery other (sym (same_call side call (calls.Deliver from.delivery) (slice_get r.events i) m.at.event from.at.event) ∙ is))
          ∙ from.from
          ∙ (routed_at r end honest run side i w (served_before r.answers i m.served) m.leads).address
          ∙ sym reads_path.1

      go : has_moved x.end behind.end ≡ false → (Here → (t : List ℕ) (packet : Packet) → In packet (news (came_to x y) (came_to behind y)) → In (path_response t) packet.frames → is_asked x.end.validation.challenge (word_of t) ≡ true → behind.end.path.validated ≡ true)
          → (b : Bool) → x.end.path.validated ≡ b → behind.end.path.validated ≡ true
      go stays so true is = call_validated x.policy x.end y.given call a is stays
      go stays so false is = elim (asks is) [
        | inr none ↦ absurd (both_ways (asking r side i).renewed renewed none.again)
        | inl asked ↦ elim asked.either [
          | inl waits ↦ absurd (both_ways (asking r side i).renewed renewed waits.1)
          | inr went ↦ (
              let told : word_of token ≡ word_of (token_of asked.word) = subst (λ (latest : Option (List ℕ)). IsLatest latest token) went.1 right in
              let whole : word_of (token_of asked.word) ≡ asked.word = word_whole asked.word (small open_there asked.word (sym (ap (λ (s : Standing). s.asked.validation.challenge) reads) ∙ asked.asked)) in
              so here token came.packet (subst (λ (ps : List Packet). In came.packet ps) news_are came.came) came.answers
              (ap (λ (o : Option ℕ). is_asked o (word_of token)) asked.asked ∙ eq-eqb asked.word (word_of token) (sym whole ∙ sym told)))
        ]
      ]

-- ---- the clauses

module _ (r : Run) (end : World) (honest : IsHonest r) (run : IsRun r end) (side : Side) (i : ℕ) (served : AreServed r (suc i)) (opened : state_at r side (suc i) ≡ states.Open) where
  at : Placed All r end side (suc i)
  at = placed All all r end honest run side (suc i) served

  still : (end_at side at.world).closing.state ≡ states.Open
  still = at.state ∙ opened

  seen_behind : (seen_at r side (suc i)).validated ≡ (end_at side at.world).path.validated
  seen_behind = ap (λ (u : EndView). u.validated) (last_seen side r.keys (suc i) r.start at.world r.events r.answers r.views at.leads)

  seen_before : (w : World) → LeadsTo r i w → (seen_at r side i).validated ≡ (end_at side w).path.validated
  seen_before w leads = ap (λ (u : EndView). u.validated) (last_seen side r.keys i r.start w r.events r.answers r.views leads)

  either : IsCalled r side i at.world ⊎ StaysSo r side i
  either = called_or_stays r end run side i at.world served at.leads

  -- where nothing is told an end, its observer knows as much as before
  watches : until r side (suc i) ≡ until r side i → watch r side (suc i) ≡ watch r side i
  watches same = ap (λ (ts : List Told). folded (watch_told (lens_of r side)) ts (watch_from (end_at side r.start) (given_of r side))) same

  pub by_answer : (seen_at r side i).validated ≡ false → (seen_at r side (suc i)).validated ≡ true → WasAnswered r side i
  by_answer unvalidated validated = elim either [
    | inl here ↦ was_answered r end honest run side i here.call here.answer here.before at.world here.made at.leads still (sym (seen_before here.before here.made.leads) ∙ unvalidated) (sym seen_behind ∙ validated)
    | inr stays ↦ absurd (both_ways (seen_at r side i).validated unvalidated (sym (ap (λ (u : EndView). u.validated) stays.seen) ∙ validated))
  ]

  -- so it is where the word that is asked there fits 64 bits
  pub answer_validates : ((w : World) → LeadsTo r i w → (end_at side w).closing.state ≡ states.Open → IsSmall (end_at side w).validation.challenge) → CameFromPeer r side i → (asking r side i).renewed ≡ false → (token : List ℕ) → AnswerCame r side i token → IsLatest (asking r side i).latest token → (seen_at r side (suc i)).validated ≡ true
  answer_validates small from renewed token came right = elim either [
    | inl here ↦ seen_behind ∙ is_validated r end honest run side i here.call here.answer here.before at.world here.made at.leads still (small here.before here.made.leads) from renewed token came right
    | inr stays ↦ absurd (subst (λ (ps : List Packet). In came.packet ps) (ap (λ (v : Watch). news (watch r side i).intake v.intake) (watches stays.told) ∙ none_new (watch r side i).intake) came.came)
  ]

  -- an address that is validated stays so on the same path
  pub stays_seen : path_changes r side i ≡ false → (seen_at r side i).validated ≡ true → (seen_at r side (suc i)).validated ≡ true
  stays_seen same validated = elim either [
    | inl here ↦ seen_behind ∙ stays_validated r end honest run side i here.call here.answer here.before at.world here.made at.leads still same (sym (seen_before here.before here.made.leads) ∙ validated)
    | inr stays ↦ ap (λ (u : EndView). u.validated) stays.seen ∙ validated
  ]

  -- and on another it is so only where the answer came with the packet by which the path changed
  pub answered_seen : path_changes r side i ≡ true → (seen_at r side (suc i)).validated ≡ true → (token : List ℕ) × AnswerCame r side i token
  answered_seen moves validated = elim either [
    | inl here ↦ answered_there r end honest run side i here.call here.answer here.before at.world here.made at.leads still moves (sym seen_behind ∙ validated)
    | inr stays ↦ absurd (both_ways (path_changes r side i)
        (ap (λ (v : Watch). not (v.route.generation == (watch r side i).route.generation)) (watches stays.told) ∙ ap not (eq-eqb (watch r side i).route.generation (watch r side i).route.generation refl)) moves)
  ]

pub validated_by_answer : (r : Run) (end : World) → IsHonest r → IsRun r end → ValidatedByAnswer r
validated_by_answer r end honest run side i served opened unvalidated validated = by_answer r end honest run side i served opened unvalidated validated

-- ---- words of 64 bits

-- where they do, each word that an open end asks fits
asks_words : (r : Run) (end : World) → IsHonest r → IsRun r end → AreWords r → (side : Side) (i : ℕ) (w : World) → AreServed r i → LeadsTo r i w → (end_at side w).closing.state ≡ states.Open → IsSmall (end_at side w).validation.challenge
asks_words r end honest run words side i w served leads opened =
    let at : Placed All r end side i = placed All all r end honest run side i served in
    let same : w ≡ at.world = one_behind r i w at.world served leads at.leads in
    subst (λ (v : World). (end_at side v).closing.state ≡ states.Open → IsSmall (end_at side v).validation.challenge) (sym same) (λ there word is. fits word (at.gives.1.own there word (inl is))) opened
  where
    fits : (word : ℕ) → IsOwnWord r side word → word < 2 ^ 64
    fits word (inl drawn) = subst (λ (n : ℕ). n < 2 ^ 64) drawn.1 (words.drawn side drawn.0)
    fits word (inr asked) = words.asked side word asked

pub answers_validate : (r : Run) (end : World) → IsHonest r → IsRun r end → AnswersValidate r
answers_validate r end honest run words side i token served opened from renewed came right =
    answer_validates r end honest run side i served opened (λ w leads. asks_words r end honest run words side i w (served_before r.answers i served) leads) from renewed token came right
