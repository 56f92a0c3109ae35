-- So it is of counts: each that an end said in MAX_STREAMS is at most as many as it lets its peer
-- have at once, past those that are done.
use Rattle.std.proofs.Common.{◌≡◌, ℕ, ◌+◌, ◌≤◌, Bool, true, false, cond, not, ◌&&◌, ◌||◌, List, [], ◌∷◌, ◌++◌, Option, Some, None, refl, sym, ap, ◌∙◌, subst, arith, inl, inr}
use Rattle.std.specs.Option.{is_some}
use Rattle.std.proofs.lemmas.Bool.{and_from, and_parts, or_cases, or_left, or_right, not_from_false}
use Rattle.std.proofs.lemmas.List.Sums.{sum_by-le-sum_by}
use Rattle.quic_wire_core.specs.declared.stream_id.Side.{Side}
use Rattle.quic_wire_core.specs.declared.stream_id.Dir.{Dir}
use Rattle.quic_wire_core.specs.declared.stream_id.Dir.TheVariants.{Bi, Uni}
use Rattle.quic_wire_core.specs.StreamId.{other_side, dir_of}
use Rattle.quic_wire.specs.Value.{FrameValue, StreamCountValue, max_streams}
use Rattle.quic_config.specs.Transport.{Settings, parameters_of}
use Rattle.quic_streams_parts.specs.Dirs.{Counts, of, is_own, is_two_way}
use Rattle.quic_streams_parts.specs.Table.{at}
use Rattle.quic_streams_parts.specs.SendHalf.{SendHalf}
use Rattle.quic_streams_parts.specs.RecvHalf.{RecvHalf}
use Rattle.quic_streams_halves.specs.Halves.{Status, unknown, fresh, live, done, status_from, has_place, no_places, is_done, idle_status}
use Rattle.quic_retransmits.specs.Retransmits.{Retransmits}
use Rattle.quic_streams_state.specs.declared.state.StreamsState.{StreamsState}
use Rattle.quic_streams_state.specs.State.{new_streams, is_opened, sends_on, receives_on, sending_status, receiving_status}
use Rattle.quic_streams_state.specs.Limits.{raised_count}
use Rattle.quic_streams_state.specs.Control.{Goes, dir_named}
use Rattle.quic_streams_laws.specs.Each.{HalfIs, StatusIs}
use Rattle.quic_streams_laws.specs.KeepingLaws.{by_accept, by_stream, by_reset_frame}
use Rattle.quic_streams_laws.specs.QuietLaws.{is_quiet, by_tells}
use Rattle.quic_streams_laws.specs.StartLaws.{shape_new, shape_set_params, few_new, few_set_params}
use Rattle.quic_streams_laws.specs.Summed.{sum_below}
use Rattle.quic_streams_laws.specs.Written.{IsOver, HoldsWritten}
use Rattle.quic_machine.specs.declared.answers.State.TheVariants as states
use Rattle.quic_machine.specs.declared.run.Call.{Call}
use Rattle.quic_machine.specs.declared.run.Call.TheVariants as calls
use Rattle.quic_machine.specs.declared.run.Answer.{Answer}
use Rattle.quic_machine.specs.FrameCases.{begun, frames_keep}
use Rattle.quic_machine.specs.End.{End}
use Rattle.quic_machine.specs.Receive.{take_frame}
use Rattle.quic_machine.specs.Machine.{World, IsAnswer, gave}
use Rattle.quic_headline.specs.Runs.{Run, Told, Packet, Intake, In, until, ended, reset, first_of, reset_by, ended_by}
use Rattle.quic_headline.specs.Observer.{Sent, Watch, took, sents_until}
use Rattle.quic_headline.specs.Headline.{IsHonest, IsRun}
use Rattle.quic_headline.specs.Amounts.{making_at}
use Rattle.quic_headline.specs.Undone.{same_dir}
use Rattle.quic_headline.specs.Credit.{streams_of, is_read_up, is_written_up, is_over, all_over, most_at_once, CountsAreBounded}
use Rattle.quic_headline.proofs.Packets.Group.{meets}
use Rattle.quic_headline.proofs.Places.Told.{in_append, ended_more}
use Rattle.quic_headline.proofs.Places.Steps.{poll_answer}
use Rattle.quic_headline.proofs.Places.Parties.{told_of, Party, called, came_to, sent_by, sent_if, sents_by, Beginning, begun_as, AreMade}
use Rattle.quic_headline.proofs.Places.Groups.{Way, Nothing, And, Calls, Group, both, over}
use Rattle.quic_headline.proofs.Places.Coming.{by_coming}
use Rattle.quic_headline.proofs.Places.Placed.{party_at, Placed, placed, start_is, watch_is}
use Rattle.quic_headline.proofs.Places.Openings.{took_is}
use Rattle.quic_headline.proofs.Halves.Counts.{counts_in_range}
use Rattle.quic_headline.proofs.Halves.Ghosts.{wrote, IsWriting}
use Rattle.quic_headline.proofs.Halves.QuietSteps.{frame_quiet, sent_within}
use Rattle.quic_headline.proofs.Halves.ReadCalls.{any_kept, call_kept}
use Rattle.quic_headline.proofs.Halves.Writer.{grows_behind}
use Rattle.quic_headline.proofs.Halves.Wrote.{reset_more}
use Rattle.quic_headline.proofs.Channel.AllStreams.{ids}
use Rattle.quic_headline.proofs.Unread.Walk.{Of}
use Rattle.quic_headline.proofs.Unread.Newest.{NewestSaid, newest_group}
use Rattle.quic_headline.proofs.Credit.Lists.{usage, told_uses, packet_uses, sum_listed, sized_among, frames_more}
use Rattle.quic_headline.proofs.Credit.Counted.{IsCounted, IsSpent, IsAny, Uses, up_more}
use Rattle.quic_headline.proofs.Credit.Drafts.{AreFine, poll_fine}
use Rattle.quic_headline.proofs.Credit.Done.{IsLeft, RunsOneWay, mark, marked, CountsDone, done_kept}
use Rattle.quic_headline.proofs.Credit.Clause.{Base, Credits, credited}
use Rattle.quic_headline.proofs.Packets.Delivered.{frames_at}
use Rattle.quic_headline.proofs.Halves.Moved.{in_arrivals}

-- ---- what the lists say

cond_more : (a b : Bool) → (a ≡ true → b ≡ true) → cond a 1 0 ≤ cond b 1 0
cond_more true true f = omega arith
cond_more true false f = let clash : false ≡ true = f refl in cc
cond_more false b f = omega arith

-- nothing more is written on a stream, and so it stays
written_more : (id : ℕ) (ts : List Told) (t : Told) → is_written_up id ts ≡ true → is_written_up id (ts ++ t ∷ []) ≡ true
written_more id ts t up = elim (or_cases (not (is_two_way (dir_of id))) (ended id ts || is_some (reset id ts)) up) [
  | inl one ↦ or_left (not (is_two_way (dir_of id))) (ended id (ts ++ t ∷ []) || is_some (reset id (ts ++ t ∷ []))) one
  | inr over ↦ or_right (not (is_two_way (dir_of id))) (ended id (ts ++ t ∷ []) || is_some (reset id (ts ++ t ∷ []))) (elim (or_cases (ended id ts) (is_some (reset id ts)) over) [
    | inl is ↦ or_left (ended id (ts ++ t ∷ [])) (is_some (reset id (ts ++ t ∷ []))) (ended_more id ts t ∙ or_left (ended id ts) (ended_by id t.call t.answer) is)
    | inr is ↦ or_right (ended id (ts ++ t ∷ [])) (is_some (reset id (ts ++ t ∷ []))) (ap is_some (reset_more id ts t) ∙ first_some (reset id ts) (reset_by id t.call t.answer) is)
  ])
]
  where
    first_some : (a b : Option ℕ) → is_some a ≡ true → is_some (first_of a b) ≡ true
    first_some (Some n) b is = refl
    first_some None b is = cc

-- a stream that is done stays so
over_more : (side : Side) (dir : Dir) (ps qs : List Packet) (ts us : List Told) (id : ℕ) → (is_read_up id ps ts ≡ true → is_read_up id qs us ≡ true) → (is_written_up id ts ≡ true → is_written_up id us ≡ true) → is_over side dir ps ts id ≡ true → is_over side dir qs us id ≡ true
over_more side dir ps qs ts us id reads writes is =
    let parts = and_parts (not (is_own side id)) (same_dir (dir_of id) dir && (is_read_up id ps ts && is_written_up id ts)) is in
    let more = and_parts (same_dir (dir_of id) dir) (is_read_up id ps ts && is_written_up id ts) parts.1 in
    let ups = and_parts (is_read_up id ps ts) (is_written_up id ts) more.1 in
    and_from (not (is_own side id)) (same_dir (dir_of id) dir && (is_read_up id qs us && is_written_up id us)) parts.0
    (and_from (same_dir (dir_of id) dir) (is_read_up id qs us && is_written_up id us) more.0 (and_from (is_read_up id qs us) (is_written_up id us) (reads ups.0) (writes ups.1)))

told_over : (side : Side) (dir : Dir) (packets : List Packet) (ts : List Told) (t : Told) → all_over side dir packets ts ≤ all_over side dir packets (ts ++ t ∷ [])
told_over side dir packets ts t = sum_by-le-sum_by (λ id. cond (is_over side dir packets ts id) 1 0) (λ id. cond (is_over side dir packets (ts ++ t ∷ []) id) 1 0) (streams_of packets)
    (λ id. cond_more (is_over side dir packets ts id) (is_over side dir packets (ts ++ t ∷ []) id) (over_more side dir packets packets ts (ts ++ t ∷ []) id (up_more (usage packets ts) (usage packets (ts ++ t ∷ [])) (told_uses packets ts t) id) (written_more id ts t)))

packet_over : (side : Side) (dir : Dir) (p : Packet) (packets : List Packet) (ts : List Told) → all_over side dir packets ts ≤ all_over side dir (p ∷ packets) ts
packet_over side dir p packets ts =
    let each = sum_by-le-sum_by (λ id. cond (is_over side dir packets ts id) 1 0) (λ id. cond (is_over side dir (p ∷ packets) ts id) 1 0) (streams_of packets)
    (λ id. cond_more (is_over side dir packets ts id) (is_over side dir (p ∷ packets) ts id) (over_more side dir packets (p ∷ packets) ts ts id (up_more (usage packets ts) (usage (p ∷ packets) ts) (packet_uses p packets ts) id) (λ w. w))) in
    let more = frames_more (λ id. cond (is_over side dir (p ∷ packets) ts id) 1 0) p.frames (streams_of packets) in
    omega (arith, each, more)

-- ---- streams that count as done are done by the lists

-- by how far their halves have come
left_done : (x : Status RecvHalf) → IsLeft true x → is_done x ≡ true
left_done unknown i = cc
left_done fresh i = cc
left_done (live h) i = cc
left_done done i = refl

done_there : {A : Type 0} (N : Type 0) (Q : A → Type 0) (D : Type 0) (o : Option A) (m used : Bool) → is_done (status_from o m used) ≡ true → HalfIs N Q D o used → (used ≡ true → m ≡ true) → D
done_there N Q D (Some a) m used is i may = cc
done_there N Q D None true true is i may = i
done_there N Q D None true false is i may = cc
done_there N Q D None false true is i may = i
done_there N Q D None false false is i may = cc

sent_there : (N : Type 0) (o : Option SendHalf) (m used : Bool) → (N → ⊥) → HalfIs N (λ (h : SendHalf). N) (Unit {0}) o used → (used ≡ true → m ≡ true) → is_done (status_from o m used) ≡ true
sent_there N (Some h) m used none i may = absurd (none i)
sent_there N None true true none i may = refl
sent_there N None false true none i may = (let clash : false ≡ true = may refl in cc)
sent_there N None m false none i may = absurd (none i)

status_there : {A : Type 0} (N : Type 0) (Q : A → Type 0) (D : Type 0) (x : Status A) → is_done x ≡ true → StatusIs N Q D x → D
status_there N Q D unknown is i = cc
status_there N Q D fresh is i = cc
status_there N Q D (live a) is i = cc
status_there N Q D done is i = i

module _ (wide each_wide : ℕ) (side : Side) (packets : List Packet) (ts : List Told) (s : StreamsState) (of_side : s.side ≡ side) (uses : Of (Uses wide each_wide (usage packets ts)) s) (holds : HoldsWritten (wrote ts) s) (i : CountsDone s) where
  -- nothing more is read of it, and something came of it
  spent : (id : ℕ) → i.both id ≡ true → IsSpent (usage packets ts) id (uses.sums.final id)
  spent id one =
      let ended_there : is_done (receiving_status s id) ≡ true = left_done (receiving_status s id) (subst (λ (b : Bool). IsLeft b (receiving_status s id)) one (i.receives.each id)) in
      done_there (IsAny id) (IsCounted (usage packets ts) id) (IsSpent (usage packets ts) id (uses.sums.final id)) (at s.receiving.halves.live id) (receives_on s.side id && is_opened s id) (has_place s.side s.receiving.halves.places id) ended_there (uses.sums.each id) (i.receives.shape.receiving.allowed id)

  -- nothing more is written on it
  written_up : (id : ℕ) → i.both id ≡ true → is_written_up id ts ≡ true
  written_up id one = go (is_two_way (dir_of id)) refl
    where
      go : (b : Bool) → is_two_way (dir_of id) ≡ b → (not b || (ended id ts || is_some (reset id ts))) ≡ true
      go false is = refl
      go true is =
          let gone : is_done (sending_status s id) ≡ true = sent_there (RunsOneWay i.both id) (at s.sending.halves.live id) (sends_on s.side id && is_opened s id) (has_place s.side s.sending.halves.places id) (λ none. none one is) (i.sends.each id) (i.sends.shape.sending.allowed id) in
          let over : IsOver (wrote ts id) = status_there _ _ (IsOver (wrote ts id)) (sending_status s id) gone (holds.each id) in
          elim over [ inl end ↦ or_left (ended id ts) (is_some (reset id ts)) end | inr code ↦ or_right (ended id ts) (is_some (reset id ts)) code ]

  over_there : (dir : Dir) (id : ℕ) → same_dir (dir_of id) dir ≡ true → i.both id ≡ true → is_over side dir packets ts id ≡ true
  over_there dir id same one =
      let own : is_own side id ≡ false = subst (λ (x : Side). is_own x id ≡ false) of_side (i.theirs id one) in
      and_from (not (is_own side id)) (same_dir (dir_of id) dir && (is_read_up id packets ts && is_written_up id ts)) (not_from_false (is_own side id) own)
      (and_from (same_dir (dir_of id) dir) (is_read_up id packets ts && is_written_up id ts) same (and_from (is_read_up id packets ts) (is_written_up id ts) (spent id one).2 (written_up id one)))

  -- so no more count as done than are done by the lists
  pub done_within : (dir : Dir) → of dir s.opening.done ≤ all_over side dir packets ts
  done_within dir =
      let most : sum_below ids (marked i.both dir) ≤ all_over side dir packets ts = sum_listed ids (marked i.both dir) (λ id. cond (is_over side dir packets ts id) 1 0) (streams_of packets) less none in
      let was = i.count dir in
      omega (arith, most, was)
    where
      less : (id : ℕ) → marked i.both dir id ≤ cond (is_over side dir packets ts id) 1 0
      less id = go (same_dir (dir_of id) dir) (i.both id) refl refl
        where
          go : (a b : Bool) → same_dir (dir_of id) dir ≡ a → i.both id ≡ b → mark (a && b) ≤ cond (is_over side dir packets ts id) 1 0
          go true true same one = subst (λ (b : Bool). 1 ≤ cond b 1 0) (sym (over_there dir id same one)) (omega arith)
          go true false same one = omega arith
          go false b same one = omega arith

      none : (id : ℕ) → (In id (streams_of packets) → ⊥) → marked i.both dir id ≡ 0
      none id out = go (same_dir (dir_of id) dir) (i.both id) refl
        where
          go : (a b : Bool) → i.both id ≡ b → mark (a && b) ≡ 0
          go true true one = absurd (out (sized_among id packets (spent id one).3))
          go true false one = refl
          go false b one = refl

-- ---- what each call leaves

done_frame : (f : FrameValue) (e : End) → CountsDone e.streams → CountsDone (take_frame f e).end.streams
done_frame f e i = frame_quiet CountsDone (is_quiet CountsDone done_kept) f e
    (λ g is. by_stream CountsDone done_kept e.streams e.waiting.frames g (λ h a u. tt) i)
    (λ g is. by_reset_frame CountsDone done_kept e.streams e.waiting.frames g (λ h a u. tt) i)
    i

-- ---- the group

-- y reads what x writes: what it counts as done, and what it said of counts
pub record CountCredits (x y : Party) : Type 0 where
  pub counts : CountsDone y.end.streams
  pub said : (s : Sent) → In s y.sents → (f : StreamCountValue) → In (max_streams f) s.frames → f.count ≤ of (dir_named f.one_way) y.made.streams.opening.configured + all_over y.side (dir_named f.one_way) (came_to y x).took y.told

-- the packets, what was written, said and read, what was consumed, and limits
abbrev Known : Way
Known = And (And Base Credits) NewestSaid

abbrev N : Way
N = And Nothing Known

module _ (w : IsWriting N) (x y : Party) (call : Call) (a : Answer) (c : Calls N x y call a) (i : CountCredits y x) where
  abbrev packets : List Packet
  packets = (came_to x y).took

  abbrev t : Told
  t = told_of call a x.end.closing.state

  credits : Credits y x
  credits = c.takes.1.0.1

  -- what counts as done
  counts_call : CountsDone (called x y.given call a).end.streams
  counts_call = by_coming x y a c.joined c.served (meets y x (w.packets y x c.takes)) (λ (e : End) (j : Intake). CountsDone e.streams) call c.answer (record {
    apart = λ apart. call_kept CountsDone (any_kept CountsDone done_kept) x.policy x.end y.given (sent_within (wrote x.told) x.end.streams (w.written x y c.gives)) i.counts call a c.answer apart
        (λ dir is. by_accept CountsDone done_kept dir x.end.streams (λ may. may) i.counts);
    none = λ delivery is. i.counts;
    comes = λ delivery is s among here. in_arrivals CountsDone x.end delivery.now s.number s.frames (frames_at here s.frames) (came_to x y) i.counts
        (frames_keep (λ (e : End). CountsDone e.streams) done_frame (frames_at here s.frames) (begun x.end delivery.now s.number) i.counts);
  })

  -- what is said of counts
  abbrev bound : List Packet → List Told → Bool → ℕ
  bound ps ts one_way = of (dir_named one_way) x.made.streams.opening.configured + all_over x.side (dir_named one_way) ps ts

  abbrev Within : List Packet → List Told → FrameValue → Type 0
  Within ps ts (max_streams f) = f.count ≤ bound ps ts f.one_way
  Within ps ts f = Unit {0}

  -- x is open, and as many count as done as do before the call
  abbrev AsThere : StreamsState → Type 0
  AsThere s = (x.end.closing.state ≡ states.Open) × (s.opening.done ≡ x.end.streams.opening.done) × (s.opening.configured ≡ x.made.streams.opening.configured)

  within_now : x.end.closing.state ≡ states.Open → (dir : Dir) → of dir x.end.streams.opening.done ≤ all_over x.side dir packets x.told
  within_now open_here dir = done_within x.made.streams.receiving.window x.made.streams.receiving.stream_window x.side packets x.told x.end.streams c.takes.1.0.0.1.brought.of_side (credits.still open_here) (w.written x y c.gives) i.counts dir

  goes_within : (p : Retransmits) (s : StreamsState) (f : FrameValue) → AsThere s → Goes p s f → Within packets x.told f
  goes_within p s (max_streams f) k goes =
      let count : f.count ≡ raised_count (dir_named f.one_way) s.opening = goes in
      let done_here : of (dir_named f.one_way) s.opening.done ≡ of (dir_named f.one_way) x.end.streams.opening.done = ap (λ (n : Counts). of (dir_named f.one_way) n) k.1 in
      let at_once : of (dir_named f.one_way) s.opening.configured ≡ of (dir_named f.one_way) x.made.streams.opening.configured = ap (λ (n : Counts). of (dir_named f.one_way) n) k.2 in
      let most = within_now k.0 (dir_named f.one_way) in
      omega (arith, count, done_here, at_once, most)
  goes_within p s f k goes = tt

  fine : AreFine AsThere (Within packets x.told)
  fine = record {
    told = λ f s k. by_tells AsThere s k k (λ id. k) (λ dir. k) (λ limit. k) (λ id limit. k) f;
    sent = λ fair s id room h found k. k;
    limits = goes_within;
    pads = tt;
    challenges = λ word. tt;
    responses = λ r. tt;
    pings = tt;
    immediate = tt;
    requests = λ r. tt;
    connection_closes = λ c. tt;
    application_closes = λ c. tt;
    acks = λ a. tt;
    messages = λ m. tt;
    streams = λ f. tt;
  }

  -- a call but a poll says nothing, and a poll no more than that
  now_said : (k : Call) → IsAnswer x.policy x.end y.given k a → (s : Sent) → In s (sents_by x.policy x.end k a) → (f : FrameValue) → In f s.frames → Within packets x.told f
  now_said (calls.Poll now) is s new f among = poll_fine AsThere (Within packets x.told) fine x.policy x.end now (w.packets x y c.gives).owes (λ open_here. (open_here, refl, c.gives.1.1.says.configured)) s (subst (λ (b : Answer). In s (sent_if (gave b) (sent_by x.policy x.end now))) (poll_answer x.policy x.end now a is c.served) new) f among
  now_said k is s new f among = absurd new

  abbrev Said : End → Intake → Type 0
  Said e j = (s : Sent) → In s (x.sents ++ sents_by x.policy x.end call a) → (f : StreamCountValue) → In (max_streams f) s.frames → f.count ≤ bound j.took (x.told ++ t ∷ []) f.one_way

  all_said : Said x.end (came_to x y)
  all_said s among f carried =
      let more = told_over x.side (dir_named f.one_way) packets x.told t in
      elim (in_append s x.sents (sents_by x.policy x.end call a) among) [
        | inl old ↦ (let was = i.said s old f carried in omega (arith, more, was))
        | inr new ↦ (let now : f.count ≤ bound packets x.told f.one_way = now_said call c.answer s new (max_streams f) carried in omega (arith, more, now))
      ]

  said_call : Said (called x y.given call a).end (came_to (called x y.given call a) y)
  said_call = by_coming x y a c.joined c.served (meets y x (w.packets y x c.takes)) Said call c.answer (record {
    apart = λ apart. all_said;
    none = λ delivery is. all_said;
    comes = λ delivery is s among here. record {
      ignored = λ reason. all_said;
      noted = λ state reason. all_said;
      takes = λ words state new none urged mark q there f carried. (
          let was = all_said q there f carried in
          let more = packet_over x.side (dir_named f.one_way) (record { number = s.number; frames = s.frames }) packets (x.told ++ t ∷ []) in
          omega (arith, was, more));
      moves = λ q o same remote z opened j. j;
      drains = λ words state new close fault q there f carried. (
          let was = all_said q there f carried in
          let more = packet_over x.side (dir_named f.one_way) (record { number = s.number; frames = s.frames }) packets (x.told ++ t ∷ []) in
          omega (arith, was, more));
      refuses = λ words state new f is. all_said;
      exhausts = λ state. all_said;
    };
  })

  counts_step : CountCredits y (called x y.given call a)
  counts_step = record { counts = counts_call; said = said_call }

-- ---- the start

-- nothing is done
counts_first : (x y : Beginning) → AreMade x y → CountCredits (begun_as x y) (begun_as y x)
counts_first x y m = record {
  counts = record {
    few = few_set_params start (parameters_of x.making.settings) none_own (counts_in_range x.making.parameters (parameters_of x.making.settings) m.x_is.says).0 (counts_in_range x.making.parameters (parameters_of x.making.settings) m.x_is.says).1 (few_new y.side s.max_uni s.max_bidi s.send_window s.receive_window s.stream_receive_window);
    both = λ id. false;
    theirs = λ id one. cc;
    receives = record {
      shape = shape_set_params start (parameters_of x.making.settings) (shape_new y.side s.max_uni s.max_bidi s.send_window s.receive_window s.stream_receive_window);
      each = λ id. left id (receives_on y.side id && is_opened (begun_as y x).end.streams id) (has_place y.side no_places id);
    };
    sends = record {
      shape = shape_set_params start (parameters_of x.making.settings) (shape_new y.side s.max_uni s.max_bidi s.send_window s.receive_window s.stream_receive_window);
      first = λ id. tt;
      each = λ id. one_way id (has_place y.side no_places id);
    };
    count = λ dir. none_done dir;
  };
  said = λ s none. absurd none;
}
  where
    s : Settings
    s = y.making.settings

    start : StreamsState
    start = new_streams y.side s.max_uni s.max_bidi s.send_window s.receive_window s.stream_receive_window

    none_own : (d : Dir) → of d start.opening.own ≡ 0
    none_own Bi = refl
    none_own Uni = refl

    left : (id : ℕ) (opened used : Bool) → IsLeft false (idle_status opened used)
    left id false used = refl
    left id true false = refl
    left id true true = tt

    one_way : (id : ℕ) (used : Bool) → HalfIs (RunsOneWay (λ q. false) id) (λ (h : SendHalf). RunsOneWay (λ q. false) id) (Unit {0}) None used
    one_way id true = tt
    one_way id false = λ one two. cc

    none_done : (dir : Dir) → of dir (begun_as y x).end.streams.opening.done ≤ sum_below ids (marked (λ id. false) dir)
    none_done Bi = omega arith
    none_done Uni = omega arith

counts_group : IsWriting N → Group N CountCredits
counts_group w = record {
  first = λ x y m there back. counts_first x y m;
  writer = λ x y call a c i back. record { counts = i.counts; said = i.said };
  reader = λ x y call a c there i. counts_step w x y call a c i;
  shows = λ x y here there b back i j. record { counts = i.counts; said = i.said };
}

-- ---- all that holds

writes_here : IsWriting N
writes_here = record {
  packets = λ x y h. h.1.0.0.0.0.0.0.0;
  written = λ x y h. h.1.0.0.0.0.0.0.1.0.writes.keeps.holds;
  says = λ x y h. h.1.0.0.0.0.0.0.1.0.says;
  grows = λ x y call a c. grows_behind N (λ x y h. h.1.0.0.0.0.0.0.0) x y call a c c.gives.1.0.0.0.0.0.0.1.0;
}

credited_writes : IsWriting (And Nothing (And Base Credits))
credited_writes = record {
  packets = λ x y h. h.1.0.0.0.0.0.0;
  written = λ x y h. h.1.0.0.0.0.0.1.0.writes.keeps.holds;
  says = λ x y h. h.1.0.0.0.0.0.1.0.says;
  grows = λ x y call a c. grows_behind (And Nothing (And Base Credits)) (λ x y h. h.1.0.0.0.0.0.0) x y call a c c.gives.1.0.0.0.0.0.1.0;
}

counted : Group Nothing (And Known CountCredits)
counted = both Nothing Known CountCredits (both Nothing (And Base Credits) NewestSaid credited (newest_group (And Nothing (And Base Credits)) credited_writes)) (counts_group writes_here)

-- ---- the clause

module _ (r : Run) (end : World) (honest : IsHonest r) (run : IsRun r end) where
  pub counts_are_bounded : CountsAreBounded r
  counts_are_bounded s side i sent f served among carried =
      let all : f.count ≤ of (dir_named f.one_way) x.made.streams.opening.configured + all_over side (dir_named f.one_way) (came_to x y).took (until r side i) = p.takes.1.said sent (subst (In sent) sents_are among) f carried in
      let most = at_once (dir_named f.one_way) in
      let same : all_over side (dir_named f.one_way) (took r side i) (until r side i) ≡ all_over side (dir_named f.one_way) (came_to x y).took (until r side i) = ap (λ (ps : List Packet). all_over side (dir_named f.one_way) ps (until r side i)) packets_are in
      omega (arith, all, most, same)
    where
      p : Placed (And Known CountCredits) r end side i
      p = placed (And Known CountCredits) counted r end honest run side i served

      x : Party
      x = party_at r i p.world side p.sents

      y : Party
      y = party_at r i p.world (other_side side) p.theirs

      packets_are : took r side i ≡ (came_to x y).took
      packets_are = ap (λ (k : Intake). k.took) (took_is r honest p.world i side p.sents p.theirs)

      sents_are : sents_until r side i ≡ x.sents
      sents_are = ap (λ (v : Watch). v.own) (watch_is r honest p.world i side p.sents p.theirs) ∙ p.gives.0.0.0.0.0.0.1.own

      at_once : (dir : Dir) → of dir x.made.streams.opening.configured ≤ most_at_once dir (making_at side r.start s).settings
      at_once Bi = let is = ap (λ (e : End). e.streams.opening.configured.bi) (start_is r.start s side) in omega (arith, is)
      at_once Uni = let is = ap (λ (e : End). e.streams.opening.configured.uni) (start_is r.start s side) in omega (arith, is)
