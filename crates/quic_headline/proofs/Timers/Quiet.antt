-- What is in flight is named by no ACK frame that came: so where all that asks is named, none in
-- flight asks, and the loss timer isn't set.
use Rattle.std.proofs.Common.{◌≡◌, ℕ, suc, ◌+◌, ◌-◌, ◌≤◌, ◌⊎◌, Bool, true, false, not, ◌||◌, ◌&&◌, List, [], ◌∷◌, ◌++◌, filter, length, take, Option, Some, None, refl, sym, ap, ◌∙◌, subst, inl, inr, arith}
use Rattle.std.specs.Prelude.{if◌then◌else◌, ◌==◌, nat_lt, slice_get}
use Rattle.std.specs.Option.{is_some}
use Rattle.std.specs.List.{list_any}
use Rattle.std.proofs.lemmas.List.{append-nil, length-append}
use Rattle.quic_wire_core.specs.declared.stream_id.Side.{Side}
use Rattle.quic_wire_core.specs.StreamId.{other_side}
use Rattle.quic_wire.specs.Value.{FrameValue, AckValue, ack}
use Rattle.quic_packet.specs.Datagram.{Opening, opened_packet}
use Rattle.quic_machine.specs.declared.answers.State.{State}
use Rattle.quic_machine.specs.declared.answers.State.TheVariants as states
use Rattle.quic_machine.specs.declared.run.Call.{Call}
use Rattle.quic_machine.specs.declared.run.Call.TheVariants as calls
use Rattle.quic_machine.specs.declared.run.Answer.{Answer}
use Rattle.quic_machine.specs.Policy.{Policy}
use Rattle.quic_machine.specs.Opens.{own_id_length}
use Rattle.quic_machine.specs.End.{End}
use Rattle.quic_machine.specs.Machine.{World, gave}
use Rattle.quic_headline.specs.Runs.{Run, Told, Packet, Intake, In, IsTaken, IsNamed, names, acknowledged, handed, is_again, is_refused, packet_of, came_open, and_opened, and_handed, AreServed}
use Rattle.quic_headline.specs.Observer.{Sent, next_number, asks_of, Terms, Flight, is_lost, late_by, after_losses, settled_by, after_ack, after_frames, after_packets, without_number, without_oldest, unasked, kept_flying, and_sent, loss_due, is_past, expired_for, Watch, first_watch, news, sent_as, and_all_sent, watch_sent, Lens, watch_given, is_timely, watch_moment, watch_told, watch, and_flying, closes_of}
use Rattle.quic_headline.specs.Headline.{IsHonest}
use Rattle.quic_headline.specs.Moments.{LossTimerQuiet}
use Rattle.quic_headline.proofs.Packets.Named.{in_filter, filter_chose}
use Rattle.quic_headline.proofs.Packets.Given.{allocated_near}
use Rattle.quic_headline.proofs.Packets.Waited.{waited_asks}
use Rattle.quic_headline.proofs.Packets.Watching.{came_with, timed_with, watched_intake}
use Rattle.quic_headline.proofs.Places.Told.{in_left, in_right, in_append}
use Rattle.quic_headline.proofs.Places.Parties.{sent_by, sent_if, sents_by, told_of, Party, called, came_to, lens, watch_of}
use Rattle.quic_headline.proofs.Places.Groups.{And, Calls, Group}
use Rattle.quic_headline.proofs.Places.Placed.{Placed, party_at, watch_is}
use Rattle.quic_headline.proofs.Places.Openings.{named_taken}
use Rattle.quic_headline.proofs.Timers.LossTimers.{stands_follow}
use Rattle.quic_headline.proofs.Timers.Watched.{Observed, behind_is, own_behind, timers_behind, open_behind, went_is}

-- ---- what stays in flight

-- a number that an ACK frame among these names
abbrev NamedIn : List FrameValue → ℕ → Type 0
NamedIn frames n = (a : AckValue) × In (ack a) frames × (names a n ≡ true)

-- where a test chooses none, it says no of each
none_chosen : {X : Type 0} (f : X → Bool) (x : X) (xs : List X) → In x xs → filter f xs ≡ [] → f x ≡ true → ⊥
none_chosen f x [] i none chosen = i
none_chosen f x (y ∷ xs) i none chosen = go (f y) refl i none (λ j rest. none_chosen f x xs j rest chosen)
  where
    go : (b : Bool) → f y ≡ b → In x (y ∷ xs) → (if b then y ∷ filter f xs else filter f xs) ≡ [] → (In x xs → filter f xs ≡ [] → ⊥) → ⊥
    go true is j clash later = cc
    go false is (inl same) rest later = (let no : f x ≡ false = ap f same ∙ is in let clash : true ≡ false = sym chosen ∙ no in cc)
    go false is (inr j) rest later = later j rest

not_true : (b : Bool) → not b ≡ true → b ≡ true → ⊥
not_true true none some = cc
not_true false none some = cc

-- what losses leave in flight was in flight
losses_leave : (t : Terms) (clock : ℕ) (f : Flight) (s : Sent) → In s (after_losses t clock f).flying → In s f.flying
losses_leave t clock f s i = in_filter (λ u. not (is_lost t (late_by t f.rtt) clock _ u)) s f.flying i

-- what an ACK frame leaves in flight was in flight, and it doesn't name it
ack_leaves : (t : Terms) (clock : ℕ) (a : AckValue) (f : Flight) (s : Sent) → In s (after_ack t clock a f).flying → In s f.flying × (names a s.number ≡ true → ⊥)
ack_leaves t clock a f s i = go (filter (λ u. names a u.number) f.flying) refl i
  where
    others : List Sent
    others = filter (λ u. not (names a u.number)) f.flying

    go : (acked : List Sent) → filter (λ u. names a u.number) f.flying ≡ acked → In s (settled_by t clock a acked others f).flying → In s f.flying × (names a s.number ≡ true → ⊥)
    go [] is j = (j, none_chosen (λ (u : Sent). names a u.number) s f.flying j is)
    go (u ∷ us) is j =
        let among : In s others = in_filter (λ u. not (is_lost t _ clock _ u)) s others j in
        (in_filter (λ u. not (names a u.number)) s f.flying among, not_true (names a s.number) (filter_chose (λ u. not (names a u.number)) s f.flying among))

-- so it is behind frames
frames_leave : (t : Terms) (clock : ℕ) (fs : List FrameValue) (f : Flight) (s : Sent) → In s (after_frames t clock fs f).flying → In s f.flying × (NamedIn fs s.number → ⊥)
frames_leave t clock [] f s i = (i, λ n. n.1)
frames_leave t clock (g ∷ fs) f s i = go g refl i (λ x. frames_leave t clock fs x s)
  where
    go : (h : FrameValue) → h ≡ g → In s (after_frames t clock (h ∷ fs) f).flying → ((x : Flight) → In s (after_frames t clock fs x).flying → In s x.flying × (NamedIn fs s.number → ⊥)) → In s f.flying × (NamedIn (g ∷ fs) s.number → ⊥)
    go (ack a) same j others =
        let later = others (after_ack t clock a f) j in
        let first = ack_leaves t clock a f s later.0 in (
          first.0,
          λ n. elim n.1 [
            | inl here ↦ first.1 (subst (λ (b : AckValue). names b s.number ≡ true) (ack_same n.0 a (here ∙ sym same)) n.2)
            | inr more ↦ later.1 (n.0, more, n.2)
          ],
        )
      where
        ack_same : (b c : AckValue) → ack b ≡ ack c → b ≡ c
        ack_same b c is = cc
    go h same j others =
        let later = others f j in
        (later.0, λ n. elim n.1 [ inl here ↦ no_ack n.0 (here ∙ sym same) | inr more ↦ later.1 (n.0, more, n.2) ])
      where
        no_ack : (b : AckValue) → ack b ≡ h → ⊥
        no_ack b is = cc

-- and behind packets that came
packets_leave : (t : Terms) (clock : ℕ) (ps : List Packet) (f : Flight) (s : Sent) → In s (after_packets t clock ps f).flying → In s f.flying × ((p : Packet) → In p ps → NamedIn p.frames s.number → ⊥)
packets_leave t clock [] f s i = (i, λ p j. absurd j)
packets_leave t clock (p ∷ ps) f s i =
    let first = frames_leave t clock p.frames (after_packets t clock ps f) s i in
    let later = packets_leave t clock ps f s first.0 in
    (later.0, λ q j. elim j [ inl same ↦ (λ n. first.1 (subst (λ (x : Packet). NamedIn x.frames s.number) same n)) | inr more ↦ later.1 q more ])

-- a moment leaves no more in flight
moment_leaves : (b : Bool) (t : Terms) (w : Watch) (s : Sent) → In s (watch_moment b t w).flight.flying → In s w.flight.flying
moment_leaves false t w s i = i
moment_leaves true t w s i = go (is_past (loss_due w.flight) w.clock) w.flight.loss_time i
  where
    go : (past : Bool) (o : Option ℕ) → In s (if past then expired_for o t w.clock w.flight else w.flight).flying → In s w.flight.flying
    go false o j = j
    go true None j = j
    go true (Some moment) j = losses_leave t w.clock w.flight s j

-- what is kept where one more goes was in flight
without_leaves : (n : ℕ) (ss : List Sent) (s : Sent) → In s (without_number n ss) → In s ss
without_leaves n [] s i = i
without_leaves n (u ∷ ss) s i = go (n == u.number) i (without_leaves n ss s)
  where
    go : (b : Bool) → In s (if b then ss else u ∷ without_number n ss) → (In s (without_number n ss) → In s ss) → In s (u ∷ ss)
    go true j later = inr j
    go false (inl same) later = inl same
    go false (inr j) later = inr (later j)

kept_leaves : (asks : Bool) (f : Flight) (s : Sent) → In s (kept_flying asks f) → In s f.flying
kept_leaves asks f s i = go (not asks && nat_lt 1000 (length (unasked f))) (unasked f) i
  where
    go : (b : Bool) (tail : List Sent) → In s (if b then without_oldest tail f.flying else f.flying) → In s f.flying
    go false tail j = j
    go true [] j = j
    go true (oldest ∷ tail) j = without_leaves oldest.number f.flying s j

-- what is in flight once these went was so before, or is one of them
sent_leaves : (ss : List Sent) (f : Flight) (s : Sent) → In s (and_all_sent ss f).flying → In s f.flying ⊎ In s ss
sent_leaves [] f s i = inl i
sent_leaves (u ∷ ss) f s i = elim (sent_leaves ss (and_sent u f) s i) [
  | inl before ↦ one (closes_of u) before
  | inr more ↦ inr (inr more)
]
  where
    one : (b : Bool) → In s (if b then f else and_flying u f).flying → In s f.flying ⊎ In s (u ∷ ss)
    one true before = inl before
    one false before = elim (in_append s (kept_flying (asks_of u) f) (u ∷ []) before) [
      | inl kept ↦ inl (kept_leaves (asks_of u) f s kept)
      | inr new ↦ elim new [ inl same ↦ inr (inl same) | inr none ↦ absurd none ]
    ]

-- ---- one call more

-- what a call leaves of a watch: what went more, and of what is in flight then, that it was so
-- before, and no packet that came names it, or that it went
record Leaves (before after : Watch) : Type 0 where
  more : List Sent
  own : after.own ≡ before.own ++ more
  flying : (s : Sent) → In s after.flight.flying → (In s before.flight.flying × ((p : Packet) → In p (news before.intake after.intake) → NamedIn p.frames s.number → ⊥)) ⊎ In s more

-- what goes
goes_leave : (taker : Policy) (ds : List (List ℕ)) (w v : Watch) → w.own ≡ v.own → ((s : Sent) → In s v.flight.flying → In s w.flight.flying × ((p : Packet) → In p (news w.intake v.intake) → NamedIn p.frames s.number → ⊥)) → Leaves w (watch_sent taker ds v)
goes_leave taker [] w v own flying = record { more = []; own = sym own ∙ sym (append-nil w.own); flying = λ s i. inl (flying s i) }
goes_leave taker (d ∷ ds) w v own flying =
    let sent : List Sent = sent_as (opened_packet taker.header taker.packet (own_id_length + 1) (next_number v.own) d) (acknowledged v.intake.took) v.clock v.route.generation d in
    record {
      more = sent;
      own = ap (λ (ss : List Sent). ss ++ sent) (sym own);
      flying = λ s i. elim (sent_leaves sent v.flight s i) [ inl before ↦ inl (flying s before) | inr new ↦ inr new ];
    }

given_leave : (b : Bool) (l : Lens) (w v : Watch) → w.own ≡ v.own → ((s : Sent) → In s v.flight.flying → In s w.flight.flying × ((p : Packet) → In p (news w.intake v.intake) → NamedIn p.frames s.number → ⊥)) → Leaves w (watch_given b l v)
given_leave true l w v own flying = goes_leave l.taker v.left w v own flying
given_leave false l w v own flying = record { more = []; own = sym own ∙ sym (append-nil w.own); flying = λ s i. inl (flying s i) }

-- any call
told_leaves : (l : Lens) (t : Told) (w : Watch) → Leaves w (watch_told l t w)
told_leaves l t w = given_leave (gave t.answer) l w (timed_with l t w) (own (is_timely t.state t.call)) (timed (is_timely t.state t.call))
  where
    own : (b : Bool) → w.own ≡ (watch_moment b l.terms (came_with l t w)).own
    own true = refl
    own false = refl

    came : (s : Sent) → In s (came_with l t w).flight.flying → In s w.flight.flying × ((p : Packet) → In p (news w.intake (came_with l t w).intake) → NamedIn p.frames s.number → ⊥)
    came s i = packets_leave l.terms (came_with l t w).clock (news w.intake (came_with l t w).intake) w.flight s i

    timed : (b : Bool) (s : Sent) → In s (watch_moment b l.terms (came_with l t w)).flight.flying → In s w.flight.flying × ((p : Packet) → In p (news w.intake (watch_moment b l.terms (came_with l t w)).intake) → NamedIn p.frames s.number → ⊥)
    timed true s i = came s (moment_leaves true l.terms (came_with l t w) s i)
    timed false s i = came s i

-- ---- what came

-- these are the first of those, and others before them
abbrev IsMore : List Packet → List Packet → Type 0
IsMore before after = after ≡ take (length after - length before) after ++ before

take_front : (xs ys : List Packet) → take (length xs) (xs ++ ys) ≡ xs
take_front [] ys = refl
take_front (x ∷ xs) ys = ap (λ (zs : List Packet). x ∷ zs) (take_front xs ys)

more_first : (more before : List Packet) → IsMore before (more ++ before)
more_first more before =
    let all = length-append more before in
    let count : length (more ++ before) - length before ≡ length more = omega arith in
    ap (λ (ps : List Packet). ps ++ before) (sym (ap (λ (n : ℕ). take n (more ++ before)) count ∙ take_front more before))

opened_more : (o : Option Opening) (a : Answer) (i : Intake) → IsMore i.took (and_opened o a i).took
opened_more None a i = more_first [] i.took
opened_more (Some o) a i = go (is_again o.number i.opened) (is_refused a)
  where
    go : (again refused : Bool) → IsMore i.took (if again then i else record { opened = o.number ∷ i.opened; took = (if refused then i.took else packet_of o ∷ i.took); part = (if refused then Some (packet_of o) else i.part) }).took
    go true refused = more_first [] i.took
    go false true = more_first [] i.took
    go false false = more_first (packet_of o ∷ []) i.took

handed_more : (state : State) (d : Option (List ℕ)) (p : Policy) (a : Answer) (i : Intake) → IsMore i.took (and_handed state d p a i).took
handed_more states.Open (Some d) p a i = opened_more (came_open p i.took a d) a i
handed_more states.Open None p a i = more_first [] i.took
handed_more states.Closing d p a i = more_first [] i.took
handed_more states.Drained d p a i = more_first [] i.took
handed_more states.Failed d p a i = more_first [] i.took

-- what a call takes is the news, and what was taken before
told_more : (l : Lens) (t : Told) (w : Watch) → (watch_told l t w).intake.took ≡ news w.intake (watch_told l t w).intake ++ w.intake.took
told_more l t w = subst (λ (i : Intake). IsMore w.intake.took i.took) (sym (watched_intake l (t ∷ []) w)) (handed_more t.state (handed l.peer_gave t.call t.answer) l.own t.answer w.intake)

-- ---- the group

-- what is in flight went, and no ACK frame that came names it
pub record IsQuiet (w : Watch) : Type 0 where
  pub own : (s : Sent) → In s w.flight.flying → In s w.own
  pub unnamed : (s : Sent) → In s w.flight.flying → IsNamed w.intake.took s.number → ⊥

-- so it is of x, whose observer this is
pub record Unnamed (x y : Party) : Type 0 where
  pub quiet : IsQuiet (watch_of x y)

-- what goes lies above all that went
sends_above : (p : Policy) (e : End) (call : Call) (a : Answer) (s : Sent) → In s (sents_by p e call a) → e.numbers.next ≤ s.number
sends_above p e (calls.Poll now) a s i = go (gave a) i
  where
    go : (b : Bool) → In s (sent_if b (sent_by p e now)) → e.numbers.next ≤ s.number
    go true (inl same) =
        let number : s.number ≡ (sent_by p e now).number = ap (λ (t : Sent). t.number) same in
        let near = (allocated_near e.filter e.numbers.next).0 in
        omega arith
    go true (inr j) = absurd j
    go false j = absurd j
sends_above p e call a s i = absurd i

-- so no ACK frame names it that came by then: the other took only what had gone
sends_unnamed : (x y : Party) (call : Call) (a : Answer) → Calls Observed x y call a → (s : Sent) → In s (sents_by x.policy x.end call a) → IsNamed (came_to (called x y.given call a) y).took s.number → ⊥
sends_unnamed x y call a c s i named =
    let was : IsTaken (came_to y x).took s.number =
    named_taken y.sents (came_to (called x y.given call a) y).took (came_to y x).took c.takes_behind.0.taken c.takes_behind.0.named s.number named in
    let found = c.gives.0.taken was.packet was.was_taken in
    let below = c.gives.0.gives.below found.sent found.is.0 in
    let number = found.is.1 in
    let same = was.is in
    let above = sends_above x.policy x.end call a s i in
    omega arith

-- any call keeps it
quiet_step : (x y : Party) (call : Call) (a : Answer) → Calls Observed x y call a → Unnamed x y → Unnamed (called x y.given call a) y
quiet_step x y call a c before = record { quiet = subst (λ (v : Watch). IsQuiet v) (sym (behind_is x y call a c w refl)) (record { own = own; unnamed = unnamed }) }
  where
    w : Watch
    w = watch_of x y

    t : Told
    t = told_of call a x.end.closing.state

    after : Watch
    after = watch_told (lens x y) t w

    leaves : Leaves w after
    leaves = told_leaves (lens x y) t w

    -- what went is what the end sends
    sends : leaves.more ≡ sents_by x.policy x.end call a
    sends = sym (went_is w after leaves.more leaves.own) ∙ went_is w after (sents_by x.policy x.end call a) (own_behind x y call a c w refl)

    own : (s : Sent) → In s after.flight.flying → In s after.own
    own s i = subst (λ (ss : List Sent). In s ss) (sym leaves.own) (elim (leaves.flying s i) [
      | inl there ↦ in_left s w.own leaves.more (before.quiet.own s there.0)
      | inr new ↦ in_right s w.own leaves.more new
    ])

    came : after.intake ≡ came_to (called x y.given call a) y
    came = ap (λ (v : Watch). v.intake) (sym (behind_is x y call a c w refl)) ∙ watched_intake (lens x y) (x.told ++ t ∷ []) (first_watch x.final x.began x.made.path.remote x.first_rtt x.initial_delay)

    unnamed : (s : Sent) → In s after.flight.flying → IsNamed after.intake.took s.number → ⊥
    unnamed s i named = elim (leaves.flying s i) [
      | inl there ↦ elim (in_append named.packet (news w.intake after.intake) w.intake.took (subst (λ (ps : List Packet). In named.packet ps) (told_more (lens x y) t w) named.was_taken)) [
        | inl new ↦ there.1 named.packet new (named.frame, named.carried, named.named)
        | inr old ↦ before.quiet.unnamed s there.0 (record { packet = named.packet; was_taken = old; frame = named.frame; carried = named.carried; named = named.named })
      ]
      | inr new ↦ sends_unnamed x y call a c s (subst (λ (ss : List Sent). In s ss) sends new) (subst (λ (j : Intake). IsNamed j.took s.number) came named)
    ]

-- over the packets and what observers know of them
pub quiet_group : Group Observed Unnamed
quiet_group = record {
  first = λ x y m there here. record { quiet = record { own = λ s i. absurd i; unnamed = λ s i. absurd i } };
  writer = λ x y call a c i back. quiet_step x y call a c i;
  reader = λ x y call a c i back. record { quiet = back.quiet };
  shows = λ x y here there b back i j. record { quiet = i.quiet };
}

-- ---- a run

-- none in flight asks, where all that asks is named
none_asks : (ss : List Sent) → ((s : Sent) → In s ss → asks_of s ≡ true → ⊥) → list_any asks_of ss ≡ false
none_asks [] none = refl
none_asks (s ∷ ss) none = go (asks_of s) refl (none_asks ss (λ u i. none u (inr i)))
  where
    go : (b : Bool) → asks_of s ≡ b → list_any asks_of ss ≡ false → (b || list_any asks_of ss) ≡ false
    go true is rest = absurd (none s (inl refl) is)
    go false is rest = rest

not_set : (o : Option ℕ) → is_some o ≡ false → o ≡ None
not_set None is = refl
not_set (Some moment) is = cc

-- the clause, where the group holds at each place
pub loss_timer_quiet : (r : Run) (end : World) → IsHonest r → ((side : Side) (i : ℕ) → AreServed r i → Placed (And Observed Unnamed) r end side i) → LossTimerQuiet r
loss_timer_quiet r end honest all side i v served there opened named =
    let at = all side (suc i) served in
    let x : Party = party_at r (suc i) at.world side at.sents in
    let y : Party = party_at r (suc i) at.world (other_side side) at.theirs in
    let now_open : x.end.closing.state ≡ states.Open = open_behind r at.world i v side at.leads there opened in
    let quiet : IsQuiet (watch r side (suc i)) = subst (λ (w : Watch). IsQuiet w) (sym (watch_is r honest at.world (suc i) side at.sents at.theirs)) at.gives.1.quiet in
    let none : list_any asks_of (watch_of x y).flight.flying ≡ false =
    ap (λ (w : Watch). list_any asks_of w.flight.flying) (sym (watch_is r honest at.world (suc i) side at.sents at.theirs))
    ∙ none_asks (watch r side (suc i)).flight.flying (λ s i asks. quiet.unnamed s i (named s (quiet.own s i) asks)) in
    let sight = at.gives.0.1 in
    let silent : is_some x.end.timers.loss_detection ≡ false =
    stands_follow x.end sight.stands now_open ∙ sym (waited_asks (watch_of x y).flight.flying x.end.tracking.packets (sight.watched.flight now_open).tells.waits) ∙ none in
    ap (λ (ts : List (Option ℕ)). slice_get ts 0) (timers_behind r at.world i v side at.leads there) ∙ ap (λ (o : Option ℕ). Some o) (not_set x.end.timers.loss_detection silent)
