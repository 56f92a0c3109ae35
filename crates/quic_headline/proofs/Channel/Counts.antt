-- What each end knows of the other's streams: it may open no more than the other takes, and saw no
-- more opened than the other opened; so each frame passes by its id.
use Rattle.std.proofs.Common.{◌≡◌, ℕ, ◌+◌, ◌<◌, ◌≤◌, ◌^◌, Bool, true, false, not, List, Option, Some, None, refl, sym, ap, ◌∙◌, subst, inl, inr, arith}
use Rattle.std.specs.Prelude.{if◌then◌else◌, ◌&&◌, ◌||◌, ◌==◌, nat_le, nat_lt}
use Rattle.std.proofs.lemmas.Bool.{cond_both, ltb-true, lt-ltb, leb-true, leb-false}
use Rattle.quic_wire_core.specs.declared.stream_id.Side.{Side}
use Rattle.quic_wire_core.specs.declared.stream_id.Side.TheVariants.{Client, Server}
use Rattle.quic_wire_core.specs.declared.stream_id.Dir.{Dir}
use Rattle.quic_wire_core.specs.declared.stream_id.Dir.TheVariants.{Bi, Uni}
use Rattle.quic_wire_core.specs.StreamId.{initiator_of, dir_of, index_of, other_side, side_bit}
use Rattle.quic_wire.specs.Value.{FrameValue, stream, reset_stream, stop_sending, max_stream_data, max_streams, new_token, handshake_done, ack_frequency}
use Rattle.quic_config.specs.Transport.{parameters_of}
use Rattle.quic_streams_parts.specs.declared.answers.Breach.{Breach}
use Rattle.quic_streams_parts.specs.declared.answers.Breach.TheVariants.{StreamLimit, StreamState, FrameEncoding}
use Rattle.quic_streams_parts.specs.Dirs.{Counts, of, with_of, is_own, is_two_way}
use Rattle.quic_streams_state.specs.declared.state.StreamsState.{StreamsState}
use Rattle.quic_streams_state.specs.declared.taking.IdRule.{IdRule}
use Rattle.quic_streams_state.specs.declared.taking.IdRule.TheVariants.{Free, ReceivingOf, SendingOf, NotOfOwn, Counting}
use Rattle.quic_streams_state.specs.State.{Opening, is_opened, sends_on, receives_on}
use Rattle.quic_streams_state.specs.Limits.{raised_count, most_streams}
use Rattle.quic_streams_state.specs.Opening.{opens, opened_if, opened_by, with_remote, with_own_limit, after_max_streams, beyond, receiving_refusal, sending_refusal}
use Rattle.quic_streams_state.specs.Taking.{id_rule, broken}
use Rattle.quic_streams_laws.specs.Giving.{Sends, Receives, MayGiveBy}
use Rattle.quic_streams_laws.specs.ShapeLaws.{past_remote}
use Rattle.quic_streams_laws.specs.Few.{AreFew}
use Rattle.quic_machine.specs.declared.run.Call.{Call}
use Rattle.quic_machine.specs.declared.run.Answer.{Answer}
use Rattle.quic_machine.specs.Tracking.{dir_named}
use Rattle.quic_machine.specs.End.{End}
use Rattle.quic_machine.specs.Receive.{take_frame}
use Rattle.quic_machine.specs.FrameCases.{begun, passed, frames_leave}
use Rattle.quic_machine.specs.Poll.{rests}
use Rattle.quic_headline.specs.Runs.{Intake, In, OpensStream}
use Rattle.quic_headline.proofs.Packets.Group.{meets}
use Rattle.quic_headline.proofs.Places.Coming.{by_coming}
use Rattle.quic_headline.proofs.Places.Groups.{Way, And, Calls, Group, both}
use Rattle.quic_headline.proofs.Places.Parties.{Party, called, Beginning, begun_as, AreMade, showing, came_to}
use Rattle.quic_headline.proofs.Halves.Counts.{counts_in_range}
use Rattle.quic_headline.proofs.Channel.Passing.{IdsPass, IdsHold}
use Rattle.quic_headline.proofs.Channel.Counted.{Counted, call_counts, frame_counts}
use Rattle.quic_headline.proofs.Channel.Given.{Grown, Given, opened_grows}
use Rattle.quic_headline.proofs.Channel.Names.{NamesHold, RestsOn, grows_behind, names_group}
use Rattle.quic_headline.proofs.Packets.Delivered.{frames_at, among_at}
use Rattle.quic_headline.proofs.Halves.Moved.{in_arrivals}

-- ---- tests

-- a number below another isn't at or above it
not_below : (n k : ℕ) → k < n → nat_le n k ≡ false
not_below n k less = go (nat_le n k) refl
  where
    go : (b : Bool) → nat_le n k ≡ b → b ≡ false
    go true is = let up = leb-true n k is in absurd (omega arith)
    go false is = refl

below_not : (n k : ℕ) → nat_le n k ≡ false → k < n
below_not n k is = leb-false n k is

not_above : (n k : ℕ) → k ≤ n → nat_lt n k ≡ false
not_above n k less = go (nat_lt n k) refl
  where
    go : (b : Bool) → nat_lt n k ≡ b → b ≡ false
    go true is = let up = ltb-true n k is in absurd (omega arith)
    go false is = refl

-- ---- sides

-- each stream is own at one of both ends
own_other : (side : Side) (id : ℕ) → is_own (other_side side) id ≡ not (is_own side id)
own_other side id = go side (initiator_of id)
  where
    go : (a b : Side) → (side_bit b == side_bit (other_side a)) ≡ not (side_bit b == side_bit a)
    go Client Client = refl
    go Client Server = refl
    go Server Client = refl
    go Server Server = refl

-- ---- what is known of the other end's streams

-- Streams of the other side, which may be as many as these take, and of these saw no more opened
-- than are.
abbrev pub KnowsCounts : StreamsState → Side → Counts → Counts → Type 0
KnowsCounts s side limits remotes = (side ≡ other_side s.side) × ((d : Dir) → of d limits ≤ raised_count d s.opening) × ((d : Dir) → of d remotes ≤ of d s.opening.own)

-- the other's streams may only grow
knows_grown : (s t : StreamsState) → Grown s t → (side : Side) (limits remotes : Counts) → KnowsCounts s side limits remotes → KnowsCounts t side limits remotes
knows_grown s t g side limits remotes k =
    (k.0 ∙ ap other_side (sym g.0), λ d. (let before = k.1 d in let more = g.3 d in omega arith), λ d. (let before = k.2 d in let more = g.1 d in omega arith))

-- ---- a frame that the other gave

module _ (s : StreamsState) where
  abbrev Knows : StreamsState → Type 0
  Knows t = Counted (KnowsCounts s) t

  -- a frame that opens a stream is one of a stream that its giver knows
  opens_known : (f : FrameValue) (id : ℕ) → OpensStream f id → Given s f → is_opened s id ≡ true
  opens_known (stream f) id is given = subst (λ (q : ℕ). is_opened s q ≡ true) is given.1
  opens_known (reset_stream f) id is given = subst (λ (q : ℕ). is_opened s q ≡ true) is given.1
  opens_known (stop_sending f) id is given = subst (λ (q : ℕ). is_opened s q ≡ true) is given.1
  opens_known (max_stream_data f) id is given = subst (λ (q : ℕ). is_opened s q ≡ true) is given.1
  opens_known f id is given = absurd is

  -- an own stream that is opened
  own_below : (id : ℕ) → is_own s.side id ≡ true → is_opened s id ≡ true → index_of id < of (dir_of id) s.opening.own
  own_below id own is = ltb-true (index_of id) (of (dir_of id) s.opening.own) (subst (λ (b : Bool). nat_lt (index_of id) (of (dir_of id) (if b then s.opening.own else s.opening.remote)) ≡ true) own is)

  remote_below : (id : ℕ) → is_own s.side id ≡ false → is_opened s id ≡ true → index_of id < of (dir_of id) s.opening.remote
  remote_below id own is = ltb-true (index_of id) (of (dir_of id) s.opening.remote) (subst (λ (b : Bool). nat_lt (index_of id) (of (dir_of id) (if b then s.opening.own else s.opening.remote)) ≡ true) own is)

  -- so many are opened then
  remote_known : (side : Side) (dir : Dir) (n : ℕ) (o : Opening) → n ≤ of dir s.opening.own → KnowsCounts s side o.own_limit o.remote → KnowsCounts s side (with_remote dir n o).own_limit (with_remote dir n o).remote
  remote_known side Bi n o less k = (k.0, k.1, go)
    where
      go : (d : Dir) → of d (with_remote Bi n o).remote ≤ of d s.opening.own
      go Bi = less
      go Uni = k.2 Uni
  remote_known side Uni n o less k = (k.0, k.1, go)
    where
      go : (d : Dir) → of d (with_remote Uni n o).remote ≤ of d s.opening.own
      go Bi = k.2 Bi
      go Uni = less

  opened_knows : (t : StreamsState) (id : ℕ) → is_opened s id ≡ true → Knows t → Knows (opened_by t id)
  opened_knows t id is k = go (opens t id) refl
    where
      go : (b : Bool) → opens t id ≡ b → Knows (opened_if b id t)
      go true e =
          let theirs : is_own t.side id ≡ false = (past_remote t id e).0 in
          let other : not (is_own s.side id) ≡ false = sym (own_other s.side id) ∙ (ap (λ (side : Side). is_own side id) (sym k.0) ∙ theirs) in
          let below = own_below id (mine (is_own s.side id) other) is in
          remote_known t.side (dir_of id) (index_of id + 1) t.opening (omega arith) k
        where
          mine : (b : Bool) → not b ≡ false → b ≡ true
          mine true e = refl
          mine false e = cc
      go false e = k

  told_knows : (t : StreamsState) (dir : Dir) (count : ℕ) → count ≤ raised_count dir s.opening → Knows t → Knows (after_max_streams dir count t)
  told_knows t dir count less k = cond_both (nat_le count most_streams && nat_lt (of dir t.opening.own_limit) count) (with_own_limit dir count t) t Knows (λ is. (k.0, limits dir less, k.2)) (λ is. k)
    where
      limits : (dir : Dir) → count ≤ raised_count dir s.opening → (d : Dir) → of d (with_of dir count t.opening.own_limit) ≤ raised_count d s.opening
      limits Bi less Bi = less
      limits Bi less Uni = k.1 Uni
      limits Uni less Bi = k.1 Bi
      limits Uni less Uni = less

  frame_knows : (f : FrameValue) (e : End) → Given s f → Knows e.streams → Knows (take_frame f e).end.streams
  frame_knows f e given k = frame_counts (KnowsCounts s) f e (λ id is. opened_knows e.streams id (opens_known f id is given) k)
      (λ g is. told_knows e.streams (dir_named g.one_way) g.count (subst (Given s) is given) k) k

  -- those of a packet
  frames_know : (fs : List FrameValue) (e : End) → ((f : FrameValue) → In f fs → Given s f) → Knows e.streams → Knows (passed fs e).end.streams
  frames_know fs e given k =
      (frames_leave (λ (left : List FrameValue) (x : End). ((f : FrameValue) → In f left → Given s f) × Knows x.streams) (λ f left x both. (λ g among. both.0 g (inr among), frame_knows f x (both.0 f (inl refl)) both.1)) fs e (given, k)).1.1

-- ---- the group

-- x gives: what y knows of its streams
pub record CountsHold (x y : Party) : Type 0 where
  pub counts : Counted (KnowsCounts x.end.streams) y.end.streams

module _ (B : Way) (rests : RestsOn B) where
  -- y calls, and takes what x gave
  counts_reader : (x y : Party) (call : Call) (a : Answer) → Calls (And B NamesHold) x y call a → CountsHold y x → CountsHold y (called x y.given call a)
  counts_reader x y call a c k = record {
    counts = by_coming x y a c.joined c.served (meets y x (rests.packets y x c.takes.0)) (λ (e : End) (i : Intake). Counted (KnowsCounts y.end.streams) e.streams) call c.answer (record {
      apart = λ apart. call_counts (KnowsCounts y.end.streams) x.policy x.end y.given call a apart c.answer k.counts;
      none = λ delivery is. k.counts;
      comes = λ delivery is s among here. in_arrivals (Counted (KnowsCounts y.end.streams)) x.end delivery.now s.number s.frames (frames_at here s.frames) (came_to x y) k.counts
          (frames_know y.end.streams (frames_at here s.frames) (begun x.end delivery.now s.number) (among_at (Given y.end.streams) tt here s.frames (c.takes.1.given s among)) k.counts);
    });
  }

  counts_writer : (x y : Party) (call : Call) (a : Answer) → Calls B x y call a → CountsHold x y → CountsHold (called x y.given call a) y
  counts_writer x y call a c k = record { counts = knows_grown x.end.streams (called x y.given call a).end.streams (grows_behind B rests x y call a c) y.end.streams.side y.end.streams.opening.own_limit y.end.streams.opening.remote k.counts }

-- at the start none is opened, and each may open as many as the other's settings say
counts_first : (x y : Beginning) → AreMade x y → CountsHold (begun_as x y) (begun_as y x)
counts_first x y m = record { counts = (m.joined.y_side, limits, λ d. none d) }
  where
    s : StreamsState
    s = (begun_as x y).end.streams

    t : StreamsState
    t = (begun_as y x).end.streams

    few : ((parameters_of x.making.settings).initial_max_streams_bidi ≤ 2 ^ 60) × ((parameters_of x.making.settings).initial_max_streams_uni ≤ 2 ^ 60)
    few = counts_in_range x.making.parameters (parameters_of x.making.settings) m.x_is.says

    limits : (d : Dir) → of d t.opening.own_limit ≤ raised_count d s.opening
    limits Bi = let most = few.0 in omega arith
    limits Uni = let most = few.1 in omega arith

    none : (d : Dir) → of d t.opening.remote ≤ of d s.opening.own
    none Bi = omega arith
    none Uni = omega arith

pub counts_group : (B : Way) → RestsOn B → Group (And B NamesHold) CountsHold
counts_group B rests = record {
  first = λ x y m there back. counts_first x y m;
  writer = λ x y call a c k back. counts_writer (And B NamesHold) (record { packets = λ u v h. rests.packets u v h.0; written = λ u v h. rests.written u v h.0 }) x y call a c k;
  reader = λ x y call a c there k. counts_reader B rests x y call a c k;
  shows = λ x y here there b back k j. record { counts = k.counts };
}

-- ---- each frame passes by its id

module _ (s t : StreamsState) (k : Counted (KnowsCounts s) t) (back : Counted (KnowsCounts t) s) (few : AreFew s) where
  -- a stream is own at one of both ends
  theirs_is : (id : ℕ) → is_own t.side id ≡ not (is_own s.side id)
  theirs_is id = ap (λ (side : Side). is_own side id) k.0 ∙ own_other s.side id

  -- a stream that is opened at s lies within what t takes, or t opened it
  reach : (id : ℕ) → is_opened s id ≡ true → beyond t id ≡ None
  reach id is = go (is_own s.side id) refl
    where
      go : (b : Bool) → is_own s.side id ≡ b → beyond t id ≡ None
      go true own =
          let here = own_below s id own is in
          let may = few.own (dir_of id) in
          let takes = k.1 (dir_of id) in
          let off : is_own t.side id ≡ false = theirs_is id ∙ ap not own in
          let within : nat_le (raised_count (dir_of id) t.opening) (index_of id) ≡ false = not_below (raised_count (dir_of id) t.opening) (index_of id) (omega arith) in
          ap (λ (b : Bool). if b then (if is_opened t id then None else Some StreamState) else (if nat_le (raised_count (dir_of id) t.opening) (index_of id) then Some StreamLimit else None)) off
          ∙ ap (λ (b : Bool). if b then Some StreamLimit else None) within
      go false own =
          let here = remote_below s id own is in
          let opened = back.2 (dir_of id) in
          let on : is_own t.side id ≡ true = theirs_is id ∙ ap not own in
          let there : is_opened t id ≡ true = subst (λ (b : Bool). nat_lt (index_of id) (of (dir_of id) (if b then t.opening.own else t.opening.remote)) ≡ true) (sym on) (lt-ltb (index_of id) (of (dir_of id) t.opening.own) (omega arith)) in
          ap (λ (b : Bool). if b then (if is_opened t id then None else Some StreamState) else (if nat_le (raised_count (dir_of id) t.opening) (index_of id) then Some StreamLimit else None)) on
          ∙ ap (λ (b : Bool). if b then None else Some StreamState) there

  -- one on which s sends is one on which t receives, and the other way
  receives_there : (id : ℕ) → sends_on s.side id ≡ true → (is_own t.side id && not (is_two_way (dir_of id))) ≡ false
  receives_there id is = subst (λ (b : Bool). (b && not (is_two_way (dir_of id))) ≡ false) (sym (theirs_is id)) (go (is_own s.side id) (is_two_way (dir_of id)) is)
    where
      go : (own two : Bool) → (own || two) ≡ true → (not own && not two) ≡ false
      go true two is = refl
      go false true is = refl
      go false false is = cc

  sends_there : (id : ℕ) → receives_on s.side id ≡ true → (not (is_own t.side id) && not (is_two_way (dir_of id))) ≡ false
  sends_there id is = subst (λ (b : Bool). (not b && not (is_two_way (dir_of id))) ≡ false) (sym (theirs_is id)) (go (is_own s.side id) (is_two_way (dir_of id)) is)
    where
      go : (own two : Bool) → (not own || two) ≡ true → (not (not own) && not two) ≡ false
      go true true is = refl
      go true false is = cc
      go false two is = refl

  receiving_passes : (id : ℕ) → Sends s id → receiving_refusal t id ≡ None
  receiving_passes id is = ap (λ (b : Bool). if b then Some StreamState else beyond t id) (receives_there id is.0) ∙ reach id is.1

  sending_passes : (id : ℕ) → Receives s id → sending_refusal t id ≡ None
  sending_passes id is = ap (λ (b : Bool). if b then Some StreamState else beyond t id) (sends_there id is.0) ∙ reach id is.1

  rule_passes : (rule : IdRule) → MayGiveBy s rule → broken t rule ≡ None
  rule_passes Free is = refl
  rule_passes (ReceivingOf id) is = receiving_passes id is
  rule_passes (SendingOf id) is = sending_passes id is
  rule_passes (NotOfOwn id) is = ap (λ (b : Bool). if b then Some StreamState else None) (receives_there id is)
  rule_passes (Counting count) is = ap (λ (b : Bool). if b then Some FrameEncoding else None) (not_above most_streams count is)

  ids_pass : (f : FrameValue) → Given s f → IdsPass t f
  ids_pass (max_streams f) is = rule_passes (Counting f.count) (omega arith)
  ids_pass (new_token x) is = absurd is
  ids_pass handshake_done is = refl
  ids_pass (ack_frequency f) is = refl
  ids_pass f is = rule_passes (id_rule f) is

-- ---- and stays so

-- a rule that isn't broken isn't later either
rule_stays : (t u : StreamsState) → Grown t u → (rule : IdRule) → broken t rule ≡ None → broken u rule ≡ None
rule_stays t u g rule is = go rule is
  where
    side : u.side ≡ t.side
    side = g.0

    beyond_stays : (id : ℕ) → beyond t id ≡ None → beyond u id ≡ None
    beyond_stays id none = by_side (is_own t.side id) refl none
      where
        opens_still : is_own t.side id ≡ true → (b : Bool) → is_opened t id ≡ b → (if b then None else Some StreamState) ≡ None → is_opened u id ≡ true
        opens_still own true is none = opened_grows t u g id is
        opens_still own false is none = cc

        room_still : (b : Bool) → nat_le (raised_count (dir_of id) t.opening) (index_of id) ≡ b → (if b then Some StreamLimit else None) ≡ None → nat_le (raised_count (dir_of id) u.opening) (index_of id) ≡ false
        room_still true is none = cc
        room_still false is none = let below = below_not (raised_count (dir_of id) t.opening) (index_of id) is in let more = g.3 (dir_of id) in not_below (raised_count (dir_of id) u.opening) (index_of id) (omega arith)

        by_side : (b : Bool) → is_own t.side id ≡ b → (if is_own t.side id then (if is_opened t id then None else Some StreamState) else (if nat_le (raised_count (dir_of id) t.opening) (index_of id) then Some StreamLimit else None)) ≡ None → beyond u id ≡ None
        by_side true own none =
            let here : (if is_opened t id then None else Some StreamState) ≡ None = subst (λ (b : Bool). (if b then (if is_opened t id then None else Some StreamState) else (if nat_le (raised_count (dir_of id) t.opening) (index_of id) then Some StreamLimit else None)) ≡ None) own none in
            let on : is_own u.side id ≡ true = ap (λ (x : Side). is_own x id) side ∙ own in
            ap (λ (b : Bool). if b then (if is_opened u id then None else Some StreamState) else (if nat_le (raised_count (dir_of id) u.opening) (index_of id) then Some StreamLimit else None)) on
            ∙ ap (λ (b : Bool). if b then None else Some StreamState) (opens_still own (is_opened t id) refl here)
        by_side false own none =
            let here : (if nat_le (raised_count (dir_of id) t.opening) (index_of id) then Some StreamLimit else None) ≡ None = subst (λ (b : Bool). (if b then (if is_opened t id then None else Some StreamState) else (if nat_le (raised_count (dir_of id) t.opening) (index_of id) then Some StreamLimit else None)) ≡ None) own none in
            let off : is_own u.side id ≡ false = ap (λ (x : Side). is_own x id) side ∙ own in
            ap (λ (b : Bool). if b then (if is_opened u id then None else Some StreamState) else (if nat_le (raised_count (dir_of id) u.opening) (index_of id) then Some StreamLimit else None)) off
            ∙ ap (λ (b : Bool). if b then Some StreamLimit else None) (room_still (nat_le (raised_count (dir_of id) t.opening) (index_of id)) refl here)

    -- the first rule of an id is of its side alone
    behind_first : (b c : Bool) (o q : Option Breach) → c ≡ b → (o ≡ None → q ≡ None) → (if b then Some StreamState else o) ≡ None → (if c then Some StreamState else q) ≡ None
    behind_first true c o q same more none = cc
    behind_first false true o q same more none = cc
    behind_first false false o q same more none = more none

    receiving : (id : ℕ) → receiving_refusal t id ≡ None → receiving_refusal u id ≡ None
    receiving id none = behind_first (is_own t.side id && not (is_two_way (dir_of id))) (is_own u.side id && not (is_two_way (dir_of id))) (beyond t id) (beyond u id) (ap (λ (x : Side). is_own x id && not (is_two_way (dir_of id))) side) (beyond_stays id) none

    sending : (id : ℕ) → sending_refusal t id ≡ None → sending_refusal u id ≡ None
    sending id none = behind_first (not (is_own t.side id) && not (is_two_way (dir_of id))) (not (is_own u.side id) && not (is_two_way (dir_of id))) (beyond t id) (beyond u id) (ap (λ (x : Side). not (is_own x id) && not (is_two_way (dir_of id))) side) (beyond_stays id) none

    go : (rule : IdRule) → broken t rule ≡ None → broken u rule ≡ None
    go Free is = refl
    go (ReceivingOf id) is = receiving id is
    go (SendingOf id) is = sending id is
    go (NotOfOwn id) is = ap (λ (x : Side). if is_own x id && not (is_two_way (dir_of id)) then Some StreamState else None) side ∙ is
    go (Counting count) is = is

-- what passes by its id passes later too
pub ids_stay : (t u : StreamsState) → Grown t u → (f : FrameValue) → IdsPass t f → IdsPass u f
ids_stay t u g f is = rule_stays t u g (id_rule f) is

-- ---- the part of ids, as a group

-- what holds both ways gives a group
pub derived : (B G : Way) → ((x y : Party) → B x y → B y x → G x y) → Group B G
derived B G is = record {
  first = λ x y m there back. is (begun_as x y) (begun_as y x) there back;
  writer = λ x y call a c g h. is (called x y.given call a) y c.gives_behind c.takes_behind;
  reader = λ x y call a c g h. is y (called x y.given call a) c.takes_behind c.gives_behind;
  shows = λ x y here there b back g h. is (showing x here) (showing y there) b back;
}

-- the names and counts that x gives by, and that each frame passes by its id
abbrev pub Ids : Way
Ids = And (And NamesHold CountsHold) IdsHold

pub ids_group : (B : Way) → RestsOn B → ((x y : Party) → B x y → AreFew x.end.streams) → Group B Ids
ids_group B rests few = both B (And NamesHold CountsHold) IdsHold (both B NamesHold CountsHold (names_group B rests) (counts_group B rests)) (derived (And B (And NamesHold CountsHold)) IdsHold (λ x y h back. record {
  ids = λ s i f j. ids_pass x.end.streams y.end.streams h.1.1.counts back.1.1.counts (few x y h.0) f (h.1.0.given s i f j);
}))
