-- The ids of which an end tells its peer are drawn of its random source, each of words of its own,
-- as a group, and at each place of an honest run.
use Rattle.std.proofs.Common.{◌≡◌, ℕ, suc, ◌+◌, ◌-◌, ◌*◌, ◌<◌, ◌≤◌, ◌⊎◌, Bool, true, false, nat_lt, List, [], ◌++◌, length, map, Option, Some, None, Ok, refl, sym, ap, ◌∙◌, subst, inl, inr, arith, append-nil}
use Rattle.std.specs.Prelude.{if◌then◌else◌, ◌&&◌}
use Rattle.std.specs.Int.{w64, to_be_bytes}
use Rattle.std.specs.declared.ops.Range.{Range}
use Rattle.std.proofs.lemmas.Bool.{lt-ltb, ltb-true, ltb-false, le-ltb}
use Rattle.quic_wire_core.specs.declared.shared.IssuedCid.{IssuedCid}
use Rattle.quic_wire.specs.Value.{NewConnectionIdValue, new_connection_id}
use Rattle.quic_wire_core.specs.declared.shared.EcnCodepoint.{EcnCodepoint}
use Rattle.quic_packet.specs.Datagram.{Opening}
use Rattle.quic_spaces.specs.Filter.{Filter, is_skipped, after_skipped, after_allocated}
use Rattle.quic_machine.specs.declared.answers.State.TheVariants as states
use Rattle.quic_machine.specs.declared.run.Delivery.{Delivery}
use Rattle.quic_machine.specs.declared.run.Call.{Call}
use Rattle.quic_machine.specs.declared.run.Call.TheVariants as calls
use Rattle.quic_machine.specs.declared.run.Answer.{Answer}
use Rattle.quic_machine.specs.declared.run.Answer.TheVariants as answers
use Rattle.quic_machine.specs.Policy.{Policy}
use Rattle.quic_machine.specs.Closing.{ticked}
use Rattle.quic_streams_state.specs.Control.{issued_in}
use Rattle.quic_machine.specs.Ids.{words_behind, words_of_id, drawn_id, drawn_places, later_numbers, retires_for_next, next_used, destination}
use Rattle.quic_machine.specs.IdFrames.{retiring, next_id_taken, end_on_next_id, drawn}
use Rattle.quic_machine.specs.End.{End, with_closing, with_ids, closed_by, words_drawn}
use Rattle.quic_machine.specs.Calls.{is_open}
use Rattle.quic_machine.specs.Migration.{is_there, migrated}
use Rattle.quic_machine.specs.Receive.{Outcome, asks_in, is_urged, after_taken, migrated_if}
use Rattle.quic_machine.specs.Poll.{Draft, Polled, draft_as, polled, closes, Leaving, whole, alone, probe, closing, nothing, lazied_as}
use Rattle.quic_machine.specs.Puts as puts
use Rattle.quic_machine.specs.DraftLaws.{Writing, MayLeave, by_leave}
use Rattle.quic_machine.specs.PollCases.{at_poll, by_poll}
use Rattle.quic_machine.specs.FrameCases.{Settling, begun, losses_keep}
use Rattle.quic_machine.specs.Steps as steps
use Rattle.quic_machine.specs.LeaveCases.{Expired, of_path, by_timers}
use Rattle.quic_machine.specs.LeaveCases as leaves
use Rattle.quic_machine.specs.Timeouts.{loss_judged}
use Rattle.quic_machine.specs.CallCases.{Plain, is_delivery, by_plain_call}
use Rattle.quic_machine.specs.CallCases as cases
use Rattle.quic_machine.specs.Machine.{World, after_call}
use Rattle.quic_headline.specs.Runs.{Run, Intake, In}
use Rattle.quic_headline.specs.Observer.{Sent, sents_until}
use Rattle.quic_headline.specs.Duties.{WasGiven}
use Rattle.quic_headline.specs.Headline.{IsHonest, IsRun}
use Rattle.quic_headline.specs.DrawnIds.{IsDrawnAt, IdsAreDrawn}
use Rattle.quic_headline.proofs.Places.Parties.{sents_by, Party, called, came_to, Beginning, begun_as}
use Rattle.quic_headline.proofs.Places.Groups.{Way, Nothing, And, Calls, Group, both, over}
use Rattle.quic_headline.proofs.Places.Coming.{by_coming_by}
use Rattle.quic_headline.proofs.Places.Placed.{party_at, Placed, placed, placed_less}
use Rattle.quic_headline.proofs.Places.Flights.{own_at}
use Rattle.quic_headline.proofs.Places.Everything as everything
use Rattle.quic_headline.proofs.Places.Theorems.{ready}
use Rattle.quic_headline.proofs.Halves.Ready.{Ready}
use Rattle.quic_headline.proofs.Halves.KnownIds.{range_in}
use Rattle.quic_headline.proofs.Packets.Apart.{by_waits, by_shortened}
use Rattle.quic_headline.proofs.Packets.Closes.{by_closes}
use Rattle.quic_headline.proofs.Packets.Probes.{may_leave}
use Rattle.quic_headline.proofs.Packets.Delivered.{ArrivalsBy, moves_by, arrived, frames_at}
use Rattle.quic_headline.proofs.Packets.Group.{PacketsHold, meets}
use Rattle.quic_headline.proofs.Packets.Ids.{Waits, SentSayIds, AnyNumber, call_waits, call_says}
use Rattle.quic_headline.proofs.Packets.Moving.{by_moves}
use Rattle.quic_headline.proofs.Packets.Named.{NamesTaken}
use Rattle.quic_headline.proofs.Packets.Sight.{Sight}
use Rattle.quic_headline.proofs.Packets.Strays.{acks_at}
use Rattle.quic_headline.proofs.Timers.Still.{was_open}
use Rattle.quic_headline.proofs.Destined.Own.{SameOwn, call_own, says_wider, next_waits, drawn_number}
use Rattle.quic_headline.proofs.Destined.Fresh.{AreDue, IssuingAt, frames_issuing, AllDrawn, all_drawn}

-- ---- how many words are drawn

-- by a number that is given
given_more : (f : Filter) (next word others n : ℕ) → n ≤ f.drawn + others → n ≤ (after_allocated f next word).drawn + others
given_more f next word others n most = go (is_skipped f next)
  where
    go : (b : Bool) → n ≤ (let g : Filter = if b then after_skipped f word else f in g.drawn) + others
    go true = omega arith
    go false = most

module _ (n : ℕ) where
  -- so many were drawn, for numbers and challenges, or more
  abbrev Drew : End → Type 0
  Drew e = n ≤ e.filter.drawn + e.validation.drawn

  settles_drew : Settling Drew
  settles_drew (steps.known m) e i = i
  settles_drew s e i = i

  -- a poll draws no word back
  lazied_drew : (leaving : Leaving) (e : End) → Drew e → Drew (lazied_as leaving e)
  lazied_drew whole e i = i
  lazied_drew alone e i = i
  lazied_drew (probe size) e i = i
  lazied_drew (closing f) e i = i
  lazied_drew (nothing held) e i = i

  draft_drew : (leaving : Leaving) (e : End) → MayLeave leaving e → Drew e → Drew (draft_as leaving e).end
  draft_drew leaving e may i = by_leave (λ (d : Draft). Drew d.end) put leaving e may (lazied_drew leaving e i)
    where
      put : Writing (λ (d : Draft). Drew d.end)
      put puts.ack d may j = j
      put p d may j = j

  poll_drew : (p : Policy) (e : End) (now : ℕ) → Drew e → Drew (polled p e now).end
  poll_drew p e now i = by_poll p e now (λ (q : Polled). Drew q.end) (record {
    silent = i;
    failed = i;
    repeats = λ is. close_drew (with_closing e (ticked e.closing now)) i;
    nothing = λ c. i;
    closes = λ reason c bound. close_drew (closed_by reason (at_poll e now c)) i;
    gives = λ leaving c left is may ready some.
        let d : Draft = draft_as leaving (at_poll e now c) in
        given_more d.end.filter d.end.numbers.next (p.words (words_drawn d.end)) d.end.validation.drawn n (draft_drew leaving (at_poll e now c) (may_leave e now leaving (at_poll e now c) ready) i);
  })
    where
      close_drew : (x : End) → Drew x → Drew (closes p x).end
      close_drew x j = by_closes p x (λ (q : Polled). Drew q.end) j (λ f goes. given_more x.filter x.numbers.next (p.words (words_drawn x)) x.validation.drawn n j)

  -- nor does the next id of the peer
  next_drew : (e : End) (a : Answer) → Drew e → Drew (end_on_next_id e a)
  next_drew e (answers.UseNextId (Ok done)) i = uses (retires_for_next e.ids)
    where
      uses : (o : Option (Range ℕ)) → Drew (next_id_taken o e)
      uses None = i
      uses (Some r) = by_shortened Drew (nat_lt (length (destination e.ids)) (length (destination (next_used e.ids)))) (retiring r (with_ids e (next_used e.ids))) i (λ most. i)
  next_drew e a i = i

  -- nor does any call but a delivery
  call_drew : (p : Policy) (e : End) (theirs : List (List ℕ)) (call : Call) (a : Answer) → is_delivery call ≡ false → Drew e → Drew (after_call p e theirs call a)
  call_drew p e theirs call a other i = by_plain_call p e theirs Drew call a keep
    where
      judged : (o : Option ℕ) (x : End) → Drew x → Drew (loss_judged o x)
      judged None x j = j
      judged (Some moment) x j = losses_keep Drew settles_drew x j

      each : (s : Expired) (x : End) → Drew x → Drew (leaves.after s x)
      each (of_path word) x j = omega arith
      each s x j = j

      keep : Plain p e call Drew
      keep (cases.waits now b) may = by_waits Drew b (with_closing e (ticked e.closing now)) i i
      keep (cases.changes_id b) may = next_drew e b i
      keep (cases.times now expiry) may = by_timers p.words Drew Drew judged each (λ x j. j) (λ x j. j) expiry (with_closing e (ticked e.closing now)) i
      keep (cases.polls now) may = poll_drew p e now i
      keep (cases.hears arrival d) is = cc
      keep c may = i

-- ---- what is drawn

-- three words are an id with its token
abbrev id_of : ℕ → ℕ → ℕ → ℕ → IssuedCid
id_of n a b c = record { sequence = n; id = to_be_bytes w64 a; reset_token = to_be_bytes w64 b ++ to_be_bytes w64 c }

-- whichever source gives them
drawn_same : (ws vs : ℕ → ℕ) (n : ℕ) → ((k : ℕ) → ws k ≡ vs k) → drawn_id ws n ≡ drawn_id vs n
drawn_same ws vs n same = ap (λ (k : ℕ). id_of n k (ws 1) (ws 2)) (same 0) ∙ ap (λ (k : ℕ). id_of n (vs 0) k (ws 2)) (same 1) ∙ ap (λ (k : ℕ). id_of n (vs 0) (vs 1) k) (same 2)

module _ (made : End) (words : ℕ → ℕ) where
  -- the ids to be told with which an end was made, and how many numbers it had issued by then
  abbrev pub first_of : List IssuedCid
  first_of = made.waiting.frames.new_cids

  abbrev pub start : ℕ
  start = made.ids.own.issued

  -- what is drawn at the place of a number
  abbrev pub at_place : (ℕ → ℕ) → ℕ → IssuedCid
  at_place place n = drawn_id (words_behind (place n) words) n

  -- an id is one of those, or was issued since, and drawn there
  abbrev pub IsPlaced : (ℕ → ℕ) → ℕ → IssuedCid → Type 0
  IsPlaced place issued c = In c first_of ⊎ ((start ≤ c.sequence) × (c.sequence < issued) × (c ≡ at_place place c.sequence))

  -- so are all that wait to be told and that were told; the words of each lie behind those of the
  -- one before, and were drawn
  pub record ArePlaced (issued : ℕ) (undrawn : List ℕ) (cids : List IssuedCid) (count : ℕ) (sents : List Sent) : Type 0 where
    pub place : ℕ → ℕ
    pub some : (1 ≤ start) × (start ≤ issued)
    pub first_low : (c : IssuedCid) → In c first_of → c.sequence < start
    pub none_left : undrawn ≡ []
    pub more : words_drawn made ≤ count + 3 * (issued - 1)
    pub since : (n : ℕ) → start ≤ n → n < issued → words_drawn made ≤ place n
    pub apart : (m n : ℕ) → start ≤ m → m < n → n < issued → place m + 3 ≤ place n
    pub within : (n : ℕ) → start ≤ n → n < issued → place n + 3 ≤ count + 3 * (issued - 1)
    pub waits : (c : IssuedCid) → In c cids → IsPlaced place issued c
    pub sent : SentSayIds (IsPlaced place issued) AnyNumber sents

  abbrev pub PlacedAt : List Sent → End → Type 0
  PlacedAt sents e = ArePlaced e.ids.own.issued e.ids.undrawn e.waiting.frames.new_cids (e.filter.drawn + e.validation.drawn) sents

-- ---- a delivery

module _ (x y : Party) (p : PacketsHold x y) (back : PacketsHold y x) (s : Sent) (among : In s y.sents) (t : PlacedAt x.made x.policy.words x.sents x.end) where
  abbrev words : ℕ → ℕ
  words = x.policy.words

  abbrev old : ℕ
  old = x.end.ids.own.issued

  abbrev Before : IssuedCid → Type 0
  Before = IsPlaced x.made words t.place old

  pub low : (c : IssuedCid) → Before c → c.sequence < old
  low c (inl one) = (let less = t.first_low c one in let some = t.some.1 in omega arith)
  low c (inr was) = was.1

  abbrev Issues : End → Type 0
  Issues = IssuingAt Before old low (x.end.filter.drawn + x.end.validation.drawn)

  begins : Issues x.end
  begins = record {
    many = (let none = ap (λ (places : List ℕ). length places) t.none_left in omega arith);
    due = subst (λ (places : List ℕ). AreDue old places x.end.waiting.frames.new_cids) (sym t.none_left) tt;
    waits = λ c j. inl (t.waits c j);
    drew = omega arith;
  }

  passes : (here : Bool) (now : ℕ) → Issues (arrived x.end now s.number (frames_at here s.frames)).end
  passes here now = frames_issuing Before old low (x.end.filter.drawn + x.end.validation.drawn) (came_to y x).took x.sents (record { taken = p.taken; rising = p.gives.rising }) t.sent (frames_at here s.frames) x.end now s.number
      (acks_at (NamesTaken (came_to y x).took) here s.frames (λ a i k named. back.named s a k among i named)) p.tracked begins

  -- with the ids drawn that were issued for it
  module _ (e : End) (i : Issues e) where
    abbrev issued : ℕ
    issued = e.ids.own.issued

    abbrev base : ℕ
    base = words_drawn e

    many : issued ≡ old + length e.ids.undrawn
    many = i.many

    from : base ≡ e.filter.drawn + e.validation.drawn + 3 * (old - 1)
    from = let all = many in let one = t.some.0 in let some = t.some.1 in omega arith

    place : ℕ → ℕ
    place n = if nat_lt n old then t.place n else base + 3 * (n - old)

    was : (n : ℕ) → n < old → place n ≡ t.place n
    unfolding place
    was n less = ap (λ (b : Bool). if b then t.place n else base + 3 * (n - old)) (lt-ltb n old less)

    is : (n : ℕ) → old ≤ n → place n ≡ base + 3 * (n - old)
    unfolding place
    is n least = ap (λ (b : Bool). if b then t.place n else base + 3 * (n - old)) (le-ltb n old least)

    -- an id that was drawn before has its words still
    still : (c : IssuedCid) → Before c → IsPlaced x.made words place issued c
    still c (inl one) = inl one
    still c (inr before) = inr (before.0, (let less = before.1 in let all = many in omega arith), before.2 ∙ ap (λ (k : ℕ). drawn_id (words_behind k words) c.sequence) (sym (was c.sequence before.1)))

    -- the source from the words of a number on
    abbrev From : ℕ → (ℕ → ℕ) → Type 0
    From n ws = (old ≤ n) × ((k : ℕ) → ws k ≡ words (place n + k))

    next : (n : ℕ) (ws : ℕ → ℕ) → From n ws → From (suc n) (words_behind words_of_id ws)
    next n ws at = (up, λ k. at.1 (words_of_id + k) ∙ ap words (moved k))
      where
        up : old ≤ suc n
        up = let least = at.0 in omega arith

        moved : (k : ℕ) → place n + (words_of_id + k) ≡ place (suc n) + k
        moved k = let here = is n at.0 in let more = is (suc n) up in let least = at.0 in omega arith

    made : (n : ℕ) (ws : ℕ → ℕ) → n < issued → From n ws → IsPlaced x.made words place issued (drawn_id ws n)
    made n ws less at = inr ((let one = t.some.1 in let least = at.0 in omega arith), less, drawn_same ws (words_behind (place n) words) n at.1)

    all : AllDrawn issued From next (IsPlaced x.made words place issued) made (drawn_places e.ids.undrawn (words_behind base words) (record { living = e.ids.living; waiting = e.waiting.frames.new_cids }))
    all = all_drawn issued From next (IsPlaced x.made words place issued) made e.ids.undrawn old (words_behind base words) (record { living = e.ids.living; waiting = e.waiting.frames.new_cids }) many i.due
        (omega arith, λ k. ap words (begins_there k))
        (λ c j. elim (i.waits c j) [ inl before ↦ inl (still c before) | inr new ↦ inr new ])
      where
        begins_there : (k : ℕ) → base + k ≡ place old + k
        begins_there k = let here = is old (omega arith) in omega arith

    since : (n : ℕ) → start x.made words ≤ n → n < issued → words_drawn x.made ≤ place n
    since n least less = go (nat_lt n old) refl
      where
        go : (b : Bool) → nat_lt n old ≡ b → words_drawn x.made ≤ place n
        go true below_it = (let a = was n (ltb-true n old below_it) in let before = t.since n least (ltb-true n old below_it) in omega arith)
        go false high = (let a = is n (ltb-false n old high) in let before = t.more in let drew = i.drew in let first = from in omega arith)

    apart : (m n : ℕ) → start x.made words ≤ m → m < n → n < issued → place m + 3 ≤ place n
    apart m n some above less = go (nat_lt m old) refl (nat_lt n old) refl
      where
        go : (b : Bool) → nat_lt m old ≡ b → (c : Bool) → nat_lt n old ≡ c → place m + 3 ≤ place n
        go true low_one true low_both =
            let a = was m (ltb-true m old low_one) in
            let b = was n (ltb-true n old low_both) in
            let before = t.apart m n some above (ltb-true n old low_both) in
            omega arith
        go true low_one false high =
            let a = was m (ltb-true m old low_one) in
            let b = is n (ltb-false n old high) in
            let before = t.within m some (ltb-true m old low_one) in
            let drew = i.drew in
            let first = from in
            omega arith
        go false high c any =
            let least = ltb-false m old high in
            let a = is m least in
            let b = is n (omega arith) in
            omega arith

    within : (n : ℕ) → start x.made words ≤ n → n < issued → place n + 3 ≤ e.filter.drawn + e.validation.drawn + 3 * (issued - 1)
    within n some less = go (nat_lt n old) refl
      where
        go : (b : Bool) → nat_lt n old ≡ b → place n + 3 ≤ e.filter.drawn + e.validation.drawn + 3 * (issued - 1)
        go true below_it =
            let a = was n (ltb-true n old below_it) in
            let before = t.within n some (ltb-true n old below_it) in
            let drew = i.drew in
            let counts = many in
            omega arith
        go false high =
            let a = is n (ltb-false n old high) in
            let first = from in
            let one = t.some.0 in
            let above = t.some.1 in
            let least = ltb-false n old high in
            omega arith

    pub taken_placed : PlacedAt x.made words x.sents (drawn words e)
    taken_placed = record {
      place = place;
      some = (t.some.0, (let above = t.some.1 in let counts = many in omega arith));
      first_low = t.first_low;
      none_left = refl;
      more = (let before = t.more in let drew = i.drew in let counts = many in omega arith);
      since = since;
      apart = apart;
      within = within;
      waits = all;
      sent = λ u f j k. says_wider Before (IsPlaced x.made words place issued) AnyNumber AnyNumber still (λ n any. tt) f (t.sent u f j k);
    }

module _ (made : End) (p : Policy) (sents : List Sent) where
  abbrev Of : End → Type 0
  Of = PlacedAt made p.words sents

  -- the next id of the peer leaves it
  next_placed : (e : End) (a : Answer) → Of e → Of (end_on_next_id e a)
  next_placed e (answers.UseNextId (Ok done)) i = uses (retires_for_next e.ids)
    where
      uses : (o : Option (Range ℕ)) → Of (next_id_taken o e)
      uses None = i
      uses (Some r) = by_shortened Of (nat_lt (length (destination e.ids)) (length (destination (next_used e.ids)))) (retiring r (with_ids e (next_used e.ids))) i (λ most. i)
  next_placed e a i = i

  -- a word more is drawn
  more_drawn : (issued : ℕ) (undrawn : List ℕ) (cids : List IssuedCid) (drawn more : ℕ) → drawn ≤ more → ArePlaced made p.words issued undrawn cids drawn sents → ArePlaced made p.words issued undrawn cids more sents
  more_drawn issued undrawn cids drawn more rises i = record {
    place = i.place;
    some = i.some;
    first_low = i.first_low;
    none_left = i.none_left;
    more = (let before = i.more in omega arith);
    since = i.since;
    apart = i.apart;
    within = λ n some less. (let before = i.within n some less in omega arith);
    waits = i.waits;
    sent = i.sent;
  }

  moved_placed : (o : Opening) (remote : ℕ) (e : End) → Of e → Of (migrated p o remote e)
  moved_placed o remote e i = by_moves Of p o remote e i
      (λ word z j. more_drawn z.ids.own.issued z.ids.undrawn z.waiting.frames.new_cids (z.filter.drawn + z.validation.drawn) (z.filter.drawn + (z.validation.drawn + 1)) (omega arith) j)
      (λ z j. j) (λ z j. next_placed z (answers.UseNextId (Ok tt)) j) (λ token z j. j) (λ z j. j)

-- each case
placed_arrivals : (x y : Party) → PacketsHold x y → PacketsHold y x → (remote : ℕ) (mark : Option EcnCodepoint) (now : ℕ) (s : Sent) → In s y.sents → (x.end.closing.state ≡ states.Open → PlacedAt x.made x.policy.words x.sents x.end)
    → ArrivalsBy x.policy remote mark x.end now s.number s.frames (came_to x y) (λ (o : Outcome) (j : Intake). o.end.closing.state ≡ states.Open → PlacedAt x.made x.policy.words x.sents o.end)
placed_arrivals x y p back remote mark now s among own = record {
  ignored = λ reason opened. own opened;
  noted = λ state reason opened. own opened;
  takes = λ o same state new none opened. moved o (moves_by remote s.number s.frames x.end && is_open (here_drawn).closing.state) (taken_placed x y p back s among (own state) here_taken (passes x y p back s among (own state) (is_there remote x.end) now));
  drains = λ state new close is opened. cc;
  refuses = λ state new f is opened. cc;
  exhausts = λ state opened. cc;
}
  where
    here_taken : End
    here_taken =
        let taken = frames_at (is_there remote x.end) s.frames in
        after_taken s.number (asks_in (map Ok s.frames)) (is_urged mark (asks_in (map Ok s.frames)) (map Ok taken) (begun x.end now s.number)) mark (arrived x.end now s.number taken).end

    here_drawn : End
    here_drawn = drawn x.policy.words here_taken

    moved : (o : Opening) (b : Bool) → PlacedAt x.made x.policy.words x.sents here_drawn → PlacedAt x.made x.policy.words x.sents (migrated_if b x.policy o remote here_drawn)
    moved o true i = moved_placed x.made x.policy x.sents o remote here_drawn i
    moved o false i = i

-- ---- the group

pub record Places (x y : Party) : Type 0 where
  pub own : x.end.closing.state ≡ states.Open → PlacedAt x.made x.policy.words x.sents x.end

-- a call that hands nothing in
apart_placed : (x y : Party) (call : Call) (a : Answer) → Calls PacketsHold x y call a → is_delivery call ≡ false → PlacedAt x.made x.policy.words x.sents x.end
    → PlacedAt x.made x.policy.words (x.sents ++ sents_by x.policy x.end call a) (after_call x.policy x.end y.given call a)
apart_placed x y call a c apart t =
    subst (λ (undrawn : List ℕ). ArePlaced x.made words next.ids.own.issued undrawn next.waiting.frames.new_cids drew sents) (sym same.undrawn)
    (subst (λ (issued : ℕ). ArePlaced x.made words issued x.end.ids.undrawn next.waiting.frames.new_cids drew sents) (sym same.issued) (record {
      place = t.place;
      some = t.some;
      first_low = t.first_low;
      none_left = t.none_left;
      more = (let before = t.more in let up = rises in omega arith);
      since = t.since;
      apart = t.apart;
      within = λ n some less. (let before = t.within n some less in let up = rises in omega arith);
      waits = (call_waits Is AnyNumber x.policy x.end y.given call a x.sents apart t.sent c.gives.tracked (λ uses. next_waits Is x.end a waiting) waiting).tells;
      sent = call_says Is AnyNumber x.policy x.end y.given call a x.sents c.answer c.served c.gives.owes t.sent c.gives.tracked waiting;
    }))
  where
    words : ℕ → ℕ
    words = x.policy.words

    next : End
    next = after_call x.policy x.end y.given call a

    drew : ℕ
    drew = next.filter.drawn + next.validation.drawn

    sents : List Sent
    sents = x.sents ++ sents_by x.policy x.end call a

    Is : IssuedCid → Type 0
    Is = IsPlaced x.made words t.place x.end.ids.own.issued

    same : SameOwn x.end.ids next.ids
    same = call_own x.policy x.end y.given call a apart

    rises : x.end.filter.drawn + x.end.validation.drawn ≤ drew
    rises = call_drew (x.end.filter.drawn + x.end.validation.drawn) x.policy x.end y.given call a apart (omega arith)

    waiting : Waits Is AnyNumber x.end.waiting.frames
    waiting = record { tells = t.waits; retires = λ n i. tt }

-- x makes a call
placed_step : (x y : Party) (call : Call) (a : Answer) → Calls PacketsHold x y call a → Places x y → Places (called x y.given call a) y
placed_step x y call a c i = record {
  own = by_coming_by x y a c.joined c.served (meets y x c.takes) Holds call c.answer (record {
    apart = λ apart opened. apart_placed x y call a c apart (i.own (was_open x.policy x.end y.given call a opened));
    none = λ delivery is opened. subst (λ (ss : List Sent). PlacedAt x.made x.policy.words ss x.end) (sym (none_sent delivery is)) (i.own opened);
    comes = λ delivery is s among. subst (λ (ss : List Sent). ArrivalsBy x.policy delivery.remote delivery.ecn x.end delivery.now s.number s.frames (came_to x y) (λ (o : Outcome) (j : Intake). o.end.closing.state ≡ states.Open → PlacedAt x.made x.policy.words ss o.end)) (sym (none_sent delivery is))
        (placed_arrivals x y c.gives c.takes delivery.remote delivery.ecn delivery.now s among i.own);
  });
}
  where
    Holds : Answer → End → Intake → Type 0
    Holds b e j = e.closing.state ≡ states.Open → PlacedAt x.made x.policy.words (x.sents ++ sents_by x.policy x.end call a) e

    -- a delivery sends nothing
    none_sent : (delivery : Delivery) → call ≡ calls.Deliver delivery → x.sents ++ sents_by x.policy x.end call a ≡ x.sents
    none_sent delivery is = ap (λ (made : Call). x.sents ++ sents_by x.policy x.end made a) is ∙ append-nil x.sents

-- ---- the start

-- none was drawn since
first_placed : (x y : Beginning) → Places (begun_as x y) (begun_as y x)
first_placed x y = record {
  own = λ opened. record {
    place = λ n. 0;
    some = (let one : 1 ≤ 8 = omega arith in one, let all : 8 ≤ 8 = omega arith in all);
    first_low = λ c i. (range_in c.sequence 1 7 (drawn_number (words_behind 1 x.making.words) (later_numbers 8) c i)).0;
    none_left = refl;
    more = drawn_so_far (begun_as x y).made.filter.drawn (begun_as x y).made.validation.drawn;
    since = λ n least less. absurd (omega arith);
    apart = λ m n least above less. absurd (omega arith);
    within = λ n least less. absurd (omega arith);
    waits = λ c i. inl i;
    sent = λ s f i. absurd i;
  };
}
  where
    drawn_so_far : (f v : ℕ) → f + 3 * (8 - 1 - 0) + v ≤ f + v + 3 * (8 - 1)
    drawn_so_far f v = omega arith

-- over the packets between both ends
pub places_group : Group PacketsHold Places
places_group = record {
  first = λ x y m there back. first_placed x y;
  writer = λ x y call a c i back. placed_step x y call a c i;
  reader = λ x y call a c there i. record { own = i.own };
  shows = λ x y here there b back i j. record { own = i.own };
}

-- ---- the clause

-- all that holds between the ends, and which words are ids
abbrev Known : Way
Known = And (everything.All Ready ready) Places

known : Group Nothing Known
known = both Nothing (everything.All Ready ready) Places (everything.all Ready ready) (over PacketsHold (And Nothing (everything.All Ready ready)) Places (λ x y h. h.1.0.0) places_group)

-- a frame that tells what is drawn at a place
drawn_there : (words : ℕ → ℕ) (place : ℕ) (f : NewConnectionIdValue) → issued_in f ≡ drawn_id (words_behind place words) f.sequence → IsDrawnAt words place f
drawn_there words place f is = record { id = ap (λ (c : IssuedCid). c.id) is ∙ ap (λ (k : ℕ). to_be_bytes w64 (words k)) first; token = ap (λ (c : IssuedCid). c.reset_token) is }
  where
    first : place + 0 ≡ place
    first = omega arith

pub ids_are_drawn : (r : Run) (end : World) → IsHonest r → IsRun r end → IdsAreDrawn r
ids_are_drawn r end honest run side i served opened = record { place = t.place; each = each; apart = apart }
  where
    at : Placed Known r end side i
    at = placed Known known r end honest run side i served

    x : Party
    x = party_at r i at.world side at.sents

    t : PlacedAt x.made x.policy.words x.sents x.end
    t = at.gives.1.own (at.state ∙ opened)

    told : (h : NewConnectionIdValue) → WasGiven (sents_until r side i) (new_connection_id h) → IsPlaced x.made x.policy.words t.place x.end.ids.own.issued (issued_in h)
    told h given = t.sent given.sent (new_connection_id h) (subst (λ (ss : List Sent). In given.sent ss) (own_at r end honest side i (placed_less Known Sight r end side i (λ y z k. k.0.1) at)) given.among) given.carried

    each : (f : NewConnectionIdValue) → WasGiven (sents_until r side i) (new_connection_id f)
        → In (issued_in f) x.made.waiting.frames.new_cids ⊎ ((x.made.ids.own.issued ≤ f.sequence) × (words_drawn x.made ≤ t.place f.sequence) × IsDrawnAt x.policy.words (t.place f.sequence) f)
    each f given = elim (told f given) [
      | inl one ↦ inl one
      | inr own ↦ inr (own.0, t.since f.sequence own.0 own.1, drawn_there x.policy.words (t.place f.sequence) f own.2)
    ]

    less_issued : (g : NewConnectionIdValue) → x.made.ids.own.issued ≤ g.sequence → WasGiven (sents_until r side i) (new_connection_id g) → g.sequence < x.end.ids.own.issued
    less_issued g least given = elim (told g given) [
      | inl one ↦ (let low : g.sequence < x.made.ids.own.issued = t.first_low (issued_in g) one in absurd (omega arith))
      | inr own ↦ own.1
    ]

    apart : (f g : NewConnectionIdValue) → WasGiven (sents_until r side i) (new_connection_id f) → WasGiven (sents_until r side i) (new_connection_id g) → x.made.ids.own.issued ≤ f.sequence → f.sequence < g.sequence
        → t.place f.sequence + 3 ≤ t.place g.sequence
    apart f g first second least less = t.apart f.sequence g.sequence least less (less_issued g (omega arith) second)
