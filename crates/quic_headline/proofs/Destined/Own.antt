-- An open end knows each id of which it told its peer until the peer retires its number (RFC 9000,
-- sections 5.1.1 and 5.1.2), as a group.
use Rattle.std.proofs.Common.{◌≡◌, ℕ, ◌<◌, ◌≤◌, Bool, true, false, List, [], ◌∷◌, ◌++◌, Option, Some, None, Ok, refl, sym, ap, ◌∙◌, subst, ◌⊎◌, inl, inr, arith, append-nil, nat_lt, length}
use Rattle.std.specs.Prelude.{map}
use Rattle.std.specs.declared.ops.Range.{Range}
use Rattle.quic_wire_core.specs.declared.shared.IssuedCid.{IssuedCid}
use Rattle.quic_wire.specs.Value.{FrameValue, new_connection_id, retire_connection_id}
use Rattle.quic_machine.specs.declared.answers.State.TheVariants as states
use Rattle.quic_machine.specs.declared.run.Delivery.{Delivery}
use Rattle.quic_machine.specs.declared.run.Call.{Call}
use Rattle.quic_machine.specs.declared.run.Call.TheVariants as calls
use Rattle.quic_machine.specs.declared.run.Answer.{Answer}
use Rattle.quic_machine.specs.declared.run.Answer.TheVariants as answers
use Rattle.quic_machine.specs.Policy.{Policy}
use Rattle.quic_machine.specs.Closing.{ticked}
use Rattle.quic_machine.specs.MessageCalls.{most_message}
use Rattle.quic_machine.specs.Sizes.{without_longer_if, shortened}
use Rattle.quic_machine.specs.Ids.{NumberedId, Ids, words_behind, words_of_id, with_number, drawn_ids, later_numbers, retires_for_next, next_used, destination}
use Rattle.quic_machine.specs.IdFrames.{retiring, next_id_taken, end_on_next_id, drawn}
use Rattle.quic_machine.specs.Parts.{Waiting}
use Rattle.quic_machine.specs.End.{End, with_closing, with_ids}
use Rattle.quic_machine.specs.Receive.{Outcome, asks_in, after_taken}
use Rattle.quic_machine.specs.Poll.{polled}
use Rattle.quic_machine.specs.FrameCases.{Settling, losses_keep}
use Rattle.quic_machine.specs.Steps as steps
use Rattle.quic_machine.specs.CallCases.{Plain, is_delivery, by_plain_call}
use Rattle.quic_machine.specs.CallCases as cases
use Rattle.quic_machine.specs.LeaveCases.{by_expired}
use Rattle.quic_machine.specs.Machine.{after_call}
use Rattle.quic_headline.specs.Runs.{Packet, Intake, In}
use Rattle.quic_headline.specs.Observer.{Sent}
use Rattle.quic_headline.specs.Duties.{WasRetired}
use Rattle.quic_headline.proofs.Places.Parties.{sents_by, Party, called, came_to, Beginning, begun_as}
use Rattle.quic_headline.proofs.Places.Groups.{Calls, Group}
use Rattle.quic_headline.proofs.Places.Coming.{by_coming}
use Rattle.quic_headline.proofs.Packets.Apart.{by_waits, by_shortened}
use Rattle.quic_headline.proofs.Packets.Delivered.{Arrivals, arrived, frames_at, among_at, with_taken}
use Rattle.quic_headline.proofs.Packets.Ids.{SaysIds, Waits, SentSayIds, AnyNumber, call_waits, call_says}
use Rattle.quic_headline.proofs.Packets.Group.{PacketsHold, meets}
use Rattle.quic_headline.proofs.Halves.KnownIds.{range_in}
use Rattle.quic_headline.proofs.Duties.OfIds.{shortened_ids, polled_ids}
use Rattle.quic_headline.proofs.Timers.Still.{was_open}
use Rattle.quic_headline.proofs.Destined.Sole.{Stays, in_map}
use Rattle.quic_headline.proofs.Destined.Issues.{AnyId, Issues, IssuesAt, frames_issue, draws_issue}
use Rattle.quic_headline.proofs.Packets.Strays.{acks_at}
use Rattle.quic_headline.proofs.Packets.Named.{NamesTaken}
use Rattle.quic_headline.proofs.Packets.Moving.{moving_keeps}

-- ---- what an end told of

-- an id lives, or a retirement of its number came, which was issued
abbrev pub IsOut : List NumberedId → List Packet → ℕ → IssuedCid → Type 0
IsOut living took issued c = Stays living (WasRetired took) (with_number c) × (c.sequence < issued)

-- so it is of all that wait to be told and that were told, and of the first id, under 0; and none
-- is still to be drawn
pub record OwnTold (id : List ℕ) (sents : List Sent) (took : List Packet) (living : List NumberedId) (issued : ℕ) (undrawn : List ℕ) (cids : List IssuedCid) : Type 0 where
  pub some : 1 ≤ issued
  pub none_left : undrawn ≡ []
  pub waits : (c : IssuedCid) → In c cids → IsOut living took issued c
  pub sent : SentSayIds (IsOut living took issued) AnyNumber sents
  pub first : Stays living (WasRetired took) (record { number = 0; id = id; token = None })

abbrev pub OwnAt : List ℕ → List Sent → List Packet → End → Type 0
OwnAt id sents took e = OwnTold id sents took e.ids.living e.ids.own.issued e.ids.undrawn e.waiting.frames.new_cids

-- what frames say of ids is so if more is
pub says_wider : (C D : IssuedCid → Type 0) (R S : ℕ → Type 0) → ((c : IssuedCid) → C c → D c) → ((n : ℕ) → R n → S n) → (f : FrameValue) → SaysIds C R f → SaysIds D S f
says_wider C D R S ids numbers (new_connection_id f) says = ids _ says
says_wider C D R S ids numbers (retire_connection_id n) says = numbers n says
says_wider C D R S ids numbers f says = tt

-- ---- a delivery

module _ (x y : Party) (p : PacketsHold x y) (back : PacketsHold y x) (now : ℕ) (s : Sent) (among : In s y.sents) (t : OwnAt x.id x.sents (came_to x y).took x.end) where
  abbrev before : List Packet
  before = (came_to x y).took

  abbrev issued_before : ℕ
  issued_before = x.end.ids.own.issued

  abbrev packet : Packet
  packet = record { number = s.number; frames = s.frames }

  -- a number is gone where a retirement of it came, or comes with the packet
  abbrev Gone : ℕ → Type 0
  Gone n = WasRetired before n ⊎ In (retire_connection_id n) s.frames

  -- what was told before
  abbrev Others : NumberedId → Type 0
  Others i = Stays x.end.ids.living (WasRetired before) i × (i.number < issued_before)

  wider : (i : NumberedId) → Stays x.end.ids.living (WasRetired before) i → Stays x.end.ids.living Gone i
  wider i (inl lives) = inl lives
  wider i (inr gone) = inr (inl gone)

  begins : IssuesAt Gone Others issued_before x.end
  begins = record {
    low = omega arith;
    waits = λ c j. (wider (with_number c) (t.waits c j).0, (t.waits c j).1);
    others = λ i o. (wider i o.0, o.1);
    due = λ place j. absurd (subst (λ (places : List ℕ). In place places) t.none_left j);
  }

  says_gone : (f : FrameValue) → In f s.frames → SaysIds AnyId Gone f
  says_gone (new_connection_id f) i = tt
  says_gone (retire_connection_id n) i = inr i
  says_gone f i = tt

  passes : (here : Bool) → IssuesAt Gone Others issued_before (arrived x.end now s.number (frames_at here s.frames)).end
  passes here = frames_issue Gone Others issued_before (came_to y x).took x.sents (record { taken = p.taken; rising = p.gives.rising }) t.sent (frames_at here s.frames) (among_at (SaysIds AnyId Gone) tt here s.frames says_gone) x.end now s.number
      (acks_at (NamesTaken (came_to y x).took) here s.frames (λ a i k named. back.named s a k among i named)) p.tracked begins

  -- once the packet was taken
  was_gone : (n : ℕ) → Gone n → WasRetired (packet ∷ before) n
  was_gone n (inl came) = record { packet = came.packet; was_taken = inr came.was_taken; carried = came.carried }
  was_gone n (inr comes) = record { packet = packet; was_taken = inl refl; carried = comes }

  taken : (living : List NumberedId) (issued : ℕ) (cids : List IssuedCid) → Issues Gone Others issued_before living issued [] cids → OwnTold x.id x.sents (packet ∷ before) living issued [] cids
  taken living issued cids i = record {
    some = (let some = t.some in let low = i.low in omega arith);
    none_left = refl;
    waits = λ c j. (stays (with_number c) (i.waits c j).0, (i.waits c j).1);
    sent = λ u f j k. says_wider (IsOut x.end.ids.living before issued_before) (IsOut living (packet ∷ before) issued) AnyNumber AnyNumber out (λ n any. tt) f (t.sent u f j k);
    first = stays (record { number = 0; id = x.id; token = None }) (i.others (record { number = 0; id = x.id; token = None }) (t.first, (let some = t.some in omega arith))).0;
  }
    where
      stays : (o : NumberedId) → Stays living Gone o → Stays living (WasRetired (packet ∷ before)) o
      stays o (inl lives) = inl lives
      stays o (inr gone) = inr (was_gone o.number gone)

      out : (c : IssuedCid) → IsOut x.end.ids.living before issued_before c → IsOut living (packet ∷ before) issued c
      out c o =
          let w = i.others (with_number c) o in
          let less : c.sequence < issued_before = w.1 in
          let low = i.low in
          (stays (with_number c) w.0, omega arith)

  -- with the ids drawn that were issued for it
  own_taken : (words : ℕ → ℕ) (e : End) → IssuesAt Gone Others issued_before e → OwnAt x.id x.sents (packet ∷ before) (drawn words e)
  own_taken words e i = taken (drawn words e).ids.living e.ids.own.issued (drawn words e).waiting.frames.new_cids (draws_issue Gone Others issued_before words e i)

-- the next id of the peer leaves it
next_told : (id : List ℕ) (sents : List Sent) (took : List Packet) (e : End) (a : Answer) → OwnAt id sents took e → OwnAt id sents took (end_on_next_id e a)
next_told id sents took e (answers.UseNextId (Ok done)) i = uses (retires_for_next e.ids)
  where
    uses : (o : Option (Range ℕ)) → OwnAt id sents took (next_id_taken o e)
    uses None = i
    uses (Some r) = by_shortened (OwnAt id sents took) (nat_lt (length (destination e.ids)) (length (destination (next_used e.ids)))) (retiring r (with_ids e (next_used e.ids))) i (λ most. i)
next_told id sents took e a i = i

-- each case
own_arrivals : (x y : Party) → PacketsHold x y → PacketsHold y x → (now : ℕ) (s : Sent) → In s y.sents → (here : Bool) → (x.end.closing.state ≡ states.Open → OwnAt x.id x.sents (came_to x y).took x.end)
    → Arrivals x.end now s.number s.frames (frames_at here s.frames) (came_to x y) (λ (o : Outcome) (j : Intake). o.end.closing.state ≡ states.Open → OwnAt x.id x.sents j.took o.end)
own_arrivals x y p back now s among here own = record {
  ignored = λ reason opened. own opened;
  noted = λ state reason opened. own opened;
  takes = λ words state new none urged mark opened. own_taken x y p back now s among (own state) words (after_taken s.number (asks_in (map Ok s.frames)) urged mark (arrived x.end now s.number (frames_at here s.frames)).end) (passes x y p back now s among (own state) here);
  moves = λ q o same remote e is_open i opened. moving_keeps (OwnAt x.id x.sents (with_taken (came_to x y) s.number s.frames).took) (λ m z j. j) (λ z b j. next_told x.id x.sents (with_taken (came_to x y) s.number s.frames).took z b j) q o remote e (i is_open);
  drains = λ words state new close is opened. cc;
  refuses = λ words state new f is opened. cc;
  exhausts = λ state opened. cc;
}

-- ---- calls

-- own ids are the same
pub record SameOwn (ids others : Ids) : Type 0 where
  pub living : others.living ≡ ids.living
  pub issued : others.own.issued ≡ ids.own.issued
  pub undrawn : others.undrawn ≡ ids.undrawn
  pub own : others.own ≡ ids.own
  pub limit : others.limit ≡ ids.limit

same_ids : (ids others : Ids) → others ≡ ids → SameOwn ids others
same_ids ids others same = subst (λ (them : Ids). SameOwn ids them) (sym same) (record { living = refl; issued = refl; undrawn = refl; own = refl; limit = refl })

own_settles : (ids : Ids) → Settling (λ (x : End). SameOwn ids x.ids)
own_settles ids (steps.known n) e k = k
own_settles ids s e k = k

-- where the next id of the peer is used, or isn't
pub next_own : (e : End) (a : Answer) → SameOwn e.ids (end_on_next_id e a).ids
next_own e (answers.UseNextId (Ok done)) = taken_next (retires_for_next e.ids)
  where
    taken_next : (o : Option (Range ℕ)) → SameOwn e.ids (next_id_taken o e).ids
    taken_next None = same_ids e.ids e.ids refl
    taken_next (Some r) = subst (λ (ids : Ids). SameOwn e.ids ids) (sym (shortened_ids _ (retiring r (with_ids e (next_used e.ids))))) (record { living = refl; issued = refl; undrawn = refl; own = refl; limit = refl })
next_own e a = same_ids e.ids e.ids refl

-- any call that is no delivery
pub call_own : (p : Policy) (e : End) (theirs : List (List ℕ)) (call : Call) (a : Answer) → is_delivery call ≡ false → SameOwn e.ids (after_call p e theirs call a).ids
call_own p e theirs call a other = by_plain_call p e theirs (λ (x : End). SameOwn e.ids x.ids) call a keep
  where
    same : SameOwn e.ids e.ids
    same = same_ids e.ids e.ids refl

    keep : Plain p e call (λ (x : End). SameOwn e.ids x.ids)
    keep (cases.waits now b) may = by_waits (λ (x : End). SameOwn e.ids x.ids) b (with_closing e (ticked e.closing now)) same same
    keep (cases.changes_id b) may = next_own e b
    keep (cases.times now expiry) may =
        by_expired p.words e now (λ (x : End). SameOwn e.ids x.ids) (λ acks tracking timers waits asked runs packets. same)
        (λ acks timers waits asked runs. losses_keep (λ (x : End). SameOwn e.ids x.ids) (own_settles e.ids) (with_closing e (ticked e.closing now)) same) (λ x v. v) expiry
    keep (cases.polls now) may = same_ids e.ids (polled p e now).end.ids (polled_ids p e now)
    keep (cases.hears arrival d) is = cc
    keep c may = same

-- what waits beside the bytes of streams is the same where messages are dropped
lasts_waiting : (o : Option ℕ) (e : End) → (without_longer_if o e).waiting ≡ e.waiting
lasts_waiting None e = refl
lasts_waiting (Some most) e = refl

pub shortened_waiting : (b : Bool) (e : End) → (shortened b e).waiting ≡ e.waiting
shortened_waiting true e = lasts_waiting (most_message e) e
shortened_waiting false e = refl

-- where the next id of the peer is used, the same ids wait to be told
pub next_waits : (C : IssuedCid → Type 0) (e : End) (a : Answer) → Waits C AnyNumber e.waiting.frames → Waits C AnyNumber (end_on_next_id e a).waiting.frames
next_waits C e (answers.UseNextId (Ok done)) w = taken_next (retires_for_next e.ids)
  where
    taken_next : (o : Option (Range ℕ)) → Waits C AnyNumber (next_id_taken o e).waiting.frames
    taken_next None = w
    taken_next (Some r) = subst (λ (waiting : Waiting). Waits C AnyNumber waiting.frames) (sym (shortened_waiting _ (retiring r (with_ids e (next_used e.ids))))) (record { tells = w.tells; retires = λ n i. tt })
next_waits C e a w = w

-- ---- the group

pub record KnowsOwn (x y : Party) : Type 0 where
  pub own : x.end.closing.state ≡ states.Open → OwnAt x.id x.sents (came_to x y).took x.end

-- a call that hands nothing in
apart_own : (x y : Party) (call : Call) (a : Answer) → Calls PacketsHold x y call a → is_delivery call ≡ false → OwnAt x.id x.sents (came_to x y).took x.end
    → OwnAt x.id (x.sents ++ sents_by x.policy x.end call a) (came_to x y).took (after_call x.policy x.end y.given call a)
apart_own x y call a c apart t =
    subst (λ (undrawn : List ℕ). OwnTold x.id sents came next.ids.living next.ids.own.issued undrawn next.waiting.frames.new_cids) (sym same.undrawn)
    (subst (λ (issued : ℕ). OwnTold x.id sents came next.ids.living issued x.end.ids.undrawn next.waiting.frames.new_cids) (sym same.issued)
    (subst (λ (living : List NumberedId). OwnTold x.id sents came living x.end.ids.own.issued x.end.ids.undrawn next.waiting.frames.new_cids) (sym same.living) (record {
      some = t.some;
      none_left = t.none_left;
      waits = (call_waits out AnyNumber x.policy x.end y.given call a x.sents apart t.sent c.gives.tracked (λ uses. next_waits out x.end a waiting) waiting).tells;
      sent = call_says out AnyNumber x.policy x.end y.given call a x.sents c.answer c.served c.gives.owes t.sent c.gives.tracked waiting;
      first = t.first;
    })))
  where
    next : End
    next = after_call x.policy x.end y.given call a

    came : List Packet
    came = (came_to x y).took

    sents : List Sent
    sents = x.sents ++ sents_by x.policy x.end call a

    out : IssuedCid → Type 0
    out = IsOut x.end.ids.living came x.end.ids.own.issued

    same : SameOwn x.end.ids next.ids
    same = call_own x.policy x.end y.given call a apart

    waiting : Waits out AnyNumber x.end.waiting.frames
    waiting = record { tells = t.waits; retires = λ n i. tt }

-- x makes a call
own_step : (x y : Party) (call : Call) (a : Answer) → Calls PacketsHold x y call a → KnowsOwn x y → KnowsOwn (called x y.given call a) y
own_step x y call a c i = record {
  own = by_coming x y a c.joined c.served (meets y x c.takes) Holds call c.answer (record {
    apart = λ apart opened. apart_own x y call a c apart (i.own (was_open x.policy x.end y.given call a opened));
    none = λ delivery is opened. subst (λ (ss : List Sent). OwnAt x.id ss (came_to x y).took x.end) (sym (none_sent delivery is)) (i.own opened);
    comes = λ delivery is s among here. subst (λ (ss : List Sent). Arrivals x.end delivery.now s.number s.frames (frames_at here s.frames) (came_to x y) (λ (o : Outcome) (j : Intake). o.end.closing.state ≡ states.Open → OwnAt x.id ss j.took o.end)) (sym (none_sent delivery is))
        (own_arrivals x y c.gives c.takes delivery.now s among here i.own);
  });
}
  where
    Holds : End → Intake → Type 0
    Holds e j = e.closing.state ≡ states.Open → OwnAt x.id (x.sents ++ sents_by x.policy x.end call a) j.took e

    -- a delivery sends nothing
    none_sent : (delivery : Delivery) → call ≡ calls.Deliver delivery → x.sents ++ sents_by x.policy x.end call a ≡ x.sents
    none_sent delivery is = ap (λ (made : Call). x.sents ++ sents_by x.policy x.end made a) is ∙ append-nil x.sents

-- ---- the start

pub drawn_number : (words : ℕ → ℕ) (ns : List ℕ) (c : IssuedCid) → In c (drawn_ids words ns) → In c.sequence ns
drawn_number words [] c i = absurd i
drawn_number words (n ∷ ns) c (inl is) = inl (ap (λ (d : IssuedCid). d.sequence) is)
drawn_number words (n ∷ ns) c (inr i) = inr (drawn_number (words_behind words_of_id words) ns c i)

-- of the ids with which it begins an end is to tell, but for the first
own_first : (x y : Beginning) → KnowsOwn (begun_as x y) (begun_as y x)
own_first x y = record {
  own = λ opened. record {
    some = (let eight : 1 ≤ 8 = omega arith in eight);
    none_left = refl;
    waits = λ c i. (inl (inr (in_map with_number c (drawn_ids (words_behind 1 x.making.words) (later_numbers 8)) i)), (range_in c.sequence 1 7 (drawn_number (words_behind 1 x.making.words) (later_numbers 8) c i)).0);
    sent = λ s f i. absurd i;
    first = inl (inl refl);
  };
}

-- over the packets between both ends
pub own_group : Group PacketsHold KnowsOwn
own_group = record {
  first = λ x y m there back. own_first x y;
  writer = λ x y call a c i back. own_step x y call a c i;
  reader = λ x y call a c there i. record { own = i.own };
  shows = λ x y here there b back i j. record { own = i.own };
}
