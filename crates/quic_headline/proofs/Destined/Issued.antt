-- Each datagram that an end gave went to an id that its peer told it, and that it hadn't retired
-- (RFC 9000, sections 5.1.1 and 5.1.2), as a group; and so it is at each place of a run.
use Rattle.std.proofs.Common.{◌≡◌, ℕ, ◌<◌, Bool, true, false, List, [], ◌∷◌, ◌++◌, Option, Some, None, Ok, refl, sym, ap, ◌∙◌, subst, ◌⊎◌, inl, inr, arith, append-nil}
use Rattle.std.specs.Prelude.{map}
use Rattle.std.specs.Option.{option_to_list}
use Rattle.quic_wire_core.specs.declared.stream_id.Side.{Side}
use Rattle.quic_wire.specs.Value.{FrameValue, new_connection_id, retire_connection_id}
use Rattle.quic_ids.specs.CidQueue.{PeerIds}
use Rattle.quic_retransmits.specs.Retransmits.{Retransmits}
use Rattle.quic_machine.specs.declared.answers.State.TheVariants as states
use Rattle.quic_machine.specs.declared.run.Delivery.{Delivery}
use Rattle.quic_machine.specs.declared.run.Call.{Call}
use Rattle.quic_machine.specs.declared.run.Call.TheVariants as calls
use Rattle.quic_machine.specs.declared.run.Answer.{Answer}
use Rattle.quic_machine.specs.Policy.{Policy}
use Rattle.quic_machine.specs.IdFrames.{end_on_next_id, drawn}
use Rattle.quic_machine.specs.End.{End, closed_by}
use Rattle.quic_machine.specs.Receive.{Outcome, asks_in, after_taken, drained_at, reason_of}
use Rattle.quic_machine.specs.CallCases.{is_delivery, uses_next_id}
use Rattle.quic_machine.specs.Machine.{World, after_call, gave}
use Rattle.quic_headline.specs.Runs.{Run, Packet, Intake, In, AreServed, first_id_of_peer}
use Rattle.quic_headline.specs.Observer.{Sent, watch, took, sents_until}
use Rattle.quic_headline.specs.Duties.{WasGiven}
use Rattle.quic_headline.specs.Headline.{IsHonest}
use Rattle.quic_headline.specs.Ids.{and_packet, came_in}
use Rattle.quic_headline.specs.ConnectionIds.{IsToldId, IsIssued, IdsAreIssued}
use Rattle.quic_headline.proofs.Places.Parties.{sent_by, sent_if, sents_by, Party, called, came_to, Beginning, begun_as}
use Rattle.quic_headline.proofs.Places.Groups.{And, Calls, Group}
use Rattle.quic_headline.proofs.Places.Coming.{by_coming}
use Rattle.quic_headline.proofs.Places.Placed.{Placed, placed_less}
use Rattle.quic_headline.proofs.Places.Openings.{took_is}
use Rattle.quic_headline.proofs.Places.Flights.{own_at}
use Rattle.quic_headline.proofs.Packets.Delivered.{Arrivals, arrived, with_taken, with_refused, frames_at, among_at}
use Rattle.quic_headline.proofs.Packets.Ids.{SaysIds, Waits, SentSayIds, AnyNumber, call_waits, call_says}
use Rattle.quic_headline.proofs.Packets.Group.{PacketsHold, meets}
use Rattle.quic_headline.proofs.Packets.OfPeer.{peer_same}
use Rattle.quic_headline.proofs.Packets.Sight.{Sight}
use Rattle.quic_headline.proofs.Timers.Watched.{Observed}
use Rattle.quic_headline.proofs.Timers.Still.{was_open}
use Rattle.quic_headline.proofs.Duties.OfIds.{AsksNone, NoneAsked, call_asks_none}
use Rattle.quic_headline.proofs.Destined.Issues.{AnyId}
use Rattle.quic_headline.proofs.Destined.Own.{says_wider}
use Rattle.quic_headline.proofs.Destined.Used.{IsBelow, KnowsTold, UsesAt, frames_use, UsesBelow, next_uses, next_active}
use Rattle.quic_headline.proofs.Packets.Strays.{acks_at}
use Rattle.quic_headline.proofs.Packets.Named.{NamesTaken}
use Rattle.quic_machine.specs.Migration.{migrated}
use Rattle.quic_packet.specs.Datagram.{Opening}
use Rattle.quic_headline.proofs.Packets.Moving.{moving_keeps}

-- ---- the datagrams

-- each of them is one
abbrev pub AreIssued : List ℕ → List Packet → List Sent → Type 0
AreIssued first packets sents = (before behind : List Sent) (s : Sent) → sents ≡ before ++ s ∷ behind → IsIssued first packets before s

-- nothing is parted into a list with one more
none_parted : {X : Type 0} (before behind : List X) (s : X) → [] ≡ before ++ s ∷ behind → ⊥
none_parted [] behind s is = cc
none_parted (b ∷ before) behind s is = cc

-- where a list with one more at its end is parted, that is the last, or the list was parted so
parted_more : {X : Type 0} (xs : List X) (y : X) (before behind : List X) (s : X) → xs ++ y ∷ [] ≡ before ++ s ∷ behind → ((rest : List X) × (xs ≡ before ++ s ∷ rest)) ⊎ ((xs ≡ before) × (s ≡ y))
parted_more [] y [] behind s is = (let same : s ≡ y = cc in inr (refl, same))
parted_more [] y (b ∷ before) behind s is = (let rest : [] ≡ before ++ s ∷ behind = cc in absurd (none_parted before behind s rest))
parted_more (x ∷ xs) y [] behind s is = (let same : x ≡ s = cc in inl (xs, ap (λ z. z ∷ xs) same))
parted_more (x ∷ xs) y (b ∷ before) behind s is =
    let first : x ≡ b = cc in
    let rest : xs ++ y ∷ [] ≡ before ++ s ∷ behind = cc in
    elim (parted_more xs y before behind s rest) [
      | inl there ↦ inl (there.0, (let tail = there.1 in cc))
      | inr last ↦ inr ((let tail = last.0 in cc), last.1)
    ]

-- what was told stays so where more was read
told_wider : (first : List ℕ) (ps qs : List Packet) → ((p : Packet) → In p ps → In p qs) → (number : ℕ) (id : List ℕ) → IsToldId first ps number id → IsToldId first qs number id
told_wider first ps qs wider number id (inl is) = inl is
told_wider first ps qs wider number id (inr was) = inr (record { packet = was.packet; was_taken = wider was.packet was.was_taken; frame = was.frame; carried = was.carried; of_number = was.of_number; is = was.is })

issued_wider : (first : List ℕ) (ps qs : List Packet) (sents : List Sent) → ((p : Packet) → In p ps → In p qs) → AreIssued first ps sents → AreIssued first qs sents
issued_wider first ps qs sents wider all before behind s is =
    let one = all before behind s is in
    record { number = one.number; told = told_wider first ps qs wider one.number s.id one.told; unretired = one.unretired }

-- one more, which went to the id in use
issued_more : (first : List ℕ) (packets : List Packet) (sents : List Sent) (s : Sent) (active : ℕ) → AreIssued first packets sents → IsToldId first packets active s.id → (WasGiven (sents ++ s ∷ []) (retire_connection_id active) → ⊥) → AreIssued first packets (sents ++ s ∷ [])
issued_more first packets sents s active all told unretired before behind t is = elim (parted_more sents s before behind t is) [
  | inl there ↦ all before there.0 t there.1
  | inr last ↦ subst (λ (ss : List Sent). IsIssued first packets ss t) last.0 (subst (λ (u : Sent). IsIssued first packets sents u) (sym last.1) (record { number = active; told = told; unretired = unretired }))
]

-- ---- the group

-- each id that an end uses or knows was told to it, and its datagrams went to such ids
pub record GoesTo (first : List ℕ) (packets : List Packet) (sents : List Sent) (p : PeerIds) (frames : Retransmits) : Type 0 where
  pub uses : UsesBelow (IsToldId first packets) p frames
  pub sent : SentSayIds AnyId (IsBelow p.active) sents
  pub issued : AreIssued first packets sents

pub record Addresses (x y : Party) : Type 0 where
  pub still : x.end.closing.state ≡ states.Open → (came_to x y).part ≡ None
  pub none_asked : NoneAsked x.sents
  pub goes : GoesTo y.id (came_in (came_to x y)) x.sents x.end.ids.peer x.end.waiting.frames

-- what is so of an end and of what came
record Holds (first : List ℕ) (sents : List Sent) (e : End) (j : Intake) : Type 0 where
  still : e.closing.state ≡ states.Open → j.part ≡ None
  goes : GoesTo first (came_in j) sents e.ids.peer e.waiting.frames

-- so it is where the next id is used
next_goes : (first : List ℕ) (packets : List Packet) (sents : List Sent) (e : End) (a : Answer) → GoesTo first packets sents e.ids.peer e.waiting.frames → GoesTo first packets sents (end_on_next_id e a).ids.peer (end_on_next_id e a).waiting.frames
next_goes first packets sents e a g = record {
  uses = next_uses (IsToldId first packets) e a g.uses;
  sent = λ s f j k. says_wider AnyId AnyId (IsBelow e.ids.peer.active) (IsBelow (end_on_next_id e a).ids.peer.active) (λ d any. tt)
      (λ n less. (let rises = next_active e a g.uses.knows.window in omega arith)) f (g.sent s f j k);
  issued = g.issued;
}

-- and where the peer is at another address
moved_goes : (first : List ℕ) (packets : List Packet) (sents : List Sent) (p : Policy) (o : Opening) (remote : ℕ) (e : End) → GoesTo first packets sents e.ids.peer e.waiting.frames → (let x : End = migrated p o remote e in GoesTo first packets sents x.ids.peer x.waiting.frames)
moved_goes first packets sents = moving_keeps (λ (x : End). GoesTo first packets sents x.ids.peer x.waiting.frames) (λ m x g. g) (λ x a g. next_goes first packets sents x a g)

-- ---- a delivery

module _ (x y : Party) (c : PacketsHold x y) (back : PacketsHold y x) (none : NoneAsked y.sents) (now : ℕ) (s : Sent) (among : In s y.sents) (here : Bool) (i : Addresses x y) where
  abbrev came : Intake
  came = came_to x y

  abbrev those : List FrameValue
  those = frames_at here s.frames

  abbrev packet : Packet
  packet = record { number = s.number; frames = s.frames }

  -- all frames of a packet, which is read
  passes : (packets : List Packet) → ((p : Packet) → In p (came_in came) → In p packets) → In packet packets → GoesTo y.id packets x.sents (arrived x.end now s.number those).end.ids.peer (arrived x.end now s.number those).end.waiting.frames
  passes packets wider new =
      let u : UsesAt T x.end.ids.peer.active (arrived x.end now s.number those).end = frames_use T x.end.ids.peer.active (came_to y x).took x.sents (record { taken = c.taken; rising = c.gives.rising }) i.goes.sent those (among_at AsksNone tt here s.frames (none s among)) (among_at (SaysIds (λ d. T d.sequence d.id) AnyNumber) tt here s.frames told) x.end now s.number
      (acks_at (NamesTaken (came_to y x).took) here s.frames (λ a j k named. back.named s a k among j named)) c.tracked begins in
      record {
        uses = record { knows = u.knows; waits = subst (λ (n : ℕ). Waits AnyId (IsBelow n) (arrived x.end now s.number those).end.waiting.frames) (sym u.active) u.waits };
        sent = subst (λ (n : ℕ). SentSayIds AnyId (IsBelow n) x.sents) (sym u.active) i.goes.sent;
        issued = issued_wider y.id (came_in came) packets x.sents wider i.goes.issued;
      }
    where
      T : ℕ → List ℕ → Type 0
      T = IsToldId y.id packets

      before : KnowsTold (IsToldId y.id (came_in came)) x.end.ids.peer
      before = i.goes.uses.knows

      begins : UsesAt T x.end.ids.peer.active x.end
      begins = record {
        knows = record {
          used = told_wider y.id (came_in came) packets wider x.end.ids.peer.active x.end.ids.peer.id before.used;
          later = λ d j. told_wider y.id (came_in came) packets wider d.sequence d.id (before.later d j);
          window = before.window;
        };
        active = refl;
        waits = i.goes.uses.waits;
      }

      told : (f : FrameValue) → In f s.frames → SaysIds (λ d. T d.sequence d.id) AnyNumber f
      told (new_connection_id f) j = inr (record { packet = packet; was_taken = new; frame = f; carried = j; of_number = refl; is = refl })
      told (retire_connection_id n) j = tt
      told f j = tt

  -- ids that are drawn are others
  draws : (packets : List Packet) (words : ℕ → ℕ) (e : End) → GoesTo y.id packets x.sents e.ids.peer e.waiting.frames → GoesTo y.id packets x.sents (drawn words e).ids.peer (drawn words e).waiting.frames
  draws packets words e g = record { uses = record { knows = g.uses.knows; waits = record { tells = λ d j. tt; retires = g.uses.waits.retires } }; sent = g.sent; issued = g.issued }

  -- a packet that was read before was so still
  one_more : (o : Option Packet) (p : Packet) → In p (and_packet o came.took) → In p (and_packet o (packet ∷ came.took))
  one_more None p j = inr j
  one_more (Some q) p (inl is) = inl is
  one_more (Some q) p (inr j) = inr (inr j)

  last_read : (o : Option Packet) → In packet (and_packet o (packet ∷ came.took))
  last_read None = inl refl
  last_read (Some q) = inr (inl refl)

  taken : GoesTo y.id (came_in (with_taken came s.number s.frames)) x.sents (arrived x.end now s.number those).end.ids.peer (arrived x.end now s.number those).end.waiting.frames
  taken = passes (came_in (with_taken came s.number s.frames)) (one_more came.part) (last_read came.part)

  refused : x.end.closing.state ≡ states.Open → GoesTo y.id (came_in (with_refused came s.number s.frames)) x.sents (arrived x.end now s.number those).end.ids.peer (arrived x.end now s.number those).end.waiting.frames
  refused opened = passes (came_in (with_refused came s.number s.frames)) (λ p j. inr (subst (λ (o : Option Packet). In p (and_packet o came.took)) (i.still opened) j)) (inl refl)

  arrives : Arrivals x.end now s.number s.frames those came (λ (o : Outcome) (j : Intake). Holds y.id x.sents o.end j)
  arrives = record {
    ignored = λ reason. record { still = i.still; goes = i.goes };
    noted = λ state reason. record { still = i.still; goes = i.goes };
    takes = λ words state new fine urged mark. record { still = λ opened. i.still state; goes = draws (came_in (with_taken came s.number s.frames)) words (after_taken s.number (asks_in (map Ok s.frames)) urged mark (arrived x.end now s.number those).end) taken };
    moves = λ p o same remote e is_open h. record { still = λ opened. h.still is_open; goes = moved_goes y.id (came_in (with_taken came s.number s.frames)) x.sents p o remote e h.goes };
    drains = λ words state new close is. record { still = λ opened. cc; goes = draws (came_in (with_taken came s.number s.frames)) words (drained_at s.number close (arrived x.end now s.number those).end) taken };
    refuses = λ words state new f is. record { still = λ opened. cc; goes = draws (came_in (with_refused came s.number s.frames)) words (closed_by (reason_of f) (arrived x.end now s.number those).end) (refused state) };
    exhausts = λ state. record { still = λ opened. cc; goes = i.goes };
  }

-- ---- calls

-- which calls use the next id
by_use : (call : Call) (P : Call → Type 0) → P calls.UseNextId → (uses_next_id call ≡ false → P call) → P call
by_use calls.UseNextId P uses other = uses
by_use call P uses other = other refl

-- what a call sends went to the id in use
issued_sent : (first : List ℕ) (packets : List Packet) (p : Policy) (e : End) (call : Call) (a : Answer) (sents : List Sent) → KnowsTold (IsToldId first packets) e.ids.peer → AreIssued first packets sents
    → SentSayIds AnyId (IsBelow e.ids.peer.active) (sents ++ sents_by p e call a) → AreIssued first packets (sents ++ sents_by p e call a)
issued_sent first packets p e (calls.Poll now) a sents knows all say = go (gave a) say
  where
    go : (b : Bool) → SentSayIds AnyId (IsBelow e.ids.peer.active) (sents ++ sent_if b (sent_by p e now)) → AreIssued first packets (sents ++ sent_if b (sent_by p e now))
    go true says = issued_more first packets sents (sent_by p e now) e.ids.peer.active all knows.used (λ given. (let less : e.ids.peer.active < e.ids.peer.active = says given.sent (retire_connection_id e.ids.peer.active) given.among given.carried in omega arith))
    go false says = subst (λ (ss : List Sent). AreIssued first packets ss) (sym (append-nil sents)) all
issued_sent first packets p e call a sents knows all say = subst (λ (ss : List Sent). AreIssued first packets ss) (sym (append-nil sents)) all

-- a call that hands nothing in
goes_apart : (x y : Party) (call : Call) (a : Answer) → Calls PacketsHold x y call a → Addresses x y → is_delivery call ≡ false
    → GoesTo y.id (came_in (came_to x y)) (x.sents ++ sents_by x.policy x.end call a) (after_call x.policy x.end y.given call a).ids.peer (after_call x.policy x.end y.given call a).waiting.frames
goes_apart x y call a c i apart =
    by_use call (λ made. GoesTo y.id packets (x.sents ++ sents_by x.policy x.end made a) (after_call x.policy x.end y.given made a).ids.peer (after_call x.policy x.end y.given made a).waiting.frames) uses other
  where
    packets : List Packet
    packets = came_in (came_to x y)

    active : ℕ
    active = x.end.ids.peer.active

    g : GoesTo y.id packets x.sents x.end.ids.peer x.end.waiting.frames
    g = i.goes

    uses : GoesTo y.id packets (x.sents ++ []) (end_on_next_id x.end a).ids.peer (end_on_next_id x.end a).waiting.frames
    uses = subst (λ (ss : List Sent). GoesTo y.id packets ss (end_on_next_id x.end a).ids.peer (end_on_next_id x.end a).waiting.frames) (sym (append-nil x.sents)) (next_goes y.id packets x.sents x.end a g)

    other : uses_next_id call ≡ false → GoesTo y.id packets (x.sents ++ sents_by x.policy x.end call a) (after_call x.policy x.end y.given call a).ids.peer (after_call x.policy x.end y.given call a).waiting.frames
    other not_used =
        let say = call_says AnyId (IsBelow active) x.policy x.end y.given call a x.sents c.answer c.served c.gives.owes g.sent c.gives.tracked g.uses.waits in
        subst (λ (p : PeerIds). GoesTo y.id packets (x.sents ++ sents_by x.policy x.end call a) p (after_call x.policy x.end y.given call a).waiting.frames) (sym (peer_same x.policy x.end y.given call a apart not_used)) (record {
          uses = record {
            knows = g.uses.knows;
            waits = call_waits AnyId (IsBelow active) x.policy x.end y.given call a x.sents apart g.sent c.gives.tracked (λ used. (let clash : false ≡ true = sym not_used ∙ used in cc)) g.uses.waits;
          };
          sent = say;
          issued = issued_sent y.id packets x.policy x.end call a x.sents g.uses.knows g.issued say;
        })

-- x makes a call
goes_step : (x y : Party) (call : Call) (a : Answer) → Calls PacketsHold x y call a → Addresses x y → NoneAsked y.sents → Addresses (called x y.given call a) y
goes_step x y call a c i none =
    let h : Holds y.id (x.sents ++ sents_by x.policy x.end call a) (called x y.given call a).end (came_to (called x y.given call a) y) =
    by_coming x y a c.joined c.served (meets y x c.takes) (Holds y.id (x.sents ++ sents_by x.policy x.end call a)) call c.answer (record {
      apart = λ apart. record { still = λ opened. i.still (was_open x.policy x.end y.given call a opened); goes = goes_apart x y call a c i apart };
      none = λ delivery is. subst (λ (ss : List Sent). Holds y.id ss x.end (came_to x y)) (sym (none_sent delivery is)) (record { still = i.still; goes = i.goes });
      comes = λ delivery is s among here. subst (λ (ss : List Sent). Arrivals x.end delivery.now s.number s.frames (frames_at here s.frames) (came_to x y) (λ (o : Outcome) (j : Intake). Holds y.id ss o.end j)) (sym (none_sent delivery is))
          (arrives x y c.gives c.takes none delivery.now s among here i);
    }) in
    record { still = h.still; none_asked = call_asks_none x.policy x.end y.given call a x.sents c.answer c.served c.gives.owes i.none_asked; goes = h.goes }
  where
    -- a delivery sends nothing
    none_sent : (delivery : Delivery) → call ≡ calls.Deliver delivery → x.sents ++ sents_by x.policy x.end call a ≡ x.sents
    none_sent delivery is = ap (λ (made : Call). x.sents ++ sents_by x.policy x.end made a) is ∙ append-nil x.sents

-- an end begins with the first id of its peer
goes_first : (x y : Beginning) → Addresses (begun_as x y) (begun_as y x)
goes_first x y = record {
  still = λ opened. refl;
  none_asked = λ s i. absurd i;
  goes = record {
    uses = record {
      knows = record { used = inl (refl, refl); later = λ d i. absurd i; window = tt };
      waits = record { tells = λ d i. tt; retires = λ n i. absurd i };
    };
    sent = λ s f i. absurd i;
    issued = λ before behind s is. absurd (none_parted before behind s is);
  };
}

-- over the packets between both ends
pub addresses_group : Group PacketsHold Addresses
addresses_group = record {
  first = λ x y m there back. goes_first x y;
  writer = λ x y call a c i back. goes_step x y call a c i back.none_asked;
  reader = λ x y call a c there i. record { still = i.still; none_asked = i.none_asked; goes = i.goes };
  shows = λ x y here there b back i j. record { still = i.still; none_asked = i.none_asked; goes = i.goes };
}

-- ---- at a place

-- each datagram that an end gave went to an id that stood in a packet of which it took frames, or
-- to the first, and it hadn't retired the number
goes_to_told : (r : Run) (end : World) → IsHonest r → ((side : Side) (i : ℕ) → AreServed r i → Placed (And Observed Addresses) r end side i)
    → (side : Side) (i : ℕ) → AreServed r i → AreIssued (first_id_of_peer r side) (came_in (watch r side i).intake) (sents_until r side i)
goes_to_told r end honest all side i served =
    let at = all side i served in
    let own : sents_until r side i ≡ at.sents = own_at r end honest side i (placed_less (And Observed Addresses) Sight r end side i (λ x y h. h.0.1) at) in
    subst (λ (ss : List Sent). AreIssued (first_id_of_peer r side) (came_in (watch r side i).intake) ss) (sym own)
    (subst (λ (j : Intake). AreIssued (first_id_of_peer r side) (came_in j) at.sents) (sym (took_is r honest at.world i side at.sents at.theirs)) at.gives.1.goes.issued)

-- the packet at which it closed stands before the others
came_is : (o : Option Packet) (packets : List Packet) → and_packet o packets ≡ option_to_list o ++ packets
came_is None packets = refl
came_is (Some last) packets = refl

-- the clause
pub ids_are_issued : (r : Run) (end : World) → IsHonest r → ((side : Side) (i : ℕ) → AreServed r i → Placed (And Observed Addresses) r end side i) → IdsAreIssued r
ids_are_issued r end honest all side i before behind s served is =
    subst (λ (packets : List Packet). IsIssued (first_id_of_peer r side) packets before s) (came_is (watch r side i).intake.part (took r side i)) (goes_to_told r end honest all side i served before behind s is)
