-- Which id of its peer an end uses, and which it knows besides, by what was told and what came:
-- what holds of both ends, and stays by any call.
use Rattle.std.proofs.Common.{◌≡◌, ◌⊎◌, ℕ, Bool, true, false, List, [], ◌∷◌, Option, Some, None, Ok, refl, sym, ap, ◌∙◌, subst, inl, inr, arith, nat_lt, map, Result, Err, ◌++◌}
use Rattle.std.specs.Prelude.{unwrap_or, slice_get, ◌&&◌, if◌then◌else◌, option_map}
use Rattle.quic_wire.specs.Value.{FrameValue, new_connection_id}
use Rattle.quic_ids.specs.CidQueue.{PeerIds, next_after, after_next}
use Rattle.quic_streams_state.specs.declared.state.StreamsState.{StreamsState}
use Rattle.quic_machine.specs.declared.answers.State.{State}
use Rattle.quic_machine.specs.declared.answers.State.TheVariants as states
use Rattle.quic_machine.specs.declared.run.Delivery.{Delivery}
use Rattle.quic_machine.specs.declared.run.Injection.{Injection}
use Rattle.quic_machine.specs.declared.run.Call.{Call}
use Rattle.quic_machine.specs.declared.run.Call.TheVariants as calls
use Rattle.quic_machine.specs.declared.run.Answer.{Answer}
use Rattle.quic_machine.specs.declared.run.Answer.TheVariants as answers
use Rattle.quic_machine.specs.Policy.{Policy}
use Rattle.quic_machine.specs.Opens.{would_open}
use Rattle.quic_machine.specs.Calls.{is_open}
use Rattle.quic_machine.specs.StreamCalls.{IsRead, IsStreamAnswer}
use Rattle.quic_machine.specs.IdFrames.{end_on_next_id, next_id_allowed, next_id_answer, after_next_id, drawn}
use Rattle.quic_machine.specs.End.{End, with_closing, with_numbers, closed_by}
use Rattle.quic_machine.specs.Receive.{reason_of, asks_in, is_urged, after_taken, drained_at, exhausted, migrated_if}
use Rattle.quic_machine.specs.FrameCases.{begun}
use Rattle.quic_machine.specs.CallCases.{uses_next_id}
use Rattle.quic_machine.specs.Machine.{IsAnswer, IsDelivered, says_last, injected_if, after_call}
use Rattle.quic_headline.specs.Runs.{Packet, Intake, In}
use Rattle.quic_headline.specs.Observer.{Sent}
use Rattle.quic_headline.specs.InUse.{brought, next_of, used_behind, brought_by, next_in}
use Rattle.quic_headline.proofs.Packets.Delivered.{frames_at, among_at, arrived, with_taken, with_refused, moves_by}
use Rattle.quic_headline.proofs.Packets.Group.{PacketsHold, meets}
use Rattle.quic_headline.proofs.Packets.OfPeer.{peer_same}
use Rattle.quic_headline.proofs.Packets.Intakes.{none_handed}
use Rattle.quic_headline.proofs.Places.Told.{in_append}
use Rattle.quic_headline.proofs.Places.Parties.{sents_by, Party, called, came_to}
use Rattle.quic_headline.proofs.Places.Groups.{Way, Calls, Group}
use Rattle.quic_headline.proofs.Places.Coming.{came_same, by_coming_from}
use Rattle.quic_headline.proofs.Timers.Still.{was_open}
use Rattle.quic_headline.proofs.NextIds.Peer.{Knows, next_is, knows_next, active_is, Reaches, reaches_next, Ascend, IsLeast, next_known}
use Rattle.quic_headline.proofs.NextIds.Asking.{AllAskNone, call_asks, AsksNone}
use Rattle.quic_headline.proofs.NextIds.Coming.{packet_passes, packet_reaches, next_peer, Passes}
use Rattle.std.specs.declared.ops.Range.{Range}
use Rattle.quic_wire.specs.Items.{items}
use Rattle.quic_packet.specs.Datagram.{Opening}
use Rattle.quic_retransmits.specs.Retransmits.{Retransmits, can_retire}
use Rattle.quic_spaces.specs.Numbers.{number_opened}
use Rattle.quic_machine.specs.declared.answers.NextIdError.{NextIdError}
use Rattle.quic_machine.specs.declared.answers.NextIdError.TheVariants as next_errors
use Rattle.quic_machine.specs.Ids.{Ids, retires_for_next}
use Rattle.quic_machine.specs.Closing.{close_asked}
use Rattle.quic_machine.specs.Validation.{challenged_anew, most_challenges}
use Rattle.quic_machine.specs.Migration.{is_there, path_to, with_path, next_id_if, next_id_if_allowed, path_frames_taken, migrated}
use Rattle.quic_headline.proofs.Packets.Stays.{keeps_frames}
use Rattle.quic_headline.proofs.Packets.Moving.{by_path_frames, by_answer}
use Rattle.quic_headline.proofs.Packets.Moved.{by_migrated}
use Rattle.quic_headline.proofs.Packets.Routed.{moved_path}

-- ---- only a call for the next id says that one is used

-- in whichever state
module _ (s : State) (packets : List Packet) (used : ℕ) where
  -- an answer doesn't say so
  abbrev Same : Answer → Type 0
  Same a = used_behind a s packets used ≡ used

  -- one of two that don't say so doesn't
  either_uses : (a b c : Answer) → Same b → Same c → (a ≡ b) ⊎ (a ≡ c) → Same a
  either_uses a b c first second (inl is) = subst Same (sym is) first
  either_uses a b c first second (inr is) = subst Same (sym is) second

  -- a read doesn't
  read_uses : (t : StreamsState) (id : ℕ) (ordered : Bool) (mosts : List ℕ) (a : Answer) → IsRead t id ordered mosts a → Same a
  read_uses t id ordered mosts (answers.Read said) is = refl
  read_uses t id ordered mosts a is = absurd is

  -- nor does any call on streams
  streams_use : (opened : Bool) (t : StreamsState) (call : Call) (a : Answer) → IsStreamAnswer opened t call a → Same a
  streams_use opened t (calls.Open dir) a is = subst Same (sym is) refl
  streams_use opened t (calls.Accept dir) a is = subst Same (sym is) refl
  streams_use opened t (calls.Write id bytes) a is = either_uses a _ _ refl refl is
  streams_use opened t (calls.WriteChunks id chunks) a is = either_uses a _ _ refl refl is
  streams_use opened t (calls.Finish id) a is = either_uses a _ _ refl refl is
  streams_use opened t (calls.Reset id code) a is = either_uses a _ _ refl refl is
  streams_use opened t (calls.SetPriority id priority) a is = either_uses a _ _ refl refl is
  streams_use opened t (calls.Read read) a is = read_uses t read.id read.ordered read.nexts.items a is
  streams_use opened t (calls.Stop id code) a is = either_uses a _ _ refl refl is
  streams_use opened t (calls.ReceivedReset id) a is = subst Same (sym is) refl
  streams_use opened t call a is = absurd is

  -- nor a delivery or an injection
  delivery_uses : (p : Policy) (e : End) (delivery : Delivery) (d : Option (List ℕ)) (a : Answer) → IsDelivered p e delivery d a → Same a
  delivery_uses p e delivery None a is = subst Same (sym is) refl
  delivery_uses p e delivery (Some d) a is = either_uses a _ _ refl refl is

  injection_uses : (b last : Bool) (p : Policy) (e : End) (injection : Injection) → Same (injected_if b last p e injection)
  injection_uses true last p e injection = refl
  injection_uses false last p e injection = refl

  -- nor any other call
  pub others_use : (p : Policy) (e : End) (theirs : List (List ℕ)) (call : Call) (a : Answer) → uses_next_id call ≡ false → IsAnswer p e theirs call a → Same a
  others_use p e theirs calls.Ping a other is = subst Same (sym is) refl
  others_use p e theirs (calls.Poll now) a other is = either_uses a _ _ refl refl is
  others_use p e theirs (calls.Timeout now) a other is = either_uses a _ _ refl refl is
  others_use p e theirs (calls.Deliver delivery) a other is = delivery_uses p e delivery (slice_get theirs delivery.index) a is
  others_use p e theirs (calls.Inject injection) a other is = subst Same (sym is) (injection_uses (would_open p e injection.remote injection.bytes) (says_last a) p e injection)
  others_use p e theirs calls.Event a other is = subst Same (sym is) refl
  others_use p e theirs (calls.Timer timer) a other is = subst Same (sym is) refl
  others_use p e theirs calls.NextTimeout a other is = subst Same (sym is) refl
  others_use p e theirs calls.State a other is = subst Same (sym is) refl
  others_use p e theirs (calls.Close close) a other is = subst Same (sym is) refl
  others_use p e theirs calls.UseNextId a other is = cc
  others_use p e theirs calls.HandshakeDone a other is = subst Same (sym is) refl
  others_use p e theirs (calls.Send message makes_room) a other is = either_uses a _ _ refl refl is
  others_use p e theirs calls.Recv a other is = subst Same (sym is) refl
  others_use p e theirs call a other is = streams_use (is_open e.closing.state) e.streams call a is

-- ---- what is known of the ids of the peer

-- an open end knows, above that in use, the ids that frames brought
abbrev pub OpenKnows : List Packet → End → Type 0
OpenKnows took e = e.closing.state ≡ states.Open → Knows (brought took) [] e.ids.peer

-- frames of path validation bring none
pub brought_at : (here : Bool) (fs : List FrameValue) → brought_by (frames_at here fs) ≡ brought_by fs
brought_at true fs = refl
brought_at false [] = refl
brought_at false (new_connection_id f ∷ fs) = ap (λ (ns : List ℕ). f.sequence ∷ ns) (brought_at false fs)
brought_at false (f ∷ fs) = brought_at false fs

-- ---- another path

-- what is answered, by what waits beside the bytes of streams
abbrev pub allowed : Option (Range ℕ) → Retransmits → Result (Unit {0}) NextIdError
allowed None frames = Err next_errors.NoId
allowed (Some r) frames = if can_retire frames r.start r.end then Ok tt else Err next_errors.TooManyPending

pub allowed_by : (o : Option (Range ℕ)) (e : End) → next_id_allowed o e ≡ allowed o e.waiting.frames
allowed_by None e = refl
allowed_by (Some r) e = refl

-- so ends with the same ids, and the same that waits, answer the same
pub same_answer : (e f : End) → f.ids ≡ e.ids → f.waiting.frames ≡ e.waiting.frames → next_id_answer f ≡ next_id_answer e
same_answer e f ids frames =
    allowed_by (retires_for_next f.ids) f
    ∙ ap (λ (q : Ids). allowed (retires_for_next q) f.waiting.frames) ids
    ∙ ap (λ (t : Retransmits). allowed (retires_for_next e.ids) t) frames
    ∙ sym (allowed_by (retires_for_next e.ids) e)

-- what a change of the path makes of them, by what a call for the next id would be answered
abbrev Answered : Result (Unit {0}) NextIdError → End → End → Type 0
Answered (Ok done) e f = f.ids.peer ≡ after_next e.ids.peer
Answered (Err error) e f = (f.ids ≡ e.ids) × (f.waiting.frames ≡ e.waiting.frames)

module _ (p : Policy) (o : Opening) (remote : ℕ) (e : End) where
  abbrev asked : Bool → End
  asked b = challenged_anew p.words b (with_path e (path_to remote e))

  -- frames of path validation leave ids, and which wait to be told of and to be retired
  frames_leave_ids : (x : End) → ((path_frames_taken (items o.payload) x).ids ≡ x.ids) × ((path_frames_taken (items o.payload) x).waiting.frames ≡ x.waiting.frames)
  frames_leave_ids x = by_path_frames Same (items o.payload) (λ token y i. i) (λ token y among i. by_answer Same (λ z j. j) token y i) x (refl, refl)
    where
      Same : End → Type 0
      Same y = (y.ids ≡ x.ids) × (y.waiting.frames ≡ x.waiting.frames)

  moved_by : (r : Result (Unit {0}) NextIdError) (x : End) → x.ids ≡ e.ids → x.waiting.frames ≡ e.waiting.frames → Answered r e (path_frames_taken (items o.payload) (next_id_if r x))
  moved_by (Ok done) x ids frames = ap (λ (i : Ids). i.peer) (frames_leave_ids (after_next_id x)).0 ∙ next_peer x ∙ ap (λ (i : Ids). after_next i.peer) ids
  moved_by (Err error) x ids frames = ((frames_leave_ids x).0 ∙ ids, (frames_leave_ids x).1 ∙ frames)

  -- that the peer is asked at the other address doesn't change the answer
  as_asked : (b : Bool) → (asked b).ids ≡ e.ids → (asked b).waiting.frames ≡ e.waiting.frames → Answered (next_id_answer e) e (path_frames_taken (items o.payload) (next_id_if_allowed (asked b)))
  as_asked b ids frames = subst (λ (r : Result (Unit {0}) NextIdError). Answered r e (path_frames_taken (items o.payload) (next_id_if_allowed (asked b)))) (same_answer e (asked b) ids frames) (moved_by (next_id_answer (asked b)) (asked b) ids frames)

  moved_ids : Answered (next_id_answer e) e (migrated p o remote e)
  moved_ids = go (nat_lt e.validation.drawn most_challenges)
    where
      go : (b : Bool) → Answered (next_id_answer e) e (path_frames_taken (items o.payload) (next_id_if_allowed (asked b)))
      go true = as_asked true refl refl
      go false = as_asked false refl refl

moved_state : (p : Policy) (o : Opening) (remote : ℕ) (e : End) → (migrated p o remote e).closing.state ≡ e.closing.state
moved_state p o remote e = by_migrated (λ (x : End). x.closing.state ≡ e.closing.state) p o remote e (λ c. refl) (λ c most. refl)

-- ---- a delivery

-- x knows those of y that frames brought, where it is open, and in any state they ascend; and it
-- asks for none of its own to be retired
pub record NextKnown (x y : Party) : Type 0 where
  pub asks : (s : Sent) → In s x.sents → AllAskNone s.frames
  pub knows : OpenKnows (came_to x y).took x.end
  pub ascend : Ascend x.end.ids.peer.active x.end.ids.peer.later

-- What a delivery leaves of them: the id in use stays where the path does; where that changes, the
-- next one is used, or there is none, or it can't be used.
pub record AfterDelivery (x : End) (e : End) (j : Intake) : Type 0 where
  pub knows : OpenKnows j.took e
  pub reaches : Reaches x.ids.peer.active e.ids.peer
  pub same : e.closing.state ≡ states.Open → e.path.generation ≡ x.path.generation → e.ids.peer.active ≡ x.ids.peer.active
  pub next : e.closing.state ≡ states.Open → (e.ids.peer.active ≡ x.ids.peer.active) ⊎ (e.ids.peer.active ≡ next_in j.took x.ids.peer.active)
  pub refused : e.closing.state ≡ states.Open → (e.path.generation ≡ x.path.generation → ⊥) → e.ids.peer.active ≡ x.ids.peer.active → next_id_answer e ≡ Ok tt → ⊥
  pub stays : (e.closing.state ≡ states.Open → ⊥) → e.path.generation ≡ x.path.generation

module _ (x : End) (i : Intake) (knows : OpenKnows i.took x) (ascend : Ascend x.ids.peer.active x.ids.peer.later) where
  at_first : Reaches x.ids.peer.active x.ids.peer
  at_first = record { ascend = ascend; least = omega arith }

  -- an end on the same path, with the same ids
  left_as : (e : End) (j : Intake) → OpenKnows j.took e → e.ids.peer ≡ x.ids.peer → e.path.generation ≡ x.path.generation → AfterDelivery x e j
  left_as e j known ids path = record {
    knows = known;
    reaches = subst (Reaches x.ids.peer.active) (sym ids) at_first;
    same = λ opened on. ap (λ (q : PeerIds). q.active) ids;
    next = λ opened. inl (ap (λ (q : PeerIds). q.active) ids);
    refused = λ opened apart. absurd (apart path);
    stays = λ closed. path;
  }

  module _ (now n : ℕ) (frames : List FrameValue) (asks : AllAskNone frames) (here : Bool) where
    abbrev those : List FrameValue
    those = frames_at here frames

    abbrev left : End
    left = (arrived x now n those).end

    asks_those : AllAskNone those
    asks_those = among_at AsksNone tt here frames asks

    path : left.path.generation ≡ x.path.generation
    path = (keeps_frames those (begun x now n)).generation

    reaches : Reaches x.ids.peer.active left.ids.peer
    reaches = packet_reaches x.ids.peer.active those (begun x now n) asks_those at_first

    -- an end that closes by it
    closed_as : (e : End) (j : Intake) → (e.closing.state ≡ states.Open → ⊥) → e.ids.peer ≡ left.ids.peer → e.path.generation ≡ left.path.generation → AfterDelivery x e j
    closed_as e j closed ids on = record {
      knows = λ opened. absurd (closed opened);
      reaches = subst (Reaches x.ids.peer.active) (sym ids) reaches;
      same = λ opened. absurd (closed opened);
      next = λ opened. absurd (closed opened);
      refused = λ opened. absurd (closed opened);
      stays = λ still. on ∙ path;
    }

    module _ (state : x.closing.state ≡ states.Open) (none : (arrived x now n those).fault ≡ None) where
      abbrev after : Intake
      after = with_taken i n frames

      abbrev passes : Passes (brought i.took) x.ids.peer.active those [] left.ids.peer
      passes = packet_passes (brought i.took) x.ids.peer.active those (begun x now n) none asks_those (knows state) refl

      knows_left : Knows (brought after.took) [] left.ids.peer
      knows_left = subst (λ (ns : List ℕ). Knows (ns ++ brought i.took) [] left.ids.peer) (brought_at here frames) passes.knows

      -- the packet was taken
      taken_as : (e : End) → e.ids.peer ≡ left.ids.peer → e.path.generation ≡ left.path.generation → AfterDelivery x e after
      taken_as e ids on = record {
        knows = λ opened. subst (Knows (brought after.took) []) (sym ids) knows_left;
        reaches = subst (Reaches x.ids.peer.active) (sym ids) reaches;
        same = λ opened same. ap (λ (q : PeerIds). q.active) ids ∙ passes.used_is;
        next = λ opened. inl (ap (λ (q : PeerIds). q.active) ids ∙ passes.used_is);
        refused = λ opened apart. absurd (apart (on ∙ path));
        stays = λ closed. on ∙ path;
      }

      -- and the peer has moved
      moved_as : (p : Policy) (o : Opening) (remote : ℕ) (e : End) → e.ids.peer ≡ left.ids.peer → e.path.generation ≡ left.path.generation → e.closing.state ≡ states.Open → AfterDelivery x (migrated p o remote e) after
      moved_as p o remote e ids on opened = by_answer_of (next_id_answer e) refl (moved_ids p o remote e)
        where
          f : End
          f = migrated p o remote e

          knows_e : Knows (brought after.took) [] e.ids.peer
          knows_e = subst (Knows (brought after.took) []) (sym ids) knows_left

          active : e.ids.peer.active ≡ x.ids.peer.active
          active = ap (λ (q : PeerIds). q.active) ids ∙ passes.used_is

          open_still : f.closing.state ≡ states.Open
          open_still = moved_state p o remote e ∙ opened

          elsewhere : f.path.generation ≡ x.path.generation → ⊥
          elsewhere same = (let next = (moved_path p o remote e).1 in let before : e.path.generation ≡ x.path.generation = on ∙ path in omega (arith, same, next, before))

          used : (after_next e.ids.peer).active ≡ next_in after.took x.ids.peer.active
          used = active_is (brought after.took) e.ids.peer knows_e ∙ ap (λ (m : ℕ). unwrap_or (next_of m (brought after.took)) m) active

          -- one that may be used lies above that in use
          above : next_id_answer e ≡ Ok tt → (after_next e.ids.peer).active ≡ x.ids.peer.active → ⊥
          above may same = go (next_after e.ids.peer) refl (next_known (brought after.took) e.ids.peer knows_e)
            where
              go : (o : Option ℕ) → next_after e.ids.peer ≡ o → IsLeast e.ids.peer.active (brought after.took) (next_after e.ids.peer) → ⊥
              go None is least = (let clash = ap (λ (r : Option ℕ). next_id_allowed (option_map (λ next. record { start = e.ids.peer.active; end = next }) r) e) (sym is) ∙ may in cc)
              go (Some k) is least =
                  let is_least : IsLeast e.ids.peer.active (brought after.took) (Some k) = subst (IsLeast e.ids.peer.active (brought after.took)) is least in
                  let next : (after_next e.ids.peer).active ≡ k = active_is (brought after.took) e.ids.peer knows_e ∙ ap (λ (r : Option ℕ). unwrap_or r e.ids.peer.active) (sym (next_is (brought after.took) e.ids.peer knows_e) ∙ is) in
                  let more = is_least.1 in
                  omega (arith, next, more, same, active)

          by_answer_of : (r : Result (Unit {0}) NextIdError) → next_id_answer e ≡ r → Answered r e f → AfterDelivery x f after
          by_answer_of (Ok done) may now_used = record {
            knows = λ still. subst (Knows (brought after.took) []) (sym now_used) (knows_next (brought after.took) e.ids.peer knows_e);
            reaches = subst (Reaches x.ids.peer.active) (sym now_used) (reaches_next x.ids.peer.active e.ids.peer (subst (Reaches x.ids.peer.active) (sym ids) reaches));
            same = λ still same. absurd (elsewhere same);
            next = λ still. inr (ap (λ (q : PeerIds). q.active) now_used ∙ used);
            refused = λ still apart same. absurd (above may (sym (ap (λ (q : PeerIds). q.active) now_used) ∙ same));
            stays = λ closed. absurd (closed open_still);
          }
          by_answer_of (Err error) may left_so = record {
            knows = λ still. subst (λ (q : Ids). Knows (brought after.took) [] q.peer) (sym left_so.0) knows_e;
            reaches = subst (λ (q : Ids). Reaches x.ids.peer.active q.peer) (sym left_so.0) (subst (Reaches x.ids.peer.active) (sym ids) reaches);
            same = λ still same. absurd (elsewhere same);
            next = λ still. inl (ap (λ (q : Ids). q.peer.active) left_so.0 ∙ active);
            refused = λ still apart same may_now. (let clash : Err error ≡ Ok tt = sym (same_answer e f left_so.0 left_so.1 ∙ may) ∙ may_now in cc);
            stays = λ closed. absurd (closed open_still);
          }

module _ (B : Way) (packets : (x y : Party) → B x y → PacketsHold x y) (x y : Party) where
  -- a delivery
  pub delivery_leaves : (delivery : Delivery) (a : Answer) → Calls B x y (calls.Deliver delivery) a → NextKnown x y → NextKnown y x → AfterDelivery x.end (called x y.given (calls.Deliver delivery) a).end (came_to (called x y.given (calls.Deliver delivery) a) y)
  delivery_leaves delivery a c k back = by_coming_from x y a c.joined c.served (meets y x (packets y x c.takes)) (λ (b : Answer) (e : End) (j : Intake). AfterDelivery x.end e j) (calls.Deliver delivery) c.answer (record {
    apart = λ apart. cc;
    none = λ other is. as_was x.end (came_to x y) k.knows refl refl;
    comes = λ other is s among. (
        let here : Bool = is_there other.remote x.end in
        record {
          ignored = λ reason. as_was x.end (came_to x y) k.knows refl refl;
          noted = λ state reason. as_was (with_closing (with_numbers x.end (number_opened x.end.numbers s.number)) (close_asked x.end.closing)) (came_to x y) (λ opened. (let clash : states.Closing ≡ states.Open = sym state ∙ opened in cc)) refl refl;
          takes = λ p o same state new none.
              let e : End = drawn p.words (after_taken s.number (asks_in (map Ok s.frames)) (is_urged other.ecn (asks_in (map Ok s.frames)) (map Ok (frames_at here s.frames)) (begun x.end other.now s.number)) other.ecn (arrived x.end other.now s.number (frames_at here s.frames)).end) in
              moved_or (moves_by other.remote s.number s.frames x.end) e.closing.state p o other.remote e (with_taken (came_to x y) s.number s.frames) refl
              (taken_as x.end (came_to x y) k.knows k.ascend other.now s.number s.frames (back.asks s among) here state none e refl refl)
              (moved_as x.end (came_to x y) k.knows k.ascend other.now s.number s.frames (back.asks s among) here state none p o other.remote e refl refl);
          drains = λ words state new close is. closed_as x.end (came_to x y) k.knows k.ascend other.now s.number s.frames (back.asks s among) here (drawn words (drained_at s.number close (arrived x.end other.now s.number (frames_at here s.frames)).end)) (with_taken (came_to x y) s.number s.frames) (λ opened. cc) refl refl;
          refuses = λ words state new f is. closed_as x.end (came_to x y) k.knows k.ascend other.now s.number s.frames (back.asks s among) here (drawn words (closed_by (reason_of f) (arrived x.end other.now s.number (frames_at here s.frames)).end)) (with_refused (came_to x y) s.number s.frames) (λ opened. cc) refl refl;
          exhausts = λ state. as_was (exhausted other.now x.end) (came_to x y) (λ opened. cc) refl refl;
        });
  })
    where
      as_was : (e : End) (j : Intake) → OpenKnows j.took e → e.ids.peer ≡ x.end.ids.peer → e.path.generation ≡ x.end.path.generation → AfterDelivery x.end e j
      as_was e j = left_as x.end (came_to x y) k.knows k.ascend e j

      moved_or : (b : Bool) (s : State) (p : Policy) (o : Opening) (remote : ℕ) (e : End) (j : Intake) → e.closing.state ≡ s → AfterDelivery x.end e j → (e.closing.state ≡ states.Open → AfterDelivery x.end (migrated p o remote e) j) → AfterDelivery x.end (migrated_if (b && is_open s) p o remote e) j
      moved_or false s p o remote e j state stays moves = stays
      moved_or true states.Open p o remote e j state stays moves = moves state
      moved_or true states.Closing p o remote e j state stays moves = stays
      moved_or true states.Drained p o remote e j state stays moves = stays
      moved_or true states.Failed p o remote e j state stays moves = stays

  -- behind any call
  knows_call : (call : Call) (a : Answer) → Calls B x y call a → NextKnown x y → NextKnown y x → OpenKnows (came_to (called x y.given call a) y).took (called x y.given call a).end
  knows_call (calls.Deliver delivery) a c k back = (delivery_leaves delivery a c k back).knows
  knows_call calls.UseNextId a c k back = subst (λ (j : Intake). OpenKnows j.took (end_on_next_id x.end a)) (sym (came_same x y calls.UseNextId a refl)) (next_called a k.knows)
    where
      next_called : (b : Answer) → OpenKnows (came_to x y).took x.end → OpenKnows (came_to x y).took (end_on_next_id x.end b)
      next_called (answers.UseNextId (Ok done)) h = λ opened.
          let was : x.end.closing.state ≡ states.Open = was_open x.policy x.end y.given calls.UseNextId (answers.UseNextId (Ok done)) opened in
          subst (Knows (brought (came_to x y).took) []) (sym (next_peer x.end)) (knows_next (brought (came_to x y).took) x.end.ids.peer (h was))
      next_called b h = h
  knows_call call a c k back = λ opened.
      subst (λ (j : Intake). Knows (brought j.took) [] (after_call x.policy x.end y.given call a).ids.peer) (sym (came_same x y call a (none_handed y.final call a refl)))
      (subst (Knows (brought (came_to x y).took) []) (sym (peer_same x.policy x.end y.given call a refl refl)) (k.knows (was_open x.policy x.end y.given call a opened)))

  pub reaches_call : (call : Call) (a : Answer) → Calls B x y call a → NextKnown x y → NextKnown y x → Reaches x.end.ids.peer.active (called x y.given call a).end.ids.peer
  reaches_call (calls.Deliver delivery) a c k back = (delivery_leaves delivery a c k back).reaches
  reaches_call calls.UseNextId a c k back = next_called a
    where
      first : Reaches x.end.ids.peer.active x.end.ids.peer
      first = record { ascend = k.ascend; least = omega arith }

      next_called : (b : Answer) → Reaches x.end.ids.peer.active (end_on_next_id x.end b).ids.peer
      next_called (answers.UseNextId (Ok done)) = subst (Reaches x.end.ids.peer.active) (sym (next_peer x.end)) (reaches_next x.end.ids.peer.active x.end.ids.peer first)
      next_called b = first
  reaches_call call a c k back = subst (Reaches x.end.ids.peer.active) (sym (peer_same x.policy x.end y.given call a refl refl)) (record { ascend = k.ascend; least = omega arith })

pub next_group : (B : Way) → ((x y : Party) → B x y → PacketsHold x y) → Group B NextKnown
next_group B packets = record {
  first = λ x y m there back. record {
    asks = λ s i. absurd i;
    knows = λ opened. record { ascend = tt; each = λ n has. absurd has; all = λ n i above. absurd i };
    ascend = tt;
  };
  writer = λ x y call a c k back. record {
    asks = λ s i. elim (in_append s x.sents (sents_by x.policy x.end call a) i) [ inl old ↦ k.asks s old | inr new ↦ call_asks x.policy x.end y.given call a c.answer c.served (packets x y c.gives).owes s new ];
    knows = knows_call B packets x y call a c k back;
    ascend = (reaches_call B packets x y call a c k back).ascend;
  };
  reader = λ x y call a c there k. record { asks = k.asks; knows = k.knows; ascend = k.ascend };
  shows = λ x y here there b back k other. record { asks = k.asks; knows = k.knows; ascend = k.ascend };
}
