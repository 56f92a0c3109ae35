-- What waits behind a change of the path (RFC 9000, section 9): PATH_RESPONSE only where the packet
-- by which it changes asks for it, and of numbers to be retired only those that the next id passes
-- over, where it comes into use; nothing else that didn't, but PATH_CHALLENGE.
use Rattle.std.proofs.Common.{◌≡◌, ℕ, ◌<◌, Bool, true, false, ◌||◌, ◌&&◌, List, [], ◌∷◌, map, Option, Some, None, Result, Ok, Err, refl, sym, ap, subst, ◌⊎◌, inl, inr, arith}
use Rattle.std.specs.Prelude.{nat_le, nat_lt}
use Rattle.std.specs.List.{list_any}
use Rattle.std.specs.Option.{is_some}
use Rattle.std.proofs.lemmas.Bool.{and_from, and_parts, ltb-true, leb-true, lt-ltb}
use Rattle.quic_wire_core.specs.declared.shared.IssuedCid.{IssuedCid}
use Rattle.quic_wire.specs.Value.{FrameValue, path_challenge, path_response}
use Rattle.quic_wire.specs.Items.{items}
use Rattle.quic_wire.specs.declared.frame.InvalidFrame.{InvalidFrame}
use Rattle.quic_packet.specs.Datagram.{Opening}
use Rattle.quic_ids.specs.CidQueue.{PeerIds, next_after, after_next, first_used}
use Rattle.quic_paths.specs.Paths.{is_asked}
use Rattle.quic_retransmits.specs.Retransmits.{Retransmits}
use Rattle.quic_machine.specs.declared.answers.NextIdError.{NextIdError}
use Rattle.quic_machine.specs.declared.run.Answer.TheVariants as answers
use Rattle.quic_machine.specs.Policy.{Policy}
use Rattle.quic_machine.specs.Ids.{Ids}
use Rattle.quic_time.specs.Timers.{Timers}
use Rattle.quic_machine.specs.Parts.{Path, Validation, Waiting}
use Rattle.quic_machine.specs.IdFrames.{next_id_answer, after_next_id}
use Rattle.quic_machine.specs.Validation.{word_of, validated_if, challenged_anew, most_challenges}
use Rattle.quic_machine.specs.End.{End}
use Rattle.quic_machine.specs.Migration.{path_to, with_path, next_id_if, next_id_if_allowed, path_item_taken, path_frames_taken, migrated}
use Rattle.quic_headline.specs.Waited.{is_path_challenge}
use Rattle.quic_headline.specs.Begins.{is_passed}
use Rattle.quic_headline.proofs.NextIds.Coming.{next_peer}
use Rattle.quic_headline.proofs.Begins.Apart.{LeavesBy, none, next_waits}

-- ---- frames of path validation

-- whether what was read of a payload has PATH_CHALLENGE
abbrev pub item_challenges : Result FrameValue InvalidFrame → Bool
item_challenges (Ok f) = is_path_challenge f
item_challenges (Err x) = false

-- so it is of frames that were all read
pub challenges_read : (fs : List FrameValue) → list_any item_challenges (map Ok fs) ≡ list_any is_path_challenge fs
challenges_read [] = refl
challenges_read (f ∷ fs) = ap (λ (b : Bool). is_path_challenge f || b) (challenges_read fs)

-- They leave ids and what waits beside signals, and PATH_RESPONSE waits where it did, or where this
-- is so.
record Still (asked : Bool) (e x : End) : Type 0 where
  frames : x.waiting.frames ≡ e.waiting.frames
  ids : x.ids ≡ e.ids
  response : is_some x.waiting.signals.response ≡ true → (is_some e.waiting.signals.response ≡ true) ⊎ (asked ≡ true)

path_frames_still : (is : List (Result FrameValue InvalidFrame)) (e : End) → Still (list_any item_challenges is) e (path_frames_taken is e)
path_frames_still [] e = record { frames = refl; ids = refl; response = λ set. inl set }
path_frames_still (Ok (path_challenge token) ∷ is) e = (let rest = path_frames_still is (path_item_taken (Ok (path_challenge token)) e) in record { frames = rest.frames; ids = rest.ids; response = λ set. inr refl })
path_frames_still (Ok (path_response token) ∷ is) e = go (is_asked e.validation.challenge (word_of token)) (path_frames_still is)
  where
    go : (b : Bool) → ((x : End) → Still (list_any item_challenges is) x (path_frames_taken is x)) → Still (list_any item_challenges is) e (path_frames_taken is (validated_if b e))
    go true each = (let rest = each (validated_if true e) in record { frames = rest.frames; ids = rest.ids; response = rest.response })
    go false each = each e
path_frames_still (i ∷ is) e = path_frames_still is e

-- ---- the next id

-- a number that the next id passes over lies below it, which comes into use
passed_used : (p : PeerIds) (n : ℕ) → is_passed n p.active (next_after p) ≡ true → p.active < (after_next p).active
passed_used p n is = go p.later is
  where
    between : (next : ℕ) → (nat_le p.active n && nat_lt n next) ≡ true → p.active < next
    between next passes =
        let both = and_parts (nat_le p.active n) (nat_lt n next) passes in
        let low = leb-true p.active n both.0 in
        let high = ltb-true n next both.1 in
        omega arith

    go : (cs : List IssuedCid) → is_passed n p.active (next_after (record p { later = cs })) ≡ true → p.active < (first_used cs p).active
    go [] is = between p.active is
    go (c ∷ cs) is = between c.sequence is

-- whether it passes over a number as the path changes
abbrev pub moves_over : End → End → ℕ → Bool
moves_over e x n = nat_lt e.ids.peer.active x.ids.peer.active && is_passed n e.ids.peer.active (next_after e.ids.peer)

-- ---- all of the change

-- what waits where PATH_CHALLENGE does and PATH_RESPONSE doesn't
abbrev pub challenging : Waiting → Waiting
challenging w = record w { signals = record w.signals { challenge = Some 0; response = None } }

-- an end whose path changes, and whose peer is asked this or nothing
abbrev asking_there : End → Path → Validation → Timers → Option ℕ → End
asking_there e path validation timers challenge = record e { path = path; validation = validation; timers = timers; waiting = record e.waiting { signals = record e.waiting.signals { challenge = challenge; response = None } } }

module _ (e : End) (path : Path) (validation : Validation) (timers : Timers) (challenge : Option ℕ) where
  abbrev there : End
  there = asking_there e path validation timers challenge

  -- where the next id comes into use
  uses_there : LeavesBy false none (λ n. moves_over e (after_next_id there) n) (challenging e.waiting) (after_next_id there).waiting
  uses_there =
      let waits = next_waits there (answers.UseNextId (Ok tt)) in
      record {
        signals = ((λ is. refl), waits.signals.1);
        frames = waits.frames;
        new_ids = waits.new_ids;
        retirements = λ n is. elim (waits.retirements n is) [
          | inl was ↦ inl was
          | inr passes ↦ inr (and_from (nat_lt e.ids.peer.active (after_next_id there).ids.peer.active) (is_passed n e.ids.peer.active (next_after e.ids.peer))
              (lt-ltb e.ids.peer.active (after_next_id there).ids.peer.active (subst (λ (p : PeerIds). e.ids.peer.active < p.active) (sym (next_peer there)) (passed_used e.ids.peer n passes))) passes)
        ];
      }

  -- where it may
  next_there : (r : Result (Unit {0}) NextIdError) → LeavesBy false none (λ n. moves_over e (next_id_if r there) n) (challenging e.waiting) (next_id_if r there).waiting
  next_there (Ok done) = uses_there
  next_there (Err error) = record { signals = ((λ is. refl), λ is. inl is); frames = refl; new_ids = λ n is. inl is; retirements = λ n is. inl is }

  -- and then frames of path validation count
  taken_there : (is : List (Result FrameValue InvalidFrame)) (x : End) → LeavesBy false none (λ n. moves_over e x n) (challenging e.waiting) x.waiting
      → LeavesBy (list_any item_challenges is) none (λ n. moves_over e (path_frames_taken is x) n) (challenging e.waiting) (path_frames_taken is x).waiting
  taken_there is x l =
      let still = path_frames_still is x in
      let y : End = path_frames_taken is x in
      subst (λ (ids : Ids). LeavesBy (list_any item_challenges is) none (λ n. nat_lt e.ids.peer.active ids.peer.active && is_passed n e.ids.peer.active (next_after e.ids.peer)) (challenging e.waiting) y.waiting) (sym still.ids)
      (subst (λ (p : Retransmits). LeavesBy (list_any item_challenges is) none (λ n. moves_over e x n) (challenging e.waiting) (record { signals = y.waiting.signals; frames = p })) (sym still.frames) (record {
        signals = ((λ set. refl), λ set. elim (still.response set) [ inl was ↦ elim (l.signals.1 was) [ inl none ↦ inl none | inr none ↦ absurd (let clash : false ≡ true = none in cc) ] | inr asked ↦ inr asked ]);
        frames = l.frames;
        new_ids = l.new_ids;
        retirements = l.retirements;
      }))

-- so it leaves what waits
pub moved_waits : (p : Policy) (o : Opening) (remote : ℕ) (e : End)
    → LeavesBy (list_any item_challenges (items o.payload)) none (λ n. moves_over e (migrated p o remote e) n) (challenging e.waiting) (migrated p o remote e).waiting
moved_waits p o remote e = go (nat_lt e.validation.drawn most_challenges)
  where
    left : Bool → End
    left b = challenged_anew p.words b (with_path e (path_to remote e))

    Leaves : End → Type 0
    Leaves x = LeavesBy (list_any item_challenges (items o.payload)) none (λ n. moves_over e x n) (challenging e.waiting) x.waiting

    behind : (path : Path) (validation : Validation) (timers : Timers) (challenge : Option ℕ) → Leaves (path_frames_taken (items o.payload) (next_id_if_allowed (asking_there e path validation timers challenge)))
    behind path validation timers challenge =
        let x : End = asking_there e path validation timers challenge in
        taken_there e path validation timers challenge (items o.payload) (next_id_if_allowed x) (next_there e path validation timers challenge (next_id_answer x))

    go : (b : Bool) → Leaves (path_frames_taken (items o.payload) (next_id_if_allowed (left b)))
    go true = behind (left true).path (left true).validation (left true).timers (left true).waiting.signals.challenge
    go false = behind (left false).path (left false).validation (left false).timers (left false).waiting.signals.challenge
