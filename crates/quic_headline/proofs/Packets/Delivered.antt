-- A datagram that an end gave, delivered to the other end: it opens as it was given, or not at all,
-- and what is made of it then.
use Rattle.std.proofs.Common.{◌≡◌, ℕ, zero, suc, ◌+◌, ◌-◌, ◌^◌, ◌<◌, ◌≤◌, Bool, true, false, cond, List, [], ◌∷◌, ◌++◌, length, map, Option, Some, None, Result, Ok, Err, refl, sym, ◌∙◌, ap, subst, inl, inr, arith}
use Rattle.std.specs.Prelude.{◌==◌, ◌&&◌, ◌||◌, not, nat_le, if◌then◌else◌}
use Rattle.std.specs.List.{list_any}
use Rattle.quic_wire_core.specs.TransportError.{ErrorValue}
use Rattle.quic_wire_core.specs.declared.shared.EcnCodepoint.{EcnCodepoint}
use Rattle.quic_wire.specs.Value.{FrameValue, padding, path_challenge, path_response}
use Rattle.quic_packet.specs.Number.{truncated, expanded}
use Rattle.quic_packet.specs.Header.{first_byte, key_phase, reserved_bits}
use Rattle.quic_wire.specs.Grammar.{Payload}
use Rattle.quic_wire.specs.Items.{items}
use Rattle.quic_packet.specs.Datagram.{Opening, opened_packet}
use Rattle.quic_packet.specs.Destination.{decoded, fixed_length_id, is_known}
use Rattle.quic_wire.specs.declared.frame.InvalidFrame.{InvalidFrame}
use Rattle.quic_packet.specs.declared.packet.HeaderError.{HeaderError}
use Rattle.quic_packet.specs.declared.packet.HeaderError.TheVariants.{UnknownId}
use Rattle.quic_packet.proofs.Numbers.{fewest}
use Rattle.quic_packet.proofs.Opening.{mates_open}
use Rattle.quic_packet.proofs.Destinations.{fixed_length_finds, sent_is_decoded}
use Rattle.quic_wire.proofs.FrameWhole.{payload_items}
use Rattle.quic_machine.specs.Arrival.{Arrival}
use Rattle.quic_machine.specs.declared.answers.State.{State}
use Rattle.quic_machine.specs.declared.answers.State.TheVariants as states
use Rattle.quic_machine.specs.declared.answers.DropReason.{DropReason}
use Rattle.quic_machine.specs.declared.answers.DropReason.TheVariants as drops
use Rattle.quic_machine.specs.declared.answers.Received.TheVariants.{Taken, Closed}
use Rattle.quic_machine.specs.declared.run.Answer.{Answer}
use Rattle.quic_machine.specs.declared.run.Answer.TheVariants as answers
use Rattle.quic_machine.specs.Policy.{Policy, CanOpen}
use Rattle.quic_machine.specs.Ids.{known}
use Rattle.quic_spaces.specs.Numbers.{expected, number_opened}
use Rattle.quic_recovery_core.specs.Duplicates.{is_duplicate}
use Rattle.quic_recovery_core.specs.DuplicateRuns.{seen_after}
use Rattle.quic_machine.specs.End.{End, side_of, closed_by, with_numbers, with_closing}
use Rattle.quic_machine.specs.Calls.{is_open}
use Rattle.quic_machine.specs.Migration.{is_client, is_there, is_foreign, is_probing, is_telling, as_elsewhere, item_elsewhere, items_at, migrates, migrated}
use Rattle.quic_machine.specs.Opens.{own_id_length, with_drop, head, in_phase, opens_behind, opens}
use Rattle.quic_machine.specs.Receive.{Fault, Progress, Outcome, error_of, reason_of, take_payload, violation, asks_in, is_urged, after_taken, dropped, ends_as, judged, processed, by_state, opened_to, opened_as, headed, received_in, received, broke, too_many_pieces, closed_by_peer, drained_at, exhausted, key_limit, unopened_in, is_read, drawn_if, with_ids_drawn, is_taken, migrated_if, with_migration}
use Rattle.quic_headline.specs.Runs.{Intake, In, is_again, frames_of, is_refused, destination, opens_by_key, came_open, and_opened, and_handed}
use Rattle.quic_machine.specs.Start.{IsLawful}
use Rattle.quic_machine.specs.FrameCases.{passed, begun}
use Rattle.quic_machine.specs.Closing.{close_asked}
use Rattle.quic_machine.specs.IdFrames.{drawn}
use Rattle.quic_wire.specs.Close.{CloseValue}
use Rattle.quic_headline.proofs.Packets.Invariant.{IsGiven, Knows, KnowsIn}
use Rattle.quic_headline.proofs.Packets.Window.{is_duplicate-is}
use Rattle.quic_headline.proofs.Packets.ByKey.{known_alone, header_for, counted, opens_from, opens_from_is, came_open_is}

-- ---- the header

-- the first byte of a packet of such a width has key phase 0 and reserved bits 0
pub plain_first : (width : ℕ) → 1 ≤ width → width ≤ 4 → (key_phase (first_byte width) ≡ false) × ((reserved_bits (first_byte width) == 0) ≡ true)
plain_first zero some four = absurd (omega arith)
plain_first (suc zero) some four = (refl, refl)
plain_first (suc (suc zero)) some four = (refl, refl)
plain_first (suc (suc (suc zero))) some four = (refl, refl)
plain_first (suc (suc (suc (suc zero)))) some four = (refl, refl)
plain_first (suc (suc (suc (suc (suc n))))) some four = absurd (omega arith)

-- so has that of each number
pub plain_number : (n reference : ℕ) → n - reference < 2 ^ 31 → (key_phase (first_byte (truncated n reference).width) ≡ false) × ((reserved_bits (first_byte (truncated n reference).width) == 0) ≡ true)
plain_number n reference near = let few = fewest (n - reference) near in plain_first (truncated n reference).width few.some few.four

-- what the header of a datagram says that was sent to this id, which is one of those that its taker
-- is known by, or isn't
abbrev pub known_as : Bool → List ℕ → Result (List ℕ) HeaderError
known_as b id = cond {A = Result (List ℕ) HeaderError} b (Ok id) (Err UnknownId)

-- the datagram is for the id that it was sent to
pub decoded_given : (p : Policy) (id : List ℕ) (n reference : ℕ) (frames : List FrameValue) (d : List ℕ) → IsGiven p id n reference frames d → IsLawful p → (ids : List (List ℕ))
    → decoded (fixed_length_id own_id_length) ids d ≡ known_as (is_known id ids) id
decoded_given p id n reference frames d g lawful ids =
    let finds : (rest : List ℕ) → fixed_length_id own_id_length (id ++ rest) ≡ Some id = λ rest. subst (λ (k : ℕ). fixed_length_id k (id ++ rest) ≡ Some id) g.long (fixed_length_finds id rest) in
    ap (λ (x : List ℕ). decoded (fixed_length_id own_id_length) ids x) g.is ∙ sent_is_decoded p.header p.packet lawful.form lawful.width lawful.tag (fixed_length_id own_id_length) ids n reference id g.payload finds g.near g.four

-- it was sent to that id
pub destination_given : (p : Policy) (id : List ℕ) (n reference : ℕ) (frames : List FrameValue) (d : List ℕ) → IsGiven p id n reference frames d → IsLawful p → destination d ≡ id
destination_given p id n reference frames d g lawful =
    header_for (id ∷ []) d id (decoded_given p id n reference frames d g lawful (id ∷ []) ∙ ap (λ (b : Bool). known_as b id) (known_alone id))

-- ---- what it opens to

-- the opening of the packet of a number that was cut against a reference
abbrev pub shown : ℕ → ℕ → List ℕ → Opening
shown n reference payload = record { first = first_byte (truncated n reference).width; number = n; payload = payload }

-- that opening, or none
abbrev pub shown_if : Bool → ℕ → ℕ → List ℕ → Option Opening
shown_if b n reference payload = cond b (Some (shown n reference payload)) None

-- whether the bytes of a number, cut against a reference, expand to it where this number is
-- expected
abbrev pub expands : ℕ → ℕ → ℕ → Bool
expands n reference x = expanded (truncated n reference) x == n

-- the datagram opens where its number's bytes expand to it
pub opened_given : (p q : Policy) (id : List ℕ) (n reference : ℕ) (frames : List FrameValue) (d : List ℕ) → (g : IsGiven p id n reference frames d) → CanOpen p q → (x : ℕ)
    → opened_packet q.header q.packet (own_id_length + 1) x d ≡ shown_if (expands n reference x) n reference g.payload
opened_given p q id n reference frames d g mates x =
    subst (λ (k : ℕ). opened_packet q.header q.packet (k + 1) x d ≡ shown_if (expands n reference x) n reference g.payload) g.long
    (ap (λ (y : List ℕ). opened_packet q.header q.packet (length id + 1) x y) g.is ∙ mates_open p.header p.packet q.header q.packet mates n reference x id g.payload g.near g.small)

-- its key phase is 0
in_phase_shown : (b : Bool) (n reference : ℕ) (payload : List ℕ) → n - reference < 2 ^ 31 → in_phase (shown_if b n reference payload) ≡ shown_if b n reference payload
in_phase_shown true n reference payload near = ap (λ (b : Bool). cond {A = Option Opening} b None (Some (shown n reference payload))) (plain_number n reference near).0
in_phase_shown false n reference payload near = refl

-- what it opens to at an end that is known by these ids is that opening as well, where its id is
-- one of them
pub opens_given : (p q : Policy) (id : List ℕ) (n reference : ℕ) (frames : List FrameValue) (d : List ℕ) → (g : IsGiven p id n reference frames d) → CanOpen p q → IsLawful p → (ids : List (List ℕ)) (x : ℕ)
    → opens q ids x d ≡ shown_if (is_known id ids && expands n reference x) n reference g.payload
opens_given p q id n reference frames d g mates lawful ids x =
    ap (λ (r : Result (List ℕ) HeaderError). opens_behind r q x d) (decoded_given p id n reference frames d g lawful ids) ∙ go (is_known id ids)
  where
    go : (b : Bool) → opens_behind (known_as b id) q x d ≡ shown_if (b && expands n reference x) n reference g.payload
    go true = ap in_phase (opened_given p q id n reference frames d g mates x) ∙ in_phase_shown (expands n reference x) n reference g.payload g.near
    go false = refl

-- by its key alone it opens so whatever ids there are
pub by_key_given : (p q : Policy) (id : List ℕ) (n reference : ℕ) (frames : List FrameValue) (d : List ℕ) → (g : IsGiven p id n reference frames d) → CanOpen p q → IsLawful p → (x : ℕ)
    → opens_by_key q x d ≡ shown_if (expands n reference x) n reference g.payload
by_key_given p q id n reference frames d g mates lawful x =
    opens_given p q id n reference frames d g mates lawful (destination d ∷ []) x
    ∙ ap (λ (b : Bool). shown_if (b && expands n reference x) n reference g.payload) (ap (λ (to : List ℕ). is_known id (to ∷ [])) (destination_given p id n reference frames d g lawful) ∙ known_alone id)

-- ---- its frames

-- the frames among items that are frames
pub frames_of_oks : (fs : List FrameValue) → frames_of (map Ok fs) ≡ fs
frames_of_oks [] = refl
frames_of_oks (f ∷ fs) = ap (λ (xs : List FrameValue). f ∷ xs) (frames_of_oks fs)

-- the frames of a payload are those that it spells
pub frames_of_payload : (fs : List FrameValue) (payload : List ℕ) → Payload fs payload → frames_of (items payload) ≡ fs
frames_of_payload fs payload spells = ap frames_of (payload_items fs payload spells) ∙ frames_of_oks fs

-- the frames of a packet that are taken, where it came from where its taker takes its peer to be,
-- or came from elsewhere: of path validation none then, but PADDING in their place
abbrev pub frames_at : Bool → List FrameValue → List FrameValue
frames_at true fs = fs
frames_at false fs = map as_elsewhere fs

-- so it is of their items
items_elsewhere : (fs : List FrameValue) → map item_elsewhere (map {B = Result FrameValue InvalidFrame} Ok fs) ≡ map Ok (map as_elsewhere fs)
items_elsewhere [] = refl
items_elsewhere (f ∷ fs) = ap (λ (is : List (Result FrameValue InvalidFrame)). Ok (as_elsewhere f) ∷ is) (items_elsewhere fs)

items_at_frames : (here : Bool) (fs : List FrameValue) → items_at here (map Ok fs) ≡ map Ok (frames_at here fs)
items_at_frames true fs = refl
items_at_frames false fs = items_elsewhere fs

-- what holds of PADDING, and of each frame of a packet, holds of each that is taken
pub among_at : (K : FrameValue → Type 0) → K padding → (here : Bool) (fs : List FrameValue) → ((f : FrameValue) → In f fs → K f) → (f : FrameValue) → In f (frames_at here fs) → K f
among_at K pads true fs each f i = each f i
among_at K pads false fs each f i = go fs each i
  where
    one : (g : FrameValue) → K g → K (as_elsewhere g)
    one (path_challenge token) k = pads
    one (path_response token) k = pads
    one g k = k

    go : (gs : List FrameValue) → ((g : FrameValue) → In g gs → K g) → In f (map as_elsewhere gs) → K f
    go [] all i = absurd i
    go (g ∷ gs) all (inl is) = subst K (sym is) (one g (all g (inl refl)))
    go (g ∷ gs) all (inr i) = go gs (λ h j. all h (inr j)) i

-- a payload with a frame comes to what its frames do that are taken
pub payload_taken : (first : ℕ) (here : Bool) (fs : List FrameValue) (payload : List ℕ) (e : End) → (reserved_bits first == 0) ≡ true → 0 < length fs → Payload fs payload → take_payload first (items_at here (items payload)) e ≡ passed (frames_at here fs) e
payload_taken first here [] payload e zeros some spells = absurd (omega arith)
payload_taken first here (f ∷ fs) payload e zeros some spells =
    ap (λ (is : List (Result FrameValue InvalidFrame)). take_payload first (items_at here is) e) (payload_items (f ∷ fs) payload spells)
    ∙ ap (λ (is : List (Result FrameValue InvalidFrame)). take_payload first is e) (items_at_frames here (f ∷ fs))
    ∙ go here
  where
    go : (b : Bool) → take_payload first (map Ok (frames_at b (f ∷ fs))) e ≡ passed (frames_at b (f ∷ fs)) e
    go true = ap (λ (c : Bool). cond {A = Progress} (not c || false) (record { end = e; fault = Some violation }) (passed (f ∷ fs) e)) zeros
    go false = ap (λ (c : Bool). cond {A = Progress} (not c || false) (record { end = e; fault = Some violation }) (passed (map as_elsewhere (f ∷ fs)) e)) zeros

-- ---- what it makes of an end and of what came to it

-- what it makes of the frames that are taken
abbrev pub arrived : End → ℕ → ℕ → List FrameValue → Progress
arrived e now n frames = passed frames (begun e now n)

-- what came once the packet was taken
abbrev pub with_taken : Intake → ℕ → List FrameValue → Intake
with_taken i n frames = record i { opened = n ∷ i.opened; took = record { number = n; frames = frames } ∷ i.took }

-- what came once the packet was refused
abbrev pub with_refused : Intake → ℕ → List FrameValue → Intake
with_refused i n frames = record i { opened = n ∷ i.opened; part = Some (record { number = n; frames = frames }) }

-- the cases of such a delivery of which these frames are taken, with what is known in each: P of
-- what the end makes of it, and of what came then
pub record Arrivals (e : End) (now n : ℕ) (frames taken : List FrameValue) (i : Intake) (P : Outcome → Intake → Type 0) : Type 0 where
  -- it is dropped, and nothing changes
  pub ignored : (reason : DropReason) → P (dropped reason e) i
  -- a closing end notes the number, and owes its close once more
  pub noted : e.closing.state ≡ states.Closing → (reason : DropReason) → P (dropped reason (with_closing (with_numbers e (number_opened e.numbers n)) (close_asked e.closing))) i
  -- it is taken, and the ids are drawn that were issued for it
  pub takes : (words : ℕ → ℕ) → e.closing.state ≡ states.Open → is_again n i.opened ≡ false → (arrived e now n taken).fault ≡ None
      → (urged : Bool) (mark : Option EcnCodepoint) → P (record { answer = Taken; end = drawn words (after_taken n (asks_in (map Ok frames)) urged mark (arrived e now n taken).end) }) (with_taken i n frames)
  -- and the peer has moved, as it says
  pub moves : (p : Policy) (o : Opening) → items o.payload ≡ map Ok frames → (remote : ℕ) (x : End) → x.closing.state ≡ states.Open
      → P (record { answer = Taken; end = x }) (with_taken i n frames) → P (record { answer = Taken; end = migrated p o remote x }) (with_taken i n frames)
  -- it is taken so far as the peer closes, and the end is drained
  pub drains : (words : ℕ → ℕ) → e.closing.state ≡ states.Open → is_again n i.opened ≡ false → (close : CloseValue) → (arrived e now n taken).fault ≡ Some (closed_by_peer close)
      → P (record { answer = Taken; end = drawn words (drained_at n close (arrived e now n taken).end) }) (with_taken i n frames)
  -- it is refused, and the end closes
  pub refuses : (words : ℕ → ℕ) → e.closing.state ≡ states.Open → is_again n i.opened ≡ false → (f : Fault) → (arrived e now n taken).fault ≡ Some f
      → P (record { answer = Closed (error_of f); end = drawn words (closed_by (reason_of f) (arrived e now n taken).end) }) (with_refused i n frames)
  -- it doesn't open, its number being too far off, and is the last that may not
  pub exhausts : e.closing.state ≡ states.Open → P (record { answer = Closed key_limit; end = exhausted now e }) i

-- the same cases, of a delivery that bears this mark, or none
pub record ArrivalsWith (mark : Option EcnCodepoint) (e : End) (now n : ℕ) (frames taken : List FrameValue) (i : Intake) (P : Outcome → Intake → Type 0) : Type 0 where
  pub ignored : (reason : DropReason) → P (dropped reason e) i
  pub noted : e.closing.state ≡ states.Closing → (reason : DropReason) → P (dropped reason (with_closing (with_numbers e (number_opened e.numbers n)) (close_asked e.closing))) i
  pub takes : (words : ℕ → ℕ) → e.closing.state ≡ states.Open → is_again n i.opened ≡ false → (arrived e now n taken).fault ≡ None
      → P (record { answer = Taken; end = drawn words (after_taken n (asks_in (map Ok frames)) (is_urged mark (asks_in (map Ok frames)) (map Ok taken) (begun e now n)) mark (arrived e now n taken).end) }) (with_taken i n frames)
  pub moves : (p : Policy) (o : Opening) → items o.payload ≡ map Ok frames → (remote : ℕ) (x : End) → x.closing.state ≡ states.Open
      → P (record { answer = Taken; end = x }) (with_taken i n frames) → P (record { answer = Taken; end = migrated p o remote x }) (with_taken i n frames)
  pub drains : (words : ℕ → ℕ) → e.closing.state ≡ states.Open → is_again n i.opened ≡ false → (close : CloseValue) → (arrived e now n taken).fault ≡ Some (closed_by_peer close)
      → P (record { answer = Taken; end = drawn words (drained_at n close (arrived e now n taken).end) }) (with_taken i n frames)
  pub refuses : (words : ℕ → ℕ) → e.closing.state ≡ states.Open → is_again n i.opened ≡ false → (f : Fault) → (arrived e now n taken).fault ≡ Some f
      → P (record { answer = Closed (error_of f); end = drawn words (closed_by (reason_of f) (arrived e now n taken).end) }) (with_refused i n frames)
  pub exhausts : e.closing.state ≡ states.Open → P (record { answer = Closed key_limit; end = exhausted now e }) i

-- what holds whatever the mark does
pub of_any : (mark : Option EcnCodepoint) (e : End) (now n : ℕ) (frames taken : List FrameValue) (i : Intake) (P : Outcome → Intake → Type 0) → Arrivals e now n frames taken i P → ArrivalsWith mark e now n frames taken i P
of_any mark e now n frames taken i P c = record {
  ignored = c.ignored;
  noted = c.noted;
  takes = λ words state new none. c.takes words state new none (is_urged mark (asks_in (map Ok frames)) (map Ok taken) (begun e now n)) mark;
  moves = c.moves;
  drains = c.drains;
  refuses = c.refuses;
  exhausts = c.exhausts;
}

-- whether a packet of this number with these frames, from this address, says at an end that its
-- peer is there, if it is taken
abbrev pub moves_by : ℕ → ℕ → List FrameValue → End → Bool
moves_by remote n frames e = not (is_client (side_of e)) && (not (is_there remote e) && (nat_le (expected e.numbers) n && list_any (λ f. not (is_probing f)) frames))

-- the same cases, of a delivery from this address, with exactly what it makes of the path
pub record ArrivalsFrom (remote : ℕ) (mark : Option EcnCodepoint) (e : End) (now n : ℕ) (frames : List FrameValue) (i : Intake) (P : Outcome → Intake → Type 0) : Type 0 where
  pub ignored : (reason : DropReason) → P (dropped reason e) i
  pub noted : e.closing.state ≡ states.Closing → (reason : DropReason) → P (dropped reason (with_closing (with_numbers e (number_opened e.numbers n)) (close_asked e.closing))) i
  pub takes : (p : Policy) (o : Opening) → items o.payload ≡ map Ok frames → e.closing.state ≡ states.Open → is_again n i.opened ≡ false → (let taken = frames_at (is_there remote e) frames in
      (arrived e now n taken).fault ≡ None
      → (let x : End = drawn p.words (after_taken n (asks_in (map Ok frames)) (is_urged mark (asks_in (map Ok frames)) (map Ok taken) (begun e now n)) mark (arrived e now n taken).end) in
      P (record { answer = Taken; end = migrated_if (moves_by remote n frames e && is_open x.closing.state) p o remote x }) (with_taken i n frames)))
  pub drains : (words : ℕ → ℕ) → e.closing.state ≡ states.Open → is_again n i.opened ≡ false → (close : CloseValue) → (let taken = frames_at (is_there remote e) frames in (arrived e now n taken).fault ≡ Some (closed_by_peer close)
      → P (record { answer = Taken; end = drawn words (drained_at n close (arrived e now n taken).end) }) (with_taken i n frames))
  pub refuses : (words : ℕ → ℕ) → e.closing.state ≡ states.Open → is_again n i.opened ≡ false → (f : Fault) → (let taken = frames_at (is_there remote e) frames in (arrived e now n taken).fault ≡ Some f
      → P (record { answer = Closed (error_of f); end = drawn words (closed_by (reason_of f) (arrived e now n taken).end) }) (with_refused i n frames))
  pub exhausts : e.closing.state ≡ states.Open → P (record { answer = Closed key_limit; end = exhausted now e }) i

-- the same cases, at an end with this policy
pub record ArrivalsBy (q : Policy) (remote : ℕ) (mark : Option EcnCodepoint) (e : End) (now n : ℕ) (frames : List FrameValue) (i : Intake) (P : Outcome → Intake → Type 0) : Type 0 where
  pub ignored : (reason : DropReason) → P (dropped reason e) i
  pub noted : e.closing.state ≡ states.Closing → (reason : DropReason) → P (dropped reason (with_closing (with_numbers e (number_opened e.numbers n)) (close_asked e.closing))) i
  pub takes : (o : Opening) → items o.payload ≡ map Ok frames → e.closing.state ≡ states.Open → is_again n i.opened ≡ false → (let taken = frames_at (is_there remote e) frames in
      (arrived e now n taken).fault ≡ None
      → (let x : End = drawn q.words (after_taken n (asks_in (map Ok frames)) (is_urged mark (asks_in (map Ok frames)) (map Ok taken) (begun e now n)) mark (arrived e now n taken).end) in
      P (record { answer = Taken; end = migrated_if (moves_by remote n frames e && is_open x.closing.state) q o remote x }) (with_taken i n frames)))
  pub drains : e.closing.state ≡ states.Open → is_again n i.opened ≡ false → (close : CloseValue) → (let taken = frames_at (is_there remote e) frames in (arrived e now n taken).fault ≡ Some (closed_by_peer close)
      → P (record { answer = Taken; end = drawn q.words (drained_at n close (arrived e now n taken).end) }) (with_taken i n frames))
  pub refuses : e.closing.state ≡ states.Open → is_again n i.opened ≡ false → (f : Fault) → (let taken = frames_at (is_there remote e) frames in (arrived e now n taken).fault ≡ Some f
      → P (record { answer = Closed (error_of f); end = drawn q.words (closed_by (reason_of f) (arrived e now n taken).end) }) (with_refused i n frames))
  pub exhausts : e.closing.state ≡ states.Open → P (record { answer = Closed key_limit; end = exhausted now e }) i

-- what holds at any end holds at that one
pub of_every : (q : Policy) (remote : ℕ) (mark : Option EcnCodepoint) (e : End) (now n : ℕ) (frames : List FrameValue) (i : Intake) (P : Outcome → Intake → Type 0) → ArrivalsFrom remote mark e now n frames i P → ArrivalsBy q remote mark e now n frames i P
of_every q remote mark e now n frames i P c = record {
  ignored = c.ignored;
  noted = c.noted;
  takes = c.takes q;
  drains = c.drains q.words;
  refuses = c.refuses q.words;
  exhausts = c.exhausts;
}

-- what is less holds where more does
pub less_arrivals : (remote : ℕ) (mark : Option EcnCodepoint) (e : End) (now n : ℕ) (frames : List FrameValue) (i : Intake) (P Q : Outcome → Intake → Type 0) → ((o : Outcome) (j : Intake) → P o j → Q o j) → ArrivalsFrom remote mark e now n frames i P → ArrivalsFrom remote mark e now n frames i Q
less_arrivals remote mark e now n frames i P Q less c = record {
  ignored = λ reason. less _ _ (c.ignored reason);
  noted = λ state reason. less _ _ (c.noted state reason);
  takes = λ p o same state new none. less _ _ (c.takes p o same state new none);
  drains = λ words state new close is. less _ _ (c.drains words state new close is);
  refuses = λ words state new f is. less _ _ (c.refuses words state new f is);
  exhausts = λ state. less _ _ (c.exhausts state);
}

-- what stays where the peer moves holds from wherever it came
pub of_anywhere : (remote : ℕ) (mark : Option EcnCodepoint) (e : End) (now n : ℕ) (frames : List FrameValue) (i : Intake) (P : Outcome → Intake → Type 0) → ArrivalsWith mark e now n frames (frames_at (is_there remote e) frames) i P → ArrivalsFrom remote mark e now n frames i P
of_anywhere remote mark e now n frames i P c = record {
  ignored = c.ignored;
  noted = c.noted;
  takes = λ p o same state new none. (
      let taken = frames_at (is_there remote e) frames in
      let x : End = drawn p.words (after_taken n (asks_in (map Ok frames)) (is_urged mark (asks_in (map Ok frames)) (map Ok taken) (begun e now n)) mark (arrived e now n taken).end) in
      go p o same x (moves_by remote n frames e) x.closing.state refl (c.takes p.words state new none));
  drains = c.drains;
  refuses = c.refuses;
  exhausts = c.exhausts;
}
  where
    go : (p : Policy) (o : Opening) → items o.payload ≡ map Ok frames → (x : End) (b : Bool) (s : State) → x.closing.state ≡ s → P (record { answer = Taken; end = x }) (with_taken i n frames) → P (record { answer = Taken; end = migrated_if (b && is_open s) p o remote x }) (with_taken i n frames)
    go p o same x false s state h = h
    go p o same x true states.Open state h = c.moves p o same remote x state h
    go p o same x true states.Closing state h = h
    go p o same x true states.Drained state h = h
    go p o same x true states.Failed state h = h

-- what a packet comes to that opened, whose key phase is 0
abbrev by_test : Bool → State → Opening → Arrival → End → Outcome
by_test again s o arrival e = cond again (dropped drops.Duplicate e) (by_state s o arrival (with_numbers e (number_opened e.numbers o.number)))

opened_tested : (o : Opening) (arrival : Arrival) (e : End) (again : Bool) (s : State) → key_phase o.first ≡ false → is_duplicate e.numbers.opened o.number ≡ again → e.closing.state ≡ s → opened_to o arrival e ≡ by_test again s o arrival e
opened_tested o arrival e again s phase is state =
    ap (λ (b : Bool). cond {A = Outcome} b (dropped drops.KeyPhase e) (by_test (is_duplicate e.numbers.opened o.number) e.closing.state o arrival e)) phase
    ∙ ap (λ (b : Bool). by_test b e.closing.state o arrival e) is
    ∙ ap (λ (x : State). by_test again x o arrival e) state

-- what came once a packet opened
abbrev came_by : Bool → ℕ → List FrameValue → Answer → Intake → Intake
came_by again n frames a i = cond again i (record {
  opened = n ∷ i.opened;
  took = cond (is_refused a) i.took (record { number = n; frames = frames } ∷ i.took);
  part = cond (is_refused a) (Some (record { number = n; frames = frames })) i.part;
})

came_tested : (n reference : ℕ) (fs : List FrameValue) (payload : List ℕ) (a : Answer) (i : Intake) (again : Bool) → is_again n i.opened ≡ again → Payload fs payload → and_opened (Some (shown n reference payload)) a i ≡ came_by again n fs a i
came_tested n reference fs payload a i again is spells =
    ap (λ (b : Bool). came_by b n (frames_of (items payload)) a i) is
    ∙ ap (λ (xs : List FrameValue). came_by again n xs a i) (frames_of_payload fs payload spells)

-- what an open end makes of a packet that opened and is new
processed_given : (n reference : ℕ) (frames : List FrameValue) (payload : List ℕ) (arrival : Arrival) (e : End) → n - reference < 2 ^ 31 → 0 < length frames → Payload frames payload → (let taken = frames_at (is_there arrival.remote e) frames in
    processed (shown n reference payload) arrival (with_numbers e (number_opened e.numbers n)) ≡ judged (arrived e arrival.now n taken) (asks_in (map Ok frames)) (is_urged arrival.mark (asks_in (map Ok frames)) (map Ok taken) (begun e arrival.now n)) n arrival.mark)
processed_given n reference frames payload arrival e near some spells =
    let here : Bool = is_there arrival.remote e in
    let begins = begun e arrival.now n in
    ap (λ (x : Progress). judged x (asks_in (items payload)) (is_urged arrival.mark (asks_in (items payload)) (items_at here (items payload)) begins) n arrival.mark) (payload_taken (first_byte (truncated n reference).width) here frames payload begins (plain_number n reference near).1 some spells)
    ∙ ap (λ (is : List (Result FrameValue InvalidFrame)). judged (arrived e arrival.now n (frames_at here frames)) (asks_in is) (is_urged arrival.mark (asks_in is) (items_at here is) begins) n arrival.mark) (payload_items frames payload spells)
    ∙ ap (λ (is : List (Result FrameValue InvalidFrame)). judged (arrived e arrival.now n (frames_at here frames)) (asks_in (map Ok frames)) (is_urged arrival.mark (asks_in (map Ok frames)) is begins) n arrival.mark) (items_at_frames here frames)

-- P of an outcome and of what came with it, where both are known
moved : (P : Outcome → Intake → Type 0) (came : Outcome → Intake) (o o' : Outcome) (i : Intake) → o ≡ o' → came o' ≡ i → P o' i → P o (came o)
moved P came o o' i e h p = subst (λ (x : Outcome). P x (came x)) (sym e) (subst (λ (y : Intake). P o' y) (sym h) p)

-- what came to an open end once it was handed a datagram
abbrev handed_open : Policy → End → Intake → List ℕ → Outcome → Intake
handed_open q e i d o = and_opened (came_open q i.took (answers.Deliver o.answer) d) (answers.Deliver o.answer) i

-- what the header of a datagram says that was sent to this id, which is known or isn't, and came
-- from where its taker takes nothing, or didn't
abbrev head_as : Bool → Bool → List ℕ → Result (List ℕ) DropReason
head_as foreign known id = if foreign then Err drops.Address else with_drop (known_as known id)

-- whether such a packet says that the peer has moved, by its items
moves_items : (frames : List FrameValue) → list_any is_telling (map Ok frames) ≡ list_any (λ f. not (is_probing f)) frames
moves_items [] = refl
moves_items (f ∷ frames) = ap (λ (b : Bool). not (is_probing f) || b) (moves_items frames)

migrates_is : (n reference : ℕ) (frames : List FrameValue) (payload : List ℕ) (remote : ℕ) (e : End) → Payload frames payload → migrates (shown n reference payload) remote e ≡ moves_by remote n frames e
migrates_is n reference frames payload remote e spells =
    ap (λ (b : Bool). not (is_client (side_of e)) && (not (is_there remote e) && (nat_le (expected e.numbers) n && b)))
    (ap (λ (is : List (Result FrameValue InvalidFrame)). list_any is_telling is) (payload_items frames payload spells) ∙ moves_items frames)

-- a packet that isn't taken says nothing of where the peer is, whether or not it would
stays_there : (b : Bool) (p : Policy) (o : Opening) (remote : ℕ) (e : End) → migrated_if (b && false) p o remote e ≡ e
stays_there true p o remote e = refl
stays_there false p o remote e = refl

module _ (p q : Policy) (id : List ℕ) (n reference : ℕ) (frames : List FrameValue) (d : List ℕ) (g : IsGiven p id n reference frames d) (mates : CanOpen p q) (lawful : IsLawful p)
    (e : End) (arrival : Arrival) (i : Intake) (P : Outcome → Intake → Type 0) (cases : ArrivalsBy q arrival.remote arrival.mark e arrival.now n frames i P) where
  abbrev opening_shown : Opening
  opening_shown = shown n reference g.payload

  abbrev foreign : Bool
  foreign = is_foreign arrival.remote e

  abbrev knows_it : Bool
  knows_it = is_known id (known e.ids)

  -- the outcome, where it comes from where nothing is taken, and where its id is known, or not
  abbrev headed_if : Bool → Bool → Outcome
  headed_if away b = cond away (dropped drops.Address e) (cond b (opened_as (shown_if (expands n reference (expected e.numbers)) n reference g.payload) q arrival e) (dropped drops.UnknownId e))

  head_given : head e arrival.remote d ≡ head_as foreign knows_it id
  head_given = ap (λ (r : Result (List ℕ) HeaderError). if foreign then Err drops.Address else with_drop r) (decoded_given p id n reference frames d g lawful (known e.ids))

  -- it is that of the opening
  headed_given : headed (head e arrival.remote d) q e arrival d ≡ headed_if foreign knows_it
  headed_given =
      ap (λ (r : Result (List ℕ) DropReason). headed r q e arrival d) head_given
      ∙ go foreign knows_it
    where
      go : (away b : Bool) → headed (head_as away b id) q e arrival d ≡ headed_if away b
      go true b = refl
      go false true = ap (λ (o : Option Opening). opened_as o q arrival e) (opened_given p q id n reference frames d g mates (expected e.numbers))
      go false false = refl

  -- it opens where its id is known, and it didn't come from where nothing is taken
  opens_shown : opens_from q e arrival.remote (expected e.numbers) d ≡ shown_if (not foreign && (knows_it && expands n reference (expected e.numbers))) n reference g.payload
  opens_shown = opens_from_is q e arrival.remote (expected e.numbers) d ∙ ap (λ (o : Option Opening). counted (not foreign) o) (opens_given p q id n reference frames d g mates lawful (known e.ids) (expected e.numbers)) ∙ go foreign
    where
      go : (away : Bool) → counted (not away) (shown_if (knows_it && expands n reference (expected e.numbers)) n reference g.payload) ≡ shown_if (not away && (knows_it && expands n reference (expected e.numbers))) n reference g.payload
      go true = refl
      go false = refl

  -- what came is by the same opening
  handed_given : Knows e.numbers i → (let o : Outcome = headed_if foreign knows_it in
      handed_open q e i d o ≡ and_opened (shown_if (not foreign && (knows_it && expands n reference (expected e.numbers))) n reference g.payload) (answers.Deliver o.answer) i)
  handed_given k =
      ap (λ (y : Option Opening). and_opened y (answers.Deliver (headed_if foreign knows_it).answer) i)
      (ap (λ (o : Outcome). came_open q i.took (answers.Deliver o.answer) d) (sym headed_given)
      ∙ came_open_is q e arrival d i.took k.expected
      ∙ opens_shown)

  -- one that isn't taken leaves the path
  not_taken : (o : Outcome) (j : Intake) → is_taken o.answer ≡ false → is_read o.answer ≡ false → P o j → P (with_migration q opening_shown arrival.remote e (with_ids_drawn q o)) j
  not_taken o j untaken unread h =
      subst (λ (b : Bool). P (record { answer = o.answer; end = migrated_if (migrates opening_shown arrival.remote e && (is_taken o.answer && is_open (drawn_if b q o.end).closing.state)) q opening_shown arrival.remote (drawn_if b q o.end) }) j) (sym unread)
      (subst (λ (b : Bool). P (record { answer = o.answer; end = migrated_if (migrates opening_shown arrival.remote e && (b && is_open o.end.closing.state)) q opening_shown arrival.remote o.end }) j) (sym untaken)
      (subst (λ (x : End). P (record { answer = o.answer; end = x }) j) (sym (stays_there (migrates opening_shown arrival.remote e) q opening_shown arrival.remote o.end)) h))

  closing_tested : (b again : Bool) → e.closing.state ≡ states.Closing → is_duplicate e.numbers.opened n ≡ again → P (opened_as (shown_if b n reference g.payload) q arrival e) i
  closing_tested false again state is = subst (λ (s : State). P (unopened_in s arrival.last arrival e) i) (sym state) (cases.ignored drops.NotOpened)
  closing_tested true true state is = subst (λ (o : Outcome). P (with_migration q opening_shown arrival.remote e (with_ids_drawn q o)) i) (sym (opened_tested opening_shown arrival e true states.Closing (plain_number n reference g.near).0 is state)) (not_taken (dropped drops.Duplicate e) i refl refl (cases.ignored drops.Duplicate))
  closing_tested true false state is = subst (λ (o : Outcome). P (with_migration q opening_shown arrival.remote e (with_ids_drawn q o)) i) (sym (opened_tested opening_shown arrival e false states.Closing (plain_number n reference g.near).0 is state)) (not_taken (by_state states.Closing opening_shown arrival (with_numbers e (number_opened e.numbers n))) i refl refl (cases.noted state drops.Closing))

  known_closing : (away b : Bool) → e.closing.state ≡ states.Closing → P (headed_if away b) i
  known_closing true b state = cases.ignored drops.Address
  known_closing false true state = closing_tested (expands n reference (expected e.numbers)) (is_duplicate e.numbers.opened n) state refl
  known_closing false false state = cases.ignored drops.UnknownId

  at_closing : e.closing.state ≡ states.Closing → P (headed (head e arrival.remote d) q e arrival d) i
  at_closing state = subst (λ (o : Outcome). P o i) (sym headed_given) (known_closing foreign knows_it state)

  abbrev taken_here : List FrameValue
  taken_here = frames_at (is_there arrival.remote e) frames

  abbrev left_here : Option Fault → Outcome
  left_here f = ends_as f (asks_in (map Ok frames)) (is_urged arrival.mark (asks_in (map Ok frames)) (map Ok taken_here) (begun e arrival.now n)) n arrival.mark (arrived e arrival.now n taken_here).end

  -- an end that is drained, or refuses the packet, keeps its path
  drained_stays : (b : Bool) (x : End) → P (record { answer = Taken; end = x }) (with_taken i n frames) → P (record { answer = Taken; end = migrated_if (b && false) q opening_shown arrival.remote x }) (with_taken i n frames)
  drained_stays b x h = subst (λ (y : End). P (record { answer = Taken; end = y }) (with_taken i n frames)) (sym (stays_there b q opening_shown arrival.remote x)) h

  refused_stays : (b : Bool) (error : ErrorValue) (x : End) → P (record { answer = Closed error; end = x }) (with_refused i n frames) → P (record { answer = Closed error; end = migrated_if (b && false) q opening_shown arrival.remote x }) (with_refused i n frames)
  refused_stays b error x h = subst (λ (y : End). P (record { answer = Closed error; end = y }) (with_refused i n frames)) (sym (stays_there b q opening_shown arrival.remote x)) h

  taken_or_refused : e.closing.state ≡ states.Open → is_again n i.opened ≡ false → (f : Option Fault) → (arrived e arrival.now n taken_here).fault ≡ f
      → P (with_migration q opening_shown arrival.remote e (with_ids_drawn q (left_here f))) (came_by false n frames (answers.Deliver (left_here f).answer) i)
  taken_or_refused state new None is =
      subst (λ (b : Bool). let x : End = drawn q.words (left_here None).end in P (record { answer = Taken; end = migrated_if (b && is_open x.closing.state) q opening_shown arrival.remote x }) (with_taken i n frames)) (sym (migrates_is n reference frames g.payload arrival.remote e g.spells))
      (cases.takes opening_shown (payload_items frames g.payload g.spells) state new is)
  taken_or_refused state new (Some (closed_by_peer close)) is = drained_stays (migrates opening_shown arrival.remote e) (drawn q.words (left_here (Some (closed_by_peer close))).end) (cases.drains state new close is)
  taken_or_refused state new (Some (broke error)) is = refused_stays (migrates opening_shown arrival.remote e) (error_of (broke error)) (drawn q.words (left_here (Some (broke error))).end) (cases.refuses state new (broke error) is)
  taken_or_refused state new (Some too_many_pieces) is = refused_stays (migrates opening_shown arrival.remote e) (error_of too_many_pieces) (drawn q.words (left_here (Some too_many_pieces)).end) (cases.refuses state new too_many_pieces is)

  -- it doesn't open
  unopened : (b : Bool) → e.closing.state ≡ states.Open → P (unopened_in states.Open b arrival e) i
  unopened true state = cases.exhausts state
  unopened false state = cases.ignored drops.NotOpened

  open_tested : (b again : Bool) → e.closing.state ≡ states.Open → e.numbers.opened ≡ seen_after i.opened → is_again n i.opened ≡ again
      → P (opened_as (shown_if b n reference g.payload) q arrival e) (and_opened (shown_if b n reference g.payload) (answers.Deliver (opened_as (shown_if b n reference g.payload) q arrival e).answer) i)
  open_tested false again state w is = subst (λ (s : State). P (unopened_in s arrival.last arrival e) i) (sym state) (unopened arrival.last state)
  open_tested true true state w is =
      moved (λ (x : Outcome) (j : Intake). P (with_migration q opening_shown arrival.remote e (with_ids_drawn q x)) j) (λ (o : Outcome). and_opened (Some opening_shown) (answers.Deliver o.answer) i) (opened_to opening_shown arrival e) (dropped drops.Duplicate e) i
      (opened_tested opening_shown arrival e true states.Open (plain_number n reference g.near).0 (is_duplicate-is i.opened e.numbers.opened n w ∙ is) state)
      (came_tested n reference frames g.payload (answers.Deliver (dropped drops.Duplicate e).answer) i true is g.spells)
      (not_taken (dropped drops.Duplicate e) i refl refl (cases.ignored drops.Duplicate))
  open_tested true false state w is =
      let outcome = left_here (arrived e arrival.now n taken_here).fault in
      moved (λ (x : Outcome) (j : Intake). P (with_migration q opening_shown arrival.remote e (with_ids_drawn q x)) j) (λ (o : Outcome). and_opened (Some opening_shown) (answers.Deliver o.answer) i) (opened_to opening_shown arrival e) outcome (came_by false n frames (answers.Deliver outcome.answer) i)
      (opened_tested opening_shown arrival e false states.Open (plain_number n reference g.near).0 (is_duplicate-is i.opened e.numbers.opened n w ∙ is) state ∙ processed_given n reference frames g.payload arrival e g.near g.some g.spells)
      (came_tested n reference frames g.payload (answers.Deliver outcome.answer) i false is g.spells)
      (taken_or_refused state is (arrived e arrival.now n taken_here).fault refl)

  known_open : (away b : Bool) → e.closing.state ≡ states.Open → Knows e.numbers i
      → P (headed_if away b) (and_opened (shown_if (not away && (b && expands n reference (expected e.numbers))) n reference g.payload) (answers.Deliver (headed_if away b).answer) i)
  known_open true b state k = cases.ignored drops.Address
  known_open false true state k = open_tested (expands n reference (expected e.numbers)) (is_again n i.opened) state k.seen refl
  known_open false false state k = cases.ignored drops.UnknownId

  at_open : e.closing.state ≡ states.Open → Knows e.numbers i
      → P (headed (head e arrival.remote d) q e arrival d) (handed_open q e i d (headed (head e arrival.remote d) q e arrival d))
  at_open state k =
      moved P (handed_open q e i d) (headed (head e arrival.remote d) q e arrival d) (headed_if foreign knows_it)
      (and_opened (shown_if (not foreign && (knows_it && expands n reference (expected e.numbers))) n reference g.payload) (answers.Deliver (headed_if foreign knows_it).answer) i)
      headed_given (handed_given k) (known_open foreign knows_it state k)

  at_state : (s : State) → e.closing.state ≡ s → KnowsIn s e.numbers i → P (received_in s q e arrival d) (and_handed s (Some d) q (answers.Deliver (received_in s q e arrival d).answer) i)
  at_state states.Open state k = at_open state k
  at_state states.Closing state k = at_closing state
  at_state states.Drained state k = cases.ignored drops.Drained
  at_state states.Failed state k = cases.ignored drops.Failed

-- every delivery of a datagram that an honest end gave is one of the cases, at an end with this
-- policy, from its address and with its mark
pub by_arrival_by : (p q : Policy) (id : List ℕ) (n reference : ℕ) (frames : List FrameValue) (d : List ℕ) (g : IsGiven p id n reference frames d) (e : End) (arrival : Arrival) (i : Intake) (P : Outcome → Intake → Type 0)
    → CanOpen p q → IsLawful p → KnowsIn e.closing.state e.numbers i
    → ArrivalsBy q arrival.remote arrival.mark e arrival.now n frames i P
    → P (received q e arrival d) (and_handed e.closing.state (Some d) q (answers.Deliver (received q e arrival d).answer) i)
by_arrival_by p q id n reference frames d g e arrival i P mates lawful k cases = at_state p q id n reference frames d g mates lawful e arrival i P cases e.closing.state refl k

-- so it is at any end
pub by_arrival_from : (p q : Policy) (id : List ℕ) (n reference : ℕ) (frames : List FrameValue) (d : List ℕ) (g : IsGiven p id n reference frames d) (e : End) (arrival : Arrival) (i : Intake) (P : Outcome → Intake → Type 0)
    → CanOpen p q → IsLawful p → KnowsIn e.closing.state e.numbers i
    → ArrivalsFrom arrival.remote arrival.mark e arrival.now n frames i P
    → P (received q e arrival d) (and_handed e.closing.state (Some d) q (answers.Deliver (received q e arrival d).answer) i)
by_arrival_from p q id n reference frames d g e arrival i P mates lawful k cases = by_arrival_by p q id n reference frames d g e arrival i P mates lawful k (of_every q arrival.remote arrival.mark e arrival.now n frames i P cases)

-- so it is wherever it came from, of the frames that are taken then
pub by_arrival_with : (p q : Policy) (id : List ℕ) (n reference : ℕ) (frames : List FrameValue) (d : List ℕ) (g : IsGiven p id n reference frames d) (e : End) (arrival : Arrival) (i : Intake) (P : Outcome → Intake → Type 0)
    → CanOpen p q → IsLawful p → KnowsIn e.closing.state e.numbers i
    → ArrivalsWith arrival.mark e arrival.now n frames (frames_at (is_there arrival.remote e) frames) i P
    → P (received q e arrival d) (and_handed e.closing.state (Some d) q (answers.Deliver (received q e arrival d).answer) i)
by_arrival_with p q id n reference frames d g e arrival i P mates lawful k cases = by_arrival_from p q id n reference frames d g e arrival i P mates lawful k (of_anywhere arrival.remote arrival.mark e arrival.now n frames i P cases)

-- and whatever its mark
pub by_arrival : (p q : Policy) (id : List ℕ) (n reference : ℕ) (frames : List FrameValue) (d : List ℕ) (g : IsGiven p id n reference frames d) (e : End) (arrival : Arrival) (i : Intake) (P : Outcome → Intake → Type 0)
    → CanOpen p q → IsLawful p → KnowsIn e.closing.state e.numbers i
    → Arrivals e arrival.now n frames (frames_at (is_there arrival.remote e) frames) i P
    → P (received q e arrival d) (and_handed e.closing.state (Some d) q (answers.Deliver (received q e arrival d).answer) i)
by_arrival p q id n reference frames d g e arrival i P mates lawful k cases = by_arrival_with p q id n reference frames d g e arrival i P mates lawful k (of_any arrival.mark e arrival.now n frames (frames_at (is_there arrival.remote e) frames) i P cases)
