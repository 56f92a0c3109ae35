-- An end that acknowledges a number that it didn't take.
use Rattle.std.proofs.Common.{◌≡◌, ◌-◌, ℕ, Bool, true, false, ◌&&◌, ◌||◌, List, [], ◌∷◌, ◌++◌, length, take, drop, None, refl, sym, ap, ◌∙◌, subst, inl, inr, arith, append_assoc, length-append}
use Rattle.std.specs.Prelude.{slice_index, nat_le}
use Rattle.std.proofs.lemmas.Bool.{and_parts, leb-true}
use Rattle.std.proofs.lemmas.List.{append-nil, take_at, drop_at}
use Rattle.quic_wire.specs.Value.{FrameValue, AckValue, ack, path_challenge}
use Rattle.quic_wire.specs.Grammar.{Payload}
use Rattle.quic_wire.specs.Items.{items}
use Rattle.quic_wire.specs.Writing.{Fits, spelling}
use Rattle.quic_wire.proofs.FrameWritten.{spelling_form}
use Rattle.quic_packet.specs.Datagram.{sent}
use Rattle.quic_machine.specs.declared.answers.Transmit.{Transmit}
use Rattle.quic_machine.specs.declared.answers.DropReason.TheVariants as drops
use Rattle.quic_machine.specs.declared.answers.Received.TheVariants as receives
use Rattle.quic_machine.specs.declared.run.Call.{Call}
use Rattle.quic_machine.specs.declared.run.Call.TheVariants as calls
use Rattle.quic_machine.specs.declared.run.Answer.{Answer}
use Rattle.quic_machine.specs.declared.run.Answer.TheVariants as answers
use Rattle.quic_headline.specs.Runs.{In, IsTaken, packet_of, frames_of, names}
use Rattle.quic_headline.specs.LoneAcks.{WasTaken, AcksOnly, AcksTaken}
use Rattle.quic_headline.proofs.Packets.Delivered.{frames_of_payload}
use Rattle.quic_worked.specs.Worked.{client_id, delivery, hello_datagram, hello_opening}
use Rattle.quic_worked.specs.Acknowledged.{ack_at_once, ack_of_third, ack_behind_challenge, third_ack}
use Rattle.quic_worked.specs.Kept.{polls_once, shows_payload, shows_it, gave_one, hands_and_polls, taken_and_gave, dropped_and_gave}

-- ---- the payload that a datagram shows

-- its last byte says how long it is
abbrev count_of : List ℕ → ℕ
count_of d = slice_index (drop (length d - 1) d) 0

abbrev shown : List ℕ → List ℕ
shown d = take (count_of d) (drop (length d - 1 - count_of d) d)

-- what ends so shows it
ends_with : (xs payload : List ℕ) → shown (xs ++ (payload ++ length payload ∷ [])) ≡ payload
ends_with xs payload =
    let n : ℕ = length payload in
    let d : List ℕ = xs ++ (payload ++ n ∷ []) in
    let all = length-append xs (payload ++ n ∷ []) in
    let behind = length-append payload (n ∷ []) in
    let front = length-append xs payload in
    let last : length d - 1 ≡ length (xs ++ payload) = omega arith in
    let count : count_of d ≡ n = ap (λ (k : ℕ). slice_index (drop k d) 0) last ∙ ap (λ (ys : List ℕ). slice_index (drop (length (xs ++ payload)) ys) 0) (sym (append_assoc xs payload (n ∷ [])))
    ∙ ap (λ (ys : List ℕ). slice_index ys 0) (drop_at (xs ++ payload) (n ∷ []) (length (xs ++ payload)) refl) in
    let before : length d - 1 - n ≡ length xs = omega arith in
    ap (λ (k : ℕ). take k (drop (length d - 1 - k) d)) count ∙ ap (λ (k : ℕ). take n (drop k d)) before ∙ ap (take n) (drop_at xs (payload ++ n ∷ []) (length xs) refl) ∙ take_at payload (n ∷ []) n refl

-- so does each datagram of such a key
payload_shown : (n reference : ℕ) (id payload : List ℕ) → shown (sent shows_payload.header shows_payload.packet n reference id payload) ≡ payload
payload_shown n reference id payload = ap shown (sym (append_assoc (_ ∷ id) _ (payload ++ length payload ∷ []))) ∙ ends_with ((_ ∷ id) ++ _) payload

-- ---- what a reader finds

-- a frame, and then what is spelled behind it
pub before : (f : FrameValue) (fs : List FrameValue) (rest : List ℕ) → Fits f → Payload fs rest → Payload (f ∷ fs) (spelling f ++ rest)
before f fs rest fits spells = (spelling f, rest, spelling_form f rest fits, spells, refl)

-- ACK of number 0 alone
abbrev zero_ack : AckValue
zero_ack = record { largest = 0; delay = 0; ranges = (0, 0) ∷ []; ecn = None }

zero_spelled : Payload (ack zero_ack ∷ []) ack_at_once
zero_spelled = before (ack zero_ack) [] [] (omega arith, omega arith, tt, (omega arith, refl, tt)) refl

third_spelled : Payload (ack third_ack ∷ []) ack_of_third
third_spelled = before (ack third_ack) [] [] (omega arith, omega arith, tt, (omega arith, refl, tt)) refl

-- eight bytes of path validation
abbrev challenge : FrameValue
challenge = path_challenge (0 ∷ 0 ∷ 0 ∷ 0 ∷ 0 ∷ 0 ∷ 0 ∷ 0 ∷ [])

behind_spelled : Payload (challenge ∷ ack third_ack ∷ []) ack_behind_challenge
behind_spelled = before challenge (ack third_ack ∷ []) ack_of_third refl third_spelled

-- ---- what is acknowledged

-- a payload with such a frame acknowledges what that names
names_one : (T : ℕ → Type 0) → ((k : ℕ) → T k → ⊥) → (fs : List FrameValue) (payload : List ℕ) → Payload fs payload → (a : AckValue) (k : ℕ) → In (ack a) fs → names a k ≡ true → AcksOnly shows_payload T (sent shows_payload.header shows_payload.packet 0 0 client_id payload) → ⊥
names_one T none fs payload spells a k among named only = none k (only.named a k (subst (In (ack a)) (sym found) among) named)
  where
    same : only.payload ≡ payload
    same = sym (payload_shown only.number only.reference only.id only.payload) ∙ ap shown (sym only.is) ∙ payload_shown 0 0 client_id payload

    found : frames_of (items only.payload) ≡ fs
    found = ap (λ (bytes : List ℕ). frames_of (items bytes)) same ∙ frames_of_payload fs payload spells

-- the one datagram was given by the one call
given_one : (d : List ℕ) (given more : List (List ℕ)) → d ∷ [] ≡ given ++ more → more ≡ [] → In d given
given_one d given more is none = subst (In d) (is ∙ ap (λ (ds : List (List ℕ)). given ++ ds) none ∙ append-nil given) (inl refl)

-- nothing was taken
none_taken : (k : ℕ) → IsTaken [] k → ⊥
none_taken k t = t.was_taken

pub untaken_not : (now : ℕ) (t : Transmit) → AcksTaken shows_payload [] [] (polls_once now) (gave_one t) (shows_it ack_of_third) → ⊥
untaken_not now t g = names_one (WasTaken shows_payload [] []) none_taken (ack third_ack ∷ []) ack_of_third third_spelled third_ack 3 (inl refl) refl (g.4 _ (given_one _ g.0 g.1 g.2 g.5))

pub behind_not : (now : ℕ) (t : Transmit) → AcksTaken shows_payload [] [] (polls_once now) (gave_one t) (shows_it ack_behind_challenge) → ⊥
behind_not now t g = names_one (WasTaken shows_payload [] []) none_taken (challenge ∷ ack third_ack ∷ []) ack_behind_challenge behind_spelled third_ack 3 (inr (inl refl)) refl (g.4 _ (given_one _ g.0 g.1 g.2 g.5))

none_given : (ds : List (List ℕ)) → length ds ≡ 0 → ds ≡ []
none_given [] is = refl
none_given (d ∷ ds) is = absurd (omega arith)

pub dropped_not : (now : ℕ) (t : Transmit) → AcksTaken shows_payload (hello_datagram ∷ []) [] (hands_and_polls now) (dropped_and_gave t) (shows_it ack_at_once) → ⊥
dropped_not now t g = names_one (WasTaken shows_payload (hello_datagram ∷ []) dropped) none_taken (ack zero_ack ∷ []) ack_at_once zero_spelled zero_ack 0 (inl refl) refl (later.4 _ (given_one _ later.0 later.1 (all ∙ later.2) later.5))
  where
    dropped : List (Call × Answer)
    dropped = (calls.Deliver delivery, answers.Deliver (receives.Dropped drops.KeyPhase)) ∷ []

    later : AcksTaken shows_payload (hello_datagram ∷ []) dropped (polls_once now) (gave_one t) g.1
    later = g.5

    all : shows_it ack_at_once ≡ g.1
    all = g.2 ∙ ap (λ (ds : List (List ℕ)). ds ++ g.1) (none_given g.0 g.3)

-- ---- a number that was taken

-- it names no other
names_zero : (k : ℕ) → names zero_ack k ≡ true → 0 ≡ k
names_zero k is = (let most = leb-true k 0 (and_parts (nat_le 0 k) (nat_le k 0) (alone (nat_le 0 k && nat_le k 0) is)).1 in omega arith)
  where
    alone : (b : Bool) → b || false ≡ true → b ≡ true
    alone true is = refl
    alone false is = is

pub taken_acks : (now : ℕ) (t : Transmit) → AcksTaken shows_payload (hello_datagram ∷ []) [] (hands_and_polls now) (taken_and_gave t) (shows_it ack_at_once)
taken_acks now t = ([], shows_it ack_at_once, refl, refl, (λ d i. absurd i), (shows_it ack_at_once, [], refl, refl, one, refl))
  where
    taken : List (Call × Answer)
    taken = (calls.Deliver delivery, answers.Deliver receives.Taken) ∷ []

    -- the datagram opens to number 0
    first : (k : ℕ) → 0 ≡ k → WasTaken shows_payload (hello_datagram ∷ []) taken k
    first k is = record { packet = packet_of hello_opening; was_taken = inl refl; is = is }

    named : (a : AckValue) (k : ℕ) → In (ack a) (ack zero_ack ∷ []) → names a k ≡ true → WasTaken shows_payload (hello_datagram ∷ []) taken k
    named a k (inl same) is = (let value : a ≡ zero_ack = cc in first k (names_zero k (subst (λ (b : AckValue). names b k ≡ true) value is)))
    named a k (inr none) is = absurd none

    only : AcksOnly shows_payload (WasTaken shows_payload (hello_datagram ∷ []) taken) (sent shows_payload.header shows_payload.packet 0 0 client_id ack_at_once)
    only = record {
      number = 0;
      reference = 0;
      id = client_id;
      payload = ack_at_once;
      is = refl;
      named = λ a k i is. named a k (subst (In (ack a)) (frames_of_payload (ack zero_ack ∷ []) ack_at_once zero_spelled) i) is;
    }

    one : (d : List ℕ) → In d (shows_it ack_at_once) → AcksOnly shows_payload (WasTaken shows_payload (hello_datagram ∷ []) taken) d
    one d (inl is) = subst (AcksOnly shows_payload (WasTaken shows_payload (hello_datagram ∷ []) taken)) (sym is) only
    one d (inr none) = absurd none
