-- What a datagram opens to by its key alone, beside what an end that has some ids makes of it.
use Rattle.std.proofs.Common.{◌≡◌, ℕ, ◌+◌, Bool, true, false, ◌||◌, cond, List, [], ◌∷◌, length, take, Option, Some, None, Result, Ok, Err, refl, sym, ap, ◌∙◌}
use Rattle.std.specs.Prelude.{not, nat_le, nat_lt, if◌then◌else◌}
use Rattle.std.specs.Cmp.Lexicographic.{bytes_decides}
use Rattle.quic_packet.specs.Header.{key_phase}
use Rattle.quic_packet.specs.Datagram.{Opening}
use Rattle.quic_packet.specs.Destination.{decoded, fixed_length_id, is_known, accepted}
use Rattle.quic_packet.specs.declared.packet.HeaderError.{HeaderError}
use Rattle.quic_packet.specs.declared.packet.HeaderError.TheVariants.{TooShort, NotShort, FixedBit, UnknownId}
use Rattle.quic_wire.specs.Items.{items}
use Rattle.quic_recovery_core.specs.Duplicates.{is_duplicate}
use Rattle.quic_wire_core.specs.declared.shared.EcnCodepoint.{EcnCodepoint}
use Rattle.quic_spaces.specs.Numbers.{expected, number_opened}
use Rattle.quic_machine.specs.Arrival.{Arrival}
use Rattle.quic_machine.specs.Closing.{ticked}
use Rattle.quic_machine.specs.declared.answers.State.{State}
use Rattle.quic_machine.specs.declared.answers.State.TheVariants as states
use Rattle.quic_machine.specs.declared.answers.DropReason.{DropReason}
use Rattle.quic_machine.specs.declared.answers.DropReason.TheVariants as drops
use Rattle.quic_machine.specs.declared.run.Answer.TheVariants as answers
use Rattle.quic_machine.specs.Ids.{known}
use Rattle.quic_machine.specs.Policy.{Policy}
use Rattle.quic_machine.specs.End.{End, with_closing, with_numbers}
use Rattle.quic_machine.specs.Migration.{is_foreign}
use Rattle.quic_machine.specs.Opens.{own_id_length, drop_of, with_drop, head, opens_behind, opens}
use Rattle.quic_machine.specs.Receive.{Fault, asks_in, is_urged, take_payload, items_taken, dropped, ends_as, by_state, opened_as, opening, headed, broke, too_many_pieces, closed_by_peer, unopened_in}
use Rattle.quic_headline.specs.Runs.{Packet, expected_behind, destination, opens_by_key, is_elsewhere, came_open}

-- ---- the header

-- what the header of a datagram says at an end that has these ids
abbrev pub header : List (List ℕ) → List ℕ → Result (List ℕ) HeaderError
header ids d = decoded (fixed_length_id own_id_length) ids d

-- an id is known where it is the only one
pub known_alone : (id : List ℕ) → is_known id (id ∷ []) ≡ true
known_alone id = ap (λ (b : Bool). b || false) ((bytes_decides id id).1 refl)

-- what a header says, by what is said of it where its id is the only one that is known, and by
-- whether that is one of others
abbrev pub by_id : Bool → Result (List ℕ) HeaderError → Result (List ℕ) HeaderError
by_id b (Err error) = Err error
by_id b (Ok id) = cond {A = Result (List ℕ) HeaderError} b (Ok id) (Err UnknownId)

-- what is said of one with this id, by what is tested
abbrev tested : List (List ℕ) → List ℕ → Bool → Bool → Bool → Result (List ℕ) HeaderError
tested known id short high low = if short then Err TooShort else (if high then Err NotShort else (if low then Err FixedBit else (if is_known id known then Ok id else Err UnknownId)))

tested_by_id : (ids : List (List ℕ)) (id : List ℕ) (short high low : Bool) → tested ids id short high low ≡ by_id (is_known id ids) (tested (id ∷ []) id short high low)
tested_by_id ids id true high low = refl
tested_by_id ids id false true low = refl
tested_by_id ids id false false true = refl
tested_by_id ids id false false false = ap (λ (b : Bool). by_id (is_known id ids) (cond {A = Result (List ℕ) HeaderError} b (Ok id) (Err UnknownId))) (sym (known_alone id))

pub header_by_id : (ids : List (List ℕ)) (d : List ℕ) → header ids d ≡ by_id (is_known (destination d) ids) (header (destination d ∷ []) d)
header_by_id ids [] = refl
header_by_id ids (first ∷ rest) = go (nat_le own_id_length (length rest))
  where
    go : (b : Bool) → accepted ids first rest (if b then Some (take own_id_length rest) else None) ≡ by_id (is_known (take own_id_length rest) ids) (accepted (take own_id_length rest ∷ []) first rest (if b then Some (take own_id_length rest) else None))
    go true = tested_by_id ids (take own_id_length rest) (nat_lt (length rest) (length (take own_id_length rest) + 20)) (nat_le 128 first) (nat_lt first 64)
    go false = refl

-- a header that is for an id was sent to that one
tested_for : (ids : List (List ℕ)) (id other : List ℕ) (short high low known : Bool) → (if short then Err TooShort else (if high then Err NotShort else (if low then Err FixedBit else (if known then Ok id else Err UnknownId)))) ≡ Ok other → id ≡ other
tested_for ids id other true high low known is = cc
tested_for ids id other false true low known is = cc
tested_for ids id other false false true known is = cc
tested_for ids id other false false false false is = cc
tested_for ids id other false false false true is = cc

pub header_for : (ids : List (List ℕ)) (d id : List ℕ) → header ids d ≡ Ok id → destination d ≡ id
header_for ids [] id is = cc
header_for ids (first ∷ rest) id is = go (nat_le own_id_length (length rest)) is
  where
    go : (b : Bool) → accepted ids first rest (if b then Some (take own_id_length rest) else None) ≡ Ok id → take own_id_length rest ≡ id
    go true e = tested_for ids (take own_id_length rest) id (nat_lt (length rest) (length (take own_id_length rest) + 20)) (nat_le 128 first) (nat_lt first 64) (is_known (take own_id_length rest) ids) e
    go false e = cc

-- ---- what opens

-- nothing, where it doesn't count
abbrev pub counted : Bool → Option Opening → Option Opening
counted b o = if b then o else None

-- what a datagram opens to at an end that has some ids is what it does by its key, where its id is
-- one of them
pub opens_by_id : (p : Policy) (ids : List (List ℕ)) (x : ℕ) (d : List ℕ) → opens p ids x d ≡ counted (is_known (destination d) ids) (opens_by_key p x d)
opens_by_id p ids x d = ap (λ (r : Result (List ℕ) HeaderError). opens_behind r p x d) (header_by_id ids d) ∙ go (is_known (destination d) ids) (header (destination d ∷ []) d)
  where
    go : (b : Bool) (r : Result (List ℕ) HeaderError) → opens_behind (by_id b r) p x d ≡ counted b (opens_behind r p x d)
    go true (Err error) = refl
    go false (Err error) = refl
    go true (Ok id) = refl
    go false (Ok id) = refl

-- what it opens to there, where it came from an address
abbrev pub opens_from : Policy → End → ℕ → ℕ → List ℕ → Option Opening
opens_from p e remote x d = opens_behind (head e remote d) p x d

-- a header that doesn't say for which id its datagram is opens nothing, whatever it is dropped for
opens_dropped : (r : Result (List ℕ) HeaderError) (p : Policy) (x : ℕ) (d : List ℕ) → opens_behind (with_drop r) p x d ≡ opens_behind r p x d
opens_dropped (Err error) p x d = refl
opens_dropped (Ok id) p x d = refl

-- nothing, where the end takes nothing from that address
pub opens_from_is : (p : Policy) (e : End) (remote x : ℕ) (d : List ℕ) → opens_from p e remote x d ≡ counted (not (is_foreign remote e)) (opens p (known e.ids) x d)
opens_from_is p e remote x d = go (is_foreign remote e)
  where
    go : (b : Bool) → opens_behind (if b then Err drops.Address else with_drop (header (known e.ids) d)) p x d ≡ counted (not b) (opens p (known e.ids) x d)
    go true = refl
    go false = opens_dropped (header (known e.ids) d) p x d

-- ---- what is answered

-- a packet that opened, or didn't, isn't answered to be sent to another id
ends_here : (fault : Option Fault) (asking urged : Bool) (n : ℕ) (mark : Option EcnCodepoint) (e : End) → is_elsewhere (answers.Deliver (ends_as fault asking urged n mark e).answer) ≡ false
ends_here None asking urged n mark e = refl
ends_here (Some (closed_by_peer close)) asking urged n mark e = refl
ends_here (Some (broke error)) asking urged n mark e = refl
ends_here (Some too_many_pieces) asking urged n mark e = refl

state_here : (s : State) (o : Opening) (arrival : Arrival) (e : End) → is_elsewhere (answers.Deliver (by_state s o arrival e).answer) ≡ false
state_here states.Open o arrival e =
    let begins : End = with_closing e (ticked e.closing arrival.now) in
    let taken = items_taken o arrival e in
    let asking = asks_in (items o.payload) in
    let p = take_payload o.first taken begins in
    ends_here p.fault asking (is_urged arrival.mark asking taken begins) o.number arrival.mark p.end
state_here states.Closing o arrival e = refl
state_here states.Drained o arrival e = refl
state_here states.Failed o arrival e = refl

unopened_here : (s : State) (b : Bool) (arrival : Arrival) (e : End) → is_elsewhere (answers.Deliver (unopened_in s b arrival e).answer) ≡ false
unopened_here states.Open true arrival e = refl
unopened_here states.Open false arrival e = refl
unopened_here states.Closing b arrival e = refl
unopened_here states.Drained b arrival e = refl
unopened_here states.Failed b arrival e = refl

pub opened_here : (o : Option Opening) (p : Policy) (arrival : Arrival) (e : End) → is_elsewhere (answers.Deliver (opened_as o p arrival e).answer) ≡ false
opened_here None p arrival e = unopened_here e.closing.state arrival.last arrival e
opened_here (Some o) p arrival e = go (key_phase o.first) (is_duplicate e.numbers.opened o.number)
  where
    noted : End
    noted = with_numbers e (number_opened e.numbers o.number)

    go : (phase again : Bool) → is_elsewhere (answers.Deliver (if phase then dropped drops.KeyPhase e else (if again then dropped drops.Duplicate e else by_state e.closing.state o arrival noted)).answer) ≡ false
    go true again = refl
    go false true = refl
    go false false = state_here e.closing.state o arrival noted

-- what is left of an opening by what an end answers of such a header
abbrev left_if : Bool → Option Opening → Option Opening
left_if b o = if b then None else o

abbrev left_of : Policy → End → Arrival → List ℕ → Result (List ℕ) DropReason → Option Opening → Option Opening
left_of p e arrival d r o = left_if (is_elsewhere (answers.Deliver (headed r p e arrival d).answer)) o

none_left : (b : Bool) → left_if b None ≡ None
none_left true = refl
none_left false = refl

-- what an open end is handed opens to what it does there, where it expects the number that the
-- lists say: it answers of all others that they have another id, or came from where it takes nothing,
-- or they open to nothing
pub came_open_is : (p : Policy) (e : End) (arrival : Arrival) (d : List ℕ) (packets : List Packet) → expected e.numbers ≡ expected_behind packets
    → came_open p packets (answers.Deliver (headed (head e arrival.remote d) p e arrival d).answer) d ≡ opens_from p e arrival.remote (expected e.numbers) d
came_open_is p e arrival d packets expects =
    ap (λ (n : ℕ). left_of p e arrival d (head e arrival.remote d) (opens_by_key p n d)) (sym expects)
    ∙ foreign (is_foreign arrival.remote e)
  where
    go : (b : Bool) (r : Result (List ℕ) HeaderError) → left_of p e arrival d (with_drop (by_id b r)) (opens_behind r p (expected e.numbers) d) ≡ opens_behind (with_drop (by_id b r)) p (expected e.numbers) d
    go b (Err error) = none_left (is_elsewhere (answers.Deliver (headed (Err (drop_of error)) p e arrival d).answer))
    go true (Ok id) = ap (λ (b : Bool). left_if b (opens_behind {X = HeaderError} (Ok id) p (expected e.numbers) d)) (opened_here (opening p e d) p arrival e)
    go false (Ok id) = refl

    foreign : (b : Bool) → (let r : Result (List ℕ) DropReason = if b then Err drops.Address else with_drop (header (known e.ids) d) in left_of p e arrival d r (opens_by_key p (expected e.numbers) d) ≡ opens_behind r p (expected e.numbers) d)
    foreign true = refl
    foreign false =
        ap (λ (r : Result (List ℕ) HeaderError). left_of p e arrival d (with_drop r) (opens_by_key p (expected e.numbers) d)) (header_by_id (known e.ids) d)
        ∙ go (is_known (destination d) (known e.ids)) (header (destination d ∷ []) d)
        ∙ ap (λ (r : Result (List ℕ) HeaderError). opens_behind (with_drop r) p (expected e.numbers) d) (sym (header_by_id (known e.ids) d))
