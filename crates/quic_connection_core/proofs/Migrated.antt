-- Which path an end has behind a packet, and how many words it has drawn where its peer moved.
use Rattle.std.proofs.Common.{◌≡◌, ℕ, ◌+◌, ◌<◌, ◌≤◌, Bool, true, false, cond, List, [], ◌∷◌, length, Option, Some, None, Result, Ok, Err, refl, sym, ap, ◌∙◌, subst, arith}
use Rattle.std.specs.Prelude.{if◌then◌else◌, nat_lt, not, ◌==◌, ◌||◌}
use Rattle.std.specs.declared.ops.Range.{Range}
use Rattle.std.proofs.lemmas.Bool.{eq-eqb, ne_eqb}
use Rattle.quic_wire_core.specs.declared.shared.EcnCodepoint.{EcnCodepoint}
use Rattle.quic_wire.specs.Value.{FrameValue, path_challenge, path_response}
use Rattle.quic_wire.specs.Items.{items, pads, without_padding}
use Rattle.quic_wire.specs.declared.frame.InvalidFrame.{InvalidFrame}
use Rattle.quic_packet.specs.Header.{key_phase, reserved_bits}
use Rattle.quic_packet.specs.Datagram.{Opening}
use Rattle.quic_paths.specs.Paths.{is_asked}
use Rattle.quic_recovery_core.specs.Duplicates.{is_duplicate}
use Rattle.quic_spaces.specs.Numbers.{Numbers, expected, after_greatest, greatest_of, number_opened, number_taken}
use Rattle.quic_machine.specs.declared.answers.State.{State}
use Rattle.quic_machine.specs.declared.answers.State.TheVariants as states
use Rattle.quic_machine.specs.declared.answers.DropReason.TheVariants as drops
use Rattle.quic_machine.specs.declared.answers.NextIdError.{NextIdError}
use Rattle.quic_machine.specs.Arrival.{Arrival}
use Rattle.quic_machine.specs.Policy.{Policy}
use Rattle.quic_machine.specs.Ids.{destination, next_used, retires_for_next}
use Rattle.quic_machine.specs.IdFrames.{drawn, retiring, next_id_allowed, next_id_answer, next_id_taken}
use Rattle.quic_machine.specs.MessageCalls.{most_message}
use Rattle.quic_machine.specs.Sizes.{without_longer_if, shortened}
use Rattle.quic_machine.specs.Closing.{Closing, ticked}
use Rattle.quic_congestion.specs.Pacer.{Pacing, new_pacing}
use Rattle.quic_time.specs.Rtt.{best_rtt}
use Rattle.quic_machine.specs.Parts.{Path, Validation, current_mtu}
use Rattle.quic_machine.specs.Control.{with_pacing}
use Rattle.quic_machine.specs.End.{End, with_closing, with_numbers, with_ids, words_drawn}
use Rattle.quic_machine.specs.Steps as steps
use Rattle.quic_machine.specs.Validation.{word_of, validated_if, challenged_anew, most_challenges}
use Rattle.quic_machine.specs.Migration.{with_path, path_to, next_id_if, next_id_if_allowed, path_item_taken, path_frames_taken, migrated, has_moved, pacing_moved, repaced}
use Rattle.quic_machine.specs.Receive.{Fault, closed_by_peer, violation, is_empty, is_taken, dropped, take_frame, take_payload, take_items, asks_in, is_urged, ends_as, items_taken, by_state, opened_to, unopened_in, drawn_if}
use Rattle.quic_connection_parts.proofs.Unpadded.{pads_is}
use Rattle.quic_machine.specs.FrameCases.{Settling, acked_keeps, frame_keeps, frame_leaves, apart_leaves, items_keep}

-- an end that has the path that another had hasn't moved, and one that has the next has
pub unmoved : (before after : End) → after.path.generation ≡ before.path.generation → has_moved before after ≡ false
unmoved before after same = ap not (eq-eqb after.path.generation before.path.generation same)

pub moved_on : (before after : End) → after.path.generation ≡ before.path.generation + 1 → has_moved before after ≡ true
moved_on before after next = ap not (ne_eqb after.path.generation before.path.generation (λ same. omega (arith, next, same)))

-- ---- a packet that isn't of another path

module _ (e : End) where
  -- the path is the same
  abbrev Same : End → Type 0
  Same x = x.path.generation ≡ e.path.generation

  settling : Settling Same
  settling (steps.known n) x i = i
  settling s x i = i

  frame : (f : FrameValue) (x : End) → Same x → Same (take_frame f x).end
  frame = frame_keeps Same (record {
    ack = λ rises a x i. acked_keeps Same settling rises a _ i;
    on_streams = λ f x on i. frame_leaves Same f x on (λ t. i);
    message = λ m x i. i;
    apart = λ f x may i. apart_leaves Same f x may (λ c. i) (λ c most. i);
  })

  payload : (first : ℕ) (is : List (Result FrameValue InvalidFrame)) (x : End) → Same x → Same (take_payload first is x).end
  payload first is x i = go (not (reserved_bits first == 0) || is_empty is) (items_keep Same frame is x i)
    where
      go : (b : Bool) → Same (take_items is x).end → Same (if b then record { end = x; fault = Some violation } else take_items is x).end
      go true kept = i
      go false kept = kept

  ends : (o : Option Fault) (asks urged : Bool) (n : ℕ) (mark : Option EcnCodepoint) (x : End) → Same x → Same (ends_as o asks urged n mark x).end
  ends None asks urged n mark x i = i
  ends (Some (closed_by_peer close)) asks urged n mark x i = i
  ends (Some fault) asks urged n mark x i = i

pub opened_stays : (o : Opening) (arrival : Arrival) (e : End) → (opened_to o arrival e).end.path.generation ≡ e.path.generation
opened_stays o arrival e = by (key_phase o.first) (is_duplicate e.numbers.opened o.number)
  where
    x : End
    x = with_numbers e (number_opened e.numbers o.number)

    in_state : (s : State) → (by_state s o arrival x).end.path.generation ≡ e.path.generation
    in_state states.Open = ends e _ _ _ o.number arrival.mark _ (payload e o.first (items_taken o arrival x) _ refl)
    in_state states.Closing = refl
    in_state states.Drained = refl
    in_state states.Failed = refl

    by : (p d : Bool) → (if p then dropped drops.KeyPhase e else (if d then dropped drops.Duplicate e else by_state e.closing.state o arrival x)).end.path.generation ≡ e.path.generation
    by true d = refl
    by false true = refl
    by false false = in_state e.closing.state

pub unopened_stays : (s : State) (b : Bool) (arrival : Arrival) (e : End) → (unopened_in s b arrival e).end.path.generation ≡ e.path.generation
unopened_stays states.Open true arrival e = refl
unopened_stays states.Open false arrival e = refl
unopened_stays states.Closing b arrival e = refl
unopened_stays states.Drained b arrival e = refl
unopened_stays states.Failed b arrival e = refl

-- ids that are drawn are of no path
pub drawn_stays : (b : Bool) (p : Policy) (e : End) → (drawn_if b p e).path.generation ≡ e.path.generation
drawn_stays true p e = refl
drawn_stays false p e = refl

-- ---- the number of a packet that was taken

-- the one that is expected then lies above it
expected_above : (numbers : Numbers) (n : ℕ) → n < expected (number_taken numbers n)
expected_above numbers n = go numbers.taken
  where
    go : (o : Option ℕ) → n < after_greatest (Some (greatest_of o n))
    go None = omega arith
    go (Some m) = omega arith

ends_above : (o : Option Fault) (asks urged : Bool) (n : ℕ) (mark : Option EcnCodepoint) (x : End) → is_taken (ends_as o asks urged n mark x).answer ≡ true → n < expected (ends_as o asks urged n mark x).end.numbers
ends_above None asks urged n mark x taken = expected_above x.numbers n
ends_above (Some (closed_by_peer close)) asks urged n mark x taken = expected_above x.numbers n
ends_above (Some fault) asks urged n mark x taken = absurd cc

pub opened_above : (o : Opening) (arrival : Arrival) (e : End) → is_taken (opened_to o arrival e).answer ≡ true → o.number < expected (opened_to o arrival e).end.numbers
opened_above o arrival e = by (key_phase o.first) (is_duplicate e.numbers.opened o.number)
  where
    x : End
    x = with_numbers e (number_opened e.numbers o.number)

    in_state : (s : State) → is_taken (by_state s o arrival x).answer ≡ true → o.number < expected (by_state s o arrival x).end.numbers
    in_state states.Open taken =
        let y : End = with_closing x (ticked x.closing arrival.now) in
        let asks = asks_in (items o.payload) in
        let is = items_taken o arrival x in
        ends_above (take_payload o.first is y).fault asks (is_urged arrival.mark asks is y) o.number arrival.mark (take_payload o.first is y).end taken
    in_state states.Closing taken = absurd cc
    in_state states.Drained taken = absurd cc
    in_state states.Failed taken = absurd cc

    by : (p d : Bool) → is_taken (if p then dropped drops.KeyPhase e else (if d then dropped drops.Duplicate e else by_state e.closing.state o arrival x)).answer ≡ true
        → o.number < expected (if p then dropped drops.KeyPhase e else (if d then dropped drops.Duplicate e else by_state e.closing.state o arrival x)).end.numbers
    by true d taken = absurd cc
    by false true taken = absurd cc
    by false false taken = in_state e.closing.state taken

-- ---- another path

-- what the next id leaves alone
pub record Rests (e x : End) : Type 0 where
  pub path : x.path ≡ e.path
  pub numbers : x.numbers ≡ e.numbers
  pub closing : x.closing ≡ e.closing
  pub validation : x.validation ≡ e.validation
  pub words : words_drawn x ≡ words_drawn e

rests : (e : End) → Rests e e
rests e = record { path = refl; numbers = refl; closing = refl; validation = refl; words = refl }

pub next_rests : (e : End) → Rests e (next_id_if_allowed e)
next_rests e = go (next_id_answer e)
  where
    lasts : (r : Range ℕ) (m : Option ℕ) → Rests e (without_longer_if m (retiring r (with_ids e (next_used e.ids))))
    lasts r None = record { path = refl; numbers = refl; closing = refl; validation = refl; words = refl }
    lasts r (Some most) = record { path = refl; numbers = refl; closing = refl; validation = refl; words = refl }

    fits : (r : Range ℕ) (b : Bool) → Rests e (shortened b (retiring r (with_ids e (next_used e.ids))))
    fits r true = lasts r (most_message (retiring r (with_ids e (next_used e.ids))))
    fits r false = record { path = refl; numbers = refl; closing = refl; validation = refl; words = refl }

    used : (o : Option (Range ℕ)) → Rests e (next_id_taken o e)
    used None = rests e
    used (Some r) = fits r (nat_lt (length (destination e.ids)) (length (destination (next_used e.ids))))

    go : (r : Result (Unit {0}) NextIdError) → Rests e (next_id_if r e)
    go (Ok done) = used (retires_for_next e.ids)
    go (Err error) = rests e

-- frames of path validation are of no other path, and draw no word
item_generation : (i : Result FrameValue InvalidFrame) (e : End) → (path_item_taken i e).path.generation ≡ e.path.generation
item_generation (Ok (path_challenge token)) e = refl
item_generation (Ok (path_response token)) e = go (is_asked e.validation.challenge (word_of token))
  where
    go : (b : Bool) → (validated_if b e).path.generation ≡ e.path.generation
    go true = refl
    go false = refl
item_generation i e = refl

frames_generation : (is : List (Result FrameValue InvalidFrame)) (e : End) → (path_frames_taken is e).path.generation ≡ e.path.generation
frames_generation [] e = refl
frames_generation (i ∷ is) e = frames_generation is (path_item_taken i e) ∙ item_generation i e

item_words : (i : Result FrameValue InvalidFrame) (e : End) → words_drawn (path_item_taken i e) ≡ words_drawn e
item_words (Ok (path_challenge token)) e = refl
item_words (Ok (path_response token)) e = go (is_asked e.validation.challenge (word_of token))
  where
    go : (b : Bool) → words_drawn (validated_if b e) ≡ words_drawn e
    go true = refl
    go false = refl
item_words i e = refl

pub frames_words : (is : List (Result FrameValue InvalidFrame)) (e : End) → words_drawn (path_frames_taken is e) ≡ words_drawn e
frames_words [] e = refl
frames_words (i ∷ is) e = frames_words is (path_item_taken i e) ∙ item_words i e

-- PADDING is none of them
frames_but : (i : Result FrameValue InvalidFrame) (is others : List (Result FrameValue InvalidFrame)) (b : Bool) → pads i ≡ b → ((e : End) → path_frames_taken others e ≡ path_frames_taken is e) → (e : End) → path_frames_taken (cond (not b) (i ∷ others) others) e ≡ path_frames_taken (i ∷ is) e
frames_but i is others true so same e = same e ∙ ap (λ (j : Result FrameValue InvalidFrame). path_frames_taken (j ∷ is) e) (sym (pads_is i so))
frames_but i is others false so same e = same (path_item_taken i e)

pub frames_unpadded : (is : List (Result FrameValue InvalidFrame)) (e : End) → path_frames_taken (without_padding is) e ≡ path_frames_taken is e
unfolding without_padding
frames_unpadded [] e = refl
frames_unpadded (i ∷ is) e = frames_but i is (without_padding is) (pads i) refl (λ x. frames_unpadded is x) e

pub frames_step : (i : Result FrameValue InvalidFrame) (is all : List (Result FrameValue InvalidFrame)) (e f : End) → all ≡ i ∷ is → f ≡ path_item_taken i e → path_frames_taken is f ≡ path_frames_taken all e
frames_step i is all e f first takes = ap (path_frames_taken is) takes ∙ ap (λ (xs : List (Result FrameValue InvalidFrame)). path_frames_taken xs e) (sym first)

-- the path is the next one, for which a word may be drawn
module _ (p : Policy) (o : Opening) (remote : ℕ) (e : End) where
  abbrev there : End
  there = with_path e (path_to remote e)

  abbrev anew : End
  anew = challenged_anew p.words (nat_lt there.validation.drawn most_challenges) there

  asked : (b : Bool) → (challenged_anew p.words b there).path.generation ≡ e.path.generation + 1
  asked true = refl
  asked false = refl

  more : (b : Bool) → words_drawn e ≤ words_drawn (challenged_anew p.words b there)
  more true = omega arith
  more false = omega arith

  pub migrated_next : (migrated p o remote e).path.generation ≡ e.path.generation + 1
  migrated_next = frames_generation (items o.payload) (next_id_if_allowed anew) ∙ ap (λ (x : Path). x.generation) (next_rests anew).path ∙ asked (nat_lt there.validation.drawn most_challenges)

  pub migrated_more : words_drawn e ≤ words_drawn (migrated p o remote e)
  migrated_more =
      let same : words_drawn (migrated p o remote e) ≡ words_drawn anew = frames_words (items o.payload) (next_id_if_allowed anew) ∙ (next_rests anew).words in
      subst (λ (k : ℕ). words_drawn e ≤ k) (sym same) (more (nat_lt there.validation.drawn most_challenges))

-- ---- the steps in which an end does so: the next id comes first, and words are drawn last

-- the pacer is made for the path
abbrev pacer_for : ℕ → End → Pacing
pacer_for window e = pacing_moved true window e

module _ (words : ℕ → ℕ) (remote : ℕ) (q : Pacing) where
  -- with this pacer, words are drawn, and the peer is asked or isn't
  abbrev stepped : Bool → End → End
  stepped b x = challenged_anew words b (drawn words (with_pacing (with_path x (path_to remote x)) q))

  abbrev asking : Bool → End → End
  asking b x = challenged_anew words b (with_path (drawn words x) (path_to remote (drawn words x)))

  module _ (e : End) where
    abbrev sent_to : Range ℕ → End → End
    sent_to r x = retiring r (with_ids x (next_used x.ids))

    lasts : (b : Bool) (r : Range ℕ) (m : Option ℕ) → stepped b (without_longer_if m (sent_to r e)) ≡ with_pacing (without_longer_if m (sent_to r (asking b e))) q
    lasts true r None = refl
    lasts true r (Some most) = refl
    lasts false r None = refl
    lasts false r (Some most) = refl

    fits : (b : Bool) (r : Range ℕ) (s : Bool) → stepped b (shortened s (sent_to r e)) ≡ with_pacing (shortened s (sent_to r (asking b e))) q
    fits true r true = lasts true r (most_message (sent_to r e))
    fits true r false = refl
    fits false r true = lasts false r (most_message (sent_to r e))
    fits false r false = refl

    used : (b : Bool) (o : Option (Range ℕ)) → stepped b (next_id_taken o e) ≡ with_pacing (next_id_taken o (asking b e)) q
    used true None = refl
    used true (Some r) = fits true r (nat_lt (length (destination e.ids)) (length (destination (next_used e.ids))))
    used false None = refl
    used false (Some r) = fits false r (nat_lt (length (destination e.ids)) (length (destination (next_used e.ids))))

    by_answer : (b : Bool) (r : Result (Unit {0}) NextIdError) → stepped b (next_id_if r e) ≡ with_pacing (next_id_if r (asking b e)) q
    by_answer true (Ok done) = used true (retires_for_next e.ids)
    by_answer true (Err error) = refl
    by_answer false (Ok done) = used false (retires_for_next e.ids)
    by_answer false (Err error) = refl

    allowed_same : (b : Bool) (o : Option (Range ℕ)) → next_id_allowed o (asking b e) ≡ next_id_allowed o e
    allowed_same true None = refl
    allowed_same true (Some r) = refl
    allowed_same false None = refl
    allowed_same false (Some r) = refl

    answer_same : (b : Bool) → next_id_answer (asking b e) ≡ next_id_answer e
    answer_same true = allowed_same true (retires_for_next e.ids)
    answer_same false = allowed_same false (retires_for_next e.ids)

    next_first : (b : Bool) → stepped b (next_id_if_allowed e) ≡ with_pacing (next_id_if_allowed (asking b e)) q
    next_first b = by_answer b (next_id_answer e) ∙ ap (λ (r : Result (Unit {0}) NextIdError). with_pacing (next_id_if r (asking b e)) q) (sym (answer_same b))

-- frames of path validation read no pacer
item_paced : (q : Pacing) (i : Result FrameValue InvalidFrame) (e : End) → path_item_taken i (with_pacing e q) ≡ with_pacing (path_item_taken i e) q
item_paced q (Ok (path_challenge token)) e = refl
item_paced q (Ok (path_response token)) e = go (is_asked e.validation.challenge (word_of token))
  where
    go : (b : Bool) → validated_if b (with_pacing e q) ≡ with_pacing (validated_if b e) q
    go true = refl
    go false = refl
item_paced q i e = refl

frames_paced : (q : Pacing) (is : List (Result FrameValue InvalidFrame)) (e : End) → path_frames_taken is (with_pacing e q) ≡ with_pacing (path_frames_taken is e) q
frames_paced q [] e = refl
frames_paced q (i ∷ is) e = ap (path_frames_taken is) (item_paced q i e) ∙ frames_paced q is (path_item_taken i e)

-- and change nothing that it is made for
item_pacer : (window : ℕ) (i : Result FrameValue InvalidFrame) (e : End) → pacer_for window (path_item_taken i e) ≡ pacer_for window e
item_pacer window (Ok (path_challenge token)) e = refl
item_pacer window (Ok (path_response token)) e = go (is_asked e.validation.challenge (word_of token))
  where
    go : (b : Bool) → pacer_for window (validated_if b e) ≡ pacer_for window e
    go true = refl
    go false = refl
item_pacer window i e = refl

frames_pacer : (window : ℕ) (is : List (Result FrameValue InvalidFrame)) (e : End) → pacer_for window (path_frames_taken is e) ≡ pacer_for window e
frames_pacer window [] e = refl
frames_pacer window (i ∷ is) e = frames_pacer window is (path_item_taken i e) ∙ item_pacer window i e

-- nor does the next id
next_pacer : (window : ℕ) (e : End) → pacer_for window (next_id_if_allowed e) ≡ pacer_for window e
next_pacer window e =
    let x : End = next_id_if_allowed e in
    ap (λ (y : Path). new_pacing (best_rtt y.rtt) window (current_mtu y) x.closing.clock) (next_rests e).path
    ∙ ap (λ (y : Closing). new_pacing (best_rtt e.path.rtt) window (current_mtu e.path) y.clock) (next_rests e).closing

-- the end on the path that is made, and once ids are drawn there
abbrev pub on_path : ℕ → ℕ → End → End
on_path window remote e =
    let next = next_id_if_allowed e in
    with_pacing (with_path next (path_to remote next)) (pacer_for window next)

pub steps_lead : (p : Policy) (o : Opening) (window remote : ℕ) (e : End) → let x = drawn p.words (on_path window remote e) in let before = drawn p.words e in
    path_frames_taken (items o.payload) (challenged_anew p.words (nat_lt x.validation.drawn most_challenges) x) ≡ repaced window before (migrated p o remote before)
steps_lead p o window remote e =
    ap (λ (k : ℕ). path_frames_taken (items o.payload) (challenged_anew p.words (nat_lt k most_challenges) x)) (ap (λ (v : Validation). v.drawn) (next_rests e).validation)
    ∙ ap (path_frames_taken (items o.payload)) (next_first p.words remote (pacer_for window (next_id_if_allowed e)) e b)
    ∙ frames_paced (pacer_for window (next_id_if_allowed e)) (items o.payload) (next_id_if_allowed (asking p.words remote none b e))
    ∙ ap (λ (q : Pacing). with_pacing after q) (next_pacer window e ∙ sym made)
    ∙ ap (λ (m : Bool). with_pacing after (pacing_moved m window after)) (sym (moved_on before after (migrated_next p o remote before)))
  where
    before : End
    before = drawn p.words e

    x : End
    x = drawn p.words (on_path window remote e)

    after : End
    after = migrated p o remote before

    none : Pacing
    none = e.path.pacing

    b : Bool
    b = nat_lt e.validation.drawn most_challenges

    asked_pacer : (c : Bool) → pacer_for window (asking p.words remote none c e) ≡ pacer_for window e
    asked_pacer true = refl
    asked_pacer false = refl

    made : pacer_for window after ≡ pacer_for window e
    made = frames_pacer window (items o.payload) (next_id_if_allowed (asking p.words remote none b e)) ∙ next_pacer window (asking p.words remote none b e) ∙ asked_pacer b
