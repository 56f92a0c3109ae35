-- How many words of its random source an end has drawn behind a datagram that it takes.
use Rattle.std.proofs.Common.{◌≡◌, ℕ, ◌+◌, ◌-◌, ◌*◌, ◌<◌, ◌≤◌, ◌^◌, Bool, true, false, cond, List, [], ◌∷◌, length, min, Option, Some, None, Result, Ok, Err, refl, ap, ◌∙◌, arith}
use Rattle.std.specs.Prelude.{if◌then◌else◌, nat_lt, not, ◌==◌, ◌||◌}
use Rattle.std.specs.declared.ops.Range.{Range}
use Rattle.std.proofs.lemmas.Bool.{and_parts, ltb-true}
use Rattle.std.proofs.lemmas.List.{length-append}
use Rattle.quic_wire_core.specs.declared.shared.EcnCodepoint.{EcnCodepoint}
use Rattle.quic_wire_core.specs.declared.stream_id.Side.{Side}
use Rattle.quic_wire_core.specs.declared.stream_id.Side.TheVariants.{Client, Server}
use Rattle.quic_wire_core.specs.TransportError.{ErrorValue}
use Rattle.quic_wire.specs.Value.{FrameValue, NewConnectionIdValue, ack, datagram, new_connection_id, retire_connection_id, path_response, handshake_done, ack_frequency}
use Rattle.quic_wire.specs.declared.frame.InvalidFrame.{InvalidFrame}
use Rattle.quic_packet.specs.Header.{key_phase, reserved_bits}
use Rattle.quic_packet.specs.Datagram.{Opening}
use Rattle.quic_recovery_core.specs.Duplicates.{is_duplicate}
use Rattle.quic_spaces.specs.Numbers.{number_opened}
use Rattle.quic_ids.specs.CidState.{is_wrong, without, retirement_answer}
use Rattle.quic_ids.specs.CidQueue.{insert_answer}
use Rattle.quic_ids.specs.declared.cid_queue.InsertError.{InsertError}
use Rattle.quic_ids.specs.declared.cid_queue.InsertError.TheVariants as inserts
use Rattle.quic_retransmits.specs.Retransmits.{can_retire}
use Rattle.quic_paths.specs.Paths.{is_asked}
use Rattle.quic_machine.specs.declared.answers.State.{State}
use Rattle.quic_machine.specs.declared.answers.State.TheVariants as states
use Rattle.quic_machine.specs.declared.answers.DropReason.{DropReason}
use Rattle.quic_machine.specs.declared.answers.DropReason.TheVariants as drops
use Rattle.quic_machine.specs.Arrival.{Arrival}
use Rattle.quic_machine.specs.Policy.{Policy}
use Rattle.quic_machine.specs.Ids.{destination, frame_of, retires_for, retired, is_more}
use Rattle.quic_machine.specs.IdFrames.{retiring, with_taken_up, issued_if, issues_for, drawn}
use Rattle.quic_machine.specs.Opens.{head}
use Rattle.quic_machine.specs.End.{End, side_of, with_numbers, with_ids, words_drawn}
use Rattle.quic_machine.specs.MessageCalls.{most_message}
use Rattle.quic_machine.specs.Sizes.{without_longer_if, shortened}
use Rattle.quic_machine.specs.Validation.{word_of, validated_if}
use Rattle.quic_machine.specs.Steps as steps
use Rattle.quic_machine.specs.Receive.{Fault, closed_by_peer, violation, is_empty, dropped, retired_for, id_judged, retirement_judged, asks_too_soon, frequency_judged, done_taken, take_frame, is_read, take_payload, take_items, ends_as, items_taken, by_state, opened_to, unopened_in, drawn_if, with_ids_drawn, has_migrated, migrated_if, opened_as, opening, headed, received_in, received}
use Rattle.quic_recovery_core.specs.AckFrequency.{is_stale}
use Rattle.quic_connection_core.proofs.Migrated.{migrated_more}
use Rattle.quic_machine.specs.FrameCases.{Settling, IsApart, acked_keeps, frame_keeps, frame_leaves, items_keep, issues_may}

-- messages that are too long draw none
shortened_words : (b : Bool) (e : End) → words_drawn (shortened b e) ≡ words_drawn e
shortened_words true e = go (most_message e)
  where
    go : (o : Option ℕ) → words_drawn (without_longer_if o e) ≡ words_drawn e
    go None = refl
    go (Some most) = refl
shortened_words false e = refl

-- one id more is issued, and one more is to be drawn
issued_words : (f v issued undrawn : ℕ) → issued < 2 ^ 62 → f + 3 * (min (issued + 1) (2 ^ 64 - 1) - 1 - (undrawn + 1)) + v ≡ f + 3 * (issued - 1 - undrawn) + v
issued_words f v issued undrawn few = omega (arith, few)

module _ (e : End) where
  -- as many as at the first
  abbrev Same : End → Type 0
  Same x = words_drawn x ≡ words_drawn e

  settling : Settling Same
  settling (steps.known n) x i = i
  settling s x i = i

  -- a frame about ids of the peer
  new_id : (r : Result (Option (Range ℕ)) InsertError) (f : NewConnectionIdValue) (x : End) → Same x → Same (id_judged r f x).end
  new_id (Ok None) f x i = shortened_words (nat_lt (length (destination x.ids)) (length (destination (with_taken_up f x).ids))) (with_taken_up f x) ∙ i
  new_id (Ok (Some r)) f x i = go (can_retire x.waiting.frames r.start r.end)
    where
      go : (b : Bool) → Same (retired_for b r f x).end
      go true = shortened_words (nat_lt (length (destination x.ids)) (length (destination (with_taken_up f x).ids))) (retiring r (with_taken_up f x)) ∙ i
      go false = i
  new_id (Err inserts.Retired) f x i = i
  new_id (Err inserts.ExceedsLimit) f x i = i

  -- or of the own ones
  own_issued : (n : ℕ) (x : End) → (with_ids x (retired n x.ids)).ids.own.issued ≡ x.ids.own.issued
  own_issued n x = go (is_wrong x.ids.own n)
    where
      go : (b : Bool) → (cond b x.ids.own (record x.ids.own { living = without n x.ids.own.living })).issued ≡ x.ids.own.issued
      go true = refl
      go false = refl

  own_kept : (n : ℕ) (x : End) → Same x → Same (with_ids x (retired n x.ids))
  own_kept n x i = ap (λ (k : ℕ). x.filter.drawn + 3 * (k - 1 - length x.ids.undrawn) + x.validation.drawn) (own_issued n x) ∙ i

  issues : (n : ℕ) (x : End) (b : Bool) → issues_for n x ≡ b → Same (with_ids x (retired n x.ids)) → (with_ids x (retired n x.ids)).ids.own.issued ≡ x.ids.own.issued → Same (issued_if b (with_ids x (retired n x.ids)))
  issues n x false is i same = i
  issues n x true is i same =
      let y : End = with_ids x (retired n x.ids) in
      let lt : x.ids.own.issued < 2 ^ 62 = ltb-true x.ids.own.issued (2 ^ 62) (and_parts (is_more (retirement_answer x.ids.own n x.ids.limit)) (nat_lt x.ids.own.issued (2 ^ 62)) (issues_may n x is)).1 in
      ap (λ (k : ℕ). y.filter.drawn + 3 * (min (y.ids.own.issued + 1) (2 ^ 64 - 1) - 1 - k) + y.validation.drawn) (length-append y.ids.undrawn (length y.waiting.frames.new_cids ∷ []))
      ∙ issued_words y.filter.drawn y.validation.drawn y.ids.own.issued (length y.ids.undrawn) (omega (arith, lt, same))
      ∙ i

  retirement : (r : Result Bool ErrorValue) (n : ℕ) (x : End) → Same x → Same (retirement_judged r n x).end
  retirement (Ok more) n x i = issues n x (issues_for n x) refl (own_kept n x i) (own_issued n x)
  retirement (Err error) n x i = i

  apart : (f : FrameValue) (x : End) → IsApart f → Same x → Same (take_frame f x).end
  apart (ack a) x may i = absurd may
  apart (datagram m) x may i = absurd may
  apart (new_connection_id f) x may i = new_id (retires_for (insert_answer x.ids.peer (frame_of f))) f x i
  apart (retire_connection_id n) x may i = retirement (retirement_answer x.ids.own n x.ids.limit) n x i
  apart (path_response token) x may i = go (is_asked x.validation.challenge (word_of token))
    where
      go : (b : Bool) → Same (validated_if b x)
      go true = i
      go false = i
  apart handshake_done x may i = go (side_of x)
    where
      go : (side : Side) → Same (done_taken side x).end
      go Client = i
      go Server = i
  apart (ack_frequency f) x may i = go (is_stale x.frequency.last f.sequence) (asks_too_soon f)
    where
      go : (stale soon : Bool) → Same (frequency_judged stale soon f x).end
      go true soon = i
      go false true = i
      go false false = i
  apart f x may i = i

  frame : (f : FrameValue) (x : End) → Same x → Same (take_frame f x).end
  frame = frame_keeps Same (record {
    ack = λ rises a x i. acked_keeps Same settling rises a _ i;
    on_streams = λ f x on i. frame_leaves Same f x on (λ t. i);
    message = λ m x i. i;
    apart = apart;
  })

  payload : (first : ℕ) (is : List (Result FrameValue InvalidFrame)) (x : End) → Same x → Same (take_payload first is x).end
  payload first is x i = go (not (reserved_bits first == 0) || is_empty is) (items_keep Same frame is x i)
    where
      go : (b : Bool) → Same (take_items is x).end → Same (if b then record { end = x; fault = Some violation } else take_items is x).end
      go true kept = i
      go false kept = kept

  ends : (o : Option Fault) (asks urged : Bool) (n : ℕ) (mark : Option EcnCodepoint) (x : End) → Same x → Same (ends_as o asks urged n mark x).end
  ends None asks urged n mark x i = i
  ends (Some (closed_by_peer close)) asks urged n mark x i = i
  ends (Some fault) asks urged n mark x i = i

-- a packet that opened draws none but for ids that are issued for it
pub opened_words : (o : Opening) (arrival : Arrival) (e : End) → words_drawn (opened_to o arrival e).end ≡ words_drawn e
opened_words o arrival e = by (key_phase o.first) (is_duplicate e.numbers.opened o.number)
  where
    x : End
    x = with_numbers e (number_opened e.numbers o.number)

    in_state : (s : State) → words_drawn (by_state s o arrival x).end ≡ words_drawn e
    in_state states.Open = ends e _ _ _ o.number arrival.mark _ (payload e o.first (items_taken o arrival x) _ refl)
    in_state states.Closing = refl
    in_state states.Drained = refl
    in_state states.Failed = refl

    by : (p d : Bool) → words_drawn (if p then dropped drops.KeyPhase e else (if d then dropped drops.Duplicate e else by_state e.closing.state o arrival x)).end ≡ words_drawn e
    by true d = refl
    by false true = refl
    by false false = in_state e.closing.state

-- those that are drawn then are no fewer
pub drawn_more : (words : ℕ → ℕ) (e : End) → words_drawn e ≤ words_drawn (drawn words e)
drawn_more words e = omega arith

pub received_words : (p : Policy) (e : End) (arrival : Arrival) (d : List ℕ) → words_drawn e ≤ words_drawn (received p e arrival d).end
received_words p e arrival d = in_state e.closing.state
  where
    drawn_behind : (b : Bool) (x : End) → words_drawn x ≡ words_drawn e → words_drawn e ≤ words_drawn (drawn_if b p x)
    drawn_behind true x same = let more = drawn_more p.words x in omega (arith, same, more)
    drawn_behind false x same = omega (arith, same)

    unopened : (s : State) (b : Bool) → words_drawn e ≤ words_drawn (unopened_in s b arrival e).end
    unopened states.Open true = omega arith
    unopened states.Open false = omega arith
    unopened states.Closing b = omega arith
    unopened states.Drained b = omega arith
    unopened states.Failed b = omega arith

    moved : (b : Bool) (o : Opening) (x : End) → words_drawn e ≤ words_drawn x → words_drawn e ≤ words_drawn (migrated_if b p o arrival.remote x)
    moved true o x more = let again = migrated_more p o arrival.remote x in omega (arith, more, again)
    moved false o x more = more

    opens : (o : Option Opening) → words_drawn e ≤ words_drawn (opened_as o p arrival e).end
    opens None = unopened e.closing.state arrival.last
    opens (Some o) =
        let out = with_ids_drawn p (opened_to o arrival e) in
        moved (has_migrated o arrival.remote e out) o out.end (drawn_behind (is_read (opened_to o arrival e).answer) (opened_to o arrival e).end (opened_words o arrival e))

    heads : (r : Result (List ℕ) DropReason) → words_drawn e ≤ words_drawn (headed r p e arrival d).end
    heads (Ok id) = opens (opening p e d)
    heads (Err error) = omega arith

    in_state : (s : State) → words_drawn e ≤ words_drawn (received_in s p e arrival d).end
    in_state states.Open = heads (head e arrival.remote d)
    in_state states.Closing = heads (head e arrival.remote d)
    in_state states.Drained = omega arith
    in_state states.Failed = omega arith
