-- What a change of the path leaves, by which the peer is at another address (RFC 9000, section 9): it
-- changes where the path leads, and what a frame apart from streams may change; and fewer messages
-- wait where they are too long for the next id.
use Rattle.std.proofs.Common.{◌≡◌, ℕ, ◌+◌, ◌&&◌, Bool, true, false, nat_lt, List, [], ◌∷◌, Some, None, Result, Ok, Err, refl, ◌∙◌}
use Rattle.std.proofs.lemmas.Bool.{and_parts}
use Rattle.quic_wire.specs.Value.{FrameValue, path_challenge, path_response}
use Rattle.quic_wire.specs.Items.{items}
use Rattle.quic_wire.specs.declared.frame.InvalidFrame.{InvalidFrame}
use Rattle.quic_packet.specs.Datagram.{Opening}
use Rattle.quic_paths.specs.Paths.{is_asked}
use Rattle.quic_paths.specs.Responses.{newest}
use Rattle.quic_messages.specs.Messages.{without_longer}
use Rattle.quic_machine.specs.declared.answers.NextIdError.{NextIdError}
use Rattle.quic_machine.specs.declared.run.Answer.TheVariants as answers
use Rattle.quic_machine.specs.Policy.{Policy}
use Rattle.quic_machine.specs.End.{End, with_queued, validation_moment, words_drawn}
use Rattle.quic_machine.specs.Validation.{word_of, validated_if, challenged_anew, most_challenges}
use Rattle.quic_machine.specs.IdFrames.{next_id_answer}
use Rattle.quic_machine.specs.FrameCases.{Apart, with_apart, apart_of}
use Rattle.quic_machine.specs.Migration.{path_to, with_path, next_id_if, next_id_if_allowed, path_frames_taken, migrates, migrated}
use Rattle.quic_machine.specs.Calls.{is_open}
use Rattle.quic_machine.specs.Receive.{Outcome, is_taken, has_migrated, migrated_if, with_migration}
use Rattle.quic_headline.proofs.Packets.Apart.{by_next_id, next_acks}
use Rattle.quic_headline.proofs.Packets.Moving.{moving_keeps}

-- an end whose path leads to another address
abbrev pub led_to : ℕ → End → End
led_to remote e = record e { path = record e.path { generation = e.path.generation + 1; remote = remote; marking = true } }

module _ (P : End → Type 0) where
  -- what holds of an end whatever frames apart from streams change, holds behind frames of path
  -- validation
  path_frames_leave : (m : End) → ((c : Apart) → P (with_apart m c)) → (is : List (Result FrameValue InvalidFrame)) (c : Apart) → P (path_frames_taken is (with_apart m c))
  path_frames_leave m all [] c = all c
  path_frames_leave m all (Ok (path_challenge token) ∷ is) c = path_frames_leave m all is (record c { response = newest c.response (record { packet = m.numbers.present; token = word_of token }) })
  path_frames_leave m all (Ok (path_response token) ∷ is) c = answered (is_asked c.asked.validation.challenge (word_of token)) (path_frames_leave m all is)
    where
      answered : (b : Bool) → ((d : Apart) → P (path_frames_taken is (with_apart m d))) → P (path_frames_taken is (validated_if b (with_apart m c)))
      answered true rest = rest (record c { validated = true; asked = record { validation = record c.asked.validation { challenge = None }; waits = None }; moment = None })
      answered false rest = rest c
  path_frames_leave m all (Ok f ∷ is) c = path_frames_leave m all is c
  path_frames_leave m all (Err x ∷ is) c = path_frames_leave m all is c

  module _ (p : Policy) (o : Opening) (remote : ℕ) (e : End) (all : (c : Apart) → P (with_apart (led_to remote e) c)) (shorter : (c : Apart) (most : ℕ) → P (with_queued (with_apart (led_to remote e) c) (without_longer most e.messages.queues))) where
    abbrev m : End
    m = led_to remote e

    abbrev behind : End → Type 0
    behind x = P (path_frames_taken (items o.payload) x)

    -- the next id is used or isn't
    moves_on : (r : Result (Unit {0}) NextIdError) (c : Apart) → behind (next_id_if r (with_apart m c))
    moves_on (Err error) c = path_frames_leave m all (items o.payload) c
    moves_on (Ok done) c = by_next_id behind (with_apart m c) (answers.UseNextId (Ok done))
        (path_frames_leave m all (items o.payload) c)
        (λ d. path_frames_leave m all (items o.payload) d)
        (λ d most. path_frames_leave (with_queued m (without_longer most e.messages.queues)) (λ k. shorter k most) (items o.payload) d)

    abbrev there : End
    there = with_path e (path_to remote e)

    -- nothing is asked of the peer at that address yet, and nothing is to be answered
    abbrev unasked : Apart
    unasked = record (apart_of e) { validated = false; asked = record { validation = record e.validation { challenge = None }; waits = None }; response = None }

    asks : (b : Bool) → behind (next_id_if_allowed (challenged_anew p.words b there))
    asks true =
        let word : ℕ = p.words (words_drawn there) in
        let c : Apart = record unasked { asked = record { validation = record { challenge = Some word; drawn = e.validation.drawn + 1 }; waits = Some word }; moment = Some (validation_moment there) } in
        moves_on (next_id_answer (with_apart m c)) c
    asks false = let c : Apart = record unasked { moment = None } in moves_on (next_id_answer (with_apart m c)) c

    -- such a change
    pub by_migrated : P (migrated p o remote e)
    by_migrated = asks (nat_lt there.validation.drawn most_challenges)

    -- or none
    pub by_migrated_if : (b : Bool) → P e → P (migrated_if b p o remote e)
    by_migrated_if true same = by_migrated
    by_migrated_if false same = same

-- what holds of a packet that came to something, holds once its end has another path, where the packet
-- says so: it was taken then, and the end is open
pub by_migration : (P : Outcome → Type 0) (p : Policy) (o : Opening) (remote : ℕ) (e : End) (out : Outcome) → P out
    → (migrates o remote e ≡ true → is_taken out.answer ≡ true → is_open out.end.closing.state ≡ true → P (record { answer = out.answer; end = migrated p o remote out.end })) → P (with_migration p o remote e out)
by_migration P p o remote e out stays moves = go (has_migrated o remote e out) refl
  where
    go : (b : Bool) → has_migrated o remote e out ≡ b → P (record { answer = out.answer; end = migrated_if b p o remote out.end })
    go true is =
        let both = and_parts (migrates o remote e) (is_taken out.answer && is_open out.end.closing.state) is in
        let rest = and_parts (is_taken out.answer) (is_open out.end.closing.state) both.1 in
        moves both.0 rest.0 rest.1
    go false is = stays

-- a change of the path leaves whether the end is open, and what is to be acknowledged
pub migrated_closing : (p : Policy) (o : Opening) (remote : ℕ) (e : End) → (migrated p o remote e).closing ≡ e.closing
migrated_closing p o remote e = by_migrated (λ (x : End). x.closing ≡ e.closing) p o remote e (λ c. refl) (λ c most. refl)

pub migrated_acks : (p : Policy) (o : Opening) (remote : ℕ) (e : End) → (migrated p o remote e).acknowledging ≡ e.acknowledging
migrated_acks p o remote e = moving_keeps (λ (x : End). x.acknowledging ≡ e.acknowledging) (λ m x same. same) (λ x a same. next_acks x a ∙ same) p o remote e refl
