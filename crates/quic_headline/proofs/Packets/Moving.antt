-- What holds of an end whose path leads elsewhere, and stays by each step of that change, holds
-- behind a change of the path: of what is asked of the peer there, of the next id, and of the frames
-- of path validation that came with it.
use Rattle.std.proofs.Common.{◌≡◌, ℕ, Bool, true, false, nat_lt, List, [], ◌∷◌, Option, Some, None, Result, Ok, Err, refl, sym, ◌∙◌, subst, inl, inr}
use Rattle.quic_wire.specs.Value.{FrameValue, path_challenge, path_response}
use Rattle.quic_wire.specs.Items.{items}
use Rattle.quic_wire.specs.declared.frame.InvalidFrame.{InvalidFrame}
use Rattle.quic_packet.specs.Datagram.{Opening}
use Rattle.quic_paths.specs.Paths.{is_asked}
use Rattle.quic_recovery_core.specs.AckFrequency.{Frequency}
use Rattle.quic_machine.specs.declared.answers.NextIdError.{NextIdError}
use Rattle.quic_machine.specs.declared.run.Answer.TheVariants as answers
use Rattle.quic_machine.specs.Policy.{Policy}
use Rattle.std.specs.declared.ops.Range.{Range}
use Rattle.quic_machine.specs.MessageCalls.{most_message}
use Rattle.quic_machine.specs.Sizes.{without_longer_if, shortened}
use Rattle.quic_machine.specs.Ids.{retires_for_next, next_used}
use Rattle.quic_machine.specs.End.{End, with_ids, with_path_timer, words_drawn, challenged}
use Rattle.quic_machine.specs.Validation.{word_of, path_asked, path_validated, validated_if, path_answered, challenged_anew, most_challenges, Asked, asked_of}
use Rattle.quic_machine.specs.IdFrames.{retiring, next_id_answer, next_id_taken, after_next_id, end_on_next_id}
use Rattle.quic_machine.specs.Migration.{path_to, with_path, next_id_if, next_id_if_allowed, path_frames_taken, migrated}
use Rattle.quic_headline.specs.Runs.{In}
use Rattle.quic_headline.proofs.Packets.Apart.{AsksOn, next_acks}
use Rattle.quic_paths.specs.Responses.{Response}
use Rattle.quic_machine.specs.declared.run.Answer.{Answer}

-- an end is asked no more, or its peer isn't any more
abbrev pub unset : End → End
unset e = record e { timers = with_path_timer e.timers None }

-- the end with the other path
abbrev pub there : ℕ → End → End
there remote e = with_path e (path_to remote e)

module _ (P : End → Type 0) where
  -- an answer validates the path, or does nothing
  pub by_answer : ((e : End) → P e → P (path_validated e)) → (token : List ℕ) (e : End) → P e → P (path_answered token e)
  by_answer validates token e i = go (is_asked e.validation.challenge (word_of token))
    where
      go : (b : Bool) → P (validated_if b e)
      go true = validates e i
      go false = i

  -- frames of path validation, one behind another
  pub by_path_frames : (is : List (Result FrameValue InvalidFrame)) → ((token : List ℕ) (e : End) → P e → P (path_asked token e))
      → ((token : List ℕ) (e : End) → In (Ok (path_response token)) is → P e → P (path_answered token e)) → (e : End) → P e → P (path_frames_taken is e)
  by_path_frames [] hears answers e i = i
  by_path_frames (Ok (path_challenge token) ∷ is) hears answers e i = by_path_frames is hears (λ other x among. answers other x (inr among)) (path_asked token e) (hears token e i)
  by_path_frames (Ok (path_response token) ∷ is) hears answers e i = by_path_frames is hears (λ other x among. answers other x (inr among)) (path_answered token e) (answers token e (inl refl) i)
  by_path_frames (item ∷ is) hears answers e i = by_path_frames is hears (λ other x among. answers other x (inr among)) e i

  module _ (p : Policy) (o : Opening) (remote : ℕ) (e : End) where
    -- the next id is used, or isn't
    uses_on : ((x : End) → P x → P (after_next_id x)) → (r : Result (Unit {0}) NextIdError) (x : End) → P x → P (next_id_if r x)
    uses_on uses (Ok done) x i = uses x i
    uses_on uses (Err error) x i = i

    -- what holds as the peer is asked at the other address, or isn't any more
    pub by_asked : (nat_lt e.validation.drawn most_challenges ≡ true → P (challenged (p.words (words_drawn (there remote e))) (there remote e))) → (nat_lt e.validation.drawn most_challenges ≡ false → P (unset (there remote e)))
        → ((x : End) → P x → P (after_next_id x)) → ((token : List ℕ) (x : End) → P x → P (path_asked token x)) → ((token : List ℕ) (x : End) → In (Ok (path_response token)) (items o.payload) → P x → P (path_answered token x))
        → P (migrated p o remote e)
    by_asked asks stops uses hears answers = go (nat_lt e.validation.drawn most_challenges) refl
      where
        behind : (x : End) → P x → P (path_frames_taken (items o.payload) (next_id_if_allowed x))
        behind x i = by_path_frames (items o.payload) hears answers (next_id_if_allowed x) (uses_on uses (next_id_answer x) x i)

        go : (b : Bool) → nat_lt e.validation.drawn most_challenges ≡ b → P (path_frames_taken (items o.payload) (next_id_if_allowed (challenged_anew p.words b (there remote e))))
        go true is = behind (challenged (p.words (words_drawn (there remote e))) (there remote e)) (asks is)
        go false is = behind (unset (there remote e)) (stops is)

    -- what each step keeps
    pub by_moves : P (there remote e) → ((word : ℕ) (x : End) → P x → P (challenged word x)) → ((x : End) → P x → P (unset x))
        → ((x : End) → P x → P (after_next_id x)) → ((token : List ℕ) (x : End) → P x → P (path_asked token x)) → ((x : End) → P x → P (path_validated x))
        → P (migrated p o remote e)
    by_moves leads asks stops uses hears validates =
        by_asked (λ is. asks (p.words (words_drawn (there remote e))) (there remote e) leads) (λ is. stops (there remote e) leads) uses hears (λ token x among i. by_answer validates token x i)

-- ---- whatever the path is

-- what another path changes beside ids: where the peer is, which path it is, whether it is
-- validated, whether datagrams are marked, what is asked of the peer until when, and the answer to it
-- that waits
pub record OnPath : Type 0 where
  pub remote : ℕ
  pub generation : ℕ
  pub validated : Bool
  pub marking : Bool
  pub asked : Asked
  pub moment : Option ℕ
  pub response : Option Response

-- the end with that
abbrev pub with_on_path : End → OnPath → End
with_on_path e m = record e {
  path = record e.path { remote = m.remote; generation = m.generation; validated = m.validated; marking = m.marking };
  validation = m.asked.validation;
  waiting = record e.waiting { signals = record e.waiting.signals { challenge = m.asked.waits; response = m.response } };
  timers = record e.timers { path_validation = m.moment };
}

-- that of an end as it is
abbrev pub on_path : End → OnPath
on_path e = record {
  remote = e.path.remote;
  generation = e.path.generation;
  validated = e.path.validated;
  marking = e.path.marking;
  asked = asked_of e;
  moment = e.timers.path_validation;
  response = e.waiting.signals.response;
}

-- what holds of an end whatever these are, and behind the next id, holds where its peer is at
-- another address
pub moving_keeps : (P : End → Type 0) → ((m : OnPath) (e : End) → P e → P (with_on_path e m)) → ((e : End) (a : Answer) → P e → P (end_on_next_id e a)) → (p : Policy) (o : Opening) (remote : ℕ) (e : End) → P e → P (migrated p o remote e)
moving_keeps P paths next p o remote e i = by_moves P p o remote e (paths (on_path (there remote e)) e i) (λ word x j. paths (on_path (challenged word x)) x j) (λ x j. paths (on_path (unset x)) x j)
    (λ x j. next x (answers.UseNextId (Ok tt)) j) (λ token x j. paths (on_path (path_asked token x)) x j) (λ x j. paths (on_path (path_validated x)) x j)

-- ---- what it leaves

-- it leaves what is to be acknowledged
pub moved_acks : (p : Policy) (o : Opening) (remote : ℕ) (e : End) → (migrated p o remote e).acknowledging ≡ e.acknowledging
moved_acks p o remote e = by_moves (λ (x : End). x.acknowledging ≡ e.acknowledging) p o remote e refl (λ word x i. i) (λ x i. i) (λ x i. next_acks x (answers.UseNextId (Ok tt)) ∙ i) (λ token x i. i) (λ x i. i)

-- the next id leaves how acknowledgements are asked for, and when
next_asks : (e : End) → (after_next_id e).frequency ≡ e.frequency
next_asks e = taken (retires_for_next e.ids)
  where
    lasts : (o : Option ℕ) (x : End) → (without_longer_if o x).frequency ≡ x.frequency
    lasts None x = refl
    lasts (Some most) x = refl

    fits : (b : Bool) (x : End) → (shortened b x).frequency ≡ x.frequency
    fits true x = lasts (most_message x) x
    fits false x = refl

    taken : (o : Option (Range ℕ)) → (next_id_taken o e).frequency ≡ e.frequency
    taken None = refl
    taken (Some r) = fits _ (retiring r (with_ids e (next_used e.ids)))

-- so does a change of the path
pub moved_asks : (p : Policy) (o : Opening) (remote : ℕ) (e : End) → (migrated p o remote e).frequency ≡ e.frequency
moved_asks p o remote e = by_moves (λ (x : End). x.frequency ≡ e.frequency) p o remote e refl (λ word x i. i) (λ x i. i) (λ x i. next_asks x ∙ i) (λ token x i. i) (λ x i. i)

-- and how an end asks its peer to acknowledge
pub moved_frequency : (p : Policy) (o : Opening) (remote : ℕ) (e : End) → AsksOn e.frequency (migrated p o remote e).frequency
moved_frequency p o remote e = subst (λ (f : Frequency). AsksOn e.frequency f) (sym (moved_asks p o remote e)) (record { in_flight = refl; next = refl; peer_delay = refl })
