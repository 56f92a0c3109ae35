-- What a poll leaves of what is asked: PATH_CHALLENGE goes with the word that waits, which waits no
-- more, or none goes; and so it is with the answer to the peer.
use Rattle.std.proofs.Common.{◌≡◌, ◌⊎◌, ℕ, zero, suc, Bool, true, false, ◌||◌, List, [], ◌∷◌, ◌++◌, replicate, Option, Some, None, refl, sym, ap, ◌∙◌, inl, inr}
use Rattle.std.specs.List.{list_any}
use Rattle.std.proofs.lemmas.Bool.{or_from, or_left}
use Rattle.std.proofs.lemmas.List.Folds.{list_any-append}
use Rattle.quic_wire.specs.Value.{FrameValue, padding, path_challenge}
use Rattle.quic_retransmits.specs.declared.retransmits.ControlKind.{ControlKind}
use Rattle.quic_streams_state.specs.Control.{kind_of}
use Rattle.quic_machine.specs.declared.answers.State.TheVariants as states
use Rattle.quic_machine.specs.declared.run.Answer.TheVariants as answers
use Rattle.quic_machine.specs.Policy.{Policy}
use Rattle.quic_machine.specs.Parts.{Path}
use Rattle.quic_machine.specs.Validation.{token_of, challenge_frame}
use Rattle.quic_machine.specs.End.{End}
use Rattle.quic_machine.specs.Poll.{Polled, Draft, no_frames, zeros_behind, lazied_as, Leaving, draft_as, polled}
use Rattle.quic_machine.specs.PollCases.{ready_at, ready_leaves, draft_at, may_leave_at, Composes, composes}
use Rattle.quic_machine.specs.DraftLaws.{Writing, MayLeave, by_leave}
use Rattle.quic_machine.specs.Puts as puts
use Rattle.quic_machine.specs.Machine.{gave}
use Rattle.quic_headline.specs.Observer.{Sent}
use Rattle.quic_headline.specs.Waited.{stands, is_path_challenge, is_path_response}
use Rattle.quic_headline.specs.Validated.{asked_in, asked_by}
use Rattle.quic_headline.proofs.Packets.Probes.{by_ready, by_going}
use Rattle.quic_headline.proofs.Packets.Sends.{by_sends}
use Rattle.quic_headline.proofs.Places.Parties.{sent_as, sent_by, sent_if}
use Rattle.quic_headline.proofs.Responses.Drafts.{Says, draft_says, padded_says, Replied, replied}

-- ---- what went

-- Of a word that waited or none: none went, and what waits still does, by whether PATH_CHALLENGE
-- went, and what is known then of the last that did.
pub record NoneWent (waited waits : Option ℕ) (went : Bool) (latest : Option (List ℕ) → Option (List ℕ)) : Type 0 where
  pub none : went ≡ false
  pub same : waits ≡ waited
  pub before : (known : Option (List ℕ)) → latest known ≡ known

-- Or it went last, and none waits any more.
pub record OneWent (waited waits : Option ℕ) (went : Bool) (latest : Option (List ℕ) → Option (List ℕ)) : Type 0 where
  pub word : ℕ
  pub some : went ≡ true
  pub is : waited ≡ Some word
  pub gone : waits ≡ None
  pub last : (known : Option (List ℕ)) → latest known ≡ Some (token_of word)

abbrev pub Went : Option ℕ → Option ℕ → Bool → (Option (List ℕ) → Option (List ℕ)) → Type 0
Went waited waits went latest = NoneWent waited waits went latest ⊎ OneWent waited waits went latest

-- so it is of frames
abbrev InFrames : Option ℕ → Option ℕ → List FrameValue → Type 0
InFrames waited waits fs = Went waited waits (list_any is_path_challenge fs) (asked_in fs)

-- what frames ask, one behind another
asked_behind : (fs gs : List FrameValue) (known : Option (List ℕ)) → asked_in (fs ++ gs) known ≡ asked_in gs (asked_in fs known)
asked_behind [] gs known = refl
asked_behind (path_challenge token ∷ fs) gs known = asked_behind fs gs (Some token)
asked_behind (f ∷ fs) gs known = asked_behind fs gs known

-- others ask nothing
asked_none : (fs : List FrameValue) (known : Option (List ℕ)) → list_any is_path_challenge fs ≡ false → asked_in fs known ≡ known
asked_none [] known none = refl
asked_none (path_challenge token ∷ fs) known none = cc
asked_none (f ∷ fs) known none = asked_none fs known none

-- so it is with others behind them
more_went : (waited waits : Option ℕ) (fs gs : List FrameValue) → list_any is_path_challenge gs ≡ false → InFrames waited waits fs → InFrames waited waits (fs ++ gs)
more_went waited waits fs gs none (inl i) = inl (record {
  none = list_any-append is_path_challenge fs gs ∙ or_from (list_any is_path_challenge fs) (list_any is_path_challenge gs) i.none none;
  same = i.same;
  before = λ known. asked_behind fs gs known ∙ asked_none gs (asked_in fs known) none ∙ i.before known;
})
more_went waited waits fs gs none (inr i) = inr (record {
  word = i.word;
  some = list_any-append is_path_challenge fs gs ∙ or_left (list_any is_path_challenge fs) (list_any is_path_challenge gs) i.some;
  is = i.is;
  gone = i.gone;
  last = λ known. asked_behind fs gs known ∙ asked_none gs (asked_in fs known) none ∙ i.last known;
})

-- PATH_CHALLENGE goes with the word that waits
challenge_went : (waited waits : Option ℕ) (fs : List FrameValue) (word : ℕ) → waits ≡ Some word → InFrames waited waits fs → InFrames waited None (fs ++ challenge_frame word ∷ [])
challenge_went waited waits fs word set (inl i) = inr (record {
  word = word;
  some = list_any-append is_path_challenge fs (challenge_frame word ∷ []) ∙ ap (λ (b : Bool). b || true) i.none;
  is = sym i.same ∙ set;
  gone = refl;
  last = λ known. asked_behind fs (challenge_frame word ∷ []) known;
})
challenge_went waited waits fs word set (inr i) = (let clash : ◌≡◌ {A = Option ℕ} None (Some word) = sym i.gone ∙ set in cc)

-- a frame of what waits beside the bytes of streams is no PATH_CHALLENGE
control_other : (f : FrameValue) (kind : ControlKind) → kind_of f ≡ Some kind → is_path_challenge f ≡ false
control_other (path_challenge token) kind is = cc
control_other f kind is = refl

-- ---- what goes

-- so it is of the frames of a draft
module _ (waited : Option ℕ) where
  abbrev OfDraft : Draft → Type 0
  OfDraft d = InFrames waited d.end.waiting.signals.challenge d.frames

  -- one more frame goes, which is no PATH_CHALLENGE
  one_more : (d : Draft) (f : FrameValue) → is_path_challenge f ≡ false → OfDraft d → InFrames waited d.end.waiting.signals.challenge (d.frames ++ f ∷ [])
  one_more d f other i = more_went waited d.end.waiting.signals.challenge d.frames (f ∷ []) (ap (λ (b : Bool). b || false) other) i

  writing : Writing OfDraft
  writing (puts.challenge word) d may i = challenge_went waited d.end.waiting.signals.challenge d.frames word may i
  writing (puts.drops kind) d may i = i
  writing (puts.control kind f) d is i = one_more d f (control_other f kind is.of_kind) i
  writing p d may i = one_more d _ refl i

  pub draft_went : (leaving : Leaving) (e : End) → MayLeave leaving e → e.waiting.signals.challenge ≡ waited → OfDraft (draft_as leaving e)
  draft_went leaving e may is = by_leave OfDraft writing leaving e may (none leaving)
    where
      none : (l : Leaving) → OfDraft (no_frames (lazied_as l e))
      none l = inl (record { none = refl; same = is; before = λ known. refl })

-- PADDING is none
none_padded : (count : ℕ) → list_any is_path_challenge (replicate count padding) ≡ false
none_padded zero = refl
none_padded (suc count) = none_padded count

-- a datagram with these frames goes
sent_went : (waited waits : Option ℕ) (s : Sent) → InFrames waited waits s.frames → Went waited waits (stands is_path_challenge (s ∷ [])) (asked_by (s ∷ []))
sent_went waited waits s (inl i) = inl (record { none = ap (λ (b : Bool). b || false) i.none; same = i.same; before = i.before })
sent_went waited waits s (inr i) = inr (record { word = i.word; some = ap (λ (b : Bool). b || false) i.some; is = i.is; gone = i.gone; last = i.last })

-- ---- a poll

-- What a poll leaves with which these datagrams went: whether the address is validated, which word
-- is the latest, whether that waits, and which answer to the peer does.
pub record LeftSo (e f : End) (ss : List Sent) : Type 0 where
  pub validated : f.path.validated ≡ e.path.validated
  pub validation : f.validation ≡ e.validation
  pub went : Went e.waiting.signals.challenge f.waiting.signals.challenge (stands is_path_challenge ss) (asked_by ss)
  pub replied : Replied e.waiting.signals.response f.waiting.signals.response (stands is_path_response ss)

-- an end that is ready to give asks as before
pub ready_waits : (e : End) (now : ℕ) → (ready_at e now).end.waiting.signals.challenge ≡ e.waiting.signals.challenge
ready_waits e now = by_ready (λ (x : End). x.waiting.signals.challenge ≡ e.waiting.signals.challenge) e now refl (λ ping immediate x i. i) (λ waits x i. i) (λ q i. refl) (λ moment pacing discovery x i. i)

-- and answers as before
pub ready_replies : (e : End) (now : ℕ) → (ready_at e now).end.waiting.signals.response ≡ e.waiting.signals.response
ready_replies e now = by_ready (λ (x : End). x.waiting.signals.response ≡ e.waiting.signals.response) e now refl (λ ping immediate x i. i) (λ waits x i. i) (λ q i. refl) (λ moment pacing discovery x i. i)

module _ (p : Policy) (e : End) (now : ℕ) where
  abbrev z : End
  z = (ready_at e now).end

  -- an end that is ready to give asks as before
  ready_validated : z.path.validated ≡ e.path.validated
  ready_validated = ap (λ (x : End). x.path.validated) (ready_leaves e now)

  ready_validation : z.validation ≡ e.validation
  ready_validation = ap (λ (x : End). x.validation) (ready_leaves e now)

  abbrev d : Draft
  d = draft_at e now

  composed : Composes z d.end
  composed = composes (ready_at e now).leaving z (may_leave_at e now)

  pub given : Went e.waiting.signals.challenge d.end.waiting.signals.challenge (stands is_path_challenge (sent_as e now d ∷ [])) (asked_by (sent_as e now d ∷ []))
  given = sent_went e.waiting.signals.challenge d.end.waiting.signals.challenge (sent_as e now d)
      (more_went e.waiting.signals.challenge d.end.waiting.signals.challenge d.frames (replicate (zeros_behind d) padding) (none_padded (zeros_behind d))
      (draft_went e.waiting.signals.challenge (ready_at e now).leaving z (may_leave_at e now) (ready_waits e now)))

  pub replies : Says e.waiting.signals.response d.end.waiting.signals.response (sent_as e now d).frames
  replies = padded_says e.waiting.signals.response d.end.waiting.signals.response d.frames (zeros_behind d) (draft_says e.waiting.signals.response (ready_at e now).leaving z (may_leave_at e now) (ready_replies e now))

  -- nothing went
  none_left : LeftSo e e []
  none_left = record { validated = refl; validation = refl; went = inl (record { none = refl; same = refl; before = λ known. refl }); replied = inl (refl, refl) }

  pub polled_left : (polled p e now).end.closing.state ≡ states.Open → LeftSo e (polled p e now).end (sent_if (gave (answers.Poll (polled p e now).answer)) (sent_by p e now))
  polled_left = by_sends p e now (λ (q : Polled) (ss : List Sent). q.end.closing.state ≡ states.Open → LeftSo e q.end ss) (record {
    silent = λ opened. none_left;
    failed = λ opened. none_left;
    nothing = λ is none opened. record { validated = ready_validated; validation = ready_validation; went = inl (record { none = refl; same = ready_waits e now; before = λ known. refl }); replied = inl (refl, ready_replies e now) };
    repeats = λ is. ((λ opened. let clash : states.Closing ≡ states.Open = sym is ∙ opened in cc), λ f goes opened. let clash : states.Closing ≡ states.Open = sym is ∙ opened in cc);
    closes = λ reason is bound. ((λ opened. cc), λ f goes opened. cc);
    gives = λ is may some. by_going (λ (x : End). x.closing.state ≡ states.Open → LeftSo e x (sent_as e now d ∷ [])) p d (λ going opened. record {
      validated = ap (λ (u : Path). u.validated) composed.path ∙ ready_validated;
      validation = composed.validation ∙ ready_validation;
      went = given;
      replied = replied e.waiting.signals.response d.end.waiting.signals.response (sent_as e now d).frames replies;
    });
  })
