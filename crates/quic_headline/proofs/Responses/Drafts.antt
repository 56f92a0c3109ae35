-- What goes of the answer to a challenge: PATH_RESPONSE goes with the word that waits, which waits
-- no more, or none goes; and how long the datagram is.
use Rattle.std.proofs.Common.{◌≡◌, ◌⊎◌, ℕ, zero, suc, ◌≤◌, max, Bool, true, false, ◌&&◌, ◌||◌, List, [], ◌∷◌, ◌++◌, length, replicate, Option, Some, None, refl, sym, ap, ◌∙◌, inl, inr, arith}
use Rattle.std.specs.Prelude.{if◌then◌else◌}
use Rattle.std.specs.List.{list_any}
use Rattle.std.proofs.lemmas.List.{length-append, length-replicate}
use Rattle.quic_wire.specs.Value.{FrameValue, padding, path_response}
use Rattle.quic_retransmits.specs.declared.retransmits.ControlKind.{ControlKind}
use Rattle.quic_streams_state.specs.Control.{kind_of}
use Rattle.quic_paths.specs.Responses.{Response}
use Rattle.quic_machine.specs.Validation.{token_of, response_frame}
use Rattle.quic_machine.specs.End.{End}
use Rattle.quic_machine.specs.Poll.{Draft, asking, most_ordinary, no_frames, lazied_as, Leaving, draft_as, zeros_behind, datagram_size}
use Rattle.quic_machine.specs.DraftLaws.{Writing, MayLeave, by_leave}
use Rattle.quic_machine.specs.Puts as puts
use Rattle.quic_headline.specs.Waited.{is_path_response}
use Rattle.quic_headline.specs.Responses.{answers_in}

-- ---- what went

-- Of an answer that waited or none: none went, and what waits still does.
pub record NoneSaid (waited waits : Option Response) (fs : List FrameValue) : Type 0 where
  pub none : answers_in fs ≡ []
  pub same : waits ≡ waited

-- Or it went, and none waits any more.
pub record OneSaid (waited waits : Option Response) (fs : List FrameValue) : Type 0 where
  pub response : Response
  pub is : waited ≡ Some response
  pub gone : waits ≡ None
  pub said : answers_in fs ≡ token_of response.token ∷ []

abbrev pub Says : Option Response → Option Response → List FrameValue → Type 0
Says waited waits fs = NoneSaid waited waits fs ⊎ OneSaid waited waits fs

-- what frames answer, one behind another
answers_behind : (fs gs : List FrameValue) → answers_in (fs ++ gs) ≡ answers_in fs ++ answers_in gs
answers_behind [] gs = refl
answers_behind (path_response token ∷ fs) gs = ap (λ (ts : List (List ℕ)). token ∷ ts) (answers_behind fs gs)
answers_behind (f ∷ fs) gs = answers_behind fs gs

-- nothing is answered where none goes
pub none_answers : (fs : List FrameValue) → answers_in fs ≡ [] → list_any is_path_response fs ≡ false
none_answers [] none = refl
none_answers (path_response token ∷ fs) none = cc
none_answers (f ∷ fs) none = none_answers fs none

pub one_answers : (fs : List FrameValue) (token : List ℕ) (more : List (List ℕ)) → answers_in fs ≡ token ∷ more → list_any is_path_response fs ≡ true
one_answers [] token more some = cc
one_answers (path_response other ∷ fs) token more some = refl
one_answers (f ∷ fs) token more some = one_answers fs token more some

-- so it is with others behind them
pub more_says : (waited waits : Option Response) (fs gs : List FrameValue) → answers_in gs ≡ [] → Says waited waits fs → Says waited waits (fs ++ gs)
more_says waited waits fs gs none (inl i) = inl (record { none = answers_behind fs gs ∙ ap (λ (ts : List (List ℕ)). ts ++ answers_in gs) i.none ∙ none; same = i.same })
more_says waited waits fs gs none (inr i) = inr (record {
  response = i.response;
  is = i.is;
  gone = i.gone;
  said = answers_behind fs gs ∙ ap (λ (ts : List (List ℕ)). ts ++ answers_in gs) i.said ∙ ap (λ (ts : List (List ℕ)). token_of i.response.token ∷ ts) none;
})

-- PATH_RESPONSE goes with the word that waits
response_says : (waited waits : Option Response) (fs : List FrameValue) (r : Response) → waits ≡ Some r → Says waited waits fs → Says waited None (fs ++ response_frame r ∷ [])
response_says waited waits fs r set (inl i) = inr (record {
  response = r;
  is = sym i.same ∙ set;
  gone = refl;
  said = answers_behind fs (response_frame r ∷ []) ∙ ap (λ (ts : List (List ℕ)). ts ++ token_of r.token ∷ []) i.none;
})
response_says waited waits fs r set (inr i) = (let clash : ◌≡◌ {A = Option Response} None (Some r) = sym i.gone ∙ set in cc)

-- a frame of what waits beside the bytes of streams is no PATH_RESPONSE
control_other : (f : FrameValue) (kind : ControlKind) → kind_of f ≡ Some kind → answers_in (f ∷ []) ≡ []
control_other (path_response token) kind is = cc
control_other f kind is = refl

-- PADDING is none
pub none_padded : (count : ℕ) → answers_in (replicate count padding) ≡ []
none_padded zero = refl
none_padded (suc count) = none_padded count

-- ---- what goes

module _ (waited : Option Response) where
  abbrev OfDraft : Draft → Type 0
  OfDraft d = Says waited d.end.waiting.signals.response d.frames

  -- one more frame goes, which is no PATH_RESPONSE
  one_more : (d : Draft) (f : FrameValue) → answers_in (f ∷ []) ≡ [] → OfDraft d → Says waited d.end.waiting.signals.response (d.frames ++ f ∷ [])
  one_more d f other i = more_says waited d.end.waiting.signals.response d.frames (f ∷ []) other i

  writing : Writing OfDraft
  writing (puts.response r) d may i = response_says waited d.end.waiting.signals.response d.frames r may i
  writing (puts.drops kind) d may i = i
  writing (puts.control kind f) d is i = one_more d f (control_other f kind is.of_kind) i
  writing p d may i = one_more d _ refl i

  pub draft_says : (leaving : Leaving) (e : End) → MayLeave leaving e → e.waiting.signals.response ≡ waited → OfDraft (draft_as leaving e)
  draft_says leaving e may is = by_leave OfDraft writing leaving e may (none leaving)
    where
      none : (l : Leaving) → OfDraft (no_frames (lazied_as l e))
      none l = inl (record { none = refl; same = is })

-- so it is of the frames of the datagram
pub padded_says : (waited waits : Option Response) (fs : List FrameValue) (count : ℕ) → Says waited waits fs → Says waited waits (fs ++ replicate count padding)
padded_says waited waits fs count i = more_says waited waits fs (replicate count padding) (none_padded count) i

-- Whether PATH_RESPONSE went, and what waits then: as before, or none.
abbrev pub Replied : Option Response → Option Response → Bool → Type 0
Replied waited waits went = ((went ≡ false) × (waits ≡ waited)) ⊎ ((went ≡ true) × (waits ≡ None))

-- so it is of frames, and of the datagram that has them alone
pub replied : (waited waits : Option Response) (fs : List FrameValue) → Says waited waits fs → Replied waited waits (list_any is_path_response fs || false)
replied waited waits fs (inl i) = inl (ap (λ (b : Bool). b || false) (none_answers fs i.none), i.same)
replied waited waits fs (inr i) = inr (ap (λ (b : Bool). b || false) (one_answers fs (token_of i.response.token) [] i.said), i.gone)

-- ---- how long it is

-- a datagram has its least size
pub as_long : (d : Draft) → d.least ≤ datagram_size d
as_long d =
    let long = length-append d.bytes (replicate (zeros_behind d) 0) in
    let zeros : length (replicate {A = ℕ} (zeros_behind d) 0) ≡ zeros_behind d = length-replicate (zeros_behind d) 0 in
    let least = sized (d.end.transport.pad_to_mtu && asking d.frames) in
    omega (arith, long, zeros, least)
  where
    sized : (b : Bool) → d.least ≤ (if b then max d.least (most_ordinary d.end) else d.least)
    sized true = omega arith
    sized false = omega arith
