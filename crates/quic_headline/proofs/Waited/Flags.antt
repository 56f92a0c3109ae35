-- What waits to be said where a flag is set, as MAX_DATA, and the frames of path validation: a poll
-- says it only where it waits, and once it is said it waits no more.
use Rattle.std.proofs.Common.{◌≡◌, ℕ, zero, suc, Bool, true, false, ◌||◌, not, List, [], ◌∷◌, ◌++◌, replicate, Option, Some, None, refl, sym, ap, ◌∙◌, subst, ◌⊎◌, inl, inr}
use Rattle.std.specs.List.{list_any}
use Rattle.std.specs.Option.{is_some}
use Rattle.std.proofs.lemmas.Bool.{or_cases, both_ways}
use Rattle.std.proofs.lemmas.List.Folds.{list_any-append}
use Rattle.quic_wire_core.specs.declared.stream_id.Dir.{Dir}
use Rattle.quic_wire_core.specs.declared.stream_id.Dir.TheVariants.{Bi, Uni}
use Rattle.quic_wire.specs.Value.{FrameValue, padding, ping, handshake_done, max_data, max_streams, data_blocked, path_challenge, path_response, immediate_ack, AckFrequencyValue, ack_frequency}
use Rattle.quic_streams_parts.specs.Dirs.{of}
use Rattle.quic_paths.specs.Responses.{Response}
use Rattle.quic_retransmits.specs.declared.retransmits.ControlKind.{ControlKind}
use Rattle.quic_retransmits.specs.declared.retransmits.ControlKind.TheVariants.{HandshakeDone, ResetStream, StopSending, MaxData, MaxStreamData, MaxStreams, DataBlocked, StreamDataBlocked, NewConnectionId, RetireConnectionId}
use Rattle.quic_streams_state.specs.declared.state.StreamsState.{StreamsState}
use Rattle.quic_streams_state.specs.Control.{Entry, done_entry, data_entry, count_entry, blocked_entry, flagged, waiting, without_first, kind_of, dir_named, frame_of_first}
use Rattle.quic_streams_laws.specs.KindLaws.{GoesFirst}
use Rattle.quic_machine.specs.Parts.{Waiting}
use Rattle.quic_machine.specs.Validation.{challenge_frame, response_frame}
use Rattle.quic_machine.specs.End.{End}
use Rattle.quic_machine.specs.Poll.{Draft, no_frames, lazied_as, draft_as, Leaving, request_of}
use Rattle.quic_machine.specs.DraftLaws.{Writing, by_leave, MayLeave}
use Rattle.quic_machine.specs.Puts as puts
use Rattle.quic_headline.specs.InFlight.{is_handshake_done, is_max_data, is_data_blocked, is_max_streams}
use Rattle.quic_headline.specs.Waited.{is_path_challenge, is_path_response}

-- HANDSHAKE_DONE, MAX_DATA, MAX_STREAMS of one-way or of two-way streams, DATA_BLOCKED,
-- PATH_CHALLENGE and PATH_RESPONSE
pub data Flag : Type 0 where
  confirmed : Flag
  all : Flag
  counts : (one_way : Bool) → Flag
  blocked : Flag
  challenge : Flag
  response : Flag

-- whether a frame is such
abbrev pub says : Flag → FrameValue → Bool
says confirmed f = is_handshake_done f
says all f = is_max_data f
says (counts one_way) f = is_max_streams one_way f
says blocked f = is_data_blocked f
says challenge f = is_path_challenge f
says response f = is_path_response f

-- whether it waits
abbrev pub flag : Flag → Waiting → Bool
flag confirmed w = w.frames.handshake_done
flag all w = w.frames.max_data
flag (counts one_way) w = of (dir_named one_way) w.frames.max_stream_id
flag blocked w = w.frames.data_blocked
flag challenge w = is_some w.signals.challenge
flag response w = is_some w.signals.response

-- the kind of its frames; those of path validation are of none
abbrev kind_said : Flag → Option ControlKind
kind_said confirmed = Some HandshakeDone
kind_said all = Some MaxData
kind_said (counts one_way) = Some (MaxStreams (dir_named one_way))
kind_said blocked = Some DataBlocked
kind_said challenge = None
kind_said response = None

-- a frame that says it is of that kind
says_kind : (k : Flag) (f : FrameValue) → says k f ≡ true → kind_of f ≡ kind_said k
says_kind confirmed handshake_done is = refl
says_kind confirmed f is = cc
says_kind all (max_data limit) is = refl
says_kind all f is = cc
says_kind (counts true) (max_streams f) is = ap (λ (b : Bool). Some (MaxStreams (dir_named b))) is
says_kind (counts true) f is = cc
says_kind (counts false) (max_streams f) is = go f.one_way is
  where
    go : (b : Bool) → not b ≡ true → Some (MaxStreams (dir_named b)) ≡ Some (MaxStreams (dir_named false))
    go true is = cc
    go false is = refl
says_kind (counts false) f is = cc
says_kind blocked (data_blocked limit) is = refl
says_kind blocked f is = cc
says_kind challenge (path_challenge token) is = refl
says_kind challenge f is = cc
says_kind response (path_response token) is = refl
says_kind response f is = cc

-- a frame of no kind says none that has one
no_kind : (k : Flag) (kind : ControlKind) (f : FrameValue) → kind_said k ≡ Some kind → kind_of f ≡ None → says k f ≡ false
no_kind k kind f has none = go (says k f) refl
  where
    go : (b : Bool) → says k f ≡ b → b ≡ false
    go true is = (let clash : ◌≡◌ {A = Option ControlKind} None (Some kind) = sym none ∙ (says_kind k f is ∙ has) in cc)
    go false is = refl

-- where it isn't of path validation either, it says none
says_none : (k : Flag) (f : FrameValue) → kind_of f ≡ None → is_path_challenge f ≡ false → is_path_response f ≡ false → says k f ≡ false
says_none confirmed f none asks answers = no_kind confirmed HandshakeDone f refl none
says_none all f none asks answers = no_kind all MaxData f refl none
says_none (counts one_way) f none asks answers = no_kind (counts one_way) (MaxStreams (dir_named one_way)) f refl none
says_none blocked f none asks answers = no_kind blocked DataBlocked f refl none
says_none challenge f none asks answers = asks
says_none response f none asks answers = answers

-- ---- the first that waits of a kind is taken

-- what waits without it
abbrev dropped : ControlKind → Waiting → Waiting
dropped kind w = record w { frames = without_first kind w.frames }

-- it waits no more, or the kind is another and it is as it was
abbrev Taken : Flag → ControlKind → Waiting → Type 0
Taken k kind w = (flag k (dropped kind w) ≡ false) ⊎ ((Some kind ≡ kind_said k → ⊥) × (flag k (dropped kind w) ≡ flag k w))

taken_count : (one_way : Bool) (dir : Dir) (w : Waiting) → Taken (counts one_way) (MaxStreams dir) w
taken_count true Uni w = inl refl
taken_count false Bi w = inl refl
taken_count true Bi w = inr ((λ is. cc), refl)
taken_count false Uni w = inr ((λ is. cc), refl)

taken : (k : Flag) (kind : ControlKind) (w : Waiting) → Taken k kind w
taken confirmed HandshakeDone w = inl refl
taken confirmed ResetStream w = inr ((λ is. cc), refl)
taken confirmed StopSending w = inr ((λ is. cc), refl)
taken confirmed MaxData w = inr ((λ is. cc), refl)
taken confirmed MaxStreamData w = inr ((λ is. cc), refl)
taken confirmed (MaxStreams dir) w = inr ((λ is. cc), refl)
taken confirmed DataBlocked w = inr ((λ is. cc), refl)
taken confirmed StreamDataBlocked w = inr ((λ is. cc), refl)
taken confirmed NewConnectionId w = inr ((λ is. cc), refl)
taken confirmed RetireConnectionId w = inr ((λ is. cc), refl)
taken all MaxData w = inl refl
taken all HandshakeDone w = inr ((λ is. cc), refl)
taken all ResetStream w = inr ((λ is. cc), refl)
taken all StopSending w = inr ((λ is. cc), refl)
taken all MaxStreamData w = inr ((λ is. cc), refl)
taken all (MaxStreams dir) w = inr ((λ is. cc), refl)
taken all DataBlocked w = inr ((λ is. cc), refl)
taken all StreamDataBlocked w = inr ((λ is. cc), refl)
taken all NewConnectionId w = inr ((λ is. cc), refl)
taken all RetireConnectionId w = inr ((λ is. cc), refl)
taken (counts one_way) (MaxStreams dir) w = taken_count one_way dir w
taken (counts one_way) HandshakeDone w = inr ((λ is. cc), refl)
taken (counts one_way) MaxData w = inr ((λ is. cc), refl)
taken (counts one_way) ResetStream w = inr ((λ is. cc), refl)
taken (counts one_way) StopSending w = inr ((λ is. cc), refl)
taken (counts one_way) MaxStreamData w = inr ((λ is. cc), refl)
taken (counts one_way) DataBlocked w = inr ((λ is. cc), refl)
taken (counts one_way) StreamDataBlocked w = inr ((λ is. cc), refl)
taken (counts one_way) NewConnectionId w = inr ((λ is. cc), refl)
taken (counts one_way) RetireConnectionId w = inr ((λ is. cc), refl)
taken blocked DataBlocked w = inl refl
taken blocked HandshakeDone w = inr ((λ is. cc), refl)
taken blocked MaxData w = inr ((λ is. cc), refl)
taken blocked ResetStream w = inr ((λ is. cc), refl)
taken blocked StopSending w = inr ((λ is. cc), refl)
taken blocked MaxStreamData w = inr ((λ is. cc), refl)
taken blocked (MaxStreams dir) w = inr ((λ is. cc), refl)
taken blocked StreamDataBlocked w = inr ((λ is. cc), refl)
taken blocked NewConnectionId w = inr ((λ is. cc), refl)
taken blocked RetireConnectionId w = inr ((λ is. cc), refl)
taken challenge kind w = inr ((λ is. cc), refl)
taken response kind w = inr ((λ is. cc), refl)

-- what has a first that waits, waits
flag_set : (b : Bool) (entry : Entry) (s : StreamsState) (f : FrameValue) → frame_of_first (flagged b entry) s ≡ Some f → b ≡ true
flag_set true entry s f is = refl
flag_set false entry s f is = cc

-- so it does where the first of its kind waits
first_set : (k : Flag) (kind : ControlKind) (w : Waiting) (s : StreamsState) (f : FrameValue) → Some kind ≡ kind_said k → frame_of_first (waiting kind w.frames) s ≡ Some f → flag k w ≡ true
first_set k kind w s f same is = go k same
  where
    at_kind : (other : ControlKind) → ◌≡◌ {A = Option ControlKind} (Some kind) (Some other) → frame_of_first (waiting other w.frames) s ≡ Some f
    at_kind other both = (let kinds : kind ≡ other = cc in subst (λ (x : ControlKind). frame_of_first (waiting x w.frames) s ≡ Some f) kinds is)

    go : (k : Flag) → Some kind ≡ kind_said k → flag k w ≡ true
    go confirmed both = flag_set w.frames.handshake_done done_entry s f (at_kind HandshakeDone both)
    go all both = flag_set w.frames.max_data data_entry s f (at_kind MaxData both)
    go (counts one_way) both = flag_set (of (dir_named one_way) w.frames.max_stream_id) (count_entry (dir_named one_way)) s f (at_kind (MaxStreams (dir_named one_way)) both)
    go blocked both = flag_set w.frames.data_blocked blocked_entry s f (at_kind DataBlocked both)
    go challenge both = cc
    go response both = cc

-- ---- a frame goes

-- it waits no more, or as before
abbrev Fewer : Flag → Waiting → Waiting → Type 0
Fewer k w v = (flag k v ≡ false) ⊎ (flag k v ≡ flag k w)

-- so it is where a frame goes, and what it says waited, and waits no more
abbrev Goes : Flag → FrameValue → Waiting → Waiting → Type 0
Goes k f w v = (says k f ≡ true → (flag k w ≡ true) × (flag k v ≡ false)) × Fewer k w v

drop_fewer : (k : Flag) (kind : ControlKind) (w : Waiting) → Fewer k w (dropped kind w)
drop_fewer k kind w = elim (taken k kind w) [ inl none ↦ inl none | inr same ↦ inr same.1 ]

-- a frame of control
control_goes : (k : Flag) (kind : ControlKind) (f : FrameValue) (w : Waiting) (s : StreamsState) → GoesFirst kind w.frames s f → Goes k f w (dropped kind w)
control_goes k kind f w s is = (said, drop_fewer k kind w)
  where
    said : says k f ≡ true → (flag k w ≡ true) × (flag k (dropped kind w) ≡ false)
    said says_it = (let same : Some kind ≡ kind_said k = sym is.of_kind ∙ says_kind k f says_it in (
      first_set k kind w s f same is.first,
      elim (taken k kind w) [ inl none ↦ none | inr other ↦ absurd (other.0 same) ],
    ))

-- PATH_CHALLENGE, which waited
challenge_goes : (k : Flag) (word : ℕ) (w : Waiting) → w.signals.challenge ≡ Some word → Goes k (challenge_frame word) w (record w { signals = record w.signals { challenge = None } })
challenge_goes challenge word w is = ((λ said. (ap is_some is, refl)), inl refl)
challenge_goes (counts true) word w is = ((λ said. cc), inr refl)
challenge_goes (counts false) word w is = ((λ said. cc), inr refl)
challenge_goes k word w is = ((λ said. cc), inr refl)

-- PATH_RESPONSE, which waited
response_goes : (k : Flag) (r : Response) (w : Waiting) → w.signals.response ≡ Some r → Goes k (response_frame r) w (record w { signals = record w.signals { response = None } })
response_goes response r w is = ((λ said. (ap is_some is, refl)), inl refl)
response_goes (counts true) r w is = ((λ said. cc), inr refl)
response_goes (counts false) r w is = ((λ said. cc), inr refl)
response_goes k r w is = ((λ said. cc), inr refl)

-- PING
ping_goes : (k : Flag) (w : Waiting) → Goes k ping w (record w { signals = record w.signals { ping = false } })
ping_goes (counts true) w = ((λ said. cc), inr refl)
ping_goes (counts false) w = ((λ said. cc), inr refl)
ping_goes k w = ((λ said. cc), inr refl)

-- IMMEDIATE_ACK
immediate_goes : (k : Flag) (w : Waiting) → Goes k immediate_ack w (record w { signals = record w.signals { immediate = false } })
immediate_goes (counts true) w = ((λ said. cc), inr refl)
immediate_goes (counts false) w = ((λ said. cc), inr refl)
immediate_goes k w = ((λ said. cc), inr refl)

-- ACK_FREQUENCY is none of them
pub asked_flag : (k : Flag) (w : Waiting) (waits : Bool) → flag k (record w { frames = record w.frames { ack_frequency = waits } }) ≡ flag k w
asked_flag confirmed w waits = refl
asked_flag all w waits = refl
asked_flag (counts one_way) w waits = refl
asked_flag blocked w waits = refl
asked_flag challenge w waits = refl
asked_flag response w waits = refl

request_goes : (k : Flag) (r : AckFrequencyValue) (w : Waiting) → Goes k (ack_frequency r) w (record w { frames = record w.frames { ack_frequency = false } })
request_goes (counts true) r w = ((λ said. cc), inr refl)
request_goes (counts false) r w = ((λ said. cc), inr refl)
request_goes k r w = ((λ said. cc), inr refl)

-- another frame
other_goes : (k : Flag) (f : FrameValue) (w : Waiting) → kind_of f ≡ None → is_path_challenge f ≡ false → is_path_response f ≡ false → Goes k f w w
other_goes k f w none asks answers = ((λ said. absurd (both_ways (says k f) (says_none k f none asks answers) said)), inr refl)

-- ---- a draft

-- one more frame among some
any_more : (test : FrameValue → Bool) (fs : List FrameValue) (f : FrameValue) → list_any test (fs ++ f ∷ []) ≡ true → (list_any test fs ≡ true) ⊎ (test f ≡ true)
any_more test fs f some = elim (or_cases (list_any test fs) (test f || false) (sym (list_any-append test fs (f ∷ [])) ∙ some)) [
  | inl old ↦ inl old
  | inr new ↦ inr (last (test f) new)
]
  where
    last : (b : Bool) → (b || false) ≡ true → b ≡ true
    last true is = refl
    last false is = is

module _ (base : Waiting) (k : Flag) where
  -- Of what waited at first: what waits still did; what was said waits no more; and what was said
  -- did.
  pub record Said (frames : List FrameValue) (w : Waiting) : Type 0 where
    pub waits : flag k w ≡ true → flag k base ≡ true
    pub gone : list_any (says k) frames ≡ true → flag k w ≡ false
    pub waited : list_any (says k) frames ≡ true → flag k base ≡ true

  -- so it is of a draft
  abbrev pub IsSaid : Draft → Type 0
  IsSaid d = Said d.frames d.end.waiting

  -- where it waits no more, or as before
  still_waits : (w v : Waiting) → Fewer k w v → (flag k w ≡ true → flag k base ≡ true) → flag k v ≡ true → flag k base ≡ true
  still_waits w v (inl none) waits is = absurd (both_ways (flag k v) none is)
  still_waits w v (inr same) waits is = waits (sym same ∙ is)

  still_gone : (w v : Waiting) → Fewer k w v → flag k w ≡ false → flag k v ≡ false
  still_gone w v (inl none) gone = none
  still_gone w v (inr same) gone = same ∙ gone

  drops : (fs : List FrameValue) (w v : Waiting) → Fewer k w v → Said fs w → Said fs v
  drops fs w v fewer i = record { waits = still_waits w v fewer i.waits; gone = λ some. still_gone w v fewer (i.gone some); waited = i.waited }

  -- another frame goes
  sends : (fs : List FrameValue) (f : FrameValue) (w v : Waiting) → Goes k f w v → Said fs w → Said (fs ++ f ∷ []) v
  sends fs f w v goes i = record {
    waits = still_waits w v goes.1 i.waits;
    gone = λ some. elim (any_more (says k) fs f some) [ inl old ↦ still_gone w v goes.1 (i.gone old) | inr new ↦ (goes.0 new).1 ];
    waited = λ some. elim (any_more (says k) fs f some) [ inl old ↦ i.waited old | inr new ↦ i.waits (goes.0 new).0 ];
  }

  pub draft_said : (leaving : Leaving) (e : End) → MayLeave leaving e → e.waiting ≡ base → IsSaid (draft_as leaving e)
  draft_said leaving e may is = by_leave IsSaid keep leaving e may (none leaving)
    where
      keep : Writing IsSaid
      keep (puts.drops kind) d may i = drops d.frames d.end.waiting (dropped kind d.end.waiting) (drop_fewer k kind d.end.waiting) i
      keep (puts.control kind f) d is i = sends d.frames f d.end.waiting (dropped kind d.end.waiting) (control_goes k kind f d.end.waiting d.end.streams is) i
      keep (puts.challenge word) d is i = sends d.frames (challenge_frame word) d.end.waiting (record d.end.waiting { signals = record d.end.waiting.signals { challenge = None } }) (challenge_goes k word d.end.waiting is) i
      keep (puts.response r) d is i = sends d.frames (response_frame r) d.end.waiting (record d.end.waiting { signals = record d.end.waiting.signals { response = None } }) (response_goes k r d.end.waiting is) i
      keep puts.ping d may i = sends d.frames ping d.end.waiting (record d.end.waiting { signals = record d.end.waiting.signals { ping = false } }) (ping_goes k d.end.waiting) i
      keep puts.immediate d may i = sends d.frames immediate_ack d.end.waiting (record d.end.waiting { signals = record d.end.waiting.signals { immediate = false } }) (immediate_goes k d.end.waiting) i
      keep puts.request d may i = sends d.frames (ack_frequency (request_of d.end)) d.end.waiting (record d.end.waiting { frames = record d.end.waiting.frames { ack_frequency = false } }) (request_goes k (request_of d.end) d.end.waiting) i
      keep p d may i = sends d.frames _ d.end.waiting d.end.waiting (other_goes k _ d.end.waiting refl refl refl) i

      none : (l : Leaving) → IsSaid (no_frames (lazied_as l e))
      none l = record { waits = λ set. sym (ap (flag k) is) ∙ set; gone = λ some. cc; waited = λ some. cc }

  -- PADDING says nothing
  pub said_padded : (fs : List FrameValue) (count : ℕ) → list_any (says k) (fs ++ replicate count padding) ≡ list_any (says k) fs
  said_padded [] zero = refl
  said_padded [] (suc count) = ap (λ (b : Bool). b || list_any (says k) (replicate count padding)) (says_none k padding refl refl refl) ∙ said_padded [] count
  said_padded (f ∷ fs) count = ap (λ (b : Bool). says k f || b) (said_padded fs count)
