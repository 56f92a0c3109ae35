-- What a poll makes of the answer that waits: it goes with all that waits, and leaves none; and a
-- datagram with a frame of path validation has 1200 bytes.
use Rattle.std.proofs.Common.{◌≡◌, ◌⊎◌, ℕ, zero, suc, ◌≤◌, Bool, true, false, not, ◌||◌, List, [], ◌∷◌, replicate, Option, Some, None, refl, sym, ap, ◌∙◌, inl, inr, arith}
use Rattle.std.specs.List.{list_any}
use Rattle.std.specs.Option.{is_some}
use Rattle.std.proofs.lemmas.Bool.{or_cases, or_left, or_right, both_ways}
use Rattle.std.proofs.lemmas.List.Folds.{list_any-append}
use Rattle.quic_wire.specs.Value.{FrameValue, padding}
use Rattle.quic_recovery_core.specs.PendingAcks.{can_send}
use Rattle.quic_streams_state.specs.Waiting.{is_empty, can_send_stream_data}
use Rattle.quic_paths.specs.Responses.{Response}
use Rattle.quic_machine.specs.Parts.{signals_wait}
use Rattle.quic_machine.specs.Validation.{path_waits}
use Rattle.quic_machine.specs.End.{End}
use Rattle.quic_machine.specs.Poll.{Draft, no_frames, zeros_behind, datagram_size, response_if, ping_if, immediate_if, with_challenge_frame, with_response_frame, with_ping_frame, with_signal_frames, with_frequency_frame, with_control_frames, with_message_frames, with_asking, with_ack, ack_fits, ack_if, composed_if, composed, lazied, least_by, message_waits, asks_to_go, waits, Leaving, Ready, whole, alone, probe, closing, nothing, draft_as, goes, goes_as, asking}
use Rattle.quic_machine.specs.DraftLaws.{by_entries, by_messages, by_streams, left_least}
use Rattle.quic_machine.specs.PollCases.{ready_at, draft_at, may_leave_at, ready_closes_not}
use Rattle.quic_headline.specs.Observer.{asks_of}
use Rattle.quic_headline.specs.Waited.{is_path_challenge, is_path_response}
use Rattle.quic_headline.specs.Responses.{validates_path}
use Rattle.quic_headline.proofs.Packets.Entries.{by_request}
use Rattle.quic_headline.proofs.Packets.Flying.{asking_padded}
use Rattle.quic_headline.proofs.Places.Parties.{sent_as}
use Rattle.quic_headline.proofs.Steps.Probes.{begun}
use Rattle.quic_headline.proofs.Steps.Probing.{IsProbing, probe_goes}
use Rattle.quic_headline.proofs.Validated.Went.{draft_went, ready_replies}
use Rattle.quic_headline.proofs.Responses.Drafts.{Says, draft_says, none_answers, one_answers, padded_says, as_long}

-- ---- where it waits, it goes

-- no answer waits behind what is composed
abbrev Gone : Draft → Type 0
Gone d = d.end.waiting.signals.response ≡ None

signals_gone : (d : Draft) → Gone (with_signal_frames d)
signals_gone d = hastened (with_ping_frame answered).end.waiting.signals.immediate (with_ping_frame answered) (pinged answered.end.waiting.signals.ping answered (gone (with_challenge_frame d) (with_challenge_frame d).end.waiting.signals.response refl))
  where
    answered : Draft
    answered = with_response_frame (with_challenge_frame d)

    gone : (x : Draft) (o : Option Response) → x.end.waiting.signals.response ≡ o → Gone (response_if o x)
    gone x None is = is
    gone x (Some r) is = refl

    pinged : (b : Bool) (x : Draft) → Gone x → Gone (ping_if b x)
    pinged true x i = i
    pinged false x i = i

    hastened : (b : Bool) (x : Draft) → Gone x → Gone (immediate_if b x)
    hastened true x i = i
    hastened false x i = i

asking_gone : (d : Draft) → Gone (with_asking d)
asking_gone d = by_streams Gone (λ x id h room found first left is counts i. i) (with_message_frames (with_control_frames (with_frequency_frame (with_signal_frames d))))
    (by_messages Gone (λ x m ms is fit i. i) (with_control_frames (with_frequency_frame (with_signal_frames d))) (by_entries Gone (λ x kind i. i) (λ x kind f is i. i) (with_frequency_frame (with_signal_frames d)) (by_request Gone (with_signal_frames d) (λ waits i. i) (signals_gone d))))

composed_gone : (e : End) → Gone (composed e)
composed_gone e = go (can_send e.acknowledging)
  where
    late : (b : Bool) (d : Draft) → Gone d → Gone (ack_if b d)
    late true d i = i
    late false d i = i

    go : (b : Bool) → Gone (composed_if b e)
    go true = asking_gone (with_ack (no_frames e))
    go false = late (ack_fits (with_asking (no_frames e))) (with_asking (no_frames e)) (asking_gone (no_frames e))

-- where it waits, something asks
pub response_asks : (e : End) (r : Response) → e.waiting.signals.response ≡ Some r → asks_to_go e ≡ true
response_asks e r set =
    or_left (signals_wait e.waiting.signals) (not (is_empty e.waiting.frames e.streams) || (message_waits e || can_send_stream_data e.streams))
    (or_right (is_some e.waiting.signals.challenge) (is_some e.waiting.signals.response || (e.waiting.signals.ping || e.waiting.signals.immediate))
    (or_left (is_some e.waiting.signals.response) (e.waiting.signals.ping || e.waiting.signals.immediate) (ap (λ (o : Option Response). is_some o) set)))

module _ (e : End) (now : ℕ) where
  abbrev g : Ready
  g = ready_at e now

  -- it goes with a datagram that asks
  module _ (r : Response) (set : e.waiting.signals.response ≡ Some r) where
    abbrev d : Draft
    d = draft_at e now

    said_or : (leaving : Leaving) → g.leaving ≡ leaving → goes g ≡ true → asking (draft_as leaving g.end).frames ≡ true → (draft_as leaving g.end).end.waiting.signals.response ≡ Some r → ⊥
    said_or whole is some asks waits_still = (let clash : ◌≡◌ {A = Option Response} None (Some r) = sym (composed_gone (lazied g.end)) ∙ waits_still in cc)
    said_or alone is some asks waits_still = both_ways (asking (draft_as alone g.end).frames) refl asks
    said_or (probe size) is some asks waits_still =
        let q : IsProbing (begun e now) g = probe_goes e now size is in
        both_ways (waits (begun e now)) q.idle (or_right (can_send (begun e now).acknowledging) (asks_to_go (begun e now)) (response_asks (begun e now) r set))
    said_or (closing f) is some asks waits_still = ready_closes_not e now f is
    said_or (nothing held) is some asks waits_still = both_ways (goes g) (ap goes_as is) some

    pub asking_responds : goes g ≡ true → asks_of (sent_as e now d) ≡ true → list_any is_path_response (sent_as e now d).frames ≡ true
    asking_responds some asks = elim (padded_says e.waiting.signals.response d.end.waiting.signals.response d.frames (zeros_behind d) says) [
      | inl none ↦ absurd (said_or g.leaving refl some (sym (asking_padded d.frames (zeros_behind d)) ∙ asks) (none.same ∙ set))
      | inr one ↦ one_answers (sent_as e now d).frames _ [] one.said
    ]
      where
        says : Says e.waiting.signals.response d.end.waiting.signals.response d.frames
        says = draft_says e.waiting.signals.response g.leaving g.end (may_leave_at e now) (ready_replies e now)

-- ---- how long a datagram is

-- PADDING doesn't validate a path
pub no_padding : (count : ℕ) → list_any validates_path (replicate count padding) ≡ false
no_padding zero = refl
no_padding (suc count) = no_padding count

-- one of both is among frames
either_any : (fs : List FrameValue) → list_any validates_path fs ≡ true → (list_any is_path_challenge fs ≡ true) ⊎ (list_any is_path_response fs ≡ true)
either_any [] is = cc
either_any (f ∷ fs) is = elim (or_cases (validates_path f) (list_any validates_path fs) is) [
  | inl here ↦ elim (or_cases (is_path_challenge f) (is_path_response f) here) [
    | inl asks ↦ inl (or_left (is_path_challenge f) (list_any is_path_challenge fs) asks)
    | inr answers ↦ inr (or_left (is_path_response f) (list_any is_path_response fs) answers)
  ]
  | inr there ↦ elim (either_any fs there) [
    | inl asks ↦ inl (or_right (is_path_challenge f) (list_any is_path_challenge fs) asks)
    | inr answers ↦ inr (or_right (is_path_response f) (list_any is_path_response fs) answers)
  ]
]

module _ (e : End) (now : ℕ) where
  abbrev z : End
  z = (ready_at e now).end

  -- with such a frame, one waited
  waited : list_any validates_path (draft_at e now).frames ≡ true → path_waits z ≡ true
  waited is = elim (either_any (draft_at e now).frames is) [
    | inl asks ↦ elim (draft_went z.waiting.signals.challenge (ready_at e now).leaving z (may_leave_at e now) refl) [
      | inl none ↦ absurd (both_ways (list_any is_path_challenge (draft_at e now).frames) none.none asks)
      | inr one ↦ or_left (is_some z.waiting.signals.challenge) (is_some z.waiting.signals.response) (ap (λ (o : Option ℕ). is_some o) one.is)
    ]
    | inr answers ↦ elim (draft_says z.waiting.signals.response (ready_at e now).leaving z (may_leave_at e now) refl) [
      | inl none ↦ absurd (both_ways (list_any is_path_response (draft_at e now).frames) (none_answers (draft_at e now).frames none.none) answers)
      | inr one ↦ or_right (is_some z.waiting.signals.challenge) (is_some z.waiting.signals.response) (ap (λ (o : Option Response). is_some o) one.is)
    ]
  ]

  filled : (leaving : Leaving) → (ready_at e now).leaving ≡ leaving → goes (ready_at e now) ≡ true → list_any validates_path (draft_as leaving z).frames ≡ true → path_waits z ≡ true → 1200 ≤ (draft_as leaving z).least
  filled whole is some has set = (
      let least : (draft_as whole z).least ≡ 1200 = left_least whole (lazied z) ∙ ap (λ (b : Bool). least_by whole b) set in
      omega (arith, least))
  filled alone is some has set = absurd (both_ways (list_any validates_path (draft_as alone z).frames) refl has)
  filled (probe size) is some has set = absurd (both_ways (list_any validates_path (draft_as (probe size) z).frames) refl has)
  filled (closing f) is some has set = absurd (ready_closes_not e now f is)
  filled (nothing held) is some has set = absurd (both_ways (goes (ready_at e now)) (ap goes_as is) some)

  pub fills : goes (ready_at e now) ≡ true → list_any validates_path (sent_as e now (draft_at e now)).frames ≡ true → 1200 ≤ (sent_as e now (draft_at e now)).size
  fills some has =
      let d : Draft = draft_at e now in
      let among : list_any validates_path d.frames ≡ true = elim (or_cases (list_any validates_path d.frames) (list_any validates_path (replicate (zeros_behind d) padding)) (sym (list_any-append validates_path d.frames (replicate (zeros_behind d) padding)) ∙ has)) [
        | inl here ↦ here
        | inr zeros ↦ absurd (both_ways (list_any validates_path (replicate (zeros_behind d) padding)) (no_padding (zeros_behind d)) zeros)
      ] in
      let least : 1200 ≤ d.least = filled (ready_at e now).leaving refl some among (waited among) in
      let long : d.least ≤ datagram_size d = as_long d in
      omega (arith, least, long)
