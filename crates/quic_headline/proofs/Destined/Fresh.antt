-- Own ids that are issued while an end takes a packet, and drawn behind it (RFC 9000, section
-- 5.1.1): in the order of their numbers, each of words of its own.
use Rattle.std.proofs.Common.{◌≡◌, ◌≢◌, ℕ, suc, ◌+◌, ◌<◌, ◌≤◌, ◌⊎◌, Bool, true, false, nat_lt, List, [], ◌∷◌, ◌++◌, length, length-append, Option, Some, None, Result, Ok, Err, refl, sym, ap, subst, inl, inr, arith}
use Rattle.std.specs.Prelude.{set, slice_get, if◌then◌else◌}
use Rattle.std.specs.declared.ops.Range.{Range}
use Rattle.std.proofs.lemmas.Bool.{ltb-true, ltb-false}
use Rattle.quic_wire_core.specs.TransportError.{ErrorValue}
use Rattle.quic_wire_core.specs.declared.shared.IssuedCid.{IssuedCid}
use Rattle.quic_wire.specs.Value.{FrameValue, AckValue, ack, stream, reset_stream, stop_sending, max_data, max_stream_data, max_streams, datagram, path_response, handshake_done, new_connection_id, retire_connection_id, ack_frequency}
use Rattle.quic_ids.specs.CidState.{OwnIds, retirement_answer}
use Rattle.quic_ids.specs.CidQueue.{insert_answer}
use Rattle.quic_ids.specs.declared.cid_queue.InsertError.{InsertError}
use Rattle.quic_ids.specs.declared.cid_queue.InsertError.TheVariants as inserts
use Rattle.quic_paths.specs.Paths.{is_asked}
use Rattle.quic_retransmits.specs.Retransmits.{Retransmits, can_retire}
use Rattle.quic_machine.specs.MessageCalls.{most_message}
use Rattle.quic_machine.specs.Sizes.{without_longer_if, shortened}
use Rattle.quic_machine.specs.Ids.{Drawing, words_behind, words_of_id, with_id, drawn_id, drawn_one, drawn_places, undrawn_id, retired, frame_of, retires_for}
use Rattle.quic_machine.specs.IdFrames.{retiring, with_taken_up, issued_if, issues_for}
use Rattle.quic_machine.specs.Validation.{word_of, validated_if}
use Rattle.quic_machine.specs.End.{End, with_ids}
use Rattle.quic_machine.specs.Receive.{retired_for, id_judged, retirement_judged, take_frame}
use Rattle.quic_machine.specs.FrameCases.{IsApart, OnStreams, begun, issues_may}
use Rattle.quic_machine.specs.Steps as steps
use Rattle.quic_headline.specs.Runs.{Packet, In}
use Rattle.quic_headline.specs.Observer.{Sent}
use Rattle.quic_headline.proofs.Places.Told.{in_append}
use Rattle.quic_headline.proofs.Packets.Growth.{in_more}
use Rattle.quic_headline.proofs.Packets.Invariant.{AreTracked}
use Rattle.quic_headline.proofs.Packets.Named.{NamesTaken, SettlesOn, Stands, frames_settle}
use Rattle.quic_headline.proofs.Packets.Delivered.{arrived}
use Rattle.quic_headline.proofs.Packets.Ids.{SentSayIds, AnyNumber, carried_waits}
use Rattle.quic_headline.proofs.Packets.Apart.{by_frequency, by_heard_done}
use Rattle.quic_headline.proofs.Halves.PileSteps.{acked_same, reset_acked_same, stream_same, reset_same}
use Rattle.quic_headline.proofs.Channel.IdLists.{retired_issued, room_left, next_issued}
use Rattle.quic_headline.proofs.Destined.Sole.{HasNone, IsSole, sole_more, sole_last, sole_get, sole_set, in_sole}

-- ---- ids that are due

-- at these places ids wait to be told that are still to be drawn: each alone has its number, which
-- are these, one behind another from this one on
abbrev pub AreDue : ℕ → List ℕ → List IssuedCid → Type 0
AreDue n [] cids = Unit {0}
AreDue n (place ∷ places) cids = IsSole cids place n × AreDue (suc n) places cids

due_more : (n : ℕ) (places : List ℕ) (cids more : List IssuedCid) → ((m : ℕ) → n ≤ m → m < n + length places → HasNone m more) → AreDue n places cids → AreDue n places (cids ++ more)
due_more n [] cids more none d = tt
due_more n (place ∷ places) cids more none d = (sole_more cids more place n (none n (omega arith) (omega arith)) d.0, due_more (suc n) places cids more (λ m low high. none m (omega arith) (omega arith)) d.1)

due_last : (n : ℕ) (places : List ℕ) (cids : List IssuedCid) (place : ℕ) → IsSole cids place (n + length places) → AreDue n places cids → AreDue n (places ++ place ∷ []) cids
due_last n [] cids place sole d = (let same : n + 0 ≡ n = omega arith in subst (IsSole cids place) same sole, tt)
due_last n (p ∷ ps) cids place sole d = (d.0, due_last (suc n) ps cids place (let same : n + suc (length ps) ≡ suc n + length ps = omega arith in subst (IsSole cids place) same sole) d.1)

due_set : (n : ℕ) (places : List ℕ) (cids : List IssuedCid) (at : ℕ) (c v : IssuedCid) → slice_get cids at ≡ Some c → v.sequence ≡ c.sequence → AreDue n places cids → AreDue n places (set cids at v)
due_set n [] cids at c v there same d = tt
due_set n (place ∷ places) cids at c v there same d = (sole_set cids place at n c v there same d.0, due_set (suc n) places cids at c v there same d.1)

-- ---- while frames are taken

module _ (C : IssuedCid → Type 0) (old : ℕ) (low : (c : IssuedCid) → C c → c.sequence < old) (count : ℕ) where
  -- what waits was drawn before, or has one of the numbers that are issued since
  abbrev pub IsNew : ℕ → ℕ → Type 0
  IsNew issued n = (old ≤ n) × (n < issued)

  pub record Issuing (issued : ℕ) (undrawn : List ℕ) (cids : List IssuedCid) (drawn : ℕ) : Type 0 where
    pub many : issued ≡ old + length undrawn
    pub due : AreDue old undrawn cids
    pub waits : (c : IssuedCid) → In c cids → C c ⊎ IsNew issued c.sequence
    pub drew : count ≤ drawn

  -- all that waits has a number that was issued
  numbers_low : (issued : ℕ) (undrawn : List ℕ) (cids : List IssuedCid) (drawn : ℕ) → Issuing issued undrawn cids drawn → HasNone issued cids
  numbers_low issued undrawn cids drawn i c j same = elim (i.waits c j) [
    | inl was ↦ (let less = low c was in let many = i.many in absurd (omega arith))
    | inr new ↦ (let less = new.1 in absurd (omega arith))
  ]

  -- more wait that were told before
  issuing_more : (issued : ℕ) (undrawn : List ℕ) (cids more : List IssuedCid) (drawn : ℕ) → ((c : IssuedCid) → In c more → C c) → Issuing issued undrawn cids drawn → Issuing issued undrawn (cids ++ more) drawn
  issuing_more issued undrawn cids more drawn were i = record {
    many = i.many;
    due = due_more old undrawn cids more (λ m least most c j same. (let less = low c (were c j) in omega arith)) i.due;
    waits = λ c j. elim (in_append c cids more j) [ inl here ↦ i.waits c here | inr new ↦ inl (were c new) ];
    drew = i.drew;
  }

  -- the next one is issued
  issuing_next : (issued : ℕ) (undrawn : List ℕ) (cids : List IssuedCid) (drawn : ℕ) → Issuing issued undrawn cids drawn
      → Issuing (issued + 1) (undrawn ++ length cids ∷ []) (cids ++ undrawn_id issued ∷ []) drawn
  issuing_next issued undrawn cids drawn i = record {
    many = (let many = i.many in let more = length-append undrawn (length cids ∷ []) in omega arith);
    due = due_last old undrawn (cids ++ undrawn_id issued ∷ []) (length cids)
        (subst (IsSole (cids ++ undrawn_id issued ∷ []) (length cids)) i.many (sole_last cids (undrawn_id issued) (numbers_low issued undrawn cids drawn i)))
        (due_more old undrawn cids (undrawn_id issued ∷ []) other i.due);
    waits = λ c j. elim (in_more c (undrawn_id issued) cids j) [
      | inl here ↦ wider c.sequence (C c) (i.waits c here)
      | inr is ↦ subst (λ (d : IssuedCid). C d ⊎ IsNew (issued + 1) d.sequence) (sym is) (inr (last, omega arith))
    ];
    drew = i.drew;
  }
    where
      last : old ≤ issued
      last = let many = i.many in omega arith

      wider : (n : ℕ) (Was : Type 0) → Was ⊎ IsNew issued n → Was ⊎ IsNew (issued + 1) n
      wider n Was (inl was) = inl was
      wider n Was (inr new) = inr (new.0, (let less = new.1 in omega arith))

      other : (m : ℕ) → old ≤ m → m < old + length undrawn → HasNone m (undrawn_id issued ∷ [])
      other m least most c (inl is) same = (let number : c.sequence ≡ issued = ap (λ (x : IssuedCid). x.sequence) is in let many = i.many in omega arith)
      other m least most c (inr none) same = absurd none

  -- ---- at an end

  abbrev pub IssuingAt : End → Type 0
  IssuingAt e = Issuing e.ids.own.issued e.ids.undrawn e.waiting.frames.new_cids (e.filter.drawn + e.validation.drawn)

  lasts_issuing : (o : Option ℕ) (e : End) → IssuingAt e → IssuingAt (without_longer_if o e)
  lasts_issuing None e i = i
  lasts_issuing (Some most) e i = i

  fitted_issuing : (b : Bool) (e : End) → IssuingAt e → IssuingAt (shortened b e)
  fitted_issuing true e i = lasts_issuing (most_message e) e i
  fitted_issuing false e i = i

  -- a frame apart from streams
  apart_issuing : (f : FrameValue) (e : End) → IsApart f → IssuingAt e → IssuingAt (take_frame f e).end
  apart_issuing (ack a) e apart i = absurd apart
  apart_issuing (stream f) e apart i = absurd apart
  apart_issuing (reset_stream f) e apart i = absurd apart
  apart_issuing (stop_sending f) e apart i = absurd apart
  apart_issuing (max_data limit) e apart i = absurd apart
  apart_issuing (max_stream_data f) e apart i = absurd apart
  apart_issuing (max_streams f) e apart i = absurd apart
  apart_issuing (datagram m) e apart i = absurd apart
  apart_issuing (new_connection_id f) e apart i = go (retires_for (insert_answer e.ids.peer (frame_of f)))
    where
      retires : (b : Bool) (r : Range ℕ) → IssuingAt (retired_for b r f e).end
      retires true r = fitted_issuing _ (retiring r (with_taken_up f e)) i
      retires false r = i

      late : (b : Bool) → Issuing e.ids.own.issued e.ids.undrawn (let p : Retransmits = if b then e.waiting.frames else record e.waiting.frames { retire_cids = e.waiting.frames.retire_cids ++ f.sequence ∷ [] } in p.new_cids) (e.filter.drawn + e.validation.drawn)
      late true = i
      late false = i

      go : (r : Result (Option (Range ℕ)) InsertError) → IssuingAt (id_judged r f e).end
      go (Ok None) = fitted_issuing _ (with_taken_up f e) i
      go (Ok (Some r)) = retires (can_retire e.waiting.frames r.start r.end) r
      go (Err inserts.Retired) = late _
      go (Err inserts.ExceedsLimit) = i
  apart_issuing (retire_connection_id n) e apart i = go (retirement_answer e.ids.own n e.ids.limit)
    where
      left : End
      left = with_ids e (retired n e.ids)

      drawn : ℕ
      drawn = e.filter.drawn + e.validation.drawn

      there : IssuingAt left
      there = subst (λ (issued : ℕ). Issuing issued e.ids.undrawn e.waiting.frames.new_cids drawn) (sym (retired_issued e.ids.own n)) i

      issues : (b : Bool) → issues_for n e ≡ b → IssuingAt (issued_if b left)
      issues true may =
          let less = (room_left e.ids n (issues_may n e may)).1 in
          let same = retired_issued e.ids.own n in
          let own : OwnIds = left.ids.own in
          subst (λ (issued : ℕ). Issuing issued (left.ids.undrawn ++ length left.waiting.frames.new_cids ∷ []) (left.waiting.frames.new_cids ++ undrawn_id own.issued ∷ []) drawn)
          (sym (next_issued (length e.waiting.frames.new_cids) e.closing.clock (retired n e.ids) (omega arith))) (issuing_next own.issued left.ids.undrawn left.waiting.frames.new_cids drawn there)
      issues false may = there

      go : (r : Result Bool ErrorValue) → IssuingAt (retirement_judged r n e).end
      go (Ok more) = issues (issues_for n e) refl
      go (Err error) = i
  apart_issuing (path_response token) e apart i = go (is_asked e.validation.challenge (word_of token))
    where
      go : (b : Bool) → IssuingAt (validated_if b e)
      go true = i
      go false = i
  apart_issuing handshake_done e apart i = by_heard_done IssuingAt e i (λ c. i)
  apart_issuing (ack_frequency r) e apart i = by_frequency IssuingAt r e (λ threshold reordering frequency. i)
  apart_issuing f e apart i = i

  -- a frame on streams
  streams_issuing : (f : FrameValue) (e : End) → OnStreams f → IssuingAt e → IssuingAt (take_frame f e).end
  streams_issuing (stream f) e on i = subst (λ (cids : List IssuedCid). Issuing e.ids.own.issued e.ids.undrawn cids (e.filter.drawn + e.validation.drawn)) (sym (stream_same e.streams e.waiting.frames f).ids) i
  streams_issuing (reset_stream f) e on i = subst (λ (cids : List IssuedCid). Issuing e.ids.own.issued e.ids.undrawn cids (e.filter.drawn + e.validation.drawn)) (sym (reset_same e.streams e.waiting.frames f).ids) i
  streams_issuing (stop_sending f) e on i = i
  streams_issuing (max_data limit) e on i = i
  streams_issuing (max_stream_data f) e on i = i
  streams_issuing (max_streams f) e on i = i
  streams_issuing f e on i = absurd on

  -- what is acknowledged or lost, where what was told was drawn before
  settles_issuing : (theirs : List Packet) (sents : List Sent) → SentSayIds C AnyNumber sents → SettlesOn theirs sents IssuingAt
  settles_issuing theirs sents say (steps.again c) e may i =
      issuing_more e.ids.own.issued e.ids.undrawn e.waiting.frames.new_cids c.retransmits.new_cids (e.filter.drawn + e.validation.drawn) (carried_waits C AnyNumber c may.sent.frames may.is (λ f j. say may.sent f may.among j)).tells i
  settles_issuing theirs sents say (steps.acked m) e may i = subst (λ (cids : List IssuedCid). Issuing e.ids.own.issued e.ids.undrawn cids (e.filter.drawn + e.validation.drawn)) (sym (acked_same e.streams e.waiting.frames m).ids) i
  settles_issuing theirs sents say (steps.reset id) e may i = subst (λ (cids : List IssuedCid). Issuing e.ids.own.issued e.ids.undrawn cids (e.filter.drawn + e.validation.drawn)) (sym (reset_acked_same e.streams e.waiting.frames id).ids) i
  settles_issuing theirs sents say s e may i = i

  -- all frames of a packet
  pub frames_issuing : (theirs : List Packet) (sents : List Sent) → Stands theirs sents → SentSayIds C AnyNumber sents → (frames : List FrameValue) (e : End) (now n : ℕ) → ((a : AckValue) → In (ack a) frames → NamesTaken theirs a) → AreTracked sents e.tracking.packets
      → IssuingAt e → IssuingAt (arrived e now n frames).end
  frames_issuing theirs sents stands say frames e now n names tracked i = frames_settle theirs sents stands frames IssuingAt (record {
    settles = settles_issuing theirs sents say;
    names = λ a x among j. j;
    on_streams = λ f x among on j. streams_issuing f x on j;
    message = λ m x j. j;
    apart = λ f x among is j. apart_issuing f x is j;
  }) (begun e now n) names tracked i

-- ---- those that are due are drawn

module _ (issued : ℕ) (At : ℕ → (ℕ → ℕ) → Type 0) (next : (n : ℕ) (ws : ℕ → ℕ) → At n ws → At (suc n) (words_behind words_of_id ws)) (G : IssuedCid → Type 0)
    (made : (n : ℕ) (ws : ℕ → ℕ) → n < issued → At n ws → G (drawn_id ws n)) where
  -- those of lower numbers are
  abbrev Going : ℕ → Drawing → Type 0
  Going n d = (c : IssuedCid) → In c d.waiting → G c ⊎ ((n ≤ c.sequence) × (c.sequence < issued))

  abbrev pub AllDrawn : Drawing → Type 0
  AllDrawn d = (c : IssuedCid) → In c d.waiting → G c

  none_left : (c : IssuedCid) → G c ⊎ ((issued ≤ c.sequence) × (c.sequence < issued)) → G c
  none_left c (inl good) = good
  none_left c (inr new) = (let low = new.0 in let high = new.1 in absurd (omega arith))

  pub all_drawn : (places : List ℕ) (n : ℕ) (ws : ℕ → ℕ) (d : Drawing) → issued ≡ n + length places → AreDue n places d.waiting → At n ws → Going n d → AllDrawn (drawn_places places ws d)
  all_drawn [] n ws d many due at g =
      let last : n ≡ issued = omega arith in
      let all : Going issued d = subst (λ (m : ℕ). Going m d) last g in
      λ c j. none_left c (all c j)
  all_drawn (place ∷ places) n ws d many due at g = all_drawn places (suc n) (words_behind words_of_id ws) (drawn_one (slice_get d.waiting place) place ws d) (omega arith) behind.0 (next n ws at) behind.1
    where
      got : (c : IssuedCid) × (slice_get d.waiting place ≡ Some c) × (c.sequence ≡ n) × In c d.waiting
      got = sole_get d.waiting place n due.0

      new : IssuedCid
      new = drawn_id ws got.0.sequence

      good : G new
      good = subst (λ (m : ℕ). G (drawn_id ws m)) (sym got.2) (made n ws (omega arith) at)

      above : (m : ℕ) → m ≢ n → (n ≤ m) × (m < issued) → (suc n ≤ m) × (m < issued)
      above m other range = (go (nat_lt n m) refl, range.1)
        where
          go : (b : Bool) → nat_lt n m ≡ b → suc n ≤ m
          go true is = ltb-true n m is
          go false is = (let most = ltb-false n m is in let least = range.0 in absurd (other (omega arith)))

      one : AreDue (suc n) places (set d.waiting place new) × Going (suc n) (record { living = with_id new d.living; waiting = set d.waiting place new })
      one = (
        due_set (suc n) places d.waiting place got.0 new got.1 refl due.1,
        λ c j. elim (in_sole d.waiting place n new c due.0 j) [
          | inl is ↦ inl (subst G (sym is) good)
          | inr was ↦ elim (g c was.0) [ inl old ↦ inl old | inr range ↦ inr (above c.sequence was.1 range) ]
        ],
      )

      behind : AreDue (suc n) places (drawn_one (slice_get d.waiting place) place ws d).waiting × Going (suc n) (drawn_one (slice_get d.waiting place) place ws d)
      behind = subst (λ (o : Option IssuedCid). AreDue (suc n) places (drawn_one o place ws d).waiting × Going (suc n) (drawn_one o place ws d)) (sym got.1) one
