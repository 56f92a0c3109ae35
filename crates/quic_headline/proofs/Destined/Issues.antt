-- Own ids while an end takes a packet (RFC 9000, sections 5.1.1 and 5.1.2): each of which it told
-- stays until its number is gone, also where ids are issued for the packet, and drawn behind it.
use Rattle.std.proofs.Common.{◌≡◌, ◌≢◌, ℕ, ◌+◌, ◌<◌, ◌≤◌, ◌^◌, Bool, true, false, cond, ◌==◌, not, nat_lt, List, [], ◌∷◌, ◌++◌, length, Option, Some, None, Result, Ok, Err, refl, sym, ap, ◌∙◌, subst, inl, inr, arith}
use Rattle.std.specs.Prelude.{filter, set, slice_get, if◌then◌else◌}
use Rattle.std.specs.declared.ops.Range.{Range}
use Rattle.std.proofs.lemmas.Bool.{eq-eqb, ne_eqb, and_parts, ltb-true}
use Rattle.quic_wire_core.specs.TransportError.{ErrorValue}
use Rattle.quic_wire_core.specs.declared.shared.IssuedCid.{IssuedCid}
use Rattle.quic_wire.specs.Value.{FrameValue, AckValue, ack, stream, reset_stream, stop_sending, max_data, max_stream_data, max_streams, datagram, path_response, handshake_done, new_connection_id, retire_connection_id, ack_frequency}
use Rattle.quic_ids.specs.CidState.{OwnIds, without, after_new, after_retirement, is_wrong, retirement_answer}
use Rattle.quic_ids.specs.CidQueue.{insert_answer}
use Rattle.quic_ids.specs.declared.cid_queue.InsertError.{InsertError}
use Rattle.quic_ids.specs.declared.cid_queue.InsertError.TheVariants as inserts
use Rattle.quic_paths.specs.Paths.{is_asked}
use Rattle.quic_retransmits.specs.Retransmits.{Retransmits, can_retire}
use Rattle.quic_machine.specs.MessageCalls.{most_message}
use Rattle.quic_machine.specs.Sizes.{without_longer_if, shortened}
use Rattle.quic_machine.specs.Ids.{NumberedId, Drawing, words_behind, words_of_id, with_number, with_id, drawn_id, drawn_one, drawn_places, undrawn_id, retired, is_more, frame_of, retires_for}
use Rattle.quic_machine.specs.IdFrames.{retiring, with_taken_up, issued_if, issues_for, drawn}
use Rattle.quic_machine.specs.Validation.{word_of, validated_if}
use Rattle.quic_machine.specs.End.{End, with_ids, words_drawn}
use Rattle.quic_machine.specs.Receive.{retired_for, id_judged, retirement_judged, take_frame}
use Rattle.quic_machine.specs.FrameCases.{IsApart, OnStreams, begun, issues_may}
use Rattle.quic_machine.specs.Steps as steps
use Rattle.quic_headline.specs.Runs.{Packet, In}
use Rattle.quic_headline.specs.Observer.{Sent}
use Rattle.quic_headline.proofs.Places.Told.{in_left, in_append, in_last}
use Rattle.quic_headline.proofs.Packets.Growth.{in_more}
use Rattle.quic_headline.proofs.Packets.Invariant.{AreTracked}
use Rattle.quic_headline.proofs.Packets.Named.{NamesTaken, SettlesOn, Stands, frames_settle}
use Rattle.quic_headline.proofs.Packets.Delivered.{arrived}
use Rattle.quic_headline.proofs.Packets.Ids.{SaysIds, SentSayIds, AnyNumber, carried_waits}
use Rattle.quic_headline.proofs.Halves.PileSteps.{acked_same, reset_acked_same, stream_same, reset_same}
use Rattle.quic_headline.proofs.Destined.Sole.{Stays, kept_or, with_other, with_same, HasNone, IsSole, sole_more, sole_last, sole_get, sole_set, in_sole}
use Rattle.quic_headline.proofs.Packets.Apart.{by_frequency, by_heard_done}

-- nothing is asked of an id
abbrev pub AnyId : IssuedCid → Type 0
AnyId c = Unit {0}

module _ (Gone : ℕ → Type 0) (Others : NumberedId → Type 0) (old : ℕ) where
  -- at a place an id waits to be told that is still to be drawn: it alone has its number, which is
  -- a new one
  pub record IsDue (issued place : ℕ) (cids : List IssuedCid) : Type 0 where
    pub number : ℕ
    pub low : old ≤ number
    pub high : number < issued
    pub sole : IsSole cids place number

  -- each id that waits to be told stays, and so do others, whose numbers were issued before
  pub record Issues (living : List NumberedId) (issued : ℕ) (undrawn : List ℕ) (cids : List IssuedCid) : Type 0 where
    pub low : old ≤ issued
    pub waits : (c : IssuedCid) → In c cids → Stays living Gone (with_number c) × (c.sequence < issued)
    pub others : (i : NumberedId) → Others i → Stays living Gone i × (i.number < old)
    pub due : (place : ℕ) → In place undrawn → IsDue issued place cids

  -- some of the others wait beside
  issues_more : (living : List NumberedId) (issued : ℕ) (undrawn : List ℕ) (cids more : List IssuedCid) → ((c : IssuedCid) → In c more → Others (with_number c)) → Issues living issued undrawn cids → Issues living issued undrawn (cids ++ more)
  issues_more living issued undrawn cids more were i = record {
    low = i.low;
    waits = λ c j. elim (in_append c cids more j) [
      | inl here ↦ i.waits c here
      | inr new ↦ (
          let was = i.others (with_number c) (were c new) in
          let less : c.sequence < old = was.1 in
          let low = i.low in
          (was.0, omega arith))
    ];
    others = i.others;
    due = λ place j.
        let d = i.due place j in
        record {
          number = d.number;
          low = d.low;
          high = d.high;
          sole = sole_more cids more place d.number (λ c k same. (let was = i.others (with_number c) (were c k) in let less : c.sequence < old = was.1 in let low = d.low in omega arith)) d.sole;
        };
  }

  -- a number is gone
  issues_retired : (n : ℕ) → Gone n → (living : List NumberedId) (issued : ℕ) (undrawn : List ℕ) (cids : List IssuedCid) → Issues living issued undrawn cids → Issues (filter (λ i. not (i.number == n)) living) issued undrawn cids
  issues_retired n gone living issued undrawn cids i = record {
    low = i.low;
    waits = λ c j. (stays (with_number c) (i.waits c j).0, (i.waits c j).1);
    others = λ o j. (stays o (i.others o j).0, (i.others o j).1);
    due = i.due;
  }
    where
      stays : (o : NumberedId) → Stays living Gone o → Stays (filter (λ j. not (j.number == n)) living) Gone o
      stays o (inl lives) = elim (kept_or n living o lives) [ inl kept ↦ inl kept | inr is ↦ inr (subst Gone (sym is) gone) ]
      stays o (inr was) = inr was

  -- the next one is issued
  issues_next : (living : List NumberedId) (issued : ℕ) (undrawn : List ℕ) (cids : List IssuedCid) → Issues living issued undrawn cids
      → Issues (living ++ with_number (undrawn_id issued) ∷ []) (issued + 1) (undrawn ++ length cids ∷ []) (cids ++ undrawn_id issued ∷ [])
  issues_next living issued undrawn cids i = record {
    low = (let low = i.low in omega arith);
    waits = λ c j. elim (in_more c (undrawn_id issued) cids j) [
      | inl here ↦ (let less = (i.waits c here).1 in (beside (with_number c) (i.waits c here).0, omega arith))
      | inr is ↦ subst (λ (d : IssuedCid). Stays (living ++ with_number (undrawn_id issued) ∷ []) Gone (with_number d) × (d.sequence < issued + 1)) (sym is) (inl (in_last (with_number (undrawn_id issued)) living), omega arith)
    ];
    others = λ o j. (beside o (i.others o j).0, (i.others o j).1);
    due = λ place j. elim (in_more place (length cids) undrawn j) [
      | inl here ↦ (
          let d = i.due place here in
          let high = d.high in
          record { number = d.number; low = d.low; high = omega arith; sole = sole_more cids (undrawn_id issued ∷ []) place d.number (other d.number high) d.sole })
      | inr is ↦ subst (λ (p : ℕ). IsDue (issued + 1) p (cids ++ undrawn_id issued ∷ [])) (sym is)
          (record { number = issued; low = i.low; high = omega arith; sole = sole_last cids (undrawn_id issued) (λ c k same. (let less = (i.waits c k).1 in omega arith)) })
    ];
  }
    where
      beside : (o : NumberedId) → Stays living Gone o → Stays (living ++ with_number (undrawn_id issued) ∷ []) Gone o
      beside o (inl lives) = inl (in_left o living (with_number (undrawn_id issued) ∷ []) lives)
      beside o (inr gone) = inr gone

      other : (n : ℕ) → n < issued → HasNone n (undrawn_id issued ∷ [])
      other n less c (inl is) same = (let number : c.sequence ≡ issued = ap (λ (x : IssuedCid). x.sequence) is in omega arith)
      other n less c (inr none) same = absurd none

  -- those that are still to be are drawn
  issues_drawn : (places : List ℕ) (words : ℕ → ℕ) (issued : ℕ) (d : Drawing) → Issues d.living issued places d.waiting → Issues (drawn_places places words d).living issued [] (drawn_places places words d).waiting
  issues_drawn [] words issued d i = i
  issues_drawn (place ∷ places) words issued d i = issues_drawn places (words_behind words_of_id words) issued (drawn_one (slice_get d.waiting place) place words d)
      (subst (λ (o : Option IssuedCid). Issues (drawn_one o place words d).living issued places (drawn_one o place words d).waiting) (sym got.1) one)
    where
      here : IsDue issued place d.waiting
      here = i.due place (inl refl)

      got : (c : IssuedCid) × (slice_get d.waiting place ≡ Some c) × (c.sequence ≡ here.number) × In c d.waiting
      got = sole_get d.waiting place here.number here.sole

      new : IssuedCid
      new = drawn_id words got.0.sequence

      stays : (o : NumberedId) → Stays d.living Gone o → (o.number ≢ got.0.sequence) → Stays (with_id new d.living) Gone o
      stays o (inl lives) other = inl (with_other new d.living o lives (ne_eqb o.number got.0.sequence other))
      stays o (inr gone) other = inr gone

      lives_anew : Stays d.living Gone (with_number got.0) → Stays (with_id new d.living) Gone (with_number new)
      lives_anew (inl lives) = inl (with_same new d.living (with_number got.0) lives (eq-eqb got.0.sequence got.0.sequence refl))
      lives_anew (inr gone) = inr gone

      one : Issues (with_id new d.living) issued places (set d.waiting place new)
      one = record {
        low = i.low;
        waits = λ c j. elim (in_sole d.waiting place here.number new c here.sole j) [
          | inl is ↦ subst (λ (x : IssuedCid). Stays (with_id new d.living) Gone (with_number x) × (x.sequence < issued)) (sym is) (lives_anew (i.waits got.0 got.3).0, (i.waits got.0 got.3).1)
          | inr was ↦ (stays (with_number c) (i.waits c was.0).0 (λ same. was.1 (same ∙ got.2)), (i.waits c was.0).1)
        ];
        others = λ o j. (
          stays o (i.others o j).0 (λ same. (let less = (i.others o j).1 in let low = here.low in let number = got.2 in omega arith)),
          (i.others o j).1,
        );
        due = λ p j.
            let due = i.due p (inr j) in
            record { number = due.number; low = due.low; high = due.high; sole = sole_set d.waiting p place due.number got.0 new got.1 refl due.sole };
      }

  -- ---- at an end

  abbrev pub IssuesAt : End → Type 0
  IssuesAt e = Issues e.ids.living e.ids.own.issued e.ids.undrawn e.waiting.frames.new_cids

  lasts_issues : (o : Option ℕ) (e : End) → IssuesAt e → IssuesAt (without_longer_if o e)
  lasts_issues None e i = i
  lasts_issues (Some most) e i = i

  fitted_issues : (b : Bool) (e : End) → IssuesAt e → IssuesAt (shortened b e)
  fitted_issues true e i = lasts_issues (most_message e) e i
  fitted_issues false e i = i

  -- how many numbers were issued is the same behind a retirement
  issued_same : (own : OwnIds) (n : ℕ) → (after_retirement own n).issued ≡ own.issued
  issued_same own n = go (is_wrong own n)
    where
      go : (b : Bool) → (let s : OwnIds = cond b own (record own { living = without n own.living }) in s.issued) ≡ own.issued
      go true = refl
      go false = refl

  -- and one more behind the next id, where its number can be written
  issued_next : (own : OwnIds) (now : ℕ) → own.issued < 2 ^ 62 → (after_new own (undrawn_id own.issued ∷ []) now).issued ≡ own.issued + 1
  issued_next own now small = omega arith

  -- a frame apart from streams, where the number that it retires is gone
  pub apart_issues : (f : FrameValue) (e : End) → IsApart f → SaysIds AnyId Gone f → IssuesAt e → IssuesAt (take_frame f e).end
  apart_issues (ack a) e apart says i = absurd apart
  apart_issues (stream f) e apart says i = absurd apart
  apart_issues (reset_stream f) e apart says i = absurd apart
  apart_issues (stop_sending f) e apart says i = absurd apart
  apart_issues (max_data limit) e apart says i = absurd apart
  apart_issues (max_stream_data f) e apart says i = absurd apart
  apart_issues (max_streams f) e apart says i = absurd apart
  apart_issues (datagram m) e apart says i = absurd apart
  apart_issues (new_connection_id f) e apart says i = go (retires_for (insert_answer e.ids.peer (frame_of f)))
    where
      retires : (b : Bool) (r : Range ℕ) → IssuesAt (retired_for b r f e).end
      retires true r = fitted_issues _ (retiring r (with_taken_up f e)) i
      retires false r = i

      late : (b : Bool) → Issues e.ids.living e.ids.own.issued e.ids.undrawn (let p : Retransmits = if b then e.waiting.frames else record e.waiting.frames { retire_cids = e.waiting.frames.retire_cids ++ f.sequence ∷ [] } in p.new_cids)
      late true = i
      late false = i

      go : (r : Result (Option (Range ℕ)) InsertError) → IssuesAt (id_judged r f e).end
      go (Ok None) = fitted_issues _ (with_taken_up f e) i
      go (Ok (Some r)) = retires (can_retire e.waiting.frames r.start r.end) r
      go (Err inserts.Retired) = late _
      go (Err inserts.ExceedsLimit) = i
  apart_issues (retire_connection_id n) e apart says i = go (retirement_answer e.ids.own n e.ids.limit)
    where
      left : End
      left = with_ids e (retired n e.ids)

      there : IssuesAt left
      there = subst (λ (issued : ℕ). Issues left.ids.living issued e.ids.undrawn e.waiting.frames.new_cids) (sym (issued_same e.ids.own n)) (issues_retired n says e.ids.living e.ids.own.issued e.ids.undrawn e.waiting.frames.new_cids i)

      issues : (b : Bool) → issues_for n e ≡ b → IssuesAt (issued_if b left)
      issues true may =
          let less = ltb-true e.ids.own.issued (2 ^ 62) (and_parts (is_more (retirement_answer e.ids.own n e.ids.limit)) (nat_lt e.ids.own.issued (2 ^ 62)) (issues_may n e may)).1 in
          let same = issued_same e.ids.own n in
          let own : OwnIds = left.ids.own in
          subst (λ (issued : ℕ). Issues (left.ids.living ++ with_number (undrawn_id own.issued) ∷ []) issued (left.ids.undrawn ++ length left.waiting.frames.new_cids ∷ []) (left.waiting.frames.new_cids ++ undrawn_id own.issued ∷ []))
          (sym (issued_next own e.closing.clock (omega arith))) (issues_next left.ids.living own.issued left.ids.undrawn left.waiting.frames.new_cids there)
      issues false may = there

      go : (r : Result Bool ErrorValue) → IssuesAt (retirement_judged r n e).end
      go (Ok more) = issues (issues_for n e) refl
      go (Err error) = i
  apart_issues (path_response token) e apart says i = go (is_asked e.validation.challenge (word_of token))
    where
      go : (b : Bool) → IssuesAt (validated_if b e)
      go true = i
      go false = i
  apart_issues handshake_done e apart says i = by_heard_done IssuesAt e i (λ c. i)
  apart_issues (ack_frequency r) e apart says i = by_frequency IssuesAt r e (λ threshold reordering frequency. i)
  apart_issues f e apart says i = i

  -- a frame on streams
  streams_issues : (f : FrameValue) (e : End) → OnStreams f → IssuesAt e → IssuesAt (take_frame f e).end
  streams_issues (stream f) e on i = subst (λ (cids : List IssuedCid). Issues e.ids.living e.ids.own.issued e.ids.undrawn cids) (sym (stream_same e.streams e.waiting.frames f).ids) i
  streams_issues (reset_stream f) e on i = subst (λ (cids : List IssuedCid). Issues e.ids.living e.ids.own.issued e.ids.undrawn cids) (sym (reset_same e.streams e.waiting.frames f).ids) i
  streams_issues (stop_sending f) e on i = i
  streams_issues (max_data limit) e on i = i
  streams_issues (max_stream_data f) e on i = i
  streams_issues (max_streams f) e on i = i
  streams_issues f e on i = absurd on

  -- what is acknowledged or lost, where the others were told
  settles_issues : (theirs : List Packet) (sents : List Sent) → SentSayIds (λ c. Others (with_number c)) AnyNumber sents → SettlesOn theirs sents IssuesAt
  settles_issues theirs sents say (steps.again c) e may i =
      issues_more e.ids.living e.ids.own.issued e.ids.undrawn e.waiting.frames.new_cids c.retransmits.new_cids (carried_waits (λ d. Others (with_number d)) AnyNumber c may.sent.frames may.is (λ f j. say may.sent f may.among j)).tells i
  settles_issues theirs sents say (steps.acked m) e may i = subst (λ (cids : List IssuedCid). Issues e.ids.living e.ids.own.issued e.ids.undrawn cids) (sym (acked_same e.streams e.waiting.frames m).ids) i
  settles_issues theirs sents say (steps.reset id) e may i = subst (λ (cids : List IssuedCid). Issues e.ids.living e.ids.own.issued e.ids.undrawn cids) (sym (reset_acked_same e.streams e.waiting.frames id).ids) i
  settles_issues theirs sents say s e may i = i

  -- all frames of a packet, and then the ids are drawn that were issued for it
  pub frames_issue : (theirs : List Packet) (sents : List Sent) → Stands theirs sents → SentSayIds (λ c. Others (with_number c)) AnyNumber sents → (frames : List FrameValue) → ((f : FrameValue) → In f frames → SaysIds AnyId Gone f)
      → (e : End) (now n : ℕ) → ((a : AckValue) → In (ack a) frames → NamesTaken theirs a) → AreTracked sents e.tracking.packets → IssuesAt e → IssuesAt (arrived e now n frames).end
  frames_issue theirs sents stands say frames gone e now n names tracked i = frames_settle theirs sents stands frames IssuesAt (record {
    settles = settles_issues theirs sents say;
    names = λ a x among j. j;
    on_streams = λ f x among on j. streams_issues f x on j;
    message = λ m x j. j;
    apart = λ f x among is j. apart_issues f x is (gone f among) j;
  }) (begun e now n) names tracked i

  pub draws_issue : (words : ℕ → ℕ) (e : End) → IssuesAt e → IssuesAt (drawn words e)
  draws_issue words e i = issues_drawn e.ids.undrawn (words_behind (words_drawn e) words) e.ids.own.issued (record { living = e.ids.living; waiting = e.waiting.frames.new_cids }) i
