-- Which frames of path validation, and about ids, wait behind a frame apart from streams, and
-- behind the use of the peer's next id, that didn't before; and of the first, behind any call.
use Rattle.std.proofs.Common.{◌≡◌, ℕ, ◌+◌, ◌-◌, ◌<◌, ◌≤◌, Bool, true, false, ◌||◌, ◌&&◌, List, [], ◌∷◌, ◌++◌, length, map, Option, Some, None, Result, Ok, Err, refl, sym, ◌∙◌, subst, ◌⊎◌, inl, inr, arith}
use Rattle.std.specs.Prelude.{◌==◌, nat_le, nat_lt, if◌then◌else◌, cond, option_map}
use Rattle.std.specs.List.{list_any, range_with_len}
use Rattle.std.specs.Option.{is_some}
use Rattle.std.specs.declared.ops.Range.{Range}
use Rattle.std.proofs.lemmas.Bool.{or_left, or_right, or_cases, and_from, and_parts, eqb-true, eq-eqb, ltb-true, lt-ltb, le-leb}
use Rattle.std.proofs.Math.Bool.{or-false}
use Rattle.quic_wire_core.specs.TransportError.{ErrorValue}
use Rattle.quic_wire.specs.declared.frame.NewConnectionId.{NewConnectionId}
use Rattle.quic_wire.specs.Value.{FrameValue, AckValue, ack, stream, reset_stream, stop_sending, max_data, max_stream_data, max_streams, datagram, handshake_done, path_challenge, path_response, new_connection_id, retire_connection_id, ack_frequency}
use Rattle.quic_ids.specs.CidState.{retirement_answer}
use Rattle.quic_ids.specs.CidQueue.{PeerIds, exceeds, retires_active, left_by, accepted_answer, insert_answer, next_after}
use Rattle.quic_ids.specs.CidQueue as queue
use Rattle.quic_ids.specs.declared.cid_queue.InsertError.{InsertError}
use Rattle.quic_ids.specs.declared.cid_queue.InsertError.TheVariants as inserts
use Rattle.quic_paths.specs.Paths.{is_asked}
use Rattle.quic_retransmits.specs.Retransmits.{Retransmits, most_retirements, can_retire}
use Rattle.quic_streams_state.specs.declared.state.StreamsState.{StreamsState}
use Rattle.quic_machine.specs.declared.answers.State.TheVariants as states
use Rattle.quic_machine.specs.declared.run.Call.{Call}
use Rattle.quic_machine.specs.declared.run.Call.TheVariants as calls
use Rattle.quic_machine.specs.declared.run.Answer.{Answer}
use Rattle.quic_machine.specs.declared.run.Answer.TheVariants as answers
use Rattle.quic_machine.specs.Policy.{Policy}
use Rattle.quic_machine.specs.Parts.{Signals, Waiting}
use Rattle.quic_machine.specs.Sizes.{shortened}
use Rattle.quic_wire_core.specs.declared.shared.IssuedCid.{IssuedCid}
use Rattle.quic_machine.specs.Ids.{frame_of, retires_for, retired, next_used, undrawn_id}
use Rattle.quic_machine.specs.IdFrames.{retiring, with_taken_up, issued_if, issues_for, next_id_taken, end_on_next_id}
use Rattle.quic_machine.specs.Validation.{path_asked, path_validated, word_of, validated_if}
use Rattle.quic_machine.specs.End.{End, with_ids, with_frames}
use Rattle.quic_machine.specs.Acked.{after_acked}
use Rattle.quic_machine.specs.Receive.{Fault, Progress, is_above, names_ungiven, retired_for, id_judged, retirement_judged, take_frame, take_items, unless_fault}
use Rattle.quic_machine.specs.FrameCases.{Settling, IsApart, named, ack_taken, acked_keeps, frame_leaves, passed}
use Rattle.quic_machine.specs.Steps as steps
use Rattle.quic_machine.specs.Poll.{polled}
use Rattle.quic_machine.specs.PollCases.{ready_at, by_probed}
use Rattle.quic_machine.specs.CallCases.{Plain, is_delivery, is_poll, is_timeout, by_plain_call}
use Rattle.quic_machine.specs.CallCases as cases
use Rattle.quic_machine.specs.Machine.{after_call}
use Rattle.quic_headline.specs.Duties.{has_retirement, has_new_id}
use Rattle.quic_headline.specs.Waited.{is_path_challenge}
use Rattle.quic_headline.specs.Begins.{NewId, Retirement, Thing, Frame, retires, uses_next, is_passed}
use Rattle.quic_headline.proofs.Packets.Named.{by_frame}
use Rattle.quic_headline.proofs.Destined.Own.{shortened_waiting}
use Rattle.quic_headline.proofs.Channel.IdLists.{retired_issued}
use Rattle.quic_headline.proofs.Steps.Probes.{begun}
use Rattle.quic_headline.proofs.Waited.Flags.{challenge, response}
use Rattle.quic_headline.proofs.Waited.Pings.{ready_waiting}
use Rattle.quic_headline.proofs.Waited.Group.{polled_flags}
use Rattle.quic_headline.proofs.AcksDue.Gaps.{any_in_range}
use Rattle.quic_headline.proofs.Begins.Controls.{any_more}
use Rattle.quic_headline.proofs.Begins.Walk.{PendsAt, Pends, ids_pend}
use Rattle.quic_headline.proofs.Packets.Apart.{by_frequency, by_heard_done}

-- ---- what waits

-- PATH_CHALLENGE waits where it did, and PATH_RESPONSE where it did, or where this is so
abbrev pub SignalsBy : Bool → Signals → Signals → Type 0
SignalsBy asked s t = (is_some t.challenge ≡ true → is_some s.challenge ≡ true) × (is_some t.response ≡ true → (is_some s.response ≡ true) ⊎ (asked ≡ true))

-- as they are
pub signals_same : (asked : Bool) (s : Signals) → SignalsBy asked s s
signals_same asked s = ((λ is. is), λ is. inl is)

-- Of what waits only that changes, and ids and numbers: an own id waits to be told, and a number to
-- be retired, where it did, or where this is so of its number.
pub record LeavesBy (asked : Bool) (issues begins : ℕ → Bool) (w v : Waiting) : Type 0 where
  pub signals : SignalsBy asked w.signals v.signals
  pub frames : v.frames ≡ record w.frames { new_cids = v.frames.new_cids; retire_cids = v.frames.retire_cids }
  pub new_ids : (n : ℕ) → has_new_id n v.frames.new_cids ≡ true → (has_new_id n w.frames.new_cids ≡ true) ⊎ (issues n ≡ true)
  pub retirements : (n : ℕ) → has_retirement n v.frames.retire_cids ≡ true → (has_retirement n w.frames.retire_cids ≡ true) ⊎ (begins n ≡ true)

-- nothing changes
unmoved : (asked : Bool) (issues begins : ℕ → Bool) (w : Waiting) → LeavesBy asked issues begins w w
unmoved asked issues begins w = record { signals = signals_same asked w.signals; frames = refl; new_ids = λ n is. inl is; retirements = λ n is. inl is }

-- no number begins to wait
abbrev pub none : ℕ → Bool
none n = false

-- other signals wait
signals_move : (asked : Bool) (w : Waiting) (s : Signals) → SignalsBy asked w.signals s → LeavesBy asked none none w (record w { signals = s })
signals_move asked w s by = record { signals = by; frames = refl; new_ids = λ n is. inl is; retirements = λ n is. inl is }

-- these numbers wait besides to be retired
numbers_move : (begins : ℕ → Bool) (w : Waiting) (ns : List ℕ) → ((n : ℕ) → has_retirement n ns ≡ true → begins n ≡ true) → LeavesBy false none begins w (record w { frames = record w.frames { retire_cids = w.frames.retire_cids ++ ns } })
numbers_move begins w ns each = record {
  signals = signals_same false w.signals;
  frames = refl;
  new_ids = λ n is. inl is;
  retirements = λ n is. elim (any_more (λ (m : ℕ). m == n) w.frames.retire_cids ns is) [ inl was ↦ inl was | inr new ↦ inr (each n new) ];
}

-- ---- frames

-- others than its own are to be retired only where a frame asks for that
asks_some : (p : PeerIds) (g : NewConnectionId) (r : Range ℕ) → retires_for (insert_answer p g) ≡ Ok (Some r) → nat_lt 0 g.retire_prior_to ≡ true
asks_some p g r = go (nat_lt g.sequence p.active) (exceeds p g) (retires_active p g) refl
  where
    go : (late far some : Bool) → retires_active p g ≡ some → retires_for (cond late (Err inserts.Retired) (cond far (Err inserts.ExceedsLimit) (Ok (cond some (queue.retired_for (left_by p g) p.active) None)))) ≡ Ok (Some r) → nat_lt 0 g.retire_prior_to ≡ true
    go true far some asks is = cc
    go false true some asks is = cc
    go false false true asks is = let less = ltb-true p.active g.retire_prior_to asks in lt-ltb 0 g.retire_prior_to (omega arith)
    go false false false asks is = cc

-- one that comes late lies below the one in use
late_below : (p : PeerIds) (g : NewConnectionId) → retires_for (insert_answer p g) ≡ Err inserts.Retired → nat_lt g.sequence p.active ≡ true
late_below p g = go (nat_lt g.sequence p.active) (exceeds p g) refl
  where
    accepted : (o : Option (Range ℕ × List ℕ)) → retires_for (Ok o) ≡ Err inserts.Retired → ⊥
    accepted None is = cc
    accepted (Some r) is = cc

    go : (late far : Bool) → nat_lt g.sequence p.active ≡ late → retires_for (cond late (Err inserts.Retired) (cond far (Err inserts.ExceedsLimit) (Ok (accepted_answer p g)))) ≡ Err inserts.Retired → nat_lt g.sequence p.active ≡ true
    go true far low is = low
    go false true low is = cc
    go false false low is = absurd (accepted (accepted_answer p g) is)

-- what a frame may retire where one id is in use, it may where one above is
pub retires_more : (f : FrameValue) (used more n : ℕ) → used ≤ more → retires used n f ≡ true → retires more n f ≡ true
retires_more (new_connection_id f) used more n above may = elim (or_cases ((f.sequence == n) && nat_lt n used) (nat_lt 0 f.retire_prior_to) may) [
  | inl late ↦ (
      let both = and_parts (f.sequence == n) (nat_lt n used) late in
      let below = ltb-true n used both.1 in
      or_left ((f.sequence == n) && nat_lt n more) (nat_lt 0 f.retire_prior_to) (and_from (f.sequence == n) (nat_lt n more) both.0 (lt-ltb n more (omega arith))))
  | inr some ↦ or_right ((f.sequence == n) && nat_lt n more) (nat_lt 0 f.retire_prior_to) some
]
retires_more f used more n above may = may

-- whether an own id of a number is issued for a frame
abbrev pub issues_by : FrameValue → End → ℕ → Bool
issues_by (retire_connection_id k) e n = issues_for k e && (n == e.ids.own.issued)
issues_by f e n = false

-- a frame apart from streams
pub apart_waits : (f : FrameValue) (e : End) → IsApart f → LeavesBy (is_path_challenge f) (λ n. issues_by f e n) (λ n. retires e.ids.peer.active n f) e.waiting (take_frame f e).end.waiting
apart_waits (ack a) e apart = absurd apart
apart_waits (stream f) e apart = absurd apart
apart_waits (reset_stream f) e apart = absurd apart
apart_waits (stop_sending f) e apart = absurd apart
apart_waits (max_data limit) e apart = absurd apart
apart_waits (max_stream_data f) e apart = absurd apart
apart_waits (max_streams f) e apart = absurd apart
apart_waits (datagram m) e apart = absurd apart
apart_waits (new_connection_id f) e apart = judged (retires_for (insert_answer e.ids.peer (frame_of f))) refl
  where
    used : ℕ
    used = e.ids.peer.active

    its : ℕ → Bool
    its n = retires used n (new_connection_id f)

    Left : End → Type 0
    Left x = LeavesBy false none its e.waiting x.waiting

    fits : (b : Bool) (x : End) → Left x → Left (shortened b x)
    fits b x i = subst (λ (v : Waiting). LeavesBy false none its e.waiting v) (sym (shortened_waiting b x)) i

    ranges : (b : Bool) (r : Range ℕ) → nat_lt 0 f.retire_prior_to ≡ true → Left (retired_for b r f e).end
    ranges true r asks = fits _ (retiring r (with_taken_up f e)) (numbers_move its e.waiting (range_with_len r.start (r.end - r.start)) (λ n among. or_right ((f.sequence == n) && nat_lt n used) (nat_lt 0 f.retire_prior_to) asks))
    ranges false r asks = unmoved false none its e.waiting

    below : (n : ℕ) → nat_lt f.sequence used ≡ true → (f.sequence == n) ≡ true → ((f.sequence == n) && nat_lt n used) ≡ true
    below n low is = and_from (f.sequence == n) (nat_lt n used) is (subst (λ (m : ℕ). nat_lt m used ≡ true) (eqb-true f.sequence n is) low)

    late : (b : Bool) → nat_lt f.sequence used ≡ true → Left (with_frames e (if b then e.waiting.frames else record e.waiting.frames { retire_cids = e.waiting.frames.retire_cids ++ f.sequence ∷ [] }))
    late true low = unmoved false none its e.waiting
    late false low = numbers_move its e.waiting (f.sequence ∷ []) (λ n among. or_left ((f.sequence == n) && nat_lt n used) (nat_lt 0 f.retire_prior_to) (below n low (sym (or-false (f.sequence == n)) ∙ among)))

    judged : (r : Result (Option (Range ℕ)) InsertError) → retires_for (insert_answer e.ids.peer (frame_of f)) ≡ r → Left (id_judged r f e).end
    judged (Ok None) is = fits _ (with_taken_up f e) (unmoved false none its e.waiting)
    judged (Ok (Some r)) is = ranges (can_retire e.waiting.frames r.start r.end) r (asks_some e.ids.peer (frame_of f) r is)
    judged (Err inserts.Retired) is = late (nat_le most_retirements (length e.waiting.frames.retire_cids) || list_any (λ m. m == f.sequence) e.waiting.frames.retire_cids) (late_below e.ids.peer (frame_of f) is)
    judged (Err inserts.ExceedsLimit) is = unmoved false none its e.waiting
apart_waits (retire_connection_id k) e apart = judged (retirement_answer e.ids.own k e.ids.limit)
  where
    left : End
    left = with_ids e (retired k e.ids)

    its : ℕ → Bool
    its n = issues_by (retire_connection_id k) e n

    issued_here : (n : ℕ) → issues_for k e ≡ true → (left.ids.own.issued == n) ≡ true → its n ≡ true
    issued_here n may is = and_from (issues_for k e) (n == e.ids.own.issued) may (eq-eqb n e.ids.own.issued (sym (eqb-true left.ids.own.issued n is) ∙ retired_issued e.ids.own k))

    issues : (b : Bool) → issues_for k e ≡ b → LeavesBy false its none e.waiting (issued_if b left).waiting
    issues true may = record {
      signals = signals_same false e.waiting.signals;
      frames = refl;
      new_ids = λ n is. elim (any_more (λ (c : IssuedCid). c.sequence == n) e.waiting.frames.new_cids (undrawn_id left.ids.own.issued ∷ []) is) [
        | inl was ↦ inl was
        | inr new ↦ inr (issued_here n may (sym (or-false (left.ids.own.issued == n)) ∙ new))
      ];
      retirements = λ n is. inl is;
    }
    issues false may = unmoved false its none e.waiting

    judged : (r : Result Bool ErrorValue) → LeavesBy false its none e.waiting (retirement_judged r k e).end.waiting
    judged (Ok more) = issues (issues_for k e) refl
    judged (Err error) = unmoved false its none e.waiting
apart_waits (path_challenge token) e apart = signals_move true e.waiting (path_asked token e).waiting.signals ((λ is. is), λ is. inr refl)
apart_waits (path_response token) e apart = go (is_asked e.validation.challenge (word_of token))
  where
    go : (b : Bool) → LeavesBy false none none e.waiting (validated_if b e).waiting
    go true = signals_move false e.waiting (path_validated e).waiting.signals ((λ is. cc), λ is. inl is)
    go false = unmoved false none none e.waiting
apart_waits handshake_done e apart = by_heard_done (λ (x : End). LeavesBy false none none e.waiting x.waiting) e (unmoved false none none e.waiting) (λ c. unmoved false none none e.waiting)
apart_waits (ack_frequency r) e apart = by_frequency (λ (x : End). LeavesBy false none none e.waiting x.waiting) r e (λ threshold reordering frequency. unmoved false none none e.waiting)
apart_waits f e apart = unmoved false none none e.waiting

-- what an ACK frame leaves
acked_signals : (rises : Bool) (a : AckValue) (e : End) → (after_acked rises a (named a e)).waiting.signals ≡ e.waiting.signals
acked_signals rises a e = acked_keeps (λ (x : End). x.waiting.signals ≡ e.waiting.signals) settles rises a (named a e) refl
  where
    settles : Settling (λ (x : End). x.waiting.signals ≡ e.waiting.signals)
    settles (steps.known n) x i = i
    settles s x i = i

-- any frame
frame_signals : (f : FrameValue) (e : End) → SignalsBy (is_path_challenge f) e.waiting.signals (take_frame f e).end.waiting.signals
frame_signals f e = by_frame f e (λ (g : FrameValue) (p : Progress). SignalsBy (is_path_challenge g) e.waiting.signals p.end.waiting.signals)
    (λ a is. acks (names_ungiven a e) a)
    (λ other on. frame_leaves (λ (x : End). SignalsBy (is_path_challenge f) e.waiting.signals x.waiting.signals) f e on (λ t. same))
    (λ other m is. subst (λ (x : End). SignalsBy (is_path_challenge f) e.waiting.signals x.waiting.signals) (sym is) same)
    (λ other apart. (apart_waits f e apart).signals)
  where
    same : SignalsBy (is_path_challenge f) e.waiting.signals e.waiting.signals
    same = signals_same (is_path_challenge f) e.waiting.signals

    acks : (b : Bool) (a : AckValue) → SignalsBy false e.waiting.signals (ack_taken b a e).end.waiting.signals
    acks true a = signals_same false e.waiting.signals
    acks false a = subst (SignalsBy false e.waiting.signals) (sym (acked_signals (is_above e.numbers.largest_acked a.largest) a e)) (signals_same false e.waiting.signals)

-- so it is of all frames of a packet
pub frames_signals : (fs : List FrameValue) (e : End) → SignalsBy (list_any is_path_challenge fs) e.waiting.signals (passed fs e).end.waiting.signals
frames_signals [] e = signals_same false e.waiting.signals
frames_signals (f ∷ fs) e = go (take_frame f e).fault (frame_signals f e) (frames_signals fs (take_frame f e).end)
  where
    go : (o : Option Fault) → SignalsBy (is_path_challenge f) e.waiting.signals (take_frame f e).end.waiting.signals → SignalsBy (list_any is_path_challenge fs) (take_frame f e).end.waiting.signals (passed fs (take_frame f e).end).end.waiting.signals
        → SignalsBy (is_path_challenge f || list_any is_path_challenge fs) e.waiting.signals (unless_fault o (take_frame f e) (take_items (map Ok fs))).end.waiting.signals
    go None one rest = (
      (λ is. one.0 (rest.0 is)),
      λ is. elim (rest.1 is) [
        | inl there ↦ elim (one.1 there) [ inl was ↦ inl was | inr here ↦ inr (or_left (is_path_challenge f) (list_any is_path_challenge fs) here) ]
        | inr more ↦ inr (or_right (is_path_challenge f) (list_any is_path_challenge fs) more)
      ],
    )
    go (Some x) one rest = (one.0, λ is. elim (one.1 is) [ inl was ↦ inl was | inr here ↦ inr (or_left (is_path_challenge f) (list_any is_path_challenge fs) here) ])

-- ---- calls

-- whether a call uses the next id of the peer, and a number lies below that, but not below the one
-- that was in use
abbrev pub is_skipped : Call → Answer → PeerIds → ℕ → Bool
is_skipped call a p n = uses_next call a && is_passed n p.active (next_after p)

-- such numbers begin to wait
pub next_waits : (e : End) (a : Answer) → LeavesBy false none (λ n. is_skipped calls.UseNextId a e.ids.peer n) e.waiting (end_on_next_id e a).waiting
next_waits e (answers.UseNextId (Ok done)) = taken (next_after e.ids.peer)
  where
    used : ℕ
    used = e.ids.peer.active

    ranged : Option ℕ → Option (Range ℕ)
    ranged o = option_map (λ next. record { start = used; end = next }) o

    passed_over : (next n : ℕ) → (k : ℕ) × (used ≤ k) × (k < used + (next - used)) × ((k == n) ≡ true) → is_passed n used (Some next) ≡ true
    passed_over next n (k, low, high, is) =
        let same : k ≡ n = eqb-true k n is in
        and_from (nat_le used n) (nat_lt n next) (le-leb used n (omega arith)) (lt-ltb n next (omega arith))

    taken : (o : Option ℕ) → LeavesBy false none (λ n. is_passed n used o) e.waiting (next_id_taken (ranged o) e).waiting
    taken None = unmoved false none (λ n. is_passed n used None) e.waiting
    taken (Some next) = subst (λ (v : Waiting). LeavesBy false none (λ n. is_passed n used (Some next)) e.waiting v)
        (sym (shortened_waiting _ (retiring (record { start = used; end = next }) (with_ids e (next_used e.ids)))))
        (numbers_move (λ n. is_passed n used (Some next)) e.waiting (range_with_len used (next - used)) (λ n among. passed_over next n (any_in_range (λ (m : ℕ). m == n) used (next - used) among)))
next_waits e a = unmoved false none none e.waiting

-- a poll
pub polled_signals : (p : Policy) (e : End) (now : ℕ) → (polled p e now).end.closing.state ≡ states.Open → SignalsBy false e.waiting.signals (polled p e now).end.waiting.signals
polled_signals p e now opened = (
  (λ set. elim ((polled_flags p e now challenge opened).0 set) [ inl set_then ↦ ready.0 set_then | inr was ↦ was ]),
  (λ set. elim ((polled_flags p e now response opened).0 set) [ inl set_then ↦ ready.1 set_then | inr was ↦ inl was ]),
)
  where
    ready : SignalsBy false e.waiting.signals (ready_at e now).end.waiting.signals
    ready = subst (λ (w : Waiting). SignalsBy false e.waiting.signals w.signals) (sym (ready_waiting e now))
        (by_probed (begun e now) (λ (x : End). SignalsBy false e.waiting.signals x.waiting.signals) (signals_same false e.waiting.signals) (λ immediate. ((λ is. is), λ is. inl is)) (λ immediate. ((λ is. is), λ is. inl is)) (λ immediate q probes is. ((λ is. is), λ is. inl is)))

-- any but a poll, a moment that comes and a delivery
pub quiet_signals : (p : Policy) (e : End) (theirs : List (List ℕ)) (call : Call) (a : Answer) → is_delivery call ≡ false → is_poll call ≡ false → is_timeout call ≡ false → SignalsBy false e.waiting.signals (after_call p e theirs call a).waiting.signals
quiet_signals p e theirs call a apart silent calm = by_plain_call p e theirs Of call a keep
  where
    Of : End → Type 0
    Of x = SignalsBy false e.waiting.signals x.waiting.signals

    keep : Plain p e call Of
    keep (cases.times now expiry) is = (let clash : true ≡ false = sym is ∙ calm in cc)
    keep (cases.waits now b) is = (let clash : true ≡ false = sym is ∙ calm in cc)
    keep (cases.polls now) is = (let clash : true ≡ false = sym is ∙ silent in cc)
    keep (cases.hears arrival d) is = (let clash : true ≡ false = sym is ∙ apart in cc)
    keep (cases.changes_id b) may = (next_waits e b).signals
    keep cases.pings may = ((λ is. is), λ is. inl is)
    keep c may = signals_same false e.waiting.signals

-- ---- what waits is F

-- so it is behind such a change, where the ids and the numbers that begin to wait are
pub leaves_pend : (F : Thing → Type 0) (e x : End) (asked : Bool) (issues begins : ℕ → Bool) → LeavesBy asked issues begins e.waiting x.waiting → x.streams ≡ e.streams → ((n : ℕ) → issues n ≡ true → F (Frame (NewId n))) → ((n : ℕ) → begins n ≡ true → F (Frame (Retirement n))) → Pends F e → Pends F x
leaves_pend F e x asked issues begins l streams issued late i = subst (λ (s : StreamsState). PendsAt F s x.waiting.frames) (sym streams) (subst (λ (p : Retransmits). PendsAt F e.streams p) (sym l.frames)
    (ids_pend F e.streams e.waiting.frames x.waiting.frames.new_cids x.waiting.frames.retire_cids
    (λ n is. elim (l.new_ids n is) [ inl was ↦ i.controls (NewId n) was | inr new ↦ issued n new ])
    (λ n is. elim (l.retirements n is) [ inl was ↦ i.controls (Retirement n) was | inr new ↦ late n new ]) i))
