-- The numbers of the ids of its peer that an end knows can be written (RFC 9000, section 16), and
-- so can those that it retires.
use Rattle.std.proofs.Common.{◌≡◌, ℕ, zero, suc, ◌+◌, ◌-◌, ◌<◌, ◌^◌, min, Bool, true, false, cond, List, [], ◌∷◌, Option, Some, None, Result, Ok, Err, refl, sym, ap, subst, ◌⊎◌, inl, inr, arith}
use Rattle.std.specs.Prelude.{ltb, leb, ◌==◌, ◌||◌}
use Rattle.std.specs.List.{range_with_len}
use Rattle.std.specs.declared.ops.Range.{Range}
use Rattle.quic_wire_core.specs.TransportError.{ErrorValue}
use Rattle.quic_wire_core.specs.declared.shared.IssuedCid.{IssuedCid}
use Rattle.quic_wire.specs.Value.{FrameValue, ack, datagram, new_connection_id, retire_connection_id, path_response, handshake_done, ack_frequency}
use Rattle.quic_wire.specs.declared.frame.NewConnectionId.{NewConnectionId}
use Rattle.quic_ids.specs.CidState.{retirement_answer}
use Rattle.quic_ids.specs.CidQueue.{PeerIds, from, with_cid, known_with, brought, exceeds, retires_active, left_by, first_used, after_insert, after_next, kept_ids, retired_up_to, retired_for, insert_answer}
use Rattle.quic_ids.specs.declared.cid_queue.InsertError.{InsertError}
use Rattle.quic_ids.specs.declared.cid_queue.InsertError.TheVariants as inserts
use Rattle.quic_retransmits.specs.Retransmits.{can_retire}
use Rattle.quic_machine.specs.declared.run.Call.{Call}
use Rattle.quic_machine.specs.declared.run.Answer.{Answer}
use Rattle.quic_machine.specs.declared.run.Answer.TheVariants as answers
use Rattle.quic_machine.specs.Policy.{Policy}
use Rattle.quic_machine.specs.Closing.{ticked}
use Rattle.quic_machine.specs.Ids.{Ids, frame_of, retires_for, retired, retires_for_next, next_used}
use Rattle.quic_machine.specs.IdFrames.{retiring, with_taken_up, issued_if, issues_for, next_id_taken, end_on_next_id}
use Rattle.quic_machine.specs.MessageCalls.{most_message}
use Rattle.quic_machine.specs.Sizes.{without_longer_if, shortened}
use Rattle.quic_machine.specs.Validation.{word_of, validated_if}
use Rattle.quic_paths.specs.Paths.{is_asked}
use Rattle.quic_machine.specs.End.{End, with_closing, with_ids, closed_by}
use Rattle.quic_machine.specs.Receive.{is_above, names_ungiven, retired_for as retiring_for, id_judged, retirement_judged, take_frame}
use Rattle.quic_machine.specs.FrameCases.{Settling, named, ack_taken, acked_keeps, losses_keep, message_leaves, passed, frames_leave}
use Rattle.quic_machine.specs.Steps as steps
use Rattle.quic_machine.specs.LeaveCases.{by_expired}
use Rattle.quic_machine.specs.Poll.{Polled, polled}
use Rattle.quic_machine.specs.PollCases.{by_poll, at_poll, composes}
use Rattle.quic_machine.specs.CallCases.{Plain, is_delivery, by_plain_call}
use Rattle.quic_machine.specs.CallCases as cases
use Rattle.quic_machine.specs.Machine.{after_call}
use Rattle.quic_headline.specs.Runs.{In}
use Rattle.quic_headline.proofs.Packets.Apart.{by_waits, by_frequency, by_heard_done}
use Rattle.quic_headline.proofs.Packets.Closes.{by_closes}
use Rattle.quic_headline.proofs.Packets.Named.{in_filter}
use Rattle.quic_headline.proofs.Packets.Probes.{may_leave}
use Rattle.quic_headline.proofs.Halves.Small.{IsSmallNumber}

-- ---- lists

-- an id among others with one more is that, or was among them
more_in : (x c : IssuedCid) (cs : List IssuedCid) → In x (with_cid cs c) → (x ≡ c) ⊎ In x cs
more_in x c [] i = elim i [ inl same ↦ inl same | inr none ↦ absurd none ]
more_in x c (e ∷ es) i = go (ltb c.sequence e.sequence) (c.sequence == e.sequence) i (more_in x c es)
  where
    go : (a b : Bool) → In x (cond a (c ∷ e ∷ es) (cond b (c ∷ es) (e ∷ with_cid es c))) → (In x (with_cid es c) → (x ≡ c) ⊎ In x es) → (x ≡ c) ⊎ In x (e ∷ es)
    go true b j more = elim j [ inl same ↦ inl same | inr old ↦ inr old ]
    go false true j more = elim j [ inl same ↦ inl same | inr old ↦ inr (inr old) ]
    go false false j more = elim j [
      | inl here ↦ inr (inl here)
      | inr there ↦ elim (more there) [ inl same ↦ inl same | inr old ↦ inr (inr old) ]
    ]

-- numbers from one on
pub range_in : (n a k : ℕ) → In n (range_with_len a k) → (n < a + k) × (0 < k)
range_in n a zero i = absurd i
range_in n a (suc k) i = elim i [
  | inl same ↦ (omega arith, omega arith)
  | inr more ↦ (let rest = range_in n (a + 1) k more in (omega arith, omega arith))
]

pub range_below : (r : Range ℕ) (n : ℕ) → In n (range_with_len r.start (r.end - r.start)) → n < r.end
range_below r n i = let both = range_in n r.start (r.end - r.start) i in omega arith

-- ---- known ids

-- the numbers of the peer's ids that are known can be written
pub record AreWritten (ids : PeerIds) : Type 0 where
  pub active : ids.active < 2 ^ 62
  pub later : (c : IssuedCid) → In c ids.later → c.sequence < 2 ^ 62

-- the first of them comes into use
first_written : (cs : List IssuedCid) (ids : PeerIds) → AreWritten ids → ((c : IssuedCid) → In c cs → c.sequence < 2 ^ 62) → AreWritten (first_used cs ids)
first_written [] ids w all = w
first_written (c ∷ cs) ids w all = record { active = all c (inl refl); later = λ d i. all d (inr i) }

module _ (ids : PeerIds) (f : NewConnectionId) (small : f.sequence < 2 ^ 62) (w : AreWritten ids) where
  -- so it is once one more is known, of those before or of some of them
  more_written : (cs : List IssuedCid) → ((c : IssuedCid) → In c cs → c.sequence < 2 ^ 62) → (c : IssuedCid) → In c (with_cid cs (brought f)) → c.sequence < 2 ^ 62
  more_written cs all c i = elim (more_in c (brought f) cs i) [
    | inl same ↦ subst (λ (d : IssuedCid). d.sequence < 2 ^ 62) (sym same) small
    | inr old ↦ all c old
  ]

  left_written : (c : IssuedCid) → In c (left_by ids f) → c.sequence < 2 ^ 62
  left_written = more_written (from f.retire_prior_to ids.later) (λ c i. w.later c (in_filter (λ d. leb f.retire_prior_to d.sequence) c ids.later i))

  known_written : AreWritten (known_with ids (brought f))
  known_written = go (f.sequence == ids.active)
    where
      go : (b : Bool) → AreWritten (cond b (record ids { id = f.id }) (record ids { later = with_cid ids.later (brought f) }))
      go true = record { active = w.active; later = w.later }
      go false = record { active = w.active; later = more_written ids.later w.later }

  -- a frame brings one
  pub insert_written : AreWritten (after_insert ids f)
  insert_written = go (ltb f.sequence ids.active || exceeds ids f) (retires_active ids f)
    where
      go : (a b : Bool) → AreWritten (cond a ids (cond b (first_used (left_by ids f) ids) (known_with ids (brought f))))
      go true b = w
      go false true = first_written (left_by ids f) ids w left_written
      go false false = known_written

  -- the numbers that it retires can be written
  pub retires_written : (r : Range ℕ) → retires_for (insert_answer ids f) ≡ Ok (Some r) → r.end < 2 ^ 62
  retires_written r is = go (ltb f.sequence ids.active) (exceeds ids f) (retires_active ids f) is
    where
      first : (cs : List IssuedCid) → ((c : IssuedCid) → In c cs → c.sequence < 2 ^ 62) → retires_for (Ok (retired_for cs ids.active)) ≡ Ok (Some r) → r.end < 2 ^ 62
      first [] all is = cc
      first (c ∷ cs) all is =
          let same : retired_up_to c.sequence ids.active ≡ r = cc in
          let end : r.end ≡ min c.sequence (ids.active + kept_ids) = sym (ap (λ (x : Range ℕ). x.end) same) in
          let little = all c (inl refl) in
          omega arith

      go : (a b d : Bool) → retires_for (cond a (Err inserts.Retired) (cond b (Err inserts.ExceedsLimit) (Ok (cond d (retired_for (left_by ids f) ids.active) None)))) ≡ Ok (Some r) → r.end < 2 ^ 62
      go true b d is = cc
      go false true d is = cc
      go false false true is = first (left_by ids f) left_written is
      go false false false is = cc

-- the next one is used
next_written : (ids : PeerIds) → AreWritten ids → AreWritten (after_next ids)
next_written ids w = first_written ids.later ids w w.later

pub next_retires_written : (ids : Ids) → AreWritten ids.peer → (r : Range ℕ) → retires_for_next ids ≡ Some r → r.end < 2 ^ 62
next_retires_written ids w r is = go ids.peer.later w.later is
  where
    go : (cs : List IssuedCid) → ((c : IssuedCid) → In c cs → c.sequence < 2 ^ 62) → retires_for_next (record ids { peer = record ids.peer { later = cs } }) ≡ Some r → r.end < 2 ^ 62
    go [] all is = cc
    go (c ∷ cs) all is =
        let same : record { start = ids.peer.active; end = c.sequence } ≡ r = cc in
        let end : r.end ≡ c.sequence = sym (ap (λ (x : Range ℕ). x.end) same) in
        let little = all c (inl refl) in
        omega arith

-- ---- at an end

-- each step of an ACK frame leaves them
settles : Settling (λ (x : End). AreWritten x.ids.peer)
settles (steps.known n) e w = w
settles s e w = w

-- messages that are dropped do
lasts_written : (o : Option ℕ) (x : End) → AreWritten x.ids.peer → AreWritten (without_longer_if o x).ids.peer
lasts_written None x w = w
lasts_written (Some most) x w = w

fits_written : (b : Bool) (x : End) → AreWritten x.ids.peer → AreWritten (shortened b x).ids.peer
fits_written true x w = lasts_written (most_message x) x w
fits_written false x w = w

-- any frame does whose own number can be written
pub frame_written : (f : FrameValue) (e : End) → IsSmallNumber f → AreWritten e.ids.peer → AreWritten (take_frame f e).end.ids.peer
frame_written (ack a) e small w = go (names_ungiven a e)
  where
    go : (b : Bool) → AreWritten (ack_taken b a e).end.ids.peer
    go true = w
    go false = acked_keeps (λ (x : End). AreWritten x.ids.peer) settles (is_above e.numbers.largest_acked a.largest) a (named a e) w
frame_written (datagram m) e small w = message_leaves (λ (x : End). AreWritten x.ids.peer) m e w (λ left. w)
frame_written (new_connection_id f) e small w = judged (retires_for (insert_answer e.ids.peer (frame_of f)))
  where
    new : AreWritten (after_insert e.ids.peer (frame_of f))
    new = insert_written e.ids.peer (frame_of f) small w

    retires : (b : Bool) (r : Range ℕ) → AreWritten (retiring_for b r f e).end.ids.peer
    retires true r = fits_written _ (retiring r (with_taken_up f e)) new
    retires false r = new

    judged : (r : Result (Option (Range ℕ)) InsertError) → AreWritten (id_judged r f e).end.ids.peer
    judged (Ok None) = fits_written _ (with_taken_up f e) new
    judged (Ok (Some r)) = retires (can_retire e.waiting.frames r.start r.end) r
    judged (Err inserts.Retired) = w
    judged (Err inserts.ExceedsLimit) = w
frame_written (retire_connection_id n) e small w = judged (retirement_answer e.ids.own n e.ids.limit)
  where
    issues : (b : Bool) → AreWritten (issued_if b (with_ids e (retired n e.ids))).ids.peer
    issues true = w
    issues false = w

    judged : (r : Result Bool ErrorValue) → AreWritten (retirement_judged r n e).end.ids.peer
    judged (Ok more) = issues (issues_for n e)
    judged (Err error) = w
frame_written (path_response token) e small w = go (is_asked e.validation.challenge (word_of token))
  where
    go : (b : Bool) → AreWritten (validated_if b e).ids.peer
    go true = w
    go false = w
frame_written handshake_done e small w = by_heard_done (λ (x : End). AreWritten x.ids.peer) e w (λ c. w)
frame_written (ack_frequency r) e small w = by_frequency (λ (x : End). AreWritten x.ids.peer) r e (λ threshold reordering frequency. w)
frame_written f e small w = w

-- what is so of frames that are left, and of the known ids, behind one of them
abbrev pub Left : List FrameValue → Type 0
Left left = (f : FrameValue) → In f left → IsSmallNumber f

-- all frames of a packet do
pub frames_written : (fs : List FrameValue) (e : End) → Left fs → AreWritten e.ids.peer → AreWritten (passed fs e).end.ids.peer
frames_written fs e small w =
    (frames_leave (λ (left : List FrameValue) (x : End). Left left × AreWritten x.ids.peer) (λ f left x i. ((λ g j. i.0 g (inr j)), frame_written f x (i.0 f (inl refl)) i.1)) fs e (small, w)).1.1

-- the next id of the peer is used, or it isn't
pub next_id_written : (e : End) (a : Answer) → AreWritten e.ids.peer → AreWritten (end_on_next_id e a).ids.peer
next_id_written e (answers.UseNextId (Ok done)) w = taken (retires_for_next e.ids)
  where
    taken : (o : Option (Range ℕ)) → AreWritten (next_id_taken o e).ids.peer
    taken None = w
    taken (Some r) = fits_written _ (retiring r (with_ids e (next_used e.ids))) (next_written e.ids.peer w)
next_id_written e a w = w

-- a poll leaves them
poll_written : (p : Policy) (e : End) (now : ℕ) → AreWritten e.ids.peer → AreWritten (polled p e now).end.ids.peer
poll_written p e now w = by_poll p e now (λ (q : Polled). AreWritten q.end.ids.peer) (record {
  silent = w;
  failed = w;
  repeats = λ is. by_closes p (with_closing e (ticked e.closing now)) (λ (q : Polled). AreWritten q.end.ids.peer) w (λ f goes. w);
  nothing = λ c. w;
  closes = λ reason c bound. by_closes p (closed_by reason (at_poll e now c)) (λ (q : Polled). AreWritten q.end.ids.peer) w (λ f goes. w);
  gives = λ leaving c left is may ready some. subst (λ (ids : Ids). AreWritten ids.peer) (sym (composes leaving (at_poll e now c) (may_leave e now leaving (at_poll e now c) ready)).ids) w;
})

-- so does any call that is no delivery
pub call_written : (p : Policy) (e : End) (theirs : List (List ℕ)) (call : Call) (a : Answer) → is_delivery call ≡ false → AreWritten e.ids.peer → AreWritten (after_call p e theirs call a).ids.peer
call_written p e theirs call a other w = by_plain_call p e theirs (λ (x : End). AreWritten x.ids.peer) call a keep
  where
    keep : Plain p e call (λ (x : End). AreWritten x.ids.peer)
    keep (cases.waits now b) may = by_waits (λ (x : End). AreWritten x.ids.peer) b (with_closing e (ticked e.closing now)) w w
    keep (cases.changes_id b) may = next_id_written e b w
    keep (cases.times now expiry) may =
        by_expired p.words e now (λ (x : End). AreWritten x.ids.peer) (λ acks tracking timers waits asked runs packets. w)
        (λ acks timers waits asked runs. losses_keep (λ (x : End). AreWritten x.ids.peer) settles (with_closing e (ticked e.closing now)) w) (λ x v. v) expiry
    keep (cases.polls now) may = poll_written p e now w
    keep (cases.hears arrival d) is = cc
    keep c may = w
