-- What goes of streams lies below what goes next: an end knows of each frame that it sends.
use Rattle.std.proofs.Common.{◌≡◌, ℕ, zero, suc, ◌+◌, ◌<◌, ◌≤◌, Bool, List, [], ◌∷◌, ◌++◌, length, replicate, append-nil, Option, Some, None, refl, sym, ap, ◌∙◌, subst, ◌⊎◌, inl, inr, arith}
use Rattle.std.specs.Prelude.{◌&&◌}
use Rattle.std.proofs.lemmas.Bool.{cond_both}
use Rattle.quic_wire.specs.Value.{FrameValue, StreamValue, stream, padding}
use Rattle.quic_send_buffer.specs.Buffered.{IsBuffered}
use Rattle.quic_send_buffer.proofs.Buffered.Calls.{next_kept, next_bounded, sent_from, sent_within}
use Rattle.quic_streams_parts.specs.Queue.{Place, Queue}
use Rattle.quic_streams_parts.specs.Table.{at}
use Rattle.quic_streams_parts.specs.SendHalf.{SendHalf, Queued, frame_of, half_after, has_pending, turned, turned_at}
use Rattle.quic_streams_state.specs.declared.state.StreamsState.{StreamsState}
use Rattle.quic_streams_state.specs.Control.{frame_told}
use Rattle.quic_streams_state.specs.Frames.{after_frame_sent}
use Rattle.quic_streams_laws.specs.Each.{HalfIs}
use Rattle.quic_streams_laws.specs.EachLaws.{each_with, half_follows}
use Rattle.quic_streams_laws.specs.KeepingLaws.{live_sends}
use Rattle.quic_streams_laws.specs.QuietLaws.{by_told}
use Rattle.quic_streams_laws.specs.ShapeLaws.{sends_with}
use Rattle.quic_streams_laws.specs.Written.{Wrote}
use Rattle.quic_streams_laws.specs.AcknowledgedLaws.{half_arrived}
use Rattle.quic_machine.specs.declared.run.Answer.TheVariants as answers
use Rattle.quic_machine.specs.Policy.{Policy}
use Rattle.quic_machine.specs.End.{End, closed_by, with_closing}
use Rattle.quic_machine.specs.declared.answers.State.TheVariants as states
use Rattle.quic_machine.specs.Poll.{Draft, Polled, polled, draft_as, zeros_behind, Leaving, Ready}
use Rattle.quic_machine.specs.PollCases.{ready_at, draft_at, may_leave_at, by_poll, at_poll}
use Rattle.quic_machine.specs.DraftLaws.{Writing, by_leave, MayLeave}
use Rattle.quic_machine.specs.Puts as puts
use Rattle.quic_machine.specs.Machine.{gave}
use Rattle.quic_machine.specs.Closing.{ticked}
use Rattle.quic_headline.proofs.Packets.Closes.{by_closes}
use Rattle.quic_headline.specs.Runs.{In}
use Rattle.quic_headline.specs.Observer.{Sent}
use Rattle.quic_headline.proofs.Places.Parties.{sent_as, sent_by, sent_if}
use Rattle.quic_headline.proofs.Places.Told.{in_left, in_last}
use Rattle.quic_headline.proofs.Packets.Growth.{in_more}
use Rattle.quic_headline.proofs.Duties.Flies.{frame_bytes}
use Rattle.quic_headline.proofs.Packets.Entries.{IsControl, control_of}
use Rattle.quic_headline.proofs.Halves.Finished.{finished_words}
use Rattle.quic_headline.proofs.Settled.Told.{same_told, told_queue}
use Rattle.quic_headline.proofs.Settled.Half.{Known, KnowsMore, Tells, UnusedSettles, HalfSettles, DoneSettles, Settles, settles_kept, half_settles, settles_follow, requeued_settles, nothing_known}
use Rattle.quic_headline.proofs.Settled.Acked.{telling}
use Rattle.quic_headline.proofs.Settled.Words.{Settling, is_reset, retold}
use Rattle.quic_headline.proofs.Settled.Carried.{known_of}
use Rattle.quic_headline.proofs.Packets.Probes.{may_leave, ready_state, by_going}
use Rattle.quic_headline.proofs.Packets.Sends.{by_sends}

-- a frame is no STREAM frame
abbrev pub IsNoStream : FrameValue → Type 0
IsNoStream (stream f) = ⊥
IsNoStream f = Unit {0}

control_apart : (f : FrameValue) → IsControl f → IsNoStream f
control_apart (stream f) is = is
control_apart f is = tt

-- one that is adds no more than what it says
pub record KnowsSent (f : StreamValue) (k l : Known) : Type 0 where
  pub sent : (id o : ℕ) → l.sent id o → k.sent id o ⊎ ((f.id ≡ id) × (f.offset ≤ o) × (o < f.offset + length f.bytes))
  pub end_sent : (id : ℕ) → l.end_sent id → k.end_sent id ⊎ (f.id ≡ id)
  pub acked : (id o : ℕ) → l.acked id o → k.acked id o
  pub end_acked : (id : ℕ) → l.end_acked id → k.end_acked id

-- what is known where these frames went of a datagram
pub record GoesKnown (K : List FrameValue → Known) : Type 0 where
  pub apart : (fs : List FrameValue) (f : FrameValue) → IsNoStream f → KnowsMore (K (fs ++ f ∷ [])) (K fs)
  pub stream : (fs : List FrameValue) (f : StreamValue) → KnowsSent f (K fs) (K (fs ++ stream f ∷ []))

-- ---- one frame of a half

module _ (k l : Known) (t : Tells) (s : StreamsState) (fair : Bool) (id : ℕ) (h : SendHalf) (room : ℕ) (found : at s.sending.halves.live id ≡ Some h) (lawful : IsBuffered h.buffer) (adds : KnowsSent (frame_of id h room) k l) where
  -- other streams
  others_go : (j : ℕ) (o : Option SendHalf) (used : Bool) → (j ≡ id → ⊥) → HalfIs (UnusedSettles k t j) (HalfSettles k t j) (DoneSettles t j) o used → HalfIs (UnusedSettles l t j) (HalfSettles l t j) (DoneSettles t j) o used
  others_go j o used ne =
      let sent : (x : ℕ) → l.sent j x → k.sent j x = λ x a. elim (adds.sent j x a) [ inl old ↦ old | inr new ↦ absurd (ne (sym new.0)) ] in
      let end : l.end_sent j → k.end_sent j = λ a. elim (adds.end_sent j a) [ inl old ↦ old | inr new ↦ absurd (ne (sym new)) ] in
      half_follows {N = UnusedSettles k t j} {N' = UnusedSettles l t j} {Q = HalfSettles k t j} {Q' = HalfSettles l t j} {D = DoneSettles t j} {D' = DoneSettles t j}
      (λ x. (x.0, x.1, ((λ o a. x.2.0 o (sent o a)), (λ a. x.2.1 (end a)), (λ o a. x.2.2 o (adds.acked j o a)), λ a. x.2.3 (adds.end_acked j a))))
      (λ h x. (x.0, x.1, x.2, λ none. (let y = x.3 none in ((λ o a. y.0 o (sent o a)), (λ o a. y.1 o (adds.acked j o a)), λ a. y.2 (adds.end_acked j a)))))
      (λ x. x) o used

  -- the half itself
  half_goes : HalfSettles k t id h → HalfSettles l t id (half_after h room)
  half_goes x =
      let low = sent_from h.buffer room in
      let high = sent_within h.buffer room lawful in
      let most = next_bounded h.buffer lawful in
      let count = frame_bytes id h room (next_kept h.buffer lawful) low (omega arith) in (
        x.0,
        x.1,
        x.2,
        λ none. (let y = x.3 none in (
          (λ o a. elim (adds.sent id o a) [ inl old ↦ (let below = y.0 o old in omega arith) | inr new ↦ (let below = new.2 in omega arith) ]),
          (λ o a. y.1 o (adds.acked id o a)),
          λ a. y.2 (adds.end_acked id a),
        )),
      )

  turned_settles : (o : Option Place) (q : Queue) (g : SendHalf) → HalfSettles l t id g → HalfSettles l t id (turned_at o q id g).half
  turned_settles None q g i = i
  turned_settles (Some place) q g i = i

  -- its frame goes
  pub settles_sent : Settles k t s → Settles l t (after_frame_sent fair s id h room)
  settles_sent i =
      let g : SendHalf = half_after h room in
      let now : HalfSettles l t id g = half_goes (half_settles k t s id h (live_sends s id h found) i) in
      let q : Queued = turned fair s.sending.queue id g in
      let there : HalfSettles l t id q.half = cond_both {A = Queued} (fair && has_pending g) _ _ (λ (x : Queued). HalfSettles l t id x.half) (λ e. turned_settles g.place s.sending.queue g now) (λ e. requeued_settles l t g.place (has_pending g) s.sending.queue id g now) in
      record {
        shape = sends_with s id h q (live_sends s id h found) i.shape;
        first = λ j. tt;
        each = each_with s.side s.sending.halves id q.half (UnusedSettles k t) (UnusedSettles l t) (HalfSettles k t) (HalfSettles l t) (DoneSettles t) (DoneSettles t) i.shape.sending.runs there others_go i.each;
      }

-- ---- a datagram

module _ (arrived : ℕ → ℕ → Type 0) (end_arrived : ℕ → Type 0) (n : ℕ → ℕ) (w : ℕ → Wrote) where
  -- where less is known
  pub holds_less : (k l : Known) (s : StreamsState) → KnowsMore l k → Settling arrived end_arrived k n w s → Settling arrived end_arrived l n w s
  holds_less k l s more i = let t : Tells = telling n (is_reset w) s in (i.0, settles_follow k l t t more s (record { times = λ id. refl; reset = λ id. refl }) i.1)

  module _ (K : List FrameValue → Known) (g : GoesKnown K) where
    abbrev pub Drafts : Draft → Type 0
    Drafts d = Settling arrived end_arrived (K d.frames) n w d.end.streams

    -- whichever frames go
    pub drafts_write : Writing Drafts
    drafts_write (puts.drops kind) d may x = x
    drafts_write (puts.control kind f) d is x =
        let s = d.end.streams in
        let t : Tells = telling n (is_reset w) s in
        let k : Known = K d.frames in
        holds_less k (K (d.frames ++ f ∷ [])) (frame_told f s) (g.apart d.frames f (control_apart f (control_of f kind is.of_kind)))
        ((finished_words arrived end_arrived).tells f w s x.0, retold k n w s (frame_told f s) (same_told s (frame_told f s) (told_queue f s)) (by_told (Settles k t) (settles_kept k t) f s x.1))
    drafts_write (puts.stream id h room) d (found, first, some, is, counts) x =
        let s = d.end.streams in
        let lawful = (half_arrived arrived end_arrived w s id h (live_sends s id h found) x.0.acked).0.lawful in (
          (finished_words arrived end_arrived).sends d.end.transport.send_fairness w s id h room found x.0,
          settles_sent (K d.frames) (K (d.frames ++ stream (frame_of id h room) ∷ [])) (telling n (is_reset w) s) s d.end.transport.send_fairness id h room found lawful (g.stream d.frames (frame_of id h room)) x.1,
        )
    drafts_write p d may x = holds_less (K d.frames) (K (d.frames ++ _ ∷ [])) d.end.streams (g.apart d.frames _ tt) x

    pub draft_settles : (leaving : Leaving) (e : End) → MayLeave leaving e → Settling arrived end_arrived (K []) n w e.streams → Drafts (draft_as leaving e)
    draft_settles leaving e alone i = by_leave Drafts drafts_write leaving e alone i

-- ---- what a poll gives

-- nothing is known
nothing_goes : GoesKnown (λ fs. nothing_known)
nothing_goes = record {
  apart = λ fs f is. record { sent = λ id o x. absurd x; end_sent = λ id x. absurd x; acked = λ id o x. absurd x; end_acked = λ id x. absurd x };
  stream = λ fs f. record { sent = λ id o x. absurd x; end_sent = λ id x. absurd x; acked = λ id o x. absurd x; end_acked = λ id x. absurd x };
}

-- a datagram that isn't whole yet, behind those that were sent
abbrev drafted : List FrameValue → Sent
drafted fs = record { id = []; number = 0; reference = 0; frames = fs; moment = 0; size = 0; generation = 0 }

no_stream : (f : FrameValue) (g : StreamValue) → IsNoStream f → stream g ≡ f → ⊥
no_stream f g is same = subst IsNoStream (sym same) is

same_stream : (f g : StreamValue) → stream g ≡ stream f → g ≡ f
same_stream f g e = cc

-- a frame of what was sent with a draft stood before it, or in it
module _ (sents : List Sent) (old new : List FrameValue) where
  held_before : (f : StreamValue) (s : Sent) → In s (sents ++ drafted new ∷ []) → In (stream f) s.frames → ((x : Sent) × In x (sents ++ drafted old ∷ []) × In (stream f) x.frames) ⊎ In (stream f) new
  held_before f s i j = elim (in_more s (drafted new) sents i) [
    | inl there ↦ inl (s, in_left s sents (drafted old ∷ []) there, j)
    | inr is ↦ inr (subst (λ (x : Sent). In (stream f) x.frames) is j)
  ]

-- as frames go into a draft
drafts_go : (sents acks : List Sent) → GoesKnown (λ fs. known_of (sents ++ drafted fs ∷ []) acks)
drafts_go sents acks = record {
  apart = λ fs f is. record {
    sent = λ id o x. (let y = before fs f is x.frame x.sent x.among x.carried in record { sent = y.0; among = y.1; frame = x.frame; carried = y.2; of_stream = x.of_stream; from = x.from; below = x.below });
    end_sent = λ id x. (let y = before fs f is x.frame x.sent x.among x.carried in record { sent = y.0; among = y.1; frame = x.frame; carried = y.2; of_stream = x.of_stream; fin = x.fin });
    acked = λ id o x. x;
    end_acked = λ id x. x;
  };
  stream = λ fs f. record {
    sent = λ id o x. elim (either fs f x.frame x.sent x.among x.carried) [
      | inl y ↦ inl (record { sent = y.0; among = y.1; frame = x.frame; carried = y.2; of_stream = x.of_stream; from = x.from; below = x.below })
      | inr same ↦ inr (ap (λ (g : StreamValue). g.id) (sym same) ∙ x.of_stream, subst (λ (g : StreamValue). g.offset ≤ o) same x.from, subst (λ (g : StreamValue). o < g.offset + length g.bytes) same x.below)
    ];
    end_sent = λ id x. elim (either fs f x.frame x.sent x.among x.carried) [
      | inl y ↦ inl (record { sent = y.0; among = y.1; frame = x.frame; carried = y.2; of_stream = x.of_stream; fin = x.fin })
      | inr same ↦ inr (ap (λ (g : StreamValue). g.id) (sym same) ∙ x.of_stream)
    ];
    acked = λ id o x. x;
    end_acked = λ id x. x;
  };
}
  where
    either : (fs : List FrameValue) (f g : StreamValue) (s : Sent) → In s (sents ++ drafted (fs ++ stream f ∷ []) ∷ []) → In (stream g) s.frames → ((x : Sent) × In x (sents ++ drafted fs ∷ []) × In (stream g) x.frames) ⊎ (g ≡ f)
    either fs f g s i j = elim (held_before sents fs (fs ++ stream f ∷ []) g s i j) [
      | inl there ↦ inl there
      | inr new ↦ elim (in_more (stream g) (stream f) fs new) [ inl old ↦ inl (drafted fs, in_last (drafted fs) sents, old) | inr same ↦ inr (same_stream f g same) ]
    ]

    before : (fs : List FrameValue) (f : FrameValue) → IsNoStream f → (g : StreamValue) (s : Sent) → In s (sents ++ drafted (fs ++ f ∷ []) ∷ []) → In (stream g) s.frames → (x : Sent) × In x (sents ++ drafted fs ∷ []) × In (stream g) x.frames
    before fs f is g s i j = elim (held_before sents fs (fs ++ f ∷ []) g s i j) [
      | inl there ↦ there
      | inr new ↦ elim (in_more (stream g) f fs new) [ inl old ↦ (drafted fs, in_last (drafted fs) sents, old) | inr same ↦ absurd (no_stream f g is same) ]
    ]

-- PADDING holds nothing of streams
in_padded : (fs : List FrameValue) (count : ℕ) (f : StreamValue) → In (stream f) (fs ++ replicate count padding) → In (stream f) fs
in_padded [] zero f i = i
in_padded [] (suc count) f (inl is) = cc
in_padded [] (suc count) f (inr i) = in_padded [] count f i
in_padded (x ∷ fs) count f (inl is) = inl is
in_padded (x ∷ fs) count f (inr i) = inr (in_padded fs count f i)

-- a datagram holds of streams what its draft does
padded_less : (sents acks : List Sent) (s : Sent) (fs : List FrameValue) (count : ℕ) → s.frames ≡ fs ++ replicate count padding → KnowsMore (known_of (sents ++ s ∷ []) acks) (known_of (sents ++ drafted fs ∷ []) acks)
padded_less sents acks s fs count is = record {
  sent = λ id o x. (let y = stood x.frame x.sent x.among x.carried in record { sent = y.0; among = y.1; frame = x.frame; carried = y.2; of_stream = x.of_stream; from = x.from; below = x.below });
  end_sent = λ id x. (let y = stood x.frame x.sent x.among x.carried in record { sent = y.0; among = y.1; frame = x.frame; carried = y.2; of_stream = x.of_stream; fin = x.fin });
  acked = λ id o x. x;
  end_acked = λ id x. x;
}
  where
    stood : (g : StreamValue) (x : Sent) → In x (sents ++ s ∷ []) → In (stream g) x.frames → (y : Sent) × In y (sents ++ drafted fs ∷ []) × In (stream g) y.frames
    stood g x i j = elim (in_more x s sents i) [
      | inl there ↦ (x, in_left x sents (drafted fs ∷ []) there, j)
      | inr same ↦ (drafted fs, in_last (drafted fs) sents, in_padded fs count g (subst (λ (gs : List FrameValue). In (stream g) gs) is (subst (λ (z : Sent). In (stream g) z.frames) same j)))
    ]

module _ (arrived : ℕ → ℕ → Type 0) (end_arrived : ℕ → Type 0) (n : ℕ → ℕ) (w : ℕ → Wrote) (p : Policy) (e : End) (now : ℕ) where
  -- a poll leaves how often each stream was told finished
  pub poll_settles_nothing : Settling arrived end_arrived nothing_known n w e.streams → Settling arrived end_arrived nothing_known n w (polled p e now).end.streams
  poll_settles_nothing i = by_poll p e now (λ (r : Polled). Settling arrived end_arrived nothing_known n w r.end.streams) (record {
    silent = i;
    failed = i;
    nothing = λ c. i;
    repeats = λ is. by_closes p (with_closing e (ticked e.closing now)) (λ (r : Polled). Settling arrived end_arrived nothing_known n w r.end.streams) i (λ f goes. i);
    closes = λ reason c bound. by_closes p (closed_by reason (at_poll e now c)) (λ (r : Polled). Settling arrived end_arrived nothing_known n w r.end.streams) i (λ f goes. i);
    gives = λ leaving c left is may ready some.
        let x : End = at_poll e now c in
        draft_settles arrived end_arrived n w (λ fs. nothing_known) nothing_goes leaving x (may_leave e now leaving x ready) i;
  })

  -- what it gives is known besides, where it leaves the end open
  pub poll_settles : (sents acks : List Sent) → Settling arrived end_arrived (known_of sents acks) n w e.streams → (polled p e now).end.closing.state ≡ states.Open
      → Settling arrived end_arrived (known_of (sents ++ sent_if (gave (answers.Poll (polled p e now).answer)) (sent_by p e now)) acks) n w (polled p e now).end.streams
  poll_settles sents acks i = by_sends p e now (λ (r : Polled) (ss : List Sent). r.end.closing.state ≡ states.Open → Settling arrived end_arrived (known_of (sents ++ ss) acks) n w r.end.streams) (record {
    silent = λ opened. same;
    failed = λ opened. same;
    repeats = λ is. ((λ opened. let clash : states.Closing ≡ states.Open = sym is ∙ opened in cc), λ f goes opened. let clash : states.Closing ≡ states.Open = sym is ∙ opened in cc);
    nothing = λ is none opened. subst (λ (s : StreamsState). Settling arrived end_arrived (known_of (sents ++ []) acks) n w s) (sym (ready_state e now)) same;
    closes = λ reason is bound. ((λ opened. cc), λ f goes opened. cc);
    gives = λ is bound some opened. by_going (λ (z : End). Settling arrived end_arrived (known_of (sents ++ sent_as e now (draft_at e now) ∷ []) acks) n w z.streams) p (draft_at e now) (λ going. given);
  })
    where
      same : Settling arrived end_arrived (known_of (sents ++ []) acks) n w e.streams
      same = subst (λ (ss : List Sent). Settling arrived end_arrived (known_of ss acks) n w e.streams) (sym (append-nil sents)) i

      -- a draft with no frame holds nothing
      none_drafted : (sents acks : List Sent) → KnowsMore (known_of (sents ++ drafted [] ∷ []) acks) (known_of sents acks)
      none_drafted sents acks = record {
        sent = λ id o x. (let y = stood x.frame x.sent x.among x.carried in record { sent = x.sent; among = y; frame = x.frame; carried = x.carried; of_stream = x.of_stream; from = x.from; below = x.below });
        end_sent = λ id x. (let y = stood x.frame x.sent x.among x.carried in record { sent = x.sent; among = y; frame = x.frame; carried = x.carried; of_stream = x.of_stream; fin = x.fin });
        acked = λ id o x. x;
        end_acked = λ id x. x;
      }
        where
          stood : (g : StreamValue) (x : Sent) → In x (sents ++ drafted [] ∷ []) → In (stream g) x.frames → In x sents
          stood g x i j = elim (in_more x (drafted []) sents i) [ inl there ↦ there | inr is ↦ absurd (subst (λ (z : Sent). In (stream g) z.frames) is j) ]

      given : Settling arrived end_arrived (known_of (sents ++ sent_as e now (draft_at e now) ∷ []) acks) n w (draft_at e now).end.streams
      given =
          let g : Ready = ready_at e now in
          let d : Draft = draft_at e now in
          let first = subst (λ (s : StreamsState). Settling arrived end_arrived (known_of (sents ++ drafted [] ∷ []) acks) n w s) (sym (ready_state e now))
          (holds_less arrived end_arrived n w (known_of sents acks) (known_of (sents ++ drafted [] ∷ []) acks) e.streams (none_drafted sents acks) i) in
          holds_less arrived end_arrived n w (known_of (sents ++ drafted d.frames ∷ []) acks) (known_of (sents ++ sent_as e now d ∷ []) acks) d.end.streams
          (padded_less sents acks (sent_as e now d) d.frames (zeros_behind d) refl)
          (draft_settles arrived end_arrived n w (λ fs. known_of (sents ++ drafted fs ∷ []) acks) (drafts_go sents acks) g.leaving g.end (may_leave_at e now) first)
