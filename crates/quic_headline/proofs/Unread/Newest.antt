-- How far an end told its peer that it may come, on all streams and on each, and how many it may
-- open, is as far as at first, or stands in a frame that it gave: a group over what is written.
use Rattle.std.proofs.Common.{◌≡◌, ℕ, ◌+◌, Bool, true, false, List, [], ◌∷◌, ◌++◌, Option, Some, None, refl, sym, ap, ◌∙◌, subst, ◌⊎◌, inl, inr}
use Rattle.std.specs.Prelude.{not, ◌&&◌, ◌||◌}
use Rattle.std.specs.Ordering.{nat_cmp}
use Rattle.std.specs.List.Sorted.{IsStrictlySortedBy}
use Rattle.std.specs.Map.{keys_of}
use Rattle.std.proofs.lemmas.Bool.{cases_eq, cond_both}
use Rattle.quic_wire_core.specs.declared.stream_id.Side.{Side}
use Rattle.quic_wire_core.specs.declared.stream_id.Dir.{Dir}
use Rattle.quic_wire_core.specs.declared.stream_id.Dir.TheVariants.{Bi, Uni}
use Rattle.quic_wire_core.specs.StreamId.{dir_of}
use Rattle.quic_wire.specs.Value.{FrameValue, max_data, max_stream_data, max_streams}
use Rattle.quic_streams_parts.specs.Dirs.{Counts, of, with_of, is_own, is_two_way}
use Rattle.quic_streams_parts.specs.Table.{Table, at, put, without}
use Rattle.quic_streams_parts.specs.TableLaws.{at-put, at-put-apart, at-without, at-without-apart}
use Rattle.quic_streams_parts.specs.RecvHalf.{RecvHalf, raised_on}
use Rattle.quic_streams_halves.specs.Halves.{Halves, with_half, changed_at, is_done}
use Rattle.quic_retransmits.specs.Retransmits.{Retransmits}
use Rattle.quic_streams_state.specs.declared.state.StreamsState.{StreamsState}
use Rattle.quic_streams_state.specs.State.{Receiving, receiving_half, with_recv, recv_done, done_if, sending_status, seen_at}
use Rattle.quic_streams_state.specs.Limits.{raised_count}
use Rattle.quic_streams_state.specs.Control.{Goes, frame_told, dir_named}
use Rattle.quic_streams_laws.specs.KeepingLaws.{at-half, by_opened, by_stream, by_reset_frame}
use Rattle.quic_streams_laws.specs.QueuedLaws.{half-apart}
use Rattle.quic_streams_laws.specs.LimitedLaws.{WasReceiving, in_use, unused, was_receiving}
use Rattle.quic_streams_laws.specs.QuietLaws.{is_quiet}
use Rattle.quic_streams_laws.specs.Shape.{IsShaped}
use Rattle.quic_streams_laws.specs.ShapeLaws.{shape_any}
use Rattle.quic_machine.specs.declared.run.Call.{Call}
use Rattle.quic_machine.specs.declared.run.Call.TheVariants as calls
use Rattle.quic_machine.specs.declared.run.Answer.{Answer}
use Rattle.quic_machine.specs.declared.run.Answer.TheVariants as answers
use Rattle.quic_machine.specs.Policy.{Policy}
use Rattle.quic_machine.specs.Closing.{ticked}
use Rattle.quic_machine.specs.End.{End, with_closing, closed_by}
use Rattle.quic_machine.specs.Receive.{take_frame}
use Rattle.quic_machine.specs.Poll.{Draft, polled, draft_as, Leaving}
use Rattle.quic_machine.specs.Poll as poll
use Rattle.quic_machine.specs.PollCases.{ready_at, draft_at, frames_padded, may_leave_at}
use Rattle.quic_machine.specs.DraftLaws.{Writing, by_leave, MayLeave}
use Rattle.quic_machine.specs.Puts as puts
use Rattle.quic_machine.specs.FrameCases.{begun, passed}
use Rattle.quic_machine.specs.CallCases.{is_delivery}
use Rattle.quic_machine.specs.Machine.{IsAnswer, after_call, gave}
use Rattle.quic_headline.specs.Runs.{In, Intake}
use Rattle.quic_headline.specs.Observer.{Sent}
use Rattle.quic_headline.specs.Duties.{Limited, AllData, StreamData, StreamCount, limit_frame, WasGiven}
use Rattle.quic_headline.proofs.Packets.Group.{meets}
use Rattle.quic_headline.proofs.Packets.Probes.{by_going, ready_state}
use Rattle.quic_headline.proofs.Packets.Sends.{by_sends}
use Rattle.quic_headline.proofs.Places.Told.{in_left, in_right}
use Rattle.quic_headline.proofs.Places.Steps.{poll_answer}
use Rattle.quic_headline.proofs.Places.Parties.{Party, called, came_to, sent_as, sent_by, sent_if, sents_by, Beginning, begun_as}
use Rattle.quic_headline.proofs.Places.Groups.{Way, Calls, Group}
use Rattle.quic_headline.proofs.Places.Coming.{by_coming}
use Rattle.quic_headline.proofs.Halves.Ghosts.{IsWriting}
use Rattle.quic_headline.proofs.Halves.QuietSteps.{frame_quiet}
use Rattle.quic_headline.proofs.Halves.ReadCalls.{IsKept, any_kept}
use Rattle.quic_headline.proofs.Unread.Walk.{Of, Change, begins, reads, stops, takes, resets, IsLast, Steps, call_left, frames_left}
use Rattle.quic_headline.proofs.Packets.Delivered.{frames_at}
use Rattle.quic_headline.proofs.Halves.Moved.{in_arrivals}
use Rattle.quic_streams_laws.specs.Keeping as changes

-- ---- each half that is in use

module _ (Q : ℕ → RecvHalf → Type 0) where
  -- so it is of each half in use of these
  abbrev pub EachLive : Table RecvHalf → Type 0
  EachLive live = (id : ℕ) (h : RecvHalf) → at live id ≡ Some h → Q id h

  same_half : (a b : RecvHalf) (o : Option RecvHalf) → o ≡ Some a → o ≡ Some b → a ≡ b
  same_half a b o e g = cc

  gone_half : (o : Option RecvHalf) (h : RecvHalf) → o ≡ None → o ≡ Some h → ⊥
  gone_half o h e g = cc

  -- where one has another value
  pub live_with : (side : Side) (halves : Halves RecvHalf) (id : ℕ) (new : RecvHalf) → Q id new → EachLive halves.live → EachLive (with_half side halves id new).live
  live_with side halves id new now each j h e = elim (cases_eq j id) [
    | inl j_is ↦
        let there : at (with_half side halves id new).live id ≡ Some h = ap (λ (x : ℕ). at (with_half side halves id new).live x) (sym j_is) ∙ e in
        let is : new ≡ h = same_half new h (at (with_half side halves id new).live id) (at-half side halves id new) there in
        subst (λ (x : ℕ). Q x h) (sym j_is) (subst (Q id) is now)
    | inr ne ↦ each j h (sym (half-apart side halves id new j ne) ∙ e)
  ]

  -- where one is done
  pub live_without : (live : Table RecvHalf) (id : ℕ) → IsStrictlySortedBy nat_cmp (keys_of live) → EachLive live → EachLive (without live id)
  live_without live id sorted each j h e = elim (cases_eq j id) [
    | inl j_is ↦ absurd (gone_half (at (without live id) id) h (at-without live id sorted) (ap (λ (x : ℕ). at (without live id) x) (sym j_is) ∙ e))
    | inr ne ↦ each j h (sym (at-without-apart live id j ne) ∙ e)
  ]

  -- where one that is in use changes
  pub live_changed : (f : RecvHalf → RecvHalf) (live : Table RecvHalf) (id : ℕ) → ((h : RecvHalf) → at live id ≡ Some h → Q id (f h)) → EachLive live → EachLive (changed_at (at live id) f live id)
  live_changed f live id now each = go (at live id) refl
    where
      go : (o : Option RecvHalf) → at live id ≡ o → EachLive (changed_at o f live id)
      go None is = each
      go (Some g) is = λ j h e. elim (cases_eq j id) [
        | inl j_is ↦
            let there : at (put live id (f g)) id ≡ Some h = ap (λ (x : ℕ). at (put live id (f g)) x) (sym j_is) ∙ e in
            let same : f g ≡ h = same_half (f g) h (at (put live id (f g)) id) (at-put live id g (f g) is) there in
            subst (λ (x : ℕ). Q x h) (sym j_is) (subst (Q id) same (now g is))
        | inr ne ↦ each j h (sym (at-put-apart live id (f g) j ne) ∙ e)
      ]

-- ---- limits

-- a limit that the peer knows: as it was at first, or one that a frame said
abbrev pub IsNewest : (FrameValue → Type 0) → ℕ → Limited → ℕ → Type 0
IsNewest said first what value = (value ≡ first) ⊎ said (limit_frame what value)

-- each limit that the peer was told is, where windows and counts were so at first
pub record Says (said : FrameValue → Type 0) (first_all first_each : ℕ) (counts : Counts) (side : Side) (r : Receiving) (announced allowed : Counts) : Type 0 where
  pub window : r.window ≡ first_all
  pub stream_window : r.stream_window ≡ first_each
  pub configured : allowed ≡ counts
  pub all : IsNewest said first_all AllData r.announced
  pub each : (id : ℕ) (h : RecvHalf) → at r.halves.live id ≡ Some h → IsNewest said first_each (StreamData id) h.announced
  pub count : (dir : Dir) → IsNewest said (of dir counts) (StreamCount dir) (of dir announced)

-- nothing is asked of a frame
abbrev pub Any : FrameValue → Type 0
Any f = Unit {0}

module _ (window stream_window : ℕ) (counts : Counts) where
  -- more was said
  newest_more : (said more : FrameValue → Type 0) → ((f : FrameValue) → said f → more f) → (first : ℕ) (what : Limited) (value : ℕ) → IsNewest said first what value → IsNewest more first what value
  newest_more said more keeps first what value (inl same) = inl same
  newest_more said more keeps first what value (inr was) = inr (keeps (limit_frame what value) was)

  pub says_more : (said more : FrameValue → Type 0) → ((f : FrameValue) → said f → more f) → (side : Side) (r : Receiving) (announced configured : Counts) → Says said window stream_window counts side r announced configured → Says more window stream_window counts side r announced configured
  says_more said more keeps side r announced configured i = record {
    window = i.window;
    stream_window = i.stream_window;
    configured = i.configured;
    all = newest_more said more keeps window AllData r.announced i.all;
    each = λ id h is. newest_more said more keeps stream_window (StreamData id) h.announced (i.each id h is);
    count = λ dir. newest_more said more keeps (of dir counts) (StreamCount dir) (of dir announced) (i.count dir);
  }

  -- ---- what changes of halves

  -- a change of a half tells no limit
  change_tells : (r : Receiving) (id : ℕ) (old new : RecvHalf) → Change Any r id old new → new.announced ≡ old.announced
  change_tells r id old new (begins is) = ap (λ (h : RecvHalf). h.announced) is
  change_tells r id old new (reads most c e is) = ap (λ (h : RecvHalf). h.announced) is
  change_tells r id old new (stops free is) = ap (λ (h : RecvHalf). h.announced) is
  change_tells r id old new (takes f says of_id u is) = ap (λ (h : RecvHalf). h.announced) is ∙ cond_both old.stopped _ _ (λ (h : RecvHalf). h.announced ≡ old.announced) (λ e. refl) (λ e. cond_both _ _ _ (λ (h : RecvHalf). h.announced ≡ old.announced) (λ g. refl) (λ g. refl))
  change_tells r id old new (resets f says of_id u is) = ap (λ (h : RecvHalf). h.announced) is ∙ cond_both old.stopped _ _ (λ (h : RecvHalf). h.announced ≡ old.announced) (λ e. refl) (λ e. cond_both _ _ _ (λ (h : RecvHalf). h.announced ≡ old.announced) (λ g. refl) (λ g. refl))

  module _ (said : FrameValue → Type 0) where
    abbrev K : Side → Receiving → Counts → Counts → Type 0
    K = Says said window stream_window counts

    -- what is known of a half
    half_says : (s : StreamsState) (id : ℕ) (h : RecvHalf) → receiving_half s id ≡ Some h → Of K s → IsNewest said stream_window (StreamData id) h.announced
    half_says s id h e i = go (was_receiving s id h e)
      where
        go : WasReceiving s id h → IsNewest said stream_window (StreamData id) h.announced
        go (in_use is) = i.each id h is
        go (unused is free same) = inl (ap (λ (x : RecvHalf). x.announced) same ∙ i.stream_window)

    changes_say : (s : StreamsState) (id : ℕ) (old new : RecvHalf) → receiving_half s id ≡ Some old → Change Any s.receiving id old new → IsShaped s → Of K s → Of K (with_recv s id new)
    changes_say s id old new is change shape i =
        let now : IsNewest said stream_window (StreamData id) new.announced = subst (λ (n : ℕ). IsNewest said stream_window (StreamData id) n) (sym (change_tells s.receiving id old new change)) (half_says s id old is i) in
        record {
          window = i.window;
          stream_window = i.stream_window;
          configured = i.configured;
          all = i.all;
          each = live_with (λ (j : ℕ) (h : RecvHalf). IsNewest said stream_window (StreamData j) h.announced) s.side s.receiving.halves id new now i.each;
          count = i.count;
        }

    ends_say : (s : StreamsState) (id : ℕ) (h : RecvHalf) → at s.receiving.halves.live id ≡ Some h → IsLast h → IsShaped s → Of K s → Of K (recv_done s id)
    ends_say s id h is last shape i = done_says (not (is_own s.side id) && (not (is_two_way (dir_of id)) || is_done (sending_status s id))) (record {
      window = i.window;
      stream_window = i.stream_window;
      configured = i.configured;
      all = i.all;
      each = live_without (λ (j : ℕ) (x : RecvHalf). IsNewest said stream_window (StreamData j) x.announced) s.receiving.halves.live id shape.receiving.sorted i.each;
      count = i.count;
    })
      where
        gone : StreamsState
        gone = record s { receiving = record s.receiving { halves = record s.receiving.halves { live = without s.receiving.halves.live id }; gone = s.receiving.gone + seen_at (at s.receiving.halves.live id) } }

        done_says : (b : Bool) → Of K gone → Of K (done_if b id gone)
        done_says true j = j
        done_says false j = j

    pub steps : Steps Any IsShaped K
    steps = record { known = λ s id old new is change shape. shape_any (changes.changes_receiving s.receiving id old new) s (is, tt, refl) shape; changes = changes_say; ends = ends_say }

  -- ---- a frame goes

  told_says : (said more : FrameValue → Type 0) (p : Retransmits) (s : StreamsState) (f : FrameValue) → ((g : FrameValue) → said g → more g) → more f → Goes p s f → Of (Says said window stream_window counts) s → Of (Says more window stream_window counts) (frame_told f s)
  told_says said more p s (max_data limit) keeps now goes i = (let j = says_more said more keeps s.side s.receiving s.opening.announced s.opening.configured i in record {
    window = j.window;
    stream_window = j.stream_window;
    configured = j.configured;
    all = inr (subst (λ (n : ℕ). more (max_data n)) goes now);
    each = j.each;
    count = j.count;
  })
  told_says said more p s (max_stream_data f) keeps now goes i = (let j = says_more said more keeps s.side s.receiving s.opening.announced s.opening.configured i in record {
    window = j.window;
    stream_window = j.stream_window;
    configured = j.configured;
    all = j.all;
    each = live_changed (λ (id : ℕ) (h : RecvHalf). IsNewest more stream_window (StreamData id) h.announced) (λ (h : RecvHalf). record h { announced = raised_on s.receiving.stream_window h }) s.receiving.halves.live f.id
        (λ h is. (let same : goes.0 ≡ h = half_is goes.0 h (at s.receiving.halves.live f.id) goes.2 is in
        let limit : f.limit ≡ raised_on s.receiving.stream_window h = goes.3 ∙ ap (λ (x : RecvHalf). raised_on s.receiving.stream_window x) same in
        inr (subst (λ (n : ℕ). more (max_stream_data (record { id = f.id; limit = n }))) limit now))) j.each;
    count = j.count;
  })
    where
      half_is : (a b : RecvHalf) (o : Option RecvHalf) → o ≡ Some a → o ≡ Some b → a ≡ b
      half_is a b o e g = cc
  told_says said more p s (max_streams f) keeps now goes i = (let j = says_more said more keeps s.side s.receiving s.opening.announced s.opening.configured i in record {
    window = j.window;
    stream_window = j.stream_window;
    configured = j.configured;
    all = j.all;
    each = j.each;
    count = λ dir. counted f.one_way dir (subst (λ (n : ℕ). more (max_streams (record { one_way = f.one_way; count = n }))) goes now) (j.count dir);
  })
    where
      counted : (one_way : Bool) (dir : Dir) → more (max_streams (record { one_way = one_way; count = raised_count (dir_named one_way) s.opening })) → IsNewest more (of dir counts) (StreamCount dir) (of dir s.opening.announced)
          → IsNewest more (of dir counts) (StreamCount dir) (of dir (with_of (dir_named one_way) (raised_count (dir_named one_way) s.opening) s.opening.announced))
      counted true Uni said was = inr said
      counted false Bi said was = inr said
      counted true Bi said was = was
      counted false Uni said was = was
  told_says said more p s f keeps now goes i = says_more said more keeps s.side s.receiving s.opening.announced s.opening.configured i

  -- ---- what an end gives

  module _ (own : List Sent) where
    -- a limit stands in a frame that was given, or in one of these
    abbrev Along : List FrameValue → FrameValue → Type 0
    Along fs f = WasGiven own f ⊎ In f fs

    abbrev DraftSays : Draft → Type 0
    DraftSays d = Of (Says (Along d.frames) window stream_window counts) d.end.streams

    along_more : (fs : List FrameValue) (g f : FrameValue) → Along fs f → Along (fs ++ g ∷ []) f
    along_more fs g f (inl was) = inl was
    along_more fs g f (inr among) = inr (in_left f fs (g ∷ []) among)

    -- one frame more, that tells nothing
    draft_more : (fs : List FrameValue) (g : FrameValue) (s : StreamsState) → Of (Says (Along fs) window stream_window counts) s → Of (Says (Along (fs ++ g ∷ [])) window stream_window counts) s
    draft_more fs g s i = says_more (Along fs) (Along (fs ++ g ∷ [])) (along_more fs g) s.side s.receiving s.opening.announced s.opening.configured i

    draft_says : (leaving : Leaving) (e : End) → MayLeave leaving e → Of (Says (WasGiven own) window stream_window counts) e.streams → DraftSays (draft_as leaving e)
    draft_says leaving e due i = by_leave DraftSays keep leaving e due (says_more (WasGiven own) (Along []) (λ f was. inl was) e.streams.side e.streams.receiving e.streams.opening.announced e.streams.opening.configured i)
      where
        keep : Writing DraftSays
        keep (puts.drops kind) d may j = j
        keep (puts.control kind f) d is j = told_says (Along d.frames) (Along (d.frames ++ f ∷ [])) d.end.waiting.frames d.end.streams f (along_more d.frames f) (inr (in_right f d.frames (f ∷ []) (inl refl))) is.says j
        keep p d may j = draft_more d.frames _ d.end.streams j

    -- more was given
    given_more : (more : List Sent) (f : FrameValue) → WasGiven own f → WasGiven (own ++ more) f
    given_more more f was = record { sent = was.sent; among = in_left was.sent own more was.among; carried = was.carried }

    still_says : (more : List Sent) (s : StreamsState) → Of (Says (WasGiven own) window stream_window counts) s → Of (Says (WasGiven (own ++ more)) window stream_window counts) s
    still_says more s i = says_more (WasGiven own) (WasGiven (own ++ more)) (given_more more) s.side s.receiving s.opening.announced s.opening.configured i

    -- a datagram went that has these frames
    given_says : (d : Draft) (t : Sent) → t.frames ≡ frames_padded d → DraftSays d → Of (Says (WasGiven (own ++ t ∷ [])) window stream_window counts) d.end.streams
    given_says d t frames i = says_more (Along d.frames) (WasGiven (own ++ t ∷ [])) given d.end.streams.side d.end.streams.receiving d.end.streams.opening.announced d.end.streams.opening.configured i
      where
        given : (f : FrameValue) → Along d.frames f → WasGiven (own ++ t ∷ []) f
        given f (inl was) = given_more (t ∷ []) f was
        given f (inr among) = record { sent = t; among = in_right t own (t ∷ []) (inl refl); carried = subst (In f) (sym frames) (in_left f d.frames _ among) }

    -- a poll
    polled_says : (p : Policy) (e : End) (now : ℕ) → Of (Says (WasGiven own) window stream_window counts) e.streams → Of (Says (WasGiven (own ++ sent_if (gave (answers.Poll (polled p e now).answer)) (sent_by p e now))) window stream_window counts) (polled p e now).end.streams
    polled_says p e now i = by_sends p e now (λ q sents. Of (Says (WasGiven (own ++ sents)) window stream_window counts) q.end.streams) (record {
      silent = still_says [] e.streams i;
      failed = still_says [] e.streams i;
      nothing = λ is none. still_says [] (ready_at e now).end.streams ready;
      repeats = λ is. (still_says [] e.streams i, λ f goes. still_says (sent_as e now (draft_as (poll.closing f) (with_closing e (ticked e.closing now))) ∷ []) e.streams i);
      closes = λ reason is bound. (
        still_says [] (ready_at e now).end.streams ready,
        λ f goes. still_says (sent_as e now (draft_as (poll.closing f) (closed_by reason (ready_at e now).end)) ∷ []) (ready_at e now).end.streams ready,
      );
      gives = λ is_open numbered some. by_going (λ (x : End). Of (Says (WasGiven (own ++ sent_as e now (draft_at e now) ∷ [])) window stream_window counts) x.streams) p (draft_at e now)
          (λ going. given_says (draft_at e now) (sent_as e now (draft_at e now)) refl (draft_says (ready_at e now).leaving (ready_at e now).end (may_leave_at e now) ready));
    })
      where
        ready : Of (Says (WasGiven own) window stream_window counts) (ready_at e now).end.streams
        ready = subst (λ (s : StreamsState). Of (Says (WasGiven own) window stream_window counts) s) (sym (ready_state e now)) i

-- ---- the shape of streams

shape_known : IsKept IsShaped
shape_known = any_kept IsShaped shape_any

shape_frame : (f : FrameValue) (e : End) → IsShaped e.streams → IsShaped (take_frame f e).end.streams
shape_frame f e i = frame_quiet IsShaped (is_quiet IsShaped shape_any) f e
    (λ g is. by_stream IsShaped shape_any e.streams e.waiting.frames g (λ h a u. tt) i)
    (λ g is. by_reset_frame IsShaped shape_any e.streams e.waiting.frames g (λ h a u. tt) i)
    i

-- ---- the group

-- what x announced is as x was made, or stands in a frame that it gave
pub record NewestSaid (x y : Party) : Type 0 where
  pub says : Of (Says (WasGiven x.sents) x.made.streams.receiving.window x.made.streams.receiving.stream_window x.made.streams.opening.configured) x.end.streams

module _ (B : Way) (w : IsWriting B) (x y : Party) (call : Call) (a : Answer) (c : Calls B x y call a) (i : NewestSaid x y) where
  abbrev window : ℕ
  window = x.made.streams.receiving.window

  abbrev stream_window : ℕ
  stream_window = x.made.streams.receiving.stream_window

  abbrev counts : Counts
  counts = x.made.streams.opening.configured

  shape : IsShaped x.end.streams
  shape = (w.written x y c.gives).shape

  abbrev Now : List Sent → StreamsState → Type 0
  Now own s = Of (Says (WasGiven own) window stream_window counts) s

  -- where a call sends nothing
  none_sent : (own : List Sent) (s : StreamsState) → Now own s → Now (own ++ []) s
  none_sent own s j = still_says window stream_window counts own [] s j

  -- any call but a delivery
  apart_says : (k : Call) → is_delivery k ≡ false → IsAnswer x.policy x.end y.given k a → Now (x.sents ++ sents_by x.policy x.end k a) (after_call x.policy x.end y.given k a).streams
  apart_says (calls.Poll now) apart is = subst (λ (o : Answer). Now (x.sents ++ sent_if (gave o) (sent_by x.policy x.end now)) (polled x.policy x.end now).end.streams) (sym (poll_answer x.policy x.end now a is c.served)) (polled_says window stream_window counts x.sents x.policy x.end now i.says)
  apart_says k apart is = none_sent x.sents (after_call x.policy x.end y.given k a).streams
      (call_left Any IsShaped shape_known (Says (WasGiven x.sents) window stream_window counts) (steps window stream_window counts (WasGiven x.sents)) x.policy x.end y.given shape i.says k a apart is (λ now polls. cc))

  -- the frames of a packet
  frames_say : (fs : List FrameValue) (e : End) → IsShaped e.streams → Now x.sents e.streams → Now x.sents (passed fs e).end.streams
  frames_say fs e known j = frames_left Any IsShaped shape_known (Says (WasGiven x.sents) window stream_window counts) (steps window stream_window counts (WasGiven x.sents)) (λ s id within known. by_opened IsShaped shape_any s id within known) shape_frame fs e (λ f among. tt) known j

  says_call : NewestSaid (called x y.given call a) y
  says_call = record {
    says = by_coming x y a c.joined c.served (meets y x (w.packets y x c.takes)) (λ (e : End) (j : Intake). Now (x.sents ++ sents_by x.policy x.end call a) e.streams) call c.answer (record {
      apart = λ apart. apart_says call apart c.answer;
      none = λ delivery is. still_says window stream_window counts x.sents (sents_by x.policy x.end call a) x.end.streams i.says;
      comes = λ delivery is s among here. (
          let taken : List FrameValue = frames_at here s.frames in
          let more : (t : StreamsState) → Now x.sents t → Now (x.sents ++ sents_by x.policy x.end call a) t = λ t j. still_says window stream_window counts x.sents (sents_by x.policy x.end call a) t j in
          let after : Now x.sents (passed taken (begun x.end delivery.now s.number)).end.streams = frames_say taken (begun x.end delivery.now s.number) shape i.says in
          in_arrivals (Now (x.sents ++ sents_by x.policy x.end call a)) x.end delivery.now s.number s.frames taken (came_to x y) (more x.end.streams i.says) (more (passed taken (begun x.end delivery.now s.number)).end.streams after));
    });
  }

newest_first : (x y : Beginning) → NewestSaid (begun_as x y) (begun_as y x)
newest_first x y = record {
  says = record {
    window = refl;
    stream_window = refl;
    configured = refl;
    all = inl refl;
    each = λ id h is. cc;
    count = first;
  };
}
  where
    first : (dir : Dir) → IsNewest (WasGiven []) (of dir (begun_as x y).made.streams.opening.configured) (StreamCount dir) (of dir (begun_as x y).end.streams.opening.announced)
    first Bi = inl refl
    first Uni = inl refl

pub newest_group : (B : Way) → IsWriting B → Group B NewestSaid
newest_group B w = record {
  first = λ x y m there back. newest_first x y;
  writer = λ x y call a c i back. says_call B w x y call a c i;
  reader = λ x y call a c there i. record { says = i.says };
  shows = λ x y here there b back i j. record { says = i.says };
}
