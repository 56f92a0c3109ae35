-- So it is at each place of an honest run: a call is kept from reading a stream only where nothing
-- more is to be read of it, or its end only sends on it.
use Rattle.std.proofs.Common.{◌≡◌, ℕ, Bool, true, false, not, ◌&&◌, ◌||◌, List, [], ◌∷◌, ◌++◌, Option, Some, None, Result, Ok, Err, refl, sym, ap, ◌∙◌, subst, inl, inr}
use Rattle.std.specs.Prelude.{if◌then◌else◌, nat_lt}
use Rattle.std.specs.Option.{is_some}
use Rattle.std.proofs.lemmas.Bool.{cond_both, cases_Bool, or_left, or_right, eqb-true, eq-eqb}
use Rattle.quic_wire_core.specs.declared.stream_id.Side.{Side}
use Rattle.quic_wire_core.specs.StreamId.{other_side, dir_of}
use Rattle.quic_wire.specs.Value.{FrameValue}
use Rattle.quic_config.specs.Transport.{Settings, parameters_of}
use Rattle.quic_streams_parts.specs.declared.answers.ReadableError.{ReadableError}
use Rattle.quic_streams_parts.specs.declared.answers.ReadableError.TheVariants as readable_errors
use Rattle.quic_streams_parts.specs.declared.answers.UpdateError.{UpdateError}
use Rattle.quic_streams_parts.specs.declared.answers.UpdateError.TheVariants as update_errors
use Rattle.quic_streams_parts.specs.declared.answers.ClosedStream.{ClosedStream}
use Rattle.quic_streams_parts.specs.Dirs.{of, is_own, is_two_way}
use Rattle.quic_streams_parts.specs.RecvHalf.{RecvHalf, readable, is_illegal}
use Rattle.quic_streams_halves.specs.Halves.{has_place, no_places}
use Rattle.quic_streams_state.specs.declared.state.StreamsState.{StreamsState}
use Rattle.quic_streams_state.specs.State.{Opening, new_streams, is_opened, receives_on, receiving_half}
use Rattle.quic_streams_state.specs.Reading.{told_bytes, after_read_begun, stop_answer, after_stop, is_closed, is_closed_at, reset_of, received_reset_answer, after_received_reset}
use Rattle.quic_streams_laws.specs.Shape.{IsShaped}
use Rattle.quic_streams_laws.specs.ShapeLaws.{shape_any}
use Rattle.quic_streams_laws.specs.StartLaws.{shape_new, shape_set_params, nowhere}
use Rattle.quic_machine.specs.declared.run.Call.{Call}
use Rattle.quic_machine.specs.declared.run.Call.TheVariants as calls
use Rattle.quic_machine.specs.declared.run.Answer.{Answer}
use Rattle.quic_machine.specs.declared.run.Answer.TheVariants as answers
use Rattle.quic_machine.specs.declared.run.ReadCall.{ReadCall}
use Rattle.quic_machine.specs.Calls.{after_nexts}
use Rattle.quic_machine.specs.StreamCalls.{if_ok, IsRead}
use Rattle.quic_machine.specs.End.{End, streams_at}
use Rattle.quic_machine.specs.CallCases.{is_delivery}
use Rattle.quic_machine.specs.FrameCases.{begun, passed, frames_keep}
use Rattle.quic_machine.specs.Machine.{World, IsAnswer, after_call, reads_window, control_at, heard_at}
use Rattle.quic_headline.specs.Runs.{Run, Told, Next, Intake, until, nexts_by, nexts, tells_end}
use Rattle.quic_headline.specs.Headline.{IsHonest, IsRun, used}
use Rattle.quic_headline.specs.Undone.{tells_reset, asked_by, asked}
use Rattle.quic_headline.specs.Unread.{stopped}
use Rattle.quic_headline.specs.Allowed.{IsReadOff, is_kept_from_reading, ReadsAreAllowed}
use Rattle.quic_headline.proofs.Packets.Group.{meets}
use Rattle.quic_headline.proofs.Places.Told.{nexts_more, tells_append}
use Rattle.quic_headline.proofs.Places.Parties.{told_of, Party, called, Beginning, begun_as, came_to}
use Rattle.quic_headline.proofs.Places.Groups.{Way, Nothing, And, Calls, Group, both, beside}
use Rattle.quic_headline.proofs.Places.Coming.{by_coming}
use Rattle.quic_headline.proofs.Places.Placed.{party_at, Placed, placed, answered}
use Rattle.quic_headline.proofs.Places.Everything as everything
use Rattle.quic_headline.proofs.Places.Theorems.{ready}
use Rattle.quic_headline.proofs.Halves.Ready.{Ready}
use Rattle.quic_headline.proofs.Halves.Ghosts.{IsWriting}
use Rattle.quic_headline.proofs.Halves.Writer.{grows_behind}
use Rattle.quic_headline.proofs.Amounts.Opens.{Opens, opens_group}
use Rattle.quic_headline.proofs.Unread.Walk.{Of, quiet_left}
use Rattle.quic_headline.proofs.Unread.OpeningLasts.{Lasts, lasts_any, lasts_call}
use Rattle.quic_headline.proofs.Unread.OpeningRead.{resets_append, asked_more}
use Rattle.quic_headline.proofs.Credit.Lists.{told_uses, stopped_last}
use Rattle.quic_headline.proofs.Allowed.Halves.{Fits, Shuts, Shut, Tells, shuts_more, half_fits, begun_shut, nexts_shut, stop_shut, asked_shut, frame_fits, poll_shut, closed_fits}
use Rattle.quic_headline.proofs.Packets.Delivered.{frames_at}
use Rattle.quic_headline.proofs.Halves.Moved.{in_arrivals}

-- ---- what was told

-- whether a stream was stopped
abbrev Stops : List Told → ℕ → Type 0
Stops told id = stopped id told ≡ true

-- of one that was stopped nothing more is read
stop_ends : (told : List Told) (id : ℕ) → Stops told id → IsReadOff told id
stop_ends told id is = inr (inr (inr is))

-- it stays so
stops_more : (ts : List Told) (t : Told) (id : ℕ) → Stops ts id → Stops (ts ++ t ∷ []) id
stops_more ts t id is = (told_uses [] ts t).halted id is

off_more : (ts : List Told) (t : Told) (id : ℕ) → IsReadOff ts id → IsReadOff (ts ++ t ∷ []) id
off_more ts t id (inl end) = inl ((told_uses [] ts t).ended id end)
off_more ts t id (inr (inl reset)) = inr (inl (ap tells_reset (nexts_more id ts t) ∙ resets_append (nexts id ts) (nexts_by id t.call t.answer) ∙ or_left (tells_reset (nexts id ts)) (tells_reset (nexts_by id t.call t.answer)) reset))
off_more ts t id (inr (inr (inl heard))) = inr (inr (inl (asked_more id ts t ∙ or_left (asked id ts) (asked_by id t.call t.answer) heard)))
off_more ts t id (inr (inr (inr is))) = inr (inr (inr (stops_more ts t id is)))

-- the last call read the end of a stream, or the reset
read_last : (id : ℕ) (ts : List Told) (t : Told) (said : List Next) → nexts_by id t.call t.answer ≡ said → Tells said → IsReadOff (ts ++ t ∷ []) id
read_last id ts t said is (inl end) = inl (ap tells_end (nexts_more id ts t) ∙ tells_append (nexts id ts) (nexts_by id t.call t.answer) ∙ or_right (tells_end (nexts id ts)) (tells_end (nexts_by id t.call t.answer)) (ap tells_end is ∙ end))
read_last id ts t said is (inr reset) = inr (inl (ap tells_reset (nexts_more id ts t) ∙ resets_append (nexts id ts) (nexts_by id t.call t.answer) ∙ or_right (tells_reset (nexts id ts)) (tells_reset (nexts_by id t.call t.answer)) (ap tells_reset is ∙ reset)))

-- or asked for it
asked_last : (id : ℕ) (ts : List Told) (t : Told) → asked_by id t.call t.answer ≡ true → IsReadOff (ts ++ t ∷ []) id
asked_last id ts t is = inr (inr (inl (asked_more id ts t ∙ or_right (asked id ts) (asked_by id t.call t.answer) is)))

-- ---- the group

-- each half of x's that is stopped, or done, is so by what x was told
pub record ReadsShut (x y : Party) : Type 0 where
  pub shape : IsShaped x.end.streams
  pub fits : Of (Shuts (Stops x.told) (IsReadOff x.told)) x.end.streams

shape_lasts : Lasts IsShaped
shape_lasts = lasts_any IsShaped (λ s dir may. may) shape_any

module _ (B : Way) (w : IsWriting B) (x y : Party) (call : Call) (a : Answer) (c : Calls B x y call a) (i : ReadsShut x y) where
  abbrev s : StreamsState
  s = x.end.streams

  abbrev behind : Call → Answer → List Told
  behind k b = x.told ++ told_of k b x.end.closing.state ∷ []

  abbrev After : Call → Answer → StreamsState → Type 0
  After k b u = Of (Shuts (Stops (behind k b)) (IsReadOff (behind k b))) u

  -- what is said of halves that stay
  there : (k : Call) (b : Answer) → Shut (Stops (behind k b)) (IsReadOff (behind k b)) s
  there k b = (i.shape, shuts_more (Stops x.told) (IsReadOff x.told) (Stops (behind k b)) (IsReadOff (behind k b)) (stops_more x.told (told_of k b x.end.closing.state)) (off_more x.told (told_of k b x.end.closing.state)) s i.fits)

  read_fits : (rd : ReadCall) (said : List Next) → IsRead s rd.id rd.ordered rd.nexts.items (answers.Read (Ok said)) → After (calls.Read rd) (answers.Read (Ok said)) (after_nexts told_bytes (after_read_begun s rd.id rd.ordered) rd.id rd.nexts.items said)
  read_fits rd said is = (nexts_shut (Stops (behind k b)) (IsReadOff (behind k b)) told_bytes (after_read_begun s rd.id rd.ordered) rd.id rd.nexts.items said is.1
      (read_last rd.id x.told (told_of k b x.end.closing.state) said (ap (λ (t : Bool). if t then said else []) (eq-eqb rd.id rd.id refl)))
      (begun_shut (Stops (behind k b)) (IsReadOff (behind k b)) s rd.id rd.ordered (there k b))).1
    where
      k : Call
      k = calls.Read rd

      b : Answer
      b = answers.Read (Ok said)

  stop_fits : (id code : ℕ) → After (calls.Stop id code) (answers.Stop (stop_answer s id)) (if_ok (stop_answer s id) (after_stop s x.end.waiting.frames id code) (streams_at x.end)).state
  stop_fits id code = go (is_closed s id)
    where
      said : Bool → Result (Unit {0}) UpdateError
      said closed = if closed then Err update_errors.ClosedStream else Ok tt

      halted : Stops (behind (calls.Stop id code) (answers.Stop (Ok tt))) id
      halted = stopped_last id x.told (told_of (calls.Stop id code) (answers.Stop (Ok tt)) x.end.closing.state) (eq-eqb id id refl)

      go : (closed : Bool) → After (calls.Stop id code) (answers.Stop (said closed)) (if_ok (said closed) (after_stop s x.end.waiting.frames id code) (streams_at x.end)).state
      go true = (there (calls.Stop id code) (answers.Stop (Err update_errors.ClosedStream))).1
      go false = (stop_shut (Stops (behind (calls.Stop id code) (answers.Stop (Ok tt)))) (IsReadOff (behind (calls.Stop id code) (answers.Stop (Ok tt)))) s x.end.waiting.frames id code halted (inr (inr (inr halted))) (there (calls.Stop id code) (answers.Stop (Ok tt)))).1

  asked_fits : (id : ℕ) → After (calls.ReceivedReset id) (answers.ReceivedReset (received_reset_answer s id)) (after_received_reset s x.end.waiting.frames id).state
  asked_fits id = (asked_shut (Stops (behind k b)) (IsReadOff (behind k b)) s x.end.waiting.frames id over (there k b)).1
    where
      k : Call
      k = calls.ReceivedReset id

      b : Answer
      b = answers.ReceivedReset (received_reset_answer s id)

      over : (h : RecvHalf) → receiving_half s id ≡ Some h → is_some h.reset ≡ true → IsReadOff (behind k b) id
      over h is cut = elim (cases_Bool h.stopped) [
        | inl halted ↦ inr (inr (inr (half_fits (Stops (behind k b)) (IsReadOff (behind k b)) s id h is (there k b).1 halted)))
        | inr free ↦ asked_last id x.told (told_of k b x.end.closing.state) (subst (λ (o : Option RecvHalf). asked_by id k (answers.ReceivedReset (reset_of o)) ≡ true) (sym is) (by_reset h.stopped h.reset free cut))
      ]
        where
          closed : Result (Option ℕ) ClosedStream
          closed = Err (record {})

          by_reset : (t : Bool) (r : Option ℕ) → t ≡ false → is_some r ≡ true → asked_by id k (answers.ReceivedReset (if t then closed else Ok r)) ≡ true
          by_reset true r free some = cc
          by_reset false None free some = cc
          by_reset false (Some code) free some = eq-eqb id id refl

  apart_fits : (k : Call) (b : Answer) → is_delivery k ≡ false → IsAnswer x.policy x.end y.given k b → After k b (after_call x.policy x.end y.given k b).streams
  apart_fits (calls.Accept dir) b apart is = cond_both {A = Option ℕ × Opening} (nat_lt (of dir s.opening.accepted) (of dir s.opening.remote)) _ _ (λ t. After (calls.Accept dir) b (record s { opening = t.1 }))
      (λ f. (there (calls.Accept dir) b).1) (λ f. (there (calls.Accept dir) b).1)
  apart_fits (calls.Read rd) (answers.Read (Ok said)) apart is = read_fits rd said is
  apart_fits (calls.Read rd) b apart is = (there (calls.Read rd) b).1
  apart_fits (calls.Stop id code) b apart (inl is) = subst (λ (b : Answer). After (calls.Stop id code) b (after_call x.policy x.end y.given (calls.Stop id code) b).streams) (sym is) (stop_fits id code)
  apart_fits (calls.Stop id code) b apart (inr is) = subst (λ (b : Answer). After (calls.Stop id code) b (after_call x.policy x.end y.given (calls.Stop id code) b).streams) (sym is) (there (calls.Stop id code) (answers.Stop (Err update_errors.Memory))).1
  apart_fits (calls.ReceivedReset id) b apart is = subst (λ (b : Answer). After (calls.ReceivedReset id) b (after_received_reset s x.end.waiting.frames id).state) (sym is) (asked_fits id)
  apart_fits k b apart is = quiet_left (Shuts (Stops (behind k b)) (IsReadOff (behind k b))) x.policy x.end y.given k b apart refl is (λ now polls. (poll_shut (Stops (behind k b)) (IsReadOff (behind k b)) x.policy x.end now (there k b)).1) (there k b).1

  shut_call : ReadsShut (called x y.given call a) y
  shut_call = record {
    shape = lasts_call B w x y call a c IsShaped shape_lasts i.shape;
    fits = by_coming x y a c.joined c.served (meets y x (w.packets y x c.takes)) (λ (e : End) (j : Intake). After call a e.streams) call c.answer (record {
      apart = λ apart. apart_fits call a apart c.answer;
      none = λ delivery is. (there call a).1;
      comes = λ delivery is s among here. (
          let taken : List FrameValue = frames_at here s.frames in
          let all : Shut (Stops (behind call a)) (IsReadOff (behind call a)) (passed taken (begun x.end delivery.now s.number)).end.streams =
          frames_keep (λ (e : End). Shut (Stops (behind call a)) (IsReadOff (behind call a)) e.streams) (λ f e j. (shape_lasts.frame f e j.0, frame_fits (Stops (behind call a)) (IsReadOff (behind call a)) (stop_ends (behind call a)) f e j)) taken (begun x.end delivery.now s.number) (there call a) in
          in_arrivals (After call a) x.end delivery.now s.number s.frames taken (came_to x y) (there call a).1 all.1);
    });
  }

shut_first : (x y : Beginning) → ReadsShut (begun_as x y) (begun_as y x)
shut_first x y = record { shape = shaped; fits = record { each = λ id. unused id (has_place x.side no_places id) refl } }
  where
    m : Settings
    m = x.making.settings

    shaped : IsShaped (begun_as x y).end.streams
    shaped = shape_set_params (new_streams x.side m.max_uni m.max_bidi m.send_window m.receive_window m.stream_receive_window) (parameters_of y.making.settings) (shape_new x.side m.max_uni m.max_bidi m.send_window m.receive_window m.stream_receive_window)

    unused : (id : ℕ) (b : Bool) → has_place x.side no_places id ≡ b → Fits (Stops []) (IsReadOff []) id None b
    unused id true is = absurd (nowhere x.side id is)
    unused id false is = tt

pub reads_shut_group : (B : Way) → IsWriting B → Group B ReadsShut
reads_shut_group B w = record {
  first = λ x y m there back. shut_first x y;
  writer = λ x y call a c i back. shut_call B w x y call a c i;
  reader = λ x y call a c there i. record { shape = i.shape; fits = i.fits };
  shows = λ x y here there b back i j. record { shape = i.shape; fits = i.fits };
}

-- ---- all that holds

abbrev All : Way
All = everything.All Ready ready

abbrev N : Way
N = And Nothing All

is_writing : IsWriting N
is_writing = record {
  packets = λ x y h. h.1.0.0;
  written = λ x y h. h.1.0.1.0.writes.keeps.holds;
  says = λ x y h. h.1.0.1.0.says;
  grows = λ x y call a c. grows_behind N (λ x y h. h.1.0.0) x y call a c c.gives.1.0.1.0;
}

abbrev Known : Way
Known = And All (And ReadsShut Opens)

known : Group Nothing Known
known = both Nothing All (And ReadsShut Opens) (everything.all Ready ready) (beside N ReadsShut Opens (reads_shut_group N is_writing) (opens_group N is_writing))

-- ---- what is closed

readable_closed : (o : Option RecvHalf) (ordered : Bool) → ◌≡◌ {A = Result (Unit {0}) ReadableError} (readable o ordered) (Err readable_errors.ClosedStream) → is_closed_at o ≡ true
readable_closed None ordered e = refl
readable_closed (Some h) ordered e = go h.stopped (is_illegal h ordered) e
  where
    go : (t u : Bool) → ◌≡◌ {A = Result (Unit {0}) ReadableError} (if t then Err readable_errors.ClosedStream else (if u then Err readable_errors.IllegalOrderedRead else Ok tt)) (Err readable_errors.ClosedStream) → t ≡ true
    go true u e = refl
    go false true e = cc
    go false false e = cc

stop_closed : (closed : Bool) → answers.Stop (Err update_errors.ClosedStream) ≡ answers.Stop (if closed then Err update_errors.ClosedStream else Ok tt) → closed ≡ true
stop_closed true e = refl
stop_closed false e = cc

reset_closed : (o : Option RecvHalf) (x : ClosedStream) → answers.ReceivedReset (Err x) ≡ answers.ReceivedReset (reset_of o) → is_closed_at o ≡ true
reset_closed None x e = refl
reset_closed (Some h) x e = go h.stopped e
  where
    go : (t : Bool) → answers.ReceivedReset (Err x) ≡ answers.ReceivedReset (if t then Err (record {}) else Ok h.reset) → t ≡ true
    go true e = refl
    go false e = cc

-- a call that is kept from reading uses the stream
used_there : (id : ℕ) (call : Call) (a : Answer) → is_kept_from_reading id call a ≡ true → used call ≡ Some id
used_there id (calls.Read read) (answers.Read (Err readable_errors.ClosedStream)) kept = ap Some (eqb-true read.id id kept)
used_there id (calls.Stop q code) (answers.Stop (Err update_errors.ClosedStream)) kept = ap Some (eqb-true q id kept)
used_there id (calls.ReceivedReset q) (answers.ReceivedReset (Err closed)) kept = ap Some (eqb-true q id kept)
used_there id call a kept = cc

-- ---- the clause

module _ (r : Run) (end : World) (honest : IsHonest r) (run : IsRun r end) where
  pub reads_are_allowed : ReadsAreAllowed r
  reads_are_allowed side i id call a served event kept = elim (closed_fits (Stops told) (IsReadOff told) s id (stop_ends told) (closed call a kept (answered r p.world end i side call a p.goes_on event)) opened p.gives.1.0.fits) [
    | inl off ↦ inl off
    | inr none ↦ inr (only (is_own side id) (is_two_way (dir_of id)) (sym (ap (λ (d : Side). receives_on d id) p.gives.1.1.side) ∙ none))
  ]
    where
      p : Placed Known r end side i
      p = placed Known known r end honest run side i served

      x : Party
      x = party_at r i p.world side p.sents

      y : Party
      y = party_at r i p.world (other_side side) p.theirs

      s : StreamsState
      s = x.end.streams

      told : List Told
      told = until r side i

      opened : is_opened s id ≡ true
      opened = (p.gives.1.1.each id (honest.ids side i id call a event (used_there id call a kept))).opened

      only : (own two : Bool) → (not own || two) ≡ false → (own && not two) ≡ true
      only true true e = cc
      only true false e = refl
      only false two e = cc

      closed : (call : Call) (a : Answer) → is_kept_from_reading id call a ≡ true → IsAnswer x.policy (reads_window (control_at side p.world) (heard_at side p.world) call x.end) y.given call a → is_closed s id ≡ true
      closed (calls.Read read) (answers.Read (Err readable_errors.ClosedStream)) kept (inl is) = subst (λ (n : ℕ). is_closed s n ≡ true) (eqb-true read.id id kept) (readable_closed (receiving_half s read.id) read.ordered is)
      closed (calls.Read read) (answers.Read (Err readable_errors.ClosedStream)) kept (inr is) = cc
      closed (calls.Stop q code) (answers.Stop (Err update_errors.ClosedStream)) kept (inl is) = subst (λ (n : ℕ). is_closed s n ≡ true) (eqb-true q id kept) (stop_closed (is_closed s q) is)
      closed (calls.Stop q code) (answers.Stop (Err update_errors.ClosedStream)) kept (inr is) = cc
      closed (calls.ReceivedReset q) (answers.ReceivedReset (Err e)) kept is = subst (λ (n : ℕ). is_closed s n ≡ true) (eqb-true q id kept) (reset_closed (receiving_half s q) e is)
      closed call a kept is = cc
