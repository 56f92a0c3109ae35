-- The streams that an end opened are those that it was told: as many of each direction as it
-- counts, and each below that count.
use Rattle.std.proofs.Common.{◌≡◌, ℕ, ◌+◌, ◌<◌, Bool, true, false, List, [], ◌∷◌, ◌++◌, length, Option, Some, None, refl, sym, ap, ◌∙◌, subst, inl, inr, arith, length-append, append-nil}
use Rattle.std.specs.Prelude.{nat_lt, nat_le, ◌&&◌, if◌then◌else◌}
use Rattle.std.proofs.lemmas.Bool.{cases_lt, cond_both}
use Rattle.quic_wire_core.specs.declared.stream_id.Side.{Side}
use Rattle.quic_wire_core.specs.declared.stream_id.Dir.{Dir}
use Rattle.quic_wire_core.specs.declared.stream_id.Dir.TheVariants.{Bi, Uni}
use Rattle.quic_wire_core.specs.StreamId.{stream_id}
use Rattle.quic_wire.specs.Value.{FrameValue}
use Rattle.quic_streams_parts.specs.Dirs.{Counts, of, more}
use Rattle.quic_streams_state.specs.declared.state.StreamsState.{StreamsState}
use Rattle.quic_streams_state.specs.State.{Opening}
use Rattle.quic_streams_state.specs.Limits.{most_streams}
use Rattle.quic_streams_state.specs.Opening.{open_answer, after_open}
use Rattle.quic_machine.specs.declared.answers.State.{State}
use Rattle.quic_machine.specs.declared.run.Call.{Call}
use Rattle.quic_machine.specs.declared.run.Call.TheVariants as calls
use Rattle.quic_machine.specs.declared.run.Answer.{Answer}
use Rattle.quic_machine.specs.declared.run.Answer.TheVariants as answers
use Rattle.quic_machine.specs.End.{End}
use Rattle.quic_machine.specs.Tracking.{dir_named}
use Rattle.quic_machine.specs.Receive.{take_frame}
use Rattle.quic_machine.specs.Calls.{is_open}
use Rattle.quic_machine.specs.FrameCases.{begun, passed, frames_keep}
use Rattle.quic_machine.specs.CallCases.{is_delivery}
use Rattle.quic_machine.specs.Machine.{IsAnswer, after_call}
use Rattle.quic_headline.specs.Runs.{Told, Intake, In, and_id}
use Rattle.quic_headline.specs.Undone.{same_dir, opened_by, opens}
use Rattle.quic_headline.proofs.Packets.Group.{meets}
use Rattle.quic_headline.proofs.Places.Told.{in_left, in_right}
use Rattle.quic_headline.proofs.Places.Parties.{told_of, Party, called, Beginning, begun_as, came_to}
use Rattle.quic_headline.proofs.Places.Groups.{Way, Calls, Group}
use Rattle.quic_headline.proofs.Places.Coming.{by_coming}
use Rattle.quic_headline.proofs.Halves.Ghosts.{IsWriting}
use Rattle.quic_headline.proofs.Halves.Opened.{IsOf, side_stays}
use Rattle.quic_headline.proofs.Unread.OpeningLasts.{lasts_any, lasts_call}
use Rattle.quic_headline.proofs.Unread.OpeningOwn.{opens_one, Own, call_own, frame_own}
use Rattle.quic_headline.proofs.Packets.Delivered.{frames_at}
use Rattle.quic_headline.proofs.Halves.Moved.{in_arrivals}

-- ---- what was told

opens_append : (dir : Dir) (ts more : List Told) → opens dir (ts ++ more) ≡ opens dir ts ++ opens dir more
opens_append dir [] more = refl
opens_append dir (t ∷ ts) more = before (opened_by dir t.call t.answer) (opens_append dir ts more)
  where
    before : (o : Option ℕ) → opens dir (ts ++ more) ≡ opens dir ts ++ opens dir more → and_id o (opens dir (ts ++ more)) ≡ and_id o (opens dir ts) ++ opens dir more
    before None same = same
    before (Some id) same = ap (λ (ids : List ℕ). id ∷ ids) same

-- so many of each direction were opened, and each of these was told
pub record AreOpens (side : Side) (own : Counts) (told : List Told) : Type 0 where
  pub count : (dir : Dir) → length (opens dir told) ≡ of dir own
  pub each : (dir : Dir) (index : ℕ) → index < of dir own → In (stream_id side dir index) (opens dir told)

module _ (side : Side) (own : Counts) (told : List Told) (t : Told) (i : AreOpens side own told) where
  -- one call more that opened none
  same_opens : ((dir : Dir) → opened_by dir t.call t.answer ≡ None) → AreOpens side own (told ++ t ∷ [])
  same_opens none = record { count = λ dir. ap length (same dir) ∙ i.count dir; each = λ dir index below. subst (In (stream_id side dir index)) (sym (same dir)) (i.each dir index below) }
    where
      same : (dir : Dir) → opens dir (told ++ t ∷ []) ≡ opens dir told
      same dir = opens_append dir told (t ∷ []) ∙ (ap (λ (o : Option ℕ). opens dir told ++ and_id o []) (none dir) ∙ append-nil (opens dir told))

  -- that opened the next one
  next_opens : (d : Dir) → ((dir : Dir) → opened_by dir t.call t.answer ≡ (if same_dir d dir then Some (stream_id side d (of d own)) else None)) → AreOpens side (more d own) (told ++ t ∷ [])
  next_opens d is = record { count = λ dir. counted d dir (behind dir); each = λ dir index below. there d dir index (behind dir) below }
    where
      behind : (dir : Dir) → opens dir (told ++ t ∷ []) ≡ opens dir told ++ and_id (if same_dir d dir then Some (stream_id side d (of d own)) else None) []
      behind dir = opens_append dir told (t ∷ []) ∙ ap (λ (o : Option ℕ). opens dir told ++ and_id o []) (is dir)

      one : (dir : Dir) (ids : List ℕ) (id : ℕ) → ids ≡ opens dir told ++ id ∷ [] → length ids ≡ of dir own + 1
      one dir ids id e = (let a = length-append (opens dir told) (id ∷ []) in let b = i.count dir in let c : length ids ≡ length (opens dir told ++ id ∷ []) = ap length e in omega arith)

      none : (dir : Dir) (ids : List ℕ) → ids ≡ opens dir told ++ [] → length ids ≡ of dir own
      none dir ids e = ap length (e ∙ append-nil (opens dir told)) ∙ i.count dir

      counted : (d dir : Dir) → opens dir (told ++ t ∷ []) ≡ opens dir told ++ and_id (if same_dir d dir then Some (stream_id side d (of d own)) else None) [] → length (opens dir (told ++ t ∷ [])) ≡ of dir (more d own)
      counted Bi Bi e = one Bi (opens Bi (told ++ t ∷ [])) (stream_id side Bi own.bi) e
      counted Uni Uni e = one Uni (opens Uni (told ++ t ∷ [])) (stream_id side Uni own.uni) e
      counted Bi Uni e = none Uni (opens Uni (told ++ t ∷ [])) e
      counted Uni Bi e = none Bi (opens Bi (told ++ t ∷ [])) e

      last : (dir : Dir) (index : ℕ) → index < of dir own + 1 → opens dir (told ++ t ∷ []) ≡ opens dir told ++ stream_id side dir (of dir own) ∷ [] → In (stream_id side dir index) (opens dir (told ++ t ∷ []))
      last dir index below e = subst (In (stream_id side dir index)) (sym e) (elim (cases_lt index (of dir own)) [
        | inl old ↦ in_left (stream_id side dir index) (opens dir told) (stream_id side dir (of dir own) ∷ []) (i.each dir index old)
        | inr new ↦ in_right (stream_id side dir index) (opens dir told) (stream_id side dir (of dir own) ∷ []) (inl (ap (stream_id side dir) (omega arith)))
      ])

      as_before : (dir : Dir) (index : ℕ) → index < of dir own → opens dir (told ++ t ∷ []) ≡ opens dir told ++ [] → In (stream_id side dir index) (opens dir (told ++ t ∷ []))
      as_before dir index below e = subst (In (stream_id side dir index)) (sym (e ∙ append-nil (opens dir told))) (i.each dir index below)

      there : (d dir : Dir) (index : ℕ) → opens dir (told ++ t ∷ []) ≡ opens dir told ++ and_id (if same_dir d dir then Some (stream_id side d (of d own)) else None) [] → index < of dir (more d own) → In (stream_id side dir index) (opens dir (told ++ t ∷ []))
      there Bi Bi index e below = last Bi index below e
      there Uni Uni index e below = last Uni index below e
      there Bi Uni index e below = as_before Uni index below e
      there Uni Bi index e below = as_before Bi index below e

-- a call that opens none
opens_none : (dir : Dir) (call : Call) (a : Answer) → opens_one call ≡ false → opened_by dir call a ≡ None
opens_none dir (calls.Open d) a quiet = cc
opens_none dir call a quiet = refl

-- a call that opens one
module _ (side : Side) (told : List Told) (state : State) (s : StreamsState) (of_side : s.side ≡ side) (i : AreOpens side s.opening.own told) where
  open_opens : (b : Bool) (d : Dir) → AreOpens side (after_open b d s).opening.own (told ++ told_of (calls.Open d) (answers.Open (open_answer b d s)) state ∷ [])
  open_opens false d = same_opens side s.opening.own told (told_of (calls.Open d) (answers.Open None) state) i (λ dir. nothing (same_dir d dir))
    where
      nothing : (b : Bool) → ◌≡◌ {A = Option ℕ} (if b then None else None) None
      nothing true = refl
      nothing false = refl
  open_opens true d = go (nat_lt (of d s.opening.own) (of d s.opening.own_limit))
    where
      next : Bool → Option ℕ × Opening
      next b = if b then (Some (stream_id s.side d (of d s.opening.own)), record s.opening { own = more d s.opening.own; sending = s.opening.sending + 1 }) else (None, s.opening)

      nothing : (b : Bool) → ◌≡◌ {A = Option ℕ} (if b then None else None) None
      nothing true = refl
      nothing false = refl

      go : (b : Bool) → AreOpens side (next b).1.own (told ++ told_of (calls.Open d) (answers.Open (next b).0) state ∷ [])
      go true = next_opens side s.opening.own told (told_of (calls.Open d) (answers.Open (Some (stream_id s.side d (of d s.opening.own)))) state) i d
          (λ dir. ap (λ (x : Side). if same_dir d dir then Some (stream_id x d (of d s.opening.own)) else None) of_side)
      go false = same_opens side s.opening.own told (told_of (calls.Open d) (answers.Open None) state) i (λ dir. nothing (same_dir d dir))

-- as many are opened
abbrev OfSame : Counts → Counts → Counts → Type 0
OfSame own n limit = n ≡ own

-- so it is behind a frame
same_frame : (own : Counts) (f : FrameValue) (e : End) → Own (OfSame own) e.streams → Own (OfSame own) (take_frame f e).end.streams
same_frame own f e i = frame_own (OfSame own) f e (λ g is. cond_both (nat_le g.count most_streams && nat_lt (of (dir_named g.one_way) e.streams.opening.own_limit) g.count) _ _ (Own (OfSame own)) (λ more. i) (λ none. i)) i

-- ---- the group

-- x's streams are those that it was told
pub record OpensAre (x y : Party) : Type 0 where
  pub side : x.end.streams.side ≡ x.side
  pub are : AreOpens x.side x.end.streams.opening.own x.told

module _ (B : Way) (w : IsWriting B) (x y : Party) (call : Call) (a : Answer) (c : Calls B x y call a) (i : OpensAre x y) where
  abbrev state : State
  state = x.end.closing.state

  abbrev Now : Call → Answer → StreamsState → Type 0
  Now k b s = AreOpens x.side s.opening.own (x.told ++ told_of k b state ∷ [])

  -- a call that opens none, by which so many are opened as before
  quiet : (k : Call) (s : StreamsState) → opens_one k ≡ false → s.opening.own ≡ x.end.streams.opening.own → Now k a s
  quiet k s none same = subst (λ (own : Counts). AreOpens x.side own (x.told ++ told_of k a state ∷ [])) (sym same) (same_opens x.side x.end.streams.opening.own x.told (told_of k a state) i.are (λ dir. opens_none dir k a none))

  apart_opens : (k : Call) → is_delivery k ≡ false → IsAnswer x.policy x.end y.given k a → Now k a (after_call x.policy x.end y.given k a).streams
  apart_opens (calls.Open d) apart is = subst (λ (b : Answer). Now (calls.Open d) b (after_call x.policy x.end y.given (calls.Open d) b).streams) (sym is) (open_opens x.side x.told state x.end.streams i.side i.are (is_open state) d)
  apart_opens k apart is = quiet k (after_call x.policy x.end y.given k a).streams refl (call_own (OfSame x.end.streams.opening.own) x.policy x.end y.given k a apart refl is refl)

  opens_call : OpensAre (called x y.given call a) y
  opens_call = record {
    side = lasts_call B w x y call a c (IsOf x.side) (lasts_any (IsOf x.side) (λ s dir may. tt) (side_stays x.side)) i.side;
    are = by_coming x y a c.joined c.served (meets y x (w.packets y x c.takes)) (λ (e : End) (j : Intake). Now call a e.streams) call c.answer (record {
      apart = λ apart. apart_opens call apart c.answer;
      none = λ delivery is. quiet call x.end.streams (ap opens_one is) refl;
      comes = λ delivery is s among here. (
          let taken : List FrameValue = frames_at here s.frames in
          let before : End = begun x.end delivery.now s.number in
          let after : Own (OfSame x.end.streams.opening.own) (passed taken before).end.streams = frames_keep (λ (e : End). Own (OfSame x.end.streams.opening.own) e.streams) (same_frame x.end.streams.opening.own) taken before refl in
          in_arrivals (Now call a) x.end delivery.now s.number s.frames taken (came_to x y) (quiet call x.end.streams (ap opens_one is) refl) (quiet call (passed taken before).end.streams (ap opens_one is) after));
    });
  }

opens_first : (x y : Beginning) → OpensAre (begun_as x y) (begun_as y x)
opens_first x y = record { side = refl; are = record { count = none; each = below } }
  where
    none : (dir : Dir) → length (opens dir []) ≡ of dir (begun_as x y).end.streams.opening.own
    none Bi = refl
    none Uni = refl

    below : (dir : Dir) (index : ℕ) → index < of dir (begun_as x y).end.streams.opening.own → In (stream_id x.side dir index) (opens dir [])
    below Bi index lt = absurd (omega arith)
    below Uni index lt = absurd (omega arith)

pub opens_are_group : (B : Way) → IsWriting B → Group B OpensAre
opens_are_group B w = record {
  first = λ x y m there back. opens_first x y;
  writer = λ x y call a c i back. opens_call B w x y call a c i;
  reader = λ x y call a c there i. record { side = i.side; are = i.are };
  shows = λ x y here there b back i j. record { side = i.side; are = i.are };
}
