-- A stream that a call opened or accepted is open at its end from then on (RFC 9000, section 2.1).
use Rattle.std.proofs.Common.{◌≡◌, ℕ, ◌+◌, ◌<◌, ◌≤◌, Bool, true, false, [], ◌∷◌, Option, Some, None, refl, sym, ap, ◌∙◌, subst, inl, inr, arith}
use Rattle.std.specs.Prelude.{nat_lt, ◌==◌, if◌then◌else◌}
use Rattle.std.proofs.lemmas.Bool.{lt-ltb, ltb-true, eq-eqb}
use Rattle.quic_wire_core.specs.declared.stream_id.Side.{Side}
use Rattle.quic_wire_core.specs.declared.stream_id.Side.TheVariants.{Client, Server}
use Rattle.quic_wire_core.specs.declared.stream_id.Dir.{Dir}
use Rattle.quic_wire_core.specs.declared.stream_id.Dir.TheVariants.{Bi, Uni}
use Rattle.quic_wire_core.specs.StreamId.{stream_id, other_side, side_bit, dir_of, index_of}
use Rattle.quic_wire_core.specs.StreamIdLaw.{initiator_of_stream_id, dir_of_stream_id, index_of_stream_id}
use Rattle.quic_wire.specs.Value.{FrameValue}
use Rattle.quic_streams_parts.specs.Dirs.{Counts, of, more}
use Rattle.quic_streams_state.specs.declared.state.StreamsState.{StreamsState}
use Rattle.quic_streams_state.specs.State.{Opening, is_opened_in}
use Rattle.quic_streams_state.specs.Opening.{open_answer, after_open, accept_answer, after_accept}
use Rattle.quic_streams_laws.specs.Keeping.{KeepsAll}
use Rattle.quic_streams_laws.specs.KeepingLaws.{by_accept, by_stream, by_reset_frame}
use Rattle.quic_streams_laws.specs.QuietLaws.{is_quiet}
use Rattle.quic_machine.specs.declared.run.Call.{Call}
use Rattle.quic_machine.specs.declared.run.Call.TheVariants as calls
use Rattle.quic_machine.specs.declared.run.Answer.{Answer}
use Rattle.quic_machine.specs.End.{End}
use Rattle.quic_machine.specs.Calls.{is_open}
use Rattle.quic_machine.specs.Receive.{take_frame}
use Rattle.quic_machine.specs.FrameCases.{begun, frames_keep}
use Rattle.quic_machine.specs.Machine.{IsAnswer, after_call}
use Rattle.quic_headline.specs.Runs.{Intake, In, ids_of, id_by, and_id}
use Rattle.quic_headline.proofs.Packets.Group.{meets}
use Rattle.quic_headline.proofs.Places.Told.{ids_append, in_append}
use Rattle.quic_headline.proofs.Places.Parties.{told_of, Party, called, came_to}
use Rattle.quic_headline.proofs.Places.Groups.{Way, Calls, Group}
use Rattle.quic_headline.proofs.Places.Coming.{by_coming}
use Rattle.quic_headline.proofs.Halves.Ghosts.{wrote, IsWriting}
use Rattle.quic_headline.proofs.Halves.QuietSteps.{frame_quiet, sent_within}
use Rattle.quic_headline.proofs.Halves.ReadCalls.{any_kept, call_kept}
use Rattle.quic_headline.proofs.Halves.Opened.{IsOpened, IsOf, opened_stays, side_stays}
use Rattle.quic_headline.proofs.Packets.Delivered.{frames_at}
use Rattle.quic_headline.proofs.Halves.Moved.{in_arrivals}

-- ---- ids

-- whether one is open is told by its count
count_is : (o : Opening) (side opener : Side) (dir : Dir) (n : ℕ) → is_opened_in o side (stream_id opener dir n) ≡ nat_lt n (of dir (if side_bit opener == side_bit side then o.own else o.remote))
count_is o side opener dir n =
    let id : ℕ = stream_id opener dir n in
    ap (λ (i : Side). nat_lt (index_of id) (of (dir_of id) (if side_bit i == side_bit side then o.own else o.remote))) (initiator_of_stream_id opener dir n)
    ∙ ap (λ (d : Dir). nat_lt (index_of id) (of d (if side_bit opener == side_bit side then o.own else o.remote))) (dir_of_stream_id opener dir n)
    ∙ ap (λ (m : ℕ). nat_lt m (of dir (if side_bit opener == side_bit side then o.own else o.remote))) (index_of_stream_id opener dir n)

-- one below its count is
pub below_count : (o : Opening) (side opener : Side) (dir : Dir) (n : ℕ) → n < of dir (if side_bit opener == side_bit side then o.own else o.remote) → is_opened_in o side (stream_id opener dir n) ≡ true
below_count o side opener dir n lt = count_is o side opener dir n ∙ lt-ltb n (of dir (if side_bit opener == side_bit side then o.own else o.remote)) lt

-- and no other
pub not_yet : (o : Opening) (side opener : Side) (dir : Dir) (n : ℕ) → of dir (if side_bit opener == side_bit side then o.own else o.remote) ≤ n → is_opened_in o side (stream_id opener dir n) ≡ true → ⊥
not_yet o side opener dir n le there =
    let count : ℕ = of dir (if side_bit opener == side_bit side then o.own else o.remote) in
    let lt : n < count = ltb-true n count (sym (count_is o side opener dir n) ∙ there) in
    omega (arith, lt, le)

pub one_more : (dir : Dir) (c : Counts) → of dir c < of dir (more dir c)
one_more Bi c = omega arith
one_more Uni c = omega arith

-- a stream that is opened
opened_answer : (b : Bool) (dir : Dir) (s : StreamsState) (id : ℕ) → open_answer b dir s ≡ Some id → IsOpened s.side id (after_open b dir s)
opened_answer false dir s id is = cc
opened_answer true dir s id is = go (nat_lt (of dir s.opening.own) (of dir s.opening.own_limit)) is
  where
    next : Bool → Option ℕ × Opening
    next b = if b then (Some (stream_id s.side dir (of dir s.opening.own)), record s.opening { own = more dir s.opening.own; sending = s.opening.sending + 1 }) else (None, s.opening)

    go : (b : Bool) → (next b).0 ≡ Some id → IsOpened s.side id (record s { opening = (next b).1 })
    go true is =
        let same : stream_id s.side dir (of dir s.opening.own) ≡ id = cc in
        let o : Opening = record s.opening { own = more dir s.opening.own; sending = s.opening.sending + 1 } in
        let own : (side_bit s.side == side_bit s.side) ≡ true = eq-eqb (side_bit s.side) (side_bit s.side) refl in
        record { of_side = refl; opened = subst (λ (x : ℕ). is_opened_in o s.side x ≡ true) same (below_count o s.side s.side dir (of dir s.opening.own) (subst (λ (t : Bool). of dir s.opening.own < of dir (if t then o.own else o.remote)) (sym own) (one_more dir s.opening.own))) }
    go false is = cc

-- the other side isn't this one
pub other_apart : (side : Side) → (side_bit (other_side side) == side_bit side) ≡ false
other_apart Client = refl
other_apart Server = refl

-- one that is accepted
accepted_answer : (dir : Dir) (s : StreamsState) (id : ℕ) → accept_answer dir s ≡ Some id → IsOpened s.side id (after_accept dir s)
accepted_answer dir s id is = go (nat_lt (of dir s.opening.accepted) (of dir s.opening.remote)) refl is
  where
    next : Bool → Option ℕ × Opening
    next b = if b then (Some (stream_id (other_side s.side) dir (of dir s.opening.accepted)), record s.opening { accepted = more dir s.opening.accepted }) else (None, s.opening)

    go : (b : Bool) → nat_lt (of dir s.opening.accepted) (of dir s.opening.remote) ≡ b → (next b).0 ≡ Some id → IsOpened s.side id (record s { opening = (next b).1 })
    go true lt is =
        let same : stream_id (other_side s.side) dir (of dir s.opening.accepted) ≡ id = cc in
        let o : Opening = record s.opening { accepted = more dir s.opening.accepted } in
        record { of_side = refl; opened = subst (λ (x : ℕ). is_opened_in o s.side x ≡ true) same (below_count o s.side (other_side s.side) dir (of dir s.opening.accepted) (subst (λ (t : Bool). of dir s.opening.accepted < of dir (if t then o.own else o.remote)) (sym (other_apart s.side)) (ltb-true _ _ lt))) }
    go false lt is = cc

-- ---- the group

-- a fact of a stream that holds once a call opens or accepts it, and from then on
pub record HoldsOnce (P : Side → ℕ → StreamsState → Type 0) : Type 1 where
  pub stays : (side : Side) (id : ℕ) → KeepsAll (λ r id old new. Unit {0}) (λ s id old new. Unit {0}) (λ s id n old new. Unit {0}) (λ s dir. Unit {0}) (λ id. Unit {0}) (P side id)
  pub opens : (b : Bool) (dir : Dir) (s : StreamsState) (id : ℕ) → open_answer b dir s ≡ Some id → P s.side id (after_open b dir s)
  pub accepts : (dir : Dir) (s : StreamsState) (id : ℕ) → accept_answer dir s ≡ Some id → P s.side id (after_accept dir s)

-- it holds of x's streams that it opened or accepted
pub record OfGiven (P : Side → ℕ → StreamsState → Type 0) (x y : Party) : Type 0 where
  pub side : x.end.streams.side ≡ x.side
  pub each : (id : ℕ) → In id (ids_of x.told) → P x.side id x.end.streams

module _ (B : Way) (w : IsWriting B) (x y : Party) (call : Call) (a : Answer) (c : Calls B x y call a) where
  -- what any change keeps stays
  kept : (P : StreamsState → Type 0) → KeepsAll (λ r id old new. Unit {0}) (λ s id old new. Unit {0}) (λ s id n old new. Unit {0}) (λ s dir. Unit {0}) (λ id. Unit {0}) P → P x.end.streams → P (called x y.given call a).end.streams
  kept P k here = by_coming x y a c.joined c.served (meets y x (w.packets y x c.takes)) (λ (e : End) (j : Intake). P e.streams) call c.answer (record {
    apart = λ apart. call_kept P (any_kept P k) x.policy x.end y.given (sent_within (wrote x.told) x.end.streams (w.written x y c.gives)) here call a c.answer apart (λ dir same. by_accept P k dir x.end.streams (λ may. tt) here);
    none = λ delivery is. here;
    comes = λ delivery is s among from. in_arrivals P x.end delivery.now s.number s.frames (frames_at from s.frames) (came_to x y) here (frames_keep (λ (e : End). P e.streams) frame (frames_at from s.frames) (begun x.end delivery.now s.number) here);
  })
    where
      frame : (f : FrameValue) (e : End) → P e.streams → P (take_frame f e).end.streams
      frame f e j = frame_quiet P (is_quiet P k) f e (λ g is. by_stream P k e.streams e.waiting.frames g (λ h part u. tt) j) (λ g is. by_reset_frame P k e.streams e.waiting.frames g (λ h part u. tt) j) j

module _ (P : Side → ℕ → StreamsState → Type 0) (h : HoldsOnce P) (B : Way) (w : IsWriting B) (x y : Party) (call : Call) (a : Answer) (c : Calls B x y call a) (i : OfGiven P x y) where
  -- a new one
  new_one : (call : Call) (a : Answer) → IsAnswer x.policy x.end y.given call a → (id : ℕ) → id_by call a ≡ Some id → P x.end.streams.side id (after_call x.policy x.end y.given call a).streams
  new_one (calls.Open dir) a is id by = h.opens (is_open x.end.closing.state) dir x.end.streams id (sym (ap (λ (b : Answer). id_by (calls.Open dir) b) is) ∙ by)
  new_one (calls.Accept dir) a is id by = h.accepts dir x.end.streams id (sym (ap (λ (b : Answer). id_by (calls.Accept dir) b) is) ∙ by)
  new_one call a is id by = cc

  given_step : OfGiven P (called x y.given call a) y
  given_step = record {
    side = kept B w x y call a c (IsOf x.side) (side_stays x.side) i.side;
    each = λ id among. elim (in_append id (ids_of x.told) (ids_of (told_of call a x.end.closing.state ∷ [])) (subst (In id) (ids_append x.told (told_of call a x.end.closing.state ∷ [])) among)) [
      | inl old ↦ kept B w x y call a c (P x.side id) (h.stays x.side id) (i.each id old)
      | inr new ↦ subst (λ (side : Side). P side id (called x y.given call a).end.streams) i.side (new_one call a c.answer id (only (id_by call a) new))
    ];
  }
    where
      only : {id : ℕ} → (o : Option ℕ) → In id (and_id o []) → o ≡ Some id
      only None new = absurd new
      only (Some n) (inl is) = ap Some (sym is)
      only (Some n) (inr none) = absurd none

-- such a fact holds at each place
pub given_group : (P : Side → ℕ → StreamsState → Type 0) → HoldsOnce P → (B : Way) → IsWriting B → Group B (OfGiven P)
given_group P h B w = record {
  first = λ x y m there back. record { side = refl; each = λ id none. absurd none };
  writer = λ x y call a c i back. given_step P h B w x y call a c i;
  reader = λ x y call a c there i. record { side = i.side; each = i.each };
  shows = λ x y here there b back i j. record { side = i.side; each = i.each };
}

-- x's streams that it opened or accepted are open
abbrev pub Opens : Way
Opens = OfGiven IsOpened

opened_once : HoldsOnce IsOpened
opened_once = record { stays = opened_stays; opens = opened_answer; accepts = accepted_answer }

pub opens_group : (B : Way) → IsWriting B → Group B Opens
opens_group B w = given_group IsOpened opened_once B w
