-- A stream that a call opens or accepts wasn't opened or accepted before (RFC 9000, section 2.1).
use Rattle.std.proofs.Common.{◌≡◌, ℕ, ◌+◌, ◌<◌, ◌≤◌, Bool, true, false, Option, Some, None, refl, sym, ap, ◌∙◌, subst, arith}
use Rattle.std.specs.Prelude.{nat_lt, ◌==◌, ◌&&◌, ◌||◌, not, if◌then◌else◌}
use Rattle.std.proofs.lemmas.Bool.{cond_both, eq-eqb}
use Rattle.quic_wire_core.specs.declared.stream_id.Side.{Side}
use Rattle.quic_wire_core.specs.declared.stream_id.Dir.{Dir}
use Rattle.quic_wire_core.specs.declared.stream_id.Dir.TheVariants.{Bi, Uni}
use Rattle.quic_wire_core.specs.StreamId.{stream_id, other_side, side_bit, dir_of, index_of}
use Rattle.quic_streams_parts.specs.Dirs.{of, more, is_own, is_two_way}
use Rattle.quic_streams_halves.specs.Halves.{is_done}
use Rattle.quic_streams_state.specs.declared.state.StreamsState.{StreamsState}
use Rattle.quic_streams_state.specs.State.{Opening, is_opened_in, receiving_status, sending_status, done_if}
use Rattle.quic_streams_state.specs.Opening.{open_answer, after_open, accept_answer, after_accept, with_remote}
use Rattle.quic_streams_laws.specs.Keeping.{KeepsAll}
use Rattle.quic_streams_laws.specs.Keeping as changes
use Rattle.quic_streams_laws.specs.ShapeLaws.{OpensMore, opened_more, more_own}
use Rattle.quic_machine.specs.declared.run.Call.{Call}
use Rattle.quic_machine.specs.declared.run.Call.TheVariants as calls
use Rattle.quic_machine.specs.declared.run.Answer.{Answer}
use Rattle.quic_machine.specs.Calls.{is_open}
use Rattle.quic_machine.specs.Machine.{World, policy_at, end_at, control_at, reads_window, given_by, IsAnswer, heard_at}
use Rattle.quic_headline.specs.Runs.{Run, id_by, AreServed}
use Rattle.quic_headline.specs.Ids.{IdsAreNew}
use Rattle.quic_headline.proofs.Places.Parties.{Party}
use Rattle.quic_headline.proofs.Places.Groups.{Way}
use Rattle.quic_headline.proofs.Places.Placed.{party_at, Placed, answered}
use Rattle.quic_headline.proofs.Amounts.Opens.{below_count, not_yet, one_more, other_apart, HoldsOnce, OfGiven}

-- ---- the streams that an application has

-- the counts of streams that were opened at this end, and of those that were accepted
abbrev as_got : Opening → Opening
as_got o = record o { remote = o.accepted }

-- a stream was opened or accepted, at the end of this side
pub record IsGot (side : Side) (id : ℕ) (s : StreamsState) : Type 0 where
  pub of_side : s.side ≡ side
  pub got : is_opened_in (as_got s.opening) s.side id ≡ true

-- frames that open streams accept none
theirs_more : (dir : Dir) (n : ℕ) (o : Opening) → OpensMore (as_got o) (as_got (with_remote dir n o))
theirs_more Bi n o = record { own = λ d. omega arith; remote = λ d. omega arith }
theirs_more Uni n o = record { own = λ d. omega arith; remote = λ d. omega arith }

through : (side : Side) (q : ℕ) (b : Bool) (id : ℕ) (s : StreamsState) → IsGot side q s → IsGot side q (done_if b id s)
through side q false id s i = i
through side q true id s i = record { of_side = i.of_side; got = i.got }

-- whatever changes, it stays so
got_stays : (side : Side) (id : ℕ) → KeepsAll (λ r id old new. Unit {0}) (λ s id old new. Unit {0}) (λ s id n old new. Unit {0}) (λ s dir. Unit {0}) (λ id. Unit {0}) (IsGot side id)
got_stays side q (changes.opens_own dir) s may i = record { of_side = i.of_side; got = opened_more (as_got s.opening) (as_got (record s.opening { own = more dir s.opening.own; sending = s.opening.sending + 1 })) s.side q (record { own = λ d. more_own dir d s.opening.own; remote = λ d. omega arith }) i.got }
got_stays side q (changes.accepts dir) s may i = record { of_side = i.of_side; got = opened_more (as_got s.opening) (as_got (record s.opening { accepted = more dir s.opening.accepted })) s.side q (record { own = λ d. omega arith; remote = λ d. more_own dir d s.opening.accepted }) i.got }
got_stays side q (changes.opens_theirs id) s may i = record { of_side = i.of_side; got = opened_more (as_got s.opening) (as_got (with_remote (dir_of id) (index_of id + 1) s.opening)) s.side q (theirs_more (dir_of id) (index_of id + 1) s.opening) i.got }
got_stays side q (changes.joins id h) s may i = cond_both h.blocked s _ (IsGot side q) (λ e. i) (λ e. record { of_side = i.of_side; got = i.got })
got_stays side q (changes.ends_sending id h) s may i = through side q (not (is_own s.side id) && is_done (receiving_status s id)) id _ (record { of_side = i.of_side; got = i.got })
got_stays side q (changes.ends_receiving id h) s may i = through side q (not (is_own s.side id) && (not (is_two_way (dir_of id)) || is_done (sending_status s id))) id _ (record { of_side = i.of_side; got = i.got })
got_stays side q c s may i = record { of_side = i.of_side; got = i.got }

-- ---- one that is opened

-- what a call that opens one answers, and the counts then, where it may
abbrev opened_if : Bool → Dir → StreamsState → Option ℕ × Opening
opened_if b dir s = if b then (Some (stream_id s.side dir (of dir s.opening.own)), record s.opening { own = more dir s.opening.own; sending = s.opening.sending + 1 }) else (None, s.opening)

own_side : (side : Side) → (side_bit side == side_bit side) ≡ true
own_side side = eq-eqb (side_bit side) (side_bit side) refl

got_open : (b : Bool) (dir : Dir) (s : StreamsState) (id : ℕ) → open_answer b dir s ≡ Some id → IsGot s.side id (after_open b dir s)
got_open false dir s id is = cc
got_open true dir s id is = go (nat_lt (of dir s.opening.own) (of dir s.opening.own_limit)) is
  where
    go : (b : Bool) → (opened_if b dir s).0 ≡ Some id → IsGot s.side id (record s { opening = (opened_if b dir s).1 })
    go true is =
        let same : stream_id s.side dir (of dir s.opening.own) ≡ id = cc in
        let o : Opening = record s.opening { own = more dir s.opening.own; sending = s.opening.sending + 1 } in
        record { of_side = refl; got = subst (λ (x : ℕ). is_opened_in (as_got o) s.side x ≡ true) same (below_count (as_got o) s.side s.side dir (of dir s.opening.own) (subst (λ (t : Bool). of dir s.opening.own < of dir (if t then o.own else o.accepted)) (sym (own_side s.side)) (one_more dir s.opening.own))) }
    go false is = cc

-- it wasn't before
new_open : (b : Bool) (dir : Dir) (s : StreamsState) (id : ℕ) → open_answer b dir s ≡ Some id → is_opened_in (as_got s.opening) s.side id ≡ true → ⊥
new_open false dir s id is before = cc
new_open true dir s id is before = go (nat_lt (of dir s.opening.own) (of dir s.opening.own_limit)) is
  where
    go : (b : Bool) → (opened_if b dir s).0 ≡ Some id → ⊥
    go true is =
        let same : stream_id s.side dir (of dir s.opening.own) ≡ id = cc in
        not_yet (as_got s.opening) s.side s.side dir (of dir s.opening.own) (subst (λ (t : Bool). of dir (if t then s.opening.own else s.opening.accepted) ≤ of dir s.opening.own) (sym (own_side s.side)) (omega arith)) (subst (λ (x : ℕ). is_opened_in (as_got s.opening) s.side x ≡ true) (sym same) before)
    go false is = cc

-- ---- one that is accepted

-- what a call that accepts one answers, and the counts then, where one waits
abbrev accepted_if : Bool → Dir → StreamsState → Option ℕ × Opening
accepted_if b dir s = if b then (Some (stream_id (other_side s.side) dir (of dir s.opening.accepted)), record s.opening { accepted = more dir s.opening.accepted }) else (None, s.opening)

got_accept : (dir : Dir) (s : StreamsState) (id : ℕ) → accept_answer dir s ≡ Some id → IsGot s.side id (after_accept dir s)
got_accept dir s id is = go (nat_lt (of dir s.opening.accepted) (of dir s.opening.remote)) is
  where
    go : (b : Bool) → (accepted_if b dir s).0 ≡ Some id → IsGot s.side id (record s { opening = (accepted_if b dir s).1 })
    go true is =
        let same : stream_id (other_side s.side) dir (of dir s.opening.accepted) ≡ id = cc in
        let o : Opening = record s.opening { accepted = more dir s.opening.accepted } in
        record { of_side = refl; got = subst (λ (x : ℕ). is_opened_in (as_got o) s.side x ≡ true) same (below_count (as_got o) s.side (other_side s.side) dir (of dir s.opening.accepted) (subst (λ (t : Bool). of dir s.opening.accepted < of dir (if t then o.own else o.accepted)) (sym (other_apart s.side)) (one_more dir s.opening.accepted))) }
    go false is = cc

new_accept : (dir : Dir) (s : StreamsState) (id : ℕ) → accept_answer dir s ≡ Some id → is_opened_in (as_got s.opening) s.side id ≡ true → ⊥
new_accept dir s id is before = go (nat_lt (of dir s.opening.accepted) (of dir s.opening.remote)) is
  where
    go : (b : Bool) → (accepted_if b dir s).0 ≡ Some id → ⊥
    go true is =
        let same : stream_id (other_side s.side) dir (of dir s.opening.accepted) ≡ id = cc in
        not_yet (as_got s.opening) s.side (other_side s.side) dir (of dir s.opening.accepted) (subst (λ (t : Bool). of dir (if t then s.opening.own else s.opening.accepted) ≤ of dir s.opening.accepted) (sym (other_apart s.side)) (omega arith)) (subst (λ (x : ℕ). is_opened_in (as_got s.opening) s.side x ≡ true) (sym same) before)
    go false is = cc

-- each stream that was opened or accepted is among them from then on
pub got_once : HoldsOnce IsGot
got_once = record { stays = got_stays; opens = got_open; accepts = got_accept }

-- ---- the clause

-- what it rests on at a place
pub record SaysWhatIsGot (G : Way) : Type 1 where
  pub got : (x y : Party) → G x y → OfGiven IsGot x y

module _ (G : Way) (g : SaysWhatIsGot G) (r : Run) (end : World) (all : (side : Side) (i : ℕ) → AreServed r i → Placed G r end side i) where
  pub ids_are_new : IdsAreNew r
  ids_are_new side i id call a served at by among = go call a by (answered r p.world end i side call a p.goes_on at)
    where
      p : Placed G r end side i
      p = all side i served

      x : Party
      x = party_at r i p.world side p.sents

      here : IsGot side id x.end.streams
      here = (g.got x (party_at r i p.world (other_side side) p.theirs) p.gives).each id among

      go : (call : Call) (a : Answer) → id_by call a ≡ Some id → IsAnswer (policy_at side r.keys) (reads_window (control_at side p.world) (heard_at side p.world) call (end_at side p.world)) (given_by (other_side side) p.world) call a → ⊥
      go (calls.Open dir) a by is = new_open (is_open x.end.closing.state) dir x.end.streams id (sym (ap (λ (b : Answer). id_by (calls.Open dir) b) is) ∙ by) here.got
      go (calls.Accept dir) a by is = new_accept dir x.end.streams id (sym (ap (λ (b : Answer). id_by (calls.Accept dir) b) is) ∙ by) here.got
      go call a by is = cc
