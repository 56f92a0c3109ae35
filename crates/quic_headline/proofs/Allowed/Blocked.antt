-- Where a write may lack memory at an open end it takes bytes, or is blocked, as a run's lists say.
use Rattle.std.proofs.Common.{◌≡◌, ℕ, zero, suc, ◌<◌, min, max, Bool, true, false, List, length, Option, Some, None, Result, Ok, Err, ◌⊎◌, inl, inr, refl, sym, ap, ◌∙◌, arith}
use Rattle.std.specs.Prelude.{if◌then◌else◌, ◌==◌, ◌&&◌, ◌||◌, not}
use Rattle.std.specs.Option.{is_some}
use Rattle.std.proofs.lemmas.Bool.{eqb-true}
use Rattle.quic_wire_core.specs.declared.stream_id.Side.{Side}
use Rattle.quic_wire_core.specs.StreamId.{other_side}
use Rattle.quic_streams_parts.specs.Table.{at}
use Rattle.quic_streams_parts.specs.declared.answers.WriteError.{WriteError}
use Rattle.quic_streams_parts.specs.declared.answers.WriteError.TheVariants as write_errors
use Rattle.quic_streams_parts.specs.SendHalf.{SendHalf, new_send_half, is_ready, written_on, room_on, taken_unless, written_to}
use Rattle.quic_streams_halves.specs.Halves.{has_place, status_from, half_of}
use Rattle.quic_streams_state.specs.declared.state.StreamsState.{StreamsState}
use Rattle.quic_streams_state.specs.Parts.{room}
use Rattle.quic_streams_state.specs.State.{first_limit, sends_on, is_opened, sending_half}
use Rattle.quic_streams_state.specs.Writing.{write_answer}
use Rattle.quic_streams_state.specs.SendLacking.{WriteMayLack}
use Rattle.quic_streams_laws.specs.Shape.{IsShaped}
use Rattle.quic_streams_laws.specs.Written.{IsSendHalf, HoldsWritten}
use Rattle.quic_streams_laws.specs.WrittenHalves.{not_reset, all_written}
use Rattle.quic_streams_laws.specs.WrittenLaws.{half_holds}
use Rattle.quic_machine.specs.declared.answers.State.{State}
use Rattle.quic_machine.specs.declared.answers.State.TheVariants as states
use Rattle.quic_machine.specs.Calls.{is_open}
use Rattle.quic_machine.specs.Machine.{World}
use Rattle.quic_headline.specs.Runs.{Run, Told, Packet, Intake, until, state_at, written}
use Rattle.quic_headline.specs.Observer.{took}
use Rattle.quic_headline.specs.Headline.{IsHonest}
use Rattle.quic_headline.specs.Amounts.{peer_parameters, greatest, stream_limit_in, stream_limit, was_stopped, data_left, stream_left, window_left, MayWrite}
use Rattle.quic_headline.specs.Lacking.{WriteTakes}
use Rattle.quic_headline.proofs.Places.Openings.{took_is}
use Rattle.quic_headline.proofs.Places.Parties.{Party, came_to}
use Rattle.quic_headline.proofs.Places.Placed.{Placed, party_at}
use Rattle.quic_headline.proofs.Halves.Ghosts.{wrote}
use Rattle.quic_headline.proofs.Amounts.Tally.{IsTallied, Tallies, half_tallied}
use Rattle.quic_headline.proofs.Amounts.Group.{tally_of}
use Rattle.quic_headline.proofs.Amounts.Clause.{Whole, first_is, room_left}

-- an end sends on a stream that has a sending half
pub half_sends : (s : StreamsState) (id : ℕ) (h : SendHalf) → IsShaped s → sending_half s id ≡ Some h → sends_on s.side id ≡ true
half_sends s id h shape is = go (at s.sending.halves.live id) refl (sends_on s.side id) refl is
  where
    go : (o : Option SendHalf) → at s.sending.halves.live id ≡ o → (b : Bool) → sends_on s.side id ≡ b → half_of (new_send_half (first_limit s id)) (status_from o (b && is_opened s id) (has_place s.side s.sending.halves.places id)) ≡ Some h → b ≡ true
    go o there true same e = refl
    go None there false same e = cc
    go (Some l) there false same e =
        let clash : false ≡ true = ap (λ (b : Bool). b && is_opened s id) (sym same) ∙ shape.sending.allowed id (shape.sending.placed id l there) in
        cc

pub opened_state : (s : State) → is_open s ≡ true → s ≡ states.Open
opened_state states.Open is = refl
opened_state states.Closing is = cc
opened_state states.Drained is = cc
opened_state states.Failed is = cc

-- of two that leave nothing one does
none_left : (a c : ℕ) → min a c ≡ 0 → (a ≡ 0) ⊎ (c ≡ 0)
none_left zero c none = inl refl
none_left (suc a) zero none = inr refl
none_left (suc a) (suc c) none = absurd (omega (arith, none))

-- a half that may be written neither ended nor was reset
ready_parts : (f : Bool) (o : Option ℕ) → not (f || is_some o) ≡ true → (f ≡ false) × (o ≡ None)
ready_parts true o is = cc
ready_parts false None is = (refl, refl)
ready_parts false (Some x) is = cc

module _ (r : Run) (end : World) (side : Side) (i : ℕ) (p : Placed Whole r end side i) where
  abbrev x : Party
  x = party_at r i p.world side p.sents

  abbrev y : Party
  y = party_at r i p.world (other_side side) p.theirs

  abbrev s : StreamsState
  s = x.end.streams

  abbrev told : List Told
  told = until r side i

  holds : HoldsWritten (wrote told) s
  holds = p.gives.0.0.0.1.0.writes.keeps.holds

  -- an end sends on a stream that has a sending half, by its side
  pub sends_there : (id : ℕ) (h : SendHalf) → sending_half s id ≡ Some h → sends_on side id ≡ true
  sends_there id h there = sym (ap (λ (d : Side). sends_on d id) p.gives.1.1.side) ∙ half_sends s id h holds.shape there

  module _ (honest : IsHonest r) (opened : is_open x.end.closing.state ≡ true) where
    still_open : x.end.closing.state ≡ states.Open
    still_open = opened_state x.end.closing.state opened

    state : state_at r side i ≡ states.Open
    state = sym p.state ∙ still_open

    packets_are : took r side i ≡ (came_to x y).took
    packets_are = ap (λ (k : Intake). k.took) (took_is r honest p.world i side p.sents p.theirs)

    tallies : Tallies (tally_of x.made.streams (came_to x y).took told) s
    tallies = p.gives.1.0.still still_open

    known_half : (id : ℕ) (h : SendHalf) → sending_half s id ≡ Some h → IsTallied (tally_of x.made.streams (came_to x y).took told) id h
    known_half id h there = half_tallied (tally_of x.made.streams (came_to x y).took told) s id h there tallies.halves

    -- so much may come on a stream
    room_there : (id : ℕ) (h : SendHalf) → sending_half s id ≡ Some h → room_on h ≡ stream_left r honest.start side i id
    room_there id h there =
        let limit : h.limit ≡ stream_limit (peer_parameters side r.start honest.start) side (took r side i) id = (known_half id h there).limit
        ∙ ap (λ (m : ℕ). max m (greatest (stream_limit_in id) (came_to x y).took)) (first_is side id r.start honest.start)
        ∙ ap (λ (ps : List Packet). stream_limit (peer_parameters side r.start honest.start) side ps id) (sym packets_are) in
        let bytes : written_on h ≡ length (written id told) = all_written (wrote told id) h (half_holds (wrote told) s holds id h there) in
        rw (limit, bytes) refl

    -- a half that may be written is that of a stream that may
    may_write : (id : ℕ) (h : SendHalf) → sending_half s id ≡ Some h → is_ready h ≡ true → h.stopped ≡ None → MayWrite r side i id
    may_write id h there ready goes =
        let kept : IsSendHalf (wrote told id) h = half_holds (wrote told) s holds id h there in
        let parts = ready_parts h.finished h.reset ready in
        record {
          sends = sends_there id h there;
          unended = sym kept.finished ∙ parts.0;
          kept = not_reset (wrote told id) h kept parts.1;
          goes = ap (was_stopped id) packets_are ∙ sym (known_half id h there).stopped ∙ ap is_some goes;
        }

    abbrev Lacks : SendHalf → Result ℕ WriteError → Type 0
    Lacks h answer = WriteMayLack answer (Some h) (room s.sending)

    abbrev Takes : ℕ → ℕ → Type 0
    Takes id len = (data_left r honest.start side i ≡ 0) ⊎ (window_left r honest.start side i ≡ 0) ⊎ (MayWrite r side i id × ((0 < len) ⊎ (stream_left r honest.start side i id ≡ 0)))

    half_takes : (id len : ℕ) (h : SendHalf) → sending_half s id ≡ Some h → WriteMayLack (written_to (Some h) (room s.sending) len) (Some h) (room s.sending) → Takes id len
    half_takes id len h there may = by_room (room s.sending == 0) refl may
      where
        by_own : MayWrite r side i id → (b : Bool) → (room_on h == 0) ≡ b → Lacks h (if b then Err write_errors.Blocked else Ok (min len (min (room s.sending) (room_on h)))) → Takes id len
        by_own writes true none m = inr (inr (writes, inr (sym (room_there id h there) ∙ eqb-true (room_on h) 0 none)))
        by_own writes false some m = inr (inr (writes, inl (omega (arith, m))))

        by_stop : is_ready h ≡ true → (o : Option ℕ) → h.stopped ≡ o → Lacks h (taken_unless o h (room s.sending) len) → Takes id len
        by_stop ready (Some code) stopped m = absurd m
        by_stop ready None goes m = by_own (may_write id h there ready goes) (room_on h == 0) refl m

        by_ready : (b : Bool) → is_ready h ≡ b → Lacks h (if b then taken_unless h.stopped h (room s.sending) len else Err write_errors.ClosedStream) → Takes id len
        by_ready true ready m = by_stop ready h.stopped refl m
        by_ready false over m = absurd m

        by_room : (b : Bool) → (room s.sending == 0) ≡ b → Lacks h (if b then Err write_errors.Blocked else (if is_ready h then taken_unless h.stopped h (room s.sending) len else Err write_errors.ClosedStream)) → Takes id len
        by_room true none m =
            let nothing = sym (room_left r end honest side i p state) ∙ eqb-true (room s.sending) 0 none in
            elim (none_left (data_left r honest.start side i) (window_left r honest.start side i) nothing) [
              | inl data_used ↦ inl data_used
              | inr full ↦ inr (inl full)
            ]
        by_room false some m = by_ready (is_ready h) refl m

  -- a write that may lack memory takes bytes, or is blocked
  pub write_takes : IsHonest r → (id len : ℕ) → (is_open x.end.closing.state ≡ true) × WriteMayLack (write_answer true s id len) (sending_half s id) (room s.sending) → WriteTakes r side i id len
  write_takes honest id len lacks = go (sending_half s id) refl lacks.1
    where
      go : (o : Option SendHalf) → sending_half s id ≡ o → WriteMayLack (written_to o (room s.sending) len) o (room s.sending) → WriteTakes r side i id len
      go None there may = absurd may
      go (Some h) there may = record {
        opened = state honest lacks.0;
        sends = ap not (sends_there id h there);
        takes = λ st. half_takes (record { start = st; keys = honest.keys; ids = honest.ids }) lacks.0 id len h there may;
      }
