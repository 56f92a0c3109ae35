-- What an end wrote, and its limits, stay within what the other lets come, at each place of a run:
-- a group over what is written and read (RFC 9000, section 4.1).
use Rattle.std.proofs.Common.{◌≡◌, ℕ, ◌≤◌, Bool, true, false, List, [], ◌∷◌, ◌++◌, length, None, refl, sym, ap, ◌∙◌, subst, arith}
use Rattle.std.specs.Prelude.{if◌then◌else◌, ◌&&◌}
use Rattle.quic_wire_core.specs.declared.stream_id.Dir.{Dir}
use Rattle.quic_wire_core.specs.declared.stream_id.Dir.TheVariants.{Bi, Uni}
use Rattle.quic_wire_core.specs.StreamId.{dir_of}
use Rattle.quic_parameters.specs.Parameters.{ParameterValues}
use Rattle.quic_config.specs.Transport.{Settings, parameters_of, IsInRange}
use Rattle.quic_streams_parts.specs.Dirs.{of, is_own}
use Rattle.quic_streams_parts.specs.SendHalf.{SendHalf}
use Rattle.quic_streams_parts.specs.RecvHalf.{RecvHalf}
use Rattle.quic_streams_halves.specs.Halves.{no_places, has_place, idle_status}
use Rattle.quic_streams_state.specs.declared.state.StreamsState.{StreamsState}
use Rattle.quic_streams_state.specs.State.{new_streams, after_set_params, first_limit, receives_on, is_opened}
use Rattle.quic_streams_laws.specs.Each.{HalfIs}
use Rattle.quic_streams_laws.specs.StartLaws.{shape_new, shape_set_params, few_new, few_set_params}
use Rattle.quic_streams_laws.specs.Written.{Wrote, Grows, IsOver}
use Rattle.quic_machine.specs.declared.run.Call.{Call}
use Rattle.quic_machine.specs.declared.run.Answer.{Answer}
use Rattle.quic_machine.specs.End.{End}
use Rattle.quic_machine.specs.FrameCases.{begun}
use Rattle.quic_headline.specs.Runs.{Intake, written}
use Rattle.quic_headline.proofs.Packets.Group.{meets}
use Rattle.quic_headline.proofs.Places.Parties.{told_of, Party, called, came_to, Beginning, begun_as, AreMade}
use Rattle.quic_headline.proofs.Places.Groups.{Way, Calls, Group}
use Rattle.quic_headline.proofs.Places.Coming.{by_coming}
use Rattle.quic_headline.proofs.Halves.Counts.{counts_in_range}
use Rattle.quic_headline.proofs.Halves.Ghosts.{wrote, IsWriting}
use Rattle.quic_headline.proofs.Halves.Wrote.{adds, told_more}
use Rattle.quic_headline.proofs.Channel.Received.{Allows, Stays, StatusBelow, stays_self}
use Rattle.quic_headline.proofs.Channel.Told.{AllTold, stays_call, told_call, IsTold}
use Rattle.quic_headline.proofs.Channel.Heard.{Heard, call_heard, frames_heard, heard_stays, over_same, written_allowed}
use Rattle.quic_headline.proofs.Packets.Delivered.{frames_at, among_at}
use Rattle.quic_headline.proofs.Halves.Moved.{in_arrivals}

-- x writes, and y reads: what y told x it holds, x heard no more, and y lets come what x wrote, and
-- as much of each stream, and of all, as at first
pub record Within (x y : Party) : Type 0 where
  pub stays : Stays y.end.streams y.end.streams
  pub told : AllTold y.end.streams y.sents
  pub heard : Heard y.end.streams x.end.streams
  pub wrote : (id : ℕ) → Allows y.end.streams id (length (written id x.told))
  pub first : (id : ℕ) → Allows y.end.streams id y.made.streams.receiving.stream_window
  pub wide : y.end.streams.receiving.stream_window ≡ y.made.streams.receiving.stream_window
  pub first_all : y.made.streams.receiving.window ≤ y.end.streams.receiving.announced

-- ---- a call

module _ (B : Way) (w : IsWriting B) (x y : Party) (call : Call) (a : Answer) (c : Calls B x y call a) where
  -- x hears no more than y told
  heard_on : Within x y → Heard y.end.streams (called x y.given call a).end.streams
  heard_on i = by_coming x y a c.joined c.served (meets y x (w.packets y x c.takes)) (λ (e : End) (j : Intake). Heard y.end.streams e.streams) call c.answer (record {
    apart = λ apart. call_heard y.end.streams x.policy (wrote x.told) x.end y.given call a apart c.answer (w.written x y c.gives) i.heard;
    none = λ delivery is. i.heard;
    comes = λ delivery is s among here. in_arrivals (Heard y.end.streams) x.end delivery.now s.number s.frames (frames_at here s.frames) (came_to x y) i.heard
        (frames_heard y.end.streams (frames_at here s.frames) (begun x.end delivery.now s.number) (among_at (IsTold y.end.streams) tt here s.frames (λ f j. i.told s among f j)) i.heard);
  })

  -- what it writes is within that
  wrote_on : Within x y → (id : ℕ) → Allows y.end.streams id (length (written id (x.told ++ told_of call a x.end.closing.state ∷ [])))
  wrote_on i id =
      let after : Party = called x y.given call a in
      let is : wrote after.told id ≡ adds id call a (wrote x.told id) = told_more x.told (told_of call a x.end.closing.state) id in
      written_allowed y.end.streams after.end.streams (wrote after.told id) id ((w.written after y c.gives_behind).each id) (heard_on i)
      (λ over. (
      let grows : Grows (wrote x.told id) (adds id call a (wrote x.told id)) = subst (Grows (wrote x.told id)) is (w.grows x y call a c id) in
      let same : (wrote after.told id).bytes ≡ written id x.told = ap (λ (v : Wrote). v.bytes) is ∙ over_same id call a (wrote x.told id) grows (subst IsOver is over) in
      subst (λ (bs : List ℕ). Allows y.end.streams id (length bs)) (sym same) (i.wrote id)))

  -- what x told, where y writes
  reads_on : Within y x → Within y (called x y.given call a)
  reads_on i =
      let on : Stays x.end.streams (called x y.given call a).end.streams = stays_call B w x y call a c i.stays in
      record {
        stays = stays_self x.end.streams (called x y.given call a).end.streams on;
        told = told_call B w x y call a c i.stays i.told;
        heard = heard_stays x.end.streams (called x y.given call a).end.streams y.end.streams on i.heard;
        wrote = λ id. on.receives.allows id (length (written id y.told)) (i.wrote id);
        first = λ id. on.receives.allows id x.made.streams.receiving.stream_window (i.first id);
        wide = on.receives.as_wide ∙ i.wide;
        first_all = (let more = on.receives.more in let first = i.first_all in omega (arith, more, first));
      }

-- ---- the start

-- of a half that isn't in use, the window is allowed
at_first : (n window : ℕ) (used : Bool) → n ≤ window → HalfIs (n ≤ window) (λ (h : RecvHalf). n ≤ h.announced) (Unit {0}) None used
at_first n window true le = tt
at_first n window false le = le

module _ (x y : Beginning) (m : AreMade x y) where
  abbrev ours : Settings
  ours = y.making.settings

  abbrev theirs : ParameterValues
  theirs = parameters_of x.making.settings

  abbrev fresh_streams : StreamsState
  fresh_streams = new_streams y.side ours.max_uni ours.max_bidi ours.send_window ours.receive_window ours.stream_receive_window

  -- the streams of y at first
  abbrev first_streams : StreamsState
  first_streams = after_set_params fresh_streams theirs

  allows_first : (id n : ℕ) → n ≤ ours.stream_receive_window → Allows first_streams id n
  allows_first id n le = at_first n ours.stream_receive_window (has_place y.side no_places id) le

  stays_first : Stays first_streams first_streams
  stays_first =
      let range : IsInRange y.making.settings = m.y_is.range in
      let small = range.receive_window in
      let stream_small = range.stream_receive_window in
      let counts = counts_in_range x.making.parameters theirs m.x_is.says in
      record {
        shape = shape_set_params fresh_streams theirs (shape_new y.side ours.max_uni ours.max_bidi ours.send_window ours.receive_window ours.stream_receive_window);
        few = few_set_params fresh_streams theirs none counts.0 counts.1 (few_new y.side ours.max_uni ours.max_bidi ours.send_window ours.receive_window ours.stream_receive_window);
        receives = record { announced = omega arith; more = omega arith; window = omega arith; as_wide = refl; halves = λ id h e. cc; allows = λ id n is. is };
        below = record {
          shape = shape_set_params fresh_streams theirs (shape_new y.side ours.max_uni ours.max_bidi ours.send_window ours.receive_window ours.stream_receive_window);
          each = λ id. below_first id (receives_on y.side id && is_opened first_streams id) (has_place y.side no_places id);
        };
      }
    where
      none : (d : Dir) → of d fresh_streams.opening.own ≡ 0
      none Bi = refl
      none Uni = refl

      below_first : (id : ℕ) (opened used : Bool) → StatusBelow id (idle_status opened used)
      below_first id false used = tt
      below_first id true false = tt
      below_first id true true = tt

  heard_first : Heard first_streams (begun_as x y).end.streams
  heard_first = record {
    halves = record {
      shape = shape_set_params start (parameters_of ours) (shape_new x.side s.max_uni s.max_bidi s.send_window s.receive_window s.stream_receive_window);
      first = λ id q. allows_first q (first_limit (begun_as x y).end.streams id) (widths id);
      each = λ id. each_first id (has_place x.side no_places id);
    };
    all = omega arith;
  }
    where
      s : Settings
      s = x.making.settings

      start : StreamsState
      start = new_streams x.side s.max_uni s.max_bidi s.send_window s.receive_window s.stream_receive_window

      each_first : (id : ℕ) (used : Bool) → HalfIs (Unit {0}) (λ (h : SendHalf). Allows first_streams id h.limit) (Unit {0}) None used
      each_first id true = tt
      each_first id false = tt

      widths : (id : ℕ) → first_limit (begun_as x y).end.streams id ≤ ours.stream_receive_window
      widths id = go (is_own x.side id) (dir_of id)
        where
          go : (own : Bool) (d : Dir) → (if own then of d (record { bi = (parameters_of ours).initial_max_stream_data_bidi_remote; uni = (parameters_of ours).initial_max_stream_data_uni }) else (parameters_of ours).initial_max_stream_data_bidi_local) ≤ ours.stream_receive_window
          go true Bi = omega arith
          go true Uni = omega arith
          go false d = omega arith

-- ---- the group

pub within_group : (B : Way) → IsWriting B → Group B Within
within_group B w = record {
  first = λ x y m there back. record { stays = stays_first x y m; told = λ t i. absurd i; heard = heard_first x y m; wrote = λ id. allows_first x y m id 0 (omega arith); first = λ id. allows_first x y m id y.making.settings.stream_receive_window (omega arith); wide = refl; first_all = omega arith };
  writer = λ x y call a c i back. record { stays = i.stays; told = i.told; heard = heard_on B w x y call a c i; wrote = wrote_on B w x y call a c i; first = i.first; wide = i.wide; first_all = i.first_all };
  reader = λ x y call a c there i. reads_on B w x y call a c i;
  shows = λ x y here there b back i j. record { stays = i.stays; told = i.told; heard = i.heard; wrote = i.wrote; first = i.first; wide = i.wide; first_all = i.first_all };
}
