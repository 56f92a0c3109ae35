-- So it is at each place of an honest run: limits that grew wait at both ends.
use Rattle.std.proofs.Common.{◌≡◌, ℕ, ◌+◌, true, take, List, sym, subst, arith}
use Rattle.std.specs.Prelude.{min, ◌&&◌}
use Rattle.std.proofs.lemmas.Bool.{le-leb, leb-true, and_from}
use Rattle.quic_wire.specs.Value.{FrameValue}
use Rattle.quic_wire_core.specs.declared.stream_id.Side.{Side}
use Rattle.quic_wire_core.specs.declared.stream_id.Dir.{Dir}
use Rattle.quic_wire_core.specs.StreamId.{other_side}
use Rattle.quic_wire_core.specs.declared.stream_id.Dir.TheVariants.{Bi, Uni}
use Rattle.quic_config.specs.Transport.{Settings, parameters_of}
use Rattle.quic_streams_parts.specs.Dirs.{of}
use Rattle.quic_streams_parts.specs.RecvHalf.{least_growth, raised_on, takes_limits}
use Rattle.quic_streams_halves.specs.Halves.{status_from, has_place}
use Rattle.quic_streams_state.specs.declared.state.StreamsState.{StreamsState}
use Rattle.quic_streams_state.specs.State.{no_opening, new_streams, is_opened, receives_on}
use Rattle.quic_streams_state.specs.Limits.{most_streams, raised_data, raised_count, count_grew}
use Rattle.quic_streams_laws.specs.Content.{IsRecvStatus, HoldsRead}
use Rattle.quic_streams_laws.specs.Reads.{IsRecvHalf}
use Rattle.quic_streams_laws.specs.Written.{Wrote}
use Rattle.quic_streams_laws.specs.StartLaws.{shape_new, shape_set_params}
use Rattle.quic_machine.specs.declared.run.Call.{Call}
use Rattle.quic_machine.specs.declared.run.Answer.{Answer}
use Rattle.quic_machine.specs.End.{End, streams_at}
use Rattle.quic_machine.specs.FrameCases.{begun, passed}
use Rattle.quic_machine.specs.Machine.{World, end_at}
use Rattle.quic_machine.specs.RunLaws.{one_run}
use Rattle.quic_headline.specs.Runs.{Run, Told, Intake, until, AreServed}
use Rattle.quic_headline.specs.Headline.{IsHonest}
use Rattle.quic_headline.specs.Grown.{GrownLimitsWaitAt, GrownLimitsWait}
use Rattle.quic_headline.proofs.Packets.Group.{meets}
use Rattle.quic_headline.proofs.Places.Parties.{Party, called, Beginning, begun_as}
use Rattle.quic_headline.proofs.Places.Groups.{Way, Calls, Group}
use Rattle.quic_headline.proofs.Places.Coming.{by_coming}
use Rattle.quic_headline.proofs.Places.Placed.{party_at, Placed}
use Rattle.quic_headline.proofs.Halves.Ghosts.{wrote, read, IsWriting}
use Rattle.quic_headline.proofs.Halves.QuietSteps.{sent_within}
use Rattle.quic_headline.proofs.Halves.ReadGroup.{ReadsHold}
use Rattle.quic_headline.proofs.Grown.Waiting.{Waits, call_grown, frames_wait}
use Rattle.quic_headline.proofs.Packets.Delivered.{frames_at}
use Rattle.quic_headline.proofs.Packets.Moved.{by_migrated}

-- limits that grew wait at the end
abbrev pub GrownWait : Way
GrownWait x y = Waits (streams_at x.end)

-- nothing grew at first
grown_first : (x y : Beginning) → GrownWait (begun_as x y) (begun_as y x)
grown_first x y =
    let s : Settings = x.making.settings in
    let start : StreamsState = new_streams x.side s.max_uni s.max_bidi s.send_window s.receive_window s.stream_receive_window in
    record {
      all = record {
        bytes = λ grew. (let past = leb-true (s.receive_window + least_growth s.receive_window) (raised_data start.receiving) grew in absurd (omega arith));
        counts = λ d grew. absurd (none d grew);
      };
      each = record { shape = shape_set_params start (parameters_of y.making.settings) (shape_new x.side s.max_uni s.max_bidi s.send_window s.receive_window s.stream_receive_window); each = λ id h is grew. cc };
    }
  where
    none : (d : Dir) → count_grew d (no_opening x.making.settings.max_bidi x.making.settings.max_uni) ≡ true → ⊥
    none Bi grew = let past = leb-true (min x.making.settings.max_bidi most_streams + least_growth (min x.making.settings.max_bidi most_streams)) (min (min x.making.settings.max_bidi most_streams + 0) most_streams) grew in omega arith
    none Uni grew = let past = leb-true (min x.making.settings.max_uni most_streams + least_growth (min x.making.settings.max_uni most_streams)) (min (min x.making.settings.max_uni most_streams + 0) most_streams) grew in omega arith

grown_call : (B : Way) → IsWriting B → (x y : Party) (call : Call) (a : Answer) → Calls B x y call a → GrownWait x y → GrownWait (called x y.given call a) y
grown_call B w x y call a c i = by_coming x y a c.joined c.served (meets y x (w.packets y x c.takes)) (λ (e : End) (j : Intake). Waits (streams_at e)) call c.answer (record {
  apart = λ apart. call_grown x.policy x.end y.given call a (sent_within (wrote x.told) x.end.streams (w.written x y c.gives)) apart c.answer i;
  none = λ delivery is. i;
  comes = λ delivery is s among here. (
      let taken : List FrameValue = frames_at here s.frames in
      let after : Waits (streams_at (passed taken (begun x.end delivery.now s.number)).end) = frames_wait taken (begun x.end delivery.now s.number) i in
      record {
        ignored = λ reason. i;
        noted = λ state reason. i;
        takes = λ words state new none urged mark. record { all = record { bytes = after.all.bytes; counts = after.all.counts }; each = after.each };
        moves = λ p o same remote z opened j. by_migrated (λ (e : End). Waits (streams_at e)) p o remote z (λ c. record { all = record { bytes = j.all.bytes; counts = j.all.counts }; each = j.each }) (λ c most. record { all = record { bytes = j.all.bytes; counts = j.all.counts }; each = j.each });
        drains = λ words state new close fault. record { all = record { bytes = after.all.bytes; counts = after.all.counts }; each = after.each };
        refuses = λ words state new f fault. record { all = record { bytes = after.all.bytes; counts = after.all.counts }; each = after.each };
        exhausts = λ state. i;
      });
})

pub grown_group : (B : Way) → IsWriting B → Group B GrownWait
grown_group B w = record {
  first = λ x y m there back. grown_first x y;
  writer = λ x y call a c i back. grown_call B w x y call a c i;
  reader = λ x y call a c there i. i;
  shows = λ x y here there b back i j. i;
}

-- ---- the clause

-- what waits, in the words of the clause, at an end at which this was told
waits_at : (done : ℕ → Wrote) (told : List Told) (e : End) → HoldsRead done (read told) e.streams → Waits (streams_at e) → GrownLimitsWaitAt told e
waits_at done told e reads w = record {
  bytes = λ grew. w.all.bytes (le-leb (e.streams.receiving.announced + least_growth e.streams.receiving.window) (raised_data e.streams.receiving) grew);
  stream = λ id grew. (w.each).each id grew.half grew.found (
      let held : IsRecvHalf (done id) (read told id) grew.half =
      subst (λ o. IsRecvStatus (done id) (read told id) (status_from o (receives_on e.streams.side id && is_opened e.streams id) (has_place e.streams.side e.streams.receiving.halves.places id))) grew.found (reads.each id) in
      let counted = held.counted in
      let g = grew.grew in
      and_from (takes_limits grew.half) _ grew.matters (le-leb (grew.half.announced + least_growth e.streams.receiving.stream_window) (raised_on e.streams.receiving.stream_window grew.half) (omega arith)));
  count = λ dir grew. w.all.counts dir (le-leb (of dir e.streams.opening.announced + least_growth (of dir e.streams.opening.configured)) (raised_count dir e.streams.opening) grew);
}

-- What it rests on at a place.
pub record SaysWhatGrew (G : Way) : Type 1 where
  pub grown : (x y : Party) → G x y → GrownWait x y
  pub reads : (x y : Party) → G x y → ReadsHold x y

module _ (G : Way) (g : SaysWhatGrew G) (r : Run) (end : World) (honest : IsHonest r) (all : (side : Side) (i : ℕ) → AreServed r i → Placed G r end side i) where
  pub grown_limits_wait : GrownLimitsWait r
  grown_limits_wait i v served leads side =
      let p = all side i served in
      let x : Party = party_at r i p.world side p.sents in
      let y : Party = party_at r i p.world (other_side side) p.theirs in
      let is : v ≡ p.world = (one_run r.keys (take i r.answers) r.start (take i r.events) (take i r.views) (take i r.views) v p.world served leads p.leads).1 in
      subst (λ (u : World). GrownLimitsWaitAt (until r side i) (end_at side u)) (sym is) (waits_at (wrote y.told) x.told x.end (g.reads y x p.takes).reads (g.grown x y p.gives))
