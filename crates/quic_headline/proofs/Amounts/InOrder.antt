-- A call opens the stream behind those that were opened before: at each place of an honest run.
use Rattle.std.proofs.Common.{◌≡◌, ℕ, ◌+◌, Bool, true, false, Option, Some, None, sym, ap, ◌∙◌}
use Rattle.std.specs.Prelude.{nat_lt, if◌then◌else◌}
use Rattle.quic_wire_core.specs.declared.stream_id.Side.{Side}
use Rattle.quic_wire_core.specs.declared.stream_id.Dir.{Dir}
use Rattle.quic_wire_core.specs.StreamId.{stream_id}
use Rattle.quic_streams_parts.specs.Dirs.{of, more}
use Rattle.quic_streams_state.specs.declared.state.StreamsState.{StreamsState}
use Rattle.quic_streams_state.specs.State.{Opening}
use Rattle.quic_streams_state.specs.Opening.{open_answer, opened_next}
use Rattle.quic_machine.specs.declared.run.Call.TheVariants as calls
use Rattle.quic_machine.specs.declared.run.Answer.TheVariants as answers
use Rattle.quic_machine.specs.Calls.{is_open}
use Rattle.quic_machine.specs.Machine.{World}
use Rattle.quic_headline.specs.Runs.{Run}
use Rattle.quic_headline.specs.Headline.{IsHonest, IsRun}
use Rattle.quic_headline.specs.InOrder.{OpensInOrder}
use Rattle.quic_headline.proofs.Places.Parties.{Party}
use Rattle.quic_headline.proofs.Places.Placed.{party_at, Placed, placed, answered}
use Rattle.quic_headline.proofs.Amounts.Opening.{Known, known}

-- which stream it is, where one is opened
next_is : (side : Side) (dir : Dir) (o : Opening) (id : ℕ) → (opened_next side dir o).0 ≡ Some id → id ≡ stream_id side dir (of dir o.own)
next_is side dir o id = go (nat_lt (of dir o.own) (of dir o.own_limit))
  where
    go : (b : Bool) → (if◌then◌else◌ {A = Option ℕ × Opening} b (Some (stream_id side dir (of dir o.own)), record o { own = more dir o.own; sending = o.sending + 1 }) (None, o)).0 ≡ Some id → id ≡ stream_id side dir (of dir o.own)
    go true is = cc
    go false is = cc

opened_is : (opened : Bool) (dir : Dir) (s : StreamsState) (id : ℕ) → open_answer opened dir s ≡ Some id → id ≡ stream_id s.side dir (of dir s.opening.own)
opened_is true dir s id is = next_is s.side dir s.opening id is
opened_is false dir s id is = cc

pub opens_in_order : (r : Run) (end : World) → IsHonest r → IsRun r end → OpensInOrder r
opens_in_order r end honest run side i id dir served at = opened_is (is_open x.end.closing.state) dir x.end.streams id same ∙ ap (λ (d : Side). stream_id d dir (of dir x.end.streams.opening.own)) p.gives.1.side ∙ ap (stream_id side dir) (sym (p.gives.1.are.count dir))
  where
    p : Placed Known r end side i
    p = placed Known known r end honest run side i served

    x : Party
    x = party_at r i p.world side p.sents

    same : open_answer (is_open x.end.closing.state) dir x.end.streams ≡ Some id
    same = let is : answers.Open (Some id) ≡ answers.Open (open_answer (is_open x.end.closing.state) dir x.end.streams) = answered r p.world end i side (calls.Open dir) (answers.Open (Some id)) p.goes_on at in cc
