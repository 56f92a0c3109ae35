use Rattle.std.proofs.Common.{◌≡◌, ℕ, ◌+◌, ◌≤◌, ◌<◌, List, length, ◌∷◌, get_or, drop, sym, ap, ◌∙◌, vec_len, vec_capacity, add-one, drop-cons, arith}
use Rattle.quic_retransmits.specs.declared.retransmits.ControlKind.{ControlKind}
use Rattle.quic_retransmits.specs.declared.retransmits.ControlKind.TheVariants.{HandshakeDone}
use Rattle.quic_streams_state.proofs.Going.{left_next, left_kind, left_some_kind, begins_on, on_err}
use Rattle.quic_streams_state.proofs.state.StreamsState.write_kinds.Goals as goal

next : (kinds : List ControlKind) (i : ℕ) → i < length kinds → drop i kinds ≡ get_or kinds i HandshakeDone ∷ drop (i + 1) kinds
next kinds i below = rw add-one (drop-cons kinds i HandshakeDone below)

pub returns-in_err-write_kind-clause-lacking : goal.returns-in_err-write_kind-clause-lacking
returns-in_err-write_kind-clause-lacking c =
    let kind = get_or c.args.kinds.now c.kinds.kind-index HandshakeDone in
    let left = left_next _ _ _ c.args.max_size (vec_len c.kinds.out) c.kinds.self c.kinds.pending c.kinds.sent (drop c.kinds.kind-index c.args.kinds.now) kind (drop (c.kinds.kind-index + 1) c.args.kinds.now) c.kinds.invariant.left (next c.args.kinds.now c.kinds.kind-index c.kinds-test.true) in
    on_err c.from_residual.result (left_some_kind _ _ _ kind (drop (c.kinds.kind-index + 1) c.args.kinds.now) c.args.max_size (vec_len c.kinds.out) c.kinds.self c.kinds.pending c.kinds.sent left c.in_err-write_kind.ensures.lacking)

pub kinds-preserved : goal.kinds-preserved
kinds-preserved c =
    let kind = get_or c.args.kinds.now c.kinds.kind-index HandshakeDone in
    let kinds = drop (c.kinds.kind-index + 1) c.args.kinds.now in
    let left = left_next _ _ _ c.args.max_size (vec_len c.kinds.out) c.kinds.self c.kinds.pending c.kinds.sent (drop c.kinds.kind-index c.args.kinds.now) kind kinds c.kinds.invariant.left (next c.args.kinds.now c.kinds.kind-index c.kinds-test.true) in
    let grows = c.kinds.invariant.grows in
    let grown = c.in_ok-write_kind.ensures.grows in
    let capacity = c.kinds.invariant.capacity in
    let room = c.kinds.invariant.room in
    let kept = c.in_ok-write_kind.ensures.capacity in
    record {
      left = left_kind _ _ _ kind kinds c.args.max_size (vec_len c.kinds.out) c.kinds.self c.kinds.pending c.kinds.sent c.write_kind.new.out.items (vec_len c.write_kind.new.out) c.write_kind.new.self c.write_kind.new.pending c.write_kind.new.sent left
          c.in_ok-write_kind.ensures.items c.in_ok-write_kind.ensures.used c.in_ok-write_kind.ensures.state c.in_ok-write_kind.ensures.pending c.in_ok-write_kind.ensures.sent;
      begins = begins_on (vec_len c.args.out.now) _ _ _ _ c.kinds.invariant.begins (let ok = c.kinds.out.ok in omega arith) c.in_ok-write_kind.ensures.items;
      grows = omega arith;
      stays = c.in_ok-write_kind.ensures.stays;
      capacity = omega arith;
      room = omega arith;
    }
