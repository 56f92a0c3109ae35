-- Counts of streams stay within 2^60.
use Rattle.std.proofs.Common.{ℕ, ◌+◌, ◌<◌, ◌≤◌, arith}
use Rattle.quic_wire_core.specs.declared.stream_id.Dir.{Dir}
use Rattle.quic_wire_core.specs.declared.stream_id.Dir.TheVariants.{Bi, Uni}
use Rattle.quic_streams_parts.specs.Dirs.{of, with_of}
use Rattle.quic_streams_state.specs.Parts.{Opening}
use Rattle.quic_streams_state.specs.Bounds.{IsOpening}

-- one more stream is opened, where one may be
pub opened_keeps : (dir : Dir) (o : Opening) → IsOpening o → of dir o.own < of dir o.own_limit → IsOpening (record o { own = with_of dir (of dir o.own + 1) o.own; sending = o.sending + 1 })
opened_keeps Bi o i lt =
    let most = i.own_limit.bi in
    let sending = i.sending in
    record { own = record { bi = omega arith; uni = i.own.uni }; own_limit = i.own_limit; remote = i.remote; done = i.done; configured = i.configured; announced = i.announced; sending = omega arith }
opened_keeps Uni o i lt =
    let most = i.own_limit.uni in
    let sending = i.sending in
    record { own = record { bi = i.own.bi; uni = omega arith }; own_limit = i.own_limit; remote = i.remote; done = i.done; configured = i.configured; announced = i.announced; sending = omega arith }
