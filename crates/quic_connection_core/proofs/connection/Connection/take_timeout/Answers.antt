use Rattle.std.proofs.Common.{◌≡◌, true, false, sym, ◌∙◌}
use Rattle.std.specs.Prelude.{Result, Ok, Err, OnOk, OnErr}
use Rattle.std.specs.Result.{is_err}
use Rattle.quic_connection_core.proofs.Expiries.{timers_time_out, timers_draw, timers_fail, timers_lose}
use Rattle.quic_connection_core.proofs.connection.Connection.take_timeout.Goals as goal

ok_so : {T E P : Type 0} (r : Result T E) → is_err r ≡ false → OnOk r P → P
ok_so (Ok x) is p = p
ok_so (Err e) is p = absurd cc

err_so : {T E P : Type 0} (r : Result T E) → is_err r ≡ true → OnErr r P → P
err_so (Ok x) is p = absurd cc
err_so (Err e) is p = p

pub returns-then-is_err-clause-failed : goal.returns-then-is_err-clause-failed
returns-then-is_err-clause-failed g c =
    let fails = sym c.is_err.ensures.value ∙ c.if-is_err.true in
    timers_fail c.args.self.now c.tick.new.self c.args.now c.tick.ensures c.expire_timers.new.self c.fail.new.self (err_so c.expire_timers.result fails c.expire_timers.ensures.others) c.fail.ensures.failed

pub returns-then-is_err-clause-lacking : goal.returns-then-is_err-clause-lacking
returns-then-is_err-clause-lacking g c =
    let fails = sym c.is_err.ensures.value ∙ c.if-is_err.true in
    timers_lose c.args.self.now c.tick.new.self c.args.now c.tick.ensures c.requires (err_so c.expire_timers.result fails c.expire_timers.ensures.lacking)

pub returns-clause-end : goal.returns-clause-end
returns-clause-end g c =
    let serves = sym c.is_err.ensures.value ∙ c.if-is_err.false in
    timers_time_out c.args.self.now c.tick.new.self c.args.now c.tick.ensures g.H.HeaderKey.protection g.K.PacketKey.aead g.K.PacketKey.seal_limit g.K.PacketKey.refusal_limit g.R.Rng.stream g.C.Controller.steps c.expire_timers.new.self c.requires (ok_so c.expire_timers.result serves c.expire_timers.ensures.ok)

pub returns-clause-random : goal.returns-clause-random
returns-clause-random g c =
    let serves = sym c.is_err.ensures.value ∙ c.if-is_err.false in
    timers_draw c.args.self.now c.tick.new.self c.args.now c.tick.ensures g.R.Rng.stream c.expire_timers.new.self (ok_so c.expire_timers.result serves c.expire_timers.ensures.random)
