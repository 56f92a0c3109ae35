use Rattle.std.proofs.Common.{◌≡◌, ◌++◌, ◌-◌, ◌&&◌, ℕ, Bool, true, false, List, length, Option, Some, None, inr, refl, sym, subst, ap, ◌∙◌, arith}
use Rattle.std.specs.Prelude.{Result, Ok, Err, IfOk, OnOk, OnErr}
use Rattle.std.specs.Option.{is_none}
use Rattle.std.proofs.lemmas.List.{append-nil, length-append}
use Rattle.quic_parameters.specs.declared.transport_parameters.id.TransportParameterId.TheVariants.{MaxUdpPayloadSize}
use Rattle.quic_congestion.specs.Congestion.{Told, after_calls}
use Rattle.quic_congestion.specs.Search.{Discovery}
use Rattle.quic_congestion.specs.SearchBounds.{IsSized}
use Rattle.quic_machine.specs.declared.answers.LostReason.{LostReason}
use Rattle.quic_machine.specs.declared.answers.State.TheVariants as states
use Rattle.quic_machine.specs.Heard.{heard_given}
use Rattle.quic_machine.specs.End.{End, HasFailed, policy_of, words_drawn}
use Rattle.quic_machine.specs.Poll.{mark_of, draft_as, datagram_of, told_draft, bounds, Polled, goes, IsSilent}
use Rattle.quic_machine.specs.PollCases.{ready_at, bounds_none}
use Rattle.quic_connection_parts.specs.Drawn.{words_of, after_words}
use Rattle.quic_connection_parts.specs.Given.{given_bytes}
use Rattle.quic_connection_parts.specs.Leaving.{Leaves, leaving_of}
use Rattle.quic_connection_core.proofs.Polls.{close_keeps, bound_text, polled_idle, silent_rests, none_left, some_goes, some_left, some_is, some_due, some_looked, some_within, drawn_still, ready_words, ready_bounds, closed_is, closed_words, ready_closes, ready_close_takes, ready_gives, ready_takes, ready_tells, none_told}
use Rattle.quic_connection_core.proofs.connection.Connection.poll_open.Goals as goal

on_err : {T E P : Type 0} (r : Result T E) → P → OnErr r P
on_err (Ok x) p = tt
on_err (Err e) p = p

none_both : (a b : Bool) → b ≡ false → a && b ≡ false
none_both true b is = is
none_both false b is = refl

none_first : (a b : Bool) → a ≡ false → a && b ≡ false
none_first true b is = absurd cc
none_first false b is = refl

-- ---- memory lacks before something goes

pub returns-in_err-leaving-clause-lacking : goal.returns-in_err-leaving-clause-lacking
returns-in_err-leaving-clause-lacking g c = on_err c.from_residual.result (inr (c.requires, c.in_err-leaving.ensures.lacking))

-- ---- nothing goes

pub returns-in_default-clause-answer : goal.returns-in_default-clause-answer
returns-in_default-clause-answer g c =
    let w = c.args.self.now in
    let none : goes (ready_at w.end c.args.now) ≡ false = rw c.in_default.is at c.in_ok-leaving.ensures.leaving in
    let p = policy_of g.H.HeaderKey.protection g.K.PacketKey.aead g.K.PacketKey.seal_limit g.K.PacketKey.refusal_limit (words_of g.R.Rng.stream) w in
    sym (ap (λ (x : Polled). x.answer) (polled_idle p w.end c.args.now c.requires none))

pub returns-in_default-clause-end : goal.returns-in_default-clause-end
returns-in_default-clause-end g c =
    let w = c.args.self.now in
    let none : goes (ready_at w.end c.args.now) ≡ false = rw c.in_default.is at c.in_ok-leaving.ensures.leaving in
    let is = none_left w c.make_ready.new.self c.args.now c.in_ok-leaving.ensures.end none in
    let p = policy_of g.H.HeaderKey.protection g.K.PacketKey.aead g.K.PacketKey.seal_limit g.K.PacketKey.refusal_limit (words_of g.R.Rng.stream) w in
    ap (λ x. x.end) is ∙ sym (ap (λ (x : Polled). x.end) (polled_idle p w.end c.args.now c.requires none))

pub returns-in_default-clause-control : goal.returns-in_default-clause-control
returns-in_default-clause-control g c =
    let w = c.args.self.now in
    let none : goes (ready_at w.end c.args.now) ≡ false = rw c.in_default.is at c.in_ok-leaving.ensures.leaving in
    let is = none_left w c.make_ready.new.self c.args.now c.in_ok-leaving.ensures.end none in
    let told = none_told (policy_of g.H.HeaderKey.protection g.K.PacketKey.aead g.K.PacketKey.seal_limit g.K.PacketKey.refusal_limit (words_of g.R.Rng.stream) w) w.end c.args.now c.requires (none_first (goes (ready_at w.end c.args.now)) (is_none (bounds (policy_of g.H.HeaderKey.protection g.K.PacketKey.aead g.K.PacketKey.seal_limit g.K.PacketKey.refusal_limit (words_of g.R.Rng.stream) w) (ready_at w.end c.args.now).end)) none) in
    ap (λ x. x.control) is ∙ ap (λ (ts : List Told). after_calls g.C.Controller.steps w.control ts) (sym told)

pub returns-in_default-clause-random : goal.returns-in_default-clause-random
returns-in_default-clause-random g c =
    let w = c.args.self.now in
    let z = c.make_ready.new.self in
    let stream = g.R.Rng.stream in
    let none : goes (ready_at w.end c.args.now) ≡ false = rw c.in_default.is at c.in_ok-leaving.ensures.leaving in
    let is = none_left w z c.args.now c.in_ok-leaving.ensures.end none in
    let same = ap (λ x. words_drawn x.end) is ∙ ready_words w.end c.args.now in
    let drawn : words_drawn z.end - words_drawn w.end ≡ 0 = omega (arith, same) in
    ap (λ x. stream x.random) is ∙ ap (λ (k : ℕ). after_words k (stream w.random)) (sym drawn)

pub returns-in_default-clause-datagram : goal.returns-in_default-clause-datagram
returns-in_default-clause-datagram g c =
    let w = c.args.self.now in
    let none : goes (ready_at w.end c.args.now) ≡ false = rw c.in_default.is at c.in_ok-leaving.ensures.leaving in
    let p = policy_of g.H.HeaderKey.protection g.K.PacketKey.aead g.K.PacketKey.seal_limit g.K.PacketKey.refusal_limit (words_of g.R.Rng.stream) w in
    sym (append-nil c.args.out.now.items) ∙ ap (λ (x : Polled). c.args.out.now.items ++ given_bytes x.datagram) (sym (polled_idle p w.end c.args.now c.requires none))

pub returns-in_default-clause-silent : goal.returns-in_default-clause-silent
returns-in_default-clause-silent g c answers still =
    let w = c.args.self.now in
    let none : goes (ready_at w.end c.args.now) ≡ false = rw c.in_default.is at c.in_ok-leaving.ensures.leaving in
    let is = none_left w c.make_ready.new.self c.args.now c.in_ok-leaving.ensures.end none in
    subst (λ (x : End). IsSilent x) (sym (ap (λ x. x.end) is)) (silent_rests w.end c.args.now none)

-- ---- numbers or the key are used up

on_err_map : {T E P Q : Type 0} (r : Result T E) → (P → Q) → OnErr r P → OnErr r Q
on_err_map (Ok x) f p = tt
on_err_map (Err e) f p = f p

on_ok : {T E P : Type 0} (r : Result T E) → P → OnOk r P
on_ok (Ok x) p = p
on_ok (Err e) p = tt

if_ok : {T E P : Type 0} (r : Result T E) (x : T) → r ≡ Ok x → OnOk r P → P
if_ok {T} {E} {P} r x is p = subst (λ (q : Result T E). OnOk q P) is p

not_none : (b : Bool) (o : Option LostReason) (reason : LostReason) → o ≡ Some reason → b && is_none o ≡ false
not_none true o reason is = ap is_none is
not_none false o reason is = refl

pub close_by-requires-clause-text : goal.close_by-requires-clause-text
close_by-requires-clause-text g c =
    let z = c.make_ready.new.self in
    let bound = rw c.in-Some-bound_reached.is at c.bound_reached.ensures in
    bound_text (policy_of g.H.HeaderKey.protection g.K.PacketKey.aead g.K.PacketKey.seal_limit g.K.PacketKey.refusal_limit (words_of g.R.Rng.stream) z) z.end c.in-Some-bound_reached.reason bound.0

pub close_by-requires-clause-code : goal.close_by-requires-clause-code
close_by-requires-clause-code g c = (rw c.in-Some-bound_reached.is at c.bound_reached.ensures).1

pub returns-in-Some-bound_reached-clause-answer : goal.returns-in-Some-bound_reached-clause-answer
returns-in-Some-bound_reached-clause-answer g c =
    let w = c.args.self.now in
    let z = c.make_ready.new.self in
    let so : Leaves (Some c.in-Some.leaving) (ready_at w.end c.args.now).leaving = rw c.in-Some.is at c.in_ok-leaving.ensures.leaving in
    let is = some_left w z c.args.now c.in_ok-leaving.ensures.end c.in-Some.leaving so in
    let some = some_goes w z c.args.now c.in_ok-leaving.ensures.end c.in-Some.leaving so in
    let bound = rw c.in-Some-bound_reached.is at c.bound_reached.ensures in
    let y = c.close_by.new.self in
    let reason = c.in-Some-bound_reached.reason in
    subst (λ (x : Polled). OnOk c.give_close.result (c.give_close.result ≡ x.answer)) (sym (ready_closes g.H.HeaderKey.protection g.K.PacketKey.aead g.K.PacketKey.seal_limit g.K.PacketKey.refusal_limit (words_of g.R.Rng.stream) w z c.args.now is reason y c.close_by.ensures c.requires some bound.0)) c.give_close.ensures.answer

pub returns-in-Some-bound_reached-clause-end : goal.returns-in-Some-bound_reached-clause-end
returns-in-Some-bound_reached-clause-end g c =
    let w = c.args.self.now in
    let z = c.make_ready.new.self in
    let so : Leaves (Some c.in-Some.leaving) (ready_at w.end c.args.now).leaving = rw c.in-Some.is at c.in_ok-leaving.ensures.leaving in
    let is = some_left w z c.args.now c.in_ok-leaving.ensures.end c.in-Some.leaving so in
    let some = some_goes w z c.args.now c.in_ok-leaving.ensures.end c.in-Some.leaving so in
    let bound = rw c.in-Some-bound_reached.is at c.bound_reached.ensures in
    let y = c.close_by.new.self in
    let reason = c.in-Some-bound_reached.reason in
    subst (λ (x : Polled). OnOk c.give_close.result (c.give_close.new.self.end ≡ x.end)) (sym (ready_closes g.H.HeaderKey.protection g.K.PacketKey.aead g.K.PacketKey.seal_limit g.K.PacketKey.refusal_limit (words_of g.R.Rng.stream) w z c.args.now is reason y c.close_by.ensures c.requires some bound.0)) c.give_close.ensures.end

pub returns-in-Some-bound_reached-clause-datagram : goal.returns-in-Some-bound_reached-clause-datagram
returns-in-Some-bound_reached-clause-datagram g c =
    let w = c.args.self.now in
    let z = c.make_ready.new.self in
    let so : Leaves (Some c.in-Some.leaving) (ready_at w.end c.args.now).leaving = rw c.in-Some.is at c.in_ok-leaving.ensures.leaving in
    let is = some_left w z c.args.now c.in_ok-leaving.ensures.end c.in-Some.leaving so in
    let some = some_goes w z c.args.now c.in_ok-leaving.ensures.end c.in-Some.leaving so in
    let bound = rw c.in-Some-bound_reached.is at c.bound_reached.ensures in
    let y = c.close_by.new.self in
    let reason = c.in-Some-bound_reached.reason in
    subst (λ (x : Polled). OnOk c.give_close.result (c.give_close.new.out.items ≡ c.args.out.now.items ++ given_bytes x.datagram)) (sym (ready_closes g.H.HeaderKey.protection g.K.PacketKey.aead g.K.PacketKey.seal_limit g.K.PacketKey.refusal_limit (words_of g.R.Rng.stream) w z c.args.now is reason y c.close_by.ensures c.requires some bound.0)) c.give_close.ensures.datagram

pub returns-in-Some-bound_reached-clause-control : goal.returns-in-Some-bound_reached-clause-control
returns-in-Some-bound_reached-clause-control g c =
    let w = c.args.self.now in
    let z = c.make_ready.new.self in
    let so : Leaves (Some c.in-Some.leaving) (ready_at w.end c.args.now).leaving = rw c.in-Some.is at c.in_ok-leaving.ensures.leaving in
    let is = some_left w z c.args.now c.in_ok-leaving.ensures.end c.in-Some.leaving so in
    let some = some_goes w z c.args.now c.in_ok-leaving.ensures.end c.in-Some.leaving so in
    let bound = rw c.in-Some-bound_reached.is at c.bound_reached.ensures in
    let y = c.close_by.new.self in
    let reason = c.in-Some-bound_reached.reason in
    let same = closed_is g.H.HeaderKey.protection g.K.PacketKey.aead g.K.PacketKey.seal_limit g.K.PacketKey.refusal_limit (words_of g.R.Rng.stream) w z c.args.now is reason y c.close_by.ensures in
    let told = none_told (policy_of g.H.HeaderKey.protection g.K.PacketKey.aead g.K.PacketKey.seal_limit g.K.PacketKey.refusal_limit (words_of g.R.Rng.stream) w) w.end c.args.now c.requires (not_none (goes (ready_at w.end c.args.now)) (bounds (policy_of g.H.HeaderKey.protection g.K.PacketKey.aead g.K.PacketKey.seal_limit g.K.PacketKey.refusal_limit (words_of g.R.Rng.stream) w) (ready_at w.end c.args.now).end) reason (ready_bounds g.H.HeaderKey.protection g.K.PacketKey.aead g.K.PacketKey.seal_limit g.K.PacketKey.refusal_limit (words_of g.R.Rng.stream) w z c.args.now is (Some reason) bound.0)) in
    on_ok c.give_close.result (c.give_close.ensures.control ∙ ap (λ x. x.control) same ∙ ap (λ (ts : List Told). after_calls g.C.Controller.steps w.control ts) (sym told))

pub returns-in-Some-bound_reached-clause-keys : goal.returns-in-Some-bound_reached-clause-keys
returns-in-Some-bound_reached-clause-keys g c =
    let w = c.args.self.now in
    let z = c.make_ready.new.self in
    let so : Leaves (Some c.in-Some.leaving) (ready_at w.end c.args.now).leaving = rw c.in-Some.is at c.in_ok-leaving.ensures.leaving in
    let is = some_left w z c.args.now c.in_ok-leaving.ensures.end c.in-Some.leaving so in
    let some = some_goes w z c.args.now c.in_ok-leaving.ensures.end c.in-Some.leaving so in
    let bound = rw c.in-Some-bound_reached.is at c.bound_reached.ensures in
    let y = c.close_by.new.self in
    let reason = c.in-Some-bound_reached.reason in
    c.give_close.ensures.keys ∙ ap (λ x. x.keys) (closed_is g.H.HeaderKey.protection g.K.PacketKey.aead g.K.PacketKey.seal_limit g.K.PacketKey.refusal_limit (words_of g.R.Rng.stream) w z c.args.now is reason y c.close_by.ensures)

pub returns-in-Some-bound_reached-clause-heard : goal.returns-in-Some-bound_reached-clause-heard
returns-in-Some-bound_reached-clause-heard g c =
    let w = c.args.self.now in
    let z = c.make_ready.new.self in
    let so : Leaves (Some c.in-Some.leaving) (ready_at w.end c.args.now).leaving = rw c.in-Some.is at c.in_ok-leaving.ensures.leaving in
    let is = some_left w z c.args.now c.in_ok-leaving.ensures.end c.in-Some.leaving so in
    let some = some_goes w z c.args.now c.in_ok-leaving.ensures.end c.in-Some.leaving so in
    let bound = rw c.in-Some-bound_reached.is at c.bound_reached.ensures in
    let y = c.close_by.new.self in
    let reason = c.in-Some-bound_reached.reason in
    subst (λ h. IfOk c.give_close.result (λ given. c.give_close.new.self.heard ≡ heard_given given h)) (ap (λ x. x.heard) (closed_is g.H.HeaderKey.protection g.K.PacketKey.aead g.K.PacketKey.seal_limit g.K.PacketKey.refusal_limit (words_of g.R.Rng.stream) w z c.args.now is reason y c.close_by.ensures)) c.give_close.ensures.heard

pub returns-in-Some-bound_reached-clause-random : goal.returns-in-Some-bound_reached-clause-random
returns-in-Some-bound_reached-clause-random g c =
    let w = c.args.self.now in
    let z = c.make_ready.new.self in
    let so : Leaves (Some c.in-Some.leaving) (ready_at w.end c.args.now).leaving = rw c.in-Some.is at c.in_ok-leaving.ensures.leaving in
    let is = some_left w z c.args.now c.in_ok-leaving.ensures.end c.in-Some.leaving so in
    let some = some_goes w z c.args.now c.in_ok-leaving.ensures.end c.in-Some.leaving so in
    let bound = rw c.in-Some-bound_reached.is at c.bound_reached.ensures in
    let y = c.close_by.new.self in
    let reason = c.in-Some-bound_reached.reason in
    let same = closed_is g.H.HeaderKey.protection g.K.PacketKey.aead g.K.PacketKey.seal_limit g.K.PacketKey.refusal_limit (words_of g.R.Rng.stream) w z c.args.now is reason y c.close_by.ensures in
    let words = closed_words g.H.HeaderKey.protection g.K.PacketKey.aead g.K.PacketKey.seal_limit g.K.PacketKey.refusal_limit (words_of g.R.Rng.stream) w z c.args.now is reason y c.close_by.ensures in
    subst (λ (k : ℕ). OnOk c.give_close.result (g.R.Rng.stream c.give_close.new.self.random ≡ after_words (words_drawn c.give_close.new.self.end - k) (g.R.Rng.stream w.random))) words
    (subst (λ r. OnOk c.give_close.result (g.R.Rng.stream c.give_close.new.self.random ≡ after_words (words_drawn c.give_close.new.self.end - words_drawn y.end) (g.R.Rng.stream r))) (ap (λ x. x.random) same) c.give_close.ensures.random)

pub returns-in-Some-bound_reached-clause-failed : goal.returns-in-Some-bound_reached-clause-failed
returns-in-Some-bound_reached-clause-failed g c =
    let w = c.args.self.now in
    let z = c.make_ready.new.self in
    let so : Leaves (Some c.in-Some.leaving) (ready_at w.end c.args.now).leaving = rw c.in-Some.is at c.in_ok-leaving.ensures.leaving in
    let is = some_left w z c.args.now c.in_ok-leaving.ensures.end c.in-Some.leaving so in
    let some = some_goes w z c.args.now c.in_ok-leaving.ensures.end c.in-Some.leaving so in
    let bound = rw c.in-Some-bound_reached.is at c.bound_reached.ensures in
    let y = c.close_by.new.self in
    let reason = c.in-Some-bound_reached.reason in
    on_err_map c.give_close.result (λ f. record { state = f.state; reason = f.reason; keys = f.keys }) (subst (λ x. OnErr c.give_close.result (HasFailed x c.give_close.new.self)) (closed_is g.H.HeaderKey.protection g.K.PacketKey.aead g.K.PacketKey.seal_limit g.K.PacketKey.refusal_limit (words_of g.R.Rng.stream) w z c.args.now is reason y c.close_by.ensures) c.give_close.ensures.failed)

pub returns-in-Some-bound_reached-clause-lacking : goal.returns-in-Some-bound_reached-clause-lacking
returns-in-Some-bound_reached-clause-lacking g c =
    let w = c.args.self.now in
    let z = c.make_ready.new.self in
    let so : Leaves (Some c.in-Some.leaving) (ready_at w.end c.args.now).leaving = rw c.in-Some.is at c.in_ok-leaving.ensures.leaving in
    let is = some_left w z c.args.now c.in_ok-leaving.ensures.end c.in-Some.leaving so in
    let some = some_goes w z c.args.now c.in_ok-leaving.ensures.end c.in-Some.leaving so in
    let bound = rw c.in-Some-bound_reached.is at c.bound_reached.ensures in
    let y = c.close_by.new.self in
    let reason = c.in-Some-bound_reached.reason in
    on_err_map c.give_close.result (λ s. ready_close_takes g.H.HeaderKey.protection g.K.PacketKey.aead g.K.PacketKey.seal_limit g.K.PacketKey.refusal_limit (words_of g.R.Rng.stream) w z c.args.now is reason y c.close_by.ensures c.requires some bound.0 s) c.give_close.ensures.lacking

pub returns-in-Some-bound_reached-clause-silent : goal.returns-in-Some-bound_reached-clause-silent
returns-in-Some-bound_reached-clause-silent g c answers opens =
    let w = c.args.self.now in
    let z = c.make_ready.new.self in
    let so : Leaves (Some c.in-Some.leaving) (ready_at w.end c.args.now).leaving = rw c.in-Some.is at c.in_ok-leaving.ensures.leaving in
    let is = some_left w z c.args.now c.in_ok-leaving.ensures.end c.in-Some.leaving so in
    let some = some_goes w z c.args.now c.in_ok-leaving.ensures.end c.in-Some.leaving so in
    let bound = rw c.in-Some-bound_reached.is at c.bound_reached.ensures in
    let y = c.close_by.new.self in
    let reason = c.in-Some-bound_reached.reason in
    let left = if_ok c.give_close.result None answers c.give_close.ensures.end in
    let still : c.give_close.new.self.end.closing.state ≡ states.Closing = ap (λ (e : End). e.closing.state) left ∙ close_keeps (policy_of g.H.HeaderKey.protection g.K.PacketKey.aead g.K.PacketKey.seal_limit g.K.PacketKey.refusal_limit (words_of g.R.Rng.stream) y) y.end ∙ ap (λ x. x.end.closing.state) c.close_by.ensures in
    absurd (let both : states.Open ≡ states.Closing = sym opens ∙ still in cc)

-- ---- something goes

pub give-requires-clause-number : goal.give-requires-clause-number
give-requires-clause-number g c =
    let z = c.make_ready.new.self in
    (bounds_none (policy_of g.H.HeaderKey.protection g.K.PacketKey.aead g.K.PacketKey.seal_limit g.K.PacketKey.refusal_limit (words_of g.R.Rng.stream) z) z.end (rw c.in_default-bound_reached.is at c.bound_reached.ensures)).0

pub give-requires-clause-due : goal.give-requires-clause-due
give-requires-clause-due g c =
    let so : Leaves (Some c.in-Some.leaving) (ready_at c.args.self.now.end c.args.now).leaving = rw c.in-Some.is at c.in_ok-leaving.ensures.leaving in
    some_due c.args.self.now c.make_ready.new.self c.args.now c.in_ok-leaving.ensures.end c.in-Some.leaving so

pub give-requires-clause-looked : goal.give-requires-clause-looked
give-requires-clause-looked g c =
    let w = c.args.self.now in
    let limit = c.self.inside.peer_params.max_udp_payload_size in
    let so : Leaves (Some c.in-Some.leaving) (ready_at w.end c.args.now).leaving = rw c.in-Some.is at c.in_ok-leaving.ensures.leaving in
    let most = (c.self.invariant.1.each MaxUdpPayloadSize).1 in
    let sized : IsSized 1200 limit w.end.path.discovery = subst (λ (d : Discovery). IsSized 1200 limit d) (ap (λ x. x.end.path.discovery) c.self.view_is) c.self.invariant.2.sized in
    some_looked w c.make_ready.new.self c.args.now c.in_ok-leaving.ensures.end c.in-Some.leaving so limit most sized

pub returns-in_err-size-clause-lacking : goal.returns-in_err-size-clause-lacking
returns-in_err-size-clause-lacking g c =
    let w = c.args.self.now in
    let z = c.make_ready.new.self in
    let so : Leaves (Some c.in-Some.leaving) (ready_at w.end c.args.now).leaving = rw c.in-Some.is at c.in_ok-leaving.ensures.leaving in
    let is = some_left w z c.args.now c.in_ok-leaving.ensures.end c.in-Some.leaving so in
    let can = rw c.in_default-bound_reached.is at c.bound_reached.ensures in
    on_err c.from_residual-in_err-size.result (ready_takes g.H.HeaderKey.protection g.K.PacketKey.aead g.K.PacketKey.seal_limit g.K.PacketKey.refusal_limit (words_of g.R.Rng.stream) w z c.args.now is c.in-Some.leaving (some_is w z c.args.now c.in_ok-leaving.ensures.end c.in-Some.leaving so) c.requires (some_goes w z c.args.now c.in_ok-leaving.ensures.end c.in-Some.leaving so) can)

pub returns-clause-end : goal.returns-clause-end
returns-clause-end g c =
    let w = c.args.self.now in
    let z = c.make_ready.new.self in
    let l = c.in-Some.leaving in
    let left = c.in_ok-leaving.ensures.end in
    let so : Leaves (Some l) (ready_at w.end c.args.now).leaving = rw c.in-Some.is at c.in_ok-leaving.ensures.leaving in
    let can = rw c.in_default-bound_reached.is at c.bound_reached.ensures in
    let gives = ready_gives g.H.HeaderKey.protection g.K.PacketKey.aead g.K.PacketKey.seal_limit g.K.PacketKey.refusal_limit (words_of g.R.Rng.stream) w z c.args.now (some_left w z c.args.now left l so) l (some_is w z c.args.now left l so) c.requires (some_goes w z c.args.now left l so) can in
    ap (λ x. x.end) c.count_bytes.ensures ∙ c.in_ok-size.ensures.end ∙ ap (λ (x : Polled). x.end) (sym gives)

pub returns-clause-control : goal.returns-clause-control
returns-clause-control g c =
    let w = c.args.self.now in
    let z = c.make_ready.new.self in
    let l = c.in-Some.leaving in
    let left = c.in_ok-leaving.ensures.end in
    let so : Leaves (Some l) (ready_at w.end c.args.now).leaving = rw c.in-Some.is at c.in_ok-leaving.ensures.leaving in
    let is = some_left w z c.args.now left l so in
    let can = rw c.in_default-bound_reached.is at c.bound_reached.ensures in
    let tells = ready_tells g.H.HeaderKey.protection g.K.PacketKey.aead g.K.PacketKey.seal_limit g.K.PacketKey.refusal_limit (words_of g.R.Rng.stream) w z c.args.now is l (some_is w z c.args.now left l so) c.requires (some_goes w z c.args.now left l so) can in
    ap (λ x. x.control) c.count_bytes.ensures ∙ c.in_ok-size.ensures.control ∙ ap (λ x. after_calls g.C.Controller.steps x.control (told_draft (draft_as (leaving_of l) z.end))) is ∙ ap (λ (ts : List Told). after_calls g.C.Controller.steps w.control ts) (sym tells)

pub returns-clause-random : goal.returns-clause-random
returns-clause-random g c =
    let w = c.args.self.now in
    let z = c.make_ready.new.self in
    let stream = g.R.Rng.stream in
    let so : Leaves (Some c.in-Some.leaving) (ready_at w.end c.args.now).leaving = rw c.in-Some.is at c.in_ok-leaving.ensures.leaving in
    let is = some_left w z c.args.now c.in_ok-leaving.ensures.end c.in-Some.leaving so in
    let drawn = drawn_still g.H.HeaderKey.protection g.K.PacketKey.aead g.K.PacketKey.seal_limit g.K.PacketKey.refusal_limit (words_of g.R.Rng.stream) w z c.args.now is in
    ap (λ x. stream x.random) c.count_bytes.ensures
    ∙ c.in_ok-size.ensures.random
    ∙ ap (λ x. after_words (words_drawn c.give.new.self.end - words_drawn z.end) (stream x.random)) is
    ∙ ap (λ (k : ℕ). after_words (words_drawn c.give.new.self.end - k) (stream w.random)) drawn
    ∙ sym (ap (λ x. after_words (words_drawn x.end - words_drawn w.end) (stream w.random)) c.count_bytes.ensures)

pub returns-clause-datagram : goal.returns-clause-datagram
returns-clause-datagram g c =
    let w = c.args.self.now in
    let z = c.make_ready.new.self in
    let l = c.in-Some.leaving in
    let left = c.in_ok-leaving.ensures.end in
    let so : Leaves (Some l) (ready_at w.end c.args.now).leaving = rw c.in-Some.is at c.in_ok-leaving.ensures.leaving in
    let can = rw c.in_default-bound_reached.is at c.bound_reached.ensures in
    let gives = ready_gives g.H.HeaderKey.protection g.K.PacketKey.aead g.K.PacketKey.seal_limit g.K.PacketKey.refusal_limit (words_of g.R.Rng.stream) w z c.args.now (some_left w z c.args.now left l so) l (some_is w z c.args.now left l so) c.requires (some_goes w z c.args.now left l so) can in
    c.in_ok-size.ensures.items ∙ ap (λ (x : Polled). c.args.out.now.items ++ given_bytes x.datagram) (sym gives)

pub returns-clause-answer : goal.returns-clause-answer
returns-clause-answer g c =
    let w = c.args.self.now in
    let z = c.make_ready.new.self in
    let l = c.in-Some.leaving in
    let left = c.in_ok-leaving.ensures.end in
    let so : Leaves (Some l) (ready_at w.end c.args.now).leaving = rw c.in-Some.is at c.in_ok-leaving.ensures.leaving in
    let can = rw c.in_default-bound_reached.is at c.bound_reached.ensures in
    let gives = ready_gives g.H.HeaderKey.protection g.K.PacketKey.aead g.K.PacketKey.seal_limit g.K.PacketKey.refusal_limit (words_of g.R.Rng.stream) w z c.args.now (some_left w z c.args.now left l so) l (some_is w z c.args.now left l so) c.requires (some_goes w z c.args.now left l so) can in
    let datagram = datagram_of (policy_of g.H.HeaderKey.protection g.K.PacketKey.aead g.K.PacketKey.seal_limit g.K.PacketKey.refusal_limit (words_of g.R.Rng.stream) z) (draft_as (leaving_of l) z.end) in
    let long = ap length c.in_ok-size.ensures.items ∙ length-append c.args.out.now.items datagram in
    let more = c.in_ok-size.ensures.size in
    let size : c.in_ok-size.size ≡ length datagram = omega arith in
    let mark = c.mark.ensures ∙ ap (λ x. mark_of x.end.path.marking) c.count_bytes.ensures ∙ ap (λ (e : End). mark_of e.path.marking) c.in_ok-size.ensures.end in
    let remote = c.remote_address.ensures ∙ ap (λ x. x.end.path.remote) c.count_bytes.ensures ∙ ap (λ (e : End). e.path.remote) c.in_ok-size.ensures.end in
    rw (size, mark, remote) (sym (ap (λ (x : Polled). x.answer) gives))

pub returns-clause-size : goal.returns-clause-size
returns-clause-size g c =
    let w = c.args.self.now in
    let z = c.make_ready.new.self in
    let l = c.in-Some.leaving in
    let left = c.in_ok-leaving.ensures.end in
    let limit = c.self.inside.peer_params.max_udp_payload_size in
    let so : Leaves (Some l) (ready_at w.end c.args.now).leaving = rw c.in-Some.is at c.in_ok-leaving.ensures.leaving in
    let most = (c.self.invariant.1.each MaxUdpPayloadSize).1 in
    let sized : IsSized 1200 limit w.end.path.discovery = subst (λ (d : Discovery). IsSized 1200 limit d) (ap (λ x. x.end.path.discovery) c.self.view_is) c.self.invariant.2.sized in
    some_within w z c.args.now left l so limit most sized c.in_ok-size.size c.in_ok-size.ensures.most
