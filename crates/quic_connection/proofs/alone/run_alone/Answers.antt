-- What the machine keeps at one end alone, of the calls that were made.
use Rattle.std.proofs.Common.{◌≡◌, ℕ, List, [], length, take, drop, refl, sym, ap, ◌∙◌, subst}
use Rattle.std.proofs.lemmas.List.{drop_at}
use Rattle.quic_machine.specs.Policy.{Policy}
use Rattle.quic_machine.specs.End.{policy_of}
use Rattle.quic_headline.specs.Alone.{Lone}
use Rattle.quic_headline.specs.Amplification.{IsThreefold}
use Rattle.quic_headline.specs.Nonces.{SealedOnce}
use Rattle.quic_headline.specs.LoneAcks.{AcksTaken, CodesAreSmall}
use Rattle.quic_connection_parts.specs.Telling.{windows_of}
use Rattle.quic_connection_parts.specs.Drawn.{words_of}
use Rattle.quic_connection.specs.Lone.{lone_of}
use Rattle.quic_connection.proofs.Codes.{first_small}
use Rattle.quic_connection.proofs.Lone.{gives_follow}
use Rattle.quic_connection.proofs.alone.run_alone.Goals as goal

pub returns-clause-follows : goal.returns-clause-follows
returns-clause-follows g c =
    let given = c.make_calls.ensures.given in
    let p : Policy = policy_of g.H.HeaderKey.protection g.K.PacketKey.aead g.K.PacketKey.seal_limit g.K.PacketKey.refusal_limit (words_of g.R.Rng.stream) c.args.end.now in
    let from : Lone = lone_of (windows_of g.C.Controller.steps g.C.Controller.window_of) c.args.end.now in
    let to : Lone = lone_of (windows_of g.C.Controller.steps g.C.Controller.window_of) c.make_calls.new.end in
    gives_follow p c.args.theirs.now from (take (length c.make_calls.result.answers.items) c.args.calls.now) c.make_calls.result.answers.items given.more to given.gives

pub returns-clause-bytes_come : goal.returns-clause-bytes_come
returns-clause-bytes_come g c = λ new.
    let p : Policy = policy_of g.H.HeaderKey.protection g.K.PacketKey.aead g.K.PacketKey.seal_limit g.K.PacketKey.refusal_limit (words_of g.R.Rng.stream) c.args.end.now in
    let from : Lone = lone_of (windows_of g.C.Controller.steps g.C.Controller.window_of) c.args.end.now in
    let to : Lone = lone_of (windows_of g.C.Controller.steps g.C.Controller.window_of) c.make_calls.new.end in
    c.bytes_come.ensures p c.args.theirs.now from to (take (length c.make_calls.result.answers.items) c.args.calls.now) c.make_calls.result.answers.items new (returns-clause-follows g c)

pub returns-clause-messages_come : goal.returns-clause-messages_come
returns-clause-messages_come g c = λ new.
    let p : Policy = policy_of g.H.HeaderKey.protection g.K.PacketKey.aead g.K.PacketKey.seal_limit g.K.PacketKey.refusal_limit (words_of g.R.Rng.stream) c.args.end.now in
    let from : Lone = lone_of (windows_of g.C.Controller.steps g.C.Controller.window_of) c.args.end.now in
    let to : Lone = lone_of (windows_of g.C.Controller.steps g.C.Controller.window_of) c.make_calls.new.end in
    c.messages_come.ensures p c.args.theirs.now from to (take (length c.make_calls.result.answers.items) c.args.calls.now) c.make_calls.result.answers.items new (returns-clause-follows g c)

pub returns-clause-bounded : goal.returns-clause-bounded
returns-clause-bounded g c = λ new served.
    let p : Policy = policy_of g.H.HeaderKey.protection g.K.PacketKey.aead g.K.PacketKey.seal_limit g.K.PacketKey.refusal_limit (words_of g.R.Rng.stream) c.args.end.now in
    let from : Lone = lone_of (windows_of g.C.Controller.steps g.C.Controller.window_of) c.args.end.now in
    let to : Lone = lone_of (windows_of g.C.Controller.steps g.C.Controller.window_of) c.make_calls.new.end in
    c.keeps_within.ensures p c.args.theirs.now from to (take (length c.make_calls.result.answers.items) c.args.calls.now) c.make_calls.result.answers.items new (returns-clause-follows g c) served

pub returns-clause-few_events : goal.returns-clause-few_events
returns-clause-few_events g c = λ new.
    let p : Policy = policy_of g.H.HeaderKey.protection g.K.PacketKey.aead g.K.PacketKey.seal_limit g.K.PacketKey.refusal_limit (words_of g.R.Rng.stream) c.args.end.now in
    let keys = c.args.end.now.keys in
    let from : Lone = lone_of (windows_of g.C.Controller.steps g.C.Controller.window_of) c.args.end.now in
    let to : Lone = lone_of (windows_of g.C.Controller.steps g.C.Controller.window_of) c.make_calls.new.end in
    c.tells_few.ensures p c.args.theirs.now from to (take (length c.make_calls.result.answers.items) c.args.calls.now) c.make_calls.result.answers.items new (g.met.H.HeaderKey.shows_length keys.header.remote) (g.met.K.PacketKey.opens_no_more keys.packet.remote)
    (returns-clause-follows g c)

pub returns-clause-threefold : goal.returns-clause-threefold
returns-clause-threefold g c = λ begins.
    let given = c.make_calls.ensures.given in
    let p : Policy = policy_of g.H.HeaderKey.protection g.K.PacketKey.aead g.K.PacketKey.seal_limit g.K.PacketKey.refusal_limit (words_of g.R.Rng.stream) c.args.end.now in
    let keys = c.args.end.now.keys in
    let from : Lone = lone_of (windows_of g.C.Controller.steps g.C.Controller.window_of) c.args.end.now in
    let to : Lone = lone_of (windows_of g.C.Controller.steps g.C.Controller.window_of) c.make_calls.new.end in
    let made = take (length c.make_calls.result.answers.items) c.args.calls.now in
    let added : drop (length c.args.given.now.items) c.make_calls.new.given.items ≡ given.more = ap (λ (ds : List (List ℕ)). drop (length c.args.given.now.items) ds) given.behind ∙ drop_at c.args.given.now.items given.more (length c.args.given.now.items) refl in
    subst (λ (ds : List (List ℕ)). IsThreefold p c.args.theirs.now begins.new.side begins.new.remote made c.make_calls.result.answers.items ds c.make_calls.new.end.end) (sym added)
    (c.stays_threefold.ensures p c.args.theirs.now from to made c.make_calls.result.answers.items given.more begins (g.met.H.HeaderKey.keeps_length keys.header.local) (g.met.K.PacketKey.adds_tag keys.packet.local) given.gives)

pub returns-clause-closed_for_cause : goal.returns-clause-closed_for_cause
returns-clause-closed_for_cause g c = λ new.
    let p : Policy = policy_of g.H.HeaderKey.protection g.K.PacketKey.aead g.K.PacketKey.seal_limit g.K.PacketKey.refusal_limit (words_of g.R.Rng.stream) c.args.end.now in
    let from : Lone = lone_of (windows_of g.C.Controller.steps g.C.Controller.window_of) c.args.end.now in
    let to : Lone = lone_of (windows_of g.C.Controller.steps g.C.Controller.window_of) c.make_calls.new.end in
    c.closed_for_cause.ensures p c.args.theirs.now from to (take (length c.make_calls.result.answers.items) c.args.calls.now) c.make_calls.result.answers.items new (returns-clause-follows g c)

pub returns-clause-drained_for_cause : goal.returns-clause-drained_for_cause
returns-clause-drained_for_cause g c = λ new.
    let p : Policy = policy_of g.H.HeaderKey.protection g.K.PacketKey.aead g.K.PacketKey.seal_limit g.K.PacketKey.refusal_limit (words_of g.R.Rng.stream) c.args.end.now in
    let from : Lone = lone_of (windows_of g.C.Controller.steps g.C.Controller.window_of) c.args.end.now in
    let to : Lone = lone_of (windows_of g.C.Controller.steps g.C.Controller.window_of) c.make_calls.new.end in
    c.drained_for_cause.ensures p c.args.theirs.now from to (take (length c.make_calls.result.answers.items) c.args.calls.now) c.make_calls.result.answers.items new (returns-clause-follows g c)

pub returns-clause-closes_few : goal.returns-clause-closes_few
returns-clause-closes_few g c = λ closing.
    let p : Policy = policy_of g.H.HeaderKey.protection g.K.PacketKey.aead g.K.PacketKey.seal_limit g.K.PacketKey.refusal_limit (words_of g.R.Rng.stream) c.args.end.now in
    let from : Lone = lone_of (windows_of g.C.Controller.steps g.C.Controller.window_of) c.args.end.now in
    let to : Lone = lone_of (windows_of g.C.Controller.steps g.C.Controller.window_of) c.make_calls.new.end in
    c.closes_few.ensures p c.args.theirs.now from to (take (length c.make_calls.result.answers.items) c.args.calls.now) c.make_calls.result.answers.items closing (returns-clause-follows g c)

pub returns-clause-seals_once : goal.returns-clause-seals_once
returns-clause-seals_once g c = λ new.
    let given = c.make_calls.ensures.given in
    let p : Policy = policy_of g.H.HeaderKey.protection g.K.PacketKey.aead g.K.PacketKey.seal_limit g.K.PacketKey.refusal_limit (words_of g.R.Rng.stream) c.args.end.now in
    let from : Lone = lone_of (windows_of g.C.Controller.steps g.C.Controller.window_of) c.args.end.now in
    let to : Lone = lone_of (windows_of g.C.Controller.steps g.C.Controller.window_of) c.make_calls.new.end in
    let added : drop (length c.args.given.now.items) c.make_calls.new.given.items ≡ given.more = ap (λ (ds : List (List ℕ)). drop (length c.args.given.now.items) ds) given.behind ∙ drop_at c.args.given.now.items given.more (length c.args.given.now.items) refl in
    subst (SealedOnce p) (sym added) (c.seals_once.ensures p c.args.theirs.now from to (take (length c.make_calls.result.answers.items) c.args.calls.now) c.make_calls.result.answers.items given.more new given.gives)

pub returns-clause-acks_only_taken : goal.returns-clause-acks_only_taken
returns-clause-acks_only_taken g c = λ fit.
    let given = c.make_calls.ensures.given in
    let p : Policy = policy_of g.H.HeaderKey.protection g.K.PacketKey.aead g.K.PacketKey.seal_limit g.K.PacketKey.refusal_limit (words_of g.R.Rng.stream) c.args.end.now in
    let from : Lone = lone_of (windows_of g.C.Controller.steps g.C.Controller.window_of) c.args.end.now in
    let to : Lone = lone_of (windows_of g.C.Controller.steps g.C.Controller.window_of) c.make_calls.new.end in
    let made = take (length c.make_calls.result.answers.items) c.args.calls.now in
    let added : drop (length c.args.given.now.items) c.make_calls.new.given.items ≡ given.more = ap (λ (ds : List (List ℕ)). drop (length c.args.given.now.items) ds) given.behind ∙ drop_at c.args.given.now.items given.more (length c.args.given.now.items) refl in
    let small : CodesAreSmall made = first_small (length c.make_calls.result.answers.items) c.args.calls.now c.show_codes.ensures in
    subst (AcksTaken p c.args.theirs.now [] made c.make_calls.result.answers.items) (sym added) (c.acks_only_taken.ensures p c.args.theirs.now from to made c.make_calls.result.answers.items given.more fit small given.gives)

pub returns-clause-messages_fit : goal.returns-clause-messages_fit
returns-clause-messages_fit g c = λ new.
    let p : Policy = policy_of g.H.HeaderKey.protection g.K.PacketKey.aead g.K.PacketKey.seal_limit g.K.PacketKey.refusal_limit (words_of g.R.Rng.stream) c.args.end.now in
    let from : Lone = lone_of (windows_of g.C.Controller.steps g.C.Controller.window_of) c.args.end.now in
    let to : Lone = lone_of (windows_of g.C.Controller.steps g.C.Controller.window_of) c.make_calls.new.end in
    c.messages_fit.ensures p c.args.theirs.now from to (take (length c.make_calls.result.answers.items) c.args.calls.now) c.make_calls.result.answers.items new (returns-clause-follows g c)
