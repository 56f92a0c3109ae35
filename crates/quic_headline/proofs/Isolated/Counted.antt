-- What an end counted of packets that didn't open: a run with fewer such is answered the same,
-- while none is the last that may not open.
use Rattle.std.proofs.Common.{◌≡◌, ℕ, ◌+◌, ◌-◌, ◌^◌, ◌≤◌, min, Bool, true, false, ◌||◌, List, length, Option, Some, None, Ok, refl, sym, ◌∙◌, subst, arith}
use Rattle.std.proofs.lemmas.Bool.{leb-true, leb-false}
use Rattle.std.specs.Prelude.{if◌then◌else◌, slice_get}
use Rattle.quic_machine.specs.declared.answers.State.{State}
use Rattle.quic_machine.specs.declared.answers.State.TheVariants as states
use Rattle.quic_machine.specs.declared.answers.DropReason.TheVariants as drops
use Rattle.quic_machine.specs.declared.answers.Received.{Received}
use Rattle.quic_machine.specs.declared.answers.Received.TheVariants as receives
use Rattle.quic_machine.specs.declared.answers.Transmit.{Transmit}
use Rattle.quic_machine.specs.declared.run.Call.{Call}
use Rattle.quic_machine.specs.declared.run.Call.TheVariants as calls
use Rattle.quic_machine.specs.declared.run.Answer.{Answer}
use Rattle.quic_machine.specs.declared.run.Answer.TheVariants as answers
use Rattle.quic_machine.specs.Heard.{Heard, counted, is_key_limit, is_last, heard_failure, heard_answer, heard_anew, received_if, heard_datagram, heard_given}
use Rattle.quic_machine.specs.End.{End}
use Rattle.quic_machine.specs.Migration.{is_there, has_moved}
use Rattle.quic_machine.specs.Machine.{says_last, heard_delivery, heard_by, CountsReceived, CountsIn, CountsOpenings}

-- no more packets than these didn't open
abbrev pub AreFewer : Heard → Heard → Type 0
AreFewer less more = counted less.failures 1 ≤ counted more.failures 1

one_more : (n m : ℕ) → min (n + 1) (2 ^ 64 - 1) ≤ min (m + 1) (2 ^ 64 - 1) → min (min (n + 1) (2 ^ 64 - 1) + 1) (2 ^ 64 - 1) ≤ min (min (m + 1) (2 ^ 64 - 1) + 1) (2 ^ 64 - 1)
one_more n m few = omega arith

grows : (n : ℕ) → min (n + 1) (2 ^ 64 - 1) ≤ min (min (n + 1) (2 ^ 64 - 1) + 1) (2 ^ 64 - 1)
grows n = omega arith

-- ---- both count what comes

answer_fewer : (a : Received) (less more : Heard) → AreFewer less more → AreFewer (heard_answer a less) (heard_answer a more)
answer_fewer (receives.Dropped drops.NotOpened) less more few = one_more less.failures more.failures few
answer_fewer (receives.Closed error) less more few = go (is_key_limit error)
  where
    go : (b : Bool) → AreFewer (if b then heard_failure less else less) (if b then heard_failure more else more)
    go true = one_more less.failures more.failures few
    go false = few
answer_fewer a less more few = few

-- bytes count for a path, or for none, and another path has none
bytes_fewer : (new counts : Bool) (size : ℕ) (less more : Heard) → AreFewer less more → AreFewer (received_if counts size (heard_anew new less)) (received_if counts size (heard_anew new more))
bytes_fewer true true size less more few = few
bytes_fewer true false size less more few = few
bytes_fewer false true size less more few = few
bytes_fewer false false size less more few = few

datagram_fewer : (here new : Bool) (d : List ℕ) (a : Received) (less more : Heard) → AreFewer less more → AreFewer (heard_datagram here new d a less) (heard_datagram here new d a more)
datagram_fewer here new d a less more few = answer_fewer a (received_if (here || new) (length d) (heard_anew new less)) (received_if (here || new) (length d) (heard_anew new more)) (bytes_fewer new (here || new) (length d) less more few)

delivery_fewer : (before after : End) (remote : ℕ) (o : Option (List ℕ)) (a : Received) (less more : Heard) → AreFewer less more → AreFewer (heard_delivery before after remote o a less) (heard_delivery before after remote o a more)
delivery_fewer before after remote None a less more few = few
delivery_fewer before after remote (Some d) a less more few = datagram_fewer (is_there remote before) (has_moved before after) d a less more few

given_fewer : (o : Option Transmit) (less more : Heard) → AreFewer less more → AreFewer (heard_given o less) (heard_given o more)
given_fewer None less more few = few
given_fewer (Some t) less more few = few

pub by_fewer : (before after : End) (theirs : List (List ℕ)) (call : Call) (a : Answer) (less more : Heard) → AreFewer less more → AreFewer (heard_by before after theirs call a less) (heard_by before after theirs call a more)
by_fewer before after theirs (calls.Poll now) (answers.Poll (Ok given)) less more few = given_fewer given less more few
by_fewer before after theirs (calls.Deliver delivery) (answers.Deliver a) less more few = delivery_fewer before after delivery.remote (slice_get theirs delivery.index) a less more few
by_fewer before after theirs (calls.Inject injection) (answers.Inject a) less more few = datagram_fewer (is_there injection.remote before) false injection.bytes a less more few
by_fewer before after theirs call a less more few = few

-- ---- one counts, the other doesn't

answer_grows : (a : Received) (h : Heard) → AreFewer h (heard_answer a h)
answer_grows (receives.Dropped drops.NotOpened) h = grows h.failures
answer_grows (receives.Closed error) h = go (is_key_limit error)
  where
    go : (b : Bool) → AreFewer h (if b then heard_failure h else h)
    go true = grows h.failures
    go false = omega arith
answer_grows a h = omega arith

-- bytes count no failures
bytes_same : (new counts : Bool) (size : ℕ) (h : Heard) → (received_if counts size (heard_anew new h)).failures ≡ h.failures
bytes_same true true size h = refl
bytes_same true false size h = refl
bytes_same false true size h = refl
bytes_same false false size h = refl

datagram_grows : (here new : Bool) (d : List ℕ) (a : Received) (h : Heard) → AreFewer h (heard_datagram here new d a h)
datagram_grows here new d a h =
    let counted_bytes : Heard = received_if (here || new) (length d) (heard_anew new h) in
    subst (λ (n : ℕ). counted n 1 ≤ counted (heard_answer a counted_bytes).failures 1) (bytes_same new (here || new) (length d) h) (answer_grows a counted_bytes)

delivery_grows : (before after : End) (remote : ℕ) (o : Option (List ℕ)) (a : Received) (h : Heard) → AreFewer h (heard_delivery before after remote o a h)
delivery_grows before after remote None a h = omega arith
delivery_grows before after remote (Some d) a h = datagram_grows (is_there remote before) (has_moved before after) d a h

given_grows : (o : Option Transmit) (h : Heard) → AreFewer h (heard_given o h)
given_grows None h = omega arith
given_grows (Some t) h = omega arith

pub by_grows : (before after : End) (theirs : List (List ℕ)) (call : Call) (a : Answer) (h : Heard) → AreFewer h (heard_by before after theirs call a h)
by_grows before after theirs (calls.Poll now) (answers.Poll (Ok given)) h = given_grows given h
by_grows before after theirs (calls.Deliver delivery) (answers.Deliver a) h = delivery_grows before after delivery.remote (slice_get theirs delivery.index) a h
by_grows before after theirs (calls.Inject injection) (answers.Inject a) h = datagram_grows (is_there injection.remote before) false injection.bytes a h
by_grows before after theirs call a h = omega arith

-- ---- what is answered

-- fewer aren't the last where these aren't
not_last : (limit : ℕ) (less more : Heard) → AreFewer less more → is_last limit more ≡ false → is_last limit less ≡ false
not_last limit less more few early = go (is_last limit less) refl
  where
    go : (b : Bool) → is_last limit less ≡ b → b ≡ false
    go true is =
        let up : limit ≤ counted less.failures 1 = leb-true limit (counted less.failures 1) is in
        let down = leb-false limit (counted more.failures 1) early in
        absurd (omega arith)
    go false is = refl

received_fewer : (limit : ℕ) (less more : Heard) (a : Received) → says_last (answers.Deliver a) ≡ false → AreFewer less more → CountsReceived limit more a → CountsReceived limit less a
received_fewer limit less more (receives.Dropped drops.NotOpened) early few c = not_last limit less more few c
received_fewer limit less more (receives.Closed error) early few c = λ last. let clash : ◌≡◌ {A = Bool} true false = sym last ∙ early in cc
received_fewer limit less more a early few c = tt

in_fewer : (state : State) (limit : ℕ) (less more : Heard) (a : Received) → says_last (answers.Deliver a) ≡ false → AreFewer less more → CountsIn state limit more a → CountsIn state limit less a
in_fewer states.Open limit less more a early few c = received_fewer limit less more a early few c
in_fewer states.Closing limit less more a early few c = tt
in_fewer states.Drained limit less more a early few c = tt
in_fewer states.Failed limit less more a early few c = tt

-- an injection says the same as a delivery
says_same : (a : Received) → says_last (answers.Inject a) ≡ says_last (answers.Deliver a)
says_same (receives.Closed error) = refl
says_same a = refl

pub openings_fewer : (limit : ℕ) (state : State) (less more : Heard) (a : Answer) → says_last a ≡ false → AreFewer less more → CountsOpenings limit state more a → CountsOpenings limit state less a
openings_fewer limit state less more (answers.Deliver a) early few c = in_fewer state limit less more a early few c
openings_fewer limit state less more (answers.Inject a) early few c = in_fewer state limit less more a (sym (says_same a) ∙ early) few c
openings_fewer limit state less more a early few c = tt
