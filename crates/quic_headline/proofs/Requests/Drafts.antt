-- What goes of an end has one request of how often to acknowledge, which waited, or none: what it
-- says, and how the end asks behind it.
use Rattle.std.proofs.Common.{◌≡◌, ℕ, zero, suc, ◌+◌, ◌≤◌, min, true, false, List, [], ◌∷◌, ◌++◌, replicate, refl, sym, ap, ◌∙◌, ◌⊎◌, inl, inr, arith, Some}
use Rattle.std.specs.List.{list_any}
use Rattle.std.proofs.lemmas.Bool.{or_cases, both_ways}
use Rattle.quic_wire.specs.Value.{FrameValue, AckFrequencyValue, ack_frequency, padding, connection_close, application_close}
use Rattle.quic_retransmits.specs.declared.retransmits.ControlKind.{ControlKind}
use Rattle.quic_streams_state.specs.Control.{kind_of}
use Rattle.quic_machine.specs.declared.run.Answer.TheVariants as answers
use Rattle.quic_machine.specs.Policy.{Policy}
use Rattle.quic_machine.specs.Closing.{ticked}
use Rattle.quic_machine.specs.End.{End, with_closing, closed_by}
use Rattle.quic_machine.specs.Poll.{Draft, Polled, draft_as, Leaving, zeros_behind, request_of, most_requests, polled}
use Rattle.quic_machine.specs.Poll as poll
use Rattle.quic_machine.specs.PollCases.{ready_at, ready_leaves, draft_at, frames_padded, may_leave_at}
use Rattle.quic_machine.specs.DraftLaws.{Writing, by_leave, MayLeave, IsClose}
use Rattle.quic_machine.specs.Puts.{after}
use Rattle.quic_machine.specs.Puts as puts
use Rattle.quic_machine.specs.Machine.{gave}
use Rattle.quic_headline.specs.Runs.{In}
use Rattle.quic_headline.specs.Observer.{Sent}
use Rattle.quic_headline.specs.InFlight.{is_ack_frequency}
use Rattle.quic_headline.specs.Waited.{stands}
use Rattle.quic_headline.specs.Requests.{count_requests, requests_in}
use Rattle.quic_headline.proofs.Packets.Entries.{without_asks}
use Rattle.quic_headline.proofs.Packets.Growth.{in_more}
use Rattle.quic_headline.proofs.Packets.Owing.{Owes, close_is, error_owes}
use Rattle.quic_headline.proofs.Packets.Probes.{by_going}
use Rattle.quic_headline.proofs.Packets.Sends.{by_sends}
use Rattle.quic_headline.proofs.Places.Parties.{sent_as, sent_by, sent_if}
use Rattle.quic_headline.proofs.Requests.Asks.{By, by_of, says}

-- ---- how many stand among frames

-- those of two lists
count_append : (fs gs : List FrameValue) → count_requests (fs ++ gs) ≡ count_requests fs + count_requests gs
count_append [] gs = omega arith
count_append (ack_frequency f ∷ fs) gs = let rest = count_append fs gs in omega arith
count_append (f ∷ fs) gs = count_append fs gs

-- a frame that is none
count_other : (f : FrameValue) → is_ack_frequency f ≡ false → count_requests (f ∷ []) ≡ 0
count_other (ack_frequency r) other = cc
count_other f other = refl

-- PADDING is none
pub count_padding : (n : ℕ) → count_requests (replicate n padding) ≡ 0
count_padding zero = refl
count_padding (suc n) = count_padding n

-- nor is a close
pub count_close : (f : FrameValue) (n : ℕ) → IsClose f → count_requests (f ∷ replicate n padding) ≡ 0
count_close (connection_close c) n is = count_padding n
count_close (application_close c) n is = count_padding n
count_close f n is = absurd is

-- one that stands there counts
pub count_in : (r : AckFrequencyValue) (fs : List FrameValue) → In (ack_frequency r) fs → 1 ≤ count_requests fs
count_in r [] i = absurd i
count_in r (ack_frequency f ∷ fs) i = omega arith
count_in r (f ∷ fs) (inl is) = cc
count_in r (f ∷ fs) (inr more) = count_in r fs more

-- so does one that is found there
pub count_any : (fs : List FrameValue) → list_any is_ack_frequency fs ≡ true → 1 ≤ count_requests fs
count_any [] some = cc
count_any (ack_frequency f ∷ fs) some = omega arith
count_any (f ∷ fs) some = count_any fs some

-- and one that is found in datagrams
pub requests_any : (ss : List Sent) → stands is_ack_frequency ss ≡ true → 1 ≤ requests_in ss
requests_any [] some = cc
requests_any (s ∷ ss) some = elim (or_cases (list_any is_ack_frequency s.frames) (stands is_ack_frequency ss) some) [
  | inl here ↦ (let one = count_any s.frames here in omega arith)
  | inr more ↦ (let one = requests_any ss more in omega arith)
]

-- those of more datagrams
pub requests_more : (ss ts : List Sent) → requests_in (ss ++ ts) ≡ requests_in ss + requests_in ts
requests_more [] ts = omega arith
requests_more (s ∷ ss) ts = let rest = requests_more ss ts in omega arith

-- the bytes 0 behind a draft are none
pub count_padded : (d : Draft) → count_requests (frames_padded d) ≡ count_requests d.frames
count_padded d = let both = count_append d.frames (replicate (zeros_behind d) padding) in let none = count_padding (zeros_behind d) in omega arith

-- ---- a draft

-- A draft of an end has no request, and leaves how the end asks, and whether one waits; or it has
-- one, which waited, says what the end asks for, is counted, and waits no more.
pub data Has (e : End) (d : Draft) : Type 0 where
  has_none : count_requests d.frames ≡ 0 → by_of d.end ≡ by_of e → d.end.waiting.frames.ack_frequency ≡ e.waiting.frames.ack_frequency → Has e d
  has_one : count_requests d.frames ≡ 1 → d.end.frequency.next ≡ min (e.frequency.next + 1) most_requests → ((f : AckFrequencyValue) → In (ack_frequency f) d.frames → f ≡ request_of e) → e.waiting.frames.ack_frequency ≡ true → d.end.waiting.frames.ack_frequency ≡ false → Has e d

-- a frame of control is no request
control_other : (f : FrameValue) (kind : ControlKind) → kind_of f ≡ Some kind → is_ack_frequency f ≡ false
control_other (ack_frequency r) kind is = cc
control_other f kind is = refl

-- frames that are the same say the same
same_request : (r q : AckFrequencyValue) → ack_frequency r ≡ ack_frequency q → r ≡ q
same_request r q is = cc

-- another frame goes
other_has : (e : End) (d : Draft) (f : FrameValue) (x : End) → is_ack_frequency f ≡ false → by_of x ≡ by_of d.end → x.waiting.frames.ack_frequency ≡ d.end.waiting.frames.ack_frequency → Has e d → (bytes : List ℕ) (least : ℕ)
    → Has e (record d { frames = d.frames ++ f ∷ []; bytes = bytes; least = least; end = x })
other_has e d f x other by waits (has_none count same still) bytes least = has_none (let both = count_append d.frames (f ∷ []) in let none = count_other f other in omega arith) (by ∙ same) (waits ∙ still)
other_has e d f x other by waits (has_one count next told waited gone) bytes least = has_one
    (let both = count_append d.frames (f ∷ []) in let none = count_other f other in omega arith)
    (ap (λ (b : By). b.next) by ∙ next)
    (λ r i. elim (in_more (ack_frequency r) f d.frames i) [ inl old ↦ told r old | inr new ↦ (let clash : true ≡ false = ap is_ack_frequency new ∙ other in absurd cc) ])
    waited
    (waits ∙ gone)

-- what is dropped is no request
drops_has : (e : End) (d : Draft) (x : End) → by_of x ≡ by_of d.end → x.waiting.frames.ack_frequency ≡ d.end.waiting.frames.ack_frequency → Has e d → Has e (record d { end = x })
drops_has e d x by waits (has_none count same still) = has_none count (by ∙ same) (waits ∙ still)
drops_has e d x by waits (has_one count next told waited gone) = has_one count (ap (λ (b : By). b.next) by ∙ next) told waited (waits ∙ gone)

-- a request goes, which waits
request_has : (e : End) (d : Draft) → d.end.waiting.frames.ack_frequency ≡ true → Has e d → Has e (after puts.request d)
request_has e d set (has_none count same still) = has_one
    (let both = count_append d.frames (ack_frequency (request_of d.end) ∷ []) in omega arith)
    (ap (λ (b : By). min (b.next + 1) most_requests) same)
    (λ r i. elim (in_more (ack_frequency r) (ack_frequency (request_of d.end)) d.frames i) [
      | inl old ↦ (let some = count_in r d.frames old in absurd (omega arith))
      | inr new ↦ same_request r (request_of d.end) new ∙ ap says same
    ])
    (sym still ∙ set)
    refl
request_has e d set (has_one count next told waited gone) = absurd (both_ways d.end.waiting.frames.ack_frequency gone set)

-- so it is of what goes
pub draft_has : (leaving : Leaving) (e : End) → MayLeave leaving e → Has e (draft_as leaving e)
draft_has leaving e may = by_leave (Has e) keep leaving e may (has_none refl refl refl)
  where
    keep : Writing (Has e)
    keep (puts.drops kind) d may i = drops_has e d (after (puts.drops kind) d).end refl (without_asks kind d.end.waiting.frames) i
    keep (puts.control kind f) d is i = other_has e d f (after (puts.control kind f) d).end (control_other f kind is.of_kind) refl (without_asks kind d.end.waiting.frames) i (after (puts.control kind f) d).bytes (after (puts.control kind f) d).least
    keep puts.request d set i = request_has e d set i
    keep p d may i = other_has e d _ (after p d).end refl refl refl i (after p d).bytes (after p d).least

-- ---- a poll

-- A poll of an end leaves it so, at which these go: none of them is a request, the end asks as it
-- did, and where one waits, it did, or where the end was ready; or one is, which is counted, and
-- none waits.
pub data Goes (e : End) (now : ℕ) (x : End) (ss : List Sent) : Type 0 where
  goes_none : requests_in ss ≡ 0 → by_of x ≡ by_of e → (x.waiting.frames.ack_frequency ≡ true → ((ready_at e now).end.waiting.frames.ack_frequency ≡ true) ⊎ (e.waiting.frames.ack_frequency ≡ true)) → Goes e now x ss
  goes_one : requests_in ss ≡ 1 → x.frequency.next ≡ min (e.frequency.next + 1) most_requests → x.waiting.frames.ack_frequency ≡ false → Goes e now x ss

-- an end that is ready asks as it did
pub ready_by : (e : End) (now : ℕ) → by_of (ready_at e now).end ≡ by_of e
ready_by e now = ap by_of (ready_leaves e now)

-- so does one whose draft went
drafted_goes : (e : End) (now : ℕ) (x : End) → by_of x ≡ by_of (draft_at e now).end → x.waiting.frames.ack_frequency ≡ (draft_at e now).end.waiting.frames.ack_frequency → Has (ready_at e now).end (draft_at e now) → Goes e now x (sent_as e now (draft_at e now) ∷ [])
drafted_goes e now x by waits (has_none count same still) = goes_none (let padded = count_padded (draft_at e now) in omega arith) (by ∙ same ∙ ready_by e now) (λ set. inl (sym (waits ∙ still) ∙ set))
drafted_goes e now x by waits (has_one count next told waited gone) = goes_one
    (let padded = count_padded (draft_at e now) in omega arith)
    (ap (λ (b : By). b.next) by ∙ next ∙ ap (λ (b : By). min (b.next + 1) most_requests) (ready_by e now))
    (waits ∙ gone)

-- each poll leaves an end so
pub polled_requests : (p : Policy) (e : End) (now : ℕ) → Owes e → Goes e now (polled p e now).end (sent_if (gave (answers.Poll (polled p e now).answer)) (sent_by p e now))
polled_requests p e now owes = by_sends p e now (λ (q : Polled) (ss : List Sent). Goes e now q.end ss) (record {
  silent = goes_none refl refl (λ set. inr set);
  failed = goes_none refl refl (λ set. inr set);
  nothing = λ is none. goes_none refl (ready_by e now) (λ set. inl set);
  repeats = λ is. (let x : End = with_closing e (ticked e.closing now) in (goes_none refl refl (λ set. inr set), λ f goes. goes_none (alone x f (close_is p x owes f goes)) refl (λ set. inr set)));
  closes = λ reason is bound. (let x : End = closed_by reason z in (goes_none refl (ready_by e now) (λ set. inl set), λ f goes. goes_none (alone x f (close_is p x (error_owes reason z) f goes)) (ready_by e now) (λ set. inl set)));
  gives = λ is may some. by_going (λ (x : End). Goes e now x (sent_as e now (draft_at e now) ∷ [])) p (draft_at e now) (λ pacing. drafted_goes e now _ refl refl (draft_has (ready_at e now).leaving z (may_leave_at e now)));
})
  where
    z : End
    z = (ready_at e now).end

    -- a close goes alone
    alone : (x : End) (f : FrameValue) → IsClose f → requests_in (sent_as e now (draft_as (poll.closing f) x) ∷ []) ≡ 0
    alone x f is = let none = count_close f (zeros_behind (draft_as (poll.closing f) x)) is in omega arith

-- where one goes, none waits behind
pub none_waits : (e : End) (now : ℕ) (x : End) (ss : List Sent) → Goes e now x ss → stands is_ack_frequency ss ≡ true → x.waiting.frames.ack_frequency ≡ false
none_waits e now x ss (goes_none count same waits) some = let one = requests_any ss some in absurd (omega arith)
none_waits e now x ss (goes_one count next gone) some = gone
