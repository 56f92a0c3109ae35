-- Where memory may lack at the ends of the worked run, and where it may not.
use Rattle.std.proofs.Common.{◌≡◌, ◌<◌, ℕ, List, [], ◌∷◌, Ok, Err, Bool, true, false, refl, inl, inr, subst, sym, ◌∙◌, arith}
use Rattle.quic_sets.specs.Offsets.{with_offsets}
use Rattle.quic_sets.specs.Pieces.{with_range, joining}
use Rattle.quic_streams_parts.specs.declared.answers.ReadableError.TheVariants as readable_errors
use Rattle.quic_streams_parts.specs.declared.answers.ReadError.TheVariants as read_errors
use Rattle.quic_machine.specs.declared.answers.Received.TheVariants as receives
use Rattle.quic_machine.specs.declared.run.ReadCall.{ReadCall}
use Rattle.quic_machine.specs.declared.run.Answer.TheVariants as answers
use Rattle.quic_streams_state.specs.Reading.{told_bytes, after_read_begun, read_answer}
use Rattle.quic_machine.specs.Machine.{World, IsStep}
use Rattle.quic_machine.specs.Lacking.{NextsLack, ReadLacks}
use Rattle.quic_worked.specs.Broken.{IsNever, writes_nothing, once_full, once_blocked, once_failed, lets_expire}
use Rattle.quic_worked.specs.Worked.{write_lacks, finish_lacks, read_lacks, next_lacks, poll_lacks, ReadsBy, two_chunks, with_server, once_opened, once_written, once_ended, once_sent, once_taken, once_read, writes_hello, finishes_stream, asks_datagram, delivers, reads_stream, failed_end, worked_policies}
use Rattle.quic_worked.proofs.Steps.{counts_so, same_server, server_alone}
use Rattle.quic_worked.proofs.WorkedRun.{ReadsSo, reads_at}
use Rattle.quic_worked.proofs.Unread.{NothingGrew, stays, lacks}

-- ---- where it may

pub writes : IsStep worked_policies once_opened writes_hello write_lacks once_opened
writes = record { answer = inr refl; end = refl; control = refl; heard = counts_so worked_policies once_opened writes_hello write_lacks; openings = tt; others = refl; lacking = λ lacks. (refl, omega arith) }

pub notes : IsStep worked_policies once_full writes_hello write_lacks once_full
notes = record { answer = inr refl; end = refl; control = refl; heard = counts_so worked_policies once_full writes_hello write_lacks; openings = tt; others = refl; lacking = λ lacks. (refl, refl) }

pub finishes : IsStep worked_policies once_written finishes_stream finish_lacks once_written
finishes = record { answer = inr refl; end = refl; control = refl; heard = counts_so worked_policies once_written finishes_stream finish_lacks; openings = tt; others = refl; lacking = λ lacks. refl }

-- a read that is allowed, and whose limit has no place among those that wait
begins_first : ReadLacks once_taken.server.streams once_taken.server.waiting.frames 0 true
unfolding once_taken
begins_first = (refl, inl refl)

begins_by : (read : ReadCall) → read.id ≡ 0 → read.ordered ≡ true → ReadLacks once_taken.server.streams once_taken.server.waiting.frames read.id read.ordered
begins_by read id ordered =
    let in_order = subst (λ (b : Bool). ReadLacks once_taken.server.streams once_taken.server.waiting.frames 0 b) (sym ordered) begins_first in
    subst (λ (n : ℕ). ReadLacks once_taken.server.streams once_taken.server.waiting.frames n read.ordered) (sym id) in_order

-- both ends are as they were
took_only : once_taken ≡ with_server once_taken once_taken.server
took_only = same_server once_taken

pub begins : (read : ReadCall) → ReadsBy two_chunks read → IsStep worked_policies once_taken (reads_stream read) read_lacks once_taken
unfolding once_taken
begins read by = record { answer = inr refl; end = refl; control = refl; heard = counts_so worked_policies once_taken (reads_stream read) read_lacks; openings = tt; others = took_only ∙ server_alone once_taken once_taken.server; lacking = λ lacks. begins_by read by.id by.ordered }

-- no limit grew there
nothing_grew : NothingGrew once_taken.server.streams 0
unfolding once_taken
nothing_grew = record { bytes = refl; two_way = refl; one_way = refl; stream = refl }

-- a read whose one `next` lacks memory, and which leaves the end as it was
cuts_two : ReadsSo once_taken 0 true (2 ∷ []) (Err read_errors.Memory ∷ []) once_taken.server
unfolding once_taken
cuts_two = record { answer = (refl, (inr refl, tt)); end = stays once_taken.server 0 2 (Err read_errors.Memory) (λ o s. lacks o s 0 2) nothing_grew; lacking = (λ lacks. (refl, refl), tt) }

pub reads : (read : ReadCall) → ReadsBy (2 ∷ []) read
    → IsStep worked_policies once_taken (reads_stream read) next_lacks once_taken
reads = reads_at once_taken once_taken 0 true (2 ∷ []) (Err read_errors.Memory ∷ []) cuts_two took_only

pub gives : IsStep worked_policies once_ended asks_datagram poll_lacks once_failed
unfolding once_sent
gives = record { answer = inr refl; end = (refl, refl, λ failed. cc, λ served. refl); control = tt; heard = tt; openings = tt; others = refl; lacking = inl tt }

pub takes : IsStep worked_policies once_sent delivers (answers.Deliver receives.Failed)
    (with_server once_sent (failed_end once_sent.server))
unfolding once_taken
takes = record { answer = inr refl; end = (refl, refl, λ failed. cc, λ served. refl); control = tt; heard = tt; openings = tt; others = refl; lacking = tt }

-- ---- where it may not

pub not_ended : IsNever once_ended finishes_stream finish_lacks
not_ended next step = let allowed = step.lacking refl in cc

pub not_closed : IsNever once_ended writes_hello write_lacks
not_closed next step = (step.lacking refl).1

-- it was noted before
pub not_blocked : IsNever once_blocked writes_hello write_lacks
not_blocked next step = let new : true ≡ false = (step.lacking refl).1 in cc

-- a write of no bytes takes none
pub not_empty : IsNever once_opened writes_nothing write_lacks
not_empty next step = let accepted : 0 < 0 = (step.lacking refl).1 in omega (arith, accepted)

-- all was read, so no read is allowed
pub closed_first : (ordered : Bool) → read_answer once_read.server.streams 0 ordered ≡ Err readable_errors.ClosedStream
unfolding once_taken with_offsets with_range joining
closed_first ordered = refl

pub not_begins : (read : ReadCall) → read.id ≡ 0 → IsNever once_read (reads_stream read) read_lacks
not_begins read e next step =
    let allowed : read_answer once_read.server.streams read.id read.ordered ≡ Ok tt = (step.lacking refl).0 in
    let of_first : read_answer once_read.server.streams 0 read.ordered ≡ Ok tt = subst (λ (n : ℕ). read_answer once_read.server.streams n read.ordered ≡ Ok tt) e allowed in
    let clash = sym (closed_first read.ordered) ∙ of_first in
    cc

-- of a `next`
abbrev FirstLacks : ℕ → Bool → List ℕ → Type 0
FirstLacks id ordered mosts = NextsLack told_bytes (after_read_begun once_taken.server.streams id ordered) id mosts (Err read_errors.Memory ∷ [])

-- a `next` of at most 32 bytes gives all five
whole_first : FirstLacks 0 true (32 ∷ []) → ⊥
unfolding once_taken
whole_first lacks = let cut : false ≡ true = (lacks.0 refl).1 in cc

whole_piece : (read : ReadCall) → ReadsBy (32 ∷ []) read → FirstLacks read.id read.ordered read.nexts.items → ⊥
whole_piece read by lacks =
    let of_first = subst (λ (n : ℕ). FirstLacks n read.ordered read.nexts.items) by.id lacks in
    let in_order = subst (λ (b : Bool). FirstLacks 0 b read.nexts.items) by.ordered of_first in
    whole_first (subst (λ (ms : List ℕ). FirstLacks 0 true ms) by.bounds in_order)

pub not_cut : (read : ReadCall) → ReadsBy (32 ∷ []) read
    → IsNever once_taken (reads_stream read) next_lacks
not_cut read by next step = whole_piece read by step.lacking

pub not_idle : IsNever once_sent asks_datagram poll_lacks
unfolding once_sent
not_idle next step = elim (step.lacking) [ inl none ↦ none | inr moves ↦ (let clash : false ≡ true = moves.1.0 in cc) ]

pub not_again : IsNever once_taken delivers (answers.Deliver receives.Failed)
unfolding once_taken
not_again next step = step.lacking

-- ---- an end that had failed

-- stays as it is
pub not_pinging : (next : World)
    → IsStep worked_policies once_failed lets_expire (answers.Timeout (Err (record {}))) next
    → next.client ≡ once_failed.client
not_pinging next step = step.end.2 refl
