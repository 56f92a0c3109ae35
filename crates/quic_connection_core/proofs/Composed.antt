-- What is composed: a due ACK and what asks behind it, or what asks and an ACK behind it.
use Rattle.std.proofs.Common.{◌≡◌, ℕ, ◌+◌, ◌-◌, ◌++◌, ◌||◌, Bool, true, false, List, [], ◌∷◌, length, Some, None, refl, sym, ap, ◌∙◌, arith}
use Rattle.std.proofs.lemmas.List.{append_assoc, append-nil, length-append}
use Rattle.std.proofs.lemmas.List.Sums.{fold-append}
use Rattle.quic_wire.specs.Value.{FrameValue, AckValue, ack, stream, asks}
use Rattle.quic_wire.specs.Writing.{spelling}
use Rattle.quic_recovery_core.specs.PendingAcks.{can_send}
use Rattle.quic_send_buffer.specs.declared.stream_meta.StreamMeta.{StreamMeta}
use Rattle.quic_streams_parts.specs.SendHalf.{meta_of}
use Rattle.quic_retransmits.specs.Retransmits.{nothing_waits}
use Rattle.quic_machine.specs.Tracking.{Carried, acked_in, streams_in, and_again, retransmits_in, carried_in}
use Rattle.quic_machine.specs.End.{End}
use Rattle.quic_machine.specs.Poll.{Draft, no_frames, ack_of, with_ack, after_ack, ack_fits, ack_if, composed_if, composed, asking}
use Rattle.quic_connection_parts.specs.Frames.{asked, fits_behind, ack_bytes_if, acked_if, end_after_ack_if}
use Rattle.quic_connection_parts.proofs.Content.{acked_more}
use Rattle.quic_connection_core.proofs.Asking.{behind, asked_behind, asked_names_none}

-- how an ACK frame is written
abbrev ack_bytes : End → List ℕ
ack_bytes e = spelling (ack (ack_of e))

-- what asks behind a due ACK, and what asks first
abbrev behind_due : End → Draft
behind_due e = asked (after_ack e) (length (ack_bytes e))

abbrev first_asked : End → Draft
first_asked e = asked e 0

-- a due ACK goes first
due : (e : End) → can_send e.acknowledging ≡ true → composed e ≡ behind (with_ack (no_frames e)) (behind_due e)
due e is = ap (λ (b : Bool). composed_if b e) is ∙ asked_behind (with_ack (no_frames e)) refl

-- another goes last, where it fits
late : (e : End) → can_send e.acknowledging ≡ false → composed e ≡ ack_if (ack_fits (first_asked e)) (first_asked e)
late e is = ap (λ (b : Bool). composed_if b e) is ∙ ap (λ (d : Draft). ack_if (ack_fits d) d) (asked_behind (no_frames e) refl)

-- what it leaves and writes
ack_goes : (b : Bool) (d : Draft) → ((ack_if b d).bytes ≡ d.bytes ++ ack_bytes_if b d.end) × ((ack_if b d).end ≡ end_after_ack_if b d.end)
ack_goes true d = (refl, refl)
ack_goes false d = (sym (append-nil d.bytes), refl)

-- ---- what the frames say

-- an ACK frame behind others doesn't ask, and carries no bytes
ack_asks : (fs : List FrameValue) (a : AckValue) → asking (fs ++ ack a ∷ []) ≡ asking fs
ack_asks [] a = refl
ack_asks (f ∷ fs) a = ap (λ (b : Bool). asks f || b) (ack_asks fs a)

ack_carries : (fs : List FrameValue) (a : AckValue) → streams_in (fs ++ ack a ∷ []) ≡ streams_in fs
ack_carries [] a = refl
ack_carries (stream f ∷ fs) a = ap (λ (ms : List StreamMeta). meta_of f ∷ ms) (ack_carries fs a)
ack_carries (f ∷ fs) a = ack_carries fs a

-- nor anything that has to be sent again
ack_again : (fs : List FrameValue) (a : AckValue) → retransmits_in (fs ++ ack a ∷ []) ≡ retransmits_in fs
ack_again fs a = fold-append and_again nothing_waits fs (ack a ∷ [])

-- whether it asks, and what it carries, where an ACK goes last or doesn't
late_says : (b : Bool) (d : Draft) → acked_in d.frames ≡ None → (asking (ack_if b d).frames ≡ asking d.frames) × (carried_in (ack_if b d).frames ≡ record (carried_in d.frames) { largest_acked = acked_if b d.end })
late_says true d none = (ack_asks d.frames (ack_of d.end), rw (acked_more d.frames (ack (ack_of d.end) ∷ []) none, ack_carries d.frames (ack_of d.end), ack_again d.frames (ack_of d.end)) refl)
late_says false d none = (refl, rw none refl)

-- ---- what stands in a buffer

-- behind a due ACK
due_asked : (e x : End) (before mid : List ℕ) (used : ℕ) → used ≡ length mid - length before → mid ≡ before ++ ack_bytes e → x ≡ after_ack e → asked x used ≡ behind_due e
due_asked e x before mid used n put left =
    let long : length mid ≡ length before + length (ack_bytes e) = ap length put ∙ length-append before (ack_bytes e) in
    ap (λ (y : End). asked y used) left ∙ ap (λ (k : ℕ). asked (after_ack e) k) (let few : used ≡ length (ack_bytes e) = omega (arith, n, long) in few)

pub due_bytes : (e x : End) (before mid final : List ℕ) (used : ℕ) → can_send e.acknowledging ≡ true → used ≡ length mid - length before → mid ≡ before ++ spelling (ack (ack_of e)) → x ≡ after_ack e
    → final ≡ mid ++ (asked x used).bytes → final ≡ before ++ (composed e).bytes
due_bytes e x before mid final used is n put left all =
    all
    ∙ ap (λ (d : Draft). mid ++ d.bytes) (due_asked e x before mid used n put left)
    ∙ ap (λ (z : List ℕ). z ++ (behind_due e).bytes) put
    ∙ append_assoc before (ack_bytes e) (behind_due e).bytes
    ∙ ap (λ (d : Draft). before ++ d.bytes) (sym (due e is))

pub due_end : (e x : End) (before mid : List ℕ) (used : ℕ) → can_send e.acknowledging ≡ true → used ≡ length mid - length before → mid ≡ before ++ spelling (ack (ack_of e)) → x ≡ after_ack e → (asked x used).end ≡ (composed e).end
due_end e x before mid used is n put left = ap (λ (d : Draft). d.end) (due_asked e x before mid used n put left) ∙ ap (λ (d : Draft). d.end) (sym (due e is))

pub due_says : (e x : End) (before mid : List ℕ) (used : ℕ) → can_send e.acknowledging ≡ true → used ≡ length mid - length before → mid ≡ before ++ spelling (ack (ack_of e)) → x ≡ after_ack e
    → (asking (asked x used).frames ≡ asking (composed e).frames) × (◌≡◌ {A = Carried} (record (carried_in (asked x used).frames) { largest_acked = Some (ack_of e).largest }) (carried_in (composed e).frames))
due_says e x before mid used is n put left =
    let same = due_asked e x before mid used n put left in (
      ap (λ (d : Draft). asking d.frames) same ∙ ap (λ (d : Draft). asking d.frames) (sym (due e is)),
      ap (λ (d : Draft). record (carried_in d.frames) { largest_acked = Some (ack_of e).largest }) same ∙ ap (λ (d : Draft). carried_in d.frames) (sym (due e is)),
    )

-- without a due ACK what asks goes first, and an ACK behind it
late_used : (e x : End) (before mid : List ℕ) (used : ℕ) → mid ≡ before ++ (first_asked e).bytes → x ≡ (first_asked e).end → used ≡ length mid - length before → used ≡ length (first_asked e).bytes
late_used e x before mid used put left count =
    let long : length mid ≡ length before + length (first_asked e).bytes = ap length put ∙ length-append before (first_asked e).bytes in
    omega (arith, count, long)

pub late_bytes : (e x : End) (before mid final : List ℕ) (used : ℕ) → can_send e.acknowledging ≡ false → mid ≡ before ++ (asked e 0).bytes → x ≡ (asked e 0).end → used ≡ length mid - length before → final ≡ mid ++ ack_bytes_if (fits_behind x used) x
    → final ≡ before ++ (composed e).bytes
late_bytes e x before mid final used is put left count all =
    let d : Draft = first_asked e in
    all
    ∙ ap (λ (y : End). mid ++ ack_bytes_if (fits_behind y used) y) left
    ∙ ap (λ (k : ℕ). mid ++ ack_bytes_if (fits_behind d.end k) d.end) (late_used e x before mid used put left count)
    ∙ ap (λ (z : List ℕ). z ++ ack_bytes_if (ack_fits d) d.end) put
    ∙ append_assoc before d.bytes (ack_bytes_if (ack_fits d) d.end)
    ∙ ap (λ (z : List ℕ). before ++ z) (sym (ack_goes (ack_fits d) d).0)
    ∙ ap (λ (x : Draft). before ++ x.bytes) (sym (late e is))

pub late_end : (e x : End) (before mid : List ℕ) (used : ℕ) → can_send e.acknowledging ≡ false → mid ≡ before ++ (asked e 0).bytes → x ≡ (asked e 0).end → used ≡ length mid - length before → end_after_ack_if (fits_behind x used) x ≡ (composed e).end
late_end e x before mid used is put left count =
    let d : Draft = first_asked e in
    ap (λ (y : End). end_after_ack_if (fits_behind y used) y) left
    ∙ ap (λ (k : ℕ). end_after_ack_if (fits_behind d.end k) d.end) (late_used e x before mid used put left count)
    ∙ sym (ack_goes (ack_fits d) d).1
    ∙ ap (λ (x : Draft). x.end) (sym (late e is))

-- what it says
pub late_is : (e x : End) (before mid : List ℕ) (used : ℕ) → can_send e.acknowledging ≡ false → mid ≡ before ++ (asked e 0).bytes → x ≡ (asked e 0).end → used ≡ length mid - length before
    → (asking (asked e 0).frames ≡ asking (composed e).frames) × (◌≡◌ {A = Carried} (record (carried_in (asked e 0).frames) { largest_acked = acked_if (fits_behind x used) x }) (carried_in (composed e).frames))
late_is e x before mid used is put left count =
    let d : Draft = first_asked e in
    let said = late_says (ack_fits d) d (asked_names_none e 0) in (
      sym said.0 ∙ ap (λ (x : Draft). asking x.frames) (sym (late e is)),
      ap (λ (y : End). record (carried_in d.frames) { largest_acked = acked_if (fits_behind y used) y }) left
          ∙ ap (λ (k : ℕ). record (carried_in d.frames) { largest_acked = acked_if (fits_behind d.end k) d.end }) (late_used e x before mid used put left count)
          ∙ sym said.1
          ∙ ap (λ (x : Draft). carried_in x.frames) (sym (late e is)),
    )
