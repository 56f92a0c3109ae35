-- RESET_STREAM frames say how streams were reset: what waits, what a datagram carries, and what
-- goes (RFC 9000, sections 3.1, 13.3 and 19.4).
use Rattle.std.proofs.Common.{◌≡◌, ℕ, [], ◌∷◌, ◌++◌, length, Bool, true, false, List, Option, Some, None, Ok, Err, refl, sym, ap, ◌∙◌, subst}
use Rattle.std.specs.Prelude.{if◌then◌else◌}
use Rattle.std.specs.Option.{is_some, option_map}
use Rattle.std.specs.List.{AllByRecursion}
use Rattle.quic_wire.specs.Value.{FrameValue, reset_stream}
use Rattle.quic_streams_parts.specs.declared.answers.UpdateError.TheVariants as update_errors
use Rattle.quic_streams_parts.specs.SendHalf.{SendHalf}
use Rattle.quic_retransmits.specs.Retransmits.{Retransmits, merged, first_of, others_of}
use Rattle.quic_streams_state.specs.declared.state.StreamsState.{StreamsState}
use Rattle.quic_retransmits.specs.declared.retransmits.ControlKind.{ControlKind}
use Rattle.quic_retransmits.specs.declared.retransmits.ControlKind.TheVariants.{ResetStream}
use Rattle.quic_streams_state.specs.State.{Streams, sending_half}
use Rattle.quic_streams_state.specs.Writing.{is_reset_at, reset_answer, after_reset, reset_at}
use Rattle.quic_streams_state.specs.Control.{Draft, without_first, with_control_frames, and_again, Goes}
use Rattle.quic_streams_laws.specs.ControlWalk.{by_control}
use Rattle.quic_streams_laws.specs.QuietLaws.{by_told}
use Rattle.quic_streams_laws.specs.Written.{Wrote, Grows, IsSendHalf, HoldsWritten, ResetSays, SaysResets, with_reset, done_on, wrote_reset_by}
use Rattle.quic_streams_laws.specs.WrittenLaws.{holds_kept, live_holds}
use Rattle.quic_streams_laws.specs.WroteLaws.{done_here}
use Rattle.quic_streams_laws.specs.WrittenFrames.{all_append}
use Rattle.quic_streams_laws.specs.GrowsLaws.{grows_reset}

-- ---- what waits

all_map : {A : Type 0} (P Q : A → Type 0) (xs : List A) → ((x : A) → P x → Q x) → AllByRecursion P xs → AllByRecursion Q xs
all_map P Q [] to all = tt
all_map P Q (x ∷ xs) to all = (to x all.0, all_map P Q xs to all.1)

-- what was said stays so when more is done
pub resets_grow : (wrote more : ℕ → Wrote) (p : Retransmits) → ((q : ℕ) → Grows (wrote q) (more q)) → SaysResets wrote p → SaysResets more p
resets_grow wrote more p grows says = all_map (λ e. (wrote e.0).reset ≡ Some e.1) (λ e. (more e.0).reset ≡ Some e.1) p.reset_stream (λ e is. (grows e.0).reset e.1 is) says

-- what a lost datagram carried waits too
pub resets_merged : (wrote : ℕ → Wrote) (p other : Retransmits) → SaysResets wrote p → SaysResets wrote other → SaysResets wrote (merged p other)
resets_merged wrote p other says more = all_append (λ e. (wrote e.0).reset ≡ Some e.1) p.reset_stream other.reset_stream says more

-- a stream is reset
pub resets_reset : (wrote : ℕ → Wrote) (s : StreamsState) (p : Retransmits) (id code : ℕ) → HoldsWritten wrote s → SaysResets wrote p → SaysResets (wrote_reset_by (reset_answer s id) id code wrote) (after_reset s p id code).pending
resets_reset wrote s p id code i says = go (sending_half s id) (resets_grow wrote (wrote_reset_by (reset_answer s id) id code wrote) p (grows_reset wrote s i id code) says)
  where
    both : (b : Bool) (x y : Streams) → (if b then x else y).pending ≡ (if b then x.pending else y.pending)
    both true x y = refl
    both false x y = refl

    new : Retransmits
    new = record p { reset_stream = p.reset_stream ++ (id, code) ∷ [] }

    on : (b : Bool) → SaysResets (wrote_reset_by (if b then Err update_errors.ClosedStream else Ok tt) id code wrote) p → SaysResets (wrote_reset_by (if b then Err update_errors.ClosedStream else Ok tt) id code wrote) (if b then p else new)
    on true before = before
    on false before = all_append (λ e. (done_on id (with_reset code) wrote e.0).reset ≡ Some e.1) p.reset_stream ((id, code) ∷ []) before (ap (λ w. w.reset) (done_here id (with_reset code) wrote), tt)

    go : (o : Option SendHalf) → SaysResets (wrote_reset_by (if is_reset_at o then Err update_errors.ClosedStream else Ok tt) id code wrote) p
        → SaysResets (wrote_reset_by (if is_reset_at o then Err update_errors.ClosedStream else Ok tt) id code wrote) (reset_at o s p id code).pending
    go None before = before
    go (Some h) before = subst (SaysResets (wrote_reset_by (if is_some h.reset then Err update_errors.ClosedStream else Ok tt) id code wrote)) (sym (both (is_some h.reset) _ _)) (on (is_some h.reset) before)

-- ---- what goes

-- streams hold what was written; what waits, what the datagram carries and its frames say how
-- streams were reset
pub record TellsResets (wrote : ℕ → Wrote) (d : Draft) : Type 0 where
  pub holds : HoldsWritten wrote d.state
  pub waits : SaysResets wrote d.pending
  pub carries : SaysResets wrote d.sent
  pub says : AllByRecursion (ResetSays wrote) d.frames

some_is : {A : Type 0} (a b : A) → Some a ≡ Some b → a ≡ b
some_is a b e = cc

-- what holds of all holds of the first
first_holds : {A : Type 0} (Q : A → Type 0) (xs : List A) (x : A) → first_of xs ≡ Some x → AllByRecursion Q xs → Q x
first_holds Q [] x is all = cc
first_holds Q (y ∷ ys) x is all = let same : y ≡ x = cc in subst Q same all.0

-- what waits without its first
without_says : (wrote : ℕ → Wrote) (kind : ControlKind) (p : Retransmits) → SaysResets wrote p → SaysResets wrote (without_first kind p)
without_says wrote ResetStream p says = others p.reset_stream says
  where
    others : (es : List (ℕ × ℕ)) → AllByRecursion (λ e. (wrote e.0).reset ≡ Some e.1) es → AllByRecursion (λ e. (wrote e.0).reset ≡ Some e.1) (others_of es)
    others [] all = tt
    others (e ∷ es) all = all.1
without_says wrote kind p says = says

-- what a frame that goes says, and what the datagram carries with it
record IsSound (wrote : ℕ → Wrote) (d : Draft) (f : FrameValue) : Type 0 where
  says : ResetSays wrote f
  carries : SaysResets wrote (and_again d.sent f)

-- RESET_STREAM says how its stream was reset, and no other frame says anything of it
sound : (wrote : ℕ → Wrote) (d : Draft) → TellsResets wrote d → (f : FrameValue) → Goes d.pending d.state f → IsSound wrote d f
sound wrote d t (reset_stream f) goes =
    let i : IsSendHalf (wrote f.id) goes.0 = live_holds wrote d.state t.holds f.id goes.0 goes.2 in
    let code : (wrote f.id).reset ≡ Some f.code = first_holds (λ e. (wrote e.0).reset ≡ Some e.1) d.pending.reset_stream (f.id, f.code) goes.1 t.waits in
    let all : Some f.final_size ≡ Some (length (wrote f.id).bytes) = sym goes.3 ∙ (i.reset ∙ ap (option_map (λ c. length (wrote f.id).bytes)) code) in
    record {
      says = record { code = code; size = some_is f.final_size (length (wrote f.id).bytes) all };
      carries = all_append (λ e. (wrote e.0).reset ≡ Some e.1) d.sent.reset_stream ((f.id, f.code) ∷ []) t.carries (code, tt);
    }
sound wrote d t f goes = record { says = tt; carries = t.carries }

-- frames of control that go say so
pub control_frames_say : (wrote : ℕ → Wrote) (most : ℕ) (d : Draft) → TellsResets wrote d → TellsResets wrote (with_control_frames most d)
control_frames_say wrote most d t = by_control most (TellsResets wrote) (record {
  drops = λ d kind e es is due t. record { holds = t.holds; waits = without_says wrote kind d.pending t.waits; carries = t.carries; says = t.says };
  sends = λ d kind f is fits t. (
      let s = sound wrote d t f is.says in
      record { holds = by_told (HoldsWritten wrote) (holds_kept wrote) f d.state t.holds; waits = without_says wrote kind d.pending t.waits; carries = s.carries; says = all_append (ResetSays wrote) d.frames (f ∷ []) t.says (s.says, tt) });
}) d t
