-- Each byte that waits on a stream came in a frame, and none waits where the stream is stopped or
-- was reset.
use Rattle.std.proofs.Common.{◌≡◌, ℕ, ◌<◌, ◌≤◌, ◌⊎◌, inl, inr, Bool, true, false, cond, List, [], Option, Some, None, refl, sym, ap, ◌∙◌, arith}
use Rattle.std.specs.Prelude.{◌&&◌, ltb, if◌then◌else◌}
use Rattle.std.specs.Option.{is_some, option_or}
use Rattle.std.proofs.lemmas.Bool.{ltb-true, ltb-false, both_ways}
use Rattle.quic_wire_core.specs.declared.stream_id.Side.{Side}
use Rattle.quic_parameters.specs.Parameters.{ParameterValues}
use Rattle.quic_wire.specs.Value.{StreamValue, ResetStreamValue}
use Rattle.quic_assembler.specs.Arrived.{IsLawful, byte_at, waits, is_given, given_by, left_front, left_by, after_read, after_read_in, in_chunk}
use Rattle.quic_assembler.proofs.Arrived.Lawful.{insert_bytes, insert_lawful, read_lawful, read_leaves}
use Rattle.quic_assembler.proofs.Parts.Filled.{low_small}
use Rattle.quic_assembler.proofs.Calls.Kept.{order_kept}
use Rattle.quic_sets.specs.Parts.{Part, byte_from}
use Rattle.quic_sets.proofs.Parts.Bytes.{from_below, from_behind}
use Rattle.quic_streams_parts.specs.RecvHalf.{RecvHalf, new_recv_half, end_of, with_offsets_of, with_frame, reset_by, after_frame, after_reset_stream, begun, read_on, stopped_now}
use Rattle.quic_streams_halves.specs.Halves.{Status, unknown, fresh, live, done, idle_status, has_place, no_places}
use Rattle.quic_retransmits.specs.Retransmits.{Retransmits}
use Rattle.quic_streams_state.specs.declared.state.StreamsState.{StreamsState}
use Rattle.quic_streams_state.specs.State.{Receiving, new_streams, after_set_params, receiving_half, receives_on, is_opened}
use Rattle.quic_streams_state.specs.Taking.{after_stream, after_reset_frame}
use Rattle.quic_streams_laws.specs.Keeping.{KeepsBy}
use Rattle.quic_streams_laws.specs.KeepingLaws.{Unbroken, by_stream, by_reset_frame, by_read_begun, by_next, by_stop, by_received_reset}
use Rattle.quic_streams_laws.specs.Content.{AllReceiving}
use Rattle.quic_streams_laws.specs.ContentLaws.{by_next_answer}
use Rattle.quic_streams_laws.specs.StatusLaws.{GoesOn, each_kept, said_of_each, at_half_of}
use Rattle.quic_streams_laws.specs.QuietLaws.{is_quiet}
use Rattle.quic_streams_laws.specs.StartLaws.{shape_new, shape_set_params}
use Rattle.quic_headline.proofs.Halves.ReadCalls.{IsKept}

-- nothing is taken on a half any more
abbrev pub IsIdle : RecvHalf → Type 0
IsIdle h = (h.stopped ≡ true) ⊎ (is_some h.reset ≡ true)

-- what waits of a half came, and nothing waits of one on which nothing is taken any more
pub record IsComeHalf (came : ℕ → Type 0) (h : RecvHalf) : Type 0 where
  pub lawful : IsLawful h.arrived
  pub waiting : (o : ℕ) → waits h.arrived.parts o ≡ true → came o
  pub idle : IsIdle h → h.arrived.parts ≡ []

-- the same of a half that is in use
abbrev pub IsComeStatus : (ℕ → Type 0) → Status RecvHalf → Type 0
IsComeStatus came unknown = Unit {0}
IsComeStatus came fresh = Unit {0}
IsComeStatus came (live h) = IsComeHalf came h
IsComeStatus came done = Unit {0}

-- of each stream
abbrev pub HasCome : (ℕ → ℕ → Type 0) → StreamsState → Type 0
HasCome came s = AllReceiving (λ id x. IsComeStatus (came id) x) s

nothing_waits : (o : ℕ) → waits [] o ≡ true → ⊥
nothing_waits o w = cc

-- ---- one half

pub come_new : (came : ℕ → Type 0) (window : ℕ) → IsComeHalf came (new_recv_half window)
come_new came window = record {
  lawful = record { apart = omega arith; spans = omega arith; others = λ o e. refl; order = λ e. refl };
  waiting = λ o w. absurd (nothing_waits o w);
  idle = λ x. refl;
}

come_begun : (came : ℕ → Type 0) (h : RecvHalf) → IsComeHalf came h → IsComeHalf came (begun h false)
come_begun came h c = record { lawful = order_kept h.arrived false c.lawful; waiting = c.waiting; idle = c.idle }

-- a half from which nothing waits any more
cleared_lawful : (h : RecvHalf) → IsLawful h.arrived → IsLawful (stopped_now h).arrived
cleared_lawful h l = record { apart = low_small h.arrived.read h.arrived.parts l.apart; spans = l.spans; others = λ o e. refl; order = l.order }

come_stopped : (came : ℕ → Type 0) (h : RecvHalf) → IsComeHalf came h → IsComeHalf came (stopped_now h)
come_stopped came h c = record { lawful = cleared_lawful h c.lawful; waiting = λ o w. absurd (nothing_waits o w); idle = λ x. refl }

come_reset : (came : ℕ → Type 0) (h : RecvHalf) (code size : ℕ) → IsComeHalf came h → IsComeHalf came (after_reset_stream h code size)
come_reset came h code size c = go h.stopped (is_some h.reset) refl
  where
    go : (a b : Bool) → h.stopped ≡ a → IsComeHalf came (if a then record h { seen = size; final = Some size } else (if b then h else reset_by h code size))
    go true b is = record { lawful = c.lawful; waiting = c.waiting; idle = λ x. c.idle (inl is) }
    go false true is = c
    go false false is = record { lawful = cleared_lawful h c.lawful; waiting = λ o w. absurd (nothing_waits o w); idle = λ x. refl }

-- reading on takes what waits away
come_read : (came : ℕ → Type 0) (h : RecvHalf) (most : ℕ) → IsComeHalf came h → IsComeHalf came (read_on h most)
come_read came h most i = record {
  lawful = read_lawful h.arrived most i.lawful;
  waiting = λ o w. i.waiting o (left o (in_chunk (given_by h.arrived most) o) refl w);
  idle = λ x. empty h.arrived.unordered (i.idle x);
}
  where
    left : (o : ℕ) (b : Bool) → in_chunk (given_by h.arrived most) o ≡ b → waits (after_read h.arrived most).parts o ≡ true → waits h.arrived.parts o ≡ true
    left o true q w = let gone : waits (after_read h.arrived most).parts o ≡ false = ap is_some (read_leaves h.arrived most o i.lawful ∙ ap (λ b. cond b None (byte_at h.arrived.parts o)) q) in absurd (both_ways (waits (after_read h.arrived most).parts o) gone w)
    left o false q w = let same : waits (after_read h.arrived most).parts o ≡ waits h.arrived.parts o = ap is_some (read_leaves h.arrived most o i.lawful ∙ ap (λ b. cond b None (byte_at h.arrived.parts o)) q) in sym same ∙ w

    empty : (u : Bool) → h.arrived.parts ≡ [] → (after_read_in u h.arrived most).parts ≡ []
    empty true e = ap (λ (ps : List Part). left_front ps most) e
    empty false e = ap (λ (ps : List Part). left_by ps h.arrived.read most) e

-- a frame: what waits came before, or stands in it
pub come_frame : (came more : ℕ → Type 0) (r : Receiving) (h : RecvHalf) (f : StreamValue) → ((o : ℕ) → came o → more o) → ((o : ℕ) → f.offset ≤ o → o < end_of f → more o) → Unbroken r h (end_of f) f.fin → IsComeHalf came h → IsComeHalf more (after_frame h f)
come_frame came more r h f wider brings u c = go h.stopped (is_some h.reset) refl refl
  where
    was : IsComeHalf more h
    was = record { lawful = c.lawful; waiting = λ o w. wider o (c.waiting o w); idle = c.idle }

    either : (g : Bool) (x y : Option ℕ) → is_some (cond g None (option_or x y)) ≡ true → (is_some x ≡ true) ⊎ (is_some y ≡ true)
    either true x y e = cc
    either false (Some b) y e = inl refl
    either false None y e = inr e

    within : (o : ℕ) → is_some (byte_from f.offset f.bytes o) ≡ true → (f.offset ≤ o) × (o < end_of f)
    within o e = (low (ltb o f.offset) refl, high (ltb o (end_of f)) refl)
      where
        none : byte_from f.offset f.bytes o ≡ None → ⊥
        none n = both_ways (is_some (byte_from f.offset f.bytes o)) (ap is_some n) e

        low : (b : Bool) → ltb o f.offset ≡ b → f.offset ≤ o
        low true q = absurd (none (from_below f.offset f.bytes o (ltb-true o f.offset q)))
        low false q = ltb-false o f.offset q

        high : (b : Bool) → ltb o (end_of f) ≡ b → o < end_of f
        high true q = ltb-true o (end_of f) q
        high false q = absurd (none (from_behind f.offset f.bytes o (ltb-false o (end_of f) q)))

    go : (a b : Bool) → h.stopped ≡ a → is_some h.reset ≡ b → IsComeHalf more (if a then with_offsets_of h f else (if b then h else with_frame h f))
    go true b is e = record { lawful = c.lawful; waiting = was.waiting; idle = λ x. c.idle (inl is) }
    go false true is e = was
    go false false is e = record {
      lawful = insert_lawful h.arrived f.offset f.bytes c.lawful u.small;
      waiting = λ o w. elim (either (is_given h.arrived o) (byte_at h.arrived.parts o) (byte_from f.offset f.bytes o) (sym (ap is_some (insert_bytes h.arrived f.offset f.bytes o c.lawful u.small)) ∙ w)) [
        | inl before ↦ wider o (c.waiting o before)
        | inr now ↦ (let w = within o now in brings o w.0 w.1)
      ];
      idle = λ x. absurd (neither x);
    }
      where
        neither : IsIdle (with_frame h f) → ⊥
        neither (inl s) = both_ways h.stopped is s
        neither (inr s) = both_ways (is_some h.reset) e s

-- ---- streams

goes_on_come : (came : ℕ → ℕ → Type 0) → GoesOn (λ id x. IsComeStatus (came id) x)
goes_on_come came = record {
  opens = λ id c. c;
  comes = λ id window c. come_new (came id) window;
  told = λ id h n c. record { lawful = c.lawful; waiting = c.waiting; idle = c.idle };
  ends = λ id h c. tt;
}

-- every small change keeps it that keeps it at the half that changes
pub come_kept : (came : ℕ → ℕ → Type 0) → KeepsBy (λ r id old new. IsComeHalf (came id) old → IsComeHalf (came id) new) (λ s id old new. Unit {0}) (λ s id n old new. Unit {0}) (HasCome came)
come_kept came = each_kept (λ id x. IsComeStatus (came id) x) (goes_on_come came)

-- what holds of a half that there is
pub come_at : (came : ℕ → ℕ → Type 0) (s : StreamsState) (id : ℕ) (h : RecvHalf) → receiving_half s id ≡ Some h → HasCome came s → IsComeHalf (came id) h
come_at came s id h is i = at_half_of (λ q x. IsComeStatus (came q) x) (goes_on_come came) s id h is i

-- what came before came still
pub come_wider : (came more : ℕ → ℕ → Type 0) (s : StreamsState) → ((id o : ℕ) → came id o → more id o) → HasCome came s → HasCome more s
come_wider came more s wider i = said_of_each (λ id x. IsComeStatus (came id) x) (λ id x. IsComeStatus (more id) x) go s i
  where
    go : (id : ℕ) (x : Status RecvHalf) → IsComeStatus (came id) x → IsComeStatus (more id) x
    go id unknown c = c
    go id fresh c = c
    go id (live h) c = record { lawful = c.lawful; waiting = λ o w. wider id o (c.waiting o w); idle = c.idle }
    go id done c = c

-- a STREAM frame comes
pub come_stream : (came more : ℕ → ℕ → Type 0) (s : StreamsState) (p : Retransmits) (f : StreamValue) → ((id o : ℕ) → came id o → more id o) → ((o : ℕ) → f.offset ≤ o → o < end_of f → more f.id o) → HasCome came s → HasCome more (after_stream s p f).state
come_stream came more s p f wider brings i = by_stream (HasCome more) (come_kept more) s p f (λ h part u c. come_frame (more f.id) (more f.id) s.receiving h f (λ o m. m) brings u c) (come_wider came more s wider i)

module _ (came : ℕ → ℕ → Type 0) where
  pub come_reset_frame : (s : StreamsState) (p : Retransmits) (f : ResetStreamValue) → HasCome came s → HasCome came (after_reset_frame s p f).state
  come_reset_frame s p f i = by_reset_frame (HasCome came) (come_kept came) s p f (λ h e u c. come_reset (came f.id) h f.code f.final_size c) i

  -- calls that read
  pub come_kept_calls : IsKept (HasCome came)
  come_kept_calls = record {
    quiet = is_quiet (HasCome came) (come_kept came);
    begun = λ s id ordered i. by_read_begun (HasCome came) (come_kept came) s id ordered (λ h e c. come_begun (came id) h c) i;
    next = λ told s id most answer is i. by_next_answer (HasCome came) told s id most answer is (by_next (HasCome came) (come_kept came) told s id most (λ h c e f j. come_read (came id) h most j) i) i;
    stop = λ s p id code i. by_stop (HasCome came) (come_kept came) s p id code (λ h e c. come_stopped (came id) h c) i;
    received_reset = λ s p id i. by_received_reset (HasCome came) (come_kept came) s p id i;
  }

  -- at the start nothing waits
  pub come_first : (side : Side) (uni bi send_window window stream_window : ℕ) (p : ParameterValues) → HasCome came (after_set_params (new_streams side uni bi send_window window stream_window) p)
  come_first side uni bi send_window window stream_window p = record {
    shape = shape_set_params (new_streams side uni bi send_window window stream_window) p (shape_new side uni bi send_window window stream_window);
    each = λ id. go id (receives_on side id && is_opened (new_streams side uni bi send_window window stream_window) id) (has_place side no_places id);
  }
    where
      go : (id : ℕ) (opened used : Bool) → IsComeStatus (came id) (idle_status opened used)
      go id false used = tt
      go id true false = tt
      go id true true = tt
