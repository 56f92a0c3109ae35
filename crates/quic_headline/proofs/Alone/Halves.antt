-- Each byte that waits of a stream came: a fact of receiving halves, whatever comes and whatever is
-- read.
use Rattle.std.proofs.Common.{◌≡◌, ℕ, ◌+◌, ◌^◌, ◌<◌, Bool, true, false, cond, length, Option, Some, None, Result, Ok, refl, sym, ◌∙◌, subst, arith}
use Rattle.std.specs.Prelude.{◌&&◌, if◌then◌else◌, slice_get}
use Rattle.std.specs.Option.{is_some, option_or, IfSome}
use Rattle.std.proofs.lemmas.Option.{slice_get_within}
use Rattle.quic_wire_core.specs.declared.stream_id.Side.{Side}
use Rattle.quic_wire.specs.Value.{StreamValue, ResetStreamValue}
use Rattle.quic_parameters.specs.Parameters.{ParameterValues}
use Rattle.quic_sets.specs.Parts.{byte_from}
use Rattle.quic_assembler.specs.declared.assembler.Chunk.{Chunk}
use Rattle.quic_assembler.specs.Arrived.{IsLawful, byte_at, is_given, in_chunk, given_by}
use Rattle.quic_assembler.proofs.Arrived.Lawful.{insert_bytes, insert_lawful, read_lawful, read_leaves, given_bytes}
use Rattle.quic_assembler.proofs.Parts.Filled.{low_small}
use Rattle.quic_assembler.proofs.Calls.Kept.{order_kept}
use Rattle.quic_streams_parts.specs.declared.answers.ReadError.{ReadError}
use Rattle.quic_streams_parts.specs.SendHalf.{SendHalf, Queued}
use Rattle.quic_streams_parts.specs.RecvHalf.{RecvHalf, new_recv_half, end_of, with_offsets_of, with_frame, reset_by, after_frame, after_reset_stream, begun, read_on, stopped_now, next_of}
use Rattle.quic_streams_halves.specs.Halves.{Status, unknown, fresh, live, done, no_places, has_place, idle_status}
use Rattle.quic_retransmits.specs.Retransmits.{Retransmits}
use Rattle.quic_streams_state.specs.declared.state.StreamsState.{StreamsState}
use Rattle.quic_streams_state.specs.State.{new_streams, after_set_params, sending_half, receiving_half, is_opened, receives_on}
use Rattle.quic_streams_state.specs.Sends.{with_queued}
use Rattle.quic_streams_state.specs.Taking.{after_stream, after_reset_frame}
use Rattle.quic_streams_state.specs.Reading.{Told, told_bytes, told_end, told_reset, next_at, next_answer, after_read_begun, after_next, after_stop}
use Rattle.quic_streams_laws.specs.Keeping.{KeepsBy}
use Rattle.quic_streams_laws.specs.KeepingLaws.{by_stream, by_reset_frame, by_read_begun, by_next, by_stop}
use Rattle.quic_streams_laws.specs.StartLaws.{shape_new, shape_set_params}
use Rattle.quic_streams_laws.specs.ShapeLaws.{sends_with}
use Rattle.quic_streams_laws.specs.HalfLaws.{next_gave}
use Rattle.quic_streams_laws.specs.Content.{AllReceiving, IsNextAnswer}
use Rattle.quic_streams_laws.specs.ContentLaws.{by_next_answer}
use Rattle.quic_streams_laws.specs.StatusLaws.{GoesOn, each_kept, at_half_of}

-- ---- one half

-- each byte that waits came
pub record HasCome (came : ℕ → ℕ → Type 0) (h : RecvHalf) : Type 0 where
  pub lawful : IsLawful h.arrived
  pub bytes : (o b : ℕ) → byte_at h.arrived.parts o ≡ Some b → came o b

module _ (came : ℕ → ℕ → Type 0) where
  -- on a half on which nothing was done none waits
  come_new : (window : ℕ) → HasCome came (new_recv_half window)
  come_new window = record { lawful = record { apart = omega arith; spans = omega arith; others = λ o e. refl; order = λ e. refl }; bytes = λ o b e. cc }

  -- whatever limit the peer was told
  come_told : (h : RecvHalf) (n : ℕ) → HasCome came h → HasCome came (record h { announced = n })
  come_told h n i = record { lawful = i.lawful; bytes = i.bytes }

  -- where a read begins
  come_begun : (h : RecvHalf) → HasCome came h → HasCome came (begun h false)
  come_begun h i = record { lawful = order_kept h.arrived false i.lawful; bytes = i.bytes }

  -- nothing waits on one that is stopped
  come_stopped : (h : RecvHalf) → HasCome came h → HasCome came (stopped_now h)
  come_stopped h i = record {
    lawful = record { apart = low_small h.arrived.read h.arrived.parts i.lawful.apart; spans = i.lawful.spans; others = λ o e. refl; order = i.lawful.order };
    bytes = λ o b e. cc;
  }

  -- nor on one that the peer reset
  come_reset : (h : RecvHalf) (code size : ℕ) → HasCome came h → HasCome came (after_reset_stream h code size)
  come_reset h code size i = go h.stopped (is_some h.reset)
    where
      go : (a b : Bool) → HasCome came (if a then record h { seen = size; final = Some size } else (if b then h else reset_by h code size))
      go true b = record { lawful = i.lawful; bytes = i.bytes }
      go false true = i
      go false false = record {
        lawful = record { apart = low_small h.arrived.read h.arrived.parts i.lawful.apart; spans = i.lawful.spans; others = λ o e. refl; order = i.lawful.order };
        bytes = λ o b e. cc;
      }

  -- what a read leaves waited before
  come_read : (h : RecvHalf) (most : ℕ) → HasCome came h → HasCome came (read_on h most)
  come_read h most i = record {
    lawful = read_lawful h.arrived most i.lawful;
    bytes = λ o b e. i.bytes o b (left (in_chunk (given_by h.arrived most) o) (byte_at h.arrived.parts o) b (sym (read_leaves h.arrived most o i.lawful) ∙ e));
  }
    where
      left : (x : Bool) (y : Option ℕ) (b : ℕ) → cond x None y ≡ Some b → y ≡ Some b
      left true y b e = cc
      left false y b e = e

  -- what a frame brings came, and stands where nothing stood
  come_frame : (h : RecvHalf) (f : StreamValue) → ((o b : ℕ) → byte_from f.offset f.bytes o ≡ Some b → came o b) → end_of f < 2 ^ 62 → HasCome came h → HasCome came (after_frame h f)
  come_frame h f brings small i = go h.stopped (is_some h.reset)
    where
      one_of : (low : Bool) (x y : Option ℕ) (o : ℕ) → ((b : ℕ) → x ≡ Some b → came o b) → ((b : ℕ) → y ≡ Some b → came o b) → (b : ℕ) → cond low None (option_or x y) ≡ Some b → came o b
      one_of true x y o was comes b e = cc
      one_of false None y o was comes b e = comes b e
      one_of false (Some a) y o was comes b e = was b e

      go : (a b : Bool) → HasCome came (if a then with_offsets_of h f else (if b then h else with_frame h f))
      go true b = record { lawful = i.lawful; bytes = i.bytes }
      go false true = i
      go false false = record {
        lawful = insert_lawful h.arrived f.offset f.bytes i.lawful small;
        bytes = λ o b e. one_of (is_given h.arrived o) (byte_at h.arrived.parts o) (byte_from f.offset f.bytes o) o (i.bytes o) (brings o) b (sym (insert_bytes h.arrived f.offset f.bytes o i.lawful small) ∙ e);
      }

  -- what is given came
  come_given : (h : RecvHalf) (most : ℕ) (c : Chunk) → next_of h most ≡ Ok (Some c) → HasCome came h → (k b : ℕ) → slice_get c.bytes k ≡ Some b → came (c.offset + k) b
  come_given h most c gives i k b is = i.bytes (c.offset + k) b (sym (stood (slice_get_within c.bytes k b is)) ∙ is)
    where
      stood : k < length c.bytes → slice_get c.bytes k ≡ byte_at h.arrived.parts (c.offset + k)
      stood = subst (λ (o : Option Chunk). IfSome o (λ chunk. k < length chunk.bytes → slice_get chunk.bytes k ≡ byte_at h.arrived.parts (chunk.offset + k))) (next_gave h most c gives) (given_bytes h.arrived most k i.lawful)

-- ---- all streams

-- the same by how far the half has come
abbrev pub StatusCame : (ℕ → ℕ → ℕ → Type 0) → ℕ → Status RecvHalf → Type 0
StatusCame came id unknown = Unit {0}
StatusCame came id fresh = Unit {0}
StatusCame came id (live h) = HasCome (came id) h
StatusCame came id done = Unit {0}

-- so of each stream: what waits of it came for it
abbrev pub HoldsCame : (ℕ → ℕ → ℕ → Type 0) → StreamsState → Type 0
HoldsCame came s = AllReceiving (λ id x. StatusCame came id x) s

module _ (came : ℕ → ℕ → ℕ → Type 0) where
  goes_on_came : GoesOn (λ id x. StatusCame came id x)
  goes_on_came = record {
    opens = λ id i. tt;
    comes = λ id window i. come_new (came id) window;
    told = λ id h n i. come_told (came id) h n i;
    ends = λ id h i. tt;
  }

  -- every small change keeps it that keeps it at the half that changes
  pub came_kept : KeepsBy (λ r id old new. HasCome (came id) old → HasCome (came id) new) (λ s id old new. Unit {0}) (λ s id n old new. Unit {0}) (HoldsCame came)
  came_kept = each_kept (λ id x. StatusCame came id x) goes_on_came

  -- of no stream anything waits at the start
  came_new : (side : Side) (uni bi send_window window stream_window : ℕ) → HoldsCame came (new_streams side uni bi send_window window stream_window)
  came_new side uni bi send_window window stream_window = record {
    shape = shape_new side uni bi send_window window stream_window;
    each = λ id. go id (receives_on side id && is_opened (new_streams side uni bi send_window window stream_window) id) (has_place side no_places id);
  }
    where
      go : (id : ℕ) (opened used : Bool) → StatusCame came id (idle_status opened used)
      go id false used = tt
      go id true false = tt
      go id true true = tt

  -- whatever the peer's first limits are
  pub came_first : (side : Side) (uni bi send_window window stream_window : ℕ) (p : ParameterValues) → HoldsCame came (after_set_params (new_streams side uni bi send_window window stream_window) p)
  came_first side uni bi send_window window stream_window p =
      let i = came_new side uni bi send_window window stream_window in
      record { shape = shape_set_params (new_streams side uni bi send_window window stream_window) p i.shape; each = i.each }

  -- ---- what comes, is read and is stopped

  pub came_stream : (s : StreamsState) (p : Retransmits) (f : StreamValue) → ((o b : ℕ) → byte_from f.offset f.bytes o ≡ Some b → came f.id o b) → HoldsCame came s → HoldsCame came (after_stream s p f).state
  came_stream s p f brings i = by_stream (HoldsCame came) came_kept s p f (λ h e u was. come_frame (came f.id) h f brings u.small was) i

  pub came_reset : (s : StreamsState) (p : Retransmits) (f : ResetStreamValue) → HoldsCame came s → HoldsCame came (after_reset_frame s p f).state
  came_reset s p f i = by_reset_frame (HoldsCame came) came_kept s p f (λ h e u was. come_reset (came f.id) h f.code f.final_size was) i

  pub came_begun : (s : StreamsState) (id : ℕ) (ordered : Bool) → HoldsCame came s → HoldsCame came (after_read_begun s id ordered)
  came_begun s id ordered i = by_read_begun (HoldsCame came) came_kept s id ordered (λ h e was. come_begun (came id) h was) i

  pub came_next : (told : Told) (s : StreamsState) (id most : ℕ) (answer : Result (Option Chunk) ReadError) → IsNextAnswer told s id most answer → HoldsCame came s → HoldsCame came (after_next told answer s id most)
  came_next told s id most answer is i = by_next_answer (HoldsCame came) told s id most answer is (by_next (HoldsCame came) came_kept told s id most (λ h c e f was. come_read (came id) h most was) i) i

  pub came_stop : (s : StreamsState) (p : Retransmits) (id code : ℕ) → HoldsCame came s → HoldsCame came (after_stop s p id code).state
  came_stop s p id code i = by_stop (HoldsCame came) came_kept s p id code (λ h e was. come_stopped (came id) h was) i

  -- each byte that a `next` gives came
  pub gives_came : (told : Told) (s : StreamsState) (id most : ℕ) (c : Chunk) → next_answer told s id most ≡ Ok (Some c) → HoldsCame came s → (k b : ℕ) → slice_get c.bytes k ≡ Some b → came id (c.offset + k) b
  gives_came told_end s id most c is i k b at = cc
  gives_came (told_reset code) s id most c is i k b at = cc
  gives_came told_bytes s id most c is i k b at = by_half (receiving_half s id) refl is
    where
      by_half : (o : Option RecvHalf) → receiving_half s id ≡ o → next_at told_bytes o most ≡ Ok (Some c) → came id (c.offset + k) b
      by_half None e f = cc
      by_half (Some h) e f = come_given (came id) h most c f (at_half_of (λ id x. StatusCame came id x) goes_on_came s id h e i) k b at

  -- ---- writes

  -- what is written leaves receiving halves, however much counts as sent
  pub put_leaves : (s : StreamsState) (id : ℕ) (h : SendHalf) (q : Queued) (n : ℕ) → sending_half s id ≡ Some h → HoldsCame came s → HoldsCame came (record s { sending = record (with_queued s.sending s.side id q) { accepted = n } })
  put_leaves s id h q n is i = let w = sends_with s id h q is i.shape in record { shape = record { sending = w.sending; receiving = w.receiving }; each = i.each }
