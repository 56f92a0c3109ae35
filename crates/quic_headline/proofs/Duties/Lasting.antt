-- What holds of the receiving half of a stream by how far it has come, whatever comes, is read or
-- is stopped, lasts; and so it is of limits: that one was said, and that it matters no more.
use Rattle.std.proofs.Common.{◌≡◌, ℕ, Bool, true, false, not, ◌||◌, List, Option, Some, refl}
use Rattle.std.specs.Prelude.{if◌then◌else◌}
use Rattle.std.specs.Option.{is_some}
use Rattle.quic_wire.specs.Value.{FrameValue, StreamValue}
use Rattle.quic_streams_parts.specs.RecvHalf.{RecvHalf, takes_limits, end_of, after_frame, with_offsets_of, with_frame, after_reset_stream, reset_by, begun, read_on, stopped_now}
use Rattle.quic_streams_halves.specs.Halves.{Status, unknown, fresh, live, done}
use Rattle.quic_streams_state.specs.declared.state.StreamsState.{StreamsState}
use Rattle.quic_streams_state.specs.Control.{frame_told}
use Rattle.quic_streams_laws.specs.Keeping.{KeepsBy}
use Rattle.quic_streams_laws.specs.KeepingLaws.{by_accept, by_read_begun, by_next, by_stop, by_received_reset, by_stream, by_reset_frame}
use Rattle.quic_streams_laws.specs.QuietLaws.{is_quiet, by_told}
use Rattle.quic_streams_laws.specs.Quiet.{IsSentWithin}
use Rattle.quic_streams_laws.specs.Content.{AllReceiving}
use Rattle.quic_streams_laws.specs.ContentLaws.{by_next_answer}
use Rattle.quic_streams_laws.specs.StatusLaws.{GoesOn, each_kept}
use Rattle.quic_machine.specs.declared.run.Call.{Call}
use Rattle.quic_machine.specs.declared.run.Answer.{Answer}
use Rattle.quic_machine.specs.Policy.{Policy}
use Rattle.quic_machine.specs.End.{End}
use Rattle.quic_machine.specs.Receive.{take_frame}
use Rattle.quic_machine.specs.CallCases.{is_delivery}
use Rattle.quic_machine.specs.Machine.{IsAnswer, after_call}
use Rattle.quic_headline.specs.Duties.{Limited, AllData, StreamData, StreamCount}
use Rattle.quic_headline.proofs.Halves.QuietSteps.{frame_quiet}
use Rattle.quic_headline.proofs.Halves.ReadCalls.{IsKept, call_kept}

-- ---- what lasts

-- a fact of halves that goes on as streams do, whatever comes of a half, is read or is stopped
pub record Lasts (Q : ℕ → Status RecvHalf → Type 0) : Type 0 where
  pub goes : GoesOn Q
  pub frame : (id : ℕ) (h : RecvHalf) (f : StreamValue) → Q id (live h) → Q id (live (after_frame h f))
  pub reset : (id : ℕ) (h : RecvHalf) (code size : ℕ) → Q id (live h) → Q id (live (after_reset_stream h code size))
  pub begins : (id : ℕ) (h : RecvHalf) → Q id (live h) → Q id (live (begun h false))
  pub read : (id : ℕ) (h : RecvHalf) (most : ℕ) → Q id (live h) → Q id (live (read_on h most))
  pub stopped : (id : ℕ) (h : RecvHalf) → Q id (live h) → Q id (live (stopped_now h))

module _ (Q : ℕ → Status RecvHalf → Type 0) (l : Lasts Q) where
  abbrev P : StreamsState → Type 0
  P = AllReceiving Q

  pub lasting : KeepsBy (λ r id old new. Q id (live old) → Q id (live new)) (λ s id old new. Unit {0}) (λ s id n old new. Unit {0}) (AllReceiving Q)
  lasting = each_kept Q l.goes

  calls_last : IsKept (AllReceiving Q)
  calls_last = record {
    quiet = is_quiet P lasting;
    begun = λ s id ordered i. by_read_begun P lasting s id ordered (λ h e was. l.begins id h was) i;
    next = λ told s id most answer is i. by_next_answer P told s id most answer is (by_next P lasting told s id most (λ h c e f was. l.read id h most was) i) i;
    stop = λ s p id code i. by_stop P lasting s p id code (λ h e was. l.stopped id h was) i;
    received_reset = λ s p id i. by_received_reset P lasting s p id i;
  }

  -- it stays with any call but a delivery
  pub call_lasts : (p : Policy) (e : End) (theirs : List (List ℕ)) (call : Call) (a : Answer) → ((id : ℕ) → IsSentWithin e.streams id) → is_delivery call ≡ false → IsAnswer p e theirs call a → AllReceiving Q e.streams → AllReceiving Q (after_call p e theirs call a).streams
  call_lasts p e theirs call a within apart is i = call_kept P calls_last p e theirs within i call a is apart (λ dir same. by_accept P lasting dir e.streams (λ may. may) i)

  -- with any frame
  pub frame_lasts : (f : FrameValue) (e : End) → AllReceiving Q e.streams → AllReceiving Q (take_frame f e).end.streams
  frame_lasts f e i = frame_quiet P (is_quiet P lasting) f e
      (λ g is. by_stream P lasting e.streams e.waiting.frames g (λ h a u was. l.frame g.id h g was) i)
      (λ g is. by_reset_frame P lasting e.streams e.waiting.frames g (λ h a u was. l.reset g.id h g.code g.final_size was) i)
      i

  -- and once a frame of control went
  pub told_lasts : (f : FrameValue) (s : StreamsState) → AllReceiving Q s → AllReceiving Q (frame_told f s)
  told_lasts f s i = by_told P lasting f s i

-- ---- limits

-- a half that was in use, of which this is so while it is
abbrev pub WasUsed : (RecvHalf → Type 0) → Status RecvHalf → Type 0
WasUsed F unknown = ⊥
WasUsed F fresh = ⊥
WasUsed F (live h) = F h
WasUsed F done = Unit {0}

-- of the limit of a stream that was said: the half was in use
abbrev pub Knows : Limited → ℕ → Status RecvHalf → Type 0
Knows AllData j x = Unit {0}
Knows (StreamData id) j x = j ≡ id → WasUsed (λ h. Unit {0}) x
Knows (StreamCount dir) j x = Unit {0}

-- it matters no more: the half takes none, or is done
abbrev pub Ends : Limited → ℕ → Status RecvHalf → Type 0
Ends AllData j x = ⊥
Ends (StreamData id) j x = j ≡ id → WasUsed (λ h. takes_limits h ≡ false) x
Ends (StreamCount dir) j x = ⊥

pub knows_lasts : (what : Limited) → Lasts (Knows what)
knows_lasts AllData = record {
  goes = record { opens = λ j i. i; comes = λ j window i. i; told = λ j h n i. i; ends = λ j h i. i };
  frame = λ j h f i. i;
  reset = λ j h code size i. i;
  begins = λ j h i. i;
  read = λ j h most i. i;
  stopped = λ j h i. i;
}
knows_lasts (StreamData id) = record {
  goes = record { opens = λ j i same. i same; comes = λ j window i same. tt; told = λ j h n i same. tt; ends = λ j h i same. tt };
  frame = λ j h f i same. tt;
  reset = λ j h code size i same. tt;
  begins = λ j h i same. tt;
  read = λ j h most i same. tt;
  stopped = λ j h i same. tt;
}
knows_lasts (StreamCount dir) = record {
  goes = record { opens = λ j i. i; comes = λ j window i. i; told = λ j h n i. i; ends = λ j h i. i };
  frame = λ j h f i. i;
  reset = λ j h code size i. i;
  begins = λ j h i. i;
  read = λ j h most i. i;
  stopped = λ j h i. i;
}

-- a half takes no more limits with its end known or not
more_known : (stopped fin : Bool) (size : ℕ) (o : Option ℕ) → not (stopped || is_some o) ≡ false → not (stopped || is_some (if fin then Some size else o)) ≡ false
more_known true fin size o is = refl
more_known false true size o is = refl
more_known false false size o is = is

frame_takes : (h : RecvHalf) (f : StreamValue) → takes_limits h ≡ false → takes_limits (after_frame h f) ≡ false
frame_takes h f is = go h.stopped (is_some h.reset)
  where
    go : (a b : Bool) → takes_limits (if a then with_offsets_of h f else (if b then h else with_frame h f)) ≡ false
    go true b = more_known h.stopped f.fin (end_of f) h.final is
    go false true = is
    go false false = more_known h.stopped f.fin (end_of f) h.final is

reset_takes : (h : RecvHalf) (code size : ℕ) → takes_limits h ≡ false → takes_limits (after_reset_stream h code size) ≡ false
reset_takes h code size is = go h.stopped (is_some h.reset)
  where
    go : (a b : Bool) → takes_limits (if a then record h { seen = size; final = Some size } else (if b then h else reset_by h code size)) ≡ false
    go true b = more_known h.stopped true size h.final is
    go false true = is
    go false false = more_known h.stopped true size h.final is

pub ends_lasts : (what : Limited) → Lasts (Ends what)
ends_lasts AllData = record {
  goes = record { opens = λ j i. i; comes = λ j window i. i; told = λ j h n i. i; ends = λ j h i. absurd i };
  frame = λ j h f i. i;
  reset = λ j h code size i. i;
  begins = λ j h i. i;
  read = λ j h most i. i;
  stopped = λ j h i. i;
}
ends_lasts (StreamData id) = record {
  goes = record { opens = λ j i same. i same; comes = λ j window i same. absurd (i same); told = λ j h n i same. i same; ends = λ j h i same. tt };
  frame = λ j h f i same. frame_takes h f (i same);
  reset = λ j h code size i same. reset_takes h code size (i same);
  begins = λ j h i same. i same;
  read = λ j h most i same. i same;
  stopped = λ j h i same. refl;
}
ends_lasts (StreamCount dir) = record {
  goes = record { opens = λ j i. i; comes = λ j window i. i; told = λ j h n i. i; ends = λ j h i. absurd i };
  frame = λ j h f i. i;
  reset = λ j h code size i. i;
  begins = λ j h i. i;
  read = λ j h most i. i;
  stopped = λ j h i. i;
}
