-- What a datagram makes of an end with its random source, its controller and what it counted, case
-- by case.
use Rattle.std.proofs.Common.{◌≡◌, ◌≢◌, ◌⊎◌, ℕ, ◌+◌, ◌-◌, ◌<◌, ◌≤◌, Bool, true, false, List, [], Option, Some, None, refl, sym, ap, ◌∙◌, subst, arith}
use Rattle.std.specs.Prelude.{Result, Ok, Err, ◌&&◌, ◌==◌, not, length}
use Rattle.rand_core.specs.Stream.{Stream}
use Rattle.quic_wire_core.specs.declared.shared.EcnCodepoint.{EcnCodepoint}
use Rattle.quic_packet.specs.Keys.{Protection, Aead}
use Rattle.quic_packet.specs.Datagram.{Opening}
use Rattle.quic_congestion.specs.Congestion.{Told, Steps}
use Rattle.quic_machine.specs.declared.answers.State.{State}
use Rattle.quic_machine.specs.declared.answers.State.TheVariants as states
use Rattle.quic_machine.specs.declared.answers.DropReason.{DropReason}
use Rattle.quic_machine.specs.declared.answers.Received.{Received}
use Rattle.quic_machine.specs.declared.answers.Received.TheVariants as receives
use Rattle.quic_machine.specs.Arrival.{Arrival, arriving}
use Rattle.quic_machine.specs.Policy.{Policy, keys_policy}
use Rattle.quic_spaces.specs.Numbers.{expected}
use Rattle.quic_machine.specs.IdFrames.{drawn}
use Rattle.quic_machine.specs.Opens.{head}
use Rattle.quic_machine.specs.Calls.{is_open}
use Rattle.quic_machine.specs.Migration.{is_there, is_foreign, migrates, migrated, has_moved, pacing_moved, repaced}
use Rattle.quic_machine.specs.Heard.{Heard, is_last, heard_answer, heard_moved, received_if, heard_datagram}
use Rattle.quic_machine.specs.Control.{with_pacing}
use Rattle.quic_machine.specs.Lacking.{TakesFrames}
use Rattle.quic_machine.specs.End.{End, ConnectionValue, HasFailed, with_end, hearing, drawing, policy_of, words_drawn}
use Rattle.quic_machine.specs.Receive.{Outcome, dropped, opened_to, unopened_in, is_read, is_taken, drawn_if, with_ids_drawn, has_migrated, migrated_if, with_migration, headed, opening, received_in, received, told_opened, told_headed, told_received_in, told_received}
use Rattle.quic_connection_parts.specs.Drawn.{words_of, after_words, Draws}
use Rattle.quic_connection_parts.specs.Telling.{telling, taking, windows_of}
use Rattle.quic_connection_core.proofs.Counted.{head_kept, opened_kept}
use Rattle.quic_connection_core.proofs.Drawn.{opened_words}
use Rattle.quic_connection_core.proofs.Migrated.{unmoved, moved_on, opened_stays, unopened_stays, drawn_stays, opened_above, migrated_next}
use Rattle.quic_connection_core.proofs.Receiving.{last_unread, received_headed, told_received_headed, received_unopened, told_unopened, received_opened, told_received_opened}

-- a packet that doesn't open comes to the same wherever it came from, and whatever its mark
pub unopened_unmarked : (s : State) (b : Bool) (now here there : ℕ) (one other : Option EcnCodepoint) (last : Bool) (e : End) → unopened_in s b (arriving now here one last) e ≡ unopened_in s b (arriving now there other last) e
unopened_unmarked states.Open true now here there one other last e = refl
unopened_unmarked states.Open false now here there one other last e = refl
unopened_unmarked states.Closing b now here there one other last e = refl
unopened_unmarked states.Drained b now here there one other last e = refl
unopened_unmarked states.Failed b now here there one other last e = refl

-- no word is drawn for it
unopened_words : (s : State) (b : Bool) (arrival : Arrival) (e : End) → words_drawn (unopened_in s b arrival e).end ≡ words_drawn e
unopened_words states.Open true arrival e = refl
unopened_words states.Open false arrival e = refl
unopened_words states.Closing b arrival e = refl
unopened_words states.Drained b arrival e = refl
unopened_words states.Failed b arrival e = refl

-- and memory doesn't lack
pub unopened_serves : (s : State) (b : Bool) (arrival : Arrival) (e : End) → (unopened_in s b arrival e).answer ≢ receives.Failed
unopened_serves states.Open true arrival e is = cc
unopened_serves states.Open false arrival e is = cc
unopened_serves states.Closing b arrival e is = cc
unopened_serves states.Drained b arrival e is = cc
unopened_serves states.Failed b arrival e is = cc

-- an answer that says that frames were taken says that memory served
pub read_serves : (a : Received) → is_read a ≡ true → a ≢ receives.Failed
read_serves a reads failed = let both : true ≡ false = sym reads ∙ ap is_read failed in cc

-- where all frames were taken, they were, and else not all
taken_reads : (a : Received) → is_taken a ≡ true → is_read a ≡ true
taken_reads receives.Taken taken = refl
taken_reads (receives.Closed error) taken = absurd cc
taken_reads (receives.Dropped reason) taken = absurd cc
taken_reads receives.Failed taken = absurd cc

unread_untaken : (a : Received) → is_read a ≡ false → is_taken a ≡ false
unread_untaken receives.Taken unread = absurd cc
unread_untaken (receives.Closed error) unread = refl
unread_untaken (receives.Dropped reason) unread = refl
unread_untaken receives.Failed unread = refl

pub taken_is : (a : Received) → is_taken a ≡ true → receives.Taken ≡ a
taken_is receives.Taken taken = refl
taken_is (receives.Closed error) taken = absurd cc
taken_is (receives.Dropped reason) taken = absurd cc
taken_is receives.Failed taken = absurd cc

none_moved : (a b : Bool) → a && (false && b) ≡ false
none_moved true b = refl
none_moved false b = refl

-- ids that are drawn close no end
drawn_open : (b : Bool) (p : Policy) (e : End) → is_open (drawn_if b p e).closing.state ≡ is_open e.closing.state
drawn_open true p e = refl
drawn_open false p e = refl

-- the bytes of a datagram count once, on the path from whose address it came, or on the one that it
-- made
pub heard_once : (here new : Bool) (d : List ℕ) (a : Received) (h : Heard) → heard_answer a (heard_moved new (length d) (received_if here (length d) h)) ≡ heard_datagram here new d a h
heard_once true true d a h = refl
heard_once true false d a h = refl
heard_once false true d a h = refl
heard_once false false d a h = refl

module _ {H K R C : Type 0} (protection : H → Protection) (aead : K → Aead) (seals openings : K → ℕ) (stream : R → Stream) (steps : Steps C) (window : C → ℕ) (w : ConnectionValue H K R C) (now remote : ℕ) (mark : Option EcnCodepoint) (last : Bool) (d : List ℕ) where
  abbrev p : Policy
  p = policy_of protection aead seals openings (words_of stream) w

  -- what the machine says of it
  abbrev came : Outcome
  came = received p w.end (arriving now remote mark last) d

  abbrev told : List Told
  told = told_received p w.end (arriving now remote mark false) d

  -- the end is left so, where this was answered
  abbrev Left : Received → ConnectionValue H K R C → Type 0
  Left a x = x ≡ drawing x.random (taking steps window w (heard_answer a (heard_moved (has_moved w.end came.end) (length d) w.heard)) told came.end)

  -- so it is where the path is the same, and nothing more was counted
  stays_so : has_moved w.end came.end ≡ false → (a : Received) (x : ConnectionValue H K R C) → x ≡ drawing x.random (telling steps (hearing w (heard_answer a w.heard)) told came.end) → Left a x
  stays_so stays a x is =
      is
      ∙ ap (λ (m : Bool). drawing x.random (telling steps (hearing w (heard_answer a (heard_moved m (length d) w.heard))) told (with_pacing came.end (pacing_moved m (windows_of steps window w.control told) came.end)))) (sym stays)

  -- it is dropped, and nothing of the end changes
  dropped_so : (reason : DropReason) → heard_answer (receives.Dropped reason) w.heard ≡ w.heard → told ≡ [] → came ≡ dropped reason w.end → Left (receives.Dropped reason) w
  dropped_so reason same none is =
      stays_so (ap (λ (o : Outcome). has_moved w.end o.end) is ∙ unmoved w.end w.end refl) (receives.Dropped reason) w
      (sym (ap (λ (h : Heard). telling steps (hearing w h) told came.end) same
      ∙ ap (λ (t : List Told). telling steps w t came.end) none
      ∙ ap (λ (o : Outcome). telling steps w [] o.end) is))

  -- an end that is drained or has failed drops all
  module _ (s : State) (reason : DropReason) (drops_all : (q : Policy) (e : End) (arrival : Arrival) → received_in s q e arrival d ≡ dropped reason e) (tells_none : (q : Policy) (e : End) → told_received_in s q e (arriving now remote mark false) d ≡ []) (in_state : w.end.closing.state ≡ s) where
    drops_is : came ≡ dropped reason w.end
    drops_is = ap (λ (x : State). received_in x p w.end (arriving now remote mark last) d) in_state ∙ drops_all p w.end (arriving now remote mark last)

    pub drops_answer : receives.Dropped reason ≡ came.answer
    drops_answer = sym (ap (λ (o : Outcome). o.answer) drops_is)

    pub drops_end : heard_answer (receives.Dropped reason) w.heard ≡ w.heard → Left (receives.Dropped reason) w
    drops_end same = dropped_so reason same (ap (λ (x : State). told_received_in x p w.end (arriving now remote mark false) d) in_state ∙ tells_none p w.end) drops_is

  -- one that is open or closing reads the header
  module _ (takes : (w.end.closing.state ≡ states.Open) ⊎ (w.end.closing.state ≡ states.Closing)) where
    -- which can't be read, or names no own id, or came from where nothing is taken
    module _ (reason : DropReason) (headed_so : head w.end remote d ≡ Err reason) where
      heads_is : came ≡ dropped reason w.end
      heads_is = received_headed p w.end (arriving now remote mark last) d takes ∙ ap (λ (r : Result (List ℕ) DropReason). headed r p w.end (arriving now remote mark last) d) headed_so

      pub heads_answer : receives.Dropped reason ≡ came.answer
      heads_answer = sym (ap (λ (o : Outcome). o.answer) heads_is)

      pub heads_end : Left (receives.Dropped reason) w
      heads_end =
          dropped_so reason (head_kept (is_foreign remote w.end) _ reason w.heard headed_so)
          (told_received_headed p w.end (arriving now remote mark false) d takes ∙ ap (λ (r : Result (List ℕ) DropReason). told_headed r p w.end (arriving now remote mark false) d) headed_so) heads_is

    module _ (id : List ℕ) (headed_so : head w.end remote d ≡ Ok id) where
      -- its packet doesn't open
      module _ (none : opening p w.end d ≡ None) (there : ℕ) (other : Option EcnCodepoint) where
        abbrev refused : Outcome
        refused = unopened_in w.end.closing.state last (arriving now there other last) w.end

        refuses_is : came ≡ refused
        refuses_is = received_unopened p w.end (arriving now remote mark last) d takes id headed_so none ∙ unopened_unmarked w.end.closing.state last now remote there mark other last w.end

        refuses_stays : has_moved w.end came.end ≡ false
        refuses_stays = unmoved w.end came.end (ap (λ (o : Outcome). o.end.path.generation) refuses_is ∙ unopened_stays w.end.closing.state last (arriving now there other last) w.end)

        pub refuses_answer : refused.answer ≡ came.answer
        refuses_answer = sym (ap (λ (o : Outcome). o.answer) refuses_is)

        module _ (a : Received) (x : ConnectionValue H K R C) (is : x ≡ with_end (hearing w (heard_answer a w.heard)) refused.end) where
          pub refuses_end : Left a x
          refuses_end =
              stays_so refuses_stays a x
              (is
              ∙ sym (ap (λ (t : List Told). telling steps (hearing w (heard_answer a w.heard)) t refused.end) (told_unopened p w.end (arriving now remote mark false) d takes id headed_so none))
              ∙ ap (λ (o : Outcome). telling steps (hearing w (heard_answer a w.heard)) told o.end) (sym refuses_is)
              ∙ ap (λ (r : R). drawing r (telling steps (hearing w (heard_answer a w.heard)) told came.end)) (sym (ap (λ (y : ConnectionValue H K R C). y.random) is)))

          pub refuses_random : stream x.random ≡ after_words (words_drawn x.end - words_drawn w.end) (stream w.random)
          refuses_random =
              let same : words_drawn x.end ≡ words_drawn w.end = ap (λ (y : ConnectionValue H K R C). words_drawn y.end) is ∙ unopened_words w.end.closing.state last (arriving now there other last) w.end in
              let none_more : 0 ≡ words_drawn x.end - words_drawn w.end = omega (arith, same) in
              ap (λ (y : ConnectionValue H K R C). stream y.random) is ∙ ap (λ (k : ℕ). after_words k (stream w.random)) none_more

      -- its packet opens
      module _ (o : Opening) (opens : opening p w.end d ≡ Some o) where
        abbrev taken : Outcome
        taken = opened_to o (arriving now remote mark false) w.end

        abbrev out : Outcome
        out = with_ids_drawn p taken

        opened_is : came ≡ with_migration p o remote w.end out
        opened_is = received_opened p w.end (arriving now remote mark last) d takes id headed_so o opens ∙ ap (λ (x : Outcome). with_migration p o remote w.end (with_ids_drawn p x)) (last_unread o now remote mark last false w.end)

        -- where the peer hasn't moved
        stays_is : has_migrated o remote w.end out ≡ false → came.end ≡ out.end
        stays_is stays = ap (λ (x : Outcome). x.end) opened_is ∙ ap (λ (b : Bool). migrated_if b p o remote out.end) stays

        out_stays : out.end.path.generation ≡ w.end.path.generation
        out_stays = drawn_stays (is_read taken.answer) p taken.end ∙ opened_stays o (arriving now remote mark false) w.end

        still : has_migrated o remote w.end out ≡ false → has_moved w.end came.end ≡ false
        still stays = unmoved w.end came.end (ap (λ (e : End). e.path.generation) (stays_is stays) ∙ out_stays)

        told_is : told ≡ told_opened o (arriving now remote mark false) w.end
        told_is = told_received_opened p w.end (arriving now remote mark false) d takes id headed_so o opens

        pub opened_answer : taken.answer ≡ came.answer
        opened_answer = sym (ap (λ (x : Outcome). x.answer) opened_is)

        -- what it came to before ids are drawn
        module _ (a : Received) (answers : a ≡ taken.answer) (x : ConnectionValue H K R C) (is : x ≡ telling steps w (told_opened o (arriving now remote mark false) w.end) taken.end) where
          no_failure : heard_answer a w.heard ≡ w.heard
          no_failure = ap (λ (r : Received). heard_answer r w.heard) answers ∙ opened_kept o (arriving now remote mark false) w.end w.heard

          kept_words : words_drawn x.end ≡ words_drawn w.end
          kept_words = ap (λ (y : ConnectionValue H K R C). words_drawn y.end) is ∙ opened_words o (arriving now remote mark false) w.end

          kept_random : x.random ≡ w.random
          kept_random = ap (λ (y : ConnectionValue H K R C). y.random) is

          -- where its frames weren't taken, that is all
          module _ (unread : is_read a ≡ false) where
            unread_stays : has_migrated o remote w.end out ≡ false
            unread_stays =
                let untaken = unread_untaken taken.answer (sym (ap is_read answers) ∙ unread) in
                ap (λ (b : Bool). migrates o remote w.end && (b && is_open out.end.closing.state)) untaken ∙ none_moved (migrates o remote w.end) (is_open out.end.closing.state)

            unread_is : came.end ≡ taken.end
            unread_is = stays_is unread_stays ∙ ap (λ (b : Bool). drawn_if b p taken.end) (sym (ap is_read answers) ∙ unread)

            pub unread_end : Left a x
            unread_end =
                stays_so (still unread_stays) a x
                (is
                ∙ ap (λ (t : List Told). telling steps w t taken.end) (sym told_is)
                ∙ ap (λ (e : End). telling steps w told e) (sym unread_is)
                ∙ ap (λ (h : Heard). telling steps (hearing w h) told came.end) (sym no_failure)
                ∙ ap (λ (r : R). drawing r (telling steps (hearing w (heard_answer a w.heard)) told came.end)) (sym kept_random))

            pub unread_random : stream x.random ≡ after_words (words_drawn x.end - words_drawn w.end) (stream w.random)
            unread_random =
                let none_more : 0 ≡ words_drawn x.end - words_drawn w.end = omega (arith, kept_words) in
                ap stream kept_random ∙ ap (λ (k : ℕ). after_words k (stream w.random)) none_more

          -- whether the peer moved is said by the answer and by the end before ids are drawn
          pub moves_by : (says moved : Bool) → says ≡ migrates o remote w.end → moved ≡ (says && (is_taken a && is_open x.end.closing.state)) → has_migrated o remote w.end out ≡ moved
          moves_by says moved says_so moved_so =
              ap (λ (b : Bool). migrates o remote w.end && (is_taken taken.answer && b)) (drawn_open (is_read taken.answer) p taken.end ∙ sym (ap (λ (y : ConnectionValue H K R C). is_open y.end.closing.state) is))
              ∙ ap (λ (r : Received). migrates o remote w.end && (is_taken r && is_open x.end.closing.state)) (sym answers)
              ∙ ap (λ (b : Bool). b && (is_taken a && is_open x.end.closing.state)) (sym says_so)
              ∙ sym moved_so

          -- an end that fails behind it fails
          pub fails_behind : (z : ConnectionValue H K R C) → HasFailed x z → HasFailed w z
          fails_behind z failed = record {
            state = failed.state;
            reason = failed.reason;
            keys = failed.keys ∙ ap (λ (v : ConnectionValue H K R C). record v { end = z.end; control = z.control; heard = z.heard }) is;
          }

          -- else ids are drawn behind them
          module _ (reads : is_read a ≡ true) (stays : has_migrated o remote w.end out ≡ false) (y : ConnectionValue H K R C) where
            read_is : came.end ≡ drawn p.words taken.end
            read_is = stays_is stays ∙ ap (λ (b : Bool). drawn_if b p taken.end) (sym (ap is_read answers) ∙ reads)

            same_words : (n : ℕ) → words_of stream x.random (n - words_drawn x.end) ≡ p.words n
            same_words n = ap (λ (r : R). words_of stream r (n - words_drawn x.end)) kept_random ∙ ap (λ (k : ℕ). words_of stream w.random (n - k)) kept_words

            pub read_end : y ≡ drawing y.random (with_end x (drawn (policy_of protection aead seals openings (words_of stream) x).words x.end)) → Left a y
            read_end draws =
                stays_so (still stays) a y
                (draws
                ∙ ap (λ (f : ℕ → ℕ). drawing y.random (with_end x (drawn f x.end))) (λ i n. same_words n i)
                ∙ ap (λ (z : ConnectionValue H K R C). drawing y.random (with_end z (drawn p.words z.end))) is
                ∙ ap (λ (e : End). drawing y.random (telling steps w (told_opened o (arriving now remote mark false) w.end) e)) (sym read_is)
                ∙ ap (λ (t : List Told). drawing y.random (telling steps w t came.end)) (sym told_is)
                ∙ ap (λ (h : Heard). drawing y.random (telling steps (hearing w h) told came.end)) (sym no_failure))

            pub read_random : stream y.random ≡ after_words (words_drawn y.end - words_drawn x.end) (stream x.random) → stream y.random ≡ after_words (words_drawn y.end - words_drawn w.end) (stream w.random)
            read_random more =
                more
                ∙ ap (λ (k : ℕ). after_words (words_drawn y.end - k) (stream x.random)) kept_words
                ∙ ap (λ (r : R). after_words (words_drawn y.end - words_drawn w.end) (stream r)) kept_random

          -- or the peer moved
          module _ (moved : has_migrated o remote w.end out ≡ true) (took : is_taken a ≡ true) where
            moves_is : came.end ≡ migrated p o remote (drawn p.words taken.end)
            moves_is =
                ap (λ (z : Outcome). z.end) opened_is
                ∙ ap (λ (b : Bool). migrated_if b p o remote out.end) moved
                ∙ ap (λ (b : Bool). migrated p o remote (drawn_if b p taken.end)) (sym (ap is_read answers) ∙ taken_reads a took)

            moves_on : has_moved w.end came.end ≡ true
            moves_on = moved_on w.end came.end
                (ap (λ (e : End). e.path.generation) moves_is
                ∙ migrated_next p o remote (drawn p.words taken.end)
                ∙ ap (λ (k : ℕ). k + 1) (opened_stays o (arriving now remote mark false) w.end))

            same_policy : policy_of protection aead seals openings (words_of stream) x ≡ p
            same_policy =
                ap (λ (z : ConnectionValue H K R C). policy_of protection aead seals openings (words_of stream) z) is
                ∙ ap (λ (k : ℕ). keys_policy protection aead seals openings w.keys (λ n. words_of stream w.random (n - k))) (opened_words o (arriving now remote mark false) w.end)

            -- there is room for another path
            pub moves_may : w.end.path.generation ≤ o.number → x.end.path.generation < expected x.end.numbers
            moves_may few =
                let same : x.end.path.generation ≡ w.end.path.generation = ap (λ (z : ConnectionValue H K R C). z.end.path.generation) is ∙ opened_stays o (arriving now remote mark false) w.end in
                let above : o.number < expected x.end.numbers = subst (λ (z : ConnectionValue H K R C). o.number < expected z.end.numbers) (sym is) (opened_above o (arriving now remote mark false) w.end (sym (ap is_taken answers) ∙ took)) in
                omega (arith, few, same, above)

            module _ (y : ConnectionValue H K R C) where
              pub moves_left : (n : ℕ) → n ≡ length d → (let q = policy_of protection aead seals openings (words_of stream) x in let before = drawn q.words x.end in y ≡ drawing y.random (with_end (hearing x (heard_moved true n x.heard)) (repaced (window x.control) before (migrated q o remote before))))
                  → Left receives.Taken y
              moves_left n long goes =
                  goes
                  ∙ ap (λ (k : ℕ). let q = policy_of protection aead seals openings (words_of stream) x in drawing y.random (with_end (hearing x (heard_moved true k x.heard)) (repaced (window x.control) (drawn q.words x.end) (migrated q o remote (drawn q.words x.end))))) long
                  ∙ ap (λ (q : Policy). drawing y.random (with_end (hearing x (heard_moved true (length d) x.heard)) (repaced (window x.control) (drawn q.words x.end) (migrated q o remote (drawn q.words x.end))))) same_policy
                  ∙ ap (λ (z : ConnectionValue H K R C). drawing y.random (with_end (hearing z (heard_moved true (length d) z.heard)) (repaced (window z.control) (drawn p.words z.end) (migrated p o remote (drawn p.words z.end))))) is
                  ∙ ap (λ (e : End). drawing y.random (telling steps (hearing w (heard_moved true (length d) w.heard)) (told_opened o (arriving now remote mark false) w.end) (repaced (windows_of steps window w.control (told_opened o (arriving now remote mark false) w.end)) (drawn p.words taken.end) e))) (sym moves_is)
                  ∙ ap (λ (t : List Told). drawing y.random (telling steps (hearing w (heard_moved true (length d) w.heard)) t (repaced (windows_of steps window w.control t) (drawn p.words taken.end) came.end))) (sym told_is)
                  ∙ ap (λ (k : ℕ). drawing y.random (telling steps (hearing w (heard_moved true (length d) w.heard)) told (with_pacing came.end (pacing_moved (not (came.end.path.generation == k)) (windows_of steps window w.control told) came.end)))) (opened_stays o (arriving now remote mark false) w.end)
                  ∙ ap (λ (m : Bool). drawing y.random (telling steps (hearing w (heard_moved m (length d) w.heard)) told (repaced (windows_of steps window w.control told) w.end came.end))) (sym moves_on)

              pub moves_random : Draws stream x y → stream y.random ≡ after_words (words_drawn y.end - words_drawn w.end) (stream w.random)
              moves_random more =
                  more
                  ∙ ap (λ (k : ℕ). after_words (words_drawn y.end - k) (stream x.random)) kept_words
                  ∙ ap (λ (r : R). after_words (words_drawn y.end - words_drawn w.end) (stream r)) kept_random

-- where memory lacks, frames of a packet that opened were taken
pub opened_lacks : (p : Policy) (e : End) (now remote : ℕ) (mark : Option EcnCodepoint) (d : List ℕ) → ((e.closing.state ≡ states.Open) ⊎ (e.closing.state ≡ states.Closing)) → (id : List ℕ) → head e remote d ≡ Ok id
    → (o : Opening) → opening p e d ≡ Some o → TakesFrames (opened_to o (arriving now remote mark false) e).answer → TakesFrames (received p e (arriving now remote mark false) d).answer
opened_lacks p e now remote mark d takes id headed_so o opens lacks = subst (λ (x : Outcome). TakesFrames x.answer) (sym (received_opened p e (arriving now remote mark false) d takes id headed_so o opens)) lacks

-- the bytes of a datagram count first, and nothing else of the end reads them
module _ {H K R C : Type 0} (protection : H → Protection) (aead : K → Aead) (seals openings : K → ℕ) (stream : R → Stream) (steps : Steps C) (window : C → ℕ) (now remote : ℕ) (mark : Option EcnCodepoint) (d : List ℕ) where
  abbrev came_at : ConnectionValue H K R C → Bool → Outcome
  came_at x last = received (policy_of protection aead seals openings (words_of stream) x) x.end (arriving now remote mark last) d

  abbrev last_at : ConnectionValue H K R C → Bool
  last_at x = is_last (openings x.keys.packet.remote) x.heard

  abbrev told_at : ConnectionValue H K R C → List Told
  told_at x = told_received (policy_of protection aead seals openings (words_of stream) x) x.end (arriving now remote mark false) d

  -- what was counted, and what is left
  abbrev left_at : ConnectionValue H K R C → R → Bool → (Bool → Heard) → ConnectionValue H K R C
  left_at x random last heard = let after = (came_at x last).end in drawing random (taking steps window x (heard (has_moved x.end after)) (told_at x) after)

  module _ (w x : ConnectionValue H K R C) (n : ℕ) (long : n ≡ length d) (counts : x ≡ hearing w (received_if (is_there remote w.end) n w.heard)) where
    abbrev counted : ConnectionValue H K R C
    counted = hearing w (received_if (is_there remote w.end) (length d) w.heard)

    counts_so : x ≡ counted
    counts_so = counts ∙ ap (λ (k : ℕ). hearing w (received_if (is_there remote w.end) k w.heard)) long

    last_same : last_at counted ≡ last_at w
    last_same = go (is_there remote w.end)
      where
        go : (b : Bool) → is_last (openings w.keys.packet.remote) (received_if b (length d) w.heard) ≡ last_at w
        go true = refl
        go false = refl

    pub counted_answer : (came_at x (last_at x)).answer ≡ (came_at w (last_at w)).answer
    counted_answer =
        ap (λ (v : ConnectionValue H K R C). (came_at v (last_at v)).answer) counts_so
        ∙ ap (λ (l : Bool). (came_at w l).answer) last_same

    pub counted_end : (a : Received) (y : ConnectionValue H K R C) → y ≡ left_at x y.random (last_at x) (λ m. heard_answer a (heard_moved m (length d) x.heard)) → y ≡ left_at w y.random (last_at w) (λ m. heard_datagram (is_there remote w.end) m d a w.heard)
    counted_end a y is =
        is
        ∙ ap (λ (v : ConnectionValue H K R C). left_at v y.random (last_at v) (λ m. heard_answer a (heard_moved m (length d) v.heard))) counts_so
        ∙ ap (λ (l : Bool). left_at w y.random l (λ m. heard_answer a (heard_moved m (length d) counted.heard))) last_same
        ∙ ap (λ (h : Heard). drawing y.random (taking steps window w h (told_at w) (came_at w (last_at w)).end)) (heard_once (is_there remote w.end) (has_moved w.end (came_at w (last_at w)).end) d a w.heard)

    pub counted_random : (y : ConnectionValue H K R C) → Draws stream x y → Draws stream w y
    counted_random y draws = subst (λ (v : ConnectionValue H K R C). Draws stream v y) counts_so draws

    pub counted_failed : (y : ConnectionValue H K R C) → HasFailed x y → HasFailed w y
    counted_failed y failed = record {
      state = failed.state;
      reason = failed.reason;
      keys = failed.keys ∙ ap (λ (v : ConnectionValue H K R C). record v { end = y.end; control = y.control; heard = y.heard }) counts_so;
    }

    pub counted_before : x.end.closing.state ≢ states.Failed → w.end.closing.state ≢ states.Failed
    counted_before before = subst (λ (v : ConnectionValue H K R C). v.end.closing.state ≢ states.Failed) counts_so before

    pub counted_lacks : TakesFrames (came_at x false).answer → TakesFrames (came_at w false).answer
    counted_lacks lacks = subst (λ (v : ConnectionValue H K R C). TakesFrames (came_at v false).answer) counts_so lacks
