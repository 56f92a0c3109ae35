-- How many datagrams a call gives: a poll that answers one gives one, and no other call gives any.
use Rattle.std.proofs.Common.{◌≡◌, ℕ, Bool, List, [], length, false, Option, Some, None, refl, sym, ap, ◌∙◌, subst, ◌⊎◌, inl, inr}
use Rattle.std.specs.Prelude.{slice_get, if◌then◌else◌, Err}
use Rattle.quic_machine.specs.declared.run.Delivery.{Delivery}
use Rattle.quic_streams_state.specs.declared.state.StreamsState.{StreamsState}
use Rattle.quic_machine.specs.declared.run.Call.{Call}
use Rattle.quic_machine.specs.declared.run.Call.TheVariants as calls
use Rattle.quic_machine.specs.declared.run.Answer.{Answer}
use Rattle.quic_machine.specs.declared.run.Answer.TheVariants as answers
use Rattle.quic_machine.specs.Policy.{Policy}
use Rattle.quic_machine.specs.Opens.{would_open}
use Rattle.quic_machine.specs.Calls.{is_open}
use Rattle.quic_machine.specs.StreamCalls.{IsRead, IsStreamAnswer}
use Rattle.quic_machine.specs.End.{End}
use Rattle.quic_machine.specs.Machine.{IsAnswer, IsDelivered, says_last, gives, gave, fails}
use Rattle.quic_machine.specs.Poll.{polled}
use Rattle.quic_machine.specs.Timeouts.{timed_out}
use Rattle.quic_machine.specs.CallCases.{is_poll}
use Rattle.quic_machine.specs.PollCases.{poll_count}
use Rattle.quic_machine.specs.InjectionCases.{injected_gives}

-- ---- which answers give none

-- what is one of two answers that give none gives none
either_gives : (a b c : Answer) → gave b ≡ false → gave c ≡ false → (a ≡ b) ⊎ (a ≡ c) → gave a ≡ false
either_gives a b c first second (inl is) = ap gave is ∙ first
either_gives a b c first second (inr is) = ap gave is ∙ second

-- a read gives no datagram
read_gives : (s : StreamsState) (id : ℕ) (ordered : Bool) (mosts : List ℕ) (a : Answer) → IsRead s id ordered mosts a → gave a ≡ false
read_gives s id ordered mosts (answers.Read said) is = refl
read_gives s id ordered mosts a is = absurd is

-- nor does any call on streams
streams_give : (opened : Bool) (s : StreamsState) (call : Call) (a : Answer) → IsStreamAnswer opened s call a → gave a ≡ false
streams_give opened s (calls.Open dir) a is = ap gave is
streams_give opened s (calls.Accept dir) a is = ap gave is
streams_give opened s (calls.Write id bytes) a is = either_gives a _ _ refl refl is
streams_give opened s (calls.WriteChunks id chunks) a is = either_gives a _ _ refl refl is
streams_give opened s (calls.Finish id) a is = either_gives a _ _ refl refl is
streams_give opened s (calls.Reset id code) a is = either_gives a _ _ refl refl is
streams_give opened s (calls.SetPriority id priority) a is = either_gives a _ _ refl refl is
streams_give opened s (calls.Read read) a is = read_gives s read.id read.ordered read.nexts.items a is
streams_give opened s (calls.Stop id code) a is = either_gives a _ _ refl refl is
streams_give opened s (calls.ReceivedReset id) a is = ap gave is
streams_give opened s call a is = absurd is

-- nor does a delivery
delivery_gives : (p : Policy) (e : End) (delivery : Delivery) (d : Option (List ℕ)) (a : Answer) → IsDelivered p e delivery d a → gave a ≡ false
delivery_gives p e delivery None a is = ap gave is
delivery_gives p e delivery (Some d) a is = either_gives a _ _ refl refl is

-- ---- any call

-- only a poll answers that it gives a datagram
pub only_polls_give : (p : Policy) (e : End) (theirs : List (List ℕ)) (call : Call) (a : Answer) → is_poll call ≡ false → IsAnswer p e theirs call a → gave a ≡ false
only_polls_give p e theirs calls.Ping a other is = ap gave is
only_polls_give p e theirs (calls.Poll now) a other is = cc
only_polls_give p e theirs (calls.Timeout now) a other is = either_gives a _ _ refl refl is
only_polls_give p e theirs (calls.Deliver delivery) a other is = delivery_gives p e delivery (slice_get theirs delivery.index) a is
only_polls_give p e theirs (calls.Inject injection) a other is = ap gave is ∙ injected_gives (would_open p e injection.remote injection.bytes) (says_last a) p e injection
only_polls_give p e theirs calls.Event a other is = ap gave is
only_polls_give p e theirs (calls.Timer timer) a other is = ap gave is
only_polls_give p e theirs calls.NextTimeout a other is = ap gave is
only_polls_give p e theirs calls.State a other is = ap gave is
only_polls_give p e theirs (calls.Close close) a other is = ap gave is
only_polls_give p e theirs calls.UseNextId a other is = either_gives a _ _ refl refl is
only_polls_give p e theirs calls.HandshakeDone a other is = ap gave is
only_polls_give p e theirs (calls.Send message makes_room) a other is = either_gives a _ _ refl refl is
only_polls_give p e theirs calls.Recv a other is = ap gave is
only_polls_give p e theirs call a other is = streams_give (is_open e.closing.state) e.streams call a is

-- nothing is given where the answer says so
none_given : (a : Answer) → gave a ≡ false → length {A = List ℕ} [] ≡ (if gave a then 1 else 0)
none_given a q = rw q refl

-- a poll that isn't answered by want of memory is answered as the machine says
pub poll_answer : (p : Policy) (e : End) (now : ℕ) (a : Answer) → (a ≡ answers.Poll (polled p e now).answer) ⊎ (a ≡ answers.Poll (Err (record {}))) → fails a ≡ false → a ≡ answers.Poll (polled p e now).answer
poll_answer p e now a (inl is) ok = is
poll_answer p e now a (inr is) ok = let lacks = ap fails is in cc

-- and so is a timeout
pub timeout_answer : (p : Policy) (e : End) (now : ℕ) (a : Answer) → (a ≡ answers.Timeout (timed_out p e now).answer) ⊎ (a ≡ answers.Timeout (Err (record {}))) → fails a ≡ false → a ≡ answers.Timeout (timed_out p e now).answer
timeout_answer p e now a (inl is) ok = is
timeout_answer p e now a (inr is) ok = let lacks = ap fails is in cc

-- as many datagrams are given as the answer says
pub gives_count : (p : Policy) (e : End) (theirs : List (List ℕ)) (call : Call) (a : Answer) → IsAnswer p e theirs call a → length (gives p e call a) ≡ (if gave a then 1 else 0)
gives_count p e theirs (calls.Poll now) a (inl is) = subst (λ x. length (gives p e (calls.Poll now) x) ≡ (if gave x then 1 else 0)) (sym is) (poll_count p e now)
gives_count p e theirs (calls.Poll now) a (inr is) = subst (λ x. length (gives p e (calls.Poll now) x) ≡ (if gave x then 1 else 0)) (sym is) refl
gives_count p e theirs call a is = none_given a (only_polls_give p e theirs call a refl is)
