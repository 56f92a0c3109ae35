-- The messages of a datagram are the first of those that waited before the poll that gave it.
use Rattle.std.proofs.Common.{◌≡◌, ℕ, suc, ◌++◌, Bool, List, [], ◌∷◌, Some, Ok, inl, refl, sym, ap, ◌∙◌, subst, arith}
use Rattle.std.proofs.lemmas.List.{append_cancel_left}
use Rattle.std.proofs.lemmas.Option.{slice_get_within}
use Rattle.quic_machine.specs.declared.run.RunEvent.{RunEvent}
use Rattle.quic_machine.specs.declared.run.Call.{Call}
use Rattle.quic_machine.specs.declared.run.Call.TheVariants as calls
use Rattle.quic_machine.specs.declared.run.Answer.{Answer}
use Rattle.quic_machine.specs.declared.run.Answer.TheVariants as answers
use Rattle.quic_machine.specs.Policy.{Policy}
use Rattle.quic_machine.specs.End.{End}
use Rattle.quic_machine.specs.Poll.{polled}
use Rattle.quic_machine.specs.Machine.{World, policy_at, end_at, control_at, reads_window, gave, heard_at}
use Rattle.quic_machine.specs.RunLaws.{as_many_views}
use Rattle.quic_headline.specs.Runs.{Run, In}
use Rattle.quic_headline.specs.Observer.{Sent, sents_until}
use Rattle.quic_headline.specs.Headline.{IsHonest, IsRun}
use Rattle.quic_headline.specs.Polls.{IsMade}
use Rattle.quic_headline.specs.Queue.{messages_in, waiting_messages, MessagesGoInOrder}
use Rattle.quic_headline.proofs.Packets.Owing.{Owes}
use Rattle.quic_headline.proofs.Places.Parties.{sent_by, sent_if}
use Rattle.quic_headline.proofs.Places.Steps.{poll_answer}
use Rattle.quic_headline.proofs.Places.Placed.{placed}
use Rattle.quic_headline.proofs.Places.Everything as everything
use Rattle.quic_headline.proofs.Places.Theorems.{ready}
use Rattle.quic_headline.proofs.Halves.Ready.{Ready}
use Rattle.quic_headline.proofs.Held.Behind.{last_step}
use Rattle.quic_headline.proofs.Held.Clause.{Shortly, shortly}
use Rattle.quic_headline.proofs.Steps.Made.{served_before, made_served, made_end, observed_poll, poll_holds, sents_more, reads_either}
use Rattle.quic_headline.proofs.Messages.Waiting.{polled_order}
use Rattle.quic_headline.proofs.Messages.Lists.{owes_there, waiting_is}

only_one : (s t : Sent) → s ∷ [] ≡ t ∷ [] → s ≡ t
only_one s t is = cc

pub messages_go_in_order : (r : Run) (end : World) → IsHonest r → IsRun r end → MessagesGoInOrder r
messages_go_in_order r end honest run side i now transmit s served event went =
    let a : Answer = answers.Poll (Ok (Some transmit)) in
    let call : Call = calls.Poll now in
    let what : RunEvent = record { side = side; call = call } in
    let at = placed Shortly shortly r end honest run side (suc i) served in
    let next : World = at.world in
    let last = last_step r.keys i r.start next r.events r.answers r.views what a event.event event.answer at.leads in
    let w : World = last.before in
    let m : IsMade r i side call a w next = record { at = event; leads = last.leads; step = last.step; served = served } in
    let p : Policy = policy_at side r.keys in
    let e : End = reads_window (control_at side w) (heard_at side w) call (end_at side w) in
    let seen = observed_poll (everything.Streams Ready ready) r i side now a w (poll_holds (everything.All Ready ready) (everything.all Ready ready) r end honest run i side now a w next m) in
    let owes : Owes e = reads_either Owes (control_at side w) (heard_at side w) call (end_at side w) (owes_there r end honest run side i w (served_before r.answers i served) last.leads) (owes_there r end honest run side i w (served_before r.answers i served) last.leads) in
    -- it went as the end says
    let same : s ≡ sent_by p e now = only_one s (sent_by p e now) (append_cancel_left (sents_until r side i) (s ∷ []) (sent_by p e now ∷ []) (sym went ∙ sents_more r i side now a w seen)) in
    let said : a ≡ answers.Poll (polled p e now).answer = poll_answer p e now a m.step.answer (made_served r i side call a w next m) in
    let left : end_at side next ≡ (polled p e now).end = made_end r i side call a w next m in
    -- what waits by the lists waits at the end, before the poll and behind it
    let place = slice_get_within r.answers i a event.answer in
    let many = as_many_views r.keys r.start end r.events r.answers r.views run.follows in
    let before : waiting_messages r side i ≡ e.messages.queues.outgoing = waiting_is r end honest run side i w (omega (arith, place, many)) (served_before r.answers i served) last.leads in
    let behind : waiting_messages r side (suc i) ≡ (polled p e now).end.messages.queues.outgoing =
    waiting_is r end honest run side (suc i) next (omega (arith, place, many)) served at.leads ∙ ap (λ (x : End). x.messages.queues.outgoing) left in
    ap (λ (ms : List (List ℕ)). messages_in s.frames ++ ms) behind
    ∙ ap (λ (t : Sent). messages_in t.frames ++ (polled p e now).end.messages.queues.outgoing) same
    ∙ polled_order p e now owes (sent_by p e now) (subst (λ (b : Bool). In (sent_by p e now) (sent_if b (sent_by p e now))) (ap gave said) (inl refl))
    ∙ sym before
