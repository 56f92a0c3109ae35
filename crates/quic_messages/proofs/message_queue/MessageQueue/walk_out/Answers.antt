use Rattle.std.proofs.Common.{ℕ, ◌+◌, ◌<◌, max, take, length, subst, ap, sym, ◌∙◌, arith}
use Rattle.std.specs.List.{filter}
use Rattle.std.proofs.lemmas.Bool.{le-leb, lt-leb}
use Rattle.quic_messages.specs.Messages.{at_least, bytes_of, is_within}
use Rattle.quic_messages.proofs.Turning.{next, put_back, left_out, bytes_put_back, bytes_taken}
use Rattle.quic_messages.proofs.Longest.{AreWithin, rest_within, first_within, more_within, longest_more, longest_same}
use Rattle.quic_messages.proofs.message_queue.MessageQueue.walk_out.Goals as goal
use Rattle.quic_messages.proofs.message_queue.MessageQueue.walk_out.Goals.{then-len-size, else-len-size+in-Some-1, else-len-size+in-None-1}

pub loop-preserved : goal.loop-preserved
loop-preserved g c =
    let m = c.in-Some.message in
    let rest = c.pop_front.new.self.items in
    let all = c.args.self.now in
    let size = c.args.size in
    let takes = at_least g.row.LEAST in
    let keep = is_within size in
    let i = c.loop.invariant in
    let test = c.loop-test.true in
    let end = i.end in
    let within : c.loop.counter < length all = omega arith in
    let popped = sym c.in-Some.ensures.items ∙ i.items in
    let sum = i.total ∙ ap (bytes_of takes) c.in-Some.ensures.items in
    let len = c.len.ensures.value in
    let at = next keep all c.loop.counter m rest within popped in
    let longest = c.loop.self-inside.longest in
    let stay = λ (n : ℕ). AreWithin n (filter keep (take (c.loop.counter + 1) all)) in
    let short = rest_within longest m rest c.loop.self-inside.messages.items c.in-Some.ensures.items i.short in
    elim c.if-len-size.branch [
      | then-len-size w ↦ (let b = w.self-inside-is in rw b record {
        total = sum ∙ sym (bytes_put_back takes m rest) ∙ sym (ap (bytes_of takes) w.push_back_reserved.ensures.items);
        items = w.push_back_reserved.ensures.items ∙ put_back keep all c.loop.counter m rest within popped (le-leb (length m) size (omega arith));
        short = subst (AreWithin longest) (sym w.push_back_reserved.ensures.items) (more_within longest rest m short (first_within longest m rest c.loop.self-inside.messages.items c.in-Some.ensures.items i.short));
        longest = subst stay (sym (w.longest-is ∙ w.max-longest.ensures ∙ ap (λ n. max c.loop.longest n) w.len-then-len-size.ensures.value)) (longest_more size c.loop.longest c.loop.counter all m within at (omega arith) i.longest);
        end = i.end;
      })
      | else-len-size+in-Some-1 w ↦ (let b = w.self-inside-is in let long = w.if-len-size.false in rw (b, w.size.ensures, sum) record {
        total = bytes_taken takes m rest;
        items = left_out keep all c.loop.counter m rest within popped (lt-leb (length m) size (omega arith));
        short = short;
        longest = subst stay (sym w.longest-is) (longest_same size c.loop.longest c.loop.counter all m within at (lt-leb (length m) size (omega arith)) i.longest);
        end = i.end;
      })
      | else-len-size+in-None-1 w ↦ (let b = w.self-inside-is in let long = w.if-len-size.false in rw (b, w.size.ensures, sum) record {
        total = bytes_taken takes m rest;
        items = left_out keep all c.loop.counter m rest within popped (lt-leb (length m) size (omega arith));
        short = short;
        longest = subst stay (sym w.longest-is) (longest_same size c.loop.longest c.loop.counter all m within at (lt-leb (length m) size (omega arith)) i.longest);
        end = i.end;
      })
    ]
