use Rattle.std.proofs.Common.{◌≡◌, ◌+◌, ◌-◌, ◌≤◌, ◌++◌, ℕ, List, map, sym, ap, subst, ◌∙◌, arith}
use Rattle.std.specs.Prelude.{vec_len}
use Rattle.quic_wire.specs.Value.{datagram}
use Rattle.quic_wire.specs.Writing.{spelling, spelled_all}
use Rattle.quic_messages.specs.Messages.{Messages, frame_bytes}
use Rattle.quic_connection_parts.specs.Frames.{message_part, messages_left}
use Rattle.quic_connection_parts.proofs.Fitting.{message_goes, messages_stop, written_more, written_none, front_more, grows_by, used_and_left}
use Rattle.quic_connection_parts.proofs.messages.put_messages.Goals as goal

-- the same messages, where these wait to be sent
abbrev with_outgoing : Messages → List (List ℕ) → Messages
with_outgoing m ms = record m { outgoing = ms }

pub loop-message-preserved-in-Some : goal.loop-message-preserved-in-Some
loop-message-preserved-in-Some c =
    let a = c.args in
    let l = c.loop-message in
    let i = l.invariant in
    let e = c.in-Some.ensures in
    let m = c.in-Some.message in
    let t = c.next_frame.new.self in
    let new = c.put_message.new.out in
    let used : ℕ = vec_len l.out - a.body in
    let below = c.requires.body in
    let begun = i.grows in
    let all : used + (a.body + a.most - c.len.result) ≡ a.most = ap (λ (n : ℕ). used + (a.body + a.most - n)) c.len.ensures ∙ used_and_left a.body a.most (vec_len l.out) (omega arith) i.within in
    let goes = message_goes a.most used (a.body + a.most - c.len.result) all l.datagrams t m e.answer e.state in
    let long : vec_len new ≡ vec_len l.out + frame_bytes m = c.put_message.ensures.len ∙ ap (λ (xs : List ℕ). vec_len l.out + frame_bytes xs) c.deref.ensures in
    let fit : frame_bytes m ≤ a.body + a.most - vec_len l.out = subst (λ (n : ℕ). frame_bytes m ≤ a.body + a.most - n) c.len.ensures e.size in
    let grown = grows_by a.body a.most (vec_len l.out) (vec_len new) (frame_bytes m) (omega arith) i.within fit long in
    let put : new.items ≡ l.out.items ++ spelling (datagram m) = c.put_message.ensures.items ∙ ap (λ (xs : List ℕ). l.out.items ++ spelling (datagram xs)) c.deref.ensures in
    let more = grown.more in
    let holds = c.put_message.ensures.capacity in
    let held = i.capacity in
    let whole = l.out.ok.0 in
    record {
      items =
          ap (λ (k : ℕ). new.items ++ spelled_all (map datagram (message_part a.most k t.outgoing))) grown.used
          ∙ written_more l.out.items new.items m (message_part a.most used l.datagrams.outgoing) (message_part a.most (used + frame_bytes m) t.outgoing) put goes.part
          ∙ i.items;
      left = ap (λ (k : ℕ). with_outgoing t (messages_left a.most k t.outgoing)) grown.used ∙ goes.left ∙ i.left;
      within = grown.within;
      grows = omega arith;
      capacity = omega arith;
      front = front_more a.out.now.items l.out.items new.items (spelling (datagram m)) (vec_len a.out.now) (omega arith) put i.front;
    }

pub loop-message-preserved : goal.loop-message-preserved
loop-message-preserved c =
    let a = c.args in
    let l = c.loop-message in
    let i = l.invariant in
    let e = c.in-Some.ensures in
    let m = c.in-Some.message in
    let t = c.next_frame.new.self in
    let new = c.put_message.new.out in
    let used : ℕ = vec_len l.out - a.body in
    let below = c.requires.body in
    let begun = i.grows in
    let all : used + (a.body + a.most - c.len.result) ≡ a.most = ap (λ (n : ℕ). used + (a.body + a.most - n)) c.len.ensures ∙ used_and_left a.body a.most (vec_len l.out) (omega arith) i.within in
    let goes = message_goes a.most used (a.body + a.most - c.len.result) all l.datagrams t m e.answer e.state in
    let long : vec_len new ≡ vec_len l.out + frame_bytes m = c.put_message.ensures.len ∙ ap (λ (xs : List ℕ). vec_len l.out + frame_bytes xs) c.deref.ensures in
    let fit : frame_bytes m ≤ a.body + a.most - vec_len l.out = subst (λ (n : ℕ). frame_bytes m ≤ a.body + a.most - n) c.len.ensures e.size in
    let grown = grows_by a.body a.most (vec_len l.out) (vec_len new) (frame_bytes m) (omega arith) i.within fit long in
    let put : new.items ≡ l.out.items ++ spelling (datagram m) = c.put_message.ensures.items ∙ ap (λ (xs : List ℕ). l.out.items ++ spelling (datagram xs)) c.deref.ensures in
    let more = grown.more in
    let holds = c.put_message.ensures.capacity in
    let held = i.capacity in
    let whole = l.out.ok.0 in
    record {
      items =
          ap (λ (k : ℕ). new.items ++ spelled_all (map datagram (message_part a.most k t.outgoing))) grown.used
          ∙ written_more l.out.items new.items m (message_part a.most used l.datagrams.outgoing) (message_part a.most (used + frame_bytes m) t.outgoing) put goes.part
          ∙ i.items;
      left = ap (λ (k : ℕ). with_outgoing t (messages_left a.most k t.outgoing)) grown.used ∙ goes.left ∙ i.left;
      within = grown.within;
      grows = omega arith;
      capacity = omega arith;
      front = front_more a.out.now.items l.out.items new.items (spelling (datagram m)) (vec_len a.out.now) (omega arith) put i.front;
    }

pub returns-clause-items : goal.returns-clause-items
returns-clause-items c =
    let a = c.args in
    let l = c.loop-message in
    let i = l.invariant in
    let e = c.in_default.ensures in
    let used : ℕ = vec_len l.out - a.body in
    let below = c.requires.body in
    let begun = i.grows in
    let all : used + (a.body + a.most - c.len.result) ≡ a.most = ap (λ (n : ℕ). used + (a.body + a.most - n)) c.len.ensures ∙ used_and_left a.body a.most (vec_len l.out) (omega arith) i.within in
    let stops = messages_stop a.most used (a.body + a.most - c.len.result) all l.datagrams c.next_frame.new.self e.answer e.state in
    sym (written_none l.out.items (message_part a.most used l.datagrams.outgoing) stops.part) ∙ i.items

pub returns-clause-left : goal.returns-clause-left
returns-clause-left c =
    let a = c.args in
    let l = c.loop-message in
    let i = l.invariant in
    let e = c.in_default.ensures in
    let used : ℕ = vec_len l.out - a.body in
    let below = c.requires.body in
    let begun = i.grows in
    let all : used + (a.body + a.most - c.len.result) ≡ a.most = ap (λ (n : ℕ). used + (a.body + a.most - n)) c.len.ensures ∙ used_and_left a.body a.most (vec_len l.out) (omega arith) i.within in
    let stops = messages_stop a.most used (a.body + a.most - c.len.result) all l.datagrams c.next_frame.new.self e.answer e.state in
    stops.left ∙ i.left
