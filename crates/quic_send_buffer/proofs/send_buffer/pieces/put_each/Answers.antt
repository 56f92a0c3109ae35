use Rattle.std.proofs.Common.{◌≡◌, ◌+◌, ◌++◌, [], ◌∷◌, ap, sym, refl, ◌∙◌, arith, rules, take, length, min, length-append}
use Rattle.std.proofs.lemmas.List.{take_all}
use Rattle.quic_send_buffer.specs.Source.{bytes_of, cut_to}
use Rattle.quic_send_buffer.specs.KeptBytes.{alone, parts_from}
use Rattle.quic_send_buffer.proofs.Kept.Several.{one_more, one_count, one_back}
use Rattle.quic_send_buffer.proofs.send_buffer.pieces.put_each.Goals as goal

pub loop-chunk-init : goal.loop-chunk-init
loop-chunk-init c = record {
  all = refl;
  count = refl;
  room = refl;
  above = omega arith;
  own = omega arith;
  back = take_all c.len-kept.result c.args.stretches.now (omega arith);
}

pub loop-chunk-preserved : goal.loop-chunk-preserved
loop-chunk-preserved c =
    let l = c.loop-chunk in
    let chunk = c.in-Some.chunk.now in
    let others = c.in-Some.others.now in
    let taken = c.min-taken.result in
    let rest : l.rest.now ≡ chunk ∷ others = search rules in
    let put : c.put_front.new.stretches ≡ l.stretches ++ alone (parts_from l.at (take taken chunk ∷ [])) = search rules in
    let count : taken ≡ min l.left (length chunk) = search rules in
    record {
      all = one_more l.at l.left taken l.stretches c.put_front.new.stretches chunk others count put ∙ ap (λ cs. l.stretches ++ alone (parts_from l.at (cut_to l.left cs))) (sym rest) ∙ l.invariant.all;
      count = one_count l.at l.left taken chunk others count ∙ ap (λ cs. l.at + bytes_of (cut_to l.left cs)) (sym rest) ∙ l.invariant.count;
      room = (let room = l.invariant.room in omega (arith, room, count));
      above = (let above = l.invariant.above in omega (arith, above));
      own = (let own = l.invariant.own in let more = length-append l.stretches (alone (parts_from l.at (take taken chunk ∷ []))) in omega (arith, own, more, ap length put));
      back = one_back c.len-kept.result l.stretches (alone (parts_from l.at (take taken chunk ∷ []))) c.put_front.new.stretches l.invariant.own put ∙ l.invariant.back;
    }
