-- What packets that are lost at once come to, and what a controller is told of them.
use Rattle.std.proofs.Common.{◌≡◌, ℕ, ◌+◌, ◌≤◌, Bool, true, false, cond, not, ◌||◌, List, [], ◌∷◌, Option, sum_by, refl, sym, ap, ◌∙◌, arith}
use Rattle.std.specs.Prelude.{map, fold, ◌==◌}
use Rattle.std.specs.List.{filter, list_any}
use Rattle.std.proofs.lemmas.List.Sums.{sum_by-cons}
use Rattle.quic_time.specs.Clocks.{saturated}
use Rattle.quic_congestion.specs.Congestion.{Told, Steps}
use Rattle.quic_congestion.specs.Search.{Discovery, is_number, open_probe}
use Rattle.quic_streams_parts.specs.Table.{Table}
use Rattle.quic_spaces.specs.Persistent.{Loss}
use Rattle.quic_spaces.specs.PersistentSteps.{after_loss}
use Rattle.quic_machine.specs.Tracking.{TrackedPacket, Verdict, lost_by, after_detection}
use Rattle.quic_machine.specs.End.{End, ConnectionValue, with_end, with_tracking, with_discovery}
use Rattle.quic_machine.specs.Control.{flies, last_sent, persistent_period}
use Rattle.quic_machine.specs.Sizes.{told_if_resized, told_size, others_of, with_one_lost, with_all_lost, with_lost, asked_behind, after_lost, shortened, with_searched, search_lost, told_congested, told_losses}
use Rattle.quic_machine.specs.FrameCases.{by_searched}
use Rattle.quic_machine.specs.Closing.{Closing}
use Rattle.quic_machine.specs.Parts.{Path}
use Rattle.quic_machine.specs.Acked.{packets_lost, lost_as, verdict, losses_detected, told_detected}
use Rattle.quic_connection_parts.specs.Telling.{telling}
use Rattle.quic_connection_parts.proofs.Told.{KeepsPath, packets_lost_keep, told_parts}
use Rattle.quic_connection_parts.specs.Losses.{Lost, loss_as, none_lost, one_lost, all_lost, asked_if, told_lost}

abbrev Packets : Type 0
Packets = Table TrackedPacket

-- when the last of some packets went, or a moment where there is none
abbrev last_or : ℕ → Packets → ℕ
last_or moment [] = moment
last_or moment (p ∷ ps) = last_or p.1.time_sent ps

last_is : (moment : ℕ) (p : ℕ × TrackedPacket) (ps : Packets) → last_or moment (p ∷ ps) ≡ last_sent (p ∷ ps)
last_is moment p [] = refl
last_is moment p (q ∷ ps) = last_is p.1.time_sent q ps

last_all : (ps : Packets) → last_or 0 ps ≡ last_sent ps
last_all [] = refl
last_all (p ∷ ps) = last_is 0 p ps

-- whether there is one
abbrev is_any : Packets → Bool
is_any [] = false
is_any (p ∷ ps) = true

-- those that aren't the open probe, which has this number
abbrev others : Option ℕ → Packets → Packets
others probe ps = filter (λ p. not (is_number p.0 probe)) ps

-- packets are lost that are no probes, and these losses come, on the path of a generation
abbrev so_lost : ℕ → Lost → Packets → List Loss → Lost
so_lost g l ps losses = record {
  others = l.others || is_any ps;
  flew = l.flew || list_any (flies g) ps;
  last = last_or l.last ps;
  bytes = saturated (l.bytes + sum_by (λ p. p.1.size) ps);
  watch = fold after_loss l.watch losses;
}

-- a packet as one that is lost
abbrev loss_at : Option ℕ → ℕ × TrackedPacket → Loss
loss_at probe p = loss_as (is_number p.0 probe) p

-- the same all at once
abbrev at_once : ℕ → Option ℕ → Lost → Packets → Lost
at_once g probe l ps = so_lost g l (others probe ps) (map (loss_at probe) ps)

or_none : (b : Bool) → b || false ≡ b
or_none true = refl
or_none false = refl

or_step : (a b c : Bool) → (a || b) || c ≡ a || (b || c)
or_step true b c = refl
or_step false b c = refl

or_true : (a : Bool) → a || true ≡ true
or_true true = refl
or_true false = refl

saturated_step : (n size others : ℕ) → saturated (saturated (n + size) + others) ≡ saturated (n + (size + others))
saturated_step n size others = omega arith

within : (n : ℕ) → n ≤ 18446744073709551615 → n ≡ saturated (n + 0)
within n few = omega arith

most : (n : ℕ) → saturated n ≤ 18446744073709551615
most n = omega arith

-- one more that is none goes before the others
one_more : (g : ℕ) (l : Lost) (p : ℕ × TrackedPacket) (ps : Packets) (losses : List Loss) → so_lost g (one_lost g false l p) ps losses ≡ so_lost g l (p ∷ ps) (loss_as false p ∷ losses)
one_more g l p ps losses =
    let x : Lost = so_lost g (one_lost g false l p) ps losses in
    ap (λ (b : Bool). record x { others = b }) (sym (or_true l.others))
    ∙ ap (λ (b : Bool). record x { others = l.others || true; flew = b }) (or_step l.flew (flies g p) (list_any (flies g) ps))
    ∙ ap (λ (n : ℕ). record x { others = l.others || true; flew = l.flew || (flies g p || list_any (flies g) ps); bytes = n })
    (saturated_step l.bytes p.1.size (sum_by (λ q. q.1.size) ps) ∙ ap (λ (n : ℕ). saturated (l.bytes + n)) (sym (sum_by-cons (λ q. q.1.size) p ps)))

all_is : (g : ℕ) (probe : Option ℕ) (l : Lost) (ps : Packets) → l.bytes ≤ 18446744073709551615 → all_lost g probe l ps ≡ at_once g probe l ps
all_is g probe l [] few =
    ap (λ (b : Bool). record l { others = b }) (sym (or_none l.others))
    ∙ ap (λ (b : Bool). record l { others = l.others || false; flew = b }) (sym (or_none l.flew))
    ∙ ap (λ (n : ℕ). record l { others = l.others || false; flew = l.flew || false; bytes = n }) (within l.bytes few)
all_is g probe l (p ∷ ps) few = go (is_number p.0 probe) (λ m small. all_is g probe m ps small)
  where
    go : (b : Bool) → ((m : Lost) → m.bytes ≤ 18446744073709551615 → all_lost g probe m ps ≡ at_once g probe m ps)
        → all_lost g probe (one_lost g b l p) ps ≡ so_lost g l (cond (not b) (p ∷ others probe ps) (others probe ps)) (loss_as b p ∷ map (loss_at probe) ps)
    go true more = more (one_lost g true l p) few
    go false more = more (one_lost g false l p) (most (l.bytes + p.1.size)) ∙ one_more g l p (others probe ps) (map (loss_at probe) ps)

-- ---- what a controller is told of them

zero_more : (n : ℕ) → 0 + n ≡ n
zero_more n = omega arith

abbrev none : End → Lost
none e = none_lost (persistent_period e) e.path.first_after_rtt

all_none : (e : End) (lost : Packets) → all_lost e.path.generation (open_probe e.path.discovery) (none e) lost ≡ at_once e.path.generation (open_probe e.path.discovery) (none e) lost
all_none e lost = let few : 0 ≤ 18446744073709551615 = omega arith in all_is e.path.generation (open_probe e.path.discovery) (none e) lost few

told_is : (by_ack : Bool) (e : End) (lost : Packets) → told_lost by_ack e.closing.clock (all_lost e.path.generation (open_probe e.path.discovery) (none e) lost) ≡ told_congested by_ack e lost
told_is by_ack e lost =
    let g : ℕ = e.path.generation in
    let probe : Option ℕ = open_probe e.path.discovery in
    let x : Lost = at_once g probe (none e) lost in
    ap (told_lost by_ack e.closing.clock) (all_none e lost)
    ∙ ap (λ (n : ℕ). told_lost by_ack e.closing.clock (record x { last = n })) (last_all (others probe lost))
    ∙ ap (λ (n : ℕ). told_lost by_ack e.closing.clock (record x { last = last_sent (others probe lost); bytes = saturated n })) (zero_more (sum_by (λ q. q.1.size) (others probe lost)))

-- whether the search is asked is whether another than the probe is among them
asked_is : (e : End) (now : ℕ) (lost : Packets) (d : Discovery) → asked_if (all_lost e.path.generation (open_probe e.path.discovery) (none e) lost).others now d ≡ asked_behind (others_of e.path.discovery lost) now d
asked_is e now lost d = ap (λ (l : Lost). asked_if l.others now d) (all_none e lost) ∙ go (others_of e.path.discovery lost)
  where
    go : (ps : Packets) → asked_if (is_any ps) now d ≡ asked_behind ps now d
    go [] = refl
    go (p ∷ ps) = refl

-- a size of a search that losses leave is that before them
lost_size : (probe : Option ℕ) (ps : Packets) (d : Discovery) → (with_all_lost probe ps d).size ≡ d.size
lost_size probe [] d = refl
lost_size probe (p ∷ ps) d = lost_size probe ps (with_one_lost (is_number p.0 probe) p d) ∙ one (is_number p.0 probe)
  where
    one : (b : Bool) → (with_one_lost b p d).size ≡ d.size
    one true = refl
    one false = refl

-- what the search comes to leaves the clock
searched_closing : (d : Discovery) (e : End) → (with_searched d e).closing ≡ e.closing
searched_closing d e = by_searched d e (λ (x : End). x.closing ≡ e.closing) refl (λ most. refl)

-- of packets that are lost, which leave this end, a controller is told of a size that fell, and of
-- congestion
tells : {H K R C : Type 0} (steps : Steps C) (old : ConnectionValue H K R C) (by_ack : Bool) (l : Lost) (lost : Packets) (left : End) → KeepsPath old.end left → l ≡ all_lost old.end.path.generation (open_probe old.end.path.discovery) (none old.end) lost
    → (let x : End = with_discovery left (with_lost lost old.end.path.discovery) in
    let d : Discovery = asked_if l.others x.closing.clock x.path.discovery in
    let f : End = with_searched d x in
    telling steps (telling steps (with_end old x) (told_size x.path.discovery d) f) (told_lost by_ack f.closing.clock l) f ≡ telling steps old (told_losses by_ack old.end lost) (search_lost lost left))
tells {H} {K} {R} {C} steps old by_ack l lost left keeps counts =
    let e : End = old.end in
    let first : Discovery = e.path.discovery in
    let less : Discovery = with_lost lost first in
    let x : End = with_discovery left less in
    let d : Discovery = after_lost e.closing.clock lost first in
    let asked : asked_if l.others left.closing.clock less ≡ d =
    ap (λ (m : Lost). asked_if m.others left.closing.clock less) counts ∙ asked_is e left.closing.clock lost less ∙ ap (λ (c : Closing). asked_behind (others_of first lost) c.clock less) keeps.closing in
    let size : less.size ≡ first.size = lost_size (open_probe first) lost first in
    let clock : (with_searched d x).closing.clock ≡ e.closing.clock = ap (λ (c : Closing). c.clock) (searched_closing d x ∙ keeps.closing) in
    let congested : told_lost by_ack e.closing.clock l ≡ told_congested by_ack e lost = ap (told_lost by_ack e.closing.clock) counts ∙ told_is by_ack e lost in
    let sized : told_size less d ≡ told_size first d = ap (λ (n : ℕ). told_if_resized (not (n == d.size)) d.size) size in
    let same : less.size ≡ left.path.discovery.size = size ∙ sym (ap (λ (p : Path). p.discovery.size) keeps.path) in
    let end : with_searched d x ≡ search_lost lost left =
    ap (λ (n : ℕ). shortened (not (n == d.size)) (with_discovery left d)) same
    ∙ ap (λ (c : Closing). with_searched (after_lost c.clock lost first) left) (sym keeps.closing)
    ∙ ap (λ (p : Path). with_searched (after_lost left.closing.clock lost p.discovery) left) (sym keeps.path) in
    ap (λ (f : Discovery). telling steps (telling steps (with_end old x) (told_size less f) (with_searched f x)) (told_lost by_ack (with_searched f x).closing.clock l) (with_searched f x)) asked
    ∙ ap (λ (n : ℕ). telling steps (telling steps (with_end old x) (told_size less d) (with_searched d x)) (told_lost by_ack n l) (with_searched d x)) clock
    ∙ ap (λ (t : List Told). telling steps (telling steps (with_end old x) (told_size less d) (with_searched d x)) t (with_searched d x)) congested
    ∙ ap (λ (t : List Told). telling steps (telling steps (with_end old x) t (with_searched d x)) (told_congested by_ack e lost) (with_searched d x)) sized
    ∙ ap (λ (c : C). record old { control = c; end = with_searched d x }) (told_parts steps old.control (told_size first d) (told_congested by_ack e lost))
    ∙ ap (telling steps old (told_losses by_ack e lost)) end

-- a controller is told of those that loss detection found: of a size that fell, and of congestion
pub detects : {H K R C : Type 0} (steps : Steps C) (old w judged new : ConnectionValue H K R C) (by_ack : Bool) (v : Verdict) (l : Lost)
    → (let lost = lost_by v old.end.tracking.packets in
    let left : End = with_tracking (packets_lost lost old.end) (after_detection v old.end.tracking) in
    w ≡ with_end old (with_discovery left (with_lost lost old.end.path.discovery))
    → v ≡ verdict old.end
    → l ≡ all_lost old.end.path.generation (open_probe old.end.path.discovery) (none old.end) lost
    → (let d = asked_if l.others w.end.closing.clock w.end.path.discovery in judged ≡ telling steps w (told_size w.end.path.discovery d) (with_searched d w.end))
    → new ≡ telling steps judged (told_lost by_ack judged.end.closing.clock l) judged.end → new ≡ telling steps old (told_detected by_ack old.end) (losses_detected old.end))
detects {H} {K} {R} {C} steps old w judged new by_ack v l loses is counts judges told =
    let lost : Packets = lost_by v old.end.tracking.packets in
    let left : End = with_tracking (packets_lost lost old.end) (after_detection v old.end.tracking) in
    let k = packets_lost_keep lost old.end in
    told
    ∙ ap (λ (x : ConnectionValue H K R C). telling steps x (told_lost by_ack x.end.closing.clock l) x.end) judges
    ∙ ap (λ (x : ConnectionValue H K R C). (let f : Discovery = asked_if l.others x.end.closing.clock x.end.path.discovery in let y : End = with_searched f x.end in telling steps (telling steps x (told_size x.end.path.discovery f) y) (told_lost by_ack y.closing.clock l) y)) loses
    ∙ tells steps old by_ack l lost left (record { closing = k.closing; path = k.path; validation = k.validation }) counts
    ∙ ap (λ (u : Verdict). telling steps old (told_losses by_ack old.end (lost_by u old.end.tracking.packets)) (lost_as u old.end)) is
