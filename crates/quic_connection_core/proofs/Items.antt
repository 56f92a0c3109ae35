-- The items of a payload, one after another.
use Rattle.std.proofs.Common.{◌≡◌, ℕ, Bool, true, false, not, cond, ◌&&◌, ◌||◌, List, [], ◌∷◌, ◌++◌, length, Option, Some, None, IfSome, Result, Ok, Err, refl, sym, ap, subst, ◌∙◌, append-nil, arith}
use Rattle.quic_wire.specs.Value.{FrameValue, ack, path_challenge, path_response}
use Rattle.quic_wire.specs.Items.{items, pads, without_padding}
use Rattle.quic_wire.specs.declared.frame.InvalidFrame.{InvalidFrame}
use Rattle.quic_wire_core.specs.declared.shared.EcnCodepoint.{EcnCodepoint}
use Rattle.quic_packet.specs.Header.{reserved_bits}
use Rattle.quic_spaces.specs.Marks.{is_congested}
use Rattle.quic_congestion.specs.Congestion.{Told, Steps, after_calls}
use Rattle.quic_machine.specs.End.{End, ConnectionValue}
use Rattle.quic_machine.specs.Migration.{item_elsewhere, item_at, items_at}
use Rattle.quic_machine.specs.Receive.{Fault, Progress, take_item, take_items, behind, told_item, told_items, told_behind, item_asks, item_answers, items_answer, asks_in, is_urged, told_payload}
use Rattle.quic_connection_parts.specs.declared.receiving.Trouble.{Trouble}
use Rattle.quic_connection_parts.specs.Faults.{fault_view, ItemHasForm, AllHaveForm, IsOther, TellsAs}
use Rattle.quic_connection_parts.proofs.Told.{told_parts}
use Rattle.quic_connection_parts.proofs.Unpadded.{pads_is}
use Rattle.quic_connection_core.proofs.Payloads.{no_items, empty_at}

abbrev Item : Type 0
Item = Result FrameValue InvalidFrame

-- ---- what came from elsewhere

-- one item and the others
pub first_at : (here : Bool) (i : Item) (is all : List Item) → all ≡ i ∷ is → items_at here all ≡ item_at here i ∷ items_at here is
first_at true i is all first = first
first_at false i is all first = ap (items_at false) first

pub nothing_at : (here : Bool) → items_at here [] ≡ []
nothing_at true = refl
nothing_at false = refl

-- what acknowledges does so from everywhere
pub answers_at : (here : Bool) (i : Item) (e : End) → item_answers (item_at here i) e ≡ item_answers i e
answers_at true i e = refl
answers_at false (Ok (path_challenge token)) e = refl
answers_at false (Ok (path_response token)) e = refl
answers_at false (Ok f) e = refl
answers_at false (Err x) e = refl

-- a frame that isn't of path validation is the same from everywhere
pub same_at : (here : Bool) (i : Item) → item_elsewhere i ≡ i → item_at here i ≡ i
same_at true i same = refl
same_at false i same = same

pub same_first : (here : Bool) (i : Item) (is all : List Item) → item_elsewhere i ≡ i → all ≡ i ∷ is → items_at here all ≡ i ∷ items_at here is
same_first here i is all same first = first_at here i is all first ∙ ap (λ (j : Item). j ∷ items_at here is) (same_at here i same)

-- ---- one after another

-- one that is taken, and the others behind it
pub taken_step : (i : Item) (is all : List Item) (e f : End) → all ≡ i ∷ is → take_item i e ≡ record { end = f; fault = None } → take_items is f ≡ take_items all e
taken_step i is all e f first takes = ap (λ (p : Progress). behind p (take_items is)) (sym takes) ∙ ap (λ (xs : List Item). take_items xs e) (sym first)

pub told_step : {C : Type 0} (steps : Steps C) (c d : C) (i : Item) (is all : List Item) (e f : End) → all ≡ i ∷ is → take_item i e ≡ record { end = f; fault = None } → d ≡ after_calls steps c (told_item i e)
    → after_calls steps d (told_items is f) ≡ after_calls steps c (told_items all e)
told_step {C} steps c d i is all e f first takes tells =
    ap (λ (x : C). after_calls steps x (told_items is f)) tells
    ∙ told_parts steps c (told_item i e) (told_items is f)
    ∙ ap (λ (p : Progress). after_calls steps c (told_item i e ++ told_behind p (told_items is))) (sym takes)
    ∙ ap (λ (xs : List Item). after_calls steps c (told_items xs e)) (sym first)

-- one that is at fault
told_last : {C : Type 0} (steps : Steps C) (c d : C) (i : Item) (is all : List Item) (e f : End) (fault : Fault) → all ≡ i ∷ is → take_item i e ≡ record { end = f; fault = Some fault } → d ≡ after_calls steps c (told_item i e)
    → d ≡ after_calls steps c (told_items all e)
told_last steps c d i is all e f fault first takes tells =
    tells
    ∙ ap (after_calls steps c) (sym (append-nil (told_item i e)))
    ∙ ap (λ (p : Progress). after_calls steps c (told_item i e ++ told_behind p (told_items is))) (sym takes)
    ∙ ap (λ (xs : List Item). after_calls steps c (told_items xs e)) (sym first)

pub told_stop : {C : Type 0} (steps : Steps C) (c d : C) (i : Item) (is all : List Item) (e f : End) (o : Option Fault) (whole : C) → all ≡ i ∷ is → IfSome o (λ fault. take_item i e ≡ record { end = f; fault = Some fault }) → IfSome o (λ fault. d ≡ after_calls steps c (told_item i e))
    → after_calls steps c (told_items all e) ≡ whole → IfSome o (λ fault. d ≡ whole)
told_stop steps c d i is all e f None whole first takes tells is_whole = tt
told_stop steps c d i is all e f (Some fault) whole first takes tells is_whole = told_last steps c d i is all e f fault first takes tells ∙ is_whole

pub taken_stop : (i : Item) (is all : List Item) (e f : End) (o : Option Fault) (whole : Progress) → all ≡ i ∷ is → IfSome o (λ fault. take_item i e ≡ record { end = f; fault = Some fault }) → take_items all e ≡ whole → IfSome o (λ fault. whole ≡ record { end = f; fault = Some fault })
taken_stop i is all e f None whole first takes is_whole = tt
taken_stop i is all e f (Some fault) whole first takes is_whole = sym is_whole ∙ ap (λ (xs : List Item). take_items xs e) first ∙ ap (λ (p : Progress). behind p (take_items is)) takes

-- ---- what items ask for

or_assoc : (a b c : Bool) → ((a || b) || c) ≡ (a || (b || c))
or_assoc true b c = refl
or_assoc false b c = refl

or_false : (a : Bool) → (a || false) ≡ a
or_false true = refl
or_false false = refl

-- whether one asks
pub asks_step : (a b whole : Bool) (i : Item) (is all : List Item) → all ≡ i ∷ is → b ≡ (a || item_asks i) → (a || asks_in all) ≡ whole → (b || asks_in is) ≡ whole
asks_step a b whole i is all first more before =
    ap (λ (x : Bool). x || asks_in is) more
    ∙ or_assoc a (item_asks i) (asks_in is)
    ∙ ap (λ (xs : List Item). a || asks_in xs) (sym first)
    ∙ before

pub asks_last : (a whole : Bool) (all : List Item) → all ≡ [] → (a || asks_in all) ≡ whole → a ≡ whole
asks_last a whole all none before = sym (or_false a) ∙ ap (λ (xs : List Item). a || asks_in xs) (sym none) ∙ before

-- whether one urges: with a mark, where it asks or answers
urges_so : (a c p ps q qs : Bool) → ((a || (c && (p || q))) || (c && (ps || qs))) ≡ (a || (c && ((p || ps) || (q || qs))))
urges_so true c p ps q qs = refl
urges_so false false p ps q qs = refl
urges_so false true true ps q qs = refl
urges_so false true false true true qs = refl
urges_so false true false false true qs = refl
urges_so false true false ps false qs = refl

-- of what is taken of a packet, where the packet asks or doesn't
pub urged_step : (a b whole : Bool) (mark : Option EcnCodepoint) (asks others_ask all_ask : Bool) (i : Item) (is all : List Item) (e f : End) → all ≡ i ∷ is → all_ask ≡ (asks || others_ask) → take_item i e ≡ record { end = f; fault = None }
    → b ≡ (a || (is_congested mark && (asks || item_answers i e))) → (a || is_urged mark all_ask all e) ≡ whole → (b || is_urged mark others_ask is f) ≡ whole
urged_step a b whole mark asks others_ask all_ask i is all e f first all_so takes more before =
    ap (λ (x : Bool). x || is_urged mark others_ask is f) more
    ∙ ap (λ (p : Progress). (a || (is_congested mark && (asks || item_answers i e))) || is_urged mark others_ask is p.end) (sym takes)
    ∙ urges_so a (is_congested mark) asks others_ask (item_answers i e) (items_answer is (take_item i e).end)
    ∙ ap (λ (x : Bool). a || (is_congested mark && (x || (item_answers i e || items_answer is (take_item i e).end)))) (sym all_so)
    ∙ ap (λ (xs : List Item). a || is_urged mark all_ask xs e) (sym first)
    ∙ before

-- a frame that asks, and urges where the packet has the mark
pub asking_asks : (a : Bool) → true ≡ (a || true)
asking_asks true = refl
asking_asks false = refl

pub asking_urges : (a c : Bool) → (a || c) ≡ (a || (c && true))
asking_urges true c = refl
asking_urges false true = refl
asking_urges false false = refl

none_urge : (a c : Bool) → (a || (c && false)) ≡ a
none_urge true c = refl
none_urge false true = refl
none_urge false false = refl

pub urged_last : (a whole : Bool) (mark : Option EcnCodepoint) (here : Bool) (all : List Item) (e : End) → all ≡ [] → (a || is_urged mark (asks_in all) (items_at here all) e) ≡ whole → a ≡ whole
urged_last a whole mark here all e none before =
    sym (none_urge a (is_congested mark))
    ∙ ap (λ (xs : List Item). a || is_urged mark false xs e) (sym (nothing_at here))
    ∙ ap (λ (xs : List Item). a || is_urged mark (asks_in xs) (items_at here xs) e) (sym none)
    ∙ before

pub form_behind : (i : Item) (is all : List Item) → all ≡ i ∷ is → AllHaveForm all → AllHaveForm is
form_behind i is all first form = (subst (λ (xs : List Item). AllHaveForm xs) first form).1

-- a frame that is no ACK tells nothing
pub tells_none : (f : FrameValue) (e : End) → IsOther f → told_item (Ok f) e ≡ []
tells_none (ack a) e other = absurd other
tells_none f e other = refl

in_any : (o : Option Fault) {P : Type 0} → P → IfSome o (λ fault. P)
in_any None p = tt
in_any (Some fault) p = p

pub tells_nothing : {A H K R C : Type 0} (r : Result A Trouble) (steps : Steps C) (old new : ConnectionValue H K R C) (told : List Told) → told ≡ [] → new.control ≡ old.control → TellsAs r steps old told new
tells_nothing {A} {H} {K} {R} {C} (Ok x) steps old new told none same = same ∙ ap (λ (t : List Told). after_calls steps old.control t) (sym none)
tells_nothing {A} {H} {K} {R} {C} (Err trouble) steps old new told none same = in_any (fault_view trouble) (same ∙ ap (λ (t : List Told). after_calls steps old.control t) (sym none))

-- a payload that has no byte tells nothing
pub empty_tells : (here : Bool) (first : ℕ) (bytes : List ℕ) (e : End) → length bytes ≡ 0 → reserved_bits first ≡ 0 → told_payload first (items_at here (items bytes)) e ≡ []
empty_tells here first [] e none clear = rw (clear, empty_at here (items []), no_items) refl
empty_tells here first (b ∷ bytes) e none clear = absurd (omega arith)

-- ---- PADDING does nothing, wherever it came from: what is taken, told and asked is that of the
-- other items

takes_but : (here : Bool) (i : Item) (is others : List Item) (b : Bool) → pads i ≡ b → ((e : End) → take_items (items_at here others) e ≡ take_items (items_at here is) e) → (e : End) → take_items (items_at here (cond (not b) (i ∷ others) others)) e ≡ take_items (items_at here (i ∷ is)) e
takes_but true i is others true so same e = same e ∙ ap (λ (j : Item). take_items (j ∷ is) e) (sym (pads_is i so))
takes_but false i is others true so same e = same e ∙ ap (λ (j : Item). take_items (items_at false (j ∷ is)) e) (sym (pads_is i so))
takes_but true i is others false so same e = ap (λ (next : End → Progress). behind (take_item i e) next) (λ k x. same x k)
takes_but false i is others false so same e = ap (λ (next : End → Progress). behind (take_item (item_elsewhere i) e) next) (λ k x. same x k)

pub takes_unpadded : (here : Bool) (is : List Item) (e : End) → take_items (items_at here (without_padding is)) e ≡ take_items (items_at here is) e
unfolding without_padding
takes_unpadded here [] e = refl
takes_unpadded here (i ∷ is) e = takes_but here i is (without_padding is) (pads i) refl (λ x. takes_unpadded here is x) e

told_but : (here : Bool) (i : Item) (is others : List Item) (b : Bool) → pads i ≡ b → ((e : End) → told_items (items_at here others) e ≡ told_items (items_at here is) e) → (e : End) → told_items (items_at here (cond (not b) (i ∷ others) others)) e ≡ told_items (items_at here (i ∷ is)) e
told_but true i is others true so same e = same e ∙ ap (λ (j : Item). told_items (j ∷ is) e) (sym (pads_is i so))
told_but false i is others true so same e = same e ∙ ap (λ (j : Item). told_items (items_at false (j ∷ is)) e) (sym (pads_is i so))
told_but true i is others false so same e = ap (λ (next : End → List Told). told_item i e ++ told_behind (take_item i e) next) (λ k x. same x k)
told_but false i is others false so same e = ap (λ (next : End → List Told). told_item (item_elsewhere i) e ++ told_behind (take_item (item_elsewhere i) e) next) (λ k x. same x k)

pub told_unpadded : (here : Bool) (is : List Item) (e : End) → told_items (items_at here (without_padding is)) e ≡ told_items (items_at here is) e
unfolding without_padding
told_unpadded here [] e = refl
told_unpadded here (i ∷ is) e = told_but here i is (without_padding is) (pads i) refl (λ x. told_unpadded here is x) e

asks_but : (i : Item) (is others : List Item) (b : Bool) → pads i ≡ b → asks_in others ≡ asks_in is → asks_in (cond (not b) (i ∷ others) others) ≡ asks_in (i ∷ is)
asks_but i is others true so same = same ∙ ap (λ (j : Item). asks_in (j ∷ is)) (sym (pads_is i so))
asks_but i is others false so same = ap (λ (b : Bool). item_asks i || b) same

pub asks_unpadded : (is : List Item) → asks_in (without_padding is) ≡ asks_in is
unfolding without_padding
asks_unpadded [] = refl
asks_unpadded (i ∷ is) = asks_but i is (without_padding is) (pads i) refl (asks_unpadded is)

answers_but : (here : Bool) (i : Item) (is others : List Item) (b : Bool) → pads i ≡ b → ((e : End) → items_answer (items_at here others) e ≡ items_answer (items_at here is) e) → (e : End) → items_answer (items_at here (cond (not b) (i ∷ others) others)) e ≡ items_answer (items_at here (i ∷ is)) e
answers_but true i is others true so same e = same e ∙ ap (λ (j : Item). items_answer (j ∷ is) e) (sym (pads_is i so))
answers_but false i is others true so same e = same e ∙ ap (λ (j : Item). items_answer (items_at false (j ∷ is)) e) (sym (pads_is i so))
answers_but true i is others false so same e = ap (λ (b : Bool). item_answers i e || b) (same (take_item i e).end)
answers_but false i is others false so same e = ap (λ (b : Bool). item_answers (item_elsewhere i) e || b) (same (take_item (item_elsewhere i) e).end)

answers_unpadded : (here : Bool) (is : List Item) (e : End) → items_answer (items_at here (without_padding is)) e ≡ items_answer (items_at here is) e
unfolding without_padding
answers_unpadded here [] e = refl
answers_unpadded here (i ∷ is) e = answers_but here i is (without_padding is) (pads i) refl (λ x. answers_unpadded here is x) e

pub urged_unpadded : (mark : Option EcnCodepoint) (here : Bool) (is : List Item) (e : End) → is_urged mark (asks_in (without_padding is)) (items_at here (without_padding is)) e ≡ is_urged mark (asks_in is) (items_at here is) e
urged_unpadded mark here is e =
    ap (λ (b : Bool). is_congested mark && (b || items_answer (items_at here (without_padding is)) e)) (asks_unpadded is)
    ∙ ap (λ (b : Bool). is_congested mark && (asks_in is || b)) (answers_unpadded here is e)

form_but : (i : Item) (others : List Item) (b : Bool) → ItemHasForm i → AllHaveForm others → AllHaveForm (cond b (i ∷ others) others)
form_but i others true first all = (first, all)
form_but i others false first all = all

pub form_unpadded : (is : List Item) → AllHaveForm is → AllHaveForm (without_padding is)
unfolding without_padding
form_unpadded [] all = all
form_unpadded (i ∷ is) all = form_but i (without_padding is) (not (pads i)) all.0 (form_unpadded is all.1)
